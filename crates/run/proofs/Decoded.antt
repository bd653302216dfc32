-- The parts of what stands in a slot or a row.
-- Each form of slot has one lemma: what it stands for, and what its own slots stand for.
use Rattle.std.proofs.Common.{◌≡◌, ℕ, zero, suc, ◌+◌, ◌-◌, ◌<◌, ◌≤◌, Bool, List, [], ◌∷◌, length, drop, Some, Option, sym, ap, ◌∙◌, subst, arith}
use Rattle.hir.specs.declared.range.Range.{Range}
use Rattle.hir.specs.declared.value.InstructionValue.{InstructionValue}
use Rattle.hir.specs.declared.value.LogicalOperator.{LogicalOperator}
use Rattle.hir.specs.declared.value.ReactiveValue.{ReactiveValue}
use Rattle.hir.specs.declared.value.ReactiveValue.TheVariants as V
use Rattle.hir.specs.declared.value.ReactiveInstruction.{ReactiveInstruction}
use Rattle.hir.specs.declared.terminal.ReactiveSwitchCase.{ReactiveSwitchCase}
use Rattle.hir.specs.Options.{bind, nth, part}
use Rattle.hir.specs.Decode.{ValueSlots, Slots, op_of, instr_of, instrs_of, val_of, value_of, opt_block_of, cases_of, slot_of, body_of, block_of}
use Rattle.hir.specs.Tree.{Op, Val, operation, logical, conditional, sequence, optional, Instr, instr, Instrs, inil, icons, Stmt, Cases, knil, kcons, OptBlock, Block, nil, cons}
use Rattle.run.specs.Frames.{value_at, instrs_at, block_at, stmt_at, cases_at, behind}
use Rattle.run.proofs.Rows.{none_some, bound, some_is, nth_in, row_in, row_nil, row_cons, row_behind}

-- ---- values
module _ (a : ValueSlots) (d k : ℕ) (v : Val) (e : value_at d a k ≡ Some v) where
  pub value_in : k < length a.values
  unfolding value_at
  value_in = go d e
    where
      go : (d : ℕ) → value_of d a k ≡ Some v → k < length a.values
      go zero e = none_some v e
      go (suc d) e = let p = bound (nth a.values k) (val_of a (value_of d a)) v e in nth_in a.values k p.0 p.1

  pub value_deep : 0 < d
  unfolding value_at
  value_deep = go d e
    where
      go : (d : ℕ) → value_of d a k ≡ Some v → 0 < d
      go zero e = none_some v e
      go (suc d) e = omega arith

  value_open : (z : ReactiveValue) → nth a.values k ≡ Some z → (0 < d) × (val_of a (value_of (d - 1) a) z ≡ Some v)
  unfolding value_at
  value_open z at = go d e
    where
      go : (d : ℕ) → value_of d a k ≡ Some v → (0 < d) × (val_of a (value_of (d - 1) a) z ≡ Some v)
      go zero e = none_some v e
      go (suc d) e =
          let s : d ≡ suc d - 1 = omega arith in
          (omega arith, subst (λ (n : ℕ). val_of a (value_of n a) z ≡ Some v) s (sym (ap (λ (o : Option ReactiveValue). bind o (val_of a (value_of d a))) at) ∙ e))

  pub operation_parts : (i : InstructionValue) → nth a.values k ≡ Some (V.Instruction i) → (o : Op) × (v ≡ operation o) × (op_of a i ≡ Some o)
  operation_parts i at =
      let p = bound (op_of a i) _ v (value_open _ at).1 in
      (p.0, sym (some_is p.2), p.1)

  pub logical_parts : (o : LogicalOperator) (l r : ℕ) → nth a.values k ≡ Some (V.LogicalExpression o l r)
      → (x : Val) × (y : Val) × (v ≡ logical o x y) × (value_at (d - 1) a l ≡ Some x) × (value_at (d - 1) a r ≡ Some y) × (0 < d)
  unfolding value_at
  logical_parts o l r at =
      let q = value_open _ at in
      let p = bound (value_of (d - 1) a l) _ v q.1 in
      let s = bound (value_of (d - 1) a r) _ v p.2 in
      (p.0, s.0, sym (some_is s.2), p.1, s.1, q.0)

  pub conditional_parts : (t l r : ℕ) → nth a.values k ≡ Some (V.ConditionalExpression t l r)
      → (x : Val) × (y : Val) × (z : Val) × (v ≡ conditional x y z) × (value_at (d - 1) a t ≡ Some x) × (value_at (d - 1) a l ≡ Some y) × (value_at (d - 1) a r ≡ Some z) × (0 < d)
  unfolding value_at
  conditional_parts t l r at =
      let q = value_open _ at in
      let p = bound (value_of (d - 1) a t) _ v q.1 in
      let s = bound (value_of (d - 1) a l) _ v p.2 in
      let u = bound (value_of (d - 1) a r) _ v s.2 in
      (p.0, s.0, u.0, sym (some_is u.2), p.1, s.1, u.1, q.0)

  pub sequence_parts : (r : Range) (i w : ℕ) → nth a.values k ≡ Some (V.SequenceExpression r i w)
      → (is : Instrs) × (x : Val) × (v ≡ sequence is i x) × (instrs_at (d - 1) a r ≡ Some is) × (value_at (d - 1) a w ≡ Some x) × (0 < d)
  unfolding value_at instrs_at
  sequence_parts r i w at =
      let q = value_open _ at in
      let p = bound (part a.instructions r) _ v q.1 in
      let s = bound (instrs_of (value_of (d - 1) a) p.0) _ v p.2 in
      let u = bound (value_of (d - 1) a w) _ v s.2 in
      (s.0, u.0, sym (some_is u.2), ap (λ (o : Option (List ReactiveInstruction)). bind o (instrs_of (value_of (d - 1) a))) p.1 ∙ s.1, u.1, q.0)

  pub optional_parts : (w : ℕ) (o : Bool) → nth a.values k ≡ Some (V.OptionalExpression w o) → (x : Val) × (v ≡ optional x o) × (value_at (d - 1) a w ≡ Some x) × (0 < d)
  unfolding value_at
  optional_parts w o at =
      let q = value_open _ at in
      let p = bound (value_of (d - 1) a w) _ v q.1 in
      (p.0, sym (some_is p.2), p.1, q.0)

-- ---- the instructions of a sequence
module _ (a : ValueSlots) (d : ℕ) (r : Range) (is : Instrs) (e : instrs_at d a r ≡ Some is) where
  pub instrs_in : r.start + r.count ≤ length a.instructions
  unfolding instrs_at
  instrs_in = let p = bound (part a.instructions r) _ is e in (row_in a.instructions p.0 r p.1).0

  pub instrs_end : r.count ≡ 0 → is ≡ inil
  unfolding instrs_at
  instrs_end z =
      let p = bound (part a.instructions r) _ is e in
      sym (some_is (sym (ap (instrs_of (value_of d a)) (row_nil a.instructions p.0 r p.1 z)) ∙ p.2))

  pub instrs_first : (i : ReactiveInstruction) → 0 < r.count → nth a.instructions r.start ≡ Some i
      → (v : Val) × (rest : Instrs) × (is ≡ icons (instr i.id i.lvalue v i.span) rest) × (value_at d a i.value ≡ Some v) × (instrs_at d a (behind r 1) ≡ Some rest)
  unfolding instrs_at value_at
  instrs_first i h at =
      let p = bound (part a.instructions r) _ is e in
      let q = row_cons a.instructions p.0 r i p.1 h at in
      let s = sym (ap (instrs_of (value_of d a)) q.1) ∙ p.2 in
      let t = bound (instr_of (value_of d a) i) _ is s in
      let u = bound (instrs_of (value_of d a) q.0) _ is t.2 in
      let w = bound (value_of d a i.value) _ t.0 t.1 in (
        w.0,
        u.0,
        sym (some_is u.2) ∙ ap (λ (x : Instr). icons x u.0) (sym (some_is w.2)),
        w.1,
        ap (λ (o : Option (List ReactiveInstruction)). bind o (instrs_of (value_of d a))) q.2 ∙ u.1,
      )

-- ---- blocks
module _ (a : Slots) (d : ℕ) (r : Range) (b : Block) (e : block_at d a r ≡ Some b) where
  block_open : (0 < d) × (bind (part a.entries r) (body_of (slot_of a (block_of (d - 1) a))) ≡ Some b)
  unfolding block_at
  block_open = go d e
    where
      go : (d : ℕ) → block_of d a r ≡ Some b → (0 < d) × (bind (part a.entries r) (body_of (slot_of a (block_of (d - 1) a))) ≡ Some b)
      go zero e = none_some b e
      go (suc d) e =
          let s : d ≡ suc d - 1 = omega arith in
          (omega arith, subst (λ (n : ℕ). bind (part a.entries r) (body_of (slot_of a (block_of n a))) ≡ Some b) s e)

  pub block_deep : 0 < d
  block_deep = block_open.0

  pub block_in : r.start + r.count ≤ length a.entries
  block_in = let p = bound (part a.entries r) _ b block_open.1 in (row_in a.entries p.0 r p.1).0

  pub block_end : r.count ≡ 0 → b ≡ nil
  block_end z =
      let p = bound (part a.entries r) _ b block_open.1 in
      sym (some_is (sym (ap (body_of (slot_of a (block_of (d - 1) a))) (row_nil a.entries p.0 r p.1 z)) ∙ p.2))

  pub block_first_lem : (k : ℕ) → 0 < r.count → nth a.entries r.start ≡ Some k
      → (x : Stmt) × (rest : Block) × (b ≡ cons x rest) × (stmt_at (d - 1) a k ≡ Some x) × (block_at d a (behind r 1) ≡ Some rest) × (0 < d)
  unfolding block_at stmt_at
  block_first_lem k h at =
      let o = block_open in
      let n : d ≡ suc (d - 1) = let p = o.0 in omega arith in
      let p = bound (part a.entries r) _ b o.1 in
      let q = row_cons a.entries p.0 r k p.1 h at in
      let s = sym (ap (body_of (slot_of a (block_of (d - 1) a))) q.1) ∙ p.2 in
      let t = bound (slot_of a (block_of (d - 1) a) k) _ b s in
      let u = bound (body_of (slot_of a (block_of (d - 1) a)) q.0) _ b t.2 in (
        t.0,
        u.0,
        sym (some_is u.2),
        t.1,
        ap (λ (n : ℕ). block_of n a (behind r 1)) n ∙ ap (λ (o : Option (List ℕ)). bind o (body_of (slot_of a (block_of (d - 1) a)))) q.2 ∙ u.1,
        o.0,
      )

-- ---- the cases of a switch
abbrev pub drop_k : ℕ → Cases → Cases
drop_k zero cs = cs
drop_k (suc n) knil = knil
drop_k (suc n) (kcons t b cs) = drop_k n cs

cases_drop : (f : Range → Option Block) (n : ℕ) (ys : List ReactiveSwitchCase) (cs : Cases) → cases_of f ys ≡ Some cs → cases_of f (drop n ys) ≡ Some (drop_k n cs)
cases_drop f zero ys cs e = e
cases_drop f (suc n) [] cs e = e ∙ ap (λ (c : Cases). Some c) (sym (some_is e) ∙ ap (drop_k (suc n)) (some_is e))
cases_drop f (suc n) (y ∷ ys) cs e =
    let p = bound (opt_block_of f y.block) _ cs e in
    let q = bound (cases_of f ys) _ cs p.2 in
    cases_drop f n ys q.0 q.1 ∙ ap (λ (c : Cases). Some (drop_k (suc n) c)) (some_is q.2)

module _ (a : Slots) (d : ℕ) (r : Range) (cs : Cases) (e : cases_at d a r ≡ Some cs) where
  pub cases_in : r.start + r.count ≤ length a.cases
  unfolding cases_at
  cases_in = let p = bound (part a.cases r) _ cs e in (row_in a.cases p.0 r p.1).0

  pub cases_end : r.count ≡ 0 → cs ≡ knil
  unfolding cases_at
  cases_end z =
      let p = bound (part a.cases r) _ cs e in
      sym (some_is (sym (ap (cases_of (block_of d a)) (row_nil a.cases p.0 r p.1 z)) ∙ p.2))

  pub cases_first : (c : ReactiveSwitchCase) → 0 < r.count → nth a.cases r.start ≡ Some c
      → (b : OptBlock) × (rest : Cases) × (cs ≡ kcons c.test b rest) × (opt_block_of (block_at d a) c.block ≡ Some b) × (cases_at d a (behind r 1) ≡ Some rest)
  unfolding cases_at block_at
  cases_first c h at =
      let p = bound (part a.cases r) _ cs e in
      let q = row_cons a.cases p.0 r c p.1 h at in
      let s = sym (ap (cases_of (block_of d a)) q.1) ∙ p.2 in
      let t = bound (opt_block_of (block_of d a) c.block) _ cs s in
      let u = bound (cases_of (block_of d a) q.0) _ cs t.2 in
      (t.0, u.0, sym (some_is u.2), t.1, ap (λ (o : Option (List ReactiveSwitchCase)). bind o (cases_of (block_of d a))) q.2 ∙ u.1)

  pub cases_behind : (n : ℕ) → n ≤ r.count → cases_at d a (behind r n) ≡ Some (drop_k n cs)
  unfolding cases_at
  cases_behind n h =
      let p = bound (part a.cases r) _ cs e in
      ap (λ (o : Option (List ReactiveSwitchCase)). bind o (cases_of (block_of d a))) (row_behind a.cases p.0 r n p.1 h) ∙ cases_drop (block_of d a) n p.0 cs p.2
