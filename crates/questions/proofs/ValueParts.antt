-- What the parts of a value's slot stand for, and the answers of its operations.
use Rattle.std.proofs.Common.{◌≡◌, ℕ, zero, suc, ◌+◌, ◌-◌, ◌<◌, ◌≤◌, Bool, ◌&&◌, ◌≢◌, List, [], ◌∷◌, ◌++◌, length, take, drop, Some, sym, ap, ◌∙◌, ap₂, arith, length-drop}
use Rattle.std.specs.List.{list_all}
use Rattle.std.proofs.Math.Bool.{and-true}
use Rattle.std.proofs.lemmas.List.{length-take-le}
use Rattle.std.proofs.lemmas.List.Folds.{list_all-append}
use Rattle.std.proofs.lemmas.Option.{none-some, same_Some}
use Rattle.hir.specs.declared.place.Place.{Place}
use Rattle.hir.specs.declared.range.Range.{Range}
use Rattle.hir.specs.declared.value.LogicalOperator.{LogicalOperator}
use Rattle.hir.specs.declared.value.InstructionValue.{InstructionValue}
use Rattle.hir.specs.declared.value.ReactiveValue.{ReactiveValue}
use Rattle.hir.specs.declared.value.ReactiveValue.TheVariants.{Instruction, LogicalExpression, ConditionalExpression, SequenceExpression, OptionalExpression}
use Rattle.hir.specs.Options.{bind, nth, part}
use Rattle.hir.specs.Decode.{ValueSlots, op_of, instrs_of, val_of, value_of}
use Rattle.hir.specs.Tree.{Op, Val, operation, logical, conditional, sequence, optional, Instrs}
use Rattle.questions.specs.declared.line.Bounds.{Bounds}
use Rattle.questions.specs.declared.operations.Own.{Own}
use Rattle.questions.specs.Questions.{place_in, op_in, writes_well, reads_well, shaped, val_ops}
use Rattle.questions.specs.Own.{own_of, both_own, Same}
use Rattle.questions.specs.Rows.{instrs_in}
use Rattle.questions.proofs.Slots.{bound, part_row, nth_within}

pub value_within : (d : ℕ) (a : ValueSlots) (k : ℕ) (v : Val) → value_of d a k ≡ Some v → k < length a.values
value_within zero a k v e = absurd (none-some v e)
value_within (suc d) a k v e =
    let b = bound (nth a.values k) (val_of a (value_of d a)) v e in
    nth_within a.values k b.0 b.1

-- the slot's content x, known as y, stands for the value
value_at : (d : ℕ) (a : ValueSlots) (k : ℕ) (v : Val) (x y : ReactiveValue) → value_of d a k ≡ Some v → nth a.values k ≡ Some x → x ≡ y → (d ≢ 0) × (val_of a (value_of (d - 1) a) y ≡ Some v)
value_at zero a k v x y e at is = absurd (none-some v e)
value_at (suc d) a k v x y e at is =
    let same : suc d - 1 ≡ d = omega arith in
    (omega arith, ap₂ (λ n z. val_of a (value_of n a) z) same (sym is) ∙ ap (λ o. bind o (val_of a (value_of d a))) (sym at) ∙ e)

module _ (d : ℕ) (a : ValueSlots) (k : ℕ) (v : Val) (x : ReactiveValue) (e : value_of d a k ≡ Some v) (at : nth a.values k ≡ Some x) where
  pub operation_parts : {i : InstructionValue} → x ≡ Instruction i → (o : Op) × (op_of a i ≡ Some o) × (operation o ≡ v)
  operation_parts {i} is = let b = bound (op_of a i) _ v (value_at d a k v x _ e at is).1 in (b.0, b.1, same_Some _ _ b.2)

  pub logical_parts : {o : LogicalOperator} {l r : ℕ} → x ≡ LogicalExpression o l r → (d ≢ 0) × (y : Val) × (z : Val) × (value_of (d - 1) a l ≡ Some y) × (value_of (d - 1) a r ≡ Some z) × (logical o y z ≡ v)
  logical_parts {o} {l} {r} is =
      let h = value_at d a k v x _ e at is in
      let b = bound (value_of (d - 1) a l) _ v h.1 in
      let c = bound (value_of (d - 1) a r) _ v b.2 in
      (h.0, b.0, c.0, b.1, c.1, same_Some _ _ c.2)

  pub conditional_parts : {t l r : ℕ} → x ≡ ConditionalExpression t l r → (d ≢ 0) × (w : Val) × (y : Val) × (z : Val) × (value_of (d - 1) a t ≡ Some w) × (value_of (d - 1) a l ≡ Some y) × (value_of (d - 1) a r ≡ Some z) × (conditional w y z ≡ v)
  conditional_parts {t} {l} {r} is =
      let h = value_at d a k v x _ e at is in
      let b = bound (value_of (d - 1) a t) _ v h.1 in
      let c = bound (value_of (d - 1) a l) _ v b.2 in
      let f = bound (value_of (d - 1) a r) _ v c.2 in
      (h.0, b.0, c.0, f.0, b.1, c.1, f.1, same_Some _ _ f.2)

  pub sequence_parts : {is : Range} {i m : ℕ} → x ≡ SequenceExpression is i m → (d ≢ 0) × (ys : Instrs) × (y : Val) × (instrs_in (d - 1) a is ≡ Some ys) × (value_of (d - 1) a m ≡ Some y) × (sequence ys i y ≡ v)
  sequence_parts {is} {i} {m} eq =
      let h = value_at d a k v x _ e at eq in
      let b = bound (part a.instructions is) _ v h.1 in
      let c = bound (instrs_of (value_of (d - 1) a) b.0) _ v b.2 in
      let f = bound (value_of (d - 1) a m) _ v c.2 in
      (h.0, c.0, f.0, ap (λ o. bind o (instrs_of (value_of (d - 1) a))) b.1 ∙ c.1, f.1, same_Some _ _ f.2)

  pub optional_parts : {m : ℕ} {o : Bool} → x ≡ OptionalExpression m o → (d ≢ 0) × (y : Val) × (value_of (d - 1) a m ≡ Some y) × (optional y o ≡ v)
  optional_parts {m} {o} is =
      let h = value_at d a k v x _ e at is in
      let b = bound (value_of (d - 1) a m) _ v h.1 in
      (h.0, b.0, b.1, same_Some _ _ b.2)

row_long : {X : Type 0} (xs : List X) (r : Range) → r.start + r.count ≤ length xs → r.count ≡ length (take r.count (drop r.start xs))
row_long xs r h = let l : r.count ≤ length (drop r.start xs) = simp length-drop (omega arith) in sym (length-take-le r.count (drop r.start xs) l)

pub op_own : (B : Bounds) (a : ValueSlots) (i : InstructionValue) (o : Op) {ps qs : List Place} {m n w r : Bool} → op_of a i ≡ Some o
    → ps ≡ take i.written.count (drop i.written.start a.places) → qs ≡ take i.operands.count (drop i.operands.start a.places)
    → m ≡ list_all (place_in B) ps → n ≡ list_all (place_in B) qs → w ≡ writes_well i.kind i.written.count → r ≡ reads_well i.kind i.operands.count
    → record { numbers = m && n; shapes = w && r } ≡ own_of B (o ∷ [])
op_own B a i o e ep eq em en ew er =
    let b = bound (part a.places i.written) _ o e in
    let c = bound (part a.places i.operands) _ o b.2 in
    let w = part_row a.places i.written b.0 b.1 in
    let r = part_row a.places i.operands c.0 c.1 in
    ap₂ (λ x y. record { numbers = x; shapes = y })
    (ap₂ ◌&&◌ (em ∙ ap (list_all (place_in B)) (ep ∙ w.1)) (en ∙ ap (list_all (place_in B)) (eq ∙ r.1)) ∙ sym (and-true _))
    (ap₂ ◌&&◌ (ew ∙ ap (writes_well i.kind) (row_long a.places i.written w.0 ∙ ap length w.1)) (er ∙ ap (reads_well i.kind) (row_long a.places i.operands r.0 ∙ ap length r.1)) ∙ sym (and-true _))
    ∙ ap (λ p. own_of B (p ∷ [])) (same_Some _ o c.2)

pub own_append : (B : Bounds) (xs ys : List Op) → both_own (own_of B xs) (own_of B ys) ≡ own_of B (xs ++ ys)
own_append B xs ys = ap₂ (λ p q. record { numbers = p; shapes = q }) (sym (list_all-append (op_in B) xs ys)) (sym (list_all-append shaped xs ys))

-- ---- the answers of a value's operations, by those of the values inside

abbrev OwnOf : Bounds → ValueSlots → ℕ → ℕ → Own → Type 0
OwnOf B a d k r = Same (value_of d a k) (λ v. own_of B (val_ops v)) r

module _ (B : Bounds) (d : ℕ) (a : ValueSlots) (k : ℕ) (x : ReactiveValue) (at : nth a.values k ≡ Some x) where
  pub operation_own : {i : InstructionValue} {r : Own} → x ≡ Instruction i → Same (op_of a i) (λ o. own_of B (o ∷ [])) r → OwnOf B a d k r
  operation_own is s = record { of = λ v e. let p = operation_parts d a k v x e at is in s.of p.0 p.1 ∙ ap (λ y. own_of B (val_ops y)) p.2 }

  pub logical_own : {o : LogicalOperator} {l r : ℕ} {s t u : Own} → x ≡ LogicalExpression o l r → OwnOf B a (d - 1) l s → OwnOf B a (d - 1) r t → u ≡ both_own s t → OwnOf B a d k u
  logical_own is s t u =
      record {
        of = λ v e.
            let p = logical_parts d a k v x e at is in
            u ∙ ap₂ both_own (s.of p.1 p.3) (t.of p.2 p.4) ∙ own_append B (val_ops p.1) (val_ops p.2) ∙ ap (λ y. own_of B (val_ops y)) p.5;
      }

  pub conditional_own : {t l r : ℕ} {o p q m n : Own} → x ≡ ConditionalExpression t l r → OwnOf B a (d - 1) t o → OwnOf B a (d - 1) l p → OwnOf B a (d - 1) r q → m ≡ both_own p q → n ≡ both_own o m → OwnOf B a d k n
  conditional_own is o p q m n =
      record {
        of = λ v e.
            let h = conditional_parts d a k v x e at is in
            n ∙ ap₂ both_own (o.of h.1 h.4) (m ∙ ap₂ both_own (p.of h.2 h.5) (q.of h.3 h.6) ∙ own_append B (val_ops h.2) (val_ops h.3))
            ∙ own_append B (val_ops h.1) (val_ops h.2 ++ val_ops h.3) ∙ ap (λ y. own_of B (val_ops y)) h.7;
      }

  pub sequence_own : {is : Range} {i m : ℕ} {r : Own} → x ≡ SequenceExpression is i m → OwnOf B a (d - 1) m r → OwnOf B a d k r
  sequence_own is s = record { of = λ v e. let p = sequence_parts d a k v x e at is in s.of p.2 p.4 ∙ ap (λ y. own_of B (val_ops y)) p.5 }

  pub optional_own : {m : ℕ} {o : Bool} {r : Own} → x ≡ OptionalExpression m o → OwnOf B a (d - 1) m r → OwnOf B a d k r
  optional_own is s = record { of = λ v e. let p = optional_parts d a k v x e at is in s.of p.1 p.2 ∙ ap (λ y. own_of B (val_ops y)) p.3 }
