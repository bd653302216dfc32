-- What the parts of a decoded slot stand for, by the kinds of values, statements and terminals. Assumes nothing.
use Rattle.std.proofs.Common.{◌≡◌, ℕ, zero, suc, ◌+◌, ◌-◌, ◌<◌, ◌≤◌, ◌≢◌, List, [], ◌∷◌, length, get_or, take, drop, Some, Option, sym, ap, ◌∙◌, arith}
use Rattle.hir.specs.declared.place.Place.{Place}
use Rattle.hir.specs.declared.range.Range.{Range}
use Rattle.hir.specs.declared.value.ReactiveValue.{ReactiveValue}
use Rattle.hir.specs.declared.value.ReactiveValue.TheVariants.{SequenceExpression}
use Rattle.hir.specs.declared.value.ReactiveInstruction.{ReactiveInstruction}
use Rattle.hir.specs.declared.terminal.ReactiveTerminal.TheVariants.{Switch}
use Rattle.hir.specs.declared.terminal.ReactiveSwitchCase.{ReactiveSwitchCase}
use Rattle.hir.specs.Options.{nth, part}
use Rattle.hir.specs.Decode.{ValueSlots, Slots, instr_of, instrs_of, val_of, value_of, opt_block_of, cases_of, term_of, body_of, slot_of, block_of}
use Rattle.hir.specs.Encode.{instr_count, case_count, stmt_count}
use Rattle.hir.specs.Tree.{Val, sequence, Instrs, Stmt, Term, switch, Cases, Block}
use Rattle.hir.proofs.Bound.{none_some, some_some, bound, nth_within, nth_read, part_parts}

-- ---- values
module _ (a : ValueSlots) (val : ℕ → Option Val) where
  pub instr_counted : (l : List ReactiveInstruction) (is : Instrs) → instrs_of val l ≡ Some is → instr_count is ≡ length l
  instr_counted [] is e = ap instr_count (sym (some_some e))
  instr_counted (i ∷ l) is e =
      let p = bound (instr_of val i) _ is e in
      let q = bound (instrs_of val l) _ is p.2 in
      ap instr_count (sym (some_some q.2)) ∙ ap suc (instr_counted l q.0 q.1)

  pub record SequenceParts (r : Range) (i v : ℕ) (x : Val) : Type 0 where
    pub instructions : Instrs
    pub value : Val
    pub inside : r.start + r.count ≤ length a.instructions
    pub instructions_are : instrs_of val (take r.count (drop r.start a.instructions)) ≡ Some instructions
    pub count_is : instr_count instructions ≡ r.count
    pub value_is : val v ≡ Some value
    pub is : sequence instructions i value ≡ x

  pub sequence_parts : (r : Range) (i v : ℕ) (x : Val) → val_of a val (SequenceExpression r i v) ≡ Some x → SequenceParts r i v x
  sequence_parts r i v x e =
      let p = bound (part a.instructions r) _ x e in
      let h = part_parts a.instructions r p.0 p.1 in
      let q = bound (instrs_of val p.0) _ x p.2 in
      let s = bound (val v) _ x q.2 in
      record {
        instructions = q.0;
        value = s.0;
        inside = h.inside;
        instructions_are = ap (instrs_of val) h.is ∙ q.1;
        count_is = instr_counted p.0 q.0 q.1 ∙ h.long;
        value_is = s.1;
        is = some_some s.2;
      }

pub record ValueParts (d : ℕ) (a : ValueSlots) (k : ℕ) (x : Val) : Type 0 where
  pub deep : d ≢ 0
  pub inside : k < length a.values
  pub slot : (n : ReactiveValue) → n ≡ get_or a.values k n → val_of a (value_of (d - 1) a) n ≡ Some x

pub value_parts : (d : ℕ) (a : ValueSlots) (k : ℕ) (x : Val) → value_of d a k ≡ Some x → ValueParts d a k x
value_parts zero a k x e = absurd (none_some e)
value_parts (suc d) a k x e =
    let p = bound (nth a.values k) _ x e in
    let same : suc d - 1 ≡ d = omega arith in
    record {
      deep = omega arith;
      inside = nth_within a.values k p.0 p.1;
      slot = λ n h. ap (λ m. val_of a (value_of m a) n) same ∙ ap (val_of a (value_of d a)) (nth_read a.values k p.0 n p.1 h) ∙ p.2;
    }

-- ---- statements
module _ (a : Slots) (val : ℕ → Option Val) (block : Range → Option Block) where
  pub case_counted : (l : List ReactiveSwitchCase) (ks : Cases) → cases_of block l ≡ Some ks → case_count ks ≡ length l
  case_counted [] ks e = ap case_count (sym (some_some e))
  case_counted (c ∷ l) ks e =
      let p = bound (opt_block_of block c.block) _ ks e in
      let q = bound (cases_of block l) _ ks p.2 in
      ap case_count (sym (some_some q.2)) ∙ ap suc (case_counted l q.0 q.1)

  pub record SwitchParts (t : Place) (r : Range) (i : ℕ) (x : Term) : Type 0 where
    pub cases : Cases
    pub inside : r.start + r.count ≤ length a.cases
    pub cases_are : cases_of block (take r.count (drop r.start a.cases)) ≡ Some cases
    pub count_is : case_count cases ≡ r.count
    pub is : switch t cases i ≡ x

  pub switch_parts : (t : Place) (r : Range) (i : ℕ) (x : Term) → term_of a val block (Switch t r i) ≡ Some x → SwitchParts t r i x
  switch_parts t r i x e =
      let p = bound (part a.cases r) _ x e in
      let h = part_parts a.cases r p.0 p.1 in
      let q = bound (cases_of block p.0) _ x p.2 in
      record { cases = q.0; inside = h.inside; cases_are = ap (cases_of block) h.is ∙ q.1; count_is = case_counted p.0 q.0 q.1 ∙ h.long; is = some_some q.2 }

-- ---- blocks
module _ (slot : ℕ → Option Stmt) where
  pub stmt_counted : (ks : List ℕ) (t : Block) → body_of slot ks ≡ Some t → stmt_count t ≡ length ks
  stmt_counted [] t e = ap stmt_count (sym (some_some e))
  stmt_counted (k ∷ ks) t e =
      let p = bound (slot k) _ t e in
      let q = bound (body_of slot ks) _ t p.2 in
      ap stmt_count (sym (some_some q.2)) ∙ ap suc (stmt_counted ks q.0 q.1)

pub record BlockParts (d : ℕ) (a : Slots) (r : Range) (x : Block) : Type 0 where
  pub deep : d ≢ 0
  pub inside : r.start + r.count ≤ length a.entries
  pub body : body_of (slot_of a (block_of (d - 1) a)) (take r.count (drop r.start a.entries)) ≡ Some x
  pub count_is : stmt_count x ≡ r.count

pub block_parts : (d : ℕ) (a : Slots) (r : Range) (x : Block) → block_of d a r ≡ Some x → BlockParts d a r x
block_parts zero a r x e = absurd (none_some e)
block_parts (suc d) a r x e =
    let p = bound (part a.entries r) _ x e in
    let h = part_parts a.entries r p.0 p.1 in
    let same : suc d - 1 ≡ d = omega arith in
    record {
      deep = omega arith;
      inside = h.inside;
      body = ap (λ m. body_of (slot_of a (block_of m a)) (take r.count (drop r.start a.entries))) same ∙ ap (body_of (slot_of a (block_of d a))) h.is ∙ p.2;
      count_is = stmt_counted (slot_of a (block_of d a)) p.0 x p.2 ∙ h.long;
    }
