-- What stands in a slot and in a row, once it has been read. Assumes nothing.
use Rattle.std.proofs.Common.{◌≡◌, ℕ, ◌-◌, ◌<◌, ◌≢◌, ◌∷◌, ◌++◌, List, length, get_or, take, drop, Some, None, Option, sym, refl, ap, ◌∙◌, subst, ap₂}
use Rattle.std.specs.Prelude.{IsSome}
use Rattle.hir.specs.declared.place.Place.{Place}
use Rattle.hir.specs.declared.range.Range.{Range}
use Rattle.hir.specs.declared.statement.ReactiveStatement.{ReactiveStatement}
use Rattle.hir.specs.declared.terminal.ReactiveSwitchCase.{ReactiveSwitchCase}
use Rattle.hir.specs.declared.terminal.ReactiveTerminal.{ReactiveTerminal}
use Rattle.hir.specs.declared.terminal.ReactiveTerminal.TheVariants.{Switch}
use Rattle.hir.specs.declared.value.ReactiveInstruction.{ReactiveInstruction}
use Rattle.hir.specs.declared.value.ReactiveValue.{ReactiveValue}
use Rattle.hir.specs.declared.value.ReactiveValue.TheVariants.{SequenceExpression}
use Rattle.hir.specs.Decode.{ValueSlots, Slots, instrs_of, val_of, value_of, top_value, cases_of, term_of, stmt_of, slot_of, body_of, block_of}
use Rattle.hir.specs.Encode.{val_words, instrs_words, word, place_words, cases_words, term_words, body_words, block_words}
use Rattle.hir.specs.Options.{bind, nth}
use Rattle.hir.specs.Tree.{Val, Block}
use Rattle.hir.proofs.Bound.{bound, nth_within}
use Rattle.hir.proofs.Parts.{value_parts, sequence_parts, switch_parts, block_parts}
use Rattle.write.specs.Puts.{words_in}

some_of : {X : Type 0} (x : Option X) → IsSome x → (y : X) × (x ≡ Some y)
some_of None h = absurd (cc)
some_of (Some y) h = (y, refl)

pub value_node : (d : ℕ) (a : ValueSlots) (k : ℕ) (n : ReactiveValue) → IsSome (value_of d a k) → n ≡ get_or a.values k n → val_of a (value_of (d - 1) a) n ≡ value_of d a k
value_node d a k n h e = let s = some_of (value_of d a k) h in (value_parts d a k s.0 s.1).slot n e ∙ sym s.1

-- a sequence tells the count of its instructions
pub sequence_is : (a : ValueSlots) (val : ℕ → Option Val) {x : ReactiveValue} {r : Range} {i v : ℕ} {is : List ReactiveInstruction} → is ≡ take r.count (drop r.start a.instructions) → x ≡ SequenceExpression r i v → IsSome (val_of a val x)
    → 3 ∷ r.count ∷ (words_in instrs_words (instrs_of val is) ++ i ∷ words_in val_words (val v)) ≡ words_in val_words (val_of a val x)
sequence_is a val {x} {r} {i} {v} {is} read e h =
    let s = some_of (val_of a val (SequenceExpression r i v)) (subst (λ y. IsSome (val_of a val y)) e h) in
    let p = sequence_parts a val r i v s.0 s.1 in
    ap₂ (λ l w. 3 ∷ r.count ∷ (l ++ i ∷ w)) (ap (words_in instrs_words) (ap (instrs_of val) read ∙ p.instructions_are)) (ap (words_in val_words) p.value_is)
    ∙ ap (λ n. 3 ∷ n ∷ (instrs_words p.instructions ++ i ∷ val_words p.value)) (sym p.count_is)
    ∙ ap val_words p.is
    ∙ sym (ap (words_in val_words) (ap (val_of a val) e ∙ s.1))

-- so does a switch of its cases
pub switch_is : (a : Slots) (val : ℕ → Option Val) (block : Range → Option Block) {x : ReactiveTerminal} {t : Place} {r : Range} {i : ℕ} {cs : List ReactiveSwitchCase}
    → cs ≡ take r.count (drop r.start a.cases) → x ≡ Switch t r i → IsSome (term_of a val block x)
    → 4 ∷ (place_words t ++ r.count ∷ (words_in cases_words (cases_of block cs) ++ word i)) ≡ words_in term_words (term_of a val block x)
switch_is a val block {x} {t} {r} {i} {cs} read e h =
    let s = some_of (term_of a val block (Switch t r i)) (subst (λ y. IsSome (term_of a val block y)) e h) in
    let p = switch_parts a val block t r i s.0 s.1 in
    ap (λ l. 4 ∷ (place_words t ++ r.count ∷ (l ++ word i))) (ap (words_in cases_words) (ap (cases_of block) read ∙ p.cases_are))
    ∙ ap (λ n. 4 ∷ (place_words t ++ n ∷ (cases_words p.cases ++ word i))) (sym p.count_is)
    ∙ ap term_words p.is
    ∙ sym (ap (words_in term_words) (ap (term_of a val block) e ∙ s.1))

-- ---- a statement in its slot
pub slot_within : (a : Slots) (block : Range → Option Block) (k : ℕ) → IsSome (slot_of a block k) → k < length a.statements
slot_within a block k h =
    let s = some_of (slot_of a block k) h in
    let n = bound (nth a.statements k) _ s.0 s.1 in
    nth_within a.statements k n.0 n.1

pub slot_node : (a : Slots) (block : Range → Option Block) (k : ℕ) {n : ReactiveStatement} → nth a.statements k ≡ Some n → stmt_of a (top_value a.inner) block n ≡ slot_of a block k
slot_node a block k e = ap (λ o. bind o (stmt_of a (top_value a.inner) block)) (sym e)

-- ---- the statements of a block, one less deep
pub block_deep : (d : ℕ) (a : Slots) (r : Range) → IsSome (block_of d a r) → d ≢ 0
block_deep d a r h = let s = some_of (block_of d a r) h in (block_parts d a r s.0 s.1).deep

pub record BlockRow (d : ℕ) (a : Slots) (r : Range) (es : List ℕ) : Type 0 where
  pub stands : IsSome (body_of (slot_of a (block_of (d - 1) a)) es)
  pub is : r.count ∷ words_in body_words (body_of (slot_of a (block_of (d - 1) a)) es) ≡ words_in block_words (block_of d a r)

pub block_row : (d : ℕ) (a : Slots) (r : Range) {es : List ℕ} → es ≡ take r.count (drop r.start a.entries) → IsSome (block_of d a r) → BlockRow d a r es
block_row d a r {es} read h =
    let s = some_of (block_of d a r) h in
    let p = block_parts d a r s.0 s.1 in
    let b = ap (body_of (slot_of a (block_of (d - 1) a))) read ∙ p.body in
    record {
      stands = subst (λ o. IsSome o) (sym b) refl;
      is = ap (λ l. r.count ∷ words_in body_words l) b ∙ ap (λ n. n ∷ body_words s.0) (sym p.count_is) ∙ sym (ap (words_in block_words) s.1);
    }
