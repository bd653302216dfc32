-- A terminal by its parts: they decode where it does, and its answers and lines are theirs, one part after another.
use Rattle.std.proofs.Common.{◌≡◌, ℕ, true, cond, ◌&&◌, List, [], ◌∷◌, ◌++◌, length, take, drop, Some, None, Option, sym, refl, ap, ◌∙◌, subst, ap₂, append_assoc, append-nil}
use Rattle.std.proofs.lemmas.Option.{same_Some}
use Rattle.std.proofs.Math.Bool.{and-true}
use lib.Dec.{leb-zero}
use Rattle.hir.specs.declared.place.Place.{Place}
use Rattle.hir.specs.declared.range.Range.{Range}
use Rattle.hir.specs.declared.terminal.ReactiveLabel.{ReactiveLabel}
use Rattle.hir.specs.declared.terminal.ReactiveSwitchCase.{ReactiveSwitchCase}
use Rattle.hir.specs.declared.terminal.ReactiveTerminal.{ReactiveTerminal}
use Rattle.hir.specs.declared.terminal.ReactiveTerminal.TheVariants as R
use Rattle.hir.specs.Options.{bind, part}
use Rattle.hir.specs.Decode.{Slots, top_value, opt_value_of, opt_block_of, cases_of, term_of}
use Rattle.hir.specs.Tree.{Val, no_val, some_val, Term, switch, Cases, knil, no_block, some_block, Block}
use Rattle.semantics.specs.Targets.{Around, mark, mark_inside, labelled, in_loop}
use Rattle.questions.specs.declared.around.Jump.{Jump}
use Rattle.questions.specs.declared.around.Jump.TheVariants.{Break, Continue}
use Rattle.questions.specs.declared.line.Bounds.{Bounds}
use Rattle.questions.specs.declared.parts.Parts.{Parts}
use Rattle.questions.specs.Around.{inside_of, opt_jump_aims, opt_jump_in}
use Rattle.questions.specs.Own.{Decodes}
use Rattle.questions.specs.Parts.{bare, holding, looping, parts_of, ValuesIn, values_ops, values_lines, row_cases, tests_well, parts_in}
use Rattle.questions.specs.Questions.{opt_place_in, tests_in, term_in, term_ops, term_aims, term_lines, val_ops, opt_val_ops, val_lines, opt_val_lines, block_lines, opt_block_lines, cases_lines}
use Rattle.questions.proofs.Slots.{bound, part_row}

pub record TermParts (a : Slots) (block : Range → Option Block) (p : Parts) (x : Term) : Type 0 where
  pub values : ValuesIn a.inner p
  pub leading : Decodes (opt_block_of block p.leading)
  pub first : Decodes (opt_block_of block p.block)
  pub other : Decodes (opt_block_of block p.other)
  pub cases : Decodes (bind (part a.cases p.cases) (cases_of block))
  pub numbers : (B : Bounds) → term_in B x ≡ parts_in B p (row_cases a p)
  pub ops : term_ops x ≡ values_ops values
  pub aims : (s : Around) → term_aims x s ≡ opt_jump_aims p.jump s
  pub lines : (B : Bounds) (m : Option ReactiveLabel) (s : Around) → term_lines B x (mark m) (labelled (mark_inside x m) s)
      ≡ opt_block_lines B leading.what (inside_of p.inside (mark m) s) ++ (values_lines B values ++ (opt_block_lines B first.what (inside_of p.inside (mark m) s)
      ++ (opt_block_lines B other.what (inside_of p.inside (mark m) s) ++ cases_lines B cases.what (inside_of p.inside (mark m) s))))

tests_row : (B : Bounds) (block : Range → Option Block) (l : List ReactiveSwitchCase) (cs : Cases) → cases_of block l ≡ Some cs → tests_in B cs ≡ tests_well B l
tests_row B block [] cs e = ap (tests_in B) (sym (same_Some _ _ e))
tests_row B block (c ∷ l) cs e =
    let b = bound (opt_block_of block c.block) _ cs e in
    let k = bound (cases_of block l) _ cs b.2 in
    ap (tests_in B) (sym (same_Some _ _ k.2)) ∙ ap (λ t. opt_place_in B c.test && t) (tests_row B block l k.0 k.1)

-- the lists of a terminal's parts, with the missing ones
two_last : {X : Type 0} (b c : List X) → b ++ c ≡ b ++ (c ++ [])
two_last b c = ap (λ l. b ++ l) (sym (append-nil c))

after_block : {X : Type 0} (b v : List X) → b ++ v ≡ b ++ ((v ++ []) ++ [])
after_block b v = two_last b v ∙ two_last b (v ++ [])

before_block : {X : Type 0} (v b : List X) → v ++ b ≡ (v ++ []) ++ (b ++ [])
before_block v b = ap₂ ◌++◌ (sym (append-nil v)) (sym (append-nil b))

three_values : {X : Type 0} (n v u b : List X) → n ++ (v ++ (u ++ b)) ≡ (n ++ (v ++ u)) ++ (b ++ [])
three_values n v u b = ap (λ l. n ++ l) (sym (append_assoc v u b)) ∙ sym (append_assoc n (v ++ u) b) ∙ two_last (n ++ (v ++ u)) b

two_values : {X : Type 0} (n v b : List X) → n ++ (v ++ b) ≡ (n ++ (v ++ [])) ++ (b ++ [])
two_values n v b = three_values n v [] b

module _ (a : Slots) (block : Range → Option Block) where
  abbrev no_val_lem : Decodes (opt_value_of (top_value a.inner) None)
  no_val_lem = record { what = no_val; is = refl }

  abbrev a_val : (k : ℕ) (v : Val) → top_value a.inner k ≡ Some v → Decodes (opt_value_of (top_value a.inner) (Some k))
  a_val k v e = record { what = some_val v; is = ap (λ o. bind o (λ w. Some (some_val w))) e }

  abbrev no_block_lem : Decodes (opt_block_of block None)
  no_block_lem = record { what = no_block; is = refl }

  abbrev a_block : (r : Range) (b : Block) → block r ≡ Some b → Decodes (opt_block_of block (Some r))
  a_block r b e = record { what = some_block b; is = ap (λ o. bind o (λ w. Some (some_block w))) e }

  abbrev no_cases : Decodes (bind (part a.cases (record { start = 0; count = 0 })) (cases_of block))
  no_cases = record { what = knil; is = ap (λ t. bind (cond t (Some (take 0 (drop 0 a.cases))) None) (cases_of block)) (leb-zero (length a.cases)) }

  -- without values and blocks
  bare_parts : (p : Option Place) (j : Option Jump) (x : Term) → ((B : Bounds) → term_in B x ≡ (opt_place_in B p && (opt_jump_in B j && true))) → ((s : Around) → term_aims x s ≡ opt_jump_aims j s) → term_ops x ≡ []
      → ((B : Bounds) (m : Option ReactiveLabel) (s : Around) → term_lines B x (mark m) (labelled (mark_inside x m) s) ≡ []) → TermParts a block (bare p j) x
  bare_parts p j x numbers aims ops lines =
      record {
        values = record { init = no_val_lem; test = no_val_lem; update = no_val_lem };
        leading = no_block_lem;
        first = no_block_lem;
        other = no_block_lem;
        cases = no_cases;
        numbers = numbers;
        ops = ops;
        aims = aims;
        lines = lines;
      }

  -- with blocks that are no loop's
  holding_parts : (p : Option Place) {b c : Option Range} (first : Decodes (opt_block_of block b)) (other : Decodes (opt_block_of block c)) (x : Term) → ((B : Bounds) → term_in B x ≡ (opt_place_in B p && true)) → ((s : Around) → term_aims x s ≡ true) → term_ops x ≡ []
      → ((B : Bounds) (m : Option ReactiveLabel) (s : Around) → term_lines B x (mark m) (labelled (mark_inside x m) s) ≡ opt_block_lines B first.what (labelled (mark m) s) ++ (opt_block_lines B other.what (labelled (mark m) s) ++ [])) → TermParts a block (holding p b c) x
  holding_parts p first other x numbers aims ops lines =
      record {
        values = record { init = no_val_lem; test = no_val_lem; update = no_val_lem };
        leading = no_block_lem;
        first = first;
        other = other;
        cases = no_cases;
        numbers = numbers;
        ops = ops;
        aims = aims;
        lines = lines;
      }

  looping_parts : {l b : Option Range} {i t u : Option ℕ} (leading : Decodes (opt_block_of block l)) (init : Decodes (opt_value_of (top_value a.inner) i)) (test : Decodes (opt_value_of (top_value a.inner) t)) (update : Decodes (opt_value_of (top_value a.inner) u)) (first : Decodes (opt_block_of block b)) (x : Term)
      → ((B : Bounds) → term_in B x ≡ true) → ((s : Around) → term_aims x s ≡ true) → term_ops x ≡ (opt_val_ops init.what ++ (opt_val_ops test.what ++ opt_val_ops update.what))
      → ((B : Bounds) (m : Option ReactiveLabel) (s : Around) → term_lines B x (mark m) (labelled (mark_inside x m) s)
      ≡ opt_block_lines B leading.what (in_loop (mark m) (labelled (mark m) s)) ++ ((opt_val_lines B init.what ++ (opt_val_lines B test.what ++ opt_val_lines B update.what)) ++ (opt_block_lines B first.what (in_loop (mark m) (labelled (mark m) s)) ++ [])))
      → TermParts a block (looping l i t u b) x
  looping_parts leading init test update first x numbers aims ops lines =
      record {
        values = record { init = init; test = test; update = update };
        leading = leading;
        first = first;
        other = no_block_lem;
        cases = no_cases;
        numbers = numbers;
        ops = ops;
        aims = aims;
        lines = lines;
      }

  switch_parts : (p : Place) (r : Range) (i : ℕ) (l : List ReactiveSwitchCase) (cs : Cases) → part a.cases r ≡ Some l → cases_of block l ≡ Some cs → TermParts a block (parts_of (R.Switch p r i)) (switch p cs i)
  switch_parts p r i l cs el e =
      record {
        values = record { init = no_val_lem; test = no_val_lem; update = no_val_lem };
        leading = no_block_lem;
        first = no_block_lem;
        other = no_block_lem;
        cases = record { what = cs; is = ap (λ o. bind o (cases_of block)) el ∙ e };
        numbers = λ B. ap (λ t. opt_place_in B (Some p) && t) (tests_row B block l cs e ∙ ap (tests_well B) (sym (part_row a.cases r l el).1));
        ops = refl;
        aims = λ s. refl;
        lines = λ B m s. refl;
      }

  is_so : (p : Parts) {x y : Term} → Some x ≡ Some y → TermParts a block p x → TermParts a block p y
  is_so p e t = subst (λ z. TermParts a block p z) (same_Some _ _ e) t

  pub term_parts : (t : ReactiveTerminal) (x : Term) → term_of a (top_value a.inner) block t ≡ Some x → TermParts a block (parts_of t) x
  term_parts (R.Break l i k) x e = is_so (parts_of (R.Break l i k)) e (bare_parts None (Some (Break l k)) _ (λ B. sym (and-true _)) (λ s. refl) refl (λ B m s. refl))
  term_parts (R.Continue l i k) x e = is_so (parts_of (R.Continue l i k)) e (bare_parts None (Some (Continue l k)) _ (λ B. sym (and-true _)) (λ s. refl) refl (λ B m s. refl))
  term_parts (R.Return p i) x e = is_so (parts_of (R.Return p i)) e (bare_parts (Some p) None _ (λ B. sym (and-true _)) (λ s. refl) refl (λ B m s. refl))
  term_parts (R.Throw p i) x e = is_so (parts_of (R.Throw p i)) e (bare_parts (Some p) None _ (λ B. sym (and-true _)) (λ s. refl) refl (λ B m s. refl))
  term_parts (R.Switch p r i) x e =
      let l = bound (part a.cases r) _ x e in
      let c = bound (cases_of block l.0) _ x l.2 in
      is_so (parts_of (R.Switch p r i)) c.2 (switch_parts p r i l.0 c.0 l.1 c.1)
  term_parts (R.DoWhile r k i) x e =
      let b = bound (block r) _ x e in
      let v = bound (top_value a.inner k) _ x b.2 in
      is_so (parts_of (R.DoWhile r k i)) v.2
      (looping_parts (a_block r b.0 b.1) no_val_lem (a_val k v.0 v.1) no_val_lem no_block_lem _ (λ B. refl) (λ s. refl) (sym (append-nil (val_ops v.0)))
      (λ B m s. after_block (block_lines B b.0 (in_loop (mark m) (labelled (mark m) s))) (val_lines B v.0)))
  term_parts (R.While k r i) x e =
      let v = bound (top_value a.inner k) _ x e in
      let b = bound (block r) _ x v.2 in
      is_so (parts_of (R.While k r i)) b.2
      (looping_parts no_block_lem no_val_lem (a_val k v.0 v.1) no_val_lem (a_block r b.0 b.1) _ (λ B. refl) (λ s. refl) (sym (append-nil (val_ops v.0)))
      (λ B m s. before_block (val_lines B v.0) (block_lines B b.0 (in_loop (mark m) (labelled (mark m) s)))))
  term_parts (R.For j k o r i) x e =
      let n = bound (top_value a.inner j) _ x e in
      let v = bound (top_value a.inner k) _ x n.2 in
      let u = bound (opt_value_of (top_value a.inner) o) _ x v.2 in
      let b = bound (block r) _ x u.2 in
      is_so (parts_of (R.For j k o r i)) b.2
      (looping_parts no_block_lem (a_val j n.0 n.1) (a_val k v.0 v.1) (record { what = u.0; is = u.1 }) (a_block r b.0 b.1) _ (λ B. refl) (λ s. refl) refl
      (λ B m s. three_values (val_lines B n.0) (val_lines B v.0) (opt_val_lines B u.0) (block_lines B b.0 (in_loop (mark m) (labelled (mark m) s)))))
  term_parts (R.ForOf j k r i z) x e =
      let n = bound (top_value a.inner j) _ x e in
      let v = bound (top_value a.inner k) _ x n.2 in
      let b = bound (block r) _ x v.2 in
      is_so (parts_of (R.ForOf j k r i z)) b.2
      (looping_parts no_block_lem (a_val j n.0 n.1) (a_val k v.0 v.1) no_val_lem (a_block r b.0 b.1) _ (λ B. refl) (λ s. refl) (two_last (val_ops n.0) (val_ops v.0))
      (λ B m s. two_values (val_lines B n.0) (val_lines B v.0) (block_lines B b.0 (in_loop (mark m) (labelled (mark m) s)))))
  term_parts (R.ForIn k r i z) x e =
      let v = bound (top_value a.inner k) _ x e in
      let b = bound (block r) _ x v.2 in
      is_so (parts_of (R.ForIn k r i z)) b.2
      (looping_parts no_block_lem (a_val k v.0 v.1) no_val_lem no_val_lem (a_block r b.0 b.1) _ (λ B. refl) (λ s. refl) (sym (append-nil (val_ops v.0)))
      (λ B m s. before_block (val_lines B v.0) (block_lines B b.0 (in_loop (mark m) (labelled (mark m) s)))))
  term_parts (R.If p r o i) x e =
      let b = bound (block r) _ x e in
      let c = bound (opt_block_of block o) _ x b.2 in
      is_so (parts_of (R.If p r o i)) c.2
      (holding_parts (Some p) (a_block r b.0 b.1) (record { what = c.0; is = c.1 }) _ (λ B. sym (and-true _)) (λ s. refl) refl
      (λ B m s. two_last (block_lines B b.0 (labelled (mark m) s)) (opt_block_lines B c.0 (labelled (mark m) s))))
  term_parts (R.Label r i) x e =
      let b = bound (block r) _ x e in
      is_so (parts_of (R.Label r i)) b.2
      (holding_parts None (a_block r b.0 b.1) no_block_lem _ (λ B. refl) (λ s. refl) refl (λ B m s. sym (append-nil (block_lines B b.0 (labelled (mark m) s)))))
  term_parts (R.Try r p q i) x e =
      let b = bound (block r) _ x e in
      let c = bound (block q) _ x b.2 in
      is_so (parts_of (R.Try r p q i)) c.2
      (holding_parts p (a_block r b.0 b.1) (a_block q c.0 c.1) _ (λ B. sym (and-true _)) (λ s. refl) refl
      (λ B m s. two_last (block_lines B b.0 (labelled (mark m) s)) (block_lines B c.0 (labelled (mark m) s))))
