-- The table of marks stands for the scopes that were seen, so the first scope claimed twice is the first that repeats.
use Rattle.std.proofs.Common.{◌≡◌, ℕ, suc, ◌+◌, ◌<◌, ◌≤◌, Bool, true, false, cond, not, ◌||◌, ltb, List, [], ◌∷◌, length, get_or, set, replicate, Some, None, Option, sym, refl, ap, ◌∙◌, ap₂, inl, inr, arith, get_or-set_other, get_or-set_same}
use Rattle.std.specs.List.{list_all}
use Rattle.std.proofs.Math.Bool.{or-false}
use lib.ListN.{length-replicate}
use Rattle.std.proofs.lemmas.List.{length-set, get_or-replicate}
use Rattle.std.proofs.lemmas.Bool.{ltb-true, lt-ltb, eq-eqb, ne_eqb, cases_eq, and_parts}
use Rattle.semantics.specs.Targets.{plus}
use Rattle.questions.specs.declared.line.Bounds.{Bounds}
use Rattle.questions.specs.declared.line.Findings.{Findings}
use Rattle.questions.specs.declared.line.Line.{Line}
use Rattle.questions.specs.Findings.{earliest, fresh_line, marked, step, passed}
use Rattle.questions.specs.Questions.{among, opt_below, failing, first_owned, repeating}
use Rattle.questions.proofs.Found.{or_first, none_more, earliest_first, counts_on}
use Rattle.questions.proofs.LinesOf.{owned_in}

pub record Marks (seen : List Bool) (xs : List ℕ) : Type 0 where
  pub long : length seen ≡ 256
  pub at : (x : ℕ) → x < 256 → get_or seen x false ≡ among x xs

pub no_marks : Marks (replicate 256 false) []
no_marks = record { long = length-replicate 256 false; at = λ x h. get_or-replicate 256 x false false h }

marks_fresh : (seen : List Bool) (xs : List ℕ) (o : Option ℕ) → Marks seen xs → opt_below o 256 ≡ true → fresh_line seen o ≡ first_owned xs o
marks_fresh seen xs None m h = refl
marks_fresh seen xs (Some x) m h = ap not (m.at x (ltb-true x 256 h))

marks_more : (seen : List Bool) (xs : List ℕ) (o : Option ℕ) → Marks seen xs → opt_below o 256 ≡ true → Marks (marked seen o) (plus o xs)
marks_more seen xs None m h = m
marks_more seen xs (Some x) m h =
    let lt : x < length seen = (let e = m.long in omega (arith, ltb-true x 256 h)) in
    record {
      long = length-set seen x true ∙ m.long;
      at = λ y b. elim (cases_eq y x) [
        | inl e ↦ ap (λ z. get_or (set seen x true) z false) e ∙ get_or-set_same seen x true false lt ∙ sym (ap (λ t. t || among y xs) (eq-eqb y x e))
        | inr ne ↦ get_or-set_other seen x y true false ne ∙ m.at y b ∙ sym (ap (λ t. t || among y xs) (ne_eqb y x ne))
      ];
    }

-- a statement whose numbers are in range owns, if any, a scope below 256
owns_below : (B : Bounds) (l : Line) → B.scopes ≤ 256 → owned_in B l ≡ true → l.numbers ≡ true → opt_below l.owns 256 ≡ true
owns_below B l h o n = go l.owns (ap (λ b. opt_below l.owns B.scopes || not b) (sym n) ∙ o)
  where
    go : (x : Option ℕ) → (opt_below x B.scopes || false) ≡ true → opt_below x 256 ≡ true
    go None e = refl
    go (Some x) e = lt-ltb x 256 (omega (arith, ltb-true x B.scopes (sym (or-false (ltb x B.scopes)) ∙ e)))

none_failing : (t : Line → Bool) (n : ℕ) (l : Line) (ls : List Line) → failing t n (l ∷ ls) ≡ [] → (t l ≡ true) × (failing t (suc n) ls ≡ [])
none_failing t n l ls e = go (t l) refl e
  where
    go : (b : Bool) → t l ≡ b → cond (t l) (failing t (suc n) ls) (n ∷ failing t (suc n) ls) ≡ [] → (t l ≡ true) × (failing t (suc n) ls ≡ [])
    go true is h = (is, ap (λ c. cond c (failing t (suc n) ls) (n ∷ failing t (suc n) ls)) (sym is) ∙ h)
    go false is h = absurd (let z : n ∷ failing t (suc n) ls ≡ [] = ap (λ c. cond c (failing t (suc n) ls) (n ∷ failing t (suc n) ls)) (sym is) ∙ h in let y : ◌≡◌ {A = ℕ} 0 1 = cc in omega arith)

pub first_repeating : (B : Bounds) → B.scopes ≤ 256 → (ls : List Line) (f : Findings) (xs : List ℕ) → f.next + length ls ≤ 4096 → Marks f.seen xs → list_all (owned_in B) ls ≡ true → failing (λ l. l.numbers) f.next ls ≡ []
    → (passed ls f).scopes ≡ or_first f.scopes (repeating xs f.next ls)
first_repeating B small [] f xs h m o n = none_more f.scopes
first_repeating B small (l ∷ ls) f xs h m o n =
    let next = counts_on f.next (length ls) h in
    let w = none_failing (λ l. l.numbers) f.next l ls n in
    let p = and_parts (owned_in B l) (list_all (owned_in B) ls) o in
    let below = owns_below B l small p.0 w.0 in
    let rest = first_repeating B small ls (step l f) (plus l.owns xs) (omega (arith, next)) (marks_more f.seen xs l.owns m below) p.1 (ap (λ k. failing (λ l. l.numbers) k ls) next ∙ w.1) in
    rest ∙ ap₂ (λ b k. or_first (earliest f.scopes b f.next) (repeating (plus l.owns xs) k ls)) (marks_fresh f.seen xs l.owns m below) next
    ∙ earliest_first f.scopes (first_owned xs l.owns) f.next (repeating (plus l.owns xs) (suc f.next) ls)
