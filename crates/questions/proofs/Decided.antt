-- From what the pass found to the answer: the first question with a no, and the first of its faulty places.
use Rattle.std.proofs.Common.{◌≡◌, ℕ, ◌+◌, ◌≤◌, Bool, true, false, cond, ◌&&◌, eqb, List, [], ◌∷◌, ◌++◌, length, None, Ok, Err, Option, Result, sym, refl, ap, ◌∙◌, subst, arith}
use Rattle.std.specs.List.{list_all}
use Rattle.std.proofs.lemmas.Bool.{or_left, eq-eqb}
use Rattle.format.specs.declared.fault.CheckFault.{CheckFault}
use Rattle.format.specs.declared.fault.CheckFault.TheVariants.{Numbers, Shapes, Targets, Scopes}
use Rattle.hir.specs.Tree.{Function, ScopeInfo}
use Rattle.questions.specs.declared.line.Findings.{Findings}
use Rattle.questions.specs.Answers.{Faulty, Answers, unless, answer_of}
use Rattle.questions.specs.Findings.{passed, nothing}
use Rattle.questions.specs.Questions.{among, bounds_of, identifier_in, scope_in, unrecorded, failing, repeating, table_fault, lines, out_of_range, out_of_shape, without_target, scoped_twice}
use Rattle.questions.proofs.Claims.{no_marks, first_repeating}
use Rattle.questions.proofs.Found.{or_first, first_failing}
use Rattle.questions.proofs.LinesOf.{owned_in}

asked : (F : Function) (o : Option ℕ) (fault : ℕ → CheckFault) (r : Result (Unit {0}) CheckFault) (xs : List ℕ) → o ≡ or_first None xs → ((n : ℕ) → among n xs ≡ true → Faulty F (fault n)) → (xs ≡ [] → Answers F r) → Answers F (unless o fault r)
asked F o fault r [] e ill well = subst (λ z. Answers F (unless z fault r)) (sym e) (well refl)
asked F o fault r (x ∷ xs) e ill well = subst (λ z. Answers F (unless z fault r)) (sym e) (ill x (or_left (eqb x x) (among x xs) (eq-eqb x x refl)))

abbrev pub tables_sound : Function → Bool
tables_sound F = list_all (identifier_in (bounds_of F)) F.identifiers && list_all (scope_in (bounds_of F)) F.scopes

pub table_faulty : (F : Function) → tables_sound F ≡ false → among 0 (out_of_range F) ≡ true
unfolding out_of_range
table_faulty F e = ap (λ b. among 0 (table_fault b ++ failing (λ l. l.numbers) 0 (lines F))) e

module _ (F : Function) (f : Findings) (recordless : Bool) (pass : f ≡ passed (lines F) nothing) (few : length (lines F) ≤ 2048) (small : (bounds_of F).scopes ≤ 256) (owned : list_all (owned_in (bounds_of F)) (lines F) ≡ true) (tables : tables_sound F ≡ true) (records : recordless ≡ list_all (λ (s : ScopeInfo). unrecorded s.early) F.scopes) where
  in_4096 : 0 + length (lines F) ≤ 4096
  in_4096 = omega arith

  numbers_found : f.numbers ≡ or_first None (failing (λ l. l.numbers) 0 (lines F))
  numbers_found = ap (λ (g : Findings). g.numbers) pass ∙ first_failing (λ g. g.numbers) (λ l. l.numbers) (λ g l. refl) (lines F) nothing in_4096

  shapes_found : f.shapes ≡ or_first None (failing (λ l. l.shapes) 0 (lines F))
  shapes_found = ap (λ (g : Findings). g.shapes) pass ∙ first_failing (λ g. g.shapes) (λ l. l.shapes) (λ g l. refl) (lines F) nothing in_4096

  targets_found : f.targets ≡ or_first None (failing (λ l. l.targets) 0 (lines F))
  targets_found = ap (λ (g : Findings). g.targets) pass ∙ first_failing (λ g. g.targets) (λ l. l.targets) (λ g l. refl) (lines F) nothing in_4096

  scopes_found : failing (λ l. l.numbers) 0 (lines F) ≡ [] → f.scopes ≡ or_first None (repeating [] 0 (lines F))
  scopes_found e = ap (λ (g : Findings). g.scopes) pass ∙ first_repeating (bounds_of F) small (lines F) nothing [] in_4096 no_marks owned e

  range_is : failing (λ l. l.numbers) 0 (lines F) ≡ out_of_range F
  unfolding out_of_range
  range_is = sym (ap (λ b. table_fault b ++ failing (λ l. l.numbers) 0 (lines F)) tables)

  shape_is : failing (λ l. l.shapes) 0 (lines F) ≡ out_of_shape F
  unfolding out_of_shape
  shape_is = refl

  target_is : failing (λ l. l.targets) 0 (lines F) ≡ without_target F
  unfolding without_target
  target_is = refl

  scopes_is : (b : Bool) → recordless ≡ b → table_fault b ++ repeating [] 0 (lines F) ≡ scoped_twice F
  unfolding scoped_twice
  scopes_is b e = ap (λ c. table_fault c ++ repeating [] 0 (lines F)) (sym e ∙ records)

  of_scopes : out_of_range F ≡ [] → out_of_shape F ≡ [] → without_target F ≡ [] → (b : Bool) → recordless ≡ b → Answers F (cond b (unless f.scopes Scopes (Ok tt)) (Err (Scopes 0)))
  of_scopes u v w true e =
      asked F f.scopes Scopes (Ok tt) (repeating [] 0 (lines F)) (scopes_found (range_is ∙ u)) (λ n h. (u, v, w, ap (among n) (sym (scopes_is true e)) ∙ h))
      (λ z. record { numbers = u; shapes = v; targets = w; scopes = sym (scopes_is true e) ∙ z })
  of_scopes u v w false e = (u, v, w, ap (among 0) (sym (scopes_is false e)))

  pub decided : Answers F (answer_of f recordless)
  decided =
      asked F f.numbers Numbers _ (failing (λ l. l.numbers) 0 (lines F)) numbers_found (λ n h. ap (among n) (sym range_is) ∙ h) (λ u.
      asked F f.shapes Shapes _ (failing (λ l. l.shapes) 0 (lines F)) shapes_found (λ n h. (sym range_is ∙ u, ap (among n) (sym shape_is) ∙ h)) (λ v.
      asked F f.targets Targets _ (failing (λ l. l.targets) 0 (lines F)) targets_found (λ n h. (sym range_is ∙ u, sym shape_is ∙ v, ap (among n) (sym target_is) ∙ h)) (λ w.
      of_scopes (sym range_is ∙ u) (sym shape_is ∙ v) (sym target_is ∙ w) recordless refl)))
