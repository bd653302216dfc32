-- Statements passed over one after another.
use Rattle.std.proofs.Common.{◌≡◌, ℕ, List, [], ◌∷◌, ◌++◌, Some, Option, sym, refl, ap, ◌∙◌, subst}
use Rattle.hir.specs.Decode.{Slots, top_value, opt_value_of}
use Rattle.hir.specs.Held.{slots}
use Rattle.questions.specs.declared.line.Bounds.{Bounds}
use Rattle.questions.specs.declared.line.Findings.{Findings}
use Rattle.questions.specs.declared.line.Line.{Line}
use Rattle.questions.specs.declared.parts.Parts.{Parts}
use Rattle.questions.specs.declared.pass.Pass.{Pass}
use Rattle.questions.specs.Findings.{step, passed}
use Rattle.questions.specs.Own.{Decodes}
use Rattle.questions.specs.Parts.{ValuesIn, values_lines, PassedValues}
use Rattle.questions.specs.Pass.{slots_in, values_in, Kept, Passed}

pub passed_append : (xs ys : List Line) (f : Findings) → passed (xs ++ ys) f ≡ passed ys (passed xs f)
passed_append [] ys f = refl
passed_append (x ∷ xs) ys f = passed_append xs ys _

pub kept_all : {p : Pass} → Kept p p
kept_all = record { arena = refl; bounds = refl }

pub kept_then : {p q r : Pass} → Kept p q → Kept q r → Kept p r
kept_then h k = record { arena = k.arena ∙ h.arena; bounds = k.bounds ∙ h.bounds }

pub kept_slots : {p q : Pass} → Kept p q → slots_in q ≡ slots_in p
kept_slots h = ap (λ a. slots a.now) h.arena

-- what stands for something still does
pub still : {X : Type 0} (one : Slots → Option X) {p q : Pass} → Kept p q → (x : X) → one (slots_in p) ≡ Some x → one (slots_in q) ≡ Some x
still one h x e = ap one (kept_slots h) ∙ e

-- ---- one part after another

pub record Reached (ls : List Line) (p q : Pass) : Type 0 where
  pub kept : Kept p q
  pub found : q.found ≡ passed ls p.found

pub begun : {p : Pass} → Reached [] p p
begun = record { kept = kept_all; found = refl }

pub then_noted : {ls : List Line} {p q : Pass} {f : Findings} (l : Line) → Reached ls p q → f ≡ step l q.found → Reached (ls ++ l ∷ []) p (record q { found = f })
then_noted {ls} {p} l h e = record { kept = record { arena = h.kept.arena; bounds = h.kept.bounds }; found = e ∙ ap (step l) h.found ∙ sym (passed_append ls (l ∷ []) p.found) }

pub then_passed : {X : Type 0} (one : Slots → Option X) (lines : Bounds → X → List Line) {ls : List Line} {p q r : Pass} → Reached ls p q → Passed (one (slots_in q)) (lines q.bounds) q r → (x : X) → one (slots_in p) ≡ Some x → Reached (ls ++ lines p.bounds x) p r
then_passed one lines {ls} {p} {q} {r} h after x e =
    record {
      kept = kept_then h.kept after.kept;
      found =
          after.by x (still one h.kept x e) ∙ ap (λ B. passed (lines B x) q.found) h.kept.bounds ∙ ap (passed (lines p.bounds x)) h.found
          ∙ sym (passed_append ls (lines p.bounds x) p.found);
    }

abbrev pub values_still : {t : Parts} {p q : Pass} → Kept p q → ValuesIn (values_in p) t → ValuesIn (values_in q) t
values_still {t} h d =
    let in_slots = λ (o : Option ℕ) (a : Slots). opt_value_of (top_value a.inner) o in
    record {
      init = record { what = d.init.what; is = still (in_slots t.init) h d.init.what d.init.is };
      test = record { what = d.test.what; is = still (in_slots t.test) h d.test.what d.test.is };
      update = record { what = d.update.what; is = still (in_slots t.update) h d.update.what d.update.is };
    }

pub then_values : {t : Parts} {ls : List Line} {p q r : Pass} → Reached ls p q → PassedValues t q r → (d : ValuesIn (values_in p) t) → Reached (ls ++ values_lines p.bounds d) p r
then_values {t} {ls} {p} {q} {r} h after d =
    record {
      kept = kept_then h.kept after.kept;
      found =
          after.by (values_still h.kept d) ∙ ap (λ B. passed (values_lines B d) q.found) h.kept.bounds ∙ ap (passed (values_lines p.bounds d)) h.found
          ∙ sym (passed_append ls (values_lines p.bounds d) p.found);
    }

pub as_lines : {ls ms : List Line} {p q : Pass} → Reached ls p q → ls ≡ ms → Reached ms p q
as_lines {ls} {ms} {p} {q} h e = subst (λ ls. Reached ls p q) e h

pub passed_by : {X : Type 0} {o : Option X} {lines : X → List Line} {p q : Pass} → Decodes o → ((x : X) → o ≡ Some x → Reached (lines x) p q) → Passed o lines p q
passed_by d h = record { kept = (h d.what d.is).kept; by = λ x e. (h x e).found }

pub decodes_still : {X : Type 0} (one : Slots → Option X) {p q : Pass} → Kept p q → Decodes (one (slots_in p)) → Decodes (one (slots_in q))
decodes_still one h d = record { what = d.what; is = still one h d.what d.is }
