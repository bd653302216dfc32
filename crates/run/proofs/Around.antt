-- A jump's target is around it where it is among the frames.
-- The frames that end loops, switches and labeled statements are what stands around.
use Rattle.std.proofs.Common.{◌≡◌, ℕ, Bool, true, false, ◌||◌, List, [], ◌∷◌, ◌++◌, length, Some, None, Option, sym, refl, ap, ◌∙◌}
use Rattle.hir.specs.Decode.{Slots}
use Rattle.semantics.specs.Targets.{Around, nowhere, has, labelled, in_loop, in_switch}
use Rattle.run.specs.declared.frame.Frame.{Frame}
use Rattle.run.specs.declared.frame.Frame.TheVariants as F
use Rattle.run.specs.declared.frame.Target.{Target}
use Rattle.run.specs.declared.frame.Target.TheVariants as T
use Rattle.run.specs.Exits.{aims, any}
use Rattle.run.specs.Frames.{Means, Stacked}
use Rattle.run.specs.Tasks.{Task, inside, around, weights}

abbrev pub found : Target → Around → Bool
found (T.Break None) A = A.breaks
found (T.Break (Some l)) A = has l A.labels
found (T.Continue None) A = A.looped
found (T.Continue (Some l)) A = has l A.loops

or_swap : (a b c : Bool) → (a || (b || c)) ≡ (b || (a || c))
or_swap true true c = refl
or_swap true false c = refl
or_swap false true c = refl
or_swap false false c = refl

pub any_snoc : (t : Target) (fs : List Frame) (f : Frame) → any t (fs ++ f ∷ []) ≡ (aims t f || any t fs)
any_snoc t [] f = refl
any_snoc t (g ∷ fs) f = ap (λ (b : Bool). aims t g || b) (any_snoc t fs f) ∙ or_swap (aims t g) (aims t f) (any t fs)

at_label_found : (τ : Target) (m : Option ℕ) (A : Around) → found τ (labelled m A) ≡ (aims τ (F.EndsLabel m) || found τ A)
at_label_found (T.Break None) m A = refl
at_label_found (T.Break (Some l)) None A = refl
at_label_found (T.Break (Some l)) (Some k) A = refl
at_label_found (T.Continue None) m A = refl
at_label_found (T.Continue (Some l)) m A = refl

at_loop_found : (τ : Target) (m : Option ℕ) (A : Around) → found τ (in_loop m A) ≡ (aims τ (F.EndsLoop m) || found τ A)
at_loop_found (T.Break None) m A = refl
at_loop_found (T.Break (Some l)) m A = refl
at_loop_found (T.Continue None) m A = refl
at_loop_found (T.Continue (Some l)) None A = refl
at_loop_found (T.Continue (Some l)) (Some k) A = refl

at_switch_found : (τ : Target) (m : Option ℕ) (A : Around) → found τ (in_switch A) ≡ (aims τ (F.EndsSwitch m) || found τ A)
at_switch_found (T.Break None) m A = refl
at_switch_found (T.Break (Some l)) m A = refl
at_switch_found (T.Continue None) m A = refl
at_switch_found (T.Continue (Some l)) m A = refl

module _ (a : Slots) (B W s : ℕ) (τ : Target) (A : Around) where
  stepped_in : (n w : ℕ) (f : Frame) (t : Task) → Means a B W s n w f t → found τ (inside t A) ≡ (aims τ f || found τ A)
  stepped_in n w (F.Block r d) t m = ap (λ (u : Task). found τ (inside u A)) m.1
  stepped_in n w (F.Statement k d) t m = ap (λ (u : Task). found τ (inside u A)) m.1
  stepped_in n w (F.Value k d) t m = ap (λ (u : Task). found τ (inside u A)) m.1
  stepped_in n w (F.Assigns p) t m = ap (λ (u : Task). found τ (inside u A)) m
  stepped_in n w (F.Instructions r d) t m = ap (λ (u : Task). found τ (inside u A)) m.1
  stepped_in n w (F.AfterLeft p k d) t m = ap (λ (u : Task). found τ (inside u A)) m.1
  stepped_in n w (F.AfterTest k l d) t m = ap (λ (u : Task). found τ (inside u A)) m.2
  stepped_in n w (F.Leaves x) t m = ap (λ (u : Task). found τ (inside u A)) m
  stepped_in n w (F.EndsLabel l) t m = ap (λ (u : Task). found τ (inside u A)) m ∙ at_label_found τ l A
  stepped_in n w (F.EndsLoop l) t m = ap (λ (u : Task). found τ (inside u A)) m ∙ at_loop_found τ l A
  stepped_in n w (F.EndsSwitch l) t m = ap (λ (u : Task). found τ (inside u A)) m ∙ at_switch_found τ l A
  stepped_in n w (F.EndsRound l) t m = ap (λ (u : Task). found τ (inside u A)) m
  stepped_in n w (F.Starts l b d) t m = ap (λ (u : Task). found τ (inside u A)) m.1
  stepped_in n w (F.Rounds l b d) t m = ap (λ (u : Task). found τ (inside u A)) m.2
  stepped_in n w (F.Tests l b d) t m = ap (λ (u : Task). found τ (inside u A)) m.1
  stepped_in n w (F.Selects c b d) t m = ap (λ (u : Task). found τ (inside u A)) m.2
  stepped_in n w (F.Cases r d) t m = ap (λ (u : Task). found τ (inside u A)) m.1
  stepped_in n w (F.Catches p r d) t m = ap (λ (u : Task). found τ (inside u A)) m.1

none_around : (τ : Target) → found τ nowhere ≡ false
none_around (T.Break None) = refl
none_around (T.Break (Some l)) = refl
none_around (T.Continue None) = refl
none_around (T.Continue (Some l)) = refl

pub any_found : (a : Slots) (B W s : ℕ) (τ : Target) (fs : List Frame) (k : List Task) → Stacked a B W s fs k → any τ fs ≡ found τ (around k)
any_found a B W s τ fs [] e = ap (any τ) e ∙ sym (none_around τ)
any_found a B W s τ fs (t ∷ k) m =
    ap (any τ) m.2 ∙ any_snoc τ m.1 m.0 ∙ ap (λ (b : Bool). aims τ m.0 || b) (any_found a B W s τ m.1 k m.4)
    ∙ sym (stepped_in a B W s τ (around k) (length m.1) (weights k) m.0 t m.3)
