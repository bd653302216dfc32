-- The turns of what ends a statement, and of what a way that ends otherwise passes over.
-- Only throws are caught; a spent run passes over everything.
use Rattle.std.proofs.Common.{◌≡◌, ℕ, ◌+◌, ◌<◌, ◌≤◌, Bool, false, List, [], ◌∷◌, ◌++◌, length, Some, None, Option, sym, refl, ap, ◌∙◌, subst, arith}
use Rattle.std.proofs.lemmas.Bool.{true≢false}
use Rattle.hir.specs.declared.place.Place.{Place}
use Rattle.hir.specs.declared.range.Range.{Range}
use Rattle.hir.specs.Decode.{Slots}
use Rattle.hir.specs.Tree.{Val, operation, logical, conditional, sequence, optional, Instrs, inil, icons, Block, nil, cons, Cases, knil, kcons}
use Rattle.semantics.specs.Machine.{Meaning, State, Out, normal, broke, continued, returned, threw, Result, done, bind, handle, map_out, gave, assign}
use Rattle.semantics.specs.Targets.{Around, aim_b}
use Rattle.semantics.specs.Exec.{end_loop, end_round, end_label}
use Rattle.run.specs.declared.frame.Exit.{Exit}
use Rattle.run.specs.declared.frame.Exit.TheVariants as E
use Rattle.run.specs.declared.frame.Frame.{Frame}
use Rattle.run.specs.declared.frame.Frame.TheVariants as F
use Rattle.run.specs.Exits.{exit_from, onto, takes}
use Rattle.run.specs.Frames.{Means}
use Rattle.run.specs.Tasks.{Loop, test_first, block_first, updating, Task, block, begun, value, assigns, instrs, after_left, after_test, leaves, ends_label, ends_loop, ends_switch, ends_round, starts, rounds, tests, selects, cases, catches, around, act, resume, runs, w_v, w_is, w_b, w_k, w_tests, weight, weights, owing}
use Rattle.run.specs.Turn.{Leads, Next, Calm, result, state_of, kept}
use Rattle.run.proofs.Stack.{Opened, opened, closes}
use Rattle.run.proofs.Turning.{calm_false, next}

result_from : {S : Type 0} (o : Out) (s : State S) → result (exit_from o) s ≡ done o s
result_from normal s = refl
result_from (broke l) s = refl
result_from (continued l) s = refl
result_from (returned v) s = refl
result_from (threw v) s = refl

result_onto : {S : Type 0} (g : Out → Out) (x : Exit) (s : State S) → result (onto g x) s ≡ map_out g (result x s)
unfolding map_out
result_onto g E.Normal s = result_from (g normal) s
result_onto g (E.Broke l) s = result_from (g (broke l)) s
result_onto g (E.Continued l) s = result_from (g (continued l)) s
result_onto g (E.Returned v) s = result_from (g (returned v)) s
result_onto g (E.Threw v) s = result_from (g (threw v)) s
result_onto g E.Spent s = refl

calm_onto : (g : Out → Out) → ((v : ℕ) → g (returned v) ≡ returned v) → (x : Exit) (r : Bool) → Calm x r → Calm (onto g x) r
calm_onto g h E.Normal r c = calm_false _ r c
calm_onto g h (E.Broke l) r c = calm_false _ r c
calm_onto g h (E.Continued l) r c = calm_false _ r c
calm_onto g h (E.Returned v) r c = subst (λ (o : Out). Calm (exit_from o) r) (sym (h v)) tt
calm_onto g h (E.Threw v) r c = calm_false _ r c
calm_onto g h E.Spent r c = tt

-- a normal end stays one at the end of a statement, and is no throw
pub normal_stays : {x : Exit} (g : Out → Out) → g normal ≡ normal → x ≡ E.Normal → x ≡ onto g x
normal_stays g h e = e ∙ ap exit_from (sym h) ∙ ap (onto g) (sym e)

pub normal_not_threw : {x : Exit} → x ≡ E.Normal → (v : ℕ) → x ≡ E.Threw v → ⊥
normal_not_threw e v t = let z : ◌≡◌ {A = ℕ} 0 1 = cc in omega arith

pub bind_passes : {S : Type 0} (x : Exit) (s : State S) (k : State S → Result S) → (x ≡ E.Normal → ⊥) → bind (result x s) k ≡ result x s
unfolding bind
bind_passes E.Normal s k n = absurd (n refl)
bind_passes (E.Broke l) s k n = refl
bind_passes (E.Continued l) s k n = refl
bind_passes (E.Returned v) s k n = refl
bind_passes (E.Threw v) s k n = refl
bind_passes E.Spent s k n = refl

handle_passes : {S : Type 0} (x : Exit) (s : State S) (k : ℕ → State S → Result S) → ((v : ℕ) → x ≡ E.Threw v → ⊥) → handle (result x s) k ≡ result x s
unfolding handle
handle_passes E.Normal s k n = refl
handle_passes (E.Broke l) s k n = refl
handle_passes (E.Continued l) s k n = refl
handle_passes (E.Returned v) s k n = refl
handle_passes (E.Threw v) s k n = absurd (n v refl)
handle_passes E.Spent s k n = refl

-- ---- every task has a weight
w_v_positive : (v : Val) → 0 < w_v v
w_v_positive (operation o) = omega arith
w_v_positive (logical o l r) = omega arith
w_v_positive (conditional c l r) = omega arith
w_v_positive (sequence is i v) = omega arith
w_v_positive (optional v o) = omega arith

w_is_positive : (is : Instrs) → 0 < w_is is
w_is_positive inil = omega arith
w_is_positive (icons i is) = omega arith

w_b_positive : (b : Block) → 0 < w_b b
w_b_positive nil = omega arith
w_b_positive (cons x b) = omega arith

w_k_positive : (cs : Cases) → 0 < w_k cs
w_k_positive knil = omega arith
w_k_positive (kcons t b cs) = omega arith

w_tests_positive : (l : Loop) → 0 < w_tests l
w_tests_positive (test_first v b) = omega arith
w_tests_positive (block_first b v) = omega arith
w_tests_positive (updating v u b) = omega arith

weight_positive : (t : Task) → 0 < weight t
weight_positive (block b) = w_b_positive b
weight_positive (begun x) = omega arith
weight_positive (value v) = w_v_positive v
weight_positive (assigns l) = omega arith
weight_positive (instrs is) = w_is_positive is
weight_positive (after_left p b) = omega arith
weight_positive (after_test v u) = omega arith
weight_positive (leaves y) = omega arith
weight_positive (ends_label m) = omega arith
weight_positive (ends_loop m) = omega arith
weight_positive (ends_switch m) = omega arith
weight_positive (ends_round m) = omega arith
weight_positive (starts l m) = omega arith
weight_positive (rounds l m n) = omega arith
weight_positive (tests l m) = w_tests_positive l
weight_positive (selects v cs n e all m) = omega arith
weight_positive (cases cs) = w_k_positive cs
weight_positive (catches p c) = omega arith

module _ {S : Type 0} (H : Meaning S) (B : ℕ) (rec : ℕ → Option ℕ) (a : Slots) (W : ℕ) (x : Exit) where
  passes : (f : Frame) (t : Task) (A : Around) (z n v : ℕ) → Means a B W z n v f t → takes f ≡ false → (x ≡ E.Normal → ⊥) → (s : State S) → act H B rec A t (result x s) ≡ result x s
  passes (F.Block r d) t A z n v m e no_normal s = ap (λ (u : Task). act H B rec A u (result x s)) m.1 ∙ bind_passes x s _ no_normal
  passes (F.Statement k d) t A z n v m e no_normal s = ap (λ (u : Task). act H B rec A u (result x s)) m.1 ∙ bind_passes x s _ no_normal
  passes (F.Value k d) t A z n v m e no_normal s = ap (λ (u : Task). act H B rec A u (result x s)) m.1 ∙ bind_passes x s _ no_normal
  passes (F.Assigns p) t A z n v m e no_normal s = ap (λ (u : Task). act H B rec A u (result x s)) m ∙ bind_passes x s _ no_normal
  passes (F.Instructions r d) t A z n v m e no_normal s = ap (λ (u : Task). act H B rec A u (result x s)) m.1 ∙ bind_passes x s _ no_normal
  passes (F.AfterLeft p k d) t A z n v m e no_normal s = ap (λ (u : Task). act H B rec A u (result x s)) m.1 ∙ bind_passes x s _ no_normal
  passes (F.AfterTest k l d) t A z n v m e no_normal s = ap (λ (u : Task). act H B rec A u (result x s)) m.2 ∙ bind_passes x s _ no_normal
  passes (F.Leaves y) t A z n v m e no_normal s = ap (λ (u : Task). act H B rec A u (result x s)) m ∙ bind_passes x s _ no_normal
  passes (F.EndsLabel l) t A z n v m e no_normal s = absurd (true≢false e)
  passes (F.EndsLoop l) t A z n v m e no_normal s = absurd (true≢false e)
  passes (F.EndsSwitch l) t A z n v m e no_normal s = absurd (true≢false e)
  passes (F.EndsRound l) t A z n v m e no_normal s = absurd (true≢false e)
  passes (F.Starts l b d) t A z n v m e no_normal s = ap (λ (u : Task). act H B rec A u (result x s)) m.1 ∙ bind_passes x s _ no_normal
  passes (F.Rounds l b d) t A z n v m e no_normal s = ap (λ (u : Task). act H B rec A u (result x s)) m.2 ∙ bind_passes x s _ no_normal
  passes (F.Tests l b d) t A z n v m e no_normal s = ap (λ (u : Task). act H B rec A u (result x s)) m.1 ∙ bind_passes x s _ no_normal
  passes (F.Selects c b d) t A z n v m e no_normal s = ap (λ (u : Task). act H B rec A u (result x s)) m.2 ∙ bind_passes x s _ no_normal
  passes (F.Cases r d) t A z n v m e no_normal s = ap (λ (u : Task). act H B rec A u (result x s)) m.1 ∙ bind_passes x s _ no_normal
  passes (F.Catches p r d) t A z n v m e no_normal s = absurd (true≢false e)

module _ {S : Type 0} (H : Meaning S) (B : ℕ) (rec : ℕ → Option ℕ) (a : Slots) (W : ℕ) (w : Result S) (fs : List Frame) {x : Exit}
    {h : S} {σ : List ℕ} {given steps entries : ℕ} {recorded : Bool} where
  ends : (f : Frame) (t : Task) (g : Out → Out) → ((v : ℕ) → g (returned v) ≡ returned v) → (o : Opened H B rec a W w fs f x h σ given steps entries recorded) → o.task ≡ t
      → ((A : Around) (r : Result S) → act H B rec A t r ≡ map_out g r) → weight t ≡ 1 → owing t ≡ 0
      → Next H B rec a W w fs f steps fs (onto g x) h σ given steps entries recorded
  ends f t g gr o is e w1 o0 =
      let s = state_of h σ given steps entries recorded in
      let same = subst (λ (u : Task). resume H B rec o.kont (act H B rec (around o.kont) u (result x s)) ≡ w) is o.same in
      let c = rw is at o.counted in
      let lt : weights o.kont < weight o.task + weights o.kont = rw (is, w1) (omega arith) in
      next (closes H B rec a W w o fs (onto g x) h σ given entries recorded o.kont o.stacked lt
      (ap (resume H B rec o.kont) (result_onto g x s ∙ sym (e (around o.kont) (result x s))) ∙ same)
      (omega arith)
      (calm_onto g gr x recorded o.calm))

  pub on_ends_label : (m : Option ℕ) → Leads H B rec a W w (fs ++ F.EndsLabel m ∷ []) x h σ given steps entries recorded
      → Next H B rec a W w fs (F.EndsLabel m) steps fs (onto (end_label m) x) h σ given steps entries recorded
  on_ends_label m ld = let o = opened H B rec a W w {fs = fs} {f = F.EndsLabel m} ld in ends (F.EndsLabel m) (ends_label m) (end_label m) (λ v. refl) o o.means (λ A r. refl) refl refl

  pub on_ends_loop : (m : Option ℕ) → Leads H B rec a W w (fs ++ F.EndsLoop m ∷ []) x h σ given steps entries recorded
      → Next H B rec a W w fs (F.EndsLoop m) steps fs (onto (end_loop m) x) h σ given steps entries recorded
  on_ends_loop m ld = let o = opened H B rec a W w {fs = fs} {f = F.EndsLoop m} ld in ends (F.EndsLoop m) (ends_loop m) (end_loop m) (λ v. refl) o o.means (λ A r. refl) refl refl

  pub on_ends_switch : (m : Option ℕ) → Leads H B rec a W w (fs ++ F.EndsSwitch m ∷ []) x h σ given steps entries recorded
      → Next H B rec a W w fs (F.EndsSwitch m) steps fs (onto (end_loop m) x) h σ given steps entries recorded
  on_ends_switch m ld = let o = opened H B rec a W w {fs = fs} {f = F.EndsSwitch m} ld in ends (F.EndsSwitch m) (ends_switch m) (end_loop m) (λ v. refl) o o.means (λ A r. refl) refl refl

  pub on_ends_round : (m : Option ℕ) → Leads H B rec a W w (fs ++ F.EndsRound m ∷ []) x h σ given steps entries recorded
      → Next H B rec a W w fs (F.EndsRound m) steps fs (onto (end_round m) x) h σ given steps entries recorded
  on_ends_round m ld = let o = opened H B rec a W w {fs = fs} {f = F.EndsRound m} ld in ends (F.EndsRound m) (ends_round m) (end_round m) (λ v. refl) o o.means (λ A r. refl) refl refl

  -- ---- a handler
  pub on_catches_threw : (p : Option Place) (r : Range) (d v : ℕ) (σ' : List ℕ) → x ≡ E.Threw v → σ' ≡ kept p σ v
      → Leads H B rec a W w (fs ++ F.Catches p r d ∷ []) x h σ given steps entries recorded
      → Next H B rec a W w fs (F.Catches p r d) steps (fs ++ F.Block r d ∷ []) E.Normal h σ' v steps entries recorded
  unfolding handle bind
  on_catches_threw p r d v σ' ex es ld =
      let o = opened H B rec a W w {fs = fs} {f = F.Catches p r d} (subst (λ (y : Exit). Leads H B rec a W w (fs ++ F.Catches p r d ∷ []) y h σ given steps entries recorded) ex ld) in
      let m = o.means in
      let c = rw m.1 at o.counted in
      let lt : w_b m.0 + weights o.kont < weight o.task + weights o.kont = rw m.1 (omega arith) in
      let same = subst (λ (u : Task). resume H B rec o.kont (act H B rec (around o.kont) u (done (threw v) (state_of h σ given steps entries recorded))) ≡ w) m.1 o.same in
      next (closes H B rec a W w o (fs ++ F.Block r d ∷ []) E.Normal h σ' v entries recorded (block m.0 ∷ o.kont) (F.Block r d, fs, refl, (m.0, refl, m.2, m.3), o.stacked) lt
      (ap (λ (s : State S). resume H B rec o.kont (runs H B rec (aim_b m.0 (around o.kont)) s)) (assigned p es) ∙ same)
      (omega arith)
      o.calm)
    where
      assigned : (p : Option Place) → σ' ≡ kept p σ v → state_of h σ' v steps entries recorded ≡ assign p (gave (state_of h σ given steps entries recorded) v)
      assigned None e = rw e
      assigned (Some q) e = rw e

  -- ---- what passes over a frame
  passed : (f : Frame) (o : Opened H B rec a W w fs f x h σ given steps entries recorded) → 0 < weight o.task
      → act H B rec (around o.kont) o.task (result x (state_of h σ given steps entries recorded)) ≡ result x (state_of h σ given steps entries recorded)
      → Next H B rec a W w fs f steps fs x h σ given steps entries recorded
  passed f o lt e =
      let c = o.counted in
      next (closes H B rec a W w o fs x h σ given entries recorded o.kont o.stacked (omega arith) (ap (resume H B rec o.kont) (sym e) ∙ o.same) (omega arith) o.calm)

  pub on_catches_passed : (p : Option Place) (r : Range) (d : ℕ) → ((v : ℕ) → x ≡ E.Threw v → ⊥)
      → Leads H B rec a W w (fs ++ F.Catches p r d ∷ []) x h σ given steps entries recorded
      → Next H B rec a W w fs (F.Catches p r d) steps fs x h σ given steps entries recorded
  on_catches_passed p r d n ld =
      let o = opened H B rec a W w {fs = fs} {f = F.Catches p r d} ld in
      let m = o.means in
      passed (F.Catches p r d) o (rw m.1 (omega arith))
      (ap (λ (t : Task). act H B rec (around o.kont) t (result x (state_of h σ given steps entries recorded))) m.1 ∙ handle_passes x _ _ n)

  pub on_passed : (f : Frame) → takes f ≡ false → (x ≡ E.Normal → ⊥) → Leads H B rec a W w (fs ++ f ∷ []) x h σ given steps entries recorded
      → Next H B rec a W w fs f steps fs x h σ given steps entries recorded
  on_passed f e no_normal ld =
      let o = opened H B rec a W w {fs = fs} {f = f} ld in
      passed f o (weight_positive o.task) (passes H B rec a W x f o.task (around o.kont) steps (length fs) (weights o.kont) o.means e no_normal (state_of h σ given steps entries recorded))

-- ---- a frame that pushes others has room for them
abbrev pub Low : ℕ → Frame → Type 0
Low n (F.Block r d) = n ≤ 1000
Low n (F.Statement k d) = n ≤ 1000
Low n (F.Value k d) = n ≤ 1000
Low n (F.Assigns p) = Unit {0}
Low n (F.Instructions r d) = n ≤ 1000
Low n (F.AfterLeft p k d) = n ≤ 1000
Low n (F.AfterTest k l d) = n ≤ 1000
Low n (F.Leaves y) = Unit {0}
Low n (F.EndsLabel l) = Unit {0}
Low n (F.EndsLoop l) = Unit {0}
Low n (F.EndsSwitch l) = Unit {0}
Low n (F.EndsRound l) = Unit {0}
Low n (F.Starts l b d) = n ≤ 1000
Low n (F.Rounds l b d) = n ≤ 1000
Low n (F.Tests l b d) = n ≤ 1000
Low n (F.Selects c b d) = n ≤ 1000
Low n (F.Cases r d) = n ≤ 1000
Low n (F.Catches p r d) = n ≤ 1000

low : (a : Slots) (B W s n w : ℕ) (f : Frame) (t : Task) → Means a B W s n w f t → Low n f
low a B W s n w (F.Block r d) t m = let r = m.3 in omega arith
low a B W s n w (F.Statement k d) t m = let r = m.3 in omega arith
low a B W s n w (F.Value k d) t m = let r = m.3 in omega arith
low a B W s n w (F.Assigns p) t m = tt
low a B W s n w (F.Instructions r d) t m = let r = m.3 in omega arith
low a B W s n w (F.AfterLeft p k d) t m = let r = m.3 in omega arith
low a B W s n w (F.AfterTest k l d) t m = let r = m.5 in omega arith
low a B W s n w (F.Leaves y) t m = tt
low a B W s n w (F.EndsLabel l) t m = tt
low a B W s n w (F.EndsLoop l) t m = tt
low a B W s n w (F.EndsSwitch l) t m = tt
low a B W s n w (F.EndsRound l) t m = tt
low a B W s n w (F.Starts l b d) t m = let r = m.3 in omega arith
low a B W s n w (F.Rounds l b d) t m = let r = m.4 in omega arith
low a B W s n w (F.Tests l b d) t m = let r = m.3 in omega arith
low a B W s n w (F.Selects c b d) t m = let r = m.7 in omega arith
low a B W s n w (F.Cases r d) t m = let r = m.3 in omega arith
low a B W s n w (F.Catches p r d) t m = let r = m.3 in omega arith

pub room_of : {S : Type 0} {H : Meaning S} {B : ℕ} {rec : ℕ → Option ℕ} {a : Slots} {W : ℕ} {w : Result S} (fs : List Frame) (f : Frame) {x : Exit} {h : S} {σ : List ℕ}
    {given steps entries : ℕ} {recorded : Bool} → Leads H B rec a W w (fs ++ f ∷ []) x h σ given steps entries recorded → Low (length fs) f
room_of {H = H} {B = B} {rec = rec} {a = a} {W = W} {w = w} fs f {steps = steps} ld =
    let o = opened H B rec a W w {fs = fs} {f = f} ld in
    low a B W steps (length fs) (weights o.kont) f o.task o.means

-- a frame that takes no more than a normal end
pub takes_none : (f : Frame) → ((m : Option ℕ) → f ≡ F.EndsLabel m → ⊥) → ((m : Option ℕ) → f ≡ F.EndsLoop m → ⊥) → ((m : Option ℕ) → f ≡ F.EndsSwitch m → ⊥) → ((m : Option ℕ) → f ≡ F.EndsRound m → ⊥)
    → ((p : Option Place) (r : Range) (d : ℕ) → f ≡ F.Catches p r d → ⊥) → takes f ≡ false
takes_none (F.Block r d) p1 p2 p3 p4 p5 = refl
takes_none (F.Statement k d) p1 p2 p3 p4 p5 = refl
takes_none (F.Value k d) p1 p2 p3 p4 p5 = refl
takes_none (F.Assigns p) p1 p2 p3 p4 p5 = refl
takes_none (F.Instructions r d) p1 p2 p3 p4 p5 = refl
takes_none (F.AfterLeft p k d) p1 p2 p3 p4 p5 = refl
takes_none (F.AfterTest k l d) p1 p2 p3 p4 p5 = refl
takes_none (F.Leaves y) p1 p2 p3 p4 p5 = refl
takes_none (F.EndsLabel l) p1 p2 p3 p4 p5 = absurd (p1 _ refl)
takes_none (F.EndsLoop l) p1 p2 p3 p4 p5 = absurd (p2 _ refl)
takes_none (F.EndsSwitch l) p1 p2 p3 p4 p5 = absurd (p3 _ refl)
takes_none (F.EndsRound l) p1 p2 p3 p4 p5 = absurd (p4 _ refl)
takes_none (F.Starts l b d) p1 p2 p3 p4 p5 = refl
takes_none (F.Rounds l b d) p1 p2 p3 p4 p5 = refl
takes_none (F.Tests l b d) p1 p2 p3 p4 p5 = refl
takes_none (F.Selects c b d) p1 p2 p3 p4 p5 = refl
takes_none (F.Cases r d) p1 p2 p3 p4 p5 = refl
takes_none (F.Catches p r d) p1 p2 p3 p4 p5 = absurd (p5 _ _ _ refl)
