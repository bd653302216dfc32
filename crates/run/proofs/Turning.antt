-- How a turn of a run that goes on normally ends.
-- It goes on normally with lighter tasks, or ends otherwise with lighter tasks, or has paid a step.
use Rattle.std.proofs.Common.{◌≡◌, ℕ, suc, ◌+◌, ◌<◌, ◌≤◌, Bool, false, List, [], ◌∷◌, ◌++◌, length, Option, vec_items, refl, sym, ap, ◌∙◌, subst, add-one, arith, length-append}
use Rattle.hir.specs.Decode.{Slots}
use Rattle.semantics.specs.Machine.{Meaning, Result, normal, done}
use Rattle.run.specs.declared.frame.Exit.{Exit}
use Rattle.run.specs.declared.frame.Exit.TheVariants as E
use Rattle.run.specs.declared.frame.Frame.{Frame}
use Rattle.run.specs.Frames.{Stacked, measure}
use Rattle.run.specs.declared.memory.Memory.{Memory}
use Rattle.run.specs.Holds.{Holds}
use Rattle.run.specs.Tasks.{Task, around, act, resume, weight, weights, owing, owed}
use Rattle.run.specs.Turn.{Leads, Next, Calm, result, state_of}
use Rattle.run.proofs.Stack.{Opened, opened, closes, pays}

pub snoc_length : {X : Type 0} (xs : List X) (x : X) → length (xs ++ x ∷ []) ≡ suc (length xs)
snoc_length xs x = length-append xs (x ∷ []) ∙ add-one (length xs)

pub calm_false : (y : Exit) (r : Bool) → r ≡ false → Calm y r
calm_false E.Normal r e = e
calm_false (E.Broke l) r e = e
calm_false (E.Continued l) r e = e
calm_false (E.Returned v) r e = tt
calm_false (E.Threw v) r e = e
calm_false E.Spent r e = tt

module _ {S : Type 0} {H : Meaning S} {B : ℕ} {rec : ℕ → Option ℕ} {a : Slots} {W : ℕ} {w : Result S} {fs : List Frame} {f : Frame} {steps : ℕ} {y : Exit}
    {h' : S} {σ' : List ℕ} {given' steps' entries' : ℕ} {recorded' : Bool} where
  pub next : {gs : List Frame} → Leads H B rec a W w gs y h' σ' given' steps' entries' recorded' × (measure a B W steps' gs < measure a B W steps (fs ++ f ∷ []))
      → Next H B rec a W w fs f steps gs y h' σ' given' steps' entries' recorded'
  next p = record { leads = p.0; less = p.1 }

  -- the same frame, as a match tells it
  pub renamed : {gs : List Frame} {g : Frame} → f ≡ g → Next H B rec a W w fs g steps gs y h' σ' given' steps' entries' recorded'
      → Next H B rec a W w fs f steps gs y h' σ' given' steps' entries' recorded'
  renamed {gs} {g} e x = subst (λ (l : Frame). Next H B rec a W w fs l steps gs y h' σ' given' steps' entries' recorded') (sym e) x

-- the same exit, as a call tells it
pub exited : {S : Type 0} {H : Meaning S} {B : ℕ} {rec : ℕ → Option ℕ} {a : Slots} {W : ℕ} {w : Result S} {fs : List Frame} {f : Frame} {steps : ℕ} {gs : List Frame} {y z : Exit}
    {h' : S} {σ' : List ℕ} {given' steps' entries' : ℕ} {recorded' : Bool} → z ≡ y → Next H B rec a W w fs f steps gs y h' σ' given' steps' entries' recorded' → Next H B rec a W w fs f steps gs z h' σ' given' steps' entries' recorded'
exited {H = H} {B = B} {rec = rec} {a = a} {W = W} {w = w} {fs = fs} {f = f} {steps = steps} {gs = gs} {h' = h'} {σ' = σ'} {given' = given'} {steps' = steps'} {entries' = entries'} {recorded' = recorded'} e x =
    subst (λ (u : Exit). Next H B rec a W w fs f steps gs u h' σ' given' steps' entries' recorded') (sym e) x

-- the same leads, with the frame as a match tells it
pub leads_as : {S : Type 0} {H : Meaning S} {B : ℕ} {rec : ℕ → Option ℕ} {a : Slots} {W : ℕ} {w : Result S} (fs : List Frame) {f g : Frame} {x : Exit} {h : S} {σ : List ℕ}
    {given steps entries : ℕ} {recorded : Bool} → f ≡ g → Leads H B rec a W w (fs ++ f ∷ []) x h σ given steps entries recorded → Leads H B rec a W w (fs ++ g ∷ []) x h σ given steps entries recorded
leads_as {S = S} {H = H} {B = B} {rec = rec} {a = a} {W = W} {w = w} fs {x = x} {h = h} {σ = σ} {given = given} {steps = steps} {entries = entries} {recorded = recorded} e l =
    subst (λ (z : Frame). Leads H B rec a W w (fs ++ z ∷ []) x h σ given steps entries recorded) e l

-- ---- what the memory's own methods leave
-- the next turn, as the memory holds it
pub held : {S : Type 0} {H : Meaning S} {B : ℕ} {rec : ℕ → Option ℕ} {a : Slots} {W : ℕ} {w : Result S} {fs : List Frame} {f : Frame} {steps : ℕ} {gs : List Frame} {y : Exit}
    {h' : S} {σ' : List ℕ} {given' steps' entries' : ℕ} {recorded' : Bool} {m : Memory} → Holds gs y given' steps' entries' recorded' m
    → Next H B rec a W w fs f steps gs y h' σ' given' steps' entries' recorded' → Next H B rec a W w fs f steps (vec_items m.frames) m.exit h' σ' m.given m.steps m.entries m.recorded
held e x = rw (e.frames, e.exit, e.given, e.steps, e.entries, e.recorded) x

-- frames on frames
pub again : {fs : List Frame} {x : Exit} {given steps entries : ℕ} {recorded : Bool} {m n : Memory} (gs : List Frame) → Holds fs x given steps entries recorded m
    → Holds (vec_items m.frames ++ gs) m.exit m.given m.steps m.entries m.recorded n → Holds (fs ++ gs) x given steps entries recorded n
again gs p q =
    record {
      frames = q.frames ∙ ap (λ (l : List Frame). l ++ gs) p.frames;
      exit = q.exit ∙ p.exit;
      given = q.given ∙ p.given;
      steps = q.steps ∙ p.steps;
      entries = q.entries ∙ p.entries;
      recorded = q.recorded ∙ p.recorded;
    }

-- another value is given
pub regiven : {fs : List Frame} {x : Exit} {given steps entries : ℕ} {recorded : Bool} {m : Memory} (v : ℕ) → Holds fs x given steps entries recorded m
    → Holds fs x v steps entries recorded (record m { given = v })
regiven v p = record { frames = p.frames; exit = p.exit; given = refl; steps = p.steps; entries = p.entries; recorded = p.recorded }

-- it ends otherwise
pub exiting : {fs : List Frame} {x : Exit} {given steps entries : ℕ} {recorded : Bool} {m : Memory} (y : Exit) → Holds fs x given steps entries recorded m
    → Holds fs y given steps entries recorded (record m { exit = y })
exiting y p = record { frames = p.frames; exit = refl; given = p.given; steps = p.steps; entries = p.entries; recorded = p.recorded }

pub again_round : {fs : List Frame} {x : Exit} {given steps entries : ℕ} {recorded : Bool} {m n : Memory} (gs hs : List Frame) → Holds fs x given steps entries recorded m
    → Holds ((vec_items m.frames ++ gs) ++ hs) m.exit m.given m.steps m.entries m.recorded n → Holds ((fs ++ gs) ++ hs) x given steps entries recorded n
again_round gs hs p q =
    record {
      frames = q.frames ∙ ap (λ (l : List Frame). (l ++ gs) ++ hs) p.frames;
      exit = q.exit ∙ p.exit;
      given = q.given ∙ p.given;
      steps = q.steps ∙ p.steps;
      entries = q.entries ∙ p.entries;
      recorded = q.recorded ∙ p.recorded;
    }

module _ {S : Type 0} (H : Meaning S) (B : ℕ) (rec : ℕ → Option ℕ) (a : Slots) (W : ℕ) (w : Result S) where
  -- the top frame of a run that goes on normally
  pub top : (fs : List Frame) (f : Frame) {x : Exit} {h : S} {σ : List ℕ} {given steps entries : ℕ} {recorded : Bool} → x ≡ E.Normal
      → Leads H B rec a W w (fs ++ f ∷ []) x h σ given steps entries recorded → Opened H B rec a W w fs f E.Normal h σ given steps entries recorded
  top fs f {x} {h} {σ} {given} {steps} {entries} {recorded} n l =
      opened H B rec a W w (subst (λ (y : Exit). Leads H B rec a W w (fs ++ f ∷ []) y h σ given steps entries recorded) n l)

  module _ {fs : List Frame} {f : Frame} {h : S} {σ : List ℕ} {given steps entries : ℕ} {recorded : Bool}
      (o : Opened H B rec a W w fs f E.Normal h σ given steps entries recorded) (t : Task) (is : o.task ≡ t) (gs : List Frame) (k : List Task) where
    whole : resume H B rec o.kont (act H B rec (around o.kont) t (done normal (state_of h σ given steps entries recorded))) ≡ w
    whole = subst (λ (u : Task). resume H B rec o.kont (act H B rec (around o.kont) u (done normal (state_of h σ given steps entries recorded))) ≡ w) is o.same

    -- it goes on normally
    pub stay : {x : Exit} → x ≡ E.Normal → (h' : S) (σ' : List ℕ) (given' entries' : ℕ) → Stacked a B W steps gs k → weights k < weight t + weights o.kont
        → resume H B rec k (done normal (state_of h' σ' given' steps entries' recorded)) ≡ resume H B rec o.kont (act H B rec (around o.kont) t (done normal (state_of h σ given steps entries recorded)))
        → entries' + owed k ≤ entries + (owing t + owed o.kont)
        → Next H B rec a W w fs f steps gs x h' σ' given' steps entries' recorded
    stay {x} n h' σ' given' entries' m lt e c =
        let lt' : weights k < weight o.task + weights o.kont = rw is lt in
        let paid : entries + (owing t + owed o.kont) ≤ steps = rw is at o.counted in
        subst (λ (y : Exit). Next H B rec a W w fs f steps gs y h' σ' given' steps entries' recorded) (sym n)
        (next (closes H B rec a W w o gs E.Normal h' σ' given' entries' recorded k m lt' (e ∙ whole) (omega arith) o.calm))

    -- it ends otherwise
    pub goes : (y : Exit) (h' : S) (σ' : List ℕ) (given' entries' : ℕ) → Stacked a B W steps gs k → weights k < weight t + weights o.kont
        → resume H B rec k (result y (state_of h' σ' given' steps entries' recorded)) ≡ resume H B rec o.kont (act H B rec (around o.kont) t (done normal (state_of h σ given steps entries recorded)))
        → entries' + owed k ≤ entries + (owing t + owed o.kont)
        → Next H B rec a W w fs f steps gs y h' σ' given' steps entries' recorded
    goes y h' σ' given' entries' m lt e c =
        let lt' : weights k < weight o.task + weights o.kont = rw is lt in
        let paid : entries + (owing t + owed o.kont) ≤ steps = rw is at o.counted in
        next (closes H B rec a W w o gs y h' σ' given' entries' recorded k m lt' (e ∙ whole) (omega arith) (calm_false y recorded o.calm))

    -- a step is paid
    pub paying : {x : Exit} → x ≡ E.Normal → (h' : S) (σ' : List ℕ) (given' entries' : ℕ) → Stacked a B W (suc steps) gs k → weights k ≤ W → steps < B
        → resume H B rec k (done normal (state_of h' σ' given' (suc steps) entries' recorded)) ≡ resume H B rec o.kont (act H B rec (around o.kont) t (done normal (state_of h σ given steps entries recorded)))
        → entries' + owed k ≤ suc (entries + (owing t + owed o.kont))
        → Next H B rec a W w fs f steps gs x h' σ' given' (steps + 1) entries' recorded
    paying {x} n h' σ' given' entries' m le b e c =
        let paid : entries + (owing t + owed o.kont) ≤ steps = rw is at o.counted in
        subst (λ (y : Exit). Next H B rec a W w fs f steps gs y h' σ' given' (steps + 1) entries' recorded) (sym n)
        (next (pays H B rec a W w o gs E.Normal h' σ' given' entries' recorded k m le b (e ∙ whole) (omega arith) o.calm))
