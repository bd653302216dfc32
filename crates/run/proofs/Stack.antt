-- The stack of frames and its tasks.
-- A turn opens the top frame, and closes with the tasks that it leaves: lighter, or with a step paid.
use Rattle.std.proofs.Common.{◌≡◌, ℕ, suc, ◌+◌, ◌-◌, ◌*◌, ◌<◌, ◌≤◌, Bool, List, [], ◌∷◌, ◌++◌, length, Option, sym, refl, ap, ◌∙◌, subst, suc-mul, add-one, arith}
use Rattle.hir.specs.Decode.{Slots}
use Rattle.semantics.specs.Machine.{Meaning, Result}
use Rattle.run.specs.declared.frame.Exit.{Exit}
use Rattle.run.specs.declared.frame.Frame.{Frame}
use Rattle.run.specs.declared.frame.Frame.TheVariants as F
use Rattle.run.specs.Frames.{Means, Stacked, known, weigh, weigh_all, measure}
use Rattle.run.specs.Tasks.{Task, around, act, resume, weight, weights, w_v, w_is, w_s, w_b, w_k, w_loop, w_tests, owing, owed}
use Rattle.run.specs.Turn.{Leads, Calm, result, state_of}

snoc_same : {X : Type 0} (xs ys : List X) (x y : X) → xs ++ x ∷ [] ≡ ys ++ y ∷ [] → (xs ≡ ys) × (x ≡ y)
snoc_same [] [] x y e = (refl, cc)
snoc_same {X = X} [] (z ∷ ys) x y e = absurd (no_end ys y (cc))
  where
    no_end : (ys : List X) (y : X) → [] ≡ ys ++ y ∷ [] → ⊥
    no_end [] y e = let z : ◌≡◌ {A = ℕ} 0 1 = cc in omega arith
    no_end (w ∷ ys) y e = let z : ◌≡◌ {A = ℕ} 0 1 = cc in omega arith
snoc_same {X = X} (z ∷ xs) [] x y e = absurd (no_end xs x (cc))
  where
    no_end : (ys : List X) (y : X) → ys ++ y ∷ [] ≡ [] → ⊥
    no_end [] y e = let z : ◌≡◌ {A = ℕ} 0 1 = cc in omega arith
    no_end (w ∷ ys) y e = let z : ◌≡◌ {A = ℕ} 0 1 = cc in omega arith
snoc_same {X = X} (z ∷ xs) (w ∷ ys) x y e =
    let h : z ≡ w = cc in
    let r = snoc_same xs ys x y (cc) in
    (ap (λ (v : X). v ∷ xs) h ∙ ap (λ (l : List X). w ∷ l) r.0, r.1)

-- ---- what frames weigh
weighs : (a : Slots) (B W s n w : ℕ) (f : Frame) (t : Task) → Means a B W s n w f t → weigh a f ≡ weight t
weighs a B W s n w (F.Block r d) t m = ap (known w_b) m.2 ∙ ap weight (sym m.1)
weighs a B W s n w (F.Statement k d) t m = ap (known (λ x. suc (w_s x))) m.2 ∙ ap weight (sym m.1)
weighs a B W s n w (F.Value k d) t m = ap (known w_v) m.2 ∙ ap weight (sym m.1)
weighs a B W s n w (F.Assigns p) t m = ap weight (sym m)
weighs a B W s n w (F.Instructions r d) t m = ap (known w_is) m.2 ∙ ap weight (sym m.1)
weighs a B W s n w (F.AfterLeft p k d) t m = ap (known (λ v. suc (w_v v))) m.2 ∙ ap weight (sym m.1)
weighs a B W s n w (F.AfterTest k l d) t m = rw (m.3, m.4) (ap weight (sym m.2))
weighs a B W s n w (F.Leaves x) t m = ap weight (sym m)
weighs a B W s n w (F.EndsLabel l) t m = ap weight (sym m)
weighs a B W s n w (F.EndsLoop l) t m = ap weight (sym m)
weighs a B W s n w (F.EndsSwitch l) t m = ap weight (sym m)
weighs a B W s n w (F.EndsRound l) t m = ap weight (sym m)
weighs a B W s n w (F.Starts l b d) t m = ap (known (λ x. suc (suc (suc (w_loop x))))) m.2 ∙ ap weight (sym m.1)
weighs a B W s n w (F.Rounds l b d) t m = ap weight (sym m.2)
weighs a B W s n w (F.Tests l b d) t m = ap (known w_tests) m.2 ∙ ap weight (sym m.1)
weighs a B W s n w (F.Selects c b d) t m = rw (m.3, m.4) (ap weight (sym m.2))
weighs a B W s n w (F.Cases r d) t m = ap (known w_k) m.2 ∙ ap weight (sym m.1)
weighs a B W s n w (F.Catches p r d) t m = ap (known (λ b. suc (w_b b))) m.2 ∙ ap weight (sym m.1)

weigh_snoc : (a : Slots) (fs : List Frame) (f : Frame) → weigh_all a (fs ++ f ∷ []) ≡ weigh a f + weigh_all a fs
unfolding weigh_all
weigh_snoc a [] f = refl
weigh_snoc a (g ∷ fs) f = let i = weigh_snoc a fs f in omega arith

weighs_all : (a : Slots) (B W s : ℕ) (fs : List Frame) (k : List Task) → Stacked a B W s fs k → weigh_all a fs ≡ weights k
unfolding weigh_all
weighs_all a B W s fs [] e = ap (weigh_all a) e
weighs_all a B W s fs (t ∷ k) m =
    let i = weighs_all a B W s m.1 k m.4 in
    let j = weighs a B W s (length m.1) (weights k) m.0 t m.3 in
    ap (weigh_all a) m.2 ∙ weigh_snoc a m.1 m.0 ∙ rw (i, j)

-- ---- later, a loop has still rounds enough
means_later : (a : Slots) (B W s s' n w : ℕ) (f : Frame) (t : Task) → s ≤ s' → Means a B W s n w f t → Means a B W s' n w f t
means_later a B W s s' n w (F.Block r d) t h m = m
means_later a B W s s' n w (F.Statement k d) t h m = m
means_later a B W s s' n w (F.Value k d) t h m = m
means_later a B W s s' n w (F.Assigns p) t h m = m
means_later a B W s s' n w (F.Instructions r d) t h m = m
means_later a B W s s' n w (F.AfterLeft p k d) t h m = m
means_later a B W s s' n w (F.AfterTest k l d) t h m = m
means_later a B W s s' n w (F.Leaves x) t h m = m
means_later a B W s s' n w (F.EndsLabel l) t h m = m
means_later a B W s s' n w (F.EndsLoop l) t h m = m
means_later a B W s s' n w (F.EndsSwitch l) t h m = m
means_later a B W s s' n w (F.EndsRound l) t h m = m
means_later a B W s s' n w (F.Starts l b d) t h m = m
means_later a B W s s' n w (F.Rounds l b d) t h m = (m.0, m.1, m.2, m.3, m.4, let p = m.5 in omega arith, m.6)
means_later a B W s s' n w (F.Tests l b d) t h m = m
means_later a B W s s' n w (F.Selects c b d) t h m = m
means_later a B W s s' n w (F.Cases r d) t h m = m
means_later a B W s s' n w (F.Catches p r d) t h m = m

pub later : (a : Slots) (B W s s' : ℕ) (fs : List Frame) (k : List Task) → s ≤ s' → Stacked a B W s fs k → Stacked a B W s' fs k
later a B W s s' fs [] h m = m
later a B W s s' fs (t ∷ k) h m =
    (m.0, m.1, m.2, means_later a B W s s' (length m.1) (weights k) m.0 t h m.3, later a B W s s' m.1 k h m.4)

-- ---- the measure
measure_lighter : (a : Slots) (B W s : ℕ) (fs gs : List Frame) → weigh_all a gs < weigh_all a fs → measure a B W s gs < measure a B W s fs
unfolding measure
measure_lighter a B W s fs gs h = omega arith

measure_paid : (a : Slots) (B W s : ℕ) (fs gs : List Frame) → s < B → weigh_all a gs ≤ W → measure a B W (s + 1) gs < measure a B W s fs
unfolding measure
measure_paid a B W s fs gs h l =
    let e : B - s ≡ suc (B - (s + 1)) = omega arith in
    let p : suc (B - (s + 1)) * suc W ≡ (B - (s + 1)) * suc W + suc W = suc-mul _ _ in
    rw e (omega (arith, p))

-- ---- a turn
module _ {S : Type 0} (H : Meaning S) (B : ℕ) (rec : ℕ → Option ℕ) (a : Slots) (W : ℕ) (w : Result S) where
  pub record Opened (fs : List Frame) (f : Frame) (x : Exit) (h : S) (σ : List ℕ) (given steps entries : ℕ) (recorded : Bool) : Type 0 where
    pub task : Task
    pub kont : List Task
    pub means : Means a B W steps (length fs) (weights kont) f task
    pub stacked : Stacked a B W steps fs kont
    pub light : weight task + weights kont ≤ W
    pub heavy : weigh_all a (fs ++ f ∷ []) ≡ weight task + weights kont
    pub same : resume H B rec kont (act H B rec (around kont) task (result x (state_of h σ given steps entries recorded))) ≡ w
    pub paid : steps ≤ B
    pub counted : entries + (owing task + owed kont) ≤ steps
    pub calm : Calm x recorded

  module _ {fs : List Frame} {f : Frame} {x : Exit} {h : S} {σ : List ℕ} {given steps entries : ℕ} {recorded : Bool} where
    pub opened : Leads H B rec a W w (fs ++ f ∷ []) x h σ given steps entries recorded → Opened fs f x h σ given steps entries recorded
    opened l = go l.kont l.stacked l.light l.same l.counted
      where
        go : (k : List Task) → Stacked a B W steps (fs ++ f ∷ []) k → weights k ≤ W → resume H B rec k (result x (state_of h σ given steps entries recorded)) ≡ w → entries + owed k ≤ steps
            → Opened fs f x h σ given steps entries recorded
        go [] m light same counted = absurd (no_end fs m)
          where
            no_end : (ys : List Frame) → ys ++ f ∷ [] ≡ [] → ⊥
            no_end [] e = let z : ◌≡◌ {A = ℕ} 0 1 = cc in omega arith
            no_end (y ∷ ys) e = let z : ◌≡◌ {A = ℕ} 0 1 = cc in omega arith
        go (t ∷ k) m light same counted =
            let e = snoc_same fs m.1 f m.0 m.2 in
            let means : Means a B W steps (length fs) (weights k) f t =
            subst (λ (r : List Frame). Means a B W steps (length r) (weights k) f t) (sym e.0) (subst (λ (g : Frame). Means a B W steps (length m.1) (weights k) g t) (sym e.1) m.3) in
            record {
              task = t;
              kont = k;
              means = means;
              stacked = subst (λ (r : List Frame). Stacked a B W steps r k) (sym e.0) m.4;
              light = light;
              heavy = weighs_all a B W steps (fs ++ f ∷ []) (t ∷ k) (f, fs, refl, means, subst (λ (r : List Frame). Stacked a B W steps r k) (sym e.0) m.4);
              same = same;
              paid = l.paid;
              counted = counted;
              calm = l.calm;
            }

    module _ (o : Opened fs f x h σ given steps entries recorded) (gs : List Frame) (y : Exit) (h' : S) (σ' : List ℕ) (given' entries' : ℕ) (recorded' : Bool) (k : List Task) where
      -- the tasks are lighter
      pub closes : Stacked a B W steps gs k → weights k < weight o.task + weights o.kont
          → resume H B rec k (result y (state_of h' σ' given' steps entries' recorded')) ≡ w → entries' + owed k ≤ steps → Calm y recorded'
          → Leads H B rec a W w gs y h' σ' given' steps entries' recorded' × (measure a B W steps gs < measure a B W steps (fs ++ f ∷ []))
      closes m l e c q =
          let v = weighs_all a B W steps gs k m in
          let u = o.heavy in
          let t = o.light in (
            record { kont = k; stacked = m; light = omega arith; same = e; paid = o.paid; counted = c; calm = q },
            measure_lighter a B W steps (fs ++ f ∷ []) gs (rw (v, u) l),
          )

      -- a step is paid
      pub pays : Stacked a B W (suc steps) gs k → weights k ≤ W → steps < B
          → resume H B rec k (result y (state_of h' σ' given' (suc steps) entries' recorded')) ≡ w → entries' + owed k ≤ suc steps → Calm y recorded'
          → Leads H B rec a W w gs y h' σ' given' (steps + 1) entries' recorded' × (measure a B W (steps + 1) gs < measure a B W steps (fs ++ f ∷ []))
      pays m l b e c q =
          let v = weighs_all a B W (suc steps) gs k m in
          let n : suc steps ≡ steps + 1 = sym (add-one steps) in (
            record {
              kont = k;
              stacked = subst (λ (s : ℕ). Stacked a B W s gs k) n m;
              light = l;
              same = subst (λ (s : ℕ). resume H B rec k (result y (state_of h' σ' given' s entries' recorded')) ≡ w) n e;
              paid = omega arith;
              counted = omega arith;
              calm = q;
            },
            measure_paid a B W steps (fs ++ f ∷ []) gs b (rw v l),
          )
