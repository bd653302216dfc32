-- The run with a budget against the run with a bound on rounds: what ends within the budget ends alike without one, and the other way round.
-- What is spent has used its budget up, never its rounds.
use Rattle.std.proofs.Common.{◌≡◌, ℕ, zero, suc, ◌+◌, ◌<◌, ◌≤◌, Bool, true, false, ◌⊎◌, List, sym, refl, ◌∙◌, subst, inl, inr, le_refl, arith, ltb-false, ltb-true}
use Rattle.hir.specs.Tree.{Function}
use Rattle.semantics.specs.Machine.{Meaning, State, Out, normal, broke, continued, returned, threw, Result, done, spent, stepped, recorded, bind, handle, map_out, branch, tick, iter}
use Rattle.semantics.specs.Targets.{nowhere, aim_b}
use Rattle.semantics.specs.Exec.{records_of, begin, within, always, exec, unbounded, last}
use Rattle.semantics.proofs.Alike.{KeepsReturns, Kept, alike_b}

pub either_way : (a b : ℕ) → (a ≤ b) ⊎ (b < a)
either_way a b = grind arith

onward : {a b c : ℕ} → a ≤ b → b ≤ c → a ≤ c
onward p q = omega arith

module _ {S : Type 0} (B f : ℕ) where
  -- the budget is used up
  abbrev Used : Result S → Type 0
  Used (done o t) = ⊥
  Used (spent t) = t.steps ≡ B

  -- d without a budget decides r within it; where d wanted more rounds, r is spent if d had as many rounds as the budget may need
  abbrev EndsF : Result S → Result S → Type 0
  EndsF (done o t) r = (t.steps ≤ B → r ≡ done o t) × (B < t.steps → Used r)
  EndsF (spent t) r = suc B ≤ f → Used r

  record Linked (n m : ℕ) (d r : Result S) : Type 0 where
    above : n ≤ (last d).steps
    ends : n ≤ B → EndsF d r

  -- past the budget: whatever comes later, the second is spent
  late : (d r : Result S) → B < (last d).steps → Used r → EndsF d r
  late (done o t) r h u = (λ e. absurd (omega arith), λ e. u)
  late (spent t) r h u = λ g. u

  used_bind : (r : Result S) (k : State S → Result S) → Used r → Used (bind r k)
  unfolding bind
  used_bind (done o t) k h = absurd h
  used_bind (spent t) k h = h

  used_map : (r : Result S) (g : Out → Out) → Used r → Used (map_out g r)
  unfolding map_out
  used_map (done o t) g h = absurd h
  used_map (spent t) g h = h

  used_handle : (r : Result S) (k : ℕ → State S → Result S) → Used r → Used (handle r k)
  unfolding handle
  used_handle (done o t) k h = absurd h
  used_handle (spent t) k h = h

  end_linked : (o : Out) (t : State S) → Linked t.steps t.records (done o t) (done o t)
  end_linked o t = record { above = le_refl _; ends = λ h. (λ e. refl, λ e. absurd (omega arith)) }

  record_linked : (v : ℕ) (t : State S) → Linked t.steps t.records (done (returned v) (recorded t)) (done (returned v) (recorded t))
  record_linked v t = record { above = le_refl _; ends = λ h. (λ e. refl, λ e. absurd (omega arith)) }

  bind_linked : {n m : ℕ} {d r : Result S} {k j : State S → Result S} → Linked n m d r → ((t : State S) → n ≤ t.steps → Linked t.steps t.records (k t) (j t)) → Linked n m (bind d k) (bind r j)
  unfolding bind
  bind_linked {n} {d = done normal t} {r} {k} {j} h g = record { above = onward h.above (g t h.above).above; ends = λ e. go e (either_way t.steps B) }
    where
      go : n ≤ B → ((t.steps ≤ B) ⊎ (B < t.steps)) → EndsF (k t) (bind r j)
      go e (inl i) = rw ((h.ends e).0 i) ((g t h.above).ends i)
      go e (inr i) = let a = (g t h.above).above in late (k t) (bind r j) (omega arith) (used_bind r j ((h.ends e).1 i))
  bind_linked {d = done (broke l) t} {r} {k} {j} h g = record { above = h.above; ends = λ e. (λ i. rw ((h.ends e).0 i), λ i. used_bind r j ((h.ends e).1 i)) }
  bind_linked {d = done (continued l) t} {r} {k} {j} h g = record { above = h.above; ends = λ e. (λ i. rw ((h.ends e).0 i), λ i. used_bind r j ((h.ends e).1 i)) }
  bind_linked {d = done (returned v) t} {r} {k} {j} h g = record { above = h.above; ends = λ e. (λ i. rw ((h.ends e).0 i), λ i. used_bind r j ((h.ends e).1 i)) }
  bind_linked {d = done (threw v) t} {r} {k} {j} h g = record { above = h.above; ends = λ e. (λ i. rw ((h.ends e).0 i), λ i. used_bind r j ((h.ends e).1 i)) }
  bind_linked {d = spent t} {r} {k} {j} h g = record { above = h.above; ends = λ e i. used_bind r j (h.ends e i) }

  handle_linked : {n m : ℕ} {d r : Result S} {k j : ℕ → State S → Result S} → Linked n m d r → ((v : ℕ) (t : State S) → Linked t.steps t.records (k v t) (j v t)) → Linked n m (handle d k) (handle r j)
  unfolding handle
  handle_linked {n} {d = done (threw v) t} {r} {k} {j} h g = record { above = onward h.above (g v t).above; ends = λ e. go e (either_way t.steps B) }
    where
      go : n ≤ B → ((t.steps ≤ B) ⊎ (B < t.steps)) → EndsF (k v t) (handle r j)
      go e (inl i) = rw ((h.ends e).0 i) ((g v t).ends i)
      go e (inr i) = let a = (g v t).above in late (k v t) (handle r j) (omega arith) (used_handle r j ((h.ends e).1 i))
  handle_linked {d = done normal t} {r} {k} {j} h g = record { above = h.above; ends = λ e. (λ i. rw ((h.ends e).0 i), λ i. used_handle r j ((h.ends e).1 i)) }
  handle_linked {d = done (broke l) t} {r} {k} {j} h g = record { above = h.above; ends = λ e. (λ i. rw ((h.ends e).0 i), λ i. used_handle r j ((h.ends e).1 i)) }
  handle_linked {d = done (continued l) t} {r} {k} {j} h g = record { above = h.above; ends = λ e. (λ i. rw ((h.ends e).0 i), λ i. used_handle r j ((h.ends e).1 i)) }
  handle_linked {d = done (returned v) t} {r} {k} {j} h g = record { above = h.above; ends = λ e. (λ i. rw ((h.ends e).0 i), λ i. used_handle r j ((h.ends e).1 i)) }
  handle_linked {d = spent t} {r} {k} {j} h g = record { above = h.above; ends = λ e i. used_handle r j (h.ends e i) }

  map_linked : {n m : ℕ} {d r : Result S} (g : Out → Out) → KeepsReturns g → Linked n m d r → Linked n m (map_out g d) (map_out g r)
  unfolding map_out
  map_linked {d = done o t} {r} g z h = record { above = h.above; ends = λ e. (λ i. rw ((h.ends e).0 i), λ i. used_map r g ((h.ends e).1 i)) }
  map_linked {d = spent t} {r} g z h = record { above = h.above; ends = λ e i. used_map r g (h.ends e i) }

  module _ (H : Meaning S) where
    tick_linked : (s : State S) (k j : State S → Result S) → Linked (suc s.steps) s.records (k (stepped s)) (j (stepped s)) → Linked s.steps s.records (tick H (always H) s k) (tick H (within H B) s j)
    unfolding tick branch
    tick_linked s k j h = record { above = let a = h.above in omega arith; ends = λ e. go e (within H B s.steps) refl }
      where
        go : s.steps ≤ B → (b : Bool) → within H B s.steps ≡ b → EndsF (k (stepped s)) (branch b (λ t. j (stepped t)) spent s)
        go e true i = h.ends (ltb-true _ _ i)
        go e false i = let a = h.above in let z = ltb-false _ _ i in late _ _ (omega arith) (omega arith)

    iter_above : (k : State S → Result S) → ((t : State S) → t.steps ≤ (last (k t)).steps) → (x : ℕ) (s : State S) → s.steps ≤ (last (iter H (always H) k x s)).steps
    unfolding iter tick branch bind
    iter_above k g zero s = le_refl _
    iter_above k g (suc x) s = go (λ t. iter_above k g x t) (k (stepped s)) (g (stepped s))
      where
        go : ((t : State S) → t.steps ≤ (last (iter H (always H) k x t)).steps) → (r : Result S) → suc s.steps ≤ (last r).steps → s.steps ≤ (last (bind r (λ u. iter H (always H) k x u))).steps
        go ih (done normal t) h = let z = ih t in omega arith
        go ih (done (broke l) t) h = omega arith
        go ih (done (continued l) t) h = omega arith
        go ih (done (returned v) t) h = omega arith
        go ih (done (threw v) t) h = omega arith
        go ih (spent t) h = omega arith

    iter_linked : {k j : State S → Result S} → ((t : State S) → Linked t.steps t.records (k t) (j t)) → (x y : ℕ) (s : State S) → B < y + s.steps → (suc B ≤ f → y ≤ x) → Linked s.steps s.records (iter H (always H) k x s) (iter H (within H B) j y s)
    unfolding iter
    iter_linked {k} g x zero s room more = record { above = iter_above k (λ t. (g t).above) x s; ends = λ e. absurd (omega arith) }
    iter_linked g zero (suc y) s room more = record { above = le_refl _; ends = λ e i. let z = more i in absurd (omega arith) }
    iter_linked g (suc x) (suc y) s room more = tick_linked s _ _ (bind_linked (g (stepped s)) (λ u h. iter_linked g x y u (omega arith) (λ i. let z = more i in omega arith)))

    linked : Kept H (always H) (within H B) f (suc B) Linked
    linked = record {
      ends = end_linked;
      records = record_linked;
      begins = tick_linked;
      goes_on = λ h g. bind_linked h (λ t i. g t);
      catches = handle_linked;
      turns = map_linked;
      loops = λ g s. iter_linked g f (suc B) s (omega arith) (λ i. i);
    }

module _ {S : Type 0} (H : Meaning S) (F : Function) (h : S) (σ : List ℕ) where
  abbrev Ends : Result S → Type 0
  Ends (done o t) = Unit {0}
  Ends (spent t) = ⊥

  linked_runs : (B f : ℕ) → EndsF B f (unbounded H F f h σ) (exec H F B h σ)
  unfolding exec unbounded
  linked_runs B f = (alike_b H (always H) (within H B) f (suc B) (Linked B f) (linked B f H) (records_of F.scopes) (aim_b F.body nowhere) (begin H h σ)).ends (omega arith)

  -- what is spent has used its budget up
  pub used_up : (B : ℕ) (t : State S) → exec H F B h σ ≡ spent t → t.steps ≡ B
  used_up B t e = go (unbounded H F (suc B) h σ) (linked_runs B (suc B))
    where
      is_used : Used B (suc B) (exec H F B h σ) → t.steps ≡ B
      is_used u = subst (λ (r : Result S). Used B (suc B) r) e u

      go : (d : Result S) → EndsF B (suc B) d (exec H F B h σ) → t.steps ≡ B
      go (done o u) l = pick (either_way u.steps B)
        where
          pick : ((u.steps ≤ B) ⊎ (B < u.steps)) → t.steps ≡ B
          pick (inl i) = absurd (subst (λ (r : Result S). Ends r) (sym (l.0 i) ∙ e) tt)
          pick (inr i) = is_used (l.1 i)
      go (spent u) l = is_used (l (le_refl _))

  pub unbounded_exec : (B f : ℕ) (o : Out) (t : State S) → unbounded H F f h σ ≡ done o t → t.steps ≤ B → exec H F B h σ ≡ done o t
  unbounded_exec B f o t e i = (subst (λ (d : Result S). EndsF B f d (exec H F B h σ)) e (linked_runs B f)).0 i

  pub exec_unbounded : (B : ℕ) (o : Out) (t : State S) → exec H F B h σ ≡ done o t → (unbounded H F (suc B) h σ ≡ done o t) × (t.steps ≤ B)
  exec_unbounded B o t e = go (unbounded H F (suc B) h σ) (linked_runs B (suc B))
    where
      not_used : Used B (suc B) (exec H F B h σ) → ⊥
      not_used u = subst (λ (r : Result S). Used B (suc B) r) e u

      go : (d : Result S) → EndsF B (suc B) d (exec H F B h σ) → (d ≡ done o t) × (t.steps ≤ B)
      go (done p u) l = pick (either_way u.steps B)
        where
          pick : ((u.steps ≤ B) ⊎ (B < u.steps)) → (done p u ≡ done o t) × (t.steps ≤ B)
          pick (inl i) = let z : done p u ≡ done o t = sym (l.0 i) ∙ e in (z, let q : u ≡ t = cc in rw (← q) i)
          pick (inr i) = absurd (not_used (l.1 i))
      go (spent u) l = absurd (not_used (l (le_refl _)))

  -- a larger budget changes nothing
  pub exec_larger : (B C : ℕ) (o : Out) (t : State S) → B ≤ C → exec H F B h σ ≡ done o t → exec H F C h σ ≡ done o t
  exec_larger B C o t i e = let u = exec_unbounded B o t e in unbounded_exec C (suc B) o t u.0 (let z = u.1 in omega arith)
