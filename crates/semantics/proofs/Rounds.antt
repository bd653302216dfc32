-- The run without a budget: where it ends, more rounds change nothing.
-- An ending has fewer rounds than the bound, so a larger bound is met as little.
use Rattle.std.proofs.Common.{◌≡◌, ℕ, zero, suc, ◌≤◌, List, refl, subst, arith}
use Rattle.hir.specs.Tree.{Function}
use Rattle.semantics.specs.Machine.{Meaning, State, Out, normal, broke, continued, returned, threw, Result, done, spent, stepped, bind, handle, map_out, branch, tick, iter}
use Rattle.semantics.specs.Targets.{nowhere, aim_b}
use Rattle.semantics.specs.Exec.{records_of, begin, always, unbounded}
use Rattle.semantics.proofs.Alike.{KeepsReturns, Kept, alike_b}

module _ {S : Type 0} where
  abbrev AlsoF : Result S → Result S → Type 0
  AlsoF (done o t) r = r ≡ done o t
  AlsoF (spent t) r = Unit {0}

  -- where the first ends, the second ends alike
  record Also (n m : ℕ) (d r : Result S) : Type 0 where
    also : AlsoF d r

  bind_also : {n m : ℕ} {d r : Result S} {k j : State S → Result S} → Also n m d r → ((t : State S) → Also t.steps t.records (k t) (j t)) → Also n m (bind d k) (bind r j)
  unfolding bind
  bind_also {d = done normal t} h g = rw h.also (record { also = (g t).also })
  bind_also {d = done (broke l) t} h g = record { also = rw h.also }
  bind_also {d = done (continued l) t} h g = record { also = rw h.also }
  bind_also {d = done (returned v) t} h g = record { also = rw h.also }
  bind_also {d = done (threw v) t} h g = record { also = rw h.also }
  bind_also {d = spent t} h g = record { also = tt }

  handle_also : {n m : ℕ} {d r : Result S} {k j : ℕ → State S → Result S} → Also n m d r → ((v : ℕ) (t : State S) → Also t.steps t.records (k v t) (j v t)) → Also n m (handle d k) (handle r j)
  unfolding handle
  handle_also {d = done normal t} h g = record { also = rw h.also }
  handle_also {d = done (broke l) t} h g = record { also = rw h.also }
  handle_also {d = done (continued l) t} h g = record { also = rw h.also }
  handle_also {d = done (returned v) t} h g = record { also = rw h.also }
  handle_also {d = done (threw v) t} h g = rw h.also (record { also = (g v t).also })
  handle_also {d = spent t} h g = record { also = tt }

  map_also : {n m : ℕ} {d r : Result S} (g : Out → Out) → KeepsReturns g → Also n m d r → Also n m (map_out g d) (map_out g r)
  unfolding map_out
  map_also {d = done o t} g z h = record { also = rw h.also }
  map_also {d = spent t} g z h = record { also = tt }

  module _ (H : Meaning S) where
    tick_also : (s : State S) (k j : State S → Result S) → Also (suc s.steps) s.records (k (stepped s)) (j (stepped s)) → Also s.steps s.records (tick H (always H) s k) (tick H (always H) s j)
    unfolding tick branch
    tick_also s k j h = record { also = h.also }

    iter_also : {k j : State S → Result S} → ((t : State S) → Also t.steps t.records (k t) (j t)) → (x y : ℕ) (s : State S) → x ≤ y → Also s.steps s.records (iter H (always H) k x s) (iter H (always H) j y s)
    unfolding iter
    iter_also g zero y s i = record { also = tt }
    iter_also g (suc x) zero s i = absurd (omega arith)
    iter_also g (suc x) (suc y) s i = tick_also s _ _ (bind_also (g (stepped s)) (λ u. iter_also g x y u (omega arith)))

    also_kept : (x y : ℕ) → x ≤ y → Kept H (always H) (always H) x y Also
    also_kept x y i = record {
      ends = λ o t. record { also = refl };
      records = λ v t. record { also = refl };
      begins = tick_also;
      goes_on = bind_also;
      catches = handle_also;
      turns = map_also;
      loops = λ g s. iter_also g x y s i;
    }

module _ {S : Type 0} (H : Meaning S) (F : Function) (h : S) (σ : List ℕ) where
  also_runs : (x y : ℕ) → x ≤ y → AlsoF (unbounded H F x h σ) (unbounded H F y h σ)
  unfolding unbounded
  also_runs x y i = (alike_b H (always H) (always H) x y Also (also_kept H x y i) (records_of F.scopes) (aim_b F.body nowhere) (begin H h σ)).also

  pub more_rounds : (x y : ℕ) (o : Out) (t : State S) → x ≤ y → unbounded H F x h σ ≡ done o t → unbounded H F y h σ ≡ done o t
  more_rounds x y o t i e = subst (λ (d : Result S). AlsoF d (unbounded H F y h σ)) e (also_runs x y i)
