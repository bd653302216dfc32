-- A record returns at most once in a run, and then the run returns.
-- Until then the count is 0; the return goes through whatever stands around it.
use Rattle.std.proofs.Common.{◌≡◌, ℕ, zero, suc, ◌≤◌, Bool, true, false, ltb, refl, arith, ltb-true}
use Rattle.semantics.specs.Machine.{Meaning, State, Out, normal, broke, continued, returned, threw, Result, done, spent, stepped, bind, handle, map_out, branch, tick, iter}
use Rattle.semantics.specs.Targets.{nowhere, aim_b}
use Rattle.semantics.specs.Exec.{records_of, begin, within, exec}
use Rattle.semantics.specs.Laws.{bit, RecordAt, RecordsOnce}
use Rattle.semantics.proofs.Alike.{KeepsReturns, Kept, alike_b}

module _ {S : Type 0} where
  abbrev OnceF : Result S → Type 0
  OnceF (done normal t) = t.records ≡ 0
  OnceF (done (broke l) t) = t.records ≡ 0
  OnceF (done (continued l) t) = t.records ≡ 0
  OnceF (done (returned v) t) = t.records ≤ 1
  OnceF (done (threw v) t) = t.records ≡ 0
  OnceF (spent t) = t.records ≡ 0

  -- from a state in which no record has returned
  record Once (n m : ℕ) (d r : Result S) : Type 0 where
    once : m ≡ 0 → OnceF d

  none_yet : (o : Out) (t : State S) → t.records ≡ 0 → OnceF (done o t)
  none_yet normal t h = h
  none_yet (broke l) t h = h
  none_yet (continued l) t h = h
  none_yet (returned v) t h = omega arith
  none_yet (threw v) t h = h

  bind_once : {n m : ℕ} {d r : Result S} {k j : State S → Result S} → Once n m d r → ((t : State S) → Once t.steps t.records (k t) (j t)) → Once n m (bind d k) (bind r j)
  unfolding bind
  bind_once {d = done normal t} h g = record { once = λ e. (g t).once (h.once e) }
  bind_once {d = done (broke l) t} h g = record { once = h.once }
  bind_once {d = done (continued l) t} h g = record { once = h.once }
  bind_once {d = done (returned v) t} h g = record { once = h.once }
  bind_once {d = done (threw v) t} h g = record { once = h.once }
  bind_once {d = spent t} h g = record { once = h.once }

  handle_once : {n m : ℕ} {d r : Result S} {k j : ℕ → State S → Result S} → Once n m d r → ((v : ℕ) (t : State S) → Once t.steps t.records (k v t) (j v t)) → Once n m (handle d k) (handle r j)
  unfolding handle
  handle_once {d = done normal t} h g = record { once = h.once }
  handle_once {d = done (broke l) t} h g = record { once = h.once }
  handle_once {d = done (continued l) t} h g = record { once = h.once }
  handle_once {d = done (returned v) t} h g = record { once = h.once }
  handle_once {d = done (threw v) t} h g = record { once = λ e. (g v t).once (h.once e) }
  handle_once {d = spent t} h g = record { once = h.once }

  map_once : {n m : ℕ} {d r : Result S} (g : Out → Out) → KeepsReturns g → Once n m d r → Once n m (map_out g d) (map_out g r)
  unfolding map_out
  map_once {d = done normal t} g z h = record { once = λ e. none_yet (g normal) t (h.once e) }
  map_once {d = done (broke l) t} g z h = record { once = λ e. none_yet (g (broke l)) t (h.once e) }
  map_once {d = done (continued l) t} g z h = record { once = λ e. none_yet (g (continued l)) t (h.once e) }
  map_once {d = done (returned v) t} g z h = record { once = λ e. rw (z v) (h.once e) }
  map_once {d = done (threw v) t} g z h = record { once = λ e. none_yet (g (threw v)) t (h.once e) }
  map_once {d = spent t} g z h = record { once = h.once }

  module _ (H : Meaning S) (ok : ℕ → Bool) where
    tick_once : (s : State S) (k j : State S → Result S) → Once (suc s.steps) s.records (k (stepped s)) (j (stepped s)) → Once s.steps s.records (tick H ok s k) (tick H ok s j)
    unfolding tick branch
    tick_once s k j h = record { once = go (ok s.steps) }
      where
        go : (b : Bool) → s.records ≡ 0 → OnceF (branch b (λ t. k (stepped t)) spent s)
        go true e = h.once e
        go false e = e

    iter_once : {k j : State S → Result S} → ((t : State S) → Once t.steps t.records (k t) (j t)) → (x : ℕ) (s : State S) → Once s.steps s.records (iter H ok k x s) (iter H ok j x s)
    unfolding iter
    iter_once g zero s = record { once = λ e. e }
    iter_once g (suc x) s = tick_once s _ _ (bind_once (g (stepped s)) (λ u. iter_once g x u))

    once_kept : (x : ℕ) → Kept H ok ok x x Once
    once_kept x = record {
      ends = λ o t. record { once = none_yet o t };
      records = λ v t. record { once = λ e. omega arith };
      begins = tick_once;
      goes_on = bind_once;
      catches = handle_once;
      turns = map_once;
      loops = λ g s. iter_once g x s;
    }

-- a count of at most one is the bit that says whether it is above zero
as_bit : (n : ℕ) → n ≤ 1 → n ≡ bit (ltb 0 n)
as_bit zero h = refl
as_bit (suc zero) h = refl
as_bit (suc (suc n)) h = absurd (omega arith)

none_told : (n : ℕ) → n ≡ 0 → ltb 0 n ≡ true → ⊥
none_told n e h = let z = ltb-true 0 n h in absurd (omega arith)

module _ {S : Type 0} where
  told : (r : Result S) → OnceF r → RecordAt r
  told (done normal t) h = record { at_most_one = as_bit _ (omega arith); returns = λ e. absurd (none_told _ h e) }
  told (done (broke l) t) h = record { at_most_one = as_bit _ (omega arith); returns = λ e. absurd (none_told _ h e) }
  told (done (continued l) t) h = record { at_most_one = as_bit _ (omega arith); returns = λ e. absurd (none_told _ h e) }
  told (done (returned v) t) h = record { at_most_one = as_bit _ h; returns = λ e. (v, refl) }
  told (done (threw v) t) h = record { at_most_one = as_bit _ (omega arith); returns = λ e. absurd (none_told _ h e) }
  told (spent t) h = record { at_most_one = as_bit _ (omega arith); returns = λ e. absurd (none_told _ h e) }

pub records_once : {S : Type 0} → RecordsOnce S
unfolding exec
records_once H F h σ B = told _ ((alike_b H (within H B) (within H B) (suc B) (suc B) Once (once_kept H (within H B) (suc B)) (records_of F.scopes) (aim_b F.body nowhere) (begin H h σ)).once refl)
