-- Two functions whose runs are related, whatever the bound on rounds, simulate each other as is asked.
-- The relation of the unbounded runs is carried over to the runs with a budget.
use Rattle.std.proofs.Common.{◌≡◌, ℕ, zero, suc, ◌<◌, ◌≤◌, false, ◌⊎◌, List, [], ◌∷◌, length, Some, None, Option, refl, ap, inl, inr, arith}
use Rattle.hir.specs.declared.environment.ReactiveScopeEarlyReturn.{ReactiveScopeEarlyReturn}
use Rattle.hir.specs.Tree.{ScopeInfo, Function}
use Rattle.semantics.specs.Machine.{Meaning, put, State, Out, normal, broke, continued, returned, threw, Result, done, spent}
use Rattle.semantics.specs.Targets.{nowhere, TgB}
use Rattle.semantics.specs.Exec.{recorded_place, records_of, begin, unbounded}
use Rattle.semantics.proofs.Link.{exec_unbounded, unbounded_exec}
use Rattle.simulation.specs.WellFormed.{All, IfSome, Sizes, sizes, RecordOk, ScopeOk}
use Rattle.simulation.specs.Faithful.{SameStart, Ends, EndsAlike, Simulates}
use Rattle.simulation.proofs.Stores.{length_put}
use Rattle.simulation.proofs.Rel.{Setting, Beside, Rel, RelF, Same, Below}
use Rattle.simulation.proofs.Cong.{Runs, BRel}
use Rattle.simulation.proofs.Targets.{at_b}

-- ---- the recorded places are identifiers
recorded_below : (Z : Sizes) (o : Option ReactiveScopeEarlyReturn) → IfSome (RecordOk Z) o → Below Z.identifiers (recorded_place o)
recorded_below Z None h = tt
recorded_below Z (Some r) h = h.value_in

pub places : (Z : Sizes) (ss : List ScopeInfo) → All (ScopeOk Z) ss → (x : ℕ) → Below Z.identifiers (records_of ss x)
unfolding records_of
places Z [] h x = tt
places Z (s ∷ ss) h zero = recorded_below Z s.early h.0.record_in
places Z (s ∷ ss) h (suc x) = places Z ss h.1 x

-- ---- the setting of whole functions: of the second store its length is kept, and no return is open
pub stays_long : (n m : ℕ) (σ : List ℕ) (i v : ℕ) → i < m → n ≤ length σ → n ≤ length (put σ i v)
stays_long n m σ i v h k = rw (length_put σ i v) k

abbrev pub outside : {S : Type 0} → (Z : Sizes) (n lab : ℕ) → Z.blocks ≤ lab → Setting S
outside Z n lab room = record { Z = Z; P = λ σ. n ≤ length σ; stable = stays_long n Z.identifiers; lab = lab; room = room; Q = λ v s t. ⊥ }

-- lab: no label of the first function is above it
module _ (F F' : Function) (lab : ℕ) (room : F.counters.blocks ≤ lab) where
  abbrev pub whole : {S : Type 0} → Meaning S → ℕ → Runs S
  whole H f = record { setting = outside (sizes F) (length F'.identifiers) lab room; host = H; first = records_of F.scopes; second = records_of F'.scopes; bound = f }

  pub record Related (S : Type 0) : Type 0 where
    pub targets : TgB F.body nowhere
    pub targets' : TgB F'.body nowhere
    pub grown : length F.identifiers ≤ length F'.identifiers
    pub related : (H : Meaning S) (f : ℕ) → BRel (whole H f) F.body F'.body

  module _ {S : Type 0} (R : Related S) (H : Meaning S) (h : S) (σ σ' : List ℕ) (start : SameStart F F' σ σ') where
    abbrev K : Setting S
    K = outside (sizes F) (length F'.identifiers) lab room

    begins : Beside K false (begin H h σ) (begin H h σ')
    begins = record { same_host = refl; same_store = start.same; long = start.first_long; long' = omega (arith, R.grown, start.second_long); same_given = tt; extra = start.second_long; bare = omega arith }

    runs_related : (f : ℕ) → Rel K false (unbounded H F f h σ) (unbounded H F' f h σ')
    unfolding unbounded
    runs_related f = rw (at_b F.body nowhere R.targets) (rw (at_b F'.body nowhere R.targets') ((R.related H f).brel _ _ begins))

    abbrev Goal : Out → State S → Type 0
    Goal o t = (o ≡ returned 1) ⊎ EndsAlike H F' h σ' o t

    ended : (f : ℕ) (o : Out) (t : State S) → Same K false o t (unbounded H F' f h σ') → Goal o t
    ended f o t p = inr (p.0.steps, p.0, unbounded_exec H F' h σ' p.0.steps f o p.0 p.1 (omega arith), record { same_host = p.2.same_host; bare = omega (arith, p.2.bare) })

    go_forth : (f : ℕ) (o : Out) (t : State S) → Rel K false (done o t) (unbounded H F' f h σ') → Goal o t
    go_forth f normal t r = ended f normal t r.rel
    go_forth f (broke l) t r = ended f (broke l) t r.rel
    go_forth f (continued l) t r = ended f (continued l) t r.rel
    go_forth f (threw v) t r = ended f (threw v) t r.rel
    go_forth f (returned v) t r = pick r.rel
      where
        pick : RelF K false (done (returned v) t) (unbounded H F' f h σ') → Goal (returned v) t
        pick (inl e) = inl (ap returned e)
        pick (inr (inl p)) = ended f (returned v) t p
        pick (inr (inr p)) = absurd p.2

    go_back : (f : ℕ) (o' : Out) (t' : State S) (d : Result S) → unbounded H F f h σ ≡ d → Rel K false d (done o' t') → (B : ℕ) × (o : Out) × (t : State S) × Ends H F h σ B o t
    go_back f o' t' (done o t) e r = (t.steps, o, t, unbounded_exec H F h σ t.steps f o t e (omega arith))
    go_back f o' t' (spent t) e r = absurd r.rel

  pub simulates : (S : Type 0) → Related S → Simulates S F F'
  simulates S R = record {
    grows = R.grown;
    forth = λ H h σ σ' start B o t e.
        let d = (exec_unbounded H F h σ B o t e).0 in
        go_forth R H h σ σ' start (suc B) o t (rw d at (runs_related R H h σ σ' start (suc B)));
    back = λ H h σ σ' start B o t e.
        let d = (exec_unbounded H F' h σ' B o t e).0 in
        go_back R H h σ σ' start (suc B) o t _ refl (rw d at (runs_related R H h σ σ' start (suc B)));
  }
