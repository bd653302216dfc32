-- The change that does nothing is faithful, and one faithful change after another is.
-- In between, the run starts on the last function's store.
use Rattle.std.proofs.Common.{◌≡◌, ℕ, ◌⊎◌, List, [], ◌∷◌, Some, None, Option, refl, ◌∙◌, inl, inr, arith}
use Rattle.hir.specs.Tree.{Function}
use Rattle.semantics.specs.Machine.{Meaning, State, Out, returned}
use Rattle.simulation.specs.WellFormed.{All, sizes, scopes_b, WellFormed}
use Rattle.simulation.specs.Faithful.{SameStart, NoMore, EndsAlike, Simulates, Kept, then, IdentityFaithful, CompositionFaithful}
use Rattle.simulation.proofs.Identity.{same_b}
use Rattle.simulation.proofs.Simulate.{places, whole, simulates}

module _ (S : Type 0) where
  agree : {R : ℕ → Type 0} → ((x : ℕ) → R x) → (xs : List ℕ) → All R xs
  agree f [] = tt
  agree f (x ∷ xs) = (f x, agree f xs)

  pub simulates_itself : (F : Function) → WellFormed F → Simulates S F F
  simulates_itself F w = simulates F F F.counters.blocks (omega arith) S (record {
    targets = w.jumps_land;
    targets' = w.jumps_land;
    grown = omega arith;
    related = λ H f. same_b (whole F F F.counters.blocks (omega arith) H f) (places (sizes F) F.scopes w.scopes_ok) F.body w.body_ok (agree (λ x. refl) (scopes_b F.body));
  })

  no_more : (a b c : State S) → NoMore a b → NoMore b c → NoMore a c
  no_more a b c p q = record { same_host = p.same_host ∙ q.same_host; bare = omega (arith, p.bare, q.bare) }

  pub simulates_through : {F G K : Function} → Simulates S F G → Simulates S G K → Simulates S F K
  simulates_through {F} {G} {K} p q = record {
    grows = omega (arith, p.grows, q.grows);
    forth = λ H h σ σ' e B o t r. first H h σ' e o t (p.forth H h σ σ' (upper e) B o t r);
    back = λ H h σ σ' e B o t r. let g = q.back H h σ' σ' (lower e) B o t r in p.back H h σ σ' (upper e) g.0 g.1 g.2 g.3;
  }
    where
      upper : {σ σ' : List ℕ} → SameStart F K σ σ' → SameStart F G σ σ'
      upper e = record { first_long = e.first_long; second_long = omega (arith, q.grows, e.second_long); same = e.same }

      lower : {σ σ' : List ℕ} → SameStart F K σ σ' → SameStart G K σ' σ'
      lower e = record { first_long = omega (arith, q.grows, e.second_long); second_long = e.second_long; same = λ i k. refl }

      second : (H : Meaning S) (h : S) (σ : List ℕ) (o : Out) (t t' : State S) → NoMore t t' → (o ≡ returned 1) ⊎ EndsAlike H K h σ o t' → (o ≡ returned 1) ⊎ EndsAlike H K h σ o t
      second H h σ o t t' m (inl e) = inl e
      second H h σ o t t' m (inr r) = inr (r.0, r.1, r.2, no_more t t' r.1 m r.3)

      first : (H : Meaning S) (h : S) {σ : List ℕ} (σ' : List ℕ) → SameStart F K σ σ' → (o : Out) (t : State S) → (o ≡ returned 1) ⊎ EndsAlike H G h σ' o t → (o ≡ returned 1) ⊎ EndsAlike H K h σ' o t
      first H h σ' e o t (inl d) = inl d
      first H h σ' e o t (inr r) = second H h σ' o t r.1 r.3 (q.forth H h σ' σ' (lower e) r.0 o r.1 r.2)

  pub identity_faithful : IdentityFaithful S
  identity_faithful F F' w e = let q : F ≡ F' = cc in rw (← q) (record { well_formed = w; simulates = simulates_itself F w })

  pub composition_faithful : CompositionFaithful S
  composition_faithful f g hf hg F F' w e = go (f F) refl e
    where
      go : (o : Option Function) → f F ≡ o → then g o ≡ Some F' → Kept S F F'
      go None i e = let q : None ≡ Some F' = e in absurd (let z : ◌≡◌ {A = ℕ} 0 1 = cc in omega arith)
      go (Some G) i e =
          let k = hf F G w i in
          let m = hg G F' k.well_formed e in
          record { well_formed = m.well_formed; simulates = simulates_through k.simulates m.simulates }
