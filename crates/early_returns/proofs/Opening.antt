-- The opening of a lowered scope, run: its five instructions leave the sentinel 1 at the scope's place n.
-- Every host answers the four questions alike and stays as it is.
use Rattle.std.proofs.Common.{◌≡◌, ℕ, suc, ◌+◌, ◌<◌, ◌≤◌, false, List, [], ◌∷◌, length, Some, Option, refl, ◌∙◌, arith}
use Rattle.hir.specs.declared.place.Place.{Place}
use Rattle.hir.specs.declared.place.Effect.TheVariants.{ConditionallyMutate}
use Rattle.hir.specs.Tree.{Stmt, terminal, label, Block, nil, cons}
use Rattle.host.specs.Asked.{asked, fixed}
use Rattle.semantics.specs.Machine.{Meaning, look, put, State, normal, Result, done, stepped, gave, all_at, branch, bind, map_out, on_reply, ask, tick}
use Rattle.semantics.specs.Exec.{asks as asking, class, end_label, run_s, run_b, always}
use Rattle.simulation.proofs.Stores.{look_here, look_there, length_put}
use Rattle.early_returns.specs.Statements.{generated, reactive_place, asks, stores, opening}

-- ---- the stores that the opening leaves, one after the other
module _ (n : ℕ) where
  abbrev pub store₁ : List ℕ → List ℕ
  store₁ σ = put σ (n + 2) 2

  abbrev pub store₂ : List ℕ → List ℕ
  store₂ σ = put (store₁ σ) (n + 3) 3

  abbrev pub store₃ : List ℕ → List ℕ
  store₃ σ = put (store₂ σ) (n + 4) 4

  abbrev pub store₄ : List ℕ → List ℕ
  store₄ σ = put (store₃ σ) (n + 1) 1

  abbrev pub store₅ : List ℕ → List ℕ
  store₅ σ = put (store₄ σ) n 1

  long₁ : (σ : List ℕ) → length (store₁ σ) ≡ length σ
  long₁ σ = length_put σ (n + 2) 2

  long₂ : (σ : List ℕ) → length (store₂ σ) ≡ length σ
  long₂ σ = length_put (store₁ σ) (n + 3) 3 ∙ long₁ σ

  long₃ : (σ : List ℕ) → length (store₃ σ) ≡ length σ
  long₃ σ = length_put (store₂ σ) (n + 4) 4 ∙ long₂ σ

  long₄ : (σ : List ℕ) → length (store₄ σ) ≡ length σ
  long₄ σ = length_put (store₃ σ) (n + 1) 1 ∙ long₃ σ

  pub opened_long : (σ : List ℕ) → length (store₅ σ) ≡ length σ
  opened_long σ = length_put (store₄ σ) n 1 ∙ long₄ σ

  pub opened_below : (σ : List ℕ) (i : ℕ) → i < n → look (store₅ σ) i ≡ look σ i
  opened_below σ i h =
      look_there (store₄ σ) n 1 i (omega arith) ∙ look_there (store₃ σ) (n + 1) 1 i (omega arith) ∙ look_there (store₂ σ) (n + 4) 4 i (omega arith)
      ∙ look_there (store₁ σ) (n + 3) 3 i (omega arith) ∙ look_there σ (n + 2) 2 i (omega arith)

  module _ (σ : List ℕ) (room : n + 5 ≤ length σ) where
    symbol₁ : look (store₁ σ) (n + 2) ≡ 2
    symbol₁ = look_here σ (n + 2) 2 (omega arith)

    symbol₃ : look (store₃ σ) (n + 2) ≡ 2
    symbol₃ = look_there (store₂ σ) (n + 4) 4 (n + 2) (omega arith) ∙ look_there (store₁ σ) (n + 3) 3 (n + 2) (omega arith) ∙ symbol₁

    for₃ : look (store₃ σ) (n + 3) ≡ 3
    for₃ = look_there (store₂ σ) (n + 4) 4 (n + 3) (omega arith) ∙ look_here (store₁ σ) (n + 3) 3 (omega (arith, long₁ σ))

    arg₃ : look (store₃ σ) (n + 4) ≡ 4
    arg₃ = look_here (store₂ σ) (n + 4) 4 (omega (arith, long₂ σ))

    sentinel₄ : look (store₄ σ) (n + 1) ≡ 1
    sentinel₄ = look_here (store₃ σ) (n + 1) 1 (omega (arith, long₃ σ))

    pub opened_unset : look (store₅ σ) n ≡ 1
    opened_unset = look_here (store₄ σ) n 1 (omega (arith, long₄ σ))

-- ---- the opening
module _ {S : Type 0} (H : Meaning S) where
  -- the state after an instruction of the opening that gave v to d
  abbrev pub answered : State S → ℕ → ℕ → State S
  answered s d v = record { host = s.host; store = put s.store d v; given = v; steps = suc s.steps; entries = s.entries; records = s.records }

  -- a fixed question is answered, and the host stays
  fixed_ask : (kind payload v : ℕ) (vs : List ℕ) (s : State S) (k : State S → Result S) → fixed (asked (record { kind = kind; payload = payload; position = 0 }) vs) ≡ Some v → ask H kind payload 0 vs s k ≡ k (gave s v)
  unfolding ask on_reply
  fixed_ask kind payload v vs s k e = rw (H.keeps.says s.host _ v e, H.keeps.stays s.host _ v e)

  -- an instruction of the opening
  asked_runs : (kind payload d span v : ℕ) (ps : List Place) (vs : List ℕ) (rec : ℕ → Option ℕ) (f : ℕ) (s : State S) → class kind ≡ asking → all_at s ps ≡ vs
      → fixed (asked (record { kind = kind; payload = payload; position = 0 }) vs) ≡ Some v → run_s H (always H) rec f (asks kind payload ps d span) s ≡ done normal (answered s d v)
  unfolding tick branch bind
  asked_runs kind payload d span v ps vs rec f s c a e = rw (c, stepped_at ps, a, fixed_ask kind payload v vs (stepped s) (λ t. done normal t) e)
    where
      stepped_at : (ps : List Place) → all_at (stepped s) ps ≡ all_at s ps
      stepped_at [] = refl
      stepped_at (p ∷ ps) = rw (stepped_at ps)

  pub store_runs : (payload span v : ℕ) (d p : Place) (rec : ℕ → Option ℕ) (f : ℕ) (s : State S) → look s.store p.identifier ≡ v → run_s H (always H) rec f (stores payload d p span) s ≡ done normal (answered s d.identifier v)
  unfolding class tick branch bind
  store_runs payload span v d p rec f s e = rw e

  pub run_cons : (rec : ℕ → Option ℕ) (f : ℕ) (x : Stmt) (b : Block) (s t : State S) → run_s H (always H) rec f x s ≡ done normal t → run_b H (always H) rec f (cons x b) s ≡ run_b H (always H) rec f b t
  unfolding bind
  run_cons rec f x b s t e = rw e

  -- the state in which the old block begins: after the opening, and with the label's step
  abbrev pub opened : ℕ → State S → State S
  opened n s = record { host = s.host; store = store₅ n s.store; given = 1; steps = suc (suc (suc (suc (suc (suc s.steps))))); entries = s.entries; records = s.records }

  pub opening_runs : (n lab span : ℕ) (rec : ℕ → Option ℕ) (f : ℕ) (b : Block) (s : State S) → n + 5 ≤ length s.store
      → run_b H (always H) rec f (opening n (n + 1) (n + 2) (n + 3) (n + 4) lab span b) s ≡ bind (map_out (end_label (Some lab)) (run_b H (always H) rec f b (opened n s))) (λ t. done normal t)
  unfolding class fixed tick branch
  opening_runs n lab span rec f b s room =
      run_cons rec f (asks 28 1 [] (n + 2) span) b₁ s s₁ (asked_runs 28 1 (n + 2) span 2 [] [] rec f s refl refl refl)
      ∙ run_cons rec f (asks 23 2 one (n + 3) span) b₂ s₁ s₂ (asked_runs 23 2 (n + 3) span 3 one (2 ∷ []) rec f s₁ refl (rw (symbol₁ n s.store room)) refl)
      ∙ run_cons rec f (asks 7 3 [] (n + 4) span) b₃ s₂ s₃ (asked_runs 7 3 (n + 4) span 4 [] [] rec f s₂ refl refl refl)
      ∙ run_cons rec f (asks 12 0 three (n + 1) span) b₄ s₃ s₄ (asked_runs 12 0 (n + 1) span 1 three (2 ∷ 3 ∷ 4 ∷ []) rec f s₃ refl (rw (symbol₃ n s.store room, for₃ n s.store room, arg₃ n s.store room)) refl)
      ∙ run_cons rec f (stores 1 (reactive_place n ConditionallyMutate span) (generated (n + 1)) span) b₅ s₄ s₅ (store_runs 1 span 1 (reactive_place n ConditionallyMutate span) (generated (n + 1)) rec f s₄ (sentinel₄ n s.store room))
    where
      s₁ : State S
      s₁ = answered s (n + 2) 2

      s₂ : State S
      s₂ = answered s₁ (n + 3) 3

      s₃ : State S
      s₃ = answered s₂ (n + 4) 4

      s₄ : State S
      s₄ = answered s₃ (n + 1) 1

      s₅ : State S
      s₅ = answered s₄ n 1

      one : List Place
      one = generated (n + 2) ∷ []

      three : List Place
      three = generated (n + 2) ∷ generated (n + 3) ∷ generated (n + 4) ∷ []

      b₅ : Block
      b₅ = cons (terminal (label b 0) (Some (record { id = lab; implicit = false }))) nil

      b₄ : Block
      b₄ = cons (stores 1 (reactive_place n ConditionallyMutate span) (generated (n + 1)) span) b₅

      b₃ : Block
      b₃ = cons (asks 12 0 three (n + 1) span) b₄

      b₂ : Block
      b₂ = cons (asks 7 3 [] (n + 4) span) b₃

      b₁ : Block
      b₁ = cons (asks 23 2 one (n + 3) span) b₂
