-- Whatever calls are made, the function held is well-formed and simulates the loaded one, and so does the one at a draft's opening.
-- Each call keeps that: a change by its faithfulness, the others since they choose among what was held.
use Rattle.std.proofs.Common.{◌≡◌, ℕ, Bool, true, false, cond, ◌⊎◌, List, [], ◌∷◌, ◌++◌, Some, None, Option, sym, refl, ap, inl, inr, arith}
use Rattle.hir.specs.Tree.{Function}
use Rattle.simulation.specs.WellFormed.{All}
use Rattle.simulation.specs.Faithful.{Kept, Faithful}
use Rattle.simulation.proofs.Compose.{simulates_itself, simulates_through}
use Rattle.early_returns.specs.Lowering.{lowered}
use Rattle.early_returns.specs.Pass.{propagate_early_returns}
use Rattle.early_returns.proofs.PassIsDescription.{pass_is_description}
use Rattle.early_returns.proofs.Faithful.{lowering_faithful}
use Rattle.label_pruning.specs.Pruning.{prune_labels}
use Rattle.label_pruning.proofs.Faithful.{pruning_faithful}
use Rattle.calls.specs.Calls.{Call, opening, keeping, taking_back, running, lowering, pruning, walking, Made, Held, settled, draft, found, or_as_it_was, changed, leaves, after, after_all}
use Rattle.calls.specs.Promise.{Loaded, HandedIn, AllHandedIn, Holds, made, ends_draft, EndsNone, CallsPromise}
use Rattle.calls.proofs.Behaves.{behaves}

not_both : {A : Type 0} → true ≡ false → A
not_both e = let z : ◌≡◌ {A = ℕ} 0 1 = cc in absurd (omega arith)

-- ---- F was loaded
module _ (S : Type 0) (F : Function) where
  -- a change of G
  through : {G K : Function} → Kept S F G → Kept S G K → Kept S F K
  through g k = record { well_formed = k.well_formed; simulates = simulates_through S g.simulates k.simulates }

  abbrev Keeps : (Function → Function) → Type 0
  Keeps f = (G : Function) → Kept S F G → Kept S F (f G)

  lowers : Keeps propagate_early_returns
  lowers G g = rw (pass_is_description G g.well_formed) (through g ((lowering_faithful S).with_room G (lowered G) g.well_formed refl))

  prunes : Keeps prune_labels
  prunes G g = through g ((pruning_faithful S).with_room G (prune_labels G) g.well_formed refl)

  walks : (f : Function → Option Function) → Faithful S f → Keeps (λ G. or_as_it_was G (f G))
  walks f k G g = go (f G) refl
    where
      go : (o : Option Function) → f G ≡ o → Kept S F (or_as_it_was G o)
      go None e = g
      go (Some K) e = through g (k G K g.well_formed e)

  abbrev Good : Held → Type 0
  Good (settled G) = Kept S F G
  Good (draft G K) = Kept S F G × Kept S F K

  changes : (f : Function → Function) → Keeps f → (h : Held) → Good h → Good (changed h f)
  changes f k (settled G) g = g
  changes f k (draft G K) g = (g.0, k K g.1)

  good_leaves : (c : Call) (h : Held) → HandedIn S c → Good h → Good (leaves c h)
  good_leaves opening (settled G) k g = (g, g)
  good_leaves opening (draft G K) k g = g
  good_leaves keeping (settled G) k g = g
  good_leaves keeping (draft G K) k g = g.1
  good_leaves taking_back (settled G) k g = g
  good_leaves taking_back (draft G K) k g = g.0
  good_leaves running h k g = g
  good_leaves lowering h k g = changes propagate_early_returns lowers h g
  good_leaves pruning h k g = changes prune_labels prunes h g
  good_leaves (walking f) h k g = changes (λ G. or_as_it_was G (f G)) (walks f k) h g

  good_after : (b : Bool) (c : Call) (h : Held) → HandedIn S c → Good h → Good (cond b h (leaves c h))
  good_after true c h k g = g
  good_after false c h k g = good_leaves c h k g

  good_all : (ms : List Made) (h : Held) → AllHandedIn S ms → Good h → Good (after_all ms h)
  good_all [] h k g = g
  good_all (m ∷ ms) h k g = good_all ms (after m h) k.1 (good_after m.refused m.call h k.0 g)

  good_found : (h : Held) → Good h → Kept S F (found h)
  good_found (settled G) g = g
  good_found (draft G K) g = g.1

  calls_hold : Loaded F → (ms : List Made) → AllHandedIn S ms → Holds S F ms
  calls_hold w ms k =
      let g = good_found (after_all ms (settled F)) (good_all ms (settled F) k (record { well_formed = w.well_formed; simulates = simulates_itself S F w.well_formed })) in
      record { behaves = behaves S F (found (after_all ms (settled F))) w g.simulates; targets = g.well_formed.jumps_land; well_formed = g.well_formed }

-- ---- a draft keeps the function of its opening
abbrev Opened : Function → Held → Type 0
Opened F (settled G) = ⊥
Opened F (draft G K) = G ≡ F

opened_leaves : (F : Function) (c : Call) (h : Held) → ends_draft c ≡ false → Opened F h → Opened F (leaves c h)
opened_leaves F c (settled G) e g = absurd g
opened_leaves F opening (draft G K) e g = g
opened_leaves F keeping (draft G K) e g = not_both e
opened_leaves F taking_back (draft G K) e g = not_both e
opened_leaves F running (draft G K) e g = g
opened_leaves F lowering (draft G K) e g = g
opened_leaves F pruning (draft G K) e g = g
opened_leaves F (walking f) (draft G K) e g = g

opened_after : (F : Function) (b : Bool) (c : Call) (h : Held) → (b ≡ true) ⊎ (ends_draft c ≡ false) → Opened F h → Opened F (cond b h (leaves c h))
opened_after F true c h e g = g
opened_after F false c h (inl e) g = not_both (sym e)
opened_after F false c h (inr e) g = opened_leaves F c h e g

back : (F : Function) (h : Held) → Opened F h → leaves taking_back h ≡ settled F
back F (settled G) g = absurd g
back F (draft G K) g = ap settled g

taken_back : (F : Function) (ms : List Made) (h : Held) → All EndsNone ms → Opened F h → after_all (ms ++ (made taking_back ∷ [])) h ≡ settled F
taken_back F [] h k g = back F h g
taken_back F (m ∷ ms) h k g = taken_back F ms (after m h) k.1 (opened_after F m.refused m.call h k.0 g)

kept : (ms : List Made) (h : Held) → after_all (ms ++ (made keeping ∷ [])) h ≡ settled (found (after_all ms h))
kept [] (settled G) = refl
kept [] (draft G K) = refl
kept (m ∷ ms) h = kept ms (after m h)

pub calls_keep : (S : Type 0) → CallsPromise S
calls_keep S = record { holds = λ F w ms k. calls_hold S F w ms k; taken_back = λ F ms k. taken_back F ms (draft F F) k refl; kept = λ F ms. kept ms (settled F) }
