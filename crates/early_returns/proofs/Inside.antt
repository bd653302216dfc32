-- Inside a lowered scope, and at its end, where the record turns the break that stands for an open return into the return.
--   first                             second
--   values below N                    the same, and 1 at n
--   normal, break, continue, throw    the same
--   return v by an open return        break to lab, with v at n, and one bare step in advance
--   return v by a recorded scope      the same
--   return 1                          anything
use Rattle.std.proofs.Common.{◌≡◌, ℕ, ◌+◌, ◌<◌, ◌≤◌, Bool, true, false, eqb, ◌⊎◌, List, length, Some, None, Option, sym, refl, ap, ◌∙◌, inl, inr, arith, eq-eqb, ne_eqb, eqb-true}
use Rattle.hir.specs.declared.place.Place.{Place}
use Rattle.hir.specs.declared.place.Effect.TheVariants.{Capture}
use Rattle.hir.specs.declared.terminal.ReactiveLabel.{ReactiveLabel}
use Rattle.hir.specs.declared.terminal.ReactiveTerminalTargetKind.TheVariants.{Labeled}
use Rattle.hir.specs.Tree.{scope, terminal, return, break, Block, cons}
use Rattle.semantics.specs.Machine.{Meaning, look, put, State, normal, broke, continued, returned, threw, Result, done, spent, stepped, entered, recorded, branch, bind, map_out, enter, leave, tick}
use Rattle.semantics.specs.Exec.{end_label, run_s, run_b, always}
use Rattle.simulation.specs.WellFormed.{Sizes, PlaceOk}
use Rattle.simulation.proofs.Stores.{look_here, look_there, length_put}
use Rattle.simulation.proofs.Rel.{Near, Setting, Beside, Rel, Same, Opened, Below, same_rel}
use Rattle.simulation.proofs.Simulate.{outside}
use Rattle.simulation.proofs.Cong.{Runs, SRel, BRel}
use Rattle.early_returns.specs.Statements.{reactive_place, stores, opening, leaving}
use Rattle.early_returns.proofs.Opening.{opened, answered, opened_long, opened_below, opened_unset, opening_runs, store_runs, run_cons}

-- Z: the first function's sizes. long: the second's identifiers. n, lab: the scope's place and label. top: the second's labels
pub record Numbers : Type 0 where
  pub Z : Sizes
  pub long : ℕ
  pub n : ℕ
  pub lab : ℕ
  pub top : ℕ
  pub above : Z.identifiers ≤ n
  pub room : n + 5 ≤ long
  pub labels : Z.blocks ≤ lab
  pub labels_top : lab < top
  pub labels_room : Z.blocks ≤ top

module _ (M : Numbers) where
  abbrev Unset : List ℕ → Type 0
  Unset σ = (M.long ≤ length σ) × (look σ M.n ≡ 1)

  abbrev HoldsV : ℕ → List ℕ → Type 0
  HoldsV v σ = (M.long ≤ length σ) × (look σ M.n ≡ v)

  pub unset_stable : (σ : List ℕ) (i v : ℕ) → i < M.Z.identifiers → Unset σ → Unset (put σ i v)
  unset_stable σ i v h k = (rw (length_put σ i v) k.0, look_there σ i v M.n (omega (arith, M.above)) ∙ k.1)

  -- for each v, what stands for a return of v
  abbrev pub Holds : {S : Type 0} → ℕ → State S → State S → Type 0
  Holds v s t = Near M.Z.identifiers (HoldsV v) false 1 s t

  abbrev pub inside : {S : Type 0} → Setting S
  inside = record { Z = M.Z; P = Unset; stable = unset_stable; lab = M.lab; room = M.labels; Q = Holds }

  abbrev pub around : {S : Type 0} → Setting S
  around = outside M.Z M.long M.top M.labels_room

  module _ {S : Type 0} (H : Meaning S) (rec rec' : ℕ → Option ℕ) (f : ℕ) where
    abbrev pub runs_inside : Runs S
    runs_inside = record { setting = inside; host = H; first = rec; second = rec'; bound = f }

    abbrev pub runs_around : Runs S
    runs_around = record { setting = around; host = H; first = rec; second = rec'; bound = f }

    -- ---- an open return
    leaving_runs : (p : Place) (r : Block) (s : State S)
        → run_b H (always H) rec' f (leaving M.n M.lab p r) s ≡ done (broke (Some M.lab)) (stepped (answered H s M.n (look s.store p.identifier)))
    unfolding tick branch bind map_out
    leaving_runs p r s = run_cons H rec' f (stores 2 (reactive_place M.n Capture p.span) p p.span) (cons (terminal (break M.lab 0 Labeled) None) r) s
        (answered H s M.n (look s.store p.identifier)) (store_runs H 2 p.span _ (reactive_place M.n Capture p.span) p rec' f s refl)

    returning_runs : (p : Place) (i : ℕ) (m : Option ReactiveLabel) (r : Block) (s : State S) → run_b H (always H) rec f (cons (terminal (return p i) m) r) s ≡ done (returned (look s.store p.identifier)) (stepped s)
    unfolding tick branch bind map_out
    returning_runs p i m r s = refl

    left : (p : Place) (s s' : State S) → PlaceOk M.Z p → Beside inside false s s' → Holds (look s.store p.identifier) (stepped s) (stepped (answered H s' M.n (look s'.store p.identifier)))
    left p s s' k h = record {
      same_host = h.same_host;
      same_store = λ i lo. h.same_store i lo ∙ sym (look_there s'.store M.n _ i (omega (arith, M.above)));
      long = h.long;
      long' = rw (length_put s'.store M.n (look s'.store p.identifier)) h.long';
      same_given = tt;
      extra = (rw (length_put s'.store M.n (look s'.store p.identifier)) h.extra.0, look_here s'.store M.n _ (omega (arith, M.room, h.extra.0)) ∙ sym (h.same_store p.identifier k));
      bare = omega (arith, h.bare);
    }

    pub open_return : (p : Place) (i : ℕ) (m : Option ReactiveLabel) (r r' : Block) → PlaceOk M.Z p → BRel runs_inside (cons (terminal (return p i) m) r) (leaving M.n M.lab p r')
    open_return p i m r r' k = record {
      brel = λ s s' h. rw (returning_runs p i m r s) (record { rel = inr (inr (stepped (answered H s' M.n (look s'.store p.identifier)), leaving_runs p r' s', left p s s' k h)) });
    }

    -- ---- the end of a lowered scope, where its block's result is r
    abbrev closed : Result S → Result S
    closed r = bind (bind (map_out (end_label (Some M.lab)) r) (λ t. done normal t)) (λ u. leave (Some M.n) u)

    abbrev OutR : Result S → Result S → Type 0
    OutR d r = Rel around false d r

    outer : {s s' : State S} → Beside inside false s s' → Beside around false s s'
    outer h = record { same_host = h.same_host; same_store = h.same_store; long = h.long; long' = h.long'; same_given = tt; extra = h.extra.0; bare = h.bare }

    -- an open return: n holds v, and the record returns it
    close_open : (v : ℕ) (s t : State S) → Holds v s t → OutR (done (returned v) s) (leave (Some M.n) t)
    unfolding leave branch
    close_open v s t h = rw h.extra.1 (go (eqb v 1) refl)
      where
        go : (b : Bool) → eqb v 1 ≡ b → OutR (done (returned v) s) (branch b (λ w. done normal w) (λ w. done (returned (look w.store M.n)) (recorded w)) t)
        go true e = record { rel = inl (eqb-true v 1 e) }
        go false e = rw h.extra.1 (same_rel around (returned v) tt (record { same_host = h.same_host; same_store = h.same_store; long = h.long; long' = h.long'; same_given = tt; extra = h.extra.0; bare = omega (arith, h.bare) }))

    wider : (l : Option ℕ) → Below M.lab l → Below M.top l
    wider None k = tt
    wider (Some l) k = omega (arith, M.labels_top)

    close_rel : (d r : Result S) → Rel inside false d r → OutR (bind d (λ u. leave None u)) (closed r)
    unfolding bind map_out leave branch
    close_rel (done normal s) r h = rw h.rel.1 (rw h.rel.2.extra.1 (same_rel around normal tt (outer h.rel.2)))
    close_rel (done (broke None) s) r h = rw h.rel.1 (same_rel around (broke None) tt (outer h.rel.2))
    close_rel (done (broke (Some l)) s) r h =
        let lo : l < M.lab = h.rel.3 in
        let ne : l ≡ M.lab → ⊥ = omega arith in
        rw h.rel.1 (rw (ne_eqb l M.lab ne) (same_rel around (broke (Some l)) (wider (Some l) lo) (outer h.rel.2)))
    close_rel (done (continued l) s) r h = rw h.rel.1 (same_rel around (continued l) (wider l h.rel.3) (outer h.rel.2))
    close_rel (done (returned v) s) r h = go h.rel
      where
        go : ((v ≡ 1) ⊎ (Same inside false (returned v) s r ⊎ Opened inside v s r)) → OutR (done (returned v) s) (closed r)
        go (inl e) = record { rel = inl e }
        go (inr (inl p)) = rw p.1 (same_rel around (returned v) tt (outer p.2))
        go (inr (inr p)) = rw p.1 (rw (eq-eqb M.lab M.lab refl) (close_open v s p.0 p.2))
    close_rel (done (threw v) s) r h = rw h.rel.1 (same_rel around (threw v) tt (outer h.rel.2))
    close_rel (spent s) (spent t) h = record { rel = tt }
    close_rel (spent s) (done o t) h = absurd h.rel

    -- ---- the whole scope
    begun : (s s' : State S) → Beside around false s s' → Beside inside false (stepped s) (opened H M.n (entered (stepped s')))
    begun s s' h = record {
      same_host = h.same_host;
      same_store = λ i lo. h.same_store i lo ∙ sym (opened_below M.n s'.store i (omega (arith, M.above)));
      long = h.long;
      long' = rw (opened_long M.n s'.store) h.long';
      same_given = tt;
      extra = (rw (opened_long M.n s'.store) h.extra, opened_unset M.n s'.store (omega (arith, M.room, h.extra)));
      bare = omega (arith, h.bare);
    }

    lowered_runs : (x span : ℕ) (b : Block) (s : State S) → rec' x ≡ Some M.n → M.n + 5 ≤ length s.store
        → run_s H (always H) rec' f (scope x (opening M.n (M.n + 1) (M.n + 2) (M.n + 3) (M.n + 4) M.lab span b)) s ≡ closed (run_b H (always H) rec' f b (opened H M.n (entered (stepped s))))
    unfolding tick branch enter
    lowered_runs x span b s e k = rw e (ap (λ r. bind r (λ u. leave (Some M.n) u)) (opening_runs H M.n M.lab span rec' f b (entered (stepped s)) k))

    plain_runs : (x : ℕ) (b : Block) (s : State S) → rec x ≡ None → run_s H (always H) rec f (scope x b) s ≡ bind (run_b H (always H) rec f b (stepped s)) (λ u. leave None u)
    unfolding tick branch enter
    plain_runs x b s e = rw e

    pub lowered_scope : (x span : ℕ) (b b' : Block) → rec x ≡ None → rec' x ≡ Some M.n → BRel runs_inside b b'
        → SRel runs_around (scope x b) (scope x (opening M.n (M.n + 1) (M.n + 2) (M.n + 3) (M.n + 4) M.lab span b'))
    lowered_scope x span b b' e e' g = record {
      srel = λ s s' h. rw (plain_runs x b s e) (rw (lowered_runs x span b' s' e' (omega (arith, M.room, h.extra))) (close_rel _ _ (g.brel (stepped s) (opened H M.n (entered (stepped s'))) (begun s s' h))));
    }
