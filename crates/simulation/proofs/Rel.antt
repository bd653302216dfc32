-- Runs side by side: when two states and two results are related, and that the machine's combinators keep them so.
-- Every pass has its own setting; one lemma for each combinator serves them all.
--   first                  second
--   host, values below N   equal
--   steps                  no more, less six for each entry and one for a record's return
--   outcome                the same; or a break to lab, for a return that the pass has opened
--   return 1               anything
--   no end                 no end
use Rattle.std.proofs.Common.{◌≡◌, ℕ, zero, suc, ◌+◌, ◌*◌, ◌<◌, ◌≤◌, Bool, true, false, eqb, ◌⊎◌, List, [], ◌∷◌, length, Some, None, Option, sym, refl, ap, ◌∙◌, inl, inr, arith, ne_eqb, eqb-true, Ok, Err}
use borrow.Author.Tests.{eqb-false}
use Rattle.hir.specs.declared.place.Place.{Place}
use Rattle.host.specs.Asked.{Asked, asked, Reply}
use Rattle.semantics.specs.Machine.{Meaning, look, put, State, Out, normal, broke, continued, returned, threw, Result, done, spent, stepped, wrote, moved, gave, all_at, last_at, store_all, assign, branch, bind, handle, map_out, enter, leave, on_reply, ask, test, tick, iter}
use Rattle.semantics.specs.Exec.{when, has_label, end_loop, end_round, end_label, always}
use Rattle.simulation.specs.WellFormed.{All, IfSome, Sizes, PlaceOk}
use Rattle.simulation.proofs.Stores.{look_here, look_there, length_put}

-- does the value given count? It does behind a value, and is idle between statements
abbrev pub Given : Bool → ℕ → ℕ → Type 0
Given true a b = a ≡ b
Given false a b = Unit {0}

-- N: the first function's identifiers. P: kept of the second store. c: bare steps that the second may have in advance
pub record Near {S : Type 0} (N : ℕ) (P : List ℕ → Type 0) (g : Bool) (c : ℕ) (s s' : State S) : Type 0 where
  pub same_host : s.host ≡ s'.host
  pub same_store : (i : ℕ) → i < N → look s.store i ≡ look s'.store i
  pub long : N ≤ length s.store
  pub long' : N ≤ length s'.store
  pub same_given : Given g s.given s'.given
  pub extra : P s'.store
  pub bare : s'.steps + 6 * s.entries + s.records ≤ c + s.steps + 6 * s'.entries + s'.records

abbrev pub Gone : {S : Type 0} → Result S → Type 0
Gone (done o t) = ⊥
Gone (spent t) = Unit {0}

-- what a relation is over. Z: the first function's sizes. P: kept of the second store. The first tree's labels are below lab, and where the first returns by an open return, the second breaks to lab, with Q
pub record Setting (S : Type 0) : Type 1 where
  pub Z : Sizes
  pub P : List ℕ → Type 0
  pub stable : (σ : List ℕ) (i v : ℕ) → i < Z.identifiers → P σ → P (put σ i v)
  pub lab : ℕ
  pub room : Z.blocks ≤ lab
  pub Q : ℕ → State S → State S → Type 0

-- a label that a statement has, or that a jump names
abbrev pub Below : ℕ → Option ℕ → Type 0
Below n m = IfSome (λ l. l < n) m

abbrev pub OkOut : ℕ → Out → Type 0
OkOut lab normal = Unit {0}
OkOut lab (broke l) = Below lab l
OkOut lab (continued l) = Below lab l
OkOut lab (returned v) = Unit {0}
OkOut lab (threw v) = Unit {0}

module _ {S : Type 0} (K : Setting S) where
  -- between statements, and behind a value
  abbrev pub Beside : Bool → State S → State S → Type 0
  Beside g s t = Near K.Z.identifiers K.P g 0 s t

  abbrev pub Same : Bool → Out → State S → Result S → Type 0
  Same g o s r = (t : State S) × (r ≡ done o t) × Beside g s t × OkOut K.lab o

  abbrev pub Opened : ℕ → State S → Result S → Type 0
  Opened v s r = (t : State S) × (r ≡ done (broke (Some K.lab)) t) × K.Q v s t

  -- the first result against the second; of a first run that returns the sentinel nothing is asked
  abbrev pub RelF : Bool → Result S → Result S → Type 0
  RelF g (done normal s) r = Same g normal s r
  RelF g (done (broke l) s) r = Same false (broke l) s r
  RelF g (done (continued l) s) r = Same false (continued l) s r
  RelF g (done (returned v) s) r = (v ≡ 1) ⊎ (Same false (returned v) s r ⊎ Opened v s r)
  RelF g (done (threw v) s) r = Same false (threw v) s r
  RelF g (spent s) r = Gone r

  pub record Rel (g : Bool) (d r : Result S) : Type 0 where
    pub rel : RelF g d r

  pub normal_rel : {g : Bool} {s s' : State S} → Beside g s s' → Rel g (done normal s) (done normal s')
  normal_rel {s' = s'} h = record { rel = (s', refl, h, tt) }

  pub same_rel : (o : Out) {s s' : State S} → OkOut K.lab o → Beside false s s' → Rel false (done o s) (done o s')
  same_rel normal {s} {s'} k h = record { rel = (s', refl, h, k) }
  same_rel (broke l) {s} {s'} k h = record { rel = (s', refl, h, k) }
  same_rel (continued l) {s} {s'} k h = record { rel = (s', refl, h, k) }
  same_rel (returned v) {s} {s'} k h = record { rel = inr (inl (s', refl, h, k)) }
  same_rel (threw v) {s} {s'} k h = record { rel = (s', refl, h, k) }

  broke_rel : (g : Bool) (l : Option ℕ) {s s' : State S} → Below K.lab l → Beside false s s' → Rel g (done (broke l) s) (done (broke l) s')
  broke_rel g l {s} {s'} k h = record { rel = (s', refl, h, k) }

  continued_rel : (g : Bool) (l : Option ℕ) {s s' : State S} → Below K.lab l → Beside false s s' → Rel g (done (continued l) s) (done (continued l) s')
  continued_rel g l {s} {s'} k h = record { rel = (s', refl, h, k) }

  threw_rel : (g : Bool) (v : ℕ) {s s' : State S} → Beside false s s' → Rel g (done (threw v) s) (done (threw v) s')
  threw_rel g v {s} {s'} h = record { rel = (s', refl, h, tt) }

  gone_bind : (r : Result S) (k : State S → Result S) → Gone r → Gone (bind r k)
  unfolding bind
  gone_bind (done o t) k h = absurd h
  gone_bind (spent t) k h = tt

  gone_map : (r : Result S) (g : Out → Out) → Gone r → Gone (map_out g r)
  unfolding map_out
  gone_map (done o t) g h = absurd h
  gone_map (spent t) g h = tt

  gone_handle : (r : Result S) (k : ℕ → State S → Result S) → Gone r → Gone (handle r k)
  unfolding handle
  gone_handle (done o t) k h = absurd h
  gone_handle (spent t) k h = tt

  -- a return goes through what takes neither it nor the break that stands for it
  through : {g n : Bool} (v : ℕ) (s : State S) (r r₂ : Result S) → ((t : State S) → r ≡ done (returned v) t → r₂ ≡ done (returned v) t)
      → ((t : State S) → r ≡ done (broke (Some K.lab)) t → r₂ ≡ done (broke (Some K.lab)) t) → Rel g (done (returned v) s) r → Rel n (done (returned v) s) r₂
  through v s r r₂ f j h = record { rel = go h.rel }
    where
      go : ((v ≡ 1) ⊎ (Same false (returned v) s r ⊎ Opened v s r)) → (v ≡ 1) ⊎ (Same false (returned v) s r₂ ⊎ Opened v s r₂)
      go (inl e) = inl e
      go (inr (inl p)) = inr (inl (p.0, f p.0 p.1, p.2, p.3))
      go (inr (inr p)) = inr (inr (p.0, j p.0 p.1, p.2))

  pub bind_rel : {g n : Bool} {d r : Result S} {k j : State S → Result S} → Rel g d r → ((t t' : State S) → Beside g t t' → Rel n (k t) (j t')) → Rel n (bind d k) (bind r j)
  unfolding bind
  bind_rel {d = done normal t} h f = rw h.rel.1 (f t _ h.rel.2)
  bind_rel {n = n} {d = done (broke l) t} h f = rw h.rel.1 (broke_rel n l h.rel.3 h.rel.2)
  bind_rel {n = n} {d = done (continued l) t} h f = rw h.rel.1 (continued_rel n l h.rel.3 h.rel.2)
  bind_rel {d = done (returned v) t} h f = through v t _ _ (λ t e. rw e) (λ t e. rw e) h
  bind_rel {n = n} {d = done (threw v) t} h f = rw h.rel.1 (threw_rel n v h.rel.2)
  bind_rel {d = spent t} {r} {k} {j} h f = record { rel = gone_bind r j h.rel }

  pub handle_rel : {d r : Result S} {k j : ℕ → State S → Result S} → Rel false d r → ((v : ℕ) (t t' : State S) → Beside false t t' → Rel false (k v t) (j v t')) → Rel false (handle d k) (handle r j)
  unfolding handle
  handle_rel {d = done (threw v) t} h f = rw h.rel.1 (f v t _ h.rel.2)
  handle_rel {d = done (broke l) t} h f = rw h.rel.1 (same_rel (broke l) h.rel.3 h.rel.2)
  handle_rel {d = done (continued l) t} h f = rw h.rel.1 (same_rel (continued l) h.rel.3 h.rel.2)
  handle_rel {d = done (returned v) t} h f = through v t _ _ (λ t e. rw e) (λ t e. rw e) h
  handle_rel {d = done normal t} h f = rw h.rel.1 (same_rel normal tt h.rel.2)
  handle_rel {d = spent t} {r} {k} {j} h f = record { rel = gone_handle r j h.rel }

  -- what a statement may do to outcomes
  pub record Catches (g : Out → Out) : Type 0 where
    pub keeps_return : (v : ℕ) → g (returned v) ≡ returned v
    pub keeps_open : g (broke (Some K.lab)) ≡ broke (Some K.lab)
    pub keeps_ok : (o : Out) → OkOut K.lab o → OkOut K.lab (g o)

  pub map_rel : {d r : Result S} {g : Out → Out} → Catches g → Rel false d r → Rel false (map_out g d) (map_out g r)
  unfolding map_out
  map_rel {d = done normal t} {r} {g} c h = rw h.rel.1 (same_rel (g normal) (c.keeps_ok normal tt) h.rel.2)
  map_rel {d = done (broke l) t} {r} {g} c h = rw h.rel.1 (same_rel (g (broke l)) (c.keeps_ok (broke l) h.rel.3) h.rel.2)
  map_rel {d = done (continued l) t} {r} {g} c h = rw h.rel.1 (same_rel (g (continued l)) (c.keeps_ok (continued l) h.rel.3) h.rel.2)
  map_rel {d = done (threw v) t} {r} {g} c h = rw h.rel.1 (same_rel (g (threw v)) (c.keeps_ok (threw v) tt) h.rel.2)
  map_rel {d = done (returned v) t} {r} {g} c h = rw (c.keeps_return v) (through v t r (map_out g r) (λ t e. rw e (rw (c.keeps_return v))) (λ t e. rw e (rw c.keeps_open)) h)
  map_rel {d = spent t} {r} {g} c h = record { rel = gone_map r g h.rel }

  pub branch_rel : {n : Bool} (b b' : Bool) (f f' g g' : State S → Result S) (t t' : State S) → b ≡ b' → Rel n (f t) (f' t') → Rel n (g t) (g' t') → Rel n (branch b f g t) (branch b' f' g' t')
  unfolding branch
  branch_rel {n} b b' f f' g g' t t' e p q = rw e (go b')
    where
      go : (b : Bool) → Rel n (branch b f g t) (branch b f' g' t')
      go true = p
      go false = q

  -- ---- states
  put_same : (σ σ' : List ℕ) (i v v' : ℕ) → i < K.Z.identifiers → K.Z.identifiers ≤ length σ → K.Z.identifiers ≤ length σ' → v ≡ v' → ((j : ℕ) → j < K.Z.identifiers → look σ j ≡ look σ' j) → (j : ℕ) → j < K.Z.identifiers → look (put σ i v) j ≡ look (put σ' i v') j
  put_same σ σ' i v v' lo l l' e h j k = go (eqb i j) refl
    where
      go : (b : Bool) → eqb i j ≡ b → look (put σ i v) j ≡ look (put σ' i v') j
      go true q = rw (← eqb-true i j q) (look_here σ i v (omega arith) ∙ e ∙ sym (look_here σ' i v' (omega arith)))
      go false q = look_there σ i v j (eqb-false i j q) ∙ h j k ∙ sym (look_there σ' i v' j (eqb-false i j q))

  pub wrote_near : {g : Bool} {s s' : State S} (i v v' : ℕ) → i < K.Z.identifiers → v ≡ v' → Beside g s s' → Beside g (wrote s i v) (wrote s' i v')
  wrote_near {s = s} {s'} i v v' k e h = record {
    same_host = h.same_host;
    same_store = put_same s.store s'.store i v v' k h.long h.long' e h.same_store;
    long = rw (length_put s.store i v) h.long;
    long' = rw (length_put s'.store i v') h.long';
    same_given = h.same_given;
    extra = K.stable s'.store i v' k h.extra;
    bare = h.bare;
  }

  pub idle_near : {g : Bool} {s s' : State S} → Beside g s s' → Beside false s s'
  idle_near h = record { same_host = h.same_host; same_store = h.same_store; long = h.long; long' = h.long'; same_given = tt; extra = h.extra; bare = h.bare }

  pub stepped_near : {g : Bool} {s s' : State S} → Beside g s s' → Beside false (stepped s) (stepped s')
  stepped_near h = record { same_host = h.same_host; same_store = h.same_store; long = h.long; long' = h.long'; same_given = tt; extra = h.extra; bare = omega (arith, h.bare) }

  pub moved_near : {g : Bool} {s s' : State S} (a a' : S) → a ≡ a' → Beside g s s' → Beside false (moved s a) (moved s' a')
  moved_near a a' e h = record { same_host = e; same_store = h.same_store; long = h.long; long' = h.long'; same_given = tt; extra = h.extra; bare = h.bare }

  pub gave_near : {g : Bool} {s s' : State S} (a a' : ℕ) → a ≡ a' → Beside g s s' → Beside true (gave s a) (gave s' a')
  gave_near a a' e h = record { same_host = h.same_host; same_store = h.same_store; long = h.long; long' = h.long'; same_given = e; extra = h.extra; bare = h.bare }

  pub enter_near : (o : Option ℕ) {s s' : State S} → Beside false s s' → Beside false (enter o s) (enter o s')
  unfolding enter
  enter_near None h = h
  enter_near (Some p) h = record { same_host = h.same_host; same_store = h.same_store; long = h.long; long' = h.long'; same_given = tt; extra = h.extra; bare = omega (arith, h.bare) }

  pub assign_near : (o : Option Place) {s s' : State S} → IfSome (PlaceOk K.Z) o → Beside true s s' → Beside false (assign o s) (assign o s')
  assign_near None k h = idle_near h
  assign_near (Some p) k h = idle_near (wrote_near p.identifier _ _ k h.same_given h)

  pub leave_rel : (o : Option ℕ) {s s' : State S} → Below K.Z.identifiers o → Beside false s s' → Rel false (leave o s) (leave o s')
  unfolding leave
  leave_rel None k h = same_rel normal tt h
  leave_rel (Some p) {s} {s'} k h =
      let e : look s.store p ≡ look s'.store p = h.same_store p k in
      branch_rel _ _ _ _ _ _ s s' (ap (λ v. eqb v 1) e) (same_rel normal tt h)
      (rw e (same_rel (returned (look s'.store p)) tt (record { same_host = h.same_host; same_store = h.same_store; long = h.long; long' = h.long'; same_given = tt; extra = h.extra; bare = omega (arith, h.bare) })))

  -- ---- what the places hold
  pub last_same : {g : Bool} (ps : List Place) (s s' : State S) (v v' : ℕ) → All (PlaceOk K.Z) ps → v ≡ v' → Beside g s s' → last_at s v ps ≡ last_at s' v' ps
  last_same [] s s' v v' k e h = e
  last_same (p ∷ ps) s s' v v' k e h = last_same ps s s' _ _ k.1 (h.same_store p.identifier k.0) h

  pub stored_near : {g : Bool} (ps : List Place) {s s' : State S} (v v' : ℕ) → All (PlaceOk K.Z) ps → v ≡ v' → Beside g s s' → Beside g (store_all s v ps) (store_all s' v' ps)
  stored_near [] v v' k e h = h
  stored_near (p ∷ ps) v v' k e h = stored_near ps v v' k.1 e (wrote_near p.identifier v v' k.0 e h)

  pub values_same : {g : Bool} (ps : List Place) (s s' : State S) → All (PlaceOk K.Z) ps → Beside g s s' → all_at s ps ≡ all_at s' ps
  values_same [] s s' k h = refl
  values_same (p ∷ ps) s s' k h = let e = h.same_store p.identifier k.0 in let f = values_same ps s s' k.1 h in cc

  -- ---- catching
  pub fresh : (m : Option ℕ) → Below K.lab m → has_label K.lab m ≡ false
  fresh None k = refl
  fresh (Some l) k = ne_eqb K.lab l (omega arith)

  when_ok : (b : Bool) (o : Out) → OkOut K.lab o → OkOut K.lab (when b o)
  when_ok true o h = tt
  when_ok false o h = h

  pub loop_catches : (m : Option ℕ) → Below K.lab m → Catches (end_loop m)
  loop_catches m k = record { keeps_return = λ v. refl; keeps_open = rw (fresh m k); keeps_ok = ok }
    where
      ok : (o : Out) → OkOut K.lab o → OkOut K.lab (end_loop m o)
      ok normal h = tt
      ok (broke None) h = tt
      ok (broke (Some l)) h = when_ok (has_label l m) (broke (Some l)) h
      ok (continued l) h = h
      ok (returned v) h = tt
      ok (threw v) h = tt

  pub round_catches : (m : Option ℕ) → Catches (end_round m)
  round_catches m = record { keeps_return = λ v. refl; keeps_open = refl; keeps_ok = ok }
    where
      ok : (o : Out) → OkOut K.lab o → OkOut K.lab (end_round m o)
      ok normal h = tt
      ok (broke l) h = h
      ok (continued None) h = tt
      ok (continued (Some l)) h = when_ok (has_label l m) (continued (Some l)) h
      ok (returned v) h = tt
      ok (threw v) h = tt

  pub label_catches : (m : Option ℕ) → Below K.lab m → Catches (end_label m)
  label_catches m k = record { keeps_return = λ v. refl; keeps_open = rw (fresh m k); keeps_ok = ok }
    where
      ok : (o : Out) → OkOut K.lab o → OkOut K.lab (end_label m o)
      ok normal h = tt
      ok (broke None) h = tt
      ok (broke (Some l)) h = when_ok (has_label l m) (broke (Some l)) h
      ok (continued l) h = h
      ok (returned v) h = tt
      ok (threw v) h = tt

  -- ---- the host, steps and rounds
  module _ (H : Meaning S) where
    pub ask_rel : {g n : Bool} (kind payload position : ℕ) (vs vs' : List ℕ) (s s' : State S) (k j : State S → Result S) → vs ≡ vs' → Beside g s s'
        → ((t t' : State S) → Beside true t t' → Rel n (k t) (j t')) → Rel n (ask H kind payload position vs s k) (ask H kind payload position vs' s' j)
    unfolding ask on_reply
    ask_rel {n = n} kind payload position vs vs' s s' k j e h f = rw (← e) (rw (← h.same_host) (go (H.answer s.host q)))
      where
        q : Asked
        q = asked (record { kind = kind; payload = payload; position = position }) vs

        u : State S
        u = moved s (H.next s.host q)

        u' : State S
        u' = moved s' (H.next s.host q)

        near : Beside false u u'
        near = moved_near _ _ refl h

        go : (r : Reply) → Rel n (on_reply H r u k) (on_reply H r u' j)
        go (Ok v) = f _ _ (gave_near v v refl near)
        go (Err t) = threw_rel n t.0 near

    pub test_rel : {n : Bool} (payload : ℕ) {y y' z z' : State S → Result S} (s s' : State S) → Beside true s s' → ((t t' : State S) → Beside true t t' → Rel n (y t) (y' t')) → ((t t' : State S) → Beside true t t' → Rel n (z t) (z' t')) → Rel n (test H payload y z s) (test H payload y' z' s')
    test_rel payload s s' h gy gz = ask_rel 42 payload 0 _ _ s s' _ _ (ap (λ v. v ∷ []) h.same_given) h
        (λ t t' h. branch_rel _ _ _ _ _ _ t t' (ap (λ v. eqb v 0) h.same_given) (gz t t' h) (gy t t' h))

    pub tick_rel : {g n : Bool} (s s' : State S) (k j : State S → Result S) → Beside g s s' → (Beside false (stepped s) (stepped s') → Rel n (k (stepped s)) (j (stepped s'))) → Rel n (tick H (always H) s k) (tick H (always H) s' j)
    unfolding tick branch
    tick_rel s s' k j h f = f (stepped_near h)

    pub iter_rel : {round round' : State S → Result S} → ((s s' : State S) → Beside false s s' → Rel false (round s) (round' s'))
        → (f : ℕ) (s s' : State S) → Beside false s s' → Rel false (iter H (always H) round f s) (iter H (always H) round' f s')
    unfolding iter
    iter_rel hb zero s s' h = record { rel = tt }
    iter_rel hb (suc f) s s' h = tick_rel s s' _ _ h (λ h. bind_rel (hb _ _ h) (λ u u' h. iter_rel hb f u u' h))
