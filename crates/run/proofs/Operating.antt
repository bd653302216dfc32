-- What an instruction's own value does, told over the lists that its functions go over.
-- Places are read and written one after the other; a question goes on where its answer is a value.
use Rattle.std.proofs.Common.{◌≡◌, ℕ, suc, ◌+◌, ◌-◌, ◌<◌, ◌≤◌, List, [], ◌∷◌, ◌++◌, length, slice_get, get_or, drop, append_assoc, add-one, Some, Ok, Err, Bool, Option, Result as Answer, sym, refl, ap, ◌∙◌, subst, arith}
use Rattle.std.specs.Result.{IsErr, IsErrAnd}
use Rattle.hir.specs.declared.place.Place.{Place}
use Rattle.hir.specs.declared.value.InstructionValue.{InstructionValue}
use Rattle.hir.specs.declared.value.ReactiveValue.TheVariants as V
use Rattle.hir.specs.Options.{nth, part}
use Rattle.hir.specs.Decode.{ValueSlots, Slots, op_of}
use Rattle.hir.specs.Tree.{Op}
use Rattle.host.specs.declared.Host.{Ghosts}
use Rattle.host.specs.declared.Thrown.{Thrown}
use Rattle.semantics.specs.Machine.{Meaning, State, Result, normal, threw, done, gave, wrote, bind, ask, ask_each, on_reply, all_at, last_at, store_all, look, put}
use Rattle.semantics.specs.Exec.{declares, stores, asks, class, eval_op}
use Rattle.run.specs.declared.frame.Exit.{Exit}
use Rattle.run.specs.declared.frame.Exit.TheVariants as E
use Rattle.run.specs.declared.frame.Frame.{Frame}
use Rattle.run.specs.declared.frame.Frame.TheVariants as F
use Rattle.run.specs.Operands.{reads, lastly, stores as stored}
use Rattle.run.specs.Operations.{about, ended, AsksAll, AsksEach, Does}
use Rattle.run.specs.Turn.{Leads, meaning, result, state_of}
use Rattle.run.proofs.Decoded.{operation_parts}
use Rattle.run.proofs.Rows.{bound, none_some, some_is, row_in, next_of, next_some}
use Rattle.run.proofs.Turning.{top}

-- ---- the rows of places
module _ {S : Type 0} (H : Meaning S) (B : ℕ) (rec : ℕ → Option ℕ) (a : Slots) (W : ℕ) (w : Result S) (fs : List Frame) {x : Exit}
    {h : S} {σ : List ℕ} {given steps entries : ℕ} {recorded : Bool} (n : x ≡ E.Normal) where
  -- the rows of the value in a slot
  pub slot_rows : (k d : ℕ) (i : InstructionValue) → nth a.inner.values k ≡ Some (V.Instruction i)
      → Leads H B rec a W w (fs ++ F.Value k d ∷ []) x h σ given steps entries recorded
      → (i.written.start + i.written.count ≤ length a.inner.places) × (i.operands.start + i.operands.count ≤ length a.inner.places)
  slot_rows k d i at ld =
      let m = (top H B rec a W w fs (F.Value k d) n ld).means in
      let q = operation_parts a.inner d k m.0 m.2 i at in
      let p = bound (part a.inner.places i.written) _ q.0 q.2 in
      let r = bound (part a.inner.places i.operands) _ q.0 p.2 in
      ((row_in a.inner.places p.0 i.written p.1).0, (row_in a.inner.places r.0 i.operands r.1).0)

-- an operation is what stands in its rows
pub op_is : (a : ValueSlots) (i : InstructionValue) (o : Op) (written operands : List Place) → part a.places i.written ≡ Some written → part a.places i.operands ≡ Some operands
    → op_of a i ≡ Some o → record { kind = i.kind; payload = i.payload; written = written; operands = operands; span = i.span } ≡ o
op_is a i o written operands ew eo e = let e' = rw (ew, eo) at e in some_is e'

pub done_as : {S : Type 0} (M : Meaning S) (a : ValueSlots) (i : InstructionValue) (o : Op) (written operands : List Place) → part a.places i.written ≡ Some written
    → part a.places i.operands ≡ Some operands → op_of a i ≡ Some o → (s : State S) (r : Result S)
    → r ≡ eval_op M (class i.kind) (record { kind = i.kind; payload = i.payload; written = written; operands = operands; span = i.span }) s → r ≡ eval_op M (class o.kind) o s
done_as M a i o written operands ew eo e s r d = subst (λ (q : Op). r ≡ eval_op M (class q.kind) q s) (op_is a i o written operands ew eo e) d

-- ---- places read and written
module _ {S : Type 0} where
  last_is : (s : State S) (v : ℕ) (ps : List Place) → last_at s v ps ≡ lastly s.store v ps
  last_is s v [] = refl
  last_is s v (p ∷ ps) = last_is s (look s.store p.identifier) ps

  all_is : (s : State S) (ps : List Place) → all_at s ps ≡ reads s.store ps
  all_is s [] = refl
  all_is s (p ∷ ps) = ap (λ (l : List ℕ). look s.store p.identifier ∷ l) (all_is s ps)

  stored_is : (h : S) (σ : List ℕ) (g k e : ℕ) (r : Bool) (v : ℕ) (ps : List Place) → store_all (state_of h σ g k e r) v ps ≡ state_of h (stored σ v ps) g k e r
  stored_is h σ g k e r v [] = refl
  stored_is h σ g k e r v (p ∷ ps) = stored_is h (put σ p.identifier v) g k e r v ps

pub last_holds : (σ : List ℕ) (v : ℕ) (ps : List Place) (p : Place) → Some p ≡ slice_get ps (length ps - 1) → look σ p.identifier ≡ lastly σ v ps
last_holds σ v [] p e = none_some p (sym e)
last_holds σ v (q ∷ []) p e = let h : p ≡ q = some_is e in ap (λ (z : Place). look σ z.identifier) h
last_holds σ v (q ∷ r ∷ ps) p e =
    let n : length (q ∷ r ∷ ps) - 1 ≡ suc (length (r ∷ ps) - 1) = omega arith in
    last_holds σ (look σ q.identifier) (r ∷ ps) p (e ∙ ap (slice_get (q ∷ r ∷ ps)) n)

-- one place more
module _ (ps : List Place) (i : ℕ) (p : Place) (here : i < length ps) where
  pub stores_next : (σ σ' : List ℕ) (v : ℕ) → σ' ≡ put σ (get_or ps i p).identifier v → stored σ v (drop i ps) ≡ stored σ' v (drop (i + 1) ps)
  stores_next σ σ' v e = ap (stored σ v) (next_of ps i p here) ∙ ap (λ (τ : List ℕ). stored τ v (drop (i + 1) ps)) (sym e)

  pub reads_next : (σ vs vs' : List ℕ) (v : ℕ) → v ≡ look σ (get_or ps i p).identifier → vs' ≡ vs ++ v ∷ [] → vs ++ reads σ (drop i ps) ≡ vs' ++ reads σ (drop (i + 1) ps)
  reads_next σ vs vs' v ev e =
      ap (λ (qs : List Place). vs ++ reads σ qs) (next_of ps i p here)
      ∙ ap (λ (u : ℕ). vs ++ u ∷ reads σ (drop (i + 1) ps)) (sym ev)
      ∙ sym (append_assoc vs (v ∷ []) (reads σ (drop (i + 1) ps)))
      ∙ ap (λ (ys : List ℕ). ys ++ reads σ (drop (i + 1) ps)) (sym e)

-- ---- what is thrown on
pub throws : (r : Answer (Unit {0}) Thrown) (t : Thrown) → IsErr r → IsErrAnd r (λ e. e ≡ t) → ended r ≡ E.Threw t.0
throws (Ok d) t e f = cc
throws (Err u) t e f = ap (λ (z : Thrown). E.Threw z.0) f

-- ---- questions
module _ {T : Type 0} (H : Ghosts T) (i : InstructionValue) (n : ℕ) (vs : List ℕ) where
  -- what an answer makes of a question
  module _ (h h' : H.State) (σ : List ℕ) (given steps entries : ℕ) (recorded : Bool) (k : State H.State → Result H.State) (eh : h' ≡ H.next h (about i n vs)) where
    pub ask_value : (v : ℕ) → Ok v ≡ H.answer h (about i n vs) → ask (meaning H) i.kind i.payload n vs (state_of h σ given steps entries recorded) k ≡ k (state_of h' σ v steps entries recorded)
    unfolding ask on_reply
    ask_value v ea = rw (eh, ← ea)

    pub ask_thrown : (t : Thrown) → Err t ≡ H.answer h (about i n vs)
        → ask (meaning H) i.kind i.payload n vs (state_of h σ given steps entries recorded) k ≡ done (threw t.0) (state_of h' σ given steps entries recorded)
    unfolding ask on_reply
    ask_thrown t ea = rw (eh, ← ea)

-- a question for each written place
module _ {T : Type 0} (H : Ghosts T) (i : InstructionValue) (vs : List ℕ) (h h' : H.State) (σ : List ℕ) (given steps entries : ℕ) (recorded : Bool) (at : ℕ) (ps : List Place)
    (here : at < length ps) (eh : h' ≡ H.next h (about i (at + 1) vs)) where
  pub each_value : (p : Place) (σ' : List ℕ) (v : ℕ) → Ok v ≡ H.answer h (about i (at + 1) vs) → σ' ≡ put σ (get_or ps at p).identifier v
      → ask_each (meaning H) i.kind i.payload vs (suc at) (drop at ps) (state_of h σ given steps entries recorded)
      ≡ ask_each (meaning H) i.kind i.payload vs (suc (at + 1)) (drop (at + 1) ps) (state_of h' σ' v steps entries recorded)
  each_value p σ' v ea es =
      let n = add-one at in
      ap (λ (q : List Place). ask_each (meaning H) i.kind i.payload vs (suc at) q (state_of h σ given steps entries recorded)) (next_of ps at p here)
      ∙ ask_value H i (suc at) vs h h' σ given steps entries recorded (λ t. ask_each (meaning H) i.kind i.payload vs (suc (suc at)) (drop (at + 1) ps) (wrote t (get_or ps at p).identifier t.given))
      (eh ∙ ap (λ (k : ℕ). H.next h (about i k vs)) n) v (ea ∙ ap (λ (k : ℕ). H.answer h (about i k vs)) n)
      ∙ ap (λ (τ : List ℕ). ask_each (meaning H) i.kind i.payload vs (suc (suc at)) (drop (at + 1) ps) (state_of h' τ v steps entries recorded)) (sym es)
      ∙ ap (λ (k : ℕ). ask_each (meaning H) i.kind i.payload vs (suc k) (drop (at + 1) ps) (state_of h' σ' v steps entries recorded)) (sym n)

  pub each_thrown : (t : Thrown) → Err t ≡ H.answer h (about i (at + 1) vs)
      → ask_each (meaning H) i.kind i.payload vs (suc at) (drop at ps) (state_of h σ given steps entries recorded) ≡ done (threw t.0) (state_of h' σ given steps entries recorded)
  each_thrown t ea =
      let n = add-one at in
      let p = next_some ps at here in
      ap (λ (q : List Place). ask_each (meaning H) i.kind i.payload vs (suc at) q (state_of h σ given steps entries recorded)) p.1
      ∙ ask_thrown H i (suc at) vs h h' σ given steps entries recorded (λ t. ask_each (meaning H) i.kind i.payload vs (suc (suc at)) (drop (at + 1) ps) (wrote t p.0.identifier t.given))
      (eh ∙ ap (λ (k : ℕ). H.next h (about i k vs)) n) t (ea ∙ ap (λ (k : ℕ). H.answer h (about i k vs)) n)

-- a question at position 0, and then one for each written place
module _ {T : Type 0} (H : Ghosts T) (i : InstructionValue) (vs : List ℕ) (ps : List Place) (given : ℕ) (h h₁ : H.State) (σ : List ℕ) (eh : h₁ ≡ H.next h (about i 0 vs)) where
  abbrev then_each : State H.State → Result H.State
  then_each t = bind (ask_each (meaning H) i.kind i.payload vs 1 ps t) (λ u. done normal (gave u t.given))

  -- the first one threw
  pub all_thrown : (t : Thrown) (r : Answer (Unit {0}) Thrown) → Err t ≡ H.answer h (about i 0 vs) → ended r ≡ E.Threw t.0 → AsksAll H i vs ps given h σ r given h₁ σ
  all_thrown t r ea e steps entries recorded =
      ask_thrown H i 0 vs h h₁ σ given steps entries recorded then_each eh t ea ∙ ap (λ (x : Exit). result x (state_of h₁ σ given steps entries recorded)) (sym e)

  module _ (v : ℕ) (ea : Ok v ≡ H.answer h (about i 0 vs)) (given' : ℕ) (h' : H.State) (σ' : List ℕ) where
    -- none threw
    pub all_done : AsksEach H i vs ps v h₁ σ (Ok tt) given' h' σ' → AsksAll H i vs ps given h σ (Ok tt) v h' σ'
    unfolding bind
    all_done b steps entries recorded =
        ask_value H i 0 vs h h₁ σ given steps entries recorded then_each eh v ea ∙ ap (λ (r : Result H.State). bind r (λ u. done normal (gave u v))) (b steps entries recorded)

    -- a later one threw
    pub all_each : (t : Thrown) (r : Answer (Unit {0}) Thrown) → AsksEach H i vs ps v h₁ σ (Err t) given' h' σ' → ended r ≡ E.Threw t.0 → AsksAll H i vs ps given h σ r given' h' σ'
    unfolding bind
    all_each t r b e steps entries recorded =
        ask_value H i 0 vs h h₁ σ given steps entries recorded then_each eh v ea ∙ ap (λ (r : Result H.State). bind r (λ u. done normal (gave u v))) (b steps entries recorded)
        ∙ ap (λ (x : Exit). result x (state_of h' σ' given' steps entries recorded)) (sym e)

-- ---- an operation, by its class
module _ {T : Type 0} (H : Ghosts T) (i : InstructionValue) (operands written : List Place) (given : ℕ) (h : H.State) (σ : List ℕ) where
  pub does_declares : (σ' : List ℕ) → σ' ≡ stored σ 0 written → declares ≡ class i.kind → Does H i operands written given h σ (Ok tt) 0 h σ'
  does_declares σ' e c steps entries recorded = let l = stored_is h σ given steps entries recorded 0 written in rw (← c, l, e)

  pub does_stores : (v : ℕ) (σ' : List ℕ) → v ≡ lastly σ 0 operands → σ' ≡ stored σ v written → stores ≡ class i.kind → Does H i operands written given h σ (Ok tt) v h σ'
  does_stores v σ' ev e c steps entries recorded =
      let g : last_at (state_of h σ given steps entries recorded) 0 operands ≡ v = last_is (state_of h σ given steps entries recorded) 0 operands ∙ sym ev in
      let l = stored_is h σ given steps entries recorded v written in
      rw (← c, g, l, e)

  module _ (vs : List ℕ) (ev : vs ≡ reads σ operands) where
    shows : (steps entries : ℕ) (recorded : Bool) → all_at (state_of h σ given steps entries recorded) operands ≡ vs
    shows steps entries recorded = all_is (state_of h σ given steps entries recorded) operands ∙ sym ev

    pub does_asks : (v : ℕ) (h' : H.State) → h' ≡ H.next h (about i 0 vs) → Ok v ≡ H.answer h (about i 0 vs) → asks ≡ class i.kind → Does H i operands written given h σ (Ok tt) v h' σ
    does_asks v h' eh ea c steps entries recorded =
        let s = shows steps entries recorded in
        rw (← c, s) (sym (ask_value H i 0 vs h h' σ given steps entries recorded (λ t. done normal t) eh v ea))

    pub does_throw : (t : Thrown) (r : Answer (Unit {0}) Thrown) (h' : H.State) → h' ≡ H.next h (about i 0 vs) → Err t ≡ H.answer h (about i 0 vs) → ended r ≡ E.Threw t.0 → asks ≡ class i.kind
        → Does H i operands written given h σ r given h' σ
    does_throw t r h' eh ea e c steps entries recorded =
        let s = shows steps entries recorded in
        rw (← c, s, e) (sym (ask_thrown H i 0 vs h h' σ given steps entries recorded (λ t. done normal t) eh t ea))
