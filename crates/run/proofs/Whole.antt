-- A whole run: it begins with the body on the stack, and when nothing is left its exit is the result.
-- Between them every turn leads to the same result.
use Rattle.std.proofs.Common.{◌≡◌, ℕ, ◌<◌, ◌≤◌, Bool, true, false, ltb, List, [], ◌∷◌, ◌++◌, length, is_some, Some, None, Ok, Err, Option, Result as Answer, unwrap_or, sym, refl, ap, ◌∙◌, subst, arith}
use Rattle.std.proofs.lemmas.Bool.{true≢false, lt-ltb, le-ltb}
use Rattle.fault.specs.declared.RunFault.{RunFault}
use Rattle.fault.specs.declared.RunFault.TheVariants.{StoreTooShort, BudgetTooLarge}
use Rattle.hir.specs.declared.tables.Tables.{Tables}
use Rattle.hir.specs.Decode.{Slots, root_of}
use Rattle.hir.specs.Held.{held, slots}
use Rattle.hir.specs.Tables.{function_of}
use Rattle.hir.specs.Tree.{nil, Function}
use Rattle.hir.specs.Numbers.{flag_number}
use Rattle.semantics.specs.declared.Ran.{Ran}
use Rattle.semantics.specs.declared.Outcome.{Outcome}
use Rattle.semantics.specs.Machine.{Meaning, State, Result, bind}
use Rattle.semantics.specs.Exec.{records_of, exec, last, outcome_of}
use Rattle.run.specs.declared.frame.Exit.{Exit}
use Rattle.run.specs.declared.frame.Exit.TheVariants as E
use Rattle.run.specs.declared.frame.Frame.{Frame}
use Rattle.run.specs.declared.frame.Frame.TheVariants as F
use Rattle.run.specs.declared.memory.Memory.{Memory}
use Rattle.run.specs.Frames.{Stacked, block_at}
use Rattle.run.specs.Holds.{Holds}
use Rattle.run.specs.Runs.{refusal, Answered, told}
use Rattle.run.specs.Tasks.{Task, block, resume}
use Rattle.run.specs.Turn.{Leads, Calm, result, state_of, whole_weight}

-- ---- the beginning
some_of : {X : Type 0} (o : Option X) (x : X) → is_some o ≡ true → o ≡ Some (unwrap_or o x)
some_of None x e = absurd (true≢false (sym e))
some_of (Some y) x e = refl

body_stands : (T : Tables) → block_at 64 (slots T.arena) T.root ≡ Some (function_of T).body
unfolding block_at root_of held
body_stands T = some_of (root_of (slots T.arena) T.root) nil T.rooted

pub starts : {S : Type 0} (H : Meaning S) (B : ℕ) (T : Tables) {fs : List Frame} {x : Exit} (h : S) (σ : List ℕ) {given steps entries : ℕ} {recorded : Bool}
    → fs ≡ F.Block T.root 64 ∷ [] → x ≡ E.Normal → given ≡ 0 → steps ≡ 0 → entries ≡ 0 → recorded ≡ false
    → Leads H B (records_of (function_of T).scopes) (slots T.arena) (whole_weight T) (exec H (function_of T) B h σ) fs x h σ given steps entries recorded
unfolding exec bind
starts H B T h σ {recorded = recorded} ef ex eg es ee er =
    record {
      kont = block (function_of T).body ∷ [];
      stacked = (F.Block T.root 64, [], ef, ((function_of T).body, refl, body_stands T, omega arith), refl);
      light = omega arith;
      same = rw (ex, eg, es, ee, er);
      paid = omega arith;
      counted = omega arith;
      calm = subst (λ (y : Exit). Calm y recorded) (sym ex) er;
    }

-- ---- the end
module _ {S : Type 0} {H : Meaning S} {B : ℕ} {rec : ℕ → Option ℕ} {a : Slots} {W : ℕ} {w : Result S} {fs : List Frame} {x : Exit} {h : S} {σ : List ℕ} {given steps entries : ℕ} {recorded : Bool} where
  pub ends : fs ≡ [] → Leads H B rec a W w fs x h σ given steps entries recorded → w ≡ result x (state_of h σ given steps entries recorded)
  ends e l = go l.kont l.stacked l.same
    where
      no_end : (ys : List Frame) (f : Frame) → fs ≡ ys ++ f ∷ [] → ⊥
      no_end [] f d = let z : ◌≡◌ {A = ℕ} 0 1 = cc in omega arith
      no_end (y ∷ ys) f d = let z : ◌≡◌ {A = ℕ} 0 1 = cc in omega arith

      go : (k : List Task) → Stacked a B W steps fs k → resume H B rec k (result x (state_of h σ given steps entries recorded)) ≡ w → w ≡ result x (state_of h σ given steps entries recorded)
      go [] m same = sym same
      go (t ∷ k) m same = absurd (no_end m.1 m.0 m.2)

  -- the same frames, told otherwise
  pub leads_with : {gs : List Frame} → fs ≡ gs → Leads H B rec a W w fs x h σ given steps entries recorded → Leads H B rec a W w gs x h σ given steps entries recorded
  leads_with e l = subst (λ (z : List Frame). Leads H B rec a W w z x h σ given steps entries recorded) e l

  -- after the top frame was taken off
  pub left : {gs hs : List Frame} {m : Memory} → fs ≡ gs → Holds hs x given steps entries recorded m → Leads H B rec a W w fs x h σ given steps entries recorded
      → Leads H B rec a W w gs m.exit h σ m.given m.steps m.entries m.recorded
  left e p l = rw (p.exit, p.given, p.steps, p.entries, p.recorded) (leads_with e l)

-- ---- the answer
outcome_is : {S : Type 0} (x : Exit) (s : State S) → outcome_of (result x s) ≡ told x
outcome_is E.Normal s = refl
outcome_is (E.Broke l) s = refl
outcome_is (E.Continued l) s = refl
outcome_is (E.Returned v) s = refl
outcome_is (E.Threw v) s = refl
outcome_is E.Spent s = refl

last_is : {S : Type 0} (x : Exit) (s : State S) → last (result x s) ≡ s
last_is E.Normal s = refl
last_is (E.Broke l) s = refl
last_is (E.Continued l) s = refl
last_is (E.Returned v) s = refl
last_is (E.Threw v) s = refl
last_is E.Spent s = refl

flag_is : (b : Bool) → ltb 0 (flag_number b) ≡ b
flag_is true = refl
flag_is false = refl

module _ {S : Type 0} (F : Function) (B : ℕ) (w : Result S) (m m' : Memory) (h h' : S) (σ σ' : List ℕ) (r : Answer Ran RunFault) where
  pub short : length σ < length F.identifiers → r ≡ Err StoreTooShort → m' ≡ m → h' ≡ h → σ' ≡ σ → Answered (refusal F B σ) w m h σ r m' h' σ'
  short l er em eh es = rw (lt-ltb _ _ l) (er, em, eh, es)

  pub large : length F.identifiers ≤ length σ → 1000000000 < B → r ≡ Err BudgetTooLarge → m' ≡ m → h' ≡ h → σ' ≡ σ → Answered (refusal F B σ) w m h σ r m' h' σ'
  large l b er em eh es = rw (le-ltb _ _ l, lt-ltb _ _ b) (er, em, eh, es)

  finished : length F.identifiers ≤ length σ → B ≤ 1000000000 → (x : Exit) (given steps entries : ℕ) (recorded : Bool) (o : Outcome) → o ≡ told x
      → w ≡ result x (state_of h' σ' given steps entries recorded)
      → r ≡ Ok (record { outcome = o; steps = steps; entries = entries; recorded = recorded }) → Answered (refusal F B σ) w m h σ r m' h' σ'
  finished l b x given steps entries recorded o eo ew er =
      let s : State S = state_of h' σ' given steps entries recorded in
      let e : last w ≡ s = ap last ew ∙ last_is x s in
      let u : outcome_of w ≡ o = ap outcome_of ew ∙ outcome_is x s ∙ sym eo in
      let f = flag_is recorded in
      rw (le-ltb _ _ l, le-ltb _ _ b) (er ∙ rw (u, e, f), ap (λ (t : State S). t.host) (sym e), ap (λ (t : State S). t.store) (sym e))

-- what was lent is what the machine left
pub returned_with : {S T : Type 0} (state : T → S) (F : Function) (B : ℕ) (w : Result S) (m m' : Memory) (h : S) (σ : List ℕ) (y z : T) (σ' σ₁ : List ℕ) (r : Answer Ran RunFault) → y ≡ z → σ' ≡ σ₁
    → length F.identifiers ≤ length σ → B ≤ 1000000000 → (x : Exit) (given steps entries : ℕ) (recorded : Bool) (o : Outcome) → o ≡ told x
    → w ≡ result x (state_of (state z) σ₁ given steps entries recorded)
    → r ≡ Ok (record { outcome = o; steps = steps; entries = entries; recorded = recorded }) → Answered (refusal F B σ) w m h σ r m' (state y) σ'
returned_with state F B w m m' h σ y z σ' σ₁ r ey es l b x given steps entries recorded o eo ew er = rw (ey, es) (finished F B w m m' h (state z) σ σ₁ r l b x given steps entries recorded o eo ew er)
