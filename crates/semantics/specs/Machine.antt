-- What a run is made of: states, results, questions to the host, steps and rounds. Assumes nothing.
use Rattle.std.specs.Prelude.{ℕ, zero, suc, Bool, true, false, List, [], ◌∷◌, Some, None, Option, ◌==◌, slice_index, slice_set, Ok, Err}
use Rattle.hir.specs.declared.place.Place.{Place}
use Rattle.host.specs.Asked.{Asked, Keeps, asked, Reply}

-- a host whose states are of the type S: the answer and the next state, and the four fixed answers
pub record Meaning (S : Type 0) : Type 0 where
  pub answer : S → Asked → Reply
  pub next : S → Asked → S
  pub keeps : Keeps answer next

-- the store: a value for each identifier; past its end every place reads 0 and keeps nothing
unfoldable pub look : List ℕ → ℕ → ℕ
look σ i = slice_index σ i

unfoldable pub put : List ℕ → ℕ → ℕ → List ℕ
put σ i v = slice_set σ i v

-- `given` is the value that was given last; `records` counts the returns by a record
pub record State (S : Type 0) : Type 0 where
  pub host : S
  pub store : List ℕ
  pub given : ℕ
  pub steps : ℕ
  pub entries : ℕ
  pub records : ℕ

-- how a part of a function ended; a jump without a label means the innermost loop (or switch)
pub data Out : Type 0 where
  normal : Out
  broke : Option ℕ → Out
  continued : Option ℕ → Out
  returned : ℕ → Out
  threw : ℕ → Out

-- a part that ended, or that wanted one more step than there was
pub data Result (S : Type 0) : Type 0 where
  done : Out → State S → Result S
  spent : State S → Result S

module _ {S : Type 0} where
  abbrev pub stepped : State S → State S
  stepped s = record { host = s.host; store = s.store; given = s.given; steps = suc s.steps; entries = s.entries; records = s.records }

  abbrev pub entered : State S → State S
  entered s = record { host = s.host; store = s.store; given = s.given; steps = s.steps; entries = suc s.entries; records = s.records }

  abbrev pub recorded : State S → State S
  recorded s = record { host = s.host; store = s.store; given = s.given; steps = s.steps; entries = s.entries; records = suc s.records }

  abbrev pub wrote : State S → ℕ → ℕ → State S
  wrote s i v = record { host = s.host; store = put s.store i v; given = s.given; steps = s.steps; entries = s.entries; records = s.records }

  abbrev pub moved : State S → S → State S
  moved s h = record { host = h; store = s.store; given = s.given; steps = s.steps; entries = s.entries; records = s.records }

  abbrev pub gave : State S → ℕ → State S
  gave s v = record { host = s.host; store = s.store; given = v; steps = s.steps; entries = s.entries; records = s.records }

  -- what a place holds
  abbrev pub at : State S → Place → ℕ
  at s p = look s.store p.identifier

  abbrev pub all_at : State S → List Place → List ℕ
  all_at s [] = []
  all_at s (p ∷ ps) = at s p ∷ all_at s ps

  -- what the last of the places holds
  abbrev pub last_at : State S → ℕ → List Place → ℕ
  last_at s v [] = v
  last_at s v (p ∷ ps) = last_at s (at s p) ps

  abbrev pub store_all : State S → ℕ → List Place → State S
  store_all s v [] = s
  store_all s v (p ∷ ps) = store_all (wrote s p.identifier v) v ps

  -- an optional place gets the value given
  abbrev pub assign : Option Place → State S → State S
  assign None s = s
  assign (Some p) s = wrote s p.identifier s.given

  unfoldable pub branch : Bool → (State S → Result S) → (State S → Result S) → State S → Result S
  branch true f g s = f s
  branch false f g s = g s

  -- go on after a normal end
  unfoldable pub bind : Result S → (State S → Result S) → Result S
  bind (done normal s) k = k s
  bind (done (broke l) s) k = done (broke l) s
  bind (done (continued l) s) k = done (continued l) s
  bind (done (returned v) s) k = done (returned v) s
  bind (done (threw v) s) k = done (threw v) s
  bind (spent s) k = spent s

  -- go on after a throw
  unfoldable pub handle : Result S → (ℕ → State S → Result S) → Result S
  handle (done normal s) k = done normal s
  handle (done (broke l) s) k = done (broke l) s
  handle (done (continued l) s) k = done (continued l) s
  handle (done (returned v) s) k = done (returned v) s
  handle (done (threw v) s) k = k v s
  handle (spent s) k = spent s

  unfoldable pub map_out : (Out → Out) → Result S → Result S
  map_out g (done o s) = done (g o) s
  map_out g (spent s) = spent s

  -- the beginning of a Scope block counts where its scope has a record
  unfoldable pub enter : Option ℕ → State S → State S
  enter None s = s
  enter (Some i) s = entered s

  -- its block's normal end returns the recorded place's value, unless that is the sentinel 1
  unfoldable pub leave : Option ℕ → State S → Result S
  leave None s = done normal s
  leave (Some i) s = branch (look s.store i == 1) (λ t. done normal t) (λ t. done (returned (look t.store i)) (recorded t)) s

  module _ (H : Meaning S) where
    unfoldable pub on_reply : Reply → State S → (State S → Result S) → Result S
    on_reply (Ok v) s k = k (gave s v)
    on_reply (Err t) s k = done (threw t.0) s

    -- ask; the answer is given
    unfoldable pub ask : ℕ → ℕ → ℕ → List ℕ → State S → (State S → Result S) → Result S
    ask kind payload position vs s k =
        let q : Asked = asked (record { kind = kind; payload = payload; position = position }) vs in
        on_reply (H.answer s.host q) (moved s (H.next s.host q)) k

    -- ask about the value given; any answer but 0 is yes
    abbrev pub test : ℕ → (State S → Result S) → (State S → Result S) → State S → Result S
    test payload y n s = ask 42 payload 0 (s.given ∷ []) s (λ t. branch (t.given == 0) n y t)

    -- ask for each written place, from position n on, and store there
    abbrev pub ask_each : ℕ → ℕ → List ℕ → ℕ → List Place → State S → Result S
    ask_each kind payload vs n [] s = done normal s
    ask_each kind payload vs n (p ∷ ps) s = ask kind payload n vs s (λ t. ask_each kind payload vs (suc n) ps (wrote t p.identifier t.given))

    -- `ok n`: may one more step begin after n steps?
    module _ (ok : ℕ → Bool) where
      unfoldable pub tick : State S → (State S → Result S) → Result S
      tick s k = branch (ok s.steps) (λ t. k (stepped t)) spent s

      -- rounds, each of which costs a step, until one does not end normally; no more than a number of them
      unfoldable pub iter : (State S → Result S) → ℕ → State S → Result S
      iter round zero s = spent s
      iter round (suc f) s = tick s (λ t. bind (round t) (λ u. iter round f u))
