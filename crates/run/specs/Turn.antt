-- What one turn of a run keeps. Assumes nothing.
use Rattle.std.specs.Prelude.{◌≡◌, ℕ, ◌+◌, ◌<◌, ◌≤◌, Bool, false, List, [], ◌∷◌, ◌++◌, Some, None, vec_items, vec_len, Option}
use Rattle.hir.specs.declared.place.Place.{Place}
use Rattle.hir.specs.Decode.{Slots}
use Rattle.hir.specs.Held.{slots}
use Rattle.hir.specs.Numbers.{flag_number}
use Rattle.hir.specs.declared.tables.Tables.{Tables}
use Rattle.hir.specs.Tables.{function_of}
use Rattle.host.specs.Asked.{Asked, Reply, Keeps, asked}
use Rattle.host.specs.declared.Host.{Ghosts}
use Rattle.semantics.specs.Machine.{Meaning, State, normal, broke, continued, returned, threw, Result, done, spent, put}
use Rattle.semantics.specs.Exec.{records_of}
use Rattle.run.specs.declared.frame.Exit.{Exit}
use Rattle.run.specs.declared.frame.Exit.TheVariants as E
use Rattle.run.specs.declared.frame.Frame.{Frame}
use Rattle.run.specs.declared.machine.Machine.{Machine}
use Rattle.run.specs.Frames.{Stacked, measure}
use Rattle.run.specs.Tasks.{Task, weights, w_b, resume, owed}

abbrev pub host_of : {S : Type 0} (answer : S → Asked → Reply) (next : S → Asked → S) → Keeps answer next → Meaning S
host_of answer next keeps = record { answer = answer; next = next; keeps = keeps }

abbrev pub result : {S : Type 0} → Exit → State S → Result S
result E.Normal s = done normal s
result (E.Broke l) s = done (broke l) s
result (E.Continued l) s = done (continued l) s
result (E.Returned v) s = done (returned v) s
result (E.Threw v) s = done (threw v) s
result E.Spent s = spent s

-- a record returns once, for good
abbrev pub Calm : Exit → Bool → Type 0
Calm E.Normal r = r ≡ false
Calm (E.Broke l) r = r ≡ false
Calm (E.Continued l) r = r ≡ false
Calm (E.Returned v) r = Unit {0}
Calm (E.Threw v) r = r ≡ false
Calm E.Spent r = Unit {0}

abbrev pub state_of : {S : Type 0} → S → List ℕ → ℕ → ℕ → ℕ → Bool → State S
state_of h σ given steps entries recorded = record { host = h; store = σ; given = given; steps = steps; entries = entries; records = flag_number recorded }

-- going on from here, with the tasks that the frames stand for, gives w
pub record Leads {S : Type 0} (H : Meaning S) (B : ℕ) (rec : ℕ → Option ℕ) (a : Slots) (W : ℕ) (w : Result S) (fs : List Frame) (x : Exit)
    (h : S) (σ : List ℕ) (given steps entries : ℕ) (recorded : Bool) : Type 0 where
  pub kont : List Task
  pub stacked : Stacked a B W steps fs kont
  pub light : weights kont ≤ W
  pub same : resume H B rec kont (result x (state_of h σ given steps entries recorded)) ≡ w
  pub paid : steps ≤ B
  pub counted : entries + owed kont ≤ steps
  pub calm : Calm x recorded

-- after the turn of the frame f, on the frames fs: the run goes on with the frames gs, nearer to its end
pub record Next {S : Type 0} (H : Meaning S) (B : ℕ) (rec : ℕ → Option ℕ) (a : Slots) (W : ℕ) (w : Result S) (fs : List Frame) (f : Frame) (steps : ℕ)
    (gs : List Frame) (y : Exit) (h' : S) (σ' : List ℕ) (given' steps' entries' : ℕ) (recorded' : Bool) : Type 0 where
  pub leads : Leads H B rec a W w gs y h' σ' given' steps' entries' recorded'
  pub less : measure a B W steps' gs < measure a B W steps (fs ++ f ∷ [])

-- the whole run of the tables weighs
abbrev pub whole_weight : Tables → ℕ
whole_weight T = w_b (function_of T).body

abbrev pub meaning : {T : Type 0} (H : Ghosts T) → Meaning H.State
meaning H = host_of H.answer H.next H.keeps

-- the references keep their names, and what is only read stays
pub record Same {T : Type 0} (m n : Machine T) : Type 0 where
  pub memory : n.memory.ghost_name ≡ m.memory.ghost_name
  pub host : n.host.ghost_name ≡ m.host.ghost_name
  pub store : n.store.ghost_name ≡ m.store.ghost_name
  pub tables : n.tables ≡ m.tables
  pub budget : n.budget ≡ m.budget

module _ {T : Type 0} (H : Ghosts T) where
  abbrev pub At : Result H.State → Machine T → List Frame → Type 0
  At w m fs =
      Leads (meaning H) m.budget (records_of (function_of m.tables.now).scopes) (slots m.tables.now.arena) (whole_weight m.tables.now) w fs
      m.memory.now.exit (H.state m.host.now) m.store.now m.memory.now.given m.memory.now.steps m.memory.now.entries m.memory.now.recorded

  -- the frame f was taken off the stack
  abbrev pub Ready : Machine T → Frame → Type 0
  Ready m f = (w : Result H.State) × At w m (vec_items m.memory.now.frames ++ f ∷ [])

  -- what is before it ended normally, and it finds room for its parts
  pub record Due (m : Machine T) (f : Frame) : Type 0 where
    pub normal : m.memory.now.exit ≡ E.Normal
    pub room : vec_len m.memory.now.frames ≤ 1000
    pub ready : Ready m f

  -- the run goes on, and nearer to its end
  abbrev pub Turns : Machine T → Frame → Machine T → Type 0
  Turns m f n =
      (w : Result H.State) → At w m (vec_items m.memory.now.frames ++ f ∷ [])
      → Next (meaning H) m.budget (records_of (function_of m.tables.now).scopes) (slots m.tables.now.arena) (whole_weight m.tables.now) w
      (vec_items m.memory.now.frames) f m.memory.now.steps
      (vec_items n.memory.now.frames) n.memory.now.exit (H.state n.host.now) n.store.now n.memory.now.given n.memory.now.steps n.memory.now.entries n.memory.now.recorded

-- an optional place gets a value
abbrev pub kept : Option Place → List ℕ → ℕ → List ℕ
kept None σ v = σ
kept (Some p) σ v = put σ p.identifier v

-- what a test asks
abbrev pub test_of : ℕ → ℕ → Asked
test_of payload v = asked (record { kind = 42; payload = payload; position = 0 }) (v ∷ [])

-- what a switch asks of a case
abbrev pub case_of : ℕ → ℕ → Asked
case_of v u = asked (record { kind = 43; payload = 0; position = 0 }) (v ∷ u ∷ [])
