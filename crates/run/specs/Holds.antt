-- What the lent memory holds, and what its own methods make of it. Assumes nothing.
use Rattle.std.specs.Prelude.{◌≡◌, ℕ, ◌+◌, ◌<◌, ◌≤◌, Bool, true, false, List, [], ◌∷◌, ◌++◌, Some, None, vec_items, vec_len, Ok, Option}
use Rattle.host.specs.Asked.{Reply, thrown}
use Rattle.run.specs.declared.frame.Exit.{Exit}
use Rattle.run.specs.declared.frame.Exit.TheVariants as E
use Rattle.run.specs.declared.frame.Frame.{Frame}
use Rattle.run.specs.declared.frame.Frame.TheVariants as F
use Rattle.run.specs.declared.memory.Memory.{Memory}

pub record Holds (fs : List Frame) (x : Exit) (v s e : ℕ) (r : Bool) (m : Memory) : Type 0 where
  pub frames : vec_items m.frames ≡ fs
  pub exit : m.exit ≡ x
  pub given : m.given ≡ v
  pub steps : m.steps ≡ s
  pub entries : m.entries ≡ e
  pub recorded : m.recorded ≡ r

-- the frames are others, and nothing else
abbrev pub Pushed : List Frame → Memory → Memory → Type 0
Pushed fs m n = Holds fs m.exit m.given m.steps m.entries m.recorded n

-- the frames of a loop's update
abbrev pub updates : Option ℕ → List Frame
updates None = []
updates (Some slot) = F.Value slot 64 ∷ []

-- one frame less
abbrev pub Popped : Memory → Option Frame → Memory → Type 0
Popped m None n = (vec_items m.frames ≡ []) × Holds [] m.exit m.given m.steps m.entries m.recorded n
Popped m (Some f) n = (vec_items m.frames ≡ vec_items n.frames ++ f ∷ []) × Holds (vec_items n.frames) m.exit m.given m.steps m.entries m.recorded n

-- one step more, or the budget is spent
pub record Paid (m : Memory) (B : ℕ) (r : Bool) (n : Memory) : Type 0 where
  pub yes : r ≡ true → (m.steps < B) × Holds (vec_items m.frames) m.exit m.given (m.steps + 1) m.entries m.recorded n
  pub no : r ≡ false → (B ≤ m.steps) × Holds (vec_items m.frames) E.Spent m.given m.steps m.entries m.recorded n
  pub len : vec_len n.frames ≡ vec_len m.frames

-- what was answered is kept, and a run goes on with a value; what was thrown is how it ends
pub record Answered (m : Memory) (a : Reply) (r : Option ℕ) (n : Memory) : Type 0 where
  pub yes : (v : ℕ) → r ≡ Some v → (a ≡ Ok v) × Holds (vec_items m.frames) m.exit m.given m.steps m.entries m.recorded n
  pub no : r ≡ None → (v : ℕ) × (a ≡ thrown v) × Holds (vec_items m.frames) (E.Threw v) m.given m.steps m.entries m.recorded n
