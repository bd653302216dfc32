-- What the frames on a stack stand for. Assumes nothing.
use Rattle.std.specs.Prelude.{◌≡◌, ℕ, suc, ◌+◌, ◌-◌, ◌*◌, ◌<◌, ◌≤◌, List, [], ◌∷◌, ◌++◌, length, Some, None, Option}
use Rattle.hir.specs.declared.range.Range.{Range}
use Rattle.hir.specs.Options.{bind, part}
use Rattle.hir.specs.Decode.{ValueSlots, Slots, value_of, top_value, instrs_of, opt_value_of, slot_of, block_of, cases_of}
use Rattle.hir.specs.Tree.{Val, Instrs, Stmt, Cases, Block}
use Rattle.run.specs.declared.frame.Loop.{Loop as Repeated}
use Rattle.run.specs.declared.frame.Loop.TheVariants.{TestFirst, BlockFirst, Updating}
use Rattle.run.specs.declared.frame.Selection.{Selection}
use Rattle.run.specs.declared.frame.Frame.{Frame}
use Rattle.run.specs.declared.frame.Frame.TheVariants as F
use Rattle.run.specs.Tasks.{Loop, test_first, block_first, updating, Task, block, begun, value, assigns, instrs, after_left, after_test, leaves, ends_label, ends_loop, ends_switch, ends_round, starts, rounds, tests, selects, cases, catches, w_v, w_is, w_s, w_b, w_k, count, w_loop, w_tests, weights}

-- the row behind the first n slots
abbrev pub behind : Range → ℕ → Range
behind r n = record { start = r.start + n; count = r.count - n }

-- a switch's cases without the next one
abbrev pub passed : Selection → Selection
passed c = record { value = c.value; rest = behind c.rest 1; next = c.next + 1; default = c.default; all = c.all }

abbrev pub test_of_loop : Repeated → ℕ
test_of_loop (TestFirst v b) = v
test_of_loop (BlockFirst b v) = v
test_of_loop (Updating v u b) = v

-- what stands in a slot or a row, at most d deep
unfoldable pub value_at : ℕ → ValueSlots → ℕ → Option Val
value_at d a k = value_of d a k

unfoldable pub instrs_at : ℕ → ValueSlots → Range → Option Instrs
instrs_at d a r = bind (part a.instructions r) (instrs_of (value_of d a))

unfoldable pub block_at : ℕ → Slots → Range → Option Block
block_at d a r = block_of d a r

unfoldable pub stmt_at : ℕ → Slots → ℕ → Option Stmt
stmt_at d a k = slot_of a (block_of d a) k

unfoldable pub cases_at : ℕ → Slots → Range → Option Cases
cases_at d a r = bind (part a.cases r) (cases_of (block_of d a))

unfoldable pub loop_at : ℕ → Slots → Repeated → Option Loop
loop_at d a (TestFirst v b) = bind (top_value a.inner v) (λ x. bind (block_at d a b) (λ z. Some (test_first x z)))
loop_at d a (BlockFirst b v) = bind (block_at d a b) (λ z. bind (top_value a.inner v) (λ x. Some (block_first z x)))
loop_at d a (Updating v u b) = bind (top_value a.inner v) (λ x. bind (opt_value_of (top_value a.inner) u) (λ y. bind (block_at d a b) (λ z. Some (updating x y z))))

abbrev pub AtMost : Option ℕ → ℕ → Type 0
AtMost None n = Unit {0}
AtMost (Some d) n = d ≤ n

-- B is the budget, W what the tasks may weigh, s the steps so far; a frame stands on n others, whose tasks weigh w. What it may
-- come to push stays below 1,000 frames; a loop has more rounds left than steps, and may weigh what a round adds
module _ (a : Slots) (B W s : ℕ) where
  abbrev pub Means : ℕ → ℕ → Frame → Task → Type 0
  Means n w (F.Block r d) t = (b : Block) × (t ≡ block b) × (block_at d a r ≡ Some b) × (n + 8 * d + 200 ≤ 1000)
  Means n w (F.Statement k d) t = (x : Stmt) × (t ≡ begun x) × (stmt_at d a k ≡ Some x) × (n + 8 * d + 207 ≤ 1000)
  Means n w (F.Value k d) t = (v : Val) × (t ≡ value v) × (value_at d a.inner k ≡ Some v) × (n + 3 * d ≤ 1000)
  Means n w (F.Assigns p) t = t ≡ assigns p
  Means n w (F.Instructions r d) t = (is : Instrs) × (t ≡ instrs is) × (instrs_at d a.inner r ≡ Some is) × (n + 3 * d + 2 ≤ 1000)
  Means n w (F.AfterLeft p k d) t = (v : Val) × (t ≡ after_left p v) × (value_at d a.inner k ≡ Some v) × (n + 3 * d ≤ 1000)
  Means n w (F.AfterTest k l d) t =
      (v : Val) × (u : Val) × (t ≡ after_test v u) × (value_at d a.inner k ≡ Some v) × (value_at d a.inner l ≡ Some u) × (n + 3 * d ≤ 1000)
  Means n w (F.Leaves x) t = t ≡ leaves x
  Means n w (F.EndsLabel m) t = t ≡ ends_label m
  Means n w (F.EndsLoop m) t = t ≡ ends_loop m
  Means n w (F.EndsSwitch m) t = t ≡ ends_switch m
  Means n w (F.EndsRound m) t = t ≡ ends_round m
  Means n w (F.Starts l m d) t = (x : Loop) × (t ≡ starts x m) × (loop_at d a l ≡ Some x) × (n + 8 * d + 206 ≤ 1000)
  Means n w (F.Rounds l m d) t =
      (x : Loop) × (f : ℕ) × (t ≡ rounds x m f) × (loop_at d a l ≡ Some x) × (n + 8 * d + 205 ≤ 1000) × (B < f + s) × (w_loop x + suc w ≤ W)
  Means n w (F.Tests l m d) t = (x : Loop) × (t ≡ tests x m) × (loop_at d a l ≡ Some x) × (n + 8 * d + 203 ≤ 1000)
  Means n w (F.Selects c m d) t =
      (cs : Cases) × (all : Cases) × (t ≡ selects c.value cs c.next c.default all m) × (cases_at d a c.rest ≡ Some cs) × (cases_at d a c.all ≡ Some all)
      × (c.next + c.rest.count ≡ c.all.count) × AtMost c.default c.all.count × (n + 8 * d + 202 ≤ 1000)
  Means n w (F.Cases r d) t = (cs : Cases) × (t ≡ cases cs) × (cases_at d a r ≡ Some cs) × (n + 8 * d + 201 ≤ 1000)
  Means n w (F.Catches p r d) t = (b : Block) × (t ≡ catches p b) × (block_at d a r ≡ Some b) × (n + 8 * d + 200 ≤ 1000)

  -- the top of the stack is the last frame, and the first task
  abbrev pub Stacked : List Frame → List Task → Type 0
  Stacked fs [] = fs ≡ []
  Stacked fs (t ∷ k) = (f : Frame) × (rest : List Frame) × (fs ≡ rest ++ f ∷ []) × Means (length rest) (weights k) f t × Stacked rest k

-- ---- what frames weigh
abbrev pub known : {X : Type 0} → (X → ℕ) → Option X → ℕ
known w None = 0
known w (Some x) = w x

abbrev pub weigh : Slots → Frame → ℕ
weigh a (F.Block r d) = known w_b (block_at d a r)
weigh a (F.Statement k d) = known (λ x. suc (w_s x)) (stmt_at d a k)
weigh a (F.Value k d) = known w_v (value_at d a.inner k)
weigh a (F.Assigns p) = 1
weigh a (F.Instructions r d) = known w_is (instrs_at d a.inner r)
weigh a (F.AfterLeft p k d) = known (λ v. suc (w_v v)) (value_at d a.inner k)
weigh a (F.AfterTest k l d) = suc (known w_v (value_at d a.inner k) + known w_v (value_at d a.inner l))
weigh a (F.Leaves x) = 1
weigh a (F.EndsLabel m) = 1
weigh a (F.EndsLoop m) = 1
weigh a (F.EndsSwitch m) = 1
weigh a (F.EndsRound m) = 1
weigh a (F.Starts l m d) = known (λ x. suc (suc (suc (w_loop x)))) (loop_at d a l)
weigh a (F.Rounds l m d) = 1
weigh a (F.Tests l m d) = known w_tests (loop_at d a l)
weigh a (F.Selects c m d) = known count (cases_at d a c.rest) + suc (suc (suc (known w_k (cases_at d a c.all))))
weigh a (F.Cases r d) = known w_k (cases_at d a r)
weigh a (F.Catches p r d) = known (λ b. suc (w_b b)) (block_at d a r)

unfoldable pub weigh_all : Slots → List Frame → ℕ
weigh_all a [] = 0
weigh_all a (f ∷ fs) = weigh a f + weigh_all a fs

-- why a run ends: a turn spends a step, or makes the stack lighter
unfoldable pub measure : Slots → ℕ → ℕ → ℕ → List Frame → ℕ
measure a B W s fs = (B - s) * suc W + weigh_all a fs
