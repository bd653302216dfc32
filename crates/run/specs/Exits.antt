-- How frames take what ends otherwise than normally, and which of them a jump means. Assumes nothing.
use Rattle.std.specs.Prelude.{ℕ, Bool, true, false, cond, List, Some, None, Option}
use Rattle.std.specs.List.{list_any}
use Rattle.hir.specs.declared.terminal.ReactiveTerminalTargetKind.{ReactiveTerminalTargetKind}
use Rattle.hir.specs.declared.terminal.ReactiveTerminalTargetKind.TheVariants.{Implicit, Labeled, Unlabeled}
use Rattle.semantics.specs.Machine.{Out, normal, broke, continued, returned, threw}
use Rattle.semantics.specs.Exec.{has_label}
use Rattle.run.specs.declared.frame.Exit.{Exit}
use Rattle.run.specs.declared.frame.Exit.TheVariants as E
use Rattle.run.specs.declared.frame.Frame.{Frame}
use Rattle.run.specs.declared.frame.Frame.TheVariants as F
use Rattle.run.specs.declared.frame.Target.{Target}
use Rattle.run.specs.declared.frame.Target.TheVariants as T

abbrev pub exit_from : Out → Exit
exit_from normal = E.Normal
exit_from (broke l) = E.Broke l
exit_from (continued l) = E.Continued l
exit_from (returned v) = E.Returned v
exit_from (threw v) = E.Threw v

-- what an end makes of an exit; a run that is spent stays so
abbrev pub onto : (Out → Out) → Exit → Exit
onto g E.Normal = exit_from (g normal)
onto g (E.Broke l) = exit_from (g (broke l))
onto g (E.Continued l) = exit_from (g (continued l))
onto g (E.Returned v) = exit_from (g (returned v))
onto g (E.Threw v) = exit_from (g (threw v))
onto g E.Spent = E.Spent

-- the frames that take more than a normal end
abbrev pub takes : Frame → Bool
takes (F.Block r d) = false
takes (F.Statement k d) = false
takes (F.Value k d) = false
takes (F.Assigns p) = false
takes (F.Instructions r d) = false
takes (F.AfterLeft p k d) = false
takes (F.AfterTest k l d) = false
takes (F.Leaves x) = false
takes (F.EndsLabel m) = true
takes (F.EndsLoop m) = true
takes (F.EndsSwitch m) = true
takes (F.EndsRound m) = true
takes (F.Starts l m d) = false
takes (F.Rounds l m d) = false
takes (F.Tests l m d) = false
takes (F.Selects c m d) = false
takes (F.Cases r d) = false
takes (F.Catches p r d) = true

-- ---- the targets of jumps
-- the label that a jump names, if it names one; an implicit jump goes nowhere
abbrev pub label_of : ℕ → ReactiveTerminalTargetKind → Option (Option ℕ)
label_of l Implicit = None
label_of l Labeled = Some (Some l)
label_of l Unlabeled = Some None

abbrev pub exit_to : Target → Exit
exit_to (T.Break l) = E.Broke l
exit_to (T.Continue l) = E.Continued l

abbrev pub at_label : Target → Option ℕ → Bool
at_label (T.Break None) m = false
at_label (T.Break (Some l)) m = has_label l m
at_label (T.Continue l) m = false

abbrev pub at_loop : Target → Option ℕ → Bool
at_loop (T.Break None) m = true
at_loop (T.Break (Some l)) m = false
at_loop (T.Continue None) m = true
at_loop (T.Continue (Some l)) m = has_label l m

abbrev pub at_switch : Target → Bool
at_switch (T.Break None) = true
at_switch (T.Break (Some l)) = false
at_switch (T.Continue l) = false

abbrev pub aims : Target → Frame → Bool
aims t (F.Block r d) = false
aims t (F.Statement k d) = false
aims t (F.Value k d) = false
aims t (F.Assigns p) = false
aims t (F.Instructions r d) = false
aims t (F.AfterLeft p k d) = false
aims t (F.AfterTest k l d) = false
aims t (F.Leaves x) = false
aims t (F.EndsLabel m) = at_label t m
aims t (F.EndsLoop m) = at_loop t m
aims t (F.EndsSwitch m) = at_switch t
aims t (F.EndsRound m) = false
aims t (F.Starts l m d) = false
aims t (F.Rounds l m d) = false
aims t (F.Tests l m d) = false
aims t (F.Selects c m d) = false
aims t (F.Cases r d) = false
aims t (F.Catches p r d) = false

-- is the target among the frames?
abbrev pub any : Target → List Frame → Bool
any t fs = list_any (aims t) fs

-- what a jump makes of an exit
abbrev pub jumped : Target → List Frame → Exit → Exit
jumped t fs x = cond (any t fs) (exit_to t) x
