-- The parts of each terminal, and what a terminal's answers and lines are by its parts. Assumes nothing.
use Rattle.std.specs.Prelude.{◌≡◌, ℕ, Bool, ◌&&◌, List, ◌++◌, take, drop, Some, None, Option}
use Rattle.std.specs.List.{list_all}
use Rattle.hir.specs.declared.place.Place.{Place}
use Rattle.hir.specs.declared.range.Range.{Range}
use Rattle.hir.specs.declared.terminal.ReactiveLabel.{ReactiveLabel}
use Rattle.hir.specs.declared.terminal.ReactiveSwitchCase.{ReactiveSwitchCase}
use Rattle.hir.specs.declared.terminal.ReactiveTerminal.{ReactiveTerminal}
use Rattle.hir.specs.declared.terminal.ReactiveTerminal.TheVariants as R
use Rattle.hir.specs.Decode.{ValueSlots, Slots, top_value, opt_value_of}
use Rattle.hir.specs.Tree.{Op}
use Rattle.semantics.specs.Targets.{Around}
use Rattle.questions.specs.declared.around.Inside.TheVariants.{Plain, Switch, Loop}
use Rattle.questions.specs.declared.around.Jump.{Jump}
use Rattle.questions.specs.declared.around.Jump.TheVariants.{Break, Continue}
use Rattle.questions.specs.declared.line.Bounds.{Bounds}
use Rattle.questions.specs.declared.line.Line.{Line}
use Rattle.questions.specs.declared.operations.Own.{Own}
use Rattle.questions.specs.declared.parts.Parts.{Parts}
use Rattle.questions.specs.declared.pass.Pass.{Pass}
use Rattle.questions.specs.Around.{opt_jump_aims, opt_jump_in}
use Rattle.questions.specs.Own.{Decodes, own_of}
use Rattle.questions.specs.Findings.{passed}
use Rattle.questions.specs.Pass.{Kept, values_in}
use Rattle.questions.specs.Questions.{opt_place_in, label_in, opt_val_ops, opt_val_lines}

-- without values and blocks
abbrev pub bare : Option Place → Option Jump → Parts
bare p j = record { place = p; jump = j; inside = Plain; leading = None; init = None; test = None; update = None; block = None; other = None; cases = record { start = 0; count = 0 } }

-- with blocks that are no loop's
abbrev pub holding : Option Place → Option Range → Option Range → Parts
holding p b c = record { place = p; jump = None; inside = Plain; leading = None; init = None; test = None; update = None; block = b; other = c; cases = record { start = 0; count = 0 } }

abbrev pub looping : Option Range → Option ℕ → Option ℕ → Option ℕ → Option Range → Parts
looping l i t u b = record { place = None; jump = None; inside = Loop; leading = l; init = i; test = t; update = u; block = b; other = None; cases = record { start = 0; count = 0 } }

abbrev pub parts_of : ReactiveTerminal → Parts
parts_of (R.Break l i k) = bare None (Some (Break l k))
parts_of (R.Continue l i k) = bare None (Some (Continue l k))
parts_of (R.Return p i) = bare (Some p) None
parts_of (R.Throw p i) = bare (Some p) None
parts_of (R.Switch p cs i) = record { place = Some p; jump = None; inside = Switch; leading = None; init = None; test = None; update = None; block = None; other = None; cases = cs }
parts_of (R.DoWhile b v i) = looping (Some b) None (Some v) None None
parts_of (R.While v b i) = looping None None (Some v) None (Some b)
parts_of (R.For n v u b i) = looping None (Some n) (Some v) u (Some b)
parts_of (R.ForOf n v b i s) = looping None (Some n) (Some v) None (Some b)
parts_of (R.ForIn v b i s) = looping None (Some v) None None (Some b)
parts_of (R.If p b c i) = holding (Some p) (Some b) c
parts_of (R.Label b i) = holding None (Some b) None
parts_of (R.Try b p c i) = holding p (Some b) (Some c)

-- what the slots of the values stand for
pub record ValuesIn (a : ValueSlots) (p : Parts) : Type 0 where
  pub init : Decodes (opt_value_of (top_value a) p.init)
  pub test : Decodes (opt_value_of (top_value a) p.test)
  pub update : Decodes (opt_value_of (top_value a) p.update)

abbrev pub values_ops : {a : ValueSlots} {p : Parts} → ValuesIn a p → List Op
values_ops d = opt_val_ops d.init.what ++ (opt_val_ops d.test.what ++ opt_val_ops d.update.what)

abbrev pub values_lines : Bounds → {a : ValueSlots} {p : Parts} → ValuesIn a p → List Line
values_lines B d = opt_val_lines B d.init.what ++ (opt_val_lines B d.test.what ++ opt_val_lines B d.update.what)

-- the cases in a range
abbrev pub row_cases : Slots → Parts → List ReactiveSwitchCase
row_cases a p = take p.cases.count (drop p.cases.start a.cases)

abbrev pub tests_well : Bounds → List ReactiveSwitchCase → Bool
tests_well B cs = list_all (λ c. opt_place_in B c.test) cs

-- are the numbers of a terminal's parts in range, without its label's?
abbrev pub parts_in : Bounds → Parts → List ReactiveSwitchCase → Bool
parts_in B p cs = opt_place_in B p.place && (opt_jump_in B p.jump && tests_well B cs)

-- a terminal's answers: m is its label, os the operations of its values
abbrev pub parts_line : Bounds → Parts → Option ReactiveLabel → Around → List ReactiveSwitchCase → Own → Line
parts_line B p m a cs o =
    record {
      numbers = (label_in B m && parts_in B p cs) && o.numbers;
      shapes = o.shapes;
      targets = opt_jump_aims p.jump a;
      owns = None;
    }

-- r are the answers of the operations of the values
pub record OwnValues (a : ValueSlots) (p : Parts) (B : Bounds) (r : Own) : Type 0 where
  pub of : (d : ValuesIn a p) → r ≡ own_of B (values_ops d)

-- the statements inside the values are passed over
pub record PassedValues (p : Parts) (before after : Pass) : Type 0 where
  pub kept : Kept before after
  pub by : (d : ValuesIn (values_in before) p) → after.found ≡ passed (values_lines before.bounds d) before.found
