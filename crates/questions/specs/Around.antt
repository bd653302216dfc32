-- What the code's record of the surroundings stands for. Assumes nothing.
use Rattle.std.specs.Prelude.{ℕ, Bool, true, List, [], ◌∷◌, Some, None, Option, nat_lt}
use Rattle.semantics.specs.Targets as T
use Rattle.semantics.specs.Targets.{labelled, in_switch, in_loop, hits}
use Rattle.questions.specs.declared.around.Around.{Around}
use Rattle.questions.specs.declared.around.Labels.{Labels, Nowhere, Within'}
use Rattle.questions.specs.declared.around.Inside.{Inside}
use Rattle.questions.specs.declared.around.Inside.TheVariants.{Plain, Switch, Loop}
use Rattle.questions.specs.declared.around.Jump.{Jump}
use Rattle.questions.specs.declared.around.Jump.TheVariants.{Break, Continue}
use Rattle.questions.specs.declared.line.Bounds.{Bounds}

abbrev pub inside_of : Inside → Option ℕ → T.Around → T.Around
inside_of Plain m a = labelled m a
inside_of Switch m a = in_switch (labelled m a)
inside_of Loop m a = in_loop m (labelled m a)

abbrev pub labels_of : Labels → List ℕ
labels_of Nowhere = []
labels_of (Within' l p ls) = l ∷ labels_of ls

abbrev pub around_of : Around → T.Around
around_of a = record { labels = labels_of a.labels; loops = labels_of a.loops; looped = a.looped; breaks = a.breaks }

abbrev pub jump_aims : Jump → T.Around → Bool
jump_aims (Break l k) a = hits a.breaks a.labels l k
jump_aims (Continue l k) a = hits a.looped a.loops l k

abbrev pub opt_jump_aims : Option Jump → T.Around → Bool
opt_jump_aims None a = true
opt_jump_aims (Some j) a = jump_aims j a

abbrev pub jump_in : Bounds → Jump → Bool
jump_in B (Break l k) = nat_lt l B.blocks
jump_in B (Continue l k) = nat_lt l B.blocks

abbrev pub opt_jump_in : Bounds → Option Jump → Bool
opt_jump_in B None = true
opt_jump_in B (Some j) = jump_in B j
