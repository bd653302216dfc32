use Rattle.questions.proofs.pass.Pass.+value_own.Given as goal

abbrev pub decreases-value_own : goal.decreases-value_own
decreases-value_own l = l.depth
