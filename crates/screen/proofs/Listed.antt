-- The examples of what is asked, read and started with.
-- Each is what its definition computes.
use Rattle.std.proofs.Common.{refl}
use Rattle.screen.specs.Laws.{Examples}

pub examples : Examples
examples = record { flag = refl; no_flag = refl; no_words = refl; no_budget = refl; no_number = refl; empty_word = refl; largest = refl; above = refl; filled = refl; longer = refl }
