-- The examples hold by computing.
-- The runs ask the four fixed questions only, so they are alike on every host.
use Rattle.std.proofs.Common.{ℕ, List, [], ◌∷◌, refl, ◌∙◌}
use Rattle.hir.specs.Encode.{encode}
use Rattle.host.specs.Asked.{Asked, asked, fixed}
use Rattle.semantics.specs.Machine.{look, put, branch, bind, handle, map_out, enter, leave, on_reply, ask, tick, iter}
use Rattle.semantics.specs.Exec.{class, records_of, exec}
use Rattle.early_returns.specs.Lowering.{change, lowered}
use Rattle.early_returns.specs.Pass.{propagate_early_returns}
use Rattle.early_returns.specs.Examples.{scopes_in_terminals, Lowers, Runs, Examples}
use Rattle.early_returns.proofs.PassIsDescription.{once_described}

description_lowers : Lowers lowered
unfolding lowered records_of change encode
description_lowers = record { in_a_scope = refl; in_words = refl; in_no_scope = refl; in_pruned_scopes = refl; in_a_pruned_scope_in_a_scope = refl; in_two_scopes = refl; in_a_scope_in_a_scope = refl; in_a_recorded_scope = refl; in_a_recorded_scope_in_a_scope = refl; in_every_terminal_in_a_scope = refl; in_a_scope_in_every_terminal = refl }

-- the last one would take too long to compute
pass_lowers : Lowers propagate_early_returns
unfolding propagate_early_returns records_of change encode
pass_lowers = record { in_a_scope = refl; in_words = refl; in_no_scope = refl; in_pruned_scopes = refl; in_a_pruned_scope_in_a_scope = refl; in_two_scopes = refl; in_a_scope_in_a_scope = refl; in_a_recorded_scope = refl; in_a_recorded_scope_in_a_scope = refl; in_every_terminal_in_a_scope = refl; in_a_scope_in_every_terminal = once_described scopes_in_terminals (refl, (refl, (refl, (refl, (refl, (refl, (refl, (refl, (refl, (refl, (refl, tt))))))))))) ∙ description_lowers.in_a_scope_in_every_terminal }

abbrev question : ℕ → ℕ → List ℕ → Asked
question kind payload values = asked (record { kind = kind; payload = payload; position = 0 }) values

runs_hold : (S : Type 0) → Runs S
unfolding exec look put branch bind handle map_out enter leave on_reply ask tick iter class records_of fixed
runs_hold S = record {
  before = λ H h. refl;
  behind = λ H h.
      rw (H.keeps.says h (question 28 1 []) 2 refl) (rw (H.keeps.stays h (question 28 1 []) 2 refl)
      (rw (H.keeps.says h (question 23 2 (2 ∷ [])) 3 refl) (rw (H.keeps.stays h (question 23 2 (2 ∷ [])) 3 refl)
      (rw (H.keeps.says h (question 7 3 []) 4 refl) (rw (H.keeps.stays h (question 7 3 []) 4 refl)
      (rw (H.keeps.says h (question 12 0 (2 ∷ 3 ∷ 4 ∷ [])) 1 refl) refl))))));
}

pub examples_hold : (S : Type 0) → Examples S
unfolding encode
examples_hold S = record { before_in_words = refl; published = pass_lowers; described = description_lowers; runs = runs_hold S }
