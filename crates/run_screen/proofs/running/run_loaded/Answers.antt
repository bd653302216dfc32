-- What a run gives on the store that it starts with, on each host.
use Rattle.std.proofs.Common.{◌≡◌, ℕ, List, IfOk, vec_items, string_bytes, length, ap, ◌∙◌, subst}
use Rattle.hir.specs.Tables.{function_of}
use Rattle.screen.specs.Arguments.{held}
use Rattle.semantics.specs.Examples.{number_host, list_host}
use Rattle.run_screen.specs.Running.{none_left, ran_lines, run_lines}
use Rattle.run_screen.proofs.Started.{started, on_number, on_list}
use Rattle.run_screen.proofs.Told.{told}
use Rattle.run_screen.proofs.running.run_loaded.Goals as goal

pub returns-in-Number : goal.returns-in-Number
returns-in-Number c =
    let F = function_of c.args.tables.now in
    let σ = c.as_mut_slice-store.result.now in
    let e = started c.args.tables.now (vec_items c.args.request.now.values) c.as_slice.result.now σ (vec_items c.in_ok-store.store) c.len-identifiers.result c.as_mut_slice-store.ensures.value c.in_ok-store.ensures c.as_slice.ensures.value c.len-identifiers.ensures in
    subst (λ (x : List ℕ). IfOk c.told.result (λ s. string_bytes s ≡ x))
    (told none_left number_host F c.args.request.now.budget c.in_ok-memory.memory c.run-ran.new.memory _ _ σ c.run-ran.new.store c.run-ran.result c.run-ran.ensures
    ∙ on_number (held c.args.request.now) c.args.answers.now F σ c.in-Number.is e)
    c.told.ensures

pub returns : goal.returns
returns c =
    let F = function_of c.args.tables.now in
    let B = c.args.request.now.budget in
    let σ = c.as_mut_slice-store.result.now in
    let e = started c.args.tables.now (vec_items c.args.request.now.values) c.as_slice.result.now σ (vec_items c.in_ok-store.store) c.len-identifiers.result c.as_mut_slice-store.ensures.value c.in_ok-store.ensures c.as_slice.ensures.value c.len-identifiers.ensures in
    subst (λ (x : List ℕ). IfOk c.told-in-List.result (λ s. string_bytes s ≡ x))
    (ap (λ n. ran_lines c.run-ran-in-List.result c.run-ran-in-List.new.store n) c.unused-left.ensures
    ∙ told length list_host F B c.in_ok-memory.memory c.run-ran-in-List.new.memory
    _ _ σ c.run-ran-in-List.new.store c.run-ran-in-List.result c.run-ran-in-List.ensures
    ∙ ap (λ h. run_lines list_host length F B h σ) c.new-host.ensures
    ∙ on_list (held c.args.request.now) c.args.answers.now F σ c.in-List.is e)
    c.told-in-List.ensures
