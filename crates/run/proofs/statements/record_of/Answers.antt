use Rattle.std.proofs.Common.{sym, ap, ◌∙◌}
use Rattle.semantics.specs.Exec.{recorded_place}
use Rattle.run.proofs.Records.{record_there, record_beyond}
use Rattle.run.proofs.statements.record_of.Goals as goal

pub returns-in_err-scope : goal.returns-in_err-scope
returns-in_err-scope c = c.from_residual.ensures ∙ sym (record_beyond c.args.tables.now c.args.scope (rw c.deref.ensures.value at c.in_err-scope.ensures.lookup.3))

pub returns-in_err-record : goal.returns-in_err-record
returns-in_err-record c =
    let h = rw c.deref.ensures.value at c.in_ok-scope.ensures.lookup in
    c.from_residual-in_err-record.ensures ∙ sym (record_there c.args.tables.now c.args.scope c.in_ok-scope.scope.now h.3.0 h.1 ∙ ap recorded_place c.in_err-record.was)

pub returns : goal.returns
returns c =
    let h = rw c.deref.ensures.value at c.in_ok-scope.ensures.lookup in
    sym (record_there c.args.tables.now c.args.scope c.in_ok-scope.scope.now h.3.0 h.1 ∙ ap recorded_place c.in_ok-record.was)
