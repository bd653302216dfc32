use Rattle.std.proofs.Common.{sym, ◌∙◌, arith}
use Rattle.format.specs.Parse.{scope_info}
use Rattle.load.specs.Reads.{cursor}
use Rattle.load.proofs.Shorter.{scope_shorter}
use Rattle.load.proofs.Stops.{handed_on}
use Rattle.load.proofs.TableSteps.{mid_stop, scopes_first, scopes_next, scopes_in, scopes_read}
use Rattle.load.proofs.read_tables.read_scopes.Goals as goal

pub items-init : goal.items-init
items-init c =
    scopes_first (cursor c.args.reader.now) c.requires.room c.requires.owners

pub items-smaller : goal.items-smaller
items-smaller c = omega (arith, scope_shorter (cursor c.items.reader) _ c.in_ok-read_scope.ensures.parsed)

pub items-preserved : goal.items-preserved
items-preserved c = scopes_next c.items.invariant (sym c.ended.ensures ∙ c.items-test.true) c.in_ok-read_scope.ensures

pub returns-in_err-read_scope-clause-answer : goal.returns-in_err-read_scope-clause-answer
returns-in_err-read_scope-clause-answer c =
    rw (handed_on c.from_residual.result c.from_residual.ensures)
    (mid_stop scope_info c.items.invariant.mid (sym c.ended.ensures ∙ c.items-test.true) c.in_err-read_scope.ensures)

pub returns : goal.returns
returns c =
    let end = sym c.ended.ensures ∙ c.items-test.false in record { answer = scopes_read c.items.invariant end c.items.reader.limited; reads = scopes_in c.items.invariant end }
