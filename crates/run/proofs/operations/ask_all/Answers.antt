use Rattle.run.proofs.Operating.{all_thrown, all_each, all_done, throws}
use Rattle.run.proofs.operations.ask_all.Goals as goal

pub returns-in_err-first : goal.returns-in_err-first
returns-in_err-first g c =
    let r = c.in_err-first.ensures in
    let f = c.from_residual.ensures in
    all_thrown g.H.Host c.args.operation c.args.values.now c.args.written.now c.args.given.now _ _ c.args.store.now r.moves c.in_err-first.field-0.0 _ r.answers (throws _ c.in_err-first.field-0.0 f.0 f.1)

pub returns-in_err-ask_each : goal.returns-in_err-ask_each
returns-in_err-ask_each g c =
    let r = c.in_ok-first.ensures in
    let f = c.from_residual-in_err-ask_each.ensures in
    all_each g.H.Host c.args.operation c.args.values.now c.args.written.now c.args.given.now _ _ c.args.store.now r.moves _ r.answers _ _ _ c.in_err-ask_each.field-0.0 _ c.in_err-ask_each.ensures (throws _ c.in_err-ask_each.field-0.0 f.0 f.1)

pub returns : goal.returns
returns g c =
    let r = c.in_ok-first.ensures in
    all_done g.H.Host c.args.operation c.args.values.now c.args.written.now c.args.given.now _ _ c.args.store.now r.moves _ r.answers _ _ _ c.in_ok-ask_each.ensures
