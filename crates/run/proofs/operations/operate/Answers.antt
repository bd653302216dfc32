use Rattle.std.proofs.Common.{drop, ap, ◌∙◌}
use Rattle.run.proofs.Operating.{does_declares, does_stores, does_asks, does_throw, throws}
use Rattle.run.proofs.operations.operate.Goals as goal

pub returns-in-Declares-clause-does : goal.returns-in-Declares-clause-does
returns-in-Declares-clause-does g c = does_declares g.H.Host c.args.operation c.args.operands.now c.args.written.now c.args.given.now _ c.args.store.now _ c.store_all.ensures c.in-Declares.ensures

pub returns-in-Stores-clause-does : goal.returns-in-Stores-clause-does
returns-in-Stores-clause-does g c =
    does_stores g.H.Host c.args.operation c.args.operands.now c.args.written.now c.args.given.now _ c.args.store.now _ _ c.last_of-in-Stores.ensures c.store_all-in-Stores.ensures c.in-Stores.ensures

pub returns-in_ok-given-in-Asks-clause-does : goal.returns-in_ok-given-in-Asks-clause-does
returns-in_ok-given-in-Asks-clause-does g c =
    let r = c.in_ok-given-in-Asks.ensures in
    does_asks g.H.Host c.args.operation c.args.operands.now c.args.written.now c.args.given.now _ c.args.store.now _ (c.shown-values-in-Asks.ensures ∙ ap (drop 1) (c.as_slice-in-Asks.ensures.value ∙ c.lay-in-Asks.ensures.items)) _ _ r.moves r.answers c.in-Asks.ensures

pub returns-in_err-given-in-Asks-clause-does : goal.returns-in_err-given-in-Asks-clause-does
returns-in_err-given-in-Asks-clause-does g c =
    let r = c.in_err-given-in-Asks.ensures in
    let f = c.from_residual.ensures in
    does_throw g.H.Host c.args.operation c.args.operands.now c.args.written.now c.args.given.now _ c.args.store.now _ (c.shown-values-in-Asks.ensures ∙ ap (drop 1) (c.as_slice-in-Asks.ensures.value ∙ c.lay-in-Asks.ensures.items)) c.in_err-given-in-Asks.field-0.0 _ _ r.moves r.answers
    (throws _ c.in_err-given-in-Asks.field-0.0 f.0 f.1) c.in-Asks.ensures
