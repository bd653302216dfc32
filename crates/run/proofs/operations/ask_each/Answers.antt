use Rattle.std.proofs.Common.{suc, List, sym, ap, ◌∙◌}
use Rattle.std.proofs.lemmas.List.{drop_all}
use Rattle.hir.specs.declared.place.Place.{Place}
use Rattle.semantics.specs.Machine.{ask_each}
use Rattle.run.specs.declared.frame.Exit.{Exit}
use Rattle.run.specs.Turn.{meaning, result, state_of}
use Rattle.run.proofs.Operating.{each_value, each_thrown, throws}
use Rattle.run.proofs.operations.ask_each.Goals as goal

pub loop-at-preserved : goal.loop-at-preserved
loop-at-preserved g c = λ steps entries recorded.
    let l = c.loop-at in
    let r = c.in_ok-given.ensures in
    l.invariant steps entries recorded
    ∙ each_value g.H.Host c.args.operation c.args.values.now (g.H.Host.state l.host) _ l.store l.given steps entries recorded l.at c.args.written.now c.loop-at-test.true r.moves _ _ _ r.answers c.write.ensures

pub returns-in_err-given : goal.returns-in_err-given
returns-in_err-given g c = λ steps entries recorded.
    let l = c.loop-at in
    let r = c.in_err-given.ensures in
    let f = c.from_residual.ensures in
    l.invariant steps entries recorded
    ∙ each_thrown g.H.Host c.args.operation c.args.values.now (g.H.Host.state l.host) _ l.store l.given steps entries recorded l.at c.args.written.now c.loop-at-test.true r.moves c.in_err-given.field-0.0 r.answers
    ∙ ap (λ (x : Exit). result x (state_of (g.H.Host.state c.ask.new.host) l.store l.given steps entries recorded)) (sym (throws _ c.in_err-given.field-0.0 f.0 f.1))

pub returns : goal.returns
returns g c = λ steps entries recorded.
    let l = c.loop-at in
    let i = c.args.operation in
    l.invariant steps entries recorded
    ∙ ap (λ (q : List Place). ask_each (meaning g.H.Host) i.kind i.payload c.args.values.now (suc l.at) q (state_of (g.H.Host.state l.host) l.store l.given steps entries recorded))
    (drop_all l.at c.args.written.now c.loop-at-test.false)
