use Rattle.std.proofs.Common.{refl, rules, arith}
use Rattle.hir.specs.Held.{held}
use Rattle.hir.specs.Tables.{function_of}
use Rattle.semantics.specs.Exec.{exec}
use Rattle.run.specs.Turn.{meaning}
use Rattle.run.proofs.Whole.{starts, ends, short, large, returned_with}
use Rattle.run.proofs.run.run.Goals as goal

pub returns-then-store-len : goal.returns-then-store-len
unfolding held
returns-then-store-len g c =
    let n = c.args.tables.now.environment.identifiers.vec.ok.0 in
    short (function_of c.args.tables.now) c.args.budget _ _ _ _ _ _ _ _ (omega arith) refl refl refl refl

pub returns-then-budget-gt-LARGEST_BUDGET : goal.returns-then-budget-gt-LARGEST_BUDGET
unfolding held
returns-then-budget-gt-LARGEST_BUDGET g c =
    let n = c.args.tables.now.environment.identifiers.vec.ok.0 in
    large (function_of c.args.tables.now) c.args.budget _ _ _ _ _ _ _ _ (omega arith) c.if-budget-gt-LARGEST_BUDGET.true refl refl refl refl

pub go-requires : goal.go-requires
go-requires g c =
    let b = c.begin.ensures in
    (_, starts (meaning g.H.Host) c.args.budget c.args.tables.now (g.H.Host.state c.args.host.now) c.args.store.now b.frames b.exit b.given b.steps b.entries b.recorded)

pub returns : goal.returns
unfolding held
returns g c =
    let b = c.begin.ensures in
    let M = meaning g.H.Host in
    let T = c.args.tables.now in
    let l = c.go.ensures.leads (exec M (function_of T) c.args.budget (g.H.Host.state c.args.host.now) c.args.store.now)
    (starts M c.args.budget T (g.H.Host.state c.args.host.now) c.args.store.now b.frames b.exit b.given b.steps b.entries b.recorded) in
    let n = c.args.tables.now.environment.identifiers.vec.ok.0 in
    returned_with g.H.Host.state (function_of T) c.args.budget _ _ _ _ _ _ c.go.new.self.host.now _ c.go.new.self.store.now _ (search rules) (search rules) (omega arith) c.if-budget-gt-LARGEST_BUDGET.false _ _ _ _ _ _ c.from.ensures
    (ends c.go.ensures.empty l) refl
