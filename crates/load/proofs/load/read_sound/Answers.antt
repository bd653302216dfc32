use Rattle.std.proofs.Common.{ap, arith}
use Rattle.std.proofs.lemmas.Result.{err_from_is_err_and}
use Rattle.hir.specs.Held.{held}
use Rattle.load.proofs.load.read_sound.Goals as goal

pub returns-in_err-found : goal.returns-in_err-found
returns-in_err-found c =
    let p = err_from_is_err_and c.from_residual.result c.from_residual.ensures.1 in
    rw (p.1, p.2) c.in_err-found.ensures

pub check-requires : goal.check-requires
check-requires c =
    let m = c.in_ok-found.ensures.0 in
    record { rooted = m.rooted; counted = omega (arith, ap (λ u. u.statements) m.counted, m.within.statements) }

pub returns-in_err-check : goal.returns-in_err-check
returns-in_err-check c =
    let p = err_from_is_err_and c.from_residual-in_err-check.result c.from_residual-in_err-check.ensures.1 in
    rw (p.1, p.2) (held c.read_file.new.environment c.read_file.new.arena c.in_ok-found.found.root, c.in_ok-found.ensures.1, c.in_err-check.ensures)

pub returns : goal.returns
returns c =
    let m = c.in_ok-found.ensures in
    record { parsed = m.1; file = m.0; sound = c.in_ok-check.ensures; near = m.2 }
