use Rattle.std.proofs.Common.{refl, arith}
use Rattle.hir.specs.Limits.{limits}
use Rattle.hir.proofs.Empty.{held_empty, empty_rooted, empty_measured, empty_counted, empty_limited}
use Rattle.hir.proofs.Limits.{within_true}
use Rattle.format.specs.Words.{words}
use Rattle.format.proofs.Undone.{as_long}
use Rattle.load.proofs.Lies.{words_length}
use Rattle.load.proofs.Whole.{exactly}
use Rattle.load.proofs.load.load.Goals as goal

pub invariant_of-tables : goal.invariant_of-tables
invariant_of-tables c =
    let h = c.in-Ok.ensures in
    record { rooted = h.file.rooted; measured = omega (arith, h.near, words_length c.args.bytes.now, as_long (words c.args.bytes.now) _ h.file.parsed); counted = exactly _ _ h.file.counted; limited = within_true _ limits h.file.within }

pub returns-in-Ok : goal.returns-in-Ok
returns-in-Ok c =
    let h = c.in-Ok.ensures in
    record { answer = record { parsed = h.parsed; sound = h.sound; counted = h.file.counted }; draft = refl }

-- after a refusal
pub invariant_of-tables-in-Err : goal.invariant_of-tables-in-Err
invariant_of-tables-in-Err c =
    let h = c.clear_parts-in-Err.ensures in
    let e = held_empty c.clear_parts-in-Err.new.environment c.clear_parts-in-Err.new.arena h.counters h.none.identifiers h.none.scopes in
    record { rooted = empty_rooted c.clear_parts-in-Err.new.arena; measured = empty_measured _ e; counted = empty_counted _ e; limited = empty_limited }

pub returns-in-Err : goal.returns-in-Err
returns-in-Err c =
    let h = c.clear_parts-in-Err.ensures in
    let e = held_empty c.clear_parts-in-Err.new.environment c.clear_parts-in-Err.new.arena h.counters h.none.identifiers h.none.scopes in
    record { answer = (c.in-Err.ensures, record { function = e; used = refl }); draft = refl }
