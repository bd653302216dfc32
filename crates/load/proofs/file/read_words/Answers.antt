use Rattle.std.proofs.Common.{sym, ap, subst, vec_items, ◌∙◌, arith}
use Rattle.std.proofs.lemmas.Result.{MatchResult-weaker}
use Rattle.hir.specs.declared.used.Used.{Used}
use Rattle.hir.specs.Sizes.{none}
use Rattle.load.specs.Environments.{TablesRoom}
use Rattle.format.specs.Parse.{Cursor, block, counters, every, identifier, scope_info}
use Rattle.load.proofs.FileSteps
use Rattle.load.proofs.Stops.{handed_on}
use Rattle.load.proofs.TableSteps.{none_room, no_owners}
use Rattle.load.proofs.file.read_words.Goals as goal

pub section-counters-requires : goal.section-counters-requires
section-counters-requires c =
    let l = FileSteps.ends_lie c.in_ok-ends.ensures in FileSteps.placed c.args.bytes.now 8 c.in_ok-ends.ends.counters none l.first (omega arith) c.requires.near FileSteps.none_within

pub section-identifiers-requires : goal.section-identifiers-requires
section-identifiers-requires c =
    let l = FileSteps.ends_lie c.in_ok-ends.ensures in
    FileSteps.placed c.args.bytes.now c.in_ok-ends.ends.counters c.in_ok-ends.ends.identifiers c.in_ok-first.first l.second (omega arith) c.requires.near c.in_ok-first.ensures.within

pub read_identifiers-requires : goal.read_identifiers-requires
read_identifiers-requires c = none_room c.section-identifiers.result.used (FileSteps.counters_none c.requires.none c.in_ok-first.ensures)

pub section-scopes-requires : goal.section-scopes-requires
section-scopes-requires c =
    let l = FileSteps.ends_lie c.in_ok-ends.ensures in
    FileSteps.placed c.args.bytes.now c.in_ok-ends.ends.identifiers c.in_ok-ends.ends.scopes c.in_ok-second.second l.third (omega arith) c.requires.near c.in_ok-second.ensures.answer.within

pub read_scopes-requires : goal.read_scopes-requires
read_scopes-requires c =
    let second = c.in_ok-second.ensures.answer in
    record {
      room = subst (λ (u : Used). TablesRoom c.read_identifiers.new.environment u) (sym (ap (λ (k : Cursor). k.used) c.section-scopes.ensures)) second.room;
      owners = no_owners c.read_identifiers.new.environment (ap vec_items second.declarations ∙ (FileSteps.counters_none c.requires.none c.in_ok-first.ensures).declarations);
    }

pub section-requires : goal.section-requires
section-requires c =
    let l = FileSteps.ends_lie c.in_ok-ends.ensures in
    FileSteps.placed c.args.bytes.now c.in_ok-ends.ends.scopes c.in_ok-ends.ends.body c.in_ok-third.third l.fourth (omega arith) c.requires.near c.in_ok-third.ensures.answer.within

pub returns-in_err-first : goal.returns-in_err-first
returns-in_err-first c =
    rw (handed_on c.from_residual-in_err-first.result c.from_residual-in_err-first.ensures)
    (FileSteps.counters_stop c.in_ok-ends.ensures (FileSteps.whole_at counters c.section-counters.ensures c.in_err-first.ensures))

pub returns-in_err-second : goal.returns-in_err-second
returns-in_err-second c =
    let first = FileSteps.counters_at c.section-counters.ensures c.in_ok-first.ensures in
    rw (handed_on c.from_residual-in_err-second.result c.from_residual-in_err-second.ensures)
    (FileSteps.identifiers_stop c.in_ok-ends.ensures first.parsed (FileSteps.whole_at (every identifier) c.section-identifiers.ensures (FileSteps.whole_stop (every identifier) _ c.in_err-second.ensures.answer)))

pub returns-in_err-third : goal.returns-in_err-third
returns-in_err-third c =
    let first = FileSteps.counters_at c.section-counters.ensures c.in_ok-first.ensures in
    let second = FileSteps.identifiers_at c.section-identifiers.ensures c.in_ok-second.ensures.answer in
    rw (handed_on c.from_residual-in_err-third.result c.from_residual-in_err-third.ensures)
    (FileSteps.scopes_stop c.in_ok-ends.ensures first.parsed second.parsed (FileSteps.whole_at (every scope_info) c.section-scopes.ensures (FileSteps.whole_stop (every scope_info) _ c.in_err-third.ensures.answer)))

pub returns : goal.returns
returns c =
    let first = FileSteps.counters_at c.section-counters.ensures c.in_ok-first.ensures in
    let second = FileSteps.identifiers_at c.section-identifiers.ensures c.in_ok-second.ensures.answer in
    let third = FileSteps.scopes_at c.section-scopes.ensures c.in_ok-third.ensures.answer in
    MatchResult-weaker c.read_body.result c.read_body.ensures
    (λ _ m. FileSteps.file_in c.in_ok-ends.ensures c.requires.none first second third (FileSteps.body_at c.section.ensures m))
    (λ _ m. FileSteps.body_stop c.in_ok-ends.ensures first.parsed second.parsed third.parsed (FileSteps.whole_at (block 64) c.section.ensures m))
