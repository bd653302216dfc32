use Rattle.std.proofs.Common.{sym, arith}
use Rattle.std.proofs.lemmas.Result.{err_from_is_err_and}
use Rattle.format.specs.Words.{words}
use Rattle.format.proofs.Sections.{pair_stands}
use Rattle.load.proofs.FileSteps
use Rattle.load.proofs.Lies.{words_length}
use Rattle.load.proofs.file.read_ends.Goals as goal

pub read_pair-requires : goal.read_pair-requires
read_pair-requires c =
    record {
      total = omega (arith, words_length c.args.bytes.now, c.requires.near);
      head = omega arith;
      long = c.requires.long;
      from = omega (arith, words_length c.args.bytes.now, c.requires.long);
    }

pub returns-in_err-counters : goal.returns-in_err-counters
returns-in_err-counters c =
    let p = err_from_is_err_and c.from_residual.result c.from_residual.ensures.1 in
    rw (p.1, p.2) (FileSteps.first_stop (words c.args.bytes.now) (sym c.in_err-counters.ensures))

pub read_pair-requires-2 : goal.read_pair-requires-2
read_pair-requires-2 c =
    record {
      total = omega (arith, words_length c.args.bytes.now, c.requires.near);
      head = omega arith;
      long = c.requires.long;
      from = omega (arith, words_length c.args.bytes.now, (pair_stands (words c.args.bytes.now) 0 8 _ (sym c.in_ok-counters.ensures)).within);
    }

pub returns-in_err-identifiers : goal.returns-in_err-identifiers
returns-in_err-identifiers c =
    let p = err_from_is_err_and c.from_residual-in_err-identifiers.result c.from_residual-in_err-identifiers.ensures.1 in
    rw (p.1, p.2) (FileSteps.second_stop (words c.args.bytes.now) (sym c.in_ok-counters.ensures) (sym c.in_err-identifiers.ensures))

pub read_pair-requires-3 : goal.read_pair-requires-3
read_pair-requires-3 c =
    record {
      total = omega (arith, words_length c.args.bytes.now, c.requires.near);
      head = omega arith;
      long = c.requires.long;
      from = omega (arith, words_length c.args.bytes.now, (pair_stands (words c.args.bytes.now) 2 c.in_ok-counters.counters _ (sym c.in_ok-identifiers.ensures)).within);
    }

pub returns-in_err-scopes : goal.returns-in_err-scopes
returns-in_err-scopes c =
    let p = err_from_is_err_and c.from_residual-in_err-scopes.result c.from_residual-in_err-scopes.ensures.1 in
    rw (p.1, p.2) (FileSteps.third_stop (words c.args.bytes.now) (sym c.in_ok-counters.ensures) (sym c.in_ok-identifiers.ensures) (sym c.in_err-scopes.ensures))

pub read_pair-requires-4 : goal.read_pair-requires-4
read_pair-requires-4 c =
    record {
      total = omega (arith, words_length c.args.bytes.now, c.requires.near);
      head = omega arith;
      long = c.requires.long;
      from = omega (arith, words_length c.args.bytes.now, (pair_stands (words c.args.bytes.now) 4 c.in_ok-identifiers.identifiers _ (sym c.in_ok-scopes.ensures)).within);
    }

pub returns-in_err-body : goal.returns-in_err-body
returns-in_err-body c =
    let p = err_from_is_err_and c.from_residual-in_err-body.result c.from_residual-in_err-body.ensures.1 in
    rw (p.1, p.2) (FileSteps.fourth_stop (words c.args.bytes.now) (sym c.in_ok-counters.ensures) (sym c.in_ok-identifiers.ensures) (sym c.in_ok-scopes.ensures) (sym c.in_err-body.ensures))

pub returns : goal.returns
returns c = record { first = sym c.in_ok-counters.ensures; second = sym c.in_ok-identifiers.ensures; third = sym c.in_ok-scopes.ensures; fourth = sym c.in_ok-body.ensures }
