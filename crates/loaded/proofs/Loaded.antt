-- A function with a yes to each question is well-formed, and no scope of it has a record.
-- Each question gives its part.
use Rattle.std.proofs.Common.{◌≡◌, true, ◌&&◌, List, [], ◌∷◌, None}
use Rattle.std.specs.List.{list_all}
use Rattle.semantics.specs.Targets.{nowhere}
use Rattle.simulation.specs.WellFormed.{All, sizes, IdentifierOk, ScopeOk}
use Rattle.questions.specs.declared.line.Line.{Line}
use Rattle.questions.specs.Questions.{identifier_in, scope_in, unrecorded, table_fault, lines, bounds_of, out_of_range, out_of_shape, without_target, scoped_twice}
use Rattle.loaded.specs.Loaded.{QuestionsSuffice}
use Rattle.loaded.proofs.Tests.{both, append_empty, no_fault, passing, each, identifier, scope_of, no_record}
use Rattle.loaded.proofs.Lines.{Well, well_b, aims_b}
use Rattle.loaded.proofs.Scopes.{distinct_owned, owned_b}

each_well : (ls : List Line) → All (λ l. l.numbers ≡ true) ls → All (λ l. l.shapes ≡ true) ls → All Well ls
each_well [] n s = tt
each_well (l ∷ ls) n s = ((n.0, s.0), each_well ls n.1 s.1)

pub questions_suffice : QuestionsSuffice
unfolding out_of_range out_of_shape without_target scoped_twice
questions_suffice F y =
    let r = append_empty (table_fault (list_all (identifier_in (bounds_of F)) F.identifiers && list_all (scope_in (bounds_of F)) F.scopes)) _ y.in_range in
    let t = both (list_all (identifier_in (bounds_of F)) F.identifiers) _ (no_fault _ r.0) in
    let s = append_empty (table_fault (list_all (λ s. unrecorded s.early) F.scopes)) _ y.scoped_once in
    record {
      well_formed = record {
        identifiers_ok = each (identifier_in (bounds_of F)) (IdentifierOk (sizes F)) (identifier (sizes F)) F.identifiers t.0;
        scopes_ok = each (scope_in (bounds_of F)) (ScopeOk (sizes F)) (scope_of (sizes F)) F.scopes t.1;
        body_ok = well_b (sizes F) F.body nowhere (each_well (lines F) (passing (λ l. l.numbers) 0 (lines F) r.1) (passing (λ l. l.shapes) 0 (lines F) y.in_shape));
        jumps_land = aims_b (bounds_of F) F.body nowhere (passing (λ l. l.targets) 0 (lines F) y.with_target);
        scopes_once = rw (← (owned_b (bounds_of F) F.body nowhere)) (distinct_owned (lines F) s.1);
      };
      no_record = each (λ s. unrecorded s.early) (λ s. s.early ≡ None) (λ s h. no_record s.early h) F.scopes (no_fault _ s.0);
    }
