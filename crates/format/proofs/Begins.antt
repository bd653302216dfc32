-- Each item begins where there is room for one more. Assumes nothing.
use Rattle.std.proofs.Common.{ℕ, ltb, List, [], refl, arith, lt-ltb}
use Rattle.hir.specs.Sizes.{one_statement, one_value, some_places, one_case}
use Rattle.format.specs.Parse.{Cursor, begin_statement, begin_value, begin_place, begin_identifier, begin_scope, begin_declaration, begin_case}
use Rattle.format.proofs.Took.{Used-is}
use Rattle.format.proofs.Begun.{one_identifier, one_scope, one_declaration}
use Rattle.format.proofs.Finds.{Faces, Finds, counted_finds}

pub statement_begins : {c : Cursor} {vs : List ℕ} → Faces c [] vs one_statement → Finds (begin_statement c) tt c vs one_statement
statement_begins {c} h =
    counted_finds (ltb c.used.statements 2048) _ one_statement (lt-ltb _ _ (omega (arith, h.room.statements))) (Used-is refl (omega arith) (omega arith) (omega arith) (omega arith) (omega arith) (omega arith)) h

pub value_begins : {c : Cursor} {vs : List ℕ} → Faces c [] vs one_value → Finds (begin_value c) tt c vs one_value
value_begins {c} h =
    counted_finds (ltb c.used.values 4096) _ one_value (lt-ltb _ _ (omega (arith, h.room.values))) (Used-is (omega arith) refl (omega arith) (omega arith) (omega arith) (omega arith) (omega arith)) h

pub place_begins : {c : Cursor} {vs : List ℕ} → Faces c [] vs (some_places 1) → Finds (begin_place c) tt c vs (some_places 1)
place_begins {c} h =
    counted_finds (ltb c.used.places 4096) _ (some_places 1) (lt-ltb _ _ (omega (arith, h.room.places))) (Used-is (omega arith) (omega arith) refl (omega arith) (omega arith) (omega arith) (omega arith)) h

pub identifier_begins : {c : Cursor} {vs : List ℕ} → Faces c [] vs one_identifier → Finds (begin_identifier c) tt c vs one_identifier
identifier_begins {c} h =
    counted_finds (ltb c.used.identifiers 2048) _ one_identifier (lt-ltb _ _ (omega (arith, h.room.identifiers))) (Used-is (omega arith) (omega arith) (omega arith) refl (omega arith) (omega arith) (omega arith)) h

pub scope_begins : {c : Cursor} {vs : List ℕ} → Faces c [] vs one_scope → Finds (begin_scope c) tt c vs one_scope
scope_begins {c} h =
    counted_finds (ltb c.used.scopes 256) _ one_scope (lt-ltb _ _ (omega (arith, h.room.scopes))) (Used-is (omega arith) (omega arith) (omega arith) (omega arith) refl (omega arith) (omega arith)) h

pub declaration_begins : {c : Cursor} {vs : List ℕ} → Faces c [] vs one_declaration → Finds (begin_declaration c) tt c vs one_declaration
declaration_begins {c} h =
    counted_finds (ltb c.used.declarations 1024) _ one_declaration (lt-ltb _ _ (omega (arith, h.room.declarations))) (Used-is (omega arith) (omega arith) (omega arith) (omega arith) (omega arith) refl (omega arith)) h

pub case_begins : {c : Cursor} {vs : List ℕ} → Faces c [] vs one_case → Finds (begin_case c) tt c vs one_case
case_begins {c} h =
    counted_finds (ltb c.used.cases 1024) _ one_case (lt-ltb _ _ (omega (arith, h.room.cases))) (Used-is (omega arith) (omega arith) (omega arith) (omega arith) (omega arith) (omega arith) refl) h
