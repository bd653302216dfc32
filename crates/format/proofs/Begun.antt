-- Each item that begins takes one slot, and is within its limit. Assumes nothing.
use Rattle.std.proofs.Common.{ltb, [], refl, arith, ltb-true}
use Rattle.hir.specs.declared.used.Used.{Used}
use Rattle.hir.specs.Sizes.{one_statement, one_value, some_places, one_case}
use Rattle.format.specs.Parse.{Cursor, begin_statement, begin_value, begin_place, begin_identifier, begin_scope, begin_declaration, begin_case}
use Rattle.format.proofs.Took.{Used-is, Took, Comes, began}

abbrev pub one_identifier : Used
one_identifier = record { statements = 0; values = 0; places = 0; identifiers = 1; scopes = 0; declarations = 0; cases = 0 }

abbrev pub one_scope : Used
one_scope = record { statements = 0; values = 0; places = 0; identifiers = 0; scopes = 1; declarations = 0; cases = 0 }

abbrev pub one_declaration : Used
one_declaration = record { statements = 0; values = 0; places = 0; identifiers = 0; scopes = 0; declarations = 1; cases = 0 }

pub statement_began : (c : Cursor) → Comes (begin_statement c) (λ _ d. Took c d [] one_statement)
statement_began c =
    began (ltb c.used.statements 2048) _ one_statement c (Used-is refl (omega arith) (omega arith) (omega arith) (omega arith) (omega arith) (omega arith))
    (λ b w. let k = ltb-true _ _ b in record { statements = omega arith; values = w.values; places = w.places; identifiers = w.identifiers; scopes = w.scopes; declarations = w.declarations; cases = w.cases })

pub value_began : (c : Cursor) → Comes (begin_value c) (λ _ d. Took c d [] one_value)
value_began c =
    began (ltb c.used.values 4096) _ one_value c (Used-is (omega arith) refl (omega arith) (omega arith) (omega arith) (omega arith) (omega arith))
    (λ b w. let k = ltb-true _ _ b in record { statements = w.statements; values = omega arith; places = w.places; identifiers = w.identifiers; scopes = w.scopes; declarations = w.declarations; cases = w.cases })

pub place_began : (c : Cursor) → Comes (begin_place c) (λ _ d. Took c d [] (some_places 1))
place_began c =
    began (ltb c.used.places 4096) _ (some_places 1) c (Used-is (omega arith) (omega arith) refl (omega arith) (omega arith) (omega arith) (omega arith))
    (λ b w. let k = ltb-true _ _ b in record { statements = w.statements; values = w.values; places = omega arith; identifiers = w.identifiers; scopes = w.scopes; declarations = w.declarations; cases = w.cases })

pub identifier_began : (c : Cursor) → Comes (begin_identifier c) (λ _ d. Took c d [] one_identifier)
identifier_began c =
    began (ltb c.used.identifiers 2048) _ one_identifier c (Used-is (omega arith) (omega arith) (omega arith) refl (omega arith) (omega arith) (omega arith))
    (λ b w. let k = ltb-true _ _ b in record { statements = w.statements; values = w.values; places = w.places; identifiers = omega arith; scopes = w.scopes; declarations = w.declarations; cases = w.cases })

pub scope_began : (c : Cursor) → Comes (begin_scope c) (λ _ d. Took c d [] one_scope)
scope_began c =
    began (ltb c.used.scopes 256) _ one_scope c (Used-is (omega arith) (omega arith) (omega arith) (omega arith) refl (omega arith) (omega arith))
    (λ b w. let k = ltb-true _ _ b in record { statements = w.statements; values = w.values; places = w.places; identifiers = w.identifiers; scopes = omega arith; declarations = w.declarations; cases = w.cases })

pub declaration_began : (c : Cursor) → Comes (begin_declaration c) (λ _ d. Took c d [] one_declaration)
declaration_began c =
    began (ltb c.used.declarations 1024) _ one_declaration c (Used-is (omega arith) (omega arith) (omega arith) (omega arith) (omega arith) refl (omega arith))
    (λ b w. let k = ltb-true _ _ b in record { statements = w.statements; values = w.values; places = w.places; identifiers = w.identifiers; scopes = w.scopes; declarations = omega arith; cases = w.cases })

pub case_began : (c : Cursor) → Comes (begin_case c) (λ _ d. Took c d [] one_case)
case_began c =
    began (ltb c.used.cases 1024) _ one_case c (Used-is (omega arith) (omega arith) (omega arith) (omega arith) (omega arith) (omega arith) refl)
    (λ b w. let k = ltb-true _ _ b in record { statements = w.statements; values = w.values; places = w.places; identifiers = w.identifiers; scopes = w.scopes; declarations = w.declarations; cases = omega arith })
