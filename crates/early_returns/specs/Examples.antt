-- Functions before and after lowering, written out, and the first of them run. Assumes nothing.
use Rattle.std.specs.Prelude.{◌≡◌, ℕ, ◌+◌, Bool, true, false, List, [], ◌∷◌, Some, None, Option}
use Rattle.hir.specs.declared.place.Place.{Place}
use Rattle.hir.specs.declared.place.Effect.{Effect}
use Rattle.hir.specs.declared.place.Effect.TheVariants.{Unknown, Read, Capture, ConditionallyMutate}
use Rattle.hir.specs.declared.terminal.ReactiveTerminalTargetKind.TheVariants.{Labeled}
use Rattle.hir.specs.declared.environment.Counters.{Counters}
use Rattle.hir.specs.declared.environment.Identifier.{Identifier}
use Rattle.hir.specs.declared.environment.IdentifierName.{IdentifierName}
use Rattle.hir.specs.declared.environment.IdentifierName.TheVariants.{Named, Promoted}
use Rattle.hir.specs.Tree.{Val, operation, instr, no_val, Stmt, instruction, scope, pruned, terminal, Term, break, return, switch, do_while, while, for, for_of, for_in, if, label, try, knil, kcons, some_block, Block, nil, cons, ScopeInfo, Function}
use Rattle.hir.specs.Encode.{encode}
use Rattle.semantics.specs.Machine.{Meaning}
use Rattle.semantics.specs.Exec.{exec, ran}
use Rattle.semantics.specs.declared.Outcome.{Outcome}
use Rattle.semantics.specs.declared.Outcome.TheVariants.{Returned}
use Rattle.semantics.specs.declared.Ran.{Ran}
use Rattle.early_returns.specs.Lowering.{lowered}
use Rattle.early_returns.specs.Pass.{propagate_early_returns}

-- ---- how the examples are written
abbrev pub place : ℕ → Effect → Bool → ℕ → Place
place identifier effect reactive span = record { identifier = identifier; effect = effect; reactive = reactive; span = span }

abbrev pub counters : ℕ → ℕ → ℕ → Counters
counters blocks types ranges = record { blocks = blocks; types = types; ranges = ranges }

abbrev pub identifier : ℕ → Option IdentifierName → ℕ → ℕ → ℕ → Identifier
identifier declaration name range type span = record { declaration = declaration; name = name; range = range; scope = None; kind = type; span = span }

abbrev pub function : Counters → List Identifier → List ScopeInfo → Block → Function
function c is ss b = record { counters = c; identifiers = is; scopes = ss; body = b }

abbrev pub plain : ScopeInfo
plain = record { early = None; declarations = [] }

-- scope x with the record of the identifier n and the label l
abbrev pub recorded : ℕ → ℕ → ℕ → ℕ → ScopeInfo
recorded x n span l = record { early = Some (record { value = n; span = span; label = l }); declarations = record { key = n; identifier = n; scope = x } ∷ [] }

-- an instruction: its lvalue, kind, payload, written places, operands and span
abbrev pub does : Option Place → ℕ → ℕ → List Place → List Place → ℕ → Stmt
does lvalue kind payload written operands span = instruction (instr 0 lvalue (operation (record { kind = kind; payload = payload; written = written; operands = operands; span = span })) span)

abbrev pub returns : ℕ → ℕ → Stmt
returns p span = terminal (return (place p Read true span) 5) None

abbrev pub named : Identifier
named = identifier 0 (Some (Named 40)) 0 0 9

-- the five identifiers from 1 on
abbrev pub five : ℕ → List Identifier
five span = identifier 1 (Some (Promoted 1)) 1 1 span ∷ identifier 2 None 2 2 span ∷ identifier 3 None 3 3 span ∷ identifier 4 None 4 4 span ∷ identifier 5 None 5 5 span ∷ []

-- a scope's block with its opening, by the identifiers, the label and the span
abbrev pub opened : ℕ → ℕ → ℕ → ℕ → ℕ → ℕ → ℕ → Block → Block
opened n sentinel symbol property arg l span b =
    cons (does (Some (place symbol Unknown false 0)) 28 1 [] [] span)
    (cons (does (Some (place property Unknown false 0)) 23 2 [] (place symbol Unknown false 0 ∷ []) span)
    (cons (does (Some (place arg Unknown false 0)) 7 3 [] [] span)
    (cons (does (Some (place sentinel Unknown false 0)) 12 0 [] (place symbol Unknown false 0 ∷ place property Unknown false 0 ∷ place arg Unknown false 0 ∷ []) span)
    (cons (does None 4 1 (place n ConditionallyMutate true span ∷ []) (place sentinel Unknown false 0 ∷ []) span)
    (cons (terminal (label b 0) (Some (record { id = l; implicit = false }))) nil)))))

-- in the place of a return of p: n gets the value, and the break goes to l
abbrev pub leaves : ℕ → ℕ → ℕ → ℕ → Block → Block
leaves n l p span r = cons (does None 4 2 (place n Capture true span ∷ []) (place p Read true span ∷ []) span) (cons (terminal (break l 0 Labeled) None) r)

-- ---- the examples
-- a return in a scope
abbrev pub return_in_scope : Function
return_in_scope = function (counters 7 1 1) (named ∷ []) (plain ∷ []) (cons (scope 0 (cons (returns 0 9) nil)) nil)

abbrev pub return_in_scope_lowered : Function
return_in_scope_lowered = record {
  counters = record { blocks = 8; types = 6; ranges = 6 };
  identifiers =
      record { declaration = 0; name = Some (Named 40); range = 0; scope = None; kind = 0; span = 9 }
      ∷ record { declaration = 1; name = Some (Promoted 1); range = 1; scope = None; kind = 1; span = 9 }
      ∷ record { declaration = 2; name = None; range = 2; scope = None; kind = 2; span = 9 }
      ∷ record { declaration = 3; name = None; range = 3; scope = None; kind = 3; span = 9 }
      ∷ record { declaration = 4; name = None; range = 4; scope = None; kind = 4; span = 9 }
      ∷ record { declaration = 5; name = None; range = 5; scope = None; kind = 5; span = 9 }
      ∷ [];
  scopes = record { early = Some (record { value = 1; span = 9; label = 7 }); declarations = record { key = 1; identifier = 1; scope = 0 } ∷ [] } ∷ [];
  body = cons (scope 0
      (cons (does (Some (place 3 Unknown false 0)) 28 1 [] [] 9)
      (cons (does (Some (place 4 Unknown false 0)) 23 2 [] (place 3 Unknown false 0 ∷ []) 9)
      (cons (does (Some (place 5 Unknown false 0)) 7 3 [] [] 9)
      (cons (does (Some (place 2 Unknown false 0)) 12 0 [] (place 3 Unknown false 0 ∷ place 4 Unknown false 0 ∷ place 5 Unknown false 0 ∷ []) 9)
      (cons (does None 4 1 (place 1 ConditionallyMutate true 9 ∷ []) (place 2 Unknown false 0 ∷ []) 9)
      (cons (terminal (label
      (cons (does None 4 2 (place 1 Capture true 9 ∷ []) (place 0 Read true 9 ∷ []) 9)
      (cons (terminal (break 7 0 Labeled) None) nil)) 0) (Some (record { id = 7; implicit = false }))) nil))))))) nil;
}

-- both as the words of a file: the pairs, the counters, the identifiers, the scopes and the body
abbrev pub words_before : List ℕ
words_before =
    8 ∷ 3 ∷ 11 ∷ 8 ∷ 19 ∷ 2 ∷ 21 ∷ 12
    ∷ 7 ∷ 1 ∷ 1
    ∷ 0 ∷ 1 ∷ 0 ∷ 40 ∷ 0 ∷ 0 ∷ 0 ∷ 9
    ∷ 0 ∷ 0
    ∷ 1 ∷ 2 ∷ 0 ∷ 1 ∷ 1 ∷ 2 ∷ 0 ∷ 2 ∷ 1 ∷ 9 ∷ 5 ∷ 0
    ∷ []

abbrev pub words_after : List ℕ
words_after =
    8 ∷ 3 ∷ 11 ∷ 40 ∷ 51 ∷ 8 ∷ 59 ∷ 125
    ∷ 8 ∷ 6 ∷ 6
    ∷ 0 ∷ 1 ∷ 0 ∷ 40 ∷ 0 ∷ 0 ∷ 0 ∷ 9 ∷ 1 ∷ 1 ∷ 1 ∷ 1 ∷ 1 ∷ 0 ∷ 1 ∷ 9 ∷ 2 ∷ 0 ∷ 2 ∷ 0 ∷ 2 ∷ 9 ∷ 3 ∷ 0 ∷ 3 ∷ 0 ∷ 3 ∷ 9 ∷ 4 ∷ 0 ∷ 4 ∷ 0 ∷ 4 ∷ 9 ∷ 5 ∷ 0 ∷ 5 ∷ 0 ∷ 5 ∷ 9
    ∷ 1 ∷ 1 ∷ 9 ∷ 7 ∷ 1 ∷ 1 ∷ 1 ∷ 0
    ∷ 1 ∷ 2 ∷ 0 ∷ 6 ∷ 0 ∷ 0 ∷ 1 ∷ 3 ∷ 0 ∷ 0 ∷ 0 ∷ 0 ∷ 28 ∷ 1 ∷ 0 ∷ 0 ∷ 9 ∷ 9
    ∷ 0 ∷ 0 ∷ 1 ∷ 4 ∷ 0 ∷ 0 ∷ 0 ∷ 0 ∷ 23 ∷ 2 ∷ 0 ∷ 1 ∷ 3 ∷ 0 ∷ 0 ∷ 0 ∷ 9 ∷ 9
    ∷ 0 ∷ 0 ∷ 1 ∷ 5 ∷ 0 ∷ 0 ∷ 0 ∷ 0 ∷ 7 ∷ 3 ∷ 0 ∷ 0 ∷ 9 ∷ 9
    ∷ 0 ∷ 0 ∷ 1 ∷ 2 ∷ 0 ∷ 0 ∷ 0 ∷ 0 ∷ 12 ∷ 0 ∷ 0 ∷ 3 ∷ 3 ∷ 0 ∷ 0 ∷ 0 ∷ 4 ∷ 0 ∷ 0 ∷ 0 ∷ 5 ∷ 0 ∷ 0 ∷ 0 ∷ 9 ∷ 9
    ∷ 0 ∷ 0 ∷ 0 ∷ 0 ∷ 4 ∷ 1 ∷ 1 ∷ 1 ∷ 5 ∷ 1 ∷ 9 ∷ 1 ∷ 2 ∷ 0 ∷ 0 ∷ 0 ∷ 9 ∷ 9
    ∷ 1 ∷ 11 ∷ 2 ∷ 0 ∷ 0 ∷ 0 ∷ 0 ∷ 4 ∷ 2 ∷ 1 ∷ 1 ∷ 3 ∷ 1 ∷ 9 ∷ 1 ∷ 0 ∷ 2 ∷ 1 ∷ 9 ∷ 9 ∷ 9
    ∷ 1 ∷ 0 ∷ 7 ∷ 0 ∷ 1 ∷ 0 ∷ 0 ∷ 1 ∷ 7 ∷ 0
    ∷ []

-- under no scope, and under pruned scopes only
abbrev pub return_in_no_scope : Function
return_in_no_scope = function (counters 7 1 1) (named ∷ []) (plain ∷ []) (cons (returns 0 9) nil)

abbrev pub return_in_pruned_scopes : Function
return_in_pruned_scopes = function (counters 7 1 1) (named ∷ []) (plain ∷ []) (cons (pruned 0 (cons (pruned 0 (cons (returns 0 9) nil)) nil)) nil)

-- under a pruned scope inside a scope
abbrev pub pruned_in_scope : Block → Function
pruned_in_scope b = function (counters 7 1 1) (named ∷ []) (plain ∷ plain ∷ []) (cons (scope 0 (cons (pruned 1 b) nil)) nil)

abbrev pub pruned_in_scope_lowered : Function
pruned_in_scope_lowered = function (counters 8 6 6) (named ∷ five 9) (recorded 0 1 9 7 ∷ plain ∷ []) (cons (scope 0 (opened 1 2 3 4 5 7 9 (cons (pruned 1 (leaves 1 7 0 9 nil)) nil))) nil)

-- two outermost scopes, with returns of other spans
abbrev pub two_scopes : Function
two_scopes = function (counters 7 1 1) (named ∷ []) (plain ∷ plain ∷ []) (cons (scope 0 (cons (returns 0 9) nil)) (cons (scope 1 (cons (returns 0 11) nil)) nil))

abbrev pub two_scopes_lowered : Function
two_scopes_lowered = function (counters 9 11 11)
    (named ∷ identifier 1 (Some (Promoted 1)) 1 1 9 ∷ identifier 2 None 2 2 9 ∷ identifier 3 None 3 3 9 ∷ identifier 4 None 4 4 9 ∷ identifier 5 None 5 5 9
    ∷ identifier 6 (Some (Promoted 6)) 6 6 11 ∷ identifier 7 None 7 7 11 ∷ identifier 8 None 8 8 11 ∷ identifier 9 None 9 9 11 ∷ identifier 10 None 10 10 11 ∷ [])
    (recorded 0 1 9 7 ∷ recorded 1 6 11 8 ∷ [])
    (cons (scope 0 (opened 1 2 3 4 5 7 9 (leaves 1 7 0 9 nil))) (cons (scope 1 (opened 6 7 8 9 10 8 11 (leaves 6 8 0 11 nil))) nil))

-- a scope inside a scope has the outermost one's identifier and label; the first open return gives n its span
abbrev pub scope_in_scope : Function
scope_in_scope = function (counters 7 1 1) (named ∷ []) (plain ∷ plain ∷ []) (cons (scope 0 (cons (scope 1 (cons (returns 0 11) nil)) (cons (returns 0 9) nil))) nil)

abbrev pub scope_in_scope_lowered : Function
scope_in_scope_lowered = function (counters 8 6 6) (named ∷ five 11) (recorded 0 1 11 7 ∷ plain ∷ [])
    (cons (scope 0 (opened 1 2 3 4 5 7 11 (cons (scope 1 (leaves 1 7 0 11 nil)) (leaves 1 7 0 9 nil)))) nil)

-- a scope with a record stays, outermost and inside another one
abbrev pub recorded_scope : Function
recorded_scope = function (counters 7 1 1) (named ∷ []) (recorded 0 0 9 3 ∷ []) (cons (scope 0 (cons (returns 0 9) nil)) nil)

abbrev pub recorded_in_scope : Function
recorded_in_scope = function (counters 7 1 1) (named ∷ []) (plain ∷ recorded 1 0 9 3 ∷ []) (cons (scope 0 (cons (scope 1 (cons (returns 0 11) nil)) (cons (returns 0 9) nil))) nil)

abbrev pub recorded_in_scope_lowered : Function
recorded_in_scope_lowered = function (counters 8 6 6) (named ∷ five 9) (recorded 0 1 9 7 ∷ recorded 1 0 9 3 ∷ [])
    (cons (scope 0 (opened 1 2 3 4 5 7 9 (cons (scope 1 (cons (returns 0 11) nil)) (leaves 1 7 0 9 nil)))) nil)

-- a block in each place where a terminal has one
abbrev pub loads : Val
loads = operation (record { kind = 0; payload = 0; written = []; operands = place 0 Read true 9 ∷ []; span = 9 })

abbrev pub ends : Term → Block → Block
ends t r = cons (terminal t None) r

abbrev pub in_terminals : Block → Block → Block → Block → Block → Block → Block → Block → Block → Block → Block → Block
in_terminals a b c d e f g h i j k =
    ends (switch (place 0 Read true 9) (kcons None (some_block a) knil) 1) (ends (do_while b loads 2) (ends (while loads c 3) (ends (for loads loads no_val d 4) (ends (for_of loads loads e 5 9)
    (ends (for_in loads f 6 9) (ends (if (place 0 Read true 9) g (some_block h) 7) (ends (label i 8) (ends (try j None k 9) nil))))))))

abbrev pub everywhere : Block → Block
everywhere b = in_terminals b b b b b b b b b b b

-- a scope around all of them
abbrev pub returns_in_terminals : Function
returns_in_terminals = function (counters 7 1 1) (named ∷ []) (plain ∷ []) (cons (scope 0 (everywhere (cons (returns 0 9) nil))) nil)

abbrev pub returns_in_terminals_lowered : Function
returns_in_terminals_lowered = function (counters 8 6 6) (named ∷ five 9) (recorded 0 1 9 7 ∷ []) (cons (scope 0 (opened 1 2 3 4 5 7 9 (everywhere (leaves 1 7 0 9 nil)))) nil)

-- an outermost scope in each of them
abbrev pub returning : ℕ → Block
returning x = cons (scope x (cons (returns 0 9) nil)) nil

abbrev pub scopes_in_terminals : Function
scopes_in_terminals = function (counters 7 1 1) (named ∷ []) (plain ∷ plain ∷ plain ∷ plain ∷ plain ∷ plain ∷ plain ∷ plain ∷ plain ∷ plain ∷ plain ∷ [])
    (in_terminals (returning 0) (returning 1) (returning 2) (returning 3) (returning 4) (returning 5) (returning 6) (returning 7) (returning 8) (returning 9) (returning 10))

-- five identifiers from n on, before others
abbrev pub and_five : ℕ → List Identifier → List Identifier
and_five n is = identifier n (Some (Promoted n)) n n 9 ∷ identifier (n + 1) None (n + 1) (n + 1) 9 ∷ identifier (n + 2) None (n + 2) (n + 2) 9 ∷ identifier (n + 3) None (n + 3) (n + 3) 9 ∷ identifier (n + 4) None (n + 4) (n + 4) 9 ∷ is

abbrev pub left : ℕ → ℕ → ℕ → Block
left x n l = cons (scope x (opened n (n + 1) (n + 2) (n + 3) (n + 4) l 9 (leaves n l 0 9 nil))) nil

abbrev pub scopes_in_terminals_lowered : Function
scopes_in_terminals_lowered = function (counters 18 56 56)
    (named ∷ and_five 1 (and_five 6 (and_five 11 (and_five 16 (and_five 21 (and_five 26 (and_five 31 (and_five 36 (and_five 41 (and_five 46 (and_five 51 [])))))))))))
    (recorded 0 1 9 7 ∷ recorded 1 6 9 8 ∷ recorded 2 11 9 9 ∷ recorded 3 16 9 10 ∷ recorded 4 21 9 11 ∷ recorded 5 26 9 12 ∷ recorded 6 31 9 13 ∷ recorded 7 36 9 14 ∷ recorded 8 41 9 15 ∷ recorded 9 46 9 16 ∷ recorded 10 51 9 17 ∷ [])
    (in_terminals (left 0 1 7) (left 1 6 8) (left 2 11 9) (left 3 16 10) (left 4 21 11) (left 5 26 12) (left 6 31 13) (left 7 36 14) (left 8 41 15) (left 9 46 16) (left 10 51 17))

-- ---- the table
pub record Lowers (lower : Function → Function) : Type 0 where
  pub in_a_scope : lower return_in_scope ≡ return_in_scope_lowered
  pub in_words : encode (lower return_in_scope) ≡ words_after
  pub in_no_scope : lower return_in_no_scope ≡ return_in_no_scope
  pub in_pruned_scopes : lower return_in_pruned_scopes ≡ return_in_pruned_scopes
  pub in_a_pruned_scope_in_a_scope : lower (pruned_in_scope (cons (returns 0 9) nil)) ≡ pruned_in_scope_lowered
  pub in_two_scopes : lower two_scopes ≡ two_scopes_lowered
  pub in_a_scope_in_a_scope : lower scope_in_scope ≡ scope_in_scope_lowered
  pub in_a_recorded_scope : lower recorded_scope ≡ recorded_scope
  pub in_a_recorded_scope_in_a_scope : lower recorded_in_scope ≡ recorded_in_scope_lowered
  pub in_every_terminal_in_a_scope : lower returns_in_terminals ≡ returns_in_terminals_lowered
  pub in_a_scope_in_every_terminal : lower scopes_in_terminals ≡ scopes_in_terminals_lowered

abbrev pub runs_so : Outcome → ℕ → ℕ → Bool → Ran
runs_so outcome steps entries recorded = record { outcome = outcome; steps = steps; entries = entries; recorded = recorded }

-- the first example run before and after, whatever the host: with these budgets, the least
pub record Runs (S : Type 0) : Type 0 where
  pub before : (H : Meaning S) (h : S) → ran (exec H return_in_scope 2 h (5 ∷ [])) ≡ runs_so (Returned 5) 2 0 false
  pub behind : (H : Meaning S) (h : S) → ran (exec H return_in_scope_lowered 9 h (5 ∷ 0 ∷ 0 ∷ 0 ∷ 0 ∷ 0 ∷ [])) ≡ runs_so (Returned 5) 9 1 true

pub record Examples (S : Type 0) : Type 0 where
  pub before_in_words : encode return_in_scope ≡ words_before
  pub published : Lowers propagate_early_returns
  pub described : Lowers lowered
  pub runs : Runs S
