-- How many slots of each kind a function takes. Assumes nothing.
use Rattle.std.specs.Prelude.{ℕ, ◌+◌, List, [], ◌∷◌, length, Some, None, Option}
use Rattle.hir.specs.declared.place.Place.{Place}
use Rattle.hir.specs.declared.used.Used.{Used}
use Rattle.hir.specs.Tree.{Val, operation, logical, conditional, sequence, optional, OptVal, no_val, some_val, Instr, instr, Instrs, inil, icons, Stmt, instruction, scope, pruned, terminal, Term, break, continue, return, throw, switch, do_while, while, for, for_of, for_in, if, label, try, Cases, knil, kcons, OptBlock, no_block, some_block, Block, nil, cons, ScopeInfo, Function}

abbrev pub none : Used
none = record { statements = 0; values = 0; places = 0; identifiers = 0; scopes = 0; declarations = 0; cases = 0 }

abbrev pub plus : Used → Used → Used
plus a b =
    record {
      statements = a.statements + b.statements;
      values = a.values + b.values;
      places = a.places + b.places;
      identifiers = a.identifiers + b.identifiers;
      scopes = a.scopes + b.scopes;
      declarations = a.declarations + b.declarations;
      cases = a.cases + b.cases;
    }

-- a statement, a value, some places, a switch case
abbrev pub one_statement : Used
one_statement = record { statements = 1; values = 0; places = 0; identifiers = 0; scopes = 0; declarations = 0; cases = 0 }

abbrev pub one_value : Used
one_value = record { statements = 0; values = 1; places = 0; identifiers = 0; scopes = 0; declarations = 0; cases = 0 }

abbrev pub some_places : ℕ → Used
some_places n = record { statements = 0; values = 0; places = n; identifiers = 0; scopes = 0; declarations = 0; cases = 0 }

abbrev pub one_case : Used
one_case = record { statements = 0; values = 0; places = 0; identifiers = 0; scopes = 0; declarations = 0; cases = 1 }

abbrev pub opt_place_size : Option Place → Used
opt_place_size None = none
opt_place_size (Some p) = some_places 1

abbrev mutual
  pub val_size : Val → Used
  val_size (operation o) = plus one_value (plus (some_places (length o.written)) (some_places (length o.operands)))
  val_size (logical o a b) = plus one_value (plus (val_size a) (val_size b))
  val_size (conditional c a b) = plus one_value (plus (val_size c) (plus (val_size a) (val_size b)))
  val_size (sequence is i v) = plus one_value (plus (instrs_size is) (val_size v))
  val_size (optional v o) = plus one_value (val_size v)

  -- without the instruction itself, which is a statement
  pub instr_size : Instr → Used
  instr_size (instr i l v s) = plus (opt_place_size l) (val_size v)

  pub instrs_size : Instrs → Used
  instrs_size inil = none
  instrs_size (icons i is) = plus one_statement (plus (instr_size i) (instrs_size is))

abbrev pub opt_val_size : OptVal → Used
opt_val_size no_val = none
opt_val_size (some_val v) = val_size v

abbrev mutual
  -- without the statement itself
  pub stmt_size : Stmt → Used
  stmt_size (instruction i) = instr_size i
  stmt_size (terminal t m) = term_size t
  stmt_size (scope x b) = block_size b
  stmt_size (pruned x b) = block_size b

  pub term_size : Term → Used
  term_size (break l i k) = none
  term_size (continue l i k) = none
  term_size (return p i) = some_places 1
  term_size (throw p i) = some_places 1
  term_size (switch p cs i) = plus (some_places 1) (cases_size cs)
  term_size (do_while b v i) = plus (block_size b) (val_size v)
  term_size (while v b i) = plus (val_size v) (block_size b)
  term_size (for n v u b i) = plus (val_size n) (plus (val_size v) (plus (opt_val_size u) (block_size b)))
  term_size (for_of n v b i s) = plus (val_size n) (plus (val_size v) (block_size b))
  term_size (for_in v b i s) = plus (val_size v) (block_size b)
  term_size (if p b c i) = plus (some_places 1) (plus (block_size b) (opt_block_size c))
  term_size (label b i) = block_size b
  term_size (try b p c i) = plus (block_size b) (plus (opt_place_size p) (block_size c))

  pub cases_size : Cases → Used
  cases_size knil = none
  cases_size (kcons t b cs) = plus one_case (plus (opt_place_size t) (plus (opt_block_size b) (cases_size cs)))

  pub opt_block_size : OptBlock → Used
  opt_block_size no_block = none
  opt_block_size (some_block b) = block_size b

  pub block_size : Block → Used
  block_size nil = none
  block_size (cons s b) = plus one_statement (plus (stmt_size s) (block_size b))

abbrev pub declarations_in : List ScopeInfo → ℕ
declarations_in [] = 0
declarations_in (s ∷ ss) = length s.declarations + declarations_in ss

-- what a function takes
unfoldable pub sizes : Function → Used
sizes F =
    plus (record { statements = 0; values = 0; places = 0; identifiers = length F.identifiers; scopes = length F.scopes; declarations = declarations_in F.scopes; cases = 0 })
    (block_size F.body)
