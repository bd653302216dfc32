-- The abstract function: its tree, scopes, identifiers and counters as data. Assumes nothing.
use Rattle.std.specs.Prelude.{ℕ, Bool, List, [], Option}
use Rattle.hir.specs.declared.place.Place.{Place}
use Rattle.hir.specs.declared.value.LogicalOperator.{LogicalOperator}
use Rattle.hir.specs.declared.terminal.ReactiveLabel.{ReactiveLabel}
use Rattle.hir.specs.declared.terminal.ReactiveTerminalTargetKind.{ReactiveTerminalTargetKind}
use Rattle.hir.specs.declared.environment.Counters.{Counters}
use Rattle.hir.specs.declared.environment.Identifier.{Identifier}
use Rattle.hir.specs.declared.environment.ReactiveScopeEarlyReturn.{ReactiveScopeEarlyReturn}
use Rattle.hir.specs.declared.environment.ReactiveScopeDeclaration.{ReactiveScopeDeclaration}

-- an InstructionValue, with its lists of places
pub record Op : Type 0 where
  pub kind : ℕ
  pub payload : ℕ
  pub written : List Place
  pub operands : List Place
  pub span : ℕ

-- values; an instruction is its id, lvalue, value and span
mutual
  pub data Val : Type 0 where
    operation : Op → Val
    logical : LogicalOperator → Val → Val → Val
    conditional : Val → Val → Val → Val
    sequence : Instrs → ℕ → Val → Val
    optional : Val → Bool → Val

  pub data Instr : Type 0 where
    instr : ℕ → Option Place → Val → ℕ → Instr

  pub data Instrs : Type 0 where
    inil : Instrs
    icons : Instr → Instrs → Instrs

pub data OptVal : Type 0 where
  no_val : OptVal
  some_val : Val → OptVal

-- statements; the fields of a terminal stand in the order in which the compiler declares them
mutual
  pub data Stmt : Type 0 where
    instruction : Instr → Stmt
    terminal : Term → Option ReactiveLabel → Stmt
    scope : ℕ → Block → Stmt
    pruned : ℕ → Block → Stmt

  pub data Term : Type 0 where
    break : ℕ → ℕ → ReactiveTerminalTargetKind → Term
    continue : ℕ → ℕ → ReactiveTerminalTargetKind → Term
    return : Place → ℕ → Term
    throw : Place → ℕ → Term
    switch : Place → Cases → ℕ → Term
    do_while : Block → Val → ℕ → Term
    while : Val → Block → ℕ → Term
    for : Val → Val → OptVal → Block → ℕ → Term
    for_of : Val → Val → Block → ℕ → ℕ → Term
    for_in : Val → Block → ℕ → ℕ → Term
    if : Place → Block → OptBlock → ℕ → Term
    label : Block → ℕ → Term
    try : Block → Option Place → Block → ℕ → Term

  pub data Cases : Type 0 where
    knil : Cases
    kcons : Option Place → OptBlock → Cases → Cases

  pub data OptBlock : Type 0 where
    no_block : OptBlock
    some_block : Block → OptBlock

  pub data Block : Type 0 where
    nil : Block
    cons : Stmt → Block → Block

-- a scope: its record, if it has one, and its declarations
pub record ScopeInfo : Type 0 where
  pub early : Option ReactiveScopeEarlyReturn
  pub declarations : List ReactiveScopeDeclaration

pub record Function : Type 0 where
  pub counters : Counters
  pub identifiers : List Identifier
  pub scopes : List ScopeInfo
  pub body : Block

-- the function of empty tables
abbrev pub no_counters : Counters
no_counters = record { blocks = 0; types = 0; ranges = 0 }

abbrev pub empty : Function
empty = record { counters = no_counters; identifiers = []; scopes = []; body = nil }
