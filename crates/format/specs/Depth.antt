-- How deep blocks and values stand in one another. Assumes nothing.
use Rattle.std.specs.Prelude.{ℕ, suc, max}
use Rattle.hir.specs.Tree.{Val, operation, logical, conditional, sequence, optional, Instr, instr, Instrs, inil, icons, Stmt, instruction, scope, pruned, terminal, Term, break, continue, return, throw, switch, do_while, while, for, for_of, for_in, if, label, try, Cases, knil, kcons, OptBlock, no_block, some_block, Block, nil, cons}

-- a value has depth 1, and a value inside it, also that of an instruction of a sequence, is one deeper
abbrev mutual
  pub value_depth : Val → ℕ
  value_depth (operation o) = 1
  value_depth (logical o a b) = suc (max (value_depth a) (value_depth b))
  value_depth (conditional c a b) = suc (max (value_depth c) (max (value_depth a) (value_depth b)))
  value_depth (sequence is i v) = suc (max (instrs_depth is) (value_depth v))
  value_depth (optional v o) = suc (value_depth v)

  pub instr_depth : Instr → ℕ
  instr_depth (instr i l v s) = value_depth v

  pub instrs_depth : Instrs → ℕ
  instrs_depth inil = 0
  instrs_depth (icons i is) = max (instr_depth i) (instrs_depth is)

-- a block has depth 1, and a block inside it is one deeper; a statement without a block has none
abbrev mutual
  pub block_depth : Block → ℕ
  block_depth nil = 1
  block_depth (cons s b) = max (suc (stmt_depth s)) (block_depth b)

  pub stmt_depth : Stmt → ℕ
  stmt_depth (instruction i) = 0
  stmt_depth (terminal t m) = term_depth t
  stmt_depth (scope x b) = block_depth b
  stmt_depth (pruned x b) = block_depth b

  pub term_depth : Term → ℕ
  term_depth (break l i k) = 0
  term_depth (continue l i k) = 0
  term_depth (return p i) = 0
  term_depth (throw p i) = 0
  term_depth (switch p cs i) = cases_depth cs
  term_depth (do_while b v i) = block_depth b
  term_depth (while v b i) = block_depth b
  term_depth (for n v u b i) = block_depth b
  term_depth (for_of n v b i s) = block_depth b
  term_depth (for_in v b i s) = block_depth b
  term_depth (if p b c i) = max (block_depth b) (opt_block_depth c)
  term_depth (label b i) = block_depth b
  term_depth (try b p c i) = max (block_depth b) (block_depth c)

  pub cases_depth : Cases → ℕ
  cases_depth knil = 0
  cases_depth (kcons t b cs) = max (opt_block_depth b) (cases_depth cs)

  pub opt_block_depth : OptBlock → ℕ
  opt_block_depth no_block = 0
  opt_block_depth (some_block b) = block_depth b
