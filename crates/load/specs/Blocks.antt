-- What the reading of blocks leaves in the tables. Assumes nothing.
use Rattle.std.specs.Prelude.{◌≡◌, ℕ, ◌+◌, ◌≤◌, List, ◌++◌, Some, Ok, Err, vec_items, vec_len, Option, Result, MatchResult}
use Rattle.hir.specs.declared.arena.Arena.{Arena}
use Rattle.hir.specs.declared.place.Place.{Place}
use Rattle.hir.specs.declared.range.Range.{Range}
use Rattle.hir.specs.declared.statement.ReactiveStatement.{ReactiveStatement}
use Rattle.hir.specs.declared.terminal.ReactiveSwitchCase.{ReactiveSwitchCase}
use Rattle.hir.specs.declared.terminal.ReactiveTerminal.{ReactiveTerminal}
use Rattle.hir.specs.declared.terminal.ReactiveTerminalStatement.{ReactiveTerminalStatement}
use Rattle.hir.specs.declared.used.Used.{Used}
use Rattle.hir.specs.declared.value.ReactiveInstruction.{ReactiveInstruction}
use Rattle.hir.specs.Decode.{Slots, instr_of, opt_value_of, opt_block_of, cases_of, term_of, stmt_of, body_of, slot_of, block_of, top_value}
use Rattle.hir.specs.Grows.{SlotsGrow}
use Rattle.hir.specs.Held.{slots}
use Rattle.hir.specs.Options.{bind, part}
use Rattle.hir.specs.Tree.{Val, OptVal, Instr, Stmt, terminal, Term, Cases as CasesTree, OptBlock, Block}
use Rattle.format.specs.declared.fault.FileFault.{FileFault}
use Rattle.format.specs.Parse.{Cursor, Read, onto, give, option, place, block, opt_block, stmts_read, cases_read}
use Rattle.load.specs.declared.reader.Reader.{Reader}
use Rattle.load.specs.Reads.{cursor}
use Rattle.load.specs.Values.{ValueRoom, ValueStep}

-- what stands in the tables was counted as it began
pub record Room (a : Arena) (u : Used) : Type 0 where
  pub values : ValueRoom a.inner u
  pub statements : vec_len a.statements.vec ≤ u.statements
  pub entries : vec_len a.entries.table.vec + vec_len a.entries.waiting.vec ≤ u.statements
  pub cases : vec_len a.cases.table.vec + vec_len a.cases.waiting.vec ≤ u.cases

-- a goes over to b, and what it gains was counted between u and v
pub record Step (a b : Arena) (u v : Used) : Type 0 where
  pub values : ValueStep a.inner b.inner u v
  pub grow : SlotsGrow (slots a) (slots b)
  pub statements : vec_len b.statements.vec + u.statements ≤ vec_len a.statements.vec + v.statements
  pub entries : vec_len b.entries.table.vec + vec_len b.entries.waiting.vec + u.statements ≤ vec_len a.entries.table.vec + vec_len a.entries.waiting.vec + v.statements
  pub cases : vec_len b.cases.table.vec + vec_len b.cases.waiting.vec + u.cases ≤ vec_len a.cases.table.vec + vec_len a.cases.waiting.vec + v.cases

-- such a step, after which nothing more waits
pub record Frame (a b : Arena) (u v : Used) : Type 0 where
  pub step : Step a b u v
  pub waiting : vec_items b.entries.waiting.vec ≡ vec_items a.entries.waiting.vec
  pub casing : vec_items b.cases.waiting.vec ≡ vec_items a.cases.waiting.vec

-- from c to d the parser reads a tree, and r, in b, stands for it
pub record BlockIn {X R : Type 0} (parser : Cursor → Read X) (decode : Slots → R → Option X) (a b : Arena) (c d : Cursor) (r : R) : Type 0 where
  pub tree : X
  pub parsed : parser c ≡ Ok (tree, d)
  pub stands : decode (slots b) r ≡ Some tree
  pub frame : Frame a b c.used d.used

-- such a reading, or the parser's refusal
abbrev pub ReadsBlock : {X R : Type 0} → (Cursor → Read X) → (Slots → R → Option X) → Arena → Arena → Reader → Reader → Result R FileFault → Type 0
ReadsBlock parser decode a b s t r = MatchResult r (BlockIn parser decode a b (cursor s) (cursor t)) (λ e. parser (cursor s) ≡ Err e)

-- one switch case: its test and its block
abbrev pub case_read : ℕ → Cursor → Read (Option Place × OptBlock)
case_read d c = onto (option place c) (λ t c₁. onto (opt_block (block d) c₁) (λ b. give (t, b)))

-- ---- what the parts stand for, where blocks are at most d deep
abbrev pub slot_in : Slots → ℕ → Option Val
slot_in s k = top_value s.inner k

abbrev pub opt_slot_in : Slots → Option ℕ → Option OptVal
opt_slot_in s k = opt_value_of (top_value s.inner) k

abbrev pub plain_in : Slots → ReactiveInstruction → Option Instr
plain_in s i = instr_of (top_value s.inner) i

abbrev pub opt_block_in : ℕ → Slots → Option Range → Option OptBlock
opt_block_in d s r = opt_block_of (block_of d s) r

abbrev pub case_in : ℕ → Slots → ReactiveSwitchCase → Option (Option Place × OptBlock)
case_in d s k = bind (opt_block_of (block_of d s) k.block) (λ b. Some (k.test, b))

abbrev pub cases_in : ℕ → Slots → Range → Option CasesTree
cases_in d s r = bind (part s.cases r) (cases_of (block_of d s))

abbrev pub term_in : ℕ → Slots → ReactiveTerminal → Option Term
term_in d s t = term_of s (top_value s.inner) (block_of d s) t

abbrev pub terminal_in : ℕ → Slots → ReactiveTerminalStatement → Option Stmt
terminal_in d s t = bind (term_in d s t.terminal) (λ x. Some (terminal x t.label))

abbrev pub stmt_in : ℕ → Slots → ReactiveStatement → Option Stmt
stmt_in d s n = stmt_of s (top_value s.inner) (block_of d s) n

abbrev pub stmt_slot : ℕ → Slots → ℕ → Option Stmt
stmt_slot d s k = slot_of s (block_of d s) k

-- so many statements, their slots put aside one after another
pub record StmtsIn (d n : ℕ) (a b : Arena) (c e : Cursor) : Type 0 where
  pub tree : Block
  pub row : List ℕ
  pub parsed : stmts_read (block d) n c ≡ Ok (tree, e)
  pub stands : body_of (stmt_slot d (slots b)) row ≡ Some tree
  pub step : Step a b c.used e.used
  pub waiting : vec_items b.entries.waiting.vec ≡ vec_items a.entries.waiting.vec ++ row
  pub casing : vec_items b.cases.waiting.vec ≡ vec_items a.cases.waiting.vec

-- so many switch cases, put aside one after another
pub record CasesIn (d n : ℕ) (a b : Arena) (c e : Cursor) : Type 0 where
  pub tree : CasesTree
  pub row : List ReactiveSwitchCase
  pub parsed : cases_read (block d) n c ≡ Ok (tree, e)
  pub stands : cases_of (block_of d (slots b)) row ≡ Some tree
  pub step : Step a b c.used e.used
  pub waiting : vec_items b.entries.waiting.vec ≡ vec_items a.entries.waiting.vec
  pub casing : vec_items b.cases.waiting.vec ≡ vec_items a.cases.waiting.vec ++ row
