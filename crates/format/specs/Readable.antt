-- The functions whose file is read: what the words and the tree are held to. Assumes nothing.
use Rattle.std.specs.Prelude.{◌≡◌, ℕ, ◌<◌, ◌≤◌, List, length, Ok}
use Rattle.std.specs.List.{AllByRecursion}
use Rattle.hir.specs.Encode.{encode}
use Rattle.hir.specs.Limits.{Within, limits}
use Rattle.hir.specs.Sizes.{sizes}
use Rattle.hir.specs.Tree.{Op, Val, operation, logical, conditional, sequence, optional, OptVal, no_val, some_val, Instr, instr, Instrs, inil, icons, Stmt, instruction, scope, pruned, terminal, Term, break, continue, return, throw, switch, do_while, while, for, for_of, for_in, if, label, try, Cases, knil, kcons, OptBlock, no_block, some_block, Block, nil, cons, Function}
use Rattle.format.specs.Depth.{value_depth, block_depth}
use Rattle.format.specs.Parse.{parse, parse_file}
use Rattle.format.specs.Words.{bytes}

-- an evaluation order, or a counter
abbrev pub Order : ℕ → Type 0
Order i = i ≤ 1000000

-- the 42 kinds of values, and for a StoreLocal, kind 4, the 8 kinds of instructions
pub record Known (o : Op) : Type 0 where
  pub kind : o.kind < 42
  pub store : o.kind ≡ 4 → o.payload < 8

-- ---- each order at most 1,000,000 and each kind known, throughout a value
abbrev mutual
  pub ValFits : Val → Type 0
  ValFits (operation o) = Known o
  ValFits (logical o a b) = ValFits a × ValFits b
  ValFits (conditional c a b) = ValFits c × ValFits a × ValFits b
  ValFits (sequence is i v) = InstrsFit is × Order i × ValFits v
  ValFits (optional v o) = ValFits v

  pub InstrFits : Instr → Type 0
  InstrFits (instr i l v s) = Order i × ValFits v

  pub InstrsFit : Instrs → Type 0
  InstrsFit inil = Unit {0}
  InstrsFit (icons i is) = InstrFits i × InstrsFit is

-- ---- throughout a block, whose values besides are at most 64 deep
abbrev pub TopFits : Val → Type 0
TopFits v = (value_depth v ≤ 64) × ValFits v

abbrev pub OptValFits : OptVal → Type 0
OptValFits no_val = Unit {0}
OptValFits (some_val v) = TopFits v

abbrev pub InstructionFits : Instr → Type 0
InstructionFits (instr i l v s) = Order i × TopFits v

abbrev mutual
  pub StmtFits : Stmt → Type 0
  StmtFits (instruction i) = InstructionFits i
  StmtFits (terminal t m) = TermFits t
  StmtFits (scope x b) = BlockFits b
  StmtFits (pruned x b) = BlockFits b

  pub TermFits : Term → Type 0
  TermFits (break l i k) = Order i
  TermFits (continue l i k) = Order i
  TermFits (return p i) = Order i
  TermFits (throw p i) = Order i
  TermFits (switch p cs i) = CasesFit cs × Order i
  TermFits (do_while b v i) = BlockFits b × TopFits v × Order i
  TermFits (while v b i) = TopFits v × BlockFits b × Order i
  TermFits (for n v u b i) = TopFits n × TopFits v × OptValFits u × BlockFits b × Order i
  TermFits (for_of n v b i s) = TopFits n × TopFits v × BlockFits b × Order i
  TermFits (for_in v b i s) = TopFits v × BlockFits b × Order i
  TermFits (if p b c i) = BlockFits b × OptBlockFits c × Order i
  TermFits (label b i) = BlockFits b × Order i
  TermFits (try b p c i) = BlockFits b × BlockFits c × Order i

  pub CasesFit : Cases → Type 0
  CasesFit knil = Unit {0}
  CasesFit (kcons t b cs) = OptBlockFits b × CasesFit cs

  pub OptBlockFits : OptBlock → Type 0
  OptBlockFits no_block = Unit {0}
  OptBlockFits (some_block b) = BlockFits b

  pub BlockFits : Block → Type 0
  BlockFits nil = Unit {0}
  BlockFits (cons s b) = StmtFits s × BlockFits b

-- ---- a function whose words are read
pub record Readable (F : Function) : Type 0 where
  pub slots : Within (sizes F) limits
  pub depth : block_depth F.body ≤ 64
  pub blocks : Order F.counters.blocks
  pub types : Order F.counters.types
  pub ranges : Order F.counters.ranges
  pub body : BlockFits F.body

-- and whose file holds them: at most 65,536 bytes, each word of 32 bits
pub record Holds (F : Function) : Type 0 where
  pub long : length (encode F) ≤ 16384
  pub wide : AllByRecursion (λ w. w < 4294967296) (encode F)

-- what is written of such a function is read as that function
abbrev pub WordsAreRead : Type 0
WordsAreRead = (F : Function) → Readable F → parse (encode F) ≡ Ok F

abbrev pub BytesAreRead : Type 0
BytesAreRead = (F : Function) → Readable F → Holds F → parse_file (bytes (encode F)) ≡ Ok F

-- and no other is read
abbrev pub OnlyReadable : Type 0
OnlyReadable = (ws : List ℕ) (F : Function) → parse ws ≡ Ok F → Readable F

abbrev pub OnlyHeld : Type 0
OnlyHeld = (bs : List ℕ) (F : Function) → AllByRecursion (λ b. b < 256) bs → parse_file bs ≡ Ok F → Readable F × Holds F
