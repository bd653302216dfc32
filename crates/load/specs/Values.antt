-- What the reading of values leaves in the tables. Assumes nothing.
use Rattle.std.specs.Prelude.{◌≡◌, ℕ, ◌+◌, ◌≤◌, List, ◌++◌, length, Some, Ok, Err, vec_items, vec_len, Option, Result, MatchResult}
use Rattle.hir.specs.declared.place.Place.{Place}
use Rattle.hir.specs.declared.range.Range.{Range}
use Rattle.hir.specs.declared.used.Used.{Used}
use Rattle.hir.specs.declared.value.ReactiveInstruction.{ReactiveInstruction}
use Rattle.hir.specs.declared.value.ReactiveValue.{ReactiveValue}
use Rattle.hir.specs.declared.value_arena.ValueArena.{ValueArena}
use Rattle.hir.specs.Decode.{ValueSlots, instr_of, instrs_of, val_of, value_of}
use Rattle.hir.specs.Grows.{ValuesGrow}
use Rattle.hir.specs.Held.{value_slots}
use Rattle.hir.specs.Limits.{Within}
use Rattle.hir.specs.Options.{bind, part}
use Rattle.hir.specs.Tree.{Val, Instr, Instrs}
use Rattle.format.specs.declared.fault.FileFault.{FileFault}
use Rattle.format.specs.Parse.{Cursor, Read, instrs_read, value, times, place}
use Rattle.load.specs.declared.reader.Reader.{Reader}
use Rattle.load.specs.Reads.{cursor}

-- what stands in the tables was counted as it began
pub record ValueRoom (a : ValueArena) (u : Used) : Type 0 where
  pub values : vec_len a.values.vec ≤ u.values
  pub places : vec_len a.places.vec ≤ u.places
  pub instructions : vec_len a.instructions.table.vec + vec_len a.instructions.waiting.vec ≤ u.statements

-- a goes over to b, and what it gains was counted between u and v
pub record ValueStep (a b : ValueArena) (u v : Used) : Type 0 where
  pub grow : ValuesGrow (value_slots a) (value_slots b)
  pub later : Within u v
  pub values : vec_len b.values.vec + u.values ≤ vec_len a.values.vec + v.values
  pub places : vec_len b.places.vec + u.places ≤ vec_len a.places.vec + v.places
  pub instructions : vec_len b.instructions.table.vec + vec_len b.instructions.waiting.vec + u.statements ≤ vec_len a.instructions.table.vec + vec_len a.instructions.waiting.vec + v.statements

-- from c to d the parser reads a tree, and r, in b, stands for it
pub record ValueIn {X R : Type 0} (parser : Cursor → Read X) (decode : ValueSlots → R → Option X) (a b : ValueArena) (c d : Cursor) (r : R) : Type 0 where
  pub tree : X
  pub parsed : parser c ≡ Ok (tree, d)
  pub stands : decode (value_slots b) r ≡ Some tree
  pub step : ValueStep a b c.used d.used
  pub waiting : vec_items b.instructions.waiting.vec ≡ vec_items a.instructions.waiting.vec

-- such a reading, or the parser's refusal
abbrev pub ReadsValue : {X R : Type 0} → (Cursor → Read X) → (ValueSlots → R → Option X) → ValueArena → ValueArena → Reader → Reader → Result R FileFault → Type 0
ReadsValue parser decode a b s t r = MatchResult r (ValueIn parser decode a b (cursor s) (cursor t)) (λ e. parser (cursor s) ≡ Err e)

-- ---- what rows, values and instructions stand for, where values are at most d deep
abbrev pub places_in : ValueSlots → Range → Option (List Place)
places_in s r = part s.places r

abbrev pub val_in : ℕ → ValueSlots → ReactiveValue → Option Val
val_in d s v = val_of s (value_of d s) v

abbrev pub instr_in : ℕ → ValueSlots → ReactiveInstruction → Option Instr
instr_in d s i = instr_of (value_of d s) i

abbrev pub instrs_in : ℕ → ValueSlots → Range → Option Instrs
instrs_in d s r = bind (part s.instructions r) (instrs_of (value_of d s))

-- so many instructions, put aside one after another
pub record InstrsIn (d n : ℕ) (a b : ValueArena) (c e : Cursor) : Type 0 where
  pub tree : Instrs
  pub row : List ReactiveInstruction
  pub parsed : instrs_read (value d) n c ≡ Ok (tree, e)
  pub stands : instrs_of (value_of d (value_slots b)) row ≡ Some tree
  pub step : ValueStep a b c.used e.used
  pub waiting : vec_items b.instructions.waiting.vec ≡ vec_items a.instructions.waiting.vec ++ row

-- so many places, at the end of the table
pub record PlacesIn (n : ℕ) (a b : ValueArena) (c e : Cursor) : Type 0 where
  pub row : List Place
  pub parsed : times place n c ≡ Ok (row, e)
  pub long : length row ≡ n
  pub added : vec_items b.places.vec ≡ vec_items a.places.vec ++ row
  pub step : ValueStep a b c.used e.used
  pub waiting : vec_items b.instructions.waiting.vec ≡ vec_items a.instructions.waiting.vec
