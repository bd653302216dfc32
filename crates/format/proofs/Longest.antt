-- No item has more words of its own than is said. Assumes nothing.
use Rattle.std.proofs.Common.{ℕ, ◌+◌, ◌*◌, ◌≤◌, List, [], ◌∷◌, length, Some, None, Option, arith, length-append}
use Rattle.hir.specs.declared.environment.Identifier.{Identifier}
use Rattle.hir.specs.declared.environment.IdentifierName.{IdentifierName}
use Rattle.hir.specs.declared.environment.IdentifierName.TheVariants.{Named, Promoted}
use Rattle.hir.specs.declared.environment.ReactiveScopeDeclaration.{ReactiveScopeDeclaration}
use Rattle.hir.specs.declared.environment.ReactiveScopeEarlyReturn.{ReactiveScopeEarlyReturn}
use Rattle.hir.specs.declared.place.Place.{Place}
use Rattle.hir.specs.declared.terminal.ReactiveLabel.{ReactiveLabel}
use Rattle.hir.specs.Encode.{word, option_words, items_words, place_words, op_words, val_words, instr_words, instrs_words, opt_val_words, label_words, stmt_words, term_words, cases_words, opt_block_words, body_words, name_words, identifier_words, early_words, declaration_words, scope_words, encode}
use Rattle.hir.specs.Sizes.{opt_place_size, val_size, instr_size, instrs_size, opt_val_size, stmt_size, term_size, cases_size, opt_block_size, block_size, declarations_in, sizes}
use Rattle.hir.specs.Tree.{Op, Val, operation, logical, conditional, sequence, optional, OptVal, no_val, some_val, Instr, instr, Instrs, inil, icons, Stmt, instruction, scope, pruned, terminal, Term, break, continue, return, throw, switch, do_while, while, for, for_of, for_in, if, label, try, Cases, knil, kcons, OptBlock, no_block, some_block, Block, nil, cons, ScopeInfo}
use Rattle.format.specs.Longest.{most_words, WordsAreBounded, BytesAreBounded}

places_most : (ps : List Place) → length (items_words place_words ps) ≤ 4 * length ps
places_most [] = omega arith
places_most (p ∷ ps) = let h = places_most ps in omega arith

opt_place_most : (p : Option Place) → length (option_words place_words p) ≤ 1 + most_words (opt_place_size p)
opt_place_most None = omega arith
opt_place_most (Some p) = omega arith

op_most : (o : Op) → length (op_words o) ≤ 5 + 4 * length o.written + 4 * length o.operands
op_most o = let h = places_most o.written in let g = places_most o.operands in simp length-append (omega arith)

mutual
  val_most : (v : Val) → length (val_words v) ≤ most_words (val_size v)
  val_most (operation o) = let h = op_most o in omega arith
  val_most (logical o a b) = let h = val_most a in let g = val_most b in simp length-append (omega arith)
  val_most (conditional c a b) = let f = val_most c in let h = val_most a in let g = val_most b in simp length-append (omega arith)
  val_most (sequence is i v) = let h = instrs_most is in let g = val_most v in simp length-append (omega arith)
  val_most (optional v o) = let h = val_most v in simp length-append (omega arith)

  instr_most : (i : Instr) → length (instr_words i) ≤ 3 + most_words (instr_size i)
  instr_most (instr i l v s) = let h = opt_place_most l in let g = val_most v in simp length-append (omega arith)

  instrs_most : (is : Instrs) → length (instrs_words is) ≤ most_words (instrs_size is)
  instrs_most inil = omega arith
  instrs_most (icons i is) = let h = instr_most i in let g = instrs_most is in simp length-append (omega arith)

opt_val_most : (v : OptVal) → length (opt_val_words v) ≤ 1 + most_words (opt_val_size v)
opt_val_most no_val = omega arith
opt_val_most (some_val v) = let h = val_most v in omega arith

label_most : (m : Option ReactiveLabel) → length (option_words label_words m) ≤ 3
label_most None = omega arith
label_most (Some l) = omega arith

-- a block's count is not counted here
mutual
  stmt_most : (s : Stmt) → length (stmt_words s) ≤ 9 + most_words (stmt_size s)
  stmt_most (instruction i) = let h = instr_most i in omega arith
  stmt_most (terminal t m) = let h = term_most t in let g = label_most m in simp length-append (omega arith)
  stmt_most (scope x b) = let h = body_most b in omega arith
  stmt_most (pruned x b) = let h = body_most b in omega arith

  term_most : (t : Term) → length (term_words t) ≤ 5 + most_words (term_size t)
  term_most (break l i k) = omega arith
  term_most (continue l i k) = omega arith
  term_most (return p i) = omega arith
  term_most (throw p i) = omega arith
  term_most (switch p cs i) = let h = cases_most cs in simp length-append (omega arith)
  term_most (do_while b v i) = let h = body_most b in let g = val_most v in simp length-append (omega arith)
  term_most (while v b i) = let h = body_most b in let g = val_most v in simp length-append (omega arith)
  term_most (for n v u b i) = let f = val_most n in let g = val_most v in let k = opt_val_most u in let h = body_most b in simp length-append (omega arith)
  term_most (for_of n v b i s) = let f = val_most n in let g = val_most v in let h = body_most b in simp length-append (omega arith)
  term_most (for_in v b i s) = let g = val_most v in let h = body_most b in simp length-append (omega arith)
  term_most (if p b c i) = let h = body_most b in let g = opt_block_most c in simp length-append (omega arith)
  term_most (label b i) = let h = body_most b in simp length-append (omega arith)
  term_most (try b p c i) = let h = body_most b in let g = body_most c in let k = opt_place_most p in simp length-append (omega arith)

  cases_most : (cs : Cases) → length (cases_words cs) ≤ most_words (cases_size cs)
  cases_most knil = omega arith
  cases_most (kcons t b cs) = let f = opt_place_most t in let g = opt_block_most b in let h = cases_most cs in simp length-append (omega arith)

  opt_block_most : (b : OptBlock) → length (opt_block_words b) ≤ 2 + most_words (opt_block_size b)
  opt_block_most no_block = omega arith
  opt_block_most (some_block b) = let h = body_most b in omega arith

  body_most : (b : Block) → length (body_words b) ≤ most_words (block_size b)
  body_most nil = omega arith
  body_most (cons s b) = let h = stmt_most s in let g = body_most b in simp length-append (omega arith)

-- ---- the tables
name_most : (n : Option IdentifierName) → length (option_words name_words n) ≤ 3
name_most None = omega arith
name_most (Some (Named n)) = omega arith
name_most (Some (Promoted n)) = omega arith

number_most : (n : Option ℕ) → length (option_words word n) ≤ 2
number_most None = omega arith
number_most (Some n) = omega arith

identifiers_most : (is : List Identifier) → length (items_words identifier_words is) ≤ 9 * length is
identifiers_most [] = omega arith
identifiers_most (i ∷ is) = let f = name_most i.name in let g = number_most i.scope in let h = identifiers_most is in simp length-append (omega arith)

early_most : (r : Option ReactiveScopeEarlyReturn) → length (option_words early_words r) ≤ 4
early_most None = omega arith
early_most (Some r) = omega arith

declarations_most : (ds : List ReactiveScopeDeclaration) → length (items_words declaration_words ds) ≤ 3 * length ds
declarations_most [] = omega arith
declarations_most (d ∷ ds) = let h = declarations_most ds in omega arith

scopes_most : (ss : List ScopeInfo) → length (items_words scope_words ss) ≤ 5 * length ss + 3 * declarations_in ss
scopes_most [] = omega arith
scopes_most (s ∷ ss) = let f = early_most s.early in let g = declarations_most s.declarations in let h = scopes_most ss in simp length-append (omega arith)

-- ---- the file
pub words_are_bounded : WordsAreBounded
unfolding encode sizes
words_are_bounded F = let f = identifiers_most F.identifiers in let g = scopes_most F.scopes in let h = body_most F.body in simp length-append (omega arith)

pub bytes_are_bounded : BytesAreBounded
bytes_are_bounded F w = let h = words_are_bounded F in omega arith
