-- A block that fits is found where its words stand. Assumes nothing.
use Rattle.std.proofs.Common.{ℕ, zero, suc, ◌≤◌, List, [], ◌∷◌, refl, arith}
use Rattle.hir.specs.declared.terminal.ReactiveLabel.{ReactiveLabel}
use Rattle.hir.specs.declared.terminal.ReactiveTerminalTargetKind.{ReactiveTerminalTargetKind}
use Rattle.hir.specs.declared.terminal.ReactiveTerminalTargetKind.TheVariants.{Implicit, Labeled, Unlabeled}
use Rattle.hir.specs.Encode.{option_words, place_words, val_words, instr_words, opt_val_words, label_words, case_count, stmt_count, stmt_words, term_words, cases_words, opt_block_words, body_words, block_words}
use Rattle.hir.specs.Numbers.{target_number}
use Rattle.hir.specs.Sizes.{val_size, instr_size, opt_val_size, stmt_size, term_size, cases_size, opt_block_size, block_size}
use Rattle.hir.specs.Tree.{Val, OptVal, no_val, some_val, Instr, instr, Stmt, instruction, scope, pruned, terminal, Term, break, continue, return, throw, switch, do_while, while, for, for_of, for_in, if, label, try, Cases, knil, kcons, OptBlock, no_block, some_block, Block, nil, cons}
use Rattle.format.specs.Depth.{block_depth, stmt_depth, term_depth, cases_depth, opt_block_depth}
use Rattle.format.specs.Readable.{TopFits, OptValFits, InstructionFits, StmtFits, TermFits, CasesFit, OptBlockFits, BlockFits}
use Rattle.format.specs.Parse.{Cursor, Read, onto, give, case, top_value, instruction_read, opt_value, targets, label_read, jump_read, leave_read, opt_block, cases_read, switch_read, do_while_read, while_read, for_read, for_of_read, for_in_read, if_read, label_block_read, try_read, term_read, terminal_read, scope_read, stmt_read, stmts_read, block}
use Rattle.format.proofs.Finds.{Faces, Shows, Finds, Sees, both, then, ends, on, made, formed, plain, nothing, given, word_sees, order_sees, case_finds, case_sees, flag_sees, option_sees}
use Rattle.format.proofs.Begins.{statement_begins, case_begins}
use Rattle.format.proofs.FindsValues.{place_finds, opt_place_finds, instr_finds, top_value_finds}

top_finds : (v : Val) → TopFits v → (c : Cursor) (vs : List ℕ) → Faces c (val_words v) vs (val_size v) → Finds (top_value c) v c vs (val_size v)
top_finds v g = top_value_finds v g.0 g.1

opt_val_finds : (v : OptVal) → OptValFits v → (c : Cursor) (vs : List ℕ) → Faces c (opt_val_words v) vs (opt_val_size v) → Finds (opt_value c) v c vs (opt_val_size v)
opt_val_finds no_val g c vs h = nothing (case_sees (give no_val ∷ (λ c. onto (top_value c) (λ v. give (some_val v))) ∷ []) 0 refl (plain h) (λ d. given))
opt_val_finds (some_val v) g c vs h = case_finds (give no_val ∷ (λ c. onto (top_value c) (λ v. give (some_val v))) ∷ []) 1 refl h (λ d f. made _ (top_finds v g _ _ f) (λ e. refl))

instruction_finds : (i : Instr) → InstructionFits i → (c : Cursor) (vs : List ℕ) → Faces c (instr_words i) vs (instr_size i) → Finds (instruction_read c) i c vs (instr_size i)
instruction_finds (instr i l v s) g c vs h = instr_finds 64 top_value top_value_finds (instr i l v s) g.1.0 (g.0, g.1.1) c vs h

target_sees : (k : ReactiveTerminalTargetKind) {c : Cursor} {vs : List ℕ} → Shows c (target_number k ∷ []) vs → Sees (case targets c) k c vs
target_sees Implicit h = case_sees targets 0 refl h (λ d. given)
target_sees Labeled h = case_sees targets 1 refl h (λ d. given)
target_sees Unlabeled h = case_sees targets 2 refl h (λ d. given)

label_sees : (l : ReactiveLabel) (c : Cursor) (vs : List ℕ) → Shows c (label_words l) vs → Sees (label_read c) l c vs
label_sees l c vs h = on _ (l.id ∷ []) h word_sees (λ d f. formed _ (flag_sees l.implicit f) (λ e. refl))

-- the blocks inside, at most n deep, are found
module _ (n : ℕ) (block : Cursor → Read Block) (find : (b : Block) → block_depth b ≤ n → BlockFits b → (c : Cursor) (vs : List ℕ) → Faces c (block_words b) vs (block_size b) → Finds (block c) b c vs (block_size b)) where
  opt_block_finds : (b : OptBlock) → opt_block_depth b ≤ n → OptBlockFits b → (c : Cursor) (vs : List ℕ) → Faces c (opt_block_words b) vs (opt_block_size b) → Finds (opt_block block c) b c vs (opt_block_size b)
  opt_block_finds no_block k g c vs h = nothing (case_sees (give no_block ∷ (λ c. onto (block c) (λ b. give (some_block b))) ∷ []) 0 refl (plain h) (λ d. given))
  opt_block_finds (some_block b) k g c vs h = case_finds (give no_block ∷ (λ c. onto (block c) (λ b. give (some_block b))) ∷ []) 1 refl h (λ d f. made _ (find b k g _ _ f) (λ e. refl))

  cases_finds : (cs : Cases) → cases_depth cs ≤ n → CasesFit cs → (c : Cursor) (vs : List ℕ) → Faces c (cases_words cs) vs (cases_size cs) → Finds (cases_read block (case_count cs) c) cs c vs (cases_size cs)
  cases_finds knil k g c vs h = nothing (given (plain h))
  cases_finds (kcons t b cs) k g c vs h =
      both _ [] h case_begins (λ d f. both _ (option_words place_words t) f (opt_place_finds t _ _) (λ d f. both _ (opt_block_words b) f (opt_block_finds b (omega arith) g.0 _ _) (λ d f.
      made _ (cases_finds cs (omega arith) g.1 _ _ f) (λ e. refl))))

  abbrev choices : List (Cursor → Read Term)
  choices =
      jump_read break ∷ jump_read continue ∷ leave_read return ∷ leave_read throw ∷ switch_read block ∷ do_while_read block ∷ while_read block ∷ for_read block ∷ for_of_read block ∷ for_in_read block
      ∷ if_read block ∷ label_block_read block ∷ try_read block ∷ []

  term_finds : (t : Term) → term_depth t ≤ n → TermFits t → (c : Cursor) (vs : List ℕ) → Faces c (term_words t) vs (term_size t) → Finds (term_read block c) t c vs (term_size t)
  term_finds (break l i k) m g c vs h =
      nothing (case_sees choices 0 refl (plain h) (λ d f. on _ (l ∷ []) f word_sees (λ d f. on _ (i ∷ []) f (order_sees g) (λ d f. formed _ (target_sees k f) (λ e. refl)))))
  term_finds (continue l i k) m g c vs h =
      nothing (case_sees choices 1 refl (plain h) (λ d f. on _ (l ∷ []) f word_sees (λ d f. on _ (i ∷ []) f (order_sees g) (λ d f. formed _ (target_sees k f) (λ e. refl)))))
  term_finds (return p i) m g c vs h =
      case_finds choices 2 refl h (λ d f. ends _ (place_words p) f (place_finds p _ _) (λ d f. formed _ (order_sees g f) (λ e. refl)))
  term_finds (throw p i) m g c vs h =
      case_finds choices 3 refl h (λ d f. ends _ (place_words p) f (place_finds p _ _) (λ d f. formed _ (order_sees g f) (λ e. refl)))
  term_finds (switch p cs i) m g c vs h =
      case_finds choices 4 refl h (λ d f. both _ (place_words p) f (place_finds p _ _) (λ d f. then _ (case_count cs ∷ []) f word_sees (λ d f. ends _ (cases_words cs) f (cases_finds cs m g.0 _ _) (λ d f.
      formed _ (order_sees g.1 f) (λ e. refl)))))
  term_finds (do_while b v i) m g c vs h =
      case_finds choices 5 refl h (λ d f. both _ (block_words b) f (find b m g.0 _ _) (λ d f. ends _ (val_words v) f (top_finds v g.1 _ _) (λ d f.
      formed _ (order_sees g.2 f) (λ e. refl))))
  term_finds (while v b i) m g c vs h =
      case_finds choices 6 refl h (λ d f. both _ (val_words v) f (top_finds v g.0 _ _) (λ d f. ends _ (block_words b) f (find b m g.1 _ _) (λ d f.
      formed _ (order_sees g.2 f) (λ e. refl))))
  term_finds (for x v u b i) m g c vs h =
      case_finds choices 7 refl h (λ d f. both _ (val_words x) f (top_finds x g.0 _ _) (λ d f. both _ (val_words v) f (top_finds v g.1 _ _) (λ d f. both _ (opt_val_words u) f (opt_val_finds u g.2 _ _) (λ d f. ends _ (block_words b) f (find b m g.3 _ _) (λ d f.
      formed _ (order_sees g.4 f) (λ e. refl))))))
  term_finds (for_of x v b i s) m g c vs h =
      case_finds choices 8 refl h (λ d f. both _ (val_words x) f (top_finds x g.0 _ _) (λ d f. both _ (val_words v) f (top_finds v g.1 _ _) (λ d f. ends _ (block_words b) f (find b m g.2 _ _) (λ d f. on _ (i ∷ []) f (order_sees g.3) (λ d f.
      formed _ (word_sees f) (λ e. refl))))))
  term_finds (for_in v b i s) m g c vs h =
      case_finds choices 9 refl h (λ d f. both _ (val_words v) f (top_finds v g.0 _ _) (λ d f. ends _ (block_words b) f (find b m g.1 _ _) (λ d f. on _ (i ∷ []) f (order_sees g.2) (λ d f.
      formed _ (word_sees f) (λ e. refl)))))
  term_finds (if p b x i) m g c vs h =
      case_finds choices 10 refl h (λ d f. both _ (place_words p) f (place_finds p _ _) (λ d f. both _ (block_words b) f (find b (omega arith) g.0 _ _) (λ d f. ends _ (opt_block_words x) f (opt_block_finds x (omega arith) g.1 _ _) (λ d f.
      formed _ (order_sees g.2 f) (λ e. refl)))))
  term_finds (label b i) m g c vs h =
      case_finds choices 11 refl h (λ d f. ends _ (block_words b) f (find b m g.0 _ _) (λ d f. formed _ (order_sees g.1 f) (λ e. refl)))
  term_finds (try b p x i) m g c vs h =
      case_finds choices 12 refl h (λ d f. both _ (block_words b) f (find b (omega arith) g.0 _ _) (λ d f. both _ (option_words place_words p) f (opt_place_finds p _ _) (λ d f. ends _ (block_words x) f (find x (omega arith) g.1 _ _) (λ d f.
      formed _ (order_sees g.2 f) (λ e. refl)))))

  abbrev kinds : List (Cursor → Read Stmt)
  kinds = (λ c. onto (instruction_read c) (λ i. give (instruction i))) ∷ terminal_read block ∷ scope_read block scope ∷ scope_read block pruned ∷ []

  stmt_finds : (s : Stmt) → stmt_depth s ≤ n → StmtFits s → (c : Cursor) (vs : List ℕ) → Faces c (stmt_words s) vs (stmt_size s) → Finds (stmt_read block c) s c vs (stmt_size s)
  stmt_finds (instruction i) m g c vs h = case_finds kinds 0 refl h (λ d f. made _ (instruction_finds i g _ _ f) (λ e. refl))
  stmt_finds (terminal t l) m g c vs h =
      case_finds kinds 1 refl h (λ d f. ends _ (term_words t) f (term_finds t m g _ _) (λ d f. formed _ (option_sees label_read label_words label_sees l _ _ f) (λ e. refl)))
  stmt_finds (scope x b) m g c vs h = case_finds kinds 2 refl h (λ d f. then _ (x ∷ []) f word_sees (λ d f. made _ (find b m g _ _ f) (λ e. refl)))
  stmt_finds (pruned x b) m g c vs h = case_finds kinds 3 refl h (λ d f. then _ (x ∷ []) f word_sees (λ d f. made _ (find b m g _ _ f) (λ e. refl)))

  stmts_finds : (b : Block) → block_depth b ≤ suc n → BlockFits b → (c : Cursor) (vs : List ℕ) → Faces c (body_words b) vs (block_size b) → Finds (stmts_read block (stmt_count b) c) b c vs (block_size b)
  stmts_finds nil m g c vs h = nothing (given (plain h))
  stmts_finds (cons s b) m g c vs h =
      both _ [] h statement_begins (λ d f. both _ (stmt_words s) f (stmt_finds s (omega arith) g.0 _ _) (λ d f.
      made _ (stmts_finds b (omega arith) g.1 _ _ f) (λ e. refl)))

positive : (b : Block) → 1 ≤ block_depth b
positive nil = omega arith
positive (cons s b) = omega arith

pub block_finds : (n : ℕ) (b : Block) → block_depth b ≤ n → BlockFits b → (c : Cursor) (vs : List ℕ) → Faces c (block_words b) vs (block_size b) → Finds (block n c) b c vs (block_size b)
block_finds zero b m g c vs h = absurd (omega (arith, positive b))
block_finds (suc n) b m g c vs h = then _ (stmt_count b ∷ []) h word_sees (λ d f. stmts_finds n (block n) (block_finds n) b m g _ _ f)
