-- What each way through the reading of a statement leaves. Assumes nothing.
use Rattle.std.proofs.Common.{◌≡◌, ℕ, Bool, true, false, List, [], ◌∷◌, Some, None, Ok, Option, Result, sym, refl, ap, ◌∙◌}
use Rattle.std.proofs.lemmas.Result.{MatchResult-weaker}
use Rattle.hir.specs.declared.arena.Arena.{Arena}
use Rattle.hir.specs.declared.place.Place.{Place}
use Rattle.hir.specs.declared.range.Range.{Range}
use Rattle.hir.specs.declared.statement.ReactiveStatement.TheVariants.{Instruction, Terminal, Scope, PrunedScope}
use Rattle.hir.specs.declared.terminal.ReactiveLabel.{ReactiveLabel}
use Rattle.hir.specs.declared.terminal.ReactiveTerminal.{ReactiveTerminal}
use Rattle.hir.specs.declared.terminal.ReactiveTerminal.TheVariants.{Switch, DoWhile, While, For, ForOf, ForIn, If, Label, Try}
use Rattle.hir.specs.declared.terminal.ReactiveTerminalStatement.{ReactiveTerminalStatement}
use Rattle.hir.specs.declared.used.Used.{Used}
use Rattle.hir.specs.declared.value.ReactiveInstruction.{ReactiveInstruction}
use Rattle.hir.specs.Decode.{Slots, cases_of, block_of}
use Rattle.hir.specs.Held.{slots}
use Rattle.hir.specs.Options.{bind, nth, part}
use Rattle.hir.specs.Tree.{Stmt, instruction, scope, pruned, terminal, Term, break, continue, return, throw, switch, do_while, while, for, for_of, for_in, if, label, try, no_block, some_block}
use Rattle.hir.proofs.Grow.{Under, bound, same_under, top_grows, block_grows, opt_value_under}
use Rattle.format.specs.declared.fault.FileFault.{FileFault}
use Rattle.format.specs.Parse.{Cursor, Read, onto, give, word, order, flag, case, option, place, top_value, opt_value, label_read, jump_read, leave_read, instruction_read, block, opt_block, cases_read, switch_read, do_while_read, while_read, for_read, for_of_read, for_in_read, if_read, label_block_read, try_read, term_read, terminal_read, scope_read, stmt_read}
use Rattle.load.specs.declared.reader.Reader.{Reader}
use Rattle.load.specs.Reads.{cursor}
use Rattle.load.specs.Blocks.{Frame, BlockIn, ReadsBlock, slot_in, opt_slot_in, plain_in, opt_block_in, cases_in, case_in, case_read, term_in, terminal_in, stmt_in}
use Rattle.load.proofs.BlockSteps.{frame_later, frame_more, after_leaf}
use Rattle.load.proofs.Chosen.{case_from, flag_no, flag_yes}
use Rattle.load.proofs.Iterate.{onto_onto}
use Rattle.load.proofs.Later.{Later, within_more, word_later, flag_later, order_later, option_later, place_later, label_later}

-- ---- what stands before a step stands after it
module _ {a b : Arena} {u v : Used} (f : Frame a b u v) where
  value_kept : Under (slot_in (slots a)) (slot_in (slots b))
  value_kept = top_grows _ _ f.step.grow.inner

  block_kept : (d : ℕ) → Under (block_of d (slots a)) (block_of d (slots b))
  block_kept d = block_grows d _ _ f.step.grow

  opt_value_kept : Under (opt_slot_in (slots a)) (opt_slot_in (slots b))
  opt_value_kept = opt_value_under _ _ _ _ value_kept (same_under (block_of 0 (slots a)))

-- ---- cases
-- the case's own reading is that of the whole
pub case_of : {X R : Type 0} (ps : List (Cursor → Read X)) (decode : Slots → R → Option X) (a b : Arena) (r : Result R FileFault) {w : ℕ} (k : ℕ) (p : Cursor → Read X) (s t u : Reader) → nth ps k ≡ Some p → word (cursor s) ≡ Ok (w, cursor t) → w ≡ k → ReadsBlock p decode a b t u r → ReadsBlock (case ps) decode a b s u r
case_of ps decode a b r {w} k p s t u n h z m =
    MatchResult-weaker r m (λ _ x. after_leaf (word_later (cursor s) (w, cursor t) h) (case_from ps k p (cursor s) n h z) x) (λ e x. case_from ps k p (cursor s) n h z _ x)

abbrev pub terms : ℕ → List (Cursor → Read Term)
terms d =
    jump_read break ∷ jump_read continue ∷ leave_read return ∷ leave_read throw ∷ switch_read (block d) ∷ do_while_read (block d) ∷ while_read (block d) ∷ for_read (block d)
    ∷ for_of_read (block d) ∷ for_in_read (block d) ∷ if_read (block d) ∷ label_block_read (block d) ∷ try_read (block d) ∷ []

-- a terminal without values or blocks
pub jump_in : (d k : ℕ) (p : Cursor → Read Term) {w : ℕ} {x : Term} {a : Arena} {c c₁ c₂ : Cursor} {r : ReactiveTerminal} → Later p → nth (terms d) k ≡ Some p → word c ≡ Ok (w, c₁) → w ≡ k → p c₁ ≡ Ok (x, c₂) → term_in d (slots a) r ≡ Some x → BlockIn (term_read (block d)) (term_in d) a a c c₂ r
jump_in d k p {w} {x} {a} {c} {c₁} {c₂} l n h z m s =
    record { tree = x; parsed = case_from (terms d) k p c n h z _ m; stands = s; frame = frame_later a (within_more (word_later c (w, c₁) h) (l c₁ (x, c₂) m)) }

-- ---- optional blocks and switch cases
pub no_block_lem : (d : ℕ) {b : Bool} {a : Arena} {c c₁ : Cursor} → flag c ≡ Ok (b, c₁) → b ≡ false → BlockIn (opt_block (block d)) (opt_block_in d) a a c c₁ None
no_block_lem d {b} {a} {c} {c₁} h z =
    record { tree = no_block; parsed = flag_no (give no_block) _ c h z; stands = refl; frame = frame_later a (flag_later c (b, c₁) h) }

pub some_block_lem : (d : ℕ) {f : Bool} {a b : Arena} {c c₁ e : Cursor} {r : Range} → flag c ≡ Ok (f, c₁) → f ≡ true → BlockIn (block d) (block_of d) a b c₁ e r → BlockIn (opt_block (block d)) (opt_block_in d) a b c e (Some r)
some_block_lem d {f} {a} {b} {c} {c₁} h z m =
    record {
      tree = some_block m.tree;
      parsed = flag_yes (give no_block) (λ c. onto (block d c) (λ b. give (some_block b))) c h z ∙ ap (λ r. onto r (λ b. give (some_block b))) m.parsed;
      stands = ap (λ o. bind o (λ b. Some (some_block b))) m.stands;
      frame = frame_more (frame_later a (flag_later c (f, c₁) h)) m.frame;
    }

pub case_in_row : (d : ℕ) {a b : Arena} {c c₁ c₂ : Cursor} {t : Option Place} {r : Option Range} → option place c ≡ Ok (t, c₁) → BlockIn (opt_block (block d)) (opt_block_in d) a b c₁ c₂ r → BlockIn (case_read d) (case_in d) a b c c₂ (record { test = t; block = r })
case_in_row d {a} {b} {c} {c₁} {c₂} {t} h x =
    record {
      tree = (t, x.tree);
      parsed = rw (h, x.parsed) refl;
      stands = ap (λ o. bind o (λ y. Some (t, y))) x.stands;
      frame = frame_more (frame_later a (option_later place place_later c (t, c₁) h)) x.frame;
    }

-- ---- terminals
pub switch_in : (d : ℕ) {i : ℕ} {a b : Arena} {c c₁ c₂ c₃ : Cursor} {p : Place} {r : Range} → place c ≡ Ok (p, c₁) → BlockIn (λ q. onto (word q) (cases_read (block d))) (cases_in d) a b c₁ c₂ r → order c₂ ≡ Ok (i, c₃) → BlockIn (switch_read (block d)) (term_in d) a b c c₃ (Switch p r i)
switch_in d {i} {a} {b} {c} {c₁} {c₂} {c₃} {p} {r} h x k =
    let o = bound (part (slots b).cases r) _ x.tree x.stands in
    record {
      tree = switch p x.tree i;
      parsed = ap (λ q. onto q (λ p c₁. onto (word c₁) (λ n c₂. onto (cases_read (block d) n c₂) (λ cs c₃. onto (order c₃) (λ i. give (switch p cs i)))))) h ∙ sym (onto_onto (word c₁) (cases_read (block d)) _) ∙ rw (x.parsed, k) refl;
      stands = ap (λ q. bind q (λ l. bind (cases_of (block_of d (slots b)) l) (λ ks. Some (switch p ks i)))) o.1 ∙ ap (λ q. bind q (λ ks. Some (switch p ks i))) o.2;
      frame = frame_more (frame_later a (place_later c (p, c₁) h)) (frame_more x.frame (frame_later b (order_later c₂ (i, c₃) k)));
    }

pub do_while_in : (d : ℕ) {k i : ℕ} {a b e : Arena} {c c₁ c₂ c₃ : Cursor} {r : Range} → BlockIn (block d) (block_of d) a b c c₁ r → BlockIn top_value slot_in b e c₁ c₂ k → order c₂ ≡ Ok (i, c₃) → BlockIn (do_while_read (block d)) (term_in d) a e c c₃ (DoWhile r k i)
do_while_in d {k} {i} {a} {b} {e} {c} {c₁} {c₂} {c₃} {r} x y h =
    let first = block_kept y.frame d r x.tree x.stands in
    record {
      tree = do_while x.tree y.tree i;
      parsed = rw (x.parsed, y.parsed, h) refl;
      stands = rw (first, y.stands) refl;
      frame = frame_more x.frame (frame_more y.frame (frame_later e (order_later c₂ (i, c₃) h)));
    }

pub while_in : (d : ℕ) {k i : ℕ} {a b e : Arena} {c c₁ c₂ c₃ : Cursor} {r : Range} → BlockIn top_value slot_in a b c c₁ k → BlockIn (block d) (block_of d) b e c₁ c₂ r → order c₂ ≡ Ok (i, c₃) → BlockIn (while_read (block d)) (term_in d) a e c c₃ (While k r i)
while_in d {k} {i} {a} {b} {e} {c} {c₁} {c₂} {c₃} {r} x y h =
    let first = value_kept y.frame k x.tree x.stands in
    record {
      tree = while x.tree y.tree i;
      parsed = rw (x.parsed, y.parsed, h) refl;
      stands = rw (first, y.stands) refl;
      frame = frame_more x.frame (frame_more y.frame (frame_later e (order_later c₂ (i, c₃) h)));
    }

pub for_in_lem : (d : ℕ) {n k i : ℕ} {o : Option ℕ} {a b e f g : Arena} {c c₁ c₂ c₃ c₄ c₅ : Cursor} {r : Range} → BlockIn top_value slot_in a b c c₁ n → BlockIn top_value slot_in b e c₁ c₂ k → BlockIn opt_value opt_slot_in e f c₂ c₃ o → BlockIn (block d) (block_of d) f g c₃ c₄ r → order c₄ ≡ Ok (i, c₅) → BlockIn (for_read (block d)) (term_in d) a g c c₅ (For n k o r i)
for_in_lem d {n} {k} {i} {o} {a} {b} {e} {f} {g} {c₄ = c₄} {c₅ = c₅} {r = r} x y z w h =
    let first = value_kept (frame_more y.frame (frame_more z.frame w.frame)) n x.tree x.stands in
    let second = value_kept (frame_more z.frame w.frame) k y.tree y.stands in
    let third = opt_value_kept w.frame o z.tree z.stands in
    record {
      tree = for x.tree y.tree z.tree w.tree i;
      parsed = rw (x.parsed, y.parsed, z.parsed, w.parsed, h) refl;
      stands = ap (λ q. bind q (λ w. bind (slot_in (slots g) k) (λ x. bind (opt_slot_in (slots g) o) (λ y. bind (block_of d (slots g) r) (λ z. Some (for w x y z i)))))) first
          ∙ ap (λ q. bind q (λ v. bind (opt_slot_in (slots g) o) (λ y. bind (block_of d (slots g) r) (λ z. Some (for x.tree v y z i))))) second
          ∙ ap (λ q. bind q (λ v. bind (block_of d (slots g) r) (λ z. Some (for x.tree y.tree v z i)))) third
          ∙ ap (λ q. bind q (λ v. Some (for x.tree y.tree z.tree v i))) w.stands;
      frame = frame_more x.frame (frame_more y.frame (frame_more z.frame (frame_more w.frame (frame_later g (order_later c₄ (i, c₅) h)))));
    }

pub for_of_in : (d : ℕ) {n k i s : ℕ} {a b e f : Arena} {c c₁ c₂ c₃ c₄ c₅ : Cursor} {r : Range} → BlockIn top_value slot_in a b c c₁ n → BlockIn top_value slot_in b e c₁ c₂ k → BlockIn (block d) (block_of d) e f c₂ c₃ r → order c₃ ≡ Ok (i, c₄) → word c₄ ≡ Ok (s, c₅) → BlockIn (for_of_read (block d)) (term_in d) a f c c₅ (ForOf n k r i s)
for_of_in d {n} {k} {i} {s} {a} {b} {e} {f} {c₃ = c₃} {c₄ = c₄} {c₅ = c₅} {r = r} x y z h j =
    let first = value_kept (frame_more y.frame z.frame) n x.tree x.stands in
    let second = value_kept z.frame k y.tree y.stands in
    record {
      tree = for_of x.tree y.tree z.tree i s;
      parsed = rw (x.parsed, y.parsed, z.parsed, h, j) refl;
      stands = ap (λ q. bind q (λ w. bind (slot_in (slots f) k) (λ x. bind (block_of d (slots f) r) (λ z. Some (for_of w x z i s))))) first
          ∙ ap (λ q. bind q (λ v. bind (block_of d (slots f) r) (λ z. Some (for_of x.tree v z i s)))) second
          ∙ ap (λ q. bind q (λ v. Some (for_of x.tree y.tree v i s))) z.stands;
      frame = frame_more x.frame (frame_more y.frame (frame_more z.frame (frame_later f (within_more (order_later c₃ (i, c₄) h) (word_later c₄ (s, c₅) j)))));
    }

pub for_in_in : (d : ℕ) {k i s : ℕ} {a b e : Arena} {c c₁ c₂ c₃ c₄ : Cursor} {r : Range} → BlockIn top_value slot_in a b c c₁ k → BlockIn (block d) (block_of d) b e c₁ c₂ r → order c₂ ≡ Ok (i, c₃) → word c₃ ≡ Ok (s, c₄) → BlockIn (for_in_read (block d)) (term_in d) a e c c₄ (ForIn k r i s)
for_in_in d {k} {i} {s} {a} {b} {e} {c₂ = c₂} {c₃ = c₃} {c₄ = c₄} {r = r} x y h j =
    let first = value_kept y.frame k x.tree x.stands in
    record {
      tree = for_in x.tree y.tree i s;
      parsed = rw (x.parsed, y.parsed, h, j) refl;
      stands = rw (first, y.stands) refl;
      frame = frame_more x.frame (frame_more y.frame (frame_later e (within_more (order_later c₂ (i, c₃) h) (word_later c₃ (s, c₄) j))));
    }

pub if_in : (d : ℕ) {i : ℕ} {a b e : Arena} {c c₁ c₂ c₃ c₄ : Cursor} {p : Place} {r : Range} {o : Option Range} → place c ≡ Ok (p, c₁) → BlockIn (block d) (block_of d) a b c₁ c₂ r → BlockIn (opt_block (block d)) (opt_block_in d) b e c₂ c₃ o → order c₃ ≡ Ok (i, c₄) → BlockIn (if_read (block d)) (term_in d) a e c c₄ (If p r o i)
if_in d {i} {a} {b} {e} {c} {c₁} {c₂} {c₃} {c₄} {p} {r} {o} h x y j =
    let first = block_kept y.frame d r x.tree x.stands in
    record {
      tree = if p x.tree y.tree i;
      parsed = rw (h, x.parsed, y.parsed, j) refl;
      stands = ap (λ q. bind q (λ v. bind (opt_block_in d (slots e) o) (λ y. Some (if p v y i)))) first ∙ ap (λ q. bind q (λ v. Some (if p x.tree v i))) y.stands;
      frame = frame_more (frame_later a (place_later c (p, c₁) h)) (frame_more x.frame (frame_more y.frame (frame_later e (order_later c₃ (i, c₄) j))));
    }

pub label_in : (d : ℕ) {i : ℕ} {a b : Arena} {c c₁ c₂ : Cursor} {r : Range} → BlockIn (block d) (block_of d) a b c c₁ r → order c₁ ≡ Ok (i, c₂) → BlockIn (label_block_read (block d)) (term_in d) a b c c₂ (Label r i)
label_in d {i} {a} {b} {c} {c₁} {c₂} {r} x h =
    record {
      tree = label x.tree i;
      parsed = rw (x.parsed, h) refl;
      stands = ap (λ q. bind q (λ v. Some (label v i))) x.stands;
      frame = frame_more x.frame (frame_later b (order_later c₁ (i, c₂) h));
    }

pub try_in : (d : ℕ) {i : ℕ} {a b e : Arena} {c c₁ c₂ c₃ c₄ : Cursor} {p : Option Place} {r o : Range} → BlockIn (block d) (block_of d) a b c c₁ r → option place c₁ ≡ Ok (p, c₂) → BlockIn (block d) (block_of d) b e c₂ c₃ o → order c₃ ≡ Ok (i, c₄) → BlockIn (try_read (block d)) (term_in d) a e c c₄ (Try r p o i)
try_in d {i} {a} {b} {e} {c} {c₁} {c₂} {c₃} {c₄} {p} {r} {o} x h y j =
    let first = block_kept y.frame d r x.tree x.stands in
    record {
      tree = try x.tree p y.tree i;
      parsed = rw (x.parsed, h, y.parsed, j) refl;
      stands = ap (λ q. bind q (λ v. bind (block_of d (slots e) o) (λ y. Some (try v p y i)))) first ∙ ap (λ q. bind q (λ v. Some (try x.tree p v i))) y.stands;
      frame = frame_more x.frame (frame_more (frame_later b (option_later place place_later c₁ (p, c₂) h)) (frame_more y.frame (frame_later e (order_later c₃ (i, c₄) j))));
    }

-- ---- statements
pub terminal_in_frame : (d : ℕ) {a b : Arena} {c c₁ c₂ : Cursor} {t : ReactiveTerminal} {m : Option ReactiveLabel} → BlockIn (term_read (block d)) (term_in d) a b c c₁ t → option label_read c₁ ≡ Ok (m, c₂) → BlockIn (terminal_read (block d)) (terminal_in d) a b c c₂ (record { terminal = t; label = m })
terminal_in_frame d {a} {b} {c} {c₁} {c₂} {t} {m} x h =
    record {
      tree = terminal x.tree m;
      parsed = ap (λ q. onto q (λ t c₁. onto (option label_read c₁) (λ m. give (terminal t m)))) x.parsed ∙ ap (λ q. onto q (λ m. give (terminal x.tree m))) h;
      stands = ap (λ q. bind q (λ v. Some (terminal v m))) x.stands;
      frame = frame_more x.frame (frame_later b (option_later label_read label_later c₁ (m, c₂) h));
    }

abbrev pub stmts : ℕ → List (Cursor → Read Stmt)
stmts d = (λ c. onto (instruction_read c) (λ i. give (instruction i))) ∷ terminal_read (block d) ∷ scope_read (block d) scope ∷ scope_read (block d) pruned ∷ []

pub stmt_instruction : (d : ℕ) {w : ℕ} {a b : Arena} {c c₁ c₂ : Cursor} {i : ReactiveInstruction} → word c ≡ Ok (w, c₁) → w ≡ 0 → BlockIn instruction_read plain_in a b c₁ c₂ i → BlockIn (stmt_read (block d)) (stmt_in d) a b c c₂ (Instruction i)
stmt_instruction d {w} {a} {b} {c} {c₁} h z m =
    record {
      tree = instruction m.tree;
      parsed = case_from (stmts d) 0 _ c refl h z _ (ap (λ r. onto r (λ i. give (instruction i))) m.parsed);
      stands = ap (λ o. bind o (λ i. Some (instruction i))) m.stands;
      frame = frame_more (frame_later a (word_later c (w, c₁) h)) m.frame;
    }

pub stmt_terminal : (d : ℕ) {w : ℕ} {a b : Arena} {c c₁ c₂ : Cursor} {t : ReactiveTerminalStatement} → word c ≡ Ok (w, c₁) → w ≡ 1 → BlockIn (terminal_read (block d)) (terminal_in d) a b c₁ c₂ t → BlockIn (stmt_read (block d)) (stmt_in d) a b c c₂ (Terminal t)
stmt_terminal d {w} {a} {b} {c} {c₁} h z m =
    record {
      tree = m.tree;
      parsed = case_from (stmts d) 1 _ c refl h z _ m.parsed;
      stands = m.stands;
      frame = frame_more (frame_later a (word_later c (w, c₁) h)) m.frame;
    }

pub stmt_scope : (d : ℕ) {w x : ℕ} {a b : Arena} {c c₁ c₂ c₃ : Cursor} {r : Range} → word c ≡ Ok (w, c₁) → w ≡ 2 → word c₁ ≡ Ok (x, c₂) → BlockIn (block d) (block_of d) a b c₂ c₃ r → BlockIn (stmt_read (block d)) (stmt_in d) a b c c₃ (Scope (record { scope = x; instructions = r }))
stmt_scope d {w} {x} {a} {b} {c} {c₁} {c₂} h z j m =
    record {
      tree = scope x m.tree;
      parsed = case_from (stmts d) 2 _ c refl h z _ (ap (λ r. onto r (λ x c₂. onto (block d c₂) (λ b. give (scope x b)))) j ∙ ap (λ r. onto r (λ b. give (scope x b))) m.parsed);
      stands = ap (λ o. bind o (λ b. Some (scope x b))) m.stands;
      frame = frame_more (frame_later a (within_more (word_later c (w, c₁) h) (word_later c₁ (x, c₂) j))) m.frame;
    }

pub stmt_pruned : (d : ℕ) {w x : ℕ} {a b : Arena} {c c₁ c₂ c₃ : Cursor} {r : Range} → word c ≡ Ok (w, c₁) → w ≡ 3 → word c₁ ≡ Ok (x, c₂) → BlockIn (block d) (block_of d) a b c₂ c₃ r → BlockIn (stmt_read (block d)) (stmt_in d) a b c c₃ (PrunedScope (record { scope = x; instructions = r }))
stmt_pruned d {w} {x} {a} {b} {c} {c₁} {c₂} h z j m =
    record {
      tree = pruned x m.tree;
      parsed = case_from (stmts d) 3 _ c refl h z _ (ap (λ r. onto r (λ x c₂. onto (block d c₂) (λ b. give (pruned x b)))) j ∙ ap (λ r. onto r (λ b. give (pruned x b))) m.parsed);
      stands = ap (λ o. bind o (λ b. Some (pruned x b))) m.stands;
      frame = frame_more (frame_later a (within_more (word_later c (w, c₁) h) (word_later c₁ (x, c₂) j))) m.frame;
    }
