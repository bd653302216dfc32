-- Where each statement's own numbers and operations are well, the block is well-formed; where each jump has its target, so it is said of the block.
-- The lines of a block are taken apart as the block is.
use Rattle.std.proofs.Common.{◌≡◌, ℕ, true, List, ◌++◌, Some, None, Option}
use Rattle.hir.specs.declared.terminal.ReactiveLabel.{ReactiveLabel}
use Rattle.hir.specs.Tree.{Op, Val, operation, logical, conditional, sequence, optional, OptVal, no_val, some_val, Instr, instr, Instrs, inil, icons, Stmt, instruction, scope, pruned, terminal, Term, break, continue, return, throw, switch, do_while, while, for, for_of, for_in, if, label, try, Cases, knil, kcons, OptBlock, no_block, some_block, Block, nil, cons}
use Rattle.semantics.specs.Targets.{Around, mark, mark_inside, labelled, in_switch, in_loop, TgS, TgK, TgO, TgB}
use Rattle.simulation.specs.WellFormed.{All, IfSome, Sizes, LabelOk, OpOk, OkV, OkI, OkIs, OkU, OkS, OkT, OkK, OkO, OkB}
use Rattle.simulation.proofs.Lists.{all_left, all_right}
use Rattle.questions.specs.declared.line.Bounds.{Bounds}
use Rattle.questions.specs.declared.line.Line.{Line}
use Rattle.questions.specs.Questions.{opt_place_in, label_in, tests_in, term_in, place_in, term_aims, val_ops, opt_val_ops, term_ops, val_lines, instr_lines, instrs_lines, opt_val_lines, stmt_lines, term_lines, cases_lines, opt_block_lines, block_lines}
use Rattle.loaded.proofs.Tests.{both, below, bounds, target, operations}

-- a line's numbers and operations are well
abbrev pub Well : Line → Type 0
Well l = (l.numbers ≡ true) × (l.shapes ≡ true)

abbrev pub Aims : Line → Type 0
Aims l = l.targets ≡ true

module _ (Z : Sizes) where
  abbrev B : Bounds
  B = bounds Z

  left : (xs ys : List Line) → All Well (xs ++ ys) → All Well xs
  left xs ys h = all_left Well xs ys h

  right : (xs ys : List Line) → All Well (xs ++ ys) → All Well ys
  right xs ys h = all_right Well xs ys h

  first : (xs ys : List Op) → All (OpOk Z) (xs ++ ys) → All (OpOk Z) xs
  first xs ys h = all_left (OpOk Z) xs ys h

  second : (xs ys : List Op) → All (OpOk Z) (xs ++ ys) → All (OpOk Z) ys
  second xs ys h = all_right (OpOk Z) xs ys h

  -- ---- values: their own operations, and the statements inside
  mutual
    well_v : (v : Val) → All (OpOk Z) (val_ops v) → All Well (val_lines B v) → OkV Z v
    well_v (operation o) os ls = os.0
    well_v (logical o a b) os ls = (well_v a (first (val_ops a) (val_ops b) os) (left (val_lines B a) (val_lines B b) ls), well_v b (second (val_ops a) (val_ops b) os) (right (val_lines B a) (val_lines B b) ls))
    well_v (conditional c a b) os ls =
        let os₂ = second (val_ops c) (val_ops a ++ val_ops b) os in
        let ls₂ = right (val_lines B c) (val_lines B a ++ val_lines B b) ls in (
          well_v c (first (val_ops c) (val_ops a ++ val_ops b) os) (left (val_lines B c) (val_lines B a ++ val_lines B b) ls),
          well_v a (first (val_ops a) (val_ops b) os₂) (left (val_lines B a) (val_lines B b) ls₂),
          well_v b (second (val_ops a) (val_ops b) os₂) (right (val_lines B a) (val_lines B b) ls₂),
        )
    well_v (sequence is i v) os ls = (well_is is (left (instrs_lines B is) (val_lines B v) ls), well_v v os (right (instrs_lines B is) (val_lines B v) ls))
    well_v (optional v o) os ls = well_v v os ls

    well_i : (i : Instr) → All Well (instr_lines B i) → OkI Z i
    well_i (instr i l v n) ls = let p = both (opt_place_in B l) _ ls.0.0 in (target Z l p.0, well_v v (operations Z (val_ops v) p.1 ls.0.1) ls.1)

    well_is : (is : Instrs) → All Well (instrs_lines B is) → OkIs Z is
    well_is inil ls = tt
    well_is (icons i is) ls = (well_i i (left (instr_lines B i) (instrs_lines B is) ls), well_is is (right (instr_lines B i) (instrs_lines B is) ls))

  well_u : (u : OptVal) → All (OpOk Z) (opt_val_ops u) → All Well (opt_val_lines B u) → OkU Z u
  well_u no_val os ls = tt
  well_u (some_val v) os ls = well_v v os ls

  -- ---- statements
  labelled_ok : (m : Option ReactiveLabel) → label_in B m ≡ true → IfSome (LabelOk Z) m
  labelled_ok None e = tt
  labelled_ok (Some l) e = below _ _ e

  mutual
    well_s : (x : Stmt) (a : Around) → All Well (stmt_lines B x a) → OkS Z x
    well_s (instruction i) a ls = well_i i ls
    well_s (scope x b) a ls = (below _ _ ls.0.0, well_b b a ls.1)
    well_s (pruned x b) a ls = (below _ _ ls.0.0, well_b b a ls.1)
    well_s (terminal t m) a ls =
        let p = both (label_in B m) _ ls.0.0 in
        let q = both (term_in B t) _ p.1 in
        (well_t t (mark m) (labelled (mark_inside t m) a) q.0 (operations Z (term_ops t) q.1 ls.0.1) ls.1, labelled_ok m p.0)

    well_t : (t : Term) (m : Option ℕ) (a : Around) → term_in B t ≡ true → All (OpOk Z) (term_ops t) → All Well (term_lines B t m a) → OkT Z t
    well_t (break l i k) m a e os ls = below _ _ e
    well_t (continue l i k) m a e os ls = below _ _ e
    well_t (return p i) m a e os ls = below _ _ e
    well_t (throw p i) m a e os ls = below _ _ e
    well_t (switch p cs i) m a e os ls = let q = both (place_in B p) _ e in (below _ _ q.0, well_k cs (in_switch a) q.1 ls)
    well_t (do_while b v i) m a e os ls = let bl = block_lines B b (in_loop m a) in (well_b b _ (left bl (val_lines B v) ls), well_v v os (right bl (val_lines B v) ls))
    well_t (while v b i) m a e os ls = let bl = block_lines B b (in_loop m a) in (well_v v os (left (val_lines B v) bl ls), well_b b _ (right (val_lines B v) bl ls))
    well_t (for n v u b i) m a e os ls =
        let bl = block_lines B b (in_loop m a) in
        let os₂ = second (val_ops n) (val_ops v ++ opt_val_ops u) os in
        let ls₂ = right (val_lines B n) (val_lines B v ++ (opt_val_lines B u ++ bl)) ls in
        let ls₃ = right (val_lines B v) (opt_val_lines B u ++ bl) ls₂ in (
          well_v n (first (val_ops n) (val_ops v ++ opt_val_ops u) os) (left (val_lines B n) (val_lines B v ++ (opt_val_lines B u ++ bl)) ls),
          well_v v (first (val_ops v) (opt_val_ops u) os₂) (left (val_lines B v) (opt_val_lines B u ++ bl) ls₂),
          well_u u (second (val_ops v) (opt_val_ops u) os₂) (left (opt_val_lines B u) bl ls₃),
          well_b b _ (right (opt_val_lines B u) bl ls₃),
        )
    well_t (for_of n v b i s) m a e os ls =
        let bl = block_lines B b (in_loop m a) in
        let ls₂ = right (val_lines B n) (val_lines B v ++ bl) ls in (
          well_v n (first (val_ops n) (val_ops v) os) (left (val_lines B n) (val_lines B v ++ bl) ls),
          well_v v (second (val_ops n) (val_ops v) os) (left (val_lines B v) bl ls₂),
          well_b b _ (right (val_lines B v) bl ls₂),
        )
    well_t (for_in v b i s) m a e os ls = let bl = block_lines B b (in_loop m a) in (well_v v os (left (val_lines B v) bl ls), well_b b _ (right (val_lines B v) bl ls))
    well_t (if p b c i) m a e os ls = (below _ _ e, well_b b a (left (block_lines B b a) (opt_block_lines B c a) ls), well_o c a (right (block_lines B b a) (opt_block_lines B c a) ls))
    well_t (label b i) m a e os ls = well_b b a ls
    well_t (try b p c i) m a e os ls = (well_b b a (left (block_lines B b a) (block_lines B c a) ls), target Z p e, well_b c a (right (block_lines B b a) (block_lines B c a) ls))

    well_k : (cs : Cases) (a : Around) → tests_in B cs ≡ true → All Well (cases_lines B cs a) → OkK Z cs
    well_k knil a e ls = tt
    well_k (kcons t b cs) a e ls =
        let q = both (opt_place_in B t) _ e in
        (target Z t q.0, well_o b a (left (opt_block_lines B b a) (cases_lines B cs a) ls), well_k cs a q.1 (right (opt_block_lines B b a) (cases_lines B cs a) ls))

    well_o : (b : OptBlock) (a : Around) → All Well (opt_block_lines B b a) → OkO Z b
    well_o no_block a ls = tt
    well_o (some_block b) a ls = well_b b a ls

    pub well_b : (b : Block) (a : Around) → All Well (block_lines B b a) → OkB Z b
    well_b nil a ls = tt
    well_b (cons x b) a ls = (well_s x a (left (stmt_lines B x a) (block_lines B b a) ls), well_b b a (right (stmt_lines B x a) (block_lines B b a) ls))

-- ---- targets
module _ (B : Bounds) where
  aim_left : (xs ys : List Line) → All Aims (xs ++ ys) → All Aims xs
  aim_left xs ys h = all_left Aims xs ys h

  aim_right : (xs ys : List Line) → All Aims (xs ++ ys) → All Aims ys
  aim_right xs ys h = all_right Aims xs ys h

  mutual
    aims_s : (x : Stmt) (a : Around) → All Aims (stmt_lines B x a) → TgS x a
    aims_s (instruction i) a ls = tt
    aims_s (scope x b) a ls = aims_b b a ls.1
    aims_s (pruned x b) a ls = aims_b b a ls.1
    aims_s (terminal t m) a ls = aims_t t m a ls.0 ls.1

    aims_t : (t : Term) (m : Option ReactiveLabel) (a : Around) → term_aims t a ≡ true → All Aims (term_lines B t (mark m) (labelled (mark_inside t m) a)) → TgS (terminal t m) a
    aims_t (break l i k) m a e ls = e
    aims_t (continue l i k) m a e ls = e
    aims_t (return p i) m a e ls = tt
    aims_t (throw p i) m a e ls = tt
    aims_t (switch p cs i) m a e ls = aims_k cs _ ls
    aims_t (do_while b v i) m a e ls = aims_b b _ (aim_left (block_lines B b (in_loop (mark m) (labelled (mark m) a))) (val_lines B v) ls)
    aims_t (while v b i) m a e ls = aims_b b _ (aim_right (val_lines B v) (block_lines B b (in_loop (mark m) (labelled (mark m) a))) ls)
    aims_t (for n v u b i) m a e ls =
        let bl = block_lines B b (in_loop (mark m) (labelled (mark m) a)) in
        aims_b b _ (aim_right (opt_val_lines B u) bl (aim_right (val_lines B v) (opt_val_lines B u ++ bl) (aim_right (val_lines B n) (val_lines B v ++ (opt_val_lines B u ++ bl)) ls)))
    aims_t (for_of n v b i s) m a e ls =
        let bl = block_lines B b (in_loop (mark m) (labelled (mark m) a)) in
        aims_b b _ (aim_right (val_lines B v) bl (aim_right (val_lines B n) (val_lines B v ++ bl) ls))
    aims_t (for_in v b i s) m a e ls = aims_b b _ (aim_right (val_lines B v) (block_lines B b (in_loop (mark m) (labelled (mark m) a))) ls)
    aims_t (if p b c i) m a e ls =
        let d : Around = labelled (mark m) a in
        (aims_b b d (aim_left (block_lines B b d) (opt_block_lines B c d) ls), aims_o c d (aim_right (block_lines B b d) (opt_block_lines B c d) ls))
    aims_t (label b i) m a e ls = aims_b b _ ls
    aims_t (try b p c i) m a e ls =
        let d : Around = labelled (mark m) a in
        (aims_b b d (aim_left (block_lines B b d) (block_lines B c d) ls), aims_b c d (aim_right (block_lines B b d) (block_lines B c d) ls))

    aims_k : (cs : Cases) (a : Around) → All Aims (cases_lines B cs a) → TgK cs a
    aims_k knil a ls = tt
    aims_k (kcons t b cs) a ls = (aims_o b a (aim_left (opt_block_lines B b a) (cases_lines B cs a) ls), aims_k cs a (aim_right (opt_block_lines B b a) (cases_lines B cs a) ls))

    aims_o : (b : OptBlock) (a : Around) → All Aims (opt_block_lines B b a) → TgO b a
    aims_o no_block a ls = tt
    aims_o (some_block b) a ls = aims_b b a ls

    pub aims_b : (b : Block) (a : Around) → All Aims (block_lines B b a) → TgB b a
    aims_b nil a ls = tt
    aims_b (cons x b) a ls = (aims_s x a (aim_left (stmt_lines B x a) (block_lines B b a) ls), aims_b b a (aim_right (stmt_lines B x a) (block_lines B b a) ls))
