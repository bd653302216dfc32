-- No Scope block of a scope that was seen: the scopes of the Scope blocks are distinct.
-- The lines of a block own the scopes of its Scope blocks, in file order.
use Rattle.std.proofs.Common.{◌≡◌, ℕ, suc, Bool, true, false, cond, not, ◌||◌, eqb, List, [], ◌∷◌, ◌++◌, Some, None, Option, sym, refl, ap, ◌∙◌, arith, eq-eqb, eqb-true}
use Rattle.hir.specs.Tree.{Val, operation, logical, conditional, sequence, optional, OptVal, no_val, some_val, Instr, instr, Instrs, inil, icons, Stmt, instruction, scope, pruned, terminal, Term, break, continue, return, throw, switch, do_while, while, for, for_of, for_in, if, label, try, Cases, knil, kcons, OptBlock, no_block, some_block, Block, nil, cons}
use Rattle.semantics.specs.Targets.{Around, has, plus, mark, mark_inside, labelled, in_switch, in_loop}
use Rattle.simulation.specs.WellFormed.{Distinct, scopes_s, scopes_t, scopes_k, scopes_o, scopes_b}
use Rattle.questions.specs.declared.line.Bounds.{Bounds}
use Rattle.questions.specs.declared.line.Line.{Line}
use Rattle.questions.specs.Questions.{among, first_owned, repeating, val_lines, instr_lines, instrs_lines, opt_val_lines, stmt_lines, term_lines, cases_lines, opt_block_lines, block_lines}

-- ---- distinct
abbrev pub owned : List Line → List ℕ
owned [] = []
owned (l ∷ ls) = plus l.owns (owned ls)

clash : {A : Type 0} → true ≡ false → A
clash e = let z : ◌≡◌ {A = ℕ} 0 1 = cc in absurd (omega arith)

among_has : (k : ℕ) (ns : List ℕ) → among k ns ≡ has k ns
among_has k [] = refl
among_has k (n ∷ ns) = rw (among_has k ns)

-- none of the second is in the first
record Clear (seen xs : List ℕ) : Type 0 where
  unseen : (y : ℕ) → has y xs ≡ true → has y seen ≡ false
  distinct : Distinct xs

behind : (a b : Bool) → (a || b) ≡ false → b ≡ false
behind true b e = clash e
behind false b e = e

unseen_more : (x : ℕ) (seen xs : List ℕ) → has x seen ≡ false → Clear (x ∷ seen) xs → Clear seen (x ∷ xs)
unseen_more x seen xs n c = record {
  unseen = λ y h. one y (eqb y x) refl h;
  distinct = (none (has x xs) refl, c.distinct);
}
  where
    one : (y : ℕ) (b : Bool) → eqb y x ≡ b → (eqb y x || has y xs) ≡ true → has y seen ≡ false
    one y true e h = rw (eqb-true y x e) n
    one y false e h = let i : has y xs ≡ true = rw e at h in behind (eqb y x) (has y seen) (c.unseen y i)

    none : (b : Bool) → has x xs ≡ b → has x xs ≡ false
    none true e = let z : (eqb x x || has x seen) ≡ false = c.unseen x e in let w : (true || has x seen) ≡ false = rw (eq-eqb x x refl) at z in clash w
    none false e = e

owns_first : (o : Option ℕ) (seen xs : List ℕ) → first_owned seen o ≡ true → Clear (plus o seen) xs → Clear seen (plus o xs)
owns_first None seen xs e c = c
owns_first (Some x) seen xs e c = unseen_more x seen xs (sym (among_has x seen) ∙ off (among x seen) e) c
  where
    off : (b : Bool) → not b ≡ true → b ≡ false
    off true e = clash (sym e)
    off false e = refl

clear : (seen : List ℕ) (n : ℕ) (ls : List Line) → repeating seen n ls ≡ [] → Clear seen (owned ls)
clear seen n [] e = record { unseen = λ y h. clash (sym h); distinct = tt }
clear seen n (l ∷ ls) e = go (first_owned seen l.owns) refl e (λ e. clear (plus l.owns seen) (suc n) ls e)
  where
    go : (b : Bool) → first_owned seen l.owns ≡ b → cond b (repeating (plus l.owns seen) (suc n) ls) (n ∷ repeating (plus l.owns seen) (suc n) ls) ≡ []
        → (repeating (plus l.owns seen) (suc n) ls ≡ [] → Clear (plus l.owns seen) (owned ls)) → Clear seen (plus l.owns (owned ls))
    go true q e f = owns_first l.owns seen (owned ls) q (f e)
    go false q e f = let z : ◌≡◌ {A = ℕ} 0 1 = cc in absurd (omega arith)

pub distinct_owned : (ls : List Line) → repeating [] 0 ls ≡ [] → Distinct (owned ls)
distinct_owned ls e = (clear [] 0 ls e).distinct

-- ---- the lines of a block own its scopes
plus_append : (o : Option ℕ) (xs ys : List ℕ) → plus o (xs ++ ys) ≡ plus o xs ++ ys
plus_append None xs ys = refl
plus_append (Some x) xs ys = refl

owned_append : (xs ys : List Line) → owned (xs ++ ys) ≡ owned xs ++ owned ys
owned_append [] ys = refl
owned_append (l ∷ xs) ys = ap (λ (r : List ℕ). plus l.owns r) (owned_append xs ys) ∙ plus_append l.owns (owned xs) (owned ys)

-- behind lines that own nothing
after_none : (xs ys : List Line) → owned xs ≡ [] → owned (xs ++ ys) ≡ owned ys
after_none xs ys e = owned_append xs ys ∙ ap (λ (r : List ℕ). r ++ owned ys) e

append_nil : (xs : List ℕ) → xs ++ [] ≡ xs
append_nil [] = refl
append_nil (x ∷ xs) = rw (append_nil xs)

before_none : (xs ys : List Line) → owned ys ≡ [] → owned (xs ++ ys) ≡ owned xs
before_none xs ys e = owned_append xs ys ∙ ap (λ (r : List ℕ). owned xs ++ r) e ∙ append_nil (owned xs)

two : (xs ys : List Line) (cs ds : List ℕ) → owned xs ≡ cs → owned ys ≡ ds → owned (xs ++ ys) ≡ cs ++ ds
two xs ys cs ds p q = owned_append xs ys ∙ ap (λ (r : List ℕ). r ++ owned ys) p ∙ ap (λ (r : List ℕ). cs ++ r) q

module _ (B : Bounds) where
  mutual
    none_v : (v : Val) → owned (val_lines B v) ≡ []
    none_v (operation o) = refl
    none_v (logical o a b) = after_none (val_lines B a) (val_lines B b) (none_v a) ∙ none_v b
    none_v (conditional c a b) = after_none (val_lines B c) (val_lines B a ++ val_lines B b) (none_v c) ∙ after_none (val_lines B a) (val_lines B b) (none_v a) ∙ none_v b
    none_v (sequence is i v) = after_none (instrs_lines B is) (val_lines B v) (none_is is) ∙ none_v v
    none_v (optional v o) = none_v v

    none_i : (i : Instr) → owned (instr_lines B i) ≡ []
    none_i (instr i l v n) = none_v v

    none_is : (is : Instrs) → owned (instrs_lines B is) ≡ []
    none_is inil = refl
    none_is (icons i is) = after_none (instr_lines B i) (instrs_lines B is) (none_i i) ∙ none_is is

  none_u : (u : OptVal) → owned (opt_val_lines B u) ≡ []
  none_u no_val = refl
  none_u (some_val v) = none_v v

  mutual
    owned_s : (x : Stmt) (a : Around) → owned (stmt_lines B x a) ≡ scopes_s x
    owned_s (instruction i) a = none_i i
    owned_s (scope x b) a = ap (λ (r : List ℕ). x ∷ r) (owned_b b a)
    owned_s (pruned x b) a = owned_b b a
    owned_s (terminal t m) a = owned_t t (mark m) (labelled (mark_inside t m) a)

    owned_t : (t : Term) (m : Option ℕ) (a : Around) → owned (term_lines B t m a) ≡ scopes_t t
    owned_t (break l i k) m a = refl
    owned_t (continue l i k) m a = refl
    owned_t (return p i) m a = refl
    owned_t (throw p i) m a = refl
    owned_t (switch p cs i) m a = owned_k cs (in_switch a)
    owned_t (do_while b v i) m a = before_none (block_lines B b (in_loop m a)) (val_lines B v) (none_v v) ∙ owned_b b (in_loop m a)
    owned_t (while v b i) m a = after_none (val_lines B v) (block_lines B b (in_loop m a)) (none_v v) ∙ owned_b b (in_loop m a)
    owned_t (for n v u b i) m a =
        let bl = block_lines B b (in_loop m a) in
        after_none (val_lines B n) (val_lines B v ++ (opt_val_lines B u ++ bl)) (none_v n) ∙ after_none (val_lines B v) (opt_val_lines B u ++ bl) (none_v v) ∙ after_none (opt_val_lines B u) bl (none_u u) ∙ owned_b b (in_loop m a)
    owned_t (for_of n v b i s) m a =
        let bl = block_lines B b (in_loop m a) in
        after_none (val_lines B n) (val_lines B v ++ bl) (none_v n) ∙ after_none (val_lines B v) bl (none_v v) ∙ owned_b b (in_loop m a)
    owned_t (for_in v b i s) m a = after_none (val_lines B v) (block_lines B b (in_loop m a)) (none_v v) ∙ owned_b b (in_loop m a)
    owned_t (if p b c i) m a = two (block_lines B b a) (opt_block_lines B c a) (scopes_b b) (scopes_o c) (owned_b b a) (owned_o c a)
    owned_t (label b i) m a = owned_b b a
    owned_t (try b p c i) m a = two (block_lines B b a) (block_lines B c a) (scopes_b b) (scopes_b c) (owned_b b a) (owned_b c a)

    owned_k : (cs : Cases) (a : Around) → owned (cases_lines B cs a) ≡ scopes_k cs
    owned_k knil a = refl
    owned_k (kcons t b cs) a = two (opt_block_lines B b a) (cases_lines B cs a) (scopes_o b) (scopes_k cs) (owned_o b a) (owned_k cs a)

    owned_o : (b : OptBlock) (a : Around) → owned (opt_block_lines B b a) ≡ scopes_o b
    owned_o no_block a = refl
    owned_o (some_block b) a = owned_b b a

    pub owned_b : (b : Block) (a : Around) → owned (block_lines B b a) ≡ scopes_b b
    owned_b nil a = refl
    owned_b (cons x b) a = two (stmt_lines B x a) (block_lines B b a) (scopes_s x) (scopes_b b) (owned_s x a) (owned_b b a)
