-- What lowering a part of the tree leaves of the records: those of the scopes that have no Scope block in it.
-- With it, what `has` and `Distinct` say of two lists in a row.
use Rattle.std.proofs.Common.{◌≡◌, ℕ, zero, suc, Bool, true, false, ◌||◌, eqb, List, [], ◌∷◌, ◌++◌, Some, None, Option, sym, refl, ap, ◌∙◌, arith, eqb-true}
use borrow.Author.Tests.{eqb-false}
use Rattle.hir.specs.declared.environment.ReactiveScopeEarlyReturn.{ReactiveScopeEarlyReturn}
use Rattle.hir.specs.Tree.{Stmt, instruction, scope, pruned, terminal, Term, break, continue, return, throw, switch, do_while, while, for, for_of, for_in, if, label, try, Cases, knil, kcons, OptBlock, no_block, some_block, Block, nil, cons, ScopeInfo}
use Rattle.semantics.specs.Exec.{records_of}
use Rattle.semantics.specs.Targets.{has}
use Rattle.simulation.proofs.Lists.{hasnt_left, hasnt_right}
use Rattle.simulation.specs.WellFormed.{scopes_s, scopes_t, scopes_k, scopes_o, scopes_b, Distinct}
use Rattle.early_returns.specs.Lowering.{Env, unless_recorded, first_b, change, with_record, after_scope, after_s, after_t, after_k, after_o, after_b}

-- ---- lists
pub not_both : {A : Type 0} → true ≡ false → A
not_both e = let z : ◌≡◌ {A = ℕ} 0 1 = cc in absurd (omega arith)

or_right : (a : Bool) → (a || true) ≡ true
or_right true = refl
or_right false = refl

pub or_false : (a b : Bool) → (a || b) ≡ false → (a ≡ false) × (b ≡ false)
or_false true b e = not_both e
or_false false b e = (refl, e)

or_keeps : (a : Bool) {b c : Bool} → (b ≡ true → c ≡ true) → (a || b) ≡ true → (a || c) ≡ true
or_keeps true f e = refl
or_keeps false f e = f e

pub has_left : (y : ℕ) (xs ys : List ℕ) → has y xs ≡ true → has y (xs ++ ys) ≡ true
has_left y [] ys e = not_both (sym e)
has_left y (x ∷ xs) ys e = or_keeps (eqb y x) (has_left y xs ys) e

pub has_right : (y : ℕ) (xs ys : List ℕ) → has y ys ≡ true → has y (xs ++ ys) ≡ true
has_right y [] ys e = e
has_right y (x ∷ xs) ys e = rw (has_right y xs ys e) (or_right (eqb y x))

-- what is in the second of them is not in the first
pub apart : (xs ys : List ℕ) → Distinct (xs ++ ys) → (y : ℕ) → has y ys ≡ true → has y xs ≡ false
apart [] ys d y h = refl
apart (x ∷ xs) ys d y h = go (eqb y x) refl (apart xs ys d.1 y h)
  where
    go : (b : Bool) → eqb y x ≡ b → has y xs ≡ false → (eqb y x || has y xs) ≡ false
    go true e k =
        let q : y ≡ x = eqb-true y x e in
        let z : has x ys ≡ true = rw q at h in
        not_both (sym z ∙ hasnt_right x xs ys d.0)
    go false e k = rw e k

pub apart_back : (xs ys : List ℕ) → Distinct (xs ++ ys) → (y : ℕ) → has y xs ≡ true → has y ys ≡ false
apart_back xs ys d y h = go (has y ys) refl
  where
    go : (b : Bool) → has y ys ≡ b → has y ys ≡ false
    go true e = not_both (sym h ∙ apart xs ys d y e)
    go false e = e

-- ---- the table
pub record_other : (ss : List ScopeInfo) (x y z : ℕ) (r : ReactiveScopeEarlyReturn) → (y ≡ x → ⊥) → records_of (change ss x (with_record z r)) y ≡ records_of ss y
unfolding change records_of
record_other [] x y z r h = refl
record_other (s ∷ ss) zero zero z r h = absurd (h refl)
record_other (s ∷ ss) zero (suc y) z r h = refl
record_other (s ∷ ss) (suc x) zero z r h = refl
record_other (s ∷ ss) (suc x) (suc y) z r h = record_other ss x y z r (λ e. h (ap suc e))

frame_scope : (o : Option ℕ) (x : ℕ) (e : Env) (y : ℕ) → eqb y x ≡ false → records_of (after_scope o x e).scopes y ≡ records_of e.scopes y
frame_scope None x e y h = refl
frame_scope (Some span) x e y h = record_other e.scopes x y x _ (eqb-false y x h)

module _ (rec : ℕ → Option ℕ) where
  mutual
    pub frame_s : (x : Stmt) (e : Env) (y : ℕ) → has y (scopes_s x) ≡ false → records_of (after_s rec x e).scopes y ≡ records_of e.scopes y
    frame_s (instruction i) e y h = refl
    frame_s (scope x b) e y h = frame_scope (unless_recorded (rec x) (first_b rec b)) x e y (or_false (eqb y x) _ h).0
    frame_s (pruned x b) e y h = frame_b b e y h
    frame_s (terminal t m) e y h = frame_t t e y h

    pub frame_t : (t : Term) (e : Env) (y : ℕ) → has y (scopes_t t) ≡ false → records_of (after_t rec t e).scopes y ≡ records_of e.scopes y
    frame_t (break l i k) e y h = refl
    frame_t (continue l i k) e y h = refl
    frame_t (return p i) e y h = refl
    frame_t (throw p i) e y h = refl
    frame_t (switch p cs i) e y h = frame_k cs e y h
    frame_t (do_while b v i) e y h = frame_b b e y h
    frame_t (while v b i) e y h = frame_b b e y h
    frame_t (for a v u b i) e y h = frame_b b e y h
    frame_t (for_of a v b i n) e y h = frame_b b e y h
    frame_t (for_in v b i n) e y h = frame_b b e y h
    frame_t (if p b c i) e y h = frame_o c _ y (hasnt_right y (scopes_b b) (scopes_o c) h) ∙ frame_b b e y (hasnt_left y (scopes_b b) (scopes_o c) h)
    frame_t (label b i) e y h = frame_b b e y h
    frame_t (try b p c i) e y h = frame_b c _ y (hasnt_right y (scopes_b b) (scopes_b c) h) ∙ frame_b b e y (hasnt_left y (scopes_b b) (scopes_b c) h)

    pub frame_k : (cs : Cases) (e : Env) (y : ℕ) → has y (scopes_k cs) ≡ false → records_of (after_k rec cs e).scopes y ≡ records_of e.scopes y
    frame_k knil e y h = refl
    frame_k (kcons t b cs) e y h = frame_k cs _ y (hasnt_right y (scopes_o b) (scopes_k cs) h) ∙ frame_o b e y (hasnt_left y (scopes_o b) (scopes_k cs) h)

    pub frame_o : (b : OptBlock) (e : Env) (y : ℕ) → has y (scopes_o b) ≡ false → records_of (after_o rec b e).scopes y ≡ records_of e.scopes y
    frame_o no_block e y h = refl
    frame_o (some_block b) e y h = frame_b b e y h

    pub frame_b : (b : Block) (e : Env) (y : ℕ) → has y (scopes_b b) ≡ false → records_of (after_b rec b e).scopes y ≡ records_of e.scopes y
    frame_b nil e y h = refl
    frame_b (cons x b) e y h = frame_b b _ y (hasnt_right y (scopes_s x) (scopes_b b) h) ∙ frame_s x e y (hasnt_left y (scopes_s x) (scopes_b b) h)
