-- A lowered function lowered again is the same.
-- A scope that was treated has a record, and no other outermost scope has an open return.
use Rattle.std.proofs.Common.{◌≡◌, ℕ, zero, suc, ◌<◌, true, false, List, [], ◌∷◌, ◌++◌, length, Some, None, Option, refl, ap, ◌∙◌, arith, eq-eqb}
use Rattle.hir.specs.declared.environment.ReactiveScopeEarlyReturn.{ReactiveScopeEarlyReturn}
use Rattle.hir.specs.Tree.{Stmt, instruction, scope, pruned, terminal, Term, break, continue, return, throw, switch, do_while, while, for, for_of, for_in, if, label, try, Cases, knil, kcons, OptBlock, no_block, some_block, Block, nil, cons, ScopeInfo, Function}
use Rattle.semantics.specs.Exec.{records_of}
use Rattle.semantics.specs.Targets.{has}
use Rattle.simulation.specs.WellFormed.{Sizes, sizes, OkS, OkT, OkK, OkO, OkB, scopes_s, scopes_t, scopes_k, scopes_o, scopes_b, Distinct, WellFormed}
use Rattle.early_returns.specs.Lowering.{Env, start, unless_recorded, first_s, first_t, first_k, first_o, first_b, change, with_record, low_scope, after_scope, after_s, after_t, after_k, after_o, after_b, low_s, low_t, low_k, low_o, low_b, lowered}
use Rattle.simulation.proofs.Lists.{distinct_left, distinct_right}
use Rattle.early_returns.proofs.Frame.{has_left, has_right, apart, apart_back, frame_s, frame_b, frame_o, frame_k}

-- ---- the table keeps its length, and a scope of it that was recorded has its record
pub change_length : {A : Type 0} (xs : List A) (x : ℕ) (f : A → A) → length (change xs x f) ≡ length xs
unfolding change
change_length [] x f = refl
change_length (a ∷ xs) zero f = refl
change_length (a ∷ xs) (suc x) f = ap suc (change_length xs x f)

pub record_same : (ss : List ScopeInfo) (x z : ℕ) (r : ReactiveScopeEarlyReturn) → x < length ss → records_of (change ss x (with_record z r)) x ≡ Some r.value
unfolding change records_of
record_same [] x z r h = absurd (omega arith)
record_same (s ∷ ss) zero z r h = refl
record_same (s ∷ ss) (suc x) z r h = record_same ss x z r (omega arith)

count_scope : (o : Option ℕ) (x : ℕ) (e : Env) → length (after_scope o x e).scopes ≡ length e.scopes
count_scope None x e = refl
count_scope (Some span) x e = change_length e.scopes x _

module _ (rec : ℕ → Option ℕ) where
  mutual
    pub count_s : (x : Stmt) (e : Env) → length (after_s rec x e).scopes ≡ length e.scopes
    count_s (instruction i) e = refl
    count_s (scope x b) e = count_scope (unless_recorded (rec x) (first_b rec b)) x e
    count_s (pruned x b) e = count_b b e
    count_s (terminal t m) e = count_t t e

    count_t : (t : Term) (e : Env) → length (after_t rec t e).scopes ≡ length e.scopes
    count_t (break l i k) e = refl
    count_t (continue l i k) e = refl
    count_t (return p i) e = refl
    count_t (throw p i) e = refl
    count_t (switch p cs i) e = count_k cs e
    count_t (do_while b v i) e = count_b b e
    count_t (while v b i) e = count_b b e
    count_t (for a v u b i) e = count_b b e
    count_t (for_of a v b i n) e = count_b b e
    count_t (for_in v b i n) e = count_b b e
    count_t (if p b c i) e = count_o c _ ∙ count_b b e
    count_t (label b i) e = count_b b e
    count_t (try b p c i) e = count_b c _ ∙ count_b b e

    count_k : (cs : Cases) (e : Env) → length (after_k rec cs e).scopes ≡ length e.scopes
    count_k knil e = refl
    count_k (kcons t b cs) e = count_k cs _ ∙ count_o b e

    count_o : (b : OptBlock) (e : Env) → length (after_o rec b e).scopes ≡ length e.scopes
    count_o no_block e = refl
    count_o (some_block b) e = count_b b e

    pub count_b : (b : Block) (e : Env) → length (after_b rec b e).scopes ≡ length e.scopes
    count_b nil e = refl
    count_b (cons x b) e = count_b b _ ∙ count_s x e

-- ---- the first open return depends on the records of the scopes inside only
module _ (rec rec' : ℕ → Option ℕ) where
  abbrev Agree : List ℕ → Type 0
  Agree xs = (y : ℕ) → has y xs ≡ true → rec' y ≡ rec y

  left : (xs ys : List ℕ) → Agree (xs ++ ys) → Agree xs
  left xs ys a y h = a y (has_left y xs ys h)

  right : (xs ys : List ℕ) → Agree (xs ++ ys) → Agree ys
  right xs ys a y h = a y (has_right y xs ys h)

  self : (x : ℕ) (xs : List ℕ) → Agree (x ∷ xs) → rec' x ≡ rec x
  self x xs a = a x (rw (eq-eqb x x refl))

  mutual
    first_s_same : (x : Stmt) → Agree (scopes_s x) → first_s rec' x ≡ first_s rec x
    first_s_same (instruction i) a = refl
    first_s_same (scope x b) a = rw (self x (scopes_b b) a, first_b_same b (right (x ∷ []) (scopes_b b) a))
    first_s_same (pruned x b) a = first_b_same b a
    first_s_same (terminal t m) a = first_t_same t a

    first_t_same : (t : Term) → Agree (scopes_t t) → first_t rec' t ≡ first_t rec t
    first_t_same (break l i k) a = refl
    first_t_same (continue l i k) a = refl
    first_t_same (return p i) a = refl
    first_t_same (throw p i) a = refl
    first_t_same (switch p cs i) a = first_k_same cs a
    first_t_same (do_while b v i) a = first_b_same b a
    first_t_same (while v b i) a = first_b_same b a
    first_t_same (for c v u b i) a = first_b_same b a
    first_t_same (for_of c v b i n) a = first_b_same b a
    first_t_same (for_in v b i n) a = first_b_same b a
    first_t_same (if p b c i) a = rw (first_b_same b (left (scopes_b b) (scopes_o c) a), first_o_same c (right (scopes_b b) (scopes_o c) a))
    first_t_same (label b i) a = first_b_same b a
    first_t_same (try b p c i) a = rw (first_b_same b (left (scopes_b b) (scopes_b c) a), first_b_same c (right (scopes_b b) (scopes_b c) a))

    first_k_same : (cs : Cases) → Agree (scopes_k cs) → first_k rec' cs ≡ first_k rec cs
    first_k_same knil a = refl
    first_k_same (kcons t b cs) a = rw (first_o_same b (left (scopes_o b) (scopes_k cs) a), first_k_same cs (right (scopes_o b) (scopes_k cs) a))

    first_o_same : (b : OptBlock) → Agree (scopes_o b) → first_o rec' b ≡ first_o rec b
    first_o_same no_block a = refl
    first_o_same (some_block b) a = first_b_same b a

    first_b_same : (b : Block) → Agree (scopes_b b) → first_b rec' b ≡ first_b rec b
    first_b_same nil a = refl
    first_b_same (cons x b) a = rw (first_s_same x (left (scopes_s x) (scopes_b b) a), first_b_same b (right (scopes_s x) (scopes_b b) a))

-- ---- lowered again, with the records rec' that lowering with rec has left
module _ (rec rec' : ℕ → Option ℕ) (Z : Sizes) where
  -- e: before a part with the scopes xs. f: after it. The first records are those of e, the last those of f
  record Between (xs : List ℕ) (e f : Env) : Type 0 where
    once : Distinct xs
    many : length e.scopes ≡ Z.scopes
    old : (y : ℕ) → has y xs ≡ true → records_of e.scopes y ≡ rec y
    new : (y : ℕ) → has y xs ≡ true → rec' y ≡ records_of f.scopes y

  abbrev Frames : List ℕ → Env → Env → Type 0
  Frames xs e f = (y : ℕ) → has y xs ≡ false → records_of f.scopes y ≡ records_of e.scopes y

  former : (xs ys : List ℕ) (e f g : Env) → Between (xs ++ ys) e g → Frames ys f g → Between xs e f
  former xs ys e f g k v = record {
    once = distinct_left xs ys k.once;
    many = k.many;
    old = λ y h. k.old y (has_left y xs ys h);
    new = λ y h. k.new y (has_left y xs ys h) ∙ v y (apart_back xs ys k.once y h);
  }

  latter : (xs ys : List ℕ) (e f g : Env) → Between (xs ++ ys) e g → length f.scopes ≡ length e.scopes → Frames xs e f → Between ys f g
  latter xs ys e f g k c u = record {
    once = distinct_right xs ys k.once;
    many = c ∙ k.many;
    old = λ y h. u y (apart xs ys k.once y h) ∙ k.old y (has_right y xs ys h);
    new = λ y h. k.new y (has_right y xs ys h);
  }

  scope_again : (h : Option ℕ) (x : ℕ) (b : Block) (e : Env) → unless_recorded (rec x) (first_b rec b) ≡ h → x < Z.scopes → Between (x ∷ scopes_b b) e (after_scope h x e)
      → (f : Env) → (low_s rec' (low_scope rec h x b e) f ≡ low_scope rec h x b e) × (after_s rec' (low_scope rec h x b e) f ≡ f)
  scope_again None x b e q lo k f =
      let a : Agree rec rec' (x ∷ scopes_b b) = λ y h. k.new y h ∙ k.old y h in
      let z : unless_recorded (rec' x) (first_b rec' b) ≡ None = rw (self rec rec' x (scopes_b b) a, first_b_same rec rec' b (right rec rec' (x ∷ []) (scopes_b b) a)) q in
      (rw z, rw z)
  scope_again (Some span) x b e q lo k f =
      let c : x < length e.scopes = rw k.many lo in
      let p = k.new x (rw (eq-eqb x x refl)) ∙ record_same e.scopes x x _ c in
      (rw p, rw p)

  mutual
    again_s : (x : Stmt) (e : Env) → OkS Z x → Between (scopes_s x) e (after_s rec x e) → (f : Env) → (low_s rec' (low_s rec x e) f ≡ low_s rec x e) × (after_s rec' (low_s rec x e) f ≡ f)
    again_s (instruction i) e w k f = (refl, refl)
    again_s (scope x b) e w k f = scope_again (unless_recorded (rec x) (first_b rec b)) x b e refl w.0 k f
    again_s (pruned x b) e w k f = let q = again_b b e w.1 k f in (ap (λ b. pruned x b) q.0, q.1)
    again_s (terminal t m) e w k f = let q = again_t t e w.0 k f in (ap (λ t. terminal t m) q.0, q.1)

    again_t : (t : Term) (e : Env) → OkT Z t → Between (scopes_t t) e (after_t rec t e) → (f : Env) → (low_t rec' (low_t rec t e) f ≡ low_t rec t e) × (after_t rec' (low_t rec t e) f ≡ f)
    again_t (break l i t) e w k f = (refl, refl)
    again_t (continue l i t) e w k f = (refl, refl)
    again_t (return p i) e w k f = (refl, refl)
    again_t (throw p i) e w k f = (refl, refl)
    again_t (switch p cs i) e w k f = let q = again_k cs e w.1 k f in (ap (λ cs. switch p cs i) q.0, q.1)
    again_t (do_while b v i) e w k f = let q = again_b b e w.0 k f in (ap (λ b. do_while b v i) q.0, q.1)
    again_t (while v b i) e w k f = let q = again_b b e w.1 k f in (ap (λ b. while v b i) q.0, q.1)
    again_t (for a v u b i) e w k f = let q = again_b b e w.3 k f in (ap (λ b. for a v u b i) q.0, q.1)
    again_t (for_of a v b i n) e w k f = let q = again_b b e w.2 k f in (ap (λ b. for_of a v b i n) q.0, q.1)
    again_t (for_in v b i n) e w k f = let q = again_b b e w.1 k f in (ap (λ b. for_in v b i n) q.0, q.1)
    again_t (if p b c i) e w k f =
        let g : Env = after_b rec b e in
        let q = again_b b e w.1 (former (scopes_b b) (scopes_o c) e g (after_o rec c g) k (frame_o rec c g)) f in
        let r = again_o c g w.2 (latter (scopes_b b) (scopes_o c) e g (after_o rec c g) k (count_b rec b e) (frame_b rec b e)) f in
        (rw (q.0, q.1, r.0), rw (q.1, r.1))
    again_t (label b i) e w k f = let q = again_b b e w k f in (ap (λ b. label b i) q.0, q.1)
    again_t (try b p c i) e w k f =
        let g : Env = after_b rec b e in
        let q = again_b b e w.0 (former (scopes_b b) (scopes_b c) e g (after_b rec c g) k (frame_b rec c g)) f in
        let r = again_b c g w.2 (latter (scopes_b b) (scopes_b c) e g (after_b rec c g) k (count_b rec b e) (frame_b rec b e)) f in
        (rw (q.0, q.1, r.0), rw (q.1, r.1))

    again_k : (cs : Cases) (e : Env) → OkK Z cs → Between (scopes_k cs) e (after_k rec cs e) → (f : Env) → (low_k rec' (low_k rec cs e) f ≡ low_k rec cs e) × (after_k rec' (low_k rec cs e) f ≡ f)
    again_k knil e w k f = (refl, refl)
    again_k (kcons t b cs) e w k f =
        let g : Env = after_o rec b e in
        let q = again_o b e w.1 (former (scopes_o b) (scopes_k cs) e g (after_k rec cs g) k (frame_k rec cs g)) f in
        let r = again_k cs g w.2 (latter (scopes_o b) (scopes_k cs) e g (after_k rec cs g) k (count_o rec b e) (frame_o rec b e)) f in
        (rw (q.0, q.1, r.0), rw (q.1, r.1))

    again_o : (b : OptBlock) (e : Env) → OkO Z b → Between (scopes_o b) e (after_o rec b e) → (f : Env) → (low_o rec' (low_o rec b e) f ≡ low_o rec b e) × (after_o rec' (low_o rec b e) f ≡ f)
    again_o no_block e w k f = (refl, refl)
    again_o (some_block b) e w k f = let q = again_b b e w k f in (ap some_block q.0, q.1)

    again_b : (b : Block) (e : Env) → OkB Z b → Between (scopes_b b) e (after_b rec b e) → (f : Env) → (low_b rec' (low_b rec b e) f ≡ low_b rec b e) × (after_b rec' (low_b rec b e) f ≡ f)
    again_b nil e w k f = (refl, refl)
    again_b (cons x b) e w k f =
        let g : Env = after_s rec x e in
        let q = again_s x e w.0 (former (scopes_s x) (scopes_b b) e g (after_b rec b g) k (frame_b rec b g)) f in
        let r = again_b b g w.1 (latter (scopes_s x) (scopes_b b) e g (after_b rec b g) k (count_s rec x e) (frame_s rec x e)) f in
        (rw (q.0, q.1, r.0), rw (q.1, r.1))

pub lowered_once : (F : Function) → WellFormed F → lowered (lowered F) ≡ lowered F
unfolding lowered
lowered_once F w =
    let rec : ℕ → Option ℕ = records_of F.scopes in
    let e : Env = after_b rec F.body (start F) in
    let q = again_b rec (records_of e.scopes) (sizes F) F.body (start F) w.body_ok (record { once = w.scopes_once; many = refl; old = λ y h. refl; new = λ y h. refl }) e in
    rw (q.0, q.1)
