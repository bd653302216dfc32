-- The lowered tree runs as the tree does: open returns replaced inside a scope, and the outermost scopes treated one after the other.
-- The records of a scope are followed from the table before its part to the table after it.
use Rattle.std.proofs.Common.{◌≡◌, ℕ, ◌≤◌, true, false, List, [], ◌∷◌, ◌++◌, length, Some, None, Option, sym, refl, ◌∙◌, arith, eq-eqb}
use Rattle.hir.specs.declared.terminal.ReactiveLabel.{ReactiveLabel}
use Rattle.hir.specs.Tree.{Stmt, instruction, scope, pruned, terminal, Term, break, continue, return, throw, switch, do_while, while, for, for_of, for_in, if, label, try, Cases, knil, kcons, OptBlock, no_block, some_block, Block, nil, cons}
use Rattle.semantics.specs.Machine.{Meaning}
use Rattle.semantics.specs.Exec.{records_of}
use Rattle.semantics.specs.Targets.{has}
use Rattle.simulation.specs.WellFormed.{All, IfSome, Sizes, LabelOk, OkS, OkT, OkK, OkO, OkB, scopes_s, scopes_t, scopes_k, scopes_o, scopes_b, Distinct}
use Rattle.simulation.proofs.Lists.{all_left, all_right}
use Rattle.simulation.proofs.Rel.{Below}
use Rattle.simulation.proofs.Simulate.{outside}
use Rattle.simulation.proofs.Cong.{Runs, SRel, TRel, KRel, ORel, BRel, nil_rel, cons_rel, no_rel, some_rel, instruction_rel, scope_rel, pruned_rel, terminal_rel, break_rel, continue_rel, return_rel, throw_rel, switch_rel, do_while_rel, while_rel, for_rel, for_of_rel, for_in_rel, if_rel, label_rel, try_rel, knil_rel, kcons_rel}
use Rattle.simulation.proofs.Identity.{SameRecord, Agree, same_s, same_b}
use Rattle.early_returns.specs.Lowering.{Env, ids, blocks, unless_recorded, keep_recorded, first_b, open_s, open_t, open_k, open_o, open_b, after_scope, after_s, after_t, after_k, after_o, after_b, low_scope, low_s, low_t, low_k, low_o, low_b}
use Rattle.simulation.proofs.Lists.{distinct_left, distinct_right}
use Rattle.early_returns.proofs.Frame.{not_both, has_left, has_right, apart, apart_back, record_other, frame_s, frame_k, frame_o, frame_b}
use Rattle.early_returns.proofs.Again.{record_same}
use Rattle.early_returns.proofs.Growth.{Grown, grow_s, grow_k, grow_o, grow_b, five_more}
use Rattle.early_returns.proofs.Inside.{Numbers, runs_inside, open_return, lowered_scope}

-- ---- open returns replaced
module _ (M : Numbers) {S : Type 0} (H : Meaning S) (rec rec' : ℕ → Option ℕ) (f : ℕ) (places : (x : ℕ) → Below M.Z.identifiers (rec x)) where
  abbrev R : Runs S
  R = runs_inside M H rec rec' f

  keep_rel : (o : Option ℕ) (b b' : Block) → BRel R b b → BRel R b b' → BRel R b (keep_recorded o b b')
  keep_rel (Some n) b b' p q = p
  keep_rel None b b' p q = q

  left : (xs ys : List ℕ) → Agree R (xs ++ ys) → Agree R xs
  left xs ys a = all_left (SameRecord R) xs ys a

  right : (xs ys : List ℕ) → Agree R (xs ++ ys) → Agree R ys
  right xs ys a = all_right (SameRecord R) xs ys a

  mutual
    op_s : (x : Stmt) → OkS M.Z x → Agree R (scopes_s x) → (r r' : Block) → BRel R r r' → BRel R (cons x r) (open_s rec M.n M.lab x r')
    op_s (instruction i) w a r r' g = cons_rel R (instruction_rel R i w) g
    op_s (scope x b) w a r r' g = cons_rel R (scope_rel R x a.0 (places x) (keep_rel (rec x) b _ (same_b R places b w.1 a.1) (op_b b w.1 a.1))) g
    op_s (pruned x b) w a r r' g = cons_rel R (pruned_rel R x (op_b b w.1 a)) g
    op_s (terminal t m) w a r r' g = op_t t m w.1 w.0 a r r' g

    op_t : (t : Term) (m : Option ReactiveLabel) → IfSome (LabelOk M.Z) m → OkT M.Z t → Agree R (scopes_t t) → (r r' : Block) → BRel R r r' → BRel R (cons (terminal t m) r) (open_t rec M.n M.lab t m r')
    op_t (break l i k) m h w a r r' g = cons_rel R (terminal_rel R m h (break_rel R m l i k w)) g
    op_t (continue l i k) m h w a r r' g = cons_rel R (terminal_rel R m h (continue_rel R m l i k w)) g
    op_t (return p i) m h w a r r' g = open_return M H rec rec' f p i m r r' w
    op_t (throw p i) m h w a r r' g = cons_rel R (terminal_rel R m h (throw_rel R m p i w)) g
    op_t (switch p cs i) m h w a r r' g = cons_rel R (terminal_rel R m h (switch_rel R m p i h w.0 (op_k cs w.1 a))) g
    op_t (do_while b v i) m h w a r r' g = cons_rel R (terminal_rel R m h (do_while_rel R m v i h w.1 (op_b b w.0 a))) g
    op_t (while v b i) m h w a r r' g = cons_rel R (terminal_rel R m h (while_rel R m v i h w.0 (op_b b w.1 a))) g
    op_t (for n v u b i) m h w a r r' g = cons_rel R (terminal_rel R m h (for_rel R m n v u i h w.0 w.1 w.2 (op_b b w.3 a))) g
    op_t (for_of n v b i s) m h w a r r' g = cons_rel R (terminal_rel R m h (for_of_rel R m n v i s h w.0 w.1 (op_b b w.2 a))) g
    op_t (for_in v b i s) m h w a r r' g = cons_rel R (terminal_rel R m h (for_in_rel R m v i s h w.0 (op_b b w.1 a))) g
    op_t (if p b c i) m h w a r r' g = cons_rel R (terminal_rel R m h (if_rel R m p i w.0 (op_b b w.1 (left (scopes_b b) (scopes_o c) a)) (op_o c w.2 (right (scopes_b b) (scopes_o c) a)))) g
    op_t (label b i) m h w a r r' g = cons_rel R (terminal_rel R m h (label_rel R m i (op_b b w a))) g
    op_t (try b p c i) m h w a r r' g = cons_rel R (terminal_rel R m h (try_rel R m p i w.1 (op_b b w.0 (left (scopes_b b) (scopes_b c) a)) (op_b c w.2 (right (scopes_b b) (scopes_b c) a)))) g

    op_k : (cs : Cases) → OkK M.Z cs → Agree R (scopes_k cs) → KRel R cs (open_k rec M.n M.lab cs)
    op_k knil w a = knil_rel R
    op_k (kcons t b cs) w a = kcons_rel R t w.0 (op_o b w.1 (left (scopes_o b) (scopes_k cs) a)) (op_k cs w.2 (right (scopes_o b) (scopes_k cs) a))

    op_o : (b : OptBlock) → OkO M.Z b → Agree R (scopes_o b) → ORel R b (open_o rec M.n M.lab b)
    op_o no_block w a = no_rel R
    op_o (some_block b) w a = some_rel R (op_b b w a)

    op_b : (b : Block) → OkB M.Z b → Agree R (scopes_b b) → BRel R b (open_b rec M.n M.lab b)
    op_b nil w a = nil_rel R
    op_b (cons x b) w a = op_s x w.0 (left (scopes_s x) (scopes_b b) a) b (open_b rec M.n M.lab b) (op_b b w.1 (right (scopes_s x) (scopes_b b) a))

-- ---- the outermost scopes
unrecorded : (o p : Option ℕ) (span : ℕ) → unless_recorded o p ≡ Some span → o ≡ None
unrecorded None p span e = refl
unrecorded (Some n) p span e = let z : ◌≡◌ {A = ℕ} 0 1 = cc in absurd (omega arith)

all_has : (P : ℕ → Type 0) (xs : List ℕ) → ((y : ℕ) → has y xs ≡ true → P y) → All P xs
all_has P [] f = tt
all_has P (x ∷ xs) f = (f x (rw (eq-eqb x x refl)), all_has P xs (λ y h. f y (has_right y (x ∷ []) xs h)))

-- rec, rec': the records before and after. long, top: how many identifiers and labels there are in the end
module _ {S : Type 0} (H : Meaning S) (rec rec' : ℕ → Option ℕ) (f : ℕ) (Z : Sizes) (places : (x : ℕ) → Below Z.identifiers (rec x)) (long top : ℕ) (room : Z.blocks ≤ top) where
  abbrev T : Runs S
  T = record { setting = outside Z long top room; host = H; first = rec; second = rec'; bound = f }

  -- e: before a part with the scopes xs. d: after it. Of these scopes the first records are those of e, the last those of d
  pub record Fits (xs : List ℕ) (e d : Env) : Type 0 where
    pub once : Distinct xs
    pub many : length e.scopes ≡ Z.scopes
    pub ids_low : Z.identifiers ≤ ids e
    pub blocks_low : Z.blocks ≤ blocks e
    pub ids_high : ids d ≤ long
    pub blocks_high : blocks d ≤ top
    pub old : (y : ℕ) → has y xs ≡ true → rec y ≡ records_of e.scopes y
    pub new : (y : ℕ) → has y xs ≡ true → records_of d.scopes y ≡ rec' y

  abbrev Frames : List ℕ → Env → Env → Type 0
  Frames xs e d = (y : ℕ) → has y xs ≡ false → records_of d.scopes y ≡ records_of e.scopes y

  -- the first of two parts, and the second
  former : (xs ys : List ℕ) (e d c : Env) → Fits (xs ++ ys) e c → Grown d c → Frames ys d c → Fits xs e d
  former xs ys e d c k g v = record {
    once = distinct_left xs ys k.once;
    many = k.many;
    ids_low = k.ids_low;
    blocks_low = k.blocks_low;
    ids_high = omega (arith, k.ids_high, g.more_ids);
    blocks_high = omega (arith, k.blocks_high, g.more_blocks);
    old = λ y h. k.old y (has_left y xs ys h);
    new = λ y h. sym (v y (apart_back xs ys k.once y h)) ∙ k.new y (has_left y xs ys h);
  }

  latter : (xs ys : List ℕ) (e d c : Env) → Fits (xs ++ ys) e c → Grown e d → Frames xs e d → Fits ys d c
  latter xs ys e d c k g v = record {
    once = distinct_right xs ys k.once;
    many = g.same_scopes ∙ k.many;
    ids_low = omega (arith, k.ids_low, g.more_ids);
    blocks_low = omega (arith, k.blocks_low, g.more_blocks);
    ids_high = k.ids_high;
    blocks_high = k.blocks_high;
    old = λ y h. k.old y (has_right y xs ys h) ∙ sym (v y (apart xs ys k.once y h));
    new = λ y h. k.new y (has_right y xs ys h);
  }

  abbrev numbers : (x span : ℕ) (b : Block) (e : Env) → Fits (x ∷ scopes_b b) e (after_scope (Some span) x e) → Numbers
  numbers x span b e k = record {
    Z = Z;
    long = long;
    n = ids e;
    lab = blocks e;
    top = top;
    above = k.ids_low;
    room = omega (arith, k.ids_high, five_more e x span);
    labels = k.blocks_low;
    labels_top = omega (arith, k.blocks_high);
    labels_room = room;
  }

  -- a scope inside has the record it had: it is another one
  inner_agree : (x span : ℕ) (b : Block) (e : Env) → Fits (x ∷ scopes_b b) e (after_scope (Some span) x e) → (y : ℕ) → has y (scopes_b b) ≡ true → rec y ≡ rec' y
  inner_agree x span b e k y h =
      let i : has y (x ∷ scopes_b b) ≡ true = has_right y (x ∷ []) (scopes_b b) h in
      k.old y i ∙ sym (record_other e.scopes x y x _ (λ q. not_both (sym (rw q at h) ∙ k.once.0))) ∙ k.new y i

  out_scope : (o : Option ℕ) (x : ℕ) (b : Block) (e : Env) → unless_recorded (rec x) (first_b rec b) ≡ o → OkS Z (scope x b) → Fits (x ∷ scopes_b b) e (after_scope o x e) → SRel T (scope x b) (low_scope rec o x b e)
  out_scope None x b e q w k = same_s T places (scope x b) w (all_has (SameRecord T) (x ∷ scopes_b b) (λ y h. k.old y h ∙ k.new y h))
  out_scope (Some span) x b e q w k =
      lowered_scope (numbers x span b e k) H rec rec' f x span b _ (unrecorded (rec x) (first_b rec b) span q)
      (sym (k.new x (rw (eq-eqb x x refl))) ∙ record_same e.scopes x x _ (rw k.many w.0))
      (op_b (numbers x span b e k) H rec rec' f places b w.1 (all_has _ (scopes_b b) (inner_agree x span b e k)))

  mutual
    out_s : (x : Stmt) (e : Env) → OkS Z x → Fits (scopes_s x) e (after_s rec x e) → SRel T x (low_s rec x e)
    out_s (instruction i) e w k = instruction_rel T i w
    out_s (scope x b) e w k = out_scope (unless_recorded (rec x) (first_b rec b)) x b e refl w k
    out_s (pruned x b) e w k = pruned_rel T x (out_b b e w.1 k)
    out_s (terminal t m) e w k = terminal_rel T m w.1 (out_t t m e w.1 w.0 k)

    out_t : (t : Term) (m : Option ReactiveLabel) (e : Env) → IfSome (LabelOk Z) m → OkT Z t → Fits (scopes_t t) e (after_t rec t e) → TRel T m t (low_t rec t e)
    out_t (break l i j) m e h w k = break_rel T m l i j w
    out_t (continue l i j) m e h w k = continue_rel T m l i j w
    out_t (return p i) m e h w k = return_rel T m p i w
    out_t (throw p i) m e h w k = throw_rel T m p i w
    out_t (switch p cs i) m e h w k = switch_rel T m p i h w.0 (out_k cs e w.1 k)
    out_t (do_while b v i) m e h w k = do_while_rel T m v i h w.1 (out_b b e w.0 k)
    out_t (while v b i) m e h w k = while_rel T m v i h w.0 (out_b b e w.1 k)
    out_t (for n v u b i) m e h w k = for_rel T m n v u i h w.0 w.1 w.2 (out_b b e w.3 k)
    out_t (for_of n v b i s) m e h w k = for_of_rel T m n v i s h w.0 w.1 (out_b b e w.2 k)
    out_t (for_in v b i s) m e h w k = for_in_rel T m v i s h w.0 (out_b b e w.1 k)
    out_t (if p b c i) m e h w k = if_rel T m p i w.0
        (out_b b e w.1 (former (scopes_b b) (scopes_o c) e _ _ k (grow_o rec Z c _ w.2) (frame_o rec c _)))
        (out_o c _ w.2 (latter (scopes_b b) (scopes_o c) e _ _ k (grow_b rec Z b e w.1) (frame_b rec b e)))
    out_t (label b i) m e h w k = label_rel T m i (out_b b e w k)
    out_t (try b p c i) m e h w k = try_rel T m p i w.1
        (out_b b e w.0 (former (scopes_b b) (scopes_b c) e _ _ k (grow_b rec Z c _ w.2) (frame_b rec c _)))
        (out_b c _ w.2 (latter (scopes_b b) (scopes_b c) e _ _ k (grow_b rec Z b e w.0) (frame_b rec b e)))

    out_k : (cs : Cases) (e : Env) → OkK Z cs → Fits (scopes_k cs) e (after_k rec cs e) → KRel T cs (low_k rec cs e)
    out_k knil e w k = knil_rel T
    out_k (kcons t b cs) e w k = kcons_rel T t w.0
        (out_o b e w.1 (former (scopes_o b) (scopes_k cs) e _ _ k (grow_k rec Z cs _ w.2) (frame_k rec cs _)))
        (out_k cs _ w.2 (latter (scopes_o b) (scopes_k cs) e _ _ k (grow_o rec Z b e w.1) (frame_o rec b e)))

    out_o : (b : OptBlock) (e : Env) → OkO Z b → Fits (scopes_o b) e (after_o rec b e) → ORel T b (low_o rec b e)
    out_o no_block e w k = no_rel T
    out_o (some_block b) e w k = some_rel T (out_b b e w k)

    pub out_b : (b : Block) (e : Env) → OkB Z b → Fits (scopes_b b) e (after_b rec b e) → BRel T b (low_b rec b e)
    out_b nil e w k = nil_rel T
    out_b (cons x b) e w k = cons_rel T
        (out_s x e w.0 (former (scopes_s x) (scopes_b b) e _ _ k (grow_b rec Z b _ w.1) (frame_b rec b _)))
        (out_b b _ w.1 (latter (scopes_s x) (scopes_b b) e _ _ k (grow_s rec Z x e w.0) (frame_s rec x e)))
