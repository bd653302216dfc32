-- A pruned function is well-formed: its places and labels are those it had, and its jumps still have their targets.
-- The label that goes is no target, so the jumps inside do without it.
use Rattle.std.proofs.Common.{◌≡◌, ℕ, Bool, true, false, cond, ◌||◌, eqb, List, [], ◌∷◌, ◌++◌, Some, None, Option, sym, refl, ap, ◌∙◌, eqb-true}
use Rattle.hir.specs.declared.terminal.ReactiveLabel.{ReactiveLabel}
use Rattle.hir.specs.declared.terminal.ReactiveTerminalTargetKind.{ReactiveTerminalTargetKind}
use Rattle.hir.specs.declared.terminal.ReactiveTerminalTargetKind.TheVariants.{Implicit, Labeled, Unlabeled}
use Rattle.hir.specs.Tree.{Stmt, instruction, scope, pruned, terminal, Term, break, continue, return, throw, switch, do_while, while, for, for_of, for_in, if, label, try, Cases, knil, kcons, OptBlock, no_block, some_block, Block, nil, cons, Function}
use Rattle.semantics.specs.Exec.{has_label}
use Rattle.semantics.specs.Targets.{mark, mark_inside, Around, nowhere, has, plus, labelled, in_switch, in_loop, hits, TgS, TgT, TgK, TgO, TgB}
use Rattle.simulation.specs.WellFormed.{IfSome, Sizes, sizes, LabelOk, OkS, OkT, OkK, OkO, OkB, scopes_s, scopes_t, scopes_k, scopes_o, scopes_b, WellFormed}
use Rattle.label_pruning.specs.Pruning.{append, breaks, targets_s, targets_t, targets_k, targets_o, targets_b, targeted, unless_pruned, prune_s, prune_t, prune_k, prune_o, prune_b, prune_labels}
use Rattle.label_pruning.proofs.Passes.{not_both, or_left, or_right}

-- ---- numbers
module _ (Z : Sizes) where
  append_ok : (a b : Block) → OkB Z a → OkB Z b → OkB Z (append a b)
  append_ok nil b w v = v
  append_ok (cons x a) b w v = (w.0, append_ok a b w.1 v)

  label_ok : (o : Bool) (b : Block) (i : ℕ) (m : Option ReactiveLabel) (r : Block) → IfSome (LabelOk Z) m → OkB Z b → OkB Z r → OkB Z (unless_pruned o b i m r)
  label_ok true b i m r k w v = ((w, k), v)
  label_ok false b i m r k w v = append_ok b r w v

  mutual
    ok_s : (x : Stmt) → OkS Z x → (r : Block) → OkB Z r → OkB Z (prune_s x r)
    ok_s (instruction i) w r v = (w, v)
    ok_s (scope x b) w r v = ((w.0, ok_b b w.1), v)
    ok_s (pruned x b) w r v = ((w.0, ok_b b w.1), v)
    ok_s (terminal t m) w r v = ok_t t m w.1 w.0 r v

    ok_t : (t : Term) (m : Option ReactiveLabel) → IfSome (LabelOk Z) m → OkT Z t → (r : Block) → OkB Z r → OkB Z (prune_t t m r)
    ok_t (break l i t) m k w r v = ((w, k), v)
    ok_t (continue l i t) m k w r v = ((w, k), v)
    ok_t (return p i) m k w r v = ((w, k), v)
    ok_t (throw p i) m k w r v = ((w, k), v)
    ok_t (switch p cs i) m k w r v = (((w.0, ok_k cs w.1), k), v)
    ok_t (do_while b t i) m k w r v = (((ok_b b w.0, w.1), k), v)
    ok_t (while t b i) m k w r v = (((w.0, ok_b b w.1), k), v)
    ok_t (for a t u b i) m k w r v = (((w.0, w.1, w.2, ok_b b w.3), k), v)
    ok_t (for_of a t b i n) m k w r v = (((w.0, w.1, ok_b b w.2), k), v)
    ok_t (for_in t b i n) m k w r v = (((w.0, ok_b b w.1), k), v)
    ok_t (if p b c i) m k w r v = (((w.0, ok_b b w.1, ok_o c w.2), k), v)
    ok_t (label b i) m k w r v = label_ok (targeted (mark m) b) (prune_b b) i m r k (ok_b b w) v
    ok_t (try b p c i) m k w r v = (((ok_b b w.0, w.1, ok_b c w.2), k), v)

    ok_k : (cs : Cases) → OkK Z cs → OkK Z (prune_k cs)
    ok_k knil w = tt
    ok_k (kcons t b cs) w = (w.0, ok_o b w.1, ok_k cs w.2)

    ok_o : (b : OptBlock) → OkO Z b → OkO Z (prune_o b)
    ok_o no_block w = tt
    ok_o (some_block b) w = ok_b b w

    ok_b : (b : Block) → OkB Z b → OkB Z (prune_b b)
    ok_b nil w = tt
    ok_b (cons x b) w = ok_s x w.0 (prune_b b) (ok_b b w.1)

-- ---- scopes
append_assoc : {A : Type 0} (xs ys zs : List A) → (xs ++ ys) ++ zs ≡ xs ++ (ys ++ zs)
append_assoc [] ys zs = refl
append_assoc (x ∷ xs) ys zs = ap {B = List _} (λ r. x ∷ r) (append_assoc xs ys zs)

append_scopes : (a b : Block) → scopes_b (append a b) ≡ scopes_b a ++ scopes_b b
append_scopes nil b = refl
append_scopes (cons x a) b = ap (λ r. scopes_s x ++ r) (append_scopes a b) ∙ sym (append_assoc (scopes_s x) (scopes_b a) (scopes_b b))

label_scopes : (o : Bool) (b : Block) (i : ℕ) (m : Option ReactiveLabel) (r : Block) → scopes_b (unless_pruned o b i m r) ≡ scopes_b b ++ scopes_b r
label_scopes true b i m r = refl
label_scopes false b i m r = append_scopes b r

mutual
  same_s : (x : Stmt) (r : Block) → scopes_b (prune_s x r) ≡ scopes_s x ++ scopes_b r
  same_s (instruction i) r = refl
  same_s (scope x b) r = rw (same_b b)
  same_s (pruned x b) r = rw (same_b b)
  same_s (terminal t m) r = same_t t m r

  same_t : (t : Term) (m : Option ReactiveLabel) (r : Block) → scopes_b (prune_t t m r) ≡ scopes_t t ++ scopes_b r
  same_t (break l i k) m r = refl
  same_t (continue l i k) m r = refl
  same_t (return p i) m r = refl
  same_t (throw p i) m r = refl
  same_t (switch p cs i) m r = rw (same_k cs)
  same_t (do_while b v i) m r = rw (same_b b)
  same_t (while v b i) m r = rw (same_b b)
  same_t (for a v u b i) m r = rw (same_b b)
  same_t (for_of a v b i n) m r = rw (same_b b)
  same_t (for_in v b i n) m r = rw (same_b b)
  same_t (if p b c i) m r = rw (same_b b, same_o c)
  same_t (label b i) m r = label_scopes (targeted (mark m) b) (prune_b b) i m r ∙ ap (λ xs. xs ++ scopes_b r) (same_b b)
  same_t (try b p c i) m r = rw (same_b b, same_b c)

  same_k : (cs : Cases) → scopes_k (prune_k cs) ≡ scopes_k cs
  same_k knil = refl
  same_k (kcons t b cs) = rw (same_o b, same_k cs)

  same_o : (b : OptBlock) → scopes_o (prune_o b) ≡ scopes_o b
  same_o no_block = refl
  same_o (some_block b) = same_b b

  pub same_b : (b : Block) → scopes_b (prune_b b) ≡ scopes_b b
  same_b nil = refl
  same_b (cons x b) = same_s x (prune_b b) ∙ ap (λ xs. scopes_s x ++ xs) (same_b b)

-- ---- targets
-- a' has what a has, but perhaps not the label l (where `gone`)
module _ (l : ℕ) where
  record Less (gone : Bool) (a a' : Around) : Type 0 where
    labels_less : (k : ℕ) → has k a.labels ≡ true → (gone ≡ true → eqb k l ≡ false) → has k a'.labels ≡ true
    loops_same : a.loops ≡ a'.loops
    looped_same : a.looped ≡ a'.looped
    breaks_same : a.breaks ≡ a'.breaks

  -- what is gone is not targeted
  abbrev Unused : Bool → Bool → Type 0
  Unused gone targets = gone ≡ true → targets ≡ false

  less_switch : (gone : Bool) (a a' : Around) → Less gone a a' → Less gone (in_switch a) (in_switch a')
  less_switch gone a a' h = record { labels_less = h.labels_less; loops_same = h.loops_same; looped_same = h.looped_same; breaks_same = refl }

  less_loop : (gone : Bool) (m : Option ℕ) (a a' : Around) → Less gone a a' → Less gone (in_loop m a) (in_loop m a')
  less_loop gone m a a' h = record { labels_less = h.labels_less; loops_same = ap (λ ls. plus m ls) h.loops_same; looped_same = refl; breaks_same = refl }

  plus_has : (k : ℕ) (m : Option ℕ) (ls ls' : List ℕ) → (has k ls ≡ true → has k ls' ≡ true) → has k (plus m ls) ≡ true → has k (plus m ls') ≡ true
  plus_has k None ls ls' f e = f e
  plus_has k (Some n) ls ls' f e = go (eqb k n) e
    where
      go : (b : Bool) → (b || has k ls) ≡ true → (b || has k ls') ≡ true
      go true e = refl
      go false e = f e

  plus_self : (m : Option ℕ) (ls : List ℕ) → has_label l m ≡ true → has l (plus m ls) ≡ true
  plus_self None ls e = not_both (sym e)
  plus_self (Some n) ls e = rw e

  less_labelled : (gone : Bool) (m : Option ℕ) (a a' : Around) → Less gone a a' → Less gone (labelled m a) (labelled m a')
  less_labelled gone m a a' h = record { labels_less = λ k e q. plus_has k m a.labels a'.labels (λ e. h.labels_less k e q) e; loops_same = h.loops_same; looped_same = h.looped_same; breaks_same = h.breaks_same }

  -- a statement with the label l itself brings it back
  brought_back : (gone : Bool) (m : Option ℕ) (a a' : Around) → has_label l m ≡ true → Less gone a a' → Less false (labelled m a) (labelled m a')
  brought_back gone m a a' q h = record { labels_less = λ k e f. go k e (eqb k l) refl; loops_same = h.loops_same; looped_same = h.looped_same; breaks_same = h.breaks_same }
    where
      go : (k : ℕ) → has k (plus m a.labels) ≡ true → (b : Bool) → eqb k l ≡ b → has k (plus m a'.labels) ≡ true
      go k e true p = rw (eqb-true k l p) (plus_self m a'.labels q)
      go k e false p = plus_has k m a.labels a'.labels (λ e. h.labels_less k e (λ g. p)) e

  break_less : (gone : Bool) (k : ℕ) (t : ReactiveTerminalTargetKind) (a a' : Around) → Less gone a a' → Unused gone (breaks l k t) → hits a.breaks a.labels k t ≡ true → hits a'.breaks a'.labels k t ≡ true
  break_less gone k Implicit a a' h u e = refl
  break_less gone k Labeled a a' h u e = h.labels_less k e u
  break_less gone k Unlabeled a a' h u e = rw (← h.breaks_same) e

  continue_less : (gone : Bool) (k : ℕ) (t : ReactiveTerminalTargetKind) (a a' : Around) → Less gone a a' → hits a.looped a.loops k t ≡ true → hits a'.looped a'.loops k t ≡ true
  continue_less gone k Implicit a a' h e = refl
  continue_less gone k Labeled a a' h e = rw (← h.loops_same) e
  continue_less gone k Unlabeled a a' h e = rw (← h.looped_same) e

  inside_unused : (c gone b : Bool) → c ≡ false → Unused gone (cond c false b) → Unused gone b
  inside_unused true gone b e u = not_both e
  inside_unused false gone b e u = u

  mutual
    less_s : (x : Stmt) (gone : Bool) (a a' : Around) → Less gone a a' → Unused gone (targets_s l x) → TgS x a → TgS x a'
    less_s (instruction i) gone a a' h u t = tt
    less_s (scope x b) gone a a' h u t = less_b b gone a a' h u t
    less_s (pruned x b) gone a a' h u t = less_b b gone a a' h u t
    less_s (terminal t m) gone a a' h u g = go (has_label l (mark_inside t m)) refl (λ o h u. less_t t (mark m) o (labelled (mark_inside t m) a) (labelled (mark_inside t m) a') h u g)
      where
        go : (c : Bool) → has_label l (mark_inside t m) ≡ c → ((o : Bool) → Less o (labelled (mark_inside t m) a) (labelled (mark_inside t m) a') → Unused o (targets_t l t) → TgT t (mark m) (labelled (mark_inside t m) a')) → TgT t (mark m) (labelled (mark_inside t m) a')
        go true e f = f false (brought_back gone (mark_inside t m) a a' e h) (λ z. not_both (sym z))
        go false e f = f gone (less_labelled gone (mark_inside t m) a a' h) (inside_unused (has_label l (mark_inside t m)) gone (targets_t l t) e u)

    less_t : (t : Term) (m : Option ℕ) (gone : Bool) (a a' : Around) → Less gone a a' → Unused gone (targets_t l t) → TgT t m a → TgT t m a'
    less_t (break k i t) m gone a a' h u g = break_less gone k t a a' h u g
    less_t (continue k i t) m gone a a' h u g = continue_less gone k t a a' h g
    less_t (return p i) m gone a a' h u g = tt
    less_t (throw p i) m gone a a' h u g = tt
    less_t (switch p cs i) m gone a a' h u g = less_k cs gone (in_switch a) (in_switch a') (less_switch gone a a' h) u g
    less_t (do_while b v i) m gone a a' h u g = less_b b gone (in_loop m a) (in_loop m a') (less_loop gone m a a' h) u g
    less_t (while v b i) m gone a a' h u g = less_b b gone (in_loop m a) (in_loop m a') (less_loop gone m a a' h) u g
    less_t (for n v w b i) m gone a a' h u g = less_b b gone (in_loop m a) (in_loop m a') (less_loop gone m a a' h) u g
    less_t (for_of n v b i s) m gone a a' h u g = less_b b gone (in_loop m a) (in_loop m a') (less_loop gone m a a' h) u g
    less_t (for_in v b i s) m gone a a' h u g = less_b b gone (in_loop m a) (in_loop m a') (less_loop gone m a a' h) u g
    less_t (if p b c i) m gone a a' h u g = (less_b b gone a a' h (λ z. or_left (targets_b l b) (targets_o l c) (u z)) g.0, less_o c gone a a' h (λ z. or_right (targets_b l b) (targets_o l c) (u z)) g.1)
    less_t (label b i) m gone a a' h u g = less_b b gone a a' h u g
    less_t (try b p c i) m gone a a' h u g = (less_b b gone a a' h (λ z. or_left (targets_b l b) (targets_b l c) (u z)) g.0, less_b c gone a a' h (λ z. or_right (targets_b l b) (targets_b l c) (u z)) g.1)

    less_k : (cs : Cases) (gone : Bool) (a a' : Around) → Less gone a a' → Unused gone (targets_k l cs) → TgK cs a → TgK cs a'
    less_k knil gone a a' h u g = tt
    less_k (kcons t b cs) gone a a' h u g = (less_o b gone a a' h (λ z. or_left (targets_o l b) (targets_k l cs) (u z)) g.0, less_k cs gone a a' h (λ z. or_right (targets_o l b) (targets_k l cs) (u z)) g.1)

    less_o : (b : OptBlock) (gone : Bool) (a a' : Around) → Less gone a a' → Unused gone (targets_o l b) → TgO b a → TgO b a'
    less_o no_block gone a a' h u g = tt
    less_o (some_block b) gone a a' h u g = less_b b gone a a' h u g

    less_b : (b : Block) (gone : Bool) (a a' : Around) → Less gone a a' → Unused gone (targets_b l b) → TgB b a → TgB b a'
    less_b nil gone a a' h u g = tt
    less_b (cons x b) gone a a' h u g = (less_s x gone a a' h (λ z. or_left (targets_s l x) (targets_b l b) (u z)) g.0, less_b b gone a a' h (λ z. or_right (targets_s l x) (targets_b l b) (u z)) g.1)

  without : (k : ℕ) (ls : List ℕ) → has k (l ∷ ls) ≡ true → eqb k l ≡ false → has k ls ≡ true
  without k ls e q = let z : (false || has k ls) ≡ true = rw q at e in z

  unlabelled : (b : Block) (a : Around) → targets_b l b ≡ false → TgB b (labelled (Some l) a) → TgB b a
  unlabelled b a e g = less_b b true (labelled (Some l) a) a (record { labels_less = λ k h q. without k a.labels h (q refl); loops_same = refl; looped_same = refl; breaks_same = refl }) (λ z. e) g

drop_label : (m : Option ℕ) (b : Block) (a : Around) → targeted m b ≡ false → TgB b (labelled m a) → TgB b a
drop_label None b a e g = g
drop_label (Some l) b a e g = unlabelled l b a e g

append_lands : (a b : Block) (c : Around) → TgB a c → TgB b c → TgB (append a b) c
append_lands nil b c g h = h
append_lands (cons x a) b c g h = (g.0, append_lands a b c g.1 h)

mutual
  land_s : (x : Stmt) (a : Around) → TgS x a → (r : Block) → TgB r a → TgB (prune_s x r) a
  land_s (instruction i) a g r h = (tt, h)
  land_s (scope x b) a g r h = (land_b b a g, h)
  land_s (pruned x b) a g r h = (land_b b a g, h)
  land_s (terminal t m) a g r h = land_t t m a g r h

  land_t : (t : Term) (m : Option ReactiveLabel) (a : Around) → TgT t (mark m) (labelled (mark_inside t m) a) → (r : Block) → TgB r a → TgB (prune_t t m r) a
  land_t (break l i k) m a g r h = (g, h)
  land_t (continue l i k) m a g r h = (g, h)
  land_t (return p i) m a g r h = (tt, h)
  land_t (throw p i) m a g r h = (tt, h)
  land_t (switch p cs i) m a g r h = (land_k cs (in_switch (labelled (mark m) a)) g, h)
  land_t (do_while b v i) m a g r h = (land_b b (in_loop (mark m) (labelled (mark m) a)) g, h)
  land_t (while v b i) m a g r h = (land_b b (in_loop (mark m) (labelled (mark m) a)) g, h)
  land_t (for n v u b i) m a g r h = (land_b b (in_loop (mark m) (labelled (mark m) a)) g, h)
  land_t (for_of n v b i s) m a g r h = (land_b b (in_loop (mark m) (labelled (mark m) a)) g, h)
  land_t (for_in v b i s) m a g r h = (land_b b (in_loop (mark m) (labelled (mark m) a)) g, h)
  land_t (if p b c i) m a g r h = ((land_b b (labelled (mark m) a) g.0, land_o c (labelled (mark m) a) g.1), h)
  land_t (label b i) m a g r h = go (targeted (mark m) b) refl (λ g. land_b b a g) (land_b b (labelled (mark m) a) g)
    where
      go : (o : Bool) → targeted (mark m) b ≡ o → (TgB b a → TgB (prune_b b) a) → TgB (prune_b b) (labelled (mark m) a) → TgB (unless_pruned o (prune_b b) i m r) a
      go true e f k = (k, h)
      go false e f k = append_lands (prune_b b) r a (f (drop_label (mark m) b a e g)) h
  land_t (try b p c i) m a g r h = ((land_b b (labelled (mark m) a) g.0, land_b c (labelled (mark m) a) g.1), h)

  land_k : (cs : Cases) (a : Around) → TgK cs a → TgK (prune_k cs) a
  land_k knil a g = tt
  land_k (kcons t b cs) a g = (land_o b a g.0, land_k cs a g.1)

  land_o : (b : OptBlock) (a : Around) → TgO b a → TgO (prune_o b) a
  land_o no_block a g = tt
  land_o (some_block b) a g = land_b b a g

  land_b : (b : Block) (a : Around) → TgB b a → TgB (prune_b b) a
  land_b nil a g = tt
  land_b (cons x b) a g = land_s x a g.0 (prune_b b) (land_b b a g.1)

pub pruned_well_formed : (F : Function) → WellFormed F → WellFormed (prune_labels F)
unfolding prune_labels
pruned_well_formed F w = record {
  identifiers_ok = w.identifiers_ok;
  scopes_ok = w.scopes_ok;
  body_ok = ok_b (sizes F) F.body w.body_ok;
  jumps_land = land_b F.body nowhere w.jumps_land;
  scopes_once = rw (same_b F.body) w.scopes_once;
}
