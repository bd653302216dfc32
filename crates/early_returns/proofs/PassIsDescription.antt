-- The pass as it is published gives what lowering is described to give.
-- Inside a scope the walk opens returns, its state a function of the first of them; outside it lowers scope by scope.
use Rattle.std.proofs.Common.{◌≡◌, ℕ, true, false, List, [], ◌∷◌, ◌++◌, Some, None, Option, refl, ap, ◌∙◌, arith, eq-eqb}
use Rattle.hir.specs.declared.terminal.ReactiveLabel.{ReactiveLabel}
use Rattle.hir.specs.Tree.{Stmt, instruction, scope, pruned, terminal, Term, break, continue, return, throw, switch, do_while, while, for, for_of, for_in, if, label, try, Cases, knil, kcons, OptBlock, no_block, some_block, Block, nil, cons, Function}
use Rattle.semantics.specs.Exec.{records_of}
use Rattle.semantics.specs.Targets.{has}
use Rattle.simulation.specs.WellFormed.{scopes_s, scopes_t, scopes_k, scopes_o, scopes_b, Distinct, WellFormed}
use Rattle.early_returns.specs.Lowering.{Env, start, ids, blocks, or_else, unless_recorded, keep_recorded, first_s, first_t, first_k, first_o, first_b, open_s, open_t, open_k, open_o, open_b, low_scope, after_scope, after_s, after_t, after_k, after_o, after_b, low_s, low_t, low_k, low_o, low_b, lowered}
use Rattle.early_returns.specs.Pass.{EarlyReturnInfo, State, early_return, leave_scope, exit_early, append, walk_s, walk_t, walk_k, walk_o, walk_b, propagate_early_returns}
use Rattle.early_returns.proofs.Environment.{apply_five}
use Rattle.simulation.proofs.Lists.{distinct_left, distinct_right}
use Rattle.early_returns.proofs.Frame.{has_left, has_right, apart, frame_s, frame_b, frame_o}

-- ---- the state after a part inside a scope, by the span of its first open return
abbrev early_after : Option ℕ → Option EarlyReturnInfo → Env → Option EarlyReturnInfo
early_after None i e = i
early_after (Some span) i e = Some (early_return i span e).0

abbrev env_after : Option ℕ → Option EarlyReturnInfo → Env → Env
env_after None i e = e
env_after (Some span) i e = (early_return i span e).1

abbrev within : Option ℕ → Option EarlyReturnInfo → Env → State
within h i e = record { within_reactive_scope = true; early_return_value = early_after h i e; env = env_after h i e }

-- the identifier and the label that the next open return gets
abbrev value_of : Option EarlyReturnInfo → Env → ℕ
value_of None e = ids e
value_of (Some i) e = i.value

abbrev label_of : Option EarlyReturnInfo → Env → ℕ
label_of None e = blocks e
label_of (Some i) e = i.label

same_value : (h : Option ℕ) (i : Option EarlyReturnInfo) (e : Env) → value_of (early_after h i e) (env_after h i e) ≡ value_of i e
same_value None i e = refl
same_value (Some span) None e = refl
same_value (Some span) (Some i) e = refl

same_label : (h : Option ℕ) (i : Option EarlyReturnInfo) (e : Env) → label_of (early_after h i e) (env_after h i e) ≡ label_of i e
same_label None i e = refl
same_label (Some span) None e = refl
same_label (Some span) (Some i) e = refl

same_scopes : (h : Option ℕ) (i : Option EarlyReturnInfo) (e : Env) → (env_after h i e).scopes ≡ e.scopes
same_scopes None i e = refl
same_scopes (Some span) None e = refl
same_scopes (Some span) (Some i) e = refl

twice : (a b : Option ℕ) (i : Option EarlyReturnInfo) (e : Env) → within b (early_after a i e) (env_after a i e) ≡ within (or_else a b) i e
twice None b i e = refl
twice (Some a) None i e = refl
twice (Some a) (Some b) i e = refl

at_return : (i : Option EarlyReturnInfo) (span : ℕ) (e : Env) → ((early_return i span e).0.value ≡ value_of i e) × ((early_return i span e).0.label ≡ label_of i e)
at_return None span e = (refl, refl)
at_return (Some i) span e = (refl, refl)

module _ (rec : ℕ → Option ℕ) where
  -- the records of these scopes are still the first ones
  abbrev Still : List ℕ → Env → Type 0
  Still xs e = (y : ℕ) → has y xs ≡ true → records_of e.scopes y ≡ rec y

  left : (xs ys : List ℕ) (e : Env) → Still (xs ++ ys) e → Still xs e
  left xs ys e a y h = a y (has_left y xs ys h)

  right : (xs ys : List ℕ) (e : Env) → Still (xs ++ ys) e → Still ys e
  right xs ys e a y h = a y (has_right y xs ys h)

  opened : (xs : List ℕ) (h : Option ℕ) (i : Option EarlyReturnInfo) (e : Env) → Still xs e → Still xs (env_after h i e)
  opened xs h i e a y k = ap (λ ss. records_of ss y) (same_scopes h i e) ∙ a y k

  self : (x : ℕ) (xs : List ℕ) → has x (x ∷ xs) ≡ true
  self x xs = rw (eq-eqb x x refl)

  below : (x : ℕ) (xs : List ℕ) (e : Env) → Still (x ∷ xs) e → Still xs e
  below x xs e a y h = a y (has_right y (x ∷ []) xs h)

  -- ---- inside a scope
  module _ (n l : ℕ) where
    mutual
      append_open_s : (x : Stmt) (r : Block) → append (open_s rec n l x nil) r ≡ open_s rec n l x r
      append_open_s (instruction i) r = refl
      append_open_s (scope x b) r = refl
      append_open_s (pruned x b) r = refl
      append_open_s (terminal t m) r = append_open_t t m r

      append_open_t : (t : Term) (m : Option ReactiveLabel) (r : Block) → append (open_t rec n l t m nil) r ≡ open_t rec n l t m r
      append_open_t (break k i t) m r = refl
      append_open_t (continue k i t) m r = refl
      append_open_t (return p i) m r = refl
      append_open_t (throw p i) m r = refl
      append_open_t (switch p cs i) m r = refl
      append_open_t (do_while b v i) m r = refl
      append_open_t (while v b i) m r = refl
      append_open_t (for a v u b i) m r = refl
      append_open_t (for_of a v b i s) m r = refl
      append_open_t (for_in v b i s) m r = refl
      append_open_t (if p b c i) m r = refl
      append_open_t (label b i) m r = refl
      append_open_t (try b p c i) m r = refl

  at_scope : (h : Option ℕ) (i : Option EarlyReturnInfo) (e : Env) (x : ℕ) (b : Block) → leave_scope (early_after h i e) true i x b (env_after h i e) ≡ (cons (scope x b) nil, within h i e)
  at_scope None None e x b = refl
  at_scope None (Some i) e x b = refl
  at_scope (Some span) i e x b = refl

  in_scope : (o h : Option ℕ) (i : Option EarlyReturnInfo) (e : Env) (x : ℕ) (b b' : Block) (r : Block × State) → r ≡ (b', within h i e)
      → exit_early o (cons (scope x b) nil, within None i e) (leave_scope r.1.early_return_value true i x r.0 r.1.env) ≡ (cons (scope x (keep_recorded o b b')) nil, within (unless_recorded o h) i e)
  in_scope None h i e x b b' r q = rw q (at_scope h i e x b')
  in_scope (Some n) h i e x b b' r q = refl

  mutual
    in_s : (x : Stmt) (i : Option EarlyReturnInfo) (e : Env) → Still (scopes_s x) e → walk_s x (within None i e) ≡ (open_s rec (value_of i e) (label_of i e) x nil, within (first_s rec x) i e)
    in_s (instruction j) i e a = refl
    in_s (scope x b) i e a = rw (a x (self x (scopes_b b))) (in_scope (rec x) (first_b rec b) i e x b _ _ (in_b b i e (below x (scopes_b b) e a)))
    in_s (pruned x b) i e a = rw (in_b b i e a)
    in_s (terminal t m) i e a = in_t t m i e a

    in_t : (t : Term) (m : Option ReactiveLabel) (i : Option EarlyReturnInfo) (e : Env) → Still (scopes_t t) e → walk_t t m (within None i e) ≡ (open_t rec (value_of i e) (label_of i e) t m nil, within (first_t rec t) i e)
    in_t (break k j t) m i e a = refl
    in_t (continue k j t) m i e a = refl
    in_t (return p j) m i e a = rw ((at_return i p.span e).0, (at_return i p.span e).1)
    in_t (throw p j) m i e a = refl
    in_t (switch p cs j) m i e a = rw (in_k cs i e a)
    in_t (do_while b v j) m i e a = rw (in_b b i e a)
    in_t (while v b j) m i e a = rw (in_b b i e a)
    in_t (for c v u b j) m i e a = rw (in_b b i e a)
    in_t (for_of c v b j s) m i e a = rw (in_b b i e a)
    in_t (for_in v b j s) m i e a = rw (in_b b i e a)
    in_t (if p b c j) m i e a =
        let h : Option ℕ = first_b rec b in
        rw (in_b b i e (left (scopes_b b) (scopes_o c) e a), in_o c (early_after h i e) (env_after h i e) (opened (scopes_o c) h i e (right (scopes_b b) (scopes_o c) e a)), same_value h i e, same_label h i e, twice h (first_o rec c) i e)
    in_t (label b j) m i e a = rw (in_b b i e a)
    in_t (try b p c j) m i e a =
        let h : Option ℕ = first_b rec b in
        rw (in_b b i e (left (scopes_b b) (scopes_b c) e a), in_b c (early_after h i e) (env_after h i e) (opened (scopes_b c) h i e (right (scopes_b b) (scopes_b c) e a)), same_value h i e, same_label h i e, twice h (first_b rec c) i e)

    in_k : (cs : Cases) (i : Option EarlyReturnInfo) (e : Env) → Still (scopes_k cs) e → walk_k cs (within None i e) ≡ (open_k rec (value_of i e) (label_of i e) cs, within (first_k rec cs) i e)
    in_k knil i e a = refl
    in_k (kcons t b cs) i e a =
        let h : Option ℕ = first_o rec b in
        rw (in_o b i e (left (scopes_o b) (scopes_k cs) e a), in_k cs (early_after h i e) (env_after h i e) (opened (scopes_k cs) h i e (right (scopes_o b) (scopes_k cs) e a)), same_value h i e, same_label h i e, twice h (first_k rec cs) i e)

    in_o : (b : OptBlock) (i : Option EarlyReturnInfo) (e : Env) → Still (scopes_o b) e → walk_o b (within None i e) ≡ (open_o rec (value_of i e) (label_of i e) b, within (first_o rec b) i e)
    in_o no_block i e a = refl
    in_o (some_block b) i e a = rw (in_b b i e a)

    in_b : (b : Block) (i : Option EarlyReturnInfo) (e : Env) → Still (scopes_b b) e → walk_b b (within None i e) ≡ (open_b rec (value_of i e) (label_of i e) b, within (first_b rec b) i e)
    in_b nil i e a = refl
    in_b (cons x b) i e a =
        let h : Option ℕ = first_s rec x in
        rw (in_s x i e (left (scopes_s x) (scopes_b b) e a), in_b b (early_after h i e) (env_after h i e) (opened (scopes_b b) h i e (right (scopes_s x) (scopes_b b) e a)), same_value h i e, same_label h i e, twice h (first_b rec b) i e, append_open_s (value_of i e) (label_of i e) x (open_b rec (value_of i e) (label_of i e) b))

  -- ---- a part with no open return is left as it is
  or_none : (a b : Option ℕ) → or_else a b ≡ None → (a ≡ None) × (b ≡ None)
  or_none None b e = (refl, e)
  or_none (Some s) b e = let z : ◌≡◌ {A = ℕ} 0 1 = cc in absurd (omega arith)

  no_some : {A : Type 0} (s : ℕ) → ◌≡◌ {A = Option ℕ} (Some s) None → A
  no_some s e = let z : ◌≡◌ {A = ℕ} 0 1 = cc in absurd (omega arith)

  keep_same : (o h : Option ℕ) (b b' : Block) → unless_recorded o h ≡ None → (h ≡ None → b' ≡ b) → keep_recorded o b b' ≡ b
  keep_same None h b b' q f = f q
  keep_same (Some n) h b b' q f = refl

  module _ (n l : ℕ) where
    mutual
      same_s : (x : Stmt) (r : Block) → first_s rec x ≡ None → open_s rec n l x r ≡ cons x r
      same_s (instruction i) r q = refl
      same_s (scope x b) r q = rw (keep_same (rec x) (first_b rec b) b (open_b rec n l b) q (λ h. same_b b h))
      same_s (pruned x b) r q = rw (same_b b q)
      same_s (terminal t m) r q = same_t t m r q

      same_t : (t : Term) (m : Option ReactiveLabel) (r : Block) → first_t rec t ≡ None → open_t rec n l t m r ≡ cons (terminal t m) r
      same_t (break k i t) m r q = refl
      same_t (continue k i t) m r q = refl
      same_t (return p i) m r q = no_some p.span q
      same_t (throw p i) m r q = refl
      same_t (switch p cs i) m r q = rw (same_k cs q)
      same_t (do_while b v i) m r q = rw (same_b b q)
      same_t (while v b i) m r q = rw (same_b b q)
      same_t (for a v u b i) m r q = rw (same_b b q)
      same_t (for_of a v b i s) m r q = rw (same_b b q)
      same_t (for_in v b i s) m r q = rw (same_b b q)
      same_t (if p b c i) m r q = let u = or_none (first_b rec b) (first_o rec c) q in rw (same_b b u.0, same_o c u.1)
      same_t (label b i) m r q = rw (same_b b q)
      same_t (try b p c i) m r q = let u = or_none (first_b rec b) (first_b rec c) q in rw (same_b b u.0, same_b c u.1)

      same_k : (cs : Cases) → first_k rec cs ≡ None → open_k rec n l cs ≡ cs
      same_k knil q = refl
      same_k (kcons t b cs) q = let u = or_none (first_o rec b) (first_k rec cs) q in rw (same_o b u.0, same_k cs u.1)

      same_o : (b : OptBlock) → first_o rec b ≡ None → open_o rec n l b ≡ b
      same_o no_block q = refl
      same_o (some_block b) q = rw (same_b b q)

      pub same_b : (b : Block) → first_b rec b ≡ None → open_b rec n l b ≡ b
      same_b nil q = refl
      same_b (cons x b) q = let u = or_none (first_s rec x) (first_b rec b) q in rw (same_b b u.1) (same_s x b u.0)

  -- ---- outside
  abbrev out : Env → State
  out e = record { within_reactive_scope = false; early_return_value = None; env = e }

  out_found : (h : Option ℕ) (x : ℕ) (b : Block) (e : Env) → first_b rec b ≡ h
      → leave_scope (early_after h None e) false None x (open_b rec (ids e) (blocks e) b) (env_after h None e) ≡ (cons (low_scope rec h x b e) nil, out (after_scope h x e))
  out_found None x b e q = rw (same_b (ids e) (blocks e) b q)
  out_found (Some span) x b e q = ap (λ r. (cons (scope x r.0) nil, out r.1)) (apply_five x span (open_b rec (ids e) (blocks e) b) e)

  out_scope : (o : Option ℕ) (x : ℕ) (b : Block) (e : Env) (r : Block × State) → r ≡ (open_b rec (ids e) (blocks e) b, within (first_b rec b) None e)
      → exit_early o (cons (scope x b) nil, out e) (leave_scope r.1.early_return_value false None x r.0 r.1.env) ≡ (cons (low_scope rec (unless_recorded o (first_b rec b)) x b e) nil, out (after_scope (unless_recorded o (first_b rec b)) x e))
  out_scope None x b e r q = rw q (out_found (first_b rec b) x b e refl)
  out_scope (Some n) x b e r q = refl

  -- the second of two parts finds its records as they were, since it has none of the first one's scopes
  later : (xs ys : List ℕ) (e f : Env) → Distinct (xs ++ ys) → ((y : ℕ) → has y xs ≡ false → records_of f.scopes y ≡ records_of e.scopes y) → Still (xs ++ ys) e → Still ys f
  later xs ys e f d k a y h = k y (apart xs ys d y h) ∙ a y (has_right y xs ys h)

  mutual
    out_s : (x : Stmt) (e : Env) → Distinct (scopes_s x) → Still (scopes_s x) e → walk_s x (out e) ≡ (cons (low_s rec x e) nil, out (after_s rec x e))
    out_s (instruction j) e d a = refl
    out_s (scope x b) e d a = rw (a x (self x (scopes_b b))) (out_scope (rec x) x b e _ (in_b b None e (below x (scopes_b b) e a)))
    out_s (pruned x b) e d a = rw (out_b b e d a)
    out_s (terminal t m) e d a = out_t t m e d a

    out_t : (t : Term) (m : Option ReactiveLabel) (e : Env) → Distinct (scopes_t t) → Still (scopes_t t) e → walk_t t m (out e) ≡ (cons (terminal (low_t rec t e) m) nil, out (after_t rec t e))
    out_t (break k j t) m e d a = refl
    out_t (continue k j t) m e d a = refl
    out_t (return p j) m e d a = refl
    out_t (throw p j) m e d a = refl
    out_t (switch p cs j) m e d a = rw (out_k cs e d a)
    out_t (do_while b v j) m e d a = rw (out_b b e d a)
    out_t (while v b j) m e d a = rw (out_b b e d a)
    out_t (for c v u b j) m e d a = rw (out_b b e d a)
    out_t (for_of c v b j s) m e d a = rw (out_b b e d a)
    out_t (for_in v b j s) m e d a = rw (out_b b e d a)
    out_t (if p b c j) m e d a =
        rw (out_b b e (distinct_left (scopes_b b) (scopes_o c) d) (left (scopes_b b) (scopes_o c) e a), out_o c (after_b rec b e) (distinct_right (scopes_b b) (scopes_o c) d) (later (scopes_b b) (scopes_o c) e (after_b rec b e) d (frame_b rec b e) a))
    out_t (label b j) m e d a = rw (out_b b e d a)
    out_t (try b p c j) m e d a =
        rw (out_b b e (distinct_left (scopes_b b) (scopes_b c) d) (left (scopes_b b) (scopes_b c) e a), out_b c (after_b rec b e) (distinct_right (scopes_b b) (scopes_b c) d) (later (scopes_b b) (scopes_b c) e (after_b rec b e) d (frame_b rec b e) a))

    out_k : (cs : Cases) (e : Env) → Distinct (scopes_k cs) → Still (scopes_k cs) e → walk_k cs (out e) ≡ (low_k rec cs e, out (after_k rec cs e))
    out_k knil e d a = refl
    out_k (kcons t b cs) e d a =
        rw (out_o b e (distinct_left (scopes_o b) (scopes_k cs) d) (left (scopes_o b) (scopes_k cs) e a), out_k cs (after_o rec b e) (distinct_right (scopes_o b) (scopes_k cs) d) (later (scopes_o b) (scopes_k cs) e (after_o rec b e) d (frame_o rec b e) a))

    out_o : (b : OptBlock) (e : Env) → Distinct (scopes_o b) → Still (scopes_o b) e → walk_o b (out e) ≡ (low_o rec b e, out (after_o rec b e))
    out_o no_block e d a = refl
    out_o (some_block b) e d a = rw (out_b b e d a)

    out_b : (b : Block) (e : Env) → Distinct (scopes_b b) → Still (scopes_b b) e → walk_b b (out e) ≡ (low_b rec b e, out (after_b rec b e))
    out_b nil e d a = refl
    out_b (cons x b) e d a =
        rw (out_s x e (distinct_left (scopes_s x) (scopes_b b) d) (left (scopes_s x) (scopes_b b) e a), out_b b (after_s rec x e) (distinct_right (scopes_s x) (scopes_b b) d) (later (scopes_s x) (scopes_b b) e (after_s rec x e) d (frame_s rec x e) a))

pub once_described : (F : Function) → Distinct (scopes_b F.body) → propagate_early_returns F ≡ lowered F
unfolding propagate_early_returns lowered
once_described F d = rw (out_b (records_of F.scopes) F.body (start F) d (λ y h. refl))

pub pass_is_description : (F : Function) → WellFormed F → propagate_early_returns F ≡ lowered F
pass_is_description F w = once_described F w.scopes_once
