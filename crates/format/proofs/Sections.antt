-- What the pairs and the four sections of a file that is read say of its words. Assumes nothing.
use Rattle.std.proofs.Common.{◌≡◌, ℕ, ◌+◌, ◌-◌, ◌≤◌, Bool, true, false, cond, eqb, leb, List, [], ◌∷◌, ◌++◌, length, get_or, take, drop, Ok, Err, Result, sym, refl, ap, ◌∙◌, subst, append-nil, arith, eqb-true, leb-true}
use Rattle.hir.specs.declared.environment.Counters.{Counters}
use Rattle.hir.specs.declared.environment.Identifier.{Identifier}
use Rattle.hir.specs.declared.used.Used.{Used}
use Rattle.hir.specs.Limits.{Within, limits}
use Rattle.hir.specs.Sizes.{none, plus}
use Rattle.hir.specs.Tree.{Block, ScopeInfo, Function}
use Rattle.format.specs.declared.fault.FileFault.{FileFault}
use Rattle.format.specs.declared.fault.FileFault.TheVariants.{Pairs}
use Rattle.format.specs.Parse.{Cursor, Read, identifier, scope_info, every, counters, block, and_then, to_end, section, pair, parse}
use Rattle.format.proofs.Took.{err_ok, ok_ok, Took, Comes}

pub and_then_ok : {X Y : Type 0} (r : Result X FileFault) (f : X → Result Y FileFault) (y : Y) → and_then r f ≡ Ok y → (x : X) × (r ≡ Ok x) × (f x ≡ Ok y)
and_then_ok (Ok x) f y e = (x, refl, e)
and_then_ok (Err z) f y e = absurd (err_ok e)

pub to_end_ok : {X : Type 0} (x : X) (at : ℕ) (u : Used) (vs : List ℕ) (r : X × Used) → to_end x at u vs ≡ Ok r → (vs ≡ []) × ((x, u) ≡ r)
to_end_ok x at u [] r e = (refl, ok_ok e)
to_end_ok x at u (v ∷ vs) r e = absurd (err_ok e)

-- ---- a section that is read
pub record Covers (ws : List ℕ) (from to : ℕ) (u v : Used) (vs : List ℕ) (s : Used) : Type 0 where
  pub words : take (to - from) (drop from ws) ≡ vs
  pub used : v ≡ plus u s
  pub kept : Within u limits → Within v limits

pub section_covers : {X : Type 0} (p : Cursor → Read X) (w : X → List ℕ) (s : X → Used) → ((c : Cursor) → Comes (p c) (λ x d. Took c d (w x) (s x))) → (ws : List ℕ) (from to : ℕ) (u : Used) (r : X × Used) → section p ws from to u ≡ Ok r → Covers ws from to u r.1 (w r.0) (s r.0)
section_covers {X} p w s h ws from to u r e =
    let c : Cursor = record { at = from; rest = take (to - from) (drop from ws); used = u } in
    let o = and_then_ok (p c) _ r e in
    let z = to_end_ok o.0.0 o.0.1.at o.0.1.used o.0.1.rest r o.2 in
    let t = (h c).so o.0.0 o.0.1 o.1 in
    subst (λ (q : X × Used). Covers ws from to u q.1 (w q.0) (s q.0)) z.1
    (record { words = t.rest ∙ ap (λ l. w o.0.0 ++ l) z.0 ∙ append-nil (w o.0.0); used = t.used; kept = t.kept })

-- ---- a pair that stands
pub record Stands (ws : List ℕ) (offset long from to : ℕ) : Type 0 where
  pub begins : offset ≡ from
  pub ends : to ≡ from + long
  pub within : to ≤ length ws

pub cond_true : {X : Type 0} (b : Bool) (x y : Result X FileFault) (z : X) (e : FileFault) → y ≡ Err e → cond b x y ≡ Ok z → (b ≡ true) × (x ≡ Ok z)
cond_true true x y z e h q = (refl, q)
cond_true false x y z e h q = absurd (err_ok (sym h ∙ q))

pub pair_stands : (ws : List ℕ) (at from to : ℕ) → pair ws at false from ≡ Ok to → Stands ws (get_or ws at 0) (get_or ws (at + 1) 0) from to
pair_stands ws at from to e =
    let a = cond_true (eqb (get_or ws at 0) from) _ _ to (Pairs at) refl e in
    let b = cond_true (leb (from + get_or ws (at + 1) 0) (length ws)) _ _ to (Pairs (at + 1)) refl a.1 in
    let long = leb-true _ _ b.0 in
    let same = ok_ok b.1 in
    record { begins = eqb-true _ _ a.0; ends = sym same; within = subst (λ (n : ℕ). n ≤ length ws) same long }

pub last_stands : (ws : List ℕ) (at from to : ℕ) → pair ws at true from ≡ Ok to → Stands ws (get_or ws at 0) (get_or ws (at + 1) 0) from to × (to ≡ length ws)
last_stands ws at from to e =
    let a = cond_true (eqb (get_or ws at 0) from) _ _ to (Pairs at) refl e in
    let b = cond_true (eqb (from + get_or ws (at + 1) 0) (length ws)) _ _ to (Pairs (at + 1)) refl a.1 in
    let long = eqb-true _ _ b.0 in
    let same = ok_ok b.1 in
    (record { begins = eqb-true _ _ a.0; ends = sym same; within = omega arith }, sym same ∙ long)

-- ---- the file
pub record Parsed (ws : List ℕ) (F : Function) : Type 0 where
  -- the sections' ends, and the slots taken up to there
  pub e₁ : ℕ
  pub e₂ : ℕ
  pub e₃ : ℕ
  pub e₄ : ℕ
  pub u₁ : Used
  pub u₂ : Used
  pub u₃ : Used
  pub u₄ : Used
  pub p₁ : pair ws 0 false 8 ≡ Ok e₁
  pub p₂ : pair ws 2 false e₁ ≡ Ok e₂
  pub p₃ : pair ws 4 false e₂ ≡ Ok e₃
  pub p₄ : pair ws 6 true e₃ ≡ Ok e₄
  pub s₁ : section counters ws 8 e₁ none ≡ Ok (F.counters, u₁)
  pub s₂ : section (every identifier) ws e₁ e₂ u₁ ≡ Ok (F.identifiers, u₂)
  pub s₃ : section (every scope_info) ws e₂ e₃ u₂ ≡ Ok (F.scopes, u₃)
  pub s₄ : section (block 64) ws e₃ e₄ u₃ ≡ Ok (F.body, u₄)

of_parts : (ws : List ℕ) (F : Function) (e₁ e₂ e₃ e₄ : ℕ) (c : Counters × Used) (i : List Identifier × Used) (s : List ScopeInfo × Used) (b : Block × Used) → pair ws 0 false 8 ≡ Ok e₁ → pair ws 2 false e₁ ≡ Ok e₂ → pair ws 4 false e₂ ≡ Ok e₃ → pair ws 6 true e₃ ≡ Ok e₄ → section counters ws 8 e₁ none ≡ Ok c → section (every identifier) ws e₁ e₂ c.1 ≡ Ok i → section (every scope_info) ws e₂ e₃ i.1 ≡ Ok s → section (block 64) ws e₃ e₄ s.1 ≡ Ok b → ◌≡◌ {A = Function} (record { counters = c.0; identifiers = i.0; scopes = s.0; body = b.0 }) F → Parsed ws F
of_parts ws F e₁ e₂ e₃ e₄ c i s b p₁ p₂ p₃ p₄ s₁ s₂ s₃ s₄ same =
    subst (λ (G : Function). Parsed ws G) same
    (record { e₁ = e₁; e₂ = e₂; e₃ = e₃; e₄ = e₄; u₁ = c.1; u₂ = i.1; u₃ = s.1; u₄ = b.1; p₁ = p₁; p₂ = p₂; p₃ = p₃; p₄ = p₄; s₁ = s₁; s₂ = s₂; s₃ = s₃; s₄ = s₄ })

and_then_elim : {X Y G : Type 0} (r : Result X FileFault) (f : X → Result Y FileFault) (y : Y) → and_then r f ≡ Ok y → ((x : X) → r ≡ Ok x → f x ≡ Ok y → G) → G
and_then_elim r f y e k = let a = and_then_ok r f y e in k a.0 a.1 a.2

pub parse_parsed : (ws : List ℕ) (F : Function) → parse ws ≡ Ok F → Parsed ws F
unfolding parse
parse_parsed ws F e =
    and_then_elim (pair ws 0 false 8) _ F e (λ e₁ p₁ e. and_then_elim (pair ws 2 false e₁) _ F e (λ e₂ p₂ e. and_then_elim (pair ws 4 false e₂) _ F e (λ e₃ p₃ e. and_then_elim (pair ws 6 true e₃) _ F e (λ e₄ p₄ e.
    and_then_elim (section counters ws 8 e₁ none) _ F e (λ c s₁ e. and_then_elim (section (every identifier) ws e₁ e₂ c.1) _ F e (λ i s₂ e. and_then_elim (section (every scope_info) ws e₂ e₃ i.1) _ F e (λ s s₃ e. and_then_elim (section (block 64) ws e₃ e₄ s.1) _ F e (λ b s₄ e.
    of_parts ws F e₁ e₂ e₃ e₄ c i s b p₁ p₂ p₃ p₄ s₁ s₂ s₃ s₄ (ok_ok e)))))))))
