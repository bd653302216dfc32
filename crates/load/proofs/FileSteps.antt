-- What each section of a file leaves, and the file. Assumes nothing.
use Rattle.std.proofs.Common.{◌≡◌, ℕ, ◌*◌, ◌≤◌, true, false, List, [], ◌++◌, length, is_some, Some, Ok, Err, vec_items, Result, unwrap_or, sym, refl, ap, ◌∙◌, subst, arith}
use Rattle.hir.specs.declared.arena.Arena.{Arena}
use Rattle.hir.specs.declared.environment.Environment.{Environment}
use Rattle.hir.specs.declared.environment.Counters.{Counters}
use Rattle.hir.specs.declared.environment.Identifier.{Identifier}
use Rattle.hir.specs.declared.range.Range.{Range}
use Rattle.hir.specs.declared.used.Used.{Used}
use Rattle.hir.specs.Decode.{Slots, block_of, root_of}
use Rattle.hir.specs.Held.{held, scopes_from}
use Rattle.hir.specs.Limits.{Within, limits}
use Rattle.hir.specs.Sizes.{sizes, none}
use Rattle.hir.specs.Tree.{Block, nil, ScopeInfo, Function}
use Rattle.format.specs.declared.fault.FileFault.{FileFault}
use Rattle.format.specs.Parse.{Cursor, Read, and_then, to_end, pair, section, counters, every, identifier, scope_info, block, parse}
use Rattle.format.specs.Words.{words}
use Rattle.load.specs.Environments.{infos}
use Rattle.load.specs.Files.{section_cursor, whole, CountersRead, IdentifiersRead, ScopesRead, BodyRead, NoneIn, FileIn, EndsIn}
use Rattle.load.proofs.Lies.{inside, near}
use Rattle.format.proofs.Counts.{sections_count}
use Rattle.format.proofs.Sections.{pair_stands, last_stands}

-- the root is a block at most 64 deep
pub root_is : (s : Slots) (r : Range) (t : Block) → block_of 64 s r ≡ Some t → root_of s r ≡ Some t
unfolding root_of
root_is s r t e = e

-- a section that is read to its end
pub whole_ok : {X : Type 0} (p : Cursor → Read X) (c : Cursor) {x : X} {d : Cursor} → p c ≡ Ok (x, d) → d.rest ≡ [] → whole p c ≡ Ok (x, d.used)
whole_ok p c {x} {d} e z = ap (λ r. and_then r (λ r. to_end r.0 r.1.at r.1.used r.1.rest)) e ∙ ap (to_end x d.at d.used) z

pub whole_stop : {X : Type 0} (p : Cursor → Read X) (c : Cursor) {x : FileFault} → p c ≡ Err x → whole p c ≡ Err x
whole_stop p c e = ap (λ r. and_then r (λ r. to_end r.0 r.1.at r.1.used r.1.rest)) e

-- what is read where a section begins
pub whole_at : {X : Type 0} (p : Cursor → Read X) {c d : Cursor} {x : Result (X × Used) FileFault} → c ≡ d → whole p c ≡ x → whole p d ≡ x
whole_at p e h = ap (whole p) (sym e) ∙ h

pub counters_at : {a b : Environment} {c d : Cursor} {v : Used} → c ≡ d → CountersRead a b c v → CountersRead a b d v
counters_at {a} {b} {v = v} e = subst (λ k. CountersRead a b k v) e

pub identifiers_at : {a b : Environment} {c d : Cursor} {v : Used} → c ≡ d → IdentifiersRead a b c v → IdentifiersRead a b d v
identifiers_at {a} {b} {v = v} e = subst (λ k. IdentifiersRead a b k v) e

pub scopes_at : {a b : Environment} {c d : Cursor} {v : Used} → c ≡ d → ScopesRead a b c v → ScopesRead a b d v
scopes_at {a} {b} {v = v} e = subst (λ k. ScopesRead a b k v) e

pub body_at : {a : Arena} {c d : Cursor} {r : Range} {v : Used} → c ≡ d → BodyRead a c r v → BodyRead a d r v
body_at {a} {r = r} {v = v} e = subst (λ k. BodyRead a k r v) e

-- ---- the file
chain : {X Y : Type 0} (r : Result X FileFault) (f : X → Result Y FileFault) (x : X) (y : Result Y FileFault) → r ≡ Ok x → f x ≡ y → and_then r f ≡ y
chain r f x y e h = ap (λ r. and_then r f) e ∙ h

stop : {X Y : Type 0} (r : Result X FileFault) (f : X → Result Y FileFault) (z : FileFault) → r ≡ Err z → and_then r f ≡ Err z
stop r f z e = ap (λ r. and_then r f) e

module _ (ws : List ℕ) where
  pub first_stop : {z : FileFault} → pair ws 0 false 8 ≡ Err z → parse ws ≡ Err z
  unfolding parse
  first_stop {z} p = stop (pair ws 0 false 8) _ z p

  pub second_stop : {e₁ : ℕ} {z : FileFault} → pair ws 0 false 8 ≡ Ok e₁ → pair ws 2 false e₁ ≡ Err z → parse ws ≡ Err z
  unfolding parse
  second_stop {e₁} {z} p q = chain (pair ws 0 false 8) _ e₁ _ p (stop (pair ws 2 false e₁) _ z q)

  pub third_stop : {e₁ e₂ : ℕ} {z : FileFault} → pair ws 0 false 8 ≡ Ok e₁ → pair ws 2 false e₁ ≡ Ok e₂ → pair ws 4 false e₂ ≡ Err z → parse ws ≡ Err z
  unfolding parse
  third_stop {e₁} {e₂} {z} p q r = chain (pair ws 0 false 8) _ e₁ _ p (chain (pair ws 2 false e₁) _ e₂ _ q (stop (pair ws 4 false e₂) _ z r))

  pub fourth_stop : {e₁ e₂ e₃ : ℕ} {z : FileFault} → pair ws 0 false 8 ≡ Ok e₁ → pair ws 2 false e₁ ≡ Ok e₂ → pair ws 4 false e₂ ≡ Ok e₃ → pair ws 6 true e₃ ≡ Err z → parse ws ≡ Err z
  unfolding parse
  fourth_stop {e₁} {e₂} {e₃} {z} p q r s =
      chain (pair ws 0 false 8) _ e₁ _ p (chain (pair ws 2 false e₁) _ e₂ _ q (chain (pair ws 4 false e₂) _ e₃ _ r (stop (pair ws 6 true e₃) _ z s)))

module _ {ws : List ℕ} {e₁ e₂ e₃ e₄ : ℕ} (e : EndsIn ws e₁ e₂ e₃ e₄) where
  pub counters_stop : {z : FileFault} → section counters ws 8 e₁ none ≡ Err z → parse ws ≡ Err z
  unfolding parse
  counters_stop {z} h =
      chain (pair ws 0 false 8) _ e₁ _ e.first (chain (pair ws 2 false e₁) _ e₂ _ e.second (chain (pair ws 4 false e₂) _ e₃ _ e.third (chain (pair ws 6 true e₃) _ e₄ _ e.fourth
      (stop (section counters ws 8 e₁ none) _ z h))))

  pub identifiers_stop : {c : Counters} {u : Used} {z : FileFault} → section counters ws 8 e₁ none ≡ Ok (c, u) → section (every identifier) ws e₁ e₂ u ≡ Err z → parse ws ≡ Err z
  unfolding parse
  identifiers_stop {c} {u} {z} h i =
      chain (pair ws 0 false 8) _ e₁ _ e.first (chain (pair ws 2 false e₁) _ e₂ _ e.second (chain (pair ws 4 false e₂) _ e₃ _ e.third (chain (pair ws 6 true e₃) _ e₄ _ e.fourth
      (chain (section counters ws 8 e₁ none) _ (c, u) _ h (stop (section (every identifier) ws e₁ e₂ u) _ z i)))))

  pub scopes_stop : {c : Counters} {u v : Used} {is : List Identifier} {z : FileFault} → section counters ws 8 e₁ none ≡ Ok (c, u) → section (every identifier) ws e₁ e₂ u ≡ Ok (is, v) → section (every scope_info) ws e₂ e₃ v ≡ Err z → parse ws ≡ Err z
  unfolding parse
  scopes_stop {c} {u} {v} {is} {z} h i s =
      chain (pair ws 0 false 8) _ e₁ _ e.first (chain (pair ws 2 false e₁) _ e₂ _ e.second (chain (pair ws 4 false e₂) _ e₃ _ e.third (chain (pair ws 6 true e₃) _ e₄ _ e.fourth
      (chain (section counters ws 8 e₁ none) _ (c, u) _ h (chain (section (every identifier) ws e₁ e₂ u) _ (is, v) _ i (stop (section (every scope_info) ws e₂ e₃ v) _ z s))))))

  pub body_stop : {c : Counters} {u v w : Used} {is : List Identifier} {ss : List ScopeInfo} {z : FileFault} → section counters ws 8 e₁ none ≡ Ok (c, u) → section (every identifier) ws e₁ e₂ u ≡ Ok (is, v) → section (every scope_info) ws e₂ e₃ v ≡ Ok (ss, w) → section (block 64) ws e₃ e₄ w ≡ Err z → parse ws ≡ Err z
  unfolding parse
  body_stop {c} {u} {v} {w} {is} {ss} {z} h i s b =
      chain (pair ws 0 false 8) _ e₁ _ e.first (chain (pair ws 2 false e₁) _ e₂ _ e.second (chain (pair ws 4 false e₂) _ e₃ _ e.third (chain (pair ws 6 true e₃) _ e₄ _ e.fourth
      (chain (section counters ws 8 e₁ none) _ (c, u) _ h (chain (section (every identifier) ws e₁ e₂ u) _ (is, v) _ i (chain (section (every scope_info) ws e₂ e₃ v) _ (ss, w) _ s (stop (section (block 64) ws e₃ e₄ w) _ z b)))))))

  parse_ok : {c : Counters} {u v w x : Used} {is : List Identifier} {ss : List ScopeInfo} {t : Block} → section counters ws 8 e₁ none ≡ Ok (c, u) → section (every identifier) ws e₁ e₂ u ≡ Ok (is, v) → section (every scope_info) ws e₂ e₃ v ≡ Ok (ss, w) → section (block 64) ws e₃ e₄ w ≡ Ok (t, x) → parse ws ≡ Ok (record { counters = c; identifiers = is; scopes = ss; body = t })
  unfolding parse
  parse_ok {c} {u} {v} {w} {x} {is} {ss} {t} h i s b =
      chain (pair ws 0 false 8) _ e₁ _ e.first (chain (pair ws 2 false e₁) _ e₂ _ e.second (chain (pair ws 4 false e₂) _ e₃ _ e.third (chain (pair ws 6 true e₃) _ e₄ _ e.fourth
      (chain (section counters ws 8 e₁ none) _ (c, u) _ h (chain (section (every identifier) ws e₁ e₂ u) _ (is, v) _ i (chain (section (every scope_info) ws e₂ e₃ v) _ (ss, w) _ s (chain (section (block 64) ws e₃ e₄ w) _ (t, x) _ b refl)))))))

  pub file_in : {a b f g : Environment} {m : Arena} {root : Range} {u v w x : Used} → NoneIn a → CountersRead a b (section_cursor ws 8 e₁ none) u → IdentifiersRead b f (section_cursor ws e₁ e₂ u) v → ScopesRead f g (section_cursor ws e₂ e₃ v) w → BodyRead m (section_cursor ws e₃ e₄ w) root x → FileIn g m ws root x
  unfolding held
  file_in {a} {b} {f} {g} {m} {root} {u} {v} {w} {x} n c i s t =
      let items : vec_items g.identifiers.vec ≡ i.row = ap vec_items s.identifiers ∙ i.items ∙ ap (λ l. vec_items l ++ i.row) c.identifiers ∙ ap (λ l. l ++ i.row) n.identifiers in
      let no_scopes : vec_items f.scopes.vec ≡ [] = ap vec_items (i.scopes ∙ c.scopes) ∙ n.scopes in
      let listed : infos g ≡ s.row = s.stands ∙ ap (λ l. scopes_from 0 l (vec_items f.declarations.vec) ++ s.row) no_scopes in
      let counters_are : section counters ws 8 e₁ none ≡ Ok (g.counters, u) = c.parsed ∙ ap (λ k. Ok (k, u)) (sym (s.counters ∙ i.counters)) in
      let identifiers_are : section (every identifier) ws e₁ e₂ u ≡ Ok (vec_items g.identifiers.vec, v) = i.parsed ∙ ap (λ l. Ok (l, v)) (sym items) in
      let scopes_are : section (every scope_info) ws e₂ e₃ v ≡ Ok (infos g, w) = s.parsed ∙ ap (λ l. Ok (l, w)) (sym listed) in
      let same : ◌≡◌ {A = Function} (record { counters = g.counters; identifiers = vec_items g.identifiers.vec; scopes = infos g; body = t.tree }) (held g m root) =
      ap (λ o. record { counters = g.counters; identifiers = vec_items g.identifiers.vec; scopes = infos g; body = unwrap_or o nil }) (sym t.stands) in
      let counted = sections_count ws e₁ e₂ e₃ e₄ (g.counters, u) (vec_items g.identifiers.vec, v) (infos g, w) (t.tree, x) counters_are identifiers_are scopes_are t.parsed in
      record {
        parsed = parse_ok counters_are identifiers_are scopes_are t.parsed ∙ ap Ok same;
        rooted = ap is_some t.stands;
        counted = counted.slots ∙ ap sizes same;
        within = t.within;
      }

-- tables without a slot stay so while the counters are read
pub counters_none : {a b : Environment} {c : Cursor} {v : Used} → NoneIn a → CountersRead a b c v → NoneIn b
counters_none n c = record { identifiers = ap vec_items c.identifiers ∙ n.identifiers; scopes = ap vec_items c.scopes ∙ n.scopes; declarations = ap vec_items c.declarations ∙ n.declarations }

-- what the sections need of where they lie
pub record Lie (n e₁ e₂ e₃ e₄ : ℕ) : Type 0 where
  pub first : 8 ≤ e₁
  pub second : e₁ ≤ e₂
  pub third : e₂ ≤ e₃
  pub fourth : e₃ ≤ e₄
  pub last : e₄ ≤ n

pub ends_lie : {ws : List ℕ} {e₁ e₂ e₃ e₄ : ℕ} → EndsIn ws e₁ e₂ e₃ e₄ → Lie (length ws) e₁ e₂ e₃ e₄
ends_lie {ws} {e₁} {e₂} {e₃} {e₄} e =
    let a = pair_stands ws 0 8 e₁ e.first in
    let b = pair_stands ws 2 e₁ e₂ e.second in
    let c = pair_stands ws 4 e₂ e₃ e.third in
    let d = (last_stands ws 6 e₃ e₄ e.fourth).0 in
    record { first = omega (arith, a.ends); second = omega (arith, b.ends); third = omega (arith, c.ends); fourth = omega (arith, d.ends); last = d.within }

-- what a section owes: it lies within the words, and what was counted before it is within the limits
abbrev pub Placed : List ℕ → ℕ → ℕ → Used → Type 0
Placed bs from to u = record { order : from ≤ to; inside : to * 4 ≤ length bs; near : to ≤ 16384; limited : Within u limits }

pub placed : (bs : List ℕ) (from to : ℕ) (u : Used) → from ≤ to → to ≤ length (words bs) → length bs ≤ 65536 → Within u limits → Placed bs from to u
placed bs from to u h k n w = record { order = h; inside = inside to bs k; near = near to bs k n; limited = w }

pub none_within : Within none limits
none_within = record { statements = omega arith; values = omega arith; places = omega arith; identifiers = omega arith; scopes = omega arith; declarations = omega arith; cases = omega arith }
