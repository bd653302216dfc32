-- What each way through the reading of the tables leaves. Assumes nothing.
use Rattle.std.proofs.Common.{◌≡◌, ℕ, zero, suc, ◌+◌, ◌<◌, ◌≤◌, Bool, true, false, cond, eqb, List, [], ◌∷◌, ◌++◌, length, Ok, Err, vec_items, vec_len, Option, sym, refl, ap, ◌∙◌, ap₂, append_assoc, append-nil, add-one, arith, length-append, eq-eqb, ne_eqb}
use Rattle.hir.specs.declared.environment.Declared.{Declared}
use Rattle.hir.specs.declared.environment.Environment.{Environment}
use Rattle.hir.specs.declared.environment.Identifier.{Identifier}
use Rattle.hir.specs.declared.environment.ReactiveScope.{ReactiveScope}
use Rattle.hir.specs.declared.environment.ReactiveScopeDeclaration.{ReactiveScopeDeclaration}
use Rattle.hir.specs.declared.environment.ReactiveScopeEarlyReturn.{ReactiveScopeEarlyReturn}
use Rattle.hir.specs.declared.used.Used.{Used}
use Rattle.hir.specs.Held.{owned, scopes_from}
use Rattle.hir.specs.Limits.{Within, limits}
use Rattle.format.specs.declared.fault.FileFault.{FileFault}
use Rattle.format.specs.Parse.{Cursor, Read, onto, give, word, option, times, until_end, every, begin_scope, identifier, early_read, declaration, scope_info}
use Rattle.load.specs.Environments.{none_left, TablesRoom, IdentifiersIn, IdentifiersMid, declared, DeclarationsIn, ScopeIn, Owners, infos, ScopesIn, ScopesMid, Midway}
use Rattle.load.specs.Files.{NoneIn, IdentifiersRead, ScopesRead}
use Rattle.load.proofs.FileSteps.{whole_ok}
use Rattle.load.proofs.Lies.{none_none}
use Rattle.load.proofs.Iterate.{Repeats, many_snoc, many_stop, onto_onto}
use Rattle.load.proofs.Later.{word_later, option_later, early_later, identifier_counted, declaration_counted, scope_begun}
use Rattle.load.proofs.Shorter.{Shorter, identifier_shorter, scope_shorter}

-- ---- items until the section ends
pub mid_first : {X : Type 0} (p : Cursor → Read X) (c : Cursor) → Midway p [] c c
mid_first p c = record { left = length c.rest; enough = omega arith; same = same (until_end p (length c.rest) c.rest c) }
  where
    same : {X : Type 0} (r : Read (List X)) → r ≡ onto r (λ ys e. Ok ([] ++ ys, e))
    same (Ok q) = refl
    same (Err x) = refl

-- so many turns are enough
turned : {X : Type 0} (p : Cursor → Read X) (n : ℕ) (ws : List ℕ) (d : Cursor) → none_left ws ≡ false → length ws ≤ n → (m : ℕ) × (n ≡ suc m) × (until_end p n ws d ≡ onto (p d) (λ x e. onto (until_end p m e.rest e) (λ xs. give (x ∷ xs))))
turned p n [] d h k = absurd (let z : ◌≡◌ {A = ℕ} 0 1 = ap (λ b. cond b 0 1) h in omega arith)
turned p zero (w ∷ ws) d h k = absurd (omega arith)
turned p (suc m) (w ∷ ws) d h k = (m, refl, refl)

pub mid_next : {X : Type 0} (p : Cursor → Read X) {row : List X} {c d e : Cursor} {x : X} → Shorter 1 p → Midway p row c d → none_left d.rest ≡ false → p d ≡ Ok (x, e) → Midway p (row ++ x ∷ []) c e
mid_next p {row} {c} {d} {e} {x} short m h r =
    let t = turned p m.left d.rest d h m.enough in
    let fewer = short d (x, e) r in
    record {
      left = t.0;
      enough = omega (arith, t.1, m.enough);
      same = m.same ∙ ap (λ q. onto q (λ ys f. Ok (row ++ ys, f))) (t.2 ∙ ap (λ q. onto q (λ x e. onto (until_end p t.0 e.rest e) (λ xs. give (x ∷ xs)))) r)
          ∙ onto_onto (until_end p t.0 e.rest e) (λ xs. give (x ∷ xs)) _ ∙ shifted (until_end p t.0 e.rest e);
    }
  where
    shifted : (r : Read (List _)) → onto r (λ ys f. Ok (row ++ x ∷ ys, f)) ≡ onto r (λ ys f. Ok ((row ++ x ∷ []) ++ ys, f))
    shifted (Ok q) = ap (λ l. Ok (l, q.1)) (sym (append_assoc row (x ∷ []) q.0))
    shifted (Err z) = refl

pub mid_stop : {X : Type 0} (p : Cursor → Read X) {row : List X} {c d : Cursor} {x : FileFault} → Midway p row c d → none_left d.rest ≡ false → p d ≡ Err x → every p c ≡ Err x
mid_stop p {row} {c} {d} m h r =
    let t = turned p m.left d.rest d h m.enough in
    m.same ∙ ap (λ q. onto q (λ ys f. Ok (row ++ ys, f))) (t.2 ∙ ap (λ q. onto q (λ x e. onto (until_end p t.0 e.rest e) (λ xs. give (x ∷ xs)))) r)

ended : {X : Type 0} (p : Cursor → Read X) (n : ℕ) (ws : List ℕ) (d : Cursor) → none_left ws ≡ true → until_end p n ws d ≡ Ok ([], d)
ended p n [] d h = refl
ended p n (w ∷ ws) d h = absurd (let z : ◌≡◌ {A = ℕ} 0 1 = ap (λ b. cond b 1 0) h in omega arith)

pub mid_end : {X : Type 0} (p : Cursor → Read X) {row : List X} {c d : Cursor} → Midway p row c d → none_left d.rest ≡ true → every p c ≡ Ok (row, d)
mid_end p {row} {c} {d} m h =
    m.same ∙ ap (λ q. onto q (λ ys f. Ok (row ++ ys, f))) (ended p m.left d.rest d h) ∙ ap (λ l. Ok (l, d)) (append-nil row)

-- ---- identifiers
abbrev pub IdentifierAdded : Environment → Environment → Identifier → Type 0
IdentifierAdded a b i =
    record {
      items : vec_items b.identifiers.vec ≡ vec_items a.identifiers.vec ++ i ∷ [];
      len : vec_len b.identifiers.vec ≡ vec_len a.identifiers.vec + 1;
      scopes : b.scopes.vec ≡ a.scopes.vec;
      declarations : b.declarations.vec ≡ a.declarations.vec;
      counters : b.counters ≡ a.counters;
    }

pub none_room : {a : Environment} (u : Used) → NoneIn a → TablesRoom a u
none_room {a} u n =
    record {
      identifiers = omega (arith, a.identifiers.vec.ok.0, ap length n.identifiers);
      scopes = omega (arith, a.scopes.vec.ok.0, ap length n.scopes);
      declarations = omega (arith, a.declarations.vec.ok.0, ap length n.declarations);
    }

pub identifiers_first : {a : Environment} (c : Cursor) → TablesRoom a c.used → IdentifiersMid a a c c
identifiers_first {a} c r = record { row = []; mid = mid_first identifier c; items = sym (append-nil _); room = r; scopes = refl; declarations = refl; counters = refl }

pub identifiers_next : {a b e : Environment} {c d f : Cursor} {i : Identifier} → IdentifiersMid a b c d → none_left d.rest ≡ false → identifier d ≡ Ok (i, f) → IdentifierAdded b e i → IdentifiersMid a e c f
identifiers_next {a} {b} {e} {c} {d} {f} {i} m h r p =
    let w = identifier_counted d (i, f) r in
    record {
      row = m.row ++ i ∷ [];
      mid = mid_next identifier identifier_shorter m.mid h r;
      items = p.items ∙ ap (λ l. l ++ i ∷ []) m.items ∙ append_assoc (vec_items a.identifiers.vec) m.row (i ∷ []);
      room = record { identifiers = omega (arith, m.room.identifiers, w.identifiers, p.len); scopes = omega (arith, m.room.scopes, w.scopes, ap vec_len p.scopes); declarations = omega (arith, m.room.declarations, w.declarations, ap vec_len p.declarations) };
      scopes = p.scopes ∙ m.scopes;
      declarations = p.declarations ∙ m.declarations;
      counters = p.counters ∙ m.counters;
    }

pub identifier_room : {n : ℕ} {a b : Environment} {c d f : Cursor} {i : Identifier} → IdentifiersMid a b c d → identifier d ≡ Ok (i, f) → f.used.identifiers ≤ n → vec_len b.identifiers.vec < n
identifier_room {d = d} {f = f} {i = i} m r h = omega (arith, m.room.identifiers, (identifier_counted d (i, f) r).identifiers)

pub identifiers_in : {a b : Environment} {c d : Cursor} → IdentifiersMid a b c d → none_left d.rest ≡ true → IdentifiersIn a b c d
identifiers_in m h =
    record { row = m.row; parsed = mid_end identifier m.mid h; items = m.items; room = m.room; scopes = m.scopes; declarations = m.declarations; counters = m.counters }

pub identifiers_read : {a b : Environment} {c d : Cursor} → IdentifiersMid a b c d → none_left d.rest ≡ true → Within d.used limits → IdentifiersRead a b c d.used
identifiers_read {a} {b} {c} {d} m h w =
    record {
      row = m.row;
      parsed = whole_ok (every identifier) c (mid_end identifier m.mid h) (none_none d.rest h);
      items = m.items;
      within = w;
      room = m.room;
      counters = m.counters;
      scopes = m.scopes;
      declarations = m.declarations;
    }

-- ---- declarations
abbrev pub DeclarationAdded : Environment → Environment → Declared → Type 0
DeclarationAdded a b i =
    record {
      items : vec_items b.declarations.vec ≡ vec_items a.declarations.vec ++ i ∷ [];
      len : vec_len b.declarations.vec ≡ vec_len a.declarations.vec + 1;
      identifiers : b.identifiers.vec ≡ a.identifiers.vec;
      scopes : b.scopes.vec ≡ a.scopes.vec;
      counters : b.counters ≡ a.counters;
    }

abbrev after : List ReactiveScopeDeclaration → ReactiveScopeDeclaration → List ReactiveScopeDeclaration
after l p = l ++ p ∷ []

declarations_repeat : Repeats (times declaration) declaration ◌∷◌ after []
declarations_repeat = record { none = λ c. refl; next = λ n c. refl; last = λ x. refl; before = λ y x t. refl }

declared_after : (n : ℕ) (ds : List ReactiveScopeDeclaration) (d : ReactiveScopeDeclaration) → declared n (ds ++ d ∷ []) ≡ declared n ds ++ record { owner = n; declaration = d } ∷ []
declared_after n [] d = refl
declared_after n (e ∷ ds) d = ap (λ l. record { owner = n; declaration = e } ∷ l) (declared_after n ds d)

pub declarations_none : {o : ℕ} {a : Environment} {c : Cursor} → TablesRoom a c.used → DeclarationsIn o 0 a a c c
declarations_none r = record { row = []; parsed = refl; items = sym (append-nil _); room = r; later = omega arith; scopes = refl; identifiers = refl; counters = refl }

pub declarations_after : {o n : ℕ} {a b e : Environment} {c d f : Cursor} {x : ReactiveScopeDeclaration} → DeclarationsIn o n a b c d → declaration d ≡ Ok (x, f) → DeclarationAdded b e (record { owner = o; declaration = x }) → DeclarationsIn o (n + 1) a e c f
declarations_after {o} {n} {a} {b} {e} {c} {d} {f} {x} m r p =
    let w = declaration_counted d (x, f) r in
    record {
      row = after m.row x;
      parsed = ap (λ k. times declaration k c) (add-one n) ∙ many_snoc (times declaration) declaration ◌∷◌ after [] declarations_repeat n c (m.row, d) (x, f) m.parsed r;
      items = p.items ∙ ap (λ l. l ++ record { owner = o; declaration = x } ∷ []) m.items ∙ append_assoc (vec_items a.declarations.vec) (declared o m.row) _ ∙ ap (λ l. vec_items a.declarations.vec ++ l) (sym (declared_after o m.row x));
      room = record { identifiers = omega (arith, m.room.identifiers, w.identifiers, ap vec_len p.identifiers); scopes = omega (arith, m.room.scopes, w.scopes, ap vec_len p.scopes); declarations = omega (arith, m.room.declarations, w.declarations, p.len) };
      later = omega (arith, m.later, w.scopes);
      scopes = p.scopes ∙ m.scopes;
      identifiers = p.identifiers ∙ m.identifiers;
      counters = p.counters ∙ m.counters;
    }

pub declarations_stop : {o n k : ℕ} {a b : Environment} {c d : Cursor} {x : FileFault} → n < k → DeclarationsIn o n a b c d → declaration d ≡ Err x → times declaration k c ≡ Err x
declarations_stop {o} {n} {k} {c = c} {d = d} {x = x} h m e = many_stop (times declaration) declaration ◌∷◌ after [] declarations_repeat n k c (m.row, d) x h m.parsed e

pub declaration_room : {o n k : ℕ} {a b : Environment} {c d f : Cursor} {x : ReactiveScopeDeclaration} → DeclarationsIn o n a b c d → declaration d ≡ Ok (x, f) → f.used.declarations ≤ k → vec_len b.declarations.vec < k
declaration_room {d = d} {f = f} {x = x} m r h = omega (arith, m.room.declarations, (declaration_counted d (x, f) r).declarations)

-- ---- a scope
abbrev pub ScopeAdded : Environment → Environment → ReactiveScope → Type 0
ScopeAdded a b i =
    record {
      items : vec_items b.scopes.vec ≡ vec_items a.scopes.vec ++ i ∷ [];
      len : vec_len b.scopes.vec ≡ vec_len a.scopes.vec + 1;
      identifiers : b.identifiers.vec ≡ a.identifiers.vec;
      declarations : b.declarations.vec ≡ a.declarations.vec;
      counters : b.counters ≡ a.counters;
    }

pub begun_room : {a : Environment} (c c₁ c₂ : Cursor) {c₃ : Cursor} {y : Option ReactiveScopeEarlyReturn} {n : ℕ} → TablesRoom a c.used → begin_scope c ≡ Ok (tt, c₁) → option early_read c₁ ≡ Ok (y, c₂) → word c₂ ≡ Ok (n, c₃) → TablesRoom a c₃.used × (c.used.scopes + 1 ≤ c₃.used.scopes)
begun_room c c₁ c₂ {c₃} {y} {n} r h j k =
    let u = scope_begun c (tt, c₁) h in
    let v = option_later early_read early_later c₁ (y, c₂) j in
    let w = word_later c₂ (n, c₃) k in (
      record { identifiers = omega (arith, r.identifiers, u.identifiers, v.identifiers, w.identifiers); scopes = omega (arith, r.scopes, u.scopes, v.scopes, w.scopes); declarations = omega (arith, r.declarations, u.declarations, v.declarations, w.declarations) },
      omega (arith, u.scopes, v.scopes, w.scopes),
    )

pub scope_in : {n o : ℕ} {a b e : Environment} {c c₁ c₂ c₃ c₄ : Cursor} {y : Option ReactiveScopeEarlyReturn} → TablesRoom a c.used → begin_scope c ≡ Ok (tt, c₁) → option early_read c₁ ≡ Ok (y, c₂) → word c₂ ≡ Ok (n, c₃) → o ≡ vec_len a.scopes.vec → DeclarationsIn o n a b c₃ c₄ → ScopeAdded b e (record { early = y }) → ScopeIn a e c c₄
unfolding scope_info
scope_in {n} {o} {a} {b} {e} {c} {c₁} {c₂} {c₃} {c₄} {y} r h j k q m p =
    let s = (begun_room {a = a} c c₁ c₂ r h j k).1 in
    record {
      info = record { early = y; declarations = m.row };
      parsed = rw (h, j, k, m.parsed) refl;
      scopes = p.items ∙ ap (λ l. l ++ record { early = y } ∷ []) (ap vec_items m.scopes);
      declarations = ap vec_items p.declarations ∙ m.items ∙ ap (λ x. vec_items a.declarations.vec ++ declared x m.row) q;
      room = record { identifiers = omega (arith, m.room.identifiers, ap vec_len p.identifiers); scopes = omega (arith, r.scopes, s, m.later, p.len, ap vec_len m.scopes); declarations = omega (arith, m.room.declarations, ap vec_len p.declarations) };
      identifiers = p.identifiers ∙ m.identifiers;
      counters = p.counters ∙ m.counters;
    }

-- ---- scopes, with the declarations that each owns
owned_append : (x : ℕ) (ds es : List Declared) → owned x (ds ++ es) ≡ owned x ds ++ owned x es
owned_append x [] es = refl
owned_append x (d ∷ ds) es = go (eqb d.owner x) (owned_append x ds es)
  where
    go : (b : Bool) → owned x (ds ++ es) ≡ owned x ds ++ owned x es → cond b (d.declaration ∷ owned x (ds ++ es)) (owned x (ds ++ es)) ≡ cond b (d.declaration ∷ owned x ds) (owned x ds) ++ owned x es
    go true e = ap (λ l. d.declaration ∷ l) e
    go false e = e

owned_own : (x : ℕ) (ds : List ReactiveScopeDeclaration) → owned x (declared x ds) ≡ ds
owned_own x [] = refl
owned_own x (d ∷ ds) = ap (λ b. cond b (d ∷ owned x (declared x ds)) (owned x (declared x ds))) (eq-eqb x x refl) ∙ ap (λ l. d ∷ l) (owned_own x ds)

owned_other : (x y : ℕ) (ds : List ReactiveScopeDeclaration) → y < x → owned x (declared y ds) ≡ []
owned_other x y [] h = refl
owned_other x y (d ∷ ds) h = ap (λ b. cond b (d ∷ owned x (declared y ds)) (owned x (declared y ds))) (ne_eqb y x (omega arith)) ∙ owned_other x y ds h

owned_before : (x y : ℕ) (ds : List ReactiveScopeDeclaration) → x < y → owned x (declared y ds) ≡ []
owned_before x y [] h = refl
owned_before x y (d ∷ ds) h = ap (λ b. cond b (d ∷ owned x (declared y ds)) (owned x (declared y ds))) (ne_eqb y x (omega arith)) ∙ owned_before x y ds h

-- those that are there keep their lists
from_kept : (x n : ℕ) (ss : List ReactiveScope) (ds : List Declared) (es : List ReactiveScopeDeclaration) → x + length ss ≤ n → scopes_from x ss (ds ++ declared n es) ≡ scopes_from x ss ds
from_kept x n [] ds es h = refl
from_kept x n (s ∷ ss) ds es h =
    ap₂ (λ l r. record { early = s.early; declarations = l } ∷ r)
    (owned_append x ds (declared n es) ∙ ap (λ l. owned x ds ++ l) (owned_before x n es (omega arith)) ∙ append-nil (owned x ds))
    (from_kept (suc x) n ss ds es (omega arith))

from_last : (x : ℕ) (ss : List ReactiveScope) (s : ReactiveScope) (ds : List Declared) → scopes_from x (ss ++ s ∷ []) ds ≡ scopes_from x ss ds ++ record { early = s.early; declarations = owned (x + length ss) ds } ∷ []
from_last x [] s ds = ap (λ n. record { early = s.early; declarations = owned n ds } ∷ []) (let e : x ≡ x + 0 = omega arith in e)
from_last x (t ∷ ss) s ds =
    ap (λ l. record { early = t.early; declarations = owned x ds } ∷ l) (from_last (suc x) ss s ds ∙ ap (λ n. scopes_from (suc x) ss ds ++ record { early = s.early; declarations = owned n ds } ∷ []) (let e : suc x + length ss ≡ x + suc (length ss) = omega arith in e))

more : (e b : Environment) {d f : Cursor} → ScopeIn b e d f → vec_len e.scopes.vec ≡ vec_len b.scopes.vec + 1
more e b s = omega (arith, e.scopes.vec.ok.0, b.scopes.vec.ok.0, ap length s.scopes ∙ length-append (vec_items b.scopes.vec) (record { early = s.info.early } ∷ []))

pub scopes_first : {a : Environment} (c : Cursor) → TablesRoom a c.used → Owners a → ScopesMid a a c c
scopes_first c r o = record { row = []; mid = mid_first scope_info c; stands = sym (append-nil _); owners = o; room = r; identifiers = refl; counters = refl }

pub scopes_next : {a b e : Environment} {c d f : Cursor} → ScopesMid a b c d → none_left d.rest ≡ false → ScopeIn b e d f → ScopesMid a e c f
scopes_next {a} {b} {e} {c} {d} {f} m h s =
    let n : ℕ = vec_len b.scopes.vec in
    let long : n ≡ length (vec_items b.scopes.vec) = b.scopes.vec.ok.0 in
    let i = s.info in
    let here : owned n (vec_items e.declarations.vec) ≡ i.declarations =
    ap (owned n) s.declarations ∙ owned_append n (vec_items b.declarations.vec) (declared n i.declarations) ∙ ap (λ l. l ++ owned n (declared n i.declarations)) (m.owners n (omega arith)) ∙ owned_own n i.declarations in
    let grown : infos e ≡ infos b ++ i ∷ [] =
    ap (λ l. scopes_from 0 l (vec_items e.declarations.vec)) s.scopes
    ∙ from_last 0 (vec_items b.scopes.vec) (record { early = i.early }) (vec_items e.declarations.vec)
    ∙ ap₂ (λ l r. l ++ record { early = i.early; declarations = r } ∷ [])
    (ap (scopes_from 0 (vec_items b.scopes.vec)) s.declarations ∙ from_kept 0 n (vec_items b.scopes.vec) (vec_items b.declarations.vec) i.declarations (omega (arith, long)))
    (ap (λ k. owned k (vec_items e.declarations.vec)) (let q : 0 + length (vec_items b.scopes.vec) ≡ n = omega (arith, long) in q) ∙ here) in
    record {
      row = m.row ++ i ∷ [];
      mid = mid_next scope_info scope_shorter m.mid h s.parsed;
      stands = grown ∙ ap (λ l. l ++ i ∷ []) m.stands ∙ append_assoc (infos a) m.row (i ∷ []);
      owners = λ x k.
          ap (owned x) s.declarations ∙ owned_append x (vec_items b.declarations.vec) (declared n i.declarations)
          ∙ ap₂ (λ l r. l ++ r) (m.owners x (omega (arith, more e b s))) (owned_other x n i.declarations (omega (arith, more e b s)));
      room = s.room;
      identifiers = s.identifiers ∙ m.identifiers;
      counters = s.counters ∙ m.counters;
    }

pub no_owners : (a : Environment) → vec_items a.declarations.vec ≡ [] → Owners a
no_owners a d = λ x h. ap (owned x) d

pub scopes_in : {a b : Environment} {c d : Cursor} → ScopesMid a b c d → none_left d.rest ≡ true → ScopesIn a b c d
scopes_in m h = record { row = m.row; parsed = mid_end scope_info m.mid h; stands = m.stands; owners = m.owners; room = m.room; identifiers = m.identifiers; counters = m.counters }

pub scopes_read : {a b : Environment} {c d : Cursor} → ScopesMid a b c d → none_left d.rest ≡ true → Within d.used limits → ScopesRead a b c d.used
scopes_read {a} {b} {c} {d} m h w =
    record {
      row = m.row;
      parsed = whole_ok (every scope_info) c (mid_end scope_info m.mid h) (none_none d.rest h);
      stands = m.stands;
      owners = m.owners;
      within = w;
      room = m.room;
      counters = m.counters;
      identifiers = m.identifiers;
    }
