-- A test with a yes is the fact that it tests: numbers below a bound, and as many places as a kind asks.
-- No failing line means that each line passes.
use Rattle.std.proofs.Common.{◌≡◌, ℕ, suc, ◌<◌, Bool, true, false, cond, ◌&&◌, ◌||◌, eqb, ltb, List, [], ◌∷◌, ◌++◌, length, Some, None, Option, refl, arith, ltb-true, eqb-true}
use Rattle.std.specs.List.{list_all}
use Rattle.hir.specs.declared.place.Place.{Place}
use Rattle.hir.specs.declared.environment.Identifier.{Identifier}
use Rattle.hir.specs.declared.environment.ReactiveScopeEarlyReturn.{ReactiveScopeEarlyReturn}
use Rattle.hir.specs.declared.environment.ReactiveScopeDeclaration.{ReactiveScopeDeclaration}
use Rattle.hir.specs.Tree.{Op, ScopeInfo}
use Rattle.semantics.specs.Exec.{within_list}
use Rattle.simulation.specs.WellFormed.{All, IfSome, Sizes, writes, reads, IdentifierOk, RecordOk, DeclarationOk, ScopeOk, PlaceOk, OpOk}
use Rattle.questions.specs.declared.line.Bounds.{Bounds}
use Rattle.questions.specs.declared.line.Line.{Line}
use Rattle.questions.specs.Questions.{place_in, opt_place_in, ops_in, among, writes_well, reads_well, in_shape, opt_below, identifier_in, early_in, declaration_in, scope_in, unrecorded, failing, table_fault}

pub both : (a b : Bool) → (a && b) ≡ true → (a ≡ true) × (b ≡ true)
both true b e = (refl, e)
both false b e = let z : ◌≡◌ {A = ℕ} 0 1 = cc in absurd (omega arith)

pub append_empty : (xs ys : List ℕ) → xs ++ ys ≡ [] → (xs ≡ []) × (ys ≡ [])
append_empty [] ys e = (refl, e)
append_empty (x ∷ xs) ys e = let z : ◌≡◌ {A = ℕ} 0 1 = cc in absurd (omega arith)

pub no_fault : (b : Bool) → table_fault b ≡ [] → b ≡ true
no_fault true e = refl
no_fault false e = let z : ◌≡◌ {A = ℕ} 0 1 = cc in absurd (omega arith)

-- each line passes
pub passing : (test : Line → Bool) (n : ℕ) (ls : List Line) → failing test n ls ≡ [] → All (λ l. test l ≡ true) ls
passing test n [] e = tt
passing test n (l ∷ ls) e = go (test l) refl e (λ e. passing test (suc n) ls e)
  where
    go : (b : Bool) → test l ≡ b → cond b (failing test (suc n) ls) (n ∷ failing test (suc n) ls) ≡ [] → (failing test (suc n) ls ≡ [] → All (λ l. test l ≡ true) ls) → All (λ l. test l ≡ true) (l ∷ ls)
    go true q e f = (q, f e)
    go false q e f = let z : ◌≡◌ {A = ℕ} 0 1 = cc in absurd (omega arith)

-- ---- numbers
pub below : (x n : ℕ) → ltb x n ≡ true → x < n
below x n e = let z = ltb-true x n e in omega arith

-- the bounds of the questions
abbrev pub bounds : Sizes → Bounds
bounds Z = record { identifiers = Z.identifiers; scopes = Z.scopes; blocks = Z.blocks; types = Z.types; ranges = Z.ranges }

pub each : {X : Type 0} (test : X → Bool) (P : X → Type 0) → ((x : X) → test x ≡ true → P x) → (xs : List X) → list_all test xs ≡ true → All P xs
each test P f [] e = tt
each test P f (x ∷ xs) e = let p = both (test x) (list_all test xs) e in (f x p.0, each test P f xs p.1)

places : (Z : Sizes) (ps : List Place) → list_all (place_in (bounds Z)) ps ≡ true → All (PlaceOk Z) ps
places Z ps e = each (place_in (bounds Z)) (PlaceOk Z) (λ p h. below _ _ h) ps e

pub target : (Z : Sizes) (o : Option Place) → opt_place_in (bounds Z) o ≡ true → IfSome (PlaceOk Z) o
target Z None e = tt
target Z (Some p) e = below _ _ e

option_in : (o : Option ℕ) (n : ℕ) → opt_below o n ≡ true → IfSome (λ x. x < n) o
option_in None n e = tt
option_in (Some x) n e = below x n e

-- ---- as many places as a kind asks
within_among : (k : ℕ) (ns : List ℕ) → within_list k ns ≡ among k ns
within_among k [] = refl
within_among k (n ∷ ns) = go (eqb k n) (within_among k ns)
  where
    go : (b : Bool) → within_list k ns ≡ among k ns → elim b [ true ↦ true | false ↦ within_list k ns ] ≡ (b || among k ns)
    go true e = refl
    go false e = e

writes_many : (k n : ℕ) → writes_well k n ≡ true → IfSome (λ m. n ≡ m) (writes k)
unfolding writes
writes_many k n e = rw (within_among k (2 ∷ 3 ∷ 4 ∷ 5 ∷ 37 ∷ 38 ∷ [])) (go (among k (2 ∷ 3 ∷ 4 ∷ 5 ∷ 37 ∷ 38 ∷ [])) (eqb k 6) e)
  where
    go : (a b : Bool) → cond a (eqb n 1) (cond b true (eqb n 0)) ≡ true → IfSome (λ m. n ≡ m) (cond a (Some 1) (cond b None (Some 0)))
    go true b e = eqb-true n 1 e
    go false true e = tt
    go false false e = eqb-true n 0 e

reads_many : (k n : ℕ) → reads_well k n ≡ true → IfSome (λ m. n ≡ m) (reads k)
unfolding reads
reads_many k n e =
    rw (within_among k (0 ∷ 1 ∷ 4 ∷ 37 ∷ 38 ∷ []), within_among k (2 ∷ 3 ∷ [])) (go (among k (0 ∷ 1 ∷ 4 ∷ 37 ∷ 38 ∷ [])) (eqb k 5) (among k (2 ∷ 3 ∷ [])) e)
  where
    go : (a b c : Bool) → cond a (eqb n 1) (cond b (eqb n 2) (cond c (eqb n 0) true)) ≡ true → IfSome (λ m. n ≡ m) (cond a (Some 1) (cond b (Some 2) (cond c (Some 0) None)))
    go true b c e = eqb-true n 1 e
    go false true c e = eqb-true n 2 e
    go false false true e = eqb-true n 0 e
    go false false false e = tt

pub operations : (Z : Sizes) (os : List Op) → ops_in (bounds Z) os ≡ true → in_shape os ≡ true → All (OpOk Z) os
operations Z [] e d = tt
operations Z (o ∷ os) e d =
    let p = both (list_all (place_in (bounds Z)) o.written && list_all (place_in (bounds Z)) o.operands) _ e in
    let q = both (list_all (place_in (bounds Z)) o.written) _ p.0 in
    let r = both (writes_well o.kind (length o.written) && reads_well o.kind (length o.operands)) _ d in
    let s = both (writes_well o.kind (length o.written)) _ r.0 in (
      record { written_in = places Z o.written q.0; operands_in = places Z o.operands q.1; written_many = writes_many o.kind _ s.0; operands_many = reads_many o.kind _ s.1 },
      operations Z os p.1 r.1,
    )

-- ---- the tables
pub identifier : (Z : Sizes) (i : Identifier) → identifier_in (bounds Z) i ≡ true → IdentifierOk Z i
identifier Z i e =
    let p = both (ltb i.declaration Z.identifiers) _ e in
    let q = both (ltb i.range Z.ranges) _ p.1 in
    let r = both (opt_below i.scope Z.scopes) _ q.1 in
    record { declaration_in = below _ _ p.0; range_in = below _ _ q.0; scope_in = option_in i.scope Z.scopes r.0; type_in = below _ _ r.1 }

early : (Z : Sizes) (o : Option ReactiveScopeEarlyReturn) → early_in (bounds Z) o ≡ true → IfSome (RecordOk Z) o
early Z None e = tt
early Z (Some r) e = let p = both (ltb r.value Z.identifiers) _ e in record { value_in = below _ _ p.0; label_in = below _ _ p.1 }

declaration : (Z : Sizes) (d : ReactiveScopeDeclaration) → declaration_in (bounds Z) d ≡ true → DeclarationOk Z d
declaration Z d e =
    let p = both (ltb d.key Z.identifiers) _ e in
    let q = both (ltb d.identifier Z.identifiers) _ p.1 in
    record { key_in = below _ _ p.0; identifier_in = below _ _ q.0; scope_in = below _ _ q.1 }

pub scope_of : (Z : Sizes) (s : ScopeInfo) → scope_in (bounds Z) s ≡ true → ScopeOk Z s
scope_of Z s e =
    let p = both (early_in (bounds Z) s.early) _ e in
    record { record_in = early Z s.early p.0; declarations_in = each (declaration_in (bounds Z)) (DeclarationOk Z) (declaration Z) s.declarations p.1 }

pub no_record : (o : Option ReactiveScopeEarlyReturn) → unrecorded o ≡ true → o ≡ None
no_record None e = refl
no_record (Some r) e = let z : ◌≡◌ {A = ℕ} 0 1 = cc in absurd (omega arith)
