-- Well-formed functions: every number in its table or below its counter, places as instruction kinds ask, every jump with its target, no scope with two Scope blocks. Assumes nothing.
use Rattle.std.specs.Prelude.{◌≡◌, ℕ, ◌<◌, false, cond, List, [], ◌∷◌, ◌++◌, length, Some, None, Option, ◌==◌}
use Rattle.hir.specs.declared.place.Place.{Place}
use Rattle.hir.specs.declared.terminal.ReactiveLabel.{ReactiveLabel}
use Rattle.hir.specs.declared.environment.Identifier.{Identifier}
use Rattle.hir.specs.declared.environment.ReactiveScopeEarlyReturn.{ReactiveScopeEarlyReturn}
use Rattle.hir.specs.declared.environment.ReactiveScopeDeclaration.{ReactiveScopeDeclaration}
use Rattle.hir.specs.Tree.{Op, Val, operation, logical, conditional, sequence, optional, OptVal, no_val, some_val, Instr, instr, Instrs, inil, icons, Stmt, instruction, scope, pruned, terminal, Term, break, continue, return, throw, switch, do_while, while, for, for_of, for_in, if, label, try, Cases, knil, kcons, OptBlock, no_block, some_block, Block, nil, cons, ScopeInfo, Function}
use Rattle.semantics.specs.Exec.{within_list}
use Rattle.semantics.specs.Targets.{nowhere, has, TgB}

-- each of a list
abbrev pub All : {A : Type 0} → (A → Type 0) → List A → Type 0
All P [] = Unit {0}
All P (x ∷ xs) = P x × All P xs

-- the one, if there is one
abbrev pub IfSome : {A : Type 0} → (A → Type 0) → Option A → Type 0
IfSome P None = Unit {0}
IfSome P (Some x) = P x

-- how many places a kind writes and how many operands it has; none: any number
unfoldable pub writes : ℕ → Option ℕ
writes k = cond (within_list k (2 ∷ 3 ∷ 4 ∷ 5 ∷ 37 ∷ 38 ∷ [])) (Some 1) (cond (k == 6) None (Some 0))

unfoldable pub reads : ℕ → Option ℕ
reads k = cond (within_list k (0 ∷ 1 ∷ 4 ∷ 37 ∷ 38 ∷ [])) (Some 1) (cond (k == 5) (Some 2) (cond (within_list k (2 ∷ 3 ∷ [])) (Some 0) None))

-- what the numbers of a function are held to
pub record Sizes : Type 0 where
  pub identifiers : ℕ
  pub scopes : ℕ
  pub blocks : ℕ
  pub types : ℕ
  pub ranges : ℕ

abbrev pub sizes : Function → Sizes
sizes F = record {
  identifiers = length F.identifiers;
  scopes = length F.scopes;
  blocks = F.counters.blocks;
  types = F.counters.types;
  ranges = F.counters.ranges;
}

module _ (Z : Sizes) where
  -- ---- the tables
  pub record IdentifierOk (i : Identifier) : Type 0 where
    pub declaration_in : i.declaration < Z.identifiers
    pub range_in : i.range < Z.ranges
    pub scope_in : IfSome (λ x. x < Z.scopes) i.scope
    pub type_in : i.kind < Z.types

  pub record RecordOk (r : ReactiveScopeEarlyReturn) : Type 0 where
    pub value_in : r.value < Z.identifiers
    pub label_in : r.label < Z.blocks

  pub record DeclarationOk (d : ReactiveScopeDeclaration) : Type 0 where
    pub key_in : d.key < Z.identifiers
    pub identifier_in : d.identifier < Z.identifiers
    pub scope_in : d.scope < Z.scopes

  pub record ScopeOk (s : ScopeInfo) : Type 0 where
    pub record_in : IfSome RecordOk s.early
    pub declarations_in : All DeclarationOk s.declarations

  -- ---- the body
  abbrev pub PlaceOk : Place → Type 0
  PlaceOk p = p.identifier < Z.identifiers

  abbrev pub LabelOk : ReactiveLabel → Type 0
  LabelOk l = l.id < Z.blocks

  pub record OpOk (o : Op) : Type 0 where
    pub written_in : All PlaceOk o.written
    pub operands_in : All PlaceOk o.operands
    pub written_many : IfSome (λ n. length o.written ≡ n) (writes o.kind)
    pub operands_many : IfSome (λ n. length o.operands ≡ n) (reads o.kind)

  abbrev mutual
    pub OkV : Val → Type 0
    OkV (operation o) = OpOk o
    OkV (logical o a b) = OkV a × OkV b
    OkV (conditional c a b) = OkV c × OkV a × OkV b
    OkV (sequence is i v) = OkIs is × OkV v
    OkV (optional v o) = OkV v

    pub OkI : Instr → Type 0
    OkI (instr i l v n) = IfSome PlaceOk l × OkV v

    pub OkIs : Instrs → Type 0
    OkIs inil = Unit {0}
    OkIs (icons i is) = OkI i × OkIs is

  abbrev pub OkU : OptVal → Type 0
  OkU no_val = Unit {0}
  OkU (some_val v) = OkV v

  abbrev mutual
    pub OkS : Stmt → Type 0
    OkS (instruction i) = OkI i
    OkS (scope x b) = (x < Z.scopes) × OkB b
    OkS (pruned x b) = (x < Z.scopes) × OkB b
    OkS (terminal t m) = OkT t × IfSome LabelOk m

    pub OkT : Term → Type 0
    OkT (break l i k) = l < Z.blocks
    OkT (continue l i k) = l < Z.blocks
    OkT (return p i) = PlaceOk p
    OkT (throw p i) = PlaceOk p
    OkT (switch p cs i) = PlaceOk p × OkK cs
    OkT (do_while b v i) = OkB b × OkV v
    OkT (while v b i) = OkV v × OkB b
    OkT (for a v u b i) = OkV a × OkV v × OkU u × OkB b
    OkT (for_of a v b i n) = OkV a × OkV v × OkB b
    OkT (for_in v b i n) = OkV v × OkB b
    OkT (if p b c i) = PlaceOk p × OkB b × OkO c
    OkT (label b i) = OkB b
    OkT (try b p c i) = OkB b × IfSome PlaceOk p × OkB c

    pub OkK : Cases → Type 0
    OkK knil = Unit {0}
    OkK (kcons t b cs) = IfSome PlaceOk t × OkO b × OkK cs

    pub OkO : OptBlock → Type 0
    OkO no_block = Unit {0}
    OkO (some_block b) = OkB b

    pub OkB : Block → Type 0
    OkB nil = Unit {0}
    OkB (cons x b) = OkS x × OkB b

-- the scopes of the Scope blocks, in file order
abbrev mutual
  pub scopes_s : Stmt → List ℕ
  scopes_s (instruction i) = []
  scopes_s (scope x b) = x ∷ scopes_b b
  scopes_s (pruned x b) = scopes_b b
  scopes_s (terminal t m) = scopes_t t

  pub scopes_t : Term → List ℕ
  scopes_t (break l i k) = []
  scopes_t (continue l i k) = []
  scopes_t (return p i) = []
  scopes_t (throw p i) = []
  scopes_t (switch p cs i) = scopes_k cs
  scopes_t (do_while b v i) = scopes_b b
  scopes_t (while v b i) = scopes_b b
  scopes_t (for a v u b i) = scopes_b b
  scopes_t (for_of a v b i n) = scopes_b b
  scopes_t (for_in v b i n) = scopes_b b
  scopes_t (if p b c i) = scopes_b b ++ scopes_o c
  scopes_t (label b i) = scopes_b b
  scopes_t (try b p c i) = scopes_b b ++ scopes_b c

  pub scopes_k : Cases → List ℕ
  scopes_k knil = []
  scopes_k (kcons t b cs) = scopes_o b ++ scopes_k cs

  pub scopes_o : OptBlock → List ℕ
  scopes_o no_block = []
  scopes_o (some_block b) = scopes_b b

  pub scopes_b : Block → List ℕ
  scopes_b nil = []
  scopes_b (cons x b) = scopes_s x ++ scopes_b b

abbrev pub Distinct : List ℕ → Type 0
Distinct [] = Unit {0}
Distinct (x ∷ xs) = (has x xs ≡ false) × Distinct xs

pub record WellFormed (F : Function) : Type 0 where
  pub identifiers_ok : All (IdentifierOk (sizes F)) F.identifiers
  pub scopes_ok : All (ScopeOk (sizes F)) F.scopes
  pub body_ok : OkB (sizes F) F.body
  pub jumps_land : TgB F.body nowhere
  pub scopes_once : Distinct (scopes_b F.body)
