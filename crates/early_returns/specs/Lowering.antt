-- Lowering, described: which scopes and which returns it treats, and what each of them becomes. Assumes nothing.
--   first    the span of the first open return, if there is one
--   open     the open returns replaced
--   after    the environment after a part of the tree
--   low      the part itself, its outermost scopes treated
use Rattle.std.specs.Prelude.{ℕ, zero, suc, ◌+◌, List, [], ◌∷◌, ◌++◌, length, Some, None, Option}
use Rattle.hir.specs.declared.terminal.ReactiveLabel.{ReactiveLabel}
use Rattle.hir.specs.declared.environment.Counters.{Counters}
use Rattle.hir.specs.declared.environment.Identifier.{Identifier}
use Rattle.hir.specs.declared.environment.IdentifierName.{IdentifierName}
use Rattle.hir.specs.declared.environment.IdentifierName.TheVariants.{Promoted}
use Rattle.hir.specs.declared.environment.ReactiveScopeEarlyReturn.{ReactiveScopeEarlyReturn}
use Rattle.hir.specs.Tree.{Stmt, instruction, scope, pruned, terminal, Term, break, continue, return, throw, switch, do_while, while, for, for_of, for_in, if, label, try, Cases, knil, kcons, OptBlock, no_block, some_block, Block, nil, cons, ScopeInfo, Function}
use Rattle.semantics.specs.Exec.{records_of}
use Rattle.early_returns.specs.Statements.{opening, leaving}

-- a function without its body
pub record Env : Type 0 where
  pub counters : Counters
  pub identifiers : List Identifier
  pub scopes : List ScopeInfo

abbrev pub start : Function → Env
start F = record { counters = F.counters; identifiers = F.identifiers; scopes = F.scopes }

abbrev pub with_body : Env → Block → Function
with_body e b = record { counters = e.counters; identifiers = e.identifiers; scopes = e.scopes; body = b }

-- the next identifier and the next label
abbrev pub ids : Env → ℕ
ids e = length e.identifiers

abbrev pub blocks : Env → ℕ
blocks e = e.counters.blocks

abbrev pub or_else : Option ℕ → Option ℕ → Option ℕ
or_else (Some a) o = Some a
or_else None o = o

abbrev pub unless_recorded : Option ℕ → Option ℕ → Option ℕ
unless_recorded None o = o
unless_recorded (Some n) o = None

-- a recorded scope's block stays, another one is opened
abbrev pub keep_recorded : Option ℕ → Block → Block → Block
keep_recorded None kept opened = opened
keep_recorded (Some n) kept opened = kept

-- rec: the recorded places of the scopes, as they are at first
module _ (rec : ℕ → Option ℕ) where
  -- the open returns are those not inside a recorded scope's Scope block
  abbrev mutual
    pub first_s : Stmt → Option ℕ
    first_s (instruction i) = None
    first_s (scope x b) = unless_recorded (rec x) (first_b b)
    first_s (pruned x b) = first_b b
    first_s (terminal t m) = first_t t

    pub first_t : Term → Option ℕ
    first_t (break l i k) = None
    first_t (continue l i k) = None
    first_t (return p i) = Some p.span
    first_t (throw p i) = None
    first_t (switch p cs i) = first_k cs
    first_t (do_while b v i) = first_b b
    first_t (while v b i) = first_b b
    first_t (for a v u b i) = first_b b
    first_t (for_of a v b i n) = first_b b
    first_t (for_in v b i n) = first_b b
    first_t (if p b c i) = or_else (first_b b) (first_o c)
    first_t (label b i) = first_b b
    first_t (try b p c i) = or_else (first_b b) (first_b c)

    pub first_k : Cases → Option ℕ
    first_k knil = None
    first_k (kcons t b cs) = or_else (first_o b) (first_k cs)

    pub first_o : OptBlock → Option ℕ
    first_o no_block = None
    first_o (some_block b) = first_b b

    pub first_b : Block → Option ℕ
    first_b nil = None
    first_b (cons x b) = or_else (first_s x) (first_b b)

  -- each open return becomes a store to n and a break to l; r: the statements behind
  module _ (n l : ℕ) where
    abbrev mutual
      pub open_s : Stmt → Block → Block
      open_s (instruction i) r = cons (instruction i) r
      open_s (scope x b) r = cons (scope x (keep_recorded (rec x) b (open_b b))) r
      open_s (pruned x b) r = cons (pruned x (open_b b)) r
      open_s (terminal t m) r = open_t t m r

      pub open_t : Term → Option ReactiveLabel → Block → Block
      open_t (break k i t) m r = cons (terminal (break k i t) m) r
      open_t (continue k i t) m r = cons (terminal (continue k i t) m) r
      open_t (return p i) m r = leaving n l p r
      open_t (throw p i) m r = cons (terminal (throw p i) m) r
      open_t (switch p cs i) m r = cons (terminal (switch p (open_k cs) i) m) r
      open_t (do_while b v i) m r = cons (terminal (do_while (open_b b) v i) m) r
      open_t (while v b i) m r = cons (terminal (while v (open_b b) i) m) r
      open_t (for a v u b i) m r = cons (terminal (for a v u (open_b b) i) m) r
      open_t (for_of a v b i s) m r = cons (terminal (for_of a v (open_b b) i s) m) r
      open_t (for_in v b i s) m r = cons (terminal (for_in v (open_b b) i s) m) r
      open_t (if p b c i) m r = cons (terminal (if p (open_b b) (open_o c) i) m) r
      open_t (label b i) m r = cons (terminal (label (open_b b) i) m) r
      open_t (try b p c i) m r = cons (terminal (try (open_b b) p (open_b c) i) m) r

      pub open_k : Cases → Cases
      open_k knil = knil
      open_k (kcons t b cs) = kcons t (open_o b) (open_k cs)

      pub open_o : OptBlock → OptBlock
      open_o no_block = no_block
      open_o (some_block b) = some_block (open_b b)

      pub open_b : Block → Block
      open_b nil = nil
      open_b (cons x b) = open_s x (open_b b)

-- identifier number n, with a type, a range and a declaration of its own
abbrev pub fresh : ℕ → Option IdentifierName → ℕ → ℕ → ℕ → Identifier
fresh n name type range span = record { declaration = n; name = name; range = range; scope = None; kind = type; span = span }

-- n, promoted; sentinel n + 1, symbol n + 2, for n + 3, arg n + 4
abbrev pub five : ℕ → ℕ → ℕ → ℕ → List Identifier
five n t r span =
    fresh n (Some (Promoted n)) t r span ∷ fresh (n + 1) None (t + 1) (r + 1) span ∷ fresh (n + 2) None (t + 2) (r + 2) span ∷ fresh (n + 3) None (t + 3) (r + 3) span ∷ fresh (n + 4) None (t + 4) (r + 4) span ∷ []

-- the scope x with a record and one more declaration
abbrev pub with_record : ℕ → ReactiveScopeEarlyReturn → ScopeInfo → ScopeInfo
with_record x r s = record { early = Some r; declarations = s.declarations ++ (record { key = r.value; identifier = r.value; scope = x } ∷ []) }

-- the item at x changed
unfoldable pub change : {A : Type 0} → List A → ℕ → (A → A) → List A
change [] x f = []
change (a ∷ xs) zero f = f a ∷ xs
change (a ∷ xs) (suc x) f = a ∷ change xs x f

-- an outermost scope, by the span of its first open return
abbrev pub after_scope : Option ℕ → ℕ → Env → Env
after_scope None x e = e
after_scope (Some span) x e = record {
  counters = record { blocks = blocks e + 1; types = e.counters.types + 5; ranges = e.counters.ranges + 5 };
  identifiers = e.identifiers ++ five (ids e) e.counters.types e.counters.ranges span;
  scopes = change e.scopes x (with_record x (record { value = ids e; span = span; label = blocks e }));
}

module _ (rec : ℕ → Option ℕ) where
  abbrev pub low_scope : Option ℕ → ℕ → Block → Env → Stmt
  low_scope None x b e = scope x b
  low_scope (Some span) x b e = scope x (opening (ids e) (ids e + 1) (ids e + 2) (ids e + 3) (ids e + 4) (blocks e) span (open_b rec (ids e) (blocks e) b))

  abbrev mutual
    pub after_s : Stmt → Env → Env
    after_s (instruction i) e = e
    after_s (scope x b) e = after_scope (unless_recorded (rec x) (first_b rec b)) x e
    after_s (pruned x b) e = after_b b e
    after_s (terminal t m) e = after_t t e

    pub after_t : Term → Env → Env
    after_t (break l i k) e = e
    after_t (continue l i k) e = e
    after_t (return p i) e = e
    after_t (throw p i) e = e
    after_t (switch p cs i) e = after_k cs e
    after_t (do_while b v i) e = after_b b e
    after_t (while v b i) e = after_b b e
    after_t (for a v u b i) e = after_b b e
    after_t (for_of a v b i s) e = after_b b e
    after_t (for_in v b i s) e = after_b b e
    after_t (if p b c i) e = after_o c (after_b b e)
    after_t (label b i) e = after_b b e
    after_t (try b p c i) e = after_b c (after_b b e)

    pub after_k : Cases → Env → Env
    after_k knil e = e
    after_k (kcons t b cs) e = after_k cs (after_o b e)

    pub after_o : OptBlock → Env → Env
    after_o no_block e = e
    after_o (some_block b) e = after_b b e

    pub after_b : Block → Env → Env
    after_b nil e = e
    after_b (cons x b) e = after_b b (after_s x e)

  abbrev mutual
    pub low_s : Stmt → Env → Stmt
    low_s (instruction i) e = instruction i
    low_s (scope x b) e = low_scope (unless_recorded (rec x) (first_b rec b)) x b e
    low_s (pruned x b) e = pruned x (low_b b e)
    low_s (terminal t m) e = terminal (low_t t e) m

    pub low_t : Term → Env → Term
    low_t (break l i k) e = break l i k
    low_t (continue l i k) e = continue l i k
    low_t (return p i) e = return p i
    low_t (throw p i) e = throw p i
    low_t (switch p cs i) e = switch p (low_k cs e) i
    low_t (do_while b v i) e = do_while (low_b b e) v i
    low_t (while v b i) e = while v (low_b b e) i
    low_t (for a v u b i) e = for a v u (low_b b e) i
    low_t (for_of a v b i s) e = for_of a v (low_b b e) i s
    low_t (for_in v b i s) e = for_in v (low_b b e) i s
    low_t (if p b c i) e = if p (low_b b e) (low_o c (after_b b e)) i
    low_t (label b i) e = label (low_b b e) i
    low_t (try b p c i) e = try (low_b b e) p (low_b c (after_b b e)) i

    pub low_k : Cases → Env → Cases
    low_k knil e = knil
    low_k (kcons t b cs) e = kcons t (low_o b e) (low_k cs (after_o b e))

    pub low_o : OptBlock → Env → OptBlock
    low_o no_block e = no_block
    low_o (some_block b) e = some_block (low_b b e)

    pub low_b : Block → Env → Block
    low_b nil e = nil
    low_b (cons x b) e = cons (low_s x e) (low_b b (after_s x e))

unfoldable pub lowered : Function → Function
lowered F = with_body (after_b (records_of F.scopes) F.body (start F)) (low_b (records_of F.scopes) F.body (start F))
