-- Functions that name only identifiers of their table, and the law that a run looks at and changes only their places. Assumes nothing.
use Rattle.std.specs.Prelude.{◌≡◌, ℕ, ◌<◌, ◌≤◌, List, [], ◌∷◌, ◌++◌, length, Some, None, Option}
use Rattle.hir.specs.declared.place.Place.{Place}
use Rattle.hir.specs.Tree.{Val, operation, logical, conditional, sequence, optional, OptVal, no_val, some_val, Instr, instr, Instrs, inil, icons, Stmt, instruction, scope, pruned, terminal, Term, break, continue, return, throw, switch, do_while, while, for, for_of, for_in, if, label, try, Cases, knil, kcons, OptBlock, no_block, some_block, Block, nil, cons, ScopeInfo, Function}
use Rattle.semantics.specs.Machine.{Meaning, State, Result, done, spent}
use Rattle.semantics.specs.Exec.{recorded_place, exec, last}
use Rattle.semantics.specs.Laws.{EachRun}

-- every identifier that is named is below N
module _ (N : ℕ) where
  abbrev pub BelowPs : List Place → Type 0
  BelowPs [] = Unit {0}
  BelowPs (p ∷ ps) = (p.identifier < N) × BelowPs ps

  abbrev pub BelowP : Option Place → Type 0
  BelowP None = Unit {0}
  BelowP (Some p) = p.identifier < N

  abbrev pub BelowN : Option ℕ → Type 0
  BelowN None = Unit {0}
  BelowN (Some i) = i < N

  abbrev mutual
    pub BelowV : Val → Type 0
    BelowV (operation o) = BelowPs o.written × BelowPs o.operands
    BelowV (logical o a b) = BelowV a × BelowV b
    BelowV (conditional c a b) = BelowV c × BelowV a × BelowV b
    BelowV (sequence is i v) = BelowIs is × BelowV v
    BelowV (optional v o) = BelowV v

    pub BelowI : Instr → Type 0
    BelowI (instr i l v n) = BelowP l × BelowV v

    pub BelowIs : Instrs → Type 0
    BelowIs inil = Unit {0}
    BelowIs (icons i is) = BelowI i × BelowIs is

  abbrev pub BelowU : OptVal → Type 0
  BelowU no_val = Unit {0}
  BelowU (some_val v) = BelowV v

  abbrev mutual
    pub BelowS : Stmt → Type 0
    BelowS (instruction i) = BelowI i
    BelowS (scope x b) = BelowB b
    BelowS (pruned x b) = BelowB b
    BelowS (terminal t m) = BelowT t

    pub BelowT : Term → Type 0
    BelowT (break l i k) = Unit {0}
    BelowT (continue l i k) = Unit {0}
    BelowT (return p i) = p.identifier < N
    BelowT (throw p i) = p.identifier < N
    BelowT (switch p cs i) = (p.identifier < N) × BelowK cs
    BelowT (do_while b v i) = BelowB b × BelowV v
    BelowT (while v b i) = BelowV v × BelowB b
    BelowT (for a v u b i) = BelowV a × BelowV v × BelowU u × BelowB b
    BelowT (for_of a v b i n) = BelowV a × BelowV v × BelowB b
    BelowT (for_in v b i n) = BelowV v × BelowB b
    BelowT (if p b c i) = (p.identifier < N) × BelowB b × BelowO c
    BelowT (label b i) = BelowB b
    BelowT (try b p c i) = BelowB b × BelowP p × BelowB c

    pub BelowK : Cases → Type 0
    BelowK knil = Unit {0}
    BelowK (kcons t b cs) = BelowP t × BelowO b × BelowK cs

    pub BelowO : OptBlock → Type 0
    BelowO no_block = Unit {0}
    BelowO (some_block b) = BelowB b

    pub BelowB : Block → Type 0
    BelowB nil = Unit {0}
    BelowB (cons x b) = BelowS x × BelowB b

  abbrev pub BelowR : List ScopeInfo → Type 0
  BelowR [] = Unit {0}
  BelowR (s ∷ ss) = BelowN (recorded_place s.early) × BelowR ss

-- the body and the records name identifiers of the table only
pub record Below (F : Function) : Type 0 where
  pub body_below : BelowB (length F.identifiers) F.body
  pub records_below : BelowR (length F.identifiers) F.scopes

-- ---- a longer store
module _ {S : Type 0} (τ : List ℕ) where
  -- the state with τ after its store
  abbrev pub widen : State S → State S
  widen s = record { host = s.host; store = s.store ++ τ; given = s.given; steps = s.steps; entries = s.entries; records = s.records }

  abbrev pub widened : Result S → Result S
  widened (done o s) = done o (widen s)
  widened (spent s) = spent (widen s)

-- what lies in the store past the table neither changes nor matters: the run from the longer store is the run from the shorter one, with the rest behind it
pub record Local {S : Type 0} (H : Meaning S) (F : Function) (h : S) (σ τ : List ℕ) (B : ℕ) : Type 0 where
  pub same : exec H F B h (σ ++ τ) ≡ widened τ (exec H F B h σ)
  pub as_long : length (last (exec H F B h σ)).store ≡ length σ

abbrev pub OnlyTable : Type 0 → Type 0
OnlyTable S = EachRun S (λ H F h σ. (τ : List ℕ) (B : ℕ) → Below F → length F.identifiers ≤ length σ → Local H F h σ τ B)
