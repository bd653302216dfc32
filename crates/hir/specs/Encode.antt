-- The words of a function: its file. Assumes nothing.
use Rattle.std.specs.Prelude.{ℕ, suc, ◌+◌, List, [], ◌∷◌, ◌++◌, length, Some, None, Option}
use Rattle.hir.specs.declared.place.Place.{Place}
use Rattle.hir.specs.declared.environment.Counters.{Counters}
use Rattle.hir.specs.declared.environment.Identifier.{Identifier}
use Rattle.hir.specs.declared.environment.IdentifierName.{IdentifierName}
use Rattle.hir.specs.declared.environment.IdentifierName.TheVariants.{Named, Promoted}
use Rattle.hir.specs.declared.environment.ReactiveScopeEarlyReturn.{ReactiveScopeEarlyReturn}
use Rattle.hir.specs.declared.environment.ReactiveScopeDeclaration.{ReactiveScopeDeclaration}
use Rattle.hir.specs.declared.terminal.ReactiveLabel.{ReactiveLabel}
use Rattle.hir.specs.Numbers.{flag_number, effect_number, operator_number, target_number}
use Rattle.hir.specs.Tree.{Op, Val, operation, logical, conditional, sequence, optional, OptVal, no_val, some_val, Instr, instr, Instrs, inil, icons, Stmt, instruction, scope, pruned, terminal, Term, break, continue, return, throw, switch, do_while, while, for, for_of, for_in, if, label, try, Cases, knil, kcons, OptBlock, no_block, some_block, Block, nil, cons, ScopeInfo, Function}

-- an option is 0, or 1 and the thing; a list is a count and its items
abbrev pub option_words : {X : Type 0} → (X → List ℕ) → Option X → List ℕ
option_words words None = 0 ∷ []
option_words words (Some x) = 1 ∷ words x

abbrev pub items_words : {X : Type 0} → (X → List ℕ) → List X → List ℕ
items_words words [] = []
items_words words (x ∷ xs) = words x ++ items_words words xs

abbrev pub list_words : {X : Type 0} → (X → List ℕ) → List X → List ℕ
list_words words xs = length xs ∷ items_words words xs

abbrev pub word : ℕ → List ℕ
word w = w ∷ []

-- ---- the tree
abbrev pub place_words : Place → List ℕ
place_words p = p.identifier ∷ effect_number p.effect ∷ flag_number p.reactive ∷ p.span ∷ []

abbrev pub op_words : Op → List ℕ
op_words o = o.kind ∷ o.payload ∷ (list_words place_words o.written ++ (list_words place_words o.operands ++ word o.span))

abbrev pub instr_count : Instrs → ℕ
instr_count inil = 0
instr_count (icons i is) = suc (instr_count is)

abbrev mutual
  pub val_words : Val → List ℕ
  val_words (operation o) = 0 ∷ op_words o
  val_words (logical o a b) = 1 ∷ operator_number o ∷ (val_words a ++ val_words b)
  val_words (conditional c a b) = 2 ∷ (val_words c ++ (val_words a ++ val_words b))
  val_words (sequence is i v) = 3 ∷ instr_count is ∷ (instrs_words is ++ i ∷ val_words v)
  val_words (optional v o) = 4 ∷ (val_words v ++ word (flag_number o))

  pub instr_words : Instr → List ℕ
  instr_words (instr i l v s) = i ∷ (option_words place_words l ++ (val_words v ++ word s))

  pub instrs_words : Instrs → List ℕ
  instrs_words inil = []
  instrs_words (icons i is) = instr_words i ++ instrs_words is

abbrev pub opt_val_words : OptVal → List ℕ
opt_val_words no_val = 0 ∷ []
opt_val_words (some_val v) = 1 ∷ val_words v

abbrev pub label_words : ReactiveLabel → List ℕ
label_words l = l.id ∷ flag_number l.implicit ∷ []

abbrev pub case_count : Cases → ℕ
case_count knil = 0
case_count (kcons t b cs) = suc (case_count cs)

abbrev pub stmt_count : Block → ℕ
stmt_count nil = 0
stmt_count (cons s b) = suc (stmt_count b)

abbrev mutual
  pub stmt_words : Stmt → List ℕ
  stmt_words (instruction i) = 0 ∷ instr_words i
  stmt_words (terminal t m) = 1 ∷ (term_words t ++ option_words label_words m)
  stmt_words (scope x b) = 2 ∷ x ∷ stmt_count b ∷ body_words b
  stmt_words (pruned x b) = 3 ∷ x ∷ stmt_count b ∷ body_words b

  pub term_words : Term → List ℕ
  term_words (break l i k) = 0 ∷ l ∷ i ∷ word (target_number k)
  term_words (continue l i k) = 1 ∷ l ∷ i ∷ word (target_number k)
  term_words (return p i) = 2 ∷ (place_words p ++ word i)
  term_words (throw p i) = 3 ∷ (place_words p ++ word i)
  term_words (switch p cs i) = 4 ∷ (place_words p ++ case_count cs ∷ (cases_words cs ++ word i))
  term_words (do_while b v i) = 5 ∷ ((stmt_count b ∷ body_words b) ++ (val_words v ++ word i))
  term_words (while v b i) = 6 ∷ (val_words v ++ ((stmt_count b ∷ body_words b) ++ word i))
  term_words (for n v u b i) = 7 ∷ (val_words n ++ (val_words v ++ (opt_val_words u ++ ((stmt_count b ∷ body_words b) ++ word i))))
  term_words (for_of n v b i s) = 8 ∷ (val_words n ++ (val_words v ++ ((stmt_count b ∷ body_words b) ++ i ∷ word s)))
  term_words (for_in v b i s) = 9 ∷ (val_words v ++ ((stmt_count b ∷ body_words b) ++ i ∷ word s))
  term_words (if p b c i) = 10 ∷ (place_words p ++ ((stmt_count b ∷ body_words b) ++ (opt_block_words c ++ word i)))
  term_words (label b i) = 11 ∷ ((stmt_count b ∷ body_words b) ++ word i)
  term_words (try b p c i) = 12 ∷ ((stmt_count b ∷ body_words b) ++ (option_words place_words p ++ ((stmt_count c ∷ body_words c) ++ word i)))

  pub cases_words : Cases → List ℕ
  cases_words knil = []
  cases_words (kcons t b cs) = option_words place_words t ++ (opt_block_words b ++ cases_words cs)

  pub opt_block_words : OptBlock → List ℕ
  opt_block_words no_block = 0 ∷ []
  opt_block_words (some_block b) = 1 ∷ stmt_count b ∷ body_words b

  pub body_words : Block → List ℕ
  body_words nil = []
  body_words (cons s b) = stmt_words s ++ body_words b

abbrev pub block_words : Block → List ℕ
block_words b = stmt_count b ∷ body_words b

-- ---- the tables
abbrev pub name_words : IdentifierName → List ℕ
name_words (Named n) = 0 ∷ n ∷ []
name_words (Promoted n) = 1 ∷ n ∷ []

abbrev pub identifier_words : Identifier → List ℕ
identifier_words i = i.declaration ∷ (option_words name_words i.name ++ i.range ∷ (option_words word i.scope ++ i.kind ∷ i.span ∷ []))

abbrev pub early_words : ReactiveScopeEarlyReturn → List ℕ
early_words r = r.value ∷ r.span ∷ r.label ∷ []

abbrev pub declaration_words : ReactiveScopeDeclaration → List ℕ
declaration_words d = d.key ∷ d.identifier ∷ d.scope ∷ []

abbrev pub scope_words : ScopeInfo → List ℕ
scope_words s = option_words early_words s.early ++ list_words declaration_words s.declarations

abbrev pub counters_words : Counters → List ℕ
counters_words c = c.blocks ∷ c.types ∷ c.ranges ∷ []

-- ---- the file: four pairs of offset and length, then the sections without gaps
abbrev pub sections : List ℕ → List ℕ → List ℕ → List ℕ → List ℕ
sections cs is ss bs =
    let at_is : ℕ = 8 + length cs in
    let at_ss : ℕ = at_is + length is in
    let at_bs : ℕ = at_ss + length ss in
    8 ∷ length cs ∷ at_is ∷ length is ∷ at_ss ∷ length ss ∷ at_bs ∷ length bs ∷ (cs ++ (is ++ (ss ++ bs)))

unfoldable pub encode : Function → List ℕ
encode F =
    sections (counters_words F.counters) (items_words identifier_words F.identifiers) (items_words scope_words F.scopes) (block_words F.body)
