-- What the words of a file say: the function, or why they are refused. Assumes nothing.
use Rattle.std.specs.Prelude.{ℕ, zero, suc, ◌+◌, ◌%◌, Bool, true, false, cond, List, [], ◌∷◌, length, Some, None, Ok, Err, Option, Result, ◌==◌, nat_le, nat_lt, slice_index, slice_range}
use Rattle.hir.specs.declared.place.Effect.{Effect}
use Rattle.hir.specs.declared.place.Effect.TheVariants.{Unknown, Freeze, Read as ReadEffect, Capture, ConditionallyMutateIterator, ConditionallyMutate, Mutate, Store}
use Rattle.hir.specs.declared.place.Place.{Place}
use Rattle.hir.specs.declared.used.Used.{Used}
use Rattle.hir.specs.declared.value.LogicalOperator.{LogicalOperator}
use Rattle.hir.specs.declared.value.LogicalOperator.TheVariants.{Or, And, Coalesce}
use Rattle.hir.specs.declared.terminal.ReactiveLabel.{ReactiveLabel}
use Rattle.hir.specs.declared.terminal.ReactiveTerminalTargetKind.{ReactiveTerminalTargetKind}
use Rattle.hir.specs.declared.terminal.ReactiveTerminalTargetKind.TheVariants.{Implicit, Labeled, Unlabeled}
use Rattle.hir.specs.declared.environment.Counters.{Counters}
use Rattle.hir.specs.declared.environment.Identifier.{Identifier}
use Rattle.hir.specs.declared.environment.IdentifierName.{IdentifierName}
use Rattle.hir.specs.declared.environment.IdentifierName.TheVariants.{Named, Promoted}
use Rattle.hir.specs.declared.environment.ReactiveScopeEarlyReturn.{ReactiveScopeEarlyReturn}
use Rattle.hir.specs.declared.environment.ReactiveScopeDeclaration.{ReactiveScopeDeclaration}
use Rattle.hir.specs.Options.{nth}
use Rattle.hir.specs.Sizes.{none}
use Rattle.hir.specs.Tree.{Op, Val, operation, logical, conditional, sequence, optional, OptVal, no_val, some_val, Instr, instr, Instrs, inil, icons, Stmt, instruction, scope, pruned, terminal, Term, break, continue, return, throw, switch, do_while, while, for, for_of, for_in, if, label, try, Cases, knil, kcons, OptBlock, no_block, some_block, Block, nil, cons, ScopeInfo, Function}
use Rattle.format.specs.declared.fault.FileFault.{FileFault}
use Rattle.format.specs.declared.fault.FileFault.TheVariants.{Length, Pairs, Reading, Limit}
use Rattle.format.specs.Words.{words}

-- ---- reading

-- the number of the next word, the words of the section from there on, and how many items of each kind have begun
pub record Cursor : Type 0 where
  pub at : ℕ
  pub rest : List ℕ
  pub used : Used

abbrev pub Read : Type 0 → Type 0
Read X = Result (X × Cursor) FileFault

abbrev pub onto : {X Y : Type 0} → Read X → (X → Cursor → Read Y) → Read Y
onto (Ok p) f = f p.0 p.1
onto (Err e) f = Err e

abbrev pub give : {X : Type 0} → X → Cursor → Read X
give x c = Ok (x, c)

-- a word; a section that ends before it is refused at the first word after it
abbrev pub next_of : ℕ → Used → List ℕ → Read ℕ
next_of at u [] = Err (Reading at)
next_of at u (w ∷ ws) = Ok (w, record { at = at + 1; rest = ws; used = u })

abbrev pub word : Cursor → Read ℕ
word c = next_of c.at c.used c.rest

-- a word below n
abbrev pub below : ℕ → Cursor → Read ℕ
below n c = onto (word c) (λ w d. cond (nat_lt w n) (give w d) (Err (Reading c.at)))

-- an evaluation order, or a counter
abbrev pub order : Cursor → Read ℕ
order c = onto (word c) (λ w d. cond (nat_le w 1000000) (give w d) (Err (Limit c.at)))

-- a case number, and then what that case reads
abbrev pub chosen : {X : Type 0} → Option (Cursor → Read X) → ℕ → Cursor → Read X
chosen None at d = Err (Reading at)
chosen (Some p) at d = p d

abbrev pub case : {X : Type 0} → List (Cursor → Read X) → Cursor → Read X
case ps c = onto (word c) (λ w d. chosen (nth ps w) c.at d)

abbrev pub flag : Cursor → Read Bool
flag = case (give false ∷ give true ∷ [])

abbrev pub option : {X : Type 0} → (Cursor → Read X) → Cursor → Read (Option X)
option p = case (give None ∷ (λ c. onto (p c) (λ x. give (Some x))) ∷ [])

abbrev pub times : {X : Type 0} → (Cursor → Read X) → ℕ → Cursor → Read (List X)
times p zero c = give [] c
times p (suc n) c = onto (p c) (λ x d. onto (times p n d) (λ xs. give (x ∷ xs)))

-- a count and its items
abbrev pub listed : {X : Type 0} → (Cursor → Read X) → Cursor → Read (List X)
listed p c = onto (word c) (times p)

-- an item begins, and counts; one too many is refused at its first word
abbrev pub counted : Bool → Used → Cursor → Read (Unit {0})
counted true u c = give tt (record { at = c.at; rest = c.rest; used = u })
counted false u c = Err (Limit c.at)

abbrev pub begin_statement : Cursor → Read (Unit {0})
begin_statement c =
    let u : Used = c.used in
    counted (nat_lt u.statements 2048) (record { statements = u.statements + 1; values = u.values; places = u.places; identifiers = u.identifiers; scopes = u.scopes; declarations = u.declarations; cases = u.cases }) c

abbrev pub begin_value : Cursor → Read (Unit {0})
begin_value c =
    let u : Used = c.used in
    counted (nat_lt u.values 4096) (record { statements = u.statements; values = u.values + 1; places = u.places; identifiers = u.identifiers; scopes = u.scopes; declarations = u.declarations; cases = u.cases }) c

abbrev pub begin_place : Cursor → Read (Unit {0})
begin_place c =
    let u : Used = c.used in
    counted (nat_lt u.places 4096) (record { statements = u.statements; values = u.values; places = u.places + 1; identifiers = u.identifiers; scopes = u.scopes; declarations = u.declarations; cases = u.cases }) c

abbrev pub begin_identifier : Cursor → Read (Unit {0})
begin_identifier c =
    let u : Used = c.used in
    counted (nat_lt u.identifiers 2048) (record { statements = u.statements; values = u.values; places = u.places; identifiers = u.identifiers + 1; scopes = u.scopes; declarations = u.declarations; cases = u.cases }) c

abbrev pub begin_scope : Cursor → Read (Unit {0})
begin_scope c =
    let u : Used = c.used in
    counted (nat_lt u.scopes 256) (record { statements = u.statements; values = u.values; places = u.places; identifiers = u.identifiers; scopes = u.scopes + 1; declarations = u.declarations; cases = u.cases }) c

abbrev pub begin_declaration : Cursor → Read (Unit {0})
begin_declaration c =
    let u : Used = c.used in
    counted (nat_lt u.declarations 1024) (record { statements = u.statements; values = u.values; places = u.places; identifiers = u.identifiers; scopes = u.scopes; declarations = u.declarations + 1; cases = u.cases }) c

abbrev pub begin_case : Cursor → Read (Unit {0})
begin_case c =
    let u : Used = c.used in
    counted (nat_lt u.cases 1024) (record { statements = u.statements; values = u.values; places = u.places; identifiers = u.identifiers; scopes = u.scopes; declarations = u.declarations; cases = u.cases + 1 }) c

-- ---- values
abbrev pub effects : List (Cursor → Read Effect)
effects = give Unknown ∷ give Freeze ∷ give ReadEffect ∷ give Capture ∷ give ConditionallyMutateIterator ∷ give ConditionallyMutate ∷ give Mutate ∷ give Store ∷ []

unfoldable pub place : Cursor → Read Place
place c =
    onto (begin_place c) (λ _ c₁. onto (word c₁) (λ i c₂. onto (case effects c₂) (λ e c₃. onto (flag c₃) (λ r c₄. onto (word c₄) (λ s.
    give (record { identifier = i; effect = e; reactive = r; span = s }))))))

-- the payload of a StoreLocal, kind 4, is one of 8 kinds of instruction
abbrev pub payload : ℕ → Cursor → Read ℕ
payload kind c = cond (kind == 4) (below 8 c) (word c)

unfoldable pub op : Cursor → Read Op
op c =
    onto (below 42 c) (λ k c₁. onto (payload k c₁) (λ m c₂. onto (listed place c₂) (λ w c₃. onto (listed place c₃) (λ o c₄. onto (word c₄) (λ s.
    give (record { kind = k; payload = m; written = w; operands = o; span = s }))))))

abbrev pub operators : List (Cursor → Read LogicalOperator)
operators = give Or ∷ give And ∷ give Coalesce ∷ []

-- `value` reads the values inside, which are one deeper
module _ (value : Cursor → Read Val) where
  abbrev pub instr_read : Cursor → Read Instr
  instr_read c =
      onto (order c) (λ i c₁. onto (option place c₁) (λ l c₂. onto (value c₂) (λ v c₃. onto (word c₃) (λ s.
      give (instr i l v s)))))

  abbrev pub instrs_read : ℕ → Cursor → Read Instrs
  instrs_read zero c = give inil c
  instrs_read (suc n) c = onto (begin_statement c) (λ _ c₁. onto (instr_read c₁) (λ i c₂. onto (instrs_read n c₂) (λ is. give (icons i is))))

  abbrev pub logical_read : Cursor → Read Val
  logical_read c = onto (case operators c) (λ o c₁. onto (value c₁) (λ a c₂. onto (value c₂) (λ b. give (logical o a b))))

  abbrev pub conditional_read : Cursor → Read Val
  conditional_read c = onto (value c) (λ t c₁. onto (value c₁) (λ a c₂. onto (value c₂) (λ b. give (conditional t a b))))

  abbrev pub sequence_read : Cursor → Read Val
  sequence_read c = onto (word c) (λ n c₁. onto (instrs_read n c₁) (λ is c₂. onto (order c₂) (λ i c₃. onto (value c₃) (λ v. give (sequence is i v)))))

  abbrev pub optional_read : Cursor → Read Val
  optional_read c = onto (value c) (λ v c₁. onto (flag c₁) (λ o. give (optional v o)))

  abbrev pub val_read : Cursor → Read Val
  val_read = case ((λ c. onto (op c) (λ o. give (operation o))) ∷ logical_read ∷ conditional_read ∷ sequence_read ∷ optional_read ∷ [])

-- a value at most d deep
abbrev pub value : ℕ → Cursor → Read Val
value zero c = Err (Limit c.at)
value (suc d) c = onto (begin_value c) (λ _. val_read (value d))

-- A statement's values are at most 64 deep. It is shut, since a proof would otherwise compute with all 64 at once.
unfoldable pub top_value : Cursor → Read Val
top_value c = value 64 c

-- the value of an instruction that is a sequence's is one deeper than the sequence; that of a statement begins anew
abbrev pub instruction_read : Cursor → Read Instr
instruction_read = instr_read top_value

-- ---- statements
abbrev pub opt_value : Cursor → Read OptVal
opt_value = case (give no_val ∷ (λ c. onto (top_value c) (λ v. give (some_val v))) ∷ [])

abbrev pub targets : List (Cursor → Read ReactiveTerminalTargetKind)
targets = give Implicit ∷ give Labeled ∷ give Unlabeled ∷ []

abbrev pub label_read : Cursor → Read ReactiveLabel
label_read c = onto (word c) (λ l c₁. onto (flag c₁) (λ i. give (record { id = l; implicit = i })))

abbrev pub jump_read : (ℕ → ℕ → ReactiveTerminalTargetKind → Term) → Cursor → Read Term
jump_read make c = onto (word c) (λ l c₁. onto (order c₁) (λ i c₂. onto (case targets c₂) (λ k. give (make l i k))))

abbrev pub leave_read : (Place → ℕ → Term) → Cursor → Read Term
leave_read make c = onto (place c) (λ p c₁. onto (order c₁) (λ i. give (make p i)))

-- `block` reads the blocks inside, which are one deeper
module _ (block : Cursor → Read Block) where
  abbrev pub opt_block : Cursor → Read OptBlock
  opt_block = case (give no_block ∷ (λ c. onto (block c) (λ b. give (some_block b))) ∷ [])

  abbrev pub cases_read : ℕ → Cursor → Read Cases
  cases_read zero c = give knil c
  cases_read (suc n) c =
      onto (begin_case c) (λ _ c₁. onto (option place c₁) (λ t c₂. onto (opt_block c₂) (λ b c₃. onto (cases_read n c₃) (λ cs. give (kcons t b cs)))))

  abbrev pub switch_read : Cursor → Read Term
  switch_read c = onto (place c) (λ p c₁. onto (word c₁) (λ n c₂. onto (cases_read n c₂) (λ cs c₃. onto (order c₃) (λ i. give (switch p cs i)))))

  abbrev pub do_while_read : Cursor → Read Term
  do_while_read c = onto (block c) (λ b c₁. onto (top_value c₁) (λ v c₂. onto (order c₂) (λ i. give (do_while b v i))))

  abbrev pub while_read : Cursor → Read Term
  while_read c = onto (top_value c) (λ v c₁. onto (block c₁) (λ b c₂. onto (order c₂) (λ i. give (while v b i))))

  abbrev pub for_read : Cursor → Read Term
  for_read c =
      onto (top_value c) (λ n c₁. onto (top_value c₁) (λ v c₂. onto (opt_value c₂) (λ u c₃. onto (block c₃) (λ b c₄. onto (order c₄) (λ i.
      give (for n v u b i))))))

  abbrev pub for_of_read : Cursor → Read Term
  for_of_read c =
      onto (top_value c) (λ n c₁. onto (top_value c₁) (λ v c₂. onto (block c₂) (λ b c₃. onto (order c₃) (λ i c₄. onto (word c₄) (λ s.
      give (for_of n v b i s))))))

  abbrev pub for_in_read : Cursor → Read Term
  for_in_read c = onto (top_value c) (λ v c₁. onto (block c₁) (λ b c₂. onto (order c₂) (λ i c₃. onto (word c₃) (λ s. give (for_in v b i s)))))

  abbrev pub if_read : Cursor → Read Term
  if_read c = onto (place c) (λ p c₁. onto (block c₁) (λ b c₂. onto (opt_block c₂) (λ e c₃. onto (order c₃) (λ i. give (if p b e i)))))

  abbrev pub label_block_read : Cursor → Read Term
  label_block_read c = onto (block c) (λ b c₁. onto (order c₁) (λ i. give (label b i)))

  abbrev pub try_read : Cursor → Read Term
  try_read c = onto (block c) (λ b c₁. onto (option place c₁) (λ p c₂. onto (block c₂) (λ h c₃. onto (order c₃) (λ i. give (try b p h i)))))

  abbrev pub term_read : Cursor → Read Term
  term_read =
      case (jump_read break ∷ jump_read continue ∷ leave_read return ∷ leave_read throw ∷ switch_read ∷ do_while_read ∷ while_read ∷ for_read ∷ for_of_read ∷ for_in_read
      ∷ if_read ∷ label_block_read ∷ try_read ∷ [])

  abbrev pub terminal_read : Cursor → Read Stmt
  terminal_read c = onto (term_read c) (λ t c₁. onto (option label_read c₁) (λ m. give (terminal t m)))

  abbrev pub scope_read : (ℕ → Block → Stmt) → Cursor → Read Stmt
  scope_read make c = onto (word c) (λ x c₁. onto (block c₁) (λ b. give (make x b)))

  abbrev pub stmt_read : Cursor → Read Stmt
  stmt_read = case ((λ c. onto (instruction_read c) (λ i. give (instruction i))) ∷ terminal_read ∷ scope_read scope ∷ scope_read pruned ∷ [])

  abbrev pub stmts_read : ℕ → Cursor → Read Block
  stmts_read zero c = give nil c
  stmts_read (suc n) c = onto (begin_statement c) (λ _ c₁. onto (stmt_read c₁) (λ s c₂. onto (stmts_read n c₂) (λ b. give (cons s b))))

-- a block at most d deep: a count, and so many statements
abbrev pub block : ℕ → Cursor → Read Block
block zero c = Err (Limit c.at)
block (suc d) c = onto (word c) (stmts_read (block d))

-- ---- the tables
abbrev pub names : List (Cursor → Read IdentifierName)
names = (λ c. onto (word c) (λ n. give (Named n))) ∷ (λ c. onto (word c) (λ n. give (Promoted n))) ∷ []

unfoldable pub identifier : Cursor → Read Identifier
identifier c =
    onto (begin_identifier c) (λ _ c₁. onto (word c₁) (λ d c₂. onto (option (case names) c₂) (λ n c₃. onto (word c₃) (λ r c₄. onto (option word c₄) (λ s c₅. onto (word c₅) (λ k c₆. onto (word c₆) (λ p.
    give (record { declaration = d; name = n; range = r; scope = s; kind = k; span = p }))))))))

abbrev pub early_read : Cursor → Read ReactiveScopeEarlyReturn
early_read c = onto (word c) (λ v c₁. onto (word c₁) (λ s c₂. onto (word c₂) (λ l. give (record { value = v; span = s; label = l }))))

unfoldable pub declaration : Cursor → Read ReactiveScopeDeclaration
declaration c =
    onto (begin_declaration c) (λ _ c₁. onto (word c₁) (λ k c₂. onto (word c₂) (λ i c₃. onto (word c₃) (λ s.
    give (record { key = k; identifier = i; scope = s })))))

unfoldable pub scope_info : Cursor → Read ScopeInfo
scope_info c =
    onto (begin_scope c) (λ _ c₁. onto (option early_read c₁) (λ e c₂. onto (listed declaration c₂) (λ ds.
    give (record { early = e; declarations = ds }))))

-- items until the section ends; each takes a word at least, so as many turns as there are words are enough
abbrev pub until_end : {X : Type 0} → (Cursor → Read X) → ℕ → List ℕ → Cursor → Read (List X)
until_end p n [] c = give [] c
until_end p zero (w ∷ ws) c = give [] c
until_end p (suc n) (w ∷ ws) c = onto (p c) (λ x d. onto (until_end p n d.rest d) (λ xs. give (x ∷ xs)))

abbrev pub every : {X : Type 0} → (Cursor → Read X) → Cursor → Read (List X)
every p c = until_end p (length c.rest) c.rest c

unfoldable pub counters : Cursor → Read Counters
counters c = onto (order c) (λ b c₁. onto (order c₁) (λ t c₂. onto (order c₂) (λ r. give (record { blocks = b; types = t; ranges = r }))))

-- ---- the file
abbrev pub and_then : {X Y : Type 0} → Result X FileFault → (X → Result Y FileFault) → Result Y FileFault
and_then (Ok x) f = f x
and_then (Err e) f = Err e

-- a section is read to its exact end
abbrev pub to_end : {X : Type 0} → X → ℕ → Used → List ℕ → Result (X × Used) FileFault
to_end x at u [] = Ok (x, u)
to_end x at u (w ∷ ws) = Err (Reading at)

abbrev pub section : {X : Type 0} → (Cursor → Read X) → List ℕ → ℕ → ℕ → Used → Result (X × Used) FileFault
section p ws from to u =
    and_then (p (record { at = from; rest = slice_range ws from to; used = u })) (λ r. to_end r.0 r.1.at r.1.used r.1.rest)

-- the last section ends with the file, and the others within it
abbrev pub ends_well : Bool → ℕ → ℕ → Bool
ends_well true end total = end == total
ends_well false end total = nat_le end total

-- the pair at a word: the section begins where the one before ended; its end
abbrev pub pair : List ℕ → ℕ → Bool → ℕ → Result ℕ FileFault
pair ws at last from =
    cond (slice_index ws at == from)
    (cond (ends_well last (from + slice_index ws (at + 1)) (length ws)) (Ok (from + slice_index ws (at + 1))) (Err (Pairs (at + 1))))
    (Err (Pairs at))

unfoldable pub parse : List ℕ → Result Function FileFault
parse ws =
    and_then (pair ws 0 false 8) (λ e₁. and_then (pair ws 2 false e₁) (λ e₂. and_then (pair ws 4 false e₂) (λ e₃. and_then (pair ws 6 true e₃) (λ e₄.
    and_then (section counters ws 8 e₁ none) (λ c. and_then (section (every identifier) ws e₁ e₂ c.1) (λ i. and_then (section (every scope_info) ws e₂ e₃ i.1) (λ s. and_then (section (block 64) ws e₃ e₄ s.1) (λ b.
    Ok (record { counters = c.0; identifiers = i.0; scopes = s.0; body = b.0 })))))))))

-- whole words, from 48 to 65,536 bytes
unfoldable pub parse_file : List ℕ → Result Function FileFault
parse_file bs =
    cond (length bs % 4 == 0) (cond (nat_le 48 (length bs)) (cond (nat_le (length bs) 65536) (parse (words bs)) (Err Length)) (Err Length)) (Err Length)
