-- Blocks before and after label pruning. Assumes nothing.
use Rattle.std.specs.Prelude.{◌≡◌, ℕ, true, false, List, [], ◌∷◌, Some, None}
use Rattle.hir.specs.declared.place.Place.{Place}
use Rattle.hir.specs.declared.place.Effect.TheVariants.{Read}
use Rattle.hir.specs.declared.terminal.ReactiveTerminalTargetKind.TheVariants.{Labeled}
use Rattle.hir.specs.Tree.{Val, operation, no_val, Stmt, scope, pruned, terminal, Term, break, continue, throw, switch, do_while, while, for, for_of, for_in, if, label, try, knil, kcons, no_block, some_block, Block, nil, cons, Function}
use Rattle.label_pruning.specs.Pruning.{prune_labels}

-- ---- how the examples are written
abbrev pub block : List Stmt → Block
block [] = nil
block (x ∷ xs) = cons x (block xs)

abbrev pub place : ℕ → Place
place i = record { identifier = i; effect = Read; reactive = false; span = 0 }

abbrev pub value : Val
value = operation (record { kind = 0; payload = 0; written = []; operands = place 0 ∷ []; span = 0 })

-- a statement that is no jump to a label
abbrev pub leaf : ℕ → Stmt
leaf i = terminal (throw (place 0) i) None

-- a Label and a loop with a label, a labeled Break, one with a label of its own, and an If
abbrev pub labeled : ℕ → List Stmt → Stmt
labeled l xs = terminal (label (block xs) 0) (Some (record { id = l; implicit = false }))

abbrev pub implicitly : ℕ → List Stmt → Stmt
implicitly l xs = terminal (label (block xs) 0) (Some (record { id = l; implicit = true }))

abbrev pub unlabeled : List Stmt → Stmt
unlabeled xs = terminal (label (block xs) 0) None

abbrev pub loop : ℕ → List Stmt → Stmt
loop l xs = terminal (while value (block xs) 0) (Some (record { id = l; implicit = false }))

abbrev pub breaks_to : ℕ → Stmt
breaks_to l = terminal (break l 0 Labeled) None

abbrev pub breaks_from : ℕ → ℕ → Stmt
breaks_from own l = terminal (break l 0 Labeled) (Some (record { id = own; implicit = false }))

abbrev pub continues_to : ℕ → Stmt
continues_to l = terminal (continue l 0 Labeled) None

abbrev pub choice : List Stmt → Stmt
choice xs = terminal (if (place 0) (block xs) no_block 0) None

-- the statements in each place where a statement other than a Label has a block
abbrev pub ends : Term → Stmt
ends t = terminal t None

abbrev pub everywhere : List Stmt → List Stmt
everywhere xs =
    scope 0 (block xs) ∷ pruned 0 (block xs) ∷ ends (switch (place 0) (kcons None (some_block (block xs)) knil) 1) ∷ ends (do_while (block xs) value 2) ∷ ends (while value (block xs) 3) ∷ ends (for value value no_val (block xs) 4)
    ∷ ends (for_of value value (block xs) 5 0) ∷ ends (for_in value (block xs) 6 0) ∷ ends (if (place 0) (block xs) (some_block (block xs)) 7) ∷ ends (try (block xs) None (block xs) 9) ∷ []

abbrev pub body : List Stmt → Function
body xs = record { counters = record { blocks = 9; types = 0; ranges = 0 }; identifiers = []; scopes = []; body = block xs }

-- pruning the first gives the second
abbrev pub Prunes : List Stmt → List Stmt → Type 0
Prunes xs ys = prune_labels (body xs) ≡ body ys

-- ---- the table
pub record Examples : Type 0 where
  -- no jump inside; its statements stand in its place
  pub untargeted : Prunes (leaf 1 ∷ labeled 1 (leaf 2 ∷ leaf 3 ∷ []) ∷ leaf 4 ∷ []) (leaf 1 ∷ leaf 2 ∷ leaf 3 ∷ leaf 4 ∷ [])
  pub empty : Prunes (labeled 1 [] ∷ []) []
  -- a labeled Break inside, however deep
  pub targeted : Prunes (labeled 1 (breaks_to 1 ∷ []) ∷ []) (labeled 1 (breaks_to 1 ∷ []) ∷ [])
  pub targeted_from_inside : Prunes (labeled 1 (scope 0 (block (pruned 0 (block (choice (breaks_to 1 ∷ []) ∷ [])) ∷ [])) ∷ []) ∷ []) (labeled 1 (scope 0 (block (pruned 0 (block (choice (breaks_to 1 ∷ []) ∷ [])) ∷ [])) ∷ []) ∷ [])
  -- of two with one label the inner one is the target, and so is a loop
  pub inner_one : Prunes (labeled 1 (labeled 1 (breaks_to 1 ∷ []) ∷ []) ∷ []) (labeled 1 (breaks_to 1 ∷ []) ∷ [])
  pub inner_loop : Prunes (labeled 1 (loop 1 (breaks_to 1 ∷ continues_to 1 ∷ []) ∷ []) ∷ []) (loop 1 (breaks_to 1 ∷ continues_to 1 ∷ []) ∷ [])
  -- inside and outside at once
  pub both : Prunes (labeled 1 (labeled 2 (breaks_to 1 ∷ []) ∷ labeled 3 (leaf 5 ∷ []) ∷ []) ∷ []) (labeled 1 (breaks_to 1 ∷ leaf 5 ∷ []) ∷ [])
  -- a jump's own label is no target of it
  pub own_label : Prunes (labeled 1 (breaks_from 1 1 ∷ []) ∷ []) (labeled 1 (breaks_from 1 1 ∷ []) ∷ [])
  -- without a label, or with an implicit one
  pub no_label : Prunes (labeled 1 (unlabeled (breaks_to 1 ∷ []) ∷ []) ∷ []) (labeled 1 (breaks_to 1 ∷ []) ∷ [])
  pub implicit_label : Prunes (labeled 1 (implicitly 1 (breaks_to 1 ∷ []) ∷ []) ∷ []) (labeled 1 (breaks_to 1 ∷ []) ∷ [])
  -- in every statement
  pub in_every_statement : Prunes (everywhere (labeled 1 (leaf 2 ∷ []) ∷ [])) (everywhere (leaf 2 ∷ []))
  -- loops stay
  pub loops_stay : Prunes (loop 1 (leaf 1 ∷ []) ∷ []) (loop 1 (leaf 1 ∷ []) ∷ [])
