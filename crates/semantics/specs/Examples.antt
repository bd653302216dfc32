-- Worked examples of the run: small functions, and what comes out of each. Assumes nothing.
use Rattle.std.specs.Prelude.{◌≡◌, ℕ, ◌-◌, Bool, true, false, List, [], ◌∷◌, length, Some, None, Option}
use Rattle.hir.specs.declared.place.Place.{Place}
use Rattle.hir.specs.declared.place.Effect.TheVariants.{Read}
use Rattle.hir.specs.declared.value.LogicalOperator.TheVariants.{Or}
use Rattle.hir.specs.declared.terminal.ReactiveTerminalTargetKind.TheVariants.{Implicit, Labeled, Unlabeled}
use Rattle.hir.specs.declared.environment.ReactiveScopeEarlyReturn.{ReactiveScopeEarlyReturn}
use Rattle.hir.specs.Tree.{Val, operation, logical, sequence, some_val, Instr, instr, inil, icons, Stmt, instruction, scope, pruned, terminal, Term, break, continue, return, throw, switch, do_while, while, for, label, try, Cases, knil, kcons, some_block, Block, nil, cons, Function}
use Rattle.host.specs.Hosts.{list_answer, list_next, list_keeps, number_answer, number_next, number_keeps}
use Rattle.semantics.specs.Machine.{Meaning, Result}
use Rattle.semantics.specs.Exec.{exec, ran, last}
use Rattle.semantics.specs.declared.Outcome.{Outcome}
use Rattle.semantics.specs.declared.Outcome.TheVariants.{Returned, Thrown, Ended, Spent}
use Rattle.semantics.specs.declared.Ran.{Ran}

-- the two hosts as meanings
abbrev pub number_host : Meaning (Unit {0})
number_host = record { answer = number_answer; next = number_next; keeps = number_keeps }

abbrev pub list_host : Meaning (List ℕ)
list_host = record { answer = list_answer; next = list_next; keeps = list_keeps }

-- ---- short words for trees; ids, spans and effects play no part in a run
abbrev pub place : ℕ → Place
place i = record { identifier = i; effect = Read; reactive = false; span = 0 }

abbrev pub places : List ℕ → List Place
places [] = []
places (i ∷ is) = place i ∷ places is

abbrev pub block : List Stmt → Block
block [] = nil
block (x ∷ xs) = cons x (block xs)

-- a value of this kind and payload, which writes and reads these places
abbrev pub op : ℕ → ℕ → List ℕ → List ℕ → Val
op k p ws is = operation (record { kind = k; payload = p; written = places ws; operands = places is; span = 0 })

-- LoadLocal: what the place i holds
abbrev pub load : ℕ → Val
load i = op 0 0 [] (i ∷ [])

-- a BinaryExpression, which asks the host with this payload on what the places hold
abbrev pub asking : ℕ → List ℕ → Val
asking p is = op 9 p [] is

-- i := v
abbrev pub gets : ℕ → Val → Instr
gets i v = instr 0 (Some (place i)) v 0

abbrev pub into : ℕ → Val → Stmt
into i v = instruction (gets i v)

-- StoreLocal: i := j
abbrev pub copy : ℕ → ℕ → Stmt
copy i j = instruction (instr 0 None (op 4 0 (i ∷ []) (j ∷ [])) 0)

abbrev pub plain : Term → Stmt
plain t = terminal t None

-- l: t
abbrev pub labeled : ℕ → Term → Stmt
labeled l t = terminal t (Some (record { id = l; implicit = false }))

abbrev pub give : ℕ → Stmt
give i = plain (return (place i) 0)

abbrev pub quit : Stmt
quit = plain (break 0 0 Unlabeled)

abbrev pub again : Stmt
again = plain (continue 0 0 Unlabeled)

abbrev pub case : Option ℕ → List Stmt → Cases → Cases
case None xs cs = kcons None (some_block (block xs)) cs
case (Some i) xs cs = kcons (Some (place i)) (some_block (block xs)) cs

-- a function with one scope, which has no record, or one that names the place i
abbrev pub with_scope : Option ReactiveScopeEarlyReturn → List Stmt → Function
with_scope r xs = record { counters = record { blocks = 8; types = 0; ranges = 0 }; identifiers = []; scopes = record { early = r; declarations = [] } ∷ []; body = block xs }

abbrev pub function : List Stmt → Function
function xs = with_scope None xs

abbrev pub recording : ℕ → List Stmt → Function
recording i xs = with_scope (Some (record { value = i; span = 0; label = 7 })) xs

-- ---- the functions
abbrev pub nothing : Function
nothing = function []

-- scope { return 0 }
abbrev pub one_return : Function
one_return = function (scope 0 (block (give 0 ∷ [])) ∷ [])

-- the same, lowered by hand:
-- scope, recording 1 { 3 := Symbol; 4 := 3.for; 5 := "react.early_return_sentinel"; 2 := 4(5); 1 := 2; 7: { 1 := 0; break 7 } }
abbrev pub one_return_lowered : Function
one_return_lowered = recording 1
    (scope 0 (block
    (into 3 (op 28 1 [] [])
    ∷ into 4 (op 23 2 [] (3 ∷ []))
    ∷ into 5 (op 7 3 [] [])
    ∷ into 2 (op 12 0 [] (3 ∷ 4 ∷ 5 ∷ []))
    ∷ copy 1 2
    ∷ labeled 7 (label (block (copy 1 0 ∷ plain (break 7 0 Labeled) ∷ [])) 0)
    ∷ [])) ∷ [])

-- scope, recording 1 { }; return 0
abbrev pub empty_scope : Function
empty_scope = recording 1 (scope 0 nil ∷ give 0 ∷ [])

-- the same with a scope that is pruned
abbrev pub empty_pruned : Function
empty_pruned = recording 1 (pruned 0 nil ∷ give 0 ∷ [])

-- while (ask) { 0 := 1 }
abbrev pub a_while : Function
a_while = function (plain (while (asking 0 []) (block (copy 0 1 ∷ [])) 0) ∷ [])

-- while (0) { }
abbrev pub forever : Function
forever = function (plain (while (load 0) nil 0) ∷ [])

-- do { 0 := 1; continue; 2 := 1 } while (ask)
abbrev pub a_do_while : Function
a_do_while = function (plain (do_while (block (copy 0 1 ∷ again ∷ copy 2 1 ∷ [])) (asking 0 []) 0) ∷ [])

-- for (0 := 3; 0; 0 := 0 - 1) { 1 := 0; continue; 2 := 0 }
abbrev pub a_for : Function
a_for = function (plain (for
    (sequence (icons (gets 0 (asking 3 [])) inil) 0 (load 0))
    (load 0)
    (some_val (sequence (icons (gets 0 (asking 4294967295 (0 ∷ []))) inil) 0 (load 0)))
    (block (copy 1 0 ∷ again ∷ copy 2 0 ∷ [])) 0) ∷ [])

-- switch (0) { case 1: 3 := 0; default: 4 := 0; case 2: 5 := 0; break; case 2: 6 := 0 }
abbrev pub a_switch : Function
a_switch = function (plain (switch (place 0)
    (case (Some 1) (copy 3 0 ∷ [])
    (case None (copy 4 0 ∷ [])
    (case (Some 2) (copy 5 0 ∷ quit ∷ [])
    (case (Some 2) (copy 6 0 ∷ []) knil)))) 0) ∷ [])

-- try { 1 := 0; throw 1; 2 := 0 } catch (3) { return 3 }
abbrev pub a_try : Function
a_try = function (plain (try (block (copy 1 0 ∷ plain (throw (place 1) 0) ∷ copy 2 0 ∷ [])) (Some (place 3)) (block (give 3 ∷ [])) 0) ∷ [])

-- try { 0 := ask } catch (1) { }
abbrev pub a_question_tried : Function
a_question_tried = function (plain (try (block (into 0 (asking 0 []) ∷ [])) (Some (place 1)) nil 0) ∷ [])

-- 7: while (0) { while (0) { break 7 } }; return 0
abbrev pub two_loops_left : Function
two_loops_left = function (labeled 7 (while (load 0) (block (plain (while (load 0) (block (plain (break 7 0 Labeled) ∷ [])) 0) ∷ [])) 0) ∷ give 0 ∷ [])

-- 7: while (ask) { do { continue 7 } while (ask) }
abbrev pub outer_continued : Function
outer_continued = function (labeled 7 (while (asking 0 []) (block (plain (do_while (block (plain (continue 7 0 Labeled) ∷ [])) (asking 0 []) 0) ∷ [])) 0) ∷ [])

-- break; continue 7; break 7 (implicit); return 0: three jumps that do nothing
abbrev pub idle_jumps : Function
idle_jumps = function (quit ∷ plain (continue 7 0 Labeled) ∷ plain (break 7 0 Implicit) ∷ give 0 ∷ [])

-- 2 := 0 || 1
abbrev pub a_logical : Function
a_logical = function (into 2 (logical Or (load 0) (load 1)) ∷ [])

-- a Destructure: 4 := ask for 0, storing to 1, 2, 3
abbrev pub a_destructure : Function
a_destructure = function (into 4 (op 6 2 (1 ∷ 2 ∷ 3 ∷ []) (0 ∷ [])) ∷ [])

-- ---- a row of the table
-- whom the run asks: the number host, or the list host with what is handed in
pub data Asks : Type 0 where
  numbers : Asks
  answers : List ℕ → Asks

-- what a run shows: its answer, the store after it, and how many answers of the list were taken
pub record Shown : Type 0 where
  pub ran : Ran
  pub store : List ℕ
  pub taken : ℕ

abbrev pub shows : Function → Asks → List ℕ → ℕ → Shown
shows F numbers σ B = let r : Result (Unit {0}) = exec number_host F B tt σ in record { ran = ran r; store = (last r).store; taken = 0 }
shows F (answers xs) σ B = let r : Result (List ℕ) = exec list_host F B xs σ in record { ran = ran r; store = (last r).store; taken = length xs - length (last r).host }

pub record Example : Type 0 where
  pub function : Function
  pub asks : Asks
  pub store : List ℕ
  pub budget : ℕ
  pub shown : Shown

-- the outcome, the steps, the entries to recorded scopes, whether a record returned, the store, and the answers taken
abbrev pub gives : Outcome → ℕ → ℕ → Bool → List ℕ → ℕ → Shown
gives o n e r σ k = record { ran = record { outcome = o; steps = n; entries = e; recorded = r }; store = σ; taken = k }

abbrev pub row : Function → Asks → List ℕ → ℕ → Shown → Example
row F a σ B w = record { function = F; asks = a; store = σ; budget = B; shown = w }

-- function, host, store and budget; then what comes out
abbrev pub table : List Example
table =
    row nothing numbers [] 0 (gives Ended 0 0 false [] 0)
    -- a scope with one return, and the same lowered
    ∷ row one_return numbers (5 ∷ []) 2 (gives (Returned 5) 2 0 false (5 ∷ []) 0)
    ∷ row one_return numbers (5 ∷ []) 1 (gives Spent 1 0 false (5 ∷ []) 0)
    ∷ row one_return_lowered numbers (5 ∷ 0 ∷ 0 ∷ 0 ∷ 0 ∷ 0 ∷ []) 9 (gives (Returned 5) 9 1 true (5 ∷ 5 ∷ 1 ∷ 2 ∷ 3 ∷ 4 ∷ []) 0)
    ∷ row one_return_lowered numbers (5 ∷ 0 ∷ 0 ∷ 0 ∷ 0 ∷ 0 ∷ []) 8 (gives Spent 8 1 false (5 ∷ 5 ∷ 1 ∷ 2 ∷ 3 ∷ 4 ∷ []) 0)
    -- records: the sentinel 1 goes on, any other value returns; a pruned scope tests nothing
    ∷ row empty_scope numbers (5 ∷ 1 ∷ []) 100 (gives (Returned 5) 2 1 false (5 ∷ 1 ∷ []) 0)
    ∷ row empty_scope numbers (5 ∷ 8 ∷ []) 100 (gives (Returned 8) 1 1 true (5 ∷ 8 ∷ []) 0)
    ∷ row empty_pruned numbers (5 ∷ 8 ∷ []) 100 (gives (Returned 5) 2 0 false (5 ∷ 8 ∷ []) 0)
    -- loops: each round takes a value and a test; an answer that is missing is a throw of 0
    ∷ row a_while (answers (8 ∷ 1 ∷ 9 ∷ 0 ∷ 7 ∷ [])) (5 ∷ 6 ∷ []) 100 (gives Ended 4 0 false (6 ∷ 6 ∷ []) 4)
    ∷ row a_while (answers (8 ∷ 1 ∷ 9 ∷ 0 ∷ 7 ∷ [])) (5 ∷ 6 ∷ []) 3 (gives Spent 3 0 false (6 ∷ 6 ∷ []) 2)
    ∷ row a_while (answers (8 ∷ 1 ∷ [])) (5 ∷ 6 ∷ []) 100 (gives (Thrown 0) 4 0 false (6 ∷ 6 ∷ []) 2)
    ∷ row forever numbers (1 ∷ []) 1000 (gives Spent 1000 0 false (1 ∷ []) 0)
    ∷ row a_do_while (answers (8 ∷ 1 ∷ 9 ∷ 0 ∷ [])) (5 ∷ 6 ∷ 7 ∷ []) 100 (gives Ended 7 0 false (6 ∷ 6 ∷ 7 ∷ []) 4)
    ∷ row a_for numbers (0 ∷ 0 ∷ 0 ∷ []) 100 (gives Ended 15 0 false (0 ∷ 1 ∷ 0 ∷ []) 0)
    -- a switch: the first yes and on from there to the break; with no yes the default, wherever it stands
    ∷ row a_switch (answers (1 ∷ [])) (9 ∷ 1 ∷ 2 ∷ 0 ∷ 0 ∷ 0 ∷ 0 ∷ []) 100 (gives Ended 5 0 false (9 ∷ 1 ∷ 2 ∷ 9 ∷ 9 ∷ 9 ∷ 0 ∷ []) 1)
    ∷ row a_switch (answers (0 ∷ 1 ∷ [])) (9 ∷ 1 ∷ 2 ∷ 0 ∷ 0 ∷ 0 ∷ 0 ∷ []) 100 (gives Ended 3 0 false (9 ∷ 1 ∷ 2 ∷ 0 ∷ 0 ∷ 9 ∷ 0 ∷ []) 2)
    ∷ row a_switch (answers (0 ∷ 0 ∷ 0 ∷ [])) (9 ∷ 1 ∷ 2 ∷ 0 ∷ 0 ∷ 0 ∷ 0 ∷ []) 100 (gives Ended 4 0 false (9 ∷ 1 ∷ 2 ∷ 0 ∷ 9 ∷ 9 ∷ 0 ∷ []) 3)
    -- a try: the binding gets what was thrown, by a statement or by the host
    ∷ row a_try numbers (5 ∷ 0 ∷ 0 ∷ 0 ∷ []) 4 (gives (Returned 5) 4 0 false (5 ∷ 5 ∷ 0 ∷ 5 ∷ []) 0)
    ∷ row a_try numbers (5 ∷ 0 ∷ 0 ∷ 0 ∷ []) 3 (gives Spent 3 0 false (5 ∷ 5 ∷ 0 ∷ 5 ∷ []) 0)
    ∷ row a_question_tried (answers []) (5 ∷ 6 ∷ []) 100 (gives Ended 2 0 false (5 ∷ 0 ∷ []) 0)
    -- jumps
    ∷ row two_loops_left numbers (5 ∷ []) 100 (gives (Returned 5) 6 0 false (5 ∷ []) 0)
    ∷ row outer_continued (answers (8 ∷ 1 ∷ 9 ∷ 0 ∷ [])) [] 100 (gives Ended 6 0 false [] 4)
    ∷ row idle_jumps numbers (5 ∷ []) 100 (gives (Returned 5) 4 0 false (5 ∷ []) 0)
    -- values: no gives the left, yes the right; written places are stored one by one, and the answer at position 0 is the value
    ∷ row a_logical (answers (0 ∷ [])) (5 ∷ 6 ∷ 7 ∷ []) 100 (gives Ended 1 0 false (5 ∷ 6 ∷ 5 ∷ []) 1)
    ∷ row a_logical (answers (1 ∷ [])) (5 ∷ 6 ∷ 7 ∷ []) 100 (gives Ended 1 0 false (5 ∷ 6 ∷ 6 ∷ []) 1)
    ∷ row a_destructure (answers (10 ∷ 11 ∷ 12 ∷ 13 ∷ [])) (5 ∷ 0 ∷ 0 ∷ 0 ∷ 0 ∷ []) 100 (gives Ended 1 0 false (5 ∷ 11 ∷ 12 ∷ 13 ∷ 10 ∷ []) 4)
    ∷ row a_destructure (answers (10 ∷ 11 ∷ [])) (5 ∷ 0 ∷ 0 ∷ 0 ∷ 0 ∷ []) 100 (gives (Thrown 0) 1 0 false (5 ∷ 11 ∷ 0 ∷ 0 ∷ 0 ∷ []) 2)
    ∷ []

abbrev pub came_out : List Example → List Shown
came_out [] = []
came_out (x ∷ xs) = shows x.function x.asks x.store x.budget ∷ came_out xs

abbrev pub listed : List Example → List Shown
listed [] = []
listed (x ∷ xs) = x.shown ∷ listed xs

-- every row comes out as listed
abbrev pub AsListed : Type 0
AsListed = came_out table ≡ listed table
