-- The pass as it is published: a walk with a state, on an environment that it changes as it goes. Assumes nothing.
use Rattle.std.specs.Prelude.{ℕ, ◌+◌, Bool, true, false, [], ◌∷◌, ◌++◌, Some, None, Option}
use Rattle.hir.specs.declared.place.Place.{Place}
use Rattle.hir.specs.declared.terminal.ReactiveLabel.{ReactiveLabel}
use Rattle.hir.specs.declared.environment.Identifier.{Identifier}
use Rattle.hir.specs.declared.environment.IdentifierName.TheVariants.{Promoted}
use Rattle.hir.specs.Tree.{Stmt, instruction, scope, pruned, terminal, Term, break, continue, return, throw, switch, do_while, while, for, for_of, for_in, if, label, try, Cases, knil, kcons, OptBlock, no_block, some_block, Block, nil, cons, Function}
use Rattle.semantics.specs.Exec.{records_of}
use Rattle.early_returns.specs.Statements.{opening, leaving}
use Rattle.early_returns.specs.Lowering.{Env, start, with_body, ids, blocks, fresh, change, with_record}

-- ---- the environment
-- create_temporary_place_id; the new identifier's number is `ids` before
abbrev pub create_temporary : ℕ → Env → Env
create_temporary span e = record {
  counters = record { blocks = blocks e; types = e.counters.types + 1; ranges = e.counters.ranges + 1 };
  identifiers = e.identifiers ++ (fresh (ids e) None e.counters.types e.counters.ranges span ∷ []);
  scopes = e.scopes;
}

-- an identifier with a promoted name, the number of its declaration
abbrev pub promoted : Identifier → Identifier
promoted i = record { declaration = i.declaration; name = Some (Promoted i.declaration); range = i.range; scope = i.scope; kind = i.kind; span = i.span }

-- promote_temporary
abbrev pub promote_temporary : ℕ → Env → Env
promote_temporary n e = record { counters = e.counters; identifiers = change e.identifiers n promoted; scopes = e.scopes }

-- next_block_id; the new label is `blocks` before
abbrev pub next_block : Env → Env
next_block e = record { counters = record { blocks = blocks e + 1; types = e.counters.types; ranges = e.counters.ranges }; identifiers = e.identifiers; scopes = e.scopes }

-- ---- the state
pub record EarlyReturnInfo : Type 0 where
  pub value : ℕ
  pub span : ℕ
  pub label : ℕ

-- with the environment beside it
pub record State : Type 0 where
  pub within_reactive_scope : Bool
  pub early_return_value : Option EarlyReturnInfo
  pub env : Env

-- ---- transform_terminal: what an open return's value and label are, and the environment then
abbrev pub early_return : Option EarlyReturnInfo → ℕ → Env → EarlyReturnInfo × Env
early_return (Some i) span e = (i, e)
early_return None span e =
    let p : Env = promote_temporary (ids e) (create_temporary span e) in
    (record { value = ids e; span = span; label = blocks p }, next_block p)

abbrev pub transform_return : Bool → Place → ℕ → Option ReactiveLabel → Option EarlyReturnInfo → Env → Block × State
transform_return false p i m early e = (cons (terminal (return p i) m) nil, record { within_reactive_scope = false; early_return_value = early; env = e })
transform_return true p i m early e =
    let r = early_return early p.span e in
    (leaving r.0.value r.0.label p nil, record { within_reactive_scope = true; early_return_value = Some r.0; env = r.1 })

-- ---- apply_early_return_to_scope
abbrev pub record_in : ℕ → EarlyReturnInfo → Env → Env
record_in x i e = record { counters = e.counters; identifiers = e.identifiers; scopes = change e.scopes x (with_record x (record { value = i.value; span = i.span; label = i.label })) }

abbrev pub apply_early_return : ℕ → Block → EarlyReturnInfo → Env → Block × Env
apply_early_return x b i e =
    let recorded : Env = record_in x i e in
    let sentinel : Env = create_temporary i.span recorded in
    let symbol : Env = create_temporary i.span sentinel in
    let for : Env = create_temporary i.span symbol in
    let arg : Env = create_temporary i.span for in
    (opening i.value (ids recorded) (ids sentinel) (ids symbol) (ids for) i.label i.span b, arg)

-- ---- visit_scope
abbrev pub inner : State → State
inner s = record { within_reactive_scope = true; early_return_value = s.early_return_value; env = s.env }

-- the way back from a scope's block, by the early return found, whether a scope is around, and the parent's early return
abbrev pub leave_scope : Option EarlyReturnInfo → Bool → Option EarlyReturnInfo → ℕ → Block → Env → Block × State
leave_scope None within parent x b e = (cons (scope x b) nil, record { within_reactive_scope = within; early_return_value = parent; env = e })
leave_scope (Some i) true parent x b e = (cons (scope x b) nil, record { within_reactive_scope = true; early_return_value = Some i; env = e })
leave_scope (Some i) false parent x b e =
    let r = apply_early_return x b i e in
    (cons (scope x r.0) nil, record { within_reactive_scope = false; early_return_value = parent; env = r.1 })

-- a scope with a record is not looked into
abbrev pub exit_early : Option ℕ → Block × State → Block × State → Block × State
exit_early (Some n) kept walked = kept
exit_early None kept walked = walked

-- ---- traverse_block
abbrev pub append : Block → Block → Block
append nil c = c
append (cons x b) c = cons x (append b c)

abbrev mutual
  pub walk_s : Stmt → State → Block × State
  walk_s (instruction i) s = (cons (instruction i) nil, s)
  walk_s (scope x b) s =
      exit_early (records_of s.env.scopes x) (cons (scope x b) nil, s)
      (let r = walk_b b (inner s) in leave_scope r.1.early_return_value s.within_reactive_scope s.early_return_value x r.0 r.1.env)
  walk_s (pruned x b) s = let r = walk_b b s in (cons (pruned x r.0) nil, r.1)
  walk_s (terminal t m) s = walk_t t m s

  pub walk_t : Term → Option ReactiveLabel → State → Block × State
  walk_t (break l i k) m s = (cons (terminal (break l i k) m) nil, s)
  walk_t (continue l i k) m s = (cons (terminal (continue l i k) m) nil, s)
  walk_t (return p i) m s = transform_return s.within_reactive_scope p i m s.early_return_value s.env
  walk_t (throw p i) m s = (cons (terminal (throw p i) m) nil, s)
  walk_t (switch p cs i) m s = let r = walk_k cs s in (cons (terminal (switch p r.0 i) m) nil, r.1)
  walk_t (do_while b v i) m s = let r = walk_b b s in (cons (terminal (do_while r.0 v i) m) nil, r.1)
  walk_t (while v b i) m s = let r = walk_b b s in (cons (terminal (while v r.0 i) m) nil, r.1)
  walk_t (for a v u b i) m s = let r = walk_b b s in (cons (terminal (for a v u r.0 i) m) nil, r.1)
  walk_t (for_of a v b i n) m s = let r = walk_b b s in (cons (terminal (for_of a v r.0 i n) m) nil, r.1)
  walk_t (for_in v b i n) m s = let r = walk_b b s in (cons (terminal (for_in v r.0 i n) m) nil, r.1)
  walk_t (if p b c i) m s = let r = walk_b b s in let q = walk_o c r.1 in (cons (terminal (if p r.0 q.0 i) m) nil, q.1)
  walk_t (label b i) m s = let r = walk_b b s in (cons (terminal (label r.0 i) m) nil, r.1)
  walk_t (try b p c i) m s = let r = walk_b b s in let q = walk_b c r.1 in (cons (terminal (try r.0 p q.0 i) m) nil, q.1)

  pub walk_k : Cases → State → Cases × State
  walk_k knil s = (knil, s)
  walk_k (kcons t b cs) s = let r = walk_o b s in let q = walk_k cs r.1 in (kcons t r.0 q.0, q.1)

  pub walk_o : OptBlock → State → OptBlock × State
  walk_o no_block s = (no_block, s)
  walk_o (some_block b) s = let r = walk_b b s in (some_block r.0, r.1)

  pub walk_b : Block → State → Block × State
  walk_b nil s = (nil, s)
  walk_b (cons x b) s = let r = walk_s x s in let q = walk_b b r.1 in (append r.0 q.0, q.1)

unfoldable pub propagate_early_returns : Function → Function
propagate_early_returns F =
    let r = walk_b F.body (record { within_reactive_scope = false; early_return_value = None; env = start F }) in
    with_body r.1.env r.0
