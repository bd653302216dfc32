-- The turns of a block and of its statements but terminals.
-- A statement's step is paid as it is taken from its block.
use Rattle.std.proofs.Common.{◌≡◌, ℕ, suc, ◌+◌, ◌-◌, ◌<◌, ◌≤◌, Bool, true, false, eqb, ltb, List, [], ◌∷◌, ◌++◌, length, Some, None, Option, sym, refl, ap, ◌∙◌, subst, add-zero, add-one, is_some, arith}
use Rattle.hir.specs.Numbers.{flag_number}
use mir.Val.{bool_byte}
use Rattle.std.proofs.lemmas.Bool.{lt-ltb, le-ltb}
use Rattle.hir.specs.declared.range.Range.{Range}
use Rattle.hir.specs.declared.value.ReactiveInstruction.{ReactiveInstruction}
use Rattle.hir.specs.declared.statement.ReactiveStatement.TheVariants as K
use Rattle.hir.specs.declared.statement.ReactiveScopeBlock.{ReactiveScopeBlock}
use Rattle.hir.specs.declared.statement.PrunedReactiveScopeBlock.{PrunedReactiveScopeBlock}
use Rattle.hir.specs.Decode.{Slots}
use Rattle.hir.specs.Options.{nth}
use Rattle.hir.specs.Tree.{Stmt, instruction, instr, scope, pruned, terminal, nil, cons}
use Rattle.semantics.specs.Machine.{Meaning, State, Result, normal, returned, done, spent, stepped, bind, branch, tick, enter, leave, look}
use Rattle.semantics.specs.Targets.{aim_b, aim_s}
use Rattle.semantics.specs.Exec.{run_s, within}
use Rattle.run.specs.declared.frame.Exit.{Exit}
use Rattle.run.specs.declared.frame.Exit.TheVariants as E
use Rattle.run.specs.declared.frame.Frame.{Frame}
use Rattle.run.specs.declared.frame.Frame.TheVariants as F
use Rattle.run.specs.Frames.{behind}
use Rattle.run.specs.Tasks.{Task, block, begun, value, assigns, leaves, around, act, resume, runs, begins}
use Rattle.run.specs.Turn.{Leads, Next, state_of}
use Rattle.run.proofs.Decoded.{block_in, block_deep, block_end, block_first_lem}
use Rattle.run.proofs.Stack.{later, closes}
use Rattle.run.proofs.StatementParts.{stmt_in, instruction_parts, scope_parts, pruned_parts}
use Rattle.run.proofs.Turning.{top, stay, goes, paying, snoc_length, next}

-- a bool as a number
pub byte_is : (b : Bool) → bool_byte b ≡ flag_number b
byte_is true = refl
byte_is false = refl

pub byte_low : (b : Bool) → bool_byte b ≤ 1
byte_low true = omega arith
byte_low false = omega arith

module _ {S : Type 0} (H : Meaning S) (B : ℕ) (rec : ℕ → Option ℕ) (a : Slots) (W : ℕ) (w : Result S) where
  ran : (x : Stmt) (s : State S) → ltb s.steps B ≡ true → run_s H (within H B) rec (suc B) x s ≡ begins H B rec x (stepped s)
  unfolding tick branch
  ran (instruction (instr i l v n)) s t = rw t
  ran (scope x b) s t = rw t
  ran (pruned x b) s t = rw t
  ran (terminal u m) s t = rw t

  unpaid : (x : Stmt) (s : State S) → ltb s.steps B ≡ false → run_s H (within H B) rec (suc B) x s ≡ spent s
  unfolding tick branch
  unpaid (instruction (instr i l v n)) s t = rw t
  unpaid (scope x b) s t = rw t
  unpaid (pruned x b) s t = rw t
  unpaid (terminal u m) s t = rw t

  module _ (fs : List Frame) {x : Exit} {h : S} {σ : List ℕ} {given steps entries : ℕ} {recorded : Bool} (n : x ≡ E.Normal) where
    -- ---- a block
    pub block_row : (r : Range) (d : ℕ) → Leads H B rec a W w (fs ++ F.Block r d ∷ []) x h σ given steps entries recorded → (r.start + r.count ≤ length a.entries) × (1 ≤ d)
    block_row r d ld =
        let m = (top H B rec a W w fs (F.Block r d) n ld).means in
        (block_in a d r m.0 m.2, block_deep a d r m.0 m.2)

    pub statement_slot : (k d : ℕ) → Leads H B rec a W w (fs ++ F.Statement k d ∷ []) x h σ given steps entries recorded → k < length a.statements
    statement_slot k d ld = let m = (top H B rec a W w fs (F.Statement k d) n ld).means in stmt_in a d k m.0 m.2

    pub on_block_end : (r : Range) (d : ℕ) → r.count ≡ 0
        → Leads H B rec a W w (fs ++ F.Block r d ∷ []) x h σ given steps entries recorded
        → Next H B rec a W w fs (F.Block r d) steps fs x h σ given steps entries recorded
    unfolding bind
    on_block_end r d z ld =
        let o = top H B rec a W w fs (F.Block r d) n ld in
        let m = o.means in
        stay H B rec a W w o (block nil) (m.1 ∙ ap block (block_end a d r m.0 m.2 z)) fs o.kont n h σ given entries o.stacked (omega arith) refl (omega arith)

    pub on_block_spent : (r : Range) (d k : ℕ) → 0 < r.count → nth a.entries r.start ≡ Some k → B ≤ steps
        → Leads H B rec a W w (fs ++ F.Block r d ∷ []) x h σ given steps entries recorded
        → Next H B rec a W w fs (F.Block r d) steps fs E.Spent h σ given steps entries recorded
    unfolding bind
    on_block_spent r d k c at b ld =
        let o = top H B rec a W w fs (F.Block r d) n ld in
        let m = o.means in
        let q = block_first_lem a d r m.0 m.2 k c at in
        let e = unpaid (aim_s q.0 (around o.kont)) (state_of h σ given steps entries recorded) (le-ltb steps B b) in
        goes H B rec a W w o (block (cons q.0 q.1)) (m.1 ∙ ap block q.2) fs o.kont E.Spent h σ given entries o.stacked (omega arith)
        (ap (λ (r : Result S). resume H B rec o.kont (bind r (λ t. runs H B rec (aim_b q.1 (around o.kont)) t))) (sym e))
        (omega arith)

    pub on_block_first : (r : Range) (d k : ℕ) → 0 < r.count → nth a.entries r.start ≡ Some k → steps < B
        → Leads H B rec a W w (fs ++ F.Block r d ∷ []) x h σ given steps entries recorded
        → Next H B rec a W w fs (F.Block r d) steps ((fs ++ F.Block (behind r 1) d ∷ []) ++ F.Statement k (d - 1) ∷ []) x h σ given (steps + 1) entries recorded
    unfolding bind
    on_block_first r d k c at b ld =
        let o = top H B rec a W w fs (F.Block r d) n ld in
        let m = o.means in
        let room = m.3 in
        let q = block_first_lem a d r m.0 m.2 k c at in
        let pos = q.5 in
        let len = snoc_length fs (F.Block (behind r 1) d) in
        let e = ran (aim_s q.0 (around o.kont)) (state_of h σ given steps entries recorded) (lt-ltb steps B b) in
        let is : o.task ≡ block (cons q.0 q.1) = m.1 ∙ ap block q.2 in
        let light = rw is at o.light in
        paying H B rec a W w o (block (cons q.0 q.1)) is _ (begun q.0 ∷ block q.1 ∷ o.kont) n h σ given entries (
          F.Statement k (d - 1),
          fs ++ F.Block (behind r 1) d ∷ [],
          refl,
          (q.0, refl, q.3, omega arith),
          (F.Block (behind r 1) d, fs, refl, (q.1, refl, q.4, omega arith), later a B W steps (suc steps) fs o.kont (omega arith) o.stacked),
        )
        (omega arith)
        b
        (ap (λ (r : Result S). resume H B rec o.kont (bind r (λ t. runs H B rec (aim_b q.1 (around o.kont)) t))) (sym e))
        (omega arith)

    -- ---- a statement
    pub on_instruction : (k d : ℕ) (i : ReactiveInstruction) → nth a.statements k ≡ Some (K.Instruction i)
        → Leads H B rec a W w (fs ++ F.Statement k d ∷ []) x h σ given steps entries recorded
        → Next H B rec a W w fs (F.Statement k d) steps ((fs ++ F.Assigns i.lvalue ∷ []) ++ F.Value i.value 64 ∷ []) x h σ given steps entries recorded
    unfolding bind
    on_instruction k d i at ld =
        let o = top H B rec a W w fs (F.Statement k d) n ld in
        let m = o.means in
        let room = m.3 in
        let q = instruction_parts a d k m.0 m.2 i at in
        let len = snoc_length fs (F.Assigns i.lvalue) in
        stay H B rec a W w o (begun (instruction (instr i.id i.lvalue q.0 i.span))) (m.1 ∙ ap begun q.1) _ (value q.0 ∷ assigns i.lvalue ∷ o.kont) n h σ given entries
        (F.Value i.value 64, fs ++ F.Assigns i.lvalue ∷ [], refl, (q.0, refl, q.2, omega arith), (F.Assigns i.lvalue, fs, refl, refl, o.stacked))
        (omega arith)
        refl
        (omega arith)

    pub on_pruned : (k d : ℕ) (b : PrunedReactiveScopeBlock) → nth a.statements k ≡ Some (K.PrunedScope b)
        → Leads H B rec a W w (fs ++ F.Statement k d ∷ []) x h σ given steps entries recorded
        → Next H B rec a W w fs (F.Statement k d) steps (fs ++ F.Block b.instructions d ∷ []) x h σ given steps entries recorded
    unfolding bind
    on_pruned k d b at ld =
        let o = top H B rec a W w fs (F.Statement k d) n ld in
        let m = o.means in
        let room = m.3 in
        let q = pruned_parts a d k m.0 m.2 b at in
        stay H B rec a W w o (begun (pruned b.scope q.0)) (m.1 ∙ ap begun q.1) _ (block q.0 ∷ o.kont) n h σ given entries
        (F.Block b.instructions d, fs, refl, (q.0, refl, q.2, omega arith), o.stacked)
        (omega arith)
        refl
        (omega arith)

    on_scope_plain : (k d : ℕ) (b : ReactiveScopeBlock) → nth a.statements k ≡ Some (K.Scope b) → rec b.scope ≡ None
        → Leads H B rec a W w (fs ++ F.Statement k d ∷ []) x h σ given steps entries recorded
        → Next H B rec a W w fs (F.Statement k d) steps ((fs ++ F.Leaves None ∷ []) ++ F.Block b.instructions d ∷ []) x h σ given steps entries recorded
    unfolding bind enter
    on_scope_plain k d b at er ld =
        let o = top H B rec a W w fs (F.Statement k d) n ld in
        let m = o.means in
        let room = m.3 in
        let q = scope_parts a d k m.0 m.2 b at in
        let len = snoc_length fs (F.Leaves None) in
        stay H B rec a W w o (begun (scope b.scope q.0)) (m.1 ∙ ap begun q.1) _ (block q.0 ∷ leaves None ∷ o.kont) n h σ given entries
        (F.Block b.instructions d, fs ++ F.Leaves None ∷ [], refl, (q.0, refl, q.2, omega arith), (F.Leaves None, fs, refl, refl, o.stacked))
        (omega arith)
        (rw er)
        (omega arith)

    on_scope_recorded : (k d i : ℕ) (b : ReactiveScopeBlock) (entries' : ℕ) → entries' ≡ suc entries → nth a.statements k ≡ Some (K.Scope b) → rec b.scope ≡ Some i
        → Leads H B rec a W w (fs ++ F.Statement k d ∷ []) x h σ given steps entries recorded
        → Next H B rec a W w fs (F.Statement k d) steps ((fs ++ F.Leaves (Some i) ∷ []) ++ F.Block b.instructions d ∷ []) x h σ given steps entries' recorded
    unfolding bind enter
    on_scope_recorded k d i b entries' ee at er ld =
        let o = top H B rec a W w fs (F.Statement k d) n ld in
        let m = o.means in
        let room = m.3 in
        let q = scope_parts a d k m.0 m.2 b at in
        let len = snoc_length fs (F.Leaves (Some i)) in
        stay H B rec a W w o (begun (scope b.scope q.0)) (m.1 ∙ ap begun q.1) _ (block q.0 ∷ leaves (Some i) ∷ o.kont) n h σ given entries'
        (F.Block b.instructions d, fs ++ F.Leaves (Some i) ∷ [], refl, (q.0, refl, q.2, omega arith), (F.Leaves (Some i), fs, refl, refl, o.stacked))
        (omega arith)
        (rw (er, ee))
        (omega arith)

    -- by what its record names
    pub on_scope : (k d : ℕ) (o : Option ℕ) (b : ReactiveScopeBlock) (entries' : ℕ) → entries' ≡ entries + flag_number (is_some o) → nth a.statements k ≡ Some (K.Scope b) → rec b.scope ≡ o
        → Leads H B rec a W w (fs ++ F.Statement k d ∷ []) x h σ given steps entries recorded
        → Next H B rec a W w fs (F.Statement k d) steps ((fs ++ F.Leaves o ∷ []) ++ F.Block b.instructions d ∷ []) x h σ given steps entries' recorded
    on_scope k d (Some i) b entries' ee at er ld = on_scope_recorded k d i b entries' (ee ∙ add-one entries) at er ld
    on_scope k d None b entries' ee at er ld = let e = ee ∙ add-zero entries in rw e (on_scope_plain k d b at er ld)

    -- the step of a begun statement leaves room for an entry
    pub entry_room : (k d : ℕ) → Leads H B rec a W w (fs ++ F.Statement k d ∷ []) x h σ given steps entries recorded → entries < B
    entry_room k d ld =
        let o = top H B rec a W w fs (F.Statement k d) n ld in
        let c = rw o.means.1 at o.counted in
        let p = o.paid in
        omega arith

    -- ---- a scope's end
    pub on_leaves_none : Leads H B rec a W w (fs ++ F.Leaves None ∷ []) x h σ given steps entries recorded
        → Next H B rec a W w fs (F.Leaves None) steps fs x h σ given steps entries recorded
    unfolding bind leave
    on_leaves_none ld =
        let o = top H B rec a W w fs (F.Leaves None) n ld in
        stay H B rec a W w o (leaves None) o.means fs o.kont n h σ given entries o.stacked (omega arith) refl (omega arith)

    pub on_leaves_empty : (i : ℕ) → eqb (look σ i) 1 ≡ true → Leads H B rec a W w (fs ++ F.Leaves (Some i) ∷ []) x h σ given steps entries recorded
        → Next H B rec a W w fs (F.Leaves (Some i)) steps fs x h σ given steps entries recorded
    unfolding bind leave branch
    on_leaves_empty i e ld =
        let o = top H B rec a W w fs (F.Leaves (Some i)) n ld in
        stay H B rec a W w o (leaves (Some i)) o.means fs o.kont n h σ given entries o.stacked (omega arith) (rw e) (omega arith)

    returns_once : (i v : ℕ) → recorded ≡ false → v ≡ look σ i → eqb v 1 ≡ false
        → done (returned v) (state_of h σ given steps entries true) ≡ leave (Some i) (state_of h σ given steps entries recorded)
    unfolding leave branch
    returns_once i v er ev e = let e' : eqb (look σ i) 1 ≡ false = rw ev at e in rw (e', er, ev)

    pub on_leaves_return : (i v : ℕ) → v ≡ look σ i → eqb v 1 ≡ false → Leads H B rec a W w (fs ++ F.Leaves (Some i) ∷ []) x h σ given steps entries recorded
        → Next H B rec a W w fs (F.Leaves (Some i)) steps fs (E.Returned v) h σ given steps entries true
    unfolding bind
    on_leaves_return i v ev e ld =
        let o = top H B rec a W w fs (F.Leaves (Some i)) n ld in
        let is = o.means in
        let c = rw is at o.counted in
        let s = subst (λ (t : Task). resume H B rec o.kont (act H B rec (around o.kont) t (done normal (state_of h σ given steps entries recorded))) ≡ w) is o.same in
        next (closes H B rec a W w o fs (E.Returned v) h σ given entries true o.kont o.stacked (rw is (omega arith)) (ap (resume H B rec o.kont) (returns_once i v o.calm ev e) ∙ s) (omega arith) tt)

    -- by what the frame names
    pub leaves_none : (r : Option ℕ) → r ≡ None → Leads H B rec a W w (fs ++ F.Leaves r ∷ []) x h σ given steps entries recorded
        → Next H B rec a W w fs (F.Leaves r) steps fs x h σ given steps entries recorded
    leaves_none r e ld = let l' = rw e at ld in rw e (on_leaves_none l')

    pub leaves_empty : (r : Option ℕ) (i : ℕ) → r ≡ Some i → eqb (look σ i) 1 ≡ true → Leads H B rec a W w (fs ++ F.Leaves r ∷ []) x h σ given steps entries recorded
        → Next H B rec a W w fs (F.Leaves r) steps fs x h σ given steps entries recorded
    leaves_empty r i e q ld = let l' = rw e at ld in rw e (on_leaves_empty i q l')

    pub leaves_return : (r : Option ℕ) (i v : ℕ) → r ≡ Some i → v ≡ look σ i → eqb v 1 ≡ false → Leads H B rec a W w (fs ++ F.Leaves r ∷ []) x h σ given steps entries recorded
        → Next H B rec a W w fs (F.Leaves r) steps fs (E.Returned v) h σ given steps entries true
    leaves_return r i v e ev q ld = let l' = rw e at ld in rw e (on_leaves_return i v ev q l')
