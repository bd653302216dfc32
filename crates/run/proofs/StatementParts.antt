-- The parts of a statement in its slot.
-- Each form has one lemma, as in Decoded.
use Rattle.std.proofs.Common.{◌≡◌, ℕ, ◌<◌, List, length, Some, Option, sym, ap, ◌∙◌}
use Rattle.hir.specs.declared.place.Place.{Place}
use Rattle.hir.specs.declared.range.Range.{Range}
use Rattle.hir.specs.declared.value.ReactiveInstruction.{ReactiveInstruction}
use Rattle.hir.specs.declared.statement.ReactiveStatement.{ReactiveStatement}
use Rattle.hir.specs.declared.statement.ReactiveStatement.TheVariants as S
use Rattle.hir.specs.declared.statement.ReactiveScopeBlock.{ReactiveScopeBlock}
use Rattle.hir.specs.declared.statement.PrunedReactiveScopeBlock.{PrunedReactiveScopeBlock}
use Rattle.hir.specs.declared.terminal.ReactiveTerminal.{ReactiveTerminal}
use Rattle.hir.specs.declared.terminal.ReactiveTerminal.TheVariants as R
use Rattle.hir.specs.declared.terminal.ReactiveTerminalStatement.{ReactiveTerminalStatement}
use Rattle.hir.specs.declared.terminal.ReactiveSwitchCase.{ReactiveSwitchCase}
use Rattle.hir.specs.Options.{bind, nth, part}
use Rattle.hir.specs.Decode.{Slots, instr_of, top_value, opt_value_of, opt_block_of, cases_of, term_of, stmt_of, block_of}
use Rattle.hir.specs.Tree.{Val, OptVal, instr, Stmt, instruction, scope, pruned, terminal, Term, switch, do_while, while, for, for_of, for_in, if, label, try, Cases, OptBlock, Block}
use Rattle.run.specs.declared.frame.Loop.TheVariants.{TestFirst, BlockFirst, Updating}
use Rattle.run.specs.Frames.{value_at, block_at, stmt_at, cases_at, loop_at}
use Rattle.run.specs.Tasks.{test_first, block_first, updating}
use Rattle.run.proofs.Rows.{bound, some_is, nth_in}

pub top_at : (a : Slots) (k : ℕ) (v : Val) → top_value a.inner k ≡ Some v → value_at 64 a.inner k ≡ Some v
unfolding top_value value_at
top_at a k v e = e

module _ (a : Slots) (d k : ℕ) (x : Stmt) (e : stmt_at d a k ≡ Some x) where
  pub stmt_in : k < length a.statements
  unfolding stmt_at
  stmt_in = let p = bound (nth a.statements k) _ x e in nth_in a.statements k p.0 p.1

  stmt_open : (z : ReactiveStatement) → nth a.statements k ≡ Some z → stmt_of a (top_value a.inner) (block_of d a) z ≡ Some x
  unfolding stmt_at
  stmt_open z at = sym (ap (λ (o : Option ReactiveStatement). bind o (stmt_of a (top_value a.inner) (block_of d a))) at) ∙ e

  pub instruction_parts : (i : ReactiveInstruction) → nth a.statements k ≡ Some (S.Instruction i)
      → (v : Val) × (x ≡ instruction (instr i.id i.lvalue v i.span)) × (value_at 64 a.inner i.value ≡ Some v)
  instruction_parts i at =
      let p = bound (instr_of (top_value a.inner) i) _ x (stmt_open _ at) in
      let q = bound (top_value a.inner i.value) _ p.0 p.1 in
      (q.0, sym (some_is p.2) ∙ ap instruction (sym (some_is q.2)), top_at a i.value q.0 q.1)

  pub scope_parts : (b : ReactiveScopeBlock) → nth a.statements k ≡ Some (S.Scope b) → (y : Block) × (x ≡ scope b.scope y) × (block_at d a b.instructions ≡ Some y)
  unfolding block_at
  scope_parts b at = let p = bound (block_of d a b.instructions) _ x (stmt_open _ at) in (p.0, sym (some_is p.2), p.1)

  pub pruned_parts : (b : PrunedReactiveScopeBlock) → nth a.statements k ≡ Some (S.PrunedScope b) → (y : Block) × (x ≡ pruned b.scope y) × (block_at d a b.instructions ≡ Some y)
  unfolding block_at
  pruned_parts b at = let p = bound (block_of d a b.instructions) _ x (stmt_open _ at) in (p.0, sym (some_is p.2), p.1)

  pub terminal_parts : (t : ReactiveTerminalStatement) → nth a.statements k ≡ Some (S.Terminal t)
      → (u : Term) × (x ≡ terminal u t.label) × (term_of a (top_value a.inner) (block_of d a) t.terminal ≡ Some u)
  terminal_parts t at = let p = bound (term_of a (top_value a.inner) (block_of d a) t.terminal) _ x (stmt_open _ at) in (p.0, sym (some_is p.2), p.1)

module _ (a : Slots) (d : ℕ) (v : ℕ) (b : Range) (x : Val) (y : Block) (ev : top_value a.inner v ≡ Some x) (eb : block_at d a b ≡ Some y) where
  test_first_lem : loop_at d a (TestFirst v b) ≡ Some (test_first x y)
  unfolding loop_at
  test_first_lem = rw (ev, eb)

  block_first_lem : loop_at d a (BlockFirst b v) ≡ Some (block_first y x)
  unfolding loop_at
  block_first_lem = rw (eb, ev)

  updated : (o : Option ℕ) (w : OptVal) → opt_value_of (top_value a.inner) o ≡ Some w → loop_at d a (Updating v o b) ≡ Some (updating x w y)
  unfolding loop_at
  updated o w eo = rw (ev, eo, eb)

module _ (a : Slots) (d : ℕ) (u : Term) where
  abbrev pub Stands : ReactiveTerminal → Type 0
  Stands t = term_of a (top_value a.inner) (block_of d a) t ≡ Some u

  pub switch_parts : (p : Place) (r : Range) (i : ℕ) → Stands (R.Switch p r i) → (cs : Cases) × (u ≡ switch p cs i) × (cases_at d a r ≡ Some cs)
  unfolding cases_at
  switch_parts p r i e =
      let q = bound (part a.cases r) _ u e in
      let s = bound (cases_of (block_of d a) q.0) _ u q.2 in
      (s.0, sym (some_is s.2), ap (λ (o : Option (List ReactiveSwitchCase)). bind o (cases_of (block_of d a))) q.1 ∙ s.1)

  pub do_while_parts : (b : Range) (v i : ℕ) → Stands (R.DoWhile b v i) → (y : Block) × (x : Val) × (u ≡ do_while y x i) × (loop_at d a (BlockFirst b v) ≡ Some (block_first y x))
  unfolding block_at
  do_while_parts b v i e =
      let q = bound (block_of d a b) _ u e in
      let s = bound (top_value a.inner v) _ u q.2 in
      (q.0, s.0, sym (some_is s.2), block_first_lem a d v b s.0 q.0 s.1 q.1)

  pub while_parts : (v : ℕ) (b : Range) (i : ℕ) → Stands (R.While v b i) → (x : Val) × (y : Block) × (u ≡ while x y i) × (loop_at d a (TestFirst v b) ≡ Some (test_first x y))
  unfolding block_at
  while_parts v b i e =
      let q = bound (top_value a.inner v) _ u e in
      let s = bound (block_of d a b) _ u q.2 in
      (q.0, s.0, sym (some_is s.2), test_first_lem a d v b q.0 s.0 q.1 s.1)

  pub for_in_parts : (v : ℕ) (b : Range) (i n : ℕ) → Stands (R.ForIn v b i n) → (x : Val) × (y : Block) × (u ≡ for_in x y i n) × (loop_at d a (TestFirst v b) ≡ Some (test_first x y))
  unfolding block_at
  for_in_parts v b i n e =
      let q = bound (top_value a.inner v) _ u e in
      let s = bound (block_of d a b) _ u q.2 in
      (q.0, s.0, sym (some_is s.2), test_first_lem a d v b q.0 s.0 q.1 s.1)

  pub for_of_parts : (n v : ℕ) (b : Range) (i s : ℕ) → Stands (R.ForOf n v b i s)
      → (z : Val) × (x : Val) × (y : Block) × (u ≡ for_of z x y i s) × (value_at 64 a.inner n ≡ Some z) × (loop_at d a (TestFirst v b) ≡ Some (test_first x y))
  unfolding block_at
  for_of_parts n v b i s e =
      let p = bound (top_value a.inner n) _ u e in
      let q = bound (top_value a.inner v) _ u p.2 in
      let s = bound (block_of d a b) _ u q.2 in
      (p.0, q.0, s.0, sym (some_is s.2), top_at a n p.0 p.1, test_first_lem a d v b q.0 s.0 q.1 s.1)

  pub for_parts : (n v : ℕ) (o : Option ℕ) (b : Range) (i : ℕ) → Stands (R.For n v o b i)
      → (z : Val) × (x : Val) × (w : OptVal) × (y : Block) × (u ≡ for z x w y i) × (value_at 64 a.inner n ≡ Some z) × (loop_at d a (Updating v o b) ≡ Some (updating x w y))
  unfolding block_at
  for_parts n v o b i e =
      let p = bound (top_value a.inner n) _ u e in
      let q = bound (top_value a.inner v) _ u p.2 in
      let r = bound (opt_value_of (top_value a.inner) o) _ u q.2 in
      let s = bound (block_of d a b) _ u r.2 in
      (p.0, q.0, r.0, s.0, sym (some_is s.2), top_at a n p.0 p.1, updated a d v b q.0 s.0 q.1 s.1 o r.0 r.1)

  pub if_parts : (p : Place) (b : Range) (c : Option Range) (i : ℕ) → Stands (R.If p b c i)
      → (x : Block) × (y : OptBlock) × (u ≡ if p x y i) × (block_at d a b ≡ Some x) × (opt_block_of (block_at d a) c ≡ Some y)
  unfolding block_at
  if_parts p b c i e =
      let q = bound (block_of d a b) _ u e in
      let s = bound (opt_block_of (block_of d a) c) _ u q.2 in
      (q.0, s.0, sym (some_is s.2), q.1, s.1)

  pub label_parts : (b : Range) (i : ℕ) → Stands (R.Label b i) → (x : Block) × (u ≡ label x i) × (block_at d a b ≡ Some x)
  unfolding block_at
  label_parts b i e = let q = bound (block_of d a b) _ u e in (q.0, sym (some_is q.2), q.1)

  pub try_parts : (b : Range) (p : Option Place) (c : Range) (i : ℕ) → Stands (R.Try b p c i)
      → (x : Block) × (y : Block) × (u ≡ try x p y i) × (block_at d a b ≡ Some x) × (block_at d a c ≡ Some y)
  unfolding block_at
  try_parts b p c i e =
      let q = bound (block_of d a b) _ u e in
      let s = bound (block_of d a c) _ u q.2 in
      (q.0, s.0, sym (some_is s.2), q.1, s.1)
