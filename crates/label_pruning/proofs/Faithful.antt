-- Label pruning is faithful: the two runs go side by side.
-- A Label that is gone had nothing to catch, and cost a step.
use Rattle.std.proofs.Common.{◌≡◌, ℕ, Bool, true, false, Some, None, Option, sym, refl, ap, ◌∙◌, arith}
use mathlib.Core.Path.{fun_ext}
use Rattle.hir.specs.declared.terminal.ReactiveLabel.{ReactiveLabel}
use Rattle.hir.specs.Tree.{Stmt, instruction, scope, pruned, terminal, Term, break, continue, return, throw, switch, do_while, while, for, for_of, for_in, if, label, try, Cases, knil, kcons, OptBlock, no_block, some_block, Block, nil, cons, Function}
use Rattle.semantics.specs.Machine.{Meaning, State, normal, broke, continued, returned, threw, Result, done, spent, stepped, branch, bind, map_out, tick}
use Rattle.semantics.specs.Targets.{mark}
use Rattle.semantics.specs.Exec.{end_label, run_s, run_b, always}
use Rattle.simulation.specs.WellFormed.{IfSome, Sizes, sizes, LabelOk, OkS, OkT, OkK, OkO, OkB, WellFormed}
use Rattle.simulation.specs.Faithful.{Simulates, Kept}
use Rattle.simulation.proofs.Rel.{Beside, Below, bind_rel}
use Rattle.simulation.proofs.Cong.{Runs, KRel, ORel, BRel, nil_rel, cons_rel, no_rel, some_rel, instruction_rel, scope_rel, pruned_rel, terminal_rel, break_rel, continue_rel, return_rel, throw_rel, switch_rel, do_while_rel, while_rel, for_rel, for_of_rel, for_in_rel, if_rel, label_rel, try_rel, knil_rel, kcons_rel}
use Rattle.simulation.proofs.Simulate.{places, whole, simulates}
use Rattle.label_pruning.specs.Pruning.{append, targeted, unless_pruned, prune_s, prune_t, prune_k, prune_o, prune_b, prune_labels}
use Rattle.label_pruning.specs.Promises.{PruningFaithful}
use Rattle.label_pruning.proofs.Passes.{no_break, pass_b}
use Rattle.label_pruning.proofs.WellFormed.{pruned_well_formed}

-- ---- a Label that catches nothing
no_label : {S : Type 0} (r : Result S) → map_out (end_label None) r ≡ r
unfolding map_out
no_label (done normal t) = refl
no_label (done (broke None) t) = refl
no_label (done (broke (Some k)) t) = refl
no_label (done (continued k) t) = refl
no_label (done (returned v) t) = refl
no_label (done (threw v) t) = refl
no_label (spent t) = refl

catches_nothing : {S : Type 0} (H : Meaning S) (rec : ℕ → Option ℕ) (f : ℕ) (m : Option ℕ) (b : Block) (s : State S) → targeted m b ≡ false → map_out (end_label m) (run_b H (always H) rec f b s) ≡ run_b H (always H) rec f b s
catches_nothing H rec f None b s e = no_label (run_b H (always H) rec f b s)
catches_nothing H rec f (Some l) b s e = no_break l (run_b H (always H) rec f b s) (pass_b l H rec f b e s)

-- ---- the run of two blocks in a row
bind_assoc : {S : Type 0} (r : Result S) (k j : State S → Result S) → bind (bind r k) j ≡ bind r (λ t. bind (k t) j)
unfolding bind
bind_assoc (done normal t) k j = refl
bind_assoc (done (broke m) t) k j = refl
bind_assoc (done (continued m) t) k j = refl
bind_assoc (done (returned m) t) k j = refl
bind_assoc (done (threw m) t) k j = refl
bind_assoc (spent t) k j = refl

run_append : {S : Type 0} (H : Meaning S) (rec : ℕ → Option ℕ) (f : ℕ) (a b : Block) (s : State S) → run_b H (always H) rec f (append a b) s ≡ bind (run_b H (always H) rec f a s) (λ t. run_b H (always H) rec f b t)
unfolding bind
run_append H rec f nil b s = refl
run_append H rec f (cons x a) b s =
    ap (λ k. bind (run_s H (always H) rec f x s) k) (fun_ext (λ t. run_append H rec f a b t)) ∙ sym (bind_assoc (run_s H (always H) rec f x s) _ _)

-- ---- side by side
module _ {S : Type 0} (R : Runs S) (same : (x : ℕ) → R.first x ≡ R.second x) (inside : (x : ℕ) → Below R.setting.Z.identifiers (R.first x)) where
  abbrev Z : Sizes
  Z = R.setting.Z

  gone_near : (s s' : State S) → Beside R.setting false s s' → Beside R.setting false (stepped s) s'
  gone_near s s' h = record { same_host = h.same_host; same_store = h.same_store; long = h.long; long' = h.long'; same_given = tt; extra = h.extra; bare = omega (arith, h.bare) }

  label_gone : (m : Option ReactiveLabel) (i : ℕ) (b b' r r' : Block) → targeted (mark m) b ≡ false → BRel R b b' → BRel R r r' → BRel R (cons (terminal (label b i) m) r) (append b' r')
  unfolding tick branch
  label_gone m i b b' r r' e g k = record {
    brel = λ s s' h.
        rw (run_append R.host R.second R.bound b' r' s') (rw (catches_nothing R.host R.first R.bound (mark m) b (stepped s) e)
        (bind_rel R.setting (g.brel (stepped s) s' (gone_near s s' h)) (λ t t' h. k.brel t t' h)));
  }

  label_if : (o : Bool) (m : Option ReactiveLabel) (i : ℕ) (b b' r r' : Block) → targeted (mark m) b ≡ o → IfSome (LabelOk Z) m → BRel R b b' → BRel R r r' → BRel R (cons (terminal (label b i) m) r) (unless_pruned o b' i m r')
  label_if true m i b b' r r' e w g k = cons_rel R (terminal_rel R m w (label_rel R m i g)) k
  label_if false m i b b' r r' e w g k = label_gone m i b b' r r' e g k

  mutual
    runs_s : (x : Stmt) → OkS Z x → (r r' : Block) → BRel R r r' → BRel R (cons x r) (prune_s x r')
    runs_s (instruction i) w r r' k = cons_rel R (instruction_rel R i w) k
    runs_s (scope x b) w r r' k = cons_rel R (scope_rel R x (same x) (inside x) (runs_b b w.1)) k
    runs_s (pruned x b) w r r' k = cons_rel R (pruned_rel R x (runs_b b w.1)) k
    runs_s (terminal t m) w r r' k = runs_t t m w.1 w.0 r r' k

    runs_t : (t : Term) (m : Option ReactiveLabel) → IfSome (LabelOk Z) m → OkT Z t → (r r' : Block) → BRel R r r' → BRel R (cons (terminal t m) r) (prune_t t m r')
    runs_t (break l i t) m h w r r' k = cons_rel R (terminal_rel R m h (break_rel R m l i t w)) k
    runs_t (continue l i t) m h w r r' k = cons_rel R (terminal_rel R m h (continue_rel R m l i t w)) k
    runs_t (return p i) m h w r r' k = cons_rel R (terminal_rel R m h (return_rel R m p i w)) k
    runs_t (throw p i) m h w r r' k = cons_rel R (terminal_rel R m h (throw_rel R m p i w)) k
    runs_t (switch p cs i) m h w r r' k = cons_rel R (terminal_rel R m h (switch_rel R m p i h w.0 (runs_k cs w.1))) k
    runs_t (do_while b v i) m h w r r' k = cons_rel R (terminal_rel R m h (do_while_rel R m v i h w.1 (runs_b b w.0))) k
    runs_t (while v b i) m h w r r' k = cons_rel R (terminal_rel R m h (while_rel R m v i h w.0 (runs_b b w.1))) k
    runs_t (for a v u b i) m h w r r' k = cons_rel R (terminal_rel R m h (for_rel R m a v u i h w.0 w.1 w.2 (runs_b b w.3))) k
    runs_t (for_of a v b i n) m h w r r' k = cons_rel R (terminal_rel R m h (for_of_rel R m a v i n h w.0 w.1 (runs_b b w.2))) k
    runs_t (for_in v b i n) m h w r r' k = cons_rel R (terminal_rel R m h (for_in_rel R m v i n h w.0 (runs_b b w.1))) k
    runs_t (if p b c i) m h w r r' k = cons_rel R (terminal_rel R m h (if_rel R m p i w.0 (runs_b b w.1) (runs_o c w.2))) k
    runs_t (label b i) m h w r r' k = label_if (targeted (mark m) b) m i b (prune_b b) r r' refl h (runs_b b w) k
    runs_t (try b p c i) m h w r r' k = cons_rel R (terminal_rel R m h (try_rel R m p i w.1 (runs_b b w.0) (runs_b c w.2))) k

    runs_k : (cs : Cases) → OkK Z cs → KRel R cs (prune_k cs)
    runs_k knil w = knil_rel R
    runs_k (kcons t b cs) w = kcons_rel R t w.0 (runs_o b w.1) (runs_k cs w.2)

    runs_o : (b : OptBlock) → OkO Z b → ORel R b (prune_o b)
    runs_o no_block w = no_rel R
    runs_o (some_block b) w = some_rel R (runs_b b w)

    runs_b : (b : Block) → OkB Z b → BRel R b (prune_b b)
    runs_b nil w = nil_rel R
    runs_b (cons x b) w = runs_s x w.0 b (prune_b b) (runs_b b w.1)

pruned_simulates : (S : Type 0) (F : Function) → WellFormed F → Simulates S F (prune_labels F)
unfolding prune_labels
pruned_simulates S F w = simulates F (prune_labels F) F.counters.blocks (omega arith) S (record {
  targets = w.jumps_land;
  targets' = (pruned_well_formed F w).jumps_land;
  grown = omega arith;
  related = λ H f. runs_b (whole F (prune_labels F) F.counters.blocks (omega arith) H f) (λ x. refl) (places (sizes F) F.scopes w.scopes_ok) F.body w.body_ok;
})

pruned_kept : (S : Type 0) (F : Function) → WellFormed F → Kept S F (prune_labels F)
pruned_kept S F w = record { well_formed = pruned_well_formed F w; simulates = pruned_simulates S F w }

pub pruning_faithful : (S : Type 0) → PruningFaithful S
pruning_faithful S = record {
  with_room = λ F F' w e. let q : prune_labels F ≡ F' = cc in rw (← q) (pruned_kept S F w);
  unless_refused = λ f h F F' w e. rw (h F F' w e) (pruned_kept S F w);
}
