-- A tree that is left as it is behaves as it did, where its scopes have the records they had.
-- Stores may differ above the identifiers, so this is no reflexivity.
use Rattle.std.proofs.Common.{◌≡◌, ℕ, List, ◌++◌, Option}
use Rattle.hir.specs.declared.terminal.ReactiveLabel.{ReactiveLabel}
use Rattle.hir.specs.Tree.{Stmt, instruction, scope, pruned, terminal, Term, break, continue, return, throw, switch, do_while, while, for, for_of, for_in, if, label, try, Cases, knil, kcons, OptBlock, no_block, some_block, Block, nil, cons}
use Rattle.simulation.specs.WellFormed.{All, IfSome, Sizes, LabelOk, OkS, OkT, OkK, OkO, OkB, scopes_s, scopes_t, scopes_k, scopes_o, scopes_b}
use Rattle.simulation.proofs.Lists.{all_left, all_right}
use Rattle.simulation.proofs.Rel.{Below}
use Rattle.simulation.proofs.Cong.{Runs, SRel, TRel, KRel, ORel, BRel, nil_rel, cons_rel, no_rel, some_rel, instruction_rel, scope_rel, pruned_rel, terminal_rel, break_rel, continue_rel, return_rel, throw_rel, switch_rel, do_while_rel, while_rel, for_rel, for_of_rel, for_in_rel, if_rel, label_rel, try_rel, knil_rel, kcons_rel}

-- both runs have the same records in these scopes
abbrev pub SameRecord : {S : Type 0} → Runs S → ℕ → Type 0
SameRecord R x = R.first x ≡ R.second x

abbrev pub Agree : {S : Type 0} → Runs S → List ℕ → Type 0
Agree R xs = All (SameRecord R) xs

module _ {S : Type 0} (R : Runs S) (places : (x : ℕ) → Below R.setting.Z.identifiers (R.first x)) where
  abbrev Z : Sizes
  Z = R.setting.Z

  left : (xs ys : List ℕ) → Agree R (xs ++ ys) → Agree R xs
  left xs ys a = all_left (SameRecord R) xs ys a

  right : (xs ys : List ℕ) → Agree R (xs ++ ys) → Agree R ys
  right xs ys a = all_right (SameRecord R) xs ys a

  mutual
    pub same_s : (x : Stmt) → OkS Z x → Agree R (scopes_s x) → SRel R x x
    same_s (instruction i) w a = instruction_rel R i w
    same_s (scope x b) w a = scope_rel R x a.0 (places x) (same_b b w.1 a.1)
    same_s (pruned x b) w a = pruned_rel R x (same_b b w.1 a)
    same_s (terminal t m) w a = terminal_rel R m w.1 (same_t t m w.1 w.0 a)

    pub same_t : (t : Term) (m : Option ReactiveLabel) → IfSome (LabelOk Z) m → OkT Z t → Agree R (scopes_t t) → TRel R m t t
    same_t (break l i k) m h w a = break_rel R m l i k w
    same_t (continue l i k) m h w a = continue_rel R m l i k w
    same_t (return p i) m h w a = return_rel R m p i w
    same_t (throw p i) m h w a = throw_rel R m p i w
    same_t (switch p cs i) m h w a = switch_rel R m p i h w.0 (same_k cs w.1 a)
    same_t (do_while b v i) m h w a = do_while_rel R m v i h w.1 (same_b b w.0 a)
    same_t (while v b i) m h w a = while_rel R m v i h w.0 (same_b b w.1 a)
    same_t (for n v u b i) m h w a = for_rel R m n v u i h w.0 w.1 w.2 (same_b b w.3 a)
    same_t (for_of n v b i l) m h w a = for_of_rel R m n v i l h w.0 w.1 (same_b b w.2 a)
    same_t (for_in v b i l) m h w a = for_in_rel R m v i l h w.0 (same_b b w.1 a)
    same_t (if p b c i) m h w a = if_rel R m p i w.0 (same_b b w.1 (left (scopes_b b) (scopes_o c) a)) (same_o c w.2 (right (scopes_b b) (scopes_o c) a))
    same_t (label b i) m h w a = label_rel R m i (same_b b w a)
    same_t (try b p c i) m h w a = try_rel R m p i w.1 (same_b b w.0 (left (scopes_b b) (scopes_b c) a)) (same_b c w.2 (right (scopes_b b) (scopes_b c) a))

    pub same_k : (cs : Cases) → OkK Z cs → Agree R (scopes_k cs) → KRel R cs cs
    same_k knil w a = knil_rel R
    same_k (kcons t b cs) w a = kcons_rel R t w.0 (same_o b w.1 (left (scopes_o b) (scopes_k cs) a)) (same_k cs w.2 (right (scopes_o b) (scopes_k cs) a))

    pub same_o : (b : OptBlock) → OkO Z b → Agree R (scopes_o b) → ORel R b b
    same_o no_block w a = no_rel R
    same_o (some_block b) w a = some_rel R (same_b b w a)

    pub same_b : (b : Block) → OkB Z b → Agree R (scopes_b b) → BRel R b b
    same_b nil w a = nil_rel R
    same_b (cons x b) w a = cons_rel R (same_s x w.0 (left (scopes_s x) (scopes_b b) a)) (same_b b w.1 (right (scopes_s x) (scopes_b b) a))
