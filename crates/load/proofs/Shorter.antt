-- A reading leaves no more words than there were, and an item of the tables at least one fewer. Assumes nothing.
use Rattle.std.proofs.Common.{◌≡◌, ℕ, zero, suc, ◌+◌, ◌≤◌, Bool, true, false, List, [], ◌∷◌, length, Some, None, Ok, Err, refl, subst, arith}
use Rattle.hir.specs.declared.used.Used.{Used}
use Rattle.hir.specs.Options.{nth}
use Rattle.format.specs.Parse.{Cursor, Read, onto, give, next_of, word, chosen, case, option, times, listed, counted, begin_identifier, begin_declaration, begin_scope, names, identifier, early_read, declaration, scope_info}
use Rattle.load.proofs.Later.{err_ok, ok_ok}

-- what comes out of the reading leaves k words fewer than n, or less
abbrev pub Leaves : {X : Type 0} → ℕ → ℕ → Read X → Type 0
Leaves {X} k n r = (q : X × Cursor) → r ≡ Ok q → length q.1.rest + k ≤ n

abbrev pub Shorter : {X : Type 0} → ℕ → (Cursor → Read X) → Type 0
Shorter {X} k p = (c : Cursor) → Leaves k (length c.rest) (p c)

-- by its first part, or by its second
first : {X Y : Type 0} (k n : ℕ) (r : Read X) (f : X → Cursor → Read Y) → Leaves k n r → ((x : X) → Shorter 0 (f x)) → Leaves k n (onto r f)
first k n (Ok p) f h g y e = let a = h p refl in let b = g p.0 p.1 y e in omega arith
first k n (Err x) f h g y e = absurd (err_ok e)

second : {X Y : Type 0} (k n : ℕ) (r : Read X) (f : X → Cursor → Read Y) → Leaves 0 n r → ((x : X) → Shorter k (f x)) → Leaves k n (onto r f)
second k n (Ok p) f h g y e = let a = h p refl in let b = g p.0 p.1 y e in omega arith
second k n (Err x) f h g y e = absurd (err_ok e)

give_shorter : {X : Type 0} (x : X) → Shorter 0 (give x)
give_shorter {X} x c q e = subst (λ (p : X × Cursor). length p.1.rest + 0 ≤ length c.rest) (ok_ok e) (omega arith)

next_shorter : (at : ℕ) (u : Used) (ws : List ℕ) → Leaves 1 (length ws) (next_of at u ws)
next_shorter at u [] q e = absurd (err_ok e)
next_shorter at u (w ∷ ws) q e = subst (λ (p : ℕ × Cursor). length p.1.rest + 1 ≤ suc (length ws)) (ok_ok e) (omega arith)

word_shorter : Shorter 1 word
word_shorter c = next_shorter c.at c.used c.rest

word_kept : Shorter 0 word
word_kept c q e = let a = word_shorter c q e in omega arith

abbrev AllShorter : {X : Type 0} → List (Cursor → Read X) → Type 0
AllShorter [] = Unit {0}
AllShorter (p ∷ ps) = Shorter 0 p × AllShorter ps

chosen_shorter : {X : Type 0} (ps : List (Cursor → Read X)) → AllShorter ps → (w at : ℕ) → Shorter 0 (λ d. chosen (nth ps w) at d)
chosen_shorter [] h w at d q e = absurd (err_ok e)
chosen_shorter (p ∷ ps) h zero at d q e = h.0 d q e
chosen_shorter (p ∷ ps) h (suc w) at d q e = chosen_shorter ps h.1 w at d q e

case_shorter : {X : Type 0} (ps : List (Cursor → Read X)) → AllShorter ps → Shorter 1 (case ps)
case_shorter ps h c = first 1 (length c.rest) (word c) _ (word_shorter c) (λ w. chosen_shorter ps h w c.at)

case_kept : {X : Type 0} (ps : List (Cursor → Read X)) → AllShorter ps → Shorter 0 (case ps)
case_kept ps h c q e = let a = case_shorter ps h c q e in omega arith

option_shorter : {X : Type 0} (p : Cursor → Read X) → Shorter 0 p → Shorter 1 (option p)
option_shorter p h =
    case_shorter (give None ∷ (λ c. onto (p c) (λ x. give (Some x))) ∷ []) (give_shorter _, ((λ c. first 0 (length c.rest) (p c) _ (h c) (λ x. give_shorter _)), tt))

option_kept : {X : Type 0} (p : Cursor → Read X) → Shorter 0 p → Shorter 0 (option p)
option_kept p h c q e = let a = option_shorter p h c q e in omega arith

names_kept : Shorter 0 (case names)
names_kept =
    case_kept names ((λ c. first 0 (length c.rest) (word c) _ (word_kept c) (λ x. give_shorter _)), ((λ c. first 0 (length c.rest) (word c) _ (word_kept c) (λ x. give_shorter _)), tt))

counted_kept : (b : Bool) (u : Used) (c : Cursor) → Leaves 0 (length c.rest) (counted b u c)
counted_kept true u c q e = subst (λ (p : Unit {0} × Cursor). length p.1.rest + 0 ≤ length c.rest) (ok_ok e) (omega arith)
counted_kept false u c q e = absurd (err_ok e)

pub identifier_shorter : Shorter 1 identifier
unfolding identifier
identifier_shorter c =
    second 1 _ (begin_identifier c) _ (counted_kept _ _ c) (λ _ c₁. first 1 _ (word c₁) _ (word_shorter c₁) (λ d c₂. first 0 _ (option (case names) c₂) _ (option_kept (case names) names_kept c₂) (λ n c₃.
    first 0 _ (word c₃) _ (word_kept c₃) (λ r c₄. first 0 _ (option word c₄) _ (option_kept word word_kept c₄) (λ s c₅. first 0 _ (word c₅) _ (word_kept c₅) (λ k c₆. first 0 _ (word c₆) _ (word_kept c₆) (λ p. give_shorter _)))))))

early_kept : Shorter 0 early_read
early_kept c =
    first 0 _ (word c) _ (word_kept c) (λ v c₁. first 0 _ (word c₁) _ (word_kept c₁) (λ s c₂. first 0 _ (word c₂) _ (word_kept c₂) (λ l. give_shorter _)))

declaration_kept : Shorter 0 declaration
unfolding declaration
declaration_kept c =
    first 0 _ (begin_declaration c) _ (counted_kept _ _ c) (λ _ c₁. first 0 _ (word c₁) _ (word_kept c₁) (λ k c₂. first 0 _ (word c₂) _ (word_kept c₂) (λ i c₃. first 0 _ (word c₃) _ (word_kept c₃) (λ s. give_shorter _))))

times_kept : {X : Type 0} (p : Cursor → Read X) → Shorter 0 p → (n : ℕ) → Shorter 0 (times p n)
times_kept p h zero c = give_shorter [] c
times_kept p h (suc n) c = first 0 _ (p c) _ (h c) (λ x d. first 0 _ (times p n d) _ (times_kept p h n d) (λ xs. give_shorter _))

pub scope_shorter : Shorter 1 scope_info
unfolding scope_info
scope_shorter c =
    second 1 _ (begin_scope c) _ (counted_kept _ _ c) (λ _ c₁. first 1 _ (option early_read c₁) _ (option_shorter early_read early_kept c₁) (λ e c₂.
    first 0 _ (listed declaration c₂) _ (first 0 _ (word c₂) _ (word_kept c₂) (times_kept declaration declaration_kept)) (λ ds. give_shorter _)))
