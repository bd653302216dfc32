-- What a reading that comes out has taken: its words, and its slots, which stay within the limits. One lemma for each way
-- of joining readings. Assumes nothing.
use Rattle.std.proofs.Common.{◌≡◌, ℕ, zero, suc, ◌+◌, Bool, true, false, cond, ltb, leb, List, [], ◌∷◌, ◌++◌, length, Some, None, Ok, Err, Option, Result, sym, refl, ap, ◌∙◌, subst, append_assoc, arith}
use Rattle.hir.specs.declared.used.Used.{Used}
use Rattle.hir.specs.Encode.{option_words, items_words, list_words}
use Rattle.hir.specs.Numbers.{flag_number}
use Rattle.hir.specs.Limits.{Within, limits}
use Rattle.hir.specs.Options.{nth}
use Rattle.hir.specs.Sizes.{none, plus}
use Rattle.format.specs.declared.fault.FileFault.{FileFault}
use Rattle.format.specs.declared.fault.FileFault.TheVariants.{Reading, Limit}
use Rattle.format.specs.Parse.{Cursor, Read, onto, give, next_of, word, below, order, chosen, case, flag, option, times, listed, counted, until_end}

pub err_ok : {X : Type 0} {e : FileFault} {x : X} → Err e ≡ Ok x → ⊥
err_ok h = let z : ◌≡◌ {A = ℕ} 0 1 = cc in omega arith

pub ok_ok : {X : Type 0} {x y : X} → ◌≡◌ {A = Result X FileFault} (Ok x) (Ok y) → x ≡ y
ok_ok h = cc

pub Used-is : {a b : Used} → a.statements ≡ b.statements → a.values ≡ b.values → a.places ≡ b.places → a.identifiers ≡ b.identifiers → a.scopes ≡ b.scopes → a.declarations ≡ b.declarations → a.cases ≡ b.cases → a ≡ b
Used-is p q r s t u v = λ i. record { statements = p i; values = q i; places = r i; identifiers = s i; scopes = t i; declarations = u i; cases = v i }

-- from c to d the words ws were read, and the slots s were taken
pub record Took (c d : Cursor) (ws : List ℕ) (s : Used) : Type 0 where
  pub rest : c.rest ≡ ws ++ d.rest
  pub used : d.used ≡ plus c.used s
  pub kept : Within c.used limits → Within d.used limits

-- the same where no slot is taken
pub record Passed (c d : Cursor) (ws : List ℕ) : Type 0 where
  pub rest : c.rest ≡ ws ++ d.rest
  pub used : d.used ≡ c.used

-- if the reading comes out, then with P
pub record Comes {X : Type 0} (r : Read X) (P : X → Cursor → Type 0) : Type 0 where
  pub so : (x : X) (d : Cursor) → r ≡ Ok (x, d) → P x d

onto_so : {X Y : Type 0} (r : Read X) (f : X → Cursor → Read Y) (Q : X → Cursor → Type 0) (P : Y → Cursor → Type 0) → Comes r Q → ((x : X) (d : Cursor) → Q x d → Comes (f x d) P) → (y : Y) (e : Cursor) → onto r f ≡ Ok (y, e) → P y e
onto_so (Ok p) f Q P h k y e q = (k p.0 p.1 (h.so p.0 p.1 refl)).so y e q
onto_so (Err x) f Q P h k y e q = absurd (err_ok q)

pub after : {X Y : Type 0} {r : Read X} {f : X → Cursor → Read Y} {Q : X → Cursor → Type 0} {P : Y → Cursor → Type 0} → Comes r Q → ((x : X) (d : Cursor) → Q x d → Comes (f x d) P) → Comes (onto r f) P
after {r} {f} {Q} {P} h k = record { so = λ y e q. onto_so r f Q P h k y e q }

-- what comes with Q comes with P, if Q gives P
pub weaker : {X : Type 0} {r : Read X} {Q P : X → Cursor → Type 0} → Comes r Q → ((x : X) (d : Cursor) → Q x d → P x d) → Comes r P
weaker h k = record { so = λ x d e. k x d (h.so x d e) }

pub given : {X : Type 0} {P : X → Cursor → Type 0} {x : X} {c : Cursor} → P x c → Comes (give x c) P
given {X} {P} p = record { so = λ y d e. subst (λ (z : X × Cursor). P z.0 z.1) (ok_ok e) p }

pub refused : {X : Type 0} {P : X → Cursor → Type 0} {e : FileFault} → Comes {X = X} (Err e) P
refused = record { so = λ x d q. absurd (err_ok q) }

-- ---- one after the other
pub plus_assoc : (a b c : Used) → plus (plus a b) c ≡ plus a (plus b c)
plus_assoc a b c =
    Used-is (omega arith) (omega arith) (omega arith) (omega arith) (omega arith) (omega arith) (omega arith)

pub both : {c d e : Cursor} {ws vs : List ℕ} {s t : Used} → Took c d ws s → Took d e vs t → Took c e (ws ++ vs) (plus s t)
both {c} {d} {e} {ws} {vs} {s} {t} a b =
    record {
      rest = a.rest ∙ ap (λ l. ws ++ l) b.rest ∙ sym (append_assoc ws vs e.rest);
      used = b.used ∙ ap (λ u. plus u t) a.used ∙ plus_assoc c.used s t;
      kept = λ w. b.kept (a.kept w);
    }

-- words, then slots; slots, then words; words alone
pub then : {c d e : Cursor} {ws vs : List ℕ} {t : Used} → Passed c d ws → Took d e vs t → Took c e (ws ++ vs) t
then {c} {d} {e} {ws} {vs} {t} a b =
    record {
      rest = a.rest ∙ ap (λ l. ws ++ l) b.rest ∙ sym (append_assoc ws vs e.rest);
      used = b.used ∙ ap (λ u. plus u t) a.used;
      kept = λ w. b.kept (subst (λ (u : Used). Within u limits) (sym a.used) w);
    }

pub ends : {c d e : Cursor} {ws vs : List ℕ} {s : Used} → Took c d ws s → Passed d e vs → Took c e (ws ++ vs) s
ends {c} {d} {e} {ws} {vs} {s} a b =
    record {
      rest = a.rest ∙ ap (λ l. ws ++ l) b.rest ∙ sym (append_assoc ws vs e.rest);
      used = b.used ∙ a.used;
      kept = λ w. subst (λ (u : Used). Within u limits) (sym b.used) (a.kept w);
    }

pub on : {c d e : Cursor} {ws vs : List ℕ} → Passed c d ws → Passed d e vs → Passed c e (ws ++ vs)
on {c} {d} {e} {ws} {vs} a b =
    record {
      rest = a.rest ∙ ap (λ l. ws ++ l) b.rest ∙ sym (append_assoc ws vs e.rest);
      used = b.used ∙ a.used;
    }

-- where nothing is taken
pub plus_none : (u : Used) → plus u none ≡ u
plus_none u = Used-is (omega arith) (omega arith) (omega arith) (omega arith) (omega arith) (omega arith) (omega arith)

pub nothing : {c d : Cursor} {ws : List ℕ} → Passed c d ws → Took c d ws none
nothing {c} {d} a =
    record { rest = a.rest; used = a.used ∙ sym (plus_none c.used); kept = λ w. subst (λ (u : Used). Within u limits) (sym a.used) w }

pub stays : (c : Cursor) → Passed c c []
stays c = record { rest = refl; used = refl }

pub sized : {c d : Cursor} {ws : List ℕ} {s t : Used} → s ≡ t → Took c d ws s → Took c d ws t
sized {c} {d} {ws} e a = subst (λ (u : Used). Took c d ws u) e a

-- ---- a word, and a choice by its number
word_so : (at : ℕ) (u : Used) (ws : List ℕ) (w : ℕ) (d : Cursor) → next_of at u ws ≡ Ok (w, d) → Passed (record { at = at; rest = ws; used = u }) d (w ∷ [])
word_so at u [] w d e = absurd (err_ok e)
word_so at u (v ∷ vs) w d e =
    let q : ◌≡◌ {A = ℕ × Cursor} (v, record { at = at + 1; rest = vs; used = u }) (w, d) = ok_ok e in
    record { rest = ap (λ (z : ℕ × Cursor). z.0 ∷ z.1.rest) q; used = sym (ap (λ (z : ℕ × Cursor). z.1.used) q) }

pub word_passed : (c : Cursor) → Comes (word c) (λ w d. Passed c d (w ∷ []))
word_passed c = record { so = λ w d e. word_so c.at c.used c.rest w d e }

-- R holds of each entry with its number
abbrev pub Each : {A : Type 0} → List A → (ℕ → A → Type 0) → Type 0
Each [] R = Unit {0}
Each (a ∷ l) R = R 0 a × Each l (λ n. R (suc n))

chosen_comes : {X : Type 0} (ps : List (Cursor → Read X)) (w at : ℕ) (d : Cursor) (R : ℕ → Type 0) (P : X → Cursor → Type 0) → Each ps (λ n p. R n → Comes (p d) P) → R w → Comes (chosen (nth ps w) at d) P
chosen_comes [] w at d R P h r = refused
chosen_comes (p ∷ ps) zero at d R P h r = h.0 r
chosen_comes (p ∷ ps) (suc w) at d R P h r = chosen_comes ps w at d (λ n. R (suc n)) P h.1 r

pub case_comes : {X : Type 0} (ps : List (Cursor → Read X)) (c : Cursor) {P : X → Cursor → Type 0} → ((d : Cursor) → Each ps (λ n p. Passed c d (n ∷ []) → Comes (p d) P)) → Comes (case ps c) P
case_comes ps c {P} h = after (word_passed c) (λ w d t. chosen_comes ps w c.at d (λ n. Passed c d (n ∷ [])) P (h d) t)

-- a word that is held to a test
pub tested_passed : (b : Bool) (e : FileFault) {c d : Cursor} {w : ℕ} → Passed c d (w ∷ []) → Comes (cond b (give w d) (Err e)) (λ v d. Passed c d (v ∷ []))
tested_passed true e t = given t
tested_passed false e t = refused

pub below_passed : (n : ℕ) (c : Cursor) → Comes (below n c) (λ w d. Passed c d (w ∷ []))
below_passed n c = after (word_passed c) (λ w d t. tested_passed (ltb w n) (Reading c.at) t)

pub order_passed : (c : Cursor) → Comes (order c) (λ w d. Passed c d (w ∷ []))
order_passed c = after (word_passed c) (λ w d t. tested_passed (leb w 1000000) (Limit c.at) t)

pub flag_passed : (c : Cursor) → Comes (flag c) (λ f d. Passed c d (flag_number f ∷ []))
flag_passed c = case_comes (give false ∷ give true ∷ []) c (λ d. (λ t. given t, (λ t. given t, tt)))

-- ---- options and lists
abbrev pub opt_size : {X : Type 0} → (X → Used) → Option X → Used
opt_size size None = none
opt_size size (Some x) = size x

pub option_took : {X : Type 0} {p : Cursor → Read X} {w : X → List ℕ} {s : X → Used} → ((c : Cursor) → Comes (p c) (λ x d. Took c d (w x) (s x))) → (c : Cursor) → Comes (option p c) (λ o d. Took c d (option_words w o) (opt_size s o))
option_took {p} h c = case_comes (give None ∷ (λ c. onto (p c) (λ x. give (Some x))) ∷ []) c (λ d. (λ t. given (nothing t), (λ t. after (h d) (λ x e u. given (then t u)), tt)))

pub option_passed : {X : Type 0} {p : Cursor → Read X} {w : X → List ℕ} → ((c : Cursor) → Comes (p c) (λ x d. Passed c d (w x))) → (c : Cursor) → Comes (option p c) (λ o d. Passed c d (option_words w o))
option_passed {p} h c = case_comes (give None ∷ (λ c. onto (p c) (λ x. give (Some x))) ∷ []) c (λ d. (λ t. given t, (λ t. after (h d) (λ x e u. given (on t u)), tt)))

abbrev pub items_size : {X : Type 0} → (X → Used) → List X → Used
items_size size [] = none
items_size size (x ∷ xs) = plus (size x) (items_size size xs)

module _ {X : Type 0} {p : Cursor → Read X} {w : X → List ℕ} {s : X → Used} (h : (c : Cursor) → Comes (p c) (λ x d. Took c d (w x) (s x))) where
  times_took : (n : ℕ) (c : Cursor) → Comes (times p n c) (λ xs d. (length xs ≡ n) × Took c d (items_words w xs) (items_size s xs))
  times_took zero c = given (refl, nothing (stays c))
  times_took (suc n) c = after (h c) (λ x d t. after (times_took n d) (λ xs e u. given (ap suc u.0, both t u.1)))

  pub listed_took : (c : Cursor) → Comes (listed p c) (λ xs d. Took c d (list_words w xs) (items_size s xs))
  listed_took c =
      after (word_passed c) (λ n d t. weaker (times_took n d) (λ xs e u. subst (λ (k : ℕ). Took c e (k ∷ items_words w xs) (items_size s xs)) (sym u.0) (then t u.1)))

  pub every_took : (n : ℕ) (ws : List ℕ) (c : Cursor) → Comes (until_end p n ws c) (λ xs d. Took c d (items_words w xs) (items_size s xs))
  every_took n [] c = given (nothing (stays c))
  every_took zero (v ∷ vs) c = given (nothing (stays c))
  every_took (suc n) (v ∷ vs) c = after (h c) (λ x d t. after (every_took n d.rest d) (λ xs e u. given (both t u)))

-- ---- an item that begins, and counts
pub began : (b : Bool) (u s : Used) (c : Cursor) → plus c.used s ≡ u → (b ≡ true → Within c.used limits → Within u limits) → Comes (counted b u c) (λ _ d. Took c d [] s)
began true u s c e h = given (record { rest = refl; used = sym e; kept = h refl })
began false u s c e h = refused
