-- A case number, and then what that case reads. Assumes nothing.
use Rattle.std.proofs.Common.{◌≡◌, ℕ, zero, suc, Bool, true, false, cond, List, [], ◌∷◌, Some, Ok, Err, refl, ap, sym, ◌∙◌, arith, nat_eq, nat_lt}
use Rattle.hir.specs.Options.{nth}
use Rattle.format.specs.declared.fault.FileFault.{FileFault}
use Rattle.format.specs.declared.fault.FileFault.TheVariants.{Reading}
use Rattle.format.specs.Parse.{Cursor, Read, onto, give, word, chosen, case, flag, below}

pub case_from : {X : Type 0} (ps : List (Cursor → Read X)) (k : ℕ) (p : Cursor → Read X) {w : ℕ} (c : Cursor) {c₁ : Cursor} → nth ps k ≡ Some p → word c ≡ Ok (w, c₁) → w ≡ k → (x : Read X) → p c₁ ≡ x → case ps c ≡ x
case_from ps k p c {c₁} n e w x h =
    ap (λ r. onto r (λ w d. chosen (nth ps w) c.at d)) e ∙ ap (λ v. chosen (nth ps v) c.at c₁) w ∙ ap (λ o. chosen o c.at c₁) n ∙ h

-- a flag says which of two cases it is
pub by_flag : {X : Type 0} (f t : Cursor → Read X) (c : Cursor) → case (f ∷ t ∷ []) c ≡ onto (flag c) (λ b d. cond b (t d) (f d))
by_flag {X} f t c = go (word c)
  where
    go : (r : Read ℕ) → onto r (λ w d. chosen (nth (f ∷ t ∷ []) w) c.at d) ≡ onto (onto r (λ w d. chosen (nth (give false ∷ give true ∷ []) w) c.at d)) (λ b d. cond b (t d) (f d))
    go (Err e) = refl
    go (Ok (zero, d)) = refl
    go (Ok (suc zero, d)) = refl
    go (Ok (suc (suc n), d)) = refl

pub flag_no : {X : Type 0} (f t : Cursor → Read X) {b : Bool} (c : Cursor) {c₁ : Cursor} → flag c ≡ Ok (b, c₁) → b ≡ false → case (f ∷ t ∷ []) c ≡ f c₁
flag_no f t c {c₁} e h = by_flag f t c ∙ ap (λ r. onto r (λ b d. cond b (t d) (f d))) e ∙ ap (λ b. cond b (t c₁) (f c₁)) h

pub flag_yes : {X : Type 0} (f t : Cursor → Read X) {b : Bool} (c : Cursor) {c₁ : Cursor} → flag c ≡ Ok (b, c₁) → b ≡ true → case (f ∷ t ∷ []) c ≡ t c₁
flag_yes f t c {c₁} e h = by_flag f t c ∙ ap (λ r. onto r (λ b d. cond b (t d) (f d))) e ∙ ap (λ b. cond b (t c₁) (f c₁)) h

-- a flag is a word below 2, which says whether it is 1
by_below : (c : Cursor) → flag c ≡ onto (below 2 c) (λ w d. give (nat_eq w 1) d)
by_below c = go (word c)
  where
    go : (r : Read ℕ) → onto r (λ w d. chosen (nth (give false ∷ give true ∷ []) w) c.at d) ≡ onto (onto r (λ w d. cond (nat_lt w 2) (give w d) (Err (Reading c.at)))) (λ w d. give (nat_eq w 1) d)
    go (Err e) = refl
    go (Ok (zero, d)) = refl
    go (Ok (suc zero, d)) = refl
    go (Ok (suc (suc n), d)) = let above : nat_lt (suc (suc n)) 2 ≡ false = grind arith in ap (λ b. onto (cond b (give (suc (suc n)) d) (Err (Reading c.at))) (λ w d. give (nat_eq w 1) d)) (sym above)

pub flag_below : (c : Cursor) {w : ℕ} {c₁ : Cursor} → below 2 c ≡ Ok (w, c₁) → flag c ≡ Ok (nat_eq w 1, c₁)
flag_below c e = by_below c ∙ ap (λ r. onto r (λ w d. give (nat_eq w 1) d)) e

pub flag_stop : (c : Cursor) {e : FileFault} → below 2 c ≡ Err e → flag c ≡ Err e
flag_stop c e = by_below c ∙ ap (λ r. onto r (λ w d. give (nat_eq w 1) d)) e
