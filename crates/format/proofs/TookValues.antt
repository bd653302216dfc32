-- What the reading of a value takes: its words and its slots. Assumes nothing.
use Rattle.std.proofs.Common.{◌≡◌, ℕ, zero, suc, Bool, true, false, cond, eqb, List, [], ◌∷◌, ◌++◌, length, Some, None, Option, sym, refl, ap, ◌∙◌, subst, arith}
use Rattle.hir.specs.declared.place.Place.{Place}
use Rattle.hir.specs.Encode.{option_words, list_words, place_words, op_words, instr_count, val_words, instr_words, instrs_words}
use Rattle.hir.specs.Numbers.{effect_number, operator_number}
use Rattle.hir.specs.Sizes.{plus, one_value, some_places, opt_place_size, val_size, instr_size, instrs_size}
use Rattle.hir.specs.Tree.{Val, operation, sequence}
use Rattle.format.specs.Parse.{Cursor, Read, onto, give, below, word, case, option, listed, effects, place, op, operators, instr_read, instrs_read, logical_read, conditional_read, sequence_read, optional_read, val_read, value, top_value}
use Rattle.format.proofs.Took.{Used-is, Took, Passed, Comes, after, weaker, given, refused, both, then, ends, on, nothing, stays, sized, word_passed, case_comes, below_passed, order_passed, flag_passed, opt_size, option_took, items_size, listed_took}
use Rattle.format.proofs.Begun.{statement_began, value_began, place_began}

effect_passed : (c : Cursor) → Comes (case effects c) (λ e d. Passed c d (effect_number e ∷ []))
effect_passed c =
    case_comes effects c (λ d. (λ t. given t, (λ t. given t, (λ t. given t, (λ t. given t, (λ t. given t, (λ t. given t, (λ t. given t, (λ t. given t, tt)))))))))

pub place_took : (c : Cursor) → Comes (place c) (λ p d. Took c d (place_words p) (some_places 1))
unfolding place
place_took c =
    after (place_began c) (λ _ c₁ t. after (word_passed c₁) (λ i c₂ t₁. after (effect_passed c₂) (λ e c₃ t₂. after (flag_passed c₃) (λ r c₄ t₃. after (word_passed c₄) (λ s c₅ t₄.
    given (ends t (on t₁ (on t₂ (on t₃ t₄)))))))))

-- an optional place, and a list of places
pub opt_place_same : (p : Option Place) → opt_size (λ _. some_places 1) p ≡ opt_place_size p
opt_place_same None = refl
opt_place_same (Some p) = refl

pub opt_place_took : (c : Cursor) → Comes (option place c) (λ p d. Took c d (option_words place_words p) (opt_place_size p))
opt_place_took c = weaker (option_took place_took c) (λ p d t. sized (opt_place_same p) t)

pub places_size : (ps : List Place) → items_size (λ _. some_places 1) ps ≡ some_places (length ps)
places_size [] = refl
places_size (p ∷ ps) = ap (plus (some_places 1)) (places_size ps) ∙ Used-is refl refl (omega arith) refl refl refl refl

places_took : (c : Cursor) → Comes (listed place c) (λ ps d. Took c d (list_words place_words ps) (some_places (length ps)))
places_took c = weaker (listed_took place_took c) (λ ps d t. sized (places_size ps) t)

payload_so : (b : Bool) (c : Cursor) → Comes (cond b (below 8 c) (word c)) (λ w d. Passed c d (w ∷ []))
payload_so true c = below_passed 8 c
payload_so false c = word_passed c

pub op_took : (c : Cursor) → Comes (op c) (λ o d. Took c d (op_words o) (plus (some_places (length o.written)) (some_places (length o.operands))))
unfolding op
op_took c =
    after (below_passed 42 c) (λ k c₁ t₁. after (payload_so (eqb k 4) c₁) (λ m c₂ t₂. after (places_took c₂) (λ w c₃ t₃. after (places_took c₃) (λ o c₄ t₄. after (word_passed c₄) (λ s c₅ t₅.
    given (then t₁ (then t₂ (both t₃ (ends t₄ t₅)))))))))

operator_passed : (c : Cursor) → Comes (case operators c) (λ o d. Passed c d (operator_number o ∷ []))
operator_passed c = case_comes operators c (λ d. (λ t. given t, (λ t. given t, (λ t. given t, tt))))

-- the values inside take theirs
module _ (value : Cursor → Read Val) (took : (c : Cursor) → Comes (value c) (λ v d. Took c d (val_words v) (val_size v))) where
  pub instr_took : (c : Cursor) → Comes (instr_read value c) (λ i d. Took c d (instr_words i) (instr_size i))
  instr_took c =
      after (order_passed c) (λ i c₁ t₁. after (opt_place_took c₁) (λ l c₂ t₂. after (took c₂) (λ v c₃ t₃. after (word_passed c₃) (λ s c₄ t₄.
      given (then t₁ (both t₂ (ends t₃ t₄)))))))

  instrs_took : (n : ℕ) (c : Cursor) → Comes (instrs_read value n c) (λ is d. (instr_count is ≡ n) × Took c d (instrs_words is) (instrs_size is))
  instrs_took zero c = given (refl, nothing (stays c))
  instrs_took (suc n) c =
      after (statement_began c) (λ _ c₁ t₁. after (instr_took c₁) (λ i c₂ t₂. after (instrs_took n c₂) (λ is c₃ t₃.
      given (ap suc t₃.0, both t₁ (both t₂ t₃.1)))))

  -- each case, from the cursor before its number on
  module _ {b c : Cursor} (began : Took b c [] one_value) where
    val_took : Comes (val_read value c) (λ v d. Took b d (val_words v) (val_size v))
    val_took =
        case_comes
        ((λ c. onto (op c) (λ o. give (operation o))) ∷ logical_read value ∷ conditional_read value ∷ sequence_read value ∷ optional_read value ∷ [])
        c
        (λ d. (
          λ t. after (op_took d) (λ o e u. given (both began (then t u))),
          (
            λ t. after (operator_passed d) (λ o c₁ t₁. after (took c₁) (λ x c₂ t₂. after (took c₂) (λ y c₃ t₃. given (both began (then t (then t₁ (both t₂ t₃))))))),
            (
              λ t. after (took d) (λ x c₁ t₁. after (took c₁) (λ y c₂ t₂. after (took c₂) (λ z c₃ t₃. given (both began (then t (both t₁ (both t₂ t₃))))))),
              (
                λ t. after (word_passed d) (λ n c₁ t₁. after (instrs_took n c₁) (λ is c₂ t₂. after (order_passed c₂) (λ i c₃ t₃. after (took c₃) (λ v c₄ t₄.
                    given (subst (λ (k : ℕ). Took b c₄ (3 ∷ k ∷ (instrs_words is ++ i ∷ val_words v)) (val_size (sequence is i v))) (sym t₂.0) (both began (then t (then t₁ (both t₂.1 (then t₃ t₄)))))))))),
                (
                  λ t. after (took d) (λ v c₁ t₁. after (flag_passed c₁) (λ o c₂ t₂. given (both began (then t (ends t₁ t₂))))),
                  tt,
                ),
              ),
            ),
          ),
        ))

pub value_took : (n : ℕ) (c : Cursor) → Comes (value n c) (λ v d. Took c d (val_words v) (val_size v))
value_took zero c = refused
value_took (suc n) c = after (value_began c) (λ _ d t. val_took (value n) (value_took n) t)

pub top_value_took : (c : Cursor) → Comes (top_value c) (λ v d. Took c d (val_words v) (val_size v))
unfolding top_value
top_value_took c = value_took 64 c
