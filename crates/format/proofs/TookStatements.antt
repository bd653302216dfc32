-- What the reading of a block takes: its words and its slots. Assumes nothing.
use Rattle.std.proofs.Common.{◌≡◌, ℕ, zero, suc, [], ◌∷◌, ◌++◌, sym, refl, ap, subst}
use Rattle.hir.specs.Encode.{word as one_word, place_words, opt_val_words, label_words, case_count, stmt_count, stmt_words, term_words, cases_words, opt_block_words, body_words, block_words}
use Rattle.hir.specs.Numbers.{target_number}
use Rattle.hir.specs.Sizes.{opt_val_size, stmt_size, term_size, cases_size, opt_block_size, block_size}
use Rattle.hir.specs.Tree.{no_val, some_val, instruction, scope, pruned, break, continue, return, throw, switch, no_block, some_block, Block}
use Rattle.format.specs.Parse.{Cursor, Read, onto, give, case, top_value, instruction_read, opt_value, targets, label_read, jump_read, leave_read, opt_block, cases_read, switch_read, do_while_read, while_read, for_read, for_of_read, for_in_read, if_read, label_block_read, try_read, term_read, terminal_read, scope_read, stmt_read, stmts_read, block}
use Rattle.format.proofs.Took.{Took, Passed, Comes, after, weaker, given, refused, both, then, ends, on, nothing, stays, word_passed, case_comes, order_passed, flag_passed, option_passed}
use Rattle.format.proofs.Begun.{statement_began, case_began}
use Rattle.format.proofs.TookValues.{place_took, opt_place_took, instr_took, top_value_took}

opt_value_took : (c : Cursor) → Comes (opt_value c) (λ v d. Took c d (opt_val_words v) (opt_val_size v))
opt_value_took c =
    case_comes (give no_val ∷ (λ c. onto (top_value c) (λ v. give (some_val v))) ∷ []) c
    (λ d. (λ t. given (nothing t), (λ t. after (top_value_took d) (λ v e u. given (then t u)), tt)))

target_passed : (c : Cursor) → Comes (case targets c) (λ k d. Passed c d (target_number k ∷ []))
target_passed c = case_comes targets c (λ d. (λ t. given t, (λ t. given t, (λ t. given t, tt))))

label_passed : (c : Cursor) → Comes (label_read c) (λ l d. Passed c d (label_words l))
label_passed c = after (word_passed c) (λ l c₁ t₁. after (flag_passed c₁) (λ i c₂ t₂. given (on t₁ t₂)))

-- the blocks inside take theirs
module _ (block : Cursor → Read Block) (took : (c : Cursor) → Comes (block c) (λ b d. Took c d (block_words b) (block_size b))) where
  opt_block_took : (c : Cursor) → Comes (opt_block block c) (λ b d. Took c d (opt_block_words b) (opt_block_size b))
  opt_block_took c =
      case_comes (give no_block ∷ (λ c. onto (block c) (λ b. give (some_block b))) ∷ []) c
      (λ d. (λ t. given (nothing t), (λ t. after (took d) (λ b e u. given (then t u)), tt)))

  cases_took : (n : ℕ) (c : Cursor) → Comes (cases_read block n c) (λ cs d. (case_count cs ≡ n) × Took c d (cases_words cs) (cases_size cs))
  cases_took zero c = given (refl, nothing (stays c))
  cases_took (suc n) c =
      after (case_began c) (λ _ c₁ t₁. after (opt_place_took c₁) (λ p c₂ t₂. after (opt_block_took c₂) (λ b c₃ t₃. after (cases_took n c₃) (λ cs c₄ t₄.
      given (ap suc t₄.0, both t₁ (both t₂ (both t₃ t₄.1)))))))

  -- each terminal, from the cursor before its number on
  module _ {c d : Cursor} where
    switch_took : Passed c d (4 ∷ []) → Comes (switch_read block d) (λ t e. Took c e (term_words t) (term_size t))
    switch_took t =
        after (place_took d) (λ p c₁ t₁. after (word_passed c₁) (λ n c₂ t₂. after (cases_took n c₂) (λ cs c₃ t₃. after (order_passed c₃) (λ i c₄ t₄.
        given (subst (λ (k : ℕ). Took c c₄ (4 ∷ (place_words p ++ k ∷ (cases_words cs ++ one_word i))) (term_size (switch p cs i))) (sym t₃.0) (then t (both t₁ (then t₂ (ends t₃.1 t₄)))))))))

    do_while_took : Passed c d (5 ∷ []) → Comes (do_while_read block d) (λ t e. Took c e (term_words t) (term_size t))
    do_while_took t = after (took d) (λ b c₁ t₁. after (top_value_took c₁) (λ v c₂ t₂. after (order_passed c₂) (λ i c₃ t₃. given (then t (both t₁ (ends t₂ t₃))))))

    while_took : Passed c d (6 ∷ []) → Comes (while_read block d) (λ t e. Took c e (term_words t) (term_size t))
    while_took t = after (top_value_took d) (λ v c₁ t₁. after (took c₁) (λ b c₂ t₂. after (order_passed c₂) (λ i c₃ t₃. given (then t (both t₁ (ends t₂ t₃))))))

    for_took : Passed c d (7 ∷ []) → Comes (for_read block d) (λ t e. Took c e (term_words t) (term_size t))
    for_took t =
        after (top_value_took d) (λ n c₁ t₁. after (top_value_took c₁) (λ v c₂ t₂. after (opt_value_took c₂) (λ u c₃ t₃. after (took c₃) (λ b c₄ t₄. after (order_passed c₄) (λ i c₅ t₅.
        given (then t (both t₁ (both t₂ (both t₃ (ends t₄ t₅))))))))))

    for_of_took : Passed c d (8 ∷ []) → Comes (for_of_read block d) (λ t e. Took c e (term_words t) (term_size t))
    for_of_took t =
        after (top_value_took d) (λ n c₁ t₁. after (top_value_took c₁) (λ v c₂ t₂. after (took c₂) (λ b c₃ t₃. after (order_passed c₃) (λ i c₄ t₄. after (word_passed c₄) (λ s c₅ t₅.
        given (then t (both t₁ (both t₂ (ends t₃ (on t₄ t₅))))))))))

    for_in_took : Passed c d (9 ∷ []) → Comes (for_in_read block d) (λ t e. Took c e (term_words t) (term_size t))
    for_in_took t =
        after (top_value_took d) (λ v c₁ t₁. after (took c₁) (λ b c₂ t₂. after (order_passed c₂) (λ i c₃ t₃. after (word_passed c₃) (λ s c₄ t₄.
        given (then t (both t₁ (ends t₂ (on t₃ t₄))))))))

    if_took : Passed c d (10 ∷ []) → Comes (if_read block d) (λ t e. Took c e (term_words t) (term_size t))
    if_took t =
        after (place_took d) (λ p c₁ t₁. after (took c₁) (λ b c₂ t₂. after (opt_block_took c₂) (λ x c₃ t₃. after (order_passed c₃) (λ i c₄ t₄.
        given (then t (both t₁ (both t₂ (ends t₃ t₄))))))))

    try_took : Passed c d (12 ∷ []) → Comes (try_read block d) (λ t e. Took c e (term_words t) (term_size t))
    try_took t =
        after (took d) (λ b c₁ t₁. after (opt_place_took c₁) (λ p c₂ t₂. after (took c₂) (λ h c₃ t₃. after (order_passed c₃) (λ i c₄ t₄.
        given (then t (both t₁ (both t₂ (ends t₃ t₄))))))))

  term_took : (c : Cursor) → Comes (term_read block c) (λ t d. Took c d (term_words t) (term_size t))
  term_took c =
      case_comes
      (jump_read break ∷ jump_read continue ∷ leave_read return ∷ leave_read throw ∷ switch_read block ∷ do_while_read block ∷ while_read block ∷ for_read block ∷ for_of_read block ∷ for_in_read block
      ∷ if_read block ∷ label_block_read block ∷ try_read block ∷ [])
      c
      (λ d. (
        λ t. after (word_passed d) (λ l c₁ t₁. after (order_passed c₁) (λ i c₂ t₂. after (target_passed c₂) (λ k c₃ t₃. given (nothing (on t (on t₁ (on t₂ t₃))))))),
        (
          λ t. after (word_passed d) (λ l c₁ t₁. after (order_passed c₁) (λ i c₂ t₂. after (target_passed c₂) (λ k c₃ t₃. given (nothing (on t (on t₁ (on t₂ t₃))))))),
          (
            λ t. after (place_took d) (λ p c₁ t₁. after (order_passed c₁) (λ i c₂ t₂. given (then t (ends t₁ t₂)))),
            (
              λ t. after (place_took d) (λ p c₁ t₁. after (order_passed c₁) (λ i c₂ t₂. given (then t (ends t₁ t₂)))),
              (
                switch_took,
                (
                  do_while_took,
                  (
                    while_took,
                    (
                      for_took,
                      (
                        for_of_took,
                        (
                          for_in_took,
                          (
                            if_took,
                            (
                              λ t. after (took d) (λ b c₁ t₁. after (order_passed c₁) (λ i c₂ t₂. given (then t (ends t₁ t₂)))),
                              (try_took, tt),
                            ),
                          ),
                        ),
                      ),
                    ),
                  ),
                ),
              ),
            ),
          ),
        ),
      ))

  stmt_took : (c : Cursor) → Comes (stmt_read block c) (λ s d. Took c d (stmt_words s) (stmt_size s))
  stmt_took c =
      case_comes ((λ c. onto (instruction_read c) (λ i. give (instruction i))) ∷ terminal_read block ∷ scope_read block scope ∷ scope_read block pruned ∷ []) c
      (λ d. (
        λ t. after (instr_took top_value top_value_took d) (λ i e u. given (then t u)),
        (
          λ t. after (term_took d) (λ x c₁ t₁. after (option_passed label_passed c₁) (λ m c₂ t₂. given (then t (ends t₁ t₂)))),
          (
            λ t. after (word_passed d) (λ x c₁ t₁. after (took c₁) (λ b c₂ t₂. given (then t (then t₁ t₂)))),
            (
              λ t. after (word_passed d) (λ x c₁ t₁. after (took c₁) (λ b c₂ t₂. given (then t (then t₁ t₂)))),
              tt,
            ),
          ),
        ),
      ))

  stmts_took : (n : ℕ) (c : Cursor) → Comes (stmts_read block n c) (λ b d. (stmt_count b ≡ n) × Took c d (body_words b) (block_size b))
  stmts_took zero c = given (refl, nothing (stays c))
  stmts_took (suc n) c =
      after (statement_began c) (λ _ c₁ t₁. after (stmt_took c₁) (λ s c₂ t₂. after (stmts_took n c₂) (λ b c₃ t₃.
      given (ap suc t₃.0, both t₁ (both t₂ t₃.1)))))

pub block_took : (n : ℕ) (c : Cursor) → Comes (block n c) (λ b d. Took c d (block_words b) (block_size b))
block_took zero c = refused
block_took (suc n) c =
    after (word_passed c) (λ k d t. weaker (stmts_took (block n) (block_took n) k d) (λ b e u. subst (λ (m : ℕ). Took c e (m ∷ body_words b) (block_size b)) (sym u.0) (then t u.1)))
