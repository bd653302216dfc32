-- A value that fits is found where its words stand. Assumes nothing.
use Rattle.std.proofs.Common.{◌≡◌, ℕ, zero, suc, ◌<◌, ◌≤◌, Bool, true, false, cond, eqb, List, [], ◌∷◌, length, Option, sym, refl, arith, eqb-true}
use Rattle.hir.specs.declared.place.Effect.{Effect}
use Rattle.hir.specs.declared.place.Effect.TheVariants.{Unknown, Freeze, Read as ReadEffect, Capture, ConditionallyMutateIterator, ConditionallyMutate, Mutate, Store}
use Rattle.hir.specs.declared.place.Place.{Place}
use Rattle.hir.specs.declared.value.LogicalOperator.{LogicalOperator}
use Rattle.hir.specs.declared.value.LogicalOperator.TheVariants.{Or, And, Coalesce}
use Rattle.hir.specs.Encode.{option_words, list_words, place_words, op_words, instr_count, val_words, instr_words, instrs_words}
use Rattle.hir.specs.Numbers.{effect_number, operator_number, flag_number}
use Rattle.hir.specs.Sizes.{plus, some_places, opt_place_size, val_size, instr_size, instrs_size}
use Rattle.hir.specs.Tree.{Op, Val, operation, logical, conditional, sequence, optional, Instr, instr, Instrs, inil, icons}
use Rattle.format.specs.Depth.{value_depth, instr_depth, instrs_depth}
use Rattle.format.specs.Readable.{Known, ValFits, InstrFits, InstrsFit}
use Rattle.format.specs.Parse.{Cursor, Read, onto, give, below, word, case, option, listed, effects, place, op, operators, begin_value, instr_read, instrs_read, logical_read, conditional_read, sequence_read, optional_read, val_read, value, top_value}
use Rattle.format.proofs.Finds.{Faces, Shows, Finds, Sees, both, then, ends, on, made, formed, plain, nothing, given, faces_sized, finds_sized, word_sees, below_sees, order_sees, case_finds, case_sees, flag_sees, option_finds, listed_finds}
use Rattle.format.proofs.Begins.{statement_begins, value_begins, place_begins}
use Rattle.format.proofs.TookValues.{opt_place_same, places_size}

effect_sees : (e : Effect) {c : Cursor} {vs : List ℕ} → Shows c (effect_number e ∷ []) vs → Sees (case effects c) e c vs
effect_sees Unknown h = case_sees effects 0 refl h (λ d. given)
effect_sees Freeze h = case_sees effects 1 refl h (λ d. given)
effect_sees ReadEffect h = case_sees effects 2 refl h (λ d. given)
effect_sees Capture h = case_sees effects 3 refl h (λ d. given)
effect_sees ConditionallyMutateIterator h = case_sees effects 4 refl h (λ d. given)
effect_sees ConditionallyMutate h = case_sees effects 5 refl h (λ d. given)
effect_sees Mutate h = case_sees effects 6 refl h (λ d. given)
effect_sees Store h = case_sees effects 7 refl h (λ d. given)

pub place_finds : (p : Place) (c : Cursor) (vs : List ℕ) → Faces c (place_words p) vs (some_places 1) → Finds (place c) p c vs (some_places 1)
unfolding place
place_finds p c vs h =
    ends _ [] h place_begins (λ d f. on _ (p.identifier ∷ []) f word_sees (λ d f. on _ (effect_number p.effect ∷ []) f (effect_sees p.effect) (λ d f. on _ (flag_number p.reactive ∷ []) f (flag_sees p.reactive) (λ d f.
    formed _ (word_sees f) (λ e. refl)))))

pub opt_place_finds : (p : Option Place) (c : Cursor) (vs : List ℕ) → Faces c (option_words place_words p) vs (opt_place_size p) → Finds (option place c) p c vs (opt_place_size p)
opt_place_finds p c vs h = finds_sized (opt_place_same p) (option_finds place place_words (λ _. some_places 1) place_finds p c vs (faces_sized (sym (opt_place_same p)) h))

places_finds : (ps : List Place) (c : Cursor) (vs : List ℕ) → Faces c (list_words place_words ps) vs (some_places (length ps)) → Finds (listed place c) ps c vs (some_places (length ps))
places_finds ps c vs h = finds_sized (places_size ps) (listed_finds place place_words (λ _. some_places 1) place_finds ps c vs (faces_sized (sym (places_size ps)) h))

payload_sees : (b : Bool) {c : Cursor} {w : ℕ} {vs : List ℕ} → (b ≡ true → w < 8) → Shows c (w ∷ []) vs → Sees (cond b (below 8 c) (word c)) w c vs
payload_sees true b h = below_sees 8 (b refl) h
payload_sees false b h = word_sees h

op_finds : (o : Op) → Known o → (c : Cursor) (vs : List ℕ) → Faces c (op_words o) vs (plus (some_places (length o.written)) (some_places (length o.operands))) → Finds (op c) o c vs (plus (some_places (length o.written)) (some_places (length o.operands)))
unfolding op
op_finds o k c vs h =
    then _ (o.kind ∷ []) h (below_sees 42 k.kind) (λ d f. then _ (o.payload ∷ []) f (payload_sees (eqb o.kind 4) (λ e. k.store (eqb-true _ _ e))) (λ d f. both _ (list_words place_words o.written) f (places_finds o.written _ _) (λ d f. ends _ (list_words place_words o.operands) f (places_finds o.operands _ _) (λ d f.
    formed _ (word_sees f) (λ e. refl)))))

operator_sees : (o : LogicalOperator) {c : Cursor} {vs : List ℕ} → Shows c (operator_number o ∷ []) vs → Sees (case operators c) o c vs
operator_sees Or h = case_sees operators 0 refl h (λ d. given)
operator_sees And h = case_sees operators 1 refl h (λ d. given)
operator_sees Coalesce h = case_sees operators 2 refl h (λ d. given)

-- the values inside, at most n deep, are found
module _ (n : ℕ) (value : Cursor → Read Val) (find : (v : Val) → value_depth v ≤ n → ValFits v → (c : Cursor) (vs : List ℕ) → Faces c (val_words v) vs (val_size v) → Finds (value c) v c vs (val_size v)) where
  pub instr_finds : (i : Instr) → instr_depth i ≤ n → InstrFits i → (c : Cursor) (vs : List ℕ) → Faces c (instr_words i) vs (instr_size i) → Finds (instr_read value c) i c vs (instr_size i)
  instr_finds (instr i l v s) k g c vs h =
      then _ (i ∷ []) h (order_sees g.0) (λ d f. both _ (option_words place_words l) f (opt_place_finds l _ _) (λ d f. ends _ (val_words v) f (find v k g.1 _ _) (λ d f.
      formed _ (word_sees f) (λ e. refl))))

  instrs_finds : (is : Instrs) → instrs_depth is ≤ n → InstrsFit is → (c : Cursor) (vs : List ℕ) → Faces c (instrs_words is) vs (instrs_size is) → Finds (instrs_read value (instr_count is) c) is c vs (instrs_size is)
  instrs_finds inil k g c vs h = nothing (given (plain h))
  instrs_finds (icons i is) k g c vs h =
      both _ [] h statement_begins (λ d f. both _ (instr_words i) f (instr_finds i (omega arith) g.0 _ _) (λ d f.
      made _ (instrs_finds is (omega arith) g.1 _ _ f) (λ e. refl)))

  abbrev choices : List (Cursor → Read Val)
  choices = (λ c. onto (op c) (λ o. give (operation o))) ∷ logical_read value ∷ conditional_read value ∷ sequence_read value ∷ optional_read value ∷ []

  val_finds : (v : Val) → value_depth v ≤ suc n → ValFits v → (c : Cursor) (vs : List ℕ) → Faces c (val_words v) vs (val_size v) → Finds (onto (begin_value c) (λ _. val_read value)) v c vs (val_size v)
  val_finds (operation o) k g c vs h = both _ [] h value_begins (λ d f. case_finds choices 0 refl f (λ d f. made _ (op_finds o g _ _ f) (λ e. refl)))
  val_finds (logical o a b) k g c vs h =
      both _ [] h value_begins (λ d f. case_finds choices 1 refl f (λ d f. then _ (operator_number o ∷ []) f (operator_sees o) (λ d f. both _ (val_words a) f (find a (omega arith) g.0 _ _) (λ d f.
      made _ (find b (omega arith) g.1 _ _ f) (λ e. refl)))))
  val_finds (conditional t a b) k g c vs h =
      both _ [] h value_begins (λ d f. case_finds choices 2 refl f (λ d f. both _ (val_words t) f (find t (omega arith) g.0 _ _) (λ d f. both _ (val_words a) f (find a (omega arith) g.1 _ _) (λ d f.
      made _ (find b (omega arith) g.2 _ _ f) (λ e. refl)))))
  val_finds (sequence is i v) k g c vs h =
      both _ [] h value_begins (λ d f. case_finds choices 3 refl f (λ d f. then _ (instr_count is ∷ []) f word_sees (λ d f. both _ (instrs_words is) f (instrs_finds is (omega arith) g.0 _ _) (λ d f. then _ (i ∷ []) f (order_sees g.1) (λ d f.
      made _ (find v (omega arith) g.2 _ _ f) (λ e. refl))))))
  val_finds (optional v o) k g c vs h =
      both _ [] h value_begins (λ d f. case_finds choices 4 refl f (λ d f. ends _ (val_words v) f (find v (omega arith) g _ _) (λ d f.
      formed _ (flag_sees o f) (λ e. refl))))

positive : (v : Val) → 1 ≤ value_depth v
positive (operation o) = omega arith
positive (logical o a b) = omega arith
positive (conditional c a b) = omega arith
positive (sequence is i v) = omega arith
positive (optional v o) = omega arith

pub value_finds : (n : ℕ) (v : Val) → value_depth v ≤ n → ValFits v → (c : Cursor) (vs : List ℕ) → Faces c (val_words v) vs (val_size v) → Finds (value n c) v c vs (val_size v)
value_finds zero v k g c vs h = absurd (omega (arith, positive v))
value_finds (suc n) v k g c vs h = val_finds n (value n) (value_finds n) v k g c vs h

pub top_value_finds : (v : Val) → value_depth v ≤ 64 → ValFits v → (c : Cursor) (vs : List ℕ) → Faces c (val_words v) vs (val_size v) → Finds (top_value c) v c vs (val_size v)
unfolding top_value
top_value_finds v k g c vs h = value_finds 64 v k g c vs h
