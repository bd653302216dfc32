-- Each answer to a file tells the first question whose answer is no. Assumes nothing.
use Rattle.std.proofs.Common.{◌≡◌, ℕ, suc, ◌+◌, ◌%◌, Bool, true, false, cond, eqb, leb, List, [], ◌∷◌, length, get_or, Some, None, Ok, Err, Result, sym, refl, ap, ◌∙◌, subst, arith, eq-eqb, eqb-true, le-leb, leb-true}
use Rattle.std.specs.List.{AllByRecursion}
use Rattle.hir.specs.Encode.{encode}
use Rattle.hir.specs.Sizes.{none}
use Rattle.hir.specs.Tree.{Function}
use Rattle.format.specs.declared.fault.FileFault.{FileFault}
use Rattle.format.specs.declared.fault.FileFault.TheVariants.{Length, Pairs, Reading, Limit}
use Rattle.format.specs.Parse.{and_then, section, counters, every, identifier, scope_info, block, parse, parse_file}
use Rattle.format.specs.Readable.{Readable}
use Rattle.format.specs.Refusals.{LengthGood, first_no, pairs_good, Unreadable, Reads, Says, FirstNoIsTold}
use Rattle.format.specs.Words.{words}
use Rattle.format.proofs.Took.{err_ok}
use Rattle.format.proofs.Undone.{words_come_back}
use Rattle.format.proofs.Fitting.{only_readable}
use Rattle.format.proofs.Rereads.{words_are_read}
use Rattle.format.proofs.Places.{Late, and_then_late, section_late, counters_lie, identifiers_lie, scopes_lie, block_lies}

yes_no : {b : Bool} → b ≡ true → b ≡ false → ⊥
yes_no p q = let z : ◌≡◌ {A = ℕ} 0 1 = cc in omega arith

-- tests one after the other, from word k on, and then r
abbrev guarded : ℕ → List Bool → Result Function FileFault → Result Function FileFault
guarded k [] r = r
guarded k (b ∷ bs) r = cond b (guarded (suc k) bs r) (Err (Pairs k))

-- what holds of r where no test fails, and of the fault where one does, holds of the answer
guarded_so : (P : Result Function FileFault → Type 0) (k : ℕ) (bs : List Bool) (r : Result Function FileFault) → (first_no k bs ≡ None → P r) → ((w : ℕ) → first_no k bs ≡ Some w → P (Err (Pairs w))) → P (guarded k bs r)
guarded_so P k [] r h g = h refl
guarded_so P k (true ∷ bs) r h g = guarded_so P (suc k) bs r h g
guarded_so P k (false ∷ bs) r h g = g k refl

-- ---- the sections are read once the pairs stand
both_tests : {X Y : Type 0} (a b : Bool) (x : X) (e f : FileFault) (k : X → Result Y FileFault) → and_then (cond a (cond b (Ok x) (Err f)) (Err e)) k ≡ cond a (cond b (k x) (Err f)) (Err e)
both_tests true true x e f k = refl
both_tests true false x e f k = refl
both_tests false b x e f k = refl

-- where the sections end, as the pairs say
module _ (ws : List ℕ) where
  abbrev end₁ : ℕ
  end₁ = 8 + get_or ws 1 0

  abbrev end₂ : ℕ
  end₂ = end₁ + get_or ws 3 0

  abbrev end₃ : ℕ
  end₃ = end₂ + get_or ws 5 0

  abbrev end₄ : ℕ
  end₄ = end₃ + get_or ws 7 0

  body_of : Result Function FileFault
  body_of =
      and_then (section counters ws 8 end₁ none) (λ c. and_then (section (every identifier) ws end₁ end₂ c.1) (λ i. and_then (section (every scope_info) ws end₂ end₃ i.1) (λ s. and_then (section (block 64) ws end₃ end₄ s.1) (λ b.
      Ok (record { counters = c.0; identifiers = i.0; scopes = s.0; body = b.0 })))))

  parse_guarded : parse ws ≡ guarded 0 (pairs_good ws) body_of
  unfolding parse body_of
  parse_guarded =
      both_tests (eqb (get_or ws 0 0) 8) (leb end₁ (length ws)) end₁ (Pairs 0) (Pairs 1) _
      ∙ ap (λ r. cond (eqb (get_or ws 0 0) 8) (cond (leb end₁ (length ws)) r (Err (Pairs 1))) (Err (Pairs 0)))
      (both_tests (eqb (get_or ws 2 0) end₁) (leb end₂ (length ws)) end₂ (Pairs 2) (Pairs 3) _
      ∙ ap (λ r. cond (eqb (get_or ws 2 0) end₁) (cond (leb end₂ (length ws)) r (Err (Pairs 3))) (Err (Pairs 2)))
      (both_tests (eqb (get_or ws 4 0) end₂) (leb end₃ (length ws)) end₃ (Pairs 4) (Pairs 5) _
      ∙ ap (λ r. cond (eqb (get_or ws 4 0) end₂) (cond (leb end₃ (length ws)) r (Err (Pairs 5))) (Err (Pairs 4)))
      (both_tests (eqb (get_or ws 6 0) end₃) (eqb end₄ (length ws)) end₄ (Pairs 6) (Pairs 7) _)))

  body_late : end₄ ≡ length ws → Late 8 (length ws) body_of
  unfolding body_of
  body_late e =
      and_then_late 8 (length ws) (section counters ws 8 end₁ none) _ (section_late counters counters_lie ws 8 end₁ none (omega arith) (omega arith) (omega arith)) (λ c.
      and_then_late 8 (length ws) (section (every identifier) ws end₁ end₂ c.1) _ (section_late (every identifier) identifiers_lie ws end₁ end₂ c.1 (omega arith) (omega arith) (omega arith)) (λ i.
      and_then_late 8 (length ws) (section (every scope_info) ws end₂ end₃ i.1) _ (section_late (every scope_info) scopes_lie ws end₂ end₃ i.1 (omega arith) (omega arith) (omega arith)) (λ s.
      and_then_late 8 (length ws) (section (block 64) ws end₃ end₄ s.1) _ (section_late (block 64) (block_lies 64) ws end₃ end₄ s.1 (omega arith) (omega arith) (omega arith)) (λ b. tt))))

-- without a no each test is yes, the last one too
all_yes : (k : ℕ) (bs : List Bool) → first_no k bs ≡ None → AllByRecursion (λ b. b ≡ true) bs
all_yes k [] e = tt
all_yes k (true ∷ bs) e = (refl, all_yes (suc k) bs e)
all_yes k (false ∷ bs) e = absurd (let z : ◌≡◌ {A = ℕ} 0 1 = cc in omega arith)

to_the_end : (ws : List ℕ) → first_no 0 (pairs_good ws) ≡ None → end₄ ws ≡ length ws
to_the_end ws e = eqb-true (end₄ ws) (length ws) (all_yes 0 (pairs_good ws) e).1.1.1.1.1.1.1.0

-- ---- what the words are said to be
abbrev Said : List ℕ → Result Function FileFault → Type 0
Said ws (Ok F) = Reads ws F
Said ws (Err Length) = ⊥
Said ws (Err (Pairs w)) = first_no 0 (pairs_good ws) ≡ Some w
Said ws (Err (Reading w)) = Unreadable ws w
Said ws (Err (Limit w)) = Unreadable ws w

nobody : (ws : List ℕ) (e : FileFault) → parse ws ≡ Err e → (F : Function) → Readable F → encode F ≡ ws → ⊥
nobody ws e p F g q = err_ok (sym p ∙ ap parse (sym q) ∙ words_are_read F g)

body_said : (ws : List ℕ) (r : Result Function FileFault) → parse ws ≡ r → first_no 0 (pairs_good ws) ≡ None → Late 8 (length ws) r → Said ws r
body_said ws (Ok F) p n l = record { pairs = n; readable = only_readable ws F p; same = words_come_back ws F p }
body_said ws (Err Length) p n l = l
body_said ws (Err (Pairs w)) p n l = absurd l
body_said ws (Err (Reading w)) p n l = record { pairs = n; nobody = nobody ws (Reading w) p; behind = l.0; within = l.1 }
body_said ws (Err (Limit w)) p n l = record { pairs = n; nobody = nobody ws (Limit w) p; behind = l.0; within = l.1 }

words_said : (ws : List ℕ) → Said ws (parse ws)
words_said ws =
    let g = parse_guarded ws in
    let go = guarded_so (λ r. parse ws ≡ r → Said ws r) 0 (pairs_good ws) (body_of ws) (λ n p. body_said ws (body_of ws) p n (body_late ws (to_the_end ws n))) (λ w n p. n) in
    subst (λ (r : Result Function FileFault). Said ws r) (sym g) (go g)

-- ---- and the file
file_said : (bs : List ℕ) (r : Result Function FileFault) → LengthGood bs → Said (words bs) r → Says bs r
file_said bs (Ok F) l h = (l, h)
file_said bs (Err Length) l h = absurd h
file_said bs (Err (Pairs w)) l h = (l, h)
file_said bs (Err (Reading w)) l h = (l, h)
file_said bs (Err (Limit w)) l h = (l, h)

long : (bs : List ℕ) (a b c : Bool) → eqb (length bs % 4) 0 ≡ a → leb 48 (length bs) ≡ b → leb (length bs) 65536 ≡ c → Says bs (cond a (cond b (cond c (parse (words bs)) (Err Length)) (Err Length)) (Err Length))
long bs true true true p q r = file_said bs (parse (words bs)) (record { even = eqb-true _ _ p; least = leb-true _ _ q; most = leb-true _ _ r }) (words_said (words bs))
long bs true true false p q r = λ g. yes_no (le-leb _ _ g.most) r
long bs true false c p q r = λ g. yes_no (le-leb _ _ g.least) q
long bs false b c p q r = λ g. yes_no (eq-eqb _ _ g.even) p

pub first_no_is_told : FirstNoIsTold
unfolding parse_file
first_no_is_told bs = long bs (eqb (length bs % 4) 0) (leb 48 (length bs)) (leb (length bs) 65536) refl refl refl
