-- A number is read again from its digits.
-- Each digit more gives ten times the number before it, and the digit.
use Rattle.std.proofs.Common.{◌≡◌, ℕ, ◌+◌, ◌*◌, ◌/◌, ◌%◌, ◌<◌, ◌≤◌, List, [], ◌∷◌, ◌++◌, Some, None, Option, refl, ap, ◌∙◌, arith}
use Rattle.std.proofs.lemmas.Fmt.{decimal_by_steps}
use Rattle.std.proofs.lemmas.Bool.Decides.{nat_tests}
use Rattle.screen.specs.Laws.{ReadsBack}
use Rattle.screen.specs.Number.{longer_of, number_from, number_of}

-- one byte more at the end
abbrev then : Option ℕ → ℕ → Option ℕ
then None b = None
then (Some n) b = longer_of n b

snoc : (o : Option ℕ) (bs : List ℕ) (b : ℕ) → number_from o (bs ++ b ∷ []) ≡ then (number_from o bs) b
snoc None bs b = refl
snoc (Some n) [] b = last (longer_of n b)
  where
    last : (o : Option ℕ) → number_from o [] ≡ o
    last None = refl
    last (Some m) = refl
snoc (Some n) (c ∷ bs) b = snoc (longer_of n c) bs b

digit : (m d : ℕ) → d < 10 → m * 10 + d ≤ 4294967295 → longer_of m (48 + d) ≡ Some (m * 10 + d)
digit m d h k = grind (arith, nat_tests)

-- digits, at least one, that say n
record Says (n : ℕ) (ds : List ℕ) : Type 0 where
  number : n ≤ 4294967295 → number_of ds ≡ Some n
  from : n ≤ 4294967295 → number_from (Some 0) ds ≡ Some n

some : (c : ℕ) (ds : List ℕ) → number_of (ds ++ c ∷ []) ≡ number_from (Some 0) (ds ++ c ∷ [])
some c [] = refl
some c (d ∷ ds) = refl

one : (n : ℕ) → n < 10 → n ≤ 4294967295 → number_from (Some 0) ((48 + n) ∷ []) ≡ Some n
one n h k =
    let same : 0 * 10 + n ≡ n = omega arith in
    let small : 0 * 10 + n ≤ 4294967295 = omega arith in
    ap (λ (o : Option ℕ). number_from o []) (digit 0 n h small) ∙ ap Some same

more : (n : ℕ) (ds : List ℕ) → number_from (Some 0) ds ≡ Some (n / 10) → n ≤ 4294967295 → number_from (Some 0) (ds ++ ((48 + n % 10) ∷ [])) ≡ Some n
more n ds e k =
    let same : n / 10 * 10 + n % 10 ≡ n = omega arith in
    let below : n % 10 < 10 = omega arith in
    let small : n / 10 * 10 + n % 10 ≤ 4294967295 = omega arith in
    snoc (Some 0) ds (48 + n % 10) ∙ ap (λ (o : Option ℕ). then o (48 + n % 10)) e ∙ digit (n / 10) (n % 10) below small ∙ ap Some same

says_one : (n : ℕ) → n < 10 → Says n ((48 + n) ∷ [])
says_one n h = record { number = one n h; from = one n h }

says_more : (n : ℕ) (ds : List ℕ) → 10 ≤ n → Says (n / 10) ds → Says n (ds ++ ((48 + n % 10) ∷ []))
says_more n ds h w =
    let step : n ≤ 4294967295 → number_from (Some 0) (ds ++ ((48 + n % 10) ∷ [])) ≡ Some n = λ k. let less : n / 10 ≤ 4294967295 = omega arith in more n ds (w.from less) k in
    record { number = λ k. some (48 + n % 10) ds ∙ step k; from = step }

pub reads_back : ReadsBack
reads_back n h = (decimal_by_steps Says says_one says_more n (omega arith)).number h
