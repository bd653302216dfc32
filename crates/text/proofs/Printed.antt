-- What is printed is read again: a line of words says those words, whatever comes after it.
-- Positions only matter to a fault, so each step says that there is one to go on from.
use Rattle.std.proofs.Common.{◌≡◌, ℕ, ◌+◌, ◌*◌, ◌/◌, ◌%◌, ◌<◌, ◌≤◌, List, [], ◌∷◌, ◌++◌, Some, None, Ok, Option, decimal, refl, ap, ◌∙◌, append_assoc, arith}
use Rattle.std.specs.List.{AllByRecursion}
use Rattle.std.proofs.lemmas.Fmt.{decimal_by_steps}
use Rattle.std.proofs.lemmas.Bool.Decides.{nat_tests}
use Rattle.text.specs.declared.character.Position.{Position}
use Rattle.text.specs.declared.character.Word.{Word}
use Rattle.text.specs.Line.{spaced, line}
use Rattle.text.specs.Said.{next_of, digit_of, longer_of, onto, said_from}
use Rattle.text.proofs.Saying.{at_digit, at_white, onto_onto}

digit_here : (d : ℕ) → d < 10 → digit_of (48 + d) ≡ Some d
digit_here d h = grind (arith, nat_tests)

-- one digit more of a word that still fits
longer_fits : (n : ℕ) (from at : Position) (d : ℕ) → n * 10 + d < 4294967296 → longer_of (Some (record { value = n; from = from })) at d ≡ Ok (record { value = n * 10 + d; from = from })
longer_fits n from at d h = grind (arith, nat_tests)

-- from there on a word is being read
pub record Begun (n : ℕ) (at : Position) (text rest : List ℕ) : Type 0 where
  pub from : Position
  pub to : Position
  pub same : said_from None at (text ++ rest) ≡ said_from (Some (record { value = n; from = from })) to rest

abbrev Begins : ℕ → List ℕ → Type 0
Begins n text = n < 4294967296 → (at : Position) (rest : List ℕ) → Begun n at text rest

one_digit : (n : ℕ) → n < 10 → Begins n ((48 + n) ∷ [])
one_digit n h small at rest = record { from = at; to = next_of at (48 + n); same = at_digit None at (48 + n) n rest (Ok (record { value = n; from = at })) (digit_here n h) refl }

one_more : (n : ℕ) (ds : List ℕ) → 10 ≤ n → Begins (n / 10) ds → Begins n (ds ++ ((48 + n % 10) ∷ []))
one_more n ds h begins small at rest =
    let d : ℕ = n % 10 in
    let below : d < 10 = omega arith in
    let less : n / 10 < 4294967296 = omega arith in
    let whole : (n / 10) * 10 + d ≡ n = omega arith in
    let b = begins less at ((48 + d) ∷ rest) in
    let fits : (n / 10) * 10 + d < 4294967296 = omega arith in
    let word : Word = record { value = n; from = b.from } in
    let longer : longer_of (Some (record { value = n / 10; from = b.from })) b.to d ≡ Ok word = longer_fits (n / 10) b.from b.to d fits ∙ ap (λ (m : ℕ). Ok (record { value = m; from = b.from })) whole in
    record {
      from = b.from;
      to = next_of b.to (48 + d);
      same = ap (said_from None at) (append_assoc ds ((48 + d) ∷ []) rest) ∙ b.same ∙ at_digit (Some (record { value = n / 10; from = b.from })) b.to (48 + d) d rest (Ok word) (digit_here d below) longer;
    }

word_begins : (n : ℕ) → n < 4294967296 → (at : Position) (rest : List ℕ) → Begun n at (decimal n) rest
word_begins n h at rest = decimal_by_steps Begins one_digit one_more n (omega arith) h at rest

-- from there on other words are read
pub record Passed (ws : List ℕ) (word : Option Word) (at : Position) (text rest : List ℕ) : Type 0 where
  pub to : Position
  pub same : said_from word at (text ++ rest) ≡ onto ws (said_from None to rest)

abbrev Small : List ℕ → Type 0
Small ws = AllByRecursion (λ w. w < 4294967296) ws

-- the rest of a line, behind a word
tail_passes : (w : Word) (ws : List ℕ) → Small ws → (at : Position) (rest : List ℕ) → Passed (w.value ∷ ws) (Some w) at (spaced ws ++ 10 ∷ []) rest
tail_passes w [] h at rest = record { to = next_of at 10; same = at_white (Some w) at 10 rest refl refl }
tail_passes w (v ∷ ws) h at rest =
    let more = spaced ws ++ 10 ∷ [] in
    let b = word_begins v h.0 (next_of at 32) (more ++ rest) in
    let p = tail_passes (record { value = v; from = b.from }) ws h.1 b.to rest in
    let apart : ((decimal v ++ spaced ws) ++ 10 ∷ []) ++ rest ≡ decimal v ++ (more ++ rest) = simp append_assoc in
    record {
      to = p.to;
      same =
          at_white (Some w) at 32 (((decimal v ++ spaced ws) ++ 10 ∷ []) ++ rest) refl refl
          ∙ ap (λ (l : List ℕ). onto (w.value ∷ []) (said_from None (next_of at 32) l)) apart
          ∙ ap (onto (w.value ∷ [])) (b.same ∙ p.same)
          ∙ onto_onto (w.value ∷ []) (v ∷ ws) (said_from None p.to rest);
    }

pub line_passes : (ws : List ℕ) → Small ws → (at : Position) (rest : List ℕ) → Passed ws None at (line ws) rest
line_passes [] h at rest = record { to = next_of at 10; same = at_white None at 10 rest refl refl }
line_passes (w ∷ ws) h at rest =
    let more = spaced ws ++ 10 ∷ [] in
    let b = word_begins w h.0 at (more ++ rest) in
    let p = tail_passes (record { value = w; from = b.from }) ws h.1 b.to rest in
    let apart : ((decimal w ++ spaced ws) ++ 10 ∷ []) ++ rest ≡ decimal w ++ (more ++ rest) = simp append_assoc in
    record { to = p.to; same = ap (said_from None at) apart ∙ b.same ∙ p.same }
