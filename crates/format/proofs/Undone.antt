-- What is read is written as it was: words, bytes, and how many of them. Assumes nothing.
use Rattle.std.proofs.Common.{◌≡◌, ℕ, ◌+◌, ◌-◌, ◌≤◌, List, ◌∷◌, ◌++◌, length, get_or, take, drop, Ok, sym, ap, ◌∙◌, append-nil, arith, length-drop, take-append-drop, length-take-le, drop-cons}
use Rattle.std.proofs.lemmas.List.{drop-drop, drop_all}
use Rattle.hir.specs.Encode.{sections, encode}
use Rattle.hir.specs.Tree.{Function}
use Rattle.format.specs.Parse.{parse}
use Rattle.format.specs.RoundTrip.{WordsComeBack}
use Rattle.format.proofs.Sections.{Stands, pair_stands, last_stands, parse_parsed}
use Rattle.format.proofs.Counts.{counters_cover, identifiers_cover, scopes_cover, body_covers}

-- a part and what follows it
part_joined : (ws : List ℕ) (a b : ℕ) → a ≤ b → take (b - a) (drop a ws) ++ drop b ws ≡ drop a ws
part_joined ws a b h =
    let n : a + (b - a) ≡ b = omega arith in
    ap (λ k. take (b - a) (drop a ws) ++ drop k ws) (sym n) ∙ ap (λ l. take (b - a) (drop a ws) ++ l) (sym (drop-drop (b - a) a ws)) ∙ take-append-drop (b - a) (drop a ws)

pub part_long : (ws : List ℕ) (a b : ℕ) → b ≤ length ws → length (take (b - a) (drop a ws)) ≡ b - a
part_long ws a b h = length-take-le (b - a) (drop a ws) (omega (arith, length-drop a ws))

-- the eight words of the pairs, and the rest
front : (ws : List ℕ) → 8 ≤ length ws → ws ≡ get_or ws 0 0 ∷ get_or ws 1 0 ∷ get_or ws 2 0 ∷ get_or ws 3 0 ∷ get_or ws 4 0 ∷ get_or ws 5 0 ∷ get_or ws 6 0 ∷ get_or ws 7 0 ∷ drop 8 ws
front ws h =
    drop-cons ws 0 0 (omega arith) ∙ ap (λ l. get_or ws 0 0 ∷ l) (drop-cons ws 1 0 (omega arith) ∙ ap (λ l. get_or ws 1 0 ∷ l) (drop-cons ws 2 0 (omega arith) ∙ ap (λ l. get_or ws 2 0 ∷ l)
    (drop-cons ws 3 0 (omega arith) ∙ ap (λ l. get_or ws 3 0 ∷ l) (drop-cons ws 4 0 (omega arith) ∙ ap (λ l. get_or ws 4 0 ∷ l) (drop-cons ws 5 0 (omega arith) ∙ ap (λ l. get_or ws 5 0 ∷ l)
    (drop-cons ws 6 0 (omega arith) ∙ ap (λ l. get_or ws 6 0 ∷ l) (drop-cons ws 7 0 (omega arith))))))))

-- four parts that lie as the pairs say make up the file
module _ (ws : List ℕ) (e₁ e₂ e₃ e₄ : ℕ) where
  laid : Stands ws (get_or ws 0 0) (get_or ws 1 0) 8 e₁ → Stands ws (get_or ws 2 0) (get_or ws 3 0) e₁ e₂ → Stands ws (get_or ws 4 0) (get_or ws 5 0) e₂ e₃ → Stands ws (get_or ws 6 0) (get_or ws 7 0) e₃ e₄ → e₄ ≡ length ws → sections (take (e₁ - 8) (drop 8 ws)) (take (e₂ - e₁) (drop e₁ ws)) (take (e₃ - e₂) (drop e₂ ws)) (take (e₄ - e₃) (drop e₃ ws)) ≡ ws
  laid s₁ s₂ s₃ s₄ end =
      let l₁ = part_long ws 8 e₁ s₁.within in
      let l₂ = part_long ws e₁ e₂ s₂.within in
      let l₃ = part_long ws e₂ e₃ s₃.within in
      let l₄ = part_long ws e₃ e₄ s₄.within in
      let q₀ : 8 ≡ get_or ws 0 0 = omega arith in
      let q₁ : length (take (e₁ - 8) (drop 8 ws)) ≡ get_or ws 1 0 = omega arith in
      let q₂ : 8 + length (take (e₁ - 8) (drop 8 ws)) ≡ get_or ws 2 0 = omega arith in
      let q₃ : length (take (e₂ - e₁) (drop e₁ ws)) ≡ get_or ws 3 0 = omega arith in
      let q₄ : 8 + length (take (e₁ - 8) (drop 8 ws)) + length (take (e₂ - e₁) (drop e₁ ws)) ≡ get_or ws 4 0 = omega arith in
      let q₅ : length (take (e₃ - e₂) (drop e₂ ws)) ≡ get_or ws 5 0 = omega arith in
      let q₆ : 8 + length (take (e₁ - 8) (drop 8 ws)) + length (take (e₂ - e₁) (drop e₁ ws)) + length (take (e₃ - e₂) (drop e₂ ws)) ≡ get_or ws 6 0 = omega arith in
      let q₇ : length (take (e₄ - e₃) (drop e₃ ws)) ≡ get_or ws 7 0 = omega arith in
      let r₄ : take (e₄ - e₃) (drop e₃ ws) ≡ drop e₃ ws = sym (append-nil _) ∙ ap (λ l. take (e₄ - e₃) (drop e₃ ws) ++ l) (sym (drop_all e₄ ws (omega arith))) ∙ part_joined ws e₃ e₄ (omega arith) in
      let r₃ = ap (λ l. take (e₃ - e₂) (drop e₂ ws) ++ l) r₄ ∙ part_joined ws e₂ e₃ (omega arith) in
      let r₂ = ap (λ l. take (e₂ - e₁) (drop e₁ ws) ++ l) r₃ ∙ part_joined ws e₁ e₂ (omega arith) in
      let r₁ = ap (λ l. take (e₁ - 8) (drop 8 ws) ++ l) r₂ ∙ part_joined ws 8 e₁ (omega arith) in
      (λ k. q₀ k ∷ q₁ k ∷ q₂ k ∷ q₃ k ∷ q₄ k ∷ q₅ k ∷ q₆ k ∷ q₇ k ∷ r₁ k) ∙ sym (front ws (omega arith))

pub words_come_back : WordsComeBack
unfolding encode
words_come_back ws F e =
    let p = parse_parsed ws F e in
    let z = last_stands ws 6 p.e₃ p.e₄ p.p₄ in
    let c = (counters_cover ws 8 p.e₁ _ (F.counters, p.u₁) p.s₁).words in
    let i = (identifiers_cover ws p.e₁ p.e₂ p.u₁ (F.identifiers, p.u₂) p.s₂).words in
    let s = (scopes_cover ws p.e₂ p.e₃ p.u₂ (F.scopes, p.u₃) p.s₃).words in
    let b = (body_covers ws p.e₃ p.e₄ p.u₃ (F.body, p.u₄) p.s₄).words in
    (λ k. sections (sym c k) (sym i k) (sym s k) (sym b k))
    ∙ laid ws p.e₁ p.e₂ p.e₃ p.e₄ (pair_stands ws 0 8 p.e₁ p.p₁) (pair_stands ws 2 p.e₁ p.e₂ p.p₂) (pair_stands ws 4 p.e₂ p.e₃ p.p₃) z.0 z.1

-- as many words as were read
pub as_long : (ws : List ℕ) (F : Function) → parse ws ≡ Ok F → length (encode F) ≡ length ws
as_long ws F e = ap length (words_come_back ws F e)
