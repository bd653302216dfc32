-- Words laid over bytes, one lot after another. Assumes nothing.
use Rattle.std.proofs.Common.{◌≡◌, ℕ, ◌+◌, ◌*◌, ◌<◌, ◌≤◌, List, [], ◌∷◌, ◌++◌, length, get_or, take, drop, sym, refl, ap, ◌∙◌, subst, ap₂, append_assoc, add-zero, arith, length-append, take-append-drop}
use Rattle.std.proofs.lemmas.List.{take_more, drop-drop, take_at, drop_at, length-take-le}
use Rattle.format.specs.Words.{bytes}
use Rattle.write.specs.declared.writer.Writer.{Writer}
use Rattle.write.specs.Puts.{over, Wrote}

bytes_append : (ws vs : List ℕ) → bytes (ws ++ vs) ≡ bytes ws ++ bytes vs
bytes_append [] vs = refl
bytes_append (w ∷ ws) vs = rw (bytes_append ws vs) refl

length_bytes : (ws : List ℕ) → length (bytes ws) ≡ 4 * length ws
length_bytes [] = refl
length_bytes (w ∷ ws) = omega (arith, length_bytes ws)

module _ (o : List ℕ) (at : ℕ) (ws : List ℕ) (fits : 4 * (at + length ws) ≤ length o) where
  front : List ℕ
  front = take (4 * at) o ++ bytes ws

  front_length : length front ≡ 4 * (at + length ws)
  unfolding front
  front_length =
      let a : 4 * at ≤ length o = omega arith in
      omega (arith, length-append (take (4 * at) o) (bytes ws), length_bytes ws, length-take-le (4 * at) o a)

  over_front : over o at ws ≡ front ++ drop (4 * (at + length ws)) o
  unfolding front
  over_front = sym (append_assoc (take (4 * at) o) (bytes ws) (drop (4 * (at + length ws)) o))

  over_take : take (4 * (at + length ws)) (over o at ws) ≡ take (4 * at) o ++ bytes ws
  unfolding front
  over_take = ap (take (4 * (at + length ws))) over_front ∙ take_at front (drop (4 * (at + length ws)) o) (4 * (at + length ws)) front_length

  over_drop : (m : ℕ) → drop (4 * (at + length ws) + m) (over o at ws) ≡ drop (4 * (at + length ws) + m) o
  over_drop m =
      sym (drop-drop m (4 * (at + length ws)) (over o at ws))
      ∙ ap (drop m) (ap (drop (4 * (at + length ws))) over_front ∙ drop_at front (drop (4 * (at + length ws)) o) (4 * (at + length ws)) front_length)
      ∙ drop-drop m (4 * (at + length ws)) o

-- words after words, as all of them at once
pub over_over : (o : List ℕ) (at : ℕ) (ws vs : List ℕ) → 4 * (at + length ws) ≤ length o → over (over o at ws) (at + length ws) vs ≡ over o at (ws ++ vs)
over_over o at ws vs fits =
    let long = length-append ws vs in
    let m : 4 * (at + length ws + length vs) ≡ 4 * (at + length ws) + 4 * length vs = omega arith in
    let n : 4 * (at + length ws) + 4 * length vs ≡ 4 * (at + length (ws ++ vs)) = omega (arith, long) in
    let rest : drop (4 * (at + length ws + length vs)) (over o at ws) ≡ drop (4 * (at + length (ws ++ vs))) o =
    ap (λ k. drop k (over o at ws)) m ∙ over_drop o at ws fits (4 * length vs) ∙ ap (λ k. drop k o) n in
    ap₂ (λ x y. x ++ (bytes vs ++ y)) (over_take o at ws fits) rest
    ∙ append_assoc (take (4 * at) o) (bytes ws) (bytes vs ++ drop (4 * (at + length (ws ++ vs))) o)
    ∙ ap (λ l. take (4 * at) o ++ l) (sym (append_assoc (bytes ws) (bytes vs) (drop (4 * (at + length (ws ++ vs))) o)))
    ∙ ap (λ l. take (4 * at) o ++ (l ++ drop (4 * (at + length (ws ++ vs))) o)) (sym (bytes_append ws vs))

-- one word more
pub over_next : (o : List ℕ) (at : ℕ) (ws : List ℕ) (i : ℕ) → i < length ws → 4 * (at + length ws) ≤ length o → over (over o at (take i ws)) (at + i) (get_or ws i 0 ∷ []) ≡ over o at (take (i + 1) ws)
over_next o at ws i h fits =
    let n : length (take i ws) ≡ i = length-take-le i ws (omega arith) in
    ap (λ k. over (over o at (take i ws)) (at + k) (get_or ws i 0 ∷ [])) (sym n)
    ∙ over_over o at (take i ws) (get_or ws i 0 ∷ []) (omega arith)
    ∙ ap (over o at) (sym (take_more ws i 0 h))

pub over_none : (o : List ℕ) (at : ℕ) → over o at [] ≡ o
over_none o at = ap (λ n. take (4 * at) o ++ drop (4 * n) o) (add-zero at) ∙ take-append-drop (4 * at) o

pub wrote_none : (v : Writer) → 4 * v.at ≤ length v.out.now → Wrote v v []
wrote_none v h = record { same = refl; is = sym (over_none v.out.now v.at); to = omega arith; fits = omega arith; long = refl }

pub wrote_more : {u v w : Writer} {ws vs : List ℕ} → Wrote u v ws → Wrote v w vs → Wrote u w (ws ++ vs)
wrote_more {u} {v} {w} {ws} {vs} p q =
    let long = length-append ws vs in
    record {
      same = q.same ∙ p.same;
      is = q.is ∙ ap₂ (λ o n. over o n vs) p.is p.to ∙ over_over u.out.now u.at ws vs (omega (arith, p.to, p.fits));
      to = omega (arith, long, p.to, q.to);
      fits = omega (arith, p.long, q.fits);
      long = q.long ∙ p.long;
    }

pub wrote_as : {u v : Writer} {ws vs : List ℕ} → ws ≡ vs → Wrote u v ws → Wrote u v vs
wrote_as {u} {v} e h = subst (λ l. Wrote u v l) e h

-- words at the front, written after those that follow them
pub wrote_before : {v w u q : Writer} {ws vs : List ℕ} → v.at ≡ length vs → Wrote v w ws → u.out.now ≡ w.out.now → u.at ≡ 0 → Wrote u q vs → q.out.now ≡ over v.out.now 0 (vs ++ ws)
wrote_before {v} {w} {u} {q} {ws} {vs} h p same begins r =
    let o = v.out.now in
    let long = length-append vs ws in
    let n : length (take (4 * v.at) o) ≡ 4 * (0 + length vs) = length-take-le (4 * v.at) o (omega (arith, p.fits, p.to)) ∙ omega (arith, h) in
    let m : 4 * (v.at + length ws) ≡ 4 * (0 + length (vs ++ ws)) = omega (arith, long, h) in
    let rest : drop (4 * (0 + length vs)) w.out.now ≡ bytes ws ++ drop (4 * (0 + length (vs ++ ws))) o =
    ap (drop (4 * (0 + length vs))) p.is ∙ drop_at (take (4 * v.at) o) (bytes ws ++ drop (4 * (v.at + length ws)) o) (4 * (0 + length vs)) n ∙ ap (λ k. bytes ws ++ drop k o) m in
    r.is
    ∙ ap₂ (λ l k. over l k vs) same begins
    ∙ ap (λ l. take 0 w.out.now ++ (bytes vs ++ l)) rest
    ∙ sym (append_assoc (bytes vs) (bytes ws) (drop (4 * (0 + length (vs ++ ws))) o))
    ∙ ap (λ l. l ++ drop (4 * (0 + length (vs ++ ws))) o) (sym (bytes_append vs ws))
