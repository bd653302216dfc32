-- What is left to write of a list of words, as a loop writes it item by item. Assumes nothing.
use Rattle.std.proofs.Common.{◌≡◌, ℕ, ◌+◌, ◌<◌, List, [], ◌∷◌, ◌++◌, length, get_or, drop, sym, refl, ap, ◌∙◌, subst, arith, append_assoc, length-append}
use Rattle.std.proofs.lemmas.List.{drop_more}
use Rattle.hir.specs.Encode.{items_words}
use Rattle.write.specs.declared.writer.Writer.{Writer}
use Rattle.write.specs.Puts.{Room, Wrote}
use Rattle.write.proofs.Lay.{wrote_none, wrote_more, wrote_as}

-- of the words ws, that v was to write, w has yet to write vs
pub record Left (v w : Writer) (ws vs : List ℕ) : Type 0 where
  pub room : Room w vs
  pub rest : (u : Writer) → Wrote w u vs → Wrote v u ws

pub left_more : {v w u : Writer} {all ws vs more : List ℕ} → Left v w all more → more ≡ ws ++ vs → Wrote w u ws → Left v u all vs
left_more {w = w} {ws = ws} {vs = vs} l e h =
    record {
      room = record { fits = omega (arith, l.room.fits, ap length e, length-append ws vs, h.to, h.long) };
      rest = λ u p. l.rest u (wrote_as (sym e) (wrote_more h p));
    }

-- under another name for the writer
pub left_as : {v w u : Writer} {all ws vs : List ℕ} → u ≡ w → ws ≡ vs → Left v w all ws → Left v u all vs
left_as {v} {w} {all = all} {vs = vs} e f l = subst (λ x. Left v x all vs) (sym e) (subst (λ x. Left v w all x) f l)

pub left_end : {v w : Writer} {all vs : List ℕ} → Left v w all vs → vs ≡ [] → Wrote v w all
left_end {w = w} l e = l.rest w (wrote_as (sym e) (wrote_none w (omega (arith, l.room.fits))))

pub rest_is : {X : Type 0} (xs : List X) (i : ℕ) (x : X) → i < length xs → x ≡ get_or xs i x → drop i xs ≡ x ∷ drop (i + 1) xs
rest_is xs i x h e = drop_more xs i x h ∙ ap (λ y. y ∷ drop (i + 1) xs) (sym e)

pub items_append : {X : Type 0} (words : X → List ℕ) (xs ys : List X) → items_words words (xs ++ ys) ≡ items_words words xs ++ items_words words ys
items_append words [] ys = refl
items_append words (x ∷ xs) ys = ap (λ l. words x ++ l) (items_append words xs ys) ∙ sym (append_assoc (words x) (items_words words xs) (items_words words ys))
