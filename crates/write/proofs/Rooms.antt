-- Room for words, as lots of them are written. Assumes nothing.
use Rattle.std.proofs.Common.{◌≡◌, ℕ, List, ◌++◌, Option, sym, subst, arith, length-append}
use Rattle.std.specs.Prelude.{IsSome}
use Rattle.write.specs.declared.writer.Writer.{Writer}
use Rattle.write.specs.Puts.{Room, Wrote, words_in, Writable}

pub ruleset lengths = (length-append)

pub room_first : {v : Writer} (ws vs : List ℕ) → Room v (ws ++ vs) → Room v ws
room_first ws vs r = record { fits = omega (arith, r.fits, length-append ws vs) }

pub room_rest : {v w : Writer} {ws : List ℕ} (vs : List ℕ) → Wrote v w ws → Room v (ws ++ vs) → Room w vs
room_rest {ws = ws} vs p r = record { fits = omega (arith, r.fits, length-append ws vs, p.to, p.long) }

pub room_as : {v : Writer} {ws vs : List ℕ} → ws ≡ vs → Room v ws → Room v vs
room_as {v} e h = subst (Room v) e h

pub writable_as : {X : Type 0} {words : X → List ℕ} {x y : Option X} {v : Writer} → x ≡ y → IsSome y → Room v (words_in words y) → Writable words x v
writable_as {words = words} {v = v} e s r = subst (λ o. Writable words o v) (sym e) (record { stands = s; room = r })
