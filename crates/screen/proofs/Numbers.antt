-- Where a reader of numbers stands: the values so far, and what the rest of the words says, are what all of them say.
-- One lemma for the start, each way through a turn, and the end.
use Rattle.std.proofs.Common.{◌≡◌, ℕ, ◌+◌, ◌<◌, ◌≤◌, List, [], ◌∷◌, ◌++◌, map, length, get_or, drop, Some, None, Option, sym, refl, ap, ◌∙◌, append_assoc, append-nil, add-one, drop-cons}
use Rattle.std.proofs.lemmas.List.{drop_all, get_or-map}
use Rattle.screen.specs.Number.{number_of}
use Rattle.screen.specs.Arguments.{onto, numbers_of}

-- values, and then what the rest says
abbrev after : List ℕ → Option (List ℕ) → Option (List ℕ)
after vs None = None
after vs (Some ws) = Some (vs ++ ws)

pub record Counted (words : List (List ℕ)) (vs : List ℕ) (i : ℕ) : Type 0 where
  pub same : numbers_of words ≡ after vs (numbers_of (drop i words))

after_none : (o : Option (List ℕ)) → o ≡ after [] o
after_none None = refl
after_none (Some vs) = refl

after_more : (vs : List ℕ) (v : ℕ) (o : Option (List ℕ)) → after vs (onto (Some v) o) ≡ after (vs ++ v ∷ []) o
after_more vs v None = refl
after_more vs v (Some ws) = ap Some (sym (append_assoc vs (v ∷ []) ws))

-- at a word that says o
here : (words : List (List ℕ)) (vs : List ℕ) (i : ℕ) (o : Option ℕ) → i < length words → o ≡ number_of (get_or words i []) → Counted words vs i →
    numbers_of words ≡ after vs (onto o (numbers_of (drop (i + 1) words)))
here words vs i o h e w =
    let cut : drop i words ≡ get_or words i [] ∷ drop (i + 1) words = rw (add-one, drop-cons words i []) in
    w.same ∙ ap (λ (l : List (List ℕ)). after vs (numbers_of l)) cut ∙ ap (λ (p : Option ℕ). after vs (onto p (numbers_of (drop (i + 1) words)))) (sym e)

pub counted_first : (words : List (List ℕ)) → Counted words [] 0
counted_first words = record { same = after_none (numbers_of words) }

pub counted_more : (words : List (List ℕ)) (vs : List ℕ) (i v : ℕ) → i < length words → Some v ≡ number_of (get_or words i []) → Counted words vs i → Counted words (vs ++ v ∷ []) (i + 1)
counted_more words vs i v h e w = record { same = here words vs i (Some v) h e w ∙ after_more vs v _ }

pub counted_refused : (words : List (List ℕ)) (vs : List ℕ) (i : ℕ) → i < length words → None ≡ number_of (get_or words i []) → Counted words vs i → numbers_of words ≡ None
counted_refused words vs i h e w = here words vs i None h e w

pub counted_all : (words : List (List ℕ)) (vs : List ℕ) (i : ℕ) → length words ≤ i → Counted words vs i → numbers_of words ≡ Some vs
counted_all words vs i h w = w.same ∙ ap (λ (l : List (List ℕ)). after vs (numbers_of l)) (drop_all i words h) ∙ ap Some (append-nil vs)

-- the text of the word at i
pub word_at : {X : Type 0} (f : X → List ℕ) (xs : List X) (i : ℕ) (x : X) → i < length xs → x ≡ get_or xs i x → f x ≡ get_or (map f xs) i []
word_at f xs i x h e = ap f e ∙ sym (get_or-map f xs i x [] h)
