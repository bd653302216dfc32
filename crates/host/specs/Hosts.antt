-- The two hosts. Assumes nothing.
use Rattle.std.specs.Prelude.{ℕ, ◌+◌, ◌%◌, ◌^◌, List, [], ◌∷◌, Ok, refl}
use Rattle.host.specs.Asked.{Asked, Reply, thrown, Keeps, fixed, or_else, or_stay}

-- the first of the answers that are left; 0 is thrown where there is none
abbrev pub first : List ℕ → Reply
first [] = thrown 0
first (x ∷ xs) = Ok x

abbrev pub others : List ℕ → List ℕ
others [] = []
others (x ∷ xs) = xs

-- the state of a list host is the list of the answers that are left
abbrev pub list_answer : List ℕ → Asked → Reply
list_answer s a = or_else (fixed a) (first s)

abbrev pub list_next : List ℕ → Asked → List ℕ
list_next s a = or_stay (fixed a) s (others s)

abbrev pub sum_from : ℕ → List ℕ → ℕ
sum_from n [] = n
sum_from n (x ∷ xs) = sum_from ((n + x) % (2 ^ 32)) xs

abbrev pub number_answer : Unit {0} → Asked → Reply
number_answer s a = or_else (fixed a) (Ok (sum_from a.head.payload a.values))

abbrev pub number_next : Unit {0} → Asked → Unit {0}
number_next s a = s

pub list_keeps : Keeps list_answer list_next
list_keeps = record {
  says = λ s a v h. rw h;
  stays = λ s a v h. rw h;
}

pub number_keeps : Keeps number_answer number_next
number_keeps = record {
  says = λ s a v h. rw h;
  stays = λ s a v h. refl;
}
