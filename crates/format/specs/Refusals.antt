-- What each answer to a file says of it. Assumes nothing.
use Rattle.std.specs.Prelude.{◌≡◌, ℕ, suc, ◌+◌, ◌%◌, ◌≤◌, Bool, true, false, List, [], ◌∷◌, length, Some, None, Ok, Err, Option, Result, ◌==◌, ◌≢◌, nat_le, slice_index, slice_index_or}
use Rattle.hir.specs.Encode.{encode}
use Rattle.hir.specs.Tree.{Function}
use Rattle.format.specs.declared.fault.FileFault.{FileFault}
use Rattle.format.specs.declared.fault.FileFault.TheVariants.{Length, Pairs, Reading, Limit}
use Rattle.format.specs.Parse.{parse_file}
use Rattle.format.specs.Readable.{Readable}
use Rattle.format.specs.Words.{words}

-- whole words, from 48 to 65,536 bytes
pub record LengthGood (bs : List ℕ) : Type 0 where
  pub even : length bs % 4 ≡ 0
  pub least : 48 ≤ length bs
  pub most : length bs ≤ 65536

-- the place of the first no, counted from k on
abbrev pub first_no : ℕ → List Bool → Option ℕ
first_no k [] = None
first_no k (true ∷ bs) = first_no (suc k) bs
first_no k (false ∷ bs) = Some k

-- word by word, whether a section begins where the one before ended, and ends within the file, or the last with the file
abbrev pub pairs_good : List ℕ → List Bool
pairs_good ws =
    let end₁ : ℕ = 8 + slice_index_or ws 1 0 in
    let end₂ : ℕ = end₁ + slice_index_or ws 3 0 in
    let end₃ : ℕ = end₂ + slice_index_or ws 5 0 in
    let end₄ : ℕ = end₃ + slice_index_or ws 7 0 in
    let all : ℕ = length ws in
    (slice_index ws 0 == 8) ∷ nat_le end₁ all ∷ (slice_index ws 2 == end₁) ∷ nat_le end₂ all ∷ (slice_index ws 4 == end₂) ∷ nat_le end₃ all ∷ (slice_index ws 6 == end₃) ∷ (end₄ == all) ∷ []

-- the words are those of no function within the limits, and the place is a word behind the pairs, or the first after the file
pub record Unreadable (ws : List ℕ) (place : ℕ) : Type 0 where
  pub pairs : first_no 0 (pairs_good ws) ≡ None
  pub nobody : (F : Function) → Readable F → encode F ≢ ws
  pub behind : 8 ≤ place
  pub within : place ≤ length ws

pub record Reads (ws : List ℕ) (F : Function) : Type 0 where
  pub pairs : first_no 0 (pairs_good ws) ≡ None
  pub readable : Readable F
  pub same : encode F ≡ ws

-- each answer tells the first question whose answer is no, and of the pairs also the first such word
abbrev pub Says : List ℕ → Result Function FileFault → Type 0
Says bs (Ok F) = LengthGood bs × Reads (words bs) F
Says bs (Err Length) = LengthGood bs → ⊥
Says bs (Err (Pairs w)) = LengthGood bs × (first_no 0 (pairs_good (words bs)) ≡ Some w)
Says bs (Err (Reading w)) = LengthGood bs × Unreadable (words bs) w
Says bs (Err (Limit w)) = LengthGood bs × Unreadable (words bs) w

abbrev pub FirstNoIsTold : Type 0
FirstNoIsTold = (bs : List ℕ) → Says bs (parse_file bs)
