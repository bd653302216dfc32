-- The sections that the pairs of a file name, one after another behind the pairs, are the file's words.
-- So the lines that show a file say its words again.
use Rattle.std.proofs.Common.{◌≡◌, ℕ, ◌+◌, ◌*◌, ◌<◌, List, [], ◌∷◌, ◌++◌, length, get_or, take, drop, None, Ok, sym, ap, ◌∙◌, append-nil, arith, length-drop, take-append-drop, take_all, drop-drop}
use Rattle.std.specs.List.{AllByRecursion}
use Rattle.std.proofs.ByRecursion.{All-take, All-drop}
use Rattle.hir.specs.Tree.{Function}
use Rattle.format.specs.Parse.{parse}
use Rattle.format.specs.Words.{words}
use Rattle.format.proofs.Bytes.{bytes_words, file_whole}
use Rattle.format.proofs.Sections.{parse_parsed, pair_stands, last_stands}
use Rattle.text.specs.declared.character.Position.{Position}
use Rattle.text.specs.Again.{ShownIsReadAgain}
use Rattle.text.specs.Line.{line}
use Rattle.text.specs.Said.{start, onto, said_from, said}
use Rattle.text.specs.Sections.{section_of, five_lines}
use Rattle.text.proofs.Printed.{line_passes}

-- words of 32 bits
abbrev Small : List ℕ → Type 0
Small ws = AllByRecursion (λ w. w < 4294967296) ws

-- as are those of a part
small_part : (i n : ℕ) (ws : List ℕ) → Small ws → Small (take n (drop i ws))
small_part i n ws h = All-take (λ w. w < 4294967296) n (drop i ws) (All-drop (λ w. w < 4294967296) i ws h)

-- and the words of bytes
words_small : (bs : List ℕ) → AllByRecursion (λ b. b < 256) bs → Small (words bs)
words_small [] h = tt
words_small (a ∷ []) h = tt
words_small (a ∷ b ∷ []) h = tt
words_small (a ∷ b ∷ c ∷ []) h = tt
words_small (a ∷ b ∷ c ∷ d ∷ bs) h =
    let ha : a < 256 = h.0 in
    let hb : b < 256 = h.1.0 in
    let hc : c < 256 = h.1.1.0 in
    let hd : d < 256 = h.1.1.1.0 in
    let w : a + b * 256 + c * 65536 + d * 16777216 < 4294967296 = omega arith in
    (w, words_small bs h.1.1.1.1)

-- a part and what comes behind it
part_then : (ws rest : List ℕ) (at i n to : ℕ) → at ≡ i → to ≡ i + n → rest ≡ drop to ws → take n (drop at ws) ++ rest ≡ drop i ws
part_then ws rest at i n to e f g =
    ap (λ (k : ℕ). take n (drop k ws) ++ rest) e
    ∙ ap (λ (l : List ℕ). take n (drop i ws) ++ l) (g ∙ ap (λ (k : ℕ). drop k ws) f ∙ sym (drop-drop n i ws))
    ∙ take-append-drop n (drop i ws)

-- the last part
part_last : (ws : List ℕ) (at i n to : ℕ) → at ≡ i → to ≡ i + n → to ≡ length ws → take n (drop at ws) ≡ drop i ws
part_last ws at i n to e f g =
    ap (λ (k : ℕ). take n (drop k ws)) e ∙ take_all n (drop i ws) (omega (arith, length-drop i ws))

abbrev parts : List ℕ → List ℕ
parts ws = take 8 ws ++ (section_of 0 1 ws ++ (section_of 2 3 ws ++ (section_of 4 5 ws ++ section_of 6 7 ws)))

parts_all : (ws : List ℕ) (F : Function) → parse ws ≡ Ok F → parts ws ≡ ws
parts_all ws F e =
    let p = parse_parsed ws F e in
    let a = pair_stands ws 0 8 p.e₁ p.p₁ in
    let b = pair_stands ws 2 p.e₁ p.e₂ p.p₂ in
    let c = pair_stands ws 4 p.e₂ p.e₃ p.p₃ in
    let d = last_stands ws 6 p.e₃ p.e₄ p.p₄ in
    let l₄ = part_last ws (get_or ws 6 0) p.e₃ (get_or ws 7 0) p.e₄ d.0.begins d.0.ends d.1 in
    let l₃ = part_then ws _ (get_or ws 4 0) p.e₂ (get_or ws 5 0) p.e₃ c.begins c.ends l₄ in
    let l₂ = part_then ws _ (get_or ws 2 0) p.e₁ (get_or ws 3 0) p.e₂ b.begins b.ends l₃ in
    let l₁ = part_then ws _ (get_or ws 0 0) 8 (get_or ws 1 0) p.e₁ a.begins a.ends l₂ in
    ap (λ (l : List ℕ). take 8 ws ++ l) l₁ ∙ take-append-drop 8 ws

-- lines behind a line
then_lines : (ws vs more : List ℕ) (at : Position) → Small ws → ((to : Position) → said_from None to more ≡ Ok vs) → said_from None at (line ws ++ more) ≡ Ok (ws ++ vs)
then_lines ws vs more at h next =
    let p = line_passes ws h at more in
    p.same ∙ ap (onto ws) (next p.to)

last_line : (ws : List ℕ) (at : Position) → Small ws → said_from None at (line ws) ≡ Ok ws
last_line ws at h =
    let p = line_passes ws h at [] in
    ap (said_from None at) (sym (append-nil (line ws))) ∙ p.same ∙ ap Ok (append-nil ws)

lines_say : (ws : List ℕ) → Small ws → said (five_lines ws) ≡ Ok (parts ws)
lines_say ws h =
    then_lines (take 8 ws) _ _ start (All-take (λ w. w < 4294967296) 8 ws h)
    (λ at. then_lines (section_of 0 1 ws) _ _ at (small_part (get_or ws 0 0) (get_or ws 1 0) ws h)
    (λ at. then_lines (section_of 2 3 ws) _ _ at (small_part (get_or ws 2 0) (get_or ws 3 0) ws h)
    (λ at. then_lines (section_of 4 5 ws) _ _ at (small_part (get_or ws 4 0) (get_or ws 5 0) ws h)
    (λ at. last_line (section_of 6 7 ws) at (small_part (get_or ws 6 0) (get_or ws 7 0) ws h)))))

pub shown_is_read_again : ShownIsReadAgain
shown_is_read_again bs F h e =
    let w = file_whole bs F e in
    record { read = lines_say (words bs) (words_small bs h) ∙ ap Ok (parts_all (words bs) F w.reads); packed = bytes_words bs h w.even }
