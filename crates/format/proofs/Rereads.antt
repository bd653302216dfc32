-- What is written of a readable function is read as that function: words and bytes. Assumes nothing.
use Rattle.std.proofs.Common.{◌≡◌, ℕ, ◌+◌, ◌-◌, ◌%◌, ◌≤◌, true, false, cond, eqb, leb, List, [], ◌∷◌, ◌++◌, length, get_or, take, drop, Ok, Err, Result, sym, refl, ap, ◌∙◌, subst, append_assoc, append-nil, arith, length-append, take_at, drop_at, eq-eqb, le-leb}
use Rattle.hir.specs.declared.used.Used.{Used}
use Rattle.hir.specs.Encode.{items_words, counters_words, identifier_words, scope_words, block_words, encode}
use Rattle.hir.specs.Limits.{Within, limits}
use Rattle.hir.specs.Sizes.{none, plus, declarations_in, block_size}
use Rattle.hir.specs.Tree.{Function}
use Rattle.format.specs.declared.fault.FileFault.{FileFault}
use Rattle.format.specs.declared.fault.FileFault.TheVariants.{Length, Pairs}
use Rattle.format.specs.Parse.{Cursor, Read, and_then, to_end, section, pair, counters, identifier, scope_info, every, block, parse, parse_file}
use Rattle.format.specs.Readable.{Readable, WordsAreRead, BytesAreRead}
use Rattle.format.specs.Words.{words, bytes}
use Rattle.format.proofs.Sections.{Parsed}
use Rattle.format.proofs.Counts.{sum_is_sizes}
use Rattle.format.proofs.Bytes.{bytes_length, words_bytes}
use Rattle.format.proofs.Finds.{Faces, Finds, nothing, plain}
use Rattle.format.proofs.FindsStatements.{block_finds}
use Rattle.format.proofs.FindsTables.{counters_sees, identifiers_find, scopes_find}
use Rattle.format.proofs.TookTables.{some_identifiers, some_scopes}

-- ---- pairs that stand, and a section whose reading ends with it
pair_is : (ws : List ℕ) (at from to : ℕ) → get_or ws at 0 ≡ from → to ≡ from + get_or ws (at + 1) 0 → to ≤ length ws → pair ws at false from ≡ Ok to
pair_is ws at from to a b c =
    ap (λ t. cond t (cond (leb (from + get_or ws (at + 1) 0) (length ws)) (Ok (from + get_or ws (at + 1) 0)) (Err (Pairs (at + 1)))) (Err (Pairs at))) (eq-eqb _ _ a)
    ∙ ap (λ t. cond t (Ok (from + get_or ws (at + 1) 0)) (Err (Pairs (at + 1)))) (le-leb (from + get_or ws (at + 1) 0) (length ws) (omega arith))
    ∙ ap Ok (sym b)

last_is : (ws : List ℕ) (at from to : ℕ) → get_or ws at 0 ≡ from → to ≡ from + get_or ws (at + 1) 0 → to ≡ length ws → pair ws at true from ≡ Ok to
last_is ws at from to a b c =
    ap (λ t. cond t (cond (eqb (from + get_or ws (at + 1) 0) (length ws)) (Ok (from + get_or ws (at + 1) 0)) (Err (Pairs (at + 1)))) (Err (Pairs at))) (eq-eqb _ _ a)
    ∙ ap (λ t. cond t (Ok (from + get_or ws (at + 1) 0)) (Err (Pairs (at + 1)))) (eq-eqb (from + get_or ws (at + 1) 0) (length ws) (sym b ∙ c))
    ∙ ap Ok (sym b)

section_is : {X : Type 0} (p : Cursor → Read X) (x : X) (s : Used) (ws : List ℕ) (from to : ℕ) (u : Used) (vs : List ℕ) → take (to - from) (drop from ws) ≡ vs → Within (plus u s) limits → ((c : Cursor) → Faces c vs [] s → Finds (p c) x c [] s) → section p ws from to u ≡ Ok (x, plus u s)
section_is p x s ws from to u vs e w find =
    let c : Cursor = record { at = from; rest = take (to - from) (drop from ws); used = u } in
    let a = find c (record { rest = e ∙ sym (append-nil vs); room = w }) in
    ap (λ r. and_then r (λ q. to_end q.0 q.1.at q.1.used q.1.rest)) a.is ∙ ap (to_end x a.to.at a.to.used) a.rest ∙ ap (λ v. Ok (x, v)) a.used

part_is : (ws ps vs qs : List ℕ) (from to : ℕ) → ws ≡ ps ++ (vs ++ qs) → length ps ≡ from → to ≡ from + length vs → take (to - from) (drop from ws) ≡ vs
part_is ws ps vs qs from to e a b = ap (λ l. take (to - from) (drop from l)) e ∙ ap (take (to - from)) (drop_at ps (vs ++ qs) from a) ∙ take_at vs qs (to - from) (omega arith)

-- ---- the file
and_then_is : {X Y : Type 0} {r : Result X FileFault} {x : X} {y : Result Y FileFault} (f : X → Result Y FileFault) → r ≡ Ok x → f x ≡ y → and_then r f ≡ y
and_then_is f e k = ap (λ r. and_then r f) e ∙ k

parsed_parse : (ws : List ℕ) (F : Function) → Parsed ws F → parse ws ≡ Ok F
unfolding parse
parsed_parse ws F p =
    and_then_is _ p.p₁ (and_then_is _ p.p₂ (and_then_is _ p.p₃ (and_then_is _ p.p₄ (and_then_is _ p.s₁ (and_then_is _ p.s₂ (and_then_is _ p.s₃ (and_then_is _ p.s₄ refl)))))))

room_less : (a b : Used) → Within (plus a b) limits → Within a limits
room_less a b w =
    record { statements = omega (arith, w.statements); values = omega (arith, w.values); places = omega (arith, w.places); identifiers = omega (arith, w.identifiers); scopes = omega (arith, w.scopes); declarations = omega (arith, w.declarations); cases = omega (arith, w.cases) }

module _ (F : Function) (g : Readable F) where
  abbrev cs : List ℕ
  cs = counters_words F.counters

  abbrev is : List ℕ
  is = items_words identifier_words F.identifiers

  abbrev ss : List ℕ
  ss = items_words scope_words F.scopes

  abbrev bs : List ℕ
  bs = block_words F.body

  -- where each section ends, and what is taken up to there
  abbrev e₁ : ℕ
  e₁ = 8 + length cs

  abbrev e₂ : ℕ
  e₂ = e₁ + length is

  abbrev e₃ : ℕ
  e₃ = e₂ + length ss

  abbrev e₄ : ℕ
  e₄ = e₃ + length bs

  abbrev u₁ : Used
  u₁ = plus none none

  abbrev u₂ : Used
  u₂ = plus u₁ (some_identifiers (length F.identifiers))

  abbrev u₃ : Used
  u₃ = plus u₂ (some_scopes (length F.scopes) (declarations_in F.scopes))

  abbrev u₄ : Used
  u₄ = plus u₃ (block_size F.body)

  abbrev head : List ℕ
  head = 8 ∷ length cs ∷ e₁ ∷ length is ∷ e₂ ∷ length ss ∷ e₃ ∷ length bs ∷ []

  total : e₄ ≡ length (encode F)
  unfolding encode
  total = omega (arith, length-append cs (is ++ (ss ++ bs)), length-append is (ss ++ bs), length-append ss bs)

  room : Within u₄ limits
  room = subst (λ (u : Used). Within u limits) (sym (sum_is_sizes F)) g.slots

  parsed : Parsed (encode F) F
  unfolding encode
  parsed =
      let ws : List ℕ = encode F in
      let l₂ = length-append head cs in
      let l₃ = length-append (head ++ cs) is in
      let l₄ = length-append ((head ++ cs) ++ is) ss in
      let w₂ : ws ≡ (head ++ cs) ++ (is ++ (ss ++ bs)) = sym (append_assoc head cs (is ++ (ss ++ bs))) in
      let w₃ : ws ≡ ((head ++ cs) ++ is) ++ (ss ++ bs) = w₂ ∙ sym (append_assoc (head ++ cs) is (ss ++ bs)) in
      let w₄ : ws ≡ (((head ++ cs) ++ is) ++ ss) ++ (bs ++ []) = w₃ ∙ sym (append_assoc ((head ++ cs) ++ is) ss bs) ∙ ap (λ l. (((head ++ cs) ++ is) ++ ss) ++ l) (sym (append-nil bs)) in
      let r₃ = room_less u₃ (block_size F.body) room in
      let r₂ = room_less u₂ (some_scopes (length F.scopes) (declarations_in F.scopes)) r₃ in
      let r₁ = room_less u₁ (some_identifiers (length F.identifiers)) r₂ in
      record {
        e₁ = e₁;
        e₂ = e₂;
        e₃ = e₃;
        e₄ = e₄;
        u₁ = u₁;
        u₂ = u₂;
        u₃ = u₃;
        u₄ = u₄;
        p₁ = pair_is ws 0 8 e₁ refl refl (omega (arith, total));
        p₂ = pair_is ws 2 e₁ e₂ refl refl (omega (arith, total));
        p₃ = pair_is ws 4 e₂ e₃ refl refl (omega (arith, total));
        p₄ = last_is ws 6 e₃ e₄ refl refl total;
        s₁ = section_is counters F.counters none ws 8 e₁ none cs (part_is ws head cs (is ++ (ss ++ bs)) 8 e₁ refl refl refl) r₁ (λ c f. nothing (counters_sees F.counters g.blocks g.types g.ranges c [] (plain f)));
        s₂ = section_is (every identifier) F.identifiers (some_identifiers (length F.identifiers)) ws e₁ e₂ u₁ is (part_is ws (head ++ cs) is (ss ++ bs) e₁ e₂ w₂ l₂ refl) r₂ (identifiers_find F.identifiers);
        s₃ = section_is (every scope_info) F.scopes (some_scopes (length F.scopes) (declarations_in F.scopes)) ws e₂ e₃ u₂ ss (part_is ws ((head ++ cs) ++ is) ss bs e₂ e₃ w₃ (omega arith) refl) r₃ (scopes_find F.scopes);
        s₄ = section_is (block 64) F.body (block_size F.body) ws e₃ e₄ u₃ bs (part_is ws (((head ++ cs) ++ is) ++ ss) bs [] e₃ e₄ w₄ (omega arith) refl) room (λ c f. block_finds 64 F.body g.depth g.body c [] f);
      }

pub words_are_read : WordsAreRead
words_are_read F g = parsed_parse (encode F) F (parsed F g)

-- ---- and its bytes
pub bytes_are_read : BytesAreRead
unfolding parse_file
bytes_are_read F g h =
    let bs : List ℕ = bytes (encode F) in
    let l = bytes_length (encode F) in
    let t = total F g in
    let most = h.long in
    let a : length bs % 4 ≡ 0 = omega arith in
    let b : 48 ≤ length bs = omega arith in
    let c : length bs ≤ 65536 = omega arith in
    ap (λ x. cond x (cond (leb 48 (length bs)) (cond (leb (length bs) 65536) (parse (words bs)) (Err Length)) (Err Length)) (Err Length)) (eq-eqb _ _ a)
    ∙ ap (λ x. cond x (cond (leb (length bs) 65536) (parse (words bs)) (Err Length)) (Err Length)) (le-leb _ _ b)
    ∙ ap (λ x. cond x (parse (words bs)) (Err Length)) (le-leb _ _ c)
    ∙ ap parse (words_bytes (encode F) h.wide)
    ∙ words_are_read F g
