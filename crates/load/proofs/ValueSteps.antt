-- How the parts of a value go together. Assumes nothing.
use Rattle.std.proofs.Common.{◌≡◌, ℕ, ◌+◌, ◌<◌, ◌≤◌, List, [], ◌∷◌, ◌++◌, Some, Ok, Err, vec_items, vec_len, Option, sym, refl, ap, ◌∙◌, append_assoc, append-nil, add-one, arith, length-append}
use Rattle.hir.specs.declared.place.Place.{Place}
use Rattle.hir.specs.declared.range.Range.{Range}
use Rattle.hir.specs.declared.used.Used.{Used}
use Rattle.hir.specs.declared.value_arena.ValueArena.{ValueArena}
use Rattle.hir.specs.Decode.{ValueSlots, op_of}
use Rattle.hir.specs.Held.{value_slots}
use Rattle.hir.specs.Limits.{Within}
use Rattle.hir.specs.Options.{part}
use Rattle.hir.proofs.Grow.{grows_same, values_same, values_more, part_at, part_grows}
use Rattle.format.specs.declared.fault.FileFault.{FileFault}
use Rattle.format.specs.Parse.{Cursor, Read, onto, word, below, times, listed, place, payload, op}
use Rattle.load.specs.Values.{ValueRoom, ValueStep, ValueIn, PlacesIn, places_in}
use Rattle.load.proofs.Iterate.{Repeats, many_snoc, many_stop}
use Rattle.load.proofs.Later.{within_same, within_more, word_later, below_later, payload_later, place_later, place_counted}

-- ---- steps
pub step_later : {u v : Used} (a : ValueArena) → Within u v → ValueStep a a u v
step_later {u} {v} a w =
    record {
      grow = values_same (value_slots a);
      later = w;
      values = omega (arith, w.values);
      places = omega (arith, w.places);
      instructions = omega (arith, w.statements);
    }

pub step_more : {a b c : ValueArena} {u v w : Used} → ValueStep a b u v → ValueStep b c v w → ValueStep a c u w
step_more s t =
    record {
      grow = values_more s.grow t.grow;
      later = within_more s.later t.later;
      values = omega (arith, s.values, t.values);
      places = omega (arith, s.places, t.places);
      instructions = omega (arith, s.instructions, t.instructions);
    }

pub room_later : {a : ValueArena} {u v : Used} → ValueRoom a u → Within u v → ValueRoom a v
room_later r w = record { values = omega (arith, r.values, w.values); places = omega (arith, r.places, w.places); instructions = omega (arith, r.instructions, w.statements) }

pub room_word : (c : Cursor) {a : ValueArena} {w : ℕ} {d : Cursor} → ValueRoom a c.used → word c ≡ Ok (w, d) → ValueRoom a d.used
room_word c {w = w} {d = d} r e = room_later r (word_later c (w, d) e)

pub room_after : {a b : ValueArena} {u v : Used} → ValueRoom a u → ValueStep a b u v → ValueRoom b v
room_after r s =
    record { values = omega (arith, r.values, s.values); places = omega (arith, r.places, s.places); instructions = omega (arith, r.instructions, s.instructions) }

-- what was read stands behind what a leaf read before it
pub after_leaf : {X R : Type 0} {parser further : Cursor → Read X} {decode : ValueSlots → R → Option X} {a b : ValueArena} {c c₁ d : Cursor} {r : R} → Within c.used c₁.used → ((x : Read X) → further c₁ ≡ x → parser c ≡ x) → ValueIn further decode a b c₁ d r → ValueIn parser decode a b c d r
after_leaf {a = a} w same m =
    record { tree = m.tree; parsed = same _ m.parsed; stands = m.stands; step = step_more (step_later a w) m.step; waiting = m.waiting }

-- ---- places
abbrev pub PlaceAdded : ValueArena → ValueArena → Place → Type 0
PlaceAdded a b p =
    record {
      items : vec_items b.places.vec ≡ vec_items a.places.vec ++ p ∷ [];
      len : vec_len b.places.vec ≡ vec_len a.places.vec + 1;
      values : b.values.vec ≡ a.values.vec;
      instructions : b.instructions.table.vec ≡ a.instructions.table.vec;
      waiting : b.instructions.waiting.vec ≡ a.instructions.waiting.vec;
    }

place_step : {a b : ValueArena} (c : Cursor) {d : Cursor} {p : Place} → place c ≡ Ok (p, d) → PlaceAdded a b p → ValueStep a b c.used d.used
place_step {a} {b} c {d} {p} e h =
    let w = place_later c (p, d) e in
    let n = place_counted c (p, d) e in
    record {
      grow = record { values = grows_same (ap vec_items h.values); instructions = grows_same (ap vec_items h.instructions); places = record { more = p ∷ []; is = h.items } };
      later = w;
      values = omega (arith, ap vec_len h.values, w.values);
      places = omega (arith, h.len, n.places);
      instructions = omega (arith, ap vec_len h.instructions, ap vec_len h.waiting, w.statements);
    }

abbrev after : List Place → Place → List Place
after l p = l ++ p ∷ []

places_repeat : Repeats (times place) place ◌∷◌ after []
places_repeat = record { none = λ c. refl; next = λ n c. refl; last = λ x. refl; before = λ y x t. refl }

pub places_none : {a : ValueArena} {c : Cursor} → PlacesIn 0 a a c c
places_none {a} {c} =
    record { row = []; parsed = refl; long = refl; added = sym (append-nil _); step = step_later a (within_same c.used); waiting = refl }

pub places_after : {n : ℕ} {a b e : ValueArena} {c d f : Cursor} {p : Place} → PlacesIn n a b c d → place d ≡ Ok (p, f) → PlaceAdded b e p → PlacesIn (n + 1) a e c f
places_after {n} {a} {b} {e} {c} {d} {f} {p} m r h =
    record {
      row = after m.row p;
      parsed = ap (λ k. times place k c) (add-one n) ∙ many_snoc (times place) place ◌∷◌ after [] places_repeat n c (m.row, d) (p, f) m.parsed r;
      long = omega (arith, m.long, length-append m.row (p ∷ []));
      added = h.items ∙ ap (λ l. l ++ p ∷ []) m.added ∙ append_assoc (vec_items a.places.vec) m.row (p ∷ []);
      step = step_more m.step (place_step d r h);
      waiting = ap vec_items h.waiting ∙ m.waiting;
    }

pub places_stop : {n k : ℕ} {a b : ValueArena} {c d : Cursor} {x : FileFault} → n < k → PlacesIn n a b c d → place d ≡ Err x → times place k c ≡ Err x
places_stop {n} {k} {c = c} {d = d} {x = x} h m e = many_stop (times place) place ◌∷◌ after [] places_repeat n k c (m.row, d) x h m.parsed e

pub place_room : {n m : ℕ} {a b : ValueArena} {c d f : Cursor} {p : Place} → ValueRoom a c.used → PlacesIn n a b c d → place d ≡ Ok (p, f) → f.used.places ≤ m → vec_len b.places.vec < m
place_room {d = d} {f = f} {p = p} r m e h = omega (arith, r.places, m.step.places, (place_counted d (p, f) e).places)

pub places_in_row : {n k start : ℕ} {a b : ValueArena} {c c₁ d : Cursor} → word c ≡ Ok (n, c₁) → start ≡ vec_len a.places.vec → n ≡ k → PlacesIn k a b c₁ d → ValueIn (listed place) places_in a b c d (record { start = start; count = n })
places_in_row {n} {k} {start} {a} {b} {c} {c₁} {d} w s e m =
    record {
      tree = m.row;
      parsed = ap (λ r. onto r (times place)) w ∙ ap (λ n. times place n c₁) e ∙ m.parsed;
      stands = part_at (vec_items a.places.vec) m.row (vec_items b.places.vec) _ m.added (s ∙ a.places.vec.ok.0) (e ∙ sym m.long);
      step = step_more (step_later a (word_later c (n, c₁) w)) m.step;
      waiting = m.waiting;
    }

-- an operation
pub op_in : {k m s : ℕ} {a b e : ValueArena} {c c₁ c₂ c₃ c₄ c₅ : Cursor} {w o : Range} → below 42 c ≡ Ok (k, c₁) → payload k c₁ ≡ Ok (m, c₂) → ValueIn (listed place) places_in a b c₂ c₃ w → ValueIn (listed place) places_in b e c₃ c₄ o → word c₄ ≡ Ok (s, c₅) → ValueIn op op_of a e c c₅ (record { kind = k; payload = m; written = w; operands = o; span = s })
unfolding op
op_in {k} {m} {s} {a} {b} {e} {c} {c₁} {c₂} {c₃} {c₄} {c₅} {w} {o} p q x y z =
    let first : part (vec_items e.places.vec) w ≡ Some x.tree = part_grows y.step.grow.places w x.tree x.stands in
    record {
      tree = record { kind = k; payload = m; written = x.tree; operands = y.tree; span = s };
      parsed = rw (p, q, x.parsed, y.parsed, z) refl;
      stands = rw (first, y.stands) refl;
      step = step_more (step_later a (within_more (below_later 42 c (k, c₁) p) (payload_later k c₁ (m, c₂) q))) (step_more x.step (step_more y.step (step_later e (word_later c₄ (s, c₅) z))));
      waiting = y.waiting ∙ x.waiting;
    }
