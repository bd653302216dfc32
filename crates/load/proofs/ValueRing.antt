-- What each way through the reading of a value leaves. Assumes nothing.
use Rattle.std.proofs.Common.{◌≡◌, ℕ, suc, ◌+◌, ◌-◌, ◌<◌, ◌≤◌, Bool, List, [], ◌∷◌, ◌++◌, length, take, drop, Some, Ok, Err, vec_items, vec_len, Option, Result, sym, refl, ap, ◌∙◌, append_assoc, append-nil, add-one, arith, length-append}
use Rattle.std.proofs.lemmas.List.{drop_at, take_at}
use Rattle.std.proofs.lemmas.Result.{MatchResult-weaker}
use Rattle.hir.specs.declared.place.Place.{Place}
use Rattle.hir.specs.declared.range.Range.{Range}
use Rattle.hir.specs.declared.value.InstructionValue.{InstructionValue}
use Rattle.hir.specs.declared.value.LogicalOperator.{LogicalOperator}
use Rattle.hir.specs.declared.value.ReactiveInstruction.{ReactiveInstruction}
use Rattle.hir.specs.declared.value.ReactiveValue.{ReactiveValue}
use Rattle.hir.specs.declared.value.ReactiveValue.TheVariants.{Instruction, LogicalExpression, ConditionalExpression, SequenceExpression, OptionalExpression}
use Rattle.hir.specs.declared.value_arena.ValueArena.{ValueArena}
use Rattle.hir.specs.Decode.{op_of, instr_of, instrs_of, value_of}
use Rattle.hir.specs.Grows.{ValuesGrow}
use Rattle.hir.specs.Held.{value_slots}
use Rattle.hir.specs.Options.{bind, nth, part}
use Rattle.hir.specs.Tree.{Val, operation, logical, conditional, sequence, optional, Instr, instr, Instrs, inil, icons}
use Rattle.hir.proofs.Grow.{bound, grows_same, values_more, value_added, value_grows, instrs_under, instr_under, part_at, part_grows}
use Rattle.format.specs.declared.fault.FileFault.{FileFault}
use Rattle.format.specs.Parse.{Cursor, Read, onto, give, word, order, flag, case, option, operators, place, op, begin_statement, begin_value, value, val_read, logical_read, conditional_read, sequence_read, optional_read, instr_read, instrs_read}
use Rattle.load.specs.declared.reader.Reader.{Reader}
use Rattle.load.specs.Reads.{cursor}
use Rattle.load.specs.Values.{ValueRoom, ValueIn, ReadsValue, InstrsIn, val_in, instr_in, instrs_in}
use Rattle.load.proofs.Chosen.{case_from}
use Rattle.load.proofs.Iterate.{Repeats, Rows, many_snoc, many_stop, row_snoc, onto_onto}
use Rattle.load.proofs.Later.{within_same, within_more, word_later, order_later, flag_later, option_later, operators_later, place_later, statement_begun, value_begun}
use Rattle.load.proofs.ValueSteps.{step_later, step_more, after_leaf}

-- ---- the case of a value
abbrev pub kinds : ℕ → List (Cursor → Read Val)
kinds d =
    (λ c. onto (op c) (λ o. give (operation o))) ∷ logical_read (value d) ∷ conditional_read (value d) ∷ sequence_read (value d) ∷ optional_read (value d) ∷ []

pub case_operation : (d : ℕ) {w : ℕ} {a b : ValueArena} {c c₁ e : Cursor} {o : InstructionValue} → word c ≡ Ok (w, c₁) → w ≡ 0 → ValueIn op op_of a b c₁ e o → ValueIn (val_read (value d)) (val_in d) a b c e (Instruction o)
case_operation d {w} {a} {b} {c} {c₁} {e} {o} h z m =
    record {
      tree = operation m.tree;
      parsed = case_from (kinds d) 0 _ c refl h z _ (ap (λ r. onto r (λ o. give (operation o))) m.parsed);
      stands = ap (λ x. bind x (λ o. Some (operation o))) m.stands;
      step = step_more (step_later a (word_later c (w, c₁) h)) m.step;
      waiting = m.waiting;
    }

-- the case's own reading is that of the value
pub case_of : (d : ℕ) {w : ℕ} (a b : ValueArena) (r : Result ReactiveValue FileFault) (k : ℕ) (p : Cursor → Read Val) (s t u : Reader) → nth (kinds d) k ≡ Some p → word (cursor s) ≡ Ok (w, cursor t) → w ≡ k → ReadsValue p (val_in d) a b t u r → ReadsValue (val_read (value d)) (val_in d) a b s u r
case_of d {w} a b r k p s t u n h z m =
    MatchResult-weaker r m (λ _ x. after_leaf (word_later (cursor s) (w, cursor t) h) (case_from (kinds d) k p (cursor s) n h z) x) (λ e x. case_from (kinds d) k p (cursor s) n h z _ x)

-- ---- values with values inside
pub logical_in : (d : ℕ) {l r : ℕ} {o : LogicalOperator} {a b e : ValueArena} {c c₁ c₂ c₃ : Cursor} → case operators c ≡ Ok (o, c₁) → ValueIn (value d) (value_of d) a b c₁ c₂ l → ValueIn (value d) (value_of d) b e c₂ c₃ r → ValueIn (logical_read (value d)) (val_in d) a e c c₃ (LogicalExpression o l r)
logical_in d {l} {r} {o} {a} {b} {e} {c} {c₁} h x y =
    let first = value_grows d _ _ y.step.grow l x.tree x.stands in
    record {
      tree = logical o x.tree y.tree;
      parsed = rw (h, x.parsed, y.parsed) refl;
      stands = ap (λ q. bind q (λ m. bind (value_of d (value_slots e) r) (λ n. Some (logical o m n)))) first ∙ ap (λ q. bind q (λ n. Some (logical o x.tree n))) y.stands;
      step = step_more (step_later a (operators_later c (o, c₁) h)) (step_more x.step y.step);
      waiting = y.waiting ∙ x.waiting;
    }

pub conditional_in : (d : ℕ) {t l r : ℕ} {a b e f : ValueArena} {c c₁ c₂ c₃ : Cursor} → ValueIn (value d) (value_of d) a b c c₁ t → ValueIn (value d) (value_of d) b e c₁ c₂ l → ValueIn (value d) (value_of d) e f c₂ c₃ r → ValueIn (conditional_read (value d)) (val_in d) a f c c₃ (ConditionalExpression t l r)
conditional_in d {t} {l} {r} {a} {b} {e} {f} x y z =
    let first = value_grows d _ _ (values_more y.step.grow z.step.grow) t x.tree x.stands in
    let second = value_grows d _ _ z.step.grow l y.tree y.stands in
    record {
      tree = conditional x.tree y.tree z.tree;
      parsed = rw (x.parsed, y.parsed, z.parsed) refl;
      stands = ap (λ q. bind q (λ m. bind (value_of d (value_slots f) l) (λ n. bind (value_of d (value_slots f) r) (λ o. Some (conditional m n o))))) first
          ∙ ap (λ q. bind q (λ n. bind (value_of d (value_slots f) r) (λ o. Some (conditional x.tree n o)))) second
          ∙ ap (λ q. bind q (λ o. Some (conditional x.tree y.tree o))) z.stands;
      step = step_more x.step (step_more y.step z.step);
      waiting = z.waiting ∙ y.waiting ∙ x.waiting;
    }

pub optional_in : (d : ℕ) {v : ℕ} {o : Bool} {a b : ValueArena} {c c₁ c₂ : Cursor} → ValueIn (value d) (value_of d) a b c c₁ v → flag c₁ ≡ Ok (o, c₂) → ValueIn (optional_read (value d)) (val_in d) a b c c₂ (OptionalExpression v o)
optional_in d {v} {o} {a} {b} {c} {c₁} {c₂} x h =
    record {
      tree = optional x.tree o;
      parsed = rw (x.parsed, h) refl;
      stands = ap (λ q. bind q (λ m. Some (optional m o))) x.stands;
      step = step_more x.step (step_later b (flag_later c₁ (o, c₂) h));
      waiting = x.waiting;
    }

pub instr_in_row : (d : ℕ) {i v s : ℕ} {l : Option Place} {a b : ValueArena} {c c₁ c₂ c₃ c₄ : Cursor} → order c ≡ Ok (i, c₁) → option place c₁ ≡ Ok (l, c₂) → ValueIn (value d) (value_of d) a b c₂ c₃ v → word c₃ ≡ Ok (s, c₄) → ValueIn (instr_read (value d)) (instr_in d) a b c c₄ (record { id = i; lvalue = l; value = v; span = s })
instr_in_row d {i} {v} {s} {l} {a} {b} {c} {c₁} {c₂} {c₃} {c₄} h k x j =
    record {
      tree = instr i l x.tree s;
      parsed = rw (h, k, x.parsed, j) refl;
      stands = ap (λ q. bind q (λ m. Some (instr i l m s))) x.stands;
      step = step_more (step_later a (within_more (order_later c (i, c₁) h) (option_later place place_later c₁ (l, c₂) k))) (step_more x.step (step_later b (word_later c₃ (s, c₄) j)));
      waiting = x.waiting;
    }

-- ---- a value in its slot
abbrev pub Added : ValueArena → ValueArena → ReactiveValue → ℕ → Type 0
Added a b v k =
    record {
      slot : k ≡ vec_len a.values.vec;
      items : vec_items b.values.vec ≡ vec_items a.values.vec ++ v ∷ [];
      len : vec_len b.values.vec ≡ vec_len a.values.vec + 1;
      instructions : b.instructions.table.vec ≡ a.instructions.table.vec;
      places : b.places.vec ≡ a.places.vec;
      waiting : b.instructions.waiting.vec ≡ a.instructions.waiting.vec;
    }

pub value_from : {d j : ℕ} (c : Cursor) {c₁ : Cursor} → d ≡ suc j → begin_value c ≡ Ok (tt, c₁) → (x : Read Val) → val_read (value j) c₁ ≡ x → value d c ≡ x
value_from {d} {j} c s h x e =
    ap (λ k. value k c) s ∙ ap (λ r. onto r (λ _. val_read (value j))) h ∙ e

pub value_short : {d j : ℕ} (c : Cursor) {e : FileFault} → d ≡ suc j → begin_value c ≡ Err e → value d c ≡ Err e
value_short {d} {j} c s h =
    ap (λ k. value k c) s ∙ ap (λ r. onto r (λ _. val_read (value j))) h

pub value_in : {d j k : ℕ} {a b e : ValueArena} {c c₁ f : Cursor} {v : ReactiveValue} → d ≡ suc j → begin_value c ≡ Ok (tt, c₁) → ValueIn (val_read (value j)) (val_in j) a b c₁ f v → Added b e v k → ValueIn (value d) (value_of d) a e c f k
value_in {d} {j} {k} {a} {b} {e} {c} {c₁} {f} {v} s h m p =
    let grow : ValuesGrow (value_slots b) (value_slots e) = record { values = record { more = v ∷ []; is = p.items }; instructions = grows_same (ap vec_items p.instructions); places = grows_same (ap vec_items p.places) } in
    let w = value_begun c (tt, c₁) h in
    record {
      tree = m.tree;
      parsed = value_from c s h _ m.parsed;
      stands = ap (λ i. value_of i (value_slots e) k) s ∙ value_added j (value_slots b) (value_slots e) grow v m.tree k p.items (p.slot ∙ b.values.vec.ok.0) m.stands;
      step =
          record {
            grow = values_more m.step.grow grow;
            later = within_more (record { statements = w.statements; values = omega (arith, w.values); places = w.places; identifiers = w.identifiers; scopes = w.scopes; declarations = w.declarations; cases = w.cases }) m.step.later;
            values = omega (arith, m.step.values, p.len, w.values);
            places = omega (arith, m.step.places, ap vec_len p.places, w.places);
            instructions = omega (arith, m.step.instructions, ap vec_len p.instructions, ap vec_len p.waiting, w.statements);
          };
      waiting = ap vec_items p.waiting ∙ m.waiting;
    }

-- ---- the instructions of a sequence
abbrev isnoc : Instrs → Instr → Instrs
isnoc inil x = icons x inil
isnoc (icons y t) x = icons y (isnoc t x)

abbrev one_instr : ℕ → Cursor → Read Instr
one_instr d c = onto (begin_statement c) (λ _. instr_read (value d))

instrs_repeat : (d : ℕ) → Repeats (instrs_read (value d)) (one_instr d) icons isnoc inil
instrs_repeat d =
    record { none = λ c. refl; next = λ n c. sym (onto_onto (begin_statement c) (λ _. instr_read (value d)) _); last = λ x. refl; before = λ y x t. refl }

instrs_rows : (f : ℕ → Option Val) → Rows (instrs_of f) (instr_of f) icons isnoc inil
instrs_rows f = record { none = refl; next = λ i is. refl; last = λ x. refl; before = λ y x t. refl }

abbrev pub Waited : ValueArena → ValueArena → ReactiveInstruction → Type 0
Waited a b i =
    record {
      items : vec_items b.instructions.waiting.vec ≡ vec_items a.instructions.waiting.vec ++ i ∷ [];
      len : vec_len b.instructions.waiting.vec ≡ vec_len a.instructions.waiting.vec + 1;
      values : b.values.vec ≡ a.values.vec;
      instructions : b.instructions.table.vec ≡ a.instructions.table.vec;
      places : b.places.vec ≡ a.places.vec;
    }

pub instrs_none : {d : ℕ} {a : ValueArena} {c : Cursor} → InstrsIn d 0 a a c c
instrs_none {d} {a} {c} = record { tree = inil; row = []; parsed = refl; stands = refl; step = step_later a (within_same c.used); waiting = sym (append-nil _) }

pub instrs_after : {d n : ℕ} {a b e f : ValueArena} {c c₁ c₂ c₃ : Cursor} {i : ReactiveInstruction} → InstrsIn d n a b c c₁ → begin_statement c₁ ≡ Ok (tt, c₂) → ValueIn (instr_read (value d)) (instr_in d) b e c₂ c₃ i → Waited e f i → InstrsIn d (n + 1) a f c c₃
instrs_after {d} {n} {a} {b} {e} {f} {c} {c₁} {c₂} {c₃} {i} m h x p =
    let same : ValuesGrow (value_slots e) (value_slots f) = record { values = grows_same (ap vec_items p.values); instructions = grows_same (ap vec_items p.instructions); places = grows_same (ap vec_items p.places) } in
    let w = statement_begun c₁ (tt, c₂) h in
    let here = instr_under _ _ (value_grows d _ _ same) i x.tree x.stands in
    let before = instrs_under _ _ (value_grows d _ _ (values_more x.step.grow same)) m.row m.tree m.stands in
    let one : one_instr d c₁ ≡ Ok (x.tree, c₃) = ap (λ r. onto r (λ _. instr_read (value d))) h ∙ x.parsed in
    record {
      tree = isnoc m.tree x.tree;
      row = m.row ++ i ∷ [];
      parsed = ap (λ k. instrs_read (value d) k c) (add-one n) ∙ many_snoc (instrs_read (value d)) (one_instr d) icons isnoc inil (instrs_repeat d) n c (m.tree, c₁) (x.tree, c₃) m.parsed one;
      stands = row_snoc (instrs_of (value_of d (value_slots f))) (instr_of (value_of d (value_slots f))) icons isnoc inil (instrs_rows _) m.row i m.tree x.tree before here;
      step =
          record {
            grow = values_more m.step.grow (values_more x.step.grow same);
            later = within_more m.step.later (within_more (record { statements = omega (arith, w.statements); values = w.values; places = w.places; identifiers = w.identifiers; scopes = w.scopes; declarations = w.declarations; cases = w.cases }) x.step.later);
            values = omega (arith, m.step.values, x.step.values, w.values, ap vec_len p.values);
            places = omega (arith, m.step.places, x.step.places, w.places, ap vec_len p.places);
            instructions = omega (arith, m.step.instructions, x.step.instructions, w.statements, ap vec_len p.instructions, p.len);
          };
      waiting = p.items ∙ ap (λ l. l ++ i ∷ []) (x.waiting ∙ m.waiting) ∙ append_assoc (vec_items a.instructions.waiting.vec) m.row (i ∷ []);
    }

pub instrs_stop : {d n k : ℕ} {a b : ValueArena} {c c₁ : Cursor} {x : FileFault} → n < k → InstrsIn d n a b c c₁ → one_instr d c₁ ≡ Err x → instrs_read (value d) k c ≡ Err x
instrs_stop {d} {n} {k} {c = c} {c₁ = c₁} {x = x} h m e = many_stop (instrs_read (value d)) (one_instr d) icons isnoc inil (instrs_repeat d) n k c (m.tree, c₁) x h m.parsed e

pub one_short : (d : ℕ) (c : Cursor) {x : FileFault} → begin_statement c ≡ Err x → one_instr d c ≡ Err x
one_short d c h = ap (λ r. onto r (λ _. instr_read (value d))) h

pub one_from : (d : ℕ) (c : Cursor) {c₁ : Cursor} {x : Read Instr} → begin_statement c ≡ Ok (tt, c₁) → instr_read (value d) c₁ ≡ x → one_instr d c ≡ x
one_from d c h e = ap (λ r. onto r (λ _. instr_read (value d))) h ∙ e

-- ---- a sequence
abbrev pub Settled : ValueArena → ValueArena → ℕ → Range → Type 0
Settled a b base r =
    record {
      start : r.start ≡ vec_len a.instructions.table.vec;
      count : r.count ≡ vec_len a.instructions.waiting.vec - base;
      items : vec_items b.instructions.table.vec ≡ vec_items a.instructions.table.vec ++ drop base (vec_items a.instructions.waiting.vec);
      len : vec_len b.instructions.table.vec ≡ vec_len a.instructions.table.vec + (vec_len a.instructions.waiting.vec - base);
      waiting : vec_items b.instructions.waiting.vec ≡ take base (vec_items a.instructions.waiting.vec);
      base : vec_len b.instructions.waiting.vec ≡ base;
    }

pub waited : {d n : ℕ} {a b : ValueArena} {c c₁ : Cursor} (m : InstrsIn d n a b c c₁) → vec_len b.instructions.waiting.vec ≡ vec_len a.instructions.waiting.vec + length m.row
waited {a = a} {b = b} m = omega (arith, a.instructions.waiting.vec.ok.0, b.instructions.waiting.vec.ok.0, ap length m.waiting ∙ length-append (vec_items a.instructions.waiting.vec) m.row)

abbrev pub instrs_listed : ℕ → Cursor → Read Instrs
instrs_listed d c = onto (word c) (instrs_read (value d))

pub row_settled : {d n base : ℕ} {a b e : ValueArena} {c c₁ c₂ : Cursor} {r : Range} → word c ≡ Ok (n, c₁) → base ≡ vec_len a.instructions.waiting.vec → InstrsIn d n a b c₁ c₂ → Settled b e base r → e.values.vec ≡ b.values.vec → e.places.vec ≡ b.places.vec → ValueIn (instrs_listed d) (instrs_in d) a e c c₂ r
row_settled {d} {n} {base} {a} {b} {e} {c} {c₁} {c₂} {r} h q m p v o =
    let long = waited m in
    let at : length (vec_items a.instructions.waiting.vec) ≡ base = sym (q ∙ a.instructions.waiting.vec.ok.0) in
    let new : drop base (vec_items b.instructions.waiting.vec) ≡ m.row = ap (drop base) m.waiting ∙ drop_at (vec_items a.instructions.waiting.vec) m.row base at in
    let old : take base (vec_items b.instructions.waiting.vec) ≡ vec_items a.instructions.waiting.vec = ap (take base) m.waiting ∙ take_at (vec_items a.instructions.waiting.vec) m.row base at in
    let items : vec_items e.instructions.table.vec ≡ vec_items b.instructions.table.vec ++ m.row = p.items ∙ ap (λ l. vec_items b.instructions.table.vec ++ l) new in
    let grow : ValuesGrow (value_slots b) (value_slots e) = record { values = grows_same (ap vec_items v); instructions = record { more = m.row; is = items }; places = grows_same (ap vec_items o) } in
    let row : part (vec_items e.instructions.table.vec) r ≡ Some m.row = part_at (vec_items b.instructions.table.vec) m.row (vec_items e.instructions.table.vec) r items (p.start ∙ b.instructions.table.vec.ok.0) (omega (arith, p.count, long, q)) in
    let w = word_later c (n, c₁) h in
    record {
      tree = m.tree;
      parsed = ap (λ x. onto x (instrs_read (value d))) h ∙ m.parsed;
      stands = ap (λ x. bind x (instrs_of (value_of d (value_slots e)))) row ∙ instrs_under _ _ (value_grows d _ _ grow) m.row m.tree m.stands;
      step =
          record {
            grow = values_more m.step.grow grow;
            later = within_more w m.step.later;
            values = omega (arith, m.step.values, ap vec_len v, w.values);
            places = omega (arith, m.step.places, ap vec_len o, w.places);
            instructions = omega (arith, m.step.instructions, p.len, p.base, long, q, w.statements);
          };
      waiting = p.waiting ∙ old;
    }

pub settle_within : {d n base : ℕ} {a b : ValueArena} {c c₁ : Cursor} → base ≡ vec_len a.instructions.waiting.vec → InstrsIn d n a b c c₁ → base ≤ vec_len b.instructions.waiting.vec
settle_within q m = omega (arith, q, waited m)

pub settle_room : (base : ℕ) {d n m : ℕ} {a b : ValueArena} {c c₁ : Cursor} → ValueRoom a c.used → InstrsIn d n a b c c₁ → c₁.used.statements ≤ m → vec_len b.instructions.table.vec + (vec_len b.instructions.waiting.vec - base) ≤ m
settle_room base r m h = omega (arith, r.instructions, m.step.instructions)

pub sequence_in : (d : ℕ) {i v : ℕ} {a b e : ValueArena} {c c₁ c₂ c₃ : Cursor} {r : Range} → ValueIn (instrs_listed d) (instrs_in d) a b c c₁ r → order c₁ ≡ Ok (i, c₂) → ValueIn (value d) (value_of d) b e c₂ c₃ v → ValueIn (sequence_read (value d)) (val_in d) a e c c₃ (SequenceExpression r i v)
sequence_in d {i} {v} {a} {b} {e} {c} {c₁} {c₂} {c₃} {r} x h y =
    let o = bound (part (vec_items b.instructions.table.vec) r) _ x.tree x.stands in
    let row = part_grows y.step.grow.instructions r o.0 o.1 in
    let all = instrs_under _ _ (value_grows d _ _ y.step.grow) o.0 x.tree o.2 in
    record {
      tree = sequence x.tree i y.tree;
      parsed = sym (onto_onto (word c) (instrs_read (value d)) _) ∙ rw (x.parsed, h, y.parsed) refl;
      stands = ap (λ q. bind q (λ l. bind (instrs_of (value_of d (value_slots e)) l) (λ xs. bind (value_of d (value_slots e) v) (λ z. Some (sequence xs i z))))) row
          ∙ ap (λ q. bind q (λ xs. bind (value_of d (value_slots e) v) (λ z. Some (sequence xs i z)))) all
          ∙ ap (λ q. bind q (λ z. Some (sequence x.tree i z))) y.stands;
      step = step_more x.step (step_more (step_later b (order_later c₁ (i, c₂) h)) y.step);
      waiting = y.waiting ∙ x.waiting;
    }
