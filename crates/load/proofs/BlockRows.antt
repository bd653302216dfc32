-- Statements and switch cases, one after another, and the rows that they become. Assumes nothing.
use Rattle.std.proofs.Common.{◌≡◌, ℕ, suc, ◌+◌, ◌-◌, ◌<◌, ◌≤◌, [], ◌∷◌, ◌++◌, length, take, drop, Some, None, Ok, Err, vec_items, vec_len, Option, sym, refl, ap, ◌∙◌, append_assoc, append-nil, add-one, arith, length-append}
use Rattle.std.proofs.lemmas.List.{drop_at, take_at}
use Rattle.hir.specs.declared.arena.Arena.{Arena}
use Rattle.hir.specs.declared.place.Place.{Place}
use Rattle.hir.specs.declared.range.Range.{Range}
use Rattle.hir.specs.declared.statement.ReactiveStatement.{ReactiveStatement}
use Rattle.hir.specs.declared.terminal.ReactiveSwitchCase.{ReactiveSwitchCase}
use Rattle.hir.specs.declared.used.Used.{Used}
use Rattle.hir.specs.declared.value_arena.ValueArena.{ValueArena}
use Rattle.hir.specs.Decode.{Slots, opt_block_of, cases_of, body_of, block_of, top_value}
use Rattle.hir.specs.Grows.{ValuesGrow, SlotsGrow}
use Rattle.hir.specs.Held.{slots, value_slots}
use Rattle.hir.specs.Limits.{Within}
use Rattle.hir.specs.Options.{bind, part}
use Rattle.hir.specs.Tree.{Stmt, Cases, knil, kcons, OptBlock, Block, nil, cons}
use Rattle.hir.proofs.Grow.{Under, bind_under, same_under, opt_block_under, grows_same, slots_more, slot_grows, slot_added, body_under, block_added, block_grows, cases_under, part_at}
use Rattle.format.specs.declared.fault.FileFault.{FileFault}
use Rattle.format.specs.Parse.{Cursor, Read, onto, give, word, option, place, begin_statement, begin_case, block, opt_block, stmt_read, stmts_read, cases_read}
use Rattle.load.specs.Blocks.{Room, BlockIn, StmtsIn, CasesIn, stmt_in, stmt_slot, case_in, case_read, cases_in}
use Rattle.load.specs.Values.{ValueStep}
use Rattle.load.proofs.BlockSteps.{step_later}
use Rattle.load.proofs.Iterate.{Repeats, Rows, many_snoc, many_stop, row_snoc, onto_onto}
use Rattle.load.proofs.Later.{within_same, word_later, statement_begun, case_begun}
use Rattle.load.proofs.ValueSteps as Values

onto_ext : {X Y : Type 0} (r : Read X) (f g : X → Cursor → Read Y) → ((x : X) (c : Cursor) → f x c ≡ g x c) → onto r f ≡ onto r g
onto_ext (Ok p) f g e = e p.0 p.1
onto_ext (Err x) f g e = refl

bind_bind : {X Y Z : Type 0} (o : Option X) (f : X → Option Y) (g : Y → Option Z) → bind o (λ x. bind (f x) g) ≡ bind (bind o f) g
bind_bind None f g = refl
bind_bind (Some x) f g = refl

-- ---- statements
abbrev snoc : Block → Stmt → Block
snoc nil x = cons x nil
snoc (cons y t) x = cons y (snoc t x)

abbrev one_stmt : ℕ → Cursor → Read Stmt
one_stmt d c = onto (begin_statement c) (λ _. stmt_read (block d))

stmts_repeat : (d : ℕ) → Repeats (stmts_read (block d)) (one_stmt d) cons snoc nil
stmts_repeat d =
    record { none = λ c. refl; next = λ n c. sym (onto_onto (begin_statement c) (λ _. stmt_read (block d)) _); last = λ x. refl; before = λ y x t. refl }

stmts_rows : (f : ℕ → Option Stmt) → Rows (body_of f) f cons snoc nil
stmts_rows f = record { none = refl; next = λ i is. refl; last = λ x. refl; before = λ y x t. refl }

abbrev pub Added : Arena → Arena → ReactiveStatement → ℕ → Type 0
Added a b n k =
    record {
      slot : k ≡ vec_len a.statements.vec;
      items : vec_items b.statements.vec ≡ vec_items a.statements.vec ++ n ∷ [];
      len : vec_len b.statements.vec ≡ vec_len a.statements.vec + 1;
      inner : b.inner ≡ a.inner;
      entries : b.entries.table.vec ≡ a.entries.table.vec;
      cases : b.cases.table.vec ≡ a.cases.table.vec;
      waiting : b.entries.waiting.vec ≡ a.entries.waiting.vec;
      casing : b.cases.waiting.vec ≡ a.cases.waiting.vec;
    }

abbrev pub Waited : Arena → Arena → ℕ → Type 0
Waited a b k =
    record {
      items : vec_items b.entries.waiting.vec ≡ vec_items a.entries.waiting.vec ++ k ∷ [];
      len : vec_len b.entries.waiting.vec ≡ vec_len a.entries.waiting.vec + 1;
      inner : b.inner ≡ a.inner;
      statements : b.statements.vec ≡ a.statements.vec;
      entries : b.entries.table.vec ≡ a.entries.table.vec;
      cases : b.cases.table.vec ≡ a.cases.table.vec;
      casing : b.cases.waiting.vec ≡ a.cases.waiting.vec;
    }

-- tables of values that are the same
inner_grow : {x y : ValueArena} → y ≡ x → ValuesGrow (value_slots x) (value_slots y)
inner_grow e =
    record { values = grows_same (ap (λ i. vec_items i.values.vec) e); instructions = grows_same (ap (λ i. vec_items i.instructions.table.vec) e); places = grows_same (ap (λ i. vec_items i.places.vec) e) }

inner_same : {x y : ValueArena} {u v : Used} → y ≡ x → Within u v → ValueStep x y u v
inner_same e w =
    record {
      grow = inner_grow e;
      later = w;
      values = omega (arith, w.values, ap (λ i. vec_len i.values.vec) e);
      places = omega (arith, w.places, ap (λ i. vec_len i.places.vec) e);
      instructions = omega (arith, w.statements, ap (λ i. vec_len i.instructions.table.vec) e, ap (λ i. vec_len i.instructions.waiting.vec) e);
    }

added_grow : (a b : Arena) (n : ReactiveStatement) (k : ℕ) → Added a b n k → SlotsGrow (slots a) (slots b)
added_grow a b n k p =
    record {
      inner = inner_grow p.inner;
      statements = record { more = n ∷ []; is = p.items };
      entries = grows_same (ap vec_items p.entries);
      cases = grows_same (ap vec_items p.cases);
    }

waited_grow : (a b : Arena) (k : ℕ) → Waited a b k → SlotsGrow (slots a) (slots b)
waited_grow a b k p =
    record {
      inner = inner_grow p.inner;
      statements = grows_same (ap vec_items p.statements);
      entries = grows_same (ap vec_items p.entries);
      cases = grows_same (ap vec_items p.cases);
    }

pub stmts_none : {d : ℕ} {a : Arena} {c : Cursor} → StmtsIn d 0 a a c c
stmts_none {d} {a} {c} =
    record { tree = nil; row = []; parsed = refl; stands = refl; step = step_later a (within_same c.used); waiting = sym (append-nil _); casing = refl }

pub stmts_after : (f : Arena) {d n k : ℕ} {a b e g : Arena} {c c₁ c₂ c₃ : Cursor} {s : ReactiveStatement} → StmtsIn d n a b c c₁ → begin_statement c₁ ≡ Ok (tt, c₂) → BlockIn (stmt_read (block d)) (stmt_in d) b e c₂ c₃ s → Added e f s k → Waited f g k → StmtsIn d (n + 1) a g c c₃
stmts_after f {d} {n} {k} {a} {b} {e} {g} {c} {c₁} {c₂} {c₃} {s} m h x p q =
    let w = statement_begun c₁ (tt, c₂) h in
    let begun : Within c₁.used c₂.used = record { statements = omega (arith, w.statements); values = w.values; places = w.places; identifiers = w.identifiers; scopes = w.scopes; declarations = w.declarations; cases = w.cases } in
    let here = slot_grows d _ _ (waited_grow f g k q) k x.tree (slot_added d (slots e) (slots f) (added_grow e f s k p) s x.tree k p.items (p.slot ∙ e.statements.vec.ok.0) x.stands) in
    let grow = slots_more x.frame.step.grow (slots_more (added_grow e f s k p) (waited_grow f g k q)) in
    let before = body_under _ _ (slot_grows d _ _ grow) m.row m.tree m.stands in
    let one : one_stmt d c₁ ≡ Ok (x.tree, c₃) = ap (λ r. onto r (λ _. stmt_read (block d))) h ∙ x.parsed in
    record {
      tree = snoc m.tree x.tree;
      row = m.row ++ k ∷ [];
      parsed = ap (λ j. stmts_read (block d) j c) (add-one n) ∙ many_snoc (stmts_read (block d)) (one_stmt d) cons snoc nil (stmts_repeat d) n c (m.tree, c₁) (x.tree, c₃) m.parsed one;
      stands = row_snoc (body_of (stmt_slot d (slots g))) (stmt_slot d (slots g)) cons snoc nil (stmts_rows _) m.row k m.tree x.tree before here;
      step =
          record {
            values = Values.step_more m.step.values (Values.step_more (Values.step_later b.inner begun) (Values.step_more x.frame.step.values (inner_same (q.inner ∙ p.inner) (within_same c₃.used))));
            grow = slots_more m.step.grow grow;
            statements = omega (arith, m.step.statements, x.frame.step.statements, w.statements, p.len, ap vec_len q.statements);
            entries = omega (arith, m.step.entries, x.frame.step.entries, w.statements, ap vec_len p.entries, ap vec_len q.entries, ap vec_len p.waiting, q.len);
            cases = omega (arith, m.step.cases, x.frame.step.cases, w.cases, ap vec_len p.cases, ap vec_len q.cases, ap vec_len p.casing, ap vec_len q.casing);
          };
      waiting = q.items ∙ ap (λ l. l ++ k ∷ []) (ap vec_items p.waiting ∙ x.frame.waiting ∙ m.waiting) ∙ append_assoc (vec_items a.entries.waiting.vec) m.row (k ∷ []);
      casing = ap vec_items q.casing ∙ ap vec_items p.casing ∙ x.frame.casing ∙ m.casing;
    }

pub stmts_stop : {d n k : ℕ} {a b : Arena} {c c₁ : Cursor} {x : FileFault} → n < k → StmtsIn d n a b c c₁ → one_stmt d c₁ ≡ Err x → stmts_read (block d) k c ≡ Err x
stmts_stop {d} {n} {k} {c = c} {c₁ = c₁} {x = x} h m e = many_stop (stmts_read (block d)) (one_stmt d) cons snoc nil (stmts_repeat d) n k c (m.tree, c₁) x h m.parsed e

pub stmt_short : (d : ℕ) (c : Cursor) {x : FileFault} → begin_statement c ≡ Err x → one_stmt d c ≡ Err x
stmt_short d c h = ap (λ r. onto r (λ _. stmt_read (block d))) h

pub stmt_from : (d : ℕ) (c : Cursor) {c₁ : Cursor} {x : Read Stmt} → begin_statement c ≡ Ok (tt, c₁) → stmt_read (block d) c₁ ≡ x → one_stmt d c ≡ x
stmt_from d c h e = ap (λ r. onto r (λ _. stmt_read (block d))) h ∙ e

-- room for one more statement
pub stmt_room : {d n m : ℕ} {a b e : Arena} {c c₁ c₂ c₃ : Cursor} {s : ReactiveStatement} → Room a c.used → StmtsIn d n a b c c₁ → begin_statement c₁ ≡ Ok (tt, c₂) → BlockIn (stmt_read (block d)) (stmt_in d) b e c₂ c₃ s → c₃.used.statements ≤ m → (vec_len e.statements.vec < m) × (vec_len e.entries.waiting.vec < m)
stmt_room {c₁ = c₁} {c₂ = c₂} r m h x k =
    let w = statement_begun c₁ (tt, c₂) h in
    (omega (arith, r.statements, m.step.statements, x.frame.step.statements, w.statements), omega (arith, r.entries, m.step.entries, x.frame.step.entries, w.statements))

-- ---- a block
abbrev pub Settled : Arena → Arena → ℕ → Range → Type 0
Settled a b base r =
    record {
      start : r.start ≡ vec_len a.entries.table.vec;
      count : r.count ≡ vec_len a.entries.waiting.vec - base;
      items : vec_items b.entries.table.vec ≡ vec_items a.entries.table.vec ++ drop base (vec_items a.entries.waiting.vec);
      len : vec_len b.entries.table.vec ≡ vec_len a.entries.table.vec + (vec_len a.entries.waiting.vec - base);
      waiting : vec_items b.entries.waiting.vec ≡ take base (vec_items a.entries.waiting.vec);
      base : vec_len b.entries.waiting.vec ≡ base;
      inner : b.inner ≡ a.inner;
      statements : b.statements.vec ≡ a.statements.vec;
      cases : b.cases.table.vec ≡ a.cases.table.vec;
      casing : b.cases.waiting.vec ≡ a.cases.waiting.vec;
    }

waited : {d n : ℕ} {a b : Arena} {c c₁ : Cursor} (m : StmtsIn d n a b c c₁) → vec_len b.entries.waiting.vec ≡ vec_len a.entries.waiting.vec + length m.row
waited {a = a} {b = b} m = omega (arith, a.entries.waiting.vec.ok.0, b.entries.waiting.vec.ok.0, ap length m.waiting ∙ length-append (vec_items a.entries.waiting.vec) m.row)

pub block_from : {d j : ℕ} (c : Cursor) {n : ℕ} {c₁ : Cursor} → d ≡ suc j → word c ≡ Ok (n, c₁) → (x : Read Block) → stmts_read (block j) n c₁ ≡ x → block d c ≡ x
block_from {d} {j} c s h x e =
    ap (λ k. block k c) s ∙ ap (λ r. onto r (stmts_read (block j))) h ∙ e

pub block_short : {d j : ℕ} (c : Cursor) {e : FileFault} → d ≡ suc j → word c ≡ Err e → block d c ≡ Err e
block_short {d} {j} c s h =
    ap (λ k. block k c) s ∙ ap (λ r. onto r (stmts_read (block j))) h

pub block_in : {d j n base : ℕ} {a b e : Arena} {c c₁ c₂ : Cursor} {r : Range} → d ≡ suc j → word c ≡ Ok (n, c₁) → base ≡ vec_len a.entries.waiting.vec → StmtsIn j n a b c₁ c₂ → Settled b e base r → BlockIn (block d) (block_of d) a e c c₂ r
block_in {d} {j} {n} {base} {a} {b} {e} {c} {c₁} {c₂} {r} s h q m p =
    let long = waited m in
    let at : length (vec_items a.entries.waiting.vec) ≡ base = sym (q ∙ a.entries.waiting.vec.ok.0) in
    let new : drop base (vec_items b.entries.waiting.vec) ≡ m.row = ap (drop base) m.waiting ∙ drop_at (vec_items a.entries.waiting.vec) m.row base at in
    let old : take base (vec_items b.entries.waiting.vec) ≡ vec_items a.entries.waiting.vec = ap (take base) m.waiting ∙ take_at (vec_items a.entries.waiting.vec) m.row base at in
    let items : vec_items e.entries.table.vec ≡ vec_items b.entries.table.vec ++ m.row = p.items ∙ ap (λ l. vec_items b.entries.table.vec ++ l) new in
    let w = word_later c (n, c₁) h in
    let inner = inner_same p.inner (within_same c₂.used) in
    let grow : SlotsGrow (slots b) (slots e) = record { inner = inner.grow; statements = grows_same (ap vec_items p.statements); entries = record { more = m.row; is = items }; cases = grows_same (ap vec_items p.cases) } in
    record {
      tree = m.tree;
      parsed = block_from c s h _ m.parsed;
      stands = ap (λ k. block_of k (slots e) r) s ∙ block_added j (slots b) (slots e) grow m.row r m.tree items (p.start ∙ b.entries.table.vec.ok.0) (omega (arith, p.count, long, q)) m.stands;
      frame =
          record {
            step =
                record {
                  values = Values.step_more (Values.step_later a.inner w) (Values.step_more m.step.values inner);
                  grow = slots_more m.step.grow grow;
                  statements = omega (arith, m.step.statements, ap vec_len p.statements, w.statements);
                  entries = omega (arith, m.step.entries, p.len, p.base, long, q, w.statements);
                  cases = omega (arith, m.step.cases, ap vec_len p.cases, ap vec_len p.casing, w.cases);
                };
            waiting = p.waiting ∙ old;
            casing = ap vec_items p.casing ∙ m.casing;
          };
    }

pub settle_within : {d n base : ℕ} {a b : Arena} {c c₁ : Cursor} → base ≡ vec_len a.entries.waiting.vec → StmtsIn d n a b c c₁ → base ≤ vec_len b.entries.waiting.vec
settle_within q m = omega (arith, q, waited m)

pub settle_room : (base : ℕ) {d n m : ℕ} {a b : Arena} {c c₁ : Cursor} → Room a c.used → StmtsIn d n a b c c₁ → c₁.used.statements ≤ m → vec_len b.entries.table.vec + (vec_len b.entries.waiting.vec - base) ≤ m
settle_room base r m h = omega (arith, r.entries, m.step.entries)

-- ---- switch cases
abbrev knext : Option Place × OptBlock → Cases → Cases
knext x t = kcons x.0 x.1 t

abbrev ksnoc : Cases → Option Place × OptBlock → Cases
ksnoc knil x = kcons x.0 x.1 knil
ksnoc (kcons t b ks) x = kcons t b (ksnoc ks x)

abbrev one_case : ℕ → Cursor → Read (Option Place × OptBlock)
one_case d c = onto (begin_case c) (λ _. case_read d)

cases_next : (d n : ℕ) (c : Cursor) → cases_read (block d) (suc n) c ≡ onto (one_case d c) (λ x e. onto (cases_read (block d) n e) (λ t f. Ok (knext x t, f)))
cases_next d n c =
    onto_ext (begin_case c) _ _ (λ _ c₁.
    onto_ext (option place c₁) _ _ (λ t c₂. sym (onto_onto (opt_block (block d) c₂) (λ b. give (t, b)) (λ x e. onto (cases_read (block d) n e) (λ t f. Ok (knext x t, f)))))
    ∙ sym (onto_onto (option place c₁) (λ t c₂. onto (opt_block (block d) c₂) (λ b. give (t, b))) (λ x e. onto (cases_read (block d) n e) (λ t f. Ok (knext x t, f)))))
    ∙ sym (onto_onto (begin_case c) (λ _. case_read d) (λ x e. onto (cases_read (block d) n e) (λ t f. Ok (knext x t, f))))

cases_repeat : (d : ℕ) → Repeats (cases_read (block d)) (one_case d) knext ksnoc knil
cases_repeat d = record { none = λ c. refl; next = cases_next d; last = λ x. refl; before = λ y x t. refl }

cases_rows : (d : ℕ) (s : Slots) → Rows (cases_of (block_of d s)) (case_in d s) knext ksnoc knil
cases_rows d s =
    record {
      none = refl;
      next = λ i is. bind_bind (opt_block_of (block_of d s) i.block) (λ b. Some (i.test, b)) (λ x. bind (cases_of (block_of d s) is) (λ t. Some (knext x t)));
      last = λ x. refl;
      before = λ y x t. refl;
    }

abbrev pub CaseWaited : Arena → Arena → ReactiveSwitchCase → Type 0
CaseWaited a b k =
    record {
      items : vec_items b.cases.waiting.vec ≡ vec_items a.cases.waiting.vec ++ k ∷ [];
      len : vec_len b.cases.waiting.vec ≡ vec_len a.cases.waiting.vec + 1;
      inner : b.inner ≡ a.inner;
      statements : b.statements.vec ≡ a.statements.vec;
      entries : b.entries.table.vec ≡ a.entries.table.vec;
      cases : b.cases.table.vec ≡ a.cases.table.vec;
      waiting : b.entries.waiting.vec ≡ a.entries.waiting.vec;
    }

case_waited_grow : (a b : Arena) (k : ReactiveSwitchCase) → CaseWaited a b k → SlotsGrow (slots a) (slots b)
case_waited_grow a b k p =
    record {
      inner = inner_grow p.inner;
      statements = grows_same (ap vec_items p.statements);
      entries = grows_same (ap vec_items p.entries);
      cases = grows_same (ap vec_items p.cases);
    }

cases_grow : (d : ℕ) (s t : Slots) → SlotsGrow s t → Under (cases_of (block_of d s)) (cases_of (block_of d t))
cases_grow d s t g = cases_under _ _ _ _ (same_under (top_value s.inner)) (block_grows d s t g)

case_kept : (d : ℕ) (s t : Slots) → SlotsGrow s t → Under (case_in d s) (case_in d t)
case_kept d s t g k x e =
    bind_under (opt_block_of (block_of d s) k.block) (opt_block_of (block_of d t) k.block) _ _ x
    (opt_block_under _ _ _ _ (same_under (top_value s.inner)) (block_grows d s t g) k.block) (λ _ _ h. h) e

pub cases_none : {d : ℕ} {a : Arena} {c : Cursor} → CasesIn d 0 a a c c
cases_none {d} {a} {c} =
    record { tree = knil; row = []; parsed = refl; stands = refl; step = step_later a (within_same c.used); waiting = refl; casing = sym (append-nil _) }

pub cases_after : {d n : ℕ} {a b e f : Arena} {c c₁ c₂ c₃ : Cursor} {k : ReactiveSwitchCase} → CasesIn d n a b c c₁ → begin_case c₁ ≡ Ok (tt, c₂) → BlockIn (case_read d) (case_in d) b e c₂ c₃ k → CaseWaited e f k → CasesIn d (n + 1) a f c c₃
cases_after {d} {n} {a} {b} {e} {f} {c} {c₁} {c₂} {c₃} {k} m h x p =
    let w = case_begun c₁ (tt, c₂) h in
    let begun : Within c₁.used c₂.used = record { statements = w.statements; values = w.values; places = w.places; identifiers = w.identifiers; scopes = w.scopes; declarations = w.declarations; cases = omega (arith, w.cases) } in
    let same = case_waited_grow e f k p in
    let here = case_kept d (slots e) (slots f) same k x.tree x.stands in
    let grow = slots_more x.frame.step.grow same in
    let before = cases_grow d _ _ grow m.row m.tree m.stands in
    let one : one_case d c₁ ≡ Ok (x.tree, c₃) = ap (λ r. onto r (λ _. case_read d)) h ∙ x.parsed in
    record {
      tree = ksnoc m.tree x.tree;
      row = m.row ++ k ∷ [];
      parsed = ap (λ j. cases_read (block d) j c) (add-one n) ∙ many_snoc (cases_read (block d)) (one_case d) knext ksnoc knil (cases_repeat d) n c (m.tree, c₁) (x.tree, c₃) m.parsed one;
      stands = row_snoc (cases_of (block_of d (slots f))) (case_in d (slots f)) knext ksnoc knil (cases_rows d (slots f)) m.row k m.tree x.tree before here;
      step =
          record {
            values = Values.step_more m.step.values (Values.step_more (Values.step_later b.inner begun) (Values.step_more x.frame.step.values (inner_same p.inner (within_same c₃.used))));
            grow = slots_more m.step.grow grow;
            statements = omega (arith, m.step.statements, x.frame.step.statements, w.statements, ap vec_len p.statements);
            entries = omega (arith, m.step.entries, x.frame.step.entries, w.statements, ap vec_len p.entries, ap vec_len p.waiting);
            cases = omega (arith, m.step.cases, x.frame.step.cases, w.cases, ap vec_len p.cases, p.len);
          };
      waiting = ap vec_items p.waiting ∙ x.frame.waiting ∙ m.waiting;
      casing = p.items ∙ ap (λ l. l ++ k ∷ []) (x.frame.casing ∙ m.casing) ∙ append_assoc (vec_items a.cases.waiting.vec) m.row (k ∷ []);
    }

pub cases_stop : {d n k : ℕ} {a b : Arena} {c c₁ : Cursor} {x : FileFault} → n < k → CasesIn d n a b c c₁ → one_case d c₁ ≡ Err x → cases_read (block d) k c ≡ Err x
cases_stop {d} {n} {k} {c = c} {c₁ = c₁} {x = x} h m e = many_stop (cases_read (block d)) (one_case d) knext ksnoc knil (cases_repeat d) n k c (m.tree, c₁) x h m.parsed e

pub case_short : (d : ℕ) (c : Cursor) {x : FileFault} → begin_case c ≡ Err x → one_case d c ≡ Err x
case_short d c h = ap (λ r. onto r (λ _. case_read d)) h

pub case_further : (d : ℕ) (c : Cursor) {c₁ : Cursor} {x : Read (Option Place × OptBlock)} → begin_case c ≡ Ok (tt, c₁) → case_read d c₁ ≡ x → one_case d c ≡ x
case_further d c h e = ap (λ r. onto r (λ _. case_read d)) h ∙ e

-- room for one more case
pub case_room : {d n m : ℕ} {a b e : Arena} {c c₁ c₂ c₃ : Cursor} {k : ReactiveSwitchCase} → Room a c.used → CasesIn d n a b c c₁ → begin_case c₁ ≡ Ok (tt, c₂) → BlockIn (case_read d) (case_in d) b e c₂ c₃ k → c₃.used.cases ≤ m → vec_len e.cases.waiting.vec < m
case_room {c₁ = c₁} {c₂ = c₂} r m h x k =
    let w = case_begun c₁ (tt, c₂) h in
    omega (arith, r.cases, m.step.cases, x.frame.step.cases, w.cases)

-- the row of cases
abbrev pub CasesSettled : Arena → Arena → ℕ → Range → Type 0
CasesSettled a b base r =
    record {
      start : r.start ≡ vec_len a.cases.table.vec;
      count : r.count ≡ vec_len a.cases.waiting.vec - base;
      items : vec_items b.cases.table.vec ≡ vec_items a.cases.table.vec ++ drop base (vec_items a.cases.waiting.vec);
      len : vec_len b.cases.table.vec ≡ vec_len a.cases.table.vec + (vec_len a.cases.waiting.vec - base);
      casing : vec_items b.cases.waiting.vec ≡ take base (vec_items a.cases.waiting.vec);
      base : vec_len b.cases.waiting.vec ≡ base;
      inner : b.inner ≡ a.inner;
      statements : b.statements.vec ≡ a.statements.vec;
      entries : b.entries.table.vec ≡ a.entries.table.vec;
      waiting : b.entries.waiting.vec ≡ a.entries.waiting.vec;
    }

cased : {d n : ℕ} {a b : Arena} {c c₁ : Cursor} (m : CasesIn d n a b c c₁) → vec_len b.cases.waiting.vec ≡ vec_len a.cases.waiting.vec + length m.row
cased {a = a} {b = b} m = omega (arith, a.cases.waiting.vec.ok.0, b.cases.waiting.vec.ok.0, ap length m.casing ∙ length-append (vec_items a.cases.waiting.vec) m.row)

pub cases_settled : {d n base : ℕ} {a b e : Arena} {c c₁ c₂ : Cursor} {r : Range} → word c ≡ Ok (n, c₁) → base ≡ vec_len a.cases.waiting.vec → CasesIn d n a b c₁ c₂ → CasesSettled b e base r → BlockIn (λ q. onto (word q) (cases_read (block d))) (cases_in d) a e c c₂ r
cases_settled {d} {n} {base} {a} {b} {e} {c} {c₁} {c₂} {r} h q m p =
    let long = cased m in
    let at : length (vec_items a.cases.waiting.vec) ≡ base = sym (q ∙ a.cases.waiting.vec.ok.0) in
    let new : drop base (vec_items b.cases.waiting.vec) ≡ m.row = ap (drop base) m.casing ∙ drop_at (vec_items a.cases.waiting.vec) m.row base at in
    let old : take base (vec_items b.cases.waiting.vec) ≡ vec_items a.cases.waiting.vec = ap (take base) m.casing ∙ take_at (vec_items a.cases.waiting.vec) m.row base at in
    let items : vec_items e.cases.table.vec ≡ vec_items b.cases.table.vec ++ m.row = p.items ∙ ap (λ l. vec_items b.cases.table.vec ++ l) new in
    let w = word_later c (n, c₁) h in
    let inner = inner_same p.inner (within_same c₂.used) in
    let grow : SlotsGrow (slots b) (slots e) = record { inner = inner.grow; statements = grows_same (ap vec_items p.statements); entries = grows_same (ap vec_items p.entries); cases = record { more = m.row; is = items } } in
    let row : part (vec_items e.cases.table.vec) r ≡ Some m.row = part_at (vec_items b.cases.table.vec) m.row (vec_items e.cases.table.vec) r items (p.start ∙ b.cases.table.vec.ok.0) (omega (arith, p.count, long, q)) in
    record {
      tree = m.tree;
      parsed = ap (λ x. onto x (cases_read (block d))) h ∙ m.parsed;
      stands = ap (λ x. bind x (cases_of (block_of d (slots e)))) row ∙ cases_grow d _ _ grow m.row m.tree m.stands;
      frame =
          record {
            step =
                record {
                  values = Values.step_more (Values.step_later a.inner w) (Values.step_more m.step.values inner);
                  grow = slots_more m.step.grow grow;
                  statements = omega (arith, m.step.statements, ap vec_len p.statements, w.statements);
                  entries = omega (arith, m.step.entries, ap vec_len p.entries, ap vec_len p.waiting, w.statements);
                  cases = omega (arith, m.step.cases, p.len, p.base, long, q, w.cases);
                };
            waiting = ap vec_items p.waiting ∙ m.waiting;
            casing = p.casing ∙ old;
          };
    }

pub settle_cases_within : {d n base : ℕ} {a b : Arena} {c c₁ : Cursor} → base ≡ vec_len a.cases.waiting.vec → CasesIn d n a b c c₁ → base ≤ vec_len b.cases.waiting.vec
settle_cases_within q m = omega (arith, q, cased m)

pub settle_cases_room : (base : ℕ) {d n m : ℕ} {a b : Arena} {c c₁ : Cursor} → Room a c.used → CasesIn d n a b c c₁ → c₁.used.cases ≤ m → vec_len b.cases.table.vec + (vec_len b.cases.waiting.vec - base) ≤ m
settle_cases_room base r m h = omega (arith, r.cases, m.step.cases)
