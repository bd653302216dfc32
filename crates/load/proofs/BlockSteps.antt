-- How steps of the tables go together. Assumes nothing.
use Rattle.std.proofs.Common.{◌≡◌, ℕ, Bool, true, false, Some, None, Ok, vec_items, vec_len, Option, refl, ap, ◌∙◌, arith}
use Rattle.hir.specs.declared.arena.Arena.{Arena}
use Rattle.hir.specs.declared.place.Place.{Place}
use Rattle.hir.specs.declared.used.Used.{Used}
use Rattle.hir.specs.Decode.{ValueSlots, Slots}
use Rattle.hir.specs.Held.{slots}
use Rattle.hir.specs.Limits.{Within}
use Rattle.hir.specs.Options.{bind}
use Rattle.hir.specs.Tree.{no_val, some_val}
use Rattle.hir.proofs.Grow.{grows_same, slots_same, slots_more}
use Rattle.format.specs.Parse.{Cursor, Read, onto, give, word, flag, place, opt_value, top_value}
use Rattle.load.specs.Blocks.{Room, Step, Frame, BlockIn, slot_in, opt_slot_in}
use Rattle.load.specs.Values.{ValueIn}
use Rattle.load.proofs.Chosen.{flag_no, flag_yes}
use Rattle.load.proofs.Later.{word_later, flag_later, place_later}
use Rattle.load.proofs.ValueSteps as Values

pub step_later : {u v : Used} (a : Arena) → Within u v → Step a a u v
step_later a w =
    record {
      values = Values.step_later a.inner w;
      grow = slots_same (slots a);
      statements = omega (arith, w.statements);
      entries = omega (arith, w.statements);
      cases = omega (arith, w.cases);
    }

pub step_more : {a b c : Arena} {u v w : Used} → Step a b u v → Step b c v w → Step a c u w
step_more s t =
    record {
      values = Values.step_more s.values t.values;
      grow = slots_more s.grow t.grow;
      statements = omega (arith, s.statements, t.statements);
      entries = omega (arith, s.entries, t.entries);
      cases = omega (arith, s.cases, t.cases);
    }

pub frame_later : {u v : Used} (a : Arena) → Within u v → Frame a a u v
frame_later a w = record { step = step_later a w; waiting = refl; casing = refl }

pub frame_more : {a b c : Arena} {u v w : Used} → Frame a b u v → Frame b c v w → Frame a c u w
frame_more s t = record { step = step_more s.step t.step; waiting = t.waiting ∙ s.waiting; casing = t.casing ∙ s.casing }

pub room_later : {a : Arena} {u v : Used} → Room a u → Within u v → Room a v
room_later r w =
    record {
      values = Values.room_later r.values w;
      statements = omega (arith, r.statements, w.statements);
      entries = omega (arith, r.entries, w.statements);
      cases = omega (arith, r.cases, w.cases);
    }

pub room_word : (c : Cursor) {a : Arena} {w : ℕ} {d : Cursor} → Room a c.used → word c ≡ Ok (w, d) → Room a d.used
room_word c {w = w} {d = d} r e = room_later r (word_later c (w, d) e)

pub room_place : (c : Cursor) {a : Arena} {p : Place} {d : Cursor} → Room a c.used → place c ≡ Ok (p, d) → Room a d.used
room_place c {p = p} {d = d} r e = room_later r (place_later c (p, d) e)

pub room_step : {a b : Arena} {u v : Used} → Room a u → Step a b u v → Room b v
room_step r s =
    record {
      values = Values.room_after r.values s.values;
      statements = omega (arith, r.statements, s.statements);
      entries = omega (arith, r.entries, s.entries);
      cases = omega (arith, r.cases, s.cases);
    }

pub room_after : {a b : Arena} {u v : Used} → Room a u → Frame a b u v → Room b v
room_after r f = room_step r f.step

-- a reading of values changes only their tables
pub lifted : {X R : Type 0} {parser : Cursor → Read X} {decode : ValueSlots → R → Option X} {a b : Arena} {c d : Cursor} {r : R} → b.statements.vec ≡ a.statements.vec → b.entries.table.vec ≡ a.entries.table.vec → b.cases.table.vec ≡ a.cases.table.vec → b.entries.waiting.vec ≡ a.entries.waiting.vec → b.cases.waiting.vec ≡ a.cases.waiting.vec → ValueIn parser decode a.inner b.inner c d r → BlockIn parser (λ s. decode s.inner) a b c d r
lifted p q o w k m =
    let l = m.step.later in
    record {
      tree = m.tree;
      parsed = m.parsed;
      stands = m.stands;
      frame =
          record {
            step =
                record {
                  values = m.step;
                  grow = record { inner = m.step.grow; statements = grows_same (ap vec_items p); entries = grows_same (ap vec_items q); cases = grows_same (ap vec_items o) };
                  statements = omega (arith, ap vec_len p, l.statements);
                  entries = omega (arith, ap vec_len q, ap vec_len w, l.statements);
                  cases = omega (arith, ap vec_len o, ap vec_len k, l.cases);
                };
            waiting = ap vec_items w;
            casing = ap vec_items k;
          };
    }

-- what was read stands behind what a leaf read before it
pub after_leaf : {X R : Type 0} {parser further : Cursor → Read X} {decode : Slots → R → Option X} {a b : Arena} {c c₁ d : Cursor} {r : R} → Within c.used c₁.used → ((x : Read X) → further c₁ ≡ x → parser c ≡ x) → BlockIn further decode a b c₁ d r → BlockIn parser decode a b c d r
after_leaf {a = a} w same m = record { tree = m.tree; parsed = same _ m.parsed; stands = m.stands; frame = frame_more (frame_later a w) m.frame }

-- ---- an optional value
pub no_value : {b : Bool} {a : Arena} {c c₁ : Cursor} → flag c ≡ Ok (b, c₁) → b ≡ false → BlockIn opt_value opt_slot_in a a c c₁ None
no_value {b} {a} {c} {c₁} h z =
    record { tree = no_val; parsed = flag_no (give no_val) _ c h z; stands = refl; frame = frame_later a (flag_later c (b, c₁) h) }

pub some_value : {f : Bool} {k : ℕ} {a b : Arena} {c c₁ d : Cursor} → flag c ≡ Ok (f, c₁) → f ≡ true → BlockIn top_value slot_in a b c₁ d k → BlockIn opt_value opt_slot_in a b c d (Some k)
some_value {f} {k} {a} {b} {c} {c₁} {d} h z m =
    record {
      tree = some_val m.tree;
      parsed = flag_yes (give no_val) (λ c. onto (top_value c) (λ v. give (some_val v))) c h z ∙ ap (λ r. onto r (λ v. give (some_val v))) m.parsed;
      stands = ap (λ o. bind o (λ v. Some (some_val v))) m.stands;
      frame = frame_more (frame_later a (flag_later c (f, c₁) h)) m.frame;
    }
