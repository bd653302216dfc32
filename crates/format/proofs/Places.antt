-- A reading that fails is refused at a word that it has in front of it, or at the first word after those. Assumes nothing.
use Rattle.std.proofs.Common.{◌≡◌, ℕ, zero, suc, ◌+◌, ◌-◌, ◌≤◌, Bool, true, false, cond, eqb, ltb, leb, List, [], ◌∷◌, length, take, drop, Some, None, Ok, Err, Result, refl, ◌∙◌, subst, arith}
use Rattle.hir.specs.declared.place.Place.{Place}
use Rattle.hir.specs.declared.terminal.ReactiveTerminalTargetKind.{ReactiveTerminalTargetKind}
use Rattle.hir.specs.declared.used.Used.{Used}
use Rattle.hir.specs.Options.{nth}
use Rattle.hir.specs.Tree.{Val, operation, no_val, some_val, Stmt, instruction, scope, pruned, Term, break, continue, return, throw, no_block, some_block, Block}
use Rattle.format.specs.declared.fault.FileFault.{FileFault}
use Rattle.format.specs.declared.fault.FileFault.TheVariants.{Length, Pairs, Reading, Limit}
use Rattle.format.specs.Parse.{Cursor, Read, onto, give, next_of, word, below, order, chosen, case, flag, option, times, listed, counted, begin_statement, effects, place, op, operators, instr_read, instrs_read, logical_read, conditional_read, sequence_read, optional_read, val_read, value, top_value, instruction_read, opt_value, targets, label_read, jump_read, leave_read, opt_block, cases_read, switch_read, do_while_read, while_read, for_read, for_of_read, for_in_read, if_read, label_block_read, try_read, term_read, terminal_read, scope_read, stmt_read, stmts_read, block, names, identifier, early_read, declaration, scope_info, until_end, every, counters, and_then, to_end, section}
use Rattle.format.proofs.Undone.{part_long}

-- a fault of the reading, at a word from `from` to `to`
abbrev pub Placed : ℕ → ℕ → FileFault → Type 0
Placed from to Length = ⊥
Placed from to (Pairs w) = ⊥
Placed from to (Reading w) = (from ≤ w) × (w ≤ to)
Placed from to (Limit w) = (from ≤ w) × (w ≤ to)

placed_wider : (a b c : ℕ) (e : FileFault) → a ≤ b → Placed b c e → Placed a c e
placed_wider a b c Length l h = h
placed_wider a b c (Pairs w) l h = h
placed_wider a b c (Reading w) l h = (omega (arith, h.0), h.1)
placed_wider a b c (Limit w) l h = (omega (arith, h.0), h.1)

abbrev end : Cursor → ℕ
end c = c.at + length c.rest

abbrev Lying : {X : Type 0} → Cursor → Read X → Type 0
Lying c (Ok p) = (c.at ≤ p.1.at) × (end p.1 ≡ end c)
Lying c (Err e) = Placed c.at (end c) e

-- the reading goes forward, and is refused within its words
pub record Lies {X : Type 0} (c : Cursor) (r : Read X) : Type 0 where
  pub lying : Lying c r

further : {X : Type 0} (c d : Cursor) (r : Read X) → c.at ≤ d.at → end d ≡ end c → Lying d r → Lying c r
further c d (Ok p) l e h = (omega (arith, h.0), h.1 ∙ e)
further c d (Err x) l e h = subst (λ (n : ℕ). Placed c.at n x) e (placed_wider c.at d.at (end d) x l h)

onto_lying : {X Y : Type 0} (c : Cursor) (r : Read X) (f : X → Cursor → Read Y) → Lying c r → ((x : X) (d : Cursor) → Lies d (f x d)) → Lying c (onto r f)
onto_lying c (Ok p) f h k = further c p.1 (f p.0 p.1) h.0 h.1 (k p.0 p.1).lying
onto_lying c (Err e) f h k = h

after : {X Y : Type 0} {c : Cursor} {r : Read X} {f : X → Cursor → Read Y} → Lies c r → ((x : X) (d : Cursor) → Lies d (f x d)) → Lies c (onto r f)
after {c} {r} {f} h k = record { lying = onto_lying c r f h.lying k }

given : {X : Type 0} {x : X} {c : Cursor} → Lies c (give x c)
given = record { lying = (omega arith, refl) }

limited : {X : Type 0} {c : Cursor} → Lies {X = X} c (Err (Limit c.at))
limited = record { lying = (omega arith, omega arith) }

-- ---- a word, and what is asked of it
next_lying : (at : ℕ) (u : Used) (ws : List ℕ) → Lying (record { at = at; rest = ws; used = u }) (next_of at u ws)
next_lying at u [] = (omega arith, omega arith)
next_lying at u (w ∷ ws) = (omega arith, omega arith)

word_lies : (c : Cursor) → Lies c (word c)
word_lies c = record { lying = next_lying c.at c.used c.rest }

asked_lying : {X Y : Type 0} (c : Cursor) (r : Read X) (f : X → Cursor → Read Y) → Lying c r → ((x : X) (d : Cursor) → c.at ≤ d.at → end d ≡ end c → Lies c (f x d)) → Lying c (onto r f)
asked_lying c (Ok p) f h k = (k p.0 p.1 h.0 h.1).lying
asked_lying c (Err e) f h k = h

-- what follows a word may also be refused at that word
asked : {X : Type 0} {c : Cursor} (f : ℕ → Cursor → Read X) → ((w : ℕ) (d : Cursor) → c.at ≤ d.at → end d ≡ end c → Lies c (f w d)) → Lies c (onto (word c) f)
asked {c} f k = record { lying = asked_lying c (word c) f (word_lies c).lying k }

moved : {X : Type 0} {r : Read X} (c d : Cursor) → c.at ≤ d.at → end d ≡ end c → Lies d r → Lies c r
moved {r} c d l e h = record { lying = further c d r l e h.lying }

tested : (b : Bool) (w : ℕ) (c d : Cursor) (e : FileFault) → c.at ≤ d.at → end d ≡ end c → Placed c.at (end c) e → Lies c (cond b (give w d) (Err e))
tested true w c d e l h p = record { lying = (l, h) }
tested false w c d e l h p = record { lying = p }

below_lies : (n : ℕ) (c : Cursor) → Lies c (below n c)
below_lies n c = asked _ (λ w d l e. tested (ltb w n) w c d (Reading c.at) l e (omega arith, omega arith))

order_lies : (c : Cursor) → Lies c (order c)
order_lies c = asked _ (λ w d l e. tested (leb w 1000000) w c d (Limit c.at) l e (omega arith, omega arith))

-- each parser of a list
abbrev Each : {X : Type 0} → List (Cursor → Read X) → Type 0
Each [] = Unit {0}
Each (p ∷ ps) = ((c : Cursor) → Lies c (p c)) × Each ps

chosen_lies : {X : Type 0} (ps : List (Cursor → Read X)) (w : ℕ) (c d : Cursor) → c.at ≤ d.at → end d ≡ end c → Each ps → Lies c (chosen (nth ps w) c.at d)
chosen_lies [] w c d l e h = record { lying = (omega arith, omega arith) }
chosen_lies (p ∷ ps) zero c d l e h = moved c d l e (h.0 d)
chosen_lies (p ∷ ps) (suc w) c d l e h = chosen_lies ps w c d l e h.1

case_lies : {X : Type 0} (ps : List (Cursor → Read X)) → Each ps → (c : Cursor) → Lies c (case ps c)
case_lies ps h c = asked _ (λ w d l e. chosen_lies ps w c d l e h)

flag_lies : (c : Cursor) → Lies c (flag c)
flag_lies = case_lies (give false ∷ give true ∷ []) (λ c. given, (λ c. given, tt))

option_lies : {X : Type 0} (p : Cursor → Read X) → ((c : Cursor) → Lies c (p c)) → (c : Cursor) → Lies c (option p c)
option_lies p h = case_lies (give None ∷ (λ c. onto (p c) (λ x. give (Some x))) ∷ []) (λ c. given, (λ c. after (h c) (λ x d. given), tt))

times_lies : {X : Type 0} (p : Cursor → Read X) → ((c : Cursor) → Lies c (p c)) → (n : ℕ) (c : Cursor) → Lies c (times p n c)
times_lies p h zero c = given
times_lies p h (suc n) c = after (h c) (λ x d. after (times_lies p h n d) (λ xs e. given))

listed_lies : {X : Type 0} (p : Cursor → Read X) → ((c : Cursor) → Lies c (p c)) → (c : Cursor) → Lies c (listed p c)
listed_lies p h c = after (word_lies c) (λ n d. times_lies p h n d)

until_lies : {X : Type 0} (p : Cursor → Read X) → ((c : Cursor) → Lies c (p c)) → (n : ℕ) (ws : List ℕ) (c : Cursor) → Lies c (until_end p n ws c)
until_lies p h n [] c = given
until_lies p h zero (w ∷ ws) c = given
until_lies p h (suc n) (w ∷ ws) c = after (h c) (λ x d. after (until_lies p h n d.rest d) (λ xs e. given))

counted_lies : (b : Bool) (u : Used) (c : Cursor) → Lies c (counted b u c)
counted_lies true u c = record { lying = (omega arith, refl) }
counted_lies false u c = limited

statement_lies : (c : Cursor) → Lies c (begin_statement c)
statement_lies c = counted_lies _ _ c

-- ---- values
place_lies : (c : Cursor) → Lies c (place c)
unfolding place
place_lies c =
    after (counted_lies _ _ c) (λ _ c₁. after (word_lies c₁) (λ i c₂. after (case_lies effects (λ c. given, (λ c. given, (λ c. given, (λ c. given, (λ c. given, (λ c. given, (λ c. given, (λ c. given, tt)))))))) c₂) (λ e c₃. after (flag_lies c₃) (λ r c₄. after (word_lies c₄) (λ s c₅.
    given)))))

payload_lies : (b : Bool) (c : Cursor) → Lies c (cond b (below 8 c) (word c))
payload_lies true c = below_lies 8 c
payload_lies false c = word_lies c

op_lies : (c : Cursor) → Lies c (op c)
unfolding op
op_lies c =
    after (below_lies 42 c) (λ k c₁. after (payload_lies (eqb k 4) c₁) (λ m c₂. after (listed_lies place place_lies c₂) (λ w c₃. after (listed_lies place place_lies c₃) (λ o c₄. after (word_lies c₄) (λ s c₅.
    given)))))

module _ (value : Cursor → Read Val) (lies : (c : Cursor) → Lies c (value c)) where
  instr_lies : (c : Cursor) → Lies c (instr_read value c)
  instr_lies c = after (order_lies c) (λ i c₁. after (option_lies place place_lies c₁) (λ l c₂. after (lies c₂) (λ v c₃. after (word_lies c₃) (λ s c₄. given))))

  instrs_lies : (n : ℕ) (c : Cursor) → Lies c (instrs_read value n c)
  instrs_lies zero c = given
  instrs_lies (suc n) c = after (statement_lies c) (λ _ c₁. after (instr_lies c₁) (λ i c₂. after (instrs_lies n c₂) (λ is c₃. given)))

  val_lies : (c : Cursor) → Lies c (val_read value c)
  val_lies =
      case_lies
      ((λ c. onto (op c) (λ o. give (operation o))) ∷ logical_read value ∷ conditional_read value ∷ sequence_read value ∷ optional_read value ∷ []) (
        λ c. after (op_lies c) (λ o d. given),
        (
          λ c. after (case_lies operators (λ c. given, (λ c. given, (λ c. given, tt))) c) (λ o c₁. after (lies c₁) (λ a c₂. after (lies c₂) (λ b c₃. given))),
          (
            λ c. after (lies c) (λ t c₁. after (lies c₁) (λ a c₂. after (lies c₂) (λ b c₃. given))),
            (
              λ c. after (word_lies c) (λ n c₁. after (instrs_lies n c₁) (λ is c₂. after (order_lies c₂) (λ i c₃. after (lies c₃) (λ v c₄. given)))),
              (
                λ c. after (lies c) (λ v c₁. after (flag_lies c₁) (λ o c₂. given)),
                tt,
              ),
            ),
          ),
        ),
      )

value_lies : (n : ℕ) (c : Cursor) → Lies c (value n c)
value_lies zero c = limited
value_lies (suc n) c = after (counted_lies _ _ c) (λ _ d. val_lies (value n) (value_lies n) d)

top_lies : (c : Cursor) → Lies c (top_value c)
unfolding top_value
top_lies c = value_lies 64 c

-- ---- statements
opt_value_lies : (c : Cursor) → Lies c (opt_value c)
opt_value_lies = case_lies (give no_val ∷ (λ c. onto (top_value c) (λ v. give (some_val v))) ∷ []) (λ c. given, (λ c. after (top_lies c) (λ v d. given), tt))

label_lies : (c : Cursor) → Lies c (label_read c)
label_lies c = after (word_lies c) (λ l c₁. after (flag_lies c₁) (λ i c₂. given))

jump_lies : (make : ℕ → ℕ → ReactiveTerminalTargetKind → Term) (c : Cursor) → Lies c (jump_read make c)
jump_lies make c = after (word_lies c) (λ l c₁. after (order_lies c₁) (λ i c₂. after (case_lies targets (λ c. given, (λ c. given, (λ c. given, tt))) c₂) (λ k c₃. given)))

leave_lies : (make : Place → ℕ → Term) (c : Cursor) → Lies c (leave_read make c)
leave_lies make c = after (place_lies c) (λ p c₁. after (order_lies c₁) (λ i c₂. given))

module _ (block : Cursor → Read Block) (lies : (c : Cursor) → Lies c (block c)) where
  opt_block_lies : (c : Cursor) → Lies c (opt_block block c)
  opt_block_lies = case_lies (give no_block ∷ (λ c. onto (block c) (λ b. give (some_block b))) ∷ []) (λ c. given, (λ c. after (lies c) (λ b d. given), tt))

  cases_lies : (n : ℕ) (c : Cursor) → Lies c (cases_read block n c)
  cases_lies zero c = given
  cases_lies (suc n) c = after (counted_lies _ _ c) (λ _ c₁. after (option_lies place place_lies c₁) (λ t c₂. after (opt_block_lies c₂) (λ b c₃. after (cases_lies n c₃) (λ cs c₄. given))))

  term_lies : (c : Cursor) → Lies c (term_read block c)
  term_lies =
      case_lies
      (jump_read break ∷ jump_read continue ∷ leave_read return ∷ leave_read throw ∷ switch_read block ∷ do_while_read block ∷ while_read block ∷ for_read block ∷ for_of_read block ∷ for_in_read block
      ∷ if_read block ∷ label_block_read block ∷ try_read block ∷ []) (
        jump_lies break,
        (
          jump_lies continue,
          (
            leave_lies return,
            (
              leave_lies throw,
              (
                λ c. after (place_lies c) (λ p c₁. after (word_lies c₁) (λ n c₂. after (cases_lies n c₂) (λ cs c₃. after (order_lies c₃) (λ i c₄. given)))),
                (
                  λ c. after (lies c) (λ b c₁. after (top_lies c₁) (λ v c₂. after (order_lies c₂) (λ i c₃. given))),
                  (
                    λ c. after (top_lies c) (λ v c₁. after (lies c₁) (λ b c₂. after (order_lies c₂) (λ i c₃. given))),
                    (
                      λ c. after (top_lies c) (λ n c₁. after (top_lies c₁) (λ v c₂. after (opt_value_lies c₂) (λ u c₃. after (lies c₃) (λ b c₄. after (order_lies c₄) (λ i c₅. given))))),
                      (
                        λ c. after (top_lies c) (λ n c₁. after (top_lies c₁) (λ v c₂. after (lies c₂) (λ b c₃. after (order_lies c₃) (λ i c₄. after (word_lies c₄) (λ s c₅. given))))),
                        (
                          λ c. after (top_lies c) (λ v c₁. after (lies c₁) (λ b c₂. after (order_lies c₂) (λ i c₃. after (word_lies c₃) (λ s c₄. given)))),
                          (
                            λ c. after (place_lies c) (λ p c₁. after (lies c₁) (λ b c₂. after (opt_block_lies c₂) (λ x c₃. after (order_lies c₃) (λ i c₄. given)))),
                            (
                              λ c. after (lies c) (λ b c₁. after (order_lies c₁) (λ i c₂. given)),
                              (
                                λ c. after (lies c) (λ b c₁. after (option_lies place place_lies c₁) (λ p c₂. after (lies c₂) (λ h c₃. after (order_lies c₃) (λ i c₄. given)))),
                                tt,
                              ),
                            ),
                          ),
                        ),
                      ),
                    ),
                  ),
                ),
              ),
            ),
          ),
        ),
      )

  scope_lies : (make : ℕ → Block → Stmt) (c : Cursor) → Lies c (scope_read block make c)
  scope_lies make c = after (word_lies c) (λ x c₁. after (lies c₁) (λ b c₂. given))

  stmt_lies : (c : Cursor) → Lies c (stmt_read block c)
  stmt_lies =
      case_lies ((λ c. onto (instruction_read c) (λ i. give (instruction i))) ∷ terminal_read block ∷ scope_read block scope ∷ scope_read block pruned ∷ []) (
        λ c. after (instr_lies top_value top_lies c) (λ i d. given),
        (
          λ c. after (term_lies c) (λ t c₁. after (option_lies label_read label_lies c₁) (λ m c₂. given)),
          (scope_lies scope, (scope_lies pruned, tt)),
        ),
      )

  stmts_lies : (n : ℕ) (c : Cursor) → Lies c (stmts_read block n c)
  stmts_lies zero c = given
  stmts_lies (suc n) c = after (statement_lies c) (λ _ c₁. after (stmt_lies c₁) (λ s c₂. after (stmts_lies n c₂) (λ b c₃. given)))

pub block_lies : (n : ℕ) (c : Cursor) → Lies c (block n c)
block_lies zero c = limited
block_lies (suc n) c = after (word_lies c) (λ k d. stmts_lies (block n) (block_lies n) k d)

-- ---- the tables
name_lies : (c : Cursor) → Lies c (case names c)
name_lies = case_lies names (λ c. after (word_lies c) (λ n d. given), (λ c. after (word_lies c) (λ n d. given), tt))

identifier_lies : (c : Cursor) → Lies c (identifier c)
unfolding identifier
identifier_lies c =
    after (counted_lies _ _ c) (λ _ c₁. after (word_lies c₁) (λ d c₂. after (option_lies (case names) name_lies c₂) (λ n c₃. after (word_lies c₃) (λ r c₄. after (option_lies word word_lies c₄) (λ s c₅. after (word_lies c₅) (λ k c₆. after (word_lies c₆) (λ p c₇.
    given)))))))

early_lies : (c : Cursor) → Lies c (early_read c)
early_lies c = after (word_lies c) (λ v c₁. after (word_lies c₁) (λ s c₂. after (word_lies c₂) (λ l c₃. given)))

declaration_lies : (c : Cursor) → Lies c (declaration c)
unfolding declaration
declaration_lies c = after (counted_lies _ _ c) (λ _ c₁. after (word_lies c₁) (λ k c₂. after (word_lies c₂) (λ i c₃. after (word_lies c₃) (λ s c₄. given))))

scope_info_lies : (c : Cursor) → Lies c (scope_info c)
unfolding scope_info
scope_info_lies c = after (counted_lies _ _ c) (λ _ c₁. after (option_lies early_read early_lies c₁) (λ e c₂. after (listed_lies declaration declaration_lies c₂) (λ ds c₃. given)))

pub identifiers_lie : (c : Cursor) → Lies c (every identifier c)
identifiers_lie c = until_lies identifier identifier_lies (length c.rest) c.rest c

pub scopes_lie : (c : Cursor) → Lies c (every scope_info c)
scopes_lie c = until_lies scope_info scope_info_lies (length c.rest) c.rest c

pub counters_lie : (c : Cursor) → Lies c (counters c)
unfolding counters
counters_lie c = after (order_lies c) (λ b c₁. after (order_lies c₁) (λ t c₂. after (order_lies c₂) (λ r c₃. given)))

-- ---- sections
abbrev pub Late : {X : Type 0} → ℕ → ℕ → Result X FileFault → Type 0
Late from to (Ok x) = Unit {0}
Late from to (Err e) = Placed from to e

pub and_then_late : {X Y : Type 0} (from to : ℕ) (r : Result X FileFault) (f : X → Result Y FileFault) → Late from to r → ((x : X) → Late from to (f x)) → Late from to (and_then r f)
and_then_late from to (Ok x) f h k = k x
and_then_late from to (Err e) f h k = h

placed_within : (a b c d : ℕ) (e : FileFault) → a ≤ b → c ≤ d → Placed b c e → Placed a d e
placed_within a b c d Length l m h = h
placed_within a b c d (Pairs w) l m h = h
placed_within a b c d (Reading w) l m h = (omega (arith, h.0), omega (arith, h.1))
placed_within a b c d (Limit w) l m h = (omega (arith, h.0), omega (arith, h.1))

end_late : {X : Type 0} (a b : ℕ) (x : X) (at : ℕ) (u : Used) (ws : List ℕ) → a ≤ at → at + length ws ≤ b → Late a b (to_end x at u ws)
end_late a b x at u [] h k = tt
end_late a b x at u (w ∷ ws) h k = (h, omega arith)

read_late : {X : Type 0} (a b : ℕ) (c : Cursor) (r : Read X) → a ≤ c.at → end c ≤ b → Lying c r → Late a b (and_then r (λ q. to_end q.0 q.1.at q.1.used q.1.rest))
read_late a b c (Ok p) h k l = end_late a b p.0 p.1.at p.1.used p.1.rest (omega (arith, l.0)) (omega (arith, l.1))
read_late a b c (Err e) h k l = placed_within a c.at (end c) b e h k l

pub section_late : {X : Type 0} (p : Cursor → Read X) → ((c : Cursor) → Lies c (p c)) → (ws : List ℕ) (from to : ℕ) (u : Used) → 8 ≤ from → from ≤ to → to ≤ length ws → Late 8 (length ws) (section p ws from to u)
section_late p h ws from to u a b c =
    let d : Cursor = record { at = from; rest = take (to - from) (drop from ws); used = u } in
    let l = part_long ws from to c in
    read_late 8 (length ws) d (p d) a (omega arith) (h d).lying
