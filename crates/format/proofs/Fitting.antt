-- What is read fits: depths, evaluation orders and kinds are kept to. Assumes nothing.
use Rattle.std.proofs.Common.{◌≡◌, ℕ, zero, suc, ◌-◌, ◌<◌, ◌≤◌, max, Bool, true, false, cond, eqb, ltb, leb, List, [], ◌∷◌, take, drop, Ok, Err, sym, refl, subst, arith, ltb-true, eq-eqb, leb-true}
use Rattle.std.specs.List.{AllByRecursion}
use Rattle.hir.specs.declared.used.Used.{Used}
use Rattle.hir.specs.Tree.{Val, operation, no_val, some_val, instruction, scope, pruned, break, continue, return, throw, no_block, some_block, Block}
use Rattle.format.specs.declared.fault.FileFault.{FileFault}
use Rattle.format.specs.declared.fault.FileFault.TheVariants.{Reading, Limit}
use Rattle.format.specs.Depth.{value_depth, instr_depth, instrs_depth, block_depth, stmt_depth, term_depth, cases_depth, opt_block_depth}
use Rattle.format.specs.Readable.{Order, Known, ValFits, InstrFits, InstrsFit, TopFits, OptValFits, InstructionFits, StmtFits, TermFits, CasesFit, OptBlockFits, BlockFits, OnlyReadable, OnlyHeld}
use Rattle.format.specs.Parse.{Cursor, Read, onto, give, word, below, order, case, flag, option, listed, place, op, operators, instr_read, instrs_read, logical_read, conditional_read, sequence_read, optional_read, val_read, value, top_value, begin_statement, begin_value, begin_case, instruction_read, opt_value, targets, label_read, jump_read, leave_read, opt_block, cases_read, switch_read, do_while_read, while_read, for_read, for_of_read, for_in_read, if_read, label_block_read, try_read, term_read, terminal_read, scope_read, stmt_read, stmts_read, block, counters, section}
use Rattle.format.specs.Words.{words}
use Rattle.format.proofs.Took.{Comes, after, weaker, given, refused, case_comes}
use Rattle.format.proofs.Sections.{and_then_ok, to_end_ok, parse_parsed}
use Rattle.format.proofs.Counts.{read_is_within}
use Rattle.format.proofs.Undone.{words_come_back}
use Rattle.format.proofs.Bytes.{file_whole, as_long_as_its_bytes}

-- nothing is asked of what comes
any : {X : Type 0} (r : Read X) → Comes r (λ _ _. Unit {0})
any r = record { so = λ x d e. tt }

tested : (b : Bool) (w : ℕ) (d : Cursor) (e : FileFault) (P : ℕ → Type 0) → (b ≡ true → P w) → Comes (cond b (give w d) (Err e)) (λ v _. P v)
tested true w d e P h = given (h refl)
tested false w d e P h = refused

order_kept : (c : Cursor) → Comes (order c) (λ i _. Order i)
order_kept c = after (any (word c)) (λ w d _. tested (leb w 1000000) w d (Limit c.at) Order (leb-true w 1000000))

below_kept : (n : ℕ) (c : Cursor) → Comes (below n c) (λ w _. w < n)
below_kept n c = after (any (word c)) (λ w d _. tested (ltb w n) w d (Reading c.at) (λ v. v < n) (ltb-true w n))

join : {a b n : ℕ} → a ≤ n → b ≤ n → max a b ≤ n
join h g = omega arith

deeper : {a n : ℕ} → a ≤ n → suc a ≤ suc n
deeper h = omega arith

none : {n : ℕ} → 0 ≤ n
none = omega arith

-- ---- values
payload_kept : (b : Bool) (c : Cursor) → Comes (cond b (below 8 c) (word c)) (λ w _. b ≡ true → w < 8)
payload_kept true c = weaker (below_kept 8 c) (λ w d h e. h)
payload_kept false c = weaker (any (word c)) (λ w d _ e. absurd (let z : ◌≡◌ {A = ℕ} 0 1 = cc in omega arith))

op_kept : (c : Cursor) → Comes (op c) (λ o _. Known o)
unfolding op
op_kept c =
    after (below_kept 42 c) (λ k c₁ h. after (payload_kept (eqb k 4) c₁) (λ m c₂ g. after (any (listed place c₂)) (λ w c₃ _. after (any (listed place c₃)) (λ o c₄ _. after (any (word c₄)) (λ s c₅ _.
    given (record { kind = h; store = λ e. g (eq-eqb k 4 e) }))))))

module _ (n : ℕ) (value : Cursor → Read Val) (kept : (c : Cursor) → Comes (value c) (λ v _. (value_depth v ≤ n) × ValFits v)) where
  instr_kept : (c : Cursor) → Comes (instr_read value c) (λ i _. (instr_depth i ≤ n) × InstrFits i)
  instr_kept c = after (order_kept c) (λ i c₁ h. after (any (option place c₁)) (λ l c₂ _. after (kept c₂) (λ v c₃ g. after (any (word c₃)) (λ s c₄ _. given (g.0, (h, g.1))))))

  instrs_kept : (k : ℕ) (c : Cursor) → Comes (instrs_read value k c) (λ is _. (instrs_depth is ≤ n) × InstrsFit is)
  instrs_kept zero c = given (none, tt)
  instrs_kept (suc k) c = after (any (begin_statement c)) (λ _ c₁ _. after (instr_kept c₁) (λ i c₂ h. after (instrs_kept k c₂) (λ is c₃ g. given (join h.0 g.0, (h.1, g.1)))))

  val_kept : (c : Cursor) → Comes (val_read value c) (λ v _. (value_depth v ≤ suc n) × ValFits v)
  val_kept c =
      case_comes
      ((λ c. onto (op c) (λ o. give (operation o))) ∷ logical_read value ∷ conditional_read value ∷ sequence_read value ∷ optional_read value ∷ [])
      c
      (λ d. (
        λ _. after (op_kept d) (λ o c₁ h. given (deeper none, h)),
        (
          λ _. after (any (case operators d)) (λ o c₁ _. after (kept c₁) (λ a c₂ h. after (kept c₂) (λ b c₃ g. given (deeper (join h.0 g.0), (h.1, g.1))))),
          (
            λ _. after (kept d) (λ t c₁ f. after (kept c₁) (λ a c₂ h. after (kept c₂) (λ b c₃ g. given (deeper (join f.0 (join h.0 g.0)), (f.1, h.1, g.1))))),
            (
              λ _. after (any (word d)) (λ k c₁ _. after (instrs_kept k c₁) (λ is c₂ f. after (order_kept c₂) (λ i c₃ h. after (kept c₃) (λ v c₄ g. given (deeper (join f.0 g.0), (f.1, h, g.1)))))),
              (
                λ _. after (kept d) (λ v c₁ h. after (any (flag c₁)) (λ o c₂ _. given (deeper h.0, h.1))),
                tt,
              ),
            ),
          ),
        ),
      ))

value_kept : (n : ℕ) (c : Cursor) → Comes (value n c) (λ v _. (value_depth v ≤ n) × ValFits v)
value_kept zero c = refused
value_kept (suc n) c = after (any (begin_value c)) (λ _ d _. val_kept n (value n) (value_kept n) d)

top_kept : (c : Cursor) → Comes (top_value c) (λ v _. TopFits v)
unfolding top_value
top_kept c = value_kept 64 c

-- ---- statements
opt_value_kept : (c : Cursor) → Comes (opt_value c) (λ v _. OptValFits v)
opt_value_kept c =
    case_comes (give no_val ∷ (λ c. onto (top_value c) (λ v. give (some_val v))) ∷ []) c
    (λ d. (λ _. given tt, (λ _. after (top_kept d) (λ v c₁ h. given h), tt)))

instruction_kept : (c : Cursor) → Comes (instruction_read c) (λ i _. InstructionFits i)
instruction_kept c = after (order_kept c) (λ i c₁ h. after (any (option place c₁)) (λ l c₂ _. after (top_kept c₂) (λ v c₃ g. after (any (word c₃)) (λ s c₄ _. given (h, g)))))

module _ (n : ℕ) (block : Cursor → Read Block) (kept : (c : Cursor) → Comes (block c) (λ b _. (block_depth b ≤ n) × BlockFits b)) where
  opt_block_kept : (c : Cursor) → Comes (opt_block block c) (λ b _. (opt_block_depth b ≤ n) × OptBlockFits b)
  opt_block_kept c =
      case_comes (give no_block ∷ (λ c. onto (block c) (λ b. give (some_block b))) ∷ []) c
      (λ d. (λ _. given (none, tt), (λ _. after (kept d) (λ b c₁ h. given h), tt)))

  cases_kept : (k : ℕ) (c : Cursor) → Comes (cases_read block k c) (λ cs _. (cases_depth cs ≤ n) × CasesFit cs)
  cases_kept zero c = given (none, tt)
  cases_kept (suc k) c =
      after (any (begin_case c)) (λ _ c₁ _. after (any (option place c₁)) (λ t c₂ _. after (opt_block_kept c₂) (λ b c₃ h. after (cases_kept k c₃) (λ cs c₄ g.
      given (join h.0 g.0, (h.1, g.1))))))

  term_kept : (c : Cursor) → Comes (term_read block c) (λ t _. (term_depth t ≤ n) × TermFits t)
  term_kept c =
      case_comes
      (jump_read break ∷ jump_read continue ∷ leave_read return ∷ leave_read throw ∷ switch_read block ∷ do_while_read block ∷ while_read block ∷ for_read block ∷ for_of_read block ∷ for_in_read block
      ∷ if_read block ∷ label_block_read block ∷ try_read block ∷ [])
      c
      (λ d. (
        λ _. after (any (word d)) (λ l c₁ _. after (order_kept c₁) (λ i c₂ h. after (any (case targets c₂)) (λ k c₃ _. given (none, h)))),
        (
          λ _. after (any (word d)) (λ l c₁ _. after (order_kept c₁) (λ i c₂ h. after (any (case targets c₂)) (λ k c₃ _. given (none, h)))),
          (
            λ _. after (any (place d)) (λ p c₁ _. after (order_kept c₁) (λ i c₂ h. given (none, h))),
            (
              λ _. after (any (place d)) (λ p c₁ _. after (order_kept c₁) (λ i c₂ h. given (none, h))),
              (
                λ _. after (any (place d)) (λ p c₁ _. after (any (word c₁)) (λ k c₂ _. after (cases_kept k c₂) (λ cs c₃ f. after (order_kept c₃) (λ i c₄ h. given (f.0, (f.1, h)))))),
                (
                  λ _. after (kept d) (λ b c₁ f. after (top_kept c₁) (λ v c₂ g. after (order_kept c₂) (λ i c₃ h. given (f.0, (f.1, g, h))))),
                  (
                    λ _. after (top_kept d) (λ v c₁ g. after (kept c₁) (λ b c₂ f. after (order_kept c₂) (λ i c₃ h. given (f.0, (g, f.1, h))))),
                    (
                      λ _. after (top_kept d) (λ x c₁ p. after (top_kept c₁) (λ v c₂ q. after (opt_value_kept c₂) (λ u c₃ r. after (kept c₃) (λ b c₄ f. after (order_kept c₄) (λ i c₅ h. given (f.0, (p, q, r, f.1, h))))))),
                      (
                        λ _. after (top_kept d) (λ x c₁ p. after (top_kept c₁) (λ v c₂ q. after (kept c₂) (λ b c₃ f. after (order_kept c₃) (λ i c₄ h. after (any (word c₄)) (λ s c₅ _. given (f.0, (p, q, f.1, h))))))),
                        (
                          λ _. after (top_kept d) (λ v c₁ p. after (kept c₁) (λ b c₂ f. after (order_kept c₂) (λ i c₃ h. after (any (word c₃)) (λ s c₄ _. given (f.0, (p, f.1, h)))))),
                          (
                            λ _. after (any (place d)) (λ p c₁ _. after (kept c₁) (λ b c₂ f. after (opt_block_kept c₂) (λ x c₃ g. after (order_kept c₃) (λ i c₄ h. given (join f.0 g.0, (f.1, g.1, h)))))),
                            (
                              λ _. after (kept d) (λ b c₁ f. after (order_kept c₁) (λ i c₂ h. given (f.0, (f.1, h)))),
                              (
                                λ _. after (kept d) (λ b c₁ f. after (any (option place c₁)) (λ p c₂ _. after (kept c₂) (λ x c₃ g. after (order_kept c₃) (λ i c₄ h. given (join f.0 g.0, (f.1, g.1, h)))))),
                                tt,
                              ),
                            ),
                          ),
                        ),
                      ),
                    ),
                  ),
                ),
              ),
            ),
          ),
        ),
      ))

  stmt_kept : (c : Cursor) → Comes (stmt_read block c) (λ s _. (stmt_depth s ≤ n) × StmtFits s)
  stmt_kept c =
      case_comes ((λ c. onto (instruction_read c) (λ i. give (instruction i))) ∷ terminal_read block ∷ scope_read block scope ∷ scope_read block pruned ∷ []) c
      (λ d. (
        λ _. after (instruction_kept d) (λ i c₁ h. given (none, h)),
        (
          λ _. after (term_kept d) (λ t c₁ h. after (any (option label_read c₁)) (λ m c₂ _. given h)),
          (
            λ _. after (any (word d)) (λ x c₁ _. after (kept c₁) (λ b c₂ h. given h)),
            (
              λ _. after (any (word d)) (λ x c₁ _. after (kept c₁) (λ b c₂ h. given h)),
              tt,
            ),
          ),
        ),
      ))

  stmts_kept : (k : ℕ) (c : Cursor) → Comes (stmts_read block k c) (λ b _. (block_depth b ≤ suc n) × BlockFits b)
  stmts_kept zero c = given (deeper none, tt)
  stmts_kept (suc k) c =
      after (any (begin_statement c)) (λ _ c₁ _. after (stmt_kept c₁) (λ s c₂ h. after (stmts_kept k c₂) (λ b c₃ g. given (join (deeper h.0) g.0, (h.1, g.1)))))

block_kept : (n : ℕ) (c : Cursor) → Comes (block n c) (λ b _. (block_depth b ≤ n) × BlockFits b)
block_kept zero c = refused
block_kept (suc n) c = after (any (word c)) (λ k d _. stmts_kept n (block n) (block_kept n) k d)

-- ---- the file
counters_kept : (c : Cursor) → Comes (counters c) (λ n _. Order n.blocks × Order n.types × Order n.ranges)
unfolding counters
counters_kept c = after (order_kept c) (λ b c₁ f. after (order_kept c₁) (λ t c₂ g. after (order_kept c₂) (λ r c₃ h. given (f, g, h))))

section_kept : {X : Type 0} (p : Cursor → Read X) (P : X → Type 0) → ((c : Cursor) → Comes (p c) (λ x _. P x)) → (ws : List ℕ) (from to : ℕ) (u : Used) (r : X × Used) → section p ws from to u ≡ Ok r → P r.0
section_kept {X} p P h ws from to u r e =
    let c : Cursor = record { at = from; rest = take (to - from) (drop from ws); used = u } in
    let o = and_then_ok (p c) _ r e in
    let z = to_end_ok o.0.0 o.0.1.at o.0.1.used o.0.1.rest r o.2 in
    subst (λ (q : X × Used). P q.0) z.1 ((h c).so o.0.0 o.0.1 o.1)

pub only_readable : OnlyReadable
only_readable ws F e =
    let p = parse_parsed ws F e in
    let c = section_kept counters (λ n. Order n.blocks × Order n.types × Order n.ranges) counters_kept ws 8 p.e₁ _ (F.counters, p.u₁) p.s₁ in
    let b = section_kept (block 64) (λ b. (block_depth b ≤ 64) × BlockFits b) (block_kept 64) ws p.e₃ p.e₄ p.u₃ (F.body, p.u₄) p.s₄ in
    record { slots = read_is_within ws F e; depth = b.0; blocks = c.0; types = c.1; ranges = c.2; body = b.1 }

words_wide : (bs : List ℕ) → AllByRecursion (λ b. b < 256) bs → AllByRecursion (λ w. w < 4294967296) (words bs)
words_wide [] h = tt
words_wide (a ∷ []) h = tt
words_wide (a ∷ b ∷ []) h = tt
words_wide (a ∷ b ∷ c ∷ []) h = tt
words_wide (a ∷ b ∷ c ∷ d ∷ bs) h =
    let ha : a < 256 = h.0 in
    let hb : b < 256 = h.1.0 in
    let hc : c < 256 = h.1.1.0 in
    let hd : d < 256 = h.1.1.1.0 in
    (omega arith, words_wide bs h.1.1.1.1)

pub only_held : OnlyHeld
only_held bs F h e =
    let w = file_whole bs F e in
    let l = as_long_as_its_bytes bs F e in
    let m = w.most in
    (only_readable (words bs) F w.reads, record { long = omega arith; wide = subst (λ (ws : List ℕ). AllByRecursion (λ w. w < 4294967296) ws) (sym (words_come_back (words bs) F w.reads)) (words_wide bs h) })
