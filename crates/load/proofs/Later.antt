-- Counts only rise as a reading goes on. Assumes nothing.
use Rattle.std.proofs.Common.{◌≡◌, ℕ, zero, suc, ◌+◌, Bool, true, false, cond, eqb, ltb, List, [], ◌∷◌, Some, None, Ok, Err, Result, refl, ap, subst, arith}
use Rattle.hir.specs.declared.place.Place.{Place}
use Rattle.hir.specs.declared.terminal.ReactiveTerminalTargetKind.{ReactiveTerminalTargetKind}
use Rattle.hir.specs.declared.used.Used.{Used}
use Rattle.hir.specs.Tree.{Term}
use Rattle.hir.specs.Limits.{Within}
use Rattle.hir.specs.Options.{nth}
use Rattle.format.specs.declared.fault.FileFault.{FileFault}
use Rattle.format.specs.Parse.{Cursor, Read, onto, give, next_of, word, below, order, chosen, case, flag, option, counted, begin_statement, begin_value, begin_place, begin_case, effects, place, payload, operators, targets, label_read, jump_read, leave_read, begin_identifier, begin_scope, begin_declaration, names, identifier, declaration, early_read}

pub err_ok : {X : Type 0} {e : FileFault} {x : X} → Err e ≡ Ok x → ⊥
err_ok h = let z : ◌≡◌ {A = ℕ} 0 1 = cc in omega arith

pub ok_ok : {X : Type 0} {x y : X} → ◌≡◌ {A = Result X FileFault} (Ok x) (Ok y) → x ≡ y
ok_ok h = cc

-- how a reading that came out went
pub onto_ok : {X Y : Type 0} (r : Read X) (f : X → Cursor → Read Y) (y : Y × Cursor) → onto r f ≡ Ok y → (p : X × Cursor) × (r ≡ Ok p) × (f p.0 p.1 ≡ Ok y)
onto_ok (Ok p) f y e = (p, refl, e)
onto_ok (Err x) f y e = absurd (err_ok e)

pub within_same : (u : Used) → Within u u
within_same u =
    record { statements = omega arith; values = omega arith; places = omega arith; identifiers = omega arith; scopes = omega arith; declarations = omega arith; cases = omega arith }

pub within_more : {u v w : Used} → Within u v → Within v w → Within u w
within_more {u} {v} {w} a b =
    record {
      statements = omega (arith, a.statements, b.statements);
      values = omega (arith, a.values, b.values);
      places = omega (arith, a.places, b.places);
      identifiers = omega (arith, a.identifiers, b.identifiers);
      scopes = omega (arith, a.scopes, b.scopes);
      declarations = omega (arith, a.declarations, b.declarations);
      cases = omega (arith, a.cases, b.cases);
    }

-- what comes out of the reading counts no less than u
abbrev pub From : {X : Type 0} → Used → Read X → Type 0
From {X} u r = (q : X × Cursor) → r ≡ Ok q → Within u q.1.used

abbrev pub Later : {X : Type 0} → (Cursor → Read X) → Type 0
Later {X} p = (c : Cursor) → From c.used (p c)

pub onto_later : {X Y : Type 0} (u : Used) (r : Read X) (f : X → Cursor → Read Y) → From u r → ((x : X) → Later (f x)) → From u (onto r f)
onto_later u (Ok p) f h k y e = within_more (h p refl) (k p.0 p.1 y e)
onto_later u (Err x) f h k y e = absurd (err_ok e)

pub give_later : {X : Type 0} (x : X) → Later (give x)
give_later {X} x c q e = subst (λ (p : X × Cursor). Within c.used p.1.used) (ok_ok e) (within_same _)

cond_later : {X : Type 0} (u : Used) (b : Bool) (r : Read X) (x : FileFault) → From u r → From u (cond b r (Err x))
cond_later u true r x h q e = h q e
cond_later u false r x h q e = absurd (err_ok e)

next_later : (at : ℕ) (u : Used) (ws : List ℕ) → From u (next_of at u ws)
next_later at u [] q e = absurd (err_ok e)
next_later at u (w ∷ ws) q e = subst (λ (p : ℕ × Cursor). Within u p.1.used) (ok_ok e) (within_same _)

pub word_later : Later word
word_later c = next_later c.at c.used c.rest

pub below_later : (n : ℕ) → Later (below n)
below_later n c = onto_later c.used (word c) _ (word_later c) (λ w d. cond_later d.used (ltb w n) (give w d) _ (give_later w d))

pub order_later : Later order
order_later c = onto_later c.used (word c) _ (word_later c) (λ w d. cond_later d.used _ (give w d) _ (give_later w d))

-- of each case
abbrev pub AllLater : {X : Type 0} → List (Cursor → Read X) → Type 0
AllLater [] = Unit {0}
AllLater (p ∷ ps) = Later p × AllLater ps

chosen_later : {X : Type 0} (ps : List (Cursor → Read X)) → AllLater ps → (w at : ℕ) → Later (λ d. chosen (nth ps w) at d)
chosen_later [] h w at d q e = absurd (err_ok e)
chosen_later (p ∷ ps) h zero at d q e = h.0 d q e
chosen_later (p ∷ ps) h (suc w) at d q e = chosen_later ps h.1 w at d q e

pub case_later : {X : Type 0} (ps : List (Cursor → Read X)) → AllLater ps → Later (case ps)
case_later ps h c = onto_later c.used (word c) _ (word_later c) (λ w. chosen_later ps h w c.at)

pub flag_later : Later flag
flag_later = case_later (give false ∷ give true ∷ []) (give_later false, (give_later true, tt))

pub option_later : {X : Type 0} (p : Cursor → Read X) → Later p → Later (option p)
option_later p h = case_later (give None ∷ (λ c. onto (p c) (λ x. give (Some x))) ∷ []) (give_later _, ((λ c. onto_later c.used (p c) _ (h c) (λ x. give_later _)), tt))

pub operators_later : Later (case operators)
operators_later = case_later operators (give_later _, (give_later _, (give_later _, tt)))

pub targets_later : Later (case targets)
targets_later = case_later targets (give_later _, (give_later _, (give_later _, tt)))

effects_later : Later (case effects)
effects_later =
    case_later effects (give_later _, (give_later _, (give_later _, (give_later _, (give_later _, (give_later _, (give_later _, (give_later _, tt))))))))

-- an item that began counts
pub counted_used : (b : Bool) (u : Used) (c : Cursor) (q : Unit {0} × Cursor) → counted b u c ≡ Ok q → u ≡ q.1.used
counted_used true u c q e = ap (λ p. p.1.used) (ok_ok e)
counted_used false u c q e = absurd (err_ok e)

-- one statement, value, place or case more
abbrev pub statement_more : Used → Used
statement_more u = record { statements = u.statements + 1; values = u.values; places = u.places; identifiers = u.identifiers; scopes = u.scopes; declarations = u.declarations; cases = u.cases }

abbrev pub value_more : Used → Used
value_more u = record { statements = u.statements; values = u.values + 1; places = u.places; identifiers = u.identifiers; scopes = u.scopes; declarations = u.declarations; cases = u.cases }

abbrev pub place_more : Used → Used
place_more u = record { statements = u.statements; values = u.values; places = u.places + 1; identifiers = u.identifiers; scopes = u.scopes; declarations = u.declarations; cases = u.cases }

abbrev pub case_more : Used → Used
case_more u = record { statements = u.statements; values = u.values; places = u.places; identifiers = u.identifiers; scopes = u.scopes; declarations = u.declarations; cases = u.cases + 1 }

within_is : {u v : Used} → u ≡ v → Within u v
within_is {u} e = subst (λ (v : Used). Within u v) e (within_same u)

pub statement_begun : (c : Cursor) → From (statement_more c.used) (begin_statement c)
statement_begun c q e = within_is (counted_used _ _ c q e)

pub value_begun : (c : Cursor) → From (value_more c.used) (begin_value c)
value_begun c q e = within_is (counted_used _ _ c q e)

pub place_begun : (c : Cursor) → From (place_more c.used) (begin_place c)
place_begun c q e = within_is (counted_used _ _ c q e)

pub case_begun : (c : Cursor) → From (case_more c.used) (begin_case c)
case_begun c q e = within_is (counted_used _ _ c q e)

pub place_counted : (c : Cursor) → From (place_more c.used) (place c)
unfolding place
place_counted c =
    onto_later _ (begin_place c) _ (place_begun c) (λ _ c₁. onto_later _ (word c₁) _ (word_later c₁) (λ i c₂. onto_later _ (case effects c₂) _ (effects_later c₂) (λ e c₃. onto_later _ (flag c₃) _ (flag_later c₃) (λ r c₄. onto_later _ (word c₄) _ (word_later c₄) (λ s. give_later _)))))

pub place_later : Later place
place_later c q e =
    let h = place_counted c q e in
    record { statements = h.statements; values = h.values; places = omega (arith, h.places); identifiers = h.identifiers; scopes = h.scopes; declarations = h.declarations; cases = h.cases }

pub payload_later : (k : ℕ) → Later (payload k)
payload_later k c = go (eqb k 4)
  where
    go : (b : Bool) → From c.used (cond b (below 8 c) (word c))
    go true = below_later 8 c
    go false = word_later c

pub label_later : Later label_read
label_later c = onto_later _ (word c) _ (word_later c) (λ l c₁. onto_later _ (flag c₁) _ (flag_later c₁) (λ i. give_later _))

pub jump_later : (make : ℕ → ℕ → ReactiveTerminalTargetKind → Term) → Later (jump_read make)
jump_later make c = onto_later _ (word c) _ (word_later c) (λ l c₁. onto_later _ (order c₁) _ (order_later c₁) (λ i c₂. onto_later _ (case targets c₂) _ (targets_later c₂) (λ k. give_later _)))

pub leave_later : (make : Place → ℕ → Term) → Later (leave_read make)
leave_later make c = onto_later _ (place c) _ (place_later c) (λ p c₁. onto_later _ (order c₁) _ (order_later c₁) (λ i. give_later _))

-- ---- the tables
abbrev pub identifier_more : Used → Used
identifier_more u = record { statements = u.statements; values = u.values; places = u.places; identifiers = u.identifiers + 1; scopes = u.scopes; declarations = u.declarations; cases = u.cases }

abbrev pub scope_more : Used → Used
scope_more u = record { statements = u.statements; values = u.values; places = u.places; identifiers = u.identifiers; scopes = u.scopes + 1; declarations = u.declarations; cases = u.cases }

abbrev pub declaration_more : Used → Used
declaration_more u = record { statements = u.statements; values = u.values; places = u.places; identifiers = u.identifiers; scopes = u.scopes; declarations = u.declarations + 1; cases = u.cases }

identifier_begun : (c : Cursor) → From (identifier_more c.used) (begin_identifier c)
identifier_begun c q e = within_is (counted_used _ _ c q e)

pub scope_begun : (c : Cursor) → From (scope_more c.used) (begin_scope c)
scope_begun c q e = within_is (counted_used _ _ c q e)

declaration_begun : (c : Cursor) → From (declaration_more c.used) (begin_declaration c)
declaration_begun c q e = within_is (counted_used _ _ c q e)

names_later : Later (case names)
names_later =
    case_later names ((λ c. onto_later _ (word c) _ (word_later c) (λ n. give_later _)), ((λ c. onto_later _ (word c) _ (word_later c) (λ n. give_later _)), tt))

pub identifier_counted : (c : Cursor) → From (identifier_more c.used) (identifier c)
unfolding identifier
identifier_counted c =
    onto_later _ (begin_identifier c) _ (identifier_begun c) (λ _ c₁. onto_later _ (word c₁) _ (word_later c₁) (λ d c₂. onto_later _ (option (case names) c₂) _ (option_later (case names) names_later c₂) (λ n c₃.
    onto_later _ (word c₃) _ (word_later c₃) (λ r c₄. onto_later _ (option word c₄) _ (option_later word word_later c₄) (λ s c₅. onto_later _ (word c₅) _ (word_later c₅) (λ k c₆. onto_later _ (word c₆) _ (word_later c₆) (λ p. give_later _)))))))

pub declaration_counted : (c : Cursor) → From (declaration_more c.used) (declaration c)
unfolding declaration
declaration_counted c =
    onto_later _ (begin_declaration c) _ (declaration_begun c) (λ _ c₁. onto_later _ (word c₁) _ (word_later c₁) (λ k c₂. onto_later _ (word c₂) _ (word_later c₂) (λ i c₃. onto_later _ (word c₃) _ (word_later c₃) (λ s. give_later _))))

pub early_later : Later early_read
early_later c =
    onto_later _ (word c) _ (word_later c) (λ v c₁. onto_later _ (word c₁) _ (word_later c₁) (λ s c₂. onto_later _ (word c₂) _ (word_later c₂) (λ l. give_later _)))
