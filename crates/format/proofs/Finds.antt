-- What stands in front of a reading is found by it, where there is room. One lemma for each way of joining readings.
-- Assumes nothing.
use Rattle.std.proofs.Common.{◌≡◌, ℕ, ◌+◌, ◌<◌, ◌≤◌, Bool, true, false, cond, List, [], ◌∷◌, ◌++◌, length, Some, None, Ok, Err, Option, sym, refl, ap, ◌∙◌, subst, append_assoc, arith, lt-ltb, le-leb}
use Rattle.hir.specs.declared.used.Used.{Used}
use Rattle.hir.specs.Encode.{option_words, items_words, list_words}
use Rattle.hir.specs.Limits.{Within, limits}
use Rattle.hir.specs.Numbers.{flag_number}
use Rattle.hir.specs.Options.{nth}
use Rattle.hir.specs.Sizes.{none, plus}
use Rattle.format.specs.declared.fault.FileFault.TheVariants.{Reading, Limit}
use Rattle.format.specs.Parse.{Cursor, Read, onto, give, next_of, word, below, order, chosen, case, flag, option, times, listed, counted}
use Rattle.format.proofs.Took.{plus_assoc, plus_none, opt_size, items_size}

-- the words ws stand at the cursor, in front of vs, and there is room for the slots s
pub record Faces (c : Cursor) (ws vs : List ℕ) (s : Used) : Type 0 where
  pub rest : c.rest ≡ ws ++ vs
  pub room : Within (plus c.used s) limits

-- the same where no slot is wanted
pub record Shows (c : Cursor) (ws vs : List ℕ) : Type 0 where
  pub rest : c.rest ≡ ws ++ vs

-- the reading gives x, stops in front of vs, and has taken s from c on
pub record Finds {X : Type 0} (r : Read X) (x : X) (c : Cursor) (vs : List ℕ) (s : Used) : Type 0 where
  pub to : Cursor
  pub is : r ≡ Ok (x, to)
  pub rest : to.rest ≡ vs
  pub used : to.used ≡ plus c.used s

pub record Sees {X : Type 0} (r : Read X) (x : X) (c : Cursor) (vs : List ℕ) : Type 0 where
  pub to : Cursor
  pub is : r ≡ Ok (x, to)
  pub rest : to.rest ≡ vs
  pub used : to.used ≡ c.used

room_first : (u a b : Used) → Within (plus u (plus a b)) limits → Within (plus u a) limits
room_first u a b w =
    record { statements = omega (arith, w.statements); values = omega (arith, w.values); places = omega (arith, w.places); identifiers = omega (arith, w.identifiers); scopes = omega (arith, w.scopes); declarations = omega (arith, w.declarations); cases = omega (arith, w.cases) }

-- ---- one after the other
pub both : {X Y : Type 0} {r : Read X} {x : X} {y : Y} {c : Cursor} (f : X → Cursor → Read Y) (ws : List ℕ) {ws' vs : List ℕ} {s t : Used} → Faces c (ws ++ ws') vs (plus s t) → (Faces c ws (ws' ++ vs) s → Finds r x c (ws' ++ vs) s) → ((d : Cursor) → Faces d ws' vs t → Finds (f x d) y d vs t) → Finds (onto r f) y c vs (plus s t)
both {r} {x} {y} {c} f ws {ws'} {vs} {s} {t} h k l =
    let a = k (record { rest = h.rest ∙ append_assoc ws ws' vs; room = room_first c.used s t h.room }) in
    let d = a.to in
    let b = l d (record { rest = a.rest; room = subst (λ (u : Used). Within u limits) (sym (ap (λ u. plus u t) a.used ∙ plus_assoc c.used s t)) h.room }) in
    record { to = b.to; is = ap (λ q. onto q f) a.is ∙ b.is; rest = b.rest; used = b.used ∙ ap (λ u. plus u t) a.used ∙ plus_assoc c.used s t }

pub then : {X Y : Type 0} {r : Read X} {x : X} {y : Y} {c : Cursor} (f : X → Cursor → Read Y) (ws : List ℕ) {ws' vs : List ℕ} {t : Used} → Faces c (ws ++ ws') vs t → (Shows c ws (ws' ++ vs) → Sees r x c (ws' ++ vs)) → ((d : Cursor) → Faces d ws' vs t → Finds (f x d) y d vs t) → Finds (onto r f) y c vs t
then {r} {x} {y} {c} f ws {ws'} {vs} {t} h k l =
    let a = k (record { rest = h.rest ∙ append_assoc ws ws' vs }) in
    let d = a.to in
    let b = l d (record { rest = a.rest; room = subst (λ (u : Used). Within u limits) (sym (ap (λ u. plus u t) a.used)) h.room }) in
    record { to = b.to; is = ap (λ q. onto q f) a.is ∙ b.is; rest = b.rest; used = b.used ∙ ap (λ u. plus u t) a.used }

pub ends : {X Y : Type 0} {r : Read X} {x : X} {y : Y} {c : Cursor} (f : X → Cursor → Read Y) (ws : List ℕ) {ws' vs : List ℕ} {s : Used} → Faces c (ws ++ ws') vs s → (Faces c ws (ws' ++ vs) s → Finds r x c (ws' ++ vs) s) → ((d : Cursor) → Shows d ws' vs → Sees (f x d) y d vs) → Finds (onto r f) y c vs s
ends {r} {x} {y} {c} f ws {ws'} {vs} {s} h k l =
    let a = k (record { rest = h.rest ∙ append_assoc ws ws' vs; room = h.room }) in
    let d = a.to in
    let b = l d (record { rest = a.rest }) in
    record { to = b.to; is = ap (λ q. onto q f) a.is ∙ b.is; rest = b.rest; used = b.used ∙ a.used }

pub on : {X Y : Type 0} {r : Read X} {x : X} {y : Y} {c : Cursor} (f : X → Cursor → Read Y) (ws : List ℕ) {ws' vs : List ℕ} → Shows c (ws ++ ws') vs → (Shows c ws (ws' ++ vs) → Sees r x c (ws' ++ vs)) → ((d : Cursor) → Shows d ws' vs → Sees (f x d) y d vs) → Sees (onto r f) y c vs
on {r} {x} {y} {c} f ws {ws'} {vs} h k l =
    let a = k (record { rest = h.rest ∙ append_assoc ws ws' vs }) in
    let d = a.to in
    let b = l d (record { rest = a.rest }) in
    record { to = b.to; is = ap (λ q. onto q f) a.is ∙ b.is; rest = b.rest; used = b.used ∙ a.used }

-- what was read is made into the whole
pub made : {X Y : Type 0} {r : Read X} {x : X} {y : Y} {c : Cursor} {vs : List ℕ} {s : Used} (f : X → Cursor → Read Y) → Finds r x c vs s → ((d : Cursor) → f x d ≡ Ok (y, d)) → Finds (onto r f) y c vs s
made f a e = record { to = a.to; is = ap (λ q. onto q f) a.is ∙ e a.to; rest = a.rest; used = a.used }

pub formed : {X Y : Type 0} {r : Read X} {x : X} {y : Y} {c : Cursor} {vs : List ℕ} (f : X → Cursor → Read Y) → Sees r x c vs → ((d : Cursor) → f x d ≡ Ok (y, d)) → Sees (onto r f) y c vs
formed f a e = record { to = a.to; is = ap (λ q. onto q f) a.is ∙ e a.to; rest = a.rest; used = a.used }

-- where no slot is wanted
pub plain : {c : Cursor} {ws vs : List ℕ} {s : Used} → Faces c ws vs s → Shows c ws vs
plain h = record { rest = h.rest }

pub nothing : {X : Type 0} {r : Read X} {x : X} {c : Cursor} {vs : List ℕ} → Sees r x c vs → Finds r x c vs none
nothing {c} a = record { to = a.to; is = a.is; rest = a.rest; used = a.used ∙ sym (plus_none c.used) }

pub given : {X : Type 0} {x : X} {c : Cursor} {vs : List ℕ} → Shows c [] vs → Sees (give x c) x c vs
given {c} h = record { to = c; is = refl; rest = h.rest; used = refl }

pub faces_sized : {c : Cursor} {ws vs : List ℕ} {s t : Used} → s ≡ t → Faces c ws vs s → Faces c ws vs t
faces_sized {c} {ws} {vs} e h = subst (λ (u : Used). Faces c ws vs u) e h

pub finds_sized : {X : Type 0} {r : Read X} {x : X} {c : Cursor} {vs : List ℕ} {s t : Used} → s ≡ t → Finds r x c vs s → Finds r x c vs t
finds_sized {r} {x} {c} {vs} e h = subst (λ (u : Used). Finds r x c vs u) e h

-- ---- a word, and a choice by its number
pub word_sees : {c : Cursor} {w : ℕ} {vs : List ℕ} → Shows c (w ∷ []) vs → Sees (word c) w c vs
word_sees {c} {w} {vs} h = record { to = record { at = c.at + 1; rest = vs; used = c.used }; is = ap (next_of c.at c.used) h.rest; rest = refl; used = refl }

pub below_sees : (n : ℕ) {c : Cursor} {w : ℕ} {vs : List ℕ} → w < n → Shows c (w ∷ []) vs → Sees (below n c) w c vs
below_sees n {c} {w} b h = formed _ (word_sees h) (λ d. ap (λ t. cond t (give w d) (Err (Reading c.at))) (lt-ltb w n b))

pub order_sees : {c : Cursor} {w : ℕ} {vs : List ℕ} → w ≤ 1000000 → Shows c (w ∷ []) vs → Sees (order c) w c vs
order_sees {c} {w} b h = formed _ (word_sees h) (λ d. ap (λ t. cond t (give w d) (Err (Limit c.at))) (le-leb w 1000000 b))

pub case_finds : {X : Type 0} (ps : List (Cursor → Read X)) (n : ℕ) {p : Cursor → Read X} {x : X} {c : Cursor} {ws vs : List ℕ} {s : Used} → nth ps n ≡ Some p → Faces c (n ∷ ws) vs s → ((d : Cursor) → Faces d ws vs s → Finds (p d) x d vs s) → Finds (case ps c) x c vs s
case_finds ps n {p} {x} {c} {ws} {vs} {s} e h k =
    then _ (n ∷ []) h word_sees (λ d f. let a = k d f in record { to = a.to; is = ap (λ o. chosen o c.at d) e ∙ a.is; rest = a.rest; used = a.used })

pub case_sees : {X : Type 0} (ps : List (Cursor → Read X)) (n : ℕ) {p : Cursor → Read X} {x : X} {c : Cursor} {ws vs : List ℕ} → nth ps n ≡ Some p → Shows c (n ∷ ws) vs → ((d : Cursor) → Shows d ws vs → Sees (p d) x d vs) → Sees (case ps c) x c vs
case_sees ps n {p} {x} {c} {ws} {vs} e h k =
    on _ (n ∷ []) h word_sees (λ d f. let a = k d f in record { to = a.to; is = ap (λ o. chosen o c.at d) e ∙ a.is; rest = a.rest; used = a.used })

pub flag_sees : (f : Bool) {c : Cursor} {vs : List ℕ} → Shows c (flag_number f ∷ []) vs → Sees (flag c) f c vs
flag_sees false h = case_sees (give false ∷ give true ∷ []) 0 refl h (λ d. given)
flag_sees true h = case_sees (give false ∷ give true ∷ []) 1 refl h (λ d. given)

-- ---- options and lists
module _ {X : Type 0} (p : Cursor → Read X) (w : X → List ℕ) where
  pub option_finds : (s : X → Used) → ((x : X) (c : Cursor) (vs : List ℕ) → Faces c (w x) vs (s x) → Finds (p c) x c vs (s x)) → (o : Option X) (c : Cursor) (vs : List ℕ) → Faces c (option_words w o) vs (opt_size s o) → Finds (option p c) o c vs (opt_size s o)
  option_finds s find None c vs h = nothing (case_sees (give None ∷ (λ c. onto (p c) (λ x. give (Some x))) ∷ []) 0 refl (plain h) (λ d. given))
  option_finds s find (Some x) c vs h = case_finds (give None ∷ (λ c. onto (p c) (λ x. give (Some x))) ∷ []) 1 refl h (λ d f. made _ (find x _ _ f) (λ e. refl))

  pub option_sees : ((x : X) (c : Cursor) (vs : List ℕ) → Shows c (w x) vs → Sees (p c) x c vs) → (o : Option X) (c : Cursor) (vs : List ℕ) → Shows c (option_words w o) vs → Sees (option p c) o c vs
  option_sees see None c vs h = case_sees (give None ∷ (λ c. onto (p c) (λ x. give (Some x))) ∷ []) 0 refl h (λ d. given)
  option_sees see (Some x) c vs h = case_sees (give None ∷ (λ c. onto (p c) (λ x. give (Some x))) ∷ []) 1 refl h (λ d f. formed _ (see x _ _ f) (λ e. refl))

  module _ (s : X → Used) (find : (x : X) (c : Cursor) (vs : List ℕ) → Faces c (w x) vs (s x) → Finds (p c) x c vs (s x)) where
    times_finds : {c : Cursor} {vs : List ℕ} (xs : List X) → Faces c (items_words w xs) vs (items_size s xs) → Finds (times p (length xs) c) xs c vs (items_size s xs)
    times_finds [] h = nothing (given (plain h))
    times_finds (x ∷ xs) h = both _ (w x) h (find x _ _) (λ d f. made _ (times_finds xs f) (λ e. refl))

    pub listed_finds : (xs : List X) (c : Cursor) (vs : List ℕ) → Faces c (list_words w xs) vs (items_size s xs) → Finds (listed p c) xs c vs (items_size s xs)
    listed_finds xs c vs h = then _ (length xs ∷ []) h word_sees (λ d f. times_finds xs f)

-- ---- an item that begins, and counts
pub counted_finds : (b : Bool) (u s : Used) {c : Cursor} {vs : List ℕ} → b ≡ true → plus c.used s ≡ u → Faces c [] vs s → Finds (counted b u c) tt c vs s
counted_finds b u s {c} e q h =
    record { to = record { at = c.at; rest = c.rest; used = u }; is = ap (λ t. counted t u c) e; rest = h.rest; used = sym q }
