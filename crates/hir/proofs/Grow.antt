-- What slots stand for stays when the tables grow, and what is added stands for what it was made of. Assumes nothing.
use Rattle.std.proofs.Common.{◌≡◌, ℕ, zero, suc, ◌+◌, ◌≤◌, Bool, true, false, cond, leb, List, [], ◌∷◌, ◌++◌, length, take, drop, Some, None, Option, sym, refl, ap, ◌∙◌, ap₂, append_assoc, append-nil, arith, length-append, le-leb, leb-true}
use Rattle.std.proofs.lemmas.List.{drop-append-le, take-append-le, length-drop, drop_at, take_all}
use Rattle.hir.specs.declared.range.Range.{Range}
use Rattle.hir.specs.declared.value.ReactiveValue.{ReactiveValue}
use Rattle.hir.specs.declared.value.ReactiveValue.TheVariants.{Instruction as Inst, LogicalExpression, ConditionalExpression, SequenceExpression, OptionalExpression}
use Rattle.hir.specs.declared.statement.ReactiveStatement.{ReactiveStatement}
use Rattle.hir.specs.declared.statement.ReactiveStatement.TheVariants.{Instruction, Terminal, Scope, PrunedScope}
use Rattle.hir.specs.declared.terminal.ReactiveTerminal.TheVariants.{Break, Continue, Return, Throw, Switch, DoWhile, While, For, ForOf, ForIn, If, Label, Try}
use Rattle.hir.specs.Options.{bind, nth, part}
use Rattle.hir.specs.Grows.{Grows, ValuesGrow, SlotsGrow}
use Rattle.hir.specs.Decode.{ValueSlots, Slots, op_of, instr_of, instrs_of, val_of, value_of, top_value, opt_value_of, opt_block_of, cases_of, term_of, stmt_of, body_of, slot_of, block_of}
use Rattle.hir.specs.Tree.{Val, Stmt, Block}

pub none_some : {X : Type 0} {x : X} → None ≡ Some x → ⊥
none_some e = let z : ◌≡◌ {A = ℕ} 0 1 = cc in omega arith

-- what a `bind` that came out was made of
pub bound : {X Y : Type 0} (o : Option X) (f : X → Option Y) (y : Y) → bind o f ≡ Some y → (x : X) × (o ≡ Some x) × (f x ≡ Some y)
bound None f y e = absurd (none_some e)
bound (Some x) f y e = (x, refl, e)

-- g answers wherever f does, and the same
abbrev pub Under : {X Y : Type 0} → (X → Option Y) → (X → Option Y) → Type 0
Under {X} {Y} f g = (x : X) (y : Y) → f x ≡ Some y → g x ≡ Some y

pub same_under : {X Y : Type 0} (f : X → Option Y) → Under f f
same_under f x y e = e

pub bind_under : {X Y : Type 0} (o p : Option X) (f g : X → Option Y) (y : Y) → ((x : X) → o ≡ Some x → p ≡ Some x) → Under f g → bind o f ≡ Some y → bind p g ≡ Some y
bind_under o p f g y more under e =
    let b = bound o f y e in
    ap (λ q. bind q g) (more b.0 b.1) ∙ under b.0 y b.2

-- ---- lists that have grown
pub grows_same : {X : Type 0} {xs ys : List X} → ys ≡ xs → Grows xs ys
grows_same e = record { more = []; is = e ∙ sym (append-nil _) }

pub grows_more : {X : Type 0} {xs ys zs : List X} → Grows xs ys → Grows ys zs → Grows xs zs
grows_more {xs = xs} g h =
    record { more = g.more ++ h.more; is = h.is ∙ ap (λ l. l ++ h.more) g.is ∙ append_assoc xs g.more h.more }

pub values_same : (a : ValueSlots) → ValuesGrow a a
values_same a = record { values = grows_same refl; instructions = grows_same refl; places = grows_same refl }

pub values_more : {a b c : ValueSlots} → ValuesGrow a b → ValuesGrow b c → ValuesGrow a c
values_more g h =
    record { values = grows_more g.values h.values; instructions = grows_more g.instructions h.instructions; places = grows_more g.places h.places }

pub slots_same : (a : Slots) → SlotsGrow a a
slots_same a = record { inner = values_same a.inner; statements = grows_same refl; entries = grows_same refl; cases = grows_same refl }

pub slots_more : {a b c : Slots} → SlotsGrow a b → SlotsGrow b c → SlotsGrow a c
slots_more g h =
    record {
      inner = values_more g.inner h.inner;
      statements = grows_more g.statements h.statements;
      entries = grows_more g.entries h.entries;
      cases = grows_more g.cases h.cases;
    }

nth_under : {X : Type 0} (xs ys : List X) → Under (nth xs) (nth (xs ++ ys))
nth_under [] ys k x e = absurd (none_some e)
nth_under (z ∷ xs) ys zero x e = e
nth_under (z ∷ xs) ys (suc k) x e = nth_under xs ys k x e

pub nth_grows : {X : Type 0} {xs ys : List X} → Grows xs ys → Under (nth xs) (nth ys)
nth_grows {xs = xs} g k x e = ap (λ l. nth l k) g.is ∙ nth_under xs g.more k x e

-- a `cond` that came out took its first way
pub held_cond : {Y : Type 0} (b : Bool) (o : Option Y) (y : Y) → cond b o None ≡ Some y → (b ≡ true) × (o ≡ Some y)
held_cond true o y e = (refl, e)
held_cond false o y e = absurd (none_some e)

part_grown : {X : Type 0} (start count : ℕ) (es fs : List X) → start + count ≤ length es → take count (drop start (es ++ fs)) ≡ take count (drop start es)
part_grown start count es fs h =
    let a : start ≤ length es = omega arith in
    let b : count ≤ length (drop start es) = simp length-drop (omega arith) in
    rw (drop-append-le, take-append-le)

part_under : {X : Type 0} (xs ys : List X) → Under (part xs) (part (xs ++ ys))
part_under xs ys r l e =
    let h = held_cond (leb (r.start + r.count) (length xs)) _ l e in
    let inside : r.start + r.count ≤ length xs = leb-true _ _ h.0 in
    let inside' : r.start + r.count ≤ length (xs ++ ys) = simp length-append (omega arith) in
    rw (le-leb _ _ inside', part_grown r.start r.count xs ys inside) h.1

pub part_grows : {X : Type 0} {xs ys : List X} → Grows xs ys → Under (part xs) (part ys)
part_grows {xs = xs} g r l e = ap (λ l. part l r) g.is ∙ part_under xs g.more r l e

-- ---- values
pub op_under : (a b : ValueSlots) → ValuesGrow a b → Under (op_of a) (op_of b)
op_under a b g v o e =
    bind_under (part a.places v.written) (part b.places v.written) _ _ o (part_grows g.places v.written) (λ w z h.
    bind_under (part a.places v.operands) (part b.places v.operands) _ _ z (part_grows g.places v.operands) (λ _ _ k. k) h) e

pub instr_under : (f g : ℕ → Option Val) → Under f g → Under (instr_of f) (instr_of g)
instr_under f g u i x e = bind_under (f i.value) (g i.value) _ _ x (u i.value) (λ _ _ k. k) e

pub instrs_under : (f g : ℕ → Option Val) → Under f g → Under (instrs_of f) (instrs_of g)
instrs_under f g u [] xs e = e
instrs_under f g u (i ∷ is) xs e =
    bind_under (instr_of f i) (instr_of g i) _ _ xs (instr_under f g u i) (λ x z h. bind_under (instrs_of f is) (instrs_of g is) _ _ z (instrs_under f g u is) (λ _ _ k. k) h) e

pub val_under : (a b : ValueSlots) → ValuesGrow a b → (f g : ℕ → Option Val) → Under f g → Under (val_of a f) (val_of b g)
val_under a b s f g u (Inst v) x e = bind_under (op_of a v) (op_of b v) _ _ x (op_under a b s v) (λ _ _ k. k) e
val_under a b s f g u (LogicalExpression o l r) x e =
    bind_under (f l) (g l) _ _ x (u l) (λ _ z h. bind_under (f r) (g r) _ _ z (u r) (λ _ _ k. k) h) e
val_under a b s f g u (ConditionalExpression t l r) x e =
    bind_under (f t) (g t) _ _ x (u t) (λ _ z h. bind_under (f l) (g l) _ _ z (u l) (λ _ y k. bind_under (f r) (g r) _ _ y (u r) (λ _ _ q. q) k) h) e
val_under a b s f g u (SequenceExpression is i v) x e =
    bind_under (part a.instructions is) (part b.instructions is) _ _ x (part_grows s.instructions is) (λ l z h.
    bind_under (instrs_of f l) (instrs_of g l) _ _ z (instrs_under f g u l) (λ _ y k. bind_under (f v) (g v) _ _ y (u v) (λ _ _ q. q) k) h) e
val_under a b s f g u (OptionalExpression v o) x e = bind_under (f v) (g v) _ _ x (u v) (λ _ _ k. k) e

pub value_grows : (d : ℕ) (a b : ValueSlots) → ValuesGrow a b → Under (value_of d a) (value_of d b)
value_grows zero a b s k x e = e
value_grows (suc d) a b s k x e =
    bind_under (nth a.values k) (nth b.values k) _ _ x (nth_grows s.values k) (val_under a b s _ _ (value_grows d a b s)) e

pub top_grows : (a b : ValueSlots) → ValuesGrow a b → Under (top_value a) (top_value b)
unfolding top_value
top_grows a b s = value_grows 64 a b s

-- ---- statements
module _ (f g : ℕ → Option Val) (p q : Range → Option Block) (u : Under f g) (w : Under p q) where
  pub opt_value_under : Under (opt_value_of f) (opt_value_of g)
  opt_value_under None x e = e
  opt_value_under (Some k) x e = bind_under (f k) (g k) _ _ x (u k) (λ _ _ h. h) e

  pub opt_block_under : Under (opt_block_of p) (opt_block_of q)
  opt_block_under None x e = e
  opt_block_under (Some r) x e = bind_under (p r) (q r) _ _ x (w r) (λ _ _ h. h) e

  pub cases_under : Under (cases_of p) (cases_of q)
  cases_under [] x e = e
  cases_under (c ∷ cs) x e =
      bind_under (opt_block_of p c.block) (opt_block_of q c.block) _ _ x (opt_block_under c.block) (λ _ z h.
      bind_under (cases_of p cs) (cases_of q cs) _ _ z (cases_under cs) (λ _ _ k. k) h) e

  pub term_under : (a b : Slots) → SlotsGrow a b → Under (term_of a f p) (term_of b g q)
  term_under a b s (Break l i k) x e = e
  term_under a b s (Continue l i k) x e = e
  term_under a b s (Return r i) x e = e
  term_under a b s (Throw r i) x e = e
  term_under a b s (Switch r cs i) x e =
      bind_under (part a.cases cs) (part b.cases cs) _ _ x (part_grows s.cases cs) (λ l z h.
      bind_under (cases_of p l) (cases_of q l) _ _ z (cases_under l) (λ _ _ k. k) h) e
  term_under a b s (DoWhile r v i) x e = bind_under (p r) (q r) _ _ x (w r) (λ _ z h. bind_under (f v) (g v) _ _ z (u v) (λ _ _ k. k) h) e
  term_under a b s (While v r i) x e = bind_under (f v) (g v) _ _ x (u v) (λ _ z h. bind_under (p r) (q r) _ _ z (w r) (λ _ _ k. k) h) e
  term_under a b s (For n v t r i) x e =
      bind_under (f n) (g n) _ _ x (u n) (λ _ z h. bind_under (f v) (g v) _ _ z (u v) (λ _ y k.
      bind_under (opt_value_of f t) (opt_value_of g t) _ _ y (opt_value_under t) (λ _ o j. bind_under (p r) (q r) _ _ o (w r) (λ _ _ m. m) j) k) h) e
  term_under a b s (ForOf n v r i t) x e =
      bind_under (f n) (g n) _ _ x (u n) (λ _ z h. bind_under (f v) (g v) _ _ z (u v) (λ _ y k. bind_under (p r) (q r) _ _ y (w r) (λ _ _ m. m) k) h) e
  term_under a b s (ForIn v r i t) x e = bind_under (f v) (g v) _ _ x (u v) (λ _ z h. bind_under (p r) (q r) _ _ z (w r) (λ _ _ k. k) h) e
  term_under a b s (If t r o i) x e =
      bind_under (p r) (q r) _ _ x (w r) (λ _ z h. bind_under (opt_block_of p o) (opt_block_of q o) _ _ z (opt_block_under o) (λ _ _ k. k) h) e
  term_under a b s (Label r i) x e = bind_under (p r) (q r) _ _ x (w r) (λ _ _ h. h) e
  term_under a b s (Try r t o i) x e = bind_under (p r) (q r) _ _ x (w r) (λ _ z h. bind_under (p o) (q o) _ _ z (w o) (λ _ _ k. k) h) e

  pub stmt_under : (a b : Slots) → SlotsGrow a b → Under (stmt_of a f p) (stmt_of b g q)
  stmt_under a b s (Instruction i) x e = bind_under (instr_of f i) (instr_of g i) _ _ x (instr_under f g u i) (λ _ _ h. h) e
  stmt_under a b s (Terminal t) x e = bind_under (term_of a f p t.terminal) (term_of b g q t.terminal) _ _ x (term_under a b s t.terminal) (λ _ _ h. h) e
  stmt_under a b s (Scope r) x e = bind_under (p r.instructions) (q r.instructions) _ _ x (w r.instructions) (λ _ _ h. h) e
  stmt_under a b s (PrunedScope r) x e = bind_under (p r.instructions) (q r.instructions) _ _ x (w r.instructions) (λ _ _ h. h) e

pub body_under : (f g : ℕ → Option Stmt) → Under f g → Under (body_of f) (body_of g)
body_under f g u [] t e = e
body_under f g u (k ∷ ks) t e =
    bind_under (f k) (g k) _ _ t (u k) (λ s z h. bind_under (body_of f ks) (body_of g ks) _ _ z (body_under f g u ks) (λ _ _ q. q) h) e

slot_under : (a b : Slots) → SlotsGrow a b → (p q : Range → Option Block) → Under p q → Under (slot_of a p) (slot_of b q)
slot_under a b s p q w k x e =
    bind_under (nth a.statements k) (nth b.statements k) _ _ x (nth_grows s.statements k) (stmt_under _ _ p q (top_grows a.inner b.inner s.inner) w a b s) e

pub block_grows : (d : ℕ) (a b : Slots) → SlotsGrow a b → Under (block_of d a) (block_of d b)
block_grows zero a b s r x e = e
block_grows (suc d) a b s r x e =
    bind_under (part a.entries r) (part b.entries r) _ _ x (part_grows s.entries r) (body_under _ _ (slot_under a b s _ _ (block_grows d a b s))) e

pub slot_grows : (d : ℕ) (a b : Slots) → SlotsGrow a b → Under (slot_of a (block_of d a)) (slot_of b (block_of d b))
slot_grows d a b s = slot_under a b s _ _ (block_grows d a b s)

-- ---- what is added
pub nth_at : {X : Type 0} (xs : List X) (x : X) → nth (xs ++ x ∷ []) (length xs) ≡ Some x
nth_at [] x = refl
nth_at (y ∷ xs) x = nth_at xs x

pub part_at : {X : Type 0} (xs ys zs : List X) (r : Range) → zs ≡ xs ++ ys → r.start ≡ length xs → r.count ≡ length ys → part zs r ≡ Some ys
part_at xs ys zs r p q c =
    let inside : r.start + r.count ≤ length zs = omega (arith, ap length p ∙ length-append xs ys) in
    let is : take r.count (drop r.start zs) ≡ ys = ap₂ take c (ap₂ drop q p ∙ drop_at xs ys (length xs) refl) ∙ take_all (length ys) ys (omega arith) in
    rw (le-leb _ _ inside, is) refl

-- a value, at its slot
pub value_added : (d : ℕ) (a b : ValueSlots) → ValuesGrow a b → (v : ReactiveValue) (x : Val) (k : ℕ) → b.values ≡ a.values ++ v ∷ [] → k ≡ length a.values → val_of a (value_of d a) v ≡ Some x → value_of (suc d) b k ≡ Some x
value_added d a b s v x k p q e =
    let found : nth b.values k ≡ Some v = ap₂ nth p q ∙ nth_at a.values v in
    ap (λ o. bind o (val_of b (value_of d b))) found ∙ val_under a b s _ _ (value_grows d a b s) v x e

-- a statement, at its slot
pub slot_added : (d : ℕ) (a b : Slots) → SlotsGrow a b → (n : ReactiveStatement) (x : Stmt) (k : ℕ) → b.statements ≡ a.statements ++ n ∷ [] → k ≡ length a.statements → stmt_of a (top_value a.inner) (block_of d a) n ≡ Some x → slot_of b (block_of d b) k ≡ Some x
slot_added d a b s n x k p q e =
    let found : nth b.statements k ≡ Some n = ap₂ nth p q ∙ nth_at a.statements n in
    ap (λ o. bind o (stmt_of b (top_value b.inner) (block_of d b))) found
    ∙ stmt_under _ _ _ _ (top_grows a.inner b.inner s.inner) (block_grows d a b s) a b s n x e

-- the slots at the end of the entries, as a block
pub block_added : (d : ℕ) (a b : Slots) → SlotsGrow a b → (ks : List ℕ) (r : Range) (t : Block) → b.entries ≡ a.entries ++ ks → r.start ≡ length a.entries → r.count ≡ length ks → body_of (slot_of a (block_of d a)) ks ≡ Some t → block_of (suc d) b r ≡ Some t
block_added d a b s ks r t p q c e =
    ap (λ o. bind o (body_of (slot_of b (block_of d b)))) (part_at a.entries ks b.entries r p q c) ∙ body_under _ _ (slot_grows d a b s) ks t e
