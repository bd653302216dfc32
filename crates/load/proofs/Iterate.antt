-- So many items, one after another: one more at the end, or a refusal there. Assumes nothing.
use Rattle.std.proofs.Common.{◌≡◌, ℕ, zero, suc, ◌<◌, List, [], ◌∷◌, ◌++◌, Some, Ok, Err, Option, sym, refl, ap, ◌∙◌, arith}
use Rattle.hir.specs.Options.{bind}
use Rattle.hir.proofs.Grow.{bound}
use Rattle.format.specs.declared.fault.FileFault.{FileFault}
use Rattle.format.specs.Parse.{Cursor, Read, onto}
use Rattle.load.proofs.Later.{onto_ok, ok_ok}

-- a reading by two parts, whichever way they are put together
pub onto_onto : {X Y Z : Type 0} (r : Read X) (f : X → Cursor → Read Y) (g : Y → Cursor → Read Z) → onto (onto r f) g ≡ onto r (λ x c. onto (f x c) g)
onto_onto (Ok p) f g = refl
onto_onto (Err e) f g = refl

-- `many` reads items by `one`, and puts each before the others
pub record Repeats {X T : Type 0} (many : ℕ → Cursor → Read T) (one : Cursor → Read X) (cons : X → T → T) (snoc : T → X → T) (nil : T) : Type 0 where
  pub none : (c : Cursor) → many zero c ≡ Ok (nil, c)
  pub next : (n : ℕ) (c : Cursor) → many (suc n) c ≡ onto (one c) (λ x d. onto (many n d) (λ t e. Ok (cons x t, e)))
  pub last : (x : X) → snoc nil x ≡ cons x nil
  pub before : (y x : X) (t : T) → snoc (cons y t) x ≡ cons y (snoc t x)

module _ {X T : Type 0} (many : ℕ → Cursor → Read T) (one : Cursor → Read X) (cons : X → T → T) (snoc : T → X → T) (nil : T) (k : Repeats many one cons snoc nil) where
  pub many_snoc : (i : ℕ) (c : Cursor) (p : T × Cursor) (q : X × Cursor) → many i c ≡ Ok p → one p.1 ≡ Ok q → many (suc i) c ≡ Ok (snoc p.0 q.0, q.1)
  many_snoc zero c p q e f =
      let same : (nil, c) ≡ p = ok_ok (sym (k.none c) ∙ e) in
      k.next zero c
      ∙ ap (λ r. onto r (λ x d. onto (many zero d) (λ t e. Ok (cons x t, e)))) (ap (λ x. one x.1) same ∙ f)
      ∙ ap (λ r. onto r (λ t e. Ok (cons q.0 t, e))) (k.none q.1)
      ∙ ap (λ t. Ok (t, q.1)) (sym (k.last q.0))
      ∙ ap (λ x. Ok (snoc x.0 q.0, q.1)) same
  many_snoc (suc i) c p q e f =
      let o = onto_ok (one c) _ p (sym (k.next i c) ∙ e) in
      let m = onto_ok (many i o.0.1) _ p o.2 in
      let is = ok_ok m.2 in
      let more = many_snoc i o.0.1 m.0 q m.1 (ap (λ x. one x.1) is ∙ f) in
      k.next (suc i) c
      ∙ ap (λ r. onto r (λ x d. onto (many (suc i) d) (λ t e. Ok (cons x t, e)))) o.1
      ∙ ap (λ r. onto r (λ t e. Ok (cons o.0.0 t, e))) more
      ∙ ap (λ t. Ok (t, q.1)) (sym (k.before o.0.0 q.0 m.0.0))
      ∙ ap (λ x. Ok (snoc x.0 q.0, q.1)) is

  pub many_stop : (i n : ℕ) (c : Cursor) (p : T × Cursor) (x : FileFault) → i < n → many i c ≡ Ok p → one p.1 ≡ Err x → many n c ≡ Err x
  many_stop i zero c p x h e f = absurd (omega arith)
  many_stop zero (suc n) c p x h e f =
      k.next n c ∙ ap (λ r. onto r (λ x d. onto (many n d) (λ t e. Ok (cons x t, e)))) (ap (λ y. one y.1) (ok_ok (sym (k.none c) ∙ e)) ∙ f)
  many_stop (suc i) (suc n) c p x h e f =
      let o = onto_ok (one c) _ p (sym (k.next i c) ∙ e) in
      let m = onto_ok (many i o.0.1) _ p o.2 in
      let more = many_stop i n o.0.1 m.0 x (omega arith) m.1 (ap (λ y. one y.1) (ok_ok m.2) ∙ f) in
      k.next n c
      ∙ ap (λ r. onto r (λ x d. onto (many n d) (λ t e. Ok (cons x t, e)))) o.1
      ∙ ap (λ r. onto r (λ t e. Ok (cons o.0.0 t, e))) more

-- `all` decodes a row by `each`
pub record Rows {K X T : Type 0} (all : List K → Option T) (each : K → Option X) (cons : X → T → T) (snoc : T → X → T) (nil : T) : Type 0 where
  pub none : all [] ≡ Some nil
  pub next : (i : K) (is : List K) → all (i ∷ is) ≡ bind (each i) (λ x. bind (all is) (λ t. Some (cons x t)))
  pub last : (x : X) → snoc nil x ≡ cons x nil
  pub before : (y x : X) (t : T) → snoc (cons y t) x ≡ cons y (snoc t x)

some_some : {X : Type 0} {x y : X} → ◌≡◌ {A = Option X} (Some x) (Some y) → x ≡ y
some_some h = cc

module _ {K X T : Type 0} (all : List K → Option T) (each : K → Option X) (cons : X → T → T) (snoc : T → X → T) (nil : T) (k : Rows all each cons snoc nil) where
  pub row_snoc : (is : List K) (i : K) (t : T) (x : X) → all is ≡ Some t → each i ≡ Some x → all (is ++ i ∷ []) ≡ Some (snoc t x)
  row_snoc [] i t x e g =
      k.next i []
      ∙ ap (λ o. bind o (λ x. bind (all []) (λ t. Some (cons x t)))) g
      ∙ ap (λ o. bind o (λ t. Some (cons x t))) k.none
      ∙ ap Some (sym (k.last x))
      ∙ ap (λ t. Some (snoc t x)) (some_some (sym k.none ∙ e))
  row_snoc (j ∷ is) i t x e g =
      let b = bound (each j) _ t (sym (k.next j is) ∙ e) in
      let c = bound (all is) _ t b.2 in
      let more = row_snoc is i c.0 x c.1 g in
      k.next j (is ++ i ∷ [])
      ∙ ap (λ o. bind o (λ x. bind (all (is ++ i ∷ [])) (λ t. Some (cons x t)))) b.1
      ∙ ap (λ o. bind o (λ t. Some (cons b.0 t))) more
      ∙ ap Some (sym (k.before b.0 x c.0))
      ∙ ap (λ t. Some (snoc t x)) (some_some c.2)
