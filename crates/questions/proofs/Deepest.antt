-- A value's slot at the greatest depth stands for what it stands for at the top.
use Rattle.std.proofs.Common.{◌≡◌, ℕ, Some, Option, sym, ap, ◌∙◌}
use Rattle.std.proofs.lemmas.Option.{same_Some}
use Rattle.hir.specs.Decode.{ValueSlots, value_of, top_value, opt_value_of}
use Rattle.hir.specs.Tree.{Val, OptVal, some_val}
use Rattle.hir.proofs.Deepest.{top_from}
use Rattle.questions.proofs.Slots.{bound}

pub top_at : (d : ℕ) → d ≡ 64 → (a : ValueSlots) (k : ℕ) → value_of d a k ≡ top_value a k
top_at d e a k = ap (λ f. f k) (top_from d e a)

-- a value that may be missing, and is there
pub val_there : (d : ℕ) → d ≡ 64 → (a : ValueSlots) (o : Option ℕ) (k : ℕ) → o ≡ Some k → (x : OptVal) → opt_value_of (top_value a) o ≡ Some x → (v : Val) × (value_of d a k ≡ Some v) × (some_val v ≡ x)
val_there d deep a o k is x e =
    let b = bound (top_value a k) _ x (sym (ap (opt_value_of (top_value a)) is) ∙ e) in
    (b.0, top_at d deep a k ∙ b.1, same_Some _ x b.2)
