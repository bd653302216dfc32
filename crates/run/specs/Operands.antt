-- What places of a store hold, read and written one after the other. Assumes nothing.
use Rattle.std.specs.Prelude.{ℕ, List, [], ◌∷◌}
use Rattle.hir.specs.declared.place.Place.{Place}
use Rattle.semantics.specs.Machine.{look, put}

abbrev pub reads : List ℕ → List Place → List ℕ
reads σ [] = []
reads σ (p ∷ ps) = look σ p.identifier ∷ reads σ ps

-- what the last of them holds
abbrev pub lastly : List ℕ → ℕ → List Place → ℕ
lastly σ v [] = v
lastly σ v (p ∷ ps) = lastly σ (look σ p.identifier) ps

abbrev pub stores : List ℕ → ℕ → List Place → List ℕ
stores σ v [] = σ
stores σ v (p ∷ ps) = stores (put σ p.identifier v) v ps
