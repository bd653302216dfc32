-- The store that a run starts with. Assumes nothing.
use Rattle.std.specs.Prelude.{ℕ, ◌-◌, List, ◌++◌, length, replicate}

-- the values given, and 0 for every identifier behind them
abbrev pub store_of : List ℕ → ℕ → List ℕ
store_of values identifiers = values ++ replicate (identifiers - length values) 0
