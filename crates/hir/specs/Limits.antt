-- How much the tables hold. Assumes nothing.
use Rattle.std.specs.Prelude.{◌≤◌, Bool, ◌&&◌, nat_le}
use Rattle.hir.specs.declared.used.Used.{Used}

pub record Within (a b : Used) : Type 0 where
  pub statements : a.statements ≤ b.statements
  pub values : a.values ≤ b.values
  pub places : a.places ≤ b.places
  pub identifiers : a.identifiers ≤ b.identifiers
  pub scopes : a.scopes ≤ b.scopes
  pub declarations : a.declarations ≤ b.declarations
  pub cases : a.cases ≤ b.cases

-- the same as a test
unfoldable pub within : Used → Used → Bool
within a b =
    nat_le a.statements b.statements && (nat_le a.values b.values && (nat_le a.places b.places
    && (nat_le a.identifiers b.identifiers && (nat_le a.scopes b.scopes && (nat_le a.declarations b.declarations && nat_le a.cases b.cases)))))

abbrev pub limits : Used
limits = record { statements = 2048; values = 4096; places = 4096; identifiers = 2048; scopes = 256; declarations = 1024; cases = 1024 }
