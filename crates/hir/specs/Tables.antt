-- The function that tables hold. Assumes nothing.
use Rattle.hir.specs.declared.tables.Tables.{Tables}
use Rattle.hir.specs.Held.{held}
use Rattle.hir.specs.Tree.{Function}

abbrev pub function_of : Tables → Function
function_of t = held t.environment t.arena t.root
