-- What loaded tables owe. Assumes nothing.
use Rattle.std.proofs.Common.{◌≡◌, true, sym, subst}
use Rattle.hir.specs.declared.used.Used.{Used}
use Rattle.hir.specs.Limits.{Within, within}
use Rattle.hir.specs.Sizes.{sizes}
use Rattle.hir.specs.Tree.{Function}
use Rattle.hir.proofs.Limits.{within_true}
use Rattle.load.proofs.Later.{within_same}

pub exactly : (F : Function) (u : Used) → u ≡ sizes F → within (sizes F) u ≡ true
exactly F u e = within_true (sizes F) u (subst (λ (v : Used). Within (sizes F) v) (sym e) (within_same (sizes F)))
