use Rattle.std.proofs.Common.{◌≡◌, ◌==◌, count_by, vec_items, sym, ◌∙◌, rules}
use Rattle.hir.specs.declared.environment.Declared.{Declared}
use Rattle.write.proofs.Owned.{owned_counted}
use Rattle.write.proofs.environment.count_owned.Goals as goal

pub returns : goal.returns
returns c =
    let counted : c.count.result ≡ count_by (λ (d : Declared). d.owner == c.args.owner) (vec_items c.args.declared.now.vec) = search rules in
    counted ∙ sym (owned_counted c.args.owner (vec_items c.args.declared.now.vec))
