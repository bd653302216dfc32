use Rattle.std.proofs.Common.{Ok, sym, ap, ◌∙◌, subst}
use Rattle.hir.specs.declared.used.Used.{Used}
use Rattle.hir.specs.Limits.{Within, limits}
use Rattle.hir.specs.Held.{slots}
use Rattle.format.specs.Parse.{block}
use Rattle.load.specs.Reads.{cursor}
use Rattle.load.proofs.FileSteps.{root_is, whole_ok}
use Rattle.load.proofs.file.read_body.Goals as goal

pub returns : goal.returns
returns c =
    let h = c.in_ok-root.ensures in
    record {
      tree = h.tree;
      parsed = whole_ok (block 64) (cursor c.args.reader) h.parsed c.in_ok-used.ensures.0 ∙ ap (λ u. Ok (h.tree, u)) (sym c.in_ok-used.ensures.1);
      stands = root_is (slots c.read_block.new.arena) c.in_ok-root.root h.tree h.stands;
      within = subst (λ (u : Used). Within u limits) (sym c.in_ok-used.ensures.1) c.read_block.new.self.limited;
    }
