use Rattle.std.proofs.Common.{ap, ◌∙◌}
use Rattle.questions.specs.Findings.{passed}
use Rattle.questions.specs.Pass.{values_in}
use Rattle.questions.specs.Questions.{opt_val_lines}
use Rattle.questions.proofs.Deepest.{val_there}
use Rattle.questions.proofs.pass.Pass.inside.Goals as goal

pub value-requires : goal.value-requires
value-requires c = let p = val_there c.deepest.result c.deepest.ensures (values_in c.args.self.now) c.args.slot c.in-Some.slot c.in-Some.is c.requires.what c.requires.is in record { what = p.0; is = p.1 }

pub returns-in-Some : goal.returns-in-Some
returns-in-Some c =
    record {
      kept = c.value.ensures.kept;
      by = λ x e.
          let p = val_there c.deepest.result c.deepest.ensures (values_in c.args.self.now) c.args.slot c.in-Some.slot c.in-Some.is x e in
          c.value.ensures.by p.0 p.1 ∙ ap (λ y. passed (opt_val_lines c.args.self.now.bounds y) c.args.self.now.found) p.2;
    }
