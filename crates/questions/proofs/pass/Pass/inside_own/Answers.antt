use Rattle.std.proofs.Common.{ap, ◌∙◌}
use Rattle.questions.specs.Own.{own_of}
use Rattle.questions.specs.Pass.{values_in}
use Rattle.questions.specs.Questions.{opt_val_ops}
use Rattle.questions.proofs.Deepest.{val_there}
use Rattle.questions.proofs.pass.Pass.inside_own.Goals as goal

pub value_own-requires : goal.value_own-requires
value_own-requires c = let p = val_there c.deepest.result c.deepest.ensures (values_in c.args.self.now) c.args.slot c.in-Some.slot c.in-Some.is c.requires.what c.requires.is in record { what = p.0; is = p.1 }

pub returns-in-Some : goal.returns-in-Some
returns-in-Some c =
    record {
      of = λ x e.
          let p = val_there c.deepest.result c.deepest.ensures (values_in c.args.self.now) c.args.slot c.in-Some.slot c.in-Some.is x e in
          c.value_own.ensures.of p.0 p.1 ∙ ap (λ y. own_of c.args.self.now.bounds (opt_val_ops y)) p.2;
    }
