use Rattle.std.proofs.Common.{[], length, get_or, List, ◌/◌, ℕ, ap, ◌∙◌, arith, w32}
use Rattle.std.specs.Int.{from_le_bytes}
use Rattle.load.proofs.Lies.{quad_at}
use Rattle.load.proofs.section.word_at.Goals as goal

pub returns : goal.returns
returns c =
    c.from_le_bytes.ensures
    ∙ ap (λ (quads : List (List ℕ)). from_le_bytes w32 (get_or quads c.args.at [])) c.as_chunks.ensures.front
    ∙ quad_at (length c.args.bytes.now / 4) c.args.at c.args.bytes.now (omega (arith, c.requires)) (omega arith)
