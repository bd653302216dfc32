use Rattle.std.proofs.Common.{◌≡◌, ◌+◌, ◌-◌, ◌*◌, ◌++◌, take, drop, ap, ◌∙◌, ap₂, arith}
use Rattle.std.proofs.lemmas.List.{drop-drop}
use Rattle.write.proofs.writer.put_word.Goals as goal

pub returns : goal.returns
returns c =
    let o = c.args.out.now in
    let at = c.args.at in
    let four : 4 * at + (4 * at + 4 - 4 * at) ≡ 4 * (at + 1) = omega arith in
    let past = drop-drop (4 * at + 4 - 4 * at) (4 * at) o ∙ ap (λ n. drop n o) four in
    ap₂ (λ x y. take (4 * at) o ++ (x ++ y)) (c.copy_from_slice.ensures.after ∙ c.to_le_bytes-bytes.ensures) past
