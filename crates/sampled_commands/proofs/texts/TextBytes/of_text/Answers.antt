-- A piece that is repeated.
use Rattle.std.proofs.Common.{◌∙◌, ap}
use Rattle.plain_cord.specs.Texts.{repeated}
use Rattle.sampled_commands.proofs.Spelling.{same-zip, repeat-is}
use Rattle.sampled_commands.proofs.texts.TextBytes.of_text.Goals as goal

pub returns : goal.returns
returns c = same-zip _ (λ x y is. is) _ _ c.in_ok-bytes.ensures.items ∙ repeat-is c.args.text.now.times c.as_slice-piece.result.now ∙ ap (λ z. repeated z c.args.text.now.times) c.as_slice-piece.ensures
