-- The facts of `last_flats_are_filled_or_shortened` that the check leaves to be shown.
use Rattle.tree_shapes.proofs.FillLaws.{filling-rooted, filling-length, kept-in-front}
use Rattle.tree_shapes.proofs.laws.last_flats_are_filled_or_shortened.Goals as goal

pub returns : goal.returns
returns c = record {
  filled = filling-rooted;
  filled_length = filling-length;
  cut = λ shortens t n root some fits. (kept-in-front shortens t n root some fits).root;
  cut_length = λ shortens t n root some fits. (kept-in-front shortens t n root some fits).long;
  cut_low = λ shortens t n root some fits. (kept-in-front shortens t n root some fits).low;
}
