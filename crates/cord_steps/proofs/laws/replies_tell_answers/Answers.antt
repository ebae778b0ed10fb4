-- The facts of `replies_tell_answers` that the check leaves to be shown.
use Rattle.cord_steps.proofs.ReplyLaws.{answers-differ, requests-differ, replied-back, replied}
use Rattle.cord_steps.proofs.laws.replies_tell_answers.Goals as goal

pub returns : goal.returns
returns c = record {
  differ = answers-differ;
  requests = requests-differ;
  back = replied-back;
  told = replied;
}
