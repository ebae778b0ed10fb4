-- No bytes are none.
use Rattle.std.proofs.Common.{refl, sym, ◌∙◌}
use Rattle.script_reader.specs.Feeds.{nothing_fed}
use Rattle.script_reader.proofs.FeedLaws.{fed_none}
use Rattle.script_reader.proofs.feed.ScriptFeed.new.Goals as goal

pub returns-clause-got : goal.returns-clause-got
returns-clause-got c = record { knows = (λ i. record { known = c.new.ensures i; rest = c.new-2.ensures.items i }) ∙ sym (fed_none nothing_fed); count = refl }
