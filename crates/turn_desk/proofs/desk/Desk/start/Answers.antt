-- What the proof of `Desk::start` needs beyond the search.
use Rattle.std.proofs.Common.{rules, ◌∙◌, ap}
use Rattle.turn_desk.specs.Spots.{values_of}
use Rattle.turn_desk.proofs.Closing.{opens}
use Rattle.turn_desk.proofs.Starting.{values_back}
use Rattle.turn_desk.proofs.desk.Desk.start.Goals as goal

pub new-requires-in-Ok : goal.new-requires-in-Ok
new-requires-in-Ok g c = opens g.T.DeskRule.agrees c.args.values.items _ _ _ (search rules) c.in-Ok.ensures c.requires.agrees

pub returns-in-Ok-clause-refused : goal.returns-in-Ok-clause-refused
returns-in-Ok-clause-refused g c = c.taken_from.ensures ∙ (ap values_of (c.in-Err-new.ensures.err ∙ c.in-Ok.ensures) ∙ values_back c.args.values.items)
