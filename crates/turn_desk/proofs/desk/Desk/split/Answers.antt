-- What the proof of `Desk::split` needs beyond the search.
use Rattle.std.proofs.Common.{rules}
use Rattle.turn_desk.proofs.Keeps.{splits, recalls}
use Rattle.turn_desk.proofs.desk.Desk.split.Goals as goal

pub split_seat-given-requires : goal.split_seat-given-requires
split_seat-given-requires g c = (c.requires.desk, search rules, splits g.T.DeskRule.agrees _ _ _ _ c.requires.idle.0 (λ spots views h at. g.T.DeskRule.split_agrees spots views _ _ _ _ h at c.requires.splits))

pub load-requires : goal.load-requires
load-requires g c = (search rules, search rules, recalls g.T.DeskRule.agrees _ _ _)
