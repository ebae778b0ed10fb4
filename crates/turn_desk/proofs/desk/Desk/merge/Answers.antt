-- What the proof of `Desk::merge` needs beyond the search.
use Rattle.std.proofs.Common.{rules}
use Rattle.turn_desk.proofs.Keeps.{joins, recalls}
use Rattle.turn_desk.proofs.desk.Desk.merge.Goals as goal

pub join_seat-requires : goal.join_seat-requires
join_seat-requires g c = (c.requires.desk.0, c.requires.desk.1, c.requires.idle.1.1, search rules, joins g.T.DeskRule.agrees _ _ _ _ _ g.T.DeskRule.nobody c.requires.idle.0.0 c.requires.idle.1.0 (λ spots views h at apart at'. g.T.DeskRule.merge_agrees spots views _ _ _ _ _ h at apart at' c.requires.merges))

pub load-requires : goal.load-requires
load-requires g c = (search rules, search rules, recalls g.T.DeskRule.agrees _ _ _)
