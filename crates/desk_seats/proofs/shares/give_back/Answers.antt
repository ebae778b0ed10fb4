-- What the proof of `give_back` needs beyond the search.
use Rattle.std.proofs.Common.{List, [], subst}
use Rattle.node_forest.specs.Label.{Node}
use Rattle.pool_rule.specs.Trades.{Trades}
use Rattle.pool_rule.proofs.Trades.{Trades-pass}
use Rattle.desk_seats.proofs.shares.give_back.Goals as goal

pub returns : goal.returns
returns g c = record {
  same = Trades-pass _ _ _ _ _ (subst (λ (z : List Node). Trades c.args.w.now.holds [] z c.draw_and_end.new.w.holds) c.requires.share.held c.draw_and_end.ensures.traded) c.leave.ensures.traded;
}
