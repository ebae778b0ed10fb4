-- What the proof of `report` needs beyond the search.
use Rattle.std.proofs.Common.{refl, sym, ap, ◌∙◌}
use Rattle.node_edges.proofs.EdgeLaws.{length-shape}
use Rattle.node_edges.proofs.WayLaws.{whole-down}
use Rattle.pool_rule.proofs.Trades.{HasHolds-gained}
use Rattle.cord_value.proofs.Balances.{keeps-same}
use Rattle.cordz_desk.specs.Owners.{noted_as}
use Rattle.record_walks.proofs.ReadLaws.{keeps-read}
use Rattle.record_walks.proofs.walking.report.Goals as goal

pub finish-requires-clause-held : goal.finish-requires-clause-held
finish-requires-clause-held g c = HasHolds-gained _ _ _ c.in-Ok.ensures.traded

pub finish-requires-clause-short : goal.finish-requires-clause-short
finish-requires-clause-short g c = whole-down c.in-Ok.edge c.in-Ok.ensures.tree.0

pub returns-in-Ok-clause-told : goal.returns-in-Ok-clause-told
returns-in-Ok-clause-told g c =
    let e = c.in-Ok.ensures in
    let sums = c.statistics-statistics.ensures in (
      noted_as c.in-Ok.note c.in-Ok.edge,
      record {
        stamp = refl;
        update = refl;
        statistics = sums;
        size = ap (λ z. z.size) sums ∙ (length-shape c.in-Ok.edge ∙ sym e.length);
        length = e.length;
        formed = e.tree.0;
        short = e.tree.1;
      },
      e.read,
    )

pub returns-in-Ok-clause-worker : goal.returns-in-Ok-clause-worker
returns-in-Ok-clause-worker g c = let e = c.in-Ok.ensures in keeps-read _ c.in-Ok.edge _ _ _ e.shared e.traded c.finish.ensures.finished c.finish.ensures.traded

pub returns-in-Err-clause-worker : goal.returns-in-Err-clause-worker
returns-in-Err-clause-worker g c = keeps-same _ _ _ c.in-Err.ensures.worker
