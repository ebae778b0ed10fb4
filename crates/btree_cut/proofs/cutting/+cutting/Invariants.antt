-- Each call goes one level down, and what the loop over the edges keeps.
use Rattle.std.proofs.Common.{◌≡◌, ◌+◌, ◌-◌, ◌*◌, ◌≤◌, [], sum_by, take, vec_capacity}
use Rattle.chunk_reader.specs.Places.{long}
use Rattle.btree_cut.specs.Ranges.{ranges}
use Rattle.btree_cut.specs.Cutting.{AreCut}
use Rattle.btree_cut.proofs.cutting.+cutting.Given as goal

abbrev pub decreases-cut : goal.decreases-cut
decreases-cut g l = 3 * l.level

abbrev pub decreases-cut_edges : goal.decreases-cut_edges
decreases-cut_edges g l = 3 * l.level + 2

abbrev pub decreases-cut_edge : goal.decreases-cut_edge
decreases-cut_edge g l = 3 * l.level + 1

abbrev pub invariant-cut_edges-loop-edge : goal.invariant-cut_edges-loop-edge
invariant-cut_edges-loop-edge g l = record {
  at : l.at ≡ l.start - sum_by long (take l.edge-index l.edges);
  left : l.left ≡ l.n - (sum_by long (take l.edge-index l.edges) - l.start);
  cut : AreCut l.level (ranges (take l.edge-index l.edges) l.start l.n) [] l.kept.items l.fn.w l.w;
  capacity : 6 ≤ vec_capacity l.kept;
}
