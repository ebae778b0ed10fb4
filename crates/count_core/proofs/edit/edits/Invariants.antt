-- What the loop of `edits` keeps, or what grows less in its recursion.
use Rattle.std.proofs.Common.{◌≡◌, drop}
use Rattle.node_forest.specs.Changes.{site}
use Rattle.count_core.specs.Marks.{FitEach, edits}
use Rattle.count_core.specs.Terms.{changes_of}
use Rattle.count_core.proofs.edit.edits.Given as goal

abbrev pub invariant-loop-depth : goal.invariant-loop-depth
invariant-loop-depth l =
    (edits (changes_of (drop l.depth-index l.changes)) (site l.tree l.path.items l.holds) ≡ edits (changes_of l.changes) (site l.fn.tree l.fn.path.items l.fn.holds))
    × (FitEach (changes_of (drop l.depth-index l.changes)) (site l.tree l.path.items l.holds) → FitEach (changes_of l.changes) (site l.fn.tree l.fn.path.items l.fn.holds))
    × (FitEach (changes_of l.changes) (site l.fn.tree l.fn.path.items l.fn.holds) → FitEach (changes_of (drop l.depth-index l.changes)) (site l.tree l.path.items l.holds))
