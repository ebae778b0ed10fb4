-- What the loop of `never_deeper` keeps, or what grows less in its recursion.
use Rattle.std.proofs.Common.{drop}
use Rattle.node_forest.specs.Paths.{NeverDeeper}
use Rattle.count_core.specs.Terms.{changes_of}
use Rattle.count_core.proofs.edit.never_deeper.Given as goal

abbrev pub invariant-loop-change : goal.invariant-loop-change
invariant-loop-change l =
    (NeverDeeper l.last (changes_of (drop l.change-index l.changes)) → NeverDeeper l.deepest (changes_of l.changes))
    × (NeverDeeper l.deepest (changes_of l.changes) → NeverDeeper l.last (changes_of (drop l.change-index l.changes)))
