-- What the reports of a walk tell.
use Rattle.std.specs.Prelude.{◌≡◌, ◌≤◌, List, [], ◌∷◌}
use Rattle.node_edges.specs.Trees.{shape_of, IsWellFormed}
use Rattle.plain_cord.specs.declared.reply.Report.{Report}
use Rattle.record_rule.specs.declared.views.Noted.{Noted}
use Rattle.record_rule.specs.declared.views.TokenView.{TokenView}
use Rattle.record_rule.specs.Views.{reading}
use Rattle.cordz_stats.specs.Sums.{statistics_of}

-- a note of a record, and what the nodes of the tree add up to that it was set for
pub record Tells (r : Report) (n : Noted) : Type 0 where
  pub stamp : r.stamp ≡ n.note.stamp
  pub update : r.update ≡ n.note.update
  pub statistics : r.statistics ≡ statistics_of (shape_of n.tree)
  pub size : r.statistics.size ≡ n.note.length
  pub length : n.note.length ≡ n.tree.0.length
  pub formed : IsWellFormed n.tree
  pub short : n.tree.0.length ≤ 2147483647

-- each report tells the note at its place
abbrev pub TellAll : List Report → List Noted → Type 0
TellAll [] [] = Unit {0}
TellAll (r ∷ rs) (n ∷ ns) = Tells r n × TellAll rs ns
TellAll [] (n ∷ ns) = ⊥
TellAll (r ∷ rs) [] = ⊥

-- the token read a note, which the report tells
abbrev pub HasReported : Report → TokenView → TokenView → Type 0
HasReported r p q = (n : Noted) × Tells r n × (q ≡ reading n p)
