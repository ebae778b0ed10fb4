-- What a share is: its pass holds its tree, which is well formed and not too long.
use Rattle.std.specs.Prelude.{◌≡◌, ◌≤◌, [], ◌∷◌}
use Rattle.node_forest.specs.Label.{Node}
use Rattle.node_edges.specs.Trees.{IsWellFormed}
use Rattle.cordz_desk.specs.declared.share.Share.{Share}

module _ {P : Type 0} where
  abbrev pub tree_in : Share P → Node
  tree_in s = s.edge

  pub record IsShare (s : Share P) : Type 0 where
    pub held : s.pass.holds ≡ s.edge ∷ []
    pub formed : IsWellFormed s.edge
    pub short : s.edge.0.length ≤ 2147483647
