-- What the proof of `lone_down` needs beyond the search.
use Rattle.std.proofs.Common.{Bool, true, false, ℕ, List, [], ◌∷◌, inl, refl}
use Rattle.std.specs.Prelude.{IsTrue}
use Rattle.node_forest.specs.Label.{Node, number}
use Rattle.pool_rule.specs.Marks.{IsLonePath}
use Rattle.pool_rule.specs.Views.{View}
use Rattle.node_pool.specs.Paths.{node_at, IsPathIn, IsLooked}
use Rattle.node_pool.proofs.Marking.{path-found}
use Rattle.pool_tests.proofs.marks.lone_down.Goals as goal

lone-if : (b : Bool) (root : Node) (path : List ℕ) (v w : View) → IsPathIn v.lone root path → IsLooked b (node_at root path) v w → IsTrue b → IsLonePath root path w
lone-if true root path v w down looked holds = path-found root path v w down looked
lone-if false root path v w down looked holds = absurd (cc)

pub look-requires-2-clause-path : goal.look-requires-2-clause-path
look-requires-2-clause-path g c =
    (c.paths_that_looks_find_are_lone.ensures c.args.root.now [] c.args.w.now _ tt c.if-not-look.ensures.looked (number c.args.root.now) (inl refl), c.requires.place, tt)

pub returns-clause-lone : goal.returns-clause-lone
returns-clause-lone g c =
    let first = c.paths_that_looks_find_are_lone.ensures c.args.root.now [] c.args.w.now _ tt c.if-not-look.ensures.looked (number c.args.root.now) (inl refl) in
    lone-if _ c.args.root.now (c.args.place ∷ []) _ _ (first, c.requires.place, tt) c.look-2.ensures.looked
