-- What the loop of `close` keeps, or what grows less in its recursion.
use Rattle.std.proofs.Common.{◌≡◌, ◌++◌, ◌∷◌, [], take}
use Rattle.count_core.specs.Views.{without_all}
use Rattle.count_core.proofs.view.View.close.Given as goal

abbrev pub invariant-loop-child : goal.invariant-loop-child
invariant-loop-child l = l.self ≡ without_all (take l.child-index l.children) l.fn.self ++ l.fn.tree ∷ []
