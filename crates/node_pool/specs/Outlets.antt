-- The boxes of slots.
use Rattle.std.specs.Prelude.{List, [], ◌∷◌, ◌++◌, Option, Some, None}
use Rattle.cord_port.specs.declared.releaser.Releaser.{Ghosts}
use Rattle.node_pool.specs.declared.outlet.Outlet.{Outlet}

module _ {B : Type 0} {r : Ghosts B} where
  abbrev pub inner_of : Outlet B r → B
  inner_of o = o.inner

  -- a slot's box, if it has one
  abbrev pub box_in : Option (Outlet B r) → List B
  box_in None = []
  box_in (Some o) = o.inner ∷ []

  abbrev pub boxes_in : List (Option (Outlet B r)) → List B
  boxes_in [] = []
  boxes_in (x ∷ xs) = box_in x ++ boxes_in xs
