-- What is made is a new flat.
use Rattle.std.proofs.Common.{◌-◌, ℕ, length, ap}
use Rattle.tree_shapes.proofs.Capacities.{capacity_is_least}
use Rattle.flat_nodes.proofs.Flats.{made-new, text-new, shape-new, formed-new}
use Rattle.flat_nodes.proofs.flat.new_flat.Goals as goal

pub returns-clause-node : goal.returns-clause-node
returns-clause-node g c =
    let size = length c.args.bytes.now in
    made-new c.in_ok-edge.edge c.in_ok-own.own.items c.args.bytes.now _ c.in_ok-edge.ensures.edge c.in_ok-own.ensures.bytes (ap (λ (k : ℕ). k - size) c.capacity_for-capacity.ensures.capacity)

pub returns-clause-text : goal.returns-clause-text
returns-clause-text g c = text-new _ c.args.bytes.now (returns-clause-node g c)

pub returns-clause-formed : goal.returns-clause-formed
returns-clause-formed g c =
    formed-new _ c.args.bytes.now c.requires.some (capacity_is_least (length c.args.bytes.now) c.requires.few) (returns-clause-node g c)

pub returns-clause-shape : goal.returns-clause-shape
returns-clause-shape g c = shape-new _ c.args.bytes.now (returns-clause-node g c)
