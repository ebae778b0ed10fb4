-- What is seen of a pool that has no name yet.
use Rattle.std.specs.Prelude.{ℕ, List, map}
use Rattle.atomic_table.specs.Seated.{TableId}
use Rattle.cord_port.specs.declared.releaser.Releaser.{Ghosts}
use Rattle.pool_rule.specs.Pools.{Handed}
use Rattle.node_pool.specs.Boxes.{handed_of}
use Rattle.node_pool.specs.declared.start.Opened.{Opened}

module _ {B : Type 0} {r : Ghosts B} where
  -- which table it is, and how many numbers, passes and workers it has
  abbrev pub opened_table : Opened B r → TableId
  opened_table o = o.table.shared.table_id

  abbrev pub opened_numbers : Opened B r → ℕ
  opened_numbers o = o.numbers

  abbrev pub opened_passes : Opened B r → ℕ
  opened_passes o = o.passes

  abbrev pub opened_workers : Opened B r → ℕ
  opened_workers o = o.workers

  -- the boxes as they were handed in
  abbrev pub opened_boxes : Opened B r → List Handed
  opened_boxes o = map handed_of o.table.shared.key.boxes.items
