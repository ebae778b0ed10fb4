-- What is seen of a desk that has no name yet.
use Rattle.std.specs.Prelude.{ℕ}
use Rattle.atomic_table.specs.Seated.{TableId}
use Rattle.cordz_desk.specs.declared.start.OpenedDesk.{OpenedDesk}

module _ {P : Type 0} where
  abbrev pub opened_desk : OpenedDesk P → TableId
  opened_desk o = o.desk.table.shared.table_id

  abbrev pub opened_walkers : OpenedDesk P → ℕ
  opened_walkers o = o.walkers
