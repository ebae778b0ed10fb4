-- How much room a reserve has.
use Rattle.std.specs.Prelude.{ℕ}
use Rattle.room_reserve.specs.declared.reserve.Reserve.{Reserve}

-- in items
abbrev pub room_of : {X : Type 0} → Reserve X → ℕ
room_of r = r.table.shared.key
