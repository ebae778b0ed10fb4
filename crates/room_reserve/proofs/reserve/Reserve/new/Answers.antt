use Rattle.std.proofs.Common.{rules, [], ◌∷◌, ◌++◌, ap, ◌∙◌}
use Rattle.room_reserve.proofs.Rooms.{opens}
use Rattle.room_reserve.proofs.reserve.Reserve.new.Goals as goal

-- src/reserve.rt:33:15
pub new-requires : goal.new-requires
new-requires g c = opens c.args.most c.in_ok-with_capacity.field-0 c.push_reserved.new.self.items (c.push_reserved.ensures.items ∙ ap (λ l. l ++ c.in_ok-with_capacity.field-0 ∷ []) c.in_ok-slots.ensures.items) (search rules) (search rules)
