-- What the proof of `Desk::try_enter` needs beyond the search.
use Rattle.std.proofs.Common.{rules, ◌∷◌, sym, ap, ◌∙◌, Some}
use Rattle.atomic_table.specs.Table.{rest}
use Rattle.turn_desk.proofs.Keeps.{enters}
use Rattle.turn_desk.proofs.desk.Desk.try_enter.Goals as goal

pub compare_exchange-found-requires : goal.compare_exchange-found-requires
compare_exchange-found-requires g c = (c.requires.desk, search rules, enters g.T.DeskRule.agrees g.T.DeskRule.taking_agrees _ _ _ _ c.requires.place c.requires.idle.0)

pub exchange-requires : goal.exchange-requires
exchange-requires g c =
    let e = c.compare_exchange-found.ensures.2.1 c.if-found-ne0.false in
    (c.compare_exchange-found.ensures.0 ∙ c.requires.desk, (Some e.0, e.2 ∙ ap (λ z. (c.args.place, Some e.0) ∷ rest z) (sym e.2)))
