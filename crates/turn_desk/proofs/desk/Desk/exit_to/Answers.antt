-- What the proof of `Desk::exit_to` needs beyond the search.
use Rattle.std.proofs.Common.{arith, ◌≡◌, ◌<◌, ◌∙◌, sym, ap, refl, subst, ◌∷◌, Some}
use Rattle.atomic_table.specs.Table.{rest, Me}
use Rattle.std.specs.Prelude.{Option}
use Rattle.turn_desk.specs.declared.knowledge.Knowledge.{Knowledge}
use Rattle.turn_desk.proofs.Keeps.{exits}
use Rattle.turn_desk.proofs.desk.Desk.exit_to.Goals as goal

pub store-requires : goal.store-requires
store-requires g c =
    let e = c.exchange-slot.ensures in
    let t = c.args.turn in
    let same = ap (λ z. z.slots) c.requires.desk in
    let words = c.args.self.now.same in
    let inside : t.place < c.args.self.now.table.shared.table_id.words = omega (arith, same, words, c.requires.turn.0) in (
      e.0 ∙ c.requires.desk,
      inside,
      exits g.T.DeskRule.agrees (λ l x y v w. g.T.DeskRule.leaves l x y v w × (w ≡ g.M.Leave.after v)) (λ spots views l by x y v w s at seen r. g.T.DeskRule.leaving_agrees spots views l by x y v w s at seen r.0) _ _ _ _ t.taken.value t.value
          (ap (λ m. m.0.held) e.3 ∙ c.requires.turn.1)
          (ap (λ m. m.1) e.3 ∙ ap (λ z. (t.place, Some t.value) ∷ rest z) c.requires.turn.2)
          (subst (λ (m : Me (Option g.row.T-Value.Denot) (Knowledge g.row.T-Value.Denot g.row.T-View.Denot)). (w : g.row.T-View.Denot) × (g.T.DeskRule.leaves t.place t.taken.value t.value m.0.view w × (w ≡ g.M.Leave.after m.0.view))) (sym e.3) (g.M.Leave.after c.args.pass.now.me.0.view, (c.requires.leaves, refl))),
    )
