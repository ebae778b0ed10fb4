-- What a released cord leaves a worker with.
use Rattle.std.proofs.Common.{ℕ, [], refl, sym, subst, ap, ◌∙◌}
use Rattle.node_edges.proofs.WayLaws.{whole-down}
use Rattle.cord_value.specs.Forms.{view_of, IsForm}
use Rattle.cord_value.specs.Views.{CordView, passes_of}
use Rattle.cord_value.specs.Workers.{Keeps}
use Rattle.cord_value.proofs.Balances.{keeps-same, keeps-released}
use Rattle.cord_value.proofs.cord.Cord.release.Goals as goal

pub returns-in-Inline-clause-worker : goal.returns-in-Inline-clause-worker
returns-in-Inline-clause-worker g c =
    let v = c.args.w.now in
    let none = ap (λ (z : CordView). passes_of z.tree) (sym c.self.view_is ∙ ap view_of c.in-Inline.is) in
    subst (λ (n : ℕ). Keeps g.P.Naming.limit [] 0 n v v) (sym none) (keeps-same _ v v refl)

pub returns-in-Tree-clause-worker : goal.returns-in-Tree-clause-worker
returns-in-Tree-clause-worker g c =
    let v = c.args.w.now in
    let one = ap (λ (z : CordView). passes_of z.tree) (sym c.self.view_is ∙ ap view_of c.in-Tree.is) in
    let kept = subst IsForm c.in-Tree.is c.self.invariant in
    subst (λ (n : ℕ). Keeps g.P.Naming.limit [] 0 n v c.finish.new.w) (sym one)
    (keeps-released _ c.in-Tree.root v c.draw_and_end.new.w c.finish.new.w c.in-Tree.pass c.draw_and_end.ensures.drawn c.draw_and_end.ensures.traded kept.pass c.finish.ensures.finished c.finish.ensures.traded)

pub finish-requires-clause-short : goal.finish-requires-clause-short
finish-requires-clause-short g c = let kept = subst IsForm c.in-Tree.is c.self.invariant in whole-down c.in-Tree.root kept.formed
