-- What a share that ends leaves.
use Rattle.std.proofs.Common.{ℕ, [], MatchOption, refl, sym, ap, subst}
use Rattle.std.specs.Bool.{⊤}
use Rattle.node_edges.proofs.WayLaws.{whole-down}
use Rattle.cordz_desk.specs.Shares.{IsShare}
use Rattle.cord_value.specs.Workers.{Keeps}
use Rattle.cord_value.proofs.Balances.{keeps-same, keeps-released}
use Rattle.cord_sampled.specs.Leaving.{shares_in}
use Rattle.cord_sampled.proofs.leaving.end_share.Goals as goal

pub finish-requires-clause-short : goal.finish-requires-clause-short
finish-requires-clause-short g c =
    let share = subst (λ o. MatchOption o ⊤ IsShare) c.in-Some.is c.requires.share in whole-down c.in-Some.share.edge share.formed

pub returns-in-Some : goal.returns-in-Some
returns-in-Some g c =
    let share = subst (λ o. MatchOption o ⊤ IsShare) c.in-Some.is c.requires.share in
    subst (λ (n : ℕ). Keeps g.P.Naming.limit [] 0 n c.args.w.now c.finish.new.w) (sym (ap shares_in c.in-Some.is))
    (keeps-released _ c.in-Some.share.edge c.args.w.now c.draw_and_end.new.w c.finish.new.w c.in-Some.share.pass c.draw_and_end.ensures.drawn c.draw_and_end.ensures.traded share.held
    c.finish.ensures.finished c.finish.ensures.traded)

pub returns-in_default : goal.returns-in_default
returns-in_default g c =
    subst (λ (n : ℕ). Keeps g.P.Naming.limit [] 0 n c.args.w.now c.args.w.now) (sym (ap shares_in c.in_default.is)) (keeps-same _ _ _ refl)
