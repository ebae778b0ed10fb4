-- A record that leaves the list did not wait, and its neighbours keep their states.
use Rattle.std.proofs.Common.{◌<◌, refl, sym, ap, ◌∙◌, subst, arith, length}
use Rattle.cordz_core.specs.Contents.{Contents, state_of}
use Rattle.cordz_core.specs.Inside.{contents_of}
use Rattle.cordz_core.proofs.Sound.{length-pointed_back, sound_unlinked, unlinked_moves, not_queued}
use Rattle.std.proofs.Common.{◌-◌, ◌^◌}
use Rattle.cordz_core.specs.Legal.{Replays}
use Rattle.cordz_core.proofs.Unlinks.{unlinked_replays}
use Rattle.cordz_core.proofs.registry.Registry.unlink.Goals as goal

pub invariant_of-self : goal.invariant_of-self
invariant_of-self c = sound_unlinked (contents_of c.self.inside) c.self.invariant _ c.args.slot _ _ _ (let h = c.self.invariant.stamps in omega arith) refl (ap length c.point_back.ensures ∙ length-pointed_back _ _ _) c.point_on.ensures refl refl c.requires.slot
    (not_queued _ _ c.args.slot _ c.self.view_is c.requires.linked (λ e. cc))

pub returns-clause-moves : goal.returns-clause-moves
returns-clause-moves c = unlinked_moves (contents_of c.self.inside) c.self.invariant _ _ c.args.slot _ _ _ c.self.view_is refl refl refl c.point_on.ensures c.requires.slot

pub returns-clause-history : goal.returns-clause-history
returns-clause-history c = λ h rep. unlinked_replays h (contents_of c.self.inside) (subst (Replays h) (sym c.self.view_is) rep) c.self.invariant c.args.slot _ c.requires.slot (ap (λ z. state_of z c.args.slot) c.self.view_is ∙ c.requires.linked) _ (subst (λ (z : Contents). z.clock < 2 ^ 64 - 1) (sym c.self.view_is) c.requires.clock) refl refl refl c.head_without-self-inside.ensures c.point_on.ensures refl c.point_back.ensures refl refl
