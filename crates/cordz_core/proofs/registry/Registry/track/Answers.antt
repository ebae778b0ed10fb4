-- A slot that is linked did not wait.
use Rattle.std.proofs.Common.{◌<◌, None, refl, sym, ap, ◌∙◌, subst, arith, length}
use Rattle.cordz_core.specs.Contents.{Contents, state_of}
use Rattle.cordz_core.specs.Inside.{contents_of}
use Rattle.cordz_core.proofs.Sound.{length-pointed_back, sound_set, not_queued}
use Rattle.std.proofs.lemmas.List.{length-set}
use Rattle.std.proofs.Common.{◌-◌, ◌^◌}
use Rattle.std.specs.Prelude.{slice_set}
use Rattle.cordz_core.specs.Legal.{Replays}
use Rattle.cordz_core.proofs.Steps.{tracked_replays}
use Rattle.cordz_core.proofs.registry.Registry.track.Goals as goal

pub invariant_of-self : goal.invariant_of-self
invariant_of-self c = sound_set (contents_of c.self.inside) c.self.invariant _ c.args.slot _ (let h = c.self.invariant.stamps in omega arith) refl (length-set _ _ _ ∙ (ap length c.point_back.ensures ∙ length-pointed_back _ _ _)) refl refl refl c.requires.slot
    (not_queued _ _ c.args.slot _ c.self.view_is c.requires.reserved (λ e. cc))

pub returns-clause-history : goal.returns-clause-history
returns-clause-history c = λ h rep. tracked_replays h (contents_of c.self.inside) (subst (Replays h) (sym c.self.view_is) rep) c.self.invariant c.args.slot _ c.requires.slot (ap (λ z. state_of z c.args.slot) c.self.view_is ∙ c.requires.reserved) _ _ (subst (λ (z : Contents). z.clock < 2 ^ 64 - 1) (sym c.self.view_is) c.requires.clock) refl refl refl refl refl refl refl (ap (λ l. slice_set l c.args.slot None) c.point_back.ensures) refl refl
