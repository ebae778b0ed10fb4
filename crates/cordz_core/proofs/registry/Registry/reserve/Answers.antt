-- A slot that is given did not wait.
use Rattle.std.proofs.Common.{◌≡◌, ◌<◌, refl, sym, ◌∙◌, subst, arith}
use Rattle.cordz_core.specs.Contents.{Contents}
use Rattle.cordz_core.specs.Inside.{contents_of}
use Rattle.cordz_core.specs.declared.slot.SlotState.TheVariants.{Free, Queued}
use Rattle.cordz_core.proofs.Sound.{sound_set}
use Rattle.std.proofs.Common.{◌-◌, ◌^◌}
use Rattle.cordz_core.specs.Legal.{Replays}
use Rattle.cordz_core.proofs.Steps.{reserved_replays}
use Rattle.cordz_core.proofs.registry.Registry.reserve.Goals as goal

pub invariant_of-self : goal.invariant_of-self
invariant_of-self c = sound_set (contents_of c.self.inside) c.self.invariant _ c.in-Some.at _ (let h = c.self.invariant.stamps in omega arith) refl refl refl refl refl (omega arith)
    (λ e. (let g : Free ≡ Queued = sym c.in-Some.ensures.found ∙ e in cc))

pub returns-clause-history : goal.returns-clause-history
returns-clause-history c = λ h rep. reserved_replays h (contents_of c.self.inside) (subst (Replays h) (sym c.self.view_is) rep) c.self.invariant c.in-Some.at _ _ (omega arith) (subst (λ (z : Contents). z.clock < 2 ^ 64 - 1) (sym c.self.view_is) c.requires) c.in-Some.ensures.found refl refl refl refl refl refl refl refl refl refl
