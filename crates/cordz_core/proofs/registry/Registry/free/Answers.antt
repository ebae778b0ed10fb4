-- A slot that is given back did not wait.
use Rattle.std.proofs.Common.{◌<◌, refl, sym, ap, ◌∙◌, subst, arith, ⊎_elim}
use Rattle.cordz_core.specs.Contents.{Contents, state_of}
use Rattle.cordz_core.specs.Inside.{contents_of}
use Rattle.cordz_core.proofs.Sound.{sound_set, not_queued}
use Rattle.std.proofs.Common.{◌-◌, ◌^◌, inl, inr}
use Rattle.cordz_core.specs.Legal.{Replays}
use Rattle.cordz_core.proofs.Steps.{freed_replays}
use Rattle.cordz_core.proofs.registry.Registry.free.Goals as goal

pub invariant_of-self : goal.invariant_of-self
invariant_of-self c = sound_set (contents_of c.self.inside) c.self.invariant _ c.args.slot _ (let h = c.self.invariant.stamps in omega arith) refl refl refl refl refl c.requires.slot
    (⊎_elim (λ t. not_queued _ _ c.args.slot _ c.self.view_is t (λ e. cc)) (λ t. not_queued _ _ c.args.slot _ c.self.view_is t (λ e. cc)) c.requires.unused)

pub returns-clause-history : goal.returns-clause-history
returns-clause-history c = λ h rep. freed_replays h (contents_of c.self.inside) (subst (Replays h) (sym c.self.view_is) rep) c.self.invariant c.args.slot _ _ c.requires.slot (subst (λ (z : Contents). z.clock < 2 ^ 64 - 1) (sym c.self.view_is) c.requires.clock)
    (⊎_elim (λ t. inl (ap (λ z. state_of z c.args.slot) c.self.view_is ∙ t)) (λ t. inr (ap (λ z. state_of z c.args.slot) c.self.view_is ∙ t)) c.requires.unused) refl refl refl refl refl refl refl refl refl
