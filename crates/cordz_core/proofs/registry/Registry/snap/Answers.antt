-- A walker without a snapshot has none in the queue, so there is room for it.
use Rattle.std.proofs.Common.{◌<◌, refl, sym, ap, ◌∙◌, subst, arith, lit<}
use Rattle.cordz_core.specs.Contents.{Contents, birth_of}
use Rattle.cordz_core.specs.Inside.{contents_of}
use Rattle.cordz_core.proofs.Sound.{sound_begun, room_for_walker}
use Rattle.std.proofs.Common.{◌-◌, ◌^◌}
use Rattle.cordz_core.specs.Legal.{Replays}
use Rattle.cordz_core.proofs.Queues.{snapped_replays}
use Rattle.cordz_core.proofs.registry.Registry.snap.Goals as goal

pub push-requires : goal.push-requires
push-requires c = (lit< tt, room_for_walker (contents_of c.self.inside) c.self.invariant c.args.walker (let a = c.self.invariant.walkers in let b : c.args.walker < c.self.inside.walkers = subst (λ (z : Contents). c.args.walker < z.walkers) (sym c.self.view_is) c.requires.walker in omega arith) (ap (λ z. birth_of z c.args.walker) c.self.view_is ∙ c.requires.none))

pub invariant_of-self : goal.invariant_of-self
invariant_of-self c = sound_begun (contents_of c.self.inside) c.self.invariant _ c.args.walker _ (let h = c.self.invariant.stamps in omega arith) refl refl refl refl c.push.ensures.items
    (let a = c.self.invariant.walkers in let b : c.args.walker < c.self.inside.walkers = subst (λ (z : Contents). c.args.walker < z.walkers) (sym c.self.view_is) c.requires.walker in omega arith)
    (ap (λ z. birth_of z c.args.walker) c.self.view_is ∙ c.requires.none)

pub returns-clause-history : goal.returns-clause-history
returns-clause-history c = λ h rep. snapped_replays h (contents_of c.self.inside) (subst (Replays h) (sym c.self.view_is) rep) c.self.invariant c.args.walker _ (subst (λ (z : Contents). c.args.walker < z.walkers) (sym c.self.view_is) c.requires.walker) (ap (λ z. birth_of z c.args.walker) c.self.view_is ∙ c.requires.none) (subst (λ (z : Contents). z.clock < 2 ^ 64 - 1) (sym c.self.view_is) c.requires.clock) refl refl refl refl refl refl refl c.push.ensures.items
