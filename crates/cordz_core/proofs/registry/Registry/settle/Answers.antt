-- A record that is settled did not wait, so the queue has room for it.
use Rattle.std.proofs.Common.{◌≡◌, ◌<◌, refl, sym, ap, ◌∙◌, subst, arith, lit<}
use Rattle.cordz_core.specs.Contents.{Contents, state_of}
use Rattle.cordz_core.specs.Inside.{contents_of}
use Rattle.cordz_core.specs.declared.slot.Entry.{Entry}
use Rattle.cordz_core.proofs.Sound.{sound_queued, not_queued, room_for}
use Rattle.std.proofs.Common.{◌-◌, ◌^◌, true, false}
use Rattle.std.proofs.lemmas.Bool.{eqb-true, eq-eqb}
use Rattle.std.proofs.lemmas.List.{nil_from_length}
use Rattle.cordz_core.specs.Legal.{Replays}
use Rattle.cordz_core.proofs.Queues.{deleted_replays, queued_replays}
use Rattle.std.proofs.Common.{get_or-set_same}
use Rattle.cordz_core.specs.Contents.{blank}
use Rattle.cordz_core.proofs.Deleting.{settle_deletes, settle_deletes_not}
use Rattle.cordz_core.proofs.registry.Registry.settle.Goals as goal

pub push-requires : goal.push-requires
push-requires c = (lit< tt, room_for (contents_of c.self.inside) c.self.invariant c.args.slot c.requires.slot (not_queued _ _ c.args.slot _ c.self.view_is c.requires.leaving (λ e. cc)))

pub invariant_of-self-2 : goal.invariant_of-self-2
invariant_of-self-2 c = sound_queued (contents_of c.self.inside) c.self.invariant _ c.args.slot _ _ (let h = c.self.invariant.stamps in omega arith) refl refl refl refl refl c.push.ensures.items c.requires.slot
    (not_queued _ _ c.args.slot _ c.self.view_is c.requires.leaving (λ e. cc))

pub returns-then-is_empty-clause-history : goal.returns-then-is_empty-clause-history
returns-then-is_empty-clause-history c = λ h rep. deleted_replays h (contents_of c.self.inside) (subst (Replays h) (sym c.self.view_is) rep) c.self.invariant c.args.slot _ c.requires.slot (ap (λ z. state_of z c.args.slot) c.self.view_is ∙ c.requires.leaving) _ refl (nil_from_length _ (eqb-true _ _ (sym c.is_empty.ensures ∙ c.if-is_empty.true))) (subst (λ (z : Contents). z.clock < 2 ^ 64 - 1) (sym c.self.view_is) c.requires.clock) refl refl refl refl refl refl refl refl

pub returns-clause-history : goal.returns-clause-history
returns-clause-history c = λ h rep. queued_replays h (contents_of c.self.inside) (subst (Replays h) (sym c.self.view_is) rep) c.self.invariant c.args.slot _ c.requires.slot (ap (λ z. state_of z c.args.slot) c.self.view_is ∙ c.requires.leaving) _ refl _ refl (λ e. (let f : false ≡ true = sym c.if-is_empty.false ∙ (c.is_empty.ensures ∙ eq-eqb _ 0 e) in cc)) (subst (λ (z : Contents). z.clock < 2 ^ 64 - 1) (sym c.self.view_is) c.requires.clock) refl refl refl refl refl refl refl c.push.ensures.items

pub returns-then-is_empty-clause-place : goal.returns-then-is_empty-clause-place
returns-then-is_empty-clause-place c = λ h rep. (
  (λ e. settle_deletes h c.args.self.now _ c.args.slot rep (returns-then-is_empty-clause-history c h rep) c.requires.slot c.requires.leaving (ap (λ (z : Entry). z.state) (get_or-set_same c.self.inside.entries c.args.slot _ blank (let l = c.self.invariant.entries in let k = c.requires.slot in omega arith)))),
  (λ d. refl),
)

pub returns-clause-place : goal.returns-clause-place
returns-clause-place c = λ h rep. (
  (λ e. absurd (cc)),
  (λ d. absurd (settle_deletes_not h c.args.self.now _ c.args.slot rep (returns-clause-history c h rep) c.requires.slot c.requires.leaving (ap (λ (z : Entry). z.state) (get_or-set_same c.self.inside.entries c.args.slot _ blank (let l = c.self.invariant.entries in let k = c.requires.slot in omega arith))) d)),
)
