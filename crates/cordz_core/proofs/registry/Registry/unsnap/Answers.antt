-- What stands behind the snapshot that ends, and what of it is to be cleared.
use Rattle.std.proofs.Common.{◌≡◌, ◌<◌, refl, sym, ap, ◌∙◌, subst, arith, length, drop}
use Rattle.std.specs.Prelude.{remove}
use Rattle.cordz_core.specs.Contents.{Contents, birth_of}
use Rattle.cordz_core.specs.Inside.{contents_of}
use Rattle.cordz_core.specs.Links.{cleared}
use Rattle.cordz_core.specs.Queue.{Apart, codes, leading, without_walker, AllFit, kept_behind}
use Rattle.cordz_core.proofs.Sound.{sound_ended, ended_ends, apart_without, fit_without, fits_from_marked, drop_leading}
use Rattle.std.proofs.Common.{◌-◌, ◌^◌}
use Rattle.std.specs.Prelude.{IsSome}
use Rattle.cordz_core.specs.Legal.{Replays}
use Rattle.cordz_core.proofs.Queues.{ended_replays}
use Rattle.cordz_core.specs.History.{History}
use Rattle.cordz_core.specs.Queue.{has}
use Rattle.cordz_core.specs.Legal.{queue_after, settle_places, IsRisingFrom}
use Rattle.cordz_core.proofs.Deleting.{unsnap_gives, unsnap_gives_all, unsnap_in_order}
use Rattle.cordz_core.proofs.registry.Registry.unsnap.Goals as goal

-- the queue without the snapshot, as it was read
rest : (c : goal.After-deref-2) → c.deref-2.result.now ≡ without_walker c.args.walker c.self.inside.queue.items
rest c =
    let e = c.deref.ensures.0 in
    c.deref-2.ensures.0 ∙ (c.remove.ensures.items ∙ (ap (λ l. remove l c.place_of-place.result) (sym e) ∙ (c.place_of-place.ensures.place ∙ ap (without_walker c.args.walker) e)))

pub place_of-place-requires-clause-fit : goal.place_of-place-requires-clause-fit
place_of-place-requires-clause-fit c = subst AllFit (sym c.deref.ensures.0) (fits_from_marked _ _ _ c.self.invariant.marked)

pub leading_records-deleted-requires-clause-apart : goal.leading_records-deleted-requires-clause-apart
leading_records-deleted-requires-clause-apart c = subst (λ q. Apart (codes q)) (sym (rest c)) (apart_without (contents_of c.self.inside) c.self.invariant c.args.walker)

pub leading_records-deleted-requires-clause-fit : goal.leading_records-deleted-requires-clause-fit
leading_records-deleted-requires-clause-fit c = subst AllFit (sym (rest c)) (fit_without (contents_of c.self.inside) c.self.invariant c.args.walker)

-- the same, at the end
left : (c : goal.After-clear) → c.deref-2.result.now ≡ without_walker c.args.walker c.self.inside.queue.items
left c =
    let e = c.deref.ensures.0 in
    c.deref-2.ensures.0 ∙ (c.remove.ensures.items ∙ (ap (λ l. remove l c.place_of-place.result) (sym e) ∙ (c.place_of-place.ensures.place ∙ ap (without_walker c.args.walker) e)))

-- what is given is what stood at its front
given : (c : goal.After-clear) → c.leading_records-deleted.result.items ≡ leading (without_walker c.args.walker c.self.inside.queue.items)
given c = c.leading_records-deleted.ensures.items ∙ ap leading (left c)

entries : (c : goal.After-clear) → c.clear.new.entries ≡ cleared c.self.inside.entries c.leading_records-deleted.result.items
entries c = c.clear.ensures ∙ ap (cleared c.self.inside.entries) c.deref-4.ensures.0

behind : (c : goal.After-clear) → c.behind-self-inside.result.items ≡ kept_behind (without_walker c.args.walker c.self.inside.queue.items)
behind c =
    let same : c.deref-3.result.now ≡ without_walker c.args.walker c.self.inside.queue.items = c.deref-3.ensures.0 ∙ (sym c.deref-2.ensures.0 ∙ left c) in
    let many : c.len.result ≡ length (leading (without_walker c.args.walker c.self.inside.queue.items)) = c.len.ensures.value ∙ ap length (given c) in
    c.behind-self-inside.ensures ∙ (ap (λ n. drop n c.deref-3.result.now) many ∙ (ap (λ l. drop (length (leading (without_walker c.args.walker c.self.inside.queue.items))) l) same ∙ drop_leading (without_walker c.args.walker c.self.inside.queue.items)))

pub invariant_of-self : goal.invariant_of-self
invariant_of-self c = sound_ended (contents_of c.self.inside) c.self.invariant _ c.args.walker (let h = c.self.invariant.stamps in omega arith) refl refl (entries c ∙ ap (cleared c.self.inside.entries) (given c)) refl (behind c) c.requires.walker

pub returns-clause-ends : goal.returns-clause-ends
returns-clause-ends c = ended_ends (contents_of c.self.inside) c.self.invariant _ _ c.args.walker _ c.self.view_is refl refl refl (given c) (entries c) c.requires.walker

pub returns-clause-history : goal.returns-clause-history
returns-clause-history c = λ h rep. ended_replays h (contents_of c.self.inside) (subst (Replays h) (sym c.self.view_is) rep) c.self.invariant c.args.walker _ _ c.requires.walker (subst (λ (z : Contents). IsSome (birth_of z c.args.walker)) (sym c.self.view_is) c.requires.one) (subst (λ (z : Contents). z.clock < 2 ^ 64 - 1) (sym c.self.view_is) c.requires.clock) refl refl refl refl (given c) (entries c) refl refl (behind c)

-- what is given, by the history
from : (c : goal.After-clear) → (h : History) → Replays h c.args.self.now → c.leading_records-deleted.result.items ≡ leading (without_walker c.args.walker (queue_after h))
from c h rep = given c ∙ ap (λ q. leading (without_walker c.args.walker q)) (ap (λ z. z.queue) c.self.view_is ∙ rep.queue)

pub returns-clause-given : goal.returns-clause-given
returns-clause-given c = λ h rep s. (
  (λ e. unsnap_gives h _ c.args.walker (returns-clause-history c h rep).legal s (sym (ap (has s) (from c h rep)) ∙ e)),
  (λ d. ap (has s) (from c h rep) ∙ unsnap_gives_all h _ c.args.walker (returns-clause-history c h rep).legal s d.0 d.1),
)

pub returns-clause-order : goal.returns-clause-order
returns-clause-order c = λ h rep. subst (λ l. IsRisingFrom 0 (settle_places h l)) (sym (from c h rep)) (unsnap_in_order h _ c.args.walker (returns-clause-history c h rep).legal)
