-- No box is left, or there is no memory for the bytes, or a cord is made and takes its place.
use Rattle.std.proofs.Common.{◌≡◌, ◌∙◌, sym, ap, subst, refl, ℕ, ◌+◌, ◌≤◌, List, length}
use Rattle.plain_cord.specs.Texts.{text_bytes}
use Rattle.tree_shapes.specs.Cords.{cord_of_external}
use Rattle.ordered_names.specs.Named.{named}
use Rattle.cordz_desk.specs.Tokens.{token_of}
use Rattle.cord_value.specs.Views.{cord_shape, passes_of}
use Rattle.cord_sampled.specs.Making.{turn_after}
use Rattle.sampled_commands.specs.Accounts.{seen}
use Rattle.sampled_commands.specs.Answers.{new_mark}
use Rattle.sampled_commands.specs.Leaving.{stamp_gone}
use Rattle.sampled_commands.specs.Views.{IsWhole}
use Rattle.sampled_commands.proofs.Externals.{IsExternalBy, no-box-does, external-by, external-marked, external-used, external-does}
use Rattle.sampled_commands.proofs.Fresh.{session-ok, session-err, made-whole, setting}
use Rattle.sampled_commands.proofs.Marks.{IsMarkedAs}
use Rattle.sampled_commands.proofs.Ongoing.{ongoing-then, ongoing-same, adds-then, adds-none, idle-same}
use Rattle.sampled_commands.proofs.Results.{ok-always, ok-weaker, ok-with, ok-four, err-turned, err-on, err-with}
use Rattle.sampled_commands.proofs.Slotted.{idle-slots, idle-uses, slots-then}
use Rattle.sampled_commands.proofs.Working.{made-works, works-none}
use Rattle.sampled_commands.proofs.external.set_external.Goals as goal

pub returns-in_default-clause-ongoing : goal.returns-in_default-clause-ongoing
returns-in_default-clause-ongoing g c = ongoing-same _ _ refl refl

pub returns-in_default-clause-even : goal.returns-in_default-clause-even
returns-in_default-clause-even g c = adds-none _ _ _ _ _ _ refl refl refl refl

pub returns-in_default-clause-does : goal.returns-in_default-clause-does
returns-in_default-clause-does g c =
    no-box-does g.P.Naming.size g.P.Naming.limit c.args.hand.now.stride c.args.names.now c.args.names.now _ _ c.args.a.now c.args.text.now (λ q. refl) refl refl c.in_default.ensures.none

pub returns-in_default-clause-desk : goal.returns-in_default-clause-desk
returns-in_default-clause-desk g c = works-none c.args.names.now c.args.names.now _ _ _ (λ q. refl) refl refl

pub returns-in_default-clause-uses : goal.returns-in_default-clause-uses
returns-in_default-clause-uses g c = idle-uses _ _ (idle-same _ _ refl)

pub returns-in_err-bytes-clause-ongoing : goal.returns-in_err-bytes-clause-ongoing
returns-in_err-bytes-clause-ongoing g c = ongoing-same _ _ refl refl

pub returns-clause-ongoing : goal.returns-clause-ongoing
returns-clause-ongoing g c =
    let e = c.from_external-made.ensures in
    let h = c.args.hand.now in
    let i = c.from_external-made.new.hand in
    let v = seen h.worker (token_of h.pass) h.made in
    let m = seen i.worker (token_of i.pass) i.made in
    let rs = c.from_external-made.result in
    let r = c.of_session.result in
    let is = c.of_session.ensures in
    let next = c.in-Some.ensures.next in
    let bytes = c.as_slice.result.now in
    let by = subst (IsExternalBy (length bytes) v m) (sym is) (external-by g.P.Naming.limit (length bytes) (turn_after h.stride h.made) v m _ next.0 next.1 rs
    (ok-weaker _ _ rs (λ x p. ap passes_of p) e.node) e.recorded e.worker e.undone e.token) in
    ongoing-then v m _ by.ongoing c.set_made.ensures.ongoing

pub returns-clause-slots : goal.returns-clause-slots
returns-clause-slots g c =
    let e = c.from_external-made.ensures in
    let h = c.args.hand.now in
    let i = c.from_external-made.new.hand in
    let v = seen h.worker (token_of h.pass) h.made in
    let m = seen i.worker (token_of i.pass) i.made in
    let rs = c.from_external-made.result in
    let r = c.of_session.result in
    let is = c.of_session.ensures in
    let next = c.in-Some.ensures.next in
    let bytes = c.as_slice.result.now in
    let by = subst (IsExternalBy (length bytes) v m) (sym is) (external-by g.P.Naming.limit (length bytes) (turn_after h.stride h.made) v m _ next.0 next.1 rs
    (ok-weaker _ _ rs (λ x p. ap passes_of p) e.node) e.recorded e.worker e.undone e.token) in
    let w = c.set_made.new.hand.worker in
    slots-then v.worker m.worker w by.slots (idle-slots m.worker w c.set_made.ensures.idle)

pub returns-clause-even : goal.returns-clause-even
returns-clause-even g c =
    let e = c.from_external-made.ensures in
    let h = c.args.hand.now in
    let i = c.from_external-made.new.hand in
    let v = seen h.worker (token_of h.pass) h.made in
    let m = seen i.worker (token_of i.pass) i.made in
    let rs = c.from_external-made.result in
    let r = c.of_session.result in
    let is = c.of_session.ensures in
    let next = c.in-Some.ensures.next in
    let bytes = c.as_slice.result.now in
    let by = subst (IsExternalBy (length bytes) v m) (sym is) (external-by g.P.Naming.limit (length bytes) (turn_after h.stride h.made) v m _ next.0 next.1 rs
    (ok-weaker _ _ rs (λ x p. ap passes_of p) e.node) e.recorded e.worker e.undone e.token) in
    ok-always c.set_made.result _ (adds-then v m _ _ _ _ _ _ _ by.even c.set_made.ensures.even)

pub returns-clause-desk : goal.returns-clause-desk
returns-clause-desk g c =
    let e = c.from_external-made.ensures in
    let h = c.args.hand.now in
    let i = c.from_external-made.new.hand in
    let v = seen h.worker (token_of h.pass) h.made in
    let m = seen i.worker (token_of i.pass) i.made in
    let rs = c.from_external-made.result in
    let r = c.of_session.result in
    let is = c.of_session.ensures in
    let next = c.in-Some.ensures.next in
    let bytes = c.as_slice.result.now in
    let by = subst (IsExternalBy (length bytes) v m) (sym is) (external-by g.P.Naming.limit (length bytes) (turn_after h.stride h.made) v m _ next.0 next.1 rs
    (ok-weaker _ _ rs (λ x p. ap passes_of p) e.node) e.recorded e.worker e.undone e.token) in
    let j = c.set_made.new.hand in
    let old = c.args.names.now in
    made-works old old c.set_made.new.names v.token m.token (token_of j.pass) c.args.a.now r c.set_made.result (λ q. refl) by.noted
    (err-with _ _ _ r (λ x still refused. ap (λ z. token_of z.pass) refused ∙ still) by.still c.set_made.ensures.refused) c.set_made.ensures.desk c.set_made.ensures.set

pub returns-clause-uses : goal.returns-clause-uses
returns-clause-uses g c =
    let e = c.from_external-made.ensures in
    let h = c.args.hand.now in
    let i = c.from_external-made.new.hand in
    let v = seen h.worker (token_of h.pass) h.made in
    let m = seen i.worker (token_of i.pass) i.made in
    let rs = c.from_external-made.result in
    let r = c.of_session.result in
    let is = c.of_session.ensures in
    let next = c.in-Some.ensures.next in
    let bytes = c.as_slice.result.now in
    let by = subst (IsExternalBy (length bytes) v m) (sym is) (external-by g.P.Naming.limit (length bytes) (turn_after h.stride h.made) v m _ next.0 next.1 rs
    (ok-weaker _ _ rs (λ x p. ap passes_of p) e.node) e.recorded e.worker e.undone e.token) in
    let j = c.set_made.new.hand in
    let same : bytes ≡ text_bytes c.args.text.now = c.as_slice.ensures ∙ c.in_ok-bytes.ensures in
    external-used (length bytes) v.worker m.worker j.worker c.args.names.now c.set_made.new.names c.args.a.now c.args.text.now (ap length same) c.set_made.ensures.idle r c.set_made.result by.uses by.idle
    c.set_made.ensures.set

pub returns-clause-does : goal.returns-clause-does
returns-clause-does g c =
    let e = c.from_external-made.ensures in
    let h = c.args.hand.now in
    let i = c.from_external-made.new.hand in
    let v = seen h.worker (token_of h.pass) h.made in
    let m = seen i.worker (token_of i.pass) i.made in
    let rs = c.from_external-made.result in
    let r = c.of_session.result in
    let is = c.of_session.ensures in
    let next = c.in-Some.ensures.next in
    let bytes = c.as_slice.result.now in
    let by = subst (IsExternalBy (length bytes) v m) (sym is) (external-by g.P.Naming.limit (length bytes) (turn_after h.stride h.made) v m _ next.0 next.1 rs
    (ok-weaker _ _ rs (λ x p. ap passes_of p) e.node) e.recorded e.worker e.undone e.token) in
    let j = c.set_made.new.hand in
    let w = seen j.worker (token_of j.pass) j.made in
    let old = c.args.names.now in
    let a = c.args.a.now in
    let text = c.args.text.now in
    let kept = c.set_made.ensures.kept in
    let same : bytes ≡ text_bytes text = c.as_slice.ensures ∙ c.in_ok-bytes.ensures in
    external-does g.P.Naming.size g.P.Naming.limit h.stride (turn_after h.stride h.made) old c.set_made.new.names v m w a text bytes same _ next.0 next.1
    (subst (λ (z : List ℕ). length z ≤ 2147483647) (sym same) c.requires.within.1) r c.set_made.result
    (session-ok rs r is (λ x. x.0.cord.bytes ≡ bytes) e.bytes)
    (session-ok rs r is (λ x. IsWhole x.0) (ok-with _ _ _ rs (λ x formed recorded. made-whole _ x.0 x.1 v.token m.token formed recorded) e.formed e.recorded))
    (session-ok rs r is (λ x. cord_shape x.0.cord ≡ cord_of_external (length bytes)) e.shape)
    (session-ok rs r is (λ x. IsMarkedAs h.stride h.made (setting old a (cord_of_external (length bytes))) x.0.sample (new_mark x.1) (stamp_gone (named old a)))
    (ok-four _ _ _ _ _ rs (λ x node shape formed recorded. external-marked h.stride h.made old a (length bytes) _ x.0 x.1 v.token m.token node shape formed recorded)
    e.node e.shape e.formed e.recorded))
    (session-ok rs r is (λ x. w.made ≡ v.made + 1) (ok-weaker _ _ rs (λ x p. kept.1 ∙ p) e.made))
    by.unused (session-err rs r is _ e.refused) (session-err rs r is _ e.undone)
    (err-turned _ _ r (λ x p. ap (λ z. z.worker) p) c.set_made.ensures.refused)
    (session-err rs r is _ (err-turned _ _ rs (λ x p. kept.1 ∙ p) (err-on rs _ e.unmade)))
    c.set_made.ensures.idle.unused c.set_made.ensures.set
