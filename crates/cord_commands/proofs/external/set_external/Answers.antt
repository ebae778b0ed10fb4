-- No box is left, or there is no memory for the bytes, or a cord is made and takes its place.
use Rattle.std.proofs.Common.{◌≡◌, ◌∙◌, sym, ap, subst, refl, ℕ, ◌≤◌, List, length}
use Rattle.plain_cord.specs.Texts.{text_bytes}
use Rattle.cord_value.specs.Views.{passes_of}
use Rattle.cord_commands.proofs.Externals.{no-box-does, external-even, external-same, external-used, external-does}
use Rattle.cord_commands.proofs.Refused.{ok-weaker}
use Rattle.cord_commands.proofs.Slotted.{steady-even, steady-uses}
use Rattle.cord_commands.proofs.Steady.{same-steady, steady-unused}
use Rattle.cord_commands.proofs.external.set_external.Goals as goal

pub returns-in_default-clause-even : goal.returns-in_default-clause-even
returns-in_default-clause-even g c = steady-even _ _ _ _ (same-steady _ _ _ refl)

pub returns-in_default-clause-does : goal.returns-in_default-clause-does
returns-in_default-clause-does g c =
    no-box-does g.P.Naming.size g.P.Naming.limit c.args.names.now c.args.names.now c.args.w.now c.args.w.now c.args.a.now c.args.text.now (λ q. refl) refl c.in_default.ensures.none

pub returns-in_default-clause-uses : goal.returns-in_default-clause-uses
returns-in_default-clause-uses g c = steady-uses _ _ 0 0 (same-steady _ _ 0 refl)

pub returns-in_err-bytes-clause-even : goal.returns-in_err-bytes-clause-even
returns-in_err-bytes-clause-even g c = steady-even _ _ _ _ (same-steady _ _ _ refl)

pub returns-clause-even : goal.returns-clause-even
returns-clause-even g c =
    let e = c.from_external-made.ensures in
    external-even g.P.Naming.limit c.args.w.now c.from_external-made.new.w c.set_made.new.w _ c.in-Some.ensures.next.0 c.in-Some.ensures.next.1
    (length c.as_slice.result.now) _ _ c.from_external-made.result c.set_made.ensures.steady e.made e.balanced
    (ok-weaker _ _ c.from_external-made.result (λ x p. ap passes_of p) e.node)

pub returns-clause-slots : goal.returns-clause-slots
returns-clause-slots g c =
    let e = c.from_external-made.ensures in
    external-same g.P.Naming.limit c.args.w.now c.from_external-made.new.w c.set_made.new.w _ c.in-Some.ensures.next.0 c.in-Some.ensures.next.1
    (length c.as_slice.result.now) _ _ c.from_external-made.result c.set_made.ensures.steady e.made e.balanced

pub returns-clause-uses : goal.returns-clause-uses
returns-clause-uses g c =
    let e = c.from_external-made.ensures in
    let same = c.as_slice.ensures ∙ c.in_ok-bytes.ensures in
    external-used g.P.Naming.limit c.args.w.now c.from_external-made.new.w c.set_made.new.w _ c.in-Some.ensures.next.0 c.in-Some.ensures.next.1
    (length c.as_slice.result.now) _ _ c.from_external-made.result c.set_made.ensures.steady e.made e.balanced
    c.args.names.now c.set_made.new.names c.args.a.now c.args.text.now (ap length same) c.set_made.result c.set_made.ensures.set

pub returns-clause-does : goal.returns-clause-does
returns-clause-does g c =
    let e = c.from_external-made.ensures in
    let same : c.as_slice.result.now ≡ text_bytes c.args.text.now = c.as_slice.ensures ∙ c.in_ok-bytes.ensures in
    external-does g.P.Naming.size g.P.Naming.limit c.args.names.now c.set_made.new.names c.args.w.now c.from_external-made.new.w c.set_made.new.w c.args.a.now c.args.text.now
    c.as_slice.result.now same _ c.in-Some.ensures.next.0 c.in-Some.ensures.next.1
    (subst (λ (z : List ℕ). length z ≤ 2147483647) (sym same) c.requires.within.1) c.from_external-made.result c.set_made.result e.bytes e.formed e.shape e.made e.refused e.balanced
    c.set_made.ensures.idle (steady-unused _ _ _ _ c.set_made.ensures.steady)
    c.set_made.ensures.set
