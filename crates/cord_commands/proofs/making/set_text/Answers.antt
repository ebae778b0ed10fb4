-- A cord is made, and takes its place.
use Rattle.std.proofs.Common.{◌≡◌, ◌∙◌, sym, ap, subst, refl, ℕ, ◌≤◌, List, length, true}
use Rattle.std.specs.Prelude.{IfOk, IfErr}
use Rattle.plain_cord.specs.declared.script.Command.TheVariants as commands
use Rattle.plain_cord.specs.States.{plain}
use Rattle.plain_cord.specs.Texts.{text_bytes}
use Rattle.tree_shapes.specs.Cords.{CordShape, cord_of_bytes}
use Rattle.cord_value.specs.Views.{cord_shape}
use Rattle.cord_commands.specs.Views.{names_of}
use Rattle.cord_commands.proofs.Comings.{let-comes}
use Rattle.cord_commands.proofs.Doing.{Refuses, made-does}
use Rattle.cord_commands.proofs.Refused.{letting, bytes-refused, bytes-shows, ok-weaker, err-turned}
use Rattle.cord_commands.proofs.Steady.{same-steady, made-steady, made-then, steady-unused}
use Rattle.cord_commands.proofs.making.set_text.Goals as goal

pub returns-in_err-bytes-clause-steady : goal.returns-in_err-bytes-clause-steady
returns-in_err-bytes-clause-steady g c = same-steady _ _ _ refl

pub returns-clause-steady : goal.returns-clause-steady
returns-clause-steady g c =
    let e = c.from_bytes-made.ensures in
    made-then _ _ _ _ _ _ (made-steady g.P.Naming.limit c.args.w.now c.from_bytes-made.new.w c.from_bytes-made.result e.numbers e.balanced) c.set_made.ensures.steady

pub returns-clause-does : goal.returns-clause-does
returns-clause-does g c =
    let size = g.P.Naming.size in
    let limit = g.P.Naming.limit in
    let e = c.from_bytes-made.ensures in
    let r = c.from_bytes-made.result in
    let a = c.args.a.now in
    let text = c.args.text.now in
    let old = c.args.names.now in
    let v = c.args.w.now in
    let m = c.from_bytes-made.new.w in
    let bytes = c.as_slice.result.now in
    let same : bytes ≡ text_bytes text = c.as_slice.ensures ∙ c.in_ok-bytes.ensures in
    let short : length bytes ≤ 2147483647 = subst (λ (z : List ℕ). length z ≤ 2147483647) (sym same) c.requires.within in
    made-does size limit old c.set_made.new.names v m c.set_made.new.w (commands.Let a text) true (letting a (names_of old a) (length (text_bytes text))) (plain (text_bytes text)) (λ all. let-comes true (names_of old) all a text) c.requires.within r c.set_made.result
    (λ whole. e.formed)
    (subst (λ (z : List ℕ). IfOk r (λ x. z ≡ x.bytes)) same (ok-weaker _ _ r (λ x p. sym p) e.bytes))
    (subst (λ (z : List ℕ). IfOk r (λ x. (cord_of_bytes (length z)).tree ≡ (cord_shape x).tree)) same (ok-weaker _ _ r (λ x p. ap (λ (s : CordShape). s.tree) (sym p)) e.shape))
    (λ whole. subst (λ (z : List ℕ). IfErr r (λ x. Refuses size limit (letting a (names_of old a) (length z)) x)) same (err-turned _ _ r (λ x p. bytes-refused size limit (length bytes) a (names_of old a) v m x short p) e.refused))
    (err-turned _ _ r (λ x p. bytes-shows size limit (length bytes) v m x p) e.refused)
    e.balanced c.set_made.ensures.idle (steady-unused _ _ _ _ (returns-clause-steady g c)) c.set_made.ensures.set
