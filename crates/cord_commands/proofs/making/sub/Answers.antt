-- A part is made while the cord is out, and takes its place.
use Rattle.std.proofs.Common.{◌≡◌, ◌∙◌, sym, ap, refl, take, drop, Some, true, arith}
use Rattle.plain_cord.specs.declared.script.Command.TheVariants as commands
use Rattle.plain_cord.specs.States.{plain}
use Rattle.tree_shapes.specs.Cords.{CordShape, sub_cord}
use Rattle.ordered_names.specs.Named.{named}
use Rattle.cord_value.specs.Views.{cord_shape, no_cord}
use Rattle.cord_commands.specs.Views.{cord_in, names_of, AreSame}
use Rattle.cord_commands.proofs.Absent.{unset-does, set-from}
use Rattle.cord_commands.proofs.Comings.{sub-comes}
use Rattle.cord_commands.proofs.Doing.{made-does, found-in}
use Rattle.cord_commands.proofs.Refused.{parting, copied-shape, part-refused, part-shows, ok-weaker, err-turned}
use Rattle.cord_commands.proofs.Renaming.{set-same, set-twice}
use Rattle.cord_commands.specs.Accounts.{trees_of}
use Rattle.cord_commands.proofs.Steady.{steady-as, stay-steady, steady-unused, part-steady, made-then}
use Rattle.cord_commands.proofs.making.sub.Goals as goal

pub returns-in_default-clause-steady : goal.returns-in_default-clause-steady
returns-in_default-clause-steady g c = stay-steady _ _ _ _ refl c.in_default.ensures.same.1

pub returns-clause-steady : goal.returns-clause-steady
returns-clause-steady g c =
    let e = c.sub-made.ensures in
    let out = c.in-Some.ensures.trees in
    let back = c.put_back.ensures.trees in
    let same = ap trees_of e.kept in
    steady-as _ _ _ _ _ _ (omega arith) refl
    (made-then _ _ _ _ _ _ (part-steady g.P.Naming.limit 32 c.args.w.now c.sub-made.new.w c.sub-made.result e.made e.balanced) c.set_made.ensures.steady)

pub returns-in_default-clause-does : goal.returns-in_default-clause-does
returns-in_default-clause-does g c =
    unset-does g.P.Naming.size g.P.Naming.limit c.args.names.now c.take_out.new.names c.args.w.now (commands.Sub c.args.a.now c.args.pos c.args.n c.args.b.now) c.args.a.now _ refl
    (sym c.in_default.ensures.found) c.in_default.ensures.same.0 c.unset.result
    c.unset.ensures

pub returns-clause-does : goal.returns-clause-does
returns-clause-does g c =
    let size = g.P.Naming.size in
    let limit = g.P.Naming.limit in
    let e = c.sub-made.ensures in
    let r = c.sub-made.result in
    let a = c.args.a.now in
    let pos = c.args.pos in
    let n = c.args.n in
    let b = c.args.b.now in
    let old = c.args.names.now in
    let v = c.args.w.now in
    let m = c.sub-made.new.w in
    let cord = c.in-Some.cord in
    let found : named old a ≡ Some cord = sym c.in-Some.ensures.found in
    let same : AreSame old c.put_back.new.names =
    set-same old c.put_back.new.names a cord c.sub-made.new.self found e.kept
    (set-twice old c.take_out.new.names c.put_back.new.names a no_cord c.sub-made.new.self c.in-Some.ensures.lent c.put_back.ensures.set) in
    made-does size limit old c.set_made.new.names v m c.set_made.new.w (commands.Sub a pos n b) true (parting old a pos n b) (plain (take n (drop pos cord.bytes)))
    (λ all. sub-comes true (names_of old) all a pos n b (cord_in cord) (found-in old a cord found)) tt r
    c.set_made.result
    (λ whole. ok-weaker _ _ r (λ x p. p.formed) e.made)
    (ok-weaker _ _ r (λ x p. sym p) e.bytes)
    (ok-weaker _ _ r (λ x p. ap (λ (s : CordShape). (sub_cord pos n s).tree) (copied-shape old a cord found) ∙ ap (λ (s : CordShape). s.tree) (sym p)) e.shape)
    (λ whole. err-turned _ _ r (λ x p. part-refused size limit old a pos n b cord v m x found c.len.ensures.short p) e.refused)
    (err-turned _ _ r (λ x p. part-shows size limit (sub_cord pos n (cord_shape cord)) v m x p) e.refused)
    e.balanced c.set_made.ensures.idle (steady-unused _ _ _ _ (returns-clause-steady g c))
    (ok-weaker _ _ c.set_made.result (λ answer p. set-from old c.put_back.new.names c.set_made.new.names b r answer same p) c.set_made.ensures.set)
