-- A name that was never set; and after a refusal both names have the cords that they had.
use Rattle.std.proofs.Common.{◌≡◌, ◌∙◌, sym, ap, subst, refl, Some, None, false, arith}
use Rattle.std.specs.Prelude.{OnErr}
use Rattle.std.specs.Str.{bytes_eq}
use Rattle.ordered_names.specs.Named.{named}
use Rattle.cord_value.specs.Views.{no_cord}
use Rattle.cord_commands.specs.Accounts.{trees_of}
use Rattle.cord_commands.proofs.Joins.{first-unset-does, second-unset-does, join-does}
use Rattle.cord_commands.proofs.Steady.{stay-steady, steady-shift, steady-unused}
use Rattle.cord_commands.proofs.Renaming.{err-weaker, set-twice, set-same, set-beside, joined-set, joined-same}
use Rattle.cord_commands.proofs.joining.join.Goals as goal

pub returns-in_default-clause-steady : goal.returns-in_default-clause-steady
returns-in_default-clause-steady g c = stay-steady _ _ _ _ refl c.in_default.ensures.same.1

pub returns-in_default-take_out-clause-steady : goal.returns-in_default-take_out-clause-steady
returns-in_default-take_out-clause-steady g c =
    let out = c.in-Some.ensures.trees in
    let none = c.in_default-take_out.ensures.same.1 in
    let back = c.put_back.ensures.trees in
    stay-steady _ _ _ _ refl (omega arith)

pub returns-clause-same : goal.returns-clause-same
returns-clause-same g c = err-weaker c.changed.result _ _
    (λ memory. joined-same c.args.names.now c.take_out.new.names c.take_out-2.new.names c.put_back-2.new.names c.put_back-3.new.names c.args.a.now c.args.b.now c.in-Some.cord c.in-Some-take_out.other c.add_cord-added.new.cord c.add_cord-added.new.other
    (sym c.in-Some.ensures.found) (sym c.in-Some-take_out.ensures.found) c.in-Some.ensures.lent c.in-Some-take_out.ensures.lent c.put_back-2.ensures.set c.put_back-3.ensures.set
    (subst (λ z. OnErr z (c.add_cord-added.new.cord ≡ c.in-Some.cord)) memory c.add_cord-added.ensures.same) c.add_cord-added.ensures.kept)
    c.changed.ensures.memory

pub returns-clause-steady : goal.returns-clause-steady
returns-clause-steady g c =
    let one = c.in-Some.ensures.trees in
    let two = c.in-Some-take_out.ensures.trees in
    let three = c.put_back-2.ensures.trees in
    let four = c.put_back-3.ensures.trees in
    let same = ap trees_of c.add_cord-added.ensures.kept in
    steady-shift _ _ _ _ _ _ c.add_cord-added.ensures.steady (omega arith)

pub returns-in_default-clause-does : goal.returns-in_default-clause-does
returns-in_default-clause-does g c =
    first-unset-does g.P.Naming.size g.P.Naming.limit c.args.names.now c.take_out.new.names c.args.w.now c.args.side c.args.a.now c.args.b.now
    (sym c.in_default.ensures.found) c.in_default.ensures.same.0 c.unset.result c.unset.ensures

pub returns-in_default-take_out-clause-does : goal.returns-in_default-take_out-clause-does
returns-in_default-take_out-clause-does g c =
    let old = c.args.names.now in
    let a = c.args.a.now in
    let b = c.args.b.now in
    let cord = c.in-Some.cord in
    let found : named old a ≡ Some cord = sym c.in-Some.ensures.found in
    let apart : bytes_eq a b ≡ false = sym c.eq.ensures ∙ c.if-eq.false in
    let none : named old b ≡ None = set-beside old c.take_out.new.names a b no_cord c.in-Some.ensures.lent apart ∙ sym c.in_default-take_out.ensures.found in
    second-unset-does g.P.Naming.size g.P.Naming.limit old c.put_back.new.names c.args.w.now c.args.side a b cord found none
    (set-same old c.put_back.new.names a cord cord found refl (set-twice old c.take_out-2.new.names c.put_back.new.names a no_cord cord
    (λ q. c.in_default-take_out.ensures.same.0 q ∙ c.in-Some.ensures.lent q) c.put_back.ensures.set))
    c.unset-in_default-take_out.result c.unset-in_default-take_out.ensures

pub returns-clause-does : goal.returns-clause-does
returns-clause-does g c =
    let old = c.args.names.now in
    let a = c.args.a.now in
    let b = c.args.b.now in
    let e = c.add_cord-added.ensures in
    let apart : bytes_eq a b ≡ false = sym c.eq.ensures ∙ c.if-eq.false in
    join-does g.P.Naming.size g.P.Naming.limit old c.put_back-3.new.names c.args.w.now c.add_cord-added.new.w c.args.side a b c.in-Some.cord c.in-Some-take_out.other c.add_cord-added.new.cord
    (sym c.in-Some.ensures.found)
    (set-beside old c.take_out.new.names a b no_cord c.in-Some.ensures.lent apart ∙ sym c.in-Some-take_out.ensures.found) apart (steady-unused _ _ _ _ e.steady)
    (joined-set old c.take_out.new.names c.take_out-2.new.names c.put_back-2.new.names c.put_back-3.new.names a b c.in-Some-take_out.other c.add_cord-added.new.cord c.add_cord-added.new.other
    (sym c.in-Some-take_out.ensures.found) c.in-Some.ensures.lent
    c.in-Some-take_out.ensures.lent c.put_back-2.ensures.set c.put_back-3.ensures.set e.kept)
    c.len.ensures.formed c.len.ensures.short c.add_cord-added.result c.changed.result e.bytes e.shape e.some e.refused e.balanced e.same c.changed.ensures.answer
