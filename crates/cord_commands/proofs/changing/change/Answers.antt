-- The name was never set; and after a refusal it has the cord that it had.
use Rattle.std.proofs.Common.{◌≡◌, sym, subst, refl, arith}
use Rattle.std.specs.Prelude.{OnErr}
use Rattle.cord_value.specs.Views.{no_cord}
use Rattle.cord_commands.proofs.Steady.{stay-steady, steady-shift, steady-unused}
use Rattle.cord_commands.proofs.Absent.{edit-unset}
use Rattle.cord_commands.proofs.EditLaws.{edit-does}
use Rattle.cord_commands.proofs.Placing.{edit-places, unset-places}
use Rattle.cord_commands.proofs.Renaming.{err-weaker, set-twice, set-same}
use Rattle.cord_commands.proofs.changing.change.Goals as goal

pub returns-in_default-clause-steady : goal.returns-in_default-clause-steady
returns-in_default-clause-steady g c = stay-steady _ _ _ _ refl c.in_default.ensures.same.1

pub returns-clause-same : goal.returns-clause-same
returns-clause-same g c = err-weaker c.changed.result _ _
    (λ memory. set-same c.args.names.now c.put_back.new.names c.args.a.now c.in-Some.cord c.apply-edited.new.cord (sym c.in-Some.ensures.found)
    (subst (λ z. OnErr z (c.apply-edited.new.cord ≡ c.in-Some.cord)) memory c.apply-edited.ensures.same)
    (set-twice c.args.names.now c.take_out.new.names c.put_back.new.names c.args.a.now no_cord c.apply-edited.new.cord c.in-Some.ensures.lent c.put_back.ensures.set))
    c.changed.ensures.memory

pub returns-clause-steady : goal.returns-clause-steady
returns-clause-steady g c =
    let out = c.in-Some.ensures.trees in
    let back = c.put_back.ensures.trees in
    steady-shift _ _ _ _ _ _ c.apply-edited.ensures.steady (omega arith)

pub returns-in_default-clause-does : goal.returns-in_default-clause-does
returns-in_default-clause-does g c = edit-unset g.P.Naming.size g.P.Naming.limit c.args.names.now c.take_out.new.names c.args.w.now c.args.a.now c.args.by (sym c.in_default.ensures.found) c.in_default.ensures.same.0 c.unset.result c.unset.ensures

pub returns-clause-does : goal.returns-clause-does
returns-clause-does g c =
    let e = c.apply-edited.ensures in
    edit-does g.P.Naming.size g.P.Naming.limit c.args.names.now c.put_back.new.names c.args.w.now c.apply-edited.new.w c.args.a.now c.in-Some.cord c.apply-edited.new.cord c.args.by (sym c.in-Some.ensures.found)
    (set-twice c.args.names.now c.take_out.new.names c.put_back.new.names c.args.a.now no_cord c.apply-edited.new.cord c.in-Some.ensures.lent c.put_back.ensures.set)
    (steady-unused _ _ _ _ e.steady) c.requires.apt c.len-2.ensures.formed c.len-2.ensures.short c.len.ensures.short c.apply-edited.result c.changed.result e.edited e.refused e.balanced e.same c.changed.ensures.answer

pub returns-in_default-clause-placed : goal.returns-in_default-clause-placed
returns-in_default-clause-placed g c = unset-places c.args.names.now c.take_out.new.names c.args.w.now c.args.w.now c.args.a.now c.args.by c.unset.result (sym c.in_default.ensures.found)

pub returns-clause-placed : goal.returns-clause-placed
returns-clause-placed g c =
    let e = c.apply-edited.ensures in
    edit-places c.args.names.now c.put_back.new.names c.args.w.now c.apply-edited.new.w c.args.a.now c.args.by c.in-Some.cord c.apply-edited.new.cord (sym c.in-Some.ensures.found)
    (set-twice c.args.names.now c.take_out.new.names c.put_back.new.names c.args.a.now no_cord c.apply-edited.new.cord c.in-Some.ensures.lent c.put_back.ensures.set)
    c.apply-edited.result c.changed.result e.placed e.shared_if_err c.changed.ensures.answer
