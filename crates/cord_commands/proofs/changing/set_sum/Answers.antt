-- Nothing is done to a name that was never set, and to an empty cord.
use Rattle.std.proofs.Common.{◌∙◌, sym, ap, refl}
use Rattle.std.specs.Option.{option_copied}
use Rattle.cord_commands.specs.declared.edits.Edit.TheVariants.{SetSum}
use Rattle.cord_commands.proofs.Absent.{edit-unset, no-bytes-does}
use Rattle.cord_commands.proofs.Steady.{same-steady}
use Rattle.cord_commands.proofs.changing.set_sum.Goals as goal

pub returns-in-None-clause-steady : goal.returns-in-None-clause-steady
returns-in-None-clause-steady g c = same-steady _ _ _ refl

pub returns-then-len-eq0-clause-steady : goal.returns-then-len-eq0-clause-steady
returns-then-len-eq0-clause-steady g c = same-steady _ _ _ refl

pub returns-in-None-clause-does : goal.returns-in-None-clause-does
returns-in-None-clause-does g c =
    edit-unset g.P.Naming.size g.P.Naming.limit c.args.names.now c.args.names.now c.args.w.now c.args.a.now (SetSum c.args.value) (sym c.find.ensures ∙ ap option_copied c.in-None.is)
    (λ q. refl) c.unset.result c.unset.ensures

pub returns-then-len-eq0-clause-does : goal.returns-then-len-eq0-clause-does
returns-then-len-eq0-clause-does g c =
    no-bytes-does g.P.Naming.size g.P.Naming.limit c.args.names.now c.args.w.now c.args.a.now c.args.value c.in-Some.cord.now (sym c.find.ensures ∙ ap option_copied c.in-Some.is)
    (sym c.len.ensures.len ∙ c.if-len-eq0.true) c.told.result
    c.told.ensures
