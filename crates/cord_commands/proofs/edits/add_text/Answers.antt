-- Bytes are added at a side, or there was no memory for them.
use Rattle.std.proofs.Common.{refl}
use Rattle.node_forest.specs.declared.side.Side.TheVariants as sides
use Rattle.plain_cord.specs.Texts.{text_bytes}
use Rattle.cord_commands.proofs.Behind.{none-balanced}
use Rattle.cord_commands.proofs.Placing.{none-shared}
use Rattle.cord_commands.proofs.Steady.{same-steady, grown-steady}
use Rattle.cord_commands.proofs.edits.add_text.Goals as goal

pub returns-in_default-clause-steady : goal.returns-in_default-clause-steady
returns-in_default-clause-steady g c = same-steady _ _ _ refl

pub returns-in_default-clause-balanced : goal.returns-in_default-clause-balanced
returns-in_default-clause-balanced g c = none-balanced g.P.Naming.limit c.args.side c.args.w.now

pub returns-in-Front-clause-steady : goal.returns-in-Front-clause-steady
returns-in-Front-clause-steady g c = let e = c.prepend_bytes.ensures in grown-steady g.P.Naming.limit _ sides.Front _ _ _ _ c.prepend_bytes.result e.grown e.balanced e.same

pub returns-in_default-clause-shared_if_err : goal.returns-in_default-clause-shared_if_err
returns-in_default-clause-shared_if_err g c = none-shared c.args.side (text_bytes c.args.text.now) c.args.cord.now c.args.w.now c.args.w.now
