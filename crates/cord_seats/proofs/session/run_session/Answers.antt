-- At the end the names are cleared.
use Rattle.std.proofs.Common.{◌∙◌, ap, subst, List}
use Rattle.std.specs.Prelude.{sum_by, IfOk}
use Rattle.plain_cord.specs.declared.script.Command.{Command}
use Rattle.pool_rule.specs.Views.{View}
use Rattle.cord_commands.specs.Accounts.{trees_of}
use Rattle.cord_commands.specs.Slots.{Uses}
use Rattle.cord_commands.proofs.Refused.{ok-weaker}
use Rattle.cord_seats.specs.Causes.{AreCaused}
use Rattle.cord_seats.specs.Told.{externals_by}
use Rattle.cord_seats.proofs.Causes.{caused-grown}
use Rattle.cord_seats.proofs.Counts.{settled}
use Rattle.cord_seats.proofs.Slots.{steady-idle, idle-slots, uses-idle}
use Rattle.cord_seats.proofs.session.run_session.Goals as goal

pub returns-clause-settled : goal.returns-clause-settled
returns-clause-settled g c = settled _ _ _ _ _ _ c.requires.fresh.1 (ap (sum_by trees_of) c.new-names.ensures.values) _ c.do_all-answers.ensures.steady c.clear_names.ensures.steady

pub returns-clause-caused : goal.returns-clause-caused
returns-clause-caused g c =
    let size = g.P.Naming.size in
    let limit = g.P.Naming.limit in
    let v : View = c.args.w.now in
    let w : View = c.clear_names.new.w in
    ok-weaker (λ answers. AreCaused size limit v c.do_all-answers.new.w answers.items) (λ answers. AreCaused size limit v w answers.items) c.do_all-answers.result
    (λ answers caused. caused-grown size limit v c.do_all-answers.new.w w answers.items caused c.clear_names.ensures.steady.grew) c.do_all-answers.ensures.caused

pub returns-clause-slots : goal.returns-clause-slots
returns-clause-slots g c = idle-slots _ _ (steady-idle _ _ _ _ c.clear_names.ensures.steady) ∙ c.do_all-answers.ensures.slots

pub returns-clause-uses : goal.returns-clause-uses
returns-clause-uses g c =
    let v : View = c.args.w.now in
    let w : View = c.clear_names.new.w in
    let said : List Command = c.args.session.now.commands in
    let uses : IfOk c.do_all-answers.result (λ answers. Uses v c.do_all-answers.new.w (externals_by said answers.items)) =
    subst (λ (z : List Command). IfOk c.do_all-answers.result (λ answers. Uses v c.do_all-answers.new.w (externals_by z answers.items))) c.as_slice.ensures c.do_all-answers.ensures.uses in
    ok-weaker (λ answers. Uses v c.do_all-answers.new.w (externals_by said answers.items)) (λ answers. Uses v w (externals_by said answers.items)) c.do_all-answers.result
    (λ answers made. uses-idle v c.do_all-answers.new.w w (externals_by said answers.items) made (steady-idle _ _ _ _ c.clear_names.ensures.steady)) uses
