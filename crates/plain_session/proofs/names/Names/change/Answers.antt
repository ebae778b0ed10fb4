-- The edited cord is what the name stands for afterwards.
use Rattle.std.proofs.Common.{◌≡◌, ap, sym, rules, Some}
use Rattle.std.specs.Option.{option_map}
use Rattle.plain_session.specs.States.{state_of, environment_of}
use Rattle.plain_session.proofs.Environments.{environment-updated, unchanged-names, edit-outcome}
use Rattle.std.proofs.lemmas.Result.{IfOk-weaker, on_err_weaker}
use Rattle.plain_session.proofs.names.Names.change.Goals as goal

pub returns-in-Some-clause-ok : goal.returns-in-Some-clause-ok
returns-in-Some-clause-ok c =
    let found : environment_of c.args.self.now c.args.name.now ≡ Some (state_of c.in-Some.cord.now) = ap (option_map state_of) (sym c.in-Some.ensures.value) in
    let updated = environment-updated c.args.name.now c.args.self.now.cords (c.get_mut.follows.lender c.change.new.self) c.change.new.self ((c.get_mut.follows.holds c.change.new.self).3 (search rules)) in
    IfOk-weaker c.change.result _ _ (λ reply. edit-outcome (environment_of c.args.self.now) _ c.args.name.now c.args.edit (state_of c.in-Some.cord.now) (state_of c.change.new.self) reply found updated) c.change.ensures.ok

pub returns-in-Some-clause-err : goal.returns-in-Some-clause-err
returns-in-Some-clause-err c =
    let found : environment_of c.args.self.now c.args.name.now ≡ Some (state_of c.in-Some.cord.now) = ap (option_map state_of) (sym c.in-Some.ensures.value) in
    let updated = environment-updated c.args.name.now c.args.self.now.cords (c.get_mut.follows.lender c.change.new.self) c.change.new.self ((c.get_mut.follows.holds c.change.new.self).3 (search rules)) in
    on_err_weaker c.change.result (unchanged-names (environment_of c.args.self.now) _ c.args.name.now (state_of c.in-Some.cord.now) (state_of c.change.new.self) found updated) c.change.ensures.err
