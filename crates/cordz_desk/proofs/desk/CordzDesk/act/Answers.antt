-- What the proof of `CordzDesk::act` needs beyond the search.
use Rattle.std.proofs.Common.{◌<◌, ◌≤◌, ◌-◌, ◌^◌, ◌+◌, length, [], sym, ap, ◌∙◌, subst}
use Rattle.turn_desk.specs.Passes.{desk_view}
use Rattle.record_rule.specs.Log.{after_deed, made_of}
use Rattle.record_rule.specs.Steps.{registry_of, IsList, Makes, Does}
use Rattle.record_rule.specs.Views.{token_in, IsTokenView, done, most_actions}
use Rattle.record_rule.specs.declared.views.DeskView.{DeskView}
use Rattle.record_rule.specs.declared.views.DeskView.TheVariants.{Token}
use Rattle.cordz_desk.specs.Asking.{Can, IsOnceOver, Performed}
use Rattle.cordz_desk.specs.Shares.{tree_in, IsShare}
use Rattle.cordz_desk.proofs.Finds.{at_turn, found_small, found_stamp, found_once, found_list, found_clock, found_can, does_of, deed_few}
use Rattle.cordz_desk.proofs.desk.CordzDesk.act.Goals as goal

pub perform-deed-requires-clause-list : goal.perform-deed-requires-clause-list
perform-deed-requires-clause-list g c =
    let is = c.value.ensures.value ∙ c.enter-turn.ensures.turn.1 in
    let p = token_in (desk_view c.args.pass.now) in
    subst IsList (sym is) (found_list tree_in IsShare _ p (at_turn tree_in IsShare _ _ p c.enter-turn.ensures.agreed c.requires.token))

pub perform-deed-requires-clause-clock : goal.perform-deed-requires-clause-clock
perform-deed-requires-clause-clock g c =
    let is = c.value.ensures.value ∙ c.enter-turn.ensures.turn.1 in
    let p = token_in (desk_view c.args.pass.now) in
    subst (λ z. (registry_of z).clock < 2 ^ 64 - 1) (sym is) (found_clock tree_in IsShare _ p (at_turn tree_in IsShare _ _ p c.enter-turn.ensures.agreed c.requires.token))

pub perform-deed-requires-clause-can : goal.perform-deed-requires-clause-can
perform-deed-requires-clause-can g c =
    let is = c.value.ensures.value ∙ c.enter-turn.ensures.turn.1 in
    let p = token_in (desk_view c.args.pass.now) in
    subst (λ z. Can c.args.ask (registry_of z)) (sym is) (found_can tree_in IsShare _ p c.args.ask (at_turn tree_in IsShare _ _ p c.enter-turn.ensures.agreed c.requires.token) c.requires.may)

pub leave-requires-clause-token : goal.leave-requires-clause-token
leave-requires-clause-token g c = subst IsTokenView (sym c.enter-turn.ensures.pass.1) c.requires.token

pub leave-requires-clause-makes : goal.leave-requires-clause-makes
leave-requires-clause-makes g c =
    let is = c.value.ensures.value ∙ c.enter-turn.ensures.turn.1 in
    subst (λ z. Makes z c.perform-deed.new.value c.perform-deed.result) is c.perform-deed.ensures.makes

pub leave-requires-clause-does : goal.leave-requires-clause-does
leave-requires-clause-does g c =
    let is = c.value.ensures.value ∙ c.enter-turn.ensures.turn.1 in
    let p = token_in (desk_view c.args.pass.now) in
    let d = c.perform-deed.result in
    let y = registry_of c.perform-deed.new.value in
    subst (λ (v : DeskView). Does d (token_in v) (registry_of c.enter-turn.result.taken.value) y) (sym c.enter-turn.ensures.pass.1)
    (does_of c.args.ask d p _ y c.requires.may (subst (λ z. Performed c.args.ask d (registry_of z) y) is c.perform-deed.ensures.performed))

pub leave-requires-clause-few : goal.leave-requires-clause-few
leave-requires-clause-few g c = subst (λ (v : DeskView). length (after_deed c.perform-deed.result []) + made_of (token_in v).own ≤ most_actions) (sym c.enter-turn.ensures.pass.1) (deed_few c.perform-deed.result _ c.requires.few)

pub returns-clause-token : goal.returns-clause-token
returns-clause-token g c = let e = c.leave.ensures.view in e ∙ ap (λ (v : DeskView). Token (token_in v)) (sym e)

pub returns-clause-done : goal.returns-clause-done
returns-clause-done g c =
    let e = c.leave.ensures.view in
    ((registry_of c.perform-deed.new.value).clock, ap token_in e ∙ ap (λ (v : DeskView). done (registry_of c.perform-deed.new.value).clock c.perform-deed.result (token_in v)) c.enter-turn.ensures.pass.1)

pub returns-clause-once : goal.returns-clause-once
returns-clause-once g c =
    let is = c.value.ensures.value ∙ c.enter-turn.ensures.turn.1 in
    let p = token_in (desk_view c.args.pass.now) in
    let d = c.perform-deed.result in
    found_once tree_in IsShare d _ p (at_turn tree_in IsShare _ _ p c.enter-turn.ensures.agreed c.requires.token)
    (subst (λ z. IsOnceOver d (registry_of z)) is c.perform-deed.ensures.once)

pub returns-clause-first : goal.returns-clause-first
returns-clause-first g c =
    let is = c.value.ensures.value ∙ c.enter-turn.ensures.turn.1 in
    let p = token_in (desk_view c.args.pass.now) in
    let d = c.perform-deed.result in
    let y = c.perform-deed.new.value in
    found_stamp tree_in IsShare d _ y p (at_turn tree_in IsShare _ _ p c.enter-turn.ensures.agreed c.requires.token)
    (subst (λ z. Makes z y d) is c.perform-deed.ensures.makes)

pub returns-clause-small : goal.returns-clause-small
returns-clause-small g c =
    let is = c.value.ensures.value ∙ c.enter-turn.ensures.turn.1 in
    let p = token_in (desk_view c.args.pass.now) in
    let d = c.perform-deed.result in
    let y = c.perform-deed.new.value in
    let x = c.enter-turn.result.taken.value in
    found_small tree_in IsShare d x y p (at_turn tree_in IsShare _ _ p c.enter-turn.ensures.agreed c.requires.token)
    (subst (λ z. Makes z y d) is c.perform-deed.ensures.makes)
    (does_of c.args.ask d p (registry_of x) (registry_of y) c.requires.may (subst (λ z. Performed c.args.ask d (registry_of z) (registry_of y)) is c.perform-deed.ensures.performed))
