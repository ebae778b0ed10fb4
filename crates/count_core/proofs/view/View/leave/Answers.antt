-- The facts of `leave` that the check leaves to be shown.
use Rattle.std.proofs.Common.{◌≡◌, ◌∙◌, ◌++◌, ap, arith, sym, refl, subst, length, get_or, List, [], Bool}
use Rattle.std.specs.Prelude.{Some, if◌then◌else◌}
use Rattle.std.specs.List.{remove}
use Rattle.std.proofs.lemmas.Option.{slice_get_read}
use Rattle.node_forest.specs.Label.{Node}
use Rattle.node_forest.specs.Counts.{first}
use Rattle.node_forest.proofs.Maps.{trees-forest}
use Rattle.count_core.specs.Views.{without, edges_of_one}
use Rattle.count_core.proofs.Lists.{item_same}
use Rattle.count_core.proofs.TreeNodes.{children_same}
use Rattle.count_core.proofs.Places.{left_nothing}
use Rattle.count_core.proofs.view.View.leave.Goals as goal

pub returns-in_default-clause-ok : goal.returns-in_default-clause-ok
returns-in_default-clause-ok c = left_nothing c.args.number c.args.self.now c.args.last c.in_default.ensures.0 c.in_default.ensures.1

pub returns-in_err-append-clause-err : goal.returns-in_err-append-clause-err
returns-in_err-append-clause-err c =
    let i = c.in-Some.i in
    let hs = c.self.inside.holds.items in
    let low = c.in-Some.ensures.0 in
    let out : c.remove-2.result ≡ get_or hs i c.remove-2.result = subst (λ (xs : List Node). c.remove-2.result ≡ get_or xs i c.remove-2.result) c.in_ok-reserve.ensures.items c.remove-2.ensures.value in
    let same = ap length (children_same c.children.inside c.behind-self.inside (c.children.view_is ∙ (item_same hs i c.remove-2.result c.index.result.now (omega (arith, ap (λ (xs : List Node). length xs) c.self.view_is)) out c.index.ensures ∙ sym c.behind-self.view_is))) in
    absurd (omega (arith, c.in_err-append.ensures.full, c.in_ok-reserve.ensures.ok, c.remove-2.ensures.len, c.remove-2.ensures.capacity, c.len-more.ensures, c.children.inside.children.ok, c.behind-self.inside.children.ok))

pub returns-clause-ok : goal.returns-clause-ok
returns-clause-ok c =
    let i = c.in-Some.i in
    let now = c.args.self.now in
    let low = c.in-Some.ensures.0 in
    let all = c.in_ok-reserve.ensures.items ∙ c.self.view_is in
    let out : c.remove-2.result ≡ get_or now i c.remove-2.result = subst (λ (xs : List Node). c.remove-2.result ≡ get_or xs i c.remove-2.result) all c.remove-2.ensures.value in
    let kids : c.children.inside.children.items ≡ edges_of_one (first c.args.number now) =
    sym (trees-forest c.children.inside.children.items)
    ∙ (ap (λ (t : Node). edges_of_one (Some t)) c.children.view_is ∙ ap edges_of_one (sym (slice_get_read now (length now) i c.remove-2.result refl low out) ∙ c.in-Some.ensures.1)) in
    let rest : c.remove-2.new.self.items ≡ without c.args.number now = c.remove-2.ensures.items ∙ (ap (λ (xs : List Node). remove xs i) all ∙ sym c.in-Some.ensures.2) in
    c.in_ok-append.ensures.items
    ∙ ((λ j. rest j ++ kids j) ∙ ap (λ (b : Bool). without c.args.number now ++ (if b then edges_of_one (first c.args.number now) else [])) (sym c.if-not-last.false))
