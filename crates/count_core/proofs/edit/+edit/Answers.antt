-- The facts of `edit` that the check leaves to be shown.
use Rattle.std.proofs.Common.{◌≡◌, ◌∙◌, [], ◌<◌, ◌-◌, ◌^◌, suc, ap, arith, refl, sym, subst, get_or, set, length, List, ℕ}
use Rattle.node_forest.specs.Forest.{children, forest}
use Rattle.node_forest.specs.Label.{Node}
use Rattle.node_forest.specs.Paths.{child_of}
use Rattle.node_forest.specs.Changes.{Site, site, raised, total, edit}
use Rattle.count_core.specs.Marks.{ChangeFits, change_at, edit_of, numbers_in, unpulled}
use Rattle.count_core.specs.Terms.{change_of}
use Rattle.node_forest.proofs.Maps.{trees-forest}
use Rattle.node_forest.proofs.Changes.{edit_tree}
use Rattle.count_core.proofs.Lists.{default_same}
use Rattle.count_core.proofs.TreeNodes.{children_of}
use Rattle.count_core.proofs.edit.+edit.Goals as goal
use Rattle.count_core.proofs.edit.+edit.Goals.{then-not-is_branch-via-then-not-is_branch, then-not-is_branch-via-else-not-is_branch+then-place-len}

pub returns-then-not-is_branch : goal.returns-then-not-is_branch
returns-then-not-is_branch t c = λ fits.
    let deep : c.args.depth ≡ suc (c.args.depth - 1) = omega arith in
    let down = subst (λ (z : ℕ × List ℕ). ChangeFits (change_of c.args.change.now) z.0 (site c.args.tree.now z.1 c.args.holds.now)) (λ i. (deep i, c.in-Some.ensures.cases.0 i)) fits in
    elim c.then-not-is_branch.branch [
      | then-not-is_branch-via-then-not-is_branch w ↦ (let f = w.if-not-is_branch.ensures.1 down.1.0 in cc)
      | then-not-is_branch-via-else-not-is_branch+then-place-len w ↦ absurd (let long = ap (λ (ts : List Node). length ts) (children_of c.tree.inside c.args.tree.now c.tree.view_is) in let low = down.1.1 in
          omega (arith, w.len.ensures, w.if-place-len.true, c.tree.inside.children.ok))
    ]

pub returns-in_default-2 : goal.returns-in_default-2
returns-in_default-2 t c = λ fits.
    let ch = change_of c.args.change.now in
    let place = c.in-Some.place.now in
    let rest = c.in-Some.rest.now in
    let now = c.args.tree.now in
    let deep : c.args.depth ≡ suc (c.args.depth - 1) = omega arith in
    let down = subst (λ (z : ℕ × List ℕ). ChangeFits ch z.0 (site now z.1 c.args.holds.now)) (λ i. (deep i, c.in-Some.ensures.cases.0 i)) fits in
    let kids = children_of c.tree.inside now c.tree.view_is in
    let child : c.index_mut-child.result.now ≡ child_of now place = c.index_mut-child.ensures.value
    ∙ (default_same c.tree.inside.children.items place c.index_mut-child.result.now now (omega (arith, c.len.ensures, c.if-place-len.false, c.tree.inside.children.ok)) ∙ ap (λ (ts : List Node). get_or ts place now) (sym kids)) in
    let none : ChangeFits ch (c.args.depth - 1) (site c.index_mut-child.result.now rest c.args.holds.now) → ⊥ = rw c.in_default-2.is at c.in_ok-new_place.ensures in
    none (subst (λ (z : Node). ChangeFits ch (c.args.depth - 1) (site z rest c.args.holds.now)) (sym child) (down.0, down.1.2))

pub returns-in_default-total : goal.returns-in_default-total
returns-in_default-total t c = λ fits.
    let ch = change_of c.args.change.now in
    let place = c.in-Some.place.now in
    let rest = c.in-Some.rest.now in
    let now = c.args.tree.now in
    let hs = c.args.holds.now in
    let d : ℕ = c.args.depth - 1 in
    let deep : c.args.depth ≡ suc (c.args.depth - 1) = omega arith in
    let down = subst (λ (z : ℕ × List ℕ). ChangeFits ch z.0 (site now z.1 hs)) (λ i. (deep i, c.in-Some.ensures.cases.0 i)) fits in
    let kids = children_of c.tree.inside now c.tree.view_is in
    let child : c.index_mut-child.result.now ≡ child_of now place = c.index_mut-child.ensures.value
    ∙ (default_same c.tree.inside.children.items place c.index_mut-child.result.now now (omega (arith, c.len.ensures, c.if-place-len.false, c.tree.inside.children.ok)) ∙ ap (λ (ts : List Node). get_or ts place now) (sym kids)) in
    let got : ChangeFits ch (c.args.depth - 1) (site c.index_mut-child.result.now rest hs) × (site c.edit.new.tree (set rest (c.args.depth - 1) c.in-Some-2.new_place) c.edit.new.holds ≡ change_at ch (c.args.depth - 1) (site c.index_mut-child.result.now rest hs)) = rw c.in-Some-2.is at c.in_ok-new_place.ensures in
    let same : c.edit.new.tree ≡ (edit (edit_of ch hs) d (child_of now place) rest []).tree = ap (λ (z : Site). z.tree) got.1 ∙ (ap (λ (z : Node). (change_at ch (c.args.depth - 1) (site z rest hs)).tree) child
    ∙ edit_tree (edit_of ch hs) d (child_of now place) rest (unpulled (numbers_in ch) hs) []) in
    let all : c.deref.result.now ≡ set (children now) place (edit (edit_of ch hs) d (child_of now place) rest []).tree = c.deref.ensures.value ∙ (λ i. set (sym kids i) place (same i)) in
    let sum = ap total all in
    let low = down.1.3 in
    let high = c.in_default-total.ensures in
    absurd (omega arith)

pub returns : goal.returns
returns t c =
    let ch = change_of c.args.change.now in
    let place = c.in-Some.place.now in
    let rest = c.in-Some.rest.now in
    let now = c.args.tree.now in
    let hs = c.args.holds.now in
    let deep : c.args.depth ≡ suc (c.args.depth - 1) = omega arith in
    let kids = children_of c.tree.inside now c.tree.view_is in
    let low : place < length c.tree.inside.children.items = omega (arith, c.len.ensures, c.if-place-len.false, c.tree.inside.children.ok) in
    let long = ap (λ (ts : List Node). length ts) kids in
    let child : c.index_mut-child.result.now ≡ child_of now place = c.index_mut-child.ensures.value ∙ (default_same c.tree.inside.children.items place c.index_mut-child.result.now now low ∙ ap (λ (ts : List Node). get_or ts place now) (sym kids)) in
    let got : ChangeFits ch (c.args.depth - 1) (site c.index_mut-child.result.now rest hs) × (site c.edit.new.tree (set rest (c.args.depth - 1) c.in-Some-2.new_place) c.edit.new.holds ≡ change_at ch (c.args.depth - 1) (site c.index_mut-child.result.now rest hs)) = rw c.in-Some-2.is at c.in_ok-new_place.ensures in
    let deeper : site c.edit.new.tree (set rest (c.args.depth - 1) c.in-Some-2.new_place) c.edit.new.holds ≡ change_at ch (c.args.depth - 1) (site (child_of now place) rest hs) = got.1 ∙ ap (λ (z : Node). change_at ch (c.args.depth - 1) (site z rest hs)) child in
    let below : Node = (edit (edit_of ch hs) (c.args.depth - 1) (child_of now place) rest []).tree in
    let same : c.edit.new.tree ≡ below = ap (λ (z : Site). z.tree) deeper ∙ edit_tree (edit_of ch hs) (c.args.depth - 1) (child_of now place) rest (unpulled (numbers_in ch) hs) [] in
    let all : set c.tree.inside.children.items place c.edit.new.tree ≡ set (children now) place c.edit.new.tree = ap (λ (ts : List Node). set ts place c.edit.new.tree) (sym kids) in
    let sum : c.in-Some-total.sum ≡ total (set (children now) place c.edit.new.tree) = c.in-Some-total.ensures.0 ∙ ap total (c.deref.ensures.value ∙ all) in
    let few : c.in-Some-total.sum ≡ total (set (children now) place below) = sum ∙ ap (λ (z : Node). total (set (children now) place z)) same in
    let limit = c.in-Some-total.ensures in
    let here : Site = raised now place (site c.edit.new.tree (set rest (c.args.depth - 1) c.in-Some-2.new_place) c.edit.new.holds) in
    let made : site (record { number = c.tree.inside.number; kind = c.tree.inside.kind; length = c.in-Some-total.sum; bytes = []; more = 0 }, forest (set c.tree.inside.children.items place c.edit.new.tree)) (set c.args.path.now c.args.depth c.in-Some-2.new_place) c.edit.new.holds ≡ here =
    (λ i. record {
      tree = (record { number = (c.tree.view_is i).0.number; kind = (c.tree.view_is i).0.kind; length = sum i; bytes = (c.tree.view_is i).0.bytes; more = (c.tree.view_is i).0.more }, forest (all i));
      path = set (c.in-Some.ensures.cases.0 i) (deep i) c.in-Some-2.new_place;
      out = c.edit.new.holds;
    }) in (
      subst (λ (z : ℕ × List ℕ). ChangeFits ch z.0 (site now z.1 hs)) (λ i. (sym deep i, sym c.in-Some.ensures.cases.0 i)) (
        got.0.0,
        (
          c.if-not-is_branch.ensures.0 refl,
          (let l : place < length (children now) = omega arith in l),
          (subst (λ (z : Node). ChangeFits ch (c.args.depth - 1) (site z rest hs)) child got.0).1,
          (let f : total (set (children now) place below) < 2 ^ 63 = omega arith in f),
        ),
      ),
      made ∙ (ap (raised now place) deeper ∙ (λ i. change_at ch (sym deep i) (site now (sym c.in-Some.ensures.cases.0 i) hs))),
    )
