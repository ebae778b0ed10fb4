-- The facts of `is_lone` that the check leaves to be shown.
use Rattle.std.proofs.Common.{◌∙◌, ◌<◌, ap, arith, sym, refl, subst, get_or, length, List, ℕ}
use Rattle.node_forest.specs.Forest.{children}
use Rattle.node_forest.specs.Label.{Node, number}
use Rattle.count_core.specs.Marks.{LonePath}
use Rattle.count_core.proofs.Edits.{lone_here}
use Rattle.count_core.proofs.TreeNodes.{children_of}
use Rattle.count_core.proofs.edit.+is_lone.Goals as goal
use Rattle.count_core.proofs.edit.+is_lone.Goals.{then-not-is_branch-via-then-not-is_branch, then-not-is_branch-via-else-not-is_branch+then-place-len}

pub returns-then-not-is_one : goal.returns-then-not-is_one
returns-then-not-is_one t c = (
  λ f. cc,
  λ lone. c.if-not-is_one.ensures.1 (ap (λ n. get_or c.args.words.now n 0) (ap number c.tree.view_is) ∙ lone_here (λ n. get_or c.args.words.now n 0) c.args.tree.now c.args.path.now lone),
)

pub returns-then-not-is_branch : goal.returns-then-not-is_branch
returns-then-not-is_branch t c = (
  λ f. cc,
  λ lone.
      let down = subst (λ (z : List ℕ). LonePath (λ n. get_or c.args.words.now n 0) c.args.tree.now z) c.in-Some.ensures.cases.0 lone in
      elim c.then-not-is_branch.branch [
        | then-not-is_branch-via-then-not-is_branch w ↦ w.if-not-is_branch.ensures.1 down.1
        | then-not-is_branch-via-else-not-is_branch+then-place-len w ↦ absurd (let long = ap (λ (ts : List Node). length ts) (children_of c.tree.inside c.args.tree.now c.tree.view_is) in let low = down.2 in
            omega (arith, w.len.ensures, w.if-place-len.true, c.tree.inside.children.ok))
      ],
)

pub returns : goal.returns
returns t c =
    let words : ℕ → ℕ = λ n. get_or c.args.words.now n 0 in
    let long = ap (λ (ts : List Node). length ts) (children_of c.tree.inside c.args.tree.now c.tree.view_is) in (
      λ yes_. subst (λ (z : List ℕ). LonePath words c.args.tree.now z) (sym c.in-Some.ensures.cases.0) (
        ap words (ap number (sym c.tree.view_is)) ∙ c.if-not-is_one.ensures.0 refl,
        c.if-not-is_branch.ensures.0 refl,
        (let low : c.in-Some.place.now < length (children c.args.tree.now) = omega (arith, c.len.ensures, c.if-place-len.false, c.tree.inside.children.ok) in low),
        subst (λ (z : Node). LonePath words z c.in-Some.rest.now) c.child_at.ensures (c.is_lone.ensures.0 yes_),
      ),
      λ lone.
          let down = subst (λ (z : List ℕ). LonePath words c.args.tree.now z) c.in-Some.ensures.cases.0 lone in
          c.is_lone.ensures.1 (subst (λ (z : Node). LonePath words z c.in-Some.rest.now) (sym c.child_at.ensures) down.3),
    )
