-- The facts of `exchange` that the check leaves to be shown.
use Rattle.std.proofs.Common.{◌≡◌, ◌∙◌, ◌++◌, ap, arith, sym, refl, subst, length, List, ℕ}
use Rattle.node_forest.specs.Forest.{children, forest}
use Rattle.node_forest.specs.Label.{Node}
use Rattle.node_forest.specs.Changes.{edges_after, total}
use Rattle.count_core.specs.Marks.{CanPull, pulled, unpulled, pulling}
use Rattle.node_forest.specs.Sides.{joined, remaining, outgoing, KeepsChild, path_after}
use Rattle.count_core.proofs.TreeNodes.{children_of}
use Rattle.count_core.proofs.edit.exchange.Goals as goal
use Rattle.count_core.proofs.edit.exchange.Goals.{then-not-is_branch-via-then-not-is_branch, then-not-is_branch-via-else-not-is_branch+then-count-edges, then-not-is_branch-via-else-not-is_branch+else-count-edges+then-not-keeps_child, then-many-lt1-via-then-many-lt1, then-many-lt1-via-else-many-lt1+then-many-gt-MOST_EDGES}

pub returns-then-not-is_branch : goal.returns-then-not-is_branch
returns-then-not-is_branch c = λ fits.
    let kids = ap (λ (ts : List Node). length ts) (children_of c.tree.inside c.args.tree.now c.tree.view_is) in
    let edges : length (children c.args.tree.now) ≡ c.len-edges.result = omega (arith, c.len-edges.ensures, c.tree.inside.children.ok) in
    elim c.then-not-is_branch.branch [
      | then-not-is_branch-via-then-not-is_branch w ↦ (let f = w.if-not-is_branch.ensures.1 fits.1.branch in cc)
      | then-not-is_branch-via-else-not-is_branch+then-count-edges w ↦ absurd (let e = fits.1.enough in let m = w.if-count-edges.true in omega arith)
      | then-not-is_branch-via-else-not-is_branch+else-count-edges+then-not-keeps_child w ↦ (let f = w.if-not-keeps_child.ensures.1 (subst (λ (z : ℕ). KeepsChild c.args.side c.args.count z c.args.path.now) edges fits.1.keeps) in cc)
    ]

pub new_place-place-requires : goal.new_place-place-requires
new_place-place-requires c = record {
  keeps = c.if-not-keeps_child.ensures.0 refl;
  few = omega (arith, c.len-edges.ensures, c.len.ensures, c.tree.inside.children.small, c.in-Some.new.small);
}

pub returns-in_default-total : goal.returns-in_default-total
returns-in_default-total c = λ fits.
    let pulls : CanPull c.args.numbers.now c.args.holds.now × (c.in-Some.new.items ≡ pulled c.args.numbers.now c.args.holds.now) × (c.pull.new.self ≡ unpulled c.args.numbers.now c.args.holds.now) = rw c.in-Some.is at c.in_ok-new.ensures in
    let old : c.replace-old.result.items ≡ children c.args.tree.now = ap (λ v. v.items) c.replace-old.ensures.value ∙ sym (children_of c.tree.inside c.args.tree.now c.tree.view_is) in
    let made : c.in_ok-kids.kids.items ≡ edges_after (pulling c.args.side c.args.count c.args.numbers.now c.args.holds.now) (children c.args.tree.now) =
    c.in_ok-kids.ensures.0 ∙ (λ i. joined c.args.side (pulls.1 i) (remaining c.args.side c.args.count (old i))) in
    let long = ap total (c.deref.ensures.value ∙ made) in
    let short = fits.1.short in
    let high = c.in_default-total.ensures in
    absurd (omega arith)

pub returns-then-many-lt1 : goal.returns-then-many-lt1
returns-then-many-lt1 c = λ fits.
    let pulls : CanPull c.args.numbers.now c.args.holds.now × (c.in-Some.new.items ≡ pulled c.args.numbers.now c.args.holds.now) × (c.pull.new.self ≡ unpulled c.args.numbers.now c.args.holds.now) = rw c.in-Some.is at c.in_ok-new.ensures in
    let old : c.replace-old.result.items ≡ children c.args.tree.now = ap (λ v. v.items) c.replace-old.ensures.value ∙ sym (children_of c.tree.inside c.args.tree.now c.tree.view_is) in
    let made : c.in_ok-kids.kids.items ≡ edges_after (pulling c.args.side c.args.count c.args.numbers.now c.args.holds.now) (children c.args.tree.now) =
    c.in_ok-kids.ensures.0 ∙ (λ i. joined c.args.side (pulls.1 i) (remaining c.args.side c.args.count (old i))) in
    let long = ap (λ (ts : List Node). length ts) made in
    let some = fits.1.some in
    let few = fits.1.few in
    elim c.then-many-lt1.branch [
      | then-many-lt1-via-then-many-lt1 w ↦ absurd (omega (arith, c.len-many.ensures, w.if-many-lt1.true, c.in_ok-kids.kids.ok))
      | then-many-lt1-via-else-many-lt1+then-many-gt-MOST_EDGES w ↦ absurd (omega (arith, c.len-many.ensures, w.if-many-gt-MOST_EDGES.true, c.in_ok-kids.kids.ok))
    ]

pub returns : goal.returns
returns c =
    let side = c.args.side in
    let ms = c.args.numbers.now in
    let hs = c.args.holds.now in
    let now = c.args.tree.now in
    let count = c.args.count in
    let pulls : CanPull ms hs × (c.in-Some.new.items ≡ pulled ms hs) × (c.pull.new.self ≡ unpulled ms hs) = rw c.in-Some.is at c.in_ok-new.ensures in
    let kids = children_of c.tree.inside now c.tree.view_is in
    let old : c.replace-old.result.items ≡ children now = ap (λ v. v.items) c.replace-old.ensures.value ∙ sym kids in
    let made : c.in_ok-kids.kids.items ≡ edges_after (pulling side count ms hs) (children now) = c.in_ok-kids.ensures.0 ∙ (λ i. joined side (pulls.1 i) (remaining side count (old i))) in
    let out : c.in_ok-kids.out.items ≡ outgoing side count (children now) = c.in_ok-kids.ensures.1 ∙ ap (outgoing side count) old in
    let edges : c.len-edges.result ≡ length (children now) = (let e = ap (λ (ts : List Node). length ts) kids in omega (arith, c.len-edges.ensures, c.tree.inside.children.ok)) in
    let long = ap (λ (ts : List Node). length ts) made in
    let sum : c.in-Some-total.length ≡ total (edges_after (pulling side count ms hs) (children now)) = c.in-Some-total.ensures.0 ∙ ap total (c.deref.ensures.value ∙ made) in
    let news : c.len.result ≡ length (pulled ms hs) = (let e = ap (λ (ts : List Node). length ts) pulls.1 in omega (arith, c.len.ensures, c.in-Some.new.ok)) in
    let places = c.new_place-place.ensures ∙ ap (λ (z : ℕ). path_after side count z c.args.path.now) news in
    let rest : c.gain.new.self ≡ unpulled ms hs ++ outgoing side count (children now) = c.in_ok-gain.ensures ∙ (λ i. pulls.2 i ++ out i) in (
      (
        pulls.0,
        record {
          branch = c.if-not-is_branch.ensures.0 refl;
          enough = (let m = c.if-count-edges.false in omega arith);
          keeps = subst (λ (z : ℕ). KeepsChild side count z c.args.path.now) edges (c.if-not-keeps_child.ensures.0 refl);
          some = omega (arith, c.len-many.ensures, c.if-many-lt1.false, c.in_ok-kids.kids.ok);
          few = omega (arith, c.len-many.ensures, c.if-many-gt-MOST_EDGES.false, c.in_ok-kids.kids.ok);
          short = (let l = c.in-Some-total.ensures.1 in omega arith);
        },
      ),
      λ i. record {
        tree = (record { number = (c.tree.view_is i).0.number; kind = (c.tree.view_is i).0.kind; length = sum i; bytes = (c.tree.view_is i).0.bytes; more = (c.tree.view_is i).0.more }, forest (made i));
        path = places i;
        out = rest i;
      },
    )
