-- The facts of `mark` that the check leaves to be shown.
use Rattle.std.proofs.Common.{◌≡◌, ◌∙◌, ap, sym, refl, subst, get_or, set, List, ℕ, []}
use Rattle.std.specs.Prelude.{Option, Some}
use Rattle.node_forest.specs.Label.{Node}
use Rattle.node_forest.specs.Counts.{first}
use Rattle.count_core.specs.Views.{without}
use Rattle.node_forest.specs.Changes.{Site, site}
use Rattle.count_core.specs.Marks.{LonePath, FitEach, FitsRoot, edits, holds_of, edited_holds}
use Rattle.count_core.specs.Terms.{changes_of}
use Rattle.count_core.proofs.Lists.{default_same}
use Rattle.count_core.proofs.world.World.mark.Goals as goal

pub returns-then-not-is_lone-clause-done : goal.returns-then-not-is_lone-clause-done
returns-then-not-is_lone-clause-done c =
    let views = c.args.self.now.views.items in
    let n = c.args.number in
    let view = c.if-not-has_view.ensures.0 refl in
    let own : get_or views c.args.view [] ≡ c.index-own.result.now = default_same views c.args.view [] c.index-own.result.now view ∙ sym c.index-own.ensures in
    let found : first n (get_or views c.args.view []) ≡ Some c.in-Some.root.now = ap (first n) own ∙ sym c.in-Some.ensures in (
      λ can.
          let fits = subst (λ (o : Option Node). FitsRoot (λ k. get_or c.args.self.now.words.items k 0) o c.args.path.now (changes_of c.args.changes.now) (without n (get_or views c.args.view []))) found can.fits in
          let clash = c.if-not-is_lone.ensures.1 (subst (λ (ws : List ℕ). LonePath (λ k. get_or ws k 0) c.in-Some.root.now c.args.path.now) (sym c.deref.ensures.value) fits.0) in
          cc,
      refl,
    )

pub returns-clause-done : goal.returns-clause-done
returns-clause-done c =
    let views = c.args.self.now.views.items in
    let n = c.args.number in
    let cs = changes_of c.args.changes.now in
    let word : ℕ → ℕ = λ k. get_or c.args.self.now.words.items k 0 in
    let root = c.in-Some.root.now in
    let hs = get_or views c.args.view [] in
    let view = c.if-not-has_view.ensures.0 refl in
    let own : hs ≡ c.index-own.result.now = default_same views c.args.view [] c.index-own.result.now view ∙ sym c.index-own.ensures in
    let found : first n hs ≡ Some root = ap (first n) own ∙ sym c.in-Some.ensures in
    let kept : c.in_ok-holds.holds ≡ without n hs = c.in_ok-holds.ensures ∙ ap (without n) (sym own) in
    let sites : site c.in_ok-tree.tree c.in_ok-path.path.items c.in_ok-holds.holds ≡ site root c.args.path.now (without n hs) = (λ i. site (c.in_ok-tree.ensures i) (c.in_ok-path.ensures i) (kept i)) in
    let got : FitEach cs (site c.in_ok-tree.tree c.in_ok-path.path.items c.in_ok-holds.holds) × (c.in-Some-2.edited ≡ holds_of (edits cs (site c.in_ok-tree.tree c.in_ok-path.path.items c.in_ok-holds.holds))) = rw c.in-Some-2.is at c.in_ok-edited.ensures in
    let lone : LonePath word root c.args.path.now = subst (λ (ws : List ℕ). LonePath (λ k. get_or ws k 0) root c.args.path.now) c.deref.ensures.value (c.if-not-is_lone.ensures.0 refl) in
    let made : c.in-Some-2.edited ≡ edited_holds (first n hs) c.args.path.now cs (without n hs) =
    got.1 ∙ (ap (λ (s : Site). holds_of (edits cs s)) sites ∙ ap (λ (o : Option Node). edited_holds o c.args.path.now cs (without n hs)) (sym found)) in (
      record {
        view = view;
        place = c.if-not-has_place.ensures.0 refl;
        order = c.if-not-never_deeper.ensures.0 refl;
        fits = subst (λ (o : Option Node). FitsRoot word o c.args.path.now cs (without n hs)) (sym found) (lone, subst (λ (s : Site). FitEach cs s) sites got.0);
      },
      λ i. record { words = c.args.self.now.words.items; live = c.args.self.now.live; views = set views c.args.view (made i) },
    )
