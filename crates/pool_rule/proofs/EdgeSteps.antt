-- Changes of an edge are a step that the pool's rule allows, from what those who use the pool know of their holds.
use Rattle.std.proofs.Common.{◌≡◌, inl, inr, ⊎_elim, ℕ, zero, suc, ◌+◌, ◌<◌, List, [], ◌∷◌, ◌++◌, length, take, drop, sum_by, sym, ◌∙◌, ap, subst, arith, length-append}
use Rattle.std.specs.Prelude.{Some}
use Rattle.std.proofs.lemmas.List.Sums.{sum_by-append}
use mathlib.Core.Option.{none, some}
use lib.ListN.{get_elem?}
use Rattle.atomic_table.specs.Table.{State, Me, step, Allows}
use Rattle.node_forest.specs.Forest.{children}
use Rattle.node_forest.specs.Label.{Node, number}
use Rattle.node_forest.specs.Members.{In, Occurs}
use Rattle.node_forest.specs.Counts.{first}
use Rattle.node_forest.specs.Paths.{child_of, at_depth, Leads, all_but, beside}
use Rattle.node_forest.specs.Changes.{Site, site, loose, new_in}
use Rattle.node_forest.proofs.Members.{in_left, in_split, root_occurs, child_occurs}
use Rattle.node_forest.proofs.Changes.{child_in}
use Rattle.count_core.specs.Views.{without}
use Rattle.count_core.specs.Marks as core
use Rattle.count_core.proofs.Edits.{change_loose}
use Rattle.count_core.proofs.Around.{in_without}
use Rattle.node_edges.specs.declared.change.Change.{Change}
use Rattle.node_edges.specs.Changes as edges
use Rattle.pool_rule.specs.Views.{View}
use Rattle.pool_rule.specs.Plays.{AreOneEach}
use Rattle.pool_rule.specs.Pools.{Terms, Kept}
use Rattle.pool_rule.specs.Trades.{HasHolds, Trades}
use Rattle.pool_rule.specs.Marks.{CanChange, IsLonePath}
use Rattle.pool_rule.specs.EdgeMarks.{edit_in, by_numbers, core_changes, AreFirst, HasNew, HoldsNew, all_new, CanEdit, edge_changed}
use Rattle.pool_rule.proofs.Door.{held-in, one_each-without}
use Rattle.pool_rule.proofs.Holds.{first_only}
use Rattle.pool_rule.proofs.Steps.{first_held, same_seen}
use Rattle.pool_rule.proofs.MarkSteps.{marks}
use Rattle.pool_rule.proofs.EdgeMarks.{new-exchanged, fits_edit, same_change, fit_edits, never_core, weighs-first, weighs-change, mark-trades}

-- ---- edges that are held by weight come first with their numbers
first-by : (hs es : List Node) → AreOneEach hs → HasHolds hs es → AreFirst es hs
first-by hs [] one held = tt
first-by hs (e ∷ es) one held =
    let here : In e hs = held-in hs e (record { weighs = λ f. omega (arith, held.weighs f, sum_by-append f (e ∷ []) es) }) in
    let found : first (number e) hs ≡ Some e = first_only e hs here (λ u j q. one u e j here q) in (
      found,
      first-by (without (number e) hs) es (one_each-without (number e) hs one)
          (record { weighs = λ f. omega (arith, held.weighs f, weighs-first f (number e) hs e found, sum_by-append f (e ∷ []) es) }),
    )

-- edges that are holds before all changes are holds when they come
pub holds-before : (cs : List (ℕ × Change)) (s : Site) (used holds : List Node) → HasHolds holds (used ++ all_new cs) → HoldsNew used cs s holds
holds-before [] s used holds held = tt
holds-before (c ∷ cs) s used holds held =
    let new = (edges.exchange_in c.1).new in (
      record { weighs = λ f. omega (arith, held.weighs f, sum_by-append f holds s.out, sum_by-append f used (new ++ all_new cs), sum_by-append f new (all_new cs), sum_by-append f used new) },
      holds-before cs (edges.change_at c.1 c.0 s) (used ++ new) holds
          (record { weighs = λ f. omega (arith, held.weighs f, sum_by-append f used (new ++ all_new cs), sum_by-append f new (all_new cs), sum_by-append f used new, sum_by-append f (used ++ new) (all_new cs)) }),
    )

-- what the edges that come leave of the holds is what the core has beside its tree
has-new : (cs : List (ℕ × Change)) (s : Site) (used holds hs : List Node) → ((f : Node → ℕ) → sum_by f hs + sum_by f used ≡ sum_by f holds + sum_by f s.out) → AreOneEach (loose (site s.tree s.path hs))
    → HoldsNew used cs s holds → edges.FitEach cs s → HasNew cs s hs
has-new [] s used holds hs left one comes fits = tt
has-new (c ∷ cs) s used holds hs left one comes fits =
    let e = edit_in c s in
    let new = (edges.exchange_in c.1).new in
    let around = beside s.tree s.path in
    let own : AreOneEach hs = (λ t u i j q. one t u (in_left t hs around i) (in_left u hs around j) q) in
    let came = new-exchanged c.1 (at_depth c.0 s.tree s.path) in
    let are : AreFirst (new_in e) hs = subst (λ (z : List Node). AreFirst z hs) (sym came)
    (first-by hs new own (record { weighs = λ f. omega (arith, comes.0.weighs f, left f, sum_by-append f used new, sum_by-append f holds s.out) })) in
    let n = core.change_at (by_numbers e) c.0 (site s.tree s.path hs) in
    let r = edges.change_at c.1 c.0 s in
    let moved = change_loose (by_numbers e) c.0 (site s.tree s.path hs) (fits_edit e c.0 s.tree s.path hs are fits.0.0) in
    let same = same_change e c.0 s.tree s.path s.out hs are in
    let later : AreOneEach (loose n) = (λ t u i j q. one t u (moved.tops_from t i) (moved.tops_from u j) q) in
    let placed : AreOneEach (loose (site r.tree r.path n.out)) = subst (λ (z : Node × List ℕ). AreOneEach (loose (site z.0 z.1 n.out))) (λ i. (same.tree i, same.path i)) later in (
      are,
      has-new cs r (used ++ new) holds n.out
          (λ f. omega (arith, left f, weighs-change f e c.0 s.tree s.path s.out hs are, ap (λ (z : List Node). sum_by f z) came, sum_by-append f used new))
          placed comes.1 fits.1,
    )

-- ---- the edges beside a path stand in its tree
in_take : (x : Node) (ts : List Node) (p : ℕ) → In x (take p ts) → In x ts
in_take x ts zero i = absurd i
in_take x [] (suc p) i = absurd i
in_take x (t ∷ ts) (suc p) (inl e) = inl e
in_take x (t ∷ ts) (suc p) (inr i) = inr (in_take x ts p i)

in_drop : (x : Node) (ts : List Node) (p : ℕ) → In x (drop p ts) → In x ts
in_drop x ts zero i = i
in_drop x [] (suc p) i = absurd i
in_drop x (t ∷ ts) (suc p) i = inr (in_drop x ts p i)

beside_occurs : (x t : Node) (path : List ℕ) (hs : List Node) → Occurs t hs → Leads t path → In x (beside t path) → Occurs x hs
beside_occurs x t [] hs o leads i = child_occurs x t hs o i
beside_occurs x t (p ∷ ps) hs o leads i =
    ⊎_elim
    (λ a. child_occurs x t hs o (⊎_elim (λ b. in_take x (children t) p b) (λ b. in_drop x (children t) (suc p) b) (in_split x (take p (children t)) (drop (suc p) (children t)) a)))
    (λ b. beside_occurs x (child_of t p) ps hs (child_occurs (child_of t p) t hs o (child_in t p leads.1)) leads.2 b)
    (in_split x (all_but p (children t)) (beside (child_of t p) ps) i)

-- ---- the step
module _ {S : Type 0} (p : Terms S) (slots id : ℕ) (me : Me S View) (worker : 0 < me.0.spare) (root : Node) (path : List ℕ) (cs : List (ℕ × Change)) (can : CanEdit root path cs me.0) where
  start : Site
  start = site root path []

  module _ (s : State S View) (kept : Kept p s) (at : get_elem? s.views id ≡ some me.0) where
    root_held : In root me.0.holds
    root_held = held-in me.0.holds root can.held

    only : first (number root) me.0.holds ≡ Some root
    only = first_held p.numbers s id me.0 kept.counted at root root_held

    new : HasNew cs start (without (number root) me.0.holds)
    unfolding start
    new = has-new cs start (root ∷ []) me.0.holds (without (number root) me.0.holds)
        (λ f. omega (arith, weighs-first f (number root) me.0.holds root only))
        (λ t u i j e. same_seen p.numbers s id me.0 kept.counted at t u (seen t i) (seen u j) e)
        can.new can.fits
      where
        seen : (x : Node) → In x (loose (site root path (without (number root) me.0.holds))) → Occurs x me.0.holds
        seen x i = ⊎_elim
            (λ a. root_occurs x me.0.holds (in_without (number root) x me.0.holds a))
            (λ b. beside_occurs x root path me.0.holds (root_occurs root me.0.holds root_held) can.leads b)
            (in_split x (without (number root) me.0.holds) (beside root path) i)

    changes : CanChange root path (core_changes cs start) me.0
    unfolding start
    changes =
        let t = mark-trades root path cs me.0 only new in
        let count = t.count in
        let room = can.room in
        let gone = (edges.edits cs start).out in
        let more = (edges.edits cs start).tree in
        let long = length-append gone (more ∷ []) in
        record {
          held = root_held;
          leads = can.leads;
          order = never_core (length path) cs start can.order;
          fits = fit_edits cs start (without (number root) me.0.holds) new can.fits;
          room = omega arith;
        }

  pub edge_marks : IsLonePath root path me.0 → Allows (Kept p) slots id me (number root) (λ n. n) (edge_changed root path cs (step slots (number root) 0 0 none) me)
  unfolding start
  edge_marks lone s kept homes at below =
      let h = marks p slots id me worker root path (core_changes cs start) (changes s kept at) lone s kept homes at below in (
        h.0,
        h.1,
        h.2,
        h.3,
        record {
          told = h.4;
          trade = subst (λ (z : View). Trades me.0.holds (root ∷ all_new cs) ((edges.edits cs start).out ++ (edges.edits cs start).tree ∷ []) z.holds) (sym h.4.view) (mark-trades root path cs me.0 (only s kept at) (new s kept at));
        },
      )
