-- What changes make of an edge is what the count rule's mark makes of its node.
use Rattle.std.proofs.Common.{◌≡◌, ℕ, ◌+◌, List, [], ◌∷◌, ◌++◌, length, map, sum_by, refl, sym, ◌∙◌, ap, subst, arith}
use Rattle.std.specs.Prelude.{Option, Some, IsSome, option_to_list}
use Rattle.std.proofs.lemmas.List.Sums.{sum_by-append}
use mathlib.Core.Logic.{dite}
use native.Mathlib.Decide.{ℕ_discrete}
use Rattle.node_forest.specs.Label.{Node, number}
use Rattle.node_forest.specs.Counts.{first}
use Rattle.node_forest.specs.Paths.{at_depth, NeverDeeper}
use Rattle.node_forest.specs.Changes.{Site, site, Exchange, Edit, resize, exchange, new_in, edit, FitsAt}
use Rattle.node_forest.proofs.Counts.{first_hit, first_miss}
use Rattle.node_forest.proofs.Changes.{edit_tree, edit_path, weighs_out}
use Rattle.count_core.specs.Views.{without}
use Rattle.count_core.specs.Marks as core
use Rattle.node_edges.specs.declared.change.Change.{Change}
use Rattle.node_edges.specs.declared.change.Change.TheVariants.{Fill, Shorten, Add, Drop, Swap}
use Rattle.node_edges.specs.Changes as edges
use Rattle.count_core.proofs.Places.{without_hit, without_miss}
use Rattle.pool_rule.specs.Views.{View}
use Rattle.pool_rule.specs.Trades.{Trades}
use Rattle.pool_rule.specs.Marks.{marking}
use Rattle.pool_rule.specs.EdgeMarks.{edit_in, by_numbers, core_changes, AreFirst, HasNew, all_new}
use Rattle.pool_rule.proofs.Trades.{trade}

-- ---- the edges that come
pulled-new : (es hs : List Node) → AreFirst es hs → core.pulled (map number es) hs ≡ es
pulled-new [] hs are = refl
pulled-new (e ∷ es) hs are = (λ i. option_to_list (are.0 i) ++ pulled-new es (without (number e) hs) are.1 i)

can-pull : (es hs : List Node) → AreFirst es hs → core.CanPull (map number es) hs
can-pull [] hs are = tt
can-pull (e ∷ es) hs are = (subst (λ (o : Option Node). IsSome o) (sym are.0) refl, can-pull es (without (number e) hs) are.1)

pub new-exchanged : (c : Change) (t : Node) → new_in (edges.edit_of c t) ≡ (edges.exchange_in c).new
new-exchanged (Fill more) t = refl
new-exchanged (Shorten n) t = refl
new-exchanged (Add side es) t = refl
new-exchanged (Drop side n) t = refl
new-exchanged (Swap side e) t = refl

-- ---- one change
-- where the edges that come are first with their numbers, the count rule's change is the same edit
pub same_edit : (e : Edit) (hs : List Node) → AreFirst (new_in e) hs → core.edit_of (by_numbers e) hs ≡ e
same_edit (resize long bytes room) hs are = refl
same_edit (exchange x) hs are = ap (λ (z : List Node). let y : Exchange = record { side = x.side; count = x.count; new = z } in exchange y) (pulled-new x.new hs are)

pub fits_edit : (e : Edit) (d : ℕ) (t : Node) (path : List ℕ) (hs : List Node) → AreFirst (new_in e) hs → FitsAt e d t path → core.ChangeFits (by_numbers e) d (site t path hs)
fits_edit e d t path hs are fits = (pulls e are, subst (λ (z : Edit). FitsAt z d t path) (sym (same_edit e hs are)) fits)
  where
    pulls : (e : Edit) → AreFirst (new_in e) hs → core.CanPull (core.numbers_in (by_numbers e)) hs
    pulls (resize long bytes room) are = tt
    pulls (exchange x) are = can-pull x.new hs are

-- the same tree and path
pub record IsSame (s r : Site) : Type 0 where
  pub tree : s.tree ≡ r.tree
  pub path : s.path ≡ r.path

pub same_change : (e : Edit) (d : ℕ) (t : Node) (path : List ℕ) (out hs : List Node) → AreFirst (new_in e) hs → IsSame (core.change_at (by_numbers e) d (site t path hs)) (edit e d t path out)
same_change e d t path out hs are =
    let rest = core.unpulled (core.numbers_in (by_numbers e)) hs in
    let same = same_edit e hs are in
    record {
      tree = ap (λ (z : Edit). (edit z d t path rest).tree) same ∙ edit_tree e d t path rest out;
      path = ap (λ (z : Edit). (edit z d t path rest).path) same ∙ edit_path e d t path rest out;
    }

-- ---- a list of changes
pub same_edits : (cs : List (ℕ × Change)) (s : Site) (hs : List Node) → HasNew cs s hs → IsSame (core.edits (core_changes cs s) (site s.tree s.path hs)) (edges.edits cs s)
same_edits [] s hs has = record { tree = refl; path = refl }
same_edits (c ∷ cs) s hs has =
    let r = edges.change_at c.1 c.0 s in
    let n = core.change_at (by_numbers (edit_in c s)) c.0 (site s.tree s.path hs) in
    let one = same_change (edit_in c s) c.0 s.tree s.path s.out hs has.0 in
    subst (λ (z : Node × List ℕ). IsSame (core.edits (core_changes cs r) (site z.0 z.1 n.out)) (edges.edits cs r)) (λ i. (sym one.tree i, sym one.path i)) (same_edits cs r n.out has.1)

pub fit_edits : (cs : List (ℕ × Change)) (s : Site) (hs : List Node) → HasNew cs s hs → edges.FitEach cs s → core.FitEach (core_changes cs s) (site s.tree s.path hs)
fit_edits [] s hs has fits = tt
fit_edits (c ∷ cs) s hs has fits =
    let r = edges.change_at c.1 c.0 s in
    let n = core.change_at (by_numbers (edit_in c s)) c.0 (site s.tree s.path hs) in
    let one = same_change (edit_in c s) c.0 s.tree s.path s.out hs has.0 in (
      fits_edit (edit_in c s) c.0 s.tree s.path hs has.0 fits.0.0,
      subst (λ (z : Node × List ℕ). core.FitEach (core_changes cs r) (site z.0 z.1 n.out)) (λ i. (sym one.tree i, sym one.path i)) (fit_edits cs r n.out has.1 fits.1),
    )

pub never_core : (n : ℕ) (cs : List (ℕ × Change)) (s : Site) → NeverDeeper n cs → NeverDeeper n (core_changes cs s)
never_core n [] s o = tt
never_core n (c ∷ cs) s o = (o.0, never_core c.0 cs (edges.change_at c.1 c.0 s) o.1)

-- ---- what the holds weigh
pub weighs-first : (f : Node → ℕ) (n : ℕ) (hs : List Node) (e : Node) → first n hs ≡ Some e → sum_by f (without n hs) + f e ≡ sum_by f hs
weighs-first f n [] e is = absurd (cc)
weighs-first f n (x ∷ xs) e is =
    dite (ℕ_discrete (number x) n)
    (λ y. let same : x ≡ e = (let s : Some x ≡ Some e = sym (first_hit n x xs y) ∙ is in cc) in
    let a : sum_by f (without n (x ∷ xs)) ≡ sum_by f xs = ap (λ (z : List Node). sum_by f z) (without_hit n x xs y) in
    omega (arith, a, ap f same, sum_by-append f (x ∷ []) xs))
    (λ m. let r = weighs-first f n xs e (sym (first_miss n x xs m) ∙ is) in
    let a : sum_by f (without n (x ∷ xs)) ≡ sum_by f (x ∷ without n xs) = ap (λ (z : List Node). sum_by f z) (without_miss n x xs m) in
    omega (arith, a, r, sum_by-append f (x ∷ []) xs, sum_by-append f (x ∷ []) (without n xs)))

weighs-unpulled : (f : Node → ℕ) (es hs : List Node) → AreFirst es hs → sum_by f (core.unpulled (map number es) hs) + sum_by f es ≡ sum_by f hs
weighs-unpulled f [] hs are = omega arith
weighs-unpulled f (e ∷ es) hs are =
    omega (arith, weighs-unpulled f es (without (number e) hs) are.1, weighs-first f (number e) hs e are.0, sum_by-append f (e ∷ []) es)

pub weighs-change : (f : Node → ℕ) (e : Edit) (d : ℕ) (t : Node) (path : List ℕ) (out hs : List Node) → AreFirst (new_in e) hs
    → sum_by f (core.change_at (by_numbers e) d (site t path hs)).out + (sum_by f (new_in e) + sum_by f out) ≡ sum_by f hs + sum_by f (edit e d t path out).out
weighs-change f e d t path out hs are =
    let rest = core.unpulled (core.numbers_in (by_numbers e)) hs in
    omega (arith, ap (λ (z : Edit). sum_by f (edit z d t path rest).out) (same_edit e hs are), weighs_out f e d t path rest out, left e are)
  where
    left : (e : Edit) → AreFirst (new_in e) hs → sum_by f (core.unpulled (core.numbers_in (by_numbers e)) hs) + sum_by f (new_in e) ≡ sum_by f hs
    left (resize long bytes room) are = omega arith
    left (exchange x) are = weighs-unpulled f x.new hs are

weighs-edits : (f : Node → ℕ) (cs : List (ℕ × Change)) (s : Site) (hs : List Node) → HasNew cs s hs
    → sum_by f (core.edits (core_changes cs s) (site s.tree s.path hs)).out + (sum_by f (all_new cs) + sum_by f s.out) ≡ sum_by f hs + sum_by f (edges.edits cs s).out
weighs-edits f [] s hs has = omega arith
weighs-edits f (c ∷ cs) s hs has =
    let r = edges.change_at c.1 c.0 s in
    let n = core.change_at (by_numbers (edit_in c s)) c.0 (site s.tree s.path hs) in
    let one = same_change (edit_in c s) c.0 s.tree s.path s.out hs has.0 in
    let rest = weighs-edits f cs r n.out has.1 in
    let same : sum_by f (core.edits (core_changes cs r) n).out ≡ sum_by f (core.edits (core_changes cs r) (site r.tree r.path n.out)).out =
    ap (λ (z : Node × List ℕ). sum_by f (core.edits (core_changes cs r) (site z.0 z.1 n.out)).out) (λ i. (one.tree i, one.path i)) in
    let new = ap (λ (z : List Node). sum_by f z) (new-exchanged c.1 (at_depth c.0 s.tree s.path)) in
    omega (arith, rest, same, new, weighs-change f (edit_in c s) c.0 s.tree s.path s.out hs has.0, sum_by-append f (edges.exchange_in c.1).new (all_new cs))

-- the root and the edges that came are used up; the edges that went and the root as it is now are gained
pub mark-trades : (root : Node) (path : List ℕ) (cs : List (ℕ × Change)) (v : View) → first (number root) v.holds ≡ Some root → HasNew cs (site root path []) (without (number root) v.holds)
    → Trades v.holds (root ∷ all_new cs) ((edges.edits cs (site root path [])).out ++ (edges.edits cs (site root path [])).tree ∷ []) (marking root path (core_changes cs (site root path [])) v).holds
mark-trades root path cs v only has =
    let s = site root path [] in
    let hs = without (number root) v.holds in
    let end = core.edits (core_changes cs s) (site root path hs) in
    let new = edges.edits cs s in
    let same = (same_edits cs s hs has).tree in
    trade v.holds (root ∷ all_new cs) (new.out ++ new.tree ∷ []) (end.out ++ end.tree ∷ [])
    (λ f. omega (
      arith,
      weighs-edits f cs s hs has,
      weighs-first f (number root) v.holds root only,
      ap f same,
      sum_by-append f end.out (end.tree ∷ []),
      sum_by-append f new.out (new.tree ∷ []),
      sum_by-append f (root ∷ []) (all_new cs),
    ))
