-- Changes in place are a step of the count rule on the table's world, and keep the rule.
use Rattle.std.proofs.Common.{◌≡◌, ◌≢◌, ◌⊎◌, inl, inr, ⊎_elim, ℕ, zero, suc, ◌<◌, ◌≤◌, true, List, [], ◌∷◌, ◌++◌, length, map, get_or, set, take, refl, sym, ◌∙◌, ap, subst, arith, length-set}
use Rattle.std.specs.Prelude.{Option, Some}
use mathlib.Core.Option.{none, some}
use lib.ListN.{get_elem?}
use Rattle.atomic_table.proofs.Lists.{at_set, set_here}
use Rattle.atomic_table.specs.Table.{State, Me, keeps, step, stepped, Allows}
use Rattle.node_forest.specs.declared.kind.Kind.TheVariants.{Flat, External, Branch}
use Rattle.node_forest.specs.Forest.{children}
use Rattle.node_forest.specs.Label.{Node, number}
use Rattle.node_forest.specs.Members.{Occurs}
use Rattle.node_forest.specs.Counts.{first}
use Rattle.node_forest.specs.Paths.{child_of, Leads, numbers_on}
use Rattle.node_forest.proofs.Maps.{trees-forest}
use Rattle.node_forest.proofs.Members.{root_occurs, child_occurs, below_in, occurs_split, occurs_left, occurs_right, alone_in, alone_out}
use Rattle.count_core.specs.Views.{without}
use Rattle.node_forest.specs.Changes.{Site, site, Edit, resize, exchange, new_in, with_bytes, with_edges, edges_after, edges_out, edit, FitsAt}
use Rattle.node_forest.proofs.Shuffles.{Shuffled, shuffled_refl, shuffled_append, shuffled_exchange}
use Rattle.node_forest.proofs.Changes.{child_in}
use Rattle.count_core.specs.Marks.{Change, unpulled, numbers_in, edit_of, change_at, ChangeFits, edits, FitEach, LonePath, FitsRoot, edited_holds}
use Rattle.count_core.specs.Steps.{mark, Does, roots, word_at, holds_at}
use Rattle.count_core.proofs.Edits.{shuffled_without, shuffled_holds}
use Rattle.pool_rule.specs.Views.{View}
use Rattle.pool_rule.specs.Rules.{holds_of as held_by, world, Among, IsSane, Ruled, Narrow}
use Rattle.pool_rule.specs.Notes.{use_of}
use Rattle.pool_rule.specs.Pools.{Terms, Member, AreBare, IsAlone, AreLone, Slotted, Kept}
use Rattle.pool_rule.specs.Marks.{marking, CanChange, IsLonePath, marked, KeepsNodes}
use Rattle.pool_rule.proofs.Allowed.{told}
use Rattle.pool_rule.proofs.Holds.{child_below, below_child}
use Rattle.pool_rule.proofs.Pools.{told_after, roots_set}
use Rattle.pool_rule.proofs.Slots.{slotted_same, same_step}
use Rattle.pool_rule.proofs.Tallies.{tallied_step, same_tally}
use Rattle.pool_rule.proofs.Worlds.{at_lt, sane_at, held_at, set_same, world_stepped, word_world, width_world, places_world, spares_set}
use Rattle.pool_rule.proofs.Steps.{low, seen, first_held, does_ruled}

-- ---- what occurs in a tree, and in a row of trees of which one is changed
head_or_child : (x t : Node) (hs : List Node) → Occurs x (t ∷ hs) → (x ≡ t) ⊎ (Occurs x (children t) ⊎ Occurs x hs)
head_or_child x t hs o = ⊎_elim (λ a. ⊎_elim (λ e. inl e) (λ c. inr (inl c)) (below_child x t (alone_out x t a))) (λ b. inr (inr b)) (occurs_split x (t ∷ []) hs o)

of_child : (x t : Node) (hs : List Node) → Occurs x (children t) → Occurs x (t ∷ hs)
of_child x t hs o = occurs_left x (t ∷ []) hs (alone_in x t (child_below x t o))

in_set : (x : Node) (ts : List Node) (p : ℕ) (u : Node) → Occurs x (set ts p u) → Occurs x (u ∷ []) ⊎ Occurs x ts
in_set x [] p u o = absurd o
in_set x (t ∷ ts) zero u o = ⊎_elim (λ a. inl a) (λ b. inr (occurs_right x (t ∷ []) ts b)) (occurs_split x (u ∷ []) ts o)
in_set x (t ∷ ts) (suc p) u o =
    ⊎_elim (λ a. inr (occurs_left x (t ∷ []) ts a))
    (λ b. ⊎_elim (λ a. inl a) (λ c. inr (occurs_right x (t ∷ []) ts c)) (in_set x ts p u b))
    (occurs_split x (t ∷ []) (set ts p u) o)

-- what was there is there still, or was in the tree that went
out_set : (x : Node) (ts : List Node) (p : ℕ) (d u : Node) → p < length ts → Occurs x ts → Occurs x (get_or ts p d ∷ []) ⊎ Occurs x (set ts p u)
out_set x [] p d u l o = absurd o
out_set x (t ∷ ts) zero d u l o = ⊎_elim (λ a. inl a) (λ b. inr (occurs_right x (u ∷ []) ts b)) (occurs_split x (t ∷ []) ts o)
out_set x (t ∷ ts) (suc p) d u l o =
    ⊎_elim (λ a. inr (occurs_left x (t ∷ []) (set ts p u) a))
    (λ b. ⊎_elim (λ a. inl a) (λ c. inr (occurs_right x (t ∷ []) (set ts p u) c)) (out_set x ts p d u (omega arith) b))
    (occurs_split x (t ∷ []) ts o)

set_has : (x : Node) (ts : List Node) (p : ℕ) (u : Node) → p < length ts → Occurs x (u ∷ []) → Occurs x (set ts p u)
set_has x [] p u l o = absurd (omega arith)
set_has x (t ∷ ts) zero u l o = occurs_left x (u ∷ []) ts o
set_has x (t ∷ ts) (suc p) u l o = occurs_right x (t ∷ []) (set ts p u) (set_has x ts p u (omega arith) o)

-- ---- a change of the count rule, whose new edges are direct holds
-- the tree and the holds, of which the change uses some
before_change : (c : Change) (s : Site) (d : ℕ) → ChangeFits c d s → Shuffled (s.tree ∷ s.out) (s.tree ∷ (new_in (edit_of c s.out) ++ unpulled (numbers_in c) s.out))
before_change c s d fits = shuffled_append (s.tree ∷ []) (s.tree ∷ []) s.out (new_in (edit_of c s.out) ++ unpulled (numbers_in c) s.out) (shuffled_refl (s.tree ∷ [])) (shuffled_holds c s.out fits.0)

-- ---- a fact of nodes that outlasts a change of what is no external
module _ (Q : Node → Type 0) (close : (t u : Node) → Q t → number u ≡ number t → u.0.kind ≢ External → Q u) where
  abbrev Holds : List Node → Type 0
  Holds hs = (x : Node) → Occurs x hs → Q x × (length (children x) ≤ 6)

  remade : (t u : Node) (hs hs' : List Node) → Holds (t ∷ hs) → number u ≡ number t → u.0.kind ≢ External → length (children u) ≤ 6
      → ((x : Node) → Occurs x (children u) → Occurs x (t ∷ hs)) → ((x : Node) → Occurs x hs' → Occurs x (t ∷ hs)) → Holds (u ∷ hs')
  remade t u hs hs' all same kind few below beside x o =
      ⊎_elim
      (λ e. subst (λ (z : Node). Q z × (length (children z) ≤ 6)) (sym e) (close t u (all t (occurs_left t (t ∷ []) hs (root_occurs t (t ∷ []) (inl refl)))).0 same kind, few))
      (λ r. ⊎_elim (λ c. all x (below x c)) (λ h. all x (beside x h)) r)
      (head_or_child x u hs' o)

  kept_edit : (e : Edit) (d : ℕ) (t : Node) (path : List ℕ) (out : List Node) → FitsAt e d t path → Holds (t ∷ (new_in e ++ out)) → Holds ((edit e d t path out).tree ∷ (edit e d t path out).out)
  kept_edit (resize long bytes room) zero t path out fits all =
      let flat = fits.0.flat in
      remade t (with_bytes long bytes room t) out out all refl (λ e. let f : Flat ≡ External = sym flat ∙ e in cc)
      (all t (occurs_left t (t ∷ []) out (root_occurs t (t ∷ []) (inl refl)))).1 (λ x o. of_child x t out o) (λ x o. occurs_right x (t ∷ []) out o)
  kept_edit (exchange x) zero t path out fits all =
      let kids = edges_after x (children t) in
      let u = with_edges kids t in
      let hs = x.new ++ out in
      let holds = out ++ edges_out x (children t) in
      let branch = fits.0.branch in
      let is : children u ≡ kids = trees-forest kids in
      let f = shuffled_exchange x (children t) out in
      let few = fits.0.few in
      let long : length (children u) ≡ length kids = ap (λ (z : List Node). length z) is in
      let was : (y : Node) → Occurs y (hs ++ children t) → Occurs y (t ∷ hs) = (λ y o. ⊎_elim (λ a. occurs_right y (t ∷ []) hs a) (λ b. of_child y t hs b) (occurs_split y hs (children t) o)) in
      remade t u hs holds all refl (λ e. let g : Branch ≡ External = sym branch ∙ e in cc) (omega arith)
      (λ y o. was y (f.from y (occurs_right y holds kids (subst (λ (z : List Node). Occurs y z) is o))))
      (λ y o. was y (f.from y (occurs_left y holds kids o)))
  kept_edit e (suc d) t [] out fits all = absurd fits
  kept_edit e (suc d) t (p ∷ ps) out fits all =
      let child = child_of t p in
      let hs = new_in e ++ out in
      let s = edit e d child ps out in
      let kids = set (children t) p s.tree in
      let u = with_edges kids t in
      let branch = fits.0 in
      let is : children u ≡ kids = trees-forest kids in
      let long : length (children u) ≡ length kids = ap (λ (z : List Node). length z) is in
      let kept = length-set (children t) p s.tree in
      let few = (all t (occurs_left t (t ∷ []) hs (root_occurs t (t ∷ []) (inl refl)))).1 in
      let has_child : Occurs child (children t) = root_occurs child (children t) (child_in t p fits.1) in
      let under : Holds (child ∷ hs) = (λ x o. ⊎_elim (λ a. all x (of_child x t hs (below_in x child (children t) has_child (alone_out x child a)))) (λ b. all x (occurs_right x (t ∷ []) hs b)) (occurs_split x (child ∷ []) hs o)) in
      let later = kept_edit e d child ps out fits.2 under in
      (λ x o. ⊎_elim
      (λ q. subst (λ (z : Node). Q z × (length (children z) ≤ 6)) (sym q) (close t u (all t (occurs_left t (t ∷ []) hs (root_occurs t (t ∷ []) (inl refl)))).0 refl (λ k. let g : Branch ≡ External = sym branch ∙ k in cc), (let q : length (children u) ≤ 6 = omega arith in q)))
      (λ r. ⊎_elim
      (λ k. ⊎_elim (λ a. later x (occurs_left x (s.tree ∷ []) s.out a)) (λ b. all x (of_child x t hs b)) (in_set x (children t) p s.tree (subst (λ (z : List Node). Occurs x z) is k)))
      (λ h. later x (occurs_right x (s.tree ∷ []) s.out h)) r)
      (head_or_child x u s.out o))

  pub kept_edits : (cs : List (ℕ × Change)) (s : Site) → FitEach cs s → Holds (s.tree ∷ s.out) → Holds ((edits cs s).tree ∷ (edits cs s).out)
  kept_edits [] s fits all = all
  kept_edits (c ∷ cs) s fits all =
      let f = before_change c.1 s c.0 fits.0 in
      kept_edits cs (change_at c.1 c.0 s) fits.1 (kept_edit (edit_of c.1 s.out) c.0 s.tree s.path (unpulled (numbers_in c.1) s.out) fits.0.1 (λ x o. all x (f.from x o)))

-- ---- an external occurs after changes where it occurred before
kept_back : (x : Node) → x.0.kind ≡ External → (e : Edit) (d : ℕ) (t : Node) (path : List ℕ) (out : List Node) → FitsAt e d t path → Occurs x (t ∷ (new_in e ++ out)) → Occurs x ((edit e d t path out).tree ∷ (edit e d t path out).out)
kept_back x is (resize long bytes room) zero t path out fits o =
    let u = with_bytes long bytes room t in
    ⊎_elim (λ e. absurd (let f = fits.0.flat in let g : Flat ≡ External = sym f ∙ (ap (λ (z : Node). z.0.kind) (sym e) ∙ is) in cc))
    (λ r. ⊎_elim (λ k. of_child x u out k) (λ h. occurs_right x (u ∷ []) out h) r)
    (head_or_child x t out o)
kept_back x is (exchange y) zero t path out fits o =
    let kids = edges_after y (children t) in
    let u = with_edges kids t in
    let hs = y.new ++ out in
    let holds = out ++ edges_out y (children t) in
    let f = shuffled_exchange y (children t) out in
    let moved : Occurs x (hs ++ children t) → Occurs x (u ∷ holds) =
    (λ a. ⊎_elim (λ h. occurs_right x (u ∷ []) holds h) (λ k. of_child x u holds (subst (λ (z : List Node). Occurs x z) (sym (trees-forest kids)) k)) (occurs_split x holds kids (f.to x a))) in
    ⊎_elim (λ e. absurd (let b = fits.0.branch in let g : Branch ≡ External = sym b ∙ (ap (λ (z : Node). z.0.kind) (sym e) ∙ is) in cc))
    (λ r. ⊎_elim (λ k. moved (occurs_right x hs (children t) k)) (λ h. moved (occurs_left x hs (children t) h)) r)
    (head_or_child x t hs o)
kept_back x is e (suc d) t [] out fits o = absurd fits
kept_back x is e (suc d) t (p ∷ ps) out fits o =
    let child = child_of t p in
    let hs = new_in e ++ out in
    let s = edit e d child ps out in
    let kids = set (children t) p s.tree in
    let u = with_edges kids t in
    let later : Occurs x (child ∷ hs) → Occurs x (u ∷ s.out) =
    (λ a. ⊎_elim
    (λ b. of_child x u s.out (subst (λ (z : List Node). Occurs x z) (sym (trees-forest kids)) (set_has x (children t) p s.tree fits.1 b)))
    (λ h. occurs_right x (u ∷ []) s.out h)
    (occurs_split x (s.tree ∷ []) s.out (kept_back x is e d child ps out fits.2 a))) in
    ⊎_elim (λ q. absurd (let b = fits.0 in let g : Branch ≡ External = sym b ∙ (ap (λ (z : Node). z.0.kind) (sym q) ∙ is) in cc))
    (λ r. ⊎_elim
    (λ k. ⊎_elim (λ a. later (occurs_left x (child ∷ []) hs a)) (λ b. of_child x u s.out (subst (λ (z : List Node). Occurs x z) (sym (trees-forest kids)) b)) (out_set x (children t) p t s.tree fits.1 k))
    (λ h. later (occurs_right x (child ∷ []) hs h)) r)
    (head_or_child x t hs o)

kept_backs : (x : Node) → x.0.kind ≡ External → (cs : List (ℕ × Change)) (s : Site) → FitEach cs s → Occurs x (s.tree ∷ s.out) → Occurs x ((edits cs s).tree ∷ (edits cs s).out)
kept_backs x is [] s fits o = o
kept_backs x is (c ∷ cs) s fits o =
    kept_backs x is cs (change_at c.1 c.0 s) fits.1
    (kept_back x is (edit_of c.1 s.out) c.0 s.tree s.path (unpulled (numbers_in c.1) s.out) fits.0.1 ((before_change c.1 s c.0 fits.0).to x o))

-- ---- from the holds of a token
turned : (x t : Node) (hs : List Node) → Occurs x (hs ++ t ∷ []) → Occurs x (t ∷ hs)
turned x t hs o = ⊎_elim (λ a. occurs_right x (t ∷ []) hs a) (λ b. occurs_left x (t ∷ []) hs b) (occurs_split x hs (t ∷ []) o)

turned_back : (x t : Node) (hs : List Node) → Occurs x (t ∷ hs) → Occurs x (hs ++ t ∷ [])
turned_back x t hs o = ⊎_elim (λ a. occurs_right x hs (t ∷ []) a) (λ b. occurs_left x hs (t ∷ []) b) (occurs_split x (t ∷ []) hs o)

module _ (root : Node) (path : List ℕ) (cs : List (ℕ × Change)) (v : View) (only : first (number root) v.holds ≡ Some root) (can : CanChange root path cs v) where
  start : Site
  start = site root path (without (number root) v.holds)

  before : (x : Node) → Occurs x (root ∷ without (number root) v.holds) → Occurs x v.holds
  before x o = (shuffled_without (number root) v.holds root only).from x o

  known : (Q : Node → Type 0) → ((t u : Node) → Q t → number u ≡ number t → u.0.kind ≢ External → Q u) → ((x : Node) → Occurs x v.holds → Q x) → Narrow v.holds
      → (x : Node) → Occurs x (marking root path cs v).holds → Q x × (length (children x) ≤ 6)
  unfolding start
  known Q close all narrow x o =
      kept_edits Q close cs start can.fits (λ y i. let j = before y i in (all y j, narrow y j)) x
      (turned x (edits cs start).tree (edits cs start).out o)

  pub narrow_marked : Narrow v.holds → Narrow (marking root path cs v).holds
  narrow_marked narrow x o = (known (λ y. Unit {0}) (λ t u q e k. tt) (λ y i. tt) narrow x o).1

  pub keeps_nodes : Narrow v.holds → KeepsNodes v.holds (marking root path cs v).holds
  unfolding start
  keeps_nodes narrow = record {
    numbers = λ x o. (known (λ y. (z : Node) × Occurs z v.holds × (number z ≡ number y)) (λ t u q e k. (q.0, q.1, q.2 ∙ sym e)) (λ y i. (y, i, refl)) narrow x o).0;
    externals = λ x is o. (known (λ y. y.0.kind ≡ External → Occurs y v.holds) (λ t u q e k. λ f. absurd (k f)) (λ y i. λ f. i) narrow x o).0 is;
    back = λ x is o. turned_back x (edits cs start).tree (edits cs start).out (kept_backs x is cs start can.fits ((shuffled_without (number root) v.holds root only).to x o));
  }

-- ---- the step
module _ {S : Type 0} (k : ℕ) (s : State S View) (id : ℕ) (v : View) (r : Ruled k s) (at : get_elem? s.views id ≡ some v) where
  lone_path : (t : Node) (path : List ℕ) → Occurs t v.holds → Leads t path → ((n : ℕ) → Among n (numbers_on t path) → get_or s.words n 0 ≡ 1) → LonePath (word_at (world k s)) t path
  lone_path t [] o leads ones = word_world k s (number t) (low k s id v r at t o) ∙ ones (number t) (inl refl)
  lone_path t (p ∷ ps) o leads ones = (
    word_world k s (number t) (low k s id v r at t o) ∙ ones (number t) (inl refl),
    leads.0,
    leads.1,
    lone_path (child_of t p) ps (child_occurs (child_of t p) t v.holds o (child_in t p leads.1)) leads.2 (λ n a. ones n (inr a)),
  )

  pub mark_does : (root : Node) (path : List ℕ) (cs : List (ℕ × Change)) (c : List (ℕ × S)) → CanChange root path cs v → ((n : ℕ) → Among n (numbers_on root path) → get_or s.words n 0 ≡ 1)
      → Does (mark id (number root) path cs) (world k s) true (world k (stepped s (number root) (get_or s.words (number root) 0) id c (marking root path cs v) keeps))
  mark_does root path cs c can ones =
      let here = root_occurs root v.holds can.held in
      let n = number root in
      let l = low k s id v r at root here in
      let holds = held_at s.views id v at in
      let found : first n (holds_at (world k s) id) ≡ Some root = ap (λ (hs : List Node). first n hs) holds ∙ first_held k s id v r at root can.held in
      let m : ℕ = get_or s.words n 0 in
      let word : m ≡ get_or (take k s.words) n 0 = sym (word_world k s n l) in
      let words : set (take k s.words) n m ≡ take k s.words = ap (set (take k s.words) n) word ∙ set_same (take k s.words) n 0 in
      let w = marking root path cs v in (
        record {
          view = (let a = at_lt s.views id v at in let q = places_world k s in let e : id < length (world k s).views = omega arith in e);
          place = (let q = width_world k s r.width in let e : n < length (world k s).words = omega arith in e);
          order = can.order;
          fits = subst (λ (z : Option Node × List Node). FitsRoot (word_at (world k s)) z.0 path cs (without n z.1)) (λ i. (sym found i, sym holds i)) (lone_path root path here can.leads ones, can.fits);
        },
        world_stepped k s id n m w c l
            ∙ (λ i. record { words = words i; live = get_or s.words k 0; views = set (map held_by s.views) id (edited_holds (sym found i) path cs (without n (sym holds i))) }),
      )

  pub mark_sane : (root : Node) (path : List ℕ) (cs : List (ℕ × Change)) → CanChange root path cs v → IsSane k (marking root path cs v)
  mark_sane root path cs can =
      let mine = sane_at k s.views id v r.sane at in
      record { size = mine.size; roomy = can.room; narrow = narrow_marked root path cs v (first_held k s id v r at root can.held) can mine.narrow; limited = mine.limited; fewer = mine.fewer }

  pub mark_ruled : (root : Node) (path : List ℕ) (cs : List (ℕ × Change)) (c : List (ℕ × S)) → CanChange root path cs v → ((n : ℕ) → Among n (numbers_on root path) → get_or s.words n 0 ≡ 1)
      → Ruled k (stepped s (number root) (get_or s.words (number root) 0) id c (marking root path cs v) keeps)
  mark_ruled root path cs c can ones =
      does_ruled k s id v r at (mark id (number root) path cs) (number root) (get_or s.words (number root) 0) (marking root path cs v) c (mark_does root path cs c can ones) (mark_sane root path cs can)
      (refl, refl, refl, refl) (low k s id v r at root (root_occurs root v.holds can.held)) (λ j a. a) (λ some_. inl some_) refl

  pub mark_nodes : (root : Node) (path : List ℕ) (cs : List (ℕ × Change)) → CanChange root path cs v → KeepsNodes v.holds (marking root path cs v).holds
  mark_nodes root path cs can = keeps_nodes root path cs v (first_held k s id v r at root can.held) can (sane_at k s.views id v r.sane at).narrow

-- ---- the whole rule
module _ {S : Type 0} (p : Terms S) (s : State S View) (id : ℕ) (v : View) (r : Kept p s) (at : get_elem? s.views id ≡ some v) (root : Node) (path : List ℕ) (cs : List (ℕ × Change)) (can : CanChange root path cs v) where
  w : View
  w = marking root path cs v

  n : ℕ
  n = number root

  word : ℕ
  word = get_or s.words (number root) 0

  nodes : KeepsNodes v.holds w.holds
  unfolding w
  nodes = mark_nodes p.numbers s id v r.counted at root path cs can

  words_same : set s.words n word ≡ s.words
  unfolding n word
  words_same = set_same s.words (number root) 0

  lone_same : w.lone ≡ v.lone
  unfolding w
  lone_same = refl

  bare_marked : 0 < v.spare → AreBare (set s.views id w)
  unfolding w
  bare_marked worker j u here zero_ = ⊎_elim
      (λ h. let e : v.spare ≡ u.spare = ap (λ (z : View). z.spare) h.1 in absurd (omega (arith, e, zero_, worker)))
      (λ h. r.bare j u h.1 zero_)
      (at_set s.views id j w u here)

  lone_marked : AreLone p.numbers s.words (set s.views id w)
  lone_marked i j u here h =
      ⊎_elim
      (λ q. let a = r.lone id j v at (subst (λ (z : List ℕ). Member j z) lone_same (subst (λ (z : View). Member j z.lone) (sym q.1) h)) in
      subst (λ (z : ℕ). IsAlone p.numbers s.words (set s.views id w) z j) (sym q.0) (record {
        low = a.low;
        one = a.one;
        apart = λ o y there ne x occurs. ⊎_elim (λ e. absurd (ne e.0)) (λ e. a.apart o y e.1 ne x occurs) (at_set s.views id o w y there);
      }))
      (λ q. let a = r.lone i j u q.1 h in record {
        low = a.low;
        one = a.one;
        apart = λ o y there ne x occurs. ⊎_elim
            (λ e. let was = nodes.numbers x (subst (λ (z : View). Occurs x z.holds) (sym e.1) occurs) in
            λ same. a.apart id v at (λ f. ne (e.0 ∙ f)) was.0 was.1 (was.2 ∙ same))
            (λ e. a.apart o y e.1 ne x occurs) (at_set s.views id o w y there);
      })
      (at_set s.views id i w u here)

  pub ones_on : IsLonePath root path v → (j : ℕ) → Among j (numbers_on root path) → get_or s.words j 0 ≡ 1
  ones_on lone j a = (r.lone id j v at (lone j a)).one

  -- the table's trees, before and after
  abbrev all_before : List Node
  all_before = roots (map held_by s.views)

  abbrev all_after : List Node
  all_after = roots (map held_by (set s.views id (marking root path cs v)))

  -- an external keeps its number, and no other node gets it
  slotted_marked : (c : List (ℕ × S)) → Ruled p.numbers (stepped s (number root) (get_or s.words (number root) 0) id c (marking root path cs v) keeps)
      → Slotted p (set s.words (number root) (get_or s.words (number root) 0)) s.homes all_after (set s.views id (marking root path cs v))
  unfolding w n word
  slotted_marked c ruled =
      let here = set_here s.views id (marking root path cs v) (at_lt s.views id v at) in
      let before : (x : Node) → Occurs x v.holds → Occurs x all_before = λ x a. seen p.numbers s id v r.counted at x a in
      let after_ : (x : Node) → Occurs x (marking root path cs v).holds → Occurs x all_after =
      λ x a. seen p.numbers (stepped s (number root) (get_or s.words (number root) 0) id c (marking root path cs v) keeps) id (marking root path cs v) ruled here x a in
      slotted_same p s.words (set s.words (number root) (get_or s.words (number root) 0)) s.homes all_before all_after s.views (set s.views id (marking root path cs v)) (same_step s.views id v (marking root path cs v) at refl refl refl)
      (λ x o e. ⊎_elim (λ a. before x (nodes.externals x e a)) (λ a. a) (roots_set s.views id (marking root path cs v) x o))
      (λ u h live. record {
        low = live.low;
        word = subst (λ (z : List ℕ). get_or z u.number 0 ≢ 0) (sym words_same) live.word;
        node = λ x o e. ⊎_elim
            (λ a. let was = nodes.numbers x a in
            let known = live.node was.0 (before was.0 was.1) (was.2 ∙ e) in
            let same : was.0 ≡ x = ruled.sound.agreed was.0 x (after_ was.0 (nodes.back was.0 known.0 was.1)) o was.2 in
            subst (λ (z : Node). (z.0.kind ≡ External) × (use_of z ≡ u)) same known)
            (λ a. live.node x a e)
            (roots_set s.views id (marking root path cs v) x o);
      })
      r.slotted

  pub marked_kept : (c : List (ℕ × S)) → 0 < v.spare → Ruled p.numbers (stepped s (number root) (get_or s.words (number root) 0) id c (marking root path cs v) keeps)
      → Kept p (stepped s (number root) (get_or s.words (number root) 0) id c (marking root path cs v) keeps)
  unfolding w n word
  marked_kept c worker ruled =
      let e : get_or (set s.words (number root) (get_or s.words (number root) 0)) p.numbers 0 ≡ get_or s.words p.numbers 0 = ap (λ (z : List ℕ). get_or z p.numbers 0) words_same in
      record {
        counted = ruled;
        workers = omega (arith, spares_set s.views id v (marking root path cs v) at, r.workers);
        bare = bare_marked worker;
        lone = subst (λ (z : List ℕ). AreLone p.numbers z (set s.views id (marking root path cs v))) (sym words_same) lone_marked;
        tallied = tallied_step (get_or s.words p.numbers 0) (get_or (set s.words (number root) (get_or s.words (number root) 0)) p.numbers 0) s.views id v (marking root path cs v)
            (same_tally (get_or s.words p.numbers 0) v (marking root path cs v) (record { made = refl; ended = refl; counts = refl; joined = refl })) at (omega (arith, e)) r.tallied;
        slotted = slotted_marked c ruled;
      }

-- ---- as the pool's call asks for it
module _ {S : Type 0} (p : Terms S) (slots id : ℕ) (me : Me S View) (worker : 0 < me.0.spare) where
  pub marks : (root : Node) (path : List ℕ) (cs : List (ℕ × Change)) → CanChange root path cs me.0 → IsLonePath root path me.0
      → Allows (Kept p) slots id me (number root) (λ n. n) (marked root path cs (step slots (number root) 0 0 none) me)
  marks root path cs can lone s kept homes at below =
      let k = p.numbers in
      let w = marking root path cs me.0 in
      let ruled = mark_ruled k s id me.0 kept.counted at root path cs me.1 can (ones_on p s id me.0 kept at root path cs can lone) in
      let moved = told k s id me (w, me.1) w kept.counted at refl refl (mark_sane k s id me.0 kept.counted at root path cs can) in (
        w,
        keeps,
        tt,
        marked_kept p s id me.0 kept at root path cs can me.1 worker ruled,
        told_after p s id (number root) (get_or s.words (number root) 0) me w ruled moved at,
      )
