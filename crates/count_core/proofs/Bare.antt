-- A step of a world is the same step where its trees have numbers, kinds and lengths alone.
use Rattle.std.proofs.Common.{◌≡◌, ◌≢◌, ℕ, zero, suc, ◌+◌, ◌-◌, ◌<◌, ◌≤◌, inl, inr, Bool, true, false, eqb, List, [], ◌∷◌, ◌++◌, length, get_or, set, take, drop, map, sum_by, refl, sym, ◌∙◌, ap, subst, arith}
use Rattle.std.specs.Prelude.{Option, Some, None, IsSome, option_to_list, option_map, if◌then◌else◌, not}
use Rattle.std.proofs.lemmas.List.{map-append, length-map, get_or-map}
use Rattle.std.proofs.lemmas.List.Sums.{sum_by-cons}
use lib.Seq.{map-set}
use Rattle.node_forest.specs.declared.side.Side.{Side}
use Rattle.node_forest.specs.declared.side.Side.TheVariants.{Front, Back}
use Rattle.node_forest.specs.Forest.{Forest, empty, grow, forest, trees, children, nodes, below, nodes_of, map_forest}
use Rattle.node_forest.specs.Label.{Label, Node, number, bone_of}
use Rattle.node_forest.specs.Limits.{length_limit}
use Rattle.node_forest.specs.Members.{In}
use Rattle.node_forest.specs.Counts.{times, first, some_if, is}
use Rattle.node_forest.specs.Sides.{outgoing, remaining, joined, KeepsChild, path_after}
use Rattle.node_forest.specs.Paths.{child_of, AreShort, NeverDeeper}
use Rattle.node_forest.specs.Changes.{Site, site, Exchange, Edit, total, with_edges, edges_after, edges_out, exchanged, edit, Fits, FitsAt}
use Rattle.node_forest.specs.Changes as tree
use Rattle.node_forest.proofs.Maps.{trees-map, forest-map}
use Rattle.count_core.specs.Holders.{skip_if}
use Rattle.count_core.specs.Views.{without, without_all, IsHeld, AreHeld, edges_of_one, passed_on, is_among, AreBelow, moving, staying}
use Rattle.count_core.specs.Marks.{Change, resize, exchange, pulled, unpulled, CanPull, numbers_in, edit_of, change_at, ChangeFits, edits, FitEach, LonePath, FitsRoot, holds_of, edited_holds}
use Rattle.count_core.specs.Steps as step
use Rattle.count_core.specs.Steps.{State, Step, CanTake, CanShare, CanLeave, CanLook, CanMark, CanSplit, CanMerge, CanStep, Does, after, holds_at, word_at}
use Rattle.count_core.specs.Bare.{bare, bare_world, bare_change, bare_changes, bare_step}

-- ---- nodes
kids_bare : (t : Node) → children (bare t) ≡ map bare (children t)
kids_bare t = trees-map bone_of t.1

nodes_bare : (f : Forest Label) → nodes (map_forest bone_of f) ≡ map bare (nodes f)
nodes_bare empty = refl
nodes_bare (grow l cs rest) =
    ap (λ (z : List Node). bare (l, cs) ∷ z) ((λ i. nodes_bare cs i ++ nodes_bare rest i) ∙ sym (map-append bare (nodes cs) (nodes rest)))

all_bare : (ts : List Node) → nodes_of (map bare ts) ≡ map bare (nodes_of ts)
all_bare [] = refl
all_bare (t ∷ ts) =
    (λ i. (bare t ∷ nodes_bare t.1 i) ++ all_bare ts i) ∙ sym (map-append bare (below t) (nodes_of ts))

in_bare : (x : Node) (ts : List Node) → In x (map bare ts) → (t : Node) × In t ts × (x ≡ bare t)
in_bare x [] i = absurd i
in_bare x (t ∷ ts) (inl e) = (t, inl refl, e)
in_bare x (t ∷ ts) (inr i) = let r = in_bare x ts i in (r.0, inr r.1, r.2)

times_bare : (n : ℕ) (ts : List Node) → times n (map bare ts) ≡ times n ts
times_bare n [] = refl
times_bare n (t ∷ ts) = ap (λ (k : ℕ). is n t + k) (times_bare n ts)

-- ---- direct holds
first_bare : (n : ℕ) (ts : List Node) → first n (map bare ts) ≡ option_map bare (first n ts)
first_bare n [] = refl
first_bare n (t ∷ ts) = ap (some_if (eqb n (number t)) (bare t)) (first_bare n ts) ∙ turn (eqb n (number t)) (first n ts)
  where
    turn : (b : Bool) (o : Option Node) → some_if b (bare t) (option_map bare o) ≡ option_map bare (some_if b t o)
    turn true o = refl
    turn false o = refl

chosen_bare : (b : Bool) (t : Node) (ts a c : List Node) → a ≡ map bare c → (if b then map bare ts else bare t ∷ a) ≡ map bare (if b then ts else t ∷ c)
chosen_bare true t ts a c e = refl
chosen_bare false t ts a c e = ap (λ (z : List Node). bare t ∷ z) e

without_bare : (n : ℕ) (hs : List Node) → without n (map bare hs) ≡ map bare (without n hs)
without_bare n [] = refl
without_bare n (t ∷ ts) = chosen_bare (eqb n (number t)) t ts (without n (map bare ts)) (without n ts) (without_bare n ts)

without_all_bare : (cs hs : List Node) → without_all (map bare cs) (map bare hs) ≡ map bare (without_all cs hs)
without_all_bare [] hs = refl
without_all_bare (c ∷ cs) hs = ap (without_all (map bare cs)) (without_bare (number c) hs) ∙ without_all_bare cs (without (number c) hs)

held_bare : (cs hs : List Node) → AreHeld cs hs → AreHeld (map bare cs) (map bare hs)
held_bare cs hs held x i =
    let c = in_bare x cs i in
    let h = held c.0 c.1 in
    subst (λ (z : Node). IsHeld (map bare cs) (map bare hs) z) (sym c.2) (record {
      is_first = first_bare (number c.0) hs ∙ ap (option_map bare) h.is_first;
      enough = omega (arith, h.enough, times_bare (number c.0) cs, times_bare (number c.0) hs);
    })

some_bare : (o : Option Node) → IsSome o → IsSome (option_map bare o)
some_bare None s = s
some_bare (Some t) s = s

list_bare : (o : Option Node) → option_to_list (option_map bare o) ≡ map bare (option_to_list o)
list_bare None = refl
list_bare (Some t) = refl

one_bare : (o : Option Node) → edges_of_one (option_map bare o) ≡ map bare (edges_of_one o)
one_bare None = refl
one_bare (Some t) = kids_bare t

passed_bare : (word : ℕ) (o : Option Node) → passed_on word (option_map bare o) ≡ map bare (passed_on word o)
passed_bare word o = turn (eqb word 1)
  where
    turn : (b : Bool) → (if b then edges_of_one (option_map bare o) else []) ≡ map bare (if b then edges_of_one o else [])
    turn true = one_bare o
    turn false = refl

skip_bare : (b : Bool) (t : Node) (ts : List Node) → skip_if b (bare t) (map bare ts) ≡ map bare (skip_if b t ts)
skip_bare true t ts = refl
skip_bare false t ts = refl

moving_bare : (places : List ℕ) (i : ℕ) (ts : List Node) → moving places i (map bare ts) ≡ map bare (moving places i ts)
moving_bare places i [] = refl
moving_bare places i (t ∷ ts) = ap (skip_if (not (is_among i places)) (bare t)) (moving_bare places (i + 1) ts) ∙ skip_bare (not (is_among i places)) t (moving places (i + 1) ts)

staying_bare : (places : List ℕ) (i : ℕ) (ts : List Node) → staying places i (map bare ts) ≡ map bare (staying places i ts)
staying_bare places i [] = refl
staying_bare places i (t ∷ ts) = ap (skip_if (is_among i places) (bare t)) (staying_bare places (i + 1) ts) ∙ skip_bare (is_among i places) t (staying places (i + 1) ts)

-- ---- holds that become edges
pulled_bare : (ms : List ℕ) (hs : List Node) → pulled ms (map bare hs) ≡ map bare (pulled ms hs)
pulled_bare [] hs = refl
pulled_bare (m ∷ ms) hs =
    (λ i. (ap option_to_list (first_bare m hs) ∙ list_bare (first m hs)) i ++ (ap (pulled ms) (without_bare m hs) ∙ pulled_bare ms (without m hs)) i)
    ∙ sym (map-append bare (option_to_list (first m hs)) (pulled ms (without m hs)))

unpulled_bare : (ms : List ℕ) (hs : List Node) → unpulled ms (map bare hs) ≡ map bare (unpulled ms hs)
unpulled_bare [] hs = refl
unpulled_bare (m ∷ ms) hs = ap (unpulled ms) (without_bare m hs) ∙ unpulled_bare ms (without m hs)

can_pull_bare : (ms : List ℕ) (hs : List Node) → CanPull ms hs → CanPull ms (map bare hs)
can_pull_bare [] hs can = tt
can_pull_bare (m ∷ ms) hs can = (
  subst (λ (o : Option Node). IsSome o) (sym (first_bare m hs)) (some_bare (first m hs) can.0),
  subst (λ (z : List Node). CanPull ms z) (sym (without_bare m hs)) (can_pull_bare ms (without m hs) can.1),
)

-- ---- edits
abbrev bare_site : Site → Site
bare_site s = site (bare s.tree) s.path (map bare s.out)

abbrev bare_edit : Edit → Edit
bare_edit (tree.resize long bytes room) = tree.resize long [] 0
bare_edit (tree.exchange x) = tree.exchange (record { side = x.side; count = x.count; new = map bare x.new })

edit_of_bare : (c : Change) (hs : List Node) → edit_of (bare_change c) (map bare hs) ≡ bare_edit (edit_of c hs)
edit_of_bare (resize long bytes room) hs = refl
edit_of_bare (exchange side count ms) hs = ap (λ (z : List Node). let x : Exchange = record { side = side; count = count; new = z } in tree.exchange x) (pulled_bare ms hs)

numbers_bare : (c : Change) → numbers_in (bare_change c) ≡ numbers_in c
numbers_bare (resize long bytes room) = refl
numbers_bare (exchange side count ms) = refl

total_bare : (ts : List Node) → total (map bare ts) ≡ total ts
total_bare [] = refl
total_bare (t ∷ ts) =
    omega (arith, sum_by-cons (λ (n : Node). n.0.length) (bare t) (map bare ts), sum_by-cons (λ (n : Node). n.0.length) t ts, total_bare ts)

take_bare : (n : ℕ) (ts : List Node) → take n (map bare ts) ≡ map bare (take n ts)
take_bare zero ts = refl
take_bare (suc n) [] = refl
take_bare (suc n) (t ∷ ts) = ap (λ (z : List Node). bare t ∷ z) (take_bare n ts)

drop_bare : (n : ℕ) (ts : List Node) → drop n (map bare ts) ≡ map bare (drop n ts)
drop_bare zero ts = refl
drop_bare (suc n) [] = refl
drop_bare (suc n) (t ∷ ts) = drop_bare n ts

out_bare : (side : Side) (count : ℕ) (ts : List Node) → outgoing side count (map bare ts) ≡ map bare (outgoing side count ts)
out_bare Front count ts = take_bare count ts
out_bare Back count ts = ap (λ (n : ℕ). drop (n - count) (map bare ts)) (length-map ts bare) ∙ drop_bare (length ts - count) ts

remaining_bare : (side : Side) (count : ℕ) (ts : List Node) → remaining side count (map bare ts) ≡ map bare (remaining side count ts)
remaining_bare Front count ts = drop_bare count ts
remaining_bare Back count ts = ap (λ (n : ℕ). take (n - count) (map bare ts)) (length-map ts bare) ∙ take_bare (length ts - count) ts

joined_bare : (side : Side) (new ts : List Node) → joined side (map bare new) (map bare ts) ≡ map bare (joined side new ts)
joined_bare Front new ts = sym (map-append bare new ts)
joined_bare Back new ts = sym (map-append bare ts new)

abbrev bare_exchange : Exchange → Exchange
bare_exchange x = record { side = x.side; count = x.count; new = map bare x.new }

after_bare : (x : Exchange) (t : Node) → edges_after (bare_exchange x) (children (bare t)) ≡ map bare (edges_after x (children t))
after_bare x t =
    ap (joined x.side (map bare x.new)) (ap (remaining x.side x.count) (kids_bare t) ∙ remaining_bare x.side x.count (children t)) ∙ joined_bare x.side x.new (remaining x.side x.count (children t))

with_bare : (es : List Node) (t : Node) → with_edges (map bare es) (bare t) ≡ bare (with_edges es t)
with_bare es t = λ i. (record { number = t.0.number; kind = t.0.kind; length = total_bare es i; bytes = []; more = 0 }, sym (forest-map bone_of es) i)

set_bare : (ts : List Node) (i : ℕ) (u : Node) → set (map bare ts) i (bare u) ≡ map bare (set ts i u)
set_bare ts i u = sym (map-set bare ts i u)

child_bare : (t : Node) (p : ℕ) → child_of (bare t) p ≡ bare (child_of t p)
child_bare t p = ap (λ (z : List Node). get_or z p (bare t)) (kids_bare t) ∙ go (children t) p
  where
    go : (ts : List Node) (p : ℕ) → get_or (map bare ts) p (bare t) ≡ bare (get_or ts p t)
    go [] p = refl
    go (x ∷ ts) zero = refl
    go (x ∷ ts) (suc p) = go ts p

edit_bare : (e : Edit) (d : ℕ) (t : Node) (path : List ℕ) (out : List Node) → edit (bare_edit e) d (bare t) path (map bare out) ≡ bare_site (edit e d t path out)
edit_bare (tree.resize long bytes room) zero t path out = refl
edit_bare (tree.exchange x) zero t path out = λ i. site
    ((ap (λ (z : List Node). with_edges z (bare t)) (after_bare x t) ∙ with_bare (edges_after x (children t)) t) i)
    (path_after x.side x.count (length-map x.new bare i) path)
    ((ap (λ (z : List Node). map bare out ++ z) (ap (outgoing x.side x.count) (kids_bare t) ∙ out_bare x.side x.count (children t)) ∙ sym (map-append bare out (edges_out x (children t)))) i)
edit_bare e (suc d) t [] out = refl
edit_bare e (suc d) t (p ∷ ps) out =
    let s = edit e d (child_of t p) ps out in
    let r : edit (bare_edit e) d (child_of (bare t) p) ps (map bare out) ≡ bare_site s = ap (λ (z : Node). edit (bare_edit e) d z ps (map bare out)) (child_bare t p) ∙ edit_bare e d (child_of t p) ps out in
    λ i. site
    ((ap (λ (z : List Node). with_edges z (bare t)) ((λ j. set (kids_bare t j) p (r j).tree) ∙ set_bare (children t) p s.tree) ∙ with_bare (set (children t) p s.tree) t) i)
    (p ∷ (r i).path) (r i).out

short_bare : (t : Node) (path : List ℕ) → AreShort t path → AreShort (bare t) path
short_bare t [] s = tt
short_bare t (p ∷ ps) s =
    subst (λ (z : Node). (z.0.length < length_limit) × AreShort z ps) (sym (child_bare t p)) (s.0, short_bare (child_of t p) ps s.1)

keeps_bare : (side : Side) (count : ℕ) (t : Node) (path : List ℕ) → KeepsChild side count (length (children t)) path → KeepsChild side count (length (children (bare t))) path
keeps_bare side count t path k = subst (λ (n : ℕ). KeepsChild side count n path) (sym (ap (λ (z : List Node). length z) (kids_bare t) ∙ length-map (children t) bare)) k

fits_bare : (e : Edit) (d : ℕ) (t : Node) (path : List ℕ) → FitsAt e d t path → FitsAt (bare_edit e) d (bare t) path
fits_bare (tree.resize long bytes room) zero t path fits = (record { flat = fits.0.flat; some = fits.0.some; short = fits.0.short; ends = fits.0.ends }, short_bare t path fits.1)
fits_bare (tree.exchange x) zero t path fits =
    let kids : length (children (bare t)) ≡ length (children t) = ap (λ (z : List Node). length z) (kids_bare t) ∙ length-map (children t) bare in
    let es = edges_after x (children t) in
    let after_ = after_bare x t in
    let long : length (edges_after (bare_exchange x) (children (bare t))) ≡ length es = ap (λ (z : List Node). length z) after_ ∙ length-map es bare in
    let sum : total (edges_after (bare_exchange x) (children (bare t))) ≡ total es = ap total after_ ∙ total_bare es in
    let enough = fits.0.enough in
    let some = fits.0.some in
    let few = fits.0.few in
    let short = fits.0.short in (
      record {
        branch = fits.0.branch;
        enough = omega arith;
        keeps = keeps_bare x.side x.count t path fits.0.keeps;
        some = omega arith;
        few = omega arith;
        short = omega arith;
      },
      short_bare t path fits.1,
    )
fits_bare e (suc d) t [] fits = absurd fits
fits_bare e (suc d) t (p ∷ ps) fits =
    let s = edit e d (child_of t p) ps [] in
    let kids : length (children (bare t)) ≡ length (children t) = ap (λ (z : List Node). length z) (kids_bare t) ∙ length-map (children t) bare in
    let low = fits.1 in
    let r : (edit (bare_edit e) d (child_of (bare t) p) ps []).tree ≡ bare s.tree = ap (λ (z : Node). (edit (bare_edit e) d z ps []).tree) (child_bare t p) ∙ ap (λ (z : Site). z.tree) (edit_bare e d (child_of t p) ps []) in
    let sum : total (set (children (bare t)) p (edit (bare_edit e) d (child_of (bare t) p) ps []).tree) ≡ total (set (children t) p s.tree) =
    ap total ((λ j. set (kids_bare t j) p (r j)) ∙ set_bare (children t) p s.tree) ∙ total_bare (set (children t) p s.tree) in
    let short = fits.3 in (
      fits.0,
      (let l : p < length (children (bare t)) = omega arith in l),
      subst (λ (z : Node). FitsAt (bare_edit e) d z ps) (sym (child_bare t p)) (fits_bare e d (child_of t p) ps fits.2),
      (let l : total (set (children (bare t)) p (edit (bare_edit e) d (child_of (bare t) p) ps []).tree) < length_limit = omega arith in l),
    )

-- ---- changes
change_bare : (c : Change) (d : ℕ) (s : Site) → change_at (bare_change c) d (bare_site s) ≡ bare_site (change_at c d s)
change_bare c d s =
    let ms = numbers_in c in
    (λ i. edit (edit_of_bare c s.out i) d (bare s.tree) s.path (unpulled (numbers_bare c i) (map bare s.out)))
    ∙ (ap (edit (bare_edit (edit_of c s.out)) d (bare s.tree) s.path) (unpulled_bare ms s.out) ∙ edit_bare (edit_of c s.out) d s.tree s.path (unpulled ms s.out))

change_fits_bare : (c : Change) (d : ℕ) (s : Site) → ChangeFits c d s → ChangeFits (bare_change c) d (bare_site s)
change_fits_bare c d s fits = (
  subst (λ (ms : List ℕ). CanPull ms (map bare s.out)) (sym (numbers_bare c)) (can_pull_bare (numbers_in c) s.out fits.0),
  subst (λ (e : Edit). FitsAt e d (bare s.tree) s.path) (sym (edit_of_bare c s.out)) (fits_bare (edit_of c s.out) d s.tree s.path fits.1),
)

edits_bare : (cs : List (ℕ × Change)) (s : Site) → edits (bare_changes cs) (bare_site s) ≡ bare_site (edits cs s)
edits_bare [] s = refl
edits_bare (c ∷ cs) s = ap (edits (bare_changes cs)) (change_bare c.1 c.0 s) ∙ edits_bare cs (change_at c.1 c.0 s)

fit_each_bare : (cs : List (ℕ × Change)) (s : Site) → FitEach cs s → FitEach (bare_changes cs) (bare_site s)
fit_each_bare [] s fits = tt
fit_each_bare (c ∷ cs) s fits = (
  change_fits_bare c.1 c.0 s fits.0,
  subst (λ (z : Site). FitEach (bare_changes cs) z) (sym (change_bare c.1 c.0 s)) (fit_each_bare cs (change_at c.1 c.0 s) fits.1),
)

never_bare : (n : ℕ) (cs : List (ℕ × Change)) → NeverDeeper n cs → NeverDeeper n (bare_changes cs)
never_bare n [] o = tt
never_bare n (c ∷ cs) o = (o.0, never_bare c.0 cs o.1)

lone_bare : (word : ℕ → ℕ) (t : Node) (path : List ℕ) → LonePath word t path → LonePath word (bare t) path
lone_bare word t [] lone = lone
lone_bare word t (p ∷ ps) lone =
    let kids : length (children (bare t)) ≡ length (children t) = ap (λ (z : List Node). length z) (kids_bare t) ∙ length-map (children t) bare in
    let low = lone.2 in
    (lone.0, lone.1, (let l : p < length (children (bare t)) = omega arith in l), subst (λ (z : Node). LonePath word z ps) (sym (child_bare t p)) (lone_bare word (child_of t p) ps lone.3))

fits_root_bare : (word : ℕ → ℕ) (o : Option Node) (path : List ℕ) (cs : List (ℕ × Change)) (hs : List Node) → FitsRoot word o path cs hs → FitsRoot word (option_map bare o) path (bare_changes cs) (map bare hs)
fits_root_bare word None path cs hs fits = absurd fits
fits_root_bare word (Some t) path cs hs fits = (lone_bare word t path fits.0, fit_each_bare cs (site t path hs) fits.1)

edited_bare : (o : Option Node) (path : List ℕ) (cs : List (ℕ × Change)) (hs : List Node) → edited_holds (option_map bare o) path (bare_changes cs) (map bare hs) ≡ map bare (edited_holds o path cs hs)
edited_bare None path cs hs = refl
edited_bare (Some t) path cs hs = ap holds_of (edits_bare cs (site t path hs)) ∙ sym (map-append bare (edits cs (site t path hs)).out ((edits cs (site t path hs)).tree ∷ []))

-- ---- worlds
module _ (w : State) where
  views_bare : length (bare_world w).views ≡ length w.views
  views_bare = length-map w.views (map bare)

  view_bare : (v : ℕ) → v < length w.views → v < length (bare_world w).views
  view_bare v l = omega (arith, l, views_bare)

  holds_bare : (v : ℕ) → holds_at (bare_world w) v ≡ map bare (holds_at w v)
  holds_bare v = go w.views v
    where
      go : (vs : List (List Node)) (v : ℕ) → get_or (map (map bare) vs) v [] ≡ map bare (get_or vs v [])
      go [] v = refl
      go (x ∷ vs) zero = refl
      go (x ∷ vs) (suc v) = go vs v

  put_bare : (v : ℕ) (new hs : List Node) → new ≡ map bare hs → set (bare_world w).views v new ≡ map (map bare) (set w.views v hs)
  put_bare v new hs e = ap (set (map (map bare) w.views) v) e ∙ sym (map-set (map bare) w.views v hs)

  found_bare : (v n : ℕ) → first n (holds_at (bare_world w) v) ≡ option_map bare (first n (holds_at w v))
  found_bare v n = ap (first n) (holds_bare v) ∙ first_bare n (holds_at w v)

  seen_bare : (v n : ℕ) → first n (nodes_of (holds_at (bare_world w) v)) ≡ option_map bare (first n (nodes_of (holds_at w v)))
  seen_bare v n = ap (λ (z : List Node). first n (nodes_of z)) (holds_bare v) ∙ (ap (first n) (all_bare (holds_at w v)) ∙ first_bare n (nodes_of (holds_at w v)))

  is_seen_bare : (v n : ℕ) → IsSome (first n (nodes_of (holds_at w v))) → IsSome (first n (nodes_of (holds_at (bare_world w) v)))
  is_seen_bare v n s = subst (λ (o : Option Node). IsSome o) (sym (seen_bare v n)) (some_bare (first n (nodes_of (holds_at w v))) s)

  kept_bare : (v n : ℕ) → without n (holds_at (bare_world w) v) ≡ map bare (without n (holds_at w v))
  kept_bare v n = ap (without n) (holds_bare v) ∙ without_bare n (holds_at w v)

  can_bare : (s : Step) → CanStep s w → CanStep (bare_step s) (bare_world w)
  can_bare (step.take v n t) can = record {
    view = view_bare v can.view;
    place = can.place;
    root = can.root;
    free = can.free;
    edges = λ x i. subst (λ (z : List Node × List Node). IsHeld z.0 z.1 x) (λ j. (sym (kids_bare t) j, sym (holds_bare v) j))
        (held_bare (children t) (holds_at w v) can.edges x (subst (λ (z : List Node). In x z) (kids_bare t) i));
  }
  can_bare (step.share v n) can = record { view = view_bare v can.view; place = can.place; seen = is_seen_bare v n can.seen; room = can.room }
  can_bare (step.leave v n) can = record { view = view_bare v can.view; place = can.place; held = subst (λ (o : Option Node). IsSome o) (sym (found_bare v n)) (some_bare (first n (holds_at w v)) can.held) }
  can_bare (step.look v n) can = record { view = view_bare v can.view; place = can.place; seen = is_seen_bare v n can.seen }
  can_bare (step.mark v n path cs) can = record {
    view = view_bare v can.view;
    place = can.place;
    order = never_bare (length path) cs can.order;
    fits = subst (λ (z : Option Node × List Node). FitsRoot (word_at w) z.0 path (bare_changes cs) z.1) (λ j. (sym (found_bare v n) j, sym (kept_bare v n) j))
        (fits_root_bare (word_at w) (first n (holds_at w v)) path cs (without n (holds_at w v)) can.fits);
  }
  can_bare (step.split v places) can = record {
    view = view_bare v can.view;
    different = can.different;
    below = subst (λ (k : ℕ). AreBelow k places) (sym (ap (λ (z : List Node). length z) (holds_bare v) ∙ length-map (holds_at w v) bare)) can.below;
  }
  can_bare (step.merge v other) can = record { view = view_bare v can.view; second = view_bare other can.second; different = can.different }
  can_bare (step.counted v) can = (view_bare v can.0, can.1)
  can_bare (step.uncounted v) can = (view_bare v can.0, can.1)
  can_bare (step.home v) can = view_bare v can

  after_step_bare : (s : Step) → bare_world (after s w) ≡ after (bare_step s) (bare_world w)
  after_step_bare (step.take v n t) =
      let hs = without_all (children t) (holds_at w v) in
      λ i. record {
        words = set w.words n (word_at w n + 1);
        live = w.live;
        views = sym (put_bare v (without_all (children (bare t)) (holds_at (bare_world w) v) ++ bare t ∷ []) (hs ++ t ∷ [])
            (ap (λ (z : List Node). z ++ bare t ∷ []) ((λ j. without_all (kids_bare t j) (holds_bare v j)) ∙ without_all_bare (children t) (holds_at w v)) ∙ sym (map-append bare hs (t ∷ [])))) i;
      }
  after_step_bare (step.share v n) =
      let o = first n (nodes_of (holds_at w v)) in
      λ i. record {
        words = set w.words n (word_at w n + 1);
        live = w.live;
        views = sym (put_bare v (holds_at (bare_world w) v ++ option_to_list (first n (nodes_of (holds_at (bare_world w) v)))) (holds_at w v ++ option_to_list o)
            ((λ j. holds_bare v j ++ (ap option_to_list (seen_bare v n) ∙ list_bare o) j) ∙ sym (map-append bare (holds_at w v) (option_to_list o)))) i;
      }
  after_step_bare (step.leave v n) =
      let o = first n (holds_at w v) in
      λ i. record {
        words = set w.words n (word_at w n - 1);
        live = w.live;
        views = sym (put_bare v (without n (holds_at (bare_world w) v) ++ passed_on (word_at w n) (first n (holds_at (bare_world w) v))) (without n (holds_at w v) ++ passed_on (word_at w n) o)
            ((λ j. kept_bare v n j ++ (ap (passed_on (word_at w n)) (found_bare v n) ∙ passed_bare (word_at w n) o) j) ∙ sym (map-append bare (without n (holds_at w v)) (passed_on (word_at w n) o)))) i;
      }
  after_step_bare (step.look v n) = refl
  after_step_bare (step.mark v n path cs) =
      let o = first n (holds_at w v) in
      let hs = without n (holds_at w v) in
      λ i. record {
        words = w.words;
        live = w.live;
        views = sym (put_bare v (edited_holds (first n (holds_at (bare_world w) v)) path (bare_changes cs) (without n (holds_at (bare_world w) v))) (edited_holds o path cs hs)
            ((λ j. edited_holds (found_bare v n j) path (bare_changes cs) (kept_bare v n j)) ∙ edited_bare o path cs hs)) i;
      }
  after_step_bare (step.split v places) =
      let hs = holds_at w v in
      let stay = staying places 0 hs in
      let move = moving places 0 hs in
      let both = (ap (staying places 0) (holds_bare v) ∙ staying_bare places 0 hs) in
      let gone = (ap (moving places 0) (holds_bare v) ∙ moving_bare places 0 hs) in
      λ i. record {
        words = w.words;
        live = w.live;
        views = (map-append (map bare) (set w.views v stay) (move ∷ []) ∙ (λ j. sym (put_bare v (staying places 0 (holds_at (bare_world w) v)) stay both) j ++ sym gone j ∷ [])) i;
      }
  after_step_bare (step.merge v other) =
      let mine = holds_at w v in
      let theirs = holds_at w other in
      λ i. record {
        words = w.words;
        live = w.live;
        views = (map-set (map bare) (set w.views other []) v (mine ++ theirs)
            ∙ (λ j. set (map-set (map bare) w.views other [] j) v ((map-append bare mine theirs ∙ (λ k. sym (holds_bare v) k ++ sym (holds_bare other) k)) j))) i;
      }
  after_step_bare (step.counted v) = refl
  after_step_bare (step.uncounted v) = refl
  after_step_bare (step.home v) = refl

pub steps_bare : (s : Step) (w x : State) → Does s w true x → Does (bare_step s) (bare_world w) true (bare_world x)
steps_bare s w x does = (can_bare w s does.0, ap bare_world does.1 ∙ after_step_bare w s)
