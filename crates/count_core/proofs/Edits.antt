-- A change on a lone path keeps the words the counts of their holders.
use Rattle.std.proofs.Common.{◌≡◌, ℕ, zero, suc, ◌+◌, ◌-◌, ◌<◌, ◌≤◌, inl, inr, ⊎_elim, List, [], ◌∷◌, ◌++◌, length, get_or, set, refl, sym, ◌∙◌, ap, subst, arith, append_assoc}
use Rattle.std.specs.Prelude.{Option, Some, None, IsSome, option_to_list}
use mathlib.Core.Logic.{dite}
use native.Mathlib.Decide.{ℕ_discrete}
use Rattle.node_forest.specs.Forest.{children}
use Rattle.node_forest.specs.Label.{Node, number}
use Rattle.node_forest.specs.Members.{Occurs}
use Rattle.node_forest.specs.Counts.{is, times, first}
use Rattle.node_forest.specs.Paths.{child_of, Leads, numbers_on, beside}
use Rattle.node_forest.specs.Changes.{Site, site, loose, Edit, resize, exchange, new_in, edges_after, edges_out, raised, edit, FitsAt}
use Rattle.node_forest.proofs.Maps.{trees-forest}
use Rattle.node_forest.proofs.Members.{root_occurs, occurs_split, occurs_left, occurs_right, child_occurs}
use Rattle.node_forest.proofs.Counts.{times_append, is_one, is_none, first_hit, first_miss}
use Rattle.node_forest.proofs.Shuffles.{Shuffled, shuffled_refl, shuffled_then, shuffled_back, shuffled_along, shuffled_append, shuffled_swap, shuffled_exchange, kid_out, turn}
use Rattle.node_forest.proofs.Changes.{child_in, edit_number, edit_numbers, edit_leads, edit_loose}
use Rattle.count_core.specs.SoundBelow.{IsSoundBelow, Parts}
use Rattle.count_core.specs.Views.{without}
use Rattle.count_core.specs.Marks as core
use Rattle.count_core.specs.Marks.{Change, pulled, unpulled, CanPull, numbers_in, edit_of, change_at, ChangeFits, FitEach, LonePath, edits}
use Rattle.count_core.proofs.Counting.{stays, unheld}
use Rattle.count_core.proofs.Marks.{less, less_is, opens, closes}
use Rattle.count_core.proofs.Places.{without_hit, without_miss}

pub shuffled_sound : (size : ℕ) (word : ℕ → ℕ) (a b : List Node) → Shuffled a b → IsSoundBelow size word a → IsSoundBelow size word b
shuffled_sound size word a b f s = stays size word word a b s f.from f.to (λ n l. let e = f.count n in omega arith)

-- ---- direct holds that become edges
pub shuffled_without : (m : ℕ) (hs : List Node) (t : Node) → first m hs ≡ Some t → Shuffled hs (t ∷ without m hs)
shuffled_without m [] t e = absurd (cc)
shuffled_without m (x ∷ xs) t e =
    dite (ℕ_discrete (number x) m)
    (λ y. let same : x ≡ t = (let s : Some x ≡ Some t = sym (first_hit m x xs y) ∙ e in cc) in
    shuffled_along (x ∷ xs) (t ∷ without m (x ∷ xs)) (λ i. same i ∷ sym (without_hit m x xs y) i))
    (λ n.
    let later = shuffled_without m xs t (sym (first_miss m x xs n) ∙ e) in
    shuffled_then (x ∷ xs) (x ∷ (t ∷ without m xs)) (t ∷ without m (x ∷ xs)) (shuffled_append (x ∷ []) (x ∷ []) xs (t ∷ without m xs) (shuffled_refl (x ∷ [])) later)
    (shuffled_then (x ∷ (t ∷ without m xs)) (t ∷ (x ∷ without m xs)) (t ∷ without m (x ∷ xs)) (shuffled_append (x ∷ t ∷ []) (t ∷ x ∷ []) (without m xs) (without m xs) (shuffled_swap (x ∷ []) (t ∷ [])) (shuffled_refl (without m xs)))
    (shuffled_along (t ∷ (x ∷ without m xs)) (t ∷ without m (x ∷ xs)) (λ i. t ∷ sym (without_miss m x xs n) i))))

pub shuffled_pulled : (ms : List ℕ) (hs : List Node) → CanPull ms hs → Shuffled hs (pulled ms hs ++ unpulled ms hs)
shuffled_pulled [] hs can = shuffled_refl hs
shuffled_pulled (m ∷ ms) hs can = found (first m hs) refl can.0 (shuffled_pulled ms (without m hs) can.1)
  where
    found : (o : Option Node) → first m hs ≡ o → IsSome o → Shuffled (without m hs) (pulled ms (without m hs) ++ unpulled ms (without m hs))
        → Shuffled hs ((option_to_list (first m hs) ++ pulled ms (without m hs)) ++ unpulled ms (without m hs))
    found None e s later = absurd (cc)
    found (Some t) e s later =
        subst (λ (z : Option Node). Shuffled hs ((option_to_list z ++ pulled ms (without m hs)) ++ unpulled ms (without m hs))) (sym e)
        (shuffled_then hs (t ∷ without m hs) (t ∷ (pulled ms (without m hs) ++ unpulled ms (without m hs))) (shuffled_without m hs t e)
        (shuffled_append (t ∷ []) (t ∷ []) (without m hs) (pulled ms (without m hs) ++ unpulled ms (without m hs)) (shuffled_refl (t ∷ [])) later))

-- the direct holds that a change uses, and the others
pub shuffled_holds : (c : Change) (hs : List Node) → CanPull (numbers_in c) hs → Shuffled hs (new_in (edit_of c hs) ++ unpulled (numbers_in c) hs)
shuffled_holds (core.resize long bytes room) hs can = shuffled_refl hs
shuffled_holds (core.exchange side count ms) hs can = shuffled_pulled ms hs can

-- ---- a node opened, and closed with other edges
module _ (size : ℕ) (word : ℕ → ℕ) (t : Node) (hs others : List Node) (s : IsSoundBelow size word (t ∷ (hs ++ others))) (one : word (number t) ≡ 1) where
  low : number t < size
  low = s.fitting t (root_occurs t (t ∷ (hs ++ others)) (inl refl))

  head_parts : (u : Node) (rest : List Node) → Parts (u ∷ rest) (u ∷ []) rest
  head_parts u rest = record {
    count = λ n. omega arith;
    out = λ x h. occurs_split x (u ∷ []) rest h;
    left = λ x h. occurs_left x (u ∷ []) rest h;
    right = λ x h. occurs_right x (u ∷ []) rest h;
  }

  pub opened : IsSoundBelow size (less word t) ((hs ++ children t) ++ others)
  opened = shuffled_sound size (less word t) ((hs ++ others) ++ children t) ((hs ++ children t) ++ others) turn
      (opens size word t (t ∷ (hs ++ others)) (hs ++ others) s (head_parts t (hs ++ others)) one)
    where
      turn : Shuffled ((hs ++ others) ++ children t) ((hs ++ children t) ++ others)
      turn = shuffled_then ((hs ++ others) ++ children t) (hs ++ (others ++ children t)) ((hs ++ children t) ++ others) (shuffled_along ((hs ++ others) ++ children t) (hs ++ (others ++ children t)) (append_assoc hs others (children t)))
          (shuffled_then (hs ++ (others ++ children t)) (hs ++ (children t ++ others)) ((hs ++ children t) ++ others) (shuffled_append hs hs (others ++ children t) (children t ++ others) (shuffled_refl hs) (shuffled_swap others (children t)))
          (shuffled_along (hs ++ (children t ++ others)) ((hs ++ children t) ++ others) (sym (append_assoc hs (children t) others))))

  -- the same words below, since the node itself doesn't occur there
  pub word_below : (x : Node) → Occurs x ((hs ++ children t) ++ others) → less word t (number x) ≡ word (number x)
  word_below x o =
      let gone : less word t (number t) ≡ 0 = (let l = less_is word t one (number t) in let i = is_one (number t) t refl in omega arith) in
      let apart = unheld size (less word t) ((hs ++ children t) ++ others) (number t) opened low gone x o in
      let z = is_none (number x) t (λ e. apart (sym e)) in
      let l = less_is word t one (number x) in omega arith

  pub closed : (u : Node) (kids holds : List Node) → number u ≡ number t → children u ≡ kids → IsSoundBelow size (less word t) ((holds ++ kids) ++ others) → IsSoundBelow size word (u ∷ (holds ++ others))
  closed u kids holds same is open_ =
      closes size word t u ((holds ++ kids) ++ others) (u ∷ (holds ++ others)) (holds ++ others) open_
      (record {
        count = λ n. let a = times_append n (holds ++ kids) others in let b = times_append n holds kids in let c = times_append n holds others in let e = ap (times n) is in omega arith;
        out = λ x h. ⊎_elim (λ l. ⊎_elim (λ a. inr (occurs_left x holds others a)) (λ b. inl (subst (λ (z : List Node). Occurs x z) (sym is) b)) (occurs_split x holds kids l)) (λ r. inr (occurs_right x holds others r)) (occurs_split x (holds ++ kids) others h);
        left = λ x h. occurs_left x (holds ++ kids) others (occurs_right x holds kids (subst (λ (z : List Node). Occurs x z) is h));
        right = λ x h. ⊎_elim (λ l. occurs_left x (holds ++ kids) others (occurs_left x holds kids l)) (λ r. occurs_right x (holds ++ kids) others r) (occurs_split x holds others h);
      })
      (head_parts u (holds ++ others)) same low one

-- the words of a path's nodes are those below an open node
pub lone_below : (word word' : ℕ → ℕ) (c : Node) (path : List ℕ) (all : List Node) → Occurs c all → ((x : Node) → Occurs x all → word' (number x) ≡ word (number x)) → LonePath word c path → LonePath word' c path
lone_below word word' c [] all o same h = same c o ∙ h
lone_below word word' c (p ∷ ps) all o same h =
    (same c o ∙ h.0, h.1, h.2, lone_below word word' (child_of c p) ps all (child_occurs (child_of c p) c all o (child_in c p h.2)) same h.3)

pub lone_here : (word : ℕ → ℕ) (t : Node) (path : List ℕ) → LonePath word t path → word (number t) ≡ 1
lone_here word t [] h = h
lone_here word t (p ∷ ps) h = h.0

-- an edit whose new edges were direct holds beside those outside
edit_sound : (size : ℕ) (e : Edit) (d : ℕ) (t : Node) (path : List ℕ) (out others : List Node) (word : ℕ → ℕ) → IsSoundBelow size word (t ∷ ((new_in e ++ out) ++ others)) → LonePath word t path → FitsAt e d t path
    → IsSoundBelow size word ((edit e d t path out).tree ∷ ((edit e d t path out).out ++ others))
edit_sound size (resize long bytes room) zero t path out others word s lone fits =
    closed size word t out others s (lone_here word t path lone) (edit (resize long bytes room) zero t path out).tree (children t) out refl refl (opened size word t out others s (lone_here word t path lone))
edit_sound size (exchange x) zero t path out others word s lone fits =
    let one = lone_here word t path lone in
    let u = (edit (exchange x) zero t path out).tree in
    let hs = x.new ++ out in
    let holds = out ++ edges_out x (children t) in
    let kids = edges_after x (children t) in
    closed size word t hs others s one u kids holds refl (trees-forest kids)
    (shuffled_sound size (less word t) ((hs ++ children t) ++ others) ((holds ++ kids) ++ others)
    (shuffled_append (hs ++ children t) (holds ++ kids) others others (shuffled_exchange x (children t) out) (shuffled_refl others))
    (opened size word t hs others s one))
edit_sound size e (suc d) t [] out others word s lone fits = absurd fits
edit_sound size e (suc d) t (p ∷ ps) out others word s lone fits =
    let one = lone.0 in
    let kids = children t in
    let child = child_of t p in
    let hs = new_in e ++ out in
    let r = kid_out kids p t lone.2 in
    let open_ = opened size word t hs others s one in
    let inside : Occurs child ((hs ++ kids) ++ others) = occurs_left child (hs ++ kids) others (occurs_right child hs kids (root_occurs child kids (child_in t p lone.2))) in
    let s' = edit e d child ps out in
    let below : IsSoundBelow size (less word t) (child ∷ (hs ++ (r.0 ++ others))) = shuffled_sound size (less word t) ((hs ++ kids) ++ others) (child ∷ (hs ++ (r.0 ++ others))) (turn hs kids r.0 others child r.1) open_ in
    let deeper = edit_sound size e d child ps out (r.0 ++ others) (less word t) below (lone_below word (less word t) child ps ((hs ++ kids) ++ others) inside (word_below size word t hs others s one) lone.3) fits.2 in
    closed size word t hs others s one (raised t p s').tree (set kids p s'.tree) s'.out refl (trees-forest (set kids p s'.tree))
    (shuffled_sound size (less word t) (s'.tree ∷ (s'.out ++ (r.0 ++ others))) ((s'.out ++ set kids p s'.tree) ++ others)
    (shuffled_back ((s'.out ++ set kids p s'.tree) ++ others) (s'.tree ∷ (s'.out ++ (r.0 ++ others)))
    (turn s'.out (set kids p s'.tree) r.0 others s'.tree (shuffled_back (s'.tree ∷ r.0) (set kids p s'.tree) (r.2 s'.tree)))) deeper)

-- ---- the path stays lone, since its numbers stay and it still leads down over branches
pub lone_leads : (word : ℕ → ℕ) (t : Node) (path : List ℕ) → LonePath word t path → Leads t path
lone_leads word t [] lone = tt
lone_leads word t (p ∷ ps) lone = (lone.1, lone.2, lone_leads word (child_of t p) ps lone.3)

abbrev pub AreOnes : (ℕ → ℕ) → List ℕ → Type 0
AreOnes word [] = Unit {0}
AreOnes word (n ∷ ns) = (word n ≡ 1) × AreOnes word ns

lone_ones : (word : ℕ → ℕ) (t : Node) (path : List ℕ) → LonePath word t path → AreOnes word (numbers_on t path)
lone_ones word t [] lone = (lone, tt)
lone_ones word t (p ∷ ps) lone = (lone.0, lone_ones word (child_of t p) ps lone.3)

lone_from : (word : ℕ → ℕ) (t : Node) (path : List ℕ) → Leads t path → AreOnes word (numbers_on t path) → LonePath word t path
lone_from word t [] leads ones = ones.0
lone_from word t (p ∷ ps) leads ones = (ones.0, leads.0, leads.1, lone_from word (child_of t p) ps leads.2 ones.1)

-- ---- a change with direct holds
pub change_lone : (c : Change) (d : ℕ) (s : Site) (word : ℕ → ℕ) → LonePath word s.tree s.path → ChangeFits c d s → LonePath word (change_at c d s).tree (change_at c d s).path
change_lone c d s word lone fits =
    let e = edit_of c s.out in
    let rest = unpulled (numbers_in c) s.out in
    lone_from word (change_at c d s).tree (change_at c d s).path (edit_leads e d s.tree s.path rest fits.1 (lone_leads word s.tree s.path lone))
    (subst (λ (ns : List ℕ). AreOnes word ns) (sym (edit_numbers e d s.tree s.path rest fits.1)) (lone_ones word s.tree s.path lone))

change_sound : (size : ℕ) (c : Change) (d : ℕ) (s : Site) (others : List Node) (word : ℕ → ℕ) → IsSoundBelow size word (s.tree ∷ (s.out ++ others)) → LonePath word s.tree s.path → ChangeFits c d s
    → IsSoundBelow size word ((change_at c d s).tree ∷ ((change_at c d s).out ++ others))
change_sound size c d s others word sound lone fits =
    let e = edit_of c s.out in
    let rest = unpulled (numbers_in c) s.out in
    let held = new_in e ++ rest in
    edit_sound size e d s.tree s.path rest others word
    (shuffled_sound size word (s.tree ∷ (s.out ++ others)) (s.tree ∷ (held ++ others))
    (shuffled_append (s.tree ∷ []) (s.tree ∷ []) (s.out ++ others) (held ++ others) (shuffled_refl (s.tree ∷ []))
    (shuffled_append s.out held others others (shuffled_holds c s.out fits.0) (shuffled_refl others))) sound)
    lone fits.1

pub change_loose : (c : Change) (d : ℕ) (s : Site) → ChangeFits c d s → Shuffled (loose s) (loose (change_at c d s))
change_loose c d s fits =
    let e = edit_of c s.out in
    let rest = unpulled (numbers_in c) s.out in
    let held = new_in e ++ rest in
    let edges = beside s.tree s.path in
    shuffled_then (loose s) (held ++ edges) (loose (change_at c d s)) (shuffled_append s.out held edges edges (shuffled_holds c s.out fits.0) (shuffled_refl edges)) (edit_loose e d s.tree s.path rest fits.1)

-- ---- a list of changes
pub edits_sound : (size : ℕ) (cs : List (ℕ × Change)) (s : Site) (others : List Node) (word : ℕ → ℕ) → IsSoundBelow size word (s.tree ∷ (s.out ++ others)) → LonePath word s.tree s.path → FitEach cs s
    → IsSoundBelow size word ((edits cs s).tree ∷ ((edits cs s).out ++ others))
edits_sound size [] s others word sound lone fits = sound
edits_sound size (c ∷ cs) s others word sound lone fits =
    edits_sound size cs (change_at c.1 c.0 s) others word (change_sound size c.1 c.0 s others word sound lone fits.0) (change_lone c.1 c.0 s word lone fits.0) fits.1
