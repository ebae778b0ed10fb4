-- What every edit keeps: the numbers on its path, a path that leads over Branches, and the trees that it moves.
use Rattle.std.proofs.Common.{◌≡◌, ℕ, zero, suc, ◌+◌, ◌-◌, ◌<◌, ◌≤◌, List, [], ◌∷◌, ◌++◌, length, get_or, set, take, drop, refl, sym, ◌∙◌, ap, subst, arith, length-append, length-set, sum_by, get_or-set_same, inl, inr}
use Rattle.std.proofs.lemmas.List.{length-take-le, length-drop, get_or-drop, get_or-take, get_or_append_left, get_or-append_right, get_or_default}
use Rattle.std.proofs.lemmas.List.Sums.{sum_by-append}
use Rattle.node_forest.specs.declared.side.Side.{Side}
use Rattle.node_forest.specs.declared.side.Side.TheVariants.{Front, Back}
use Rattle.node_forest.specs.Forest.{children}
use Rattle.node_forest.specs.Label.{Node, number}
use Rattle.node_forest.specs.Members.{In}
use Rattle.node_forest.specs.Sides.{joined, remaining, KeepsChild, path_after}
use Rattle.node_forest.specs.Paths.{child_of, Leads, numbers_on, all_but, beside}
use Rattle.node_forest.specs.Changes.{Site, site, loose, Exchange, Edit, resize, exchange, new_in, with_edges, edges_after, edges_out, exchanged, FitsBranch, raised, edit, FitsAt}
use Rattle.node_forest.proofs.Maps.{trees-forest}
use Rattle.node_forest.proofs.Shuffles.{Shuffled, shuffled_refl, shuffled_then, shuffled_along, shuffled_append, shuffled_between, shuffled_exchange, exchanged_front, exchanged_back, with_more, but_set}

item_in : (kids : List Node) (p : ℕ) (d : Node) → p < length kids → In (get_or kids p d) kids
item_in [] p d l = absurd (omega arith)
item_in (k ∷ ks) zero d l = inl refl
item_in (k ∷ ks) (suc p) d l = inr (item_in ks p d (omega arith))

pub child_in : (t : Node) (p : ℕ) → p < length (children t) → In (child_of t p) (children t)
child_in t p l = item_in (children t) p t l

-- ---- the path's child is the same node at its new place
kept_front : (new kids : List Node) (count p : ℕ) (d e : Node) → count ≤ p → p < length kids
    → (p - count + length new < length (new ++ drop count kids)) × (get_or (new ++ drop count kids) (p - count + length new) d ≡ get_or kids p e)
kept_front new kids count p d e l m =
    let at : p - count + length new - length new ≡ p - count = omega arith in
    let back : count + (p - count) ≡ p = omega arith in (
      omega (arith, length-append new (drop count kids), length-drop count kids),
      get_or-append_right new (drop count kids) (length new) (p - count + length new) d refl (omega arith)
          ∙ (ap (λ (k : ℕ). get_or (drop count kids) k d) at ∙ (get_or-drop count kids (p - count) d ∙ (ap (λ (k : ℕ). get_or kids k d) back ∙ get_or_default kids p d e m))),
    )

kept_back : (new kids : List Node) (count p : ℕ) (d e : Node) → p < length kids - count
    → (p < length (take (length kids - count) kids ++ new)) × (get_or (take (length kids - count) kids ++ new) p d ≡ get_or kids p e)
kept_back new kids count p d e l =
    let k = take (length kids - count) kids in
    let taken : length k ≡ length kids - count = length-take-le (length kids - count) kids (omega arith) in (
      omega (arith, length-append k new, taken),
      get_or_append_left k new d p (omega (arith, taken)) ∙ (get_or-take (length kids - count) kids p d l ∙ get_or_default kids p d e (omega arith)),
    )

-- what an exchange leaves of the path
pub record IsKept (t u : Node) (p q : ℕ) : Type 0 where
  pub within : q < length (children u)
  pub child : child_of u q ≡ child_of t p

-- the place of the path's child after an exchange
abbrev place_after : Side → ℕ → ℕ → ℕ → ℕ
place_after Front count new p = p - count + new
place_after Back count new p = p

child_kept : (side : Side) (count : ℕ) (new : List Node) (t : Node) (p : ℕ) (ps : List ℕ) → KeepsChild side count (length (children t)) (p ∷ ps)
    → (path_after side count (length new) (p ∷ ps) ≡ place_after side count (length new) p ∷ ps) × IsKept t (with_edges (joined side new (remaining side count (children t))) t) p (place_after side count (length new) p)
child_kept Front count new t p ps keeps =
    let kids = new ++ drop count (children t) in
    let u = with_edges kids t in
    let is = trees-forest kids in
    let k = kept_front new (children t) count p u t keeps.0 keeps.1 in
    (refl, record { within = subst (λ (z : List Node). p - count + length new < length z) (sym is) k.0; child = ap (λ (z : List Node). get_or z (p - count + length new) u) is ∙ k.1 })
child_kept Back count new t p ps keeps =
    let kids = take (length (children t) - count) (children t) ++ new in
    let u = with_edges kids t in
    let is = trees-forest kids in
    let k = kept_back new (children t) count p u t keeps in
    (refl, record { within = subst (λ (z : List Node). p < length z) (sym is) k.0; child = ap (λ (z : List Node). get_or z p u) is ∙ k.1 })

-- the node above an edit has the edited tree as its child
pub raised_within : (t : Node) (p : ℕ) (s : Site) → p < length (children t) → p < length (children (raised t p s).tree)
raised_within t p s l = omega (arith, ap (λ (z : List Node). length z) (trees-forest (set (children t) p s.tree)), length-set (children t) p s.tree)

pub raised_child : (t : Node) (p : ℕ) (s : Site) → p < length (children t) → child_of (raised t p s).tree p ≡ s.tree
raised_child t p s l =
    ap (λ (z : List Node). get_or z p (raised t p s).tree) (trees-forest (set (children t) p s.tree)) ∙ get_or-set_same (children t) p s.tree (raised t p s).tree l

-- ---- numbers
pub edit_number : (e : Edit) (d : ℕ) (t : Node) (path : List ℕ) (out : List Node) → number (edit e d t path out).tree ≡ number t
edit_number (resize long bytes room) zero t path out = refl
edit_number (exchange x) zero t path out = refl
edit_number e (suc d) t [] out = refl
edit_number e (suc d) t (p ∷ ps) out = refl

exchange_numbers : (x : Exchange) (t : Node) (path : List ℕ) (out : List Node) → FitsBranch x t path → numbers_on (exchanged x (site t path out)).tree (exchanged x (site t path out)).path ≡ numbers_on t path
exchange_numbers x t path out fits = go path fits.keeps
  where
    side_nil : (side : Side) (count new : ℕ) → path_after side count new [] ≡ []
    side_nil Front count new = refl
    side_nil Back count new = refl

    go : (path : List ℕ) → KeepsChild x.side x.count (length (children t)) path → numbers_on (exchanged x (site t path out)).tree (exchanged x (site t path out)).path ≡ numbers_on t path
    go [] keeps = ap (numbers_on (exchanged x (site t [] out)).tree) (side_nil x.side x.count (length x.new))
    go (p ∷ ps) keeps =
        let k = child_kept x.side x.count x.new t p ps keeps in
        ap (numbers_on (exchanged x (site t (p ∷ ps) out)).tree) k.0 ∙ ap (λ (z : Node). number t ∷ numbers_on z ps) k.1.child

pub edit_numbers : (e : Edit) (d : ℕ) (t : Node) (path : List ℕ) (out : List Node) → FitsAt e d t path → numbers_on (edit e d t path out).tree (edit e d t path out).path ≡ numbers_on t path
edit_numbers (resize long bytes room) zero t [] out fits = refl
edit_numbers (resize long bytes room) zero t (p ∷ ps) out fits = absurd (let e = fits.0.ends in cc)
edit_numbers (exchange x) zero t path out fits = exchange_numbers x t path out fits.0
edit_numbers e (suc d) t [] out fits = absurd fits
edit_numbers e (suc d) t (p ∷ ps) out fits =
    let s = edit e d (child_of t p) ps out in
    ap (λ (z : Node). number t ∷ numbers_on z s.path) (raised_child t p s fits.1) ∙ ap (λ (ns : List ℕ). number t ∷ ns) (edit_numbers e d (child_of t p) ps out fits.2)

-- ---- the path still leads down over Branches
exchange_leads : (x : Exchange) (t : Node) (path : List ℕ) (out : List Node) → FitsBranch x t path → Leads t path → Leads (exchanged x (site t path out)).tree (exchanged x (site t path out)).path
exchange_leads x t path out fits leads = go path fits.keeps leads
  where
    none : (side : Side) (count new : ℕ) (u : Node) → Leads u (path_after side count new [])
    none Front count new u = tt
    none Back count new u = tt

    go : (path : List ℕ) → KeepsChild x.side x.count (length (children t)) path → Leads t path → Leads (exchanged x (site t path out)).tree (exchanged x (site t path out)).path
    go [] keeps leads = none x.side x.count (length x.new) (exchanged x (site t [] out)).tree
    go (p ∷ ps) keeps leads =
        let k = child_kept x.side x.count x.new t p ps keeps in
        subst (λ (z : List ℕ). Leads (exchanged x (site t (p ∷ ps) out)).tree z) (sym k.0) (leads.0, k.1.within, subst (λ (z : Node). Leads z ps) (sym k.1.child) leads.2)

pub edit_leads : (e : Edit) (d : ℕ) (t : Node) (path : List ℕ) (out : List Node) → FitsAt e d t path → Leads t path → Leads (edit e d t path out).tree (edit e d t path out).path
edit_leads (resize long bytes room) zero t [] out fits leads = tt
edit_leads (resize long bytes room) zero t (p ∷ ps) out fits leads = absurd (let e = fits.0.ends in cc)
edit_leads (exchange x) zero t path out fits leads = exchange_leads x t path out fits.0 leads
edit_leads e (suc d) t [] out fits leads = absurd fits
edit_leads e (suc d) t (p ∷ ps) out fits leads =
    let s = edit e d (child_of t p) ps out in (
      leads.0,
      raised_within t p s leads.1,
      subst (λ (z : Node). Leads z s.path) (sym (raised_child t p s leads.1)) (edit_leads e d (child_of t p) ps out fits.2 leads.2),
    )

-- ---- the trees that an edit moves are the same before and after it
exchange_loose : (side : Side) (count : ℕ) (new : List Node) (t : Node) (p : ℕ) (ps : List ℕ) (out : List Node) → let x : Exchange = record { side = side; count = count; new = new } in
    KeepsChild side count (length (children t)) (p ∷ ps) → Shuffled ((new ++ out) ++ beside t (p ∷ ps)) (loose (exchanged x (site t (p ∷ ps) out)))
exchange_loose Front count new t p ps out keeps =
    let x : Exchange = record { side = Front; count = count; new = new } in
    let s = exchanged x (site t (p ∷ ps) out) in
    let kids = children t in
    let e = edges_after x kids in
    let place = p - count + length new in
    let child = (child_kept Front count new t p ps keeps).1.child in
    shuffled_then ((new ++ out) ++ (all_but p kids ++ beside (child_of t p) ps)) (s.out ++ (all_but place e ++ beside (child_of t p) ps)) (loose s)
    (with_more (new ++ out) (all_but p kids) s.out (all_but place e) (beside (child_of t p) ps) (exchanged_front new out kids count p keeps.0 keeps.1))
    (shuffled_along (s.out ++ (all_but place e ++ beside (child_of t p) ps)) (loose s) (λ i. s.out ++ (all_but place (sym (trees-forest e) i) ++ beside (sym child i) ps)))
exchange_loose Back count new t p ps out keeps =
    let x : Exchange = record { side = Back; count = count; new = new } in
    let s = exchanged x (site t (p ∷ ps) out) in
    let kids = children t in
    let e = edges_after x kids in
    let child = (child_kept Back count new t p ps keeps).1.child in
    shuffled_then ((new ++ out) ++ (all_but p kids ++ beside (child_of t p) ps)) (s.out ++ (all_but p e ++ beside (child_of t p) ps)) (loose s)
    (with_more (new ++ out) (all_but p kids) s.out (all_but p e) (beside (child_of t p) ps) (exchanged_back new out kids count p keeps))
    (shuffled_along (s.out ++ (all_but p e ++ beside (child_of t p) ps)) (loose s) (λ i. s.out ++ (all_but p (sym (trees-forest e) i) ++ beside (sym child i) ps)))

exchange_loose_end : (side : Side) (count : ℕ) (new : List Node) (t : Node) (out : List Node) → let x : Exchange = record { side = side; count = count; new = new } in
    Shuffled ((new ++ out) ++ children t) (loose (exchanged x (site t [] out)))
exchange_loose_end Front count new t out =
    let x : Exchange = record { side = Front; count = count; new = new } in
    let s = exchanged x (site t [] out) in
    let e = edges_after x (children t) in
    shuffled_then ((new ++ out) ++ children t) (s.out ++ e) (loose s) (shuffled_exchange x (children t) out) (shuffled_along (s.out ++ e) (loose s) (ap (λ (z : List Node). s.out ++ z) (sym (trees-forest e))))
exchange_loose_end Back count new t out =
    let x : Exchange = record { side = Back; count = count; new = new } in
    let s = exchanged x (site t [] out) in
    let e = edges_after x (children t) in
    shuffled_then ((new ++ out) ++ children t) (s.out ++ e) (loose s) (shuffled_exchange x (children t) out) (shuffled_along (s.out ++ e) (loose s) (ap (λ (z : List Node). s.out ++ z) (sym (trees-forest e))))

pub edit_loose : (e : Edit) (d : ℕ) (t : Node) (path : List ℕ) (out : List Node) → FitsAt e d t path → Shuffled ((new_in e ++ out) ++ beside t path) (loose (edit e d t path out))
edit_loose (resize long bytes room) zero t [] out fits = shuffled_refl (out ++ children t)
edit_loose (resize long bytes room) zero t (p ∷ ps) out fits = absurd (let e = fits.0.ends in cc)
edit_loose (exchange x) zero t [] out fits = exchange_loose_end x.side x.count x.new t out
edit_loose (exchange x) zero t (p ∷ ps) out fits = exchange_loose x.side x.count x.new t p ps out fits.0.keeps
edit_loose e (suc d) t [] out fits = absurd fits
edit_loose e (suc d) t (p ∷ ps) out fits =
    let s = edit e d (child_of t p) ps out in
    let u = raised t p s in
    let was = new_in e ++ out in
    let kids = set (children t) p s.tree in
    let r = all_but p (children t) in
    let deeper = edit_loose e d (child_of t p) ps out fits.2 in
    shuffled_then (was ++ (r ++ beside (child_of t p) ps)) (r ++ (was ++ beside (child_of t p) ps)) (loose u) (shuffled_between was r (beside (child_of t p) ps))
    (shuffled_then (r ++ (was ++ beside (child_of t p) ps)) (r ++ (s.out ++ beside s.tree s.path)) (loose u) (shuffled_append r r (was ++ beside (child_of t p) ps) (loose s) (shuffled_refl r) deeper)
    (shuffled_then (r ++ (s.out ++ beside s.tree s.path)) (s.out ++ (r ++ beside s.tree s.path)) (loose u) (shuffled_between r s.out (beside s.tree s.path))
    (shuffled_along (s.out ++ (r ++ beside s.tree s.path)) (loose u)
    (λ i. s.out ++ ((sym (but_set (children t) p s.tree) ∙ ap (all_but p) (sym (trees-forest kids))) i ++ beside (sym (raised_child t p s fits.1) i) s.path)))))

-- ---- the trees outside make no difference to the tree and the path
pub edit_tree : (e : Edit) (d : ℕ) (t : Node) (path : List ℕ) (a b : List Node) → (edit e d t path a).tree ≡ (edit e d t path b).tree
edit_tree (resize long bytes room) zero t path a b = refl
edit_tree (exchange x) zero t path a b = refl
edit_tree e (suc d) t [] a b = refl
edit_tree e (suc d) t (p ∷ ps) a b = ap (λ (z : Node). with_edges (set (children t) p z) t) (edit_tree e d (child_of t p) ps a b)

pub edit_path : (e : Edit) (d : ℕ) (t : Node) (path : List ℕ) (a b : List Node) → (edit e d t path a).path ≡ (edit e d t path b).path
edit_path (resize long bytes room) zero t path a b = refl
edit_path (exchange x) zero t path a b = refl
edit_path e (suc d) t [] a b = refl
edit_path e (suc d) t (p ∷ ps) a b = ap (λ (z : List ℕ). p ∷ z) (edit_path e d (child_of t p) ps a b)

-- the edges that go weigh the same, whatever stands outside
pub weighs_out : (f : Node → ℕ) (e : Edit) (d : ℕ) (t : Node) (path : List ℕ) (a b : List Node) → sum_by f (edit e d t path a).out + sum_by f b ≡ sum_by f (edit e d t path b).out + sum_by f a
weighs_out f (resize long bytes room) zero t path a b = omega arith
weighs_out f (exchange x) zero t path a b = let gone = edges_out x (children t) in omega (arith, sum_by-append f a gone, sum_by-append f b gone)
weighs_out f e (suc d) t [] a b = omega arith
weighs_out f e (suc d) t (p ∷ ps) a b = weighs_out f e d (child_of t p) ps a b
