-- What a list of changes makes of a node that is seen by its body, from the top of the path down.
use Rattle.std.specs.Global.{Vec}
use Rattle.std.proofs.Common.{ℕ, zero, suc, ◌≡◌, ◌+◌, ◌-◌, ◌^◌, ◌<◌, ◌≤◌, true, false, eqb, eq-eqb, ne_eqb, List, [], ◌∷◌, ◌++◌, length, get_or, set, take, drop, map, reverse, refl, sym, ap, ◌∙◌, subst, arith, take-append-drop}
use mathlib.Core.Logic.{dite}
use native.Mathlib.Decide.{ℕ_discrete}
use Rattle.std.proofs.lemmas.List.{get_or_read}
use Rattle.node_forest.specs.Forest.{children}
use Rattle.node_forest.specs.Label.{Node}
use Rattle.node_forest.specs.Paths.{child_of, at_depth}
use Rattle.node_forest.proofs.Maps.{trees-forest}
use Rattle.node_edges.specs.declared.change.Change.{Change}
use Rattle.node_edges.specs.declared.edge.Body.{Body}
use Rattle.node_edges.specs.declared.edge.Body.TheVariants.{Flat, External, Part, Sum, Branch}
use Rattle.node_edges.specs.Body.{node_with, IsMade}
use Rattle.node_forest.specs.Changes.{Exchange, Edit, resize, exchange, Site, site, total, raised, FitsAt}
use Rattle.node_edges.specs.Changes.{edit_of, edits, FitEach}
use Rattle.node_edges.specs.declared.exchange.Ready.{Ready}
use Rattle.node_edges.specs.Levels.{exchange_of, exchanges_in, all_after, all_count, all_bytes, all_room, FitAllBytes, most_out, lowered, AreDeep, AreAt}
use Rattle.node_edges.proofs.EditLaws.{edits-append, fits-append, most-append, lowered-append, lowered-lowered, length-lowered, exchanges-lowered, deep-lowered, at-lowered, flat_at, flat_fits, flat_edits, bytes-lowered, room-lowered, fit-lowered, IsFit, fit_edits, no_path, in_kids, deeper-edits, deeper-fits, count-most, branch_at, IsMadeBy, made_own}

-- ---- what the code's tests tell
pub none-there : {X : Type 0} (xs : List X) → true ≡ eqb (length xs) 0 → length xs ≡ 0
none-there xs e = dite (ℕ_discrete (length xs) 0) (λ z. z) (λ n. absurd (let f = ne_eqb (length xs) 0 n in cc))

pub some-there : {X : Type 0} (xs : List X) → false ≡ eqb (length xs) 0 → 0 < length xs
some-there xs e = dite (ℕ_discrete (length xs) 0) (λ z. absurd (let f = eq-eqb (length xs) 0 z in cc)) (λ n. omega arith)

-- ---- at a flat
module _ (cs : List (ℕ × Change)) (depth n l room : ℕ) (bytes : Vec ℕ) (v : Body) (e : Node) (path : List ℕ) (out : List Node) (is : Flat bytes room ≡ v) (view : node_with n l v ≡ e) (inv : IsMade l v)
    (fits : FitEach (lowered depth cs) (site e path out)) where
  flat_seen : flat_at n l bytes.items room ≡ e
  flat_seen = ap (λ (b : Body). node_with n l b) is ∙ view

  flat_long : l ≡ length bytes.items
  flat_long = (subst (IsMade l) (sym is) inv).long

  flat_fits_here : FitEach (lowered depth cs) (site (flat_at n l bytes.items room) path out)
  flat_fits_here = subst (λ (z : Node). FitEach (lowered depth cs) (site z path out)) (sym flat_seen) fits

  pub flat-level_fits : FitAllBytes cs bytes.items room
  flat-level_fits = fit-lowered depth cs bytes.items room (flat_fits (lowered depth cs) n l room bytes.items room path out flat_long refl flat_fits_here)

  pub flat-level : edits (lowered depth cs) (site e path out) ≡ site (flat_at n (length (all_bytes cs bytes.items)) (all_bytes cs bytes.items) (all_room cs bytes.items room)) path out
  flat-level =
      ap (λ (z : Node). edits (lowered depth cs) (site z path out)) (sym flat_seen)
      ∙ (flat_edits (lowered depth cs) n l room bytes.items room path out flat_long refl flat_fits_here
      ∙ (λ i. site (flat_at n (length (bytes-lowered depth cs bytes.items i)) (bytes-lowered depth cs bytes.items i) (room-lowered depth cs bytes.items room i)) path out))

-- ---- at a Branch
-- what exchanges make of it, and how many edges go
pub record IsLevel (cs : List (ℕ × Change)) (n h : ℕ) (xs : List Exchange) (es before : List Node) (end : Site) : Type 0 where
  pub made : IsMadeBy n h xs es before end
  pub count : all_count xs ≡ most_out cs

module _ (cs : List (ℕ × Change)) (depth n l h : ℕ) (es : Vec Node) (v : Body) (e : Node) (path : List ℕ) (out : List Node) (is : Branch h es ≡ v) (view : node_with n l v ≡ e) (inv : IsMade l v)
    (fits : FitEach (lowered depth cs) (site e path out)) where
  t : Node
  t = branch_at n (total es.items) h es.items

  here : IsMade l (Branch h es)
  here = subst (IsMade l) (sym is) inv

  same : t ≡ e
  unfolding t
  same = ap (λ (z : ℕ). branch_at n z h es.items) (sym here.long) ∙ (ap (λ (b : Body). node_with n l b) is ∙ view)

  fit : IsFit t
  unfolding t
  fit =
      let long : length (children (branch_at n (total es.items) h es.items)) ≡ length es.items = ap (λ (z : List Node). length z) (trees-forest es.items) in
      let some : 0 < length es.items = here.body.few.0 in
      let few : length es.items ≤ 6 = here.body.few.1 in
      let short : total es.items < 2 ^ 63 = here.body.small in
      record { branch = refl; short = short; some = omega arith; few = omega arith }

  pub branch-few : length es.items ≤ 6
  branch-few = here.body.few.1

  fits_here : FitEach (lowered depth cs) (site t path out)
  fits_here = subst (λ (z : Node). FitEach (lowered depth cs) (site z path out)) (sym same) fits

  -- all changes are the node's own
  pub own-level : (xs : List Exchange) → xs ≡ exchanges_in cs → AreAt depth cs → IsLevel cs n h xs es.items out (edits (lowered depth cs) (site e path out))
  unfolding t
  own-level xs all at =
      let ys = exchanges_in (lowered depth cs) in
      let made = made_own (lowered depth cs) n h es.items path out (at-lowered depth cs at) fit fits_here in
      let same_xs : ys ≡ xs = exchanges-lowered depth cs ∙ sym all in
      let moved : IsMadeBy n h xs es.items out (edits (lowered depth cs) (site e path out)) =
      subst (λ (z : Node). IsMadeBy n h xs es.items out (edits (lowered depth cs) (site z path out))) same
      (subst (λ (z : List Exchange). IsMadeBy n h z es.items out (edits (lowered depth cs) (site t path out))) same_xs made) in
      let can = subst (λ (z : List Exchange). IsMadeBy n h z es.items out (edits (lowered depth cs) (site e path out))) all moved in
      record { made = moved; count = ap all_count all ∙ count-most cs es.items branch-few can.can }

  -- the same, as the code finds it: of the changes, cut in two, none lies deeper, and the others are made ready
  pub own-here : (k : ℕ) (back : List (ℕ × Change)) (ready : List Ready) → k ≡ 0 → AreAt depth (drop k cs) → back ≡ drop k cs → reverse (map exchange_of ready) ≡ exchanges_in back
      → IsLevel cs n h (reverse (map exchange_of ready)) es.items out (edits (lowered depth cs) (site e path out))
  own-here k back ready none at split all =
      own-level (reverse (map exchange_of ready)) (all ∙ ap exchanges_in (split ∙ ap (λ (j : ℕ). drop j cs) none)) (subst (λ (j : ℕ). AreAt depth (drop j cs)) none at)

  -- some lie deeper
  module _ (k : ℕ) (deep : AreDeep (depth + 1) (take k cs)) (at : AreAt depth (drop k cs)) (some : 0 < length (take k cs)) where
    a : List (ℕ × Change)
    a = lowered depth (take k cs)

    b : List (ℕ × Change)
    b = lowered depth (drop k cs)

    parts : lowered depth cs ≡ a ++ b
    unfolding a b
    parts = ap (lowered depth) (sym (take-append-drop k cs)) ∙ lowered-append depth (take k cs) (drop k cs)

    deep_a : AreDeep 1 a
    unfolding a
    deep_a = deep-lowered depth (take k cs) deep

    some_a : 0 < length a
    unfolding a
    some_a = let r = length-lowered depth (take k cs) in omega arith

    two : FitEach a (site t path out) × FitEach b (edits a (site t path out))
    two = fits-append a b (site t path out) (subst (λ (z : List (ℕ × Change)). FitEach z (site t path out)) parts fits_here)

    pub has-path : length path ≡ 0 → ⊥
    has-path none = go path none two.0
      where
        go : (z : List ℕ) → length z ≡ 0 → FitEach a (site t z out) → ⊥
        go [] none f = no_path a t out some_a deep_a f
        go (x ∷ xs) none f = omega arith

    module _ (p : ℕ) (ps : List ℕ) (split : path ≡ p ∷ ps) where
      fits_a : FitEach a (site t (p ∷ ps) out)
      fits_a = subst (λ (z : List ℕ). FitEach a (site t z out)) split two.0

      within_t : p < length (children t)
      within_t = in_kids a t p ps out some_a deep_a fits_a

      pub within : p < length es.items
      unfolding t
      within = let long : length (children t) ≡ length es.items = ap (λ (z : List Node). length z) (trees-forest es.items) in let w = within_t in omega arith

      module _ (child : Node) (read : child ≡ get_or es.items p child) where
        child_same : child_of t p ≡ child
        unfolding t
        child_same = ap (λ (z : List Node). get_or z p t) (trees-forest es.items) ∙ sym (get_or_read es.items p child within read t)

        lower : lowered 1 a ≡ lowered (depth + 1) (take k cs)
        unfolding a
        lower = lowered-lowered depth (take k cs)

        pub child-fits : FitEach (lowered (depth + 1) (take k cs)) (site child ps out)
        child-fits = subst (λ (z : List (ℕ × Change)). FitEach z (site child ps out)) lower
            (subst (λ (z : Node). FitEach (lowered 1 a) (site z ps out)) child_same (deeper-fits a t p ps out deep_a within_t fits_a))

        abbrev s : Site
        s = edits (lowered (depth + 1) (take k cs)) (site child ps out)

        kids : List Node
        kids = set es.items p s.tree

        -- the end of the deeper changes
        after_a : edits a (site t path out) ≡ site (branch_at n (total kids) h kids) (p ∷ s.path) s.out
        unfolding t kids
        after_a =
            ap (λ (z : List ℕ). edits a (site t z out)) split
            ∙ (deeper-edits a t p ps out deep_a (ap (λ (z : List Node). branch_at n (total z) h z) (sym (trees-forest es.items))) within_t
            ∙ (ap (λ (z : Site). raised t p z) (ap (λ (z : Node). edits (lowered 1 a) (site z ps out)) child_same ∙ ap (λ (z : List (ℕ × Change)). edits z (site child ps out)) lower)
            ∙ ap (λ (z : List Node). let ks = set z p s.tree in site (branch_at n (total ks) h ks) (p ∷ s.path) s.out) (trees-forest es.items)))

        fit_kids : IsFit (branch_at n (total kids) h kids)
        fit_kids = subst (λ (z : Site). IsFit z.tree) after_a (fit_edits a (site t path out) fit two.0)

        whole : edits b (site (branch_at n (total kids) h kids) (p ∷ s.path) s.out) ≡ edits (lowered depth cs) (site e path out)
        whole =
            ap (edits b) (sym after_a)
            ∙ (sym (edits-append a b (site t path out))
            ∙ (ap (λ (z : List (ℕ × Change)). edits z (site t path out)) (sym parts)
            ∙ ap (λ (z : Node). edits (lowered depth cs) (site z path out)) same))

        below_made : (ys : List Exchange) → ys ≡ exchanges_in (drop k cs) → IsLevel (drop k cs) n h ys kids s.out (edits (lowered depth cs) (site e path out))
        unfolding b
        below_made ys all =
            let made = made_own b n h kids (p ∷ s.path) s.out (at-lowered depth (drop k cs) at) fit_kids (subst (λ (z : Site). FitEach b z) after_a two.1) in
            let moved = subst (λ (z : Site). IsMadeBy n h (exchanges_in b) kids s.out z) whole made in
            let own = subst (λ (z : List Exchange). IsMadeBy n h z kids s.out (edits (lowered depth cs) (site e path out))) (exchanges-lowered depth (drop k cs)) moved in
            let few : length kids ≤ 6 = (let f = fit_kids.few in let long : length (children (branch_at n (total kids) h kids)) ≡ length kids = ap (λ (z : List Node). length z) (trees-forest kids) in omega arith) in
            record {
              made = subst (λ (z : List Exchange). IsMadeBy n h z kids s.out (edits (lowered depth cs) (site e path out))) (sym all) own;
              count = ap all_count all ∙ count-most (drop k cs) kids few own.can;
            }

        pub below-level : (ys : List Exchange) (new : Node) (gone : List Node) → ys ≡ exchanges_in (drop k cs) → new ≡ s.tree → gone ≡ s.out
            → IsLevel (drop k cs) n h ys (set es.items p new) gone (edits (lowered depth cs) (site e path out))
        unfolding kids
        below-level ys new gone all made went =
            subst (λ (z : Node × List Node). IsLevel (drop k cs) n h ys (set es.items p z.0) z.1 (edits (lowered depth cs) (site e path out))) (λ i. (sym made i, sym went i)) (below_made ys all)

  -- the same, as the code finds it: of the changes, cut in two, some lie deeper, and the others are made ready
  pub below-here : (k : ℕ) (front back : List (ℕ × Change)) (ready : List Ready) (p : ℕ) (ps : List ℕ) (child new : Node) (gone : List Node)
      → AreDeep (depth + 1) (take k cs) → AreAt depth (drop k cs) → false ≡ eqb (length front) 0 → front ≡ take k cs → back ≡ drop k cs → path ≡ p ∷ ps → child ≡ get_or es.items p child
      → reverse (map exchange_of ready) ≡ exchanges_in back
      → new ≡ (edits (lowered (depth + 1) front) (site child ps out)).tree → gone ≡ (edits (lowered (depth + 1) front) (site child ps out)).out
      → IsLevel (drop k cs) n h (reverse (map exchange_of ready)) (set es.items p new) gone (edits (lowered depth cs) (site e path out))
  below-here k front back ready p ps child new gone deep at some is_front is_back split read all came went =
      let end : List (ℕ × Change) → Site = λ z. edits (lowered (depth + 1) z) (site child ps out) in
      below-level k deep at (subst (λ (z : List (ℕ × Change)). 0 < length z) is_front (some-there front some)) p ps split child read (reverse (map exchange_of ready)) new gone
      (all ∙ ap exchanges_in is_back) (came ∙ ap (λ (z : List (ℕ × Change)). (end z).tree) is_front) (went ∙ ap (λ (z : List (ℕ × Change)). (end z).out) is_front)

-- the length and the edges of the Branch that exchanges made
pub made-branch : (xs : List Exchange) (es : List Node) (new : Vec Node) (long : ℕ) → new.items ≡ all_after xs es → long ≡ total new.items
    → total (all_after xs es) < 2 ^ 63 → 0 < length (all_after xs es) → length (all_after xs es) ≤ 6 → (h : ℕ) → IsMade long (Branch h new)
made-branch xs es new long made sum short some few h =
    let same = ap total made in
    let count : length new.items ≡ length (all_after xs es) = ap (λ (z : List Node). length z) made in
    record {
      long = sum;
      body = record { small = omega (arith, same, short); few = (let l : 0 < length new.items = omega arith in l, let l : length new.items ≤ 6 = omega arith in l) };
    }

-- what may go is what goes at this node and below it
pub most-parts : (k : ℕ) (cs : List (ℕ × Change)) → most_out cs ≡ most_out (take k cs) + most_out (drop k cs)
most-parts k cs = ap most_out (sym (take-append-drop k cs)) ∙ most-append (take k cs) (drop k cs)

-- ---- at other nodes
no_other : (e : Edit) (d n l : ℕ) (v : Body) (path : List ℕ) → FitsAt e d (node_with n l v) path → ((bytes : Vec ℕ) (room : ℕ) → v ≡ Flat bytes room → ⊥) → ((h : ℕ) (es : Vec Node) → v ≡ Branch h es → ⊥) → ⊥
no_other e d n l (Flat bytes room) path fits no_flat no_branch = no_flat bytes room refl
no_other e d n l (Branch h es) path fits no_flat no_branch = no_branch h es refl
no_other (resize bytes_long held kept) zero n l (External bytes slot) path fits no_flat no_branch = let f = fits.0.flat in absurd (cc)
no_other (exchange x) zero n l (External bytes slot) path fits no_flat no_branch = let f = fits.0.branch in absurd (cc)
no_other e (suc d) n l (External bytes slot) [] fits no_flat no_branch = fits
no_other e (suc d) n l (External bytes slot) (p ∷ ps) fits no_flat no_branch = let f = fits.0 in absurd (cc)
no_other (resize bytes_long held kept) zero n l (Part start long child) path fits no_flat no_branch = let f = fits.0.flat in absurd (cc)
no_other (exchange x) zero n l (Part start long child) path fits no_flat no_branch = let f = fits.0.branch in absurd (cc)
no_other e (suc d) n l (Part start long child) [] fits no_flat no_branch = fits
no_other e (suc d) n l (Part start long child) (p ∷ ps) fits no_flat no_branch = let f = fits.0 in absurd (cc)
no_other (resize bytes_long held kept) zero n l (Sum value child) path fits no_flat no_branch = let f = fits.0.flat in absurd (cc)
no_other (exchange x) zero n l (Sum value child) path fits no_flat no_branch = let f = fits.0.branch in absurd (cc)
no_other e (suc d) n l (Sum value child) [] fits no_flat no_branch = fits
no_other e (suc d) n l (Sum value child) (p ∷ ps) fits no_flat no_branch = let f = fits.0 in absurd (cc)

-- a node to which a change fits is a flat or a Branch
pub fits-kinds : (cs : List (ℕ × Change)) (depth n l : ℕ) (v : Body) (e : Node) (path : List ℕ) (out : List Node) → 0 < length cs → node_with n l v ≡ e → FitEach (lowered depth cs) (site e path out)
    → ((bytes : Vec ℕ) (room : ℕ) → v ≡ Flat bytes room → ⊥) → ((h : ℕ) (es : Vec Node) → v ≡ Branch h es → ⊥) → ⊥
fits-kinds [] depth n l v e path out some view fits no_flat no_branch = absurd (omega arith)
fits-kinds (c ∷ cs) depth n l v e path out some view fits no_flat no_branch =
    no_other (edit_of c.1 (at_depth (c.0 - depth) e path)) (c.0 - depth) n l v path
    (subst (λ (z : Node). FitsAt (edit_of c.1 (at_depth (c.0 - depth) e path)) (c.0 - depth) z path) (sym view) fits.0.0) no_flat no_branch
