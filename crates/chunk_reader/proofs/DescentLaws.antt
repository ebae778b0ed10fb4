-- One step of a way down, from a Branch to the edge that covers the offset.
use Rattle.std.specs.Global.{Vec}
use Rattle.std.proofs.Common.{ℕ, suc, ◌≡◌, ◌+◌, ◌-◌, ◌<◌, ◌≤◌, List, [], ◌∷◌, length, sum_by, refl, sym, ap, subst, ◌∙◌, get_or, drop, arith}
use Rattle.std.specs.Prelude.{slice_index_or}
use Rattle.std.proofs.lemmas.List.{get_or_default}
use Rattle.node_forest.specs.Forest.{children}
use Rattle.node_forest.specs.Label.{Node}
use Rattle.tree_shapes.specs.Shape.{level}
use Rattle.node_edges.specs.declared.edge.Body.TheVariants.{Branch}
use Rattle.node_edges.specs.Body.{IsNodeOf}
use Rattle.node_edges.specs.Text.{text}
use Rattle.node_edges.specs.Trees.{shape_of, IsTreeAt}
use Rattle.node_edges.proofs.EdgeLaws.{branch-body, children-branch, level-branch}
use Rattle.node_edges.proofs.TreeLaws.{edges-trees}
use Rattle.chunk_reader.specs.Places.{long, place_in, IsPlace, way_down, rest_at}
use Rattle.chunk_reader.proofs.PlaceLaws.{placed}
use Rattle.chunk_reader.proofs.RestLaws.{edges-long}

pub way-step : (e c : Node) (h : ℕ) (es : List Node) (start offset k inner : ℕ) → level (shape_of e) ≡ suc h → children e ≡ es → place_in es offset ≡ (k, inner) → slice_index_or es k e ≡ c → level (shape_of c) ≡ h
    → way_down (level (shape_of e)) e start offset ≡ record { branch = e; start = start; edge = k } ∷ way_down (level (shape_of c)) c (start + (offset - inner)) inner
way-step e c h es start offset k inner up kids at child low = rw (up, kids, at, child, low) refl

pub rest-step : (e c : Node) (h : ℕ) (es : List Node) (offset k inner : ℕ) → level (shape_of e) ≡ suc h → children e ≡ es → place_in es offset ≡ (k, inner) → slice_index_or es k e ≡ c → level (shape_of c) ≡ h
    → rest_at (level (shape_of e)) e offset ≡ rest_at (level (shape_of c)) c inner
rest-step e c h es offset k inner up kids at child low = rw (up, kids, at, child, low) refl

module _ (e : Node) (h : ℕ) (v : Vec Node) (is : IsNodeOf (Branch h v) e) (tree : IsTreeAt (level (shape_of e)) e) where
  pub up : level (shape_of e) ≡ suc h
  up = level-branch e h v.items (branch-body e h v is)

  pub kids : children e ≡ v.items
  kids = children-branch e h v.items (branch-body e h v is)

  at : IsTreeAt (suc h) e
  at = subst (λ n. IsTreeAt n e) up tree

  pub kids-long : long e ≡ sum_by long v.items
  kids-long = edges-long h e at ∙ ap (sum_by long) kids

  module _ (k : ℕ) (d : Node) (lt : k < length v.items) where
    pub kid-tree : IsTreeAt h (get_or v.items k d)
    kid-tree = subst (λ es. IsTreeAt h (get_or es k d)) kids (edges-trees h e at k d (omega (arith, lt, ap length kids)))

    pub kid-level : level (shape_of (get_or v.items k d)) ≡ h
    kid-level = kid-tree.at

    pub kid-tree_at : IsTreeAt (level (shape_of (get_or v.items k d))) (get_or v.items k d)
    kid-tree_at = subst (λ n. IsTreeAt n (get_or v.items k d)) (sym kid-level) kid-tree

-- what is known of a Branch on the way, where its edge at k covers the offset
pub record Step (e c : Node) (start place k inner : ℕ) : Type 0 where
  pub less : level (shape_of c) < level (shape_of e)
  pub tree : IsTreeAt (level (shape_of c)) c
  pub within : inner < long c
  pub inner_le : inner ≤ place - start
  pub way : way_down (level (shape_of e)) e start (place - start) ≡ record { branch = e; start = start; edge = k } ∷ way_down (level (shape_of c)) c (place - inner) inner
  pub rest : rest_at (level (shape_of e)) e (place - start) ≡ rest_at (level (shape_of c)) c inner

module _ (e : Node) (h : ℕ) (v : Vec Node) (is : IsNodeOf (Branch h v) e) (tree : IsTreeAt (level (shape_of e)) e) (start place : ℕ) (from : start ≤ place) (in_text : place < start + long e) where
  pub in-kids : place - start < sum_by long v.items
  in-kids = omega (arith, from, in_text, kids-long e h v is tree)

  pub falls : IsPlace v.items (place - start) (place_in v.items (place - start)).0 (place_in v.items (place - start)).1
  falls = placed v.items (place - start) in-kids

  pub step : (k inner : ℕ) (d : Node) → (k, inner) ≡ place_in v.items (place - start) → Step e (get_or v.items k d) start place k inner
  step k inner d at =
      let fall : IsPlace v.items (place - start) k inner = subst (λ (p : ℕ × ℕ). IsPlace v.items (place - start) p.0 p.1) (sym at) falls in
      let c = get_or v.items k d in
      let less : inner ≤ place - start = omega (arith, fall.sum) in
      let same : slice_index_or v.items k e ≡ c = get_or_default v.items k e d fall.within in
      let low = kid-level e h v is tree k d fall.within in
      let starts : start + (place - start - inner) ≡ place - inner = omega (arith, from, less) in
      record {
        less = omega (arith, low, up e h v is tree);
        tree = kid-tree_at e h v is tree k d fall.within;
        within = fall.covers d;
        inner_le = less;
        way =
            way-step e c h v.items start (place - start) k inner (up e h v is tree) (kids e h v is tree) (sym at) same low
            ∙ ap (λ n. record { branch = e; start = start; edge = k } ∷ way_down (level (shape_of c)) c n inner) starts;
        rest = rest-step e c h v.items (place - start) k inner (up e h v is tree) (kids e h v is tree) (sym at) same low;
      }

  -- the same of the edge that an index gives
  pub step-to : (p : ℕ × ℕ) (es : List Node) (c : Node) → p ≡ place_in es (place - start) → es ≡ v.items → c ≡ get_or v.items p.0 c → Step e c start place p.0 p.1
  step-to p es c at same item = subst (λ (child : Node). Step e child start place p.0 p.1) (sym item) (step p.0 p.1 c (at ∙ ap (λ xs. place_in xs (place - start)) same))

-- a node that is no Branch is a data edge
pub data-way : (e : Node) (start offset : ℕ) → level (shape_of e) ≡ 0 → way_down (level (shape_of e)) e start offset ≡ []
data-way e start offset low = ap (λ n. way_down n e start offset) low

pub data-rest : (e : Node) (offset : ℕ) → level (shape_of e) ≡ 0 → rest_at (level (shape_of e)) e offset ≡ drop offset (text e)
data-rest e offset low = ap (λ n. rest_at n e offset) low
