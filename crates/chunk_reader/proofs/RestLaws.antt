-- What a data edge has from an offset on is what comes next in the text of the whole tree.
use Rattle.std.proofs.Common.{ℕ, zero, suc, ◌≡◌, ◌+◌, ◌<◌, ◌≤◌, List, [], ◌∷◌, ◌++◌, length, sum_by, sym, ap, ◌∙◌, get_or, take, drop, arith}
use Rattle.std.specs.List.{All, flat_map}
use Rattle.std.proofs.lemmas.List.{length-take, length-drop, drop-append-le, take-append-le}
use Rattle.std.proofs.Math.Seq.{drop-append-add, take-length}
use Rattle.std.proofs.lemmas.List.Sums.{sum_by-append}
use Rattle.node_forest.specs.Forest.{children}
use Rattle.node_forest.specs.Label.{Node}
use Rattle.tree_shapes.specs.Shape.{length_of}
use Rattle.node_edges.specs.Text.{text}
use Rattle.node_edges.specs.Trees.{IsTreeAt}
use Rattle.node_edges.proofs.EdgeLaws.{children-shape, length-shape, sum-lengths}
use Rattle.node_edges.proofs.TreeLaws.{All-tail, text-above, edges-trees}
use Rattle.node_edges.proofs.TextLaws.{length-text}
use Rattle.chunk_reader.specs.Places.{long, place_in, IsPlace, child_at, rest_at}
use Rattle.chunk_reader.proofs.PlaceLaws.{placed}

abbrev pub Measures : Node → Type 0
Measures m = length (text m) ≡ long m

drop-joined : (es : List Node) (at inner : ℕ) (d : Node) → All Measures es → at < length es → inner ≤ length (text (get_or es at d))
    → drop (sum_by long (take at es) + inner) (flat_map text es) ≡ drop inner (text (get_or es at d)) ++ flat_map text (drop (suc at) es)
drop-joined [] at inner d all lt within = absurd (omega arith)
drop-joined (m ∷ es) zero inner d all lt within = ap (λ n. drop n (text m ++ flat_map text es)) (omega arith) ∙ drop-append-le inner (text m) (flat_map text es) within
drop-joined (m ∷ es) (suc at) inner d all lt within =
    let k = sum_by long (take at es) + inner in
    let e : sum_by long (m ∷ take at es) + inner ≡ length (text m) + k = omega (arith, all 0 m (omega arith), sum_by-append long (m ∷ []) (take at es)) in
    ap (λ n. drop n (text m ++ flat_map text es)) e ∙ drop-append-add (text m) (flat_map text es) k ∙ drop-joined es at inner d (All-tail Measures m es all) (omega arith) within

module _ (l : ℕ) (e : Node) (tree : IsTreeAt (suc l) e) where
  -- a Branch is as long as its edges together
  pub edges-long : long e ≡ sum_by long (children e)
  edges-long = sym (length-shape e) ∙ tree.node.long ∙ ap (sum_by length_of) (children-shape e) ∙ sum-lengths (children e)

  pub child-tree : (k : ℕ) → k < length (children e) → IsTreeAt l (child_at e k)
  child-tree k lt = edges-trees l e tree k e lt

  measures : All Measures (children e)
  measures = λ k d lt. length-text l (get_or (children e) k d) (edges-trees l e tree k d lt)

  module _ (offset : ℕ) (within : offset < long e) where
    pub place : IsPlace (children e) offset (place_in (children e) offset).0 (place_in (children e) offset).1
    place = placed (children e) offset (omega (arith, within, edges-long))

    pub inner-within : (place_in (children e) offset).1 < long (child_at e (place_in (children e) offset).0)
    inner-within = place.covers e

    pub inner-less : (place_in (children e) offset).1 ≤ offset
    inner-less = omega (arith, place.sum)

    -- the text from the offset on begins with that of the edge that covers it
    pub drop-below : drop offset (text e) ≡ drop (place_in (children e) offset).1 (text (child_at e (place_in (children e) offset).0)) ++ flat_map text (drop (suc (place_in (children e) offset).0) (children e))
    drop-below =
        let p = place_in (children e) offset in
        let lt = inner-within in
        let size = measures p.0 e place.within in
        ap (drop offset) (text-above l e tree.at)
        ∙ ap (λ n. drop n (flat_map text (children e))) place.sum
        ∙ drop-joined (children e) p.0 p.1 e measures place.within (omega (arith, lt, size))

-- at least one byte
pub rest-some : (l : ℕ) (e : Node) (offset : ℕ) → IsTreeAt l e → offset < long e → 0 < length (rest_at l e offset)
rest-some zero e offset tree within = omega (arith, length-text 0 e tree, length-drop offset (text e), within)
rest-some (suc l) e offset tree within =
    let p = place_in (children e) offset in
    rest-some l (child_at e p.0) p.1 (child-tree l e tree p.0 (place l e tree offset within).within) (inner-within l e tree offset within)

-- and what comes next
pub rest-next : (l : ℕ) (e : Node) (offset : ℕ) → IsTreeAt l e → offset < long e → rest_at l e offset ≡ take (length (rest_at l e offset)) (drop offset (text e))
rest-next zero e offset tree within = sym (take-length (drop offset (text e)))
rest-next (suc l) e offset tree within =
    let p = place_in (children e) offset in
    let child = child_at e p.0 in
    let rest = rest_at l child p.1 in
    let below = rest-next l child p.1 (child-tree l e tree p.0 (place l e tree offset within).within) (inner-within l e tree offset within) in
    let few : length rest ≤ length (drop p.1 (text child)) = omega (arith, ap length below, length-take (length rest) (drop p.1 (text child))) in
    below
    ∙ sym (ap (take (length rest)) (drop-below l e tree offset within) ∙ take-append-le (length rest) (drop p.1 (text child)) _ few)

-- no more than the tree has from there on
pub rest-few : (l : ℕ) (e : Node) (offset : ℕ) → IsTreeAt l e → offset < long e → offset + length (rest_at l e offset) ≤ long e
rest-few l e offset tree within =
    let rest = rest_at l e offset in
    omega (arith, within, length-text l e tree, length-drop offset (text e), ap length (rest-next l e offset tree within), length-take (length rest) (drop offset (text e)))
