-- What a reading's chunk is within its text.
use Rattle.std.proofs.Common.{ℕ, ◌≡◌, ◌+◌, ◌<◌, ◌≤◌, ◌⊎◌, inl, inr, List, [], length, refl, sym, ap, subst, ◌∙◌, drop, arith, Option, Some, None, Bool}
use Rattle.std.specs.Prelude.{if◌then◌else◌, min, take, ◌∷◌}
use Rattle.std.proofs.lemmas.Bool.{cases_lt, lt-ltb, le-ltb}
use Rattle.std.proofs.lemmas.List.{length-drop, length-take, drop-drop, take-take, take_min}
use Rattle.std.proofs.Math.Seq.{take-length}
use Rattle.std.proofs.Math.ListN.{drop_of_length-le}
use Rattle.node_forest.specs.Label.{Node}
use Rattle.tree_shapes.specs.Shape.{level}
use Rattle.node_edges.specs.Trees.{shape_of}
use Rattle.node_edges.proofs.TextLaws.{length-text}
use Rattle.chunk_reader.specs.Readings.{Reading, IsReadable, left, way_of, rest_of, stops_of, chunk_of, passed}
use Rattle.chunk_reader.specs.declared.chunks.Source.{Source}
use Rattle.chunk_reader.specs.declared.chunks.Source.TheVariants.{Bytes, Tree}
use Rattle.chunk_reader.specs.Sources.{reading_of, KeepsWay, IsReader}
use Rattle.chunk_reader.specs.Places.{rest_at}
use Rattle.chunk_reader.proofs.RestLaws.{rest-some, rest-few, rest-next}
use Rattle.chunk_reader.proofs.WayLaws.{stay}

-- within the text, and at its end
pub chunk-inside : (r : Reading) → r.at < length r.bytes → chunk_of r ≡ rest_of r.tree r.bytes r.at
chunk-inside r lt = ap (λ (b : Bool). if b then rest_of r.tree r.bytes r.at else []) (lt-ltb r.at (length r.bytes) lt)

pub chunk-end : (r : Reading) → length r.bytes ≤ r.at → chunk_of r ≡ []
chunk-end r le = ap (λ (b : Bool). if b then rest_of r.tree r.bytes r.at else []) (le-ltb r.at (length r.bytes) le)

pub stops-inside : (r : Reading) → r.at < length r.bytes → stops_of r ≡ way_of r.tree r.at
stops-inside r lt = ap (λ (b : Bool). if b then way_of r.tree r.at else []) (lt-ltb r.at (length r.bytes) lt)

rest-bounds : (tree : Option Node) (bytes : List ℕ) (at : ℕ) → IsReadable tree bytes → at < length bytes → (0 < length (rest_of tree bytes at)) × (at + length (rest_of tree bytes at) ≤ length bytes)
rest-bounds None bytes at is lt = (omega (arith, lt, length-drop at bytes), omega (arith, lt, length-drop at bytes))
rest-bounds (Some e) bytes at is lt =
    let size : length bytes ≡ e.0.length = ap length (sym is.2) ∙ length-text (level (shape_of e)) e is.0 in
    (rest-some (level (shape_of e)) e at is.0 (omega (arith, lt, size)), omega (arith, size, rest-few (level (shape_of e)) e at is.0 (omega (arith, lt, size))))

within-by : (r : Reading) → IsReadable r.tree r.bytes → r.at ≤ length r.bytes → (r.at < length r.bytes) ⊎ (length r.bytes ≤ r.at) → r.at + length (chunk_of r) ≤ length r.bytes
within-by r is le (inl lt) = omega (arith, ap length (chunk-inside r lt), (rest-bounds r.tree r.bytes r.at is lt).1)
within-by r is le (inr end) = omega (arith, le, ap length (chunk-end r end))

-- a chunk ends within the text
pub chunk-within : (r : Reading) → IsReadable r.tree r.bytes → r.at ≤ length r.bytes → r.at + length (chunk_of r) ≤ length r.bytes
chunk-within r is le = within-by r is le (cases_lt r.at (length r.bytes))

inside-by : (r : Reading) → (r.at < length r.bytes) ⊎ (length r.bytes ≤ r.at) → 0 < length (chunk_of r) → r.at < length r.bytes
inside-by r (inl lt) some = lt
inside-by r (inr end) some = absurd (omega (arith, some, ap length (chunk-end r end)))

-- where there is a chunk, it is not the end
pub inside : (r : Reading) → 0 < length (chunk_of r) → r.at < length r.bytes
inside r some = inside-by r (cases_lt r.at (length r.bytes)) some

none-by : (r : Reading) → IsReadable r.tree r.bytes → (r.at < length r.bytes) ⊎ (length r.bytes ≤ r.at) → length (chunk_of r) ≡ 0 → left r ≡ []
none-by r is (inl lt) none = absurd (omega (arith, none, ap length (chunk-inside r lt), (rest-bounds r.tree r.bytes r.at is lt).0))
none-by r is (inr end) none = drop_of_length-le r.bytes end

-- where there is none, nothing is left
pub nothing-left : (r : Reading) → IsReadable r.tree r.bytes → length (chunk_of r) ≡ 0 → left r ≡ []
nothing-left r is none = none-by r is (cases_lt r.at (length r.bytes)) none

next-by : (tree : Option Node) (bytes : List ℕ) (at : ℕ) → IsReadable tree bytes → at < length bytes → rest_of tree bytes at ≡ take (length (rest_of tree bytes at)) (drop at bytes)
next-by None bytes at is lt = sym (take-length (drop at bytes))
next-by (Some e) bytes at is lt =
    let size : length bytes ≡ e.0.length = ap length (sym is.2) ∙ length-text (level (shape_of e)) e is.0 in
    rest-next (level (shape_of e)) e at is.0 (omega (arith, lt, size)) ∙ ap (λ (bs : List ℕ). take (length (rest_at (level (shape_of e)) e at)) (drop at bs)) is.2

chunk-by : (r : Reading) → IsReadable r.tree r.bytes → (r.at < length r.bytes) ⊎ (length r.bytes ≤ r.at) → chunk_of r ≡ take (length (chunk_of r)) (left r)
chunk-by r is (inl lt) = subst (λ (c : List ℕ). c ≡ take (length c) (left r)) (sym (chunk-inside r lt)) (next-by r.tree r.bytes r.at is lt)
chunk-by r is (inr end) = subst (λ (c : List ℕ). c ≡ take (length c) (left r)) (sym (chunk-end r end)) refl

-- a chunk is what comes next, and so is what a reading takes of it
pub chunk-next : (r : Reading) → IsReadable r.tree r.bytes → chunk_of r ≡ take (length (chunk_of r)) (left r)
chunk-next r is = chunk-by r is (cases_lt r.at (length r.bytes))

pub taken-next : (r : Reading) (n : ℕ) (bytes : List ℕ) → IsReadable r.tree r.bytes → bytes ≡ take n (chunk_of r) → bytes ≡ take (length bytes) (left r)
taken-next r n bytes is took =
    let c = chunk_of r in
    let m = min n (length c) in
    let few : length bytes ≡ m = ap length took ∙ length-take n c in
    took ∙ (sym (take_min n c) ∙ (ap (take m) (chunk-next r is) ∙ (take-take m (length c) (left r) (omega arith) ∙ ap (λ (k : ℕ). take k (left r)) (sym few))))

pub chunk-next-of : (r : Reading) (bytes : List ℕ) → IsReadable r.tree r.bytes → bytes ≡ chunk_of r → bytes ≡ take (length bytes) (left r)
chunk-next-of r bytes is same = subst (λ (c : List ℕ). c ≡ take (length c) (left r)) (sym same) (chunk-next r is)

-- there is a chunk where something is left
pub chunk-some : (r : Reading) (bytes : List ℕ) → IsReadable r.tree r.bytes → bytes ≡ chunk_of r → 0 < length (left r) → 0 < length bytes
chunk-some r [] is same more = absurd (omega (arith, more, ap length (nothing-left r is (ap length (sym same)))))
chunk-some r (x ∷ xs) is same more = omega arith

rest-on : (tree : Option Node) (bytes : List ℕ) (at n : ℕ) → IsReadable tree bytes → at < length bytes → n < length (rest_of tree bytes at) → rest_of tree bytes (at + n) ≡ drop n (rest_of tree bytes at)
rest-on None bytes at n is lt few = sym (drop-drop n at bytes)
rest-on (Some e) bytes at n is lt few = (stay (level (shape_of e)) e 0 at n is.0 (omega (arith, lt, ap length (sym is.2), length-text (level (shape_of e)) e is.0)) few).rest

way-on : (tree : Option Node) (bytes : List ℕ) (at n : ℕ) → IsReadable tree bytes → at < length bytes → n < length (rest_of tree bytes at) → way_of tree (at + n) ≡ way_of tree at
way-on None bytes at n is lt few = refl
way-on (Some e) bytes at n is lt few = (stay (level (shape_of e)) e 0 at n is.0 (omega (arith, lt, ap length (sym is.2), length-text (level (shape_of e)) e is.0)) few).way

module _ (r : Reading) (is : IsReadable r.tree r.bytes) (le : r.at ≤ length r.bytes) (n : ℕ) (few : n < length (chunk_of r)) where
  lt : r.at < length r.bytes
  lt = inside r (omega (arith, few))

  few_rest : n < length (rest_of r.tree r.bytes r.at)
  few_rest = omega (arith, few, ap length (chunk-inside r lt))

  pub next-inside : r.at + n < length r.bytes
  next-inside = omega (arith, few_rest, (rest-bounds r.tree r.bytes r.at is lt).1)

  -- within the chunk the reading has the rest of it, and the same way
  pub chunk-on : drop n (chunk_of r) ≡ chunk_of (passed n r)
  chunk-on = ap (drop n) (chunk-inside r lt) ∙ sym (rest-on r.tree r.bytes r.at n is lt few_rest) ∙ sym (chunk-inside (passed n r) next-inside)

  pub stops-on : stops_of r ≡ stops_of (passed n r)
  stops-on = stops-inside r lt ∙ sym (way-on r.tree r.bytes r.at n is lt few_rest) ∙ sym (stops-inside (passed n r) next-inside)

-- ---- what a reader keeps
pub at-of : (s : Source) (n : ℕ) → (reading_of s n).at ≡ n
at-of (Bytes bytes) n = refl
at-of (Tree way) n = refl

pub passed-of : (s : Source) (m n : ℕ) → passed n (reading_of s m) ≡ reading_of s (m + n)
passed-of (Bytes bytes) m n = refl
passed-of (Tree way) m n = refl

module _ (s : Source) (at size : ℕ) (chunk : List ℕ) (is : IsReader (reading_of s at) s chunk size) where
  pub read-within : at + length chunk ≤ size
  read-within = omega (arith, at-of s at, is.long, ap length is.chunk_is, chunk-within (reading_of s at) is.readable (omega (arith, is.within, is.long)))

  -- within its chunk a reader goes on by dropping bytes
  pub read-on : (n : ℕ) (rest : List ℕ) → n < length chunk → rest ≡ drop n chunk → IsReader (reading_of s (at + n)) s rest size
  read-on n rest few is_rest =
      let r = reading_of s at in
      let le : r.at ≤ length r.bytes = omega (arith, is.within, is.long) in
      let less : n < length (chunk_of r) = omega (arith, few, ap length is.chunk_is) in
      let next : IsReader (passed n r) s rest size = record {
        readable = is.readable;
        long = is.long;
        small = is.small;
        within = omega (arith, next-inside r is.readable le n less, is.long);
        chunk_is = is_rest ∙ ap (drop n) is.chunk_is ∙ chunk-on r is.readable le n less;
        way = subst (KeepsWay s) (stops-on r is.readable le n less) is.way;
      } in
      subst (λ (q : Reading). IsReader q s rest size) (passed-of s at n) next
