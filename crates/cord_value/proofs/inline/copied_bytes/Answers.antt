-- Each piece is what comes next.
use Rattle.std.proofs.Common.{ℕ, ◌≡◌, ◌++◌, ◌+◌, ◌-◌, ◌≤◌, ◌∙◌, List, length, take, drop, sym, ap, subst, arith}
use Rattle.std.proofs.Math.Seq.{take-add}
use Rattle.std.proofs.lemmas.List.{length-append, length-take, drop-drop}
use Rattle.chunk_reader.specs.Readings.{Reading, chunk_of}
use Rattle.cord_value.proofs.inline.copied_bytes.Goals as goal

-- k bytes from a start, and then those that come next
pub more-copied : (xs copy chunk new : List ℕ) (start at : ℕ) → copy ≡ take (length copy) (drop start xs) → at ≡ start + length copy → chunk ≡ take (length chunk) (drop at xs) → new ≡ copy ++ chunk
    → new ≡ take (length new) (drop start xs)
more-copied xs copy chunk new start at had at_is next is =
    let k = length copy in
    let m = length chunk in
    let long : length new ≡ k + m = ap length is ∙ length-append copy chunk in
    let further : drop at xs ≡ drop k (drop start xs) = ap (λ (i : ℕ). drop i xs) at_is ∙ sym (drop-drop k start xs) in
    is ∙ (ap (λ (ys : List ℕ). ys ++ chunk) had ∙ (ap (λ (ys : List ℕ). take k (drop start xs) ++ ys) (next ∙ ap (take m) further)
    ∙ (sym (take-add k m (drop start xs)) ∙ ap (λ (i : ℕ). take i (drop start xs)) (sym long))))

pub loop-reading-preserved : goal.loop-reading-preserved
loop-reading-preserved c =
    let l = c.loop-reading in
    let had = l.invariant in
    let start = c.args.reading.now.at in
    let xs = c.args.reading.now.bytes in
    let k = length l.copy.items in
    let chunk = c.read-chunk.result.now in
    let copy = c.try_extend_from_slice.new.self.items in
    let is : copy ≡ l.copy.items ++ chunk = c.in-Ok.ensures.ok in
    let next : chunk ≡ take (length chunk) (drop l.reading.at xs) = c.read-chunk.ensures.next ∙ ap (λ (ys : List ℕ). take (length chunk) (drop l.reading.at ys)) had.2 in
    let few : length chunk ≤ c.args.n - k = subst (λ (i : ℕ). length chunk ≤ c.args.n - i) c.len-in-loop-reading.ensures.value
    (omega (arith, ap length c.read-chunk.ensures.read.is, length-take (c.args.n - c.len-in-loop-reading.result) (chunk_of l.reading))) in (
      more-copied xs l.copy.items chunk copy start l.reading.at had.0 had.1 next is,
      omega (arith, ap (λ (r : Reading). r.at) c.read-chunk.ensures.read.new_is, had.1, ap length is, length-append l.copy.items chunk),
      ap (λ (r : Reading). r.bytes) c.read-chunk.ensures.read.new_is ∙ had.2,
      omega (arith, few, ap length is, length-append l.copy.items chunk, had.3),
    )
