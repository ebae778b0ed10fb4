-- Bytes that are copied piece by piece, and the places in them.
use Rattle.std.proofs.Common.{ℕ, ◌≡◌, ◌+◌, ◌-◌, ◌<◌, ◌≤◌, List, ◌++◌, length, take, drop, sym, ap, ◌∙◌, arith, min}
use Rattle.std.proofs.lemmas.List.{length-take, length-drop}
use Rattle.std.proofs.Math.Seq.{take-add}
use Rattle.memchr.specs.Find.{OccursAt, Nowhere, NoneBefore}
use Rattle.chunk_reader.specs.Readings.{Reading, left, passed}
use Rattle.cord_query.proofs.PieceLaws.{left-passed}
use Rattle.cord_query.proofs.StepLaws.{passed-passed}
use Rattle.cord_query.proofs.ChunkLaws.{occurs-out, first-in, not-in}

module _ (start chunks new : Reading) (filled : ℕ) (piece : List ℕ) (moved : chunks ≡ passed filled start) (next : piece ≡ take (length piece) (left chunks)) (new_is : new ≡ passed (length piece) chunks) where
  rest : left chunks ≡ drop filled (left start)
  rest = ap left moved ∙ left-passed filled start

  pub moves : new ≡ passed (filled + length piece) start
  moves = new_is ∙ ap (passed (length piece)) moved ∙ passed-passed (length piece) filled start

  pub still-fits : filled ≤ length (left start) → filled + length piece ≤ length (left start)
  still-fits fits = omega (arith, fits, ap length next, length-take (length piece) (left chunks), ap length rest, length-drop filled (left start))

  pub joins : (room : List ℕ) → take filled room ≡ take filled (left start) → take filled room ++ piece ≡ take (filled + length piece) (left start)
  joins room copied =
      ap (λ t. t ++ piece) copied
      ∙ ap (λ t. take filled (left start) ++ t) (next ∙ ap (take (length piece)) rest)
      ∙ sym (take-add filled (length piece) (left start))

-- what is seen from a place on in a chunk of n bytes, behind which the needle goes on from all places: all that such a needle may take
module _ (hay needle seen : List ℕ) (start n from most : ℕ) (some : 0 < length needle) (low : n + 1 ≤ from + length needle) (within : from ≤ n) (most_is : most ≡ n - from + (length needle - 1))
    (ends : start + n ≤ length hay) (long : length seen ≡ min most (length (drop (start + from) hay))) (is : seen ≡ take (length seen) (drop (start + from) hay)) where
  seen-ends : start + from + length seen ≤ length hay
  seen-ends = omega (arith, ends, within, long, length-drop (start + from) hay, some)

  pub over-some : (at : ℕ) → NoneBefore (OccursAt seen needle) 0 (length seen + 1) at → OccursAt seen needle at
      → NoneBefore (OccursAt hay needle) (start + from) (start + n) (start + from + at) × OccursAt hay needle (start + from + at)
  over-some at found occurs =
      let first = first-in hay needle seen (start + from) is seen-ends some at found occurs in (
        record {
          low = omega arith;
          high = omega (arith, occurs.fits, long, most_is, low, within, some);
          before = λ k least high. first.before k (omega (arith, least)) high;
        },
        occurs-out hay needle seen (start + from) is seen-ends at occurs,
      )

  pub over-none : Nowhere (OccursAt seen needle) 0 (length seen + 1) → Nowhere (OccursAt hay needle) (start + from) (start + n)
  over-none none = λ k least high occurs.
      let fits : k + length needle ≤ start + from + length seen = omega (arith, least, high, occurs.fits, long, most_is, within, some, length-drop (start + from) hay) in
      not-in hay needle seen (start + from) is seen-ends (length seen + 1) none k (omega (arith, least)) (omega (arith, fits)) fits occurs
