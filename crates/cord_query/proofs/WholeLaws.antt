-- The first place in the whole, from what is known of its chunks.
use Rattle.std.proofs.Common.{ℕ, ◌≡◌, ◌+◌, ◌<◌, ◌≤◌, List, [], length, ap, subst, arith, Option, Some, None}
use Rattle.std.proofs.lemmas.List.{length-drop}
use Rattle.memchr.specs.Find.{OccursAt, Nowhere, IsFirst, FindsNeedle}
use Rattle.chunk_reader.specs.Readings.{Reading, left}
use Rattle.plain_cord.specs.Texts.{place_of}
use Rattle.plain_cord.proofs.PlaceLaws.{found-first, first_place-one, place_of-first}
use Rattle.cord_query.specs.Readers.{IsNext}
use Rattle.cord_query.proofs.PieceLaws.{piece-ends}
use Rattle.cord_query.proofs.AcrossLaws.{nowhere-more}

module _ (bytes needle : List ℕ) where
  -- an empty needle stands at 0
  pub empty-first : length needle ≡ 0 → FindsNeedle bytes needle 0 (Some 0)
  empty-first none = (
    record { low = omega arith; high = omega arith; before = λ k low lt. absurd (omega (arith, lt)) },
    record { fits = omega (arith, none); reads = λ j lt. absurd (omega (arith, none, lt)) },
  )

  pub longer-never : length bytes < length needle → FindsNeedle bytes needle 0 None
  longer-never less = λ k low high occurs. omega (arith, less, occurs.fits)

  module _ (rest new : Reading) (chunk : List ℕ) (start : ℕ) (same : rest.bytes ≡ bytes) (at : rest.at ≡ start) where
    pub chunk-ends : IsNext chunk rest new → start + length chunk ≤ length bytes
    chunk-ends next = omega (arith, piece-ends rest chunk next.is next.some, at, ap length same)

    -- in a chunk, where it stands in none before
    pub chunk-first : (seen : List ℕ) (place : ℕ) → seen ≡ bytes → IsNext chunk rest new → Nowhere (OccursAt bytes needle) 0 start
        → IsFirst (OccursAt seen needle) start (start + length chunk) (Some place) → FindsNeedle bytes needle 0 (Some place)
    chunk-first seen place is next none first = (
      record {
        low = omega arith;
        high = omega (arith, chunk-ends next, first.0.high);
        before = nowhere-more (OccursAt bytes needle) 0 start place none (subst (λ (b : List ℕ). Nowhere (OccursAt b needle) start place) is first.0.before);
      },
      subst (λ (b : List ℕ). OccursAt b needle place) is first.1,
    )

    -- at the end, where it stands in no chunk
    pub never-first : 0 < length needle → left rest ≡ [] → Nowhere (OccursAt bytes needle) 0 start → FindsNeedle bytes needle 0 None
    never-first some all none = λ k low high occurs.
        none k low (omega (arith, some, occurs.fits, at, ap length same, length-drop rest.at rest.bytes, ap length all)) occurs

  pub first-value : (o : Option ℕ) → FindsNeedle bytes needle 0 o → o ≡ place_of bytes needle
  first-value o found = first_place-one bytes needle o (place_of bytes needle) (found-first bytes needle o found) (place_of-first bytes needle)
