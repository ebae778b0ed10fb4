-- What a reading gives of what comes next in its bytes.
use Rattle.std.proofs.Common.{ℕ, ◌≡◌, ◌+◌, ◌<◌, ◌≤◌, List, [], ◌∷◌, length, refl, sym, ap, drop, take, arith}
use Rattle.std.proofs.lemmas.List.{length-take, length-drop, drop-drop}
use Rattle.chunk_reader.specs.Readings.{Reading, left, chunk_of, passed}

pub piece-few : (n : ℕ) (r : Reading) (piece : List ℕ) → piece ≡ take n (chunk_of r) → length piece ≤ n
piece-few n r piece is = omega (arith, ap length is, length-take n (chunk_of r))

no-bytes : (bytes : List ℕ) → (0 < length bytes → ⊥) → bytes ≡ []
no-bytes [] none = refl
no-bytes (b ∷ bytes) none = absurd (none (omega arith))

-- none only at the end
pub piece-none : (n : ℕ) (bytes piece : List ℕ) → 0 < n → (0 < n → 0 < length bytes → 0 < length piece) → length piece ≡ 0 → bytes ≡ []
piece-none n bytes piece asked some none = no-bytes bytes (λ more. let has = some asked more in omega (arith, has, none))

pub left-passed : (k : ℕ) (r : Reading) → left (passed k r) ≡ drop k (left r)
left-passed k r = sym (drop-drop k r.at r.bytes)

-- they end within the bytes
pub piece-ends : (r : Reading) (piece : List ℕ) → piece ≡ take (length piece) (left r) → 0 < length piece → r.at + length piece ≤ length r.bytes
piece-ends r piece is some = omega (arith, some, ap length is, length-take (length piece) (left r), length-drop r.at r.bytes)
