-- The order of byte strings: by their first differing bytes, unsigned, a proper prefix being less.
use Rattle.std.specs.Prelude.{◌≡◌, ℕ, ◌<◌, ◌⊎◌, List, ◌∷◌, ◌++◌}
use Rattle.std.specs.declared.cmp.Ordering.{Ordering}
use Rattle.std.specs.declared.cmp.Ordering.TheVariants.{Less, Equal, Greater}

-- xs is what ys begins with, and ys has more
pub record IsProperPrefix (xs ys : List ℕ) : Type 0 where
  pub next : ℕ
  pub rest : List ℕ
  pub parts : ys ≡ xs ++ next ∷ rest

-- behind bytes that are the same, xs has the smaller byte
pub record HasSmallerByte (xs ys : List ℕ) : Type 0 where
  pub front : List ℕ
  pub smaller : ℕ
  pub larger : ℕ
  pub xs_rest : List ℕ
  pub ys_rest : List ℕ
  pub xs_parts : xs ≡ front ++ smaller ∷ xs_rest
  pub ys_parts : ys ≡ front ++ larger ∷ ys_rest
  pub below : smaller < larger

abbrev pub IsLess : List ℕ → List ℕ → Type 0
IsLess xs ys = IsProperPrefix xs ys ⊎ HasSmallerByte xs ys

-- how xs stands to ys
abbrev pub ComparesAs : List ℕ → List ℕ → Ordering → Type 0
ComparesAs xs ys Less = IsLess xs ys
ComparesAs xs ys Equal = xs ≡ ys
ComparesAs xs ys Greater = IsLess ys xs
