-- The bytes of a text, and where a needle stands first.
use Rattle.std.specs.Prelude.{ℕ, List, [], ◌∷◌, replicate, nat_eq, suc, Option, Some, None, if◌then◌else◌}
use Rattle.std.specs.Option.{option_map}
use Rattle.std.specs.List.{concat, starts_with}
use Rattle.plain_cord.specs.declared.script.Text.{Text}

-- a piece so many times
abbrev pub repeated : List ℕ → ℕ → List ℕ
repeated piece times = concat (replicate times piece)

-- the bytes that a text stands for
abbrev pub text_bytes : Text → List ℕ
text_bytes text = repeated text.piece text.times

-- the least place of the needle
abbrev pub place_of : List ℕ → List ℕ → Option ℕ
place_of [] needle = if starts_with nat_eq [] needle then Some 0 else None
place_of (b ∷ bytes) needle = if starts_with nat_eq (b ∷ bytes) needle then Some 0 else option_map (λ n. suc n) (place_of bytes needle)
