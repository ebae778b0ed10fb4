-- The limits of words.
use Rattle.std.specs.Prelude.{ℕ, ◌^◌}

-- No step raises a word, or that of live passes, above this, which is far from the end of their type. On the pool's table no word comes near it.
abbrev pub word_limit : ℕ
word_limit = 2 ^ 32
