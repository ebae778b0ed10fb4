-- The bytes of a text that is spelled out.
use Rattle.std.specs.Prelude.{ℕ, List}
use Rattle.sampled_commands.specs.declared.texts.TextBytes.{TextBytes}
use Rattle.sampled_commands.specs.declared.texts.TextBytes.TheVariants.{Borrowed, Built}

abbrev pub bytes_in : TextBytes → List ℕ
bytes_in (Borrowed bytes) = bytes.now
bytes_in (Built bytes) = bytes.items
