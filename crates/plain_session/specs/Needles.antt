-- The bytes that are looked for.
use Rattle.std.specs.Prelude.{ℕ, List}
use Rattle.plain_session.specs.declared.needle.Needle.{Needle}
use Rattle.plain_session.specs.declared.needle.Needle.TheVariants.{Borrowed, Built}

abbrev pub needle_bytes : Needle → List ℕ
needle_bytes (Borrowed bytes) = bytes.now
needle_bytes (Built bytes) = bytes.items
