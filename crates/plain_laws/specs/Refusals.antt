-- The answers that refuse a command.
use Rattle.plain_cord.specs.declared.reply.Reply.{Reply}
use Rattle.plain_cord.specs.declared.reply.Reply.TheVariants as replies

abbrev pub IsRefusal : Reply → Type 0
IsRefusal (replies.Unset name) = Unit {0}
IsRefusal replies.NoBytes = Unit {0}
IsRefusal (replies.Position asked n) = Unit {0}
IsRefusal (replies.Length asked) = Unit {0}
IsRefusal (replies.Empty cell) = Unit {0}
IsRefusal replies.Releasers = Unit {0}
IsRefusal replies.Height = Unit {0}
IsRefusal replies.HasSnapshot = Unit {0}
IsRefusal replies.NoSnapshot = Unit {0}
IsRefusal (replies.Cords found) = Unit {0}
IsRefusal (replies.Pool size) = Unit {0}
IsRefusal _ = ⊥

-- The answers of byte strings. The others tell that a box, a height, a pass or a number is wanting, which only trees need, or what the
-- profiler says.
abbrev pub IsByteReply : Reply → Type 0
IsByteReply replies.Releasers = ⊥
IsByteReply replies.Height = ⊥
IsByteReply replies.HasSnapshot = ⊥
IsByteReply replies.NoSnapshot = ⊥
IsByteReply (replies.Walked reports) = ⊥
IsByteReply (replies.Ended deleted) = ⊥
IsByteReply (replies.Cords found) = ⊥
IsByteReply (replies.Pool size) = ⊥
IsByteReply _ = Unit {0}
