-- The replies so far, and the answers that are left.
use Rattle.std.proofs.Common.{◌≡◌, ◌++◌, map}
use Rattle.std.specs.Vec.Iter.{into_iter_items}
use Rattle.cord_sessions.specs.Telling.{reply_to}
use Rattle.cord_sessions.proofs.telling.book_of.Given as goal

abbrev pub invariant-loop-answer : goal.invariant-loop-answer
invariant-loop-answer l = map reply_to (into_iter_items l.initial.answer-iterator) ≡ l.replies ++ map reply_to (into_iter_items l.answer-iterator)
