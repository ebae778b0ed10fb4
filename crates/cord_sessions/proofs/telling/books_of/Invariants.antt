-- The books so far, and the sessions that are left.
use Rattle.std.proofs.Common.{◌≡◌, ◌≤◌, ◌+◌, ◌++◌, length, map, vec_capacity}
use Rattle.std.specs.Vec.Iter.{into_iter_items}
use Rattle.cord_sessions.specs.Telling.{book_of}
use Rattle.cord_sessions.proofs.telling.books_of.Given as goal

abbrev pub invariant-loop-answers : goal.invariant-loop-answers
invariant-loop-answers l = record {
  whole : map (λ v. book_of v.items) (into_iter_items l.initial.answers-iterator) ≡ l.books.items ++ map (λ v. book_of v.items) (into_iter_items l.answers-iterator);
  room : length l.books.items + length (into_iter_items l.answers-iterator) ≤ vec_capacity l.books;
}
