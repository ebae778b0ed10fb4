-- The sessions so far have come back with their workers, and the others are still out.
use Rattle.std.proofs.Common.{◌≡◌, ℕ, ◌<◌, ◌≤◌, ◌+◌, length, vec_len, vec_capacity}
use Rattle.std.specs.Prelude.{slice_index_or, IfSome}
use Rattle.cord_seats.specs.Causes.{IsShown}
use Rattle.cord_seats.specs.Told.{IsToldAlone, externals_by}
use Rattle.std.specs.Vec.Iter.{into_iter_items, into_iter_len}
use Rattle.plain_cord.specs.declared.script.Session.{Session}
use Rattle.pool_rule.specs.Views.{View}
use Rattle.node_pool.specs.Starts.{slot_count}
use Rattle.cord_commands.specs.Slots.{lengths_in}
use Rattle.cord_board.specs.Passes.{board_view, IsOn}
use Rattle.cord_board.specs.Views.{joined_of, mine_in}
use Rattle.cord_seats.specs.Chairs.{own_slots, EndsIn, Joined, Came}
use Rattle.cord_seats.proofs.chairs.gather.Given as goal

abbrev pub invariant-loop-chair : goal.invariant-loop-chair
invariant-loop-chair g l = let rest = l.chair-iterator in let done = vec_len l.workers in record {
  count : done + into_iter_len rest ≡ length l.sessions;
  same : vec_len l.answers ≡ done;
  room : (length l.sessions < vec_capacity l.workers) × (length l.sessions ≤ vec_capacity l.answers);
  on : IsOn l.board l.root;
  root : Joined (board_view l.root) (length l.sessions) done;
  ends : (k : ℕ) (s : Session) (c : _) → k < into_iter_len rest → EndsIn g.P.Naming.size g.P.Naming.limit (slot_count g.P.Naming.workers g.P.Naming.table.slots) l.board (slice_index_or l.sessions (done + k) s).commands (done + k) (slice_index_or (into_iter_items rest) k c);
  answers : (p : ℕ) (s : Session) (a : _) → p < done → IfSome (slice_index_or l.answers.items p a) (λ rs. IsToldAlone g.P.Naming.size g.P.Naming.limit (length (own_slots (slot_count g.P.Naming.workers g.P.Naming.table.slots) p)) p (slice_index_or l.sessions p s).commands rs.items (mine_in (joined_of (board_view l.root)) p));
  back : (p : ℕ) (w : View) → p < done → Came (slot_count g.P.Naming.workers g.P.Naming.table.slots) (joined_of (board_view l.root)) p (slice_index_or l.workers.items p w);
  uses : (p : ℕ) (s : Session) (w : View) (a : _) → p < done → IfSome (slice_index_or l.answers.items p a) (λ rs. lengths_in (slice_index_or l.workers.items p w) ≡ externals_by (slice_index_or l.sessions p s).commands rs.items);
  caused : (p : ℕ) (w : View) (a : _) → p < done → IfSome (slice_index_or l.answers.items p a)
      (λ rs. IsShown g.P.Naming.size g.P.Naming.limit (length (own_slots (slot_count g.P.Naming.workers g.P.Naming.table.slots) p)) (slice_index_or l.workers.items p w) rs.items);
}
