-- The chairs are seated, run and gathered, and the pool is closed with workers that ended what they made.
use Rattle.std.proofs.Common.{arith, ◌≡◌, ◌+◌, ◌<◌, ℕ, List, ◌∷◌, ◌++◌, [], get_or, length, map, drop, sym, ap, ◌∙◌, subst, Some}
use Rattle.std.specs.Global.{Vec}
use Rattle.plain_cord.specs.declared.deed.Deed.{Deed}
use Rattle.pool_rule.specs.Views.{View}
use Rattle.node_pool.specs.Closes.{IsAllIdle}
use Rattle.node_pool.specs.Starts.{slot_count}
use Rattle.cord_value.specs.Views.{CordView}
use Rattle.cord_board.specs.Passes.{board_view}
use Rattle.cord_board.specs.Rule.{IsEnd}
use Rattle.cord_board.specs.Views.{has, joined_of, clearings_of}
use Rattle.cord_commands.specs.declared.answer.Answer.{Answer}
use Rattle.cord_commands.specs.Accounts.{trees_of}
use Rattle.cord_seats.specs.Boxes.{handed_in}
use Rattle.cord_seats.specs.Chairs.{StartsIn, EndsIn, below}
use Rattle.cord_seats.specs.Clearings.{weigh_clearings}
use Rattle.cord_seats.proofs.Lists.{is_below, whole_slice}
use Rattle.cord_seats.proofs.Answered.{all-answered, some-weaker}
use Rattle.cord_seats.proofs.Boxes.{returned-back}
use Rattle.cord_seats.proofs.Finished.{finished-run, finished-boxes, finished-shown}
use Rattle.cord_seats.proofs.Runs.{length_in}
use Rattle.cord_seats.proofs.Places.{popped-are, new-length, new-at, own-new, steady-used}
use Rattle.cord_seats.proofs.Whole.{new-count, all-idle}
use Rattle.cord_seats.proofs.running.run_named.Goals as goal

pub close-closed-requires : goal.close-closed-requires
close-closed-requires g c = record { all = let n = c.requires.workers.1 in ap length c.in-Ok.ensures.workers ∙ new-count g.P.Naming.size g.P.Naming.limit g.P.Naming.workers (slot_count g.P.Naming.workers g.P.Naming.table.slots) (omega arith) }

pub seat_all-chairs-requires-clause-workers : goal.seat_all-chairs-requires-clause-workers
seat_all-chairs-requires-clause-workers g c =
    let slots = slot_count g.P.Naming.workers g.P.Naming.table.slots in
    let are = popped-are g.P.Naming.size g.P.Naming.limit g.P.Naming.workers (length c.args.sessions.now) slots c.in-Ok.named.1.items c.pop.new.self.items c.in-Some.own c.in-Ok.ensures.workers c.in-Some.ensures.items c.requires.workers.1 in
    new-length g.P.Naming.size g.P.Naming.limit (length c.args.sessions.now) slots c.pop.new.self.items c.in-Some.own are

pub seat_all-chairs-requires-clause-new : goal.seat_all-chairs-requires-clause-new
seat_all-chairs-requires-clause-new g c = λ p w low.
    let slots = slot_count g.P.Naming.workers g.P.Naming.table.slots in
    let n = length c.args.sessions.now in
    let are = popped-are g.P.Naming.size g.P.Naming.limit g.P.Naming.workers n slots c.in-Ok.named.1.items c.pop.new.self.items c.in-Some.own c.in-Ok.ensures.workers c.in-Some.ensures.items c.requires.workers.1 in
    new-at g.P.Naming.size g.P.Naming.limit n slots c.pop.new.self.items c.in-Some.own are p w (subst (λ (z : ℕ). p < z) (new-length g.P.Naming.size g.P.Naming.limit n slots c.pop.new.self.items c.in-Some.own are) low)

pub run_all-requires-clause-starts : goal.run_all-requires-clause-starts
run_all-requires-clause-starts g c κs within = λ p s x low.
    subst (λ z. StartsIn (slot_count g.P.Naming.workers g.P.Naming.table.slots) c.in-Ok-reserve.places.board (get_or c.args.sessions.now p s).commands p (get_or z p x)) (sym c.as_mut_slice.ensures.value) (c.seat_all-chairs.ensures.starts p s x low)

pub gather-workers-requires-clause-ends : goal.gather-workers-requires-clause-ends
gather-workers-requires-clause-ends g c = λ p s x low.
    let same = c.run_all.auto.chairs in
    let value = ap length c.as_mut_slice.ensures.value in
    let whole = c.seat_all-chairs.result.ok.0 in
    subst (λ z. EndsIn g.P.Naming.size g.P.Naming.limit (slot_count g.P.Naming.workers g.P.Naming.table.slots) c.in-Ok-reserve.places.board (get_or c.args.sessions.now p s).commands p (get_or z p x)) (sym (whole_slice c.run_all.new.chairs (drop (length c.run_all.new.chairs) c.seat_all-chairs.result.items) c.seat_all-chairs.result.len (omega arith))) (c.run_all.ensures p s x low)

pub clear_cells-requires-clause-last : goal.clear_cells-requires-clause-last
clear_cells-requires-clause-last g c =
    let j = c.gather-workers.ensures.root in
    (j.root, λ p given. j.back p (is_below (length c.args.sessions.now) p (ap (has p) (sym j.gave) ∙ given)))

pub returns-in-Some-all_answers : goal.returns-in-Some-all_answers
returns-in-Some-all_answers g c =
    let size = g.P.Naming.size in
    let limit = g.P.Naming.limit in
    let workers = g.P.Naming.workers in
    let before = g.P.Naming.boxes in
    let sessions = c.args.sessions.now in
    let n = length sessions in
    let slots = slot_count workers g.P.Naming.table.slots in
    let gathered = c.gather-workers.ensures in
    let j = gathered.root in
    let v = board_view c.clear_cells.new.root in
    let history = c.finish-history.result.items in
    let joined = joined_of (board_view c.gather-workers.new.root) in
    let ws = c.gather-workers.result.workers.items in
    let own = c.clear_cells.new.w in
    let found = c.gather-workers.result.answers.items in
    let books = c.in-Some-all_answers.answers.items in
    let is : found ≡ map (λ (rs : Vec Answer). Some rs) books = c.in-Some-all_answers.ensures in
    let kept = c.clear_cells.ensures.same in
    let new = own-new size limit n slots c.pop.new.self.items c.in-Some.own
    (popped-are size limit workers n slots c.in-Ok.named.1.items c.pop.new.self.items c.in-Some.own c.in-Ok.ensures.workers c.in-Some.ensures.items c.requires.workers.1) in
    let steady = c.clear_cells.ensures.steady in
    let even = steady.accounts in
    let none = new.2 in
    let zero = new.1 in
    let idle_own : own.made + weigh_clearings trees_of (clearings_of v) ≡ own.ended = omega arith in
    let held : length own.holds ≡ 0 = omega (arith, steady.holds.count, new.0) in
    let end : IsEnd length_in history (below n) joined (clearings_of v) = subst (λ (z : List ℕ × List (ℕ × List (Deed CordView))). IsEnd length_in history z.0 z.1 (clearings_of v)) (λ i. ((kept.0 ∙ j.gave) i, kept.1 i)) c.finish-history.ensures.cleared in
    let idle : IsAllIdle (ws ++ own ∷ []) = all-idle slots length_in history joined (clearings_of v) n ws own gathered.len gathered.back j.back held idle_own c.clear_cells.ensures.cells end in
    let left : c.close-in_use.result.in_use ≡ 0 = c.close-in_use.ensures.idle (subst (λ (z : List View). IsAllIdle z) (sym c.push_reserved.ensures.items) idle) in
    record {
      left = left;
      answered = all-answered (λ (rs : Vec Answer). rs.items) sessions found books is gathered.answers.0
          (λ p s o low. some-weaker (get_or found p o) _ _ (λ rs t. t.answered) (gathered.answers.1 p s o low));
      run = finished-run sessions found books is gathered.answers.0 joined c.sessions_alone_make_runs.ensures.unsampled size limit workers g.P.Naming.table.slots (length before) history (clearings_of v)
          c.requires.workers.1 c.requires.slots gathered.answers.1 j.back end;
      caused = finished-shown sessions found books is gathered.answers.0 joined size limit workers g.P.Naming.table.slots (length before) ws c.push_reserved.new.self.items own
          c.requires.workers.1 c.requires.slots gathered.len c.push_reserved.ensures.items gathered.caused (subst (λ (z : List View). IsAllIdle z) (sym c.push_reserved.ensures.items) idle)
          c.close-in_use.ensures.taken c.close-in_use.ensures.counts;
      boxes = finished-boxes sessions found books is gathered.answers.0 joined slots c.close-in_use.result.in_use ws c.push_reserved.new.self.items own before
          (handed_in g.B.Releaser.calls_of g.B.Releaser.latest_of c.close-in_use.result.releasers.items) gathered.len gathered.back gathered.uses (steady-used c.in-Some.own own _ _ steady new.3)
          c.push_reserved.ensures.items left c.close-in_use.ensures.boxes;
      back = tt;
    }

pub returns-in_default-clause-back : goal.returns-in_default-clause-back
returns-in_default-clause-back g c = returned-back _ _ _ _ c.close-closed.ensures.boxes

pub returns-in-None-clause-back : goal.returns-in-None-clause-back
returns-in-None-clause-back g c = returned-back _ _ _ _ c.close-in_use.ensures.boxes
