-- One session more has its worker and its pass.
use Rattle.std.proofs.Common.{rules, arith, ◌≡◌, ◌+◌, ◌-◌, ◌<◌, ℕ, ◌∷◌, [], get_or, length, vec_len, sym, ap, ◌∙◌, subst, None}
use Rattle.std.specs.Vec.Iter.{into_iter_items, into_iter_len}
use Rattle.plain_cord.specs.declared.script.Session.{Session}
use Rattle.pool_rule.specs.Views.{View}
use Rattle.node_pool.specs.Starts.{slot_count}
use Rattle.cord_board.specs.Passes.{board_view}
use Rattle.cord_board.specs.declared.view.BoardView.TheVariants.{Root}
use Rattle.cord_board.specs.Views.{has, entries_left, session_of, gave_of, joined_of, mine_of}
use Rattle.cord_seats.specs.Chairs.{IsNew, Starts, StartsIn, Seated}
use Rattle.cord_seats.specs.Entries.{entries_for_all}
use Rattle.cord_seats.proofs.Lists.{each_more, each_first, each_less, any_default, has_below}
use Rattle.cord_seats.proofs.Entries.{sessions-drop}
use Rattle.cord_seats.proofs.Roots.{one_seated, session_is}
use Rattle.cord_seats.proofs.chairs.seat_all.Goals as goal

pub loop-worker-init : goal.loop-worker-init
loop-worker-init g c =
    let made = c.into_iter-worker-iterator.ensures.into_iter_gives in
    let long = made.1 in
    let len = c.requires.workers in
    let whole = c.args.workers.ok in
    let empty = c.args.room.ok.0 in
    let none = ap length c.requires.room.0 in
    let zero : vec_len c.args.room ≡ 0 = omega arith in
    record {
      count = omega arith;
      room = c.requires.room.1;
      on = c.requires.board;
      root = subst (λ (z : ℕ). Seated (board_view c.args.root.now) c.args.sessions.now z) (sym zero) c.requires.root;
      new = λ k w low.
          let at : vec_len c.args.room + k ≡ k = omega arith in
          subst (λ (z : ℕ). IsNew (slot_count g.P.Naming.workers g.P.Naming.table.slots) z (get_or (into_iter_items c.into_iter-worker-iterator.result) k w)) (sym at)
          (subst (λ z. IsNew (slot_count g.P.Naming.workers g.P.Naming.table.slots) k (get_or z k w)) (sym made.0) (c.requires.new k w (omega arith)));
      starts = λ p s x low. absurd (omega arith);
    }

pub split-seat-requires-clause-fresh : goal.split-seat-requires-clause-fresh
split-seat-requires-clause-fresh g c =
    let n = vec_len c.loop-worker.chairs in
    ap (λ (z : ℕ). has z (gave_of (board_view c.loop-worker.root))) c.len-number.ensures ∙ (ap (has n) c.loop-worker.invariant.root.gave ∙ has_below n n (omega arith))

pub split-seat-requires-clause-room : goal.split-seat-requires-clause-room
split-seat-requires-clause-room g c =
    let sessions = c.args.sessions.now in
    let n = vec_len c.loop-worker.chairs in
    let session = c.index-sessions-number.result in
    let is : session ≡ get_or sessions n session = c.index-sessions-number.is ∙ ap (λ (z : ℕ). get_or sessions z session) c.len-number.ensures in
    let entries = c.entries_for_all-entries.ensures ∙ ap entries_for_all (c.as_slice.ensures ∙ ap (λ (z : Session). z.commands) (sym c.index-sessions-number.is)) in
    let left = c.loop-worker.invariant.root.left in
    let less = c.in-Some.ensures.steps.1 in
    let count = c.loop-worker.invariant.count in
    let parts = sessions-drop n sessions session (omega arith) is in omega arith

pub loop-worker-preserved : goal.loop-worker-preserved
loop-worker-preserved g c =
    let inv = c.loop-worker.invariant in
    let step = c.in-Some.ensures.steps in
    let less = step.1 in
    let count = inv.count in
    let n = vec_len c.loop-worker.chairs in
    let m = into_iter_len c.next.new.self in
    let rest = into_iter_items c.loop-worker.worker-iterator in
    let rest' = into_iter_items c.next.new.self in
    let sessions = c.args.sessions.now in
    let session = c.index-sessions-number.result in
    let inside : n < length sessions = omega arith in
    let is : session ≡ get_or sessions n session = c.index-sessions-number.is ∙ ap (λ (z : ℕ). get_or sessions z session) c.len-number.ensures in
    let entries : c.entries_for_all-entries.result ≡ entries_for_all session.commands = c.entries_for_all-entries.ensures ∙ ap entries_for_all (c.as_slice.ensures ∙ ap (λ (z : Session). z.commands) (sym c.index-sessions-number.is)) in
    let split = c.split-seat.ensures in
    let before = board_view c.loop-worker.root in
    let left = ap entries_left split.given in
    let number = c.len-number.ensures in
    let few = c.requires.few in
    let slots = slot_count g.P.Naming.workers g.P.Naming.table.slots in
    let new : IsNew slots n c.in-Some.worker = each_first (λ q (w : View). IsNew slots q w) rest rest' c.in-Some.worker n m step.0 (λ k w low. inv.new k w (omega arith)) in
    let grown : vec_len c.push_reserved.new.self ≡ n + 1 = c.push_reserved.ensures.len in
    let here : Starts slots c.args.board.now session.commands n c.split-seat.result c.in-Some.worker = record {
      on = split.board.1;
      session = session_is (board_view c.split-seat.result) _ _ _ split.given;
      number = ap session_of split.given ∙ number;
      fresh = ap mine_of split.given;
      room = omega arith;
      new = new;
    } in
    record {
      count = omega arith;
      room = search rules;
      on = split.board.0;
      root = subst (λ (z : ℕ). Seated (board_view c.split-seat.new.from) sessions z) (sym grown)
          (one_seated before (board_view c.split-seat.new.from) sessions session n inv.root inside is
          (split.from ∙ ap (λ (z : ℕ × ℕ). Root (entries_left before - z.0) (z.1 ∷ gave_of before) (joined_of before) []) (λ i. (entries i, number i))));
      new = λ k w low. subst (λ (z : ℕ). IsNew slots (z + k) (get_or rest' k w)) (sym grown) (each_less (λ q (w : View). IsNew slots q w) rest rest' c.in-Some.worker n m step.0 (λ j w l. inv.new j w (omega arith)) k w low);
      starts = λ p s x low.
          subst (λ z. StartsIn slots c.args.board.now (get_or sessions p s).commands p (get_or z p x)) (sym c.push_reserved.ensures.items)
          (each_more (λ q y. StartsIn slots c.args.board.now (get_or sessions q s).commands q y) c.loop-worker.chairs.items (record { worker = c.in-Some.worker; seat = c.split-seat.result; answers = None }) n (sym c.loop-worker.chairs.ok.0) (λ q y l. inv.starts q s y l)
          (subst (λ (z : Session). Starts slots c.args.board.now z.commands n c.split-seat.result c.in-Some.worker) (is ∙ any_default sessions n session s inside) here) p x (omega arith));
    }
