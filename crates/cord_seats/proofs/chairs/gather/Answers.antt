-- One session more comes back.
use Rattle.std.proofs.Common.{rules, arith, ◌≡◌, ◌+◌, ℕ, List, ◌∷◌, ◌++◌, [], get_or, length, vec_len, sym, ap, ◌∙◌, subst}
use Rattle.std.specs.Prelude.{Option, IfSome}
use Rattle.std.specs.Global.{Vec}
use Rattle.cord_commands.specs.declared.answer.Answer.{Answer}
use Rattle.cord_seats.specs.Causes.{IsShown}
use Rattle.cord_seats.specs.Told.{IsToldAlone, externals_by}
use Rattle.std.specs.Vec.Iter.{into_iter_items, into_iter_len}
use Rattle.plain_cord.specs.declared.script.Session.{Session}
use Rattle.plain_cord.specs.declared.deed.Deed.{Deed}
use Rattle.pool_rule.specs.Views.{View}
use Rattle.cord_value.specs.Views.{CordView}
use Rattle.node_pool.specs.Starts.{slot_count}
use Rattle.cord_commands.specs.Slots.{lengths_in}
use Rattle.cord_board.specs.declared.view.BoardView.TheVariants.{Root}
use Rattle.cord_board.specs.Passes.{board_view}
use Rattle.cord_board.specs.Views.{entries_left, gave_of, mine_of, mine_in, joined_of, clearings_of}
use Rattle.board_weights.specs.Weights.{Accounts}
use Rattle.cord_commands.specs.Accounts.{trees_of}
use Rattle.cord_seats.specs.Chairs.{own_slots, EndsIn, Joined, Came}
use Rattle.cord_seats.proofs.Lists.{each_more, each_more_two, each_less, each_first, element}
use Rattle.cord_seats.proofs.Roots.{none_joined, one_joined, mine_still, mine_last}
use Rattle.cord_seats.proofs.chairs.gather.Goals as goal

pub loop-chair-init : goal.loop-chair-init
loop-chair-init g c =
    let made = c.into_iter-chair-iterator.ensures.into_iter_gives in
    let long = made.1 in
    let len = c.requires.len in
    let whole = c.args.chairs.ok in
    let empty = c.args.room.workers.ok.0 in
    let empty' = c.args.room.answers.ok.0 in
    let none = ap length c.requires.room.0 in
    let none' = ap length c.requires.room.1 in
    let zero : vec_len c.args.room.workers ≡ 0 = omega arith in
    let board = c.args.board.now in
    let sessions = c.args.sessions.now in
    record {
      count = omega arith;
      same = omega arith;
      room = (c.requires.room.3, c.requires.room.2);
      on = c.requires.board;
      root = subst (λ (z : ℕ). Joined (board_view c.args.root.now) (length sessions) z) (sym zero) (none_joined (board_view c.args.root.now) sessions (length sessions) c.requires.root);
      ends = λ k s x low.
          let at : vec_len c.args.room.workers + k ≡ k = omega arith in
          subst (λ (z : ℕ). EndsIn g.P.Naming.size g.P.Naming.limit (slot_count g.P.Naming.workers g.P.Naming.table.slots) board (get_or sessions z s).commands z (get_or (into_iter_items c.into_iter-chair-iterator.result) k x)) (sym at)
          (subst (λ z. EndsIn g.P.Naming.size g.P.Naming.limit (slot_count g.P.Naming.workers g.P.Naming.table.slots) board (get_or sessions k s).commands k (get_or z k x)) (sym made.0) (c.requires.ends k s x (omega arith)));
      answers = λ p s a low. absurd (omega arith);
      back = λ p w low. absurd (omega arith);
      uses = λ p s w a low. absurd (omega arith);
      caused = λ p w a low. absurd (omega arith);
    }

pub merge-requires-clause-board : goal.merge-requires-clause-board
merge-requires-clause-board g c =
    let inv = c.loop-chair.invariant in
    let step = c.in-Some.ensures.steps in
    let less = step.1 in
    let count = inv.count in
    let n = vec_len c.loop-chair.workers in
    let s = element c.args.sessions.now n (omega arith) in
    let e = each_first (λ q x. EndsIn g.P.Naming.size g.P.Naming.limit (slot_count g.P.Naming.workers g.P.Naming.table.slots) c.args.board.now (get_or c.args.sessions.now q s).commands q x) (into_iter_items c.loop-chair.chair-iterator) (into_iter_items c.next.new.self) c.in-Some.chair n (into_iter_len c.next.new.self) step.0 (λ k x low. inv.ends k s x (omega arith)) in
    (inv.on, e.on)

pub merge-requires-clause-session : goal.merge-requires-clause-session
merge-requires-clause-session g c =
    let inv = c.loop-chair.invariant in
    let step = c.in-Some.ensures.steps in
    let less = step.1 in
    let count = inv.count in
    let n = vec_len c.loop-chair.workers in
    let s = element c.args.sessions.now n (omega arith) in
    let e = each_first (λ q x. EndsIn g.P.Naming.size g.P.Naming.limit (slot_count g.P.Naming.workers g.P.Naming.table.slots) c.args.board.now (get_or c.args.sessions.now q s).commands q x) (into_iter_items c.loop-chair.chair-iterator) (into_iter_items c.next.new.self) c.in-Some.chair n (into_iter_len c.next.new.self) step.0 (λ k x low. inv.ends k s x (omega arith)) in
    e.session

pub loop-chair-preserved : goal.loop-chair-preserved
loop-chair-preserved g c =
    let inv = c.loop-chair.invariant in
    let step = c.in-Some.ensures.steps in
    let less = step.1 in
    let count = inv.count in
    let n = vec_len c.loop-chair.workers in
    let m = into_iter_len c.next.new.self in
    let sessions = c.args.sessions.now in
    let many = length sessions in
    let board = c.args.board.now in
    let rest = into_iter_items c.loop-chair.chair-iterator in
    let rest' = into_iter_items c.next.new.self in
    let s = element sessions n (omega arith) in
    let ends_at : (s : Session) → EndsIn g.P.Naming.size g.P.Naming.limit (slot_count g.P.Naming.workers g.P.Naming.table.slots) board (get_or sessions n s).commands n c.in-Some.chair = λ s. each_first (λ q x. EndsIn g.P.Naming.size g.P.Naming.limit (slot_count g.P.Naming.workers g.P.Naming.table.slots) board (get_or sessions q s).commands q x) rest rest' c.in-Some.chair n m step.0 (λ k x low. inv.ends k s x (omega arith)) in
    let one : EndsIn g.P.Naming.size g.P.Naming.limit (slot_count g.P.Naming.workers g.P.Naming.table.slots) board (get_or sessions n s).commands n c.in-Some.chair = each_first (λ q x. EndsIn g.P.Naming.size g.P.Naming.limit (slot_count g.P.Naming.workers g.P.Naming.table.slots) board (get_or sessions q s).commands q x) rest rest' c.in-Some.chair n m step.0 (λ k x low. inv.ends k s x (omega arith)) in
    let merged = c.merge.ensures in
    let grown : vec_len c.push_reserved.new.self ≡ n + 1 = c.push_reserved.ensures.len in
    let also = c.push_reserved-in-loop-chair.ensures.len in
    let same = inv.same in
    let before = board_view c.loop-chair.root in
    let js = joined_of before in
    let seat = board_view c.in-Some.chair.seat in
    let mine = mine_of seat in
    let from = merged.into ∙ ap (λ (z : ℕ). Root (entries_left before + entries_left seat) (gave_of before) (js ++ (z, mine) ∷ []) (clearings_of before)) one.number in
    let joined : joined_of (board_view c.merge.new.into) ≡ js ++ (n, mine) ∷ [] = ap joined_of from in
    record {
      count = omega arith;
      same = omega arith;
      room = (search rules, search rules);
      on = merged.board;
      root = subst (λ (z : ℕ). Joined (board_view c.merge.new.into) many z) (sym grown) (one_joined before (board_view c.merge.new.into) many n _ mine _ inv.root from inv.root.cleared);
      ends = λ k s x low. subst (λ (z : ℕ). EndsIn g.P.Naming.size g.P.Naming.limit (slot_count g.P.Naming.workers g.P.Naming.table.slots) board (get_or sessions (z + k) s).commands (z + k) (get_or rest' k x)) (sym grown)
          (each_less (λ q y. EndsIn g.P.Naming.size g.P.Naming.limit (slot_count g.P.Naming.workers g.P.Naming.table.slots) board (get_or sessions q s).commands q y) rest rest' c.in-Some.chair n m step.0 (λ j y l. inv.ends j s y (omega arith)) k x low);
      answers = λ p s a low.
          subst (λ z. IfSome (get_or z p a) (λ rs. IsToldAlone g.P.Naming.size g.P.Naming.limit (length (own_slots (slot_count g.P.Naming.workers g.P.Naming.table.slots) p)) p (get_or sessions p s).commands rs.items (mine_in (joined_of (board_view c.merge.new.into)) p))) (sym c.push_reserved-in-loop-chair.ensures.items)
          (subst (λ (z : List (ℕ × List (Deed CordView))). IfSome (get_or (c.loop-chair.answers.items ++ c.in-Some.chair.answers ∷ []) p a) (λ rs. IsToldAlone g.P.Naming.size g.P.Naming.limit (length (own_slots (slot_count g.P.Naming.workers g.P.Naming.table.slots) p)) p (get_or sessions p s).commands rs.items (mine_in z p))) (sym joined)
          (each_more (λ q o. IfSome o (λ rs. IsToldAlone g.P.Naming.size g.P.Naming.limit (length (own_slots (slot_count g.P.Naming.workers g.P.Naming.table.slots) q)) q (get_or sessions q s).commands rs.items (mine_in (js ++ (n, mine) ∷ []) q))) c.loop-chair.answers.items c.in-Some.chair.answers n (sym c.loop-chair.answers.ok.0 ∙ inv.same)
          (λ q o l. subst (λ (z : List (Deed CordView)). IfSome (get_or c.loop-chair.answers.items q o) (λ rs. IsToldAlone g.P.Naming.size g.P.Naming.limit (length (own_slots (slot_count g.P.Naming.workers g.P.Naming.table.slots) q)) q (get_or sessions q s).commands rs.items z)) (sym (mine_still js n mine q (inv.root.back q l))) (inv.answers q s o l))
          (subst (λ (z : List (Deed CordView)). IfSome c.in-Some.chair.answers (λ rs. IsToldAlone g.P.Naming.size g.P.Naming.limit (length (own_slots (slot_count g.P.Naming.workers g.P.Naming.table.slots) n)) n (get_or sessions n s).commands rs.items z)) (sym (mine_last js n mine (inv.root.away n (omega arith)))) (ends_at s).told)
          p a (omega arith)));
      back = λ p w low.
          subst (λ (z : List View). Came (slot_count g.P.Naming.workers g.P.Naming.table.slots) (joined_of (board_view c.merge.new.into)) p (get_or z p w)) (sym c.push_reserved.ensures.items)
          (subst (λ (z : List (ℕ × List (Deed CordView))). Came (slot_count g.P.Naming.workers g.P.Naming.table.slots) z p (get_or (c.loop-chair.workers.items ++ c.in-Some.chair.worker ∷ []) p w)) (sym joined)
          (each_more (λ q (u : View). Came (slot_count g.P.Naming.workers g.P.Naming.table.slots) (js ++ (n, mine) ∷ []) q u) c.loop-chair.workers.items c.in-Some.chair.worker n (sym c.loop-chair.workers.ok.0)
          (λ q u l. let b = inv.back q u l in record { holds = b.holds; accounts = subst (λ (z : List (Deed CordView)). Accounts trees_of (get_or c.loop-chair.workers.items q u).made (get_or c.loop-chair.workers.items q u).ended z) (sym (mine_still js n mine q (inv.root.back q l))) b.accounts; kept = b.kept })
          (record { holds = one.holds; accounts = subst (λ (z : List (Deed CordView)). Accounts trees_of c.in-Some.chair.worker.made c.in-Some.chair.worker.ended z) (sym (mine_last js n mine (inv.root.away n (omega arith)))) one.accounts; kept = one.kept })
          p w (omega arith)));
      uses = λ p s w a low.
          subst (λ (z : List View). IfSome (get_or c.push_reserved-in-loop-chair.new.self.items p a) (λ rs. lengths_in (get_or z p w) ≡ externals_by (get_or sessions p s).commands rs.items)) (sym c.push_reserved.ensures.items)
          (subst (λ z. IfSome (get_or z p a) (λ rs. lengths_in (get_or (c.loop-chair.workers.items ++ c.in-Some.chair.worker ∷ []) p w) ≡ externals_by (get_or sessions p s).commands rs.items)) (sym c.push_reserved-in-loop-chair.ensures.items)
          (each_more_two (λ q (u : View) o. IfSome o (λ rs. lengths_in u ≡ externals_by (get_or sessions q s).commands rs.items)) c.loop-chair.workers.items c.loop-chair.answers.items c.in-Some.chair.worker c.in-Some.chair.answers n (sym c.loop-chair.workers.ok.0) (sym c.loop-chair.answers.ok.0 ∙ inv.same)
          (λ q u o l. inv.uses q s u o l) (ends_at s).uses p w a (omega arith)));
      caused = λ p w a low.
          let slots : ℕ → ℕ = λ q. length (own_slots (slot_count g.P.Naming.workers g.P.Naming.table.slots) q) in
          let Shown : ℕ → View → Option (Vec Answer) → Type 0 = λ q u o. IfSome o (λ rs. IsShown g.P.Naming.size g.P.Naming.limit (slots q) u rs.items) in
          subst (λ (z : List View × List (Option (Vec Answer))). Shown p (get_or z.0 p w) (get_or z.1 p a))
          (λ i. (sym c.push_reserved.ensures.items i, sym c.push_reserved-in-loop-chair.ensures.items i))
          (each_more_two Shown c.loop-chair.workers.items c.loop-chair.answers.items c.in-Some.chair.worker c.in-Some.chair.answers n
          (sym c.loop-chair.workers.ok.0) (sym c.loop-chair.answers.ok.0 ∙ inv.same) inv.caused one.caused p w a (omega arith));
    }

pub returns-clause-answers : goal.returns-clause-answers
returns-clause-answers g c =
    let inv = c.loop-chair.invariant in
    let steps = c.in-None.ensures.steps in
    let same = inv.same in
    let count = inv.count in
    let len = c.loop-chair.answers.ok.0 in
    (omega arith, λ p s a low. inv.answers p s a (omega arith))

pub returns-clause-caused : goal.returns-clause-caused
returns-clause-caused g c =
    let inv = c.loop-chair.invariant in
    let steps = c.in-None.ensures.steps in
    let count = inv.count in
    λ p w a low. inv.caused p w a (omega arith)
