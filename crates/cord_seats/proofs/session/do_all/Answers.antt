-- One command more, and all of them.
use Rattle.std.proofs.Common.{rules, ◌≡◌, ◌∙◌, sym, subst, refl, ◌+◌, List, [], ◌∷◌, ◌++◌, length, take, arith}
use Rattle.std.proofs.lemmas.List.{take_all}
use Rattle.plain_cord.specs.declared.script.Command.{Command}
use Rattle.cord_board.specs.Passes.{board_view}
use Rattle.cord_board.specs.Views.{session_of, mine_of}
use Rattle.cord_commands.specs.declared.answer.Answer.{Answer}
use Rattle.cord_commands.specs.Accounts.{trees_in}
use Rattle.cord_commands.specs.Slots.{external_by, Uses}
use Rattle.cord_seats.specs.Causes.{AreCaused}
use Rattle.cord_seats.specs.Told.{externals_by}
use Rattle.cord_seats.proofs.Causes.{caused-none, caused-more}
use Rattle.cord_seats.proofs.Counts.{stays-then, stays-none}
use Rattle.cord_seats.proofs.Entries.{entries-drop}
use Rattle.cord_seats.proofs.Lists.{take-more}
use Rattle.cord_seats.proofs.Slots.{idle-same, idle-uses, uses-then, externals-more}
use Rattle.cord_seats.proofs.Told.{HasRun, run-starts, run-more, run-tells}
use Rattle.cord_seats.proofs.session.do_all.Goals as goal

pub loop-i-init : goal.loop-i-init
loop-i-init g c =
    let w = c.args.w.now in
    let seat = board_view c.args.seat.now in
    record {
      on = c.requires.board;
      session = c.requires.fresh.0;
      same = search rules;
      left = c.requires.room;
      room = search rules;
      ran = subst (λ (z : List Answer). HasRun g.P.Naming.size g.P.Naming.limit (length w.unused) (session_of seat) [] z c.args.names.now seat w) (search rules)
          (run-starts g.P.Naming.size g.P.Naming.limit (session_of seat) c.args.names.now seat w c.requires.fresh.1 c.requires.none);
      caused = caused-none g.P.Naming.size g.P.Naming.limit w _ (search rules);
      uses = idle-uses _ _ (idle-same _ _ refl);
      steady = stays-none w (trees_in c.args.names.now) (mine_of seat);
    }

pub loop-i-preserved : goal.loop-i-preserved
loop-i-preserved g c =
    let inv = c.loop-i.invariant in
    let i = c.loop-i.i in
    let commands = c.args.commands.now in
    let command = c.index-commands-i.result in
    let answer = c.in_ok-answer.answer in
    let on = c.do_command.ensures.on in
    let inside = c.loop-i-test.true in
    let left = inv.left in
    let gone = on.left in
    let parts = entries-drop i commands command (omega arith) c.index-commands-i.is in
    let p = session_of (board_view c.args.seat.now) in
    let boxes = length c.args.w.now.unused in
    let names = c.do_command.new.names in
    let seat = board_view c.do_command.new.seat in
    let w = c.do_command.new.w in
    let more : take i commands ++ command ∷ [] ≡ take (i + 1) commands = take-more commands i command inside c.index-commands-i.is in
    let items : c.push_reserved.new.self.items ≡ c.loop-i.answers.items ++ answer ∷ [] = c.push_reserved.ensures.items in
    record {
      on = c.do_command.ensures.board;
      session = on.session;
      same = on.same ∙ inv.same;
      left = omega arith;
      room = search rules;
      ran = subst (λ (z : List Command × List Answer). HasRun g.P.Naming.size g.P.Naming.limit boxes p z.0 z.1 names seat w) (λ k. (more k, sym items k))
          (run-more g.P.Naming.size g.P.Naming.limit boxes p (take i commands) c.loop-i.answers.items c.loop-i.names names (board_view c.loop-i.seat) seat
          c.loop-i.w w command answer inv.ran inv.same c.in_ok-answer.ensures.told);
      caused = subst (AreCaused g.P.Naming.size g.P.Naming.limit c.args.w.now w) (sym items)
          (caused-more g.P.Naming.size g.P.Naming.limit c.args.w.now c.loop-i.w w c.loop-i.answers.items answer inv.caused c.do_command.ensures.steady.grew
          c.in_ok-answer.ensures.told.cause);
      uses = subst (λ (z : List Command × List Answer). Uses c.args.w.now w (externals_by z.0 z.1)) (λ k. (more k, sym items k))
          (subst (Uses c.args.w.now w) (sym (externals-more (take i commands) c.loop-i.answers.items command answer inv.ran.answered))
          (uses-then c.args.w.now c.loop-i.w w (externals_by (take i commands) c.loop-i.answers.items) (external_by command answer) inv.uses c.in_ok-answer.ensures.uses));
      steady = stays-then _ _ _ _ _ _ _ _ _ inv.steady c.do_command.ensures.steady;
    }

pub returns-clause-told : goal.returns-clause-told
returns-clause-told g c =
    let inv = c.loop-i.invariant in
    let commands = c.args.commands.now in
    let p = session_of (board_view c.args.seat.now) in
    let boxes = length c.args.w.now.unused in
    let seat = board_view c.loop-i.seat in
    let out = c.loop-i-test.false in
    run-tells g.P.Naming.size g.P.Naming.limit boxes p commands c.loop-i.answers.items c.loop-i.names seat c.loop-i.w
    (subst (λ (z : List Command). HasRun g.P.Naming.size g.P.Naming.limit boxes p z c.loop-i.answers.items c.loop-i.names seat c.loop-i.w) (take_all c.loop-i.i commands (omega arith)) inv.ran)

pub returns-clause-caused : goal.returns-clause-caused
returns-clause-caused g c = c.loop-i.invariant.caused

pub returns-clause-slots : goal.returns-clause-slots
returns-clause-slots g c = c.loop-i.invariant.uses.slots

pub returns-clause-uses : goal.returns-clause-uses
returns-clause-uses g c =
    let inv = c.loop-i.invariant in
    let commands = c.args.commands.now in
    let out = c.loop-i-test.false in
    subst (λ (z : List Command). Uses c.args.w.now c.loop-i.w (externals_by z c.loop-i.answers.items)) (take_all c.loop-i.i commands (omega arith)) inv.uses

pub returns-in_err-answers-clause-slots : goal.returns-in_err-answers-clause-slots
returns-in_err-answers-clause-slots g c = refl

pub returns-in_err-answers-clause-steady : goal.returns-in_err-answers-clause-steady
returns-in_err-answers-clause-steady g c = stays-none c.args.w.now (trees_in c.args.names.now) (mine_of (board_view c.args.seat.now))

pub returns-in_err-answer-clause-slots : goal.returns-in_err-answer-clause-slots
returns-in_err-answer-clause-slots g c = c.do_command.ensures.slots ∙ c.loop-i.invariant.uses.slots

pub returns-in_err-answer-clause-steady : goal.returns-in_err-answer-clause-steady
returns-in_err-answer-clause-steady g c = stays-then _ _ _ _ _ _ _ _ _ c.loop-i.invariant.steady c.do_command.ensures.steady
