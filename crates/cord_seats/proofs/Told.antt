-- A session by itself, command after command.
use mathlib.Core.Path.{fun_ext}
use Rattle.std.proofs.Common.{◌≡◌, ◌∙◌, sym, ap, subst, refl, ℕ, ◌+◌, List, [], ◌∷◌, ◌++◌, map, length, zip, None, length-append, arith}
use Rattle.std.proofs.lemmas.List.{length-map}
use Rattle.plain_cord.specs.declared.deed.Deed.{Deed}
use Rattle.plain_cord.specs.declared.script.Command.{Command}
use Rattle.plain_cord.specs.Deeds.{mapped_deed}
use Rattle.pool_rule.specs.Views.{View}
use Rattle.ordered_names.specs.declared.names.Names.{Names}
use Rattle.ordered_names.specs.Named.{named}
use Rattle.cord_value.specs.Views.{CordView}
use Rattle.cord_steps.specs.Answers as steps
use Rattle.cord_steps.specs.Cords.{Cord}
use Rattle.cord_steps.specs.Replies.{request_of}
use Rattle.cord_steps.specs.Runs.{Line, new_session}
use Rattle.cord_steps.specs.Sessions.{Options, Session}
use Rattle.cord_runs.specs.Alone.{StepsAlone, RunsAlone}
use Rattle.cord_runs.proofs.AloneLaws.{runs-more, zip-more}
use Rattle.cord_board.specs.declared.view.BoardView.{BoardView}
use Rattle.cord_board.specs.Views.{session_of, mine_of}
use Rattle.cord_commands.specs.declared.answer.Answer.{Answer}
use Rattle.cord_commands.specs.Answers.{told_by}
use Rattle.cord_commands.specs.Does.{NoReport, AreFormed}
use Rattle.cord_commands.specs.Views.{cord_in}
use Rattle.cord_commands.proofs.Doing.{none-in}
use Rattle.cord_seats.specs.Told.{options_for, IsToldAlone}
use Rattle.cord_seats.specs.Working.{did_of, IsAtWork, GoesTo, Advances}
use Rattle.cord_seats.proofs.Working.{map-more}

-- the session p so far, and the names, the pass and the worker with which it is at work
pub record HasRun (size limit boxes p : ℕ) (said : List Command) (answers : List Answer) (names : Names CordView) (seat : BoardView CordView) (w : View) : Type 0 where
  pub answered : length answers ≡ length said
  pub formed : AreFormed names
  pub after : Session
  pub at : IsAtWork after names seat w
  pub run : RunsAlone {Report = NoReport} (options_for size limit) p (new_session boxes) (zip (map request_of said) (map told_by answers)) (did_of seat) after

pub run-starts : (size limit p : ℕ) (names : Names CordView) (seat : BoardView CordView) (w : View) → mine_of seat ≡ [] → ((a : List ℕ) → named names a ≡ None)
    → HasRun size limit (length w.unused) p [] [] names seat w
run-starts size limit p names seat w fresh none = record {
  answered = refl;
  formed = λ q c is. (let n = none q in cc);
  after = new_session (length w.unused);
  at = record {
    at = record { names = fun_ext (λ q. sym (none-in names q (none q))); boxes = omega arith };
    acted = sym (ap length fresh);
  };
  run = (ap (map (mapped_deed cord_in)) fresh, refl);
}

pub run-more : (size limit boxes p : ℕ) (said : List Command) (answers : List Answer) (old new : Names CordView) (seat after : BoardView CordView) (v w : View) (command : Command) (answer : Answer)
    → HasRun size limit boxes p said answers old seat v → session_of seat ≡ p → Advances size limit seat after v w old new (request_of command) answer
    → HasRun size limit boxes p (said ++ command ∷ []) (answers ++ answer ∷ []) new after w
run-more size limit boxes p said answers old new seat after v w command answer r same a =
    let options : Options = options_for size limit in
    let go : GoesTo options (session_of seat) r.after (request_of command) answer a.now new after w =
    a.step options r.after (record { numbers = refl; passes = refl; stride = refl }) r.at r.formed in
    let line : Line NoReport = (request_of command, told_by answer) in
    let asked = map request_of said in
    let given : List (steps.Answer NoReport) = map told_by answers in
    let even : length asked ≡ length given = length-map said request_of ∙ (sym r.answered ∙ sym (length-map answers told_by)) in
    let lines : zip (map request_of (said ++ command ∷ [])) (map told_by (answers ++ answer ∷ [])) ≡ zip asked given ++ line ∷ [] =
    (λ i. zip (map-more request_of said command i) (map-more (told_by {Report = NoReport}) answers answer i)) ∙ zip-more asked given (request_of command) (told_by answer) even in
    record {
      answered = length-append answers (answer ∷ []) ∙ (ap (λ n. n + 1) r.answered ∙ sym (length-append said (command ∷ [])));
      formed = a.formed r.formed;
      after = go.after;
      at = go.at;
      run = subst (λ (z : List (Line NoReport) × List (Deed Cord)). RunsAlone {Report = NoReport} options p (new_session boxes) z.0 z.1 go.after) (λ i. (sym lines i, sym a.did i))
          (runs-more (StepsAlone {Report = NoReport} options) p (new_session boxes) (zip asked given) (did_of seat) r.after line a.now go.after r.run
          (subst (λ (n : ℕ). StepsAlone {Report = NoReport} options n r.after line a.now go.after) same go.step));
    }

pub run-tells : (size limit boxes p : ℕ) (said : List Command) (answers : List Answer) (names : Names CordView) (seat : BoardView CordView) (w : View)
    → HasRun size limit boxes p said answers names seat w → IsToldAlone size limit boxes p said answers (mine_of seat)
run-tells size limit boxes p said answers names seat w r = record { answered = r.answered; after = r.after; run = r.run }
