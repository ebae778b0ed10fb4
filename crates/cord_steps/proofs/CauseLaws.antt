-- A refusal for want of a pass or a number shows its cause.
use Rattle.std.proofs.Common.{◌≡◌, subst, sym, ℕ, Option, Some, None, Bool, true, false}
use Rattle.plain_cord.specs.declared.script.Command.{Command}
use Rattle.plain_cord.specs.declared.script.Command.TheVariants as commands
use Rattle.plain_cord.specs.declared.reply.Reply.{Reply}
use Rattle.plain_cord.specs.declared.reply.Reply.TheVariants as replies
use Rattle.plain_cord.specs.Outcomes.{Outcome, outcome}
use Rattle.plain_cord.specs.Texts.{text_bytes}
use Rattle.cord_steps.specs.Answers.{Request, Plain, External, Snap, Walk, Unsnap, Answer, Told, Releasers, HasSnapshot, NoSnapshot, Walked, Ended, Cords, Pool}
use Rattle.cord_steps.specs.Boarding.{held_in, IsPeekAnswer, IsBoardAnswer}
use Rattle.cord_steps.specs.Causes.{ShowsCause}
use Rattle.cord_steps.specs.Cords.{Cord, plain_names, stamp_in}
use Rattle.cord_steps.specs.Doings.{Doing, doing, external_doing}
use Rattle.cord_steps.specs.Sessions.{Options, Session, Cells, Effect}
use Rattle.cord_steps.specs.Steps.{IsDoneAnswer, IsByteAnswer, IsCommandAnswer, IsExternalAnswer, IsSnapAnswer, IsWalkAnswer, IsUnsnapAnswer, has_box, IsStep}

module _ {R : Type 0} (options : Options) where
  by-other : (answer other : Answer R) → ShowsCause options other → answer ≡ other → ShowsCause options answer
  by-other answer other shows is = subst (ShowsCause options) (sym is) shows

  by-done : (s : Session) (d : Doing) (answer : Answer R) → IsDoneAnswer options s d answer → ShowsCause options answer
  by-done s d (Cords found) is = is.2
  by-done s d (Pool size) is = is.2
  by-done s d _ is = tt

  by-byte : (s : Session) (d : Option Doing) (reply : Reply) (answer : Answer R) → IsByteAnswer options s d reply answer → ShowsCause options answer
  by-byte s None reply answer is = by-other answer (Told reply) tt is
  by-byte s (Some d) (replies.Done _ _) answer is = by-done s d answer is
  by-byte s (Some d) reply answer is = by-other answer (Told reply) tt is

  by-peek : (cell : ℕ) (was : Option Cord) (stamp : Option ℕ) (answer : Answer R) → IsPeekAnswer options cell was stamp answer → ShowsCause options answer
  by-peek cell was stamp (Told reply) is = tt
  by-peek cell was stamp (Cords found) is = is
  by-peek cell was stamp _ is = absurd is

  by-board : (s : Session) (cells : Cells) (command : Command) (answer : Answer R) → IsBoardAnswer options s cells command answer → ShowsCause options answer
  by-board s cells (commands.Put a cell) answer is = by-other answer _ tt is
  by-board s cells (commands.Take cell a) answer is = by-other answer _ tt is
  by-board s cells (commands.Peek cell a) answer is = by-peek cell (held_in cells cell) (stamp_in (s.names a)) answer is
  by-board s cells (commands.Swap a cell) answer is = by-other answer _ tt is
  by-board s cells _ answer is = absurd is

  by-command : (choice : Bool) (s : Session) (cells : Cells) (command : Command) (o : Option Outcome) (answer : Answer R) → IsCommandAnswer choice options s cells command o answer → ShowsCause options answer
  by-command choice s cells command None answer is = by-board s cells command answer is
  by-command choice s cells command (Some o) answer is = by-byte s (doing choice s.names command) o.reply answer is

  by-external : (b : Bool) (s : Session) (d : Doing) (answer : Answer R) → IsExternalAnswer b options s d answer → ShowsCause options answer
  by-external false s d answer is = by-other answer Releasers tt is
  by-external true s d answer is = by-done s d answer is

  by-snap : (b : Bool) (answer : Answer R) → IsSnapAnswer b answer → ShowsCause options answer
  by-snap true answer is = by-other answer HasSnapshot tt is
  by-snap false answer is = by-other answer _ tt is

  by-walk : (b : Bool) (answer : Answer R) → IsWalkAnswer b answer → ShowsCause options answer
  by-walk false answer is = by-other answer NoSnapshot tt is
  by-walk true answer is = by-other answer (Walked is.0) tt is.1

  by-unsnap : (b : Bool) (answer : Answer R) → IsUnsnapAnswer b answer → ShowsCause options answer
  by-unsnap false answer is = by-other answer NoSnapshot tt is
  by-unsnap true answer is = by-other answer (Ended is.0) tt is.1

  pub shows-cause : (p : ℕ) (s : Session) (cells : Cells) (request : Request) (answer : Answer R) (e : Effect) → IsStep options p s cells request answer e → ShowsCause options answer
  shows-cause p s cells (Plain command) answer e step = by-command step.choice s cells command (outcome (plain_names s.names) command) answer step.answered
  shows-cause p s cells (External a text) answer e step = by-external (has_box s) s (external_doing s.names a (text_bytes text)) answer step.answered
  shows-cause p s cells Snap answer e step = by-snap s.watches answer step.answered
  shows-cause p s cells Walk answer e step = by-walk s.watches answer step.answered
  shows-cause p s cells Unsnap answer e step = by-unsnap s.watches answer step.answered
