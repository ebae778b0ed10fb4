-- A step's answers and the replies by which they are told are the same.
use Rattle.std.proofs.Common.{◌≡◌, ◌∙◌, sym, ap, subst, refl, ℕ, Option, Some, None, Bool, true, false}
use Rattle.plain_cord.specs.declared.script.Command.{Command}
use Rattle.plain_cord.specs.declared.script.Command.TheVariants as commands
use Rattle.plain_cord.specs.declared.reply.NewMark.TheVariants as marks
use Rattle.plain_cord.specs.declared.reply.Reply.{Reply}
use Rattle.plain_cord.specs.declared.reply.Reply.TheVariants as replies
use Rattle.plain_cord.specs.declared.reply.Report.{Report}
use Rattle.plain_cord.specs.Effects.{PlainEffect}
use Rattle.plain_laws.specs.Refusals.{IsByteReply}
use Rattle.plain_laws.proofs.ByteReplies.{byte-reply}
use Rattle.cord_steps.specs.Answers.{Request, Plain, External, Snap, Walk, Unsnap, Answer, Told, Releasers, HasSnapshot, NoSnapshot, Walked, Ended, Height, Cords, Pool, unmarked}
use Rattle.cord_steps.specs.Replies.{request_of, answer_of, reply_of}
use Rattle.cord_steps.specs.Sessions.{Options, Session, Cells, Effect, plain_session, plain_cells, plain_effect}
use Rattle.cord_steps.specs.Steps.{IsSnapAnswer, IsWalkAnswer, IsUnsnapAnswer, IsStep}
use Rattle.cord_steps.proofs.ByteLaws.{follows-bytes, external-follows}

pub replied-back : (reply : Reply) → reply_of (answer_of reply) ≡ reply
replied-back replies.Releasers = refl
replied-back replies.HasSnapshot = refl
replied-back replies.NoSnapshot = refl
replied-back (replies.Walked reports) = refl
replied-back (replies.Ended deleted) = refl
replied-back replies.Height = refl
replied-back (replies.Cords found) = refl
replied-back (replies.Pool size) = refl
replied-back _ = refl

pub answers-differ : (x y : Reply) → answer_of x ≡ answer_of y → x ≡ y
answers-differ x y e = sym (replied-back x) ∙ (ap reply_of e ∙ replied-back y)

command_of_request : Request → Command
command_of_request (Plain command) = command
command_of_request (External a text) = commands.Ext a text
command_of_request Snap = commands.Snap
command_of_request Walk = commands.Walk
command_of_request Unsnap = commands.Unsnap

command-back : (command : Command) → command_of_request (request_of command) ≡ command
unfolding command_of_request
command-back (commands.Ext a text) = refl
command-back commands.Snap = refl
command-back commands.Walk = refl
command-back commands.Unsnap = refl
command-back _ = refl

pub requests-differ : (x y : Command) → request_of x ≡ request_of y → x ≡ y
requests-differ x y e = sym (command-back x) ∙ (ap command_of_request e ∙ command-back y)

-- ---- the answers of a step
byte-unmarked : (reply : Reply) → IsByteReply (unmarked reply) → IsByteReply reply
byte-unmarked (replies.Done _ _) h = tt
byte-unmarked replies.Releasers h = h
byte-unmarked replies.HasSnapshot h = h
byte-unmarked replies.NoSnapshot h = h
byte-unmarked (replies.Walked reports) h = h
byte-unmarked (replies.Ended deleted) h = h
byte-unmarked replies.Height h = h
byte-unmarked (replies.Cords found) h = h
byte-unmarked (replies.Pool size) h = h
byte-unmarked _ h = tt

-- the answer, as one that may be the profiler's
abbrev told_as : Reply → Answer Report
told_as reply = Told reply

told-byte : (reply : Reply) → IsByteReply reply → told_as reply ≡ answer_of reply
told-byte replies.Releasers h = absurd h
told-byte replies.HasSnapshot h = absurd h
told-byte replies.NoSnapshot h = absurd h
told-byte (replies.Walked reports) h = absurd h
told-byte (replies.Ended deleted) h = absurd h
told-byte replies.Height h = absurd h
told-byte (replies.Cords found) h = absurd h
told-byte (replies.Pool size) h = absurd h
told-byte _ h = refl

bytes-snap : (b : Bool) (r : Reply) → IsSnapAnswer b (told_as r) → IsByteReply r
bytes-snap true r is = absurd cc
bytes-snap false r is = let same : r ≡ replies.Done marks.Plain None = cc in subst IsByteReply (sym same) tt

bytes-walk : (b : Bool) (r : Reply) → IsWalkAnswer b (told_as r) → IsByteReply r
bytes-walk false r is = absurd cc
bytes-walk true r is = let none = is.1 in absurd cc

bytes-unsnap : (b : Bool) (r : Reply) → IsUnsnapAnswer b (told_as r) → IsByteReply r
bytes-unsnap false r is = absurd cc
bytes-unsnap true r is = let none = is.1 in absurd cc

told-bytes : (options : Options) (p : ℕ) (s : Session) (cells : Cells) (request : Request) (r : Reply) (e : Effect) → IsStep options p s cells request (told_as r) e → IsByteReply r
told-bytes options p s cells (Plain command) r e step =
    byte-unmarked r (byte-reply p (plain_session s) (plain_cells cells) command (plain_effect e (unmarked r)) (follows-bytes Report options p s cells command r e step))
told-bytes options p s cells (External a text) r e step =
    byte-unmarked r (byte-reply p (plain_session s) (plain_cells cells) (commands.Ext a text) (plain_effect e (unmarked r)) (external-follows Report options p s cells a text r e step))
told-bytes options p s cells Snap r e step = bytes-snap s.watches r step.answered
told-bytes options p s cells Walk r e step = bytes-walk s.watches r step.answered
told-bytes options p s cells Unsnap r e step = bytes-unsnap s.watches r step.answered

-- what the reply of an answer tells is that answer: no step tells by `Told` what has an answer of its own
pub replied : (options : Options) (p : ℕ) (s : Session) (cells : Cells) (request : Request) (answer : Answer Report) (e : Effect) → IsStep options p s cells request answer e → answer ≡ answer_of (reply_of answer)
replied options p s cells request (Told reply) e step = told-byte reply (told-bytes options p s cells request reply e step)
replied options p s cells request Releasers e step = refl
replied options p s cells request HasSnapshot e step = refl
replied options p s cells request NoSnapshot e step = refl
replied options p s cells request (Walked reports) e step = refl
replied options p s cells request (Ended deleted) e step = refl
replied options p s cells request Height e step = refl
replied options p s cells request (Cords found) e step = refl
replied options p s cells request (Pool size) e step = refl
