-- The bytes and sums after a step are those of the step on byte strings.
use Rattle.std.proofs.Common.{◌≡◌, ◌∙◌, sym, ap, subst, refl, ℕ, ◌+◌, List, [], Option, Some, None, Bool, true, false, cond}
use Rattle.std.specs.Prelude.{option_map}
use Rattle.std.specs.Str.{bytes_eq}
use Rattle.std.proofs.lemmas.Slice.Eq.{bytes_eq-Decides}
use Rattle.plain_cord.specs.declared.script.Command.{Command}
use Rattle.plain_cord.specs.declared.reply.NewMark.{NewMark}
use Rattle.plain_cord.specs.declared.reply.Reply.{Reply}
use Rattle.plain_cord.specs.declared.reply.Reply.TheVariants as replies
use Rattle.plain_cord.specs.States.{CordState, SameNames, plain}
use Rattle.plain_cord.specs.declared.script.Text.{Text}
use Rattle.plain_cord.specs.Outcomes.{Outcome, outcome}
use Rattle.plain_cord.specs.Texts.{text_bytes}
use Rattle.cord_steps.specs.Answers.{Answer, Told, Plain, External, unmarked}
use Rattle.cord_steps.specs.Boarding.{left}
use Rattle.cord_steps.specs.Cords.{Cord, plain_of, plain_names}
use Rattle.cord_steps.specs.Doings.{Doing, doing, external_doing}
use Rattle.cord_steps.specs.Sessions.{Options, Session, Cells, Effect, plain_session, plain_cells, plain_effect}
use Rattle.cord_steps.specs.Steps.{IsDoneReply, IsByteAnswer, IsCommandAnswer, IsExternalAnswer, has_box, cord_with, after_done, after_reply, after_doing, command_effect, IsStep}
use mathlib.Core.Path.{fun_ext}
use Rattle.plain_cord.specs.declared.script.Command.TheVariants as commands
use Rattle.plain_cord.specs.Effects as bytes
use Rattle.plain_cord.specs.Effects.{SessionState, apart, PlainEffect}
use Rattle.cord_steps.proofs.BoardLaws.{named-alike, board-alike}
use Rattle.cord_steps.proofs.Settled.{UnlessDone, Settles, IsSettled, settled}

-- after an outcome
record Follows (o : Outcome) (after : Session) (reply : Reply) : Type 0 where
  pub names : SameNames o.names (plain_names after.names)
  pub says : unmarked reply ≡ o.reply

same-option : (d : Doing) (m : NewMark) (o : Option CordState) → o ≡ option_map plain_of (option_map (cord_with d m) o)
same-option d m None = refl
same-option d m (Some c) = refl

-- the name that is set has the bytes of the outcome
set-at : (b : Bool) (x y : Option CordState) (z w : Option Cord) → (b ≡ true → x ≡ option_map plain_of z) → (b ≡ false → x ≡ option_map plain_of w) → x ≡ option_map plain_of (cond b z w)
set-at true x y z w same other = same refl
set-at false x y z w same other = other refl

module _ (options : Options) (s : Session) where
  done-names : (o : Outcome) (d : Doing) (m : NewMark) → Settles (plain_names s.names) d.name o → SameNames o.names (plain_names (after_done s (o.names d.name) d m).names)
  done-names o d m settles = λ name.
      set-at (bytes_eq d.name name) (o.names name) (o.names name) (option_map (cord_with d m) (o.names d.name)) (s.names name)
      (λ same. ap o.names (sym ((bytes_eq-Decides d.name name).0 same)) ∙ same-option d m (o.names d.name))
      (λ other. settles.others name other)

  byte-go : (R : Type 0) (o : Outcome) (d : Doing) (r reply : Reply) → o.reply ≡ r → Settles (plain_names s.names) d.name o → UnlessDone r (SameNames o.names (plain_names s.names)) → r ≡ unmarked r → IsByteAnswer {Report = R} options s (Some d) r (Told reply)
      → Follows o (after_reply s (o.names d.name) d reply) reply
  byte-go R o d (replies.Done m g) (replies.Done mark lost) is settles stays bare answer = record { names = done-names o d mark settles; says = sym bare ∙ sym is }
  byte-go R o d (replies.Done m g) _ is settles stays bare answer = absurd (answer.1)
  byte-go R o d r reply is settles stays bare answer = let e : reply ≡ r = cc in subst (λ (q : Reply). Follows o (after_reply s (o.names d.name) d q) q) (sym e) (record { names = stays; says = sym bare ∙ sym is })

  followed : (R : Type 0) (o : Outcome) (d : Option Doing) (reply : Reply) → IsSettled (plain_names s.names) (Some o) d → IsByteAnswer {Report = R} options s d o.reply (Told reply) → Follows o (after_doing s o d (let a : Answer R = Told reply in a)) reply
  followed R o None reply asks answer = let e : reply ≡ o.reply = cc in record { names = asks.same; says = ap unmarked e ∙ sym asks.bare }
  followed R o (Some d) reply settles answer = byte-go R o d o.reply reply refl settles settles.stays settles.bare answer

-- an outcome is what the command does
outcome-effect : (p : ℕ) (state : SessionState) (cells : bytes.Cells) (command : Command) (o : Outcome) → outcome state.names command ≡ Some o → bytes.effect p state cells command ≡ Some (apart state cells o)
outcome-effect p state cells (commands.Put a cell) o is = absurd (cc)
outcome-effect p state cells (commands.Take cell a) o is = absurd (cc)
outcome-effect p state cells (commands.Peek cell a) o is = absurd (cc)
outcome-effect p state cells (commands.Swap a cell) o is = absurd (cc)
outcome-effect p state cells _ o is = ap (option_map (apart state cells)) is

after-acted : (R : Type 0) (s : Session) (o : Outcome) (d : Option Doing) (reply : Reply) → (after_doing s o d (let a : Answer R = Told reply in a)).acted ≡ s.acted
after-acted R s o None reply = refl
after-acted R s o (Some d) (replies.Done _ _) = refl
after-acted R s o (Some d) _ = refl

pub follows-bytes : (R : Type 0) (options : Options) (p : ℕ) (s : Session) (cells : Cells) (command : Command) (reply : Reply) (e : Effect) → IsStep {Report = R} options p s cells (Plain command) (Told reply) e
    → PlainEffect p (plain_session s) (plain_cells cells) command (plain_effect e (unmarked reply))
follows-bytes R options p s cells command reply e step = go (outcome (plain_names s.names) command) refl (settled step.choice s.names command) step.answered step.done
  where
    go : (o : Option Outcome) → outcome (plain_names s.names) command ≡ o → IsSettled (plain_names s.names) o (doing step.choice s.names command) → IsCommandAnswer {Report = R} step.choice options s cells command o (Told reply) → e ≡ command_effect {Report = R} step.choice p s cells command o (Told reply)
        → PlainEffect p (plain_session s) (plain_cells cells) command (plain_effect e (unmarked reply))
    go None from settles answered is =
        subst (λ (x : Effect). PlainEffect p (plain_session s) (plain_cells cells) command (plain_effect x (unmarked reply))) (sym is) (board-alike p s cells reply R options command answered)
    go (Some o) from settles answered is =
        let d = doing step.choice s.names command in
        let f = followed options s R o d reply settles answered in
        let after : Session = after_doing {Report = R} s o d (Told reply) in
        let acted : after.acted ≡ s.acted = after-acted R s o d reply in
        subst (λ (x : Effect). PlainEffect p (plain_session s) (plain_cells cells) command (plain_effect x (unmarked reply))) (sym is)
        (outcome-effect p (plain_session s) (plain_cells cells) command o from
        ∙ (λ i. Some (record { state = record { names = fun_ext f.names i; acted = sym acted i }; cells = plain_cells cells; entries = []; reply = sym f.says i })))

-- an external that is made does what the command does on byte strings
pub external-follows : (R : Type 0) (options : Options) (p : ℕ) (s : Session) (cells : Cells) (a : List ℕ) (text : Text) (reply : Reply) (e : Effect) → IsStep {Report = R} options p s cells (External a text) (Told reply) e
    → PlainEffect p (plain_session s) (plain_cells cells) (commands.Ext a text) (plain_effect e (unmarked reply))
external-follows R options p s cells a text reply e step = boxed (has_box s) step.answered
  where
    d : Doing
    d = external_doing s.names a (text_bytes text)

    made : (r : Reply) → IsDoneReply options s d r → e ≡ left (after_reply (record s { externals = s.externals + 1 }) (Some (plain (text_bytes text))) d r) cells
        → PlainEffect p (plain_session s) (plain_cells cells) (commands.Ext a text) (plain_effect e (unmarked r))
    made (replies.Done mark lost) is done =
        let c : Cord = cord_with d mark (plain (text_bytes text)) in
        subst (λ (x : Effect). PlainEffect p (plain_session s) (plain_cells cells) (commands.Ext a text) (plain_effect x (unmarked (replies.Done mark lost)))) (sym done)
        (λ i. Some (record { state = record { names = fun_ext (named-alike s.names a c) i; acted = s.acted }; cells = plain_cells cells; entries = []; reply = unmarked (replies.Done mark lost) }))
    made _ is done = absurd is

    boxed : (b : Bool) → IsExternalAnswer {Report = R} b options s d (Told reply) → PlainEffect p (plain_session s) (plain_cells cells) (commands.Ext a text) (plain_effect e (unmarked reply))
    boxed false is = absurd (cc)
    boxed true is = made reply is.1 step.done
