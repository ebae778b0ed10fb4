-- The plain step over trees: what is done, with its marks, and what is refused.
use Rattle.std.proofs.Common.{◌≡◌, ◌∙◌, sym, ap, subst, refl, ℕ, ◌+◌, ◌≤◌, Option, Some, None, Bool}
use Rattle.std.specs.Prelude.{option_map, if◌then◌else◌, IsTrue}
use Rattle.plain_cord.specs.declared.script.Command.{Command}
use Rattle.plain_cord.specs.declared.reply.Reply.{Reply}
use Rattle.plain_cord.specs.declared.reply.Reply.TheVariants as replies
use Rattle.plain_cord.specs.declared.reply.NewMark.{NewMark}
use Rattle.plain_cord.specs.declared.reply.NewMark.TheVariants as marks
use Rattle.plain_cord.specs.States.{CordState}
use Rattle.plain_cord.specs.Outcomes.{Outcome, outcome}
use Rattle.tree_shapes.specs.Cords.{sum_of, NeedsHeight12}
use Rattle.cord_steps.specs.Answers.{Plain, Answer, Told, Height, Cords, Pool}
use Rattle.cord_steps.specs.Boarding.{left}
use Rattle.cord_steps.specs.Cords.{Cord, plain_names, naming}
use Rattle.cord_steps.specs.Doings.{Doing, doing}
use Rattle.cord_steps.specs.Marks.{is_new, needs_pass, needs_numbers, kept_note, note_after}
use Rattle.cord_steps.specs.Sessions.{Options, Session, Cells}
use Rattle.cord_steps.specs.Steps.{cord_with, after_doing, command_effect, IsDoneReply, IsDoneAnswer, IsByteAnswer, IsCommandAnswer, IsStep}
use Rattle.cord_steps.specs.Whole.{IsWithin}
use Rattle.cord_steps.proofs.WholeLaws.{Made, WhenDone, IsMade, makes}
use Rattle.sampled_commands.proofs.Whole.{AreCords}

abbrev pub ok : Reply
ok = replies.Done marks.Plain None

-- ---- the answer
-- what is no `ok` on byte strings
abbrev pub IsOther : Reply → Type 0
IsOther (replies.Done _ _) = ⊥
IsOther _ = Unit {0}

by-bytes : (Report : Type 0) (options : Options) (s : Session) (d : Option Doing) (r : Reply) → IsOther r → IsByteAnswer {Report = Report} options s d r (Told r)
by-bytes Report options s None r other = refl
by-bytes Report options s (Some d) (replies.Done _ _) other = absurd other
by-bytes Report options s (Some d) _ other = refl

stays-told : (Report : Type 0) (s : Session) (o : Outcome) (d : Option Doing) (r : Reply) → IsOther r → after_doing {Report = Report} s o d (Told r) ≡ s
stays-told Report s o None r other = refl
stays-told Report s o (Some d) (replies.Done _ _) other = absurd other
stays-told Report s o (Some d) _ other = refl

module _ {Report : Type 0} (choice : Bool) (options : Options) (p : ℕ) (s : Session) (cells : Cells) (command : Command) (o : Outcome) (oe : outcome (plain_names s.names) command ≡ Some o) where
  does : (answer : Answer Report) → command_effect choice p s cells command (outcome (plain_names s.names) command) answer ≡ left (after_doing s o (doing choice s.names command) answer) cells
  does answer = ap (λ (z : Option Outcome). command_effect choice p s cells command z answer) oe

  -- a question, or a refusal as on byte strings
  pub told-step : (r : Reply) → o.reply ≡ r → IsOther r → IsStep {Report = Report} options p s cells (Plain command) (Told r) (left s cells)
  told-step r re other = record {
    choice = choice;
    answered = subst (λ (z : Option Outcome). IsCommandAnswer {Report = Report} choice options s cells command z (Told r)) (sym oe)
        (subst (λ (z : Reply). IsByteAnswer {Report = Report} options s (doing choice s.names command) z (Told r)) (sym re) (by-bytes Report options s (doing choice s.names command) r other));
    done = ap (λ (z : Session). left z cells) (sym (stays-told Report s o (doing choice s.names command) r other)) ∙ sym (does (Told r));
  }

  module _ (d : Doing) (de : doing choice s.names command ≡ Some d) (re : o.reply ≡ ok) where
    may : (answer : Answer Report) → IsDoneAnswer options s d answer → IsCommandAnswer {Report = Report} choice options s cells command (outcome (plain_names s.names) command) answer
    may answer is = subst (λ (z : Option Outcome). IsCommandAnswer {Report = Report} choice options s cells command z answer) (sym oe)
        (subst (λ (z : Option Doing). IsByteAnswer {Report = Report} options s z o.reply answer) (sym de)
        (subst (λ (z : Reply). IsByteAnswer {Report = Report} options s (Some d) z answer) (sym re) is))

    came : (answer : Answer Report) → after_doing s o (doing choice s.names command) answer ≡ after_doing s o (Some d) answer
    came answer = ap (λ (z : Option Doing). after_doing s o z answer) de

    -- want of a height, a pass or a number
    pub height-step : NeedsHeight12 d.made → IsStep {Report = Report} options p s cells (Plain command) Height (left s cells)
    height-step high = record { choice = choice; answered = may Height high; done = ap (λ (z : Session). left z cells) (sym (came Height)) ∙ sym (does Height) }

    pub cords-step : (found : ℕ) → ¬ (NeedsHeight12 d.made) → IsTrue (needs_pass d) → options.passes ≤ found → IsStep {Report = Report} options p s cells (Plain command) (Cords found) (left s cells)
    cords-step found low needs limit = record { choice = choice; answered = may (Cords found) (low, needs, limit); done = ap (λ (z : Session). left z cells) (sym (came (Cords found))) ∙ sym (does (Cords found)) }

    pub pool-step : (size : ℕ) → ¬ (NeedsHeight12 d.made) → IsTrue (needs_numbers d) → size ≡ options.numbers → IsStep {Report = Report} options p s cells (Plain command) (Pool size) (left s cells)
    pool-step size low needs all = record { choice = choice; answered = may (Pool size) (low, needs, all); done = ap (λ (z : Session). left z cells) (sym (came (Pool size))) ∙ sym (does (Pool size)) }

    -- the name has the cord x
    pub done-step : (mark : NewMark) (lost : Option ℕ) → IsDoneReply options s d (replies.Done mark lost) → ¬ (NeedsHeight12 d.made) → AreCords s.names → IsWithin (Plain command)
        → (c : CordState) (x : Cord) → o.names d.name ≡ Some c → c.bytes ≡ x.bytes → d.made.tree ≡ x.shape → x.sum ≡ sum_of x.shape → x.note ≡ note_after (kept_note d) mark
        → IsStep {Report = Report} options p s cells (Plain command) (Told (replies.Done mark lost))
        (left (record s { names = naming s.names d.name (Some x); trees = s.trees + (if is_new d then 1 else 0) }) cells)
    done-step mark lost reply low all within c x on bytes shape sum note =
        let made : Made d.made c = subst (λ (z : Reply). WhenDone z ((c : CordState) → o.names d.name ≡ Some c → Made d.made c)) re
        (subst (λ (z : Option Doing). IsMade (Some o) z) de (subst (λ (z : Option Outcome). IsMade z (doing choice s.names command)) oe (makes choice s.names all command within))) c on in
        let same : cord_with d mark c ≡ x = λ i. record {
          bytes = bytes i;
          sum = (made.sum ∙ (ap sum_of shape ∙ sym sum)) i;
          shape = shape i;
          note = sym note i;
        } in
        record {
          choice = choice;
          answered = may (Told (replies.Done mark lost)) (low, reply);
          done = ap (λ (z : Option Cord). left (record s { names = naming s.names d.name z; trees = s.trees + (if is_new d then 1 else 0) }) cells)
              (sym (ap (λ (z : Option CordState). option_map (cord_with d mark) z) on ∙ ap (λ (z : Cord). Some z) same))
              ∙ (ap (λ (z : Session). left z cells) (sym (came (Told (replies.Done mark lost)))) ∙ sym (does (Told (replies.Done mark lost))));
        }
