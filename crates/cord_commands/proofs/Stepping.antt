-- The plain step where no tree is sampled: what is done, and what is refused.
use Rattle.std.proofs.Common.{◌≡◌, ◌∙◌, sym, ap, subst, refl, ℕ, ◌+◌, ◌≤◌, List, Option, Some, None, Bool, true, false}
use Rattle.std.specs.Prelude.{option_map, is_some, ◌&&◌, ◌%◌, nat_lt, nat_eq, if◌then◌else◌, IsTrue}
use Rattle.plain_cord.specs.declared.script.Command.{Command}
use Rattle.plain_cord.specs.declared.reply.Reply.{Reply}
use Rattle.plain_cord.specs.declared.reply.Reply.TheVariants as replies
use Rattle.plain_cord.specs.declared.reply.NewMark.TheVariants as marks
use Rattle.plain_cord.specs.States.{CordState}
use Rattle.plain_cord.specs.Outcomes.{Outcome, outcome}
use Rattle.tree_shapes.specs.Cords.{sum_of, NeedsHeight12}
use Rattle.cord_steps.specs.Answers.{Plain, Answer, Told, Height, Cords, Pool}
use Rattle.cord_steps.specs.Boarding.{left}
use Rattle.cord_steps.specs.Cords.{Cord, Note, IsCord, plain_names, naming, note_in}
use Rattle.cord_steps.specs.Doings.{Manner, Fresh, Copied, Changed, Doing, doing}
use Rattle.cord_steps.specs.Marks.{is_tree, is_new, needs_pass, needs_numbers, is_turn, sampled_step, kept_note, kept_step, gone_stamp, gone_step, mark_of, told_note, IsMark}
use Rattle.cord_steps.specs.Sessions.{Options, Session, Cells}
use Rattle.cord_steps.specs.Steps.{cord_with, after_doing, command_effect, IsDoneReply, IsDoneAnswer, IsByteAnswer, IsCommandAnswer, IsStep}
use Rattle.cord_steps.specs.Whole.{IsWithin}
use Rattle.cord_steps.proofs.WholeLaws.{Made, WhenDone, IsMade, makes}

-- a fresh cord, a copy of one without a record, or a change
abbrev pub IsBare : Manner → Type 0
IsBare Fresh = Unit {0}
IsBare (Copied from) = from ≡ None
IsBare (Changed alters) = Unit {0}

abbrev pub ok : Reply
ok = replies.Done marks.Plain None

-- ---- no mark
no-turn : (options : Options) (s : Session) → options.stride ≡ 0 → is_turn options s ≡ false
no-turn options s e = ap (λ (b : Bool). b && nat_eq ((s.trees + 1) % options.stride) 0) (ap (nat_lt 0) e)

and-false : (b : Bool) → (b && false) ≡ false
and-false true = refl
and-false false = refl

sampled-none : (m : Manner) (new turn : Bool) → IsBare m → turn ≡ false → sampled_step m (new && turn) ≡ false
sampled-none Fresh new turn bare e = ap (λ (b : Bool). new && b) e ∙ and-false new
sampled-none (Copied from) new turn bare e = ap is_some bare
sampled-none (Changed alters) new turn bare e = ap (λ (b : Bool). new && b) e ∙ and-false new

kept-none : (m : Manner) → kept_step m None ≡ None
kept-none Fresh = refl
kept-none (Copied from) = refl
kept-none (Changed true) = refl
kept-none (Changed false) = refl

if-none : {X : Type 0} (b : Bool) (o : Option X) → o ≡ None → (if b then o else None) ≡ None
if-none true o e = e
if-none false o e = refl

told-none : (m : Manner) → told_note m None ≡ None
told-none Fresh = refl
told-none (Copied from) = refl
told-none (Changed true) = refl
told-none (Changed false) = refl

gone-none : (m : Manner) (b : Bool) → gone_step m b None ≡ None
gone-none Fresh b = refl
gone-none (Copied from) b = refl
gone-none (Changed alters) true = refl
gone-none (Changed alters) false = refl

module _ (d : Doing) (noteless : note_in d.old ≡ None) where
  pub kept-empty : kept_note d ≡ None
  kept-empty = ap (λ (o : Option Note). if is_tree d then kept_step d.manner o else None) noteless ∙ if-none (is_tree d) (kept_step d.manner None) (kept-none d.manner)

  gone-empty : gone_stamp d ≡ None
  gone-empty = ap (λ (o : Option Note). gone_step d.manner (is_tree d) (option_map (λ n. n.stamp) o)) noteless ∙ gone-none d.manner (is_tree d)

  pub done-reply : (options : Options) (s : Session) → options.stride ≡ 0 → IsBare d.manner → IsDoneReply options s d ok
  done-reply options s stride bare = (
    subst (λ (b : Bool). IsMark b d.manner (kept_note d) d.made.size marks.Plain) (sym (sampled-none d.manner (is_new d) (is_turn options s) bare (no-turn options s stride)))
        (sym (ap (λ (o : Option Note). mark_of o d.made.size) (ap (told_note d.manner) kept-empty ∙ told-none d.manner))),
    sym gone-empty,
  )

-- ---- the answer
-- what is no `ok` on byte strings
abbrev pub IsOther : Reply → Type 0
IsOther (replies.Done _ _) = ⊥
IsOther _ = Unit {0}

by-bytes : (Report : Type 0) (options : Options) (s : Session) (d : Option Doing) (r : Reply) → IsOther r → IsByteAnswer {Report = Report} options s d r (Told r)
by-bytes Report options s None r other = refl
by-bytes Report options s (Some d) (replies.Done _ _) other = absurd other
by-bytes Report options s (Some d) _ other = refl

stays-told : (Report : Type 0) (s : Session) (o : Outcome) (d : Option Doing) (r : Reply) → IsOther r → after_doing {Report = Report} s o d (Told r) ≡ s
stays-told Report s o None r other = refl
stays-told Report s o (Some d) (replies.Done _ _) other = absurd other
stays-told Report s o (Some d) _ other = refl

module _ {Report : Type 0} (choice : Bool) (options : Options) (p : ℕ) (s : Session) (cells : Cells) (command : Command) (o : Outcome) (oe : outcome (plain_names s.names) command ≡ Some o) where
  does : (answer : Answer Report) → command_effect choice p s cells command (outcome (plain_names s.names) command) answer ≡ left (after_doing s o (doing choice s.names command) answer) cells
  does answer = ap (λ (z : Option Outcome). command_effect choice p s cells command z answer) oe

  -- a question, or a refusal as on byte strings
  pub told-step : (r : Reply) → o.reply ≡ r → IsOther r → IsStep {Report = Report} options p s cells (Plain command) (Told r) (left s cells)
  told-step r re other = record {
    choice = choice;
    answered = subst (λ (z : Option Outcome). IsCommandAnswer {Report = Report} choice options s cells command z (Told r)) (sym oe)
        (subst (λ (z : Reply). IsByteAnswer {Report = Report} options s (doing choice s.names command) z (Told r)) (sym re) (by-bytes Report options s (doing choice s.names command) r other));
    done = ap (λ (z : Session). left z cells) (sym (stays-told Report s o (doing choice s.names command) r other)) ∙ sym (does (Told r));
  }

  module _ (d : Doing) (de : doing choice s.names command ≡ Some d) (re : o.reply ≡ ok) where
    may : (answer : Answer Report) → IsDoneAnswer options s d answer → IsCommandAnswer {Report = Report} choice options s cells command (outcome (plain_names s.names) command) answer
    may answer is = subst (λ (z : Option Outcome). IsCommandAnswer {Report = Report} choice options s cells command z answer) (sym oe)
        (subst (λ (z : Option Doing). IsByteAnswer {Report = Report} options s z o.reply answer) (sym de)
        (subst (λ (z : Reply). IsByteAnswer {Report = Report} options s (Some d) z answer) (sym re) is))

    came : (answer : Answer Report) → after_doing s o (doing choice s.names command) answer ≡ after_doing s o (Some d) answer
    came answer = ap (λ (z : Option Doing). after_doing s o z answer) de

    -- want of a height, a pass or a number
    pub height-step : NeedsHeight12 d.made → IsStep {Report = Report} options p s cells (Plain command) Height (left s cells)
    height-step high = record { choice = choice; answered = may Height high; done = ap (λ (z : Session). left z cells) (sym (came Height)) ∙ sym (does Height) }

    pub cords-step : (found : ℕ) → ¬ (NeedsHeight12 d.made) → IsTrue (needs_pass d) → options.passes ≤ found → IsStep {Report = Report} options p s cells (Plain command) (Cords found) (left s cells)
    cords-step found low needs limit = record { choice = choice; answered = may (Cords found) (low, needs, limit); done = ap (λ (z : Session). left z cells) (sym (came (Cords found))) ∙ sym (does (Cords found)) }

    pub pool-step : (size : ℕ) → ¬ (NeedsHeight12 d.made) → IsTrue (needs_numbers d) → size ≡ options.numbers → IsStep {Report = Report} options p s cells (Plain command) (Pool size) (left s cells)
    pool-step size low needs all = record { choice = choice; answered = may (Pool size) (low, needs, all); done = ap (λ (z : Session). left z cells) (sym (came (Pool size))) ∙ sym (does (Pool size)) }

    -- the name has the cord x
    pub done-step : options.stride ≡ 0 → IsBare d.manner → note_in d.old ≡ None → ¬ (NeedsHeight12 d.made)
        → ((a : List ℕ) (c : Cord) → s.names a ≡ Some c → IsCord c) → IsWithin (Plain command)
        → (c : CordState) (x : Cord) → o.names d.name ≡ Some c → c.bytes ≡ x.bytes → d.made.tree ≡ x.shape → x.sum ≡ sum_of x.shape → x.note ≡ None
        → IsStep {Report = Report} options p s cells (Plain command) (Told ok) (left (record s { names = naming s.names d.name (Some x); trees = s.trees + (if is_new d then 1 else 0) }) cells)
    done-step stride bare noteless low all within c x on bytes shape sum note =
        let made : Made d.made c = subst (λ (z : Reply). WhenDone z ((c : CordState) → o.names d.name ≡ Some c → Made d.made c)) re
        (subst (λ (z : Option Doing). IsMade (Some o) z) de (subst (λ (z : Option Outcome). IsMade z (doing choice s.names command)) oe (makes choice s.names all command within))) c on in
        let same : cord_with d marks.Plain c ≡ x = λ i. record {
          bytes = bytes i;
          sum = (made.sum ∙ (ap sum_of shape ∙ sym sum)) i;
          shape = shape i;
          note = (kept-empty d noteless ∙ sym note) i;
        } in
        record {
          choice = choice;
          answered = may (Told ok) (low, done-reply d noteless options s stride bare);
          done = ap (λ (z : Option Cord). left (record s { names = naming s.names d.name z; trees = s.trees + (if is_new d then 1 else 0) }) cells) (sym (ap (λ (z : Option CordState). option_map (cord_with d marks.Plain) z) on ∙ ap (λ (z : Cord). Some z) same))
              ∙ (ap (λ (z : Reply). left (after_doing {Report = Report} s o (Some d) (Told ok)) cells) re
              ∙ (ap (λ (z : Session). left z cells) (sym (came (Told ok))) ∙ sym (does (Told ok))));
        }
