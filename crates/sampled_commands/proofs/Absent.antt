-- Names that were never set, and names that are set from others that are the same.
use Rattle.std.proofs.Common.{◌≡◌, ◌∙◌, sym, ap, subst, refl, ℕ, List, Some, None, false, Result, Ok, Err}
use Rattle.std.specs.Prelude.{IfOk}
use Rattle.std.specs.declared.alloc.AllocError.{AllocError}
use Rattle.plain_cord.specs.declared.reply.Reply.TheVariants as replies
use Rattle.plain_cord.specs.declared.script.Command.{Command}
use Rattle.plain_cord.specs.States.{CordState}
use Rattle.plain_cord.specs.Outcomes.{Outcome, outcome, with_cord}
use Rattle.ordered_names.specs.declared.names.Names.{Names}
use Rattle.ordered_names.specs.Named.{named}
use Rattle.cord_value.specs.declared.refusals.CordError.{CordError}
use Rattle.cord_sampled.specs.declared.mark.Mark.{Mark}
use Rattle.cord_steps.specs.Answers.{Plain}
use Rattle.cord_steps.specs.Cords.{plain_names}
use Rattle.sampled_commands.specs.declared.answer.Answer.{Answer}
use Rattle.sampled_commands.specs.declared.answer.Answer.TheVariants.{Told}
use Rattle.sampled_commands.specs.Accounts.{Seen}
use Rattle.sampled_commands.specs.Answers.{ok_with, new_mark}
use Rattle.sampled_commands.specs.Does.{Does}
use Rattle.sampled_commands.specs.Leaving.{stamp_gone}
use Rattle.sampled_commands.specs.Setting.{IsSet}
use Rattle.sampled_commands.specs.Views.{SessionCordView, names_of, AreSame}
use Rattle.sampled_commands.proofs.Comings.{Answers, unset-answers}
use Rattle.sampled_commands.proofs.Doing.{does-told}
use Rattle.sampled_commands.proofs.Renaming.{same-then, same-set}
use Rattle.sampled_commands.proofs.Whole.{none-in}

pub told-does : (size limit stride : ℕ) (old new : Names SessionCordView) (w : Seen) (command : Command) (a : List ℕ) → Answers (names_of old) command (replies.Unset a) → AreSame old new → (res : Result Answer AllocError)
    → IfOk res (λ answer. answer ≡ Told (replies.Unset a)) → IfOk res (λ answer. Does size limit stride old new w w (Plain command) answer)
told-does size limit stride old new w command a k same (Ok answer) is = subst (Does size limit stride old new w w (Plain command)) (sym is) (does-told size limit stride old new w w command false (replies.Unset a) (λ all. k) tt same refl refl)
told-does size limit stride old new w command a k same (Err e) is = tt

pub unset-does : (size limit stride : ℕ) (old new : Names SessionCordView) (w : Seen) (command : Command) (a : List ℕ) (go : CordState → Outcome) → outcome (plain_names (names_of old)) command ≡ Some (with_cord (plain_names (names_of old)) a go) → named old a ≡ None → AreSame old new
    → (res : Result Answer AllocError) → IfOk res (λ answer. answer ≡ Told (replies.Unset a)) → IfOk res (λ answer. Does size limit stride old new w w (Plain command) answer)
unset-does size limit stride old new w command a go is none same res told = told-does size limit stride old new w command a (unset-answers (names_of old) command a go is (none-in old a none)) same res told

pub set-from : (old mid new : Names SessionCordView) (a : List ℕ) (r : Result (SessionCordView × Mark) CordError) (answer : Answer) → AreSame old mid → IsSet mid new a r answer → IsSet old new a r answer
set-from old mid new a (Ok c) answer same set = (same-set old mid new a c.0 same set.0, set.1 ∙ ap (λ o. ok_with (new_mark c.1) (stamp_gone o)) (same a))
set-from old mid new a (Err x) answer same set = (same-then old mid new same set.0, set.1)
