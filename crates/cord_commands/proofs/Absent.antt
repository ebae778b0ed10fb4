-- Names that were never set, and names that are set from others that are the same.
use Rattle.std.proofs.Common.{◌≡◌, sym, subst, refl, ℕ, List, length, Some, None, false, Result, Ok, Err}
use Rattle.std.specs.Prelude.{IfOk}
use Rattle.std.specs.declared.alloc.AllocError.{AllocError}
use Rattle.node_forest.specs.declared.side.Side.TheVariants.{Front, Back}
use Rattle.plain_cord.specs.declared.reply.Reply.TheVariants as replies
use Rattle.plain_cord.specs.declared.script.Command.{Command}
use Rattle.plain_cord.specs.declared.script.Command.TheVariants as commands
use Rattle.plain_cord.specs.States.{CordState}
use Rattle.plain_cord.specs.Outcomes.{Outcome, outcome, with_cord}
use Rattle.pool_rule.specs.Views.{View}
use Rattle.ordered_names.specs.declared.names.Names.{Names}
use Rattle.ordered_names.specs.Named.{named}
use Rattle.cord_value.specs.Views.{CordView}
use Rattle.cord_value.specs.declared.refusals.CordError.{CordError}
use Rattle.cord_steps.specs.Answers.{Plain}
use Rattle.cord_steps.specs.Cords.{plain_names}
use Rattle.cord_commands.specs.declared.answer.Answer.{Answer}
use Rattle.cord_commands.specs.declared.answer.Answer.TheVariants.{Told}
use Rattle.cord_commands.specs.declared.edits.Edit.{Edit}
use Rattle.cord_commands.specs.declared.edits.Edit.TheVariants.{Add, Double, CutFront, CutBack, SetSum}
use Rattle.cord_commands.specs.Answers.{IsSet}
use Rattle.cord_commands.specs.Does.{Does}
use Rattle.cord_commands.specs.Edits.{command_of}
use Rattle.cord_commands.specs.Views.{cord_in, names_of, AreSame}
use Rattle.cord_commands.proofs.Comings.{Answers, unset-answers, sum-empty}
use Rattle.cord_commands.proofs.Doing.{are-bare, does-told, found-in, none-in}
use Rattle.cord_commands.proofs.Renaming.{same-then, same-set}

pub told-does : (size limit : ℕ) (old new : Names CordView) (w : View) (command : Command) (a : List ℕ) → Answers (names_of old) command (replies.Unset a) → AreSame old new → (res : Result Answer AllocError)
    → IfOk res (λ answer. answer ≡ Told (replies.Unset a)) → IfOk res (λ answer. Does size limit old new w w (Plain command) answer)
told-does size limit old new w command a k same (Ok answer) is = subst (Does size limit old new w w (Plain command)) (sym is) (does-told size limit old new w w command false (replies.Unset a) (λ whole. k) tt same refl)
told-does size limit old new w command a k same (Err e) is = tt

pub unset-does : (size limit : ℕ) (old new : Names CordView) (w : View) (command : Command) (a : List ℕ) (go : CordState → Outcome) → outcome (plain_names (names_of old)) command ≡ Some (with_cord (plain_names (names_of old)) a go) → named old a ≡ None → AreSame old new
    → (res : Result Answer AllocError) → IfOk res (λ answer. answer ≡ Told (replies.Unset a)) → IfOk res (λ answer. Does size limit old new w w (Plain command) answer)
unset-does size limit old new w command a go is none same res told = told-does size limit old new w command a (unset-answers (names_of old) command a go is (none-in old a none)) same res told

edit-answers : (old : Names CordView) (a : List ℕ) (by : Edit) → named old a ≡ None → Answers (names_of old) (command_of a by) (replies.Unset a)
edit-answers old a (Add text Front) none = unset-answers (names_of old) _ a _ refl (none-in old a none)
edit-answers old a (Add text Back) none = unset-answers (names_of old) _ a _ refl (none-in old a none)
edit-answers old a (Double Front) none = unset-answers (names_of old) _ a _ refl (none-in old a none)
edit-answers old a (Double Back) none = unset-answers (names_of old) _ a _ refl (none-in old a none)
edit-answers old a (CutFront n) none = unset-answers (names_of old) _ a _ refl (none-in old a none)
edit-answers old a (CutBack n) none = unset-answers (names_of old) _ a _ refl (none-in old a none)
edit-answers old a (SetSum value) none = unset-answers (names_of old) _ a _ refl (none-in old a none)

pub edit-unset : (size limit : ℕ) (old new : Names CordView) (w : View) (a : List ℕ) (by : Edit) → named old a ≡ None → AreSame old new → (res : Result Answer AllocError)
    → IfOk res (λ answer. answer ≡ Told (replies.Unset a)) → IfOk res (λ answer. Does size limit old new w w (Plain (command_of a by)) answer)
edit-unset size limit old new w a by none same res told = told-does size limit old new w (command_of a by) a (edit-answers old a by none) same res told

-- no sum is set on an empty cord
pub no-bytes-does : (size limit : ℕ) (old : Names CordView) (w : View) (a : List ℕ) (value : ℕ) (c : CordView) → named old a ≡ Some c → length c.bytes ≡ 0 → (answer : Answer)
    → answer ≡ Told replies.NoBytes
    → Does size limit old old w w (Plain (commands.SetSum a value)) answer
no-bytes-does size limit old w a value c is none answer told = subst (Does size limit old old w w (Plain (commands.SetSum a value))) (sym told)
    (does-told size limit old old w w (commands.SetSum a value) false replies.NoBytes
    (λ whole. sum-empty false (names_of old) (are-bare old whole) a value (cord_in c) (found-in old a c is) none) tt (λ q. refl) refl)

pub set-from : (old mid new : Names CordView) (a : List ℕ) (r : Result CordView CordError) (answer : Answer) → AreSame old mid → IsSet mid new a r answer → IsSet old new a r answer
set-from old mid new a (Ok c) answer same set = (same-set old mid new a c same set.0, set.1)
set-from old mid new a (Err x) answer same set = (same-then old mid new same set.0, set.1)
