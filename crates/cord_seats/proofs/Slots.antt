-- Workers that use no releaser slot, and the externals of commands one after another.
use Rattle.std.proofs.Common.{◌≡◌, ◌∙◌, sym, ap, refl, ℕ, List, [], ◌∷◌, ◌++◌, length, map, subst, Some, Result, Ok, Err, append-nil, append_assoc, arith}
use Rattle.std.specs.Prelude.{IfOk}
use Rattle.plain_cord.specs.declared.history.Act.{Act}
use Rattle.plain_cord.specs.declared.script.Command.{Command}
use Rattle.plain_cord.specs.declared.script.Command.TheVariants as commands
use Rattle.plain_cord.specs.Outcomes.{asked_action}
use Rattle.pool_rule.specs.Notes.{Use}
use Rattle.pool_rule.specs.Views.{View}
use Rattle.cord_commands.specs.declared.answer.Answer.{Answer}
use Rattle.cord_commands.specs.declared.answer.Answer.TheVariants.{Told, Releasers, Height, Cords, Pool}
use Rattle.cord_commands.specs.Accounts.{IsSteady}
use Rattle.cord_commands.specs.Slots.{lengths_in, external_by, SameSlots, Uses}
use Rattle.cord_commands.proofs.Steady.{steady-unused}
use Rattle.cord_seats.specs.Told.{externals_by}
use Rattle.cord_seats.specs.Working.{IsIdle}

pub steady-idle : (v w : View) (a b : ℕ) → IsSteady v w a b → IsIdle v w
steady-idle v w a b s = record {
  used = ap (λ (z : View). z.used) s.grew.is ∙ (ap (λ (us : List Use). v.used ++ us) s.idle ∙ append-nil v.used);
  unused = steady-unused v w a b s;
}

pub idle-same : (v w : View) → w ≡ v → IsIdle v w
idle-same v w e = record { used = ap (λ (z : View). z.used) e; unused = ap (λ (z : View). z.unused) e }

pub idle-then : (u v w : View) → IsIdle u v → IsIdle v w → IsIdle u w
idle-then u v w one two = record { used = two.used ∙ one.used; unused = two.unused ∙ one.unused }

pub idle-slots : (v w : View) → IsIdle v w → SameSlots v w
idle-slots v w s = λ i. map (λ (u : Use). u.slot) (s.used i) ++ s.unused i

pub idle-uses : (v w : View) → IsIdle v w → Uses v w []
idle-uses v w s = record { slots = idle-slots v w s; made = ap (map (λ (u : Use). u.length)) s.used ∙ sym (append-nil (lengths_in v)) }

pub uses-then : (u v w : View) (xs ys : List ℕ) → Uses u v xs → Uses v w ys → Uses u w (xs ++ ys)
uses-then u v w xs ys one two = record {
  slots = two.slots ∙ one.slots;
  made = two.made ∙ (ap (λ (ls : List ℕ). ls ++ ys) one.made ∙ append_assoc (lengths_in u) xs ys);
}

-- a worker that is idle afterwards
pub uses-idle : (u v w : View) (xs : List ℕ) → Uses u v xs → IsIdle v w → Uses u w xs
uses-idle u v w xs one two = record { slots = idle-slots v w two ∙ one.slots; made = ap (map (λ (u : Use). u.length)) two.used ∙ one.made }

-- a command on a cell makes no external
pub no-external : (command : Command) (asked : Act × ℕ) (answer : Answer) → asked_action command ≡ Some asked → external_by command answer ≡ []
no-external (commands.Ext a text) asked answer is = cc
no-external _ asked (Told reply) is = refl
no-external _ asked Releasers is = refl
no-external _ asked Height is = refl
no-external _ asked (Cords found) is = refl
no-external _ asked (Pool size) is = refl

pub cell-uses : {E : Type 0} (v w : View) (command : Command) (asked : Act × ℕ) (r : Result Answer E) → asked_action command ≡ Some asked → IsIdle v w
    → IfOk r (λ answer. Uses v w (external_by command answer))
cell-uses v w command asked (Ok answer) is idle = subst (Uses v w) (sym (no-external command asked answer is)) (idle-uses v w idle)
cell-uses v w command asked (Err e) is idle = tt

-- one command more
pub externals-more : (said : List Command) (answers : List Answer) (command : Command) (answer : Answer) → length answers ≡ length said
    → externals_by (said ++ command ∷ []) (answers ++ answer ∷ []) ≡ externals_by said answers ++ external_by command answer
externals-more [] [] command answer even = append-nil (external_by command answer)
externals-more [] (x ∷ answers) command answer even = absurd (omega arith)
externals-more (c ∷ said) [] command answer even = absurd (omega arith)
externals-more (c ∷ said) (x ∷ answers) command answer even =
    ap (λ (ls : List ℕ). external_by c x ++ ls) (externals-more said answers command answer (omega arith))
    ∙ sym (append_assoc (external_by c x) (externals_by said answers) (external_by command answer))
