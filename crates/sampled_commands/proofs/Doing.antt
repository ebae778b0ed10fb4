-- What was done to names is the plain step over trees.
use Rattle.std.proofs.Common.{◌≡◌, ◌∙◌, sym, ap, subst, ℕ, ◌+◌, ◌≤◌, [], length, Option, Some, Bool, Result, Ok, Err, arith}
use Rattle.std.specs.Prelude.{◌&&◌, ◌%◌, nat_lt, nat_eq, if◌then◌else◌, IfOk, IfErr, IsTrue}
use Rattle.std.specs.declared.alloc.AllocError.{AllocError}
use Rattle.plain_cord.specs.declared.reply.NewMark.{NewMark}
use Rattle.plain_cord.specs.declared.reply.Reply.{Reply}
use Rattle.plain_cord.specs.declared.reply.Reply.TheVariants as replies
use Rattle.plain_cord.specs.declared.script.Command.{Command}
use Rattle.plain_cord.specs.States.{CordState}
use Rattle.tree_shapes.specs.Cords.{NeedsHeight12}
use Rattle.pool_rule.specs.Gains.{SawAll}
use Rattle.pool_rule.specs.Views.{View}
use Rattle.ordered_names.specs.declared.names.Names.{Names}
use Rattle.ordered_names.specs.Named.{named}
use Rattle.cord_value.specs.Refusals.{IsBalanced}
use Rattle.cord_value.specs.declared.refusals.CordError.{CordError}
use Rattle.cord_value.specs.declared.refusals.CordError.TheVariants as errors
use Rattle.cord_value.specs.Views.{cord_shape}
use Rattle.cord_sampled.specs.declared.mark.Mark.{Mark}
use Rattle.cord_sampled.specs.Making.{turn_after}
use Rattle.cord_steps.specs.Answers.{Plain}
use Rattle.cord_steps.specs.Cords.{naming}
use Rattle.cord_steps.specs.Cords as steps
use Rattle.cord_steps.specs.Doings.{Doing}
use Rattle.cord_steps.specs.Marks.{is_new, is_turn, sampled_step, kept_note, needs_pass, needs_numbers, IsMark}
use Rattle.cord_steps.specs.Sessions.{Options, Session}
use Rattle.cord_steps.specs.Steps.{IsDoneReply}
use Rattle.cord_steps.specs.Whole.{IsWithin}
use Rattle.sampled_commands.specs.declared.answer.Answer.{Answer}
use Rattle.sampled_commands.specs.declared.answer.Answer.TheVariants.{Told, Releasers, Height, Cords, Pool}
use Rattle.sampled_commands.specs.Accounts.{Seen}
use Rattle.sampled_commands.specs.Answers.{ok_with, new_mark, told_by, refusal_of}
use Rattle.sampled_commands.specs.Does.{AreFor, IsAt, IsCause, StepsTo, Does}
use Rattle.sampled_commands.specs.Leaving.{stamp_gone}
use Rattle.sampled_commands.specs.Setting.{IsSet}
use Rattle.sampled_commands.specs.Views.{SessionCordView, cord_in, names_of, AreSame, IsSetTo, IsWhole, AreWhole}
use Rattle.sampled_commands.proofs.Comings.{ComesTo, Answers, comes-done, answers-told, comes-height, comes-cords, comes-pool}
use Rattle.sampled_commands.proofs.Marks.{IsMarkedAs}
use Rattle.sampled_commands.proofs.Stepping.{IsOther}
use Rattle.sampled_commands.proofs.Whole.{AreCords, are-cords, same-names, set-naming, whole-cord, whole-same, whole-set}

-- ---- the mark
pub turn-at : (options : Options) (size limit stride : ℕ) (s : Session) (have : Names SessionCordView) (v : Seen) → AreFor options size limit stride → IsAt s have v → turn_after stride v.made ≡ is_turn options s
turn-at options size limit stride s have v for at = λ i. nat_lt 0 (sym for.stride i) && nat_eq ((sym at.trees i + 1) % sym for.stride i) 0

pub done-reply : (options : Options) (size limit stride : ℕ) (s : Session) (have : Names SessionCordView) (v : Seen) → AreFor options size limit stride → IsAt s have v → (d : Doing) (sample : _) (mark : NewMark) (lost : Option ℕ)
    → IsMarkedAs stride v.made d sample mark lost → IsDoneReply options s d (replies.Done mark lost)
done-reply options size limit stride s have v for at d sample mark lost is = (
  subst (λ (b : Bool). IsMark (sampled_step d.manner (is_new d && b)) d.manner (kept_note d) d.made.size mark) (turn-at options size limit stride s have v for at) is.told,
  is.gone,
)

-- ---- the step
-- a session with these names in the place of its own
module _ (size limit stride : ℕ) (old new : Names SessionCordView) (v w : Seen) (command : Command) where
  -- the name is set
  pub does-set : (choice : Bool) (d : Doing) (s : CordState) (c : SessionCordView) (mark : NewMark) (lost : Option ℕ) → (AreWhole old → ComesTo choice (names_of old) command d s) → IsWithin (Plain command)
      → IsSetTo old new d.name c → (AreWhole old → IsWhole c) → s.bytes ≡ c.cord.bytes → d.made.tree ≡ (cord_shape c.cord).tree → (AreWhole old → IsMarkedAs stride v.made d c.sample mark lost)
      → w.made ≡ v.made + (if is_new d then 1 else 0) → w.worker.unused ≡ v.worker.unused → Does size limit stride old new v w (Plain command) (ok_with mark lost)
  does-set choice d s c mark lost k within set whole bytes shape marked made unused = record {
    whole = λ all. whole-set old new d.name c set (whole all) all;
    externals = 0;
    used = omega (arith, ap length unused);
    step = λ options p x for at all.
        let here : AreCords x.names = subst AreCords (sym at.names) (are-cords old all) in
        let comes : ComesTo choice x.names command d s = subst (λ z. ComesTo choice z command d s) (sym at.names) (k all) in
        let names : naming x.names d.name (Some (cord_in c)) ≡ names_of new = ap (λ z. naming z d.name (Some (cord_in c))) at.names ∙ set-naming old new d.name c set in
        let trees : x.trees + (if is_new d then 1 else 0) ≡ w.made = ap (λ n. n + (if is_new d then 1 else 0)) at.trees ∙ sym made in
        subst (λ (z : steps.Names). StepsTo options p x (Plain command) (told_by (ok_with mark lost)) z w.made (x.externals + 0)) names
        (subst (λ (n : ℕ). StepsTo options p x (Plain command) (told_by (ok_with mark lost)) (naming x.names d.name (Some (cord_in c))) n (x.externals + 0)) trees
        (subst (λ (n : ℕ). StepsTo options p x (Plain command) (told_by (ok_with mark lost)) (naming x.names d.name (Some (cord_in c))) (x.trees + (if is_new d then 1 else 0)) n) (omega arith)
        (comes-done choice options p x command d s comes mark lost (done-reply options size limit stride x old v for at d c.sample mark lost (marked all)) here within (cord_in c)
        (whole-cord c (whole all)) bytes shape (marked all).noted)));
    cause = tt;
  }

  -- a question, or a refusal as on byte strings
  pub does-told : (choice : Bool) (r : Reply) → (AreWhole old → Answers (names_of old) command r) → IsOther r → AreSame old new → w.made ≡ v.made → w.worker.unused ≡ v.worker.unused
      → Does size limit stride old new v w (Plain command) (Told r)
  does-told choice r k other same made unused = record {
    whole = whole-same old new same;
    externals = 0;
    used = omega (arith, ap length unused);
    step = λ options p x for at all.
        let answers : Answers x.names command r = subst (λ z. Answers z command r) (sym at.names) (k all) in
        subst (λ (z : steps.Names). StepsTo options p x (Plain command) (told_by (Told r)) z w.made (x.externals + 0)) (at.names ∙ same-names old new same)
        (subst (λ (n : ℕ). StepsTo options p x (Plain command) (told_by (Told r)) x.names n (x.externals + 0)) (at.trees ∙ sym made)
        (subst (λ (n : ℕ). StepsTo options p x (Plain command) (told_by (Told r)) x.names x.trees n) (omega arith)
        (answers-told choice options p x command r answers other)));
    cause = tt;
  }

-- ---- refusals
-- why a doing is refused: the height first, then want of a pass and of a number
abbrev pub Refuses : ℕ → ℕ → Doing → CordError → Type 0
Refuses size limit d (errors.HeightLimit height) = NeedsHeight12 d.made
Refuses size limit d (errors.PassLimit n) = ¬ (NeedsHeight12 d.made) × IsTrue (needs_pass d) × (limit ≤ n)
Refuses size limit d (errors.NoNumber seen) = ¬ (NeedsHeight12 d.made) × IsTrue (needs_numbers d) × (seen ≡ size)
Refuses size limit d errors.Memory = Unit {0}
Refuses size limit d _ = ⊥

-- and what was seen
abbrev pub Shows : ℕ → CordError → View → View → Type 0
Shows size (errors.NoNumber seen) v w = (seen ≡ size) × SawAll size v w
Shows size (errors.NoReleaser used) v w = v.unused ≡ []
Shows size _ v w = Unit {0}

-- a counted step found the limit reached, and nothing else was done
abbrev pub ShowsLimit : ℕ → CordError → View → View → Type 0
ShowsLimit limit (errors.PassLimit found) v w = IsBalanced limit (errors.PassLimit found) v w
ShowsLimit limit _ v w = Unit {0}

pub balanced-shows : (limit : ℕ) (x : CordError) (v w : View) → IsBalanced limit x v w → ShowsLimit limit x v w
balanced-shows limit (errors.PassLimit found) v w balanced = balanced
balanced-shows limit x v w balanced = tt

pub some-answer : (x y : Answer) → (let o : Option Answer = Some x in let p : Option Answer = Some y in o ≡ p) → x ≡ y
some-answer x y e = cc

module _ (size limit stride : ℕ) (old new : Names SessionCordView) (v w : Seen) (command : Command) (choice : Bool) (d : Doing) (s : CordState) (k : AreWhole old → ComesTo choice (names_of old) command d s)
    (same : AreSame old new) (made : w.made ≡ v.made) (unused : w.worker.unused ≡ v.worker.unused) where
  comes-at : (x : Session) → AreWhole old → IsAt x old v → ComesTo choice x.names command d s
  comes-at x all at = subst (λ z. ComesTo choice z command d s) (sym at.names) (k all)

  stays-at : (answer : Answer) (x : Session) (options : Options) (p : ℕ) → IsAt x old v → StepsTo options p x (Plain command) (told_by answer) x.names x.trees x.externals
      → StepsTo options p x (Plain command) (told_by answer) (names_of new) w.made (x.externals + 0)
  stays-at answer x options p at t = subst (λ (z : steps.Names). StepsTo options p x (Plain command) (told_by answer) z w.made (x.externals + 0)) (at.names ∙ same-names old new same)
      (subst (λ (n : ℕ). StepsTo options p x (Plain command) (told_by answer) x.names n (x.externals + 0)) (at.trees ∙ sym made)
      (subst (λ (n : ℕ). StepsTo options p x (Plain command) (told_by answer) x.names x.trees n) (omega arith) t))

  -- no such refusal comes
  never : (told answer : Answer) → Some answer ≡ Some told → (AreWhole old → ⊥) → IsCause size limit v.worker w.worker told → Does size limit stride old new v w (Plain command) answer
  never told answer is none cause = subst (Does size limit stride old new v w (Plain command)) (some-answer told answer (sym is)) (record {
    whole = whole-same old new same;
    externals = 0;
    used = omega (arith, ap length unused);
    step = λ options p x for at all. absurd (none all);
    cause = cause;
  })

  pub refused-does : (x : CordError) (answer : Answer) → (AreWhole old → Refuses size limit d x) → Shows size x v.worker w.worker → ShowsLimit limit x v.worker w.worker
      → Some answer ≡ refusal_of x → Does size limit stride old new v w (Plain command) answer
  refused-does (errors.HeightLimit height) answer why shows balanced is = subst (Does size limit stride old new v w (Plain command)) (some-answer Height answer (sym is)) (record {
    whole = whole-same old new same;
    externals = 0;
    used = omega (arith, ap length unused);
    step = λ options p x for at all. stays-at Height x options p at (comes-height choice options p x command d s (comes-at x all at) (why all));
    cause = tt;
  })
  refused-does (errors.PassLimit n) answer why shows balanced is = subst (Does size limit stride old new v w (Plain command)) (some-answer (Cords n) answer (sym is)) (record {
    whole = whole-same old new same;
    externals = 0;
    used = omega (arith, ap length unused);
    step = λ options p x for at all.
        stays-at (Cords n) x options p at (comes-cords choice options p x command d s (comes-at x all at) n (why all).0 (why all).1 (omega (arith, for.passes, (why all).2)));
    cause = balanced;
  })
  refused-does (errors.NoNumber seen) answer why shows balanced is = subst (Does size limit stride old new v w (Plain command)) (some-answer (Pool seen) answer (sym is)) (record {
    whole = whole-same old new same;
    externals = 0;
    used = omega (arith, ap length unused);
    step = λ options p x for at all.
        stays-at (Pool seen) x options p at (comes-pool choice options p x command d s (comes-at x all at) seen (why all).0 (why all).1 ((why all).2 ∙ sym for.numbers));
    cause = shows;
  })
  refused-does errors.Memory answer why shows balanced is = cc
  refused-does (errors.Position asked end) answer why shows balanced is = never (Told (replies.Position asked end)) answer is (λ all. why all) tt
  refused-does (errors.LengthLimit asked) answer why shows balanced is = never (Told (replies.Length asked)) answer is (λ all. why all) tt
  refused-does (errors.NoReleaser used) answer why shows balanced is = never Releasers answer is (λ all. why all) shows

-- a name is set to a cord that was made, or none was made
pub made-does : (size limit stride : ℕ) (old new : Names SessionCordView) (v m w : Seen) (command : Command) (choice : Bool) (d : Doing) (s : CordState)
    → (AreWhole old → ComesTo choice (names_of old) command d s) → IsWithin (Plain command) → (r : Result (SessionCordView × Mark) CordError) (res : Result Answer AllocError)
    → (AreWhole old → IfOk r (λ c. IsWhole c.0)) → IfOk r (λ c. s.bytes ≡ c.0.cord.bytes) → IfOk r (λ c. d.made.tree ≡ (cord_shape c.0.cord).tree)
    → (AreWhole old → IfOk r (λ c. IsMarkedAs stride v.made d c.0.sample (new_mark c.1) (stamp_gone (named old d.name)))) → IfOk r (λ _. w.made ≡ v.made + (if is_new d then 1 else 0))
    → (AreWhole old → IfErr r (λ x. Refuses size limit d x)) → IfErr r (λ x. Shows size x v.worker m.worker) → IfErr r (λ x. IsBalanced limit x v.worker m.worker)
    → IfErr r (λ x. w.worker ≡ m.worker) → IfErr r (λ x. w.made ≡ v.made) → w.worker.unused ≡ v.worker.unused
    → IfOk res (λ answer. IsSet old new d.name r answer) → IfOk res (λ answer. Does size limit stride old new v w (Plain command) answer)
made-does size limit stride old new v m w command choice d s k within r (Err e) whole bytes shape marked made why shows balanced stays unmade unused set = tt
made-does size limit stride old new v m w command choice d s k within (Ok c) (Ok answer) whole bytes shape marked made why shows balanced stays unmade unused set =
    subst (Does size limit stride old new v w (Plain command)) (sym set.1)
    (does-set size limit stride old new v w command choice d s c.0 (new_mark c.1) (stamp_gone (named old d.name)) k within set.0 whole bytes shape marked made unused)
made-does size limit stride old new v m w command choice d s k within (Err x) (Ok answer) whole bytes shape marked made why shows balanced stays unmade unused set =
    refused-does size limit stride old new v w command choice d s k set.0 unmade unused x answer why
    (subst (λ (z : View). Shows size x v.worker z) (sym stays) shows) (subst (λ (z : View). ShowsLimit limit x v.worker z) (sym stays) (balanced-shows limit x v.worker m.worker balanced)) set.1
