-- What `ext` comes to: the session has no box left, or an external was made, or refused.
use Rattle.std.proofs.Common.{◌≡◌, ◌∙◌, sym, ap, subst, refl, ℕ, ◌+◌, ◌≤◌, List, [], ◌∷◌, length, drop, Some, true, false, Result, Ok, Err, arith}
use Rattle.std.specs.Prelude.{IfOk, IfErr}
use Rattle.std.specs.declared.alloc.AllocError.{AllocError}
use Rattle.std.proofs.lemmas.Bool.{le-leb, lt-leb}
use Rattle.plain_cord.specs.Texts.{text_bytes}
use Rattle.plain_cord.specs.declared.script.Command.TheVariants as commands
use Rattle.plain_cord.specs.declared.script.Text.{Text}
use Rattle.plain_cord.specs.declared.reply.Reply.TheVariants as replies
use Rattle.tree_shapes.specs.Cords.{CordShape, cord_of_external, sum_of}
use Rattle.pool_rule.specs.Views.{View}
use Rattle.ordered_names.specs.declared.names.Names.{Names}
use Rattle.cord_value.specs.Externals.{IsExternalMade, IsExternalRefused}
use Rattle.cord_value.specs.Refusals.{IsBalanced}
use Rattle.cord_value.specs.Views.{CordView, IsTreeOf, cord_shape, passes_of, root_number}
use Rattle.cord_value.specs.declared.refusals.CordError.{CordError}
use Rattle.cord_value.specs.declared.refusals.CordError.TheVariants as errors
use Rattle.cord_steps.specs.Answers.{External}
use Rattle.cord_steps.specs.Cords.{naming}
use Rattle.cord_steps.specs.Cords as steps
use Rattle.cord_steps.specs.Sessions.{Options, Session}
use Rattle.cord_steps.specs.Steps.{has_box}
use Rattle.cord_commands.specs.declared.answer.Answer.{Answer}
use Rattle.cord_commands.specs.declared.answer.Answer.TheVariants.{Told, Releasers, Height, Cords, Pool}
use Rattle.cord_commands.specs.Accounts.{trees_of, trees_made, AddsUp, IsSteady}
use Rattle.cord_commands.specs.Answers.{ok, told_by, refusal_of, IsSet}
use Rattle.cord_commands.specs.Bare.{AreBare, StepsTo}
use Rattle.cord_commands.specs.Does.{NoReport, AreFor, IsAt, IsCause, Does}
use Rattle.cord_commands.specs.Slots.{external_by, SameSlots, Uses}
use Rattle.cord_commands.specs.Views.{cord_in, names_of, AreSame, IsSetTo}
use Rattle.cord_commands.proofs.Comings.{external-none, external-done, external-height, external-cords, external-pool}
use Rattle.cord_commands.proofs.Doing.{are-bare, bare-cord, set-naming, same-names, formed-same, formed-set, some-answer}
use Rattle.cord_commands.proofs.Slotted.{steady-even, steady-slots, steady-uses, external-slots, external-uses, external-unused, external-then, slots-then, uses-then}
use Rattle.cord_commands.proofs.Steady.{balanced-steady, made-then, steady-as, steady-unused}

-- ---- boxes
box-left : (s : Session) (have : Names CordView) (v : View) (j : ℕ) (later : List ℕ) → v.unused ≡ j ∷ later → IsAt s have v → has_box s ≡ true
box-left s have v j later e at = le-leb (s.externals + 1) s.boxes (let n = ap length e in omega (arith, at.boxes))

box-none : (s : Session) (have : Names CordView) (v : View) → v.unused ≡ [] → IsAt s have v → has_box s ≡ false
box-none s have v e at = lt-leb (s.externals + 1) s.boxes (let n = ap length e in omega (arith, at.boxes))

module _ (size limit : ℕ) (old new : Names CordView) (v w : View) (a : List ℕ) (text : Text) where
  -- ---- nothing is done
  module _ (same : AreSame old new) (unused : w.unused ≡ v.unused) where
    still : (answer : Answer) → ((options : Options) (p : ℕ) (s : Session) → AreFor options size limit → IsAt s old v
        → StepsTo {Report = NoReport} options p s (External a text) (told_by answer) s.names s.externals)
        → IsCause size limit v w answer → Does size limit old new v w (External a text) answer
    still answer stays cause = record {
      formed = formed-same old new same;
      externals = 0;
      used = omega (arith, ap length unused);
      step = λ options p s for at whole.
          subst (λ (z : steps.Names). StepsTo {Report = NoReport} options p s (External a text) (told_by answer) z (s.externals + 0)) (at.names ∙ same-names old new same)
          (subst (λ (n : ℕ). StepsTo {Report = NoReport} options p s (External a text) (told_by answer) s.names n) (omega arith) (stays options p s for at));
      cause = cause;
    }

    pub no-box-does : v.unused ≡ [] → Does size limit old new v w (External a text) Releasers
    no-box-does none = still Releasers (λ options p s for at. external-none options p s a text (box-none s old v none at)) none

    refused-as : (told answer : Answer) → Some answer ≡ Some told → Does size limit old new v w (External a text) told → Does size limit old new v w (External a text) answer
    refused-as told answer is does = subst (Does size limit old new v w (External a text)) (some-answer told answer (sym is)) does

    module _ (j : ℕ) (later : List ℕ) (left : v.unused ≡ j ∷ later) (short : length (text_bytes text) ≤ 2147483647) where
      pub external-refused : (x : CordError) (answer : Answer) → IsExternalRefused size limit (length (text_bytes text)) x v w → IsBalanced limit x v w → Some answer ≡ refusal_of x
          → Does size limit old new v w (External a text) answer
      external-refused (errors.NoReleaser used) answer why balanced told = refused-as Releasers answer told (no-box-does why.0)
      external-refused (errors.LengthLimit asked) answer why balanced told = absurd (omega (arith, short, why.1.0, why.1.1))
      external-refused (errors.HeightLimit height) answer why balanced told = refused-as Height answer told
          (still Height (λ options p s for at. external-height options p s a text (box-left s old v j later left at) why.1.2) tt)
      external-refused (errors.PassLimit found) answer why balanced told = refused-as (Cords found) answer told
          (still (Cords found) (λ options p s for at. external-cords options p s a text (box-left s old v j later left at) found why.1.0.1 why.1.2 (omega (arith, for.passes, why.1.3))) balanced)
      external-refused (errors.NoNumber seen) answer why balanced told = refused-as (Pool seen) answer told
          (still (Pool seen) (λ options p s for at. external-pool options p s a text (box-left s old v j later left at) seen why.1.0.1 why.1.1 (why.1.2 ∙ sym for.numbers)) (why.1.2, why.1.3))
      external-refused errors.Memory answer why balanced told = cc
      external-refused (errors.Position asked end) answer why balanced told = absurd why.1

  -- ---- an external was made
  pub external-set : (c : CordView) → IsSetTo old new a c → IsTreeOf c.bytes c.tree → c.bytes ≡ text_bytes text → cord_shape c ≡ cord_of_external (length (text_bytes text))
      → (j : ℕ) (later : List ℕ) → v.unused ≡ j ∷ later → w.unused ≡ drop 1 v.unused → Does size limit old new v w (External a text) ok
  external-set c set formed same shape j later left unused = record {
    formed = λ whole. formed-set old new a c set formed whole;
    externals = 1;
    used = (let m = ap length unused in let n = ap length left in let d = ap (λ (us : List ℕ). length (drop 1 us)) left in omega arith);
    step = λ options p s for at whole.
        let all : AreBare s.names = subst AreBare (sym at.names) (are-bare old whole) in
        let names : naming s.names a (Some (cord_in c)) ≡ names_of new = ap (λ z. naming z a (Some (cord_in c))) at.names ∙ set-naming old new a c set in
        subst (λ (z : steps.Names). StepsTo {Report = NoReport} options p s (External a text) (told_by ok) z (s.externals + 1)) names
        (external-done options p s a text (box-left s old v j later left at) for.stride all (cord_in c) (bare-cord c formed) (sym same) (sym (ap (λ (z : CordShape). z.tree) shape))
        (ap (λ (z : CordShape). sum_of z.tree) shape));
    cause = tt;
  }

-- ---- a name is set to it
module _ (limit : ℕ) (v m w : View) (j : ℕ) (later : List ℕ) (left : v.unused ≡ j ∷ later) (n t b : ℕ) (r : Result CordView CordError) (second : IsSteady m w (t + trees_made r) b)
    (made : IfOk r (λ c. IsExternalMade limit n (root_number c.tree) v m)) (balanced : IfErr r (λ x. IsBalanced limit x v m)) where
  pub external-even : IfOk r (λ c. passes_of c.tree ≡ 1) → AddsUp v w t b
  external-even one = go r second made balanced one
    where
      go : (r : Result CordView CordError) → IsSteady m w (t + trees_made r) b → IfOk r (λ c. IsExternalMade limit n (root_number c.tree) v m) → IfErr r (λ x. IsBalanced limit x v m)
          → IfOk r (λ c. passes_of c.tree ≡ 1) → AddsUp v w t b
      go (Ok c) s k l one = external-then limit n (root_number c.tree) v m w t b k (steady-as m w (t + trees_of c) b (t + 1) b (ap (λ z. t + z) one) refl s)
      go (Err x) s k l one = steady-even v w t b (made-then v m w t 0 b (balanced-steady limit x v m 0 l) s)

  pub external-same : SameSlots v w
  external-same = go r made balanced
    where
      go : (r : Result CordView CordError) → IfOk r (λ c. IsExternalMade limit n (root_number c.tree) v m) → IfErr r (λ x. IsBalanced limit x v m) → SameSlots v w
      go (Ok c) k l = slots-then v m w (external-slots limit n (root_number c.tree) v m j later left k) (steady-slots m w _ b second)
      go (Err x) k l = slots-then v m w (steady-slots v m 0 0 (balanced-steady limit x v m 0 l)) (steady-slots m w _ b second)

  -- its slot is used where it was made
  pub external-used : (old new : Names CordView) (a : List ℕ) (text : Text) → n ≡ length (text_bytes text) → (res : Result Answer AllocError) → IfOk res (λ answer. IsSet old new a r answer)
      → IfOk res (λ answer. Uses v w (external_by (commands.Ext a text) answer))
  external-used old new a text long res set = go r res made balanced set
    where
      by : List ℕ → Type 0
      by ns = Uses v w ns

      none-by : (told answer : Answer) → Some answer ≡ Some told → external_by (commands.Ext a text) told ≡ [] → external_by (commands.Ext a text) answer ≡ []
      none-by told answer is none = ap (external_by (commands.Ext a text)) (some-answer answer told is) ∙ none

      refused-by : (x : CordError) (answer : Answer) → Some answer ≡ refusal_of x → external_by (commands.Ext a text) answer ≡ []
      refused-by (errors.Position asked end) answer is = none-by (Told (replies.Position asked end)) answer is refl
      refused-by (errors.LengthLimit asked) answer is = none-by (Told (replies.Length asked)) answer is refl
      refused-by (errors.HeightLimit height) answer is = none-by Height answer is refl
      refused-by (errors.PassLimit found) answer is = none-by (Cords found) answer is refl
      refused-by (errors.NoNumber seen) answer is = none-by (Pool seen) answer is refl
      refused-by (errors.NoReleaser used) answer is = none-by Releasers answer is refl
      refused-by errors.Memory answer is = cc

      go : (r : Result CordView CordError) (res : Result Answer AllocError) → IfOk r (λ c. IsExternalMade limit n (root_number c.tree) v m) → IfErr r (λ x. IsBalanced limit x v m)
          → IfOk res (λ answer. IsSet old new a r answer)
          → IfOk res (λ answer. Uses v w (external_by (commands.Ext a text) answer))
      go r (Err e) k l set = tt
      go (Ok c) (Ok answer) k l set =
          subst by (ap (λ z. z ∷ []) long ∙ ap (external_by (commands.Ext a text)) (sym set.1))
          (uses-then v m w (n ∷ []) [] (external-uses limit n (root_number c.tree) v m j later left k) (steady-uses m w _ b second))
      go (Err x) (Ok answer) k l set = subst by (sym (refused-by x answer set.1)) (uses-then v m w [] [] (steady-uses v m 0 0 (balanced-steady limit x v m 0 l)) (steady-uses m w _ b second))

-- the answer of `ext` where the session had a box
pub external-does : (size limit : ℕ) (old new : Names CordView) (v m w : View) (a : List ℕ) (text : Text) (bytes : List ℕ) → bytes ≡ text_bytes text → (j : ℕ) (later : List ℕ)
    → v.unused ≡ j ∷ later → length bytes ≤ 2147483647
    → (r : Result CordView CordError) (res : Result Answer AllocError) → IfOk r (λ c. c.bytes ≡ bytes) → IfOk r (λ c. IsTreeOf c.bytes c.tree)
    → IfOk r (λ c. cord_shape c ≡ cord_of_external (length bytes))
    → IfOk r (λ c. IsExternalMade limit (length bytes) (root_number c.tree) v m) → IfErr r (λ x. IsExternalRefused size limit (length bytes) x v m) → IfErr r (λ x. IsBalanced limit x v m)
    → IfErr r (λ x. w ≡ m)
    → w.unused ≡ m.unused → IfOk res (λ answer. IsSet old new a r answer) → IfOk res (λ answer. Does size limit old new v w (External a text) answer)
external-does size limit old new v m w a text bytes same j later left short r (Err e) is formed shape made refused balanced stays unused set = tt
external-does size limit old new v m w a text bytes same j later left short (Ok c) (Ok answer) is formed shape made refused balanced stays unused set =
    subst (Does size limit old new v w (External a text)) (sym set.1)
    (external-set size limit old new v w a text c set.0 formed (is ∙ same) (shape ∙ ap (λ (z : List ℕ). cord_of_external (length z)) same) j later left
    (unused ∙ external-unused limit (length bytes) (root_number c.tree) v m made))
external-does size limit old new v m w a text bytes same j later left short (Err x) (Ok answer) is formed shape made refused balanced stays unused set =
    external-refused size limit old new v w a text set.0 (unused ∙ steady-unused v m 0 0 (balanced-steady limit x v m 0 balanced)) j later left
    (subst (λ (z : List ℕ). length z ≤ 2147483647) same short) x answer
    (subst (λ (z : View). IsExternalRefused size limit (length (text_bytes text)) x v z) (sym stays) (subst (λ (z : List ℕ). IsExternalRefused size limit (length z) x v m) same refused))
    (subst (λ (z : View). IsBalanced limit x v z) (sym stays) balanced) set.1
