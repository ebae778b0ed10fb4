-- Two names' cords joined, or refused, as the plain step over trees.
use Rattle.std.proofs.Common.{◌≡◌, ◌∙◌, sym, ap, subst, refl, ℕ, ◌<◌, ◌≤◌, List, length, Some, None, Bool, true, false, Result, Ok, Err, inl, inr, arith}
use Rattle.std.specs.Prelude.{IfOk, IfErr, OnErr}
use Rattle.std.specs.Str.{bytes_eq}
use Rattle.std.specs.declared.alloc.AllocError.{AllocError}
use Rattle.node_forest.specs.declared.side.Side.{Side}
use Rattle.node_forest.specs.declared.side.Side.TheVariants.{Front, Back}
use Rattle.plain_cord.specs.declared.reply.Reply.TheVariants as replies
use Rattle.plain_cord.specs.States.{changed}
use Rattle.tree_shapes.specs.Cords.{CordShape, IsCordAdded, with_cord_added}
use Rattle.tree_shapes.specs.Growth.{beside}
use Rattle.tree_shapes.proofs.KeepLaws.{if_false}
use Rattle.pool_rule.specs.Views.{View}
use Rattle.ordered_names.specs.declared.names.Names.{Names}
use Rattle.ordered_names.specs.Named.{named}
use Rattle.cord_value.specs.Changes.{IsRefused}
use Rattle.cord_value.specs.Refusals.{IsBalanced}
use Rattle.cord_value.specs.declared.refusals.CordError.{CordError}
use Rattle.cord_value.specs.Views.{CordView, IsTreeOf, cord_shape}
use Rattle.cord_steps.specs.Answers.{Plain}
use Rattle.cord_steps.specs.Cords.{Cord, plain_of, shape_in}
use Rattle.cord_steps.specs.Cords as steps
use Rattle.cord_steps.specs.Doings.{joined_shape}
use Rattle.cord_steps.specs.Whole.{IsWithin}
use Rattle.cord_commands.specs.declared.answer.Answer.{Answer}
use Rattle.cord_commands.specs.declared.answer.Answer.TheVariants.{Told}
use Rattle.cord_commands.specs.Answers.{ok, refusal_of, IsAnswerTo}
use Rattle.cord_commands.specs.Bare.{AreBare}
use Rattle.cord_commands.specs.Does.{Does}
use Rattle.cord_commands.specs.Edits.{joining}
use Rattle.cord_commands.specs.Views.{cord_in, names_of, AreSame, IsSetTo}
use Rattle.cord_commands.proofs.Absent.{told-does}
use Rattle.cord_commands.proofs.Comings.{Answers, ComesTo, join-comes, join-long, join-unset, unset-answers}
use Rattle.cord_commands.proofs.Doing.{balanced-shows, are-bare, does-told, found-in, none-in}
use Rattle.cord_commands.proofs.Edited.{changes, alters_to, alters, changed-bytes, beside-same, beside-length, set-by, refused-by}
use Rattle.cord_commands.proofs.EditLaws.{joined-size}
use Rattle.cord_commands.proofs.Refused.{copied-shape}
use Rattle.cord_commands.proofs.Renaming.{set-same}

-- ---- names that were never set
first-answers : (old : Names CordView) (side : Side) (a b : List ℕ) → named old a ≡ None → Answers (names_of old) (joining side a b) (replies.Unset a)
first-answers old Front a b none = unset-answers (names_of old) _ a _ refl (none-in old a none)
first-answers old Back a b none = unset-answers (names_of old) _ a _ refl (none-in old a none)

pub first-unset-does : (size limit : ℕ) (old new : Names CordView) (w : View) (side : Side) (a b : List ℕ) → named old a ≡ None → AreSame old new → (res : Result Answer AllocError)
    → IfOk res (λ answer. answer ≡ Told (replies.Unset a)) → IfOk res (λ answer. Does size limit old new w w (Plain (joining side a b)) answer)
first-unset-does size limit old new w side a b none same res told = told-does size limit old new w (joining side a b) a (first-answers old side a b none) same res told

pub second-unset-does : (size limit : ℕ) (old new : Names CordView) (w : View) (side : Side) (a b : List ℕ) (c : CordView) → named old a ≡ Some c → named old b ≡ None → AreSame old new
    → (res : Result Answer AllocError)
    → IfOk res (λ answer. answer ≡ Told (replies.Unset b)) → IfOk res (λ answer. Does size limit old new w w (Plain (joining side a b)) answer)
second-unset-does size limit old new w side a b c is none same (Err e) told = tt
second-unset-does size limit old new w side a b c is none same (Ok answer) told = subst (Does size limit old new w w (Plain (joining side a b))) (sym told)
    (does-told size limit old new w w (joining side a b) false (replies.Unset b)
    (λ whole. join-unset false (names_of old) (are-bare old whole) side a b (cord_in c) (found-in old a c is) (none-in old b none)) tt same refl)

-- ---- two cords
module _ (size limit : ℕ) (old new : Names CordView) (v w : View) (side : Side) (a b : List ℕ) (c d c' : CordView) (is : named old a ≡ Some c) (also : named old b ≡ Some d)
    (apart : bytes_eq a b ≡ false) (unused : w.unused ≡ v.unused) where
  abbrev names : steps.Names
  names = names_of old

  abbrev x : Cord
  x = cord_in c

  abbrev y : Cord
  y = cord_in d

  within-join : (side : Side) → IsWithin (Plain (joining side a b))
  within-join Front = tt
  within-join Back = tt

  -- the shape that is made goes by the shapes of both
  shape-is : (choice : Bool) → joined_shape choice side names a b ≡ with_cord_added choice side (cord_shape d) (shape_in (names a))
  shape-is choice = if_false (bytes_eq a b) _ _ apart ∙ ap (λ (z : CordShape). with_cord_added choice side z (shape_in (names a))) (copied-shape old b d also)

  comes : (choice : Bool) → length (beside side c.bytes d.bytes) ≤ 2147483647 → (all : AreBare names)
      → ComesTo choice names (joining side a b) (changes names a (alters_to names a (with_cord_added choice side (cord_shape d) (shape_in (names a))))
      (with_cord_added choice side (cord_shape d) (shape_in (names a))))
      (changed (plain_of x) (beside side c.bytes d.bytes))
  comes choice short all =
      subst (λ (z : CordShape). ComesTo choice names (joining side a b) (changes names a (alters_to names a z) z) (changed (plain_of x) (beside side c.bytes d.bytes))) (shape-is choice)
      (join-comes choice names all side a b x y (found-in old a c is) (found-in old b d also) short)

  join-done : IsSetTo old new a c' → IsTreeOf c'.bytes c'.tree → length c'.bytes ≤ 2147483647 → (choice : Bool) → c'.bytes ≡ beside side c.bytes d.bytes
      → cord_shape c' ≡ with_cord_added choice side (cord_shape d) (cord_shape c)
      → Does size limit old new v w (Plain (joining side a b)) ok
  join-done set formed short choice bytes shape =
      set-by size limit old new v w a c is c' set formed unused choice _ (joining side a b) (with_cord_added choice side (cord_shape d)) _ (within-join side)
      (comes choice (subst (λ (z : List ℕ). length z ≤ 2147483647) bytes short))
      (changed-bytes (plain_of x) (beside side c.bytes d.bytes) (beside-same side c.bytes d.bytes) ∙ sym bytes) shape

  join-refused : AreSame old new → (e : CordError) (answer : Answer) → 0 < length d.bytes → IsRefused size limit c.tree (with_cord_added false side (cord_shape d) (cord_shape c)) e v w
      → IsBalanced limit e v w → Some answer ≡ refusal_of e
      → Does size limit old new v w (Plain (joining side a b)) answer
  join-refused same e answer some why balanced told =
      let long = beside-length side c.bytes d.bytes in
      let sized = joined-size false side (cord_shape d) (cord_shape c) some ∙ sym long in
      refused-by size limit old new v w a c is same unused (joining side a b) (with_cord_added false side (cord_shape d)) (beside side c.bytes d.bytes) _ _
      (λ all short. comes false short all) (λ all over. join-long false names all side a b x y (found-in old a c is) (found-in old b d also) over)
      sized (alters old a c is (with_cord_added false side (cord_shape d)) _ sized (λ n. omega (arith, n, long, some))) e answer why (balanced-shows limit e v w balanced) told

  pub join-does : IsSetTo old new a c' → IsTreeOf c'.bytes c'.tree → length c'.bytes ≤ 2147483647 → (r : Result (Unit {0}) CordError) (res : Result Answer AllocError)
      → IfOk r (λ _. c'.bytes ≡ beside side c.bytes d.bytes) → IfOk r (λ _. IsCordAdded side (cord_shape d) (cord_shape c) (cord_shape c'))
      → IfErr r (λ _. 0 < length d.bytes) → IfErr r (λ e. IsRefused size limit c.tree (with_cord_added false side (cord_shape d) (cord_shape c)) e v w) → IfErr r (λ e. IsBalanced limit e v w)
      → OnErr r (c' ≡ c)
      → IfOk res (λ answer. IsAnswerTo r answer) → IfOk res (λ answer. Does size limit old new v w (Plain (joining side a b)) answer)
  join-does set formed short r (Err e) bytes shape some refused balanced same told = tt
  join-does set formed short (Ok u) (Ok answer) bytes (inl shape) some refused balanced same told =
      subst (Does size limit old new v w (Plain (joining side a b))) (sym told) (join-done set formed short false bytes shape)
  join-does set formed short (Ok u) (Ok answer) bytes (inr shape) some refused balanced same told =
      subst (Does size limit old new v w (Plain (joining side a b))) (sym told) (join-done set formed short true bytes shape)
  join-does set formed short (Err e) (Ok answer) bytes shape some refused balanced same told = join-refused (set-same old new a c c' is same set) e answer some refused balanced told
