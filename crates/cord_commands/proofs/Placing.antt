-- Where appended bytes go, from the call on the cord up to the command.
use Rattle.std.proofs.Common.{◌≡◌, ◌∙◌, sym, ap, subst, refl, inl, inr, ℕ, List, length, Option, Some, None, Result, Ok, Err}
use Rattle.std.specs.Prelude.{◌⊎◌, IsSome, IfOk, IfErr}
use Rattle.std.specs.declared.alloc.AllocError.{AllocError}
use Rattle.node_forest.specs.declared.side.Side.{Side}
use Rattle.node_forest.specs.declared.side.Side.TheVariants.{Front, Back}
use Rattle.node_forest.specs.Label.{Node}
use Rattle.plain_cord.specs.Texts.{text_bytes}
use Rattle.pool_rule.specs.Views.{View}
use Rattle.ordered_names.specs.declared.names.Names.{Names}
use Rattle.ordered_names.specs.Named.{named}
use Rattle.cord_value.specs.Filling.{CanFill, IsPlaced, IsShared}
use Rattle.cord_value.specs.Views.{CordView}
use Rattle.cord_value.specs.declared.refusals.CordError.{CordError}
use Rattle.cord_value.specs.declared.refusals.CordError.TheVariants as errors
use Rattle.cord_commands.specs.declared.answer.Answer.{Answer}
use Rattle.cord_commands.specs.declared.edits.Edit.{Edit}
use Rattle.cord_commands.specs.declared.edits.Edit.TheVariants.{Add, Double, CutFront, CutBack, SetSum}
use Rattle.cord_commands.specs.Answers.{ok, refusal_of, IsAnswerTo}
use Rattle.cord_commands.specs.Places.{IsTextPlaced, IsTextShared, IsEditPlaced, IsEditShared, PlacesBehind, PlacesEdit}
use Rattle.cord_commands.specs.Views.{IsSetTo}
use Rattle.cord_commands.proofs.Renaming.{set-found}

pub ok_any : {T E : Type 0} (r : Result T E) → IfOk r (λ _. Unit {0})
ok_any (Ok x) = tt
ok_any (Err e) = tt

pub err_any : {T E : Type 0} (r : Result T E) → IfErr r (λ _. Unit {0})
err_any (Ok x) = tt
err_any (Err e) = tt

-- ---- of a cord
pub placed-if : (bytes : List ℕ) (old new : CordView) (v w : View) (r : Result (Unit {0}) CordError)
    → (CanFill (length bytes) old.tree → IfOk r (λ _. IsPlaced bytes old.tree new.tree v w)) → IfOk r (λ _. IsTextPlaced Back bytes old new v w)
placed-if bytes old new v w (Ok x) placed = placed
placed-if bytes old new v w (Err x) placed = tt

no-room : (n : ℕ) (tree : Option Node) → ¬ (IsSome tree) → ¬ (CanFill n tree)
no-room n None none = λ can. can
no-room n (Some e) none = λ can. none refl

pub inline-placed : (bytes : List ℕ) (old new : CordView) (v w : View) (r : Result (Unit {0}) CordError) → ¬ (IsSome old.tree) → IfOk r (λ _. IsTextPlaced Back bytes old new v w)
inline-placed bytes old new v w r none = placed-if bytes old new v w r (λ can. absurd (no-room (length bytes) old.tree none can))

pub shared-if : (bytes : List ℕ) (old : CordView) (v w : View) (r : Result (Unit {0}) CordError) → (CanFill (length bytes) old.tree → IfErr r (λ x. (x ≡ errors.Memory) ⊎ IsShared old.tree v w))
    → IfErr r (λ x. IsTextShared Back bytes old x v w)
shared-if bytes old v w (Ok x) shared = tt
shared-if bytes old v w (Err x) shared = shared

pub inline-shared : (bytes : List ℕ) (old : CordView) (v w : View) (r : Result (Unit {0}) CordError) → ¬ (IsSome old.tree) → IfErr r (λ x. IsTextShared Back bytes old x v w)
inline-shared bytes old v w r none = shared-if bytes old v w r (λ can. absurd (no-room (length bytes) old.tree none can))

pub none-shared : (side : Side) (bytes : List ℕ) (old : CordView) (v w : View) → IsTextShared side bytes old errors.Memory v w
none-shared Front bytes old v w = tt
none-shared Back bytes old v w = λ can. inl refl

-- ---- of a name's cord
-- no refusal is answered by `ok`
not-ok : (x : CordError) → Some ok ≡ refusal_of x → ⊥
not-ok (errors.Position asked end) e = cc
not-ok (errors.LengthLimit asked) e = cc
not-ok (errors.HeightLimit height) e = cc
not-ok (errors.PassLimit found) e = cc
not-ok (errors.NoNumber seen) e = cc
not-ok (errors.NoReleaser used) e = cc
not-ok errors.Memory e = cc

same-cord : (x y : CordView) → (let o : Option CordView = Some x in let p : Option CordView = Some y in o ≡ p) → x ≡ y
same-cord x y e = cc

-- a refusal that is answered isn't want of memory
answered : (x : CordError) (answer : Answer) (Q : Type 0) → Some answer ≡ refusal_of x → (x ≡ errors.Memory) ⊎ Q → Q
answered x answer Q told (inl memory) = absurd (let e = told ∙ ap refusal_of memory in cc)
answered x answer Q told (inr q) = q

module _ (old new : Names CordView) (v w : View) (a : List ℕ) where
  behind-done : (bytes : List ℕ) (c c' : CordView) (answer : Answer) → named old a ≡ Some c → IsSetTo old new a c' → IsTextPlaced Back bytes c c' v w → answer ≡ ok
      → PlacesBehind old new v w a bytes answer
  behind-done bytes c c' answer is set placed told = λ d there can.
      let same = same-cord c d (sym is ∙ there) in (
        (λ done. record {
          cord = c';
          found = set-found old new a c' set;
          placed = subst (λ (z : CordView). IsPlaced bytes z.tree c'.tree v w) same (placed (subst (λ (z : CordView). CanFill (length bytes) z.tree) (sym same) can));
        }),
        (λ other. absurd (other told)),
      )

  behind-refused : (bytes : List ℕ) (c : CordView) (x : CordError) (answer : Answer) → named old a ≡ Some c → IsTextShared Back bytes c x v w
      → Some answer ≡ refusal_of x → PlacesBehind old new v w a bytes answer
  behind-refused bytes c x answer is shared told = λ d there can.
      let same = same-cord c d (sym is ∙ there) in (
        (λ done. absurd (not-ok x (ap (λ (z : Answer). Some z) (sym done) ∙ told))),
        (λ other. answered x answer (IsShared d.tree v w) told
            (subst (λ (z : CordView). (x ≡ errors.Memory) ⊎ IsShared z.tree v w) same (shared (subst (λ (z : CordView). CanFill (length bytes) z.tree) (sym same) can)))),
      )

  behind-unset : (bytes : List ℕ) (answer : Answer) → named old a ≡ None → PlacesBehind old new v w a bytes answer
  behind-unset bytes answer none = λ d there can. absurd (let both = sym none ∙ there in cc)

  edit-done : (by : Edit) (c c' : CordView) (answer : Answer) → named old a ≡ Some c → IsSetTo old new a c' → IsEditPlaced by c c' v w → answer ≡ ok → PlacesEdit old new v w a by answer
  edit-done (Add text Front) c c' answer is set placed told = tt
  edit-done (Add text Back) c c' answer is set placed told = behind-done (text_bytes text.now) c c' answer is set placed told
  edit-done (Double side) c c' answer is set placed told = tt
  edit-done (CutFront n) c c' answer is set placed told = tt
  edit-done (CutBack n) c c' answer is set placed told = tt
  edit-done (SetSum value) c c' answer is set placed told = tt

  edit-refused : (by : Edit) (c : CordView) (x : CordError) (answer : Answer) → named old a ≡ Some c → IsEditShared by c x v w → Some answer ≡ refusal_of x → PlacesEdit old new v w a by answer
  edit-refused (Add text Front) c x answer is shared told = tt
  edit-refused (Add text Back) c x answer is shared told = behind-refused (text_bytes text.now) c x answer is shared told
  edit-refused (Double side) c x answer is shared told = tt
  edit-refused (CutFront n) c x answer is shared told = tt
  edit-refused (CutBack n) c x answer is shared told = tt
  edit-refused (SetSum value) c x answer is shared told = tt

  edit-unset : (by : Edit) (answer : Answer) → named old a ≡ None → PlacesEdit old new v w a by answer
  edit-unset (Add text Front) answer none = tt
  edit-unset (Add text Back) answer none = behind-unset (text_bytes text.now) answer none
  edit-unset (Double side) answer none = tt
  edit-unset (CutFront n) answer none = tt
  edit-unset (CutBack n) answer none = tt
  edit-unset (SetSum value) answer none = tt

  pub edit-places : (by : Edit) (c c' : CordView) → named old a ≡ Some c → IsSetTo old new a c' → (r : Result (Unit {0}) CordError) (res : Result Answer AllocError)
      → IfOk r (λ _. IsEditPlaced by c c' v w) → IfErr r (λ x. IsEditShared by c x v w) → IfOk res (λ answer. IsAnswerTo r answer) → IfOk res (λ answer. PlacesEdit old new v w a by answer)
  edit-places by c c' is set r (Err e) placed shared told = tt
  edit-places by c c' is set (Ok u) (Ok answer) placed shared told = edit-done by c c' answer is set placed told
  edit-places by c c' is set (Err x) (Ok answer) placed shared told = edit-refused by c x answer is shared told

  pub unset-places : (by : Edit) (res : Result Answer AllocError) → named old a ≡ None → IfOk res (λ answer. PlacesEdit old new v w a by answer)
  unset-places by (Err e) none = tt
  unset-places by (Ok answer) none = edit-unset by answer none
