-- Names that are set, in the map and in the environment that it stands for.
use Rattle.std.proofs.Common.{◌≡◌, ◌∙◌, ap, sym, refl, Option, Some, Bool, true, false, List, ℕ}
use Rattle.std.specs.Prelude.{if◌then◌else◌}
use Rattle.std.specs.Option.{option_map}
use Rattle.std.specs.HashMap.{HashMap, UpdatesBy, get_by}
use Rattle.std.specs.Str.{bytes_eq}
use Rattle.std.proofs.lemmas.Map.Text.{hash_map_updates_str}
use Rattle.std.proofs.lemmas.Slice.Eq.{bytes_eq-Decides}
use Rattle.std.proofs.lemmas.Bool.{cond_both}
use denote.Ref.{Bor}
use Rattle.plain_cord.specs.declared.reply.Reply.{Reply}
use Rattle.plain_cord.specs.States.{CordState, Environment, SameNames, with_name}
use Rattle.plain_cord.specs.Steps.{IsOutcome}
use Rattle.plain_session.specs.declared.cord.PlainCord.{PlainCord}
use Rattle.plain_session.specs.declared.edit.Edit.{Edit}
use Rattle.plain_session.specs.States.{state_of}
use Rattle.plain_cord.specs.Outcomes.{edited_by}
use Rattle.plain_session.specs.Edits.{Leaves, change_of, change_outcome}

-- a function goes into both sides of a choice
option_map-if : {A B : Type 0} (f : A → B) (x y : Option A) (b : Bool) → option_map f (if b then x else y) ≡ if b then option_map f x else option_map f y
option_map-if f x y true = refl
option_map-if f x y false = refl

-- a key that is set is a name that is set
pub environment-updated : (a : List ℕ) {S : Type 0} (m n : HashMap (Bor (List ℕ)) PlainCord S) (cord : PlainCord)
    → UpdatesBy (λ x y. bytes_eq x.now y.now) (λ k. bytes_eq a k.now) m n (Some cord)
    → SameNames (λ name. option_map state_of (get_by (λ key. bytes_eq name key.now) n)) (with_name (λ name. option_map state_of (get_by (λ key. bytes_eq name key.now) m)) a (state_of cord))
environment-updated a m n cord updates = λ name. ap (option_map state_of) (hash_map_updates_str a m n (Some cord) updates name) ∙ option_map-if state_of (Some cord) _ _

-- setting a name to the cord that it has changes nothing
pub with_name-same : (names : Environment) (a : List ℕ) (cord : CordState) → names a ≡ Some cord → SameNames (with_name names a cord) names
with_name-same names a cord found = λ name. cond_both (bytes_eq a name) (Some cord) (names name) (λ o. o ≡ names name) (λ yes. sym found ∙ ap names ((bytes_eq-Decides a name).0 yes)) (λ no. refl)

-- after a change that left the cord as it was the names are what they were
pub unchanged-names : (names now : Environment) (a : List ℕ) (old new : CordState) → names a ≡ Some old → SameNames now (with_name names a new) → new ≡ old → SameNames now names
unchanged-names names now a old new found same kept = λ name. same name ∙ (ap (λ cord. with_name names a cord name) kept ∙ with_name-same names a old found name)

-- an edit of the cord that a name has is the outcome for the name
pub edit-outcome : (names now : Environment) (a : List ℕ) (edit : Edit) (old new : CordState) (reply : Reply) → names a ≡ Some old
    → SameNames now (with_name names a new) → Leaves (edited_by old (change_of edit)) new reply → IsOutcome (Some (change_outcome names a edit)) now reply
edit-outcome names now a edit old new reply found same left = rw found ((λ name. sym (same name ∙ ap (λ cord. with_name names a cord name) left.0)), left.1)
