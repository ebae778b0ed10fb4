-- What bytes begin and end with, by the places where it stands.
use Rattle.std.proofs.Common.{ℕ, ◌≡◌, ◌-◌, ◌+◌, ◌≤◌, ◌↔◌, List, [], ◌++◌, length, take, drop, nat_eq, Bool, true, false, refl, sym, ap, subst, ◌∙◌, arith, append-nil, take-append-drop, length-append}
use Rattle.std.specs.List as list
use Rattle.std.proofs.Math.Seq.{drop-append_seam, take-append_seam}
use Rattle.std.proofs.Math.ListN.{drop_of_length-le}
use Rattle.std.proofs.lemmas.Bool.Decides.{Decides-eqb}
use Rattle.std.proofs.lemmas.Slice.Eq.{starts_is, ends_is}
use Rattle.memchr.specs.Find.{OccursAt}
use Rattle.memchr.proofs.lemmas.MatchLemmas.{OccursAt-split, OccursAt-from_part}
use Rattle.cord_query.specs.Ends.{BeginsWith, EndsWith}

same-answer : (r s : Bool) → (r ≡ true → s ≡ true) → (s ≡ true → r ≡ true) → r ≡ s
same-answer true true to back = refl
same-answer true false to back = sym (to refl)
same-answer false true to back = back refl
same-answer false false to back = refl

-- the text stands behind what is in front of it
stands-behind : (front text rest : List ℕ) → OccursAt (front ++ (text ++ rest)) text (length front)
stands-behind front text rest =
    OccursAt-from_part (front ++ (text ++ rest)) text (length front)
    (omega (arith, length-append front (text ++ rest), length-append text rest))
    (ap (take (length text)) (drop-append_seam front (text ++ rest)) ∙ take-append_seam text rest)

module _ (bytes text : List ℕ) where
  occurs-begins : OccursAt bytes text 0 → BeginsWith bytes text
  occurs-begins occurs = (drop (0 + length text) bytes, OccursAt-split bytes text 0 occurs)

  begins-occurs : BeginsWith bytes text → OccursAt bytes text 0
  begins-occurs begins = subst (λ (b : List ℕ). OccursAt b text 0) (sym begins.1) (stands-behind [] text begins.0)

  occurs-ends : OccursAt bytes text (length bytes - length text) → EndsWith bytes text
  occurs-ends occurs =
      let k = length bytes - length text in
      let all : length bytes ≤ k + length text = omega arith in (
        take k bytes,
        sym (take-append-drop k bytes)
            ∙ ap (λ t. take k bytes ++ t) (OccursAt-split bytes text k occurs)
            ∙ ap (λ t. take k bytes ++ (text ++ t)) (drop_of_length-le bytes all)
            ∙ ap (λ t. take k bytes ++ t) (append-nil text),
      )

  ends-occurs : EndsWith bytes text → OccursAt bytes text (length bytes - length text)
  ends-occurs ends =
      let joined : bytes ≡ ends.0 ++ (text ++ []) = ends.1 ∙ ap (λ t. ends.0 ++ t) (sym (append-nil text)) in
      let place : length ends.0 ≡ length bytes - length text = omega (arith, ap length ends.1, length-append ends.0 text) in
      subst (OccursAt bytes text) place (subst (λ (b : List ℕ). OccursAt b text (length ends.0)) (sym joined) (stands-behind ends.0 text []))

  -- an answer on where the text stands in the bytes that a reading has
  module _ (r : Bool) (seen : List ℕ) (same : seen ≡ bytes) where
    pub begins : (r ≡ true) ↔ OccursAt seen text 0 → (r ≡ true) ↔ BeginsWith bytes text
    begins stands = (
      λ yes. occurs-begins (subst (λ (b : List ℕ). OccursAt b text 0) same (stands.0 yes)),
      λ is. stands.1 (subst (λ (b : List ℕ). OccursAt b text 0) (sym same) (begins-occurs is)),
    )

    pub ends : (place : ℕ) → place ≡ length bytes - length text → (r ≡ true) ↔ OccursAt seen text place → (r ≡ true) ↔ EndsWith bytes text
    ends place at stands = (
      λ yes. occurs-ends (subst (OccursAt bytes text) at (subst (λ (b : List ℕ). OccursAt b text place) same (stands.0 yes))),
      λ is. stands.1 (subst (λ (b : List ℕ). OccursAt b text place) (sym same) (subst (OccursAt bytes text) (sym at) (ends-occurs is))),
    )

  module _ (r : Bool) where
    pub starts-value : (r ≡ true) ↔ BeginsWith bytes text → r ≡ list.starts_with nat_eq bytes text
    starts-value is =
        let value = starts_is Decides-eqb bytes text (list.starts_with nat_eq bytes text) refl in
        same-answer r (list.starts_with nat_eq bytes text) (λ yes. let b = is.0 yes in value.1 b.0 b.1) (λ yes. is.1 (drop (length text) bytes, value.0 yes))

    pub ends-value : (r ≡ true) ↔ EndsWith bytes text → r ≡ list.ends_with nat_eq bytes text
    ends-value is =
        let value = ends_is Decides-eqb bytes text (list.ends_with nat_eq bytes text) refl in
        same-answer r (list.ends_with nat_eq bytes text) (λ yes. let b = is.0 yes in value.1 b.0 b.1) (λ yes. is.1 (take (length bytes - length text) bytes, value.0 yes))
