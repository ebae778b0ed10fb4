-- The least place of a needle: there is one answer, and place_of and the search give it.
use Rattle.std.proofs.Common.{◌≡◌, ◌≢◌, ◌∙◌, sym, ap, subst, refl, ℕ, ◌+◌, ◌-◌, ◌<◌, ◌≤◌, List, [], ◌∷◌, ◌++◌, zero, suc, length, take, drop, Option, Some, None, Bool, true, false, arith, append_assoc, take-append-drop, length-take-le, length-append, ⊎_elim}
use Rattle.std.specs.Prelude.{nat_eq}
use Rattle.std.specs.Option.{option_map}
use Rattle.std.specs.List.{starts_with}
use Rattle.std.proofs.lemmas.Bool.{cond_both, cases_order}
use Rattle.std.proofs.lemmas.Bool.Decides.{Decides-eqb}
use Rattle.std.proofs.lemmas.Slice.Eq.{starts_is}
use Rattle.std.proofs.Math.Seq.{drop-append_seam, take-append_seam}
use Rattle.memchr.specs.Find.{OccursAt, FindsNeedle}
use Rattle.memchr.proofs.lemmas.MatchLemmas.{OccursAt-split, OccursAt-from_part}
use Rattle.plain_cord.specs.Texts.{place_of}
use Rattle.plain_cord.specs.Places.{StandsAt, IsFirstPlace}

-- a needle that the bytes begin with stands at 0
stands-start : (bytes needle : List ℕ) → starts_with nat_eq bytes needle ≡ true → StandsAt bytes needle 0
stands-start bytes needle starts = record { front = []; back = drop (length needle) bytes; parts = (starts_is Decides-eqb bytes needle (starts_with nat_eq bytes needle) refl).0 starts; place = refl }

-- and the other way round
starts-stand : (bytes needle : List ℕ) → StandsAt bytes needle 0 → starts_with nat_eq bytes needle ≡ true
starts-stand bytes needle stands = (starts_is Decides-eqb bytes needle (starts_with nat_eq bytes needle) refl).1 stands.back (stands.parts ∙ ap (λ front. front ++ (needle ++ stands.back)) (nothing stands.front stands.place))
  where
    nothing : (front : List ℕ) → length front ≡ 0 → front ≡ []
    nothing [] none = refl
    nothing (b ∷ front) some = cc

-- a place behind the first byte is a place of the rest
pub stands-more : (b : ℕ) (bytes needle : List ℕ) (k : ℕ) → StandsAt bytes needle k → StandsAt (b ∷ bytes) needle (suc k)
stands-more b bytes needle k stands = record { front = b ∷ stands.front; back = stands.back; parts = ap (λ rest. b ∷ rest) stands.parts; place = ap (λ n. suc n) stands.place }

stands-less : (b : ℕ) (bytes needle : List ℕ) (k : ℕ) → StandsAt (b ∷ bytes) needle (suc k) → StandsAt bytes needle k
stands-less b bytes needle k stands = behind stands.front stands.back stands.parts stands.place
  where
    behind : (front back : List ℕ) → b ∷ bytes ≡ front ++ (needle ++ back) → length front ≡ suc k → StandsAt bytes needle k
    behind [] back parts place = cc
    behind (c ∷ front) back parts place = record { front = front; back = back; parts = (let e : b ∷ bytes ≡ c ∷ (front ++ (needle ++ back)) = parts in cc); place = cc }

stands-nowhere : (needle : List ℕ) (k : ℕ) → StandsAt [] needle (suc k) → ⊥
stands-nowhere needle k stands = empty stands.front stands.parts stands.place
  where
    empty : (front : List ℕ) → [] ≡ front ++ (needle ++ stands.back) → length front ≡ suc k → ⊥
    empty [] parts place = cc
    empty (c ∷ front) parts place = (let e : [] ≡ c ∷ (front ++ (needle ++ stands.back)) = parts in cc)

-- place_of goes on behind the first byte
next-place : (b : ℕ) (bytes needle : List ℕ) → (StandsAt (b ∷ bytes) needle 0 → ⊥) → (o : Option ℕ) → IsFirstPlace bytes needle o → IsFirstPlace (b ∷ bytes) needle (option_map (λ n. suc n) o)
next-place b bytes needle not_here None nowhere = at
  where
    at : (k : ℕ) → StandsAt (b ∷ bytes) needle k → ⊥
    at zero stands = not_here stands
    at (suc k) stands = nowhere k (stands-less b bytes needle k stands)
next-place b bytes needle not_here (Some n) first = (stands-more b bytes needle n first.0, at)
  where
    at : (k : ℕ) → k < suc n → StandsAt (b ∷ bytes) needle k → ⊥
    at zero below stands = not_here stands
    at (suc k) below stands = first.1 k (omega arith) (stands-less b bytes needle k stands)

-- place_of is the least place
pub place_of-first : (bytes needle : List ℕ) → IsFirstPlace bytes needle (place_of bytes needle)
place_of-first [] needle = cond_both (starts_with nat_eq [] needle) (Some 0) None (IsFirstPlace [] needle)
    (λ yes. (stands-start [] needle yes, λ j below. absurd (omega arith)))
    (λ never. at never)
  where
    at : starts_with nat_eq [] needle ≡ false → (k : ℕ) → StandsAt [] needle k → ⊥
    at never zero stands = (let yes = starts-stand [] needle stands in cc)
    at never (suc k) stands = stands-nowhere needle k stands
place_of-first (b ∷ bytes) needle = rest (place_of-first bytes needle)
  where
    rest : IsFirstPlace bytes needle (place_of bytes needle) → IsFirstPlace (b ∷ bytes) needle (place_of (b ∷ bytes) needle)
    rest first = cond_both (starts_with nat_eq (b ∷ bytes) needle) (Some 0) (option_map (λ n. suc n) (place_of bytes needle)) (IsFirstPlace (b ∷ bytes) needle)
        (λ yes. (stands-start (b ∷ bytes) needle yes, λ j below. absurd (omega arith)))
        (λ never. next-place b bytes needle (λ stands. (let yes = starts-stand (b ∷ bytes) needle stands in cc)) (place_of bytes needle) first)

-- there is one least place
pub first_place-one : (bytes needle : List ℕ) (o p : Option ℕ) → IsFirstPlace bytes needle o → IsFirstPlace bytes needle p → o ≡ p
first_place-one bytes needle None None first other = refl
first_place-one bytes needle None (Some k) first other = absurd (first k other.0)
first_place-one bytes needle (Some k) None first other = absurd (other k first.0)
first_place-one bytes needle (Some j) (Some k) first other = ap (λ n. Some n) (⊎_elim (λ same. same) (λ apart. ⊎_elim (λ less. absurd (other.1 j less first.0)) (λ more. absurd (first.1 k more other.0)) apart) (cases_order j k))

-- an occurrence as the search has it
occurs-stands : (bytes needle : List ℕ) (k : ℕ) → OccursAt bytes needle k → StandsAt bytes needle k
occurs-stands bytes needle k occurs = record {
  front = take k bytes;
  back = drop (k + length needle) bytes;
  parts = sym (take-append-drop k bytes) ∙ ap (λ rest. take k bytes ++ rest) (OccursAt-split bytes needle k occurs);
  place = length-take-le k bytes (let fits = occurs.fits in omega arith);
}

stands-occurs : (bytes needle : List ℕ) (k : ℕ) → StandsAt bytes needle k → OccursAt bytes needle k
stands-occurs bytes needle k stands =
    subst (λ (n : ℕ). OccursAt bytes needle n) stands.place (subst (λ (b : List ℕ). OccursAt b needle (length stands.front)) (sym stands.parts) (behind stands.front stands.back))
  where
    behind : (front back : List ℕ) → OccursAt (front ++ (needle ++ back)) needle (length front)
    behind front back = OccursAt-from_part (front ++ (needle ++ back)) needle (length front)
        (simp length-append (omega arith))
        (ap (λ rest. take (length needle) rest) (drop-append_seam front (needle ++ back)) ∙ take-append_seam needle back)

-- what the search answers is the least place
pub found-first : (bytes needle : List ℕ) (o : Option ℕ) → FindsNeedle bytes needle 0 o → IsFirstPlace bytes needle o
found-first bytes needle None nowhere = λ k stands. let occurs = stands-occurs bytes needle k stands in let fits = occurs.fits in nowhere k (omega arith) (omega arith) occurs
found-first bytes needle (Some k) found = (occurs-stands bytes needle k found.1, λ j below stands. found.0.before j (omega arith) below (stands-occurs bytes needle j stands))
