-- Slots that are to be cleared, one after another.
use Rattle.std.proofs.Common.{◌≡◌, ◌≢◌, ◌<◌, ◌+◌, ℕ, suc, length, drop, get_or, drop-cons, List, [], ◌∷◌, Bool, true, false, None, refl, sym, ◌∙◌, subst, arith, eq-eqb}
use Rattle.std.specs.Prelude.{◌||◌, ◌==◌}
use Rattle.cordz_core.specs.Queue.{has, Apart}
use Rattle.record_rule.specs.declared.views.Claim.{Claim}
use Rattle.record_rule.specs.declared.views.Claim.TheVariants.{Cleared}
use Rattle.record_rule.specs.declared.views.TokenView.{TokenView}
use Rattle.record_rule.specs.Views.{claim_at}
use Rattle.cordz_desk.specs.Tokens.{IsCleared, IsSameBut}
use Rattle.desk_seats.specs.Cleared.{AllCleared}

not_left : (a b : Bool) → (a || b) ≡ false → a ≡ false
not_left true b e = e
not_left false b e = refl

not_right : (a b : Bool) → (a || b) ≡ false → b ≡ false
not_right true b e = absurd (cc)
not_right false b e = e

either_left : (a b : Bool) → a ≡ true → (a || b) ≡ true
either_left true b e = refl
either_left false b e = absurd (cc)

either_right : (a b : Bool) → b ≡ true → (a || b) ≡ true
either_right true b e = refl
either_right false b e = e

-- the slots beside one that was cleared
pub others_cleared : (p q : TokenView) (s : ℕ) (ss : List ℕ) → IsSameBut s p q → has s ss ≡ false → AllCleared p.claims ss → AllCleared q.claims ss
others_cleared p q s [] same apart all = tt
others_cleared p q s (t ∷ ts) same apart all =
    let differ : t ≢ s = λ e. (let a : false ≡ true = sym (not_left (s == t) (has s ts) apart) ∙ eq-eqb s t (sym e) in cc) in
    (all.0, subst IsCleared (sym (same.claims t differ)) all.1, others_cleared p q s ts same (not_right (s == t) (has s ts) apart) all.2)

-- the slots that an ended snapshot let go
pub all_let_go : (cs : List (ℕ × Claim)) (ss : List ℕ) → ((s : ℕ) → has s ss ≡ true → s < 256) → ((s : ℕ) → has s ss ≡ true → claim_at cs s ≡ Cleared None) → AllCleared cs ss
all_let_go cs [] small gone = tt
all_let_go cs (s ∷ ss) small gone =
    let here : has s (s ∷ ss) ≡ true = either_left (s == s) (has s ss) (eq-eqb s s refl) in (
      small s here,
      subst IsCleared (sym (gone s here)) tt,
      all_let_go cs ss (λ t is. small t (either_right (t == s) (has t ss) is)) (λ t is. gone t (either_right (t == s) (has t ss) is)),
    )

-- the slots behind one of a list that was cleared
pub next_cleared : (p q : TokenView) (all : List ℕ) (i s : ℕ) → i < length all → s ≡ get_or all i 0 → IsSameBut s p q → AllCleared p.claims (drop i all) → Apart (drop i all) → AllCleared q.claims (drop (i + 1) all) × Apart (drop (i + 1) all)
next_cleared p q all i s less is same cleared once =
    let next : i + 1 ≡ suc i = omega arith in
    let e : drop i all ≡ s ∷ drop (i + 1) all = drop-cons all i 0 less ∙ ((λ j. sym is j ∷ drop (sym next j) all)) in
    let c = subst (AllCleared p.claims) e cleared in
    let o = subst Apart e once in
    (others_cleared p q s (drop (i + 1) all) same o.0 c.2, o.1)
