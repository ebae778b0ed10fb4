-- Slots that are freed one after another, and what a token's entries come to then.
use Rattle.std.proofs.Common.{◌≡◌, ◌≢◌, ◌<◌, ◌≤◌, ◌+◌, ℕ, suc, length, drop, get_or, drop-cons, List, [], ◌∷◌, Bool, true, false, refl, sym, ap, ◌∙◌, subst, arith, eq-eqb}
use Rattle.std.specs.Prelude.{◌||◌, ◌==◌}
use Rattle.std.proofs.lemmas.List.{drop_all}
use Rattle.arrayvec.specs.ArrayVec.{ArrayVec}
use Rattle.cordz_core.specs.Queue.{has, Apart}
use Rattle.record_rule.specs.declared.views.Deed.{Deed}
use Rattle.record_rule.specs.declared.views.Deed.TheVariants.{Free, Unsnap}
use Rattle.record_rule.specs.declared.views.LogEntry.{LogEntry}
use Rattle.record_rule.specs.declared.views.TokenView.{TokenView}
use Rattle.record_rule.specs.Log.{history, made_of, is_walking}
use Rattle.record_rule.specs.Views.{claim_at, done}
use Rattle.cordz_desk.specs.Tokens.{HasDeed, IsCleared, IsSameBut}
use Rattle.desk_laws.specs.Counts.{counted_in, tracks_by, unlinks_by, settles_by, frees_by, deleted_by, reserved_in, frees_in, deleted_in}
use Rattle.record_walks.specs.Ends.{AreFreed, IsEnded}
use Rattle.record_walks.specs.Works.{LinksAsBefore, KnowsAsBefore}

-- ---- the slots that are left
not_left : (a b : Bool) → (a || b) ≡ false → a ≡ false
not_left true b e = e
not_left false b e = refl

not_right : (a b : Bool) → (a || b) ≡ false → b ≡ false
not_right true b e = absurd (cc)
not_right false b e = e

either_left : (a b : Bool) → a ≡ true → (a || b) ≡ true
either_left true b e = refl
either_left false b e = absurd (cc)

either_right : (a b : Bool) → b ≡ true → (a || b) ≡ true
either_right true b e = refl
either_right false b e = e

pub has-here : (s : ℕ) (ss : List ℕ) → has s (s ∷ ss) ≡ true
has-here s ss = either_left (s == s) (has s ss) (eq-eqb s s refl)

pub has-behind : (s t : ℕ) (ss : List ℕ) → has t ss ≡ true → has t (s ∷ ss) ≡ true
has-behind s t ss is = either_right (t == s) (has t ss) is

pub left-at : (all : List ℕ) (i s : ℕ) → i < length all → s ≡ get_or all i 0 → drop i all ≡ s ∷ drop (i + 1) all
left-at all i s less is = let next : i + 1 ≡ suc i = omega arith in drop-cons all i 0 less ∙ (λ j. sym is j ∷ drop (sym next j) all)

-- what is so of all slots is so of those that are left
pub small-left : (all : List ℕ) (i s : ℕ) (Q : ℕ → Type 0) → ((t : ℕ) → has t (drop i all) ≡ true → Q t) → drop i all ≡ s ∷ drop (i + 1) all → Q s × ((t : ℕ) → has t (drop (i + 1) all) ≡ true → Q t)
small-left all i s Q each e = (
  each s (subst (λ (z : List ℕ). has s z ≡ true) (sym e) (has-here s (drop (i + 1) all))),
  λ t is. each t (subst (λ (z : List ℕ). has t z ≡ true) (sym e) (has-behind s t (drop (i + 1) all) is)),
)

-- other slots are to be cleared yet
pub cleared-left : (a b : TokenView) (s : ℕ) (ss : List ℕ) → IsSameBut s a b → has s ss ≡ false → ((t : ℕ) → has t ss ≡ true → IsCleared (claim_at a.claims t)) → (t : ℕ) → has t ss ≡ true → IsCleared (claim_at b.claims t)
cleared-left a b s ss same apart each t is =
    let differ : t ≢ s = λ e. (let no : false ≡ true = sym apart ∙ subst (λ (z : ℕ). has z ss ≡ true) e is in cc) in
    subst IsCleared (sym (same.claims t differ)) (each t is)

-- ---- entries
abbrev pub Frees : ℕ → List ℕ → List ℕ → List LogEntry → List LogEntry → Type 0
Frees by all left start now = (end : List LogEntry) → AreFreed by left now end → AreFreed by all start end

pub frees-on : (by : ℕ) (a b : TokenView) (s : ℕ) (left all : List ℕ) (start : List LogEntry) → a.number ≡ by → HasDeed a b.own (Free s) → Frees by all (s ∷ left) start a.own → Frees by all left start b.own
frees-on by a b s left all start number d f = λ end k.
    let is : b.own ≡ record { by = by; place = d.0; deed = Free s } ∷ a.own = d.1 ∙ ap (λ (m : ℕ). record { by = m; place = d.0; deed = Free s } ∷ a.own) number in
    f end (d.0, subst (λ (z : List LogEntry). AreFreed by left z end) is k)

pub freed-all : (by : ℕ) (all : List ℕ) (i : ℕ) (start now : List LogEntry) → length all ≤ i → Frees by all (drop i all) start now → AreFreed by all start now
freed-all by all i start now whole f = f now (subst (λ (z : List ℕ). AreFreed by z now now) (sym (drop_all i all whole)) refl)

pub knows-on : (p a b : TokenView) (s : ℕ) → KnowsAsBefore p a → IsSameBut s a b → b.untracked ≡ a.untracked → KnowsAsBefore p b
knows-on p a b s k same untracked = record {
  number = same.number ∙ k.number;
  reads = same.reads ∙ k.reads;
  untracked = untracked ∙ k.untracked;
  shown = same.shown ∙ k.shown;
}

pub made-on : (a b : TokenView) (s : ℕ) → HasDeed a b.own (Free s) → made_of b.own ≡ made_of a.own + 1
made-on a b s d = ap made_of d.1 ∙ omega arith

freed-none : (count : Deed → ℕ) → ((s : ℕ) → count (Free s) ≡ 0) → (by : ℕ) (ss : List ℕ) (a b : List LogEntry) → AreFreed by ss a b → counted_in count b ≡ counted_in count a
freed-none count none by [] a b k = ap (counted_in count) k
freed-none count none by (s ∷ ss) a b k = freed-none count none by ss (record { by = by; place = k.0; deed = Free s } ∷ a) b k.1 ∙ omega (arith, none s)

freed-each : (by : ℕ) (ss : List ℕ) (a b : List LogEntry) → AreFreed by ss a b → frees_in b ≡ frees_in a + length ss
freed-each by [] a b k = ap frees_in k ∙ omega arith
freed-each by (s ∷ ss) a b k = let on = freed-each by ss (record { by = by; place = k.0; deed = Free s } ∷ a) b k.1 in omega (arith, on)

freed-reserved : (by : ℕ) (ss : List ℕ) (a b : List LogEntry) → AreFreed by ss a b → reserved_in b ≡ reserved_in a
freed-reserved by [] a b k = ap reserved_in k
freed-reserved by (s ∷ ss) a b k = freed-reserved by ss (record { by = by; place = k.0; deed = Free s } ∷ a) b k.1

freed-walking : (by : ℕ) (ss : List ℕ) (a b : List LogEntry) → AreFreed by ss a b → is_walking b ≡ is_walking a
freed-walking by [] a b k = ap is_walking k
freed-walking by (s ∷ ss) a b k = freed-walking by ss (record { by = by; place = k.0; deed = Free s } ∷ a) b k.1

pub freed-made : (by : ℕ) (ss : List ℕ) (a b : List LogEntry) → AreFreed by ss a b → made_of b ≡ made_of a + length ss
freed-made by [] a b k = ap made_of k ∙ omega arith
freed-made by (s ∷ ss) a b k = let on = freed-made by ss (record { by = by; place = k.0; deed = Free s } ∷ a) b k.1 in omega (arith, on)

-- ---- the end of a snapshot
ended-at : (place : ℕ) (gone : ArrayVec ℕ) (p q : TokenView) → let m = done place (Unsnap p.number gone) p in AreFreed p.number gone.items m.own q.own → KnowsAsBefore m q → IsEnded (length gone.items) p q
ended-at place gone p q freed knows =
    let ss = gone.items in
    let m = done place (Unsnap p.number gone) p in
    let n = p.number in
    record {
      place = place;
      gone = gone;
      many = refl;
      own = freed;
      walking = freed-walking n ss m.own q.own freed;
      links = record {
        reserved = freed-reserved n ss m.own q.own freed;
        tracks = freed-none tracks_by (λ s. refl) n ss m.own q.own freed ∙ omega arith;
        unlinks = freed-none unlinks_by (λ s. refl) n ss m.own q.own freed ∙ omega arith;
        settles = freed-none settles_by (λ s. refl) n ss m.own q.own freed ∙ omega arith;
      };
      frees = freed-each n ss m.own q.own freed ∙ omega arith;
      deleted_ones = freed-none deleted_by (λ s. refl) n ss m.own q.own freed ∙ omega arith;
      knows = record { number = knows.number; reads = knows.reads; untracked = knows.untracked; shown = knows.shown };
    }

pub ended : (place deleted : ℕ) (gone : ArrayVec ℕ) (p m q : TokenView) → m ≡ done place (Unsnap p.number gone) p → AreFreed m.number gone.items m.own q.own → KnowsAsBefore m q → length gone.items ≡ deleted → IsEnded deleted p q
ended place deleted gone p m q is freed knows many =
    subst (λ (n : ℕ). IsEnded n p q) many (ended-at place gone p q
    (subst (λ (z : TokenView). AreFreed z.number gone.items z.own q.own) is freed) (subst (λ (z : TokenView). KnowsAsBefore z q) is knows))

-- ---- one slot more
pub record Collected (p b : TokenView) (all : List ℕ) (i : ℕ) (a : TokenView) : Type 0 where
  pub frees : Frees p.number all (drop (i + 1) all) p.own b.own
  pub knows : KnowsAsBefore p b
  pub made : made_of b.own ≡ made_of a.own + 1
  pub small : (t : ℕ) → has t (drop (i + 1) all) ≡ true → t < 256
  pub cleared : (t : ℕ) → has t (drop (i + 1) all) ≡ true → IsCleared (claim_at b.claims t)
  pub once : Apart (drop (i + 1) all)

pub collected-on : (p a b : TokenView) (all : List ℕ) (i s : ℕ) → i < length all → s ≡ get_or all i 0 → Frees p.number all (drop i all) p.own a.own → KnowsAsBefore p a
    → HasDeed a b.own (Free s) → IsSameBut s a b → b.untracked ≡ a.untracked
    → ((t : ℕ) → has t (drop i all) ≡ true → t < 256) → ((t : ℕ) → has t (drop i all) ≡ true → IsCleared (claim_at a.claims t)) → Apart (drop i all) → Collected p b all i a
collected-on p a b all i s less is frees knows did same untracked small cleared once =
    let e = left-at all i s less is in
    let apart = subst Apart e once in
    record {
      frees = frees-on p.number a b s (drop (i + 1) all) all p.own knows.number did (subst (λ (z : List ℕ). Frees p.number all z p.own a.own) e frees);
      knows = knows-on p a b s knows same untracked;
      made = made-on a b s did;
      small = (small-left all i s (λ t. t < 256) small e).1;
      cleared = cleared-left a b s (drop (i + 1) all) same apart.0 ((small-left all i s (λ t. IsCleared (claim_at a.claims t)) cleared e).1);
      once = apart.1;
    }
