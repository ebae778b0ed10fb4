-- How what a session does goes on, and how passes, trees and records add up.
use Rattle.std.proofs.Common.{◌≡◌, ◌∙◌, ap, refl, ℕ, ◌+◌, List, [], ◌∷◌, ◌++◌, length, sum_by, drop, append-nil, arith}
use Rattle.std.proofs.lemmas.List.Sums.{sum_by-cons}
use Rattle.pool_rule.specs.Gains.{Gain, Gained, no_gain, gain_then}
use Rattle.pool_rule.specs.Notes.{Use}
use Rattle.pool_rule.specs.Trades.{SameHolds}
use Rattle.pool_rule.specs.Views.{View}
use Rattle.pool_rule.proofs.Gains.{gained-same, gained-then}
use Rattle.pool_rule.proofs.Trades.{trade, Trades-same}
use Rattle.record_rule.specs.declared.views.TokenView.{TokenView}
use Rattle.cord_value.specs.Refusals.{IsBalanced}
use Rattle.cord_value.specs.Workers.{Keeps}
use Rattle.cord_value.specs.declared.refusals.CordError.{CordError}
use Rattle.desk_laws.specs.Counts.{tracks_in, unlinks_in, frees_in}
use Rattle.sampled_commands.specs.Accounts.{Seen, IsOngoing, AddsUpTo}
use Rattle.sampled_commands.specs.Leaving.{IsIdle}

-- ---- going on
same-holds : (a b c : List _) → SameHolds a b → SameHolds b c → SameHolds a c
same-holds a b c one two = trade a [] [] c (λ f. omega (arith, one.weighs f, two.weighs f))

pub ongoing-by : (v w : Seen) → SameHolds v.worker.holds w.worker.holds → (g : Gain) → Gained g v.worker w.worker → w.token.number ≡ v.token.number → IsOngoing v w
ongoing-by v w holds g is number = record { holds = holds; grew = record { gain = g; is = is }; number = number }

pub ongoing-same : (v w : Seen) → w.worker ≡ v.worker → w.token ≡ v.token → IsOngoing v w
ongoing-same v w worker token = record {
  holds = Trades-same v.worker.holds w.worker.holds (ap (λ (z : View). z.holds) worker);
  grew = record { gain = no_gain; is = gained-same v.worker w.worker worker };
  number = ap (λ (z : TokenView). z.number) token;
}

pub ongoing-then : (u v w : Seen) → IsOngoing u v → IsOngoing v w → IsOngoing u w
ongoing-then u v w one two = record {
  holds = same-holds u.worker.holds v.worker.holds w.worker.holds one.holds two.holds;
  grew = record {
    gain = gain_then one.grew.gain two.grew.gain;
    is = gained-then one.grew.gain two.grew.gain u.worker v.worker w.worker one.grew.is two.grew.is;
  };
  number = two.number ∙ one.number;
}

pub ongoing-keeps : (limit : ℕ) (numbers : List ℕ) (new gone : ℕ) (v w : Seen) → Keeps limit numbers new gone v.worker w.worker → w.token.number ≡ v.token.number → IsOngoing v w
ongoing-keeps limit numbers new gone v w k number = ongoing-by v w k.holds k.gain k.gained number

pub ongoing-balanced : (limit : ℕ) (x : CordError) (v w : Seen) → IsBalanced limit x v.worker w.worker → w.token ≡ v.token → IsOngoing v w
ongoing-balanced limit x v w b token = ongoing-by v w b.holds b.gain b.gained (ap (λ (z : TokenView). z.number) token)

-- ---- no releaser slot is used
idle-by : (g : Gain) (v w : View) → Gained g v w → g.used ≡ [] → IsIdle v w
idle-by g v w is none = record {
  used = ap (λ (z : View). z.used) is ∙ (ap (λ (us : List Use). v.used ++ us) none ∙ append-nil v.used);
  unused = ap (λ (z : View). z.unused) is ∙ ap (λ (us : List Use). drop (length us) v.unused) none;
}

pub idle-same : (v w : View) → w ≡ v → IsIdle v w
idle-same v w e = record { used = ap (λ (z : View). z.used) e; unused = ap (λ (z : View). z.unused) e }

pub idle-keeps : (limit : ℕ) (numbers : List ℕ) (new gone : ℕ) (v w : View) → Keeps limit numbers new gone v w → IsIdle v w
idle-keeps limit numbers new gone v w k = idle-by k.gain v w k.gained k.used

pub idle-balanced : (limit : ℕ) (x : CordError) (v w : View) → IsBalanced limit x v w → IsIdle v w
idle-balanced limit x v w b = idle-by b.gain v w b.gained b.used

pub idle-then : (u v w : View) → IsIdle u v → IsIdle v w → IsIdle u w
idle-then u v w one two = record { used = two.used ∙ one.used; unused = two.unused ∙ one.unused }

-- ---- passes and records add up
-- by what was made and ended, tracked, unlinked and freed
pub adds-by : (v w : Seen) (a b c d made ended tracked unlinked freed : ℕ) → w.worker.made ≡ v.worker.made + made → w.worker.ended ≡ v.worker.ended + ended
    → tracks_in w.token.own ≡ tracks_in v.token.own + tracked → unlinks_in w.token.own ≡ unlinks_in v.token.own + unlinked → frees_in w.token.own ≡ frees_in v.token.own + freed
    → made + a + freed ≡ ended + b + tracked → tracked + c ≡ unlinked + d → AddsUpTo v w a b c d
adds-by v w a b c d made ended tracked unlinked freed m e t u f passes records = record {
  passes = adding _ _ _ _ _ _ _ _ a b made ended tracked freed m e t f passes;
  records = linking _ _ _ _ c d tracked unlinked t u records;
}
  where
    adding : (m0 m1 e0 e1 t0 t1 f0 f1 a b made ended tracked freed : ℕ) → m1 ≡ m0 + made → e1 ≡ e0 + ended → t1 ≡ t0 + tracked → f1 ≡ f0 + freed
        → made + a + freed ≡ ended + b + tracked → m1 + (e0 + a) + (f1 + t0) ≡ m0 + (e1 + b) + (f0 + t1)
    adding m0 m1 e0 e1 t0 t1 f0 f1 a b made ended tracked freed m e t f even = omega (arith, m, e, t, f, even)

    linking : (t0 t1 u0 u1 c d tracked unlinked : ℕ) → t1 ≡ t0 + tracked → u1 ≡ u0 + unlinked → tracked + c ≡ unlinked + d → t1 + (u0 + c) ≡ t0 + (u1 + d)
    linking t0 t1 u0 u1 c d tracked unlinked t u even = omega (arith, t, u, even)

pub adds-then : (u v w : Seen) (t a b r c d : ℕ) → AddsUpTo u v 0 t 0 r → AddsUpTo v w (a + t) b (c + r) d → AddsUpTo u w a b c d
adds-then u v w t a b r c d one two = record {
  passes = adding _ _ _ _ _ _ _ _ _ _ _ _ t a b one.passes two.passes;
  records = linking _ _ _ _ _ _ r c d one.records two.records;
}
  where
    adding : (m0 m1 m2 e0 e1 e2 t0 t1 t2 f0 f1 f2 t a b : ℕ) → m1 + (e0 + 0) + (f1 + t0) ≡ m0 + (e1 + t) + (f0 + t1) → m2 + (e1 + (a + t)) + (f2 + t1) ≡ m1 + (e2 + b) + (f1 + t2)
        → m2 + (e0 + a) + (f2 + t0) ≡ m0 + (e2 + b) + (f0 + t2)
    adding m0 m1 m2 e0 e1 e2 t0 t1 t2 f0 f1 f2 t a b one two = omega (arith, one, two)

    linking : (t0 t1 t2 u0 u1 u2 r c d : ℕ) → t1 + (u0 + 0) ≡ t0 + (u1 + r) → t2 + (u1 + (c + r)) ≡ t1 + (u2 + d) → t2 + (u0 + c) ≡ t0 + (u2 + d)
    linking t0 t1 t2 u0 u1 u2 r c d one two = omega (arith, one, two)

-- counted from other numbers, as far apart
pub adds-shift : (v w : Seen) (a b c d i j k l : ℕ) → AddsUpTo v w a b c d → i + b ≡ j + a → k + d ≡ l + c → AddsUpTo v w i j k l
adds-shift v w a b c d i j k l is trees records = record {
  passes = adding _ _ _ _ _ _ _ _ a b i j is.passes trees;
  records = linking _ _ _ _ c d k l is.records records;
}
  where
    adding : (m0 m1 e0 e1 t0 t1 f0 f1 a b i j : ℕ) → m1 + (e0 + a) + (f1 + t0) ≡ m0 + (e1 + b) + (f0 + t1) → i + b ≡ j + a → m1 + (e0 + i) + (f1 + t0) ≡ m0 + (e1 + j) + (f0 + t1)
    adding m0 m1 e0 e1 t0 t1 f0 f1 a b i j is even = omega (arith, is, even)

    linking : (t0 t1 u0 u1 c d k l : ℕ) → t1 + (u0 + c) ≡ t0 + (u1 + d) → k + d ≡ l + c → t1 + (u0 + k) ≡ t0 + (u1 + l)
    linking t0 t1 u0 u1 c d k l is even = omega (arith, is, even)

-- nothing was done
pub adds-none : (v w : Seen) (a b c d : ℕ) → w.worker ≡ v.worker → w.token ≡ v.token → b ≡ a → d ≡ c → AddsUpTo v w a b c d
adds-none v w a b c d worker token trees records = adds-by v w a b c d 0 0 0 0 0
    (omega (arith, ap (λ (z : View). z.made) worker)) (omega (arith, ap (λ (z : View). z.ended) worker))
    (omega (arith, ap (λ (z : TokenView). tracks_in z.own) token)) (omega (arith, ap (λ (z : TokenView). unlinks_in z.own) token)) (omega (arith, ap (λ (z : TokenView). frees_in z.own) token))
    (omega (arith, trees)) (omega (arith, records))

-- refused calls end what they made
pub adds-balanced : (limit : ℕ) (x : CordError) (v w : Seen) (a c : ℕ) → IsBalanced limit x v.worker w.worker → w.token ≡ v.token → AddsUpTo v w a a c c
adds-balanced limit x v w a c b token = adds-by v w a a c c (length b.gain.counts) b.gain.ended 0 0 0
    (ap (λ (z : View). z.made) b.gained) (ap (λ (z : View). z.ended) b.gained)
    (omega (arith, ap (λ (z : TokenView). tracks_in z.own) token)) (omega (arith, ap (λ (z : TokenView). unlinks_in z.own) token)) (omega (arith, ap (λ (z : TokenView). frees_in z.own) token))
    (omega (arith, b.ended)) (omega arith)

-- ---- sums
pub sum-ones : {X : Type 0} (xs : List X) → sum_by (λ _. 1) xs ≡ length xs
sum-ones [] = refl
sum-ones (x ∷ xs) = let e = sum_by-cons (λ _. 1) x xs in let l = sum-ones xs in omega (arith, e, l)
