-- What calls leave a worker with, one after another.
use Rattle.std.proofs.Common.{◌≡◌, ℕ, ◌+◌, ◌<◌, List, [], ◌∷◌, ◌++◌, length, sum_by, refl, sym, subst, ap, ◌∙◌, arith, append-nil}
use Rattle.std.proofs.lemmas.List.{length-append, append_assoc}
use Rattle.std.proofs.lemmas.List.Elements.{All-append, All-nil}
use Rattle.pool_rule.specs.Gains.{no_gain, gain_then}
use Rattle.node_forest.specs.Label.{Node}
use Rattle.pool_rule.specs.Notes.{Count}
use Rattle.pool_rule.specs.Trades.{Trades}
use Rattle.pool_rule.specs.Views.{View}
use Rattle.pool_rule.proofs.Gains.{gained-then}
use Rattle.pool_rule.proofs.Trades.{trade, Trades-same}
use Rattle.node_pool.specs.Finishes.{IsFinished}
use Rattle.node_pool.specs.Passes.{drawn, uncounted, IsPassMade}
use Rattle.node_pool.proofs.Gaining.{gained-drawn, gained-ended, gained-finished}
use Rattle.cord_value.specs.Refusals.{AreCountsOf, IsBalanced}
use Rattle.cord_value.specs.Workers.{AreBelow, Keeps}
use Rattle.cord_value.specs.declared.refusals.CordError.{CordError}
use Rattle.cord_value.specs.declared.refusals.CordError.TheVariants.{Position, LengthLimit, HeightLimit, PassLimit, NoNumber, NoReleaser, Memory}
use Rattle.cord_value.proofs.Balances.{keeps-same, keeps-copied}

none-then : {X : Type 0} (xs ys : List X) → xs ≡ [] → ys ≡ [] → xs ++ ys ≡ []
none-then xs ys e f = ap (λ zs. zs ++ ys) e ∙ f

none-of : (cs : List Count) → length cs ≡ 0 → cs ≡ []
none-of [] e = refl
none-of (c ∷ cs) e = absurd (omega (arith, e))

module _ (limit : ℕ) where
  pub keeps-then : (xs ys : List ℕ) (a b c d : ℕ) (u v w : View) → Keeps limit xs a b u v → Keeps limit ys c d v w → Keeps limit (xs ++ ys) (a + c) (b + d) u w
  keeps-then xs ys a b c d u v w one two = record {
    holds = trade u.holds [] [] w.holds (λ f. omega (arith, one.holds.weighs f, two.holds.weighs f));
    gain = gain_then one.gain two.gain;
    gained = gained-then one.gain two.gain u v w one.gained two.gained;
    taken = ap (λ zs. zs ++ two.gain.taken) one.taken ∙ ap (λ zs. xs ++ zs) two.taken;
    made = omega (arith, length-append one.gain.counts two.gain.counts, one.made, two.made);
    below = All-append (λ (z : Count). z.found < limit) one.gain.counts two.gain.counts one.below two.below;
    ended = omega (arith, one.ended, two.ended);
    used = none-then one.gain.used two.gain.used one.used two.used;
    looks = none-then one.gain.looks two.gain.looks one.looks two.looks;
  }

  -- the same, with what the numbers of passes come to
  pub keeps-on : (xs ys : List ℕ) (a b c d m n : ℕ) (u v w : View) → Keeps limit xs a b u v → Keeps limit ys c d v w → a + c ≡ m → b + d ≡ n → Keeps limit (xs ++ ys) m n u w
  keeps-on xs ys a b c d m n u v w one two made gone =
      subst (λ (k : ℕ). Keeps limit (xs ++ ys) k n u w) made (subst (λ (k : ℕ). Keeps limit (xs ++ ys) (a + c) k u w) gone (keeps-then xs ys a b c d u v w one two))

  -- and no number more
  pub keeps-still : (xs : List ℕ) (a b c d m n : ℕ) (u v w : View) → Keeps limit xs a b u v → Keeps limit [] c d v w → a + c ≡ m → b + d ≡ n → Keeps limit xs m n u w
  keeps-still xs a b c d m n u v w one two made gone =
      subst (λ (ys : List ℕ). Keeps limit ys m n u w) (append-nil xs) (keeps-on xs [] a b c d m n u v w one two made gone)

  -- a pass was made
  pub keeps-passed : (v w : View) → IsPassMade limit v w → Keeps limit [] 1 0 v w
  keeps-passed v w made = keeps-copied limit v w w made (keeps-same limit w w refl)

  -- an empty pass ended
  pub keeps-ended : (v w : View) → w ≡ uncounted v → Keeps limit [] 0 1 v w
  keeps-ended v w is = record {
    holds = Trades-same v.holds w.holds (ap (λ (z : View). z.holds) is);
    gain = record no_gain { ended = 1 };
    gained = gained-ended v w is;
    taken = refl;
    made = refl;
    below = All-nil _;
    ended = refl;
    used = refl;
    looks = refl;
  }

  -- a pass's tree was left, and the pass is empty
  pub keeps-emptied : (e : Node) (v a w p : View) → a ≡ drawn v p → Trades v.holds [] p.holds a.holds → p.holds ≡ e ∷ []
      → IsFinished e a w → Trades a.holds (e ∷ []) [] w.holds → Keeps limit [] 0 0 v w
  keeps-emptied e v a w p drawn_is came one finished left = record {
    holds = trade v.holds [] [] w.holds (λ f. omega (arith, came.weighs f, left.weighs f, ap (sum_by f) one));
    gain = gain_then no_gain (record no_gain { returned = finished.back });
    gained = gained-then _ _ v a w (gained-drawn v a p drawn_is) (gained-finished a w e finished);
    taken = refl;
    made = refl;
    below = All-nil _;
    ended = refl;
    used = refl;
    looks = refl;
  }

  -- as many passes were made as ended
  pub balanced-memory : (xs : List ℕ) (m n : ℕ) (v w : View) → m ≡ n → Keeps limit xs m n v w → IsBalanced limit Memory v w
  balanced-memory xs m n v w even k = record {
    holds = k.holds;
    gain = k.gain;
    gained = k.gained;
    counts = k.below;
    ended = omega (arith, k.ended, k.made, even);
    used = k.used;
    looks = k.looks;
  }

  -- ---- refused within
  counts-before : (x : CordError) (cs ds : List Count) → AreBelow limit cs → AreCountsOf limit x ds → AreCountsOf limit x (cs ++ ds)
  counts-before (Position asked size) cs ds below are = All-append (λ (z : Count). z.found < limit) cs ds below are
  counts-before (LengthLimit asked) cs ds below are = All-append (λ (z : Count). z.found < limit) cs ds below are
  counts-before (HeightLimit height) cs ds below are = All-append (λ (z : Count). z.found < limit) cs ds below are
  counts-before (PassLimit found) cs ds below are =
      (cs ++ are.0, are.1, ap (λ zs. cs ++ zs) are.2 ∙ sym (append_assoc cs are.0 (are.1 ∷ [])), All-append (λ (z : Count). z.found < limit) cs are.0 below are.3, are.4, are.5)
  counts-before (NoNumber seen) cs ds below are = All-append (λ (z : Count). z.found < limit) cs ds below are
  counts-before (NoReleaser used) cs ds below are = All-append (λ (z : Count). z.found < limit) cs ds below are
  counts-before Memory cs ds below are = All-append (λ (z : Count). z.found < limit) cs ds below are

  -- passes that were made before a refused call, and ended after it
  pub balanced-within : (x : CordError) (xs ys : List ℕ) (n : ℕ) (u v w z : View) → Keeps limit xs n 0 u v → IsBalanced limit x v w → Keeps limit ys 0 n w z → IsBalanced limit x u z
  balanced-within x xs ys n u v w z k b e =
      let none = none-of e.gain.counts e.made in
      let same : (k.gain.counts ++ b.gain.counts) ++ e.gain.counts ≡ k.gain.counts ++ b.gain.counts
      = ap (λ cs. (k.gain.counts ++ b.gain.counts) ++ cs) none ∙ append-nil (k.gain.counts ++ b.gain.counts) in
      record {
        holds = trade u.holds [] [] z.holds (λ f. omega (arith, k.holds.weighs f, b.holds.weighs f, e.holds.weighs f));
        gain = gain_then (gain_then k.gain b.gain) e.gain;
        gained = gained-then (gain_then k.gain b.gain) e.gain u w z (gained-then k.gain b.gain u v w k.gained b.gained) e.gained;
        counts = subst (AreCountsOf limit x) (sym same) (counts-before x k.gain.counts b.gain.counts k.below b.counts);
        ended = omega (arith, ap length same, length-append k.gain.counts b.gain.counts, k.made, k.ended, b.ended, e.ended);
        used = none-then (k.gain.used ++ b.gain.used) e.gain.used (none-then k.gain.used b.gain.used k.used b.used) e.used;
        looks = none-then (k.gain.looks ++ b.gain.looks) e.gain.looks (none-then k.gain.looks b.gain.looks k.looks b.looks) e.looks;
      }
