-- What the calls on cords leave a worker with, one step after another.
use Rattle.std.proofs.Common.{◌≡◌, ℕ, ◌<◌, ◌≤◌, List, [], ◌∷◌, length, sum_by, refl, sym, ap, subst, ◌∙◌, arith, append-nil}
use Rattle.std.specs.Prelude.{Result, Ok, Err, IfOk, IfErr, IsErrAnd}
use Rattle.std.proofs.lemmas.List.{length-append}
use Rattle.std.proofs.lemmas.List.Elements.{All-cons, All-nil}
use Rattle.node_forest.specs.Label.{Node, number}
use Rattle.pool_rule.specs.Gains.{Gain, no_gain, gain_then}
use Rattle.pool_rule.specs.Notes.{Count}
use Rattle.pool_rule.specs.Trades.{Trades, SameHolds}
use Rattle.pool_rule.specs.Views.{View, sharing, count_of}
use Rattle.pool_rule.proofs.Gains.{gained-same, gained-then, saw-within}
use Rattle.pool_rule.proofs.Trades.{trade, Trades-same}
use Rattle.node_pool.specs.declared.refusals.NodeError.{NodeError}
use Rattle.node_pool.specs.declared.refusals.NodeError.TheVariants.{NoNumber, HeightLimit, Memory}
use Rattle.node_pool.specs.Answers.{noting_all}
use Rattle.node_pool.specs.Finishes.{IsFinished}
use Rattle.node_pool.specs.Passes.{counted, uncounted, filled, drawn, IsPassMade}
use Rattle.node_pool.specs.Refusals.{IsCause, IsNoted, IsOfNoHeight}
use Rattle.node_pool.proofs.Gaining.{found_by, gained-made, gained-ended, gained-undone, gained-filled, gained-finished, gained-noted, gained-drawn_and_ended, gained-pass_shared}
use Rattle.btree_node.specs.Made.{node_gain, nodes_in, IsMadeFrom, IsRefusedFrom}
use Rattle.flat_nodes.specs.Flats.{IsAdded}
use Rattle.flat_nodes.proofs.Flats.{gained-added}
use Rattle.cord_value.specs.Workers.{AreBelow, Keeps, KeepsCount}
use Rattle.cord_value.specs.declared.refusals.CordError.{CordError}
use Rattle.cord_value.specs.declared.refusals.CordError.TheVariants as cord
use Rattle.cord_value.specs.Refusals.{refusal_of, AreCountsOf, IsMakeRefused, IsMakeUndone, IsBalanced}

pub one-below : (limit : ℕ) (c : Count) → c.found < limit → AreBelow limit (c ∷ [])
one-below limit c less = All-cons (λ (z : Count). z.found < limit) c [] less (All-nil _)

-- ---- kept
pub keeps-same : (limit : ℕ) (v w : View) → w ≡ v → Keeps limit [] 0 0 v w
keeps-same limit v w same = record {
  holds = Trades-same v.holds w.holds (ap (λ (z : View). z.holds) same);
  gain = no_gain;
  gained = gained-same v w same;
  taken = refl;
  made = refl;
  below = All-nil _;
  ended = refl;
  used = refl;
  looks = refl;
}

-- a cord of a new flat
pub keeps-made : (size limit : ℕ) (e : Node) (v a b c : View) → IsPassMade limit v a → IsAdded size a b e → Trades a.holds [] (e ∷ []) b.holds → c ≡ filled e b → Trades b.holds (e ∷ []) [] c.holds → Keeps limit (number e ∷ []) 1 0 v c
keeps-made size limit e v a b c made added gained filled_is went =
    let passes : Gain = record no_gain { counts = count_of made.found v ∷ [] } in
    let takes : Gain = record no_gain { taken = number e ∷ []; full = added.found } in
    let pass = gained-made limit v a made in
    let flat = gained-added size a b e added in
    let fill = gained-filled b c e filled_is in
    record {
      holds = (let same = ap (λ (z : View). z.holds) made.view in trade v.holds [] [] c.holds (λ f. omega (arith, gained.weighs f, went.weighs f, ap (sum_by f) same)));
      gain = gain_then (gain_then passes takes) no_gain;
      gained = gained-then (gain_then passes takes) no_gain v b c (gained-then passes takes v a b pass flat) fill;
      taken = refl;
      made = refl;
      below = one-below limit (count_of made.found v) made.less;
      ended = refl;
      used = refl;
      looks = refl;
    }

-- a copy into a pass
pub keeps-shared : (limit : ℕ) (e : Node) (v w p : View) → w ≡ filled e (filled e (sharing e (drawn v p))) → SameHolds v.holds w.holds → Keeps limit [] 0 0 v w
keeps-shared limit e v w p is same = record {
  holds = same;
  gain = record no_gain { shares = 1 };
  gained = gained-pass_shared v w p e is;
  taken = refl;
  made = refl;
  below = All-nil _;
  ended = refl;
  used = refl;
  looks = refl;
}

-- a copy into a pass of its own
pub keeps-copied : (limit : ℕ) (v a w : View) → IsPassMade limit v a → Keeps limit [] 0 0 a w → Keeps limit [] 1 0 v w
keeps-copied limit v a w made k = record {
  holds = (let same = ap (λ (z : View). z.holds) made.view in trade v.holds [] [] w.holds (λ f. omega (arith, k.holds.weighs f, ap (sum_by f) same)));
  gain = gain_then (record no_gain { counts = count_of made.found v ∷ [] }) k.gain;
  gained = gained-then _ k.gain v a w (gained-made limit v a made) k.gained;
  taken = k.taken;
  made = omega (arith, k.made);
  below = All-cons (λ (z : Count). z.found < limit) (count_of made.found v) k.gain.counts made.less k.below;
  ended = omega (arith, k.ended);
  used = k.used;
  looks = k.looks;
}

-- a tree is finished, and its pass ends
pub keeps-released : (limit : ℕ) (e : Node) (v a w p : View) → a ≡ uncounted (drawn v p) → Trades v.holds [] p.holds a.holds → p.holds ≡ e ∷ [] → IsFinished e a w → Trades a.holds (e ∷ []) [] w.holds
    → Keeps limit [] 0 1 v w
keeps-released limit e v a w p ended drawn_is one finished left = record {
  holds = trade v.holds [] [] w.holds (λ f. omega (arith, drawn_is.weighs f, left.weighs f, ap (sum_by f) one));
  gain = gain_then (record no_gain { ended = 1 }) (record no_gain { returned = finished.back });
  gained = gained-then _ _ v a w (gained-drawn_and_ended v a p ended) (gained-finished a w e finished);
  taken = refl;
  made = refl;
  below = All-nil _;
  ended = refl;
  used = refl;
  looks = refl;
}

-- a cord of a new tree
pub keeps-packed : (limit : ℕ) (e : Node) (v a b c : View) → IsPassMade limit v a → IsMadeFrom [] [] a b e → c ≡ filled e b → Trades b.holds (e ∷ []) [] c.holds → KeepsCount limit (nodes_in e) 1 0 v c
keeps-packed limit e v a b c made packed filled_is went =
    let m = packed.gained in
    let passes : Gain = record no_gain { counts = count_of made.found v ∷ [] } in
    let takes = node_gain m.numbers m.found m.back m.shares in
    record {
      numbers = m.numbers;
      count_is = omega (arith, packed.took, ap (λ (z : View). length z.taken) m.is, length-append a.taken m.numbers);
      keeps = record {
        holds = (let same = ap (λ (z : View). z.holds) made.view in trade v.holds [] [] c.holds (λ f. omega (arith, packed.traded.weighs f, went.weighs f, ap (sum_by f) same)));
        gain = gain_then (gain_then passes takes) no_gain;
        gained = gained-then (gain_then passes takes) no_gain v b c (gained-then passes takes v a b (gained-made limit v a made) m.is) (gained-filled b c e filled_is);
        taken = append-nil m.numbers;
        made = refl;
        below = one-below limit (count_of made.found v) made.less;
        ended = refl;
        used = refl;
        looks = refl;
      };
    }

-- what doesn't depend on the result
pub if-ok : {T E : Type 0} (r : Result T E) (K : Type 0) → K → IfOk r (λ _. K)
if-ok (Ok x) K k = k
if-ok (Err x) K k = tt

-- ---- balanced
pub balanced-length : (limit asked : ℕ) (v w : View) → w ≡ v → IsBalanced limit (cord.LengthLimit asked) v w
balanced-length limit asked v w same = record {
  holds = Trades-same v.holds w.holds (ap (λ (z : View). z.holds) same);
  gain = no_gain;
  gained = gained-same v w same;
  counts = All-nil _;
  ended = refl;
  used = refl;
  looks = refl;
}

pub balanced-nothing : (limit : ℕ) (x : CordError) (v : View) → AreCountsOf limit x [] → IsBalanced limit x v v
balanced-nothing limit x v counts = record {
  holds = Trades-same v.holds v.holds refl;
  gain = no_gain;
  gained = gained-same v v refl;
  counts = counts;
  ended = refl;
  used = refl;
  looks = refl;
}

-- the limit was reached
pub balanced-limit : (limit found : ℕ) (v w : View) → limit ≤ found → w ≡ uncounted (counted found v) → IsBalanced limit (cord.PassLimit found) v w
balanced-limit limit found v w reached is = record {
  holds = Trades-same v.holds w.holds (ap (λ (z : View). z.holds) is);
  gain = record no_gain { counts = count_of found v ∷ []; ended = 1 };
  gained = gained-undone v w found is;
  counts = ([], count_of found v, refl, All-nil _, refl, reached);
  ended = refl;
  used = refl;
  looks = refl;
}

pub balanced-limit_err : {T : Type 0} (r : Result T CordError) (limit found : ℕ) (v w : View) → IsErrAnd r (λ x. x ≡ cord.PassLimit found) → limit ≤ found → w ≡ uncounted (counted found v) → IfErr r (λ x. IsBalanced limit x v w)
balanced-limit_err (Ok x) limit found v w is reached view = absurd is
balanced-limit_err (Err x) limit found v w is reached view = subst (λ (z : CordError). IsBalanced limit z v w) (sym is) (balanced-limit limit found v w reached view)

-- a pass was made and ended, and the steps between found numbers in use alone
pub AreGiven : (limit : ℕ) (x : NodeError) (counts : List Count) → AreBelow limit counts → AreCountsOf limit (refusal_of x) counts
AreGiven limit (NoNumber seen) counts below = below
AreGiven limit (HeightLimit height) counts below = below
AreGiven limit Memory counts below = below

holds-noted : (x : NodeError) (v w : View) → IsNoted x v w → w.holds ≡ v.holds
holds-noted (NoNumber seen) v w is = ap (λ (z : View). z.holds) is.2
holds-noted (HeightLimit height) v w is = ap (λ (z : View). z.holds) is
holds-noted Memory v w is = ap (λ (z : View). z.holds) is

pub balanced-refused : (limit : ℕ) (x : NodeError) (v a b c : View) → IsPassMade limit v a → IsNoted x a b → c ≡ uncounted b → IsBalanced limit (refusal_of x) v c
balanced-refused limit x v a b c made noted ended_is =
    let passes : Gain = record no_gain { counts = count_of made.found v ∷ [] } in
    let tries : Gain = record no_gain { full = found_by x a b noted } in
    let ends : Gain = record no_gain { ended = 1 } in
    record {
      holds = Trades-same v.holds c.holds (ap (λ (z : View). z.holds) ended_is ∙ (holds-noted x a b noted ∙ ap (λ (z : View). z.holds) made.view));
      gain = gain_then (gain_then passes tries) ends;
      gained = gained-then (gain_then passes tries) ends v b c (gained-then passes tries v a b (gained-made limit v a made) (gained-noted x a b noted)) (gained-ended b c ended_is);
      counts = AreGiven limit x (count_of made.found v ∷ []) (one-below limit (count_of made.found v) made.less);
      ended = refl;
      used = refl;
      looks = refl;
    }

pub balanced-packed : (size limit : ℕ) (x : NodeError) (v a b c : View) → IsPassMade limit v a → IsRefusedFrom size [] x a b → c ≡ uncounted b → IsBalanced limit (refusal_of x) v c
balanced-packed size limit x v a b c made refused ended_is =
    let m = refused.gained in
    let passes : Gain = record no_gain { counts = count_of made.found v ∷ [] } in
    let takes = node_gain m.numbers m.found m.back m.shares in
    let ends : Gain = record no_gain { ended = 1 } in
    record {
      holds = trade v.holds [] [] c.holds (λ f. omega (arith, refused.traded.weighs f, ap (λ (z : View). sum_by f z.holds) made.view, ap (λ (z : View). sum_by f z.holds) ended_is));
      gain = gain_then (gain_then passes takes) ends;
      gained = gained-then (gain_then passes takes) ends v b c (gained-then passes takes v a b (gained-made limit v a made) m.is) (gained-ended b c ended_is);
      counts = AreGiven limit x (count_of made.found v ∷ []) (one-below limit (count_of made.found v) made.less);
      ended = refl;
      used = refl;
      looks = refl;
    }

pub undone-refused : (limit n : ℕ) (x : NodeError) (v a b c : View) → IsPassMade limit v a → IsOfNoHeight x → (n ≤ 4083 → IsNoted x a b) → c ≡ uncounted b → IsMakeUndone limit n (refusal_of x) v c
undone-refused limit n (NoNumber seen) v a b c made low noted ended_is = λ le. record {
  live = made.found;
  less = made.less;
  found = (noted le).0;
  count = (noted le).1;
  view = ended_is ∙ (ap uncounted (noted le).2 ∙ ap (λ (z : View). uncounted (noting_all (noted le).0 z)) made.view);
}
undone-refused limit n (HeightLimit height) v a b c made low noted ended_is = absurd low
undone-refused limit n Memory v a b c made low noted ended_is = λ le. record { live = made.found; less = made.less; view = ended_is ∙ (ap uncounted (noted le) ∙ ap uncounted made.view) }

taken-noted : (x : NodeError) (v w : View) → IsNoted x v w → w.taken ≡ v.taken
taken-noted (NoNumber seen) v w is = ap (λ (z : View). z.taken) is.2
taken-noted (HeightLimit height) v w is = ap (λ (z : View). z.taken) is
taken-noted Memory v w is = ap (λ (z : View). z.taken) is

-- no number was taken
pub untaken-refused : (limit : ℕ) (x : NodeError) (v a b c : View) → IsPassMade limit v a → IsNoted x a b → c ≡ uncounted b → c.taken ≡ v.taken
untaken-refused limit x v a b c made noted ended_is = ap (λ (z : View). z.taken) ended_is ∙ taken-noted x a b noted ∙ ap (λ (z : View). z.taken) made.view

-- no share was made
pub unshared-made : (size limit : ℕ) (e : Node) (v a b c : View) → IsPassMade limit v a → IsAdded size a b e → c ≡ filled e b → c.shares ≡ v.shares
unshared-made size limit e v a b c made added filled_is = ap (λ (z : View). z.shares) filled_is ∙ ap (λ (z : View). z.shares) added.view ∙ ap (λ (z : View). z.shares) made.view

pub cause-refused : (size limit n : ℕ) (x : NodeError) (v a b c : View) → 15 < n → n ≤ 2147483647 → IsPassMade limit v a → IsOfNoHeight x → IsCause size x a b → c ≡ uncounted b → IsMakeRefused size limit n (refusal_of x) v c
cause-refused size limit n (NoNumber seen) v a b c long short made low cause ended_is =
    (long, short, cause.0, saw-within size (record no_gain { counts = count_of made.found v ∷ [] }) (record no_gain { ended = 1 }) v a b c (gained-made limit v a made) cause.1 (gained-ended b c ended_is))
cause-refused size limit n (HeightLimit height) v a b c long short made low cause ended_is = absurd low
cause-refused size limit n Memory v a b c long short made low cause ended_is = (long, short)
