-- What changes of a cord leave, and refused ones, whatever the new tree is.
use Rattle.std.proofs.Common.{ℕ, ◌≡◌, ◌+◌, ◌-◌, ◌≤◌, List, [], ◌∷◌, length, sum_by, refl, sym, ap, subst, ◌∙◌, arith, append-nil, Some, None}
use Rattle.std.specs.Prelude.{IsSome, Result, Ok, Err, IfErr, IsErrAnd}
use Rattle.std.proofs.lemmas.List.{length-append}
use Rattle.node_forest.specs.Label.{Node}
use Rattle.tree_shapes.specs.Cords.{CordShape}
use Rattle.node_edges.specs.Text.{text}
use Rattle.pool_rule.specs.Gains.{Gain, no_gain, gain_then}
use Rattle.pool_rule.specs.Trades.{Trades}
use Rattle.pool_rule.specs.Views.{View, count_of}
use Rattle.pool_rule.proofs.Gains.{gained-then, saw-within}
use Rattle.pool_rule.proofs.Trades.{trade}
use Rattle.node_pool.specs.Passes.{filled, drawn, uncounted, IsPassMade}
use Rattle.node_pool.specs.declared.refusals.NodeError.{NodeError}
use Rattle.node_pool.specs.declared.refusals.NodeError.TheVariants as node
use Rattle.node_pool.proofs.Gaining.{gained-made, gained-ended, gained-drawn, gained-filled}
use Rattle.btree_node.specs.Made.{node_gain, IsRefusedFrom}
use Rattle.cord_value.specs.Changes.{IsChange, IsFit, IsRefused}
use Rattle.cord_value.specs.Grown.{tree_cord, IsMadeBeside}
use Rattle.cord_value.specs.Refusals.{refusal_of}
use Rattle.cord_value.specs.Views.{CordView, IsTreeOf, passes_of}
use Rattle.cord_value.specs.Workers.{IsReplaced, Keeps}
use Rattle.cord_value.specs.declared.refusals.CordError.{CordError}
use Rattle.cord_value.specs.declared.refusals.CordError.TheVariants as cord
use Rattle.cord_value.proofs.Balances.{keeps-same, one-below}
use Rattle.cord_value.proofs.Growth.{keeps-grown}

no_more : (n : ℕ) → n - n ≡ 0
no_more n = omega arith

-- nothing is done
pub changed-none : (limit most : ℕ) (c : CordView) (v : View) → IsTreeOf c.bytes c.tree → IsChange limit most c c v v
changed-none limit most c v formed = record {
  formed = formed;
  numbers = [];
  few = omega arith;
  keeps = subst (λ (k : ℕ). Keeps limit [] k k v v) (sym (no_more (passes_of c.tree))) (keeps-same limit v v refl);
}

took-some : (v w : View) (e : Node) (m : IsMadeBeside v w e) → length w.taken ≡ length v.taken + length m.gained.numbers
took-some v w e m = ap (λ (z : View). length z.taken) m.gained.is ∙ length-append v.taken m.gained.numbers

-- a new tree came into the pass of an old one
pub changed-tree : (limit most : ℕ) (e new : Node) (v a b c p : View) → p.holds ≡ e ∷ [] → IsTreeOf (text new) (Some new) → a ≡ drawn v p → Trades v.holds [] p.holds a.holds
    → IsMadeBeside a b new → length b.taken ≤ length a.taken + most → IsReplaced b c → Trades b.holds (e ∷ new ∷ []) [] c.holds → IsChange limit most (tree_cord e) (tree_cord new) v c
changed-tree limit most e new v a b c p one formed drawn_is came m few replaced went = record {
  formed = formed;
  numbers = m.gained.numbers;
  few = omega (arith, few, took-some a b new m);
  keeps = keeps-grown limit e new v a b c p one drawn_is came m replaced went;
}

-- a new tree came into a new pass
pub changed-new : (limit most : ℕ) (xs : List ℕ) (new : Node) (v a b c : View) → IsTreeOf (text new) (Some new) → IsPassMade limit v a → IsMadeBeside a b new
    → length b.taken ≤ length a.taken + most → c ≡ filled new b → Trades b.holds (new ∷ []) [] c.holds → IsChange limit most (record { bytes = xs; tree = None }) (tree_cord new) v c
changed-new limit most xs new v a b c formed made m few filled_is went =
    let g = m.gained in
    let passes : Gain = record no_gain { counts = count_of made.found v ∷ [] } in
    let took = node_gain g.numbers g.found g.back g.shares in
    record {
      formed = formed;
      numbers = g.numbers;
      few = omega (arith, few, took-some a b new m);
      keeps = record {
        holds = (let same = ap (λ (z : View). z.holds) made.view in trade v.holds [] [] c.holds (λ f. omega (arith, m.traded.weighs f, went.weighs f, ap (sum_by f) same)));
        gain = gain_then (gain_then passes took) no_gain;
        gained = gained-then (gain_then passes took) no_gain v b c (gained-then passes took v a b (gained-made limit v a made) g.is) (gained-filled b c new filled_is);
        taken = append-nil g.numbers;
        made = refl;
        below = one-below limit (count_of made.found v) made.less;
        ended = refl;
        used = refl;
        looks = refl;
      };
    }

-- ---- refused
-- the limit on passes was reached
pub limit-refused : {T : Type 0} (r : Result T CordError) (size limit found : ℕ) (made : CordShape) (v w : View) → IsErrAnd r (λ x. x ≡ cord.PassLimit found) → IsFit made → IsSome made.tree → limit ≤ found
    → IfErr r (λ x. IsRefused size limit None made x v w)
limit-refused (Ok z) size limit found made v w is fit some reached = absurd is
limit-refused (Err x) size limit found made v w is fit some reached = subst (λ (y : CordError). IsRefused size limit None made y v w) (sym is) (fit, refl, some, reached)

-- a pass was made for a tree, and ended
pub refused-new : (size limit : ℕ) (x : NodeError) (made : CordShape) (v a b c : View) → IsFit made → IsSome made.tree → IsPassMade limit v a → IsRefusedFrom size [] x a b → c ≡ uncounted b
    → IsRefused size limit None made (refusal_of x) v c
refused-new size limit (node.NoNumber seen) made v a b c fit some passed r ended_is =
    (fit, some, r.cause.0, saw-within size (record no_gain { counts = count_of passed.found v ∷ [] }) (record no_gain { ended = 1 }) v a b c (gained-made limit v a passed) r.cause.1 (gained-ended b c ended_is))
refused-new size limit (node.HeightLimit height) made v a b c fit some passed r ended_is = absurd r.height
refused-new size limit node.Memory made v a b c fit some passed r ended_is = tt

-- the pass got its old tree back
pub refused-tree : (size limit : ℕ) (x : NodeError) (made : CordShape) (e : Node) (v a b c p : View) → IsFit made → IsSome made.tree → a ≡ drawn v p → IsRefusedFrom size [] x a b → c ≡ filled e b
    → IsRefused size limit (Some e) made (refusal_of x) v c
refused-tree size limit (node.NoNumber seen) made e v a b c p fit some drawn_is r filled_is =
    (fit, some, r.cause.0, saw-within size no_gain no_gain v a b c (gained-drawn v a p drawn_is) r.cause.1 (gained-filled b c e filled_is))
refused-tree size limit (node.HeightLimit height) made e v a b c p fit some drawn_is r filled_is = absurd r.height
refused-tree size limit node.Memory made e v a b c p fit some drawn_is r filled_is = tt
