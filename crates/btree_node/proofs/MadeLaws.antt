-- What calls that make nodes leave a worker with, one after another.
use Rattle.std.proofs.Common.{ℕ, ◌≡◌, ◌<◌, ◌≤◌, List, [], ◌∷◌, ◌++◌, length, refl, sym, ap, subst, ◌∙◌, get_or, arith}
use Rattle.std.specs.List.{All}
use Rattle.std.specs.Prelude.{Contains, Result, Ok, Err, IfErr, IsErrAnd}
use Rattle.std.proofs.lemmas.List.Sums.{sum_by-append}
use Rattle.std.proofs.lemmas.List.Elements.{All-append, All-cons, All-nil}
use Rattle.node_forest.specs.declared.kind.Kind.TheVariants.{External, Branch}
use Rattle.node_forest.specs.declared.side.Side.{Side}
use Rattle.node_forest.specs.Label.{Node}
use Rattle.node_edges.specs.Body.{IsBranchOf}
use Rattle.tree_shapes.specs.Shape.{Shape, level, IsTree}
use Rattle.node_edges.specs.Trees.{shape_of, IsTreeAt, IsFilled}
use Rattle.node_edges.specs.Ways.{branches_down}
use Rattle.node_edges.proofs.EdgeLaws.{children-branch}
use Rattle.node_edges.proofs.WayLaws.{nodes-edges, tree-down}
use Rattle.pool_rule.specs.Trades.{Trades, SameHolds, HasHolds, Stands, IsWithin, itself, below, AreSpare}
use Rattle.pool_rule.specs.Views.{View}
use Rattle.pool_rule.proofs.Trades.{trade}
use Rattle.node_pool.specs.declared.calls.TakeError.{TakeError}
use Rattle.node_pool.specs.declared.calls.TakeError.TheVariants as take
use Rattle.node_pool.specs.Answers.{IsTaken}
use Rattle.node_pool.specs.Refusals.{refusal_of, IsCause, IsNoted, IsOfNoHeight}
use Rattle.node_pool.specs.Finishes.{IsFinished}
use Rattle.node_pool.specs.declared.refusals.NodeError.{NodeError}
use Rattle.node_pool.specs.declared.refusals.NodeError.TheVariants.{NoNumber, HeightLimit, Memory}
use Rattle.tree_shapes.specs.Growth.{beside}
use Rattle.tree_shapes.proofs.RoomLaws.{All-rest_placed, All-one_placed}
use Rattle.btree_node.specs.Made.{GainedNodes, nodes_in, nodes_of_all, IsMadeFrom, IsRefusedFrom, IsCauseOf, IsLeftAlone}
use Rattle.btree_node.proofs.GainLaws.{gained-same, gained-then, gained-taken, took-taken, gained-finished, gained-refused, cause-within}
use Rattle.btree_node.proofs.ListLaws.{beside-one, sum-beside, All-contains}

-- ---- causes
pub cause-of : (size : ℕ) (s : Shape) (e : NodeError) (v w : View) → IsCause size e v w → IsOfNoHeight e → IsCauseOf size s e v w
cause-of size s (NoNumber seen) v w is low = is
cause-of size s (HeightLimit height) v w is low = absurd low
cause-of size s Memory v w is low = tt

-- ---- holds beside
pub stand-beside : (old w z es : List Node) → All (Stands old) es → Trades old [] es w → SameHolds w z → AreSpare z es
stand-beside old w z es all t same = record { rest = old; traded = trade old [] es z (λ f. omega (arith, t.weighs f, same.weighs f)); stand = all }

pub held-beside : (side : Side) (old new shared own : List Node) → HasHolds old own → Trades old [] shared new → HasHolds new (beside side shared own)
held-beside side old new shared own h t = record { weighs = λ f. omega (arith, h.weighs f, t.weighs f, sum-beside side f shared own) }

-- ---- refusals
pub refused-memory : (size : ℕ) (v : View) → IsRefusedFrom size [] Memory v v
refused-memory size v = record { traded = trade v.holds [] [] v.holds (λ f. omega arith); gained = gained-same v v refl; cause = tt; height = tt }

pub refused-take : (size : ℕ) (x : NodeError) (v w : View) → IsCause size x v w → IsNoted x v w → SameHolds v.holds w.holds → IsOfNoHeight x → IsRefusedFrom size [] x v w
refused-take size x v w cause noted same low = record { traded = same; gained = gained-refused x v w noted; cause = cause; height = low }

pub no-height : (x : TakeError) → IsOfNoHeight (refusal_of x)
no-height (take.NoNumber seen) = tt
no-height take.Memory = tt

-- what a refused call left is used up
pub refused-spent : (size : ℕ) (x : NodeError) (v w z : View) (spent : List Node) → Trades v.holds spent [] w.holds → GainedNodes v w → IsRefusedFrom size [] x w z → IsRefusedFrom size spent x v z
refused-spent size x v w z spent t g r = record {
  traded = trade v.holds spent [] z.holds (λ f. omega (arith, t.weighs f, r.traded.weighs f));
  gained = gained-then v w z g r.gained;
  cause = cause-within size x v w z z g r.cause (gained-same z z refl);
  height = r.height;
}

-- or it goes after the refusal
pub refused-then : (size : ℕ) (x : NodeError) (v w z y : View) (more spent : List Node) → Trades v.holds [] more w.holds → GainedNodes v w → IsRefusedFrom size [] x w z → Trades z.holds (more ++ spent) [] y.holds → GainedNodes z y → IsRefusedFrom size spent x v y
refused-then size x v w z y more spent t g r back gone = record {
  traded = trade v.holds spent [] y.holds (λ f. omega (arith, t.weighs f, r.traded.weighs f, back.weighs f, sum_by-append f more spent));
  gained = gained-then v w y g (gained-then w z y r.gained gone);
  cause = cause-within size x v w z y g r.cause gone;
  height = r.height;
}

pub alone-refused : (size : ℕ) (s : Shape) (x : NodeError) (v w : View) → IsRefusedFrom size [] x v w → IsLeftAlone size s x v w
alone-refused size s x v w r = record { holds = r.traded; gained = r.gained; cause = cause-of size s x v w r.cause r.height }

pub alone-high : (size : ℕ) (s : Shape) (v : View) → 12 < level s → IsLeftAlone size s (HeightLimit 12) v v
alone-high size s v high = record { holds = trade v.holds [] [] v.holds (λ f. omega arith); gained = gained-same v v refl; cause = (refl, high, refl) }

-- ---- what is made
all-within : (h : ℕ) (es : List Node) (e : Node) → IsBranchOf h es e → All (λ (s : Node). IsWithin s e) es
all-within h es e is = λ k d lt. below (subst (λ (cs : List Node). Contains cs (get_or es k d)) (sym (children-branch e h es is)) (All-contains es k d lt)) itself

kind-branch : (e : Node) (h : ℕ) (es : List Node) → IsBranchOf h es e → (e.0.kind ≡ External → ⊥)
kind-branch e h es is ext = absurd (branch-external (sym (ap (λ (t : Node). t.0.kind) is.body) ∙ ext))
  where
    branch-external : Branch ≡ External → ⊥
    branch-external e = absurd (cc)

pub made-branch : (size h : ℕ) (es : List Node) (v w : View) (e : Node) → IsBranchOf h es e → IsTaken size v w e → Trades v.holds es (e ∷ []) w.holds → IsMadeFrom es es v w e
made-branch size h es v w e branch taken traded = record {
  traded = traded;
  stand = all-within h es e branch;
  took = omega (arith, took-taken size v w e taken, nodes-edges e, ap (λ (ts : List Node). nodes_of_all ts) (children-branch e h es branch));
  gained = gained-taken size v w e (kind-branch e h es branch) taken;
}

-- where some of the edges were shared before
pub made-beside : (side : Side) (v w z : View) (shared own : List Node) (e : Node) → Trades v.holds [] shared w.holds → length w.taken ≡ length v.taken → GainedNodes v w
    → IsMadeFrom (beside side shared own) (beside side shared own) w z e → IsMadeFrom own (beside side shared own) v z e
made-beside side v w z shared own e t same g made = record {
  traded = trade v.holds own (e ∷ []) z.holds (λ f. omega (arith, t.weighs f, made.traded.weighs f, sum-beside side f shared own));
  stand = made.stand;
  took = omega (arith, same, made.took);
  gained = gained-then v w z g made.gained;
}

within-trans : {a b c : Node} → IsWithin a b → IsWithin b c → IsWithin a c
within-trans a itself = a
within-trans a (below d w) = below d (within-trans a w)

-- a tree that was made came under a node
pub made-under : (side : Side) (v w z : View) (kept shared : List Node) (c e : Node) → IsMadeFrom [] kept v w c → IsMadeFrom (c ∷ []) (beside side shared (c ∷ [])) w z e → IsMadeFrom [] (shared ++ kept) v z e
made-under side v w z kept shared c e a b = record {
  traded = trade v.holds [] (e ∷ []) z.holds (λ f. omega (arith, a.traded.weighs f, b.traded.weighs f));
  stand = All-append (λ (s : Node). IsWithin s e) shared kept (before side shared b.stand) (λ k d lt. within-trans (a.stand k d lt) (one side shared b.stand));
  took = omega (arith, a.took, b.took, sum-beside side nodes_in shared (c ∷ []), sum_by-append nodes_in shared kept);
  gained = gained-then v w z a.gained b.gained;
}
  where
    before : (s : Side) (es : List Node) → All (λ (m : Node). IsWithin m e) (beside s es (c ∷ [])) → All (λ (m : Node). IsWithin m e) es
    before s es all = All-rest_placed s (λ (m : Node). IsWithin m e) es c (subst (All (λ (m : Node). IsWithin m e)) (beside-one s es c) all)

    one : (s : Side) (es : List Node) → All (λ (m : Node). IsWithin m e) (beside s es (c ∷ [])) → IsWithin c e
    one s es all = All-one_placed s (λ (m : Node). IsWithin m e) es c (subst (All (λ (m : Node). IsWithin m e)) (beside-one s es c) all)

pub made-same : (t e : Node) (v w : View) → e ≡ t → length w.taken ≡ length v.taken → GainedNodes v w → Trades v.holds [] (t ∷ []) w.holds → IsMadeFrom [] (t ∷ []) v w e
made-same t e v w is same g traded = record {
  traded = trade v.holds [] (e ∷ []) w.holds (λ f. omega (arith, traded.weighs f, ap f is));
  stand = All-cons (λ (s : Node). IsWithin s e) t [] (subst (λ (z : Node). IsWithin t z) (sym is) itself) (All-nil _);
  took = omega (arith, same, ap nodes_in is);
  gained = g;
}

-- what else goes then
pub made-spent : (v w z : View) (spent kept : List Node) (e : Node) → IsMadeFrom [] kept v w e → Trades w.holds spent [] z.holds → length z.taken ≡ length w.taken → GainedNodes w z → IsMadeFrom spent kept v z e
made-spent v w z spent kept e made t same g = record {
  traded = trade v.holds spent (e ∷ []) z.holds (λ f. omega (arith, made.traded.weighs f, t.weighs f));
  stand = made.stand;
  took = omega (arith, made.took, same);
  gained = gained-then v w z made.gained g;
}

pub took-finished : (e : Node) (v w : View) → IsFinished e v w → length w.taken ≡ length v.taken
took-finished e v w is = ap (λ (z : View). length z.taken) is.view

pub all-short : (h : ℕ) (es : List Node) → h ≤ 12 → All (IsTreeAt h) es → All (λ (e : Node). branches_down e ≤ 12) es
all-short h es low all = λ k d lt. omega (arith, tree-down h _ (all k d lt), low)

-- a Branch of the one edge that was made
pub made-over : (v w z : View) (kept : List Node) (top e : Node) → IsMadeFrom [] kept v w top → IsMadeFrom (top ∷ []) (top ∷ []) w z e → IsMadeFrom [] kept v z e
made-over v w z kept top e a b = record {
  traded = trade v.holds [] (e ∷ []) z.holds (λ f. omega (arith, a.traded.weighs f, b.traded.weighs f));
  stand = λ k d lt. within-trans (a.stand k d lt) (b.stand 0 top (omega arith));
  took = omega (arith, a.took, b.took);
  gained = gained-then v w z a.gained b.gained;
}

pub refused-over : (size : ℕ) (x : NodeError) (v w z y : View) (kept : List Node) (top : Node) → IsMadeFrom [] kept v w top → IsRefusedFrom size [] x w z → Trades z.holds (top ∷ []) [] y.holds → IsFinished top z y → IsRefusedFrom size [] x v y
refused-over size x v w z y kept top a r back gone = record {
  traded = trade v.holds [] [] y.holds (λ f. omega (arith, a.traded.weighs f, r.traded.weighs f, back.weighs f));
  gained = gained-then v w y a.gained (gained-then w z y r.gained (gained-finished top z y gone));
  cause = cause-within size x v w z y a.gained r.cause (gained-finished top z y gone);
  height = r.height;
}

-- what is made over a tree that was made, or refused
pub refused-made : (size : ℕ) (x : NodeError) (v w z : View) (kept : List Node) (top : Node) → IsMadeFrom [] kept v w top → IsRefusedFrom size (top ∷ []) x w z → IsRefusedFrom size [] x v z
refused-made size x v w z kept top a r = record {
  traded = trade v.holds [] [] z.holds (λ f. omega (arith, a.traded.weighs f, r.traded.weighs f));
  gained = gained-then v w z a.gained r.gained;
  cause = cause-within size x v w z z a.gained r.cause (gained-same z z refl);
  height = r.height;
}

-- the edges of what was refused go
pub refused-gone : (size : ℕ) (x : NodeError) (v w z : View) (spent : List Node) → IsRefusedFrom size [] x v w → Trades w.holds spent [] z.holds → GainedNodes w z → IsRefusedFrom size spent x v z
refused-gone size x v w z spent r t g = record {
  traded = trade v.holds spent [] z.holds (λ f. omega (arith, r.traded.weighs f, t.weighs f));
  gained = gained-then v w z r.gained g;
  cause = cause-within size x v v w z (gained-same v v refl) r.cause g;
  height = r.height;
}

-- two holds go behind it
pub made-finished : (v w x z : View) (t n : Node) (e : Node) (kept : List Node) → IsMadeFrom [] kept v w e → Trades w.holds (t ∷ []) [] x.holds → IsFinished t w x → Trades x.holds (n ∷ []) [] z.holds → IsFinished n x z → IsMadeFrom (t ∷ n ∷ []) kept v z e
made-finished v w x z t n e kept made a first b second =
    made-spent v w z (t ∷ n ∷ []) kept e made (trade w.holds (t ∷ n ∷ []) [] z.holds (λ f. omega (arith, a.weighs f, b.weighs f, sum_by-append f (t ∷ []) (n ∷ []))))
    (took-finished n x z second ∙ took-finished t w x first) (gained-then w x z (gained-finished t w x first) (gained-finished n x z second))

pub tree-short : (e : Node) → IsTree (shape_of e) → IsFilled e → branches_down e ≤ 12
tree-short e root full = omega (arith, tree-down (level (shape_of e)) e (record { at = refl; node = root.node; filled = full }), root.low)

-- the error at the exit of a `?` that keeps its type
pub err-same : {T : Type 0} (r : Result T NodeError) (x : NodeError) (Q : NodeError → Type 0) → IsErrAnd r (λ y. y ≡ x) → Q x → IfErr r Q
err-same (Ok z) x Q is q = absurd is
err-same (Err y) x Q is q = subst Q (sym is) q
