-- What the calls that add flats and trees leave a worker with, one after another.
use Rattle.std.proofs.Common.{ℕ, ◌≡◌, ◌+◌, ◌≤◌, List, [], ◌∷◌, ◌++◌, length, sum_by, refl, ap, subst, ◌∙◌, arith}
use Rattle.std.specs.List.{All}
use Rattle.std.specs.Prelude.{Result, Ok, Err, IfOk, IfErr, Contains}
use Rattle.std.proofs.lemmas.List.{length-append}
use Rattle.std.proofs.lemmas.List.Sums.{sum_by-append}
use Rattle.std.proofs.lemmas.List.Elements.{All-cons, All-nil, All-append}
use Rattle.node_forest.specs.declared.side.Side.{Side}
use Rattle.node_forest.specs.declared.side.Side.TheVariants.{Front, Back}
use Rattle.node_forest.specs.Forest.{node_count}
use Rattle.node_forest.specs.Label.{Node, number}
use Rattle.pool_rule.specs.Trades.{Trades, SameHolds, HasHolds, IsWithin, itself, below}
use Rattle.pool_rule.specs.Views.{View, sharing}
use Rattle.pool_rule.proofs.Trades.{trade}
use Rattle.node_pool.specs.Finishes.{IsFinished}
use Rattle.node_pool.specs.Refusals.{IsCause, IsNoted, IsOfNoHeight}
use Rattle.node_pool.specs.declared.refusals.NodeError.{NodeError}
use Rattle.flat_nodes.specs.Flats.{new_flat_node, IsAdded}
use Rattle.flat_nodes.proofs.Flats as flats
use Rattle.tree_shapes.specs.Growth.{placed}
use Rattle.tree_shapes.proofs.RoomLaws.{All-rest_placed, All-one_placed}
use Rattle.btree_node.specs.Made.{nodes_in, nodes_of_all, GainedNodes, IsMadeFrom, IsRefusedFrom}
use Rattle.btree_node.proofs.GainLaws.{gained-same, gained-then, gained-shared, gained-finished, cause-within, gained-refused}
use Rattle.btree_node.proofs.MadeLaws.{made-same, made-spent, took-finished}
use Rattle.btree_edit.specs.Steps.{IsGrownFrom}

-- ---- flats
pub gained-added : (size : ℕ) (v w : View) (e : Node) → IsAdded size v w e → GainedNodes v w
gained-added size v w e is = record { numbers = number e ∷ []; found = is.found; back = []; shares = 0; is = flats.gained-added size v w e is }

took-added : (size : ℕ) (v w : View) (e : Node) → IsAdded size v w e → length w.taken ≡ length v.taken + 1
took-added size v w e is = ap (λ (z : View). length z.taken) is.view ∙ length-append v.taken (number e ∷ [])

pub refused-flat : (size : ℕ) (x : NodeError) (v w : View) → IsCause size x v w → IsOfNoHeight x → IsNoted x v w → SameHolds v.holds w.holds → IsRefusedFrom size [] x v w
refused-flat size x v w cause low noted same = record { traded = same; gained = gained-refused x v w noted; cause = cause; height = low }

pub all-err : {T : Type 0} → (r : Result T NodeError) (A B C D E : NodeError → Type 0) → ((x : NodeError) → A x → B x → C x → D x → E x) → IfErr r A → IfErr r B → IfErr r C → IfErr r D → IfErr r E
all-err (Ok y) A B C D E f a b c d = tt
all-err (Err x) A B C D E f a b c d = f x a b c d

-- ---- results
pub both-ok : {T E : Type 0} → (r : Result T E) (A B C : T → Type 0) → ((x : T) → A x → B x → C x) → IfOk r A → IfOk r B → IfOk r C
both-ok (Ok x) A B C f a b = f x a b
both-ok (Err e) A B C f a b = tt

pub made-flat : (size : ℕ) (v w : View) (e : Node) (bytes : List ℕ) → e ≡ new_flat_node e.0.number bytes → IsAdded size v w e → Trades v.holds [] (e ∷ []) w.holds → IsMadeFrom [] [] v w e
made-flat size v w e bytes is added traded = record {
  traded = traded;
  stand = All-nil _;
  took = (let none : node_count e.1 ≡ 0 = ap (λ (t : Node). node_count t.1) is in omega (arith, took-added size v w e added, none));
  gained = gained-added size v w e added;
}

-- ---- one tree more
pub none-held : (holds es : List Node) → es ≡ [] → HasHolds holds es
none-held holds es e = record { weighs = λ f. omega (arith, ap (sum_by f) e) }

sum-edge : (side : Side) (f : Node → ℕ) (es : List Node) (e : Node) → sum_by f (placed side es e) ≡ sum_by f es + f e
sum-edge Front f es e = omega (arith, sum_by-append f (e ∷ []) es)
sum-edge Back f es e = omega (arith, sum_by-append f es (e ∷ []))

pub gather-more : (side : Side) (v w x : View) (before es : List Node) (e : Node) → Trades v.holds before es w.holds → IsMadeFrom [] [] w x e → Trades v.holds before (placed side es e) x.holds
gather-more side v w x before es e a b = trade v.holds before (placed side es e) x.holds (λ f. omega (arith, a.weighs f, b.traded.weighs f, sum-edge side f es e))

pub took-more : (side : Side) (v w x : View) (before es : List Node) (e : Node) → length w.taken + nodes_of_all before ≡ length v.taken + nodes_of_all es → IsMadeFrom [] [] w x e → length x.taken + nodes_of_all before ≡ length v.taken + nodes_of_all (placed side es e)
took-more side v w x before es e a b = omega (arith, a, b.took, sum-edge side nodes_in es e)

pub gather-refused : (size : ℕ) (error : NodeError) (v w x : View) (before es : List Node) → Trades v.holds before es w.holds → IsRefusedFrom size [] error w x → Trades v.holds before es x.holds
gather-refused size error v w x before es a b = trade v.holds before es x.holds (λ f. omega (arith, a.weighs f, b.traded.weighs f))

-- a Branch over what was made
pub made-over : (v w x : View) (es : List Node) (e : Node) → Trades v.holds [] es w.holds → length w.taken + nodes_of_all [] ≡ length v.taken + nodes_of_all es → GainedNodes v w → IsMadeFrom es es w x e → IsMadeFrom [] [] v x e
made-over v w x es e traded took gained made = record {
  traded = trade v.holds [] (e ∷ []) x.holds (λ f. omega (arith, traded.weighs f, made.traded.weighs f));
  stand = All-nil _;
  took = omega (arith, took, made.took);
  gained = gained-then v w x gained made.gained;
}

pub refused-over : (size : ℕ) (error : NodeError) (v w x : View) (es : List Node) → Trades v.holds [] es w.holds → GainedNodes v w → IsRefusedFrom size es error w x → IsRefusedFrom size [] error v x
refused-over size error v w x es traded gained refused = record {
  traded = trade v.holds [] [] x.holds (λ f. omega (arith, traded.weighs f, refused.traded.weighs f));
  gained = gained-then v w x gained refused.gained;
  cause = cause-within size error v w x x gained refused.cause (gained-same x x refl);
  height = refused.height;
}

pub refused-undone : (size : ℕ) (error : NodeError) (v w x : View) (es : List Node) → Trades v.holds [] es w.holds → GainedNodes v w → IsCause size error v w → IsOfNoHeight error → Trades w.holds es [] x.holds → GainedNodes w x → IsRefusedFrom size [] error v x
refused-undone size error v w x es traded gained cause low back gone = record {
  traded = trade v.holds [] [] x.holds (λ f. omega (arith, traded.weighs f, back.weighs f));
  gained = gained-then v w x gained gone;
  cause = cause-within size error v v w x (gained-same v v refl) cause gone;
  height = low;
}

-- ---- over edges that are shared
module _ (side : Side) (v w z x : View) (siblings es : List Node) (child : Node) (held : Trades v.holds [] siblings w.holds) (same : length w.taken ≡ length v.taken) (first : GainedNodes v w) (gained : Trades w.holds (placed side siblings child) es z.holds) (second : GainedNodes w z) where
  pub grown-over : (e : Node) → length z.taken + nodes_of_all (placed side siblings child) ≡ length w.taken + nodes_of_all es → All (Contains es) (placed side siblings child) → IsMadeFrom es es z x e → IsMadeFrom (child ∷ []) (siblings ++ child ∷ []) v x e
  grown-over e took kept made = record {
    traded = trade v.holds (child ∷ []) (e ∷ []) x.holds (λ f. omega (arith, held.weighs f, gained.weighs f, made.traded.weighs f, sum-edge side f siblings child));
    stand = apart side (λ k d lt. within-by (kept k d lt));
    took = omega (arith, same, took, made.took, sum-edge side nodes_in siblings child, sum_by-append nodes_in siblings (child ∷ []));
    gained = gained-then v w x first (gained-then w z x second made.gained);
  }
    where
      within-by : {m : Node} → Contains es m → IsWithin m e
      within-by {m = m} (k, lt, is) = subst (λ (n : Node). IsWithin n e) is (made.stand k m lt)

      apart : (s : Side) → All (λ (m : Node). IsWithin m e) (placed s siblings child) → All (λ (m : Node). IsWithin m e) (siblings ++ child ∷ [])
      apart s all = All-append (λ (m : Node). IsWithin m e) siblings (child ∷ []) (All-rest_placed s (λ (m : Node). IsWithin m e) siblings child all) (All-cons (λ (m : Node). IsWithin m e) child [] (All-one_placed s (λ (m : Node). IsWithin m e) siblings child all) (All-nil _))

  pub grown-refused : (size : ℕ) (error : NodeError) → IsRefusedFrom size es error z x → IsRefusedFrom size (child ∷ []) error v x
  grown-refused size error refused = record {
    traded = trade v.holds (child ∷ []) [] x.holds (λ f. omega (arith, held.weighs f, gained.weighs f, refused.traded.weighs f, sum-edge side f siblings child));
    gained = gained-then v w x first (gained-then w z x second refused.gained);
    cause = cause-within size error v z x x (gained-then v w z first second) refused.cause (gained-same x x refl);
    height = refused.height;
  }

  pub grown-undone : (size : ℕ) (error : NodeError) → IsCause size error w z → IsOfNoHeight error → Trades z.holds es [] x.holds → GainedNodes z x → IsRefusedFrom size (child ∷ []) error v x
  grown-undone size error cause low back gone = record {
    traded = trade v.holds (child ∷ []) [] x.holds (λ f. omega (arith, held.weighs f, gained.weighs f, back.weighs f, sum-edge side f siblings child));
    gained = gained-then v w x first (gained-then w z x second gone);
    cause = cause-within size error v w z x first cause gone;
    height = low;
  }

-- ---- from a tree to a larger one
pub grown-same : (l : ℕ) (t e : Node) (v w : View) → e ≡ t → w ≡ sharing t v → Trades v.holds [] (t ∷ []) w.holds → IsGrownFrom l t (t ∷ []) v w e
grown-same l t e v w is shared traded = record {
  made = made-same t e v w is (ap (λ (z : View). length z.taken) shared) (gained-shared t v w shared) traded;
  within = All-cons (λ (s : Node). IsWithin s t) t [] itself (All-nil _);
  most = omega arith;
}

within-trans : {a b c : Node} → IsWithin a b → IsWithin b c → IsWithin a c
within-trans a itself = a
within-trans a (below d w) = below d (within-trans a w)

pub grown-from : (l k : ℕ) (t last child e : Node) (siblings trees : List Node) (v w x : View) → IsGrownFrom k last trees v w child → All (λ (s : Node). IsWithin s t) (siblings ++ trees) → nodes_in t ≤ nodes_of_all (siblings ++ trees) + l → IsMadeFrom (child ∷ []) (siblings ++ child ∷ []) w x e → IsGrownFrom l t (siblings ++ trees) v x e
grown-from l k t last child e siblings trees v w x a within most b = record {
  made = record {
    traded = trade v.holds [] (e ∷ []) x.holds (λ f. omega (arith, a.made.traded.weighs f, b.traded.weighs f));
    stand = All-append (λ (s : Node). IsWithin s e) siblings trees before (λ i d lt. within-trans (a.made.stand i d lt) one);
    took = omega (arith, a.made.took, b.took, sum_by-append nodes_in siblings trees, sum_by-append nodes_in siblings (child ∷ []));
    gained = gained-then v w x a.made.gained b.gained;
  };
  within = within;
  most = most;
}
  where
    before : All (λ (s : Node). IsWithin s e) siblings
    before = All-rest_placed Back (λ (s : Node). IsWithin s e) siblings child b.stand

    one : IsWithin child e
    one = All-one_placed Back (λ (s : Node). IsWithin s e) siblings child b.stand

-- ---- at the root
pub grown-into : (l : ℕ) (t e : Node) (trees : List Node) (v w x : View) → IsGrownFrom l t trees v w e → Trades w.holds (t ∷ []) [] x.holds → IsFinished t w x → IsMadeFrom (t ∷ []) trees v x e
grown-into l t e trees v w x a traded finished = made-spent v w x (t ∷ []) trees e a.made traded (took-finished t w x finished) (gained-finished t w x finished)
