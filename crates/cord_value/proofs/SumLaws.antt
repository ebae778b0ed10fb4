-- What a Sum at the root says, and what making one leaves a worker with.
use Rattle.std.proofs.Common.{ℕ, ◌≡◌, ◌<◌, ◌≤◌, inr, List, [], ◌∷◌, refl, sym, ap, subst, ◌∙◌, arith, Option, Some, None}
use Rattle.std.specs.Prelude.{Result, Ok, Err, IfOk, IfErr, IsSome, length}
use Rattle.node_forest.specs.declared.kind.Kind.TheVariants.{External as IsExternal, Sum as IsSum}
use Rattle.node_forest.specs.Label.{Node}
use Rattle.tree_shapes.specs.Cords.{CordShape, rooted, with_sum, without_sum}
use Rattle.tree_shapes.specs.Shape.{Shape, level}
use Rattle.tree_shapes.specs.Sums.{sum_in, sum_over}
use Rattle.node_edges.specs.declared.edge.Body.{Body}
use Rattle.node_edges.specs.declared.edge.Body.TheVariants.{Flat, External, Part, Sum, Branch}
use Rattle.node_edges.specs.Body.{node_with, HasBody}
use Rattle.node_edges.specs.Roots.{below_sum}
use Rattle.node_edges.specs.Text.{text}
use Rattle.node_edges.specs.Trees.{shape_of, IsWellFormed}
use Rattle.node_edges.proofs.TextLaws.{length-whole}
use Rattle.std.proofs.lemmas.List.Elements.{All-cons, All-nil}
use Rattle.pool_rule.specs.Gains.{no_gain, Gained}
use Rattle.pool_rule.specs.Trades.{AreSpare, SameHolds, Stands, Trades}
use Rattle.pool_rule.specs.Views.{View, sharing}
use Rattle.pool_rule.proofs.Trades.{trade}
use Rattle.node_pool.specs.Answers.{IsTaken}
use Rattle.node_pool.specs.Refusals.{IsCause, IsNoted, IsOfNoHeight}
use Rattle.node_pool.specs.declared.refusals.NodeError.{NodeError}
use Rattle.btree_node.specs.Made.{GainedNodes, IsRefusedFrom}
use Rattle.btree_node.proofs.GainLaws.{gained-shared, gained-taken, gained-then}
use Rattle.btree_node.proofs.MadeLaws.{refused-take, refused-then}
use Rattle.crc_nodes.specs.Sums.{sum_node}
use Rattle.cord_value.specs.Changes.{IsFit}
use Rattle.cord_value.specs.Forms.{IsKept}
use Rattle.cord_value.specs.Grown.{IsMadeBeside}
use Rattle.cord_value.specs.Views.{IsTreeOf}
use Rattle.cord_value.proofs.Roots.{below-formed, bare-formed}

-- ---- the sum that is said
pub sum-value : (e : Node) (value : ℕ) (child : Option Node) → HasBody e (Sum value child) → sum_in (shape_of e) ≡ Some value
unfolding shape_of
sum-value e value None is = ap (λ (t : Node). sum_in (shape_of t)) is
sum-value e value (Some c) is = ap (λ (t : Node). sum_in (shape_of t)) is

none-in : (n l : ℕ) (b : Body) → ((v : ℕ) (c : Option Node) → b ≡ Sum v c → ⊥) → sum_in (shape_of (node_with n l b)) ≡ None
unfolding shape_of
none-in n l (Flat bs r) no_sum = refl
none-in n l (External bs s) no_sum = refl
none-in n l (Part s k c) no_sum = refl
none-in n l (Sum v c) no_sum = absurd (no_sum v c refl)
none-in n l (Branch h es) no_sum = refl

pub no-value : (e : Node) (b : Body) → HasBody e b → ((v : ℕ) (c : Option Node) → b ≡ Sum v c → ⊥) → sum_in (shape_of e) ≡ None
no-value e b is no_sum = ap (λ (t : Node). sum_in (shape_of t)) is ∙ none-in e.0.number e.0.length b no_sum

-- a tree with a sum needs no bytes
needed-over : (value : ℕ) (o : Option Shape) → IsSome (sum_in (sum_over value o))
needed-over value None = refl
needed-over value (Some t) = refl

pub sum-formed : (e : Node) (value : ℕ) (o : Option Shape) → IsWellFormed e → shape_of e ≡ sum_over value o → IsTreeOf (text e) (Some e)
sum-formed e value o formed is = (formed, refl, inr (subst (λ (s : Shape). IsSome (sum_in s)) (sym is) (needed-over value o)))

pub sum-kept : (holds : List Node) (e : Node) (value : ℕ) (o : Option Shape) → holds ≡ e ∷ [] → IsWellFormed e → shape_of e ≡ sum_over value o → length (text e) ≤ 2147483647 → IsKept holds e
sum-kept holds e value o pass formed is short =
    record { pass = pass; formed = formed; needed = inr (subst (λ (s : Shape). IsSome (sum_in s)) (sym is) (needed-over value o)); short = omega (arith, short, length-whole e formed) }

-- a Sum is never too high
low-over : (value : ℕ) (o : Option Shape) → 12 < level (sum_over value o) → ⊥
unfolding level
low-over value None high = absurd (omega (arith, high))
low-over value (Some t) high = absurd (omega (arith, high))

pub fit-sum : (value : ℕ) (c : CordShape) → c.size ≤ 2147483647 → IsFit (with_sum value c)
fit-sum value c short = (short, low-over value (rooted c.size (without_sum c.tree)))

-- an old tree is never made a flat of
rooted-by : (e : Node) (o : Option Node) → IsWellFormed e → below_sum e ≡ o → rooted (length (text e)) (without_sum (Some (shape_of e))) ≡ without_sum (Some (shape_of e))
rooted-by e None formed is =
    let b = bare-formed e formed is in
    ap (rooted (length (text e))) b.shape ∙ (ap (λ (n : ℕ). rooted n None) (ap length b.none) ∙ sym b.shape)
rooted-by e (Some t) formed is =
    let b = below-formed e t formed is in
    ap (rooted (length (text e))) b.shape ∙ sym b.shape

pub rooted-root : (e : Node) → IsWellFormed e → rooted (length (text e)) (without_sum (Some (shape_of e))) ≡ without_sum (Some (shape_of e))
rooted-root e formed = rooted-by e (below_sum e) formed refl

abbrev pub summed_with : ℕ → ℕ → Option Shape → CordShape
summed_with value n o = record { size = n; tree = Some (sum_over value o) }

-- ---- what is gained
sum-external : IsSum ≡ IsExternal → ⊥
sum-external e = absurd (cc)

no-external : (e : Node) (value : ℕ) (child : Option Node) → e ≡ sum_node e.0.number value child → (e.0.kind ≡ IsExternal → ⊥)
no-external e value None is ext = absurd (sum-external (sym (ap (λ (t : Node). t.0.kind) is) ∙ ext))
no-external e value (Some c) is ext = absurd (sum-external (sym (ap (λ (t : Node). t.0.kind) is) ∙ ext))

-- a Sum was taken over nothing
pub sum-bare : (size : ℕ) (v w : View) (e : Node) (value : ℕ) (child : Option Node) → e ≡ sum_node e.0.number value child → IsTaken size v w e → Trades v.holds [] (e ∷ []) w.holds → IsMadeBeside v w e
sum-bare size v w e value child is taken traded = record { traded = traded; gained = gained-taken size v w e (no-external e value child is) taken }

-- or over a tree that was shared for it
pub sum-shared : (size : ℕ) (v a w : View) (t e : Node) (value : ℕ) → a ≡ sharing t v → Trades v.holds [] (t ∷ []) a.holds → e ≡ sum_node e.0.number value (Some t)
    → IsTaken size a w e → Trades a.holds (t ∷ []) (e ∷ []) w.holds → IsMadeBeside v w e
sum-shared size v a w t e value shared came is taken traded = record {
  traded = trade v.holds [] (e ∷ []) w.holds (λ f. omega (arith, came.weighs f, traded.weighs f));
  gained = gained-then v a w (gained-shared t v a shared) (gained-taken size a w e (no-external e value (Some t) is) taken);
}

-- or over one that was made for it
pub sum-made : (size : ℕ) (v a w : View) (t e : Node) (value : ℕ) → GainedNodes v a → Trades v.holds [] (t ∷ []) a.holds → e ≡ sum_node e.0.number value (Some t)
    → IsTaken size a w e → Trades a.holds (t ∷ []) (e ∷ []) w.holds → IsMadeBeside v w e
sum-made size v a w t e value gained came is taken traded = record {
  traded = trade v.holds [] (e ∷ []) w.holds (λ f. omega (arith, came.weighs f, traded.weighs f));
  gained = gained-then v a w gained (gained-taken size a w e (no-external e value (Some t) is) taken);
}

-- ---- what a refusal leaves
pub spare-shared : (v w a : List Node) (t : Node) → Stands v t → Trades v [] (t ∷ []) a → SameHolds a w → AreSpare w (t ∷ [])
spare-shared v w a t stands came same = record {
  rest = v;
  traded = trade v [] (t ∷ []) w (λ f. omega (arith, came.weighs f, same.weighs f));
  stand = All-cons (Stands v) t [] stands (All-nil (Stands v));
}

-- the tree that was to come under the Sum went again
pub refused-undone : (size : ℕ) (x : NodeError) (v a w z : View) (t : Node) → GainedNodes v a → Trades v.holds [] (t ∷ []) a.holds → IsCause size x a w → IsOfNoHeight x → IsNoted x a w
    → SameHolds a.holds w.holds → Trades w.holds (t ∷ []) [] z.holds → GainedNodes w z → IsRefusedFrom size [] x v z
refused-undone size x v a w z t gained came cause low noted same went back =
    refused-then size x v a w z (t ∷ []) [] came gained (refused-take size x a w cause noted same low)
    (trade w.holds (t ∷ []) [] z.holds went.weighs) back

pub gained-nothing : (v w : View) → Gained no_gain v w → GainedNodes v w
gained-nothing v w is = record { numbers = []; found = []; back = []; shares = 0; is = is }

pub none-of : {T : Type 0} (o : Option T) → ((x : T) → o ≡ Some x → ⊥) → o ≡ None
none-of None never = refl
none-of (Some x) never = absurd (never x refl)

-- ---- over results
pub ok-both : {T E : Type 0} (r : Result T E) (A B C : T → Type 0) → ((x : T) → A x → B x → C x) → IfOk r A → IfOk r B → IfOk r C
ok-both (Ok x) A B C f a b = f x a b
ok-both (Err x) A B C f a b = tt

pub ok-three : {T E : Type 0} (r : Result T E) (A B C D : T → Type 0) → ((x : T) → A x → B x → C x → D x) → IfOk r A → IfOk r B → IfOk r C → IfOk r D
ok-three (Ok x) A B C D f a b c = f x a b c
ok-three (Err x) A B C D f a b c = tt

pub err-four : {T E : Type 0} (r : Result T E) (A B C D F : E → Type 0) → ((x : E) → A x → B x → C x → D x → F x) → IfErr r A → IfErr r B → IfErr r C → IfErr r D → IfErr r F
err-four (Ok x) A B C D F f a b c d = tt
err-four (Err x) A B C D F f a b c d = f x a b c d
