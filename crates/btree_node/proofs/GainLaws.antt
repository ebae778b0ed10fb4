-- What the calls of the pool gain where no pass, no look and no external is in play.
use Rattle.std.proofs.Common.{ℕ, ◌≡◌, ◌+◌, List, [], ◌∷◌, ◌++◌, length, refl, sym, ap, subst, ◌∙◌, append-nil}
use Rattle.std.proofs.lemmas.List.{length-append}
use Rattle.node_forest.specs.declared.kind.Kind.{Kind}
use Rattle.node_forest.specs.declared.kind.Kind.TheVariants.{Flat, External, Part, Sum, Branch}
use Rattle.node_forest.specs.Label.{Node, number}
use Rattle.pool_rule.specs.Gains.{Gain, no_gain, Gained}
use Rattle.pool_rule.specs.Notes.{Use, uses_of}
use Rattle.pool_rule.specs.Views.{View, taking, sharing}
use Rattle.pool_rule.proofs.Gains.{gaining-none, gained-is, gained-taking, gained-noting, gained-sharing}
use Rattle.pool_rule.proofs.Gains as gains
use Rattle.node_pool.specs.Answers.{noting_all, IsTaken}
use Rattle.node_pool.specs.Finishes.{IsFinished}
use Rattle.node_pool.specs.Refusals.{IsCause, IsNoted}
use Rattle.node_pool.specs.Slices.{AreFinished}
use Rattle.node_pool.specs.declared.refusals.NodeError.{NodeError}
use Rattle.node_pool.proofs.Gaining.{found_by, gained-noted}
use Rattle.node_pool.proofs.Gaining as gaining
use Rattle.btree_node.specs.Made.{node_gain, GainedNodes}

pub gained-same : (v w : View) → w ≡ v → GainedNodes v w
gained-same v w e = record { numbers = []; found = []; back = []; shares = 0; is = gains.gained-same v w e }

pub gained-then : (v w x : View) → GainedNodes v w → GainedNodes w x → GainedNodes v x
gained-then v w x a b = record {
  numbers = a.numbers ++ b.numbers;
  found = a.found ++ b.found;
  back = a.back ++ b.back;
  shares = a.shares + b.shares;
  is = gains.gained-then (node_gain a.numbers a.found a.back a.shares) (node_gain b.numbers b.found b.back b.shares) v w x a.is b.is;
}

noted : (v : View) (ns : List ℕ) → GainedNodes v (noting_all ns v)
noted v ns = record { numbers = []; found = ns; back = []; shares = 0; is = gained-noting v ns }

uses-none : (k : Kind) (t : Node) → (k ≡ External → ⊥) → uses_of k t ≡ []
uses-none Flat t not = refl
uses-none External t not = absurd (not refl)
uses-none Part t not = refl
uses-none Sum t not = refl
uses-none Branch t not = refl

gained-take : (v : View) (t : Node) → (t.0.kind ≡ External → ⊥) → GainedNodes v (taking t v)
gained-take v t not = record {
  numbers = number t ∷ [];
  found = [];
  back = [];
  shares = 0;
  is = subst (λ (us : List Use). Gained (record no_gain { taken = number t ∷ []; used = us }) v (taking t v)) (uses-none t.0.kind t not) (gained-taking v t);
}

pub gained-taken : (size : ℕ) (v w : View) (e : Node) → (e.0.kind ≡ External → ⊥) → IsTaken size v w e → GainedNodes v w
gained-taken size v w e not is =
    let u = noting_all is.found v in
    gained-then v u w (noted v is.found) (subst (λ (z : View). GainedNodes u z) (sym is.view) (gained-take u e not))

pub took-taken : (size : ℕ) (v w : View) (e : Node) → IsTaken size v w e → length w.taken ≡ length v.taken + 1
took-taken size v w e is = ap (λ (z : View). length z.taken) is.view ∙ length-append v.taken (number e ∷ [])

pub gained-back : (v w : View) (back : List ℕ) → w ≡ record v { holds = w.holds; returned = v.returned ++ back; lone = w.lone } → GainedNodes v w
gained-back v w back is = record {
  numbers = [];
  found = [];
  back = back;
  shares = 0;
  is = is ∙ (λ i. record (gaining-none v i) { holds = w.holds; lone = w.lone; returned = v.returned ++ back });
}

pub gained-finished : (e : Node) (v w : View) → IsFinished e v w → GainedNodes v w
gained-finished e v w is = gained-back v w is.back (is.view ∙ (λ i. record v { holds = w.holds; returned = v.returned ++ is.back; lone = (sym is.view i).lone }))

pub gained-shared : (e : Node) (v w : View) → w ≡ sharing e v → GainedNodes v w
gained-shared e v w is = subst (λ (z : View). GainedNodes v z) (sym is) (record { numbers = []; found = []; back = []; shares = 1; is = gained-sharing v e })

pub gained-finished_all : (es : List Node) (v w : View) → AreFinished es v w → GainedNodes v w
gained-finished_all es v w is = record { numbers = []; found = []; back = is.back; shares = 0; is = is.gained }

pub gained-shared_all : (n : ℕ) (v w : View) → Gained (record no_gain { shares = n }) v w → GainedNodes v w
gained-shared_all n v w is = record { numbers = []; found = []; back = []; shares = n; is = is }

pub gained-none : (v w : View) → Gained no_gain v w → GainedNodes v w
gained-none v w is = record { numbers = []; found = []; back = []; shares = 0; is = is }

pub gained-refused : (x : NodeError) (v w : View) → IsNoted x v w → GainedNodes v w
gained-refused x v w is = record { numbers = []; found = found_by x v w is; back = []; shares = 0; is = gained-noted x v w is }

-- what a gain without taken numbers leaves of them
pub took-none : (g : Gain) (v w : View) → Gained g v w → g.taken ≡ [] → length w.taken ≡ length v.taken
took-none g v w is none = ap (λ (z : View). length z.taken) is ∙ (ap (λ (ns : List ℕ). length (v.taken ++ ns)) none ∙ ap (λ (ns : List ℕ). length ns) (append-nil v.taken))

-- ---- numbers in use
pub cause-within : (size : ℕ) (x : NodeError) (u v w z : View) → GainedNodes u v → IsCause size x v w → GainedNodes w z → IsCause size x u z
cause-within size x u v w z a is b = gaining.cause-within size x (node_gain a.numbers a.found a.back a.shares) (node_gain b.numbers b.found b.back b.shares) u v w z a.is is b.is
