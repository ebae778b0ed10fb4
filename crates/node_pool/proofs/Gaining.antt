-- What a worker's lists gain by each call on the pool.
use Rattle.std.proofs.Common.{ℕ, ◌≡◌, ◌+◌, List, [], ◌∷◌, ◌++◌, refl, sym, ap, subst, ◌∙◌}
use Rattle.std.specs.Prelude.{Bool, true, false}
use Rattle.node_forest.specs.Label.{Node, number}
use Rattle.pool_rule.specs.Views.{View, taking, sharing, count_of, with_holds}
use Rattle.pool_rule.specs.Gains.{Gain, no_gain, gain_then, gaining, Gained, HasGained, SawAll}
use Rattle.pool_rule.specs.Notes.{uses_of}
use Rattle.pool_rule.proofs.Gains.{takes, unused-after, gaining-none, gained-is, gained-same, gained-then, gained-noting, gained-sharing, gained-holding, saw-within}
use Rattle.node_pool.specs.declared.calls.Left.{Left}
use Rattle.node_pool.specs.declared.refusals.NodeError.{NodeError}
use Rattle.node_pool.specs.declared.refusals.NodeError.TheVariants.{NoNumber, HeightLimit, Memory}
use Rattle.node_pool.specs.Answers.{noting_all, IsTaken, number_back, left_by}
use Rattle.node_pool.specs.Finishes.{IsFinished}
use Rattle.node_pool.specs.Passes.{counted, uncounted, filled, drawn, IsPassMade}
use Rattle.node_pool.specs.Paths.{found_lone, IsSharedLook}
use Rattle.node_pool.specs.Refusals.{IsCause, IsNoted}

-- ---- nodes
-- a node that was taken, with what was found in use before it
pub gained-taken : (size : ℕ) (v w : View) (e : Node) (is : IsTaken size v w e) → Gained (record (takes e) { full = is.found }) v w
gained-taken size v w e is =
    let found = noting_all is.found v in
    gained-is (record (takes e) { full = is.found }) v (taking e found) w is.view
    (λ i. record (gaining-none v i) {
      holds = (taking e found).holds;
      full = v.full ++ is.found;
      taken = v.taken ++ number e ∷ [];
      unused = unused-after e.0.kind e v.unused i;
      used = v.used ++ uses_of e.0.kind e;
    })

abbrev pub found_by : (x : NodeError) (v w : View) → IsNoted x v w → List ℕ
found_by (NoNumber seen) v w is = is.0
found_by (HeightLimit height) v w is = []
found_by Memory v w is = []

-- a node that wasn't made
pub gained-noted : (x : NodeError) (v w : View) (is : IsNoted x v w) → Gained (record no_gain { full = found_by x v w is }) v w
gained-noted (NoNumber seen) v w is = gained-is _ v (noting_all is.0 v) w is.2 (gained-noting v is.0)
gained-noted (HeightLimit height) v w is = gained-same v w is
gained-noted Memory v w is = gained-same v w is

-- what was found in use in the middle of a call was found in the call
pub cause-within : (size : ℕ) (x : NodeError) (g h : Gain) (u v w z : View) → Gained g u v → IsCause size x v w → Gained h w z → IsCause size x u z
cause-within size (NoNumber seen) g h u v w z a is b = (is.0, saw-within size g h u v w z a is.1 b)
cause-within size (HeightLimit height) g h u v w z a is b = tt
cause-within size Memory g h u v w z a is b = tt

pub gained-shared : (v w : View) (e : Node) → w ≡ sharing e v → Gained (record no_gain { shares = 1 }) v w
gained-shared v w e is = gained-is _ v (sharing e v) w is (gained-sharing v e)

gained-leaving_by : (v : View) (answer : Left) (e : Node) → Gained (record no_gain { returned = number_back answer e }) v (left_by answer e v)
gained-leaving_by v answer e = λ i. record (gaining-none v i) { holds = (left_by answer e v).holds; lone = (left_by answer e v).lone; returned = v.returned ++ number_back answer e }

pub gained-left : (v w : View) (answer : Left) (e : Node) → w ≡ left_by answer e v → Gained (record no_gain { returned = number_back answer e }) v w
gained-left v w answer e is = gained-is _ v (left_by answer e v) w is (gained-leaving_by v answer e)

pub gained-finished : (v w : View) (e : Node) (is : IsFinished e v w) → Gained (record no_gain { returned = is.back }) v w
gained-finished v w e is = is.view ∙ (λ i. record (gaining-none v i) { holds = w.holds; lone = (sym is.view i).lone; returned = v.returned ++ is.back })

-- ---- looks and marks
pub gained-found_lone : (v w : View) (e : Node) → w ≡ found_lone e v → Gained no_gain v w
gained-found_lone v w e is = gained-is no_gain v (found_lone e v) w is (gained-holding v v.holds (found_lone e v).lone)

pub gained-found_shared : (v w : View) (e : Node) (is : IsSharedLook e v w) → Gained (record no_gain { looks = record { number = number e; found = is.found; shares = v.shares } ∷ [] }) v w
gained-found_shared v w e is = gained-is _ v _ w is.view (λ i. record (gaining-none v i) { looks = v.looks ++ record { number = number e; found = is.found; shares = v.shares } ∷ [] })

-- direct holds alone change
pub gained-held : (v w : View) (holds : List Node) → w ≡ with_holds v holds → Gained no_gain v w
gained-held v w holds is = gained-is no_gain v (with_holds v holds) w is (gained-holding v holds v.lone)

-- ---- passes
gained-counting : (v : View) (found : ℕ) → Gained (record no_gain { counts = count_of found v ∷ [] }) v (counted found v)
gained-counting v found = λ i. record (gaining-none v i) { made = v.made + 1; counts = v.counts ++ count_of found v ∷ [] }

gained-uncounting : (v : View) → Gained (record no_gain { ended = 1 }) v (uncounted v)
gained-uncounting v = λ i. record (gaining-none v i) { ended = v.ended + 1 }

pub gained-made : (limit : ℕ) (v w : View) (is : IsPassMade limit v w) → Gained (record no_gain { counts = count_of is.found v ∷ [] }) v w
gained-made limit v w is = gained-is _ v (counted is.found v) w is.view (gained-counting v is.found)

pub gained-ended : (v w : View) → w ≡ uncounted v → Gained (record no_gain { ended = 1 }) v w
gained-ended v w is = gained-is _ v (uncounted v) w is (gained-uncounting v)

pub gained-undone : (v w : View) (found : ℕ) → w ≡ uncounted (counted found v) → Gained (record no_gain { counts = count_of found v ∷ []; ended = 1 }) v w
gained-undone v w found is = gained-then _ _ v (counted found v) w (gained-counting v found) (gained-ended (counted found v) w is)

pub gained-drawn : (v w p : View) → w ≡ drawn v p → Gained no_gain v w
gained-drawn v w p is = gained-held v w (drawn v p).holds is

pub gained-filled : (v w : View) (e : Node) → w ≡ filled e v → Gained no_gain v w
gained-filled v w e is = gained-is no_gain v (filled e v) w is (gained-holding v (filled e v).holds (filled e v).lone)

pub gained-drawn_and_ended : (v w p : View) → w ≡ uncounted (drawn v p) → Gained (record no_gain { ended = 1 }) v w
gained-drawn_and_ended v w p is = gained-then no_gain (record no_gain { ended = 1 }) v (drawn v p) w (gained-drawn v (drawn v p) p refl) (gained-ended (drawn v p) w is)

pub gained-pass_shared : (v w p : View) (e : Node) → w ≡ filled e (filled e (sharing e (drawn v p))) → Gained (record no_gain { shares = 1 }) v w
gained-pass_shared v w p e is =
    let a = drawn v p in
    let b = sharing e a in
    let c = filled e b in
    gained-then no_gain (record no_gain { shares = 1 }) v a w (gained-drawn v a p refl)
    (gained-then (record no_gain { shares = 1 }) no_gain a b w (gained-sharing a e)
    (gained-then no_gain no_gain b c w (gained-filled b c e refl) (gained-filled c w e is)))
