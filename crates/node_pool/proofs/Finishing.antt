-- Edges that are left one after another, from the top of a tree down.
use Rattle.std.proofs.Common.{◌≡◌, ℕ, zero, suc, ◌+◌, ◌*◌, ◌<◌, ◌≤◌, eqb, Bool, List, [], ◌∷◌, ◌++◌, length, sum_by, take, get_or, refl, sym, ap, subst, ◌∙◌, arith, eq-eqb, ne_eqb, append_assoc}
use Rattle.std.specs.List.{All, Contains}
use Rattle.std.proofs.lemmas.List.{take_all}
use Rattle.std.proofs.lemmas.List.Elements.{All-append, Contains-get_or}
use Rattle.std.proofs.lemmas.List.Sums.{sum_by-append, sum_by_more, sum_by_more_le, get_or-le-sum_by}
use mathlib.Core.Logic.{dite}
use native.Mathlib.Decide.{ℕ_discrete}
use Rattle.node_forest.specs.Forest.{children, node_count}
use Rattle.node_forest.specs.Label.{Node}
use Rattle.node_forest.specs.Counts.{is, times}
use Rattle.node_edges.specs.Ways.{branches_down}
use Rattle.node_edges.proofs.WayLaws.{nodes-edges}
use Rattle.pool_rule.specs.Notes.{keep_if, lone_but}
use Rattle.pool_rule.specs.Trades.{HasHolds, Trades, IsWithin, itself, below}
use Rattle.pool_rule.specs.Views.{View}
use Rattle.pool_rule.proofs.Trades.{trade}
use Rattle.node_pool.specs.declared.calls.Left.{Left}
use Rattle.node_pool.specs.declared.calls.Left.TheVariants.{Shared, Last}
use Rattle.node_pool.specs.Answers.{freed, number_back, left_by}
use Rattle.node_pool.specs.Finishes.{IsNumberIn, IsFinished}

times-append : (n : ℕ) (a b : List Node) → times n (a ++ b) ≡ times n a + times n b
times-append n [] b = omega arith
times-append n (t ∷ ts) b = omega (arith, times-append n ts b)

-- numbers that none of these nodes has, and none of those
lone_but-append : (a b : List Node) (ns : List ℕ) → lone_but b (lone_but a ns) ≡ lone_but (a ++ b) ns
lone_but-append a b [] = refl
lone_but-append a b (n ∷ ns) =
    let r = lone_but-append a b ns in
    let sum = times-append n a b in
    dite (ℕ_discrete (times n a) 0)
    (λ none. let here : lone_but a (n ∷ ns) ≡ n ∷ lone_but a ns = ap (λ (z : Bool). keep_if z n (lone_but a ns)) (eq-eqb (times n a) 0 none) in
    let same : times n b ≡ times n (a ++ b) = omega (arith, sum, none) in
    ap (lone_but b) here ∙ (λ q. keep_if (eqb (same q) 0) n (r q)))
    (λ some. let here : lone_but a (n ∷ ns) ≡ lone_but a ns = ap (λ (z : Bool). keep_if z n (lone_but a ns)) (ne_eqb (times n a) 0 some) in
    let both : lone_but (a ++ b) (n ∷ ns) ≡ lone_but (a ++ b) ns = ap (λ (z : Bool). keep_if z n (lone_but (a ++ b) ns)) (ne_eqb (times n (a ++ b)) 0 (λ e. some (omega (arith, e, sum)))) in
    ap (lone_but b) here ∙ (r ∙ sym both))

-- ---- what the worker knows
back_within : (a : Left) (e : Node) → All (IsNumberIn e) (number_back a e)
back_within Shared e k d lt = absurd (omega (arith, lt))
back_within Last e zero d lt = (e, itself, refl)
back_within Last e (suc k) d lt = absurd (omega (arith, lt))

pub finished_first : (a : Left) (e : Node) (v w : View) → w ≡ left_by a e v → IsFinished e v w
finished_first a e v w is = record {
  later = [];
  within = λ k d lt. absurd (omega (arith, lt));
  back = number_back a e;
  numbers = back_within a e;
  view = is ∙ (λ q. record v { holds = (sym is q).holds; returned = v.returned ++ number_back a e; lone = lone_but (e ∷ []) v.lone });
}

all_below : (e c : Node) (ts : List Node) → Contains (children e) c → All (λ (t : Node). IsWithin t c) ts → All (λ (t : Node). IsWithin t e) (c ∷ ts)
all_below e c ts child all zero d lt = below child itself
all_below e c ts child all (suc k) d lt = below child (all k d (omega (arith, lt)))

numbers_below : (e c : Node) (ns : List ℕ) → Contains (children e) c → All (IsNumberIn c) ns → All (IsNumberIn e) ns
numbers_below e c ns child all k d lt = let r = all k d lt in (r.0, below child r.1, r.2)

finished_more : (e c : Node) (v w x : View) → Contains (children e) c → IsFinished e v w → IsFinished c w x → IsFinished e v x
finished_more e c v w x child a b = record {
  later = a.later ++ c ∷ b.later;
  within = All-append (λ (t : Node). IsWithin t e) a.later (c ∷ b.later) a.within (all_below e c b.later child b.within);
  back = a.back ++ b.back;
  numbers = All-append (IsNumberIn e) a.back b.back a.numbers (numbers_below e c b.back child b.numbers);
  view = b.view ∙ ((λ q. record (a.view q) { holds = x.holds; returned = (a.view q).returned ++ b.back; lone = lone_but (c ∷ b.later) (a.view q).lone })
      ∙ (λ q. record v { holds = x.holds; returned = append_assoc v.returned a.back b.back q; lone = lone_but-append (e ∷ a.later) (c ∷ b.later) v.lone q }));
}

-- ---- the edges one by one
-- the edge was left, and so many of those that its last leaving handed over are finished
pub record IsPartway (e : Node) (es : List Node) (i : ℕ) (v w : View) : Type 0 where
  pub traded : Trades v.holds (e ∷ take i es) es w.holds
  pub finished : IsFinished e v w

pub partway_first : (e : Node) (es : List Node) (a : Left) (v w : View) → w ≡ left_by a e v → Trades v.holds (e ∷ []) (freed a e) w.holds → a ≡ Last → es ≡ children e → IsPartway e es 0 v w
partway_first e es a v w is traded last below_is = record {
  traded = subst (λ (z : List Node). Trades v.holds (e ∷ []) z w.holds) (ap (λ (z : Left). freed z e) last ∙ sym below_is) traded;
  finished = finished_first a e v w is;
}

pub partway_next : (e : Node) (es : List Node) (i : ℕ) (c : Node) (v w x : View) → i < length es → c ≡ get_or es i c → es ≡ children e → IsPartway e es i v w → Trades w.holds (c ∷ []) [] x.holds → IsFinished c w x → IsPartway e es (i + 1) v x
partway_next e es i c v w x lt at below_is p traded finished = record {
  traded = trade _ _ _ _ (λ f. omega (arith, p.traded.weighs f, traded.weighs f, sum_by_more f es i c lt, ap f at, sum_by-append f (e ∷ []) (take i es), sum_by-append f (e ∷ []) (take (i + 1) es)));
  finished = finished_more e c v w x (subst (λ (z : List Node). Contains z c) below_is (subst (λ (z : Node). Contains es z) (sym at) (Contains-get_or es i c lt))) p.finished finished;
}

pub held_next : (e : Node) (es : List Node) (i : ℕ) (c : Node) (v w : View) → i < length es → c ≡ get_or es i c → HasHolds v.holds (e ∷ []) → IsPartway e es i v w → HasHolds w.holds (c ∷ [])
held_next e es i c v w lt at held p = record { weighs = λ f. omega (arith, held.weighs f, p.traded.weighs f, sum_by_more_le f es i c lt, ap f at, sum_by-append f (e ∷ []) (take i es)) }

abbrev Ways : Node → Type 0
Ways e = All (λ c. length (children e) + 5 * branches_down c ≤ 5 * branches_down e + 1) (children e)

pub room_first : (e : Node) (n : ℕ) → Ways e → n + 5 * branches_down e ≤ 256 → n + length (children e) ≤ 257
room_first e n ways room =
    dite (ℕ_discrete (length (children e)) 0)
    (λ none. omega (arith, none, room))
    (λ some. omega (arith, ways 0 e (omega (arith, some)), room))

pub room_next : (e : Node) (es : List Node) (i : ℕ) (c : Node) (v w : View) → i < length es → c ≡ get_or es i c → es ≡ children e → Ways e → length v.holds + 5 * branches_down e ≤ 256 → IsPartway e es i v w → length w.holds + 5 * branches_down c ≤ 256
room_next e es i c v w lt at below_is ways room p =
    let long = ap (λ (z : List Node). length z) below_is in
    let same = at ∙ ap (λ (z : List Node). get_or z i c) below_is in
    omega (arith, room, long, ways i c (omega (arith, lt, long)), ap branches_down same, p.traded.count)

pub traded_last : (e : Node) (es : List Node) (i : ℕ) (v w : View) → length es ≤ i → IsPartway e es i v w → Trades v.holds (e ∷ []) [] w.holds
traded_last e es i v w all p =
    trade _ _ _ _ (λ f. omega (arith, p.traded.weighs f, ap (sum_by f) (take_all i es all), sum_by-append f (e ∷ []) (take i es)))

-- an edge of a node has fewer nodes below it
pub fewer_below : (e : Node) (es : List Node) (i : ℕ) (c : Node) → i < length es → c ≡ get_or es i c → es ≡ children e → node_count c.1 < node_count e.1
fewer_below e es i c lt at below_is =
    let one = get_or-le-sum_by (λ (t : Node). node_count t.1 + 1) es i c lt in
    omega (arith, one, ap (λ (t : Node). node_count t.1) at, ap (sum_by (λ (t : Node). node_count t.1 + 1)) below_is, nodes-edges e)
