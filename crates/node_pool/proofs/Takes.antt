-- The search for a free number, and the node that is made.
use Rattle.std.proofs.Common.{◌≡◌, ◌≢◌, inl, ℕ, zero, suc, ◌+◌, ◌-◌, ◌<◌, ◌≤◌, Bool, List, [], ◌∷◌, ◌++◌, length, refl, sym, ap, subst, ◌∙◌, arith, eq-eqb, ne_eqb, append_assoc, length-append}
use Rattle.std.specs.Prelude.{if◌then◌else◌, Some, None}
use Rattle.std.proofs.lemmas.Bool.{lt-ltb, le-ltb}
use Rattle.std.proofs.Math.Numerals.{add-one}
use mathlib.Core.Logic.{dite}
use native.Mathlib.Decide.{dec_lt, dec_le}
use Rattle.node_forest.specs.declared.kind.Kind.TheVariants as kinds
use Rattle.node_forest.specs.Forest.{children}
use Rattle.node_forest.specs.Label.{Node, number}
use Rattle.node_forest.proofs.Maps.{trees-forest}
use Rattle.node_edges.specs.declared.edge.Body.{Body}
use Rattle.node_edges.specs.declared.edge.Body.TheVariants.{Flat, External, Part, Sum, Branch}
use Rattle.node_edges.specs.Body.{IsBody, edges_in_body, node_of, node_with, renumbered, body_length}
use Rattle.node_edges.proofs.EdgeLaws.{renumbered-body}
use Rattle.pool_rule.specs.Rules.{Among}
use Rattle.pool_rule.specs.Plays.{AreOneEach}
use Rattle.pool_rule.specs.Trades.{HasHolds, SameHolds, Trades}
use Rattle.pool_rule.specs.Views.{View, taking, noting, tried}
use Rattle.pool_rule.proofs.Door.{takes-trades_held}
use Rattle.pool_rule.proofs.Trades.{Trades-same}
use Rattle.pool_rule.specs.Gains.{no_gain, SawAll}
use Rattle.pool_rule.proofs.Gains.{gained-is, gained-noting}
use Rattle.pool_rule.proofs.Taken.{among_left, among_right}
use Rattle.node_pool.specs.Answers.{IsNextSlot, IsTaken, noting_all, wrapped, round}

-- ---- the node
pub made_again : (e d : Node) (n : ℕ) (b : Body) → e ≡ renumbered n d → d ≡ node_of d.0.number b → e ≡ node_of e.0.number b
made_again e d n b under made = renumbered-body e d n d.0.number (body_length b) b under made

pub made_children : (e d : Node) (n : ℕ) (b : Body) → e ≡ renumbered n d → d ≡ node_of d.0.number b → children e ≡ edges_in_body b
made_children e d n b under made = ap (λ (t : Node). children t) (made_again e d n b under made) ∙ trees-forest (edges_in_body b)

pub few_edges : (b : Body) → IsBody b → length (edges_in_body b) ≤ 6
few_edges (Flat bytes room) i = omega arith
few_edges (External bytes slot) i = omega arith
few_edges (Part start long child) i = omega arith
few_edges (Sum value None) i = omega arith
few_edges (Sum value (Some child)) i = omega arith
few_edges (Branch h es) i = i.few.1

-- ---- one try
pub tried_free : (found : ℕ) (e : Node) (v : View) → found ≡ 0 → tried found e v ≡ taking e v
tried_free found e v free = ap (λ (b : Bool). if b then taking e v else noting (number e) v) (eq-eqb found 0 free)

pub tried_full : (found : ℕ) (e : Node) (v : View) → found ≢ 0 → tried found e v ≡ noting (number e) v
tried_full found e v full = ap (λ (b : Bool). if b then taking e v else noting (number e) v) (ne_eqb found 0 full)

pub noted_more : (size start i n found : ℕ) (e : Node) (v u w : View) → u ≡ noting_all (round size start i) v → w ≡ tried found e u → found ≢ 0 → number e ≡ n → n ≡ wrapped size (start + i) → w ≡ noting_all (round size start (i + 1)) v
noted_more size start i n found e v u w noted is full at place =
    let xs : List ℕ = round size start i in
    let full_is : (v.full ++ xs) ++ number e ∷ [] ≡ v.full ++ (xs ++ wrapped size (start + i) ∷ []) = append_assoc v.full xs (number e ∷ []) ∙ (λ q. v.full ++ (xs ++ (at ∙ place) q ∷ [])) in
    is ∙ (tried_full found e u full ∙ (ap (noting (number e)) noted ∙ ((λ q. record v { full = full_is q }) ∙ ap (λ (k : ℕ). noting_all (round size start k) v) (sym (add-one i)))))

pub taken_trades : (e : Node) (b : Body) (v u w : View) (found : ℕ) (ns : List ℕ) → u ≡ noting_all ns v → w ≡ tried found e u → found ≡ 0 → children e ≡ edges_in_body b → AreOneEach u.holds → HasHolds v.holds (edges_in_body b) → Trades v.holds (edges_in_body b) (e ∷ []) w.holds
taken_trades e b v u w found ns noted is free below one held =
    let same : u.holds ≡ v.holds = ap (λ (z : View). z.holds) noted in
    let held_u : HasHolds u.holds (children e) = subst (λ (z : List Node × List Node). HasHolds z.0 z.1) (λ q. (sym same q, sym below q)) held in
    let t = takes-trades_held u.holds w.holds (children e) e one held_u (ap (λ (z : View). z.holds) (is ∙ tried_free found e u free)) in
    subst (λ (z : List Node × List Node). Trades z.0 z.1 (e ∷ []) w.holds) (λ q. (same q, below q)) t

-- ---- a whole round
pub length-round : (size start k : ℕ) → length (round size start k) ≡ k
length-round size start zero = refl
length-round size start (suc k) = omega (arith, length-round size start k, length-append (round size start k) (wrapped size (start + k) ∷ []))

pub taken_within : (size start i found : ℕ) (e : Node) (v u w : View) → i < size → u ≡ noting_all (round size start i) v → w ≡ tried found e u → found ≡ 0 → IsTaken size v w e
taken_within size start i found e v u w less noted is free = record {
  found = round size start i;
  few = omega (arith, less, length-round size start i);
  view = is ∙ (tried_free found e u free ∙ ap (taking e) noted);
}

in_round : (size start k j : ℕ) → j < k → Among (wrapped size (start + j)) (round size start k)
in_round size start zero j l = absurd (omega arith)
in_round size start (suc k) j l =
    dite (dec_lt j k)
    (λ less. among_left (wrapped size (start + j)) (round size start k) (wrapped size (start + k) ∷ []) (in_round size start k j less))
    (λ last. let same : j ≡ k = omega arith in
    among_right (wrapped size (start + j)) (round size start k) (wrapped size (start + k) ∷ []) (inl (ap (λ (z : ℕ). wrapped size (start + z)) same)))

wrapped_low : (size n : ℕ) → n < size → wrapped size n ≡ n
wrapped_low size n l = ap (λ (b : Bool). if b then n else n - size) (lt-ltb n size l)

wrapped_high : (size n : ℕ) → size ≤ n → wrapped size n ≡ n - size
wrapped_high size n l = ap (λ (b : Bool). if b then n else n - size) (le-ltb n size l)

pub whole_round : (size start n : ℕ) → start < size → n < size → Among n (round size start size)
whole_round size start n begins low =
    dite (dec_le start n)
    (λ behind.
    let j : ℕ = n - start in
    let back : start + j ≡ n = omega arith in
    subst (λ (z : ℕ). Among z (round size start size)) (ap (wrapped size) back ∙ wrapped_low size n low) (in_round size start size j (omega arith)))
    (λ before.
    let j : ℕ = n + size - start in
    let back : start + j ≡ n + size = omega arith in
    let less : n + size - size ≡ n = omega arith in
    subst (λ (z : ℕ). Among z (round size start size)) (ap (wrapped size) back ∙ (wrapped_high size (n + size) (omega arith) ∙ less)) (in_round size start size j (omega arith)))

pub saw_round : (size start i : ℕ) (v w : View) → start < size → i ≡ size → w ≡ noting_all (round size start i) v → SawAll size v w
saw_round size start i v w begins all noted = record {
  gain = record no_gain { full = round size start i };
  is = gained-is _ v (noting_all (round size start i) v) w noted (gained-noting v (round size start i));
  every = λ n low. subst (λ (k : ℕ). Among n (round size start k)) (sym all) (whole_round size start n begins low);
}

pub same_round : (size start i : ℕ) (v w : View) → w ≡ noting_all (round size start i) v → SameHolds v.holds w.holds
same_round size start i v w noted = Trades-same v.holds w.holds (ap (λ (z : View). z.holds) noted)

-- an external takes the worker's next slot
next_slot : (n l : ℕ) (b : Body) (unused : List ℕ) → IsNextSlot b unused → (node_with n l b).0.kind ≡ kinds.External → (later : List ℕ) × (unused ≡ (node_with n l b).0.more ∷ later)
next_slot n l (External bytes slot) unused i e = i
next_slot n l (Flat bytes room) unused i e = absurd (cc)
next_slot n l (Part start long child) unused i e = absurd (cc)
next_slot n l (Sum value child) unused i e = absurd (cc)
next_slot n l (Branch h es) unused i e = absurd (cc)

pub made_slot : (e : Node) (b : Body) (unused : List ℕ) → e ≡ node_of e.0.number b → IsNextSlot b unused → e.0.kind ≡ kinds.External → (later : List ℕ) × (unused ≡ e.0.more ∷ later)
made_slot e b unused is i =
    subst (λ (t : Node). t.0.kind ≡ kinds.External → (later : List ℕ) × (unused ≡ t.0.more ∷ later)) (sym is) (next_slot e.0.number (body_length b) b unused i)
