-- What a cord of bytes from outside leaves a worker with, and what a refused one does.
use Rattle.std.proofs.Common.{ℕ, ◌≡◌, ◌≢◌, ◌≤◌, List, [], ◌∷◌, ◌++◌, length, sum_by, refl, sym, ap, subst, ◌∙◌, arith, append-nil}
use Rattle.std.specs.Prelude.{Result, Ok, Err, IfErr, IsErrAnd}
use Rattle.node_forest.specs.Label.{Node, number}
use Rattle.tree_shapes.specs.Cords.{cord_of_external, NeedsHeight12}
use Rattle.tree_shapes.specs.Shape.{level}
use Rattle.pool_rule.specs.Gains.{Gain, no_gain, gain_then}
use Rattle.pool_rule.specs.Notes.{uses_of}
use Rattle.pool_rule.specs.Trades.{Trades}
use Rattle.pool_rule.specs.Views.{View, count_of}
use Rattle.pool_rule.proofs.Gains.{takes, gained-then, saw-within}
use Rattle.pool_rule.proofs.Trades.{trade}
use Rattle.node_pool.specs.Answers.{IsTaken}
use Rattle.node_pool.specs.Passes.{filled, uncounted, IsPassMade}
use Rattle.node_pool.specs.Refusals.{IsCause, IsOfNoHeight}
use Rattle.node_pool.specs.declared.refusals.NodeError.{NodeError}
use Rattle.node_pool.specs.declared.refusals.NodeError.TheVariants as node
use Rattle.node_pool.proofs.Gaining.{gained-made, gained-taken, gained-filled, gained-ended}
use Rattle.edge_nodes.specs.Externals.{external_node, first_slot}
use Rattle.cord_value.specs.Changes.{IsFit}
use Rattle.cord_value.specs.Externals.{use_of, IsExternalMade, IsExternalRefused}
use Rattle.cord_value.specs.Refusals.{refusal_of}
use Rattle.cord_value.specs.declared.refusals.CordError.{CordError}
use Rattle.cord_value.specs.declared.refusals.CordError.TheVariants as cord
use Rattle.cord_value.proofs.Balances.{one-below}

slot-used : (e : Node) (bytes : List ℕ) (v a : View) → e ≡ external_node e.0.number bytes (first_slot a.unused) → a.unused ≡ v.unused
    → ([] ++ uses_of e.0.kind e) ++ [] ≡ use_of (number e) (length bytes) v ∷ []
slot-used e bytes v a is same =
    append-nil (uses_of e.0.kind e)
    ∙ (ap (λ (t : Node). uses_of t.0.kind t) is
    ∙ ap (λ (slots : List ℕ). (record { slot = first_slot slots; number = e.0.number; length = length bytes }) ∷ []) same)

pub external-made : (size limit : ℕ) (e : Node) (bytes : List ℕ) (v a b c : View) → IsPassMade limit v a → e ≡ external_node e.0.number bytes (first_slot a.unused) → IsTaken size a b e
    → Trades a.holds [] (e ∷ []) b.holds → c ≡ filled e b → Trades b.holds (e ∷ []) [] c.holds → IsExternalMade limit (length bytes) (number e) v c
external-made size limit e bytes v a b c made is taken came filled_is went =
    let passes : Gain = record no_gain { counts = count_of made.found v ∷ [] } in
    let took : Gain = record (takes e) { full = taken.found } in
    record {
      holds = (let same = ap (λ (z : View). z.holds) made.view in trade v.holds [] [] c.holds (λ f. omega (arith, came.weighs f, went.weighs f, ap (sum_by f) same)));
      gain = gain_then (gain_then passes took) no_gain;
      gained = gained-then (gain_then passes took) no_gain v b c (gained-then passes took v a b (gained-made limit v a made) (gained-taken size a b e taken)) (gained-filled b c e filled_is);
      taken = refl;
      made = refl;
      below = one-below limit (count_of made.found v) made.less;
      ended = refl;
      used = slot-used e bytes v a is (ap (λ (z : View). z.unused) made.view);
      looks = refl;
    }

-- an external is never too high
low-external : (n : ℕ) → NeedsHeight12 (cord_of_external n) → ⊥
unfolding level
low-external n high = absurd (omega (arith, high))

pub fit-external : (n : ℕ) → n ≤ 2147483647 → IsFit (cord_of_external n)
fit-external n short = (short, low-external n)

pub some-slot : (slots : List ℕ) (j : ℕ) → (later : List ℕ) × (slots ≡ j ∷ later) → slots ≢ []
some-slot slots j is none = absurd (omega (arith, ap length is.1, ap length none))

pub external-limit : {T : Type 0} (r : Result T CordError) (size limit n found : ℕ) (v w : View) → IsErrAnd r (λ x. x ≡ cord.PassLimit found) → v.unused ≢ [] → n ≤ 2147483647 → limit ≤ found
    → IfErr r (λ x. IsExternalRefused size limit n x v w)
external-limit (Ok z) size limit n found v w is some short reached = absurd is
external-limit (Err x) size limit n found v w is some short reached =
    subst (λ (y : CordError). IsExternalRefused size limit n y v w) (sym is) (some, (fit-external n short, refl, refl, reached))

pub external-refused : (size limit n : ℕ) (x : NodeError) (v a b c : View) → v.unused ≢ [] → n ≤ 2147483647 → IsPassMade limit v a → IsOfNoHeight x → IsCause size x a b → c ≡ uncounted b
    → IsExternalRefused size limit n (refusal_of x) v c
external-refused size limit n (node.NoNumber seen) v a b c some short made low cause ended_is =
    (some, (fit-external n short, refl, cause.0, saw-within size (record no_gain { counts = count_of made.found v ∷ [] }) (record no_gain { ended = 1 }) v a b c (gained-made limit v a made) cause.1 (gained-ended b c ended_is)))
external-refused size limit n (node.HeightLimit height) v a b c some short made low cause ended_is = absurd low
external-refused size limit n node.Memory v a b c some short made low cause ended_is = (some, tt)
