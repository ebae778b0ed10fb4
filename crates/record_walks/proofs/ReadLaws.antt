-- A tree that was read and is left again, and a worker's calls one after another.
use Rattle.std.proofs.Common.{◌≡◌, ℕ, ◌+◌, ◌≤◌, List, [], ◌∷◌, ◌++◌, length, refl, sym, subst, arith}
use Rattle.std.proofs.lemmas.List.Elements.{All-nil}
use Rattle.node_forest.specs.Label.{Node}
use Rattle.pool_rule.specs.Gains.{no_gain, gain_then, Gained}
use Rattle.pool_rule.specs.Trades.{Trades}
use Rattle.pool_rule.specs.Views.{View, sharing, with_holds}
use Rattle.pool_rule.proofs.Gains.{gained-then, gained-sharing}
use Rattle.pool_rule.proofs.Trades.{trade}
use Rattle.node_pool.specs.Finishes.{IsFinished}
use Rattle.node_pool.proofs.Gaining.{gained-held, gained-filled, gained-finished}
use Rattle.cord_value.specs.Workers.{Keeps}
use Rattle.cordz_desk.specs.Reading.{read_by}
use Rattle.cord_sampled.proofs.Keeping.{keeps-then}

gained-read : (v w : View) (e : Node) → w ≡ read_by e v → Gained (record no_gain { shares = 1 }) v w
gained-read v w e is =
    let a = with_holds v (v.holds ++ e ∷ []) in
    let b = sharing e a in
    gained-then no_gain (record no_gain { shares = 1 }) v a w (gained-held v a a.holds refl)
    (gained-then (record no_gain { shares = 1 }) no_gain a b w (gained-sharing a e) (gained-filled b w e is))

pub keeps-read : (limit : ℕ) (e : Node) (v a w : View) → a ≡ read_by e v → Trades v.holds [] (e ∷ []) a.holds → IsFinished e a w → Trades a.holds (e ∷ []) [] w.holds → Keeps limit [] 0 0 v w
keeps-read limit e v a w is came finished left = record {
  holds = trade v.holds [] [] w.holds (λ f. omega (arith, came.weighs f, left.weighs f));
  gain = gain_then (record no_gain { shares = 1 }) (record no_gain { returned = finished.back });
  gained = gained-then _ _ v a w (gained-read v a e is) (gained-finished a w e finished);
  taken = refl;
  made = refl;
  below = All-nil _;
  ended = refl;
  used = refl;
  looks = refl;
}

-- the room that is left after such calls
pub keeps-room : (limit : ℕ) (xs : List ℕ) (m n : ℕ) (v w : View) → Keeps limit xs m n v w → length v.holds ≤ 96 → length w.holds ≤ 96
keeps-room limit xs m n v w k room = omega (arith, k.holds.count)

pub keeps-more : (limit : ℕ) (m n : ℕ) (u v w : View) → Keeps limit [] 0 m u v → Keeps limit [] 0 n v w → Keeps limit [] 0 (m + n) u w
keeps-more limit m n u v w one two = keeps-then limit [] [] 0 m 0 n u v w one two
