-- Which refusal comes where, and what it leaves a worker with.
use Rattle.std.specs.Prelude.{ℕ, ◌≡◌, ◌<◌, ◌≤◌, List, [], ◌∷◌, ◌++◌, length, Option, IsSome}
use Rattle.node_forest.specs.Label.{Node}
use Rattle.pool_rule.specs.Gains.{Gain, Gained, SawAll}
use Rattle.pool_rule.specs.Notes.{Count}
use Rattle.pool_rule.specs.Trades.{SameHolds}
use Rattle.pool_rule.specs.Views.{View}
use Rattle.node_pool.specs.Answers.{noting_all}
use Rattle.node_pool.specs.Passes.{counted, uncounted}
use Rattle.node_pool.specs.declared.refusals.NodeError.{NodeError}
use Rattle.node_pool.specs.declared.refusals.NodeError.TheVariants as node
use Rattle.cord_value.specs.Workers.{AreBelow}
use Rattle.cord_value.specs.declared.refusals.CordError.{CordError}
use Rattle.cord_value.specs.declared.refusals.CordError.TheVariants.{LengthLimit, HeightLimit, PassLimit, NoNumber, Memory}

abbrev pub refusal_of : NodeError → CordError
refusal_of (node.NoNumber seen) = NoNumber seen
refusal_of (node.HeightLimit height) = HeightLimit height
refusal_of node.Memory = Memory

-- a counted step found so many live passes, at least the limit, and was undone
pub record IsPassRefused (limit found : ℕ) (v w : View) : Type 0 where
  pub limit_reached : limit ≤ found
  pub view : w ≡ uncounted (counted found v)

-- a pass was made, below the limit, and ended
pub record IsPassUndone (limit : ℕ) (v w : View) : Type 0 where
  pub live : ℕ
  pub less : live < limit
  pub view : w ≡ uncounted (counted live v)

-- the same, with so many steps between that found numbers in use
pub record IsNumberUndone (limit seen : ℕ) (v w : View) : Type 0 where
  pub live : ℕ
  pub less : live < limit
  pub found : List ℕ
  pub count : length found ≡ seen
  pub view : w ≡ noting_all found (uncounted (counted live v))

-- ---- causes
-- of a cord that was to have so many bytes
abbrev pub IsMakeRefused : ℕ → ℕ → ℕ → CordError → View → View → Type 0
IsMakeRefused size limit n (LengthLimit asked) v w = (asked ≡ n) × (2147483647 < n)
IsMakeRefused size limit n (PassLimit found) v w = (15 < n) × (n ≤ 2147483647) × (limit ≤ found)
IsMakeRefused size limit n (NoNumber seen) v w = (15 < n) × (n ≤ 2147483647) × (seen ≡ size) × SawAll size v w
IsMakeRefused size limit n Memory v w = (15 < n) × (n ≤ 2147483647)
IsMakeRefused size limit n _ v w = ⊥

-- which steps were made, and no others; of a tree of more than one flat some of its nodes may have been made and left again
abbrev pub IsMakeUndone : ℕ → ℕ → CordError → View → View → Type 0
IsMakeUndone limit n (LengthLimit asked) v w = w ≡ v
IsMakeUndone limit n (PassLimit found) v w = IsPassRefused limit found v w
IsMakeUndone limit n (NoNumber seen) v w = n ≤ 4083 → IsNumberUndone limit seen v w
IsMakeUndone limit n Memory v w = n ≤ 4083 → IsPassUndone limit v w
IsMakeUndone limit n _ v w = ⊥

-- of a copy: a cord without a tree has none
abbrev pub IsCopyRefused : ℕ → Option Node → CordError → View → View → Type 0
IsCopyRefused limit tree (PassLimit found) v w = IsSome tree × IsPassRefused limit found v w
IsCopyRefused limit tree Memory v w = IsSome tree × IsPassUndone limit v w
IsCopyRefused limit tree _ v w = ⊥

-- ---- what any refusal leaves
-- A counted step found fewer live passes than the limit, but for the last one where the limit is what the call was refused for.
abbrev pub AreCountsOf : ℕ → CordError → List Count → Type 0
AreCountsOf limit (PassLimit found) counts = (given : List Count) × (last : Count) × (counts ≡ given ++ last ∷ []) × AreBelow limit given
    × (last.found ≡ found) × (limit ≤ found)
AreCountsOf limit _ counts = AreBelow limit counts

-- the worker holds what it held before, and ended each pass that it made
pub record IsBalanced (limit : ℕ) (x : CordError) (v w : View) : Type 0 where
  pub holds : SameHolds v.holds w.holds
  pub gain : Gain
  pub gained : Gained gain v w
  pub counts : AreCountsOf limit x gain.counts
  pub ended : gain.ended ≡ length gain.counts
  pub used : gain.used ≡ []
  pub looks : gain.looks ≡ []
