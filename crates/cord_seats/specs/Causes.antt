-- What the resource refusals of sessions show: the lists of a session's worker before and after each command, and those of all workers of a run.
use Rattle.std.specs.Prelude.{ℕ, ◌≡◌, ◌+◌, ◌<◌, List, [], ◌∷◌, length, slice_index_or}
use Rattle.pool_rule.specs.Gains.{HasGained}
use Rattle.pool_rule.specs.Views.{View}
use Rattle.node_pool.specs.Closes.{IsAllIdle, AreCountsWithin, AreTakenByWorkers}
use Rattle.cord_commands.specs.declared.answer.Answer.{Answer}
use Rattle.cord_commands.specs.Does.{IsCause}

-- From v to w the worker's lists only grew. On the way, in the order of the answers, each one's command went from a view x to a view y, and shows its
-- cause in what the lists gained between them: each number of the pool found in use, a counted step that found the limit reached, or no slot left.
abbrev pub AreCaused : ℕ → ℕ → View → View → List Answer → Type 0
AreCaused size limit v w [] = HasGained v w
AreCaused size limit v w (answer ∷ more) = (x : View) × (y : View) × HasGained v x × HasGained x y × IsCause size limit x y answer × AreCaused size limit y w more

-- a worker that made no step yet, and has so many slots
pub record IsFresh (slots : ℕ) (v : View) : Type 0 where
  pub holds : length v.holds ≡ 0
  pub made : v.made ≡ 0
  pub ended : v.ended ≡ 0
  pub taken : v.taken ≡ []
  pub full : v.full ≡ []
  pub counts : v.counts ≡ []
  pub used : v.used ≡ []
  pub unused : length v.unused ≡ slots

-- the same of all commands of a session, from its worker's first step on to where the worker is w
pub record IsShown (size limit slots : ℕ) (w : View) (answers : List Answer) : Type 0 where
  pub first : View
  pub fresh : IsFresh slots first
  pub caused : AreCaused size limit first w answers

-- The workers of a run at its end: the p-th ran the session p, and one more cleared the cells. They hold nothing, and ended the passes that they
-- made. Together they took each number that one of them found in use, and what their counted steps found is within the bounds of their steps.
pub record AreShown (size limit : ℕ) (slots : ℕ → ℕ) (books : List (List Answer)) : Type 0 where
  pub workers : List View
  pub count : length workers ≡ length books + 1
  pub idle : IsAllIdle workers
  pub taken : AreTakenByWorkers workers
  pub counts : AreCountsWithin workers
  pub each : (p : ℕ) (w : View) → p < length books → IsShown size limit (slots p) (slice_index_or workers p w) (slice_index_or books p [])
