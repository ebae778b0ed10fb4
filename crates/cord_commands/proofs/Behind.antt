-- Bytes that go behind the others of a cord: what a refusal leaves, with looks first and without them.
use Rattle.std.proofs.Common.{subst, refl, ℕ, [], Option, Result, Ok, Err}
use Rattle.std.specs.Prelude.{IsSome, IfErr}
use Rattle.std.proofs.lemmas.Result.{IfErr-weaker}
use Rattle.node_forest.specs.declared.side.Side.{Side}
use Rattle.node_forest.specs.declared.side.Side.TheVariants.{Front, Back}
use Rattle.node_forest.specs.Label.{Node}
use Rattle.pool_rule.specs.Views.{View}
use Rattle.pool_rule.proofs.Gains.{gained-same}
use Rattle.pool_rule.proofs.Trades.{Trades-same}
use Rattle.cord_value.specs.Filling.{HasLooked, IsBalancedAfter}
use Rattle.cord_value.specs.Grown.{IsGrowRefused}
use Rattle.cord_value.specs.Refusals.{IsBalanced}
use Rattle.cord_value.specs.Views.{CordView}
use Rattle.cord_value.specs.declared.refusals.CordError.{CordError}
use Rattle.cord_value.specs.declared.refusals.CordError.TheVariants as errors
use Rattle.cord_commands.specs.Edits.{IsBehindBalanced, IsTextBalanced}
use Rattle.cord_commands.proofs.Steady.{balanced-none}

none-looked : (v : View) → HasLooked v v
none-looked v = record { holds = Trades-same v.holds v.holds refl; looks = []; gained = gained-same v v refl }

balanced-behind : (limit : ℕ) (x : CordError) (v w : View) → IsBalanced limit x v w → IsBehindBalanced limit x v w
balanced-behind limit (errors.PassLimit found) v w balanced = balanced
balanced-behind limit x v w balanced = record { looked = v; first = none-looked v; balanced = balanced }

-- a tree has a pass, so that it wants none
tree-behind : (size limit n : ℕ) (old : CordView) (x : CordError) (v w : View) → IsSome old.tree → IsGrowRefused size limit Back n old x v w
    → IsBalancedAfter limit x v w → IsBehindBalanced limit x v w
tree-behind size limit n old (errors.PassLimit found) v w some why balanced = absurd (let none = subst (λ (t : Option Node). IsSome t) why.1.1 some in cc)
tree-behind size limit n old x v w some why balanced = balanced

pub filled-behind : (size limit n : ℕ) (old : CordView) (v w : View) (r : Result (Unit {0}) CordError) → IsSome old.tree
    → IfErr r (λ x. IsGrowRefused size limit Back n old x v w) → IfErr r (λ x. IsBalancedAfter limit x v w)
    → IfErr r (λ x. IsBehindBalanced limit x v w)
filled-behind size limit n old v w (Ok x) some why balanced = tt
filled-behind size limit n old v w (Err x) some why balanced = tree-behind size limit n old x v w some why balanced

pub grown-behind : (limit : ℕ) (v w : View) (r : Result (Unit {0}) CordError) → IfErr r (λ x. IsBalanced limit x v w) → IfErr r (λ x. IsBehindBalanced limit x v w)
grown-behind limit v w r balanced = IfErr-weaker r (λ x. IsBalanced limit x v w) (λ x. IsBehindBalanced limit x v w) (λ x b. balanced-behind limit x v w b) balanced

-- want of memory before anything was done
pub none-balanced : (limit : ℕ) (side : Side) (v : View) → IsTextBalanced limit side errors.Memory v v
none-balanced limit Front v = balanced-none limit v
none-balanced limit Back v = balanced-behind limit errors.Memory v v (balanced-none limit v)
