-- What each kind of step tells the token that makes it.
use Rattle.std.specs.Prelude.{◌≡◌, ◌≢◌, ◌⊎◌, ℕ, List, ◌∷◌}
use Rattle.node_forest.specs.declared.kind.Kind.TheVariants.{External}
use Rattle.pool_rule.specs.Pools.{Terms, IsFresh}
use Rattle.atomic_table.specs.Table.{Me, rest}
use Rattle.atomic_table.specs.Table as table
use Rattle.node_forest.specs.Label.{Node, number, external_slot}
use Rattle.node_forest.specs.Members.{In, Occurs}
use Rattle.count_core.specs.Holders.{Fitting}
use Rattle.pool_rule.specs.Views.{View, tried, sharing, releasing, homing, looking}
use Rattle.pool_rule.specs.Rules.{IsSane}

-- of holds with one number there is one node only
abbrev pub AreOneEach : List Node → Type 0
AreOneEach hs = (t u : Node) → In t hs → In u hs → number t ≡ number u → t ≡ u

-- the token knows w now, and carries the same slots
pub record Told {S : Type 0} (w : View) (before after : Me S View) : Type 0 where
  pub view : after.0 ≡ w
  pub slots : after.1 ≡ before.1
  pub sane : IsSane w.size w
  pub fits : Fitting w.size w.holds
  pub one_each : AreOneEach before.0.holds

module _ {S : Type 0} where
  -- where 0 is found, holds became the edges of a new direct hold; else the number is noted
  abbrev pub taken : Node → table.Step S → Me S View → ℕ → Me S View → Type 0
  taken t st m found m' = Told (tried found t m.0) m m'

  -- one direct hold more
  abbrev pub shared : Node → table.Step S → Me S View → ℕ → Me S View → Type 0
  shared t st m found m' = Told (sharing t m.0) m m'

  -- where 1 is found, the number is lone; else the look is noted
  abbrev pub looked : Node → table.Step S → Me S View → ℕ → Me S View → Type 0
  looked t st m found m' = Told (looking found t m.0) m m'

-- The hold goes, and where 1 is found the node's edges are direct holds, and it stands in no tree any more. The slot of an external is
-- out with the token then, with a box that wasn't called.
pub record HasLeft {S : Type 0} (p : Terms S) (t : Node) (before : Me S View) (found : ℕ) (after : Me S View) : Type 0 where
  pub view : after.0 ≡ releasing found t before.0
  pub sane : IsSane after.0.size after.0
  pub fits : Fitting after.0.size after.0.holds
  pub one_each : AreOneEach before.0.holds
  pub gone : found ≡ 1 → Occurs t after.0.holds → ⊥
  pub plain : (found ≢ 1) ⊎ (t.0.kind ≢ External) → after.1 ≡ before.1
  pub last : found ≡ 1 → t.0.kind ≡ External → (y : S) × IsFresh p (external_slot t.0) y × (after.1 ≡ (external_slot t.0, y) ∷ before.1)

-- the slot that was out is at home again
pub record HasHomed {S : Type 0} (before after : Me S View) : Type 0 where
  pub view : after.0 ≡ homing before.0
  pub slots : after.1 ≡ rest before.1
  pub sane : IsSane after.0.size after.0
  pub fits : Fitting after.0.size after.0.holds

module _ {S : Type 0} where
  abbrev pub left : Terms S → Node → table.Step S → Me S View → ℕ → Me S View → Type 0
  left p t st m found m' = HasLeft p t m found m'

  abbrev pub homed : table.Step S → Me S View → ℕ → Me S View → Type 0
  homed st m found m' = HasHomed m m'
