-- The first token's view, and the tokens that it gives.
use Rattle.std.specs.Prelude.{◌≡◌, ◌+◌, ℕ, List, [], map}
use Rattle.node_pool.specs.Boxes.{below}
use Rattle.record_rule.specs.declared.views.TokenView.{TokenView}
use Rattle.record_rule.specs.declared.views.DeskView.{DeskView}
use Rattle.record_rule.specs.declared.views.DeskView.TheVariants.{Root, Token}
use Rattle.record_rule.specs.Views.{new_token}

-- how many tokens the first one gave, and what those knew that came back
abbrev pub given_by : DeskView → ℕ
given_by (Root given back) = given
given_by v = 0

abbrev pub back_to : DeskView → List TokenView
back_to (Root given back) = back
back_to v = []

abbrev pub IsRootView : DeskView → Type 0
IsRootView v = v ≡ Root (given_by v) (back_to v)

-- the first token after it gave one, and that one
abbrev pub root_after : DeskView → DeskView
root_after v = Root (given_by v + 1) (back_to v)

abbrev pub token_after : DeskView → DeskView
token_after v = Token (new_token (given_by v))

-- so many tokens, by their numbers
abbrev pub first_tokens : ℕ → List TokenView
first_tokens n = map new_token (below n)
