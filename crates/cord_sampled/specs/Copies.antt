-- What a peeked copy is, and the passes that it doesn't need.
use Rattle.std.specs.Prelude.{ℕ, ◌≡◌, [], Option, Some, None, IfSome, MatchOption}
use Rattle.std.specs.Bool.{⊤}
use Rattle.pool_rule.specs.Views.{View}
use Rattle.cordz_desk.specs.Shares.{tree_in, IsShare}
use Rattle.cord_sampled.specs.declared.copies.Copied.{Copied}

-- a pass that is there
abbrev pub one_if : {X : Type 0} → Option X → ℕ
one_if None = 0
one_if (Some x) = 1

abbrev pub IsEmptyIf : Option View → Type 0
IsEmptyIf pass = IfSome pass (λ p. p.holds ≡ [])

-- its share, if there is one, is of its tree, and the other passes are empty
pub record IsCopied {P : Type 0} (c : Copied P) : Type 0 where
  pub share : MatchOption c.share ⊤ (λ x. IsShare x × (c.cord.tree ≡ Some (tree_in x)))
  pub spare : IsEmptyIf c.spare
  pub spare_sample : IsEmptyIf c.spare_sample
