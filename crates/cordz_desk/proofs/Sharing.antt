-- The share that a change begins with.
use Rattle.std.proofs.Common.{◌≡◌, Bool, List, MatchOption, Option, Some, None, sym}
use Rattle.std.specs.Bool.{⊤}
use Rattle.record_rule.specs.declared.views.Noted.{Noted}
use Rattle.record_rule.specs.World.{is_none}
use Rattle.cordz_desk.specs.declared.share.Share.{Share}
use Rattle.cordz_desk.specs.Owners.{IsNewestTree}
use Rattle.cordz_desk.specs.Shares.{tree_in, IsShare}
use Rattle.cordz_desk.specs.Tickets.{IsShareOf}

module _ {P : Type 0} where
  pub share_of : (notes : List Noted) (bare : Bool) (o : Option (Share P)) → MatchOption o ⊤ (λ x. IsShare x × IsNewestTree (tree_in x) notes) → is_none o ≡ bare → MatchOption o ⊤ (λ x. IsShareOf notes bare x)
  share_of notes bare None k e = tt
  share_of notes bare (Some x) k e = record { share = k.0; tree = k.1; some = sym e }

  pub trees_of : (notes : List Noted) (o : Option (Share P)) → MatchOption o ⊤ (λ x. IsShare x × IsNewestTree (tree_in x) notes) → MatchOption o ⊤ (λ x. IsNewestTree (tree_in x) notes)
  trees_of notes None k = tt
  trees_of notes (Some x) k = k.1
