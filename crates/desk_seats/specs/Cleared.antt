-- Slots that a token is to clear.
use Rattle.std.specs.Prelude.{◌<◌, ℕ, List, [], ◌∷◌}
use Rattle.record_rule.specs.declared.views.Claim.{Claim}
use Rattle.record_rule.specs.Views.{claim_at}
use Rattle.cordz_desk.specs.Tokens.{IsCleared}

abbrev pub AllCleared : List (ℕ × Claim) → List ℕ → Type 0
AllCleared cs [] = Unit {0}
AllCleared cs (s ∷ ss) = (s < 256) × IsCleared (claim_at cs s) × AllCleared cs ss
