-- A token that has done nothing yet, and may walk.
use Rattle.std.specs.Prelude.{◌≡◌, ◌<◌, []}
use Rattle.record_rule.specs.declared.views.TokenView.{TokenView}

abbrev pub IsFresh : TokenView → Type 0
IsFresh p = (p.own ≡ []) × (p.number < 16)
