-- What is kept.
use Rattle.cordz_desk.specs.declared.keeping.Kept.{Kept}

abbrev pub kept_in : {X : Type 0} → Kept X → X
kept_in k = k.table.shared.key.value
