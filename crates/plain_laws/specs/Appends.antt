-- What a list of commands appends to a name.
use Rattle.std.specs.Prelude.{◌≡◌, ◌≢◌, ℕ, ◌⊎◌, List, [], ◌∷◌, map, Some}
use Rattle.std.specs.List.{concat}
use Rattle.plain_cord.specs.declared.script.Text.{Text}
use Rattle.plain_cord.specs.declared.script.Command.{Command}
use Rattle.plain_cord.specs.declared.script.Command.TheVariants as commands
use Rattle.plain_cord.specs.Texts.{text_bytes}
use Rattle.plain_laws.specs.Targets.{target}

-- of these commands each appends the next of the texts to a, or leaves a alone
abbrev pub AppendsTo : List ℕ → List Command → List Text → Type 0
AppendsTo a [] texts = texts ≡ []
AppendsTo a (command ∷ more) texts = ((target command ≢ Some a) × AppendsTo a more texts)
    ⊎ ((text : Text) × (rest : List Text) × (command ≡ commands.Append a text) × (texts ≡ text ∷ rest) × AppendsTo a more rest)

-- the bytes of the texts, one behind the other
abbrev pub texts_bytes : List Text → List ℕ
texts_bytes texts = concat (map text_bytes texts)
