-- How the tokens of a desk end, and what was told of the notes that they read.
use Rattle.std.specs.Prelude.{◌≡◌, ◌⊎◌, ℕ, false, List, [], ◌∷◌, map}
use Rattle.node_pool.specs.Boxes.{below}
use Rattle.record_rule.specs.declared.views.Noted.{Noted}
use Rattle.record_rule.specs.declared.views.TokenView.{TokenView}
use Rattle.record_rule.specs.Log.{is_walking}
use Rattle.record_rule.specs.Notes.{IsNoteOf}
use Rattle.desk_laws.specs.Counts.{IsFinished}

-- the tokens are all that the desk gave, in the order of their numbers
abbrev pub AreAll : List TokenView → ℕ → Type 0
AreAll tokens given = map (λ (p : TokenView). p.number) tokens ≡ below given

-- a token that finished what it began, and has no snapshot
pub record HasEnded (p : TokenView) : Type 0 where
  pub finished : IsFinished p.own
  pub still : is_walking p.own ≡ false

-- a ticket of the note's stamp was untracked, which had this note
abbrev pub IsUntracked : Noted → List (ℕ × List Noted) → Type 0
IsUntracked n [] = ⊥
IsUntracked n (u ∷ us) = ((u.0 ≡ n.note.stamp) × IsNoteOf n u.1) ⊎ IsUntracked n us

-- this note was set under a ticket that one of the tokens untracked
abbrev pub IsOfUntracked : Noted → List TokenView → Type 0
IsOfUntracked n [] = ⊥
IsOfUntracked n (p ∷ ps) = IsUntracked n p.untracked ⊎ IsOfUntracked n ps
