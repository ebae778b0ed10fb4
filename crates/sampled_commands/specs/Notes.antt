-- Where the notes of a session's records come from: each was told by one of its answers, or came with a cord from the board.
use Rattle.std.specs.Prelude.{ℕ, ◌≡◌, ◌⊎◌, List, [], ◌∷◌, Some}
use Rattle.plain_cord.specs.declared.reply.NewMark.{NewMark}
use Rattle.plain_cord.specs.declared.reply.NewMark.TheVariants as marks
use Rattle.plain_cord.specs.declared.reply.Reply.{Reply}
use Rattle.plain_cord.specs.declared.reply.Reply.TheVariants as replies
use Rattle.record_rule.specs.declared.values.Note.{Note}
use Rattle.record_rule.specs.declared.views.Noted.{Noted}
use Rattle.record_rule.specs.declared.views.TokenView.{TokenView}
use Rattle.record_rule.specs.Notes.{IsNoteOf}
use Rattle.ordered_names.specs.declared.names.Names.{Names}
use Rattle.ordered_names.specs.Named.{named}
use Rattle.sampled_commands.specs.declared.answer.Answer.{Answer}
use Rattle.sampled_commands.specs.declared.answer.Answer.TheVariants.{Told}
use Rattle.sampled_commands.specs.Views.{SessionCordView, RecordView}

-- the mark tells this note: its stamp, its update and its length
abbrev pub IsToldByMark : Note → NewMark → Type 0
IsToldByMark n (marks.Noted stamp update size) = (n.stamp ≡ stamp) × (n.update ≡ update) × (n.length ≡ size)
IsToldByMark n _ = ⊥

abbrev pub IsToldByReply : Note → Reply → Type 0
IsToldByReply n (replies.Done mark _) = IsToldByMark n mark
IsToldByReply n _ = ⊥

abbrev pub IsToldNote : Note → Answer → Type 0
IsToldNote n (Told reply) = IsToldByReply n reply
IsToldNote n _ = ⊥

-- one of the notes of a cord's record
pub record IsNoteIn (n : Noted) (c : SessionCordView) : Type 0 where
  pub sample : RecordView
  pub is : c.sample ≡ Some sample
  pub among : IsNoteOf n sample.notes

-- of a cord of a name
pub record IsKnown (n : Noted) (names : Names SessionCordView) : Type 0 where
  pub name : List ℕ
  pub cord : SessionCordView
  pub is : named names name ≡ Some cord
  pub among : IsNoteIn n cord

-- of a record that was given up
abbrev pub WasUntracked : Noted → List (ℕ × List Noted) → Type 0
WasUntracked n [] = ⊥
WasUntracked n (u ∷ us) = IsNoteOf n u.1 ⊎ WasUntracked n us

-- of one command: each note that the names' records have then, or that were given up with it, is one that they had, or its answer tells it
pub record AreToldNotes (old new : Names SessionCordView) (v w : TokenView) (answer : Answer) : Type 0 where
  pub known : (n : Noted) → IsKnown n new → IsKnown n old ⊎ IsToldNote n.note answer
  pub untracked : (n : Noted) → WasUntracked n w.untracked → WasUntracked n v.untracked ⊎ (IsKnown n old ⊎ IsToldNote n.note answer)
