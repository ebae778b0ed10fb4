-- What contracts see of a session's cords, and how the plain step over trees has them.
use Rattle.std.specs.Prelude.{ℕ, ◌≡◌, List, Option, Some, None, is_some, true, option_map, MatchOption, if◌then◌else◌}
use Rattle.std.specs.Bool.{⊤}
use Rattle.std.specs.Str.{bytes_eq}
use Rattle.ordered_names.specs.declared.names.Names.{Names}
use Rattle.ordered_names.specs.Named.{named}
use Rattle.tree_shapes.specs.Cords.{sum_of}
use Rattle.record_rule.specs.declared.views.Noted.{Noted}
use Rattle.record_rule.specs.Notes.{newest_update}
use Rattle.cordz_desk.specs.declared.tickets.Ticket.{Ticket}
use Rattle.cordz_desk.specs.Owners.{newest_tree}
use Rattle.cordz_desk.specs.Tickets.{slot_of, stamp_of, notes_of}
use Rattle.cord_value.specs.Views.{CordView, cord_shape, IsTreeOf, no_cord}
use Rattle.cord_sampled.specs.Records.{newest_stamp, newest_length, length_in}
use Rattle.cord_steps.specs.Cords.{Cord, Note}
use Rattle.cord_steps.specs.Cords.{Names as StepNames}

-- a record's slot, its stamp, and its notes, what came last first
pub record RecordView : Type 0 where
  pub slot : ℕ
  pub stamp : ℕ
  pub notes : List Noted

-- the cord, and its record if it is sampled
pub record SessionCordView : Type 0 where
  pub cord : CordView
  pub sample : Option RecordView

module _ {P D : Type 0} {p : _} {d : _} where
  abbrev pub record_of : Ticket P D p d → RecordView
  record_of t = record { slot = slot_of t; stamp = stamp_of t; notes = notes_of t }

-- the empty cord, which is never sampled
abbrev pub no_session_cord : SessionCordView
no_session_cord = record { cord = no_cord; sample = None }

-- a tree just where there must be one; a record only of a tree, whose newest note has its stamp and is of that tree
pub record IsWhole (c : SessionCordView) : Type 0 where
  pub formed : IsTreeOf c.cord.bytes c.cord.tree
  pub sampled : MatchOption c.sample ⊤ (λ r. (is_some c.cord.tree ≡ true) × (newest_stamp r.notes ≡ Some r.stamp)
      × (newest_tree r.notes ≡ c.cord.tree) × (newest_length r.notes ≡ length_in c.cord.tree))

-- ---- as the plain step has it
abbrev pub note_of : RecordView → Note
note_of r = record { stamp = r.stamp; update = newest_update r.notes }

abbrev pub cord_in : SessionCordView → Cord
cord_in c = record {
  bytes = c.cord.bytes;
  sum = sum_of (cord_shape c.cord).tree;
  shape = (cord_shape c.cord).tree;
  note = option_map note_of c.sample;
}

abbrev pub names_of : Names SessionCordView → StepNames
names_of names = λ q. option_map cord_in (named names q)

-- each name stands for what it stood for
abbrev pub AreSame : Names SessionCordView → Names SessionCordView → Type 0
AreSame old new = (q : List ℕ) → named new q ≡ named old q

-- a stands for this cord, and each other name for what it stood for
abbrev pub IsSetTo : Names SessionCordView → Names SessionCordView → List ℕ → SessionCordView → Type 0
IsSetTo old new a c = (q : List ℕ) → named new q ≡ (if bytes_eq a q then Some c else named old q)

-- each cord of a name is whole
abbrev pub AreWhole : Names SessionCordView → Type 0
AreWhole names = (q : List ℕ) (c : SessionCordView) → named names q ≡ Some c → IsWhole c
