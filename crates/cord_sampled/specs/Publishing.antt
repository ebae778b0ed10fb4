-- What a change of a sampled cord does to its record.
use Rattle.std.specs.Prelude.{◌≡◌, Bool, true, false, ◌∷◌}
use Rattle.node_forest.specs.Label.{Node}
use Rattle.record_rule.specs.declared.values.Note.{Note}
use Rattle.record_rule.specs.Notes.{newest_update}
use Rattle.cordz_desk.specs.declared.tickets.Ticket.{Ticket}
use Rattle.cordz_desk.specs.Owners.{noted_as}
use Rattle.cordz_desk.specs.Reps.{IsRaised}
use Rattle.cordz_desk.specs.Tickets.{slot_of, stamp_of, notes_of, bare_of, IsSameTicket}
use Rattle.cord_sampled.specs.declared.mark.Mark.{Mark}
use Rattle.cord_sampled.specs.declared.mark.Mark.TheVariants.{Plain, Noted}

module _ {P D : Type 0} {p : _} {d : _} where
  -- the record has a new note, of this tree
  pub record IsPublished (t u : Ticket P D p d) (note : Note) (e : Node) : Type 0 where
    pub slot : slot_of u ≡ slot_of t
    pub stamp : stamp_of u ≡ stamp_of t
    pub some : bare_of u ≡ false
    pub notes : notes_of u ≡ noted_as note e ∷ notes_of t
    pub stamped : note.stamp ≡ stamp_of t
    pub update : IsRaised (newest_update (notes_of t)) note.update
    pub length : note.length ≡ e.0.length

  -- of a cord that has this tree now; a bare record stays so
  abbrev pub IsTold : Bool → Ticket P D p d → Ticket P D p d → Mark → Node → Type 0
  IsTold false t u (Noted note) e = IsPublished t u note e
  IsTold true t u Plain e = IsSameTicket t u
  IsTold bare t u mark e = ⊥

  -- the record has the same notes, and is bare
  pub record IsStripped (t u : Ticket P D p d) : Type 0 where
    pub slot : slot_of u ≡ slot_of t
    pub stamp : stamp_of u ≡ stamp_of t
    pub notes : notes_of u ≡ notes_of t
    pub bare : bare_of u ≡ true
