-- What the record of a cord is: its newest note has its stamp, and is of the cord's tree.
use Rattle.std.specs.Prelude.{ℕ, ◌≡◌, true, false, List, [], ◌∷◌, Option, Some, None, is_some, option_map}
use Rattle.node_forest.specs.Label.{Node}
use Rattle.record_rule.specs.declared.views.Noted.{Noted}
use Rattle.cordz_desk.specs.declared.tickets.Ticket.{Ticket}
use Rattle.cordz_desk.specs.Owners.{newest_tree}
use Rattle.cordz_desk.specs.Tickets.{stamp_of, notes_of, bare_of, IsAtRest}

-- the stamp and the length in the newest of these notes
abbrev pub newest_stamp : List Noted → Option ℕ
newest_stamp [] = None
newest_stamp (n ∷ ns) = Some n.note.stamp

abbrev pub newest_length : List Noted → Option ℕ
newest_length [] = None
newest_length (n ∷ ns) = Some n.note.length

abbrev pub length_in : Option Node → Option ℕ
length_in e = option_map (λ t. t.0.length) e

module _ {P D : Type 0} {p : _} {d : _} where
  abbrev pub IsStamped : Ticket P D p d → Type 0
  IsStamped t = newest_stamp (notes_of t) ≡ Some (stamp_of t)

  -- its newest note is of this tree and its length; that of a bare record may be of an older one
  abbrev pub IsOfTree : Option Node → Ticket P D p d → Type 0
  IsOfTree e t = bare_of t ≡ false → (newest_tree (notes_of t) ≡ e) × (newest_length (notes_of t) ≡ length_in e)

  -- the ticket of a cord with this tree; there is none without a tree
  abbrev pub HasRecord : Option Node → Ticket P D p d → Type 0
  HasRecord e t = IsAtRest t × IsStamped t × (is_some e ≡ true) × IsOfTree e t
