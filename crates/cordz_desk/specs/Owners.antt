-- What the owner of a record knows.
use Rattle.std.specs.Prelude.{◌≡◌, ℕ, Bool, false, List, [], ◌∷◌, Option, Some, None}
use Rattle.node_forest.specs.Label.{Node}
use Rattle.record_rule.specs.declared.values.Note.{Note}
use Rattle.record_rule.specs.declared.views.Claim.{Claim}
use Rattle.record_rule.specs.declared.views.Claim.TheVariants.{Nothing, Owned}
use Rattle.record_rule.specs.declared.views.DeskView.{DeskView}
use Rattle.record_rule.specs.declared.views.DeskView.TheVariants.{Token, Ticket, Lent}
use Rattle.record_rule.specs.declared.views.Noted.{Noted}
use Rattle.record_rule.specs.Notes.{newest_update}
use Rattle.record_rule.specs.Views.{claiming, showing, token_in}

abbrev pub slot_in : DeskView → ℕ
slot_in (Ticket s stamp notes bare) = s
slot_in _ = 0

abbrev pub stamp_in : DeskView → ℕ
stamp_in (Ticket s stamp notes bare) = stamp
stamp_in _ = 0

abbrev pub notes_in : DeskView → List Noted
notes_in (Ticket s stamp notes bare) = notes
notes_in _ = []

abbrev pub bare_in : DeskView → Bool
bare_in (Ticket s stamp notes bare) = bare
bare_in _ = false

abbrev pub IsTicketView : DeskView → Type 0
IsTicketView v = v ≡ Ticket (slot_in v) (stamp_in v) (notes_in v) (bare_in v)

-- the newest note, and its tree
abbrev pub newest_note : List Noted → Option Note
newest_note [] = None
newest_note (n ∷ ns) = Some n.note

abbrev pub newest_tree : List Noted → Option Node
newest_tree [] = None
newest_tree (n ∷ ns) = Some n.tree

abbrev pub IsNewest : Note → List Noted → Type 0
IsNewest n ns = newest_note ns ≡ Some n

abbrev pub IsNewestTree : Node → List Noted → Type 0
IsNewestTree t ns = newest_tree ns ≡ Some t

-- a note and its tree
abbrev pub noted_as : Note → Node → Noted
noted_as note tree = record { note = note; tree = tree }

-- the note of a new record of a tree
abbrev pub first_note : ℕ → Node → Noted
first_note stamp tree = record { note = record { stamp = stamp; update = 0; length = tree.0.length }; tree = tree }

-- an owner after a change of the record
abbrev pub altered_view : List Noted → Bool → DeskView → DeskView
altered_view notes bare v = Ticket (slot_in v) (stamp_in v) notes bare

-- the claim that a token had last, as a ticket, and what is left to it
abbrev pub claim_slot : List (ℕ × Claim) → ℕ
claim_slot [] = 0
claim_slot (c ∷ cs) = c.0

abbrev pub claim_view : ℕ → Claim → DeskView
claim_view s (Owned stamp notes bare) = Ticket s stamp notes bare
claim_view s _ = Lent

abbrev pub claimed_view : List (ℕ × Claim) → DeskView
claimed_view [] = Lent
claimed_view (c ∷ cs) = claim_view c.0 c.1

abbrev pub issued_view : DeskView → DeskView
issued_view v = claimed_view (token_in v).claims

abbrev pub issuing_view : DeskView → DeskView
issuing_view v = Token (claiming (claim_slot (token_in v).claims) Nothing (token_in v))

-- a token that took a ticket, and one that was also shown its update
abbrev pub redeeming_view : DeskView → DeskView → DeskView
redeeming_view v w = Token (claiming (slot_in w) (Owned (stamp_in w) (notes_in w) (bare_in w)) (token_in v))

abbrev pub seeing_view : DeskView → DeskView → DeskView
seeing_view v w = Token (showing (stamp_in w) (newest_update (notes_in w)) (claiming (slot_in w) (Owned (stamp_in w) (notes_in w) (bare_in w)) (token_in v)))
