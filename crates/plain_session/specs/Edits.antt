-- The change that an edit is, and what it makes of one cord.
use Rattle.std.specs.Prelude.{◌≡◌, ℕ, ◌-◌, ◌*◌, ◌≤◌, Bool, List, ◌++◌, length, take, drop, if◌then◌else◌}
use Rattle.plain_cord.specs.declared.limits.TheConstants.{MOST_BYTES}
use Rattle.plain_cord.specs.declared.reply.Reply.{Reply}
use Rattle.plain_cord.specs.Texts.{repeated}
use Rattle.plain_cord.specs.States.{CordState, Environment}
use Rattle.plain_cord.specs.Outcomes.{Outcome, Edited, keeping, with_cord, grown, Change, Clears, Grows, Cuts, Sums, edited_by}
use Rattle.plain_session.specs.declared.edit.Edit.{Edit}
use Rattle.plain_session.specs.declared.edit.Edit.TheVariants.{Clear, Append, Prepend, Double, CutFront, CutBack, SetSum}

abbrev pub change_of : Edit → Change
change_of Clear = Clears
change_of (Append piece times) = Grows (λ bytes. bytes ++ repeated piece.now times)
change_of (Prepend piece times) = Grows (λ bytes. repeated piece.now times ++ bytes)
change_of Double = Grows (λ bytes. bytes ++ bytes)
change_of (CutFront n) = Cuts n (λ bytes. drop n bytes)
change_of (CutBack n) = Cuts n (λ bytes. take (length bytes - n) bytes)
change_of (SetSum value) = Sums value

-- the change left this cord, with this answer
abbrev pub Leaves : Edited → CordState → Reply → Type 0
Leaves e cord reply = (cord ≡ e.cord) × (reply ≡ e.reply)

-- the bytes that an edit adds are no more than a cord may have
abbrev pub Fits : Edit → Type 0
Fits (Append piece times) = length piece.now * times ≤ MOST_BYTES
Fits (Prepend piece times) = length piece.now * times ≤ MOST_BYTES
Fits _ = Unit {0}

-- an edit on the cord of a name
abbrev pub change_outcome : Environment → List ℕ → Edit → Outcome
change_outcome names name edit = with_cord names name (λ cord. keeping names name (edited_by cord (change_of edit)))

-- the bytes of another cord in front or behind
abbrev pub joined : CordState → CordState → Bool → Edited
joined cord other in_front = if in_front then grown cord (other.bytes ++ cord.bytes) else grown cord (cord.bytes ++ other.bytes)

abbrev pub join_outcome : Environment → List ℕ → List ℕ → Bool → Outcome
join_outcome names a b in_front = with_cord names a (λ cord. with_cord names b (λ other. keeping names a (joined cord other in_front)))

-- an edit that takes no memory
abbrev pub IsFree : Edit → Type 0
IsFree Clear = Unit {0}
IsFree (CutFront n) = Unit {0}
IsFree (CutBack n) = Unit {0}
IsFree (SetSum value) = Unit {0}
IsFree _ = ⊥
