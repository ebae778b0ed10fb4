-- Which trees count as new and are sampled, what a command needs, and which marks its answer has.
use Rattle.std.specs.Prelude.{ℕ, ◌≡◌, ◌+◌, ◌-◌, ◌^◌, ◌%◌, ◌≤◌, min, Bool, true, false, ◌&&◌, nat_eq, nat_lt, if◌then◌else◌}
use Rattle.std.specs.Prelude.{Option, Some, None, option_map, is_some, not}
use Rattle.plain_cord.specs.declared.reply.NewMark.{NewMark}
use Rattle.plain_cord.specs.declared.reply.NewMark.TheVariants as marks
use Rattle.cord_steps.specs.Cords.{Note, shape_in, note_in, stamp_in}
use Rattle.cord_steps.specs.Doings.{Manner, Fresh, Copied, Changed, Doing}
use Rattle.cord_steps.specs.Sessions.{Options, Session}

abbrev pub is_tree : Doing → Bool
is_tree d = is_some d.made.tree

abbrev pub was_tree : Doing → Bool
was_tree d = is_some (shape_in d.old).tree

-- a tree that wasn't there: set, or an inline cord that became one; a copy is none
abbrev pub new_step : Manner → Bool → Bool → Bool
new_step Fresh now was = now
new_step (Copied _) now was = false
new_step (Changed _) now was = now && not was

abbrev pub is_new : Doing → Bool
is_new d = new_step d.manner (is_tree d) (was_tree d)

-- a pass for a tree that is set or new
abbrev pub pass_step : Manner → Bool → Bool → Bool
pass_step Fresh now was = now
pass_step (Copied _) now was = now
pass_step (Changed _) now was = now && not was

abbrev pub needs_pass : Doing → Bool
needs_pass d = pass_step d.manner (is_tree d) (was_tree d)

-- numbers for new nodes, which a copy has none of
abbrev pub numbers_step : Manner → Bool → Bool
numbers_step Fresh now = now
numbers_step (Copied _) now = false
numbers_step (Changed alters) now = alters && now

abbrev pub needs_numbers : Doing → Bool
needs_numbers d = numbers_step d.manner (is_tree d)

-- the next new tree is sampled where the stride divides the count
abbrev pub is_turn : Options → Session → Bool
is_turn options s = nat_lt 0 options.stride && nat_eq ((s.trees + 1) % options.stride) 0

-- a copy is sampled where its source is
abbrev pub sampled_step : Manner → Bool → Bool
sampled_step (Copied from) turn = is_some from
sampled_step _ turn = turn

abbrev pub is_sampled : Options → Session → Doing → Bool
is_sampled options s d = sampled_step d.manner (is_new d && is_turn options s)

-- one change more, as far as numbers go
abbrev pub raised : Note → Note
raised n = record { stamp = n.stamp; update = min (n.update + 1) (2 ^ 64 - 1) }

-- the note that a cord keeps through a change
abbrev pub kept_step : Manner → Option Note → Option Note
kept_step (Changed true) own = option_map raised own
kept_step (Changed false) own = own
kept_step _ own = None

abbrev pub kept_note : Doing → Option Note
kept_note d = if is_tree d then kept_step d.manner (note_in d.old) else None

-- the stamp of the record that is given up: that of a cord that goes, or becomes inline
abbrev pub gone_step : Manner → Bool → Option ℕ → Option ℕ
gone_step (Changed _) now stamp = if now then None else stamp
gone_step _ now stamp = stamp

abbrev pub gone_stamp : Doing → Option ℕ
gone_stamp d = gone_step d.manner (is_tree d) (stamp_in d.old)

-- a new record has a stamp that is at least 1, or all are in use
abbrev pub IsNewMark : ℕ → NewMark → Type 0
IsNewMark n (marks.Noted stamp update size) = (1 ≤ stamp) × (update ≡ 0) × (size ≡ n)
IsNewMark n marks.Full = Unit {0}
IsNewMark n marks.Plain = ⊥

-- the mark of a cord that was changed
abbrev pub mark_of : Option Note → ℕ → NewMark
mark_of None n = marks.Plain
mark_of (Some own) n = marks.Noted own.stamp own.update n

-- a change that adds or takes away nothing has none
abbrev pub told_note : Manner → Option Note → Option Note
told_note (Changed false) own = None
told_note _ own = own

abbrev pub IsMark : Bool → Manner → Option Note → ℕ → NewMark → Type 0
IsMark true manner kept n mark = IsNewMark n mark
IsMark false manner kept n mark = mark ≡ mark_of (told_note manner kept) n

-- the cord's note after that mark
abbrev pub note_after : Option Note → NewMark → Option Note
note_after kept (marks.Noted stamp update n) = Some (record { stamp = stamp; update = update })
note_after kept _ = kept
