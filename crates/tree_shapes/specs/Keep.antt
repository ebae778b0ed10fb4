-- Which tree is left where a range of a tree's bytes is kept.
use Rattle.std.specs.Prelude.{ℕ, zero, suc, ◌+◌, ◌-◌, Bool, ◌&&◌, nat_eq, nat_lt, nat_le, if◌then◌else◌}
use Rattle.std.specs.Prelude.{List, [], ◌∷◌, length}
use Rattle.node_forest.specs.declared.kind.Kind.{Kind}
use Rattle.node_forest.specs.declared.kind.Kind.TheVariants.{Flat, Part}
use Rattle.node_forest.specs.declared.side.Side.TheVariants.{Front}
use Rattle.node_forest.specs.Forest.{forest, children}
use Rattle.tree_shapes.specs.Growth.{outermost, with_edges}
use Rattle.tree_shapes.specs.Shape.{Shape, level, length_of}

-- a Part of a flat or an external; of a Part one of its child, with the starts added
abbrev pub part_step : Kind → Shape → ℕ → ℕ → Shape
part_step Part s start n = (record { kind = Part; length = n; more = s.0.more + start }, s.1)
part_step _ s start n = (record { kind = Part; length = n; more = start }, forest (s ∷ []))

-- n bytes of a data edge from a start on; all of them: the edge itself
abbrev pub part_of : Shape → ℕ → ℕ → Shape
part_of s start n = if nat_eq n (length_of s) then s else part_step s.0.kind s start n

-- a flat with its first n bytes alone, of the same capacity
abbrev pub shortened_step : Kind → Shape → ℕ → Shape
shortened_step Flat s n = (record { kind = Flat; length = n; more = s.0.more + (length_of s - n) }, s.1)
shortened_step kind s n = part_step kind s 0 n

-- the same as `part_of`, where a flat whose back is cut is shortened
abbrev pub shortened_of : Shape → ℕ → ℕ → Shape
shortened_of s start n =
    if nat_eq n (length_of s) then s
    else (if nat_eq start 0 then shortened_step s.0.kind s n else part_step s.0.kind s start n)

-- the edges that a range touches, each cut to it
abbrev pub touched : (Shape → ℕ → ℕ → Shape) → List Shape → ℕ → ℕ → List Shape
touched cut [] start n = []
touched cut (e ∷ es) start n =
    if nat_le (length_of e) start then touched cut es (start - length_of e) n
    else (if nat_le n (length_of e - start) then cut e start n ∷ []
    else cut e start (length_of e - start) ∷ touched cut es 0 (n - (length_of e - start)))

-- A tree of this level with n of its bytes, from a start on. All of them: the tree itself. Else a data edge is cut, and a
-- Branch has those edges that the range touches.
unfoldable pub keep_by : (Shape → ℕ → ℕ → Shape) → ℕ → Shape → ℕ → ℕ → Shape
keep_by cut zero s start n = cut s start n
keep_by cut (suc l) s start n =
    if nat_eq n (length_of s) then s else with_edges s (touched (keep_by cut l) (children s) start n)

abbrev pub keep : ℕ → Shape → ℕ → ℕ → Shape
keep l s start n = keep_by part_of l s start n

-- a root that is a Branch with one edge is dropped for it, again and again
unfoldable pub lowered : ℕ → Shape → Shape
lowered zero s = s
lowered (suc l) s = if nat_eq (length (children s)) 1 then lowered l (outermost Front s) else s

-- what a tree is with n of its bytes, from a start on
abbrev pub kept : Shape → ℕ → ℕ → Shape
kept t start n = lowered (level t) (keep (level t) t start n)

abbrev pub is_single : Shape → Bool
is_single s = nat_lt 0 (level s) && nat_eq (length (children s)) 1

-- The same of the first n bytes, where the last flat may be shortened. It isn't where a root is dropped.
abbrev pub kept_in_front : Bool → Shape → ℕ → Shape
kept_in_front shortens t n =
    if is_single (keep (level t) t 0 n) then kept t 0 n
    else (if shortens then keep_by shortened_of (level t) t 0 n else keep (level t) t 0 n)
