-- What each call on a cord makes of its shape. All is a function, but for two choices: whether the last flat's room is filled, and
-- whether the last flat is shortened.
use Rattle.std.specs.Prelude.{ℕ, zero, suc, ◌≡◌, ◌⊎◌, ◌+◌, ◌-◌, ◌<◌, ◌≤◌, min, Bool, true, false, nat_eq, nat_le, if◌then◌else◌}
use Rattle.std.specs.Prelude.{Option, Some, None, IsSome}
use Rattle.node_forest.specs.declared.kind.Kind.TheVariants.{External}
use Rattle.node_forest.specs.declared.side.Side.{Side}
use Rattle.node_forest.specs.declared.side.Side.TheVariants.{Back}
use Rattle.node_forest.specs.Forest.{empty}
use Rattle.tree_shapes.specs.Filling.{with_bytes_filling}
use Rattle.tree_shapes.specs.Flats.{flat_shape, new_shape, with_bytes}
use Rattle.tree_shapes.specs.Keep.{kept, kept_in_front}
use Rattle.tree_shapes.specs.Merge.{joined}
use Rattle.tree_shapes.specs.Room.{IsRooted}
use Rattle.tree_shapes.specs.Shape.{Shape, level, length_of, IsRoot}
use Rattle.tree_shapes.specs.Sums.{skipped, sum_in, sum_over}

-- how many bytes a cord has, and the shape of its tree, if it has one; else it is inline
pub record CordShape : Type 0 where
  pub size : ℕ
  pub tree : Option Shape

-- the most bytes of an inline cord
abbrev pub most_inline : ℕ
most_inline = 15

-- the most bytes of a source that is copied; a longer one is shared
abbrev pub most_copied : ℕ
most_copied = 511

-- a tree's sum, if it has one
abbrev pub sum_of : Option Shape → Option ℕ
sum_of None = None
sum_of (Some s) = sum_in s

abbrev pub IsTreeFor : ℕ → Option Shape → Type 0
IsTreeFor n None = n ≤ most_inline
IsTreeFor n (Some s) = IsRoot s × (length_of s ≡ n) × ((most_inline < n) ⊎ IsSome (sum_in s))

-- there is a tree exactly where there are more than 15 bytes or a sum; it is well formed, and of so many bytes
abbrev pub IsCordShape : CordShape → Type 0
IsCordShape c = IsTreeFor c.size c.tree

-- What a change leaves: no Sum at the root, a tree exactly where there are more than 15 bytes, of so many bytes, and well formed but
-- for its height.
abbrev pub IsTreeWithoutSum : ℕ → Option Shape → Type 0
IsTreeWithoutSum n None = n ≤ most_inline
IsTreeWithoutSum n (Some t) = IsRooted t × (length_of t ≡ n) × (most_inline < n)

abbrev pub IsChanged : ℕ → CordShape → Type 0
IsChanged n c = (c.size ≡ n) × IsTreeWithoutSum n c.tree

-- a change trades a Sum at the root for what lies under it
abbrev pub without_sum : Option Shape → Option Shape
without_sum None = None
without_sum (Some s) = skipped s

abbrev pub inline_or : ℕ → Shape → CordShape
inline_or n t = record { size = n; tree = if nat_le n most_inline then None else Some t }

-- ---- new cords
abbrev pub cord_of_bytes : ℕ → CordShape
cord_of_bytes n = inline_or n (new_shape n)

abbrev pub external_shape : ℕ → Shape
external_shape n = (record { kind = External; length = n; more = 0 }, empty)

abbrev pub cord_of_external : ℕ → CordShape
cord_of_external n = record { size = n; tree = Some (external_shape n) }

-- ---- bytes added
-- The room of the last flat may be filled where the bytes come behind and the root is no Sum.
abbrev pub filling_step : Bool → Side → Option ℕ → Shape → ℕ → Shape
filling_step true Back None t n = with_bytes_filling t n
filling_step _ side sum t n = with_bytes side t n

abbrev pub bytes_step : Bool → Side → ℕ → CordShape → Option Shape → Shape
bytes_step fills side n c None = new_shape (c.size + n)
bytes_step fills side n c (Some t) = filling_step fills side (sum_of c.tree) t n

-- an inline cord is built anew; nothing added changes nothing
abbrev pub with_bytes_added : Bool → Side → ℕ → CordShape → CordShape
with_bytes_added fills side n c =
    if nat_eq n 0 then c else inline_or (c.size + n) (bytes_step fills side n c (without_sum c.tree))

-- ---- a cord added
-- an inline cord that isn't empty becomes a flat first
abbrev pub rooted : ℕ → Option Shape → Option Shape
rooted n None = if nat_eq n 0 then None else Some (flat_shape n)
rooted n (Some t) = Some t

abbrev pub shared_step : Side → Option Shape → Option Shape → Option Shape
shared_step side None x = x
shared_step side (Some t) None = Some t
shared_step side (Some t) (Some x) = Some (joined side t x)

-- a source cord of at most 511 bytes is added as its bytes, and a longer one as its tree, without its Sum
abbrev pub with_cord_added : Bool → Side → CordShape → CordShape → CordShape
with_cord_added fills side source c =
    if nat_le source.size most_copied then with_bytes_added fills side source.size c
    else record {
      size = c.size + source.size;
      tree = shared_step side (rooted c.size (without_sum c.tree)) (without_sum source.tree);
    }

-- a cord added to itself, behind
abbrev pub doubled : Bool → CordShape → CordShape
doubled fills c = with_cord_added fills Back c c

-- ---- ranges kept
abbrev pub range_step : ℕ → ℕ → Option Shape → Option Shape
range_step start n None = None
range_step start n (Some t) = Some (kept t start n)

abbrev pub front_step : Bool → ℕ → Option ℕ → Option Shape → Option Shape
front_step shortens n sum None = None
front_step shortens n None (Some t) = Some (kept_in_front shortens t n)
front_step shortens n (Some value) (Some t) = Some (kept t 0 n)

abbrev pub small_inline : ℕ → Option Shape → CordShape
small_inline n tree = record { size = n; tree = if nat_le n most_inline then None else tree }

-- n bytes from a start on, both within the cord
abbrev pub cord_kept : ℕ → ℕ → CordShape → CordShape
cord_kept start n c = small_inline n (range_step start n (without_sum c.tree))

-- both clamped to what there is
abbrev pub sub_cord : ℕ → ℕ → CordShape → CordShape
sub_cord pos n c = let start = min pos c.size in cord_kept start (min n (c.size - start)) c

-- nothing cut off changes nothing
abbrev pub front_cut : ℕ → CordShape → CordShape
front_cut n c = if nat_eq n 0 then c else cord_kept n (c.size - n) c

-- the last flat may be shortened where the root is no Sum
abbrev pub back_cut : Bool → ℕ → CordShape → CordShape
back_cut shortens n c =
    if nat_eq n 0 then c
    else small_inline (c.size - n) (front_step shortens (c.size - n) (sum_of c.tree) (without_sum c.tree))

-- ---- a sum set
abbrev pub with_sum : ℕ → CordShape → CordShape
with_sum value c = record { size = c.size; tree = Some (sum_over value (rooted c.size (without_sum c.tree))) }

-- ---- heights
abbrev pub level_in : Option Shape → ℕ
level_in None = 0
level_in (Some t) = level t

-- the rules need a Branch of height 12, which is one too high
abbrev pub NeedsHeight12 : CordShape → Type 0
NeedsHeight12 c = 12 < level_in c.tree

-- ---- over both choices
-- the result of one of the two
abbrev pub IsOneOf : (Bool → CordShape) → CordShape → Type 0
IsOneOf f c = (c ≡ f false) ⊎ (c ≡ f true)

abbrev pub IsBytesAdded : Side → ℕ → CordShape → CordShape → Type 0
IsBytesAdded side n old new = IsOneOf (λ fills. with_bytes_added fills side n old) new

abbrev pub IsCordAdded : Side → CordShape → CordShape → CordShape → Type 0
IsCordAdded side source old new = IsOneOf (λ fills. with_cord_added fills side source old) new

abbrev pub IsDoubled : CordShape → CordShape → Type 0
IsDoubled old new = IsOneOf (λ fills. doubled fills old) new

abbrev pub IsBackCut : ℕ → CordShape → CordShape → Type 0
IsBackCut n old new = IsOneOf (λ shortens. back_cut shortens n old) new

-- a call made so many times
abbrev pub repeated : ℕ → (CordShape → CordShape) → CordShape → CordShape
repeated zero call c = c
repeated (suc n) call c = call (repeated n call c)
