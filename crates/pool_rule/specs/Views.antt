-- What a token of the pool knows, and how its steps change that.
use Rattle.std.specs.Prelude.{◌≡◌, ℕ, ◌+◌, ◌-◌, List, [], ◌∷◌, ◌++◌, Some, ◌==◌, nat_lt, if◌then◌else◌, take, drop}
use Rattle.std.specs.Coded.{Coded, coded_ℕ, coded×, coded_list}
use base.Stored.{coded_via}
use Rattle.node_forest.specs.Forest.{children, below}
use Rattle.node_forest.specs.Label.{Node, number}
use Rattle.node_forest.specs.Codes.{coded_node}
use Rattle.node_forest.proofs.Same.{node_discrete}
use Rattle.count_core.specs.Views.{without, without_all, passed_on}
use Rattle.pool_rule.specs.Notes.{Count, Look, Use, Tally, lone_but, unused_after, uses_of, coded_count, coded_look, coded_use, coded_tally}

pub record View : Type 0 where
  -- what it holds: its direct holds, in order, how many it may have, and how many numbers the pool has
  pub holds : List Node
  pub room : ℕ
  pub size : ℕ
  -- its numbers: those that it ever took, those that its takes found not 0, and those that its last leaves returned, which found the word 1
  pub taken : List ℕ
  pub full : List ℕ
  pub returned : List ℕ
  -- its passes: the live ones that are its own, the most that there should be, how many of its own found that many, and how many may at once
  pub passes : ℕ
  pub limit : ℕ
  pub over : ℕ
  pub spare : ℕ
  -- its counting: how many counted and uncounted steps it made, what its counted steps found, and the same of tokens that were joined to it
  pub made : ℕ
  pub ended : ℕ
  pub counts : List Count
  pub joined : List Tally
  -- its looks: how many shares it made, the looks that answered no, and the numbers whose word is 1 and that no other token's trees have
  pub shares : ℕ
  pub looks : List Look
  pub lone : List ℕ
  -- its releaser slots: those that it may still use, those that its externals used, and the one that is out with it
  pub unused : List ℕ
  pub used : List Use
  pub away : List Use

-- a token that holds nothing and has made no step
abbrev pub blank : ℕ → ℕ → ℕ → ℕ → View
blank room size limit spare = record {
  holds = [];
  room = room;
  size = size;
  taken = [];
  full = [];
  returned = [];
  passes = 0;
  limit = limit;
  over = 0;
  spare = spare;
  made = 0;
  ended = 0;
  counts = [];
  joined = [];
  shares = 0;
  looks = [];
  lone = [];
  unused = [];
  used = [];
  away = [];
}

-- the pool's first token
abbrev pub first_view : ℕ → ℕ → ℕ → ℕ → List ℕ → View
first_view room size limit workers slots = record (blank room size limit workers) { unused = slots }

-- the same with other holds
abbrev pub with_holds : View → List Node → View
with_holds v holds = record v { holds = holds }

-- after a take that found 0: the tree's edges were direct holds, and the tree is one now; an external uses a slot
abbrev pub taking : Node → View → View
taking t v = record v {
  holds = without_all (children t) v.holds ++ t ∷ [];
  taken = v.taken ++ number t ∷ [];
  unused = unused_after t.0.kind v.unused;
  used = v.used ++ uses_of t.0.kind t;
}

-- after a take that found the number in use
abbrev pub noting : ℕ → View → View
noting n v = record v { full = v.full ++ n ∷ [] }

-- after a take that found this word
abbrev pub tried : ℕ → Node → View → View
tried found t v = if found == 0 then taking t v else noting (number t) v

-- after a share
abbrev pub sharing : Node → View → View
sharing t v = record v { holds = v.holds ++ t ∷ []; shares = v.shares + 1; lone = lone_but (t ∷ []) v.lone }

-- the number that a leave returns: that of a node whose word it found to be 1
abbrev pub returned_by : ℕ → Node → List ℕ
returned_by found t = if found == 1 then number t ∷ [] else []

-- after a leave that found this word
abbrev pub leaving : ℕ → Node → View → View
leaving found t v = record v {
  holds = without (number t) v.holds ++ passed_on found (Some t);
  returned = v.returned ++ returned_by found t;
  lone = lone_but (t ∷ []) v.lone;
}

-- the same where the slot of an external is out until its box was called
abbrev pub releasing : ℕ → Node → View → View
releasing found t v = record (leaving found t v) { away = if found == 1 then uses_of t.0.kind t else [] }

-- after the slot is back
abbrev pub homing : View → View
homing v = record v { away = [] }

-- after a look that found this word
abbrev pub looking : ℕ → Node → View → View
looking found t v =
    if found == 1 then record v { lone = v.lone ++ number t ∷ [] }
    else record v { looks = v.looks ++ record { number = number t; found = found; shares = v.shares } ∷ [] }

-- after a pass was counted where so many were live
abbrev pub count_of : ℕ → View → Count
count_of found v = record { found = found; made = v.made; ended = v.ended }

abbrev pub counting_below : ℕ → View → View
counting_below found v = record v { room = v.room + 1; passes = v.passes + 1; made = v.made + 1; counts = v.counts ++ count_of found v ∷ [] }

abbrev pub counting_over : ℕ → View → View
counting_over found v = record v { room = v.room + 1; passes = v.passes + 1; over = v.over + 1; made = v.made + 1; counts = v.counts ++ count_of found v ∷ [] }

abbrev pub counting : ℕ → View → View
counting found v = if nat_lt found v.limit then counting_below found v else counting_over found v

-- after a pass ended, and after one that found the limit reached was taken back
abbrev pub ending : View → View
ending v = record v { room = v.room - 1; passes = v.passes - 1; ended = v.ended + 1 }

abbrev pub undoing : View → View
undoing v = record v { room = v.room - 1; passes = v.passes - 1; over = v.over - 1; ended = v.ended + 1 }

-- after a token with so much room and so many slots was split off, and that token
abbrev pub narrower : ℕ → ℕ → View → View
narrower room slots v = record v { room = v.room - room; spare = v.spare - 1; unused = drop slots v.unused }

abbrev pub part_of : ℕ → ℕ → View → View
part_of room slots v = record (blank room v.size v.limit 1) { unused = take slots v.unused }

-- after an empty pass was split off, and that pass
abbrev pub parting : View → View
parting v = record v { room = v.room - 1; passes = v.passes - 1 }

abbrev pub empty_pass : View → View
empty_pass v = record (blank 1 v.size v.limit 0) { passes = 1 }

-- after one direct hold went to a pass, and that pass
abbrev pub handing : Node → View → View
handing t v = record v { holds = without (number t) v.holds; room = v.room - 1; passes = v.passes - 1; lone = lone_but (below t) v.lone }

-- the same, where the hold is found by the whole node
abbrev pub skip_by : {x t : Node} → Dec (x ≡ t) → List Node → List Node → List Node
skip_by {x} (yes p) xs rest = xs
skip_by {x} (no n) xs rest = x ∷ rest

unfoldable pub without_node : Node → List Node → List Node
without_node t [] = []
without_node t (x ∷ xs) = skip_by (node_discrete x t) xs (without_node t xs)

abbrev pub giving : Node → View → View
giving t v = record (handing t v) { holds = without_node t v.holds }

abbrev pub holder : Node → View → View
holder t v = record (empty_pass v) { holds = t ∷ [] }

-- after a pass was taken back
abbrev pub drawing : View → View → View
drawing v w = record v { holds = v.holds ++ w.holds; room = v.room + w.room; passes = v.passes + w.passes }

-- two tokens in one, when the pool is closed
abbrev pub tally_of : View → Tally
tally_of v = record { counts = v.counts; made = v.made; ended = v.ended }

abbrev pub merged : View → View → View
merged v w = record v {
  holds = v.holds ++ w.holds;
  room = v.room + w.room;
  taken = v.taken ++ w.taken;
  full = v.full ++ w.full;
  returned = v.returned ++ w.returned;
  passes = v.passes + w.passes;
  over = v.over + w.over;
  spare = v.spare + w.spare;
  joined = v.joined ++ tally_of w ∷ w.joined;
  shares = v.shares + w.shares;
  looks = v.looks ++ w.looks;
  lone = v.lone ++ w.lone;
  unused = v.unused ++ w.unused;
  used = v.used ++ w.used;
}

-- what the second is left with
abbrev pub spent : View → View
spent w = blank 0 w.size w.limit 0

-- ---- a view as ghost data, in the groups of its fields
abbrev Holding : Type 0
Holding = List Node × (ℕ × ℕ)

abbrev Numbers : Type 0
Numbers = List ℕ × (List ℕ × List ℕ)

abbrev Passes : Type 0
Passes = ℕ × (ℕ × (ℕ × ℕ))

abbrev Counting : Type 0
Counting = ℕ × (ℕ × (List Count × List Tally))

abbrev Looking : Type 0
Looking = ℕ × (List Look × List ℕ)

abbrev Slots : Type 0
Slots = List ℕ × (List Use × List Use)

abbrev Groups : Type 0
Groups = Holding × (Numbers × (Passes × (Counting × (Looking × Slots))))

abbrev coded_numbers : Coded Numbers
coded_numbers = coded× (coded_list coded_ℕ) (coded× (coded_list coded_ℕ) (coded_list coded_ℕ))

abbrev coded_groups : Coded Groups
coded_groups =
    coded× (coded× (coded_list coded_node) (coded× coded_ℕ coded_ℕ))
    (coded× coded_numbers
    (coded× (coded× coded_ℕ (coded× coded_ℕ (coded× coded_ℕ coded_ℕ)))
    (coded× (coded× coded_ℕ (coded× coded_ℕ (coded× (coded_list coded_count) (coded_list coded_tally))))
    (coded× (coded× coded_ℕ (coded× (coded_list coded_look) (coded_list coded_ℕ)))
    (coded× (coded_list coded_ℕ) (coded× (coded_list coded_use) (coded_list coded_use)))))))

abbrev groups_of : View → Groups
groups_of v = (
  (v.holds, (v.room, v.size)),
  (
    (v.taken, (v.full, v.returned)),
    ((v.passes, (v.limit, (v.over, v.spare))), ((v.made, (v.ended, (v.counts, v.joined))), ((v.shares, (v.looks, v.lone)), (v.unused, (v.used, v.away))))),
  ),
)

abbrev view_in : Holding → Numbers → Passes → Counting → Looking → Slots → View
view_in h n p c l s = record {
  holds = h.0;
  room = h.1.0;
  size = h.1.1;
  taken = n.0;
  full = n.1.0;
  returned = n.1.1;
  passes = p.0;
  limit = p.1.0;
  over = p.1.1.0;
  spare = p.1.1.1;
  made = c.0;
  ended = c.1.0;
  counts = c.1.1.0;
  joined = c.1.1.1;
  shares = l.0;
  looks = l.1.0;
  lone = l.1.1;
  unused = s.0;
  used = s.1.0;
  away = s.1.1;
}

-- views with the same groups are the same
pub one_view : (v w : View) → groups_of v ≡ groups_of w → v ≡ w
one_view v w e i = view_in (e i).0 (e i).1.0 (e i).1.1.0 (e i).1.1.1.0 (e i).1.1.1.1.0 (e i).1.1.1.1.1

abbrev pub coded_view : Coded View
coded_view = coded_via coded_groups groups_of one_view
