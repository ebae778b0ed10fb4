-- The whole rule of the pool's table: besides the count rule what each token knows of lone numbers, of the word of live passes and of releaser slots.
use Rattle.std.specs.Prelude.{◌≡◌, ◌≢◌, ◌⊎◌, ℕ, ◌+◌, ◌<◌, ◌≤◌, eqb, List, [], ◌∷◌, map, sum_by, slice_index}
use Rattle.std.specs.Prelude.{Option as Maybe, Some, None, slice_index_or}
use mathlib.Core.Option.{Option, none, some}
use lib.ListN.{get_elem?}
use Rattle.atomic_table.specs.Table.{State}
use Rattle.node_forest.specs.Label.{Node, number, external_slot}
use Rattle.node_forest.specs.Forest.{children}
use Rattle.node_forest.specs.Members.{In, Occurs}
use Rattle.node_forest.specs.declared.kind.Kind.TheVariants.{External}
use Rattle.node_forest.specs.Counts.{one_if}
use Rattle.pool_rule.specs.Notes.{Count, Tally, Use, use_of}
use Rattle.pool_rule.specs.Views.{View}
use Rattle.pool_rule.specs.Rules.{holds_of, spares, Among, Ruled}
use Rattle.count_core.specs.Steps as core

-- a releaser's box as it was handed in: how often it was called, and the latest length
pub record Handed : Type 0 where
  pub calls : ℕ
  pub latest : Maybe ℕ

-- what is seen of a slot's value: its box, and the length of the one release that it had since
pub record Box : Type 0 where
  pub handed : Handed
  pub length : Maybe ℕ

-- what a pool is started with: how many numbers and workers, the boxes, and what is seen of a slot's value
pub record Terms (S : Type 0) : Type 0 where
  pub numbers : ℕ
  pub workers : ℕ
  pub boxes : List Handed
  pub seen : S → Maybe Box

module _ {S : Type 0} (p : Terms S) where
  -- the slot's own box, which was called with this length
  abbrev pub HasBox : ℕ → Maybe ℕ → S → Type 0
  HasBox j length y = p.seen y ≡ Some (record { handed = slice_index_or p.boxes j (record { calls = 0; latest = None }); length = length })

  abbrev pub IsFresh : ℕ → S → Type 0
  IsFresh j = HasBox j None

  abbrev pub IsCalled : ℕ → ℕ → S → Type 0
  IsCalled j l = HasBox j (Some l)

abbrev pub Member : {A : Type 0} → A → List A → Type 0
Member x [] = ⊥
Member x (y ∷ ys) = (x ≡ y) ⊎ Member x ys

-- some token's list has it
pub record Has {A : Type 0} (f : View → List A) (x : A) (views : List View) : Type 0 where
  pub id : ℕ
  pub view : View
  pub at : get_elem? views id ≡ some view
  pub member : Member x (f view)

-- ---- tokens that are no workers
-- it made no step but to move holds, and has room for the holds of its passes
pub record IsBare (v : View) : Type 0 where
  pub room : v.room ≡ v.passes
  pub taken : v.taken ≡ []
  pub full : v.full ≡ []
  pub returned : v.returned ≡ []
  pub over : v.over ≡ 0
  pub made : v.made ≡ 0
  pub ended : v.ended ≡ 0
  pub counts : v.counts ≡ []
  pub joined : v.joined ≡ []
  pub unused : v.unused ≡ []
  pub used : v.used ≡ []
  pub away : v.away ≡ []

abbrev pub AreBare : List View → Type 0
AreBare views = (id : ℕ) (v : View) → get_elem? views id ≡ some v → v.spare ≡ 0 → IsBare v

-- ---- lone numbers
-- the word is 1, and no other token's trees have the number
pub record IsAlone (numbers : ℕ) (words : List ℕ) (views : List View) (id n : ℕ) : Type 0 where
  pub low : n < numbers
  pub one : slice_index words n ≡ 1
  pub apart : (other : ℕ) (w : View) → get_elem? views other ≡ some w → other ≢ id → (x : Node) → Occurs x w.holds → number x ≢ n

abbrev pub AreLone : ℕ → List ℕ → List View → Type 0
AreLone numbers words views = (id n : ℕ) (v : View) → get_elem? views id ≡ some v → Member n v.lone → IsAlone numbers words views id n

-- a look is made of a direct hold, or of an edge of a node whose number is lone
abbrev pub IsReached : Node → View → Type 0
IsReached t v = In t v.holds ⊎ ((q : Node) × Occurs q v.holds × Member (number q) v.lone × In t (children q))

-- ---- the word of live passes
-- counted and uncounted steps of a token, and of those that were joined to it
abbrev pub made_by : View → ℕ
made_by v = v.made + sum_by (λ (t : Tally). t.made) v.joined

abbrev pub ended_by : View → ℕ
ended_by v = v.ended + sum_by (λ (t : Tally). t.ended) v.joined

-- The word that a counted step found is at most the live passes of its own token then, and the counted steps that all others ever
-- made, and at least the own ones less the uncounted steps of all others.
pub record IsWithin (all_made all_ended made ended : ℕ) (c : Count) : Type 0 where
  pub most : c.found + c.ended + made ≤ c.made + all_made
  pub least : c.made + ended ≤ c.found + c.ended + all_ended

pub record Tallied (word : ℕ) (views : List View) : Type 0 where
  pub live : word + sum_by ended_by views ≡ sum_by made_by views
  pub own : (id : ℕ) (v : View) → get_elem? views id ≡ some v → (c : Count) → Member c v.counts
      → IsWithin (sum_by made_by views) (sum_by ended_by views) v.made v.ended c
  pub joined : (id : ℕ) (v : View) → get_elem? views id ≡ some v → (t : Tally) → Member t v.joined → (c : Count) → Member c t.counts
      → IsWithin (sum_by made_by views) (sum_by ended_by views) t.made t.ended c

-- ---- releaser slots
abbrev pub slot_of : Use → ℕ
slot_of u = u.slot

abbrev pub unused_of : View → List ℕ
unused_of v = v.unused

abbrev pub used_of : View → List Use
used_of v = v.used

abbrev pub away_of : View → List Use
away_of v = v.away

-- how often a slot stands in a list
abbrev pub slot_times : ℕ → List ℕ → ℕ
slot_times j [] = 0
slot_times j (i ∷ is) = one_if (eqb j i) + slot_times j is

abbrev pub known_times : ℕ → View → ℕ
known_times j v = slot_times j v.unused + slot_times j (map slot_of v.used)

abbrev pub away_times : ℕ → View → ℕ
away_times j v = slot_times j (map slot_of v.away)

-- the slot is at home, and its value is so
pub record IsHome {S : Type 0} (P : S → Type 0) (homes : List (Option S)) (j : ℕ) : Type 0 where
  pub value : S
  pub at : get_elem? homes j ≡ some (some value)
  pub is : P value

-- the external that uses the slot may be a node of some tree, and no other node has its number
pub record IsLive (numbers : ℕ) (words : List ℕ) (roots : List Node) (u : Use) : Type 0 where
  pub low : u.number < numbers
  pub word : slice_index words u.number ≢ 0
  pub node : (x : Node) → Occurs x roots → number x ≡ u.number → (x.0.kind ≡ External) × (use_of x ≡ u)

pub record Slotted {S : Type 0} (p : Terms S) (words : List ℕ) (homes : List (Option S)) (roots : List Node) (views : List View) : Type 0 where
  -- each slot is one token's, unused or used once, and out with one token at most
  pub once : (j : ℕ) → sum_by (known_times j) views ≤ 1
  pub single : (j : ℕ) → sum_by (away_times j) views ≤ 1
  -- an unused slot, and that of an external in a tree, are at home, and their box wasn't called
  pub unused : (j : ℕ) → Has unused_of j views → IsHome (IsFresh p j) homes j
  pub external : (x : Node) → Occurs x roots → x.0.kind ≡ External
      → IsHome (IsFresh p (external_slot x.0)) homes (external_slot x.0) × Has used_of (use_of x) views
  -- a slot that isn't at home is out with a token, whose external used it
  pub out : (j : ℕ) → get_elem? homes j ≡ some none → (u : Use) × Has away_of u views × (u.slot ≡ j)
  pub gone : (u : Use) → Has away_of u views → (get_elem? homes u.slot ≡ some none) × Has used_of u views
  -- the external of a used slot is in a tree, or the slot is out, or its box was called
  pub used : (u : Use) → Has used_of u views → IsLive p.numbers words roots u ⊎ Has away_of u views ⊎ IsHome (IsCalled p u.slot u.length) homes u.slot
  -- a box that was called was so for an external
  pub value : (j : ℕ) (y : S) → get_elem? homes j ≡ some (some y) → IsFresh p j y ⊎ ((u : Use) × Has used_of u views × (u.slot ≡ j) × IsCalled p j u.length y)

-- ---- the rule
pub record Kept {S : Type 0} (p : Terms S) (s : State S View) : Type 0 where
  pub counted : Ruled p.numbers s
  pub workers : spares s.views ≡ p.workers
  pub bare : AreBare s.views
  pub lone : AreLone p.numbers s.words s.views
  pub tallied : Tallied (slice_index s.words p.numbers) s.views
  pub slotted : Slotted p s.words s.homes (core.roots (map holds_of s.views)) s.views

-- ---- a token that is all workers of a pool
-- what the counted steps of its workers found is bounded by what all of them made and ended, and what their takes found in use was
-- taken by one of them
pub record IsKnown (v : View) : Type 0 where
  pub own : (c : Count) → Member c v.counts → IsWithin (made_by v) (ended_by v) v.made v.ended c
  pub joined : (t : Tally) → Member t v.joined → (c : Count) → Member c t.counts → IsWithin (made_by v) (ended_by v) t.made t.ended c
  pub taken : (n : ℕ) → Among n v.full → Among n v.taken
