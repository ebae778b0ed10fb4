-- What a token keeps of its own steps: what its counted steps and its looks found, which numbers it knows to be lone, and its releaser slots.
use Rattle.std.specs.Prelude.{ℕ, ◌==◌, Bool, true, false, List, [], ◌∷◌, drop}
use Rattle.std.specs.Coded.{Coded, coded_ℕ, coded×, coded_list}
use base.Stored.{coded_via}
use Rattle.node_forest.specs.declared.kind.Kind.{Kind}
use Rattle.node_forest.specs.declared.kind.Kind.TheVariants.{External}
use Rattle.node_forest.specs.Counts.{times}
use Rattle.node_forest.specs.Label.{Node, external_slot}

-- a counted step: the word of live passes that it found, and how many counted and uncounted steps the token had made before it
pub record Count : Type 0 where
  pub found : ℕ
  pub made : ℕ
  pub ended : ℕ

-- a look that answered no: the number, the word that it found, and how many shares the token had made before it
pub record Look : Type 0 where
  pub number : ℕ
  pub found : ℕ
  pub shares : ℕ

-- a releaser slot that an external uses, and that external's number and length in bytes
pub record Use : Type 0 where
  pub slot : ℕ
  pub number : ℕ
  pub length : ℕ

-- the counted and uncounted steps of another token that was joined to this one when the pool was closed
pub record Tally : Type 0 where
  pub counts : List Count
  pub made : ℕ
  pub ended : ℕ

-- ---- lone numbers
abbrev pub keep_if : Bool → ℕ → List ℕ → List ℕ
keep_if true n ns = n ∷ ns
keep_if false n ns = ns

-- the numbers that none of these nodes has
abbrev pub lone_but : List Node → List ℕ → List ℕ
lone_but nodes [] = []
lone_but nodes (n ∷ ns) = keep_if (times n nodes == 0) n (lone_but nodes ns)

-- ---- releaser slots
-- an external uses the first unused slot
abbrev pub unused_after : Kind → List ℕ → List ℕ
unused_after External slots = drop 1 slots
unused_after _ slots = slots

abbrev pub use_of : Node → Use
use_of t = record { slot = external_slot t.0; number = t.0.number; length = t.0.length }

abbrev pub uses_of : Kind → Node → List Use
uses_of External t = use_of t ∷ []
uses_of _ t = []

abbrev pub coded_count : Coded Count
coded_count =
    coded_via (coded× coded_ℕ (coded× coded_ℕ coded_ℕ))
    (λ (c : Count). (c.found, (c.made, c.ended)))
    (λ x y e i. record { found = (e i).0; made = (e i).1.0; ended = (e i).1.1 })

abbrev pub coded_look : Coded Look
coded_look =
    coded_via (coded× coded_ℕ (coded× coded_ℕ coded_ℕ))
    (λ (c : Look). (c.number, (c.found, c.shares)))
    (λ x y e i. record { number = (e i).0; found = (e i).1.0; shares = (e i).1.1 })

abbrev pub coded_use : Coded Use
coded_use =
    coded_via (coded× coded_ℕ (coded× coded_ℕ coded_ℕ))
    (λ (c : Use). (c.slot, (c.number, c.length)))
    (λ x y e i. record { slot = (e i).0; number = (e i).1.0; length = (e i).1.1 })

abbrev pub coded_tally : Coded Tally
coded_tally =
    coded_via (coded× (coded_list coded_count) (coded× coded_ℕ coded_ℕ))
    (λ (c : Tally). (c.counts, (c.made, c.ended)))
    (λ x y e i. record { counts = (e i).0; made = (e i).1.0; ended = (e i).1.1 })
