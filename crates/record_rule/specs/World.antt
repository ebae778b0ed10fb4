-- What the registry, the slots' records and the tokens have to do with each other between any two steps.
use Rattle.std.specs.Prelude.{◌≡◌, ◌⊎◌, ◌<◌, ◌≤◌, ◌+◌, ◌*◌, ℕ, Bool, true, false, List, [], ◌∷◌, map, length, MatchOption, ⊤, Option, Some, None}
use mathlib.Core.Option.{some}
use lib.ListN.{get_elem?}
use Rattle.node_forest.specs.Label.{Node}
use Rattle.turn_desk.specs.Spots.{Spot, home, out}
use Rattle.cordz_core.specs.declared.slot.Clock.{Clock}
use Rattle.cordz_core.specs.declared.slot.SlotState.{SlotState}
use Rattle.cordz_core.specs.declared.slot.SlotState.TheVariants.{Free, Reserved, Linked, Leaving, Queued, Clearing}
use Rattle.cordz_core.specs.Contents.{Contents, state_of, birth_of}
use Rattle.cordz_core.specs.History.{History, stamps_given, stamp_in}
use Rattle.cordz_core.specs.Legal.{Replays}
use Rattle.cordz_core.specs.Queue.{has}
use Rattle.cordz_core.specs.Walks.{Read, IsWalk}
use Rattle.record_rule.specs.declared.values.DeskValue.{DeskValue}
use Rattle.record_rule.specs.declared.values.DeskValue.TheVariants.{List as Lists, Record}
use Rattle.record_rule.specs.declared.values.Note.{Note}
use Rattle.record_rule.specs.declared.values.Rep.{Rep}
use Rattle.record_rule.specs.declared.views.Claim.{Claim}
use Rattle.record_rule.specs.declared.views.Claim.TheVariants.{Nothing, Promised, Written, Owned, Unlinked, Cleared, Emptied}
use Rattle.record_rule.specs.declared.views.LogEntry.{LogEntry}
use Rattle.record_rule.specs.declared.views.Noted.{Noted}
use Rattle.record_rule.specs.declared.views.TokenView.{TokenView}
use Rattle.record_rule.specs.declared.views.DeskView.{DeskView}
use Rattle.record_rule.specs.declared.views.DeskView.TheVariants.{Root, Token, Ticket, Lent}
use Rattle.record_rule.specs.Log.{history, IsLog, of_token, unlinked_of, is_walking, walk_of}
use Rattle.record_rule.specs.Notes.{AreNotes, AllRead, AllShown, AllUntracked, stamps_of}
use Rattle.record_rule.specs.Views.{claim_at, all_left, most_actions, most_tokens}

-- what is so besides the values and what the tokens know
pub record Facts : Type 0 where
  -- the log of all tokens, and the registry
  pub log : List LogEntry
  pub registry : Contents
  -- the claim on each slot, and the seat that has it
  pub claims : ℕ → Claim
  pub owner : ℕ → ℕ
  -- the seat of each token by its number, how many tokens were given, and the seat of the first one
  pub seat : ℕ → ℕ
  pub given : ℕ
  pub root : ℕ
  -- of each stamp the notes set under it, whether its ticket lives, and the slot that it was given with
  pub notes : ℕ → List Noted
  pub live : ℕ → Bool
  pub slot : ℕ → ℕ

-- the slots of a walk's reads
abbrev pub slots_in : List Read → List ℕ
slots_in [] = []
slots_in (x ∷ xs) = x.found.slot ∷ slots_in xs

-- a token without a snapshot has none in the registry
abbrev pub WalksIf : Bool → Contents → History → ℕ → List ℕ → Type 0
WalksIf false registry h n slots = birth_of registry n ≡ None
WalksIf true registry h n slots = (n < 16) × (b : Clock) × (birth_of registry n ≡ Some b) × (walk : List Read) × IsWalk h b.ticks walk × (slots_in walk ≡ slots)

-- what a token with one claim has of a slot
abbrev pub Has : Facts → ℕ → ℕ → Claim → Type 0
Has g by s c = (s < 256) × (g.owner s ≡ by) × (g.claims s ≡ c)

-- what a token knows is so
pub record IsToken (g : Facts) (by : ℕ) (p : TokenView) : Type 0 where
  pub seat : g.seat p.number ≡ by
  pub given : p.number < g.given
  pub own : of_token p.number g.log ≡ p.own
  pub claims : (s : ℕ) → (claim_at p.claims s ≡ Nothing) ⊎ Has g by s (claim_at p.claims s)
  pub walk : WalksIf (is_walking p.own) g.registry (history g.log) p.number (walk_of p.own)
  pub reads : AllRead g.notes p.reads
  pub untracked : AllUntracked g.notes g.live p.untracked
  pub unlinked : stamps_of p.untracked ≡ unlinked_of p.number g.log
  pub shown : AllShown g.notes p.shown

abbrev pub AreTokens : Facts → ℕ → List TokenView → Type 0
AreTokens g by [] = Unit {0}
AreTokens g by (p ∷ ps) = IsToken g by p × AreTokens g by ps

abbrev pub Fits : Facts → ℕ → Option DeskView → Type 0
Fits g by None = Unit {0}
Fits g by (Some (Root given back)) = (by ≡ g.root) × (given ≡ g.given) × AreTokens g by back
Fits g by (Some (Token p)) = IsToken g by p
Fits g by (Some (Ticket s stamp notes bare)) = Has g by s (Owned stamp notes bare)
Fits g by (Some Lent) = Unit {0}

-- the claim is that of a record of this stamp which is written and not unlinked
abbrev pub HasRecord : Claim → ℕ → Type 0
HasRecord (Written own ns) stamp = own ≡ stamp
HasRecord (Owned own ns bare) stamp = own ≡ stamp
HasRecord _ stamp = ⊥

-- no note was set under the stamp, or its slot still has the record, or a token unlinked it
abbrev pub IsTold : Facts → ℕ → Type 0
IsTold g stamp = (g.notes stamp ≡ []) ⊎ (((g.slot stamp < 256) × HasRecord (g.claims (g.slot stamp)) stamp) ⊎ ((n : ℕ) × (has stamp (unlinked_of n g.log) ≡ true)))

module _ {S : Type 0} where
  -- a value at home, or as it was taken out
  abbrev pub value_of : Spot (DeskValue S) → DeskValue S
  value_of (home x) = x
  value_of (out x) = x

  abbrev pub note_of : Rep S → Note
  note_of r = record { stamp = r.stamp; update = r.update; length = r.length }

  abbrev pub is_none : Option S → Bool
  is_none None = true
  is_none (Some s) = false

  abbrev pub is_bare : Rep S → Bool
  is_bare r = is_none r.hold

  module _ (tree_of : S → Node) (fits : S → Type 0) where
    -- the record's note is the newest under its stamp, and its share, if it has one, is of that note's tree
    pub record IsRecord (r : Rep S) (notes : List Noted) : Type 0 where
      pub newest : Noted
      pub older : List Noted
      pub list : notes ≡ newest ∷ older
      pub note : newest.note ≡ note_of r
      pub share : MatchOption r.hold ⊤ (λ x. fits x × (tree_of x ≡ newest.tree))

    -- the record of a slot whose stamp this is
    abbrev pub IsRecordAt : ℕ → ℕ → ℕ → List Noted → Rep S → Type 0
    IsRecordAt s stamp at notes r = (at ≡ s) × (r.stamp ≡ stamp) × IsRecord r notes

    -- a slot by its claim: its state, its number, its stamp with the slot that this was given with, whether its ticket lives, and its notes
    abbrev pub IsSlot : Claim → SlotState → ℕ → ℕ → ℕ → Bool → List Noted → Rep S → Type 0
    IsSlot Nothing state s stamp at live notes r = ((state ≡ Free) × (r.hold ≡ None)) ⊎ ((state ≡ Queued) × (live ≡ false) × IsRecordAt s stamp at notes r)
    IsSlot (Promised own) state s stamp at live notes r = (state ≡ Reserved) × (live ≡ true) × (own ≡ stamp) × (at ≡ s) × (notes ≡ []) × (r.hold ≡ None)
    IsSlot (Written own ns) state s stamp at live notes r = (state ≡ Reserved) × (live ≡ true) × (own ≡ stamp) × (ns ≡ notes) × (is_bare r ≡ false)
        × IsRecordAt s stamp at notes r
    IsSlot (Owned own ns bare) state s stamp at live notes r = (state ≡ Linked) × (live ≡ true) × (own ≡ stamp) × (ns ≡ notes) × (bare ≡ is_bare r)
        × IsRecordAt s stamp at notes r
    IsSlot (Unlinked own bare) state s stamp at live notes r = (state ≡ Leaving) × (live ≡ false) × (own ≡ stamp) × (bare ≡ is_bare r)
        × IsRecordAt s stamp at notes r
    IsSlot (Cleared bare) state s stamp at live notes r = (state ≡ Clearing) × (live ≡ false) × MatchOption bare ⊤ (λ b. (b.0 ≡ stamp) × (b.1 ≡ is_bare r))
        × IsRecordAt s stamp at notes r
    IsSlot Emptied state s stamp at live notes r = (state ≡ Clearing) × (at ≡ s) × (r.hold ≡ None)

    -- the slot with its stamp
    abbrev pub IsSlotIn : Facts → ℕ → ℕ → Rep S → Type 0
    IsSlotIn g s stamp r = IsSlot (g.claims s) (state_of g.registry s) s stamp (g.slot stamp) (g.live stamp) (g.notes stamp) r

    pub record HasSlot (g : Facts) (values : List (DeskValue S)) (s : ℕ) : Type 0 where
      pub rep : Rep S
      pub at : get_elem? values (s + 1) ≡ some (Record rep)
      pub is : IsSlotIn g s (stamp_in (history g.log) s) rep

    pub record IsWorld (g : Facts) (values : List (DeskValue S)) (views : List (Option DeskView)) : Type 0 where
      pub first : get_elem? values 0 ≡ some (Lists g.registry)
      pub count : length values ≡ 257
      pub walkers : g.registry.walkers ≡ 16
      pub replays : Replays (history g.log) g.registry
      pub log : IsLog g.log
      pub room : all_left views + length (history g.log) ≤ most_tokens * most_actions
      pub slots : (s : ℕ) → s < 256 → HasSlot g values s
      pub notes : (stamp : ℕ) → AreNotes stamp (g.notes stamp)
      pub unborn : (stamp : ℕ) → stamps_given (history g.log) < stamp → (g.notes stamp ≡ []) × (g.live stamp ≡ true)
      pub told : (stamp : ℕ) → IsTold g stamp
      pub few : g.given ≤ most_tokens
      pub ungiven : (n : ℕ) → g.given ≤ n → (of_token n g.log ≡ []) × (birth_of g.registry n ≡ None)
      pub each : (by : ℕ) (v : Option DeskView) → get_elem? views by ≡ some v → Fits g by v

    -- the rule of the desk
    pub record Stands (spots : List (Spot (DeskValue S))) (views : List (Option DeskView)) : Type 0 where
      pub facts : Facts
      pub world : IsWorld facts (map value_of spots) views
