-- What a turn that is left has done, and how tokens are divided and joined.
use Rattle.std.specs.Prelude.{◌≡◌, ◌⊎◌, ◌<◌, ◌≤◌, ◌+◌, ℕ, Bool, true, false, List, [], ◌∷◌, length, MatchOption, ⊤, Option, None}
use Rattle.node_forest.specs.Label.{Node}
use Rattle.cordz_core.specs.declared.slot.SlotState.TheVariants.{Free as IsFree, Reserved, Linked, Leaving}
use Rattle.cordz_core.specs.Contents.{Contents, state_of}
use Rattle.cordz_core.specs.History.{History}
use Rattle.cordz_core.specs.Legal.{Replays}
use Rattle.cordz_core.specs.Links.{Moves, Begins, Ends, moved_to}
use Rattle.cordz_core.specs.Queue.{has}
use Rattle.record_rule.specs.declared.values.DeskValue.{DeskValue}
use Rattle.record_rule.specs.declared.values.DeskValue.TheVariants.{List as Lists, Record}
use Rattle.record_rule.specs.declared.values.Rep.{Rep}
use Rattle.record_rule.specs.declared.views.Claim.{Claim}
use Rattle.record_rule.specs.declared.views.Claim.TheVariants.{Nothing, Promised, Written, Owned, Unlinked, Cleared, Emptied}
use Rattle.record_rule.specs.declared.views.Deed.{Deed}
use Rattle.record_rule.specs.declared.views.Deed.TheVariants.{Reserve, Full, Free, Track, Unlink, Settle, Snap, Unsnap, Head, Next}
use Rattle.record_rule.specs.declared.views.Noted.{Noted}
use Rattle.record_rule.specs.declared.views.TokenView.{TokenView}
use Rattle.record_rule.specs.declared.views.DeskView.{DeskView}
use Rattle.record_rule.specs.declared.views.DeskView.TheVariants.{Root, Token, Ticket, Lent}
use Rattle.record_rule.specs.Log.{after_deed, IsAnswer, is_walking, walk_of, made_of}
use Rattle.record_rule.specs.Notes.{newest_update}
use Rattle.record_rule.specs.Views.{claim_at, claiming, reading, showing, done, new_token, most_actions, most_tokens}
use Rattle.record_rule.specs.World.{note_of, is_bare}

-- which claims a slot may be freed with, and those that the other actions need
abbrev pub MayFree : Claim → Type 0
MayFree (Promised stamp) = Unit {0}
MayFree Emptied = Unit {0}
MayFree _ = ⊥

abbrev pub IsWritten : Claim → Type 0
IsWritten (Written stamp notes) = Unit {0}
IsWritten _ = ⊥

abbrev pub IsOwned : Claim → Type 0
IsOwned (Owned stamp notes bare) = Unit {0}
IsOwned _ = ⊥

abbrev pub IsUnlinked : Claim → Type 0
IsUnlinked (Unlinked stamp bare) = Unit {0}
IsUnlinked _ = ⊥

-- a deed of a token on a registry
abbrev pub Does : Deed → TokenView → Contents → Contents → Type 0
Does (Reserve s stamp) p x y = (s < 256) × (state_of x s ≡ IsFree) × Moves x y s Reserved
Does Full p x y = y ≡ x
Does (Free s) p x y = MayFree (claim_at p.claims s) × Moves x y s IsFree
Does (Track s) p x y = IsWritten (claim_at p.claims s) × Moves x y s Linked
Does (Unlink s) p x y = IsOwned (claim_at p.claims s) × Moves x y s Leaving
Does (Settle s answer) p x y = IsUnlinked (claim_at p.claims s) × Moves x y s (moved_to answer)
Does (Snap w) p x y = (w ≡ p.number) × (w < 16) × (is_walking p.own ≡ false) × Begins x y w
Does (Unsnap w gone) p x y = (w ≡ p.number) × (is_walking p.own ≡ true) × Ends x y w gone.items
Does (Head answer) p x y = (is_walking p.own ≡ true) × (y ≡ x)
Does (Next s answer) p x y = (is_walking p.own ≡ true) × (has s (walk_of p.own) ≡ true) × (y ≡ x)

module _ {S : Type 0} where
  -- a token's action or read
  pub record Acted (l : ℕ) (x y : DeskValue S) (v w : DeskView) : Type 0 where
    pub token : TokenView
    pub place : ℕ
    pub deed : Deed
    pub old : Contents
    pub new : Contents
    pub first : l ≡ 0
    pub from : x ≡ Lists old
    pub to : y ≡ Lists new
    pub before : v ≡ Token token
    pub after : w ≡ Token (done place deed token)
    pub placed : place ≡ new.clock
    pub few : length (after_deed deed []) + made_of token.own ≤ most_actions
    pub replays : (h : History) → Replays h old → Replays (after_deed deed h) new
    pub answers : (h : History) → Replays h old → IsAnswer deed h
    pub does : Does deed token old new

  module _ (tree_of : S → Node) (fits : S → Type 0) where
    -- a record's share and note are of one tree
    pub record IsNew (r : Rep S) (n : Noted) : Type 0 where
      pub note : n.note ≡ note_of r
      pub long : n.note.length ≡ n.tree.0.length
      pub some : is_bare r ≡ false
      pub share : MatchOption r.hold ⊤ (λ x. fits x × (tree_of x ≡ n.tree))

    -- a token writes the record of a slot that it reserved
    pub record Wrote (l : ℕ) (x y : DeskValue S) (v w : DeskView) : Type 0 where
      pub token : TokenView
      pub slot : ℕ
      pub stamp : ℕ
      pub note : Noted
      pub old : Rep S
      pub new : Rep S
      pub at : l ≡ slot + 1
      pub from : x ≡ Record old
      pub to : y ≡ Record new
      pub before : v ≡ Token token
      pub after : w ≡ Token (claiming slot (Written stamp (note ∷ [])) token)
      pub claim : claim_at token.claims slot ≡ Promised stamp
      pub stamped : new.stamp ≡ stamp
      pub is : IsNew new note

    -- the same record, with a share of the same tree or without one
    pub record IsKept (old new : Rep S) : Type 0 where
      pub note : note_of new ≡ note_of old
      pub share : MatchOption new.hold ⊤ (λ x. fits x × MatchOption old.hold ⊥ (λ o. tree_of x ≡ tree_of o))

    -- a record with a new note
    pub record IsPublished (stamp : ℕ) (old new : Rep S) (notes later : List Noted) : Type 0 where
      pub note : Noted
      pub list : later ≡ note ∷ notes
      pub stamped : new.stamp ≡ stamp
      pub raised : old.update ≤ new.update
      pub is : IsNew new note

    -- a ticket changes its record
    pub record Altered (l : ℕ) (x y : DeskValue S) (v w : DeskView) : Type 0 where
      pub slot : ℕ
      pub stamp : ℕ
      pub notes : List Noted
      pub later : List Noted
      pub bare : Bool
      pub old : Rep S
      pub new : Rep S
      pub at : l ≡ slot + 1
      pub from : x ≡ Record old
      pub to : y ≡ Record new
      pub before : v ≡ Ticket slot stamp notes bare
      pub after : w ≡ Ticket slot stamp later (is_bare new)
      pub change : ((later ≡ notes) × IsKept old new) ⊎ IsPublished stamp old new notes later

    -- a token reads a record's note and tree
    pub record Took (l : ℕ) (x y : DeskValue S) (v w : DeskView) : Type 0 where
      pub token : TokenView
      pub slot : ℕ
      pub note : Noted
      pub old : Rep S
      pub new : Rep S
      pub at : l ≡ slot + 1
      pub small : slot < 256
      pub from : x ≡ Record old
      pub to : y ≡ Record new
      pub before : v ≡ Token token
      pub after : w ≡ Token (reading note token)
      pub kept : IsKept old new
      pub some : is_bare new ≡ false
      pub noted : note.note ≡ note_of old
      pub tree : MatchOption old.hold ⊥ (λ o. tree_of o ≡ note.tree)

  -- a turn that changes nothing
  pub record Passed (x y : DeskValue S) (v w : DeskView) : Type 0 where
    pub value : y ≡ x
    pub view : w ≡ v

  -- a token empties the record of a slot that is to be cleared
  pub record Drained (l : ℕ) (x y : DeskValue S) (v w : DeskView) : Type 0 where
    pub token : TokenView
    pub slot : ℕ
    pub bare : Option (ℕ × Bool)
    pub old : Rep S
    pub new : Rep S
    pub at : l ≡ slot + 1
    pub from : x ≡ Record old
    pub to : y ≡ Record new
    pub before : v ≡ Token token
    pub after : w ≡ Token (claiming slot Emptied token)
    pub claim : claim_at token.claims slot ≡ Cleared bare
    pub none : new.hold ≡ None

  abbrev pub Leaves : (S → Node) → (S → Type 0) → ℕ → DeskValue S → DeskValue S → DeskView → DeskView → Type 0
  Leaves tree_of fits l x y v w = Acted l x y v w
      ⊎ (Wrote tree_of fits l x y v w ⊎ (Drained l x y v w ⊎ (Altered tree_of fits l x y v w ⊎ (Took tree_of fits l x y v w ⊎ Passed x y v w))))

-- the first token gives one with the next number
pub record Gives (v a b : DeskView) : Type 0 where
  pub given : ℕ
  pub back : List TokenView
  pub before : v ≡ Root given back
  pub few : given < most_tokens
  pub kept : a ≡ Root (given + 1) back
  pub new : b ≡ Token (new_token given)

-- a token gives a ticket of a record that it has
pub record Issues (v a b : DeskView) : Type 0 where
  pub token : TokenView
  pub slot : ℕ
  pub stamp : ℕ
  pub notes : List Noted
  pub bare : Bool
  pub before : v ≡ Token token
  pub claim : claim_at token.claims slot ≡ Owned stamp notes bare
  pub kept : a ≡ Token (claiming slot Nothing token)
  pub new : b ≡ Ticket slot stamp notes bare

-- a ticket lends what it knows
pub record Lends (v a b : DeskView) : Type 0 where
  pub slot : ℕ
  pub stamp : ℕ
  pub notes : List Noted
  pub bare : Bool
  pub before : v ≡ Ticket slot stamp notes bare
  pub kept : a ≡ Lent
  pub new : b ≡ Ticket slot stamp notes bare

-- a token comes back to the first one
pub record Returns (v w both : DeskView) : Type 0 where
  pub given : ℕ
  pub back : List TokenView
  pub token : TokenView
  pub before : v ≡ Root given back
  pub other : w ≡ Token token
  pub after : both ≡ Root given (token ∷ back)

-- a token takes a ticket back
pub record Redeems (v w both : DeskView) : Type 0 where
  pub token : TokenView
  pub slot : ℕ
  pub stamp : ℕ
  pub notes : List Noted
  pub bare : Bool
  pub before : v ≡ Token token
  pub other : w ≡ Ticket slot stamp notes bare
  pub after : both ≡ Token (claiming slot (Owned stamp notes bare) token)

-- a token takes a ticket, and is shown its update
pub record Sees (v w both : DeskView) : Type 0 where
  pub token : TokenView
  pub slot : ℕ
  pub stamp : ℕ
  pub notes : List Noted
  pub bare : Bool
  pub before : v ≡ Token token
  pub other : w ≡ Ticket slot stamp notes bare
  pub after : both ≡ Token (showing stamp (newest_update notes) (claiming slot (Owned stamp notes bare) token))

-- what was lent comes back
pub record Fills (v w both : DeskView) : Type 0 where
  pub slot : ℕ
  pub stamp : ℕ
  pub notes : List Noted
  pub bare : Bool
  pub before : v ≡ Lent
  pub other : w ≡ Ticket slot stamp notes bare
  pub after : both ≡ Ticket slot stamp notes bare

abbrev pub Splits : DeskView → DeskView → DeskView → Type 0
Splits v a b = Gives v a b ⊎ (Issues v a b ⊎ Lends v a b)

abbrev pub Merges : DeskView → DeskView → DeskView → Type 0
Merges v w both = Returns v w both ⊎ (Redeems v w both ⊎ (Sees v w both ⊎ Fills v w both))

abbrev pub no_registry : Contents
no_registry = record { walkers = 0; clock = 0; stamps = 0; head = None; entries = []; newer = []; births = []; queue = [] }

module _ {S : Type 0} where
  -- the registry of value 0
  abbrev pub registry_of : DeskValue S → Contents
  registry_of (Lists r) = r
  registry_of (Record r) = no_registry

  abbrev pub IsList : DeskValue S → Type 0
  IsList x = x ≡ Lists (registry_of x)

  -- a deed, over every history that the registry replays
  pub record Makes (x y : DeskValue S) (deed : Deed) : Type 0 where
    pub from : IsList x
    pub to : IsList y
    pub replays : (h : History) → Replays h (registry_of x) → Replays (after_deed deed h) (registry_of y)
    pub answers : (h : History) → Replays h (registry_of x) → IsAnswer deed h
