-- What a closed desk tells: the history, what its tokens knew, and the shares that were left.
use Rattle.std.specs.Prelude.{◌≡◌, ◌≤◌, ◌<◌, ◌+◌, ◌⊎◌, ℕ, List, [], ◌∷◌, Option, Some, None}
use mathlib.Core.Option.{some}
use lib.ListN.{get_elem?}
use Rattle.cordz_core.specs.declared.slot.SlotState.TheVariants.{Free, Reserved, Linked}
use Rattle.cordz_core.specs.Contents.{state_of, birth_of}
use Rattle.cordz_core.specs.History.{stamp_in}
use Rattle.cordz_core.specs.Legal.{Replays}
use Rattle.record_rule.specs.declared.values.DeskValue.{DeskValue}
use Rattle.record_rule.specs.declared.values.DeskValue.TheVariants.{List as Lists, Record}
use Rattle.record_rule.specs.declared.values.Rep.{Rep}
use Rattle.record_rule.specs.declared.views.DeskView.{DeskView}
use Rattle.record_rule.specs.declared.views.DeskView.TheVariants.{Root}
use Rattle.record_rule.specs.declared.views.Noted.{Noted}
use Rattle.record_rule.specs.declared.views.TokenView.{TokenView}
use Rattle.record_rule.specs.Log.{history, IsLog, of_token, unlinked_of, is_walking, walk_of}
use Rattle.record_rule.specs.Notes.{AreNotes, AllRead, AllUntracked, stamps_of}
use Rattle.record_rule.specs.Views.{token_in}
use Rattle.record_rule.specs.World.{Facts, WalksIf, IsSlotIn}
use Rattle.cordz_desk.specs.declared.desk.CordzDesk.{CordzDesk}
use Rattle.cordz_desk.specs.declared.share.Share.{Share}
use Rattle.turn_desk.specs.Passes.{desk_view}
use Rattle.cordz_desk.specs.Keeps.{kept_in}
use Rattle.cordz_desk.specs.Seeing.{given_by, back_to}
use Rattle.cordz_desk.specs.Shares.{tree_in, IsShare}

-- it holds of each item
abbrev pub Each : {A : Type 0} → (A → Type 0) → List A → Type 0
Each Q [] = Unit {0}
Each Q (x ∷ xs) = Q x × Each Q xs

-- tokens that came back to the first one, one behind the other
abbrev pub returned : List TokenView → List TokenView → List TokenView
returned [] back = back
returned (p ∷ ps) back = returned ps (p ∷ back)

abbrev pub returning_view : DeskView → DeskView → DeskView
returning_view v w = Root (given_by v) (token_in w ∷ back_to v)

-- how many passes a desk gave
module _ {P D : Type 0} {d : _} where
  abbrev pub passes_given : CordzDesk P D d → ℕ
  passes_given c = given_by (desk_view (kept_in c.parts.root))

-- what a token knew
pub record Knew (g : Facts) (p : TokenView) : Type 0 where
  pub own : of_token p.number g.log ≡ p.own
  pub reads : AllRead g.notes p.reads
  pub untracked : AllUntracked g.notes g.live p.untracked
  pub unlinked : stamps_of p.untracked ≡ unlinked_of p.number g.log
  pub walk : WalksIf (is_walking p.own) g.registry (history g.log) p.number (walk_of p.own)

-- these notes of a stamp are among those of the tickets that were untracked
abbrev pub HasUntracked : ℕ → List Noted → List (ℕ × List Noted) → Type 0
HasUntracked stamp notes [] = ⊥
HasUntracked stamp notes (u ∷ us) = (u ≡ (stamp, notes)) ⊎ HasUntracked stamp notes us

-- the stamp's slot has its record still, which isn't unlinked
abbrev pub IsTrackedYet : Facts → ℕ → Type 0
IsTrackedYet g stamp = (g.slot stamp < 256) × (stamp_in (history g.log) (g.slot stamp) ≡ stamp)
    × ((state_of g.registry (g.slot stamp) ≡ Reserved) ⊎ (state_of g.registry (g.slot stamp) ≡ Linked))

-- no note was set under the stamp, or its record is tracked yet, or one of the tokens that were given untracked its ticket and has these notes in its list
abbrev pub IsAccounted : Facts → ℕ → List TokenView → ℕ → Type 0
IsAccounted g given tokens stamp = (g.notes stamp ≡ [])
    ⊎ (IsTrackedYet g stamp ⊎ ((n : ℕ) × (n < given) × Each (λ (p : TokenView). p.number ≡ n → HasUntracked stamp (g.notes stamp) p.untracked) tokens))

module _ {P : Type 0} where
  -- the share of a record that was at home
  abbrev pub share_in : Option (DeskValue (Share P)) → Option (Share P)
  share_in None = None
  share_in (Some (Lists r)) = None
  share_in (Some (Record r)) = r.hold

  abbrev pub with_share : Option (Share P) → List (Share P) → List (Share P)
  with_share None xs = xs
  with_share (Some x) xs = x ∷ xs

  abbrev pub shares_of : List (Option (DeskValue (Share P))) → List (Share P)
  shares_of [] = []
  shares_of (v ∷ vs) = with_share (share_in v) (shares_of vs)

  -- a slot's record at the end; nobody knows it where a ticket had its turn
  abbrev pub IsLeft : Facts → List (Option (DeskValue (Share P))) → ℕ → Type 0
  IsLeft g values s = (get_elem? values (s + 1) ≡ some None)
      ⊎ ((r : Rep (Share P)) × (get_elem? values (s + 1) ≡ some (Some (Record r))) × IsSlotIn tree_in IsShare g s (stamp_in (history g.log) s) r)

  -- of tokens, of how many were given, and of the shares that came back
  pub record IsClosed (tokens : List TokenView) (given : ℕ) (shares : List (Share P)) : Type 0 where
    pub facts : Facts
    pub values : List (Option (DeskValue (Share P)))
    pub log : IsLog facts.log
    pub replays : Replays (history facts.log) facts.registry
    pub notes : (stamp : ℕ) → AreNotes stamp (facts.notes stamp)
    pub knew : Each (Knew facts) tokens
    pub accounted : (stamp : ℕ) → IsAccounted facts given tokens stamp
    pub others : (n : ℕ) → given ≤ n → of_token n facts.log ≡ []
    pub idle : (n : ℕ) → given ≤ n → birth_of facts.registry n ≡ None
    pub slots : (s : ℕ) → s < 256 → IsLeft facts values s
    pub left : shares ≡ shares_of values
    pub fits : Each IsShare shares
    pub none : ((s : ℕ) → s < 256 → state_of facts.registry s ≡ Free) → shares ≡ []
