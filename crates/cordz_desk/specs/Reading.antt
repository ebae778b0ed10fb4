-- What reading a record does.
use Rattle.std.specs.Prelude.{◌≡◌, ◌≤◌, ℕ, false, [], ◌∷◌, ◌++◌, MatchOption, None}
use Rattle.node_forest.specs.Label.{Node}
use Rattle.node_edges.specs.Trees.{IsWellFormed}
use Rattle.pool_rule.specs.Views.{View, sharing, with_holds}
use Rattle.node_pool.specs.Passes.{filled}
use Rattle.record_rule.specs.declared.values.DeskValue.{DeskValue}
use Rattle.record_rule.specs.declared.values.Note.{Note}
use Rattle.record_rule.specs.declared.values.Rep.{Rep}
use Rattle.record_rule.specs.declared.views.DeskView.{DeskView}
use Rattle.record_rule.specs.declared.views.DeskView.TheVariants.{Token}
use Rattle.record_rule.specs.declared.views.Noted.{Noted}
use Rattle.record_rule.specs.declared.views.TokenView.{TokenView}
use Rattle.record_rule.specs.Steps.{IsKept}
use Rattle.record_rule.specs.Views.{claim_at, reading, token_in}
use Rattle.record_rule.specs.World.{note_of, is_bare}
use Rattle.cordz_desk.specs.declared.reading.RecordRefused.{RecordRefused}
use Rattle.cordz_desk.specs.declared.reading.RecordRefused.TheVariants.{Bare, Memory}
use Rattle.cordz_desk.specs.declared.share.Share.{Share}
use Rattle.cordz_desk.specs.Reps.{rep_of, IsRep, FoundAt}
use Rattle.cordz_desk.specs.Shares.{tree_in, IsShare}

-- a worker that shared a tree which a pass keeps
abbrev pub read_by : Node → View → View
read_by t v = filled t (sharing t (with_holds v (v.holds ++ t ∷ [])))

-- a token's view after a note was read
abbrev pub reading_view : Noted → DeskView → DeskView
reading_view n v = Token (reading n (token_in v))

module _ {P : Type 0} where
  -- a record's tree was shared, and its note told
  pub record IsCopied (x y : DeskValue (Share P)) (note : Note) (t : Node) : Type 0 where
    pub rep : IsRep y
    pub kept : IsKept tree_in IsShare (rep_of x) (rep_of y)
    pub some : is_bare (rep_of y) ≡ false
    pub noted : note ≡ note_of (rep_of x)
    pub tree : MatchOption (rep_of x).hold ⊥ (λ o. tree_in o ≡ t)
    pub formed : IsWellFormed t
    pub short : t.0.length ≤ 2147483647

  -- why a record wasn't read
  abbrev pub IsRefused : RecordRefused → DeskValue (Share P) → Type 0
  IsRefused (Bare stamp) x = (stamp ≡ (rep_of x).stamp) × ((rep_of x).hold ≡ None)
  IsRefused Memory x = Unit {0}

-- while the token knew this, the slot's record was bare
abbrev pub WasRefused : Type 0 → RecordRefused → ℕ → DeskView → Type 0
WasRefused P (Bare stamp) s v = (r : Rep (Share P)) × FoundAt s r v × (r.stamp ≡ stamp) × (r.hold ≡ None)
WasRefused P Memory s v = Unit {0}

-- a token that was shown an update, and has learned nothing else
pub record IsShownTo (stamp update : ℕ) (p q : TokenView) : Type 0 where
  pub number : q.number ≡ p.number
  pub own : q.own ≡ p.own
  pub claims : (s : ℕ) → claim_at q.claims s ≡ claim_at p.claims s
  pub reads : q.reads ≡ p.reads
  pub untracked : q.untracked ≡ p.untracked
  pub shown : q.shown ≡ (stamp, update) ∷ p.shown
