-- A walk over the linked records, from the newest to its end.
use Rattle.std.specs.Prelude.{◌≡◌, ◌<◌, ℕ, List, [], ◌∷◌, ◌++◌, reverse, Option, Some, None}
use Rattle.plain_cord.specs.declared.reply.Report.{Report}
use Rattle.record_rule.specs.declared.views.Deed.TheVariants.{Head, Next}
use Rattle.record_rule.specs.declared.views.Noted.{Noted}
use Rattle.record_rule.specs.declared.views.TokenView.{TokenView}
use Rattle.record_rule.specs.Views.{done, reading}
use Rattle.record_walks.specs.Reports.{TellAll}

-- the record of the slot that was given was read, and then the next slot asked for, and so on until none was given
abbrev pub RunsFrom : Option ℕ → List Noted → TokenView → TokenView → Type 0
RunsFrom None [] p q = q ≡ p
RunsFrom None (n ∷ ns) p q = ⊥
RunsFrom (Some s) [] p q = ⊥
RunsFrom (Some s) (n ∷ ns) p q = (place : ℕ) × (answer : Option ℕ) × RunsFrom answer ns (done place (Next s answer) (reading n p)) q

-- from the newest linked record on
abbrev pub Runs : List Noted → TokenView → TokenView → Type 0
Runs notes p q = (place : ℕ) × (answer : Option ℕ) × RunsFrom answer notes (done place (Head answer) p) q

-- a walk to its end read these notes, and each report tells one of them
pub record IsWalk (reports : List Report) (p q : TokenView) : Type 0 where
  pub notes : List Noted
  pub told : TellAll reports notes
  pub runs : Runs notes p q
  pub reads : q.reads ≡ reverse notes ++ p.reads
