-- What a peek makes of the cord that it finds, and of the passes that it was given.
use Rattle.std.specs.Prelude.{ℕ, ◌≡◌, ◌+◌, ◌&&◌, [], Bool, Option, Some, None, is_some, IsSome, IsSomeAnd, MatchOption, Result, Ok, Err}
use Rattle.std.specs.Bool.{⊤}
use Rattle.cord_port.specs.declared.refusals.Memory.{Memory}
use Rattle.pool_rule.specs.Views.{View}
use Rattle.cord_value.specs.Views.{CordView, passes_of}
use Rattle.cord_value.specs.Workers.{Keeps}
use Rattle.cord_sampled.specs.declared.copies.Copied.{Copied}
use Rattle.cord_sampled.specs.declared.passes.Ready.{Ready}
use Rattle.cord_sampled.specs.Copies.{one_if, IsEmptyIf, IsCopied}

module _ {P : Type 0} where
  -- its passes are empty
  abbrev pub IsReady : Ready P → Type 0
  IsReady r = (r.copy.holds ≡ []) × IsEmptyIf r.sample

  abbrev pub IsReadyIf : Option (Ready P) → Type 0
  IsReadyIf ready = MatchOption ready ⊤ IsReady

  -- A copy of this cord. It has a share for a record exactly where the cord is sampled and there was a pass for one. Each pass is with its tree, or spare.
  pub record IsCopyOf (c : CordView) (sampled : Bool) (r : Ready P) (x : Copied P) : Type 0 where
    pub cord : x.cord ≡ c
    pub copied : IsCopied x
    pub share : is_some x.share ≡ sampled && is_some r.sample
    pub spare : one_if x.spare + passes_of c.tree ≡ 1
    pub spare_sample : one_if x.spare_sample + one_if x.share ≡ one_if r.sample

  -- the passes are empty as before, as many
  abbrev pub IsAgain : Ready P → Ready P → Type 0
  IsAgain r s = IsReady s × (is_some s.sample ≡ is_some r.sample)

  -- There is a copy exactly where there were passes for it, which are gone then. They are there again where memory was wanting, as it may be for a tree
  -- alone. No number was taken, and no pass made or ended.
  abbrev pub IsPeeked : ℕ → CordView → Bool → View → View → Option (Ready P) → Option (Ready P) → Result (Option (Copied P)) Memory → Type 0
  IsPeeked limit c sampled v w None after (Ok None) = (after ≡ None) × (w ≡ v)
  IsPeeked limit c sampled v w (Some r) after (Ok (Some x)) = (after ≡ None) × IsCopyOf c sampled r x × Keeps limit [] 0 0 v w
  IsPeeked limit c sampled v w (Some r) after (Err e) = IsSomeAnd after (IsAgain r) × IsSome c.tree × Keeps limit [] 0 0 v w
  IsPeeked limit c sampled v w before after out = ⊥
