-- A sampled cord whose cord is the same is the same.
use Rattle.std.proofs.Common.{◌≡◌, sym, subst}
use Rattle.std.specs.Prelude.{MatchOption}
use Rattle.std.specs.Bool.{⊤}
use Rattle.cord_value.specs.Views.{CordView}
use Rattle.cord_sampled.specs.Props.{props}
use Rattle.cord_sampled.specs.Records.{HasRecord}
use Rattle.cord_sampled.specs.declared.cord.SampledCord.{SampledCord}

module _ {P D : Type 0} {p : _} {d : _} where
  pub same-cord : (s : SampledCord P D p d) (c : CordView) (r : MatchOption s.ticket ⊤ (HasRecord c.tree)) → c ≡ s.cord
      → ◌≡◌ {A = SampledCord P D p d} (record { cord = c; ticket = s.ticket; recorded = r }) s
  same-cord s c r e =
      let only : IsProp (MatchOption s.ticket ⊤ (HasRecord s.cord.tree)) = hlevel props in
      subst (λ (z : CordView). (q : MatchOption s.ticket ⊤ (HasRecord z.tree)) → ◌≡◌ {A = SampledCord P D p d} (record { cord = z; ticket = s.ticket; recorded = q }) s) (sym e)
      (λ q i. record { cord = s.cord; ticket = s.ticket; recorded = only q s.recorded i }) r
