-- How many actions a pass made at the registry.
use Rattle.std.proofs.Common.{◌≡◌, ℕ, ◌+◌, ◌≤◌, List, ◌∷◌, length, Option, Some, None, ap, inl, inr, arith}
use Rattle.cordz_core.specs.History.{Reserves, Frees, Tracks, Unlinks, Settles}
use Rattle.node_forest.specs.Label.{Node}
use Rattle.record_rule.specs.Log.{history, made_of}
use Rattle.record_rule.specs.declared.views.LogEntry.{LogEntry}
use Rattle.record_rule.specs.declared.views.Noted.{Noted}
use Rattle.record_rule.specs.declared.views.TokenView.{TokenView}
use Rattle.cordz_desk.specs.declared.share.Share.{Share}
use Rattle.cordz_desk.specs.declared.tickets.Ticket.{Ticket}
use Rattle.cordz_desk.specs.Tickets.{slot_of}
use Rattle.cordz_desk.specs.Tokens.{IsGivenUp}
use Rattle.pool_rule.specs.Views.{View}
use Rattle.cord_sampled.specs.declared.mark.Mark.{Mark}
use Rattle.cord_sampled.specs.declared.mark.Mark.TheVariants.{Plain, Noted as Told, Full, Gone}
use Rattle.cord_sampled.specs.Leaving.{IsGivenBack, IsLeft}
use Rattle.cord_sampled.specs.Tracking.{IsTracked, IsTrackedIf}

given-up-acts : {P : Type 0} (a : TokenView) (entries : List LogEntry) (s : ℕ) (notes : List Noted) (bare : _) (share : Option (Share P)) → IsGivenUp a entries s notes bare share
    → made_of entries ≤ made_of a.own + 3
given-up-acts a entries s notes bare share (inl d) =
    let e : made_of entries ≡ length (Frees s ∷ Settles s ∷ Unlinks s ∷ history a.own) = ap made_of d.own in omega (arith, e)
given-up-acts a entries s notes bare share (inr d) = let e : made_of entries ≡ length (Settles s ∷ Unlinks s ∷ history a.own) = ap made_of d.own in omega (arith, e)

module _ {P D : Type 0} {p : _} {d : _} where
  pub given-acts : (limit : ℕ) (t : Ticket P D p d) (n : ℕ) (a b : TokenView) (v w : View) → IsGivenBack limit t n a b v w → made_of b.own ≤ made_of a.own + 3
  given-acts limit t n a b v w g = given-up-acts a b.own (slot_of t) _ _ g.share g.given

  pub left-acts : (limit : ℕ) (t : Option (Ticket P D p d)) (n : ℕ) (a b : TokenView) (v w : View) → IsLeft limit t n a b v w → made_of b.own ≤ made_of a.own + 3
  left-acts limit None n a b v w l = omega (arith, ap (λ (z : TokenView). made_of z.own) l.0)
  left-acts limit (Some t) n a b v w l = given-acts limit t n a b v w l

  pub tracked-acts : (t : Option (Ticket P D p d)) (mark : Mark) (e : Node) (a b : TokenView) → IsTracked t mark e a b → made_of b.own ≤ made_of a.own + 2
  tracked-acts (Some t) (Told note) e a b is =
      let own : made_of b.own ≡ length (Tracks (slot_of t) ∷ Reserves (slot_of t) ∷ history a.own) = ap made_of is.own in omega (arith, own)
  tracked-acts (Some t) Plain e a b is = absurd is
  tracked-acts (Some t) (Full n) e a b is = absurd is
  tracked-acts (Some t) (Gone n) e a b is = absurd is
  tracked-acts None (Full n) e a b is = let own : made_of b.own ≡ made_of a.own = ap (λ (z : TokenView). made_of z.own) is.1.1 in omega (arith, own)
  tracked-acts None Plain e a b is = absurd is
  tracked-acts None (Told note) e a b is = absurd is
  tracked-acts None (Gone n) e a b is = absurd is

  pub tracked-acts_if : (s : Option (Share P)) (t : Option (Ticket P D p d)) (mark : Mark) (a b : TokenView) → IsTrackedIf s t mark a b → made_of b.own ≤ made_of a.own + 2
  tracked-acts_if None t mark a b is = omega (arith, ap (λ (z : TokenView). made_of z.own) is.2)
  tracked-acts_if (Some x) t mark a b is = tracked-acts t mark x.edge a b is
