-- Cords that were made, sampled or not, as a session's.
use Rattle.std.proofs.Common.{◌≡◌, ◌∙◌, sym, ap, subst, refl, ℕ, ◌+◌, Option, Some, None, Bool, true, false, Result, Ok, Err, arith}
use Rattle.std.specs.Prelude.{option_map, IfOk, IfErr, OnErr, MatchOption}
use Rattle.std.specs.Bool.{⊤}
use Rattle.node_forest.specs.Label.{Node}
use Rattle.pool_rule.specs.Views.{View}
use Rattle.record_rule.specs.declared.views.TokenView.{TokenView}
use Rattle.cordz_desk.specs.declared.tickets.Ticket.{Ticket}
use Rattle.cordz_desk.specs.Tickets.{bare_of}
use Rattle.cord_value.specs.Refusals.{IsBalanced}
use Rattle.cord_value.specs.Views.{passes_of}
use Rattle.cord_value.specs.declared.refusals.CordError.{CordError}
use Rattle.cord_sampled.specs.Copies.{one_if}
use Rattle.cord_sampled.specs.Making.{HasMade, IsRecorded}
use Rattle.cord_sampled.specs.Sampled.{cord_in as sampled_cord, ticket_in}
use Rattle.cord_sampled.specs.Tracking.{ended_by, IsTracked}
use Rattle.cord_sampled.specs.declared.cord.SampledCord.{SampledCord}
use Rattle.cord_sampled.specs.declared.mark.Mark.{Mark}
use Rattle.cord_sampled.specs.declared.mark.Mark.TheVariants.{Plain, Noted as Told, Full, Gone}
use Rattle.sampled_commands.specs.Accounts.{Seen, one_record, IsOngoing, AddsUpTo}
use Rattle.sampled_commands.specs.Answers.{new_mark}
use Rattle.sampled_commands.specs.Leaving.{IsIdle}
use Rattle.sampled_commands.specs.Setting.{session_made, IsFormMade, trees_made, records_made}
use Rattle.sampled_commands.specs.Views.{SessionCordView, record_of}
use Rattle.sampled_commands.proofs.Entries.{HasNoted, recorded-noted}
use Rattle.sampled_commands.proofs.Ongoing.{ongoing-keeps, ongoing-balanced, idle-keeps, idle-balanced, adds-by, adds-balanced}

-- what a session has after a cord was made, or refused
pub record IsMadeBy (v m : Seen) (r : Result (SessionCordView × Mark) CordError) : Type 0 where
  pub ongoing : IsOngoing v m
  pub idle : IsIdle v.worker m.worker
  pub even : AddsUpTo v m 0 (trees_made r) 0 (records_made r)
  pub noted : IfOk r (λ c. HasNoted c.0.sample (new_mark c.1) v.token m.token)
  pub still : IfErr r (λ _. m.token ≡ v.token)

module _ {P D : Type 0} {p : _} {d : _} where
  pub one-record : (t : Option (Ticket P D p d)) → one_if t ≡ one_record (option_map record_of t)
  one-record None = refl
  one-record (Some t) = refl

  tracked-form : (t : Option (Ticket P D p d)) (mark : Mark) (e : Node) (a b : TokenView) → IsTracked t mark e a b → MatchOption t ⊤ (λ u. bare_of u ≡ false)
  tracked-form (Some t) (Told note) e a b is = is.some
  tracked-form (Some t) Plain e a b is = absurd is
  tracked-form (Some t) (Full n) e a b is = absurd is
  tracked-form (Some t) (Gone n) e a b is = absurd is
  tracked-form None mark e a b is = tt

  recorded-form : (due : Bool) (e : Option Node) (t : Option (Ticket P D p d)) (mark : Mark) (a b : TokenView) → IsRecorded due e t mark a b → MatchOption t ⊤ (λ u. bare_of u ≡ false)
  recorded-form false e t mark a b is = subst (λ o. MatchOption o ⊤ (λ u. bare_of u ≡ false)) (sym is.0) tt
  recorded-form true None t mark a b is = absurd is
  recorded-form true (Some e) t mark a b is = tracked-form t mark e a b is

  -- its record isn't bare
  pub made-form : (due : SampledCord P D p d → Bool) (a b : TokenView) (r : Result (SampledCord P D p d × Mark) CordError)
      → IfOk r (λ x. IsRecorded (due x.0) (sampled_cord x.0).tree (ticket_in x.0) x.1 a b) → IsFormMade r
  made-form due a b (Ok x) is = recorded-form (due x.0) (sampled_cord x.0).tree (ticket_in x.0) x.1 a b is
  made-form due a b (Err e) is = tt

  pub made-by : (limit : ℕ) (due : SampledCord P D p d → Bool) (fits : SampledCord P D p d → ℕ → Type 0) (v m : Seen) (r : Result (SampledCord P D p d × Mark) CordError)
      → IfOk r (λ x. IsRecorded (due x.0) (sampled_cord x.0).tree (ticket_in x.0) x.1 v.token m.token)
      → IfOk r (λ x. HasMade limit (fits x.0) (sampled_cord x.0).tree (ticket_in x.0) x.1 v.worker m.worker) → IfErr r (λ x. IsBalanced limit x v.worker m.worker) → OnErr r (m.token ≡ v.token)
      → IsMadeBy v m (session_made r)
  made-by limit due fits v m (Ok x) recorded made balanced still =
      let t = ticket_in x.0 in
      let e = (sampled_cord x.0).tree in
      let noted = recorded-noted (due x.0) e t x.1 v.token m.token recorded in
      let one = one-record t in
      let k = made.keeps in
      record {
        ongoing = ongoing-keeps limit made.numbers _ _ v m k noted.number;
        idle = idle-keeps limit made.numbers _ _ v.worker m.worker k;
        even = adds-by v m 0 (passes_of e) 0 (one_record (option_map record_of t)) (passes_of e + (one_if t + ended_by x.1)) (ended_by x.1) (one_record (option_map record_of t)) 0 0
            (ap (λ (z : View). z.made) k.gained ∙ ap (λ n. v.worker.made + n) k.made) (ap (λ (z : View). z.ended) k.gained ∙ ap (λ n. v.worker.ended + n) k.ended)
            noted.tracks noted.unlinks noted.frees (omega (arith, one)) (omega arith);
        noted = noted;
        still = tt;
      }
  made-by limit due fits v m (Err x) recorded made balanced still = record {
    ongoing = ongoing-balanced limit x v m balanced still;
    idle = idle-balanced limit x v.worker m.worker balanced;
    even = adds-balanced limit x v m 0 0 balanced still;
    noted = tt;
    still = still;
  }
