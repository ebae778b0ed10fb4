-- Cords that nobody has any more, and cords that are put back as they were.
use Rattle.std.proofs.Common.{◌≡◌, ◌∙◌, ap, subst, refl, ℕ, ◌+◌, [], Option, Some, None, false, arith}
use Rattle.std.specs.Prelude.{option_map, MatchOption}
use Rattle.std.specs.Bool.{⊤}
use Rattle.pool_rule.specs.Views.{View}
use Rattle.record_rule.specs.declared.views.TokenView.{TokenView}
use Rattle.cordz_desk.specs.declared.tickets.Ticket.{Ticket}
use Rattle.cordz_desk.specs.Tickets.{bare_of}
use Rattle.cord_value.specs.Views.{CordView, passes_of}
use Rattle.cord_value.specs.Workers.{Keeps}
use Rattle.cord_sampled.specs.Leaving.{shares_in, IsGivenBack, IsLeft, gone_mark}
use Rattle.cord_sampled.specs.Sampled.{cord_in as sampled_cord, ticket_in}
use Rattle.cord_sampled.specs.Showing.{IsSameRecord}
use Rattle.cord_sampled.specs.declared.cord.SampledCord.{SampledCord}
use Rattle.desk_laws.specs.Counts.{tracks_in, unlinks_in, frees_in}
use Rattle.sampled_commands.specs.Accounts.{Seen, trees_if, records_if, IsOngoing, AddsUpTo}
use Rattle.sampled_commands.specs.Forms.{view_of, IsForm}
use Rattle.sampled_commands.specs.Answers.{gone_of}
use Rattle.sampled_commands.specs.Leaving.{gone_record, gone_cord, stamp_gone, GivesUp, IsIdle}
use Rattle.sampled_commands.specs.Views.{RecordView, SessionCordView, record_of}
use Rattle.sampled_commands.proofs.Entries.{given-frees, given-tracks, given-unlinks, given-up, none-given}
use Rattle.sampled_commands.proofs.Ongoing.{ongoing-keeps, ongoing-same, idle-keeps, idle-same, adds-by, adds-none}

-- what a session has after a cord was let go
pub record IsLetGo (cord : Option SessionCordView) (v w : Seen) : Type 0 where
  pub ongoing : IsOngoing v w
  pub even : AddsUpTo v w (trees_if cord) 0 (records_if cord) 0
  pub given : GivesUp cord v.token w.token
  pub idle : IsIdle v.worker w.worker

pub none-gone : (v w : Seen) → w.worker ≡ v.worker → w.token ≡ v.token → IsLetGo None v w
none-gone v w worker token = record {
  ongoing = ongoing-same v w worker token;
  even = adds-none v w 0 0 0 0 worker token refl refl;
  given = none-given None v.token w.token refl refl token;
  idle = idle-same v.worker w.worker worker;
}

left-none : (limit : ℕ) (c : CordView) (v w : Seen) → (w.token ≡ v.token) × Keeps limit [] 0 (passes_of c.tree) v.worker w.worker → IsLetGo (Some (record { cord = c; sample = None })) v w
left-none limit c v w is =
    let k = is.1 in
    let cord : Option SessionCordView = Some (record { cord = c; sample = None }) in
    record {
      ongoing = ongoing-keeps limit [] 0 (passes_of c.tree) v w k (ap (λ (z : TokenView). z.number) is.0);
      even = adds-by v w (trees_if cord) 0 0 0 0 (passes_of c.tree) 0 0 0
          (ap (λ (z : View). z.made) k.gained ∙ ap (λ n. v.worker.made + n) k.made) (ap (λ (z : View). z.ended) k.gained ∙ ap (λ n. v.worker.ended + n) k.ended)
          (omega (arith, ap (λ (z : TokenView). tracks_in z.own) is.0)) (omega (arith, ap (λ (z : TokenView). unlinks_in z.own) is.0))
          (omega (arith, ap (λ (z : TokenView). frees_in z.own) is.0)) (omega arith) refl;
      given = none-given cord v.token w.token refl refl is.0;
      idle = idle-keeps limit [] 0 (passes_of c.tree) v.worker w.worker k;
    }

module _ {P D : Type 0} {p : _} {d : _} where
  left-some : (limit : ℕ) (t : Ticket P D p d) (c : CordView) (v w : Seen) → bare_of t ≡ false → IsGivenBack limit t (passes_of c.tree) v.token w.token v.worker w.worker
      → IsLetGo (Some (record { cord = c; sample = Some (record_of t) })) v w
  left-some limit t c v w form g =
      let k = g.keeps in
      let shares = shares_in g.share in
      let cord : Option SessionCordView = Some (record { cord = c; sample = Some (record_of t) }) in
      record {
        ongoing = ongoing-keeps limit [] 0 (shares + passes_of c.tree) v w k g.same.number;
        even = adds-by v w (trees_if cord) 0 1 0 0 (shares + passes_of c.tree) 0 1 shares
            (ap (λ (z : View). z.made) k.gained ∙ ap (λ n. v.worker.made + n) k.made) (ap (λ (z : View). z.ended) k.gained ∙ ap (λ n. v.worker.ended + n) k.ended)
            (omega (arith, given-tracks v.token w.token _ _ _ _ g.given)) (given-unlinks v.token w.token _ _ _ _ g.given)
            (given-frees v.token w.token _ _ _ _ form g.given) (omega arith) refl;
        given = given-up limit t (passes_of c.tree) c v.token w.token v.worker w.worker g;
        idle = idle-keeps limit [] 0 (shares + passes_of c.tree) v.worker w.worker k;
      }

  left-if : (limit : ℕ) (t : Option (Ticket P D p d)) (c : CordView) (v w : Seen) → MatchOption t ⊤ (λ u. bare_of u ≡ false) → IsLeft limit t (passes_of c.tree) v.token w.token v.worker w.worker
      → IsLetGo (Some (record { cord = c; sample = option_map record_of t })) v w
  left-if limit None c v w form is = left-none limit c v w is
  left-if limit (Some t) c v w form is = left-some limit t c v w form is

  pub let-gone : (limit : ℕ) (s : SampledCord P D p d) (c : SessionCordView) (v w : Seen) → view_of s ≡ c → IsForm s
      → IsLeft limit (ticket_in s) (passes_of (sampled_cord s).tree) v.token w.token v.worker w.worker → IsLetGo (Some c) v w
  let-gone limit s c v w same form is = subst (λ z. IsLetGo (Some z) v w) same (left-if limit (ticket_in s) (sampled_cord s) v w form is)

  gone-record : (t : Option (Ticket P D p d)) → gone_mark t ≡ gone_record (option_map record_of t)
  gone-record None = refl
  gone-record (Some t) = refl

  pub gone-view : (s : SampledCord P D p d) (c : SessionCordView) → view_of s ≡ c → gone_mark (ticket_in s) ≡ gone_cord (Some c)
  gone-view s c same = gone-record (ticket_in s) ∙ ap (λ z. gone_cord (Some z)) same

  -- ---- the same record
  same-record : (t u : Option (Ticket P D p d)) → IsSameRecord t u → option_map record_of u ≡ option_map record_of t
  same-record None None is = refl
  same-record (Some t) (Some u) is = λ i. Some (record { slot = is.slot i; stamp = is.stamp i; notes = is.notes i })
  same-record None (Some u) is = absurd is
  same-record (Some t) None is = absurd is

  same-form : (t u : Option (Ticket P D p d)) → IsSameRecord t u → MatchOption t ⊤ (λ z. bare_of z ≡ false) → MatchOption u ⊤ (λ z. bare_of z ≡ false)
  same-form None None is form = tt
  same-form (Some t) (Some u) is form = is.bare ∙ form
  same-form None (Some u) is form = absurd is
  same-form (Some t) None is form = absurd is

  pub same-view : (s u : SampledCord P D p d) → sampled_cord u ≡ sampled_cord s → IsSameRecord (ticket_in s) (ticket_in u) → view_of u ≡ view_of s
  same-view s u cord is = λ i. record { cord = cord i; sample = same-record (ticket_in s) (ticket_in u) is i }

  pub same-formed : (s u : SampledCord P D p d) → IsSameRecord (ticket_in s) (ticket_in u) → IsForm s → IsForm u
  same-formed s u is form = same-form (ticket_in s) (ticket_in u) is form

gone-of : (o : Option RecordView) → gone_of (gone_record o) ≡ option_map (λ (r : RecordView). r.stamp) o
gone-of None = refl
gone-of (Some r) = refl

pub gone-stamp : (o : Option SessionCordView) → gone_of (gone_cord o) ≡ stamp_gone o
gone-stamp None = refl
gone-stamp (Some c) = gone-of c.sample
