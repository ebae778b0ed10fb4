-- A sampled cord and how it is seen as a session's.
use Rattle.std.proofs.Common.{◌≡◌, ◌∙◌, sym, ap, subst, refl, ℕ, Option, Some, None, false, Result}
use Rattle.std.specs.Prelude.{option_map, is_some, MatchOption}
use Rattle.std.specs.Bool.{⊤}
use Rattle.cord_port.specs.declared.refusals.Memory.{Memory}
use Rattle.pool_rule.specs.Views.{View}
use Rattle.cordz_desk.specs.declared.tickets.Ticket.{Ticket}
use Rattle.cordz_desk.specs.Tickets.{bare_of}
use Rattle.cord_value.specs.Views.{CordView, IsTreeOf, no_cord}
use Rattle.cord_sampled.specs.Peeks.{IsPeeked}
use Rattle.cord_sampled.specs.Records.{HasRecord}
use Rattle.cord_sampled.specs.Sampled.{cord_in as sampled_cord, ticket_in}
use Rattle.cord_sampled.specs.declared.copies.Copied.{Copied}
use Rattle.cord_sampled.specs.declared.cord.SampledCord.{SampledCord}
use Rattle.cord_sampled.specs.declared.passes.Ready.{Ready}
use Rattle.sampled_commands.specs.Forms.{view_of, IsForm}
use Rattle.sampled_commands.specs.Views.{SessionCordView, IsWhole, no_session_cord, record_of}
use Rattle.sampled_commands.proofs.Marks.{some-map}
use Rattle.sampled_commands.proofs.Whole.{whole-view}

module _ {P D : Type 0} {p : _} {d : _} where
  -- ---- no record
  pub plain-form : (s : SampledCord P D p d) → ticket_in s ≡ None → IsForm s
  plain-form s none = subst (λ o. MatchOption o ⊤ (λ t. bare_of t ≡ false)) (sym none) tt

  pub plain-view : (s : SampledCord P D p d) → sampled_cord s ≡ no_cord → ticket_in s ≡ None → view_of s ≡ no_session_cord
  plain-view s cord none = λ i. record { cord = cord i; sample = option_map record_of (none i) }

  no-ticket : (t : Option (Ticket P D p d)) → option_map record_of t ≡ None → t ≡ None
  no-ticket None none = refl
  no-ticket (Some t) none = cc

  pub plain-ticket : (s : SampledCord P D p d) (c : SessionCordView) → view_of s ≡ c → c.sample ≡ None → ticket_in s ≡ None
  plain-ticket s c same none = no-ticket (ticket_in s) (ap (λ (z : SessionCordView). z.sample) same ∙ none)

  -- ---- of any
  pub whole-as : (s : SampledCord P D p d) (c : SessionCordView) (cord : CordView) → view_of s ≡ c → cord ≡ sampled_cord s → IsTreeOf cord.bytes cord.tree → MatchOption (ticket_in s) ⊤ (HasRecord (sampled_cord s).tree)
      → IsForm s → IsWhole c
  whole-as s c cord same is formed has form = subst IsWhole same (whole-view s (subst (λ (z : CordView). IsTreeOf z.bytes z.tree) is formed) has form)

  pub peeked-as : (limit : ℕ) (s : SampledCord P D p d) (c : SessionCordView) (v w : View) (before after : Option (Ready P)) (out : Result (Option (Copied P)) Memory) → view_of s ≡ c
      → IsPeeked limit (sampled_cord s) (is_some (ticket_in s)) v w before after out → IsPeeked limit c.cord (is_some c.sample) v w before after out
  peeked-as limit s c v w before after out same is = subst (λ (z : SessionCordView). IsPeeked limit z.cord (is_some z.sample) v w before after out) same
      (subst (λ b. IsPeeked limit (sampled_cord s) b v w before after out) (sym (some-map record_of (ticket_in s))) is)
