-- How a session's cord is seen.
use Rattle.std.specs.Prelude.{ℕ, ◌≡◌, false, List, option_map, MatchOption, refl}
use Rattle.std.specs.Bool.{⊤}
use Rattle.std.specs.Coded.{Coded, code_by, coded×, coded_ℕ, coded_list, coded_option}
use Rattle.node_forest.specs.Label.{Node}
use Rattle.node_forest.specs.Codes.{coded_node}
use Rattle.record_rule.specs.declared.values.Note.{Note}
use Rattle.record_rule.specs.declared.views.Noted.{Noted}
use Rattle.cordz_desk.specs.Tickets.{bare_of}
use Rattle.cord_value.specs.Views.{coded_cord}
use Rattle.cord_sampled.specs.declared.cord.SampledCord.{SampledCord}
use Rattle.cord_sampled.specs.Sampled.{cord_in, ticket_in}
use Rattle.sampled_commands.specs.Views.{RecordView, SessionCordView, record_of}

abbrev pub coded_note : Coded Note
coded_note = code_by (ℕ × (ℕ × ℕ)) (coded× coded_ℕ (coded× coded_ℕ coded_ℕ)) (λ n. (n.stamp, (n.update, n.length)))
    (λ p. record { stamp = p.0; update = p.1.0; length = p.1.1 }) (λ _. refl)

abbrev pub coded_noted : Coded Noted
coded_noted = code_by (Note × Node) (coded× coded_note coded_node) (λ n. (n.note, n.tree)) (λ p. record { note = p.0; tree = p.1 }) (λ _. refl)

abbrev pub coded_record : Coded RecordView
coded_record = code_by (ℕ × (ℕ × List Noted)) (coded× coded_ℕ (coded× coded_ℕ (coded_list coded_noted))) (λ r. (r.slot, (r.stamp, r.notes)))
    (λ p. record { slot = p.0; stamp = p.1.0; notes = p.1.1 }) (λ _. refl)

abbrev pub coded_session_cord : Coded SessionCordView
coded_session_cord = code_by _ (coded× coded_cord (coded_option coded_record)) (λ c. (c.cord, c.sample)) (λ p. record { cord = p.0; sample = p.1 }) (λ _. refl)

module _ {P D : Type 0} {p : _} {d : _} where
  abbrev pub view_of : SampledCord P D p d → SessionCordView
  view_of s = record { cord = cord_in s; sample = option_map record_of (ticket_in s) }

  -- its record isn't bare
  abbrev pub IsForm : SampledCord P D p d → Type 0
  IsForm s = MatchOption (ticket_in s) ⊤ (λ t. bare_of t ≡ false)
