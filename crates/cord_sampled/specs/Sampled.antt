-- What contracts see of a sampled cord: the cord, and its record's ticket.
use Rattle.std.specs.Prelude.{Option}
use Rattle.cord_value.specs.Views.{CordView}
use Rattle.cordz_desk.specs.declared.tickets.Ticket.{Ticket}
use Rattle.cord_sampled.specs.declared.cord.SampledCord.{SampledCord}

module _ {P D : Type 0} {p : _} {d : _} where
  abbrev pub cord_in : SampledCord P D p d → CordView
  cord_in s = s.cord

  abbrev pub ticket_in : SampledCord P D p d → Option (Ticket P D p d)
  ticket_in s = s.ticket
