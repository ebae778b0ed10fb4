-- The slots behind the one that was cleared.
use Rattle.std.proofs.Common.{refl, arith}
use Rattle.cordz_desk.specs.Tokens.{token_of}
use Rattle.desk_seats.proofs.Clearing.{next_cleared}
use Rattle.desk_seats.proofs.seats.Seat.collect.Goals as goal

pub loop-slot-preserved : goal.loop-slot-preserved
loop-slot-preserved g c =
    let inv = c.loop-slot.invariant in
    let k = c.collect_one.ensures in
    let n = next_cleared (token_of c.loop-slot.self.pass) (token_of c.collect_one.new.self.pass) c.args.gone.now c.loop-slot.slot-index _ c.loop-slot-test.true refl k.same inv.cleared inv.once in
    record {
      few = omega (arith, inv.few, k.made);
      walks = k.walking;
      at = k.at;
      cleared = n.0;
      once = n.1;
    }
