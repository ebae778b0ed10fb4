-- What each chair needs and gives.
use Rattle.std.proofs.Common.{arith, ◌<◌, length, slice_index_or, sym, subst}
use Rattle.node_pool.specs.Starts.{slot_count}
use Rattle.cord_seats.specs.Chairs.{StartsIn, EndsIn}
use Rattle.cord_seats.proofs.running.run_all.Goals as goal

pub for_each_mut-requires-clause-accepts : goal.for_each_mut-requires-clause-accepts
for_each_mut-requires-clause-accepts g c κs within = λ i p inside is.
    let len = c.requires.len in
    let below : i < length c.args.sessions.now = omega arith in
    (below, ((λ s. c.requires.runnable i s below), (λ s. subst (λ z. StartsIn (slot_count g.P.Naming.workers g.P.Naming.table.slots) c.args.board.now (slice_index_or c.args.sessions.now i s).commands i z) (sym is) (c.requires.starts i s p.now below))))

pub returns : goal.returns
returns g c = λ p s e below.
    let len = c.requires.len in
    let h = c.for_each_mut.ensures p e (omega arith) in
    subst (λ z. EndsIn g.P.Naming.size g.P.Naming.limit (slot_count g.P.Naming.workers g.P.Naming.table.slots) c.args.board.now (slice_index_or c.args.sessions.now p s).commands p z) h.1.left (h.1.call s)
