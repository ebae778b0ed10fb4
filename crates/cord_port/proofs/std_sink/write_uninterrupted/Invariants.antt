-- An interrupted write keeps the bytes that are held.
use Rattle.std.specs.Io.KnownBytes.{Keeps}
use Rattle.cord_port.proofs.std_sink.write_uninterrupted.Given as goal

abbrev pub invariant-loop : goal.invariant-loop
invariant-loop g l = Keeps (g.W.Write.contents l.initial.writer) (g.W.Write.contents l.writer)
