-- What the sink held at the start.
use Rattle.cord_sessions.proofs.buffered.run_buffered.Given as goal

abbrev pub ghosts-serve : goal.ghosts-serve
ghosts-serve g a = record { begun = g.K.Sink.held a.sink }
