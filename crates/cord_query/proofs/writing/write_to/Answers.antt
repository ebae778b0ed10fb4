-- The chunks, one behind another.
use Rattle.std.proofs.Common.{◌≡◌, ◌+◌, ◌++◌, length, take, drop, ap, sym, subst, ◌∙◌, take-append-drop, append-nil}
use Rattle.std.proofs.Math.Seq.{take-add}
use Rattle.std.specs.Io.KnownBytes.{Appends}
use Rattle.cord_port.proofs.Appending.{appends_more, part_more}
use Rattle.chunk_reader.specs.Readings.{Reading}
use Rattle.cord_query.proofs.writing.write_to.Goals as goal

pub loop-chunk-preserved : goal.loop-chunk-preserved
loop-chunk-preserved g c =
    let is = c.loop-chunk.invariant in
    let rest = c.loop-chunk.rest in
    let chunk = c.in-Some.chunk.now in
    let found = c.in-Some.ensures in
    let next : take rest.at rest.bytes ++ chunk ≡ take (rest.at + length chunk) rest.bytes = ap (λ t. take rest.at rest.bytes ++ t) found.is ∙ sym (take-add rest.at (length chunk) rest.bytes) in
    let moved = ap (λ (r : Reading). take r.at r.bytes) found.new_is in
    record {
      bytes = ap (λ (r : Reading). r.bytes) found.new_is ∙ is.bytes;
      held = subst (Appends (g.K.Sink.held c.args.sink.now) (g.K.Sink.held c.write_all.new.sink)) (next ∙ sym moved)
          (appends_more (g.K.Sink.held c.args.sink.now) (g.K.Sink.held c.loop-chunk.sink) (g.K.Sink.held c.write_all.new.sink) (take rest.at rest.bytes) chunk is.held c.in_default-write_all.ensures.whole);
      faults = c.in_default-write_all.ensures.kept ∙ is.faults;
    }

pub returns-in-Err-clause-part : goal.returns-in-Err-clause-part
returns-in-Err-clause-part g c =
    let is = c.loop-chunk.invariant in
    let rest = c.loop-chunk.rest in
    let chunk = c.in-Some.chunk.now in
    let found = c.in-Some.ensures in
    let bytes = c.args.cord.now.bytes in
    let k = length chunk in
    let whole : bytes ≡ take rest.at rest.bytes ++ (chunk ++ drop k (drop rest.at rest.bytes)) =
    sym is.bytes ∙ sym (take-append-drop rest.at rest.bytes)
    ∙ ap (λ t. take rest.at rest.bytes ++ t) (sym (take-append-drop k (drop rest.at rest.bytes)) ∙ ap (λ t. t ++ drop k (drop rest.at rest.bytes)) (sym found.is)) in
    part_more (g.K.Sink.held c.args.sink.now) (g.K.Sink.held c.loop-chunk.sink) (g.K.Sink.held c.write_all.new.sink) (take rest.at rest.bytes) chunk (drop k (drop rest.at rest.bytes)) bytes whole is.held c.write_all.ensures.part

pub returns-clause-whole : goal.returns-clause-whole
returns-clause-whole g c =
    let is = c.loop-chunk.invariant in
    let rest = c.loop-chunk.rest in
    let all : take rest.at rest.bytes ≡ c.args.cord.now.bytes =
    sym (append-nil (take rest.at rest.bytes)) ∙ ap (λ t. take rest.at rest.bytes ++ t) (sym c.in_default.ensures) ∙ take-append-drop rest.at rest.bytes ∙ is.bytes in
    subst (Appends (g.K.Sink.held c.args.sink.now) (g.K.Sink.held c.loop-chunk.sink)) all is.held
