-- A session behind those before it, whole or in part.
use Rattle.std.proofs.lemmas.Result.{err_from_is_err_and}
use Rattle.std.proofs.Common.{◌∙◌, ap, sym, subst, ◌++◌, ◌<◌, List, ℕ, length, suc, take, drop, arith}
use Rattle.std.specs.List.{flat_map, zip}
use Rattle.std.specs.Io.KnownBytes.{Appends}
use Rattle.cord_port.proofs.Appending.{appends_more}
use Rattle.plain_cord.specs.declared.script.Session.{Session}
use Rattle.plain_cord.specs.declared.reply.Book.{Book}
use Rattle.report_text.specs.Outputs.{session_text, books_text}
use Rattle.report_text.proofs.Parts.{flat_map-parts, flat_map-more, zip-at, zip-long, take-zip-all}
use Rattle.report_text.proofs.Writings.{fails_behind, wrote_all}
use Rattle.report_text.proofs.writing.write_sessions.Goals as goal

pub returns-in_err-write_session : goal.returns-in_err-write_session
returns-in_err-write_session g c =
    let sessions = c.args.sessions.now in
    let books = c.args.books.now in
    let i = c.loop-i.i in
    let part : Session × Book = (c.index-sessions-i.result, c.index-books-i.result) in
    let within : i < length sessions = omega arith in
    let one = zip-at sessions books i part.0 part.1 within c.loop-i-test.true c.index-sessions-i.is c.index-books-i.is in
    let failed = err_from_is_err_and c.from_residual.result c.from_residual.ensures.1 in
    rw failed.1 (fails_behind _ (g.K.Sink.held c.loop-i.sink) _ _ _ _ (flat_map session_text (take i (zip sessions books))) (session_text part) (flat_map session_text (drop (suc i) (zip sessions books))) (books_text sessions books)
    (flat_map-parts session_text (zip sessions books) i part (zip-long sessions books i within c.loop-i-test.true) ∙ ap (λ p. flat_map session_text (take i (zip sessions books)) ++ (session_text p ++ flat_map session_text (drop (suc i) (zip sessions books)))) one)
    c.loop-i.invariant.held c.loop-i.invariant.faults c.in_err-write_session.ensures)

pub loop-i-preserved : goal.loop-i-preserved
loop-i-preserved g c =
    let sessions = c.args.sessions.now in
    let books = c.args.books.now in
    let i = c.loop-i.i in
    let part : Session × Book = (c.index-sessions-i.result, c.index-books-i.result) in
    let within : i < length sessions = omega arith in
    let one = zip-at sessions books i part.0 part.1 within c.loop-i-test.true c.index-sessions-i.is c.index-books-i.is in
    let more = ap (λ p. flat_map session_text (take i (zip sessions books)) ++ session_text p) (sym one) ∙ flat_map-more session_text (zip sessions books) i part (zip-long sessions books i within c.loop-i-test.true) in
    record {
      held = subst (λ (text : List ℕ). Appends (g.K.Sink.held c.args.sink.now) (g.K.Sink.held c.write_session.new.sink) text) more
          (appends_more _ (g.K.Sink.held c.loop-i.sink) _ (flat_map session_text (take i (zip sessions books))) (session_text part) c.loop-i.invariant.held c.in_ok-write_session.ensures.whole);
      faults = c.in_ok-write_session.ensures.kept ∙ c.loop-i.invariant.faults;
    }

pub returns : goal.returns
returns g c =
    let whole = subst (λ (parts : List (Session × Book)). Appends (g.K.Sink.held c.args.sink.now) (g.K.Sink.held c.loop-i.sink) (flat_map session_text parts))
    (take-zip-all c.args.sessions.now c.args.books.now c.loop-i.i c.loop-i-test.false) c.loop-i.invariant.held in
    wrote_all _ _ _ _ (books_text c.args.sessions.now c.args.books.now) whole c.loop-i.invariant.faults
