-- The sessions of an accepted script can be run, and the books tell what they answered.
use Rattle.std.proofs.Common.{◌∙◌, sym, ap, List, length, map, Vec, Global, arith}
use Rattle.plain_cord.specs.declared.reply.Book.{Book}
use Rattle.cord_runs.specs.Boxes.{externals_in}
use Rattle.cord_commands.specs.declared.answer.Answer.{Answer}
use Rattle.cord_sessions.proofs.BoxLaws.{called-back, called-same}
use Rattle.cord_sessions.proofs.Sounds.{runnable, few-needed}
use Rattle.cord_sessions.proofs.TellingLaws.{told-books, told-lists, all-told}
use Rattle.cord_sessions.proofs.running.run_script.Goals as goal

pub run_script-requires-clause-short : goal.run_script-requires-clause-short
run_script-requires-clause-short g c κs within =
    let need = few-needed c.args.script.now.sessions in
    let short = c.requires.accepted.short in
    omega arith

pub run_script-requires-clause-runnable : goal.run_script-requires-clause-runnable
run_script-requires-clause-runnable g c κs within = runnable c.args.script.now.sessions c.requires.accepted.sessions

pub returns-in-Ok-books_of-clause-run : goal.returns-in-Ok-books_of-clause-run
returns-in-Ok-books_of-clause-run g c =
    let all = c.in-Ok.ran.answers.items in
    let told = c.in-Ok-books_of.ensures in
    let same = told-books {V = Vec Answer Global} (λ v. v.items) all
    ∙ ap (λ (books : List Book). map (λ (book : Book). book.replies) books) (sym told) in
    c.told_runs_are_tree_runs.ensures c.args.script.now (length c.args.releasers.items) c.in-Ok-books_of.books.items _ c.in-Ok.ran.history.items
    c.in-Ok.ensures.run same

pub returns-in-Ok-books_of-clause-called : goal.returns-in-Ok-books_of-clause-called
returns-in-Ok-books_of-clause-called g c =
    let all = c.in-Ok.ran.answers.items in
    let told = c.in-Ok-books_of.ensures in
    let sessions = c.args.script.now.sessions in
    let same = ap (λ (books : List Book). externals_in sessions books) told ∙ all-told {V = Vec Answer Global} (λ v. v.items) sessions all in
    called-same c.in-Ok.ensures.boxes (sym same)

pub returns-in-Err-books_of-clause-back : goal.returns-in-Err-books_of-clause-back
returns-in-Err-books_of-clause-back g c = called-back _ _ _ c.in-Ok.ensures.boxes

pub returns-in-Ok-books_of-clause-caused : goal.returns-in-Ok-books_of-clause-caused
returns-in-Ok-books_of-clause-caused g c =
    let all = c.in-Ok.ran.answers.items in
    record {
      answers = map (λ (v : Vec Answer Global). v.items) all;
      told = c.in-Ok-books_of.ensures ∙ told-lists {V = Vec Answer Global} (λ v. v.items) all;
      shown = c.in-Ok.ensures.caused;
    }
