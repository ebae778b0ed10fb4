-- What is left is no line, or the last one.
use Rattle.std.proofs.Common.{◌≡◌, ◌∙◌, sym, subst, List, ℕ, length, false, true, eq-eqb}
use Rattle.std.proofs.lemmas.Bool.{eqb-true}
use Rattle.script_reader.specs.Feeds.{IsKnown, line_known}
use Rattle.script_reader.specs.Fed.{fed_of}
use Rattle.script_reader.proofs.FeedLaws.{read_closed, read_last, nothing_there, something_there, wanting_stays}
use Rattle.script_reader.proofs.feed.ScriptFeed.finish.Goals as goal

pub returns-then-is_empty-clause-read : goal.returns-then-is_empty-clause-read
returns-then-is_empty-clause-read c =
    let is = c.as_slice-line.ensures.value in
    let same : c.as_slice-line.result.now ≡ c.args.self.rest.items = cc in
    λ bytes got. read_closed bytes (fed_of c.args.self) c.end.result got.knows (sym same ∙ nothing_there c.as_slice-line.result.now (eqb-true _ _ (sym c.is_empty.ensures ∙ c.if-is_empty.true))) c.end.ensures.read

pub returns-clause-read : goal.returns-clause-read
returns-clause-read c =
    let is = c.as_slice-line.ensures.value in
    let same : c.as_slice-line.result.now ≡ c.args.self.rest.items = cc in
    let some = something_there c.as_slice-line.result.now (λ none. (let f : false ≡ true = sym c.if-is_empty.false ∙ (c.is_empty.ensures ∙ eq-eqb (length c.as_slice-line.result.now) 0 none) in cc)) in
    λ bytes got. read_last bytes (fed_of c.args.self) c.line.new.self c.end-2.result got.knows (λ none. some (same ∙ none))
    (subst (λ (l : List ℕ). IsKnown c.line.new.self (line_known c.args.self.known l)) same c.line.ensures) c.end-2.ensures.read c.end-2.ensures.wanting

pub returns-clause-wanting : goal.returns-clause-wanting
returns-clause-wanting c = λ wants. c.end-2.ensures.wanting (wanting_stays c.args.self.known c.line.new.self c.as_slice-line.result.now wants c.line.ensures)
