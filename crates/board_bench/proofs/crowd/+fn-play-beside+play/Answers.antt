-- What the proof of `play` needs beyond the search.
use Rattle.std.proofs.Common.{rules, ◌∙◌, ap}
use Rattle.cord_board.specs.Passes.{board_view}
use Rattle.cord_board.specs.Views.{session_of}
use Rattle.board_bench.specs.Crowds.{Returns}
use Rattle.board_bench.proofs.CrowdLaws.{one_back}
use Rattle.board_bench.proofs.crowd.+fn-play-beside+play.Goals as goal

pub returns-clause-back : goal.returns-clause-back
returns-clause-back g t c =
    let others : Returns (board_view c.split-pass.new.from) (board_view c.root-1.given.0) = search rules in
    one_back (board_view c.args.root.now) _ _ (board_view c.merge.new.into) c.args.plan.sessions _ _ _ _ c.split-pass.ensures.from others (c.beside.ensures.session.1 ∙ ap session_of c.split-pass.ensures.given) c.merge.ensures.into
