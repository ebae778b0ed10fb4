-- What the proof of `CordzDesk::end_snapshot` needs beyond the search.
use Rattle.cordz_desk.specs.Tokens.{token_of}
use Rattle.cordz_desk.proofs.Claims.{let_go}
use Rattle.cordz_desk.proofs.desk.CordzDesk.end_snapshot.Goals as goal

pub returns-clause-cleared : goal.returns-clause-cleared
returns-clause-cleared g c = λ s is. let d = c.in-Unsnap.ensures.done in let_go (token_of c.args.pass.now) _ d.0 _ c.in-Unsnap.gone s d.1 is
