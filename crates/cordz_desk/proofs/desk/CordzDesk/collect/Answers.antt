-- What the proof of `CordzDesk::collect` needs beyond the search.
use Rattle.std.proofs.Common.{MatchOption, sym, subst}
use Rattle.std.specs.Bool.{⊤}
use Rattle.cordz_desk.specs.Shares.{tree_in, IsShare}
use Rattle.cordz_desk.proofs.Turning.{found_fits}
use Rattle.cordz_desk.proofs.desk.CordzDesk.collect.Goals as goal

pub returns-clause-share : goal.returns-clause-share
returns-clause-share g c =
    let f = c.clear.ensures.found in
    subst (λ o. MatchOption o ⊤ IsShare) (sym f.2) (found_fits tree_in IsShare c.args.slot f.0 _ f.1 c.requires.slot)
