-- The rest is what stands behind the last newline.
use Rattle.std.proofs.Common.{◌≡◌, sym, subst, List, ℕ}
use Rattle.script_reader.specs.Fed.{fed_of, IsRest}
use Rattle.script_reader.proofs.FeedLaws.{rest_is}
use Rattle.script_reader.proofs.feed.ScriptFeed.rest.Goals as goal

pub returns : goal.returns
returns c =
    let is = c.as_slice.ensures.value in
    let same : c.as_slice.result.now ≡ c.args.self.now.rest.items = cc in
    λ bytes got. subst (λ (l : List ℕ). IsRest bytes l) (sym same) (rest_is bytes (fed_of c.args.self.now) got.knows)
