-- The facts of `merge` that the check leaves to be shown.
use Rattle.std.proofs.Common.{◌≡◌, ◌∙◌, sym, subst, get_or, set, List}
use Rattle.node_forest.specs.Label.{Node}
use Rattle.count_core.proofs.Lists.{set_back}
use Rattle.count_core.proofs.world.World.merge.Goals as goal

pub returns-in-Err-clause-err : goal.returns-in-Err-clause-err
returns-in-Err-clause-err c =
    let views = c.args.self.now.views.items in
    let cleared = set views c.args.other c.replace-moved.new.dest in
    let own : c.append.new.self ≡ get_or cleared c.args.view c.append.new.self =
    subst (λ (z : List Node). z ≡ get_or cleared c.args.view z) (sym c.in-Err.ensures.err.0) c.index_mut-2.ensures.value in
    let back = c.in-Err.ensures.err.1 ∙ c.replace-moved.ensures.value in
    let second : c.append.new.other ≡ get_or views c.args.other c.append.new.other =
    subst (λ (z : List Node). z ≡ get_or views c.args.other z) (sym back) c.index_mut.ensures.value in
    λ i. record { words = c.args.self.now.words.items; live = c.args.self.now.live; views = set_back views c.args.other c.args.view c.replace-moved.new.dest c.append.new.self c.append.new.other own second i }
