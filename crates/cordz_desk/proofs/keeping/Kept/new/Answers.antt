-- What the proof of `Kept::new` needs beyond the search.
use Rattle.std.proofs.Common.{[], ◌∷◌, ◌++◌, ap, ◌∙◌}
use Rattle.cordz_desk.proofs.Untouching.{opens_with}
use Rattle.cordz_desk.proofs.keeping.Kept.new.Goals as goal

pub new-requires : goal.new-requires
new-requires g c = opens_with _ c.args.value c.push_reserved.new.self.items (c.push_reserved.ensures.items ∙ ap (λ l. l ++ c.args.value ∷ []) c.in-Ok.ensures.items) c.of-seen.ensures
