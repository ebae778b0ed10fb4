use Rattle.std.proofs.Common.{◌+◌, ◌∙◌, ap, sym, length}
use Rattle.std.proofs.lemmas.Map.Text.{btree_map_updates_str}
use Rattle.std.specs.Prelude.{sum_by}
use Rattle.std.specs.Option.{option_map_or}
use Rattle.std.specs.Map.{values_of}
use Rattle.std.specs.Ordering.{nat_cmp}
use Rattle.std.specs.Cmp.Lexicographic.{slice_cmp}
use Rattle.ordered_names.proofs.Weighing.{insertion_weighs}
use Rattle.ordered_names.proofs.names.Names.set.Goals as goal

pub returns-in-Ok-clause-set : goal.returns-in-Ok-clause-set
returns-in-Ok-clause-set g c = λ q. btree_map_updates_str c.args.name.now c.args.self.now.values c.insert.new.self _ c.in-Ok.ensures.updates q

pub returns-in-Ok-clause-weights : goal.returns-in-Ok-clause-weights
returns-in-Ok-clause-weights g c = λ h.
    let grown = insertion_weighs (λ x y. slice_cmp nat_cmp x.now y.now) c.args.name c.args.value c.args.self.now.values.entries c.in-Ok.old c.in-Ok.ensures.old (ap length (sym c.in-Ok.ensures.entries) ∙ c.in-Ok.ensures.len) h in
    ap (λ es. sum_by h (values_of es) + option_map_or h c.in-Ok.old 0) c.in-Ok.ensures.entries ∙ grown
