use Rattle.std.proofs.Common.{None}
use Rattle.std.proofs.lemmas.List.Elements.{All-map}
use Rattle.std.proofs.lemmas.Map.Text.{btree_map_updates_str}
use Rattle.std.specs.BTreeMap.{keys}
use Rattle.ordered_names.specs.Named.{IsBefore}
use Rattle.ordered_names.proofs.names.Names.pop.Goals as goal

pub returns-in-Some-clause-least : goal.returns-in-Some-clause-least
returns-in-Some-clause-least g c = All-map (IsBefore c.in-Some.name.now) (λ key. key.now) (keys c.pop_first.new.self) c.in-Some.ensures.all_above

pub returns-in-Some-clause-set : goal.returns-in-Some-clause-set
returns-in-Some-clause-set g c = λ q. btree_map_updates_str c.in-Some.name.now c.args.self.now.values c.pop_first.new.self None c.in-Some.ensures.updates q
