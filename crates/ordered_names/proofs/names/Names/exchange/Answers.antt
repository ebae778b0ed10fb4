use Rattle.std.proofs.Common.{rules, ◌+◌, ◌∙◌, ap, sym, Some}
use Rattle.std.specs.Prelude.{if◌then◌else◌, sum_by}
use Rattle.std.specs.Str.{bytes_eq}
use Rattle.std.proofs.lemmas.Map.Text.{btree_map_updates_str}
use Rattle.ordered_names.specs.Named.{named}
use Rattle.std.specs.Map.{values_of}
use Rattle.std.specs.Ordering.{nat_cmp}
use Rattle.std.specs.Cmp.Lexicographic.{slice_cmp}
use Rattle.std.specs.BTreeMap.{is_at}
use Rattle.ordered_names.proofs.Weighing.{exchange_weighs}
use Rattle.ordered_names.proofs.names.Names.exchange.Goals as goal

pub returns-in-Some-clause-set : goal.returns-in-Some-clause-set
returns-in-Some-clause-set g c = λ q.
    btree_map_updates_str c.args.name.now c.args.self.now.values (c.get_mut.follows.lender c.replace.new.dest) _ ((c.get_mut.follows.holds c.replace.new.dest).3 (search rules)) q
    ∙ ap (λ v. if bytes_eq c.args.name.now q then Some v else named c.args.self.now q) c.replace.ensures.after

pub returns-in-Some-clause-weights : goal.returns-in-Some-clause-weights
returns-in-Some-clause-weights g c = λ h.
    let f = c.get_mut.follows.holds c.replace.new.dest in
    let test = is_at (λ key. slice_cmp nat_cmp c.args.name.now key.now) in
    ap (λ es. sum_by h (values_of es) + h c.replace.result) f.0
    ∙ (exchange_weighs test c.replace.new.dest c.replace.result h c.args.self.now.values.entries (sym c.in-Some.ensures.value ∙ ap Some (sym c.replace.ensures.value))
    ∙ ap (λ v. sum_by h (values_of c.args.self.now.values.entries) + h v) c.replace.ensures.after)
