-- What the proof of `Opened::start` needs beyond the search.
use Rattle.std.proofs.Common.{rules, ◌≡◌, ◌+◌, ◌^◌, ◌≤◌, List, ℕ, length, subst, sym, arith}
use Rattle.std.specs.Prelude.{Option, None}
use Rattle.std.specs.Option.{option_map}
use Rattle.atomic_table.specs.Table.{opening}
use Rattle.count_core.specs.Steps.{zeroes}
use Rattle.pool_rule.specs.Pools.{Box, Handed, Kept}
use Rattle.pool_rule.specs.Views.{first_view}
use Rattle.pool_rule.proofs.Calls.{begins}
use Rattle.node_pool.specs.declared.outlet.Outlet.{Outlet}
use Rattle.node_pool.specs.Boxes.{below, box_of, terms_of}
use Rattle.node_pool.proofs.Starting.{below_once, below_inside, each_fresh}
use Rattle.node_pool.proofs.start.Opened.start.Goals as goal

pub new-requires : goal.new-requires
new-requires g c =
    let words : c.as_slice.result.now ≡ zeroes (c.args.numbers + 1) = search rules in
    let few : c.min.result ≤ length c.housed.new.slots.items = omega (arith, c.min.ensures, c.housed.ensures.slots, c.len-count.ensures, c.housed.new.slots.ok) in
    let seen : Option (Outlet g.row.B.Denot g.B.Releaser) → Option Box = option_map (λ (o : Outlet g.row.B.Denot g.B.Releaser). box_of o.before o.latest o.length) in
    let first : Handed = record { calls = 0; latest = None } in
    subst (λ (ws : List ℕ). Kept (terms_of c.args.numbers c.args.workers c.housed.new.boxes.items seen) (opening ws c.housed.new.slots.items (first_view (2 ^ 24) c.args.numbers c.args.passes c.args.workers (below c.min.result)))) (sym words)
    (begins _ _ _ _ (omega (arith, c.requires.passes.1)) (omega (arith, c.requires.workers.0)) (omega (arith, c.requires.workers.1)) (below_once c.min.result) (λ j h. let l = below_inside c.min.result j h in omega (arith, l, few))
    (each_fresh seen first _ _ c.housed.ensures.fresh))
