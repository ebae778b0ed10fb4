-- What the proof of `Pool::call_out` needs beyond the search.
use Rattle.std.proofs.Common.{◌≡◌, ℕ, [], ◌∷◌, sym, ap, ◌∙◌, arith}
use Rattle.std.specs.Prelude.{Option, Some, None, slice_index_or}
use Rattle.std.specs.Option.{option_map}
use Rattle.atomic_table.specs.Table.{rest}
use Rattle.pool_rule.specs.Notes.{use_of}
use Rattle.pool_rule.specs.Pools.{Handed, Box}
use Rattle.pool_rule.proofs.Calls.{homes}
use Rattle.node_pool.specs.declared.outlet.Outlet.{Outlet}
use Rattle.node_pool.specs.Boxes.{box_of}
use Rattle.node_pool.proofs.Calling.{called_is, value_is}
use Rattle.node_pool.proofs.pool.Pool.call_out.Goals as goal

pub exchange-requires-2 : goal.exchange-requires-2
exchange-requires-2 g c =
    let pool = c.args.self.now in
    let a = c.exchange.ensures in
    let e = ap (λ m. m.1) a.3 in
    (a.0 ∙ (c.requires.table ∙ sym pool.named), (None, e ∙ ap (λ l. (c.args.slot, None) ∷ rest l) (sym e)))

pub load-requires : goal.load-requires
load-requires g c =
    let pool = c.args.self.now in
    let a = c.exchange.ensures in
    let b = c.exchange-2.ensures in
    let y = c.requires.carried in
    let e = c.args.edge.now in
    let seat = c.args.seat in
    let released = c.release.new.self in
    let is = b.3 ∙ (ap (λ m. (m.0, (c.args.slot, Some released) ∷ rest m.1)) a.3 ∙ ap (λ l. (seat.me.0, (c.args.slot, Some released) ∷ rest l)) y.carried) in
    let old : Some c.in-Some.outlet ≡ y.value = sym c.in-Some.is ∙ value_is c.args.slot e.0.more c.exchange.result y.value _ _ a.2 y.carried in
    let seen : Option (Outlet g.row.B.Denot g.B.Releaser) → Option Box = option_map (λ (o : Outlet g.row.B.Denot g.B.Releaser). box_of o.before o.latest o.length) in
    let first : Handed = record { calls = 0; latest = None } in
    let fresh = ap seen old ∙ (y.fresh ∙ (λ q. Some (record { handed = slice_index_or (sym pool.boxed q) e.0.more first; length = None }))) in
    let r = c.release.ensures in (
      b.0 ∙ (a.0 ∙ (c.requires.table ∙ sym pool.named)),
      omega (arith, pool.wide),
      homes _ _ _ c.exchange-2.new.seat.me (omega (arith, ap (λ m. m.0.spare) is, c.requires.worker.1)) (use_of e) (Some released) (omega (arith, pool.sized.1, c.requires.worker.0))
          (ap (λ m. m.0.away) is ∙ y.away)
          (ap (λ m. m.1) is ∙ ap (λ (k : ℕ). (k, Some released) ∷ []) c.requires.slot)
          (called_is _ _ _ _ _ _ _ e.0.length fresh r.before r.latest (r.called ∙ ap (λ (n : ℕ). Some n) c.length.ensures.is)),
    )
