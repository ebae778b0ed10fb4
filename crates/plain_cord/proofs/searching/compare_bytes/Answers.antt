-- The kit's comparison is the order of byte strings.
use Rattle.std.proofs.Common.{sym, subst}
use Rattle.std.specs.declared.cmp.Ordering.{Ordering}
use Rattle.plain_cord.specs.Orders.{ComparesAs}
use Rattle.plain_cord.proofs.OrderLaws.{slice_cmp-compares}
use Rattle.plain_cord.proofs.searching.compare_bytes.Goals as goal

pub returns-clause-relation : goal.returns-clause-relation
returns-clause-relation c = subst (λ (o : Ordering). ComparesAs c.args.a.now c.args.b.now o) (sym c.cmp.ensures) (slice_cmp-compares c.args.a.now c.args.b.now)
