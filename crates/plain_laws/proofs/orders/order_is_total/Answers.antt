-- The order that the comparison computes is the one.
use Rattle.std.proofs.Common.{◌∙◌, sym}
use Rattle.std.specs.Ordering.{nat_cmp}
use Rattle.std.specs.Cmp.Lexicographic.{slice_cmp}
use Rattle.plain_cord.proofs.OrderLaws.{slice_cmp-compares, compares-value, less-through}
use Rattle.plain_laws.proofs.orders.order_is_total.Goals as goal

pub returns-clause-some : goal.returns-clause-some
returns-clause-some c = λ xs ys. (slice_cmp nat_cmp xs ys, slice_cmp-compares xs ys)

pub returns-clause-one : goal.returns-clause-one
returns-clause-one c = λ xs ys order other first second. compares-value xs ys order first ∙ sym (compares-value xs ys other second)

pub returns-clause-through : goal.returns-clause-through
returns-clause-through c = λ xs ys zs first second. less-through xs ys zs first second
