-- Which capacity is the first that holds the bytes.
use Rattle.std.proofs.Common.{arith}
use Rattle.std.proofs.lemmas.Bool.Decides.{nat_tests}
use Rattle.tree_shapes.specs.Capacity.{capacity_for}
use Rattle.flat_nodes.proofs.capacity.capacity_for.Goals as goal

pub returns-in-0-to-19-clause-capacity : goal.returns-in-0-to-19-clause-capacity
unfolding capacity_for
returns-in-0-to-19-clause-capacity c = grind (arith, nat_tests)

pub returns-in-20-to-51-clause-capacity : goal.returns-in-20-to-51-clause-capacity
unfolding capacity_for
returns-in-20-to-51-clause-capacity c = grind (arith, nat_tests)

pub returns-in-52-to-115-clause-capacity : goal.returns-in-52-to-115-clause-capacity
unfolding capacity_for
returns-in-52-to-115-clause-capacity c = grind (arith, nat_tests)

pub returns-in-116-to-243-clause-capacity : goal.returns-in-116-to-243-clause-capacity
unfolding capacity_for
returns-in-116-to-243-clause-capacity c = grind (arith, nat_tests)

pub returns-in-244-to-499-clause-capacity : goal.returns-in-244-to-499-clause-capacity
unfolding capacity_for
returns-in-244-to-499-clause-capacity c = grind (arith, nat_tests)

pub returns-in-500-to-1011-clause-capacity : goal.returns-in-500-to-1011-clause-capacity
unfolding capacity_for
returns-in-500-to-1011-clause-capacity c = grind (arith, nat_tests)

pub returns-in-1012-to-2035-clause-capacity : goal.returns-in-1012-to-2035-clause-capacity
unfolding capacity_for
returns-in-1012-to-2035-clause-capacity c = grind (arith, nat_tests)

pub returns-in_default-clause-capacity : goal.returns-in_default-clause-capacity
unfolding capacity_for
returns-in_default-clause-capacity c = grind (arith, nat_tests)
