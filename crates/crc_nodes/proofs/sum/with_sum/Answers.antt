use Rattle.crc_nodes.specs.Sums.{seen}
use Rattle.crc_nodes.proofs.SumLaws.{made-sum, text-made, shape-made, formed-made}
use Rattle.crc_nodes.proofs.sum.with_sum.Goals as goal

pub returns-clause-node : goal.returns-clause-node
returns-clause-node g c = made-sum c.in_ok-edge.edge c.args.value c.in_ok-tree.tree (seen c.args.child) c.in_ok-edge.ensures.edge c.in_ok-tree.ensures

pub returns-clause-text : goal.returns-clause-text
returns-clause-text g c = text-made c.in_ok-edge.edge c.args.value (seen c.args.child) (returns-clause-node g c)

pub returns-clause-shape : goal.returns-clause-shape
returns-clause-shape g c = shape-made c.in_ok-edge.edge c.args.value (seen c.args.child) (returns-clause-node g c)

pub returns-clause-formed : goal.returns-clause-formed
returns-clause-formed g c = formed-made c.in_ok-edge.edge c.args.value (seen c.args.child) (returns-clause-node g c) c.requires.tree
