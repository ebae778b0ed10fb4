-- What is made is an external.
use Rattle.edge_nodes.specs.Externals.{first_slot}
use Rattle.edge_nodes.proofs.ExternalLaws.{text-made, shape-made, formed-made, data-made}
use Rattle.edge_nodes.proofs.external.new_external.Goals as goal
use Rattle.std.proofs.Common.{arith, rules}

pub returns-clause-node : goal.returns-clause-node
returns-clause-node g c = search rules

pub returns-clause-text : goal.returns-clause-text
returns-clause-text g c = text-made c.in_ok-edge.edge c.args.bytes.now (first_slot c.args.w.now.unused) (returns-clause-node g c)

pub returns-clause-shape : goal.returns-clause-shape
returns-clause-shape g c = shape-made c.in_ok-edge.edge c.args.bytes.now (first_slot c.args.w.now.unused) (returns-clause-node g c)

pub returns-clause-formed : goal.returns-clause-formed
returns-clause-formed g c = formed-made c.in_ok-edge.edge c.args.bytes.now (first_slot c.args.w.now.unused) (returns-clause-node g c) (omega (arith, c.requires.some)) c.requires.small

pub returns-clause-data : goal.returns-clause-data
returns-clause-data g c = data-made c.in_ok-edge.edge c.args.bytes.now (first_slot c.args.w.now.unused) (returns-clause-node g c) (omega (arith, c.requires.some)) c.requires.small
