-- What the proof of `branch_of` needs beyond the search.
use Rattle.std.proofs.Common.{arith}
use Rattle.btree_node.proofs.GainLaws.{gained-finished_all}
use Rattle.btree_node.proofs.MadeLaws.{all-short, refused-gone}
use Rattle.btree_node.proofs.branches.branch_of.Goals as goal

pub finish_all-requires-clause-held : goal.finish_all-requires-clause-held
finish_all-requires-clause-held g c = record { weighs = λ f. omega (arith, c.requires.held.weighs f, c.in-Err.ensures.refused.traded.weighs f) }

pub finish_all-requires-clause-short : goal.finish_all-requires-clause-short
finish_all-requires-clause-short g c = all-short c.args.height c.args.edges.now (omega (arith, c.requires.low)) c.requires.trees

pub returns-in-Err-clause-refused : goal.returns-in-Err-clause-refused
returns-in-Err-clause-refused g c =
    refused-gone g.P.Naming.size c.in-Err.error c.args.w.now c.new_branch.new.w c.finish_all.new.w c.args.edges.now c.in-Err.ensures.refused c.finish_all.ensures.traded (gained-finished_all c.args.edges.now c.new_branch.new.w c.finish_all.new.w c.finish_all.ensures.finished)
