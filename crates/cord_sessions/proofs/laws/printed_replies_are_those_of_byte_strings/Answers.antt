-- The run of the ending is one over trees.
use Rattle.cord_sessions.proofs.KeptLaws.{kept-or-wanting}
use Rattle.cord_sessions.proofs.laws.printed_replies_are_those_of_byte_strings.Goals as goal

pub returns-clause-run : goal.returns-clause-run
returns-clause-run c = λ o script books history ran. c.tree_runs_are_plain_runs.ensures script _ books history ran.run

pub returns-clause-kept : goal.returns-clause-kept
returns-clause-kept c = λ command reply. kept-or-wanting command reply

pub returns-clause-cords : goal.returns-clause-cords
returns-clause-cords c = λ o script books history p found ran among. c.refusals_in_tree_runs_show_their_cause.ensures.cords script _ books history p found ran.run among

pub returns-clause-pool : goal.returns-clause-pool
returns-clause-pool c = λ o script books history p size ran among. c.refusals_in_tree_runs_show_their_cause.ensures.pool script _ books history p size ran.run among
