-- The text of a record that a walk found.
use Rattle.std.specs.Prelude.{ℕ, List, ◌++◌, codes}
use Rattle.std.specs.List.{flat_map}
use Rattle.std.specs.Fmt.{decimal}
use Rattle.plain_cord.specs.declared.reply.Report.{Report}
use Rattle.plain_cord.specs.declared.statistics.Statistics.{Statistics}

-- numbers, a space in front of each
abbrev pub numbers_text : List ℕ → List ℕ
numbers_text numbers = flat_map (λ n. codes " " ++ decimal n) numbers

-- what the nodes of its tree add up to
abbrev pub statistics_text : Statistics → List ℕ
statistics_text s =
    codes " size " ++ decimal s.size ++ codes " nodes " ++ decimal s.nodes ++ codes " flat " ++ decimal s.flat
    ++ codes " external " ++ decimal s.external ++ codes " part " ++ decimal s.part ++ codes " sum " ++ decimal s.sum
    ++ codes " branch " ++ decimal s.branch ++ codes " buckets" ++ numbers_text s.buckets ++ codes " memory " ++ decimal s.memory

-- its note and its statistics, without the newline
abbrev pub report_text : Report → List ℕ
report_text report = codes "record " ++ decimal report.stamp ++ codes "." ++ decimal report.update ++ statistics_text report.statistics
