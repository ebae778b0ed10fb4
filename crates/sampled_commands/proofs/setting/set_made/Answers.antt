-- A refused cord changes nothing; one that is made takes the place of another, or goes.
use Rattle.std.proofs.Common.{◌∙◌, sym, ap, subst, refl, sum_by, arith}
use Rattle.ordered_names.specs.Named.{all_in}
use Rattle.sampled_commands.specs.Accounts.{trees_of, records_of}
use Rattle.sampled_commands.specs.Answers.{ok_with, new_mark, gone_of}
use Rattle.sampled_commands.specs.Leaving.{stamp_gone}
use Rattle.sampled_commands.specs.Setting.{trees_made, records_made, IsSet}
use Rattle.sampled_commands.proofs.GivenUp.{gone-stamp}
use Rattle.sampled_commands.proofs.Ongoing.{ongoing-same, idle-same, adds-none, adds-shift, sum-ones}
use Rattle.sampled_commands.proofs.setting.set_made.Goals as goal

pub returns-in-Err-clause-ongoing : goal.returns-in-Err-clause-ongoing
returns-in-Err-clause-ongoing g c = ongoing-same _ _ refl refl

pub returns-in-Err-clause-idle : goal.returns-in-Err-clause-idle
returns-in-Err-clause-idle g c = idle-same _ _ refl

pub returns-in-Err-clause-even : goal.returns-in-Err-clause-even
returns-in-Err-clause-even g c =
    adds-none _ _ _ _ _ _ refl refl (omega (arith, ap trees_made c.in-Err.is)) (omega (arith, ap records_made c.in-Err.is))

pub returns-in-Ok-set-clause-even : goal.returns-in-Ok-set-clause-even
returns-in-Ok-set-clause-even g c =
    let trees = c.in-Ok-set.ensures.weights trees_of in
    let records = c.in-Ok-set.ensures.weights records_of in
    let made = ap trees_made c.in-Ok.is in
    let recorded = ap records_made c.in-Ok.is in
    adds-shift _ _ _ _ _ _ _ _ _ _ c.let_go-gone.ensures.even (omega (arith, trees, made)) (omega (arith, records, recorded))

pub returns-in-Err-set-clause-even : goal.returns-in-Err-set-clause-even
returns-in-Err-set-clause-even g c =
    let trees = ap (sum_by trees_of) c.in-Err-set.ensures.kept.1 in
    let records = ap (sum_by records_of) c.in-Err-set.ensures.kept.1 in
    let made = ap trees_made c.in-Ok.is in
    let recorded = ap records_made c.in-Ok.is in
    let back = ap trees_of c.in-Err-set.ensures.back in
    let again = ap records_of c.in-Err-set.ensures.back in
    adds-shift _ _ _ _ _ _ _ _ _ _ c.let_go.ensures.even (omega (arith, trees, made, back)) (omega (arith, records, recorded, again))

pub returns-in-Ok-set-clause-set : goal.returns-in-Ok-set-clause-set
returns-in-Ok-set-clause-set g c =
    let old = c.args.names.now in
    let a = c.args.a.now in
    let gone = ap gone_of c.let_go-gone.ensures.mark ∙ (gone-stamp c.in-Ok-set.old ∙ ap stamp_gone c.in-Ok-set.ensures.old) in
    subst (λ z. IsSet old c.set.new.self a z c.done.result) (sym c.in-Ok.is)
    (c.in-Ok-set.ensures.set, c.done.ensures ∙ ap (ok_with (new_mark c.in-Ok.made.1)) gone)

pub returns-in-Ok-set-clause-count : goal.returns-in-Ok-set-clause-count
returns-in-Ok-set-clause-count g c =
    let ones = c.in-Ok-set.ensures.weights (λ _. 1) in
    omega (arith, ones, sum-ones (all_in c.set.new.self), sum-ones (all_in c.args.names.now))
