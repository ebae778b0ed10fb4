-- The facts of `steps_keep_the_rule` that the check leaves to be shown.
use Rattle.pool_rule.proofs.Calls.{takes, shares, leaves, looks, homes}
use Rattle.pool_rule.proofs.laws.steps_keep_the_rule.Goals as goal

pub returns : goal.returns
returns g c = record { take = λ p slots id me t worker. takes p slots id me worker t; share = λ p slots id me t worker. shares p slots id me worker t; leave = λ p slots id me t worker. leaves p slots id me worker t; look = λ p slots id me t worker. looks p slots id me worker t; home = λ p slots id me u y worker. homes p slots id me worker u y }
