-- The name of the test's desk.
use Rattle.cordz_desk.specs.Opened.{opened_desk}
use Rattle.record_walks.proofs.tests.with_pool.Given as goal

abbrev pub ghosts-with_desk : goal.ghosts-with_desk
ghosts-with_desk g a = record { desk = opened_desk a.desk }
