-- The name of the desk.
use Rattle.cordz_desk.specs.Opened.{opened_desk}
use Rattle.desk_tests.proofs.games.at_pool.Given as goal

abbrev pub ghosts-at_desk : goal.ghosts-at_desk
ghosts-at_desk g a = record { desk = opened_desk a.opened }
