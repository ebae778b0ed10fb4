-- By what an effect may be.
use Rattle.plain_laws.proofs.BoardLaws.{other-names, other-cells}
use Rattle.plain_laws.proofs.board.other_names_and_cells_stay.Goals as goal

pub returns-clause-names : goal.returns-clause-names
returns-clause-names c = λ p state cells command e name is other. other-names p state cells command e name is other

pub returns-clause-cells : goal.returns-clause-cells
returns-clause-cells c = λ p state cells command e cell is other. other-cells p state cells command e cell is other
