-- By what an effect may be.
use Rattle.plain_laws.proofs.BoardLaws.{refused-names, refused-cells}
use Rattle.plain_laws.proofs.board.refused_actions_change_nothing.Goals as goal

pub returns-clause-names : goal.returns-clause-names
returns-clause-names c = λ p state cells command e is refusal. refused-names p state cells command e is refusal

pub returns-clause-cells : goal.returns-clause-cells
returns-clause-cells c = λ p state cells command e is refusal. refused-cells p state cells command e is refusal
