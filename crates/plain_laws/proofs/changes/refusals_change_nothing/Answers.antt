-- A refusal leaves the names.
use Rattle.plain_laws.proofs.StayLaws.{refused-stays}
use Rattle.plain_laws.proofs.changes.refusals_change_nothing.Goals as goal

pub returns : goal.returns
returns c = λ names now command reply step refusal. refused-stays names now command reply step refusal
