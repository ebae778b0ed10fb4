-- Each spelling of a byte stands for one.
use Rattle.run_laws.proofs.ByteLaws.{spelled-bytes}
use Rattle.run_laws.proofs.texts.spelled_texts_are_bytes.Goals as goal

pub returns : goal.returns
returns c = λ bytes script spells. spelled-bytes bytes script spells
