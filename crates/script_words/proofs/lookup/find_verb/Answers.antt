-- The word is compared with the only one that it can be.
use Rattle.std.proofs.Common.{sym, ap, ◌∙◌}
use Rattle.script_words.specs.Slots.{entry_at}
use Rattle.script_words.proofs.SlotLaws.{same_word, another_word}
use Rattle.script_words.proofs.lookup.find_verb.Goals as goal

pub returns-then-eq : goal.returns-then-eq
returns-then-eq c =
    same_word c.args.word.now (c.entry-first.result.0.now, c.entry-first.result.1) (c.entry-first.ensures ∙ ap entry_at c.slot.ensures) (sym c.eq.ensures ∙ c.if-eq.true)

pub returns-else-eq : goal.returns-else-eq
returns-else-eq c =
    another_word c.args.word.now (c.entry-first.result.0.now, c.entry-first.result.1) (c.entry-first.ensures ∙ ap entry_at c.slot.ensures) (sym c.eq.ensures ∙ c.if-eq.false)
