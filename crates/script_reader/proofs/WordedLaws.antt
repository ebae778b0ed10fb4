-- A line whose words are read has no byte that a line may not have.
use Rattle.std.proofs.Common.{◌≡◌, ℕ, Bool, true, false, cond, List, Result, Ok, Err, refl, sym, ap, ◌∙◌}
use Rattle.std.specs.List.{list_all}
use Rattle.script_words.specs.declared.fault.Cause.{Cause}
use Rattle.script_words.specs.declared.fault.Cause.TheVariants as causes
use Rattle.script_words.specs.declared.verbs.Verb.{Verb}
use Rattle.script_words.specs.declared.verbs.FirstWord.TheVariants as firsts
use Rattle.script_words.specs.Reading.{◌>>=◌}
use Rattle.script_words.specs.Spelling.{joined}
use Rattle.script_words.specs.Table.{word_of_table}
use Rattle.script_words.specs.Words.{cut, is_shown}
use Rattle.script_words.proofs.Results.{bind_ok, if_ok}
use Rattle.script_words.proofs.WordLaws.{cut_found}
use Rattle.script_reader.specs.declared.progress.Item.{Item}
use Rattle.script_reader.specs.declared.progress.Progress.{Progress}
use Rattle.script_reader.specs.Lines.{known, verb_at, item_at}
use Rattle.script_reader.specs.Scripts.{is_placed, entered, said}
use Rattle.script_reader.specs.Faults.{accepted}
use Rattle.script_reader.specs.Spelling.{SpellsItem}
use Rattle.script_reader.specs.Worded.{begun_at, worded}
use Rattle.script_reader.proofs.LineLaws.{known_found, item_found}
use Rattle.script_reader.proofs.ScriptLines.{said_again}

worded_found : (p : Progress) (line : List ℕ) (q : Progress) → worded p line ≡ Ok q → (item : Item) × SpellsItem line item × (accepted p item ≡ Ok q)
unfolding worded begun_at
worded_found p line q e =
    let first = known (word_of_table (cut 32 line).0) (cut 32 line).1 in
    let a = bind_ok first (λ verb. cond (is_placed p verb.0) (item_at verb.0 verb.1 >>= λ item. entered p item) (Err causes.Misplaced)) q e in
    let b = if_ok (is_placed p a.0.0) causes.Misplaced (item_at a.0.0 a.0.1 >>= λ item. entered p item) q a.2 in
    let c = bind_ok (item_at a.0.0 a.0.1) (λ item. entered p item) q b.1 in
    let f = item_found a.0.0 a.0.1 c.0 c.1 in
    let k = known_found (word_of_table (cut 32 line).0) (cut 32 line).1 a.0 a.1 in
    let may : Verb → Result Progress Cause = λ v. cond (is_placed p v) (entered p c.0) (Err causes.Misplaced) in (
      c.0,
      record {
        word = (cut 32 line).0;
        rest = a.0.1;
        words = cut_found line ∙ ap (joined (cut 32 line).0) k.1;
        built = k.0 ∙ ap firsts.Built (sym f.0);
        says = f.1;
      },
      ap may f.0 ∙ ap (λ (t : Bool). cond t (entered p c.0) (Err causes.Misplaced)) b.0 ∙ c.2,
    )

pub worded_is_said : (p : Progress) (line : List ℕ) (q : Progress) → worded p line ≡ Ok q → said p line ≡ Ok q
worded_is_said p line q e = let f = worded_found p line q e in said_again p line f.0 f.1 ∙ f.2

pub fault_is_said : (p : Progress) (line : List ℕ) (cause : Cause) → worded p line ≡ Err cause → list_all is_shown line ≡ true → said p line ≡ Err cause
unfolding said verb_at worded begun_at
fault_is_said p line cause e shown = rw (shown) e

pub byte_is_said : (p : Progress) (line : List ℕ) → list_all is_shown line ≡ false → said p line ≡ Err causes.Byte
unfolding said verb_at
byte_is_said p line shown = rw (shown) refl
