-- Each cause comes where its line has it.
use Rattle.std.proofs.Common.{◌≡◌, ℕ, ◌≤◌, false, ltb, List, [], ◌∷◌, length, Option, refl, ap, ◌∙◌, arith}
use Rattle.std.proofs.lemmas.Bool.{ne_eqb}
use Rattle.std.proofs.lemmas.Bool.Decides.{nat_tests}
use Rattle.script_words.specs.Words.{cut}
use Rattle.script_words.specs.Table.{word_of_table}
use Rattle.script_reader.specs.Lines.{known, verb_at}
use Rattle.script_reader.specs.Scripts.{said, step, chosen, entered}
use Rattle.script_words.specs.declared.verbs.Setting.TheVariants as settings
use Rattle.script_reader.specs.declared.progress.Item.TheVariants as items
use Rattle.script_reader.specs.CauseLines.{HasNoSpace, Begins, BytesAreTold, CommandsAreTold, UnbuiltAreTold, MisplacedAreTold, OptionsAreTold, DuplicatesAreTold, SessionsAreCounted, CommandsAreCounted}
use Rattle.script_words.proofs.WordLaws.{IsFree, cut_again}
use Rattle.script_reader.proofs.ScriptLines.{said_step}

free : (word : List ℕ) → HasNoSpace word → IsFree word
free [] h = tt
free (c ∷ cs) h = (ne_eqb c 32 h.0, free cs h.1)

begun : (line word : List ℕ) (rest : Option (List ℕ)) → Begins line word rest → verb_at line ≡ known (word_of_table word) rest
unfolding verb_at
begun line word rest h =
    let parts : cut 32 line ≡ (word, rest) = ap (cut 32) h.words ∙ cut_again word rest (free word h.first) in
    rw (h.shown, parts) refl

pub bytes_told : BytesAreTold
unfolding step said verb_at
bytes_told p line says shown = rw (says, shown) refl

pub commands_told : CommandsAreTold
unfolding step said
commands_told p line word rest h unknown = rw (h.said, begun line word rest h, unknown) refl

pub unbuilt_told : UnbuiltAreTold
unfolding step said
unbuilt_told p line word rest h unbuilt = rw (h.said, begun line word rest h, unbuilt) refl

pub misplaced_told : MisplacedAreTold
unfolding step said
misplaced_told p line word rest verb h built placed = rw (h.said, begun line word rest h, built, placed) refl

pub options_told : OptionsAreTold
unfolding entered chosen
options_told p line (settings.Pool m) n h fresh twice = said_step p line (items.Set (settings.Pool m)) h ∙ rw (fresh, twice) refl
options_told p line (settings.Passes m) n h fresh twice = said_step p line (items.Set (settings.Passes m)) h ∙ rw (fresh, twice) refl
options_told p line (settings.Stride m) n h fresh twice = said_step p line (items.Set (settings.Stride m)) h ∙ rw (fresh, twice) refl

pub duplicates_told : DuplicatesAreTold
unfolding entered
duplicates_told p line name h between twice = said_step p line (items.Begin name) h ∙ rw (between, twice) refl

full : (n most : ℕ) → most ≤ n → ltb n most ≡ false
full n most le = grind (arith, nat_tests)

pub sessions_counted : SessionsAreCounted
unfolding entered
sessions_counted p line name h between fresh many = said_step p line (items.Begin name) h ∙ rw (between, fresh, full (length p.done) 16 many) refl

pub commands_counted : CommandsAreCounted
unfolding entered
commands_counted p line command session h inside many = said_step p line (items.Do command) h ∙ rw (inside, full p.commands 16384 many) refl
