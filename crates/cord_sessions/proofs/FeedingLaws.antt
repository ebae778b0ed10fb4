-- What the source gave before a call that failed was given too; a fault that was told; and a script that has no stride.
use Rattle.std.proofs.Common.{◌≡◌, ℕ, List, ◌++◌, Option, Result, Ok, Err, subst}
use Rattle.std.specs.Prelude.{IfOk, OnErr}
use Rattle.plain_cord.specs.declared.script.Script.{Script}
use Rattle.cord_port.specs.Texts.{Gave}
use Rattle.cord_port.proofs.Consuming.{gave_more}
use Rattle.script_words.specs.Causes.{word_of_cause}
use Rattle.script_reader.specs.declared.fault.ReadRefused.{ReadRefused}
use Rattle.script_reader.specs.declared.fault.ScriptError.{ScriptError}
use Rattle.script_reader.specs.Faults.{IsFirstFault}
use Rattle.script_reader.specs.ScriptSpelling.{Spells}
use Rattle.script_reader.proofs.StrideLaws.{spelled_free}
use Rattle.report_text.specs.Outputs.{refusal_line}
use Rattle.cord_sessions.specs.Endings.{Told}
use Rattle.cord_sessions.specs.Parts.{TellsFault}

pub lost_then : {A E : Type 0} (r : Result A E) (a b c : Option (List ℕ)) (k m n : ℕ) (xs ys : List ℕ) → Gave a b k m xs → Gave b c m n ys → OnErr r ((zs : List ℕ) × Gave a c k n zs)
lost_then (Ok x) a b c k m n xs ys p q = tt
lost_then (Err e) a b c k m n xs ys p q = (xs ++ ys, gave_more a b c k m n xs ys p q)

pub lost_more : {A E : Type 0} (r : Result A E) (a b c : Option (List ℕ)) (k m n : ℕ) (xs : List ℕ) → Gave a b k m xs → OnErr r ((ys : List ℕ) × Gave b c m n ys) → OnErr r ((zs : List ℕ) × Gave a c k n zs)
lost_more (Ok x) a b c k m n xs p q = tt
lost_more (Err e) a b c k m n xs p q = (xs ++ q.0, gave_more a b c k m n xs q.0 p q.1)

-- the line of the first fault was told
pub tells : (bytes : List ℕ) (a b : Option (List ℕ)) (f g : ℕ) (e : ScriptError) (line : ℕ) (word : List ℕ) → IsFirstFault bytes e
    → Told a b f g (refusal_line line word) → line ≡ e.line → word ≡ word_of_cause e.cause → TellsFault bytes a b f g
tells bytes a b f g e line word first told same named = record {
  fault = e;
  first = first;
  told = subst (λ (w : List ℕ). Told a b f g (refusal_line e.line w)) named (subst (λ (l : ℕ). Told a b f g (refusal_line l word)) same told);
}

-- a script that was read has no stride
pub is-free : (bytes : List ℕ) (r : Result Script ReadRefused) → IfOk r (λ s. Spells bytes s) → IfOk r (λ s. s.stride ≡ 0)
is-free bytes (Ok s) h = spelled_free bytes s h
is-free bytes (Err e) h = tt
