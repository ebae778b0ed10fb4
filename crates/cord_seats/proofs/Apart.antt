-- Commands of a script, as those that do them on names ask for them.
use Rattle.std.proofs.Common.{◌≡◌, ◌∙◌, sym, ap, refl, ℕ, zero, suc, ◌+◌, ◌*◌, List, length, None, false, arith, length-append}
use Rattle.std.proofs.Math.Nat.{mul-suc}
use Rattle.plain_cord.specs.declared.script.Command.{Command}
use Rattle.plain_cord.specs.declared.script.Command.TheVariants as commands
use Rattle.plain_cord.specs.Outcomes.{asked_action}
use Rattle.plain_cord.specs.Texts.{repeated}
use Rattle.script_words.specs.Forms.{IsWithin}
use Rattle.cord_steps.specs.Answers.{Plain}
use Rattle.cord_steps.specs.Whole as steps
use Rattle.cord_commands.specs.Asked.{is_watch}

length-repeated : (piece : List ℕ) (n : ℕ) → length (repeated piece n) ≡ length piece * n
length-repeated piece zero = omega arith
length-repeated piece (suc n) = length-append piece (repeated piece n) ∙ (ap (λ k. length piece + k) (length-repeated piece n) ∙ sym (mul-suc-left (length piece) n))
  where
    mul-suc-left : (m k : ℕ) → m * suc k ≡ m + m * k
    mul-suc-left m k = let e = mul-suc m k in omega arith

pub within-steps : (command : Command) → IsWithin command → steps.IsWithin (Plain command)
within-steps (commands.Let a text) within = let long = length-repeated text.piece text.times in omega (arith, long, within.1)
within-steps (commands.Ext a text) within = let long = length-repeated text.piece text.times in (omega (arith, long, within.0), omega (arith, long, within.1))
within-steps _ within = tt

-- no command of a script that was read asks the profiler
pub unwatched : (command : Command) → IsWithin command → is_watch command ≡ false
unwatched commands.Snap within = absurd within
unwatched commands.Walk within = absurd within
unwatched commands.Unsnap within = absurd within
unwatched _ within = refl

pub apart : (command : Command) → ((a : List ℕ) (cell : ℕ) → command ≡ commands.Put a cell → ⊥) → ((cell : ℕ) (a : List ℕ) → command ≡ commands.Take cell a → ⊥)
    → ((cell : ℕ) (a : List ℕ) → command ≡ commands.Peek cell a → ⊥) → ((a : List ℕ) (cell : ℕ) → command ≡ commands.Swap a cell → ⊥) → asked_action command ≡ None
apart (commands.Put a cell) put take peek swap = absurd (put a cell refl)
apart (commands.Take cell a) put take peek swap = absurd (take cell a refl)
apart (commands.Peek cell a) put take peek swap = absurd (peek cell a refl)
apart (commands.Swap a cell) put take peek swap = absurd (swap a cell refl)
apart _ put take peek swap = refl
