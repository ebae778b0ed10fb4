-- The three ways of a change that adds bytes.
use Rattle.std.proofs.Common.{◌≡◌, ◌≢◌, ℕ, ◌+◌, ◌*◌, ◌<◌, ◌≤◌, List, ◌++◌, zero, suc, ap, ◌∙◌, arith, length-append}
use Rattle.std.specs.Prelude.{length}
use Rattle.std.proofs.lemmas.Bool.Decides.{nat_tests}
use Rattle.std.proofs.Math.Nat.{mul-suc}
use Rattle.plain_cord.specs.declared.limits.TheConstants.{MOST_BYTES}
use Rattle.plain_cord.specs.declared.reply.Reply.TheVariants as replies
use Rattle.plain_cord.specs.declared.reply.NewMark.TheVariants as marks
use Rattle.plain_cord.specs.Texts.{repeated}
use Rattle.plain_cord.specs.States.{CordState, plain}
use Rattle.plain_cord.specs.Outcomes.{grown}
use Rattle.plain_session.specs.Edits.{Leaves}
use Rattle.std.specs.Prelude.{None}

pub length-repeated : (piece : List ℕ) (n : ℕ) → length (repeated piece n) ≡ length piece * n
length-repeated piece zero = grind arith
length-repeated piece (suc n) = length-append piece (repeated piece n) ∙ (ap (λ k. length piece + k) (length-repeated piece n) ∙ omega (arith, mul-suc (length piece) n))

-- the bytes are too many
pub grown-long : (cord : CordState) (bytes : List ℕ) (n : ℕ) → length bytes ≡ n → MOST_BYTES < n → Leaves (grown cord bytes) cord (replies.Length n)
grown-long cord bytes n long above = grind (arith, nat_tests)

-- no byte is added
pub grown-same : (cord : CordState) (bytes : List ℕ) → length bytes ≤ MOST_BYTES → length bytes ≡ length cord.bytes → Leaves (grown cord bytes) cord (replies.Done marks.Plain None)
grown-same cord bytes fits same = grind (arith, nat_tests)

-- some are
pub grown-more : (cord : CordState) (bytes : List ℕ) → length bytes ≤ MOST_BYTES → length bytes ≢ length cord.bytes → Leaves (grown cord bytes) (plain bytes) (replies.Done marks.Plain None)
grown-more cord bytes fits more = grind (arith, nat_tests)

-- how many bytes there are with the piece behind or in front
pub length-behind : (bytes piece : List ℕ) (n : ℕ) → length (bytes ++ repeated piece n) ≡ length bytes + length piece * n
length-behind bytes piece n = length-append bytes (repeated piece n) ∙ ap (λ k. length bytes + k) (length-repeated piece n)

pub length-in_front : (bytes piece : List ℕ) (n : ℕ) → length (repeated piece n ++ bytes) ≡ length bytes + length piece * n
length-in_front bytes piece n = length-append (repeated piece n) bytes ∙ (ap (λ k. k + length bytes) (length-repeated piece n) ∙ omega arith)
