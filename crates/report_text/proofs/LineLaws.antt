-- An answer's last line is one line, and no answer begins as a session's line or the history's does.
use Rattle.std.proofs.Common.{◌≡◌, ◌∙◌, sym, ap, ap₂, refl, ℕ, ◌+◌, ◌<◌, Bool, true, false, if◌then◌else◌, List, [], ◌∷◌, ◌++◌, length, get_or, arith, ◌==◌, ◌&&◌, ◌||◌, Option, Some, None, decimal, codes, append_assoc}
use Rattle.std.specs.List.{AllByRecursion}
use Rattle.std.proofs.lemmas.List.Elements.{recursion_from_All}
use Rattle.std.proofs.lemmas.Bool.Decides.{nat_tests}
use Rattle.plain_cord.specs.declared.reply.NewMark.{NewMark}
use Rattle.plain_cord.specs.declared.reply.NewMark.TheVariants.{Plain, Noted, Full}
use Rattle.plain_cord.specs.declared.reply.Reply.{Reply}
use Rattle.plain_cord.specs.declared.reply.Reply.TheVariants as replies
use Rattle.report_text.specs.Quotes.{quoted_bytes}
use Rattle.report_text.specs.Replies.{mark_text, gone_text, more_text, report_lines, reports_of, last_text, reply_text}
use Rattle.report_text.specs.Readable.{IsInLine, IsInLineReply}
use Rattle.report_text.proofs.Runs.{all_pass, all_pass-append, both-pass, run_split, is_digit, decimal-passes, decimal-first}
use Rattle.report_text.proofs.QuoteLaws.{in_line, quoted-in-line}
use Rattle.report_text.proofs.ReportLaws.{reports_split, lines-alike}
use Rattle.report_text.proofs.ReplyLaws.{shown-text, position-text, last-past-reports}

-- ---- no newline

digit-in-line : (d : ℕ) → d < 10 → in_line (48 + d) ≡ true
digit-in-line d below = grind (arith, nat_tests)

number-in-line : (n : ℕ) → all_pass in_line (decimal n) ≡ true
number-in-line n = decimal-passes in_line digit-in-line n

name-in-line : (name : List ℕ) → AllByRecursion IsInLine name → all_pass in_line name ≡ true
name-in-line [] p = refl
name-in-line (b ∷ name) p = both-pass (in_line b) (all_pass in_line name) (byte-in-line b p.0) (name-in-line name p.1)
  where
    byte-in-line : (b : ℕ) → IsInLine b → in_line b ≡ true
    byte-in-line b other = grind (arith, nat_tests)

gone-in-line : (gone : Option ℕ) → all_pass in_line (gone_text gone) ≡ true
gone-in-line None = refl
gone-in-line (Some n) = all_pass-append in_line (decimal n) (codes " gone") (number-in-line n) refl

mark-in-line : (new : NewMark) → all_pass in_line (mark_text new) ≡ true
mark-in-line Plain = refl
mark-in-line (Noted stamp update n) =
    let text : mark_text (Noted stamp update n) ≡ 32 ∷ 126 ∷ (decimal stamp ++ 46 ∷ (decimal update ++ 32 ∷ decimal n)) = simp append_assoc in
    ap (all_pass in_line) text ∙ all_pass-append in_line (decimal stamp) (46 ∷ (decimal update ++ 32 ∷ decimal n)) (number-in-line stamp)
    (all_pass-append in_line (decimal update) (32 ∷ decimal n) (number-in-line update) (number-in-line n))
mark-in-line Full = refl

more-in-line : (first : Bool) (n : ℕ) → all_pass in_line (if first then [] else codes " +" ++ decimal n) ≡ true
more-in-line true n = refl
more-in-line false n = number-in-line n

pub last-in-line : (reply : Reply) → IsInLineReply reply → all_pass in_line (last_text reply) ≡ true
last-in-line (replies.Done new gone) p = all_pass-append in_line (mark_text new) (gone_text gone) (mark-in-line new) (gone-in-line gone)
last-in-line (replies.Number n) p = number-in-line n
last-in-line (replies.Sum n) p = number-in-line n
last-in-line replies.None p = refl
last-in-line (replies.Shown text more) p =
    ap (all_pass in_line) (shown-text text more) ∙ all_pass-append in_line (quoted_bytes text) (34 ∷ more_text more) (quoted-in-line text) (more-in-line (more == 0) more)
last-in-line replies.Less p = refl
last-in-line replies.Equal p = refl
last-in-line replies.Greater p = refl
last-in-line replies.Yes p = refl
last-in-line replies.No p = refl
last-in-line (replies.Unset name) p = name-in-line name (recursion_from_All IsInLine name p)
last-in-line replies.NoBytes p = refl
last-in-line (replies.Position asked n) p = ap (all_pass in_line) (position-text asked n) ∙ all_pass-append in_line (decimal asked) (32 ∷ decimal n) (number-in-line asked) (number-in-line n)
last-in-line (replies.Length asked) p = number-in-line asked
last-in-line (replies.Empty cell) p = number-in-line cell
last-in-line replies.Releasers p = refl
last-in-line replies.Height p = refl
last-in-line replies.HasSnapshot p = refl
last-in-line replies.NoSnapshot p = refl
last-in-line (replies.Walked reports) p = number-in-line (length reports)
last-in-line (replies.Ended deleted) p = number-in-line deleted
last-in-line (replies.Cords found) p = number-in-line found
last-in-line (replies.Pool size) p = number-in-line size

-- answers up to what is behind their lines
pub reply_split : (x y : Reply) (rest others : List ℕ) → IsInLineReply x → IsInLineReply y → reply_text x ++ 10 ∷ rest ≡ reply_text y ++ 10 ∷ others → (reply_text x ≡ reply_text y) × (rest ≡ others)
reply_split x y rest others p q e =
    let texts = sym (append_assoc (report_lines (reports_of x)) (last_text x) (10 ∷ rest)) ∙ (e ∙ append_assoc (report_lines (reports_of y)) (last_text y) (10 ∷ others)) in
    let split = reports_split (reports_of x) (reports_of y) (last_text x ++ 10 ∷ rest) (last_text y ++ 10 ∷ others) (last-past-reports x (10 ∷ rest)) (last-past-reports y (10 ∷ others)) texts in
    let line = run_split in_line (last_text x) (last_text y) (10 ∷ rest) (10 ∷ others) (last-in-line x p) (last-in-line y q) refl refl split.1 in
    (ap₂ (λ lines text. lines ++ text) (lines-alike (reports_of x) (reports_of y) split.0) line.0, behind line.1)
  where
    behind : {xs ys : List ℕ} → 10 ∷ xs ≡ 10 ∷ ys → xs ≡ ys
    behind e = cc

-- ---- no end

-- at the end of the text, before a session's line, or before the history's
abbrev pub at_end : List ℕ → Bool
at_end text = get_or text 0 115 == 104 || (get_or text 0 115 == 115 && get_or text 1 101 == 101)

digit-no-end : (b c : ℕ) → is_digit b ≡ true → (b == 104 || (b == 115 && c == 101)) ≡ false
digit-no-end b c digit = grind (arith, nat_tests)

pub reply-no-end : (reply : Reply) (rest : List ℕ) → at_end (reply_text reply ++ rest) ≡ false
reply-no-end (replies.Done new lost) rest = refl
reply-no-end (replies.Number n) rest = digit-no-end (get_or (decimal n ++ rest) 0 115) (get_or (decimal n ++ rest) 1 101) (decimal-first n rest 115)
reply-no-end (replies.Sum n) rest = refl
reply-no-end replies.None rest = refl
reply-no-end (replies.Shown text more) rest = refl
reply-no-end replies.Less rest = refl
reply-no-end replies.Equal rest = refl
reply-no-end replies.Greater rest = refl
reply-no-end replies.Yes rest = refl
reply-no-end replies.No rest = refl
reply-no-end (replies.Unset name) rest = refl
reply-no-end replies.NoBytes rest = refl
reply-no-end (replies.Position asked n) rest = refl
reply-no-end (replies.Length asked) rest = refl
reply-no-end (replies.Empty cell) rest = refl
reply-no-end replies.Releasers rest = refl
reply-no-end replies.Height rest = refl
reply-no-end replies.HasSnapshot rest = refl
reply-no-end replies.NoSnapshot rest = refl
reply-no-end (replies.Walked []) rest = refl
reply-no-end (replies.Walked (report ∷ reports)) rest = refl
reply-no-end (replies.Ended deleted) rest = refl
reply-no-end (replies.Cords found) rest = refl
reply-no-end (replies.Pool size) rest = refl
