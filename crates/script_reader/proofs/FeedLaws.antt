-- Bytes make the same lines, however they are cut into pieces.
use Rattle.std.proofs.Common.{◌≡◌, ◌≢◌, ℕ, suc, ◌+◌, ◌<◌, ◌≤◌, Bool, true, false, cond, eqb, ◌-◌, List, [], ◌∷◌, ◌++◌, length, take, drop, Option, Some, None, Result, Ok, Err, refl, sym, ap, ◌∙◌, subst, inl, inr, arith, append_assoc, length-append}
use Rattle.std.specs.Prelude.{◌⊎◌}
use Rattle.std.proofs.lemmas.Bool.{eqb-true, eqb-false, ne_eqb}
use Rattle.std.proofs.lemmas.List.{append-nil}
use Rattle.memchr.specs.Find.{IsFirstByte, is_byte}
use Rattle.script_words.specs.Words.{cut}
use Rattle.script_words.proofs.Searches.{cut_nowhere, cut_first}
use Rattle.script_words.specs.declared.fault.Cause.{Cause}
use Rattle.script_words.specs.declared.fault.Cause.TheVariants as causes
use Rattle.plain_cord.specs.declared.script.Session.{Session}
use Rattle.plain_cord.specs.declared.script.Script.{Script}
use Rattle.script_reader.specs.declared.fault.ScriptError.{ScriptError}
use Rattle.script_reader.specs.declared.progress.Progress.{Progress}
use Rattle.script_reader.specs.declared.fault.ReadRefused.{ReadRefused}
use Rattle.script_reader.specs.declared.fault.ReadRefused.TheVariants as refusals
use Rattle.script_reader.specs.ScriptReading.{Reads}
use Rattle.script_reader.specs.declared.known.Known.{Known}
use Rattle.script_reader.specs.declared.known.Known.TheVariants.{Going, Faulty, Wanting}
use Rattle.script_reader.specs.Scripts.{lines_of, lines_from, step, start, script_of, is_header_line, headed, located, read_of}
use Rattle.script_reader.specs.ScriptSpelling.{HasNoNewline}
use Rattle.script_reader.specs.Faults.{IsFirstFault}
use Rattle.script_reader.specs.Feeds.{known_after, known_header, line_known, number_in, IsKnown, nothing_known, Fed, fed_byte, fed_bytes, nothing_fed, ended, last_known}
use Rattle.script_reader.specs.Fed.{IsRest, newlines, EndsLine, Keeps}
use Rattle.script_reader.proofs.ScriptLines.{ended_line, last_line, lines_of_none}
use Rattle.script_reader.proofs.FirstFault.{fault_found, fault_again}

abbrev pub fed : Known → List ℕ → Fed
fed known rest = record { known = known; rest = rest }

abbrev at : ℕ → Cause → ScriptError
at n c = record { line = n; cause = c }

-- ---- pieces

pub fed_append : (f : Fed) (xs ys : List ℕ) → fed_bytes f (xs ++ ys) ≡ fed_bytes (fed_bytes f xs) ys
unfolding fed_bytes
fed_append f [] ys = refl
fed_append f (x ∷ xs) ys = fed_append (fed_byte f x) xs ys

byte_kept : (k : Known) (r : List ℕ) (b : ℕ) → b ≢ 10 → fed_byte (fed k r) b ≡ fed k (r ++ b ∷ [])
byte_kept k r b other = ap (λ (t : Bool). cond t (fed (line_known k r) []) (fed k (r ++ b ∷ []))) (ne_eqb b 10 other)

-- bytes without a newline are kept
pub fed_kept : (k : Known) (r bytes : List ℕ) → HasNoNewline bytes → fed_bytes (fed k r) bytes ≡ fed k (r ++ bytes)
unfolding fed_bytes
fed_kept k r [] h = ap (fed k) (sym (append-nil r))
fed_kept k r (b ∷ bs) h = ap (λ (f : Fed). fed_bytes f bs) (byte_kept k r b h.0) ∙ fed_kept k (r ++ b ∷ []) bs h.1 ∙ ap (fed k) (append_assoc r (b ∷ []) bs)

ended_byte : (k : Known) (r after : List ℕ) → fed_bytes (fed k r) (10 ∷ after) ≡ fed_bytes (fed (line_known k r) []) after
unfolding fed_bytes
ended_byte k r after = refl

-- a newline ends the line that the rest and the bytes before it are
pub fed_line : (k : Known) (r line after : List ℕ) → HasNoNewline line → fed_bytes (fed k r) (line ++ 10 ∷ after) ≡ fed_bytes (fed (line_known k (r ++ line)) []) after
fed_line k r line after h = fed_append (fed k r) line (10 ∷ after) ∙ ap (λ (f : Fed). fed_bytes f (10 ∷ after)) (fed_kept k r line h) ∙ ended_byte k (r ++ line) after

-- ---- lines

abbrev lines_known : Known → List (List ℕ) → Known
lines_known k [] = k
lines_known k (line ∷ lines) = lines_known (line_known k line) lines

faulty_lines : (e : ScriptError) (lines : List (List ℕ)) → ended (lines_known (Faulty e) lines) ≡ Err e
unfolding line_known
faulty_lines e [] = refl
faulty_lines e (line ∷ lines) = faulty_lines e lines

behind_header : (n : ℕ) → 2 ≤ n → eqb n 1 ≡ false
behind_header n le = ne_eqb n 1 (λ same. omega arith)

going_lines : (lines : List (List ℕ)) (n : ℕ) (p : Progress) → 2 ≤ n → ended (lines_known (Going n p) lines) ≡ lines_from n p lines
unfolding lines_from line_known
going_lines [] n p le = rw (behind_header n le) refl
going_lines (line ∷ lines) n p le =
    ap (λ (t : Bool). ended (lines_known (cond t (known_header line p) (known_after n (step p line))) lines)) (behind_header n le)
    ∙ (elim (step p line) as (λ r. ended (lines_known (known_after n r) lines) ≡ located n r (λ q. lines_from (n + 1) q lines)) [
      | Ok q ↦ going_lines lines (n + 1) q (omega arith)
      | Err c ↦ faulty_lines (at n c) lines
    ])

all_lines : (lines : List (List ℕ)) → ended (lines_known nothing_known lines) ≡ headed lines
unfolding headed line_known
all_lines [] = refl
all_lines (line ∷ lines) =
    elim (is_header_line line) as (λ t. ended (lines_known (cond t (Going 2 start) (Faulty (at 1 causes.Header))) lines) ≡ cond t (lines_from 2 start lines) (Err (at 1 causes.Header))) [
      | true ↦ going_lines lines 2 start (omega arith)
      | false ↦ faulty_lines (at 1 causes.Header) lines
    ]

-- what is read at the end
abbrev pub end_of : Fed → Result Script ScriptError
end_of f = ended (last_known f.known f.rest)

no_newline_push : (r : List ℕ) (b : ℕ) → HasNoNewline r → b ≢ 10 → HasNoNewline (r ++ b ∷ [])
no_newline_push [] b h other = (other, tt)
no_newline_push (c ∷ cs) b h other = (h.0, no_newline_push cs b h.1 other)

fed_end : (k : Known) (r : List ℕ) → HasNoNewline r → end_of (fed k r) ≡ ended (lines_known k (lines_of (r ++ [])))
fed_end k [] h = ap (λ (ls : List (List ℕ)). ended (lines_known k ls)) (sym lines_of_none)
fed_end k (c ∷ cs) h = ap (λ (ls : List (List ℕ)). ended (lines_known k ls)) (sym (ap lines_of (append-nil (c ∷ cs)) ∙ last_line c cs h))

fed_lines : (bytes : List ℕ) (k : Known) (r : List ℕ) → HasNoNewline r → end_of (fed_bytes (fed k r) bytes) ≡ ended (lines_known k (lines_of (r ++ bytes)))
unfolding fed_bytes
fed_lines [] k r h = fed_end k r h
fed_lines (b ∷ bs) k r h = by_test (λ j q free. fed_lines bs j q free) (eqb b 10) refl
  where
    by_test : ((j : Known) (q : List ℕ) → HasNoNewline q → end_of (fed_bytes (fed j q) bs) ≡ ended (lines_known j (lines_of (q ++ bs)))) → (t : Bool) → eqb b 10 ≡ t → end_of (fed_bytes (cond t (fed (line_known k r) []) (fed k (r ++ b ∷ []))) bs) ≡ ended (lines_known k (lines_of (r ++ b ∷ bs)))
    by_test more true is =
        more (line_known k r) [] tt
        ∙ ap (λ (ls : List (List ℕ)). ended (lines_known k ls)) (sym (ended_line r bs h))
        ∙ ap (λ (c : ℕ). ended (lines_known k (lines_of (r ++ c ∷ bs)))) (sym (eqb-true b 10 is))
    by_test more false is =
        more k (r ++ b ∷ []) (no_newline_push r b h (eqb-false b 10 is))
        ∙ ap (λ (l : List ℕ). ended (lines_known k (lines_of l))) (append_assoc r (b ∷ []) bs)

pub read_fed : (bytes : List ℕ) → end_of (fed_bytes nothing_fed bytes) ≡ read_of bytes
read_fed bytes = fed_lines bytes nothing_known [] tt ∙ all_lines (lines_of bytes)

-- ---- the rest

abbrev Rests : List ℕ → List ℕ → Type 0
Rests whole rest = HasNoNewline rest × ((whole ≡ rest) ⊎ ((front : List ℕ) × (whole ≡ front ++ 10 ∷ rest)))

behind_line : (r bs rest : List ℕ) → Rests bs rest → Rests (r ++ 10 ∷ bs) rest
behind_line r bs rest h = (h.0, either h.1)
  where
    either : (bs ≡ rest) ⊎ ((front : List ℕ) × (bs ≡ front ++ 10 ∷ rest)) → (r ++ 10 ∷ bs ≡ rest) ⊎ ((front : List ℕ) × (r ++ 10 ∷ bs ≡ front ++ 10 ∷ rest))
    either (inl same) = inr (r, ap (λ (l : List ℕ). r ++ 10 ∷ l) same)
    either (inr parts) = inr (r ++ 10 ∷ parts.0, ap (λ (l : List ℕ). r ++ 10 ∷ l) parts.1 ∙ sym (append_assoc r (10 ∷ parts.0) (10 ∷ rest)))

fed_rest : (bytes : List ℕ) (k : Known) (r : List ℕ) → HasNoNewline r → Rests (r ++ bytes) (fed_bytes (fed k r) bytes).rest
unfolding fed_bytes
fed_rest [] k r h = (h, inl (append-nil r))
fed_rest (b ∷ bs) k r h = by_test (λ j q free. fed_rest bs j q free) (eqb b 10) refl
  where
    by_test : ((j : Known) (q : List ℕ) → HasNoNewline q → Rests (q ++ bs) (fed_bytes (fed j q) bs).rest) → (t : Bool) → eqb b 10 ≡ t → Rests (r ++ b ∷ bs) (fed_bytes (cond t (fed (line_known k r) []) (fed k (r ++ b ∷ []))) bs).rest
    by_test more true is = subst (λ (c : ℕ). Rests (r ++ c ∷ bs) (fed_bytes (fed (line_known k r) []) bs).rest) (sym (eqb-true b 10 is)) (behind_line r bs (fed_bytes (fed (line_known k r) []) bs).rest (more (line_known k r) [] tt))
    by_test more false is = subst (λ (l : List ℕ). Rests l (fed_bytes (fed k (r ++ b ∷ [])) bs).rest) (append_assoc r (b ∷ []) bs) (more k (r ++ b ∷ []) (no_newline_push r b h (eqb-false b 10 is)))

pub rest_is : (bytes : List ℕ) (f : Fed) → f ≡ fed_bytes nothing_fed bytes → IsRest bytes f.rest
rest_is bytes f is = subst (λ (g : Fed). IsRest bytes g.rest) (sym is) (fed_rest bytes nothing_known [] tt)

-- ---- faults

faulty_stays : (bytes : List ℕ) (e : ScriptError) (r : List ℕ) → end_of (fed_bytes (fed (Faulty e) r) bytes) ≡ Err e
unfolding fed_bytes line_known
faulty_stays [] e [] = refl
faulty_stays [] e (c ∷ cs) = refl
faulty_stays (b ∷ bs) e r =
    elim (eqb b 10) as (λ t. end_of (fed_bytes (cond t (fed (Faulty e) []) (fed (Faulty e) (r ++ b ∷ []))) bs) ≡ Err e) [
      | true ↦ faulty_stays bs e []
      | false ↦ faulty_stays bs e (r ++ b ∷ [])
    ]

-- a fault of the lines that ended is the first one, whatever comes
pub fault_is : (bytes more : List ℕ) (f : Fed) (e : ScriptError) → f ≡ fed_bytes nothing_fed bytes → f.known ≡ Faulty e → IsFirstFault (bytes ++ more) e
fault_is bytes more f e is faulty = fault_found (bytes ++ more) e
    (sym (read_fed (bytes ++ more)) ∙ ap end_of (fed_append nothing_fed bytes more) ∙ ap (λ (g : Fed). end_of (fed_bytes g more)) (sym is)
    ∙ ap (λ (k : Known). end_of (fed_bytes (fed k f.rest) more)) faulty ∙ faulty_stays more e f.rest)

-- a fault that comes later isn't before line n
abbrev FromLine : ℕ → Known → Type 0
FromLine n (Going m p) = n ≤ m
FromLine n (Faulty e) = n ≤ e.line
FromLine n Wanting = ⊥

from_step : (n m : ℕ) (r : Result Progress Cause) → n ≤ m → FromLine n (known_after m r)
from_step n m (Ok q) le = omega arith
from_step n m (Err c) le = le

from_header : (n : ℕ) (t : Bool) (p : Progress) → n ≤ 1 → FromLine n (cond t (Going 2 p) (Faulty (at 1 causes.Header)))
from_header n true p le = omega arith
from_header n false p le = le

from_line : (n : ℕ) (k : Known) (line : List ℕ) → FromLine n k → FromLine n (line_known k line)
unfolding line_known
from_line n (Going m p) line le = by_test (eqb m 1) refl
  where
    by_test : (t : Bool) → eqb m 1 ≡ t → FromLine n (cond t (known_header line p) (known_after m (step p line)))
    by_test true is = from_header n (is_header_line line) p (let one = eqb-true m 1 is in omega arith)
    by_test false is = from_step n m (step p line) le
from_line n (Faulty e) line le = le
from_line n Wanting line le = le

from_bytes : (n : ℕ) (bytes : List ℕ) (k : Known) (r : List ℕ) → FromLine n k → FromLine n (fed_bytes (fed k r) bytes).known
unfolding fed_bytes
from_bytes n [] k r h = h
from_bytes n (b ∷ bs) k r h =
    elim (eqb b 10) as (λ t. FromLine n (fed_bytes (cond t (fed (line_known k r) []) (fed k (r ++ b ∷ []))) bs).known) [
      | true ↦ from_bytes n bs (line_known k r) [] (from_line n k r h)
      | false ↦ from_bytes n bs k (r ++ b ∷ []) h
    ]

from_last : (n : ℕ) (k : Known) (r : List ℕ) → FromLine n k → FromLine n (last_known k r)
from_last n k [] h = h
from_last n k (c ∷ cs) h = from_line n k (c ∷ cs) h

open_line : (n m : ℕ) (p : Progress) (o : Option Session) (e : ScriptError) → n ≤ m → script_of m p o ≡ Err e → n ≤ e.line
open_line n m p None e le is = absurd cc
open_line n m p (Some s) e le is = let same : at m causes.Unended ≡ e = cc in subst (λ (x : ScriptError). n ≤ x.line) same le

from_end : (n : ℕ) (k : Known) (e : ScriptError) → FromLine n k → ended k ≡ Err e → n ≤ e.line
from_end n (Going m p) e le is = by_test (eqb m 1) refl is
  where
    by_test : (t : Bool) → eqb m 1 ≡ t → cond t (Err (at 1 causes.Header)) (script_of m p p.current) ≡ Err e → n ≤ e.line
    by_test true one f = let same : at 1 causes.Header ≡ e = cc in let is_one = eqb-true m 1 one in subst (λ (x : ScriptError). n ≤ x.line) same (omega arith)
    by_test false one f = open_line n m p p.current e le f
from_end n (Faulty d) e le is = let same : d ≡ e = cc in subst (λ (x : ScriptError). n ≤ x.line) same le
from_end n Wanting e le is = absurd le

-- the number of the line to come
CountsTo : ℕ → Known → Type 0
CountsTo n (Going m p) = m ≡ n
CountsTo n (Faulty e) = Unit {0}
CountsTo n Wanting = Unit {0}

counts_step : (n : ℕ) (r : Result Progress Cause) → CountsTo (n + 1) (known_after n r)
unfolding CountsTo
counts_step n (Ok q) = refl
counts_step n (Err c) = tt

counts_header : (t : Bool) (p : Progress) → CountsTo 2 (cond t (Going 2 p) (Faulty (at 1 causes.Header)))
unfolding CountsTo
counts_header true p = refl
counts_header false p = tt

counts_line : (n : ℕ) (k : Known) (line : List ℕ) → CountsTo n k → CountsTo (n + 1) (line_known k line)
unfolding CountsTo line_known
counts_line n (Going m p) line same = subst (λ (j : ℕ). CountsTo (j + 1) (line_known (Going m p) line)) same (by_test (eqb m 1) refl)
  where
    by_test : (t : Bool) → eqb m 1 ≡ t → CountsTo (m + 1) (cond t (known_header line p) (known_after m (step p line)))
    by_test true is = subst (λ (j : ℕ). CountsTo j (known_header line p)) (let one = eqb-true m 1 is in let two : 2 ≡ m + 1 = omega arith in two) (counts_header (is_header_line line) p)
    by_test false is = counts_step m (step p line)
counts_line n (Faulty e) line same = tt
counts_line n Wanting line same = tt

counts_bytes : (bytes : List ℕ) (n : ℕ) (k : Known) (r : List ℕ) → CountsTo n k → CountsTo (n + newlines bytes) (fed_bytes (fed k r) bytes).known
unfolding fed_bytes
counts_bytes [] n k r h = subst (λ (j : ℕ). CountsTo j k) (let e : n ≡ n + 0 = omega arith in e) h
counts_bytes (b ∷ bs) n k r h =
    elim (eqb b 10) as (λ t. CountsTo (n + cond t (newlines bs + 1) (newlines bs)) (fed_bytes (cond t (fed (line_known k r) []) (fed k (r ++ b ∷ []))) bs).known) [
      | true ↦ subst (λ (j : ℕ). CountsTo j (fed_bytes (fed (line_known k r) []) bs).known) (let e : n + 1 + newlines bs ≡ n + (newlines bs + 1) = omega arith in e) (counts_bytes bs (n + 1) (line_known k r) [] (counts_line n k r h))
      | false ↦ counts_bytes bs n k (r ++ b ∷ []) h
    ]

-- where the lines that ended have no fault, each stands behind them
pub fault_comes : (bytes more : List ℕ) (f : Fed) (n : ℕ) (p : Progress) (e : ScriptError) → f ≡ fed_bytes nothing_fed bytes → f.known ≡ Going n p → IsFirstFault (bytes ++ more) e → newlines bytes < e.line
unfolding CountsTo
fault_comes bytes more f n p e is going fault =
    let read : end_of (fed_bytes (fed (Going n p) f.rest) more) ≡ Err e =
    ap (λ (k : Known). end_of (fed_bytes (fed k f.rest) more)) (sym going) ∙ ap (λ (g : Fed). end_of (fed_bytes g more)) is ∙ ap end_of (sym (fed_append nothing_fed bytes more)) ∙ read_fed (bytes ++ more) ∙ fault_again (bytes ++ more) e fault in
    let count : n ≡ 1 + newlines bytes = subst (λ (k : Known). CountsTo (1 + newlines bytes) k) (ap (λ (g : Fed). g.known) (sym is) ∙ going) (counts_bytes bytes 1 nothing_known [] refl) in
    let last = fed_bytes (fed (Going n p) f.rest) more in
    let from : n ≤ e.line = from_end n (last_known last.known last.rest) e (from_last n last.known last.rest (from_bytes n more (Going n p) f.rest (omega arith))) read in
    omega arith

-- ---- what a feed keeps

pub fed_none : (f : Fed) → fed_bytes f [] ≡ f
unfolding fed_bytes
fed_none f = refl

number_after : (n : ℕ) (r : Result Progress Cause) → number_in (known_after n r) ≤ n + 1
number_after n (Ok q) = omega arith
number_after n (Err c) = omega arith

number_header : (t : Bool) (p : Progress) → number_in (cond t (Going 2 p) (Faulty (at 1 causes.Header))) ≤ 2
number_header true p = omega arith
number_header false p = omega arith

-- a line counts one
pub number_line : (k : Known) (line : List ℕ) → number_in (line_known k line) ≤ number_in k + 1
unfolding line_known
number_line (Going m p) line = by_test (eqb m 1) refl
  where
    by_test : (t : Bool) → eqb m 1 ≡ t → number_in (cond t (known_header line p) (known_after m (step p line))) ≤ m + 1
    by_test true is = let one = eqb-true m 1 is in let few = number_header (is_header_line line) p in omega arith
    by_test false is = number_after m (step p line)
number_line (Faulty e) line = omega arith
number_line Wanting line = omega arith

pub known_number : (new known : Known) → IsKnown new known → number_in new ≤ number_in known
known_number (Going n p) known is = subst (λ (k : Known). n ≤ number_in k) is (let same : n ≤ n = omega arith in same)
known_number (Faulty e) known is = omega arith
known_number Wanting known is = omega arith

pub known_is : (new known : Known) → IsKnown new known → ¬ (new ≡ Wanting) → new ≡ known
known_is (Going n p) known is going = is
known_is (Faulty e) known is going = is
known_is Wanting known is going = absurd (going refl)

wanting_line : (line : List ℕ) → line_known Wanting line ≡ Wanting
unfolding line_known
wanting_line line = refl

wanting_is : (new : Known) → IsKnown new Wanting → new ≡ Wanting
wanting_is (Going n p) is = is
wanting_is (Faulty e) is = is
wanting_is Wanting is = refl

pub wanting_stays : (known new : Known) (line : List ℕ) → known ≡ Wanting → IsKnown new (line_known known line) → new ≡ Wanting
wanting_stays known new line wants is = wanting_is new (subst (IsKnown new) (ap (λ (k : Known). line_known k line) wants ∙ wanting_line line) is)

-- what is read where the rest is no line
pub read_closed : (bytes : List ℕ) (f : Fed) (r : Result Script ReadRefused) → f ≡ fed_bytes nothing_fed bytes → f.rest ≡ [] → Reads (λ s. s) r (ended f.known) → Reads (λ s. s) r (read_of bytes)
read_closed bytes f r is none reads = subst (λ x. Reads {X = Script} {Y = Script} (λ s. s) r x)
    (ap (λ (l : List ℕ). ended (last_known f.known l)) (sym none) ∙ ap end_of is ∙ read_fed bytes) reads

last_some : (k : Known) (rest : List ℕ) → ¬ (rest ≡ []) → last_known k rest ≡ line_known k rest
last_some k [] some = absurd (some refl)
last_some k (c ∷ cs) some = refl

-- and where it is the last one
pub read_last : (bytes : List ℕ) (f : Fed) (new : Known) (r : Result Script ReadRefused) → f ≡ fed_bytes nothing_fed bytes → ¬ (f.rest ≡ []) → IsKnown new (line_known f.known f.rest)
    → Reads (λ s. s) r (ended new) → (new ≡ Wanting → r ≡ Err refusals.Memory) → Reads (λ s. s) r (read_of bytes)
read_last bytes f new r is some known reads wants = by_new new known reads wants
  where
    by_new : (new : Known) → IsKnown new (line_known f.known f.rest) → Reads (λ s. s) r (ended new) → (new ≡ Wanting → r ≡ Err refusals.Memory) → Reads (λ s. s) r (read_of bytes)
    by_new (Going n p) known reads wants = subst (λ x. Reads {X = Script} {Y = Script} (λ s. s) r x) (ap ended (known ∙ sym (last_some f.known f.rest some)) ∙ ap end_of is ∙ read_fed bytes) reads
    by_new (Faulty e) known reads wants = subst (λ x. Reads {X = Script} {Y = Script} (λ s. s) r x) (ap ended (known ∙ sym (last_some f.known f.rest some)) ∙ ap end_of is ∙ read_fed bytes) reads
    by_new Wanting known reads wants = subst (λ (x : Result Script ReadRefused). Reads (λ s. s) x (read_of bytes)) (sym (wants refl)) tt

-- ---- a search for the newline

abbrev whole : List ℕ → Option (List ℕ) → List ℕ
whole line None = line
whole line (Some rest) = line ++ 10 ∷ rest

whole_cons : (b : ℕ) (line : List ℕ) (o : Option (List ℕ)) → b ∷ whole line o ≡ whole (b ∷ line) o
whole_cons b line None = refl
whole_cons b line (Some rest) = refl

cut_line : (bytes : List ℕ) → HasNoNewline (cut 10 bytes).0 × (bytes ≡ whole (cut 10 bytes).0 (cut 10 bytes).1)
cut_line [] = (tt, refl)
cut_line (b ∷ bs) = by_test (cut_line bs) (eqb b 10) refl
  where
    by_test : HasNoNewline (cut 10 bs).0 × (bs ≡ whole (cut 10 bs).0 (cut 10 bs).1) → (t : Bool) → eqb b 10 ≡ t → (let p : List ℕ × Option (List ℕ) = cond t ([], Some bs) (b ∷ (cut 10 bs).0, (cut 10 bs).1) in HasNoNewline p.0 × (b ∷ bs ≡ whole p.0 p.1))
    by_test more true is = (tt, ap (λ (c : ℕ). c ∷ bs) (eqb-true b 10 is))
    by_test more false is = ((eqb-false b 10 is, more.0), ap (λ (l : List ℕ). b ∷ l) more.1 ∙ whole_cons b (cut 10 bs).0 (cut 10 bs).1)

pub line_before : (bytes : List ℕ) (k : ℕ) → IsFirstByte (is_byte 10) bytes (Some k)
    → HasNoNewline (take k bytes) × (bytes ≡ take k bytes ++ 10 ∷ take (length bytes - (k + 1)) (drop (k + 1) bytes))
line_before bytes k h = subst (λ (p : List ℕ × Option (List ℕ)). HasNoNewline p.0 × (bytes ≡ whole p.0 p.1)) (sym (cut_first 10 bytes k h)) (cut_line bytes)

pub no_line : (bytes : List ℕ) → IsFirstByte (is_byte 10) bytes None → HasNoNewline bytes
no_line bytes h = (subst (λ (p : List ℕ × Option (List ℕ)). HasNoNewline p.0 × (bytes ≡ whole p.0 p.1)) (sym (cut_nowhere 10 bytes h)) (cut_line bytes)).0

-- a line that ended, and bytes that are kept
pub line_fed : (old new target : Fed) (bytes : List ℕ) (k : ℕ) → IsFirstByte (is_byte 10) bytes (Some k) → EndsLine old (take k bytes) new → fed_bytes old bytes ≡ target
    → fed_bytes new (take (length bytes - (k + 1)) (drop (k + 1) bytes)) ≡ target
line_fed old new target bytes k h ends same =
    let parts = line_before bytes k h in
    let after : List ℕ = take (length bytes - (k + 1)) (drop (k + 1) bytes) in
    ap (λ (f : Fed). fed_bytes f after) ends ∙ sym (fed_line old.known old.rest (take k bytes) after parts.0) ∙ ap (fed_bytes old) (sym parts.1) ∙ same

pub rest_fed : (old new target : Fed) (bytes : List ℕ) → IsFirstByte (is_byte 10) bytes None → Keeps old bytes new → fed_bytes old bytes ≡ target → new ≡ target
rest_fed old new target bytes h keeps same = keeps ∙ sym (fed_kept old.known old.rest bytes (no_line bytes h)) ∙ same

pub got_more : (old new : Fed) (bytes piece : List ℕ) → old ≡ fed_bytes nothing_fed bytes → new ≡ fed_bytes old piece → new ≡ fed_bytes nothing_fed (bytes ++ piece)
got_more old new bytes piece got same = same ∙ ap (λ (f : Fed). fed_bytes f piece) got ∙ sym (fed_append nothing_fed bytes piece)

pub line_counts : (bytes : List ℕ) (k : ℕ) → IsFirstByte (is_byte 10) bytes (Some k) → length bytes ≡ length (take k bytes) + suc (length (take (length bytes - (k + 1)) (drop (k + 1) bytes)))
line_counts bytes k h = ap length (line_before bytes k h).1 ∙ length-append (take k bytes) (10 ∷ take (length bytes - (k + 1)) (drop (k + 1) bytes))

pub nothing_there : (xs : List ℕ) → length xs ≡ 0 → xs ≡ []
nothing_there [] none = refl
nothing_there (x ∷ xs) none = absurd (omega arith)

pub something_there : (xs : List ℕ) → (length xs ≡ 0 → ⊥) → ¬ (xs ≡ [])
something_there xs some none = some (ap length none)
