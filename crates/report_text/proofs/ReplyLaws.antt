-- Answers are known by their text.
use Rattle.std.proofs.Common.{◌≡◌, ◌∙◌, sym, ap, refl, ℕ, Bool, true, false, if◌then◌else◌, List, [], ◌∷◌, ◌++◌, map, get_or, arith, nat_eq, ◌==◌, Option, Some, None, IfSome, decimal, codes, append_assoc, append-nil, eqb-true}
use Rattle.std.proofs.lemmas.List.{append_cancel_left}
use Rattle.std.specs.List.{AllByRecursion}
use Rattle.std.proofs.lemmas.Fmt.{decimal_injective}
use Rattle.std.proofs.lemmas.List.Elements.{recursion_from_All}
use Rattle.std.proofs.lemmas.Bool.Decides.{nat_tests}
use Rattle.plain_cord.specs.declared.reply.NewMark.{NewMark}
use Rattle.plain_cord.specs.declared.reply.NewMark.TheVariants.{Plain, Noted, Full}
use Rattle.plain_cord.specs.declared.reply.Reply.{Reply}
use Rattle.plain_cord.specs.declared.reply.Reply.TheVariants as replies
use Rattle.report_text.specs.Quotes.{quoted_bytes}
use Rattle.report_text.specs.Reports.{report_text}
use Rattle.report_text.specs.Replies.{mark_text, gone_text, more_text, report_lines, reports_of, last_text, reply_text}
use Rattle.report_text.specs.Readable.{IsNumber, IsByte, IsReadableMark, IsReadableReport, IsReadableReply}
use Rattle.report_text.proofs.Runs.{stops, is_digit, decimal_split, decimal-begins, decimal-first}
use Rattle.report_text.proofs.QuoteLaws.{quoted_split}
use Rattle.report_text.proofs.ReportLaws.{is_past_reports, reports_split, reports_injective}

-- behind two bytes that are the same
behind-two : {a b : ℕ} {xs ys : List ℕ} → a ∷ b ∷ xs ≡ a ∷ b ∷ ys → xs ≡ ys
behind-two e = cc

behind-one : {a : ℕ} {xs ys : List ℕ} → a ∷ xs ≡ a ∷ ys → xs ≡ ys
behind-one e = cc

-- no mark, and one that isn't
gone_injective : (gone lost : Option ℕ) → IfSome gone IsNumber → IfSome lost IsNumber → gone_text gone ≡ gone_text lost → gone ≡ lost
gone_injective None None g l e = refl
gone_injective None (Some n) g l e = cc
gone_injective (Some m) None g l e = cc
gone_injective (Some m) (Some n) g l e = ap (λ k. Some k) (decimal_split m n (codes " gone") (codes " gone") g l refl refl (behind-two e)).0

noted-text : (stamp update n : ℕ) (rest : List ℕ) → mark_text (Noted stamp update n) ++ rest ≡ 32 ∷ 126 ∷ (decimal stamp ++ 46 ∷ (decimal update ++ 32 ∷ (decimal n ++ rest)))
noted-text stamp update n rest = simp append_assoc

-- what stands behind a number is no digit
gone-stops : (gone : Option ℕ) → stops is_digit (gone_text gone) ≡ true
gone-stops None = refl
gone-stops (Some n) = refl

space-or-point : {xs ys : List ℕ} → 32 ∷ xs ≡ 46 ∷ ys → ⊥
space-or-point e = cc

-- the mark of a stamp that is gone, as a new note
gone-no-note : (gone : Option ℕ) (stamp : ℕ) (rest : List ℕ) → IfSome gone IsNumber → IsNumber stamp → gone_text gone ≡ 32 ∷ 126 ∷ (decimal stamp ++ 46 ∷ rest) → ⊥
gone-no-note None stamp rest g s e = cc
gone-no-note (Some n) stamp rest g s e = space-or-point (decimal_split n stamp (codes " gone") (46 ∷ rest) g s refl refl (behind-two e)).1

gone-not-full : (gone lost : Option ℕ) → IfSome gone IsNumber → gone_text gone ≡ codes " ~full" ++ gone_text lost → ⊥
gone-not-full None lost g e = cc
gone-not-full (Some n) lost g e = decimal-begins n (codes " gone") (codes "full" ++ gone_text lost) (behind-two e) refl

note-not-full : (stamp : ℕ) (rest : List ℕ) (lost : Option ℕ) → IsNumber stamp → 32 ∷ 126 ∷ (decimal stamp ++ rest) ≡ codes " ~full" ++ gone_text lost → ⊥
note-not-full stamp rest lost s e = decimal-begins stamp rest (codes "full" ++ gone_text lost) (behind-two e) refl

marks_injective : (new other : NewMark) (gone lost : Option ℕ) → IsReadableMark new → IsReadableMark other → IfSome gone IsNumber → IfSome lost IsNumber → mark_text new ++ gone_text gone ≡ mark_text other ++ gone_text lost → (new ≡ other) × (gone ≡ lost)
marks_injective Plain Plain gone lost n o g l e = (refl, gone_injective gone lost g l e)
marks_injective Plain (Noted s u k) gone lost n o g l e = absurd (gone-no-note gone s (decimal u ++ 32 ∷ (decimal k ++ gone_text lost)) g o.0 (e ∙ noted-text s u k (gone_text lost)))
marks_injective Plain Full gone lost n o g l e = absurd (gone-not-full gone lost g e)
marks_injective (Noted s u k) Plain gone lost n o g l e = absurd (gone-no-note lost s (decimal u ++ 32 ∷ (decimal k ++ gone_text gone)) l n.0 (sym e ∙ noted-text s u k (gone_text gone)))
marks_injective (Noted s u k) (Noted t v m) gone lost n o g l e =
    let texts = behind-two (sym (noted-text s u k (gone_text gone)) ∙ (e ∙ noted-text t v m (gone_text lost))) in
    let stamps = decimal_split s t (46 ∷ (decimal u ++ 32 ∷ (decimal k ++ gone_text gone))) (46 ∷ (decimal v ++ 32 ∷ (decimal m ++ gone_text lost))) n.0 o.0 refl refl texts in
    let updates = decimal_split u v (32 ∷ (decimal k ++ gone_text gone)) (32 ∷ (decimal m ++ gone_text lost)) n.1 o.1 refl refl (behind-one stamps.1) in
    let lengths = decimal_split k m (gone_text gone) (gone_text lost) n.2 o.2 (gone-stops gone) (gone-stops lost) (behind-one updates.1) in
    let first : s ≡ t = stamps.0 in
    let second : u ≡ v = updates.0 in
    let third : k ≡ m = lengths.0 in
    (cc, gone_injective gone lost g l lengths.1)
marks_injective (Noted s u k) Full gone lost n o g l e = absurd (note-not-full s (46 ∷ (decimal u ++ 32 ∷ (decimal k ++ gone_text gone))) lost n.0 (sym (noted-text s u k (gone_text gone)) ∙ e))
marks_injective Full Plain gone lost n o g l e = absurd (gone-not-full lost gone l (sym e))
marks_injective Full (Noted s u k) gone lost n o g l e = absurd (note-not-full s (46 ∷ (decimal u ++ 32 ∷ (decimal k ++ gone_text lost))) gone o.0 (sym (noted-text s u k (gone_text lost)) ∙ sym e))
marks_injective Full Full gone lost n o g l e = (refl, gone_injective gone lost g l (append_cancel_left (codes " ~full") (gone_text gone) (gone_text lost) e))

-- how many more bytes there are
more-by : (first second : Bool) (m n : ℕ) → IsNumber m → IsNumber n → m == 0 ≡ first → n == 0 ≡ second → (if first then [] else codes " +" ++ decimal m) ≡ (if second then [] else codes " +" ++ decimal n) → m ≡ n
more-by true true m n p q f s e = eqb-true m 0 f ∙ sym (eqb-true n 0 s)
more-by true false m n p q f s e = cc
more-by false true m n p q f s e = cc
more-by false false m n p q f s e = decimal_injective m n p q (behind-two e)

more_injective : (m n : ℕ) → IsNumber m → IsNumber n → more_text m ≡ more_text n → m ≡ n
more_injective m n p q e = more-by (m == 0) (n == 0) m n p q refl refl e

pub shown-text : (text : List ℕ) (more : ℕ) → last_text (replies.Shown text more) ≡ 34 ∷ (quoted_bytes text ++ 34 ∷ more_text more)
shown-text text more = ap (λ rest. 34 ∷ rest) (append_assoc (quoted_bytes text) (34 ∷ []) (more_text more))

pub position-text : (asked n : ℕ) → last_text (replies.Position asked n) ≡ codes "! position " ++ (decimal asked ++ 32 ∷ decimal n)
position-text asked n = ap (λ rest. codes "! position " ++ rest) (append_assoc (decimal asked) (32 ∷ []) (decimal n))

-- the variants, counted
abbrev variant : Reply → ℕ
variant (replies.Done new lost) = 0
variant (replies.Number n) = 1
variant (replies.Sum n) = 2
variant replies.None = 3
variant (replies.Shown text more) = 4
variant replies.Less = 5
variant replies.Equal = 6
variant replies.Greater = 7
variant replies.Yes = 8
variant replies.No = 9
variant (replies.Unset name) = 10
variant replies.NoBytes = 11
variant (replies.Position asked n) = 12
variant (replies.Length asked) = 13
variant (replies.Empty cell) = 14
variant replies.Releasers = 15
variant replies.Height = 16
variant (replies.Cords found) = 17
variant (replies.Pool size) = 18
variant replies.HasSnapshot = 19
variant replies.NoSnapshot = 20
variant (replies.Walked reports) = 21
variant (replies.Ended deleted) = 22

-- the variant of a last line, by its first byte and some of the third, the fourth and the sixth
abbrev wanting_variant : ℕ → ℕ
wanting_variant c = if c == 114 then 15 else (if c == 104 then 16 else (if c == 99 then 17 else (if c == 115 then 19 else 13)))

abbrev refused_variant : ℕ → ℕ → ℕ
refused_variant c d = if c == 117 then 10 else (if c == 110 then (if d == 98 then 11 else 20) else (if c == 112 then (if d == 108 then 18 else 12) else (if c == 101 then 14 else wanting_variant c)))

abbrev told_variant : ℕ → ℕ → ℕ → ℕ
told_variant b c d = if b == 108 then 5 else (if b == 101 then 6 else (if b == 103 then 7 else (if b == 121 then 8 else (if b == 119 then 21 else refused_variant c d))))

abbrev word_variant : ℕ → ℕ → ℕ → ℕ → ℕ
word_variant b c mark d = if b == 111 then (if is_digit mark then 22 else 0) else (if b == 115 then 2 else (if b == 110 then (if c == 110 then 3 else 9) else (if b == 34 then 4 else told_variant b c d)))

abbrev variant_of : List ℕ → ℕ
variant_of text = if is_digit (get_or text 0 0) then 1 else word_variant (get_or text 0 0) (get_or text 2 0) (get_or text 3 0) (get_or text 5 0)

variant_of-number : (n : ℕ) → IsNumber n → variant_of (decimal n) ≡ 1
variant_of-number n small =
    let digit : is_digit (get_or (decimal n) 0 0) ≡ true = ap (λ text. is_digit (get_or text 0 0)) (sym (append-nil (decimal n))) ∙ decimal-first n [] 0 in
    ap (λ b. if b then 1 else word_variant (get_or (decimal n) 0 0) (get_or (decimal n) 2 0) (get_or (decimal n) 3 0) (get_or (decimal n) 5 0)) digit

variant_of-done : (new : NewMark) (lost : Option ℕ) → variant_of (last_text (replies.Done new lost)) ≡ 0
variant_of-done Plain None = refl
variant_of-done Plain (Some n) = refl
variant_of-done (Noted stamp update n) lost = refl
variant_of-done Full lost = refl

variant_of-ended : (n : ℕ) → variant_of (last_text (replies.Ended n)) ≡ 22
variant_of-ended n =
    let digit : is_digit (get_or (decimal n) 0 0) ≡ true = ap (λ text. is_digit (get_or text 0 0)) (sym (append-nil (decimal n))) ∙ decimal-first n [] 0 in
    ap (λ b. if b then 22 else 0) digit

variant_of-text : (reply : Reply) → IsReadableReply reply → variant_of (last_text reply) ≡ variant reply
variant_of-text (replies.Done new lost) p = variant_of-done new lost
variant_of-text (replies.Number n) p = variant_of-number n p
variant_of-text (replies.Sum n) p = refl
variant_of-text replies.None p = refl
variant_of-text (replies.Shown text more) p = refl
variant_of-text replies.Less p = refl
variant_of-text replies.Equal p = refl
variant_of-text replies.Greater p = refl
variant_of-text replies.Yes p = refl
variant_of-text replies.No p = refl
variant_of-text (replies.Unset name) p = refl
variant_of-text replies.NoBytes p = refl
variant_of-text (replies.Position asked n) p = refl
variant_of-text (replies.Length asked) p = refl
variant_of-text (replies.Empty cell) p = refl
variant_of-text replies.Releasers p = refl
variant_of-text replies.Height p = refl
variant_of-text (replies.Cords found) p = refl
variant_of-text (replies.Pool size) p = refl
variant_of-text replies.HasSnapshot p = refl
variant_of-text replies.NoSnapshot p = refl
variant_of-text (replies.Walked reports) p = refl
variant_of-text (replies.Ended deleted) p = variant_of-ended deleted

same-variant : (x y : Reply) → IsReadableReply x → IsReadableReply y → last_text x ≡ last_text y → variant x ≡ variant y
same-variant x y p q e = sym (variant_of-text x p) ∙ (ap variant_of e ∙ variant_of-text y q)

not-same : (m n : ℕ) → m ≡ n → nat_eq m n ≡ false → ⊥
not-same m n e h = grind (arith, nat_tests)

positions : (i j m n : ℕ) → IsNumber i → IsNumber j → IsNumber m → IsNumber n → last_text (replies.Position i m) ≡ last_text (replies.Position j n) → replies.Position i m ≡ replies.Position j n
positions i j m n a b c d e =
    let texts = append_cancel_left (codes "! position ") (decimal i ++ 32 ∷ decimal m) (decimal j ++ 32 ∷ decimal n) (sym (position-text i m) ∙ (e ∙ position-text j n)) in
    let split = decimal_split i j (32 ∷ decimal m) (32 ∷ decimal n) a b refl refl texts in
    let places : i ≡ j = split.0 in
    let sizes : m ≡ n = decimal_injective m n c d (behind-one split.1) in
    cc

showings : (xs ys : List ℕ) (m n : ℕ) → AllByRecursion IsByte xs → AllByRecursion IsByte ys → IsNumber m → IsNumber n → last_text (replies.Shown xs m) ≡ last_text (replies.Shown ys n) → replies.Shown xs m ≡ replies.Shown ys n
showings xs ys m n a b c d e =
    let split = quoted_split xs ys (more_text m) (more_text n) a b (behind-one (sym (shown-text xs m) ∙ (e ∙ shown-text ys n))) in
    let texts : xs ≡ ys = split.0 in
    let counts : m ≡ n = more_injective m n c d split.1 in
    cc

dones : (new other : NewMark) (gone lost : Option ℕ) → (new ≡ other) × (gone ≡ lost) → replies.Done new gone ≡ replies.Done other lost
dones new other gone lost same =
    let news : new ≡ other = same.0 in
    let gones : gone ≡ lost = same.1 in
    cc

-- with the same reports in them
last_injective : (x y : Reply) → IsReadableReply x → IsReadableReply y → map report_text (reports_of x) ≡ map report_text (reports_of y) → last_text x ≡ last_text y → x ≡ y
last_injective (replies.Done new gone) (replies.Done other lost) p q r e = dones new other gone lost (marks_injective new other gone lost p.0 q.0 p.1 q.1 (append_cancel_left (codes "ok") (mark_text new ++ gone_text gone) (mark_text other ++ gone_text lost) e))
last_injective (replies.Number m) (replies.Number n) p q r e = ap (λ k. replies.Number k) (decimal_injective m n p q e)
last_injective (replies.Sum m) (replies.Sum n) p q r e = ap (λ k. replies.Sum k) (decimal_injective m n p q (append_cancel_left (codes "sum ") (decimal m) (decimal n) e))
last_injective replies.None replies.None p q r e = refl
last_injective (replies.Shown xs m) (replies.Shown ys n) p q r e = showings xs ys m n (recursion_from_All IsByte xs p.0) (recursion_from_All IsByte ys q.0) p.1 q.1 e
last_injective replies.Less replies.Less p q r e = refl
last_injective replies.Equal replies.Equal p q r e = refl
last_injective replies.Greater replies.Greater p q r e = refl
last_injective replies.Yes replies.Yes p q r e = refl
last_injective replies.No replies.No p q r e = refl
last_injective (replies.Unset a) (replies.Unset b) p q r e = ap (λ name. replies.Unset name) (append_cancel_left (codes "! unset ") a b e)
last_injective replies.NoBytes replies.NoBytes p q r e = refl
last_injective (replies.Position i m) (replies.Position j n) p q r e = positions i j m n p.0 q.0 p.1 q.1 e
last_injective (replies.Length m) (replies.Length n) p q r e = ap (λ k. replies.Length k) (decimal_injective m n p q (append_cancel_left (codes "! length ") (decimal m) (decimal n) e))
last_injective (replies.Empty m) (replies.Empty n) p q r e = ap (λ k. replies.Empty k) (decimal_injective m n p q (append_cancel_left (codes "! empty ") (decimal m) (decimal n) e))
last_injective replies.Releasers replies.Releasers p q r e = refl
last_injective replies.Height replies.Height p q r e = refl
last_injective (replies.Cords m) (replies.Cords n) p q r e = ap (λ k. replies.Cords k) (decimal_injective m n p q (append_cancel_left (codes "! cords ") (decimal m) (decimal n) e))
last_injective (replies.Pool m) (replies.Pool n) p q r e = ap (λ k. replies.Pool k) (decimal_injective m n p q (append_cancel_left (codes "! pool ") (decimal m) (decimal n) e))
last_injective replies.HasSnapshot replies.HasSnapshot p q r e = refl
last_injective replies.NoSnapshot replies.NoSnapshot p q r e = refl
last_injective (replies.Walked xs) (replies.Walked ys) p q r e = ap (λ reports. replies.Walked reports) (reports_injective xs ys (recursion_from_All IsReadableReport xs p) (recursion_from_All IsReadableReport ys q) r)
last_injective (replies.Ended m) (replies.Ended n) p q r e = ap (λ k. replies.Ended k) (decimal_injective m n p q (append_cancel_left (codes "ok ") (decimal m) (decimal n) e))
last_injective x y p q r e = absurd (not-same (variant x) (variant y) (same-variant x y p q e) refl)

-- no last line begins as a report's does
pub last-past-reports : (reply : Reply) (rest : List ℕ) → is_past_reports (last_text reply ++ rest) ≡ true
last-past-reports (replies.Done new lost) rest = refl
last-past-reports (replies.Number n) rest = digit-past (get_or (decimal n ++ rest) 0 0) (decimal-first n rest 0)
  where
    digit-past : (b : ℕ) → is_digit b ≡ true → (if b == 114 then false else true) ≡ true
    digit-past b digit = grind (arith, nat_tests)
last-past-reports (replies.Sum n) rest = refl
last-past-reports replies.None rest = refl
last-past-reports (replies.Shown text more) rest = refl
last-past-reports replies.Less rest = refl
last-past-reports replies.Equal rest = refl
last-past-reports replies.Greater rest = refl
last-past-reports replies.Yes rest = refl
last-past-reports replies.No rest = refl
last-past-reports (replies.Unset name) rest = refl
last-past-reports replies.NoBytes rest = refl
last-past-reports (replies.Position asked n) rest = refl
last-past-reports (replies.Length asked) rest = refl
last-past-reports (replies.Empty cell) rest = refl
last-past-reports replies.Releasers rest = refl
last-past-reports replies.Height rest = refl
last-past-reports replies.HasSnapshot rest = refl
last-past-reports replies.NoSnapshot rest = refl
last-past-reports (replies.Walked reports) rest = refl
last-past-reports (replies.Ended deleted) rest = refl
last-past-reports (replies.Cords found) rest = refl
last-past-reports (replies.Pool size) rest = refl

pub reply_injective : (x y : Reply) → IsReadableReply x → IsReadableReply y → reply_text x ≡ reply_text y → x ≡ y
reply_injective x y p q e =
    let texts = sym (append_assoc (report_lines (reports_of x)) (last_text x) []) ∙ (ap (λ text. text ++ []) e ∙ append_assoc (report_lines (reports_of y)) (last_text y) []) in
    let split = reports_split (reports_of x) (reports_of y) (last_text x ++ []) (last_text y ++ []) (last-past-reports x []) (last-past-reports y []) texts in
    last_injective x y p q split.0 (sym (append-nil (last_text x)) ∙ (split.1 ∙ append-nil (last_text y)))
