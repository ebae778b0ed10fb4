-- Reports are known by their lines, which no other line begins as.
use Rattle.std.proofs.Common.{◌≡◌, ◌∙◌, sym, ap, ap₂, refl, ℕ, ◌+◌, ◌<◌, Bool, true, false, if◌then◌else◌, List, [], ◌∷◌, ◌++◌, map, get_or, arith, ◌==◌, decimal, codes, append_assoc, append-nil}
use Rattle.std.proofs.lemmas.List.{append_cancel_left}
use Rattle.std.specs.List.{AllByRecursion}
use Rattle.std.proofs.lemmas.List.Elements.{recursion_from_All}
use Rattle.std.proofs.lemmas.Bool.Decides.{nat_tests}
use Rattle.plain_cord.specs.declared.statistics.Statistics.{Statistics}
use Rattle.plain_cord.specs.declared.reply.Report.{Report}
use Rattle.report_text.specs.Reports.{numbers_text, statistics_text, report_text}
use Rattle.report_text.specs.Replies.{report_line, report_lines}
use Rattle.report_text.specs.Readable.{IsNumber, AreReadableStatistics, IsReadableReport}
use Rattle.report_text.proofs.Runs.{all_pass, all_pass-append, stops, run_split, is_digit, decimal-passes, decimal_split, decimal-begins}
use Rattle.report_text.proofs.QuoteLaws.{in_line}

behind-one : {a : ℕ} {xs ys : List ℕ} → a ∷ xs ≡ a ∷ ys → xs ≡ ys
behind-one e = cc

front : {X : Type 0} {x y : X} {xs ys : List X} → x ∷ xs ≡ y ∷ ys → x ≡ y
front e = cc

behind : {X : Type 0} {x y : X} {xs ys : List X} → x ∷ xs ≡ y ∷ ys → xs ≡ ys
behind e = cc

-- ---- a report's text from its front

abbrev statistics_before : Statistics → List ℕ → List ℕ
statistics_before s rest =
    codes " size " ++ (decimal s.size ++ (codes " nodes " ++ (decimal s.nodes ++ (codes " flat " ++ (decimal s.flat ++ (codes " external " ++ (decimal s.external
    ++ (codes " part " ++ (decimal s.part ++ (codes " sum " ++ (decimal s.sum ++ (codes " branch " ++ (decimal s.branch
    ++ (codes " buckets" ++ (numbers_text s.buckets ++ (codes " memory " ++ (decimal s.memory ++ rest)))))))))))))))))

abbrev report_before : Report → List ℕ → List ℕ
report_before report rest = codes "record " ++ (decimal report.stamp ++ (codes "." ++ (decimal report.update ++ statistics_before report.statistics rest)))

behind-five : (a b c d e rest : List ℕ) → a ++ b ++ c ++ d ++ e ++ rest ≡ a ++ (b ++ (c ++ (d ++ (e ++ rest))))
behind-five a b c d e rest = simp append_assoc

behind-nine : (a b c d e f g h i rest : List ℕ) → a ++ b ++ c ++ d ++ e ++ f ++ g ++ h ++ i ++ rest ≡ a ++ (b ++ (c ++ (d ++ (e ++ (f ++ (g ++ (h ++ (i ++ rest))))))))
behind-nine a b c d e f g h i rest = simp append_assoc

behind-ten : (a b c d e f g h i j rest : List ℕ) → a ++ b ++ c ++ d ++ e ++ f ++ g ++ h ++ i ++ j ++ rest ≡ a ++ (b ++ (c ++ (d ++ (e ++ (f ++ (g ++ (h ++ (i ++ (j ++ rest)))))))))
behind-ten a b c d e f g h i j rest = simp append_assoc

statistics-first : (s : Statistics) (rest : List ℕ) → statistics_text s ++ rest ≡ statistics_before s rest
statistics-first s rest =
    let front = codes " size " ++ decimal s.size ++ codes " nodes " ++ decimal s.nodes ++ codes " flat " ++ decimal s.flat ++ codes " external " ++ decimal s.external ++ codes " part " in
    let back = decimal s.part ++ (codes " sum " ++ (decimal s.sum ++ (codes " branch " ++ (decimal s.branch ++ (codes " buckets" ++ (numbers_text s.buckets ++ (codes " memory " ++ (decimal s.memory ++ rest)))))))) in
    behind-ten front (decimal s.part) (codes " sum ") (decimal s.sum) (codes " branch ") (decimal s.branch) (codes " buckets") (numbers_text s.buckets) (codes " memory ") (decimal s.memory) rest
    ∙ behind-nine (codes " size ") (decimal s.size) (codes " nodes ") (decimal s.nodes) (codes " flat ") (decimal s.flat) (codes " external ") (decimal s.external) (codes " part ") back

report-first : (report : Report) (rest : List ℕ) → report_text report ++ rest ≡ report_before report rest
report-first report rest =
    behind-five (codes "record ") (decimal report.stamp) (codes ".") (decimal report.update) (statistics_text report.statistics) rest
    ∙ ap (λ text. codes "record " ++ (decimal report.stamp ++ (codes "." ++ (decimal report.update ++ text)))) (statistics-first report.statistics rest)

-- ---- no newline

digit-in-line : (d : ℕ) → d < 10 → in_line (48 + d) ≡ true
digit-in-line d below = grind (arith, nat_tests)

in-line-behind : (n : ℕ) (rest : List ℕ) → all_pass in_line rest ≡ true → all_pass in_line (decimal n ++ rest) ≡ true
in-line-behind n rest h = all_pass-append in_line (decimal n) rest (decimal-passes in_line digit-in-line n) h

numbers-in-line : (numbers rest : List ℕ) → all_pass in_line rest ≡ true → all_pass in_line (numbers_text numbers ++ rest) ≡ true
numbers-in-line [] rest h = h
numbers-in-line (n ∷ numbers) rest h = ap (all_pass in_line) (append_assoc (32 ∷ decimal n) (numbers_text numbers) rest) ∙ in-line-behind n (numbers_text numbers ++ rest) (numbers-in-line numbers rest h)

report-in-line : (report : Report) → all_pass in_line (report_text report) ≡ true
report-in-line report =
    let s = report.statistics in
    ap (all_pass in_line) (sym (append-nil (report_text report)) ∙ report-first report [])
    ∙ in-line-behind report.stamp _ (in-line-behind report.update _ (in-line-behind s.size _ (in-line-behind s.nodes _ (in-line-behind s.flat _ (in-line-behind s.external _
    (in-line-behind s.part _ (in-line-behind s.sum _ (in-line-behind s.branch _ (numbers-in-line s.buckets _ (in-line-behind s.memory [] refl))))))))))

-- ---- a report is known by its text

-- a number behind the same text, with no digit behind it
number_split : (text : List ℕ) (m n : ℕ) (rest others : List ℕ) → IsNumber m → IsNumber n → stops is_digit rest ≡ true → stops is_digit others ≡ true → text ++ (decimal m ++ rest) ≡ text ++ (decimal n ++ others) → (m ≡ n) × (rest ≡ others)
number_split text m n rest others p q r o e = decimal_split m n rest others p q r o (append_cancel_left text (decimal m ++ rest) (decimal n ++ others) e)

numbers-front : (n : ℕ) (numbers rest : List ℕ) → numbers_text (n ∷ numbers) ++ rest ≡ 32 ∷ (decimal n ++ (numbers_text numbers ++ rest))
numbers-front n numbers rest = append_assoc (32 ∷ decimal n) (numbers_text numbers) rest

numbers_split : (xs ys rest others : List ℕ) → AllByRecursion IsNumber xs → AllByRecursion IsNumber ys → numbers_text xs ++ (codes " memory " ++ rest) ≡ numbers_text ys ++ (codes " memory " ++ others) → (xs ≡ ys) × (rest ≡ others)
numbers_split [] [] rest others p q e = (refl, append_cancel_left (codes " memory ") rest others e)
numbers_split [] (y ∷ ys) rest others p q e = absurd (decimal-begins y (numbers_text ys ++ (codes " memory " ++ others)) (codes "memory " ++ rest) (behind-one (sym (numbers-front y ys (codes " memory " ++ others)) ∙ sym e)) refl)
numbers_split (x ∷ xs) [] rest others p q e = absurd (decimal-begins x (numbers_text xs ++ (codes " memory " ++ rest)) (codes "memory " ++ others) (behind-one (sym (numbers-front x xs (codes " memory " ++ rest)) ∙ e)) refl)
numbers_split (x ∷ xs) (y ∷ ys) rest others p q e =
    let texts = behind-one (sym (numbers-front x xs (codes " memory " ++ rest)) ∙ (e ∙ numbers-front y ys (codes " memory " ++ others))) in
    let first = decimal_split x y (numbers_text xs ++ (codes " memory " ++ rest)) (numbers_text ys ++ (codes " memory " ++ others)) p.0 q.0 (stop xs rest) (stop ys others) texts in
    let more = numbers_split xs ys rest others p.1 q.1 first.1 in
    (ap₂ (λ n numbers. n ∷ numbers) first.0 more.0, more.1)
  where
    stop : (numbers rest : List ℕ) → stops is_digit (numbers_text numbers ++ (codes " memory " ++ rest)) ≡ true
    stop [] rest = refl
    stop (n ∷ numbers) rest = refl

statistics_split : (s t : Statistics) → AreReadableStatistics s → AreReadableStatistics t → statistics_before s [] ≡ statistics_before t [] → s ≡ t
statistics_split s t p q e =
    let size = number_split (codes " size ") s.size t.size _ _ p.size q.size refl refl e in
    let nodes = number_split (codes " nodes ") s.nodes t.nodes _ _ p.nodes q.nodes refl refl size.1 in
    let flat = number_split (codes " flat ") s.flat t.flat _ _ p.flat q.flat refl refl nodes.1 in
    let external = number_split (codes " external ") s.external t.external _ _ p.external q.external refl refl flat.1 in
    let part = number_split (codes " part ") s.part t.part _ _ p.part q.part refl refl external.1 in
    let sum = number_split (codes " sum ") s.sum t.sum _ _ p.sum q.sum refl refl part.1 in
    let branch = number_split (codes " branch ") s.branch t.branch _ _ p.branch q.branch refl refl sum.1 in
    let buckets = numbers_split s.buckets t.buckets (decimal s.memory ++ []) (decimal t.memory ++ []) (recursion_from_All IsNumber s.buckets p.buckets) (recursion_from_All IsNumber t.buckets q.buckets)
    (append_cancel_left (codes " buckets") (numbers_text s.buckets ++ (codes " memory " ++ (decimal s.memory ++ []))) (numbers_text t.buckets ++ (codes " memory " ++ (decimal t.memory ++ []))) branch.1) in
    let memory = decimal_split s.memory t.memory [] [] p.memory q.memory refl refl buckets.1 in
    (λ i. record {
      size = size.0 i;
      nodes = nodes.0 i;
      flat = flat.0 i;
      external = external.0 i;
      part = part.0 i;
      sum = sum.0 i;
      branch = branch.0 i;
      buckets = buckets.0 i;
      memory = memory.0 i;
    })

report_injective : (x y : Report) → IsReadableReport x → IsReadableReport y → report_text x ≡ report_text y → x ≡ y
report_injective x y p q e =
    let texts = sym (report-first x []) ∙ (ap (λ text. text ++ []) e ∙ report-first y []) in
    let stamp = number_split (codes "record ") x.stamp y.stamp _ _ p.stamp q.stamp refl refl texts in
    let update = number_split (codes ".") x.update y.update _ _ p.update q.update refl refl stamp.1 in
    let statistics = statistics_split x.statistics y.statistics p.statistics q.statistics update.1 in
    (λ i. record { stamp = stamp.0 i; update = update.0 i; statistics = statistics i })

-- ---- lines

-- no report's line begins as this text
abbrev pub is_past_reports : List ℕ → Bool
is_past_reports text = if get_or text 0 0 == 114 then false else true

lines-first : (report : Report) (reports : List Report) (rest : List ℕ) → report_lines (report ∷ reports) ++ rest ≡ report_text report ++ 10 ∷ (report_lines reports ++ rest)
lines-first report reports rest = append_assoc (report_line report) (report_lines reports) rest ∙ append_assoc (report_text report) (10 ∷ []) (report_lines reports ++ rest)

line-not-past : (report : Report) (reports : List Report) (rest others : List ℕ) → report_lines (report ∷ reports) ++ rest ≡ others → is_past_reports others ≡ true → ⊥
line-not-past report reports rest others e past =
    let no : is_past_reports (report_lines (report ∷ reports) ++ rest) ≡ false = refl in
    let both : true ≡ false = sym past ∙ (ap is_past_reports (sym e) ∙ no) in
    cc

-- the texts of reports up to what is behind them
pub reports_split : (xs ys : List Report) (rest others : List ℕ) → is_past_reports rest ≡ true → is_past_reports others ≡ true → report_lines xs ++ rest ≡ report_lines ys ++ others → (map report_text xs ≡ map report_text ys) × (rest ≡ others)
reports_split [] [] rest others r o e = (refl, e)
reports_split [] (y ∷ ys) rest others r o e = absurd (line-not-past y ys others rest (sym e) r)
reports_split (x ∷ xs) [] rest others r o e = absurd (line-not-past x xs rest others e o)
reports_split (x ∷ xs) (y ∷ ys) rest others r o e =
    let texts = sym (lines-first x xs rest) ∙ (e ∙ lines-first y ys others) in
    let line = run_split in_line (report_text x) (report_text y) (10 ∷ (report_lines xs ++ rest)) (10 ∷ (report_lines ys ++ others)) (report-in-line x) (report-in-line y) refl refl texts in
    let split = reports_split xs ys rest others r o (behind-one line.1) in
    (ap₂ (λ text texts. text ∷ texts) line.0 split.0, split.1)

pub lines-alike : (xs ys : List Report) → map report_text xs ≡ map report_text ys → report_lines xs ≡ report_lines ys
lines-alike [] [] e = refl
lines-alike [] (y ∷ ys) e = cc
lines-alike (x ∷ xs) [] e = cc
lines-alike (x ∷ xs) (y ∷ ys) e = ap₂ (λ text lines. text ++ 10 ∷ [] ++ lines) (front e) (lines-alike xs ys (behind e))

pub reports_injective : (xs ys : List Report) → AllByRecursion IsReadableReport xs → AllByRecursion IsReadableReport ys → map report_text xs ≡ map report_text ys → xs ≡ ys
reports_injective [] [] p q e = refl
reports_injective [] (y ∷ ys) p q e = cc
reports_injective (x ∷ xs) [] p q e = cc
reports_injective (x ∷ xs) (y ∷ ys) p q e = ap₂ (λ report reports. report ∷ reports) (report_injective x y p.0 q.0 (front e)) (reports_injective xs ys p.1 q.1 (behind e))
