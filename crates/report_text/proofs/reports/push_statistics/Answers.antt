-- Each number behind those before it.
use Rattle.std.proofs.Common.{◌≡◌, ◌∙◌, ap, ℕ, List, ◌++◌, codes, decimal, append_assoc}
use Rattle.report_text.specs.Reports.{numbers_text}
use Rattle.report_text.specs.Lines.{line_bytes}
use Rattle.report_text.proofs.reports.push_statistics.Goals as goal

pushed : (line before after done text : List ℕ) → before ≡ line ++ done → after ≡ before ++ text → after ≡ line ++ (done ++ text)
pushed line before after done text e f = f ∙ (ap (λ bytes. bytes ++ text) e ∙ append_assoc line done text)

named : (line before after done text number : List ℕ) → before ≡ line ++ done → after ≡ before ++ text ++ number → after ≡ line ++ (done ++ text ++ number)
named line before after done text number e f = f ∙ (ap (λ bytes. bytes ++ text ++ number) e ∙ (ap (λ bytes. bytes ++ number) (append_assoc line done text) ∙ append_assoc line (done ++ text) number))

pub returns-clause-bytes : goal.returns-clause-bytes
returns-clause-bytes c =
    let s = c.args.statistics.now in
    let line = line_bytes c.args.line.now in
    let to-size = codes " size " ++ decimal s.size in
    let to-nodes = to-size ++ codes " nodes " ++ decimal s.nodes in
    let to-flat = to-nodes ++ codes " flat " ++ decimal s.flat in
    let to-external = to-flat ++ codes " external " ++ decimal s.external in
    let to-part = to-external ++ codes " part " ++ decimal s.part in
    let to-sum = to-part ++ codes " sum " ++ decimal s.sum in
    let to-branch = to-sum ++ codes " branch " ++ decimal s.branch in
    let to-word = to-branch ++ codes " buckets" in
    let size = c.push_named_number.ensures.bytes ∙ append_assoc line (codes " size ") (decimal s.size) in
    let nodes = named line _ _ to-size (codes " nodes ") (decimal s.nodes) size c.push_named_number-2.ensures.bytes in
    let flat = named line _ _ to-nodes (codes " flat ") (decimal s.flat) nodes c.push_named_number-3.ensures.bytes in
    let external = named line _ _ to-flat (codes " external ") (decimal s.external) flat c.push_named_number-4.ensures.bytes in
    let part = named line _ _ to-external (codes " part ") (decimal s.part) external c.push_named_number-5.ensures.bytes in
    let sum = named line _ _ to-part (codes " sum ") (decimal s.sum) part c.push_named_number-6.ensures.bytes in
    let branch = named line _ _ to-sum (codes " branch ") (decimal s.branch) sum c.push_named_number-7.ensures.bytes in
    let word = pushed line _ _ to-branch (codes " buckets") branch c.push_text.ensures.bytes in
    let buckets = pushed line _ _ to-word (numbers_text s.buckets) word c.push_numbers.ensures.bytes in
    named line _ _ (to-word ++ numbers_text s.buckets) (codes " memory ") (decimal s.memory) buckets c.push_named_number-8.ensures.bytes
