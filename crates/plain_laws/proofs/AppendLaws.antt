-- What is appended to a name is printed.
use Rattle.std.proofs.Common.{◌≡◌, ◌∙◌, sym, ap, subst, refl, ℕ, ◌≤◌, ◌+◌, suc, List, [], ◌∷◌, ◌++◌, length, Option, Some, Bool, true, false, arith, inl, inr, append_assoc, append-nil, length-append}
use Rattle.std.specs.Prelude.{nat_le, ◌==◌, if◌then◌else◌}
use Rattle.std.specs.Str.{bytes_eq}
use Rattle.std.proofs.lemmas.Slice.Eq.{bytes_eq-Decides}
use Rattle.std.proofs.lemmas.Bool.{cond-true, le-leb, eqb-true}
use Rattle.plain_cord.specs.declared.limits.TheConstants.{MOST_BYTES}
use Rattle.plain_cord.specs.declared.script.Text.{Text}
use Rattle.plain_cord.specs.declared.script.Command.{Command}
use Rattle.plain_cord.specs.declared.script.Command.TheVariants as commands
use Rattle.plain_cord.specs.declared.reply.Reply.{Reply}
use Rattle.plain_cord.specs.declared.reply.Reply.TheVariants as replies
use Rattle.plain_cord.specs.Texts.{text_bytes}
use Rattle.plain_cord.specs.States.{CordState, Environment, plain, with_name}
use Rattle.plain_cord.specs.Outcomes.{with_found, answered, keeping, edited, refused, grown, shown}
use Rattle.plain_cord.specs.Steps.{IsOutcome, PlainStep, PlainRun}
use Rattle.plain_laws.specs.Appends.{AppendsTo, texts_bytes}
use Rattle.plain_laws.proofs.OtherNames.{others-stay}

-- a is set, to a cord of these bytes
abbrev HasBytes : Environment → List ℕ → List ℕ → Type 0
HasBytes names a bytes = (cord : CordState) × (names a ≡ Some cord) × (cord.bytes ≡ bytes)

set-here : (names : Environment) (a : List ℕ) (cord : CordState) → with_name names a cord a ≡ Some cord
set-here names a cord = cond-true (bytes_eq a a) (Some cord) (names a) ((bytes_eq-Decides a a).1 refl)

no-more : (xs more : List ℕ) → length (xs ++ more) ≡ length xs → xs ≡ xs ++ more
no-more xs [] same = sym (append-nil xs)
no-more xs (m ∷ more) same = let both : length (xs ++ m ∷ more) ≡ length xs + suc (length more) = length-append xs (m ∷ more) in absurd (omega arith)

edit-bytes : (b d : Bool) (cord : CordState) (bytes : List ℕ) (reply : Reply) → b ≡ true → (d ≡ true → cord.bytes ≡ bytes) → (if b then edited (if d then cord else plain bytes) else refused cord reply).cord.bytes ≡ bytes
edit-bytes true true cord bytes reply fits same = same refl
edit-bytes true false cord bytes reply fits same = refl
edit-bytes false d cord bytes reply fits same = absurd (cc)

grown-bytes : (cord : CordState) (more : List ℕ) → length (cord.bytes ++ more) ≤ MOST_BYTES → (grown cord (cord.bytes ++ more)).cord.bytes ≡ cord.bytes ++ more
grown-bytes cord more fits =
    edit-bytes (nat_le (length (cord.bytes ++ more)) MOST_BYTES) (length (cord.bytes ++ more) == length cord.bytes) cord (cord.bytes ++ more) (replies.Length (length (cord.bytes ++ more)))
    (le-leb (length (cord.bytes ++ more)) MOST_BYTES fits) (λ same. no-more cord.bytes more (eqb-true (length (cord.bytes ++ more)) (length cord.bytes) same))

append-step : (names now : Environment) (a bytes : List ℕ) (text : Text) (reply : Reply) → PlainStep names (commands.Append a text) now reply → HasBytes names a bytes → length (bytes ++ text_bytes text) ≤ MOST_BYTES → HasBytes now a (bytes ++ text_bytes text)
append-step names now a bytes text reply step has fits =
    let cord : CordState = has.0 in
    let found : IsOutcome (Some (keeping names a (grown cord (cord.bytes ++ text_bytes text)))) now reply =
    subst (λ (o : Option CordState). IsOutcome (Some (with_found names a o (λ (c : CordState). keeping names a (grown c (c.bytes ++ text_bytes text))))) now reply) has.1 step in
    let same : cord.bytes ++ text_bytes text ≡ bytes ++ text_bytes text = ap (λ (bs : List ℕ). bs ++ text_bytes text) has.2 in
    let small : length (cord.bytes ++ text_bytes text) ≤ MOST_BYTES = subst (λ (bs : List ℕ). length bs ≤ MOST_BYTES) (sym same) fits in
    ((grown cord (cord.bytes ++ text_bytes text)).cord, sym (found.0 a) ∙ set-here names a (grown cord (cord.bytes ++ text_bytes text)).cord, grown-bytes cord (text_bytes text) small ∙ same)

appended : (said : List Command) (names now : Environment) (a bytes : List ℕ) (texts : List Text) (replies : List Reply) → PlainRun names said replies now → AppendsTo a said texts → HasBytes names a bytes
    → length (bytes ++ texts_bytes texts) ≤ MOST_BYTES → HasBytes now a (bytes ++ texts_bytes texts)
appended [] names now a bytes texts [] run none has fits = (has.0, sym (run a) ∙ has.1, has.2 ∙ sym (ap (λ (ts : List Text). bytes ++ texts_bytes ts) none ∙ append-nil bytes))
appended [] names now a bytes texts (reply ∷ replies) run none has fits = absurd run
appended (command ∷ said) names now a bytes texts [] run appends has fits = absurd run
appended (command ∷ said) names now a bytes texts (reply ∷ replies) run (inl stays) has fits =
    appended said run.0 now a bytes texts replies run.2 stays.1 (has.0, others-stay names run.0 command reply a run.1 stays.0 ∙ has.1, has.2) fits
appended (command ∷ said) names now a bytes texts (reply ∷ replies) run (inr app) has fits =
    let step : PlainStep names (commands.Append a app.0) run.0 reply = subst (λ (c : Command). PlainStep names c run.0 reply) app.2 run.1 in
    let joined : bytes ++ text_bytes app.0 ++ texts_bytes app.1 ≡ bytes ++ texts_bytes texts = append_assoc bytes (text_bytes app.0) (texts_bytes app.1) ∙ ap (λ (ts : List Text). bytes ++ texts_bytes ts) (sym app.3) in
    let whole : length (bytes ++ text_bytes app.0 ++ texts_bytes app.1) ≤ MOST_BYTES = subst (λ (bs : List ℕ). length bs ≤ MOST_BYTES) (sym joined) fits in
    let sizes : length (bytes ++ text_bytes app.0 ++ texts_bytes app.1) ≡ length (bytes ++ text_bytes app.0) + length (texts_bytes app.1) = length-append (bytes ++ text_bytes app.0) (texts_bytes app.1) in
    let small : length (bytes ++ text_bytes app.0) ≤ MOST_BYTES = omega (arith, whole, sizes) in
    let next : HasBytes run.0 a (bytes ++ text_bytes app.0) = append-step names run.0 a bytes app.0 reply step has small in
    subst (λ (bs : List ℕ). HasBytes now a bs) joined (appended said run.0 now a (bytes ++ text_bytes app.0) app.1 replies run.2 app.4 next whole)

-- a run has a last step
split : (said : List Command) (names now : Environment) (command : Command) (replies : List Reply) → PlainRun names (said ++ command ∷ []) replies now
    → (before : List Reply) × (last : Reply) × (mid : Environment) × (after : Environment) × (replies ≡ before ++ last ∷ []) × PlainRun names said before mid × PlainStep mid command after last
split [] names now command [] run = absurd run
split [] names now command (reply ∷ []) run = ([], reply, names, run.0, refl, λ name. refl, run.1)
split [] names now command (reply ∷ r ∷ replies) run = absurd run.2
split (c ∷ said) names now command [] run = absurd run
split (c ∷ said) names now command (reply ∷ replies) run =
    let rest = split said run.0 now command replies run.2 in
    (reply ∷ rest.0, rest.1, rest.2, rest.3, ap (λ (rs : List Reply). reply ∷ rs) rest.4, (run.0, run.1, rest.5), rest.6)

print-step : (names now : Environment) (a bytes : List ℕ) (reply : Reply) → PlainStep names (commands.Print a) now reply → HasBytes names a bytes → reply ≡ shown bytes
print-step names now a bytes reply step has =
    let found : IsOutcome (Some (answered names (shown has.0.bytes))) now reply = subst (λ (o : Option CordState). IsOutcome (Some (with_found names a o (λ (c : CordState). answered names (shown c.bytes)))) now reply) has.1 step in
    found.1 ∙ ap shown has.2

pub appended-printed : (names now : Environment) (a : List ℕ) (first : Text) (said : List Command) (texts : List Text) (replies : List Reply) → AppendsTo a said texts → length (text_bytes first ++ texts_bytes texts) ≤ MOST_BYTES
    → PlainRun names (commands.Let a first ∷ said ++ commands.Print a ∷ []) replies now → (before : List Reply) × (replies ≡ before ++ shown (text_bytes first ++ texts_bytes texts) ∷ [])
appended-printed names now a first said texts [] appends fits run = absurd run
appended-printed names now a first said texts (reply ∷ replies) appends fits run =
    let has : HasBytes run.0 a (text_bytes first) = (plain (text_bytes first), sym (run.1.0 a) ∙ set-here names a (plain (text_bytes first)), refl) in
    let parts = split said run.0 now (commands.Print a) replies run.2 in
    let last : HasBytes parts.2 a (text_bytes first ++ texts_bytes texts) = appended said run.0 parts.2 a (text_bytes first) texts parts.0 parts.5 appends has fits in
    let printed : parts.1 ≡ shown (text_bytes first ++ texts_bytes texts) = print-step parts.2 parts.3 a (text_bytes first ++ texts_bytes texts) parts.1 parts.6 last in
    (reply ∷ parts.0, ap (λ (rs : List Reply). reply ∷ rs) (parts.4 ∙ ap (λ (r : Reply). parts.0 ++ r ∷ []) printed))
