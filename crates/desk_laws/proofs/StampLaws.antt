-- No stamp is reserved twice: each is one more than those given before.
use Rattle.std.proofs.Common.{◌≡◌, ◌≢◌, ℕ, ◌+◌, ◌<◌, ◌≤◌, List, [], ◌∷◌, ◌++◌, cond, refl, sym, ap, ◌∙◌, ⊎_elim, arith, eq-eqb, ne_eqb}
use Rattle.std.specs.Prelude.{◌==◌, All}
use Rattle.std.specs.List.{sum_by, flat_map, AllByRecursion}
use Rattle.std.proofs.lemmas.Bool.{cases_eq}
use Rattle.std.proofs.lemmas.List.Sums.{sum_by-cons}
use Rattle.std.proofs.lemmas.List.Elements.{All-from_recursion}
use Rattle.cord_runs.specs.Stamps.{AreDifferent}
use Rattle.cordz_core.specs.History.{History, stamps_given}
use Rattle.record_rule.specs.declared.views.Deed.{Deed}
use Rattle.record_rule.specs.declared.views.Deed.TheVariants.{Reserve, Full, Free, Track, Unlink, Settle, Snap, Unsnap, Head, Next}
use Rattle.record_rule.specs.declared.views.LogEntry.{LogEntry}
use Rattle.record_rule.specs.declared.views.TokenView.{TokenView}
use Rattle.record_rule.specs.Log.{after_deed, history, IsAnswer, IsLog}
use Rattle.cordz_desk.specs.declared.share.Share.{Share}
use Rattle.cordz_desk.specs.Closed.{IsClosed}
use Rattle.desk_laws.specs.Counts.{reserved_by, counted_in, reserved_in}
use Rattle.desk_laws.specs.Ends.{AreAll}
use Rattle.desk_laws.proofs.Counting.{tokens_count}

-- how often a number stands in a list
abbrev pub times : ℕ → List ℕ → ℕ
times m [] = 0
times m (x ∷ xs) = cond (m == x) 1 0 + times m xs

times_append : (m : ℕ) (xs ys : List ℕ) → times m (xs ++ ys) ≡ times m xs + times m ys
times_append m [] ys = omega arith
times_append m (x ∷ xs) ys = let h = times_append m xs ys in omega arith

times_first : (m x : ℕ) (xs : List ℕ) → m ≡ x → times m (x ∷ xs) ≡ 1 + times m xs
times_first m x xs is = ap (λ b. cond b 1 0 + times m xs) (eq-eqb m x is)

none_more : (n : ℕ) → 0 + n ≡ n
none_more n = omega arith

times_later : (m x : ℕ) (xs : List ℕ) → m ≢ x → times m (x ∷ xs) ≡ times m xs
times_later m x xs not = ap (λ b. cond b 1 0 + times m xs) (ne_eqb m x not) ∙ none_more (times m xs)

-- a number that stands nowhere is none of these
absent : (m : ℕ) (xs : List ℕ) → times m xs ≡ 0 → AllByRecursion (λ x. m ≢ x) xs
absent m [] none = tt
absent m (x ∷ xs) none = (
  λ is. (let h = times_first m x xs is in omega arith),
  absent m xs (let h = times_append m (x ∷ []) xs in omega arith),
)

apart : (xs : List ℕ) → ((m : ℕ) → times m xs ≤ 1) → AreDifferent xs
apart [] once = tt
apart (x ∷ xs) once = (
  All-from_recursion (λ m. x ≢ m) xs (absent x xs (let h = times_first x x xs refl in let k = once x in omega arith)),
  apart xs (λ m. let h = times_append m (x ∷ []) xs in let k = once m in omega arith),
)

abbrev reserves_of : ℕ → Deed → ℕ
reserves_of m d = times m (reserved_by d)

times_reserved : (m : ℕ) (own : List LogEntry) → times m (reserved_in own) ≡ counted_in (reserves_of m) own
times_reserved m [] = refl
times_reserved m (e ∷ es) = times_append m (reserved_by e.deed) (reserved_in es) ∙ ap (λ n. times m (reserved_by e.deed) + n) (times_reserved m es)

times_tokens : (m : ℕ) (tokens : List TokenView) → times m (flat_map (λ (p : TokenView). reserved_in p.own) tokens) ≡ sum_by (λ (p : TokenView). counted_in (reserves_of m) p.own) tokens
times_tokens m [] = refl
times_tokens m (p ∷ ps) =
    times_append m (reserved_in p.own) (flat_map (λ (q : TokenView). reserved_in q.own) ps)
    ∙ ((λ i. times_reserved m p.own i + times_tokens m ps i) ∙ sym (sum_by-cons (λ (q : TokenView). counted_in (reserves_of m) q.own) p ps))

-- the stamps of a history's reserves
abbrev pub Reserved : History → List ℕ → Type 0
Reserved h xs = (m : ℕ) → (times m xs ≤ 1) × (stamps_given h < m → times m xs ≡ 0) × (m ≡ 0 → times m xs ≡ 0)

reserved_more : (h : History) (xs : List ℕ) (stamp : ℕ) → stamp ≡ stamps_given h + 1 → Reserved h xs → (m : ℕ) → (times m (stamp ∷ xs) ≤ 1) × (stamps_given h + 1 < m → times m (stamp ∷ xs) ≡ 0) × (m ≡ 0 → times m (stamp ∷ xs) ≡ 0)
reserved_more h xs stamp is r m = ⊎_elim
    (λ same. let a = times_first m stamp xs same in let b = (r m).1 (omega arith) in (omega arith, (λ more. omega arith), (λ none. omega arith)))
    (λ other. let a = times_later m stamp xs other in let b = (r m).0 in (omega arith, (λ more. a ∙ (r m).1 (omega arith)), (λ none. a ∙ (r m).2 none)))
    (cases_eq m stamp)

reserved_step : (d : Deed) (h : History) (xs : List ℕ) → IsAnswer d h → Reserved h xs → Reserved (after_deed d h) (reserved_by d ++ xs)
reserved_step (Reserve s stamp) h xs is r = reserved_more h xs stamp is r
reserved_step Full h xs is r = r
reserved_step (Free s) h xs is r = r
reserved_step (Track s) h xs is r = r
reserved_step (Unlink s) h xs is r = r
reserved_step (Settle s answer) h xs is r = r
reserved_step (Snap w) h xs is r = r
reserved_step (Unsnap w gone) h xs is r = r
reserved_step (Head answer) h xs is r = r
reserved_step (Next s answer) h xs is r = r

reserved_log : (log : List LogEntry) → IsLog log → Reserved (history log) (reserved_in log)
reserved_log [] is = λ m. (omega arith, (λ more. refl), (λ none. refl))
reserved_log (e ∷ es) is = reserved_step e.deed (history es) (reserved_in es) is.1 (reserved_log es is.2)

-- a list without 0
above : (x : ℕ) → 0 ≢ x → 1 ≤ x
above x not = omega arith

positive : (xs : List ℕ) → times 0 xs ≡ 0 → AllByRecursion (λ x. 1 ≤ x) xs
positive [] none = tt
positive (x ∷ xs) none = (
  ⊎_elim (λ is. let h = times_first 0 x xs is in absurd (omega arith)) (λ not. above x not) (cases_eq 0 x),
  positive xs (let h = times_append 0 (x ∷ []) xs in omega arith),
)

module _ {P : Type 0} (tokens : List TokenView) (given : ℕ) (shares : List (Share P)) (closed : IsClosed tokens given shares) (all : AreAll tokens given) where
  reserved_all : (m : ℕ) → times m (flat_map (λ (p : TokenView). reserved_in p.own) tokens) ≡ times m (reserved_in closed.facts.log)
  reserved_all m = times_tokens m tokens ∙ (tokens_count (reserves_of m) closed.facts tokens given closed.knew all closed.others ∙ sym (times_reserved m closed.facts.log))

  pub reserved_once : AreDifferent (flat_map (λ (p : TokenView). reserved_in p.own) tokens)
  reserved_once = apart _ (λ m. let a = reserved_all m in let b = (reserved_log closed.facts.log closed.log m).0 in omega arith)

  pub reserved_positive : All (λ stamp. 1 ≤ stamp) (flat_map (λ (p : TokenView). reserved_in p.own) tokens)
  reserved_positive = All-from_recursion (λ stamp. 1 ≤ stamp) _ (positive _ (reserved_all 0 ∙ (reserved_log closed.facts.log closed.log 0).2 refl))
