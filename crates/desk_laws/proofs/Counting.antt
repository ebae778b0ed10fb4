-- What all tokens' entries count together is what the log counts.
use Rattle.std.proofs.Common.{◌≡◌, ◌≢◌, ℕ, zero, suc, ◌+◌, ◌<◌, ◌≤◌, List, [], ◌∷◌, ◌++◌, Bool, true, false, cond, map, refl, sym, ap, ◌∙◌, ⊎_elim, arith, eq-eqb, ne_eqb}
use Rattle.std.specs.Prelude.{◌==◌}
use Rattle.std.specs.List.{sum_by}
use Rattle.std.proofs.lemmas.Bool.{cases_lt}
use Rattle.std.proofs.lemmas.List.Sums.{sum_by-cons}
use Rattle.node_pool.specs.Boxes.{below}
use Rattle.record_rule.specs.declared.views.Deed.{Deed}
use Rattle.record_rule.specs.declared.views.LogEntry.{LogEntry}
use Rattle.record_rule.specs.declared.views.TokenView.{TokenView}
use Rattle.record_rule.specs.Log.{of_token}
use Rattle.record_rule.specs.World.{Facts}
use Rattle.cordz_desk.specs.Closed.{Each, Knew}
use Rattle.desk_laws.specs.Counts.{counted_in}
use Rattle.desk_laws.specs.Ends.{AreAll}

module _ (count : Deed → ℕ) where
  -- what the tokens of these numbers count
  abbrev pub counted_of : List LogEntry → List ℕ → ℕ
  counted_of log [] = 0
  counted_of log (n ∷ ns) = counted_in count (of_token n log) + counted_of log ns

  counted_more : (log : List LogEntry) (ns : List ℕ) (n : ℕ) → counted_of log (ns ++ n ∷ []) ≡ counted_of log ns + counted_in count (of_token n log)
  counted_more log [] n = omega arith
  counted_more log (m ∷ ns) n = let h = counted_more log ns n in omega arith

  counted_none : (ns : List ℕ) → counted_of [] ns ≡ 0
  counted_none [] = refl
  counted_none (n ∷ ns) = let h = counted_none ns in omega arith

  own_more : (n : ℕ) (e : LogEntry) (es : List LogEntry) → n ≡ e.by → counted_in count (of_token n (e ∷ es)) ≡ count e.deed + counted_in count (of_token n es)
  own_more n e es is = ap (λ b. counted_in count (cond b (e ∷ of_token n es) (of_token n es))) (eq-eqb n e.by is)

  own_same : (n : ℕ) (e : LogEntry) (es : List LogEntry) → n ≢ e.by → counted_in count (of_token n (e ∷ es)) ≡ counted_in count (of_token n es)
  own_same n e es not = ap (λ b. counted_in count (cond b (e ∷ of_token n es) (of_token n es))) (ne_eqb n e.by not)

  counted_past : (m : ℕ) (e : LogEntry) (es : List LogEntry) → m ≤ e.by → counted_of (e ∷ es) (below m) ≡ counted_of es (below m)
  counted_past zero e es past = refl
  counted_past (suc m) e es past =
      let a = counted_more (e ∷ es) (below m) m in
      let b = counted_more es (below m) m in
      let c = counted_past m e es (omega arith) in
      let d = own_same m e es (λ is. omega arith) in
      omega arith

  counted_within : (m : ℕ) (e : LogEntry) (es : List LogEntry) → e.by < m → counted_of (e ∷ es) (below m) ≡ count e.deed + counted_of es (below m)
  counted_within zero e es less = absurd (omega arith)
  counted_within (suc m) e es less =
      let a = counted_more (e ∷ es) (below m) m in
      let b = counted_more es (below m) m in
      ⊎_elim
      (λ inside.
      let c = counted_within m e es inside in
      let d = own_same m e es (λ is. omega arith) in
      omega arith)
      (λ last.
      let c = counted_past m e es last in
      let d = own_more m e es (omega arith) in
      omega arith)
      (cases_lt e.by m)

  none_before : (e : LogEntry) (xs : List LogEntry) (b : Bool) → cond b (e ∷ xs) xs ≡ [] → (b ≡ false) × (xs ≡ [])
  none_before e xs true is = absurd (cc)
  none_before e xs false is = (refl, is)

  counted_all : (log : List LogEntry) (given : ℕ) → ((n : ℕ) → given ≤ n → of_token n log ≡ []) → counted_of log (below given) ≡ counted_in count log
  counted_all [] given none = counted_none (below given)
  counted_all (e ∷ es) given none =
      let inside : e.by < given = ⊎_elim (λ less. less)
      (λ past. let z : true ≡ false = sym (eq-eqb e.by e.by refl) ∙ (none_before e (of_token e.by es) (e.by == e.by) (none e.by past)).0 in absurd (cc))
      (cases_lt e.by given) in
      counted_within given e es inside ∙ ap (λ n. count e.deed + n) (counted_all es given (λ n past. (none_before e (of_token n es) (n == e.by) (none n past)).1))

  counted_tokens : (g : Facts) (tokens : List TokenView) → Each (Knew g) tokens → sum_by (λ (p : TokenView). counted_in count p.own) tokens ≡ counted_of g.log (map (λ (p : TokenView). p.number) tokens)
  counted_tokens g [] knew = refl
  counted_tokens g (p ∷ ps) knew = sum_by-cons (λ (q : TokenView). counted_in count q.own) p ps ∙ (λ i. counted_in count (sym knew.0.own i) + counted_tokens g ps knew.1 i)

  -- of all tokens that a desk gave
  pub tokens_count : (g : Facts) (tokens : List TokenView) (given : ℕ) → Each (Knew g) tokens → AreAll tokens given → ((n : ℕ) → given ≤ n → of_token n g.log ≡ []) → sum_by (λ (p : TokenView). counted_in count p.own) tokens ≡ counted_in count g.log
  tokens_count g tokens given knew all none = counted_tokens g tokens knew ∙ (ap (counted_of g.log) all ∙ counted_all g.log given none)
