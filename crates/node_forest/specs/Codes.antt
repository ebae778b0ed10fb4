-- Forests as ghost data: a forest is told by the list of its labels, with a mark where a row of siblings ends.
use Rattle.std.specs.Prelude.{◌≡◌, ℕ, List, [], ◌∷◌, ◌++◌, ◌⊎◌}
use Rattle.std.specs.Coded.{Coded, coded_ℕ, coded×, coded_list, coded⊎}
use base.Stored.{coded_via, coded_unit}
use mathlib.Core.Logic.{inl, inr, dite}
use native.Mathlib.Decide.{ℕ_discrete}
use Rattle.std.proofs.Common.{cond, eqb, refl, sym, ◌∙◌, ap, append_assoc}
use Rattle.node_forest.specs.Forest.{Forest, empty, grow, Tree}
use Rattle.node_forest.specs.Label.{Label, Node}
use Rattle.node_forest.specs.declared.kind.Kind.{Kind}
use Rattle.node_forest.specs.declared.kind.Kind.TheVariants.{Flat, External, Part, Sum, Branch}

abbrev pub written : {L : Type 0} → Forest L → List (Unit {0} ⊎ L)
written empty = inl tt ∷ []
written (grow l cs rest) = inr l ∷ (written cs ++ written rest)

abbrev pub Mark : Type 0 → Type 0
Mark L = Unit {0} ⊎ L

module _ {L : Type 0} where
  -- a forest is read back from the front of a list
  pub written_front : (f g : Forest L) (r s : List (Mark L)) → written f ++ r ≡ written g ++ s → (f ≡ g) × (r ≡ s)
  written_front empty empty r s e = (refl, cc)
  written_front empty (grow l cs rest) r s e = absurd (cc)
  written_front (grow l cs rest) empty r s e = absurd (cc)
  written_front (grow l cs rest) (grow m ds more) r s e =
      let tail : (written cs ++ written rest) ++ r ≡ (written ds ++ written more) ++ s = cc in
      let a : written cs ++ (written rest ++ r) ≡ written ds ++ (written more ++ s) = sym (append_assoc (written cs) (written rest) r)
      ∙ (tail ∙ append_assoc (written ds) (written more) s) in
      let p = written_front cs ds (written rest ++ r) (written more ++ s) a in
      let q = written_front rest more r s p.1 in
      let here : l ≡ m = cc in
      ((λ i. grow (here i) (p.0 i) (q.0 i)), q.1)

  pub written_one : (f g : Forest L) → written f ≡ written g → f ≡ g
  written_one f g e = (written_front f g [] [] (ap (λ (x : List (Mark L)). x ++ []) e)).0

  abbrev pub coded_forest : Coded L → Coded (Forest L)
  coded_forest c = coded_via (coded_list (coded⊎ coded_unit c)) written written_one

  abbrev pub coded_tree : Coded L → Coded (Tree L)
  coded_tree c = coded× c (coded_forest c)

abbrev pub kind_number : Kind → ℕ
kind_number Flat = 0
kind_number External = 1
kind_number Part = 2
kind_number Sum = 3
kind_number Branch = 4

-- the kind with a number
kind_at : ℕ → Kind
kind_at n = cond (eqb n 0) Flat (cond (eqb n 1) External (cond (eqb n 2) Part (cond (eqb n 3) Sum Branch)))

kind_back : (k : Kind) → kind_at (kind_number k) ≡ k
unfolding kind_at
kind_back Flat = refl
kind_back External = refl
kind_back Part = refl
kind_back Sum = refl
kind_back Branch = refl

pub kind_one : (x y : Kind) → kind_number x ≡ kind_number y → x ≡ y
kind_one x y e = sym (kind_back x) ∙ (ap kind_at e ∙ kind_back y)

-- whether two kinds are one
pub kind_discrete : (x y : Kind) → Dec (x ≡ y)
kind_discrete x y = dite (ℕ_discrete (kind_number x) (kind_number y)) (λ e. yes (kind_one x y e)) (λ n. no (λ e. n (ap kind_number e)))

abbrev pub coded_kind : Coded Kind
coded_kind = coded_via coded_ℕ kind_number kind_one

abbrev pub coded_label : Coded Label
coded_label =
    coded_via (coded× coded_ℕ (coded× coded_kind (coded× coded_ℕ (coded× (coded_list coded_ℕ) coded_ℕ))))
    (λ (c : Label). (c.number, (c.kind, (c.length, (c.bytes, c.more)))))
    (λ x y e i. record { number = (e i).0; kind = (e i).1.0; length = (e i).1.1.0; bytes = (e i).1.1.1.0; more = (e i).1.1.1.1 })

abbrev pub coded_node : Coded Node
coded_node = coded_tree coded_label
