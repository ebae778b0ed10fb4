-- Laws on which seat speaks for a session, and what it says of it.
use Rattle.std.proofs.Common.{◌≡◌, ◌≢◌, ℕ, zero, suc, ◌+◌, ◌≤◌, List, [], ◌∷◌, ◌++◌, eqb, cond, Bool, true, false, ◌||◌, set, sym, refl, ap, ◌∙◌, subst, ⊎_elim}
use Rattle.std.proofs.Common.{arith, eqb-true, ne_eqb, Option, Some, None}
use mathlib.Core.Option.{some, some-injective, some-ne-none}
use lib.ListN.{get_elem?}
use Rattle.atomic_table.proofs.Lists.{at_set}
use Rattle.plain_cord.specs.declared.deed.Deed.{Deed}
use Rattle.cord_board.specs.declared.view.BoardView.{BoardView}
use Rattle.cord_board.specs.declared.view.BoardView.TheVariants.{Root, Session}
use Rattle.cord_board.specs.Deeds.{off, or_true, of_other}
use Rattle.cord_board.specs.Rule.{left_of, all_left, Speaks, SpeaksEach, Fits}
use Rattle.cord_board.specs.Views.{has, came_back, mine_in}

module _ {C : Type 0} where
  -- after the change of one seat
  pub fits_set : (log log' : List (Deed C)) (given given' : List ℕ) (owner owner' : ℕ → ℕ) (cleared cleared' : List (ℕ × Option C)) (root : ℕ)
      (views : List (Option (BoardView C))) (by : ℕ) (w : Option (BoardView C))
      → Fits log' given' owner' by cleared' root w
      → ((j : ℕ) (v : Option (BoardView C)) → j ≢ by → Fits log given owner j cleared root v → Fits log' given' owner' j cleared' root v)
      → ((j : ℕ) (v : Option (BoardView C)) → get_elem? views j ≡ some v → Fits log given owner j cleared root v)
      → (j : ℕ) (v : Option (BoardView C)) → get_elem? (set views by w) j ≡ some v → Fits log' given' owner' j cleared' root v
  fits_set log log' given given' owner owner' cleared cleared' root views by w mine others each j v e = ⊎_elim
      (λ (t : (j ≡ by) × (w ≡ v)). subst (λ (z : ℕ × Option (BoardView C)). Fits log' given' owner' z.0 cleared' root z.1) (λ i. (sym t.0 i, t.1 i)) mine)
      (λ (t : (j ≢ by) × (get_elem? views j ≡ some v)). others j v t.0 (each j v t.1))
      (at_set views by j w v e)

  -- after the change of one seat, where another goes
  pub without : (log : List (Deed C)) (given : List ℕ) (owner owner' : ℕ → ℕ) (cleared : List (ℕ × Option C)) (root : ℕ)
      (views : List (Option (BoardView C))) (by other : ℕ) (w : Option (BoardView C))
      → Fits log given owner' by cleared root w
      → ((j : ℕ) (v : Option (BoardView C)) → j ≢ by → j ≢ other → Fits log given owner j cleared root v → Fits log given owner' j cleared root v)
      → ((j : ℕ) (v : Option (BoardView C)) → get_elem? views j ≡ some v → Fits log given owner j cleared root v)
      → (j : ℕ) (v : Option (BoardView C)) → get_elem? (set (set views by w) other None) j ≡ some v → Fits log given owner' j cleared root v
  without log given owner owner' cleared root views by other w mine others each j v e = ⊎_elim
      (λ (t : (j ≡ other) × (None ≡ v)). subst (λ (z : Option (BoardView C)). Fits log given owner' j cleared root z) t.1 tt)
      (λ (t : (j ≢ other) × (get_elem? (set views by w) j ≡ some v)). ⊎_elim
      (λ (u : (j ≡ by) × (w ≡ v)). subst (λ (z : ℕ × Option (BoardView C)). Fits log given owner' z.0 cleared root z.1) (λ i. (sym u.0 i, u.1 i)) mine)
      (λ (u : (j ≢ by) × (get_elem? views j ≡ some v)). others j v u.0 t.0 (each j v u.1))
      (at_set views by j w v t.1))
      (at_set (set views by w) other j None v e)

  pub speaks_in : (log : List (Deed C)) (given : List ℕ) (owner : ℕ → ℕ) (by : ℕ) (joined : List (ℕ × List (Deed C))) (p : ℕ)
      → SpeaksEach log given owner by joined → came_back joined p ≡ true → Speaks log given owner by p (mine_in joined p)
  speaks_in log given owner by [] p s e = absurd (cc)
  speaks_in log given owner by (m ∷ ms) p s e = either_way (eqb p m.0) refl e (speaks_in log given owner by ms p s.1)
    where
      either_way : (b : Bool) → eqb p m.0 ≡ b → (b || came_back ms p) ≡ true → (came_back ms p ≡ true → Speaks log given owner by p (mine_in ms p))
          → Speaks log given owner by p (cond b m.1 (mine_in ms p))
      either_way true is e rest = subst (λ (z : ℕ). Speaks log given owner by z m.1) (sym (eqb-true p m.0 is)) s.0
      either_way false is e rest = rest e

  -- an action of another session
  speaks_still : (log : List (Deed C)) (given : List ℕ) (owner : ℕ → ℕ) (by : ℕ) (d : Deed C) → owner d.session ≡ by → (j : ℕ) → j ≢ by
      → (p : ℕ) (m : List (Deed C)) → Speaks log given owner j p m → Speaks (log ++ d ∷ []) given owner j p m
  speaks_still log given owner by d mine j apart p m k = (k.0, k.1, of_other p log d (λ e. apart (sym k.1 ∙ (ap owner e ∙ mine))) ∙ k.2)

  each_still : (log : List (Deed C)) (given : List ℕ) (owner : ℕ → ℕ) (by : ℕ) (d : Deed C) → owner d.session ≡ by → (j : ℕ) → j ≢ by
      → (ms : List (ℕ × List (Deed C))) → SpeaksEach log given owner j ms → SpeaksEach (log ++ d ∷ []) given owner j ms
  each_still log given owner by d mine j apart [] k = tt
  each_still log given owner by d mine j apart (m ∷ ms) k =
      (speaks_still log given owner by d mine j apart m.0 m.1 k.0, each_still log given owner by d mine j apart ms k.1)

  -- an action of the session p, by the seat that speaks for it, leaves what the others say
  pub others_left : (log : List (Deed C)) (given : List ℕ) (owner : ℕ → ℕ) (cleared : List (ℕ × Option C)) (root by : ℕ) (d : Deed C) → owner d.session ≡ by
      → (j : ℕ) (v : Option (BoardView C)) → j ≢ by → Fits log given owner j cleared root v → Fits (log ++ d ∷ []) given owner j cleared root v
  others_left log given owner cleared root by d mine j None apart k = tt
  others_left log given owner cleared root by d mine j (Some (Session n p m)) apart k = (speaks_still log given owner by d mine j apart p m k.0, k.1)
  others_left log given owner cleared root by d mine j (Some (Root n g ms cs)) apart k = (k.0, k.1, each_still log given owner by d mine j apart ms k.2, k.3)

  -- when all sessions are back, only the root's seat says anything
  pub others_cleared : (log : List (Deed C)) (given : List ℕ) (owner : ℕ → ℕ) (cleared : List (ℕ × Option C)) (root by : ℕ) (cell : ℕ × Option C)
      (joined : List (ℕ × List (Deed C))) → by ≡ root → SpeaksEach log given owner by joined → ((p : ℕ) → has p given ≡ true → came_back joined p ≡ true)
      → (j : ℕ) (v : Option (BoardView C)) → j ≢ by → Fits log given owner j cleared root v → Fits log given owner j (cell ∷ cleared) root v
  others_cleared log given owner cleared root by cell joined is speaks back j None apart k = tt
  others_cleared log given owner cleared root by cell joined is speaks back j (Some (Session n p m)) apart k =
      absurd (apart (sym k.0.1 ∙ (speaks_in log given owner by joined p speaks (back p k.0.0)).1))
  others_cleared log given owner cleared root by cell joined is speaks back j (Some (Root n g ms cs)) apart k = absurd (apart (k.0 ∙ sym is))

  speaks_given : (log : List (Deed C)) (given : List ℕ) (owner : ℕ → ℕ) (p new : ℕ) → has p given ≡ false → (j q : ℕ) (m : List (Deed C))
      → Speaks log given owner j q m → Speaks log (p ∷ given) (λ r. cond (eqb r p) new (owner r)) j q m
  speaks_given log given owner p new fresh j q m k =
      let other : q ≢ p = λ e. off (sym fresh ∙ (ap (λ z. has z given) (sym e) ∙ k.0)) in
      (or_true (eqb q p) (has q given) k.0, ap (λ z. cond z new (owner q)) (ne_eqb q p other) ∙ k.1, k.2)

  pub each_given : (log : List (Deed C)) (given : List ℕ) (owner : ℕ → ℕ) (p new : ℕ) → has p given ≡ false → (j : ℕ) (ms : List (ℕ × List (Deed C)))
      → SpeaksEach log given owner j ms → SpeaksEach log (p ∷ given) (λ r. cond (eqb r p) new (owner r)) j ms
  each_given log given owner p new fresh j [] k = tt
  each_given log given owner p new fresh j (m ∷ ms) k =
      (speaks_given log given owner p new fresh j m.0 m.1 k.0, each_given log given owner p new fresh j ms k.1)

  -- a new session is one that none spoke for
  pub others_given : (log : List (Deed C)) (given : List ℕ) (owner : ℕ → ℕ) (cleared : List (ℕ × Option C)) (root p new : ℕ) → has p given ≡ false
      → (j : ℕ) (v : Option (BoardView C)) → j ≢ root → Fits log given owner j cleared root v
      → Fits log (p ∷ given) (λ q. cond (eqb q p) new (owner q)) j cleared root v
  others_given log given owner cleared root p new fresh j None apart k = tt
  others_given log given owner cleared root p new fresh j (Some (Session n q m)) apart k = (speaks_given log given owner p new fresh j q m k.0, k.1)
  others_given log given owner cleared root p new fresh j (Some (Root n g ms cs)) apart k = absurd (apart k.0)

  -- the root takes over the session p, which the seat `other` spoke for
  speaks_joined : (log : List (Deed C)) (given : List ℕ) (owner : ℕ → ℕ) (p by other : ℕ) → owner p ≡ other → (j q : ℕ) (m : List (Deed C)) → j ≢ other
      → Speaks log given owner j q m → Speaks log given (λ r. cond (eqb r p) by (owner r)) j q m
  speaks_joined log given owner p by other mine j q m apart k =
      let not : q ≢ p = λ e. apart (sym k.1 ∙ (ap owner e ∙ mine)) in
      (k.0, ap (λ z. cond z by (owner q)) (ne_eqb q p not) ∙ k.1, k.2)

  taken_over : (log : List (Deed C)) (given : List ℕ) (owner : ℕ → ℕ) (p by : ℕ) (q : ℕ) (m : List (Deed C)) → Speaks log given owner by q m
      → Speaks log given (λ r. cond (eqb r p) by (owner r)) by q m
  taken_over log given owner p by q m k = (k.0, either_way (eqb q p) k.1, k.2)
    where
      either_way : (b : Bool) → owner q ≡ by → cond b by (owner q) ≡ by
      either_way true e = refl
      either_way false e = e

  pub each_joined : (log : List (Deed C)) (given : List ℕ) (owner : ℕ → ℕ) (p by : ℕ) (ms : List (ℕ × List (Deed C))) (m : List (Deed C))
      → SpeaksEach log given owner by ms → Speaks log given (λ r. cond (eqb r p) by (owner r)) by p m
      → SpeaksEach log given (λ r. cond (eqb r p) by (owner r)) by (ms ++ (p, m) ∷ [])
  each_joined log given owner p by [] m k new = (new, tt)
  each_joined log given owner p by (n ∷ ms) m k new = (taken_over log given owner p by n.0 n.1 k.0, each_joined log given owner p by ms m k.1 new)

  pub others_joined : (log : List (Deed C)) (given : List ℕ) (owner : ℕ → ℕ) (cleared : List (ℕ × Option C)) (root p by other : ℕ) → owner p ≡ other
      → (j : ℕ) (v : Option (BoardView C)) → j ≢ by → j ≢ other → j ≢ root → Fits log given owner j cleared root v
      → Fits log given (λ r. cond (eqb r p) by (owner r)) j cleared root v
  others_joined log given owner cleared root p by other mine j None apart apart' not k = tt
  others_joined log given owner cleared root p by other mine j (Some (Session n q m)) apart apart' not k =
      (speaks_joined log given owner p by other mine j q m apart' k.0, k.1)
  others_joined log given owner cleared root p by other mine j (Some (Root n g ms cs)) apart apart' not k = absurd (not k.0)

  -- the entries that all passes have left
  pub all_left_set : (vs : List (Option (BoardView C))) (i : ℕ) (v w : Option (BoardView C)) → get_elem? vs i ≡ some v
      → all_left (set vs i w) + left_of v ≡ all_left vs + left_of w
  all_left_set [] i v w e = absurd (some-ne-none v (sym e))
  all_left_set (x ∷ vs) zero v w e = let same = ap left_of (some-injective x v e) in omega arith
  all_left_set (x ∷ vs) (suc i) v w e = let h = all_left_set vs i v w e in omega arith

  pub all_left_more : (vs : List (Option (BoardView C))) (v : Option (BoardView C)) → all_left (vs ++ v ∷ []) ≡ all_left vs + left_of v
  all_left_more [] v = omega arith
  all_left_more (x ∷ vs) v = let h = all_left_more vs v in omega arith

  pub left_among : (vs : List (Option (BoardView C))) (i : ℕ) (v : Option (BoardView C)) → get_elem? vs i ≡ some v → left_of v ≤ all_left vs
  left_among [] i v e = absurd (some-ne-none v (sym e))
  left_among (x ∷ vs) zero v e = let same = ap left_of (some-injective x v e) in omega arith
  left_among (x ∷ vs) (suc i) v e = let h = left_among vs i v e in omega arith
