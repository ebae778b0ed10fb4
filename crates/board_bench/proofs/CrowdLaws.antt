-- The pass of `start` while sessions go out and come back, and what a session's action leaves of its view.
use Rattle.std.proofs.Common.{◌≡◌, ◌⊎◌, ℕ, ◌+◌, ◌-◌, ◌<◌, List, [], ◌∷◌, ◌++◌, ◌||◌, eqb, Bool, true, false, sym, refl, ap, ◌∙◌, ⊎_elim, inl, inr, arith, eq-eqb, eqb-true, ne_eqb, Option, Some, None, Result, Ok, Err}
use Rattle.std.specs.Prelude.{MatchResult}
use Rattle.plain_cord.specs.declared.deed.Deed.{Deed}
use Rattle.plain_cord.specs.declared.history.Act.TheVariants.{Swap}
use Rattle.plain_cord.specs.Deeds.{deed}
use Rattle.cord_board.specs.declared.view.BoardView.{BoardView}
use Rattle.cord_board.specs.declared.view.BoardView.TheVariants.{Root, Session}
use Rattle.cord_board.specs.Views.{has, entries_left, session_of, mine_of, gave_of, joined_of, clearings_of, came_back, next_place, IsRoot, IsSession, IsLast, CanAct, Did}
use Rattle.board_bench.specs.Crowds.{IsOpen, Returns}

module _ {C : Type 0} where
  root_is : (v : BoardView C) (n : ℕ) (gave : List ℕ) (joined : List (ℕ × List (Deed C))) (cleared : List (ℕ × Option C)) → v ≡ Root n gave joined cleared → IsRoot v
  root_is v n gave joined cleared e = e ∙ λ i. Root (sym (ap entries_left e) i) (sym (ap gave_of e) i) (sym (ap joined_of e) i) (sym (ap clearings_of e) i)

  -- what a session's pass still is
  pub record Still (v w : BoardView C) : Type 0 where
    pub session : IsSession w
    pub same : session_of w ≡ session_of v
    pub left : entries_left w + 1 ≡ entries_left v

  pub still : (v w : BoardView C) (d : Deed C) → CanAct v → Did v w d → Still v w
  still v w d can did = let some = can.1 in let less = ap entries_left did in record {
    session = did ∙ λ i. Session (sym (ap entries_left did) i) (sym (ap session_of did) i) (sym (ap mine_of did) i);
    same = ap session_of did;
    left = omega arith;
  }

  pub still_swapped : (v w : BoardView C) (cell : ℕ) (item : C) (r : Result C C) → CanAct v
      → MatchResult r (λ was. Did v w (deed (session_of v) (next_place v) Swap cell (Some item) (Some was))) (λ back. (back ≡ item) × Did v w (deed (session_of v) (next_place v) Swap cell None None))
      → Still v w
  still_swapped v w cell item (Ok was) can did = still v w (deed (session_of v) (next_place v) Swap cell (Some item) (Some was)) can did
  still_swapped v w cell item (Err back) can did = still v w (deed (session_of v) (next_place v) Swap cell None None) can did.1

  pub opened : (v : BoardView C) (n entries : ℕ) → v ≡ Root entries [] [] [] → IsOpen v n
  opened v n entries e = record { root = root_is v entries [] [] [] e; uncleared = ap clearings_of e; fresh = λ p _. ap (λ z. has p (gave_of z)) e }

  -- a session goes out
  pub one_out : (v w : BoardView C) (n left : ℕ) → IsOpen v n → 0 < n → w ≡ Root left (n ∷ gave_of v) (joined_of v) [] → IsOpen w (n - 1)
  one_out v w n left o some e = record {
    root = root_is w left (n ∷ gave_of v) (joined_of v) [] e;
    uncleared = ap clearings_of e;
    fresh = λ p small. ap (λ z. has p (gave_of z)) e ∙ (ap (λ b. b || has p (gave_of v)) (ne_eqb p n (λ same. omega arith)) ∙ o.fresh p (omega arith));
  }

  pub none_out : (v : BoardView C) (n : ℕ) → IsOpen v n → Returns v v
  none_out v n o = record { root = o.root; uncleared = o.uncleared; back = λ p given. inl given }

  came_more : (js : List (ℕ × List (Deed C))) (n : ℕ) (mine : List (Deed C)) (p : ℕ) → came_back js p ≡ true → came_back (js ++ (n, mine) ∷ []) p ≡ true
  came_more [] n mine p e = absurd (cc)
  came_more (j ∷ js) n mine p e = either_way (eqb p j.0) e (came_more js n mine p)
    where
      either_way : (b : Bool) → (b || came_back js p) ≡ true → (came_back js p ≡ true → came_back (js ++ (n, mine) ∷ []) p ≡ true) → (b || came_back (js ++ (n, mine) ∷ []) p) ≡ true
      either_way true e rest = refl
      either_way false e rest = rest e

  came_last : (js : List (ℕ × List (Deed C))) (n : ℕ) (mine : List (Deed C)) (p : ℕ) → p ≡ n → came_back (js ++ (n, mine) ∷ []) p ≡ true
  came_last [] n mine p e = ap (λ b. b || false) (eq-eqb p n e)
  came_last (j ∷ js) n mine p e = either_way (eqb p j.0) (came_last js n mine p e)
    where
      either_way : (b : Bool) → came_back (js ++ (n, mine) ∷ []) p ≡ true → (b || came_back (js ++ (n, mine) ∷ []) p) ≡ true
      either_way true h = refl
      either_way false h = h

  -- it comes back, when those that went out meanwhile are back
  pub one_back : (v out others w : BoardView C) (n q left left' : ℕ) (mine : List (Deed C)) → out ≡ Root left (n ∷ gave_of v) (joined_of v) [] → Returns out others → q ≡ n
      → w ≡ Root left' (gave_of others) (joined_of others ++ (q, mine) ∷ []) (clearings_of others) → Returns v w
  one_back v out others w n q left left' mine went r is_n came = record {
    root = root_is w left' (gave_of others) (joined_of others ++ (q, mine) ∷ []) (clearings_of others) came;
    uncleared = ap clearings_of came ∙ r.uncleared;
    back = λ p given. ⊎_elim
        (λ (e : has p (gave_of out) ≡ true). first p (eqb p n) refl (sym (ap (λ z. has p (gave_of z)) went) ∙ e))
        (λ (e : came_back (joined_of others) p ≡ true). inr (ap (λ z. came_back (joined_of z) p) came ∙ came_more (joined_of others) q mine p e))
        (r.back p (sym (ap (λ z. has p (gave_of z)) came) ∙ given));
  }
    where
      first : (p : ℕ) (b : Bool) → eqb p n ≡ b → (b || has p (gave_of v)) ≡ true → (has p (gave_of v) ≡ true) ⊎ (came_back (joined_of w) p ≡ true)
      first p true is e = inr (ap (λ z. came_back (joined_of z) p) came ∙ came_last (joined_of others) q mine p (eqb-true p n is ∙ sym is_n))
      first p false is e = inl e

  pub all_back : (v w : BoardView C) (entries : ℕ) → v ≡ Root entries [] [] [] → Returns v w → IsLast w
  all_back v w entries e r = (r.root, λ p given. ⊎_elim (λ (h : has p (gave_of v) ≡ true). absurd (let f = sym (ap (λ z. has p (gave_of z)) e) ∙ h in cc)) (λ h. h) (r.back p given))
