-- What the history of a list of actions tells of each session.
use Rattle.std.proofs.Common.{◌≡◌, ℕ, ◌+◌, List, [], ◌∷◌, eqb, cond, Bool, true, false, map, sym, refl, ap, ◌∙◌, subst}
use Rattle.plain_cord.specs.declared.deed.Deed.{Deed}
use Rattle.plain_cord.specs.declared.history.Entry.{Entry}
use Rattle.plain_cord.specs.Deeds.{of_session, InOrder, entry_of}
use Rattle.cord_board.specs.Histories.{entries_of, CountUp}
use Rattle.cord_board.specs.Rule.{IsHistory}
use Rattle.cord_board.specs.Views.{has, came_back, mine_in}

module _ {C : Type 0} (size : C → ℕ) where
  entries-map : (p : ℕ) (ds : List (Deed C)) → entries_of p (map (entry_of size) ds) ≡ map (entry_of size) (of_session p ds)
  entries-map p [] = refl
  entries-map p (d ∷ ds) = either_way (eqb p d.session) (entries-map p ds)
    where
      either_way : (b : Bool) → entries_of p (map (entry_of size) ds) ≡ map (entry_of size) (of_session p ds)
          → cond b (entry_of size d ∷ entries_of p (map (entry_of size) ds)) (entries_of p (map (entry_of size) ds)) ≡ map (entry_of size) (cond b (d ∷ of_session p ds) (of_session p ds))
      either_way true h = ap (λ z. entry_of size d ∷ z) h
      either_way false h = h

  counts : (n : ℕ) (ds : List (Deed C)) → InOrder n ds → CountUp n (map (entry_of size) ds)
  counts n [] h = tt
  counts n (d ∷ ds) h = (h.0, counts (n + 1) ds h.1)

  module _ (history : List Entry) (gave : List ℕ) (joined : List (ℕ × List (Deed C))) (h : IsHistory size history gave joined) where
    entries_are : (p : ℕ) → entries_of p history ≡ map (entry_of size) (of_session p h.0)
    entries_are p = ap (entries_of p) h.2 ∙ entries-map p h.0

    pub counted : (p : ℕ) → CountUp 1 (entries_of p history)
    counted p = subst (CountUp 1) (sym (entries_are p)) (counts 1 (of_session p h.0) (h.1.numbered p))

    pub own : (p : ℕ) → came_back joined p ≡ true → entries_of p history ≡ map (entry_of size) (mine_in joined p)
    own p came = entries_are p ∙ ap (map (entry_of size)) (h.1.each p came)

    pub strangers : (p : ℕ) → has p gave ≡ false → entries_of p history ≡ []
    strangers p not = entries_are p ∙ ap (map (entry_of size)) (h.1.none p not)
