-- The first pass while sessions are seated, and while they come back.
use Rattle.std.proofs.Common.{◌≡◌, ℕ, ◌+◌, ◌-◌, ◌<◌, List, [], ◌∷◌, ◌++◌, ◌||◌, eqb, cond, Bool, true, false, length, get_or, sym, refl, ap, ◌∙◌, arith, add-one, eq-eqb, ne_eqb, Option}
use mathlib.Core.Logic.{dite}
use native.Mathlib.Decide.{ℕ_discrete}
use Rattle.plain_cord.specs.declared.script.Session.{Session}
use Rattle.plain_cord.specs.declared.deed.Deed.{Deed}
use Rattle.cord_board.specs.declared.view.BoardView.{BoardView}
use Rattle.cord_board.specs.declared.view.BoardView.TheVariants.{Root}
use Rattle.cord_board.specs.declared.view.BoardView.TheVariants as views
use Rattle.cord_board.specs.Views.{entries_left, session_of, gave_of, joined_of, mine_of, mine_in, clearings_of, came_back, IsRoot, IsSession}
use Rattle.cord_value.specs.Views.{CordView}
use Rattle.cord_seats.specs.Entries.{entries_for_all}
use Rattle.cord_seats.specs.Chairs.{Seated, Joined, below}
use Rattle.cord_seats.proofs.Entries.{sessions-drop}

abbrev Joins : Type 0
Joins = List (ℕ × List (Deed CordView))

root_is : (w : BoardView CordView) (n : ℕ) (gave : List ℕ) (joined : Joins) (cleared : List (ℕ × Option CordView)) → w ≡ Root n gave joined cleared → IsRoot w
root_is w n gave joined cleared e = e ∙ λ i. Root (sym (ap entries_left e) i) (sym (ap gave_of e) i) (sym (ap joined_of e) i) (sym (ap clearings_of e) i)

pub session_is : (w : BoardView CordView) (n p : ℕ) (mine : List (Deed CordView)) → w ≡ views.Session n p mine → IsSession w
session_is w n p mine e = e ∙ λ i. views.Session (sym (ap entries_left e) i) (sym (ap session_of e) i) (sym (ap mine_of e) i)

-- one session more has its pass
pub one_seated : (v w : BoardView CordView) (sessions : List Session) (session : Session) (n : ℕ) → Seated v sessions n → n < length sessions → session ≡ get_or sessions n session
    → w ≡ Root (entries_left v - entries_for_all session.commands) (n ∷ gave_of v) (joined_of v) [] → Seated w sessions (n + 1)
one_seated v w sessions session n s inside is from =
    let left = ap entries_left from in
    let had = s.left in
    let parts = sessions-drop n sessions session (omega arith) is in
    record {
      root = root_is w _ _ _ _ from;
      gave = ap gave_of from ∙ (ap (λ z. n ∷ z) s.gave ∙ ap below (sym (add-one n)));
      joined = ap joined_of from ∙ s.joined;
      cleared = ap clearings_of from;
      left = omega arith;
    }

came_more : (js : Joins) (k : ℕ) (m : List (Deed CordView)) (p : ℕ) → came_back (js ++ (k, m) ∷ []) p ≡ (came_back js p || eqb p k)
came_more [] k m p = or_false (eqb p k)
  where
    or_false : (b : Bool) → (b || false) ≡ b
    or_false true = refl
    or_false false = refl
came_more (j ∷ js) k m p = ap (λ b. eqb p j.0 || b) (came_more js k m p) ∙ or_assoc (eqb p j.0) (came_back js p) (eqb p k)
  where
    or_assoc : (a b c : Bool) → (a || (b || c)) ≡ ((a || b) || c)
    or_assoc true b c = refl
    or_assoc false b c = refl

-- what the sessions did that came back before
pub mine_still : (js : Joins) (k : ℕ) (m : List (Deed CordView)) (p : ℕ) → came_back js p ≡ true → mine_in (js ++ (k, m) ∷ []) p ≡ mine_in js p
mine_still [] k m p e = absurd (cc)
mine_still (j ∷ js) k m p e = either_way (eqb p j.0) e (mine_still js k m p)
  where
    either_way : (b : Bool) → (b || came_back js p) ≡ true → (came_back js p ≡ true → mine_in (js ++ (k, m) ∷ []) p ≡ mine_in js p) → cond b j.1 (mine_in (js ++ (k, m) ∷ []) p) ≡ cond b j.1 (mine_in js p)
    either_way true e rest = refl
    either_way false e rest = rest e

-- and what the one did that came back last
pub mine_last : (js : Joins) (k : ℕ) (m : List (Deed CordView)) → came_back js k ≡ false → mine_in (js ++ (k, m) ∷ []) k ≡ m
mine_last [] k m e = ap (λ b. cond b m []) (eq-eqb k k refl)
mine_last (j ∷ js) k m e = either_way (eqb k j.0) e (mine_last js k m)
  where
    either_way : (b : Bool) → (b || came_back js k) ≡ false → (came_back js k ≡ false → mine_in (js ++ (k, m) ∷ []) k ≡ m) → cond b j.1 (mine_in (js ++ (k, m) ∷ []) k) ≡ m
    either_way true e rest = absurd (cc)
    either_way false e rest = rest e

pub none_joined : (v : BoardView CordView) (sessions : List Session) (n : ℕ) → Seated v sessions n → Joined v n 0
none_joined v sessions n s = record {
  root = s.root;
  gave = s.gave;
  cleared = s.cleared;
  back = λ p h. absurd (omega arith);
  away = λ p h. ap (λ z. came_back z p) s.joined;
}

pub one_joined : (v w : BoardView CordView) (n k left : ℕ) (m : List (Deed CordView)) (cleared : List (ℕ × Option CordView)) → Joined v n k
    → w ≡ Root left (gave_of v) (joined_of v ++ (k, m) ∷ []) cleared → cleared ≡ [] → Joined w n (k + 1)
one_joined v w n k left m cleared s from none =
    let js : Joins = joined_of v in
    let same : joined_of w ≡ js ++ (k, m) ∷ [] = ap joined_of from in
    record {
      root = root_is w _ _ _ _ from;
      gave = ap gave_of from ∙ s.gave;
      cleared = ap clearings_of from ∙ none;
      back = λ p h. ap (λ z. came_back z p) same ∙ (came_more js k m p ∙ either p h);
      away = λ p h. ap (λ z. came_back z p) same ∙ (came_more js k m p ∙ (ap (λ z. z || eqb p k) (s.away p (omega arith)) ∙ ne_eqb p k (λ e. omega arith)));
    }
  where
    or_true : (a b : Bool) → b ≡ true → (a || b) ≡ true
    or_true true b e = refl
    or_true false b e = e

    either : (p : ℕ) → p < k + 1 → (came_back (joined_of v) p || eqb p k) ≡ true
    either p h = dite (ℕ_discrete p k)
        (λ e. or_true (came_back (joined_of v) p) (eqb p k) (eq-eqb p k e))
        (λ not. ap (λ z. z || eqb p k) (s.back p (omega arith)))
