-- How a board begins, and what the last pass learns at the end.
use Rattle.std.specs.Prelude.{replicate, slice_get, vec_capacity}
use Rattle.std.proofs.Common.{◌≡◌, ◌≢◌, ◌≤◌, ◌<◌, ◌^◌, arith, ℕ, zero, suc, List, [], ◌∷◌, ◌++◌, map, length, set, eqb, Bool, true, false, ◌||◌, eqb-true, eq-eqb, sym, refl, ap, ◌∙◌, subst, Option, Some, None}
use mathlib.Core.Option.{some, some-injective, some-ne-none}
use lib.ListN.{get_elem?}
use Rattle.atomic_table.specs.declared.shared.Seat.{Seat}
use Rattle.turn_desk.specs.declared.knowledge.Knowledge.{Knowledge}
use Rattle.turn_desk.specs.Passes.{desk_view, Ended}
use Rattle.turn_desk.specs.Spots.{Spot, home, out, at_home}
use Rattle.cord_board.specs.declared.cells.Cells.{Cells}
use Rattle.plain_cord.specs.declared.deed.Deed.{Deed}
use Rattle.plain_cord.specs.Deeds.{cells_after, empty_cells}
use Rattle.cord_board.specs.declared.view.BoardView.{BoardView}
use Rattle.cord_board.specs.declared.view.BoardView.TheVariants.{Root, Session}
use Rattle.cord_board.specs.Deeds.{off}
use Rattle.cord_board.specs.Rule.{value_of, Replays, SpeaksEach, Fits, Stands, IsEnd}
use Rattle.cord_board.specs.Views.{has, came_back, gave_of, joined_of, clearings_of, cleared_of, IsLast}
use Rattle.cord_board.specs.Log.{cells_in, put_back, emptied}
use Rattle.cord_board.specs.Voices.{speaks_in}
use Rattle.cord_board.proofs.Turns.{get_set, some_is, length_after, length_emptied, log_of}

get_else : {A : Type 0} (xs : List A) (i j : ℕ) (a : A) → j ≢ i → slice_get (set xs i a) j ≡ slice_get xs j
get_else [] i j a apart = refl
get_else (x ∷ xs) zero zero a apart = absurd (apart refl)
get_else (x ∷ xs) zero (suc j) a apart = refl
get_else (x ∷ xs) (suc i) zero a apart = refl
get_else (x ∷ xs) (suc i) (suc j) a apart = get_else xs i j a (λ e. apart (ap suc e))

all_none : {C : Type 0} (n : ℕ) (xs : List (Option C)) → length xs ≡ n → ((k : ℕ) → k < n → slice_get xs k ≡ Some None) → xs ≡ replicate n None
all_none zero [] long each = refl
all_none zero (x ∷ xs) long each = absurd (omega arith)
all_none (suc n) [] long each = absurd (omega arith)
all_none (suc n) (x ∷ xs) long each = λ i. some_is x None (each 0 (omega arith)) i ∷ all_none n xs (omega arith) (λ k small. each (suc k) (omega arith)) i

module _ {C : Type 0} where
  emptied_at : (ks : List ℕ) (cs : List (Option C)) (k : ℕ) → k < length cs → has k ks ≡ true → slice_get (emptied ks cs) k ≡ Some None
  emptied_at [] cs k small e = absurd (cc)
  emptied_at (q ∷ ks) cs k small e = either_way (eqb k q) refl e (emptied_at ks cs k small)
    where
      either_way : (b : Bool) → eqb k q ≡ b → (b || has k ks) ≡ true → (has k ks ≡ true → slice_get (emptied ks cs) k ≡ Some None) → slice_get (set (emptied ks cs) q None) k ≡ Some None
      either_way true is e rest = let long = length_emptied ks cs in ap (λ z. slice_get (set (emptied ks cs) z None) k) (sym (eqb-true k q is)) ∙ get_set (emptied ks cs) k None (omega arith)
      either_way false is e rest = get_else (emptied ks cs) q k None (λ same. off (sym is ∙ eq-eqb k q same)) ∙ rest e

  -- cells of which each was cleared
  emptied_all : (ks : List ℕ) (cs : List (Option C)) (n : ℕ) → length cs ≡ n → ((k : ℕ) → k < n → has k ks ≡ true) → emptied ks cs ≡ replicate n None
  emptied_all ks cs n long all = all_none n (emptied ks cs) (length_emptied ks cs ∙ long) (λ k small. emptied_at ks cs k (omega arith) (all k small))

  pub only_last : (xs : List (Option (Cells C))) (s : Option (Cells C)) (x : Cells C) → xs ++ s ∷ [] ≡ Some x ∷ [] → s ≡ Some x
  only_last [] s x e = cc
  only_last (y ∷ []) s x e = absurd (cc)
  only_last (y ∷ z ∷ ys) s x e = absurd (cc)

  pub is_none : (s : Option (Cells C)) (x : Cells C) → s ≡ None → s ≡ Some x → ⊥
  is_none s x e f = cc

  pub is_some : (s : Option (Cells C)) (x y : Cells C) → s ≡ Some x → s ≡ Some y → x ≡ y
  is_some s x y e f = cc

  module _ (size : C → ℕ) where
    others : (log : List (Deed C)) (given : List ℕ) (owner : ℕ → ℕ) (cleared : List (ℕ × Option C)) (root id : ℕ) (joined : List (ℕ × List (Deed C))) → id ≡ root → SpeaksEach log given owner id joined → ((p : ℕ) → has p given ≡ true → came_back joined p ≡ true)
        → (by : ℕ) (w : BoardView C) → by ≢ id → Fits log given owner by cleared root (Some w) → ⊥
    others log given owner cleared root id joined is speaks back by (Session n p m) apart fits = apart (sym fits.0.1 ∙ (speaks_in log given owner id joined p speaks (back p fits.0.0)).1)
    others log given owner cleared root id joined is speaks back by (Root n g ms cs) apart fits = apart (fits.0 ∙ sym is)

    pub finishes : (p : Seat (Option (Cells C)) (Knowledge (Cells C) (BoardView C))) (values : List (Option (Cells C))) → Ended (Stands size) p values → IsLast (desk_view p) → ((k : ℕ) → k < 64 → has k (cleared_of (desk_view p)) ≡ true)
        → (x : Cells C) × (values ≡ Some x ∷ []) × IsEnd size x.history.items (gave_of (desk_view p)) (joined_of (desk_view p)) (clearings_of (desk_view p))
    finishes p values e last all = at_spot s.spot refl
      where
        s : Stands size e.spots e.views
        s = e.agreed

        fits : (p.id ≡ s.root) × (gave_of (desk_view p) ≡ s.given) × SpeaksEach s.log s.given s.owner p.id (joined_of (desk_view p)) × (clearings_of (desk_view p) ≡ s.cleared)
        fits = subst (λ (z : BoardView C). Fits s.log s.given s.owner p.id s.cleared s.root (Some z)) last.0 (s.each p.id (Some (desk_view p)) e.mine)

        at_spot : (sp : Spot (Cells C)) → s.spot ≡ sp → (x : Cells C) × (values ≡ Some x ∷ []) × IsEnd size x.history.items (gave_of (desk_view p)) (joined_of (desk_view p)) (clearings_of (desk_view p))
        at_spot (home x) is =
            let r = subst (λ (z : Spot (Cells C)). Replays size s.log s.cleared (value_of z)) is s.replays in
            let none : x.cells.items ≡ empty_cells = r.cells ∙ emptied_all (cells_in s.cleared) (cells_after empty_cells s.log) 64 (length_after empty_cells s.log) (λ k small. ap (λ z. has k (cells_in z)) (sym fits.3) ∙ all k small) in (
              x,
              e.given ∙ (ap (map at_home) s.one ∙ ap (λ z. at_home z ∷ []) is),
              (s.log, (log_of size e.spots e.views p.id (desk_view p) s e.mine last.0).0, r.history, ap (λ z. put_back z empty_cells) fits.3 ∙ (ap (put_back s.cleared) (sym none) ∙ r.whole)),
            )
        at_spot (out x) is =
            let h = e.others 0 x (ap (λ z. get_elem? z 0) s.one ∙ ap some is) in
            absurd (others s.log s.given s.owner s.cleared s.root p.id (joined_of (desk_view p)) fits.0 fits.2 (λ q g. last.1 q (ap (has q) fits.1 ∙ g)) h.0 h.1 h.2 (s.each h.0 (Some h.1) h.3))

    pub opens : (x : Cells C) (entries : ℕ) (values : List (Cells C)) → values ≡ x ∷ [] → x.cells.items ≡ replicate 64 None → x.history.items ≡ [] → entries ≤ vec_capacity x.history → entries < 2 ^ 32 → Stands size (map home values) (Some (Root entries [] [] []) ∷ [])
    opens x entries values is cells history room few = record {
      log = [];
      cleared = [];
      given = [];
      owner = λ _. 0;
      root = 0;
      spot = home x;
      one = ap (map home) is;
      replays = record { cells = cells; whole = cells; history = history; legal = tt };
      room = omega arith;
      few = omega arith;
      numbered = λ _. tt;
      unborn = λ p _. refl;
      each = one;
    }
      where
        one : (by : ℕ) (v : Option (BoardView C)) → get_elem? (Some (Root entries [] [] []) ∷ []) by ≡ some v → Fits [] [] (λ _. 0) by [] 0 v
        one zero v at = subst (λ z. Fits [] [] (λ _. 0) 0 [] 0 z) (some-injective (Some (Root entries [] [] [])) v at) (refl, refl, tt, refl)
        one (suc by) v at = absurd (some-ne-none v (sym at))
