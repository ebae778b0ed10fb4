-- The rule of a board survives each step of its desk.
use Rattle.std.proofs.Common.{◌≡◌, ℕ, zero, suc, ◌+◌, ◌≤◌, List, [], ◌∷◌, ◌++◌, eqb, cond, false, ◌||◌, length, set, sym, refl, ap, ◌∙◌, subst, length-append}
use Rattle.std.proofs.Common.{⊎_elim, arith, eq-eqb, Option, Some, None}
use Rattle.std.specs.Prelude.{slice_get, slice_set, vec_capacity}
use mathlib.Core.Option.{some, some-injective, some-ne-none}
use mathlib.Core.List.{map-append}
use lib.ListN.{get_elem?}
use Rattle.atomic_table.proofs.Lists.{set_else}
use Rattle.turn_desk.specs.Spots.{Spot, home, out}
use Rattle.cord_board.specs.declared.cells.Cells.{Cells}
use Rattle.plain_cord.specs.declared.deed.Deed.{Deed}
use Rattle.cord_board.specs.declared.view.BoardView.{BoardView}
use Rattle.cord_board.specs.Deeds.{off, has_less, length_set, at_snoc_place, set_back, after_more, legal_more, of_same, of_other, numbered_more}
use Rattle.plain_cord.specs.Deeds.{after_of, cells_after, of_session, entry_of, empty_cells}
use Rattle.cord_board.specs.Log.{cells_in, put_back, emptied}
use Rattle.cord_board.specs.Rule.{value_of, left_of, all_left, Replays, Speaks, Fits, Stands, Acted, Cleared, Leaves, Gives, Joins}
use Rattle.cord_board.specs.Views.{has}
use Rattle.cord_board.specs.Voices.{fits_set, without, others_left, others_cleared, each_given, others_given, each_joined, others_joined, all_left_set}
use Rattle.cord_board.specs.Voices.{all_left_more}

module _ {C : Type 0} (size : C → ℕ) where
  here_of : (l : ℕ) (z y : Spot (Cells C)) → get_elem? (z ∷ []) l ≡ some y → (w : Spot (Cells C)) → (z ≡ y) × (slice_set (z ∷ []) l w ≡ w ∷ [])
  here_of zero z y e w = (some-injective z y e, refl)
  here_of (suc l) z y e w = absurd (some-ne-none y (sym e))

  pub takes : (spots : List (Spot (Cells C))) (views : List (Option (BoardView C))) (l : ℕ) (x : Cells C) → Stands size spots views
      → get_elem? spots l ≡ some (home x) → Stands size (slice_set spots l (out x)) views
  takes spots views l x s at = let h = here_of l s.spot (home x) (ap (λ z. get_elem? z l) (sym s.one) ∙ at) (out x) in record {
    log = s.log;
    cleared = s.cleared;
    given = s.given;
    owner = s.owner;
    root = s.root;
    spot = out x;
    one = ap (λ z. slice_set z l (out x)) s.one ∙ h.1;
    replays = subst (λ (z : Spot (Cells C)). Replays size s.log s.cleared (value_of z)) h.0 s.replays;
    room = subst (λ (z : Spot (Cells C)). all_left views + length s.log ≤ vec_capacity (value_of z).history) h.0 s.room;
    few = s.few;
    numbered = s.numbered;
    unborn = s.unborn;
    each = s.each;
  }

  acted : (spots : List (Spot (Cells C))) (views : List (Option (BoardView C))) (l by : ℕ) (x y : Cells C) (v w : BoardView C) → Stands size spots views
      → get_elem? spots l ≡ some (out x) → get_elem? views by ≡ some (Some v) → Acted size x y v w
      → Stands size (slice_set spots l (home y)) (slice_set views by (Some w))
  acted spots views l by x y v w s at seen a =
      let p : ℕ = a.by in
      let mine : List (Deed C) = a.mine in
      let d : Deed C = a.did in
      let is = here_of l s.spot (out x) (ap (λ z. get_elem? z l) (sym s.one) ∙ at) (home y) in
      let one = ap (λ z. slice_set z l (home y)) s.one ∙ is.1 in
      let was : Replays size s.log s.cleared x = subst (λ (z : Spot (Cells C)). Replays size s.log s.cleared (value_of z)) is.0 s.replays in
      let fits : Speaks s.log s.given s.owner by p mine × (s.cleared ≡ []) =
      subst (λ (z : BoardView C). Fits s.log s.given s.owner by s.cleared s.root (Some z)) a.before (s.each by (Some v) seen) in
      let speaks = fits.0 in
      let total = all_left_set views by (Some v) (Some w) seen in
      let left_v = ap (λ z. left_of (Some z)) a.before in
      let left_w = ap (λ z. left_of (Some z)) a.after in
      let long = length-append s.log (d ∷ []) in
      let had : all_left views + length s.log ≤ vec_capacity x.history =
      subst (λ (z : Spot (Cells C)). all_left views + length s.log ≤ vec_capacity (value_of z).history) is.0 s.room in
      let few = s.few in
      let same = a.acts.room in
      let owns : s.owner d.session ≡ by = ap s.owner a.session ∙ speaks.1 in
      let was_cells : x.cells.items ≡ cells_after empty_cells s.log = was.cells ∙ ap (λ z. emptied (cells_in z) (cells_after empty_cells s.log)) fits.1 in
      let place : d.place ≡ length (of_session d.session s.log) + 1 = a.place
      ∙ sym (ap (λ (z : ℕ). length (of_session z s.log) + 1) a.session ∙ ap (λ z. length z + 1) speaks.2) in
      let now_cells = a.acts.cells ∙ (ap (λ z. slice_set z d.cell (after_of d.act d.came d.was)) was_cells ∙ sym (after_more empty_cells s.log d)) in
      record {
        log = s.log ++ d ∷ [];
        cleared = s.cleared;
        given = s.given;
        owner = s.owner;
        root = s.root;
        spot = home y;
        one = one;
        replays = record {
          cells = now_cells ∙ ap (λ z. emptied (cells_in z) (cells_after empty_cells (s.log ++ d ∷ []))) (sym fits.1);
          whole = ap (λ z. put_back z y.cells.items) fits.1 ∙ now_cells;
          history = a.acts.history ∙ (ap (λ z. z ++ entry_of size d ∷ []) was.history ∙ sym (map-append (entry_of size) s.log (d ∷ [])));
          legal = legal_more empty_cells s.log d was.legal (ap (λ z. slice_get z d.cell) (sym was_cells) ∙ a.acts.found) a.acts.proper;
        };
        room = omega arith;
        few = omega arith;
        numbered = numbered_more s.log d s.numbered place;
        unborn = λ q none. of_other q s.log d (λ e. off (sym none ∙ (ap (λ z. has z s.given) (e ∙ a.session) ∙ speaks.0))) ∙ s.unborn q none;
        each = fits_set s.log (s.log ++ d ∷ []) s.given s.given s.owner s.owner s.cleared s.cleared s.root views by (Some w)
            (subst (λ (z : BoardView C). Fits (s.log ++ d ∷ []) s.given s.owner by s.cleared s.root (Some z)) (sym a.after)
            ((speaks.0, speaks.1, of_same p s.log d a.session ∙ ap (λ z. z ++ d ∷ []) speaks.2), fits.1))
            (others_left s.log s.given s.owner s.cleared s.root by d owns)
            s.each;
      }

  emptying : (spots : List (Spot (Cells C))) (views : List (Option (BoardView C))) (l by : ℕ) (x y : Cells C) (v w : BoardView C) → Stands size spots views
      → get_elem? spots l ≡ some (out x) → get_elem? views by ≡ some (Some v) → Cleared x y v w
      → Stands size (slice_set spots l (home y)) (slice_set views by (Some w))
  emptying spots views l by x y v w s at seen a =
      let is = here_of l s.spot (out x) (ap (λ z. get_elem? z l) (sym s.one) ∙ at) (home y) in
      let was : Replays size s.log s.cleared x = subst (λ (z : Spot (Cells C)). Replays size s.log s.cleared (value_of z)) is.0 s.replays in
      let root_fits = subst (λ (z : BoardView C). Fits s.log s.given s.owner by s.cleared s.root (Some z)) a.before (s.each by (Some v) seen) in
      let total = all_left_set views by (Some v) (Some w) seen in
      let left_v = ap (λ z. left_of (Some z)) a.before in
      let left_w = ap (λ z. left_of (Some z)) a.after in
      let had : all_left views + length s.log ≤ vec_capacity x.history =
      subst (λ (z : Spot (Cells C)). all_left views + length s.log ≤ vec_capacity (value_of z).history) is.0 s.room in
      let few = s.few in
      let same = a.clears.room in
      record {
        log = s.log;
        cleared = (a.cell, a.was) ∷ s.cleared;
        given = s.given;
        owner = s.owner;
        root = s.root;
        spot = home y;
        one = ap (λ z. slice_set z l (home y)) s.one ∙ is.1;
        replays = record {
          cells = a.clears.cells ∙ ap (λ z. slice_set z a.cell None) was.cells;
          whole = ap (λ z. put_back s.cleared (slice_set z a.cell a.was)) a.clears.cells
              ∙ (ap (put_back s.cleared) (set_back x.cells.items a.cell a.was None a.clears.found) ∙ was.whole);
          history = a.clears.history ∙ was.history;
          legal = was.legal;
        };
        room = omega arith;
        few = omega arith;
        numbered = s.numbered;
        unborn = s.unborn;
        each = fits_set s.log s.log s.given s.given s.owner s.owner s.cleared ((a.cell, a.was) ∷ s.cleared) s.root views by (Some w)
            (subst (λ (z : BoardView C). Fits s.log s.given s.owner by ((a.cell, a.was) ∷ s.cleared) s.root (Some z)) (sym a.after)
            (root_fits.0, root_fits.1, root_fits.2, ap (λ z. (a.cell, a.was) ∷ z) root_fits.3))
            (others_cleared s.log s.given s.owner s.cleared s.root by (a.cell, a.was) a.joined root_fits.0 root_fits.2
            (λ q g. a.back q (ap (has q) root_fits.1 ∙ g)))
            s.each;
      }

  pub leaves : (spots : List (Spot (Cells C))) (views : List (Option (BoardView C))) (l by : ℕ) (x y : Cells C) (v w : BoardView C) → Stands size spots views
      → get_elem? spots l ≡ some (out x) → get_elem? views by ≡ some (Some v) → Leaves size l x y v w
      → Stands size (slice_set spots l (home y)) (slice_set views by (Some w))
  leaves spots views l by x y v w s at seen a = ⊎_elim (acted spots views l by x y v w s at seen) (emptying spots views l by x y v w s at seen) a

  pub gives : (spots : List (Spot (Cells C))) (views : List (Option (BoardView C))) (by : ℕ) (v a b : BoardView C) → Stands size spots views
      → get_elem? views by ≡ some (Some v) → Gives v a b
      → Stands size spots (slice_set views by (Some a) ++ Some b ∷ [])
  gives spots views by v a b s seen g =
      let p : ℕ = g.new in
      let total = all_left_set views by (Some v) (Some a) seen in
      let more = all_left_more (set views by (Some a)) (Some b) in
      let left_v = ap (λ z. left_of (Some z)) g.before in
      let left_a = ap (λ z. left_of (Some z)) g.kept in
      let left_b = ap (λ z. left_of (Some z)) g.given in
      let had = s.room in
      let few = s.few in
      let root_fits = subst (λ (z : BoardView C). Fits s.log s.given s.owner by s.cleared s.root (Some z)) g.before (s.each by (Some v) seen) in
      let new : ℕ = length views in
      let owner : ℕ → ℕ = λ q. cond (eqb q p) new (s.owner q) in
      let fresh : has p s.given ≡ false = ap (has p) (sym root_fits.1) ∙ g.fresh in
      record {
        log = s.log;
        cleared = s.cleared;
        given = p ∷ s.given;
        owner = owner;
        root = s.root;
        spot = s.spot;
        one = s.one;
        replays = s.replays;
        room = omega arith;
        few = omega arith;
        numbered = s.numbered;
        unborn = λ q none. s.unborn q (has_less q p s.given none);
        each = λ j u e. ⊎_elim
            (λ t. fits_set s.log s.log s.given (p ∷ s.given) s.owner owner s.cleared s.cleared s.root views by (Some a)
            (subst (λ (z : BoardView C). Fits s.log (p ∷ s.given) owner by s.cleared s.root (Some z)) (sym g.kept)
            (root_fits.0, ap (λ z. p ∷ z) root_fits.1, each_given s.log s.given s.owner p new fresh by g.joined root_fits.2, root_fits.3))
            (λ i z apart. others_given s.log s.given s.owner s.cleared s.root p new fresh i z (λ e. apart (e ∙ sym root_fits.0))) s.each j u t.1)
            (λ (t : (j ≡ new) × (Some b ≡ u)). subst (λ (z : ℕ × Option (BoardView C)). Fits s.log (p ∷ s.given) owner z.0 s.cleared s.root z.1)
            (λ i. (sym t.0 i, t.1 i))
            (subst (λ (z : BoardView C). Fits s.log (p ∷ s.given) owner new s.cleared s.root (Some z)) (sym g.given)
            ((ap (λ z. z || has p s.given) (eq-eqb p p refl), ap (λ z. cond z new (s.owner p)) (eq-eqb p p refl), s.unborn p fresh), sym root_fits.3)))
            (at_snoc_place (set views by (Some a)) (Some b) u j new (length_set views by (Some a)) e);
      }

  pub joins : (spots : List (Spot (Cells C))) (views : List (Option (BoardView C))) (by other : ℕ) (v w both : BoardView C) → Stands size spots views
      → get_elem? views by ≡ some (Some v) → ¬ (other ≡ by) → get_elem? views other ≡ some (Some w) → Joins v w both
      → Stands size spots (slice_set (slice_set views by (Some both)) other None)
  joins spots views by other v w both s seen apart seen' g =
      let p : ℕ = g.who in
      let total = all_left_set views by (Some v) (Some both) seen in
      let total' = all_left_set (set views by (Some both)) other (Some w) None (set_else views by other (Some both) apart ∙ seen') in
      let left_v = ap (λ z. left_of (Some z)) g.root in
      let left_w = ap (λ z. left_of (Some z)) g.session in
      let left_both = ap (λ z. left_of (Some z)) g.after in
      let had = s.room in
      let few = s.few in
      let root_fits = subst (λ (z : BoardView C). Fits s.log s.given s.owner by s.cleared s.root (Some z)) g.root (s.each by (Some v) seen) in
      let fits : Speaks s.log s.given s.owner other p g.mine
      × (s.cleared ≡ []) = subst (λ (z : BoardView C). Fits s.log s.given s.owner other s.cleared s.root (Some z)) g.session
      (s.each other (Some w) seen') in
      let speaks = fits.0 in
      let owner : ℕ → ℕ = λ q. cond (eqb q p) by (s.owner q) in
      record {
        log = s.log;
        cleared = s.cleared;
        given = s.given;
        owner = owner;
        root = s.root;
        spot = s.spot;
        one = s.one;
        replays = s.replays;
        room = omega arith;
        few = omega arith;
        numbered = s.numbered;
        unborn = s.unborn;
        each = without s.log s.given s.owner owner s.cleared s.root views by other (Some both)
            (subst (λ (z : BoardView C). Fits s.log s.given owner by s.cleared s.root (Some z)) (sym g.after) (
              root_fits.0,
              root_fits.1,
              each_joined s.log s.given s.owner p by g.joined g.mine root_fits.2
                  (speaks.0, ap (λ z. cond z by (s.owner p)) (eq-eqb p p refl), speaks.2),
              root_fits.3,
            ))
            (λ j u a' b' k. others_joined s.log s.given s.owner s.cleared s.root p by other speaks.1 j u a' b' (λ e. a' (e ∙ sym root_fits.0)) k)
            s.each;
      }
