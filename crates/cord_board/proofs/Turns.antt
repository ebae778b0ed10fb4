-- What an action finds at its turn, what it owes when it leaves, and what leaving tells.
use Rattle.std.proofs.Common.{◌≡◌, ℕ, zero, suc, ◌+◌, ◌-◌, ◌^◌, ◌<◌, ◌≤◌, List, [], ◌∷◌, ◌++◌, map, length, set, sym, refl, ap, ◌∙◌, subst, length-append, ⊎_elim, inl, inr, arith, Option, Some, None, Result, Ok, Err}
use Rattle.std.proofs.lemmas.List.{length-map}
use Rattle.std.specs.Prelude.{slice_get, slice_set, vec_len, vec_capacity, MatchResult}
use mathlib.Core.Option.{some, some-injective, some-ne-none}
use lib.ListN.{get_elem?}
use Rattle.atomic_table.proofs.Lists.{set_else}
use Rattle.turn_desk.specs.Agreements.{Agreed, AgreedBoth}
use Rattle.turn_desk.specs.Spots.{Spot, home}
use Rattle.cord_board.specs.declared.cells.Cells.{Cells}
use Rattle.plain_cord.specs.declared.history.Act.{Act}
use Rattle.plain_cord.specs.declared.history.Act.TheVariants.{Put, Take, Peek, Swap}
use Rattle.plain_cord.specs.declared.deed.Deed.{Deed}
use Rattle.cord_board.specs.declared.view.BoardView.{BoardView}
use Rattle.cord_board.specs.declared.view.BoardView.TheVariants.{Root, Session}
use Rattle.cord_board.specs.Deeds.{length_set}
use Rattle.plain_cord.specs.Deeds.{deed, after_of, IsProper, cells_after, entry_of, empty_cells}
use Rattle.cord_board.specs.Log.{cells_in, emptied, Acts, Clears}
use Rattle.cord_board.specs.Rule.{value_of, all_left, Fits, Stands, Acted, Cleared, Leaves, IsLog, CellHeld}
use Rattle.cord_board.specs.Views.{has, entries_left, session_of, mine_of, gave_of, joined_of, clearings_of, cleared_of, IsSession, IsRoot, IsLast, CanAct, next_place, Did, gathered}
use Rattle.cord_board.specs.Voices.{left_among, all_left_set, speaks_in}

tail : {A : Type 0} → List A → List A
tail [] = []
tail (x ∷ xs) = xs

head_or : {A : Type 0} → A → List A → A
head_or d [] = d
head_or d (x ∷ xs) = x

same_last : {A : Type 0} (xs : List A) (a b : A) → xs ++ a ∷ [] ≡ xs ++ b ∷ [] → a ≡ b
unfolding head_or tail
same_last [] a b e = ap (head_or a) e
same_last (x ∷ xs) a b e = same_last xs a b (ap tail e)

pub get_set : {A : Type 0} (xs : List A) (i : ℕ) (a : A) → i < length xs → slice_get (set xs i a) i ≡ Some a
get_set [] i a h = absurd (omega arith)
get_set (x ∷ xs) zero a h = refl
get_set (x ∷ xs) (suc i) a h = get_set xs i a (omega arith)

pub some_is : {A : Type 0} (a b : A) → Some a ≡ Some b → a ≡ b
some_is a b e = cc

module _ {C : Type 0} where
  pub length_after : (cs : List (Option C)) (ds : List (Deed C)) → length (cells_after cs ds) ≡ length cs
  length_after cs [] = refl
  length_after cs (d ∷ ds) = length_after (slice_set cs d.cell (after_of d.act d.came d.was)) ds ∙ length_set cs d.cell (after_of d.act d.came d.was)

  pub length_emptied : (ks : List ℕ) (cs : List (Option C)) → length (emptied ks cs) ≡ length cs
  length_emptied [] cs = refl
  length_emptied (k ∷ ks) cs = length_set (emptied ks cs) k None ∙ length_emptied ks cs

  one_spot : (l : ℕ) (z y : Spot (Cells C)) → get_elem? (z ∷ []) l ≡ some y → z ≡ y
  one_spot zero z y e = some-injective z y e
  one_spot (suc l) z y e = absurd (some-ne-none y (sym e))

  not_root : (v : BoardView C) (n p : ℕ) (mine : List (Deed C)) (m : ℕ) (gave : List ℕ) (joined : List (ℕ × List (Deed C))) (cleared : List (ℕ × Option C)) → v ≡ Session n p mine → v ≡ Root m gave joined cleared → ⊥
  not_root v n p mine m gave joined cleared e f = cc

  -- the item that came is fixed by what it did
  same_came : (a : Act) (c d w : Option C) → IsProper a c w → IsProper a d w → after_of a c w ≡ after_of a d w → c ≡ d
  same_came Put c d w p q e = e
  same_came Take c d w p q e = p ∙ sym q
  same_came Peek c d w p q e = p ∙ sym q
  same_came Swap c d None p q e = p ∙ sym q
  same_came Swap c d (Some x) p q e = e

  -- what the pass's own counts say after an action
  pub acted_pass : (v w : BoardView C) (d : Deed C) (session made : ℕ) → Did v w d → CanAct v → session ≡ session_of v → made ≡ length (mine_of v) → entries_left v + length (mine_of v) < 2 ^ 32
      → (session ≡ session_of w) × (made + 1 ≡ length (mine_of w)) × (entries_left w + length (mine_of w) < 2 ^ 32)
  acted_pass v w d session made did can is count few =
      let left = ap entries_left did in
      let long = ap (λ z. length (mine_of z)) did in
      let more = length-append (mine_of v) (d ∷ []) in
      let some = can.1 in
      (is ∙ sym (ap session_of did), omega arith, omega arith)

  pub swapped_pass : (v w : BoardView C) (session made cell : ℕ) (item : C) (r : Result C C)
      → MatchResult r (λ was. Did v w (deed session (made + 1) Swap cell (Some item) (Some was))) (λ back. (back ≡ item) × Did v w (deed session (made + 1) Swap cell None None))
      → CanAct v → session ≡ session_of v → made ≡ length (mine_of v) → entries_left v + length (mine_of v) < 2 ^ 32
      → (session ≡ session_of w) × (made + 1 ≡ length (mine_of w)) × (entries_left w + length (mine_of w) < 2 ^ 32)
  swapped_pass v w session made cell item (Ok was) did can is count few = acted_pass v w (deed session (made + 1) Swap cell (Some item) (Some was)) session made did can is count few
  swapped_pass v w session made cell item (Err back) did can is count few = acted_pass v w (deed session (made + 1) Swap cell None None) session made did.1 can is count few

  -- after a cell was cleared
  pub cleared_pass : (v w : BoardView C) (session made cell : ℕ) (was : Option C) → w ≡ Root (entries_left v) (gave_of v) (joined_of v) ((cell, was) ∷ clearings_of v) → IsLast v → session ≡ session_of v → made ≡ length (mine_of v) → entries_left v + length (mine_of v) < 2 ^ 32
      → (session ≡ session_of w) × (made ≡ length (mine_of w)) × (entries_left w + length (mine_of w) < 2 ^ 32)
  cleared_pass v w session made cell was after last is count few =
      let left = ap entries_left after in
      let mine : length (mine_of w) ≡ length (mine_of v) = ap (λ z. length (mine_of z)) after ∙ sym (ap (λ z. length (mine_of z)) last.0) in
      (is ∙ (ap session_of last.0 ∙ sym (ap session_of after)), omega arith, omega arith)

  -- after a session came back
  pub joined_pass : (v o w : BoardView C) (session made : ℕ) → w ≡ gathered v o → IsRoot v → IsSession o → session ≡ session_of v → made ≡ length (mine_of v) → entries_left v + entries_left o < 2 ^ 32
      → (session ≡ session_of w) × (made ≡ length (mine_of w)) × (entries_left w + length (mine_of w) < 2 ^ 32)
  joined_pass (Session n p m) o w session made after root back is count few = absurd (not_root (Session n p m) n p m n [] [] [] refl root)
  joined_pass (Root n gave joined cleared) (Root m a b e) w session made after root back is count few = absurd (not_root (Root m a b e) m 0 [] m a b e back refl)
  joined_pass (Root n gave joined cleared) (Session m p mine) w session made after root back is count few =
      let left = ap entries_left after in
      let long = ap (λ z. length (mine_of z)) after in
      (is ∙ sym (ap session_of after), omega arith, omega arith)

  module _ (size : C → ℕ) where
    pub found_cells : (l : ℕ) (x : Cells C) (v : BoardView C) → Agreed (Stands size) l (home x) v → length x.cells.items ≡ 64
    found_cells l x v a =
        let s = a.3 in
        let is : s.spot ≡ home x = one_spot l s.spot (home x) (ap (λ z. get_elem? z l) (sym s.one) ∙ a.4) in
        ap (λ z. length z.cells.items) (sym (ap value_of is)) ∙ (ap length s.replays.cells ∙ (length_emptied (cells_in s.cleared) (cells_after empty_cells s.log) ∙ length_after empty_cells s.log))

    pub found_room : (l : ℕ) (x : Cells C) (v : BoardView C) → Agreed (Stands size) l (home x) v → 0 < entries_left v → vec_len x.history < vec_capacity x.history
    found_room l x v a some_left =
        let s = a.3 in
        let is : s.spot ≡ home x = one_spot l s.spot (home x) (ap (λ z. get_elem? z l) (sym s.one) ∙ a.4) in
        let at = ap value_of is in
        let history = ap (λ z. length z.history.items) (sym at) ∙ (ap length s.replays.history ∙ length-map s.log (entry_of size)) in
        let room : all_left a.1 + length s.log ≤ vec_capacity x.history = subst (λ (z : Cells C). all_left a.1 + length s.log ≤ vec_capacity z.history) at s.room in
        let mine = left_among a.1 a.2 (Some v) a.5 in
        let whole = x.history.ok in
        omega arith

    pub owes : (l : ℕ) (x y : Cells C) (v v' : BoardView C) (d : Deed C) → v' ≡ v → CanAct v → d.session ≡ session_of v → d.place ≡ next_place v → Acts size x y d → (w : BoardView C) × Leaves size l x y v' w
    owes l x y v v' d same can session place acts = (
      Session (entries_left v - 1) (session_of v) (mine_of v ++ d ∷ []),
      inl record {
        left = entries_left v - 1;
        by = session_of v;
        mine = mine_of v;
        did = d;
        before = same ∙ (can.0 ∙ ap (λ n. Session n (session_of v) (mine_of v)) (omega arith));
        after = refl;
        session = session;
        place = place;
        acts = acts;
      },
    )

    -- what leaving tells the one who acted
    pub tells : (l : ℕ) (x y : Cells C) (v v' w : BoardView C) (d : Deed C) → v' ≡ v → CanAct v → d.cell < length x.cells.items → Acts size x y d → Leaves size l x y v' w → Did v w d
    tells l x y v v' w d same can inside acts leaves = ⊎_elim
        (λ (r : Acted size x y v' w).
        let e = r.did in
        let view = sym (same ∙ can.0) ∙ r.before in
        let is_entry = same_last x.history.items (entry_of size e) (entry_of size d) (sym r.acts.history ∙ acts.history) in
        let is_act : e.act ≡ d.act = ap (λ z. z.act) is_entry in
        let is_cell : e.cell ≡ d.cell = ap (λ z. z.cell) is_entry in
        let is_session : e.session ≡ d.session = ap (λ z. z.session) is_entry in
        let is_place : e.place ≡ d.place = ap (λ z. z.place) is_entry in
        let is_was : e.was ≡ d.was = some_is e.was d.was (sym r.acts.found ∙ (ap (slice_get x.cells.items) is_cell ∙ acts.found)) in
        let left_by : after_of e.act e.came e.was ≡ after_of d.act d.came d.was = some_is (after_of e.act e.came e.was) (after_of d.act d.came d.was)
        (sym (get_set x.cells.items d.cell (after_of e.act e.came e.was) inside) ∙ (ap (λ z. slice_get z d.cell) (ap (λ z. slice_set x.cells.items z (after_of e.act e.came e.was)) (sym is_cell) ∙ (sym r.acts.cells ∙ acts.cells)) ∙ get_set x.cells.items d.cell (after_of d.act d.came d.was) inside)) in
        let proper : IsProper d.act e.came d.was = subst (λ (z : Act × Option C). IsProper z.0 e.came z.1) (λ i. (is_act i, is_was i)) r.acts.proper in
        let is_came : e.came ≡ d.came = same_came d.act e.came d.came d.was proper acts.proper (sym (ap (λ (z : Act × Option C). after_of z.0 e.came z.1) (λ i. (is_act i, is_was i))) ∙ left_by) in
        let left : entries_left v - 1 ≡ r.left = (let e = ap entries_left view in let f = ap entries_left same in omega arith) in
        let mine : mine_of v ≡ r.mine = ap mine_of view in
        let by : session_of v ≡ r.by = ap session_of view in
        r.after ∙ λ i. Session (sym left i) (sym by i) (sym mine i ++ deed (is_session i) (is_place i) (is_act i) (is_cell i) (is_came i) (is_was i) ∷ []))
        (λ (r : Cleared x y v' w). absurd (not_root v' (entries_left v) (session_of v) (mine_of v) r.left r.gave r.joined r.cleared (same ∙ can.0) r.before))
        leaves

    -- a swap, done or refused
    pub owes_swap : (l : ℕ) (x y : Cells C) (v v' : BoardView C) (session place cell : ℕ) (item : C) (r : Result C C) → v' ≡ v → CanAct v → session ≡ session_of v → place ≡ next_place v
        → MatchResult r (λ was. Acts size x y (deed session place Swap cell (Some item) (Some was))) (λ back. (back ≡ item) × Acts size x y (deed session place Swap cell None None))
        → (w : BoardView C) × Leaves size l x y v' w
    owes_swap l x y v v' session place cell item (Ok was) same can is at acts = owes l x y v v' (deed session place Swap cell (Some item) (Some was)) same can is at acts
    owes_swap l x y v v' session place cell item (Err back) same can is at acts = owes l x y v v' (deed session place Swap cell None None) same can is at acts.1

    pub tells_swap : (l : ℕ) (x y : Cells C) (v v' w : BoardView C) (session place cell : ℕ) (item : C) (r : Result C C) → v' ≡ v → CanAct v → cell < length x.cells.items
        → MatchResult r (λ was. Acts size x y (deed session place Swap cell (Some item) (Some was))) (λ back. (back ≡ item) × Acts size x y (deed session place Swap cell None None))
        → Leaves size l x y v' w
        → MatchResult r (λ was. Did v w (deed session place Swap cell (Some item) (Some was))) (λ back. (back ≡ item) × Did v w (deed session place Swap cell None None))
    tells_swap l x y v v' w session place cell item (Ok was) same can inside acts leaves = tells l x y v v' w (deed session place Swap cell (Some item) (Some was)) same can inside acts leaves
    tells_swap l x y v v' w session place cell item (Err back) same can inside acts leaves = (acts.0, tells l x y v v' w (deed session place Swap cell None None) same can inside acts.1 leaves)

    pub owes_clear : (l : ℕ) (x y : Cells C) (v v' : BoardView C) (cell : ℕ) (was : Option C) → v' ≡ v → IsLast v → Clears x y cell was → (w : BoardView C) × Leaves size l x y v' w
    owes_clear l x y v v' cell was same last clears = (
      Root (entries_left v) (gave_of v) (joined_of v) ((cell, was) ∷ clearings_of v),
      inr record {
        left = entries_left v;
        gave = gave_of v;
        joined = joined_of v;
        cleared = clearings_of v;
        cell = cell;
        was = was;
        before = same ∙ last.0;
        after = refl;
        back = last.1;
        clears = clears;
      },
    )

    pub tells_clear : (l : ℕ) (x y : Cells C) (v v' w : BoardView C) (cell : ℕ) (was : Option C) → v' ≡ v → IsLast v → Clears x y cell was → Leaves size l x y v' w → w ≡ Root (entries_left v) (gave_of v) (joined_of v) ((cell, was) ∷ clearings_of v)
    tells_clear l x y v v' w cell was same last clears leaves = ⊎_elim
        (λ (r : Acted size x y v' w). absurd (not_root v' (r.left + 1) r.by r.mine (entries_left v) (gave_of v) (joined_of v) (clearings_of v) r.before (same ∙ last.0)))
        (λ (r : Cleared x y v' w).
        let view = sym (same ∙ last.0) ∙ r.before in
        let is_left : r.left ≡ entries_left v = sym (ap entries_left view) in
        let is_gave : r.gave ≡ gave_of v = sym (ap gave_of view) in
        let is_joined : r.joined ≡ joined_of v = sym (ap joined_of view) in
        let is_cleared : r.cleared ≡ clearings_of v = sym (ap clearings_of view) in
        let is_cell : r.cell ≡ cell = sym r.clears.told ∙ clears.told in
        let is_was : r.was ≡ was = some_is r.was was (sym r.clears.found ∙ (ap (slice_get x.cells.items) is_cell ∙ clears.found)) in
        r.after ∙ λ i. Root (is_left i) (is_gave i) (is_joined i) ((is_cell i, is_was i) ∷ is_cleared i))
        leaves

    -- the log of the moment when a cell is cleared
    pub log_of : (spots : List (Spot (Cells C))) (views : List (Option (BoardView C))) (by : ℕ) (v : BoardView C) (s : Stands size spots views) → get_elem? views by ≡ some (Some v) → IsRoot v → IsLog (gave_of v) (joined_of v) s.log × (clearings_of v ≡ s.cleared)
    log_of spots views by v s at root =
        let fits = subst (λ (z : BoardView C). Fits s.log s.given s.owner by s.cleared s.root (Some z)) root (s.each by (Some v) at) in (
          record {
            legal = s.replays.legal;
            each = λ p came. (speaks_in s.log s.given s.owner by (joined_of v) p fits.2 came).2;
            none = λ p not. s.unborn p (ap (has p) (sym fits.1) ∙ not);
            numbered = s.numbered;
          },
          fits.3,
        )

    pub held : (l : ℕ) (x y : Cells C) (v : BoardView C) (cell : ℕ) (was : Option C) → Agreed (Stands size) l (home x) v → IsLast v → Clears x y cell was → CellHeld (gave_of v) (joined_of v) (cleared_of v) cell was
    held l x y v cell was a last clears =
        let s = a.3 in
        let is : s.spot ≡ home x = one_spot l s.spot (home x) (ap (λ z. get_elem? z l) (sym s.one) ∙ a.4) in
        let log = log_of a.0 a.1 a.2 v s a.5 last.0 in
        let cells : x.cells.items ≡ emptied (cleared_of v) (cells_after empty_cells s.log) = ap (λ z. z.cells.items) (sym (ap value_of is)) ∙ (s.replays.cells ∙ ap (λ z. emptied (cells_in z) (cells_after empty_cells s.log)) (sym log.1)) in
        (s.log, log.0, ap (λ z. slice_get z cell) (sym cells) ∙ clears.found)

    -- two passes together have fewer entries than a place can count
    pub few_both : (v w : BoardView C) → AgreedBoth (Stands size) v w → entries_left v + entries_left w < 2 ^ 32
    few_both v w a =
        let s = a.4 in
        let without = all_left_set a.1 a.2 (Some v) None a.5 in
        let among = left_among (set a.1 a.2 None) a.3 (Some w) (set_else a.1 a.2 a.3 None a.7 ∙ a.6) in
        let few = s.few in
        omega arith
