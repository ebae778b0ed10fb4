-- Together the workers ended what they made.
use Rattle.std.proofs.Common.{◌≡◌, ◌∙◌, sym, ap, refl, subst, ℕ, zero, suc, ◌+◌, ◌-◌, ◌<◌, List, [], ◌∷◌, ◌++◌, length, map, get_or, true, arith, length-append}
use Rattle.std.specs.Prelude.{sum_by, Option}
use Rattle.std.proofs.lemmas.List.Elements.{All-push}
use Rattle.std.proofs.lemmas.List.{length-map}
use Rattle.std.proofs.lemmas.List.Recursion.{is_sum_by}
use Rattle.plain_cord.specs.declared.history.Entry.{Entry}
use Rattle.plain_cord.specs.declared.deed.Deed.{Deed}
use Rattle.plain_cord.specs.Deeds.{of_session, cells_after, empty_cells}
use Rattle.node_forest.specs.Label.{Node}
use Rattle.pool_rule.specs.Views.{View, blank}
use Rattle.node_pool.specs.Boxes as numbers
use Rattle.node_pool.specs.Starts.{new_workers, worker_at, rest_after}
use Rattle.node_pool.specs.Closes.{IsAllIdle}
use Rattle.cord_value.specs.Views.{CordView}
use Rattle.cord_board.specs.Log.{cells_in}
use Rattle.cord_board.specs.Rule.{IsEnd}
use Rattle.cord_board.specs.Views.{came_back}
use Rattle.board_weights.specs.Weights.{weigh_cells, sum_below, Accounts}
use Rattle.board_weights.proofs.Shares.{ends}
use Rattle.cord_commands.specs.Accounts.{trees_of}
use Rattle.cord_seats.specs.Chairs.{Came, below}
use Rattle.cord_seats.specs.Clearings.{weigh_clearings}
use Rattle.cord_seats.proofs.Clearing.{cleared_weigh}
use Rattle.cord_seats.proofs.Lists.{has_below}
use Rattle.cord_seats.proofs.Places.{count-below}

-- ---- new workers
pub new-count : (size limit workers slots : ℕ) → 0 < workers → length (new_workers size limit workers slots) ≡ workers
new-count size limit workers slots some =
    let a = length-append (map (worker_at size limit slots) (numbers.below (workers - 1))) (rest_after size limit workers slots (workers - 1) ∷ []) in
    let m = length-map (numbers.below (workers - 1)) (worker_at size limit slots) in
    let b = count-below (workers - 1) in
    omega arith

-- ---- sums over workers
abbrev total : (View → ℕ) → List View → ℕ
total f [] = 0
total f (x ∷ xs) = f x + total f xs

total-more : (f : View → ℕ) (xs : List View) (x : View) → total f (xs ++ x ∷ []) ≡ total f xs + f x
total-more f [] x = omega arith
total-more f (y ∷ xs) x = let i = total-more f xs x in omega arith

first-out : (n : ℕ) (f : ℕ → ℕ) → sum_below (suc n) f ≡ f 0 + sum_below n (λ p. f (suc p))
first-out zero f = omega arith
first-out (suc n) f = let i = first-out n f in omega arith

total-below : (f : View → ℕ) (d : View) (xs : List View) → total f xs ≡ sum_below (length xs) (λ p. f (get_or xs p d))
total-below f d [] = refl
total-below f d (x ∷ xs) = let i = total-below f d xs in let o = first-out (length xs) (λ p. f (get_or (x ∷ xs) p d)) in omega arith

sum-snoc : (f : View → ℕ) (d : View) (xs : List View) (x : View) (n : ℕ) → length xs ≡ n → sum_by f (xs ++ x ∷ []) ≡ sum_below n (λ p. f (get_or xs p d)) + f x
sum-snoc f d xs x n len =
    sym (is_sum_by (total f) f refl (λ _ _. refl) (xs ++ x ∷ [])) ∙ (total-more f xs x ∙ ap (λ (z : ℕ). z + f x) (total-below f d xs ∙ ap (λ (m : ℕ). sum_below m (λ p. f (get_or xs p d))) len))

none-held : (hs : List Node) → length hs ≡ 0 → hs ≡ []
none-held [] e = refl
none-held (h ∷ hs) e = absurd (omega arith)

-- ---- all of them
pub all-idle : (slots : ℕ) (size : CordView → ℕ) (history : List Entry) (joined : List (ℕ × List (Deed CordView))) (cleared : List (ℕ × Option CordView)) (n : ℕ) (ws : List View) (own : View)
    → length ws ≡ n → ((p : ℕ) (w : View) → p < n → Came slots joined p (get_or ws p w)) → ((p : ℕ) → p < n → came_back joined p ≡ true)
    → length own.holds ≡ 0 → own.made + weigh_clearings trees_of cleared ≡ own.ended → cells_in cleared ≡ below 64 → IsEnd size history (below n) joined cleared
    → IsAllIdle (ws ++ own ∷ [])
all-idle slots size history joined cleared n ws own len each back holds even_own cells end =
    let log = end.0 in
    let is = end.1 in
    let d : View = blank 0 0 0 0 in
    let accounts : (p : ℕ) → p < n → Accounts trees_of (get_or ws p d).made (get_or ws p d).ended (of_session p log) =
    λ p low. subst (λ (z : List (Deed CordView)). Accounts trees_of (get_or ws p d).made (get_or ws p d).ended z) (sym (is.each p (back p low))) (each p d low).accounts in
    let even = ends trees_of n log (λ p. (get_or ws p d).made) (λ p. (get_or ws p d).ended) is.legal (λ p high. is.none p (has_below n p high)) accounts in
    let lie : weigh_cells trees_of (cells_after empty_cells log) ≡ weigh_clearings trees_of cleared = ap (weigh_cells trees_of) (sym end.3) ∙ cleared_weigh trees_of cleared cells in
    let one = sum-snoc (λ v. v.made) d ws own n len in
    let two = sum-snoc (λ v. v.ended) d ws own n len in
    record {
      nothing = All-push (λ (v : View). v.holds ≡ []) ws own (λ k w l. none-held _ (each k w (subst (λ (z : ℕ). k < z) len l)).holds) (none-held _ holds);
      ended = omega arith;
    }
