-- Changes in place as a step of a worker.
use Rattle.std.proofs.Common.{◌≡◌, ℕ, ◌+◌, List, [], ◌∷◌, ◌++◌, length, inl, inr, refl, sym, ap, subst, ◌∙◌, arith}
use Rattle.std.specs.Prelude.{Result, Ok, Err, OnOk}
use mathlib.Core.Option.{none}
use Rattle.atomic_table.specs.Table.{Me, step, Allows}
use Rattle.node_forest.specs.Label.{Node, number}
use Rattle.node_forest.specs.Paths.{child_of, numbers_on}
use Rattle.node_forest.specs.Changes.{site}
use Rattle.node_edges.specs.declared.change.Change.{Change}
use Rattle.node_edges.specs.Changes.{FitEach}
use Rattle.node_edges.proofs.EditLaws.{edits-numbers}
use Rattle.count_core.specs.Marks as core
use Rattle.pool_rule.specs.Rules.{Among}
use Rattle.pool_rule.specs.Pools.{Terms, Member, Kept}
use Rattle.pool_rule.specs.Trades.{HasHolds}
use Rattle.pool_rule.specs.Views.{View}
use Rattle.pool_rule.specs.Marks.{marking, IsLonePath}
use Rattle.pool_rule.specs.EdgeMarks.{HoldsNew, changed_root, core_changes, edge_changed, EdgeChanged}
use Rattle.pool_rule.proofs.EdgeSteps.{edge_marks}
use Rattle.node_pool.specs.Edits.{CanMark}
use Rattle.node_pool.specs.Paths.{node_at, IsPathIn, found_lone}
use Rattle.node_pool.specs.Tokens.{IsWorkerView}
use Rattle.node_pool.proofs.Seats.{IsSteady}

-- ---- the step
pub steady-marking : (root : Node) (path : List ℕ) (cs : List (ℕ × core.Change)) (v : View) → IsSteady v (marking root path cs v)
steady-marking root path cs v = record { size = refl; limit = refl; room = refl; spare = refl; over = refl; passes = refl; away = refl; joined = refl }

pub low_root : (numbers most : ℕ) (v : View) (root : Node) (path : List ℕ) (cs : List (ℕ × Change)) → IsWorkerView numbers most v → CanMark root path cs v → HasHolds v.holds (root ∷ [])
low_root numbers most v root path cs i can = can.held

pub mark_at : {S : Type 0} (p : Terms S) (slots id i numbers most : ℕ) (me : Me S View) (w : View) (root : Node) (path : List ℕ) (cs : List (ℕ × Change)) → me.0 ≡ w → IsWorkerView numbers most w → i ≡ number root → CanMark root path cs w → IsLonePath root path w
    → Allows (Kept p) slots id me i (λ n. n) (edge_changed root path cs (step slots i 0 0 none) me)
mark_at p slots id i numbers most me w root path cs same worker at can lone =
    subst (λ (j : ℕ). Allows (Kept p) slots id me j (λ n. n) (λ n m'. EdgeChanged root path cs me m')) (sym at)
    (edge_marks p slots id me (omega (arith, ap (λ (v : View). v.spare) same, worker.spare)) root path cs
    (record {
      held = subst (λ (v : View). HasHolds v.holds (root ∷ [])) (sym same) can.held;
      new = subst (λ (v : View). HoldsNew (root ∷ []) cs (site root path []) v.holds) (sym same) can.new;
      leads = can.leads;
      order = can.order;
      fits = can.fits;
      room = omega (arith, ap (λ (v : View). length v.holds) same, ap (λ (v : View). v.room) same, worker.room, can.room);
    })
    (subst (λ (v : View). IsLonePath root path v) (sym same) lone))

-- no number on the path is less lone
pub lone-again : (root new : Node) (path : List ℕ) (cs : List (ℕ × Change)) (v w : View) → FitEach cs (site root path []) → new ≡ (changed_root root path cs).tree → w ≡ marking root path (core_changes cs (site root path [])) v → IsLonePath root path v → IsLonePath new (changed_root root path cs).path w
lone-again root new path cs v w fits is told lone n among =
    subst (λ (z : View). Member n z.lone) (sym told)
    (lone n (subst (λ (ns : List ℕ). Among n ns) (ap (λ (z : Node). numbers_on z (changed_root root path cs).path) is ∙ edits-numbers cs (site root path []) fits) among))

-- ---- what a result tells
pub on-both : {X E A B C : Type 0} (r : Result X E) → (A → B → C) → OnOk r A → OnOk r B → OnOk r C
on-both (Ok x) f a b = f a b
on-both (Err e) f a b = tt

-- ---- lone paths
member-last : (n : ℕ) (ns : List ℕ) → Member n (ns ++ n ∷ [])
member-last n [] = inl refl
member-last n (m ∷ ms) = inr (member-last n ms)

member-first : (n : ℕ) (ns ms : List ℕ) → Member n ns → Member n (ns ++ ms)
member-first n [] ms is = absurd is
member-first n (x ∷ xs) ms (inl e) = inl e
member-first n (x ∷ xs) ms (inr is) = inr (member-first n xs ms is)

path-lone : (t : Node) (path lone : List ℕ) → IsPathIn lone t path → (n : ℕ) → Among n (numbers_on t path) → Member n (lone ++ number (node_at t path) ∷ [])
path-lone t [] lone down n (inl e) = subst (λ (m : ℕ). Member m (lone ++ number t ∷ [])) (sym e) (member-last (number t) lone)
path-lone t [] lone down n (inr never) = absurd never
path-lone t (p ∷ ps) lone down n (inl e) = subst (λ (m : ℕ). Member m (lone ++ number (node_at (child_of t p) ps) ∷ [])) (sym e) (member-first (number t) lone (number (node_at (child_of t p) ps) ∷ []) down.0)
path-lone t (p ∷ ps) lone down n (inr later) = path-lone (child_of t p) ps lone down.2 n later

-- after a look at its end that answered yes, a path is lone
pub path-found : (root : Node) (path : List ℕ) (v w : View) → IsPathIn v.lone root path → w ≡ found_lone (node_at root path) v → IsLonePath root path w
path-found root path v w down found n among = subst (λ (z : View). Member n z.lone) (sym found) (path-lone root path v.lone down n among)
