-- The direct holds of one view among those of all.
use Rattle.std.proofs.Common.{◌≡◌, ℕ, zero, suc, ◌+◌, ◌<◌, inl, inr, ⊎_elim, Bool, true, false, List, [], ◌∷◌, ◌++◌, length, get_or, set, refl, sym, ◌∙◌, ap, subst, arith, append_assoc}
use Rattle.std.specs.Prelude.{not}
use mathlib.Core.Logic.{dite}
use native.Mathlib.Decide.{ℕ_discrete}
use Rattle.node_forest.specs.Label.{Node, number}
use Rattle.node_forest.specs.Members.{In, Occurs}
use Rattle.node_forest.proofs.Members.{occurs_split, occurs_left, occurs_right}
use Rattle.node_forest.proofs.Counts.{times_append}
use Rattle.count_core.specs.Holders.{skip_if}
use Rattle.count_core.specs.SoundBelow.{Parts}
use Rattle.count_core.specs.Views.{without, is_among, moving, staying}
use Rattle.count_core.specs.Steps.{roots}
use Rattle.count_core.proofs.Parts.{parts_around}
use Rattle.count_core.proofs.Places.{without_hit, without_miss}

-- what stands before a view and behind it, whatever it holds
pub record Around (views : List (List Node)) (v : ℕ) : Type 0 where
  pub before : List Node
  pub after : List Node
  pub now : roots views ≡ before ++ (get_or views v [] ++ after)
  pub then : (hs : List Node) → roots (set views v hs) ≡ before ++ (hs ++ after)

pub around : (views : List (List Node)) (v : ℕ) → v < length views → Around views v
around [] v l = absurd (omega arith)
around (x ∷ xs) zero l = record { before = []; after = roots xs; now = refl; then = λ hs. refl }
around (x ∷ xs) (suc v) l = let r = around xs v (omega arith) in record {
  before = x ++ r.before;
  after = r.after;
  now = ap (λ (y : List Node). x ++ y) r.now ∙ sym (append_assoc x r.before (get_or xs v [] ++ r.after));
  then = λ hs. ap (λ (y : List Node). x ++ y) (r.then hs) ∙ sym (append_assoc x r.before (hs ++ r.after));
}

-- what occurs in a view occurs
pub seen_occurs : (views : List (List Node)) (v : ℕ) (t : Node) → v < length views → Occurs t (get_or views v []) → Occurs t (roots views)
seen_occurs [] v t l h = absurd (omega arith)
seen_occurs (x ∷ xs) zero t l h = occurs_left t x (roots xs) h
seen_occurs (x ∷ xs) (suc v) t l h = occurs_right t x (roots xs) (seen_occurs xs v t (omega arith) h)

-- two views differ in these roots as their holds do
pub grows : (views : List (List Node)) (v : ℕ) (w c : List Node) → v < length views → Parts w c (get_or views v []) → Parts (roots (set views v w)) c (roots views)
grows views v w c l p = let a = around views v l in
    subst (λ (z : List Node × List Node). Parts z.0 c z.1) (λ i. (sym (a.then w) i, sym a.now i)) (parts_around a.before a.after w c (get_or views v []) p)

pub shrinks : (views : List (List Node)) (v : ℕ) (w c : List Node) → v < length views → Parts (get_or views v []) c w → Parts (roots views) c (roots (set views v w))
shrinks views v w c l p = let a = around views v l in
    subst (λ (z : List Node × List Node). Parts z.0 c z.1) (λ i. (sym a.now i, sym (a.then w) i)) (parts_around a.before a.after (get_or views v []) c w p)

pub turns : (views : List (List Node)) (v : ℕ) (w x c : List Node) → v < length views → Parts w c x → Parts (roots (set views v w)) c (roots (set views v x))
turns views v w x c l p = let a = around views v l in
    subst (λ (z : List Node × List Node). Parts z.0 c z.1) (λ i. (sym (a.then w) i, sym (a.then x) i)) (parts_around a.before a.after w c x p)

-- ---- parts of one view's holds
parts_head : (t : Node) (ts : List Node) → Parts (t ∷ ts) (t ∷ []) ts
parts_head t ts = record {
  count = λ n. omega arith;
  out = λ x h. occurs_split x (t ∷ []) ts h;
  left = λ x h. occurs_left x (t ∷ []) ts h;
  right = λ x h. occurs_right x (t ∷ []) ts h;
}

parts_cons : (x : Node) (hs c k : List Node) → Parts hs c k → Parts (x ∷ hs) c (x ∷ k)
parts_cons x hs c k p = record {
  count = λ n. let a = p.count n in omega arith;
  out = λ y h. ⊎_elim (λ l. inr (occurs_left y (x ∷ []) k l)) (λ r. ⊎_elim (λ m. inl m) (λ m. inr (occurs_right y (x ∷ []) k m)) (p.out y r)) (occurs_split y (x ∷ []) hs h);
  left = λ y h. occurs_right y (x ∷ []) hs (p.left y h);
  right = λ y h. ⊎_elim (λ l. occurs_left y (x ∷ []) hs l) (λ r. occurs_right y (x ∷ []) hs (p.right y r)) (occurs_split y (x ∷ []) k h);
}

-- the two sides exchanged
pub parts_swap : (a c k : List Node) → Parts a c k → Parts a k c
parts_swap a c k p = record { count = λ n. let e = p.count n in omega arith; out = λ x h. ⊎_elim (λ l. inr l) (λ r. inl r) (p.out x h); left = p.right; right = p.left }

-- a hold, and the rest
pub parts_without : (t : Node) (hs : List Node) → In t hs → ((u : Node) → In u hs → number u ≡ number t → u ≡ t) → Parts hs (t ∷ []) (without (number t) hs)
parts_without t [] h same = absurd h
parts_without t (x ∷ xs) h same =
    dite (ℕ_discrete (number x) (number t))
    (λ e. let is : x ≡ t = same x (inl refl) e in
    subst (λ (z : Node × List Node). Parts (z.0 ∷ xs) (t ∷ []) z.1) (λ i. (sym is i, sym (without_hit (number t) x xs e) i)) (parts_head t xs))
    (λ ne. let there : In t xs = ⊎_elim (λ e. absurd (ne (ap number (sym e)))) (λ i. i) h in
    subst (λ (z : List Node). Parts (x ∷ xs) (t ∷ []) z) (sym (without_miss (number t) x xs ne))
    (parts_cons x xs (t ∷ []) (without (number t) xs) (parts_without t xs there (λ u i. same u (inr i)))))

pub in_without : (n : ℕ) (u : Node) (hs : List Node) → In u (without n hs) → In u hs
in_without n u [] h = absurd h
in_without n u (x ∷ xs) h =
    dite (ℕ_discrete (number x) n)
    (λ e. inr (subst (λ (z : List Node). In u z) (without_hit n x xs e) h))
    (λ ne. ⊎_elim (λ e. inl e) (λ i. inr (in_without n u xs i)) (subst (λ (z : List Node). In u z) (without_miss n x xs ne) h))

pub parts_join : (a c cs k b : List Node) → Parts a c b → Parts b cs k → Parts a (c ++ cs) k
parts_join a c cs k b p q = record {
  count = λ n. let x = p.count n in let y = q.count n in let z = times_append n c cs in omega arith;
  out = λ x h. ⊎_elim (λ l. inl (occurs_left x c cs l)) (λ r. ⊎_elim (λ l. inl (occurs_right x c cs l)) (λ m. inr m) (q.out x r)) (p.out x h);
  left = λ x h. ⊎_elim (λ l. p.left x l) (λ r. p.right x (q.left x r)) (occurs_split x c cs h);
  right = λ x h. p.right x (q.right x h);
}

pub parts_none : (hs : List Node) → Parts hs [] hs
parts_none hs = record { count = λ n. omega arith; out = λ x h. inr h; left = λ x h. absurd h; right = λ x h. h }

-- the holds that move, and those that stay
pub parts_moving : (places : List ℕ) (i : ℕ) (hs : List Node) → Parts hs (moving places i hs) (staying places i hs)
parts_moving places i [] = parts_none []
parts_moving places i (t ∷ ts) = one (is_among i places) (parts_moving places (i + 1) ts)
  where
    one : (b : Bool) → Parts ts (moving places (i + 1) ts) (staying places (i + 1) ts) → Parts (t ∷ ts) (skip_if (not b) t (moving places (i + 1) ts)) (skip_if b t (staying places (i + 1) ts))
    one true p = parts_swap (t ∷ ts) (staying places (i + 1) ts) (t ∷ moving places (i + 1) ts) (parts_cons t ts (staying places (i + 1) ts) (moving places (i + 1) ts) (parts_swap ts (moving places (i + 1) ts) (staying places (i + 1) ts) p))
    one false p = parts_cons t ts (moving places (i + 1) ts) (staying places (i + 1) ts) p
