-- A lone path from a direct hold excludes all other views from its nodes.
use Rattle.std.proofs.Common.{◌≡◌, ◌≢◌, ℕ, zero, suc, ◌<◌, inl, inr, List, [], ◌∷◌, length, get_or, set, refl, sym, ◌∙◌, ap, subst, arith, length-set, get_or-set_other}
use Rattle.std.specs.Prelude.{Option, Some, None, slice_get}
use Rattle.std.proofs.lemmas.Option.{slice_get_within, get_or_from_slice_get}
use mathlib.Core.Logic.{dite}
use native.Mathlib.Decide.{dec_lt}
use Rattle.node_forest.specs.Forest.{children}
use Rattle.node_forest.specs.Label.{Node, number}
use Rattle.node_forest.specs.Members.{In, Occurs}
use Rattle.node_forest.proofs.Members.{root_occurs, child_occurs}
use Rattle.count_core.specs.SoundBelow.{IsSoundBelow, Parts}
use Rattle.count_core.specs.Steps.{State, word_at, holds_at, roots}
use Rattle.count_core.specs.Worlds.{IsSound}
use Rattle.count_core.specs.Paths.{path_from, IsLone}
use Rattle.count_core.proofs.Places.{in_item}
use Rattle.count_core.proofs.Around.{seen_occurs, shrinks}
use Rattle.count_core.proofs.Moves.{sound_of}
use Rattle.count_core.proofs.Lone.{lone_root, lone_child}

-- an edge at a place is a child
pub child_at : (ts : List Node) (p : ℕ) (c : Node) → slice_get ts p ≡ Some c → In c ts
child_at ts p c e = in_item ts p c (slice_get_within ts p c e) (sym (get_or_from_slice_get ts p c c e))

-- a view's holds, and all others
pub view_parts : (views : List (List Node)) (v : ℕ) → v < length views → Parts (roots views) (get_or views v []) (roots (set views v []))
view_parts views v l = shrinks views v [] (get_or views v []) l (record { count = λ n. omega arith; out = λ x h. inl h; left = λ x h. h; right = λ x h. absurd h })

-- what occurs in another view occurs among all others
pub other_occurs : (views : List (List Node)) (v other : ℕ) (y : Node) → other ≢ v → Occurs y (get_or views other []) → Occurs y (roots (set views v []))
other_occurs views v other y ne o =
    dite (dec_lt other (length views))
    (λ l. seen_occurs (set views v []) other y (let e = length-set views v [] in omega arith) (subst (λ (z : List Node). Occurs y z) (sym (get_or-set_other views v other [] [] ne)) o))
    (λ beyond. absurd (subst (λ (z : List Node). Occurs y z) (past views other beyond) o))
  where
    past : (vs : List (List Node)) (i : ℕ) → (i < length vs → ⊥) → get_or vs i [] ≡ []
    past [] i out = refl
    past (x ∷ xs) zero out = absurd (out (omega arith))
    past (x ∷ xs) (suc i) out = past xs i (λ l. out (omega arith))

module _ (size : ℕ) (word : ℕ → ℕ) (all mine others : List Node) (s : IsSoundBelow size word all) (p : Parts all mine others) where
  head_in : (c : Node) (ks : List ℕ) → In c (path_from (Some c) ks)
  head_in c [] = inl refl
  head_in c (k ∷ ks) = inl refl

  -- one edge down, where the rest of the path is told
  go_down : (t : Node) (k : ℕ) (ks : List ℕ) → Occurs t mine → ((y : Node) → Occurs y others → number y ≢ number t) → ((x : Node) → In x (path_from (Some t) (k ∷ ks)) → word (number x) ≡ 1)
      → (x : Node) → In x (path_from (slice_get (children t) k) ks) → (y : Node) → Occurs y others
      → ((c : Node) → Occurs c mine → ((z : Node) → Occurs z others → number z ≢ number c) → ((z : Node) → In z (path_from (Some c) ks) → word (number z) ≡ 1) → In x (path_from (Some c) ks) → number y ≢ number x)
      → (c : Option Node) → slice_get (children t) k ≡ c → number y ≢ number x
  go_down t k ks here lone ones x i y o rest None e = absurd (subst (λ (z : Option Node). In x (path_from z ks)) e i)
  go_down t k ks here lone ones x i y o rest (Some c) e =
      let child = child_at (children t) k c e in
      let down : (z : Node) → In z (path_from (Some c) ks) → In z (path_from (slice_get (children t) k) ks) = λ z h. subst (λ (q : Option Node). In z (path_from q ks)) (sym e) h in
      let one = ones c (inr (down c (head_in c ks))) in
      rest c (child_occurs c t mine here child) (λ z h. lone_child size word all mine others s p t c here lone child one z h) (λ z h. ones z (inr (down z h))) (subst (λ (q : Option Node). In x (path_from q ks)) e i)

  -- from a node that no other has down along the path
  walk : (t : Node) (places : List ℕ) → Occurs t mine → ((y : Node) → Occurs y others → number y ≢ number t) → ((x : Node) → In x (path_from (Some t) places) → word (number x) ≡ 1)
      → (x : Node) → In x (path_from (Some t) places) → (y : Node) → Occurs y others → number y ≢ number x
  walk t [] here lone ones x (inl e) y o = λ q. lone y o (q ∙ ap number e)
  walk t [] here lone ones x (inr i) y o = elim i [ ]
  walk t (k ∷ ks) here lone ones x (inl e) y o = λ q. lone y o (q ∙ ap number e)
  walk t (k ∷ ks) here lone ones x (inr i) y o = go_down t k ks here lone ones x i y o (λ c h l one j. walk c ks h l one x j y o) (slice_get (children t) k) refl

  pub path_lone : (t : Node) (places : List ℕ) → In t mine → ((x : Node) → In x (path_from (Some t) places) → word (number x) ≡ 1) → (x : Node) → In x (path_from (Some t) places) → (y : Node) → Occurs y others → number y ≢ number x
  path_lone t places held ones = walk t places (root_occurs t mine held) (lone_root size word all mine others s p t held (ones t (head_in t places))) ones

pub lone_path : (w : State) (v : ℕ) (t : Node) (places : List ℕ) → IsSound w → v < length w.views → In t (holds_at w v) → IsLone w (path_from (Some t) places)
    → (x : Node) → In x (path_from (Some t) places) → (other : ℕ) → other ≢ v → (y : Node) → Occurs y (holds_at w other) → number y ≢ number x
lone_path w v t places s l held ones x i other ne y o =
    path_lone (length w.words) (word_at w) (roots w.views) (holds_at w v) (roots (set w.views v [])) (sound_of w s) (view_parts w.views v l) t places held ones x i y (other_occurs w.views v other y ne o)
