-- All steps of a token on its table are the count rule's.
use Rattle.std.proofs.Common.{◌≡◌, true, ℕ, ◌+◌, ◌-◌, List, [], ◌∷◌, ◌++◌, map, get_or, set, refl, ◌∙◌, sym, ap, arith}
use Rattle.std.proofs.lemmas.List.{map-set, map-append}
use mathlib.Core.Option.{some}
use lib.ListN.{get_elem?}
use Rattle.atomic_table.specs.Table.{State}
use Rattle.node_forest.specs.Label.{Node, number}
use Rattle.node_forest.specs.Members.{In}
use Rattle.count_core.specs.Steps.{split, Does, with_views}
use Rattle.count_core.specs.Views.{without}
use Rattle.pool_rule.specs.Views.{View, releasing, homing, narrower, part_of, parting, empty_pass, handing, giving, holder, without_node, drawing, merged}
use Rattle.pool_rule.specs.Rules.{holds_of, world, Ruled}
use Rattle.pool_rule.specs.Steps.{AreCoreSteps, divided}
use Rattle.pool_rule.proofs.Giving.{without_node-number}
use Rattle.pool_rule.proofs.Hands.{hand_place, hand_does}
use Rattle.pool_rule.proofs.Steps.{is_view, same_held, take_does, refused_does, live_low, share_does, leave_does, look_does, counted_does, uncounted_does, idle_world}
use Rattle.pool_rule.proofs.Tokens.{split_does, join_does}

module _ {S : Type 0} (k : ℕ) (s : State S View) (id : ℕ) (v : View) (r : Ruled k s) (at : get_elem? s.views id ≡ some v) (c : List (ℕ × S)) where
  divided_views : (left right : View) → map holds_of (set s.views id left ++ right ∷ []) ≡ set (map holds_of s.views) id left.holds ++ right.holds ∷ []
  divided_views left right = map-append holds_of (set s.views id left) (right ∷ []) ∙ ap (λ (z : List (List Node)). z ++ right.holds ∷ []) (map-set holds_of s.views id left)

  -- where a token is divided, the world has its holds alone
  divided_as : (left right left' right' : View) → left.holds ≡ left'.holds → right.holds ≡ right'.holds → world k (divided k s id v c left right) ≡ world k (divided k s id v c left' right')
  divided_as left right left' right' a b =
      ap (with_views (world k s)) (divided_views left right ∙ ((λ i. set (map holds_of s.views) id (a i) ++ b i ∷ []) ∙ sym (divided_views left' right')))

  part_does : Does (split id []) (world k s) true (world k (divided k s id v c (parting v) (empty_pass v)))
  part_does = let d = split_does k id v s 0 0 at in (d.0, divided_as (parting v) (empty_pass v) (narrower 0 0 v) (part_of 0 0 v) refl refl ∙ d.1)

  give_does : (t : Node) → In t v.holds → (place : ℕ) × Does (split id (place ∷ [])) (world k s) true (world k (divided k s id v c (giving t v) (holder t v)))
  give_does t h =
      let d = hand_does k id v t h s r at in
      let same : without_node t v.holds ≡ without (number t) v.holds = without_node-number t v.holds h (λ u i e. same_held k s id v r at u t i h e) in
      ((hand_place k id v t h s r at).place, (d.0, divided_as (giving t v) (holder t v) (handing t v) (holder t v) same refl ∙ d.1))

  pub core_steps : AreCoreSteps k s id v c
  core_steps = record {
    take = λ t l free held. take_does k s id v r at t c l free held;
    share = λ t small o. share_does k s id v r at t c (get_or s.words (number t) 0 + 1) small o refl;
    leave = λ t h. leave_does k s id v r at t (releasing (get_or s.words (number t) 0) t v) c (get_or s.words (number t) 0 - 1) refl h refl;
    refused = λ t l some_. refused_does k s id v r at t c l some_;
    counted = λ w same. let low = live_low k s id v r at in counted_does k s id v r at w c same (omega arith);
    uncounted = λ w same some_. uncounted_does k s id v r at w c same some_;
    look = λ t w same o. look_does k s id v r at t w c same o;
    hire = λ room slots. split_does k id v s room slots at;
    part = part_does;
    hand = give_does;
    draw = λ other w there apart. join_does k id other v w (drawing v w) s refl at there apart;
    merge = λ other w there apart. join_does k id other v w (merged v w) s refl at there apart;
    home = λ some_. (is_view k s id v r at, idle_world k s id v r at 0 (get_or s.words 0 0) (homing v) c some_ refl refl);
  }
