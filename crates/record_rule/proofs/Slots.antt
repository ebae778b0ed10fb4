-- What a step on one slot leaves of the others.
use Rattle.std.proofs.Common.{◌≡◌, ◌≢◌, ℕ, ◌≤◌, ◌+◌, List, [], ◌∷◌, Bool, true, false, cond, eqb, refl, sym, ap, ◌∙◌, subst, inl, inr, arith, eq-eqb, ne_eqb}
use mathlib.Core.Logic.{dite}
use native.Mathlib.Decide.{ℕ_discrete}
use Rattle.node_forest.specs.Label.{Node}
use Rattle.cordz_core.specs.declared.slot.SlotState.{SlotState}
use Rattle.cordz_core.specs.History.{History, Reserves, Frees, Tracks, Unlinks, Settles, Snaps, Unsnaps, stamp_in, stamps_given}
use Rattle.record_rule.specs.declared.values.Rep.{Rep}
use Rattle.record_rule.specs.declared.views.Claim.{Claim}
use Rattle.record_rule.specs.declared.views.Claim.TheVariants.{Nothing, Promised, Written, Owned, Unlinked, Cleared, Emptied}
use Rattle.record_rule.specs.declared.views.Noted.{Noted}
use Rattle.record_rule.specs.World.{HasRecord, IsSlot}

-- a function with one value changed
abbrev pub changed : {A : Type 0} → (ℕ → A) → ℕ → A → ℕ → A
changed f s x t = cond (eqb t s) x (f t)

pub changed_here : {A : Type 0} (f : ℕ → A) (s t : ℕ) (x : A) → t ≡ s → changed f s x t ≡ x
changed_here f s t x e = ap (λ b. cond b x (f t)) (eq-eqb t s e)

pub changed_else : {A : Type 0} (f : ℕ → A) (s t : ℕ) (x : A) → t ≢ s → changed f s x t ≡ f t
changed_else f s t x n = ap (λ b. cond b x (f t)) (ne_eqb t s n)

-- a slot's stamp is one that was given
either_le : (b : Bool) (x y n : ℕ) → x ≤ n → y ≤ n → cond b x y ≤ n
either_le true x y n h k = h
either_le false x y n h k = k

pub stamp_given : (h : History) (s : ℕ) → stamp_in h s ≤ stamps_given h
stamp_given [] s = omega arith
stamp_given (Reserves r ∷ h) s = let k = stamp_given h s in either_le (eqb s r) (stamps_given h + 1) (stamp_in h s) (stamps_given h + 1) (omega arith) (omega arith)
stamp_given (Frees r ∷ h) s = stamp_given h s
stamp_given (Tracks r ∷ h) s = stamp_given h s
stamp_given (Unlinks r ∷ h) s = stamp_given h s
stamp_given (Settles r ∷ h) s = stamp_given h s
stamp_given (Snaps w ∷ h) s = stamp_given h s
stamp_given (Unsnaps w ∷ h) s = stamp_given h s

module _ {S : Type 0} (tree_of : S → Node) (fits : S → Type 0) where
  -- a slot whose stamp was given with another slot has no record
  slot_apart : (c : Claim) (state : SlotState) (s stamp at at' : ℕ) (live live' : Bool) (notes notes' : List Noted) (r : Rep S) → at ≢ s → IsSlot tree_of fits c state s stamp at live notes r → IsSlot tree_of fits c state s stamp at' live' notes' r
  slot_apart Nothing state s stamp at at' live live' notes notes' r apart (inl k) = inl k
  slot_apart Nothing state s stamp at at' live live' notes notes' r apart (inr k) = absurd (apart k.2.0)
  slot_apart (Promised own) state s stamp at at' live live' notes notes' r apart k = absurd (apart k.3)
  slot_apart (Written own ns) state s stamp at at' live live' notes notes' r apart k = absurd (apart k.5.0)
  slot_apart (Owned own ns bare) state s stamp at at' live live' notes notes' r apart k = absurd (apart k.5.0)
  slot_apart (Unlinked own bare) state s stamp at at' live live' notes notes' r apart k = absurd (apart k.4.0)
  slot_apart (Cleared bare) state s stamp at at' live live' notes notes' r apart k = absurd (apart k.3.0)
  slot_apart Emptied state s stamp at at' live live' notes notes' r apart k = absurd (apart k.1)

  -- a record that is written and not unlinked has its slot's stamp
  pub kept_stamp : (c : Claim) (state : SlotState) (s stamp at : ℕ) (live : Bool) (notes : List Noted) (r : Rep S) (t : ℕ) → IsSlot tree_of fits c state s stamp at live notes r → HasRecord c t → t ≡ stamp
  kept_stamp Nothing state s stamp at live notes r t k h = absurd h
  kept_stamp (Promised own) state s stamp at live notes r t k h = absurd h
  kept_stamp (Written own ns) state s stamp at live notes r t k h = sym h ∙ k.2
  kept_stamp (Owned own ns bare) state s stamp at live notes r t k h = sym h ∙ k.2
  kept_stamp (Unlinked own bare) state s stamp at live notes r t k h = absurd h
  kept_stamp (Cleared bare) state s stamp at live notes r t k h = absurd h
  kept_stamp Emptied state s stamp at live notes r t k h = absurd h

  pub slot_same : (c c' : Claim) (state state' : SlotState) (s stamp stamp' at at' : ℕ) (live live' : Bool) (notes notes' : List Noted) (r : Rep S) → c' ≡ c → state' ≡ state → stamp' ≡ stamp → at' ≡ at → live' ≡ live → notes' ≡ notes
      → IsSlot tree_of fits c state s stamp at live notes r → IsSlot tree_of fits c' state' s stamp' at' live' notes' r
  slot_same c c' state state' s stamp stamp' at at' live live' notes notes' r e f a b d n k =
      subst (λ (z : Claim × SlotState × ℕ × ℕ × Bool × List Noted). IsSlot tree_of fits z.0 z.1 s z.2 z.3 z.4 z.5 r) (λ i. (sym e i, sym f i, sym a i, sym b i, sym d i, sym n i)) k

  -- beside a change of one stamp, which is another slot's, or was not given yet
  pub slot_other : (c c' : Claim) (state state' : SlotState) (s stamp stamp' : ℕ) (slot : ℕ → ℕ) (live : ℕ → Bool) (notes : ℕ → List Noted) (t at : ℕ) (lives : Bool) (list : List Noted) (r : Rep S)
      → c' ≡ c → state' ≡ state → stamp' ≡ stamp → ((stamp ≡ t) → slot stamp ≢ s)
      → IsSlot tree_of fits c state s stamp (slot stamp) (live stamp) (notes stamp) r
      → IsSlot tree_of fits c' state' s stamp' (changed slot t at stamp') (changed live t lives stamp') (changed notes t list stamp') r
  slot_other c c' state state' s stamp stamp' slot live notes t at lives list r e f a apart k = dite (ℕ_discrete stamp t)
      (λ is. subst (λ (z : Claim × SlotState × ℕ). IsSlot tree_of fits z.0 z.1 s z.2 (changed slot t at z.2) (changed live t lives z.2) (changed notes t list z.2) r) (λ i. (sym e i, sym f i, sym a i))
      (slot_apart c state s stamp (slot stamp) (changed slot t at stamp) (live stamp) (changed live t lives stamp) (notes stamp) (changed notes t list stamp) r (apart is) k))
      (λ not. subst (λ (z : Claim × SlotState × ℕ). IsSlot tree_of fits z.0 z.1 s z.2 (changed slot t at z.2) (changed live t lives z.2) (changed notes t list z.2) r) (λ i. (sym e i, sym f i, sym a i))
      (slot_same c c state state s stamp stamp (slot stamp) (changed slot t at stamp) (live stamp) (changed live t lives stamp) (notes stamp) (changed notes t list stamp) r refl refl refl
      (changed_else slot t stamp at not) (changed_else live t stamp lives not) (changed_else notes t stamp list not) k))
