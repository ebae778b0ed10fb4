-- The box of an external whose last hold went.
use Rattle.std.proofs.Common.{◌≡◌, ◌≢◌, ◌⊎◌, inl, inr, ℕ, Bool, eqb, eq-eqb, ne_eqb, List, [], ◌∷◌, length, sym, ap, subst, ◌∙◌}
use Rattle.std.specs.Prelude.{if◌then◌else◌, Option, Some, None}
use Rattle.atomic_table.specs.Seated.{TableId}
use Rattle.atomic_table.specs.Table.{Me}
use Rattle.node_forest.specs.declared.kind.Kind.{Kind}
use Rattle.node_forest.specs.declared.kind.Kind.TheVariants.{External}
use Rattle.node_forest.specs.Label.{Node}
use Rattle.pool_rule.specs.Notes.{use_of, uses_of}
use Rattle.pool_rule.specs.Plays.{HasLeft}
use Rattle.pool_rule.specs.Pools.{Handed, Box}
use Rattle.pool_rule.specs.Views.{View, leaving, releasing, homing}
use Rattle.pool_rule.proofs.Calls.{uses_plain, both_empty}
use Rattle.node_pool.specs.Boxes.{box_of, pool_terms, IsCarried}
use Rattle.node_pool.specs.Tokens.{IsWorkerView}
use Rattle.node_pool.proofs.Seats.{IsAt, IsSeated}

away_plain : (found : ℕ) (t : Node) (v : View) → (found ≢ 1) ⊎ (t.0.kind ≢ External) → (releasing found t v).away ≡ []
away_plain found t v (inl ne) = ap (λ (b : Bool). if b then uses_of t.0.kind t else []) (ne_eqb found 1 ne)
away_plain found t v (inr ne) = both_empty (eqb found 1) (uses_plain t.0.kind t ne)

away_last : (found : ℕ) (t : Node) (v : View) → found ≡ 1 → t.0.kind ≡ External → (releasing found t v).away ≡ use_of t ∷ []
away_last found t v last ext = ap (λ (b : Bool). if b then uses_of t.0.kind t else []) (eq-eqb found 1 last) ∙ ap (λ (k : Kind). uses_of k t) ext

module _ {S : Type 0} (numbers workers : ℕ) (boxes : List Handed) (seen : S → Option Box) (t e : Node) (same : e ≡ t) (before after : Me S View) (found : ℕ) (left : HasLeft (pool_terms numbers workers boxes seen) t before found after) (none_ : before.1 ≡ []) where
  pub nothing_out : (found ≢ 1) ⊎ (e.0.kind ≢ External) → (after.0.away ≡ []) × (after.1 ≡ [])
  nothing_out why =
      let why' : (found ≢ 1) ⊎ (t.0.kind ≢ External) = subst (λ (z : Node). (found ≢ 1) ⊎ (z.0.kind ≢ External)) same why in
      (ap (λ (v : View). v.away) left.view ∙ away_plain found t before.0 why', left.plain why' ∙ none_)

  pub box_out : found ≡ 1 → e.0.kind ≡ External → IsCarried boxes seen e after
  box_out last ext =
      let ext' : t.0.kind ≡ External = ap (λ (z : Node). z.0.kind) (sym same) ∙ ext in
      let q = left.last last ext' in
      subst (λ (z : Node). IsCarried boxes seen z after) (sym same) (record {
        away = ap (λ (v : View). v.away) left.view ∙ away_last found t before.0 last ext';
        value = q.0;
        fresh = q.1;
        carried = q.2 ∙ ap (λ (l : List (ℕ × S)). (t.0.more, q.0) ∷ l) none_;
      })

-- with the slot back, the view is that of a leave
homed_leaving : (found : ℕ) (t : Node) (v w x : View) → w ≡ v → w.away ≡ [] → x ≡ releasing found t w → homing x ≡ leaving found t v
homed_leaving found t v w x same none_ is = ap homing is ∙ ((λ q. record (leaving found t w) { away = sym none_ q }) ∙ ap (leaving found t) same)

-- a worker's seat after a leave, with the slot back
pub left_at : {numbers most : ℕ} {wanted at to : TableId} {x v y : View} {C : Type 0} {me : View × C} {c : C} (found : ℕ) (t : Node) → IsSeated (IsWorkerView numbers most) wanted at x v → y ≡ releasing found t x → to ≡ wanted → me ≡ (homing y, c) → IsAt wanted to me.0 (leaving found t v)
left_at {v = v} found t w is table homed =
    record { table = table; is = ap (λ z. z.0) homed ∙ homed_leaving found t v _ _ w.is (ap (λ (z : View). z.away) w.is ∙ w.known.away) is }

pub homed_nothing : (v : View) → v.away ≡ [] → homing v ≡ v
homed_nothing v none_ = λ q. record v { away = sym none_ q }

-- the box was called since it was handed in
pub called_is : (h : Handed) (calls calls' : ℕ) (latest latest' length length' : Option ℕ) (l : ℕ) → Some (box_of calls latest length) ≡ Some (record { handed = h; length = None }) → calls' ≡ calls → latest' ≡ latest → length' ≡ Some l
    → Some (box_of calls' latest' length') ≡ Some (record { handed = h; length = Some l })
called_is h calls calls' latest latest' length length' l was a b c =
    let box : box_of calls latest length ≡ record { handed = h; length = None } = cc in
    let handed : record { calls = calls; latest = latest } ≡ h = ap (λ (z : Box). z.handed) box in
    (λ q. Some (box_of (a q) (b q) (c q))) ∙ (λ q. Some (record { handed = handed q; length = Some l }))

abbrev first_value : {S : Type 0} → S → List (ℕ × S) → S
first_value d [] = d
first_value d (x ∷ xs) = x.1

pub value_is : {S : Type 0} (slot more : ℕ) (x y : S) (others all : List (ℕ × S)) → all ≡ (slot, x) ∷ others → all ≡ (more, y) ∷ [] → x ≡ y
value_is slot more x y others all a b = ap (first_value x) (sym a ∙ b)
