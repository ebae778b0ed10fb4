-- What counted steps found, against the counted and uncounted steps of all tokens.
use Rattle.std.proofs.Common.{◌≡◌, ◌≢◌, ◌⊎◌, inl, inr, ⊎_elim, ℕ, zero, suc, ◌+◌, ◌≤◌, List, [], ◌∷◌, ◌++◌, sum_by, set, refl, sym, ◌∙◌, ap, subst, arith}
use Rattle.std.proofs.lemmas.List.Sums.{sum_by-append}
use mathlib.Core.Option.{some, some-injective, some-ne-none}
use lib.ListN.{get_elem?}
use Rattle.atomic_table.proofs.Lists.{at_set, at_snoc, set_else}
use Rattle.pool_rule.specs.Notes.{Count, Tally}
use Rattle.pool_rule.specs.Pools.{Member, IsWithin, Tallied, made_by, ended_by}
use Rattle.pool_rule.specs.Views.{View, count_of, tally_of, spent}

-- a sum over all tokens after one changed
pub sum-set : (f : View → ℕ) (views : List View) (id : ℕ) (v w : View) → get_elem? views id ≡ some v → sum_by f (set views id w) + f v ≡ sum_by f views + f w
sum-set f [] id v w e = absurd (some-ne-none v (sym e))
sum-set f (x ∷ xs) zero v w e = omega (arith, ap f (some-injective x v e), sum_by-append f (x ∷ []) xs, sum_by-append f (w ∷ []) xs)
sum-set f (x ∷ xs) (suc id) v w e = omega (arith, sum-set f xs id v w e, sum_by-append f (x ∷ []) xs, sum_by-append f (x ∷ []) (set xs id w))

pub at-sum : (f : View → ℕ) (views : List View) (id : ℕ) (v : View) → get_elem? views id ≡ some v → f v ≤ sum_by f views
at-sum f [] id v e = absurd (some-ne-none v (sym e))
at-sum f (x ∷ xs) zero v e = omega (arith, ap f (some-injective x v e), sum_by-append f (x ∷ []) xs)
at-sum f (x ∷ xs) (suc id) v e = omega (arith, at-sum f xs id v e, sum_by-append f (x ∷ []) xs)

pub two-sum : (f : View → ℕ) (views : List View) (id other : ℕ) (v w : View) → get_elem? views id ≡ some v → get_elem? views other ≡ some w → id ≢ other → f v + f w ≤ sum_by f views
two-sum f [] id other v w e h ne = absurd (some-ne-none v (sym e))
two-sum f (x ∷ xs) zero zero v w e h ne = absurd (ne refl)
two-sum f (x ∷ xs) zero (suc other) v w e h ne = omega (arith, ap f (some-injective x v e), at-sum f xs other w h, sum_by-append f (x ∷ []) xs)
two-sum f (x ∷ xs) (suc id) zero v w e h ne = omega (arith, ap f (some-injective x w h), at-sum f xs id v e, sum_by-append f (x ∷ []) xs)
two-sum f (x ∷ xs) (suc id) (suc other) v w e h ne = omega (arith, two-sum f xs id other v w e h (λ q. ne (ap suc q)), sum_by-append f (x ∷ []) xs)

pub sum-last : (f : View → ℕ) (views : List View) (w : View) → sum_by f (views ++ w ∷ []) ≡ sum_by f views + f w
sum-last f views w = omega (arith, sum_by-append f views (w ∷ []), sum_by-append f (w ∷ []) [])

-- ---- a step
pub record IsTally (word : ℕ) (v w : View) : Type 0 where
  pub made : ℕ
  pub ended : ℕ
  pub more_made : w.made ≡ v.made + made
  pub more_ended : w.ended ≡ v.ended + ended
  pub joined : w.joined ≡ v.joined
  pub counts : (c : Count) → Member c w.counts → Member c v.counts ⊎ ((c ≡ count_of word v) × (made ≡ 1))

pub tallied_step : (word m : ℕ) (views : List View) (id : ℕ) (v w : View) (t : IsTally word v w) → get_elem? views id ≡ some v → m + t.ended ≡ word + t.made → Tallied word views → Tallied m (set views id w)
tallied_step word m views id v w t at live r =
    let am = sum-set made_by views id v w at in
    let ae = sum-set ended_by views id v w at in
    let jm = ap (λ (l : List Tally). sum_by (λ (x : Tally). x.made) l) t.joined in
    let je = ap (λ (l : List Tally). sum_by (λ (x : Tally). x.ended) l) t.joined in
    record {
      live = omega (arith, r.live, am, ae, jm, je, t.more_made, t.more_ended, live);
      own = λ j u here c h. ⊎_elim
          (λ q. let h' : Member c w.counts = subst (λ (z : View). Member c z.counts) (sym q.1) h in
          let is : IsWithin (sum_by made_by (set views id w)) (sum_by ended_by (set views id w)) w.made w.ended c =
          ⊎_elim
          (λ old. let i = r.own id v at c old in record { most = omega (arith, i.most, am, jm, t.more_made); least = omega (arith, i.least, ae, je, t.more_ended) })
          (λ new. let f = ap (λ (z : Count). z.found) new.0 in let g = ap (λ (z : Count). z.made) new.0 in let k = ap (λ (z : Count). z.ended) new.0 in
          record {
            most = omega (arith, f, g, k, r.live, am, jm, t.more_made, new.1, at-sum ended_by views id v at);
            least = omega (arith, f, g, k, r.live, ae, je, t.more_ended, at-sum made_by views id v at);
          })
          (t.counts c h') in
          subst (λ (z : View). IsWithin (sum_by made_by (set views id w)) (sum_by ended_by (set views id w)) z.made z.ended c) q.1 is)
          (λ q. let i = r.own j u q.1 c h in record { most = omega (arith, i.most, am, jm, t.more_made); least = omega (arith, i.least, ae, je, t.more_ended) })
          (at_set views id j w u here);
      joined = λ j u here x hx c h. ⊎_elim
          (λ q. let i = r.joined id v at x (subst (λ (l : List Tally). Member x l) (ap (λ (z : View). z.joined) (sym q.1) ∙ t.joined) hx) c h in record { most = omega (arith, i.most, am, jm, t.more_made); least = omega (arith, i.least, ae, je, t.more_ended) })
          (λ q. let i = r.joined j u q.1 x hx c h in record { most = omega (arith, i.most, am, jm, t.more_made); least = omega (arith, i.least, ae, je, t.more_ended) })
          (at_set views id j w u here);
    }

-- ---- tokens divided and joined
-- a token with nothing counted
pub record IsUncounted (v : View) : Type 0 where
  pub made : v.made ≡ 0
  pub ended : v.ended ≡ 0
  pub counts : v.counts ≡ []
  pub joined : v.joined ≡ []

pub record SameTally (v w : View) : Type 0 where
  pub made : w.made ≡ v.made
  pub ended : w.ended ≡ v.ended
  pub counts : w.counts ≡ v.counts
  pub joined : w.joined ≡ v.joined

abbrev pub same_tally : (word : ℕ) (v w : View) → SameTally v w → IsTally word v w
same_tally word v w s = record {
  made = 0;
  ended = 0;
  more_made = omega (arith, s.made);
  more_ended = omega (arith, s.ended);
  joined = s.joined;
  counts = λ c h. inl (subst (λ (l : List Count). Member c l) s.counts h);
}

pub tallied_last : (word : ℕ) (views : List View) (w : View) → IsUncounted w → Tallied word views → Tallied word (views ++ w ∷ [])
tallied_last word views w n r =
    let am = sum-last made_by views w in
    let ae = sum-last ended_by views w in
    let jm = ap (λ (l : List Tally). sum_by (λ (x : Tally). x.made) l) n.joined in
    let je = ap (λ (l : List Tally). sum_by (λ (x : Tally). x.ended) l) n.joined in
    record {
      live = omega (arith, r.live, am, ae, jm, je, n.made, n.ended);
      own = λ j u here c h. ⊎_elim
          (λ q. let i = r.own j u q c h in record { most = omega (arith, i.most, am); least = omega (arith, i.least, ae) })
          (λ q. absurd (subst (λ (l : List Count). Member c l) (ap (λ (z : View). z.counts) (sym q) ∙ n.counts) h))
          (at_snoc views w u j here);
      joined = λ j u here x hx c h. ⊎_elim
          (λ q. let i = r.joined j u q x hx c h in record { most = omega (arith, i.most, am); least = omega (arith, i.least, ae) })
          (λ q. absurd (subst (λ (l : List Tally). Member x l) (ap (λ (z : View). z.joined) (sym q) ∙ n.joined) hx))
          (at_snoc views w u j here);
    }

pub record JoinedTally (v w b : View) : Type 0 where
  pub made : b.made ≡ v.made
  pub ended : b.ended ≡ v.ended
  pub counts : b.counts ≡ v.counts
  pub all_made : made_by b ≡ made_by v + made_by w
  pub all_ended : ended_by b ≡ ended_by v + ended_by w
  pub joined : (t : Tally) → Member t b.joined → Member t v.joined ⊎ (t ≡ tally_of w) ⊎ Member t w.joined

pub tallied_joined : (word : ℕ) (views : List View) (id other : ℕ) (v w b : View) → JoinedTally v w b → get_elem? views id ≡ some v → get_elem? views other ≡ some w → other ≢ id → Tallied word views → Tallied word (set (set views id b) other (spent w))
tallied_joined word views id other v w b j at there ne r =
    let am = sum-set made_by views id v b at in
    let ae = sum-set ended_by views id v b at in
    let there' : get_elem? (set views id b) other ≡ some w = set_else views id other b ne ∙ there in
    let bm = sum-set made_by (set views id b) other w (spent w) there' in
    let be = sum-set ended_by (set views id b) other w (spent w) there' in
    let as_was : (made ended : ℕ) (c : Count) → IsWithin (sum_by made_by views) (sum_by ended_by views) made ended c → IsWithin (sum_by made_by (set (set views id b) other (spent w))) (sum_by ended_by (set (set views id b) other (spent w))) made ended c =
    (λ made ended c i. record { most = omega (arith, i.most, am, bm, j.all_made); least = omega (arith, i.least, ae, be, j.all_ended) }) in
    record {
      live = omega (arith, r.live, am, ae, bm, be, j.all_made, j.all_ended);
      own = λ k u here c h. ⊎_elim
          (λ q. absurd (subst (λ (z : View). Member c z.counts) (sym q.1) h))
          (λ q. ⊎_elim
          (λ p. let h' : Member c v.counts = subst (λ (l : List Count). Member c l) (ap (λ (z : View). z.counts) (sym p.1) ∙ j.counts) h in
          let e : v.made ≡ u.made = sym j.made ∙ ap (λ (z : View). z.made) p.1 in
          let f : v.ended ≡ u.ended = sym j.ended ∙ ap (λ (z : View). z.ended) p.1 in
          as_was u.made u.ended c (subst (λ (z : ℕ × ℕ). IsWithin (sum_by made_by views) (sum_by ended_by views) z.0 z.1 c) (λ i. (e i, f i)) (r.own id v at c h')))
          (λ p. as_was u.made u.ended c (r.own k u p.1 c h))
          (at_set views id k b u q.1))
          (at_set (set views id b) other k (spent w) u here);
      joined = λ k u here x hx c h. ⊎_elim
          (λ q. absurd (subst (λ (z : View). Member x z.joined) (sym q.1) hx))
          (λ q. ⊎_elim
          (λ p. ⊎_elim3 (λ z. as_was x.made x.ended c (r.joined id v at x z c h))
          (λ z. as_was x.made x.ended c (subst (λ (y : Tally). IsWithin (sum_by made_by views) (sum_by ended_by views) y.made y.ended c) (sym z) (r.own other w there c (subst (λ (y : Tally). Member c y.counts) z h))))
          (λ z. as_was x.made x.ended c (r.joined other w there x z c h))
          (j.joined x (subst (λ (z : View). Member x z.joined) (sym p.1) hx)))
          (λ p. as_was x.made x.ended c (r.joined k u p.1 x hx c h))
          (at_set views id k b u q.1))
          (at_set (set views id b) other k (spent w) u here);
    }
  where
    ⊎_elim3 : {A B C D : Type 0} → (A → D) → (B → D) → (C → D) → A ⊎ B ⊎ C → D
    ⊎_elim3 f g h x = elim x [ inl a ↦ f a | inr y ↦ ⊎_elim g h y ]
