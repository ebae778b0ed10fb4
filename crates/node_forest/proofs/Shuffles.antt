-- Lists of trees in another order: as many with each number, the same roots, and the same nodes below them.
use Rattle.std.proofs.Common.{◌≡◌, ℕ, zero, suc, ◌+◌, ◌-◌, ◌<◌, ◌≤◌, ⊎_elim, List, [], ◌∷◌, ◌++◌, length, get_or, set, take, drop, refl, sym, ◌∙◌, ap, subst, arith, append_assoc, take-append-drop}
use Rattle.std.proofs.lemmas.List.{length-take-le}
use Rattle.node_forest.specs.declared.side.Side.{Side}
use Rattle.node_forest.specs.declared.side.Side.TheVariants.{Front, Back}
use Rattle.node_forest.specs.Label.{Node}
use Rattle.node_forest.specs.Members.{In, Occurs}
use Rattle.node_forest.specs.Counts.{times}
use Rattle.node_forest.specs.Sides.{outgoing, remaining, joined}
use Rattle.node_forest.specs.Paths.{all_but}
use Rattle.node_forest.specs.Changes.{Exchange, edges_after, edges_out}
use Rattle.node_forest.proofs.Members.{in_left, in_right, in_split, occurs_split, occurs_left, occurs_right}
use Rattle.node_forest.proofs.Counts.{times_append}

pub record Shuffled (a b : List Node) : Type 0 where
  pub count : (n : ℕ) → times n a ≡ times n b
  pub to : (x : Node) → Occurs x a → Occurs x b
  pub from : (x : Node) → Occurs x b → Occurs x a
  pub tops : (x : Node) → In x a → In x b
  pub tops_from : (x : Node) → In x b → In x a

pub shuffled_refl : (a : List Node) → Shuffled a a
shuffled_refl a = record { count = λ n. refl; to = λ x h. h; from = λ x h. h; tops = λ x h. h; tops_from = λ x h. h }

pub shuffled_then : (a b c : List Node) → Shuffled a b → Shuffled b c → Shuffled a c
shuffled_then a b c p q = record { count = λ n. p.count n ∙ q.count n; to = λ x h. q.to x (p.to x h); from = λ x h. p.from x (q.from x h); tops = λ x h. q.tops x (p.tops x h); tops_from = λ x h. p.tops_from x (q.tops_from x h) }

pub shuffled_back : (a b : List Node) → Shuffled a b → Shuffled b a
shuffled_back a b p = record { count = λ n. sym (p.count n); to = p.from; from = p.to; tops = p.tops_from; tops_from = p.tops }

pub shuffled_along : (a b : List Node) → a ≡ b → Shuffled a b
shuffled_along a b e = subst (λ (z : List Node). Shuffled a z) e (shuffled_refl a)

pub shuffled_append : (a b c d : List Node) → Shuffled a b → Shuffled c d → Shuffled (a ++ c) (b ++ d)
shuffled_append a b c d p q = record {
  count = λ n. let x = times_append n a c in let y = times_append n b d in let e = p.count n in let f = q.count n in omega arith;
  to = λ x h. ⊎_elim (λ l. occurs_left x b d (p.to x l)) (λ r. occurs_right x b d (q.to x r)) (occurs_split x a c h);
  from = λ x h. ⊎_elim (λ l. occurs_left x a c (p.from x l)) (λ r. occurs_right x a c (q.from x r)) (occurs_split x b d h);
  tops = λ x h. ⊎_elim (λ l. in_left x b d (p.tops x l)) (λ r. in_right x b d (q.tops x r)) (in_split x a c h);
  tops_from = λ x h. ⊎_elim (λ l. in_left x a c (p.tops_from x l)) (λ r. in_right x a c (q.tops_from x r)) (in_split x b d h);
}

pub shuffled_swap : (a b : List Node) → Shuffled (a ++ b) (b ++ a)
shuffled_swap a b = record {
  count = λ n. let x = times_append n a b in let y = times_append n b a in omega arith;
  to = λ x h. ⊎_elim (λ l. occurs_right x b a l) (λ r. occurs_left x b a r) (occurs_split x a b h);
  from = λ x h. ⊎_elim (λ l. occurs_right x a b l) (λ r. occurs_left x a b r) (occurs_split x b a h);
  tops = λ x h. ⊎_elim (λ l. in_right x b a l) (λ r. in_left x b a r) (in_split x a b h);
  tops_from = λ x h. ⊎_elim (λ l. in_right x a b l) (λ r. in_left x a b r) (in_split x b a h);
}

-- a list between two others
pub shuffled_between : (before hs behind : List Node) → Shuffled (before ++ (hs ++ behind)) (hs ++ (before ++ behind))
shuffled_between before hs behind =
    shuffled_then (before ++ (hs ++ behind)) ((before ++ hs) ++ behind) (hs ++ (before ++ behind)) (shuffled_along (before ++ (hs ++ behind)) ((before ++ hs) ++ behind) (sym (append_assoc before hs behind)))
    (shuffled_then ((before ++ hs) ++ behind) ((hs ++ before) ++ behind) (hs ++ (before ++ behind)) (shuffled_append (before ++ hs) (hs ++ before) behind behind (shuffled_swap before hs) (shuffled_refl behind))
    (shuffled_along ((hs ++ before) ++ behind) (hs ++ (before ++ behind)) (append_assoc hs before behind)))

-- ---- edges that go and others that come in their place
shuffled_kids : (side : Side) (count : ℕ) (kids : List Node) → Shuffled kids (remaining side count kids ++ outgoing side count kids)
shuffled_kids Front count kids = shuffled_then kids (take count kids ++ drop count kids) (drop count kids ++ take count kids) (shuffled_along kids (take count kids ++ drop count kids) (sym (take-append-drop count kids))) (shuffled_swap (take count kids) (drop count kids))
shuffled_kids Back count kids = shuffled_along kids (take (length kids - count) kids ++ drop (length kids - count) kids) (sym (take-append-drop (length kids - count) kids))

pub shuffled_joined : (side : Side) (new kids : List Node) → Shuffled (new ++ kids) (joined side new kids)
shuffled_joined Front new kids = shuffled_refl (new ++ kids)
shuffled_joined Back new kids = shuffled_swap new kids

-- four lists, the middle two exchanged
pub shuffled_middle : (p u r o : List Node) → Shuffled ((p ++ u) ++ (r ++ o)) ((u ++ o) ++ (p ++ r))
shuffled_middle p u r o =
    shuffled_then ((p ++ u) ++ (r ++ o)) ((u ++ p) ++ (o ++ r)) ((u ++ o) ++ (p ++ r)) (shuffled_append (p ++ u) (u ++ p) (r ++ o) (o ++ r) (shuffled_swap p u) (shuffled_swap r o))
    (shuffled_then ((u ++ p) ++ (o ++ r)) (u ++ (o ++ (p ++ r))) ((u ++ o) ++ (p ++ r))
    (shuffled_then ((u ++ p) ++ (o ++ r)) (u ++ (p ++ (o ++ r))) (u ++ (o ++ (p ++ r))) (shuffled_along ((u ++ p) ++ (o ++ r)) (u ++ (p ++ (o ++ r))) (append_assoc u p (o ++ r)))
    (shuffled_append u u (p ++ (o ++ r)) (o ++ (p ++ r)) (shuffled_refl u) (shuffled_between p o r)))
    (shuffled_along (u ++ (o ++ (p ++ r))) ((u ++ o) ++ (p ++ r)) (sym (append_assoc u o (p ++ r)))))

-- the trees that come and those outside, with the edges of a Branch, are the same before and after an exchange
pub shuffled_exchange : (x : Exchange) (es out : List Node) → Shuffled ((x.new ++ out) ++ es) ((out ++ edges_out x es) ++ edges_after x es)
shuffled_exchange x es out =
    let p = x.new in
    let r = remaining x.side x.count es in
    let o = outgoing x.side x.count es in
    shuffled_then ((p ++ out) ++ es) ((p ++ out) ++ (r ++ o)) ((out ++ o) ++ joined x.side p r) (shuffled_append (p ++ out) (p ++ out) es (r ++ o) (shuffled_refl (p ++ out)) (shuffled_kids x.side x.count es))
    (shuffled_then ((p ++ out) ++ (r ++ o)) ((out ++ o) ++ (p ++ r)) ((out ++ o) ++ joined x.side p r) (shuffled_middle p out r o)
    (shuffled_append (out ++ o) (out ++ o) (p ++ r) (joined x.side p r) (shuffled_refl (out ++ o)) (shuffled_joined x.side p r)))

-- ---- lists without one place
but_right : (a b : List Node) (i : ℕ) → all_but (i + length a) (a ++ b) ≡ a ++ all_but i b
but_right [] b i = ap (λ (k : ℕ). all_but k b) (omega arith)
but_right (x ∷ a) b i = ap (λ (k : ℕ). all_but k (x ∷ (a ++ b))) (let e : i + suc (length a) ≡ suc (i + length a) = omega arith in e) ∙ ap (λ (ts : List Node). x ∷ ts) (but_right a b i)

but_left : (a b : List Node) (i : ℕ) → i < length a → all_but i (a ++ b) ≡ all_but i a ++ b
but_left [] b i l = absurd (omega arith)
but_left (x ∷ a) b zero l = refl
but_left (x ∷ a) b (suc i) l = ap (λ (ts : List Node). x ∷ ts) (but_left a b i (omega arith))

pub but_set : (ts : List Node) (i : ℕ) (u : Node) → all_but i (set ts i u) ≡ all_but i ts
but_set [] i u = refl
but_set (x ∷ ts) zero u = refl
but_set (x ∷ ts) (suc i) u = ap (λ (zs : List Node). x ∷ zs) (but_set ts i u)

-- the same where one edge, on a path, stays apart
pub exchanged_front : (new out kids : List Node) (count p : ℕ) → count ≤ p → p < length kids
    → Shuffled ((new ++ out) ++ all_but p kids) ((out ++ take count kids) ++ all_but (p - count + length new) (new ++ drop count kids))
exchanged_front new out kids count p l m =
    let o = take count kids in
    let d = drop count kids in
    let r = all_but (p - count) d in
    let taken = length-take-le count kids (omega arith) in
    let where_ : p ≡ p - count + length o = omega arith in
    let whole : all_but p kids ≡ o ++ r = (λ i. all_but (where_ i) (sym (take-append-drop count kids) i)) ∙ but_right o d (p - count) in
    shuffled_then ((new ++ out) ++ all_but p kids) ((new ++ out) ++ (r ++ o)) ((out ++ o) ++ all_but (p - count + length new) (new ++ d))
    (shuffled_append (new ++ out) (new ++ out) (all_but p kids) (r ++ o) (shuffled_refl (new ++ out)) (shuffled_then (all_but p kids) (o ++ r) (r ++ o) (shuffled_along (all_but p kids) (o ++ r) whole) (shuffled_swap o r)))
    (shuffled_then ((new ++ out) ++ (r ++ o)) ((out ++ o) ++ (new ++ r)) ((out ++ o) ++ all_but (p - count + length new) (new ++ d)) (shuffled_middle new out r o)
    (shuffled_along ((out ++ o) ++ (new ++ r)) ((out ++ o) ++ all_but (p - count + length new) (new ++ d)) (ap (λ (z : List Node). (out ++ o) ++ z) (sym (but_right new d (p - count))))))

pub exchanged_back : (new out kids : List Node) (count p : ℕ) → p < length kids - count
    → Shuffled ((new ++ out) ++ all_but p kids) ((out ++ drop (length kids - count) kids) ++ all_but p (take (length kids - count) kids ++ new))
exchanged_back new out kids count p l =
    let k = take (length kids - count) kids in
    let o = drop (length kids - count) kids in
    let r = all_but p k in
    let taken = length-take-le (length kids - count) kids (omega arith) in
    let low : p < length k = omega arith in
    let whole : all_but p kids ≡ r ++ o = ap (all_but p) (sym (take-append-drop (length kids - count) kids)) ∙ but_left k o p low in
    shuffled_then ((new ++ out) ++ all_but p kids) ((new ++ out) ++ (r ++ o)) ((out ++ o) ++ all_but p (k ++ new))
    (shuffled_append (new ++ out) (new ++ out) (all_but p kids) (r ++ o) (shuffled_refl (new ++ out)) (shuffled_along (all_but p kids) (r ++ o) whole))
    (shuffled_then ((new ++ out) ++ (r ++ o)) ((out ++ o) ++ (new ++ r)) ((out ++ o) ++ all_but p (k ++ new)) (shuffled_middle new out r o)
    (shuffled_append (out ++ o) (out ++ o) (new ++ r) (all_but p (k ++ new)) (shuffled_refl (out ++ o))
    (shuffled_then (new ++ r) (r ++ new) (all_but p (k ++ new)) (shuffled_swap new r) (shuffled_along (r ++ new) (all_but p (k ++ new)) (sym (but_left k new p low))))))

-- more of the same behind both
pub with_more : (a b c d e : List Node) → Shuffled (a ++ b) (c ++ d) → Shuffled (a ++ (b ++ e)) (c ++ (d ++ e))
with_more a b c d e f =
    shuffled_then (a ++ (b ++ e)) ((a ++ b) ++ e) (c ++ (d ++ e)) (shuffled_along (a ++ (b ++ e)) ((a ++ b) ++ e) (sym (append_assoc a b e)))
    (shuffled_then ((a ++ b) ++ e) ((c ++ d) ++ e) (c ++ (d ++ e)) (shuffled_append (a ++ b) (c ++ d) e e f (shuffled_refl e)) (shuffled_along ((c ++ d) ++ e) (c ++ (d ++ e)) (append_assoc c d e)))

-- ---- one tree of a list
-- one child out of the children, and put back
pub kid_out : (kids : List Node) (p : ℕ) (d : Node) → p < length kids → (rest : List Node) × Shuffled kids (get_or kids p d ∷ rest) × ((u : Node) → Shuffled (u ∷ rest) (set kids p u))
kid_out [] p d l = absurd (omega arith)
kid_out (k ∷ ks) zero d l = (ks, shuffled_refl (k ∷ ks), λ u. shuffled_refl (u ∷ ks))
kid_out (k ∷ ks) (suc p) d l =
    let r = kid_out ks p d (omega arith) in
    let c = get_or ks p d in (
      k ∷ r.0,
      shuffled_then (k ∷ ks) (k ∷ (c ∷ r.0)) (c ∷ (k ∷ r.0)) (shuffled_append (k ∷ []) (k ∷ []) ks (c ∷ r.0) (shuffled_refl (k ∷ [])) r.1)
          (shuffled_append (k ∷ c ∷ []) (c ∷ k ∷ []) r.0 r.0 (shuffled_swap (k ∷ []) (c ∷ [])) (shuffled_refl r.0)),
      λ u. shuffled_then (u ∷ (k ∷ r.0)) (k ∷ (u ∷ r.0)) (k ∷ set ks p u) (shuffled_append (u ∷ k ∷ []) (k ∷ u ∷ []) r.0 r.0 (shuffled_swap (u ∷ []) (k ∷ [])) (shuffled_refl r.0))
          (shuffled_append (k ∷ []) (k ∷ []) (u ∷ r.0) (set ks p u) (shuffled_refl (k ∷ [])) (r.2 u)),
    )

-- a tree among others, brought to the front
pub turn : (hs kids rest others : List Node) (c : Node) → Shuffled kids (c ∷ rest) → Shuffled ((hs ++ kids) ++ others) (c ∷ (hs ++ (rest ++ others)))
turn hs kids rest others c f =
    shuffled_then ((hs ++ kids) ++ others) ((hs ++ (c ∷ rest)) ++ others) (c ∷ (hs ++ (rest ++ others))) (shuffled_append (hs ++ kids) (hs ++ (c ∷ rest)) others others (shuffled_append hs hs kids (c ∷ rest) (shuffled_refl hs) f) (shuffled_refl others))
    (shuffled_then ((hs ++ (c ∷ rest)) ++ others) (((c ∷ rest) ++ hs) ++ others) (c ∷ (hs ++ (rest ++ others))) (shuffled_append (hs ++ (c ∷ rest)) ((c ∷ rest) ++ hs) others others (shuffled_swap hs (c ∷ rest)) (shuffled_refl others))
    (shuffled_append (c ∷ []) (c ∷ []) ((rest ++ hs) ++ others) (hs ++ (rest ++ others)) (shuffled_refl (c ∷ []))
    (shuffled_then ((rest ++ hs) ++ others) ((hs ++ rest) ++ others) (hs ++ (rest ++ others)) (shuffled_append (rest ++ hs) (hs ++ rest) others others (shuffled_swap rest hs) (shuffled_refl others))
    (shuffled_along ((hs ++ rest) ++ others) (hs ++ (rest ++ others)) (append_assoc hs rest others)))))
