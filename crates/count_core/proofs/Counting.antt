-- Each kind of step leaves the words the counts of their holders: one direct hold more, a number taken, one hold less, and a number returned.
use Rattle.std.proofs.Common.{◌≡◌, ℕ, ◌+◌, ◌<◌, ◌≤◌, ◌≢◌, ◌⊎◌, inl, inr, ⊎_elim, List, [], ◌∷◌, refl, sym, ◌∙◌, ap, subst, arith}
use Rattle.std.specs.Prelude.{Some}
use mathlib.Core.Logic.{dite}
use native.Mathlib.Decide.{dec_le}
use Rattle.node_forest.specs.Forest.{children, nodes_of}
use Rattle.node_forest.specs.Label.{Node, number}
use Rattle.node_forest.specs.Members.{In, Occurs}
use Rattle.node_forest.specs.Counts.{is, times, first, edges_in}
use Rattle.node_forest.proofs.Members.{root_occurs, parent, child_occurs, child_smaller, below_smaller, below_in, nodes_trees, alone_out, alone_in}
use Rattle.node_forest.proofs.Counts.{is_one, times_some, times_pos, first_cases}
use Rattle.count_core.specs.Holders.{Agreed, Fitting}
use Rattle.count_core.specs.SoundBelow.{sum_below, edge, holders_below, IsSoundBelow, Parts}
use Rattle.count_core.proofs.Sums.{sum_same, sum_at, at_le_sum, sum_some}
use Rattle.count_core.proofs.Agreed.{first_agreed, first_absent, first_same}

-- what occurs has a holder
pub has_holder : (size : ℕ) (x : Node) (roots : List Node) → Agreed roots → Fitting size roots → Occurs x roots → 1 ≤ holders_below size roots (number x)
has_holder size x roots agreed fits h =
    let n : ℕ = number x in
    ⊎_elim
    (λ r. let a = times_pos n x roots r refl in omega arith)
    (λ p.
    let found : first (number p.0) (nodes_of roots) ≡ Some p.0 = first_agreed (number p.0) p.0 roots agreed p.1 refl in
    let is_edge : edge roots n (number p.0) ≡ times n (children p.0) = ap (edges_in n) found in
    let one = times_pos n x (children p.0) p.2 refl in
    let le = at_le_sum size (number p.0) (edge roots n) (fits p.0 p.1) in
    omega arith)
    (parent x roots h)

-- where n is an edge of something, that node occurs
edge_parent : (size n : ℕ) (roots : List Node) → 1 ≤ sum_below size (edge roots n) → (p : Node) × (c : Node) × Occurs p roots × In c (children p) × (number c ≡ n)
edge_parent size n roots h =
    let s = sum_some size (edge roots n) h in
    ⊎_elim
    (λ l. let z : edge roots n s.0 ≡ 0 = ap (edges_in n) l.0 in let e = s.2 in absurd (omega arith))
    (λ r. let z : edge roots n s.0 ≡ times n (children r.0) = ap (edges_in n) r.1 in let e = s.2 in
    let c = times_some n (children r.0) (omega arith) in (r.0, c.0, r.2, c.1, c.2))
    (first_cases s.0 (nodes_of roots))

-- the same nodes occur, and the words follow the direct holds
pub stays : (size : ℕ) (word word' : ℕ → ℕ) (a b : List Node) → IsSoundBelow size word a → ((x : Node) → Occurs x b → Occurs x a) → ((x : Node) → Occurs x a → Occurs x b)
    → ((n : ℕ) → n < size → word' n + times n a ≡ word n + times n b) → IsSoundBelow size word' b
stays size word word' a b s down up counts = record {
  agreed = λ t u p q e. s.agreed t u (down t p) (down u q) e;
  counted = λ n l.
      let same : sum_below size (edge a n) ≡ sum_below size (edge b n) = sum_same size (edge a n) (edge b n) (λ q m. ap (edges_in n) (first_same q a b s.agreed (λ t e. down t) (λ t e. up t))) in
      let c = s.counted n l in let k = counts n l in omega arith;
  fitting = λ t p. s.fitting t (down t p);
}

pub shares : (size : ℕ) (word word' : ℕ → ℕ) (a b : List Node) (t : Node) → IsSoundBelow size word a → Occurs t a → Parts b (t ∷ []) a → ((n : ℕ) → n < size → word' n ≡ word n + is n t) → IsSoundBelow size word' b
shares size word word' a b t s occurs parts words =
    stays size word word' a b s
    (λ x h. ⊎_elim (λ l. below_in x t a occurs (alone_out x t l)) (λ r. r) (parts.out x h))
    parts.right
    (λ n l. let c = parts.count n in let w = words n l in omega arith)

module _ (size : ℕ) (t : Node) (open_ closed kept : List Node) (o : Parts open_ (children t) kept) (c : Parts closed (t ∷ []) kept) (absent : (x : Node) → Occurs x open_ → number x ≢ number t) where
  pub wider : (x : Node) → Occurs x open_ → Occurs x closed
  wider x h = ⊎_elim (λ l. c.left x (alone_in x t (inr (subst (λ (z : List Node). In x z) (nodes_trees t.1) l)))) (λ r. c.right x r) (o.out x h)

  pub narrower : (x : Node) → Occurs x closed → (x ≡ t) ⊎ Occurs x open_
  narrower x h =
      ⊎_elim
      (λ l. ⊎_elim (λ e. inl e) (λ i. inr (o.left x (subst (λ (z : List Node). In x z) (sym (nodes_trees t.1)) i))) (alone_out x t l))
      (λ r. inr (o.right x r))
      (c.out x h)

  tops : Occurs t closed
  tops = c.left t (alone_in t t (inl refl))

  agreed_down : Agreed closed → Agreed open_
  agreed_down a x y p q e = a x y (wider x p) (wider y q) e

  agreed_up : Agreed open_ → Agreed closed
  agreed_up a x y p q e =
      ⊎_elim
      (λ l. ⊎_elim (λ m. l ∙ sym m) (λ i. absurd (absent y i (sym e ∙ ap number l))) (narrower y q))
      (λ i. ⊎_elim (λ m. absurd (absent x i (e ∙ ap number m))) (λ j. a x y i j e) (narrower y q))
      (narrower x p)

  holders_close : Agreed closed → number t < size → (n : ℕ) → holders_below size closed n ≡ holders_below size open_ n + is n t
  holders_close a l n =
      let here : edge closed n (number t) ≡ times n (children t) = ap (edges_in n) (first_agreed (number t) t closed a tops refl) in
      let gone : edge open_ n (number t) ≡ 0 = ap (edges_in n) (first_absent (number t) open_ absent) in
      let else_ = sum_at size (number t) (edge closed n) (edge open_ n) l
      (λ q m ne. ap (edges_in n) (first_same q closed open_ a (λ x e. wider x) (λ x e h. ⊎_elim (λ y. absurd (ne (sym e ∙ ap number y))) (λ i. i) (narrower x h)))) in
      let p = o.count n in let r = c.count n in omega arith

-- a number whose word is 0 does not occur
pub unheld : (size : ℕ) (word : ℕ → ℕ) (roots : List Node) (n : ℕ) → IsSoundBelow size word roots → n < size → word n ≡ 0 → (x : Node) → Occurs x roots → number x ≢ n
unheld size word roots n s l free x h e = let k = has_holder size x roots s.agreed s.fitting h in let w = s.counted n l in
    let same : holders_below size roots (number x) ≡ holders_below size roots n = ap (holders_below size roots) e in omega arith

-- a taken number, which no one held
pub takes : (size : ℕ) (word word' : ℕ → ℕ) (t : Node) (a b kept : List Node) → IsSoundBelow size word a → Parts a (children t) kept → Parts b (t ∷ []) kept → number t < size → word (number t) ≡ 0
    → ((n : ℕ) → n < size → word' n ≡ word n + is n t) → IsSoundBelow size word' b
takes size word word' t a b kept s o c l free words =
    let absent : (x : Node) → Occurs x a → number x ≢ number t = λ x h e. unheld x h e in
    let agreed : Agreed b = agreed_up size t a b kept o c absent s.agreed in
    record {
      agreed = agreed;
      counted = λ n m. let k = s.counted n m in let w = words n m in let h = holders_close size t a b kept o c absent agreed l n in omega arith;
      fitting = λ x h. ⊎_elim (λ e. subst (λ (y : Node). number y < size) (sym e) l) (λ i. s.fitting x i) (narrower size t a b kept o c absent x h);
    }
  where
    unheld : (x : Node) → Occurs x a → number x ≢ number t
    unheld x h e = let k = has_holder size x a s.agreed s.fitting h in let w = s.counted (number t) l in
        let same : holders_below size a (number x) ≡ holders_below size a (number t) = ap (holders_below size a) e in omega arith

-- the last leaver of a number gets its children
pub leaves_last : (size : ℕ) (word word' : ℕ → ℕ) (t : Node) (a b kept : List Node) → IsSoundBelow size word a → Parts a (t ∷ []) kept → Parts b (children t) kept → word (number t) ≡ 1
    → ((n : ℕ) → n < size → word' n + is n t ≡ word n) → IsSoundBelow size word' b
leaves_last size word word' t a b kept s c o last words =
    record {
      agreed = agreed_down size t b a kept o c absent s.agreed;
      counted = λ n m. let k = s.counted n m in let w = words n m in let h = holders_close size t b a kept o c absent s.agreed l n in omega arith;
      fitting = λ x h. s.fitting x (wider size t b a kept o c absent x h);
    }
  where
    n : ℕ
    n = number t

    l : number t < size
    l = (s.fitting t (c.left t (alone_in t t (inl refl))))

    -- its direct hold is its only holder
    no_edge : sum_below size (edge a (number t)) ≡ 0
    no_edge = let k = s.counted (number t) l in let p = c.count (number t) in let i = is_one (number t) t refl in omega arith

    none_kept : times (number t) kept ≡ 0
    none_kept = let k = s.counted (number t) l in let p = c.count (number t) in let i = is_one (number t) t refl in omega arith

    no_child : (p x : Node) → Occurs p a → In x (children p) → number x ≢ number t
    no_child p x h i e =
        let found : edge a (number t) (number p) ≡ times (number t) (children p) = ap (edges_in (number t)) (first_agreed (number p) p a s.agreed h refl) in
        let le = at_le_sum size (number p) (edge a (number t)) (s.fitting p h) in
        let one = times_pos (number t) x (children p) i e in
        let z = no_edge in omega arith

    kept_absent : (x : Node) → Occurs x kept → number x ≢ number t
    kept_absent x h e =
        ⊎_elim
        (λ r. let k = times_pos (number t) x kept r e in let z = none_kept in omega arith)
        (λ p. no_child p.0 x (c.right p.0 p.1) p.2 e)
        (parent x kept h)

    child_absent : (x : Node) → Occurs x (children t) → number x ≢ number t
    child_absent x h e =
        ⊎_elim
        (λ r. no_child t x (c.left t (alone_in t t (inl refl))) r e)
        (λ p. no_child p.0 x (c.left p.0 (alone_in p.0 t (inr (subst (λ (z : List Node). In p.0 z) (nodes_trees t.1) p.1)))) p.2 e)
        (parent x (children t) h)

    absent : (x : Node) → Occurs x b → number x ≢ number t
    absent x h = ⊎_elim (child_absent x) (kept_absent x) (o.out x h)

-- one of several holds of a number goes
pub leaves_shared : (size : ℕ) (word word' : ℕ → ℕ) (t : Node) (a b : List Node) → IsSoundBelow size word a → Parts a (t ∷ []) b → 2 ≤ word (number t) → ((n : ℕ) → n < size → word' n + is n t ≡ word n) → IsSoundBelow size word' b
leaves_shared size word word' t a b s c more words =
    stays size word word' a b s c.right
    (λ x h. ⊎_elim (λ i. below_in x t b still (alone_out x t i)) (λ r. r) (c.out x h))
    (λ n l. let p = c.count n in let w = words n l in omega arith)
  where
    here : Occurs t a
    here = c.left t (alone_in t t (inl refl))

    -- another holds it
    still : Occurs t b
    still =
        dite (dec_le 1 (times (number t) b))
        (λ y. let r = times_some (number t) b y in let o = root_occurs r.0 b r.1 in subst (λ (x : Node). Occurs x b) (s.agreed r.0 t (c.right r.0 o) here r.2) o)
        (λ no.
        let k = s.counted (number t) (s.fitting t here) in
        let p = c.count (number t) in
        let i = is_one (number t) t refl in
        let no' : 1 ≤ times (number t) b → ⊥ = no in
        let e = edge_parent size (number t) a (omega arith) in
        let same : e.1 ≡ t = s.agreed e.1 t (child_occurs e.1 e.0 a e.2 e.3) here e.4 in
        let child : In t (children e.0) = subst (λ (x : Node). In x (children e.0)) same e.3 in
        ⊎_elim
        (λ u. let small = below_smaller e.0 t (alone_out e.0 t u) in let large = child_smaller t e.0 child in absurd (omega arith))
        (λ o. child_occurs t e.0 b o child)
        (c.out e.0 e.2))
