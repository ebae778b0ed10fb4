-- Looks down a path, one node at a time.
use Rattle.std.proofs.Common.{ℕ, zero, suc, ◌≡◌, ◌+◌, ◌≤◌, List, [], ◌∷◌, ◌++◌, length, take, inl, inr, refl, sym, ap, subst, ◌∙◌, append-nil, append_assoc, add-one, arith}
use Rattle.std.proofs.lemmas.List.{take_all}
use Rattle.node_forest.specs.Label.{Node, number}
use Rattle.node_forest.specs.Paths.{child_of, at_depth, Leads, numbers_on}
use Rattle.pool_rule.specs.Marks.{IsLonePath}
use Rattle.pool_rule.specs.Pools.{Member}
use Rattle.pool_rule.specs.Rules.{Among}
use Rattle.pool_rule.specs.Views.{View}
use Rattle.node_pool.specs.Paths.{node_at, IsPathIn, found_lone, IsSharedLook}
use Rattle.btree_node.specs.Lone.{AreLoneTo, found_lone_to, IsFoundShared}

-- ---- the path's first places
numbers-next : (d : ℕ) (t : Node) (path : List ℕ) → d ≤ length path → take (suc d) (numbers_on t path) ≡ take d (numbers_on t path) ++ number (at_depth d t path) ∷ []
numbers-next zero t [] l = refl
numbers-next zero t (p ∷ ps) l = refl
numbers-next (suc d) t [] l = absurd (omega (arith, l))
numbers-next (suc d) t (p ∷ ps) l = ap (λ (ns : List ℕ). number t ∷ ns) (numbers-next d (child_of t p) ps (omega (arith, l)))

node-at_depth : (d : ℕ) (t : Node) (path : List ℕ) → d ≤ length path → node_at t (take d path) ≡ at_depth d t path
node-at_depth zero t path l = refl
node-at_depth (suc d) t [] l = absurd (omega (arith, l))
node-at_depth (suc d) t (p ∷ ps) l = node-at_depth d (child_of t p) ps (omega (arith, l))

length-numbers : (t : Node) (path : List ℕ) → length (numbers_on t path) ≡ suc (length path)
length-numbers t [] = refl
length-numbers t (p ∷ ps) = ap (λ (n : ℕ). suc n) (length-numbers (child_of t p) ps)

in-path : (lone : List ℕ) (d : ℕ) (t : Node) (path : List ℕ) → d ≤ length path → Leads t path → ((m : ℕ) → Among m (take d (numbers_on t path)) → Member m lone) → IsPathIn lone t (take d path)
in-path lone zero t path l leads each = tt
in-path lone (suc d) t [] l leads each = absurd (omega (arith, l))
in-path lone (suc d) t (p ∷ ps) l leads each = (each (number t) (inl refl), leads.1, in-path lone d (child_of t p) ps (omega (arith, l)) leads.2 (λ m is. each m (inr is)))

-- ---- members
member-among : (n : ℕ) (ns : List ℕ) → Among n ns → Member n ns
member-among n [] is = absurd is
member-among n (m ∷ ms) (inl e) = inl e
member-among n (m ∷ ms) (inr is) = inr (member-among n ms is)

member-behind : (n : ℕ) (ms ns : List ℕ) → Among n ns → Member n (ms ++ ns)
member-behind n [] ns is = member-among n ns is
member-behind n (m ∷ ms) ns is = inr (member-behind n ms ns is)

pub lone-to : (n : ℕ) (root : Node) (path : List ℕ) (v w : View) → w.lone ≡ v.lone ++ take n (numbers_on root path) → AreLoneTo n root path w
lone-to n root path v w is m among = subst (Member m) (sym is) (member-behind m v.lone (take n (numbers_on root path)) among)

pub lone-found : (n : ℕ) (root : Node) (path : List ℕ) (v w : View) → w ≡ found_lone_to n root path v → AreLoneTo n root path w
lone-found n root path v w is = lone-to n root path v w (ap (λ (z : View). z.lone) is)

pub lone-shared : (n : ℕ) (root : Node) (path : List ℕ) (v w : View) → IsFoundShared n root path v w → AreLoneTo n root path w
lone-shared n root path v w is = lone-to n root path v w (ap (λ (z : View). z.lone) is.view)

pub lone-path : (n : ℕ) (root : Node) (path : List ℕ) (v w : View) → n ≡ length path + 1 → w ≡ found_lone_to n root path v → IsLonePath root path w
lone-path n root path v w whole is m among =
    let all : take n (numbers_on root path) ≡ numbers_on root path = take_all n (numbers_on root path) (omega (arith, whole, length-numbers root path)) in
    lone-found n root path v w is m (subst (Among m) (sym all) among)

-- ---- the looks
pub looks-none : (root : Node) (path : List ℕ) (v : View) → v ≡ found_lone_to 0 root path v
looks-none root path v = λ i. record v { lone = sym (append-nil v.lone) i }

pub looks-path : (d : ℕ) (root : Node) (path places : List ℕ) (v w : View) → places ≡ take d path → d ≤ length path → Leads root path → w ≡ found_lone_to d root path v → IsPathIn w.lone root places
looks-path d root path places v w at l leads is = subst (IsPathIn w.lone root) (sym at) (in-path w.lone d root path l leads (lone-found d root path v w is))

module _ (d : ℕ) (root : Node) (path places : List ℕ) (v w x : View) (at : places ≡ take d path) (l : d ≤ length path) (so_far : w ≡ found_lone_to d root path v) where
  end-number : number (node_at root places) ≡ number (at_depth d root path)
  end-number = ap (λ (ps : List ℕ). number (node_at root ps)) at ∙ ap number (node-at_depth d root path l)

  pub looks-one : x ≡ found_lone (node_at root places) w → x ≡ found_lone_to (d + 1) root path v
  looks-one found =
      let ns = numbers_on root path in
      let all : (v.lone ++ take d ns) ++ number (node_at root places) ∷ [] ≡ v.lone ++ take (d + 1) ns =
      append_assoc v.lone (take d ns) (number (node_at root places) ∷ [])
      ∙ ap (λ (ms : List ℕ). v.lone ++ ms) (ap (λ (n : ℕ). take d ns ++ n ∷ []) end-number ∙ (sym (numbers-next d root path l) ∙ ap (λ (k : ℕ). take k ns) (sym (add-one d)))) in
      found ∙ ((λ i. record (so_far i) { lone = (so_far i).lone ++ number (node_at root places) ∷ [] }) ∙ (λ i. record v { lone = all i }))

  pub looks-stop : IsSharedLook (node_at root places) w x → IsFoundShared d root path v x
  looks-stop s = record {
    found = s.found;
    more = s.more;
    view =
        s.view
        ∙ ((λ i. record (so_far i) { looks = (so_far i).looks ++ record { number = number (node_at root places); found = s.found; shares = (so_far i).shares } ∷ [] })
        ∙ (λ i. record v { lone = v.lone ++ take d (numbers_on root path); looks = v.looks ++ record { number = end-number i; found = s.found; shares = v.shares } ∷ [] }));
  }
