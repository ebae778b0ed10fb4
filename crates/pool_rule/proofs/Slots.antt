-- Releaser slots after steps, and after tokens are divided and joined.
use Rattle.std.proofs.Common.{◌≡◌, ◌≢◌, ◌⊎◌, inl, inr, ⊎_elim, eqb, eq-eqb, ne_eqb, ℕ, zero, suc, ◌+◌, ◌<◌, ◌≤◌, List, [], ◌∷◌, ◌++◌, length, map, sum_by, set, get_or, refl, sym, ◌∙◌, ap, subst, arith, get_or-set_same, get_or-set_other, append-nil}
use Rattle.std.proofs.lemmas.List.{map-append}
use Rattle.std.proofs.lemmas.List.Sums.{sum_by-append}
use mathlib.Core.Logic.{dite}
use mathlib.Core.Option.{Option, none, some, some-injective, some-ne-none}
use native.Mathlib.Decide.{ℕ_discrete, dec_le}
use lib.ListN.{get_elem?}
use Rattle.atomic_table.proofs.Lists.{at_set, at_snoc, at_longer, set_here, set_else, some_there}
use Rattle.node_forest.specs.declared.kind.Kind.TheVariants.{External}
use Rattle.node_forest.specs.Counts.{one_if}
use Rattle.node_forest.specs.Label.{Node, number}
use Rattle.node_forest.specs.Members.{Occurs}
use Rattle.pool_rule.specs.Notes.{Use, use_of}
use Rattle.pool_rule.specs.Pools.{Terms, Member, Has, IsFresh, IsCalled, slot_of, unused_of, used_of, away_of, slot_times, known_times, away_times, IsHome, IsLive, Slotted}
use Rattle.pool_rule.specs.Views.{View, spent}
use Rattle.pool_rule.proofs.Tallies.{sum-set, sum-last, at-sum, two-sum}
use Rattle.pool_rule.proofs.Alone.{member_split}
use Rattle.pool_rule.proofs.Worlds.{at_lt}

-- ---- what some token's list has
module _ {A : Type 0} (f : View → List A) (views : List View) (id : ℕ) (v w : View) (at : get_elem? views id ≡ some v) where
  pub has_out : (x : A) → Has f x (set views id w) → Member x (f w) ⊎ Has f x views
  has_out x h = ⊎_elim
      (λ q. inl (subst (λ (z : View). Member x (f z)) (sym q.1) h.member))
      (λ q. inr (record { id = h.id; view = h.view; at = q.1; member = h.member }))
      (at_set views id h.id w h.view h.at)

  pub has_here : (x : A) → Member x (f w) → Has f x (set views id w)
  has_here x m = record { id = id; view = w; at = set_here views id w (at_lt views id v at); member = m }

  pub has_in : (x : A) → Has f x views → (Member x (f v) → Has f x (set views id w)) → Has f x (set views id w)
  has_in x h mine =
      dite (ℕ_discrete h.id id)
      (λ e. let same : h.view ≡ v = some-injective h.view v (sym (subst (λ (j : ℕ). get_elem? views j ≡ some h.view) e h.at) ∙ at) in
      mine (subst (λ (z : View). Member x (f z)) same h.member))
      (λ ne. record { id = h.id; view = h.view; at = set_else views id h.id w ne ∙ h.at; member = h.member })

  pub has_kept_out : (x : A) → f w ≡ f v → Has f x (set views id w) → Has f x views
  has_kept_out x same h = ⊎_elim (λ m. record { id = id; view = v; at = at; member = subst (λ (z : List A). Member x z) same m }) (λ o. o) (has_out x h)

  pub has_kept_in : (x : A) → f w ≡ f v → Has f x views → Has f x (set views id w)
  has_kept_in x same h = has_in x h (λ m. has_here x (subst (λ (z : List A). Member x z) (sym same) m))

  -- the same, where it is another token's
  pub has_else : (x : A) → Has f x (set views id w) → Member x (f w) ⊎ ((h : Has f x views) × (h.id ≢ id))
  has_else x h = ⊎_elim
      (λ q. inl (subst (λ (z : View). Member x (f z)) (sym q.1) h.member))
      (λ q. inr (record { id = h.id; view = h.view; at = q.1; member = h.member }, q.0))
      (at_set views id h.id w h.view h.at)

  pub has_other : (x : A) (h : Has f x views) → h.id ≢ id → Has f x (set views id w)
  has_other x h ne = record { id = h.id; view = h.view; at = set_else views id h.id w ne ∙ h.at; member = h.member }

module _ {A : Type 0} (f : View → List A) (views : List View) (w : View) where
  pub has_last_out : (x : A) → Has f x (views ++ w ∷ []) → Has f x views ⊎ Member x (f w)
  has_last_out x h = ⊎_elim
      (λ q. inl (record { id = h.id; view = h.view; at = q; member = h.member }))
      (λ q. inr (subst (λ (z : View). Member x (f z)) (sym q) h.member))
      (at_snoc views w h.view h.id h.at)

  pub has_last_in : (x : A) → Has f x views → Has f x (views ++ w ∷ [])
  has_last_in x h = record { id = h.id; view = h.view; at = at_longer views (w ∷ []) h.id h.view h.at; member = h.member }

-- ---- counts of slots
slot_times-append : (j : ℕ) (a b : List ℕ) → slot_times j (a ++ b) ≡ slot_times j a + slot_times j b
slot_times-append j [] b = omega arith
slot_times-append j (i ∷ is) b = omega (arith, slot_times-append j is b)

slot_hit : (j i : ℕ) → j ≡ i → one_if (eqb j i) ≡ 1
slot_hit j i e = ap one_if (eq-eqb j i e)

slot_pos : (j : ℕ) (is : List ℕ) → Member j is → 1 ≤ slot_times j is
slot_pos j [] m = absurd m
slot_pos j (i ∷ is) (inl e) = omega (arith, slot_hit j i e)
slot_pos j (i ∷ is) (inr m) = omega (arith, slot_pos j is m)

use_pos : (u : Use) (us : List Use) → Member u us → 1 ≤ slot_times u.slot (map slot_of us)
use_pos u [] m = absurd m
use_pos u (x ∷ xs) (inl e) = omega (arith, slot_hit u.slot x.slot (ap slot_of e))
use_pos u (x ∷ xs) (inr m) = omega (arith, use_pos u xs m)

-- two uses of one slot are one
one_use_in : (u w : Use) (us : List Use) → Member u us → Member w us → u.slot ≡ w.slot → slot_times u.slot (map slot_of us) ≤ 1 → u ≡ w
one_use_in u w [] a b e few = absurd a
one_use_in u w (x ∷ xs) (inl a) (inl b) e few = a ∙ sym b
one_use_in u w (x ∷ xs) (inl a) (inr b) e few =
    let p = use_pos w xs b in
    let q = slot_hit u.slot x.slot (ap slot_of a) in
    let r = ap (λ (j : ℕ). slot_times j (map slot_of xs)) e in absurd (omega (arith, p, q, r, few))
one_use_in u w (x ∷ xs) (inr a) (inl b) e few =
    let p = use_pos u xs a in
    let q = slot_hit u.slot x.slot (e ∙ ap slot_of b) in absurd (omega (arith, p, q, few))
one_use_in u w (x ∷ xs) (inr a) (inr b) e few = one_use_in u w xs a b e (omega (arith, few))

module _ (views : List View) (once : (j : ℕ) → sum_by (known_times j) views ≤ 1) where
  pub one_use : (u w : Use) → Has used_of u views → Has used_of w views → u.slot ≡ w.slot → u ≡ w
  one_use u w a b e =
      dite (ℕ_discrete a.id b.id)
      (λ same. let v_is : b.view ≡ a.view = some-injective b.view a.view (sym b.at ∙ subst (λ (j : ℕ). get_elem? views j ≡ some a.view) same a.at) in
      one_use_in u w a.view.used a.member (subst (λ (z : View). Member w z.used) v_is b.member) e
      (omega (arith, once u.slot, at-sum (known_times u.slot) views a.id a.view a.at)))
      (λ apart.
      let p = use_pos u a.view.used a.member in
      let q = use_pos w b.view.used b.member in
      let r = ap (λ (j : ℕ). slot_times j (map slot_of b.view.used)) e in
      absurd (omega (arith, p, q, r, two-sum (known_times u.slot) views a.id b.id a.view b.view a.at b.at apart, once u.slot)))

  -- an unused slot is none that is used
  pub unused_apart : (j : ℕ) (u : Use) → Has unused_of j views → Has used_of u views → u.slot ≢ j
  unused_apart j u a b e =
      let p = slot_pos j a.view.unused a.member in
      let q = use_pos u b.view.used b.member in
      let r = ap (λ (i : ℕ). slot_times i (map slot_of b.view.used)) e in
      dite (ℕ_discrete a.id b.id)
      (λ same. let v_is : b.view ≡ a.view = some-injective b.view a.view (sym b.at ∙ subst (λ (i : ℕ). get_elem? views i ≡ some a.view) same a.at) in
      let s = ap (λ (z : View). slot_times j (map slot_of z.used)) v_is in
      omega (arith, p, q, r, s, once j, at-sum (known_times j) views a.id a.view a.at))
      (λ apart. omega (arith, p, q, r, two-sum (known_times j) views a.id b.id a.view b.view a.at b.at apart, once j))

-- a slot that is counted is out with some token
some_use : (j : ℕ) (us : List Use) → 1 ≤ slot_times j (map slot_of us) → (u : Use) × Member u us × (u.slot ≡ j)
some_use j [] n = absurd (omega (arith, n))
some_use j (u ∷ us) n =
    dite (ℕ_discrete u.slot j)
    (λ e. (u, inl refl, e))
    (λ ne. let z : one_if (eqb j u.slot) ≡ 0 = ap one_if (ne_eqb j u.slot (λ q. ne (sym q))) in
    let r = some_use j us (omega (arith, n, z)) in (r.0, inr r.1, r.2))

pub some_away : (j : ℕ) (views : List View) → 1 ≤ sum_by (away_times j) views → (u : Use) × Has away_of u views × (u.slot ≡ j)
some_away j [] n = absurd (omega (arith, n))
some_away j (v ∷ vs) n =
    dite (dec_le 1 (away_times j v))
    (λ here. let r = some_use j v.away here in (r.0, record { id = 0; view = v; at = refl; member = r.1 }, r.2))
    (λ later. let r = some_away j vs (omega (arith, n, sum_by-append (away_times j) (v ∷ []) vs)) in (r.0, record { id = suc r.1.id; view = r.1.view; at = r.1.at; member = r.1.member }, r.2))

-- ---- members of lists
member_last : {A : Type 0} (x : A) (xs : List A) → Member x (xs ++ x ∷ [])
member_last x [] = inl refl
member_last x (y ∷ ys) = inr (member_last x ys)

member_before : {A : Type 0} (x : A) (xs : List A) (y : A) → Member x xs → Member x (xs ++ y ∷ [])
member_before x [] y h = absurd h
member_before x (z ∷ zs) y (inl e) = inl e
member_before x (z ∷ zs) y (inr h) = inr (member_before x zs y h)

member_parts : {A : Type 0} (x : A) (xs : List A) (y : A) → Member x (xs ++ y ∷ []) → Member x xs ⊎ (x ≡ y)
member_parts x [] y (inl e) = inr e
member_parts x [] y (inr h) = absurd h
member_parts x (z ∷ zs) y (inl e) = inl (inl e)
member_parts x (z ∷ zs) y (inr h) = ⊎_elim (λ a. inl (inr a)) (λ b. inr b) (member_parts x zs y h)

-- ---- what a step leaves that moves no slot
-- the word of an external in a tree isn't 0 after a step on the word i, and no other node has its number
pub live_on : (numbers : ℕ) (words : List ℕ) (roots after : List Node) (i m : ℕ) (u : Use) → i < length words
    → ((x : Node) → Occurs x after → Occurs x roots ⊎ ((number x ≡ i) × (get_or words i 0 ≡ 0)))
    → (m ≡ 0 → u.number ≡ i → ⊥) → IsLive numbers words roots u → IsLive numbers (set words i m) after u
live_on numbers words roots after i m u wide new still l = record {
  low = l.low;
  word = λ z. dite (ℕ_discrete u.number i)
      (λ e. still (sym (ap (λ (k : ℕ). get_or (set words i m) k 0) e ∙ get_or-set_same words i m 0 wide) ∙ z) e)
      (λ ne. l.word (sym (get_or-set_other words i u.number m 0 ne) ∙ z));
  node = λ x o e. ⊎_elim
      (λ old. l.node x old e)
      (λ fresh. absurd (l.word (ap (λ (k : ℕ). get_or words k 0) (sym e ∙ fresh.0) ∙ fresh.1)))
      (new x o);
}

pub record SameSlots (a b : List View) : Type 0 where
  pub unused : (j : ℕ) → Has unused_of j b → Has unused_of j a
  pub used_in : (u : Use) → Has used_of u a → Has used_of u b
  pub used_out : (u : Use) → Has used_of u b → Has used_of u a
  pub away_in : (u : Use) → Has away_of u a → Has away_of u b
  pub away_out : (u : Use) → Has away_of u b → Has away_of u a
  pub once : (j : ℕ) → sum_by (known_times j) b ≤ sum_by (known_times j) a
  pub single : (j : ℕ) → sum_by (away_times j) b ≤ sum_by (away_times j) a

module _ {S : Type 0} (p : Terms S) where
  pub slotted_same : (words words' : List ℕ) (homes : List (Option S)) (roots after : List Node) (a b : List View) → SameSlots a b
      → ((x : Node) → Occurs x after → x.0.kind ≡ External → Occurs x roots)
      → ((u : Use) → Has used_of u a → IsLive p.numbers words roots u → IsLive p.numbers words' after u)
      → Slotted p words homes roots a → Slotted p words' homes after b
  slotted_same words words' homes roots after a b s down live r = record {
    once = λ j. omega (arith, s.once j, r.once j);
    single = λ j. omega (arith, s.single j, r.single j);
    unused = λ j h. r.unused j (s.unused j h);
    external = λ x o e. let q = r.external x (down x o e) e in (q.0, s.used_in (use_of x) q.1);
    out = λ j e. let q = r.out j e in (q.0, s.away_in q.0 q.1, q.2);
    gone = λ u h. let q = r.gone u (s.away_out u h) in (q.0, s.used_in u q.1);
    used = λ u h. let mine = s.used_out u h in ⊎_elim (λ l. inl (live u mine l)) (λ q. ⊎_elim (λ g. inr (inl (s.away_in u g))) (λ g. inr (inr g)) q) (r.used u mine);
    value = λ j y e. ⊎_elim (λ q. inl q) (λ q. inr (q.0, s.used_in q.0 q.1, q.2, q.3)) (r.value j y e);
  }

  -- a step by which an external is made
  module _ (words : List ℕ) (homes : List (Option S)) (roots after : List Node) (views : List View) (id : ℕ) (v w : View) (at : get_elem? views id ≡ some v) (t : Node) (m : ℕ) (later : List ℕ) (ext : t.0.kind ≡ External) (next : v.unused ≡ t.0.more ∷ later) (unused : w.unused ≡ later) (used : w.used ≡ v.used ++ use_of t ∷ []) (away : w.away ≡ v.away) (low : number t < p.numbers) (wide : number t < length words) (free : get_or words (number t) 0 ≡ 0) (taken : m ≢ 0) (absent : (x : Node) → Occurs x roots → number x ≢ number t) (new : (x : Node) → Occurs x after → Occurs x roots ⊎ (x ≡ t)) (r : Slotted p words homes roots views) where
    known_same : (j : ℕ) → known_times j w ≡ known_times j v
    known_same j =
        let a = ap (slot_times j) next in
        let b = ap (slot_times j) unused in
        let c = ap (λ (l : List Use). slot_times j (map slot_of l)) used in
        let d = ap (slot_times j) (map-append slot_of v.used (use_of t ∷ [])) in
        let e = slot_times-append j (map slot_of v.used) (t.0.more ∷ []) in
        omega (arith, a, b, c, d, e)

    here_used : Has used_of (use_of t) (set views id w)
    here_used = has_here used_of views id v w at (use_of t) (subst (λ (l : List Use). Member (use_of t) l) (sym used) (member_last (use_of t) v.used))

    used_on : (u : Use) → Has used_of u views → Has used_of u (set views id w)
    used_on u h = has_in used_of views id v w at u h (λ k. has_here used_of views id v w at u (subst (λ (l : List Use). Member u l) (sym used) (member_before u v.used (use_of t) k)))

    first_unused : Has unused_of t.0.more views
    first_unused = record { id = id; view = v; at = at; member = subst (λ (l : List ℕ). Member t.0.more l) (sym next) (inl refl) }

    live_made : IsLive p.numbers (set words (number t) m) after (use_of t)
    live_made = record {
      low = low;
      word = λ z. taken (sym (get_or-set_same words (number t) m 0 wide) ∙ z);
      node = λ x o e. ⊎_elim (λ old. absurd (absent x old e)) (λ is. (ap (λ (z : Node). z.0.kind) is ∙ ext, ap use_of is)) (new x o);
    }

    still_live : (u : Use) → IsLive p.numbers words roots u → IsLive p.numbers (set words (number t) m) after u
    still_live u l =
        let ne : u.number ≢ number t = (λ e. l.word (ap (λ (k : ℕ). get_or words k 0) e ∙ free)) in
        record {
          low = l.low;
          word = λ z. l.word (sym (get_or-set_other words (number t) u.number m 0 ne) ∙ z);
          node = λ x o e. ⊎_elim (λ old. l.node x old e) (λ is. absurd (ne (sym e ∙ ap number is))) (new x o);
        }

    still_used : (u : Use) → Has used_of u views → IsLive p.numbers (set words (number t) m) after u ⊎ Has away_of u (set views id w) ⊎ IsHome (IsCalled p u.slot u.length) homes u.slot
    still_used u h = ⊎_elim
        (λ l. inl (still_live u l))
        (λ q. ⊎_elim (λ g. inr (inl (has_kept_in away_of views id v w at u away g))) (λ g. inr (inr g)) q)
        (r.used u h)

    pub slotted_made : Slotted p (set words (number t) m) homes after (set views id w)
    slotted_made = record {
      once = λ j. omega (arith, sum-set (known_times j) views id v w at, known_same j, r.once j);
      single = λ j. let e = ap (λ (l : List Use). slot_times j (map slot_of l)) away in omega (arith, sum-set (away_times j) views id v w at, e, r.single j);
      unused = λ j h. r.unused j (⊎_elim
          (λ k. record { id = id; view = v; at = at; member = subst (λ (l : List ℕ). Member j l) (sym next) (inr (subst (λ (l : List ℕ). Member j l) unused k)) })
          (λ o. o)
          (has_out unused_of views id v w at j h));
      external = λ x o e. ⊎_elim
          (λ old. let q = r.external x old e in (q.0, used_on (use_of x) q.1))
          (λ is. subst (λ (z : Node). IsHome (IsFresh p z.0.more) homes z.0.more × Has used_of (use_of z) (set views id w)) (sym is) (r.unused t.0.more first_unused, here_used))
          (new x o);
      out = λ j e. let q = r.out j e in (q.0, has_kept_in away_of views id v w at q.0 away q.1, q.2);
      gone = λ u h. let q = r.gone u (has_kept_out away_of views id v w at u away h) in (q.0, used_on u q.1);
      used = λ u h. ⊎_elim
          (λ k. ⊎_elim
          (λ old. still_used u (record { id = id; view = v; at = at; member = old }))
          (λ is. inl (subst (IsLive p.numbers (set words (number t) m) after) (sym is) live_made))
          (member_parts u v.used (use_of t) (subst (λ (l : List Use). Member u l) used k)))
          (λ o. still_used u o)
          (has_out used_of views id v w at u h);
      value = λ j y e. ⊎_elim (λ q. inl q) (λ q. inr (q.0, used_on q.0 q.1, q.2, q.3)) (r.value j y e);
    }

  home_not : (homes : List (Option S)) (j : ℕ) (y : S) → get_elem? homes j ≡ some none → get_elem? homes j ≡ some (some y) → ⊥
  home_not homes j y a b = some-ne-none y (sym (some-injective none (some y) (sym a ∙ b)))

  home_else : {P : S → Type 0} (homes : List (Option S)) (i j : ℕ) (x : Option S) → j ≢ i → IsHome P homes j → IsHome P (set homes i x) j
  home_else homes i j x ne h = record { value = h.value; at = set_else homes i j x ne ∙ h.at; is = h.is }

  -- the slot of an external whose last hold went is out with the leaver
  module _ (words : List ℕ) (homes : List (Option S)) (roots after : List Node) (views : List View) (id : ℕ) (v w : View) (at : get_elem? views id ≡ some v) (t : Node) (m : ℕ) (ext : t.0.kind ≡ External) (here : Occurs t roots) (unused : w.unused ≡ v.unused) (used : w.used ≡ v.used) (none_away : v.away ≡ []) (away : w.away ≡ use_of t ∷ []) (down : (x : Node) → Occurs x after → Occurs x roots) (absent : (x : Node) → Occurs x after → number x ≢ number t) (r : Slotted p words homes roots views) where
    pub its_home : IsHome (IsFresh p t.0.more) homes t.0.more
    its_home = (r.external t here ext).0

    its_use : Has used_of (use_of t) views
    its_use = (r.external t here ext).1

    used_kept : (u : Use) → Has used_of u views → Has used_of u (set views id w)
    used_kept u h = has_kept_in used_of views id v w at u used h

    away_kept : (u : Use) → Has away_of u views → Has away_of u (set views id w)
    away_kept u h = has_in away_of views id v w at u h (λ k. absurd (subst (λ (l : List Use). Member u l) none_away k))

    away_mine : Has away_of (use_of t) (set views id w)
    away_mine = has_here away_of views id v w at (use_of t) (subst (λ (l : List Use). Member (use_of t) l) (sym away) (inl refl))

    inside : t.0.more < length homes
    inside = at_lt homes t.0.more (some its_home.value) its_home.at

    known_kept : (j : ℕ) → known_times j w ≡ known_times j v
    known_kept j = omega (arith, ap (slot_times j) unused, ap (λ (l : List Use). slot_times j (map slot_of l)) used)

    single_out : (j : ℕ) → sum_by (away_times j) (set views id w) ≤ 1
    single_out j =
        let s = sum-set (away_times j) views id v w at in
        let a = ap (λ (l : List Use). slot_times j (map slot_of l)) none_away in
        let b = ap (λ (l : List Use). slot_times j (map slot_of l)) away in
        dite (ℕ_discrete j t.0.more)
        (λ e. dite (dec_le 1 (sum_by (away_times j) views))
        (λ some_. let u = some_away j views some_ in
        absurd (home_not homes t.0.more its_home.value (subst (λ (k : ℕ). get_elem? homes k ≡ some none) (u.2 ∙ e) (r.gone u.0 u.1).0) its_home.at))
        (λ none_. omega (arith, s, a, b, none_, slot_hit j t.0.more e)))
        (λ ne. let z : one_if (eqb j t.0.more) ≡ 0 = ap one_if (ne_eqb j t.0.more ne) in omega (arith, s, a, b, z, r.single j))

    pub slotted_out : Slotted p (set words (number t) m) (set homes t.0.more none) after (set views id w)
    slotted_out = record {
      once = λ j. omega (arith, sum-set (known_times j) views id v w at, known_kept j, r.once j);
      single = single_out;
      unused = λ j h. let old = has_kept_out unused_of views id v w at j unused h in
          home_else homes t.0.more j none (λ e. unused_apart views r.once j (use_of t) old its_use (sym e)) (r.unused j old);
      external = λ x o e. let q = r.external x (down x o) e in
          (home_else homes t.0.more x.0.more none (λ z. absent x o (ap (λ (u : Use). u.number) (one_use views r.once (use_of x) (use_of t) q.1 its_use z))) q.0, used_kept (use_of x) q.1);
      out = λ j e. dite (ℕ_discrete j t.0.more)
          (λ is. (use_of t, away_mine, sym is))
          (λ ne. let q = r.out j (sym (set_else homes t.0.more j none ne) ∙ e) in (q.0, away_kept q.0 q.1, q.2));
      gone = λ u h. ⊎_elim
          (λ k. ⊎_elim
          (λ is. let at_slot : get_elem? (set homes t.0.more none) u.slot ≡ some none = subst (λ (j : ℕ). get_elem? (set homes t.0.more none) j ≡ some none) (ap slot_of (sym is)) (set_here homes t.0.more none inside) in
          (at_slot, used_kept u (subst (λ (z : Use). Has used_of z views) (sym is) its_use)))
          (λ z. absurd z)
          (subst (λ (l : List Use). Member u l) away k))
          (λ o. let q = r.gone u o in
          (set_else homes t.0.more u.slot none (λ e. home_not homes t.0.more its_home.value (subst (λ (j : ℕ). get_elem? homes j ≡ some none) e q.0) its_home.at) ∙ q.0, used_kept u q.1))
          (has_out away_of views id v w at u h);
      used = λ u h. let old = has_kept_out used_of views id v w at u used h in ⊎_elim
          (λ l. dite (ℕ_discrete u.number (number t))
          (λ e. inr (inl (subst (λ (z : Use). Has away_of z (set views id w)) (l.node t here (sym e)).1 away_mine)))
          (λ ne. inl (record {
            low = l.low;
            word = λ z. l.word (sym (get_or-set_other words (number t) u.number m 0 ne) ∙ z);
            node = λ x o e. l.node x (down x o) e;
          })))
          (λ q. ⊎_elim
          (λ g. inr (inl (away_kept u g)))
          (λ g. dite (ℕ_discrete u.slot t.0.more)
          (λ e. inr (inl (subst (λ (z : Use). Has away_of z (set views id w)) (sym (one_use views r.once u (use_of t) old its_use e)) away_mine)))
          (λ ne. inr (inr (home_else homes t.0.more u.slot none ne g))))
          q)
          (r.used u old);
      value = λ j y e. dite (ℕ_discrete j t.0.more)
          (λ is. absurd (some-ne-none y (sym (some-injective none (some y) (sym (ap (get_elem? (set homes t.0.more none)) is ∙ set_here homes t.0.more none inside) ∙ e)))))
          (λ ne. ⊎_elim (λ q. inl q) (λ q. inr (q.0, used_kept q.0 q.1, q.2, q.3)) (r.value j y (sym (set_else homes t.0.more j none ne) ∙ e)));
    }

  -- and comes home when its box was called
  module _ (words words' : List ℕ) (homes : List (Option S)) (roots after : List Node) (views : List View) (id : ℕ) (v w : View) (at : get_elem? views id ≡ some v) (u : Use) (y : S) (called : IsCalled p u.slot u.length y) (unused : w.unused ≡ v.unused) (used : w.used ≡ v.used) (was : v.away ≡ u ∷ []) (away : w.away ≡ []) (down : (x : Node) → Occurs x after → x.0.kind ≡ External → Occurs x roots) (live : (z : Use) → IsLive p.numbers words roots z → IsLive p.numbers words' after z) (r : Slotted p words homes roots views) where
    mine_away : Has away_of u views
    mine_away = record { id = id; view = v; at = at; member = subst (λ (l : List Use). Member u l) (sym was) (inl refl) }

    empty_home : get_elem? homes u.slot ≡ some none
    empty_home = (r.gone u mine_away).0

    filled_else : {P : S → Type 0} (j : ℕ) → IsHome P homes j → IsHome P (set homes u.slot (some y)) j
    filled_else j h = home_else homes u.slot j (some y) (λ e. home_not homes u.slot h.value empty_home (subst (λ (k : ℕ). get_elem? homes k ≡ some (some h.value)) e h.at)) h

    still_used' : (z : Use) → Has used_of z views → Has used_of z (set views id w)
    still_used' z h = has_kept_in used_of views id v w at z used h

    -- a slot that is out with another token is another slot
    apart : (z : Use) (h : Has away_of z views) → h.id ≢ id → z.slot ≢ u.slot
    apart z h ne e =
        let a = use_pos z h.view.away h.member in
        let b = use_pos u v.away (subst (λ (l : List Use). Member u l) (sym was) (inl refl)) in
        let c = ap (λ (j : ℕ). slot_times j (map slot_of h.view.away)) e in
        absurd (omega (arith, a, b, c, two-sum (away_times u.slot) views id h.id v h.view at h.at (λ q. ne (sym q)), r.single u.slot))

    pub slotted_home : Slotted p words' (set homes u.slot (some y)) after (set views id w)
    slotted_home = record {
      once = λ j. omega (arith, sum-set (known_times j) views id v w at, ap (slot_times j) unused, ap (λ (l : List Use). slot_times j (map slot_of l)) used, r.once j);
      single = λ j. omega (arith, sum-set (away_times j) views id v w at, ap (λ (l : List Use). slot_times j (map slot_of l)) away, r.single j);
      unused = λ j h. filled_else j (r.unused j (has_kept_out unused_of views id v w at j unused h));
      external = λ x o e. let q = r.external x (down x o e) e in (filled_else x.0.more q.0, still_used' (use_of x) q.1);
      out = λ j e. dite (ℕ_discrete j u.slot)
          (λ is. absurd (home_not (set homes u.slot (some y)) j y e (ap (get_elem? (set homes u.slot (some y))) is ∙ set_here homes u.slot (some y) (at_lt homes u.slot none empty_home))))
          (λ ne. let q = r.out j (sym (set_else homes u.slot j (some y) ne) ∙ e) in
          (q.0, has_in away_of views id v w at q.0 q.1 (λ k. ⊎_elim (λ is. absurd (ne (sym q.2 ∙ ap slot_of is))) (λ z. absurd z) (subst (λ (l : List Use). Member q.0 l) was k)), q.2));
      gone = λ z h. ⊎_elim
          (λ k. absurd (subst (λ (l : List Use). Member z l) away k))
          (λ o. let q = r.gone z o.0 in (set_else homes u.slot z.slot (some y) (apart z o.0 o.1) ∙ q.0, still_used' z q.1))
          (has_else away_of views id v w at z h);
      used = λ z h. ⊎_elim
          (λ l. inl (live z l))
          (λ q. ⊎_elim
          (λ g. dite (ℕ_discrete g.id id)
          (λ e. let same : g.view ≡ v = some-injective g.view v (sym (subst (λ (j : ℕ). get_elem? views j ≡ some g.view) e g.at) ∙ at) in
          ⊎_elim
          (λ is. inr (inr (record {
            value = y;
            at = ap (get_elem? (set homes u.slot (some y))) (ap slot_of is) ∙ set_here homes u.slot (some y) (at_lt homes u.slot none empty_home);
            is = subst (λ (k : Use). IsCalled p k.slot k.length y) (sym is) called;
          })))
          (λ n. absurd n)
          (subst (λ (l : List Use). Member z l) (ap (λ (k : View). k.away) same ∙ was) g.member))
          (λ ne. inr (inl (has_other away_of views id v w at z g ne))))
          (λ g. inr (inr (filled_else z.slot g)))
          q)
          (r.used z (has_kept_out used_of views id v w at z used h));
      value = λ j x e. dite (ℕ_discrete j u.slot)
          (λ is. let same : y ≡ x = some-injective' (sym (ap (get_elem? (set homes u.slot (some y))) is ∙ set_here homes u.slot (some y) (at_lt homes u.slot none empty_home)) ∙ e) in
          inr (u, still_used' u (r.gone u mine_away).1, sym is, subst (λ (k : ℕ × S). IsCalled p k.0 u.length k.1) (λ q. (sym is q, same q)) called))
          (λ ne. ⊎_elim (λ q. inl q) (λ q. inr (q.0, still_used' q.0 q.1, q.2, q.3)) (r.value j x (sym (set_else homes u.slot j (some y) ne) ∙ e)));
    }
      where
        some-injective' : {a b : S} → some (some a) ≡ some (some b) → a ≡ b
        some-injective' {a} {b} e = some-injective a b (some-injective (some a) (some b) e)

-- ---- the same slots in other tokens
pub same_step : (views : List View) (id : ℕ) (v w : View) → get_elem? views id ≡ some v → w.unused ≡ v.unused → w.used ≡ v.used → w.away ≡ v.away → SameSlots views (set views id w)
same_step views id v w at unused used away = record {
  unused = λ j h. has_kept_out unused_of views id v w at j unused h;
  used_in = λ u h. has_kept_in used_of views id v w at u used h;
  used_out = λ u h. has_kept_out used_of views id v w at u used h;
  away_in = λ u h. has_kept_in away_of views id v w at u away h;
  away_out = λ u h. has_kept_out away_of views id v w at u away h;
  once = λ j. omega (arith, sum-set (known_times j) views id v w at, ap (slot_times j) unused, ap (λ (l : List Use). slot_times j (map slot_of l)) used);
  single = λ j. omega (arith, sum-set (away_times j) views id v w at, ap (λ (l : List Use). slot_times j (map slot_of l)) away);
}

-- what a token that is divided leaves of its slots
pub record DividedSlots (v left right : View) : Type 0 where
  pub used : left.used ≡ v.used
  pub away : left.away ≡ v.away
  pub none_used : right.used ≡ []
  pub none_away : right.away ≡ []
  pub unused_left : (j : ℕ) → Member j left.unused → Member j v.unused
  pub unused_right : (j : ℕ) → Member j right.unused → Member j v.unused
  pub count : (j : ℕ) → slot_times j left.unused + slot_times j right.unused ≤ slot_times j v.unused

pub same_divided : (views : List View) (id : ℕ) (v l r : View) → get_elem? views id ≡ some v → DividedSlots v l r → SameSlots views (set views id l ++ r ∷ [])
same_divided views id v l r at d = record {
  unused = λ j h. ⊎_elim
      (λ a. ⊎_elim (λ k. record { id = id; view = v; at = at; member = d.unused_left j k }) (λ o. o) (has_out unused_of views id v l at j a))
      (λ b. record { id = id; view = v; at = at; member = d.unused_right j b })
      (has_last_out unused_of (set views id l) r j h);
  used_in = λ u h. has_last_in used_of (set views id l) r u (has_kept_in used_of views id v l at u d.used h);
  used_out = λ u h. ⊎_elim
      (λ a. has_kept_out used_of views id v l at u d.used a)
      (λ b. absurd (subst (λ (z : List Use). Member u z) d.none_used b))
      (has_last_out used_of (set views id l) r u h);
  away_in = λ u h. has_last_in away_of (set views id l) r u (has_kept_in away_of views id v l at u d.away h);
  away_out = λ u h. ⊎_elim
      (λ a. has_kept_out away_of views id v l at u d.away a)
      (λ b. absurd (subst (λ (z : List Use). Member u z) d.none_away b))
      (has_last_out away_of (set views id l) r u h);
  once = λ j. omega (arith, sum-set (known_times j) views id v l at, sum-last (known_times j) (set views id l) r, ap (λ (z : List Use). slot_times j (map slot_of z)) d.used, ap (λ (z : List Use). slot_times j (map slot_of z)) d.none_used, d.count j);
  single = λ j. omega (arith, sum-set (away_times j) views id v l at, sum-last (away_times j) (set views id l) r, ap (λ (z : List Use). slot_times j (map slot_of z)) d.away, ap (λ (z : List Use). slot_times j (map slot_of z)) d.none_away);
}

-- what two tokens leave of their slots that are joined
pub record JoinedSlots (v w both : View) : Type 0 where
  pub unused : both.unused ≡ v.unused ++ w.unused
  pub used : both.used ≡ v.used ++ w.used
  pub away : both.away ≡ v.away
  pub none_away : w.away ≡ []

member_left' : {A : Type 0} (x : A) (a b : List A) → Member x a → Member x (a ++ b)
member_left' x [] b h = absurd h
member_left' x (y ∷ ys) b (inl e) = inl e
member_left' x (y ∷ ys) b (inr h) = inr (member_left' x ys b h)

member_right' : {A : Type 0} (x : A) (a b : List A) → Member x b → Member x (a ++ b)
member_right' x [] b h = h
member_right' x (y ∷ ys) b h = inr (member_right' x ys b h)

module _ (views : List View) (id other : ℕ) (v w both : View) (at : get_elem? views id ≡ some v) (there : get_elem? views other ≡ some w) (ne : other ≢ id) where
  both_list : List View
  both_list = set (set views id both) other (spent w)

  there' : get_elem? (set views id both) other ≡ some w
  there' = set_else views id other both ne ∙ there

  -- what either had the first has now
  joined_in : {A : Type 0} (f : View → List A) → f both ≡ f v ++ f w → f (spent w) ≡ [] → (x : A) → Has f x views → Has f x (set (set views id both) other (spent w))
  joined_in f same none_ x h =
      let mine : Member x (f both) → Has f x (set (set views id both) other (spent w)) =
      (λ m. record { id = id; view = both; at = set_else (set views id both) other id (spent w) (λ e. ne (sym e)) ∙ set_here views id both (at_lt views id v at); member = m }) in
      dite (ℕ_discrete h.id id)
      (λ e. let is : h.view ≡ v = some-injective h.view v (sym (subst (λ (j : ℕ). get_elem? views j ≡ some h.view) e h.at) ∙ at) in
      mine (subst (λ (l : List _). Member x l) (sym same) (member_left' x (f v) (f w) (subst (λ (z : View). Member x (f z)) is h.member))))
      (λ a. dite (ℕ_discrete h.id other)
      (λ e. let is : h.view ≡ w = some-injective h.view w (sym (subst (λ (j : ℕ). get_elem? views j ≡ some h.view) e h.at) ∙ there) in
      mine (subst (λ (l : List _). Member x l) (sym same) (member_right' x (f v) (f w) (subst (λ (z : View). Member x (f z)) is h.member))))
      (λ b. record { id = h.id; view = h.view; at = set_else (set views id both) other h.id (spent w) b ∙ (set_else views id h.id both a ∙ h.at); member = h.member }))

  joined_out : {A : Type 0} (f : View → List A) → f both ≡ f v ++ f w → f (spent w) ≡ [] → (x : A) → Has f x (set (set views id both) other (spent w)) → Has f x views
  joined_out f same none_ x h = ⊎_elim
      (λ m. absurd (subst (λ (l : List _). Member x l) none_ m))
      (λ o. ⊎_elim
      (λ m. ⊎_elim (λ a. record { id = id; view = v; at = at; member = a }) (λ b. record { id = other; view = w; at = there; member = b }) (member_split x (f v) (f w) (subst (λ (l : List _). Member x l) same m)))
      (λ k. k)
      (has_out f views id v both at x o))
      (has_out f (set views id both) other w (spent w) there' x h)

  pub same_joined : JoinedSlots v w both → SameSlots views (set (set views id both) other (spent w))
  same_joined d =
      let away : both.away ≡ v.away ++ w.away = d.away ∙ (sym (append-nil v.away) ∙ ap (λ (l : List Use). v.away ++ l) (sym d.none_away)) in
      record {
        unused = λ j h. joined_out unused_of d.unused refl j h;
        used_in = λ u h. joined_in used_of d.used refl u h;
        used_out = λ u h. joined_out used_of d.used refl u h;
        away_in = λ u h. joined_in away_of away refl u h;
        away_out = λ u h. joined_out away_of away refl u h;
        once = λ j.
            let a = ap (slot_times j) d.unused in
            let b = slot_times-append j v.unused w.unused in
            let c = ap (λ (l : List Use). slot_times j (map slot_of l)) d.used in
            let e = ap (slot_times j) (map-append slot_of v.used w.used) in
            let f = slot_times-append j (map slot_of v.used) (map slot_of w.used) in
            omega (arith, sum-set (known_times j) views id v both at, sum-set (known_times j) (set views id both) other w (spent w) there', a, b, c, e, f);
        single = λ j.
            let a = ap (λ (l : List Use). slot_times j (map slot_of l)) d.away in
            omega (arith, sum-set (away_times j) views id v both at, sum-set (away_times j) (set views id both) other w (spent w) there', a);
      }

-- ---- at the start
pub slotted_start : {S : Type 0} (p : Terms S) (words : List ℕ) (xs : List S) (v : View) → v.used ≡ [] → v.away ≡ [] → ((j : ℕ) → slot_times j v.unused ≤ 1) → ((j : ℕ) → Member j v.unused → j < length xs)
    → ((j : ℕ) (y : S) → get_elem? xs j ≡ some y → IsFresh p j y) → Slotted p words (map some xs) [] (v ∷ [])
slotted_start {S} p words xs v used away few inside fresh = record {
  once = λ j. omega (arith, few j, ap (λ (l : List Use). slot_times j (map slot_of l)) used);
  single = λ j. omega (arith, ap (λ (l : List Use). slot_times j (map slot_of l)) away);
  unused = λ j h. let low = inside j (subst (λ (z : View). Member j z.unused) (sym (is_first h.id h.view h.at)) h.member) in
      let y = some_there xs j low in record { value = y.0; at = y.1; is = fresh j y.0 (at_mapped xs j y.0 y.1) };
  external = λ x o e. absurd o;
  out = λ j e. absurd (never xs j e);
  gone = λ u h. absurd (subst (λ (l : List Use). Member u l) away (subst (λ (z : View). Member u z.away) (sym (is_first h.id h.view h.at)) h.member));
  used = λ u h. absurd (subst (λ (l : List Use). Member u l) used (subst (λ (z : View). Member u z.used) (sym (is_first h.id h.view h.at)) h.member));
  value = λ j y e. inl (fresh j y (at_mapped xs j y e));
}
  where
    is_first : (id : ℕ) (u : View) → get_elem? (v ∷ []) id ≡ some u → v ≡ u
    is_first zero u e = some-injective v u e
    is_first (suc id) u e = absurd (some-ne-none u (sym e))

    at_mapped : (ys : List S) (j : ℕ) (y : S) → get_elem? (map some ys) j ≡ some (some y) → get_elem? ys j ≡ some y
    at_mapped [] j y e = absurd (some-ne-none (some y) (sym e))
    at_mapped (z ∷ zs) zero y e = some-injective (some z) (some y) e
    at_mapped (z ∷ zs) (suc j) y e = at_mapped zs j y e

    never : (ys : List S) (j : ℕ) → get_elem? (map some ys) j ≡ some none → ⊥
    never [] j e = some-ne-none none (sym e)
    never (z ∷ zs) zero e = some-ne-none z (some-injective (some z) none e)
    never (z ∷ zs) (suc j) e = never zs j e
