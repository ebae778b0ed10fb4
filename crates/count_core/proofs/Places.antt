-- Direct holds by their places: the first with a number, taking it out, and holds divided by marks.
use Rattle.std.proofs.Common.{◌≡◌, ◌≢◌, ℕ, zero, suc, ◌+◌, ◌<◌, ◌≤◌, inl, inr, ⊎_elim, Bool, true, false, eqb, eq-eqb, ne_eqb, List, [], ◌∷◌, ◌++◌, length, take, drop, get_or, set, refl, sym, ◌∙◌, ap, subst, arith, add-one, append_assoc, get_or-set_same, get_or-set_other, length-set, append-nil, take-append-drop}
use Rattle.std.specs.Prelude.{Option, None, slice_get, ◌||◌, if◌then◌else◌, not}
use Rattle.std.specs.List.{remove}
use Rattle.std.proofs.lemmas.Option.{slice_get_read}
use mathlib.Core.Logic.{dite}
use native.Mathlib.Decide.{ℕ_discrete}
use Rattle.node_forest.specs.Label.{Node, number}
use Rattle.node_forest.specs.Members.{In}
use Rattle.node_forest.specs.Counts.{one_if, is, times, first}
use Rattle.node_forest.proofs.Members.{in_split}
use Rattle.node_forest.proofs.Counts.{is_one, is_none, times_append, first_hit, first_miss}
use Rattle.count_core.specs.Holders.{skip_if}
use Rattle.count_core.specs.Views.{without, without_all, AreHeld, edges_of_one, is_among, AreDifferent, AreBelow, moving, staying, put_if, chosen, AreMarks}
use Rattle.count_core.proofs.Lists.{drop_item, take_item, take_whole, drop_whole}

-- ---- taking one out
pub without_hit : (n : ℕ) (t : Node) (ts : List Node) → number t ≡ n → without n (t ∷ ts) ≡ ts
without_hit n t ts e = ap (λ (b : Bool). if b then ts else t ∷ without n ts) (eq-eqb n (number t) (sym e))

pub without_miss : (n : ℕ) (t : Node) (ts : List Node) → number t ≢ n → without n (t ∷ ts) ≡ t ∷ without n ts
without_miss n t ts e = ap (λ (b : Bool). if b then ts else t ∷ without n ts) (ne_eqb n (number t) (λ x. e (sym x)))

-- the hold at the place i is the first with its number
pub place_found : (n : ℕ) (hs : List Node) (i : ℕ) (x : Node) → i < length hs → x ≡ get_or hs i x → number x ≡ n → first n hs ≡ first n (drop i hs) → without n hs ≡ take i hs ++ without n (drop i hs)
    → (slice_get hs i ≡ first n hs) × (without n hs ≡ remove hs i)
place_found n hs i x l e same f w =
    let rest = drop_item hs i x l e in (
      slice_get_read hs (length hs) i x refl l e ∙ sym (f ∙ (ap (first n) rest ∙ first_hit n x (drop (i + 1) hs) same)),
      w ∙ ap (λ ts. take i hs ++ ts) (ap (without n) rest ∙ (without_hit n x (drop (i + 1) hs) same ∙ ap (λ k. drop k hs) (add-one i))),
    )

-- the hold at the place i has another number
pub place_passed : (n : ℕ) (hs : List Node) (i : ℕ) (x : Node) → i < length hs → x ≡ get_or hs i x → number x ≢ n → first n hs ≡ first n (drop i hs) → without n hs ≡ take i hs ++ without n (drop i hs)
    → (first n hs ≡ first n (drop (i + 1) hs)) × (without n hs ≡ take (i + 1) hs ++ without n (drop (i + 1) hs))
place_passed n hs i x l e other f w =
    let rest = drop_item hs i x l e in (
      f ∙ (ap (first n) rest ∙ first_miss n x (drop (i + 1) hs) other),
      w ∙ (ap (λ ts. take i hs ++ ts) (ap (without n) rest ∙ without_miss n x (drop (i + 1) hs) other)
          ∙ (sym (append_assoc (take i hs) (x ∷ []) (without n (drop (i + 1) hs))) ∙ ap (λ ts. ts ++ without n (drop (i + 1) hs)) (sym (take_item hs i x l e)))),
    )

-- behind the last there is none
pub place_none : (n : ℕ) (hs : List Node) (i : ℕ) → length hs ≤ i → first n hs ≡ first n (drop i hs) → without n hs ≡ take i hs ++ without n (drop i hs) → (first n hs ≡ None) × (without n hs ≡ hs)
place_none n hs i l f w =
    let gone = drop_whole hs i l in (
      f ∙ ap (first n) gone,
      w ∙ ((λ j. take_whole hs i l j ++ without n (gone j)) ∙ append-nil hs),
    )

-- what is left where nothing was to be taken out
pub left_nothing : (n : ℕ) (hs : List Node) (last : Bool) → first n hs ≡ None → without n hs ≡ hs → hs ≡ without n hs ++ (if last then edges_of_one (first n hs) else [])
left_nothing n hs last f w = sym (ap (λ ts. ts ++ (if last then edges_of_one (first n hs) else [])) w ∙ (ap (λ ts. hs ++ ts) (nothing last (first n hs) f) ∙ append-nil hs))
  where
    nothing : (b : Bool) (o : Option Node) → o ≡ None → (if b then edges_of_one o else []) ≡ []
    nothing true o e = ap edges_of_one e
    nothing false o e = refl

-- an item is in the list
pub in_item : (hs : List Node) (i : ℕ) (x : Node) → i < length hs → x ≡ get_or hs i x → In x hs
in_item [] i x l e = absurd (omega arith)
in_item (y ∷ ys) zero x l e = inl e
in_item (y ∷ ys) (suc i) x l e = inr (in_item ys i x (omega arith) e)

-- ---- taking out several
times_without : (n m : ℕ) (hs : List Node) (c : Node) → number c ≡ m → times n hs ≤ times n (without m hs) + is n c
times_without n m [] c e = omega arith
times_without n m (t ∷ ts) c e =
    dite (ℕ_discrete (number t) m)
    (λ y. let w = ap (times n) (without_hit m t ts y) in let s : is n t ≡ is n c = ap (λ (z : ℕ). one_if (eqb n z)) (y ∙ sym e) in omega arith)
    (λ ne. let w = ap (times n) (without_miss m t ts ne) in let r = times_without n m ts c e in omega arith)

times_without_all : (n : ℕ) (cs hs : List Node) → times n hs ≤ times n (without_all cs hs) + times n cs
times_without_all n [] hs = omega arith
times_without_all n (c ∷ cs) hs = let a = times_without n (number c) hs c refl in let b = times_without_all n cs (without (number c) hs) in omega arith

without-append : (n : ℕ) (hs rest : List Node) → 1 ≤ times n hs → without n (hs ++ rest) ≡ without n hs ++ rest
without-append n [] rest l = absurd (omega arith)
without-append n (t ∷ ts) rest l =
    dite (ℕ_discrete (number t) n)
    (λ y. without_hit n t (ts ++ rest) y ∙ ap (λ xs. xs ++ rest) (sym (without_hit n t ts y)))
    (λ ne. let z = is_none n t ne in without_miss n t (ts ++ rest) ne ∙ (ap (λ xs. t ∷ xs) (without-append n ts rest (omega arith)) ∙ ap (λ xs. xs ++ rest) (sym (without_miss n t ts ne))))

without_all-append : (before : List Node) (x : Node) (hs : List Node) → without_all (before ++ x ∷ []) hs ≡ without (number x) (without_all before hs)
without_all-append [] x hs = refl
without_all-append (c ∷ cs) x hs = without_all-append cs x (without (number c) hs)

-- one more of the nodes that are held is taken out, before the last hold
pub closes_next : (cs hs rest : List Node) (i : ℕ) (x : Node) → AreHeld cs hs → i < length cs → x ≡ get_or cs i x
    → without (number x) (without_all (take i cs) hs ++ rest) ≡ without_all (take (i + 1) cs) hs ++ rest
closes_next cs hs rest i x held l e =
    let n : ℕ = number x in
    let enough = (held x (in_item cs i x l e)).enough in
    let parts : times n cs ≡ times n (take i cs) + times n (x ∷ drop (i + 1) cs) = ap (times n) (sym (take-append-drop i cs)) ∙ (times_append n (take i cs) (drop i cs) ∙ ap (λ ts. times n (take i cs) + times n ts) (drop_item cs i x l e)) in
    let here = is_one n x refl in
    let less = times_without_all n (take i cs) hs in
    without-append n (without_all (take i cs) hs) rest (omega arith)
    ∙ ap (λ ts. ts ++ rest) (sym (ap (λ ts. without_all ts hs) (take_item cs i x l e) ∙ without_all-append (take i cs) x hs))

-- ---- holding each
pub each_more : (P : Node → Type 0) (hs : List Node) (i : ℕ) (x : Node) → i < length hs → x ≡ get_or hs i x → ((c : Node) → In c (take i hs) → P c) → P x → (c : Node) → In c (take (i + 1) hs) → P c
each_more P hs i x l e before here c h =
    ⊎_elim (before c) (λ r. ⊎_elim (λ q. subst P (sym q) here) (λ n. absurd n) r)
    (in_split c (take i hs) (x ∷ []) (subst (λ ts. In c ts) (take_item hs i x l e) h))

pub each_whole : (P : Node → Type 0) (hs : List Node) (i : ℕ) → length hs ≤ i → ((c : Node) → In c (take i hs) → P c) → (c : Node) → In c hs → P c
each_whole P hs i l h c o = h c (subst (λ ts. In c ts) (sym (take_whole hs i l)) o)

-- ---- places that are set
among_last : (k : ℕ) (a : List ℕ) (p : ℕ) → is_among k (a ++ p ∷ []) ≡ (is_among k a || eqb k p)
among_last k [] p = or_false (eqb k p)
  where
    or_false : (b : Bool) → (b || false) ≡ b
    or_false true = refl
    or_false false = refl
among_last k (q ∷ a) p = either (eqb k q) (is_among k (a ++ p ∷ [])) (is_among k a) (eqb k p) (among_last k a p)
  where
    either : (b x y z : Bool) → x ≡ (y || z) → (b || x) ≡ ((b || y) || z)
    either true x y z e = refl
    either false x y z e = e

or_left : (a b : Bool) → (a || b) ≡ false → a ≡ false
or_left true b e = e
or_left false b e = refl

or_right : (a b : Bool) → (a || b) ≡ false → b ≡ false
or_right true b e = absurd (cc)
or_right false b e = e

or_none : (a b : Bool) → a ≡ false → b ≡ false → (a || b) ≡ false
or_none true b e f = e
or_none false b e f = f

not_equal : (p q : ℕ) → eqb p q ≡ false → eqb q p ≡ false
not_equal p q e = ne_eqb q p (λ same. absurd (let t : eqb p q ≡ true = eq-eqb p q (sym same) in cc))

pub different_last : (a : List ℕ) (p : ℕ) → AreDifferent a → is_among p a ≡ false → AreDifferent (a ++ p ∷ [])
different_last [] p d n = (refl, tt)
different_last (q ∷ a) p d n =
    (among_last q a p ∙ or_none (is_among q a) (eqb q p) d.0 (not_equal p q (or_left (eqb p q) (is_among p a) n)), different_last a p d.1 (or_right (eqb p q) (is_among p a) n))

among_there : (k : ℕ) (a : List ℕ) (rest : List ℕ) → is_among k (a ++ k ∷ rest) ≡ true
among_there k [] rest = ap (λ b. b || is_among k rest) (eq-eqb k k refl)
among_there k (q ∷ a) rest = or_true (eqb k q) (is_among k (a ++ k ∷ rest)) (among_there k a rest)
  where
    or_true : (b x : Bool) → x ≡ true → (b || x) ≡ true
    or_true true x e = refl
    or_true false x e = e

-- a place that stands twice
pub different_not : (a rest : List ℕ) (p : ℕ) → AreDifferent (a ++ p ∷ rest) → is_among p a ≡ true → ⊥
different_not [] rest p d n = cc
different_not (q ∷ a) rest p d n =
    dite (ℕ_discrete p q)
    (λ e. let t : is_among q (a ++ p ∷ rest) ≡ true = subst (λ (z : ℕ). is_among z (a ++ p ∷ rest) ≡ true) e (among_there p a rest) in let f = d.0 in cc)
    (λ ne. different_not a rest p d.1 (miss (eqb p q) (is_among p a) (ne_eqb p q ne) n))
  where
    miss : (b x : Bool) → b ≡ false → (b || x) ≡ true → x ≡ true
    miss true x e f = absurd (cc)
    miss false x e f = f

pub below_last : (size : ℕ) (a : List ℕ) (p : ℕ) → AreBelow size a → p < size → AreBelow size (a ++ p ∷ [])
below_last size [] p b l = (l, tt)
below_last size (q ∷ a) p b l = (b.0, below_last size a p b.1 l)

pub below_not : (size : ℕ) (a rest : List ℕ) (p : ℕ) → AreBelow size (a ++ p ∷ rest) → p < size
below_not size [] rest p b = b.0
below_not size (q ∷ a) rest p b = below_not size a rest p b.1

pub marked_last : (a : List ℕ) (p size : ℕ) (marks : List Bool) → AreMarks a size marks → p < size → get_or marks p false ≡ false → AreMarks (a ++ p ∷ []) size (set marks p true)
marked_last a p size marks m l free = record {
  different = different_last a p m.different (sym (m.set p l) ∙ free);
  below = below_last size a p m.below l;
  size = length-set marks p true ∙ m.size;
  set = λ i low. dite (ℕ_discrete i p)
      (λ e. subst (λ (z : ℕ). get_or (set marks p true) z false ≡ is_among z (a ++ p ∷ [])) (sym e)
      ((let wide : p < length marks = (let s = m.size in omega arith) in get_or-set_same marks p true false wide) ∙ sym (among_there p a [])))
      (λ ne. get_or-set_other marks p i true false ne ∙ (m.set i low ∙ sym (among_last i a p ∙ (ap (λ b. is_among i a || b) (ne_eqb i p ne) ∙ or_nothing (is_among i a)))));
}
  where
    or_nothing : (b : Bool) → (b || false) ≡ b
    or_nothing true = refl
    or_nothing false = refl

pub unmarked : (size : ℕ) (marks : List Bool) → length marks ≡ size → ((i : ℕ) → get_or marks i false ≡ false) → AreMarks [] size marks
unmarked size marks e h = record { different = tt; below = tt; size = e; set = λ i l. h i }

-- ---- the holds with a mark
chosen_next : (w m : Bool) (t : Node) (part rest : List Node) → (m ≡ w → ((part ++ t ∷ []) ++ rest ≡ part ++ put_if m w t rest)) × ((m ≡ w → ⊥) → part ++ rest ≡ part ++ put_if m w t rest)
chosen_next true true t part rest = (λ _. append_assoc part (t ∷ []) rest, λ n. absurd (n refl))
chosen_next false false t part rest = (λ _. append_assoc part (t ∷ []) rest, λ n. absurd (n refl))
chosen_next true false t part rest = (λ e. cc, λ _. refl)
chosen_next false true t part rest = (λ e. cc, λ _. refl)

pub chosen_taken : (w m : Bool) (marks : List Bool) (hs part : List Node) (i : ℕ) (t : Node) → i < length hs → i < length marks → m ≡ get_or marks i m → t ≡ get_or hs i t → m ≡ w
    → (part ++ t ∷ []) ++ chosen w (drop (i + 1) marks) (drop (i + 1) hs) ≡ part ++ chosen w (drop i marks) (drop i hs)
chosen_taken w m marks hs part i t l k e f same =
    (chosen_next w m t part (chosen w (drop (i + 1) marks) (drop (i + 1) hs))).0 same
    ∙ ap (λ (z : List Bool × List Node). part ++ chosen w z.0 z.1) (λ j. (sym (drop_item marks i m k e) j, sym (drop_item hs i t l f) j))

pub chosen_passed : (w m : Bool) (marks : List Bool) (hs part : List Node) (i : ℕ) (t : Node) → i < length hs → i < length marks → m ≡ get_or marks i m → t ≡ get_or hs i t → (m ≡ w → ⊥)
    → part ++ chosen w (drop (i + 1) marks) (drop (i + 1) hs) ≡ part ++ chosen w (drop i marks) (drop i hs)
chosen_passed w m marks hs part i t l k e f other =
    (chosen_next w m t part (chosen w (drop (i + 1) marks) (drop (i + 1) hs))).1 other
    ∙ ap (λ (z : List Bool × List Node). part ++ chosen w z.0 z.1) (λ j. (sym (drop_item marks i m k e) j, sym (drop_item hs i t l f) j))

-- the marked holds are those that move, and the others stay
module _ (places : List ℕ) where
  chosen_from : (k : ℕ) (marks : List Bool) (hs : List Node) → length marks ≡ length hs → ((i : ℕ) → i < length hs → get_or marks i false ≡ is_among (i + k) places) → (chosen true marks hs ≡ moving places k hs) × (chosen false marks hs ≡ staying places k hs)
  chosen_from k [] [] e h = (refl, refl)
  chosen_from k [] (t ∷ ts) e h = absurd (omega arith)
  chosen_from k (m ∷ ms) [] e h = absurd (omega arith)
  chosen_from k (m ∷ ms) (t ∷ ts) e h =
      let here : m ≡ is_among k places = h 0 (omega arith) ∙ ap (λ (z : ℕ). is_among z places) (omega arith) in
      let rest = chosen_from (k + 1) ms ts (omega arith) (λ i l. (let shift : suc i + k ≡ i + (k + 1) = omega arith in h (suc i) (omega arith) ∙ ap (λ (z : ℕ). is_among z places) shift)) in (
        marked m t (chosen true ms ts) ∙ (λ j. skip_if (not (here j)) t (rest.0 j)),
        kept m t (chosen false ms ts) ∙ (λ j. skip_if (here j) t (rest.1 j)),
      )
    where
      marked : (b : Bool) (t : Node) (r : List Node) → put_if b true t r ≡ skip_if (not b) t r
      marked true t r = refl
      marked false t r = refl

      kept : (b : Bool) (t : Node) (r : List Node) → put_if b false t r ≡ skip_if b t r
      kept true t r = refl
      kept false t r = refl

  pub chosen_marked : (marks : List Bool) (hs : List Node) → AreMarks places (length hs) marks → (chosen true marks hs ≡ moving places 0 hs) × (chosen false marks hs ≡ staying places 0 hs)
  chosen_marked marks hs m = chosen_from 0 marks hs m.size (λ i l. m.set i l ∙ ap (λ (z : ℕ). is_among z places) (omega arith))
