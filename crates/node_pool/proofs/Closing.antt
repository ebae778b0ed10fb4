-- The words of a pool whose one token holds nothing.
use Rattle.std.proofs.Common.{◌≡◌, ◌≢◌, ◌⊎◌, inl, inr, ⊎_elim, ℕ, zero, suc, ◌+◌, ◌<◌, ◌≤◌, List, [], ◌∷◌, ◌++◌, length, map, sum_by, get_or, refl, sym, ap, subst, ◌∙◌, arith, length-append, below_more}
use Rattle.std.proofs.lemmas.List.Sums.{sum_by-append}
use mathlib.Core.Logic.{dite}
use mathlib.Core.Option.{some, some-injective, some-ne-none}
use lib.ListN.{get_elem?}
use native.Mathlib.Decide.{ℕ_discrete, dec_le}
use Rattle.std.proofs.Math.Numerals.{add-one}
use Rattle.std.specs.Prelude.{All, min}
use Rattle.atomic_table.specs.Table.{Final, Seen, Joins}
use Rattle.node_forest.specs.Counts.{times}
use Rattle.node_forest.specs.Forest.{nodes_of}
use Rattle.node_forest.specs.Label.{Node}
use Rattle.node_forest.proofs.Counts.{times_append, times_some, times_pos}
use Rattle.node_forest.proofs.Members.{nodes_append}
use Rattle.pool_rule.specs.Pools.{Terms, Handed, Member, IsKnown, Kept, made_by, ended_by}
use Rattle.pool_rule.specs.Rules.{Among}
use Rattle.pool_rule.proofs.Alone.{member_split}
use Rattle.pool_rule.proofs.Taken.{among_left, among_right, among_split}
use Rattle.pool_rule.specs.Notes.{Tally, Use}
use Rattle.pool_rule.specs.Views.{View, blank, merged, tally_of}
use Rattle.pool_rule.proofs.Calls.{merges}
use Rattle.pool_rule.proofs.Ends.{empties, known}
use Rattle.pool_rule.proofs.Settled.{in_use, in_use_held}
use Rattle.node_pool.specs.Closes.{IsAllIdle, IsWhole, AreCountsWithin, AreTakenByWorkers, AreAllEnded, numbers_in, all_holds, IsUsed, AreReturned}
use Rattle.node_pool.specs.Tokens.{IsWorkerView}

word_is : (ws : List ℕ) (n x : ℕ) → get_elem? ws n ≡ some x → get_or ws n 0 ≡ x
word_is [] n x e = absurd (some-ne-none x (sym e))
word_is (w ∷ ws) zero x e = some-injective w x e
word_is (w ∷ ws) (suc n) x e = word_is ws n x e

pub zero_word : {S : Type 0} (p : Terms S) (id : ℕ) (v : View) (ws : List ℕ) (xs : List S) (n x : ℕ) → Final (Seen (Kept p) id v) ws xs → IsWhole p.workers v → n < p.numbers → get_elem? ws n ≡ some x → x ≡ 0
zero_word p id v ws xs n x f w low at =
    sym (word_is ws n x at) ∙ (ap (λ (z : List ℕ). get_or z n 0) (sym f.2) ∙ empties p f.0 id v f.1.0 f.1.1 w.spare w.passes w.ended w.nothing n low)

-- where so many words so far aren't 0 and that is none, each is 0
pub still_free : (ws : List ℕ) (n x before after : ℕ) → get_elem? ws n ≡ some x → (x ≡ 0 → after ≡ before) → (x ≢ 0 → after ≡ before + 1) → (before ≡ 0 → (k : ℕ) → k < n → get_or ws k 0 ≡ 0)
    → after ≡ 0 → (k : ℕ) → k < n + 1 → get_or ws k 0 ≡ 0
still_free ws n x before after at free used inv none_ =
    dite (ℕ_discrete x 0)
    (λ z. let same = free z in below_more (λ (k : ℕ). get_or ws k 0 ≡ 0) n (inv (omega (arith, same, none_))) (word_is ws n x at ∙ z))
    (λ ne. let more = used ne in absurd (omega (arith, more, none_)))

-- ---- numbers in use
-- where all passes ended, a word isn't 0 just where its number stands in the whole token's trees
pub record IsCountedIn (x times_ : ℕ) : Type 0 where
  pub free : x ≡ 0 → times_ ≡ 0
  pub used : x ≢ 0 → 1 ≤ times_

-- a number whose word is 0 stands in no tree of the whole token
pub number_free : {S : Type 0} (p : Terms S) (id : ℕ) (v : View) (ws : List ℕ) (xs : List S) (n x : ℕ) → Final (Seen (Kept p) id v) ws xs → get_elem? ws n ≡ some x → x ≡ 0 → times n (nodes_of v.holds) ≡ 0
number_free p id v ws xs n x f at z =
    let word : get_or f.0.words n 0 ≡ x = ap (λ (z : List ℕ). get_or z n 0) f.2 ∙ word_is ws n x at in
    dite (dec_le 1 (times n (nodes_of v.holds)))
    (λ some_. let q = times_some n (nodes_of v.holds) some_ in absurd (in_use p f.0 id v f.1.0 f.1.1 q.0 q.1 (ap (λ (k : ℕ). get_or f.0.words k 0) q.2 ∙ (word ∙ z))))
    (λ none_. omega (arith, none_))

pub number_counted : {S : Type 0} (p : Terms S) (id : ℕ) (v : View) (ws : List ℕ) (xs : List S) (n x : ℕ) → Final (Seen (Kept p) id v) ws xs → v.spare ≡ p.workers → v.passes ≡ 0 → made_by v ≡ ended_by v → n < p.numbers → get_elem? ws n ≡ some x
    → IsCountedIn x (times n (nodes_of v.holds))
number_counted p id v ws xs n x f all own ended low at =
    let word : get_or f.0.words n 0 ≡ x = ap (λ (z : List ℕ). get_or z n 0) f.2 ∙ word_is ws n x at in
    record {
      free = number_free p id v ws xs n x f at;
      used = λ ne.
          let q = in_use_held p f.0 id v f.1.0 f.1.1 all own ended n low (λ z. ne (sym word ∙ z)) in
          times_pos n q.0 (nodes_of v.holds) q.1 q.2;
    }

pub number_more : (n x before after : ℕ) (trees : List Node) → IsCountedIn x (times n (nodes_of trees)) → (x ≡ 0 → after ≡ before) → (x ≢ 0 → after ≡ before + 1) → before ≡ numbers_in n trees → after ≡ numbers_in (n + 1) trees
number_more n x before after trees is free used so_far =
    dite (ℕ_discrete x 0)
    (λ z. let same = free z in let none_ = is.free z in let e : after ≡ numbers_in n trees + min 1 (times n (nodes_of trees)) = omega (arith, same, none_, so_far) in e)
    (λ ne. let more = used ne in let one = is.used ne in let e : after ≡ numbers_in n trees + min 1 (times n (nodes_of trees)) = omega (arith, more, one, so_far) in e)
    ∙ sym (ap (λ (k : ℕ). numbers_in k trees) (add-one n))

-- as many at least, where passes haven't ended
pub number_least : (n x before after : ℕ) (trees : List Node) → (x ≡ 0 → times n (nodes_of trees) ≡ 0) → (x ≡ 0 → after ≡ before) → (x ≢ 0 → after ≡ before + 1) → numbers_in n trees ≤ before → numbers_in (n + 1) trees ≤ after
number_least n x before after trees none free used so_far =
    let more : numbers_in (n + 1) trees ≡ numbers_in n trees + min 1 (times n (nodes_of trees)) = ap (λ (k : ℕ). numbers_in k trees) (add-one n) in
    dite (ℕ_discrete x 0)
    (λ z. let same = free z in let zero_ = none z in omega (arith, more, same, zero_, so_far))
    (λ ne. let one = used ne in omega (arith, more, one, so_far))

numbers_same : (size : ℕ) (a b : List Node) → ((n : ℕ) → times n (nodes_of a) ≡ times n (nodes_of b)) → numbers_in size a ≡ numbers_in size b
numbers_same zero a b h = refl
numbers_same (suc n) a b h = (λ i. numbers_same n a b h i + min 1 (h n i))

times_both : (n : ℕ) (a b : List Node) → times n (nodes_of (a ++ b)) ≡ times n (nodes_of a) + times n (nodes_of b)
times_both n a b = ap (times n) (nodes_append a b) ∙ times_append n (nodes_of a) (nodes_of b)

abbrev times_in : ℕ → View → ℕ
times_in n v = times n (nodes_of v.holds)

times_all : (n : ℕ) (ws : List View) → times n (nodes_of (all_holds ws)) ≡ sum_by (times_in n) ws
times_all n [] = refl
times_all n (w ∷ ws) = omega (arith, times_both n w.holds (all_holds ws), times_all n ws, sum_by-append (times_in n) (w ∷ []) ws)

last-sum : (f : View → ℕ) (ws : List View) (w : View) → sum_by f (ws ++ w ∷ []) ≡ sum_by f ws + f w
last-sum f ws w = omega (arith, sum_by-append f ws (w ∷ []), sum_by-append f (w ∷ []) [])

-- ---- all workers in one
member_front : {A : Type 0} (x : A) (a b : List A) → Member x a → Member x (a ++ b)
member_front x [] b h = absurd h
member_front x (y ∷ ys) b (inl e) = inl e
member_front x (y ∷ ys) b (inr h) = inr (member_front x ys b h)

member_back : {A : Type 0} (x : A) (a b : List A) → Member x b → Member x (a ++ b)
member_back x [] b h = h
member_back x (y ∷ ys) b h = inr (member_back x ys b h)

pub record IsMerged (first : View) (ws : List View) (v : View) : Type 0 where
  pub spare : v.spare ≡ 1 + length ws
  pub passes : v.passes ≡ 0
  pub holds : length v.holds ≡ length first.holds + sum_by (λ (w : View). length w.holds) ws
  pub made : made_by v ≡ first.made + sum_by (λ (w : View). w.made) ws
  pub ended : ended_by v ≡ first.ended + sum_by (λ (w : View). w.ended) ws
  pub own : tally_of v ≡ tally_of first
  pub joined : (w : View) → Member w ws → Member (tally_of w) v.joined
  pub full_own : (n : ℕ) → Among n first.full → Among n v.full
  pub full : (w : View) → Member w ws → (n : ℕ) → Among n w.full → Among n v.full
  pub taken : (n : ℕ) → Among n v.taken → Among n first.taken ⊎ ((u : View) × Member u ws × Among n u.taken)
  pub trees : (n : ℕ) → times n (nodes_of v.holds) ≡ times n (nodes_of first.holds) + sum_by (times_in n) ws
  pub away : v.away ≡ []
  pub used_own : (u : Use) → Member u first.used → Member u v.used
  pub used_in : (w : View) → Member w ws → (u : Use) → Member u w.used → Member u v.used
  pub used_out : (u : Use) → Member u v.used → Member u first.used ⊎ IsUsed ws u

pub merged_first : (numbers most : ℕ) (first v : View) → v ≡ first → IsWorkerView numbers most first → IsMerged first [] v
merged_first numbers most first v same i = subst (IsMerged first []) (sym same) (record {
  spare = omega (arith, i.spare);
  passes = i.passes;
  holds = omega arith;
  made = omega (arith, ap (λ (l : List Tally). sum_by (λ (x : Tally). x.made) l) i.joined);
  ended = omega (arith, ap (λ (l : List Tally). sum_by (λ (x : Tally). x.ended) l) i.joined);
  own = refl;
  joined = λ w h. absurd h;
  full_own = λ n h. h;
  full = λ w h n a. absurd h;
  taken = λ n h. inl h;
  trees = λ n. omega arith;
  away = i.away;
  used_own = λ u h. h;
  used_in = λ w h u a. absurd h;
  used_out = λ u h. inl h;
})

pub merged_more : (numbers most : ℕ) (first : View) (ws : List View) (v w x : View) → IsMerged first ws v → w ≡ x → IsWorkerView numbers most x → IsMerged first (ws ++ x ∷ []) (merged v w)
merged_more numbers most first ws v w x m same i =
    let mine : IsWorkerView numbers most w = subst (IsWorkerView numbers most) (sym same) i in
    record {
      spare = omega (arith, m.spare, mine.spare, length-append ws (x ∷ []));
      passes = omega (arith, m.passes, mine.passes);
      holds = omega (arith, m.holds, length-append v.holds w.holds, ap (λ (z : View). length z.holds) same, last-sum (λ (z : View). length z.holds) ws x);
      made = omega (arith, m.made, sum_by-append (λ (z : Tally). z.made) v.joined (tally_of w ∷ w.joined), sum_by-append (λ (z : Tally). z.made) (tally_of w ∷ []) w.joined, ap (λ (l : List Tally). sum_by (λ (z : Tally). z.made) l) mine.joined, ap (λ (z : View). z.made) same, last-sum (λ (z : View). z.made) ws x);
      ended = omega (arith, m.ended, sum_by-append (λ (z : Tally). z.ended) v.joined (tally_of w ∷ w.joined), sum_by-append (λ (z : Tally). z.ended) (tally_of w ∷ []) w.joined, ap (λ (l : List Tally). sum_by (λ (z : Tally). z.ended) l) mine.joined, ap (λ (z : View). z.ended) same, last-sum (λ (z : View). z.ended) ws x);
      own = m.own;
      joined = λ u h. ⊎_elim
          (λ a. member_front (tally_of u) v.joined (tally_of w ∷ w.joined) (m.joined u a))
          (λ b. ⊎_elim (λ e. member_back (tally_of u) v.joined (tally_of w ∷ w.joined) (inl (ap tally_of (e ∙ sym same)))) (λ z. absurd z) b)
          (member_split u ws (x ∷ []) h);
      full_own = λ n h. among_left n v.full w.full (m.full_own n h);
      full = λ u h n a. ⊎_elim
          (λ b. among_left n v.full w.full (m.full u b n a))
          (λ b. ⊎_elim (λ e. among_right n v.full w.full (subst (λ (z : View). Among n z.full) (e ∙ sym same) a)) (λ z. absurd z) b)
          (member_split u ws (x ∷ []) h);
      taken = λ n h. ⊎_elim
          (λ a. ⊎_elim (λ b. inl b) (λ b. inr (b.0, member_front b.0 ws (x ∷ []) b.1, b.2)) (m.taken n a))
          (λ a. inr (x, member_back x ws (x ∷ []) (inl refl), subst (λ (z : View). Among n z.taken) same a))
          (among_split n v.taken w.taken h);
      trees = λ n. omega (arith, m.trees n, times_both n v.holds w.holds, ap (times_in n) same, last-sum (times_in n) ws x);
      away = m.away;
      used_own = λ u h. member_front u v.used w.used (m.used_own u h);
      used_in = λ z h u a. ⊎_elim
          (λ b. member_front u v.used w.used (m.used_in z b u a))
          (λ b. ⊎_elim (λ e. member_back u v.used w.used (subst (λ (y : View). Member u y.used) (e ∙ sym same) a)) (λ y. absurd y) b)
          (member_split z ws (x ∷ []) h);
      used_out = λ u h. ⊎_elim
          (λ a. ⊎_elim (λ b. inl b) (λ b. inr (b.0, member_front b.0 ws (x ∷ []) b.1, b.2)) (m.used_out u a))
          (λ a. inr (x, member_back x ws (x ∷ []) (inl refl), subst (λ (z : View). Member u z.used) same a))
          (member_split u v.used w.used h);
    }

-- what the whole token knows, its workers know of each other
pub merged_counts : (first : View) (ws all : List View) (v : View) → IsMerged first ws v → all ≡ ws ++ first ∷ [] → IsKnown v → AreCountsWithin all
merged_counts first ws all v m is k u h c hc =
    let made = ap (λ (l : List View). sum_by (λ (z : View). z.made) l) is in
    let ended = ap (λ (l : List View). sum_by (λ (z : View). z.ended) l) is in
    let sums_made = last-sum (λ (z : View). z.made) ws first in
    let sums_ended = last-sum (λ (z : View). z.ended) ws first in
    ⊎_elim
    (λ a. let i = k.joined (tally_of u) (m.joined u a) c hc in record { most = omega (arith, i.most, m.made, made, sums_made); least = omega (arith, i.least, m.ended, ended, sums_ended) })
    (λ b. ⊎_elim
    (λ e. let t : tally_of u ≡ tally_of v = ap tally_of e ∙ sym m.own in
    let i = k.own c (subst (λ (z : Tally). Member c z.counts) t hc) in
    let f = ap (λ (z : Tally). z.made) t in
    let g = ap (λ (z : Tally). z.ended) t in
    record { most = omega (arith, i.most, m.made, made, sums_made, f); least = omega (arith, i.least, m.ended, ended, sums_ended, g) })
    (λ z. absurd z) b)
    (member_split u ws (first ∷ []) (subst (λ (l : List View). Member u l) is h))

pub merged_taken : (first : View) (ws all : List View) (v : View) → IsMerged first ws v → all ≡ ws ++ first ∷ [] → IsKnown v → AreTakenByWorkers all
merged_taken first ws all v m is k u h n a =
    let full : Among n v.full =
    ⊎_elim (λ b. m.full u b n a) (λ b. ⊎_elim (λ e. m.full_own n (subst (λ (z : View). Among n z.full) e a)) (λ z. absurd z) b) (member_split u ws (first ∷ []) (subst (λ (l : List View). Member u l) is h)) in
    let back : (w : View) → Member w (ws ++ first ∷ []) → Member w all = (λ w q. subst (λ (l : List View). Member w l) (sym is) q) in
    ⊎_elim
    (λ b. (first, back first (member_back first ws (first ∷ []) (inl refl)), b))
    (λ b. (b.0, back b.0 (member_front b.0 ws (first ∷ []) b.1), b.2))
    (m.taken n (k.taken n full))

nothing_held : (ws : List View) → All (λ (v : View). v.holds ≡ []) ws → sum_by (λ (w : View). length w.holds) ws ≡ 0
nothing_held [] h = refl
nothing_held (w ∷ ws) h =
    let here = ap (λ (l : List Node). length l) (h 0 w (omega arith)) in
    let rest = nothing_held ws (λ k d l. h (suc k) d (omega (arith, l))) in
    omega (arith, here, rest, sum_by-append (λ (z : View). length z.holds) (w ∷ []) ws)

none_of : (hs : List Node) → length hs ≡ 0 → hs ≡ []
none_of [] e = refl
none_of (x ∷ xs) e = absurd (omega (arith, e))

each_nothing : (ws : List View) → sum_by (λ (w : View). length w.holds) ws ≡ 0 → All (λ (v : View). v.holds ≡ []) ws
each_nothing [] h k d l = absurd (omega (arith, l))
each_nothing (w ∷ ws) h zero d l = none_of w.holds (omega (arith, h, sum_by-append (λ (z : View). length z.holds) (w ∷ []) ws))
each_nothing (w ∷ ws) h (suc k) d l = each_nothing ws (omega (arith, h, sum_by-append (λ (z : View). length z.holds) (w ∷ []) ws)) k d (omega (arith, l))

-- the slots that the whole token's externals used are those of its workers'
module _ (first : View) (ws all : List View) (v : View) (m : IsMerged first ws v) (is : all ≡ ws ++ first ∷ []) where
  used_whole : (u : Use) → IsUsed all u → Member u v.used
  used_whole u h = ⊎_elim
      (λ b. m.used_in h.0 b u h.2)
      (λ b. ⊎_elim (λ e. m.used_own u (subst (λ (z : View). Member u z.used) e h.2)) (λ z. absurd z) b)
      (member_split h.0 ws (first ∷ []) (subst (λ (l : List View). Member h.0 l) is h.1))

  used_part : (u : Use) → Member u v.used → IsUsed all u
  used_part u h = subst (λ (l : List View). IsUsed l u) (sym is) (⊎_elim
      (λ b. (first, member_back first ws (first ∷ []) (inl refl), b))
      (λ b. (b.0, member_front b.0 ws (first ∷ []) b.1, b.2))
      (m.used_out u h))

  pub merged_boxes : (boxes back : List Handed) (n : ℕ) → AreReturned boxes (v ∷ []) n back → AreReturned boxes all n back
  merged_boxes boxes back n a =
      let one : (u : Use) → IsUsed all u → IsUsed (v ∷ []) u = (λ u h. (v, inl refl, used_whole u h)) in
      record {
        count = a.count;
        unused = λ j l none_. a.unused j l (λ u h. none_ u (used_part u (⊎_elim (λ e. subst (λ (z : View). Member u z.used) e h.2) (λ z. absurd z) h.1)));
        places = λ u h. a.places u (one u h);
        used = λ u h. a.used u (one u h);
        called = λ z u h. a.called z u (one u h);
      }

  pub merged_held : (size in_use : ℕ) → (v.passes ≡ 0 → made_by v ≡ ended_by v → in_use ≡ numbers_in size v.holds) → AreAllEnded all → in_use ≡ numbers_in size (all_holds all)
  merged_held size in_use held ended_ =
      let made = ap (λ (l : List View). sum_by (λ (z : View). z.made) l) is in
      let ended = ap (λ (l : List View). sum_by (λ (z : View). z.ended) l) is in
      held m.passes (omega (arith, m.made, m.ended, ended_, made, ended, last-sum (λ (z : View). z.made) ws first, last-sum (λ (z : View). z.ended) ws first))
      ∙ numbers_same size v.holds (all_holds all) (λ n. omega (arith, m.trees n, times_all n all, ap (λ (l : List View). sum_by (times_in n) l) is, last-sum (times_in n) ws first))

  pub merged_least : (size in_use : ℕ) → numbers_in size v.holds ≤ in_use → numbers_in size (all_holds all) ≤ in_use
  merged_least size in_use least =
      let same = numbers_same size v.holds (all_holds all) (λ n. omega (arith, m.trees n, times_all n all, ap (λ (l : List View). sum_by (times_in n) l) is, last-sum (times_in n) ws first)) in
      omega (arith, least, same)

  -- where the whole token holds nothing, no worker does
  pub merged_nothing : v.holds ≡ [] → All (λ (w : View). w.holds ≡ []) all
  merged_nothing none_ = each_nothing all (omega (
    arith,
    m.holds,
    ap (λ (l : List Node). length l) none_,
    ap (λ (l : List View). sum_by (λ (z : View). length z.holds) l) is,
    last-sum (λ (z : View). length z.holds) ws first,
  ))

pub known_at : {S : Type 0} (p : Terms S) (id : ℕ) (v : View) (ws : List ℕ) (xs : List S) → Final (Seen (Kept p) id v) ws xs → v.spare ≡ p.workers → IsKnown v
known_at p id v ws xs f all = known p f.0 id v f.1.0 f.1.1 all

pub merged_whole : (workers : ℕ) (first : View) (ws all : List View) (v : View) → IsMerged first ws v → all ≡ ws ++ first ∷ [] → length all ≡ workers → IsAllIdle all → IsWhole workers v
merged_whole workers first ws all v m is count idle =
    let none_held = nothing_held all idle.nothing in
    let holds = ap (λ (l : List View). sum_by (λ (z : View). length z.holds) l) is in
    let made = ap (λ (l : List View). sum_by (λ (z : View). z.made) l) is in
    let ended = ap (λ (l : List View). sum_by (λ (z : View). z.ended) l) is in
    record {
      spare = omega (arith, m.spare, count, ap (λ (l : List View). length l) is, length-append ws (first ∷ []));
      passes = m.passes;
      nothing = none_of v.holds (omega (arith, m.holds, none_held, holds, last-sum (λ (z : View). length z.holds) ws first));
      ended = omega (arith, m.made, m.ended, idle.ended, made, ended, last-sum (λ (z : View). z.made) ws first, last-sum (λ (z : View). z.ended) ws first);
    }

pub merge_at : {S : Type 0} (p : Terms S) (id other numbers most : ℕ) (first : View) (ws : List View) (v w x : View) → IsMerged first ws v → w ≡ x → IsWorkerView numbers most x → Joins {S = S} (Kept p) id v other w (merged v w) (blank 0 numbers most 0)
merge_at {S} p id other numbers most first ws v w x m same i =
    let mine : IsWorkerView numbers most w = subst (IsWorkerView numbers most) (sym same) i in
    subst (λ (z : View). Joins {S = S} (Kept p) id v other w (merged v w) z) (λ q. blank 0 (mine.size q) (mine.limit q) 0)
    (merges p id other v w (omega (arith, m.spare)) mine.away)

pub map-id : (vs : List View) → map (λ (v : View). v) vs ≡ vs
map-id [] = refl
map-id (v ∷ vs) = ap (λ (z : List View). v ∷ z) (map-id vs)
