-- Each kind of step keeps the words the counts of their holders.
use Rattle.std.proofs.Common.{◌≡◌, ℕ, ◌+◌, ◌-◌, ◌^◌, ◌<◌, ◌≤◌, ◌≢◌, inl, inr, ⊎_elim, eq-eqb, ne_eqb, List, [], ◌∷◌, ◌++◌, length, get_or, set, refl, sym, ◌∙◌, ap, subst, arith, append_assoc, append-nil, length-set, get_or-set_same, get_or-set_other}
use Rattle.std.specs.Prelude.{Option, Some, None, IsSome, option_to_list, if◌then◌else◌}
use mathlib.Core.Logic.{dite}
use native.Mathlib.Decide.{ℕ_discrete}
use Rattle.node_forest.specs.Forest.{children, nodes_of}
use Rattle.node_forest.specs.Label.{Node, number}
use Rattle.node_forest.specs.Members.{In, Occurs}
use Rattle.node_forest.specs.Counts.{is, times, first}
use Rattle.node_forest.proofs.Members.{root_occurs}
use Rattle.node_forest.proofs.Counts.{is_one, is_none, times_pos, times_some, first_cases, first_found}
use Rattle.count_core.specs.SoundBelow.{IsSoundBelow, Parts}
use Rattle.node_forest.specs.Changes.{site}
use Rattle.count_core.specs.Marks.{Change, FitsRoot, edited_holds, holds_of, edits}
use Rattle.count_core.specs.Views.{without, without_all, AreHeld, edges_of_one, passed_on, moving, staying}
use Rattle.count_core.specs.Steps.{State, Step, take, share, leave, look, mark, split, merge, counted, uncounted, home, word_at, holds_at, roots, CanTake, CanShare, CanLeave, CanMark, CanSplit, CanMerge, CanStep, after, changed, with_views}
use Rattle.count_core.specs.Worlds.{IsSound}
use Rattle.count_core.proofs.DifferentNumbers.{holders_below-holders}
use Rattle.count_core.proofs.Parts.{parts_last}
use Rattle.count_core.proofs.Counting.{stays, shares, takes, leaves_last, leaves_shared, has_holder}
use Rattle.node_forest.proofs.Shuffles.{Shuffled, shuffled_then, shuffled_append, shuffled_refl, shuffled_back, shuffled_swap, shuffled_between}
use Rattle.count_core.proofs.Edits.{shuffled_sound, shuffled_without, edits_sound}
use Rattle.count_core.proofs.Around.{around, seen_occurs, grows, shrinks, turns, parts_without, in_without, parts_join, parts_none, parts_moving}

-- ---- words
pub word_up : (ws : List ℕ) (t : Node) (j : ℕ) → number t < length ws → get_or (set ws (number t) (get_or ws (number t) 0 + 1)) j 0 ≡ get_or ws j 0 + is j t
word_up ws t j l =
    let m : ℕ = get_or ws (number t) 0 + 1 in
    dite (ℕ_discrete j (number t))
    (λ q. let one = is_one j t (sym q) in
    subst (λ (i : ℕ). get_or (set ws (number t) m) i 0 ≡ get_or ws i 0 + is j t) (sym q) (let a = get_or-set_same ws (number t) m 0 l in omega arith))
    (λ ne. let z = is_none j t (λ q. ne (sym q)) in let ne' : j ≢ number t = ne in let a = get_or-set_other ws (number t) j m 0 ne' in omega arith)

pub word_down : (ws : List ℕ) (t : Node) (j : ℕ) → number t < length ws → 1 ≤ get_or ws (number t) 0 → get_or (set ws (number t) (get_or ws (number t) 0 - 1)) j 0 + is j t ≡ get_or ws j 0
word_down ws t j l some =
    let m : ℕ = get_or ws (number t) 0 - 1 in
    dite (ℕ_discrete j (number t))
    (λ q. let one = is_one j t (sym q) in
    subst (λ (i : ℕ). get_or (set ws (number t) m) i 0 + is j t ≡ get_or ws i 0) (sym q) (let a = get_or-set_same ws (number t) m 0 l in omega arith))
    (λ ne. let z = is_none j t (λ q. ne (sym q)) in let ne' : j ≢ number t = ne in let a = get_or-set_other ws (number t) j m 0 ne' in omega arith)

pub word_bound : (ws : List ℕ) (n m : ℕ) → n < length ws → m ≤ 2 ^ 32 → ((j : ℕ) → get_or ws j 0 ≤ 2 ^ 32) → (j : ℕ) → get_or (set ws n m) j 0 ≤ 2 ^ 32
word_bound ws n m l low all j =
    dite (ℕ_discrete j n)
    (λ q. subst (λ (i : ℕ). get_or (set ws n m) i 0 ≤ 2 ^ 32) (sym q) (let a = get_or-set_same ws n m 0 l in omega arith))
    (λ ne. let ne' : j ≢ n = ne in let a = get_or-set_other ws n j m 0 ne' in let b = all j in omega arith)

-- ---- from a world to the form of the proofs, and back
pub sound_of : (w : State) → IsSound w → IsSoundBelow (length w.words) (word_at w) (roots w.views)
sound_of w s = record {
  agreed = s.agreed;
  counted = λ n l. s.counted n l ∙ sym (holders_below-holders (length w.words) (roots w.views) n s.fitting);
  fitting = s.fitting;
}

pub world_of : (x : State) (k : ℕ) → length x.words ≡ k → IsSoundBelow k (word_at x) (roots x.views) → ((n : ℕ) → word_at x n ≤ 2 ^ 32) → x.live ≤ 2 ^ 32 → IsSound x
world_of x k e s words live = record {
  agreed = s.agreed;
  counted = λ n l. s.counted n (omega arith) ∙ holders_below-holders k (roots x.views) n s.fitting;
  fitting = λ t o. subst (λ (z : ℕ). number t < z) (sym e) (s.fitting t o);
  words = words;
  live = live;
}

pub some_of : (o : Option Node) → IsSome o → (t : Node) × (o ≡ Some t)
some_of None h = absurd (cc)
some_of (Some t) h = (t, refl)

-- ---- holds that become the children of a node

pub parts_held : (cs hs : List Node) → AreHeld cs hs → ((u x : Node) → In u hs → In x hs → number u ≡ number x → u ≡ x) → Parts hs cs (without_all cs hs)
parts_held [] hs held same = parts_none hs
parts_held (c ∷ cs) hs held same =
    parts_join hs (c ∷ []) cs (without_all cs rest) rest out (parts_held cs rest later (λ u x i j. same u x (in_without (number c) u hs i) (in_without (number c) x hs j)))
  where
    rest : List Node
    rest = without (number c) hs

    there : (d : Node) → In d (c ∷ cs) → In d hs
    there d i = (first_found (number d) d hs (held d i).is_first).0

    out : Parts hs (c ∷ []) (without (number c) hs)
    out = parts_without c hs (there c (inl refl)) (λ u i e. same u c i (there c (inl refl)) e)

    later : AreHeld cs (without (number c) hs)
    later d i =
        let n : ℕ = number d in
        let all = (held d (inr i)).enough in
        let count = out.count n in
        let enough : times n cs ≤ times n (without (number c) hs) = omega arith in
        let one = times_pos n d cs i refl in
        let found = times_some n (without (number c) hs) (omega arith) in
        record {
          is_first = ⊎_elim
              (λ l. absurd (l.1 found.0 found.1 found.2))
              (λ r. r.1 ∙ ap (λ (z : Node). Some z) (same r.0 d (in_without (number c) r.0 hs r.2) (there d (inr i)) r.3))
              (first_cases n (without (number c) hs));
          enough = enough;
        }

-- the same holds in parts, in another order
pub same_parts : (size : ℕ) (word : ℕ → ℕ) (a b c k : List Node) → IsSoundBelow size word a → Parts a c k → Parts b c k → IsSoundBelow size word b
same_parts size word a b c k s p q =
    stays size word word a b s
    (λ x h. ⊎_elim (λ l. p.left x l) (λ r. p.right x r) (q.out x h))
    (λ x h. ⊎_elim (λ l. q.left x l) (λ r. q.right x r) (p.out x h))
    (λ n l. let e = p.count n in let f = q.count n in omega arith)

pub roots_last : (views : List (List Node)) (hs : List Node) → roots (views ++ hs ∷ []) ≡ roots views ++ hs
roots_last [] hs = append-nil hs
roots_last (v ∷ vs) hs = ap (λ (ts : List Node). v ++ ts) (roots_last vs hs) ∙ sym (append_assoc v (roots vs) hs)

module _ (w : State) (s : IsSound w) where
  -- what is held in one view is one node for each number
  same_held : (v : ℕ) → v < length w.views → (u x : Node) → In u (holds_at w v) → In x (holds_at w v) → number u ≡ number x → u ≡ x
  same_held v l u x i j e = s.agreed u x (seen_occurs w.views v u l (root_occurs u (holds_at w v) i)) (seen_occurs w.views v x l (root_occurs x (holds_at w v) j)) e

  keeps_take : (v n : ℕ) (t : Node) → CanTake w v n t → IsSound (after (take v n t) w)
  keeps_take v n t can =
      let hs = holds_at w v in
      let kept = without_all (children t) hs in
      let low : number t < length w.words = (let e = can.root in let p = can.place in omega arith) in
      let free : word_at w (number t) ≡ 0 = ap (word_at w) can.root ∙ can.free in
      let moved : changed w (number t) (word_at w (number t) + 1) v (kept ++ t ∷ []) ≡ after (take v n t) w = (λ i. changed w (can.root i) (word_at w (can.root i) + 1) v (kept ++ t ∷ [])) in
      subst IsSound moved
      (world_of (changed w (number t) (word_at w (number t) + 1) v (kept ++ t ∷ [])) (length w.words) (length-set w.words (number t) (word_at w (number t) + 1))
      (takes (length w.words) (word_at w) (word_at (changed w (number t) (word_at w (number t) + 1) v (kept ++ t ∷ []))) t (roots w.views) (roots (set w.views v (kept ++ t ∷ []))) (roots (set w.views v kept)) (sound_of w s)
      (shrinks w.views v kept (children t) can.view (parts_held (children t) hs can.edges (same_held v can.view)))
      (turns w.views v (kept ++ t ∷ []) kept (t ∷ []) can.view (parts_last kept (t ∷ [])))
      low free (λ j _. word_up w.words t j low))
      (word_bound w.words (number t) (word_at w (number t) + 1) low (omega arith) s.words) s.live)

  keeps_share : (v n : ℕ) → CanShare w v n → IsSound (after (share v n) w)
  keeps_share v n can =
      let hs = holds_at w v in
      let found = some_of (first n (nodes_of hs)) can.seen in
      let t = found.0 in
      let at = first_found n t (nodes_of hs) found.1 in
      let low : number t < length w.words = (let e = at.1 in let p = can.place in omega arith) in
      let room : word_at w (number t) + 1 ≤ 2 ^ 32 = (let e = ap (word_at w) at.1 in let r = can.room in omega arith) in
      let moved : changed w (number t) (word_at w (number t) + 1) v (hs ++ t ∷ []) ≡ after (share v n) w =
      (λ i. changed w (at.1 i) (word_at w (at.1 i) + 1) v (hs ++ option_to_list (sym found.1 i))) in
      subst IsSound moved
      (world_of (changed w (number t) (word_at w (number t) + 1) v (hs ++ t ∷ [])) (length w.words) (length-set w.words (number t) (word_at w (number t) + 1))
      (shares (length w.words) (word_at w) (word_at (changed w (number t) (word_at w (number t) + 1) v (hs ++ t ∷ []))) (roots w.views) (roots (set w.views v (hs ++ t ∷ []))) t (sound_of w s)
      (seen_occurs w.views v t can.view at.0)
      (grows w.views v (hs ++ t ∷ []) (t ∷ []) can.view (parts_last hs (t ∷ [])))
      (λ j _. word_up w.words t j low))
      (word_bound w.words (number t) (word_at w (number t) + 1) low room s.words) s.live)

  keeps_leave : (v n : ℕ) → CanLeave w v n → IsSound (after (leave v n) w)
  keeps_leave v n can =
      let hs = holds_at w v in
      let k = length w.words in
      let found = some_of (first n hs) can.held in
      let t = found.0 in
      let at = first_found n t hs found.1 in
      let low : number t < k = (let e = at.1 in let p = can.place in omega arith) in
      let held : Occurs t (roots w.views) = seen_occurs w.views v t can.view (root_occurs t hs at.0) in
      let sound = sound_of w s in
      let some : 1 ≤ word_at w (number t) = (let h = has_holder k t (roots w.views) s.agreed s.fitting held in let c = sound.counted (number t) low in omega arith) in
      let kept = without (number t) hs in
      let parts : Parts hs (t ∷ []) kept = parts_without t hs at.0 (λ u i e. same_held v can.view u t i at.0 e) in
      let shrunk : Parts (roots w.views) (t ∷ []) (roots (set w.views v kept)) = shrinks w.views v kept (t ∷ []) can.view parts in
      let m : ℕ = word_at w (number t) - 1 in
      let bound = word_bound w.words (number t) m low (let b = s.words (number t) in omega arith) s.words in
      let word' : ℕ → ℕ = λ j. get_or (set w.words (number t) m) j 0 in
      let words : (j : ℕ) → j < k → word' j + is j t ≡ word_at w j = λ j _. word_down w.words t j low some in
      let moved : (more : List Node) → more ≡ passed_on (word_at w n) (first n hs) → changed w (number t) m v (kept ++ more) ≡ after (leave v n) w =
      λ more e i. changed w (at.1 i) (word_at w (at.1 i) - 1) v (without (at.1 i) hs ++ e i) in
      let word_is : word_at w (number t) ≡ word_at w n = ap (word_at w) at.1 in
      dite (ℕ_discrete (word_at w n) 1)
      (λ one.
      let more : children t ≡ passed_on (word_at w n) (first n hs) = (λ i. if sym (eq-eqb (word_at w n) 1 one) i then edges_of_one (sym found.1 i) else []) in
      subst IsSound (moved (children t) more)
      (world_of (changed w (number t) m v (kept ++ children t)) k (length-set w.words (number t) m)
      (leaves_last k (word_at w) word' t (roots w.views) (roots (set w.views v (kept ++ children t))) (roots (set w.views v kept)) sound shrunk
      (turns w.views v (kept ++ children t) kept (children t) can.view (parts_last kept (children t))) (word_is ∙ one) words)
      bound s.live))
      (λ many.
      let many' : word_at w n ≢ 1 = many in
      let none : [] ≡ passed_on (word_at w n) (first n hs) = (λ i. if sym (ne_eqb (word_at w n) 1 many) i then edges_of_one (first n hs) else []) in
      subst IsSound (moved [] none)
      (world_of (changed w (number t) m v (kept ++ [])) k (length-set w.words (number t) m)
      (subst (λ (z : List Node). IsSoundBelow k word' (roots (set w.views v z))) (sym (append-nil kept))
      (leaves_shared k (word_at w) word' t (roots w.views) (roots (set w.views v kept)) sound shrunk (omega arith) words))
      bound s.live))

  keeps_mark : (v n : ℕ) (path : List ℕ) (changes : List (ℕ × Change)) → CanMark w v n path changes → IsSound (after (mark v n path changes) w)
  keeps_mark v n path changes can = found (first n (holds_at w v)) refl can.fits
    where
      found : (o : Option Node) → first n (holds_at w v) ≡ o → FitsRoot (word_at w) o path changes (without n (holds_at w v)) → IsSound (after (mark v n path changes) w)
      found None e fits = absurd fits
      found (Some t) e fits =
          let hs = holds_at w v in
          let kept = without n hs in
          let a = around w.views v can.view in
          let rest = a.before ++ a.after in
          let end = edits changes (site t path kept) in
          let out : Shuffled hs (t ∷ kept) = shuffled_without n hs t e in
          let first_ : IsSoundBelow (length w.words) (word_at w) (t ∷ (kept ++ rest)) = shuffled_sound (length w.words) (word_at w) (roots w.views) (t ∷ (kept ++ rest))
          (shuffled_then (roots w.views) (hs ++ rest) (t ∷ (kept ++ rest)) (subst (λ (z : List Node). Shuffled z (hs ++ rest)) (sym a.now) (shuffled_between a.before hs a.after))
          (shuffled_append hs (t ∷ kept) rest rest out (shuffled_refl rest))) (sound_of w s) in
          let last = edits_sound (length w.words) changes (site t path kept) rest (word_at w) first_ fits.0 fits.1 in
          let moved : set w.views v (holds_of end) ≡ (after (mark v n path changes) w).views = (λ i. set w.views v (edited_holds (sym e i) path changes kept)) in
          subst (λ (z : List (List Node)). IsSound (with_views w z)) moved
          (world_of (with_views w (set w.views v (holds_of end))) (length w.words) refl
          (shuffled_sound (length w.words) (word_at w) (end.tree ∷ (end.out ++ rest)) (roots (set w.views v (holds_of end)))
          (shuffled_then (end.tree ∷ (end.out ++ rest)) (holds_of end ++ rest) (roots (set w.views v (holds_of end)))
          (shuffled_append (end.tree ∷ end.out) (holds_of end) rest rest (shuffled_swap (end.tree ∷ []) end.out) (shuffled_refl rest))
          (subst (λ (z : List Node). Shuffled (holds_of end ++ rest) z) (sym (a.then (holds_of end))) (shuffled_back (a.before ++ (holds_of end ++ a.after)) (holds_of end ++ rest) (shuffled_between a.before (holds_of end) a.after))))
          last)
          s.words s.live)

  keeps_split : (v : ℕ) (places : List ℕ) → CanSplit w v places → IsSound (after (split v places) w)
  keeps_split v places can =
      let hs = holds_at w v in
      let stay = staying places 0 hs in
      let move = moving places 0 hs in
      world_of (after (split v places) w) (length w.words) refl
      (same_parts (length w.words) (word_at w) (roots w.views) (roots (set w.views v stay ++ move ∷ [])) move (roots (set w.views v stay)) (sound_of w s)
      (shrinks w.views v stay move can.view (parts_moving places 0 hs))
      (subst (λ (z : List Node). Parts z move (roots (set w.views v stay))) (sym (roots_last (set w.views v stay) move)) (parts_last (roots (set w.views v stay)) move)))
      s.words s.live

  keeps_merge : (v other : ℕ) → CanMerge w v other → IsSound (after (merge v other) w)
  keeps_merge v other can =
      let mine = holds_at w v in
      let theirs = holds_at w other in
      let left = set w.views other [] in
      let same : get_or left v [] ≡ mine = get_or-set_other w.views other v [] [] can.different in
      let wide : v < length left = (let e = length-set w.views other [] in let l = can.view in omega arith) in
      let alone : Parts theirs theirs [] = record { count = λ n. omega arith; out = λ x h. inl h; left = λ x h. h; right = λ x h. absurd h } in
      world_of (after (merge v other) w) (length w.words) refl
      (same_parts (length w.words) (word_at w) (roots w.views) (roots (set left v (mine ++ theirs))) theirs (roots left) (sound_of w s)
      (shrinks w.views other [] theirs can.second alone)
      (grows left v (mine ++ theirs) theirs wide (subst (λ (z : List Node). Parts (mine ++ theirs) theirs z) (sym same) (parts_last mine theirs))))
      s.words s.live

  keeps_live : (live : ℕ) → live ≤ 2 ^ 32 → IsSound (record { words = w.words; live = live; views = w.views })
  keeps_live live l = record { agreed = s.agreed; counted = s.counted; fitting = s.fitting; words = s.words; live = l }

-- every step that is possible
pub step_sound : (x : Step) (w : State) → IsSound w → CanStep x w → IsSound (after x w)
step_sound (take v n t) w s can = keeps_take w s v n t can
step_sound (share v n) w s can = keeps_share w s v n can
step_sound (leave v n) w s can = keeps_leave w s v n can
step_sound (look v n) w s can = s
step_sound (mark v n path changes) w s can = keeps_mark w s v n path changes can
step_sound (split v places) w s can = keeps_split w s v places can
step_sound (merge v other) w s can = keeps_merge w s v other can
step_sound (counted v) w s can = keeps_live w s (w.live + 1) (let l = can.1 in omega arith)
step_sound (uncounted v) w s can = keeps_live w s (w.live - 1) (let l = s.live in omega arith)
step_sound (home v) w s can = s
