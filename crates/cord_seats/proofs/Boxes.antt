-- What becomes of the boxes, by the slots that the workers used.
use Rattle.std.proofs.Common.{◌≡◌, ◌≢◌, ◌⊎◌, ◌∙◌, sym, ap, refl, subst, inl, inr, ⊎_elim, arith}
use Rattle.std.proofs.Common.{ℕ, zero, suc, ◌+◌, ◌*◌, ◌<◌, ◌≤◌, List, [], ◌∷◌, ◌++◌, length, map, get_or, Option, Some}
use Rattle.std.specs.Prelude.{slice_get, option_map}
use Rattle.std.proofs.lemmas.List.{length-map}
use Rattle.std.proofs.lemmas.Option.{slice_get_past, slice_get-get_or, slice_get-map}
use mathlib.Core.Logic.{dite}
use native.Mathlib.Decide.{dec_lt, ℕ_discrete}
use Rattle.plain_cord.specs.declared.script.Session.{Session}
use Rattle.pool_rule.specs.Notes.{Use}
use Rattle.pool_rule.specs.Pools.{Handed, Member}
use Rattle.pool_rule.specs.Views.{View, blank}
use Rattle.node_pool.specs.Closes.{IsUsed, AreReturned, box_at, released}
use Rattle.cord_commands.specs.declared.answer.Answer.{Answer}
use Rattle.cord_commands.specs.Slots.{slots_in, lengths_in}
use Rattle.cord_seats.specs.Boxes.{called_for, AreCalled, AreBack}
use Rattle.cord_seats.specs.Chairs.{own_slots}
use Rattle.cord_seats.specs.Told.{externals_by, all_externals}
use Rattle.cord_seats.proofs.Places.{used-at}

-- ---- members by their places
module _ {A : Type 0} where
  pub place-of : (x : A) (xs : List A) (d : A) → Member x xs → (k : ℕ) × (k < length xs) × (get_or xs k d ≡ x)
  place-of x [] d m = absurd m
  place-of x (y ∷ xs) d (inl e) = (0, omega arith, sym e)
  place-of x (y ∷ xs) d (inr m) = let t = place-of x xs d m in let l = t.1 in (suc t.0, omega arith, t.2)

  pub member-at : (xs : List A) (k : ℕ) (d : A) → k < length xs → Member (get_or xs k d) xs
  member-at [] k d low = absurd (omega arith)
  member-at (x ∷ xs) zero d low = inl refl
  member-at (x ∷ xs) (suc k) d low = inr (member-at xs k d (omega arith))

  member-left : (x : A) (xs ys : List A) → Member x xs → Member x (xs ++ ys)
  member-left x [] ys m = absurd m
  member-left x (y ∷ xs) ys (inl e) = inl e
  member-left x (y ∷ xs) ys (inr m) = inr (member-left x xs ys m)

  member-last : (x y : A) (xs : List A) → Member x (xs ++ y ∷ []) → Member x xs ⊎ (x ≡ y)
  member-last x y [] (inl e) = inr e
  member-last x y [] (inr m) = absurd m
  member-last x y (z ∷ xs) (inl e) = inl (inl e)
  member-last x y (z ∷ xs) (inr m) = ⊎_elim (λ (t : Member x xs). inl (inr t)) (λ (t : x ≡ y). inr t) (member-last x y xs m)

-- ---- whether a slot was used
abbrev UsedIn : List Use → ℕ → Type 0
UsedIn us j = (u : Use) × Member u us × (u.slot ≡ j)

abbrev Used : List View → ℕ → Type 0
Used ws j = (u : Use) × IsUsed ws u × (u.slot ≡ j)

used-in : (us : List Use) (j : ℕ) → UsedIn us j ⊎ ((u : Use) → Member u us → u.slot ≢ j)
used-in [] j = inr (λ u m. absurd m)
used-in (x ∷ us) j = dite (ℕ_discrete x.slot j)
    (λ e. inl (x, inl refl, e))
    (λ ne. ⊎_elim
    (λ (t : UsedIn us j). inl (t.0, inr t.1, t.2))
    (λ (t : (u : Use) → Member u us → u.slot ≢ j). inr (λ u m. ⊎_elim (λ (e : u ≡ x). subst (λ (z : Use). z.slot ≢ j) (sym e) ne) (λ (n : Member u us). t u n) m))
    (used-in us j))

used : (ws : List View) (j : ℕ) → Used ws j ⊎ ((u : Use) → IsUsed ws u → u.slot ≢ j)
used [] j = inr (λ u m. absurd m.1)
used (w ∷ ws) j = ⊎_elim
    (λ (t : UsedIn w.used j). inl (t.0, (w, inl refl, t.1), t.2))
    (λ (f : (u : Use) → Member u w.used → u.slot ≢ j). ⊎_elim
    (λ (t : Used ws j). inl (t.0, (t.1.0, inr t.1.1, t.1.2), t.2))
    (λ (g : (u : Use) → IsUsed ws u → u.slot ≢ j). inr (λ u m. ⊎_elim
    (λ (e : m.0 ≡ w). f u (subst (λ (z : View). Member u z.used) e m.2))
    (λ (n : Member m.0 ws). g u (m.0, n, m.2))
    m.1))
    (used ws j))
    (used-in w.used j)

-- ---- the boxes are back
abbrev AtMost : List Handed → List Handed → ℕ → Type 0
AtMost before after j = (box_at after j ≡ box_at before j) ⊎ ((n : ℕ) × (box_at after j ≡ released n (box_at before j)))

pub returned-back : (before : List Handed) (ws : List View) (in_use : ℕ) (after : List Handed) → AreReturned before ws in_use after → AreBack before after
returned-back before ws in_use after r = record {
  count = r.count;
  each = λ j low. ⊎_elim
      (λ (t : Used ws j). subst (λ (z : ℕ). AtMost before after z) t.2 (⊎_elim
      (λ (e : box_at after t.0.slot ≡ box_at before t.0.slot). inl e)
      (λ (e : box_at after t.0.slot ≡ released t.0.length (box_at before t.0.slot)). inr (t.0.length, e))
      (r.used t.0 t.1)))
      (λ (f : (u : Use) → IsUsed ws u → u.slot ≢ j). inl (r.unused j low f))
      (used ws j);
}

pub same-back : (before after : List Handed) → after ≡ before → AreBack before after
same-back before after e = record {
  count = ap length e;
  each = λ j low. inl (ap (λ (z : List Handed). box_at z j) e);
}

-- ---- each is called for its external
module _ (slots n : ℕ) (ws : List View) (own : View) (made : List (List ℕ)) (before after : List Handed) (len : length ws ≡ n)
    (idle : own.used ≡ []) (kept : (p : ℕ) (w : View) → p < n → slots_in (get_or ws p w) ≡ own_slots slots p)
    (lengths : (p : ℕ) (w : View) → p < n → lengths_in (get_or ws p w) ≡ get_or made p [])
    (past : (p : ℕ) → n ≤ p → get_or made p [] ≡ []) where
  abbrev nobody : View
  nobody = blank 0 0 0 0

  abbrev nothing : Use
  nothing = record { slot = 0; number = 0; length = 0 }

  abbrev uses_at : ℕ → List Use
  uses_at p = (get_or ws p nobody).used

  -- it is so in one of the sessions, at a place
  abbrev UsedAt : Use → Type 0
  UsedAt u = (q : ℕ) × (q < n) × (k : ℕ) × (k < length (uses_at q)) × (get_or (uses_at q) k nothing ≡ u)

  used-by : (u : Use) → IsUsed (ws ++ own ∷ []) u → UsedAt u
  used-by u m = ⊎_elim
      (λ (t : Member m.0 ws).
      let at = place-of m.0 ws nobody t in
      let low = at.1 in
      let in_it = place-of u (uses_at at.0) nothing (subst (λ (z : View). Member u z.used) (sym at.2) m.2) in
      (at.0, omega arith, in_it.0, in_it.1, in_it.2))
      (λ (e : m.0 ≡ own). absurd (subst (λ (z : List Use). Member u z) (ap (λ (z : View). z.used) e ∙ idle) m.2))
      (member-last m.0 own ws m.1)

  -- no external used a slot behind the last used one of its session
  none-behind : (p i : ℕ) → i < 16 → (p < n → length (uses_at p) ≤ i) → (u : Use) → IsUsed (ws ++ own ∷ []) u → u.slot ≢ p * 16 + i
  none-behind p i short few u m e =
      let t = used-by u m in
      let at = used-at slots t.0 (get_or ws t.0 nobody) (kept t.0 nobody t.1) t.2 nothing t.3 in
      let there : u.slot ≡ t.0 * 16 + t.2 = ap (λ (z : Use). z.slot) (sym t.4) ∙ at.0 in
      let low = at.1 in
      let same : t.0 ≡ p = omega arith in
      let place : t.2 ≡ i = omega arith in
      let inside : i < length (uses_at p) = subst (λ (z : ℕ × ℕ). z.1 < length (uses_at z.0)) (λ j. (same j, place j)) t.3 in
      let least = few (subst (λ (z : ℕ). z < n) same t.1) in
      omega arith

  module _ (returned : AreReturned before (ws ++ own ∷ []) 0 after) where
    abbrev CalledAt : ℕ → ℕ → Type 0
    CalledAt p i = box_at after (p * 16 + i) ≡ called_for (slice_get (get_or made p []) i) (box_at before (p * 16 + i))

    behind : (p i : ℕ) → i < 16 → p * 16 + i < length before → (p < n → length (uses_at p) ≤ i) → length (get_or made p []) ≤ i → CalledAt p i
    behind p i short inside few none = returned.unused (p * 16 + i) inside (none-behind p i short few)
        ∙ ap (λ (z : Option ℕ). called_for z (box_at before (p * 16 + i))) (sym (slice_get_past (get_or made p []) i none))

    made_length : (p : ℕ) → p < n → length (get_or made p []) ≡ length (uses_at p)
    made_length p low = ap length (sym (lengths p nobody low)) ∙ length-map (uses_at p) (λ (u : Use). u.length)

    used_box : (p i : ℕ) → p < n → i < length (uses_at p) → CalledAt p i
    used_box p i low inside =
        let u : Use = get_or (uses_at p) i nothing in
        let is : IsUsed (ws ++ own ∷ []) u = (get_or ws p nobody, member-left (get_or ws p nobody) ws (own ∷ []) (member-at ws p nobody (omega arith)), member-at (uses_at p) i nothing inside) in
        let slot = (used-at slots p (get_or ws p nobody) (kept p nobody low) i nothing inside).0 in
        let length_at : slice_get (get_or made p []) i ≡ Some u.length = ap (λ (z : List ℕ). slice_get z i) (sym (lengths p nobody low))
        ∙ (slice_get-map (λ (u : Use). u.length) (uses_at p) i ∙ ap (option_map (λ (u : Use). u.length)) (slice_get-get_or (uses_at p) i nothing inside)) in
        subst (λ (j : ℕ). box_at after j ≡ released u.length (box_at before j)) slot (returned.called refl u is)
        ∙ ap (λ (z : Option ℕ). called_for z (box_at before (p * 16 + i))) (sym length_at)

    pub are-called : AreCalled made before after
    are-called = record {
      count = returned.count;
      each = λ p i short inside. dite (dec_lt p n)
          (λ low. dite (dec_lt i (length (uses_at p)))
          (λ there. used_box p i low there)
          (λ not. let m = made_length p low in behind p i short inside (λ l. omega arith) (omega arith)))
          (λ not. let m = ap length (past p (omega arith)) in behind p i short inside (λ l. absurd (not l)) (omega arith));
    }

-- ---- the externals of each session
module _ {A : Type 0} (items : A → List Answer) where
  pub externals-at : (sessions : List Session) (all : List A) → length all ≡ length sessions → (p : ℕ) (s : Session) (a : A) → p < length sessions
      → get_or (all_externals sessions (map items all)) p [] ≡ externals_by (get_or sessions p s).commands (items (get_or all p a))
  externals-at [] all same p s a low = absurd (omega arith)
  externals-at (t ∷ sessions) [] same p s a low = absurd (omega arith)
  externals-at (t ∷ sessions) (b ∷ all) same zero s a low = refl
  externals-at (t ∷ sessions) (b ∷ all) same (suc p) s a low = externals-at sessions all (omega arith) p s a (omega arith)

  pub externals-past : (sessions : List Session) (all : List A) (p : ℕ) → length sessions ≤ p → get_or (all_externals sessions (map items all)) p [] ≡ []
  externals-past [] all p high = refl
  externals-past (t ∷ sessions) [] p high = refl
  externals-past (t ∷ sessions) (b ∷ all) zero high = absurd (omega arith)
  externals-past (t ∷ sessions) (b ∷ all) (suc p) high = externals-past sessions all p (omega arith)
