-- Each step of a desk keeps its rule.
use Rattle.std.proofs.Common.{◌≡◌, ◌≢◌, ℕ, zero, suc, ◌<◌, eqb, cond, List, [], ◌∷◌, ◌++◌, map, length, get_or, set, sym, refl, ap, ◌∙◌, subst, ⊎_elim, arith, eq-eqb, ne_eqb, Option, Some, None}
use Rattle.std.proofs.lemmas.List.{length-map}
use mathlib.Core.Logic.{dite}
use mathlib.Core.Option.{none, some, some-injective}
use mathlib.Core.List.{map-append}
use native.Mathlib.Decide.{ℕ_discrete}
use lib.ListN.{get_elem?}
use lib.Seq.{map-set, set-get_or}
use prog.Atomic.{either}
use Rattle.atomic_table.specs.Table.{State, Me, step, Act, keeps, takes, gives, Valid, stepped, carried_after, Allows, Splits, Joins}
use Rattle.atomic_table.proofs.Lists.{at_set, set_again, set_here, set_else, at_snoc, at_longer, at_map}
use Rattle.turn_desk.specs.declared.knowledge.Knowledge.{Knowledge}
use Rattle.turn_desk.specs.declared.knowledge.Held.{Held}
use Rattle.turn_desk.specs.declared.knowledge.Held.TheVariants.{Nothing, Turn, Gone}
use Rattle.turn_desk.specs.declared.knowledge.Past.TheVariants.{Fresh, Cut, Joined}
use Rattle.turn_desk.specs.Spots.{Spot, home, out}
use Rattle.turn_desk.specs.Agreements.{Agreed}
use Rattle.turn_desk.specs.Steps.{entered, left, recalled}
use Rattle.turn_desk.specs.Table.{knowledge_of, idle, seen, seen_as, word_of, slot_of, Holds, Kept, Was}

pub there : {A : Type 0} (xs : List A) (i : ℕ) → i < length xs → (a : A) × (get_elem? xs i ≡ some a)
there [] i h = absurd (omega arith)
there (x ∷ xs) zero h = (x, refl)
there (x ∷ xs) (suc i) h = there xs i (omega arith)

pub some_inside : {A : Type 0} (xs : List A) (i : ℕ) (a : A) → get_elem? xs i ≡ some a → i < length xs
some_inside [] i a e = absurd (cc)
some_inside (x ∷ xs) zero a e = omega arith
some_inside (x ∷ xs) (suc i) a e = let h = some_inside xs i a e in omega arith

pub at_get : (xs : List ℕ) (i a : ℕ) → get_elem? xs i ≡ some a → get_or xs i 0 ≡ a
at_get [] i a e = absurd (cc)
at_get (x ∷ xs) zero a e = cc
at_get (x ∷ xs) (suc i) a e = at_get xs i a e

module _ {X : Type 0} where
  home_out : (x y : X) → home x ≡ out y → ⊥
  home_out x y e = cc

  out_out : (x y : X) → out x ≡ out y → x ≡ y
  out_out x y e = cc

  pub free_turn : (h : Held X) (l : ℕ) (x : X) → h ≡ Nothing → h ≡ Turn l x → ⊥
  free_turn h l x e f = cc

  turn_place : (h : Held X) (l k : ℕ) (x y : X) → h ≡ Turn l x → h ≡ Turn k y → k ≡ l
  turn_place h l k x y e f = cc

  value_in : X → List (ℕ × Option X) → X
  value_in d [] = d
  value_in d ((l, Some x) ∷ cs) = x
  value_in d ((l, None) ∷ cs) = d

  one_slot : (l k : ℕ) (x y : X) → ◌≡◌ {A = List (ℕ × Option X)} ((l, Some x) ∷ []) ((k, Some y) ∷ []) → x ≡ y
  unfolding value_in
  one_slot l k x y e = ap (value_in x) e

module _ {X V : Type 0} (agrees : List (Spot X) → List (Option V) → Type 0) where
  abbrev D : Type 0
  D = Knowledge X V

  abbrev S : Type 0
  S = State (Option X) D

  abbrev M : Type 0
  M = Me (Option X) D

  abbrev pub Taking : Type 0
  Taking = (spots : List (Spot X)) (views : List (Option V)) (l : ℕ) (x : X) → agrees spots views → get_elem? spots l ≡ some (home x) → agrees (set spots l (out x)) views

  abbrev pub Leaving : (ℕ → X → X → V → V → Type 0) → Type 0
  Leaving leaves = (spots : List (Spot X)) (views : List (Option V)) (l by : ℕ) (x y : X) (v w : V) → agrees spots views → get_elem? spots l ≡ some (out x) → get_elem? views by ≡ some (Some v) → leaves l x y v w
      → agrees (set spots l (home y)) (set views by (Some w))

  -- what the seats say, after one seat's change
  each_set : (spots spots' : List (Spot X)) (owner owner' : ℕ → ℕ) (vs : List D) (me : ℕ) (w : D) → Holds spots' owner' me w.held
      → ((j : ℕ) (h : Held X) → j ≢ me → Holds spots owner j h → Holds spots' owner' j h)
      → ((j : ℕ) (d : D) → get_elem? vs j ≡ some d → Holds spots owner j d.held)
      → (j : ℕ) (d : D) → get_elem? (set vs me w) j ≡ some d → Holds spots' owner' j d.held
  each_set spots spots' owner owner' vs me w mine others each j d e = ⊎_elim
      (λ (t : (j ≡ me) × (w ≡ d)). subst (λ (z : ℕ × D). Holds spots' owner' z.0 z.1.held) (λ i. (sym t.0 i, t.1 i)) mine)
      (λ (t : (j ≢ me) × (get_elem? vs j ≡ some d)). others j d.held t.0 (each j d t.1))
      (at_set vs me j w d e)

  -- who has a turn has it still, after one seat's change that gives up none
  stays : (vs : List D) (id : ℕ) (v w : D) → get_elem? vs id ≡ some v → (l : ℕ) (x : X) → (v.held ≡ Turn l x → w.held ≡ Turn l x) → (by : ℕ) × (d : D) × (get_elem? vs by ≡ some d) × (d.held ≡ Turn l x)
      → (by : ℕ) × (d : D) × (get_elem? (set vs id w) by ≡ some d) × (d.held ≡ Turn l x)
  stays vs id v w at l x keep h = dite (ℕ_discrete h.0 id)
      (λ same. let is : h.1 ≡ v = some-injective h.1 v (sym h.2 ∙ (ap (get_elem? vs) same ∙ at)) in (id, w, set_here vs id w (some_inside vs id v at), keep (ap (λ (z : D). z.held) (sym is) ∙ h.3)))
      (λ apart. (h.0, h.1, set_else vs id h.0 w apart ∙ h.2, h.3))

  past_set : (vs : List D) (me : ℕ) (w : D) → Was agrees w.past → ((j : ℕ) (d : D) → get_elem? vs j ≡ some d → Was agrees d.past) → (j : ℕ) (d : D) → get_elem? (set vs me w) j ≡ some d → Was agrees d.past
  past_set vs me w mine each j d e = ⊎_elim
      (λ (t : (j ≡ me) × (w ≡ d)). subst (λ (z : D). Was agrees z.past) t.1 mine)
      (λ (t : (j ≢ me) × (get_elem? vs j ≡ some d)). each j d t.1)
      (at_set vs me j w d e)

  pub shown : (vs : List D) (id : ℕ) (d : D) (h : Held X) → get_elem? vs id ≡ some d → d.held ≡ h → seen_as h d.view ≡ Some d.view → get_elem? (map seen vs) id ≡ some (Some d.view)
  shown vs id d h at is e = at_map seen vs id d at ∙ ap some (ap (λ z. seen_as z d.view) is ∙ e)

  same_views : (spots : List (Spot X)) (vs : List D) (me : ℕ) (v w : D) → get_elem? vs me ≡ some v → seen w ≡ seen v → agrees spots (map seen vs) → agrees spots (map seen (set vs me w))
  same_views spots vs me v w at e = subst (agrees spots) (sym (map-set seen vs me w ∙ (ap (set (map seen vs) me) e ∙ set_again (map seen vs) me (seen v) (at_map seen vs me v at))))

  abbrev owned : ℕ → ℕ → (ℕ → ℕ) → ℕ → ℕ
  owned l id owner k = cond (eqb k l) id (owner k)

  -- what another seat says stays where place l, which was at home, is taken out
  others_taken : (spots : List (Spot X)) (owner : ℕ → ℕ) (l id : ℕ) (x : X) → get_elem? spots l ≡ some (home x) → (j : ℕ) (h : Held X) → j ≢ id → Holds spots owner j h → Holds (set spots l (out x)) (owned l id owner) j h
  others_taken spots owner l id x at j Nothing apart k = tt
  others_taken spots owner l id x at j Gone apart k = tt
  others_taken spots owner l id x at j (Turn m y) apart k =
      let other : m ≢ l = λ e. home_out x y (let p = subst (λ (z : ℕ). get_elem? spots z ≡ some (out y)) e k.0 in cc) in
      (set_else spots l m (out x) other ∙ k.0, subst (λ b. cond b id (owner m) ≡ j) (sym (ne_eqb m l other)) k.1)

  -- and where a place that is not its own comes home
  others_left : (spots : List (Spot X)) (owner : ℕ → ℕ) (l id : ℕ) (y : X) → owner l ≡ id → (j : ℕ) (h : Held X) → j ≢ id → Holds spots owner j h → Holds (set spots l (home y)) owner j h
  others_left spots owner l id y mine j Nothing apart k = tt
  others_left spots owner l id y mine j Gone apart k = tt
  others_left spots owner l id y mine j (Turn m z) apart k =
      let other : m ≢ l = λ e. apart (sym k.1 ∙ (ap owner e ∙ mine)) in
      (set_else spots l m (home y) other ∙ k.0, k.1)

  place : (s : S) (r : Kept agrees s) (slots l : ℕ) → length s.homes ≡ slots → l < slots → (x : Spot X) × (get_elem? r.spots l ≡ some x) × (get_or s.words l 0 ≡ word_of x)
  place s r slots l long inside =
      let same : length s.homes ≡ length r.spots = ap length r.homes ∙ length-map r.spots slot_of in
      let t = there r.spots l (omega arith) in
      (t.0, t.1, subst (λ (ws : List ℕ). get_or ws l 0 ≡ word_of t.0) (sym r.words) (at_get (map word_of r.spots) l (word_of t.0) (at_map word_of r.spots l t.0 t.1)))

  module _ (taking : Taking) where
    take_at : (s : S) (r : Kept agrees s) (slots l id : ℕ) (me : M) → me.0.held ≡ Nothing → get_elem? s.views id ≡ some me.0 → (x : Spot X) → get_elem? r.spots l ≡ some x → get_or s.words l 0 ≡ word_of x
        → (w : D) × (a : Act (Option X)) × Valid s.homes me.1 a × Kept agrees (stepped s l (either (eqb (get_or s.words l 0) 0) 1 (get_or s.words l 0)) id me.1 w a)
        × entered agrees (step slots l 0 1 none) me (get_or s.words l 0) (w, carried_after me.1 a)
    take_at s r slots l id me free at (home x) here is = let n : ℕ = get_or s.words l 0 in let w : D = knowledge_of (Turn l x) me.0.view Fresh in let inside : l < length r.spots = some_inside r.spots l (home x) here in
        let mine = shown s.views id me.0 Nothing at free refl in (
          w,
          takes l (Some x),
          subst (λ hs. get_elem? hs l ≡ some (some (Some x))) (sym r.homes) (at_map slot_of r.spots l (home x) here),
          subst (λ b. Kept agrees (stepped s l (either b 1 n) id me.1 w (takes l (Some x)))) (sym (eq-eqb n 0 is)) record {
            spots = set r.spots l (out x);
            owner = owned l id r.owner;
            words = ap (λ (ws : List ℕ). set ws l 1) r.words ∙ sym (map-set word_of r.spots l (out x));
            homes = ap (λ hs. set hs l none) r.homes ∙ sym (map-set slot_of r.spots l (out x));
            each = each_set r.spots (set r.spots l (out x)) r.owner (owned l id r.owner) s.views id w
                (set_here r.spots l (out x) inside, subst (λ b. cond b id (r.owner l) ≡ id) (sym (eq-eqb l l refl)) refl)
                (others_taken r.spots r.owner l id x here) r.each;
            holder = λ k y e. ⊎_elim
                (λ (t : (k ≡ l) × (out x ≡ out y)). (id, w, set_here s.views id w (some_inside s.views id me.0 at), λ i. Turn (sym t.0 i) (out_out x y t.1 i)))
                (λ (t : (k ≢ l) × (get_elem? r.spots k ≡ some (out y))). stays s.views id me.0 w at k y (λ h. absurd (free_turn me.0.held k y free h)) (r.holder k y t.1))
                (at_set r.spots l k (out x) (out y) e);
            past = past_set s.views id w tt r.past;
            agreed = same_views (set r.spots l (out x)) s.views id me.0 w at (sym (ap (λ z. seen_as z me.0.view) free)) (taking r.spots (map seen s.views) l x r.agreed here);
          },
          (refl, (λ _. (x, refl, refl, (r.spots, map seen s.views, id, r.agreed, here, mine))), λ not. absurd (not is)),
        )
    take_at s r slots l id me free at (out x) here is = let n : ℕ = get_or s.words l 0 in let not : n ≢ 0 = λ z. (let q = sym is ∙ z in absurd (omega arith)) in (
      me.0,
      keeps,
      tt,
      subst (λ b. Kept agrees (stepped s l (either b 1 n) id me.1 me.0 keeps)) (sym (ne_eqb n 0 not))
          (subst (λ (ws : List ℕ). Kept agrees record { words = ws; homes = s.homes; views = set s.views id me.0 }) (sym (set_again s.words l n (subst (λ (ws : List ℕ). get_elem? ws l ≡ some n) (sym r.words) (at_map word_of r.spots l (out x) here ∙ ap some (sym is)))))
          (subst (λ (vs : List D). Kept agrees record { words = s.words; homes = s.homes; views = vs }) (sym (set_again s.views id me.0 at)) r)),
      (refl, (λ z. absurd (not z)), λ _. (refl, is, (x, (r.spots, map seen s.views, id, r.agreed, here, shown s.views id me.0 Nothing at free refl)))),
    )

    pub enters : (slots l id : ℕ) (me : M) → l < slots → me.0.held ≡ Nothing → Allows (Kept agrees) slots id me l (λ n. either (eqb n 0) 1 n) (entered agrees (step slots l 0 1 none) me)
    enters slots l id me inside free s r long at _ = let p = place s r slots l long inside in take_at s r slots l id me free at p.0 p.1 p.2

  module _ (leaves : ℕ → X → X → V → V → Type 0) (leaving : Leaving leaves) where
    pub exits : (slots l id : ℕ) (me : M) (x y : X) → me.0.held ≡ Turn l x → me.1 ≡ (l, Some y) ∷ [] → (w : V) × leaves l x y me.0.view w
        → Allows (Kept agrees) slots id me l (λ _. 0) (λ _. left agrees leaves (step slots l 0 0 none) me 0)
    exits slots l id me x y turn slot asked s r long at _ = let hold = subst (Holds r.spots r.owner id) turn (r.each id me.0 at) in let w : D = idle asked.0 in
        let mine = shown s.views id me.0 (Turn l x) at turn refl in (
          w,
          gives,
          tt,
          subst (λ (c : List (ℕ × Option X)). Kept agrees (stepped s l 0 id c w gives)) (sym slot) record {
            spots = set r.spots l (home y);
            owner = r.owner;
            words = ap (λ (ws : List ℕ). set ws l 0) r.words ∙ sym (map-set word_of r.spots l (home y));
            homes = ap (λ hs. set hs l (some (Some y))) r.homes ∙ sym (map-set slot_of r.spots l (home y));
            each = each_set r.spots (set r.spots l (home y)) r.owner r.owner s.views id w tt (others_left r.spots r.owner l id y hold.1) r.each;
            holder = λ k z e. ⊎_elim
                (λ (t : (k ≡ l) × (home y ≡ out z)). absurd (home_out y z t.1))
                (λ (t : (k ≢ l) × (get_elem? r.spots k ≡ some (out z))). stays s.views id me.0 w at k z (λ h. absurd (t.0 (turn_place me.0.held l k x z turn h))) (r.holder k z t.1))
                (at_set r.spots l k (home y) (out z) e);
            past = past_set s.views id w tt r.past;
            agreed = subst (agrees (set r.spots l (home y))) (sym (map-set seen s.views id w))
                (leaving r.spots (map seen s.views) l id x y me.0.view asked.0 r.agreed hold.0 mine asked.1);
          },
          λ x' y' turn' slot'.
              let same_x : x ≡ x' = (let e = sym turn ∙ turn' in cc) in
              let same_y : y ≡ y' = one_slot l l y y' (sym slot ∙ slot') in (
                refl,
                ap (λ (c : List (ℕ × Option X)). carried_after c gives) slot,
                subst (λ (z : X × X). leaves l z.0 z.1 me.0.view asked.0) (λ i. (same_x i, same_y i)) asked.1,
                subst (λ (z : X). Agreed agrees l (out z) me.0.view) same_x (r.spots, map seen s.views, id, r.agreed, hold.0, mine),
              ),
        )

  pub splits : (id : ℕ) (d : D) (a b : V) → d.held ≡ Nothing
      → ((spots : List (Spot X)) (views : List (Option V)) → agrees spots views → get_elem? views id ≡ some (Some d.view) → agrees spots (set views id (Some a) ++ Some b ∷ []))
      → Splits (Kept agrees) id d (knowledge_of d.held a (Cut d.view)) (knowledge_of Nothing b (Cut d.view))
  splits id d a b free asked s r at = let w : D = knowledge_of d.held a (Cut d.view) in let idle_b : D = knowledge_of Nothing b (Cut d.view) in let told : Was agrees (Cut d.view) = (r.spots, map seen s.views, id, r.agreed, shown s.views id d Nothing at free refl) in let sees : seen w ≡ Some a = ap (λ h. seen_as h a) free in record {
    spots = r.spots;
    owner = r.owner;
    words = r.words;
    homes = r.homes;
    each = λ j e p. ⊎_elim (each_set r.spots r.spots r.owner r.owner s.views id w (r.each id d at) (λ i h _ k. k) r.each j e) (λ (t : idle_b ≡ e). subst (λ (z : D). Holds r.spots r.owner j z.held) t tt)
        (at_snoc (set s.views id w) idle_b e j p);
    holder = λ k y e. let h = stays s.views id d w at k y (λ h. h) (r.holder k y e) in (h.0, h.1, at_longer (set s.views id w) (idle_b ∷ []) h.0 h.1 h.2, h.3);
    past = λ j e p. ⊎_elim (past_set s.views id w told r.past j e) (λ (t : idle_b ≡ e). subst (λ (z : D). Was agrees z.past) t told) (at_snoc (set s.views id w) idle_b e j p);
    agreed = subst (agrees r.spots) (sym (map-append seen (set s.views id w) (idle_b ∷ []) ∙ ap (λ l. l ++ Some b ∷ []) (map-set seen s.views id w ∙ ap (set (map seen s.views) id) sees)))
        (asked r.spots (map seen s.views) r.agreed (shown s.views id d Nothing at free refl));
  }

  pub joins : (id : ℕ) (d : D) (other : ℕ) (e : D) (both nobody : V) → d.held ≡ Nothing → e.held ≡ Nothing
      → ((spots : List (Spot X)) (views : List (Option V)) → agrees spots views → get_elem? views id ≡ some (Some d.view) → ¬ (other ≡ id) → get_elem? views other ≡ some (Some e.view) → agrees spots (set (set views id (Some both)) other None))
      → Joins (Kept agrees) id d other e (knowledge_of d.held both (Joined d.view e.view)) (knowledge_of Gone nobody Fresh)
  joins id d other e both nobody free idle asked s r at apart there = let w : D = knowledge_of d.held both (Joined d.view e.view) in let gone : D = knowledge_of Gone nobody Fresh in let vs : List D = set s.views id w in
      let sees : seen w ≡ Some both = ap (λ h. seen_as h both) free in let same = map-set seen s.views id w ∙ ap (set (map seen s.views) id) sees in
      let theirs : get_elem? s.views other ≡ some e = sym (set_else s.views id other w apart) ∙ there in record {
        spots = r.spots;
        owner = r.owner;
        words = r.words;
        homes = r.homes;
        each = each_set r.spots r.spots r.owner r.owner vs other gone tt (λ i h _ k. k) (each_set r.spots r.spots r.owner r.owner s.views id w (r.each id d at) (λ i h _ k. k) r.each);
        holder = λ k y f. stays vs other e gone there k y (λ h. absurd (free_turn e.held k y idle h)) (stays s.views id d w at k y (λ h. h) (r.holder k y f));
        past = past_set vs other gone tt (past_set s.views id w (r.spots, map seen s.views, id, other, r.agreed, shown s.views id d Nothing at free refl, shown s.views other e Nothing theirs idle refl, apart) r.past);
        agreed = subst (agrees r.spots) (sym (map-set seen vs other gone ∙ ap (λ l. set l other None) same))
            (asked r.spots (map seen s.views) r.agreed (shown s.views id d Nothing at free refl) apart (shown s.views other e Nothing theirs idle refl));
      }

  pub recalls : (slots id : ℕ) (me : M) → Allows (Kept agrees) slots id me 0 (λ n. n) (recalled agrees (step slots 0 0 0 none) me)
  recalls slots id me s r long at _ = (
    me.0,
    keeps,
    tt,
    subst (λ (ws : List ℕ). Kept agrees record { words = ws; homes = s.homes; views = set s.views id me.0 }) (sym (set-get_or s.words 0 0))
        (subst (λ (vs : List D). Kept agrees record { words = s.words; homes = s.homes; views = vs }) (sym (set_again s.views id me.0 at)) r),
    (refl, r.past id me.0 at),
  )
