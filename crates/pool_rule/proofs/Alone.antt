-- Lone numbers after steps, and after tokens are divided and joined.
use Rattle.std.proofs.Common.{◌≡◌, ◌≢◌, ◌⊎◌, inl, inr, ⊎_elim, Bool, true, false, eqb, ℕ, zero, suc, ◌<◌, List, [], ◌∷◌, ◌++◌, length, map, set, get_or, refl, sym, ◌∙◌, ap, subst, arith, length-set, get_or-set_same, get_or-set_other}
use Rattle.std.proofs.lemmas.Bool.{eqb-true}
use mathlib.Core.Logic.{dite}
use mathlib.Core.Option.{some}
use native.Mathlib.Decide.{ℕ_discrete}
use lib.ListN.{get_elem?}
use Rattle.atomic_table.specs.Table.{State}
use Rattle.atomic_table.proofs.Lists.{at_set, at_snoc}
use Rattle.node_forest.specs.Label.{Node, number}
use Rattle.node_forest.specs.Members.{In, Occurs}
use Rattle.node_forest.specs.Counts.{times}
use Rattle.node_forest.proofs.Counts.{times_pos}
use Rattle.node_forest.proofs.Members.{occurs_split}
use Rattle.count_core.specs.Steps.{roots, word_at}
use Rattle.count_core.proofs.Lone.{lone_root, lone_child}
use Rattle.count_core.proofs.LonePaths.{view_parts, other_occurs}
use Rattle.count_core.proofs.Moves.{sound_of}
use Rattle.pool_rule.specs.Notes.{keep_if, lone_but}
use Rattle.pool_rule.specs.Pools.{Member, IsAlone, AreLone, IsReached}
use Rattle.pool_rule.specs.Rules.{holds_of, world, Ruled}
use Rattle.pool_rule.specs.Views.{View, spent}
use Rattle.pool_rule.proofs.Steps.{low}
use Rattle.pool_rule.proofs.Worlds.{at_lt, held_at, word_world, places_world}

-- ---- lists of lone numbers
pub member_lone_but : (nodes : List Node) (n : ℕ) (ns : List ℕ) → Member n (lone_but nodes ns) → Member n ns × (times n nodes ≡ 0)
member_lone_but nodes n [] h = absurd h
member_lone_but nodes n (m ∷ ms) h = go (eqb (times m nodes) 0) refl (member_lone_but nodes n ms) h
  where
    go : (b : Bool) → eqb (times m nodes) 0 ≡ b → (Member n (lone_but nodes ms) → Member n ms × (times n nodes ≡ 0)) → Member n (keep_if b m (lone_but nodes ms)) → Member n (m ∷ ms) × (times n nodes ≡ 0)
    go true e rest (inl q) = (inl q, ap (λ (z : ℕ). times z nodes) q ∙ eqb-true (times m nodes) 0 e)
    go true e rest (inr h) = let r = rest h in (inr r.0, r.1)
    go false e rest h = let r = rest h in (inr r.0, r.1)

pub member_left : (n : ℕ) (a b : List ℕ) → Member n a → Member n (a ++ b)
member_left n [] b h = absurd h
member_left n (m ∷ ms) b (inl e) = inl e
member_left n (m ∷ ms) b (inr h) = inr (member_left n ms b h)

pub member_split : {A : Type 0} (n : A) (a b : List A) → Member n (a ++ b) → Member n a ⊎ Member n b
member_split n [] b h = inr h
member_split n (m ∷ ms) b (inl e) = inl (inl e)
member_split n (m ∷ ms) b (inr h) = ⊎_elim (λ l. inl (inr l)) (λ r. inr r) (member_split n ms b h)

-- no number of the nodes is left
pub but_apart : (nodes : List Node) (n : ℕ) (x : Node) → times n nodes ≡ 0 → In x nodes → number x ≢ n
but_apart nodes n x none_ i e = absurd (omega (arith, times_pos n x nodes i e, none_))

-- ---- a step
pub record IsLoneStep (numbers : ℕ) (words : List ℕ) (views : List View) (id n m : ℕ) (v w : View) : Type 0 where
  pub kept : (j : ℕ) → Member j w.lone → (Member j v.lone × ((j ≢ n) ⊎ (m ≡ get_or words n 0))) ⊎ IsAlone numbers (set words n m) (set views id w) id j
  pub touch : (other : ℕ) → other ≢ id → IsAlone numbers words views other n → m ≡ get_or words n 0
  -- each number in the trees was there before, or was taken
  pub new : (x : Node) → Occurs x w.holds → ((y : Node) × Occurs y v.holds × (number y ≡ number x)) ⊎ ((number x ≡ n) × (get_or words n 0 ≡ 0))

one_still : (words : List ℕ) (n m j : ℕ) → n < length words → (j ≢ n) ⊎ (m ≡ get_or words n 0) → get_or words j 0 ≡ 1 → get_or (set words n m) j 0 ≡ 1
one_still words n m j wide why one =
    dite (ℕ_discrete j n)
    (λ e. ⊎_elim (λ ne. absurd (ne e)) (λ same. ap (λ (z : ℕ). get_or (set words n m) z 0) e ∙ (get_or-set_same words n m 0 wide ∙ (same ∙ (ap (λ (z : ℕ). get_or words z 0) (sym e) ∙ one)))) why)
    (λ ne. get_or-set_other words n j m 0 ne ∙ one)

pub lone_step : (numbers : ℕ) (words : List ℕ) (views : List View) (id n m : ℕ) (v w : View) → n < length words → get_elem? views id ≡ some v → IsLoneStep numbers words views id n m v w → AreLone numbers words views → AreLone numbers (set words n m) (set views id w)
lone_step numbers words views id n m v w wide at s r i j u here h =
    ⊎_elim
    (λ q. ⊎_elim
    (λ old. let a = r id j v at old.0 in subst (λ (z : ℕ). IsAlone numbers (set words n m) (set views id w) z j) (sym q.0) (record {
      low = a.low;
      one = one_still words n m j wide old.1 a.one;
      apart = λ o y there ne x occurs. ⊎_elim (λ p. absurd (ne p.0)) (λ p. a.apart o y p.1 ne x occurs) (at_set views id o w y there);
    }))
    (λ new. subst (λ (z : ℕ). IsAlone numbers (set words n m) (set views id w) z j) (sym q.0) new)
    (s.kept j (subst (λ (z : View). Member j z.lone) (sym q.1) h)))
    (λ q. let a = r i j u q.1 h in
    let is_n : j ≡ n → m ≡ get_or words n 0 = (λ e. s.touch i q.0 (subst (IsAlone numbers words views i) e a)) in
    record {
      low = a.low;
      one = dite (ℕ_discrete j n) (λ e. one_still words n m j wide (inr (is_n e)) a.one) (λ ne. one_still words n m j wide (inl ne) a.one);
      apart = λ o y there ne x occurs. ⊎_elim
          (λ p. let here' : Occurs x w.holds = subst (λ (z : View). Occurs x z.holds) (sym p.1) occurs in
          ⊎_elim (λ old e. a.apart id v at (λ z. ne (p.0 ∙ z)) old.0 old.1 (old.2 ∙ e))
          (λ fresh e. let zero_ : get_or words j 0 ≡ 0 = ap (λ (z : ℕ). get_or words z 0) (sym e ∙ fresh.0) ∙ fresh.1 in absurd (omega (arith, zero_, a.one)))
          (s.new x here'))
          (λ p. a.apart o y p.1 ne x occurs)
          (at_set views id o w y there);
    })
    (at_set views id i w u here)

-- ---- a token divided
pub lone_split : (numbers : ℕ) (words : List ℕ) (views : List View) (id : ℕ) (v l w : View) → get_elem? views id ≡ some v → w.lone ≡ []
    → ((j : ℕ) → Member j l.lone → Member j v.lone × ((x : Node) → Occurs x w.holds → number x ≢ j))
    → ((x : Node) → Occurs x l.holds → Occurs x v.holds) → ((x : Node) → Occurs x w.holds → Occurs x v.holds) → AreLone numbers words views → AreLone numbers words (set views id l ++ w ∷ [])
lone_split numbers words views id v l w at none_ kept left right r i j u here h =
    ⊎_elim
    (λ before. ⊎_elim
    (λ q. let mine = kept j (subst (λ (z : View). Member j z.lone) (sym q.1) h) in
    let a = r id j v at mine.0 in
    record {
      low = a.low;
      one = a.one;
      apart = λ o y there ne x occurs. ⊎_elim
          (λ p. ⊎_elim (λ z. absurd (ne (z.0 ∙ sym q.0))) (λ z. a.apart o y z.1 (λ e. ne (e ∙ sym q.0)) x occurs) (at_set views id o l y p))
          (λ p. mine.1 x (subst (λ (z : View). Occurs x z.holds) (sym p) occurs))
          (at_snoc (set views id l) w y o there);
    })
    (λ q. let a = r i j u q.1 h in
    let other : id ≢ i = (λ e. q.0 (sym e)) in
    record {
      low = a.low;
      one = a.one;
      apart = λ o y there ne x occurs. ⊎_elim
          (λ p. ⊎_elim (λ z. a.apart id v at other x (left x (subst (λ (c : View). Occurs x c.holds) (sym z.1) occurs))) (λ z. a.apart o y z.1 ne x occurs) (at_set views id o l y p))
          (λ p. a.apart id v at other x (right x (subst (λ (c : View). Occurs x c.holds) (sym p) occurs)))
          (at_snoc (set views id l) w y o there);
    })
    (at_set views id i l u before))
    (λ last. absurd (subst (λ (ns : List ℕ). Member j ns) (ap (λ (z : View). z.lone) (sym last) ∙ none_) h))
    (at_snoc (set views id l) w u i here)

-- ---- two tokens joined
pub lone_join : (numbers : ℕ) (words : List ℕ) (views : List View) (id other : ℕ) (v w b : View) → get_elem? views id ≡ some v → get_elem? views other ≡ some w → other ≢ id
    → ((j : ℕ) → Member j b.lone → Member j v.lone ⊎ Member j w.lone) → ((x : Node) → Occurs x b.holds → Occurs x v.holds ⊎ Occurs x w.holds) → AreLone numbers words views → AreLone numbers words (set (set views id b) other (spent w))
lone_join numbers words views id other v w b at there ne kept both r i j u here h =
    ⊎_elim
    (λ q. absurd (subst (λ (z : View). Member j z.lone) (sym q.1) h))
    (λ q. ⊎_elim
    (λ p. ⊎_elim
    (λ mine. let a = r id j v at mine in record {
      low = a.low;
      one = a.one;
      apart = λ o y y_at o_ne x occurs. third o y y_at (λ e. o_ne (e ∙ sym p.0)) x occurs (λ old. a.apart o y old (λ e. o_ne (e ∙ sym p.0)) x occurs);
    })
    (λ theirs. let a = r other j w there theirs in record {
      low = a.low;
      one = a.one;
      apart = λ o y y_at o_ne x occurs. third' o y y_at (λ e. o_ne (e ∙ sym p.0)) x occurs (λ old n. a.apart o y old n x occurs);
    })
    (kept j (subst (λ (z : View). Member j z.lone) (sym p.1) h)))
    (λ p. let a = r i j u p.1 h in
    record {
      low = a.low;
      one = a.one;
      apart = λ o y y_at o_ne x occurs. ⊎_elim
          (λ z. absurd (subst (λ (c : View). Occurs x c.holds) (sym z.1) occurs))
          (λ z. ⊎_elim
          (λ c. ⊎_elim (λ l. a.apart id v at (λ e. p.0 (sym e)) x l) (λ l. a.apart other w there (λ e. q.0 (sym e)) x l) (both x (subst (λ (d : View). Occurs x d.holds) (sym c.1) occurs)))
          (λ c. a.apart o y c.1 o_ne x occurs)
          (at_set views id o b y z.1))
          (at_set (set views id b) other o (spent w) y y_at);
    })
    (at_set views id i b u q.1))
    (at_set (set views id b) other i (spent w) u here)
  where
    third : {T : Type 0} (o : ℕ) (y : View) → get_elem? (set (set views id b) other (spent w)) o ≡ some y → o ≢ id → (x : Node) → Occurs x y.holds → (get_elem? views o ≡ some y → T) → T
    third o y y_at o_ne x occurs f = ⊎_elim
        (λ z. absurd (subst (λ (c : View). Occurs x c.holds) (sym z.1) occurs))
        (λ z. ⊎_elim (λ c. absurd (o_ne c.0)) (λ c. f c.1) (at_set views id o b y z.1))
        (at_set (set views id b) other o (spent w) y y_at)

    third' : {T : Type 0} (o : ℕ) (y : View) → get_elem? (set (set views id b) other (spent w)) o ≡ some y → o ≢ id → (x : Node) → Occurs x y.holds → (get_elem? views o ≡ some y → o ≢ other → T) → T
    third' o y y_at o_ne x occurs f = ⊎_elim
        (λ z. absurd (subst (λ (c : View). Occurs x c.holds) (sym z.1) occurs))
        (λ z. ⊎_elim (λ c. absurd (o_ne c.0)) (λ c. f c.1 z.0) (at_set views id o b y z.1))
        (at_set (set views id b) other o (spent w) y y_at)

-- ---- a look
root_view : (vs : List (List Node)) (x : Node) → Occurs x (roots vs) → (i : ℕ) × (i < length vs) × Occurs x (get_or vs i [])
root_view [] x h = absurd h
root_view (hs ∷ vs) x h = ⊎_elim (λ a. (0, omega arith, a)) (λ b. let r = root_view vs x b in (suc r.0, (let l = r.1 in omega arith), r.2)) (occurs_split x hs (roots vs) h)

view_there : (views : List View) (i : ℕ) → i < length (map holds_of views) → (w : View) × (get_elem? views i ≡ some w)
view_there [] i l = absurd (omega arith)
view_there (v ∷ vs) zero l = (v, refl)
view_there (v ∷ vs) (suc i) l = view_there vs i (omega arith)

module _ {S : Type 0} (k : ℕ) (s : State S View) (id : ℕ) (v : View) (r : Ruled k s) (at : get_elem? s.views id ≡ some v) (lone : AreLone k s.words s.views) where
  abbrev pub holds : List (List Node)
  holds = map holds_of s.views

  abbrev pub others : List Node
  others = roots (set holds id [])

  is_view : id < length holds
  is_view = omega (arith, at_lt s.views id v at, places_world k s)

  mine : get_or holds id [] ≡ v.holds
  mine = held_at s.views id v at

  -- what another token's trees have, and the other way round
  from_others : (x : Node) → Occurs x others → (o : ℕ) × (w : View) × (get_elem? s.views o ≡ some w) × (o ≢ id) × Occurs x w.holds
  from_others x h =
      let f = root_view (set holds id []) x h in
      dite (ℕ_discrete f.0 id)
      (λ e. absurd (subst (λ (z : List Node). Occurs x z) (ap (λ (z : ℕ). get_or (set holds id []) z []) e ∙ get_or-set_same holds id [] [] is_view) f.2))
      (λ ne. let long = length-set holds id [] in
      let l = f.1 in
      let w = view_there s.views f.0 (omega (arith, l, long)) in
      (f.0, w.0, w.1, ne, subst (λ (z : List Node). Occurs x z) (get_or-set_other holds id f.0 [] [] ne ∙ held_at s.views f.0 w.0 w.1) f.2))

  to_others : (o : ℕ) (w : View) (x : Node) → get_elem? s.views o ≡ some w → o ≢ id → Occurs x w.holds → Occurs x others
  to_others o w x there ne h = other_occurs holds id o x ne (subst (λ (z : List Node). Occurs x z) (sym (held_at s.views o w there)) h)

  -- the word of a node that is reached was found 1
  pub reached_apart : (t : Node) → IsReached t v → Occurs t v.holds → get_or s.words (number t) 0 ≡ 1 → (x : Node) → Occurs x others → number x ≢ number t
  reached_apart t reach here one =
      let sound = sound_of (world k s) r.sound in
      let parts = view_parts holds id is_view in
      let word : word_at (world k s) (number t) ≡ 1 = word_world k s (number t) (low k s id v r at t here) ∙ one in
      ⊎_elim
      (λ direct. lone_root (length (world k s).words) (word_at (world k s)) (roots holds) (get_or holds id []) others sound parts t (subst (λ (z : List Node). In t z) (sym mine) direct) word)
      (λ below_. lone_child (length (world k s).words) (word_at (world k s)) (roots holds) (get_or holds id []) others sound parts below_.0 t (subst (λ (z : List Node). Occurs below_.0 z) (sym mine) below_.1)
      (λ x o. let f = from_others x o in (lone id (number below_.0) v at below_.2).apart f.0 f.1 f.2 f.3 x f.4) below_.3 word)
      reach

  pub reached_alone : (t : Node) (m : ℕ) (w : View) → IsReached t v → Occurs t v.holds → get_or s.words (number t) 0 ≡ 1 → m ≡ get_or s.words (number t) 0 → IsAlone k (set s.words (number t) m) (set s.views id w) id (number t)
  reached_alone t m w reach here one same = record {
    low = low k s id v r at t here;
    one = get_or-set_same s.words (number t) m 0 (omega (arith, low k s id v r at t here, r.width)) ∙ (same ∙ one);
    apart = λ o y there ne x occurs. ⊎_elim (λ p. absurd (ne p.0)) (λ p. reached_apart t reach here one x (to_others o y x p.1 ne occurs)) (at_set s.views id o w y there);
  }
