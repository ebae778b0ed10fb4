-- A desk that was closed.
use Rattle.std.proofs.Common.{◌≡◌, ◌⊎◌, ℕ, zero, suc, ◌<◌, ◌≤◌, ◌+◌, List, [], ◌∷◌, ◌++◌, map, length, Bool, true, false, Option, Some, None, refl, sym, ap, ◌∙◌, subst, inl, inr, ⊎_elim, arith, eqb-true}
use Rattle.std.proofs.lemmas.Bool.{cases_lt}
use Rattle.std.specs.Prelude.{◌||◌, ◌==◌, MatchOption}
use Rattle.std.specs.Bool.{⊤}
use mathlib.Core.Option.{some, some-injective, some-ne-none}
use lib.ListN.{get_elem?}
use Rattle.turn_desk.proofs.Keeps.{some_inside}
use Rattle.turn_desk.specs.Spots.{Spot, home, out, at_home}
use Rattle.cordz_core.specs.declared.slot.SlotState.{SlotState}
use Rattle.cordz_core.specs.declared.slot.SlotState.TheVariants.{Free, Reserved, Linked}
use Rattle.cordz_core.specs.Contents.{state_of}
use Rattle.cordz_core.specs.History.{stamp_in}
use Rattle.cordz_core.specs.Queue.{has}
use Rattle.record_rule.specs.declared.values.DeskValue.{DeskValue}
use Rattle.record_rule.specs.declared.values.DeskValue.TheVariants.{List as Lists, Record}
use Rattle.record_rule.specs.declared.values.Rep.{Rep}
use Rattle.record_rule.specs.declared.views.Claim.{Claim}
use Rattle.record_rule.specs.declared.views.Claim.TheVariants.{Nothing, Promised, Written, Owned, Unlinked, Cleared, Emptied}
use Rattle.record_rule.specs.declared.views.Noted.{Noted}
use Rattle.record_rule.specs.declared.views.DeskView.{DeskView}
use Rattle.record_rule.specs.declared.views.DeskView.TheVariants.{Root}
use Rattle.record_rule.specs.declared.views.TokenView.{TokenView}
use Rattle.record_rule.specs.Log.{history, of_token, unlinked_of}
use Rattle.record_rule.specs.Notes.{AllUntracked, stamps_of}
use Rattle.record_rule.specs.World.{Facts, AreTokens, HasRecord, IsSlot, IsSlotIn, IsWorld, Stands, value_of}
use Rattle.record_rule.proofs.Acts.{free_claim}
use Rattle.record_rule.proofs.Deeds.{unlinked_none}
use Rattle.cordz_desk.specs.declared.share.Share.{Share}
use Rattle.cordz_desk.specs.Closed.{Each, returned, Knew, HasUntracked, IsTrackedYet, share_in, with_share, shares_of, IsLeft, IsClosed}
use Rattle.cordz_desk.specs.Shares.{tree_in, IsShare}
use Rattle.cordz_desk.proofs.Turning.{fits_of}

pub returned_more : (ps : List TokenView) (p : TokenView) (back : List TokenView) → returned (ps ++ p ∷ []) back ≡ p ∷ returned ps back
returned_more [] p back = refl
returned_more (q ∷ ps) p back = returned_more ps p (q ∷ back)

knew_all : (g : Facts) (by : ℕ) (ps back : List TokenView) → AreTokens g by (returned ps back) → Each (Knew g) ps × AreTokens g by back
knew_all g by [] back k = (tt, k)
knew_all g by (p ∷ ps) back k =
    let h = knew_all g by ps (p ∷ back) k in
    ((record { own = h.1.0.own; reads = h.1.0.reads; untracked = h.1.0.untracked; unlinked = h.1.0.unlinked; walk = h.1.0.walk }, h.0), h.1.1)

-- a stamp among those that a token untracked stands there with its notes
untracked_in : (notes : ℕ → List Noted) (live : ℕ → Bool) (stamp : ℕ) (us : List (ℕ × List Noted)) → AllUntracked notes live us → has stamp (stamps_of us) ≡ true → HasUntracked stamp (notes stamp) us
untracked_in notes live stamp [] a e = absurd (cc)
untracked_in notes live stamp (u ∷ us) a e = by_test (stamp == u.0) (λ is. eqb-true stamp u.0 is) (untracked_in notes live stamp us a.2) e
  where
    by_test : (b : Bool) → (b ≡ true → stamp ≡ u.0) → (has stamp (stamps_of us) ≡ true → HasUntracked stamp (notes stamp) us) → (b || has stamp (stamps_of us)) ≡ true → HasUntracked stamp (notes stamp) (u ∷ us)
    by_test true is later h = let same = is refl in inl (λ i. (sym same i, (sym a.1 ∙ ap notes (sym same)) i))
    by_test false is later h = inr (later h)

each_untracked : (g : Facts) (stamp n : ℕ) (ps : List TokenView) → has stamp (unlinked_of n g.log) ≡ true → Each (Knew g) ps → Each (λ (p : TokenView). p.number ≡ n → HasUntracked stamp (g.notes stamp) p.untracked) ps
each_untracked g stamp n [] e k = tt
each_untracked g stamp n (p ∷ ps) e k = (
  λ is. untracked_in g.notes g.live stamp p.untracked k.0.untracked (subst (λ (z : List ℕ). has stamp z ≡ true) (ap (λ (m : ℕ). unlinked_of m g.log) (sym is) ∙ sym k.0.unlinked) e),
  each_untracked g stamp n ps e k.1,
)

-- a token that was never given unlinked nothing
was_given : (g : Facts) (given stamp n : ℕ) → ((m : ℕ) → given ≤ m → of_token m g.log ≡ []) → has stamp (unlinked_of n g.log) ≡ true → n < given
was_given g given stamp n none e = ⊎_elim (λ less. less) (λ over. absurd (let z : has stamp [] ≡ true = sym (ap (has stamp) (unlinked_none n g.log (none n over))) ∙ e in cc)) (cases_lt n given)

module _ {P : Type 0} where
  shares_more : (vs : List (Option (DeskValue (Share P)))) (v : Option (DeskValue (Share P))) → shares_of (vs ++ v ∷ []) ≡ shares_of vs ++ with_share (share_in v) []
  shares_more [] v = refl
  shares_more (w ∷ vs) v = ap (with_share (share_in w)) (shares_more vs v) ∙ joined (share_in w) (shares_of vs)
    where
      joined : (o : Option (Share P)) (xs : List (Share P)) → with_share o (xs ++ with_share (share_in v) []) ≡ with_share o xs ++ with_share (share_in v) []
      joined None xs = refl
      joined (Some x) xs = refl

  -- the shares with the next value's
  pub shares_next : (vs : List (Option (DeskValue (Share P)))) (v : Option (DeskValue (Share P))) (o : Option (Share P)) (xs ys : List (Share P)) → xs ≡ shares_of vs → o ≡ share_in v → ys ≡ xs ++ with_share o [] → ys ≡ shares_of (vs ++ v ∷ [])
  shares_next vs v o xs ys e f is = is ∙ ((λ i. e i ++ with_share (f i) []) ∙ sym (shares_more vs v))

  -- what holds of each value's share holds of all
  all_shares : (Q : Share P → Type 0) (vs : List (Option (DeskValue (Share P)))) → ((i : ℕ) (v : Option (DeskValue (Share P))) (x : Share P) → get_elem? vs i ≡ some v → share_in v ≡ Some x → Q x) → Each Q (shares_of vs)
  all_shares Q [] each = tt
  all_shares Q (v ∷ vs) each = by_share (share_in v) (λ x e. each 0 v x refl e) (all_shares Q vs (λ i w x at e. each (suc i) w x at e))
    where
      by_share : (o : Option (Share P)) → ((x : Share P) → o ≡ Some x → Q x) → Each Q (shares_of vs) → Each Q (with_share o (shares_of vs))
      by_share None here k = k
      by_share (Some x) here k = (here x refl, k)

  no_shares : (xs : List (Share P)) → Each (λ (x : Share P). ⊥) xs → xs ≡ []
  no_shares [] k = refl
  no_shares (x ∷ xs) k = absurd k.0

  fits_some : (o : Option (Share P)) (x : Share P) → o ≡ Some x → MatchOption o ⊤ IsShare → IsShare x
  fits_some o x e k = subst (λ (z : Option (Share P)). MatchOption z ⊤ IsShare) e k

  module _ (g : Facts) (spots : List (Spot (DeskValue (Share P)))) (views : List (Option DeskView)) (world : IsWorld tree_in IsShare g (map value_of spots) views) where
    length_map : {A B : Type 0} (f : A → B) (xs : List A) → length (map f xs) ≡ length xs
    length_map f [] = refl
    length_map f (x ∷ xs) = ap suc (length_map f xs)

    many : length (map at_home spots) ≡ 257
    many = length_map at_home spots ∙ (sym (length_map value_of spots) ∙ world.count)

    -- the spot of a value
    at_spot : (ss : List (Spot (DeskValue (Share P)))) (i : ℕ) (x : DeskValue (Share P)) → get_elem? (map value_of ss) i ≡ some x → (get_elem? (map at_home ss) i ≡ some None) ⊎ (get_elem? (map at_home ss) i ≡ some (Some x))
    at_spot [] i x e = absurd (some-ne-none x (sym e))
    at_spot (home y ∷ ss) zero x e = inr (ap (λ (z : DeskValue (Share P)). some (Some z)) (some-injective y x e))
    at_spot (out y ∷ ss) zero x e = inl refl
    at_spot (s ∷ ss) (suc i) x e = at_spot ss i x e

    left : (s : ℕ) → s < 256 → IsLeft g (map at_home spots) s
    left s small = let o = world.slots s small in ⊎_elim (λ none. inl none) (λ is. inr (o.rep, is, o.is)) (at_spot spots (s + 1) (Record o.rep) o.at)

    -- a share is that of a slot's record
    of_slot : (i : ℕ) (v : Option (DeskValue (Share P))) (x : Share P) → get_elem? (map at_home spots) i ≡ some v → share_in v ≡ Some x → (s : ℕ) × (s < 256) × (r : Rep (Share P)) × IsSlotIn tree_in IsShare g s (stamp_in (history g.log) s) r × (r.hold ≡ Some x)
    of_slot zero v x at e = ⊎_elim
        (λ none. absurd (let z : share_in v ≡ None = ap share_in (some-injective v None (sym at ∙ none)) in let y : None ≡ Some x = sym z ∙ e in cc))
        (λ is. absurd (let z : share_in v ≡ None = ap share_in (some-injective v (Some (Lists g.registry)) (sym at ∙ is)) in let y : None ≡ Some x = sym z ∙ e in cc))
        (at_spot spots 0 (Lists g.registry) world.first)
    of_slot (suc s) v x at e =
        let inside = some_inside (map at_home spots) (suc s) v at in
        let all = many in
        let o = world.slots s (omega arith) in
        let next : s + 1 ≡ suc s = omega arith in
        ⊎_elim
        (λ none. absurd (let z : share_in v ≡ None = ap share_in (some-injective v None (sym at ∙ none)) in let y : None ≡ Some x = sym z ∙ e in cc))
        (λ is. (s, omega arith, o.rep, o.is, ap share_in (some-injective (Some (Record o.rep)) v (sym is ∙ at)) ∙ e))
        (at_spot spots (suc s) (Record o.rep) (ap (get_elem? (map value_of spots)) (sym next) ∙ o.at))

    each_fits : (i : ℕ) (v : Option (DeskValue (Share P))) (x : Share P) → get_elem? (map at_home spots) i ≡ some v → share_in v ≡ Some x → IsShare x
    each_fits i v x at e =
        let k = of_slot i v x at e in
        let t : ℕ = stamp_in (history g.log) k.0 in
        fits_some k.2.hold x k.4 (fits_of tree_in IsShare (g.claims k.0) (state_of g.registry k.0) k.0 t (g.slot t) (g.live t) (g.notes t) k.2 k.3)

    kept_state : (c : Claim) (state : SlotState) (s stamp at : ℕ) (live : Bool) (notes : List Noted) (r : Rep (Share P)) (t : ℕ) → IsSlot tree_in IsShare c state s stamp at live notes r → HasRecord c t → (stamp ≡ t) × ((state ≡ Reserved) ⊎ (state ≡ Linked))
    kept_state Nothing state s stamp at live notes r t k h = absurd h
    kept_state (Promised own) state s stamp at live notes r t k h = absurd h
    kept_state (Written own ns) state s stamp at live notes r t k h = (sym k.2 ∙ h, inl k.0)
    kept_state (Owned own ns bare) state s stamp at live notes r t k h = (sym k.2 ∙ h, inr k.0)
    kept_state (Unlinked own bare) state s stamp at live notes r t k h = absurd h
    kept_state (Cleared bare) state s stamp at live notes r t k h = absurd h
    kept_state Emptied state s stamp at live notes r t k h = absurd h

    tracked_yet : (stamp : ℕ) → (g.slot stamp < 256) × HasRecord (g.claims (g.slot stamp)) stamp → IsTrackedYet g stamp
    tracked_yet stamp k =
        let s : ℕ = g.slot stamp in
        let o = world.slots s k.0 in
        let t : ℕ = stamp_in (history g.log) s in
        let f = kept_state (g.claims s) (state_of g.registry s) s t (g.slot t) (g.live t) (g.notes t) o.rep stamp o.is k.1 in
        (k.0, f.0, f.1)

    none_free : ((s : ℕ) → s < 256 → state_of g.registry s ≡ Free) → (i : ℕ) (v : Option (DeskValue (Share P))) (x : Share P) → get_elem? (map at_home spots) i ≡ some v → share_in v ≡ Some x → ⊥
    none_free free i v x at e =
        let k = of_slot i v x at e in
        let t : ℕ = stamp_in (history g.log) k.0 in
        let f = free_claim tree_in IsShare (g.claims k.0) (state_of g.registry k.0) k.0 t (g.slot t) (g.live t) (g.notes t) k.2 (free k.0 k.1) k.3 in
        let y : None ≡ Some x = sym f.1 ∙ k.4 in
        absurd (cc)

  pub closed : (spots : List (Spot (DeskValue (Share P)))) (views : List (Option DeskView)) (by given : ℕ) (back ps : List TokenView) (values : List (Option (DeskValue (Share P)))) (shares : List (Share P)) → Stands tree_in IsShare spots views → get_elem? views by ≡ some (Some (Root given (returned ps back)))
      → values ≡ map at_home spots → shares ≡ shares_of values → IsClosed ps given shares
  closed spots views by given back ps values shares s mine is e =
      let g = s.facts in
      let w = s.world in
      let f = w.each by (Some (Root given (returned ps back))) mine in
      let same : shares ≡ shares_of (map at_home spots) = e ∙ ap shares_of is in
      let knew : Each (Knew g) ps = (knew_all g by ps back f.2).0 in
      let others : (n : ℕ) → given ≤ n → of_token n g.log ≡ [] = λ n over. let same = f.1 in (w.ungiven n (omega arith)).0 in
      record {
        facts = g;
        values = map at_home spots;
        log = w.log;
        replays = w.replays;
        notes = w.notes;
        knew = knew;
        accounted = λ stamp. ⊎_elim
            (λ none. inl none)
            (λ rest. ⊎_elim
            (λ k. inr (inl (tracked_yet g spots views w stamp k)))
            (λ (u : (n : ℕ) × (has stamp (unlinked_of n g.log) ≡ true)). inr (inr (u.0, was_given g given stamp u.0 others u.1, each_untracked g stamp u.0 ps u.1 knew)))
            rest)
            (w.told stamp);
        others = others;
        idle = λ n over. let same = f.1 in (w.ungiven n (omega arith)).1;
        slots = left g spots views w;
        left = same;
        fits = subst (λ (z : List (Share P)). Each IsShare z) (sym same) (all_shares IsShare (map at_home spots) (each_fits g spots views w));
        none = λ free. same ∙ no_shares (shares_of (map at_home spots)) (all_shares (λ (x : Share P). ⊥) (map at_home spots) (none_free g spots views w free));
      }

  pub many_left : (spots : List (Spot (DeskValue (Share P)))) (views : List (Option DeskView)) (values : List (Option (DeskValue (Share P)))) → Stands tree_in IsShare spots views → values ≡ map at_home spots → length values ≡ 257
  many_left spots views values s is = ap length is ∙ many s.facts spots views s.world
