-- What a token finds at a turn of the registry, and what it may do there.
use Rattle.std.proofs.Common.{◌≡◌, ◌≢◌, ◌⊎◌, ℕ, zero, suc, ◌<◌, ◌≤◌, ◌+◌, ◌-◌, ◌^◌, ◌*◌, List, [], ◌∷◌, map, Bool, true, false, length, IsSome, Option, Some, None, refl, sym, ap, ◌∙◌, subst, inl, inr, ⊎_elim, arith, eq-eqb}
use Rattle.std.specs.Prelude.{◌||◌, ◌==◌}
use mathlib.Core.Option.{some, some-injective}
use Rattle.atomic_table.proofs.Lists.{at_map}
use Rattle.node_forest.specs.Label.{Node}
use Rattle.turn_desk.specs.Agreements.{Agreed}
use Rattle.turn_desk.specs.Spots.{home}
use Rattle.cordz_core.specs.declared.slot.SlotState.{SlotState}
use Rattle.cordz_core.specs.declared.slot.SlotState.TheVariants.{Reserved, Linked, Leaving, Queued, Clearing}
use Rattle.cordz_core.specs.Contents.{Contents, state_of, birth_of}
use Rattle.cordz_core.specs.History.{History, Tracked, use_of, stamp_in, stamps_given}
use Rattle.cordz_core.specs.Legal.{Replays, state_after, state_for, state_by}
use Rattle.cordz_core.specs.Queue.{has}
use Rattle.cordz_core.specs.Times.{Course, Stays, Left, Done, records, snapshots, record_in, SnapshotTimes, deleted_at}
use Rattle.record_rule.specs.declared.values.DeskValue.{DeskValue}
use Rattle.record_rule.specs.declared.values.DeskValue.TheVariants.{List as Lists}
use Rattle.record_rule.specs.declared.values.Rep.{Rep}
use Rattle.record_rule.specs.declared.views.Claim.{Claim}
use Rattle.record_rule.specs.declared.views.Claim.TheVariants.{Nothing, Promised, Written, Owned, Unlinked, Cleared, Emptied}
use Rattle.record_rule.specs.declared.views.Deed.{Deed}
use Rattle.record_rule.specs.declared.views.Deed.TheVariants as deed
use Rattle.record_rule.specs.declared.views.Noted.{Noted}
use Rattle.record_rule.specs.declared.views.TokenView.{TokenView}
use Rattle.record_rule.specs.declared.views.DeskView.{DeskView}
use Rattle.record_rule.specs.declared.views.DeskView.TheVariants.{Token}
use Rattle.record_rule.specs.Log.{after_deed, history, is_walking, walk_of}
use Rattle.record_rule.specs.Steps.{Does, Makes, MayFree, IsWritten, IsOwned, IsUnlinked, registry_of, IsList}
use Rattle.record_rule.specs.Views.{claim_at, most_actions}
use Rattle.record_rule.specs.World.{Facts, Has, IsToken, WalksIf, IsSlot, IsWorld, Stands, value_of}
use Rattle.record_rule.proofs.Deeds.{deed_walk, tracked_small}
use Rattle.record_rule.proofs.Walks.{IsOut, out_of, gave}
use Rattle.cordz_desk.specs.declared.asking.Ask.{Ask}
use Rattle.cordz_desk.specs.declared.asking.Ask.TheVariants.{Reserve, Free, Track, Unlink, Settle, Snap, Unsnap, Head, Next}
use Rattle.cordz_desk.specs.Asking.{IsWalked, HasSmall, HasStamp, IsOnceOver, IsOnce, Can, May, Performed}

module _ {S : Type 0} (tree_of : S → Node) (fits : S → Type 0) where
  -- the registry at a token's turn, with all that is so besides
  pub record AtTurn (x : DeskValue S) (p : TokenView) : Type 0 where
    pub facts : Facts
    pub values : List (DeskValue S)
    pub views : List (Option DeskView)
    pub seat : ℕ
    pub world : IsWorld tree_of fits facts values views
    pub is : x ≡ Lists facts.registry
    pub token : IsToken facts seat p

  pub at_turn : (x : DeskValue S) (v : DeskView) (p : TokenView) → Agreed (Stands tree_of fits) 0 (home x) v → v ≡ Token p → AtTurn x p
  at_turn x v p a is = record {
    facts = a.3.facts;
    values = map value_of a.0;
    views = a.1;
    seat = a.2;
    world = a.3.world;
    is = sym (some-injective (Lists a.3.facts.registry) x (sym a.3.world.first ∙ at_map value_of a.0 0 (home x) a.4));
    token = a.3.world.each a.2 (Some (Token p)) (a.5 ∙ ap (λ z. some (Some z)) is);
  }

  pub found_list : (x : DeskValue S) (p : TokenView) → AtTurn x p → IsList x
  found_list x p t = t.is ∙ ap (λ (z : DeskValue S). Lists (registry_of z)) (sym t.is)

  pub found_clock : (x : DeskValue S) (p : TokenView) → AtTurn x p → (registry_of x).clock < 2 ^ 64 - 1
  found_clock x p t =
      let clock = t.world.replays.clock in
      let room = t.world.room in
      subst (λ (z : DeskValue S). (registry_of z).clock < 2 ^ 64 - 1) (sym t.is) (omega arith)

  -- where a slot stands that the token has a claim on
  state_is : (c : Claim) (state : SlotState) (s stamp at : ℕ) (live : Bool) (notes : List Noted) (r : Rep S) → IsSlot tree_of fits c state s stamp at live notes r
      → (MayFree c → (state ≡ Reserved) ⊎ (state ≡ Clearing)) × (IsWritten c → state ≡ Reserved) × (IsOwned c → state ≡ Linked) × (IsUnlinked c → state ≡ Leaving)
  state_is Nothing state s stamp at live notes r k = ((λ e. absurd e), (λ e. absurd e), (λ e. absurd e), (λ e. absurd e))
  state_is (Promised own) state s stamp at live notes r k = ((λ e. inl k.0), (λ e. absurd e), (λ e. absurd e), (λ e. absurd e))
  state_is (Written own ns) state s stamp at live notes r k = ((λ e. absurd e), (λ e. k.0), (λ e. absurd e), (λ e. absurd e))
  state_is (Owned own ns bare) state s stamp at live notes r k = ((λ e. absurd e), (λ e. absurd e), (λ e. k.0), (λ e. absurd e))
  state_is (Unlinked own bare) state s stamp at live notes r k = ((λ e. absurd e), (λ e. absurd e), (λ e. absurd e), (λ e. k.0))
  state_is (Cleared bare) state s stamp at live notes r k = ((λ e. absurd e), (λ e. absurd e), (λ e. absurd e), (λ e. absurd e))
  state_is Emptied state s stamp at live notes r k = ((λ e. inr k.0), (λ e. absurd e), (λ e. absurd e), (λ e. absurd e))

  claim_states : (x : DeskValue S) (p : TokenView) (s : ℕ) → (t : AtTurn x p) → claim_at p.claims s ≢ Nothing
      → (s < 256) × ((MayFree (claim_at p.claims s) → (state_of t.facts.registry s ≡ Reserved) ⊎ (state_of t.facts.registry s ≡ Clearing)) × (IsWritten (claim_at p.claims s) → state_of t.facts.registry s ≡ Reserved) × (IsOwned (claim_at p.claims s) → state_of t.facts.registry s ≡ Linked) × (IsUnlinked (claim_at p.claims s) → state_of t.facts.registry s ≡ Leaving))
  claim_states x p s t held =
      let g = t.facts in
      let h : Has g t.seat s (claim_at p.claims s) = ⊎_elim (λ none. absurd (held none)) (λ z. z) (t.token.claims s) in
      let o = t.world.slots s h.0 in
      let stamp : ℕ = stamp_in (history g.log) s in (
        h.0,
        state_is (claim_at p.claims s) (state_of g.registry s) s stamp (g.slot stamp) (g.live stamp) (g.notes stamp) o.rep
            (subst (λ (z : Claim). IsSlot tree_of fits z (state_of g.registry s) s stamp (g.slot stamp) (g.live stamp) (g.notes stamp) o.rep) h.2 o.is),
      )

  not_free : (c : Claim) → MayFree c → c ≢ Nothing
  not_free Nothing m e = absurd m
  not_free (Promised own) m e = cc
  not_free (Written own ns) m e = absurd m
  not_free (Owned own ns bare) m e = absurd m
  not_free (Unlinked own bare) m e = absurd m
  not_free (Cleared bare) m e = absurd m
  not_free Emptied m e = cc

  not_written : (c : Claim) → IsWritten c → c ≢ Nothing
  not_written c m e = subst IsWritten e m

  not_owned : (c : Claim) → IsOwned c → c ≢ Nothing
  not_owned c m e = subst IsOwned e m

  not_unlinked : (c : Claim) → IsUnlinked c → c ≢ Nothing
  not_unlinked c m e = subst IsUnlinked e m

  walked_by : (xs : List SnapshotTimes) (c : Course) (place : ℕ) → state_by xs c place ≢ Clearing → IsWalked (state_by xs c place)
  walked_by xs Stays place n = inl refl
  walked_by xs (Left u) place n = inr (inl refl)
  walked_by xs (Done u q) place n = by_test (deleted_at xs (Done u q) place) n
    where
      by_test : (b : Bool) → Rattle.std.proofs.Common.cond b Clearing Queued ≢ Clearing → IsWalked (Rattle.std.proofs.Common.cond b Clearing Queued)
      by_test true n = absurd (n refl)
      by_test false n = inr (inr refl)

  born_some : (r : Contents) (h : History) (n : ℕ) (slots : List ℕ) → IsOut r h n slots → IsSome (birth_of r n)
  born_some r h n slots o = subst IsSome (sym o.birth) refl

  -- a slot that a walk gave
  walked_on : (r : Contents) (h : History) (n s : ℕ) (walking : Bool) (slots : List ℕ) → Replays h r → walking ≡ true → has s slots ≡ true → WalksIf walking r h n slots → (s < 256) × IsWalked (state_of r s)
  walked_on r h n s walking slots rep going given w =
      let o = out_of walking r h n slots going rep w in
      let v = gave r h n s slots rep o given in
      let used : use_of h s ≡ Tracked = ap (use_of h) (sym v.slot) ∙ v.holds.used in
      let last = ap (record_in (records h)) (sym v.slot) ∙ v.holds.last in
      let small = tracked_small r.walkers h s rep.legal used in
      let is : state_after h s ≡ state_by (snapshots h) v.read.found.course (length h) = ap (λ u. state_for u (record_in (records h) s) (snapshots h) (length h)) used ∙ ap (λ u. state_for Tracked u (snapshots h) (length h)) last in
      let kept : state_by (snapshots h) v.read.found.course (length h) ≢ Clearing = λ e. v.holds.kept (ap (state_after h) v.slot ∙ (is ∙ e)) in
      (small, subst IsWalked (sym ((rep.entries s small).state ∙ is)) (walked_by (snapshots h) v.read.found.course (length h) kept))

  pub walked : (x : DeskValue S) (p : TokenView) (s : ℕ) → (t : AtTurn x p) → is_walking p.own ≡ true → has s (walk_of p.own) ≡ true → (s < 256) × IsWalked (state_of t.facts.registry s)
  walked x p s t going given = walked_on t.facts.registry (history t.facts.log) p.number s (is_walking p.own) (walk_of p.own) t.world.replays going given t.token.walk

  can : (x : DeskValue S) (p : TokenView) (ask : Ask) → (t : AtTurn x p) → May ask p → Can ask t.facts.registry
  can x p Reserve t may = tt
  can x p (Free s) t may = let k = claim_states x p s t (not_free (claim_at p.claims s) may) in (k.0, k.1.0 may)
  can x p (Track s) t may = let k = claim_states x p s t (not_written (claim_at p.claims s) may) in (k.0, k.1.1 may)
  can x p (Unlink s) t may = let k = claim_states x p s t (not_owned (claim_at p.claims s) may) in (k.0, k.1.2 may)
  can x p (Settle s) t may = let k = claim_states x p s t (not_unlinked (claim_at p.claims s) may) in (k.0, k.1.3 may)
  can x p (Snap w) t may =
      let small = may.1 in
      let wide = t.world.walkers in
      (omega arith, may.1, subst (λ (z : ℕ). birth_of t.facts.registry z ≡ None) (sym may.0) (subst (λ (z : Bool). WalksIf z t.facts.registry (history t.facts.log) p.number (walk_of p.own)) may.2 t.token.walk))
  can x p (Unsnap w) t may =
      let o = out_of (is_walking p.own) t.facts.registry (history t.facts.log) p.number (walk_of p.own) may.1 t.world.replays t.token.walk in
      (subst (λ (z : ℕ). z < 16) (sym may.0) o.small, subst (λ (z : ℕ). IsSome (birth_of t.facts.registry z)) (sym may.0) (born_some t.facts.registry (history t.facts.log) p.number (walk_of p.own) o))
  can x p Head t may = tt
  can x p (Next s) t may = walked x p s t may.0 may.1

  pub found_can : (x : DeskValue S) (p : TokenView) (ask : Ask) → AtTurn x p → May ask p → Can ask (registry_of x)
  found_can x p ask t may = subst (λ (z : DeskValue S). Can ask (registry_of z)) (sym t.is) (can x p ask t may)

  either_true : (a b : Bool) → a ≡ true → a || b ≡ true
  either_true true b e = refl
  either_true false b e = absurd (cc)

  found_here : (s : ℕ) (ss : List ℕ) → has s (s ∷ ss) ≡ true
  found_here s ss = either_true (s == s) (has s ss) (eq-eqb s s refl)

  -- the slots of an answer are slots
  small_of : (d : Deed) (x y : DeskValue S) (p : TokenView) → (t : AtTurn x p) → Makes x y d → Does d p (registry_of x) (registry_of y) → HasSmall d
  small_of (deed.Reserve s stamp) x y p t m does = tt
  small_of deed.Full x y p t m does = tt
  small_of (deed.Free s) x y p t m does = tt
  small_of (deed.Track s) x y p t m does = tt
  small_of (deed.Unlink s) x y p t m does = tt
  small_of (deed.Settle s a) x y p t m does = tt
  small_of (deed.Snap w) x y p t m does = tt
  small_of (deed.Unsnap w gone) x y p t m does = λ s is.
      let h : History = history t.facts.log in
      let rep : Replays h (registry_of x) = subst (λ (z : DeskValue S). Replays h (registry_of z)) (sym t.is) t.world.replays in
      tracked_small (registry_of x).walkers h s rep.legal ((m.answers h rep s).0 is).0
  small_of (deed.Head None) x y p t m does = tt
  small_of (deed.Next r None) x y p t m does = tt
  small_of (deed.Head (Some s)) x y p t m does =
      let h : History = history t.facts.log in
      let rep : Replays h (registry_of x) = subst (λ (z : DeskValue S). Replays h (registry_of z)) (sym t.is) t.world.replays in
      let w : WalksIf (is_walking p.own) (registry_of x) h p.number (walk_of p.own) = subst (λ (z : DeskValue S). WalksIf (is_walking p.own) (registry_of z) h p.number (walk_of p.own)) (sym t.is) t.token.walk in
      (walked_on (registry_of y) h p.number s (is_walking p.own) (s ∷ []) (m.replays h rep) does.0 (found_here s []) (deed_walk (deed.Head (Some s)) p (registry_of x) (registry_of y) h rep (m.answers h rep) does w)).0
  small_of (deed.Next r (Some s)) x y p t m does =
      let h : History = history t.facts.log in
      let rep : Replays h (registry_of x) = subst (λ (z : DeskValue S). Replays h (registry_of z)) (sym t.is) t.world.replays in
      let w : WalksIf (is_walking p.own) (registry_of x) h p.number (walk_of p.own) = subst (λ (z : DeskValue S). WalksIf (is_walking p.own) (registry_of z) h p.number (walk_of p.own)) (sym t.is) t.token.walk in
      (walked_on (registry_of y) h p.number s (is_walking p.own) (s ∷ walk_of p.own) (m.replays h rep) does.0 (found_here s (walk_of p.own)) (deed_walk (deed.Next r (Some s)) p (registry_of x) (registry_of y) h rep (m.answers h rep) does w)).0

  pub found_small : (d : Deed) (x y : DeskValue S) (p : TokenView) → AtTurn x p → Makes x y d → Does d p (registry_of x) (registry_of y) → HasSmall d
  found_small d x y p t m does = small_of d x y p t m does

  -- a new stamp is above those given before
  pub found_stamp : (d : Deed) (x y : DeskValue S) (p : TokenView) → AtTurn x p → Makes x y d → HasStamp d
  found_stamp (deed.Reserve s stamp) x y p t m =
      let h : History = history t.facts.log in
      let is : stamp ≡ stamps_given h + 1 = m.answers h (subst (λ (z : DeskValue S). Replays h (registry_of z)) (sym t.is) t.world.replays) in
      omega (arith, is)
  found_stamp deed.Full x y p t m = tt
  found_stamp (deed.Free s) x y p t m = tt
  found_stamp (deed.Track s) x y p t m = tt
  found_stamp (deed.Unlink s) x y p t m = tt
  found_stamp (deed.Settle s a) x y p t m = tt
  found_stamp (deed.Snap w) x y p t m = tt
  found_stamp (deed.Unsnap w gone) x y p t m = tt
  found_stamp (deed.Head a) x y p t m = tt
  found_stamp (deed.Next s a) x y p t m = tt

-- the slots that an ended snapshot lets go are different ones
pub found_once : {S : Type 0} (tree_of : S → Node) (fits : S → Type 0) (d : Deed) (x : DeskValue S) (p : TokenView) → AtTurn tree_of fits x p → IsOnceOver d (registry_of x) → IsOnce d
found_once tree_of fits (deed.Reserve s stamp) x p t o = tt
found_once tree_of fits deed.Full x p t o = tt
found_once tree_of fits (deed.Free s) x p t o = tt
found_once tree_of fits (deed.Track s) x p t o = tt
found_once tree_of fits (deed.Unlink s) x p t o = tt
found_once tree_of fits (deed.Settle s a) x p t o = tt
found_once tree_of fits (deed.Snap w) x p t o = tt
found_once {S} tree_of fits (deed.Unsnap w gone) x p t o = o (history t.facts.log) (subst (λ (z : DeskValue S). Replays (history t.facts.log) (registry_of z)) (sym t.is) t.world.replays)
found_once tree_of fits (deed.Head a) x p t o = tt
found_once tree_of fits (deed.Next s a) x p t o = tt

-- what was done is what the token might do
pub does_of : (ask : Ask) (d : Deed) (p : TokenView) (x y : Contents) → May ask p → Performed ask d x y → Does d p x y
does_of Reserve (deed.Reserve s stamp) p x y may k = k
does_of Reserve deed.Full p x y may k = k
does_of Reserve (deed.Free s) p x y may k = absurd k
does_of Reserve (deed.Track s) p x y may k = absurd k
does_of Reserve (deed.Unlink s) p x y may k = absurd k
does_of Reserve (deed.Settle s a) p x y may k = absurd k
does_of Reserve (deed.Snap w) p x y may k = absurd k
does_of Reserve (deed.Unsnap w a) p x y may k = absurd k
does_of Reserve (deed.Head a) p x y may k = absurd k
does_of Reserve (deed.Next s a) p x y may k = absurd k
does_of (Free s) d p x y may k = subst (λ (z : Deed). Does z p x y) (sym k.0) (may, k.1)
does_of (Track s) d p x y may k = subst (λ (z : Deed). Does z p x y) (sym k.0) (may, k.1)
does_of (Unlink s) d p x y may k = subst (λ (z : Deed). Does z p x y) (sym k.0) (may, k.1)
does_of (Settle s) (deed.Settle t a) p x y may k = (subst (λ (z : ℕ). IsUnlinked (claim_at p.claims z)) (sym k.0) may, subst (λ (z : ℕ). Rattle.cordz_core.specs.Links.Moves x y z (Rattle.cordz_core.specs.Links.moved_to a)) (sym k.0) k.1)
does_of (Settle s) (deed.Reserve a b) p x y may k = absurd k
does_of (Settle s) deed.Full p x y may k = absurd k
does_of (Settle s) (deed.Free t) p x y may k = absurd k
does_of (Settle s) (deed.Track t) p x y may k = absurd k
does_of (Settle s) (deed.Unlink t) p x y may k = absurd k
does_of (Settle s) (deed.Snap w) p x y may k = absurd k
does_of (Settle s) (deed.Unsnap w a) p x y may k = absurd k
does_of (Settle s) (deed.Head a) p x y may k = absurd k
does_of (Settle s) (deed.Next t a) p x y may k = absurd k
does_of (Snap w) d p x y may k = subst (λ (z : Deed). Does z p x y) (sym k.0) (may.0, may.1, may.2, k.1)
does_of (Unsnap w) (deed.Unsnap v a) p x y may k = (k.0 ∙ may.0, may.1, subst (λ (z : ℕ). Rattle.cordz_core.specs.Links.Ends x y z a.items) (sym k.0) k.1)
does_of (Unsnap w) (deed.Reserve a b) p x y may k = absurd k
does_of (Unsnap w) deed.Full p x y may k = absurd k
does_of (Unsnap w) (deed.Free t) p x y may k = absurd k
does_of (Unsnap w) (deed.Track t) p x y may k = absurd k
does_of (Unsnap w) (deed.Unlink t) p x y may k = absurd k
does_of (Unsnap w) (deed.Settle t a) p x y may k = absurd k
does_of (Unsnap w) (deed.Snap v) p x y may k = absurd k
does_of (Unsnap w) (deed.Head a) p x y may k = absurd k
does_of (Unsnap w) (deed.Next t a) p x y may k = absurd k
does_of Head (deed.Head a) p x y may k = (may, k)
does_of Head (deed.Reserve a b) p x y may k = absurd k
does_of Head deed.Full p x y may k = absurd k
does_of Head (deed.Free t) p x y may k = absurd k
does_of Head (deed.Track t) p x y may k = absurd k
does_of Head (deed.Unlink t) p x y may k = absurd k
does_of Head (deed.Settle t a) p x y may k = absurd k
does_of Head (deed.Snap v) p x y may k = absurd k
does_of Head (deed.Unsnap w a) p x y may k = absurd k
does_of Head (deed.Next t a) p x y may k = absurd k
does_of (Next s) (deed.Next t a) p x y may k = (may.0, subst (λ (z : ℕ). has z (walk_of p.own) ≡ true) (sym k.0) may.1, k.1)
does_of (Next s) (deed.Reserve a b) p x y may k = absurd k
does_of (Next s) deed.Full p x y may k = absurd k
does_of (Next s) (deed.Free t) p x y may k = absurd k
does_of (Next s) (deed.Track t) p x y may k = absurd k
does_of (Next s) (deed.Unlink t) p x y may k = absurd k
does_of (Next s) (deed.Settle t a) p x y may k = absurd k
does_of (Next s) (deed.Snap v) p x y may k = absurd k
does_of (Next s) (deed.Unsnap w a) p x y may k = absurd k
does_of (Next s) (deed.Head a) p x y may k = absurd k

pub deed_few : (d : Deed) (made : ℕ) → made < most_actions → length (after_deed d []) + made ≤ most_actions
deed_few (deed.Reserve s stamp) made less = omega arith
deed_few deed.Full made less = omega arith
deed_few (deed.Free s) made less = omega arith
deed_few (deed.Track s) made less = omega arith
deed_few (deed.Unlink s) made less = omega arith
deed_few (deed.Settle s a) made less = omega arith
deed_few (deed.Snap w) made less = omega arith
deed_few (deed.Unsnap w a) made less = omega arith
deed_few (deed.Head a) made less = omega arith
deed_few (deed.Next s a) made less = omega arith
