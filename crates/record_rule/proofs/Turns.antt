-- A turn of a record, by kind, as a step under the rule of the desk.
use Rattle.std.proofs.Common.{◌≡◌, ◌≢◌, ℕ, ◌<◌, ◌+◌, List, [], ◌∷◌, Bool, true, false, set, Option, Some, refl, sym, ap, ◌∙◌, subst, inl, inr, ⊎_elim, arith, length-set}
use mathlib.Core.Option.{some, some-injective}
use lib.ListN.{get_elem?}
use Rattle.atomic_table.proofs.Lists.{set_else}
use Rattle.node_forest.specs.Label.{Node}
use Rattle.cordz_core.specs.Contents.{state_of}
use Rattle.cordz_core.specs.History.{History, stamp_in}
use Rattle.record_rule.specs.declared.values.DeskValue.{DeskValue}
use Rattle.record_rule.specs.declared.values.DeskValue.TheVariants.{Record}
use Rattle.record_rule.specs.declared.values.Rep.{Rep}
use Rattle.record_rule.specs.declared.views.Claim.{Claim}
use Rattle.record_rule.specs.declared.views.Claim.TheVariants.{Nothing, Promised, Written, Cleared, Emptied}
use Rattle.record_rule.specs.declared.views.Noted.{Noted}
use Rattle.record_rule.specs.declared.views.TokenView.{TokenView}
use Rattle.record_rule.specs.declared.views.DeskView.{DeskView}
use Rattle.record_rule.specs.declared.views.DeskView.TheVariants.{Token}
use Rattle.record_rule.specs.Log.{history}
use Rattle.record_rule.specs.Notes.{GrowsTo, AreNotes, NoneAbove}
use Rattle.record_rule.specs.Steps.{Wrote, Drained}
use Rattle.record_rule.specs.Views.{claim_at, claiming, left_of}
use Rattle.record_rule.specs.World.{Facts, Has, IsToken, Fits, HasRecord, IsSlot, IsWorld}
use Rattle.record_rule.proofs.Moving.{Follows, ToldHere, moved, grows_moved, only_stamp, token_moved, told_still, world_moved, set_there}
use Rattle.record_rule.proofs.Others.{Grows, untracked_stay}
use Rattle.record_rule.proofs.Slots.{changed_here, stamp_given}

module _ {S : Type 0} (tree_of : S → Node) (fits : S → Type 0) where
  -- a turn of the record of the slot s
  abbrev pub Turned : List (DeskValue S) → List (Option DeskView) → ℕ → ℕ → Rep S → DeskView → Type 0
  Turned values views by s r w = (k : Facts) × IsWorld tree_of fits k (set values (s + 1) (Record r)) (set views by (Some w))

  follows_same : (g : Facts) (values : List (DeskValue S)) (views : List (Option DeskView)) (by : ℕ) → IsWorld tree_of fits g values views → Follows g by g.log g.registry
  follows_same g values views by world = record {
    own = λ n less apart. refl;
    unlinked = λ n less apart. refl;
    more = λ n t e. e;
    walk = λ n less apart walking slots w. w;
    replays = world.replays;
    walkers = refl;
    logged = world.log;
    stamps = (let n : ℕ = Rattle.cordz_core.specs.History.stamps_given (history g.log) in omega arith);
    ungiven = world.ungiven;
  }

  -- the record of a slot that this seat has, before the turn and after it
  pub record Turning (g : Facts) (values : List (DeskValue S)) (views : List (Option DeskView)) (by s : ℕ) (v w : DeskView) (c : Claim) (lives : Bool) (list : List Noted) (old new : Rep S) : Type 0 where
    pub world : IsWorld tree_of fits g values views
    pub seen : get_elem? views by ≡ some (Some v)
    pub there : get_elem? values (s + 1) ≡ some (Record old)
    pub small : s < 256
    pub owner : g.owner s ≡ by
    pub at : g.slot (stamp_in (history g.log) s) ≡ s
    pub grown : GrowsTo (g.notes (stamp_in (history g.log) s)) list
    pub shut : g.live (stamp_in (history g.log) s) ≡ false → (lives ≡ false) × (list ≡ g.notes (stamp_in (history g.log) s))
    pub noted : AreNotes (stamp_in (history g.log) s) list
    pub is : IsSlot tree_of fits c (state_of g.registry s) s (stamp_in (history g.log) s) s lives list new
    pub left : left_of (Some w) ≡ left_of (Some v)
    pub told : ToldHere g by g.log g.registry s c (stamp_in (history g.log) s) s lives list

  pub turned : (g : Facts) (values : List (DeskValue S)) (views : List (Option DeskView)) (by s : ℕ) (v w : DeskView) (c : Claim) (lives : Bool) (list : List Noted) (old new : Rep S) → Turning g values views by s v w c lives list old new
      → (Grows (λ j. j ≡ by) g (moved g by g.log g.registry s c (stamp_in (history g.log) s) s lives list) → Fits (moved g by g.log g.registry s c (stamp_in (history g.log) s) s lives list) by (Some w))
      → Turned values views by s new w
  turned g values views by s v w c lives list old new t fitting =
      let stamp : ℕ = stamp_in (history g.log) s in
      let f = follows_same g values views by t.world in
      let grows = grows_moved g by g.log g.registry s c stamp s lives list f (inr t.owner) t.grown t.shut in
      let left = t.left in (
        moved g by g.log g.registry s c stamp s lives list,
        world_moved tree_of fits g values (set values (s + 1) (Record new)) views by v w g.log g.registry s c stamp s lives list t.world t.seen f
            (set_else values (s + 1) 0 (Record new) (λ e. omega arith) ∙ t.world.first)
            (length-set values (s + 1) (Record new))
            (omega arith)
            (λ i not. (set_else values (s + 1) (i + 1) (Record new) (λ e. not (omega arith)), refl, refl))
            (λ i not same here. not (sym here ∙ t.at))
            (record {
              rep = new;
              at = set_there values (s + 1) (Record old) (Record new) t.there;
              is = subst (λ (z : Claim × ℕ × Bool × List Noted). IsSlot tree_of fits z.0 (state_of g.registry s) s stamp z.1 z.2 z.3 new)
                  (λ i. (sym (changed_here g.claims s s c refl) i, sym (changed_here g.slot stamp stamp s refl) i, sym (changed_here g.live stamp stamp lives refl) i, sym (changed_here g.notes stamp stamp list refl) i)) t.is;
            })
            t.noted (stamp_given (history g.log) s) (only_stamp tree_of fits g values views s t.world t.small) t.told grows (fitting grows),
      )

  pub record_is : (a b : Rep S) → Record a ≡ Record b → a ≡ b
  record_is a b e = cc

  -- what a token finds in a slot that it has a claim on
  pub found_in : (g : Facts) (values : List (DeskValue S)) (views : List (Option DeskView)) (by s : ℕ) (p : TokenView) (c : Claim) (old : Rep S) → IsWorld tree_of fits g values views → get_elem? views by ≡ some (Some (Token p)) → get_elem? values (s + 1) ≡ some (Record old) → claim_at p.claims s ≡ c → c ≢ Nothing
      → Has g by s c × IsSlot tree_of fits c (state_of g.registry s) s (stamp_in (history g.log) s) (g.slot (stamp_in (history g.log) s)) (g.live (stamp_in (history g.log) s)) (g.notes (stamp_in (history g.log) s)) old
  found_in g values views by s p c old world seen there e held =
      let k : IsToken g by p = world.each by (Some (Token p)) seen in
      let h : Has g by s c = subst (Has g by s) e (⊎_elim (λ none. absurd (held (sym e ∙ none))) (λ z. z) (k.claims s)) in
      let o = world.slots s h.0 in
      let same = record_is o.rep old (some-injective (Record o.rep) (Record old) (sym o.at ∙ there)) in
      (h, subst (λ (z : Claim × Rep S). IsSlot tree_of fits z.0 (state_of g.registry s) s (stamp_in (history g.log) s) (g.slot (stamp_in (history g.log) s)) (g.live (stamp_in (history g.log) s)) (g.notes (stamp_in (history g.log) s)) z.1) (λ i. (h.2 i, same i)) o.is)

  -- the token whose turn it was, with one claim changed
  claimed : (g : Facts) (by s : ℕ) (p : TokenView) (c : Claim) (lives : Bool) (list : List Noted) → IsToken g by p → s < 256
      → Grows (λ j. j ≡ by) g (moved g by g.log g.registry s c (stamp_in (history g.log) s) s lives list)
      → IsToken (moved g by g.log g.registry s c (stamp_in (history g.log) s) s lives list) by (claiming s c p)
  claimed g by s p c lives list k small grows =
      token_moved g by g.log g.registry s c (stamp_in (history g.log) s) s lives list p p.own p.untracked k grows small k.own k.walk
      (untracked_stay (λ j. j ≡ by) g (moved g by g.log g.registry s c (stamp_in (history g.log) s) s lives list) grows p.untracked k.untracked) k.unlinked

  pub wrote : (g : Facts) (values : List (DeskValue S)) (views : List (Option DeskView)) (by : ℕ) (l : ℕ) (x y : DeskValue S) (v w : DeskView) → IsWorld tree_of fits g values views → (t : Wrote tree_of fits l x y v w)
      → get_elem? views by ≡ some (Some (Token t.token)) → get_elem? values (t.slot + 1) ≡ some (Record t.old) → Turned values views by t.slot t.new (Token (claiming t.slot (Written t.stamp (t.note ∷ [])) t.token))
  wrote g values views by l x y v w world t seen there =
      let s : ℕ = t.slot in
      let c : Claim = Written t.stamp (t.note ∷ []) in
      let f = found_in g values views by s t.token (Promised t.stamp) t.old world seen there t.claim (λ e. cc) in
      let k : IsToken g by t.token = world.each by (Some (Token t.token)) seen in
      let stamp : ℕ = stamp_in (history g.log) s in
      let named : t.new.stamp ≡ stamp = t.stamped ∙ f.1.2 in
      turned g values views by s (Token t.token) (Token (claiming s c t.token)) c true (t.note ∷ []) t.old t.new record {
        world = world;
        seen = seen;
        there = there;
        small = f.0.0;
        owner = f.0.1;
        at = f.1.3;
        grown = inr (t.note, ap (λ l. t.note ∷ l) (sym f.1.4), subst (NoneAbove t.note.note.update) (sym f.1.4) tt);
        shut = λ e. absurd (let z : true ≡ false = sym f.1.1 ∙ e in cc);
        noted = (ap (λ z. z.stamp) t.is.note ∙ named, t.is.long, tt, tt);
        is = (f.1.0, refl, f.1.2, refl, t.is.some, (refl, named, record { newest = t.note; older = []; list = refl; note = t.is.note; share = t.is.share }));
        left = refl;
        told = inr (inl (refl, f.0.0, f.1.2));
      }
      (claimed g by s t.token c true (t.note ∷ []) k f.0.0)

  pub drained : (g : Facts) (values : List (DeskValue S)) (views : List (Option DeskView)) (by : ℕ) (l : ℕ) (x y : DeskValue S) (v w : DeskView) → IsWorld tree_of fits g values views → (t : Drained l x y v w)
      → get_elem? views by ≡ some (Some (Token t.token)) → get_elem? values (t.slot + 1) ≡ some (Record t.old) → Turned values views by t.slot t.new (Token (claiming t.slot Emptied t.token))
  drained g values views by l x y v w world t seen there =
      let s : ℕ = t.slot in
      let f = found_in g values views by s t.token (Cleared t.bare) t.old world seen there t.claim (λ e. cc) in
      let k : IsToken g by t.token = world.each by (Some (Token t.token)) seen in
      let stamp : ℕ = stamp_in (history g.log) s in
      turned g values views by s (Token t.token) (Token (claiming s Emptied t.token)) Emptied (g.live stamp) (g.notes stamp) t.old t.new record {
        world = world;
        seen = seen;
        there = there;
        small = f.0.0;
        owner = f.0.1;
        at = f.1.3.0;
        grown = inl refl;
        shut = λ e. (e, refl);
        noted = world.notes stamp;
        is = (f.1.0, refl, t.none);
        left = refl;
        told = told_still g by g.log g.registry s Emptied stamp s (g.live stamp) (follows_same g values views by world) f.1.3.0 (λ h. subst (λ (z : Claim). HasRecord z stamp) f.0.2 h) (world.told stamp);
      }
      (claimed g by s t.token Emptied (g.live stamp) (g.notes stamp) k f.0.0)
