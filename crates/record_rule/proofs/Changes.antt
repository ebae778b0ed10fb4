-- A turn of a record in which its ticket changes it, or another token reads it.
use Rattle.std.proofs.Common.{◌≡◌, ℕ, ◌<◌, ◌≤◌, ◌+◌, List, [], ◌∷◌, Bool, true, false, set, MatchOption, Option, Some, None, refl, sym, ap, ◌∙◌, subst, inl, inr, ⊎_elim, arith, length-set}
use Rattle.std.specs.Bool.{⊤}
use mathlib.Core.Logic.{dite}
use native.Mathlib.Decide.{ℕ_discrete}
use mathlib.Core.Option.{some, some-injective}
use lib.ListN.{get_elem?}
use Rattle.atomic_table.proofs.Lists.{set_else, set_again}
use Rattle.node_forest.specs.Label.{Node}
use Rattle.cordz_core.specs.declared.slot.SlotState.{SlotState}
use Rattle.cordz_core.specs.Contents.{state_of}
use Rattle.cordz_core.specs.History.{stamp_in}
use Rattle.record_rule.specs.declared.values.DeskValue.{DeskValue}
use Rattle.record_rule.specs.declared.values.DeskValue.TheVariants.{Record}
use Rattle.record_rule.specs.declared.values.Rep.{Rep}
use Rattle.record_rule.specs.declared.views.Claim.{Claim}
use Rattle.record_rule.specs.declared.views.Claim.TheVariants.{Nothing, Promised, Written, Owned, Unlinked, Cleared, Emptied}
use Rattle.record_rule.specs.declared.views.Noted.{Noted}
use Rattle.record_rule.specs.declared.views.DeskView.{DeskView}
use Rattle.record_rule.specs.declared.views.DeskView.TheVariants.{Token, Ticket}
use Rattle.record_rule.specs.Log.{history}
use Rattle.record_rule.specs.Notes.{IsNoteOf, GrowsTo, AreNotes, NoneAbove}
use Rattle.record_rule.specs.Steps.{IsKept, IsPublished, Altered, Took, Passed}
use Rattle.record_rule.specs.Views.{reading}
use Rattle.record_rule.specs.World.{Facts, Has, IsToken, IsRecord, IsRecordAt, IsSlot, HasSlot, IsWorld, is_bare, is_none}
use Rattle.record_rule.proofs.Moving.{all_left_set, set_there, views_next}
use Rattle.record_rule.proofs.Others.{Grows}
use Rattle.record_rule.proofs.Slots.{changed_here}
use Rattle.record_rule.proofs.Turns.{Turned, turned, record_is}

none_above : (u w : ℕ) (ns : List Noted) → u ≤ w → NoneAbove u ns → NoneAbove w ns
none_above u w [] le a = tt
none_above u w (n ∷ ns) le a = (let b = a.0 in omega arith, none_above u w ns le a.1)

noted_is : (a b : Noted) → a.note ≡ b.note → a.tree ≡ b.tree → a ≡ b
noted_is a b e f = λ i. record { note = e i; tree = f i }

nothing_kept : {S : Type 0} (o : Option S) → is_none o ≡ true → o ≡ None
nothing_kept None e = refl
nothing_kept (Some x) e = absurd (cc)

-- nothing has changed but values
same_facts : (touched : ℕ → Type 0) (g : Facts) → Grows touched g g
same_facts touched g = record {
  given = (let n : ℕ = g.given in omega arith);
  root = refl;
  same = λ _. refl;
  seat = λ n less apart. refl;
  own = λ n less apart. refl;
  unlinked = λ n less apart. refl;
  claims = λ s held apart. (refl, refl);
  walk = λ n less apart walking slots w. w;
  notes = λ t. inl refl;
  closed = λ t shut. (shut, refl);
}

module _ {S : Type 0} (tree_of : S → Node) (fits : S → Type 0) where
  share_kept : (o n : Option S) (t : Node) → MatchOption o ⊤ (λ x. fits x × (tree_of x ≡ t)) → MatchOption n ⊤ (λ x. fits x × MatchOption o ⊥ (λ y. tree_of x ≡ tree_of y)) → MatchOption n ⊤ (λ x. fits x × (tree_of x ≡ t))
  share_kept o None t a b = tt
  share_kept None (Some x) t a b = absurd b.1
  share_kept (Some y) (Some x) t a b = (b.0, b.1 ∙ a.1)

  kept_record : (old new : Rep S) (notes : List Noted) → IsKept tree_of fits old new → IsRecord tree_of fits old notes → IsRecord tree_of fits new notes
  kept_record old new notes k r = record { newest = r.newest; older = r.older; list = r.list; note = r.note ∙ sym k.note; share = share_kept old.hold new.hold r.newest.tree r.share k.share }

  kept_at : (s stamp at : ℕ) (notes : List Noted) (old new : Rep S) → IsKept tree_of fits old new → IsRecordAt tree_of fits s stamp at notes old → IsRecordAt tree_of fits s stamp at notes new
  kept_at s stamp at notes old new k r = (r.0, ap (λ z. z.stamp) k.note ∙ r.1, kept_record old new notes k r.2)

  -- a record that isn't bare is one of these notes
  pub held_record : (c : Claim) (state : SlotState) (s stamp at : ℕ) (live : Bool) (notes : List Noted) (r : Rep S) → is_bare r ≡ false → IsSlot tree_of fits c state s stamp at live notes r → IsRecordAt tree_of fits s stamp at notes r
  held_record Nothing state s stamp at live notes r has (inl k) = absurd (let z : false ≡ true = sym has ∙ ap is_none k.1 in cc)
  held_record Nothing state s stamp at live notes r has (inr k) = k.2
  held_record (Promised own) state s stamp at live notes r has k = absurd (let z : false ≡ true = sym has ∙ ap is_none k.5 in cc)
  held_record (Written own ns) state s stamp at live notes r has k = k.5
  held_record (Owned own ns bare) state s stamp at live notes r has k = k.5
  held_record (Unlinked own bare) state s stamp at live notes r has k = k.4
  held_record (Cleared bare) state s stamp at live notes r has k = k.3
  held_record Emptied state s stamp at live notes r has k = absurd (let z : false ≡ true = sym has ∙ ap is_none k.2 in cc)

  said_kept : (bare : Option (ℕ × Bool)) (stamp : ℕ) (x y : Bool) → y ≡ x → MatchOption bare ⊤ (λ b. (b.0 ≡ stamp) × (b.1 ≡ x)) → MatchOption bare ⊤ (λ b. (b.0 ≡ stamp) × (b.1 ≡ y))
  said_kept None stamp x y e k = tt
  said_kept (Some b) stamp x y e k = (k.0, k.1 ∙ sym e)

  -- a slot whose record has a share of the same tree, and had one before
  kept_slot : (c : Claim) (state : SlotState) (s stamp at : ℕ) (live : Bool) (notes : List Noted) (old new : Rep S) → IsKept tree_of fits old new → is_bare old ≡ false → is_bare new ≡ false
      → IsSlot tree_of fits c state s stamp at live notes old → IsSlot tree_of fits c state s stamp at live notes new
  kept_slot Nothing state s stamp at live notes old new k was is (inl z) = absurd (let e : false ≡ true = sym was ∙ ap is_none z.1 in cc)
  kept_slot Nothing state s stamp at live notes old new k was is (inr z) = inr (z.0, z.1, kept_at s stamp at notes old new k z.2)
  kept_slot (Promised own) state s stamp at live notes old new k was is z = absurd (let e : false ≡ true = sym was ∙ ap is_none z.5 in cc)
  kept_slot (Written own ns) state s stamp at live notes old new k was is z = (z.0, z.1, z.2, z.3, is, kept_at s stamp at notes old new k z.5)
  kept_slot (Owned own ns bare) state s stamp at live notes old new k was is z = (z.0, z.1, z.2, z.3, z.4 ∙ (was ∙ sym is), kept_at s stamp at notes old new k z.5)
  kept_slot (Unlinked own bare) state s stamp at live notes old new k was is z = (z.0, z.1, z.2, z.3 ∙ (was ∙ sym is), kept_at s stamp at notes old new k z.4)
  kept_slot (Cleared bare) state s stamp at live notes old new k was is z = (z.0, z.1, said_kept bare stamp (is_bare old) (is_bare new) (is ∙ sym was) z.2, kept_at s stamp at notes old new k z.3)
  kept_slot Emptied state s stamp at live notes old new k was is z = absurd (let e : false ≡ true = sym was ∙ ap is_none z.2 in cc)

  -- the notes and the record after a ticket's turn
  record Edited (stamp : ℕ) (list later : List Noted) (new : Rep S) : Type 0 where
    pub grown : GrowsTo list later
    pub noted : AreNotes stamp later
    pub stamped : new.stamp ≡ stamp
    pub is : IsRecord tree_of fits new later

  edit_kept : (stamp : ℕ) (list later : List Noted) (old new : Rep S) → AreNotes stamp list → IsRecord tree_of fits old list → old.stamp ≡ stamp → later ≡ list → IsKept tree_of fits old new → Edited stamp list later new
  edit_kept stamp list later old new a r o e k = record {
    grown = inl e;
    noted = subst (AreNotes stamp) (sym e) a;
    stamped = ap (λ z. z.stamp) k.note ∙ o;
    is = subst (IsRecord tree_of fits new) (sym e) (kept_record old new list k r);
  }

  above_all : (stamp : ℕ) (list : List Noted) (old : Rep S) (w : ℕ) → AreNotes stamp list → IsRecord tree_of fits old list → old.update ≤ w → NoneAbove w list
  above_all stamp list old w a r raised =
      let b : AreNotes stamp (r.newest ∷ r.older) = subst (AreNotes stamp) r.list a in
      let e : r.newest.note.update ≡ old.update = ap (λ z. z.update) r.note in
      subst (NoneAbove w) (sym r.list) (omega arith, none_above r.newest.note.update w r.older (omega arith) b.2)

  edit_published : (stamp own : ℕ) (list notes later : List Noted) (old new : Rep S) → own ≡ stamp → notes ≡ list → AreNotes stamp list → IsRecord tree_of fits old list → IsPublished tree_of fits own old new notes later → Edited stamp list later new
  edit_published stamp own list notes later old new o n a r p =
      let e : later ≡ p.note ∷ list = p.list ∙ ap (λ l. p.note ∷ l) n in
      let at : p.note.note.update ≡ new.update = ap (λ z. z.update) p.is.note in
      let raised = p.raised in
      let above = above_all stamp list old p.note.note.update a r (omega arith) in
      record {
        grown = inr (p.note, e, above);
        noted = subst (AreNotes stamp) (sym e) (ap (λ z. z.stamp) p.is.note ∙ (p.stamped ∙ o), p.is.long, above, a);
        stamped = p.stamped ∙ o;
        is = record { newest = p.note; older = notes; list = p.list; note = p.is.note; share = p.is.share };
      }

  -- the record of a slot
  pub slot_found : (g : Facts) (values : List (DeskValue S)) (views : List (Option DeskView)) (s : ℕ) (old : Rep S) → IsWorld tree_of fits g values views → s < 256 → get_elem? values (s + 1) ≡ some (Record old)
      → IsSlot tree_of fits (g.claims s) (state_of g.registry s) s (stamp_in (history g.log) s) (g.slot (stamp_in (history g.log) s)) (g.live (stamp_in (history g.log) s)) (g.notes (stamp_in (history g.log) s)) old
  slot_found g values views s old world small there =
      let o = world.slots s small in
      let same = record_is tree_of fits o.rep old (some-injective (Record o.rep) (Record old) (sym o.at ∙ there)) in
      subst (IsSlot tree_of fits (g.claims s) (state_of g.registry s) s (stamp_in (history g.log) s) (g.slot (stamp_in (history g.log) s)) (g.live (stamp_in (history g.log) s)) (g.notes (stamp_in (history g.log) s))) same o.is

  pub owned_found : (g : Facts) (values : List (DeskValue S)) (views : List (Option DeskView)) (by s stamp : ℕ) (notes : List Noted) (bare : Bool) (old : Rep S) → IsWorld tree_of fits g values views → Has g by s (Owned stamp notes bare) → get_elem? values (s + 1) ≡ some (Record old)
      → IsSlot tree_of fits (Owned stamp notes bare) (state_of g.registry s) s (stamp_in (history g.log) s) (g.slot (stamp_in (history g.log) s)) (g.live (stamp_in (history g.log) s)) (g.notes (stamp_in (history g.log) s)) old
  owned_found g values views by s stamp notes bare old world h there =
      subst (λ (z : Claim). IsSlot tree_of fits z (state_of g.registry s) s (stamp_in (history g.log) s) (g.slot (stamp_in (history g.log) s)) (g.live (stamp_in (history g.log) s)) (g.notes (stamp_in (history g.log) s)) old) h.2
      (slot_found g values views s old world h.0 there)

  pub altered : (g : Facts) (values : List (DeskValue S)) (views : List (Option DeskView)) (by l : ℕ) (x y : DeskValue S) (v w : DeskView) → IsWorld tree_of fits g values views → (t : Altered tree_of fits l x y v w)
      → get_elem? views by ≡ some (Some (Ticket t.slot t.stamp t.notes t.bare)) → get_elem? values (t.slot + 1) ≡ some (Record t.old) → Turned tree_of fits values views by t.slot t.new (Ticket t.slot t.stamp t.later (is_bare t.new))
  altered g values views by l x y v w world t seen there =
      let s : ℕ = t.slot in
      let stamp : ℕ = stamp_in (history g.log) s in
      let c : Claim = Owned t.stamp t.later (is_bare t.new) in
      let h : Has g by s (Owned t.stamp t.notes t.bare) = world.each by (Some (Ticket t.slot t.stamp t.notes t.bare)) seen in
      let f = owned_found g values views by s t.stamp t.notes t.bare t.old world h there in
      let edit : Edited stamp (g.notes stamp) t.later t.new = ⊎_elim
      (λ (k : (t.later ≡ t.notes) × IsKept tree_of fits t.old t.new). edit_kept stamp (g.notes stamp) t.later t.old t.new (world.notes stamp) f.5.2 f.5.1 (k.0 ∙ f.3) k.1)
      (λ (k : IsPublished tree_of fits t.stamp t.old t.new t.notes t.later). edit_published stamp t.stamp (g.notes stamp) t.notes t.later t.old t.new f.2 f.3 (world.notes stamp) f.5.2 k)
      t.change in
      turned tree_of fits g values views by s (Ticket t.slot t.stamp t.notes t.bare) (Ticket t.slot t.stamp t.later (is_bare t.new)) c true t.later t.old t.new record {
        world = world;
        seen = seen;
        there = there;
        small = h.0;
        owner = h.1;
        at = f.5.0;
        grown = edit.grown;
        shut = λ e. absurd (let z : true ≡ false = sym f.1 ∙ e in cc);
        noted = edit.noted;
        is = (f.0, refl, f.2, refl, refl, (refl, edit.stamped, edit.is));
        left = refl;
        told = inr (inl (refl, h.0, f.2));
      }
      (λ grows. (h.0, changed_here g.owner s s by refl, changed_here g.claims s s c refl))

  pub took : (g : Facts) (values : List (DeskValue S)) (views : List (Option DeskView)) (by l : ℕ) (x y : DeskValue S) (v w : DeskView) → IsWorld tree_of fits g values views → (t : Took tree_of fits l x y v w)
      → get_elem? views by ≡ some (Some (Token t.token)) → get_elem? values (t.slot + 1) ≡ some (Record t.old) → Turned tree_of fits values views by t.slot t.new (Token (reading t.note t.token))
  took g values views by l x y v w world t seen there = (
    g,
    record {
      first = set_else values (s + 1) 0 (Record t.new) (λ e. omega arith) ∙ world.first;
      count = length-set values (s + 1) (Record t.new) ∙ world.count;
      walkers = world.walkers;
      replays = world.replays;
      log = world.log;
      room = (let total = all_left_set views by (Some (Token t.token)) (Some (Token (reading t.note t.token))) seen in let had = world.room in omega arith);
      slots = λ i small. dite (ℕ_discrete i s)
          (λ is. subst (HasSlot tree_of fits g (set values (s + 1) (Record t.new))) (sym is) record {
            rep = t.new;
            at = set_there values (s + 1) (Record t.old) (Record t.new) there;
            is = kept_slot (g.claims s) (state_of g.registry s) s stamp (g.slot stamp) (g.live stamp) (g.notes stamp) t.old t.new t.kept was t.some f;
          })
          (λ not. let o = world.slots i small in record { rep = o.rep; at = set_else values (s + 1) (i + 1) (Record t.new) (λ e. not (omega arith)) ∙ o.at; is = o.is });
      notes = world.notes;
      unborn = world.unborn;
      told = world.told;
      few = world.few;
      ungiven = world.ungiven;
      each = views_next g g views by (Some (Token (reading t.note t.token))) (same_facts (λ j. j ≡ by) g) (record {
        seat = k.seat;
        given = k.given;
        own = k.own;
        claims = k.claims;
        walk = k.walk;
        reads = (read, k.reads);
        untracked = k.untracked;
        unlinked = k.unlinked;
        shown = k.shown;
      }) world.each;
    },
  )
    where
      s : ℕ
      s = t.slot

      stamp : ℕ
      stamp = stamp_in (history g.log) s

      k : IsToken g by t.token
      k = world.each by (Some (Token t.token)) seen

      was_some : (o : Option S) (n : Node) → MatchOption o ⊥ (λ z. tree_of z ≡ n) → is_none o ≡ false
      was_some None n m = absurd m
      was_some (Some z) n m = refl

      same_tree : (o : Option S) (n m : Node) → MatchOption o ⊥ (λ z. tree_of z ≡ n) → MatchOption o ⊤ (λ z. fits z × (tree_of z ≡ m)) → m ≡ n
      same_tree None n m a b = absurd a
      same_tree (Some z) n m a b = sym b.1 ∙ a

      was : is_bare t.old ≡ false
      was = was_some t.old.hold t.note.tree t.tree

      f : IsSlot tree_of fits (g.claims s) (state_of g.registry s) s stamp (g.slot stamp) (g.live stamp) (g.notes stamp) t.old
      f = slot_found g values views s t.old world t.small there

      r : IsRecordAt tree_of fits s stamp (g.slot stamp) (g.notes stamp) t.old
      r = held_record (g.claims s) (state_of g.registry s) s stamp (g.slot stamp) (g.live stamp) (g.notes stamp) t.old was f

      is : r.2.newest ≡ t.note
      is = noted_is r.2.newest t.note (r.2.note ∙ sym t.noted) (same_tree t.old.hold t.note.tree r.2.newest.tree t.tree r.2.share)

      stamped : t.note.note.stamp ≡ stamp
      stamped = ap (λ z. z.stamp) t.noted ∙ r.1

      read : IsNoteOf t.note (g.notes t.note.note.stamp)
      read = subst (λ (z : ℕ). IsNoteOf t.note (g.notes z)) (sym stamped) (subst (IsNoteOf t.note) (sym r.2.list) (inl is))

  pub passed : (g : Facts) (values : List (DeskValue S)) (views : List (Option DeskView)) (by l : ℕ) (x y : DeskValue S) (v w : DeskView) → IsWorld tree_of fits g values views → get_elem? values l ≡ some x → get_elem? views by ≡ some (Some v) → Passed x y v w
      → (k : Facts) × IsWorld tree_of fits k (set values l y) (set views by (Some w))
  passed g values views by l x y v w world at seen t = (
    g,
    subst (λ (z : List (DeskValue S) × List (Option DeskView)). IsWorld tree_of fits g z.0 z.1)
        (λ i. (sym (ap (set values l) t.value ∙ set_again values l x at) i, sym (ap (λ (z : DeskView). set views by (Some z)) t.view ∙ set_again views by (Some v) seen) i)) world,
  )
