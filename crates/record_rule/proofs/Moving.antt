-- A step of one token: what it has to show, so that the rule of the desk survives it.
use Rattle.std.proofs.Common.{◌≡◌, ◌≢◌, ◌⊎◌, ℕ, zero, suc, ◌<◌, ◌≤◌, ◌+◌, List, [], ◌∷◌, ◌++◌, Bool, true, false, cond, set, length, Option, Some, None, refl, sym, ap, ◌∙◌, subst, inl, inr, ⊎_elim, arith, eq-eqb, ne_eqb}
use mathlib.Core.Logic.{dite}
use native.Mathlib.Decide.{ℕ_discrete}
use mathlib.Core.Option.{some, some-injective, some-ne-none}
use lib.ListN.{get_elem?}
use Rattle.atomic_table.proofs.Lists.{at_set}
use Rattle.node_forest.specs.Label.{Node}
use Rattle.cordz_core.specs.Contents.{Contents, state_of, birth_of}
use Rattle.cordz_core.specs.History.{stamp_in, stamps_given}
use Rattle.cordz_core.specs.Legal.{Replays}
use Rattle.cordz_core.specs.Queue.{has}
use Rattle.record_rule.specs.declared.values.DeskValue.{DeskValue}
use Rattle.record_rule.specs.declared.values.DeskValue.TheVariants.{List as Lists}
use Rattle.record_rule.specs.declared.views.Claim.{Claim}
use Rattle.record_rule.specs.declared.views.Claim.TheVariants.{Nothing}
use Rattle.record_rule.specs.declared.views.LogEntry.{LogEntry}
use Rattle.record_rule.specs.declared.views.Noted.{Noted}
use Rattle.record_rule.specs.declared.views.TokenView.{TokenView}
use Rattle.record_rule.specs.declared.views.DeskView.{DeskView}
use Rattle.record_rule.specs.Log.{history, IsLog, of_token, unlinked_of, is_walking, walk_of}
use Rattle.record_rule.specs.Notes.{GrowsTo, AreNotes, AllUntracked, stamps_of}
use Rattle.record_rule.specs.Views.{claim_at, left_of, all_left}
use Rattle.record_rule.specs.World.{Facts, WalksIf, Has, IsToken, Fits, HasRecord, IsTold, HasSlot, IsWorld}
use Rattle.record_rule.proofs.Others.{Grows, stays, reads_stay, shown_stay}
use Rattle.record_rule.proofs.Slots.{changed, changed_here, changed_else, kept_stamp, slot_other}

pub set_there : {A : Type 0} (l : List A) (i : ℕ) (x y : A) → get_elem? l i ≡ some x → get_elem? (set l i y) i ≡ some y
set_there [] i x y e = absurd (some-ne-none x (sym e))
set_there (z ∷ l) zero x y e = refl
set_there (z ∷ l) (suc i) x y e = set_there l i x y e

pub all_left_set : (vs : List (Option DeskView)) (i : ℕ) (v w : Option DeskView) → get_elem? vs i ≡ some v → all_left (set vs i w) + left_of v ≡ all_left vs + left_of w
all_left_set [] i v w e = absurd (some-ne-none v (sym e))
all_left_set (x ∷ vs) zero v w e = let same = ap left_of (some-injective x v e) in omega arith
all_left_set (x ∷ vs) (suc i) v w e = let h = all_left_set vs i v w e in omega arith

pub all_left_more : (vs : List (Option DeskView)) (v : Option DeskView) → all_left (vs ++ v ∷ []) ≡ all_left vs + left_of v
all_left_more [] v = omega arith
all_left_more (x ∷ vs) v = let h = all_left_more vs v in omega arith

pub left_among : (vs : List (Option DeskView)) (i : ℕ) (v : Option DeskView) → get_elem? vs i ≡ some v → left_of v ≤ all_left vs
left_among [] i v e = absurd (some-ne-none v (sym e))
left_among (x ∷ vs) zero v e = let same = ap left_of (some-injective x v e) in omega arith
left_among (x ∷ vs) (suc i) v e = let h = left_among vs i v e in omega arith

-- the facts after a step that changes one slot and one stamp
abbrev pub moved : Facts → ℕ → List LogEntry → Contents → ℕ → Claim → ℕ → ℕ → Bool → List Noted → Facts
moved g by log registry s c stamp at lives list = record {
  log = log;
  registry = registry;
  claims = changed g.claims s c;
  owner = changed g.owner s by;
  seat = g.seat;
  given = g.given;
  root = g.root;
  notes = changed g.notes stamp list;
  live = changed g.live stamp lives;
  slot = changed g.slot stamp at;
}

-- what the log and the registry of a step leave to other tokens
pub record Follows (g : Facts) (by : ℕ) (log : List LogEntry) (registry : Contents) : Type 0 where
  pub own : (n : ℕ) → n < g.given → g.seat n ≢ by → of_token n log ≡ of_token n g.log
  pub unlinked : (n : ℕ) → n < g.given → g.seat n ≢ by → unlinked_of n log ≡ unlinked_of n g.log
  pub more : (n stamp : ℕ) → has stamp (unlinked_of n g.log) ≡ true → has stamp (unlinked_of n log) ≡ true
  pub walk : (n : ℕ) → n < g.given → g.seat n ≢ by → (walking : Bool) (slots : List ℕ) → WalksIf walking g.registry (history g.log) n slots → WalksIf walking registry (history log) n slots
  pub replays : Replays (history log) registry
  pub walkers : registry.walkers ≡ g.registry.walkers
  pub logged : IsLog log
  pub stamps : stamps_given (history g.log) ≤ stamps_given (history log)
  pub ungiven : (n : ℕ) → g.given ≤ n → (of_token n log ≡ []) × (birth_of registry n ≡ None)

module _ (g : Facts) (by : ℕ) (log : List LogEntry) (registry : Contents) (s : ℕ) (c : Claim) (stamp at : ℕ) (lives : Bool) (list : List Noted) where
  abbrev Next : Facts
  Next = moved g by log registry s c stamp at lives list

  closes : GrowsTo (g.notes stamp) list → (t : ℕ) → GrowsTo (g.notes t) (changed g.notes stamp list t)
  closes grown t = dite (ℕ_discrete t stamp)
      (λ is. subst (λ (z : List Noted). GrowsTo (g.notes t) z) (sym (changed_here g.notes stamp t list is)) (subst (λ (z : ℕ). GrowsTo (g.notes z) list) (sym is) grown))
      (λ not. inl (changed_else g.notes stamp t list not))

  pub grows_moved : Follows g by log registry → (g.claims s ≡ Nothing) ⊎ (g.owner s ≡ by) → GrowsTo (g.notes stamp) list → (g.live stamp ≡ false → (lives ≡ false) × (list ≡ g.notes stamp)) → Grows (λ j. j ≡ by) g Next
  grows_moved f mine grown closed = record {
    given = (let n : ℕ = g.given in omega arith);
    root = refl;
    same = λ _. refl;
    seat = λ n less apart. refl;
    own = λ n less apart. f.own n less apart;
    unlinked = λ n less apart. f.unlinked n less apart;
    claims = λ t some apart.
        let other : t ≢ s = λ e. ⊎_elim (λ none. some (ap g.claims e ∙ none)) (λ is. apart (ap g.owner e ∙ is)) mine in
        (changed_else g.claims s t c other, changed_else g.owner s t by other);
    walk = λ n less apart. f.walk n less apart;
    notes = closes grown;
    closed = λ t shut. dite (ℕ_discrete t stamp)
        (λ is. let k = closed (sym (ap g.live is) ∙ shut) in (changed_here g.live stamp t lives is ∙ k.0, changed_here g.notes stamp t list is ∙ (k.1 ∙ ap g.notes (sym is))))
        (λ not. (changed_else g.live stamp t lives not ∙ shut, changed_else g.notes stamp t list not));
  }

  claim_moved : (p : TokenView) → IsToken g by p → s < 256 → (t : ℕ) → (claim_at ((s, c) ∷ p.claims) t ≡ Nothing) ⊎ Has Next by t (claim_at ((s, c) ∷ p.claims) t)
  claim_moved p k small t = dite (ℕ_discrete t s)
      (λ is. inr (subst (λ (z : ℕ). z < 256) (sym is) small, changed_here g.owner s t by is, changed_here g.claims s t c is ∙ sym (ap (λ b. cond b c (claim_at p.claims t)) (eq-eqb t s is))))
      (λ not. subst (λ (z : Claim). (z ≡ Nothing) ⊎ Has Next by t z) (sym (ap (λ b. cond b c (claim_at p.claims t)) (ne_eqb t s not)))
      (⊎_elim (λ none. inl none) (λ h. inr (h.0, changed_else g.owner s t by not ∙ h.1, changed_else g.claims s t c not ∙ h.2)) (k.claims t)))

  -- where the notes of the changed stamp are after the step, and so those of all stamps
  abbrev pub ToldHere : Type 0
  ToldHere = (list ≡ []) ⊎ (((at ≡ s) × (s < 256) × HasRecord c stamp) ⊎ ((n : ℕ) × (has stamp (unlinked_of n log) ≡ true)))

  told_moved : Follows g by log registry → ((t : ℕ) → HasRecord (g.claims s) t → t ≡ stamp) → ToldHere → ((t : ℕ) → IsTold g t) → (t : ℕ) → IsTold Next t
  told_moved f only here told t = dite (ℕ_discrete t stamp) told_same told_other
    where
      kept_same : t ≡ stamp → (at ≡ s) × (s < 256) × HasRecord c stamp → (Next.slot t < 256) × HasRecord (Next.claims (Next.slot t)) t
      kept_same is k =
          let there : Next.slot t ≡ s = changed_here g.slot stamp t at is ∙ k.0 in
          (subst (λ (z : ℕ). z < 256) (sym there) k.1, subst (λ (z : Claim × ℕ). HasRecord z.0 z.1) (λ i. (sym (changed_here g.claims s (Next.slot t) c there) i, sym is i)) k.2)

      told_same : t ≡ stamp → IsTold Next t
      told_same is = ⊎_elim
          (λ none. inl (changed_here g.notes stamp t list is ∙ none))
          (λ rest. ⊎_elim
          (λ k. inr (inl (kept_same is k)))
          (λ (u : (n : ℕ) × (has stamp (unlinked_of n log) ≡ true)). inr (inr (u.0, subst (λ (z : ℕ). has z (unlinked_of u.0 log) ≡ true) (sym is) u.1)))
          rest)
          here

      kept_other : t ≢ stamp → (g.slot t < 256) × HasRecord (g.claims (g.slot t)) t → (Next.slot t < 256) × HasRecord (Next.claims (Next.slot t)) t
      kept_other not k =
          let there : Next.slot t ≡ g.slot t = changed_else g.slot stamp t at not in
          let other : g.slot t ≢ s = λ e. not (only t (subst (λ (z : ℕ). HasRecord (g.claims z) t) e k.1)) in
          (subst (λ (z : ℕ). z < 256) (sym there) k.0, subst (λ (z : Claim). HasRecord z t) (sym (ap (changed g.claims s c) there ∙ changed_else g.claims s (g.slot t) c other)) k.1)

      told_other : t ≢ stamp → IsTold Next t
      told_other not = ⊎_elim
          (λ none. inl (changed_else g.notes stamp t list not ∙ none))
          (λ rest. ⊎_elim
          (λ k. inr (inl (kept_other not k)))
          (λ (u : (n : ℕ) × (has t (unlinked_of n g.log) ≡ true)). inr (inr (u.0, f.more u.0 t u.1)))
          rest)
          (told t)

  -- the token whose step it was
  pub token_moved : (p : TokenView) (own : List LogEntry) (us : List (ℕ × List Noted)) → IsToken g by p → Grows (λ j. j ≡ by) g Next → s < 256 → of_token p.number log ≡ own
      → WalksIf (is_walking own) registry (history log) p.number (walk_of own) → AllUntracked Next.notes Next.live us → stamps_of us ≡ unlinked_of p.number log
      → IsToken Next by (record { number = p.number; own = own; claims = (s, c) ∷ p.claims; reads = p.reads; untracked = us; shown = p.shown })
  token_moved p own us k grows small is walk untracked unlinked = record {
    seat = k.seat;
    given = k.given;
    own = is;
    claims = claim_moved p k small;
    walk = walk;
    reads = reads_stay (λ j. j ≡ by) g Next grows p.reads k.reads;
    untracked = untracked;
    unlinked = unlinked;
    shown = shown_stay (λ j. j ≡ by) g Next grows p.shown k.shown;
  }

-- the views after the step of the seat `by`
pub views_next : (g k : Facts) (views : List (Option DeskView)) (by : ℕ) (w : Option DeskView) → Grows (λ j. j ≡ by) g k → Fits k by w → ((j : ℕ) (v : Option DeskView) → get_elem? views j ≡ some v → Fits g j v)
    → (j : ℕ) (v : Option DeskView) → get_elem? (set views by w) j ≡ some v → Fits k j v
views_next g k views by w grows mine each j v e = ⊎_elim
    (λ (t : (j ≡ by) × (w ≡ v)). subst (λ (z : ℕ × Option DeskView). Fits k z.0 z.1) (λ i. (sym t.0 i, t.1 i)) mine)
    (λ (t : (j ≢ by) × (get_elem? views j ≡ some v)). stays (λ i. i ≡ by) g k grows j v t.0 (each j v t.1))
    (at_set views by j w v e)

module _ {S : Type 0} (tree_of : S → Node) (fits : S → Type 0) where
  pub world_moved : (g : Facts) (values values' : List (DeskValue S)) (views : List (Option DeskView)) (by : ℕ) (v w : DeskView) (log : List LogEntry) (registry : Contents) (s : ℕ) (c : Claim) (stamp at : ℕ) (lives : Bool) (list : List Noted)
      → IsWorld tree_of fits g values views → get_elem? views by ≡ some (Some v) → Follows g by log registry
      → get_elem? values' 0 ≡ some (Lists registry) → length values' ≡ length values
      → left_of (Some w) + length (history log) ≤ left_of (Some v) + length (history g.log)
      → ((t : ℕ) → t ≢ s → (get_elem? values' (t + 1) ≡ get_elem? values (t + 1)) × (state_of registry t ≡ state_of g.registry t) × (stamp_in (history log) t ≡ stamp_in (history g.log) t))
      → ((t : ℕ) → t ≢ s → stamp_in (history g.log) t ≡ stamp → g.slot stamp ≢ t)
      → HasSlot tree_of fits (moved g by log registry s c stamp at lives list) values' s
      → AreNotes stamp list → stamp ≤ stamps_given (history log)
      → ((t : ℕ) → HasRecord (g.claims s) t → t ≡ stamp) → ToldHere g by log registry s c stamp at lives list
      → Grows (λ j. j ≡ by) g (moved g by log registry s c stamp at lives list)
      → Fits (moved g by log registry s c stamp at lives list) by (Some w)
      → IsWorld tree_of fits (moved g by log registry s c stamp at lives list) values' (set views by (Some w))
  world_moved g values values' views by v w log registry s c stamp at lives list world seen follows first count left others apart mine noted born only here grows fitting = record {
    first = first;
    count = count ∙ world.count;
    walkers = follows.walkers ∙ world.walkers;
    replays = follows.replays;
    log = follows.logged;
    room = (let total = all_left_set views by (Some v) (Some w) seen in let had = world.room in omega arith);
    slots = λ t small. dite (ℕ_discrete t s)
        (λ is. subst (λ (z : ℕ). HasSlot tree_of fits Next values' z) (sym is) mine)
        (λ not. let o = world.slots t small in let k = others t not in record {
          rep = o.rep;
          at = k.0 ∙ o.at;
          is = slot_other tree_of fits (g.claims t) (changed g.claims s c t) (state_of g.registry t) (state_of registry t) t (stamp_in (history g.log) t) (stamp_in (history log) t) g.slot g.live g.notes stamp at lives list o.rep
              (changed_else g.claims s t c not) k.1 k.2 (λ same here. apart t not same (ap g.slot (sym same) ∙ here)) o.is;
        });
    notes = λ t. dite (ℕ_discrete t stamp)
        (λ is. subst (AreNotes t) (sym (changed_here g.notes stamp t list is)) (subst (λ (z : ℕ). AreNotes z list) (sym is) noted))
        (λ not. subst (AreNotes t) (sym (changed_else g.notes stamp t list not)) (world.notes t));
    unborn = λ t later.
        let more = follows.stamps in
        let not : t ≢ stamp = λ e. omega arith in
        let k = world.unborn t (omega arith) in
        (changed_else g.notes stamp t list not ∙ k.0, changed_else g.live stamp t lives not ∙ k.1);
    told = told_moved g by log registry s c stamp at lives list follows only here world.told;
    few = world.few;
    ungiven = follows.ungiven;
    each = views_next g Next views by (Some w) grows fitting world.each;
  }
    where
      Next : Facts
      Next = moved g by log registry s c stamp at lives list

  -- a record that is kept at a slot has the slot's stamp
  pub only_stamp : (g : Facts) (values : List (DeskValue S)) (views : List (Option DeskView)) (s : ℕ) → IsWorld tree_of fits g values views → s < 256 → (t : ℕ) → HasRecord (g.claims s) t → t ≡ stamp_in (history g.log) s
  only_stamp g values views s world small t h =
      let o = world.slots s small in
      let stamp : ℕ = stamp_in (history g.log) s in
      kept_stamp tree_of fits (g.claims s) (state_of g.registry s) s stamp (g.slot stamp) (g.live stamp) (g.notes stamp) o.rep t o.is h

-- where a stamp's notes are after a step on a slot that has no such record
pub told_still : (g : Facts) (by : ℕ) (log : List LogEntry) (registry : Contents) (s : ℕ) (c : Claim) (stamp at : ℕ) (lives : Bool) → Follows g by log registry → g.slot stamp ≡ s → (HasRecord (g.claims s) stamp → ⊥) → IsTold g stamp
    → ToldHere g by log registry s c stamp at lives (g.notes stamp)
told_still g by log registry s c stamp at lives f is none told = ⊎_elim
    (λ empty. inl empty)
    (λ rest. ⊎_elim
    (λ k. absurd (none (subst (λ (z : ℕ). HasRecord (g.claims z) stamp) is k.1)))
    (λ (u : (n : ℕ) × (has stamp (unlinked_of n g.log) ≡ true)). inr (inr (u.0, f.more u.0 stamp u.1)))
    rest)
    told
