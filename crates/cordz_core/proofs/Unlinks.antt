-- A registry that a history made is, after an unlink, what the longer history made.
use Rattle.std.proofs.Common.{◌≡◌, ◌≢◌, ℕ, ◌+◌, ◌-◌, ◌^◌, ◌<◌, Bool, true, false, List, [], ◌∷◌, length, get_or, Option, Some, None, ◌⊎◌, inl, inr, refl, sym, ap, ◌∙◌, subst, arith, get_or-set_same, get_or-set_other}
use Rattle.std.specs.Prelude.{◌==◌, ◌||◌, option_map, slice_set}
use Rattle.std.proofs.lemmas.Bool.{eqb-true, cases_eq, cases_Bool}
use Rattle.std.proofs.lemmas.List.{length-set}
use Rattle.cordz_core.specs.declared.slot.Slot.{Slot}
use Rattle.cordz_core.specs.declared.slot.Clock.{Clock}
use Rattle.cordz_core.specs.declared.slot.Entry.{Entry}
use Rattle.cordz_core.specs.declared.slot.SlotState.TheVariants.{Linked, Leaving}
use Rattle.cordz_core.specs.Queue.{has}
use Rattle.cordz_core.specs.Contents.{Contents, blank, entry_in, birth_in, state_of, IsSound}
use Rattle.cordz_core.specs.Links.{pointed_back, pointed_on, with_next, with_state, head_left}
use Rattle.cordz_core.proofs.Numbers.{dropped, AllBelow}
use Rattle.cordz_core.specs.History.{Unlinks, History, Tracked, use_of}
use Rattle.cordz_core.specs.Times.{RecordTimes, records, snapshots, record_in}
use Rattle.cordz_core.specs.Legal.{state_after, linked_slots, first_of, behind, StandsBehind, newer_of, number_of, Fits, Replays}
use Rattle.cordz_core.proofs.Lists.{first_dropped_head, first_dropped_other, first_has_none, one_before, not_behind_itself, behind_dropped_before, behind_dropped_other}
use Rattle.cordz_core.proofs.Records.{unlinked_other, unlinked_same, linked_unlinked}
use Rattle.cordz_core.proofs.States.{state_now, known, after_is_known, is_linked, linked_is_linked, tracked_if_linked, LinkedFacts, linked_facts}
use Rattle.cordz_core.proofs.Nexts.{next_of, next_known, next_is, head_is, next_linked, next_unlinked_gone, next_unlinked_linked, next_unlinked_same}
use Rattle.cordz_core.proofs.Steps.{fits_kept, allowed_next, stands, left_next, left_other, some_same, none_some}

below_of : (n s : ℕ) (ss : List ℕ) → AllBelow n ss → has s ss ≡ true → s < n
below_of n s [] a h = absurd (cc)
below_of n s (x ∷ xs) a h = step n s x xs a.0 (below_of n s xs a.1) (s == x) refl h
  where
    step : (n s x : ℕ) (xs : List ℕ) → x < n → (has s xs ≡ true → s < n) → (b : Bool) → (s == x) ≡ b → (b || has s xs) ≡ true → s < n
    step n s x xs less ih true e h = subst (λ k. k < n) (sym (eqb-true s x e)) less
    step n s x xs less ih false e h = ih h

module _ (h : History) (v : Contents) (rep : Replays h v) (sound : IsSound v) (r : ℕ) (w : Contents) (less : r < 256) (was : state_of v r ≡ Linked) where
  facts : LinkedFacts h
  facts = linked_facts v.walkers h rep.legal

  linked_now : known h r ≡ Linked
  linked_now = sym (after_is_known h r) ∙ (sym (stands h v rep sound r less) ∙ was)

  here : is_linked (use_of h r) (record_in (records h) r) ≡ true
  here = linked_is_linked _ _ _ linked_now

  -- what stands behind the record
  next_number : number_of (entry_in v.entries r).next ≡ behind r (linked_slots (records h))
  next_number = let t = tracked_if_linked _ _ here in (rep.entries r less).next t.0 ∙ (next_is h r ∙ next_linked h r t.1.0 t.1.1 t.1.2)

  newer_stands : StandsBehind (linked_slots (records h)) r (number_of (newer_of v r))
  newer_stands = rep.newer r less (sym (stands h v rep sound r less) ∙ was)

  unlinked_head : (p n hd : Option Slot) → StandsBehind (linked_slots (records h)) r (number_of p) → number_of n ≡ behind r (linked_slots (records h)) → number_of hd ≡ first_of (linked_slots (records h)) → number_of (head_left hd p n) ≡ first_of (dropped r (linked_slots (records h)))
  unlinked_head None n hd stands next first = next ∙ sym (first_dropped_head r _ stands)
  unlinked_head (Some q) n hd stands next first = first ∙ sym (first_dropped_other r _ (λ f. first_has_none r q.number _ facts.apart f stands.1))

  unlinked_newer : (n : Option Slot) → (entry_in v.entries r).next ≡ n → w.newer ≡ pointed_back v.newer n (newer_of v r) → (s : ℕ) → s < 256 → s ≢ r → state_after h s ≡ Linked → StandsBehind (dropped r (linked_slots (records h))) s (number_of (newer_of w s))
  unlinked_newer None is newer s small ne linked =
      subst (λ o. StandsBehind (dropped r (linked_slots (records h))) s (number_of o)) (sym (ap (λ l. get_or l s None) newer))
      (left_other _ r s _ facts.apart ne (λ f. none_some s _ (ap number_of (sym is) ∙ (next_number ∙ f))) (rep.newer s small linked))
  unlinked_newer (Some m) is newer s small ne linked = by_next (cases_eq s m.number)
    where
      next : Some m.number ≡ behind r (linked_slots (records h))
      next = ap number_of (sym is) ∙ next_number

      by_next : (s ≡ m.number) ⊎ (s ≢ m.number) → StandsBehind (dropped r (linked_slots (records h))) s (number_of (newer_of w s))
      by_next (inl same) = subst (λ o. StandsBehind (dropped r (linked_slots (records h))) s (number_of o))
          (sym (ap (λ l. get_or l s None) newer ∙ (ap (λ k. get_or (slice_set v.newer m.number (newer_of v r)) k None) same ∙ get_or-set_same v.newer m.number (newer_of v r) None (let l = sound.newer in let k : m.number < 256 = subst (λ n. n < 256) same small in omega arith))))
          (left_next _ r s _ facts.apart newer_stands (sym next ∙ ap Some (sym same)))
      by_next (inr other) = subst (λ o. StandsBehind (dropped r (linked_slots (records h))) s (number_of o)) (sym (ap (λ l. get_or l s None) newer ∙ get_or-set_other v.newer m.number s _ None other))
          (left_other _ r s _ facts.apart ne (λ f. other (sym (some_same m.number s (next ∙ f)))) (rep.newer s small linked))

  unlinked_known_other : (s : ℕ) → s ≢ r → known (Unlinks r ∷ h) s ≡ known h s
  unlinked_known_other s ne = ap (λ o. state_now (use_of h s) o (snapshots h)) (unlinked_other r (length h + 1) s (records h) ne)

  unlinked_known_same : known (Unlinks r ∷ h) r ≡ Leaving
  unlinked_known_same =
      let t = tracked_if_linked _ _ here in
      λ i. state_now (t.0 i) (unlinked_same r (length h + 1) t.1.0 (records h) t.1.2 t.1.1 i) (snapshots h)

  -- what the record's neighbour points on to, and the others
  module _ (s : ℕ) (e : Entry) (to : Option Slot) (ne : s ≢ r) (before : behind s (linked_slots (records h)) ≡ Some r → number_of to ≡ behind r (linked_slots (records h))) (other : behind s (linked_slots (records h)) ≢ Some r → to ≡ e.next) (gone : is_linked (use_of h s) (record_in (records h) s) ≡ false → to ≡ e.next) where
    next_if_linked : (d : (behind s (linked_slots (records h)) ≡ Some r) ⊎ (behind s (linked_slots (records h)) ≢ Some r)) → is_linked (use_of h s) (record_in (records h) s) ≡ true → number_of e.next ≡ next_known h s → number_of to ≡ next_known (Unlinks r ∷ h) s
    next_if_linked (inl it) linked n =
        let t = tracked_if_linked _ _ linked in
        before it ∙ (sym (behind_dropped_before r s _ facts.apart it) ∙ sym (next_unlinked_linked h r s t.1.0 ne t.1.1 t.1.2))
    next_if_linked (inr isnt) linked n =
        let t = tracked_if_linked _ _ linked in
        ap number_of (other isnt) ∙ (n ∙ (next_linked h s t.1.0 t.1.1 t.1.2 ∙ (sym (behind_dropped_other r s _ ne isnt) ∙ sym (next_unlinked_linked h r s t.1.0 ne t.1.1 t.1.2))))

    next_if_gone : (o : Option RecordTimes) → record_in (records h) s ≡ o → use_of h s ≡ Tracked → is_linked (use_of h s) (record_in (records h) s) ≡ false → number_of e.next ≡ next_known h s → number_of to ≡ next_known (Unlinks r ∷ h) s
    next_if_gone None is mine out n = ap number_of (gone out) ∙ (n ∙ (ap (next_of (records h)) is ∙ sym (ap (next_of (records (Unlinks r ∷ h))) (unlinked_other r (length h + 1) s (records h) ne ∙ is))))
    next_if_gone (Some x) is mine out n = ap number_of (gone out) ∙ (n ∙ sym (next_unlinked_gone h r s x ne is (sym (λ i. is_linked (mine i) (is i)) ∙ out)))

    next_then : (d : (behind s (linked_slots (records h)) ≡ Some r) ⊎ (behind s (linked_slots (records h)) ≢ Some r)) → (is_linked (use_of h s) (record_in (records h) s) ≡ true) ⊎ (is_linked (use_of h s) (record_in (records h) s) ≡ false) → use_of h s ≡ Tracked → number_of e.next ≡ next_known h s → number_of to ≡ next_known (Unlinks r ∷ h) s
    next_then d (inl linked) mine n = next_if_linked d linked n
    next_then d (inr out) mine n = next_if_gone (record_in (records h) s) refl mine out n

  fits_with : (s : ℕ) → s < 256 → s ≢ r → (f : Entry) → f.state ≡ (entry_in v.entries s).state → f.stamp ≡ (entry_in v.entries s).stamp → f.linked ≡ (entry_in v.entries s).linked
      → (behind s (linked_slots (records h)) ≡ Some r → number_of f.next ≡ behind r (linked_slots (records h))) → (behind s (linked_slots (records h)) ≢ Some r → f.next ≡ (entry_in v.entries s).next) → (is_linked (use_of h s) (record_in (records h) s) ≡ false → f.next ≡ (entry_in v.entries s).next)
      → (behind s (linked_slots (records h)) ≡ Some r) ⊎ (behind s (linked_slots (records h)) ≢ Some r) → Fits (Unlinks r ∷ h) s f
  fits_with s small ne f state stamp linked before other gone d =
      fits_kept h (Unlinks r ∷ h) s (entry_in v.entries s) f (rep.entries s small) state stamp linked (unlinked_known_other s ne) refl refl
      (next_then s (entry_in v.entries s) f.next ne before other gone d (cases_Bool (is_linked (use_of h s) (record_in (records h) s))))
      (ap (λ o. option_map (λ x. x.track) o) (unlinked_other r (length h + 1) s (records h) ne))

  not_in : (s : ℕ) → is_linked (use_of h s) (record_in (records h) s) ≡ false → has s (linked_slots (records h)) ≡ true → (P : Type 0) → P
  not_in s out in_it P = (let f : true ≡ false = sym in_it ∙ (facts.linked s ∙ out) in absurd (cc))

  fits_other : (p n : Option Slot) (e : Entry) → StandsBehind (linked_slots (records h)) r (number_of p) → number_of n ≡ behind r (linked_slots (records h)) → (s : ℕ) → s < 256 → s ≢ r → Fits (Unlinks r ∷ h) s (entry_in (pointed_on (slice_set v.entries r e) p n) s)
  fits_other None n e stands next s small ne =
      let at = get_or-set_other v.entries r s e blank ne in
      let not = first_has_none r s _ facts.apart stands in
      subst (Fits (Unlinks r ∷ h) s) (sym at) (fits_with s small ne (entry_in v.entries s) refl refl refl (λ it. absurd (not it)) (λ isnt. refl) (λ out. refl) (inr not))
  fits_other (Some q) n e stands next s small ne = by_place (cases_eq s q.number)
    where
      by_place : (s ≡ q.number) ⊎ (s ≢ q.number) → Fits (Unlinks r ∷ h) s (entry_in (slice_set (slice_set v.entries r e) q.number (with_next (entry_in (slice_set v.entries r e) q.number) n)) s)
      by_place (inl same) =
          let before : behind s (linked_slots (records h)) ≡ Some r = ap (λ k. behind k (linked_slots (records h))) same ∙ stands.1 in
          let fit : q.number < length (slice_set v.entries r e) = (let l = length-set v.entries r e in let m = sound.entries in let k : q.number < 256 = subst (λ j. j < 256) same small in omega arith) in
          let at : entry_in (slice_set (slice_set v.entries r e) q.number (with_next (entry_in (slice_set v.entries r e) q.number) n)) s ≡ with_next (entry_in v.entries s) n =
          ap (entry_in (slice_set (slice_set v.entries r e) q.number (with_next (entry_in (slice_set v.entries r e) q.number) n))) same
          ∙ (get_or-set_same (slice_set v.entries r e) q.number (with_next (entry_in (slice_set v.entries r e) q.number) n) blank fit
          ∙ (ap (λ k. with_next (entry_in (slice_set v.entries r e) k) n) (sym same) ∙ ap (λ z. with_next z n) (get_or-set_other v.entries r s e blank ne))) in
          subst (Fits (Unlinks r ∷ h) s) (sym at)
          (fits_with s small ne (with_next (entry_in v.entries s) n) refl refl refl (λ it. next) (λ isnt. absurd (isnt before)) (λ out. not_in s out (ap (λ k. has k (linked_slots (records h))) same ∙ stands.0) _) (inl before))
      by_place (inr other) =
          let at = get_or-set_other (slice_set v.entries r e) q.number s (with_next (entry_in (slice_set v.entries r e) q.number) n) blank other ∙ get_or-set_other v.entries r s e blank ne in
          let not : behind s (linked_slots (records h)) ≢ Some r = λ it. other (one_before r q.number s (linked_slots (records h)) facts.apart it stands.1) in
          subst (Fits (Unlinks r ∷ h) s) (sym at) (fits_with s small ne (entry_in v.entries s) refl refl refl (λ it. absurd (not it)) (λ isnt. refl) (λ out. refl) (inr not))

  fits_itself : (p n : Option Slot) (e : Entry) → StandsBehind (linked_slots (records h)) r (number_of p) → e ≡ with_state (entry_in v.entries r) Leaving → Fits (Unlinks r ∷ h) r (entry_in (pointed_on (slice_set v.entries r e) p n) r)
  fits_itself p n e stands is = subst (Fits (Unlinks r ∷ h) r) (sym (at p stands)) mine
    where
      at : (p : Option Slot) → StandsBehind (linked_slots (records h)) r (number_of p) → entry_in (pointed_on (slice_set v.entries r e) p n) r ≡ e
      at None stands = get_or-set_same v.entries r e blank (let l = sound.entries in omega arith)
      at (Some q) stands =
          get_or-set_other (slice_set v.entries r e) q.number r (with_next (entry_in (slice_set v.entries r e) q.number) n) blank (λ same. not_behind_itself r _ facts.apart (ap (λ k. behind k (linked_slots (records h))) same ∙ stands.1))
          ∙ get_or-set_same v.entries r e blank (let l = sound.entries in omega arith)

      mine : Fits (Unlinks r ∷ h) r e
      mine =
          let t = tracked_if_linked _ _ here in
          record {
            state = ap (λ z. z.state) is ∙ (sym unlinked_known_same ∙ sym (after_is_known (Unlinks r ∷ h) r));
            stamp = ap (λ z. z.stamp) is ∙ (rep.entries r less).stamp;
            next = λ u. ap (λ z. number_of z.next) is ∙ ((rep.entries r less).next u ∙ (next_is h r ∙ (sym (next_unlinked_same h r t.1.0 t.1.1 t.1.2) ∙ sym (next_is (Unlinks r ∷ h) r))));
            linked = λ u. ap (λ z. Some z.linked.ticks) is ∙ ((rep.entries r less).linked u ∙ (ap (λ o. option_map (λ x. x.track) o) t.1.1 ∙ sym (ap (λ o. option_map (λ x. x.track) o) (unlinked_same r (length h + 1) t.1.0 (records h) t.1.2 t.1.1))));
          }

  pub unlinked_replays : (e : Entry) → v.clock < 2 ^ 64 - 1 → w.walkers ≡ v.walkers → w.clock ≡ v.clock + 1 → w.stamps ≡ v.stamps → w.head ≡ head_left v.head (newer_of v r) (entry_in v.entries r).next
      → w.entries ≡ pointed_on (slice_set v.entries r e) (newer_of v r) (entry_in v.entries r).next → e ≡ with_state (entry_in v.entries r) Leaving → w.newer ≡ pointed_back v.newer (entry_in v.entries r).next (newer_of v r) → w.births ≡ v.births → w.queue ≡ v.queue → Replays (Unlinks r ∷ h) w
  unlinked_replays e time walkers clock stamps head entries is newer births queue = record {
    legal = allowed_next h v rep sound (Unlinks r) w walkers (less, sym (stands h v rep sound r less) ∙ was) time;
    clock = clock ∙ (ap (λ n. n + 1) rep.clock ∙ (let n = length h in omega arith));
    stamps = stamps ∙ rep.stamps;
    entries = λ s small. by_slot s small (cases_eq s r);
    head = ap number_of head ∙ (unlinked_head (newer_of v r) (entry_in v.entries r).next v.head newer_stands next_number (rep.head ∙ head_is h) ∙ (sym (ap first_of (linked_unlinked r (length h + 1) (records h))) ∙ sym (head_is (Unlinks r ∷ h))));
    newer = λ s small linked. by_linked s small linked (cases_eq s r);
    births = λ n small. ap (λ bs. option_map (λ (b : Clock). b.ticks) (birth_in bs n)) births ∙ rep.births n small;
    queue = queue ∙ rep.queue;
  }
    where
      by_slot : (s : ℕ) → s < 256 → (s ≡ r) ⊎ (s ≢ r) → Fits (Unlinks r ∷ h) s (entry_in w.entries s)
      by_slot s small (inl same) = subst (λ (z : ℕ × Entry). Fits (Unlinks r ∷ h) z.0 z.1) (λ i. (sym same i, sym (λ j. entry_in (entries j) (same j)) i)) (fits_itself (newer_of v r) (entry_in v.entries r).next e newer_stands is)
      by_slot s small (inr ne) = subst (λ es. Fits (Unlinks r ∷ h) s (entry_in es s)) (sym entries) (fits_other (newer_of v r) (entry_in v.entries r).next e newer_stands next_number s small ne)

      by_linked : (s : ℕ) → s < 256 → state_after (Unlinks r ∷ h) s ≡ Linked → (s ≡ r) ⊎ (s ≢ r) → StandsBehind (linked_slots (records (Unlinks r ∷ h))) s (number_of (newer_of w s))
      by_linked s small linked (inl same) = (let x : Leaving ≡ Linked = sym unlinked_known_same ∙ (sym (ap (known (Unlinks r ∷ h)) same) ∙ (sym (after_is_known (Unlinks r ∷ h) s) ∙ linked)) in absurd (cc))
      by_linked s small linked (inr ne) = subst (λ l. StandsBehind l s (number_of (newer_of w s))) (sym (linked_unlinked r (length h + 1) (records h)))
          (unlinked_newer (entry_in v.entries r).next refl newer s small ne (after_is_known h s ∙ (sym (unlinked_known_other s ne) ∙ (sym (after_is_known (Unlinks r ∷ h) s) ∙ linked))))
