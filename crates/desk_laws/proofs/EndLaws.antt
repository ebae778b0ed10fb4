-- A desk whose tokens finished what they began is empty, and each note that was read was told.
use Rattle.std.proofs.Common.{◌≡◌, ◌⊎◌, ℕ, zero, suc, ◌+◌, ◌<◌, ◌≤◌, List, [], ◌∷◌, ◌++◌, length, map, false, None, refl, sym, ap, ◌∙◌, subst, inl, inr, ⊎_elim, arith}
use Rattle.std.specs.Prelude.{option_map}
use Rattle.std.specs.List.{sum_by}
use Rattle.std.proofs.lemmas.Bool.{cases_lt}
use Rattle.std.proofs.lemmas.List.Sums.{sum_by-cons}
use Rattle.node_pool.specs.Boxes.{below}
use Rattle.cordz_core.specs.declared.slot.Clock.{Clock}
use Rattle.cordz_core.specs.declared.slot.SlotState.{SlotState}
use Rattle.cordz_core.specs.declared.slot.SlotState.TheVariants.{Free as IsFree, Reserved, Linked, Leaving, Queued as Waits, Clearing}
use Rattle.cordz_core.specs.Contents.{state_of, birth_of}
use Rattle.cordz_core.specs.History.{History, use_of}
use Rattle.cordz_core.specs.Times.{records, snapshots, record_in, living}
use Rattle.cordz_core.proofs.States.{known, after_is_known}
use Rattle.record_rule.specs.declared.views.Deed.{Deed}
use Rattle.record_rule.specs.declared.views.LogEntry.{LogEntry}
use Rattle.record_rule.specs.declared.views.Noted.{Noted}
use Rattle.record_rule.specs.declared.views.TokenView.{TokenView}
use Rattle.record_rule.specs.Log.{history, walk_of}
use Rattle.record_rule.specs.Notes.{IsNoteOf, AllRead}
use Rattle.record_rule.specs.World.{WalksIf}
use Rattle.cordz_desk.specs.declared.share.Share.{Share}
use Rattle.cordz_desk.specs.Closed.{Each, Knew, HasUntracked, IsTrackedYet, IsClosed}
use Rattle.desk_laws.specs.Counts.{tracks_by, unlinks_by, settles_by, frees_by, deleted_by, reserved_by, counted_in, tracks_in, unlinks_in, frees_in, reserved_in}
use Rattle.desk_laws.specs.Ends.{AreAll, HasEnded, IsUntracked, IsOfUntracked}
use Rattle.desk_laws.proofs.Counting.{tokens_count}
use Rattle.desk_laws.proofs.Balance.{is_reserved, is_linked, is_leaving_now, is_queued, is_clearing, reserves_by, at_slot, deletes_at, balanced}
use Rattle.desk_laws.proofs.Totals.{total, total_zero, total_nothing, total_counted, total_deleted, all_balanced}
use Rattle.desk_laws.proofs.Walkers.{walkers_in, most_walkers_in, none_waits, none_queued}

-- ---- of lists of tokens
each_map : {A : Type 0} (Q R : A → Type 0) → ((x : A) → Q x → R x) → (xs : List A) → Each Q xs → Each R xs
each_map Q R f [] k = tt
each_map Q R f (x ∷ xs) k = (f x k.0, each_map Q R f xs k.1)

each_both : {A : Type 0} (Q R : A → Type 0) (xs : List A) → Each Q xs → Each R xs → Each (λ (x : A). Q x × R x) xs
each_both Q R [] k l = tt
each_both Q R (x ∷ xs) k l = ((k.0, l.0), each_both Q R xs k.1 l.1)

abbrev pub IsIn : ℕ → List ℕ → Type 0
IsIn n [] = ⊥
IsIn n (m ∷ ms) = (m ≡ n) ⊎ IsIn n ms

in_front : (n : ℕ) (ms ks : List ℕ) → IsIn n ms → IsIn n (ms ++ ks)
in_front n [] ks is = absurd is
in_front n (m ∷ ms) ks (inl e) = inl e
in_front n (m ∷ ms) ks (inr is) = inr (in_front n ms ks is)

in_last : (n m : ℕ) (ms : List ℕ) → m ≡ n → IsIn n (ms ++ m ∷ [])
in_last n m [] e = inl e
in_last n m (k ∷ ms) e = inr (in_last n m ms e)

in_below : (n m : ℕ) → n < m → IsIn n (below m)
in_below n zero less = absurd (omega arith)
in_below n (suc m) less = ⊎_elim (λ inside. in_front n (below m) (m ∷ []) (in_below n m inside)) (λ last. in_last n m (below m) (omega arith)) (cases_lt n m)

-- the token of a number
numbered : (Q : TokenView → Type 0) (n : ℕ) (tokens : List TokenView) → Each Q tokens → IsIn n (map (λ (p : TokenView). p.number) tokens) → (p : TokenView) × Q p × (p.number ≡ n)
numbered Q n [] k is = absurd is
numbered Q n (p ∷ ps) k (inl e) = (p, k.0, e)
numbered Q n (p ∷ ps) k (inr is) = numbered Q n ps k.1 is

sum_same : (f g : Deed → ℕ) (tokens : List TokenView) → Each (λ (p : TokenView). counted_in f p.own ≡ counted_in g p.own) tokens → sum_by (λ (p : TokenView). counted_in f p.own) tokens ≡ sum_by (λ (p : TokenView). counted_in g p.own) tokens
sum_same f g [] same = refl
sum_same f g (p ∷ ps) same =
    sum_by-cons (λ (q : TokenView). counted_in f q.own) p ps
    ∙ ((λ i. same.0 i + sum_same f g ps same.1 i) ∙ sym (sum_by-cons (λ (q : TokenView). counted_in g q.own) p ps))

joined_length : (xs ys : List ℕ) → length (xs ++ ys) ≡ length xs + length ys
joined_length [] ys = omega arith
joined_length (x ∷ xs) ys = let h = joined_length xs ys in omega arith

reserved_length : (own : List LogEntry) → length (reserved_in own) ≡ counted_in reserves_by own
reserved_length [] = refl
reserved_length (e ∷ es) = joined_length (reserved_by e.deed) (reserved_in es) ∙ ap (λ n. length (reserved_by e.deed) + n) (reserved_length es)

-- in none of the other states
none_but_free : (x : SlotState) → is_reserved x ≡ 0 → is_linked x ≡ 0 → is_leaving_now x ≡ 0 → is_queued x ≡ 0 → is_clearing x ≡ 0 → x ≡ IsFree
none_but_free IsFree a b c d e = refl
none_but_free Reserved a b c d e = absurd (omega arith)
none_but_free Linked a b c d e = absurd (omega arith)
none_but_free Leaving a b c d e = absurd (omega arith)
none_but_free Waits a b c d e = absurd (omega arith)
none_but_free Clearing a b c d e = absurd (omega arith)

-- ---- of notes
read_note : (notes : ℕ → List Noted) (n : Noted) (ns : List Noted) → AllRead notes ns → IsNoteOf n ns → IsNoteOf n (notes n.note.stamp)
read_note notes n [] all is = absurd is
read_note notes n (m ∷ ms) all (inl e) = subst (λ (z : Noted). IsNoteOf z (notes z.note.stamp)) e all.0
read_note notes n (m ∷ ms) all (inr is) = read_note notes n ms all.1 is

untracked_note : (n : Noted) (notes : List Noted) (us : List (ℕ × List Noted)) → IsNoteOf n notes → HasUntracked n.note.stamp notes us → IsUntracked n us
untracked_note n notes [] is h = absurd h
untracked_note n notes (u ∷ us) is (inl e) = inl (ap (λ (z : ℕ × List Noted). z.0) e, subst (IsNoteOf n) (sym (ap (λ (z : ℕ × List Noted). z.1) e)) is)
untracked_note n notes (u ∷ us) is (inr h) = inr (untracked_note n notes us is h)

of_numbered : (n : Noted) (notes : List Noted) (m : ℕ) (tokens : List TokenView) → IsNoteOf n notes → Each (λ (p : TokenView). p.number ≡ m → HasUntracked n.note.stamp notes p.untracked) tokens → IsIn m (map (λ (p : TokenView). p.number) tokens) → IsOfUntracked n tokens
of_numbered n notes m [] is each at = absurd at
of_numbered n notes m (p ∷ ps) is each (inl e) = inl (untracked_note n notes p.untracked is (each.0 e))
of_numbered n notes m (p ∷ ps) is each (inr at) = inr (of_numbered n notes m ps is each.1 at)

-- ---- of a closed desk
module _ {P : Type 0} (tokens : List TokenView) (given : ℕ) (shares : List (Share P)) (closed : IsClosed tokens given shares) (all : AreAll tokens given) (ended : Each HasEnded tokens)
    (equal : sum_by (λ (p : TokenView). tracks_in p.own) tokens ≡ sum_by (λ (p : TokenView). unlinks_in p.own) tokens) where
  abbrev Log : List LogEntry
  Log = closed.facts.log

  abbrev Past : History
  Past = history closed.facts.log

  logged : (count : Deed → ℕ) → sum_by (λ (p : TokenView). counted_in count p.own) tokens ≡ counted_in count Log
  logged count = tokens_count count closed.facts tokens given closed.knew all closed.others

  same_logged : (f g : Deed → ℕ) → Each (λ (p : TokenView). counted_in f p.own ≡ counted_in g p.own) tokens → counted_in f Log ≡ counted_in g Log
  same_logged f g same = sym (logged f) ∙ (sum_same f g tokens same ∙ logged g)

  all_tracked : counted_in reserves_by Log ≡ counted_in tracks_by Log
  all_tracked = same_logged reserves_by tracks_by (each_map HasEnded (λ (p : TokenView). counted_in reserves_by p.own ≡ counted_in tracks_by p.own) (λ p e. sym (reserved_length p.own) ∙ e.finished.tracked) tokens ended)

  all_settled : counted_in settles_by Log ≡ counted_in unlinks_by Log
  all_settled = same_logged settles_by unlinks_by (each_map HasEnded (λ (p : TokenView). counted_in settles_by p.own ≡ counted_in unlinks_by p.own) (λ p e. e.finished.settled) tokens ended)

  all_freed : counted_in frees_by Log ≡ counted_in deleted_by Log
  all_freed = same_logged frees_by deleted_by (each_map HasEnded (λ (p : TokenView). counted_in frees_by p.own ≡ counted_in deleted_by p.own) (λ p e. e.finished.freed) tokens ended)

  all_unlinked : counted_in tracks_by Log ≡ counted_in unlinks_by Log
  all_unlinked = sym (logged tracks_by) ∙ (equal ∙ logged unlinks_by)

  -- no walker has a snapshot
  still_token : (w : ℕ) → w < given → birth_of closed.facts.registry w ≡ None
  still_token w less =
      let t = numbered (λ (p : TokenView). Knew closed.facts p × HasEnded p) w tokens (each_both (Knew closed.facts) HasEnded tokens closed.knew ended) (subst (IsIn w) (sym all) (in_below w given less)) in
      let walk : WalksIf false closed.facts.registry Past t.0.number (walk_of t.0.own) = subst (λ b. WalksIf b closed.facts.registry Past t.0.number (walk_of t.0.own)) t.1.1.still t.1.0.walk in
      ap (birth_of closed.facts.registry) (sym t.2) ∙ walk

  still : (w : ℕ) → birth_of closed.facts.registry w ≡ None
  still w = ⊎_elim (λ less. still_token w less) (λ past. closed.idle w past) (cases_lt w given)

  none_living : (w : ℕ) → w < closed.facts.registry.walkers → living (snapshots Past) w ≡ None
  none_living w less =
      let few = most_walkers_in closed.facts.registry.walkers Past closed.replays.legal in
      sym (closed.replays.births w (omega arith)) ∙ ap (option_map (λ (b : Clock). b.ticks)) (still w)

  unqueued : (s : ℕ) → is_queued (known Past s) ≡ 0
  unqueued s = none_queued (use_of Past s) (record_in (records Past) s) (snapshots Past) (none_waits closed.facts.registry.walkers (snapshots Past) (walkers_in closed.facts.registry.walkers Past closed.replays.legal) none_living)

  -- the sums over this many slots
  record Nothing (n : ℕ) : Type 0 where
    reserved : total (λ s. is_reserved (known Past s)) n ≡ 0
    linked : total (λ s. is_linked (known Past s)) n ≡ 0
    leaving : total (λ s. is_leaving_now (known Past s)) n ≡ 0
    clearing : total (λ s. is_clearing (known Past s)) n ≡ 0
    freed : counted_in tracks_by Log ≡ counted_in frees_by Log

  nothing : (n : ℕ) → 256 ≤ n → Nothing n
  nothing n many =
      let m : ℕ = closed.facts.registry.walkers in
      let legal = closed.replays.legal in
      let b = all_balanced (λ s. counted_in (at_slot reserves_by s) Log) (λ s. counted_in (at_slot tracks_by s) Log) (λ s. counted_in (at_slot unlinks_by s) Log) (λ s. counted_in (at_slot settles_by s) Log)
      (λ s. counted_in (at_slot frees_by s) Log) (λ s. counted_in (deletes_at s) Log) (λ s. known Past s) (λ s. balanced m s Log closed.log legal) n in
      let k = by_sums _ _ _ _ _ _ _ _ _ _ _ (total_counted reserves_by m Log n many legal) (total_counted tracks_by m Log n many legal) (total_counted unlinks_by m Log n many legal)
      (total_counted settles_by m Log n many legal) (total_counted frees_by m Log n many legal) (total_deleted Log n) (total_nothing (λ s. is_queued (known Past s)) unqueued n)
      b.reserved b.used b.tracked b.unlinked b.settled in
      record { reserved = k.0; linked = k.1; leaving = k.2; clearing = k.3; freed = k.4 }
    where
      by_sums : (r t u p f d a c l v q : ℕ) → r ≡ counted_in reserves_by Log → t ≡ counted_in tracks_by Log → u ≡ counted_in unlinks_by Log → p ≡ counted_in settles_by Log → f ≡ counted_in frees_by Log → d ≤ counted_in deleted_by Log → q ≡ 0
          → t + a ≤ r → r + d ≡ t + f + a + c → t ≡ u + l → u ≡ p + v → p ≡ d + q → (a ≡ 0) × (l ≡ 0) × (v ≡ 0) × (c ≡ 0) × (counted_in tracks_by Log ≡ counted_in frees_by Log)
      by_sums r t u p f d a c l v q r' t' u' p' f' d' q' e1 e2 e3 e4 e5 =
          let h1 = all_tracked in let h2 = all_settled in let h3 = all_freed in let h4 = all_unlinked in
          (omega arith, omega arith, omega arith, omega arith, omega arith)

  free_known : (n : ℕ) → 256 ≤ n → (s : ℕ) → s < n → known Past s ≡ IsFree
  free_known n many s less =
      let k = nothing n many in
      none_but_free (known Past s)
      (total_zero (λ i. is_reserved (known Past i)) n k.reserved s less)
      (total_zero (λ i. is_linked (known Past i)) n k.linked s less)
      (total_zero (λ i. is_leaving_now (known Past i)) n k.leaving s less)
      (unqueued s)
      (total_zero (λ i. is_clearing (known Past i)) n k.clearing s less)

  pub all_free : (s : ℕ) → s < 256 → state_of closed.facts.registry s ≡ IsFree
  all_free s small = (closed.replays.entries s small).state ∙ (after_is_known Past s ∙ free_known 256 (omega arith) s small)

  pub none_left : shares ≡ []
  none_left = closed.none all_free

  pub as_many_freed : sum_by (λ (p : TokenView). tracks_in p.own) tokens ≡ sum_by (λ (p : TokenView). frees_in p.own) tokens
  as_many_freed = logged tracks_by ∙ ((nothing 256 (omega arith)).freed ∙ sym (logged frees_by))

  -- ---- what was read
  not_tracked : (stamp : ℕ) → IsTrackedYet closed.facts stamp → ⊥
  not_tracked stamp yet =
      let free = all_free (closed.facts.slot stamp) yet.0 in
      ⊎_elim (λ e. let z : IsFree ≡ Reserved = sym free ∙ e in cc) (λ e. let z : IsFree ≡ Linked = sym free ∙ e in cc) yet.2

  told : (n : Noted) → IsNoteOf n (closed.facts.notes n.note.stamp) → IsOfUntracked n tokens
  told n is = ⊎_elim
      (λ none. absurd (subst (IsNoteOf n) none is))
      (λ rest. ⊎_elim
      (λ yet. absurd (not_tracked n.note.stamp yet))
      (λ (u : (m : ℕ) × (m < given) × Each (λ (p : TokenView). p.number ≡ m → HasUntracked n.note.stamp (closed.facts.notes n.note.stamp) p.untracked) tokens).
      of_numbered n (closed.facts.notes n.note.stamp) u.0 tokens is u.2 (subst (IsIn u.0) (sym all) (in_below u.0 given u.1)))
      rest)
      (closed.accounted n.note.stamp)

  pub reads_told : Each (λ (p : TokenView). (n : Noted) → IsNoteOf n p.reads → IsOfUntracked n tokens) tokens
  reads_told = each_map (Knew closed.facts) (λ (p : TokenView). (n : Noted) → IsNoteOf n p.reads → IsOfUntracked n tokens)
      (λ p k n is. told n (read_note closed.facts.notes n p.reads k.reads is)) tokens closed.knew
