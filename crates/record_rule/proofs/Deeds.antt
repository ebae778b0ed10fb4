-- What each deed does to the log, to walks, and to what is left.
use Rattle.std.proofs.Common.{◌≡◌, ◌≢◌, ℕ, ◌<◌, ◌≤◌, ◌+◌, ◌-◌, List, [], ◌∷◌, Bool, true, false, cond, eqb, length, Option, Some, None, refl, sym, ap, ◌∙◌, subst, arith, eq-eqb, ne_eqb, eqb-true}
use Rattle.std.specs.Prelude.{◌||◌, ◌==◌}
use Rattle.cordz_core.specs.declared.slot.SlotState.TheVariants.{Queued as Waits, Clearing}
use Rattle.cordz_core.specs.Contents.{Contents, birth_of}
use Rattle.cordz_core.specs.History.{History, Reserves, Frees, Tracks, Unlinks, Settles, Snaps, Unsnaps, Use, Nobody, Holder, Tracked, use_of, stamp_in, stamps_given}
use Rattle.cordz_core.specs.Legal.{Replays, IsLegal, IsDeletionOf, state_after, state_for, course_of, head_after, next_after}
use Rattle.cordz_core.specs.Queue.{has}
use Rattle.cordz_core.specs.Times.{RecordTimes, SnapshotTimes, Course, Stays, Left, Done, deleted_at}
use Rattle.record_rule.specs.declared.views.Deed.{Deed}
use Rattle.record_rule.specs.declared.views.Deed.TheVariants.{Reserve, Full, Free, Track, Unlink, Settle, Snap, Unsnap, Head, Next}
use Rattle.record_rule.specs.declared.views.LogEntry.{LogEntry}
use Rattle.record_rule.specs.declared.views.TokenView.{TokenView}
use Rattle.record_rule.specs.Log.{after_deed, history, IsAnswer, IsLog, of_token, unlinked_by, unlinked_of, made_of, is_walking, walking_after, walk_of, walk_after, found_on}
use Rattle.record_rule.specs.Steps.{Does}
use Rattle.record_rule.specs.Views.{most_actions}
use Rattle.record_rule.specs.World.{Facts, WalksIf, IsToken}
use Rattle.record_rule.proofs.Moving.{Follows}
use Rattle.record_rule.proofs.Walks.{out_of, walks_on, walks_same, begun, stepped}

pub deed_length : (d : Deed) (h : History) → length (after_deed d h) ≡ length (after_deed d []) + length h
deed_length (Reserve s stamp) h = omega arith
deed_length Full h = omega arith
deed_length (Free s) h = omega arith
deed_length (Track s) h = omega arith
deed_length (Unlink s) h = omega arith
deed_length (Settle s answer) h = omega arith
deed_length (Snap w) h = omega arith
deed_length (Unsnap w gone) h = omega arith
deed_length (Head answer) h = omega arith
deed_length (Next s answer) h = omega arith

pub deed_stamps : (d : Deed) (h : History) → stamps_given h ≤ stamps_given (after_deed d h)
deed_stamps (Reserve s stamp) h = let n : ℕ = stamps_given h in omega arith
deed_stamps Full h = let n : ℕ = stamps_given h in omega arith
deed_stamps (Free s) h = let n : ℕ = stamps_given h in omega arith
deed_stamps (Track s) h = let n : ℕ = stamps_given h in omega arith
deed_stamps (Unlink s) h = let n : ℕ = stamps_given h in omega arith
deed_stamps (Settle s answer) h = let n : ℕ = stamps_given h in omega arith
deed_stamps (Snap w) h = let n : ℕ = stamps_given h in omega arith
deed_stamps (Unsnap w gone) h = let n : ℕ = stamps_given h in omega arith
deed_stamps (Head answer) h = let n : ℕ = stamps_given h in omega arith
deed_stamps (Next s answer) h = let n : ℕ = stamps_given h in omega arith

-- the actions left and those made together stay as many
pub deed_room : (d : Deed) (own : List LogEntry) (h : History) → length (after_deed d []) + made_of own ≤ most_actions
    → (most_actions - length (after_deed d (history own))) + length (after_deed d h) ≤ (most_actions - made_of own) + length h
deed_room d own h few =
    let a = deed_length d (history own) in
    let b = deed_length d h in
    omega arith

walks_deed : (d : Deed) (r q : Contents) (h : History) (n : ℕ) (walking : Bool) (slots : List ℕ) → birth_of q n ≡ birth_of r n → WalksIf walking r h n slots → WalksIf walking q (after_deed d h) n slots
walks_deed (Reserve s stamp) r q h n walking slots e w = walks_on walking r q (Reserves s) h n slots e w
walks_deed Full r q h n walking slots e w = walks_same walking r q h n slots e w
walks_deed (Free s) r q h n walking slots e w = walks_on walking r q (Frees s) h n slots e w
walks_deed (Track s) r q h n walking slots e w = walks_on walking r q (Tracks s) h n slots e w
walks_deed (Unlink s) r q h n walking slots e w = walks_on walking r q (Unlinks s) h n slots e w
walks_deed (Settle s answer) r q h n walking slots e w = walks_on walking r q (Settles s) h n slots e w
walks_deed (Snap v) r q h n walking slots e w = walks_on walking r q (Snaps v) h n slots e w
walks_deed (Unsnap v gone) r q h n walking slots e w = walks_on walking r q (Unsnaps v) h n slots e w
walks_deed (Head answer) r q h n walking slots e w = walks_same walking r q h n slots e w
walks_deed (Next s answer) r q h n walking slots e w = walks_same walking r q h n slots e w

-- other walkers' snapshots stay
deed_births : (d : Deed) (p : TokenView) (r q : Contents) → Does d p r q → (n : ℕ) → n ≢ p.number → birth_of q n ≡ birth_of r n
deed_births (Reserve s stamp) p r q does n other = does.2.walking n
deed_births Full p r q does n other = ap (λ z. birth_of z n) does
deed_births (Free s) p r q does n other = does.1.walking n
deed_births (Track s) p r q does n other = does.1.walking n
deed_births (Unlink s) p r q does n other = does.1.walking n
deed_births (Settle s answer) p r q does n other = does.1.walking n
deed_births (Snap w) p r q does n other = does.3.others n (λ e. other (e ∙ does.0))
deed_births (Unsnap w gone) p r q does n other = does.2.others n (λ e. other (e ∙ does.0))
deed_births (Head answer) p r q does n other = ap (λ z. birth_of z n) does.1
deed_births (Next s answer) p r q does n other = ap (λ z. birth_of z n) does.2

-- how many walkers there are stays
deed_walkers : (d : Deed) (p : TokenView) (r q : Contents) → Does d p r q → q.walkers ≡ r.walkers
deed_walkers (Reserve s stamp) p r q does = does.2.walkers
deed_walkers Full p r q does = ap (λ z. z.walkers) does
deed_walkers (Free s) p r q does = does.1.walkers
deed_walkers (Track s) p r q does = does.1.walkers
deed_walkers (Unlink s) p r q does = does.1.walkers
deed_walkers (Settle s answer) p r q does = does.1.walkers
deed_walkers (Snap w) p r q does = does.3.walkers
deed_walkers (Unsnap w gone) p r q does = does.2.walkers
deed_walkers (Head answer) p r q does = ap (λ z. z.walkers) does.1
deed_walkers (Next s answer) p r q does = ap (λ z. z.walkers) does.2

-- the token's own walk
pub deed_walk : (d : Deed) (p : TokenView) (r q : Contents) (h : History) → Replays h r → IsAnswer d h → Does d p r q → WalksIf (is_walking p.own) r h p.number (walk_of p.own)
    → WalksIf (walking_after d (is_walking p.own)) q (after_deed d h) p.number (walk_after d (walk_of p.own))
deed_walk (Reserve s stamp) p r q h rep answer does w = walks_on (is_walking p.own) r q (Reserves s) h p.number (walk_of p.own) (does.2.walking p.number) w
deed_walk Full p r q h rep answer does w = walks_same (is_walking p.own) r q h p.number (walk_of p.own) (ap (λ z. birth_of z p.number) does) w
deed_walk (Free s) p r q h rep answer does w = walks_on (is_walking p.own) r q (Frees s) h p.number (walk_of p.own) (does.1.walking p.number) w
deed_walk (Track s) p r q h rep answer does w = walks_on (is_walking p.own) r q (Tracks s) h p.number (walk_of p.own) (does.1.walking p.number) w
deed_walk (Unlink s) p r q h rep answer does w = walks_on (is_walking p.own) r q (Unlinks s) h p.number (walk_of p.own) (does.1.walking p.number) w
deed_walk (Settle s a) p r q h rep answer does w = walks_on (is_walking p.own) r q (Settles s) h p.number (walk_of p.own) (does.1.walking p.number) w
deed_walk (Snap v) p r q h rep answer does w = (subst (λ (z : ℕ). z < 16) does.0 does.1, record { ticks = q.clock }, ap (birth_of q) (sym does.0) ∙ does.3.birth, [], tt, refl)
deed_walk (Unsnap v gone) p r q h rep answer does w = ap (birth_of q) (sym does.0) ∙ does.2.birth
deed_walk (Head a) p r q h rep answer does w =
    let o = out_of (is_walking p.own) r h p.number (walk_of p.own) does.0 rep w in
    subst (λ (z : Bool × Contents). WalksIf z.0 z.1 h p.number (found_on a [])) (λ i. (sym does.0 i, sym does.1 i)) (begun r h p.number (walk_of p.own) a o answer)
deed_walk (Next s a) p r q h rep answer does w =
    let o = out_of (is_walking p.own) r h p.number (walk_of p.own) does.0 rep w in
    subst (λ (z : Bool × Contents). WalksIf z.0 z.1 h p.number (found_on a (walk_of p.own))) (λ i. (sym does.0 i, sym does.2 i)) (stepped r h p.number s (walk_of p.own) a rep o does.1 answer)

-- a new entry of the token at this seat
abbrev pub entry_of : TokenView → ℕ → Deed → LogEntry
entry_of p place d = record { by = p.number; place = place; deed = d }

pub own_entry : (p : TokenView) (e : LogEntry) (log : List LogEntry) → e.by ≡ p.number → of_token p.number (e ∷ log) ≡ e ∷ of_token p.number log
own_entry p e log is = ap (λ b. cond b (e ∷ of_token p.number log) (of_token p.number log)) (eq-eqb p.number e.by (sym is))

other_entry : (n : ℕ) (e : LogEntry) (log : List LogEntry) → n ≢ e.by → of_token n (e ∷ log) ≡ of_token n log
other_entry n e log not = ap (λ b. cond b (e ∷ of_token n log) (of_token n log)) (ne_eqb n e.by not)

-- an entry of another token leaves the stamps that a token unlinked, and none goes
unlinked_beside : (d : Deed) (h : History) (us : List ℕ) → unlinked_by d false h us ≡ us
unlinked_beside (Reserve s stamp) h us = refl
unlinked_beside Full h us = refl
unlinked_beside (Free s) h us = refl
unlinked_beside (Track s) h us = refl
unlinked_beside (Unlink s) h us = refl
unlinked_beside (Settle s answer) h us = refl
unlinked_beside (Snap w) h us = refl
unlinked_beside (Unsnap w gone) h us = refl
unlinked_beside (Head answer) h us = refl
unlinked_beside (Next s answer) h us = refl

other_unlinked : (n : ℕ) (e : LogEntry) (log : List LogEntry) → n ≢ e.by → unlinked_of n (e ∷ log) ≡ unlinked_of n log
other_unlinked n e log not = ap (λ b. unlinked_by e.deed b (history log) (unlinked_of n log)) (ne_eqb n e.by not) ∙ unlinked_beside e.deed (history log) (unlinked_of n log)

either_has : (a b : Bool) → b ≡ true → (a || b) ≡ true
either_has true b e = refl
either_has false b e = e

one_more : (b : Bool) (stamp t : ℕ) (us : List ℕ) → has t us ≡ true → has t (cond b (stamp ∷ us) us) ≡ true
one_more true stamp t us e = either_has (t == stamp) (has t us) e
one_more false stamp t us e = e

unlinked_more : (d : Deed) (b : Bool) (h : History) (t : ℕ) (us : List ℕ) → has t us ≡ true → has t (unlinked_by d b h us) ≡ true
unlinked_more (Reserve s stamp) b h t us e = e
unlinked_more Full b h t us e = e
unlinked_more (Free s) b h t us e = e
unlinked_more (Track s) b h t us e = e
unlinked_more (Unlink s) b h t us e = one_more b (stamp_in h s) t us e
unlinked_more (Settle s answer) b h t us e = e
unlinked_more (Snap w) b h t us e = e
unlinked_more (Unsnap w gone) b h t us e = e
unlinked_more (Head answer) b h t us e = e
unlinked_more (Next s answer) b h t us e = e

-- the entry of an unlink, for its own token
pub own_unlinked : (n s place : ℕ) (log : List LogEntry) → unlinked_of n (record { by = n; place = place; deed = Unlink s } ∷ log) ≡ stamp_in (history log) s ∷ unlinked_of n log
own_unlinked n s place log = ap (λ b. cond b (stamp_in (history log) s ∷ unlinked_of n log) (unlinked_of n log)) (eq-eqb n n refl)

pub has_first : (t : ℕ) (us : List ℕ) → has t (t ∷ us) ≡ true
has_first t us = ap (λ b. b || has t us) (eq-eqb t t refl)

-- a token without entries unlinked nothing
by_entry : (b : Bool) (e : LogEntry) (es : List LogEntry) (n : ℕ) → (of_token n es ≡ [] → unlinked_of n es ≡ []) → cond b (e ∷ of_token n es) (of_token n es) ≡ [] → unlinked_by e.deed b (history es) (unlinked_of n es) ≡ []
by_entry true e es n k none = absurd (cc)
by_entry false e es n k none = unlinked_beside e.deed (history es) (unlinked_of n es) ∙ k none

pub unlinked_none : (n : ℕ) (log : List LogEntry) → of_token n log ≡ [] → unlinked_of n log ≡ []
unlinked_none n [] e = refl
unlinked_none n (x ∷ xs) e = by_entry (n == x.by) x xs n (unlinked_none n xs) e

pub follows_entry : (g : Facts) (by : ℕ) (p : TokenView) (place : ℕ) (d : Deed) (q : Contents) → Replays (history g.log) g.registry → IsLog g.log → ((n : ℕ) → g.given ≤ n → (of_token n g.log ≡ []) × (birth_of g.registry n ≡ None))
    → IsToken g by p → place ≡ q.clock → Replays (after_deed d (history g.log)) q → IsAnswer d (history g.log) → Does d p g.registry q → Follows g by (entry_of p place d ∷ g.log) q
follows_entry g by p place d q rep logged ungiven k placed replays answer does = record {
  own = λ n less apart. other_entry n (entry_of p place d) g.log (λ e. apart (ap g.seat e ∙ k.seat));
  unlinked = λ n less apart. other_unlinked n (entry_of p place d) g.log (λ e. apart (ap g.seat e ∙ k.seat));
  more = λ n t e. unlinked_more d (n == p.number) (history g.log) t (unlinked_of n g.log) e;
  walk = λ n less apart walking slots w. walks_deed d g.registry q (history g.log) n walking slots (deed_births d p g.registry q does n (λ e. apart (ap g.seat e ∙ k.seat))) w;
  replays = replays;
  walkers = deed_walkers d p g.registry q does;
  logged = (placed ∙ replays.clock, answer, logged);
  stamps = deed_stamps d (history g.log);
  ungiven = λ n over.
      let low = k.given in
      let not : n ≢ p.number = λ e. omega arith in
      let u = ungiven n over in
      (other_entry n (entry_of p place d) g.log not ∙ u.0, deed_births d p g.registry q does n not ∙ u.1);
}

-- a record that was tracked has a slot
or_below : (b : Bool) (s r : ℕ) (u v : Use) → (b ≡ true → s < 256) → (v ≡ Tracked → s < 256) → cond b u v ≡ Tracked → s < 256
or_below true s r u v here there e = here refl
or_below false s r u v here there e = there e

pub tracked_small : (n : ℕ) (h : History) (s : ℕ) → IsLegal n h → use_of h s ≡ Tracked → s < 256
tracked_small n [] s legal e = absurd (cc)
tracked_small n (Reserves r ∷ h) s legal e = or_below (eqb s r) s r Holder (use_of h s) (λ is. subst (λ (z : ℕ). z < 256) (sym (eqb-true s r is)) legal.0.0) (tracked_small n h s legal.2) e
tracked_small n (Frees r ∷ h) s legal e = or_below (eqb s r) s r Nobody (use_of h s) (λ is. subst (λ (z : ℕ). z < 256) (sym (eqb-true s r is)) legal.0.0) (tracked_small n h s legal.2) e
tracked_small n (Tracks r ∷ h) s legal e = or_below (eqb s r) s r Tracked (use_of h s) (λ is. subst (λ (z : ℕ). z < 256) (sym (eqb-true s r is)) legal.0.0) (tracked_small n h s legal.2) e
tracked_small n (Unlinks r ∷ h) s legal e = tracked_small n h s legal.2 e
tracked_small n (Settles r ∷ h) s legal e = tracked_small n h s legal.2 e
tracked_small n (Snaps w ∷ h) s legal e = tracked_small n h s legal.2 e
tracked_small n (Unsnaps w ∷ h) s legal e = tracked_small n h s legal.2 e

not_clearing : (b : Bool) → cond b Clearing Waits ≢ Clearing → cond b Clearing Waits ≡ Waits
not_clearing true n = absurd (n refl)
not_clearing false n = refl

pub waits_by : (o : Option RecordTimes) (xs ys : List SnapshotTimes) (place now : ℕ) → deleted_at ys (course_of o) place ≡ true → state_for Tracked o xs now ≢ Clearing → state_for Tracked o xs now ≡ Waits
waits_by None xs ys place now e n = absurd (cc)
waits_by (Some r) xs ys place now e n = by_course r.course e n
  where
    by_course : (c : Course) → deleted_at ys c place ≡ true → Rattle.cordz_core.specs.Legal.state_by xs c now ≢ Clearing → Rattle.cordz_core.specs.Legal.state_by xs c now ≡ Waits
    by_course Stays e n = absurd (cc)
    by_course (Left u) e n = absurd (cc)
    by_course (Done u p) e n = not_clearing (deleted_at xs (Done u p) now) n
