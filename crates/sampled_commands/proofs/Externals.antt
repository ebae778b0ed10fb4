-- What `ext` comes to: the session has no box left, or an external was made, or refused.
use Rattle.std.proofs.Common.{◌≡◌, ◌∙◌, sym, ap, subst, refl, inl, inr, ℕ, ◌+◌, ◌≤◌, List, [], ◌∷◌, length, drop, Option, Some, Bool, true, false, Result, Ok, Err, arith}
use Rattle.std.specs.Prelude.{◌⊎◌, ◌&&◌, is_some, option_map, IfOk, IfErr, OnErr}
use Rattle.std.specs.declared.alloc.AllocError.{AllocError}
use Rattle.std.proofs.lemmas.Bool.{le-leb, lt-leb}
use Rattle.node_forest.specs.Label.{Node}
use Rattle.plain_cord.specs.Texts.{text_bytes}
use Rattle.plain_cord.specs.declared.reply.NewMark.{NewMark}
use Rattle.plain_cord.specs.declared.script.Command.TheVariants as commands
use Rattle.plain_cord.specs.declared.script.Text.{Text}
use Rattle.plain_cord.specs.declared.reply.Reply.TheVariants as replies
use Rattle.tree_shapes.specs.Cords.{CordShape, cord_of_external, sum_of}
use Rattle.pool_rule.specs.Views.{View}
use Rattle.record_rule.specs.declared.views.TokenView.{TokenView}
use Rattle.ordered_names.specs.declared.names.Names.{Names}
use Rattle.ordered_names.specs.Named.{named}
use Rattle.cord_value.specs.Externals.{IsExternalRefused}
use Rattle.cord_value.specs.Refusals.{IsBalanced}
use Rattle.cord_value.specs.Views.{IsTreeOf, cord_shape, passes_of, root_number}
use Rattle.cord_value.specs.declared.refusals.CordError.{CordError}
use Rattle.cord_value.specs.declared.refusals.CordError.TheVariants as errors
use Rattle.cord_sampled.specs.Copies.{one_if}
use Rattle.cord_sampled.specs.Externals.{KeepsExternal, IsExternalUndone}
use Rattle.cord_sampled.specs.Making.{turn_after, IsRecorded}
use Rattle.cord_sampled.specs.Sampled.{cord_in as sampled_cord, ticket_in}
use Rattle.cord_sampled.specs.Tracking.{ended_by}
use Rattle.cord_sampled.specs.declared.cord.SampledCord.{SampledCord}
use Rattle.cord_sampled.specs.declared.mark.Mark.{Mark}
use Rattle.cord_steps.specs.Answers.{External}
use Rattle.cord_steps.specs.Cords.{naming}
use Rattle.cord_steps.specs.Cords as steps
use Rattle.cord_steps.specs.Doings.{Fresh, Doing}
use Rattle.cord_steps.specs.Sessions.{Options, Session}
use Rattle.cord_steps.specs.Steps.{has_box}
use Rattle.desk_laws.specs.Counts.{tracks_in, unlinks_in, frees_in}
use Rattle.sampled_commands.specs.declared.answer.Answer.{Answer}
use Rattle.sampled_commands.specs.declared.answer.Answer.TheVariants.{Told, Releasers, Height, Cords, Pool}
use Rattle.sampled_commands.specs.Accounts.{Seen, one_record, IsOngoing, AddsUpTo}
use Rattle.sampled_commands.specs.Answers.{ok_with, new_mark, told_by, refusal_of}
use Rattle.sampled_commands.specs.Does.{AreFor, IsAt, IsCause, StepsTo, Does}
use Rattle.sampled_commands.specs.Forms.{view_of}
use Rattle.sampled_commands.specs.Leaving.{stamp_gone, IsIdle}
use Rattle.sampled_commands.specs.Setting.{session_made, trees_made, records_made, IsSet}
use Rattle.sampled_commands.specs.Slots.{external_by, SameSlots, Uses}
use Rattle.sampled_commands.specs.Views.{SessionCordView, cord_in, names_of, record_of, IsWhole, AreSame, IsSetTo}
use Rattle.sampled_commands.proofs.Comings.{external-none, external-done, external-height, external-cords, external-pool}
use Rattle.sampled_commands.proofs.Doing.{done-reply, some-answer}
use Rattle.sampled_commands.proofs.Entries.{HasNoted, recorded-noted}
use Rattle.sampled_commands.proofs.Fresh.{setting, fresh-marked}
use Rattle.sampled_commands.proofs.Made.{one-record}
use Rattle.sampled_commands.proofs.Marks.{IsMarkedAs}
use Rattle.sampled_commands.proofs.Ongoing.{ongoing-by, ongoing-balanced, idle-balanced, adds-by, adds-balanced}
use Rattle.sampled_commands.proofs.Slotted.{idle-slots, idle-uses, external-slots, external-uses, external-unused, uses-then}
use Rattle.sampled_commands.proofs.Whole.{set-naming, same-names, whole-cord, whole-same, whole-set}

-- ---- boxes
box-left : (s : Session) (have : Names SessionCordView) (v : Seen) (j : ℕ) (later : List ℕ) → v.worker.unused ≡ j ∷ later → IsAt s have v → has_box s ≡ true
box-left s have v j later e at = le-leb (s.externals + 1) s.boxes (let n = ap length e in omega (arith, at.boxes))

box-none : (s : Session) (have : Names SessionCordView) (v : Seen) → v.worker.unused ≡ [] → IsAt s have v → has_box s ≡ false
box-none s have v e at = lt-leb (s.externals + 1) s.boxes (let n = ap length e in omega (arith, at.boxes))

module _ (size limit stride : ℕ) (old new : Names SessionCordView) (v w : Seen) (a : List ℕ) (text : Text) where
  -- ---- nothing is done
  module _ (same : AreSame old new) (unmade : w.made ≡ v.made) (unused : w.worker.unused ≡ v.worker.unused) where
    still : (answer : Answer) → ((options : Options) (p : ℕ) (s : Session) → AreFor options size limit stride → IsAt s old v
        → StepsTo options p s (External a text) (told_by answer) s.names s.trees s.externals)
        → IsCause size limit v.worker w.worker answer → Does size limit stride old new v w (External a text) answer
    still answer stays cause = record {
      whole = whole-same old new same;
      externals = 0;
      used = omega (arith, ap length unused);
      step = λ options p s for at all.
          subst (λ (z : steps.Names). StepsTo options p s (External a text) (told_by answer) z w.made (s.externals + 0)) (at.names ∙ same-names old new same)
          (subst (λ (n : ℕ). StepsTo options p s (External a text) (told_by answer) s.names n (s.externals + 0)) (at.trees ∙ sym unmade)
          (subst (λ (n : ℕ). StepsTo options p s (External a text) (told_by answer) s.names s.trees n) (omega arith) (stays options p s for at)));
      cause = cause;
    }

    pub no-box-does : v.worker.unused ≡ [] → Does size limit stride old new v w (External a text) Releasers
    no-box-does none = still Releasers (λ options p s for at. external-none options p s a text (box-none s old v none at)) none

    refused-as : (told answer : Answer) → Some answer ≡ Some told → Does size limit stride old new v w (External a text) told → Does size limit stride old new v w (External a text) answer
    refused-as told answer is does = subst (Does size limit stride old new v w (External a text)) (some-answer told answer (sym is)) does

    module _ (j : ℕ) (later : List ℕ) (left : v.worker.unused ≡ j ∷ later) (short : length (text_bytes text) ≤ 2147483647) where
      pub external-refused : (x : CordError) (answer : Answer) → IsExternalRefused size limit (length (text_bytes text)) x v.worker w.worker → IsBalanced limit x v.worker w.worker → Some answer ≡ refusal_of x
          → Does size limit stride old new v w (External a text) answer
      external-refused (errors.NoReleaser used) answer why balanced told = refused-as Releasers answer told (no-box-does why.0)
      external-refused (errors.LengthLimit asked) answer why balanced told = absurd (omega (arith, short, why.1.0, why.1.1))
      external-refused (errors.HeightLimit height) answer why balanced told = refused-as Height answer told
          (still Height (λ options p s for at. external-height options p s a text (box-left s old v j later left at) why.1.2) tt)
      external-refused (errors.PassLimit found) answer why balanced told = refused-as (Cords found) answer told
          (still (Cords found) (λ options p s for at. external-cords options p s a text (box-left s old v j later left at) found why.1.0.1 why.1.2 (omega (arith, for.passes, why.1.3))) balanced)
      external-refused (errors.NoNumber seen) answer why balanced told = refused-as (Pool seen) answer told
          (still (Pool seen) (λ options p s for at. external-pool options p s a text (box-left s old v j later left at) seen why.1.0.1 why.1.1 (why.1.2 ∙ sym for.numbers)) (why.1.2, why.1.3))
      external-refused errors.Memory answer why balanced told = cc
      external-refused (errors.Position asked end) answer why balanced told = absurd why.1

  -- ---- an external was made
  pub external-set : (c : SessionCordView) (mark : NewMark) (lost : Option ℕ) → IsSetTo old new a c → IsWhole c → c.cord.bytes ≡ text_bytes text → cord_shape c.cord ≡ cord_of_external (length (text_bytes text))
      → IsMarkedAs stride v.made (setting old a (cord_of_external (length (text_bytes text)))) c.sample mark lost → w.made ≡ v.made + 1
      → (j : ℕ) (later : List ℕ) → v.worker.unused ≡ j ∷ later → w.worker.unused ≡ drop 1 v.worker.unused → Does size limit stride old new v w (External a text) (ok_with mark lost)
  external-set c mark lost set whole same shape marked made j later left unused = record {
    whole = λ all. whole-set old new a c set whole all;
    externals = 1;
    used = (let m = ap length unused in let n = ap length left in let d = ap (λ (us : List ℕ). length (drop 1 us)) left in omega arith);
    step = λ options p s for at all.
        let names : naming s.names a (Some (cord_in c)) ≡ names_of new = ap (λ z. naming z a (Some (cord_in c))) at.names ∙ set-naming old new a c set in
        let trees : s.trees + 1 ≡ w.made = ap (λ n. n + 1) at.trees ∙ sym made in
        let here : IsMarkedAs stride v.made (setting-of s.names) c.sample mark lost = subst (λ z. IsMarkedAs stride v.made (setting-of z) c.sample mark lost) (sym at.names) marked in
        subst (λ (z : steps.Names). StepsTo options p s (External a text) (told_by (ok_with mark lost)) z w.made (s.externals + 1)) names
        (subst (λ (n : ℕ). StepsTo options p s (External a text) (told_by (ok_with mark lost)) (naming s.names a (Some (cord_in c))) n (s.externals + 1)) trees
        (external-done options p s a text (box-left s old v j later left at) mark lost (done-reply options size limit stride s old v for at (setting-of s.names) c.sample mark lost here)
        (cord_in c) (whole-cord c whole) (sym same) (sym (ap (λ (z : CordShape). z.tree) shape)) (ap (λ (z : CordShape). sum_of z.tree) shape) here.noted));
    cause = tt;
  }
    where
      setting-of : steps.Names → Doing
      setting-of names = record { name = a; manner = Fresh; old = names a; made = cord_of_external (length (text_bytes text)) }

-- ---- what a session has after an external was made, or refused
pub record IsExternalBy (n : ℕ) (v m : Seen) (r : Result (SessionCordView × Mark) CordError) : Type 0 where
  pub ongoing : IsOngoing v m
  pub even : AddsUpTo v m 0 (trees_made r) 0 (records_made r)
  pub slots : SameSlots v.worker m.worker
  pub uses : IfOk r (λ _. Uses v.worker m.worker (n ∷ []))
  pub idle : IfErr r (λ x. (x ≡ errors.Memory) ⊎ IsIdle v.worker m.worker)
  pub unused : IfOk r (λ _. m.worker.unused ≡ drop 1 v.worker.unused)
  pub noted : IfOk r (λ c. HasNoted c.0.sample (new_mark c.1) v.token m.token)
  pub still : IfErr r (λ _. m.token ≡ v.token)

module _ {P D : Type 0} {p : _} {d : _} where
  pub external-by : (limit n : ℕ) (due : Bool) (v m : Seen) (j : ℕ) (later : List ℕ) → v.worker.unused ≡ j ∷ later → (r : Result (SampledCord P D p d × Mark) CordError)
      → IfOk r (λ x. passes_of (sampled_cord x.0).tree ≡ 1) → IfOk r (λ x. IsRecorded due (sampled_cord x.0).tree (ticket_in x.0) x.1 v.token m.token)
      → IfOk r (λ x. KeepsExternal limit n (root_number (sampled_cord x.0).tree) (1 + (one_if (ticket_in x.0) + ended_by x.1)) (ended_by x.1) v.worker m.worker)
      → IfErr r (λ x. IsExternalUndone limit due n x v.worker m.worker) → OnErr r (m.token ≡ v.token) → IsExternalBy n v m (session_made r)
  external-by limit n due v m j later left (Ok x) one recorded k undone still =
      let t = ticket_in x.0 in
      let e = (sampled_cord x.0).tree in
      let noted = recorded-noted due e t x.1 v.token m.token recorded in
      let records = one_record (option_map record_of t) in
      let count = one-record t in
      record {
        ongoing = ongoing-by v m k.holds k.gain k.gained noted.number;
        even = adds-by v m 0 (passes_of e) 0 records (1 + (one_if t + ended_by x.1)) (ended_by x.1) records 0 0
            (ap (λ (z : View). z.made) k.gained ∙ ap (λ n. v.worker.made + n) k.made) (ap (λ (z : View). z.ended) k.gained ∙ ap (λ n. v.worker.ended + n) k.ended)
            noted.tracks noted.unlinks noted.frees (omega (arith, count, one)) (omega arith);
        slots = external-slots limit n _ _ _ v.worker m.worker k j later left;
        uses = external-uses limit n _ _ _ v.worker m.worker k j later left;
        idle = tt;
        unused = external-unused limit n _ _ _ v.worker m.worker k;
        noted = noted;
        still = tt;
      }
  external-by limit n due v m j later left (Err x) one recorded k (inl balanced) still = record {
    ongoing = ongoing-balanced limit x v m balanced still;
    even = adds-balanced limit x v m 0 0 balanced still;
    slots = idle-slots v.worker m.worker (idle-balanced limit x v.worker m.worker balanced);
    uses = tt;
    idle = inr (idle-balanced limit x v.worker m.worker balanced);
    unused = tt;
    noted = tt;
    still = still;
  }
  external-by limit n due v m j later left (Err x) one recorded k (inr gone) still =
      let g = gone.keeps in
      record {
        ongoing = ongoing-by v m g.holds g.gain g.gained (ap (λ (z : TokenView). z.number) still);
        even = adds-by v m 0 0 0 0 2 2 0 0 0
            (ap (λ (z : View). z.made) g.gained ∙ ap (λ n. v.worker.made + n) g.made) (ap (λ (z : View). z.ended) g.gained ∙ ap (λ n. v.worker.ended + n) g.ended)
            (omega (arith, ap (λ (z : TokenView). tracks_in z.own) still)) (omega (arith, ap (λ (z : TokenView). unlinks_in z.own) still))
            (omega (arith, ap (λ (z : TokenView). frees_in z.own) still)) refl refl;
        slots = external-slots limit n gone.number 2 2 v.worker m.worker g j later left;
        uses = tt;
        idle = inl gone.memory;
        unused = tt;
        noted = tt;
        still = still;
      }

  -- the marks of an external's cord
  pub external-marked : (stride made : ℕ) (names : Names SessionCordView) (a : List ℕ) (n : ℕ) (e : Node) (s : SampledCord P D p d) (mark : Mark) (x y : TokenView) → (sampled_cord s).tree ≡ Some e
      → cord_shape (sampled_cord s) ≡ cord_of_external n → IsTreeOf (sampled_cord s).bytes (sampled_cord s).tree → IsRecorded (turn_after stride made) (sampled_cord s).tree (ticket_in s) mark x y
      → IsMarkedAs stride made (setting names a (cord_of_external n)) (view_of s).sample (new_mark mark) (stamp_gone (named names a))
  external-marked stride made names a n e s mark x y is shape formed recorded = fresh-marked stride made names a (cord_of_external n) s mark x y shape formed
      (subst (λ b. IsRecorded b (sampled_cord s).tree (ticket_in s) mark x y) (ap (λ o. is_some o && turn_after stride made) (sym is)) recorded)

-- ---- which slot is used
-- its slot is used where it was made
pub external-used : (n : ℕ) (v m w : View) (old new : Names SessionCordView) (a : List ℕ) (text : Text) → n ≡ length (text_bytes text) → IsIdle m w → (r : Result (SessionCordView × Mark) CordError)
    (res : Result Answer AllocError) → IfOk r (λ _. Uses v m (n ∷ [])) → IfErr r (λ x. (x ≡ errors.Memory) ⊎ IsIdle v m) → IfOk res (λ answer. IsSet old new a r answer)
    → IfOk res (λ answer. Uses v w (external_by (commands.Ext a text) answer))
external-used n v m w old new a text long idle r res = go r res
  where
    none-by : (told answer : Answer) → Some answer ≡ Some told → external_by (commands.Ext a text) told ≡ [] → external_by (commands.Ext a text) answer ≡ []
    none-by told answer is none = ap (external_by (commands.Ext a text)) (some-answer answer told is) ∙ none

    refused-by : (x : CordError) (answer : Answer) → Some answer ≡ refusal_of x → external_by (commands.Ext a text) answer ≡ []
    refused-by (errors.Position asked end) answer is = none-by (Told (replies.Position asked end)) answer is refl
    refused-by (errors.LengthLimit asked) answer is = none-by (Told (replies.Length asked)) answer is refl
    refused-by (errors.HeightLimit height) answer is = none-by Height answer is refl
    refused-by (errors.PassLimit found) answer is = none-by (Cords found) answer is refl
    refused-by (errors.NoNumber seen) answer is = none-by (Pool seen) answer is refl
    refused-by (errors.NoReleaser used) answer is = none-by Releasers answer is refl
    refused-by errors.Memory answer is = cc

    go : (r : Result (SessionCordView × Mark) CordError) (res : Result Answer AllocError) → IfOk r (λ _. Uses v m (n ∷ [])) → IfErr r (λ x. (x ≡ errors.Memory) ⊎ IsIdle v m)
        → IfOk res (λ answer. IsSet old new a r answer) → IfOk res (λ answer. Uses v w (external_by (commands.Ext a text) answer))
    go r (Err e) k l set = tt
    go (Ok c) (Ok answer) k l set = subst (Uses v w) (ap (λ z. z ∷ []) long ∙ ap (external_by (commands.Ext a text)) (sym set.1)) (uses-then v m w (n ∷ []) [] k (idle-uses m w idle))
    go (Err x) (Ok answer) k (inl memory) set = absurd (let e = set.1 ∙ ap refusal_of memory in cc)
    go (Err x) (Ok answer) k (inr before) set = subst (Uses v w) (sym (refused-by x answer set.1)) (uses-then v m w [] [] (idle-uses v m before) (idle-uses m w idle))

-- the answer of `ext` where the session had a box
pub external-does : (size limit stride : ℕ) (due : Bool) (old new : Names SessionCordView) (v m w : Seen) (a : List ℕ) (text : Text) (bytes : List ℕ) → bytes ≡ text_bytes text → (j : ℕ) (later : List ℕ)
    → v.worker.unused ≡ j ∷ later → length bytes ≤ 2147483647 → (r : Result (SessionCordView × Mark) CordError) (res : Result Answer AllocError) → IfOk r (λ c. c.0.cord.bytes ≡ bytes)
    → IfOk r (λ c. IsWhole c.0) → IfOk r (λ c. cord_shape c.0.cord ≡ cord_of_external (length bytes))
    → IfOk r (λ c. IsMarkedAs stride v.made (setting old a (cord_of_external (length bytes))) c.0.sample (new_mark c.1) (stamp_gone (named old a))) → IfOk r (λ _. w.made ≡ v.made + 1)
    → IfOk r (λ _. m.worker.unused ≡ drop 1 v.worker.unused) → IfErr r (λ x. IsExternalRefused size limit (length bytes) x v.worker m.worker)
    → IfErr r (λ x. IsExternalUndone limit due (length bytes) x v.worker m.worker) → IfErr r (λ x. w.worker ≡ m.worker) → IfErr r (λ x. w.made ≡ v.made)
    → w.worker.unused ≡ m.worker.unused → IfOk res (λ answer. IsSet old new a r answer) → IfOk res (λ answer. Does size limit stride old new v w (External a text) answer)
external-does size limit stride due old new v m w a text bytes same j later left short r (Err e) is whole shape marked made one refused undone stays unmade unused set = tt
external-does size limit stride due old new v m w a text bytes same j later left short (Ok c) (Ok answer) is whole shape marked made one refused undone stays unmade unused set =
    subst (Does size limit stride old new v w (External a text)) (sym set.1)
    (external-set size limit stride old new v w a text c.0 (new_mark c.1) (stamp_gone (named old a)) set.0 whole (is ∙ same) (shape ∙ ap (λ (z : List ℕ). cord_of_external (length z)) same)
    (subst (λ (z : List ℕ). IsMarkedAs stride v.made (setting old a (cord_of_external (length z))) c.0.sample (new_mark c.1) (stamp_gone (named old a))) same marked) made j later left (unused ∙ one))
external-does size limit stride due old new v m w a text bytes same j later left short (Err x) (Ok answer) is whole shape marked made one refused (inr gone) stays unmade unused set =
    absurd (let e = set.1 ∙ ap refusal_of gone.memory in cc)
external-does size limit stride due old new v m w a text bytes same j later left short (Err x) (Ok answer) is whole shape marked made one refused (inl balanced) stays unmade unused set =
    external-refused size limit stride old new v w a text set.0 unmade (unused ∙ (idle-balanced limit x v.worker m.worker balanced).unused) j later left
    (subst (λ (z : List ℕ). length z ≤ 2147483647) same short) x answer
    (subst (λ (z : View). IsExternalRefused size limit (length (text_bytes text)) x v.worker z) (sym stays)
    (subst (λ (z : List ℕ). IsExternalRefused size limit (length z) x v.worker m.worker) same refused))
    (subst (λ (z : View). IsBalanced limit x v.worker z) (sym stays) balanced) set.1
