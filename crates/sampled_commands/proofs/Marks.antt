-- The marks of cords that are set, as the plain step over trees has them.
use Rattle.std.proofs.Common.{◌≡◌, ◌∙◌, sym, ap, subst, refl, ℕ, ◌≤◌, List, length, Option, Some, None, Bool, true, false}
use Rattle.std.specs.Prelude.{◌&&◌, is_some, option_map, if◌then◌else◌}
use Rattle.node_forest.specs.Label.{Node}
use Rattle.plain_cord.specs.declared.reply.NewMark.{NewMark}
use Rattle.record_rule.specs.declared.values.Note.{Note}
use Rattle.record_rule.specs.declared.views.TokenView.{TokenView}
use Rattle.record_rule.specs.Notes.{newest_update}
use Rattle.cordz_desk.specs.declared.tickets.Ticket.{Ticket}
use Rattle.cord_value.specs.Views.{IsTreeOf}
use Rattle.cord_sampled.specs.declared.mark.Mark.{Mark}
use Rattle.cord_sampled.specs.declared.mark.Mark.TheVariants.{Plain, Noted as Told, Full, Gone}
use Rattle.cord_sampled.specs.Making.{turn_after, IsRecorded}
use Rattle.cord_sampled.specs.Tracking.{IsLinked, IsTracked}
use Rattle.cord_steps.specs.Cords as steps
use Rattle.cord_steps.specs.Cords.{shape_in, note_in, stamp_in}
use Rattle.cord_steps.specs.Doings.{Manner, Fresh, Copied, Changed, Doing}
use Rattle.cord_steps.specs.Marks.{is_tree, is_new, sampled_step, kept_step, kept_note, gone_step, gone_stamp, IsNewMark, IsMark, note_after}
use Rattle.sampled_commands.specs.Answers.{new_mark}
use Rattle.sampled_commands.specs.Leaving.{stamp_gone}
use Rattle.sampled_commands.specs.Views.{RecordView, SessionCordView, record_of, note_of, cord_in}
use Rattle.sampled_commands.proofs.Whole.{tree-long}

-- ---- what a doing's answer tells, where so many new trees were made before
pub record IsMarkedAs (stride made : ℕ) (d : Doing) (sample : Option RecordView) (mark : NewMark) (lost : Option ℕ) : Type 0 where
  pub told : IsMark (sampled_step d.manner (is_new d && turn_after stride made)) d.manner (kept_note d) d.made.size mark
  pub gone : lost ≡ gone_stamp d
  pub noted : option_map note_of sample ≡ note_after (kept_note d) mark

-- a cord that takes the place of another keeps no note
abbrev pub IsSetting : Manner → Type 0
IsSetting Fresh = Unit {0}
IsSetting (Copied from) = Unit {0}
IsSetting (Changed alters) = ⊥

if-none : {X : Type 0} (b : Bool) (o : Option X) → o ≡ None → (if b then o else None) ≡ None
if-none true o e = e
if-none false o e = refl

kept-setting : (m : Manner) (o : Option steps.Note) → IsSetting m → kept_step m o ≡ None
kept-setting Fresh o is = refl
kept-setting (Copied from) o is = refl
kept-setting (Changed alters) o is = absurd is

pub set-kept : (d : Doing) → IsSetting d.manner → kept_note d ≡ None
set-kept d is = if-none (is_tree d) (kept_step d.manner (note_in d.old)) (kept-setting d.manner (note_in d.old) is)

gone-setting : (m : Manner) (b : Bool) (o : Option ℕ) → IsSetting m → gone_step m b o ≡ o
gone-setting Fresh b o is = refl
gone-setting (Copied from) b o is = refl
gone-setting (Changed alters) b o is = absurd is

pub set-gone : (d : Doing) → IsSetting d.manner → gone_stamp d ≡ stamp_in d.old
set-gone d is = gone-setting d.manner (is_tree d) (stamp_in d.old) is

-- the stamp of a name's record
stamp-of : (sample : Option RecordView) → option_map (λ (n : steps.Note). n.stamp) (option_map note_of sample) ≡ option_map (λ (r : RecordView). r.stamp) sample
stamp-of None = refl
stamp-of (Some r) = refl

pub stamp-gone : (o : Option SessionCordView) → stamp_in (option_map cord_in o) ≡ stamp_gone o
stamp-gone None = refl
stamp-gone (Some c) = stamp-of c.sample

-- ---- new records
module _ {P D : Type 0} {p : _} {d : _} where
  linked-mark : (t : Ticket P D p d) (note : Note) (e : Node) (n : ℕ) (a b : TokenView) → e.0.length ≡ n → IsLinked t note e a b → IsNewMark n (new_mark (Told note))
  linked-mark t note e n a b long is =
      (subst (λ (k : ℕ). 1 ≤ k) (sym (ap (λ (z : Note). z.stamp) is.noted)) is.positive, ap (λ (z : Note). z.update) is.noted, ap (λ (z : Note). z.length) is.noted ∙ long)

  linked-note : (t : Ticket P D p d) (note : Note) (e : Node) (a b : TokenView) → IsLinked t note e a b → Some (note_of (record_of t)) ≡ note_after None (new_mark (Told note))
  linked-note t note e a b is = λ i. Some (record {
    stamp = sym (ap (λ (z : Note). z.stamp) is.noted) i;
    update = (ap newest_update is.notes ∙ sym (ap (λ (z : Note). z.update) is.noted)) i;
  })

  tracked-mark : (t : Option (Ticket P D p d)) (mark : Mark) (e : Node) (n : ℕ) (a b : TokenView) → e.0.length ≡ n → IsTracked t mark e a b → IsNewMark n (new_mark mark)
  tracked-mark (Some t) (Told note) e n a b long is = linked-mark t note e n a b long is
  tracked-mark (Some t) Plain e n a b long is = absurd is
  tracked-mark (Some t) (Full k) e n a b long is = absurd is
  tracked-mark (Some t) (Gone k) e n a b long is = absurd is
  tracked-mark None (Full k) e n a b long is = tt
  tracked-mark None Plain e n a b long is = absurd is
  tracked-mark None (Told note) e n a b long is = absurd is
  tracked-mark None (Gone k) e n a b long is = absurd is

  tracked-note : (t : Option (Ticket P D p d)) (mark : Mark) (e : Node) (a b : TokenView) → IsTracked t mark e a b → option_map note_of (option_map record_of t) ≡ note_after None (new_mark mark)
  tracked-note (Some t) (Told note) e a b is = linked-note t note e a b is
  tracked-note (Some t) Plain e a b is = absurd is
  tracked-note (Some t) (Full k) e a b is = absurd is
  tracked-note (Some t) (Gone k) e a b is = absurd is
  tracked-note None (Full k) e a b is = refl
  tracked-note None Plain e a b is = absurd is
  tracked-note None (Told note) e a b is = absurd is
  tracked-note None (Gone k) e a b is = absurd is

  -- a cord that is set has a new record, or none
  recorded-mark : (due : Bool) (bytes : List ℕ) (e : Option Node) (t : Option (Ticket P D p d)) (mark : Mark) (n : ℕ) (a b : TokenView) (m : Manner) → IsSetting m → length bytes ≡ n → IsTreeOf bytes e
      → IsRecorded due e t mark a b → IsMark due m None n (new_mark mark)
  recorded-mark false bytes e t mark n a b Fresh set long formed is = ap new_mark is.1
  recorded-mark false bytes e t mark n a b (Copied from) set long formed is = ap new_mark is.1
  recorded-mark false bytes e t mark n a b (Changed alters) set long formed is = absurd set
  recorded-mark true bytes None t mark n a b m set long formed is = absurd is
  recorded-mark true bytes (Some e) t mark n a b m set long formed is = tracked-mark t mark e n a b (tree-long bytes e formed ∙ long) is

  recorded-note : (due : Bool) (e : Option Node) (t : Option (Ticket P D p d)) (mark : Mark) (a b : TokenView) → IsRecorded due e t mark a b
      → option_map note_of (option_map record_of t) ≡ note_after None (new_mark mark)
  recorded-note false e t mark a b is = ap (λ z. option_map note_of (option_map record_of z)) is.0 ∙ ap (λ (z : Mark). note_after None (new_mark z)) (sym is.1)
  recorded-note true None t mark a b is = absurd is
  recorded-note true (Some e) t mark a b is = tracked-note t mark e a b is

  pub recorded-marked : (stride made : ℕ) (it : Doing) → IsSetting it.manner → (due : Bool) → due ≡ sampled_step it.manner (is_new it && turn_after stride made) → (bytes : List ℕ) (e : Option Node)
      (t : Option (Ticket P D p d)) (mark : Mark) (a b : TokenView) → length bytes ≡ it.made.size → IsTreeOf bytes e → IsRecorded due e t mark a b → (old : Option SessionCordView) → it.old ≡ option_map cord_in old
      → IsMarkedAs stride made it (option_map record_of t) (new_mark mark) (stamp_gone old)
  recorded-marked stride made it set due turn bytes e t mark a b long formed is old before =
      let kept = set-kept it set in
      record {
        told = subst (λ (z : Bool). IsMark z it.manner (kept_note it) it.made.size (new_mark mark)) turn
            (subst (λ (z : Option steps.Note). IsMark due it.manner z it.made.size (new_mark mark)) (sym kept) (recorded-mark due bytes e t mark it.made.size a b it.manner set long formed is));
        gone = sym (set-gone it set ∙ (ap stamp_in before ∙ stamp-gone old));
        noted = recorded-note due e t mark a b is ∙ ap (λ (z : Option steps.Note). note_after z (new_mark mark)) (sym kept);
      }

-- ---- whether it is due
pub some-map : {A B : Type 0} (f : A → B) (o : Option A) → is_some (option_map f o) ≡ is_some o
some-map f None = refl
some-map f (Some x) = refl
