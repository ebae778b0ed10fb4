-- What is done at the desk of records: by a refused command, and by one that sets a name.
use Rattle.std.proofs.Common.{◌≡◌, ◌∙◌, sym, ap, subst, refl, ℕ, List, [], ◌++◌, Option, Some, None, Bool, true, false, Result, Ok, Err, inl, inr}
use Rattle.std.specs.Prelude.{◌⊎◌, if◌then◌else◌, IfOk, IfErr}
use Rattle.std.specs.Str.{bytes_eq}
use Rattle.std.specs.declared.alloc.AllocError.{AllocError}
use Rattle.plain_cord.specs.declared.reply.NewMark.{NewMark}
use Rattle.plain_cord.specs.declared.reply.Reply.TheVariants as replies
use Rattle.record_rule.specs.declared.views.Noted.{Noted}
use Rattle.record_rule.specs.declared.views.TokenView.{TokenView}
use Rattle.record_rule.specs.Log.{is_walking}
use Rattle.ordered_names.specs.declared.names.Names.{Names}
use Rattle.ordered_names.specs.Named.{named}
use Rattle.cord_value.specs.declared.refusals.CordError.{CordError}
use Rattle.cord_value.specs.declared.refusals.CordError.TheVariants as errors
use Rattle.cord_runs.specs.Stamps.{stamps_of}
use Rattle.cord_sampled.specs.declared.mark.Mark.{Mark}
use Rattle.desk_laws.specs.Counts.{reserved_in, IsFinished}
use Rattle.sampled_commands.specs.declared.answer.Answer.{Answer}
use Rattle.sampled_commands.specs.declared.answer.Answer.TheVariants.{Told, Releasers, Height, Cords, Pool}
use Rattle.sampled_commands.specs.Answers.{ok_with, new_mark, told_by, refusal_of}
use Rattle.sampled_commands.specs.Desk.{WorksAtDesk}
use Rattle.sampled_commands.specs.Leaving.{untracked_record, untracked_cord, stamp_gone, GivesUp}
use Rattle.sampled_commands.specs.Notes.{IsToldNote, IsNoteIn, IsKnown, WasUntracked}
use Rattle.sampled_commands.specs.Setting.{IsSet}
use Rattle.sampled_commands.specs.Views.{RecordView, SessionCordView, AreSame, IsSetTo}
use Rattle.sampled_commands.proofs.Doing.{some-answer}
use Rattle.sampled_commands.proofs.Entries.{HasNoted, IsNotedBy}

same-cord : (x y : SessionCordView) → (let o : Option SessionCordView = Some x in let p : Option SessionCordView = Some y in o ≡ p) → x ≡ y
same-cord x y e = cc

known-same : (old new : Names SessionCordView) → AreSame old new → (n : Noted) → IsKnown n new → IsKnown n old
known-same old new same n k = record { name = k.name; cord = k.cord; is = sym (same k.name) ∙ k.is; among = k.among }

-- ---- nothing was done
pub works-none : (old new : Names SessionCordView) (v w : TokenView) (answer : Answer) → AreSame old new → w ≡ v → stamps_of (told_by answer) ≡ [] → WorksAtDesk old new v w answer
works-none old new v w answer same e none = record {
  stamps = ap (λ (z : TokenView). reserved_in z.own) e ∙ ap (λ zs. zs ++ reserved_in v.own) (sym none);
  finished = subst (λ (z : TokenView). IsFinished v.own → IsFinished z.own) (sym e) (λ f. f);
  walking = ap (λ (z : TokenView). is_walking z.own) e;
  reads = ap (λ (z : TokenView). z.reads) e;
  notes = record {
    known = λ n k. inl (known-same old new same n k);
    untracked = λ n u. inl (subst (λ (z : TokenView). WasUntracked n z.untracked) e u);
  };
}

-- a refusal tells no new record
none-told : (said answer : Answer) → Some answer ≡ Some said → stamps_of (told_by said) ≡ [] → stamps_of (told_by answer) ≡ []
none-told said answer is none = ap (λ z. stamps_of (told_by z)) (some-answer answer said is) ∙ none

pub refused-stamps : (x : CordError) (answer : Answer) → Some answer ≡ refusal_of x → stamps_of (told_by answer) ≡ []
refused-stamps (errors.Position asked end) answer is = none-told (Told (replies.Position asked end)) answer is refl
refused-stamps (errors.LengthLimit asked) answer is = none-told (Told (replies.Length asked)) answer is refl
refused-stamps (errors.HeightLimit height) answer is = none-told Height answer is refl
refused-stamps (errors.PassLimit found) answer is = none-told (Cords found) answer is refl
refused-stamps (errors.NoNumber seen) answer is = none-told (Pool seen) answer is refl
refused-stamps (errors.NoReleaser used) answer is = none-told Releasers answer is refl
refused-stamps errors.Memory answer is = cc

pub unset-works : (old new : Names SessionCordView) (v w : TokenView) (a : List ℕ) (res : Result Answer AllocError) → AreSame old new → w ≡ v → IfOk res (λ answer. answer ≡ Told (replies.Unset a))
    → IfOk res (λ answer. WorksAtDesk old new v w answer)
unset-works old new v w a (Ok answer) same e told = works-none old new v w answer same e (ap (λ z. stamps_of (told_by z)) told)
unset-works old new v w a (Err x) same e told = tt

-- ---- a name is set
module _ (old new : Names SessionCordView) (v m w : TokenView) (a : List ℕ) (c : SessionCordView) (mark : NewMark) (lost : Option ℕ) (noted : HasNoted c.sample mark v m) (given : GivesUp (named old a) m w)
    (set : IsSetTo old new a c) where
  told-in : (n : Noted) (x : SessionCordView) → c ≡ x → IsNoteIn n x → IsToldNote n.note (ok_with mark lost)
  told-in n x same is = subst (λ o. IsNotedBy o mark) (ap (λ (z : SessionCordView). z.sample) same ∙ is.is) noted.known n is.among

  known-if : (n : Noted) (b : Bool) (name : List ℕ) (x : SessionCordView) → (if b then Some c else named old name) ≡ Some x → IsNoteIn n x → IsKnown n old ⊎ IsToldNote n.note (ok_with mark lost)
  known-if n true name x is among = inr (told-in n x (same-cord c x is) among)
  known-if n false name x is among = inl (record { name = name; cord = x; is = is; among = among })

  left-if : (n : Noted) (x : SessionCordView) (o : Option RecordView) → named old a ≡ Some x → x.sample ≡ o → WasUntracked n (untracked_record o ++ m.untracked)
      → WasUntracked n m.untracked ⊎ (IsKnown n old ⊎ IsToldNote n.note (ok_with mark lost))
  left-if n x None is sample was = inl was
  left-if n x (Some r) is sample (inl here) = inr (inl (record { name = a; cord = x; is = is; among = record { sample = r; is = sample; among = here } }))
  left-if n x (Some r) is sample (inr later) = inl later

  left-of : (n : Noted) (o : Option SessionCordView) → named old a ≡ o → WasUntracked n (untracked_cord o ++ m.untracked)
      → WasUntracked n m.untracked ⊎ (IsKnown n old ⊎ IsToldNote n.note (ok_with mark lost))
  left-of n None is was = inl was
  left-of n (Some x) is was = left-if n x x.sample is refl was

  pub works-set : WorksAtDesk old new v w (ok_with mark lost)
  works-set = record {
    stamps = given.reserved ∙ noted.reserved;
    finished = λ f. given.finished (noted.finished f);
    walking = given.walking ∙ noted.walking;
    reads = given.reads ∙ noted.reads;
    notes = record {
      known = λ n k. known-if n (bytes_eq a k.name) k.name k.cord (sym (set k.name) ∙ k.is) k.among;
      untracked = λ n u. subst (λ us. WasUntracked n us ⊎ (IsKnown n old ⊎ IsToldNote n.note (ok_with mark lost))) noted.untracked
          (left-of n (named old a) refl (subst (WasUntracked n) given.untracked u));
    };
  }

-- a name is set to a cord that was made, or none was made
pub made-works : (old mid new : Names SessionCordView) (v m w : TokenView) (a : List ℕ) (r : Result (SessionCordView × Mark) CordError) (res : Result Answer AllocError) → AreSame old mid
    → IfOk r (λ c. HasNoted c.0.sample (new_mark c.1) v m) → IfErr r (λ _. w ≡ v) → IfOk r (λ _. IfOk res (λ _. GivesUp (named mid a) m w)) → IfOk res (λ answer. IsSet mid new a r answer)
    → IfOk res (λ answer. WorksAtDesk old new v w answer)
made-works old mid new v m w a r (Err e) same noted still given set = tt
made-works old mid new v m w a (Ok c) (Ok answer) same noted still given set =
    subst (WorksAtDesk old new v w) (sym set.1)
    (works-set old new v m w a c.0 (new_mark c.1) (stamp_gone (named mid a)) noted (subst (λ o. GivesUp o m w) (same a) given)
    (λ q. set.0 q ∙ ap (λ (o : Option SessionCordView). if bytes_eq a q then Some c.0 else o) (same q)))
made-works old mid new v m w a (Err x) (Ok answer) same noted still given set =
    works-none old new v w answer (λ q. set.0 q ∙ same q) still (refused-stamps x answer set.1)
