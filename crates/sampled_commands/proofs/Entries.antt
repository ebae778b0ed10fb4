-- What a new record, and one that is given up, add to a token's entries.
use Rattle.std.proofs.Common.{◌≡◌, ◌∙◌, sym, ap, subst, refl, ℕ, ◌+◌, List, [], ◌∷◌, ◌++◌, length, Option, Some, None, true, false, Bool, inl, inr, arith}
use Rattle.std.specs.Prelude.{◌⊎◌, is_some, option_map, MatchOption}
use Rattle.std.specs.Bool.{⊤}
use Rattle.node_forest.specs.Label.{Node}
use Rattle.plain_cord.specs.declared.reply.NewMark.{NewMark}
use Rattle.plain_cord.specs.declared.reply.NewMark.TheVariants as marks
use Rattle.pool_rule.specs.Views.{View}
use Rattle.record_rule.specs.declared.values.Note.{Note}
use Rattle.record_rule.specs.declared.views.LogEntry.{LogEntry}
use Rattle.record_rule.specs.declared.views.Noted.{Noted}
use Rattle.record_rule.specs.declared.views.TokenView.{TokenView}
use Rattle.record_rule.specs.declared.views.Deed.TheVariants as deed
use Rattle.record_rule.specs.Log.{is_walking}
use Rattle.record_rule.specs.Views.{done}
use Rattle.record_rule.specs.Notes.{IsNoteOf}
use Rattle.record_rule.specs.World.{is_none}
use Rattle.cordz_desk.specs.declared.share.Share.{Share}
use Rattle.cordz_desk.specs.declared.tickets.Ticket.{Ticket}
use Rattle.cordz_desk.specs.Owners.{first_note}
use Rattle.cordz_desk.specs.Tickets.{stamp_of}
use Rattle.cordz_desk.specs.Tokens.{IsGivenUp}
use Rattle.cord_value.specs.Views.{CordView}
use Rattle.cord_runs.specs.Stamps.{stamps_of_mark}
use Rattle.cord_sampled.specs.declared.mark.Mark.{Mark}
use Rattle.cord_sampled.specs.declared.mark.Mark.TheVariants.{Plain, Noted as Told, Full, Gone}
use Rattle.cord_sampled.specs.Leaving.{shares_in, IsGivenBack}
use Rattle.cord_sampled.specs.Making.{IsRecorded}
use Rattle.cord_sampled.specs.Tracking.{IsLinked, IsTracked}
use Rattle.desk_laws.specs.Counts.{tracks_by, unlinks_by, settles_by, frees_by, deleted_by, tracks_in, unlinks_in, settles_in, frees_in, deleted_in, reserved_in, IsFinished}
use Rattle.sampled_commands.specs.Accounts.{one_record, records_if}
use Rattle.sampled_commands.specs.Answers.{new_mark}
use Rattle.sampled_commands.specs.Leaving.{untracked_cord, GivesUp}
use Rattle.sampled_commands.specs.Notes.{IsToldByMark}
use Rattle.sampled_commands.specs.Views.{RecordView, SessionCordView, record_of}

-- each of the record's notes is told by the mark
abbrev pub IsNotedBy : Option RecordView → NewMark → Type 0
IsNotedBy None mark = Unit {0}
IsNotedBy (Some r) mark = (n : Noted) → IsNoteOf n r.notes → IsToldByMark n.note mark

-- a token that made this record, or none
pub record HasNoted (sample : Option RecordView) (mark : NewMark) (a b : TokenView) : Type 0 where
  pub number : b.number ≡ a.number
  pub reserved : reserved_in b.own ≡ stamps_of_mark mark ++ reserved_in a.own
  pub tracks : tracks_in b.own ≡ tracks_in a.own + one_record sample
  pub unlinks : unlinks_in b.own ≡ unlinks_in a.own + 0
  pub frees : frees_in b.own ≡ frees_in a.own + 0
  pub finished : IsFinished a.own → IsFinished b.own
  pub walking : is_walking b.own ≡ is_walking a.own
  pub reads : b.reads ≡ a.reads
  pub untracked : b.untracked ≡ a.untracked
  pub known : IsNotedBy sample mark

-- what was reserved was linked, what was unlinked was settled, and what was deleted was freed
finished-by : (old new : List LogEntry) (m n k : ℕ) → length (reserved_in new) ≡ length (reserved_in old) + m → tracks_in new ≡ tracks_in old + m → settles_in new ≡ settles_in old + n
    → unlinks_in new ≡ unlinks_in old + n → frees_in new ≡ frees_in old + k → deleted_in new ≡ deleted_in old + k → IsFinished old → IsFinished new
finished-by old new m n k reserved tracks settles unlinks frees deleted f = record {
  tracked = omega (arith, reserved, tracks, f.tracked);
  settled = omega (arith, settles, unlinks, f.settled);
  freed = omega (arith, frees, deleted, f.freed);
}

-- ---- nothing was done
pub none-noted : (a b : TokenView) → b ≡ a → HasNoted None marks.Plain a b
none-noted a b e = record {
  number = ap (λ (z : TokenView). z.number) e;
  reserved = ap (λ (z : TokenView). reserved_in z.own) e;
  tracks = omega (arith, ap (λ (z : TokenView). tracks_in z.own) e);
  unlinks = omega (arith, ap (λ (z : TokenView). unlinks_in z.own) e);
  frees = omega (arith, ap (λ (z : TokenView). frees_in z.own) e);
  finished = subst (λ (z : TokenView). IsFinished a.own → IsFinished z.own) (sym e) (λ f. f);
  walking = ap (λ (z : TokenView). is_walking z.own) e;
  reads = ap (λ (z : TokenView). z.reads) e;
  untracked = ap (λ (z : TokenView). z.untracked) e;
  known = tt;
}

full-noted : (a b : TokenView) (place : ℕ) → b ≡ done place deed.Full a → HasNoted None marks.Full a b
full-noted a b place e = record {
  number = ap (λ (z : TokenView). z.number) e;
  reserved = ap (λ (z : TokenView). reserved_in z.own) e;
  tracks = omega (arith, ap (λ (z : TokenView). tracks_in z.own) e);
  unlinks = omega (arith, ap (λ (z : TokenView). unlinks_in z.own) e);
  frees = omega (arith, ap (λ (z : TokenView). frees_in z.own) e);
  finished = finished-by a.own b.own 0 0 0 (omega (arith, ap (λ (z : TokenView). length (reserved_in z.own)) e)) (omega (arith, ap (λ (z : TokenView). tracks_in z.own) e))
      (omega (arith, ap (λ (z : TokenView). settles_in z.own) e)) (omega (arith, ap (λ (z : TokenView). unlinks_in z.own) e)) (omega (arith, ap (λ (z : TokenView). frees_in z.own) e))
      (omega (arith, ap (λ (z : TokenView). deleted_in z.own) e));
  walking = ap (λ (z : TokenView). is_walking z.own) e;
  reads = ap (λ (z : TokenView). z.reads) e;
  untracked = ap (λ (z : TokenView). z.untracked) e;
  known = tt;
}

module _ {P D : Type 0} {p : _} {d : _} where
  -- ---- a new record
  linked-noted : (t : Ticket P D p d) (note : Note) (e : Node) (a b : TokenView) → IsLinked t note e a b → HasNoted (Some (record_of t)) (new_mark (Told note)) a b
  linked-noted t note e a b is = record {
    number = is.same.number;
    reserved = ap reserved_in is.own ∙ ap (λ (z : Note). stamps_of_mark (new_mark (Told z)) ++ reserved_in a.own) (sym is.noted);
    tracks = omega (arith, ap tracks_in is.own);
    unlinks = omega (arith, ap unlinks_in is.own);
    frees = omega (arith, ap frees_in is.own);
    finished = finished-by a.own b.own 1 0 0 (omega (arith, ap (λ (z : List LogEntry). length (reserved_in z)) is.own)) (omega (arith, ap tracks_in is.own)) (omega (arith, ap settles_in is.own))
        (omega (arith, ap unlinks_in is.own)) (omega (arith, ap frees_in is.own)) (omega (arith, ap deleted_in is.own));
    walking = ap is_walking is.own;
    reads = is.same.reads;
    untracked = is.untracked;
    known = λ n among. told n (subst (IsNoteOf n) is.notes among);
  }
    where
      first : IsToldByMark (first_note (stamp_of t) e).note (new_mark (Told note))
      first = (ap (λ (z : Note). z.stamp) (sym is.noted), ap (λ (z : Note). z.update) (sym is.noted), ap (λ (z : Note). z.length) (sym is.noted))

      told : (n : Noted) → IsNoteOf n (first_note (stamp_of t) e ∷ []) → IsToldByMark n.note (new_mark (Told note))
      told n (inl here) = subst (λ (z : Noted). IsToldByMark z.note (new_mark (Told note))) here first
      told n (inr none) = absurd none

  tracked-noted : (t : Option (Ticket P D p d)) (mark : Mark) (e : Node) (a b : TokenView) → IsTracked t mark e a b → HasNoted (option_map record_of t) (new_mark mark) a b
  tracked-noted (Some t) (Told note) e a b is = linked-noted t note e a b is
  tracked-noted (Some t) Plain e a b is = absurd is
  tracked-noted (Some t) (Full n) e a b is = absurd is
  tracked-noted (Some t) (Gone n) e a b is = absurd is
  tracked-noted None (Full n) e a b is = full-noted a b is.1.0 is.1.1
  tracked-noted None Plain e a b is = absurd is
  tracked-noted None (Told note) e a b is = absurd is
  tracked-noted None (Gone n) e a b is = absurd is

  pub recorded-noted : (due : Bool) (e : Option Node) (t : Option (Ticket P D p d)) (mark : Mark) (a b : TokenView) → IsRecorded due e t mark a b
      → HasNoted (option_map record_of t) (new_mark mark) a b
  recorded-noted false e t mark a b is = subst (λ z. HasNoted (option_map record_of z) (new_mark mark) a b) (sym is.0)
      (subst (λ (z : Mark). HasNoted None (new_mark z) a b) (sym is.1) (none-noted a b is.2))
  recorded-noted true None t mark a b is = absurd is
  recorded-noted true (Some e) t mark a b is = tracked-noted t mark e a b is

-- ---- a record that is given up
module _ {P : Type 0} where
  some-share : (share : Option (Share P)) (bare : Bool) → is_none share ≡ bare → bare ≡ false → shares_in share ≡ 1
  some-share None bare none form = absurd (let e = none ∙ form in cc)
  some-share (Some x) bare none form = refl

  pub given-frees : (a b : TokenView) (s : ℕ) (notes : List Noted) (bare : Bool) (share : Option (Share P)) → bare ≡ false → IsGivenUp a b.own s notes bare share
      → frees_in b.own ≡ frees_in a.own + shares_in share
  given-frees a b s notes bare share form (inl x) = omega (arith, ap frees_in x.own, some-share share bare x.none form)
  given-frees a b s notes bare share form (inr x) = omega (arith, ap frees_in x.own, ap shares_in x.none)

  pub given-tracks : (a b : TokenView) (s : ℕ) (notes : List Noted) (bare : Bool) (share : Option (Share P)) → IsGivenUp a b.own s notes bare share → tracks_in b.own ≡ tracks_in a.own
  given-tracks a b s notes bare share (inl x) = omega (arith, ap tracks_in x.own)
  given-tracks a b s notes bare share (inr x) = omega (arith, ap tracks_in x.own)

  pub given-unlinks : (a b : TokenView) (s : ℕ) (notes : List Noted) (bare : Bool) (share : Option (Share P)) → IsGivenUp a b.own s notes bare share → unlinks_in b.own ≡ unlinks_in a.own + 1
  given-unlinks a b s notes bare share (inl x) = omega (arith, ap unlinks_in x.own)
  given-unlinks a b s notes bare share (inr x) = omega (arith, ap unlinks_in x.own)

  given-reserved : (a b : TokenView) (s : ℕ) (notes : List Noted) (bare : Bool) (share : Option (Share P)) → IsGivenUp a b.own s notes bare share → reserved_in b.own ≡ reserved_in a.own
  given-reserved a b s notes bare share (inl x) = ap reserved_in x.own
  given-reserved a b s notes bare share (inr x) = ap reserved_in x.own

  given-walking : (a b : TokenView) (s : ℕ) (notes : List Noted) (bare : Bool) (share : Option (Share P)) → IsGivenUp a b.own s notes bare share → is_walking b.own ≡ is_walking a.own
  given-walking a b s notes bare share (inl x) = ap is_walking x.own
  given-walking a b s notes bare share (inr x) = ap is_walking x.own

  given-finished : (a b : TokenView) (s : ℕ) (notes : List Noted) (bare : Bool) (share : Option (Share P)) → IsGivenUp a b.own s notes bare share → IsFinished a.own → IsFinished b.own
  given-finished a b s notes bare share (inl x) = finished-by a.own b.own 0 1 1 (omega (arith, ap (λ (z : List LogEntry). length (reserved_in z)) x.own)) (omega (arith, ap tracks_in x.own))
      (omega (arith, ap settles_in x.own)) (omega (arith, ap unlinks_in x.own)) (omega (arith, ap frees_in x.own)) (omega (arith, ap deleted_in x.own))
  given-finished a b s notes bare share (inr x) = finished-by a.own b.own 0 1 0 (omega (arith, ap (λ (z : List LogEntry). length (reserved_in z)) x.own)) (omega (arith, ap tracks_in x.own))
      (omega (arith, ap settles_in x.own)) (omega (arith, ap unlinks_in x.own)) (omega (arith, ap frees_in x.own)) (omega (arith, ap deleted_in x.own))

module _ {P D : Type 0} {p : _} {d : _} where
  pub given-up : (limit : ℕ) (t : Ticket P D p d) (n : ℕ) (c : CordView) (a b : TokenView) (v w : View) → IsGivenBack limit t n a b v w
      → GivesUp (Some (record { cord = c; sample = Some (record_of t) })) a b
  given-up limit t n c a b v w g = record {
    reserved = given-reserved a b _ _ _ _ g.given;
    tracks = given-tracks a b _ _ _ _ g.given;
    unlinks = given-unlinks a b _ _ _ _ g.given;
    finished = given-finished a b _ _ _ _ g.given;
    walking = given-walking a b _ _ _ _ g.given;
    reads = g.same.reads;
    untracked = g.untracked;
  }

-- nothing is given up
pub none-given : (cord : Option SessionCordView) (a b : TokenView) → records_if cord ≡ 0 → untracked_cord cord ≡ [] → b ≡ a → GivesUp cord a b
none-given cord a b none no_notes e = record {
  reserved = ap (λ (z : TokenView). reserved_in z.own) e;
  tracks = ap (λ (z : TokenView). tracks_in z.own) e;
  unlinks = omega (arith, ap (λ (z : TokenView). unlinks_in z.own) e, none);
  finished = subst (λ (z : TokenView). IsFinished a.own → IsFinished z.own) (sym e) (λ f. f);
  walking = ap (λ (z : TokenView). is_walking z.own) e;
  reads = ap (λ (z : TokenView). z.reads) e;
  untracked = ap (λ (z : TokenView). z.untracked) e ∙ ap (λ us. us ++ a.untracked) (sym no_notes);
}
