-- The marks and counts of new cords and of copies that names are set to.
use Rattle.std.proofs.Common.{◌≡◌, ◌∙◌, sym, ap, subst, refl, ℕ, ◌+◌, List, length, Option, Some, None, Bool, true, false, Result, Ok, Err}
use Rattle.std.specs.Prelude.{◌&&◌, if◌then◌else◌, option_map, IfOk, IfErr, is_some, MatchOption}
use Rattle.std.specs.Bool.{⊤}
use Rattle.node_forest.specs.Label.{Node}
use Rattle.node_edges.specs.Trees as edges
use Rattle.tree_shapes.specs.Cords.{CordShape}
use Rattle.record_rule.specs.declared.views.TokenView.{TokenView}
use Rattle.ordered_names.specs.declared.names.Names.{Names}
use Rattle.ordered_names.specs.Named.{named}
use Rattle.cordz_desk.specs.declared.tickets.Ticket.{Ticket}
use Rattle.cordz_desk.specs.Owners.{newest_tree}
use Rattle.cord_value.specs.Views.{IsTreeOf, cord_shape, passes_of}
use Rattle.cord_value.specs.declared.refusals.CordError.{CordError}
use Rattle.cord_sampled.specs.Making.{turn_after, is_sampled, IsRecorded}
use Rattle.cord_sampled.specs.Records.{newest_stamp, newest_length, length_in}
use Rattle.cord_sampled.specs.Sampled.{cord_in as sampled_cord, ticket_in}
use Rattle.cord_sampled.specs.Tracking.{IsLinked, IsTracked}
use Rattle.cord_sampled.specs.declared.cord.SampledCord.{SampledCord}
use Rattle.cord_sampled.specs.declared.mark.Mark.{Mark}
use Rattle.cord_sampled.specs.declared.mark.Mark.TheVariants.{Plain, Noted as Told, Full, Gone}
use Rattle.cord_steps.specs.Cords.{note_in}
use Rattle.cord_steps.specs.Doings.{Fresh, Doing}
use Rattle.sampled_commands.specs.Answers.{new_mark}
use Rattle.sampled_commands.specs.Forms.{view_of}
use Rattle.sampled_commands.specs.Leaving.{stamp_gone}
use Rattle.sampled_commands.specs.Setting.{session_made}
use Rattle.sampled_commands.specs.Views.{SessionCordView, RecordView, IsWhole, record_of, note_of, cord_in, names_of}
use Rattle.sampled_commands.proofs.Marks.{IsMarkedAs, recorded-marked, some-map}
use Rattle.sampled_commands.proofs.Refused.{copying, copied-shape}

abbrev pub setting : Names SessionCordView → List ℕ → CordShape → Doing
setting names a made = record { name = a; manner = Fresh; old = names_of names a; made = made }

pub pass-count : (e : Option Node) → passes_of e ≡ (if is_some e then 1 else 0)
pass-count None = refl
pass-count (Some e) = refl

abbrev IsRecordOf : Option Node → Option RecordView → Type 0
IsRecordOf e o = MatchOption o ⊤ (λ r. (is_some e ≡ true) × (newest_stamp r.notes ≡ Some r.stamp) × (newest_tree r.notes ≡ e) × (newest_length r.notes ≡ length_in e))

module _ {P D : Type 0} {p : _} {d : _} where
  -- ---- as a session's
  pub session-ok : (r : Result (SampledCord P D p d × Mark) CordError) (s : Result (SessionCordView × Mark) CordError) → s ≡ session_made r → (K : SessionCordView × Mark → Type 0)
      → IfOk r (λ x. K (view_of x.0, x.1)) → IfOk s K
  session-ok r s e K k = subst (λ z. IfOk z K) (sym e) (go r k)
    where
      go : (r : Result (SampledCord P D p d × Mark) CordError) → IfOk r (λ x. K (view_of x.0, x.1)) → IfOk (session_made r) K
      go (Ok x) k = k
      go (Err x) k = tt

  pub session-err : (r : Result (SampledCord P D p d × Mark) CordError) (s : Result (SessionCordView × Mark) CordError) → s ≡ session_made r → (K : CordError → Type 0) → IfErr r K → IfErr s K
  session-err r s e K k = subst (λ z. IfErr z K) (sym e) (go r k)
    where
      go : (r : Result (SampledCord P D p d × Mark) CordError) → IfErr r K → IfErr (session_made r) K
      go (Ok x) k = tt
      go (Err x) k = k

  -- ---- whole
  linked-whole : (t : Ticket P D p d) (note : _) (e : Node) (a b : TokenView) → IsLinked t note e a b → IsRecordOf (Some e) (Some (record_of t))
  linked-whole t note e a b is = (refl, ap newest_stamp is.notes, ap newest_tree is.notes, ap newest_length is.notes)

  tracked-whole : (t : Option (Ticket P D p d)) (mark : Mark) (e : Node) (a b : TokenView) → IsTracked t mark e a b → IsRecordOf (Some e) (option_map record_of t)
  tracked-whole (Some t) (Told note) e a b is = linked-whole t note e a b is
  tracked-whole (Some t) Plain e a b is = absurd is
  tracked-whole (Some t) (Full n) e a b is = absurd is
  tracked-whole (Some t) (Gone n) e a b is = absurd is
  tracked-whole None mark e a b is = tt

  recorded-whole : (due : Bool) (e : Option Node) (t : Option (Ticket P D p d)) (mark : Mark) (a b : TokenView) → IsRecorded due e t mark a b → IsRecordOf e (option_map record_of t)
  recorded-whole false e t mark a b is = subst (λ o. IsRecordOf e (option_map record_of o)) (sym is.0) tt
  recorded-whole true None t mark a b is = absurd is
  recorded-whole true (Some e) t mark a b is = tracked-whole t mark e a b is

  pub made-whole : (due : Bool) (s : SampledCord P D p d) (mark : Mark) (a b : TokenView) → IsTreeOf (sampled_cord s).bytes (sampled_cord s).tree
      → IsRecorded due (sampled_cord s).tree (ticket_in s) mark a b → IsWhole (view_of s)
  made-whole due s mark a b formed is = record { formed = formed; sampled = recorded-whole due (sampled_cord s).tree (ticket_in s) mark a b is }

  -- ---- new cords
  tree-by : (s : SampledCord P D p d) (shape : CordShape) → cord_shape (sampled_cord s) ≡ shape → is_some (sampled_cord s).tree ≡ is_some shape.tree
  tree-by s shape is = sym (some-map edges.shape_of (sampled_cord s).tree) ∙ ap (λ (z : CordShape). is_some z.tree) is

  pub fresh-marked : (stride made : ℕ) (names : Names SessionCordView) (a : List ℕ) (shape : CordShape) (s : SampledCord P D p d) (mark : Mark) (x y : TokenView) → cord_shape (sampled_cord s) ≡ shape
      → IsTreeOf (sampled_cord s).bytes (sampled_cord s).tree → IsRecorded (is_sampled stride made (sampled_cord s).tree) (sampled_cord s).tree (ticket_in s) mark x y
      → IsMarkedAs stride made (setting names a shape) (view_of s).sample (new_mark mark) (stamp_gone (named names a))
  fresh-marked stride made names a shape s mark x y shaped formed is =
      recorded-marked stride made (setting names a shape) tt (is_sampled stride made (sampled_cord s).tree) (ap (λ b. b && turn_after stride made) (tree-by s shape shaped))
      (sampled_cord s).bytes (sampled_cord s).tree (ticket_in s) mark x y (ap (λ (z : CordShape). z.size) shaped) formed is (named names a) refl

  pub fresh-count : (shape : CordShape) (s : SampledCord P D p d) (v w : ℕ) → cord_shape (sampled_cord s) ≡ shape → w ≡ v + passes_of (sampled_cord s).tree → w ≡ v + (if is_some shape.tree then 1 else 0)
  fresh-count shape s v w shaped made = made ∙ ap (λ n. v + n) (pass-count (sampled_cord s).tree ∙ ap (λ (b : Bool). if b then 1 else 0) (tree-by s shape shaped))

  -- ---- copies
  pub copied-marked : (stride made : ℕ) (names : Names SessionCordView) (a b : List ℕ) (from s : SampledCord P D p d) (mark : Mark) (x y : TokenView) → named names a ≡ Some (view_of from)
      → sampled_cord s ≡ sampled_cord from → IsTreeOf (sampled_cord s).bytes (sampled_cord s).tree → IsRecorded (is_some (ticket_in from)) (sampled_cord from).tree (ticket_in s) mark x y
      → IsMarkedAs stride made (copying names a b) (view_of s).sample (new_mark mark) (stamp_gone (named names b))
  copied-marked stride made names a b from s mark x y found same formed is =
      let sampled : is_some (ticket_in from) ≡ is_some (note_in (names_of names a)) =
      sym (some-map note_of (option_map record_of (ticket_in from)) ∙ some-map record_of (ticket_in from)) ∙ ap (λ o. is_some (note_in (option_map cord_in o))) (sym found) in
      recorded-marked stride made (copying names a b) tt (is_some (ticket_in from)) sampled (sampled_cord s).bytes (sampled_cord s).tree (ticket_in s) mark x y
      (ap (λ z. length z.bytes) same ∙ ap (λ (z : CordShape). z.size) (sym (copied-shape names a (view_of from) found))) formed
      (subst (λ e. IsRecorded (is_some (ticket_in from)) e (ticket_in s) mark x y) (ap (λ z. z.tree) (sym same)) is) (named names b) refl
