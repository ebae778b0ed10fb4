-- Whole cords: as the plain step over trees has them, after a name was set, and of sampled cords.
use mathlib.Core.Path.{fun_ext}
use Rattle.std.proofs.Common.{◌≡◌, ◌∙◌, sym, ap, subst, refl, ℕ, List, length, Option, Some, None, Bool, true, false, arith}
use Rattle.std.specs.Prelude.{option_map, is_some, if◌then◌else◌, MatchOption}
use Rattle.std.specs.Bool.{⊤}
use Rattle.std.specs.Str.{bytes_eq}
use Rattle.node_forest.specs.Label.{Node}
use Rattle.tree_shapes.specs.Cords.{IsTreeFor}
use Rattle.tree_shapes.specs.Shape.{length_of}
use Rattle.node_edges.specs.Trees as edges
use Rattle.node_edges.proofs.TextLaws.{length-whole}
use Rattle.ordered_names.specs.declared.names.Names.{Names}
use Rattle.ordered_names.specs.Named.{named}
use Rattle.cordz_desk.specs.declared.tickets.Ticket.{Ticket}
use Rattle.cordz_desk.specs.Tickets.{bare_of}
use Rattle.cord_value.specs.Views.{IsTreeOf}
use Rattle.cordz_desk.specs.Owners.{newest_tree}
use Rattle.cord_sampled.specs.Records.{HasRecord, newest_stamp, newest_length, length_in}
use Rattle.cord_sampled.specs.declared.cord.SampledCord.{SampledCord}
use Rattle.cord_sampled.specs.Sampled.{cord_in as sampled_cord, ticket_in}
use Rattle.cord_steps.specs.Cords.{Cord, IsCord, naming}
use Rattle.cord_steps.specs.Cords as steps
use Rattle.sampled_commands.specs.Forms.{view_of, IsForm}
use Rattle.sampled_commands.specs.Views.{RecordView, SessionCordView, record_of, no_session_cord, note_of, IsWhole, AreWhole, cord_in, names_of, AreSame, IsSetTo}

-- ---- cords
long-shape : (e : Node) → length_of (edges.shape_of e) ≡ e.0.length
unfolding edges.shape_of
long-shape e = refl

pub tree-long : (bytes : List ℕ) (e : Node) → IsTreeOf bytes (Some e) → e.0.length ≡ length bytes
tree-long bytes e is = sym (length-whole e is.0) ∙ ap length is.1

pub tree-whole : (bytes : List ℕ) (tree : Option Node) → IsTreeOf bytes tree → IsTreeFor (length bytes) (option_map edges.shape_of tree)
tree-whole bytes None is = is
tree-whole bytes (Some e) is = (is.0.root, long-shape e ∙ tree-long bytes e is, is.2)

no-record : (tree : Option Node) (sample : Option RecordView) → MatchOption sample ⊤ (λ r. is_some tree ≡ true) → option_map edges.shape_of tree ≡ None → sample ≡ None
no-record tree None some none = refl
no-record None (Some r) some none = cc
no-record (Some e) (Some r) some none = cc

some-tree : (c : SessionCordView) → IsWhole c → MatchOption c.sample ⊤ (λ r. is_some c.cord.tree ≡ true)
some-tree c is = go c.sample is.sampled
  where
    go : (o : Option RecordView) → MatchOption o ⊤ (λ r. (is_some c.cord.tree ≡ true) × (newest_stamp r.notes ≡ Some r.stamp) × (newest_tree r.notes ≡ c.cord.tree)
        × (newest_length r.notes ≡ length_in c.cord.tree)) → MatchOption o ⊤ (λ r. is_some c.cord.tree ≡ true)
    go None is = tt
    go (Some r) is = is.0

pub whole-cord : (c : SessionCordView) → IsWhole c → IsCord (cord_in c)
whole-cord c is = record {
  whole = tree-whole c.cord.bytes c.cord.tree is.formed;
  sum = refl;
  noted = λ none. ap (option_map note_of) (no-record c.cord.tree c.sample (some-tree c is) none);
}

pub whole-none : IsWhole no_session_cord
whole-none = record { formed = omega arith; sampled = tt }

-- ---- of a sampled cord
module _ {P D : Type 0} {p : _} {d : _} where
  whole-record : (e : Option Node) (t : Option (Ticket P D p d)) → MatchOption t ⊤ (HasRecord e) → MatchOption t ⊤ (λ u. bare_of u ≡ false)
      → MatchOption (option_map record_of t) ⊤ (λ r. (is_some e ≡ true) × (newest_stamp r.notes ≡ Some r.stamp) × (newest_tree r.notes ≡ e) × (newest_length r.notes ≡ length_in e))
  whole-record e None has form = tt
  whole-record e (Some t) has form = (has.2, has.1, (has.3 form).0, (has.3 form).1)

  pub whole-view : (s : SampledCord P D p d) → IsTreeOf (sampled_cord s).bytes (sampled_cord s).tree → MatchOption (ticket_in s) ⊤ (HasRecord (sampled_cord s).tree) → IsForm s → IsWhole (view_of s)
  whole-view s formed has form = record { formed = formed; sampled = whole-record (sampled_cord s).tree (ticket_in s) has form }

-- ---- names
option_map-if : {A B : Type 0} (f : A → B) (x y : Option A) (b : Bool) → option_map f (if b then x else y) ≡ if b then option_map f x else option_map f y
option_map-if f x y true = refl
option_map-if f x y false = refl

pub set-naming : (old new : Names SessionCordView) (a : List ℕ) (c : SessionCordView) → IsSetTo old new a c → naming (names_of old) a (Some (cord_in c)) ≡ names_of new
set-naming old new a c set = fun_ext (λ q. sym (ap (option_map cord_in) (set q) ∙ option_map-if cord_in (Some c) (named old q) (bytes_eq a q)))

pub same-names : (old new : Names SessionCordView) → AreSame old new → names_of old ≡ names_of new
same-names old new same = fun_ext (λ q. ap (option_map cord_in) (sym (same q)))

pub found-in : (names : Names SessionCordView) (a : List ℕ) (c : SessionCordView) → named names a ≡ Some c → names_of names a ≡ Some (cord_in c)
found-in names a c is = ap (option_map cord_in) is

pub none-in : (names : Names SessionCordView) (a : List ℕ) → named names a ≡ None → names_of names a ≡ None
none-in names a is = ap (option_map cord_in) is

-- each cord of a session's names
abbrev pub AreCords : steps.Names → Type 0
AreCords names = (a : List ℕ) (c : Cord) → names a ≡ Some c → IsCord c

whole-found : (o : Option SessionCordView) → ((c : SessionCordView) → o ≡ Some c → IsWhole c) → (x : Cord) → option_map cord_in o ≡ Some x → IsCord x
whole-found None all x is = cc
whole-found (Some c) all x is = subst IsCord (some-in (cord_in c) x is) (whole-cord c (all c refl))
  where
    some-in : (x y : Cord) → (let o : Option Cord = Some x in let p : Option Cord = Some y in o ≡ p) → x ≡ y
    some-in x y e = cc

pub are-cords : (names : Names SessionCordView) → AreWhole names → AreCords (names_of names)
are-cords names all a x is = whole-found (named names a) (all a) x is

pub whole-same : (old new : Names SessionCordView) → AreSame old new → AreWhole old → AreWhole new
whole-same old new same all q c is = all q c (sym (same q) ∙ is)

whole-if : (b : Bool) (c : SessionCordView) (o : Option SessionCordView) → IsWhole c → ((x : SessionCordView) → o ≡ Some x → IsWhole x) → (x : SessionCordView)
    → (if b then Some c else o) ≡ Some x → IsWhole x
whole-if true c o here all x is = subst IsWhole (some-view c x is) here
  where
    some-view : (x y : SessionCordView) → (let o : Option SessionCordView = Some x in let p : Option SessionCordView = Some y in o ≡ p) → x ≡ y
    some-view x y e = cc
whole-if false c o here all x is = all x is

pub whole-set : (old new : Names SessionCordView) (a : List ℕ) (c : SessionCordView) → IsSetTo old new a c → IsWhole c → AreWhole old → AreWhole new
whole-set old new a c set here all q x is = whole-if (bytes_eq a q) c (named old q) here (all q) x (sym (set q) ∙ is)
