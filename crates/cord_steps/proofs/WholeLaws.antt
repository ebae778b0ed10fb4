-- A step leaves cords that have trees just where they must: of as many bytes as the byte string has, and with its sum.
use Rattle.std.proofs.Common.{◌≡◌, ◌∙◌, sym, ap, subst, refl, ℕ, ◌+◌, ◌-◌, ◌<◌, ◌≤◌, List, ◌++◌, length, take, drop, Option, Some, None, Bool, true, false, cond, eqb, leb, eq-eqb, ne_eqb, arith}
use Rattle.std.specs.Prelude.{option_map, nat_le, ◌==◌, if◌then◌else◌}
use Rattle.std.specs.Str.{bytes_eq}
use Rattle.std.proofs.lemmas.Bool.{le-leb, leb-true}
use Rattle.std.proofs.lemmas.List.{length-append, length-take, length-drop}
use Rattle.std.proofs.lemmas.Slice.Eq.{bytes_eq-Decides}
use mathlib.Core.Logic.{dite}
use native.Mathlib.Decide.{ℕ_discrete}
use Rattle.node_forest.specs.declared.side.Side.{Side}
use Rattle.node_forest.specs.declared.side.Side.TheVariants.{Front, Back}
use Rattle.plain_cord.specs.declared.limits.TheConstants.{MOST_BYTES}
use Rattle.plain_cord.specs.declared.script.Command.{Command}
use Rattle.plain_cord.specs.declared.script.Command.TheVariants as commands
use Rattle.plain_cord.specs.declared.reply.Reply.{Reply}
use Rattle.plain_cord.specs.declared.reply.Reply.TheVariants as replies
use Rattle.plain_cord.specs.Texts.{text_bytes}
use Rattle.plain_cord.specs.States.{CordState, Environment, plain, with_name, empty_cord, changed}
use Rattle.plain_cord.specs.Outcomes.{Outcome, outcome, done, keeping, edited, refused, grown, cut, with_found, with_cord}
use Rattle.tree_shapes.specs.Cords as shapes
use Rattle.tree_shapes.specs.Cords.{CordShape, sum_of, IsTreeFor, IsCordShape, IsTreeWithoutSum, IsChanged, cord_of_bytes, cord_of_external, with_bytes_added, with_cord_added, doubled, sub_cord, front_cut, back_cut, level_in}
use Rattle.tree_shapes.proofs.CordLaws.{bytes-changed, bytes-whole, bytes-added, added-whole, cord-added, cord-added_whole, sub-changed, sub-whole, front-changed, front-whole, back-changed, back-whole, changed-no_sum, external-whole, sum-set, sum-whole}
use Rattle.tree_shapes.proofs.KeepLaws.{if_true, if_false}
use Rattle.cord_steps.specs.Answers.{Plain}
use Rattle.cord_steps.specs.Cords.{Cord, Names, IsCord, plain_of, plain_names, shape_of, shape_in}
use Rattle.cord_steps.specs.Doings.{Doing, doing, joined_shape}
use Rattle.cord_steps.specs.Whole.{IsWithin}

-- ---- what a command makes of a name
-- as many bytes as the shape says, and its sum
pub record Made (made : CordShape) (c : CordState) : Type 0 where
  pub size : length c.bytes ≡ made.size
  pub sum : c.sum ≡ sum_of made.tree
  pub whole : level_in made.tree ≤ 12 → IsCordShape made

abbrev pub WhenDone : Reply → Type 0 → Type 0
WhenDone (replies.Done _ _) X = X
WhenDone _ X = Unit {0}

abbrev pub Makes : List ℕ → CordShape → Outcome → Type 0
Makes a made o = WhenDone o.reply ((c : CordState) → o.names a ≡ Some c → Made made c)

set-here : (e : Environment) (a : List ℕ) (x : CordState) → with_name e a x a ≡ Some x
set-here e a x = if_true (bytes_eq a a) (Some x) (e a) ((bytes_eq-Decides a a).1 refl)

some-one : (x c : CordState) → (let o : Option CordState = Some x in let p : Option CordState = Some c in o ≡ p) → x ≡ c
some-one x c e = cc

makes-set : (e : Environment) (a : List ℕ) (x : CordState) (made : CordShape) → Made made x → Makes a made (done (with_name e a x))
makes-set e a x made m = λ c is. subst (Made made) (some-one x c (sym (set-here e a x) ∙ is)) m

makes-edit : (e : Environment) (a : List ℕ) (cord new : CordState) (reply : Reply) (b : Bool) (made : CordShape) → ((X : Type 0) → WhenDone reply X) → Made made new → Makes a made (keeping e a (if b then edited new else refused cord reply))
makes-edit e a cord new reply true made never m = λ c is. subst (Made made) (some-one new c (sym (set-here e a new) ∙ is)) m
makes-edit e a cord new reply false made never m = never _

makes-sum : (e : Environment) (a : List ℕ) (cord new : CordState) (b : Bool) (made : CordShape) → Made made new → Makes a made (keeping e a (if b then refused cord replies.NoBytes else edited new))
makes-sum e a cord new true made m = tt
makes-sum e a cord new false made m = λ c is. subst (Made made) (some-one new c (sym (set-here e a new) ∙ is)) m

-- a name that is read
makes-found : (names : Names) (b a : List ℕ) (made : CordShape) (o : Option Cord) (go : CordState → Outcome) → names b ≡ o → ((c : Cord) → names b ≡ Some c → Makes a made (go (plain_of c))) → Makes a made (with_found (plain_names names) b (option_map plain_of o) go)
makes-found names b a made None go is makes = tt
makes-found names b a made (Some c) go is makes = makes c is

makes-cord : (names : Names) (b a : List ℕ) (made : CordShape) (go : CordState → Outcome) → ((c : Cord) → names b ≡ Some c → Makes a made (go (plain_of c))) → Makes a made (with_cord (plain_names names) b go)
makes-cord names b a made go makes = makes-found names b a made (names b) go refl makes

-- a change of a cord's bytes
changed-made : (c : Cord) (bytes : List ℕ) (made : CordShape) → IsCord c → length bytes ≡ made.size → (length bytes ≡ length c.bytes → made ≡ shape_of c) → ((length bytes ≡ length c.bytes → ⊥) → sum_of made.tree ≡ None) → (level_in made.tree ≤ 12 → IsCordShape made) → Made made (changed (plain_of c) bytes)
changed-made c bytes made is long same other whole = dite (ℕ_discrete (length bytes) (length c.bytes))
    (λ e. subst (Made made) (sym (if_true (eqb (length bytes) (length c.bytes)) (plain_of c) (plain bytes) (eq-eqb _ _ e))) (record {
      size = sym e ∙ long;
      sum = is.sum ∙ sym (ap (λ (m : CordShape). sum_of m.tree) (same e));
      whole = whole;
    }))
    (λ ne. subst (Made made) (sym (if_false (eqb (length bytes) (length c.bytes)) (plain_of c) (plain bytes) (ne_eqb _ _ ne))) (record { size = long; sum = sym (other ne); whole = whole }))

grown-made : (e : Environment) (a : List ℕ) (c : Cord) (bytes : List ℕ) (made : CordShape) → Made made (changed (plain_of c) bytes) → Makes a made (keeping e a (grown (plain_of c) bytes))
grown-made e a c bytes made m = makes-edit e a (plain_of c) (changed (plain_of c) bytes) (replies.Length (length bytes)) (nat_le (length bytes) MOST_BYTES) made (λ X. tt) m

-- ---- nothing added or cut
added-none : (fills : Bool) (side : Side) (n : ℕ) (c : CordShape) → n ≡ 0 → with_bytes_added fills side n c ≡ c
added-none fills side n c z = if_true (eqb n 0) c _ (eq-eqb n 0 z)

joined-none : (fills : Bool) (side : Side) (source c : CordShape) → source.size ≡ 0 → with_cord_added fills side source c ≡ c
joined-none fills side source c z = if_true (leb source.size 511) _ _ (le-leb source.size 511 (omega (arith, z))) ∙ added-none fills side source.size c z

front-none : (n : ℕ) (c : CordShape) → n ≡ 0 → front_cut n c ≡ c
front-none n c z = if_true (eqb n 0) c _ (eq-eqb n 0 z)

back-none : (shortens : Bool) (n : ℕ) (c : CordShape) → n ≡ 0 → back_cut shortens n c ≡ c
back-none shortens n c z = if_true (eqb n 0) c _ (eq-eqb n 0 z)

-- ---- each change
module _ (choice : Bool) (c : Cord) (is : IsCord c) where
  abbrev s : CordShape
  s = shape_of c

  bytes-made : (side : Side) (n : ℕ) (bytes : List ℕ) → length bytes ≡ length c.bytes + n → Made (with_bytes_added choice side n s) (changed (plain_of c) bytes)
  bytes-made side n bytes long = dite (ℕ_discrete n 0)
      (λ z. changed-made c bytes (with_bytes_added choice side n s) is (long ∙ omega (arith, z) ∙ ap (λ (m : CordShape). m.size) (sym (added-none choice side n s z))) (λ e. added-none choice side n s z) (λ ne. absurd (omega (arith, long, z, ne))) (added-whole choice side n s is.whole))
      (λ nz.
      let a = bytes-added choice side n s is.whole (omega (arith, nz)) in
      changed-made c bytes (with_bytes_added choice side n s) is (long ∙ sym a.0) (λ e. absurd (omega (arith, long, nz, e))) (λ ne. changed-no_sum _ _ a.1) (added-whole choice side n s is.whole))

  cord-made : (side : Side) (from : Cord) (bytes : List ℕ) → IsCord from → length bytes ≡ length c.bytes + length from.bytes → Made (with_cord_added choice side (shape_of from) s) (changed (plain_of c) bytes)
  cord-made side from bytes source long = dite (ℕ_discrete (length from.bytes) 0)
      (λ z. changed-made c bytes (with_cord_added choice side (shape_of from) s) is (long ∙ omega (arith, z) ∙ ap (λ (m : CordShape). m.size) (sym (joined-none choice side (shape_of from) s z))) (λ e. joined-none choice side (shape_of from) s z) (λ ne. absurd (omega (arith, long, z, ne))) (cord-added_whole choice side (shape_of from) s source.whole is.whole))
      (λ nz.
      let a = cord-added choice side (shape_of from) s source.whole is.whole (omega (arith, nz)) in
      changed-made c bytes (with_cord_added choice side (shape_of from) s) is (long ∙ sym a.0) (λ e. absurd (omega (arith, long, nz, e))) (λ ne. changed-no_sum _ _ a.1) (cord-added_whole choice side (shape_of from) s source.whole is.whole))

  cut-made : (n : ℕ) (bytes : List ℕ) (made : CordShape) → n ≤ length c.bytes → length bytes ≡ length c.bytes - n → (n ≡ 0 → made ≡ s) → (0 < n → IsChanged (length c.bytes - n) made) → IsCordShape made → Made made (changed (plain_of c) bytes)
  cut-made n bytes made fits long none some whole = dite (ℕ_discrete n 0)
      (λ z. changed-made c bytes made is (long ∙ omega (arith, z) ∙ ap (λ (m : CordShape). m.size) (sym (none z))) (λ e. none z) (λ ne. absurd (omega (arith, long, z, ne))) (λ low. whole))
      (λ nz.
      let a = some (omega (arith, nz)) in
      changed-made c bytes made is (long ∙ sym a.0) (λ e. absurd (omega (arith, long, nz, e, fits))) (λ ne. changed-no_sum _ _ a.1) (λ low. whole))

  cuts-made : (e : Environment) (a : List ℕ) (n : ℕ) (bytes : List ℕ) (made : CordShape) → (n ≤ length c.bytes → Made made (changed (plain_of c) bytes)) → Makes a made (keeping e a (cut (plain_of c) n bytes))
  cuts-made e a n bytes made m = go (nat_le n (length c.bytes)) refl
    where
      go : (b : Bool) → nat_le n (length c.bytes) ≡ b → Makes a made (keeping e a (if b then edited (changed (plain_of c) bytes) else refused (plain_of c) (replies.Position n (length c.bytes))))
      go true le = makes-edit e a (plain_of c) (changed (plain_of c) bytes) (replies.Position n (length c.bytes)) true made (λ X. tt) (m (leb-true n (length c.bytes) le))
      go false le = tt

-- ---- each command
abbrev pub IsMade : Option Outcome → Option Doing → Type 0
IsMade None d = Unit {0}
IsMade (Some o) None = Unit {0}
IsMade (Some o) (Some d) = Makes d.name d.made o

module _ (choice : Bool) (names : Names) (all : (a : List ℕ) (c : Cord) → names a ≡ Some c → IsCord c) where
  abbrev e : Environment
  e = plain_names names

  -- the shape that is found is the cord's
  of-found : (F : CordShape → CordShape) (a b : List ℕ) (c : Cord) (o : Outcome) → names b ≡ Some c → Makes a (F (shape_of c)) o → Makes a (F (shape_in (names b))) o
  of-found F a b c o is m = subst (λ (x : CordShape). Makes a (F x) o) (sym (ap shape_in is)) m

  join-made : (side : Side) (a b : List ℕ) (c other : Cord) (bytes : List ℕ) → names a ≡ Some c → names b ≡ Some other → length bytes ≡ length c.bytes + length other.bytes → Made (joined_shape choice side names a b) (changed (plain_of c) bytes)
  join-made side a b c other bytes found also long = go (bytes_eq a b) refl
    where
      source : IsCord other
      source = all b other also

      here : IsCord c
      here = all a c found

      go : (t : Bool) → bytes_eq a b ≡ t → Made (cond t (doubled choice (shape_in (names a))) (with_cord_added choice side (shape_in (names b)) (shape_in (names a)))) (changed (plain_of c) bytes)
      go true same =
          let one : names a ≡ names b = ap names ((bytes_eq-Decides a b).0 same) in
          let two : shape_in (names a) ≡ shape_of other = ap shape_in (one ∙ also) in
          subst (λ (x : CordShape). Made x (changed (plain_of c) bytes)) (λ i. with_cord_added choice Back (sym two i) (sym (ap shape_in found) i)) (cord-made choice c here Back other bytes source long)
      go false differ = subst (λ (x : CordShape). Made x (changed (plain_of c) bytes)) (λ i. with_cord_added choice side (sym (ap shape_in also) i) (sym (ap shape_in found) i)) (cord-made choice c here side other bytes source long)

  pub makes : (command : Command) → IsWithin (Plain command) → IsMade (outcome e command) (doing choice names command)
  makes (commands.Let a text) within =
      let n : ℕ = length (text_bytes text) in
      makes-set e a (plain (text_bytes text)) (cord_of_bytes n) (record { size = refl; sum = sym (changed-no_sum _ _ (bytes-changed n).1); whole = λ low. bytes-whole n within })
  makes (commands.Ext a text) within =
      let n : ℕ = length (text_bytes text) in
      makes-set e a (plain (text_bytes text)) (cord_of_external n) (record { size = refl; sum = refl; whole = λ low. external-whole n within.0 within.1 })
  makes (commands.Copy a b) within = makes-cord names a b (shape_in (names a)) _ (λ c found.
      of-found (λ x. x) b a c (done (with_name e b (plain_of c))) found (makes-set e b (plain_of c) (shape_of c) (record { size = refl; sum = (all a c found).sum; whole = λ low. (all a c found).whole })))
  makes (commands.Sub a pos n b) within = makes-cord names a b (sub_cord pos n (shape_in (names a))) _ (λ c found.
      let w = (all a c found).whole in
      let k = sub-changed pos n (shape_of c) w in
      let bytes = take n (drop pos c.bytes) in
      of-found (λ x. sub_cord pos n x) b a c (done (with_name e b (plain bytes))) found (makes-set e b (plain bytes) (sub_cord pos n (shape_of c)) (record {
        size = length-take n (drop pos c.bytes) ∙ omega (arith, length-drop pos c.bytes) ∙ sym k.0;
        sum = sym (changed-no_sum _ _ k.1);
        whole = λ low. sub-whole pos n (shape_of c) w;
      })))
  makes (commands.Clear a) within = makes-cord names a a (cord_of_bytes 0) _ (λ c found. λ d is.
      subst (Made (cord_of_bytes 0)) (some-one empty_cord d (sym (set-here e a empty_cord) ∙ is)) (record { size = refl; sum = sym (changed-no_sum 0 (cord_of_bytes 0).tree (bytes-changed 0).1); whole = λ low. bytes-whole 0 (omega arith) }))
  makes (commands.Append a text) within = makes-cord names a a _ _ (λ c found.
      let n : ℕ = length (text_bytes text) in
      let bytes = c.bytes ++ text_bytes text in
      of-found (λ x. with_bytes_added choice Back n x) a a c (keeping e a (grown (plain_of c) bytes)) found (grown-made e a c bytes _ (bytes-made choice c (all a c found) Back n bytes (length-append c.bytes (text_bytes text)))))
  makes (commands.Prepend a text) within = makes-cord names a a _ _ (λ c found.
      let n : ℕ = length (text_bytes text) in
      let bytes = text_bytes text ++ c.bytes in
      of-found (λ x. with_bytes_added choice Front n x) a a c (keeping e a (grown (plain_of c) bytes)) found (grown-made e a c bytes _ (bytes-made choice c (all a c found) Front n bytes (omega (arith, length-append (text_bytes text) c.bytes)))))
  makes (commands.Join a b) within = makes-cord names a a _ _ (λ c found. makes-cord names b a _ _ (λ other also.
      grown-made e a c (c.bytes ++ other.bytes) _ (join-made Back a b c other (c.bytes ++ other.bytes) found also (length-append c.bytes other.bytes))))
  makes (commands.JoinFront a b) within = makes-cord names a a _ _ (λ c found. makes-cord names b a _ _ (λ other also.
      grown-made e a c (other.bytes ++ c.bytes) _ (join-made Front a b c other (other.bytes ++ c.bytes) found also (omega (arith, length-append other.bytes c.bytes)))))
  makes (commands.CutFront a n) within = makes-cord names a a _ _ (λ c found.
      let w = (all a c found).whole in
      of-found (λ x. front_cut n x) a a c (keeping e a (cut (plain_of c) n (drop n c.bytes))) found (cuts-made choice c (all a c found) e a n (drop n c.bytes) _ (λ fits.
      cut-made choice c (all a c found) n (drop n c.bytes) (front_cut n (shape_of c)) fits (length-drop n c.bytes) (front-none n (shape_of c)) (λ some. front-changed n (shape_of c) w some fits) (front-whole n (shape_of c) w fits))))
  makes (commands.CutBack a n) within = makes-cord names a a _ _ (λ c found.
      let w = (all a c found).whole in
      let bytes = take (length c.bytes - n) c.bytes in
      of-found (λ x. back_cut choice n x) a a c (keeping e a (cut (plain_of c) n bytes)) found (cuts-made choice c (all a c found) e a n bytes _ (λ fits.
      cut-made choice c (all a c found) n bytes (back_cut choice n (shape_of c)) fits (omega (arith, length-take (length c.bytes - n) c.bytes)) (back-none choice n (shape_of c)) (λ some. back-changed choice n (shape_of c) w some fits) (back-whole choice n (shape_of c) w fits))))
  makes (commands.SetSum a value) within = makes-cord names a a _ _ (λ c found.
      let new : CordState = record { bytes = c.bytes; sum = Some value } in
      of-found (λ x. shapes.with_sum value x) a a c (keeping e a (if length c.bytes == 0 then refused (plain_of c) replies.NoBytes else edited new)) found (makes-sum e a (plain_of c) new (length c.bytes == 0) _ (record {
        size = refl;
        sum = sym (sum-set value (shape_of c));
        whole = λ low. sum-whole value (shape_of c) (all a c found).whole;
      })))
  makes _ within = tt
