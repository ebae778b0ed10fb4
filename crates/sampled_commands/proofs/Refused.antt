-- Why no cord is made, by what is to be made.
use Rattle.std.proofs.Common.{◌≡◌, sym, ap, subst, refl, ℕ, ◌<◌, ◌≤◌, List, length, Option, Some, None, arith}
use Rattle.std.specs.Prelude.{IsTrue, IsSome, is_some, nat_le, option_map}
use Rattle.std.proofs.lemmas.Bool.{lt-leb}
use Rattle.tree_shapes.specs.Cords.{CordShape, cord_of_bytes, sub_cord, NeedsHeight12}
use Rattle.tree_shapes.proofs.CordLaws.{bytes-whole, cord-low}
use Rattle.tree_shapes.proofs.KeepLaws.{if_false}
use Rattle.tree_shapes.specs.Flats.{new_shape}
use Rattle.node_edges.specs.Trees as edges
use Rattle.node_forest.specs.Label.{Node}
use Rattle.pool_rule.specs.Views.{View}
use Rattle.ordered_names.specs.declared.names.Names.{Names}
use Rattle.ordered_names.specs.Named.{named}
use Rattle.cord_value.specs.Changes.{IsRefused}
use Rattle.cord_value.specs.Refusals.{IsMakeRefused}
use Rattle.cord_value.specs.declared.refusals.CordError.{CordError}
use Rattle.cord_value.specs.declared.refusals.CordError.TheVariants as errors
use Rattle.cord_value.specs.Views.{cord_shape}
use Rattle.cord_steps.specs.Cords.{Cord, shape_in, note_in}
use Rattle.cord_steps.specs.Doings.{Fresh, Copied, Doing}
use Rattle.cord_sampled.specs.Refusals.{IsCopyCause}
use Rattle.sampled_commands.specs.Views.{SessionCordView, AreWhole, cord_in, names_of}
use Rattle.sampled_commands.proofs.Doing.{Refuses, Shows}
use Rattle.sampled_commands.proofs.Whole.{are-cords, found-in}

-- ---- new bytes
bytes-low : (n : ℕ) → n ≤ 2147483647 → ¬ (NeedsHeight12 (cord_of_bytes n))
bytes-low n short = λ high. let low = cord-low n (cord_of_bytes n).tree (bytes-whole n short) in omega (arith, low, high)

bytes-tree : (n : ℕ) → 15 < n → IsTrue (is_some (cord_of_bytes n).tree)
bytes-tree n long = ap is_some (if_false (nat_le n 15) None (Some (new_shape n)) (lt-leb n 15 long))

abbrev pub letting : List ℕ → Option Cord → ℕ → Doing
letting a old n = record { name = a; manner = Fresh; old = old; made = cord_of_bytes n }

pub bytes-refused : (size limit n : ℕ) (a : List ℕ) (old : Option Cord) (v w : View) (x : CordError) → n ≤ 2147483647 → IsMakeRefused size limit n x v w → Refuses size limit (letting a old n) x
bytes-refused size limit n a old v w (errors.LengthLimit asked) short is = absurd (omega (arith, short, is.1))
bytes-refused size limit n a old v w (errors.PassLimit found) short is = (bytes-low n short, bytes-tree n is.0, is.2)
bytes-refused size limit n a old v w (errors.NoNumber seen) short is = (bytes-low n short, bytes-tree n is.0, is.2)
bytes-refused size limit n a old v w errors.Memory short is = tt
bytes-refused size limit n a old v w (errors.Position asked end) short is = absurd is
bytes-refused size limit n a old v w (errors.HeightLimit height) short is = absurd is
bytes-refused size limit n a old v w (errors.NoReleaser used) short is = absurd is

pub bytes-shows : (size limit n : ℕ) (v w : View) (x : CordError) → IsMakeRefused size limit n x v w → Shows size x v w
bytes-shows size limit n v w (errors.LengthLimit asked) is = tt
bytes-shows size limit n v w (errors.PassLimit found) is = tt
bytes-shows size limit n v w (errors.NoNumber seen) is = (is.2, is.3)
bytes-shows size limit n v w errors.Memory is = tt
bytes-shows size limit n v w (errors.Position asked end) is = tt
bytes-shows size limit n v w (errors.HeightLimit height) is = tt
bytes-shows size limit n v w (errors.NoReleaser used) is = absurd is

-- ---- copies
abbrev pub copying : Names SessionCordView → List ℕ → List ℕ → Doing
copying names a b = record { name = b; manner = Copied (note_in (names_of names a)); old = names_of names b; made = shape_in (names_of names a) }

pub copied-shape : (names : Names SessionCordView) (a : List ℕ) (c : SessionCordView) → named names a ≡ Some c → shape_in (names_of names a) ≡ cord_shape c.cord
copied-shape names a c is = ap shape_in (found-in names a c is)

pub some-tree : (t : Option Node) → IsSome t → IsTrue (is_some (option_map edges.shape_of t))
some-tree None is = is
some-tree (Some e) is = refl

pub copy-refused : (size limit : ℕ) (names : Names SessionCordView) (a b : List ℕ) (c : SessionCordView) (x : CordError) → named names a ≡ Some c → AreWhole names → IsCopyCause limit c.cord.tree x → Refuses size limit (copying names a b) x
copy-refused size limit names a b c (errors.PassLimit found) is whole why =
    let good = are-cords names whole a (cord_in c) (found-in names a c is) in
    let low = cord-low (length c.cord.bytes) (cord_in c).shape good.whole in (
      subst (λ (z : CordShape). ¬ (NeedsHeight12 z)) (sym (copied-shape names a c is)) (λ high. omega (arith, low, high)),
      subst (λ (z : CordShape). IsTrue (is_some z.tree)) (sym (copied-shape names a c is)) (some-tree c.cord.tree why.0),
      why.1,
    )
copy-refused size limit names a b c errors.Memory is whole why = tt
copy-refused size limit names a b c (errors.NoNumber seen) is whole why = absurd why
copy-refused size limit names a b c (errors.LengthLimit asked) is whole why = absurd why
copy-refused size limit names a b c (errors.Position asked end) is whole why = absurd why
copy-refused size limit names a b c (errors.HeightLimit height) is whole why = absurd why
copy-refused size limit names a b c (errors.NoReleaser used) is whole why = absurd why

pub copy-shows : (size limit : ℕ) (t : Option Node) (v w : View) (x : CordError) → IsCopyCause limit t x → Shows size x v w
copy-shows size limit t v w (errors.PassLimit found) why = tt
copy-shows size limit t v w errors.Memory why = tt
copy-shows size limit t v w (errors.NoNumber seen) why = absurd why
copy-shows size limit t v w (errors.LengthLimit asked) why = tt
copy-shows size limit t v w (errors.Position asked end) why = tt
copy-shows size limit t v w (errors.HeightLimit height) why = tt
copy-shows size limit t v w (errors.NoReleaser used) why = absurd why

-- ---- parts
abbrev pub parting : Names SessionCordView → List ℕ → ℕ → ℕ → List ℕ → Doing
parting names a pos n b = record { name = b; manner = Fresh; old = names_of names b; made = sub_cord pos n (shape_in (names_of names a)) }

part-short : (pos n : ℕ) (c : CordShape) → (sub_cord pos n c).size ≤ c.size
part-short pos n c = omega arith

pub part-refused : (size limit : ℕ) (names : Names SessionCordView) (a : List ℕ) (pos n : ℕ) (b : List ℕ) (c : SessionCordView) (v w : View) (x : CordError) → named names a ≡ Some c → length c.cord.bytes ≤ 2147483647
    → IsRefused size limit None (sub_cord pos n (cord_shape c.cord)) x v w → Refuses size limit (parting names a pos n b) x
part-refused size limit names a pos n b c v w x is short why = go x (subst (λ (z : CordShape). IsRefused size limit None (sub_cord pos n z) x v w) (sym (copied-shape names a c is)) why)
  where
    few : (sub_cord pos n (shape_in (names_of names a))).size ≤ 2147483647
    few = subst (λ (z : CordShape). (sub_cord pos n z).size ≤ 2147483647) (sym (copied-shape names a c is)) (let l = part-short pos n (cord_shape c.cord) in omega (arith, l, short))

    go : (x : CordError) → IsRefused size limit None (sub_cord pos n (shape_in (names_of names a))) x v w → Refuses size limit (parting names a pos n b) x
    go (errors.LengthLimit asked) why = absurd (omega (arith, few, why.0, why.1))
    go (errors.HeightLimit height) why = why.2
    go (errors.PassLimit found) why = (why.0.1, why.2, why.3)
    go (errors.NoNumber seen) why = (why.0.1, why.1, why.2)
    go errors.Memory why = tt
    go (errors.Position asked end) why = absurd why
    go (errors.NoReleaser used) why = absurd why

pub part-shows : (size limit : ℕ) (made : CordShape) (v w : View) (x : CordError) → IsRefused size limit None made x v w → Shows size x v w
part-shows size limit made v w (errors.LengthLimit asked) why = tt
part-shows size limit made v w (errors.HeightLimit height) why = tt
part-shows size limit made v w (errors.PassLimit found) why = tt
part-shows size limit made v w (errors.NoNumber seen) why = (why.2, why.3)
part-shows size limit made v w errors.Memory why = tt
part-shows size limit made v w (errors.Position asked end) why = tt
part-shows size limit made v w (errors.NoReleaser used) why = absurd why
