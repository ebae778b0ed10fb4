-- What a change of a name's cord comes to, and its refusal, as the plain step over trees has them.
use Rattle.std.proofs.Common.{◌≡◌, ◌≢◌, ◌∙◌, sym, ap, subst, refl, ℕ, ◌+◌, ◌<◌, ◌≤◌, List, [], ◌∷◌, ◌++◌, length, Option, Some, None, Bool, true, false, eqb, eqb-true, ne_eqb, append-nil, arith}
use Rattle.std.specs.Prelude.{option_map, ◌&&◌, not, nat_eq, is_some, IsSome}
use Rattle.std.proofs.lemmas.Bool.{cond_both}
use Rattle.std.proofs.lemmas.List.{length-append}
use Rattle.node_forest.specs.declared.side.Side.{Side}
use Rattle.node_forest.specs.declared.side.Side.TheVariants.{Front, Back}
use Rattle.node_forest.specs.Label.{Node}
use Rattle.node_edges.specs.Trees as edges
use Rattle.plain_cord.specs.declared.reply.Reply.TheVariants as replies
use Rattle.plain_cord.specs.declared.script.Command.{Command}
use Rattle.plain_cord.specs.States.{CordState, plain, changed}
use Rattle.tree_shapes.specs.Cords.{CordShape, NeedsHeight12}
use Rattle.tree_shapes.specs.Growth.{beside}
use Rattle.pool_rule.specs.Views.{View}
use Rattle.ordered_names.specs.declared.names.Names.{Names}
use Rattle.ordered_names.specs.Named.{named}
use Rattle.cord_value.specs.Changes.{IsRefused}
use Rattle.cord_value.specs.declared.refusals.CordError.{CordError}
use Rattle.cord_value.specs.declared.refusals.CordError.TheVariants as errors
use Rattle.cord_value.specs.Views.{CordView, IsTreeOf, cord_shape}
use Rattle.cord_steps.specs.Answers.{Plain}
use Rattle.cord_steps.specs.Cords.{Cord, plain_of, shape_in}
use Rattle.cord_steps.specs.Cords as steps
use Rattle.cord_steps.specs.Doings.{Changed, Doing}
use Rattle.cord_steps.specs.Whole.{IsWithin}
use Rattle.cord_commands.specs.declared.answer.Answer.{Answer}
use Rattle.cord_commands.specs.declared.answer.Answer.TheVariants.{Told}
use Rattle.cord_commands.specs.Answers.{ok, refusal_of}
use Rattle.cord_commands.specs.Bare.{AreBare}
use Rattle.cord_commands.specs.Does.{Does}
use Rattle.cord_commands.specs.Views.{names_of, AreSame, IsSetTo}
use Rattle.cord_commands.proofs.Comings.{ComesTo, Answers}
use Rattle.cord_commands.proofs.Doing.{ShowsLimit, does-set, does-told, refused-does, some-answer, are-bare}
use Rattle.cord_commands.proofs.Refused.{copied-shape}

abbrev pub changes : steps.Names → List ℕ → Bool → CordShape → Doing
changes names a alters made = record { name = a; manner = Changed alters; old = names a; made = made }

-- whether a change alters anything, by sizes
abbrev pub alters_to : steps.Names → List ℕ → CordShape → Bool
alters_to names a made = not (nat_eq made.size (shape_in (names a)).size)

-- a change to another size does
pub alters : (old : Names CordView) (a : List ℕ) (c : CordView) → named old a ≡ Some c → (F : CordShape → CordShape) (n : ℕ) → (F (cord_shape c)).size ≡ n → n ≢ length c.bytes
    → alters_to (names_of old) a (F (shape_in (names_of old a))) ≡ true
alters old a c is F n size ne =
    let there = copied-shape old a c is in
    ap not (ap (λ (k : ℕ). nat_eq k (shape_in (names_of old a)).size) (ap (λ (s : CordShape). (F s).size) there ∙ size)
    ∙ (ap (λ (s : CordShape). nat_eq n s.size) there ∙ ne_eqb n (length c.bytes) ne))

pub changed-bytes : (x : CordState) (bytes : List ℕ) → (length bytes ≡ length x.bytes → bytes ≡ x.bytes) → (changed x bytes).bytes ≡ bytes
changed-bytes x bytes h = cond_both (eqb (length bytes) (length x.bytes)) x (plain bytes) (λ (z : CordState). z.bytes ≡ bytes) (λ yes. sym (h (eqb-true (length bytes) (length x.bytes) yes))) (λ no'. refl)

-- ---- bytes that are as many are the same
nothing-left : (ys : List ℕ) → length ys ≡ 0 → ys ≡ []
nothing-left [] e = refl
nothing-left (y ∷ ys) e = absurd (omega arith)

pub beside-same : (side : Side) (xs ys : List ℕ) → length (beside side xs ys) ≡ length xs → beside side xs ys ≡ xs
beside-same Back xs ys e = let n = length-append xs ys in ap (λ z. xs ++ z) (nothing-left ys (omega arith)) ∙ append-nil xs
beside-same Front xs ys e = let n = length-append ys xs in ap (λ z. z ++ xs) (nothing-left ys (omega arith))

pub beside-length : (side : Side) (xs ys : List ℕ) → length (beside side xs ys) ≡ length xs + length ys
beside-length Back xs ys = length-append xs ys
beside-length Front xs ys = let n = length-append ys xs in omega arith

both-true : (a b : Bool) → a ≡ true → b ≡ true → (a && b) ≡ true
both-true a b p q = λ i. p i && q i

module _ (size limit : ℕ) (old new : Names CordView) (v w : View) (a : List ℕ) (c : CordView) (is : named old a ≡ Some c) where
  -- ---- done
  module _ (c' : CordView) (set : IsSetTo old new a c') (formed : IsTreeOf c'.bytes c'.tree) (unused : w.unused ≡ v.unused) where
    pub set-by : (choice alters : Bool) (command : Command) (F : CordShape → CordShape) (s : CordState) → IsWithin (Plain command)
        → (AreBare (names_of old) → ComesTo choice (names_of old) command (changes (names_of old) a alters (F (shape_in (names_of old a)))) s)
        → s.bytes ≡ c'.bytes → cord_shape c' ≡ F (cord_shape c) → Does size limit old new v w (Plain command) ok
    set-by choice alters command F s within k bytes shape = does-set size limit old new v w command choice (changes (names_of old) a alters (F (shape_in (names_of old a)))) s c' k within set (λ whole. formed) bytes
        (ap (λ (z : CordShape). (F z).tree) (copied-shape old a c is) ∙ ap (λ (z : CordShape). z.tree) (sym shape)) unused

  -- ---- refused
  module _ (same : AreSame old new) (unused : w.unused ≡ v.unused) (command : Command) (F : CordShape → CordShape) (bytes : List ℕ) (alters : Bool) (s : CordState)
      (k : AreBare (names_of old) → length bytes ≤ 2147483647 → ComesTo false (names_of old) command (changes (names_of old) a alters (F (shape_in (names_of old a)))) s)
      (long : AreBare (names_of old) → 2147483647 < length bytes → Answers (names_of old) command (replies.Length (length bytes)))
      (sized : (F (cord_shape c)).size ≡ length bytes) (some : alters ≡ true) where
    abbrev d : Doing
    d = changes (names_of old) a alters (F (shape_in (names_of old a)))

    -- the shape that is made of the cord
    made-is : F (shape_in (names_of old a)) ≡ F (cord_shape c)
    made-is = ap F (copied-shape old a c is)

    no-tree : c.tree ≡ None → is_some (shape_in (names_of old a)).tree ≡ false
    no-tree none = ap (λ (z : CordShape). is_some z.tree) (copied-shape old a c is) ∙ ap (λ (t : Option Node). is_some (option_map edges.shape_of t)) none

    tree-made : IsSome (F (cord_shape c)).tree → is_some (F (shape_in (names_of old a))).tree ≡ true
    tree-made there = ap (λ (z : CordShape). is_some z.tree) made-is ∙ there

    short-bytes : (F (cord_shape c)).size ≤ 2147483647 → length bytes ≤ 2147483647
    short-bytes fits = omega (arith, sized, fits)

    pub refused-by : (x : CordError) (answer : Answer) → IsRefused size limit c.tree (F (cord_shape c)) x v w → ShowsLimit limit x v w → Some answer ≡ refusal_of x
        → Does size limit old new v w (Plain command) answer
    refused-by (errors.LengthLimit asked) answer why balanced told = subst (Does size limit old new v w (Plain command)) (some-answer (Told (replies.Length asked)) answer (sym told))
        (subst (λ (n : ℕ). Does size limit old new v w (Plain command) (Told (replies.Length n))) (sym (why.0 ∙ sized))
        (does-told size limit old new v w command false (replies.Length (length bytes)) (λ whole. long (are-bare old whole) (omega (arith, why.0, why.1, sized))) tt same unused))
    refused-by (errors.HeightLimit height) answer why balanced told =
        refused-does size limit old new v w command false d s (λ all. k all (short-bytes why.1)) same unused (errors.HeightLimit height) answer (λ whole. subst NeedsHeight12 (sym made-is) why.2) tt balanced told
    refused-by (errors.PassLimit found) answer why balanced told =
        refused-does size limit old new v w command false d s (λ all. k all (short-bytes why.0.0)) same unused (errors.PassLimit found) answer
        (λ whole. (
          subst (λ (z : CordShape). ¬ (NeedsHeight12 z)) (sym made-is) why.0.1,
          both-true _ _ (tree-made why.2) (ap not (no-tree why.1)),
          why.3,
        )) tt balanced told
    refused-by (errors.NoNumber seen) answer why balanced told =
        refused-does size limit old new v w command false d s (λ all. k all (short-bytes why.0.0)) same unused (errors.NoNumber seen) answer
        (λ whole. (subst (λ (z : CordShape). ¬ (NeedsHeight12 z)) (sym made-is) why.0.1, both-true _ _ some (tree-made why.1), why.2)) (why.2, why.3) balanced told
    refused-by errors.Memory answer why balanced told = cc
    refused-by (errors.Position asked end) answer why balanced told = absurd why
    refused-by (errors.NoReleaser used) answer why balanced told = absurd why
