-- Each edit of a name's cord, done or refused, as its command's plain step over trees.
use Rattle.std.proofs.Common.{◌≡◌, ◌∙◌, sym, ap, subst, refl, ℕ, zero, suc, ◌+◌, ◌-◌, ◌<◌, ◌≤◌, List, [], ◌∷◌, ◌++◌, length, take, drop, Some, Bool, true, false, ne_eqb, Result, Ok, Err, inl, inr, arith}
use Rattle.std.specs.Prelude.{nat_eq, nat_le, IfOk, IfErr, OnErr}
use Rattle.std.specs.Str.{bytes_eq}
use Rattle.std.specs.declared.alloc.AllocError.{AllocError}
use Rattle.std.proofs.lemmas.List.{length-take, length-drop}
use Rattle.std.proofs.lemmas.Slice.Eq.{bytes_eq-Decides}
use Rattle.node_forest.specs.declared.side.Side.{Side}
use Rattle.node_forest.specs.declared.side.Side.TheVariants.{Front, Back}
use Rattle.plain_cord.specs.declared.reply.Reply.TheVariants as replies
use Rattle.plain_cord.specs.declared.script.Command.TheVariants as commands
use Rattle.plain_cord.specs.declared.script.Text.{Text}
use Rattle.plain_cord.specs.States.{changed}
use Rattle.plain_cord.specs.Texts.{text_bytes}
use Rattle.tree_shapes.specs.Cords as shapes
use Rattle.tree_shapes.specs.Cords.{CordShape, IsOneOf, IsBytesAdded, IsDoubled, IsBackCut, with_bytes_added, with_cord_added, doubled, front_cut, back_cut}
use Rattle.tree_shapes.specs.Growth.{beside}
use Rattle.tree_shapes.proofs.KeepLaws.{if_true, if_false}
use Rattle.pool_rule.specs.Views.{View}
use Rattle.ordered_names.specs.declared.names.Names.{Names}
use Rattle.ordered_names.specs.Named.{named}
use Rattle.cord_value.specs.Changes.{IsRefused, IsCutRefused}
use Rattle.cord_value.specs.Grown.{IsGrowRefused}
use Rattle.cord_value.specs.declared.refusals.CordError.{CordError}
use Rattle.cord_value.specs.declared.refusals.CordError.TheVariants as errors
use Rattle.cord_value.specs.Views.{CordView, IsTreeOf, cord_shape}
use Rattle.cord_steps.specs.Answers.{Plain}
use Rattle.cord_steps.specs.Cords.{Cord, plain_of, shape_in}
use Rattle.cord_steps.specs.Cords as steps
use Rattle.cord_steps.specs.Doings.{joined_shape}
use Rattle.cord_steps.specs.Whole.{IsWithin}
use Rattle.cord_commands.specs.declared.answer.Answer.{Answer}
use Rattle.cord_commands.specs.declared.answer.Answer.TheVariants.{Told}
use Rattle.cord_commands.specs.declared.edits.Edit.{Edit}
use Rattle.cord_commands.specs.declared.edits.Edit.TheVariants.{Add, Double, CutFront, CutBack, SetSum}
use Rattle.cord_commands.specs.Answers.{ok, refusal_of, IsAnswerTo}
use Rattle.cord_commands.specs.Does.{Does}
use Rattle.cord_commands.specs.Edits.{IsEdited, IsEditRefused, IsTextRefused, IsBehindBalanced, IsEditBalanced, IsApt, command_of, adding, joining}
use Rattle.cord_commands.specs.Views.{cord_in, names_of, AreSame, IsSetTo}
use Rattle.cord_commands.proofs.Comings.{ComesTo, add-comes, add-long, join-comes, join-long, cut_front-comes, cut_front-beyond, cut_back-comes, cut_back-beyond, sum-comes}
use Rattle.cord_commands.proofs.Doing.{ShowsLimit, balanced-shows, does-told, some-answer, are-bare, found-in}
use Rattle.cord_commands.proofs.Edited.{changes, alters_to, alters, changed-bytes, beside-same, beside-length, set-by, refused-by}
use Rattle.cord_commands.proofs.Renaming.{set-same}

-- ---- sizes of what is made
added-size : (fills : Bool) (side : Side) (n : ℕ) (s : CordShape) → 0 < n → (with_bytes_added fills side n s).size ≡ s.size + n
added-size fills side n s some = ap (λ (z : CordShape). z.size) (if_false (nat_eq n 0) s _ (ne_eqb n 0 (λ e. omega (arith, e))))

front-size : (n : ℕ) (s : CordShape) → 0 < n → (front_cut n s).size ≡ s.size - n
front-size n s some = ap (λ (z : CordShape). z.size) (if_false (nat_eq n 0) s _ (ne_eqb n 0 (λ e. omega (arith, e))))

back-size : (shortens : Bool) (n : ℕ) (s : CordShape) → 0 < n → (back_cut shortens n s).size ≡ s.size - n
back-size shortens n s some = ap (λ (z : CordShape). z.size) (if_false (nat_eq n 0) s _ (ne_eqb n 0 (λ e. omega (arith, e))))

-- a cord that isn't empty, added to another
pub joined-size : (fills : Bool) (side : Side) (source s : CordShape) → 0 < source.size → (with_cord_added fills side source s).size ≡ s.size + source.size
joined-size fills side source s some = go (nat_le source.size 511) refl
  where
    go : (b : Bool) → nat_le source.size 511 ≡ b → (with_cord_added fills side source s).size ≡ s.size + source.size
    go true low = ap (λ (z : CordShape). z.size) (if_true (nat_le source.size 511) _ _ low) ∙ added-size fills side source.size s some
    go false high = ap (λ (z : CordShape). z.size) (if_false (nat_le source.size 511) _ _ high)

-- ---- a cord joined to itself
self-shape : (choice : Bool) (side : Side) (names : steps.Names) (a : List ℕ) → joined_shape choice side names a a ≡ doubled choice (shape_in (names a))
self-shape choice side names a = if_true (bytes_eq a a) _ _ ((bytes_eq-Decides a a).1 refl)

self-beside : (side : Side) (bytes : List ℕ) → beside side bytes bytes ≡ bytes ++ bytes
self-beside Front bytes = refl
self-beside Back bytes = refl

-- ---- nothing is cut where as many are left
none-dropped : (n : ℕ) (xs : List ℕ) → n ≤ length xs → length (drop n xs) ≡ length xs → drop n xs ≡ xs
none-dropped n xs within e = let l = length-drop n xs in let z : n ≡ 0 = omega arith in ap (λ (k : ℕ). drop k xs) z

take-all : (n : ℕ) (xs : List ℕ) → length xs ≤ n → take n xs ≡ xs
take-all n [] e = take-nil n
  where
    take-nil : (k : ℕ) → take k (let none : List ℕ = [] in none) ≡ []
    take-nil zero = refl
    take-nil (suc k) = refl
take-all zero (y ∷ xs) e = absurd (omega arith)
take-all (suc n) (y ∷ xs) e = ap (λ z. y ∷ z) (take-all n xs (omega arith))

none-taken : (n : ℕ) (xs : List ℕ) → length (take n xs) ≡ length xs → take n xs ≡ xs
none-taken n xs e = let l = length-take n xs in take-all n xs (omega arith)

module _ (size limit : ℕ) (old new : Names CordView) (v w : View) (a : List ℕ) (c c' : CordView) (is : named old a ≡ Some c) (set : IsSetTo old new a c') (unused : w.unused ≡ v.unused) where
  abbrev names : steps.Names
  names = names_of old

  abbrev x : Cord
  x = cord_in c

  there : names a ≡ Some x
  there = found-in old a c is

  -- ---- done
  module _ (formed : IsTreeOf c'.bytes c'.tree) (short : length c'.bytes ≤ 2147483647) where
    within-add : (side : Side) (text : Text) → IsWithin (Plain (adding side a text))
    within-add Front text = tt
    within-add Back text = tt

    within-join : (side : Side) (b : List ℕ) → IsWithin (Plain (joining side a b))
    within-join Front b = tt
    within-join Back b = tt

    add-done : (side : Side) (text : Text) (choice : Bool) → c'.bytes ≡ beside side c.bytes (text_bytes text) → cord_shape c' ≡ with_bytes_added choice side (length (text_bytes text)) (cord_shape c)
        → Does size limit old new v w (Plain (adding side a text)) ok
    add-done side text choice bytes shape = set-by size limit old new v w a c is c' set formed unused choice _ (adding side a text) (with_bytes_added choice side (length (text_bytes text))) _ (within-add side text)
        (λ all. add-comes choice names all side a text x there (subst (λ (z : List ℕ). length z ≤ 2147483647) bytes short))
        (changed-bytes (plain_of x) (beside side c.bytes (text_bytes text)) (beside-same side c.bytes (text_bytes text)) ∙ sym bytes) shape

    double-done : (side : Side) (choice : Bool) → c'.bytes ≡ c.bytes ++ c.bytes → cord_shape c' ≡ doubled choice (cord_shape c) → Does size limit old new v w (Plain (joining side a a)) ok
    double-done side choice bytes shape =
        let here : c'.bytes ≡ beside side c.bytes c.bytes = bytes ∙ sym (self-beside side c.bytes) in
        set-by size limit old new v w a c is c' set formed unused choice (alters_to names a (doubled choice (shape_in (names a)))) (joining side a a) (doubled choice) (changed (plain_of x) (beside side c.bytes c.bytes)) (within-join side a)
        (λ all. subst (λ (z : CordShape). ComesTo choice names (joining side a a) (changes names a (alters_to names a z) z) (changed (plain_of x) (beside side c.bytes c.bytes))) (self-shape choice side names a)
        (join-comes choice names all side a a x x there there (subst (λ (z : List ℕ). length z ≤ 2147483647) here short)))
        (changed-bytes (plain_of x) (beside side c.bytes c.bytes) (beside-same side c.bytes c.bytes) ∙ sym here) shape

    front-done : (n : ℕ) → n ≤ length c.bytes → c'.bytes ≡ drop n c.bytes → cord_shape c' ≡ front_cut n (cord_shape c) → Does size limit old new v w (Plain (commands.CutFront a n)) ok
    front-done n within bytes shape = set-by size limit old new v w a c is c' set formed unused false _ (commands.CutFront a n) (front_cut n) _ tt
        (λ all. cut_front-comes false names all a n x there within)
        (changed-bytes (plain_of x) (drop n c.bytes) (none-dropped n c.bytes within) ∙ sym bytes) shape

    back-done : (n : ℕ) (choice : Bool) → n ≤ length c.bytes → c'.bytes ≡ take (length c.bytes - n) c.bytes → cord_shape c' ≡ back_cut choice n (cord_shape c) → Does size limit old new v w (Plain (commands.CutBack a n)) ok
    back-done n choice within bytes shape = set-by size limit old new v w a c is c' set formed unused choice _ (commands.CutBack a n) (back_cut choice n) _ tt
        (λ all. cut_back-comes choice names all a n x there within)
        (changed-bytes (plain_of x) (take (length c.bytes - n) c.bytes) (none-taken (length c.bytes - n) c.bytes) ∙ sym bytes) shape

    sum-done : (value : ℕ) → 0 < length c.bytes → c'.bytes ≡ c.bytes → cord_shape c' ≡ shapes.with_sum value (cord_shape c) → Does size limit old new v w (Plain (commands.SetSum a value)) ok
    sum-done value some bytes shape = set-by size limit old new v w a c is c' set formed unused false true (commands.SetSum a value) (shapes.with_sum value) _ tt
        (λ all. sum-comes false names all a value x there some) (sym bytes) shape

    one-of : (F : Bool → CordShape) (Q : Type 0) → IsOneOf F (cord_shape c') → ((choice : Bool) → cord_shape c' ≡ F choice → Q) → Q
    one-of F Q (inl e) go = go false e
    one-of F Q (inr e) go = go true e

    pub edit-done : (by : Edit) → IsApt old a by → IsEdited by c c' → Does size limit old new v w (Plain (command_of a by)) ok
    edit-done (Add text side) apt e = one-of (λ fills. with_bytes_added fills side (length (text_bytes text.now)) (cord_shape c)) _ e.1 (λ choice shape. add-done side text.now choice e.0 shape)
    edit-done (Double side) apt e = one-of (λ fills. doubled fills (cord_shape c)) _ e.1 (λ choice shape. double-done side choice e.0 shape)
    edit-done (CutFront n) apt e = front-done n e.2 e.0 e.1
    edit-done (CutBack n) apt e = one-of (λ shortens. back_cut shortens n (cord_shape c)) _ e.1 (λ choice shape. back-done n choice e.2 e.0 shape)
    edit-done (SetSum value) apt e = sum-done value (apt c is) e.0 e.1

  -- ---- refused
  module _ (few : length c.bytes ≤ 2147483647) (same : AreSame old new) where
    add-refused : (side : Side) (text : Text) (y : CordError) (answer : Answer) → IsGrowRefused size limit side (length (text_bytes text)) c y v w
        → ShowsLimit limit y v w → Some answer ≡ refusal_of y → Does size limit old new v w (Plain (adding side a text)) answer
    add-refused side text y answer why balanced told =
        let long = beside-length side c.bytes (text_bytes text) in
        let sized = added-size false side (length (text_bytes text)) (cord_shape c) why.0 ∙ sym long in
        refused-by size limit old new v w a c is same unused (adding side a text) (with_bytes_added false side (length (text_bytes text))) (beside side c.bytes (text_bytes text)) _ _
        (λ all short. add-comes false names all side a text x there short) (λ all over. add-long false names all side a text x there over)
        sized (alters old a c is (with_bytes_added false side (length (text_bytes text))) _ sized (λ e. omega (arith, e, long, why.0))) y answer why.1 balanced told

    double-refused : (side : Side) (y : CordError) (answer : Answer) → 0 < length c.bytes → IsRefused size limit c.tree (doubled false (cord_shape c)) y v w
        → ShowsLimit limit y v w → Some answer ≡ refusal_of y → Does size limit old new v w (Plain (joining side a a)) answer
    double-refused side y answer some why balanced told =
        let long = beside-length side c.bytes c.bytes in
        let sized = joined-size false Back (cord_shape c) (cord_shape c) some ∙ sym long in
        refused-by size limit old new v w a c is same unused (joining side a a) (doubled false) (beside side c.bytes c.bytes) (alters_to names a (doubled false (shape_in (names a)))) (changed (plain_of x) (beside side c.bytes c.bytes))
        (λ all short. subst (λ (z : CordShape). ComesTo false names (joining side a a) (changes names a (alters_to names a z) z) (changed (plain_of x) (beside side c.bytes c.bytes))) (self-shape false side names a) (join-comes false names all side a a x x there there short))
        (λ all over. join-long false names all side a a x x there there over)
        sized (alters old a c is (doubled false) _ sized (λ e. omega (arith, e, long, some))) y answer why balanced told

    front-refused : (n : ℕ) (y : CordError) (answer : Answer) → 0 < n → n ≤ length c.bytes → IsRefused size limit c.tree (front_cut n (cord_shape c)) y v w
        → ShowsLimit limit y v w → Some answer ≡ refusal_of y → Does size limit old new v w (Plain (commands.CutFront a n)) answer
    front-refused n y answer some within why balanced told =
        let long = length-drop n c.bytes in
        let sized = front-size n (cord_shape c) some ∙ sym long in
        refused-by size limit old new v w a c is same unused (commands.CutFront a n) (front_cut n) (drop n c.bytes) _ _
        (λ all short. cut_front-comes false names all a n x there within) (λ all over. absurd (omega (arith, over, long, few)))
        sized (alters old a c is (front_cut n) _ sized (λ e. omega (arith, e, long, some, within))) y answer why balanced told

    back-refused : (n : ℕ) (y : CordError) (answer : Answer) → 0 < n → n ≤ length c.bytes → IsRefused size limit c.tree (back_cut false n (cord_shape c)) y v w
        → ShowsLimit limit y v w → Some answer ≡ refusal_of y → Does size limit old new v w (Plain (commands.CutBack a n)) answer
    back-refused n y answer some within why balanced told =
        let kept : length (take (length c.bytes - n) c.bytes) ≡ length c.bytes - n = (let t = length-take (length c.bytes - n) c.bytes in omega (arith, t)) in
        let sized = back-size false n (cord_shape c) some ∙ sym kept in
        refused-by size limit old new v w a c is same unused (commands.CutBack a n) (back_cut false n) (take (length c.bytes - n) c.bytes) _ _
        (λ all short. cut_back-comes false names all a n x there within) (λ all over. absurd (omega (arith, over, kept, few)))
        sized (alters old a c is (back_cut false n) _ sized (λ e. omega (arith, e, kept, some, within))) y answer why balanced told

    sum-refused : (value : ℕ) (y : CordError) (answer : Answer) → 0 < length c.bytes → IsRefused size limit c.tree (shapes.with_sum value (cord_shape c)) y v w
        → ShowsLimit limit y v w → Some answer ≡ refusal_of y → Does size limit old new v w (Plain (commands.SetSum a value)) answer
    sum-refused value y answer some why balanced told =
        refused-by size limit old new v w a c is same unused (commands.SetSum a value) (shapes.with_sum value) c.bytes true _
        (λ all short. sum-comes false names all a value x there some) (λ all over. absurd (omega (arith, over, few)))
        refl refl y answer why balanced told

    front-cut : (n : ℕ) (y : CordError) (answer : Answer) → IsCutRefused size limit n c (front_cut n (cord_shape c)) y v w → ShowsLimit limit y v w
        → Some answer ≡ refusal_of y → Does size limit old new v w (Plain (commands.CutFront a n)) answer
    front-cut n (errors.Position asked end) answer why balanced told = subst (Does size limit old new v w (Plain (commands.CutFront a n))) (some-answer (Told (replies.Position asked end)) answer (sym told))
        (subst (λ (z : ℕ × ℕ). Does size limit old new v w (Plain (commands.CutFront a n)) (Told (replies.Position z.0 z.1))) (λ i. (sym why.0 i, sym why.1 i))
        (does-told size limit old new v w (commands.CutFront a n) false (replies.Position n (length c.bytes)) (λ whole. cut_front-beyond false names (are-bare old whole) a n x there (omega (arith, why.0, why.1, why.2))) tt same unused))
    front-cut n y answer why balanced told = front-refused n y answer why.0 why.1 why.2 balanced told

    back-cut : (n : ℕ) (y : CordError) (answer : Answer) → IsCutRefused size limit n c (back_cut false n (cord_shape c)) y v w → ShowsLimit limit y v w
        → Some answer ≡ refusal_of y → Does size limit old new v w (Plain (commands.CutBack a n)) answer
    back-cut n (errors.Position asked end) answer why balanced told = subst (Does size limit old new v w (Plain (commands.CutBack a n))) (some-answer (Told (replies.Position asked end)) answer (sym told))
        (subst (λ (z : ℕ × ℕ). Does size limit old new v w (Plain (commands.CutBack a n)) (Told (replies.Position z.0 z.1))) (λ i. (sym why.0 i, sym why.1 i))
        (does-told size limit old new v w (commands.CutBack a n) false (replies.Position n (length c.bytes)) (λ whole. cut_back-beyond false names (are-bare old whole) a n x there (omega (arith, why.0, why.1, why.2))) tt same unused))
    back-cut n y answer why balanced told = back-refused n y answer why.0 why.1 why.2 balanced told

    text-refused : (side : Side) (text : Text) (y : CordError) (answer : Answer) → IsTextRefused size limit side (length (text_bytes text)) c y v w
        → ShowsLimit limit y v w → Some answer ≡ refusal_of y → Does size limit old new v w (Plain (adding side a text)) answer
    text-refused side text errors.Memory answer why balanced told = cc
    text-refused side text y answer why balanced told = add-refused side text y answer why balanced told

    pub edit-refused : (by : Edit) → IsApt old a by → (y : CordError) (answer : Answer) → IsEditRefused size limit by c y v w → ShowsLimit limit y v w
        → Some answer ≡ refusal_of y → Does size limit old new v w (Plain (command_of a by)) answer
    edit-refused (Add text side) apt y answer why balanced told = text-refused side text.now y answer why balanced told
    edit-refused (Double side) apt y answer why balanced told = double-refused side y answer why.0 why.1 balanced told
    edit-refused (CutFront n) apt y answer why balanced told = front-cut n y answer why balanced told
    edit-refused (CutBack n) apt y answer why balanced told = back-cut n y answer why balanced told
    edit-refused (SetSum value) apt y answer why balanced told = sum-refused value y answer (apt c is) why balanced told

-- ---- what a refused edit shows
behind-shows : (limit : ℕ) (x : CordError) (v w : View) → IsBehindBalanced limit x v w → ShowsLimit limit x v w
behind-shows limit (errors.PassLimit found) v w balanced = balanced
behind-shows limit x v w balanced = tt

edit-shows : (limit : ℕ) (by : Edit) (x : CordError) (v w : View) → IsEditBalanced limit by x v w → ShowsLimit limit x v w
edit-shows limit (Add text Front) x v w balanced = balanced-shows limit x v w balanced
edit-shows limit (Add text Back) x v w balanced = behind-shows limit x v w balanced
edit-shows limit (Double side) x v w balanced = balanced-shows limit x v w balanced
edit-shows limit (CutFront n) x v w balanced = balanced-shows limit x v w balanced
edit-shows limit (CutBack n) x v w balanced = balanced-shows limit x v w balanced
edit-shows limit (SetSum value) x v w balanced = balanced-shows limit x v w balanced

-- an edit and its answer
pub edit-does : (size limit : ℕ) (old new : Names CordView) (v w : View) (a : List ℕ) (c c' : CordView) (by : Edit) → named old a ≡ Some c → IsSetTo old new a c' → w.unused ≡ v.unused → IsApt old a by
    → IsTreeOf c'.bytes c'.tree → length c'.bytes ≤ 2147483647 → length c.bytes ≤ 2147483647 → (r : Result (Unit {0}) CordError) (res : Result Answer AllocError)
    → IfOk r (λ _. IsEdited by c c') → IfErr r (λ y. IsEditRefused size limit by c y v w) → IfErr r (λ y. IsEditBalanced limit by y v w) → OnErr r (c' ≡ c) → IfOk res (λ answer. IsAnswerTo r answer)
    → IfOk res (λ answer. Does size limit old new v w (Plain (command_of a by)) answer)
edit-does size limit old new v w a c c' by is set unused apt formed short few r (Err e) edited refused balanced same told = tt
edit-does size limit old new v w a c c' by is set unused apt formed short few (Ok u) (Ok answer) edited refused balanced same told =
    subst (Does size limit old new v w (Plain (command_of a by))) (sym told) (edit-done size limit old new v w a c c' is set unused formed short by apt edited)
edit-does size limit old new v w a c c' by is set unused apt formed short few (Err y) (Ok answer) edited refused balanced same told =
    edit-refused size limit old new v w a c c' is set unused few (set-same old new a c c' is same set) by apt y answer refused (edit-shows limit by y v w balanced) told
