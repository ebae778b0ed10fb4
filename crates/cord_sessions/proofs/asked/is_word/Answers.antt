-- One word is the list of that word.
use Rattle.std.proofs.Common.{arith, ◌≡◌, ℕ, List, [], ◌∷◌, map, length, get_or, sym, ap, ◌∙◌, string_bytes}
use Rattle.std.specs.Prelude.{IsTrue, Bool, true}
use lib.Pointwise.{pointwise, bytes_decides}
use lib.Dec.{eqb}
use Rattle.cord_sessions.proofs.asked.is_word.Goals as goal

is_true : {b : Bool} → IsTrue b → b ≡ true
is_true t = t

so_true : {b : Bool} → b ≡ true → IsTrue b
so_true t = t

one_word : {A : Type 0} (f : A → List ℕ) (ws : List A) (w : A) → length ws ≡ 1 → w ≡ get_or ws 0 w → map f ws ≡ f w ∷ []
one_word f [] w e is = absurd (omega arith)
one_word f (v ∷ []) w e is = ap (λ z. f z ∷ []) (sym is)
one_word f (v ∷ u ∷ ws) w e is = absurd (omega arith)

same_head : (x y : List ℕ) → x ∷ [] ≡ y ∷ [] → x ≡ y
same_head x y e = cc

pub returns-in-len1 : goal.returns-in-len1
returns-in-len1 c =
    let w = c.word-item.result in
    let one : length c.args.words.now ≡ 1 = (let a = c.in-len1.len_at_least in let b = c.in-len1.len_below in omega arith) in
    let same : map string_bytes c.args.words.now ≡ string_bytes w ∷ [] = one_word string_bytes c.args.words.now w one c.word-item.is in
    let name = c.args.name.now in
    let v = c.as_str.ensures.value in
    let e = c.eq.ensures ∙ ap (λ z. pointwise eqb z name) v in
    let decides = bytes_decides (string_bytes w) name in
    ((λ t. same ∙ ap (λ z. z ∷ []) (decides.0 (sym e ∙ is_true t))), λ h. so_true (e ∙ decides.1 (same_head (string_bytes w) name (sym same ∙ h))))
