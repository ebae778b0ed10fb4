-- Writes, one after another.
use Rattle.std.proofs.Common.{◌≡◌, ℕ, List, [], ◌++◌, refl, sym, ap, ◌∙◌, append_assoc, append-nil, Option, Some, None}
use Rattle.std.specs.Io.KnownBytes.{Appends, Keeps}
use Rattle.cord_port.specs.Texts.{AppendsPart}

pub appends_none : (a : Option (List ℕ)) → Appends a a []
appends_none None = tt
appends_none (Some xs) = sym (append-nil xs)

pub appends_more : (a b c : Option (List ℕ)) (xs ys : List ℕ) → Appends a b xs → Appends b c ys → Appends a c (xs ++ ys)
appends_more None b c xs ys p q = tt
appends_more (Some us) None c xs ys p q = absurd p
appends_more (Some us) (Some bs) None xs ys p q = absurd q
appends_more (Some us) (Some bs) (Some cs) xs ys p q = q ∙ (ap (λ z. z ++ ys) p ∙ append_assoc us xs ys)

pub appends_keeps : (a b c : Option (List ℕ)) (xs : List ℕ) → Appends a b xs → Keeps b c → Appends a c xs
appends_keeps None b c xs p q = tt
appends_keeps (Some us) None c xs p q = absurd p
appends_keeps (Some us) (Some bs) None xs p q = absurd q
appends_keeps (Some us) (Some bs) (Some cs) xs p q = q ∙ p

pub keeps_appends : (a b c : Option (List ℕ)) (xs : List ℕ) → Keeps a b → Appends b c xs → Appends a c xs
keeps_appends None b c xs p q = tt
keeps_appends (Some us) None c xs p q = absurd p
keeps_appends (Some us) (Some bs) None xs p q = absurd q
keeps_appends (Some us) (Some bs) (Some cs) xs p q = q ∙ ap (λ z. z ++ xs) p

-- a beginning of the text that was appended is a part of it
pub appends_part : (a b : Option (List ℕ)) (xs rest text : List ℕ) → text ≡ xs ++ rest → Appends a b xs → AppendsPart a b text
appends_part None b xs rest text e p = tt
appends_part (Some us) None xs rest text e p = absurd p
appends_part (Some us) (Some bs) xs rest text e p = (xs, rest, p, e)

pub whole_part : (a b : Option (List ℕ)) (text : List ℕ) → Appends a b text → AppendsPart a b text
whole_part a b text p = appends_part a b text [] text (sym (append-nil text)) p

pub no_part : (a : Option (List ℕ)) (text : List ℕ) → AppendsPart a a text
no_part None text = tt
no_part (Some us) text = ([], text, sym (append-nil us), refl)

-- a text up to a line, and then a part of this line
pub part_more : (a b c : Option (List ℕ)) (xs line rest text : List ℕ) → text ≡ xs ++ (line ++ rest) → Appends a b xs → AppendsPart b c line → AppendsPart a c text
part_more None b c xs line rest text e p q = tt
part_more (Some us) None c xs line rest text e p q = absurd p
part_more (Some us) (Some bs) None xs line rest text e p q = absurd q
part_more (Some us) (Some bs) (Some cs) xs line rest text e p q =
    (xs ++ q.0, q.1 ++ rest, q.2 ∙ (ap (λ z. z ++ q.0) p ∙ append_assoc us xs q.0), e ∙ (ap (λ z. xs ++ (z ++ rest)) q.3 ∙ (ap (λ z. xs ++ z) (append_assoc q.0 q.1 rest) ∙ sym (append_assoc xs q.0 (q.1 ++ rest)))))
