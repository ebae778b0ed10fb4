-- Reads, one after another.
use Rattle.std.proofs.Common.{ℕ, List, [], ◌++◌, refl, sym, ap, ◌∙◌, append_assoc, length-append, arith, Option, Some, None}
use Rattle.std.specs.Io.KnownBytes.{Consumes, Keeps}
use Rattle.cord_port.specs.Texts.{Gave}

pub consumes_none : (a : Option (List ℕ)) → Consumes a a []
consumes_none None = tt
consumes_none (Some xs) = refl

pub consumes_more : (a b c : Option (List ℕ)) (xs ys : List ℕ) → Consumes a b xs → Consumes b c ys → Consumes a c (xs ++ ys)
consumes_more None b c xs ys p q = tt
consumes_more (Some us) None c xs ys p q = absurd p
consumes_more (Some us) (Some bs) None xs ys p q = absurd q
consumes_more (Some us) (Some bs) (Some cs) xs ys p q = p ∙ (ap (λ z. xs ++ z) q ∙ sym (append_assoc xs ys cs))

pub keeps_consumes : (a b c : Option (List ℕ)) (xs : List ℕ) → Keeps a b → Consumes b c xs → Consumes a c xs
keeps_consumes None b c xs p q = tt
keeps_consumes (Some us) None c xs p q = absurd p
keeps_consumes (Some us) (Some bs) None xs p q = absurd q
keeps_consumes (Some us) (Some bs) (Some cs) xs p q = sym p ∙ q

-- what kept the bytes that are left consumed none
pub keeps_none : (a b : Option (List ℕ)) → Keeps a b → Consumes a b []
keeps_none None b p = tt
keeps_none (Some us) None p = absurd p
keeps_none (Some us) (Some bs) p = sym p

pub gave_none : (a : Option (List ℕ)) (n : ℕ) → Gave a a n n []
gave_none a n = record { consumed = consumes_none a; count = omega arith }

pub gave_more : (a b c : Option (List ℕ)) (k m n : ℕ) (xs ys : List ℕ) → Gave a b k m xs → Gave b c m n ys → Gave a c k n (xs ++ ys)
gave_more a b c k m n xs ys p q = record { consumed = consumes_more a b c xs ys p.consumed q.consumed; count = let first = p.count in let second = q.count in let long = length-append xs ys in omega arith }
