-- Each session has as many answers as commands.
use Rattle.std.proofs.Common.{◌≡◌, ◌∙◌, ap, refl, subst, ℕ, suc, ◌<◌, List, [], ◌∷◌, length, map, get_or, Option, Some, None, arith}
use Rattle.std.specs.Prelude.{IfSome}
use Rattle.std.proofs.Math.ListN.{get_or-map}
use Rattle.plain_cord.specs.declared.script.Session.{Session}
use Rattle.cord_commands.specs.declared.answer.Answer.{Answer}

pub some-weaker : {A : Type 0} (o : Option A) (P Q : A → Type 0) → ((x : A) → P x → Q x) → IfSome o P → IfSome o Q
some-weaker None P Q f p = tt
some-weaker (Some x) P Q f p = f x p

-- where all are there, so is each
pub all-there : {A : Type 0} (found : List (Option A)) (all : List A) → found ≡ map (λ a. Some a) all → (p : ℕ) (a : A) → get_or found p (Some a) ≡ Some (get_or all p a)
all-there found all is p a = ap (λ z. get_or z p (Some a)) is ∙ get_or-map (λ b. Some b) all p a

module _ {A : Type 0} (items : A → List Answer) where
  pub all-answered : (sessions : List Session) (found : List (Option A)) (all : List A) → found ≡ map (λ a. Some a) all → length found ≡ length sessions
      → ((p : ℕ) (s : Session) (o : Option A) → p < length sessions → IfSome (get_or found p o) (λ a. length (items a) ≡ length (get_or sessions p s).commands))
      → map length (map items all) ≡ map (λ (s : Session). length s.commands) sessions
  all-answered [] found [] is even each = refl
  all-answered [] found (a ∷ all) is even each = let n = ap length is in absurd (omega arith)
  all-answered (s ∷ sessions) found [] is even each = let n = ap length is in absurd (omega arith)
  all-answered (s ∷ sessions) found (a ∷ all) is even each =
      let there : (p : ℕ) (t : Session) (o : Option A) → p < length (s ∷ sessions) → IfSome (get_or (Some a ∷ map (λ b. Some b) all) p o) (λ b. length (items b) ≡ length (get_or (s ∷ sessions) p t).commands) =
      λ p t o low. subst (λ (z : List (Option A)). IfSome (get_or z p o) (λ b. length (items b) ≡ length (get_or (s ∷ sessions) p t).commands)) is (each p t o low) in
      let first : length (items a) ≡ length s.commands = there 0 s None (omega arith) in
      let size : length (map (λ b. Some b) all) ≡ length sessions = (let n = ap length is in omega arith) in
      let rest = all-answered sessions (map (λ b. Some b) all) all refl size (λ p t o low. there (suc p) t o (omega arith)) in
      λ i. first i ∷ rest i
