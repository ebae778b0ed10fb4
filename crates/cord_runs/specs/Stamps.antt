-- The stamps of the new records that answers tell.
use Rattle.std.specs.Prelude.{ℕ, ◌≢◌, nat_eq, if◌then◌else◌, List, [], ◌∷◌, flat_map, All}
use Rattle.plain_cord.specs.declared.reply.NewMark.{NewMark}
use Rattle.plain_cord.specs.declared.reply.NewMark.TheVariants as marks
use Rattle.plain_cord.specs.declared.reply.Reply.TheVariants as replies
use Rattle.cord_steps.specs.Answers.{Answer, Told}

-- a record is new where it had no change yet
abbrev pub stamps_of_mark : NewMark → List ℕ
stamps_of_mark (marks.Noted stamp update size) = if nat_eq update 0 then stamp ∷ [] else []
stamps_of_mark _ = []

abbrev pub stamps_of : {Report : Type 0} → Answer Report → List ℕ
stamps_of (Told (replies.Done mark _)) = stamps_of_mark mark
stamps_of _ = []

abbrev pub stamps_in : {Report : Type 0} → List (List (Answer Report)) → List ℕ
stamps_in books = flat_map (λ book. flat_map stamps_of book) books

abbrev pub AreDifferent : List ℕ → Type 0
AreDifferent [] = Unit {0}
AreDifferent (n ∷ ns) = All (λ m. n ≢ m) ns × AreDifferent ns
