-- The lines of a run: their commands and answers, and each session's own in the order of the run.
use Rattle.std.proofs.Common.{◌≡◌, ◌≢◌, ◌∙◌, sym, ap, subst, refl, ℕ, zero, suc, ◌+◌, ◌<◌, ◌≤◌, List, [], ◌∷◌, ◌++◌, map, length, cond, Bool, true, false, Some, arith, eq-eqb, ne_eqb, ⊎_elim}
use Rattle.std.specs.Prelude.{slice_get, slice_index_or}
use Rattle.std.proofs.lemmas.List.{length-map}
use Rattle.std.proofs.lemmas.Bool.{cases_lt}
use mathlib.Core.Logic.{dite}
use native.Mathlib.Decide.{ℕ_discrete}
use Rattle.plain_cord.specs.declared.script.Command.{Command}
use Rattle.plain_cord.specs.declared.script.Session.{Session}
use Rattle.plain_cord.specs.declared.reply.Reply.{Reply}
use Rattle.plain_cord.specs.declared.reply.Book.{Book}
use Rattle.plain_cord.specs.declared.history.Entry.{Entry}
use Rattle.plain_cord.specs.RunOrders.{Line, acts, upto, beyond, tagged, replaced, rest_of, run_order, lines, commands_of, replies_of, lines_at}
use Rattle.plain_laws.specs.Lines.{lines_of}

-- the commands of some lines
abbrev pub asked : List Line → List Command
asked xs = map (λ x. x.0) xs

-- their answers
abbrev pub answers : List Line → List Reply
answers xs = map (λ x. x.1) xs

pub replaced-here : {X : Type 0} (f : ℕ → X) (p q : ℕ) (x : X) → q ≡ p → replaced f p x q ≡ x
replaced-here f p q x here = ap (λ b. cond b x (f q)) (eq-eqb q p here)

pub replaced-other : {X : Type 0} (f : ℕ → X) (p q : ℕ) (x : X) → q ≢ p → replaced f p x q ≡ f q
replaced-other f p q x elsewhere = ap (λ b. cond b x (f q)) (ne_eqb q p elsewhere)

joined : (x : Line) (xs : List Line) (b : Bool) → upto xs ++ beyond xs ≡ xs → cond b (x ∷ []) (x ∷ upto xs) ++ cond b xs (beyond xs) ≡ x ∷ xs
joined x xs true parts = refl
joined x xs false parts = ap (λ (ls : List Line). x ∷ ls) parts

pub upto-beyond : (xs : List Line) → upto xs ++ beyond xs ≡ xs
upto-beyond [] = refl
upto-beyond (x ∷ xs) = joined x xs (acts x.0 x.1) (upto-beyond xs)

-- lines tell their commands and answers, where there are as many
pub lines-asked : (cs : List Command) (rs : List Reply) → length rs ≡ length cs → asked (lines cs rs) ≡ cs
lines-asked [] rs same = refl
lines-asked (c ∷ cs) [] same = absurd (cc)
lines-asked (c ∷ cs) (r ∷ rs) same = ap (λ (z : List Command). c ∷ z) (lines-asked cs rs (cc))

pub lines-answers : (cs : List Command) (rs : List Reply) → length rs ≡ length cs → answers (lines cs rs) ≡ rs
lines-answers [] [] same = refl
lines-answers [] (r ∷ rs) same = absurd (cc)
lines-answers (c ∷ cs) [] same = absurd (cc)
lines-answers (c ∷ cs) (r ∷ rs) same = ap (λ (z : List Reply). r ∷ z) (lines-answers cs rs (cc))

-- each session has as many answers as commands
pub as-many : (sessions : List Session) (books : List Book) → map length (replies_of books) ≡ map length (commands_of sessions) → (p : ℕ) → length (slice_index_or (replies_of books) p []) ≡ length (slice_index_or (commands_of sessions) p [])
as-many [] [] same p = refl
as-many [] (book ∷ books) same p = absurd (cc)
as-many (session ∷ sessions) [] same p = absurd (cc)
as-many (session ∷ sessions) (book ∷ books) same zero = cc
as-many (session ∷ sessions) (book ∷ books) same (suc p) = as-many sessions books (cc) p

lines_of-own : (p : ℕ) (xs : List Line) (ys : List (ℕ × Line)) → lines_of p (tagged p xs ++ ys) ≡ xs ++ lines_of p ys
lines_of-own p [] ys = refl
lines_of-own p (x ∷ xs) ys = ap (λ b. cond b (x ∷ lines_of p (tagged p xs ++ ys)) (lines_of p (tagged p xs ++ ys))) (eq-eqb p p refl) ∙ ap (λ (ls : List Line). x ∷ ls) (lines_of-own p xs ys)

lines_of-other : (p q : ℕ) (xs : List Line) (ys : List (ℕ × Line)) → p ≢ q → lines_of p (tagged q xs ++ ys) ≡ lines_of p ys
lines_of-other p q [] ys other = refl
lines_of-other p q (x ∷ xs) ys other = ap (λ b. cond b (x ∷ lines_of p (tagged q xs ++ ys)) (lines_of p (tagged q xs ++ ys))) (ne_eqb p q other) ∙ lines_of-other p q xs ys other

lines_of-before : (p n k : ℕ) (f : ℕ → List Line) → p < k → lines_of p (rest_of n k f) ≡ []
lines_of-before p zero k f below = refl
lines_of-before p (suc n) k f below = lines_of-other p k (f k) (rest_of n (suc k) f) (λ same. omega arith) ∙ lines_of-before p n (suc k) f (omega arith)

append_none : (xs ys : List Line) → ys ≡ [] → xs ++ ys ≡ xs
append_none [] ys none = none
append_none (x ∷ xs) ys none = ap (λ (ls : List Line). x ∷ ls) (append_none xs ys none)

lines_of-rest : (p n k : ℕ) (f : ℕ → List Line) → k ≤ p → p < k + n → lines_of p (rest_of n k f) ≡ f p
lines_of-rest p zero k f above below = absurd (omega arith)
lines_of-rest p (suc n) k f above below = dite (ℕ_discrete p k)
    (λ here. subst (λ (q : ℕ). lines_of p (tagged q (f q) ++ rest_of n (suc k) f) ≡ f p) here
    (lines_of-own p (f p) (rest_of n (suc k) f) ∙ append_none (f p) (lines_of p (rest_of n (suc k) f)) (lines_of-before p n (suc k) f (omega arith))))
    (λ other. lines_of-other p k (f k) (rest_of n (suc k) f) other ∙ lines_of-rest p n (suc k) f (omega arith) (omega arith))

-- the order of a run has the lines of each session, in their order
pub lines_of-order : (history : List Entry) (p n : ℕ) (f : ℕ → List Line) → p < n → lines_of p (run_order n f history) ≡ f p
lines_of-order [] p n f below = lines_of-rest p n 0 f (omega arith) (omega arith)
lines_of-order (e ∷ history) p n f below =
    let q : ℕ = e.session in
    let later : ℕ → List Line = replaced f q (beyond (f q)) in
    let rest : lines_of p (run_order n later history) ≡ later p = lines_of-order history p n later below in
    dite (ℕ_discrete p q)
    (λ here. subst (λ (r : ℕ). lines_of p (tagged r (upto (f q)) ++ run_order n later history) ≡ f p) here
    (lines_of-own p (upto (f q)) (run_order n later history) ∙ (ap (λ (ls : List Line). upto (f q) ++ ls) (rest ∙ replaced-here f q p (beyond (f q)) here) ∙ (upto-beyond (f q) ∙ ap f (sym here)))))
    (λ other. lines_of-other p q (upto (f q)) (run_order n later history) other ∙ (rest ∙ replaced-other f q p (beyond (f q)) other))

-- a session that isn't one of the n has no line
lines_of-none : (history : List Entry) (p n : ℕ) (f : ℕ → List Line) → n ≤ p → f p ≡ [] → lines_of p (run_order n f history) ≡ []
lines_of-none [] p n f beyond_all none = past n 0 (omega arith)
  where
    past : (m k : ℕ) → k + m ≤ p → lines_of p (rest_of m k f) ≡ []
    past zero k above = refl
    past (suc m) k above = lines_of-other p k (f k) (rest_of m (suc k) f) (λ same. omega arith) ∙ past m (suc k) (omega arith)
lines_of-none (e ∷ history) p n f beyond_all none =
    let q : ℕ = e.session in
    let later : ℕ → List Line = replaced f q (beyond (f q)) in
    dite (ℕ_discrete p q)
    (λ here.
    let still : f q ≡ [] = ap f (sym here) ∙ none in
    let rest : lines_of p (run_order n later history) ≡ [] = lines_of-none history p n later beyond_all (replaced-here f q p (beyond (f q)) here ∙ ap beyond still) in
    ap (λ (ls : List Line). lines_of p (tagged q (upto ls) ++ run_order n later history)) still ∙ rest)
    (λ other. lines_of-other p q (upto (f q)) (run_order n later history) other ∙ lines_of-none history p n later beyond_all (replaced-other f q p (beyond (f q)) other ∙ none))

-- where a session and its book stand, their lines stand
index-map : {X Y : Type 0} (f : X → Y) (xs : List X) (p : ℕ) (x : X) (d : Y) → slice_get xs p ≡ Some x → slice_index_or (map f xs) p d ≡ f x
index-map f [] p x d at = absurd (cc)
index-map f (y ∷ xs) zero x d at = ap f (let same : Some y ≡ Some x = at in cc)
index-map f (y ∷ xs) (suc p) x d at = index-map f xs p x d at

pub lines_at-are : (sessions : List Session) (books : List Book) (p : ℕ) (session : Session) (book : Book) → slice_get sessions p ≡ Some session → slice_get books p ≡ Some book → lines_at sessions books p ≡ lines session.commands book.replies
lines_at-are sessions books p session book one other =
    let said : slice_index_or (commands_of sessions) p [] ≡ session.commands = index-map (λ (s : Session). s.commands) sessions p session [] one in
    let replied : slice_index_or (replies_of books) p [] ≡ book.replies = index-map (λ (b : Book). b.replies) books p book [] other in
    λ i. lines (said i) (replied i)

pub as-many-at : (sessions : List Session) (books : List Book) (p : ℕ) (session : Session) (book : Book) → map length (replies_of books) ≡ map length (commands_of sessions) → slice_get sessions p ≡ Some session → slice_get books p ≡ Some book → length book.replies ≡ length session.commands
as-many-at sessions books p session book same one other =
    ap length (sym (index-map (λ (b : Book). b.replies) books p book [] other)) ∙ (as-many sessions books same p ∙ ap length (index-map (λ (s : Session). s.commands) sessions p session [] one))

index-past : {X : Type 0} (xs : List X) (p : ℕ) (d : X) → length xs ≤ p → slice_index_or xs p d ≡ d
index-past [] p d past = refl
index-past (x ∷ xs) zero d past = absurd (omega arith)
index-past (x ∷ xs) (suc p) d past = index-past xs p d (omega arith)

no-lines-past : (sessions : List Session) (books : List Book) (p : ℕ) → length sessions ≤ p → lines_at sessions books p ≡ []
no-lines-past sessions books p past = ap (λ (cs : List Command). lines cs (slice_index_or (replies_of books) p [])) (index-past (commands_of sessions) p [] (simp length-map past))

pub each-line : (sessions : List Session) (books : List Book) (history : List Entry) (p : ℕ) → lines_of p (run_order (length sessions) (lines_at sessions books) history) ≡ lines_at sessions books p
each-line sessions books history p =
    let n : ℕ = length sessions in
    let f : ℕ → List Line = lines_at sessions books in
    ⊎_elim
    (λ (below : p < n). lines_of-order history p n f below)
    (λ (past : n ≤ p).
    let none : f p ≡ [] = no-lines-past sessions books p past in
    lines_of-none history p n f past none ∙ sym none)
    (cases_lt p n)
