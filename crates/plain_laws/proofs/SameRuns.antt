-- Two runs of the same commands in the order of one history: line by line each answer is the same.
use Rattle.std.proofs.Common.{◌≡◌, ◌∙◌, sym, ap, subst, refl, ℕ, zero, suc, ◌+◌, ◌<◌, ◌≤◌, List, [], ◌∷◌, ◌++◌, map, length, cond, Bool, true, false, Some, arith}
use Rattle.std.specs.Prelude.{slice_index_or}
use mathlib.Core.Logic.{dite}
use native.Mathlib.Decide.{ℕ_discrete}
use Rattle.plain_cord.specs.declared.script.Command.{Command}
use Rattle.plain_cord.specs.declared.script.Session.{Session}
use Rattle.plain_cord.specs.declared.reply.Reply.{Reply}
use Rattle.plain_cord.specs.declared.reply.Book.{Book}
use Rattle.plain_cord.specs.declared.history.Entry.{Entry}
use Rattle.plain_cord.specs.Effects.{SessionState, new_session, Cells, Effect, effect}
use Rattle.plain_cord.specs.Deeds.{empty_cells}
use Rattle.plain_cord.specs.RunOrders.{Line, acts, upto, beyond, tagged, replaced, rest_of, run_order, lines, commands_of, replies_of, lines_at}
use Rattle.plain_cord.specs.Runs.{Plays, IsPlainRun}
use Rattle.plain_laws.proofs.OrderedLines.{asked, answers, lines-asked, lines-answers, as-many, upto-beyond, replaced-here, replaced-other}

-- from one state both go on
abbrev BothPlay : List (ℕ × Line) → List (ℕ × Line) → Type 0
BothPlay xs ys = (states : ℕ → SessionState) × (cells : Cells) × (history : List Entry) × (other : List Entry) × Plays states cells xs history × Plays states cells ys other

-- one command from one state has one effect
same-line : (p : ℕ) (x y : Line) (states : ℕ → SessionState) (cells : Cells) (xs ys : List (ℕ × Line)) (history other : List Entry) → x.0 ≡ y.0
    → Plays states cells ((p, x) ∷ xs) history → Plays states cells ((p, y) ∷ ys) other → (x ≡ y) × BothPlay xs ys
same-line p x y states cells xs ys history other same one second =
    let effects : Some one.0 ≡ Some second.0 = sym one.1 ∙ (ap (λ (c : Command). effect p (states p) cells c) same ∙ second.1) in
    let effect_is : one.0 ≡ second.0 = cc in
    let answer : x.1 ≡ y.1 = one.2 ∙ (ap (λ (e : Effect). e.reply) effect_is ∙ sym second.2) in
    (λ i. (same i, answer i), (replaced states p one.0.state, one.0.cells, one.3.0, second.3.0, one.3.2, subst (λ (e : Effect). Plays (replaced states p e.state) e.cells ys second.3.0) (sym effect_is) second.3.2))

-- all lines of a session
same-lines : (p : ℕ) (xs ys : List Line) (states : ℕ → SessionState) (cells : Cells) (more others : List (ℕ × Line)) (history other : List Entry) → asked xs ≡ asked ys
    → Plays states cells (tagged p xs ++ more) history → Plays states cells (tagged p ys ++ others) other → (xs ≡ ys) × BothPlay more others
same-lines p [] [] states cells more others history other same one second = (refl, (states, cells, history, other, one, second))
same-lines p [] (y ∷ ys) states cells more others history other same one second = absurd (cc)
same-lines p (x ∷ xs) [] states cells more others history other same one second = absurd (cc)
same-lines p (x ∷ xs) (y ∷ ys) states cells more others history other same one second =
    let first : x.0 ≡ y.0 = cc in
    let behind : asked xs ≡ asked ys = cc in
    let line = same-line p x y states cells (tagged p xs ++ more) (tagged p ys ++ others) history other first one second in
    let b = line.1 in
    let rest = same-lines p xs ys b.0 b.1 more others b.2 b.3 behind b.4 b.5 in
    (ap (λ (l : Line). l ∷ xs) line.0 ∙ ap (λ (ls : List Line). y ∷ ls) rest.0, rest.1)

-- the lines up to the next action are the same, and so are the commands behind it
abbrev SameSegment : List Line → List Line → List (ℕ × Line) → List (ℕ × Line) → Type 0
SameSegment xs ys more others = (upto xs ≡ upto ys) × (asked (beyond xs) ≡ asked (beyond ys)) × BothPlay more others

first-line : (p : ℕ) (x : Line) (b : Bool) (xs : List Line) (states : ℕ → SessionState) (cells : Cells) (more : List (ℕ × Line)) (history : List Entry)
    → Plays states cells (tagged p (cond b (x ∷ []) (x ∷ upto xs)) ++ more) history → Plays states cells ((p, x) ∷ (tagged p (cond b [] (upto xs)) ++ more)) history
first-line p x true xs states cells more history plays = plays
first-line p x false xs states cells more history plays = plays

behind-first : (p : ℕ) (x : Line) (b : Bool) (xs ys : List Line) (more others : List (ℕ × Line)) → asked xs ≡ asked ys
    → ((states : ℕ → SessionState) (cells : Cells) (history other : List Entry) → Plays states cells (tagged p (upto xs) ++ more) history → Plays states cells (tagged p (upto ys) ++ others) other → SameSegment xs ys more others)
    → BothPlay (tagged p (cond b [] (upto xs)) ++ more) (tagged p (cond b [] (upto ys)) ++ others)
    → (cond b (x ∷ []) (x ∷ upto xs) ≡ cond b (x ∷ []) (x ∷ upto ys)) × (asked (cond b xs (beyond xs)) ≡ asked (cond b ys (beyond ys))) × BothPlay more others
behind-first p x true xs ys more others same later both = (refl, same, both)
behind-first p x false xs ys more others same later both =
    let rest = later both.0 both.1 both.2 both.3 both.4 both.5 in
    (ap (λ (ls : List Line). x ∷ ls) rest.0, rest.1, rest.2)

same-segment : (p : ℕ) (xs ys : List Line) (states : ℕ → SessionState) (cells : Cells) (more others : List (ℕ × Line)) (history other : List Entry) → asked xs ≡ asked ys
    → Plays states cells (tagged p (upto xs) ++ more) history → Plays states cells (tagged p (upto ys) ++ others) other → SameSegment xs ys more others
same-segment p [] [] states cells more others history other same one second = (refl, refl, (states, cells, history, other, one, second))
same-segment p [] (y ∷ ys) states cells more others history other same one second = absurd (cc)
same-segment p (x ∷ xs) [] states cells more others history other same one second = absurd (cc)
same-segment p (x ∷ xs) (y ∷ ys) states cells more others history other same one second =
    let first : x.0 ≡ y.0 = cc in
    let behind : asked xs ≡ asked ys = cc in
    let line = same-line p x y states cells (tagged p (cond (acts x.0 x.1) [] (upto xs)) ++ more) (tagged p (cond (acts y.0 y.1) [] (upto ys)) ++ others) history other first
    (first-line p x (acts x.0 x.1) xs states cells more history one) (first-line p y (acts y.0 y.1) ys states cells others other second) in
    subst (λ (z : Line). BothPlay (tagged p (cond (acts x.0 x.1) [] (upto xs)) ++ more) (tagged p (cond (acts z.0 z.1) [] (upto ys)) ++ others) → SameSegment (x ∷ xs) (z ∷ ys) more others) line.0
    (behind-first p x (acts x.0 x.1) xs ys more others behind (λ next now h o a b. same-segment p xs ys next now more others h o behind a b)) line.1

-- the rest of each of n sessions
same-rests : (n k : ℕ) (f g : ℕ → List Line) (states : ℕ → SessionState) (cells : Cells) (history other : List Entry) → ((p : ℕ) → asked (f p) ≡ asked (g p))
    → Plays states cells (rest_of n k f) history → Plays states cells (rest_of n k g) other → (p : ℕ) → k ≤ p → p < k + n → f p ≡ g p
same-rests zero k f g states cells history other same one second p above below = absurd (omega arith)
same-rests (suc n) k f g states cells history other same one second p above below =
    let whole = same-lines k (f k) (g k) states cells (rest_of n (suc k) f) (rest_of n (suc k) g) history other (same k) one second in
    let b = whole.1 in
    dite (ℕ_discrete p k)
    (λ here. subst (λ (q : ℕ). f q ≡ g q) (sym here) whole.0)
    (λ elsewhere. same-rests n (suc k) f g b.0 b.1 b.2 b.3 same b.4 b.5 p (omega arith) (omega arith))

-- in the order of one history
same-orders : (order : List Entry) (n : ℕ) (f g : ℕ → List Line) (states : ℕ → SessionState) (cells : Cells) (history other : List Entry) → ((p : ℕ) → asked (f p) ≡ asked (g p))
    → Plays states cells (run_order n f order) history → Plays states cells (run_order n g order) other → (p : ℕ) → p < n → f p ≡ g p
same-orders [] n f g states cells history other same one second p below = same-rests n 0 f g states cells history other same one second p (omega arith) (omega arith)
same-orders (e ∷ order) n f g states cells history other same one second p below =
    let q : ℕ = e.session in
    let later : ℕ → List Line = replaced f q (beyond (f q)) in
    let next : ℕ → List Line = replaced g q (beyond (g q)) in
    let part = same-segment q (f q) (g q) states cells (run_order n later order) (run_order n next order) history other (same q) one second in
    let b = part.2 in
    let asks : (r : ℕ) → asked (later r) ≡ asked (next r) = λ r. dite (ℕ_discrete r q)
    (λ here. ap asked (replaced-here f q r (beyond (f q)) here) ∙ (part.1 ∙ ap asked (sym (replaced-here g q r (beyond (g q)) here))))
    (λ elsewhere. ap asked (replaced-other f q r (beyond (f q)) elsewhere) ∙ (same r ∙ ap asked (sym (replaced-other g q r (beyond (g q)) elsewhere)))) in
    let rest : later p ≡ next p = same-orders order n later next b.0 b.1 b.2 b.3 asks b.4 b.5 p below in
    dite (ℕ_discrete p q)
    (λ here.
    let behind : beyond (f q) ≡ beyond (g q) = sym (replaced-here f q p (beyond (f q)) here) ∙ (rest ∙ replaced-here g q p (beyond (g q)) here) in
    let joined : f q ≡ g q = sym (upto-beyond (f q)) ∙ ((λ i. part.0 i ++ behind i) ∙ upto-beyond (g q)) in
    subst (λ (r : ℕ). f r ≡ g r) (sym here) joined)
    (λ elsewhere. sym (replaced-other f q p (beyond (f q)) elsewhere) ∙ (rest ∙ replaced-other g q p (beyond (g q)) elsewhere))

same-answers : (sessions : List Session) (books others : List Book) → map length (replies_of books) ≡ map length (commands_of sessions) → map length (replies_of others) ≡ map length (commands_of sessions)
    → ((p : ℕ) → p < length sessions → lines_at sessions books p ≡ lines_at sessions others p) → books ≡ others
same-answers [] [] [] one second same = refl
same-answers [] [] (other ∷ others) one second same = absurd (cc)
same-answers [] (book ∷ books) others one second same = absurd (cc)
same-answers (session ∷ sessions) [] others one second same = absurd (cc)
same-answers (session ∷ sessions) (book ∷ books) [] one second same = absurd (cc)
same-answers (session ∷ sessions) (book ∷ books) (other ∷ others) one second same =
    let counted : length book.replies ≡ length session.commands = cc in
    let again : length other.replies ≡ length session.commands = cc in
    let first : lines session.commands book.replies ≡ lines session.commands other.replies = same 0 (omega arith) in
    let answers : book.replies ≡ other.replies = sym (lines-answers session.commands book.replies counted) ∙ (ap (λ (ls : List Line). answers ls) first ∙ lines-answers session.commands other.replies again) in
    let one_book : book ≡ other = ap (λ (r : List Reply). let b : Book = record { replies = r } in b) answers in
    ap (λ b. b ∷ books) one_book ∙ ap (λ bs. other ∷ bs) (same-answers sessions books others (cc) (cc) (λ p below. same (suc p) (omega arith)))

pub same-books : (sessions : List Session) (books others : List Book) (history : List Entry) → IsPlainRun sessions books history → IsPlainRun sessions others history → books ≡ others
same-books sessions books others history one second = same-answers sessions books others one.answered second.answered
    (same-orders history (length sessions) (lines_at sessions books) (lines_at sessions others) (λ p. new_session) empty_cells history history
    (λ p. lines-asked (slice_index_or (commands_of sessions) p []) (slice_index_or (replies_of books) p []) (as-many sessions books one.answered p)
    ∙ sym (lines-asked (slice_index_or (commands_of sessions) p []) (slice_index_or (replies_of others) p []) (as-many sessions others second.answered p))) one.plays second.plays)
