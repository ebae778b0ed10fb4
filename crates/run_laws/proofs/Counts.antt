-- A run has no more lines than its script has commands, and its history no more entries than it has lines.
use Rattle.std.proofs.Common.{◌≡◌, ◌∙◌, sym, ap, subst, refl, ℕ, zero, suc, ◌+◌, ◌<◌, ◌≤◌, ◌⊎◌, inl, inr, ⊎_elim, ltb-true, ltb-false, nat_lt, Bool, true, false, cond, List, [], ◌∷◌, length, get_or, arith, eqb-true, ◌==◌, Option, Some, None, length-append, option_map, ne_eqb}
use Rattle.std.proofs.lemmas.Bool.{cond_both}
use Rattle.plain_cord.specs.declared.script.Command.{Command}
use Rattle.plain_cord.specs.declared.script.Command.TheVariants as commands
use Rattle.plain_cord.specs.declared.script.Session.{Session}
use Rattle.plain_cord.specs.declared.reply.Reply.{Reply}
use Rattle.plain_cord.specs.declared.reply.Book.{Book}
use Rattle.plain_cord.specs.declared.history.Entry.{Entry}
use Rattle.plain_cord.specs.States.{CordState}
use Rattle.plain_cord.specs.Outcomes.{Outcome, outcome}
use Rattle.plain_cord.specs.Effects.{SessionState, Cells, Effect, effect, apart, with_own}
use Rattle.plain_cord.specs.RunOrders.{Line, acts, upto, beyond, tagged, replaced, rest_of, run_order, lines, commands_of, replies_of, lines_at}
use Rattle.plain_cord.specs.Runs.{Plays}
use Rattle.script_reader.specs.ScriptSpelling.{commands_in}

-- ---- entries

IsFew : Option Effect → Type 0
IsFew None = Unit {0}
IsFew (Some e) = length e.entries ≤ 1

few-apart : (state : SessionState) (cells : Cells) (o : Option Outcome) → IsFew (option_map (apart state cells) o)
unfolding IsFew
few-apart state cells None = tt
few-apart state cells (Some o) = omega arith

few-own : (state : SessionState) (cells : Cells) (a : List ℕ) (o : Option CordState) (go : CordState → Effect) → ((cord : CordState) → IsFew (Some (go cord))) → IsFew (Some (with_own state cells a o go))
unfolding IsFew
few-own state cells a None go few = omega arith
few-own state cells a (Some cord) go few = few cord

few-effect : (p : ℕ) (state : SessionState) (cells : Cells) (command : Command) → IsFew (effect p state cells command)
unfolding IsFew
few-effect p state cells (commands.Put a cell) = few-own state cells a (state.names a) _ (λ cord. omega arith)
few-effect p state cells (commands.Take cell a) = omega arith
few-effect p state cells (commands.Peek cell a) = omega arith
few-effect p state cells (commands.Swap a cell) = few-own state cells a (state.names a) _ (λ cord. omega arith)
few-effect p state cells command = few-apart state cells (outcome state.names command)

pub plays-few : (xs : List (ℕ × Line)) (states : ℕ → SessionState) (cells : Cells) (history : List Entry) → Plays states cells xs history → length history ≤ length xs
unfolding IsFew
plays-few [] states cells history plays = omega (arith, ap length plays)
plays-few (x ∷ xs) states cells history plays =
    let e = plays.0 in
    let more = plays.3 in
    let few : length e.entries ≤ 1 = subst IsFew plays.1 (few-effect x.0 (states x.0) cells x.1.0) in
    let on = plays-few xs (replaced states x.0 e.state) e.cells more.0 more.2 in
    omega (arith, ap length more.1, length-append e.entries more.0)

-- ---- lines

-- how many lines n sessions have, from the session k on
total : ℕ → ℕ → (ℕ → List Line) → ℕ
total zero k f = 0
total (suc n) k f = length (f k) + total n (suc k) f

length-tagged : (p : ℕ) (xs : List Line) → length (tagged p xs) ≡ length xs
length-tagged p [] = refl
length-tagged p (x ∷ xs) = ap suc (length-tagged p xs)

rest-total : (n k : ℕ) (f : ℕ → List Line) → length (rest_of n k f) ≡ total n k f
unfolding total
rest-total zero k f = refl
rest-total (suc n) k f = omega (arith, length-append (tagged k (f k)) (rest_of n (suc k) f), length-tagged k (f k), rest-total n (suc k) f)

-- a session that isn't among them may change
same-total : (n k : ℕ) (f : ℕ → List Line) (s : ℕ) (xs : List Line) → (s < k) ⊎ (k + n ≤ s) → total n k (replaced f s xs) ≡ total n k f
unfolding total
same-total zero k f s xs out = refl
same-total (suc n) k f s xs (inl below) =
    let other : replaced f s xs k ≡ f k = ap (λ b. cond b xs (f k)) (ne_eqb k s (λ e. omega arith)) in
    omega (arith, ap length other, same-total n (suc k) f s xs (inl (omega arith)))
same-total (suc n) k f s xs (inr above) =
    let other : replaced f s xs k ≡ f k = ap (λ b. cond b xs (f k)) (ne_eqb k s (λ e. omega arith)) in
    omega (arith, ap length other, same-total n (suc k) f s xs (inr (omega arith)))

parts-length : (xs : List Line) → length (upto xs) + length (beyond xs) ≡ length xs
parts-length [] = refl
parts-length (x ∷ xs) = first (acts x.0 x.1) (parts-length xs)
  where
    first : (b : Bool) → length (upto xs) + length (beyond xs) ≡ length xs → length (cond b (x ∷ []) (x ∷ upto xs)) + length (cond b xs (beyond xs)) ≡ length (x ∷ xs)
    first true h = omega arith
    first false h = omega arith

after : (k s : ℕ) → k ≤ s → (k == s) ≡ false → suc k ≤ s
after k s above other = grind arith

order : (s n : ℕ) → (s < n) ⊎ (n ≤ s)
order s n = cond_both (nat_lt s n) true false (λ _. (s < n) ⊎ (n ≤ s)) (λ yes. inl (omega (arith, ltb-true s n yes))) (λ no. inr (omega (arith, ltb-false s n no)))

less-total : (n k : ℕ) (f : ℕ → List Line) (s : ℕ) → k ≤ s → s < k + n → length (upto (f s)) + total n k (replaced f s (beyond (f s))) ≤ total n k f
unfolding total
less-total zero k f s above below = absurd (omega arith)
less-total (suc n) k f s above below = first (k == s) refl (λ past. less-total n (suc k) f s past (omega arith))
  where
    first : (b : Bool) → (k == s) ≡ b → (suc k ≤ s → length (upto (f s)) + total n (suc k) (replaced f s (beyond (f s))) ≤ total n (suc k) f)
        → length (upto (f s)) + (length (replaced f s (beyond (f s)) k) + total n (suc k) (replaced f s (beyond (f s)))) ≤ length (f k) + total n (suc k) f
    first true same on =
        let e : k ≡ s = eqb-true k s same in
        let now : replaced f s (beyond (f s)) k ≡ beyond (f s) = ap (λ b. cond b (beyond (f s)) (f k)) same in
        omega (arith, ap length now, ap (λ p. length (f p)) e, parts-length (f s), same-total n (suc k) f s (beyond (f s)) (inl (omega arith)))
    first false other on =
        let now : replaced f s (beyond (f s)) k ≡ f k = ap (λ b. cond b (beyond (f s)) (f k)) other in
        omega (arith, ap length now, on (after k s above other))

-- the order of a run has no more lines than its n sessions, where no other session has any
order-total : (history : List Entry) (n : ℕ) (f : ℕ → List Line) → ((p : ℕ) → n ≤ p → f p ≡ []) → length (run_order n f history) ≤ total n 0 f
order-total [] n f none = omega (arith, rest-total n 0 f)
order-total (e ∷ es) n f none =
    let s : ℕ = e.session in
    let g = replaced f s (beyond (f s)) in
    let still : (p : ℕ) → n ≤ p → g p ≡ [] = λ p past. cond_both (p == s) (beyond (f s)) (f p) (λ xs. xs ≡ []) (λ same. ap beyond (ap f (sym (eqb-true p s same)) ∙ none p past)) (λ other. none p past) in
    let on = order-total es n g still in
    let here : length (upto (f s)) + total n 0 g ≤ total n 0 f = one s in
    omega (arith, length-append (tagged s (upto (f s))) (run_order n g es), length-tagged s (upto (f s)), on, here)
  where
    one : (s : ℕ) → length (upto (f s)) + total n 0 (replaced f s (beyond (f s))) ≤ total n 0 f
    one s = ⊎_elim (λ (below : s < n). less-total n 0 f s (omega arith) (omega arith))
        (λ (past : n ≤ s). omega (arith, ap (λ xs. length (upto xs)) (none s past), same-total n 0 f s (beyond (f s)) (inr (omega arith)))) (order s n)

lines-few : (said : List Command) (replies : List Reply) → length (lines said replies) ≤ length said
lines-few [] replies = omega arith
lines-few (command ∷ said) [] = omega arith
lines-few (command ∷ said) (reply ∷ replies) = omega (arith, lines-few said replies)

total-few : (sessions : List Session) (k : ℕ) (f : ℕ → List Line) → ((i : ℕ) → length (f (i + k)) ≤ length (get_or (commands_of sessions) i [])) → total (length sessions) k f ≤ commands_in sessions
unfolding total
total-few [] k f few = omega arith
total-few (session ∷ sessions) k f few =
    let first : length (f k) ≤ length session.commands = subst (λ (q : ℕ). length (f q) ≤ length session.commands) (omega arith) (few 0) in
    let on = total-few sessions (suc k) f (λ i. subst (λ (q : ℕ). length (f q) ≤ length (get_or (commands_of sessions) i [])) (omega arith) (few (suc i))) in
    omega arith

none-past : (sessions : List Session) (books : List Book) (p : ℕ) → length sessions ≤ p → lines_at sessions books p ≡ []
none-past sessions books p past = first sessions (replies_of books) p past
  where
    first : (sessions : List Session) (replies : List (List Reply)) (p : ℕ) → length sessions ≤ p → lines (get_or (commands_of sessions) p []) (get_or replies p []) ≡ []
    first [] replies p past = refl
    first (session ∷ sessions) replies zero past = absurd (omega arith)
    first (session ∷ sessions) [] (suc p) past = first sessions [] p (omega arith)
    first (session ∷ sessions) (r ∷ replies) (suc p) past = first sessions replies p (omega arith)

pub order-few : (sessions : List Session) (books : List Book) (history : List Entry) → length (run_order (length sessions) (lines_at sessions books) history) ≤ commands_in sessions
order-few sessions books history =
    let few = order-total history (length sessions) (lines_at sessions books) (none-past sessions books) in
    let all = total-few sessions 0 (lines_at sessions books) (λ i. subst (λ (q : ℕ). length (lines_at sessions books q) ≤ length (get_or (commands_of sessions) i [])) (omega arith) (lines-few (get_or (commands_of sessions) i []) (get_or (replies_of books) i []))) in
    omega arith
