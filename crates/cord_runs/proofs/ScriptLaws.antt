-- What a book tells of a run over trees.
use Rattle.std.proofs.Common.{◌≡◌, ◌∙◌, sym, ap, subst, refl, ℕ, zero, suc, ◌<◌, ◌≤◌, List, [], ◌∷◌, map, length}
use Rattle.std.specs.List.{AllByRecursion}
use Rattle.std.specs.Prelude.{slice_index_or, Contains}
use Rattle.plain_cord.specs.declared.script.Script.{Script}
use Rattle.plain_cord.specs.declared.reply.Book.{Book}
use Rattle.plain_cord.specs.declared.reply.Reply.{Reply}
use Rattle.plain_cord.specs.declared.reply.Reply.TheVariants as replies
use Rattle.plain_cord.specs.declared.reply.Report.{Report}
use Rattle.plain_cord.specs.declared.history.Entry.{Entry}
use Rattle.plain_cord.specs.Deeds.{empty_cells}
use Rattle.plain_cord.specs.RunOrders.{replaced, replies_of}
use Rattle.cord_steps.specs.Answers.{Request, Answer, Cords, Pool}
use Rattle.cord_steps.specs.Replies.{answer_of, reply_of}
use Rattle.cord_steps.specs.Causes.{ShowsCause}
use Rattle.cord_steps.specs.Runs.{Line, new_session, Plays}
use Rattle.cord_steps.specs.Sessions.{Options, Session, Cells, Effect}
use Rattle.cord_steps.specs.Steps.{IsStep}
use Rattle.cord_runs.specs.Orders.{run_order}
use Rattle.cord_runs.specs.Runs.{acts, lines_at, IsRun}
use Rattle.cord_runs.specs.Scripts.{options_of, requests_of, boxes_of, answers_in, IsTreeRun}
use Rattle.cord_runs.proofs.OrderLaws.{Tagged, of-book, of-contained}

abbrev pub AllTell : Type 0
AllTell = (options : Options) (p : ℕ) (s : Session) (cells : Cells) (request : Request) (answer : Answer Report) (e : Effect) → IsStep options p s cells request answer e → answer ≡ answer_of (reply_of answer)

-- the reply by which it is told tells it
abbrev pub Tells : Answer Report → Type 0
Tells answer = answer ≡ answer_of (reply_of answer)

module _ (tell : AllTell) (options : Options) where
  played-tell : (xs : List (ℕ × Line Report)) (states : ℕ → Session) (cells : Cells) (history : List Entry) → Plays options states cells xs history → AllByRecursion (Tagged (λ (x : Line Report). Tells x.1)) xs
  played-tell [] states cells history plays = tt
  played-tell (x ∷ xs) states cells history plays =
      let go = plays.2 in
      (tell options x.0 (states x.0) cells x.1.0 x.1.1 plays.0 plays.1, played-tell xs (replaced states x.0 plays.0.state) plays.0.cells go.0 go.2)

  book-tells : (boxes : ℕ → ℕ) (sessions : List (List Request)) (books : List (List (Answer Report))) (history : List Entry) → IsRun options boxes sessions books history → (p : ℕ) → AllByRecursion Tells (slice_index_or books p [])
  book-tells boxes sessions books history run p =
      of-book Tells sessions books history run.answered (played-tell (run_order acts (length sessions) (lines_at sessions books) history) (λ q. new_session (boxes q)) empty_cells history run.plays) p

  pub run-tells : (boxes : ℕ → ℕ) (sessions : List (List Request)) (books : List (List (Answer Report))) (history : List Entry) (p : ℕ) (answer : Answer Report) → IsRun options boxes sessions books history → Contains (slice_index_or books p []) answer → answer ≡ answer_of (reply_of answer)
  run-tells boxes sessions books history p answer run contains = of-contained Tells (slice_index_or books p []) (book-tells boxes sessions books history run p) answer contains

-- ---- the books are the replies by which the answers are told
first : {X : Type 0} {x y : X} {xs ys : List X} → x ∷ xs ≡ y ∷ ys → x ≡ y
first e = cc

second : {X : Type 0} {x y : X} {xs ys : List X} → x ∷ xs ≡ y ∷ ys → xs ≡ ys
second e = cc

index-map : {X Y : Type 0} (f : X → Y) (xs : List X) (k : ℕ) (d : X) → slice_index_or (map f xs) k (f d) ≡ f (slice_index_or xs k d)
index-map f [] k d = refl
index-map f (x ∷ xs) zero d = refl
index-map f (x ∷ xs) (suc k) d = index-map f xs k d

long-map : {X Y : Type 0} (f : X → Y) (xs : List X) → length (map f xs) ≡ length xs
long-map f [] = refl
long-map f (x ∷ xs) = ap suc (long-map f xs)

in-map : {X Y : Type 0} (f : X → Y) (xs : List X) (x : X) → Contains xs x → Contains (map f xs) (f x)
in-map f xs x contains =
    let k : ℕ = contains.0 in
    (k, subst (λ (n : ℕ). k < n) (sym (long-map f xs)) contains.1, index-map f xs k x ∙ ap f contains.2)

book-told : (answers : List (Answer Report)) (rs : List Reply) → AllByRecursion Tells answers → map reply_of answers ≡ rs → answers ≡ map answer_of rs
book-told [] [] tells same = refl
book-told [] (r ∷ rs) tells same = absurd (cc)
book-told (a ∷ answers) [] tells same = absurd (cc)
book-told (a ∷ answers) (r ∷ rs) tells same = λ i. (tells.0 ∙ ap answer_of (first same)) i ∷ book-told answers rs tells.1 (second same) i

books-told : (answers : List (List (Answer Report))) (books : List Book) → ((p : ℕ) → AllByRecursion Tells (slice_index_or answers p [])) → map (λ rs. map reply_of rs) answers ≡ map (λ book. book.replies) books → answers ≡ answers_in books
books-told [] [] tells same = refl
books-told [] (b ∷ books) tells same = absurd (cc)
books-told (a ∷ answers) [] tells same = absurd (cc)
books-told (a ∷ answers) (b ∷ books) tells same = λ i. book-told a b.replies (tells 0) (first same) i ∷ books-told answers books (λ p. tells (suc p)) (second same) i

-- what a book contains, its answers contain
at-book : (books : List Book) (p : ℕ) → slice_index_or (answers_in books) p [] ≡ map answer_of (slice_index_or (replies_of books) p [])
at-book [] p = refl
at-book (book ∷ books) zero = refl
at-book (book ∷ books) (suc p) = at-book books p

pub in-answers : (books : List Book) (p : ℕ) (reply : Reply) → Contains (slice_index_or (replies_of books) p []) reply → Contains (slice_index_or (answers_in books) p []) (answer_of reply)
in-answers books p reply contains = subst (λ (rs : List (Answer Report)). Contains rs (answer_of reply)) (sym (at-book books p)) (in-map answer_of (slice_index_or (replies_of books) p []) reply contains)

pub told-run : AllTell → (script : Script) (boxes : ℕ) (books : List Book) (answers : List (List (Answer Report))) (history : List Entry) → IsRun (options_of script) (boxes_of boxes) (requests_of script) answers history
    → map (λ rs. map reply_of rs) answers ≡ map (λ book. book.replies) books → IsTreeRun script boxes books history
told-run tell script boxes books answers history run same = record {
  run = subst (λ (rs : List (List (Answer Report))). IsRun (options_of script) (boxes_of boxes) (requests_of script) rs history)
      (books-told answers books (book-tells tell (options_of script) (boxes_of boxes) (requests_of script) answers history run) same) run;
}

abbrev pub AllCaused : Type 0 → Type 0
AllCaused R = (options : Options) (boxes : ℕ → ℕ) (sessions : List (List Request)) (books : List (List (Answer R))) (history : List Entry) (p : ℕ) (answer : Answer R) → IsRun options boxes sessions books history → Contains (slice_index_or books p []) answer → ShowsCause options answer

module _ (caused : AllCaused Report) (script : Script) (boxes : ℕ) (books : List Book) (history : List Entry) (p n : ℕ) (ran : IsTreeRun script boxes books history) where
  pub cords-caused : Contains (slice_index_or (replies_of books) p []) (replies.Cords n) → script.passes ≤ n
  cords-caused contains = caused (options_of script) (boxes_of boxes) (requests_of script) (answers_in books) history p (Cords n) ran.run (in-answers books p (replies.Cords n) contains)

  pub pool-caused : Contains (slice_index_or (replies_of books) p []) (replies.Pool n) → n ≡ script.pool
  pool-caused contains = caused (options_of script) (boxes_of boxes) (requests_of script) (answers_in books) history p (Pool n) ran.run (in-answers books p (replies.Pool n) contains)
