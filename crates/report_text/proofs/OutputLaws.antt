-- Books are known by what is printed of them, and the history and the pool stand behind them.
use Rattle.std.proofs.Common.{◌≡◌, ◌∙◌, sym, ap, ap₂, refl, ℕ, true, false, List, [], ◌∷◌, ◌++◌, map, length, arith, append_assoc}
use Rattle.std.proofs.lemmas.List.{append_cancel_left}
use Rattle.std.proofs.lemmas.List.Elements.{recursion_from_All}
use Rattle.std.specs.List.{All, AllByRecursion}
use Rattle.plain_cord.specs.declared.script.Session.{Session}
use Rattle.plain_cord.specs.declared.reply.Reply.{Reply}
use Rattle.plain_cord.specs.declared.reply.Reply.TheVariants as replies
use Rattle.plain_cord.specs.declared.reply.Book.{Book}
use Rattle.plain_cord.specs.declared.history.Entry.{Entry}
use Rattle.report_text.specs.Histories.{history_text, pool_line}
use Rattle.report_text.specs.Replies.{reply_text}
use Rattle.report_text.specs.Outputs.{reply_line, reply_lines, session_line, books_text, output_text}
use Rattle.report_text.specs.Readable.{IsReadableReply, IsInLineReply, AreInLine, AreReadable}
use Rattle.report_text.proofs.ReplyLaws.{reply_injective}
use Rattle.report_text.proofs.LineLaws.{reply_split, at_end, reply-no-end}

line-first : (reply : Reply) (replies : List Reply) (rest : List ℕ) → reply_lines (reply ∷ replies) ++ rest ≡ reply_text reply ++ 10 ∷ (reply_lines replies ++ rest)
line-first reply replies rest = append_assoc (reply_line reply) (reply_lines replies) rest ∙ append_assoc (reply_text reply) (10 ∷ []) (reply_lines replies ++ rest)

-- a line more is no end
line-no-end : (reply : Reply) (replies : List Reply) (rest others : List ℕ) → reply_lines (reply ∷ replies) ++ rest ≡ others → at_end others ≡ true → ⊥
line-no-end reply replies rest others e end =
    let no : at_end others ≡ false = ap at_end (sym e ∙ line-first reply replies rest) ∙ reply-no-end reply (10 ∷ (reply_lines replies ++ rest)) in
    let both : true ≡ false = sym end ∙ no in
    cc

-- the texts of answers up to the end of their session
lines_split : (xs ys : List Reply) (rest others : List ℕ) → AllByRecursion IsInLineReply xs → AllByRecursion IsInLineReply ys → at_end rest ≡ true → at_end others ≡ true → reply_lines xs ++ rest ≡ reply_lines ys ++ others → (map reply_text xs ≡ map reply_text ys) × (rest ≡ others)
lines_split [] [] rest others p q r o e = (refl, e)
lines_split [] (y ∷ ys) rest others p q r o e = absurd (line-no-end y ys others rest (sym e) r)
lines_split (x ∷ xs) [] rest others p q r o e = absurd (line-no-end x xs rest others e o)
lines_split (x ∷ xs) (y ∷ ys) rest others p q r o e =
    let texts = sym (line-first x xs rest) ∙ (e ∙ line-first y ys others) in
    let first = reply_split x y (reply_lines xs ++ rest) (reply_lines ys ++ others) p.0 q.0 texts in
    let split = lines_split xs ys rest others p.1 q.1 r o first.1 in
    (ap₂ (λ text texts. text ∷ texts) first.0 split.0, split.1)

-- the texts of a book's answers
abbrev texts_of : Book → List (List ℕ)
texts_of book = map reply_text book.replies

books-first : (session : Session) (sessions : List Session) (book : Book) (books : List Book) (rest : List ℕ) → books_text (session ∷ sessions) (book ∷ books) ++ rest ≡ session_line session.name ++ (reply_lines book.replies ++ (books_text sessions books ++ rest))
books-first session sessions book books rest = simp append_assoc

books-at-end : (sessions : List Session) (books : List Book) (rest : List ℕ) → length books ≡ length sessions → at_end rest ≡ true → at_end (books_text sessions books ++ rest) ≡ true
books-at-end [] [] rest e end = end
books-at-end [] (book ∷ books) rest e end = absurd (omega arith)
books-at-end (session ∷ sessions) [] rest e end = absurd (omega arith)
books-at-end (session ∷ sessions) (book ∷ books) rest e end = refl

abbrev IsInLineBook : Book → Type 0
IsInLineBook book = AllByRecursion IsInLineReply book.replies

-- the texts of books up to the end of theirs
books_split : (sessions : List Session) (books others : List Book) (rest later : List ℕ) → length books ≡ length sessions → length others ≡ length sessions → AllByRecursion IsInLineBook books → AllByRecursion IsInLineBook others → at_end rest ≡ true → at_end later ≡ true → books_text sessions books ++ rest ≡ books_text sessions others ++ later
    → (map texts_of books ≡ map texts_of others) × (rest ≡ later)
books_split [] [] [] rest later m n p q r o e = (refl, e)
books_split [] (book ∷ books) others rest later m n p q r o e = absurd (omega arith)
books_split [] [] (other ∷ others) rest later m n p q r o e = absurd (omega arith)
books_split (session ∷ sessions) [] others rest later m n p q r o e = absurd (omega arith)
books_split (session ∷ sessions) (book ∷ books) [] rest later m n p q r o e = absurd (omega arith)
books_split (session ∷ sessions) (book ∷ books) (other ∷ others) rest later m n p q r o e =
    let fewer : length books ≡ length sessions = omega arith in
    let less : length others ≡ length sessions = omega arith in
    let texts = append_cancel_left (session_line session.name) (reply_lines book.replies ++ (books_text sessions books ++ rest)) (reply_lines other.replies ++ (books_text sessions others ++ later))
    (sym (books-first session sessions book books rest) ∙ (e ∙ books-first session sessions other others later)) in
    let split = lines_split book.replies other.replies (books_text sessions books ++ rest) (books_text sessions others ++ later) p.0 q.0 (books-at-end sessions books rest fewer r) (books-at-end sessions others later less o) texts in
    let behind = books_split sessions books others rest later fewer less p.1 q.1 r o split.1 in
    (ap₂ (λ texts more. texts ∷ more) split.0 behind.0, behind.1)

-- ---- each answer of each book

each-in-line : (books : List Book) → AllByRecursion (λ book. All IsInLineReply book.replies) books → AllByRecursion IsInLineBook books
each-in-line [] p = tt
each-in-line (book ∷ books) p = (recursion_from_All IsInLineReply book.replies p.0, each-in-line books p.1)

pub texts_known : (sessions : List Session) (books others : List Book) (history later : List Entry) (left rest pool : ℕ) → AreInLine sessions books → AreInLine sessions others → output_text sessions books history left pool ≡ output_text sessions others later rest pool
    → (map texts_of books ≡ map texts_of others) × (history_text sessions history ++ pool_line left pool ≡ history_text sessions later ++ pool_line rest pool)
texts_known sessions books others history later left rest pool p q e =
    books_split sessions books others (history_text sessions history ++ pool_line left pool) (history_text sessions later ++ pool_line rest pool) p.paired q.paired
    (each-in-line books (recursion_from_All (λ book. All IsInLineReply book.replies) books p.replies)) (each-in-line others (recursion_from_All (λ book. All IsInLineReply book.replies) others q.replies)) refl refl
    (sym (append_assoc (books_text sessions books) (history_text sessions history) (pool_line left pool)) ∙ (e ∙ append_assoc (books_text sessions others) (history_text sessions later) (pool_line rest pool)))

-- what can be read back has no newline in a name
reply-in-line : (reply : Reply) → IsReadableReply reply → IsInLineReply reply
reply-in-line (replies.Unset name) p = p
reply-in-line reply p = tt

pub books-in-line : (sessions : List Session) (books : List Book) → AreReadable sessions books → AreInLine sessions books
books-in-line sessions books p = record { paired = p.paired; replies = λ k d inside i r within. reply-in-line _ (p.replies k d inside i r within) }

front : {X : Type 0} {x y : X} {xs ys : List X} → x ∷ xs ≡ y ∷ ys → x ≡ y
front e = cc

behind : {X : Type 0} {x y : X} {xs ys : List X} → x ∷ xs ≡ y ∷ ys → xs ≡ ys
behind e = cc

replies_injective : (xs ys : List Reply) → AllByRecursion IsReadableReply xs → AllByRecursion IsReadableReply ys → map reply_text xs ≡ map reply_text ys → xs ≡ ys
replies_injective [] [] p q e = refl
replies_injective [] (y ∷ ys) p q e = cc
replies_injective (x ∷ xs) [] p q e = cc
replies_injective (x ∷ xs) (y ∷ ys) p q e = ap₂ (λ reply replies. reply ∷ replies) (reply_injective x y p.0 q.0 (front e)) (replies_injective xs ys p.1 q.1 (behind e))

books_injective : (books others : List Book) → AllByRecursion (λ book. All IsReadableReply book.replies) books → AllByRecursion (λ book. All IsReadableReply book.replies) others → map texts_of books ≡ map texts_of others → books ≡ others
books_injective [] [] p q e = refl
books_injective [] (other ∷ others) p q e = cc
books_injective (book ∷ books) [] p q e = cc
books_injective (book ∷ books) (other ∷ others) p q e =
    let same = replies_injective book.replies other.replies (recursion_from_All IsReadableReply book.replies p.0) (recursion_from_All IsReadableReply other.replies q.0) (front e) in
    ap₂ (λ first more. first ∷ more) (λ i. record { replies = same i }) (books_injective books others p.1 q.1 (behind e))

pub books_known : (sessions : List Session) (books others : List Book) (history later : List Entry) (left rest pool : ℕ) → AreReadable sessions books → AreReadable sessions others → output_text sessions books history left pool ≡ output_text sessions others later rest pool
    → (books ≡ others) × (history_text sessions history ++ pool_line left pool ≡ history_text sessions later ++ pool_line rest pool)
books_known sessions books others history later left rest pool p q e =
    let split = texts_known sessions books others history later left rest pool (books-in-line sessions books p) (books-in-line sessions others q) e in
    (books_injective books others (recursion_from_All (λ book. All IsReadableReply book.replies) books p.replies) (recursion_from_All (λ book. All IsReadableReply book.replies) others q.replies) split.0, split.1)
