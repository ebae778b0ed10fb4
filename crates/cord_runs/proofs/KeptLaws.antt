-- The lines that are kept of a run over trees are in the order of the run on byte strings.
use Rattle.std.proofs.Common.{◌≡◌, ◌∙◌, sym, ap, subst, refl, ℕ, zero, suc, List, [], ◌∷◌, ◌++◌, cond, Bool, true, false, map, length, append_assoc, eqb}
use Rattle.std.specs.Prelude.{zip, Option, Some, None}
use mathlib.Core.Path.{fun_ext}
use Rattle.plain_cord.specs.declared.history.Act.{Act}
use Rattle.plain_cord.specs.declared.history.Entry.{Entry}
use Rattle.plain_cord.specs.declared.script.Command.TheVariants as commands
use Rattle.plain_cord.specs.declared.reply.Reply.{Reply}
use Rattle.plain_cord.specs.declared.reply.Reply.TheVariants as replies
use Rattle.plain_cord.specs.Deeds.{empty_cells}
use Rattle.plain_cord.specs.Effects as effects
use Rattle.plain_cord.specs.Outcomes.{asked_action}
use Rattle.plain_cord.specs.RunOrders as bytes
use Rattle.plain_cord.specs.RunOrders.{replaced, acts_by, commands_of, replies_of}
use Rattle.plain_cord.specs.Runs as plain
use Rattle.cord_steps.specs.Answers.{Request, Plain, External, Answer, Told, unmarked}
use Rattle.cord_steps.specs.Runs.{Line, new_session, Plays, kept_line, kept, kept_lines}
use Rattle.cord_steps.specs.Sessions.{Options}
use Rattle.cord_runs.specs.Kept.{all_lines, kept_session, kept_book, kept_sessions, kept_books}
use Rattle.cord_runs.specs.Orders.{tagged, rest_of, upto, beyond, run_order}
use Rattle.cord_runs.specs.Runs.{acts, lines_at, IsRun}

tagged-append : (p : ℕ) (xs ys : List bytes.Line) → bytes.tagged p (xs ++ ys) ≡ bytes.tagged p xs ++ bytes.tagged p ys
tagged-append p [] ys = refl
tagged-append p (x ∷ xs) ys = ap (λ (z : List (ℕ × bytes.Line)). (p, x) ∷ z) (tagged-append p xs ys)

-- marks don't tell whether a command came to the board
acts-unmarked : (o : Option (Act × ℕ)) (reply : Reply) → acts_by o (unmarked reply) ≡ acts_by o reply
acts-unmarked None reply = refl
acts-unmarked (Some asked) (replies.Done _ _) = refl
acts-unmarked (Some asked) _ = refl

module _ {R : Type 0} where
  -- ---- up to the next board action, and behind it
  plain-upto : (b : Bool) (x : Line R) (y : bytes.Line) (xs : List (Line R)) (ys : List bytes.Line) → kept_line x ≡ y ∷ [] → kept xs ≡ ys → kept (cond b (x ∷ []) (x ∷ xs)) ≡ cond b (y ∷ []) (y ∷ ys)
  plain-upto true x y xs ys one rest = ap (λ (z : List bytes.Line). z ++ []) one
  plain-upto false x y xs ys one rest = λ i. one i ++ rest i

  kept-upto : (xs : List (Line R)) → kept (upto acts xs) ≡ bytes.upto (kept xs)
  kept-upto [] = refl
  kept-upto ((Plain command, Told reply) ∷ xs) =
      plain-upto (bytes.acts command reply) (Plain command, Told reply) (command, unmarked reply) (upto acts xs) (bytes.upto (kept xs)) refl (kept-upto xs)
      ∙ ap (λ (b : Bool). cond b ((command, unmarked reply) ∷ []) ((command, unmarked reply) ∷ bytes.upto (kept xs))) (sym (acts-unmarked (asked_action command) reply))
  kept-upto ((External a text, Told reply) ∷ xs) = ap (λ (z : List bytes.Line). (commands.Ext a text, unmarked reply) ∷ z) (kept-upto xs)
  kept-upto (_ ∷ xs) = kept-upto xs

  plain-beyond : (b : Bool) (xs later : List (Line R)) (ys : List bytes.Line) → kept later ≡ ys → kept (cond b xs later) ≡ cond b (kept xs) ys
  plain-beyond true xs later ys rest = refl
  plain-beyond false xs later ys rest = rest

  kept-beyond : (xs : List (Line R)) → kept (beyond acts xs) ≡ bytes.beyond (kept xs)
  kept-beyond [] = refl
  kept-beyond ((Plain command, Told reply) ∷ xs) =
      plain-beyond (bytes.acts command reply) xs (beyond acts xs) (bytes.beyond (kept xs)) (kept-beyond xs)
      ∙ ap (λ (b : Bool). cond b (kept xs) (bytes.beyond (kept xs))) (sym (acts-unmarked (asked_action command) reply))
  kept-beyond ((External a text, Told reply) ∷ xs) = kept-beyond xs
  kept-beyond (_ ∷ xs) = kept-beyond xs

  -- ---- in the order of the run
  abbrev each : (ℕ → List (Line R)) → ℕ → List bytes.Line
  each f = λ p. kept (f p)

  kept-tagged : (p : ℕ) (xs : List (Line R)) (ys : List (ℕ × Line R)) → kept_lines (tagged p xs ++ ys) ≡ bytes.tagged p (kept xs) ++ kept_lines ys
  kept-tagged p [] ys = refl
  kept-tagged p (x ∷ xs) ys =
      ap (λ (z : List (ℕ × bytes.Line)). bytes.tagged p (kept_line x) ++ z) (kept-tagged p xs ys)
      ∙ sym (append_assoc (bytes.tagged p (kept_line x)) (bytes.tagged p (kept xs)) (kept_lines ys))
      ∙ ap (λ (z : List (ℕ × bytes.Line)). z ++ kept_lines ys) (sym (tagged-append p (kept_line x) (kept xs)))

  kept-rest : (n k : ℕ) (f : ℕ → List (Line R)) → kept_lines (rest_of n k f) ≡ bytes.rest_of n k (each f)
  kept-rest zero k f = refl
  kept-rest (suc n) k f = kept-tagged k (f k) (rest_of n (suc k) f) ∙ ap (λ (z : List (ℕ × bytes.Line)). bytes.tagged k (kept (f k)) ++ z) (kept-rest n (suc k) f)

  kept-replaced : (f : ℕ → List (Line R)) (p : ℕ) (xs : List (Line R)) → each (replaced f p xs) ≡ replaced (each f) p (kept xs)
  kept-replaced f p xs = fun_ext (λ q. go (eqb q p) (f q))
    where
      go : (b : Bool) (ys : List (Line R)) → kept (cond b xs ys) ≡ cond b (kept xs) (kept ys)
      go true ys = refl
      go false ys = refl

  kept-order : (es : List Entry) (n : ℕ) (f : ℕ → List (Line R)) → kept_lines (run_order acts n f es) ≡ bytes.run_order n (each f) es
  kept-order [] n f = kept-rest n 0 f
  kept-order (e ∷ es) n f =
      let q : ℕ = e.session in
      let later : ℕ → List (Line R) = replaced f q (beyond acts (f q)) in
      kept-tagged q (upto acts (f q)) (run_order acts n later es)
      ∙ (λ i. bytes.tagged q (kept-upto (f q) i) ++ (kept-order es n later ∙ ap (λ (g : ℕ → List bytes.Line). bytes.run_order n g es) (kept-replaced f q (beyond acts (f q)) ∙ ap (replaced (each f) q) (kept-beyond (f q)))) i)

-- ---- the lines of the kept sessions and books
lines-parts : (xs : List bytes.Line) → bytes.lines (map (λ x. x.0) xs) (map (λ x. x.1) xs) ≡ xs
lines-parts [] = refl
lines-parts (x ∷ xs) = ap (λ (z : List bytes.Line). x ∷ z) (lines-parts xs)

kept-at : {R : Type 0} (sessions : List (List Request)) (books : List (List (Answer R))) → map length books ≡ map length sessions → (p : ℕ) → kept (lines_at sessions books p) ≡ bytes.lines_at (kept_sessions sessions books) (kept_books sessions books) p
kept-at [] [] same p = refl
kept-at [] (b ∷ books) same p = absurd (cc)
kept-at (s ∷ sessions) [] same p = absurd (cc)
kept-at (s ∷ sessions) (b ∷ books) same zero = sym (lines-parts (kept (zip s b)))
kept-at (s ∷ sessions) (b ∷ books) same (suc p) = kept-at sessions books (cc) p

as-many-kept : {R : Type 0} (sessions : List (List Request)) (books : List (List (Answer R))) → map length books ≡ map length sessions → length sessions ≡ length (kept_sessions sessions books)
as-many-kept [] [] same = refl
as-many-kept [] (b ∷ books) same = absurd (cc)
as-many-kept (s ∷ sessions) [] same = absurd (cc)
as-many-kept (s ∷ sessions) (b ∷ books) same = ap suc (as-many-kept sessions books (cc))

parts-long : (xs : List bytes.Line) → length (map (λ x. x.1) xs) ≡ length (map (λ x. x.0) xs)
parts-long [] = refl
parts-long (x ∷ xs) = ap suc (parts-long xs)

kept-answered : {R : Type 0} (xs : List (List (Line R))) → map length (replies_of (map kept_book xs)) ≡ map length (commands_of (map kept_session xs))
kept-answered [] = refl
kept-answered (x ∷ xs) = λ i. parts-long (kept x) i ∷ kept-answered xs i

-- ---- the run
abbrev pub LinesFollow : Type 0 → Type 0
LinesFollow R = (options : Options) (boxes : ℕ → ℕ) (xs : List (ℕ × Line R)) (history : List Entry) → Plays options (λ p. new_session (boxes p)) empty_cells xs history → plain.Plays (λ p. effects.new_session) empty_cells (kept_lines xs) history

pub run-plain : {R : Type 0} → LinesFollow R → (options : Options) (boxes : ℕ → ℕ) (sessions : List (List Request)) (books : List (List (Answer R))) (history : List Entry) → IsRun options boxes sessions books history → plain.IsPlainRun (kept_sessions sessions books) (kept_books sessions books) history
run-plain {R} follow options boxes sessions books history run = record {
  answered = kept-answered (all_lines sessions books);
  plays = subst (λ (xs : List (ℕ × bytes.Line)). plain.Plays (λ p. effects.new_session) empty_cells xs history) order (follow options boxes (run_order acts (length sessions) (lines_at sessions books) history) history run.plays);
}
  where
    order : kept_lines (run_order acts (length sessions) (lines_at sessions books) history) ≡ bytes.run_order (length (kept_sessions sessions books)) (bytes.lines_at (kept_sessions sessions books) (kept_books sessions books)) history
    order = kept-order history (length sessions) (lines_at sessions books)
        ∙ (λ i. bytes.run_order (as-many-kept sessions books run.answered i) (fun_ext (kept-at sessions books run.answered) i) history)
