-- From the sessions by themselves to what makes a run.
use Rattle.std.proofs.Common.{◌≡◌, ◌∙◌, sym, ap, refl, subst, ℕ, zero, suc, ◌<◌, ◌≤◌, List, [], ◌∷◌, length, map, get_or, arith, Option, Some, None, true}
use Rattle.std.specs.Prelude.{zip, option_map}
use Rattle.std.specs.Global.{Vec}
use Rattle.std.proofs.lemmas.List.{length-map, get_or-map}
use mathlib.Core.Logic.{dite}
use native.Mathlib.Decide.{dec_lt}
use Rattle.plain_cord.specs.declared.script.Session.{Session}
use Rattle.plain_cord.specs.declared.deed.Deed.{Deed}
use Rattle.plain_cord.specs.Deeds.{of_session, mapped_deed, noted_of, entry_of, empty_cells, IsLegal}
use Rattle.plain_cord.proofs.DeedMaps.{mapped-legal, mapped-of_session, mapped-empty_cells}
use Rattle.cord_board.specs.Rule.{IsLog}
use Rattle.cord_board.specs.Views.{came_back, mine_in}
use Rattle.cord_value.specs.Views.{CordView}
use Rattle.cord_steps.specs.Answers as steps
use Rattle.cord_steps.specs.Answers.{Request}
use Rattle.cord_steps.specs.Cords.{Cord}
use Rattle.cord_steps.specs.Replies.{request_of}
use Rattle.cord_steps.specs.Runs.{new_session}
use Rattle.cord_steps.specs.Sessions as states
use Rattle.cord_runs.specs.Alone.{size_of, RunsAlone}
use Rattle.cord_runs.specs.Runs.{lines_at}
use Rattle.cord_commands.specs.declared.answer.Answer.{Answer}
use Rattle.cord_commands.specs.Answers.{told_by}
use Rattle.cord_commands.specs.Does.{NoReport}
use Rattle.cord_commands.specs.Views.{cord_in}
use Rattle.cord_seats.specs.Chairs.{below}
use Rattle.cord_seats.specs.Told.{IsToldAlone, options_for}
use Rattle.cord_seats.proofs.Lists.{has_below, element}

-- ---- the history's entries are those of the cords as steps have them
abbrev pub length_in : CordView → ℕ
length_in c = length c.bytes

option-twice : (o : Option CordView) → option_map size_of (option_map cord_in o) ≡ option_map length_in o
option-twice None = refl
option-twice (Some x) = refl

entry-mapped : (d : Deed CordView) → entry_of size_of (mapped_deed cord_in d) ≡ entry_of length_in d
entry-mapped d = λ i. record { session = d.session; place = d.place; act = d.act; cell = d.cell; came = option-twice d.came i; was = noted_of d.act (option-twice d.was i) }

pub entries-mapped : (log : List (Deed CordView)) → map (entry_of size_of) (map (mapped_deed cord_in) log) ≡ map (entry_of length_in) log
entries-mapped [] = refl
entries-mapped (d ∷ log) = λ i. entry-mapped d i ∷ entries-mapped log i

-- ---- each session's lines and actions
outside : {A B : Type 0} (f : A → B) (xs : List A) (p : ℕ) (y : B) → length xs ≤ p → get_or (map f xs) p y ≡ y
outside f [] p y h = refl
outside f (x ∷ xs) zero y h = absurd (omega arith)
outside f (x ∷ xs) (suc p) y h = outside f xs p y (omega arith)

same_lengths : {A B : Type 0} (xs : List (List A)) (ys : List (List B)) → length xs ≡ length ys → ((p : ℕ) → p < length ys → length (get_or xs p []) ≡ length (get_or ys p []))
    → map length xs ≡ map length ys
same_lengths [] [] e each = refl
same_lengths [] (y ∷ ys) e each = absurd (omega arith)
same_lengths (x ∷ xs) [] e each = absurd (omega arith)
same_lengths (x ∷ xs) (y ∷ ys) e each = λ i. each 0 (omega arith) i ∷ same_lengths xs ys (omega arith) (λ p h. each (suc p) (omega arith)) i

module _ (size limit : ℕ) (boxes : ℕ → ℕ) (sessions : List Session) (all : List (Vec Answer)) (joined : List (ℕ × List (Deed CordView)))
    (same : length all ≡ length sessions)
    (alone : (p : ℕ) (s : Session) (a : Vec Answer) → p < length sessions → IsToldAlone size limit (boxes p) p (get_or sessions p s).commands (get_or all p a).items (mine_in joined p)) where
  abbrev requests : List (List Request)
  requests = map (λ (s : Session). map request_of s.commands) sessions

  abbrev books : List (List (steps.Answer NoReport))
  books = map (λ (rs : Vec Answer). map told_by rs.items) all

  abbrev RunAt : ℕ → List (Deed Cord) → Type 0
  RunAt p did = (after : states.Session) × RunsAlone {Report = NoReport} (options_for size limit) p (new_session (boxes p)) (lines_at requests books p) did after

  request_at : (p : ℕ) (s : Session) → p < length sessions → get_or requests p [] ≡ map request_of (get_or sessions p s).commands
  request_at p s low = get_or-map (λ (s : Session). map request_of s.commands) sessions p s [] low

  book_at : (p : ℕ) (a : Vec Answer) → p < length sessions → get_or books p [] ≡ map told_by (get_or all p a).items
  book_at p a low = get_or-map (λ (rs : Vec Answer). map told_by rs.items) all p a [] (omega arith)

  -- of each session that there is
  answered_at : (p : ℕ) → p < length sessions → length (get_or books p []) ≡ length (get_or requests p [])
  answered_at p low =
      let s = element sessions p low in
      let a = element all p (omega arith) in
      ap length (book_at p a low) ∙ (length-map (get_or all p a).items told_by
      ∙ ((alone p s a low).answered ∙ (sym (length-map (get_or sessions p s).commands request_of) ∙ ap length (sym (request_at p s low)))))

  run_at : (p : ℕ) → p < length sessions → RunAt p (map (mapped_deed cord_in) (mine_in joined p))
  run_at p low =
      let s = element sessions p low in
      let a = element all p (omega arith) in
      let r = alone p s a low in (
        r.after,
        subst (λ (z : List Request × List (steps.Answer NoReport)). RunsAlone {Report = NoReport} (options_for size limit) p (new_session (boxes p)) (zip z.0 z.1)
            (map (mapped_deed cord_in) (mine_in joined p)) r.after)
            (λ i. (sym (request_at p s low) i, sym (book_at p a low) i)) r.run,
      )

  -- and of no other
  none_at : (p : ℕ) → length sessions ≤ p → RunAt p []
  none_at p high = (
    new_session (boxes p),
    subst (λ (z : List Request). RunsAlone {Report = NoReport} (options_for size limit) p (new_session (boxes p)) (zip z (get_or books p [])) [] (new_session (boxes p)))
        (sym (outside (λ (s : Session). map request_of s.commands) sessions p [] high)) (refl, refl),
  )

  pub all_answered : map length books ≡ map length requests
  all_answered = same_lengths books requests (length-map all (λ (rs : Vec Answer). map told_by rs.items) ∙ (same ∙ sym (length-map sessions (λ (s : Session). map request_of s.commands))))
      (λ p low. answered_at p (let m = length-map sessions (λ (s : Session). map request_of s.commands) in omega arith))

  module _ (log : List (Deed CordView)) (back : (p : ℕ) → p < length sessions → came_back joined p ≡ true) (is : IsLog (below (length sessions)) joined log) where
    pub run_legal : IsLegal empty_cells (map (mapped_deed cord_in) log)
    run_legal = subst (λ z. IsLegal z (map (mapped_deed cord_in) log)) (mapped-empty_cells cord_in) (mapped-legal cord_in empty_cells log is.legal)

    pub each_alone : (p : ℕ) → RunAt p (of_session p (map (mapped_deed cord_in) log))
    each_alone p = dite (dec_lt p (length sessions))
        (λ low. subst (λ (z : List (Deed Cord)). RunAt p z) (sym (mapped-of_session cord_in p log ∙ ap (map (mapped_deed cord_in)) (is.each p (back p low)))) (run_at p low))
        (λ not. subst (λ (z : List (Deed Cord)). RunAt p z)
        (sym (mapped-of_session cord_in p log ∙ ap (map (mapped_deed cord_in)) (is.none p (has_below (length sessions) p (omega arith))))) (none_at p (omega arith)))
