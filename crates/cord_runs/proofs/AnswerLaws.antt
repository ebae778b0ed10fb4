-- Where the stride is 0, the answers of a run follow from its history and from what was refused.
use Rattle.std.proofs.Common.{◌≡◌, ◌∙◌, ◌⊎◌, inl, inr, ap, subst, sym, refl, ℕ, suc, List, [], ◌∷◌, ◌++◌, map, length, None, Bool, true, false}
use Rattle.std.specs.List.{AllByRecursion}
use Rattle.std.specs.Prelude.{zip}
use Rattle.std.proofs.lemmas.List.{map-append}
use Rattle.plain_cord.specs.declared.history.Entry.{Entry}
use Rattle.plain_cord.specs.declared.reply.Book.{Book}
use Rattle.plain_cord.specs.declared.reply.NewMark.TheVariants as marks
use Rattle.plain_cord.specs.declared.reply.Reply.{Reply}
use Rattle.plain_cord.specs.declared.reply.Reply.TheVariants as replies
use Rattle.plain_cord.specs.declared.script.Command.{Command}
use Rattle.plain_cord.specs.declared.script.Session.{Session as Session_value}
use Rattle.plain_cord.specs.Deeds.{empty_cells}
use Rattle.plain_cord.specs.RunOrders as bytes
use Rattle.plain_cord.specs.RunOrders.{replaced}
use Rattle.plain_cord.specs.Runs.{IsPlainRun}
use Rattle.cord_steps.specs.Answers.{Request, Plain, External, Snap, Walk, Unsnap, Answer, Told, IsTold, unmarked}
use Rattle.cord_steps.specs.Notes.{HasNoMark}
use Rattle.cord_steps.specs.Runs.{Line, new_session, Plays, kept_line, kept}
use Rattle.cord_steps.specs.Sessions.{Options, Session, Cells, Effect}
use Rattle.cord_steps.specs.Steps.{IsSnapAnswer, IsWalkAnswer, IsUnsnapAnswer, IsStep}
use Rattle.cord_runs.specs.Kept.{kept_sessions, kept_books, untold, all_untold}
use Rattle.cord_runs.specs.Orders.{run_order}
use Rattle.cord_runs.specs.Runs.{acts, lines_at, IsRun}
use Rattle.cord_runs.proofs.MarkLaws.{StepsUnmarked, StepsUnsampled, lines-unmarked}
use Rattle.cord_runs.proofs.OrderLaws.{Tagged, each-of, order-lines}

snap-told : (R : Type 0) (b : Bool) (reply : Reply) → IsSnapAnswer {Report = R} b (Told reply) → reply ≡ replies.Done marks.Plain None
snap-told R true reply is = absurd (cc)
snap-told R false reply is = cc

walk-told : (R : Type 0) (b : Bool) (reply : Reply) → IsWalkAnswer {Report = R} b (Told reply) → ⊥
walk-told R true reply is = let e = is.1 in cc
walk-told R false reply is = cc

unsnap-told : (R : Type 0) (b : Bool) (reply : Reply) → IsUnsnapAnswer {Report = R} b (Told reply) → ⊥
unsnap-told R true reply is = let e = is.1 in cc
unsnap-told R false reply is = cc

first : {X : Type 0} {x y : X} {xs ys : List X} → x ∷ xs ≡ y ∷ ys → x ≡ y
first e = cc

second : {X : Type 0} {x y : X} {xs ys : List X} → x ∷ xs ≡ y ∷ ys → xs ≡ ys
second e = cc

module _ {R : Type 0} where
  -- ---- what the profiler tells as on byte strings is `ok`
  abbrev pub IsPlainlyTold : Line R → Type 0
  IsPlainlyTold (Snap, Told reply) = reply ≡ replies.Done marks.Plain None
  IsPlainlyTold (Walk, Told reply) = reply ≡ replies.Done marks.Plain None
  IsPlainlyTold (Unsnap, Told reply) = reply ≡ replies.Done marks.Plain None
  IsPlainlyTold _ = Unit {0}

  plainly-told : (options : Options) (p : ℕ) (s : Session) (cells : Cells) (request : Request) (answer : Answer R) (e : Effect) → IsStep options p s cells request answer e → IsPlainlyTold (request, answer)
  plainly-told options p s cells Snap (Told reply) e step = snap-told R s.watches reply step.answered
  plainly-told options p s cells Walk (Told reply) e step = absurd (walk-told R s.watches reply step.answered)
  plainly-told options p s cells Unsnap (Told reply) e step = absurd (unsnap-told R s.watches reply step.answered)
  plainly-told options p s cells (Plain command) answer e step = tt
  plainly-told options p s cells (External a text) answer e step = tt
  plainly-told options p s cells Snap _ e step = tt
  plainly-told options p s cells Walk _ e step = tt
  plainly-told options p s cells Unsnap _ e step = tt

  played-told : (options : Options) (xs : List (ℕ × Line R)) (states : ℕ → Session) (cells : Cells) (history : List Entry) → Plays options states cells xs history → AllByRecursion (Tagged IsPlainlyTold) xs
  played-told options [] states cells history plays = tt
  played-told options (x ∷ xs) states cells history plays =
      let go = plays.2 in
      (plainly-told options x.0 (states x.0) cells x.1.0 x.1.1 plays.0 plays.1, played-told options xs (replaced states x.0 plays.0.state) plays.0.cells go.0 go.2)

  -- ---- an answer is told, or it is one that says itself
  told-or : (r : Answer R) → ((reply : Reply) × (r ≡ Told reply)) ⊎ ((untold r ≡ r) × (IsTold r → ⊥))
  told-or (Told reply) = inl (reply, refl)
  told-or _ = inr (refl, λ x. x)

  kept-none : (q : Request) (r : Answer R) → (IsTold r → ⊥) → kept_line (q, r) ≡ []
  kept-none (Plain command) (Told reply) untrue = absurd (untrue tt)
  kept-none (Plain command) _ untrue = refl
  kept-none (External a text) (Told reply) untrue = absurd (untrue tt)
  kept-none (External a text) _ untrue = refl
  kept-none Snap r untrue = refl
  kept-none Walk r untrue = refl
  kept-none Unsnap r untrue = refl

  -- ---- the kept commands
  abbrev commands : List (Line R) → List Command
  commands xs = map (λ x. x.0) (kept xs)

  abbrev answers : List (Line R) → List Reply
  answers xs = map (λ x. x.1) (kept xs)

  line-command : (q : Request) (r : Answer R) → map (λ (x : bytes.Line). x.0) (kept_line (q, r)) ≡ map (λ (x : bytes.Line). x.0) (kept_line (q, untold r))
  line-command (Plain command) (Told reply) = refl
  line-command (Plain command) _ = refl
  line-command (External a text) (Told reply) = refl
  line-command (External a text) _ = refl
  line-command Snap r = refl
  line-command Walk r = refl
  line-command Unsnap r = refl

  book-commands : (qs : List Request) (rs : List (Answer R)) → commands (zip qs rs) ≡ commands (zip qs (map untold rs))
  book-commands [] rs = refl
  book-commands (q ∷ qs) [] = refl
  book-commands (q ∷ qs) (r ∷ rs) =
      map-append (λ (x : bytes.Line). x.0) (kept_line (q, r)) (kept (zip qs rs))
      ∙ (λ i. line-command q r i ++ book-commands qs rs i)
      ∙ sym (map-append (λ (x : bytes.Line). x.0) (kept_line (q, untold r)) (kept (zip qs (map untold rs))))

  sessions-untold : (sessions : List (List Request)) (books : List (List (Answer R))) → kept_sessions sessions books ≡ kept_sessions sessions (all_untold books)
  sessions-untold [] books = refl
  sessions-untold (q ∷ sessions) [] = refl
  sessions-untold (q ∷ sessions) (b ∷ books) = λ i. record { name = []; commands = book-commands q b i } ∷ sessions-untold sessions books i

  same-sessions : (sessions : List (List Request)) (books others : List (List (Answer R))) → all_untold books ≡ all_untold others → kept_sessions sessions books ≡ kept_sessions sessions others
  same-sessions sessions books others same = sessions-untold sessions books ∙ ap (kept_sessions sessions) same ∙ sym (sessions-untold sessions others)

  -- ---- the answers of a book
  abbrev Same : Answer R → Answer R → List Reply → List Reply → Type 0
  Same r t xs ys = (r ≡ t) × (xs ≡ ys)

  told-same : (a b : Reply) (xs ys : List Reply) → a ≡ unmarked a → b ≡ unmarked b → unmarked a ∷ xs ≡ unmarked b ∷ ys → Same (Told a) (Told b) xs ys
  told-same a b xs ys bare plain same = (ap (λ (r : Reply). Told r) (bare ∙ first same ∙ sym plain), second same)

  done-same : (a b : Reply) (xs ys : List Reply) → a ≡ replies.Done marks.Plain None → b ≡ replies.Done marks.Plain None → xs ≡ ys → Same (Told a) (Told b) xs ys
  done-same a b xs ys one other same = (ap (λ (r : Reply). Told r) (one ∙ sym other), same)

  both-told : (q : Request) (a b : Reply) (xs ys : List Reply) → a ≡ unmarked a → b ≡ unmarked b → IsPlainlyTold (q, Told a) → IsPlainlyTold (q, Told b) → map (λ (x : bytes.Line). x.1) (kept_line {Report = R} (q, Told a)) ++ xs ≡ map (λ (x : bytes.Line). x.1) (kept_line {Report = R} (q, Told b)) ++ ys → Same (Told a) (Told b) xs ys
  both-told (Plain command) a b xs ys bare plain one other same = told-same a b xs ys bare plain same
  both-told (External name text) a b xs ys bare plain one other same = told-same a b xs ys bare plain same
  both-told Snap a b xs ys bare plain one other same = done-same a b xs ys one other same
  both-told Walk a b xs ys bare plain one other same = done-same a b xs ys one other same
  both-told Unsnap a b xs ys bare plain one other same = done-same a b xs ys one other same

  untold-told : (r t : Answer R) → (IsTold t → ⊥) → untold t ≡ t → IsTold r → untold r ≡ untold t → ⊥
  untold-told (Told reply) t untrue says is same = untrue (subst IsTold (same ∙ says) tt)
  untold-told _ t untrue says is same = is

  is-told : (r : Answer R) (reply : Reply) → r ≡ Told reply → IsTold r
  is-told r reply is = subst IsTold (sym is) tt

  abbrev Replies : Request → Answer R → List Reply → List Reply
  Replies q r xs = map (λ (x : bytes.Line). x.1) (kept_line (q, r)) ++ xs

  line-same : (q : Request) (r t : Answer R) (xs ys : List Reply) → untold r ≡ untold t → HasNoMark r → HasNoMark t → IsPlainlyTold (q, r) → IsPlainlyTold (q, t) → Replies q r xs ≡ Replies q t ys → Same r t xs ys
  line-same q r t xs ys same bare plain one other kept_same = go (told-or r) (told-or t)
    where
      go : ((reply : Reply) × (r ≡ Told reply)) ⊎ ((untold r ≡ r) × (IsTold r → ⊥)) → ((reply : Reply) × (t ≡ Told reply)) ⊎ ((untold t ≡ t) × (IsTold t → ⊥)) → Same r t xs ys
      go (inl x) (inl y) =
          let made : Same (Told x.0) (Told y.0) xs ys = both-told q x.0 y.0 xs ys (subst HasNoMark x.1 bare) (subst HasNoMark y.1 plain) (subst (λ (z : Answer R). IsPlainlyTold (q, z)) x.1 one) (subst (λ (z : Answer R). IsPlainlyTold (q, z)) y.1 other)
          (ap (λ (z : Answer R). Replies q z xs) (sym x.1) ∙ kept_same ∙ ap (λ (z : Answer R). Replies q z ys) y.1) in
          (x.1 ∙ made.0 ∙ sym y.1, made.1)
      go (inl x) (inr y) = absurd (untold-told r t y.1 y.0 (is-told r x.0 x.1) same)
      go (inr x) (inl y) = absurd (untold-told t r x.1 x.0 (is-told t y.0 y.1) (sym same))
      go (inr x) (inr y) = (
        sym x.0 ∙ same ∙ y.0,
        ap (λ (z : List bytes.Line). map (λ (l : bytes.Line). l.1) z ++ xs) (sym (kept-none q r x.1)) ∙ kept_same ∙ ap (λ (z : List bytes.Line). map (λ (l : bytes.Line). l.1) z ++ ys) (kept-none q t y.1),
      )

  parts : (q : Request) (r : Answer R) (xs : List (Line R)) → answers ((q, r) ∷ xs) ≡ Replies q r (answers xs)
  parts q r xs = map-append (λ (x : bytes.Line). x.1) (kept_line (q, r)) (kept xs)

  -- what a line of a run without a stride keeps to
  abbrev IsBare : Line R → Type 0
  IsBare x = HasNoMark x.1 × IsPlainlyTold x

  book-same : (qs : List Request) (rs ts : List (Answer R)) → length rs ≡ length qs → map untold rs ≡ map untold ts → AllByRecursion IsBare (zip qs rs) → AllByRecursion IsBare (zip qs ts) → answers (zip qs rs) ≡ answers (zip qs ts) → rs ≡ ts
  book-same qs [] [] long same one other kept_same = refl
  book-same qs [] (t ∷ ts) long same one other kept_same = absurd (cc)
  book-same qs (r ∷ rs) [] long same one other kept_same = absurd (cc)
  book-same [] (r ∷ rs) (t ∷ ts) long same one other kept_same = absurd (cc)
  book-same (q ∷ qs) (r ∷ rs) (t ∷ ts) long same one other kept_same =
      let line = line-same q r t (answers (zip qs rs)) (answers (zip qs ts)) (first same) one.0.0 other.0.0 one.0.1 other.0.1 (sym (parts q r (zip qs rs)) ∙ kept_same ∙ parts q t (zip qs ts)) in
      λ i. line.0 i ∷ book-same qs rs ts (cc) (second same) one.1 other.1 line.1 i

  -- ---- the books
  books-same : (sessions : List (List Request)) (books others : List (List (Answer R))) → map length books ≡ map length sessions → all_untold books ≡ all_untold others → ((p : ℕ) → AllByRecursion IsBare (lines_at sessions books p)) → ((p : ℕ) → AllByRecursion IsBare (lines_at sessions others p))
      → kept_books sessions books ≡ kept_books sessions others → books ≡ others
  books-same sessions [] [] long same one other kept_same = refl
  books-same sessions [] (t ∷ others) long same one other kept_same = absurd (cc)
  books-same sessions (b ∷ books) [] long same one other kept_same = absurd (cc)
  books-same [] (b ∷ books) (t ∷ others) long same one other kept_same = absurd (cc)
  books-same (q ∷ sessions) (b ∷ books) (t ∷ others) long same one other kept_same =
      let book = book-same q b t (first long) (first same) (one 0) (other 0) (ap (λ (x : Book). x.replies) (first kept_same)) in
      let more = books-same sessions books others (second long) (second same) (λ p. one (suc p)) (λ p. other (suc p)) (second kept_same) in
      λ i. book i ∷ more i

  -- ---- the runs
  both-hold : (xs : List (Line R)) → AllByRecursion (λ x. HasNoMark x.1) xs → AllByRecursion IsPlainlyTold xs → AllByRecursion IsBare xs
  both-hold [] one other = tt
  both-hold (x ∷ xs) one other = ((one.0, other.0), both-hold xs one.1 other.1)

  module _ (unmarked_steps : StepsUnmarked R) (unsampled_steps : StepsUnsampled R) where
    bare-lines : (options : Options) (boxes : ℕ → ℕ) (sessions : List (List Request)) (books : List (List (Answer R))) (history : List Entry) → options.stride ≡ 0 → IsRun options boxes sessions books history → (p : ℕ) → AllByRecursion IsBare (lines_at sessions books p)
    bare-lines options boxes sessions books history none run p =
        let xs = run_order acts (length sessions) (lines_at sessions books) history in
        both-hold (lines_at sessions books p) (lines-unmarked unmarked_steps unsampled_steps options none boxes sessions books history run.plays p)
        (subst (AllByRecursion IsPlainlyTold) (order-lines sessions books history p) (each-of IsPlainlyTold p xs (played-told options xs (λ q. new_session (boxes q)) empty_cells history run.plays)))

    pub run-answers : ((options : Options) (boxes : ℕ → ℕ) (sessions : List (List Request)) (books : List (List (Answer R))) (history : List Entry) → IsRun options boxes sessions books history → IsPlainRun (kept_sessions sessions books) (kept_books sessions books) history)
        → ((sessions : List Session_value) (books others : List Book) (history : List Entry) → IsPlainRun sessions books history → IsPlainRun sessions others history → books ≡ others)
        → (options more : Options) (boxes owned : ℕ → ℕ) (sessions : List (List Request)) (books others : List (List (Answer R))) (history : List Entry) → options.stride ≡ 0 → more.stride ≡ 0 → IsRun options boxes sessions books history → IsRun more owned sessions others history → all_untold books ≡ all_untold others → books ≡ others
    run-answers plain_runs determined options more boxes owned sessions books others history none also run second_run same =
        books-same sessions books others run.answered same (bare-lines options boxes sessions books history none run) (bare-lines more owned sessions others history also second_run)
        (determined (kept_sessions sessions books) (kept_books sessions books) (kept_books sessions others) history (plain_runs options boxes sessions books history run)
        (subst (λ (ss : List Session_value). IsPlainRun ss (kept_books sessions others) history) (sym (same-sessions sessions books others same)) (plain_runs more owned sessions others history second_run)))
