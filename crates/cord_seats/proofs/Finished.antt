-- The run and the boxes at its end, by what the sessions came back with.
use Rattle.std.proofs.Common.{◌≡◌, ◌∙◌, sym, ap, refl, subst, ℕ, ◌+◌, ◌<◌, List, [], ◌∷◌, ◌++◌, length, map, get_or, length-append, true, arith, Option, Some}
use Rattle.std.specs.Prelude.{IfSome}
use Rattle.std.specs.Global.{Vec}
use Rattle.std.proofs.lemmas.List.{length-map, get_or-map, get_or_append_left}
use Rattle.plain_cord.specs.declared.script.Session.{Session}
use Rattle.plain_cord.specs.declared.history.Entry.{Entry}
use Rattle.plain_cord.specs.declared.deed.Deed.{Deed}
use Rattle.plain_cord.specs.Deeds.{of_session, mapped_deed, entry_of, empty_cells, IsLegal}
use Rattle.pool_rule.specs.Pools.{Handed}
use Rattle.pool_rule.specs.Views.{View}
use Rattle.node_pool.specs.Closes.{IsAllIdle, AreCountsWithin, AreTakenByWorkers, AreReturned}
use Rattle.node_pool.specs.Starts.{slot_count}
use Rattle.cord_board.specs.Rule.{IsEnd}
use Rattle.cord_board.specs.Views.{came_back, mine_in}
use Rattle.cord_value.specs.Views.{CordView}
use Rattle.cord_steps.specs.Answers as steps
use Rattle.cord_steps.specs.Answers.{Request}
use Rattle.cord_steps.specs.Cords.{Cord}
use Rattle.cord_steps.specs.Replies.{request_of}
use Rattle.cord_steps.specs.Runs.{new_session}
use Rattle.cord_steps.specs.Sessions as states
use Rattle.cord_runs.specs.Alone.{size_of, RunsAlone}
use Rattle.cord_runs.specs.Runs.{lines_at, IsRun}
use Rattle.cord_runs.specs.Scripts.{boxes_of}
use Rattle.cord_commands.specs.declared.answer.Answer.{Answer}
use Rattle.cord_commands.specs.Answers.{told_by}
use Rattle.cord_commands.specs.Does.{NoReport}
use Rattle.cord_commands.specs.Slots.{lengths_in}
use Rattle.cord_commands.specs.Views.{cord_in}
use Rattle.cord_seats.specs.Boxes.{AreCalled}
use Rattle.cord_seats.specs.Causes.{IsShown, AreShown}
use Rattle.cord_seats.specs.Chairs.{own_slots, Came, below}
use Rattle.cord_seats.specs.Told.{IsToldAlone, options_for, externals_by, all_externals}
use Rattle.cord_seats.proofs.Answered.{all-there}
use Rattle.cord_seats.proofs.Boxes.{are-called, externals-at, externals-past}
use Rattle.cord_seats.proofs.Lists.{element}
use Rattle.cord_seats.proofs.Runs.{length_in, entries-mapped, all_answered, run_legal, each_alone}
use Rattle.cord_seats.proofs.Places.{own-boxes}

-- sessions that ran by themselves, with the actions of one list, make a run where none is sampled
abbrev pub SessionsMakeRuns : Type 0
SessionsMakeRuns = (options : states.Options) (boxes : ℕ → ℕ) (sessions : List (List Request)) (books : List (List (steps.Answer NoReport))) (log : List (Deed Cord))
    → options.stride ≡ 0 → map length books ≡ map length sessions → IsLegal empty_cells log
    → ((p : ℕ) → (after : states.Session) × RunsAlone options p (new_session (boxes p)) (lines_at sessions books p) (of_session p log) after)
    → IsRun options boxes sessions books (map (entry_of size_of) log)

module _ (sessions : List Session) (found : List (Option (Vec Answer))) (books : List (Vec Answer)) (is : found ≡ map (λ (rs : Vec Answer). Some rs) books)
    (all : length found ≡ length sessions) (joined : List (ℕ × List (Deed CordView))) where
  count : length books ≡ length sessions
  count = sym (length-map books (λ (rs : Vec Answer). Some rs)) ∙ (ap length (sym is) ∙ all)

  abbrev said : List (List Request)
  said = map (λ (s : Session). map request_of s.commands) sessions

  abbrev all_told : List (List (steps.Answer NoReport))
  all_told = map (λ (rs : Vec Answer). map told_by rs.items) books

  abbrev IsToldBy : ℕ → ℕ → ℕ → ℕ → Session → Vec Answer → Type 0
  IsToldBy size limit boxes p s rs = IsToldAlone size limit boxes p s.commands rs.items (mine_in joined p)

  pub finished-run : (law : SessionsMakeRuns) (size limit workers boxes handed : ℕ) (history : List Entry) (cleared : List (ℕ × Option CordView))
      → workers ≡ length sessions + 1 → boxes ≡ handed
      → ((p : ℕ) (s : Session) (a : Option (Vec Answer)) → p < length sessions
      → IfSome (get_or found p a) (λ rs. IsToldBy size limit (length (own_slots (slot_count workers boxes) p)) p (get_or sessions p s) rs))
      → ((p : ℕ) → p < length sessions → came_back joined p ≡ true) → IsEnd length_in history (below (length sessions)) joined cleared
      → IsRun {Report = NoReport} (options_for size limit) (boxes_of handed) said all_told history
  finished-run law size limit workers boxes handed history cleared more same told back end =
      let alone : (p : ℕ) (s : Session) (a : Vec Answer) → p < length sessions → IsToldBy size limit (boxes_of handed p) p (get_or sessions p s) (get_or books p a) =
      λ p s a low. subst (λ (z : ℕ). IsToldBy size limit z p (get_or sessions p s) (get_or books p a))
      (own-boxes workers boxes (length sessions) p more low ∙ ap (λ (z : ℕ). boxes_of z p) same)
      (subst (λ (o : Option (Vec Answer)). IfSome o (λ rs. IsToldBy size limit (length (own_slots (slot_count workers boxes) p)) p (get_or sessions p s) rs))
      (all-there found books is p a) (told p s (Some a) low)) in
      subst (λ (z : List Entry). IsRun {Report = NoReport} (options_for size limit) (boxes_of handed) said all_told z)
      (entries-mapped end.0 ∙ sym end.2)
      (law (options_for size limit) (boxes_of handed) said all_told (map (mapped_deed cord_in) end.0) refl
      (all_answered size limit (boxes_of handed) sessions books joined count alone)
      (run_legal size limit (boxes_of handed) sessions books joined count alone end.0 back end.1)
      (each_alone size limit (boxes_of handed) sessions books joined count alone end.0 back end.1))

  pub finished-shown : (size limit workers boxes handed : ℕ) (ws closed : List View) (own : View) → workers ≡ length sessions + 1 → boxes ≡ handed
      → length ws ≡ length sessions → closed ≡ ws ++ own ∷ []
      → ((p : ℕ) (w : View) (a : Option (Vec Answer)) → p < length sessions
      → IfSome (get_or found p a) (λ rs. IsShown size limit (length (own_slots (slot_count workers boxes) p)) (get_or ws p w) rs.items))
      → IsAllIdle closed → AreTakenByWorkers closed → AreCountsWithin closed
      → AreShown size limit (boxes_of handed) (map (λ (rs : Vec Answer). rs.items) books)
  finished-shown size limit workers boxes handed ws closed own more same len are shown idle taken counts =
      let items : Vec Answer → List Answer = λ rs. rs.items in
      let many : length (map items books) ≡ length sessions = length-map books items ∙ count in
      record {
        workers = closed;
        count = ap length are ∙ (length-append ws (own ∷ []) ∙ ap (λ (n : ℕ). n + 1) (len ∙ sym many));
        idle = idle;
        taken = taken;
        counts = counts;
        each = λ p w low.
            let inside : p < length sessions = omega (arith, many, low) in
            let a = element books p (omega (arith, count, inside)) in
            let worker : get_or closed p w ≡ get_or ws p w = ap (λ (z : List View). get_or z p w) are ∙ get_or_append_left ws (own ∷ []) w p (omega (arith, len, inside)) in
            let book : get_or (map items books) p [] ≡ (get_or books p a).items = get_or-map items books p a [] (omega (arith, count, inside)) in
            let slots = own-boxes workers boxes (length sessions) p more inside ∙ ap (λ (z : ℕ). boxes_of z p) same in
            let here : IsShown size limit (length (own_slots (slot_count workers boxes) p)) (get_or ws p w) (get_or books p a).items =
            subst (λ (o : Option (Vec Answer)). IfSome o (λ rs. IsShown size limit (length (own_slots (slot_count workers boxes) p)) (get_or ws p w) rs.items))
            (all-there found books is p a) (shown p w (Some a) inside) in
            subst (λ (z : ℕ × View × List Answer). IsShown size limit z.0 z.1 z.2) (λ i. (slots i, sym worker i, sym book i)) here;
      }

  pub finished-boxes : (slots in_use : ℕ) (ws closed : List View) (own : View) (before after : List Handed) → length ws ≡ length sessions
      → ((p : ℕ) (w : View) → p < length sessions → Came slots joined p (get_or ws p w))
      → ((p : ℕ) (s : Session) (w : View) (a : Option (Vec Answer)) → p < length sessions
      → IfSome (get_or found p a) (λ rs. lengths_in (get_or ws p w) ≡ externals_by (get_or sessions p s).commands rs.items))
      → own.used ≡ [] → closed ≡ ws ++ own ∷ [] → in_use ≡ 0 → AreReturned before closed in_use after
      → AreCalled (all_externals sessions (map (λ (rs : Vec Answer). rs.items) books)) before after
  finished-boxes slots in_use ws closed own before after len back uses idle are none returned =
      are-called slots (length sessions) ws own (all_externals sessions (map (λ (rs : Vec Answer). rs.items) books)) before after len idle (λ p w low. (back p w low).kept)
      (λ p w low.
      let s = element sessions p low in
      let a = element books p (omega (arith, count, low)) in
      subst (λ (o : Option (Vec Answer)). IfSome o (λ rs. lengths_in (get_or ws p w) ≡ externals_by (get_or sessions p s).commands rs.items))
      (all-there found books is p a) (uses p s w (Some a) low)
      ∙ sym (externals-at (λ (rs : Vec Answer). rs.items) sessions books count p s a low))
      (λ p high. externals-past (λ (rs : Vec Answer). rs.items) sessions books p high)
      (subst (λ (z : List View × ℕ). AreReturned before z.0 z.1 after) (λ i. (are i, none i)) returned)
