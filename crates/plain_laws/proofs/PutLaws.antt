-- What lies in a cell was put there.
use Rattle.std.proofs.Common.{◌≡◌, ◌≢◌, ◌⊎◌, ◌∙◌, sym, ap, subst, refl, ℕ, zero, suc, List, [], ◌∷◌, ◌++◌, length, replicate, append_assoc, Option, Some, None, ⊎_elim, inl, inr}
use Rattle.std.specs.Prelude.{slice_set, unwrap_or}
use Rattle.std.proofs.lemmas.List.{append-nil}
use Rattle.std.proofs.lemmas.List.Elements.{All-nil, All-push}
use Rattle.std.specs.Str.{bytes_eq}
use Rattle.std.proofs.lemmas.Slice.Eq.{bytes_eq-Decides}
use Rattle.std.proofs.lemmas.Bool.{cond_both}
use mathlib.Core.Logic.{dite}
use native.Mathlib.Decide.{ℕ_discrete}
use Rattle.plain_cord.specs.declared.script.Command.{Command}
use Rattle.plain_cord.specs.declared.script.Command.TheVariants as commands
use Rattle.plain_cord.specs.declared.script.Session.{Session}
use Rattle.plain_cord.specs.declared.reply.NewMark.TheVariants as marks
use Rattle.plain_cord.specs.declared.reply.Reply.{Reply}
use Rattle.plain_cord.specs.declared.reply.Reply.TheVariants as replies
use Rattle.plain_cord.specs.declared.reply.Book.{Book}
use Rattle.plain_cord.specs.declared.history.Act.TheVariants.{Put, Take, Peek, Swap}
use Rattle.plain_cord.specs.declared.history.Entry.{Entry}
use Rattle.plain_cord.specs.States.{CordState, Environment, empty_cord, with_name}
use Rattle.plain_cord.specs.Effects.{SessionState, Cells, Effect, held_in, acting, with_own, with_given, done_or_empty, brought, effect, PlainEffect}
use Rattle.plain_cord.specs.RunOrders.{Line, replaced, run_order, lines_at}
use Rattle.plain_cord.specs.Runs.{Plays, IsPlainRun}
use Rattle.plain_laws.specs.Refusals.{IsRefusal}
use Rattle.plain_laws.specs.Moments.{Moment, beginning, changed_by, moment_after, cord_of, Puts, Gets, Changes, WasPut}
use Rattle.plain_laws.proofs.EffectKinds.{quiet-effect}
use Rattle.plain_laws.proofs.BoardLaws.{get-set_other}
use Rattle.plain_laws.proofs.OrderedLines.{replaced-here}

-- what lies in a cell that was set
held-here : (cells : Cells) (cell : ℕ) (o : Option CordState) (cord : CordState) → held_in (slice_set cells cell o) cell ≡ Some cord → o ≡ Some cord
held-here [] cell o cord held = absurd (let none : None ≡ Some cord = held in cc)
held-here (x ∷ cells) zero o cord held = held
held-here (x ∷ cells) (suc cell) o cord held = held-here cells cell o cord held

-- the cell is the one that was set, or has what it had
abbrev IsSetTo : Cells → ℕ → ℕ → Option CordState → CordState → Type 0
IsSetTo cells at cell o cord = ((at ≡ cell) × (o ≡ Some cord)) ⊎ ((at ≢ cell) × (held_in cells cell ≡ Some cord))

set-or-held : (cells : Cells) (at cell : ℕ) (o : Option CordState) (cord : CordState) → held_in (slice_set cells at o) cell ≡ Some cord → IsSetTo cells at cell o cord
set-or-held cells at cell o cord held = dite (ℕ_discrete at cell)
    (λ same. inl (same, held-here cells at o cord (ap (λ (c : ℕ). held_in (slice_set cells at o) c) same ∙ held)))
    (λ other. inr (other, sym (ap (λ found. unwrap_or found None) (get-set_other cells at cell o other)) ∙ held))

-- behind a command the cord in a cell is one that the command put there, or was there before it
abbrev Came : SessionState → Cells → Command → Reply → ℕ → CordState → Type 0
Came state cells command reply cell cord = ((name : List ℕ) × Puts (command, reply) name cell × (state.names name ≡ Some cord)) ⊎ ((held_in cells cell ≡ Some cord) × ¬ (Changes (command, reply) cell))

came-kept : (state : SessionState) (cells : Cells) (command : Command) (reply : Reply) (at cell : ℕ) (o : Option CordState) (cord : CordState) → held_in (slice_set cells at o) cell ≡ Some cord
    → (at ≡ cell → o ≡ Some cord → Came state cells command reply cell cord) → (at ≢ cell → ¬ (Changes (command, reply) cell)) → Came state cells command reply cell cord
came-kept state cells command reply at cell o cord held here other = ⊎_elim
    (λ (s : (at ≡ cell) × (o ≡ Some cord)). here s.0 s.1)
    (λ (s : (at ≢ cell) × (held_in cells cell ≡ Some cord)). inr (s.1, other s.0))
    (set-or-held cells at cell o cord held)

came-put : (p : ℕ) (state : SessionState) (cells : Cells) (a : List ℕ) (c cell : ℕ) (o : Option CordState) (cord : CordState) (e : Effect) → state.names a ≡ o
    → e ≡ with_own state cells a o (λ own. acting p state cells Put c (Some own) (held_in cells c) (with_name state.names a empty_cord) (replies.Done marks.Plain None))
    → held_in e.cells cell ≡ Some cord → Came state cells (commands.Put a c) e.reply cell cord
came-put p state cells a c cell None cord e own is held = subst (λ (z : Effect). held_in z.cells cell ≡ Some cord → Came state cells (commands.Put a c) z.reply cell cord) (sym is) (λ before. inr (before, λ changes. changes.1 tt)) held
came-put p state cells a c cell (Some x) cord e own is held = subst (λ (z : Effect). held_in z.cells cell ≡ Some cord → Came state cells (commands.Put a c) z.reply cell cord) (sym is)
    (λ after. came-kept state cells (commands.Put a c) (replies.Done marks.Plain None) c cell (Some x) cord after
    (λ same is_that. inl (a, ((refl, same), λ refusal. absurd refusal), own ∙ is_that))
    (λ other changes. other changes.0)) held

came-take : (p : ℕ) (state : SessionState) (cells : Cells) (a : List ℕ) (c cell : ℕ) (was : Option CordState) (cord : CordState) (e : Effect)
    → e ≡ acting p state cells Take c None was (with_given state.names a was) (done_or_empty c was)
    → held_in e.cells cell ≡ Some cord → Came state cells (commands.Take c a) e.reply cell cord
came-take p state cells a c cell was cord e is held = subst (λ (z : Effect). held_in z.cells cell ≡ Some cord → Came state cells (commands.Take c a) z.reply cell cord) (sym is)
    (λ after. came-kept state cells (commands.Take c a) (done_or_empty c was) c cell None cord after
    (λ same none. absurd (cc))
    (λ other changes. other changes.0)) held

came-peek : (p : ℕ) (state : SessionState) (cells : Cells) (a : List ℕ) (c cell : ℕ) (was : Option CordState) (cord : CordState) (e : Effect) → was ≡ held_in cells c
    → e ≡ acting p state cells Peek c None was (with_given state.names a was) (done_or_empty c was)
    → held_in e.cells cell ≡ Some cord → Came state cells (commands.Peek c a) e.reply cell cord
came-peek p state cells a c cell was cord e found is held = subst (λ (z : Effect). held_in z.cells cell ≡ Some cord → Came state cells (commands.Peek c a) z.reply cell cord) (sym is)
    (λ after. came-kept state cells (commands.Peek c a) (done_or_empty c was) c cell was cord after
    (λ same is_that. inr (ap (λ (at : ℕ). held_in cells at) (sym same) ∙ (sym found ∙ is_that), λ changes. absurd changes.0))
    (λ other changes. absurd changes.0)) held

came-swapped : (p : ℕ) (state : SessionState) (cells : Cells) (a : List ℕ) (c cell : ℕ) (own : CordState) (was : Option CordState) (cord : CordState) (e : Effect) → state.names a ≡ Some own
    → e ≡ acting p state cells Swap c (brought own was) was (with_given state.names a was) (done_or_empty c was)
    → held_in e.cells cell ≡ Some cord → Came state cells (commands.Swap a c) e.reply cell cord
came-swapped p state cells a c cell own None cord e mine is held = subst (λ (z : Effect). held_in z.cells cell ≡ Some cord → Came state cells (commands.Swap a c) z.reply cell cord) (sym is)
    (λ after. came-kept state cells (commands.Swap a c) (replies.Empty c) c cell None cord after
    (λ same none. absurd (cc))
    (λ other changes. other changes.0)) held
came-swapped p state cells a c cell own (Some lay) cord e mine is held = subst (λ (z : Effect). held_in z.cells cell ≡ Some cord → Came state cells (commands.Swap a c) z.reply cell cord) (sym is)
    (λ after. came-kept state cells (commands.Swap a c) (replies.Done marks.Plain None) c cell (Some own) cord after
    (λ same is_that. inl (a, ((refl, same), λ refusal. absurd refusal), mine ∙ is_that))
    (λ other changes. other changes.0)) held

came-swap : (p : ℕ) (state : SessionState) (cells : Cells) (a : List ℕ) (c cell : ℕ) (o : Option CordState) (cord : CordState) (e : Effect) → state.names a ≡ o
    → e ≡ with_own state cells a o (λ own. acting p state cells Swap c (brought own (held_in cells c)) (held_in cells c) (with_given state.names a (held_in cells c)) (done_or_empty c (held_in cells c)))
    → held_in e.cells cell ≡ Some cord → Came state cells (commands.Swap a c) e.reply cell cord
came-swap p state cells a c cell None cord e own is held = subst (λ (z : Effect). held_in z.cells cell ≡ Some cord → Came state cells (commands.Swap a c) z.reply cell cord) (sym is) (λ before. inr (before, λ changes. changes.1 tt)) held
came-swap p state cells a c cell (Some x) cord e own is held = came-swapped p state cells a c cell x (held_in cells c) cord e own is held

is_that : {X : Type 0} (x y : X) → Some x ≡ Some y → y ≡ x
is_that x y same = cc

came : (p : ℕ) (state : SessionState) (cells : Cells) (command : Command) (e : Effect) (cell : ℕ) (cord : CordState) → PlainEffect p state cells command e → held_in e.cells cell ≡ Some cord → Came state cells command e.reply cell cord
came p state cells (commands.Put a c) e cell cord is held = came-put p state cells a c cell (state.names a) cord e refl (is_that _ e is) held
came p state cells (commands.Take c a) e cell cord is held = came-take p state cells a c cell (held_in cells c) cord e (is_that _ e is) held
came p state cells (commands.Peek c a) e cell cord is held = came-peek p state cells a c cell (held_in cells c) cord e refl (is_that _ e is) held
came p state cells (commands.Swap a c) e cell cord is held = came-swap p state cells a c cell (state.names a) cord e refl (is_that _ e is) held
came p state cells command e cell cord is held = inr (ap (λ (z : Effect). held_in z.cells cell) (sym (quiet-effect p state cells command e is refl).effect_is) ∙ held, λ changes. absurd changes.0)

-- a name has the cord that it was given
set-name : (names : Environment) (a : List ℕ) (cord : CordState) → with_name names a cord a ≡ Some cord
set-name names a cord = cond_both (bytes_eq a a) (Some cord) (names a) (λ o. o ≡ Some cord) (λ yes. refl) (λ no. absurd (let yes = (bytes_eq-Decides a a).1 refl in cc))

-- a command that is done gives its name the cord that lies in its cell
abbrev Given : Environment → Cells → ℕ → Environment → List ℕ → Type 0
Given names cells cell later name = (cord : CordState) × (held_in cells cell ≡ Some cord) × (later name ≡ Some cord)

given-held : (names : Environment) (cells : Cells) (a name : List ℕ) (c cell : ℕ) (was : Option CordState) → a ≡ name → c ≡ cell → was ≡ held_in cells c → ¬ (IsRefusal (done_or_empty c was)) → Given names cells cell (with_given names a was) name
given-held names cells a name c cell None same at found done = absurd (done tt)
given-held names cells a name c cell (Some cord) same at found done =
    (cord, ap (λ (k : ℕ). held_in cells k) (sym at) ∙ sym found, ap (with_name names a cord) (sym same) ∙ set-name names a cord)

gets-swapped : (p : ℕ) (state : SessionState) (cells : Cells) (a name : List ℕ) (c cell : ℕ) (o : Option CordState) (e : Effect)
    → e ≡ with_own state cells a o (λ own. acting p state cells Swap c (brought own (held_in cells c)) (held_in cells c) (with_given state.names a (held_in cells c)) (done_or_empty c (held_in cells c)))
    → a ≡ name → c ≡ cell → ¬ (IsRefusal e.reply) → Given state.names cells cell e.state.names name
gets-swapped p state cells a name c cell None e is same at done = absurd (subst (λ (z : Effect). ¬ (IsRefusal z.reply)) is done tt)
gets-swapped p state cells a name c cell (Some own) e is same at done =
    subst (λ (z : Effect). ¬ (IsRefusal z.reply) → Given state.names cells cell z.state.names name) (sym is) (λ d. given-held state.names cells a name c cell (held_in cells c) same at refl d) done

gets : (p : ℕ) (state : SessionState) (cells : Cells) (command : Command) (e : Effect) (name : List ℕ) (cell : ℕ) → PlainEffect p state cells command e → Gets (command, e.reply) name cell → Given state.names cells cell e.state.names name
gets p state cells (commands.Take c a) e name cell is does = subst (λ (z : Effect). ¬ (IsRefusal z.reply) → Given state.names cells cell z.state.names name) (sym (is_that _ e is)) (λ d. given-held state.names cells a name c cell (held_in cells c) does.0.0 does.0.1 refl d) does.1
gets p state cells (commands.Peek c a) e name cell is does = subst (λ (z : Effect). ¬ (IsRefusal z.reply) → Given state.names cells cell z.state.names name) (sym (is_that _ e is)) (λ d. given-held state.names cells a name c cell (held_in cells c) does.0.0 does.0.1 refl d) does.1
gets p state cells (commands.Swap a c) e name cell is does = gets-swapped p state cells a name c cell (state.names a) e (is_that _ e is) does.0.0 does.0.1 does.1
gets p state cells command e name cell is does = absurd does.0

-- moments go on
moment-append : (moment : Moment) (xs ys : List (ℕ × Line)) → moment_after moment (xs ++ ys) ≡ moment_after (moment_after moment xs) ys
moment-append moment [] ys = refl
moment-append moment (x ∷ xs) ys = moment-append (changed_by moment x.0 (effect x.0 (moment.states x.0) moment.cells x.1.0)) xs ys

abbrev with_effect : Moment → ℕ → Effect → Moment
with_effect moment p e = record { states = replaced moment.states p e.state; cells = e.cells }

next-moment : (done : List (ℕ × Line)) (x : ℕ × Line) (e : Effect) → PlainEffect x.0 ((moment_after beginning done).states x.0) (moment_after beginning done).cells x.1.0 e
    → moment_after beginning (done ++ x ∷ []) ≡ with_effect (moment_after beginning done) x.0 e
next-moment done x e is = moment-append beginning done (x ∷ []) ∙ ap (changed_by (moment_after beginning done) x.0) is

-- after these lines each cell has what one of them put there
abbrev EachWasPut : List (ℕ × Line) → Type 0
EachWasPut done = (cell : ℕ) (cord : CordState) → held_in (moment_after beginning done).cells cell ≡ Some cord → WasPut done cell cord

nothing-held : (n cell : ℕ) (cord : CordState) → held_in (replicate n None) cell ≡ Some cord → ⊥
nothing-held zero cell cord held = let none : None ≡ Some cord = held in cc
nothing-held (suc n) zero cord held = let none : None ≡ Some cord = held in cc
nothing-held (suc n) (suc cell) cord held = nothing-held n cell cord held

stays-put : (done : List (ℕ × Line)) (x : ℕ × Line) (cell : ℕ) (cord : CordState) → WasPut done cell cord → ¬ (Changes x.1 cell) → WasPut (done ++ x ∷ []) cell cord
stays-put done x cell cord put still = record {
  earlier = put.earlier;
  session = put.session;
  line = put.line;
  later = put.later ++ x ∷ [];
  parts = ap (λ (ls : List (ℕ × Line)). ls ++ x ∷ []) put.parts ∙ append_assoc put.earlier ((put.session, put.line) ∷ put.later) (x ∷ []);
  name = put.name;
  puts = put.puts;
  own = put.own;
  stays = All-push (λ (y : ℕ × Line). ¬ (Changes y.1 cell)) put.later x put.stays still;
}

-- one line more
put-step : (done : List (ℕ × Line)) (x : ℕ × Line) (e : Effect) → PlainEffect x.0 ((moment_after beginning done).states x.0) (moment_after beginning done).cells x.1.0 e → x.1.1 ≡ e.reply → EachWasPut done → EachWasPut (done ++ x ∷ [])
put-step done x e is reply each cell cord held =
    let now : Moment = moment_after beginning done in
    let after : held_in e.cells cell ≡ Some cord = ap (λ (m : Moment). held_in m.cells cell) (sym (next-moment done x e is)) ∙ held in
    let how : Came (now.states x.0) now.cells x.1.0 x.1.1 cell cord = subst (λ (r : Reply). Came (now.states x.0) now.cells x.1.0 r cell cord) (sym reply) (came x.0 (now.states x.0) now.cells x.1.0 e cell cord is after) in
    ⊎_elim
    (λ (put : (name : List ℕ) × Puts x.1 name cell × ((now.states x.0).names name ≡ Some cord)).
    record {
      earlier = done;
      session = x.0;
      line = x.1;
      later = [];
      parts = refl;
      name = put.0;
      puts = put.1;
      own = put.2;
      stays = All-nil (λ (y : ℕ × Line). ¬ (Changes y.1 cell));
    })
    (λ (kept : (held_in now.cells cell ≡ Some cord) × ¬ (Changes x.1 cell)). stays-put done x cell cord (each cell cord kept.0) kept.1)
    how

-- all lines before some more; those play from the moment that they leave
abbrev PlaysOn : List (ℕ × Line) → List (ℕ × Line) → Type 0
PlaysOn done more = (history : List Entry) × Plays (moment_after beginning done).states (moment_after beginning done).cells more history

put-all : (xs done more : List (ℕ × Line)) → PlaysOn done (xs ++ more) → EachWasPut done → EachWasPut (done ++ xs) × PlaysOn (done ++ xs) more
put-all [] done more plays each = subst (λ (ls : List (ℕ × Line)). EachWasPut ls × PlaysOn ls more) (sym (append-nil done)) (each, plays)
put-all (x ∷ xs) done more plays each =
    let p = plays.1 in
    let on : PlaysOn (done ++ x ∷ []) (xs ++ more) = (p.3.0, subst (λ (m : Moment). Plays m.states m.cells (xs ++ more) p.3.0) (sym (next-moment done x p.0 p.1)) p.3.2) in
    subst (λ (ls : List (ℕ × Line)). EachWasPut ls × PlaysOn ls more) (append_assoc done (x ∷ []) xs) (put-all xs (done ++ x ∷ []) more on (put-step done x p.0 p.1 p.2 each))

pub was-put : (sessions : List Session) (books : List Book) (history : List Entry) (done rest : List (ℕ × Line)) (p : ℕ) (line : Line) (name : List ℕ) (cell : ℕ) → IsPlainRun sessions books history
    → run_order (length sessions) (lines_at sessions books) history ≡ done ++ (p, line) ∷ rest → Gets line name cell
    → (cord : CordState) × (cord_of (moment_after beginning (done ++ (p, line) ∷ [])) p name ≡ Some cord) × WasPut done cell cord
was-put sessions books history done rest p line name cell run order does =
    let begins : PlaysOn [] (done ++ (p, line) ∷ rest) = (history, subst (λ (xs : List (ℕ × Line)). Plays beginning.states beginning.cells xs history) order run.plays) in
    let all = put-all done [] ((p, line) ∷ rest) begins (λ c cord held. absurd (nothing-held 64 c cord held)) in
    let now : Moment = moment_after beginning done in
    let plays = all.1.1 in
    let given : Given (now.states p).names now.cells cell plays.0.state.names name = gets p (now.states p) now.cells line.0 plays.0 name cell plays.1 (subst (λ (r : Reply). Gets (line.0, r) name cell) plays.2 does) in
    let after : cord_of (moment_after beginning (done ++ (p, line) ∷ [])) p name ≡ plays.0.state.names name =
    ap (λ (m : Moment). cord_of m p name) (next-moment done (p, line) plays.0 plays.1) ∙ ap (λ (s : SessionState). s.names name) (replaced-here now.states p p plays.0.state refl) in
    (given.0, after ∙ given.2, all.0 cell given.0 given.1)
