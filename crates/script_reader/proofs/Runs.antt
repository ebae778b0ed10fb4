-- The items of a script are run: what is spelled is read.
use Rattle.std.proofs.Common.{◌≡◌, ◌≢◌, ℕ, suc, ◌+◌, ◌<◌, ◌≤◌, Bool, true, false, cond, List, [], ◌∷◌, ◌++◌, length, map, Some, None, Result, Ok, Err, refl, sym, ap, ◌∙◌, subst, arith, append_assoc, length-append}
use Rattle.std.specs.Prelude.{codes}
use Rattle.std.specs.List.{list_any, flat_map}
use Rattle.std.specs.Str.{bytes_eq}
use Rattle.std.proofs.lemmas.Bool.{lt-ltb, or_from, false_from_ne_true}
use Rattle.std.proofs.lemmas.List.{append-nil}
use Rattle.std.proofs.lemmas.List.Concat.{flat_map-cons}
use Rattle.std.proofs.lemmas.Slice.Eq.{bytes_eq-Decides}
use Rattle.script_words.specs.declared.fault.Cause.{Cause}
use Rattle.script_words.specs.declared.fault.Cause.TheVariants as causes
use Rattle.script_words.specs.Reading.{◌>>=◌}
use Rattle.plain_cord.specs.declared.script.Command.{Command}
use Rattle.plain_cord.specs.declared.script.Session.{Session}
use Rattle.plain_cord.specs.declared.script.Script.{Script}
use Rattle.script_words.specs.declared.verbs.Setting.{Setting}
use Rattle.script_reader.specs.declared.progress.Settings.{Settings}
use Rattle.script_reader.specs.declared.progress.Item.{Item}
use Rattle.script_reader.specs.declared.progress.Item.TheVariants as items
use Rattle.script_reader.specs.declared.progress.Progress.{Progress}
use Rattle.script_reader.specs.Scripts.{is_placed, is_called, chosen, entered, script_from, lines_from, start, headed, read_of}
use Rattle.script_reader.specs.Spelling.{verb_for}
use Rattle.script_reader.specs.ScriptSpelling.{session_items, script_items, NoneIsCalled, NamesDiffer, commands_in, Spells}
use Rattle.script_reader.specs.Faults.{accepted, run}
use Rattle.script_reader.proofs.ScriptLines.{lines_again, script_lines_again}
use Rattle.script_reader.proofs.SettingLaws.{Goes, chosen_goes, goes_nowhere, NumbersAre, numbers_end}

-- between sessions, and in one
abbrev pub between : Settings → List Session → ℕ → Progress
between g done n = record { settings = g; done = done; current = None; commands = n }

abbrev pub inside : Settings → List Session → List ℕ → List Command → ℕ → Progress
inside g done name said n = record { settings = g; done = done; current = Some (record { name = name; commands = said }); commands = n }

run_append : (p : Progress) (xs ys : List Item) → run p (xs ++ ys) ≡ (run p xs >>= λ q. run q ys)
run_append p [] ys = refl
run_append p (x ∷ xs) ys =
    elim (accepted p x) as (λ r. (r >>= λ q. run q (xs ++ ys)) ≡ ((r >>= λ q. run q xs) >>= λ q. run q ys)) [
      | Ok q ↦ run_append q xs ys
      | Err c ↦ refl
    ]

-- ---- options

accepts : (p : Progress) (item : Item) (r : Result Progress Cause) → is_placed p (verb_for item) ≡ true → entered p item ≡ r → accepted p item ≡ r
accepts p item r placed e = ap (λ (t : Bool). cond t (entered p item) (Err causes.Misplaced)) placed ∙ e

one_setting : (g next : Settings) (s : Setting) → chosen g s ≡ Ok next → accepted (between g [] 0) (items.Set s) ≡ Ok (between next [] 0)
unfolding entered
one_setting g next s e =
    accepts (between g [] 0) (items.Set s) (Ok (between next [] 0)) refl
    (ap (λ (r : Result Settings Cause). let x : Result Progress Cause = r >>= λ h. Ok (between h [] 0) in x) e)

settings_run : (ss : List Setting) (g end : Settings) → Goes g ss end → run (between g [] 0) (map items.Set ss) ≡ Ok (between end [] 0)
settings_run [] g end h = ap (λ (x : Settings). Ok (between x [] 0)) (goes_nowhere g end h)
settings_run (s ∷ ss) g end h =
    let c = chosen_goes g s ss end h in
    ap (λ (x : Result Progress Cause). x >>= λ q. run q (map items.Set ss)) (one_setting g c.0 s c.1) ∙ settings_run ss c.0 end c.2

-- ---- sessions

one_command : (g : Settings) (done : List Session) (name : List ℕ) (said : List Command) (n : ℕ) (c : Command) → n < 16384
    → accepted (inside g done name said n) (items.Do c) ≡ Ok (inside g done name (said ++ c ∷ []) (n + 1))
unfolding entered
one_command g done name said n c lt =
    accepts (inside g done name said n) (items.Do c) (Ok (inside g done name (said ++ c ∷ []) (n + 1))) refl
    (ap (λ (t : Bool). let x : Result Progress Cause = cond t (Ok (inside g done name (said ++ c ∷ []) (n + 1))) (Err causes.Many) in x) (lt-ltb n 16384 lt))

commands_run : (cs : List Command) (g : Settings) (done : List Session) (name : List ℕ) (said : List Command) (n : ℕ) → n + length cs ≤ 16384
    → run (inside g done name said n) (map items.Do cs) ≡ Ok (inside g done name (said ++ cs) (n + length cs))
commands_run [] g done name said n le = ap (λ (l : List Command). Ok (inside g done name l n)) (sym (append-nil said)) ∙ ap (λ (k : ℕ). Ok (inside g done name (said ++ []) k)) (let e : n ≡ n + 0 = omega arith in e)
commands_run (c ∷ cs) g done name said n le =
    ap (λ (x : Result Progress Cause). x >>= λ q. run q (map items.Do cs)) (one_command g done name said n c (omega arith))
    ∙ commands_run cs g done name (said ++ c ∷ []) (n + 1) (omega arith)
    ∙ ap (λ (l : List Command). Ok (inside g done name l (n + 1 + length cs))) (append_assoc said (c ∷ []) cs)
    ∙ ap (λ (k : ℕ). Ok (inside g done name (said ++ c ∷ cs) k)) (let e : n + 1 + length cs ≡ n + suc (length cs) = omega arith in e)

begins : (g : Settings) (done : List Session) (n : ℕ) (name : List ℕ) → list_any (is_called name) done ≡ false → length done < 16
    → accepted (between g done n) (items.Begin name) ≡ Ok (inside g done name [] n)
unfolding entered
begins g done n name fresh lt = accepts (between g done n) (items.Begin name) (Ok (inside g done name [] n)) refl (rw (fresh, lt-ltb (length done) 16 lt) refl)

closes : (g : Settings) (done : List Session) (name : List ℕ) (said : List Command) (n : ℕ)
    → run (inside g done name said n) (items.End ∷ []) ≡ Ok (between g (done ++ record { name = name; commands = said } ∷ []) n)
unfolding entered
closes g done name said n =
    ap (λ (x : Result Progress Cause). x >>= λ q. run q []) (accepts (inside g done name said n) items.End (Ok (between g (done ++ record { name = name; commands = said } ∷ []) n)) refl refl)

session_run : (s : Session) (g : Settings) (done : List Session) (n : ℕ) → list_any (is_called s.name) done ≡ false → length done < 16
    → n + length s.commands ≤ 16384 → run (between g done n) (session_items s) ≡ Ok (between g (done ++ s ∷ []) (n + length s.commands))
session_run s g done n fresh few short =
    ap (λ (x : Result Progress Cause). x >>= λ q. run q (map items.Do s.commands ++ items.End ∷ [])) (begins g done n s.name fresh few)
    ∙ run_append (inside g done s.name [] n) (map items.Do s.commands) (items.End ∷ [])
    ∙ ap (λ (x : Result Progress Cause). x >>= λ q. run q (items.End ∷ [])) (commands_run s.commands g done s.name [] n short)
    ∙ closes g done s.name s.commands (n + length s.commands)

differ_same : (x y : List ℕ) → x ≢ y → bytes_eq x y ≡ false
differ_same x y other = false_from_ne_true (bytes_eq x y) (λ t. other ((bytes_eq-Decides x y).0 t))

none_called : (name : List ℕ) (ds : List Session) (s : Session) (ss : List Session) → NoneIsCalled name (ds ++ s ∷ ss) → s.name ≢ name
none_called name [] s ss h = h.0
none_called name (d ∷ ds) s ss h = none_called name ds s ss h.1

fresh_from : (done : List Session) (s : Session) (ss : List Session) → NamesDiffer (done ++ s ∷ ss) → list_any (is_called s.name) done ≡ false
fresh_from [] s ss h = refl
fresh_from (d ∷ ds) s ss h = or_from (is_called s.name d) (list_any (is_called s.name) ds) (differ_same d.name s.name (λ e. none_called d.name ds s ss h.0 (sym e))) (fresh_from ds s ss h.1)

sessions_run : (ss : List Session) (g : Settings) (done : List Session) (n : ℕ) → NamesDiffer (done ++ ss) → length done + length ss ≤ 16 → n + commands_in ss ≤ 16384
    → run (between g done n) (flat_map session_items ss) ≡ Ok (between g (done ++ ss) (n + commands_in ss))
sessions_run [] g done n differ few short = ap (λ (l : List Session). Ok (between g l n)) (sym (append-nil done)) ∙ ap (λ (k : ℕ). Ok (between g (done ++ []) k)) (let e : n ≡ n + 0 = omega arith in e)
sessions_run (s ∷ ss) g done n differ few short =
    ap (run (between g done n)) (flat_map-cons session_items s ss)
    ∙ run_append (between g done n) (session_items s) (flat_map session_items ss)
    ∙ ap (λ (x : Result Progress Cause). x >>= λ q. run q (flat_map session_items ss)) (session_run s g done n (fresh_from done s ss differ) (omega arith) (omega arith))
    ∙ sessions_run ss g (done ++ s ∷ []) (n + length s.commands) (subst NamesDiffer (sym (append_assoc done (s ∷ []) ss)) differ) (omega (arith, length-append done (s ∷ []))) (omega arith)
    ∙ ap (λ (l : List Session). Ok (between g l (n + length s.commands + commands_in ss))) (append_assoc done (s ∷ []) ss)
    ∙ ap (λ (k : ℕ). Ok (between g (done ++ s ∷ ss) k)) (let e : n + length s.commands + commands_in ss ≡ n + (length s.commands + commands_in ss) = omega arith in e)

-- ---- the whole

headed_again : (lines : List (List ℕ)) → headed (codes "cords 1" ∷ lines) ≡ lines_from 2 start lines
unfolding headed
headed_again lines = refl

same_script : (g : Settings) (n : ℕ) (s : Script) → NumbersAre g s → script_from (between g s.sessions n) ≡ s
same_script g n s h =
    ap (λ (k : ℕ). let t : Script = record { pool = k; passes = (script_from (between g s.sessions n)).passes; stride = (script_from (between g s.sessions n)).stride; sessions = s.sessions } in t) h.pool
    ∙ ap (λ (k : ℕ). let t : Script = record { pool = s.pool; passes = k; stride = (script_from (between g s.sessions n)).stride; sessions = s.sessions } in t) h.passes
    ∙ ap (λ (k : ℕ). let t : Script = record { pool = s.pool; passes = s.passes; stride = k; sessions = s.sessions } in t) h.stride

pub spelled_is_read : (bytes : List ℕ) (s : Script) → Spells bytes s → read_of bytes ≡ Ok s
spelled_is_read bytes s h =
    let e = numbers_end h.options s h.given in
    let ran : run start (script_items h.options s.sessions) ≡ Ok (between e.0 s.sessions (0 + commands_in s.sessions)) =
    run_append start (map items.Set h.options) (flat_map session_items s.sessions)
    ∙ ap (λ (x : Result Progress Cause). x >>= λ q. run q (flat_map session_items s.sessions)) (settings_run h.options (start.settings) e.0 e.1)
    ∙ sessions_run s.sessions e.0 [] 0 h.differ (omega (arith, h.few)) (omega (arith, h.short)) in
    ap headed (lines_again bytes (codes "cords 1" ∷ h.lines) h.written) ∙ headed_again h.lines
    ∙ script_lines_again 2 start h.lines (script_items h.options s.sessions) (between e.0 s.sessions (0 + commands_in s.sessions)) h.spelled ran refl
    ∙ ap (λ (t : Script). Ok t) (same_script e.0 (0 + commands_in s.sessions) s e.2)
