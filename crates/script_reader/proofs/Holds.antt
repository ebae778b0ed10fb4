-- What is read is spelled: the items so far are those of the state so far.
use Rattle.std.proofs.Common.{◌≡◌, ◌≢◌, ℕ, ◌+◌, ◌<◌, ◌≤◌, Bool, true, false, cond, ltb, List, [], ◌∷◌, ◌++◌, length, map, Option, Some, None, Result, Ok, Err, refl, sym, ap, ◌∙◌, subst, arith, append_assoc, length-append}
use Rattle.std.specs.Prelude.{IfOk, is_none, codes}
use Rattle.std.specs.List.{list_any, flat_map}
use Rattle.std.specs.Str.{bytes_eq}
use Rattle.std.proofs.lemmas.Bool.{ltb-true, eqb-true, or_parts, both_ways}
use Rattle.std.proofs.lemmas.List.{append-nil, map-append}
use Rattle.std.proofs.lemmas.List.Concat.{flat_map-cons}
use Rattle.std.proofs.lemmas.Grind.{flat_map-append}
use Rattle.std.proofs.lemmas.Slice.Eq.{bytes_eq-Decides}
use Rattle.script_words.specs.declared.fault.Cause.TheVariants as causes
use Rattle.script_words.specs.Reading.{◌>>=◌}
use Rattle.script_words.proofs.Results.{bind_ok, if_ok, unless_ok, ok_is}
use Rattle.plain_cord.specs.declared.script.Command.{Command}
use Rattle.plain_cord.specs.declared.script.Session.{Session}
use Rattle.plain_cord.specs.declared.script.Script.{Script}
use Rattle.script_words.specs.declared.verbs.Setting.{Setting}
use Rattle.script_reader.specs.declared.progress.Settings.{Settings}
use Rattle.script_reader.specs.declared.progress.Item.{Item}
use Rattle.script_reader.specs.declared.progress.Item.TheVariants as items
use Rattle.script_reader.specs.declared.progress.Progress.{Progress}
use Rattle.script_reader.specs.declared.fault.ReadRefused.{ReadRefused}
use Rattle.script_reader.specs.ScriptReading.{Reads}
use Rattle.script_reader.specs.Scripts.{is_fresh, is_placed, is_called, chosen, with_command, with_end, entered, script_from, lines_of, lines_from, start, headed, read_of, is_header_line}
use Rattle.script_reader.specs.Spelling.{verb_for}
use Rattle.script_reader.specs.ScriptSpelling.{session_items, script_items, NoneIsCalled, NamesDiffer, commands_in, Spells, IsWritten, SpellsLines}
use Rattle.script_reader.specs.Faults.{accepted, run}
use Rattle.script_reader.proofs.ScriptLines.{written_lines, script_lines_found}
use Rattle.script_reader.proofs.SettingLaws.{AreOnce, chosen_once, once_given}
use Rattle.script_reader.proofs.Runs.{between, inside}

abbrev opened : Option Session → List Item
opened None = []
opened (Some s) = items.Begin s.name ∷ map items.Do s.commands

abbrev one_open : Option Session → ℕ
one_open None = 0
one_open (Some s) = 1

abbrev commands_open : Option Session → ℕ
commands_open None = 0
commands_open (Some s) = length s.commands

abbrev IsFresh : Option Session → List Session → Type 0
IsFresh None done = Unit {0}
IsFresh (Some s) done = list_any (is_called s.name) done ≡ false

record Holds (p : Progress) (said : List Item) : Type 0 where
  options : List Setting
  given : AreOnce options p.settings
  spelled : said ≡ script_items options p.done ++ opened p.current
  differ : NamesDiffer p.done
  few : length p.done + one_open p.current ≤ 16
  count : p.commands ≡ commands_in p.done + commands_open p.current
  short : p.commands ≤ 16384
  fresh : IsFresh p.current p.done

-- ---- what an accepted item tells

record IsAccepted (p : Progress) (item : Item) (q : Progress) : Type 0 where
  placed : is_placed p (verb_for item) ≡ true
  entered_so : entered p item ≡ Ok q

is_accepted : (p : Progress) (item : Item) (q : Progress) → accepted p item ≡ Ok q → IsAccepted p item q
is_accepted p item q e =
    let a = if_ok (is_placed p (verb_for item)) causes.Misplaced (entered p item) q e in
    record { placed = a.0; entered_so = a.1 }

-- ---- each item keeps what holds

keeps_setting : (s : Setting) (g : Settings) (done : List Session) (current : Option Session) (n : ℕ) (q : Progress) (said : List Item)
    → (let p : Progress = record { settings = g; done = done; current = current; commands = n } in Holds p said → is_fresh p ≡ true
    → (chosen g s >>= λ next. Ok (record p { settings = next })) ≡ Ok q → Holds q (said ++ items.Set s ∷ []))
keeps_setting s g done (Some x) n q said h placed e = absurd cc
keeps_setting s g (d ∷ ds) None n q said h placed e = let z : length (d ∷ ds) ≡ 0 = eqb-true (length (d ∷ ds)) 0 placed in absurd (omega arith)
keeps_setting s g [] None n q said h placed e =
    let a = bind_ok (chosen g s) (λ next. Ok (between next [] n)) q e in
    let o : List Item = map items.Set h.options in
    let front : said ≡ o = h.spelled ∙ append-nil (o ++ []) ∙ append-nil o in
    let whole : script_items (h.options ++ s ∷ []) [] ++ [] ≡ o ++ items.Set s ∷ [] =
    append-nil (map items.Set (h.options ++ s ∷ []) ++ []) ∙ append-nil (map items.Set (h.options ++ s ∷ [])) ∙ map-append items.Set h.options (s ∷ []) in
    subst (λ (r : Progress). Holds r (said ++ items.Set s ∷ [])) (ok_is (between a.0 [] n) q a.2)
    (record {
      options = h.options ++ s ∷ [];
      given = chosen_once h.options s g a.0 h.given a.1;
      spelled = ap (λ (l : List Item). l ++ items.Set s ∷ []) front ∙ sym whole;
      differ = tt;
      few = omega arith;
      count = h.count;
      short = h.short;
      fresh = tt;
    })

keeps_begin : (name : List ℕ) (g : Settings) (done : List Session) (current : Option Session) (n : ℕ) (q : Progress) (said : List Item)
    → (let p : Progress = record { settings = g; done = done; current = current; commands = n } in Holds p said → is_none current ≡ true
    → cond (list_any (is_called name) done) (Err causes.Duplicate) (cond (ltb (length done) 16) (Ok (inside g done name [] n)) (Err causes.Many)) ≡ Ok q → Holds q (said ++ items.Begin name ∷ []))
keeps_begin name g done (Some s) n q said h placed e = absurd cc
keeps_begin name g done None n q said h placed e =
    let a = unless_ok (list_any (is_called name) done) causes.Duplicate (cond (ltb (length done) 16) (Ok (inside g done name [] n)) (Err causes.Many)) q e in
    let b = if_ok (ltb (length done) 16) causes.Many (Ok (inside g done name [] n)) q a.1 in
    let room : length done < 16 = ltb-true (length done) 16 b.0 in
    subst (λ (r : Progress). Holds r (said ++ items.Begin name ∷ [])) (ok_is (inside g done name [] n) q b.1)
    (record {
      options = h.options;
      given = h.given;
      spelled = ap (λ (l : List Item). l ++ items.Begin name ∷ []) (h.spelled ∙ append-nil (script_items h.options done));
      differ = h.differ;
      few = omega arith;
      count = h.count;
      short = h.short;
      fresh = a.0;
    })

keeps_command : (c : Command) (g : Settings) (done : List Session) (current : Option Session) (n : ℕ) (q : Progress) (said : List Item)
    → (let p : Progress = record { settings = g; done = done; current = current; commands = n } in Holds p said → with_command p c current ≡ Ok q → Holds q (said ++ items.Do c ∷ []))
keeps_command c g done None n q said h e = absurd cc
keeps_command c g done (Some s) n q said h e =
    let a = if_ok (ltb n 16384) causes.Many (Ok (inside g done s.name (s.commands ++ c ∷ []) (n + 1))) q e in
    let room : n < 16384 = ltb-true n 16384 a.0 in
    let front : List Item = script_items h.options done in
    subst (λ (r : Progress). Holds r (said ++ items.Do c ∷ [])) (ok_is (inside g done s.name (s.commands ++ c ∷ []) (n + 1)) q a.1)
    (record {
      options = h.options;
      given = h.given;
      spelled = ap (λ (l : List Item). l ++ items.Do c ∷ []) h.spelled ∙ append_assoc front (items.Begin s.name ∷ map items.Do s.commands) (items.Do c ∷ [])
          ∙ ap (λ (l : List Item). front ++ items.Begin s.name ∷ l) (sym (map-append items.Do s.commands (c ∷ [])));
      differ = h.differ;
      few = h.few;
      count = omega (arith, h.count, length-append s.commands (c ∷ []));
      short = omega arith;
      fresh = h.fresh;
    })

called_none : (name : List ℕ) (s : Session) → is_called name s ≡ false → s.name ≢ name
called_none name s e same = both_ways (bytes_eq s.name name) e ((bytes_eq-Decides s.name name).1 same)

none_push : (name : List ℕ) (ds : List Session) (s : Session) → NoneIsCalled name ds → s.name ≢ name → NoneIsCalled name (ds ++ s ∷ [])
none_push name [] s h other = (other, tt)
none_push name (d ∷ ds) s h other = (h.0, none_push name ds s h.1 other)

differ_push : (ds : List Session) (s : Session) → NamesDiffer ds → list_any (is_called s.name) ds ≡ false → NamesDiffer (ds ++ s ∷ [])
differ_push [] s h fresh = (tt, tt)
differ_push (d ∷ ds) s h fresh =
    let f = or_parts (is_called s.name d) (list_any (is_called s.name) ds) fresh in
    (none_push d.name ds s h.0 (λ e. called_none s.name d f.0 (sym e)), differ_push ds s h.1 f.1)

commands_push : (ds : List Session) (s : Session) → commands_in (ds ++ s ∷ []) ≡ commands_in ds + length s.commands
commands_push [] s = omega arith
commands_push (d ∷ ds) s = omega (arith, commands_push ds s)

keeps_end : (g : Settings) (done : List Session) (current : Option Session) (n : ℕ) (q : Progress) (said : List Item)
    → (let p : Progress = record { settings = g; done = done; current = current; commands = n } in Holds p said → with_end p current ≡ Ok q → Holds q (said ++ items.End ∷ []))
keeps_end g done None n q said h e = absurd cc
keeps_end g done (Some s) n q said h e =
    let o : List Item = map items.Set h.options in
    let f : List Item = flat_map session_items done in
    let body : List Item = items.Begin s.name ∷ map items.Do s.commands in
    let more : flat_map session_items (done ++ s ∷ []) ≡ f ++ session_items s =
    flat_map-append session_items done (s ∷ []) ∙ ap (λ (l : List Item). f ++ l) (flat_map-cons session_items s [] ∙ append-nil (session_items s)) in
    let whole : (o ++ flat_map session_items (done ++ s ∷ [])) ++ [] ≡ ((o ++ f) ++ body) ++ items.End ∷ [] =
    append-nil (o ++ flat_map session_items (done ++ s ∷ [])) ∙ ap (λ (l : List Item). o ++ l) more ∙ sym (append_assoc o f (session_items s)) ∙ sym (append_assoc (o ++ f) body (items.End ∷ [])) in
    subst (λ (r : Progress). Holds r (said ++ items.End ∷ [])) (ok_is (between g (done ++ s ∷ []) n) q e)
    (record {
      options = h.options;
      given = h.given;
      spelled = ap (λ (l : List Item). l ++ items.End ∷ []) h.spelled ∙ sym whole;
      differ = differ_push done s h.differ h.fresh;
      few = omega (arith, h.few, length-append done (s ∷ []));
      count = omega (arith, h.count, commands_push done s);
      short = h.short;
      fresh = tt;
    })

keeps : (p : Progress) (item : Item) (q : Progress) (said : List Item) → Holds p said → accepted p item ≡ Ok q → Holds q (said ++ item ∷ [])
unfolding entered
keeps p (items.Set s) q said h e = let a = is_accepted p (items.Set s) q e in keeps_setting s p.settings p.done p.current p.commands q said h a.placed a.entered_so
keeps p (items.Begin name) q said h e = let a = is_accepted p (items.Begin name) q e in keeps_begin name p.settings p.done p.current p.commands q said h a.placed a.entered_so
keeps p (items.Do c) q said h e = let a = is_accepted p (items.Do c) q e in keeps_command c p.settings p.done p.current p.commands q said h a.entered_so
keeps p items.End q said h e = let a = is_accepted p items.End q e in keeps_end p.settings p.done p.current p.commands q said h a.entered_so

runs_hold : (more : List Item) (p q : Progress) (said : List Item) → Holds p said → run p more ≡ Ok q → Holds q (said ++ more)
runs_hold [] p q said h e = subst (λ (l : List Item). Holds q l) (sym (append-nil said)) (subst (λ (r : Progress). Holds r said) (ok_is p q e) h)
runs_hold (item ∷ more) p q said h e =
    let a = bind_ok (accepted p item) (λ r. run r more) q e in
    subst (λ (l : List Item). Holds q l) (append_assoc said (item ∷ []) more) (runs_hold more a.0 q (said ++ item ∷ []) (keeps p item a.0 said h a.1) a.2)

starts : Holds start []
starts = record { options = []; given = record { pool = refl; passes = refl; stride = refl }; spelled = refl; differ = tt; few = omega arith; count = refl; short = omega arith; fresh = tt }

-- ---- the whole

closed_spelled : (options : List Setting) (done : List Session) (current : Option Session) (said : List Item) → current ≡ None → said ≡ script_items options done ++ opened current → said ≡ script_items options done
closed_spelled options done current said none e = e ∙ ap (λ (o : Option Session). script_items options done ++ opened o) none ∙ append-nil (script_items options done)

headed_found : (lines : List (List ℕ)) (s : Script) → headed lines ≡ Ok s → (more : List (List ℕ)) × (lines ≡ codes "cords 1" ∷ more) × (lines_from 2 start more ≡ Ok s)
unfolding headed
headed_found [] s e = absurd cc
headed_found (line ∷ more) s e = by_test (is_header_line line) refl e
  where
    by_test : (t : Bool) → is_header_line line ≡ t → cond t (lines_from 2 start more) (Err (record { line = 1; cause = causes.Header })) ≡ Ok s → (rest : List (List ℕ)) × (line ∷ more ≡ codes "cords 1" ∷ rest) × (lines_from 2 start rest ≡ Ok s)
    by_test true is f = (more, ap (λ (l : List ℕ). l ∷ more) ((bytes_eq-Decides line (codes "cords 1")).0 is), f)
    by_test false is f = absurd cc

pub read_is_spelled : (bytes : List ℕ) (s : Script) → read_of bytes ≡ Ok s → Spells bytes s
read_is_spelled bytes s e =
    let a = headed_found (lines_of bytes) s e in
    let r = script_lines_found 2 start a.0 s a.2 in
    let h = runs_hold r.items start r.last [] starts r.ran in
    let none : commands_open r.last.current ≡ 0 = ap commands_open r.closed in
    let said : r.items ≡ script_items h.options r.last.done = closed_spelled h.options r.last.done r.last.current r.items r.closed h.spelled in
    subst (Spells bytes) r.script
    (record {
      lines = a.0;
      options = h.options;
      written = subst (IsWritten bytes) a.1 (written_lines bytes);
      spelled = subst (SpellsLines a.0) said r.spelled;
      given = once_given h.options r.last.settings (script_from r.last) h.given (record { pool = refl; passes = refl; stride = refl });
      differ = h.differ;
      few = omega (arith, h.few);
      short = omega (arith, h.count, h.short, none);
    })

pub is_found : (bytes : List ℕ) (r : Result Script ReadRefused) → Reads (λ s. s) r (read_of bytes) → IfOk r (λ s. Spells bytes s)
is_found bytes (Ok s) given = read_is_spelled bytes s given
is_found bytes (Err e) given = tt
