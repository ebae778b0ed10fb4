-- The lines of a script, both ways.
use Rattle.std.proofs.Common.{◌≡◌, ◌≢◌, ℕ, ◌+◌, Bool, true, false, cond, eqb, List, [], ◌∷◌, ◌++◌, Option, Some, None, Result, Ok, Err, refl, sym, ap, ◌∙◌, inl, inr, ◌≤◌, arith}
use Rattle.std.specs.Prelude.{◌⊎◌, nat_le}
use Rattle.std.specs.List.{list_all}
use Rattle.std.proofs.lemmas.Bool.{eqb-true, eqb-false, ne_eqb, cond_both, and_parts}
use Rattle.std.proofs.lemmas.Bool.Decides.{nat_tests}
use Rattle.script_words.specs.Words.{is_letter, is_name_byte}
use Rattle.script_words.proofs.TableLaws.{is_word, built_word}
use Rattle.script_words.specs.declared.fault.Cause.{Cause}
use Rattle.script_words.specs.declared.fault.Cause.TheVariants as causes
use Rattle.script_reader.specs.declared.fault.ScriptError.{ScriptError}
use Rattle.script_words.specs.declared.verbs.Verb.{Verb}
use Rattle.script_words.specs.declared.verbs.FirstWord.TheVariants as firsts
use Rattle.script_reader.specs.declared.progress.Item.{Item}
use Rattle.plain_cord.specs.declared.script.Session.{Session}
use Rattle.plain_cord.specs.declared.script.Script.{Script}
use Rattle.script_reader.specs.declared.progress.Progress.{Progress}
use Rattle.script_words.specs.Reading.{◌>>=◌}
use Rattle.script_reader.specs.Lines.{verb_at, item_at}
use Rattle.script_reader.specs.Scripts.{onto, lines_of, is_ignored, is_placed, entered, said, step, located, script_from, script_of, lines_from}
use Rattle.script_words.specs.Spelling.{joined}
use Rattle.script_reader.specs.Spelling.{verb_for, SpellsItem}
use Rattle.script_reader.specs.ScriptSpelling.{HasNoNewline, IsWritten, SpellsLines}
use Rattle.script_reader.specs.Faults.{accepted, run}
use Rattle.script_words.proofs.Results.{bind_ok, if_ok}
use Rattle.script_reader.proofs.LineLaws.{verb_found, item_found, item_again, spelled_verb}

-- ---- bytes as lines

cons_not_nil : (b : ℕ) (bs : List ℕ) → b ∷ bs ≢ []
cons_not_nil b bs e = cc

onto_written : (b : ℕ) (bs : List ℕ) (ls : List (List ℕ)) → b ≢ 10 → IsWritten bs ls → IsWritten (b ∷ bs) (onto b ls)
onto_written b bs [] other h = ((other, tt), inr (ap (λ (t : List ℕ). b ∷ t) h, cons_not_nil b [], refl))
onto_written b bs (l ∷ ls) other h = ((other, h.0), either h.1)
  where
    either : ((after : List ℕ) × (bs ≡ l ++ 10 ∷ after) × IsWritten after ls) ⊎ ((bs ≡ l) × (l ≢ []) × (ls ≡ []))
        → ((after : List ℕ) × (b ∷ bs ≡ (b ∷ l) ++ 10 ∷ after) × IsWritten after ls) ⊎ ((b ∷ bs ≡ b ∷ l) × (b ∷ l ≢ []) × (ls ≡ []))
    either (inl k) = inl (k.0, ap (λ (t : List ℕ). b ∷ t) k.1, k.2)
    either (inr k) = inr (ap (λ (t : List ℕ). b ∷ t) k.0, cons_not_nil b l, k.2)

pub written_lines : (bytes : List ℕ) → IsWritten bytes (lines_of bytes)
unfolding lines_of
written_lines [] = refl
written_lines (b ∷ bs) =
    cond_both (eqb b 10) ([] ∷ lines_of bs) (onto b (lines_of bs)) (λ ls. IsWritten (b ∷ bs) ls)
    (λ e. (tt, inl (bs, ap (λ (k : ℕ). k ∷ bs) (eqb-true b 10 e), written_lines bs)))
    (λ e. onto_written b bs (lines_of bs) (eqb-false b 10 e) (written_lines bs))

pub ended_line : (l after : List ℕ) → HasNoNewline l → lines_of (l ++ 10 ∷ after) ≡ l ∷ lines_of after
unfolding lines_of
ended_line [] after h = refl
ended_line (c ∷ cs) after h = rw (ne_eqb c 10 h.0) (ap (onto c) (ended_line cs after h.1))

pub last_line : (c : ℕ) (cs : List ℕ) → HasNoNewline (c ∷ cs) → lines_of (c ∷ cs) ≡ (c ∷ cs) ∷ []
unfolding lines_of
last_line c [] h = rw (ne_eqb c 10 h.0) refl
last_line c (d ∷ ds) h = rw (ne_eqb c 10 h.0) (ap (onto c) (last_line d ds h.1))

pub lines_of_none : lines_of [] ≡ []
unfolding lines_of
lines_of_none = refl

pub lines_again : (bytes : List ℕ) (lines : List (List ℕ)) → IsWritten bytes lines → lines_of bytes ≡ lines
lines_again bytes [] h = ap lines_of h ∙ lines_of_none
lines_again bytes (l ∷ ls) h = either l h.0 (λ after k. lines_again after ls k) h.1
  where
    either : (l : List ℕ) → HasNoNewline l → ((after : List ℕ) → IsWritten after ls → lines_of after ≡ ls)
        → ((after : List ℕ) × (bytes ≡ l ++ 10 ∷ after) × IsWritten after ls) ⊎ ((bytes ≡ l) × (l ≢ []) × (ls ≡ [])) → lines_of bytes ≡ l ∷ ls
    either l free again (inl k) = ap lines_of k.1 ∙ ended_line l k.0 free ∙ ap (λ (r : List (List ℕ)). l ∷ r) (again k.0 k.2)
    either [] free again (inr k) = absurd (k.1 refl)
    either (c ∷ cs) free again (inr k) = ap lines_of k.0 ∙ last_line c cs free ∙ ap (λ (r : List (List ℕ)). (c ∷ cs) ∷ r) (sym k.2)

-- ---- lines as items

said_found : (p : Progress) (line : List ℕ) (q : Progress) → said p line ≡ Ok q → (item : Item) × SpellsItem line item × (accepted p item ≡ Ok q)
unfolding said
said_found p line q e =
    let a = bind_ok (verb_at line) (λ verb. cond (is_placed p verb.0) (item_at verb.0 verb.1 >>= λ item. entered p item) (Err causes.Misplaced)) q e in
    let b = if_ok (is_placed p a.0.0) causes.Misplaced (item_at a.0.0 a.0.1 >>= λ item. entered p item) q a.2 in
    let c = bind_ok (item_at a.0.0 a.0.1) (λ item. entered p item) q b.1 in
    let f = item_found a.0.0 a.0.1 c.0 c.1 in
    let v = verb_found line a.0 a.1 in
    let may : Verb → Result Progress Cause = λ v. cond (is_placed p v) (entered p c.0) (Err causes.Misplaced) in (
      c.0,
      record { word = v.word; rest = a.0.1; words = v.words; built = v.built ∙ ap firsts.Built (sym f.0); says = f.1 },
      ap may f.0 ∙ ap (λ (t : Bool). cond t (entered p c.0) (Err causes.Misplaced)) b.0 ∙ c.2,
    )

pub said_again : (p : Progress) (line : List ℕ) (item : Item) → SpellsItem line item → said p line ≡ accepted p item
unfolding said
said_again p line item h = rw (spelled_verb line item h, item_again item h.rest h.says) refl

-- a line that begins with a letter isn't ignored
letter_said : (c : ℕ) → is_letter c ≡ true → c ≢ 35
letter_said c is same = let three = and_parts (nat_le 97 c) (nat_le c 122) is in let high : 97 ≤ c = grind (arith, nat_tests) in absurd (omega arith)

not_ignored : (word : List ℕ) (rest : Option (List ℕ)) → is_word word ≡ true → is_ignored (joined word rest) ≡ false
not_ignored [] rest is = absurd cc
not_ignored (c ∷ cs) None is = ne_eqb c 35 (letter_said c (and_parts (is_letter c) (list_all is_name_byte (c ∷ cs)) is).0)
not_ignored (c ∷ cs) (Some rest) is = ne_eqb c 35 (letter_said c (and_parts (is_letter c) (list_all is_name_byte (c ∷ cs)) is).0)

pub record Ran (p : Progress) (lines : List (List ℕ)) (s : Script) : Type 0 where
  pub items : List Item
  pub last : Progress
  pub spelled : SpellsLines lines items
  pub ran : run p items ≡ Ok last
  pub closed : last.current ≡ None
  pub script : script_from last ≡ s

located_ok : (n : ℕ) (r : Result Progress Cause) (more : Progress → Result Script ScriptError) (s : Script) → located n r more ≡ Ok s → (q : Progress) × (r ≡ Ok q) × (more q ≡ Ok s)
located_ok n (Ok q) more s e = (q, refl, e)
located_ok n (Err c) more s e = absurd cc

script_found : (n : ℕ) (p : Progress) (o : Option Session) (s : Script) → script_of n p o ≡ Ok s → (o ≡ None) × (script_from p ≡ s)
script_found n p None s e = (refl, cc)
script_found n p (Some session) s e = absurd cc

pub step_found : (p : Progress) (line : List ℕ) (q : Progress) → step p line ≡ Ok q → ((is_ignored line ≡ true) × (p ≡ q)) ⊎ ((item : Item) × SpellsItem line item × (accepted p item ≡ Ok q))
unfolding step
step_found p line q e = by_test (is_ignored line) refl e
  where
    by_test : (t : Bool) → is_ignored line ≡ t → cond t (Ok p) (said p line) ≡ Ok q → ((is_ignored line ≡ true) × (p ≡ q)) ⊎ ((item : Item) × SpellsItem line item × (accepted p item ≡ Ok q))
    by_test true is f = inl (is, cc)
    by_test false is f = inr (said_found p line q f)

pub script_lines_found : (n : ℕ) (p : Progress) (lines : List (List ℕ)) (s : Script) → lines_from n p lines ≡ Ok s → Ran p lines s
unfolding lines_from
script_lines_found n p [] s e = let f = script_found n p p.current s e in record { items = []; last = p; spelled = refl; ran = refl; closed = f.0; script = f.1 }
script_lines_found n p (line ∷ lines) s e =
    let a = located_ok n (step p line) (λ q. lines_from (n + 1) q lines) s e in
    either a.0 (step_found p line a.0 a.1) (script_lines_found (n + 1) a.0 lines s a.2)
  where
    either : (q : Progress) → ((is_ignored line ≡ true) × (p ≡ q)) ⊎ ((item : Item) × SpellsItem line item × (accepted p item ≡ Ok q)) → Ran q lines s → Ran p (line ∷ lines) s
    either q (inl h) r = record { items = r.items; last = r.last; spelled = inl (h.0, r.spelled); ran = ap (λ (x : Progress). run x r.items) h.1 ∙ r.ran; closed = r.closed; script = r.script }
    either q (inr h) r = record { items = h.0 ∷ r.items; last = r.last; spelled = inr (h.0, r.items, refl, h.1, r.spelled); ran = ap (λ (x : Result Progress Cause). x >>= λ q. run q r.items) h.2 ∙ r.ran; closed = r.closed; script = r.script }

pub ignored_step : (p : Progress) (line : List ℕ) → is_ignored line ≡ true → step p line ≡ Ok p
unfolding step
ignored_step p line h = rw h refl

pub said_step : (p : Progress) (line : List ℕ) (item : Item) → SpellsItem line item → step p line ≡ accepted p item
unfolding step
said_step p line item h =
    let quiet : is_ignored line ≡ false = ap is_ignored h.words ∙ not_ignored h.word h.rest (built_word h.word (verb_for item) h.built) in
    rw quiet (said_again p line item h)

pub script_lines_again : (n : ℕ) (p : Progress) (lines : List (List ℕ)) (items : List Item) (q : Progress) → SpellsLines lines items → run p items ≡ Ok q → q.current ≡ None → lines_from n p lines ≡ Ok (script_from q)
unfolding lines_from
script_lines_again n p [] items q spelled ran closed =
    let same : p ≡ q = (let e : run p [] ≡ Ok q = ap (run p) (sym spelled) ∙ ran in cc) in
    ap (λ (x : Progress). script_of n x x.current) same ∙ ap (script_of n q) closed
script_lines_again n p (line ∷ lines) items q (inl h) ran closed =
    ap (λ (r : Result Progress Cause). located n r (λ x. lines_from (n + 1) x lines)) (ignored_step p line h.0) ∙ script_lines_again (n + 1) p lines items q h.1 ran closed
script_lines_again n p (line ∷ lines) items q (inr h) ran closed =
    let one : run p (h.0 ∷ h.1) ≡ Ok q = ap (run p) (sym h.2) ∙ ran in
    let a = bind_ok (accepted p h.0) (λ x. run x h.1) q one in
    ap (λ (r : Result Progress Cause). located n r (λ x. lines_from (n + 1) x lines)) (said_step p line h.0 h.3 ∙ a.1) ∙ script_lines_again (n + 1) a.0 lines h.1 q h.4 a.2 closed
