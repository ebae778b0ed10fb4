-- The first fault, both ways.
use Rattle.std.proofs.Common.{◌≡◌, ℕ, suc, ◌+◌, Bool, true, false, cond, List, [], ◌∷◌, ◌++◌, length, Option, Some, None, Result, Ok, Err, refl, sym, ap, ◌∙◌, subst, inl, inr, arith}
use Rattle.std.specs.Prelude.{◌⊎◌, is_some, codes}
use Rattle.std.proofs.lemmas.Slice.Eq.{bytes_eq-Decides}
use Rattle.std.proofs.lemmas.Bool.{both_ways}
use Rattle.script_words.specs.declared.fault.Cause.{Cause}
use Rattle.script_words.specs.declared.fault.Cause.TheVariants as causes
use Rattle.script_reader.specs.declared.fault.ScriptError.{ScriptError}
use Rattle.script_reader.specs.declared.progress.Item.{Item}
use Rattle.plain_cord.specs.declared.script.Session.{Session}
use Rattle.plain_cord.specs.declared.script.Script.{Script}
use Rattle.script_reader.specs.declared.progress.Progress.{Progress}
use Rattle.script_reader.specs.declared.fault.ReadRefused.{ReadRefused}
use Rattle.script_reader.specs.declared.fault.ReadRefused.TheVariants as reads
use Rattle.script_words.specs.Reading.{◌>>=◌}
use Rattle.script_reader.specs.ScriptReading.{Reads}
use Rattle.script_reader.specs.Scripts.{is_ignored, step, located, script_of, lines_from, lines_of, start, is_header_line, headed, read_of}
use Rattle.script_reader.specs.Spelling.{SpellsItem}
use Rattle.script_reader.specs.ScriptSpelling.{IsWritten, SpellsLines}
use Rattle.script_reader.specs.Faults.{accepted, run, IsLineFault, IsUnended, IsFirstFault}
use Rattle.script_words.proofs.Results.{bind_ok}
use Rattle.script_reader.proofs.ScriptLines.{step_found, ignored_step, said_step, written_lines, lines_again}

abbrev at : ℕ → Cause → ScriptError
at n c = record { line = n; cause = c }

-- a line that may stand there, put in front
one_more : (n : ℕ) (p q : Progress) (line : List ℕ) (lines : List (List ℕ)) (e : ScriptError) → ((is_ignored line ≡ true) × (p ≡ q)) ⊎ ((item : Item) × SpellsItem line item × (accepted p item ≡ Ok q))
    → IsLineFault (n + 1) q lines e ⊎ IsUnended (n + 1) q lines e → IsLineFault n p (line ∷ lines) e ⊎ IsUnended n p (line ∷ lines) e
one_more n p q line lines e (inl h) (inl f) = inl (record { before = line ∷ f.before; line = f.line; after = f.after; said = f.said; progress = f.progress; split = ap (λ (l : List (List ℕ)). line ∷ l) f.split; spelled = inl (h.0, f.spelled); ran = ap (λ (x : Progress). run x f.said) h.1 ∙ f.ran; cause = f.cause; number = omega (arith, f.number) })
one_more n p q line lines e (inl h) (inr f) = inr (record { said = f.said; progress = f.progress; spelled = inl (h.0, f.spelled); ran = ap (λ (x : Progress). run x f.said) h.1 ∙ f.ran; inside = f.inside; cause = f.cause; number = omega (arith, f.number) })
one_more n p q line lines e (inr h) (inl f) = inl (record { before = line ∷ f.before; line = f.line; after = f.after; said = h.0 ∷ f.said; progress = f.progress; split = ap (λ (l : List (List ℕ)). line ∷ l) f.split; spelled = inr (h.0, f.said, refl, h.1, f.spelled); ran = ap (λ (x : Result Progress Cause). x >>= λ r. run r f.said) h.2 ∙ f.ran; cause = f.cause; number = omega (arith, f.number) })
one_more n p q line lines e (inr h) (inr f) = inr (record { said = h.0 ∷ f.said; progress = f.progress; spelled = inr (h.0, f.said, refl, h.1, f.spelled); ran = ap (λ (x : Result Progress Cause). x >>= λ r. run r f.said) h.2 ∙ f.ran; inside = f.inside; cause = f.cause; number = omega (arith, f.number) })

unended_found : (n : ℕ) (p : Progress) (o : Option Session) (e : ScriptError) → p.current ≡ o → script_of n p o ≡ Err e → IsUnended n p [] e
unended_found n p None e is f = absurd cc
unended_found n p (Some s) e is f =
    let same : at n causes.Unended ≡ e = cc in
    record { said = []; progress = p; spelled = refl; ran = refl; inside = ap is_some is; cause = sym (ap (λ (x : ScriptError). x.cause) same); number = sym (ap (λ (x : ScriptError). x.line) same) ∙ (let z : n ≡ n + 0 = omega arith in z) }

pub lines_fault : (n : ℕ) (p : Progress) (lines : List (List ℕ)) (e : ScriptError) → lines_from n p lines ≡ Err e → IsLineFault n p lines e ⊎ IsUnended n p lines e
unfolding lines_from
lines_fault n p [] e f = inr (unended_found n p p.current e refl f)
lines_fault n p (line ∷ lines) e f = by_step (step p line) refl (λ q g. lines_fault (n + 1) q lines e g) f
  where
    by_step : (r : Result Progress Cause) → step p line ≡ r → ((q : Progress) → lines_from (n + 1) q lines ≡ Err e → IsLineFault (n + 1) q lines e ⊎ IsUnended (n + 1) q lines e)
        → located n r (λ q. lines_from (n + 1) q lines) ≡ Err e → IsLineFault n p (line ∷ lines) e ⊎ IsUnended n p (line ∷ lines) e
    by_step (Ok q) is more g = one_more n p q line lines e (step_found p line q is) (more q g)
    by_step (Err c) is more g =
        let same : at n c ≡ e = cc in
        inl (record { before = []; line = line; after = lines; said = []; progress = p; split = refl; spelled = refl; ran = refl; cause = is ∙ ap (λ (x : ScriptError). Err x.cause) same; number = sym (ap (λ (x : ScriptError). x.line) same) ∙ (let z : n ≡ n + 0 = omega arith in z) })

pub fault_found : (bytes : List ℕ) (e : ScriptError) → read_of bytes ≡ Err e → IsFirstFault bytes e
unfolding headed
fault_found bytes e f = by_lines (lines_of bytes) refl f
  where
    by_header : (line : List ℕ) (lines : List (List ℕ)) → lines_of bytes ≡ line ∷ lines → (t : Bool) → is_header_line line ≡ t → cond t (lines_from 2 start lines) (Err (at 1 causes.Header)) ≡ Err e → IsFirstFault bytes e
    by_header line lines is true h g =
        inr (lines, subst (IsWritten bytes) (is ∙ ap (λ (l : List ℕ). l ∷ lines) ((bytes_eq-Decides line (codes "cords 1")).0 h)) (written_lines bytes), lines_fault 2 start lines e g)
    by_header line lines is false h g =
        let same : at 1 causes.Header ≡ e = cc in
        inl (λ ls w. (let eq : codes "cords 1" ∷ ls ≡ line ∷ lines = sym (lines_again bytes (codes "cords 1" ∷ ls) w) ∙ is in let head : line ≡ codes "cords 1" = cc in both_ways (is_header_line line) h ((bytes_eq-Decides line (codes "cords 1")).1 head)), sym (ap (λ (x : ScriptError). x.cause) same), sym (ap (λ (x : ScriptError). x.line) same))

    by_lines : (ls : List (List ℕ)) → lines_of bytes ≡ ls → headed ls ≡ Err e → IsFirstFault bytes e
    by_lines [] is g =
        let same : at 1 causes.Header ≡ e = cc in
        inl (λ ls w. (let eq : codes "cords 1" ∷ ls ≡ [] = sym (lines_again bytes (codes "cords 1" ∷ ls) w) ∙ is in cc), sym (ap (λ (x : ScriptError). x.cause) same), sym (ap (λ (x : ScriptError). x.line) same))
    by_lines (line ∷ lines) is g = by_header line lines is (is_header_line line) refl g

line_fault_again : (n : ℕ) (p : Progress) (before : List (List ℕ)) (line : List ℕ) (after : List (List ℕ)) (said : List Item) (q : Progress) (c : Cause) → SpellsLines before said → run p said ≡ Ok q → step q line ≡ Err c → lines_from n p (before ++ line ∷ after) ≡ Err (at (n + length before) c)
unfolding lines_from
line_fault_again n p [] line after said q c spelled ran fault =
    let same : p ≡ q = (let e : run p [] ≡ Ok q = ap (run p) (sym spelled) ∙ ran in cc) in
    ap (λ (r : Result Progress Cause). located n r (λ x. lines_from (n + 1) x after)) (ap (λ (x : Progress). step x line) same ∙ fault) ∙ ap (λ (k : ℕ). Err (at k c)) (let z : n ≡ n + 0 = omega arith in z)
line_fault_again n p (l ∷ ls) line after said q c (inl h) ran fault =
    ap (λ (r : Result Progress Cause). located n r (λ x. lines_from (n + 1) x (ls ++ line ∷ after))) (ignored_step p l h.0) ∙ line_fault_again (n + 1) p ls line after said q c h.1 ran fault
    ∙ ap (λ (k : ℕ). Err (at k c)) (let z : n + 1 + length ls ≡ n + suc (length ls) = omega arith in z)
line_fault_again n p (l ∷ ls) line after said q c (inr h) ran fault =
    let one : run p (h.0 ∷ h.1) ≡ Ok q = ap (run p) (sym h.2) ∙ ran in
    let a = bind_ok (accepted p h.0) (λ x. run x h.1) q one in
    ap (λ (r : Result Progress Cause). located n r (λ x. lines_from (n + 1) x (ls ++ line ∷ after))) (said_step p l h.0 h.3 ∙ a.1) ∙ line_fault_again (n + 1) a.0 ls line after h.1 q c h.4 a.2 fault
    ∙ ap (λ (k : ℕ). Err (at k c)) (let z : n + 1 + length ls ≡ n + suc (length ls) = omega arith in z)

still_open : (n : ℕ) (p : Progress) (o : Option Session) → is_some o ≡ true → script_of n p o ≡ Err (at n causes.Unended)
still_open n p None h = absurd cc
still_open n p (Some s) h = refl

unended_again : (n : ℕ) (p : Progress) (lines : List (List ℕ)) (said : List Item) (q : Progress) → SpellsLines lines said → run p said ≡ Ok q → is_some q.current ≡ true → lines_from n p lines ≡ Err (at (n + length lines) causes.Unended)
unfolding lines_from
unended_again n p [] said q spelled ran inside =
    let same : p ≡ q = (let e : run p [] ≡ Ok q = ap (run p) (sym spelled) ∙ ran in cc) in
    ap (λ (x : Progress). script_of n x x.current) same ∙ still_open n q q.current inside ∙ ap (λ (k : ℕ). Err (at k causes.Unended)) (let z : n ≡ n + 0 = omega arith in z)
unended_again n p (l ∷ ls) said q (inl h) ran inside =
    ap (λ (r : Result Progress Cause). located n r (λ x. lines_from (n + 1) x ls)) (ignored_step p l h.0) ∙ unended_again (n + 1) p ls said q h.1 ran inside
    ∙ ap (λ (k : ℕ). Err (at k causes.Unended)) (let z : n + 1 + length ls ≡ n + suc (length ls) = omega arith in z)
unended_again n p (l ∷ ls) said q (inr h) ran inside =
    let one : run p (h.0 ∷ h.1) ≡ Ok q = ap (run p) (sym h.2) ∙ ran in
    let a = bind_ok (accepted p h.0) (λ x. run x h.1) q one in
    ap (λ (r : Result Progress Cause). located n r (λ x. lines_from (n + 1) x ls)) (said_step p l h.0 h.3 ∙ a.1) ∙ unended_again (n + 1) a.0 ls h.1 q h.4 a.2 inside
    ∙ ap (λ (k : ℕ). Err (at k causes.Unended)) (let z : n + 1 + length ls ≡ n + suc (length ls) = omega arith in z)

err_at : (n : ℕ) (c : Cause) (e : ScriptError) → e.line ≡ n → e.cause ≡ c → at n c ≡ e
err_at n c e l k = ap (λ (m : ℕ). at m c) (sym l) ∙ ap (at e.line) (sym k)

headed_again : (lines : List (List ℕ)) → headed (codes "cords 1" ∷ lines) ≡ lines_from 2 start lines
unfolding headed
headed_again lines = refl

wrong_header : (ls : List (List ℕ)) → ((more : List (List ℕ)) → ls ≡ codes "cords 1" ∷ more → ⊥) → headed ls ≡ Err (at 1 causes.Header)
unfolding headed
wrong_header [] h = refl
wrong_header (line ∷ lines) h = by_test (is_header_line line) refl
  where
    by_test : (t : Bool) → is_header_line line ≡ t → cond t (lines_from 2 start lines) (Err (at 1 causes.Header)) ≡ Err (at 1 causes.Header)
    by_test true is = absurd (h lines (ap (λ (l : List ℕ). l ∷ lines) ((bytes_eq-Decides line (codes "cords 1")).0 is)))
    by_test false is = refl

pub fault_again : (bytes : List ℕ) (e : ScriptError) → IsFirstFault bytes e → read_of bytes ≡ Err e
fault_again bytes e (inl h) =
    wrong_header (lines_of bytes) (λ more is. h.0 more (subst (IsWritten bytes) is (written_lines bytes))) ∙ ap (λ (x : ScriptError). Err x) (err_at 1 causes.Header e h.2 h.1)
fault_again bytes e (inr h) = ap headed (lines_again bytes (codes "cords 1" ∷ h.0) h.1) ∙ headed_again h.0 ∙ either h.2
  where
    either : IsLineFault 2 start h.0 e ⊎ IsUnended 2 start h.0 e → lines_from 2 start h.0 ≡ Err e
    either (inl f) = ap (lines_from 2 start) f.split ∙ line_fault_again 2 start f.before f.line f.after f.said f.progress e.cause f.spelled f.ran f.cause ∙ ap (λ (x : ScriptError). Err x) (err_at (2 + length f.before) e.cause e f.number refl)
    either (inr f) = unended_again 2 start h.0 f.said f.progress f.spelled f.ran f.inside ∙ ap (λ (x : ScriptError). Err x) (err_at (2 + length h.0) causes.Unended e f.number f.cause)

pub is_first : (bytes : List ℕ) (r : Result Script ReadRefused) (e : ScriptError) → Reads (λ s. s) r (read_of bytes) → r ≡ Err (reads.Script e) → IsFirstFault bytes e
is_first bytes r e given is = fault_found bytes e (subst (λ (x : Result Script ReadRefused). Reads (λ s. s) x (read_of bytes)) is given)
