-- A text that is read is spelled so, and one that is spelled so is read.
use Rattle.std.proofs.Common.{◌≡◌, ◌≢◌, ℕ, ◌+◌, ◌*◌, ◌≤◌, Bool, true, cond, leb, eqb, List, [], ◌∷◌, ◌++◌, length, Option, Some, None, Ok, Err, refl, sym, ap, ◌∙◌, subst, inl, inr, append_assoc}
use Rattle.std.specs.Prelude.{◌&&◌, ◌||◌, ◌⊎◌, is_some, unwrap_or}
use Rattle.std.proofs.lemmas.Bool.{leb-true, le-leb, eqb-true, eqb-false, ne_eqb, and_parts, and_from, or_cases, cond_both}
use Rattle.script_words.specs.declared.fault.Cause.TheVariants as causes
use Rattle.plain_cord.specs.declared.script.Text.{Text}
use Rattle.script_words.specs.declared.texts.Mode.{Mode}
use Rattle.script_words.specs.declared.texts.Mode.TheVariants.{Plain, Escape, High, Low}
use Rattle.script_words.specs.declared.texts.Scan.{Scan}
use Rattle.script_words.specs.declared.texts.Scan.TheVariants.{Closed, Goes, Byte, Fault}
use Rattle.script_words.specs.Reading.{◌>>=◌}
use Rattle.script_words.specs.Words.{is_shown}
use Rattle.script_words.specs.Numbers.{decimal_at}
use Rattle.script_words.specs.Texts.{hex_value, low_of, high_of, scan, with_byte, follow, piece_at, count_is, times_at, quoted_at, text_at}
use Rattle.script_words.specs.Spelling.{hex_digit_of, IsHex, SpellsByte, SpellsBytes, SpellsNumber, SpellsTimes, SpellsText}
use Rattle.script_words.proofs.Results.{bind_ok, if_ok, ok_is}
use Rattle.script_words.proofs.NumberLaws.{decimal_found, decimal_again}

-- ---- what is spelled is read

high_goes : (c : ℕ) (o : Option ℕ) → is_some o ≡ true → high_of c o ≡ Goes (Low c)
high_goes c None h = absurd cc
high_goes c (Some v) h = refl

low_byte : (x y : Option ℕ) → is_some x ≡ true → is_some y ≡ true → low_of x y ≡ Byte (16 * unwrap_or x 0 + unwrap_or y 0)
low_byte None y h k = absurd cc
low_byte (Some v) None h k = absurd cc
low_byte (Some v) (Some w) h k = refl

plain_byte : (b : ℕ) → is_shown b ≡ true → b ≢ 34 → b ≢ 92 → scan Plain b ≡ Byte b
plain_byte b shown quote slash = rw (ne_eqb b 34 quote, ne_eqb b 92 slash, shown) refl

escaped_again : (b : ℕ) (r : List ℕ) → (b ≡ 34) ⊎ (b ≡ 92) → piece_at Plain (92 ∷ b ∷ r) ≡ with_byte b (piece_at Plain r)
escaped_again b r (inl e) = rw e refl
escaped_again b r (inr e) = rw e refl

hex_again : (h l : ℕ) (r : List ℕ) → IsHex h → IsHex l → piece_at Plain (92 ∷ 120 ∷ h ∷ l ∷ r) ≡ with_byte (16 * hex_digit_of h + hex_digit_of l) (piece_at Plain r)
hex_again h l r p q =
    ap (λ (s : Scan). follow s (λ m. piece_at m (l ∷ r)) (l ∷ r)) (high_goes h (hex_value h) p)
    ∙ ap (λ (s : Scan). follow s (λ m. piece_at m r) r) (low_byte (hex_value h) (hex_value l) p q)

byte_again : (p : List ℕ) (b : ℕ) (r : List ℕ) → SpellsByte p b → piece_at Plain (p ++ r) ≡ with_byte b (piece_at Plain r)
byte_again p b r (inl h) = ap (λ (t : List ℕ). piece_at Plain (t ++ r)) h.0 ∙ ap (λ (s : Scan). follow s (λ m. piece_at m r) r) (plain_byte b h.1 h.2 h.3)
byte_again p b r (inr (inl h)) = ap (λ (t : List ℕ). piece_at Plain (t ++ r)) h.0 ∙ escaped_again b r h.1
byte_again p b r (inr (inr (inl h))) = ap (λ (t : List ℕ). piece_at Plain (t ++ r)) h.0 ∙ ap (λ (k : ℕ). with_byte k (piece_at Plain r)) (sym h.1)
byte_again p b r (inr (inr (inr h))) = ap (λ (t : List ℕ). piece_at Plain (t ++ r)) h.2 ∙ hex_again h.0 h.1 r h.3 h.4 ∙ ap (λ (k : ℕ). with_byte k (piece_at Plain r)) (sym h.5)

pub piece_again : (inner bs tail : List ℕ) → SpellsBytes inner bs → piece_at Plain (inner ++ 34 ∷ tail) ≡ Ok (bs, tail)
piece_again inner [] tail h = rw h refl
piece_again inner (b ∷ bs) tail h =
    ap (λ (t : List ℕ). piece_at Plain (t ++ 34 ∷ tail)) h.2 ∙ ap (piece_at Plain) (append_assoc h.0 h.1 (34 ∷ tail))
    ∙ byte_again h.0 b (h.1 ++ 34 ∷ tail) h.3 ∙ ap (with_byte b) (piece_again h.1 bs tail h.4)

-- ---- what is read is spelled so

-- what stands before the next byte, of the piece that it belongs to
abbrev lead : Mode → List ℕ
lead Plain = []
lead Escape = 92 ∷ []
lead High = 92 ∷ 120 ∷ []
lead (Low h) = 92 ∷ 120 ∷ h ∷ []

abbrev IsLead : Mode → Type 0
IsLead (Low h) = IsHex h
IsLead mode = Unit {0}

abbrev Tells : Mode → ℕ → Scan → Type 0
Tells mode c Closed = (lead mode ≡ []) × (c ≡ 34)
Tells mode c (Goes next) = (lead next ≡ lead mode ++ c ∷ []) × IsLead next
Tells mode c (Byte b) = SpellsByte (lead mode ++ c ∷ []) b
Tells mode c Fault = Unit {0}

high_tells : (c : ℕ) (o : Option ℕ) → hex_value c ≡ o → Tells High c (high_of c o)
high_tells c None is = tt
high_tells c (Some v) is = (refl, ap is_some is)

low_tells : (h c : ℕ) (x y : Option ℕ) → hex_value h ≡ x → hex_value c ≡ y → Tells (Low h) c (low_of x y)
low_tells h c None y p q = tt
low_tells h c (Some v) None p q = tt
low_tells h c (Some v) (Some w) p q =
    inr (inr (inr (h, c, refl, ap is_some p, ap is_some q, ap (λ (o : Option ℕ). 16 * unwrap_or o 0 + w) (sym p) ∙ ap (λ (o : Option ℕ). 16 * hex_digit_of h + unwrap_or o 0) (sym q))))

or_either : (c : ℕ) → (eqb c 34 || eqb c 92) ≡ true → (c ≡ 34) ⊎ (c ≡ 92)
or_either c e = elim (or_cases (eqb c 34) (eqb c 92) e) [ inl p ↦ inl (eqb-true c 34 p) | inr p ↦ inr (eqb-true c 92 p) ]

tells : (mode : Mode) (c : ℕ) → IsLead mode → Tells mode c (scan mode c)
tells Plain c h =
    cond_both (eqb c 34) _ _ (Tells Plain c) (λ e. (refl, eqb-true c 34 e)) (λ quote.
    cond_both (eqb c 92) _ _ (Tells Plain c) (λ e. (ap (λ (k : ℕ). k ∷ []) (sym (eqb-true c 92 e)), tt)) (λ slash.
    cond_both (is_shown c) _ _ (Tells Plain c) (λ shown. inl (refl, shown, eqb-false c 34 quote, eqb-false c 92 slash)) (λ _. tt)))
tells Escape c h =
    cond_both (eqb c 34 || eqb c 92) _ _ (Tells Escape c) (λ e. inr (inl (refl, or_either c e))) (λ _.
    cond_both (eqb c 110) _ _ (Tells Escape c) (λ e. inr (inr (inl (ap (λ (k : ℕ). 92 ∷ k ∷ []) (eqb-true c 110 e), refl)))) (λ _.
    cond_both (eqb c 120) _ _ (Tells Escape c) (λ e. (ap (λ (k : ℕ). 92 ∷ k ∷ []) (sym (eqb-true c 120 e)), tt)) (λ _. tt)))
tells High c h = high_tells c (hex_value c) refl
tells (Low first) c h = low_tells first c (hex_value first) (hex_value c) refl refl

pub record Found (before : List ℕ) (x : List ℕ × List ℕ) : Type 0 where
  pub inner : List ℕ
  pub whole : before ≡ inner ++ 34 ∷ x.1
  pub bytes : SpellsBytes inner x.0

pub piece_found : (mode : Mode) (cs : List ℕ) (x : List ℕ × List ℕ) → IsLead mode → piece_at mode cs ≡ Ok x → Found (lead mode ++ cs) x
piece_found mode [] x h e = absurd cc
piece_found mode (c ∷ cs) x h e =
    subst (λ (t : List ℕ). Found t x) (append_assoc (lead mode) (c ∷ []) cs)
    (by_scan (scan mode c) (tells mode c h) (λ next lead_next read. piece_found next cs x lead_next read) (λ y read. piece_found Plain cs y tt read) e)
  where
    by_scan : (s : Scan) → Tells mode c s
        → ((next : Mode) → IsLead next → piece_at next cs ≡ Ok x → Found (lead next ++ cs) x)
        → ((y : List ℕ × List ℕ) → piece_at Plain cs ≡ Ok y → Found cs y)
        → follow s (λ m. piece_at m cs) cs ≡ Ok x → Found ((lead mode ++ c ∷ []) ++ cs) x
    by_scan Closed t goes byte f =
        let same : ([], cs) ≡ x = ok_is ([], cs) x f in
        subst (λ (y : List ℕ × List ℕ). Found ((lead mode ++ c ∷ []) ++ cs) y) same
        (record { inner = []; whole = ap (λ (l : List ℕ). (l ++ c ∷ []) ++ cs) t.0 ∙ ap (λ (k : ℕ). k ∷ cs) t.1; bytes = refl })
    by_scan (Goes next) t goes byte f = subst (λ (l : List ℕ). Found (l ++ cs) x) t.0 (goes next t.1 f)
    by_scan (Byte b) t goes byte f =
        let r = bind_ok (piece_at Plain cs) (λ y. Ok (b ∷ y.0, y.1)) x f in
        let rest = byte r.0 r.1 in
        let made : List ℕ × List ℕ = (b ∷ r.0.0, r.0.1) in
        subst (λ (y : List ℕ × List ℕ). Found ((lead mode ++ c ∷ []) ++ cs) y) (ok_is made x r.2)
        (record { inner = (lead mode ++ c ∷ []) ++ rest.inner; whole = ap (λ (l : List ℕ). (lead mode ++ c ∷ []) ++ l) rest.whole ∙ sym (append_assoc (lead mode ++ c ∷ []) rest.inner (34 ∷ r.0.1)); bytes = (lead mode ++ c ∷ [], rest.inner, refl, t, rest.bytes) })
    by_scan Fault t goes byte f = absurd cc

-- ---- the count, and the whole

count_found : (word : List ℕ) (o : Option ℕ) (n : ℕ) → decimal_at word ≡ o → count_is o ≡ Ok n → SpellsNumber word n × (1 ≤ n) × (n ≤ 1048576)
count_found word None n is e = absurd cc
count_found word (Some m) n is e =
    let a = if_ok (leb 1 m && leb m 1048576) causes.Text (Ok m) n e in
    let p = and_parts (leb 1 m) (leb m 1048576) a.0 in
    subst (λ (k : ℕ). SpellsNumber word k × (1 ≤ k) × (k ≤ 1048576)) (ok_is m n a.1) (decimal_found word m is, leb-true 1 m p.0, leb-true m 1048576 p.1)

times_found : (tail : List ℕ) (n : ℕ) → times_at tail ≡ Ok n → SpellsTimes tail n
times_found [] n e = inl (refl, sym (ok_is 1 n e))
times_found (c ∷ cs) n e =
    let a = if_ok (eqb c 42) causes.Text (count_is (decimal_at cs)) n e in
    let f = count_found cs (decimal_at cs) n refl a.1 in
    inr (cs, ap (λ (k : ℕ). k ∷ cs) (eqb-true c 42 a.0), f.0, f.1, f.2)

times_again : (tail : List ℕ) (n : ℕ) → SpellsTimes tail n → times_at tail ≡ Ok n
times_again tail n (inl h) = ap times_at h.0 ∙ ap (λ (k : ℕ). Ok k) (sym h.1)
times_again tail n (inr h) =
    ap times_at h.1 ∙ ap count_is (decimal_again h.0 n h.2) ∙ ap (λ (b : Bool). cond b (Ok n) (Err causes.Text)) (and_from (leb 1 n) (leb n 1048576) (le-leb 1 n h.3) (le-leb n 1048576 h.4))

quoted_found : (part : List ℕ) (x : List ℕ × List ℕ) → quoted_at part ≡ Ok x → (cs : List ℕ) × (part ≡ 34 ∷ cs) × Found cs x
quoted_found [] x e = absurd cc
quoted_found (c ∷ cs) x e =
    let a = if_ok (eqb c 34) causes.Text (piece_at Plain cs) x e in
    (cs, ap (λ (k : ℕ). k ∷ cs) (eqb-true c 34 a.0), piece_found Plain cs x tt a.1)

pub text_found : (least : ℕ) (part : List ℕ) (t : Text) → text_at least part ≡ Ok t → SpellsText least part t
unfolding text_at
text_found least part t e =
    let a = bind_ok (quoted_at part) (λ piece. times_at piece.1 >>= λ times. cond (leb least (length piece.0 * times) && leb (length piece.0 * times) 1048576) (Ok (record { piece = piece.0; times = times })) (Err causes.Text)) t e in
    let b = bind_ok (times_at a.0.1) (λ times. cond (leb least (length a.0.0 * times) && leb (length a.0.0 * times) 1048576) (Ok (record { piece = a.0.0; times = times })) (Err causes.Text)) t a.2 in
    let made : Text = record { piece = a.0.0; times = b.0 } in
    let g = if_ok (leb least (length a.0.0 * b.0) && leb (length a.0.0 * b.0) 1048576) causes.Text (Ok made) t b.2 in
    let f = and_parts (leb least (length a.0.0 * b.0)) (leb (length a.0.0 * b.0) 1048576) g.0 in
    let q = quoted_found part a.0 a.1 in
    subst (SpellsText least part) (ok_is made t g.1)
    (record { inner = q.2.inner; tail = a.0.1; quoted = q.1 ∙ ap (λ (l : List ℕ). 34 ∷ l) q.2.whole; bytes = q.2.bytes; times = times_found a.0.1 b.0 b.1; long = leb-true least (length a.0.0 * b.0) f.0; fits = leb-true (length a.0.0 * b.0) 1048576 f.1 })

pub text_again : (least : ℕ) (part : List ℕ) (t : Text) → SpellsText least part t → text_at least part ≡ Ok t
unfolding text_at
text_again least part t h =
    let first : quoted_at part ≡ Ok (t.piece, h.tail) = ap quoted_at h.quoted ∙ piece_again h.inner t.piece h.tail h.bytes in
    rw (first, times_again h.tail t.times h.times, le-leb least (length t.piece * t.times) h.long, le-leb (length t.piece * t.times) 1048576 h.fits) refl
