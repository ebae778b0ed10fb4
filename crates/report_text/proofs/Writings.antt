-- Texts that are written one after another.
use Rattle.std.proofs.Common.{◌≡◌, ℕ, List, [], ◌++◌, refl, sym, ap, ◌∙◌, append-nil, subst, Option, Result, Ok, Err, arith}
use Rattle.std.specs.Prelude.{OnOk, OnErr}
use Rattle.std.specs.Io.KnownBytes.{Appends}
use Rattle.cord_port.specs.Causes.{Rose}
use Rattle.cord_port.proofs.Appending.{appends_none, appends_more, part_more, whole_part}
use Rattle.report_text.specs.Writings.{Wrote}

module _ (a b c : Option (List ℕ)) (f g h : ℕ) where
  -- the sink failed in a line, behind what was written
  pub fails_behind : {A B E F : Type 0} {e : E} {d : F} (xs line rest text : List ℕ) → text ≡ xs ++ (line ++ rest) → Appends a b xs → g ≡ f
      → Wrote {A = A} {E = E} b c g h (Err e) line → Wrote {A = B} {E = F} a c f h (Err d) text
  fails_behind xs line rest text same before none wrote = record {
    whole = tt;
    kept = tt;
    part = part_more a b c xs line rest text same before wrote.part;
    cause = subst (λ (n : ℕ). Rose n h) none wrote.cause;
    later = let later = wrote.later in omega (arith, none);
  }

  -- the rest was written, or the sink failed in it
  pub goes_on : {A E : Type 0} {r : Result A E} (xs ys text : List ℕ) → text ≡ xs ++ ys → Appends a b xs → g ≡ f → Wrote b c g h r ys → Wrote a c f h r text
  goes_on {A} {E} {r} xs ys text same before none wrote = record {
    whole = on_ok r wrote.whole;
    kept = all_kept r wrote.kept;
    part = part_more a b c xs ys [] text (same ∙ ap (λ z. xs ++ z) (sym (append-nil ys))) before wrote.part;
    cause = on_err r wrote.cause;
    later = let later = wrote.later in omega (arith, none);
  }
    where
      on_ok : (r : Result A E) → OnOk r (Appends b c ys) → OnOk r (Appends a c text)
      on_ok (Ok u) p = subst (λ (z : List ℕ). Appends a c z) (sym same) (appends_more a b c xs ys before p)
      on_ok (Err e) p = tt

      all_kept : (r : Result A E) → OnOk r (h ≡ g) → OnOk r (h ≡ f)
      all_kept (Ok u) p = p ∙ none
      all_kept (Err e) p = tt

      on_err : (r : Result A E) → OnErr r (Rose g h) → OnErr r (Rose f h)
      on_err (Ok u) p = tt
      on_err (Err e) p = subst (λ (n : ℕ). Rose n h) none p

module _ (a b : Option (List ℕ)) (f g : ℕ) where
  -- the sink failed in the first line
  pub fails_first : {A B E F : Type 0} {e : E} {d : F} (line rest text : List ℕ) → text ≡ line ++ rest → Wrote {A = A} {E = E} a b f g (Err e) line → Wrote {A = B} {E = F} a b f g (Err d) text
  fails_first line rest text same wrote = fails_behind a a b f f g [] line rest text same (appends_none a) refl wrote

  pub wrote_all : {A E : Type 0} {u : A} (text : List ℕ) → Appends a b text → g ≡ f → Wrote {A = A} {E = E} a b f g (Ok u) text
  wrote_all text whole none = record { whole = whole; kept = none; part = whole_part a b text whole; cause = tt; later = omega (arith, none) }
