-- Reading a text in parts.
use Rattle.std.proofs.Common.{◌≡◌, ℕ, ◌+◌, ◌-◌, ◌≤◌, Bool, true, false, cond, eqb, List, [], ◌∷◌, ◌++◌, Result, Ok, Err, refl, sym, ap, ◌∙◌, take, drop, length, append_assoc, arith}
use Rattle.std.specs.Prelude.{◌&&◌, not}
use Rattle.std.specs.List.{list_all}
use Rattle.std.proofs.lemmas.Bool.{and_parts, and_from}
use Rattle.std.proofs.lemmas.List.{take_rest, take-append-drop, length-take}
use Rattle.std.proofs.lemmas.List.Folds.{list_all-append}
use Rattle.std.proofs.Math.Nat.{min-eq_left}
use Rattle.std.proofs.Math.Seq.{take-append-add}
use Rattle.script_words.specs.declared.fault.Cause.{Cause}
use Rattle.script_words.specs.declared.texts.Mode.TheVariants.{Plain, Escape}
use Rattle.script_words.specs.declared.texts.Scan.{Scan}
use Rattle.script_words.specs.declared.texts.Scan.TheVariants.{Closed, Goes, Byte, Fault}
use Rattle.script_words.specs.Words.{is_shown}
use Rattle.script_words.specs.Texts.{scan, follow, with_byte, with_front, piece_at, stands_for_itself}

pub regroup : (front : List ℕ) (b : ℕ) (read : Result (List ℕ × List ℕ) Cause) → with_front front (with_byte b read) ≡ with_front (front ++ b ∷ []) read
regroup front b (Ok x) = ap (λ (bs : List ℕ). Ok (bs, x.1)) (simp append_assoc)
regroup front b (Err f) = refl

by_tests : (quote slash shown : Bool) (c : ℕ) → (shown && not quote && not slash) ≡ true → cond quote Closed (cond slash (Goes Escape) (cond shown (Byte c) Fault)) ≡ Byte c
by_tests false false true c h = refl
by_tests false false false c h = absurd cc
by_tests false true false c h = absurd cc
by_tests false true true c h = absurd cc
by_tests true false false c h = absurd cc
by_tests true false true c h = absurd cc
by_tests true true false c h = absurd cc
by_tests true true true c h = absurd cc

itself_is_read : (c : ℕ) → stands_for_itself c ≡ true → scan Plain c ≡ Byte c
itself_is_read c h = by_tests (eqb c 34) (eqb c 92) (is_shown c) c h

behind_nothing : (read : Result (List ℕ × List ℕ) Cause) → read ≡ with_front [] read
behind_nothing (Ok x) = refl
behind_nothing (Err e) = refl

behind_one : (b : ℕ) (front : List ℕ) (read : Result (List ℕ × List ℕ) Cause) → with_byte b (with_front front read) ≡ with_front (b ∷ front) read
behind_one b front (Ok x) = refl
behind_one b front (Err e) = refl

pub plain_front : (front rest : List ℕ) → list_all stands_for_itself front ≡ true → piece_at Plain (front ++ rest) ≡ with_front front (piece_at Plain rest)
plain_front [] rest h = behind_nothing (piece_at Plain rest)
plain_front (b ∷ front) rest h =
    let p = and_parts (stands_for_itself b) (list_all stands_for_itself front) h in
    ap (λ (s : Scan). follow s (λ m. piece_at m (front ++ rest)) (front ++ rest)) (itself_is_read b p.0)
    ∙ ap (with_byte b) (plain_front front rest p.1) ∙ behind_one b front (piece_at Plain rest)

-- bytes behind those in front
pub front_grows : (bytes : List ℕ) (run next : ℕ) → run ≤ length bytes → run ≤ next → list_all stands_for_itself (take run bytes) ≡ true
    → list_all stands_for_itself (take (next - run) (drop run bytes)) ≡ true → list_all stands_for_itself (take next bytes) ≡ true
front_grows bytes run next within more h k =
    let front = take run bytes in
    let back = drop run bytes in
    let long : length front ≡ run = length-take run bytes ∙ min-eq_left within in
    let parts : take next bytes ≡ front ++ take (next - run) back =
    ap (λ (n : ℕ). take n bytes) (sym (omega (arith, long))) ∙ ap (take (length front + (next - run))) (sym (take-append-drop run bytes)) ∙ take-append-add front back (next - run) in
    ap (list_all stands_for_itself) parts ∙ list_all-append stands_for_itself front (take (next - run) back)
    ∙ and_from (list_all stands_for_itself front) (list_all stands_for_itself (take (next - run) back)) h k

pub parts_are_read : (bytes : List ℕ) (run : ℕ) → list_all stands_for_itself (take run bytes) ≡ true
    → with_front (take run bytes) (piece_at Plain (take (length bytes - run) (drop run bytes))) ≡ piece_at Plain bytes
parts_are_read bytes run h =
    ap (λ (t : List ℕ). with_front (take run bytes) (piece_at Plain t)) (take_rest bytes run)
    ∙ sym (plain_front (take run bytes) (drop run bytes) h) ∙ ap (piece_at Plain) (take-append-drop run bytes)
