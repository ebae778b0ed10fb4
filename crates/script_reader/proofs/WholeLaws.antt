-- All bytes spell one script, or have one first fault.
use Rattle.std.proofs.Common.{◌≡◌, ℕ, List, Result, Ok, Err, refl, inl, inr}
use Rattle.std.specs.Prelude.{◌⊎◌}
use Rattle.plain_cord.specs.declared.script.Script.{Script}
use Rattle.script_reader.specs.declared.fault.ScriptError.{ScriptError}
use Rattle.script_reader.specs.Scripts.{read_of}
use Rattle.script_reader.specs.ScriptSpelling.{Spells}
use Rattle.script_reader.specs.Faults.{IsFirstFault}
use Rattle.script_reader.proofs.Runs.{spelled_is_read}
use Rattle.script_reader.proofs.Holds.{read_is_spelled}
use Rattle.script_reader.proofs.FirstFault.{fault_found, fault_again}

pub script_is_one : (bytes : List ℕ) (s t : Script) → Spells bytes s → Spells bytes t → s ≡ t
script_is_one bytes s t h k =
    let a : read_of bytes ≡ Ok s = spelled_is_read bytes s h in
    let b : read_of bytes ≡ Ok t = spelled_is_read bytes t k in
    cc

pub fault_is_one : (bytes : List ℕ) (e f : ScriptError) → IsFirstFault bytes e → IsFirstFault bytes f → e ≡ f
fault_is_one bytes e f h k =
    let a : read_of bytes ≡ Err e = fault_again bytes e h in
    let b : read_of bytes ≡ Err f = fault_again bytes f k in
    cc

pub script_or_fault : (bytes : List ℕ) → ((s : Script) × Spells bytes s) ⊎ ((e : ScriptError) × IsFirstFault bytes e)
script_or_fault bytes = by_result (read_of bytes) refl
  where
    by_result : (r : Result Script ScriptError) → read_of bytes ≡ r → ((s : Script) × Spells bytes s) ⊎ ((e : ScriptError) × IsFirstFault bytes e)
    by_result (Ok s) is = inl (s, read_is_spelled bytes s is)
    by_result (Err e) is = inr (e, fault_found bytes e is)

pub never_both : (bytes : List ℕ) (s : Script) (e : ScriptError) → Spells bytes s → IsFirstFault bytes e → ⊥
never_both bytes s e h k =
    let a : read_of bytes ≡ Ok s = spelled_is_read bytes s h in
    let b : read_of bytes ≡ Err e = fault_again bytes e k in
    cc
