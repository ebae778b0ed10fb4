-- A worker's releaser slots after calls that used none, and after an external that used the next.
use Rattle.std.proofs.Common.{◌≡◌, ◌∙◌, sym, ap, subst, refl, ℕ, ◌+◌, List, [], ◌∷◌, ◌++◌, length, drop, append-nil, append_assoc, arith}
use Rattle.std.specs.Prelude.{map}
use Rattle.std.proofs.lemmas.List.{map-append}
use Rattle.pool_rule.specs.Gains.{gain_then}
use Rattle.pool_rule.specs.Notes.{Use}
use Rattle.pool_rule.specs.Views.{View}
use Rattle.pool_rule.proofs.Gains.{gained-then}
use Rattle.cord_value.specs.Externals.{IsExternalMade, use_of}
use Rattle.cord_commands.specs.Accounts.{AddsUp, IsSteady}
use Rattle.cord_commands.specs.Slots.{slots_in, lengths_in, SameSlots, Uses}
use Rattle.cord_commands.proofs.Steady.{same-holds}

-- ---- none was used
pub steady-even : (v w : View) (a b : ℕ) → IsSteady v w a b → AddsUp v w a b
steady-even v w a b s = record { holds = s.holds; grew = s.grew; accounts = s.accounts }

pub steady-slots : (v w : View) (a b : ℕ) → IsSteady v w a b → SameSlots v w
steady-slots v w a b s = ap slots_in s.grew.is
    ∙ (ap (λ (us : List Use). map (λ (u : Use). u.slot) (v.used ++ us) ++ drop (length us) v.unused) s.idle ∙ ap (λ (us : List Use). map (λ (u : Use). u.slot) us ++ v.unused) (append-nil v.used))

pub steady-uses : (v w : View) (a b : ℕ) → IsSteady v w a b → Uses v w []
steady-uses v w a b s = record {
  slots = steady-slots v w a b s;
  made = ap lengths_in s.grew.is
      ∙ (ap (λ (us : List Use). map (λ (u : Use). u.length) (v.used ++ us)) s.idle ∙ (ap (map (λ (u : Use). u.length)) (append-nil v.used) ∙ sym (append-nil (lengths_in v))));
}

-- ---- one was used
next-first : (n number : ℕ) (v : View) (j : ℕ) (later : List ℕ) → v.unused ≡ j ∷ later → (use_of number n v).slot ∷ drop 1 v.unused ≡ v.unused
next-first n number v j later e = subst (λ (us : List ℕ). (use_of number n (record v { unused = us })).slot ∷ drop 1 us ≡ us) (sym e) refl

pub external-slots : (limit n number : ℕ) (v w : View) (j : ℕ) (later : List ℕ) → v.unused ≡ j ∷ later → IsExternalMade limit n number v w → SameSlots v w
external-slots limit n number v w j later e made =
    let slots = map (λ (u : Use). u.slot) in
    let u = use_of number n v in
    ap slots_in made.gained
    ∙ (ap (λ (us : List Use). slots (v.used ++ us) ++ drop (length us) v.unused) made.used
    ∙ (ap (λ (ss : List ℕ). ss ++ drop 1 v.unused) (map-append (λ (u : Use). u.slot) v.used (u ∷ []))
    ∙ (append_assoc (slots v.used) (u.slot ∷ []) (drop 1 v.unused)
    ∙ ap (λ (ss : List ℕ). slots v.used ++ ss) (next-first n number v j later e))))

pub external-uses : (limit n number : ℕ) (v w : View) (j : ℕ) (later : List ℕ) → v.unused ≡ j ∷ later → IsExternalMade limit n number v w → Uses v w (n ∷ [])
external-uses limit n number v w j later e made = record {
  slots = external-slots limit n number v w j later e made;
  made = ap lengths_in made.gained ∙ (ap (λ (us : List Use). map (λ (u : Use). u.length) (v.used ++ us)) made.used ∙ map-append (λ (u : Use). u.length) v.used (use_of number n v ∷ []));
}

pub external-unused : (limit n number : ℕ) (v w : View) → IsExternalMade limit n number v w → w.unused ≡ drop 1 v.unused
external-unused limit n number v w made = ap (λ (z : View). z.unused) made.gained ∙ ap (λ (us : List Use). drop (length us) v.unused) made.used

-- ---- one after the other
pub slots-then : (u v w : View) → SameSlots u v → SameSlots v w → SameSlots u w
slots-then u v w one two = two ∙ one

pub uses-then : (u v w : View) (ns ms : List ℕ) → Uses u v ns → Uses v w ms → Uses u w (ns ++ ms)
uses-then u v w ns ms one two = record {
  slots = slots-then u v w one.slots two.slots;
  made = two.made ∙ (ap (λ (xs : List ℕ). xs ++ ms) one.made ∙ append_assoc (lengths_in u) ns ms);
}

-- passes, where a cord is made of an external and then takes its place
pub external-then : (limit n number : ℕ) (u v w : View) (t b : ℕ) → IsExternalMade limit n number u v → IsSteady v w (t + 1) b → AddsUp u w t b
external-then limit n number u v w t b made s = record {
  holds = same-holds u.holds v.holds w.holds made.holds s.holds;
  grew = record {
    gain = gain_then made.gain s.grew.gain;
    is = gained-then made.gain s.grew.gain u v w made.gained s.grew.is;
  };
  accounts = (let m = ap (λ (z : View). z.made) made.gained in let e = ap (λ (z : View). z.ended) made.gained in let p = made.made in let q = made.ended in let a = s.accounts in omega arith);
}
