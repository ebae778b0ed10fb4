-- A worker's releaser slots after calls that used none, and after an external that used the next.
use Rattle.std.proofs.Common.{◌≡◌, ◌∙◌, sym, ap, subst, refl, ℕ, List, [], ◌∷◌, ◌++◌, length, drop, append-nil, append_assoc}
use Rattle.std.specs.Prelude.{map}
use Rattle.std.proofs.lemmas.List.{map-append}
use Rattle.pool_rule.specs.Notes.{Use}
use Rattle.pool_rule.specs.Views.{View}
use Rattle.cord_value.specs.Externals.{use_of}
use Rattle.cord_sampled.specs.Externals.{KeepsExternal}
use Rattle.sampled_commands.specs.Leaving.{IsIdle}
use Rattle.sampled_commands.specs.Slots.{slots_in, lengths_in, SameSlots, Uses}

-- ---- none was used
pub idle-slots : (v w : View) → IsIdle v w → SameSlots v w
idle-slots v w idle = λ i. map (λ (u : Use). u.slot) (idle.used i) ++ idle.unused i

pub idle-uses : (v w : View) → IsIdle v w → Uses v w []
idle-uses v w idle = record {
  slots = idle-slots v w idle;
  made = ap (map (λ (u : Use). u.length)) idle.used ∙ sym (append-nil (lengths_in v));
}

-- ---- one was used
next-first : (n number : ℕ) (v : View) (j : ℕ) (later : List ℕ) → v.unused ≡ j ∷ later → (use_of number n v).slot ∷ drop 1 v.unused ≡ v.unused
next-first n number v j later e = subst (λ (us : List ℕ). (use_of number n (record v { unused = us })).slot ∷ drop 1 us ≡ us) (sym e) refl

module _ (limit n number new gone : ℕ) (v w : View) (made : KeepsExternal limit n number new gone v w) where
  module _ (j : ℕ) (later : List ℕ) (e : v.unused ≡ j ∷ later) where
    pub external-slots : SameSlots v w
    external-slots =
        let slots = map (λ (u : Use). u.slot) in
        let u = use_of number n v in
        ap slots_in made.gained
        ∙ (ap (λ (us : List Use). slots (v.used ++ us) ++ drop (length us) v.unused) made.used
        ∙ (ap (λ (ss : List ℕ). ss ++ drop 1 v.unused) (map-append (λ (u : Use). u.slot) v.used (u ∷ []))
        ∙ (append_assoc (slots v.used) (u.slot ∷ []) (drop 1 v.unused)
        ∙ ap (λ (ss : List ℕ). slots v.used ++ ss) (next-first n number v j later e))))

    pub external-uses : Uses v w (n ∷ [])
    external-uses = record {
      slots = external-slots;
      made = ap lengths_in made.gained ∙ (ap (λ (us : List Use). map (λ (u : Use). u.length) (v.used ++ us)) made.used ∙ map-append (λ (u : Use). u.length) v.used (use_of number n v ∷ []));
    }

  pub external-unused : w.unused ≡ drop 1 v.unused
  external-unused = ap (λ (z : View). z.unused) made.gained ∙ ap (λ (us : List Use). drop (length us) v.unused) made.used

-- ---- one after the other
pub slots-then : (u v w : View) → SameSlots u v → SameSlots v w → SameSlots u w
slots-then u v w one two = two ∙ one

pub uses-then : (u v w : View) (ns ms : List ℕ) → Uses u v ns → Uses v w ms → Uses u w (ns ++ ms)
uses-then u v w ns ms one two = record {
  slots = slots-then u v w one.slots two.slots;
  made = two.made ∙ (ap (λ (xs : List ℕ). xs ++ ms) one.made ∙ append_assoc (lengths_in u) ns ms);
}
