-- A desk begins under its rule.
use Rattle.std.proofs.Common.{◌≡◌, ℕ, zero, suc, ◌<◌, ◌+◌, List, [], ◌∷◌, map, replicate, length, true, Option, Some, refl, sym, ap, ◌∙◌, subst, inl, arith}
use mathlib.Core.Option.{some, some-injective, some-ne-none}
use lib.ListN.{get_elem?}
use Rattle.node_forest.specs.Label.{Node}
use Rattle.turn_desk.specs.Spots.{home}
use Rattle.cordz_core.specs.Contents.{Contents}
use Rattle.record_rule.specs.declared.values.DeskValue.{DeskValue}
use Rattle.record_rule.specs.declared.values.DeskValue.TheVariants.{List as Lists, Record}
use Rattle.record_rule.specs.declared.views.Claim.TheVariants.{Nothing}
use Rattle.record_rule.specs.declared.views.DeskView.{DeskView}
use Rattle.record_rule.specs.declared.views.DeskView.TheVariants.{Root}
use Rattle.record_rule.specs.World.{Facts, Fits, Stands, value_of}
use Rattle.cordz_desk.specs.Fresh.{empty_record, AreFresh}

module _ {S : Type 0} (tree_of : S → Node) (fits : S → Type 0) where
  abbrev fresh_value : DeskValue S
  fresh_value = Record empty_record

  in_records : (n s : ℕ) → s < n → get_elem? (map value_of (map home (replicate n fresh_value))) s ≡ some fresh_value
  in_records zero s less = absurd (omega arith)
  in_records (suc n) zero less = refl
  in_records (suc n) (suc s) less = in_records n s (omega arith)

  records_many : (n : ℕ) → length (map value_of (map home (replicate n fresh_value))) ≡ n
  records_many zero = refl
  records_many (suc n) = ap suc (records_many n)

  abbrev first_facts : Contents → Facts
  first_facts r = record {
    log = [];
    registry = r;
    claims = λ _. Nothing;
    owner = λ _. 0;
    seat = λ _. 0;
    given = 0;
    root = 0;
    notes = λ _. [];
    live = λ _. true;
    slot = λ _. 0;
  }

  one : (r : Contents) (by : ℕ) (v : Option DeskView) → get_elem? (Some (Root 0 []) ∷ []) by ≡ some v → Fits (first_facts r) by v
  one r zero v e = subst (Fits (first_facts r) 0) (some-injective (Some (Root 0 [])) v e) (refl, refl, tt)
  one r (suc by) v e = absurd (some-ne-none v (sym e))

  pub opens : (values : List (DeskValue S)) → AreFresh values → Stands tree_of fits (map home values) (Some (Root 0 []) ∷ [])
  opens values fresh = subst (λ (z : List (DeskValue S)). Stands tree_of fits (map home z) (Some (Root 0 []) ∷ [])) (sym fresh.2) record {
    facts = first_facts fresh.0;
    world = record {
      first = refl;
      count = ap suc (records_many 256);
      walkers = fresh.1.walkers;
      replays = fresh.1.replays;
      log = tt;
      room = omega arith;
      slots = λ s small. record {
        rep = empty_record;
        at = ap (get_elem? (Lists fresh.0 ∷ map value_of (map home (replicate 256 fresh_value)))) (next s) ∙ in_records 256 s small;
        is = inl (fresh.1.states s, refl);
      };
      notes = λ _. tt;
      unborn = λ t _. (refl, refl);
      told = λ _. inl refl;
      few = omega arith;
      ungiven = λ n _. (refl, fresh.1.walking n);
      each = one fresh.0;
    };
  }
    where
      next : (s : ℕ) → s + 1 ≡ suc s
      next s = omega arith
