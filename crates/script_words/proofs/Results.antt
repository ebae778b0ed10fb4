-- What a step that did not fail tells.
use Rattle.std.proofs.Common.{◌≡◌, Bool, true, false, cond, Option, Some, None, Result, Ok, Err, refl}
use Rattle.script_words.specs.declared.fault.Cause.{Cause}
use Rattle.script_words.specs.Reading.{◌>>=◌}

pub bind_ok : {A B : Type 0} (r : Result A Cause) (f : A → Result B Cause) (y : B) → (r >>= f) ≡ Ok y → (x : A) × (r ≡ Ok x) × (f x ≡ Ok y)
bind_ok (Ok x) f y e = (x, refl, e)
bind_ok (Err d) f y e = absurd cc

abbrev done : {A : Type 0} → A → Result A Cause
done x = Ok x

pub ok_is : {A : Type 0} (x y : A) → done x ≡ done y → x ≡ y
ok_is x y e = cc

-- a test that has to hold
pub if_ok : {A : Type 0} (b : Bool) (d : Cause) (r : Result A Cause) (y : A) → cond b r (Err d) ≡ Ok y → (b ≡ true) × (r ≡ Ok y)
if_ok true d r y e = (refl, e)
if_ok false d r y e = absurd cc

-- a test that must not hold
pub unless_ok : {A : Type 0} (b : Bool) (d : Cause) (r : Result A Cause) (y : A) → cond b (Err d) r ≡ Ok y → (b ≡ false) × (r ≡ Ok y)
unless_ok true d r y e = absurd cc
unless_ok false d r y e = (refl, e)

pub if_some : {A : Type 0} (b : Bool) (x y : A) → cond b (Some x) None ≡ Some y → (b ≡ true) × (x ≡ y)
if_some true x y e = (refl, cc)
if_some false x y e = absurd cc

pub unless_some : {A : Type 0} (b : Bool) (o : Option A) (y : A) → cond b None o ≡ Some y → (b ≡ false) × (o ≡ Some y)
unless_some true o y e = absurd cc
unless_some false o y e = (refl, e)
