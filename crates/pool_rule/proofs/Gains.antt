-- How gains follow each other, and what each step of a worker gains.
use Rattle.std.proofs.Common.{ℕ, ◌≡◌, ◌+◌, ◌<◌, List, [], ◌∷◌, ◌++◌, length, drop, refl, sym, ap, ◌∙◌, subst, append-nil, append_assoc, length-append, arith}
use Rattle.std.proofs.lemmas.List.{drop-drop}
use Rattle.node_forest.specs.declared.kind.Kind.{Kind}
use Rattle.node_forest.specs.declared.kind.Kind.TheVariants.{Flat, External, Part, Sum, Branch}
use Rattle.node_forest.specs.Label.{Node, number}
use Rattle.pool_rule.specs.Notes.{Use, unused_after, uses_of}
use Rattle.pool_rule.specs.Rules.{Among}
use Rattle.pool_rule.specs.Views.{View, with_holds, taking, noting, tried, sharing, leaving, returned_by, looking, count_of}
use Rattle.pool_rule.specs.Gains.{Gain, no_gain, gain_then, gaining, Gained, HasGained, SawAll}
use Rattle.pool_rule.proofs.Taken.{among_left, among_right}

-- ---- one after another
add-none : (n : ℕ) → n ≡ n + 0
add-none n = omega arith

-- a view has itself gained nothing
pub gaining-none : (v : View) → v ≡ gaining no_gain v.holds v.lone v
gaining-none v = λ i. record v {
  taken = sym (append-nil v.taken) i;
  full = sym (append-nil v.full) i;
  returned = sym (append-nil v.returned) i;
  made = add-none v.made i;
  counts = sym (append-nil v.counts) i;
  ended = add-none v.ended i;
  shares = add-none v.shares i;
  looks = sym (append-nil v.looks) i;
  used = sym (append-nil v.used) i;
}

pub gained-is : (g : Gain) (v u w : View) → w ≡ u → Gained g v u → Gained g v w
gained-is g v u w e is = subst (λ (z : View). Gained g v z) (sym e) is

pub gained-same : (v w : View) → w ≡ v → Gained no_gain v w
gained-same v w e = gained-is no_gain v v w e (gaining-none v)

pub gained-then : (g h : Gain) (v w x : View) → Gained g v w → Gained h w x → Gained (gain_then g h) v x
gained-then g h v w x a b =
    b ∙ ((λ i. gaining h x.holds x.lone (a i))
    ∙ (λ i. record v {
      holds = x.holds;
      lone = x.lone;
      taken = append_assoc v.taken g.taken h.taken i;
      full = append_assoc v.full g.full h.full i;
      returned = append_assoc v.returned g.returned h.returned i;
      made = made i;
      counts = append_assoc v.counts g.counts h.counts i;
      ended = ended i;
      shares = shares i;
      looks = append_assoc v.looks g.looks h.looks i;
      unused = unused i;
      used = append_assoc v.used g.used h.used i;
    }))
  where
    made : v.made + length g.counts + length h.counts ≡ v.made + length (g.counts ++ h.counts)
    made = omega (arith, length-append g.counts h.counts)

    ended : v.ended + g.ended + h.ended ≡ v.ended + (g.ended + h.ended)
    ended = omega arith

    shares : v.shares + g.shares + h.shares ≡ v.shares + (g.shares + h.shares)
    shares = omega arith

    unused : drop (length h.used) (drop (length g.used) v.unused) ≡ drop (length (g.used ++ h.used)) v.unused
    unused = drop-drop (length h.used) (length g.used) v.unused ∙ sym (ap (λ (n : ℕ). drop n v.unused) (length-append g.used h.used))

pub gained-any : (g : Gain) (v w : View) → Gained g v w → HasGained v w
gained-any g v w is = record { gain = g; is = is }

pub gained-both : (v w x : View) → HasGained v w → HasGained w x → HasGained v x
gained-both v w x a b = record { gain = gain_then a.gain b.gain; is = gained-then a.gain b.gain v w x a.is b.is }

-- what was found in use in the middle of a call was found in the call
pub saw-within : (size : ℕ) (g h : Gain) (u v w x : View) → Gained g u v → SawAll size v w → Gained h w x → SawAll size u x
saw-within size g h u v w x a s b = record {
  gain = gain_then g (gain_then s.gain h);
  is = gained-then g (gain_then s.gain h) u v x a (gained-then s.gain h v w x s.is b);
  every = λ n low. among_right n g.full (s.gain.full ++ h.full) (among_left n s.gain.full h.full (s.every n low));
}

-- ---- single steps
pub unused-after : (k : Kind) (t : Node) (slots : List ℕ) → unused_after k slots ≡ drop (length (uses_of k t)) slots
unused-after Flat t slots = refl
unused-after External t slots = refl
unused-after Part t slots = refl
unused-after Sum t slots = refl
unused-after Branch t slots = refl

abbrev pub takes : Node → Gain
takes t = record no_gain { taken = number t ∷ []; used = uses_of t.0.kind t }

pub gained-taking : (v : View) (t : Node) → Gained (takes t) v (taking t v)
gained-taking v t =
    λ i. record (gaining-none v i) {
      holds = (taking t v).holds;
      taken = v.taken ++ number t ∷ [];
      unused = unused-after t.0.kind t v.unused i;
      used = v.used ++ uses_of t.0.kind t;
    }

pub gained-noting : (v : View) (ns : List ℕ) → Gained (record no_gain { full = ns }) v (record v { full = v.full ++ ns })
gained-noting v ns = λ i. record (gaining-none v i) { full = v.full ++ ns }

pub gained-sharing : (v : View) (t : Node) → Gained (record no_gain { shares = 1 }) v (sharing t v)
gained-sharing v t = λ i. record (gaining-none v i) { holds = (sharing t v).holds; lone = (sharing t v).lone; shares = v.shares + 1 }

pub gained-leaving : (v : View) (t : Node) (found : ℕ) → Gained (record no_gain { returned = returned_by found t }) v (leaving found t v)
gained-leaving v t found = λ i. record (gaining-none v i) { holds = (leaving found t v).holds; lone = (leaving found t v).lone; returned = v.returned ++ returned_by found t }

-- direct holds and lone numbers alone change
pub gained-holding : (v : View) (holds : List Node) (lone : List ℕ) → Gained no_gain v (record v { holds = holds; lone = lone })
gained-holding v holds lone = λ i. record (gaining-none v i) { holds = holds; lone = lone }
