-- How steady workers follow each other, and what the calls on cords come to.
use Rattle.std.proofs.Common.{◌≡◌, ◌∙◌, sym, ap, refl, ℕ, ◌+◌, List, [], ◌++◌, length, drop, Result, Ok, Err, arith}
use Rattle.std.specs.Prelude.{IfOk, IfErr, OnErr}
use Rattle.pool_rule.specs.Gains.{no_gain, gain_then}
use Rattle.pool_rule.specs.Trades.{SameHolds}
use Rattle.pool_rule.specs.Views.{View}
use Rattle.pool_rule.proofs.Gains.{gained-same, gained-then}
use Rattle.pool_rule.proofs.Trades.{trade, Trades-same}
use Rattle.node_forest.specs.declared.side.Side.{Side}
use Rattle.node_forest.specs.declared.side.Side.TheVariants.{Back}
use Rattle.cord_value.specs.Changes.{IsChange}
use Rattle.cord_value.specs.Filling.{HasLooked, IsGrownAfter, IsBalancedAfter}
use Rattle.cord_value.specs.Grown.{IsGrown}
use Rattle.cord_value.specs.Views.{CordView, no_cord, passes_of, nodes_of}
use Rattle.cord_value.specs.Workers.{Keeps, KeepsCount}
use Rattle.cord_value.specs.Refusals.{IsBalanced}
use Rattle.std.proofs.lemmas.List.Elements.{All-nil}
use Rattle.cord_value.specs.declared.refusals.CordError.{CordError}
use Rattle.cord_value.specs.declared.refusals.CordError.TheVariants as errors
use Rattle.cord_commands.specs.Accounts.{trees_of, trees_made, IsSteady}

pub same-holds : (a b c : List _) → SameHolds a b → SameHolds b c → SameHolds a c
same-holds a b c one two = trade a [] [] c (λ f. omega (arith, one.weighs f, two.weighs f))

none-then : {X : Type 0} (xs ys : List X) → xs ≡ [] → ys ≡ [] → xs ++ ys ≡ []
none-then xs ys e f = ap (λ zs. zs ++ ys) e ∙ f

-- the slots stay
pub steady-unused : (v w : View) (a b : ℕ) → IsSteady v w a b → w.unused ≡ v.unused
steady-unused v w a b s = ap (λ (z : View). z.unused) s.grew.is ∙ ap (λ us. drop (length us) v.unused) s.idle

pub steady-then : (u v w : View) (a b c : ℕ) → IsSteady u v a b → IsSteady v w b c → IsSteady u w a c
steady-then u v w a b c one two = record {
  holds = same-holds u.holds v.holds w.holds one.holds two.holds;
  grew = record {
    gain = gain_then one.grew.gain two.grew.gain;
    is = gained-then one.grew.gain two.grew.gain u v w one.grew.is two.grew.is;
  };
  idle = none-then _ _ one.idle two.idle;
  accounts = (let m = one.accounts in let n = two.accounts in omega arith);
}

-- what lies beside
pub steady-beside : (v w : View) (n a b : ℕ) → IsSteady v w a b → IsSteady v w (n + a) (n + b)
steady-beside v w n a b s = record { holds = s.holds; grew = s.grew; idle = s.idle; accounts = (let m = s.accounts in omega arith) }

-- counted from other numbers, as far apart
pub steady-shift : (v w : View) (a b c d : ℕ) → IsSteady v w a b → c + b ≡ d + a → IsSteady v w c d
steady-shift v w a b c d s even = record { holds = s.holds; grew = s.grew; idle = s.idle; accounts = (let m = s.accounts in omega arith) }

-- the same under other names
pub steady-as : (v w : View) (a b c d : ℕ) → a ≡ c → b ≡ d → IsSteady v w a b → IsSteady v w c d
steady-as v w a b c d e f s = record { holds = s.holds; grew = s.grew; idle = s.idle; accounts = (let m = s.accounts in omega arith) }

pub same-steady : (v w : View) (n : ℕ) → w ≡ v → IsSteady v w n n
same-steady v w n e = record {
  holds = Trades-same v.holds w.holds (ap (λ (z : View). z.holds) e);
  grew = record { gain = no_gain; is = gained-same v w e };
  idle = refl;
  accounts = (let m = ap (λ (z : View). z.made) e in let n = ap (λ (z : View). z.ended) e in omega arith);
}

-- nothing was done
pub stay-steady : (v w : View) (a b : ℕ) → w ≡ v → b ≡ a → IsSteady v w a b
stay-steady v w a b e f = steady-as v w a a a b refl (sym f) (same-steady v w a e)

pub keeps-steady : (limit : ℕ) (numbers : List ℕ) (new gone before after : ℕ) (v w : View) → Keeps limit numbers new gone v w → new + before ≡ gone + after → IsSteady v w before after
keeps-steady limit numbers new gone before after v w k even = record {
  holds = k.holds;
  grew = record { gain = k.gain; is = k.gained };
  idle = k.used;
  accounts = (let m = ap (λ (z : View). z.made) k.gained in let n = ap (λ (z : View). z.ended) k.gained in let p = k.made in let q = k.ended in omega arith);
}

pub balanced-steady : (limit : ℕ) (x : CordError) (v w : View) (n : ℕ) → IsBalanced limit x v w → IsSteady v w n n
balanced-steady limit x v w n b = record {
  holds = b.holds;
  grew = record { gain = b.gain; is = b.gained };
  idle = b.used;
  accounts = (let m = ap (λ (z : View). z.made) b.gained in let n = ap (λ (z : View). z.ended) b.gained in let p = b.ended in omega arith);
}

-- a cord that was made, or refused
pub made-steady : (limit : ℕ) (v w : View) (r : Result CordView CordError) → IfOk r (λ c. KeepsCount limit (nodes_of c.tree) (passes_of c.tree) 0 v w) → IfErr r (λ x. IsBalanced limit x v w) → IsSteady v w 0 (trees_made r)
made-steady limit v w (Ok c) k b = keeps-steady limit k.numbers (passes_of c.tree) 0 0 (trees_of c) v w k.keeps (omega arith)
made-steady limit v w (Err x) k b = balanced-steady limit x v w 0 b

pub copied-steady : (limit : ℕ) (v w : View) (r : Result CordView CordError) → IfOk r (λ c. Keeps limit [] (passes_of c.tree) 0 v w) → IfErr r (λ x. IsBalanced limit x v w) → IsSteady v w 0 (trees_made r)
copied-steady limit v w (Ok c) k b = keeps-steady limit [] (passes_of c.tree) 0 0 (trees_of c) v w k (omega arith)
copied-steady limit v w (Err x) k b = balanced-steady limit x v w 0 b

-- a cord is made, and then it takes its place
pub made-then : (u v w : View) (t a b : ℕ) → IsSteady u v 0 a → IsSteady v w (t + a) b → IsSteady u w t b
made-then u v w t a b one two = record {
  holds = same-holds u.holds v.holds w.holds one.holds two.holds;
  grew = record {
    gain = gain_then one.grew.gain two.grew.gain;
    is = gained-then one.grew.gain two.grew.gain u v w one.grew.is two.grew.is;
  };
  idle = none-then _ _ one.idle two.idle;
  accounts = (let m = one.accounts in let n = two.accounts in omega arith);
}

-- a change, or its refusal
pub changed-steady : (limit most : ℕ) (old new : CordView) (v w : View) (r : Result (Unit {0}) CordError) → IfOk r (λ _. IsChange limit most old new v w) → IfErr r (λ x. IsBalanced limit x v w) → OnErr r (new ≡ old) → IsSteady v w (trees_of old) (trees_of new)
changed-steady limit most old new v w (Ok x) k b s = keeps-steady limit k.numbers _ _ (trees_of old) (trees_of new) v w k.keeps (omega arith)
changed-steady limit most old new v w (Err x) k b s = steady-as v w (trees_of old) (trees_of old) (trees_of old) (trees_of new) refl (sym (ap trees_of s)) (balanced-steady limit x v w (trees_of old) b)

pub grown-steady : (limit n : ℕ) (side : Side) (old new : CordView) (v w : View) (r : Result (Unit {0}) CordError) → IfOk r (λ _. IsGrown limit side n old new v w) → IfErr r (λ x. IsBalanced limit x v w) → OnErr r (new ≡ old) → IsSteady v w (trees_of old) (trees_of new)
grown-steady limit n side old new v w (Ok x) k b s = keeps-steady limit k.numbers _ _ (trees_of old) (trees_of new) v w k.keeps (omega arith)
grown-steady limit n side old new v w (Err x) k b s = steady-as v w (trees_of old) (trees_of old) (trees_of old) (trees_of new) refl (sym (ap trees_of s)) (balanced-steady limit x v w (trees_of old) b)

-- ---- looks first
looked-steady : (v w : View) (n : ℕ) → HasLooked v w → IsSteady v w n n
looked-steady v w n first = record {
  holds = first.holds;
  grew = record { gain = record no_gain { looks = first.looks }; is = first.gained };
  idle = refl;
  accounts = (let m = ap (λ (z : View). z.made) first.gained in let n = ap (λ (z : View). z.ended) first.gained in omega arith);
}

looked-then : (v m w : View) (a b : ℕ) → HasLooked v m → IsSteady m w a b → IsSteady v w a b
looked-then v m w a b first then = steady-then v m w a a b (looked-steady v m a first) then

pub filled-steady : (limit n : ℕ) (old new : CordView) (v w : View) (r : Result (Unit {0}) CordError) → IfOk r (λ _. IsGrownAfter limit n old new v w)
    → IfErr r (λ x. IsBalancedAfter limit x v w) → OnErr r (new ≡ old)
    → IsSteady v w (trees_of old) (trees_of new)
filled-steady limit n old new v w (Ok x) k b s = looked-then v k.looked w (trees_of old) (trees_of new) k.first (grown-steady limit n Back old new k.looked w (Ok x) k.grown b s)
filled-steady limit n old new v w (Err x) k b s = looked-then v b.looked w (trees_of old) (trees_of new) b.first (grown-steady limit n Back old new b.looked w (Err x) k b.balanced s)

-- a part that was made, or refused
pub part-steady : (limit most : ℕ) (v w : View) (r : Result CordView CordError) → IfOk r (λ c. IsChange limit most no_cord c v w) → IfErr r (λ x. IsBalanced limit x v w) → IsSteady v w 0 (trees_made r)
part-steady limit most v w (Ok c) k b = keeps-steady limit k.numbers _ _ 0 (trees_of c) v w k.keeps (omega arith)
part-steady limit most v w (Err x) k b = balanced-steady limit x v w 0 b

-- want of memory before the worker did anything
pub balanced-none : (limit : ℕ) (v : View) → IsBalanced limit errors.Memory v v
balanced-none limit v = record {
  holds = Trades-same v.holds v.holds refl;
  gain = no_gain;
  gained = gained-same v v refl;
  counts = All-nil _;
  ended = refl;
  used = refl;
  looks = refl;
}
