-- What is counted: passes, trees of names, and trees that came to the board and left it.
use Rattle.std.proofs.Common.{◌≡◌, ◌∙◌, sym, ap, refl, subst, ℕ, ◌+◌, List, [], ◌∷◌, ◌++◌, arith}
use Rattle.plain_cord.specs.declared.deed.Deed.{Deed}
use Rattle.pool_rule.specs.Gains.{no_gain, gain_then}
use Rattle.pool_rule.specs.Views.{View, count_of}
use Rattle.pool_rule.proofs.Gains.{gained-same, gained-then}
use Rattle.pool_rule.proofs.Trades.{Trades-same}
use Rattle.node_pool.specs.Passes.{counted, uncounted, IsPassMade}
use Rattle.node_pool.proofs.Gaining.{gained-made, gained-ended, gained-undone}
use Rattle.cord_value.specs.Views.{CordView}
use Rattle.cord_board.specs.declared.view.BoardView.{BoardView}
use Rattle.cord_board.specs.Views.{mine_of, Did}
use Rattle.board_weights.specs.Weights.{weigh_deeds, weigh_one, weigh_came, weigh_left, got_of}
use Rattle.cord_commands.specs.Accounts.{trees_of, AddsUp, IsSteady}
use Rattle.cord_commands.proofs.Steady.{same-holds, steady-then}
use Rattle.cord_seats.specs.Seats.{IsEven, StaysSteady, Settles}

-- one action more
pub deeds-more : {C : Type 0} (g : Deed C → ℕ) (ds : List (Deed C)) (d : Deed C) → weigh_deeds g (ds ++ d ∷ []) ≡ weigh_deeds g ds + g d
deeds-more g [] d = omega arith
deeds-more g (e ∷ ds) d = let i = deeds-more g ds d in omega arith

module _ (v w : BoardView CordView) (d : Deed CordView) (did : Did v w d) where
  mine-more : mine_of w ≡ mine_of v ++ d ∷ []
  mine-more = ap mine_of did

  pub came-more : weigh_came trees_of (mine_of w) ≡ weigh_came trees_of (mine_of v) + weigh_one trees_of d.came
  came-more = ap (weigh_came trees_of) mine-more ∙ deeds-more (λ e. weigh_one trees_of e.came) (mine_of v) d

  pub left-more : weigh_left trees_of (mine_of w) ≡ weigh_left trees_of (mine_of v) + weigh_one trees_of (got_of d.act d.was)
  left-more = ap (weigh_left trees_of) mine-more ∙ deeds-more (λ e. weigh_one trees_of (got_of e.act e.was)) (mine_of v) d

  -- an action, and what the worker did beside it
  pub acted-steady : (t u : View) (before after x y : ℕ) → IsSteady t u x y → before + weigh_one trees_of (got_of d.act d.was) + y ≡ after + weigh_one trees_of d.came + x
      → StaysSteady t u before after (mine_of v) (mine_of w)
  acted-steady t u before after x y s even = record {
    holds = s.holds;
    grew = s.grew;
    accounts = (let m = s.accounts in let c = came-more in let l = left-more in omega arith);
  }

  -- an action alone
  pub acted-even : (before after : ℕ) → before + weigh_one trees_of (got_of d.act d.was) ≡ after + weigh_one trees_of d.came → IsEven before after (mine_of v) (mine_of w)
  acted-even before after even = let c = came-more in let l = left-more in omega arith

-- no action
pub quiet-even : (t u : View) (before after : ℕ) (mine did : List (Deed CordView)) → did ≡ mine → AddsUp t u before after → StaysSteady t u before after mine did
quiet-even t u before after mine did same s = subst (λ (z : List (Deed CordView)). StaysSteady t u before after mine z) (sym same)
    (record { holds = s.holds; grew = s.grew; accounts = (let m = s.accounts in omega arith) })

pub quiet-steady : (t u : View) (before after : ℕ) (mine did : List (Deed CordView)) → did ≡ mine → IsSteady t u before after → StaysSteady t u before after mine did
quiet-steady t u before after mine did same s = quiet-even t u before after mine did same (record { holds = s.holds; grew = s.grew; accounts = s.accounts })

pub even-steady : (t : View) (before after : ℕ) (mine did : List (Deed CordView)) → IsEven before after mine did → StaysSteady t t before after mine did
even-steady t before after mine did even = record {
  holds = Trades-same t.holds t.holds refl;
  grew = record { gain = no_gain; is = gained-same t t refl };
  accounts = omega (arith, even);
}

-- one after another
pub stays-then : (t u w : View) (a b c : ℕ) (mine did then : List (Deed CordView)) → StaysSteady t u a b mine did → StaysSteady u w b c did then → StaysSteady t w a c mine then
stays-then t u w a b c mine did then one two = record {
  holds = same-holds t.holds u.holds w.holds one.holds two.holds;
  grew = record {
    gain = gain_then one.grew.gain two.grew.gain;
    is = gained-then one.grew.gain two.grew.gain t u w one.grew.is two.grew.is;
  };
  accounts = (let m = one.accounts in let n = two.accounts in omega arith);
}

pub stays-none : (t : View) (a : ℕ) (mine : List (Deed CordView)) → StaysSteady t t a a mine mine
stays-none t a mine = even-steady t a a mine mine (omega arith)

-- at the end the names are cleared
pub settled : (t u w : View) (a : ℕ) (mine did : List (Deed CordView)) → mine ≡ [] → a ≡ 0 → (b : ℕ) → StaysSteady t u a b mine did → IsSteady u w b 0 → Settles t w did
settled t u w a mine did none new b s e = record {
  holds = same-holds t.holds u.holds w.holds s.holds e.holds;
  grew = record { gain = gain_then s.grew.gain e.grew.gain; is = gained-then s.grew.gain e.grew.gain t u w s.grew.is e.grew.is };
  accounts = (
      let m = s.accounts in
      let n = e.accounts in
      let came : weigh_came trees_of mine ≡ 0 = ap (weigh_came trees_of) none in
      let left : weigh_left trees_of mine ≡ 0 = ap (weigh_left trees_of) none in
      omega arith
      );
}

-- ---- passes
pub pass-steady : (limit : ℕ) (v w : View) → IsPassMade limit v w → IsSteady v w 0 1
pass-steady limit v w made = record {
  holds = Trades-same v.holds w.holds (ap (λ (z : View). z.holds) made.view);
  grew = record { gain = record no_gain { counts = count_of made.found v ∷ [] }; is = gained-made limit v w made };
  idle = refl;
  accounts = (let m = ap (λ (z : View). z.made) made.view in let n = ap (λ (z : View). z.ended) made.view in omega arith);
}

-- and a copy came into it, or it ended
pub copy-steady : (limit : ℕ) (u v w : View) (n : ℕ) → IsPassMade limit u v → IsSteady v w 1 n → IsSteady u w 0 n
copy-steady limit u v w n made steady = steady-then u v w 0 1 n (pass-steady limit u v made) steady

pub undone-steady : (found : ℕ) (v w : View) → w ≡ uncounted (counted found v) → IsSteady v w 0 0
undone-steady found v w is = record {
  holds = Trades-same v.holds w.holds (ap (λ (z : View). z.holds) is);
  grew = record { gain = record no_gain { counts = count_of found v ∷ []; ended = 1 }; is = gained-undone v w found is };
  idle = refl;
  accounts = (let m = ap (λ (z : View). z.made) is in let n = ap (λ (z : View). z.ended) is in omega arith);
}

pub end-steady : (v w : View) → w ≡ uncounted v → IsSteady v w 1 0
end-steady v w ended = record {
  holds = Trades-same v.holds w.holds (ap (λ (z : View). z.holds) ended);
  grew = record { gain = record no_gain { ended = 1 }; is = gained-ended v w ended };
  idle = refl;
  accounts = (let m = ap (λ (z : View). z.made) ended in let n = ap (λ (z : View). z.ended) ended in omega arith);
}
