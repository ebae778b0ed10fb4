-- Edges of a slice that are shared, left or finished one after another.
use Rattle.std.proofs.Common.{◌≡◌, ◌≢◌, ℕ, ◌+◌, ◌<◌, ◌≤◌, List, [], ◌∷◌, ◌++◌, length, take, get_or, refl, sym, ap, subst, ◌∙◌, arith}
use Rattle.std.specs.List.{All, Contains}
use Rattle.std.proofs.lemmas.List.{length-take-le}
use Rattle.std.proofs.lemmas.List.Elements.{All-append, All-nil, Contains-get_or}
use Rattle.node_forest.specs.Forest.{children}
use Rattle.node_forest.specs.Label.{Node}
use Rattle.pool_rule.specs.Gains.{no_gain, Gained}
use Rattle.pool_rule.specs.Rules.{Narrow}
use Rattle.pool_rule.specs.Trades.{Trades, Stands, AreSpare}
use Rattle.pool_rule.specs.Views.{View}
use Rattle.pool_rule.proofs.Door.{stands-occurs}
use Rattle.pool_rule.proofs.Gains.{gaining-none, gained-then}
use Rattle.pool_rule.proofs.Trades.{trade, Trades-spend_more, AreSpare-held, AreSpare-stands}
use Rattle.node_pool.specs.declared.calls.Left.{Left}
use Rattle.node_pool.specs.declared.calls.Left.TheVariants.{Shared, Last}
use Rattle.node_pool.specs.Answers.{freed, number_back, left_by}
use Rattle.node_pool.specs.Finishes.{IsNumberIn, IsFinished}
use Rattle.node_pool.specs.Slices.{IsNumberUnder, AreFinished}
use Rattle.node_pool.proofs.Gaining.{gained-left, gained-finished}

pub length-taken : (i : ℕ) (es : List Node) → i < length es → length (take i es) ≡ i
length-taken i es low = length-take-le i es (omega (arith, low))

-- ---- edges that still stand
-- a leave that wasn't the last gained nothing, and one hold went
record IsUnshared (e : Node) (w x : View) : Type 0 where
  pub traded : Trades w.holds (e ∷ []) [] x.holds
  pub gained : Gained no_gain w x

unshared-by : (a : Left) (e : Node) (w x : View) → a ≡ Shared → x ≡ left_by a e w → Trades w.holds (e ∷ []) (freed a e) x.holds → IsUnshared e w x
unshared-by a e w x shared is traded = record {
  traded = subst (λ (z : Left). Trades w.holds (e ∷ []) (freed z e) x.holds) shared traded;
  gained = subst (λ (z : Left). Gained (record no_gain { returned = number_back z e }) w x) shared (gained-left w x a e is);
}

module _ (es : List Node) (i : ℕ) (e : Node) (v w : View) (low : i < length es) (at : e ≡ get_or es i e) (spare : AreSpare v.holds es) (traded : Trades v.holds (take i es) [] w.holds) where
  pub unshared-more : (a : Left) (x : View) → Gained no_gain v w → x ≡ left_by a e w → Trades w.holds (e ∷ []) (freed a e) x.holds → (Stands x.holds e → a ≡ Shared) → Trades v.holds (take (i + 1) es) [] x.holds × Gained no_gain v x
  unshared-more a x gained is left standing =
      let shared = standing (AreSpare-stands v.holds w.holds x.holds es (freed a e) i e low at spare traded left) in
      let u = unshared-by a e w x shared is left in
      (Trades-spend_more v.holds w.holds x.holds es i e low at traded u.traded, gained-then no_gain no_gain v w x gained u.gained)

-- ---- edges that are finished
pub finished-none : (es : List Node) (v : View) → AreFinished es v v
finished-none es v = record { back = []; numbers = All-nil _; gained = gaining-none v }

under-one : (es : List Node) (e : Node) (ns : List ℕ) → Contains es e → All (IsNumberIn e) ns → All (IsNumberUnder es) ns
under-one es e ns one all k d lt = (e, one, all k d lt)

pub finished-next : (es : List Node) (i : ℕ) (e : Node) (v w x : View) → i < length es → e ≡ get_or es i e → AreFinished es v w → IsFinished e w x → AreFinished es v x
finished-next es i e v w x low at a b =
    let one = subst (Contains es) (sym at) (Contains-get_or es i e low) in
    record {
      back = a.back ++ b.back;
      numbers = All-append (IsNumberUnder es) a.back b.back a.numbers (under-one es e b.back one b.numbers);
      gained = gained-then (record no_gain { returned = a.back }) (record no_gain { returned = b.back }) v w x a.gained (gained-finished w x e b);
    }
