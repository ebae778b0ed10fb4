-- What the calls of the pool gain where a Part is made.
use Rattle.std.proofs.Common.{ℕ, ◌≡◌, ◌+◌, List, [], ◌∷◌, ◌++◌, subst}
use Rattle.std.specs.Result.{IfErr}
use Rattle.std.specs.Prelude.{Result, Ok, Err}
use Rattle.node_forest.specs.declared.kind.Kind.{Kind}
use Rattle.node_forest.specs.declared.kind.Kind.TheVariants.{Part}
use Rattle.node_forest.specs.Label.{Node, number}
use Rattle.pool_rule.specs.Gains.{no_gain, Gained}
use Rattle.pool_rule.specs.Notes.{uses_of}
use Rattle.pool_rule.specs.Views.{View, sharing}
use Rattle.pool_rule.proofs.Gains as gains
use Rattle.node_pool.specs.Answers.{IsTaken}
use Rattle.node_pool.specs.Finishes.{IsFinished}
use Rattle.node_pool.specs.Refusals.{IsCause, IsNoted}
use Rattle.node_pool.specs.declared.refusals.NodeError.{NodeError}
use Rattle.node_pool.proofs.Gaining as gaining
use Rattle.edge_nodes.specs.Pieces.{GainsPiece}

pub gained-same : (v w : View) → w ≡ v → GainsPiece [] v w
gained-same v w e = record { found = []; back = []; shares = 0; is = gains.gained-same v w e }

pub gained-then : (a b : List ℕ) (v w x : View) → GainsPiece a v w → GainsPiece b w x → GainsPiece (a ++ b) v x
gained-then a b v w x p q = record {
  found = p.found ++ q.found;
  back = p.back ++ q.back;
  shares = p.shares + q.shares;
  is =
      gains.gained-then (record no_gain { taken = a; full = p.found; returned = p.back; shares = p.shares })
      (record no_gain { taken = b; full = q.found; returned = q.back; shares = q.shares }) v w x p.is q.is;
}

pub gained-shared : (e : Node) (v w : View) → w ≡ sharing e v → GainsPiece [] v w
gained-shared e v w is = record { found = []; back = []; shares = 1; is = gaining.gained-shared v w e is }

pub gained-finished : (e : Node) (v w : View) → IsFinished e v w → GainsPiece [] v w
gained-finished e v w is = record { found = []; back = is.back; shares = 0; is = gaining.gained-finished v w e is }

pub gained-none : (v w : View) → Gained no_gain v w → GainsPiece [] v w
gained-none v w is = record { found = []; back = []; shares = 0; is = is }

pub gained-refused : (x : NodeError) (v w : View) → IsNoted x v w → GainsPiece [] v w
gained-refused x v w is = record { found = gaining.found_by x v w is; back = []; shares = 0; is = gaining.gained-noted x v w is }

-- a Part that was taken; it uses no releaser slot
pub gained-part : (size : ℕ) (v w : View) (e : Node) → e.0.kind ≡ Part → IsTaken size v w e → GainsPiece (number e ∷ []) v w
gained-part size v w e part is = record {
  found = is.found;
  back = [];
  shares = 0;
  is = subst (λ (k : Kind). Gained (record no_gain { taken = number e ∷ []; full = is.found; used = uses_of k e }) v w) part (gaining.gained-taken size v w e is);
}

-- a want of numbers in the middle of a call is one of the call
pub cause-within : (size : ℕ) (x : NodeError) (a b : List ℕ) (u v w z : View) → GainsPiece a u v → IsCause size x v w → GainsPiece b w z → IsCause size x u z
cause-within size x a b u v w z p is q =
    gaining.cause-within size x (record no_gain { taken = a; full = p.found; returned = p.back; shares = p.shares })
    (record no_gain { taken = b; full = q.found; returned = q.back; shares = q.shares }) u v w z p.is is q.is

-- what is so whatever the error is
pub if-err : {T E : Type 0} (r : Result T E) (Q : Type 0) → Q → IfErr r (λ _. Q)
if-err (Ok x) Q is = tt
if-err (Err x) Q is = is
