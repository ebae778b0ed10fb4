-- What the proof of `topped` needs beyond the search.
use Rattle.std.proofs.Common.{List, [], ◌∷◌, ◌+◌, length, sum_by, sym, ap, subst, arith}
use Rattle.std.specs.List.{All}
use Rattle.std.proofs.lemmas.Result.{IfOk-weaker, IfErr-weaker}
use Rattle.node_forest.specs.Label.{Node}
use Rattle.node_edges.specs.Trees.{IsTreeAt}
use Rattle.pool_rule.specs.Trades.{HasHolds}
use Rattle.pool_rule.proofs.Trades.{Stands-kept, HasHolds-gained}
use Rattle.btree_node.specs.Made.{IsRefusedFrom}
use Rattle.btree_node.proofs.AddLaws.{topped-of, topped-from}
use Rattle.btree_node.proofs.GrowLaws.{length-over}
use Rattle.btree_node.proofs.ListLaws.{All-one}
use Rattle.btree_node.proofs.MadeLaws.{refused-made}
use Rattle.btree_node.proofs.adding.topped.Goals as goal

pub branch_beside-requires-clause-stand : goal.branch_beside-requires-clause-stand
branch_beside-requires-clause-stand g c = λ k d lt. Stands-kept c.args.w.now.holds _ c.wrapped.new.w.holds _ c.in_ok-top.ensures.made.traded (c.requires.stand k d lt)

pub branch_beside-requires-clause-held : goal.branch_beside-requires-clause-held
branch_beside-requires-clause-held g c =
    subst (λ (es : List Node). HasHolds c.wrapped.new.w.holds es) (sym c.from_ref-own.ensures.value) (HasHolds-gained c.args.w.now.holds (c.in_ok-top.top ∷ []) c.wrapped.new.w.holds c.in_ok-top.ensures.made.traded)

pub branch_beside-requires-clause-own_trees : goal.branch_beside-requires-clause-own_trees
branch_beside-requires-clause-own_trees g c = subst (All (IsTreeAt (c.args.level + c.args.steps))) (sym c.from_ref-own.ensures.value) (All-one (IsTreeAt (c.args.level + c.args.steps)) c.in_ok-top.top c.in_ok-top.ensures.tree.tree)

pub branch_beside-requires-clause-some : goal.branch_beside-requires-clause-some
branch_beside-requires-clause-some g c = omega (arith, ap (λ (es : List Node). length es) c.from_ref-own.ensures.value)

pub branch_beside-requires-clause-few : goal.branch_beside-requires-clause-few
branch_beside-requires-clause-few g c = omega (arith, ap (λ (es : List Node). length es) c.from_ref-own.ensures.value, c.requires.few)

pub branch_beside-requires-clause-small : goal.branch_beside-requires-clause-small
branch_beside-requires-clause-small g c =
    omega (arith, c.requires.short, ap (sum_by (λ (e : Node). e.0.length)) c.from_ref-own.ensures.value, length-over c.args.level (c.args.level + c.args.steps) _ c.args.node.now c.in_ok-top.top c.requires.node c.in_ok-top.ensures.tree)

pub branch_beside-requires-clause-room : goal.branch_beside-requires-clause-room
branch_beside-requires-clause-room g c = omega (arith, c.in_ok-top.ensures.made.traded.count, c.requires.room)

pub returns-clause-tree : goal.returns-clause-tree
returns-clause-tree g c =
    IfOk-weaker c.branch_beside.result _ _ (λ e branch. topped-of c.args.side c.args.level c.args.steps c.args.node.now c.in_ok-top.top e c.args.edges.now c.from_ref-own.result.now c.from_ref-own.ensures.value c.in_ok-top.ensures.tree branch) c.branch_beside.ensures.branch

pub returns-clause-made : goal.returns-clause-made
returns-clause-made g c =
    IfOk-weaker c.branch_beside.result _ _ (λ e made. topped-from c.args.side c.args.w.now c.wrapped.new.w c.branch_beside.new.w c.args.node.now c.in_ok-top.top e c.args.edges.now c.from_ref-own.result.now c.from_ref-own.ensures.value c.in_ok-top.ensures.made made) c.branch_beside.ensures.made

pub returns-clause-refused : goal.returns-clause-refused
returns-clause-refused g c =
    IfErr-weaker c.branch_beside.result _ _
    (λ x r. refused-made g.P.Naming.size x c.args.w.now c.wrapped.new.w c.branch_beside.new.w (c.args.node.now ∷ []) c.in_ok-top.top c.in_ok-top.ensures.made (subst (λ (es : List Node). IsRefusedFrom g.P.Naming.size es x c.wrapped.new.w c.branch_beside.new.w) c.from_ref-own.ensures.value r))
    c.branch_beside.ensures.refused
