-- What the proof of `laid_over` needs beyond the search.
use Rattle.std.proofs.Common.{◌≡◌, ◌+◌, ◌≤◌, List, [], ◌∷◌, length, sum_by, map, refl, sym, ap, subst, ◌∙◌, arith}
use Rattle.std.specs.List.{All, Contains, flat_map}
use Rattle.std.proofs.lemmas.Result.{IfOk-weaker, IfErr-weaker}
use Rattle.node_forest.specs.Label.{Node}
use Rattle.node_edges.specs.Body.{IsBranchOf}
use Rattle.tree_shapes.specs.Shape.{branch_over}
use Rattle.node_edges.specs.Text.{text}
use Rattle.node_edges.specs.Trees.{shape_of}
use Rattle.node_edges.specs.Ways.{branches_down}
use Rattle.node_edges.proofs.WayLaws.{tree-down}
use Rattle.pool_rule.specs.Trades.{Trades, HasHolds}
use Rattle.tree_shapes.specs.Growth.{placed, beside}
use Rattle.tree_shapes.specs.Room.{laid}
use Rattle.btree_edit.proofs.StepLaws.{grown-over, grown-refused, grown-undone}
use Rattle.btree_edit.proofs.GrowLaws.{some-behind, full-behind, lengths-behind, laid-branch}
use Rattle.btree_node.specs.Made.{IsMadeFrom, IsRefusedFrom, nodes_of_all}
use Rattle.tree_shapes.specs.Flats.{flats}
use Rattle.tree_shapes.proofs.GrowthLaws.{length-placed}
use Rattle.btree_node.proofs.ListLaws.{beside-one, sum-beside}
use Rattle.btree_node.proofs.MadeLaws.{all-short}
use Rattle.btree_node.proofs.GainLaws.{gained-finished, gained-finished_all, gained-shared_all, took-none}
use Rattle.btree_edit.proofs.growing.laid_over.Goals as goal

pub finish-requires-clause-short : goal.finish-requires-clause-short
finish-requires-clause-short g c = omega (arith, tree-down c.args.height c.args.child.now c.requires.child, c.requires.low)

pub returns-in_default-clause-refused : goal.returns-in_default-clause-refused
returns-in_default-clause-refused g c = record {
  traded = c.finish.ensures.traded;
  gained = gained-finished c.args.child.now c.args.w.now c.finish.new.w c.finish.ensures.finished;
  cause = tt;
  height = tt;
}

pub gathered-requires-clause-full : goal.gathered-requires-clause-full
gathered-requires-clause-full g c = λ some. full-behind c.args.side c.args.height c.in-Ok.edges.items c.args.siblings.now c.args.child.now c.in-Ok.ensures.copied (c.requires.full some)

pub branch_of-requires-clause-small : goal.branch_of-requires-clause-small
branch_of-requires-clause-small g c =
    let es = c.gathered.new.edges.items in
    let same = ap (sum_by (λ (e : Node). e.0.length)) c.deref.ensures.value in
    let joined : flat_map text es ≡ beside c.args.side (flat_map text (placed c.args.side c.args.siblings.now c.args.child.now)) c.args.bytes.now = c.in-Ok-gathered.ensures.text ∙ ap (λ (zs : List Node). beside c.args.side (flat_map text zs) c.args.bytes.now) c.in-Ok.ensures.copied in
    omega (arith, same, lengths-behind c.args.side c.args.height es c.args.siblings.now c.args.child.now c.args.bytes.now c.in-Ok-gathered.ensures.trees c.requires.siblings c.requires.child joined, c.requires.short)

pub returns-in-Ok-gathered-clause-tree : goal.returns-in-Ok-gathered-clause-tree
returns-in-Ok-gathered-clause-tree g c =
    let h = c.args.height in
    let bs = c.args.bytes.now in
    let es = c.gathered.new.edges.items in
    let before : List Node = placed c.args.side c.args.siblings.now c.args.child.now in
    let shapes : laid c.args.side h (map shape_of before) (flats c.args.side (length bs)) ≡ branch_over h (map shape_of es) = ap (λ (zs : List Node). laid c.args.side h (map shape_of zs) (flats c.args.side (length bs))) (sym c.in-Ok.ensures.copied) ∙ c.in-Ok-gathered.ensures.laid in
    let joined : flat_map text es ≡ beside c.args.side (flat_map text before) bs = c.in-Ok-gathered.ensures.text ∙ ap (λ (zs : List Node). beside c.args.side (flat_map text zs) bs) c.in-Ok.ensures.copied in
    IfOk-weaker c.branch_of.result _ _
    (λ e branch. laid-branch c.args.side h before es bs e (subst (λ (zs : List Node). IsBranchOf h zs e) c.deref.ensures.value branch) c.in-Ok-gathered.ensures.trees
    (some-behind c.args.side h es c.args.siblings.now c.args.child.now bs c.in-Ok-gathered.ensures.trees c.requires.siblings c.requires.child joined) c.in-Ok-gathered.ensures.few shapes joined)
    c.branch_of.ensures.branch

pub returns-in-Ok-gathered-clause-made : goal.returns-in-Ok-gathered-clause-made
returns-in-Ok-gathered-clause-made g c =
    let v = c.args.w.now in
    let w = c.share_all.new.w in
    let z = c.gathered.new.w in
    let x = c.branch_of.new.w in
    let siblings = c.args.siblings.now in
    let child = c.args.child.now in
    let es = c.gathered.new.edges.items in
    let before : List Node = placed c.args.side siblings child in
    let gained : Trades w.holds before es z.holds = subst (λ (zs : List Node). Trades w.holds zs es z.holds) c.in-Ok.ensures.copied c.in-Ok-gathered.ensures.traded in
    let took : length z.taken + nodes_of_all before ≡ length w.taken + nodes_of_all es = subst (λ (zs : List Node). length z.taken + nodes_of_all zs ≡ length w.taken + nodes_of_all es) c.in-Ok.ensures.copied c.in-Ok-gathered.ensures.took in
    IfOk-weaker c.branch_of.result _ _
    (λ e made. grown-over c.args.side v w z x siblings es child c.share_all.ensures.traded (took-none _ v w c.share_all.ensures.gained refl) (gained-shared_all _ v w c.share_all.ensures.gained) gained c.in-Ok-gathered.ensures.gained e took (subst (λ (zs : List Node). All (Contains es) zs) c.in-Ok.ensures.copied c.in-Ok-gathered.ensures.kept)
    (subst (λ (zs : List Node). IsMadeFrom zs zs z x e) c.deref.ensures.value made))
    c.branch_of.ensures.made

pub returns-in-Ok-gathered-clause-refused : goal.returns-in-Ok-gathered-clause-refused
returns-in-Ok-gathered-clause-refused g c =
    let v = c.args.w.now in
    let w = c.share_all.new.w in
    let z = c.gathered.new.w in
    let x = c.branch_of.new.w in
    let n = g.P.Naming.size in
    let siblings = c.args.siblings.now in
    let child = c.args.child.now in
    let es = c.gathered.new.edges.items in
    let before : List Node = placed c.args.side siblings child in
    let gained : Trades w.holds before es z.holds = subst (λ (zs : List Node). Trades w.holds zs es z.holds) c.in-Ok.ensures.copied c.in-Ok-gathered.ensures.traded in
    IfErr-weaker c.branch_of.result _ _
    (λ error refused. grown-refused c.args.side v w z x siblings es child c.share_all.ensures.traded (took-none _ v w c.share_all.ensures.gained refl) (gained-shared_all _ v w c.share_all.ensures.gained) gained c.in-Ok-gathered.ensures.gained n error
    (subst (λ (zs : List Node). IsRefusedFrom n zs error z x) c.deref.ensures.value refused))
    c.branch_of.ensures.refused

pub finish_all-requires-clause-short : goal.finish_all-requires-clause-short
finish_all-requires-clause-short g c =
    subst (All (λ (e : Node). branches_down e ≤ 12)) (sym c.deref-in-Err.ensures.value) (all-short c.args.height c.gathered.new.edges.items (omega (arith, c.requires.low)) c.in-Err.ensures.trees)

pub returns-clause-refused : goal.returns-clause-refused
returns-clause-refused g c =
    let v = c.args.w.now in
    let w = c.share_all.new.w in
    let z = c.gathered.new.w in
    let x = c.finish_all.new.w in
    let siblings = c.args.siblings.now in
    let child = c.args.child.now in
    let es = c.gathered.new.edges.items in
    let before : List Node = placed c.args.side siblings child in
    let gained : Trades w.holds before es z.holds = subst (λ (zs : List Node). Trades w.holds zs es z.holds) c.in-Ok.ensures.copied c.in-Err.ensures.traded in
    let back : Trades z.holds es [] x.holds = subst (λ (zs : List Node). Trades z.holds zs [] x.holds) c.deref-in-Err.ensures.value c.finish_all.ensures.traded in
    grown-undone c.args.side v w z x siblings es child c.share_all.ensures.traded (took-none _ v w c.share_all.ensures.gained refl) (gained-shared_all _ v w c.share_all.ensures.gained) gained c.in-Err.ensures.gained g.P.Naming.size c.in-Err.error c.in-Err.ensures.cause c.in-Err.ensures.height back (gained-finished_all _ z x c.finish_all.ensures.finished)

pub finish_all-requires-clause-held : goal.finish_all-requires-clause-held
finish_all-requires-clause-held g c =
    let side = c.args.side in
    let siblings = c.args.siblings.now in
    let child = c.args.child.now in
    subst (λ (zs : List Node). HasHolds c.gathered.new.w.holds zs) (sym c.deref-in-Err.ensures.value)
    (record { weighs = λ f. omega (arith, c.in-Err.ensures.traded.weighs f, c.share_all.ensures.traded.weighs f, c.requires.held.weighs f, ap (sum_by f) c.in-Ok.ensures.copied, ap (sum_by f) (beside-one side siblings child), sum-beside side f siblings (child ∷ [])) })

pub finish_all-requires-clause-room : goal.finish_all-requires-clause-room
finish_all-requires-clause-room g c =
    omega (
      arith,
      c.in-Err.ensures.traded.count,
      c.share_all.ensures.traded.count,
      ap (λ (zs : List Node). length zs) c.in-Ok.ensures.copied,
      length-placed c.args.side c.args.siblings.now c.args.child.now,
      c.in-Err.ensures.few,
      c.requires.room,
    )
