use Rattle.std.proofs.Common.{ℕ, ◌≡◌, ◌-◌, ◌≤◌, ◌++◌, [], ◌∷◌, length, ap, sym, subst, ◌∙◌, arith, append-nil, append_assoc, refl}
use Rattle.std.proofs.lemmas.List.{length-append}
use Rattle.tree_shapes.specs.Shape.{level}
use Rattle.node_edges.specs.Trees.{shape_of, IsTreeAt}
use Rattle.node_edges.proofs.EdgeLaws.{level-other}
use Rattle.chunk_reader.specs.Places.{Stop, place_in, way_down, rest_at}
use Rattle.chunk_reader.proofs.DescentLaws.{step-to, falls, up, data-way, data-rest}
use Rattle.chunk_reader.proofs.way.Way.+descend.Goals as goal

pub data_rest-requires : goal.data_rest-requires
data_rest-requires t c =
    let low = level-other c.args.edge.now _ c.body.ensures.body c.in_default.not-Branch in
    record { tree = subst (λ n. IsTreeAt n c.args.edge.now) low c.requires.tree; within = omega (arith, c.requires.from, c.requires.within) }

pub returns-in_default : goal.returns-in_default
returns-in_default t c =
    let e = c.args.edge.now in
    let low = level-other e _ c.body.ensures.body c.in_default.not-Branch in
    record {
      root = refl;
      way = sym (ap (λ xs. c.args.self.now.stops ++ xs) (data-way e c.args.start (c.args.place - c.args.start) low) ∙ append-nil c.args.self.now.stops);
      rest = c.data_rest.ensures ∙ sym (data-rest e (c.args.place - c.args.start) low);
    }

pub push-requires : goal.push-requires
push-requires t c = omega (arith, c.requires.room, up c.args.edge.now c.in-Branch.height c.in-Branch.edges (rw c.in-Branch.is at c.body.ensures) c.requires.tree)

pub index-requires : goal.index-requires
index-requires t c =
    let fall = falls c.args.edge.now c.in-Branch.height c.in-Branch.edges (rw c.in-Branch.is at c.body.ensures) c.requires.tree c.args.start c.args.place c.requires.from c.requires.within in
    let at = c.edge_at-at.ensures ∙ ap (λ es. place_in es (c.args.place - c.args.start)) c.deref.ensures.value in
    omega (arith, fall.within, ap (λ (p : ℕ × ℕ). p.0) at, c.deref.ensures.len, ap length c.deref.ensures.value)

pub overflow_sub-place-3 : goal.overflow_sub-place-3
overflow_sub-place-3 t c = omega (arith, (step-to c.args.edge.now c.in-Branch.height c.in-Branch.edges (rw c.in-Branch.is at c.body.ensures) c.requires.tree c.args.start c.args.place c.requires.from c.requires.within c.edge_at-at.result c.deref.result.now c.index.result.now c.edge_at-at.ensures c.deref.ensures.value c.index.ensures).inner_le)

pub descend-requires : goal.descend-requires
descend-requires t c =
    let s = step-to c.args.edge.now c.in-Branch.height c.in-Branch.edges (rw c.in-Branch.is at c.body.ensures) c.requires.tree c.args.start c.args.place c.requires.from c.requires.within c.edge_at-at.result c.deref.result.now c.index.result.now c.edge_at-at.ensures c.deref.ensures.value c.index.ensures in
    let stop : Stop = record { branch = c.args.edge.now; start = c.args.start; edge = c.edge_at-at.result.0 } in
    let kept = length-append c.args.self.now.stops (stop ∷ []) in
    (omega (arith, s.less, c.decreases), (s.tree, (omega arith, (omega (arith, s.within, s.inner_le), omega (arith, s.less, c.requires.room, ap length c.push.ensures.stops, kept)))))

inner-back : (m n : ℕ) → m ≤ n → n - (n - m) ≡ m
inner-back m n le = omega (arith, le)

pub returns-clause-way : goal.returns-clause-way
returns-clause-way t c =
    let s = step-to c.args.edge.now c.in-Branch.height c.in-Branch.edges (rw c.in-Branch.is at c.body.ensures) c.requires.tree c.args.start c.args.place c.requires.from c.requires.within c.edge_at-at.result c.deref.result.now c.index.result.now c.edge_at-at.ensures c.deref.ensures.value c.index.ensures in
    let e = c.args.edge.now in
    let child = c.index.result.now in
    let stop : Stop = record { branch = e; start = c.args.start; edge = c.edge_at-at.result.0 } in
    let below = way_down (level (shape_of child)) child (c.args.place - c.edge_at-at.result.1) in
    let back = inner-back c.edge_at-at.result.1 c.args.place (omega (arith, s.inner_le)) in
    c.descend.ensures.way
    ∙ ap (λ xs. xs ++ below (c.args.place - (c.args.place - c.edge_at-at.result.1))) c.push.ensures.stops
    ∙ ap (λ n. (c.args.self.now.stops ++ stop ∷ []) ++ below n) back
    ∙ append_assoc c.args.self.now.stops (stop ∷ []) (below c.edge_at-at.result.1)
    ∙ ap (λ xs. c.args.self.now.stops ++ xs) (sym s.way)

pub returns-clause-rest : goal.returns-clause-rest
returns-clause-rest t c =
    let s = step-to c.args.edge.now c.in-Branch.height c.in-Branch.edges (rw c.in-Branch.is at c.body.ensures) c.requires.tree c.args.start c.args.place c.requires.from c.requires.within c.edge_at-at.result c.deref.result.now c.index.result.now c.edge_at-at.ensures c.deref.ensures.value c.index.ensures in
    let child = c.index.result.now in
    let back = inner-back c.edge_at-at.result.1 c.args.place (omega (arith, s.inner_le)) in
    c.descend.ensures.rest ∙ ap (λ n. rest_at (level (shape_of child)) child n) back ∙ sym s.rest
