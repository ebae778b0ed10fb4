-- The facts of `edit_below` that the check leaves to be shown.
use Rattle.std.proofs.Common.{◌≡◌, ◌∙◌, ◌+◌, ◌^◌, ◌<◌, ◌≤◌, ◌∷◌, ℕ, List, length, take, drop, set, get_or, map, reverse, sym, ap, subst, arith}
use Rattle.node_forest.specs.Label.{Node}
use Rattle.node_edges.specs.declared.change.Change.{Change}
use Rattle.node_forest.specs.Paths.{NeverDeeper}
use Rattle.node_forest.specs.Changes.{Exchange, Site, site, total}
use Rattle.node_edges.specs.Changes.{edits, FitEach}
use Rattle.node_edges.specs.Levels.{exchange_of, exchanges_in, all_bytes, all_room, FitAllBytes, all_after, all_out, AreAt, AreDeep, CanExchange, lowered, most_out}
use Rattle.node_edges.proofs.EditLaws.{flat_at, branch_at, never-take}
use Rattle.node_edges.proofs.LevelLaws.{flat-level_fits, flat-level, branch-few, own-here, has-path, within, child-fits, below-here, made-branch, most-parts, fits-kinds, none-there, some-there}
use Rattle.node_edges.proofs.edit.+edit_below.Goals as goal

pub fill_and_shorten-requires-clause-fit : goal.fill_and_shorten-requires-clause-fit
fill_and_shorten-requires-clause-fit t c =
    let view = c.edge.view_is ∙ c.unshare.ensures in
    let fits = flat-level_fits c.args.changes.now c.args.depth c.edge.inside.number c.edge.inside.length c.in-Flat.room c.in-Flat.bytes c.edge.inside.body.value c.args.edge.now c.args.path.now c.args.out.now.items
    (sym c.in-Flat.is ∙ c.in-Some.ensures.value) view c.edge.invariant c.requires.fit in
    subst (λ (z : List ℕ). FitAllBytes c.args.changes.now z c.in-Flat.room) (sym c.reserve.ensures.items) fits

pub returns-in-Flat-clause-edited : goal.returns-in-Flat-clause-edited
returns-in-Flat-clause-edited t c =
    let view = c.edge.view_is ∙ c.unshare.ensures in
    let n = c.edge.inside.number in
    let end = flat-level c.args.changes.now c.args.depth n c.edge.inside.length c.in-Flat.room c.in-Flat.bytes c.edge.inside.body.value c.args.edge.now c.args.path.now c.args.out.now.items
    (sym c.in-Flat.is ∙ c.in-Some.ensures.value) view c.edge.invariant c.requires.fit in
    let bytes : c.fill_and_shorten.new.bytes.items ≡ all_bytes c.args.changes.now c.in-Flat.bytes.items = c.fill_and_shorten.ensures.bytes ∙ ap (all_bytes c.args.changes.now) c.reserve.ensures.items in
    let room : c.fill_and_shorten.new.room ≡ all_room c.args.changes.now c.in-Flat.bytes.items c.in-Flat.room = c.fill_and_shorten.ensures.room ∙ ap (λ (z : List ℕ). all_room c.args.changes.now z c.in-Flat.room) c.reserve.ensures.items in
    let long : c.len.result ≡ length c.fill_and_shorten.new.bytes.items = omega (arith, c.len.ensures, c.fill_and_shorten.new.bytes.ok) in
    (λ i. flat_at n ((long ∙ ap (λ (z : List ℕ). length z) bytes) i) (bytes i) (room i)) ∙ sym (ap (λ (s : Site). s.tree) end)

pub returns-in-Flat-clause-removed : goal.returns-in-Flat-clause-removed
returns-in-Flat-clause-removed t c =
    let view = c.edge.view_is ∙ c.unshare.ensures in
    let end = flat-level c.args.changes.now c.args.depth c.edge.inside.number c.edge.inside.length c.in-Flat.room c.in-Flat.bytes c.edge.inside.body.value c.args.edge.now c.args.path.now c.args.out.now.items
    (sym c.in-Flat.is ∙ c.in-Some.ensures.value) view c.edge.invariant c.requires.fit in
    sym (ap (λ (s : Site). s.out) end)

pub exchange_all-edge-inside-requires : goal.exchange_all-edge-inside-requires
exchange_all-edge-inside-requires t c =
    let cs = c.args.changes.now in
    let es = c.in-Branch.edges in
    let xs : List Exchange = reverse (map exchange_of c.in_ok-ready.ready.items) in
    let at_once : c.deeper_than.result ≡ 0 = omega (arith, none-there c.split_at.result.0.now c.if-is_empty-2.ensures, c.split_at.ensures.front_len) in
    let level = own-here cs c.args.depth c.edge.inside.number c.edge.inside.length c.in-Branch.height c.in-Branch.edges c.edge.inside.body.value c.args.edge.now c.args.path.now c.args.out.now.items (sym c.in-Branch.is ∙ c.in-Some.ensures.value) (c.edge.view_is ∙ c.unshare.ensures) c.edge.invariant c.requires.fit
    c.deeper_than.result c.split_at.result.1.now c.in_ok-ready.ready.items at_once c.deeper_than.ensures.here c.split_at.ensures.back c.in_ok-ready.ensures in
    let few = branch-few cs c.args.depth c.edge.inside.number c.edge.inside.length c.in-Branch.height c.in-Branch.edges c.edge.inside.body.value c.args.edge.now c.args.path.now c.args.out.now.items (sym c.in-Branch.is ∙ c.in-Some.ensures.value) (c.edge.view_is ∙ c.unshare.ensures) c.edge.invariant c.requires.fit in
    record {
      fit = subst (λ (z : List Node). CanExchange xs z) (sym c.reserve-in-Branch.ensures.items) level.made.can;
      wide = omega (arith, c.in_ok-reserve-2.ensures.ok, c.reserve-in-Branch.ensures.len, c.len-in-Branch.ensures, few, es.ok);
      room = omega (arith, level.count, c.requires.room);
      short = omega (arith, ap (λ (z : List Node). total (all_after xs z)) c.reserve-in-Branch.ensures.items, level.made.short);
    }

pub invariant_of-edge-then-is_empty-2 : goal.invariant_of-edge-then-is_empty-2
invariant_of-edge-then-is_empty-2 t c =
    let cs = c.args.changes.now in
    let es = c.in-Branch.edges in
    let xs : List Exchange = reverse (map exchange_of c.in_ok-ready.ready.items) in
    let at_once : c.deeper_than.result ≡ 0 = omega (arith, none-there c.split_at.result.0.now c.if-is_empty-2.ensures, c.split_at.ensures.front_len) in
    let level = own-here cs c.args.depth c.edge.inside.number c.edge.inside.length c.in-Branch.height c.in-Branch.edges c.edge.inside.body.value c.args.edge.now c.args.path.now c.args.out.now.items (sym c.in-Branch.is ∙ c.in-Some.ensures.value) (c.edge.view_is ∙ c.unshare.ensures) c.edge.invariant c.requires.fit
    c.deeper_than.result c.split_at.result.1.now c.in_ok-ready.ready.items at_once c.deeper_than.ensures.here c.split_at.ensures.back c.in_ok-ready.ensures in
    let made : c.exchange_all-edge-inside.new.edges.items ≡ all_after xs es.items = c.exchange_all-edge-inside.ensures.edges ∙ ap (all_after xs) c.reserve-in-Branch.ensures.items in
    made-branch xs es.items c.exchange_all-edge-inside.new.edges c.exchange_all-edge-inside.result made c.exchange_all-edge-inside.ensures.long level.made.short level.made.some level.made.few c.in-Branch.height

pub returns-then-is_empty-2 : goal.returns-then-is_empty-2
returns-then-is_empty-2 t c =
    let cs = c.args.changes.now in
    let es = c.in-Branch.edges in
    let xs : List Exchange = reverse (map exchange_of c.in_ok-ready.ready.items) in
    let at_once : c.deeper_than.result ≡ 0 = omega (arith, none-there c.split_at.result.0.now c.if-is_empty-2.ensures, c.split_at.ensures.front_len) in
    let level = own-here cs c.args.depth c.edge.inside.number c.edge.inside.length c.in-Branch.height c.in-Branch.edges c.edge.inside.body.value c.args.edge.now c.args.path.now c.args.out.now.items (sym c.in-Branch.is ∙ c.in-Some.ensures.value) (c.edge.view_is ∙ c.unshare.ensures) c.edge.invariant c.requires.fit
    c.deeper_than.result c.split_at.result.1.now c.in_ok-ready.ready.items at_once c.deeper_than.ensures.here c.split_at.ensures.back c.in_ok-ready.ensures in
    let made : c.exchange_all-edge-inside.new.edges.items ≡ all_after xs es.items = c.exchange_all-edge-inside.ensures.edges ∙ ap (all_after xs) c.reserve-in-Branch.ensures.items in
    let sum : c.exchange_all-edge-inside.result ≡ total (all_after xs es.items) = c.exchange_all-edge-inside.ensures.long ∙ ap total made in
    record {
      edited = (λ i. branch_at c.edge.inside.number (sum i) c.in-Branch.height (made i)) ∙ level.made.tree;
      removed = c.exchange_all-edge-inside.ensures.out ∙ (ap (λ (z : List Node). all_out xs z c.args.out.now.items) c.reserve-in-Branch.ensures.items ∙ level.made.out);
      err = tt;
      grown = omega (arith, c.exchange_all-edge-inside.ensures.grown, level.count);
      out_capacity = c.exchange_all-edge-inside.ensures.out_capacity;
    }

pub unreachable-requires : goal.unreachable-requires
unreachable-requires t c =
    let cs = c.args.changes.now in
    let some : 0 < length (take c.deeper_than.result cs) = subst (λ (z : List (ℕ × Change)). 0 < length z) c.split_at.ensures.front (some-there c.split_at.result.0.now c.if-is_empty-2.ensures) in
    has-path cs c.args.depth c.edge.inside.number c.edge.inside.length c.in-Branch.height c.in-Branch.edges c.edge.inside.body.value c.args.edge.now c.args.path.now c.args.out.now.items (sym c.in-Branch.is ∙ c.in-Some.ensures.value) (c.edge.view_is ∙ c.unshare.ensures) c.edge.invariant c.requires.fit
    c.deeper_than.result c.deeper_than.ensures.deep c.deeper_than.ensures.here some c.in_default-split_first.ensures.cases

pub index_mut-child-requires : goal.index_mut-child-requires
index_mut-child-requires t c =
    let cs = c.args.changes.now in
    let some : 0 < length (take c.deeper_than.result cs) = subst (λ (z : List (ℕ × Change)). 0 < length z) c.split_at.ensures.front (some-there c.split_at.result.0.now c.if-is_empty-2.ensures) in
    let rest = c.in-Some-split_first.rest.now in
    let p = c.from.result in
    let split : c.args.path.now ≡ p ∷ rest = c.in-Some-split_first.ensures.cases.0 ∙ ap (λ (z : ℕ). z ∷ rest) (sym c.from.ensures) in
    let low = within cs c.args.depth c.edge.inside.number c.edge.inside.length c.in-Branch.height c.in-Branch.edges c.edge.inside.body.value c.args.edge.now c.args.path.now c.args.out.now.items (sym c.in-Branch.is ∙ c.in-Some.ensures.value) (c.edge.view_is ∙ c.unshare.ensures) c.edge.invariant c.requires.fit
    c.deeper_than.result c.deeper_than.ensures.deep c.deeper_than.ensures.here some p rest split in
    omega (arith, low, c.reserve-in-Branch.ensures.len, c.in-Branch.edges.ok)

pub edit_below-requires : goal.edit_below-requires
edit_below-requires t c =
    let cs = c.args.changes.now in
    let es = c.in-Branch.edges in
    let is = sym c.in-Branch.is ∙ c.in-Some.ensures.value in
    let view = c.edge.view_is ∙ c.unshare.ensures in
    let some : 0 < length (take c.deeper_than.result cs) = subst (λ (z : List (ℕ × Change)). 0 < length z) c.split_at.ensures.front (some-there c.split_at.result.0.now c.if-is_empty-2.ensures) in
    let rest = c.in-Some-split_first.rest.now in
    let p = c.from.result in
    let split : c.args.path.now ≡ p ∷ rest = c.in-Some-split_first.ensures.cases.0 ∙ ap (λ (z : ℕ). z ∷ rest) (sym c.from.ensures) in
    let child = c.index_mut-child.result.now in
    let read : child ≡ get_or es.items p child = c.index_mut-child.ensures.value ∙ ap (λ (z : List Node). get_or z p child) c.reserve-in-Branch.ensures.items in
    let front = c.split_at.ensures.front in
    let long : length c.args.path.now ≡ length (p ∷ rest) = ap (λ (z : List ℕ). length z) split in
    let same : c.args.depth + length c.args.path.now ≡ c.args.depth + 1 + length rest = omega arith in
    let parts = most-parts c.deeper_than.result cs in
    let most = ap most_out front in
    let room = c.requires.room in
    let low = c.requires.low in (
      omega (arith, long, c.decreases),
      (
        subst (λ (z : List (ℕ × Change)). AreDeep (c.args.depth + 1) z) (sym front) c.deeper_than.ensures.deep,
        (
          subst (λ (z : ℕ × List (ℕ × Change)). NeverDeeper z.0 z.1) (λ i. (same i, sym front i)) (never-take (c.args.depth + length c.args.path.now) c.deeper_than.result cs c.requires.order),
          (
            (let l : c.args.depth + 1 + length rest < 2 ^ 64 = omega arith in l),
            (
              subst (λ (z : List (ℕ × Change)). FitEach (lowered (c.args.depth + 1) z) (site child rest c.args.out.now.items)) (sym front) (child-fits cs c.args.depth c.edge.inside.number c.edge.inside.length c.in-Branch.height es c.edge.inside.body.value c.args.edge.now c.args.path.now c.args.out.now.items
                  is view c.edge.invariant c.requires.fit c.deeper_than.result c.deeper_than.ensures.deep c.deeper_than.ensures.here some p rest split child read),
              omega arith,
            ),
          ),
        ),
      ),
    )

pub exchange_all-edge-inside-requires-in-Branch : goal.exchange_all-edge-inside-requires-in-Branch
exchange_all-edge-inside-requires-in-Branch t c =
    let cs = c.args.changes.now in
    let es = c.in-Branch.edges in
    let p = c.from.result in
    let xs : List Exchange = reverse (map exchange_of c.in_ok-ready.ready.items) in
    let level = below-here cs c.args.depth c.edge.inside.number c.edge.inside.length c.in-Branch.height c.in-Branch.edges c.edge.inside.body.value c.args.edge.now c.args.path.now c.args.out.now.items (sym c.in-Branch.is ∙ c.in-Some.ensures.value) (c.edge.view_is ∙ c.unshare.ensures) c.edge.invariant c.requires.fit
    c.deeper_than.result c.split_at.result.0.now c.split_at.result.1.now c.in_ok-ready.ready.items p c.in-Some-split_first.rest.now c.index_mut-child.result.now c.edit_below.new.edge c.edit_below.new.out.items
    c.deeper_than.ensures.deep c.deeper_than.ensures.here c.if-is_empty-2.ensures c.split_at.ensures.front c.split_at.ensures.back
    (c.in-Some-split_first.ensures.cases.0 ∙ ap (λ (z : ℕ). z ∷ c.in-Some-split_first.rest.now) (sym c.from.ensures))
    (c.index_mut-child.ensures.value ∙ ap (λ (z : List Node). get_or z p c.index_mut-child.result.now) c.reserve-in-Branch.ensures.items)
    c.in_ok-ready.ensures c.in_ok-edit_below.ensures.edited c.in_ok-edit_below.ensures.removed in
    let kids : List Node = set es.items p c.edit_below.new.edge in
    let had : set c.reserve-in-Branch.new.self.items p c.edit_below.new.edge ≡ kids = ap (λ (z : List Node). set z p c.edit_below.new.edge) c.reserve-in-Branch.ensures.items in
    let parts = most-parts c.deeper_than.result cs in
    let most = ap most_out c.split_at.ensures.front in
    let grown = c.in_ok-edit_below.ensures.grown in
    let few = branch-few cs c.args.depth c.edge.inside.number c.edge.inside.length c.in-Branch.height c.in-Branch.edges c.edge.inside.body.value c.args.edge.now c.args.path.now c.args.out.now.items (sym c.in-Branch.is ∙ c.in-Some.ensures.value) (c.edge.view_is ∙ c.unshare.ensures) c.edge.invariant c.requires.fit in
    record {
      fit = subst (λ (z : List Node). CanExchange xs z) (sym had) level.made.can;
      wide = omega (arith, c.in_ok-reserve-2.ensures.ok, c.reserve-in-Branch.ensures.len, c.len-in-Branch.ensures, few, es.ok);
      room = omega (arith, level.count, c.requires.room, grown, parts, most, c.edit_below.ensures.out_capacity);
      short = omega (arith, ap (λ (z : List Node). total (all_after xs z)) had, level.made.short);
    }

pub invariant_of-edge-in-Branch : goal.invariant_of-edge-in-Branch
invariant_of-edge-in-Branch t c =
    let cs = c.args.changes.now in
    let es = c.in-Branch.edges in
    let p = c.from.result in
    let xs : List Exchange = reverse (map exchange_of c.in_ok-ready.ready.items) in
    let level = below-here cs c.args.depth c.edge.inside.number c.edge.inside.length c.in-Branch.height c.in-Branch.edges c.edge.inside.body.value c.args.edge.now c.args.path.now c.args.out.now.items (sym c.in-Branch.is ∙ c.in-Some.ensures.value) (c.edge.view_is ∙ c.unshare.ensures) c.edge.invariant c.requires.fit
    c.deeper_than.result c.split_at.result.0.now c.split_at.result.1.now c.in_ok-ready.ready.items p c.in-Some-split_first.rest.now c.index_mut-child.result.now c.edit_below.new.edge c.edit_below.new.out.items
    c.deeper_than.ensures.deep c.deeper_than.ensures.here c.if-is_empty-2.ensures c.split_at.ensures.front c.split_at.ensures.back
    (c.in-Some-split_first.ensures.cases.0 ∙ ap (λ (z : ℕ). z ∷ c.in-Some-split_first.rest.now) (sym c.from.ensures))
    (c.index_mut-child.ensures.value ∙ ap (λ (z : List Node). get_or z p c.index_mut-child.result.now) c.reserve-in-Branch.ensures.items)
    c.in_ok-ready.ensures c.in_ok-edit_below.ensures.edited c.in_ok-edit_below.ensures.removed in
    let kids : List Node = set es.items p c.edit_below.new.edge in
    let had : set c.reserve-in-Branch.new.self.items p c.edit_below.new.edge ≡ kids = ap (λ (z : List Node). set z p c.edit_below.new.edge) c.reserve-in-Branch.ensures.items in
    let made : c.exchange_all-edge-inside-in-Branch.new.edges.items ≡ all_after xs kids = c.exchange_all-edge-inside-in-Branch.ensures.edges ∙ ap (all_after xs) had in
    made-branch xs kids c.exchange_all-edge-inside-in-Branch.new.edges c.exchange_all-edge-inside-in-Branch.result made c.exchange_all-edge-inside-in-Branch.ensures.long level.made.short level.made.some level.made.few c.in-Branch.height

pub returns-in-Branch : goal.returns-in-Branch
returns-in-Branch t c =
    let cs = c.args.changes.now in
    let es = c.in-Branch.edges in
    let p = c.from.result in
    let xs : List Exchange = reverse (map exchange_of c.in_ok-ready.ready.items) in
    let level = below-here cs c.args.depth c.edge.inside.number c.edge.inside.length c.in-Branch.height c.in-Branch.edges c.edge.inside.body.value c.args.edge.now c.args.path.now c.args.out.now.items (sym c.in-Branch.is ∙ c.in-Some.ensures.value) (c.edge.view_is ∙ c.unshare.ensures) c.edge.invariant c.requires.fit
    c.deeper_than.result c.split_at.result.0.now c.split_at.result.1.now c.in_ok-ready.ready.items p c.in-Some-split_first.rest.now c.index_mut-child.result.now c.edit_below.new.edge c.edit_below.new.out.items
    c.deeper_than.ensures.deep c.deeper_than.ensures.here c.if-is_empty-2.ensures c.split_at.ensures.front c.split_at.ensures.back
    (c.in-Some-split_first.ensures.cases.0 ∙ ap (λ (z : ℕ). z ∷ c.in-Some-split_first.rest.now) (sym c.from.ensures))
    (c.index_mut-child.ensures.value ∙ ap (λ (z : List Node). get_or z p c.index_mut-child.result.now) c.reserve-in-Branch.ensures.items)
    c.in_ok-ready.ensures c.in_ok-edit_below.ensures.edited c.in_ok-edit_below.ensures.removed in
    let kids : List Node = set es.items p c.edit_below.new.edge in
    let had : set c.reserve-in-Branch.new.self.items p c.edit_below.new.edge ≡ kids = ap (λ (z : List Node). set z p c.edit_below.new.edge) c.reserve-in-Branch.ensures.items in
    let parts = most-parts c.deeper_than.result cs in
    let most = ap most_out c.split_at.ensures.front in
    let grown = c.in_ok-edit_below.ensures.grown in
    let made : c.exchange_all-edge-inside-in-Branch.new.edges.items ≡ all_after xs kids = c.exchange_all-edge-inside-in-Branch.ensures.edges ∙ ap (all_after xs) had in
    let sum : c.exchange_all-edge-inside-in-Branch.result ≡ total (all_after xs kids) = c.exchange_all-edge-inside-in-Branch.ensures.long ∙ ap total made in
    record {
      edited = (λ i. branch_at c.edge.inside.number (sum i) c.in-Branch.height (made i)) ∙ level.made.tree;
      removed = c.exchange_all-edge-inside-in-Branch.ensures.out ∙ (ap (λ (z : List Node). all_out xs z c.edit_below.new.out.items) had ∙ level.made.out);
      err = tt;
      grown = omega (arith, c.exchange_all-edge-inside-in-Branch.ensures.grown, level.count, grown, parts, most);
      out_capacity = c.exchange_all-edge-inside-in-Branch.ensures.out_capacity ∙ c.edit_below.ensures.out_capacity;
    }

pub unreachable-requires-2 : goal.unreachable-requires-2
unreachable-requires-2 t c =
    let some = some-there c.args.changes.now c.if-is_empty.ensures in
    fits-kinds c.args.changes.now c.args.depth c.edge.inside.number c.edge.inside.length c.edge.inside.body.value c.args.edge.now c.args.path.now c.args.out.now.items some (c.edge.view_is ∙ c.unshare.ensures) c.requires.fit
    (λ bytes room q. c.in_default-body.not-Flat bytes room (c.in-Some.ensures.value ∙ q)) (λ h es q. c.in_default-body-2.not-Branch h es (c.in-Some.ensures.value ∙ q))
