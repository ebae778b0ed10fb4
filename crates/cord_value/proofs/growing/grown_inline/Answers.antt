-- An inline cord is built anew of both lists of bytes.
use Rattle.std.proofs.Common.{length, ◌+◌, ◌≡◌}
use Rattle.tree_shapes.specs.Cords.{cord_of_bytes}
use Rattle.btree_edit.proofs.StepLaws.{both-ok}
use Rattle.cord_value.specs.Grown.{inline_cord, IsGrown, IsGrowRefused}
use Rattle.cord_value.specs.Refusals.{IsMakeRefused}
use Rattle.cord_value.specs.Views.{cord_shape, IsTreeOf, nodes_of, passes_of}
use Rattle.cord_value.specs.Workers.{KeepsCount}
use Rattle.cord_value.proofs.Growth.{grown-inline, refused-inline, balanced-memory, err-weaker, length-both, same-bytes}
use Rattle.cord_value.proofs.growing.grown_inline.Goals as goal

pub returns-in-Ok-clause-grown : goal.returns-in-Ok-clause-grown
returns-in-Ok-clause-grown g c =
    let limit = g.P.Naming.limit in
    let side = c.args.side in
    let xs = c.args.inline.now in
    let n = length c.args.bytes.now in
    let m = length c.as_slice.result.now in
    let v = c.args.w.now in
    let w = c.from_bytes.new.w in
    let is : m ≡ length xs + n = length-both side xs c.args.bytes.now c.as_slice.result.now (same-bytes _ _ _ c.as_slice.ensures.value c.in-Ok.ensures) in
    let e = c.from_bytes.ensures in
    both-ok c.from_bytes.result (λ c. cord_shape c ≡ cord_of_bytes m) (λ c. IsTreeOf c.bytes c.tree × KeepsCount limit (nodes_of c.tree) (passes_of c.tree) 0 v w)
    (λ c. IsGrown limit side n (inline_cord xs) c v w)
    (λ d shape both. grown-inline limit n m side xs d v w is c.requires.some shape both.0 both.1) e.shape
    (both-ok c.from_bytes.result (λ c. IsTreeOf c.bytes c.tree) (λ c. KeepsCount limit (nodes_of c.tree) (passes_of c.tree) 0 v w)
    (λ c. IsTreeOf c.bytes c.tree × KeepsCount limit (nodes_of c.tree) (passes_of c.tree) 0 v w) (λ d a b. (a, b)) e.formed e.numbers)

pub returns-in-Ok-clause-refused : goal.returns-in-Ok-clause-refused
returns-in-Ok-clause-refused g c =
    let size = g.P.Naming.size in
    let limit = g.P.Naming.limit in
    let side = c.args.side in
    let xs = c.args.inline.now in
    let n = length c.args.bytes.now in
    let m = length c.as_slice.result.now in
    let is : m ≡ length xs + n = length-both side xs c.args.bytes.now c.as_slice.result.now (same-bytes _ _ _ c.as_slice.ensures.value c.in-Ok.ensures) in
    err-weaker c.from_bytes.result (λ x. IsMakeRefused size limit m x c.args.w.now c.from_bytes.new.w) (λ x. IsGrowRefused size limit side n (inline_cord xs) x c.args.w.now _)
    (λ x r. refused-inline size limit n m side xs x c.args.w.now _ is c.requires.some r) c.from_bytes.ensures.refused

pub returns-in-Err-clause-balanced : goal.returns-in-Err-clause-balanced
returns-in-Err-clause-balanced g c = balanced-memory _ _
