-- Few bytes take few numbers.
use Rattle.std.proofs.Common.{length, false}
use Rattle.tree_shapes.specs.Cords.{with_bytes_added, IsBytesAdded}
use Rattle.cord_value.specs.Changes.{IsChange, IsRefused}
use Rattle.cord_value.specs.Grown.{IsGrown, IsGrowRefused}
use Rattle.cord_value.specs.Views.{cord_shape}
use Rattle.cord_value.proofs.Growth.{err-weaker}
use Rattle.cord_value.proofs.JoinSteps.{changed-few}
use Rattle.cord_value.proofs.Shapes.{ok-weaker}
use Rattle.cord_value.proofs.cord.Cord.add_few.Goals as goal

pub returns-clause-shape : goal.returns-clause-shape
returns-clause-shape g c =
    let limit = g.P.Naming.limit in
    let n = length c.args.bytes.now in
    let side = c.args.side in
    let old = c.args.self.now in
    let new = c.add.new.self in
    ok-weaker c.add.result (λ _. IsGrown limit side n old new c.args.w.now c.add.new.w) (λ _. IsBytesAdded side n (cord_shape old) (cord_shape new)) (λ _ k. k.shape) c.add.ensures.grown

pub returns-clause-change : goal.returns-clause-change
returns-clause-change g c =
    let limit = g.P.Naming.limit in
    let n = length c.args.bytes.now in
    let side = c.args.side in
    let old = c.args.self.now in
    let new = c.add.new.self in
    let v = c.args.w.now in
    let w = c.add.new.w in
    ok-weaker c.add.result (λ _. IsGrown limit side n old new v w) (λ _. IsChange limit 32 old new v w) (λ _ k. changed-few limit n side old new v w c.requires.formed c.requires.few k) c.add.ensures.grown

pub returns-clause-refused : goal.returns-clause-refused
returns-clause-refused g c =
    let size = g.P.Naming.size in
    let limit = g.P.Naming.limit in
    let n = length c.args.bytes.now in
    let side = c.args.side in
    let old = c.args.self.now in
    let v = c.args.w.now in
    let w = c.add.new.w in
    err-weaker c.add.result (λ x. IsGrowRefused size limit side n old x v w) (λ x. IsRefused size limit old.tree (with_bytes_added false side n (cord_shape old)) x v w) (λ x r. r.1) c.add.ensures.refused
