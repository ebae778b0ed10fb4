-- What the proof of `lone_depth` needs beyond the search.
use Rattle.std.proofs.Common.{[], ◌∷◌, refl, sym, subst, arith}
use Rattle.pool_rule.specs.Trades.{HasHolds}
use Rattle.pool_rule.specs.Views.{View}
use Rattle.btree_node.proofs.LoneLaws.{looks-none, looks-path, looks-one, looks-stop, lone-found, lone-shared, lone-path}
use Rattle.btree_node.proofs.lone.lone_depth.Goals as goal

pub loop-depth-init : goal.loop-depth-init
loop-depth-init g c = record { low = omega arith; found = looks-none c.args.root.now c.args.path.now c.args.w.now }

pub look-requires-clause-held : goal.look-requires-clause-held
look-requires-clause-held g c = subst (λ (z : View). HasHolds z.holds (c.args.root.now ∷ [])) (sym c.loop-depth.invariant.found) c.requires.held

pub look-requires-clause-path : goal.look-requires-clause-path
look-requires-clause-path g c =
    looks-path c.loop-depth.depth c.args.root.now c.args.path.now _ c.args.w.now c.loop-depth.w refl c.loop-depth-test.true c.requires.leads c.loop-depth.invariant.found

pub returns-then-not-look-clause-shared : goal.returns-then-not-look-clause-shared
returns-then-not-look-clause-shared g c = λ low.
    looks-stop c.loop-depth.depth c.args.root.now c.args.path.now _ c.args.w.now c.loop-depth.w c.look.new.w refl c.loop-depth-test.true c.loop-depth.invariant.found c.if-not-look.ensures.looked

pub returns-then-not-look-clause-lone : goal.returns-then-not-look-clause-lone
returns-then-not-look-clause-lone g c = lone-shared c.loop-depth.depth c.args.root.now c.args.path.now c.args.w.now c.look.new.w (returns-then-not-look-clause-shared g c c.loop-depth-test.true)

pub loop-depth-preserved : goal.loop-depth-preserved
loop-depth-preserved g c = record {
  low = omega (arith, c.loop-depth-test.true);
  found =
      looks-one c.loop-depth.depth c.args.root.now c.args.path.now _ c.args.w.now c.loop-depth.w c.look.new.w refl c.loop-depth-test.true c.loop-depth.invariant.found c.if-not-look.ensures.looked;
}

pub returns-clause-whole : goal.returns-clause-whole
returns-clause-whole g c = λ _. c.loop-depth.invariant.found

pub returns-clause-lone : goal.returns-clause-lone
returns-clause-lone g c = lone-found c.loop-depth.depth c.args.root.now c.args.path.now c.args.w.now c.loop-depth.w c.loop-depth.invariant.found

pub returns-clause-path : goal.returns-clause-path
returns-clause-path g c = λ whole. lone-path c.loop-depth.depth c.args.root.now c.args.path.now c.args.w.now c.loop-depth.w whole c.loop-depth.invariant.found
