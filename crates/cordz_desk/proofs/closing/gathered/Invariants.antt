-- The passes so far came back.
use Rattle.std.proofs.Common.{◌≡◌, map}
use Rattle.turn_desk.specs.Passes.{desk_view, IsOf, IsIdle}
use Rattle.record_rule.specs.declared.views.DeskView.TheVariants.{Root}
use Rattle.cordz_desk.specs.Closed.{returned}
use Rattle.cordz_desk.specs.Seeing.{given_by, back_to}
use Rattle.cordz_desk.specs.Tokens.{token_of}
use Rattle.cordz_desk.proofs.closing.gathered.Given as goal

abbrev pub invariant-loop-pass : goal.invariant-loop-pass
invariant-loop-pass g l = record {
  on : IsOf l.desk l.root;
  idle : IsIdle l.root;
  view : desk_view l.root ≡ Root (given_by (desk_view l.initial.root)) (returned (map token_of l.yielded) (back_to (desk_view l.initial.root)));
}
