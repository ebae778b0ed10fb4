-- So many tokens were given.
use Rattle.std.proofs.Common.{◌≡◌, ◌≤◌, [], map, vec_len, vec_capacity}
use Rattle.turn_desk.specs.Passes.{desk_view, IsOf, IsIdle}
use Rattle.record_rule.specs.declared.views.DeskView.TheVariants.{Root}
use Rattle.cordz_desk.specs.Seeing.{first_tokens}
use Rattle.cordz_desk.specs.Tokens.{token_of}
use Rattle.cordz_desk.proofs.start.OpenedDesk.named.Given as goal

abbrev pub invariant-loop-i : goal.invariant-loop-i
invariant-loop-i g l = record {
  root : desk_view l.root ≡ Root l.i [];
  rooted : IsOf l.desk l.root;
  idle : IsIdle l.root;
  len : vec_len l.passes ≡ l.i;
  room : l.count ≤ vec_capacity l.passes;
  tokens : map token_of l.passes.items ≡ first_tokens l.i;
}
