-- What the proof of `CordzDesk::leave` needs beyond the search.
use Rattle.std.proofs.Common.{refl, ap, inl}
use Rattle.turn_desk.specs.Passes.{desk_view}
use Rattle.record_rule.specs.Steps.{registry_of}
use Rattle.record_rule.specs.Views.{token_in}
use Rattle.cordz_desk.proofs.desk.CordzDesk.leave.Goals as goal

pub exit_to-requires-clause-leaves : goal.exit_to-requires-clause-leaves
exit_to-requires-clause-leaves g c =
    let t = c.args.turn in
    let v = desk_view c.args.pass.now in
    let m = c.requires.makes in
    inl record {
      token = token_in v;
      place = (registry_of t.value).clock;
      deed = c.args.deed.now;
      old = registry_of t.taken.value;
      new = registry_of t.value;
      first = c.requires.first;
      from = m.from;
      to = m.to;
      before = c.requires.token;
      after = ap (λ f. f v) c.requires.after;
      placed = refl;
      few = c.requires.few;
      replays = m.replays;
      answers = m.answers;
      does = c.requires.does;
    }
