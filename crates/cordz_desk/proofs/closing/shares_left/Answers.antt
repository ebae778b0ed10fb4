-- What the proof of `shares_left` needs beyond the search.
use Rattle.std.proofs.Common.{rules, Some, None, sym, ◌∙◌}
use mathlib.Core.List.{append-nil}
use Rattle.cordz_desk.proofs.Ends.{shares_next}
use Rattle.cordz_desk.proofs.closing.shares_left.Goals as goal

pub loop-value-preserved-in-Some-share_left : goal.loop-value-preserved-in-Some-share_left
loop-value-preserved-in-Some-share_left g c = record {
  shares = shares_next c.loop-value.yielded c.in-Some.value (Some c.in-Some-share_left.share) c.loop-value.shares.items _ c.loop-value.invariant.shares (sym c.in-Some-share_left.is ∙ c.share_left.ensures) c.push_reserved.ensures.items;
  room = search rules;
}

pub loop-value-preserved : goal.loop-value-preserved
loop-value-preserved g c = record {
  shares = shares_next c.loop-value.yielded c.in-Some.value None c.loop-value.shares.items c.loop-value.shares.items c.loop-value.invariant.shares (sym c.in-None-share_left.is ∙ c.share_left.ensures) (sym (append-nil c.loop-value.shares.items));
  room = search rules;
}
