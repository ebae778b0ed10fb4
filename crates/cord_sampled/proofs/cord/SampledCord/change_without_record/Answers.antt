-- What a change of a cord without a record leaves, and a refused one.
use Rattle.std.proofs.Common.{◌≡◌, [], sym, subst, ◌∙◌}
use Rattle.std.specs.Prelude.{is_some}
use mathlib.Core.Logic.{inl, inr}
use Rattle.cord_value.specs.declared.refusals.CordError.{CordError}
use Rattle.cord_sampled.specs.Copies.{one_if}
use Rattle.cord_sampled.specs.Grown.{is_due}
use Rattle.cord_sampled.specs.Making.{turn_after}
use Rattle.cord_sampled.specs.Sampled.{cord_in, ticket_in}
use Rattle.cord_sampled.proofs.GrownLaws.{due-then, due-else, grown-then, unsampled-then}
use Rattle.cord_sampled.proofs.Keeping.{balanced-within}
use Rattle.cord_sampled.proofs.cord.SampledCord.change_without_record.Goals as goal
use Rattle.cord_sampled.proofs.cord.SampledCord.change_without_record.Goals.{then-grows, else-grows}

pub returns-then-grows-2-clause-grown : goal.returns-then-grows-2-clause-grown
returns-then-grows-2-clause-grown g c =
    let h = c.args.hand.now in
    let due : is_due h.stride h.made (g.S.Alters.roots c.args.step.now c.args.with.now (cord_in c.args.self.now)) ≡ is_some c.in_ok-sample.sample = elim c.if-grows.branch [
      | then-grows x ↦
          due-then _ c.grows-grows.result (turn_after h.stride h.made) c.if-grows.wanted _ c.grows-grows.ensures x.if-grows.true
          (x.wanted-is ∙ x.is_turn-wanted.ensures) c.in_ok-sample.ensures.some
      | else-grows x ↦
          due-else _ c.grows-grows.result (turn_after h.stride h.made) c.if-grows.wanted _ c.grows-grows.ensures x.if-grows.false
          (x.wanted-is ∙ x.if-grows.false) c.in_ok-sample.ensures.some
    ] in
    grown-then g.P.Naming.limit _ c.in_ok-sample.sample (ticket_in c.sample.new.self) c.in-Ok-sample.mark _ c.apply.new.cord _ _ _ _ _ _ _ due c.in_ok-sample.ensures.worker c.in-Ok.ensures.kept
    c.sample.ensures.kept c.in-Ok-sample.ensures.recorded c.in-Ok-sample.ensures.worker

pub returns-else-grows-2-clause-grown : goal.returns-else-grows-2-clause-grown
returns-else-grows-2-clause-grown g c =
    let h = c.args.hand.now in
    let due : is_due h.stride h.made (g.S.Alters.roots c.args.step.now c.args.with.now (cord_in c.args.self.now)) ≡ is_some c.in_ok-sample.sample = elim c.if-grows.branch [
      | then-grows x ↦
          due-then _ c.grows-grows.result (turn_after h.stride h.made) c.if-grows.wanted _ c.grows-grows.ensures x.if-grows.true
          (x.wanted-is ∙ x.is_turn-wanted.ensures) c.in_ok-sample.ensures.some
      | else-grows x ↦
          due-else _ c.grows-grows.result (turn_after h.stride h.made) c.if-grows.wanted _ c.grows-grows.ensures x.if-grows.false
          (x.wanted-is ∙ x.if-grows.false) c.in_ok-sample.ensures.some
    ] in
    grown-then g.P.Naming.limit _ c.in_ok-sample.sample (ticket_in c.sample.new.self) c.in-Ok-sample.mark _ c.apply.new.cord _ _ _ _ _ _ _ due c.in_ok-sample.ensures.worker c.in-Ok.ensures.kept
    c.sample.ensures.kept c.in-Ok-sample.ensures.recorded c.in-Ok-sample.ensures.worker

pub returns-in-Err-sample-clause-undone : goal.returns-in-Err-sample-clause-undone
returns-in-Err-sample-clause-undone g c =
    let h = c.args.hand.now in
    let due : is_due h.stride h.made (g.S.Alters.roots c.args.step.now c.args.with.now (cord_in c.args.self.now)) ≡ is_some c.in_ok-sample.sample = elim c.if-grows.branch [
      | then-grows x ↦
          due-then _ c.grows-grows.result (turn_after h.stride h.made) c.if-grows.wanted _ c.grows-grows.ensures x.if-grows.true
          (x.wanted-is ∙ x.is_turn-wanted.ensures) c.in_ok-sample.ensures.some
      | else-grows x ↦
          due-else _ c.grows-grows.result (turn_after h.stride h.made) c.if-grows.wanted _ c.grows-grows.ensures x.if-grows.false
          (x.wanted-is ∙ x.if-grows.false) c.in_ok-sample.ensures.some
    ] in
    inr (unsampled-then g.P.Naming.limit _ c.in_ok-sample.sample (g.S.Alters.makes c.args.step.now c.args.with.now) c.in-Err-sample.error _ c.apply.new.cord _ _ _ _ _ due
    c.in_ok-sample.ensures.worker c.in-Ok.ensures.kept c.in-Ok.ensures.altered c.sample.ensures.kept c.in-Err-sample.ensures.memory c.in-Err-sample.ensures.undone)

pub returns-in-Err-clause-refused : goal.returns-in-Err-clause-refused
returns-in-Err-clause-refused g c =
    inl (g.met.S.Alters.within c.args.step.now c.args.with.now [] [] (one_if c.in_ok-sample.sample) 0 0 (one_if c.in_ok-sample.sample) _ _ _ _ c.in_ok-sample.ensures.worker c.end_pass.ensures _
    c.in-Err.error c.in-Err.ensures.refused)

pub returns-in-Err-clause-undone : goal.returns-in-Err-clause-undone
returns-in-Err-clause-undone g c =
    inl (record {
      cord = c.in-Err.ensures.same;
      balanced = balanced-within g.P.Naming.limit c.in-Err.error [] [] (one_if c.in_ok-sample.sample) _ _ _ _ c.in_ok-sample.ensures.worker c.in-Err.ensures.balanced c.end_pass.ensures;
    })

pub returns-in-Err-sample-clause-refused : goal.returns-in-Err-sample-clause-refused
returns-in-Err-sample-clause-refused g c =
    let s = c.args.step.now in
    let with = c.args.with.now in
    let old = cord_in c.args.self.now in
    inl (subst (λ (x : CordError). g.S.Alters.refuses s with old x c.args.hand.now.worker c.sample.new.hand.worker) (sym c.in-Err-sample.ensures.memory.0)
    (g.met.S.Alters.lacks s with old c.apply.new.cord _ _ c.requires.changes c.in-Ok.ensures.altered))
