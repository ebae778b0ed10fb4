-- What the proof of `end` needs beyond the search.
use Rattle.std.proofs.Common.{◌≡◌, ◌<◌, ◌+◌, ℕ, List, true, length, refl, sym, ap, ◌∙◌, subst, arith}
use Rattle.cordz_core.specs.Queue.{has, Apart}
use Rattle.record_rule.specs.declared.views.Claim.{Claim}
use Rattle.record_rule.specs.Log.{made_of}
use Rattle.record_rule.specs.Views.{claim_at}
use Rattle.cordz_desk.specs.Tokens.{token_of, IsCleared}
use Rattle.record_walks.specs.Ends.{AreFreed, IsEnded}
use Rattle.record_walks.proofs.FreedLaws.{ended, freed-made}
use Rattle.record_walks.proofs.snapshots.end.Goals as goal

pub collect_all-shares-requires-clause-few : goal.collect_all-shares-requires-clause-few
collect_all-shares-requires-clause-few g c =
    let made = ap (λ z. made_of z.own) c.end_snapshot-gone.ensures.done.1 in omega (arith, made, c.requires.few, c.as_slice.ensures.fits)

pub collect_all-shares-requires-clause-cleared : goal.collect_all-shares-requires-clause-cleared
collect_all-shares-requires-clause-cleared g c = λ s is. subst IsCleared (sym (c.end_snapshot-gone.ensures.cleared s (subst (λ z. has s z ≡ true) c.as_slice.ensures.value is))) tt

pub returns-then-shares-len-clause-acted : goal.returns-then-shares-len-clause-acted
returns-then-shares-len-clause-acted g c =
    let made = ap (λ z. made_of z.own) c.end_snapshot-gone.ensures.done.1 in
    let freed = freed-made _ _ _ _ c.collect_all-shares.ensures.freed in
    omega (arith, made, freed, c.as_slice.ensures.fits)

pub returns-clause-acted : goal.returns-clause-acted
returns-clause-acted g c =
    let made = ap (λ z. made_of z.own) c.end_snapshot-gone.ensures.done.1 in
    let freed = freed-made _ _ _ _ c.collect_all-shares.ensures.freed in
    omega (arith, made, freed, c.as_slice.ensures.fits)

pub returns-then-shares-len-clause-bare_ended : goal.returns-then-shares-len-clause-bare_ended
returns-then-shares-len-clause-bare_ended g c =
    let m = token_of c.end_snapshot-gone.new.pass in
    let q = token_of c.collect_all-shares.new.hand.pass in
    let d = c.end_snapshot-gone.ensures.done in
    let k = c.collect_all-shares.ensures in
    let freed = subst (λ (z : List ℕ). AreFreed m.number z m.own q.own) c.as_slice.ensures.value k.freed in
    (length c.end_snapshot-gone.result.items, ended d.0 _ c.end_snapshot-gone.result (token_of c.args.hand.now.pass) m q d.1 freed k.knows refl)

pub returns-clause-ended : goal.returns-clause-ended
returns-clause-ended g c =
    let m = token_of c.end_snapshot-gone.new.pass in
    let q = token_of c.collect_all-shares.new.hand.pass in
    let d = c.end_snapshot-gone.ensures.done in
    let k = c.collect_all-shares.ensures in
    let v = c.as_slice.ensures.value in
    let freed = subst (λ (z : List ℕ). AreFreed m.number z m.own q.own) v k.freed in
    ended d.0 _ c.end_snapshot-gone.result (token_of c.args.hand.now.pass) m q d.1 freed k.knows (omega (arith, k.most, ap (λ (z : List ℕ). length z) v, c.len.ensures.value, c.if-shares-len.false))
