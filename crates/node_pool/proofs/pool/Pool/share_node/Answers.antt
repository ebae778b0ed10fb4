-- What the proof of `Pool::share_node` needs beyond the search.
use Rattle.std.proofs.Common.{refl, sym, ap, ◌∙◌, subst, arith}
use Rattle.node_forest.specs.Label.{number}
use Rattle.pool_rule.specs.Trades.{SameHolds}
use Rattle.pool_rule.specs.Views.{View, giving, sharing}
use Rattle.node_pool.specs.Tokens.{only}
use Rattle.node_pool.proofs.Seats.{seated, said_as, told_at, split_at, views_at, token_at, low_held}
use Rattle.node_pool.proofs.Passing.{join_at, drawn_at, given_at}
use Rattle.node_pool.proofs.OwnSlots.{slots_stay}
use Rattle.node_pool.proofs.PassTrees.{join_empty_at, paired_at, share_paired_at, hand_shared_at, hand_again_at, shared_out_is, sharer}
use Rattle.node_pool.proofs.pool.Pool.share_node.Goals as goal

pub join_seat-requires : goal.join_seat-requires
join_seat-requires g c =
    let w = seated c.replace.ensures.value c.w.invariant.1 c.w.view_is c.into_seat-seat.ensures in
    let own = seated c.replace-2.ensures.value c.own.invariant c.own.view_is c.into_seat-first.ensures in
    let pool = c.args.self.now in
    (w.table ∙ sym pool.named, own.table ∙ sym pool.named, c.into_seat-first.ensures.3, omega (arith, pool.wide), join_at g.P.Naming.size g.P.Naming.limit _ _ _ _ _ _ _ w.is own.is w.known own.known)

pub join_seat-requires-2 : goal.join_seat-requires-2
join_seat-requires-2 g c =
    let w = seated c.replace.ensures.value c.w.invariant.1 c.w.view_is c.into_seat-seat.ensures in
    let own = seated c.replace-2.ensures.value c.own.invariant c.own.view_is c.into_seat-first.ensures in
    let other = seated c.replace-3.ensures.value c.other.invariant c.other.view_is c.into_seat-second.ensures in
    let n = g.P.Naming.size in
    let m = g.P.Naming.limit in
    let pool = c.args.self.now in
    let with = drawn_at n m w own c.join_seat.ensures in
    (with.table ∙ sym pool.named, other.table ∙ sym pool.named, c.into_seat-second.ensures.3, omega (arith, pool.wide), join_empty_at n m _ _ _ _ _ c.args.w.now c.args.own.now _ with.is other.is w.known other.known)

pub fetch_add-requires : goal.fetch_add-requires
fetch_add-requires g c =
    let w = seated c.replace.ensures.value c.w.invariant.1 c.w.view_is c.into_seat-seat.ensures in
    let own = seated c.replace-2.ensures.value c.own.invariant c.own.view_is c.into_seat-first.ensures in
    let other = seated c.replace-3.ensures.value c.other.invariant c.other.view_is c.into_seat-second.ensures in
    let n = g.P.Naming.size in
    let m = g.P.Naming.limit in
    let both = paired_at n m w own other c.requires.other c.join_seat.ensures c.join_seat-2.ensures in
    let pool = c.args.self.now in
    let t = g.T.Chosen.node in
    let all = sharer n m c.args.w.now c.args.own.now t w.known own.known c.requires.own c.requires.room in
    let low = low_held n m _ t all.drawn all.held in
    let at = c.number.ensures ∙ ap number c.requires.node in
    (both.table ∙ sym pool.named, omega (arith, low, at, pool.wide), share_paired_at n m _ _ _ _ _ c.args.w.now c.args.own.now t both.is w.known c.requires.own (omega (arith, pool.sized.1, pool.small)) at)

pub split_seat-kept-requires : goal.split_seat-kept-requires
split_seat-kept-requires g c =
    let w = seated c.replace.ensures.value c.w.invariant.1 c.w.view_is c.into_seat-seat.ensures in
    let own = seated c.replace-2.ensures.value c.own.invariant c.own.view_is c.into_seat-first.ensures in
    let other = seated c.replace-3.ensures.value c.other.invariant c.other.view_is c.into_seat-second.ensures in
    let n = g.P.Naming.size in
    let m = g.P.Naming.limit in
    let both = paired_at n m w own other c.requires.other c.join_seat.ensures c.join_seat-2.ensures in
    let pool = c.args.self.now in
    let t = g.T.Chosen.node in
    let more = told_at both (sharing t) c.fetch_add.ensures in
    (more.table ∙ sym pool.named, omega (arith, pool.wide), hand_shared_at n m _ _ _ c.args.w.now c.args.own.now t more.is w.known)

pub split_seat-given-requires : goal.split_seat-given-requires
split_seat-given-requires g c =
    let w = seated c.replace.ensures.value c.w.invariant.1 c.w.view_is c.into_seat-seat.ensures in
    let own = seated c.replace-2.ensures.value c.own.invariant c.own.view_is c.into_seat-first.ensures in
    let other = seated c.replace-3.ensures.value c.other.invariant c.other.view_is c.into_seat-second.ensures in
    let n = g.P.Naming.size in
    let m = g.P.Naming.limit in
    let both = paired_at n m w own other c.requires.other c.join_seat.ensures c.join_seat-2.ensures in
    let pool = c.args.self.now in
    let t = g.T.Chosen.node in
    let more = told_at both (sharing t) c.fetch_add.ensures in
    let less = split_at more (giving t) c.split_seat-kept.ensures in
    (less.table ∙ sym pool.named, omega (arith, pool.wide), hand_again_at n m _ _ _ c.args.w.now c.args.own.now t less.is w.known c.requires.own)

pub invariant_of-w : goal.invariant_of-w
invariant_of-w g c =
    let w = seated c.replace.ensures.value c.w.invariant.1 c.w.view_is c.into_seat-seat.ensures in
    let own = seated c.replace-2.ensures.value c.own.invariant c.own.view_is c.into_seat-first.ensures in
    let other = seated c.replace-3.ensures.value c.other.invariant c.other.view_is c.into_seat-second.ensures in
    let n = g.P.Naming.size in
    let m = g.P.Naming.limit in
    let both = paired_at n m w own other c.requires.other c.join_seat.ensures c.join_seat-2.ensures in
    let t = g.T.Chosen.node in
    let more = told_at both (sharing t) c.fetch_add.ensures in
    let less = split_at more (giving t) c.split_seat-kept.ensures in
    let last = said_as (split_at less (giving t) c.split_seat-given.ensures) (shared_out_is n m c.args.w.now c.args.own.now t w.known) in
    let all = sharer n m c.args.w.now c.args.own.now t w.known own.known c.requires.own c.requires.room in
    let views = views_at last c.into_badge.ensures in
    (c.w.invariant.0, token_at last c.into_badge.ensures all.out, slots_stay _ _ _ _ _ c.w.invariant.2 c.w.view_is views refl refl)

pub invariant_of-own : goal.invariant_of-own
invariant_of-own g c =
    let w = seated c.replace.ensures.value c.w.invariant.1 c.w.view_is c.into_seat-seat.ensures in
    let own = seated c.replace-2.ensures.value c.own.invariant c.own.view_is c.into_seat-first.ensures in
    let other = seated c.replace-3.ensures.value c.other.invariant c.other.view_is c.into_seat-second.ensures in
    let n = g.P.Naming.size in
    let m = g.P.Naming.limit in
    let both = paired_at n m w own other c.requires.other c.join_seat.ensures c.join_seat-2.ensures in
    let t = g.T.Chosen.node in
    let more = told_at both (sharing t) c.fetch_add.ensures in
    let all = sharer n m c.args.w.now c.args.own.now t w.known own.known c.requires.own c.requires.room in
    given_at n m t more c.split_seat-kept.ensures c.into_badge-2.ensures all.drawn all.held refl refl

pub invariant_of-other : goal.invariant_of-other
invariant_of-other g c =
    let w = seated c.replace.ensures.value c.w.invariant.1 c.w.view_is c.into_seat-seat.ensures in
    let own = seated c.replace-2.ensures.value c.own.invariant c.own.view_is c.into_seat-first.ensures in
    let other = seated c.replace-3.ensures.value c.other.invariant c.other.view_is c.into_seat-second.ensures in
    let n = g.P.Naming.size in
    let m = g.P.Naming.limit in
    let both = paired_at n m w own other c.requires.other c.join_seat.ensures c.join_seat-2.ensures in
    let t = g.T.Chosen.node in
    let more = told_at both (sharing t) c.fetch_add.ensures in
    let less = split_at more (giving t) c.split_seat-kept.ensures in
    let all = sharer n m c.args.w.now c.args.own.now t w.known own.known c.requires.own c.requires.room in
    given_at n m t less c.split_seat-given.ensures c.into_badge-3.ensures all.drawn all.held refl refl

pub returns-clause-shared : goal.returns-clause-shared
returns-clause-shared g c =
    let w = seated c.replace.ensures.value c.w.invariant.1 c.w.view_is c.into_seat-seat.ensures in
    let own = seated c.replace-2.ensures.value c.own.invariant c.own.view_is c.into_seat-first.ensures in
    let other = seated c.replace-3.ensures.value c.other.invariant c.other.view_is c.into_seat-second.ensures in
    let n = g.P.Naming.size in
    let m = g.P.Naming.limit in
    let both = paired_at n m w own other c.requires.other c.join_seat.ensures c.join_seat-2.ensures in
    let t = g.T.Chosen.node in
    let more = told_at both (sharing t) c.fetch_add.ensures in
    let less = split_at more (giving t) c.split_seat-kept.ensures in
    let last = said_as (split_at less (giving t) c.split_seat-given.ensures) (shared_out_is n m c.args.w.now c.args.own.now t w.known) in
    ap only (views_at last c.into_badge.ensures)

pub returns-clause-same : goal.returns-clause-same
returns-clause-same g c =
    let w = seated c.replace.ensures.value c.w.invariant.1 c.w.view_is c.into_seat-seat.ensures in
    let own = seated c.replace-2.ensures.value c.own.invariant c.own.view_is c.into_seat-first.ensures in
    let other = seated c.replace-3.ensures.value c.other.invariant c.other.view_is c.into_seat-second.ensures in
    let n = g.P.Naming.size in
    let m = g.P.Naming.limit in
    let both = paired_at n m w own other c.requires.other c.join_seat.ensures c.join_seat-2.ensures in
    let t = g.T.Chosen.node in
    let more = told_at both (sharing t) c.fetch_add.ensures in
    let less = split_at more (giving t) c.split_seat-kept.ensures in
    let last = said_as (split_at less (giving t) c.split_seat-given.ensures) (shared_out_is n m c.args.w.now c.args.own.now t w.known) in
    let all = sharer n m c.args.w.now c.args.own.now t w.known own.known c.requires.own c.requires.room in
    subst (λ (x : View). SameHolds c.args.w.now.holds x.holds) (sym (ap only (views_at last c.into_badge.ensures))) all.same
