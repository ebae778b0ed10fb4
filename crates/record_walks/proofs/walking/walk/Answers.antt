-- What the proof of `walk` needs beyond the search.
use Rattle.std.proofs.Common.{ℕ, Option, List, refl, sym, ◌∙◌, subst}
use Rattle.plain_cord.specs.declared.reply.Report.{Report}
use Rattle.cord_value.proofs.Balances.{keeps-same}
use Rattle.cordz_desk.specs.Tokens.{token_of}
use Rattle.record_walks.proofs.ReadLaws.{keeps-more}
use Rattle.record_walks.proofs.WalkLaws.{WalksTo, only-head, only-next, only-reported, only-then, walks-first, walks-on, walks-done, given-first, given-next}
use Rattle.record_walks.proofs.walking.walk.Goals as goal

pub loop-init : goal.loop-init
loop-init g c =
    let f = c.first-at.ensures in
    record {
      given = given-first _ _ _ f.small f.done;
      only = only-head _ _ _ f.done;
      worker = keeps-same _ _ _ refl;
      counts = (refl, refl);
      walked = walks-first _ _ _ _ c.new-reports.ensures.items f.done;
    }

pub loop-preserved : goal.loop-preserved
loop-preserved g c =
    let inv = c.loop.invariant in
    let p = token_of c.args.hand.now.pass in
    let a = token_of c.loop.hand.pass in
    let b = token_of c.report.new.hand.pass in
    let q = token_of c.next-at.new.pass in
    let s = c.in-Some-at.slot in
    let answer = c.next-at.result in
    let r = c.in_ok-report.field-0 in
    let told = c.in_ok-report.ensures.told in
    let n = c.next-at.ensures in
    let rs = c.loop.reports.items in
    let walked = subst (λ (o : Option ℕ). WalksTo o rs p a) c.in-Some-at.is inv.walked in
    record {
      given = given-next answer b q s n.small n.done;
      only = only-then p a q inv.only (only-then a b q (only-reported r a b told) (only-next b q s answer n.done));
      worker = keeps-more g.P.Naming.limit 0 0 _ _ _ inv.worker c.report.ensures.worker;
      counts = (c.report.ensures.counts.0 ∙ inv.counts.0, c.report.ensures.counts.1 ∙ inv.counts.1);
      walked = subst (λ (all : List Report). WalksTo answer all p q) (sym c.in_ok-push.ensures.items) (walks-on s answer rs r p a b q walked told n.done);
    }

pub returns-in_default-clause-told : goal.returns-in_default-clause-told
returns-in_default-clause-told g c = walks-done c.loop.at c.loop.reports.items (token_of c.args.hand.now.pass) (token_of c.loop.hand.pass) c.in_default.is c.loop.invariant.walked

pub returns-in_err-report-clause-worker : goal.returns-in_err-report-clause-worker
returns-in_err-report-clause-worker g c = keeps-more g.P.Naming.limit 0 0 _ _ _ c.loop.invariant.worker c.report.ensures.worker

pub returns-in_err-push-clause-worker : goal.returns-in_err-push-clause-worker
returns-in_err-push-clause-worker g c = keeps-more g.P.Naming.limit 0 0 _ _ _ c.loop.invariant.worker c.report.ensures.worker
