-- A copy is made while the cord is out, and takes its place.
use Rattle.std.proofs.Common.{◌≡◌, ◌∙◌, sym, ap, subst, refl, ◌+◌, Some, true, arith}
use Rattle.std.specs.Prelude.{IfOk, is_some}
use Rattle.plain_cord.specs.declared.script.Command.TheVariants as commands
use Rattle.tree_shapes.specs.Cords.{CordShape}
use Rattle.ordered_names.specs.Named.{named}
use Rattle.cordz_desk.specs.Tokens.{token_of}
use Rattle.cord_value.specs.Views.{CordView, IsTreeOf, cord_shape}
use Rattle.cord_sampled.specs.Making.{IsRecorded}
use Rattle.cord_sampled.specs.Refusals.{IsCopyCause}
use Rattle.cord_sampled.specs.Sampled.{cord_in as sampled_cord, ticket_in}
use Rattle.cord_steps.specs.Cords.{plain_of}
use Rattle.sampled_commands.specs.Accounts.{seen, trees_of, records_of}
use Rattle.sampled_commands.specs.Answers.{new_mark}
use Rattle.sampled_commands.specs.Leaving.{stamp_gone}
use Rattle.sampled_commands.specs.Views.{IsWhole, AreSame, no_session_cord, cord_in, names_of}
use Rattle.sampled_commands.proofs.Absent.{unset-does, set-from}
use Rattle.sampled_commands.proofs.Comings.{copy-comes}
use Rattle.sampled_commands.proofs.Doing.{made-does}
use Rattle.sampled_commands.proofs.Fresh.{session-ok, session-err, made-whole, copied-marked}
use Rattle.sampled_commands.proofs.GivenUp.{same-view}
use Rattle.sampled_commands.proofs.Made.{IsMadeBy, made-by}
use Rattle.sampled_commands.proofs.Marks.{IsMarkedAs}
use Rattle.sampled_commands.proofs.Ongoing.{ongoing-then, ongoing-same, adds-then, adds-none, adds-shift, idle-then, idle-same}
use Rattle.sampled_commands.proofs.Refused.{copying, copied-shape, copy-refused, copy-shows}
use Rattle.sampled_commands.proofs.Renaming.{set-same, set-twice, err-weaker}
use Rattle.sampled_commands.proofs.Results.{ok-always, ok-weaker, ok-with, ok-three, err-turned, err-with}
use Rattle.sampled_commands.proofs.Whole.{found-in}
use Rattle.sampled_commands.proofs.Working.{made-works, unset-works}
use Rattle.sampled_commands.proofs.making.copy.Goals as goal

pub returns-in_default-clause-ongoing : goal.returns-in_default-clause-ongoing
returns-in_default-clause-ongoing g c = ongoing-same _ _ refl refl

pub returns-in_default-clause-idle : goal.returns-in_default-clause-idle
returns-in_default-clause-idle g c = idle-same _ _ refl

pub returns-in_default-clause-even : goal.returns-in_default-clause-even
returns-in_default-clause-even g c = ok-always c.unset.result _ (adds-none _ _ _ _ _ _ refl refl c.in_default.ensures.same.1 c.in_default.ensures.same.2)

pub returns-in_default-clause-does : goal.returns-in_default-clause-does
returns-in_default-clause-does g c =
    let h = c.args.hand.now in
    unset-does g.P.Naming.size g.P.Naming.limit h.stride c.args.names.now c.take_out.new.names (seen h.worker (token_of h.pass) h.made) (commands.Copy c.args.a.now c.args.b.now) c.args.a.now _ refl
    (sym c.in_default.ensures.found) c.in_default.ensures.same.0 c.unset.result c.unset.ensures

pub returns-in_default-clause-desk : goal.returns-in_default-clause-desk
returns-in_default-clause-desk g c = unset-works c.args.names.now c.take_out.new.names _ _ c.args.a.now c.unset.result c.in_default.ensures.same.0 refl c.unset.ensures

pub returns-clause-ongoing : goal.returns-clause-ongoing
returns-clause-ongoing g c =
    let e = c.copy-made.ensures in
    let h = c.args.hand.now in
    let i = c.copy-made.new.hand in
    let v = seen h.worker (token_of h.pass) h.made in
    let m = seen i.worker (token_of i.pass) i.made in
    let by = made-by g.P.Naming.limit (λ s. is_some (ticket_in c.into_sampled-cord.result)) (λ s n. n ≡ 0) v m c.copy-made.result (ok-with _ _ _ c.copy-made.result (λ x recorded same. subst (λ (z : CordView). IsRecorded (is_some (ticket_in c.into_sampled-cord.result)) z.tree (ticket_in x.0) x.1 v.token m.token) (sym same) recorded) e.recorded e.same)
    e.worker e.balanced e.token in
    ongoing-then v m _ by.ongoing c.set_made.ensures.ongoing

pub returns-clause-idle : goal.returns-clause-idle
returns-clause-idle g c =
    let e = c.copy-made.ensures in
    let h = c.args.hand.now in
    let i = c.copy-made.new.hand in
    let v = seen h.worker (token_of h.pass) h.made in
    let m = seen i.worker (token_of i.pass) i.made in
    let by = made-by g.P.Naming.limit (λ s. is_some (ticket_in c.into_sampled-cord.result)) (λ s n. n ≡ 0) v m c.copy-made.result (ok-with _ _ _ c.copy-made.result (λ x recorded same. subst (λ (z : CordView). IsRecorded (is_some (ticket_in c.into_sampled-cord.result)) z.tree (ticket_in x.0) x.1 v.token m.token) (sym same) recorded) e.recorded e.same)
    e.worker e.balanced e.token in
    idle-then v.worker m.worker _ by.idle c.set_made.ensures.idle

pub returns-clause-even : goal.returns-clause-even
returns-clause-even g c =
    let e = c.copy-made.ensures in
    let h = c.args.hand.now in
    let i = c.copy-made.new.hand in
    let v = seen h.worker (token_of h.pass) h.made in
    let m = seen i.worker (token_of i.pass) i.made in
    let by = made-by g.P.Naming.limit (λ s. is_some (ticket_in c.into_sampled-cord.result)) (λ s n. n ≡ 0) v m c.copy-made.result (ok-with _ _ _ c.copy-made.result (λ x recorded same. subst (λ (z : CordView). IsRecorded (is_some (ticket_in c.into_sampled-cord.result)) z.tree (ticket_in x.0) x.1 v.token m.token) (sym same) recorded) e.recorded e.same)
    e.worker e.balanced e.token in
    let old = c.args.names.now in
    let cord = c.in-Some.cord in
    let here = c.of.result in
    let found : named old c.args.a.now ≡ Some cord = sym c.in-Some.ensures.found in
    let again : here ≡ cord = c.of.ensures ∙ (same-view c.into_sampled-cord.result c.copy-made.new.self e.kept e.record ∙ c.into_sampled-cord.ensures.view) in
    let same : AreSame old c.put_back.new.names = set-same old c.put_back.new.names c.args.a.now cord here found again
    (set-twice old c.take_out.new.names c.put_back.new.names c.args.a.now no_session_cord here c.in-Some.ensures.lent c.put_back.ensures.set) in
    let all = subst (IsMadeBy v m) (sym c.of_session.ensures) by in
    let out = c.in-Some.ensures.trees in
    let out' = c.in-Some.ensures.records in
    let into = c.put_back.ensures.trees in
    let into' = c.put_back.ensures.records in
    let trees = ap trees_of again in
    let records = ap records_of again in
    ok-always c.set_made.result _ (adds-shift v _ _ _ _ _ _ _ _ _ (adds-then v m _ _ _ _ _ _ _ all.even c.set_made.ensures.even) (omega (arith, out, into, trees)) (omega (arith, out', into', records)))

pub returns-clause-same : goal.returns-clause-same
returns-clause-same g c =
    let e = c.copy-made.ensures in
    let h = c.args.hand.now in
    let i = c.copy-made.new.hand in
    let v = seen h.worker (token_of h.pass) h.made in
    let m = seen i.worker (token_of i.pass) i.made in
    let by = made-by g.P.Naming.limit (λ s. is_some (ticket_in c.into_sampled-cord.result)) (λ s n. n ≡ 0) v m c.copy-made.result (ok-with _ _ _ c.copy-made.result (λ x recorded same. subst (λ (z : CordView). IsRecorded (is_some (ticket_in c.into_sampled-cord.result)) z.tree (ticket_in x.0) x.1 v.token m.token) (sym same) recorded) e.recorded e.same)
    e.worker e.balanced e.token in
    let old = c.args.names.now in
    let cord = c.in-Some.cord in
    let here = c.of.result in
    let found : named old c.args.a.now ≡ Some cord = sym c.in-Some.ensures.found in
    let again : here ≡ cord = c.of.ensures ∙ (same-view c.into_sampled-cord.result c.copy-made.new.self e.kept e.record ∙ c.into_sampled-cord.ensures.view) in
    let same : AreSame old c.put_back.new.names = set-same old c.put_back.new.names c.args.a.now cord here found again
    (set-twice old c.take_out.new.names c.put_back.new.names c.args.a.now no_session_cord here c.in-Some.ensures.lent c.put_back.ensures.set) in
    err-weaker c.set_made.result _ _ (λ (last : AreSame c.put_back.new.names c.set_made.new.names). λ q. last q ∙ same q) c.set_made.ensures.same

pub returns-clause-desk : goal.returns-clause-desk
returns-clause-desk g c =
    let e = c.copy-made.ensures in
    let h = c.args.hand.now in
    let i = c.copy-made.new.hand in
    let v = seen h.worker (token_of h.pass) h.made in
    let m = seen i.worker (token_of i.pass) i.made in
    let by = made-by g.P.Naming.limit (λ s. is_some (ticket_in c.into_sampled-cord.result)) (λ s n. n ≡ 0) v m c.copy-made.result (ok-with _ _ _ c.copy-made.result (λ x recorded same. subst (λ (z : CordView). IsRecorded (is_some (ticket_in c.into_sampled-cord.result)) z.tree (ticket_in x.0) x.1 v.token m.token) (sym same) recorded) e.recorded e.same)
    e.worker e.balanced e.token in
    let old = c.args.names.now in
    let cord = c.in-Some.cord in
    let here = c.of.result in
    let found : named old c.args.a.now ≡ Some cord = sym c.in-Some.ensures.found in
    let again : here ≡ cord = c.of.ensures ∙ (same-view c.into_sampled-cord.result c.copy-made.new.self e.kept e.record ∙ c.into_sampled-cord.ensures.view) in
    let same : AreSame old c.put_back.new.names = set-same old c.put_back.new.names c.args.a.now cord here found again
    (set-twice old c.take_out.new.names c.put_back.new.names c.args.a.now no_session_cord here c.in-Some.ensures.lent c.put_back.ensures.set) in
    let all = subst (IsMadeBy v m) (sym c.of_session.ensures) by in
    let r = c.of_session.result in
    let j = c.set_made.new.hand in
    made-works old c.put_back.new.names c.set_made.new.names v.token m.token (token_of j.pass) c.args.b.now r c.set_made.result same all.noted
    (err-with _ _ _ r (λ x still refused. ap (λ z. token_of z.pass) refused ∙ still) all.still c.set_made.ensures.refused) c.set_made.ensures.desk c.set_made.ensures.set

pub returns-clause-does : goal.returns-clause-does
returns-clause-does g c =
    let e = c.copy-made.ensures in
    let h = c.args.hand.now in
    let i = c.copy-made.new.hand in
    let v = seen h.worker (token_of h.pass) h.made in
    let m = seen i.worker (token_of i.pass) i.made in
    let by = made-by g.P.Naming.limit (λ s. is_some (ticket_in c.into_sampled-cord.result)) (λ s n. n ≡ 0) v m c.copy-made.result (ok-with _ _ _ c.copy-made.result (λ x recorded same. subst (λ (z : CordView). IsRecorded (is_some (ticket_in c.into_sampled-cord.result)) z.tree (ticket_in x.0) x.1 v.token m.token) (sym same) recorded) e.recorded e.same)
    e.worker e.balanced e.token in
    let old = c.args.names.now in
    let cord = c.in-Some.cord in
    let here = c.of.result in
    let found : named old c.args.a.now ≡ Some cord = sym c.in-Some.ensures.found in
    let again : here ≡ cord = c.of.ensures ∙ (same-view c.into_sampled-cord.result c.copy-made.new.self e.kept e.record ∙ c.into_sampled-cord.ensures.view) in
    let same : AreSame old c.put_back.new.names = set-same old c.put_back.new.names c.args.a.now cord here found again
    (set-twice old c.take_out.new.names c.put_back.new.names c.args.a.now no_session_cord here c.in-Some.ensures.lent c.put_back.ensures.set) in
    let size = g.P.Naming.size in
    let limit = g.P.Naming.limit in
    let j = c.set_made.new.hand in
    let w = seen j.worker (token_of j.pass) j.made in
    let rs = c.copy-made.result in
    let r = c.of_session.result in
    let is = c.of_session.ensures in
    let a = c.args.a.now in
    let b = c.args.b.now in
    let kept = c.set_made.ensures.kept in
    let from = c.into_sampled-cord.result in
    let view = c.into_sampled-cord.ensures.view in
    let there = found ∙ ap (λ z. Some z) (sym view) in
    let formed : _ → IfOk rs (λ x. IsTreeOf (sampled_cord x.0).bytes (sampled_cord x.0).tree) = λ (all : _). ok-weaker _ _ rs (λ x p. subst (λ (z : CordView). IsTreeOf z.bytes z.tree)
    (sym (p ∙ ap (λ z. z.cord) view)) (all a cord found).formed) e.same in
    made-does size limit h.stride old c.set_made.new.names v m w (commands.Copy a b) true (copying old a b) (plain_of (cord_in cord)) (λ all. copy-comes true (names_of old) a b (cord_in cord) (found-in old a cord found)) tt
    r c.set_made.result
    (λ all. session-ok rs r is (λ x. IsWhole x.0) (ok-three _ _ _ _ rs (λ x good recorded same'. made-whole _ x.0 x.1 v.token m.token good
    (subst (λ (z : CordView). IsRecorded (is_some (ticket_in from)) z.tree (ticket_in x.0) x.1 v.token m.token) (sym same') recorded)) (formed all) e.recorded e.same))
    (session-ok rs r is (λ x. cord.cord.bytes ≡ x.0.cord.bytes) (ok-weaker _ _ rs (λ x p. sym (ap (λ (z : CordView). z.bytes) (p ∙ ap (λ z. z.cord) view))) e.same))
    (session-ok rs r is (λ x. (copying old a b).made.tree ≡ (cord_shape x.0.cord).tree) (ok-weaker _ _ rs (λ x p. ap (λ (s : CordShape). s.tree) (copied-shape old a cord found)
    ∙ ap (λ (z : CordView). (cord_shape z).tree) (sym (p ∙ ap (λ z. z.cord) view))) e.same))
    (λ all. session-ok rs r is (λ x. IsMarkedAs h.stride h.made (copying old a b) x.0.sample (new_mark x.1) (stamp_gone (named old b)))
    (ok-three _ _ _ _ rs (λ x good recorded same'. copied-marked h.stride h.made old a b from x.0 x.1 v.token m.token there same' good recorded) (formed all) e.recorded e.same))
    (session-ok rs r is (λ x. w.made ≡ v.made + 0) (ok-weaker _ _ rs (λ x p. omega (arith, kept.1, e.counts.1)) e.same))
    (λ all. session-err rs r is _ (err-turned _ _ rs (λ x p. copy-refused size limit old a b cord x found all (subst (λ (z : CordView). IsCopyCause limit z.tree x) (ap (λ z. z.cord) view) p)) e.refused))
    (session-err rs r is _ (err-turned _ _ rs (λ x p. copy-shows size limit (sampled_cord from).tree v.worker m.worker x p) e.refused))
    (session-err rs r is _ e.balanced)
    (err-turned _ _ r (λ x p. ap (λ z. z.worker) p) c.set_made.ensures.refused)
    (session-err rs r is _ (err-turned _ _ rs (λ x p. omega (arith, kept.1, e.counts.1)) e.refused))
    (idle-then v.worker m.worker w.worker by.idle c.set_made.ensures.idle).unused
    (ok-weaker _ _ c.set_made.result (λ answer p. set-from old c.put_back.new.names c.set_made.new.names b r answer same p) c.set_made.ensures.set)
