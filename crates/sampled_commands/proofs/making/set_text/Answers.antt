-- A cord is made, and takes its place.
use Rattle.std.proofs.Common.{◌≡◌, ◌∙◌, sym, ap, subst, refl, ℕ, ◌+◌, ◌≤◌, List, length, true}
use Rattle.std.specs.Prelude.{IfOk, IfErr, is_some, if◌then◌else◌}
use Rattle.plain_cord.specs.declared.script.Command.TheVariants as commands
use Rattle.plain_cord.specs.States.{plain}
use Rattle.plain_cord.specs.Texts.{text_bytes}
use Rattle.tree_shapes.specs.Cords.{CordShape, cord_of_bytes}
use Rattle.ordered_names.specs.Named.{named}
use Rattle.cordz_desk.specs.Tokens.{token_of}
use Rattle.cord_value.specs.Refusals.{IsMakeRefused}
use Rattle.cord_value.specs.Views.{cord_shape, nodes_of}
use Rattle.cord_sampled.specs.Making.{is_sampled}
use Rattle.cord_sampled.specs.Sampled.{cord_in as sampled_cord}
use Rattle.sampled_commands.specs.Accounts.{seen}
use Rattle.sampled_commands.specs.Answers.{new_mark}
use Rattle.sampled_commands.specs.Leaving.{stamp_gone}
use Rattle.sampled_commands.specs.Views.{IsWhole, names_of}
use Rattle.sampled_commands.proofs.Comings.{let-comes}
use Rattle.sampled_commands.proofs.Doing.{made-does}
use Rattle.sampled_commands.proofs.Fresh.{session-ok, session-err, made-whole, fresh-marked, fresh-count}
use Rattle.sampled_commands.proofs.Made.{IsMadeBy, made-by}
use Rattle.sampled_commands.proofs.Marks.{IsMarkedAs}
use Rattle.sampled_commands.proofs.Ongoing.{ongoing-then, ongoing-same, adds-then, idle-then, idle-same}
use Rattle.sampled_commands.proofs.Results.{ok-always, ok-weaker, ok-with, ok-three, err-turned, err-on, err-with}
use Rattle.sampled_commands.proofs.Refused.{letting, bytes-refused, bytes-shows}
use Rattle.sampled_commands.proofs.Working.{made-works}
use Rattle.sampled_commands.proofs.making.set_text.Goals as goal

pub returns-in_err-bytes-clause-ongoing : goal.returns-in_err-bytes-clause-ongoing
returns-in_err-bytes-clause-ongoing g c = ongoing-same _ _ refl refl

pub returns-in_err-bytes-clause-idle : goal.returns-in_err-bytes-clause-idle
returns-in_err-bytes-clause-idle g c = idle-same _ _ refl

pub returns-clause-ongoing : goal.returns-clause-ongoing
returns-clause-ongoing g c =
    let e = c.from_bytes-made.ensures in
    let h = c.args.hand.now in
    let i = c.from_bytes-made.new.hand in
    let v = seen h.worker (token_of h.pass) h.made in
    let m = seen i.worker (token_of i.pass) i.made in
    ongoing-then v m _ (made-by g.P.Naming.limit (λ s. is_sampled h.stride h.made (sampled_cord s).tree) (λ s n. n ≡ nodes_of (sampled_cord s).tree) v m c.from_bytes-made.result
    e.recorded e.worker e.balanced e.token).ongoing c.set_made.ensures.ongoing

pub returns-clause-idle : goal.returns-clause-idle
returns-clause-idle g c =
    let e = c.from_bytes-made.ensures in
    let h = c.args.hand.now in
    let i = c.from_bytes-made.new.hand in
    let v = seen h.worker (token_of h.pass) h.made in
    let m = seen i.worker (token_of i.pass) i.made in
    idle-then v.worker m.worker _ (made-by g.P.Naming.limit (λ s. is_sampled h.stride h.made (sampled_cord s).tree) (λ s n. n ≡ nodes_of (sampled_cord s).tree) v m c.from_bytes-made.result
    e.recorded e.worker e.balanced e.token).idle c.set_made.ensures.idle

pub returns-clause-even : goal.returns-clause-even
returns-clause-even g c =
    let e = c.from_bytes-made.ensures in
    let h = c.args.hand.now in
    let i = c.from_bytes-made.new.hand in
    let v = seen h.worker (token_of h.pass) h.made in
    let m = seen i.worker (token_of i.pass) i.made in
    let by = made-by g.P.Naming.limit (λ s. is_sampled h.stride h.made (sampled_cord s).tree) (λ s n. n ≡ nodes_of (sampled_cord s).tree) v m c.from_bytes-made.result
    e.recorded e.worker e.balanced e.token in
    let all = subst (IsMadeBy v m) (sym c.of_session.ensures) by in
    ok-always c.set_made.result _ (adds-then v m _ _ _ _ _ _ _ all.even c.set_made.ensures.even)

pub returns-clause-desk : goal.returns-clause-desk
returns-clause-desk g c =
    let e = c.from_bytes-made.ensures in
    let h = c.args.hand.now in
    let i = c.from_bytes-made.new.hand in
    let j = c.set_made.new.hand in
    let v = seen h.worker (token_of h.pass) h.made in
    let m = seen i.worker (token_of i.pass) i.made in
    let by = made-by g.P.Naming.limit (λ s. is_sampled h.stride h.made (sampled_cord s).tree) (λ s n. n ≡ nodes_of (sampled_cord s).tree) v m c.from_bytes-made.result
    e.recorded e.worker e.balanced e.token in
    let all = subst (IsMadeBy v m) (sym c.of_session.ensures) by in
    let r = c.of_session.result in
    let old = c.args.names.now in
    made-works old old c.set_made.new.names v.token m.token (token_of j.pass) c.args.a.now r c.set_made.result (λ q. refl) all.noted
    (err-with _ _ _ r (λ x still refused. ap (λ z. token_of z.pass) refused ∙ still) all.still c.set_made.ensures.refused) c.set_made.ensures.desk c.set_made.ensures.set

pub returns-clause-does : goal.returns-clause-does
returns-clause-does g c =
    let size = g.P.Naming.size in
    let limit = g.P.Naming.limit in
    let e = c.from_bytes-made.ensures in
    let h = c.args.hand.now in
    let i = c.from_bytes-made.new.hand in
    let j = c.set_made.new.hand in
    let v = seen h.worker (token_of h.pass) h.made in
    let m = seen i.worker (token_of i.pass) i.made in
    let w = seen j.worker (token_of j.pass) j.made in
    let rs = c.from_bytes-made.result in
    let r = c.of_session.result in
    let is = c.of_session.ensures in
    let a = c.args.a.now in
    let text = c.args.text.now in
    let old = c.args.names.now in
    let bytes = c.as_slice.result.now in
    let same : bytes ≡ text_bytes text = c.as_slice.ensures ∙ c.in_ok-bytes.ensures in
    let short : length (text_bytes text) ≤ 2147483647 = c.requires.within in
    let kept = c.set_made.ensures.kept in
    let shaped : IfOk rs (λ x. cord_shape (sampled_cord x.0) ≡ cord_of_bytes (length (text_bytes text))) =
    subst (λ (z : List ℕ). IfOk rs (λ x. cord_shape (sampled_cord x.0) ≡ cord_of_bytes (length z))) same e.shape in
    let refused : IfErr rs (λ x. IsMakeRefused size limit (length (text_bytes text)) x v.worker m.worker) =
    subst (λ (z : List ℕ). IfErr rs (λ x. IsMakeRefused size limit (length z) x v.worker m.worker)) same e.refused in
    let by = made-by limit (λ s. is_sampled h.stride h.made (sampled_cord s).tree) (λ s n. n ≡ nodes_of (sampled_cord s).tree) v m rs e.recorded e.worker e.balanced e.token in
    made-does size limit h.stride old c.set_made.new.names v m w (commands.Let a text) true (letting a (names_of old a) (length (text_bytes text))) (plain (text_bytes text))
    (λ all. let-comes true (names_of old) a text) short r c.set_made.result
    (λ all. session-ok rs r is (λ x. IsWhole x.0) (ok-with _ _ _ rs (λ x formed recorded. made-whole _ x.0 x.1 v.token m.token formed recorded) e.formed e.recorded))
    (session-ok rs r is (λ x. text_bytes text ≡ x.0.cord.bytes) (ok-weaker _ _ rs (λ x p. sym (p ∙ same)) e.bytes))
    (session-ok rs r is (λ x. (cord_of_bytes (length (text_bytes text))).tree ≡ (cord_shape x.0.cord).tree) (ok-weaker _ _ rs (λ x p. ap (λ (s : CordShape). s.tree) (sym p)) shaped))
    (λ all. session-ok rs r is (λ x. IsMarkedAs h.stride h.made (letting a (names_of old a) (length (text_bytes text))) x.0.sample (new_mark x.1) (stamp_gone (named old a)))
    (ok-three _ _ _ _ rs (λ x shape formed recorded. fresh-marked h.stride h.made old a (cord_of_bytes (length (text_bytes text))) x.0 x.1 v.token m.token shape formed recorded) shaped e.formed e.recorded))
    (session-ok rs r is (λ x. w.made ≡ v.made + (if is_some (cord_of_bytes (length (text_bytes text))).tree then 1 else 0))
    (ok-with _ _ _ rs (λ x shape made. fresh-count (cord_of_bytes (length (text_bytes text))) x.0 v.made w.made shape (kept.1 ∙ made)) shaped e.made))
    (λ all. session-err rs r is _ (err-turned _ _ rs (λ x p. bytes-refused size limit (length (text_bytes text)) a (names_of old a) v.worker m.worker x short p) refused))
    (session-err rs r is _ (err-turned _ _ rs (λ x p. bytes-shows size limit (length (text_bytes text)) v.worker m.worker x p) refused))
    (session-err rs r is _ e.balanced)
    (err-turned _ _ r (λ x p. ap (λ z. z.worker) p) c.set_made.ensures.refused)
    (session-err rs r is _ (err-turned _ _ rs (λ x p. kept.1 ∙ p) (err-on rs _ e.unmade)))
    (idle-then v.worker m.worker w.worker by.idle c.set_made.ensures.idle).unused c.set_made.ensures.set
