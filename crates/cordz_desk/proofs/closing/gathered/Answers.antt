-- What the proof of `gathered` needs beyond the search.
use Rattle.std.proofs.Common.{[], ◌∷◌, map, ap, sym, ◌∙◌}
use mathlib.Core.List.{map-append}
use Rattle.turn_desk.specs.Passes.{desk_view}
use Rattle.record_rule.specs.declared.views.DeskView.{DeskView}
use Rattle.record_rule.specs.declared.views.DeskView.TheVariants.{Root}
use Rattle.cordz_desk.specs.Closed.{returned, returning_view}
use Rattle.cordz_desk.specs.Seeing.{given_by, back_to}
use Rattle.cordz_desk.specs.Tokens.{token_of}
use Rattle.cordz_desk.proofs.Ends.{returned_more}
use Rattle.cordz_desk.proofs.closing.gathered.Goals as goal

pub loop-pass-preserved : goal.loop-pass-preserved
loop-pass-preserved g c =
    let inv = c.loop-pass.invariant in
    let w = desk_view c.in-Some.pass.pass in
    let back = back_to (desk_view c.args.root) in
    record {
      on = c.merge.ensures.kept.0.0 ∙ inv.on;
      idle = c.merge.ensures.kept.1;
      view = c.merge.ensures.view ∙ (ap (λ (v : DeskView). returning_view v w) inv.view
          ∙ ap (Root (given_by (desk_view c.args.root))) (sym (ap (λ z. returned z back) (map-append token_of c.loop-pass.yielded (c.in-Some.pass ∷ [])) ∙ returned_more (map token_of c.loop-pass.yielded) (token_of c.in-Some.pass) back)));
    }
