-- What the proof of `OpenedDesk::named` needs beyond the search.
use Rattle.std.proofs.Common.{rules, arith, ◌≡◌, ℕ, suc, ◌+◌, [], ◌∷◌, ◌++◌, map, ap, sym, ◌∙◌}
use mathlib.Core.List.{map-append}
use Rattle.turn_desk.specs.Passes.{desk_view}
use Rattle.node_pool.specs.Boxes.{below}
use Rattle.record_rule.specs.Views.{new_token, token_in}
use Rattle.cordz_desk.specs.Seeing.{first_tokens, root_after, token_after}
use Rattle.cordz_desk.specs.Tokens.{token_of}
use Rattle.cordz_desk.proofs.start.OpenedDesk.named.Goals as goal

next_tokens : (n : ℕ) → first_tokens (n + 1) ≡ first_tokens n ++ new_token n ∷ []
next_tokens n = ap first_tokens (after n) ∙ map-append new_token (below n) (n ∷ [])
  where
    after : (n : ℕ) → n + 1 ≡ suc n
    after n = omega arith

pub loop-i-preserved : goal.loop-i-preserved
loop-i-preserved g c =
    let inv = c.loop-i.invariant in
    let e = c.split-pass.ensures in
    let items = c.push_reserved.ensures.items in
    let new : token_in (desk_view c.split-pass.result) ≡ new_token c.loop-i.i = ap token_in e.views.1 ∙ ap (λ v. token_in (token_after v)) inv.root in
    record {
      root = e.views.0 ∙ ap root_after inv.root;
      rooted = e.kept.0.0 ∙ inv.rooted;
      idle = search rules;
      len = search rules;
      room = search rules;
      tokens = ap (map token_of) items ∙ (map-append token_of c.loop-i.passes.items _ ∙ ((λ i. inv.tokens i ++ new i ∷ []) ∙ sym (next_tokens c.loop-i.i)));
    }
