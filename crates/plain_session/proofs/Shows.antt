-- Bytes that are shown whole.
use Rattle.std.proofs.Common.{◌≡◌, ℕ, ◌-◌, ◌≤◌, List, length, take, ap, ◌∙◌, arith}
use Rattle.std.proofs.lemmas.List.{take_all}
use Rattle.plain_cord.specs.declared.limits.TheConstants.{MOST_SHOWN}
use Rattle.plain_cord.specs.declared.reply.Reply.TheVariants as replies
use Rattle.plain_cord.specs.Outcomes.{shown}

pub shown-all : (bytes : List ℕ) → length bytes ≤ MOST_SHOWN → shown bytes ≡ replies.Shown bytes 0
shown-all bytes few =
    let none : length bytes - MOST_SHOWN ≡ 0 = omega arith in
    ap (λ n. replies.Shown (take MOST_SHOWN bytes) n) none ∙ ap (λ first. replies.Shown first 0) (take_all MOST_SHOWN bytes few)
