-- What was copied is searched.
use Rattle.std.proofs.Common.{ℕ, ◌≡◌, ◌+◌, ◌-◌, List, length, take, drop, refl, ap, sym, subst, ◌∙◌, arith}
use Rattle.std.proofs.lemmas.List.{length-take}
use Rattle.memchr.specs.Find.{OccursAt, NoneBefore, Nowhere}
use Rattle.cord_query.proofs.BorderLaws.{over-some, over-none}
use Rattle.cord_query.proofs.border.over_border.Goals as goal

pub returns-in-Some-clause-first : goal.returns-in-Some-clause-first
returns-in-Some-clause-first c =
    let hay = c.args.ahead.now.bytes in
    let needle = c.args.needle.now in
    let start = c.args.start in
    let n = length c.args.chunk.now in
    let from = c.args.from in
    let most = n - from + (length needle - 1) in
    let filled = c.copy_from-filled.result in
    let seen = take filled c.copy_from-filled.new.room in
    let copied = c.copy_from-filled.ensures in
    let count : length seen ≡ filled = omega (arith, copied.count, ap length copied.bytes, length-take filled (drop (start + from) hay)) in
    let is : seen ≡ take (length seen) (drop (start + from) hay) = copied.bytes ∙ ap (λ (k : ℕ). take k (drop (start + from) hay)) (sym count) in
    let same = c.requires.finder in
    let at = c.in-Some.at in
    let found = c.in-Some.ensures in
    let none = subst (λ (t : List ℕ). NoneBefore (OccursAt seen t) 0 (length seen + 1) at) same found.0 in
    let occurs = subst (λ (t : List ℕ). OccursAt seen t at) same found.1 in
    over-some hay needle seen start n from most c.requires.some c.requires.behind c.requires.within refl c.requires.ends (count ∙ copied.count) is at none occurs

pub returns-in-None-clause-first : goal.returns-in-None-clause-first
returns-in-None-clause-first c =
    let hay = c.args.ahead.now.bytes in
    let needle = c.args.needle.now in
    let start = c.args.start in
    let n = length c.args.chunk.now in
    let from = c.args.from in
    let most = n - from + (length needle - 1) in
    let filled = c.copy_from-filled.result in
    let seen = take filled c.copy_from-filled.new.room in
    let copied = c.copy_from-filled.ensures in
    let count : length seen ≡ filled = omega (arith, copied.count, ap length copied.bytes, length-take filled (drop (start + from) hay)) in
    let is : seen ≡ take (length seen) (drop (start + from) hay) = copied.bytes ∙ ap (λ (k : ℕ). take k (drop (start + from) hay)) (sym count) in
    let same = c.requires.finder in
    let none = subst (λ (t : List ℕ). Nowhere (OccursAt seen t) 0 (length seen + 1)) same c.in-None.ensures in
    over-none hay needle seen start n from most c.requires.some c.requires.behind c.requires.within refl c.requires.ends (count ∙ copied.count) is none
