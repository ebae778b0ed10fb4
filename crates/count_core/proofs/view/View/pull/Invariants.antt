-- What the loop of `pull` keeps, or what grows less in its recursion.
use Rattle.std.proofs.Common.{◌≡◌, ◌++◌, drop}
use Rattle.count_core.specs.Marks.{CanPull, pulled, unpulled}
use Rattle.count_core.proofs.view.View.pull.Given as goal

abbrev pub invariant-loop-number : goal.invariant-loop-number
invariant-loop-number l =
    (l.out.items ++ pulled (drop l.number-index l.numbers) l.self ≡ pulled l.numbers l.fn.self)
    × (unpulled (drop l.number-index l.numbers) l.self ≡ unpulled l.numbers l.fn.self)
    × (CanPull (drop l.number-index l.numbers) l.self → CanPull l.numbers l.fn.self)
    × (CanPull l.numbers l.fn.self → CanPull (drop l.number-index l.numbers) l.self)
