-- Where a text stands in bytes, told by the order.
use Rattle.std.proofs.Common.{ℕ, ◌≡◌, ◌+◌, ◌≤◌, List, length, take, drop, sym, subst, ap, ◌∙◌}
use Rattle.std.specs.Ordering.{nat_cmp}
use Rattle.std.specs.Cmp.Lexicographic.{slice_cmp}
use Rattle.std.specs.declared.cmp.Ordering.{Ordering}
use Rattle.std.specs.declared.cmp.Ordering.TheVariants.{Equal}
use Rattle.std.proofs.lemmas.Cmp.{tied_itself, nat_list_cmp_total}
use Rattle.memchr.specs.Find.{OccursAt}
use Rattle.memchr.proofs.lemmas.MatchLemmas.{OccursAt-part, OccursAt-from_part}
use Rattle.plain_cord.specs.Orders.{ComparesAs}
use Rattle.plain_cord.proofs.OrderLaws.{slice_cmp-compares}

pub cmp-same : (xs ys : List ℕ) (o : Ordering) → o ≡ slice_cmp nat_cmp xs ys → o ≡ Equal → xs ≡ ys
cmp-same xs ys o is tied = subst (ComparesAs xs ys) (sym is ∙ tied) (slice_cmp-compares xs ys)

pub cmp-tied : (xs ys : List ℕ) (o : Ordering) → o ≡ slice_cmp nat_cmp xs ys → xs ≡ ys → o ≡ Equal
cmp-tied xs ys o is same = is ∙ ap (slice_cmp nat_cmp xs) (sym same) ∙ tied_itself nat_list_cmp_total xs

module _ (bytes text : List ℕ) (place : ℕ) (o : Ordering) (is : o ≡ slice_cmp nat_cmp text (take (length text) (drop place bytes))) where
  pub tied-occurs : place + length text ≤ length bytes → o ≡ Equal → OccursAt bytes text place
  tied-occurs fits tied = OccursAt-from_part bytes text place fits (sym (cmp-same text (take (length text) (drop place bytes)) o is tied))

  pub occurs-tied : OccursAt bytes text place → o ≡ Equal
  occurs-tied occurs = cmp-tied text (take (length text) (drop place bytes)) o is (sym (OccursAt-part bytes text place occurs))
