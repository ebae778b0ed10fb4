-- A record that is given back, and then other passes that end.
use Rattle.std.proofs.Common.{ℕ, ◌+◌, [], subst, arith}
use Rattle.pool_rule.specs.Views.{View}
use Rattle.record_rule.specs.declared.views.TokenView.{TokenView}
use Rattle.cordz_desk.specs.declared.tickets.Ticket.{Ticket}
use Rattle.cord_value.specs.Workers.{Keeps}
use Rattle.cord_sampled.specs.Leaving.{shares_in, IsGivenBack}
use Rattle.cord_sampled.proofs.Keeping.{keeps-then}

module _ {P D : Type 0} {p : _} {d : _} where
  pub given-then : (limit : ℕ) (t : Ticket P D p d) (n : ℕ) (a b : TokenView) (u v w : View) → IsGivenBack limit t 0 a b u v → Keeps limit [] 0 n v w → IsGivenBack limit t n a b u w
  given-then limit t n a b u v w g k = record {
    share = g.share;
    given = g.given;
    same = g.same;
    untracked = g.untracked;
    claim = g.claim;
    keeps = subst (λ (m : ℕ). Keeps limit [] 0 m u w) (omega arith) (keeps-then limit [] [] 0 (shares_in g.share + 0) 0 n u v w g.keeps k);
  }
