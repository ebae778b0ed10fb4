-- A record that was given up and deleted at once: what the token did, and the share that comes back.
use Rattle.std.proofs.Common.{◌≡◌, ℕ, ◌<◌, List, ◌∷◌, Bool, MatchOption, Option, Some, sym, ap, ◌∙◌, subst, inl}
use Rattle.std.specs.Bool.{⊤}
use Rattle.cordz_core.specs.declared.answers.Settled.TheVariants.{Deleted}
use Rattle.record_rule.specs.declared.values.Rep.{Rep}
use Rattle.record_rule.specs.declared.views.Claim.TheVariants.{Owned, Unlinked, Cleared, Emptied}
use Rattle.record_rule.specs.declared.views.Deed.TheVariants.{Unlink, Settle, Free}
use Rattle.record_rule.specs.declared.views.DeskView.{DeskView}
use Rattle.record_rule.specs.declared.views.Noted.{Noted}
use Rattle.record_rule.specs.declared.views.TokenView.{TokenView}
use Rattle.record_rule.specs.Views.{claim_at, claiming, done, token_in, IsTokenView}
use Rattle.record_rule.specs.World.{is_none}
use Rattle.cordz_desk.specs.declared.share.Share.{Share}
use Rattle.cordz_desk.specs.Owners.{IsNewestTree}
use Rattle.cordz_desk.specs.Reps.{FoundAt}
use Rattle.cordz_desk.specs.Shares.{tree_in, IsShare}
use Rattle.cordz_desk.specs.Tokens.{IsGivenUp}
use Rattle.cordz_desk.proofs.Claims.{claim_here, settled_token, settled}
use Rattle.cordz_desk.proofs.Turning.{deleted_share}

module _ {P : Type 0} where
  pub given_back : (s stamp first second third : ℕ) (notes : List Noted) (bare : Bool) (p m r : TokenView) (v : DeskView) (rep : Rep (Share P)) (share : Option (Share P))
      → m ≡ claiming s (Owned stamp notes bare) p → token_in v ≡ done second (Settle s Deleted) (done first (Unlink s) m) → r ≡ done third (Free s) (claiming s Emptied (token_in v))
      → IsTokenView v → s < 256 → FoundAt s rep v → share ≡ rep.hold → IsGivenUp p r.own s notes bare share
  given_back s stamp first second third notes bare p m r v rep share a b d is small found e =
      let q : token_in v ≡ settled_token s stamp notes bare Deleted first second p = settled s stamp first second notes bare Deleted p (done first (Unlink s) m) (token_in v) (ap (done first (Unlink s)) a) b in
      let claim : claim_at (token_in v).claims s ≡ Cleared (Some (stamp, bare)) =
      ap (λ z. claim_at z.claims s) q ∙ claim_here s (Cleared (Some (stamp, bare))) ((s, Unlinked stamp bare) ∷ (s, Owned stamp notes bare) ∷ p.claims) in
      let k = deleted_share tree_in IsShare s stamp rep v notes bare p.untracked found is small claim (ap (λ z. z.untracked) q) in
      inl record {
        first = first;
        second = second;
        third = third;
        own = ap (λ z. z.own) (d ∙ ap (λ z. done third (Free s) (claiming s Emptied z)) q);
        none = ap is_none e ∙ k.0;
        tree = subst (λ (o : Option (Share P)). MatchOption o ⊤ (λ x. IsShare x × IsNewestTree (tree_in x) notes)) (sym e) k.1;
      }
