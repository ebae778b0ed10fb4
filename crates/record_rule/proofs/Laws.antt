-- The rule of the desk survives each step of a desk.
use Rattle.std.proofs.Common.{◌≡◌, ℕ, List, [], ◌∷◌, ◌++◌, map, set, Option, Some, None, refl, sym, ap, ◌∙◌, subst, inl, inr}
use Rattle.std.specs.Prelude.{slice_set}
use mathlib.Core.Option.{some, some-injective}
use lib.ListN.{get_elem?}
use lib.Seq.{map-set}
use Rattle.atomic_table.proofs.Lists.{at_map, set_again}
use Rattle.node_forest.specs.Label.{Node}
use Rattle.turn_desk.specs.Spots.{Spot, home, out}
use Rattle.cordz_core.specs.Contents.{Contents}
use Rattle.record_rule.specs.declared.values.DeskValue.{DeskValue}
use Rattle.record_rule.specs.declared.values.DeskValue.TheVariants.{List as Lists}
use Rattle.record_rule.specs.declared.views.Deed.{Deed}
use Rattle.record_rule.specs.declared.views.Deed.TheVariants.{Reserve, Full, Free, Track, Unlink, Settle, Snap, Unsnap, Head, Next}
use Rattle.record_rule.specs.declared.views.TokenView.{TokenView}
use Rattle.record_rule.specs.declared.views.DeskView.{DeskView}
use Rattle.record_rule.specs.declared.views.DeskView.TheVariants.{Token}
use Rattle.record_rule.specs.Log.{history}
use Rattle.record_rule.specs.Steps.{Does, Acted, Wrote, Drained, Altered, Took, Leaves, Splits, Merges}
use Rattle.record_rule.specs.Views.{claim_at, done}
use Rattle.record_rule.specs.World.{Facts, IsWorld, Stands, value_of}
use Rattle.record_rule.proofs.Acts.{Doing, Done, reserves, frees, tracks, unlinks, settles}
use Rattle.record_rule.proofs.Sweeps.{refuses, snaps, unsnaps, heads, nexts}
use Rattle.record_rule.proofs.Changes.{altered, took, passed}
use Rattle.record_rule.proofs.Tokens.{gives, issues, lends, returns, redeems, sees, fills}
use Rattle.record_rule.proofs.Turns.{wrote, drained}

module _ {S : Type 0} (tree_of : S → Node) (fits : S → Type 0) where
  value_at : (spots : List (Spot (DeskValue S))) (l : ℕ) (z : Spot (DeskValue S)) → get_elem? spots l ≡ some z → get_elem? (map value_of spots) l ≡ some (value_of z)
  value_at spots l z e = at_map value_of spots l z e

  pub takes_out : (spots : List (Spot (DeskValue S))) (views : List (Option DeskView)) (l : ℕ) (x : DeskValue S) → Stands tree_of fits spots views → get_elem? spots l ≡ some (home x) → Stands tree_of fits (slice_set spots l (out x)) views
  takes_out spots views l x s at = record {
    facts = s.facts;
    world = subst (λ (z : List (DeskValue S)). IsWorld tree_of fits s.facts z views) (sym (map-set value_of spots l (out x) ∙ set_again (map value_of spots) l x (value_at spots l (home x) at))) s.world;
  }

  lists_is : (a b : Contents) → ◌≡◌ {A = DeskValue S} (Lists a) (Lists b) → a ≡ b
  lists_is a b e = cc

  by_deed : (g : Facts) (values : List (DeskValue S)) (views : List (Option DeskView)) (by : ℕ) (p : TokenView) (place : ℕ) (d : Deed) (q : Contents) → Doing tree_of fits g values views by p place d q → Done tree_of fits values views by (Token (done place d p)) q
  by_deed g values views by p place (Reserve s stamp) q a = reserves tree_of fits g values views by p place s stamp q a
  by_deed g values views by p place Full q a = refuses tree_of fits g values views by p place q a
  by_deed g values views by p place (Free s) q a = frees tree_of fits g values views by p place s q a (claim_at p.claims s) refl a.does.0
  by_deed g values views by p place (Track s) q a = tracks tree_of fits g values views by p place s q a (claim_at p.claims s) refl a.does.0
  by_deed g values views by p place (Unlink s) q a = unlinks tree_of fits g values views by p place s q a (claim_at p.claims s) refl a.does.0
  by_deed g values views by p place (Settle s answer) q a = settles tree_of fits g values views by p place s answer q a (claim_at p.claims s) refl a.does.0
  by_deed g values views by p place (Snap w) q a = snaps tree_of fits g values views by p place w q a
  by_deed g values views by p place (Unsnap w gone) q a = unsnaps tree_of fits g values views by p place w gone q a
  by_deed g values views by p place (Head answer) q a = heads tree_of fits g values views by p place answer q a
  by_deed g values views by p place (Next s answer) q a = nexts tree_of fits g values views by p place s answer q a

  acts : (values : List (DeskValue S)) (views : List (Option DeskView)) (g : Facts) (l by : ℕ) (x y : DeskValue S) (v w : DeskView) → IsWorld tree_of fits g values views → get_elem? values l ≡ some x → get_elem? views by ≡ some (Some v) → Acted l x y v w
      → (k : Facts) × IsWorld tree_of fits k (set values l y) (set views by (Some w))
  acts values views g l by x y v w world at seen r =
      let same : g.registry ≡ r.old = lists_is g.registry r.old (some-injective (Lists g.registry) (Lists r.old) (sym world.first ∙ (ap (get_elem? values) (sym r.first) ∙ (at ∙ ap some r.from)))) in
      let d = by_deed g values views by r.token r.place r.deed r.new record {
        world = world;
        seen = seen ∙ ap (λ z. some (Some z)) r.before;
        placed = r.placed;
        few = r.few;
        replays = r.replays (history g.log) (subst (Rattle.cordz_core.specs.Legal.Replays (history g.log)) same world.replays);
        answer = r.answers (history g.log) (subst (Rattle.cordz_core.specs.Legal.Replays (history g.log)) same world.replays);
        does = subst (λ (z : Contents). Does r.deed r.token z r.new) (sym same) r.does;
      } in
      (d.0, subst (λ (z : ℕ × DeskValue S × DeskView). IsWorld tree_of fits d.0 (set values z.0 z.1) (set views by (Some z.2))) (λ i. (sym r.first i, sym r.to i, sym r.after i)) d.1)

  writes : (values : List (DeskValue S)) (views : List (Option DeskView)) (g : Facts) (l by : ℕ) (x y : DeskValue S) (v w : DeskView) → IsWorld tree_of fits g values views → get_elem? values l ≡ some x → get_elem? views by ≡ some (Some v) → Wrote tree_of fits l x y v w
      → (k : Facts) × IsWorld tree_of fits k (set values l y) (set views by (Some w))
  writes values views g l by x y v w world at seen r =
      let d = wrote tree_of fits g values views by l x y v w world r (seen ∙ ap (λ z. some (Some z)) r.before) (ap (get_elem? values) (sym r.at) ∙ (at ∙ ap some r.from)) in
      (d.0, subst (λ (z : ℕ × DeskValue S × DeskView). IsWorld tree_of fits d.0 (set values z.0 z.1) (set views by (Some z.2))) (λ i. (sym r.at i, sym r.to i, sym r.after i)) d.1)

  drains : (values : List (DeskValue S)) (views : List (Option DeskView)) (g : Facts) (l by : ℕ) (x y : DeskValue S) (v w : DeskView) → IsWorld tree_of fits g values views → get_elem? values l ≡ some x → get_elem? views by ≡ some (Some v) → Drained l x y v w
      → (k : Facts) × IsWorld tree_of fits k (set values l y) (set views by (Some w))
  drains values views g l by x y v w world at seen r =
      let d = drained tree_of fits g values views by l x y v w world r (seen ∙ ap (λ z. some (Some z)) r.before) (ap (get_elem? values) (sym r.at) ∙ (at ∙ ap some r.from)) in
      (d.0, subst (λ (z : ℕ × DeskValue S × DeskView). IsWorld tree_of fits d.0 (set values z.0 z.1) (set views by (Some z.2))) (λ i. (sym r.at i, sym r.to i, sym r.after i)) d.1)

  alters : (values : List (DeskValue S)) (views : List (Option DeskView)) (g : Facts) (l by : ℕ) (x y : DeskValue S) (v w : DeskView) → IsWorld tree_of fits g values views → get_elem? values l ≡ some x → get_elem? views by ≡ some (Some v) → Altered tree_of fits l x y v w
      → (k : Facts) × IsWorld tree_of fits k (set values l y) (set views by (Some w))
  alters values views g l by x y v w world at seen r =
      let d = altered tree_of fits g values views by l x y v w world r (seen ∙ ap (λ z. some (Some z)) r.before) (ap (get_elem? values) (sym r.at) ∙ (at ∙ ap some r.from)) in
      (d.0, subst (λ (z : ℕ × DeskValue S × DeskView). IsWorld tree_of fits d.0 (set values z.0 z.1) (set views by (Some z.2))) (λ i. (sym r.at i, sym r.to i, sym r.after i)) d.1)

  takes : (values : List (DeskValue S)) (views : List (Option DeskView)) (g : Facts) (l by : ℕ) (x y : DeskValue S) (v w : DeskView) → IsWorld tree_of fits g values views → get_elem? values l ≡ some x → get_elem? views by ≡ some (Some v) → Took tree_of fits l x y v w
      → (k : Facts) × IsWorld tree_of fits k (set values l y) (set views by (Some w))
  takes values views g l by x y v w world at seen r =
      let d = took tree_of fits g values views by l x y v w world r (seen ∙ ap (λ z. some (Some z)) r.before) (ap (get_elem? values) (sym r.at) ∙ (at ∙ ap some r.from)) in
      (d.0, subst (λ (z : ℕ × DeskValue S × DeskView). IsWorld tree_of fits d.0 (set values z.0 z.1) (set views by (Some z.2))) (λ i. (sym r.at i, sym r.to i, sym r.after i)) d.1)

  turns : (values : List (DeskValue S)) (views : List (Option DeskView)) (g : Facts) (l by : ℕ) (x y : DeskValue S) (v w : DeskView) → IsWorld tree_of fits g values views → get_elem? values l ≡ some x → get_elem? views by ≡ some (Some v) → Leaves tree_of fits l x y v w
      → (k : Facts) × IsWorld tree_of fits k (set values l y) (set views by (Some w))
  turns values views g l by x y v w world at seen (inl r) = acts values views g l by x y v w world at seen r
  turns values views g l by x y v w world at seen (inr (inl r)) = writes values views g l by x y v w world at seen r
  turns values views g l by x y v w world at seen (inr (inr (inl r))) = drains values views g l by x y v w world at seen r
  turns values views g l by x y v w world at seen (inr (inr (inr (inl r)))) = alters values views g l by x y v w world at seen r
  turns values views g l by x y v w world at seen (inr (inr (inr (inr (inl r))))) = takes values views g l by x y v w world at seen r
  turns values views g l by x y v w world at seen (inr (inr (inr (inr (inr r))))) = passed tree_of fits g values views by l x y v w world at seen r

  pub gives_back : (spots : List (Spot (DeskValue S))) (views : List (Option DeskView)) (l by : ℕ) (x y : DeskValue S) (v w : DeskView) → Stands tree_of fits spots views → get_elem? spots l ≡ some (out x) → get_elem? views by ≡ some (Some v) → Leaves tree_of fits l x y v w
      → Stands tree_of fits (slice_set spots l (home y)) (slice_set views by (Some w))
  gives_back spots views l by x y v w s at seen r =
      let values : List (DeskValue S) = map value_of spots in
      let there = value_at spots l (out x) at in
      let d = turns values views s.facts l by x y v w s.world there seen r in
      record { facts = d.0; world = subst (λ (z : List (DeskValue S)). IsWorld tree_of fits d.0 z (set views by (Some w))) (sym (map-set value_of spots l (home y))) d.1 }

  pub splits : (spots : List (Spot (DeskValue S))) (views : List (Option DeskView)) (by : ℕ) (v a b : DeskView) → Stands tree_of fits spots views → get_elem? views by ≡ some (Some v) → Splits v a b
      → Stands tree_of fits spots (slice_set views by (Some a) ++ Some b ∷ [])
  splits spots views by v a b s seen r =
      let d = divides r in
      record { facts = d.0; world = d.1 }
    where
      Divided : DeskView → DeskView → Type 0
      Divided a b = (k : Facts) × IsWorld tree_of fits k (map value_of spots) (set views by (Some a) ++ Some b ∷ [])

      divides : Splits v a b → Divided a b
      divides (inl t) = subst (λ (z : DeskView × DeskView). Divided z.0 z.1) (λ i. (sym t.kept i, sym t.new i))
          (gives tree_of fits s.facts (map value_of spots) views by t.given t.back s.world (seen ∙ ap (λ z. some (Some z)) t.before) t.few)
      divides (inr (inl t)) = subst (λ (z : DeskView × DeskView). Divided z.0 z.1) (λ i. (sym t.kept i, sym t.new i))
          (issues tree_of fits s.facts (map value_of spots) views by t.slot t.stamp t.notes t.bare t.token s.world (seen ∙ ap (λ z. some (Some z)) t.before) t.claim)
      divides (inr (inr t)) = subst (λ (z : DeskView × DeskView). Divided z.0 z.1) (λ i. (sym t.kept i, sym t.new i))
          (lends tree_of fits s.facts (map value_of spots) views by t.slot t.stamp t.notes t.bare s.world (seen ∙ ap (λ z. some (Some z)) t.before))

  pub merges : (spots : List (Spot (DeskValue S))) (views : List (Option DeskView)) (by other : ℕ) (v w both : DeskView) → Stands tree_of fits spots views → get_elem? views by ≡ some (Some v) → ¬ (other ≡ by) → get_elem? views other ≡ some (Some w) → Merges v w both
      → Stands tree_of fits spots (slice_set (slice_set views by (Some both)) other None)
  merges spots views by other v w both s seen apart seen' r =
      let d = joins r in
      record { facts = d.0; world = d.1 }
    where
      Joined : DeskView → Type 0
      Joined both = (k : Facts) × IsWorld tree_of fits k (map value_of spots) (set (set views by (Some both)) other None)

      at_first : (z : DeskView) → v ≡ z → get_elem? views by ≡ some (Some z)
      at_first z e = seen ∙ ap (λ u. some (Some u)) e

      at_second : (z : DeskView) → w ≡ z → get_elem? views other ≡ some (Some z)
      at_second z e = seen' ∙ ap (λ u. some (Some u)) e

      joins : Merges v w both → Joined both
      joins (inl t) = subst Joined (sym t.after) (returns tree_of fits s.facts (map value_of spots) views by other t.given t.back t.token s.world (at_first _ t.before) apart (at_second _ t.other))
      joins (inr (inl t)) = subst Joined (sym t.after) (redeems tree_of fits s.facts (map value_of spots) views by other t.slot t.stamp t.notes t.bare t.token s.world (at_first _ t.before) apart (at_second _ t.other))
      joins (inr (inr (inl t))) = subst Joined (sym t.after) (sees tree_of fits s.facts (map value_of spots) views by other t.slot t.stamp t.notes t.bare t.token s.world (at_first _ t.before) apart (at_second _ t.other))
      joins (inr (inr (inr t))) = subst Joined (sym t.after) (fills tree_of fits s.facts (map value_of spots) views by other t.slot t.stamp t.notes t.bare s.world (at_first _ t.before) apart (at_second _ t.other))
