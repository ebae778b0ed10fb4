-- What a closed desk gives back.
use Rattle.std.proofs.Common.{◌≡◌, ℕ, zero, suc, List, [], ◌∷◌, ◌++◌, map, length, take, refl, ap, sym, ◌∙◌, arith, subst, Option, Some, None}
use Rattle.std.specs.Prelude.{replicate}
use mathlib.Core.Option.{some, some-injective, some-ne-none}
use lib.ListN.{get_elem?}
use Rattle.turn_desk.specs.Spots.{Spot, home, out, at_home, choice, chosen_of}
use Rattle.atomic_table.specs.Table.{opening}
use Rattle.turn_desk.specs.declared.knowledge.Knowledge.{Knowledge}
use Rattle.turn_desk.specs.Passes.{IsIdle, Ended}
use Rattle.turn_desk.specs.Table.{word_of, slot_of, idle, seen, Holds, Kept, Was}
use Rattle.atomic_table.specs.Table.{State}
use Rattle.atomic_table.specs.declared.shared.Seat.{Seat}
use Rattle.turn_desk.specs.declared.knowledge.Held.{Held}
use Rattle.turn_desk.specs.declared.knowledge.Held.TheVariants.{Nothing, Turn}
use Rattle.turn_desk.proofs.Keeps.{shown, free_turn}

module _ {X : Type 0} where
  pub chosen_more : (ws : List ℕ) (xs : List (Option X)) (i : ℕ) (w : ℕ) (x : Option X) → get_elem? ws i ≡ some w → get_elem? xs i ≡ some x → take (suc i) (chosen_of ws xs) ≡ take i (chosen_of ws xs) ++ choice w x ∷ []
  chosen_more [] xs i w x e f = absurd (cc)
  chosen_more (v ∷ ws) [] i w x e f = absurd (cc)
  chosen_more (v ∷ ws) (y ∷ xs) zero w x e f = λ k. choice (some-injective v w e k) (some-injective y x f k) ∷ []
  chosen_more (v ∷ ws) (y ∷ xs) (suc i) w x e f = ap (λ l. choice v y ∷ l) (chosen_more ws xs i w x e f)

  pub chosen_all : (spots : List (Spot X)) (xs : List (Option X)) → length spots ≡ length xs → ((k : ℕ) (y : Option X) → get_elem? (map slot_of spots) k ≡ some (some y) → get_elem? xs k ≡ some y) → chosen_of (map word_of spots) xs ≡ map at_home spots
  chosen_all [] xs len at = refl
  chosen_all (s ∷ ss) [] len at = absurd (omega arith)
  chosen_all (home v ∷ ss) (x ∷ xs) len at = λ k. some-injective x (Some v) (at 0 (Some v) refl) k ∷ chosen_all ss xs (omega arith) (λ j y e. at (suc j) y e) k
  chosen_all (out v ∷ ss) (x ∷ xs) len at = ap (λ l. None ∷ l) (chosen_all ss xs (omega arith) (λ j y e. at (suc j) y e))

  pub taken_whole : (n : ℕ) (xs : List (Option X)) → length xs ≡ n → take n xs ≡ xs
  taken_whole zero [] e = refl
  taken_whole zero (x ∷ xs) e = absurd (omega arith)
  taken_whole (suc n) [] e = absurd (omega arith)
  taken_whole (suc n) (x ∷ xs) e = ap (λ l. x ∷ l) (taken_whole n xs (omega arith))

  pub zero_words : (xs : List X) → replicate (length xs) 0 ≡ map word_of (map home xs)
  zero_words [] = refl
  zero_words (x ∷ xs) = ap (λ l. 0 ∷ l) (zero_words xs)

  pub home_slots : (xs : List X) → map some (map Some xs) ≡ map slot_of (map home xs)
  home_slots [] = refl
  home_slots (x ∷ xs) = ap (λ l. some (Some x) ∷ l) (home_slots xs)

module _ {X V : Type 0} where
  -- what a pass had, in the list of all
  held_at : (views : List (Knowledge X V)) (by : ℕ) (d : Knowledge X V) → get_elem? views by ≡ some d → get_elem? (map (λ (z : Knowledge X V). z.held) views) by ≡ some d.held
  held_at [] by d e = absurd (some-ne-none d (sym e))
  held_at (v ∷ vs) zero d e = ap (λ (z : Knowledge X V). some z.held) (some-injective v d e)
  held_at (v ∷ vs) (suc by) d e = held_at vs by d e

  held_by : (views : List (Knowledge X V)) (by : ℕ) (h : Held X) → get_elem? (map (λ (z : Knowledge X V). z.held) views) by ≡ some h → (d : Knowledge X V) × (get_elem? views by ≡ some d) × (d.held ≡ h)
  held_by [] by h e = absurd (some-ne-none h (sym e))
  held_by (v ∷ vs) zero h e = (v, refl, some-injective v.held h e)
  held_by (v ∷ vs) (suc by) h e = held_by vs by h e

module _ {X V : Type 0} (agrees : List (Spot X) → List (Option V) → Type 0) where
  pub opens : (values : List X) (first : V) (ws : List ℕ) (xs : List (Option X)) → ws ≡ replicate (length values) 0 → xs ≡ map Some values → agrees (map home values) (Some first ∷ []) → Kept agrees (opening ws xs (idle first))
  opens values first ws xs e f h = record {
    spots = map home values;
    owner = λ _. 0;
    words = e ∙ zero_words values;
    homes = ap (map some) f ∙ home_slots values;
    each = one;
    holder = λ l x e. absurd (all_home values l x e);
    past = fresh;
    agreed = h;
  }
    where
      one : (by : ℕ) (d : Knowledge X V) → get_elem? (idle first ∷ []) by ≡ some d → Holds (map home values) (λ _. 0) by d.held
      one zero d at = subst (λ (z : Knowledge X V). Holds (map home values) (λ _. 0) 0 z.held) (some-injective (idle first) d at) tt
      one (suc by) d at = absurd (some-ne-none d (sym at))

      fresh : (by : ℕ) (d : Knowledge X V) → get_elem? (idle first ∷ []) by ≡ some d → Was agrees d.past
      fresh zero d at = subst (λ (z : Knowledge X V). Was agrees z.past) (some-injective (idle first) d at) tt
      fresh (suc by) d at = absurd (some-ne-none d (sym at))

      all_home : (xs : List X) (l : ℕ) (x : X) → get_elem? (map home xs) l ≡ some (out x) → ⊥
      all_home [] l x e = some-ne-none (out x) (sym e)
      all_home (y ∷ ys) zero x e = cc
      all_home (y ∷ ys) (suc l) x e = all_home ys l x e

  -- the last state, of which one idle pass is known
  pub ends : (s : State (Option X) (Knowledge X V)) (r : Kept agrees s) (p : Seat (Option X) (Knowledge X V)) (values : List (Option X)) → IsIdle p → get_elem? s.views p.id ≡ some p.me.0 → values ≡ map at_home r.spots → Ended agrees p values
  ends s r p values idle at e = record {
    spots = r.spots;
    views = map seen s.views;
    turns = map (λ (d : Knowledge X V). d.held) s.views;
    agreed = r.agreed;
    mine = shown agrees s.views p.id p.me.0 Nothing at idle.0 refl;
    idle = held_at s.views p.id p.me.0 at ∙ ap (λ z. some z) idle.0;
    given = e;
    others = λ l x f.
        let h = r.holder l x f in (
          h.0,
          h.1.view,
          (λ same. free_turn p.me.0.held l x idle.0 (ap (λ (z : Knowledge X V). z.held) (some-injective p.me.0 h.1 (sym at ∙ (ap (get_elem? s.views) (sym same) ∙ h.2))) ∙ h.3)),
          shown agrees s.views h.0 h.1 (Turn l x) h.2 h.3 refl,
          held_at s.views h.0 h.1 h.2 ∙ ap (λ z. some z) h.3,
        );
    taken = λ by l x f.
        let d = held_by s.views by (Turn l x) f in
        let holds : Holds r.spots r.owner by (Turn l x) = subst (λ (z : Held X). Holds r.spots r.owner by z) d.2 (r.each by d.0 d.1) in holds.0;
  }
