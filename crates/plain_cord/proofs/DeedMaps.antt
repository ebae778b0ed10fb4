-- A list of actions with other items: the cells, the sessions' parts, the places and the entries change with the items alone.
use Rattle.std.proofs.Common.{◌≡◌, ℕ, zero, suc, ◌+◌, List, [], ◌∷◌, eqb, cond, Bool, true, false, map, sym, refl, ap, ◌∙◌, subst, Option, Some, None}
use Rattle.std.specs.Prelude.{option_map, replicate, slice_set, IsSome}
use Rattle.std.proofs.lemmas.Option.{slice_get-map}
use lib.Seq.{map-set}
use Rattle.plain_cord.specs.declared.history.Act.{Act}
use Rattle.plain_cord.specs.declared.history.Act.TheVariants.{Put, Take, Peek, Swap}
use Rattle.plain_cord.specs.declared.deed.Deed.{Deed}
use Rattle.plain_cord.specs.Deeds.{noted_of, after_of, IsProper, cells_after, IsLegal, of_session, InOrder, entry_of, mapped_deed, empty_cells}

module _ {C D : Type 0} (f : C → D) where
  -- the cell after an action
  pub mapped-after : (a : Act) (came was : Option C) → after_of a (option_map f came) (option_map f was) ≡ option_map f (after_of a came was)
  mapped-after Put came was = refl
  mapped-after Take came was = refl
  mapped-after Peek came was = refl
  mapped-after Swap came None = refl
  mapped-after Swap came (Some x) = refl

  mapped-some : (came : Option C) → IsSome came → IsSome (option_map f came)
  mapped-some (Some x) is = refl
  mapped-some None is = is

  pub mapped-proper : (a : Act) (came was : Option C) → IsProper a came was → IsProper a (option_map f came) (option_map f was)
  mapped-proper Put came was is = mapped-some came is
  mapped-proper Take came was is = ap (option_map f) is
  mapped-proper Peek came was is = ap (option_map f) is
  mapped-proper Swap came None is = ap (option_map f) is
  mapped-proper Swap came (Some x) is = mapped-some came is

  -- the cells after one action
  mapped-set : (cs : List (Option C)) (d : Deed C) → slice_set (map (option_map f) cs) d.cell (after_of d.act (option_map f d.came) (option_map f d.was)) ≡ map (option_map f) (slice_set cs d.cell (after_of d.act d.came d.was))
  mapped-set cs d = ap (slice_set (map (option_map f) cs) d.cell) (mapped-after d.act d.came d.was) ∙ sym (map-set (option_map f) cs d.cell (after_of d.act d.came d.was))

  -- the cells after all
  pub mapped-cells_after : (cs : List (Option C)) (ds : List (Deed C)) → cells_after (map (option_map f) cs) (map (mapped_deed f) ds) ≡ map (option_map f) (cells_after cs ds)
  mapped-cells_after cs [] = refl
  mapped-cells_after cs (d ∷ ds) = ap (λ z. cells_after z (map (mapped_deed f) ds)) (mapped-set cs d) ∙ mapped-cells_after (slice_set cs d.cell (after_of d.act d.came d.was)) ds

  pub mapped-legal : (cs : List (Option C)) (ds : List (Deed C)) → IsLegal cs ds → IsLegal (map (option_map f) cs) (map (mapped_deed f) ds)
  mapped-legal cs [] legal = tt
  mapped-legal cs (d ∷ ds) legal = (
    slice_get-map (option_map f) cs d.cell ∙ ap (option_map (option_map f)) legal.0,
    mapped-proper d.act d.came d.was legal.1,
    subst (λ z. IsLegal z (map (mapped_deed f) ds)) (sym (mapped-set cs d)) (mapped-legal (slice_set cs d.cell (after_of d.act d.came d.was)) ds legal.2),
  )

  -- the actions of one session
  pub mapped-of_session : (p : ℕ) (ds : List (Deed C)) → of_session p (map (mapped_deed f) ds) ≡ map (mapped_deed f) (of_session p ds)
  mapped-of_session p [] = refl
  mapped-of_session p (d ∷ ds) = either_way (eqb p d.session) (mapped-of_session p ds)
    where
      either_way : (b : Bool) → of_session p (map (mapped_deed f) ds) ≡ map (mapped_deed f) (of_session p ds)
          → cond b (mapped_deed f d ∷ of_session p (map (mapped_deed f) ds)) (of_session p (map (mapped_deed f) ds)) ≡ map (mapped_deed f) (cond b (d ∷ of_session p ds) (of_session p ds))
      either_way true h = ap (λ z. mapped_deed f d ∷ z) h
      either_way false h = h

  pub mapped-in_order : (n : ℕ) (ds : List (Deed C)) → InOrder n ds → InOrder n (map (mapped_deed f) ds)
  mapped-in_order n [] order = tt
  mapped-in_order n (d ∷ ds) order = (order.0, mapped-in_order (n + 1) ds order.1)

  mapped-empty : (n : ℕ) → map (option_map f) (replicate n None) ≡ replicate n None
  mapped-empty zero = refl
  mapped-empty (suc n) = ap (λ z. None ∷ z) (mapped-empty n)

  pub mapped-empty_cells : map (option_map f) empty_cells ≡ empty_cells
  mapped-empty_cells = mapped-empty 64

  module _ (size : D → ℕ) where
    length_mapped : (o : Option C) → option_map size (option_map f o) ≡ option_map (λ c. size (f c)) o
    length_mapped None = refl
    length_mapped (Some x) = refl

    -- the entry of an action, by the lengths of the other items
    pub entry-mapped : (d : Deed C) → entry_of size (mapped_deed f d) ≡ entry_of (λ c. size (f c)) d
    entry-mapped d = λ i. record { session = d.session; place = d.place; act = d.act; cell = d.cell; came = length_mapped d.came i; was = noted_of d.act (length_mapped d.was i) }

    -- the history of them all
    pub entries-mapped : (ds : List (Deed C)) → map (entry_of size) (map (mapped_deed f) ds) ≡ map (entry_of (λ c. size (f c))) ds
    entries-mapped [] = refl
    entries-mapped (d ∷ ds) = λ i. entry-mapped d i ∷ entries-mapped ds i
