-- Changes on a path move whole trees between its edges and the direct holds, and keep the numbers on the path.
use Rattle.std.proofs.Common.{◌≡◌, ◌≢◌, ℕ, ◌<◌, List, [], ◌∷◌, length, refl, ◌∙◌, ap, get_or-set_same, get_or-set_other}
use Rattle.std.specs.Prelude.{Option, Some, None}
use Rattle.node_forest.specs.Label.{Node}
use Rattle.node_forest.specs.Counts.{first}
use Rattle.node_forest.specs.Paths.{numbers_on}
use Rattle.node_forest.specs.Changes.{Site, site, loose}
use Rattle.node_forest.proofs.Shuffles.{Shuffled, shuffled_refl, shuffled_then}
use Rattle.node_forest.proofs.Changes.{edit_numbers}
use Rattle.count_core.specs.Marks.{Change, unpulled, numbers_in, edit_of, change_at, FitEach, LonePath, FitsRoot, edits, edited_holds}
use Rattle.count_core.specs.Steps.{State, mark, after, holds_at, word_at, CanStep}
use Rattle.count_core.specs.MarkLaws.{MovesWholeTrees}
use Rattle.count_core.specs.Views.{without}
use Rattle.count_core.proofs.Edits.{change_lone, change_loose}

-- ---- a list of changes
pub edits_loose : (cs : List (ℕ × Change)) (s : Site) → FitEach cs s → Shuffled (loose s) (loose (edits cs s))
edits_loose [] s fits = shuffled_refl (loose s)
edits_loose (c ∷ cs) s fits =
    let n = change_at c.1 c.0 s in
    shuffled_then (loose s) (loose n) (loose (edits cs n)) (change_loose c.1 c.0 s fits.0) (edits_loose cs n fits.1)

edits_lone : (cs : List (ℕ × Change)) (s : Site) (word : ℕ → ℕ) → LonePath word s.tree s.path → FitEach cs s → LonePath word (edits cs s).tree (edits cs s).path
edits_lone [] s word lone fits = lone
edits_lone (c ∷ cs) s word lone fits = edits_lone cs (change_at c.1 c.0 s) word (change_lone c.1 c.0 s word lone fits.0) fits.1

edits_numbers : (cs : List (ℕ × Change)) (s : Site) → FitEach cs s → numbers_on (edits cs s).tree (edits cs s).path ≡ numbers_on s.tree s.path
edits_numbers [] s fits = refl
edits_numbers (c ∷ cs) s fits = edits_numbers cs (change_at c.1 c.0 s) fits.1 ∙ edit_numbers (edit_of c.1 s.out) c.0 s.tree s.path (unpulled (numbers_in c.1) s.out) fits.0.1

-- ---- a step on a world
mark_moves : (w : State) (v n : ℕ) (path : List ℕ) (changes : List (ℕ × Change)) (o : Option Node) → first n (holds_at w v) ≡ o → v < length w.views → FitsRoot (word_at w) o path changes (without n (holds_at w v)) → MovesWholeTrees w (after (mark v n path changes) w) v n path
mark_moves w v n path changes None e l fits = absurd fits
mark_moves w v n path changes (Some t) e l fits =
    let s = site t path (without n (holds_at w v)) in
    let f = edits_loose changes s fits.1 in
    record {
      root = t;
      end = edits changes s;
      was = e;
      is = get_or-set_same w.views v (edited_holds (first n (holds_at w v)) path changes (without n (holds_at w v))) [] l ∙ ap (λ (z : Option Node). edited_holds z path changes (without n (holds_at w v))) e;
      trees = λ x. (f.tops x, f.tops_from x);
      counts = f.count;
      lone = edits_lone changes s (word_at w) fits.0 fits.1;
      numbers = edits_numbers changes s fits.1;
    }

pub marks_move : (w : State) (v n : ℕ) (path : List ℕ) (changes : List (ℕ × Change)) → CanStep (mark v n path changes) w → MovesWholeTrees w (after (mark v n path changes) w) v n path
marks_move w v n path changes can = mark_moves w v n path changes (first n (holds_at w v)) refl can.view can.fits

pub marks_leave_others : (w : State) (v n : ℕ) (path : List ℕ) (changes : List (ℕ × Change)) → CanStep (mark v n path changes) w → (other : ℕ) → other ≢ v → holds_at (after (mark v n path changes) w) other ≡ holds_at w other
marks_leave_others w v n path changes can other ne = get_or-set_other w.views v other (edited_holds (first n (holds_at w v)) path changes (without n (holds_at w v))) [] ne
