-- Lists of changes, taken apart by the nodes of their path.
use Rattle.std.proofs.Common.{ℕ, zero, suc, ◌≡◌, ◌+◌, ◌-◌, ◌^◌, ◌<◌, ◌≤◌, List, [], ◌∷◌, ◌++◌, length, get_or, set, take, drop, sum_by, refl, sym, ap, ◌∙◌, subst, arith, length-append, length-set, get_or-set_same}
use Rattle.std.proofs.lemmas.List.{length-take}
use Rattle.node_forest.specs.declared.kind.Kind.TheVariants as kinds
use Rattle.node_forest.specs.Forest.{empty, forest, children}
use Rattle.node_forest.specs.Label.{Node, number}
use Rattle.node_forest.specs.Paths.{child_of, at_depth, numbers_on, NeverDeeper}
use Rattle.node_forest.proofs.Maps.{trees-forest}
use Rattle.node_edges.specs.declared.change.Change.{Change}
use Rattle.node_edges.specs.declared.change.Change.TheVariants.{Fill, Shorten, Add, Drop, Swap}
use Rattle.node_forest.specs.Changes.{Exchange, Edit, resize, exchange, Site, site, total, with_edges, edges_after, exchanged, FitsBranch, raised, edit, FitsAt}
use Rattle.node_forest.proofs.Changes.{edit_number, edit_numbers, edit_tree, raised_within, raised_child}
use Rattle.node_edges.specs.Changes.{exchange_in, edit_of, change_at, ChangeFits, edits, FitEach}
use Rattle.node_edges.specs.Levels.{exchanges_in, all_after, all_out, all_count, CanExchange, all_bytes, all_room, FitAllBytes, most_out, lowered, AreDeep, AreAt}

-- ---- lists of changes in parts
pub edits-append : (a b : List (ℕ × Change)) (s : Site) → edits (a ++ b) s ≡ edits b (edits a s)
edits-append [] b s = refl
edits-append (c ∷ a) b s = edits-append a b (change_at c.1 c.0 s)

-- the numbers on the path stay, and so does the root's
pub edits-numbers : (cs : List (ℕ × Change)) (s : Site) → FitEach cs s → numbers_on (edits cs s).tree (edits cs s).path ≡ numbers_on s.tree s.path
edits-numbers [] s fits = refl
edits-numbers (c ∷ cs) s fits = edits-numbers cs (change_at c.1 c.0 s) fits.1 ∙ edit_numbers (edit_of c.1 (at_depth c.0 s.tree s.path)) c.0 s.tree s.path s.out fits.0.0

pub edits-number : (cs : List (ℕ × Change)) (s : Site) → number (edits cs s).tree ≡ number s.tree
edits-number [] s = refl
edits-number (c ∷ cs) s = edits-number cs (change_at c.1 c.0 s) ∙ edit_number (edit_of c.1 (at_depth c.0 s.tree s.path)) c.0 s.tree s.path s.out

pub fits-append : (a b : List (ℕ × Change)) (s : Site) → FitEach (a ++ b) s → FitEach a s × FitEach b (edits a s)
fits-append [] b s f = (tt, f)
fits-append (c ∷ a) b s f = let r = fits-append a b (change_at c.1 c.0 s) f.1 in ((f.0, r.0), r.1)

pub most-append : (a b : List (ℕ × Change)) → most_out (a ++ b) ≡ most_out a + most_out b
most-append [] b = omega arith
most-append (c ∷ a) b = let r = most-append a b in omega arith

pub lowered-append : (n : ℕ) (a b : List (ℕ × Change)) → lowered n (a ++ b) ≡ lowered n a ++ lowered n b
lowered-append n [] b = refl
lowered-append n (c ∷ a) b = ap (λ (z : List (ℕ × Change)). (c.0 - n, c.1) ∷ z) (lowered-append n a b)

pub lowered-lowered : (n : ℕ) (cs : List (ℕ × Change)) → lowered 1 (lowered n cs) ≡ lowered (n + 1) cs
lowered-lowered n [] = refl
lowered-lowered n (c ∷ cs) =
    let e : c.0 - n - 1 ≡ c.0 - (n + 1) = omega arith in
    λ i. (e i, c.1) ∷ lowered-lowered n cs i

pub lowered-zero : (cs : List (ℕ × Change)) → lowered 0 cs ≡ cs
lowered-zero [] = refl
lowered-zero (c ∷ cs) = let e : c.0 - 0 ≡ c.0 = omega arith in λ i. (e i, c.1) ∷ lowered-zero cs i

pub length-lowered : (n : ℕ) (cs : List (ℕ × Change)) → length (lowered n cs) ≡ length cs
length-lowered n [] = refl
length-lowered n (c ∷ cs) = let r = length-lowered n cs in omega arith

pub exchanges-lowered : (n : ℕ) (cs : List (ℕ × Change)) → exchanges_in (lowered n cs) ≡ exchanges_in cs
exchanges-lowered n [] = refl
exchanges-lowered n (c ∷ cs) = ap (λ (z : List Exchange). exchange_in c.1 ∷ z) (exchanges-lowered n cs)

pub deep-lowered : (n : ℕ) (cs : List (ℕ × Change)) → AreDeep (n + 1) cs → AreDeep 1 (lowered n cs)
deep-lowered n [] d = tt
deep-lowered n (c ∷ cs) d = let f : n + 1 ≤ c.0 = d.0 in (let e : 1 ≤ c.0 - n = omega arith in e, deep-lowered n cs d.1)

pub at-lowered : (n : ℕ) (cs : List (ℕ × Change)) → AreAt n cs → AreAt 0 (lowered n cs)
at-lowered n [] d = tt
at-lowered n (c ∷ cs) d = let f : c.0 ≡ n = d.0 in (let e : c.0 - n ≡ 0 = omega arith in e, at-lowered n cs d.1)

pub deep-zero : (cs : List (ℕ × Change)) → AreDeep 0 cs
deep-zero [] = tt
deep-zero (c ∷ cs) = (let e : 0 ≤ c.0 = omega arith in e, deep-zero cs)

-- from the root down, with nothing removed yet
pub edits-root : (cs : List (ℕ × Change)) (t : Node) (path : List ℕ) (out : List Node) → out ≡ [] → edits (lowered 0 cs) (site t path out) ≡ edits cs (site t path [])
edits-root cs t path out none = λ i. edits (lowered-zero cs i) (site t path (none i))

pub fits-root : (cs : List (ℕ × Change)) (t : Node) (path : List ℕ) (out : List Node) → out ≡ [] → FitEach cs (site t path []) → FitEach (lowered 0 cs) (site t path out)
fits-root cs t path out none fits = subst (λ (z : List (ℕ × Change) × List Node). FitEach z.0 (site t path z.1)) (λ i. (sym (lowered-zero cs) i, sym none i)) fits

pub never-take : (m k : ℕ) (cs : List (ℕ × Change)) → NeverDeeper m cs → NeverDeeper m (take k cs)
never-take m zero cs o = tt
never-take m (suc k) [] o = tt
never-take m (suc k) (c ∷ cs) o = (o.0, never-take c.0 k cs o.1)

pub deep-take : (n k : ℕ) (cs : List (ℕ × Change)) (c : ℕ × Change) → AreDeep n (take k cs) → k < length cs → n ≤ (get_or cs k c).0 → AreDeep n (take (k + 1) cs)
deep-take n k [] c d l le = absurd (omega arith)
deep-take n zero (x ∷ cs) c d l le = (le, tt)
deep-take n (suc k) (x ∷ cs) c d l le =
    let e : suc (k + 1) ≡ suc k + 1 = omega arith in
    subst (λ (z : ℕ). AreDeep n (take z (x ∷ cs))) e (d.0, deep-take n k cs c d.1 (omega arith) le)

-- where the first lies no deeper than all may, all lie there
pub at_from : (n m : ℕ) (cs : List (ℕ × Change)) → AreDeep n cs → NeverDeeper m cs → m ≤ n → AreAt n cs
at_from n m [] d o le = tt
at_from n m (c ∷ cs) d o le = let f : n ≤ c.0 = d.0 in let g : c.0 ≤ m = o.0 in (let e : c.0 ≡ n = omega arith in e, at_from n c.0 cs d.1 o.1 (omega arith))

pub deep-drop : (n k : ℕ) (cs : List (ℕ × Change)) → AreDeep n cs → AreDeep n (drop k cs)
deep-drop n zero cs d = d
deep-drop n (suc k) [] d = tt
deep-drop n (suc k) (c ∷ cs) d = deep-drop n k cs d.1

-- from the place of a change that lies no deeper than this on, none does
pub here_from : (n m k : ℕ) (cs : List (ℕ × Change)) (c : ℕ × Change) → AreDeep n cs → NeverDeeper m cs → k < length cs → (get_or cs k c).0 ≤ n → AreAt n (drop k cs)
here_from n m k [] c d o l le = absurd (omega arith)
here_from n m zero (x ∷ cs) c d o l le = at_from n x.0 (x ∷ cs) d (let e : x.0 ≤ x.0 = omega arith in e, o.1) le
here_from n m (suc k) (x ∷ cs) c d o l le = here_from n x.0 k cs c d.1 o.1 (omega arith) le

-- ---- at a flat
abbrev pub flat_at : ℕ → ℕ → List ℕ → ℕ → Node
flat_at n l bytes room = (record { number = n; kind = kinds.Flat; length = l; bytes = bytes; more = room }, empty)

pub flat_fits : (cs : List (ℕ × Change)) (n l r : ℕ) (bytes : List ℕ) (room : ℕ) (path : List ℕ) (out : List Node) → l ≡ length bytes → r ≡ room → FitEach cs (site (flat_at n l bytes r) path out) → FitAllBytes cs bytes room
flat_fits [] n l r bytes room path out e f fits = tt
flat_fits ((zero, Fill more) ∷ cs) n l r bytes room path out e f fits =
    let fit = fits.0.1 in (
      let g : length more.items ≤ room = omega arith in g,
      flat_fits cs n (l + length more.items) (r - length more.items) (bytes ++ more.items) (room - length more.items) path out
          (omega (arith, length-append bytes more.items, e)) (omega arith) fits.1,
    )
flat_fits ((zero, Shorten k) ∷ cs) n l r bytes room path out e f fits =
    let less = fits.0.1.0 in
    let capacity = fits.0.1.1 in (
      (let g : k ≤ length bytes = omega arith in g, let h : room + length bytes < 2 ^ 32 = omega arith in h),
      flat_fits cs n k (r + (l - k)) (take k bytes) (room + (length bytes - k)) path out (omega (arith, length-take k bytes, less, e)) (omega arith) fits.1,
    )
flat_fits ((zero, Add side es) ∷ cs) n l r bytes room path out e f fits = absurd (let b = fits.0.0.0.branch in cc)
flat_fits ((zero, Drop side k) ∷ cs) n l r bytes room path out e f fits = absurd (let b = fits.0.0.0.branch in cc)
flat_fits ((zero, Swap side x) ∷ cs) n l r bytes room path out e f fits = absurd (let b = fits.0.0.0.branch in cc)
flat_fits ((suc d, c) ∷ cs) n l r bytes room [] out e f fits = absurd fits.0.0
flat_fits ((suc d, c) ∷ cs) n l r bytes room (p ∷ ps) out e f fits = absurd (let b = fits.0.0 in cc)

pub flat_edits : (cs : List (ℕ × Change)) (n l r : ℕ) (bytes : List ℕ) (room : ℕ) (path : List ℕ) (out : List Node) → l ≡ length bytes → r ≡ room → FitEach cs (site (flat_at n l bytes r) path out)
    → edits cs (site (flat_at n l bytes r) path out) ≡ site (flat_at n (length (all_bytes cs bytes)) (all_bytes cs bytes) (all_room cs bytes room)) path out
flat_edits [] n l r bytes room path out e f fits = λ i. site (flat_at n (e i) bytes (f i)) path out
flat_edits ((zero, Fill more) ∷ cs) n l r bytes room path out e f fits =
    flat_edits cs n (l + length more.items) (r - length more.items) (bytes ++ more.items) (room - length more.items) path out
    (omega (arith, length-append bytes more.items, e)) (omega arith) fits.1
flat_edits ((zero, Shorten k) ∷ cs) n l r bytes room path out e f fits =
    let less = fits.0.1.0 in
    flat_edits cs n k (r + (l - k)) (take k bytes) (room + (length bytes - k)) path out (omega (arith, length-take k bytes, less, e)) (omega arith) fits.1
flat_edits ((zero, Add side es) ∷ cs) n l r bytes room path out e f fits = absurd (let b = fits.0.0.0.branch in cc)
flat_edits ((zero, Drop side k) ∷ cs) n l r bytes room path out e f fits = absurd (let b = fits.0.0.0.branch in cc)
flat_edits ((zero, Swap side x) ∷ cs) n l r bytes room path out e f fits = absurd (let b = fits.0.0.0.branch in cc)
flat_edits ((suc d, c) ∷ cs) n l r bytes room [] out e f fits = absurd fits.0.0
flat_edits ((suc d, c) ∷ cs) n l r bytes room (p ∷ ps) out e f fits = absurd (let b = fits.0.0 in cc)

pub bytes-lowered : (n : ℕ) (cs : List (ℕ × Change)) (bytes : List ℕ) → all_bytes (lowered n cs) bytes ≡ all_bytes cs bytes
bytes-lowered n [] bytes = refl
bytes-lowered n (c ∷ cs) bytes = bytes-lowered n cs _

pub room-lowered : (n : ℕ) (cs : List (ℕ × Change)) (bytes : List ℕ) (room : ℕ) → all_room (lowered n cs) bytes room ≡ all_room cs bytes room
room-lowered n [] bytes room = refl
room-lowered n (c ∷ cs) bytes room = room-lowered n cs _ _

pub fit-lowered : (n : ℕ) (cs : List (ℕ × Change)) (bytes : List ℕ) (room : ℕ) → FitAllBytes (lowered n cs) bytes room → FitAllBytes cs bytes room
fit-lowered n [] bytes room f = tt
fit-lowered n (c ∷ cs) bytes room f = (f.0, fit-lowered n cs _ _ f.1)

-- ---- at a Branch: trees after a change
-- the length is the sum of the edges'
abbrev pub IsSummed : Node → Type 0
IsSummed t = t ≡ with_edges (children t) t

pub summed-edges : (es : List Node) (t : Node) → IsSummed (with_edges es t)
summed-edges es t = ap (λ (z : List Node). with_edges z t) (sym (trees-forest es))

pub record IsFit (t : Node) : Type 0 where
  pub branch : t.0.kind ≡ kinds.Branch
  pub short : t.0.length < 2 ^ 63
  pub some : 0 < length (children t)
  pub few : length (children t) ≤ 6

fit_exchanged : (x : Exchange) (t : Node) (path : List ℕ) (out : List Node) → IsFit t → FitsBranch x t path → IsFit (exchanged x (site t path out)).tree
fit_exchanged x t path out is fits =
    let e = edges_after x (children t) in
    let long : length (children (with_edges e t)) ≡ length e = ap (λ (z : List Node). length z) (trees-forest e) in
    let some = fits.some in
    let few = fits.few in
    record { branch = is.branch; short = fits.short; some = omega arith; few = omega arith }

fit_edit : (e : Edit) (d : ℕ) (t : Node) (path : List ℕ) (out : List Node) → IsFit t → FitsAt e d t path → IsFit (edit e d t path out).tree
fit_edit (resize long bytes room) zero t path out is fits = absurd (let a = is.branch in let b = fits.0.flat in let e = sym a ∙ b in cc)
fit_edit (exchange x) zero t path out is fits = fit_exchanged x t path out is fits.0
fit_edit e (suc d) t [] out is fits = absurd fits
fit_edit e (suc d) t (p ∷ ps) out is fits =
    let a = (edit e d (child_of t p) ps out).tree in
    let same = ap (λ (z : Node). total (set (children t) p z)) (edit_tree e d (child_of t p) ps out []) in
    let long : length (children (with_edges (set (children t) p a) t)) ≡ length (set (children t) p a) = ap (λ (z : List Node). length z) (trees-forest (set (children t) p a)) in
    let kept = length-set (children t) p a in
    let short = fits.3 in
    let some = is.some in
    let few = is.few in
    record { branch = is.branch; short = omega arith; some = omega arith; few = omega arith }

pub fit_edits : (cs : List (ℕ × Change)) (s : Site) → IsFit s.tree → FitEach cs s → IsFit (edits cs s).tree
fit_edits [] s is fits = is
fit_edits (c ∷ cs) s is fits = fit_edits cs (change_at c.1 c.0 s) (fit_edit (edit_of c.1 (at_depth c.0 s.tree s.path)) c.0 s.tree s.path s.out is fits.0.0) fits.1

-- ---- at a Branch: changes below it
pub no_path : (cs : List (ℕ × Change)) (t : Node) (out : List Node) → 0 < length cs → AreDeep 1 cs → FitEach cs (site t [] out) → ⊥
no_path [] t out some deep fits = absurd (omega arith)
no_path ((zero, c) ∷ cs) t out some deep fits = absurd (let e : 1 ≤ 0 = deep.0 in omega arith)
no_path ((suc d, c) ∷ cs) t out some deep fits = fits.0.0

pub in_kids : (cs : List (ℕ × Change)) (t : Node) (p : ℕ) (ps : List ℕ) (out : List Node) → 0 < length cs → AreDeep 1 cs → FitEach cs (site t (p ∷ ps) out) → p < length (children t)
in_kids [] t p ps out some deep fits = absurd (omega arith)
in_kids ((zero, c) ∷ cs) t p ps out some deep fits = absurd (let e : 1 ≤ 0 = deep.0 in omega arith)
in_kids ((suc d, c) ∷ cs) t p ps out some deep fits = fits.0.0.1

set-get_or : (xs : List Node) (i : ℕ) (d : Node) → set xs i (get_or xs i d) ≡ xs
set-get_or [] i d = refl
set-get_or (x ∷ xs) zero d = refl
set-get_or (x ∷ xs) (suc i) d = ap (λ (z : List Node). x ∷ z) (set-get_or xs i d)

set-twice : (xs : List Node) (i : ℕ) (a b : Node) → set (set xs i a) i b ≡ set xs i b
set-twice [] i a b = refl
set-twice (x ∷ xs) zero a b = refl
set-twice (x ∷ xs) (suc i) a b = ap (λ (z : List Node). x ∷ z) (set-twice xs i a b)

raised-raised : (t : Node) (p : ℕ) (s r : Site) → raised (raised t p s).tree p r ≡ raised t p r
raised-raised t p s r =
    ap (λ (z : List Node). site (with_edges z t) (p ∷ r.path) r.out)
    (ap (λ (z : List Node). set z p r.tree) (trees-forest (set (children t) p s.tree)) ∙ set-twice (children t) p s.tree r.tree)

pub deeper-edits : (cs : List (ℕ × Change)) (t : Node) (p : ℕ) (ps : List ℕ) (out : List Node) → AreDeep 1 cs → IsSummed t → p < length (children t)
    → edits cs (site t (p ∷ ps) out) ≡ raised t p (edits (lowered 1 cs) (site (child_of t p) ps out))
deeper-edits [] t p ps out deep sum l = ap (λ (z : Node). site z (p ∷ ps) out) (sum ∙ ap (λ (z : List Node). with_edges z t) (sym (set-get_or (children t) p t)))
deeper-edits ((zero, c) ∷ cs) t p ps out deep sum l = absurd (let e : 1 ≤ 0 = deep.0 in omega arith)
deeper-edits ((suc d, c) ∷ cs) t p ps out deep sum l =
    let s = change_at c d (site (child_of t p) ps out) in
    let u = (raised t p s).tree in
    let e : d ≡ suc d - 1 = omega arith in
    deeper-edits cs u p s.path s.out deep.1 (summed-edges (set (children t) p s.tree) t) (raised_within t p s l)
    ∙ (raised-raised t p s (edits (lowered 1 cs) (site (child_of u p) s.path s.out))
    ∙ (ap (λ (z : Node). raised t p (edits (lowered 1 cs) (site z s.path s.out))) (raised_child t p s l)
    ∙ ap (λ (z : ℕ). raised t p (edits (lowered 1 cs) (change_at c z (site (child_of t p) ps out)))) e))

pub deeper-fits : (cs : List (ℕ × Change)) (t : Node) (p : ℕ) (ps : List ℕ) (out : List Node) → AreDeep 1 cs → p < length (children t)
    → FitEach cs (site t (p ∷ ps) out) → FitEach (lowered 1 cs) (site (child_of t p) ps out)
deeper-fits [] t p ps out deep l fits = tt
deeper-fits ((zero, c) ∷ cs) t p ps out deep l fits = absurd (let e : 1 ≤ 0 = deep.0 in omega arith)
deeper-fits ((suc d, c) ∷ cs) t p ps out deep l fits =
    let s = change_at c d (site (child_of t p) ps out) in
    let u = (raised t p s).tree in
    let e : d ≡ suc d - 1 = omega arith in
    let later = deeper-fits cs u p s.path s.out deep.1 (raised_within t p s l) fits.1 in
    let rest : FitEach (lowered 1 cs) s = subst (λ (z : Node). FitEach (lowered 1 cs) (site z s.path s.out)) (raised_child t p s l) later in
    subst (λ (z : ℕ). ChangeFits c z (site (child_of t p) ps out) × FitEach (lowered 1 cs) (change_at c z (site (child_of t p) ps out))) e ((fits.0.0.2, fits.0.1), rest)

-- ---- at a Branch: changes of its own edges
-- the end of changes of a Branch's own edges
pub record IsOwn (xs : List Exchange) (s end : Site) : Type 0 where
  pub can : CanExchange xs (children s.tree)
  pub tree : end.tree ≡ with_edges (all_after xs (children s.tree)) s.tree
  pub out : end.out ≡ all_out xs (children s.tree) s.out

own_step : (x : Exchange) (xs : List Exchange) (s end : Site) → FitsBranch x s.tree s.path → IsOwn xs (exchanged x s) end → IsOwn (x ∷ xs) s end
own_step x xs s end fits later =
    let e = edges_after x (children s.tree) in
    let kids = trees-forest e in
    record {
      can = (fits.enough, fits.few, subst (λ (z : List Node). CanExchange xs z) kids later.can);
      tree = later.tree ∙ ap (λ (z : List Node). with_edges (all_after xs z) s.tree) kids;
      out = later.out ∙ ap (λ (z : List Node). all_out xs z (exchanged x s).out) kids;
    }

pub own : (cs : List (ℕ × Change)) (s : Site) → AreAt 0 cs → s.tree.0.kind ≡ kinds.Branch → IsSummed s.tree → FitEach cs s → IsOwn (exchanges_in cs) s (edits cs s)
own [] s at branch sum fits = record { can = tt; tree = sum; out = refl }
own ((zero, Fill more) ∷ cs) s at branch sum fits = absurd (let b = fits.0.0.0.flat in let e = sym branch ∙ b in cc)
own ((zero, Shorten n) ∷ cs) s at branch sum fits = absurd (let b = fits.0.0.0.flat in let e = sym branch ∙ b in cc)
own ((zero, Add side es) ∷ cs) s at branch sum fits =
    let x = exchange_in (Add side es) in
    own_step x (exchanges_in cs) s (edits cs (exchanged x s)) fits.0.0.0 (own cs (exchanged x s) at.1 branch (summed-edges (edges_after x (children s.tree)) s.tree) fits.1)
own ((zero, Drop side n) ∷ cs) s at branch sum fits =
    let x = exchange_in (Drop side n) in
    own_step x (exchanges_in cs) s (edits cs (exchanged x s)) fits.0.0.0 (own cs (exchanged x s) at.1 branch (summed-edges (edges_after x (children s.tree)) s.tree) fits.1)
own ((zero, Swap side y) ∷ cs) s at branch sum fits =
    let x = exchange_in (Swap side y) in
    own_step x (exchanges_in cs) s (edits cs (exchanged x s)) fits.0.0.0 (own cs (exchanged x s) at.1 branch (summed-edges (edges_after x (children s.tree)) s.tree) fits.1)
own ((suc d, c) ∷ cs) s at branch sum fits = absurd (let e : suc d ≡ 0 = at.0 in omega arith)

-- what may go is what goes
pub count-most : (cs : List (ℕ × Change)) (es : List Node) → length es ≤ 6 → CanExchange (exchanges_in cs) es → all_count (exchanges_in cs) ≡ most_out cs
count-most [] es few can = refl
count-most (c ∷ cs) es few can =
    let r = count-most cs (edges_after (exchange_in c.1) es) can.1 can.2 in
    let l = can.0 in
    omega arith

-- ---- a Branch with its edges
abbrev pub branch_at : ℕ → ℕ → ℕ → List Node → Node
branch_at n l h es = (record { number = n; kind = kinds.Branch; length = l; bytes = []; more = h }, forest es)

-- what exchanges make of a Branch with these edges
pub record IsMadeBy (n h : ℕ) (xs : List Exchange) (es before : List Node) (end : Site) : Type 0 where
  pub can : CanExchange xs es
  pub tree : branch_at n (total (all_after xs es)) h (all_after xs es) ≡ end.tree
  pub out : all_out xs es before ≡ end.out
  pub short : total (all_after xs es) < 2 ^ 63
  pub some : 0 < length (all_after xs es)
  pub few : length (all_after xs es) ≤ 6

pub made_own : (cs : List (ℕ × Change)) (n h : ℕ) (es : List Node) (path : List ℕ) (out : List Node) → AreAt 0 cs → IsFit (branch_at n (total es) h es) → FitEach cs (site (branch_at n (total es) h es) path out)
    → IsMadeBy n h (exchanges_in cs) es out (edits cs (site (branch_at n (total es) h es) path out))
made_own cs n h es path out at is fits =
    let t = branch_at n (total es) h es in
    let s = site t path out in
    let kids : children t ≡ es = trees-forest es in
    let sum : IsSummed t = ap (λ (z : List Node). branch_at n (total z) h z) (sym kids) in
    let o = own cs s at refl sum fits in
    let f = fit_edits cs s is fits in
    let xs = exchanges_in cs in
    let made : (edits cs s).tree ≡ branch_at n (total (all_after xs es)) h (all_after xs es) = o.tree ∙ ap (λ (z : List Node). branch_at n (total (all_after xs z)) h (all_after xs z)) kids in
    let long : length (children (edits cs s).tree) ≡ length (all_after xs es) = ap (λ (z : Node). length (children z)) made ∙ ap (λ (z : List Node). length z) (trees-forest (all_after xs es)) in
    let sum_ : (edits cs s).tree.0.length ≡ total (all_after xs es) = ap (λ (z : Node). z.0.length) made in
    let short = f.short in
    let some = f.some in
    let few = f.few in
    record {
      can = subst (λ (z : List Node). CanExchange xs z) kids o.can;
      tree = sym made;
      out = sym (o.out ∙ ap (λ (z : List Node). all_out xs z out) kids);
      short = omega arith;
      some = omega arith;
      few = omega arith;
    }
