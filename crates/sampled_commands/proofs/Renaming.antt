-- Names that are set twice, and set to what they were.
use Rattle.std.proofs.Common.{◌≡◌, ◌∙◌, sym, ap, refl, ℕ, List, Option, Some, Bool, true, false, Result, Ok, Err}
use Rattle.std.specs.Prelude.{if◌then◌else◌, OnErr}
use Rattle.std.specs.Str.{bytes_eq}
use Rattle.std.proofs.lemmas.Bool.{cond_both}
use Rattle.std.proofs.lemmas.Slice.Eq.{bytes_eq-Decides}
use Rattle.ordered_names.specs.declared.names.Names.{Names}
use Rattle.ordered_names.specs.Named.{named}
use Rattle.sampled_commands.specs.Views.{SessionCordView, no_session_cord, AreSame, IsSetTo}

over : (b : Bool) (first second was : Option SessionCordView) → (if b then second else (if b then first else was)) ≡ (if b then second else was)
over true first second was = refl
over false first second was = refl

-- the second counts
pub set-twice : (old mid new : Names SessionCordView) (a : List ℕ) (c d : SessionCordView) → IsSetTo old mid a c → IsSetTo mid new a d → IsSetTo old new a d
set-twice old mid new a c d one two = λ q. two q ∙ (ap (λ (o : Option SessionCordView). if bytes_eq a q then Some d else o) (one q) ∙ over (bytes_eq a q) (Some c) (Some d) (named old q))

pub set-same : (old new : Names SessionCordView) (a : List ℕ) (c d : SessionCordView) → named old a ≡ Some c → d ≡ c → IsSetTo old new a d → AreSame old new
set-same old new a c d is same set = λ q. set q ∙ cond_both (bytes_eq a q) (Some d) (named old q) (λ (o : Option SessionCordView). o ≡ named old q)
    (λ yes. ap (λ (z : SessionCordView). Some z) same ∙ (sym is ∙ ap (named old) ((bytes_eq-Decides a q).0 yes))) (λ no. refl)

pub same-then : (old mid new : Names SessionCordView) → AreSame old mid → AreSame mid new → AreSame old new
same-then old mid new one two = λ q. two q ∙ one q

pub same-set : (old mid new : Names SessionCordView) (a : List ℕ) (c : SessionCordView) → AreSame old mid → IsSetTo mid new a c → IsSetTo old new a c
same-set old mid new a c one two = λ q. two q ∙ ap (λ (o : Option SessionCordView). if bytes_eq a q then Some c else o) (one q)

-- a name that is set is found
pub set-found : (old new : Names SessionCordView) (a : List ℕ) (c : SessionCordView) → IsSetTo old new a c → named new a ≡ Some c
set-found old new a c set = set a ∙ ap (λ (b : Bool). if b then Some c else named old a) ((bytes_eq-Decides a a).1 refl)

-- what holds where there is an error
pub err-weaker : {T E : Type 0} (r : Result T E) (K L : Type 0) → (K → L) → OnErr r K → OnErr r L
err-weaker (Ok x) K L f k = tt
err-weaker (Err x) K L f k = f k

-- another name stands for what it stood for
pub set-beside : (old new : Names SessionCordView) (a b : List ℕ) (c : SessionCordView) → IsSetTo old new a c → bytes_eq a b ≡ false → named old b ≡ named new b
set-beside old new a b c set apart = sym (set b ∙ ap (λ (z : Bool). if z then Some c else named old b) apart)

-- two names whose cords were taken out, one after the other; the second was put back as it was, and then the first got a cord
pub joined-set : (n0 n1 n2 n3 n4 : Names SessionCordView) (a b : List ℕ) (d c' d' : SessionCordView) → named n1 b ≡ Some d → IsSetTo n0 n1 a no_session_cord → IsSetTo n1 n2 b no_session_cord → IsSetTo n2 n3 b d'
    → IsSetTo n3 n4 a c' → d' ≡ d → IsSetTo n0 n4 a c'
joined-set n0 n1 n2 n3 n4 a b d c' d' two out out' back back' same' =
    let inner = set-same n1 n3 b d d' two same' (set-twice n1 n2 n3 b no_session_cord d' out' back) in
    set-twice n0 n1 n4 a no_session_cord c' out (same-set n1 n3 n4 a c' inner back')

pub joined-same : (n0 n1 n2 n3 n4 : Names SessionCordView) (a b : List ℕ) (c d c' d' : SessionCordView) → named n0 a ≡ Some c → named n1 b ≡ Some d → IsSetTo n0 n1 a no_session_cord → IsSetTo n1 n2 b no_session_cord
    → IsSetTo n2 n3 b d' → IsSetTo n3 n4 a c' → c' ≡ c → d' ≡ d → AreSame n0 n4
joined-same n0 n1 n2 n3 n4 a b c d c' d' one two out out' back back' same same' = set-same n0 n4 a c c' one same (joined-set n0 n1 n2 n3 n4 a b d c' d' two out out' back back' same')
