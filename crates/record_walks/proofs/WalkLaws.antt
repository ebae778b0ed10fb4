-- A walk as far as it has come.
use Rattle.std.proofs.Common.{◌≡◌, ◌<◌, ℕ, List, [], ◌∷◌, ◌++◌, Bool, true, false, Option, Some, None, refl, sym, ap, ◌∙◌, subst, append-nil, append_assoc, arith, eq-eqb}
use Rattle.std.specs.Prelude.{◌||◌, ◌==◌, reverse, IfSome}
use Rattle.std.proofs.lemmas.List.{reverse-append}
use Rattle.plain_cord.specs.declared.reply.Report.{Report}
use Rattle.cordz_core.specs.Queue.{has}
use Rattle.record_rule.specs.declared.views.Deed.TheVariants.{Snap, Head, Next}
use Rattle.record_rule.specs.declared.views.Noted.{Noted}
use Rattle.record_rule.specs.declared.views.TokenView.{TokenView}
use Rattle.record_rule.specs.Log.{walk_of, found_on}
use Rattle.record_rule.specs.Views.{done, reading, HasDone}
use Rattle.record_walks.specs.Reports.{Tells, TellAll, HasReported}
use Rattle.record_walks.specs.Walks.{RunsFrom, Runs, IsWalk}
use Rattle.record_walks.specs.Works.{IsBegun, HasOnlyRead}

-- ---- what a token does
pub begins : (p q : TokenView) → HasDone p q (Snap p.number) → IsBegun p q
begins p q d = subst (IsBegun p) (sym d.1) record {
  did = (d.0, refl);
  walking = refl;
  works = record {
    links = record { reserved = refl; tracks = omega arith; unlinks = omega arith; settles = omega arith };
    frees = omega arith;
    deleted = omega arith;
  };
  claims = refl;
  knows = record { number = refl; reads = refl; untracked = refl; shown = refl };
}

pub only-head : (p q : TokenView) (answer : Option ℕ) → HasDone p q (Head answer) → HasOnlyRead p q
only-head p q answer d = subst (HasOnlyRead p) (sym d.1) record {
  walking = refl;
  history = refl;
  works = record {
    links = record { reserved = refl; tracks = omega arith; unlinks = omega arith; settles = omega arith };
    frees = omega arith;
    deleted = omega arith;
  };
  number = refl;
  claims = refl;
  untracked = refl;
  shown = refl;
}

pub only-next : (p q : TokenView) (s : ℕ) (answer : Option ℕ) → HasDone p q (Next s answer) → HasOnlyRead p q
only-next p q s answer d = subst (HasOnlyRead p) (sym d.1) record {
  walking = refl;
  history = refl;
  works = record {
    links = record { reserved = refl; tracks = omega arith; unlinks = omega arith; settles = omega arith };
    frees = omega arith;
    deleted = omega arith;
  };
  number = refl;
  claims = refl;
  untracked = refl;
  shown = refl;
}

only-reading : (p : TokenView) (n : Noted) → HasOnlyRead p (reading n p)
only-reading p n = record {
  walking = refl;
  history = refl;
  works = record {
    links = record { reserved = refl; tracks = refl; unlinks = refl; settles = refl };
    frees = refl;
    deleted = refl;
  };
  number = refl;
  claims = refl;
  untracked = refl;
  shown = refl;
}

pub only-reported : (r : Report) (p q : TokenView) → HasReported r p q → HasOnlyRead p q
only-reported r p q h = subst (HasOnlyRead p) (sym h.2) (only-reading p h.0)

pub only-same : (p q : TokenView) → q ≡ p → HasOnlyRead p q
only-same p q e = subst (HasOnlyRead p) (sym e) record {
  walking = refl;
  history = refl;
  works = record {
    links = record { reserved = refl; tracks = refl; unlinks = refl; settles = refl };
    frees = refl;
    deleted = refl;
  };
  number = refl;
  claims = refl;
  untracked = refl;
  shown = refl;
}

pub only-then : (p q r : TokenView) → HasOnlyRead p q → HasOnlyRead q r → HasOnlyRead p r
only-then p q r a b = record {
  walking = b.walking ∙ a.walking;
  history = b.history ∙ a.history;
  works = record {
    links = record {
      reserved = b.works.links.reserved ∙ a.works.links.reserved;
      tracks = b.works.links.tracks ∙ a.works.links.tracks;
      unlinks = b.works.links.unlinks ∙ a.works.links.unlinks;
      settles = b.works.links.settles ∙ a.works.links.settles;
    };
    frees = b.works.frees ∙ a.works.frees;
    deleted = b.works.deleted ∙ a.works.deleted;
  };
  number = b.number ∙ a.number;
  claims = b.claims ∙ a.claims;
  untracked = b.untracked ∙ a.untracked;
  shown = b.shown ∙ a.shown;
}

-- ---- which slots the walk has
either_true : (a b : Bool) → a ≡ true → a || b ≡ true
either_true true b e = refl
either_true false b e = absurd (cc)

pub found-has : (answer : Option ℕ) (walk : List ℕ) → IfSome answer (λ s. has s (found_on answer walk) ≡ true)
found-has None walk = tt
found-has (Some s) walk = either_true (s == s) (has s walk) (eq-eqb s s refl)

-- ---- how far it has come: what follows from the answer on completes it
pub record WalksTo (answer : Option ℕ) (reports : List Report) (p q : TokenView) : Type 0 where
  pub notes : List Noted
  pub told : TellAll reports notes
  pub runs : (rest : List Noted) (r : TokenView) → RunsFrom answer rest q r → Runs (notes ++ rest) p r
  pub reads : q.reads ≡ reverse notes ++ p.reads

pub walks-first : (answer : Option ℕ) (reports : List Report) (p q : TokenView) → reports ≡ [] → HasDone p q (Head answer) → WalksTo answer reports p q
walks-first answer reports p q none d = subst (λ (rs : List Report). WalksTo answer rs p q) (sym none) record {
  notes = [];
  told = tt;
  runs = λ rest r k. (d.0, answer, subst (λ (z : TokenView). RunsFrom answer rest z r) d.1 k);
  reads = ap (λ (z : TokenView). z.reads) d.1;
}

tell-more : (rs : List Report) (ns : List Noted) (r : Report) (n : Noted) → TellAll rs ns → Tells r n → TellAll (rs ++ r ∷ []) (ns ++ n ∷ [])
tell-more [] [] r n all one = (one, tt)
tell-more [] (m ∷ ns) r n all one = absurd all
tell-more (q ∷ rs) [] r n all one = absurd all
tell-more (q ∷ rs) (m ∷ ns) r n all one = (all.0, tell-more rs ns r n all.1 one)

pub walks-on : (s : ℕ) (answer : Option ℕ) (reports : List Report) (r : Report) (p a b c : TokenView) → WalksTo (Some s) reports p a → HasReported r a b → HasDone b c (Next s answer) → WalksTo answer (reports ++ r ∷ []) p c
walks-on s answer reports r p a b c w h d =
    let n = h.0 in
    let is : c ≡ done d.0 (Next s answer) (reading n a) = d.1 ∙ ap (done d.0 (Next s answer)) h.2 in
    record {
      notes = w.notes ++ n ∷ [];
      told = tell-more reports w.notes r n w.told h.1;
      runs = λ rest z k.
          subst (λ (ns : List Noted). Runs ns p z) (sym (append_assoc w.notes (n ∷ []) rest)) (w.runs (n ∷ rest) z (d.0, answer, subst (λ (x : TokenView). RunsFrom answer rest x z) is k));
      reads = ap (λ (x : TokenView). x.reads) is ∙ (ap (λ (ns : List Noted). n ∷ ns) w.reads ∙ ap (λ (ns : List Noted). ns ++ p.reads) (sym (reverse-append w.notes (n ∷ []))));
    }

pub walks-done : (answer : Option ℕ) (reports : List Report) (p q : TokenView) → answer ≡ None → WalksTo answer reports p q → IsWalk reports p q
walks-done answer reports p q none w = record {
  notes = w.notes;
  told = w.told;
  runs = subst (λ (ns : List Noted). Runs ns p q) (append-nil w.notes) (w.runs [] q (subst (λ (o : Option ℕ). RunsFrom o [] q q) (sym none) refl));
  reads = w.reads;
}

-- ---- the slot that was given last
abbrev pub IsGiven : Option ℕ → TokenView → Type 0
IsGiven answer p = IfSome answer (λ s. (s < 256) × (has s (walk_of p.own) ≡ true))

pub given-first : (answer : Option ℕ) (p q : TokenView) → IfSome answer (λ s. s < 256) → HasDone p q (Head answer) → IsGiven answer q
given-first None p q small d = tt
given-first (Some s) p q small d = (small, subst (λ (z : TokenView). has s (walk_of z.own) ≡ true) (sym d.1) (found-has (Some s) []))

pub given-next : (answer : Option ℕ) (p q : TokenView) (t : ℕ) → IfSome answer (λ s. s < 256) → HasDone p q (Next t answer) → IsGiven answer q
given-next None p q t small d = tt
given-next (Some s) p q t small d = (small, subst (λ (z : TokenView). has s (walk_of z.own) ≡ true) (sym d.1) (found-has (Some s) (walk_of p.own)))

-- reading changes no entry
pub reported-own : (r : Report) (p q : TokenView) → HasReported r p q → q.own ≡ p.own
reported-own r p q h = ap (λ (z : TokenView). z.own) h.2
