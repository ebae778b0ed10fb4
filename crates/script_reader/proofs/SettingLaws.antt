-- Options in any order, each at most once.
use Rattle.std.proofs.Common.{◌≡◌, ℕ, List, [], ◌∷◌, ◌++◌, Option, Some, None, Ok, refl, sym, ap, ◌∙◌, subst, inl, inr}
use Rattle.std.specs.Prelude.{unwrap_or}
use Rattle.std.proofs.lemmas.List.{append-nil}
use Rattle.plain_cord.specs.declared.script.Script.{Script}
use Rattle.script_words.specs.declared.verbs.Setting.{Setting}
use Rattle.script_words.specs.declared.verbs.Setting.TheVariants as settings
use Rattle.script_reader.specs.declared.progress.Settings.{Settings}
use Rattle.script_reader.specs.Scripts.{once, chosen, no_settings}
use Rattle.script_reader.specs.ScriptSpelling.{put, numbers, pool_number, passes_number, stride_number, IsGiven, AreGiven}

-- none, or one
abbrev pub IsOnce : List ℕ → Option ℕ → Type 0
IsOnce ns None = ns ≡ []
IsOnce ns (Some n) = ns ≡ n ∷ []

pub record AreOnce (options : List Setting) (g : Settings) : Type 0 where
  pub pool : IsOnce (numbers pool_number options) g.pool
  pub passes : IsOnce (numbers passes_number options) g.passes
  pub stride : IsOnce (numbers stride_number options) g.stride

-- ---- what is spelled is read

-- what is given already, and what is still to come, make what is given in the end
abbrev pub Joins : Option ℕ → List ℕ → Option ℕ → Type 0
Joins None ns end = IsOnce ns end
Joins (Some m) ns end = (ns ≡ []) × (end ≡ Some m)

pub record Goes (g : Settings) (options : List Setting) (end : Settings) : Type 0 where
  pub pool : Joins g.pool (numbers pool_number options) end.pool
  pub passes : Joins g.passes (numbers passes_number options) end.passes
  pub stride : Joins g.stride (numbers stride_number options) end.stride

-- a number comes
arrives : (o : Option ℕ) (n : ℕ) (ns : List ℕ) (end : Option ℕ) → Joins o (n ∷ ns) end → (o ≡ None) × Joins (Some n) ns end
arrives None n ns None h = absurd cc
arrives None n ns (Some e) h = (refl, (let x : ns ≡ [] = cc in x, let y : n ≡ e = cc in ap (λ (k : ℕ). Some k) (sym y)))
arrives (Some m) n ns end h = absurd (let e : n ∷ ns ≡ [] = h.0 in cc)

settled : (o end : Option ℕ) → Joins o [] end → o ≡ end
settled None None h = refl
settled None (Some e) h = absurd cc
settled (Some m) end h = sym h.1

pub goes_nowhere : (g end : Settings) → Goes g [] end → g ≡ end
goes_nowhere g end h =
    ap (λ (x : Option ℕ). let s : Settings = record { pool = x; passes = g.passes; stride = g.stride } in s) (settled g.pool end.pool h.pool)
    ∙ ap (λ (x : Option ℕ). let s : Settings = record { pool = end.pool; passes = x; stride = g.stride } in s) (settled g.passes end.passes h.passes)
    ∙ ap (λ (x : Option ℕ). let s : Settings = record { pool = end.pool; passes = end.passes; stride = x } in s) (settled g.stride end.stride h.stride)

once_new : {A : Type 0} (o : Option ℕ) (x : A) → o ≡ None → once o x ≡ Ok x
once_new o x e = rw e refl

pub chosen_goes : (g : Settings) (s : Setting) (ss : List Setting) (end : Settings) → Goes g (s ∷ ss) end → (next : Settings) × (chosen g s ≡ Ok next) × Goes next ss end
unfolding chosen
chosen_goes g (settings.Pool n) ss end h =
    let a = arrives g.pool n (numbers pool_number ss) end.pool h.pool in
    let next : Settings = record g { pool = Some n } in
    (next, once_new g.pool next a.0, record { pool = a.1; passes = h.passes; stride = h.stride })
chosen_goes g (settings.Passes n) ss end h =
    let a = arrives g.passes n (numbers passes_number ss) end.passes h.passes in
    let next : Settings = record g { passes = Some n } in
    (next, once_new g.passes next a.0, record { pool = h.pool; passes = a.1; stride = h.stride })
chosen_goes g (settings.Stride n) ss end h =
    let a = arrives g.stride n (numbers stride_number ss) end.stride h.stride in
    let next : Settings = record g { stride = Some n } in
    (next, once_new g.stride next a.0, record { pool = h.pool; passes = h.passes; stride = a.1 })

-- the script's numbers, with the defaults
pub record NumbersAre (g : Settings) (s : Script) : Type 0 where
  pub pool : unwrap_or g.pool 65536 ≡ s.pool
  pub passes : unwrap_or g.passes 16384 ≡ s.passes
  pub stride : unwrap_or g.stride 0 ≡ s.stride

number_end : (default : ℕ) (ns : List ℕ) (n : ℕ) → IsGiven default ns n → (o : Option ℕ) × IsOnce ns o × (unwrap_or o default ≡ n)
number_end default ns n (inl h) = (None, h.0, sym h.1)
number_end default ns n (inr h) = (Some n, h, refl)

pub numbers_end : (options : List Setting) (s : Script) → AreGiven options s → (g : Settings) × Goes no_settings options g × NumbersAre g s
numbers_end options s h =
    let a = number_end 65536 (numbers pool_number options) s.pool h.pool in
    let b = number_end 16384 (numbers passes_number options) s.passes h.passes in
    let c = number_end 0 (numbers stride_number options) s.stride h.stride in
    (record { pool = a.0; passes = b.0; stride = c.0 }, record { pool = a.1; passes = b.1; stride = c.1 }, record { pool = a.2; passes = b.2; stride = c.2 })

-- ---- what is read is spelled

put_front : (o : Option ℕ) (xs ys : List ℕ) → put o (xs ++ ys) ≡ put o xs ++ ys
put_front None xs ys = refl
put_front (Some n) xs ys = refl

numbers_push : (f : Setting → Option ℕ) (ss : List Setting) (s : Setting) → numbers f (ss ++ s ∷ []) ≡ numbers f ss ++ put (f s) []
numbers_push f [] s = refl
numbers_push f (d ∷ ds) s = ap (put (f d)) (numbers_push f ds s) ∙ put_front (f d) (numbers f ds) (put (f s) [])

same_given : (f : Setting → Option ℕ) (said : List Setting) (s : Setting) (o : Option ℕ) → f s ≡ None → IsOnce (numbers f said) o → IsOnce (numbers f (said ++ s ∷ [])) o
same_given f said s o none h = subst (λ (ns : List ℕ). IsOnce ns o) (sym (numbers_push f said s ∙ ap (λ (x : Option ℕ). numbers f said ++ put x []) none ∙ append-nil (numbers f said))) h

new_given : (f : Setting → Option ℕ) (said : List Setting) (s : Setting) (n : ℕ) → f s ≡ Some n → IsOnce (numbers f said) None → IsOnce (numbers f (said ++ s ∷ [])) (Some n)
new_given f said s n some h = numbers_push f said s ∙ ap (λ (x : Option ℕ). numbers f said ++ put x []) some ∙ ap (λ (xs : List ℕ). xs ++ n ∷ []) h

once_ok : {A : Type 0} (o : Option ℕ) (x y : A) → once o x ≡ Ok y → (o ≡ None) × (x ≡ y)
once_ok None x y e = (refl, cc)
once_ok (Some n) x y e = absurd cc

pub chosen_once : (said : List Setting) (s : Setting) (g h : Settings) → AreOnce said g → chosen g s ≡ Ok h → AreOnce (said ++ s ∷ []) h
unfolding chosen
chosen_once said (settings.Pool n) g h are e =
    let a = once_ok g.pool (record g { pool = Some n }) h e in
    subst (AreOnce (said ++ settings.Pool n ∷ [])) a.1
    (record {
      pool = new_given pool_number said (settings.Pool n) n refl (subst (IsOnce (numbers pool_number said)) a.0 are.pool);
      passes = same_given passes_number said (settings.Pool n) g.passes refl are.passes;
      stride = same_given stride_number said (settings.Pool n) g.stride refl are.stride;
    })
chosen_once said (settings.Passes n) g h are e =
    let a = once_ok g.passes (record g { passes = Some n }) h e in
    subst (AreOnce (said ++ settings.Passes n ∷ [])) a.1
    (record {
      pool = same_given pool_number said (settings.Passes n) g.pool refl are.pool;
      passes = new_given passes_number said (settings.Passes n) n refl (subst (IsOnce (numbers passes_number said)) a.0 are.passes);
      stride = same_given stride_number said (settings.Passes n) g.stride refl are.stride;
    })
chosen_once said (settings.Stride n) g h are e =
    let a = once_ok g.stride (record g { stride = Some n }) h e in
    subst (AreOnce (said ++ settings.Stride n ∷ [])) a.1
    (record {
      pool = same_given pool_number said (settings.Stride n) g.pool refl are.pool;
      passes = same_given passes_number said (settings.Stride n) g.passes refl are.passes;
      stride = new_given stride_number said (settings.Stride n) n refl (subst (IsOnce (numbers stride_number said)) a.0 are.stride);
    })

given_once : (default : ℕ) (ns : List ℕ) (o : Option ℕ) → IsOnce ns o → IsGiven default ns (unwrap_or o default)
given_once default ns None h = inl (h, refl)
given_once default ns (Some n) h = inr h

pub once_given : (options : List Setting) (g : Settings) (s : Script) → AreOnce options g → NumbersAre g s → AreGiven options s
once_given options g s h k = record {
  pool = subst (IsGiven 65536 (numbers pool_number options)) k.pool (given_once 65536 (numbers pool_number options) g.pool h.pool);
  passes = subst (IsGiven 16384 (numbers passes_number options)) k.passes (given_once 16384 (numbers passes_number options) g.passes h.passes);
  stride = subst (IsGiven 0 (numbers stride_number options)) k.stride (given_once 0 (numbers stride_number options) g.stride h.stride);
}
