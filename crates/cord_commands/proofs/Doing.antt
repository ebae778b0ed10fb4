-- What was done to names is the plain step over trees.
use mathlib.Core.Path.{fun_ext}
use Rattle.std.proofs.Common.{◌≡◌, ◌∙◌, sym, ap, subst, refl, ℕ, ◌+◌, ◌≤◌, List, [], length, Option, Some, None, Bool, true, false, Result, Ok, Err, arith}
use Rattle.std.specs.Prelude.{option_map, if◌then◌else◌, IfOk, IfErr, IsTrue}
use Rattle.std.specs.declared.alloc.AllocError.{AllocError}
use Rattle.std.specs.Str.{bytes_eq}
use Rattle.plain_cord.specs.declared.reply.Reply.{Reply}
use Rattle.plain_cord.specs.declared.reply.Reply.TheVariants as replies
use Rattle.plain_cord.specs.declared.script.Command.{Command}
use Rattle.plain_cord.specs.States.{CordState}
use Rattle.node_forest.specs.Label.{Node}
use Rattle.tree_shapes.specs.Cords.{IsTreeFor, NeedsHeight12}
use Rattle.tree_shapes.specs.Shape.{length_of}
use Rattle.node_edges.specs.Trees.{IsWellFormed}
use Rattle.node_edges.specs.Trees as edges
use Rattle.node_edges.proofs.TextLaws.{length-whole}
use Rattle.pool_rule.specs.Gains.{SawAll}
use Rattle.pool_rule.specs.Views.{View}
use Rattle.ordered_names.specs.declared.names.Names.{Names}
use Rattle.ordered_names.specs.Named.{named}
use Rattle.cord_value.specs.Refusals.{IsBalanced}
use Rattle.cord_value.specs.declared.refusals.CordError.{CordError}
use Rattle.cord_value.specs.declared.refusals.CordError.TheVariants as errors
use Rattle.cord_value.specs.Views.{CordView, IsTreeOf, cord_shape}
use Rattle.cord_steps.specs.Answers.{Plain}
use Rattle.cord_steps.specs.Cords.{Cord, naming, shape_of}
use Rattle.cord_steps.specs.Cords as steps
use Rattle.cord_steps.specs.Doings.{Doing}
use Rattle.cord_steps.specs.Marks.{needs_pass, needs_numbers}
use Rattle.cord_steps.specs.Sessions.{Options, Session}
use Rattle.cord_steps.specs.Whole.{IsWithin}
use Rattle.cord_commands.specs.declared.answer.Answer.{Answer}
use Rattle.cord_commands.specs.declared.answer.Answer.TheVariants.{Told, Releasers, Height, Cords, Pool}
use Rattle.cord_commands.specs.Answers.{ok, told_by, refusal_of, IsSet}
use Rattle.cord_commands.specs.Bare.{IsBareCord, AreBare, StepsTo}
use Rattle.cord_commands.specs.Does.{NoReport, IsAt, AreFormed, IsCause, Does}
use Rattle.cord_commands.specs.Views.{cord_in, names_of, AreSame, IsSetTo}
use Rattle.cord_commands.proofs.Comings.{ComesTo, Answers, comes-done, answers-told, comes-height, comes-cords, comes-pool}
use Rattle.cord_commands.proofs.Stepping.{IsOther}

-- ---- cords
long-shape : (e : Node) → length_of (edges.shape_of e) ≡ e.0.length
unfolding edges.shape_of
long-shape e = refl

tree-whole : (bytes : List ℕ) (tree : Option Node) → IsTreeOf bytes tree → IsTreeFor (length bytes) (option_map edges.shape_of tree)
tree-whole bytes None is = is
tree-whole bytes (Some e) is = (is.0.root, long-shape e ∙ (sym (length-whole e is.0) ∙ ap length is.1), is.2)

pub bare-cord : (c : CordView) → IsTreeOf c.bytes c.tree → IsBareCord (cord_in c)
bare-cord c is = record { is = record { whole = tree-whole c.bytes c.tree is; sum = refl; noted = λ none. refl }; note = refl }

-- ---- names
option_map-if : {A B : Type 0} (f : A → B) (x y : Option A) (b : Bool) → option_map f (if b then x else y) ≡ if b then option_map f x else option_map f y
option_map-if f x y true = refl
option_map-if f x y false = refl

pub set-naming : (old new : Names CordView) (a : List ℕ) (c : CordView) → IsSetTo old new a c → naming (names_of old) a (Some (cord_in c)) ≡ names_of new
set-naming old new a c set = fun_ext (λ q. sym (ap (option_map cord_in) (set q) ∙ option_map-if cord_in (Some c) (named old q) (bytes_eq a q)))

pub same-names : (old new : Names CordView) → AreSame old new → names_of old ≡ names_of new
same-names old new same = fun_ext (λ q. ap (option_map cord_in) (sym (same q)))

pub found-in : (names : Names CordView) (a : List ℕ) (c : CordView) → named names a ≡ Some c → names_of names a ≡ Some (cord_in c)
found-in names a c is = ap (option_map cord_in) is

pub none-in : (names : Names CordView) (a : List ℕ) → named names a ≡ None → names_of names a ≡ None
none-in names a is = ap (option_map cord_in) is

bare-found : (o : Option CordView) → ((c : CordView) → o ≡ Some c → IsTreeOf c.bytes c.tree) → (x : Cord) → option_map cord_in o ≡ Some x → IsBareCord x
bare-found None all x is = cc
bare-found (Some c) all x is = subst IsBareCord (some-in (cord_in c) x is) (bare-cord c (all c refl))
  where
    some-in : (x y : Cord) → (let o : Option Cord = Some x in let p : Option Cord = Some y in o ≡ p) → x ≡ y
    some-in x y e = cc

pub are-bare : (names : Names CordView) → AreFormed names → AreBare (names_of names)
are-bare names all a x is = bare-found (named names a) (all a) x is

-- ---- what stays whole
pub formed-same : (old new : Names CordView) → AreSame old new → AreFormed old → AreFormed new
formed-same old new same all q c is = all q c (sym (same q) ∙ is)

formed-if : (b : Bool) (c : CordView) (o : Option CordView) → IsTreeOf c.bytes c.tree → ((x : CordView) → o ≡ Some x → IsTreeOf x.bytes x.tree) → (x : CordView) → (if b then Some c else o) ≡ Some x → IsTreeOf x.bytes x.tree
formed-if true c o here all x is = subst (λ (z : CordView). IsTreeOf z.bytes z.tree) (some-view c x is) here
  where
    some-view : (x y : CordView) → (let o : Option CordView = Some x in let p : Option CordView = Some y in o ≡ p) → x ≡ y
    some-view x y e = cc
formed-if false c o here all x is = all x is

pub formed-set : (old new : Names CordView) (a : List ℕ) (c : CordView) → IsSetTo old new a c → IsTreeOf c.bytes c.tree → AreFormed old → AreFormed new
formed-set old new a c set here all q x is = formed-if (bytes_eq a q) c (named old q) here (all q) x (sym (set q) ∙ is)

-- ---- the step
-- a session with these names in the place of its own
module _ (size limit : ℕ) (old new : Names CordView) (v w : View) (command : Command) where
  -- the name is set
  pub does-set : (choice : Bool) (d : Doing) (s : CordState) (c : CordView) → (AreBare (names_of old) → ComesTo choice (names_of old) command d s) → IsWithin (Plain command)
      → IsSetTo old new d.name c → (AreFormed old → IsTreeOf c.bytes c.tree) → s.bytes ≡ c.bytes → d.made.tree ≡ (cord_shape c).tree → w.unused ≡ v.unused → Does size limit old new v w (Plain command) ok
  does-set choice d s c k within set formed bytes shape unused = record {
    formed = λ whole. formed-set old new d.name c set (formed whole) whole;
    externals = 0;
    used = omega (arith, ap length unused);
    step = λ options p x for at whole.
        let all = are-bare old whole in
        let here : AreBare x.names = subst AreBare (sym at.names) all in
        let comes : ComesTo choice x.names command d s = subst (λ z. ComesTo choice z command d s) (sym at.names) (k all) in
        let names : naming x.names d.name (Some (cord_in c)) ≡ names_of new = ap (λ z. naming z d.name (Some (cord_in c))) at.names ∙ set-naming old new d.name c set in
        subst (λ (z : steps.Names). StepsTo {Report = NoReport} options p x (Plain command) (told_by ok) z (x.externals + 0)) names
        (subst (λ (n : ℕ). StepsTo {Report = NoReport} options p x (Plain command) (told_by ok) (naming x.names d.name (Some (cord_in c))) n) (omega arith)
        (comes-done choice options p x command d s comes for.stride here within (cord_in c) (bare-cord c (formed whole)) bytes shape));
    cause = tt;
  }

  -- a question, or a refusal as on byte strings
  pub does-told : (choice : Bool) (r : Reply) → (AreFormed old → Answers (names_of old) command r) → IsOther r → AreSame old new → w.unused ≡ v.unused → Does size limit old new v w (Plain command) (Told r)
  does-told choice r k other same unused = record {
    formed = formed-same old new same;
    externals = 0;
    used = omega (arith, ap length unused);
    step = λ options p x for at whole.
        let answers : Answers x.names command r = subst (λ z. Answers z command r) (sym at.names) (k whole) in
        subst (λ (z : steps.Names). StepsTo {Report = NoReport} options p x (Plain command) (told_by (Told r)) z (x.externals + 0)) (at.names ∙ same-names old new same)
        (subst (λ (n : ℕ). StepsTo {Report = NoReport} options p x (Plain command) (told_by (Told r)) x.names n) (omega arith)
        (answers-told choice options p x command r answers other));
    cause = tt;
  }

-- ---- refusals
-- why a doing is refused: the height first, then want of a pass and of a number
abbrev pub Refuses : ℕ → ℕ → Doing → CordError → Type 0
Refuses size limit d (errors.HeightLimit height) = NeedsHeight12 d.made
Refuses size limit d (errors.PassLimit n) = ¬ (NeedsHeight12 d.made) × IsTrue (needs_pass d) × (limit ≤ n)
Refuses size limit d (errors.NoNumber seen) = ¬ (NeedsHeight12 d.made) × IsTrue (needs_numbers d) × (seen ≡ size)
Refuses size limit d errors.Memory = Unit {0}
Refuses size limit d _ = ⊥

-- and what was seen
abbrev pub Shows : ℕ → CordError → View → View → Type 0
Shows size (errors.NoNumber seen) v w = (seen ≡ size) × SawAll size v w
Shows size (errors.NoReleaser used) v w = v.unused ≡ []
Shows size _ v w = Unit {0}

-- a counted step found the limit reached, and nothing else was done
abbrev pub ShowsLimit : ℕ → CordError → View → View → Type 0
ShowsLimit limit (errors.PassLimit found) v w = IsBalanced limit (errors.PassLimit found) v w
ShowsLimit limit _ v w = Unit {0}

pub balanced-shows : (limit : ℕ) (x : CordError) (v w : View) → IsBalanced limit x v w → ShowsLimit limit x v w
balanced-shows limit (errors.PassLimit found) v w balanced = balanced
balanced-shows limit x v w balanced = tt

pub some-answer : (x y : Answer) → (let o : Option Answer = Some x in let p : Option Answer = Some y in o ≡ p) → x ≡ y
some-answer x y e = cc

module _ (size limit : ℕ) (old new : Names CordView) (v w : View) (command : Command) (choice : Bool) (d : Doing) (s : CordState) (k : AreBare (names_of old) → ComesTo choice (names_of old) command d s)
    (same : AreSame old new) (unused : w.unused ≡ v.unused) where
  comes-at : (x : Session) → AreFormed old → IsAt x old v → ComesTo choice x.names command d s
  comes-at x whole at = subst (λ z. ComesTo choice z command d s) (sym at.names) (k (are-bare old whole))

  stays-at : (answer : Answer) (x : Session) (options : Options) (p : ℕ) → IsAt x old v → StepsTo {Report = NoReport} options p x (Plain command) (told_by answer) x.names x.externals → StepsTo {Report = NoReport} options p x (Plain command) (told_by answer) (names_of new) (x.externals + 0)
  stays-at answer x options p at t = subst (λ (z : steps.Names). StepsTo {Report = NoReport} options p x (Plain command) (told_by answer) z (x.externals + 0)) (at.names ∙ same-names old new same)
      (subst (λ (n : ℕ). StepsTo {Report = NoReport} options p x (Plain command) (told_by answer) x.names n) (omega arith) t)

  -- no such refusal comes
  never : (told answer : Answer) → Some answer ≡ Some told → (AreFormed old → ⊥) → IsCause size limit v w told → Does size limit old new v w (Plain command) answer
  never told answer is none cause = subst (Does size limit old new v w (Plain command)) (some-answer told answer (sym is)) (record {
    formed = formed-same old new same;
    externals = 0;
    used = omega (arith, ap length unused);
    step = λ options p x for at whole. absurd (none whole);
    cause = cause;
  })

  pub refused-does : (x : CordError) (answer : Answer) → (AreFormed old → Refuses size limit d x) → Shows size x v w → ShowsLimit limit x v w
      → Some answer ≡ refusal_of x → Does size limit old new v w (Plain command) answer
  refused-does (errors.HeightLimit height) answer why shows balanced is = subst (Does size limit old new v w (Plain command)) (some-answer Height answer (sym is)) (record {
    formed = formed-same old new same;
    externals = 0;
    used = omega (arith, ap length unused);
    step = λ options p x for at whole. stays-at Height x options p at (comes-height choice options p x command d s (comes-at x whole at) (why whole));
    cause = tt;
  })
  refused-does (errors.PassLimit n) answer why shows balanced is = subst (Does size limit old new v w (Plain command)) (some-answer (Cords n) answer (sym is)) (record {
    formed = formed-same old new same;
    externals = 0;
    used = omega (arith, ap length unused);
    step = λ options p x for at whole. stays-at (Cords n) x options p at (comes-cords choice options p x command d s (comes-at x whole at) n (why whole).0 (why whole).1 (omega (arith, for.passes, (why whole).2)));
    cause = balanced;
  })
  refused-does (errors.NoNumber seen) answer why shows balanced is = subst (Does size limit old new v w (Plain command)) (some-answer (Pool seen) answer (sym is)) (record {
    formed = formed-same old new same;
    externals = 0;
    used = omega (arith, ap length unused);
    step = λ options p x for at whole. stays-at (Pool seen) x options p at (comes-pool choice options p x command d s (comes-at x whole at) seen (why whole).0 (why whole).1 ((why whole).2 ∙ sym for.numbers));
    cause = shows;
  })
  refused-does errors.Memory answer why shows balanced is = cc
  refused-does (errors.Position asked end) answer why shows balanced is = never (Told (replies.Position asked end)) answer is (λ whole. why whole) tt
  refused-does (errors.LengthLimit asked) answer why shows balanced is = never (Told (replies.Length asked)) answer is (λ whole. why whole) tt
  refused-does (errors.NoReleaser used) answer why shows balanced is = never Releasers answer is (λ whole. why whole) shows

-- a name is set to a cord that was made, or none was made
pub made-does : (size limit : ℕ) (old new : Names CordView) (v m w : View) (command : Command) (choice : Bool) (d : Doing) (s : CordState) → (AreBare (names_of old) → ComesTo choice (names_of old) command d s) → IsWithin (Plain command)
    → (r : Result CordView CordError) (res : Result Answer AllocError)
    → (AreFormed old → IfOk r (λ c. IsTreeOf c.bytes c.tree)) → IfOk r (λ c. s.bytes ≡ c.bytes) → IfOk r (λ c. d.made.tree ≡ (cord_shape c).tree)
    → (AreFormed old → IfErr r (λ x. Refuses size limit d x)) → IfErr r (λ x. Shows size x v m) → IfErr r (λ x. IsBalanced limit x v m) → IfErr r (λ x. w ≡ m) → w.unused ≡ v.unused
    → IfOk res (λ answer. IsSet old new d.name r answer) → IfOk res (λ answer. Does size limit old new v w (Plain command) answer)
made-does size limit old new v m w command choice d s k within r (Err e) formed bytes shape why shows balanced stays unused set = tt
made-does size limit old new v m w command choice d s k within (Ok c) (Ok answer) formed bytes shape why shows balanced stays unused set =
    subst (Does size limit old new v w (Plain command)) (sym set.1) (does-set size limit old new v w command choice d s c k within set.0 formed bytes shape unused)
made-does size limit old new v m w command choice d s k within (Err x) (Ok answer) formed bytes shape why shows balanced stays unused set =
    refused-does size limit old new v w command choice d s k set.0 unused x answer why
    (subst (λ (z : View). Shows size x v z) (sym stays) shows) (subst (λ (z : View). ShowsLimit limit x v z) (sym stays) (balanced-shows limit x v m balanced)) set.1
