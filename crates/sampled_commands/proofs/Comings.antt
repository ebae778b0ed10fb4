-- What each command comes to on byte strings, and which name it sets, where the names that it reads were set.
use Rattle.std.proofs.Common.{◌≡◌, ◌∙◌, sym, ap, subst, refl, ℕ, ◌+◌, ◌-◌, ◌<◌, ◌≤◌, List, ◌++◌, length, take, drop, Option, Some, None, Bool, true, false, eq-eqb, ne_eqb, arith}
use Rattle.std.specs.Prelude.{option_map, nat_le, ◌==◌, if◌then◌else◌, not, nat_eq, IsTrue}
use Rattle.std.specs.Str.{bytes_eq}
use Rattle.std.proofs.lemmas.Bool.{le-leb, lt-leb}
use Rattle.std.proofs.lemmas.Slice.Eq.{bytes_eq-Decides}
use Rattle.node_forest.specs.declared.side.Side.{Side}
use Rattle.node_forest.specs.declared.side.Side.TheVariants.{Front, Back}
use Rattle.plain_cord.specs.declared.limits.TheConstants.{MOST_BYTES}
use Rattle.plain_cord.specs.declared.script.Command.{Command}
use Rattle.plain_cord.specs.declared.script.Command.TheVariants as commands
use Rattle.plain_cord.specs.declared.script.Text.{Text}
use Rattle.plain_cord.specs.declared.reply.Reply.{Reply}
use Rattle.plain_cord.specs.declared.reply.Reply.TheVariants as replies
use Rattle.plain_cord.specs.Texts.{text_bytes}
use Rattle.plain_cord.specs.States.{CordState, Environment, plain, empty_cord, changed, with_name}
use Rattle.plain_cord.specs.Outcomes.{Outcome, outcome, answered, with_found, with_cord, keeping, edited, refused, done, grown, cut, with_sum}
use Rattle.tree_shapes.specs.Cords as shapes
use Rattle.tree_shapes.specs.Cords.{CordShape, cord_of_bytes, with_bytes_added, with_cord_added, doubled, sub_cord, front_cut, back_cut}
use Rattle.tree_shapes.proofs.KeepLaws.{if_true, if_false}
use Rattle.cord_steps.specs.Cords.{Cord, Names, IsCord, plain_of, plain_names, shape_in, note_in}
use Rattle.cord_steps.specs.Doings.{Fresh, Copied, Changed, Doing, doing, joined_shape}
use Rattle.tree_shapes.specs.Cords.{NeedsHeight12, level_in}
use Rattle.tree_shapes.proofs.CordLaws.{cord-low}
use Rattle.tree_shapes.specs.Cords.{external_shape}
use Rattle.cord_steps.specs.Answers.{Plain, External, Answer, Told, Releasers, Height, Cords, Pool}
use Rattle.cord_steps.specs.Boarding.{left}
use Rattle.cord_steps.specs.Doings.{external_doing}
use Rattle.cord_steps.specs.Steps.{cord_with, has_box, IsAnswer, IsDoneReply, IsDoneAnswer, IsExternalAnswer}
use Rattle.cord_steps.specs.Cords.{naming}
use Rattle.cord_steps.specs.Marks.{is_new, kept_note, needs_pass, needs_numbers, note_after}
use Rattle.cord_steps.specs.Sessions.{Options, Session, Cells}
use Rattle.cord_steps.specs.Whole.{IsWithin}
use Rattle.tree_shapes.specs.Growth.{beside}
use Rattle.plain_cord.specs.declared.reply.NewMark.{NewMark}
use Rattle.sampled_commands.specs.Answers.{Report}
use Rattle.sampled_commands.specs.Does.{StepsTo}
use Rattle.sampled_commands.proofs.Sides.{adding, joining}
use Rattle.sampled_commands.proofs.Stepping.{IsOther, ok, done-step, told-step, height-step, cords-step, pool-step}
use Rattle.sampled_commands.proofs.Whole.{AreCords}

-- a command comes to an `ok`, by which its name gets the bytes of c in the shape that the doing tells
pub record ComesTo (choice : Bool) (names : Names) (command : Command) (d : Doing) (c : CordState) : Type 0 where
  pub o : Outcome
  pub oe : outcome (plain_names names) command ≡ Some o
  pub de : doing choice names command ≡ Some d
  pub re : o.reply ≡ ok
  pub on : o.names d.name ≡ Some c

-- it comes to another reply, and the names stay
pub record Answers (names : Names) (command : Command) (r : Reply) : Type 0 where
  pub o : Outcome
  pub oe : outcome (plain_names names) command ≡ Some o
  pub re : o.reply ≡ r

set-here : (e : Environment) (a : List ℕ) (x : CordState) → with_name e a x a ≡ Some x
set-here e a x = if_true (bytes_eq a a) (Some x) (e a) ((bytes_eq-Decides a a).1 refl)

-- ---- names that are read
pub found : (names : Names) (a : List ℕ) (x : Cord) (go : CordState → Outcome) → names a ≡ Some x → with_cord (plain_names names) a go ≡ go (plain_of x)
found names a x go e = ap (λ (o : Option Cord). with_found (plain_names names) a (option_map plain_of o) go) e

pub missing : (names : Names) (a : List ℕ) (go : CordState → Outcome) → names a ≡ None → with_cord (plain_names names) a go ≡ answered (plain_names names) (replies.Unset a)
missing names a go e = ap (λ (o : Option Cord). with_found (plain_names names) a (option_map plain_of o) go) e

module _ (choice : Bool) (names : Names) where
  abbrev e : Environment
  e = plain_names names

  -- ---- a name set anew
  pub let-comes : (a : List ℕ) (text : Text) → ComesTo choice names (commands.Let a text) (record { name = a; manner = Fresh; old = names a; made = cord_of_bytes (length (text_bytes text)) }) (plain (text_bytes text))
  let-comes a text = record {
    o = done (with_name e a (plain (text_bytes text)));
    oe = refl;
    de = refl;
    re = refl;
    on = set-here e a (plain (text_bytes text));
  }

  pub copy-comes : (a b : List ℕ) (x : Cord) → names a ≡ Some x → ComesTo choice names (commands.Copy a b) (record { name = b; manner = Copied (note_in (names a)); old = names b; made = shape_in (names a) }) (plain_of x)
  copy-comes a b x is = record {
    o = done (with_name e b (plain_of x));
    oe = ap (λ (z : Outcome). Some z) (found names a x (λ c. done (with_name e b c)) is);
    de = refl;
    re = refl;
    on = set-here e b (plain_of x);
  }

  pub sub-comes : (a : List ℕ) (pos n : ℕ) (b : List ℕ) (x : Cord) → names a ≡ Some x
      → ComesTo choice names (commands.Sub a pos n b) (record { name = b; manner = Fresh; old = names b; made = sub_cord pos n (shape_in (names a)) }) (plain (take n (drop pos x.bytes)))
  sub-comes a pos n b x is = record {
    o = done (with_name e b (plain (take n (drop pos x.bytes))));
    oe = ap (λ (z : Outcome). Some z) (found names a x (λ c. done (with_name e b (plain (take n (drop pos c.bytes))))) is);
    de = refl;
    re = refl;
    on = set-here e b (plain (take n (drop pos x.bytes)));
  }

  pub clear-comes : (a : List ℕ) (x : Cord) → names a ≡ Some x → ComesTo choice names (commands.Clear a) (record { name = a; manner = Fresh; old = names a; made = cord_of_bytes 0 }) empty_cord
  clear-comes a x is = record {
    o = done (with_name e a empty_cord);
    oe = ap (λ (z : Outcome). Some z) (found names a x (λ c. keeping e a (edited empty_cord)) is);
    de = refl;
    re = refl;
    on = set-here e a empty_cord;
  }

  -- ---- a name's cord changed
  abbrev pub changing : List ℕ → CordShape → Doing
  changing a made = record { name = a; manner = Changed (not (nat_eq made.size (shape_in (names a)).size)); old = names a; made = made }

  grown-fits : (x : CordState) (bytes : List ℕ) → length bytes ≤ MOST_BYTES → grown x bytes ≡ edited (changed x bytes)
  grown-fits x bytes short = if_true (nat_le (length bytes) MOST_BYTES) _ _ (le-leb (length bytes) MOST_BYTES short)

  grown-long : (x : CordState) (bytes : List ℕ) → MOST_BYTES < length bytes → grown x bytes ≡ refused x (replies.Length (length bytes))
  grown-long x bytes long = if_false (nat_le (length bytes) MOST_BYTES) _ _ (lt-leb (length bytes) MOST_BYTES long)

  cut-fits : (x : CordState) (n : ℕ) (rest : List ℕ) → n ≤ length x.bytes → cut x n rest ≡ edited (changed x rest)
  cut-fits x n rest within = if_true (nat_le n (length x.bytes)) _ _ (le-leb n (length x.bytes) within)

  cut-beyond : (x : CordState) (n : ℕ) (rest : List ℕ) → length x.bytes < n → cut x n rest ≡ refused x (replies.Position n (length x.bytes))
  cut-beyond x n rest beyond = if_false (nat_le n (length x.bytes)) _ _ (lt-leb n (length x.bytes) beyond)

  pub add-comes : (side : Side) (a : List ℕ) (text : Text) (x : Cord) → names a ≡ Some x → length (beside side x.bytes (text_bytes text)) ≤ MOST_BYTES
      → ComesTo choice names (adding side a text) (changing a (with_bytes_added choice side (length (text_bytes text)) (shape_in (names a)))) (changed (plain_of x) (beside side x.bytes (text_bytes text)))
  add-comes Back a text x is short = record {
    o = keeping e a (edited (changed (plain_of x) (x.bytes ++ text_bytes text)));
    oe = ap (λ (z : Outcome). Some z) (found names a x (λ c. keeping e a (grown c (c.bytes ++ text_bytes text))) is ∙ ap (keeping e a) (grown-fits (plain_of x) (x.bytes ++ text_bytes text) short));
    de = refl;
    re = refl;
    on = set-here e a (changed (plain_of x) (x.bytes ++ text_bytes text));
  }
  add-comes Front a text x is short = record {
    o = keeping e a (edited (changed (plain_of x) (text_bytes text ++ x.bytes)));
    oe = ap (λ (z : Outcome). Some z) (found names a x (λ c. keeping e a (grown c (text_bytes text ++ c.bytes))) is ∙ ap (keeping e a) (grown-fits (plain_of x) (text_bytes text ++ x.bytes) short));
    de = refl;
    re = refl;
    on = set-here e a (changed (plain_of x) (text_bytes text ++ x.bytes));
  }

  pub add-long : (side : Side) (a : List ℕ) (text : Text) (x : Cord) → names a ≡ Some x → MOST_BYTES < length (beside side x.bytes (text_bytes text))
      → Answers names (adding side a text) (replies.Length (length (beside side x.bytes (text_bytes text))))
  add-long Back a text x is long = record {
    o = keeping e a (refused (plain_of x) (replies.Length (length (x.bytes ++ text_bytes text))));
    oe = ap (λ (z : Outcome). Some z) (found names a x (λ c. keeping e a (grown c (c.bytes ++ text_bytes text))) is ∙ ap (keeping e a) (grown-long (plain_of x) (x.bytes ++ text_bytes text) long));
    re = refl;
  }
  add-long Front a text x is long = record {
    o = keeping e a (refused (plain_of x) (replies.Length (length (text_bytes text ++ x.bytes))));
    oe = ap (λ (z : Outcome). Some z) (found names a x (λ c. keeping e a (grown c (text_bytes text ++ c.bytes))) is ∙ ap (keeping e a) (grown-long (plain_of x) (text_bytes text ++ x.bytes) long));
    re = refl;
  }

  -- ---- cuts
  pub cut_front-comes : (a : List ℕ) (n : ℕ) (x : Cord) → names a ≡ Some x → n ≤ length x.bytes → ComesTo choice names (commands.CutFront a n) (changing a (front_cut n (shape_in (names a)))) (changed (plain_of x) (drop n x.bytes))
  cut_front-comes a n x is within = record {
    o = keeping e a (edited (changed (plain_of x) (drop n x.bytes)));
    oe = ap (λ (z : Outcome). Some z) (found names a x (λ c. keeping e a (cut c n (drop n c.bytes))) is ∙ ap (keeping e a) (cut-fits (plain_of x) n (drop n x.bytes) within));
    de = refl;
    re = refl;
    on = set-here e a (changed (plain_of x) (drop n x.bytes));
  }

  pub cut_front-beyond : (a : List ℕ) (n : ℕ) (x : Cord) → names a ≡ Some x → length x.bytes < n → Answers names (commands.CutFront a n) (replies.Position n (length x.bytes))
  cut_front-beyond a n x is beyond = record {
    o = keeping e a (refused (plain_of x) (replies.Position n (length x.bytes)));
    oe = ap (λ (z : Outcome). Some z) (found names a x (λ c. keeping e a (cut c n (drop n c.bytes))) is ∙ ap (keeping e a) (cut-beyond (plain_of x) n (drop n x.bytes) beyond));
    re = refl;
  }

  pub cut_back-comes : (a : List ℕ) (n : ℕ) (x : Cord) → names a ≡ Some x → n ≤ length x.bytes → ComesTo choice names (commands.CutBack a n) (changing a (back_cut choice n (shape_in (names a)))) (changed (plain_of x) (take (length x.bytes - n) x.bytes))
  cut_back-comes a n x is within = record {
    o = keeping e a (edited (changed (plain_of x) (take (length x.bytes - n) x.bytes)));
    oe = ap (λ (z : Outcome). Some z) (found names a x (λ c. keeping e a (cut c n (take (length c.bytes - n) c.bytes))) is ∙ ap (keeping e a) (cut-fits (plain_of x) n (take (length x.bytes - n) x.bytes) within));
    de = refl;
    re = refl;
    on = set-here e a (changed (plain_of x) (take (length x.bytes - n) x.bytes));
  }

  pub cut_back-beyond : (a : List ℕ) (n : ℕ) (x : Cord) → names a ≡ Some x → length x.bytes < n → Answers names (commands.CutBack a n) (replies.Position n (length x.bytes))
  cut_back-beyond a n x is beyond = record {
    o = keeping e a (refused (plain_of x) (replies.Position n (length x.bytes)));
    oe = ap (λ (z : Outcome). Some z) (found names a x (λ c. keeping e a (cut c n (take (length c.bytes - n) c.bytes))) is ∙ ap (keeping e a) (cut-beyond (plain_of x) n (take (length x.bytes - n) x.bytes) beyond));
    re = refl;
  }

  -- ---- sums
  pub sum-comes : (a : List ℕ) (value : ℕ) (x : Cord) → names a ≡ Some x → 0 < length x.bytes
      → ComesTo choice names (commands.SetSum a value) (record { name = a; manner = Changed true; old = names a; made = shapes.with_sum value (shape_in (names a)) }) (record { bytes = x.bytes; sum = Some value })
  sum-comes a value x is some = record {
    o = keeping e a (edited (record { bytes = x.bytes; sum = Some value }));
    oe = ap (λ (z : Outcome). Some z) (found names a x (λ c. keeping e a (with_sum c value)) is ∙ ap (keeping e a) (if_false (length x.bytes == 0) _ _ (ne_eqb (length x.bytes) 0 (λ z. omega (arith, z)))));
    de = refl;
    re = refl;
    on = set-here e a (record { bytes = x.bytes; sum = Some value });
  }

  pub sum-empty : (a : List ℕ) (value : ℕ) (x : Cord) → names a ≡ Some x → length x.bytes ≡ 0 → Answers names (commands.SetSum a value) replies.NoBytes
  sum-empty a value x is none = record {
    o = keeping e a (refused (plain_of x) replies.NoBytes);
    oe = ap (λ (z : Outcome). Some z) (found names a x (λ c. keeping e a (with_sum c value)) is ∙ ap (keeping e a) (if_true (length x.bytes == 0) _ _ (eq-eqb (length x.bytes) 0 none)));
    re = refl;
  }

  -- ---- joins
  pub join-comes : (side : Side) (a b : List ℕ) (x y : Cord) → names a ≡ Some x → names b ≡ Some y → length (beside side x.bytes y.bytes) ≤ MOST_BYTES
      → ComesTo choice names (joining side a b) (changing a (joined_shape choice side names a b)) (changed (plain_of x) (beside side x.bytes y.bytes))
  join-comes Back a b x y is also short = record {
    o = keeping e a (edited (changed (plain_of x) (x.bytes ++ y.bytes)));
    oe = ap (λ (z : Outcome). Some z) (found names a x (λ c. with_cord e b (λ d. keeping e a (grown c (c.bytes ++ d.bytes)))) is ∙ (found names b y (λ d. keeping e a (grown (plain_of x) (x.bytes ++ d.bytes))) also ∙ ap (keeping e a) (grown-fits (plain_of x) (x.bytes ++ y.bytes) short)));
    de = refl;
    re = refl;
    on = set-here e a (changed (plain_of x) (x.bytes ++ y.bytes));
  }
  join-comes Front a b x y is also short = record {
    o = keeping e a (edited (changed (plain_of x) (y.bytes ++ x.bytes)));
    oe = ap (λ (z : Outcome). Some z) (found names a x (λ c. with_cord e b (λ d. keeping e a (grown c (d.bytes ++ c.bytes)))) is ∙ (found names b y (λ d. keeping e a (grown (plain_of x) (d.bytes ++ x.bytes))) also ∙ ap (keeping e a) (grown-fits (plain_of x) (y.bytes ++ x.bytes) short)));
    de = refl;
    re = refl;
    on = set-here e a (changed (plain_of x) (y.bytes ++ x.bytes));
  }

  pub join-long : (side : Side) (a b : List ℕ) (x y : Cord) → names a ≡ Some x → names b ≡ Some y → MOST_BYTES < length (beside side x.bytes y.bytes)
      → Answers names (joining side a b) (replies.Length (length (beside side x.bytes y.bytes)))
  join-long Back a b x y is also long = record {
    o = keeping e a (refused (plain_of x) (replies.Length (length (x.bytes ++ y.bytes))));
    oe = ap (λ (z : Outcome). Some z) (found names a x (λ c. with_cord e b (λ d. keeping e a (grown c (c.bytes ++ d.bytes)))) is ∙ (found names b y (λ d. keeping e a (grown (plain_of x) (x.bytes ++ d.bytes))) also ∙ ap (keeping e a) (grown-long (plain_of x) (x.bytes ++ y.bytes) long)));
    re = refl;
  }
  join-long Front a b x y is also long = record {
    o = keeping e a (refused (plain_of x) (replies.Length (length (y.bytes ++ x.bytes))));
    oe = ap (λ (z : Outcome). Some z) (found names a x (λ c. with_cord e b (λ d. keeping e a (grown c (d.bytes ++ c.bytes)))) is ∙ (found names b y (λ d. keeping e a (grown (plain_of x) (d.bytes ++ x.bytes))) also ∙ ap (keeping e a) (grown-long (plain_of x) (y.bytes ++ x.bytes) long)));
    re = refl;
  }

  pub join-unset : (side : Side) (a b : List ℕ) (x : Cord) → names a ≡ Some x → names b ≡ None → Answers names (joining side a b) (replies.Unset b)
  join-unset Back a b x is none = record {
    o = answered e (replies.Unset b);
    oe = ap (λ (z : Outcome). Some z) (found names a x (λ c. with_cord e b (λ d. keeping e a (grown c (c.bytes ++ d.bytes)))) is ∙ missing names b (λ d. keeping e a (grown (plain_of x) (x.bytes ++ d.bytes))) none);
    re = refl;
  }
  join-unset Front a b x is none = record {
    o = answered e (replies.Unset b);
    oe = ap (λ (z : Outcome). Some z) (found names a x (λ c. with_cord e b (λ d. keeping e a (grown c (d.bytes ++ c.bytes)))) is ∙ missing names b (λ d. keeping e a (grown (plain_of x) (d.bytes ++ x.bytes))) none);
    re = refl;
  }

-- ---- replies that leave the names
pub unset-answers : (names : Names) (command : Command) (a : List ℕ) (go : CordState → Outcome) → outcome (plain_names names) command ≡ Some (with_cord (plain_names names) a go) → names a ≡ None → Answers names command (replies.Unset a)
unset-answers names command a go is none = record {
  o = answered (plain_names names) (replies.Unset a);
  oe = is ∙ ap (λ (z : Outcome). Some z) (missing names a go none);
  re = refl;
}

pub asked-answers : (names : Names) (command : Command) (a : List ℕ) (x : Cord) (answer : CordState → Reply)
    → outcome (plain_names names) command ≡ Some (with_cord (plain_names names) a (λ c. answered (plain_names names) (answer c))) → names a ≡ Some x → Answers names command (answer (plain_of x))
asked-answers names command a x answer is found_is = record {
  o = answered (plain_names names) (answer (plain_of x));
  oe = is ∙ ap (λ (z : Outcome). Some z) (found names a x (λ c. answered (plain_names names) (answer c)) found_is);
  re = refl;
}

-- of two names
pub compared-answers : (names : Names) (command : Command) (a b : List ℕ) (x y : Cord) (answer : CordState → CordState → Reply)
    → outcome (plain_names names) command ≡ Some (with_cord (plain_names names) a (λ c. with_cord (plain_names names) b (λ d. answered (plain_names names) (answer c d))))
    → names a ≡ Some x → names b ≡ Some y → Answers names command (answer (plain_of x) (plain_of y))
compared-answers names command a b x y answer is one two = record {
  o = answered (plain_names names) (answer (plain_of x) (plain_of y));
  oe = is ∙ ap (λ (z : Outcome). Some z) (found names a x (λ c. with_cord (plain_names names) b (λ d. answered (plain_names names) (answer c d))) one ∙ found names b y (λ d. answered (plain_names names) (answer (plain_of x) d)) two);
  re = refl;
}

pub second-unset : (names : Names) (command : Command) (a b : List ℕ) (x : Cord) (go : CordState → CordState → Outcome)
    → outcome (plain_names names) command ≡ Some (with_cord (plain_names names) a (λ c. with_cord (plain_names names) b (go c)))
    → names a ≡ Some x → names b ≡ None → Answers names command (replies.Unset b)
second-unset names command a b x go is one none = record {
  o = answered (plain_names names) (replies.Unset b);
  oe = is ∙ ap (λ (z : Outcome). Some z) (found names a x (λ c. with_cord (plain_names names) b (go c)) one ∙ missing names b (go (plain_of x)) none);
  re = refl;
}

-- ---- the steps
low-cord : (y : Cord) (made : CordShape) → IsCord y → made.tree ≡ y.shape → ¬ (NeedsHeight12 made)
low-cord y made is same = λ high.
    let low = cord-low (length y.bytes) y.shape is.whole in
    let e = ap level_in same in
    omega (arith, low, high, e)

module _ (choice : Bool) (options : Options) (p : ℕ) (s : Session) (command : Command) where
  pub comes-done : (d : Doing) (c : CordState) → ComesTo choice s.names command d c → (mark : NewMark) (lost : Option ℕ) → IsDoneReply options s d (replies.Done mark lost)
      → AreCords s.names → IsWithin (Plain command) → (y : Cord) → IsCord y → c.bytes ≡ y.bytes → d.made.tree ≡ y.shape → y.note ≡ note_after (kept_note d) mark
      → StepsTo options p s (Plain command) (Told (replies.Done mark lost)) (naming s.names d.name (Some y)) (s.trees + (if is_new d then 1 else 0)) s.externals
  comes-done d c k mark lost is all within y whole bytes shape note = record {
    step = λ cells. done-step choice options p s cells command k.o k.oe d k.de k.re mark lost is (low-cord y d.made whole shape) all within c y k.on bytes shape whole.sum note;
  }

  pub answers-told : (r : Reply) → Answers s.names command r → IsOther r → StepsTo options p s (Plain command) (Told r) s.names s.trees s.externals
  answers-told r k other = record { step = λ cells. told-step choice options p s cells command k.o k.oe r k.re other }

  pub comes-height : (d : Doing) (c : CordState) → ComesTo choice s.names command d c → NeedsHeight12 d.made → StepsTo options p s (Plain command) Height s.names s.trees s.externals
  comes-height d c k high = record { step = λ cells. height-step choice options p s cells command k.o k.oe d k.de k.re high }

  pub comes-cords : (d : Doing) (c : CordState) → ComesTo choice s.names command d c → (n : ℕ) → ¬ (NeedsHeight12 d.made) → IsTrue (needs_pass d) → options.passes ≤ n
      → StepsTo options p s (Plain command) (Cords n) s.names s.trees s.externals
  comes-cords d c k n low needs limit = record { step = λ cells. cords-step choice options p s cells command k.o k.oe d k.de k.re n low needs limit }

  pub comes-pool : (d : Doing) (c : CordState) → ComesTo choice s.names command d c → (n : ℕ) → ¬ (NeedsHeight12 d.made) → IsTrue (needs_numbers d) → n ≡ options.numbers
      → StepsTo options p s (Plain command) (Pool n) s.names s.trees s.externals
  comes-pool d c k n low needs size = record { step = λ cells. pool-step choice options p s cells command k.o k.oe d k.de k.re n low needs size }

-- an external, where the session owns another box
abbrev making : Session → List ℕ → Text → Doing
making s a text = external_doing s.names a (text_bytes text)

module _ (options : Options) (p : ℕ) (s : Session) (a : List ℕ) (text : Text) where
  external-answer : (cells : Cells) (answer : Answer Report) → has_box s ≡ true → IsDoneAnswer options s (making s a text) answer → IsAnswer true options s cells (External a text) answer
  external-answer cells answer box is = subst (λ (b : Bool). IsExternalAnswer b options s (making s a text) answer) (sym box) is

  pub external-none : has_box s ≡ false → StepsTo options p s (External a text) Releasers s.names s.trees s.externals
  external-none box = record {
    step = λ cells. record { choice = true; answered = subst (λ (b : Bool). IsExternalAnswer {Report = Report} b options s (making s a text) Releasers) (sym box) refl; done = refl };
  }

  pub external-done : has_box s ≡ true → (mark : NewMark) (lost : Option ℕ) → IsDoneReply options s (making s a text) (replies.Done mark lost) → (y : Cord) → IsCord y → text_bytes text ≡ y.bytes
      → Some (external_shape (length (text_bytes text))) ≡ y.shape → y.sum ≡ None → y.note ≡ note_after (kept_note (making s a text)) mark
      → StepsTo options p s (External a text) (Told (replies.Done mark lost)) (naming s.names a (Some y)) (s.trees + (if is_new (making s a text) then 1 else 0)) (s.externals + 1)
  external-done box mark lost reply y whole same shape sum note =
      let is : cord_with (making s a text) mark (plain (text_bytes text)) ≡ y = λ i. record { bytes = same i; sum = sym sum i; shape = shape i; note = sym note i } in
      record {
        step = λ cells. record {
          choice = true;
          answered = external-answer cells (Told (replies.Done mark lost)) box (low-cord y (making s a text).made whole shape, reply);
          done = ap (λ (z : Cord). left (record s { names = naming s.names a (Some z); trees = s.trees + (if is_new (making s a text) then 1 else 0); externals = s.externals + 1 }) cells) (sym is);
        };
      }

  pub external-height : has_box s ≡ true → NeedsHeight12 (making s a text).made → StepsTo options p s (External a text) Height s.names s.trees s.externals
  external-height box high = record { step = λ cells. record { choice = true; answered = external-answer cells Height box high; done = refl } }

  pub external-cords : has_box s ≡ true → (n : ℕ) → ¬ (NeedsHeight12 (making s a text).made) → IsTrue (needs_pass (making s a text)) → options.passes ≤ n
      → StepsTo options p s (External a text) (Cords n) s.names s.trees s.externals
  external-cords box n low needs limit = record { step = λ cells. record { choice = true; answered = external-answer cells (Cords n) box (low, needs, limit); done = refl } }

  pub external-pool : has_box s ≡ true → (n : ℕ) → ¬ (NeedsHeight12 (making s a text).made) → IsTrue (needs_numbers (making s a text)) → n ≡ options.numbers
      → StepsTo options p s (External a text) (Pool n) s.names s.trees s.externals
  external-pool box n low needs size = record { step = λ cells. record { choice = true; answered = external-answer cells (Pool n) box (low, needs, size); done = refl } }
