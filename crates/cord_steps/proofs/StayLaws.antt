-- Each step leaves whole cords, in the session and in the cells.
use Rattle.std.proofs.Common.{◌≡◌, ◌∙◌, sym, ap, subst, refl, ℕ, zero, suc, ◌+◌, ◌<◌, ◌≤◌, List, [], ◌∷◌, length, Option, Some, None, Bool, true, false, cond, inl, inr, ◌⊎◌, arith}
use Rattle.std.specs.Prelude.{option_map, is_some, slice_set, ◌&&◌, if◌then◌else◌}
use Rattle.std.specs.Str.{bytes_eq}
use Rattle.plain_cord.specs.declared.script.Command.{Command}
use Rattle.plain_cord.specs.declared.script.Command.TheVariants as commands
use Rattle.plain_cord.specs.declared.history.Act.TheVariants.{Take, Swap}
use Rattle.plain_cord.specs.declared.reply.NewMark.{NewMark}
use Rattle.plain_cord.specs.declared.reply.NewMark.TheVariants as marks
use Rattle.plain_cord.specs.declared.reply.Reply.{Reply}
use Rattle.plain_cord.specs.declared.reply.Reply.TheVariants as replies
use Rattle.plain_cord.specs.States.{CordState, plain}
use Rattle.plain_cord.specs.Outcomes.{Outcome, outcome}
use Rattle.plain_cord.specs.Texts.{text_bytes}
use Rattle.plain_cord.specs.Deeds.{after_of}
use Rattle.tree_shapes.specs.Cords.{CordShape, IsTreeFor, IsCordShape, level_in}
use Rattle.tree_shapes.proofs.CordLaws.{external-whole}
use Rattle.cord_steps.specs.Answers.{Request, Plain, External, Snap, Walk, Unsnap, Answer, Told, Ended}
use Rattle.cord_steps.specs.Boarding.{held_in, acting, given, brought, noted_by, putting, swapping, peeking, board_effect, IsPeekReply, IsPeekAnswer, IsBoardAnswer}
use Rattle.cord_steps.specs.Cords.{Cord, Note, Names, IsCord, no_bytes, naming, plain_names, shape_in, note_in, stamp_in}
use Rattle.cord_steps.specs.Doings.{Manner, Fresh, Copied, Changed, Doing, doing, external_doing}
use Rattle.cord_steps.specs.Marks.{is_tree, was_tree, new_step, is_new, is_turn, sampled_step, is_sampled, kept_step, kept_note, mark_of, told_note, IsMark, note_after}
use Rattle.cord_steps.specs.Sessions.{Options, Session, Cells, Effect}
use Rattle.cord_steps.specs.Steps.{IsDoneReply, IsByteAnswer, IsCommandAnswer, IsExternalAnswer, has_box, cord_with, after_done, after_reply, after_doing, command_effect, external_after, snap_after, unsnap_after, IsStep}
use Rattle.cord_steps.specs.Whole.{AreWhole, IsWithin}
use Rattle.cord_steps.proofs.WholeLaws.{Made, WhenDone, IsMade, makes}

abbrev AllWhole : Names → Type 0
AllWhole names = (a : List ℕ) (c : Cord) → names a ≡ Some c → IsCord c

-- ---- notes of cords without a tree
new-none : (m : Manner) (was : Bool) → new_step m false was ≡ false
new-none Fresh was = refl
new-none (Copied _) was = refl
new-none (Changed _) was = refl

pub told-none : (m : Manner) → told_note m None ≡ None
told-none Fresh = refl
told-none (Copied _) = refl
told-none (Changed true) = refl
told-none (Changed false) = refl

-- a copy of a cord without a tree is not sampled
abbrev IsSourced : Manner → CordShape → Type 0
IsSourced m made = made.tree ≡ None → sampled_step m false ≡ false

no-note : (options : Options) (s : Session) (d : Doing) (mark : NewMark) → IsSourced d.manner d.made → IsMark (is_sampled options s d) d.manner (kept_note d) d.made.size mark → d.made.tree ≡ None → note_after (kept_note d) mark ≡ None
no-note options s d mark source is none =
    let tree : is_tree d ≡ false = ap is_some none in
    let kept : kept_note d ≡ None = ap (λ (b : Bool). if b then kept_step d.manner (note_in d.old) else None) tree in
    let new : is_new d ≡ false = ap (λ (b : Bool). new_step d.manner b (was_tree d)) tree ∙ new-none d.manner (was_tree d) in
    let sampled : is_sampled options s d ≡ false = ap (λ (b : Bool). sampled_step d.manner (b && is_turn options s)) new ∙ source none in
    let at : IsMark false d.manner None d.made.size mark = subst (λ (b : Bool). IsMark b d.manner None d.made.size mark) sampled (subst (λ (k : Option Note). IsMark (is_sampled options s d) d.manner k d.made.size mark) kept is) in
    let plain_mark : mark ≡ marks.Plain = at ∙ ap (λ (k : Option Note). mark_of k d.made.size) (told-none d.manner) in
    λ i. note_after (kept i) (plain_mark i)

-- ---- the cord that a name gets
cord-whole : (options : Options) (s : Session) (d : Doing) (mark : NewMark) (c : CordState) → Made d.made c → (12 < level_in d.made.tree → ⊥) → IsSourced d.manner d.made → IsMark (is_sampled options s d) d.manner (kept_note d) d.made.size mark → IsCord (cord_with d mark c)
cord-whole options s d mark c m low source is = record {
  whole = subst (λ (n : ℕ). IsTreeFor n d.made.tree) (sym m.size) (m.whole (omega (arith, low)));
  sum = m.sum;
  noted = no-note options s d mark source is;
}

named-whole : (names : Names) (a : List ℕ) (o : Option Cord) → AllWhole names → ((c : Cord) → o ≡ Some c → IsCord c) → AllWhole (naming names a o)
named-whole names a o all one q c is = go (bytes_eq a q) is
  where
    go : (b : Bool) → cond b o (names q) ≡ Some c → IsCord c
    go true e = one c e
    go false e = all q c e

mapped-whole : (f : CordState → Cord) (o : Option CordState) → ((c : CordState) → o ≡ Some c → IsCord (f c)) → (c : Cord) → option_map f o ≡ Some c → IsCord c
mapped-whole f None one c is = absurd (cc)
mapped-whole f (Some x) one c is = let e : f x ≡ c = cc in subst IsCord e (one x refl)

-- ---- a command on byte strings
module _ (options : Options) (s : Session) (all : AllWhole s.names) where
  done-whole : (o : Outcome) (d : Doing) (mark : NewMark) → ((c : CordState) → o.names d.name ≡ Some c → Made d.made c) → (12 < level_in d.made.tree → ⊥) → IsSourced d.manner d.made → IsMark (is_sampled options s d) d.manner (kept_note d) d.made.size mark → AllWhole (after_done s (o.names d.name) d mark).names
  done-whole o d mark made low source is =
      named-whole s.names d.name (option_map (cord_with d mark) (o.names d.name)) all
      (mapped-whole (cord_with d mark) (o.names d.name) (λ c found. cord-whole options s d mark c (made c found) low source is))

  byte-whole : (R : Type 0) (o : Outcome) (d : Doing) (r reply : Reply) → WhenDone r ((c : CordState) → o.names d.name ≡ Some c → Made d.made c) → IsSourced d.manner d.made → (let a : Answer R = Told reply in IsByteAnswer options s (Some d) r a) → AllWhole (after_reply s (o.names d.name) d reply).names
  byte-whole R o d (replies.Done _ _) (replies.Done mark _) made source is = done-whole o d mark made is.0 source is.1.0
  byte-whole R o d (replies.Done _ _) _ made source is = absurd (is.1)
  byte-whole R o d r reply made source is = let e : reply ≡ r = cc in subst (λ (q : Reply). AllWhole (after_reply s (o.names d.name) d q).names) (sym e) all

  abbrev IsSourcedFor : Option Doing → Type 0
  IsSourcedFor None = Unit {0}
  IsSourcedFor (Some d) = IsSourced d.manner d.made

  after-whole : {R : Type 0} (o : Outcome) (d : Option Doing) (answer : Answer R) → IsMade (Some o) d → IsSourcedFor d → IsByteAnswer options s d o.reply answer → AllWhole (after_doing s o d answer).names
  after-whole o None answer made source is = all
  after-whole {R} o (Some d) (Told reply) made source is = byte-whole R o d o.reply reply made source is
  after-whole o (Some d) _ made source is = all

  copy-sourced : (from : Option Cord) → ((c : Cord) → from ≡ Some c → IsCord c) → (shape_in from).tree ≡ None → is_some (note_in from) ≡ false
  copy-sourced None one none = refl
  copy-sourced (Some c) one none = ap is_some ((one c refl).noted none)

  sourced : (choice : Bool) (command : Command) → IsSourcedFor (doing choice s.names command)
  sourced choice (commands.Let a text) = λ z. refl
  sourced choice (commands.Ext a text) = λ z. refl
  sourced choice (commands.Copy a b) = copy-sourced (s.names a) (λ c is. all a c is)
  sourced choice (commands.Sub a pos n b) = λ z. refl
  sourced choice (commands.Clear a) = λ z. refl
  sourced choice (commands.Append a text) = λ z. refl
  sourced choice (commands.Prepend a text) = λ z. refl
  sourced choice (commands.Join a b) = λ z. refl
  sourced choice (commands.JoinFront a b) = λ z. refl
  sourced choice (commands.CutFront a n) = λ z. refl
  sourced choice (commands.CutBack a n) = λ z. refl
  sourced choice (commands.SetSum a value) = λ z. refl
  sourced choice _ = tt

-- ---- the board
held-set : (cells : Cells) (k q : ℕ) (x : Option Cord) (c : Cord) → held_in (slice_set cells k x) q ≡ Some c → (x ≡ Some c) ⊎ (held_in cells q ≡ Some c)
held-set [] k q x c is = inr is
held-set (y ∷ ys) zero zero x c is = inl is
held-set (y ∷ ys) zero (suc q) x c is = inr is
held-set (y ∷ ys) (suc k) zero x c is = inr is
held-set (y ∷ ys) (suc k) (suc q) x c is = held-set ys k q x c is

empty-whole : IsCord no_bytes
empty-whole = record { whole = omega arith; sum = refl; noted = λ z. refl }

cells-whole : (cells : Cells) (k : ℕ) (x : Option Cord) → ((q : ℕ) (c : Cord) → held_in cells q ≡ Some c → IsCord c) → ((c : Cord) → x ≡ Some c → IsCord c) → (q : ℕ) (c : Cord) → held_in (slice_set cells k x) q ≡ Some c → IsCord c
cells-whole cells k x all one q c is = go (held-set cells k q x c is)
  where
    go : (x ≡ Some c) ⊎ (held_in cells q ≡ Some c) → IsCord c
    go (inl e) = one c e
    go (inr e) = all q c e

given-whole : (names : Names) (a : List ℕ) (o : Option Cord) → AllWhole names → ((c : Cord) → o ≡ Some c → IsCord c) → AllWhole (given names a o)
given-whole names a None all one = all
given-whole names a (Some c) all one = named-whole names a (Some c) all one

none-whole : (c : Cord) → (let o : Option Cord = None in o ≡ Some c) → IsCord c
none-whole c is = absurd (cc)

some-whole : (x : Cord) → IsCord x → (c : Cord) → (let o : Option Cord = Some x in o ≡ Some c) → IsCord c
some-whole x whole c is = let e : x ≡ c = cc in subst IsCord e whole

noted-whole : (cell : ℕ) (was : Option Cord) (stamp : Option ℕ) (reply : Reply) → IsPeekReply cell was stamp reply → ((c : Cord) → was ≡ Some c → IsCord c) → (c : Cord) → option_map (noted_by reply) was ≡ Some c → IsCord c
noted-whole cell None stamp reply is one c found = absurd (cc)
noted-whole cell (Some x) stamp (replies.Done mark lost) is one c found =
    let w = one x refl in
    let e : noted_by (replies.Done mark lost) x ≡ c = cc in
    subst IsCord e (record {
      whole = w.whole;
      sum = w.sum;
      noted = λ none.
          let unsampled : is_some x.note ≡ false = ap is_some (w.noted none) in
          let at : IsMark false (Copied x.note) None (length x.bytes) mark = subst (λ (b : Bool). IsMark b (Copied x.note) None (length x.bytes) mark) unsampled is.0 in
          let plain_mark : mark ≡ marks.Plain = at in
          ap (note_after None) plain_mark;
    })
noted-whole cell (Some x) stamp _ is one c found = absurd is

module _ (p : ℕ) (s : Session) (cells : Cells) (all : AreWhole s cells) where
  lies : (cell : ℕ) (c : Cord) → held_in cells cell ≡ Some c → IsCord c
  lies cell c is = all.held cell c is

  put-whole : (a : List ℕ) (cell : ℕ) (own : Option Cord) → s.names a ≡ own → AreWhole (putting p s cells a cell own).state (putting p s cells a cell own).cells
  put-whole a cell None is = all
  put-whole a cell (Some c) is = record {
    named = named-whole s.names a (Some no_bytes) all.named (some-whole no_bytes empty-whole);
    held = cells-whole cells cell (Some c) all.held (some-whole c (all.named a c is));
  }

  take-whole : (a : List ℕ) (cell : ℕ) → AreWhole (acting p s cells Take cell None (held_in cells cell) (given s.names a (held_in cells cell))).state (acting p s cells Take cell None (held_in cells cell) (given s.names a (held_in cells cell))).cells
  take-whole a cell = record {
    named = given-whole s.names a (held_in cells cell) all.named (lies cell);
    held = cells-whole cells cell None all.held none-whole;
  }

  peek-whole : {R : Type 0} (options : Options) (a : List ℕ) (cell : ℕ) (answer : Answer R) → IsPeekAnswer options cell (held_in cells cell) (stamp_in (s.names a)) answer → AreWhole (peeking p s cells a cell answer).state (peeking p s cells a cell answer).cells
  peek-whole options a cell (Told reply) is = record {
    named = given-whole s.names a (option_map (noted_by reply) (held_in cells cell)) all.named (noted-whole cell (held_in cells cell) (stamp_in (s.names a)) reply is (lies cell));
    held = cells-whole cells cell (held_in cells cell) all.held (lies cell);
  }
  peek-whole options a cell _ is = all

  swap-in : (a : List ℕ) (cell : ℕ) (c : Cord) (was : Option Cord) → held_in cells cell ≡ was → IsCord c → (x : Cord) → after_of Swap (brought c was) was ≡ Some x → IsCord x
  swap-in a cell c None is whole x found = absurd (cc)
  swap-in a cell c (Some w) is whole x found = some-whole c whole x found

  swap-whole : (a : List ℕ) (cell : ℕ) (own : Option Cord) → s.names a ≡ own → AreWhole (swapping p s cells a cell own).state (swapping p s cells a cell own).cells
  swap-whole a cell None is = all
  swap-whole a cell (Some c) is = record {
    named = given-whole s.names a (held_in cells cell) all.named (lies cell);
    held = cells-whole cells cell (after_of Swap (brought c (held_in cells cell)) (held_in cells cell)) all.held (swap-in a cell c (held_in cells cell) refl (all.named a c is));
  }

  board-whole : {R : Type 0} (options : Options) (command : Command) (answer : Answer R) → IsBoardAnswer options s cells command answer → AreWhole (board_effect p s cells command answer).state (board_effect p s cells command answer).cells
  board-whole options (commands.Put a cell) answer is = put-whole a cell (s.names a) refl
  board-whole options (commands.Take cell a) answer is = take-whole a cell
  board-whole options (commands.Peek cell a) answer is = peek-whole options a cell answer is
  board-whole options (commands.Swap a cell) answer is = swap-whole a cell (s.names a) refl
  board-whole options _ answer is = all

  command-whole : {R : Type 0} (options : Options) (choice : Bool) (command : Command) (o : Option Outcome) (answer : Answer R) → IsMade o (doing choice s.names command) → IsCommandAnswer choice options s cells command o answer → AreWhole (command_effect choice p s cells command o answer).state (command_effect choice p s cells command o answer).cells
  command-whole options choice command None answer made is = board-whole options command answer is
  command-whole options choice command (Some o) answer made is = record {
    named = after-whole options s all.named o (doing choice s.names command) answer made (sourced options s all.named choice command) is;
    held = all.held;
  }

  -- ---- an external
  external-reply : (options : Options) (a bytes : List ℕ) (reply : Reply) → 15 < length bytes → length bytes ≤ 2147483647 → IsDoneReply options s (external_doing s.names a bytes) reply → AllWhole (after_reply (record s { externals = s.externals + 1 }) (Some (plain bytes)) (external_doing s.names a bytes) reply).names
  external-reply options a bytes (replies.Done mark lost) large small is =
      let d = external_doing s.names a bytes in
      let shape : IsCordShape d.made = external-whole (length bytes) large small in
      named-whole s.names a (Some (cord_with d mark (plain bytes))) all.named
      (some-whole (cord_with d mark (plain bytes)) (record { whole = shape; sum = refl; noted = λ none. absurd (cc) }))
  external-reply options a bytes _ large small is = absurd is

  external-on : {R : Type 0} (options : Options) (a bytes : List ℕ) (b : Bool) (answer : Answer R) → 15 < length bytes → length bytes ≤ 2147483647 → IsExternalAnswer b options s (external_doing s.names a bytes) answer → AllWhole (external_after s bytes (external_doing s.names a bytes) answer).names
  external-on options a bytes false (Told reply) large small is = absurd (cc)
  external-on options a bytes true (Told reply) large small is = external-reply options a bytes reply large small is.1
  external-on options a bytes b _ large small is = all.named

pub snap-names : {R : Type 0} (s : Session) (answer : Answer R) → (snap_after s answer).names ≡ s.names
snap-names s (Told reply) = refl
snap-names s _ = refl

pub unsnap-names : {R : Type 0} (s : Session) (answer : Answer R) → (unsnap_after s answer).names ≡ s.names
unsnap-names s (Ended deleted) = refl
unsnap-names s _ = refl

pub step-whole : {R : Type 0} (options : Options) (p : ℕ) (s : Session) (cells : Cells) (request : Request) (answer : Answer R) (e : Effect) → IsStep options p s cells request answer e → IsWithin request → AreWhole s cells → AreWhole e.state e.cells
step-whole options p s cells (Plain command) answer e step within all =
    subst (λ (x : Effect). AreWhole x.state x.cells) (sym step.done)
    (command-whole p s cells all options step.choice command (outcome (plain_names s.names) command) answer (makes step.choice s.names all.named command within) step.answered)
step-whole options p s cells (External a text) answer e step within all =
    subst (λ (x : Effect). AreWhole x.state x.cells) (sym step.done)
    (record { named = external-on p s cells all options a (text_bytes text) (has_box s) answer within.0 within.1 step.answered; held = all.held })
step-whole options p s cells Snap answer e step within all =
    subst (λ (x : Effect). AreWhole x.state x.cells) (sym step.done) (record { named = subst AllWhole (sym (snap-names s answer)) all.named; held = all.held })
step-whole options p s cells Walk answer e step within all = subst (λ (x : Effect). AreWhole x.state x.cells) (sym step.done) all
step-whole options p s cells Unsnap answer e step within all =
    subst (λ (x : Effect). AreWhole x.state x.cells) (sym step.done) (record { named = subst AllWhole (sym (unsnap-names s answer)) all.named; held = all.held })
