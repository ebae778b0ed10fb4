-- Where no tree is to be sampled none is, and answers have no marks.
use Rattle.std.proofs.Common.{◌≡◌, ◌∙◌, sym, ap, subst, refl, ℕ, zero, suc, ◌+◌, List, [], ◌∷◌, length, Option, Some, None, Bool, true, false, cond}
use Rattle.std.specs.Prelude.{option_map, is_some, slice_set, ◌&&◌, ◌%◌, nat_lt, nat_eq, if◌then◌else◌}
use Rattle.std.specs.Str.{bytes_eq}
use Rattle.plain_cord.specs.declared.history.Act.{Act}
use Rattle.plain_cord.specs.declared.history.Act.TheVariants.{Put, Take, Peek, Swap}
use Rattle.plain_cord.specs.declared.reply.NewMark.{NewMark}
use Rattle.plain_cord.specs.declared.reply.NewMark.TheVariants as marks
use Rattle.plain_cord.specs.declared.reply.Reply.{Reply}
use Rattle.plain_cord.specs.declared.reply.Reply.TheVariants as replies
use Rattle.plain_cord.specs.declared.script.Command.{Command}
use Rattle.plain_cord.specs.declared.script.Command.TheVariants as commands
use Rattle.plain_cord.specs.Deeds.{after_of}
use Rattle.plain_cord.specs.Outcomes.{Outcome, outcome}
use Rattle.plain_cord.specs.States.{CordState, plain}
use Rattle.plain_cord.specs.Texts.{text_bytes}
use Rattle.cord_steps.specs.Answers.{Request, Plain, External, Snap, Walk, Unsnap, Answer, Told, unmarked}
use Rattle.cord_steps.specs.Boarding.{held_in, acting, given, brought, noted_by, putting, swapping, peeking, board_effect, gave_up, unless_empty, put_reply, swap_reply, IsPeekReply, IsPeekAnswer, IsBoardAnswer}
use Rattle.cord_steps.specs.Cords.{Cord, Note, Names, no_bytes, plain_names, naming, note_in, stamp_in}
use Rattle.cord_steps.specs.Doings.{Manner, Fresh, Copied, Changed, Doing, doing, external_doing}
use Rattle.cord_steps.specs.Marks.{is_tree, is_new, is_turn, sampled_step, is_sampled, kept_step, kept_note, gone_step, gone_stamp, mark_of, IsMark, note_after}
use Rattle.cord_steps.specs.Notes.{HaveNoNotes, HasNoMark}
use Rattle.cord_steps.specs.Sessions.{Options, Session, Cells, Effect}
use Rattle.cord_steps.specs.Steps.{IsDoneReply, IsByteAnswer, IsCommandAnswer, IsExternalAnswer, IsSnapAnswer, IsWalkAnswer, IsUnsnapAnswer, has_box, cord_with, after_reply, after_doing, command_effect, external_after, IsStep}
use Rattle.cord_steps.proofs.Settled.{IsSettled, settled}
use Rattle.cord_steps.proofs.StayLaws.{told-none, snap-names, unsnap-names}

abbrev NoNames : Names → Type 0
NoNames names = (a : List ℕ) → note_in (names a) ≡ None

abbrev NoCells : Cells → Type 0
NoCells cells = (cell : ℕ) → note_in (held_in cells cell) ≡ None

named-none : (names : Names) (a : List ℕ) (o : Option Cord) → NoNames names → note_in o ≡ None → NoNames (naming names a o)
named-none names a o all one q = go (bytes_eq a q)
  where
    go : (b : Bool) → note_in (cond b o (names q)) ≡ None
    go true = one
    go false = all q

given-none : (names : Names) (a : List ℕ) (o : Option Cord) → NoNames names → note_in o ≡ None → NoNames (given names a o)
given-none names a None all one = all
given-none names a (Some c) all one = named-none names a (Some c) all one

cells-none : (cells : Cells) (k : ℕ) (x : Option Cord) → NoCells cells → note_in x ≡ None → NoCells (slice_set cells k x)
cells-none [] k x all one q = all q
cells-none (y ∷ ys) zero x all one zero = one
cells-none (y ∷ ys) zero x all one (suc q) = all (suc q)
cells-none (y ∷ ys) (suc k) x all one zero = all zero
cells-none (y ∷ ys) (suc k) x all one (suc q) = cells-none ys k x (λ cell. all (suc cell)) one q

-- ---- what a command makes
and-false : (b : Bool) → b && false ≡ false
and-false true = refl
and-false false = refl

kept-none : (m : Manner) → kept_step m None ≡ None
kept-none Fresh = refl
kept-none (Copied _) = refl
kept-none (Changed true) = refl
kept-none (Changed false) = refl

gone-none : (m : Manner) (now : Bool) → gone_step m now None ≡ None
gone-none Fresh now = refl
gone-none (Copied _) now = refl
gone-none (Changed _) true = refl
gone-none (Changed _) false = refl

stamp-none : (o : Option Cord) → note_in o ≡ None → stamp_in o ≡ None
stamp-none o none = ap (option_map (λ (n : Note). n.stamp)) none

-- neither what the name had nor a source that is copied has a note
record IsBare (d : Doing) : Type 0 where
  pub old : note_in d.old ≡ None
  pub source : sampled_step d.manner false ≡ false

no-kept : (d : Doing) → IsBare d → kept_note d ≡ None
no-kept d bare = ap (λ (n : Option Note). if is_tree d then kept_step d.manner n else None) bare.old ∙ go (is_tree d)
  where
    go : (b : Bool) → (if b then kept_step d.manner None else None) ≡ None
    go true = kept-none d.manner
    go false = refl

no-gone : (d : Doing) → IsBare d → gone_stamp d ≡ None
no-gone d bare = ap (gone_step d.manner (is_tree d)) (stamp-none d.old bare.old) ∙ gone-none d.manner (is_tree d)

-- a reply that is the one on byte strings
bare-is : {R : Type 0} (answer : Answer R) (reply : Reply) → reply ≡ unmarked reply → answer ≡ Told reply → HasNoMark answer
bare-is answer reply bare is = subst HasNoMark (sym is) bare

module _ (options : Options) (none : options.stride ≡ 0) (s : Session) (named : NoNames s.names) where
  no-turn : is_turn options s ≡ false
  no-turn = ap (λ (n : ℕ). nat_lt 0 n && nat_eq ((s.trees + 1) % n) 0) none

  plain-mark : (d : Doing) (mark : NewMark) (n : ℕ) → IsBare d → IsMark (is_sampled options s d) d.manner (kept_note d) n mark → mark ≡ marks.Plain
  plain-mark d mark n bare is =
      let sampled : is_sampled options s d ≡ false = ap (sampled_step d.manner) (ap (λ (b : Bool). is_new d && b) no-turn ∙ and-false (is_new d)) ∙ bare.source in
      let at : IsMark false d.manner None n mark = subst (λ (b : Bool). IsMark b d.manner None n mark) sampled (subst (λ (k : Option Note). IsMark (is_sampled options s d) d.manner k n mark) (no-kept d bare) is) in
      at ∙ ap (λ (k : Option Note). mark_of k n) (told-none d.manner)

  made-none : (d : Doing) (mark : NewMark) (o : Option CordState) → IsBare d → mark ≡ marks.Plain → note_in (option_map (cord_with d mark) o) ≡ None
  made-none d mark None bare is = refl
  made-none d mark (Some c) bare is = λ i. note_after (no-kept d bare i) (is i)

  done-bare : (d : Doing) (mark : NewMark) (lost : Option ℕ) → IsBare d → IsDoneReply options s d (replies.Done mark lost) → replies.Done mark lost ≡ replies.Done marks.Plain None
  done-bare d mark lost bare is = λ i. replies.Done (plain-mark d mark d.made.size bare is.0 i) ((is.1 ∙ no-gone d bare) i)

  byte-none : (R : Type 0) (o : Outcome) (d : Doing) (r reply : Reply) → r ≡ unmarked r → IsBare d → (let a : Answer R = Told reply in IsByteAnswer options s (Some d) r a) → (reply ≡ unmarked reply) × NoNames (after_reply s (o.names d.name) d reply).names
  byte-none R o d (replies.Done _ _) (replies.Done mark lost) told bare is =
      (done-bare d mark lost bare is.1, named-none s.names d.name (option_map (cord_with d mark) (o.names d.name)) named (made-none d mark (o.names d.name) bare (plain-mark d mark d.made.size bare is.1.0)))
  byte-none R o d (replies.Done _ _) _ told bare is = absurd (is.1)
  byte-none R o d r reply told bare is = let e : reply ≡ r = cc in subst (λ (q : Reply). (q ≡ unmarked q) × NoNames (after_reply s (o.names d.name) d q).names) (sym e) (told, named)

  abbrev IsBareFor : Option Doing → Type 0
  IsBareFor None = Unit {0}
  IsBareFor (Some d) = IsBare d

  after-none : {R : Type 0} (o : Outcome) (d : Option Doing) (answer : Answer R) → o.reply ≡ unmarked o.reply → IsBareFor d → IsByteAnswer options s d o.reply answer → HasNoMark answer × NoNames (after_doing s o d answer).names
  after-none o None answer told bare is = (bare-is answer o.reply told is, named)
  after-none {R} o (Some d) (Told reply) told bare is = byte-none R o d o.reply reply told bare is
  after-none o (Some d) _ told bare is = (tt, named)

  bares : (choice : Bool) (command : Command) → IsBareFor (doing choice s.names command)
  bares choice (commands.Let a text) = record { old = named a; source = refl }
  bares choice (commands.Ext a text) = record { old = named a; source = refl }
  bares choice (commands.Copy a b) = record { old = named b; source = ap is_some (named a) }
  bares choice (commands.Sub a pos n b) = record { old = named b; source = refl }
  bares choice (commands.Clear a) = record { old = named a; source = refl }
  bares choice (commands.Append a text) = record { old = named a; source = refl }
  bares choice (commands.Prepend a text) = record { old = named a; source = refl }
  bares choice (commands.Join a b) = record { old = named a; source = refl }
  bares choice (commands.JoinFront a b) = record { old = named a; source = refl }
  bares choice (commands.CutFront a n) = record { old = named a; source = refl }
  bares choice (commands.CutBack a n) = record { old = named a; source = refl }
  bares choice (commands.SetSum a value) = record { old = named a; source = refl }
  bares choice _ = tt

settled-bare : (choice : Bool) (names : Names) (command : Command) (o : Outcome) → outcome (plain_names names) command ≡ Some o → o.reply ≡ unmarked o.reply
settled-bare choice names command o is = go (doing choice names command) (subst (λ (x : Option Outcome). IsSettled (plain_names names) x (doing choice names command)) is (settled choice names command))
  where
    go : (d : Option Doing) → IsSettled (plain_names names) (Some o) d → o.reply ≡ unmarked o.reply
    go None asks = asks.bare
    go (Some d) settles = settles.bare

-- ---- a command on a cell
plain-empty : (cell : ℕ) (o : Option Cord) (stamp : Option ℕ) → stamp ≡ None → unless_empty cell o stamp ≡ unmarked (unless_empty cell o stamp)
plain-empty cell None stamp is = refl
plain-empty cell (Some c) stamp is = ap gave_up is

module _ (p : ℕ) (s : Session) (cells : Cells) (all : HaveNoNotes s cells) where
  -- afterwards, and of the answer
  abbrev Bare : {R : Type 0} → Answer R → Effect → Type 0
  Bare answer e = HasNoMark answer × HaveNoNotes e.state e.cells

  acted-none : (act : Act) (cell : ℕ) (came was : Option Cord) (names : Names) → NoNames names → note_in (after_of act came was) ≡ None → (let e : Effect = acting p s cells act cell came was names in HaveNoNotes e.state e.cells)
  acted-none act cell came was names named after = record { named = named; held = cells-none cells cell (after_of act came was) all.held after }

  put-none : {R : Type 0} (a : List ℕ) (cell : ℕ) (answer : Answer R) (own : Option Cord) → s.names a ≡ own → answer ≡ Told (put_reply a own (held_in cells cell)) → Bare answer (putting p s cells a cell own)
  put-none a cell answer None own is = (bare-is answer (replies.Unset a) refl is, all)
  put-none a cell answer (Some c) own is = (
    bare-is answer (gave_up (stamp_in (held_in cells cell))) (ap gave_up (stamp-none (held_in cells cell) (all.held cell))) is,
    acted-none Put cell (Some c) (held_in cells cell) (naming s.names a (Some no_bytes)) (named-none s.names a (Some no_bytes) all.named refl) (ap note_in (sym own) ∙ all.named a),
  )

  take-none : {R : Type 0} (a : List ℕ) (cell : ℕ) (answer : Answer R) → answer ≡ Told (unless_empty cell (held_in cells cell) (stamp_in (s.names a))) → Bare answer (acting p s cells Take cell None (held_in cells cell) (given s.names a (held_in cells cell)))
  take-none a cell answer is = (
    bare-is answer (unless_empty cell (held_in cells cell) (stamp_in (s.names a))) (plain-empty cell (held_in cells cell) (stamp_in (s.names a)) (stamp-none (s.names a) (all.named a))) is,
    acted-none Take cell None (held_in cells cell) (given s.names a (held_in cells cell)) (given-none s.names a (held_in cells cell) all.named (all.held cell)) refl,
  )

  copy-none : (cell : ℕ) (was : Option Cord) (stamp : Option ℕ) (reply : Reply) → note_in was ≡ None → stamp ≡ None → IsPeekReply cell was stamp reply → (reply ≡ unmarked reply) × (note_in (option_map (noted_by reply) was) ≡ None)
  copy-none cell None stamp reply bare lost is = (subst (λ (r : Reply). r ≡ unmarked r) (sym is) refl, refl)
  copy-none cell (Some c) stamp (replies.Done mark old) bare lost is =
      let at : IsMark false (Copied c.note) None (length c.bytes) mark = subst (λ (b : Bool). IsMark b (Copied c.note) None (length c.bytes) mark) (ap is_some bare) is.0 in
      let unsampled : mark ≡ marks.Plain = at in
      ((λ i. replies.Done (unsampled i) ((is.1 ∙ lost) i)), ap (note_after None) unsampled)
  copy-none cell (Some c) stamp _ bare lost is = absurd is

  peek-none : {R : Type 0} (options : Options) (a : List ℕ) (cell : ℕ) (answer : Answer R) → IsPeekAnswer options cell (held_in cells cell) (stamp_in (s.names a)) answer → Bare answer (peeking p s cells a cell answer)
  peek-none options a cell (Told reply) is =
      let was = held_in cells cell in
      let copy = copy-none cell was (stamp_in (s.names a)) reply (all.held cell) (stamp-none (s.names a) (all.named a)) is in
      (copy.0, acted-none Peek cell None was (given s.names a (option_map (noted_by reply) was)) (given-none s.names a (option_map (noted_by reply) was) all.named copy.1) (all.held cell))
  peek-none options a cell _ is = (tt, all)

  swapped-none : (c : Cord) (was : Option Cord) → c.note ≡ None → note_in (after_of Swap (brought c was) was) ≡ None
  swapped-none c None bare = refl
  swapped-none c (Some x) bare = bare

  swap-none : {R : Type 0} (a : List ℕ) (cell : ℕ) (answer : Answer R) (own : Option Cord) → s.names a ≡ own → answer ≡ Told (swap_reply a cell own (held_in cells cell)) → Bare answer (swapping p s cells a cell own)
  swap-none a cell answer None own is = (bare-is answer (replies.Unset a) refl is, all)
  swap-none a cell answer (Some c) own is = (
    bare-is answer (unless_empty cell (held_in cells cell) None) (plain-empty cell (held_in cells cell) None refl) is,
    acted-none Swap cell (brought c (held_in cells cell)) (held_in cells cell) (given s.names a (held_in cells cell)) (given-none s.names a (held_in cells cell) all.named (all.held cell)) (swapped-none c (held_in cells cell) (ap note_in (sym own) ∙ all.named a)),
  )

  board-none : {R : Type 0} (options : Options) (command : Command) (answer : Answer R) → IsBoardAnswer options s cells command answer → Bare answer (board_effect p s cells command answer)
  board-none options (commands.Put a cell) answer is = put-none a cell answer (s.names a) refl is
  board-none options (commands.Take cell a) answer is = take-none a cell answer is
  board-none options (commands.Peek cell a) answer is = peek-none options a cell answer is
  board-none options (commands.Swap a cell) answer is = swap-none a cell answer (s.names a) refl is
  board-none options _ answer is = absurd is

  -- ---- each request
  module _ (options : Options) (none : options.stride ≡ 0) where
    command-none : {R : Type 0} (choice : Bool) (command : Command) (o : Option Outcome) (answer : Answer R) → outcome (plain_names s.names) command ≡ o → IsCommandAnswer choice options s cells command o answer → Bare answer (command_effect choice p s cells command o answer)
    command-none choice command None answer from is = board-none options command answer is
    command-none choice command (Some o) answer from is =
        let after = after-none options none s all.named o (doing choice s.names command) answer (settled-bare choice s.names command o from) (bares options none s all.named choice command) is in
        (after.0, record { named = after.1; held = all.held })

    external-none : {R : Type 0} (a bytes : List ℕ) (b : Bool) (answer : Answer R) → IsExternalAnswer b options s (external_doing s.names a bytes) answer → HasNoMark answer × NoNames (external_after s bytes (external_doing s.names a bytes) answer).names
    external-none a bytes false (Told reply) is = absurd (cc)
    external-none a bytes true (Told (replies.Done mark lost)) is =
        let d = external_doing s.names a bytes in
        let bare : IsBare d = record { old = all.named a; source = refl } in
        (done-bare options none s all.named d mark lost bare is.1, named-none s.names a (Some (cord_with d mark (plain bytes))) all.named (made-none options none s all.named d mark (Some (plain bytes)) bare (plain-mark options none s all.named d mark d.made.size bare is.1.0)))
    external-none a bytes true (Told _) is = absurd (is.1)
    external-none a bytes b _ is = (tt, all.named)

snap-bare : {R : Type 0} (b : Bool) (answer : Answer R) → IsSnapAnswer b answer → HasNoMark answer
snap-bare true answer is = subst HasNoMark (sym is) tt
snap-bare false answer is = bare-is answer (replies.Done marks.Plain None) refl is

walk-bare : {R : Type 0} (b : Bool) (answer : Answer R) → IsWalkAnswer b answer → HasNoMark answer
walk-bare false answer is = subst HasNoMark (sym is) tt
walk-bare true answer is = subst HasNoMark (sym is.1) tt

unsnap-bare : {R : Type 0} (b : Bool) (answer : Answer R) → IsUnsnapAnswer b answer → HasNoMark answer
unsnap-bare false answer is = subst HasNoMark (sym is) tt
unsnap-bare true answer is = subst HasNoMark (sym is.1) tt

pub step-none : {R : Type 0} (options : Options) (p : ℕ) (s : Session) (cells : Cells) (request : Request) (answer : Answer R) (e : Effect) → options.stride ≡ 0 → IsStep options p s cells request answer e → HaveNoNotes s cells → HasNoMark answer × HaveNoNotes e.state e.cells
step-none options p s cells (Plain command) answer e none step all =
    subst (λ (x : Effect). HasNoMark answer × HaveNoNotes x.state x.cells) (sym step.done)
    (command-none p s cells all options none step.choice command (outcome (plain_names s.names) command) answer refl step.answered)
step-none options p s cells (External a text) answer e none step all =
    let after = external-none p s cells all options none a (text_bytes text) (has_box s) answer step.answered in
    subst (λ (x : Effect). HasNoMark answer × HaveNoNotes x.state x.cells) (sym step.done) (after.0, record { named = after.1; held = all.held })
step-none options p s cells Snap answer e none step all =
    subst (λ (x : Effect). HasNoMark answer × HaveNoNotes x.state x.cells) (sym step.done) (snap-bare s.watches answer step.answered, record { named = subst NoNames (sym (snap-names s answer)) all.named; held = all.held })
step-none options p s cells Walk answer e none step all =
    subst (λ (x : Effect). HasNoMark answer × HaveNoNotes x.state x.cells) (sym step.done) (walk-bare s.watches answer step.answered, all)
step-none options p s cells Unsnap answer e none step all =
    subst (λ (x : Effect). HasNoMark answer × HaveNoNotes x.state x.cells) (sym step.done) (unsnap-bare s.watches answer step.answered, record { named = subst NoNames (sym (unsnap-names s answer)) all.named; held = all.held })
