-- One command of a session by itself: from what the board and the names tell of it.
use Rattle.std.proofs.Common.{◌≡◌, ◌∙◌, sym, ap, subst, refl, ℕ, ◌+◌, ◌≤◌, List, [], ◌∷◌, ◌++◌, map, length, Option, Some, None, Result, Ok, Err, append-nil, length-append, arith}
use Rattle.std.specs.Prelude.{option_map, IfOk, IsNone, IsSomeAnd, MatchOption}
use Rattle.plain_cord.specs.declared.deed.Deed.{Deed}
use Rattle.plain_cord.specs.declared.history.Act.TheVariants.{Put, Take, Peek, Swap}
use Rattle.plain_cord.specs.declared.reply.Reply.TheVariants as replies
use Rattle.plain_cord.specs.declared.script.Command.{Command}
use Rattle.plain_cord.specs.declared.script.Command.TheVariants as commands
use Rattle.plain_cord.specs.Deeds.{deed, mapped_deed}
use Rattle.plain_cord.specs.Outcomes.{asked_action}
use Rattle.pool_rule.specs.Views.{View}
use Rattle.node_pool.specs.Passes.{counted, uncounted}
use Rattle.ordered_names.specs.declared.names.Names.{Names}
use Rattle.ordered_names.specs.Named.{named}
use Rattle.cord_value.specs.Views.{CordView, no_cord, IsTreeOf}
use Rattle.cord_value.proofs.Balances.{balanced-limit}
use Rattle.cord_steps.specs.Answers.{Request, Plain}
use Rattle.cord_steps.specs.Answers as steps
use Rattle.cord_steps.specs.Boarding.{given, gave_up}
use Rattle.cord_steps.specs.Cords.{no_bytes, naming, stamp_in}
use Rattle.cord_steps.specs.Cords as cords
use Rattle.cord_steps.specs.Replies.{request_of}
use Rattle.cord_steps.specs.Sessions.{Options, Session}
use Rattle.cord_runs.specs.Alone.{AreNames, acted_with, StepsAlone}
use Rattle.cord_runs.specs.Runs.{IsApart}
use Rattle.cord_runs.proofs.AloneLaws.{apart-alone, put-unset, swap-unset, peek-refused, put-alone, take-alone, peek-alone, swap-alone}
use Rattle.cord_board.specs.declared.view.BoardView.{BoardView}
use Rattle.cord_board.specs.Views.{session_of, mine_of, next_place, Did}
use Rattle.cord_commands.specs.declared.answer.Answer.{Answer}
use Rattle.cord_commands.specs.declared.answer.Answer.TheVariants.{Told, Cords}
use Rattle.cord_commands.specs.Answers.{ok, told_by}
use Rattle.cord_commands.specs.Bare.{StepsTo}
use Rattle.cord_commands.specs.Does.{NoReport, AreFor, AreFormed, IsCause, Does}
use Rattle.cord_commands.specs.Views.{cord_in, names_of, AreSame, IsSetTo}
use Rattle.cord_commands.proofs.Doing.{set-naming, same-names, found-in, none-in, formed-same, formed-set}
use Rattle.cord_seats.specs.Working.{did_of, Advances}

pub map-more : {A B : Type 0} (f : A → B) (xs : List A) (x : A) → map f (xs ++ x ∷ []) ≡ map f xs ++ f x ∷ []
map-more f [] x = refl
map-more f (y ∷ xs) x = ap (λ z. f y ∷ z) (map-more f xs x)

-- no cord has a record
stampless : (o : Option CordView) → stamp_in (option_map cord_in o) ≡ None
stampless None = refl
stampless (Some c) = refl

no-cord-whole : IsTreeOf no_cord.bytes no_cord.tree
no-cord-whole = omega arith

module _ (size limit : ℕ) (v w : View) (old new : Names CordView) (unused : w.unused ≡ v.unused) where
  -- nothing was done on the board, and the names stay
  advances-quiet : (seat : BoardView CordView) (request : Request) (answer : Answer) → AreSame old new → IsCause size limit v w answer
      → ((options : Options) (s : Session) → AreFor options size limit → s.names ≡ names_of old → StepsAlone {Report = NoReport} options (session_of seat) s (request, told_by answer) [] s)
      → Advances size limit seat seat v w old new request answer
  advances-quiet seat request answer same cause step = record {
    formed = formed-same old new same;
    now = [];
    did = sym (append-nil (did_of seat));
    step = λ options s for at whole. record {
      after = s;
      at = record {
        at = record { names = at.at.names ∙ same-names old new same; boxes = omega (arith, at.at.boxes, ap length unused) };
        acted = at.acted;
      };
      step = step options s for at.at.names;
    };
    cause = cause;
  }

  -- one action
  advances-acting : (seat after : BoardView CordView) (request : Request) (answer : Answer) (d : Deed CordView) → Did seat after d → (AreFormed old → AreFormed new)
      → IsCause size limit v w answer → ((options : Options) (s : Session) → s.names ≡ names_of old → s.acted + 1 ≡ next_place seat
      → StepsAlone {Report = NoReport} options (session_of seat) s (request, told_by answer) (mapped_deed cord_in d ∷ []) (acted_with s (names_of new)))
      → Advances size limit seat after v w old new request answer
  advances-acting seat after request answer d did formed cause step =
      let mine : mine_of after ≡ mine_of seat ++ d ∷ [] = ap mine_of did in
      let count : length (mine_of after) ≡ length (mine_of seat) + 1 = ap length mine ∙ length-append (mine_of seat) (d ∷ []) in
      record {
        formed = formed;
        now = mapped_deed cord_in d ∷ [];
        did = ap (map (mapped_deed cord_in)) mine ∙ map-more (mapped_deed cord_in) (mine_of seat) d;
        step = λ options s for at whole. record {
          after = acted_with s (names_of new);
          at = record {
            at = record { names = refl; boxes = omega (arith, at.at.boxes, ap length unused) };
            acted = ap (λ n. n + 1) at.acted ∙ sym count;
          };
          step = step options s at.at.names (ap (λ n. n + 1) at.acted);
        };
        cause = cause;
      }

  -- ---- the name was never set
  pub put-unset-advances : (seat : BoardView CordView) (a : List ℕ) (cell : ℕ) (answer : Answer) → named old a ≡ None → AreSame old new → answer ≡ Told (replies.Unset a)
      → Advances size limit seat seat v w old new (Plain (commands.Put a cell)) answer
  put-unset-advances seat a cell answer none same is = subst (Advances size limit seat seat v w old new (Plain (commands.Put a cell))) (sym is)
      (advances-quiet seat (Plain (commands.Put a cell)) (Told (replies.Unset a)) same tt
      (λ options s for have. put-unset {R = NoReport} options (session_of seat) s a cell (ap (λ (z : cords.Names). z a) have ∙ none-in old a none)))

  pub swap-unset-advances : (seat : BoardView CordView) (a : List ℕ) (cell : ℕ) (answer : Answer) → named old a ≡ None → AreSame old new → answer ≡ Told (replies.Unset a)
      → Advances size limit seat seat v w old new (Plain (commands.Swap a cell)) answer
  swap-unset-advances seat a cell answer none same is = subst (Advances size limit seat seat v w old new (Plain (commands.Swap a cell))) (sym is)
      (advances-quiet seat (Plain (commands.Swap a cell)) (Told (replies.Unset a)) same tt
      (λ options s for have. swap-unset {R = NoReport} options (session_of seat) s a cell (ap (λ (z : cords.Names). z a) have ∙ none-in old a none)))

  -- ---- there was no pass
  pub peek-refused-advances : (seat : BoardView CordView) (cell : ℕ) (a : List ℕ) (found : ℕ) → limit ≤ found → w ≡ uncounted (counted found v)
      → AreSame old new → Advances size limit seat seat v w old new (Plain (commands.Peek cell a)) (Cords found)
  peek-refused-advances seat cell a found most undone same = advances-quiet seat (Plain (commands.Peek cell a)) (Cords found) same (balanced-limit limit found v w most undone)
      (λ options s for have. peek-refused {R = NoReport} options (session_of seat) s cell a found (omega (arith, for.passes, most)))

  -- ---- one action
  -- the name of a session that has the old names is set, as the new names tell
  set-names : (s : Session) (a : List ℕ) (c : CordView) → s.names ≡ names_of old → IsSetTo old new a c → AreNames (names_of new) (naming s.names a (Some (cord_in c)))
  set-names s a c have set = λ q. ap (λ (z : cords.Names). z q) (sym (set-naming old new a c set)) ∙ ap (λ (z : cords.Names). naming z a (Some (cord_in c)) q) (sym have)

  kept-names : (s : Session) → s.names ≡ names_of old → AreSame old new → AreNames (names_of new) s.names
  kept-names s have same = λ q. ap (λ (z : cords.Names). z q) (sym (have ∙ same-names old new same))

  no-stamp : (s : Session) (a : List ℕ) → s.names ≡ names_of old → stamp_in (s.names a) ≡ None
  no-stamp s a have = ap (λ (z : cords.Names). stamp_in (z a)) have ∙ stampless (named old a)

  module _ (seat after : BoardView CordView) where
    pub put-advances : (a : List ℕ) (cell : ℕ) (item : CordView) (was : Option CordView) (answer : Answer) → named old a ≡ Some item → IsSetTo old new a no_cord
        → Did seat after (deed (session_of seat) (next_place seat) Put cell (Some item) was) → answer ≡ ok → Advances size limit seat after v w old new (Plain (commands.Put a cell)) answer
    put-advances a cell item was answer own set did is = subst (Advances size limit seat after v w old new (Plain (commands.Put a cell))) (sym is)
        (advances-acting seat after (Plain (commands.Put a cell)) ok (deed (session_of seat) (next_place seat) Put cell (Some item) was) did (formed-set old new a no_cord set no-cord-whole) tt
        (λ options s have place. subst (λ (z : ℕ × Option ℕ). StepsAlone {Report = NoReport} options (session_of seat) s (Plain (commands.Put a cell), steps.Told (gave_up z.1))
        (deed (session_of seat) z.0 Put cell (Some (cord_in item)) (option_map cord_in was) ∷ []) (acted_with s (names_of new))) (λ i. (place i, stampless was i))
        (put-alone {R = NoReport} options (session_of seat) s a cell (cord_in item) (option_map cord_in was) (names_of new) (ap (λ (z : cords.Names). z a) have ∙ found-in old a item own)
        (set-names s a no_cord have set))))

    pub take-advances : (cell : ℕ) (a : List ℕ) (c : CordView) (answer : Answer) → IsTreeOf c.bytes c.tree → IsSetTo old new a c
        → Did seat after (deed (session_of seat) (next_place seat) Take cell None (Some c)) → answer ≡ ok → Advances size limit seat after v w old new (Plain (commands.Take cell a)) answer
    take-advances cell a c answer whole set did is = subst (Advances size limit seat after v w old new (Plain (commands.Take cell a))) (sym is)
        (advances-acting seat after (Plain (commands.Take cell a)) ok (deed (session_of seat) (next_place seat) Take cell None (Some c)) did (formed-set old new a c set whole) tt
        (λ options s have place. subst (λ (z : ℕ × Option ℕ). StepsAlone {Report = NoReport} options (session_of seat) s (Plain (commands.Take cell a), steps.Told (gave_up z.1))
        (deed (session_of seat) z.0 Take cell None (Some (cord_in c)) ∷ []) (acted_with s (names_of new))) (λ i. (place i, no-stamp s a have i))
        (take-alone {R = NoReport} options (session_of seat) s cell a (Some (cord_in c)) (names_of new) (set-names s a c have set))))

    pub take-empty-advances : (cell : ℕ) (a : List ℕ) (answer : Answer) → AreSame old new
        → Did seat after (deed (session_of seat) (next_place seat) Take cell None None) → answer ≡ Told (replies.Empty cell)
        → Advances size limit seat after v w old new (Plain (commands.Take cell a)) answer
    take-empty-advances cell a answer same did is = subst (Advances size limit seat after v w old new (Plain (commands.Take cell a))) (sym is)
        (advances-acting seat after (Plain (commands.Take cell a)) (Told (replies.Empty cell)) (deed (session_of seat) (next_place seat) Take cell None None) did (formed-same old new same) tt
        (λ options s have place. subst (λ (z : ℕ). StepsAlone {Report = NoReport} options (session_of seat) s (Plain (commands.Take cell a), steps.Told (replies.Empty cell))
        (deed (session_of seat) z Take cell None None ∷ []) (acted_with s (names_of new))) place
        (take-alone {R = NoReport} options (session_of seat) s cell a None (names_of new) (kept-names s have same))))

    pub peek-advances : (cell : ℕ) (a : List ℕ) (c : CordView) (answer : Answer) → IsTreeOf c.bytes c.tree → IsSetTo old new a c
        → Did seat after (deed (session_of seat) (next_place seat) Peek cell None (Some c)) → answer ≡ ok → Advances size limit seat after v w old new (Plain (commands.Peek cell a)) answer
    peek-advances cell a c answer whole set did is = subst (Advances size limit seat after v w old new (Plain (commands.Peek cell a))) (sym is)
        (advances-acting seat after (Plain (commands.Peek cell a)) ok (deed (session_of seat) (next_place seat) Peek cell None (Some c)) did (formed-set old new a c set whole) tt
        (λ options s have place. subst (λ (z : ℕ). StepsAlone {Report = NoReport} options (session_of seat) s (Plain (commands.Peek cell a), steps.Told (gave_up None))
        (deed (session_of seat) z Peek cell None (Some (cord_in c)) ∷ []) (acted_with s (names_of new))) place
        (peek-alone {R = NoReport} options (session_of seat) s cell a (Some (cord_in c)) (gave_up None) (names_of new) (refl, sym (no-stamp s a have)) (set-names s a c have set))))

    pub peek-empty-advances : (cell : ℕ) (a : List ℕ) (answer : Answer) → AreSame old new
        → Did seat after (deed (session_of seat) (next_place seat) Peek cell None None) → answer ≡ Told (replies.Empty cell)
        → Advances size limit seat after v w old new (Plain (commands.Peek cell a)) answer
    peek-empty-advances cell a answer same did is = subst (Advances size limit seat after v w old new (Plain (commands.Peek cell a))) (sym is)
        (advances-acting seat after (Plain (commands.Peek cell a)) (Told (replies.Empty cell)) (deed (session_of seat) (next_place seat) Peek cell None None) did (formed-same old new same) tt
        (λ options s have place. subst (λ (z : ℕ). StepsAlone {Report = NoReport} options (session_of seat) s (Plain (commands.Peek cell a), steps.Told (replies.Empty cell))
        (deed (session_of seat) z Peek cell None None ∷ []) (acted_with s (names_of new))) place
        (peek-alone {R = NoReport} options (session_of seat) s cell a None (replies.Empty cell) (names_of new) refl (kept-names s have same))))

    pub swap-advances : (a : List ℕ) (cell : ℕ) (item c : CordView) (answer : Answer) → named old a ≡ Some item → IsTreeOf c.bytes c.tree → IsSetTo old new a c
        → Did seat after (deed (session_of seat) (next_place seat) Swap cell (Some item) (Some c)) → answer ≡ ok → Advances size limit seat after v w old new (Plain (commands.Swap a cell)) answer
    swap-advances a cell item c answer own whole set did is = subst (Advances size limit seat after v w old new (Plain (commands.Swap a cell))) (sym is)
        (advances-acting seat after (Plain (commands.Swap a cell)) ok (deed (session_of seat) (next_place seat) Swap cell (Some item) (Some c)) did
        (formed-set old new a c set whole) tt
        (λ options s have place. subst (λ (z : ℕ). StepsAlone {Report = NoReport} options (session_of seat) s (Plain (commands.Swap a cell), steps.Told (gave_up None))
        (deed (session_of seat) z Swap cell (Some (cord_in item)) (Some (cord_in c)) ∷ []) (acted_with s (names_of new))) place
        (swap-alone {R = NoReport} options (session_of seat) s a cell (cord_in item) (Some (cord_in c)) (names_of new) (ap (λ (z : cords.Names). z a) have ∙ found-in old a item own)
        (set-names s a c have set))))

    pub swap-empty-advances : (a : List ℕ) (cell : ℕ) (item : CordView) (answer : Answer) → named old a ≡ Some item → AreSame old new
        → Did seat after (deed (session_of seat) (next_place seat) Swap cell None None) → answer ≡ Told (replies.Empty cell)
        → Advances size limit seat after v w old new (Plain (commands.Swap a cell)) answer
    swap-empty-advances a cell item answer own same did is = subst (Advances size limit seat after v w old new (Plain (commands.Swap a cell))) (sym is)
        (advances-acting seat after (Plain (commands.Swap a cell)) (Told (replies.Empty cell)) (deed (session_of seat) (next_place seat) Swap cell None None) did (formed-same old new same) tt
        (λ options s have place. subst (λ (z : ℕ). StepsAlone {Report = NoReport} options (session_of seat) s (Plain (commands.Swap a cell), steps.Told (replies.Empty cell))
        (deed (session_of seat) z Swap cell None None ∷ []) (acted_with s (names_of new))) place
        (swap-alone {R = NoReport} options (session_of seat) s a cell (cord_in item) None (names_of new) (ap (λ (z : cords.Names). z a) have ∙ found-in old a item own)
        (kept-names s have same))))

-- a command on names
pub does-advances : (size limit : ℕ) (v w : View) (old new : Names CordView) (seat : BoardView CordView) (request : Request) (answer : Answer) → IsApart request
    → Does size limit old new v w request answer → Advances size limit seat seat v w old new request answer
does-advances size limit v w old new seat request answer apart does = record {
  formed = does.formed;
  now = [];
  did = sym (append-nil (did_of seat));
  cause = does.cause;
  step = λ options s for at whole.
      let to : StepsTo {Report = NoReport} options (session_of seat) s request (told_by answer) (names_of new) (s.externals + does.externals) =
      does.step options (session_of seat) s for at.at whole in
      let after : Session = record s { names = names_of new; trees = to.trees; externals = s.externals + does.externals } in
      record {
        after = after;
        at = record { at = record { names = refl; boxes = omega (arith, at.at.boxes, does.used) }; acted = at.acted };
        step = apart-alone {R = NoReport} options (session_of seat) s request (told_by answer) after apart (to.step []);
      };
}

-- a command that asks for nothing on the board
pub apart-request : (command : Command) → asked_action command ≡ None → IsApart (request_of command)
apart-request commands.Snap apart = tt
apart-request commands.Walk apart = tt
apart-request commands.Unsnap apart = tt
apart-request (commands.Ext a text) apart = tt
apart-request (commands.Put a cell) apart = cc
apart-request (commands.Take cell a) apart = cc
apart-request (commands.Peek cell a) apart = cc
apart-request (commands.Swap a cell) apart = cc
apart-request _ apart = refl

-- what holds of an answer wherever it is this one
pub answered-as : {E : Type 0} (Q : Answer → Type 0) (r : Result Answer E) (answer : Answer) → IfOk r (λ given. given ≡ answer) → Q answer → IfOk r Q
answered-as Q (Ok given) answer is holds = subst Q (sym is) holds
answered-as Q (Err e) answer is holds = tt

-- nothing was copied, so nothing was there
pub nothing-there : {A B : Type 0} (Q : A → B → Type 0) (was : Option A) (res : Option B) → res ≡ None → MatchOption was (IsNone res) (λ x. IsSomeAnd res (λ y. Q x y)) → was ≡ None
nothing-there Q None res none told = refl
nothing-there Q (Some x) (Some y) none told = cc
nothing-there Q (Some x) None none told = absurd told

-- a copy was made, so it is one of what was there
pub something-there : {A B : Type 0} (Q : A → B → Type 0) (was : Option A) (res : Option B) (y : B) → res ≡ Some y → MatchOption was (IsNone res) (λ x. IsSomeAnd res (λ z. Q x z))
    → (x : A) × (was ≡ Some x) × Q x y
something-there Q None (Some z) y is told = cc
something-there Q None None y is told = cc
something-there Q (Some x) None y is told = absurd told
something-there {A} {B} Q (Some x) (Some z) y is told = (x, refl, subst (Q x) (one z y is) told)
  where
    one : (x y : B) → (let o : Option B = Some x in let p : Option B = Some y in o ≡ p) → x ≡ y
    one x y e = cc
