-- One command more, and one session more.
use Rattle.std.proofs.Common.{◌≡◌, ℕ, ◌+◌, List, [], ◌∷◌, ◌++◌, ap, sym, ◌∙◌, append_assoc}
use Rattle.std.proofs.Math.Numerals.{add-one}
use Rattle.load_generator.specs.declared.command.LoadCommand.{LoadCommand}
use Rattle.load_generator.specs.declared.course.Course.{Course}
use Rattle.load_generator.specs.Lines.{command_text}
use Rattle.load_generator.specs.Table.{step}
use Rattle.load_generator.specs.Texts.{line, course_at, commands_text, session_text, sessions_text}

module _ (s : ℕ) (first now next : Course) (command : LoadCommand) (j : ℕ) (is : now ≡ course_at first j) (stepped : (command, next) ≡ step j now) where
  pair : (command, next) ≡ step j (course_at first j)
  pair = stepped ∙ ap (step j) is

  pub course_next : next ≡ course_at first (j + 1)
  course_next = ap (λ (z : LoadCommand × Course). z.1) pair ∙ ap (course_at first) (sym (add-one j))

  pub text_next : (old text named ended : List ℕ) → text ≡ old ++ commands_text s first j → named ≡ text ++ command_text s command → ended ≡ named ++ 10 ∷ [] → ended ≡ old ++ commands_text s first (j + 1)
  text_next old text named ended before name end =
      let spelled : command_text s command ≡ command_text s (step j (course_at first j)).0 = ap (λ (z : LoadCommand × Course). command_text s z.0) pair in
      let so_far = commands_text s first j in
      end ∙ (ap (λ (x : List ℕ). x ++ 10 ∷ []) (name ∙ (λ q. before q ++ spelled q))
      ∙ (append_assoc (old ++ so_far) (command_text s (step j (course_at first j)).0) (10 ∷ [])
      ∙ (append_assoc old so_far (line (command_text s (step j (course_at first j)).0))
      ∙ ap (λ n. old ++ commands_text s first n) (sym (add-one j)))))

pub session_next : (seed commands s : ℕ) (old text more : List ℕ) → text ≡ old ++ sessions_text seed commands s → more ≡ text ++ session_text seed commands s → more ≡ old ++ sessions_text seed commands (s + 1)
session_next seed commands s old text more before is =
    is ∙ (ap (λ (x : List ℕ). x ++ session_text seed commands s) before
    ∙ (append_assoc old (sessions_text seed commands s) (session_text seed commands s)
    ∙ ap (λ n. old ++ sessions_text seed commands n) (sym (add-one s))))
