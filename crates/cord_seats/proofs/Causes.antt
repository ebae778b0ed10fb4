-- Causes, command after command.
use Rattle.std.proofs.Common.{◌≡◌, refl, ℕ, List, [], ◌∷◌, ◌++◌}
use Rattle.pool_rule.specs.Gains.{HasGained, no_gain, gain_then}
use Rattle.pool_rule.specs.Views.{View}
use Rattle.pool_rule.proofs.Gains.{gained-same, gained-then}
use Rattle.cord_commands.specs.declared.answer.Answer.{Answer}
use Rattle.cord_commands.specs.Does.{IsCause}
use Rattle.cord_seats.specs.Causes.{AreCaused}

grown-none : (v : View) → HasGained v v
grown-none v = record { gain = no_gain; is = gained-same v v refl }

grown-then : (u v w : View) → HasGained u v → HasGained v w → HasGained u w
grown-then u v w one two = record { gain = gain_then one.gain two.gain; is = gained-then one.gain two.gain u v w one.is two.is }

module _ (size limit : ℕ) where
  -- no command yet
  pub caused-none : (v : View) (answers : List Answer) → answers ≡ [] → AreCaused size limit v v answers
  caused-none v [] none = grown-none v
  caused-none v (a ∷ answers) none = cc

  -- one command more
  pub caused-more : (v w x : View) (answers : List Answer) (answer : Answer) → AreCaused size limit v w answers → HasGained w x → IsCause size limit w x answer
      → AreCaused size limit v x (answers ++ answer ∷ [])
  caused-more v w x [] answer grew more cause = (w, x, grew, more, cause, grown-none x)
  caused-more v w x (a ∷ answers) answer c more cause = (c.0, c.1, c.2, c.3, c.4, caused-more c.1 w x answers answer c.5 more cause)

  -- and what the worker did after the last
  pub caused-grown : (v w x : View) (answers : List Answer) → AreCaused size limit v w answers → HasGained w x → AreCaused size limit v x answers
  caused-grown v w x [] grew more = grown-then v w x grew more
  caused-grown v w x (a ∷ answers) c more = (c.0, c.1, c.2, c.3, c.4, caused-grown c.1 w x answers c.5 more)
