-- What a feed has got from a source.
use Rattle.std.specs.Prelude.{◌≡◌, ℕ, ◌≤◌, ◌++◌, List, length, Option}
use Rattle.cord_port.specs.Texts.{Gave}
use Rattle.script_reader.specs.declared.feed.ScriptFeed.{ScriptFeed}
use Rattle.script_reader.specs.Fed.{HasGot}
use Rattle.cord_sessions.specs.declared.ending.TheConstants.{MOST_SCRIPT}

-- the source gave these bytes, at most as many as a script may have, and the feed got them all
pub record IsFedFrom (left left_after : Option (List ℕ)) (given given_after : ℕ) (feed : ScriptFeed) : Type 0 where
  pub bytes : List ℕ
  pub gave : Gave left left_after given given_after bytes
  pub few : length bytes ≤ MOST_SCRIPT
  pub got : HasGot feed bytes

-- the source gave n bytes, at most so many, and the feed got them behind those it had
pub record IsPieceFed (left left_after : Option (List ℕ)) (given given_after : ℕ) (feed feed_after : ScriptFeed) (most n : ℕ) : Type 0 where
  pub piece : List ℕ
  pub gave : Gave left left_after given given_after piece
  pub count : length piece ≡ n
  pub few : n ≤ most
  pub got : (bytes : List ℕ) → HasGot feed bytes → HasGot feed_after (bytes ++ piece)
