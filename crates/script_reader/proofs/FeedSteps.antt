-- A piece that a feed took to its end.
use Rattle.std.proofs.Common.{◌≡◌, ◌+◌, List, ◌++◌, length, None, Result, Ok, Err, ℕ, arith, length-append}
use Rattle.std.specs.Prelude.{OnOk}
use Rattle.memchr.specs.Find.{IsFirstByte, is_byte}
use Rattle.script_reader.specs.declared.feed.ScriptFeed.{ScriptFeed}
use Rattle.script_reader.specs.Feeds.{fed_bytes}
use Rattle.script_reader.specs.Fed.{fed_of, fed_length, HasGot, Keeps}
use Rattle.script_reader.proofs.FeedLaws.{rest_fed, got_more}

pub feed_got : {U E : Type 0} (r : Result U E) (first old new : ScriptFeed) (after piece : List ℕ) → IsFirstByte (is_byte 10) after None → OnOk r (Keeps (fed_of old) after (fed_of new)) → OnOk r (fed_length new ≡ fed_length old + length after)
    → fed_bytes (fed_of old) after ≡ fed_bytes (fed_of first) piece → fed_length old + length after ≡ fed_length first + length piece → OnOk r ((bytes : List ℕ) → HasGot first bytes → HasGot new (bytes ++ piece))
feed_got (Ok u) first old new after piece none keeps count same room = λ bytes got. record {
  knows = got_more (fed_of first) (fed_of new) bytes piece got.knows (rest_fed (fed_of old) (fed_of new) (fed_bytes (fed_of first) piece) after none keeps same);
  count = (let joined = length-append bytes piece in let before = got.count in omega arith);
}
feed_got (Err e) first old new after piece none keeps count same room = tt
