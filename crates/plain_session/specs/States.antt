-- The names of a session as what plain cords call an environment.
use Rattle.std.specs.Option.{option_map}
use Rattle.std.specs.HashMap.{get_by}
use Rattle.std.specs.Str.{bytes_eq}
use Rattle.plain_cord.specs.States.{CordState, Environment}
use Rattle.plain_session.specs.declared.cord.PlainCord.{PlainCord}
use Rattle.plain_session.specs.declared.names.Names.{Names}

abbrev pub state_of : PlainCord → CordState
state_of cord = record { bytes = cord.bytes.items; sum = cord.sum }

abbrev pub environment_of : Names → Environment
environment_of names = λ name. option_map state_of (get_by (λ key. bytes_eq name key.now) names.cords)
