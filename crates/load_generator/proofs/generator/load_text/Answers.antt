-- Each session is written behind those before it.
use Rattle.load_generator.specs.Texts.{options_text}
use Rattle.load_generator.proofs.Writing.{session_next}
use Rattle.load_generator.proofs.generator.load_text.Goals as goal

pub loop-session-preserved : goal.loop-session-preserved
loop-session-preserved c = session_next c.args.seed c.args.commands c.loop-session.session options_text c.loop-session.text.items c.push_session.new.text.items c.loop-session.invariant c.in_ok-push_session.ensures
