-- Each cause by its law.
use Rattle.script_reader.proofs.CauseLaws.{bytes_told, commands_told, unbuilt_told, misplaced_told, options_told, duplicates_told, sessions_counted, commands_counted}
use Rattle.script_reader.proofs.laws.causes_are_told.Goals as goal

pub returns-clause-bytes : goal.returns-clause-bytes
returns-clause-bytes c = bytes_told

pub returns-clause-commands : goal.returns-clause-commands
returns-clause-commands c = commands_told

pub returns-clause-unbuilt : goal.returns-clause-unbuilt
returns-clause-unbuilt c = unbuilt_told

pub returns-clause-misplaced : goal.returns-clause-misplaced
returns-clause-misplaced c = misplaced_told

pub returns-clause-options : goal.returns-clause-options
returns-clause-options c = options_told

pub returns-clause-duplicates : goal.returns-clause-duplicates
returns-clause-duplicates c = duplicates_told

pub returns-clause-sessions : goal.returns-clause-sessions
returns-clause-sessions c = sessions_counted

pub returns-clause-counts : goal.returns-clause-counts
returns-clause-counts c = commands_counted
