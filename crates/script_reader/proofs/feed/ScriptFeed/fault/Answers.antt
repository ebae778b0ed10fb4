-- A fault that is known is the first one, whatever comes; where none is known it comes later.
use Rattle.std.proofs.Common.{◌≡◌, subst, ◌++◌}
use Rattle.script_reader.specs.declared.fault.ScriptError.{ScriptError as ScriptError_value}
use Rattle.script_reader.specs.declared.known.Known.TheVariants.{Going, Faulty}
use Rattle.script_reader.specs.Faults.{IsFirstFault}
use Rattle.script_reader.specs.Fed.{fed_of}
use Rattle.script_reader.proofs.FeedLaws.{fault_is, fault_comes}
use Rattle.script_reader.proofs.feed.ScriptFeed.fault.Goals as goal

pub returns-in-Faulty-clause-some : goal.returns-in-Faulty-clause-some
returns-in-Faulty-clause-some c =
    let found = c.in-Faulty.is in
    let known : c.args.self.now.known ≡ Faulty c.in-Faulty.error = cc in
    λ bytes more e got is. subst (λ (x : ScriptError_value). IsFirstFault (bytes ++ more) x) (let same : c.in-Faulty.error ≡ e = cc in same) (fault_is bytes more (fed_of c.args.self.now) c.in-Faulty.error got.knows known)

pub returns-in-Going-clause-none : goal.returns-in-Going-clause-none
returns-in-Going-clause-none c =
    let found = c.in-Going.is in
    let known : c.args.self.now.known ≡ Going c.in-Going.next c.in-Going.progress = cc in
    λ bytes more e got none fault. fault_comes bytes more (fed_of c.args.self.now) c.in-Going.next c.in-Going.progress e got.knows known fault
