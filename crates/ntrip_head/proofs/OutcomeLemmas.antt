-- What holds of an answer holds of the call that gave it.
use Rattle.std.proofs.Common.{Result, Ok, Err, subst, sym}
use Rattle.ntrip_head.specs.declared.fault.HeadFault.{HeadFault}
use Rattle.ntrip_head.specs.declared.fault.HeadError.{HeadError}
use Rattle.ntrip_head.specs.declared.fault.HeadError.TheVariants.{Refused, Memory}
use Rattle.ntrip_head.specs.Outcome.{UnlessMemory, Gives}

pub told_so : {Y : Type 0} (P : Result Y HeadFault → Type 0) (result : Result Y HeadError) (answer : Result Y HeadFault)
    → Gives result answer → P answer → UnlessMemory result P
told_so P (Ok x) answer is holds = subst P (sym is) holds
told_so P (Err (Refused fault)) answer is holds = subst P (sym is) holds
told_so P (Err Memory) answer is holds = tt
