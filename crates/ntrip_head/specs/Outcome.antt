-- What a call told of a head, where memory did not run out.
use Rattle.std.specs.Prelude.{◌≡◌, ⊤, Result, Ok, Err}
use Rattle.ntrip_head.specs.declared.fault.HeadFault.{HeadFault}
use Rattle.ntrip_head.specs.declared.fault.HeadError.{HeadError}
use Rattle.ntrip_head.specs.declared.fault.HeadError.TheVariants.{Refused, Memory}

-- this holds of what was told, unless memory ran out
abbrev pub UnlessMemory : {Y : Type 0} → Result Y HeadError → (Result Y HeadFault → Type 0) → Type 0
UnlessMemory (Ok x) P = P (Ok x)
UnlessMemory (Err (Refused fault)) P = P (Err fault)
UnlessMemory (Err Memory) P = ⊤

-- the call told this, unless memory ran out
abbrev pub Gives : {Y : Type 0} → Result Y HeadError → Result Y HeadFault → Type 0
Gives result expected = UnlessMemory result (λ told. told ≡ expected)
