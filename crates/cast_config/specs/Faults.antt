-- Why bytes are no configuration, and what is printed then.
use Rattle.std.specs.Prelude.{ℕ, codes, List, [], ◌∷◌, ◌++◌, Option, Some, None}
use Rattle.config_keys.specs.declared.fault.KeyFault.{KeyFault}
use Rattle.config_keys.specs.declared.fault.KeyFault.TheVariants as keys
use Rattle.config_keys.specs.Printed.{fault_text}
use Rattle.cast_config.specs.declared.fault.ConfigFault.{ConfigFault}
use Rattle.cast_config.specs.declared.fault.ConfigFault.TheVariants.{Toml, Missing, Wrong, Range, Twice, Unknown, Memory}

-- the fault of a document that has this fault of a key
abbrev pub config_fault : KeyFault → ConfigFault
config_fault (keys.Missing key) = Missing key
config_fault (keys.Wrong key) = Wrong key
config_fault (keys.Range key) = Range key
config_fault (keys.Twice key) = Twice key
config_fault (keys.Unknown key) = Unknown key
config_fault keys.Memory = Memory

-- the fault of a key that it is; none where the bytes are no document
abbrev pub key_fault : ConfigFault → Option KeyFault
key_fault Toml = None
key_fault (Missing key) = Some (keys.Missing key)
key_fault (Wrong key) = Some (keys.Wrong key)
key_fault (Range key) = Some (keys.Range key)
key_fault (Twice key) = Some (keys.Twice key)
key_fault (Unknown key) = Some (keys.Unknown key)
key_fault Memory = Some keys.Memory

abbrev pub reason : Option KeyFault → List ℕ
reason None = codes "toml"
reason (Some fault) = fault_text fault

-- the line that is printed, with its LF (10)
abbrev pub fault_line : ConfigFault → List ℕ
fault_line fault = codes "configuration: " ++ reason (key_fault fault) ++ 10 ∷ []
