-- What the bytes of a configuration say, as a function of them.
use Rattle.std.specs.Prelude.{ℕ, if◌then◌else◌, List, Option, Some, None, Result, Ok, Err}
use Rattle.std.specs.Str.{is_utf8}
use Rattle.toml.specs.Data.{Members}
use Rattle.toml.specs.Parse.{parse_document}
use Rattle.config_keys.specs.Answers.{Read}
use Rattle.cast_config.specs.declared.config.Config.{Config}
use Rattle.cast_config.specs.declared.fault.ConfigFault.{ConfigFault}
use Rattle.cast_config.specs.declared.fault.ConfigFault.TheVariants.{Toml}
use Rattle.cast_config.specs.Faults.{config_fault}
use Rattle.cast_config.specs.Document.{config_of}

-- a configuration, or the fault of a document that breaks a rule
abbrev pub with_fault : Read Config → Result Config ConfigFault
with_fault (Ok c) = Ok c
with_fault (Err fault) = Err (config_fault fault)

abbrev pub config_of_tree : Option Members → Result Config ConfigFault
config_of_tree None = Err Toml
config_of_tree (Some ms) = with_fault (config_of ms)

-- the bytes are a document of TOML 1.0 and say this configuration, or break this rule first
unfoldable pub config_in : List ℕ → Result Config ConfigFault
config_in bytes = if is_utf8 bytes then config_of_tree (parse_document bytes) else Err Toml
