-- Lines of the sourcetable that the file gives whole.
use Rattle.std.specs.Prelude.{ℕ, ◌&&◌, nat_le, if◌then◌else◌, List, [], length, Option, Some, None, Result, Ok, Err}
use Rattle.std.specs.Str.{is_utf8}
use Rattle.sourcetable.specs.declared.record.Kind.{Kind as RecordKind}
use Rattle.sourcetable.specs.declared.record.Kind.TheVariants.{Str, Cas, Net}
use Rattle.sourcetable.specs.declared.record.Record.{Record}
use Rattle.sourcetable.specs.declared.fault.RecordFault.{RecordFault}
use Rattle.sourcetable.specs.declared.fault.RecordFault.TheVariants as sources
use Rattle.sourcetable.specs.Reading.{record_read}
use Rattle.config_keys.specs.declared.key.Key.{Key}
use Rattle.config_keys.specs.declared.fault.KeyFault.{KeyFault}
use Rattle.config_keys.specs.declared.fault.KeyFault.TheVariants.{Range, Memory}
use Rattle.config_keys.specs.Answers.{Read, ◌>>=◌, given, holds}
use Rattle.config_keys.specs.Lists.{each_of, texts}
use Rattle.config_keys.specs.Rules.{Rule}

-- the record of a caster or a network: those of mountpoints are made from the mountpoints
abbrev pub but_mountpoints : RecordKind → Record → Option Record
but_mountpoints Str r = None
but_mountpoints Cas r = Some r
but_mountpoints Net r = Some r

abbrev pub given_record : Result Record RecordFault → Option Record
given_record (Ok r) = but_mountpoints r.kind r
given_record (Err fault) = None

-- the record of a line of at most 1,000 bytes. As each string of TOML it is UTF-8
abbrev pub record_line : List ℕ → Option Record
record_line line =
    if nat_le (length line) 1000 && is_utf8 line then given_record (record_read line) else None

abbrev pub record_at : Key → List ℕ → Read Record
record_at key line = given (Range key) (record_line line)

-- at most 64 such lines
unfoldable pub records : Rule (List Record)
records key found = do
  lines ← texts key found
  _ ← holds (Range key) (nat_le (length lines) 64)
  each_of (record_at key) [] lines

-- why a line is refused that is no record
abbrev pub fault_at : Key → RecordFault → KeyFault
fault_at key sources.Memory = Memory
fault_at key sources.Kind = Range key
fault_at key sources.Fields = Range key
fault_at key (sources.Byte place) = Range key
