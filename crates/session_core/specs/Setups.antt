-- What stays the same while the connections of a caller are served.
use Rattle.std.specs.Prelude.{◌≡◌, ℕ, Option}
use Rattle.ntrip_head.specs.declared.request.Version.{Version}
use Rattle.cast_config.specs.Kept.{KeepsRules}
use Rattle.session_model.specs.Setting.{table}
use Rattle.session_core.specs.declared.setup.Setup.{Setup}
use Rattle.session_core.specs.Beginnings.{IsTableFor}

-- it is of a configuration that keeps its rules, with the text of its sourcetable
pub record IsSetUp (setup : Setup) : Type 0 where
  pub kept : (cap : ℕ) × KeepsRules cap setup.config.now
  pub table_is : setup.table.now ≡ table setup.config.now

-- the same for a connection that is replied to in this version, if it is: else no text is needed
pub record IsSetUpFor (version : Option Version) (setup : Setup) : Type 0 where
  pub kept : (cap : ℕ) × KeepsRules cap setup.config.now
  pub table_is : IsTableFor version setup.table.now setup.config.now
