-- The recorded sessions that a command reports or writes keep the promise.
use Rattle.std.proofs.Common.{◌≡◌, ℕ, List, [], length, Ok}
use Rattle.cast_io.specs.Told.{StreetTold}
use Rattle.session_script.specs.declared.Event.{Event}
use Rattle.session_script.specs.declared.ScriptKind.{ScriptKind}
use Rattle.session_script.specs.declared.ScriptKind.TheVariants.{Bare, Replay}
use Rattle.session_script.specs.Script.{IsSession, script_of}
use Rattle.session_script.proofs.SessionLemmas.{script_read}
use Rattle.cast_config.specs.declared.config.Config.{Config}
use Rattle.cast_config.specs.Bare as settings
use Rattle.cast_config.specs.Kept.{KeepsRules}
use Rattle.cast_config.proofs.KeptLemmas.{bare_keeps_rules, keeps_rules}
use Rattle.session_model.specs.Reports as reports
use Rattle.run_promise.specs.Promised.{IsPromised}
use Rattle.run_promise.proofs.PromiseLemmas.{promised}
use Rattle.warm_promise.proofs.PromiseLemmas.{greeted}
use Rattle.run_texts.specs.Texts.{IsRunText, IsWarmText}
use Rattle.caster_record.specs.Recording.{kind_of}
use Rattle.caster_top.specs.Command.{AreBare}
use Rattle.caster_top.specs.Told.{Files, IsConfigFrom, IsSessionFrom}
use Rattle.caster_top.specs.Recording.{HasRecorded}
use Rattle.caster_top.specs.Promised.{IsGreetedText, IsPromisedText}

-- the configuration in a file keeps the rules
config_keeps : (files : Files) (path : List ℕ) (c : Config) → IsConfigFrom files path c → KeepsRules 1000000 c
config_keeps files path c at = keeps_rules at.3.0 c at.3.2

text_promised : (c : Config) (cap : ℕ) (kind : ScriptKind) (events : List Event) (text : List ℕ) → KeepsRules cap c
    → IsSession kind events → IsRunText c events text → IsPromisedText c events text
text_promised c cap kind events text kept session run = record {
  report = run.report;
  promised = promised c cap kind events run.report kept session run.is;
  text_is = run.text_is;
}

pub bare_promised : (words : List (List ℕ)) (capacity : ℕ) (bytes : List ℕ) (events : List Event) (text : List ℕ)
    → AreBare words capacity → script_of Bare bytes ≡ Ok events → IsRunText (settings.bare capacity) events text
    → IsPromisedText (settings.bare capacity) events text
bare_promised words capacity bytes events text are read run =
    text_promised (settings.bare capacity) 4294967295 Bare events text (bare_keeps_rules capacity are.least are.most)
    (script_read Bare bytes events read).session run

pub replay_promised : (files : Files) (config session : List ℕ) (c : Config) (events : List Event) (text : List ℕ)
    → IsConfigFrom files config c → IsSessionFrom files session c events → IsRunText c events text
    → IsPromisedText c events text
replay_promised files config session c events text at is run =
    let kind = Replay (length c.relay) in
    text_promised c 1000000 kind events text (config_keeps files config c at) (script_read kind is.0 events is.2).session
    run

pub warm_promised : (files : Files) (config session : List ℕ) (c : Config) (events : List Event) (text : List ℕ)
    → IsConfigFrom files config c → IsSessionFrom files session c events → IsWarmText c events text
    → IsGreetedText c events text
warm_promised files config session c events text at is run =
    let kind = Replay (length c.relay) in
    record {
      report = run.report;
      greeted = greeted c 1000000 kind events run.report (config_keeps files config c at)
          (script_read kind is.0 events is.2).session run.is;
      text_is = run.text_is;
    }

pub record_promised : (files : Files) (config addr : List ℕ) (limit : ℕ) (before after : StreetTold) (c : Config)
    (events : List Event) (recorded : HasRecorded c addr limit before after events) → IsConfigFrom files config c
    → IsPromised c events recorded.session.report
record_promised files config addr limit before after c events recorded at =
    let is = recorded.session.recorded in
    promised c 1000000 (kind_of c) events recorded.session.report (config_keeps files config c at) is.session is.is_report
