-- What a relay asks of the other caster.
use Rattle.std.specs.Prelude.{ℕ, List}
use Rattle.cast_config.specs.declared.config.Relay.{Relay}
use Rattle.ntrip_client.specs.Request.{request_text, version_of}

abbrev pub relay_request : Relay → List ℕ
relay_request relay =
    request_text (version_of relay.protocol) relay.upstream relay.address relay.user relay.password
