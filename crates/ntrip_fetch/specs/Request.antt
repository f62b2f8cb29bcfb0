-- What a rover asks of a caster.
use Rattle.std.specs.Prelude.{ℕ, ◌≤◌, List}
use Rattle.ntrip_client.specs.Request.{request_text, version_of}
use Rattle.ntrip_fetch.specs.declared.target.Target.{Target}

-- the protocol is a version of NTRIP: 1 (RTCM 10410.0) or 2 (RTCM 10410.1)
abbrev pub IsSpoken : Target → Type 0
IsSpoken target = (1 ≤ target.protocol) × (target.protocol ≤ 2)

-- the request for the mountpoint of this target
abbrev pub target_request : Target → List ℕ
target_request target =
    request_text (version_of target.protocol) target.mount target.address target.user
    target.password
