-- What an HTTP request head asks for, by its method, its target and its header fields: the request,
-- or the first rule that is broken. `GET` is that of NTRIP 1.0 (RTCM 10410.0) and NTRIP 2.0
-- (RTCM 10410.1), `POST` that of NTRIP 2.0.
use Rattle.std.specs.Prelude.{ℕ, ◌==◌, if◌then◌else◌, codes, List, drop, slice_index, Option, Result, Ok, Err, is_some}
use Rattle.std.specs.Option.{option_and_then}
use Rattle.std.specs.Str.{bytes_eq}
use Rattle.cast_text.specs.declared.fault.NameFault.{NameFault}
use Rattle.cast_text.specs.Name.{name_of}
use Rattle.gga_read.specs.declared.Position.{Position}
use Rattle.gga_read.specs.Report.{fix_of}
use Rattle.ntrip_head.specs.declared.fault.HeadFault.{HeadFault}
use Rattle.ntrip_head.specs.declared.fault.HeadFault.TheVariants.{Bad, Method, Coding}
use Rattle.ntrip_head.specs.declared.request.Version.{Version}
use Rattle.ntrip_head.specs.declared.request.Version.TheVariants.{One, Two}
use Rattle.ntrip_head.specs.declared.request.Auth.{Auth}
use Rattle.ntrip_head.specs.declared.request.Request.{Request}
use Rattle.ntrip_head.specs.declared.request.Request.TheVariants.{Table, Rover, Source}
use Rattle.ntrip_head.specs.Fields.{HeadFields, value_in, is_word, coding_in, is_other_coding}
use Rattle.ntrip_head.specs.Credentials.{auth_of, password_of}

-- ---- what the fields say

-- the version of a `GET`: Two exactly where it says so, whatever its version of HTTP is
abbrev pub version_in : HeadFields → Version
version_in fields =
    if is_word (codes "Ntrip/2.0") (value_in (codes "Ntrip-Version") fields) then Two else One

-- the credentials
abbrev pub auth_in : HeadFields → Auth
auth_in fields = auth_of (value_in (codes "Authorization") fields)

-- the position that the head reports (NMEA 0183, GGA)
abbrev pub gga_in : HeadFields → Option Position
gga_in fields = option_and_then fix_of (value_in (codes "Ntrip-GGA") fields)

-- ---- what the target says

-- a name, or a broken rule
abbrev pub or_bad : Result (List ℕ) NameFault → Result (List ℕ) HeadFault
or_bad (Ok name) = Ok name
or_bad (Err e) = Err Bad

-- the mountpoint that a target names: a slash (47), and then its name
abbrev pub mount_in : List ℕ → Result (List ℕ) HeadFault
mount_in target = if slice_index target 0 == 47 then or_bad (name_of (drop 1 target)) else Err Bad

-- ---- the request

-- the rover of a mountpoint, if the target names one
abbrev pub rover_at : Result (List ℕ) HeadFault → HeadFields → Result Request HeadFault
rover_at (Err e) fields = Err e
rover_at (Ok mount) fields =
    Ok (Rover (version_in fields) mount (auth_in fields) (gga_in fields))

-- `GET` asks for the sourcetable at `/`, else for a mountpoint
abbrev pub get_of : List ℕ → HeadFields → Result Request HeadFault
get_of target fields =
    if bytes_eq target (codes "/") then Ok (Table (version_in fields))
    else rover_at (mount_in target) fields

-- the source of a mountpoint, if the target names one, and then if the body comes raw or chunked
abbrev pub source_at : Result (List ℕ) HeadFault → HeadFields → Result Request HeadFault
source_at (Err e) fields = Err e
source_at (Ok mount) fields =
    if is_other_coding (coding_in fields) then Err Coding
    else Ok (Source Two mount (password_of (auth_in fields)) (is_some (coding_in fields)))

-- the request of a head, or the first broken rule: the method, the target, the coding
abbrev pub request_of : List ℕ → List ℕ → HeadFields → Result Request HeadFault
request_of method target fields =
    if bytes_eq method (codes "GET") then get_of target fields
    else if bytes_eq method (codes "POST") then source_at (mount_in target) fields
    else Err Method
