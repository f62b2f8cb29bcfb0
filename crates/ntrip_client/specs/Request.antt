-- What a client asks of a caster for the frames of a mountpoint there: a `GET` of NTRIP 1.0
-- (RTCM 10410.0), or one of NTRIP 2.0 (RTCM 10410.1), which is a request of HTTP/1.1 (RFC 9112,
-- section 3). The credentials are of the scheme `Basic` (RFC 7617, section 2).
use Rattle.std.specs.Prelude.{ℕ, ◌==◌, if◌then◌else◌, codes, List, [], ◌∷◌, ◌++◌, Option, None, Some}
use Rattle.std.specs.Borrow.{Bor}
use Rattle.std.specs.List.{flat_map}
use Rattle.base64.specs.Engines.{standard}
use Rattle.base64.specs.GeneralPurpose.{encode_of}
use Rattle.ntrip_head.specs.declared.request.Version.{Version}
use Rattle.ntrip_head.specs.declared.request.Version.TheVariants.{One, Two}

-- lines, one after another, each with CR LF at its end
abbrev pub lines : List (List ℕ) → List ℕ
lines texts = flat_map (λ text. text ++ codes "\r\n") texts

-- the header line with the credentials: base64 text (RFC 4648, section 4) of the user, a colon (58)
-- and the password. Without a user there is none
abbrev pub authorization : Option (List ℕ) → List ℕ → List (List ℕ)
authorization None password = []
authorization (Some user) password =
    (codes "Authorization: Basic " ++ encode_of standard (user ++ 58 ∷ password)) ∷ []

-- the start line: the mountpoint, with a slash before it, and the version of HTTP
abbrev pub start_line : List ℕ → List ℕ → List ℕ
start_line mount http = codes "GET /" ++ mount ++ http

-- the name of this client
abbrev pub agent : List ℕ
agent = codes "User-Agent: NTRIP lapcast/1.0"

abbrev pub request_of_one : List ℕ → Option (List ℕ) → List ℕ → List ℕ
request_of_one mount user password =
    lines (start_line mount (codes " HTTP/1.0") ∷ agent ∷ authorization user password ++ [] ∷ [])

abbrev pub request_of_two : List ℕ → List ℕ → Option (List ℕ) → List ℕ → List ℕ
request_of_two mount address user password =
    lines (start_line mount (codes " HTTP/1.1") ∷ (codes "Host: " ++ address)
    ∷ codes "Ntrip-Version: Ntrip/2.0" ∷ agent ∷ authorization user password
    ++ codes "Connection: close" ∷ [] ∷ [])

-- the version of NTRIP that a protocol is: 1 (RTCM 10410.0) or 2 (RTCM 10410.1)
abbrev pub version_of : ℕ → Version
version_of protocol = if protocol == 2 then Two else One

-- the request for a mountpoint, in this version of NTRIP, of the caster at this address, as this
-- user with this password
abbrev pub request_text : Version → List ℕ → List ℕ → Option (List ℕ) → List ℕ → List ℕ
request_text One mount address user password = request_of_one mount user password
request_text Two mount address user password = request_of_two mount address user password

-- the texts that slices hold, one after another
abbrev pub joined : List (Bor (List ℕ)) → List ℕ
joined slices = flat_map (λ s. s.now) slices
