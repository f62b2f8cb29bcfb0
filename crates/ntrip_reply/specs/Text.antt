-- The text of each reply. The words `ICY 200 OK` and `SOURCETABLE 200 OK` are those of NTRIP 1.0
-- (RTCM 10410.0); NTRIP 2.0 (RTCM 10410.1) has the line `Ntrip-Version: Ntrip/2.0` and the types
-- `gnss/data` and `gnss/sourcetable`. The statuses and their phrases are
-- those of RFC 9110, section 15. What else stands here is this caster's own choice: which status
-- is told when, the empty line after `ICY 200 OK`, the lines that begin with `ERROR`, and the
-- header lines with their order.
use Rattle.std.specs.Prelude.{ℕ, codes, List, [], ◌∷◌, ◌++◌}
use Rattle.ntrip_head.specs.declared.request.Version.{Version}
use Rattle.ntrip_head.specs.declared.request.Version.TheVariants.{One, Two}
use Rattle.ntrip_reply.specs.declared.kind.Reply.{Reply}
use Rattle.ntrip_reply.specs.declared.kind.Reply.TheVariants.{RoverOk, SourceOk, Table, BadHead, Method, Coding, RoverNoMount, SourceNoMount, Unauthorized, Denied, Full, SourcePassword, Taken}
use Rattle.ntrip_reply.specs.Message.{lines, close, message}

-- ---- header lines

abbrev pub server : List ℕ
server = codes "Server: NTRIP lapcast/1.0"

abbrev pub version_two : List ℕ
version_two = codes "Ntrip-Version: Ntrip/2.0"

-- which credentials are wanted (RFC 9110, section 11.6.1; RFC 7617, section 2)
abbrev pub challenge : List ℕ
challenge = codes "WWW-Authenticate: Basic realm=\"caster\""

-- ---- before the version counts

-- a refusal with this status
abbrev pub refused : List ℕ → List ℕ
refused status = message (status ∷ server ∷ []) []

-- ---- version 1

-- what follows is the stream
abbrev pub icy_ok : List ℕ
icy_ok = lines (codes "ICY 200 OK" ∷ [] ∷ [])

-- the sourcetable
abbrev pub table_of_one : List ℕ → List ℕ
table_of_one table =
    message (codes "SOURCETABLE 200 OK" ∷ server ∷ codes "Content-Type: text/plain" ∷ []) table

-- a refusal in one line
abbrev pub error_line : List ℕ → List ℕ
error_line words = lines ((codes "ERROR - " ++ words) ∷ [])

abbrev pub text_of_one : Reply → List ℕ → List ℕ
text_of_one RoverOk table = icy_ok
text_of_one SourceOk table = icy_ok
text_of_one Table table = table_of_one table
text_of_one RoverNoMount table = table_of_one table
text_of_one BadHead table = refused (codes "HTTP/1.1 400 Bad Request")
text_of_one Method table = refused (codes "HTTP/1.1 501 Not Implemented")
text_of_one Coding table = refused (codes "HTTP/1.1 501 Not Implemented")
text_of_one Unauthorized table =
    message (codes "HTTP/1.0 401 Unauthorized" ∷ server ∷ challenge ∷ []) []
text_of_one Denied table = refused (codes "HTTP/1.0 403 Forbidden")
text_of_one Full table = refused (codes "HTTP/1.0 503 Service Unavailable")
text_of_one SourcePassword table = error_line (codes "Bad Password")
text_of_one SourceNoMount table = error_line (codes "Mount Point Taken or Invalid")
text_of_one Taken table = error_line (codes "Mount Point Taken or Invalid")

-- ---- version 2

-- a stream is given, in chunks (RFC 9112, section 7.1)
abbrev pub admitted_rover : List ℕ
admitted_rover =
    lines (codes "HTTP/1.1 200 OK" ∷ version_two ∷ server ∷ codes "Content-Type: gnss/data"
    ∷ codes "Transfer-Encoding: chunked" ∷ close ∷ [] ∷ [])

-- a stream is taken
abbrev pub admitted_source : List ℕ
admitted_source = lines (codes "HTTP/1.1 200 OK" ∷ version_two ∷ server ∷ close ∷ [] ∷ [])

-- the sourcetable
abbrev pub table_of_two : List ℕ → List ℕ
table_of_two table =
    message (codes "HTTP/1.1 200 OK" ∷ version_two ∷ server
    ∷ codes "Content-Type: gnss/sourcetable" ∷ []) table

-- a refusal with this status
abbrev pub refused_with_version : List ℕ → List ℕ
refused_with_version status = message (status ∷ version_two ∷ server ∷ []) []

-- credentials are wanted
abbrev pub unauthorized_with_version : List ℕ
unauthorized_with_version =
    message (codes "HTTP/1.1 401 Unauthorized" ∷ version_two ∷ server ∷ challenge ∷ []) []

abbrev pub text_of_two : Reply → List ℕ → List ℕ
text_of_two RoverOk table = admitted_rover
text_of_two SourceOk table = admitted_source
text_of_two Table table = table_of_two table
text_of_two BadHead table = refused (codes "HTTP/1.1 400 Bad Request")
text_of_two Method table = refused (codes "HTTP/1.1 501 Not Implemented")
text_of_two Coding table = refused (codes "HTTP/1.1 501 Not Implemented")
text_of_two RoverNoMount table = refused_with_version (codes "HTTP/1.1 404 Not Found")
text_of_two SourceNoMount table = refused_with_version (codes "HTTP/1.1 404 Not Found")
text_of_two Unauthorized table = unauthorized_with_version
text_of_two SourcePassword table = unauthorized_with_version
text_of_two Denied table = refused_with_version (codes "HTTP/1.1 403 Forbidden")
text_of_two Full table = refused_with_version (codes "HTTP/1.1 503 Service Unavailable")
text_of_two Taken table = refused_with_version (codes "HTTP/1.1 409 Conflict")

-- ---- both

-- the text of a reply: the sourcetable stands in it where the reply has it
abbrev pub reply_text : Version → Reply → List ℕ → List ℕ
reply_text One reply table = text_of_one reply table
reply_text Two reply table = text_of_two reply table
