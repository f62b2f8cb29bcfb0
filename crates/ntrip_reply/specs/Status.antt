-- The replies that are, as a whole, the head of an HTTP response (RFC 9112, section 4), and what a
-- caster that sent the request reads in them: the status (RFC 9110, section 15), and whether a body
-- follows in chunks (RFC 9112, section 7.1).
use Rattle.std.specs.Prelude.{ℕ, false, true, Option, Some, None}
use Rattle.ntrip_head.specs.declared.request.Version.{Version}
use Rattle.ntrip_head.specs.declared.request.Version.TheVariants.{One, Two}
use Rattle.ntrip_head.specs.declared.upstream.Upstream.{Upstream}
use Rattle.ntrip_reply.specs.declared.kind.Reply.{Reply}
use Rattle.ntrip_reply.specs.declared.kind.Reply.TheVariants.{RoverOk, SourceOk, Table, BadHead, Method, Coding, RoverNoMount, SourceNoMount, Unauthorized, Denied, Full, SourcePassword, Taken}

-- this status, and no chunks
abbrev pub with_status : ℕ → Option Upstream
with_status status = Some (record { status = status; chunked = false })

abbrev pub read_of_one : Reply → Option Upstream
read_of_one RoverOk = None
read_of_one SourceOk = None
read_of_one Table = None
read_of_one BadHead = with_status 400
read_of_one Method = with_status 501
read_of_one Coding = with_status 501
read_of_one RoverNoMount = None
read_of_one SourceNoMount = None
read_of_one Unauthorized = with_status 401
read_of_one Denied = with_status 403
read_of_one Full = with_status 503
read_of_one SourcePassword = None
read_of_one Taken = None

abbrev pub read_of_two : Reply → Option Upstream
read_of_two RoverOk = Some (record { status = 200; chunked = true })
read_of_two SourceOk = with_status 200
read_of_two Table = None
read_of_two BadHead = with_status 400
read_of_two Method = with_status 501
read_of_two Coding = with_status 501
read_of_two RoverNoMount = with_status 404
read_of_two SourceNoMount = with_status 404
read_of_two Unauthorized = with_status 401
read_of_two Denied = with_status 403
read_of_two Full = with_status 503
read_of_two SourcePassword = with_status 401
read_of_two Taken = with_status 409

-- what is read in a reply, where it is such a head; a table has a body behind its head, and the
-- other replies of version 1 begin with a line of NTRIP 1.0 (RTCM 10410.0)
abbrev pub read_in : Version → Reply → Option Upstream
read_in One reply = read_of_one reply
read_in Two reply = read_of_two reply
