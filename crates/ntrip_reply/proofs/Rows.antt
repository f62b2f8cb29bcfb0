-- Worked rows: texts of replies in full, which the definitions compute.
use Rattle.std.proofs.Common.{◌≡◌, [], refl}
use Rattle.std.specs.Prelude.{codes}
use Rattle.std.specs.Fmt.{digits}
use Rattle.ntrip_head.specs.declared.request.Version.TheVariants.{One, Two}
use Rattle.ntrip_reply.specs.declared.kind.Reply.TheVariants.{RoverOk, Table, Method, RoverNoMount, Unauthorized, SourcePassword, Taken}
use Rattle.ntrip_reply.specs.Text.{reply_text}

rover_of_one : reply_text One RoverOk (codes "ENDSOURCETABLE\r\n") ≡ codes "ICY 200 OK\r\n\r\n"
rover_of_one = refl

password_of_one : reply_text One SourcePassword [] ≡ codes "ERROR - Bad Password\r\n"
password_of_one = refl

no_mount_of_one : reply_text One RoverNoMount (codes "ENDSOURCETABLE\r\n")
    ≡ codes
    "SOURCETABLE 200 OK\r\nServer: NTRIP lapcast/1.0\r\nContent-Type: text/plain\r\nContent-Length: 16\r\nConnection: close\r\n\r\nENDSOURCETABLE\r\n"
unfolding digits
no_mount_of_one = refl

unauthorized_of_one : reply_text One Unauthorized (codes "ENDSOURCETABLE\r\n")
    ≡ codes
    "HTTP/1.0 401 Unauthorized\r\nServer: NTRIP lapcast/1.0\r\nWWW-Authenticate: Basic realm=\"caster\"\r\nContent-Length: 0\r\nConnection: close\r\n\r\n"
unfolding digits
unauthorized_of_one = refl

method_of_one : reply_text One Method [] ≡ codes
    "HTTP/1.1 501 Not Implemented\r\nServer: NTRIP lapcast/1.0\r\nContent-Length: 0\r\nConnection: close\r\n\r\n"
unfolding digits
method_of_one = refl

rover_of_two : reply_text Two RoverOk []
    ≡ codes
    "HTTP/1.1 200 OK\r\nNtrip-Version: Ntrip/2.0\r\nServer: NTRIP lapcast/1.0\r\nContent-Type: gnss/data\r\nTransfer-Encoding: chunked\r\nConnection: close\r\n\r\n"
rover_of_two = refl

table_of_two : reply_text Two Table (codes "ENDSOURCETABLE\r\n")
    ≡ codes
    "HTTP/1.1 200 OK\r\nNtrip-Version: Ntrip/2.0\r\nServer: NTRIP lapcast/1.0\r\nContent-Type: gnss/sourcetable\r\nContent-Length: 16\r\nConnection: close\r\n\r\nENDSOURCETABLE\r\n"
unfolding digits
table_of_two = refl

taken_of_two : reply_text Two Taken []
    ≡ codes
    "HTTP/1.1 409 Conflict\r\nNtrip-Version: Ntrip/2.0\r\nServer: NTRIP lapcast/1.0\r\nContent-Length: 0\r\nConnection: close\r\n\r\n"
unfolding digits
taken_of_two = refl
