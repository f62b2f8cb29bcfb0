-- Worked rows, which the definitions compute.
use Rattle.std.proofs.Common.{◌≡◌, List, ℕ, [], ◌∷◌, true, false, Some, None, Ok, Err, refl}
use Rattle.std.specs.Prelude.{codes}
use Rattle.base64.specs.Decode.{groups_error, scan_steps, groups_bytes}
use Rattle.ntrip_head.specs.declared.fault.HeadFault.TheVariants.{Bad, Method, Coding}
use Rattle.ntrip_head.specs.declared.request.Version.TheVariants.{One, Two}
use Rattle.ntrip_head.specs.declared.request.Auth.TheVariants.{Basic, Unread}
use Rattle.ntrip_head.specs.declared.request.Auth.TheVariants as auths
use Rattle.ntrip_head.specs.declared.request.Request.TheVariants.{Table, Rover, Source}
use Rattle.ntrip_head.specs.Head.{ends_with_empty_line}
use Rattle.ntrip_head.specs.Fields.{value_in}
use Rattle.ntrip_head.specs.Credentials.{credentials}
use Rattle.ntrip_head.specs.Judge.{request_of}
use Rattle.ntrip_head.specs.SourceHead.{first_line, after_line, source_in}
use Rattle.ntrip_head.specs.Upstream.{upstream_of}

-- ---- empty lines

after_line_end : ends_with_empty_line (codes "GET / HTTP/1.0\r\n\r\n") ≡ true
after_line_end = refl

one_line : ends_with_empty_line (codes "GET / HTTP/1.0\r\n") ≡ false
one_line = refl

return_in_line : ends_with_empty_line (codes "GET\r\n\r\r\n") ≡ false
return_in_line = refl

at_beginning : ends_with_empty_line (codes "\r\n") ≡ true
at_beginning = refl

-- ---- fields

abbrev twice : List (List ℕ × List ℕ)
twice = (codes "Host", codes "caster") ∷ (codes "NTRIP-version", codes "Ntrip/2.0") ∷ (codes "Ntrip-Version", codes "1")
    ∷ []

first_of_equal : value_in (codes "Ntrip-Version") twice ≡ Some (codes "Ntrip/2.0")
first_of_equal = refl

not_there : value_in (codes "Ntrip") twice ≡ None
not_there = refl

-- ---- credentials

of_rover : credentials (codes "basic  cm92ZXIxOnNlY3JldA==") ≡ Basic (codes "rover1") (codes "secret")
unfolding groups_error scan_steps groups_bytes
of_rover = refl

two_colons : credentials (codes "Basic cm92ZXIxOmE6Yjpj") ≡ Basic (codes "rover1") (codes "a:b:c")
unfolding groups_error scan_steps groups_bytes
two_colons = refl

no_colon : credentials (codes "Basic bm9jb2xvbg==") ≡ Unread
unfolding groups_error scan_steps groups_bytes
no_colon = refl

no_padding : credentials (codes "Basic cm92ZXIxOnNlY3JldA") ≡ Unread
unfolding groups_error scan_steps groups_bytes
no_padding = refl

no_space : credentials (codes "BasicOng=") ≡ Unread
no_space = refl

-- ---- requests

rover : request_of (codes "GET") (codes "/ALPHA") [] ≡ Ok (Rover One (codes "ALPHA") auths.None None)
rover = refl

table : request_of (codes "GET") (codes "/") twice ≡ Ok (Table Two)
table = refl

raw : request_of (codes "POST") (codes "/A") twice ≡ Ok (Source Two (codes "A") [] false)
raw = refl

abbrev gzip : List (List ℕ × List ℕ)
gzip = (codes "Transfer-Encoding", codes "gzip") ∷ []

no_method : request_of (codes "PUT") (codes "A") gzip ≡ Err Method
no_method = refl

target_first : request_of (codes "POST") (codes "/") gzip ≡ Err Bad
target_first = refl

other_coding : request_of (codes "POST") (codes "/A") gzip ≡ Err Coding
other_coding = refl

no_slash : request_of (codes "GET") (codes "ALPHA") [] ≡ Err Bad
no_slash = refl

-- ---- sources of version 1

line_of : first_line (codes "SOURCE x A\r\nSTR: \r\n\r\n") ≡ codes "SOURCE x A"
line_of = refl

rest_of : after_line (codes "SOURCE x A\r\nSTR: \r\n\r\n") ≡ codes "STR: \r\n\r\n"
rest_of = refl

empty_password : source_in (codes "SOURCE  /A") ≡ Ok (Source One (codes "A") [] false)
empty_password = refl

no_mountpoint : source_in (codes "SOURCE A") ≡ Err Bad
no_mountpoint = refl

three_words : source_in (codes "SOURCE x A B") ≡ Err Bad
three_words = refl

-- ---- answers of upstream casters

chunked : upstream_of 200 ((codes "transfer-encoding", codes "CHUNKED") ∷ []) ≡ Ok
    (record { status = 200; chunked = true })
chunked = refl

coding_of_200 : upstream_of 200 gzip ≡ Err Coding
coding_of_200 = refl

coding_of_404 : upstream_of 404 gzip ≡ Ok (record { status = 404; chunked = false })
coding_of_404 = refl
