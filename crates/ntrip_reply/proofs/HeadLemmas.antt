-- Replies that are heads of HTTP responses, with the tree of each.
use Rattle.std.proofs.Common.{◌≡◌, ◌≤◌, ◌∙◌, ℕ, Bool, true, ◌&&◌, inl, List, [], ◌∷◌, ◌++◌, length, Some, Ok, false, append_assoc, reverse, ◌<◌, ◌^◌, arith, sym, ap, refl}
use Rattle.std.specs.Prelude.{codes, nat_lt}
use Rattle.std.specs.List.{list_all, All}
use Rattle.std.specs.Char.{is_ascii_digit}
use Rattle.std.proofs.lemmas.Bool.{and_parts, ltb-true}
use Rattle.std.proofs.lemmas.List.Sums.{AllPass-from_list_all, list_all-from_AllPass}
use Rattle.std.proofs.lemmas.Fmt.{decimal_digit, digits_decimal}
use Rattle.std.specs.Fmt.{decimal}
use Rattle.std.specs.Str.{all_ascii_digits}
use Rattle.std.proofs.lemmas.Str.Parse.{numerals_by_value, tells_all_ascii_digits}
use Rattle.std.proofs.lemmas.Bool.Decides.{nat_tests}
use Rattle.httparse.proofs.TrimLemmas.{AllPass-reverse, trim_ows_space}
use Rattle.httparse.proofs.OnLiterals.{httparse_on_literals}
use Rattle.httparse.specs.Grammar.{crlf, Field, IsField, is_token_byte, is_value_byte, ResponseHead, print_response, is_ows, skip_ows, trim_ows}
use Rattle.ntrip_head.specs.declared.request.Version.{Version}
use Rattle.ntrip_head.specs.declared.request.Version.TheVariants.{One, Two}
use Rattle.ntrip_head.specs.declared.upstream.Upstream.{Upstream}
use Rattle.ntrip_head.specs.Upstream.{UpstreamAnswer, upstream_in}
use Rattle.ntrip_reply.specs.declared.kind.Reply.{Reply}
use Rattle.ntrip_reply.specs.declared.kind.Reply.TheVariants.{RoverOk, SourceOk, Table, BadHead, Method, Coding, RoverNoMount, SourceNoMount, Unauthorized, Denied, Full, SourcePassword, Taken}
use Rattle.ntrip_reply.specs.Message.{lines, close, message}
use Rattle.ntrip_reply.specs.Body.{HasBody}
use Rattle.ntrip_reply.specs.Status.{read_in}
use Rattle.ntrip_reply.specs.Text.{server, challenge, version_two, reply_text}

-- ---- a test of a tree

abbrev is_field : Field → Bool
is_field f = nat_lt 0 (length f.name) && (list_all is_token_byte f.name && list_all is_value_byte f.raw)

field_ok : (f : Field) → is_field f ≡ true → IsField f
field_ok f e =
    let p = and_parts (nat_lt 0 (length f.name)) (list_all is_token_byte f.name && list_all is_value_byte f.raw) e in
    let q = and_parts (list_all is_token_byte f.name) (list_all is_value_byte f.raw) p.1 in
    record {
      name = (ltb-true 0 (length f.name) p.0, AllPass-from_list_all is_token_byte f.name q.0);
      raw = AllPass-from_list_all is_value_byte f.raw q.1;
    }

fields_ok : (fields : List Field) → list_all is_field fields ≡ true → All IsField fields
fields_ok fields e = λ k d h. field_ok _ (AllPass-from_list_all is_field fields e k d h)

abbrev tree : ℕ → List ℕ → List ℕ → List Field → ResponseHead
tree minor digits reason
    fields = record {
      blank = [];
      minor = minor;
      digits = digits;
      reason = Some reason;
      line_end = crlf;
      fields = fields;
      last = crlf;
    }

-- a tree that passes is what its text is read as
answers : (text : List ℕ) (minor : ℕ) (digits reason : List ℕ) (fields : List Field) (u v : Upstream)
    → minor ≤ 1 → length digits ≡ 3 → list_all is_ascii_digit digits ≡ true → list_all is_value_byte reason ≡ true
    → list_all is_field fields ≡ true → length fields ≤ 32
    → text ≡ print_response (tree minor digits reason fields) ++ []
    → upstream_in (tree minor digits reason fields) ≡ Ok u → Some u ≡ Some v → UpstreamAnswer text (Ok v)
answers text minor digits reason fields u v m three ds r fs room printed read same =
    let e : u ≡ v = cc in
    inl (
      tree minor digits reason fields,
      record {
        reads = (
          record {
            minor = m;
            digits = (three, AllPass-from_list_all is_ascii_digit digits ds);
            reason = AllPass-from_list_all is_value_byte reason r;
            fields = fields_ok fields fs;
          },
          printed,
        );
        first = refl;
        room = room;
      },
      sym (read ∙ ap Ok e),
    )

-- ---- the trees of the replies

abbrev field : List ℕ → List ℕ → Field
field name raw = record { name = name; raw = raw; end = crlf }

abbrev version_field : Field
version_field = field (codes "Ntrip-Version") (codes " Ntrip/2.0")

abbrev server_field : Field
server_field = field (codes "Server") (codes " NTRIP lapcast/1.0")

abbrev challenge_field : Field
challenge_field = field (codes "WWW-Authenticate") (codes " Basic realm=\"caster\"")

abbrev close_field : Field
close_field = field (codes "Connection") (codes " close")

abbrev last_fields : List Field
last_fields = field (codes "Content-Length") (codes " 0") ∷ close_field ∷ []

-- a message without body
no_body : (first : List (List ℕ)) → message first [] ≡ lines (first ++ (codes "Content-Length: 0" ∷ close ∷ [] ∷ [])) ++
    []
no_body first = ap (λ (d : List ℕ). lines (first ++ ((codes "Content-Length: " ++ d) ∷ close ∷ [] ∷ [])) ++ [])
    (decimal_digit 0 (omega arith))

pub reply_is_head : (version : Version) (r : Reply) (table : List ℕ) (upstream : Upstream)
    → read_in version r ≡ Some upstream → UpstreamAnswer (reply_text version r table) (Ok upstream)
unfolding httparse_on_literals
reply_is_head One RoverOk table u e = absurd cc
reply_is_head One SourceOk table u e = absurd cc
reply_is_head One Table table u e = absurd cc
reply_is_head One BadHead table u e = answers _ 1 (codes "400") (codes "Bad Request") (server_field ∷ last_fields) _ u
    (omega arith) refl refl refl refl (omega arith) (no_body (codes "HTTP/1.1 400 Bad Request" ∷ server ∷ [])) refl e
reply_is_head One Method table u e = answers _ 1 (codes "501") (codes "Not Implemented") (server_field ∷ last_fields) _
    u (omega arith) refl refl refl refl (omega arith) (no_body (codes "HTTP/1.1 501 Not Implemented" ∷ server ∷ []))
    refl e
reply_is_head One Coding table u e = answers _ 1 (codes "501") (codes "Not Implemented") (server_field ∷ last_fields) _
    u (omega arith) refl refl refl refl (omega arith) (no_body (codes "HTTP/1.1 501 Not Implemented" ∷ server ∷ []))
    refl e
reply_is_head One RoverNoMount table u e = absurd cc
reply_is_head One SourceNoMount table u e = absurd cc
reply_is_head One Unauthorized table u e = answers _ 0 (codes "401") (codes "Unauthorized")
    (server_field ∷ challenge_field ∷ last_fields) _ u (omega arith) refl refl refl refl (omega arith)
    (no_body (codes "HTTP/1.0 401 Unauthorized" ∷ server ∷ challenge ∷ [])) refl e
reply_is_head One Denied table u e = answers _ 0 (codes "403") (codes "Forbidden") (server_field ∷ last_fields) _ u
    (omega arith) refl refl refl refl (omega arith) (no_body (codes "HTTP/1.0 403 Forbidden" ∷ server ∷ [])) refl e
reply_is_head One Full table u e = answers _ 0 (codes "503") (codes "Service Unavailable") (server_field ∷ last_fields)
    _ u (omega arith) refl refl refl refl (omega arith) (no_body (codes "HTTP/1.0 503 Service Unavailable" ∷ server ∷
    [])) refl e
reply_is_head One SourcePassword table u e = absurd cc
reply_is_head One Taken table u e = absurd cc
reply_is_head Two RoverOk table u e = answers _ 1 (codes "200") (codes "OK")
    (version_field ∷ server_field ∷ field (codes "Content-Type") (codes " gnss/data") ∷ field
    (codes "Transfer-Encoding") (codes " chunked") ∷ close_field ∷ []) _ u (omega arith) refl refl refl refl
    (omega arith) refl refl e
reply_is_head Two SourceOk table u e = answers _ 1 (codes "200") (codes "OK")
    (version_field ∷ server_field ∷ close_field ∷ []) _ u (omega arith) refl refl refl refl (omega arith) refl refl e
reply_is_head Two Table table u e = absurd cc
reply_is_head Two BadHead table u e = answers _ 1 (codes "400") (codes "Bad Request") (server_field ∷ last_fields) _ u
    (omega arith) refl refl refl refl (omega arith) (no_body (codes "HTTP/1.1 400 Bad Request" ∷ server ∷ [])) refl e
reply_is_head Two Method table u e = answers _ 1 (codes "501") (codes "Not Implemented") (server_field ∷ last_fields) _
    u (omega arith) refl refl refl refl (omega arith) (no_body (codes "HTTP/1.1 501 Not Implemented" ∷ server ∷ []))
    refl e
reply_is_head Two Coding table u e = answers _ 1 (codes "501") (codes "Not Implemented") (server_field ∷ last_fields) _
    u (omega arith) refl refl refl refl (omega arith) (no_body (codes "HTTP/1.1 501 Not Implemented" ∷ server ∷ []))
    refl e
reply_is_head Two RoverNoMount table u e = answers _ 1 (codes "404") (codes "Not Found")
    (version_field ∷ server_field ∷ last_fields) _ u (omega arith) refl refl refl refl (omega arith)
    (no_body (codes "HTTP/1.1 404 Not Found" ∷ version_two ∷ server ∷ [])) refl e
reply_is_head Two SourceNoMount table u e = answers _ 1 (codes "404") (codes "Not Found")
    (version_field ∷ server_field ∷ last_fields) _ u (omega arith) refl refl refl refl (omega arith)
    (no_body (codes "HTTP/1.1 404 Not Found" ∷ version_two ∷ server ∷ [])) refl e
reply_is_head Two Unauthorized table u e = answers _ 1 (codes "401") (codes "Unauthorized")
    (version_field ∷ server_field ∷ challenge_field ∷ last_fields) _ u (omega arith) refl refl refl refl (omega arith)
    (no_body (codes "HTTP/1.1 401 Unauthorized" ∷ version_two ∷ server ∷ challenge ∷ [])) refl e
reply_is_head Two Denied table u e = answers _ 1 (codes "403") (codes "Forbidden")
    (version_field ∷ server_field ∷ last_fields) _ u (omega arith) refl refl refl refl (omega arith)
    (no_body (codes "HTTP/1.1 403 Forbidden" ∷ version_two ∷ server ∷ [])) refl e
reply_is_head Two Full table u e = answers _ 1 (codes "503") (codes "Service Unavailable")
    (version_field ∷ server_field ∷ last_fields) _ u (omega arith) refl refl refl refl (omega arith)
    (no_body (codes "HTTP/1.1 503 Service Unavailable" ∷ version_two ∷ server ∷ [])) refl e
reply_is_head Two SourcePassword table u e = answers _ 1 (codes "401") (codes "Unauthorized")
    (version_field ∷ server_field ∷ challenge_field ∷ last_fields) _ u (omega arith) refl refl refl refl (omega arith)
    (no_body (codes "HTTP/1.1 401 Unauthorized" ∷ version_two ∷ server ∷ challenge ∷ [])) refl e
reply_is_head Two Taken table u e = answers _ 1 (codes "409") (codes "Conflict")
    (version_field ∷ server_field ∷ last_fields) _ u (omega arith) refl refl refl refl (omega arith)
    (no_body (codes "HTTP/1.1 409 Conflict" ∷ version_two ∷ server ∷ [])) refl e

-- ---- a head that says the length of a table

as_list_all : (d : List ℕ) → all_ascii_digits d ≡ true → list_all is_ascii_digit d ≡ true
as_list_all [] e = refl
as_list_all (c ∷ cs) e =
    let p = and_parts (is_ascii_digit c) (all_ascii_digits cs) e in
    let here : is_ascii_digit c ≡ true = p.0 in
    rw here (as_list_all cs p.1)

digit_is_value : (c : ℕ) → is_ascii_digit c ≡ true → (is_ows c ≡ false) × (is_value_byte c ≡ true)
digit_is_value c digit = grind (arith, nat_tests)

skip_digits : (d : List ℕ) → list_all is_ascii_digit d ≡ true → skip_ows d ≡ d
skip_digits [] e = refl
skip_digits (c ∷ cs) e =
    let no : is_ows c ≡ false = (digit_is_value c (and_parts (is_ascii_digit c) (list_all is_ascii_digit cs) e).0).0 in
    rw no refl

trim_digits : (d : List ℕ) → list_all is_ascii_digit d ≡ true → trim_ows (32 ∷ d) ≡ d
trim_digits d e =
    trim_ows_space d (skip_digits d e)
    (skip_digits (reverse d)
    (list_all-from_AllPass is_ascii_digit (reverse d)
    (AllPass-reverse is_ascii_digit d (AllPass-from_list_all is_ascii_digit d e))))

digits_are_value : (d : List ℕ) → list_all is_ascii_digit d ≡ true → list_all is_value_byte d ≡ true
digits_are_value [] e = refl
digits_are_value (c ∷ cs) e =
    let p = and_parts (is_ascii_digit c) (list_all is_ascii_digit cs) e in
    let here : is_value_byte c ≡ true = (digit_is_value c p.0).1 in
    rw here (digits_are_value cs p.1)

abbrev fields_with : List ℕ → List Field
fields_with d = version_field ∷ server_field ∷ field (codes "Content-Type") (codes " gnss/sourcetable") ∷ field
    (codes "Content-Length") (32 ∷ d) ∷ close_field ∷ []

fields_with_ok : (d : List ℕ) → list_all is_value_byte d ≡ true → list_all is_field (fields_with d) ≡ true
unfolding httparse_on_literals
fields_with_ok d e = rw e refl

pub table_is_body : (table : List ℕ) → length table < 2 ^ 64 → HasBody (reply_text Two Table table) 200 table
unfolding httparse_on_literals
table_is_body table small =
    let d = decimal (length table) in
    let digits : list_all is_ascii_digit d ≡ true = as_list_all d
    (digits_decimal (numerals_by_value _ tells_all_ascii_digits) (length table) small) in
    let ends : (d ++ codes "\r\n") ++ (codes "Connection: close\r\n" ++ codes "\r\n") ≡
    ((d ++ codes "\r\n") ++ codes "Connection: close\r\n") ++ codes "\r\n" =
    sym (append_assoc (d ++ codes "\r\n") (codes "Connection: close\r\n") (codes "\r\n")) in
    record {
      head = tree 1 (codes "200") (codes "OK") (fields_with d);
      reads = (
        record {
          minor = omega arith;
          digits = (refl, AllPass-from_list_all is_ascii_digit (codes "200") refl);
          reason = AllPass-from_list_all is_value_byte (codes "OK") refl;
          fields = fields_ok (fields_with d) (fields_with_ok d (digits_are_value d digits));
        },
        ap (λ (l : List ℕ).
            (codes
            "HTTP/1.1 200 OK\r\nNtrip-Version: Ntrip/2.0\r\nServer: NTRIP lapcast/1.0\r\nContent-Type: gnss/sourcetable\r\nContent-Length: " ++ l) ++ table) ends,
      );
      status_is = refl;
      length_is = ap (λ (v : List ℕ). Some v) (trim_digits d digits);
    }
