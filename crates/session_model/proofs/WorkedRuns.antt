-- Worked runs, computed from the definitions: they say what is told of a script before any code
-- runs. That the bytes of each head are what its heading says is not part of them: only their
-- number counts here.
use Rattle.std.proofs.Common.{◌≡◌, [], ◌∷◌, ◌++◌, refl, Ok, Err}
use Rattle.std.specs.Prelude.{codes, false, replicate}
use Rattle.std.specs.Fmt.{digits}
use Rattle.hex.specs.Hex.{encode_with}
use Rattle.rtcm_frame.specs.Crc.{crc24q_of, bits_of, after_bit}
use Rattle.rtcm_frame.specs.Transport.{is_frame, number_of}
use Rattle.rtcm_frame.specs.Cut.{cut, cut_after}
use Rattle.chunk_body.specs.Answer.{plain_of, answer}
use Rattle.chunk_body.specs.Machine.{expected, in_digits, in_extension, behind_size, in_data, in_trailers, step, after, read}
use Rattle.gga_read.specs.Report.{fix_of}
use Rattle.base_select.specs.Measure.{measure_of}
use Rattle.ntrip_client.specs.declared.answer.Refusal.TheVariants.{Status}
use Rattle.config_table.specs.Table.{table_records}
use Rattle.access_groups.specs.Admission.{admission, source_admission}
use Rattle.session_script.specs.declared.Event.TheVariants.{Source, Rover, Open, Relay, In, Turn, End}
use Rattle.cast_config.specs.Bare.{bare}
use Rattle.session_model.specs.Headings.{incomplete, too_long, answered}
use Rattle.session_model.specs.Reports.{report, no_heads}
use Rattle.session_model.specs.Text.{report_text, connection_lines, closed_text}
use Rattle.cast_config.proofs.WorkedExample.{example}
use Rattle.session_model.proofs.Example.{with_relay, with_filter, frame_a, frame_b, frame_z, at_first, at_second, alpha_head, alpha_source, bravo_head, bravo_source, rover_head, alpha_rover, near_head, near_rover, rover_two_head, rover_two, source_two_head, source_two, text, sent, head_of, icy, source_lines, heads_of}

-- a bare source sends two frames, and a bare rover that joined before is sent both
bare_run : report_text (bare 4) (report (bare 4) (no_heads)
    (Source 1 (codes "A") ∷ Rover 2 (codes "A") ∷ In 1 (frame_a ++ frame_b) ∷ Turn 2 16 ∷ []))
    ≡ text ((codes "connection 1 source-end 1" ∷ codes "junk 0" ∷ codes "bytes -" ∷ codes "connection 2 rover-end" ∷
    codes "junk 0" ∷ codes "segment A 0 2 2 0" ∷ sent (frame_a ++ frame_b) ∷ codes "mount A 2 1" ∷
    codes "total 1 2 0" ∷ []))
unfolding cut cut_after is_frame crc24q_of bits_of after_bit connection_lines closed_text digits encode_with admission
    source_admission
bare_run = refl

-- the usual session of NTRIP 1.0
usual : report_text example (report example (heads_of (alpha_source ∷ alpha_rover ∷ []))
    (Open 1 ∷ In 1 alpha_head ∷ Open 2 ∷ In 2 rover_head ∷ In 1 frame_a ∷ Turn 2 16 ∷ []))
    ≡ text (source_lines (codes "1") (codes "1")
    ++ (codes "connection 2 rover-end" ∷ codes "junk 0" ∷ codes "segment ALPHA 0 1 1 0" ∷ sent (icy ++ frame_a) ∷
    codes "mount ALPHA 1 1" ∷ codes "mount BRAVO 0 0" ∷ codes "account rover1 1 1 0" ∷
    codes "account rover2 0 0 0" ∷ codes "total 1 1 0" ∷ []))
unfolding cut cut_after is_frame crc24q_of bits_of after_bit connection_lines closed_text digits encode_with admission
    source_admission table_records
usual = refl

-- a rover of NTRIP 2.0 is sent its frames in chunks
version_two : report_text example (report example (heads_of (alpha_source ∷ rover_two 106 (codes "ALPHA")
    (codes "rover1") (codes "secret") ∷ []))
    (Open 1 ∷ In 1 alpha_head ∷ Open 2 ∷ In 2 rover_two_head ∷ In 1 frame_a ∷ Turn 2 16 ∷ []))
    ≡ text (source_lines (codes "1") (codes "1")
    ++ (codes "connection 2 rover-end" ∷ codes "junk 0" ∷ codes "segment ALPHA 0 1 1 0" ∷
    sent (head_of (codes "HTTP/1.1 200 OK" ∷ codes "Ntrip-Version: Ntrip/2.0"
    ∷ codes "Server: NTRIP lapcast/1.0" ∷ codes "Content-Type: gnss/data"
    ∷ codes "Transfer-Encoding: chunked" ∷ codes "Connection: close" ∷ [])
    ++ codes "8\r\n" ++ frame_a ++ codes "\r\n") ∷
    codes "mount ALPHA 1 1" ∷ codes "mount BRAVO 0 0" ∷ codes "account rover1 1 1 0" ∷
    codes "account rover2 0 0 0" ∷ codes "total 1 1 0" ∷ []))
unfolding cut cut_after is_frame crc24q_of bits_of after_bit connection_lines closed_text digits encode_with admission
    source_admission table_records
version_two = refl

-- refusals of NTRIP 2.0, in this order: the name, the account, its password, its group
refusals : report_text example (report example (heads_of (rover_two 1 (codes "NONE") (codes "rover2")
    (codes "wrong") ∷ rover_two 1 (codes "ALPHA") (codes "nobody") (codes "secret2") ∷ rover_two 1 (codes "ALPHA")
    (codes "rover2") (codes "wrong") ∷ rover_two 1 (codes "ALPHA") (codes "rover2") (codes "secret2") ∷ []))
    (Open 1 ∷ In 1 (10 ∷ []) ∷ Open 2 ∷ In 2 (10 ∷ []) ∷ Open 3 ∷ In 3 (10 ∷ []) ∷ Open 4 ∷
    In 4 (10 ∷ []) ∷ []))
    ≡ text ((codes "connection 1 no-mount" ∷ codes "junk 0" ∷
    sent (head_of (codes "HTTP/1.1 404 Not Found" ∷ codes "Ntrip-Version: Ntrip/2.0"
    ∷ codes "Server: NTRIP lapcast/1.0" ∷ codes "Content-Length: 0" ∷ codes "Connection: close" ∷ [])) ∷
    codes "connection 2 no-account" ∷ codes "junk 0" ∷
    sent (head_of (codes "HTTP/1.1 401 Unauthorized" ∷ codes "Ntrip-Version: Ntrip/2.0"
    ∷ codes "Server: NTRIP lapcast/1.0"
    ∷ codes "WWW-Authenticate: Basic realm=\"caster\"" ∷ codes "Content-Length: 0" ∷ codes "Connection: close" ∷ [])) ∷
    codes "connection 3 password 2" ∷ codes "junk 0" ∷
    sent (head_of (codes "HTTP/1.1 401 Unauthorized" ∷ codes "Ntrip-Version: Ntrip/2.0"
    ∷ codes "Server: NTRIP lapcast/1.0"
    ∷ codes "WWW-Authenticate: Basic realm=\"caster\"" ∷ codes "Content-Length: 0" ∷ codes "Connection: close" ∷ [])) ∷
    codes "connection 4 denied 1" ∷ codes "junk 0" ∷
    sent (head_of (codes "HTTP/1.1 403 Forbidden" ∷ codes "Ntrip-Version: Ntrip/2.0"
    ∷ codes "Server: NTRIP lapcast/1.0" ∷ codes "Content-Length: 0" ∷ codes "Connection: close" ∷ [])) ∷
    codes "mount ALPHA 0 0" ∷ codes "mount BRAVO 0 0" ∷ codes "account rover1 0 0 0" ∷
    codes "account rover2 0 0 0" ∷ codes "total 0 0 0" ∷ []))
unfolding cut cut_after is_frame crc24q_of bits_of after_bit connection_lines closed_text digits encode_with admission
    source_admission table_records
refusals = refl

-- an account of one session: the second rover is refused, and a third enters after the first left
full_account : report_text example (report example (heads_of (alpha_rover ∷ alpha_rover ∷ alpha_rover ∷ []))
    (Open 1 ∷ In 1 rover_head ∷ Open 2 ∷ In 2 rover_head ∷ End 1 ∷ Open 3 ∷ In 3 rover_head ∷ []))
    ≡ text ((codes "connection 1 rover-end" ∷ codes "junk 0" ∷ codes "segment ALPHA 0 0 0 0" ∷ sent icy ∷
    codes "connection 2 full 1 1" ∷ codes "junk 0" ∷
    sent (head_of (codes "HTTP/1.0 503 Service Unavailable" ∷ codes "Server: NTRIP lapcast/1.0"
    ∷ codes "Content-Length: 0" ∷ codes "Connection: close" ∷ [])) ∷
    codes "connection 3 rover-end" ∷ codes "junk 0" ∷ codes "segment ALPHA 0 0 0 0" ∷ sent icy ∷
    codes "mount ALPHA 0 0" ∷ codes "mount BRAVO 0 0" ∷ codes "account rover1 2 0 0" ∷
    codes "account rover2 0 0 0" ∷ codes "total 2 0 0" ∷ []))
unfolding cut cut_after is_frame crc24q_of bits_of after_bit connection_lines closed_text digits encode_with admission
    source_admission table_records
full_account = refl

-- a near rover goes from one base to the other and back: a segment for each
there_and_back : report_text example (report example (heads_of (alpha_source ∷ bravo_source ∷ near_rover ∷ []))
    (Open 1 ∷ In 1 alpha_head ∷ Open 2 ∷ In 2 bravo_head ∷ Open 3 ∷ In 3 near_head ∷ In 1 frame_a ∷
    In 3 at_first ∷ In 1 frame_b ∷ In 2 frame_a ∷ Turn 3 16 ∷ In 3 at_second ∷ In 2 frame_b ∷
    In 1 frame_a ∷ Turn 3 16 ∷ In 3 at_first ∷ In 1 frame_z ∷ Turn 3 16 ∷ []))
    ≡ text (source_lines (codes "1") (codes "1")
    ++ source_lines (codes "2") (codes "1")
    ++ (codes "connection 3 rover-end" ∷ codes "junk 0" ∷ codes "segment ALPHA 1 2 1 0" ∷
    codes "segment BRAVO 1 2 1 0" ∷ codes "segment ALPHA 3 4 1 0" ∷
    sent (icy ++ frame_b ++ frame_b ++ frame_z) ∷ codes "mount ALPHA 4 1" ∷ codes "mount BRAVO 2 1" ∷
    codes "account rover1 1 3 0" ∷ codes "account rover2 0 0 0" ∷ codes "total 1 3 0" ∷ []))
unfolding cut cut_after is_frame crc24q_of bits_of after_bit connection_lines closed_text digits encode_with admission
    source_admission table_records fix_of measure_of
there_and_back = refl

-- only a base that a source holds is chosen; where none is, the rover stays
live_bases : report_text example (report example (heads_of (alpha_source ∷ bravo_source ∷ near_rover ∷ []))
    (Open 1 ∷ In 1 alpha_head ∷ Open 3 ∷ In 3 near_head ∷ In 3 at_second ∷ In 1 frame_a ∷ Turn 3 16 ∷
    Open 2 ∷ In 2 bravo_head ∷ In 2 frame_b ∷ In 3 at_second ∷ In 2 frame_a ∷ Turn 3 16 ∷ End 2 ∷
    In 3 at_second ∷ End 1 ∷ In 3 at_second ∷ []))
    ≡ text (source_lines (codes "1") (codes "1")
    ++ source_lines (codes "2") (codes "1")
    ++ (codes "connection 3 rover-end" ∷ codes "junk 0" ∷ codes "segment ALPHA 0 1 1 0" ∷
    codes "segment BRAVO 1 2 1 0" ∷ codes "segment ALPHA 1 1 0 0" ∷ sent (icy ++ frame_a ++ frame_a) ∷
    codes "mount ALPHA 1 1" ∷ codes "mount BRAVO 2 1" ∷ codes "account rover1 1 2 0" ∷
    codes "account rover2 0 0 0" ∷ codes "total 1 2 0" ∷ []))
unfolding cut cut_after is_frame crc24q_of bits_of after_bit connection_lines closed_text digits encode_with admission
    source_admission table_records fix_of measure_of
live_bases = refl

-- a near rover whose bases nobody holds has no segment
no_live_base : report_text example (report example (heads_of (near_rover ∷ []))
    (Open 1 ∷ In 1 near_head ∷ In 1 at_second ∷ []))
    ≡ text ((codes "connection 1 rover-end" ∷ codes "junk 0" ∷ sent icy ∷ codes "mount ALPHA 0 0" ∷
    codes "mount BRAVO 0 0" ∷ codes "account rover1 1 0 0" ∷ codes "account rover2 0 0 0" ∷
    codes "total 1 0 0" ∷ []))
unfolding cut cut_after is_frame crc24q_of bits_of after_bit connection_lines closed_text digits encode_with admission
    source_admission table_records fix_of measure_of
no_live_base = refl

-- a chunked body breaks at its seventh digit of a size, and the mountpoint is free again
malformed_chunk : report_text example (report example (heads_of (source_two ∷ bravo_source ∷ alpha_source ∷ []))
    (Open 1 ∷ In 1 (source_two_head ++ codes "8\r\n" ++ frame_a ++ codes "\r\n0000008") ∷ Open 3 ∷
    In 3 alpha_head ∷ []))
    ≡ text ((codes "connection 1 bad-chunk 19" ∷ codes "junk 0" ∷
    sent (head_of (codes "HTTP/1.1 200 OK" ∷ codes "Ntrip-Version: Ntrip/2.0"
    ∷ codes "Server: NTRIP lapcast/1.0" ∷ codes "Connection: close" ∷ [])) ∷ [])
    ++ source_lines (codes "3") (codes "2")
    ++ (codes "mount ALPHA 1 2" ∷ codes "mount BRAVO 0 0" ∷ codes "account rover1 0 0 0" ∷
    codes "account rover2 0 0 0" ∷ codes "total 0 0 0" ∷ []))
unfolding cut cut_after is_frame crc24q_of bits_of after_bit connection_lines closed_text digits encode_with admission
    source_admission table_records plain_of answer expected in_digits in_extension behind_size in_data in_trailers step
    after read
malformed_chunk = refl

-- the filter of a group at one mountpoint permits one of two frames
own_filter : report_text with_filter (report with_filter (heads_of (alpha_source ∷ bravo_source ∷ near_rover ∷ []))
    (Open 1 ∷ In 1 alpha_head ∷ Open 2 ∷ In 2 bravo_head ∷ Open 3 ∷ In 3 near_head ∷ In 3 at_second ∷
    In 2 (frame_b ++ frame_a) ∷ Turn 3 16 ∷ In 3 at_first ∷ In 1 frame_b ∷ Turn 3 16 ∷ []))
    ≡ text (source_lines (codes "1") (codes "1")
    ++ source_lines (codes "2") (codes "1")
    ++ (codes "connection 3 rover-end" ∷ codes "junk 0" ∷ codes "segment BRAVO 0 2 1 0" ∷
    codes "segment ALPHA 0 1 1 0" ∷ sent (icy ++ frame_a ++ frame_b) ∷ codes "mount ALPHA 1 1" ∷
    codes "mount BRAVO 2 1" ∷ codes "account rover1 1 2 0" ∷ codes "account rover2 0 0 0" ∷
    codes "total 1 2 0" ∷ []))
unfolding cut cut_after is_frame crc24q_of bits_of after_bit connection_lines closed_text digits encode_with admission
    source_admission table_records fix_of measure_of number_of
own_filter = refl

-- a relay publishes what the other caster sends behind its first line
relayed : report_text with_relay (report with_relay (heads_of (answered 12 (Ok false) ∷ []))
    (Relay 1 0 ∷ In 1 (codes "ICY 200 OK\r\n\r\n" ++ frame_a) ∷ []))
    ≡ text ((codes "connection 1 source-end 1" ∷ codes "junk 2" ∷
    sent (head_of (codes "GET /UP HTTP/1.0" ∷ codes "User-Agent: NTRIP lapcast/1.0" ∷ [])) ∷
    codes "mount ALPHA 1 1" ∷ codes "mount BRAVO 0 0" ∷ codes "account rover1 0 0 0" ∷
    codes "account rover2 0 0 0" ∷ codes "total 0 0 0" ∷ []))
unfolding cut cut_after is_frame crc24q_of bits_of after_bit connection_lines closed_text digits encode_with admission
    source_admission table_records
relayed = refl

-- another caster that answers with another status feeds nothing
not_relayed : report_text with_relay (report with_relay (heads_of (answered 26 (Err (Status 404)) ∷ []))
    (Relay 1 0 ∷ In 1 (codes "HTTP/1.1 404 Not Found\r\n\r\n") ∷ []))
    ≡ text ((codes "connection 1 upstream 404" ∷ codes "junk 0" ∷
    sent (head_of (codes "GET /UP HTTP/1.0" ∷ codes "User-Agent: NTRIP lapcast/1.0" ∷ [])) ∷
    codes "mount ALPHA 0 0" ∷ codes "mount BRAVO 0 0" ∷ codes "account rover1 0 0 0" ∷
    codes "account rover2 0 0 0" ∷ codes "total 0 0 0" ∷ []))
unfolding cut cut_after is_frame crc24q_of bits_of after_bit connection_lines closed_text digits encode_with admission
    source_admission table_records
not_relayed = refl

-- 8,192 bytes without the end of a head, and one fewer
long_head : report_text example (report example (heads_of (too_long ∷ incomplete ∷ []))
    (Open 1 ∷ In 1 (replicate 8191 97) ∷ In 1 (97 ∷ []) ∷ Open 2 ∷ In 2 (replicate 8191 97) ∷ []))
    ≡ text ((codes "connection 1 long-head" ∷ codes "junk 0" ∷
    sent (head_of (codes "HTTP/1.1 400 Bad Request" ∷ codes "Server: NTRIP lapcast/1.0"
    ∷ codes "Content-Length: 0" ∷ codes "Connection: close" ∷ [])) ∷
    codes "connection 2 no-head" ∷ codes "junk 0" ∷ codes "bytes -" ∷ codes "mount ALPHA 0 0" ∷
    codes "mount BRAVO 0 0" ∷ codes "account rover1 0 0 0" ∷ codes "account rover2 0 0 0" ∷
    codes "total 0 0 0" ∷ []))
unfolding cut cut_after is_frame crc24q_of bits_of after_bit connection_lines closed_text digits encode_with admission
    source_admission table_records
long_head = refl
