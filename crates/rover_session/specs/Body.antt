-- What a rover is sent: its frames as they are under NTRIP 1.0 (RTCM 10410.0), and one chunk for
-- each (RFC 9112, section 7.1) under NTRIP 2.0 (RTCM 10410.1).
use Rattle.std.specs.Prelude.{ℕ, List}
use Rattle.std.specs.List.{flat_map}
use Rattle.chunk_body.specs.Written.{chunk_of}
use Rattle.ntrip_head.specs.declared.request.Version.{Version}
use Rattle.ntrip_head.specs.declared.request.Version.TheVariants.{One, Two}

abbrev pub frame_sent : Version → List ℕ → List ℕ
frame_sent One frame = frame
frame_sent Two frame = chunk_of frame

abbrev pub body_of : Version → List (List ℕ) → List ℕ
body_of version frames = flat_map (frame_sent version) frames
