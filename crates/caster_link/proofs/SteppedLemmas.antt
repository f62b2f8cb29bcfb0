-- What a read of a link gave while its connection was served: bytes are fed, and a turn may follow.
use Rattle.std.proofs.Common.{◌≡◌, ◌∙◌, ◌+◌, ℕ, Bool, List, [], ◌∷◌, ◌++◌, length, take, ap, subst, None, arith}
use Rattle.std.specs.Prelude.{is_some, true}
use Rattle.cast_io.specs.declared.link.Got.TheVariants as got
use Rattle.cast_io.specs.Told.{LinkTold}
use Rattle.cast_io.specs.Links.{HasRead}
use Rattle.cast_config.specs.declared.config.Config.{Config}
use Rattle.session_core.specs.declared.session.Session.{Session}
use Rattle.session_model.specs.Judged.{Opening}
use Rattle.session_model.specs.Owed.{Happening, arrives, takes_turn}
use Rattle.session_model.specs.Run.{Histories}
use Rattle.session_model.specs.Courses.{steps_of, text_of}
use Rattle.session_core.specs.Standing.{Fed}
use Rattle.session_core.specs.Asking.{TellsAsked}
use Rattle.caster_link.specs.Served.{Reached, Arrived, Serving}
use Rattle.caster_link.proofs.ReachLemmas.{reach_bytes, bytes_ended, bytes_turned}
use Rattle.caster_link.proofs.ServingLemmas.{goes_on_by, long_bytes, long_idle}

-- so many bytes were due
as_long : (whats : List Happening) (bytes : List ℕ) (count : ℕ) → length bytes ≡ count
    → length (text_of (whats ++ arrives bytes ∷ takes_turn 16 ∷ [])) ≡ length (text_of whats) + count
as_long whats bytes count long =
    long_bytes whats bytes ∙ ap (λ (n : ℕ). length (text_of whats) + n) long

-- they ended the connection
pub served_ended : (c : Config) (opening : Opening) (me : ℕ) (alone : Bool) (start now later : Histories)
    (session next : Session) (before after last : LinkTold) (given count : ℕ) (buf out new : List ℕ)
    (s : Serving c opening me start now session before after [] given) → session.ended ≡ None
    → HasRead after last (got.Bytes count) buf → out ≡ [] → length (take count buf) ≡ count
    → next.me ≡ session.me → is_some next.ended ≡ true
    → Fed c alone now later next opening (text_of s.whats ++ take count buf) (steps_of s.reached.events)
    (s.written ++ []) out new
    → TellsAsked opening (text_of s.whats ++ take count buf) next
    → Serving c opening me start later next before last new (given + count)
served_ended c opening me alone start now later session next before after last given count buf out new s unended read
    empty long same ended fed asks =
    let bytes = take count buf in
    let sent = s.written ++ [] in
    goes_on_by c opening me start now later session next before after last given count (got.Bytes count) buf out new s
    unended read empty
    (bytes_ended c opening me start later next sent out new fed.added bytes s.whats fed.out ended
    (reach_bytes c opening me alone start now later session next sent out new bytes s.whats s.reached unended same fed
    asks))
    (as_long s.whats bytes count long)

-- they did not, and a turn followed
pub served_turned : (c : Config) (opening : Opening) (me : ℕ) (alone : Bool) (start now later latest : Histories)
    (session next third : Session) (before after last : LinkTold) (given count : ℕ) (buf out between new : List ℕ)
    (s : Serving c opening me start now session before after [] given) → session.ended ≡ None
    → HasRead after last (got.Bytes count) buf → out ≡ [] → length (take count buf) ≡ count
    → next.me ≡ session.me
    → Fed c alone now later next opening (text_of s.whats ++ take count buf) (steps_of s.reached.events)
    (s.written ++ []) out between
    → TellsAsked opening (text_of s.whats ++ take count buf) next
    → ((sent : List ℕ) (whats : List Happening) → Reached c opening me start later next sent whats
    → Arrived c opening me start latest third sent between new whats (takes_turn 16 ∷ []))
    → Serving c opening me start latest third before last new (given + count)
served_turned c opening me alone start now later latest session next third before after last given count buf out between
    new s unended read empty long same fed asks turned =
    let bytes = take count buf in
    let sent = s.written ++ [] in
    goes_on_by c opening me start now latest session third before after last given count (got.Bytes count) buf out new s
    unended read empty
    (bytes_turned c opening me start latest third sent out between new fed.added bytes s.whats fed.out
    (turned (sent ++ fed.added) (s.whats ++ arrives bytes ∷ [])
    (reach_bytes c opening me alone start now later session next sent out between bytes s.whats s.reached unended same
    fed asks)))
    (as_long s.whats bytes count long)

-- ---- nothing was there, and a turn was taken

pub served_idle : (c : Config) (opening : Opening) (me : ℕ) (start now later : Histories) (session next : Session)
    (before after last : LinkTold) (given : ℕ) (buf out new : List ℕ)
    (s : Serving c opening me start now session before after [] given) → session.ended ≡ None
    → HasRead after last got.Idle buf → out ≡ []
    → Arrived c opening me start later next (s.written ++ []) out new s.whats (takes_turn 16 ∷ [])
    → Serving c opening me start later next before last new given
served_idle c opening me start now later session next before after last given buf out new s unended read empty turned =
    let same : given + 0 ≡ given = omega arith in
    subst (Serving c opening me start later next before last new) same
    (goes_on_by c opening me start now later session next before after last given 0 got.Idle buf out new s unended read
    empty turned (long_idle s.whats))
