-- What a connection was sent so far with its greetings, and what more calls add to it.
use Rattle.std.proofs.Common.{◌≡◌, ◌∙◌, ◌++◌, ℕ, Bool, true, false, List, [], ◌∷◌, length, drop, reverse, All, Option, None, refl, sym, ap, subst, append_assoc}
use Rattle.std.proofs.lemmas.List.{append-nil}
use Rattle.std.proofs.lemmas.List.Elements.{All-head, All-tail}
use Rattle.std.proofs.lemmas.List.Concat.{flat_map-append}
use Rattle.std.proofs.Math.Seq.{drop-length}
use mathlib.Core.List.{reverse-cons}
use Rattle.turn_log.specs.History.{History}
use Rattle.mount_ring.specs.declared.call.RingCall.{RingCall}
use Rattle.rover_cursor.specs.declared.segment.Segment.{Segment}
use Rattle.ntrip_head.specs.declared.request.Version.{Version}
use Rattle.ntrip_head.specs.declared.request.Version.TheVariants.{One}
use Rattle.rover_session.specs.Body.{body_of}
use Rattle.rover_session.proofs.LawLemmas.{body-append}
use Rattle.cast_config.specs.declared.config.Config.{Config}
use Rattle.session_model.specs.Judged.{Opening, Judged, waiting}
use Rattle.session_calls.specs.Steps.{Answer}
use Rattle.session_model.specs.Owed.{came_by}
use Rattle.session_model.specs.Promises.{IsSoundIn}
use Rattle.session_model.specs.Replies.{opening_text, reply_of, version_of, kept_of, kept_frames, sent_by}
use Rattle.session_model.specs.Run.{Histories}
use Rattle.session_core.specs.States.{state_in}
use Rattle.session_model.proofs.KeepLemmas.{Later, AllSound}
use Rattle.caster_replay.proofs.WorldLaterLemmas.{kept_later}
use Rattle.caster_warm.specs.Warm.{greeting_text, greeting_for}
use Rattle.run_promise.proofs.AccountLemmas.{all_reversed}
use Rattle.warm_promise.specs.Greeted.{greeting_of}
use Rattle.warm_promise.proofs.BackLemmas.{AreBack, IsNew, new_kept, back_later, back_joined, back_read}
use Rattle.warm_promise.proofs.WalkLemmas.{Walk}
use Rattle.warm_promise.proofs.JudgedLemmas.{by_bytes, Same}

-- ---- with greetings and without

abbrev pub version_in : Judged → Option Answer → Version
version_in j by = version_of (came_by j by)

abbrev pub front : Config → Opening → Judged → Option Answer → List ℕ
front c o j by = opening_text c o ++ reply_of c (came_by j by)

-- without greetings, by its segments, the newest first
abbrev pub plain : Config → List (History RingCall) → Opening → Judged → Option Answer → List Segment → List ℕ
plain c h o j by segments = sent_by c h o (came_by j by) (reverse segments)

abbrev pub AreSentBack : Bool → Config → List (History RingCall) → List Segment → List (List ℕ) → Type 0
AreSentBack true c h segments frames = AreBack c h [] segments frames
AreSentBack false c h segments frames = frames ≡ kept_frames c h (reverse segments)

-- with greetings it was sent these bytes
pub record Sent (c : Config) (h : List (History RingCall)) (o : Opening) (j : Judged) (by : Option Answer)
    (segments : List Segment) (bytes : List ℕ) : Type 0 where
  pub frames : List (List ℕ)
  pub bytes_are : bytes ≡ front c o j by ++ body_of (version_in j by) frames
  pub sent : AreSentBack (by_bytes o j) c h segments frames

-- where an event sends no more
pub none_more : (bytes before after : List ℕ) → after ≡ before
    → bytes ++ (drop (length before) after ++ []) ≡ bytes
none_more bytes before after same =
    ap (λ (l : List ℕ). bytes ++ l) (append-nil (drop (length before) after)
    ∙ ap (drop (length before)) same ∙ drop-length before)
    ∙ append-nil bytes

drop_behind : (before more : List ℕ) → drop (length before) (before ++ more) ≡ more
drop_behind [] more = refl
drop_behind (x ∷ before) more = drop_behind before more

pub drop_more : (before after more : List ℕ) → after ≡ before ++ more → drop (length before) after ≡ more
drop_more before after more is = ap (drop (length before)) is ∙ drop_behind before more

-- more frames behind a body
body_more : (first : List ℕ) (version : Version) (frames more : List (List ℕ))
    → (first ++ body_of version frames) ++ body_of version more ≡ first ++ body_of version (frames ++ more)
body_more first version frames more =
    append_assoc first (body_of version frames) (body_of version more)
    ∙ ap (λ (l : List ℕ). first ++ l) (sym (body-append version frames more))

-- ---- the frames that were kept

pub kept_first : (c : Config) (h : List (History RingCall)) (segment : Segment) (older : List Segment)
    → kept_frames c h (reverse (segment ∷ older)) ≡ kept_frames c h (reverse older) ++ kept_of c h segment
kept_first c h segment older =
    ap (kept_frames c h) (reverse-cons segment older)
    ∙ flat_map-append (kept_of c h) (reverse older) (segment ∷ [])
    ∙ ap (λ (l : List (List ℕ)). kept_frames c h (reverse older) ++ l) (append-nil (kept_of c h segment))

pub kept_new : (c : Config) (h : List (History RingCall)) (news segments : List Segment) → All (IsNew c h) news
    → kept_frames c h (reverse (news ++ segments)) ≡ kept_frames c h (reverse segments)
kept_new c h [] segments all = refl
kept_new c h (segment ∷ news) segments all =
    kept_first c h segment (news ++ segments)
    ∙ ap (λ (l : List (List ℕ)). kept_frames c h (reverse (news ++ segments)) ++ l)
    (new_kept c h segment (All-head (IsNew c h) segment news all))
    ∙ append-nil (kept_frames c h (reverse (news ++ segments)))
    ∙ kept_new c h news segments (All-tail (IsNew c h) segment news all)

pub kept_back : (c : Config) (old now : List (History RingCall)) (segments : List Segment) → Later old now
    → AllSound c old segments → kept_frames c now (reverse segments) ≡ kept_frames c old (reverse segments)
kept_back c old now segments later all =
    kept_later c old now (reverse segments) later (all_reversed (IsSoundIn c old) segments all)

-- ---- the greeting

abbrev pub new_greeting : Config → List (History RingCall) → List Segment → List (List ℕ)
new_greeting c h [] = []
new_greeting c h (segment ∷ news) = greeting_of c h segment

-- as it is sent to one that goes on, by its segments
abbrev pub sent_greeting : Bool → Config → Histories → Histories → Version → List Segment → List ℕ
sent_greeting true c old now version segments = greeting_for c old now (state_in version segments)
sent_greeting false c old now version segments = greeting_for c old now None

greets_going : (c : Config) (old now : Histories) (version : Version) (before news segments : List Segment)
    → Walk c old now before news segments
    → sent_greeting true c old now version segments ≡ body_of version (new_greeting c now.rings news)
greets_going c old now version before [] [] walk = refl
greets_going c old now version before [] (segment ∷ older) walk =
    ap (greeting_text version) (walk.joined_is segment.mount)
greets_going c old now version before (segment ∷ news) segments walk =
    ap (λ (l : List Segment). greeting_for c old now (state_in version l)) walk.all
    ∙ ap (greeting_text version) walk.joined_is

pub greets_new : (goes : Bool) (c : Config) (old now : Histories) (version : Version)
    (before news segments : List Segment) → Walk c old now before news segments → (goes ≡ false → news ≡ [])
    → sent_greeting goes c old now version segments ≡ body_of version (new_greeting c now.rings news)
greets_new true c old now version before news segments walk none =
    greets_going c old now version before news segments walk
greets_new false c old now version before news segments walk none =
    ap (λ (l : List Segment). body_of version (new_greeting c now.rings l)) (sym (none refl))

-- ---- new segments

back_more : (c : Config) (h : List (History RingCall)) (news segments : List Segment) (frames : List (List ℕ))
    → All (IsNew c h) news → AreBack c h [] segments frames
    → AreBack c h [] (news ++ segments) (frames ++ new_greeting c h news)
back_more c h [] segments frames all back = subst (AreBack c h [] segments) (sym (append-nil frames)) back
back_more c h (segment ∷ news) segments frames all back = back_joined c h segment news segments frames all back

sent_more : (joins : Bool) (c : Config) (old now : List (History RingCall)) (news segments : List Segment)
    (frames : List (List ℕ)) → Later old now → AllSound c old segments → All (IsNew c now) news
    → (joins ≡ false → news ≡ []) → AreSentBack joins c old segments frames
    → AreSentBack joins c now (news ++ segments) (frames ++ new_greeting c now news)
sent_more true c old now news segments frames later sound all none back =
    back_more c now news segments frames all (back_later c old now [] segments frames later sound back)
sent_more false c old now news segments frames later sound all none back =
    subst (λ (l : List Segment). AreSentBack false c now (l ++ segments) (frames ++ new_greeting c now l))
    (sym (none refl))
    (append-nil frames ∙ back ∙ sym (kept_back c old now segments later sound))

-- of one that was judged before
pub plain_same : (c : Config) (old now : List (History RingCall)) (o : Opening) (j k : Judged) (by : Option Answer)
    (news segments : List Segment) → Same c o j k → Later old now → AllSound c old segments → All (IsNew c now) news
    → plain c now o k by (news ++ segments) ≡ plain c old o j by segments
plain_same c old now o j k by news segments same later sound all =
    ap (λ (frames : List (List ℕ)). front c o k by ++ body_of (version_in k by) frames)
    (kept_new c now news segments all ∙ kept_back c old now segments later sound)
    ∙ ap (λ (v : Version). front c o k by ++ body_of v (kept_frames c old (reverse segments))) (same.version by)
    ∙ ap (λ (r : List ℕ). (opening_text c o ++ r) ++ body_of (version_in j by) (kept_frames c old (reverse segments)))
    (same.reply by)

pub more_same : (c : Config) (old now : List (History RingCall)) (o : Opening) (j k : Judged) (by : Option Answer)
    (news segments : List Segment) (bytes : List ℕ) → Same c o j k → Later old now → AllSound c old segments
    → All (IsNew c now) news → (by_bytes o j ≡ false → news ≡ []) → Sent c old o j by segments bytes
    → Sent c now o k by (news ++ segments)
    (bytes ++ (drop (length (plain c old o j by segments)) (plain c now o k by (news ++ segments))
    ++ body_of (version_in k by) (new_greeting c now news)))
more_same c old now o j k by news segments bytes same later sound all none sent =
    let greeting = new_greeting c now news in
    let before = plain c old o j by segments in
    let after = plain c now o k by (news ++ segments) in
    let front_same : front c o j by ++ body_of (version_in j by) sent.frames
    ≡ front c o k by ++ body_of (version_in k by) sent.frames =
    ap (λ (r : List ℕ). (opening_text c o ++ r) ++ body_of (version_in j by) sent.frames) (sym (same.reply by))
    ∙ ap (λ (v : Version). front c o k by ++ body_of v sent.frames) (sym (same.version by)) in
    let nothing : drop (length before) after ≡ [] =
    ap (drop (length before)) (plain_same c old now o j k by news segments same later sound all)
    ∙ drop-length before in
    record {
      frames = sent.frames ++ greeting;
      bytes_are = ap (λ (l : List ℕ). bytes ++ (l ++ body_of (version_in k by) greeting)) nothing
          ∙ ap (λ (l : List ℕ). l ++ body_of (version_in k by) greeting) (sent.bytes_are ∙ front_same)
          ∙ body_more (front c o k by) (version_in k by) sent.frames greeting;
      sent = subst (λ (b : Bool). AreSentBack b c now (news ++ segments) (sent.frames ++ greeting)) (sym same.bytes)
          (sent_more (by_bytes o j) c old now news segments sent.frames later sound all none sent.sent);
    }

-- of one that was not
pub none_back : (joins : Bool) (c : Config) (h : List (History RingCall)) (frames : List (List ℕ))
    → AreSentBack joins c h [] frames → frames ≡ []
none_back true c h frames back = back
none_back false c h frames back = back

pub more_judged : (c : Config) (old now : List (History RingCall)) (o : Opening) (k : Judged) (before by : Option Answer)
    (news : List Segment) (bytes : List ℕ) → All (IsNew c now) news → by_bytes o k ≡ true
    → Sent c old o waiting before [] bytes
    → Sent c now o k by (news ++ [])
    (bytes ++ (drop (length (plain c old o waiting before [])) (plain c now o k by (news ++ []))
    ++ body_of (version_in k by) (new_greeting c now news)))
more_judged c old now o k before by news bytes all joins sent =
    let greeting = new_greeting c now news in
    let opening = opening_text c o in
    let reply = reply_of c (came_by k by) in
    let was : List ℕ = plain c old o waiting before [] in
    let after = plain c now o k by (news ++ []) in
    let none : sent.frames ≡ [] = none_back (by_bytes o waiting) c old sent.frames sent.sent in
    let at_first : was ≡ opening = append-nil (opening ++ []) ∙ append-nil opening in
    let bytes_was : bytes ≡ opening =
    sent.bytes_are ∙ ap (λ (l : List (List ℕ)). (opening ++ []) ++ body_of One l) none ∙ at_first in
    let after_is : after ≡ was ++ reply =
    ap (λ (l : List (List ℕ)). (opening ++ reply) ++ body_of (version_in k by) l) (kept_new c now news [] all)
    ∙ append-nil (opening ++ reply) ∙ ap (λ (l : List ℕ). l ++ reply) (sym at_first) in
    record {
      frames = [] ++ greeting;
      bytes_are = ap (λ (l : List ℕ). bytes ++ (l ++ body_of (version_in k by) greeting)) (drop_more was after reply after_is)
          ∙ ap (λ (l : List ℕ). l ++ (reply ++ body_of (version_in k by) greeting)) bytes_was
          ∙ sym (append_assoc opening reply (body_of (version_in k by) greeting));
      sent = subst (λ (b : Bool). AreSentBack b c now (news ++ []) ([] ++ greeting)) (sym joins)
          (back_more c now news [] [] all refl);
    }

-- ---- nothing new

pub stays_sent : (c : Config) (old now : List (History RingCall)) (o : Opening) (j : Judged) (by : Option Answer)
    (segments : List Segment) (bytes : List ℕ) → Later old now → AllSound c old segments
    → Sent c old o j by segments bytes → Sent c now o j by segments bytes
stays_sent c old now o j by segments bytes later sound sent = record {
  frames = sent.frames;
  bytes_are = sent.bytes_are;
  sent = stays_back (by_bytes o j) sent.frames sent.sent;
}
  where
    stays_back : (joins : Bool) (frames : List (List ℕ)) → AreSentBack joins c old segments frames
        → AreSentBack joins c now segments frames
    stays_back true frames back = back_later c old now [] segments frames later sound back
    stays_back false frames back = back ∙ sym (kept_back c old now segments later sound)

-- ---- the newest segment was read on

module _ (c : Config) (old now : List (History RingCall)) (segment read : Segment) (older : List Segment)
    (more : List (List ℕ)) (later : Later old now) (sound : AllSound c old (segment ∷ older))
    (greeting : greeting_of c now read ≡ greeting_of c now segment)
    (kept_now : kept_of c now read ≡ kept_of c old segment ++ more)
    (kept_same : kept_of c now segment ≡ kept_of c old segment) where
  kept_all : kept_frames c now (reverse (read ∷ older)) ≡ kept_frames c old (reverse (segment ∷ older)) ++ more
  kept_all =
      kept_first c now read older
      ∙ ap (λ (l : List (List ℕ)). l ++ kept_of c now read)
      (kept_back c old now older later (All-tail (IsSoundIn c old) segment older sound))
      ∙ ap (λ (l : List (List ℕ)). kept_frames c old (reverse older) ++ l) kept_now
      ∙ sym (append_assoc (kept_frames c old (reverse older)) (kept_of c old segment) more)
      ∙ ap (λ (l : List (List ℕ)). l ++ more) (sym (kept_first c old segment older))

  read_back : (joins : Bool) (frames : List (List ℕ)) → AreSentBack joins c old (segment ∷ older) frames
      → AreSentBack joins c now (read ∷ older) (frames ++ more)
  read_back true frames back =
      back_read c now segment read older frames more greeting
      (kept_now ∙ ap (λ (l : List (List ℕ)). l ++ more) (sym kept_same))
      (back_later c old now [] (segment ∷ older) frames later sound back)
  read_back false frames back = ap (λ (l : List (List ℕ)). l ++ more) back ∙ sym kept_all

  pub read_sent : (o : Opening) (j : Judged) (by : Option Answer) (bytes : List ℕ)
      → Sent c old o j by (segment ∷ older) bytes
      → Sent c now o j by (read ∷ older)
      (bytes ++ (drop (length (plain c old o j by (segment ∷ older))) (plain c now o j by (read ∷ older)) ++ []))
  read_sent o j by bytes sent =
      let before = plain c old o j by (segment ∷ older) in
      let after = plain c now o j by (read ∷ older) in
      let kept_before = kept_frames c old (reverse (segment ∷ older)) in
      let after_is : after ≡ before ++ body_of (version_in j by) more =
      ap (λ (l : List (List ℕ)). front c o j by ++ body_of (version_in j by) l) kept_all
      ∙ sym (body_more (front c o j by) (version_in j by) kept_before more) in
      record {
        frames = sent.frames ++ more;
        bytes_are = ap (λ (l : List ℕ). bytes ++ l) (append-nil (drop (length before) after)
            ∙ drop_more before after (body_of (version_in j by) more) after_is)
            ∙ ap (λ (l : List ℕ). l ++ body_of (version_in j by) more) sent.bytes_are
            ∙ body_more (front c o j by) (version_in j by) sent.frames more;
        sent = read_back (by_bytes o j) sent.frames sent.sent;
      }
