-- Frames with their greetings, seen from the newest segment.
use Rattle.std.proofs.Common.{◌≡◌, ◌≢◌, ◌∙◌, ◌≤◌, ◌-◌, ◌++◌, ℕ, Bool, List, [], ◌∷◌, length, take, drop, reverse, All, inl, inr, refl, sym, ap, subst, append_assoc, arith}
use Rattle.std.specs.List.{filter}
use Rattle.std.proofs.lemmas.List.{append-nil, take-append-le}
use Rattle.std.proofs.lemmas.List.Elements.{All-head, All-tail}
use mathlib.Core.List.{reverse-cons}
use Rattle.turn_log.specs.History.{History}
use Rattle.last_frames.specs.Last.{last_permitted}
use Rattle.mount_ring.specs.declared.call.RingCall.{RingCall}
use Rattle.mount_ring.specs.declared.cursor.Lap.{Lap}
use Rattle.rover_cursor.specs.declared.segment.Segment.{Segment}
use Rattle.rover_cursor.specs.Sound.{kept, outside}
use Rattle.rover_cursor.proofs.SoundLemmas.{kept-append, LapsBetween-le}
use Rattle.session_calls.specs.Rings.{shape_at}
use Rattle.cast_config.specs.declared.config.Config.{Config}
use Rattle.session_model.specs.Setting.{shapes}
use Rattle.session_model.specs.Replies.{kept_of}
use Rattle.session_model.specs.Promises.{permits_of, published_at, IsSoundIn}
use Rattle.session_model.proofs.KeepLemmas.{Later, AllSound}
use Rattle.warm_promise.specs.Greeted.{greeting_of, IsGreeting, AreGreeted}

-- what the segments from the newest one on were sent, where these are later ones
abbrev pub AreBack : Config → List (History RingCall) → List Segment → List Segment → List (List ℕ) → Type 0
AreBack c h later [] frames = frames ≡ []
AreBack c h later (segment ∷ older) frames =
    (before greeting : List (List ℕ)) × (frames ≡ before ++ (greeting ++ kept_of c h segment))
    × IsGreeting c h segment later greeting × AreBack c h (segment ∷ later) older before

some_cons : (segment : Segment) (later : List Segment) → segment ∷ later ≢ []
some_cons segment later e = cc

-- ---- in their order

pub greeted_from : (c : Config) (h : List (History RingCall)) (later segments : List Segment)
    (first second : List (List ℕ)) → AreBack c h later segments first → AreGreeted c h later second
    → AreGreeted c h (reverse segments ++ later) (first ++ second)
greeted_from c h later [] first second none rest =
    subst (λ (l : List (List ℕ)). AreGreeted c h later (l ++ second)) (sym none) rest
greeted_from c h later (segment ∷ older) first second (before, greeting, is, greets, back) rest =
    let kept_frames = kept_of c h segment in
    let all = greeted_from c h (segment ∷ later) older before (greeting ++ (kept_frames ++ second)) back
    (greeting, second, refl, greets, rest) in
    let order : reverse (segment ∷ older) ++ later ≡ reverse older ++ (segment ∷ later) =
    ap (λ (l : List Segment). l ++ later) (reverse-cons segment older)
    ∙ append_assoc (reverse older) (segment ∷ []) later in
    let frames : first ++ second ≡ before ++ (greeting ++ (kept_frames ++ second)) =
    ap (λ (l : List (List ℕ)). l ++ second) is
    ∙ append_assoc before (greeting ++ kept_frames) second
    ∙ ap (λ (l : List (List ℕ)). before ++ l) (append_assoc greeting kept_frames second) in
    subst (λ (l : List (List ℕ)). AreGreeted c h (reverse (segment ∷ older) ++ later) l) (sym frames)
    (subst (λ (s : List Segment). AreGreeted c h s (before ++ (greeting ++ (kept_frames ++ second)))) (sym order) all)

pub greeted_all : (c : Config) (h : List (History RingCall)) (segments : List Segment) (frames : List (List ℕ))
    → AreBack c h [] segments frames → AreGreeted c h (reverse segments) frames
greeted_all c h segments frames back =
    subst (λ (s : List Segment). AreGreeted c h s frames) (append-nil (reverse segments))
    (subst (λ (l : List (List ℕ)). AreGreeted c h (reverse segments ++ []) l) (append-nil frames)
    (greeted_from c h [] segments frames [] back refl))

-- ---- with more later ones

later_greets : (c : Config) (h : List (History RingCall)) (segment : Segment) (one two : List Segment)
    (greeting : List (List ℕ)) → (one ≢ [] → two ≢ []) → IsGreeting c h segment one greeting
    → IsGreeting c h segment two greeting
later_greets c h segment one two greeting some (inl is) = inl is
later_greets c h segment one two greeting some (inr (none, unread, followed)) = inr (none, unread, some followed)

pub back_before : (c : Config) (h : List (History RingCall)) (one two segments : List Segment) (frames : List (List ℕ))
    → (one ≢ [] → two ≢ []) → AreBack c h one segments frames → AreBack c h two segments frames
back_before c h one two [] frames some back = back
back_before c h one two (segment ∷ older) frames some (before, greeting, is, greets, back) = (
  before,
  greeting,
  is,
  later_greets c h segment one two greeting some greets,
  back_before c h (segment ∷ one) (segment ∷ two) older before (λ so. some_cons segment two) back,
)

-- ---- more was published

pub greeting_later : (c : Config) (old now : List (History RingCall)) (segment : Segment) → Later old now
    → segment.from ≤ length (published_at old segment) → greeting_of c now segment ≡ greeting_of c old segment
greeting_later c old now segment later within =
    let more = later segment.mount in
    ap (λ (l : List (List ℕ)). last_permitted (permits_of c segment) (take segment.from l)) more.1
    ∙ ap (last_permitted (permits_of c segment))
    (take-append-le segment.from (published_at old segment) more.0 within)

pub kept_on : (c : Config) (old now : List (History RingCall)) (segment : Segment) → Later old now
    → IsSoundIn c old segment → kept_of c now segment ≡ kept_of c old segment
kept_on c old now segment later sound =
    let more = later segment.mount in
    ap (λ (frames : List (List ℕ)). kept (permits_of c segment) frames segment) more.1
    ∙ kept-append (permits_of c segment) (shape_at (shapes c) segment.mount).capacity (published_at old segment)
    more.0 segment sound

pub sound_within : (c : Config) (h : List (History RingCall)) (segment : Segment) → IsSoundIn c h segment
    → segment.from ≤ length (published_at h segment)
sound_within c h segment sound =
    omega (
      arith,
      sound.within,
      LapsBetween-le (permits_of c segment) (shape_at (shapes c) segment.mount).capacity
          (published_at h segment) segment.from segment.laps segment.to sound.laps,
    )

greets_later : (c : Config) (old now : List (History RingCall)) (segment : Segment) (later : List Segment)
    (greeting : List (List ℕ)) → Later old now → IsSoundIn c old segment → IsGreeting c old segment later greeting
    → IsGreeting c now segment later greeting
greets_later c old now segment later greeting more sound (inl is) =
    inl (is ∙ sym (greeting_later c old now segment more (sound_within c old segment sound)))
greets_later c old now segment later greeting more sound (inr unread) = inr unread

pub back_later : (c : Config) (old now : List (History RingCall)) (later segments : List Segment)
    (frames : List (List ℕ)) → Later old now → AllSound c old segments → AreBack c old later segments frames
    → AreBack c now later segments frames
back_later c old now later [] frames more all back = back
back_later c old now later (segment ∷ older) frames more all (before, greeting, is, greets, back) =
    let sound = All-head (IsSoundIn c old) segment older all in (
      before,
      greeting,
      is ∙ ap (λ (l : List (List ℕ)). before ++ (greeting ++ l)) (sym (kept_on c old now segment more sound)),
      greets_later c old now segment later greeting more sound greets,
      back_later c old now (segment ∷ later) older before more (All-tail (IsSoundIn c old) segment older all) back,
    )

-- ---- new segments

-- a segment that began at the end of what was published, and was not read
pub record IsNew (c : Config) (h : List (History RingCall)) (segment : Segment) : Type 0 where
  pub unread : segment.to ≡ segment.from
  pub no_laps : segment.laps ≡ []
  pub within : segment.from ≤ length (published_at h segment)

kept_of_unread : (permits : List ℕ → Bool) (published : List (List ℕ)) (from to : ℕ) (laps : List Lap)
    → to ≡ from → laps ≡ [] → filter permits (outside from laps to published) ≡ []
kept_of_unread permits published from to laps same none =
    let zero_between : to - from ≡ 0 = omega (arith, same) in
    ap (λ (l : List Lap). filter permits (outside from l to published)) none
    ∙ ap (λ (n : ℕ). filter permits (take n (drop from published))) zero_between

pub new_kept : (c : Config) (h : List (History RingCall)) (segment : Segment) → IsNew c h segment
    → kept_of c h segment ≡ []
new_kept c h segment new =
    kept_of_unread (permits_of c segment) (published_at h segment) segment.from segment.to segment.laps new.unread
    new.no_laps

behind_none : (frames greeting kept_frames : List (List ℕ)) → kept_frames ≡ []
    → frames ++ greeting ≡ frames ++ (greeting ++ kept_frames)
behind_none frames greeting kept_frames none =
    ap (λ (l : List (List ℕ)). frames ++ l)
    (sym (append-nil greeting) ∙ ap (λ (l : List (List ℕ)). greeting ++ l) (sym none))

-- each but the newest one was left
pub back_left : (c : Config) (h : List (History RingCall)) (later news segments : List Segment)
    (frames : List (List ℕ)) → later ≢ [] → All (IsNew c h) news → AreBack c h [] segments frames
    → AreBack c h later (news ++ segments) frames
back_left c h later [] segments frames some all back =
    back_before c h [] later segments frames (λ none. some) back
back_left c h later (segment ∷ news) segments frames some all back =
    let new = All-head (IsNew c h) segment news all in (
      frames,
      [],
      sym (append-nil frames) ∙ behind_none frames [] (kept_of c h segment) (new_kept c h segment new),
      inr (refl, new.unread, some),
      back_left c h (segment ∷ later) news segments frames (some_cons segment later)
          (All-tail (IsNew c h) segment news all) back,
    )

-- and the newest one is greeted
pub back_joined : (c : Config) (h : List (History RingCall)) (segment : Segment) (news segments : List Segment)
    (frames : List (List ℕ)) → All (IsNew c h) (segment ∷ news) → AreBack c h [] segments frames
    → AreBack c h [] (segment ∷ (news ++ segments)) (frames ++ greeting_of c h segment)
back_joined c h segment news segments frames all back = (
  frames,
  greeting_of c h segment,
  behind_none frames (greeting_of c h segment) (kept_of c h segment)
      (new_kept c h segment (All-head (IsNew c h) segment news all)),
  inl refl,
  back_left c h (segment ∷ []) news segments frames (some_cons segment []) (All-tail (IsNew c h) segment news all) back,
)

-- ---- a read of the newest one

read_greets : (c : Config) (h : List (History RingCall)) (segment read : Segment) (greeting : List (List ℕ))
    → greeting_of c h read ≡ greeting_of c h segment → IsGreeting c h segment [] greeting
    → IsGreeting c h read [] greeting
read_greets c h segment read greeting same (inl is) = inl (is ∙ sym same)
read_greets c h segment read greeting same (inr (none, unread, followed)) = absurd (followed refl)

pub back_read : (c : Config) (h : List (History RingCall)) (segment read : Segment) (older : List Segment)
    (frames more : List (List ℕ)) → greeting_of c h read ≡ greeting_of c h segment
    → kept_of c h read ≡ kept_of c h segment ++ more → AreBack c h [] (segment ∷ older) frames
    → AreBack c h [] (read ∷ older) (frames ++ more)
back_read c h segment read older frames more same kept_more (before, greeting, is, greets, back) = (
  before,
  greeting,
  ap (λ (l : List (List ℕ)). l ++ more) is
      ∙ append_assoc before (greeting ++ kept_of c h segment) more
      ∙ ap (λ (l : List (List ℕ)). before ++ l)
      (append_assoc greeting (kept_of c h segment) more
      ∙ ap (λ (l : List (List ℕ)). greeting ++ l) (sym kept_more)),
  read_greets c h segment read greeting same greets,
  back_before c h (segment ∷ []) (read ∷ []) older before (λ so. some_cons read []) back,
)
