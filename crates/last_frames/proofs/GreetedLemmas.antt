-- The greeting at a place is that of the last one who joined.
use Rattle.std.proofs.Common.{◌≡◌, ℕ, ◌≤◌, [], ◌∷◌, ◌++◌, length, take, drop, refl, ap, ◌∙◌, sym, append_assoc, arith, length-append, None}
use Rattle.std.proofs.lemmas.List.{take-append-le, drop-append-le, take-append-drop, append-nil}
use Rattle.turn_log.specs.History.{History}
use Rattle.mount_ring.specs.declared.call.RingCall.{RingCall}
use Rattle.mount_ring.specs.declared.call.RingCall.TheVariants.{Claim, Release, Publish, Join, Look, Read}
use Rattle.mount_ring.specs.declared.shape.RingShape.{RingShape}
use Rattle.mount_ring.specs.History.{Shape, State, state_of}
use Rattle.mount_ring.specs.Shapes.{shape_of}
use Rattle.last_frames.specs.Station.{greeting_by}
use Rattle.last_frames.specs.Greeted.{Greeting, greeting_from, greeted_by, greeted_in, greeted_since}

-- what a call leaves in a new hall is what it leaves at the place
pub greeting_taken : (shape : Shape) (state : State) (call : RingCall) (before : Greeting)
    → greeting_from call (greeting_by shape state call []) before ≡ greeted_by shape state call before
greeting_taken shape state Claim before = refl
greeting_taken shape state (Release claim) before = refl
greeting_taken shape state (Publish claim frame) before = refl
greeting_taken shape state (Join filter) before = refl
greeting_taken shape state Look before = refl
greeting_taken shape state (Read cursor budget) before = refl

pub greeted_in-more : (shape : Shape) (before entries : History RingCall) (entry : ℕ × RingCall) (greeting : Greeting)
    → greeted_in shape before (entries ++ entry ∷ []) greeting
    ≡ greeted_by shape (state_of (before ++ entries)) entry.1 (greeted_in shape before entries greeting)
greeted_in-more shape before [] entry greeting =
    ap (λ (h : History RingCall). greeted_by shape (state_of h) entry.1 greeting) (sym (append-nil before))
greeted_in-more shape before (first ∷ entries) entry greeting =
    let then : Greeting = greeted_by shape (state_of before) first.1 greeting in
    greeted_in-more shape (before ++ first ∷ []) entries entry then
    ∙ ap (λ (h : History RingCall).
    greeted_by shape (state_of h) entry.1 (greeted_in shape (before ++ first ∷ []) entries then))
    (append_assoc before (first ∷ []) entries)

pub greeted_since-more : (shape : Shape) (count : ℕ) (h : History RingCall) (entry : ℕ × RingCall) → count ≤ length h
    → greeted_since shape count (h ++ entry ∷ [])
    ≡ greeted_by shape (state_of h) entry.1 (greeted_since shape count h)
greeted_since-more shape count h entry within =
    ap (λ (front : History RingCall). greeted_in shape front (drop count (h ++ entry ∷ [])) None)
    (take-append-le count h (entry ∷ []) within)
    ∙ ap (λ (rest : History RingCall). greeted_in shape (take count h) rest None)
    (drop-append-le count h (entry ∷ []) within)
    ∙ greeted_in-more shape (take count h) (drop count h) entry None
    ∙ ap (λ (l : History RingCall). greeted_by shape (state_of l) entry.1 (greeted_since shape count h))
    (take-append-drop count h)

-- a turn that nobody else came before
pub greeted_alone : (z later : RingShape) (count : ℕ) (old others now : History RingCall) (me : ℕ) (call : RingCall)
    (before after : Greeting) → later ≡ z → now ≡ (old ++ others) ++ (me, call) ∷ [] → others ≡ []
    → count ≤ length old
    → after ≡ greeted_by (shape_of z) (state_of (old ++ others)) call before
    → before ≡ greeted_since (shape_of z) count old
    → after ≡ greeted_since (shape_of later) count now
greeted_alone z later count old others now me call before after same goes none within taken stood =
    let alone : old ++ others ≡ old = ap (λ (h : History RingCall). old ++ h) none ∙ append-nil old in
    let entry : ℕ × RingCall = (me, call) in
    taken
    ∙ ap (λ (h : History RingCall). greeted_by (shape_of z) (state_of h) call before) alone
    ∙ ap (greeted_by (shape_of z) (state_of old) call) stood
    ∙ sym (greeted_since-more (shape_of z) count old entry within)
    ∙ ap (λ (h : History RingCall). greeted_since (shape_of z) count (h ++ entry ∷ [])) (sym alone)
    ∙ ap (greeted_since (shape_of z) count) (sym goes)
    ∙ ap (λ (s : RingShape). greeted_since (shape_of s) count now) (sym same)

-- a history of more calls is longer
pub longer : (count : ℕ) (old others now : History RingCall) (entry : ℕ × RingCall)
    → now ≡ (old ++ others) ++ entry ∷ [] → count ≤ length old → count ≤ length now
longer count old others now entry goes within =
    omega (arith, within, ap length goes, length-append (old ++ others) (entry ∷ []), length-append old others)
