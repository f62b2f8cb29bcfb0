-- One connection's calls leave what stands of the others: its histories go on, and what a rover was
-- sent stays what it was.
use Rattle.std.proofs.Common.{◌≡◌, ◌≢◌, ◌∙◌, ◌++◌, ℕ, true, List, [], ◌∷◌, reverse, All, refl, sym, ap, subst}
use Rattle.std.proofs.lemmas.List.Elements.{All-head, All-tail, All-cons, All-nil, All-append}
use Rattle.std.proofs.lemmas.List.Concat.{flat_map-append}
use mathlib.Core.List.{reverse-cons}
use Rattle.turn_log.specs.History.{History}
use Rattle.turn_log.proofs.HistoryLaws.{goes_both}
use Rattle.turn_log.specs.Heard.{Heard}
use Rattle.turn_log.proofs.HeardLaws.{heard_others, heard_both}
use Rattle.mount_ring.specs.declared.call.RingCall.{RingCall}
use Rattle.mount_ring.specs.Places.{published_by}
use Rattle.mount_ring.specs.History.{permits_at}
use Rattle.mount_ring.proofs.HistoryLemmas.{published-append}
use Rattle.rover_cursor.specs.declared.segment.Segment.{Segment}
use Rattle.rover_cursor.specs.Sound.{kept}
use Rattle.rover_cursor.specs.Told.{published_in}
use Rattle.rover_cursor.proofs.SoundLemmas.{kept-append}
use Rattle.rover_session.specs.Body.{body_of}
use Rattle.session_calls.specs.Steps.{Step, on_ring, book_part, on_book}
use Rattle.session_calls.specs.Rings.{history_at, shape_at, answer_at}
use Rattle.session_calls.proofs.WentLemmas.{went_both}
use Rattle.cast_config.specs.declared.config.Config.{Config}
use Rattle.session_model.specs.Setting.{shapes}
use Rattle.session_model.specs.Judged.{Opening}
use Rattle.session_model.specs.Owed.{Came}
use Rattle.session_model.specs.Replies.{opening_text, reply_of, version_of, kept_of, kept_frames, sent_by}
use Rattle.session_model.specs.Run.{Histories}
use Rattle.session_model.specs.Called.{Called, OthersCalled, book_answer}
use Rattle.session_model.specs.Promises.{IsSoundIn}
use Rattle.session_model.proofs.KeepLemmas.{Later, AllSound}

-- ---- the histories

-- they go on
pub called_later : (c : Config) (old now : Histories) (me : ℕ) (steps : List Step) → Called c true old now me steps
    → Later old.rings now.rings
called_later c old now me steps called mount = (
  published_by (called.rings.rings mount).more,
  ap published_in (called.rings.rings mount).seen
      ∙ published-append (history_at old.rings mount) (called.rings.rings mount).more,
)

-- with no call of another
pub called_others : (c : Config) (old now : Histories) (by me : ℕ) (steps : List Step) → by ≢ me
    → Called c true old now by steps → OthersCalled old now me
called_others c old now by me steps apart called = record {
  rings = record {
    size = called.rings.size;
    rings = λ mount. heard_others (answer_at (shapes c) mount) me by (history_at old.rings mount)
        (history_at now.rings mount) (on_ring mount steps) apart (called.rings.rings mount);
  };
  book = heard_others (book_answer c) me by old.book now.book (on_book steps) apart called.book;
}

pub others_both : (a b c : Histories) (me : ℕ) → OthersCalled a b me → OthersCalled b c me → OthersCalled a c me
others_both a b c me first second = record {
  rings = record {
    size = second.rings.size ∙ first.rings.size;
    rings = λ mount. goes_both me (history_at a.rings mount) (history_at b.rings mount) (history_at c.rings mount)
        (first.rings.rings mount) (second.rings.rings mount);
  };
  book = goes_both me a.book b.book c.book first.book second.book;
}

-- some calls, and then more
pub called_after : (c : Config) (a b d : Histories) (me : ℕ) (first second : List Step)
    → Called c true a b me first → Called c true b d me second → Called c true a d me (first ++ second)
called_after c a b d me first second x y = record {
  rings = went_both (shapes c) true a.rings b.rings d.rings me first second x.rings y.rings;
  book = subst (Heard true (book_answer c) a.book d.book me) (sym (flat_map-append book_part first second))
      (heard_both true (book_answer c) a.book b.book d.book me (on_book first) (on_book second) x.book y.book);
}

-- ---- what was sent

one_later : (c : Config) (old now : List (History RingCall)) (segment : Segment) → Later old now
    → IsSoundIn c old segment → kept_of c now segment ≡ kept_of c old segment
one_later c old now segment later sound =
    let permits = permits_at (shape_at (shapes c) segment.mount) segment.cursor.filter in
    let more = later segment.mount in
    ap (λ (frames : List (List ℕ)). kept permits frames segment) more.1
    ∙ kept-append permits (shape_at (shapes c) segment.mount).capacity (published_in (history_at old segment.mount))
    more.0 segment sound

pub kept_later : (c : Config) (old now : List (History RingCall)) (segments : List Segment) → Later old now
    → AllSound c old segments → kept_frames c now segments ≡ kept_frames c old segments
kept_later c old now [] later all = refl
kept_later c old now (segment ∷ more) later all =
    ap (λ (l : List (List ℕ)). l ++ kept_frames c now more)
    (one_later c old now segment later (All-head (IsSoundIn c old) segment more all))
    ∙ ap (λ (l : List (List ℕ)). kept_of c old segment ++ l)
    (kept_later c old now more later (All-tail (IsSoundIn c old) segment more all))

all_reversed : (P : Segment → Type 0) (segments : List Segment) → All P segments → All P (reverse segments)
all_reversed P [] all = All-nil P
all_reversed P (segment ∷ more) all =
    subst (All P) (sym (reverse-cons segment more))
    (All-append P (reverse more) (segment ∷ []) (all_reversed P more (All-tail P segment more all))
    (All-cons P segment [] (All-head P segment more all) (All-nil P)))

pub sent_later : (c : Config) (old now : List (History RingCall)) (o : Opening) (came : Came)
    (segments : List Segment) → Later old now → AllSound c old segments
    → sent_by c now o came (reverse segments) ≡ sent_by c old o came (reverse segments)
sent_later c old now o came segments later all =
    ap (λ (frames : List (List ℕ)). opening_text c o ++ reply_of c came ++ body_of (version_of came) frames)
    (kept_later c old now (reverse segments) later (all_reversed (IsSoundIn c old) segments all))
