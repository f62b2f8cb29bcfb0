-- What a connection holds is given back.
use Rattle.std.proofs.Common.{◌≡◌, ◌&&◌, ℕ, Bool, List, [], ◌∷◌, refl, sym, subst, Some}
use Rattle.std.proofs.lemmas.Bool.{and_parts}
use Rattle.turn_log.specs.History.{History}
use Rattle.turn_log.specs.Heard.{Heard}
use Rattle.turn_log.proofs.HeardLaws.{heard_none, heard_less}
use Rattle.mount_ring.specs.declared.call.RingCall.{RingCall}
use Rattle.mount_ring.specs.declared.call.RingCall.TheVariants.{Release}
use Rattle.mount_ring.specs.declared.call.RingAnswer.TheVariants.{Released}
use Rattle.mount_ring.specs.declared.shape.RingShape.{RingShape}
use Rattle.caster_accounts.specs.declared.call.BookCall.{BookCall}
use Rattle.caster_accounts.specs.declared.call.BookCall.TheVariants.{Leave}
use Rattle.caster_accounts.specs.declared.call.BookAnswer.TheVariants.{Left}
use Rattle.caster_accounts.specs.History as books
use Rattle.session_calls.specs.Steps.{Step, at_ring, at_book, to_book, on_book}
use Rattle.session_calls.specs.Plans.{Plan, done, asks, IsMade}
use Rattle.session_calls.specs.Rings.{Went}
use Rattle.session_calls.proofs.WentLemmas.{went_none, went_less}
use Rattle.cast_config.specs.declared.config.Config.{Config}
use Rattle.session_model.specs.Setting.{caps, shapes}
use Rattle.session_model.specs.Run.{Histories}
use Rattle.session_model.specs.Called.{Called, book_answer}
use Rattle.session_core.specs.Closing.{Makes, releasing}

-- ---- calls at the rings, and calls at the book

pub called_rings : (c : Config) (ring_alone book_alone : Bool) (given : List RingShape) (old now : List
    (History RingCall))
    (book : History BookCall) (me : ℕ) (steps : List Step) → given ≡ shapes c → on_book steps ≡ []
    → Went given ring_alone old now me steps
    → Called c (ring_alone && book_alone) (record { rings = old; book = book })
    (record { rings = now; book = book }) me steps
called_rings c ring_alone book_alone given old now book me steps shaped none went = record {
  rings = went_less (shapes c) ring_alone (ring_alone && book_alone) old now me steps
      (λ both. (and_parts ring_alone book_alone both).0)
      (subst (λ (z : List RingShape). Went z ring_alone old now me steps) shaped went);
  book = subst (Heard (ring_alone && book_alone) (book_answer c) book book me) (sym none)
      (heard_none (ring_alone && book_alone) (book_answer c) book me);
}

pub called_left : (c : Config) (ring_alone book_alone : Bool) (given : List ℕ) (rings : List (History RingCall))
    (old now : History BookCall) (me account sent overrun : ℕ) → given ≡ caps c
    → Heard book_alone (λ h by call. books.answer given h call) old now me ((Leave account sent overrun, Left) ∷ [])
    → Called c (ring_alone && book_alone) (record { rings = rings; book = old })
    (record { rings = rings; book = now }) me
    (at_book (Leave account sent overrun) Left ∷ [])
called_left c ring_alone book_alone given rings old now me account sent overrun capped heard = record {
  rings = let none = went_none (shapes c) (ring_alone && book_alone) rings me in
      record { size = none.size; rings = none.rings };
  book = heard_less book_alone (ring_alone && book_alone) (book_answer c) old now me
      ((Leave account sent overrun, Left) ∷ [])
      (λ both. (and_parts ring_alone book_alone both).1)
      (subst (λ (z : List ℕ). Heard book_alone (λ h by call. books.answer z h call) old now me
      ((Leave account sent overrun, Left) ∷ []))
      capped heard);
}

-- ---- by stage

-- nothing is called
pub called_none : (c : Config) (alone : Bool) (h : Histories) (me : ℕ) → Called c alone h h me []
called_none c alone h me = record {
  rings = went_none (shapes c) alone h.rings me;
  book = heard_none alone (book_answer c) h.book me;
}

pub makes_none : (c : Config) (alone : Bool) (h : Histories) (me : ℕ) (plan : Plan) → plan ≡ done
    → Makes c alone h h me plan
makes_none c alone h me plan is = record {
  more = [];
  called = called_none c alone h me;
  made = subst (λ p. IsMade p []) (sym is) refl;
}

pub makes_release : (c : Config) (ring_alone book_alone : Bool) (given : List RingShape) (old now : List
    (History RingCall))
    (book : History BookCall) (by me mount claim : ℕ) (plan : Plan) → given ≡ shapes c → by ≡ me
    → plan ≡ releasing mount (Some claim)
    → Went given ring_alone old now by (at_ring mount (Release claim) Released ∷ [])
    → Makes c (ring_alone && book_alone) (record { rings = old; book = book })
    (record { rings = now; book = book }) me plan
makes_release c ring_alone book_alone given old now book by me mount claim plan shaped caller is went = record {
  more = at_ring mount (Release claim) Released ∷ [];
  called = called_rings c ring_alone book_alone given old now book me (at_ring mount
      (Release claim) Released ∷ []) shaped refl
      (subst (λ n. Went given ring_alone old now n (at_ring mount (Release claim) Released ∷ [])) caller went);
  made = subst (λ p. IsMade p (at_ring mount (Release claim) Released ∷ [])) (sym is) (refl, refl);
}

pub makes_leave : (c : Config) (ring_alone book_alone : Bool) (given : List ℕ) (rings : List (History RingCall))
    (old now : History BookCall) (me account sent overrun : ℕ) (plan : Plan) → given ≡ caps c
    → plan ≡ asks (to_book (Leave account sent overrun)) (λ answer. done)
    → Heard book_alone (λ h by call. books.answer given h call) old now me ((Leave account sent overrun, Left) ∷ [])
    → Makes c (ring_alone && book_alone) (record { rings = rings; book = old })
    (record { rings = rings; book = now }) me plan
makes_leave c ring_alone book_alone given rings old now me account sent overrun plan capped is heard = record {
  more = at_book (Leave account sent overrun) Left ∷ [];
  called = called_left c ring_alone book_alone given rings old now me account sent overrun capped heard;
  made = subst (λ p. IsMade p (at_book (Leave account sent overrun) Left ∷ [])) (sym is) (refl, refl);
}
