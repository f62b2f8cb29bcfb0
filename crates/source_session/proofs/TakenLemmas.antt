-- What more of a body comes to, part by part.
use Rattle.std.proofs.Common.{◌≡◌, ℕ, ◌+◌, Bool, false, List, [], ◌++◌, length, ap, sym, subst, refl, arith, Option, None, Some}
use Rattle.std.specs.Prelude.{IfNone, IsTrue, is_some}
use Rattle.std.proofs.lemmas.List.{append-nil}
use Rattle.rtcm_frame.specs.Cut.{cut}
use Rattle.rtcm_frame.specs.Pending.{Pending}
use Rattle.turn_log.specs.declared.place.Turns.{Ghosts}
use Rattle.turn_log.specs.declared.TurnFault.{TurnFault}
use Rattle.turn_log.specs.declared.TurnFault.TheVariants as faults
use Rattle.turn_log.proofs.TurnLaws.{same_both}
use Rattle.chunk_body.specs.Machine.{Reading}
use Rattle.mount_ring.specs.declared.Ring.{Ring}
use Rattle.mount_ring.specs.declared.Outbox.{Outbox}
use Rattle.mount_ring.specs.declared.RingCall.{RingCall}
use Rattle.mount_ring.specs.declared.RingAnswer.{RingAnswer}
use Rattle.mount_ring.specs.declared.RingShape.{RingShape}
use Rattle.source_session.specs.declared.fault.SourceHalt.{SourceHalt}
use Rattle.source_session.specs.declared.fault.SourceHalt.TheVariants.{Done, BadChunk, Worn, Memory}
use Rattle.source_session.specs.Body.{payload, completed}
use Rattle.source_session.specs.Calls.{publishes, HeardAll, HeardBy}
use Rattle.source_session.specs.Places.{Stays, PublishedBy, LeftOutAt, LeftOutIn, ring_answer}
use Rattle.source_session.specs.Refusals.{halt_refused}
use Rattle.source_session.specs.Standing.{cutter_at, GoesOnAt, StandsBy, IsCutShort, is_cut_short}
use Rattle.source_session.specs.Taken.{TookMore}
use Rattle.source_session.proofs.CallLemmas.{first_refused}
use Rattle.source_session.proofs.StandingLemmas.{with_bytes, none_called, published_more, published_within, by_same, stands_within, body_more, cutter_pushed, frames_pushed, short_pushed, refused_pushed, refused_within, refused_same}

-- ---- the place

pub stays_here : {P V C A R S : Type 0} (turns : Ghosts P V C A R S) (place : P) → Stays turns place place
stays_here turns place = record { same = (refl, refl, refl, refl, refl); worn = omega arith }

pub stays_both : {P V C A R S : Type 0} (turns : Ghosts P V C A R S) (a b c : P) → Stays turns a b → Stays turns b c
    → Stays turns a c
stays_both turns a b c x y = record {
  same = same_both turns.shape turns.speaks turns.may_lack turns.alone turns.home a b c x.same y.same;
  worn = omega (arith, x.worn, y.worn);
}

-- ---- one part behind another

module _ {P : Type 0} (ring : Ghosts P Ring RingCall RingAnswer Outbox RingShape) (me claim : ℕ) where
  -- a part that carries nothing
  pub took_empty : (here : P) (halt : Option SourceHalt) (chunks : Option Reading) (cutter : Pending)
      (body more : List ℕ) → payload (is_some chunks) (body ++ more) ≡ payload (is_some chunks) body
      → is_cut_short halt ≡ false → StandsBy halt chunks cutter (body ++ more)
      → TookMore ring here here me claim halt chunks cutter body more
  took_empty here halt chunks cutter body more same whole stands = record {
    stands = stands;
    heard = by_halt halt whole;
    short = λ refused.
        let no_ : IsTrue false = subst IsTrue whole refused in
        absurd cc;
  }
    where
      none : HeardAll (ring.alone here) (ring_answer (ring.shape here)) (ring.seen here) (ring.seen here) me
          (publishes claim (completed (is_some chunks) body more))
      none = none_called (ring.alone here) (ring_answer (ring.shape here)) me claim (ring.seen here) (is_some chunks)
          body more same

      by_halt : (o : Option SourceHalt) → is_cut_short o ≡ false
          → PublishedBy ring here here me claim o (completed (is_some chunks) body more)
      by_halt None is = none
      by_halt (Some Done) is = none
      by_halt (Some (BadChunk place)) is = none
      by_halt (Some (Worn turns)) is = absurd cc
      by_halt (Some Memory) is = absurd cc

  -- where nothing came yet
  pub took_none : (here : P) (chunks : Option Reading) (cutter : Pending) (body : List ℕ)
      → StandsBy None chunks cutter body → TookMore ring here here me claim None chunks cutter body []
  took_none here chunks cutter body stands =
      took_empty here None chunks cutter body [] (ap (payload (is_some chunks)) (append-nil body)) refl
      (subst (StandsBy None chunks cutter) (sym (append-nil body)) stands)

  module _ (old mid now : P) (chunks before : Option Reading) (cutter held : Pending) (body front more : List ℕ)
      (coded : is_some before ≡ is_some chunks) (stays : Stays ring old mid)
      (x : TookMore ring old mid me claim None before held body front) where
    -- what was published first, by the coding that stayed
    first : HeardAll (ring.alone old) (ring_answer (ring.shape old)) (ring.seen old) (ring.seen mid) me
        (publishes claim (completed (is_some chunks) body front))
    first =
        subst (λ (c : Bool). HeardAll (ring.alone old) (ring_answer (ring.shape old)) (ring.seen old) (ring.seen mid) me
        (publishes claim (completed c body front))) coded x.heard

    -- what was published then, at the place as it was first
    then_ : (halt : Option SourceHalt) (frames : List (List ℕ)) → PublishedBy ring mid now me claim halt frames
        → HeardBy halt (ring.alone old) (ring_answer (ring.shape old)) (ring.seen mid) (ring.seen now) me
        (publishes claim frames)
    then_ halt frames heard =
        by_same halt (ring.seen mid) (ring.seen now) me (publishes claim frames) stays.same.3
        (ap ring_answer stays.same.0) heard

    pub took_both : (all : List ℕ) → front ++ more ≡ all
        → TookMore ring mid now me claim None chunks cutter (body ++ front) more
        → TookMore ring old now me claim None chunks cutter body all
    took_both all is y = record {
      stands = subst (StandsBy None chunks cutter) (body_more body front more all is) y.stands;
      heard = subst (λ (l : List ℕ). PublishedBy ring old now me claim None (completed (is_some chunks) body l)) is
          (published_more (ring.alone old) (ring_answer (ring.shape old)) me claim None (ring.seen old) (ring.seen mid)
          (ring.seen now) (is_some chunks) body front more first
          (then_ None (completed (is_some chunks) (body ++ front) more) y.heard));
      short = λ refused. absurd cc;
    }

    -- where the second was halted, whatever stands behind it
    pub took_within : (rest all : List ℕ) (by : Option SourceHalt) (halt : SourceHalt) → by ≡ Some halt
        → (front ++ more) ++ rest ≡ all
        → TookMore ring mid now me claim (Some halt) chunks cutter (body ++ front) more
        → TookMore ring old now me claim by chunks cutter body all
    took_within rest all by halt is split y =
        subst (λ (o : Option SourceHalt). TookMore ring old now me claim o chunks cutter body all) (sym is) (record {
          stands = stands_within halt chunks cutter body front more rest all split y.stands;
          heard = published_within (ring.alone old) (ring_answer (ring.shape old)) me claim halt chunks cutter
              (ring.seen old) (ring.seen mid) (ring.seen now) body front more rest all split y.stands first
              (then_ (Some halt) (completed (is_some chunks) (body ++ front) more) y.heard);
          short = λ refused.
              refused_within (ring.alone old) (ring_answer (ring.shape old)) me claim (is_some chunks) (ring.seen old)
              (ring.seen mid) (ring.seen now) body front more rest all cutter.junk split first
              (refused_same (ring.seen mid) (ring.seen now) me claim (is_some chunks) (body ++ front) more cutter.junk
              stays.same.3 (ap ring_answer stays.same.0) (y.short refused));
        })

-- ---- one part, which a cutter took

module _ {P : Type 0} (ring : Ghosts P Ring RingCall RingAnswer Outbox RingShape) (old now : P) (me claim : ℕ)
    (chunks : Option Reading) (cutter pushed after : Pending) (body more y : List ℕ)
    (at : cutter ≡ cutter_at (payload (is_some chunks) body)) (behind : pushed ≡ with_bytes cutter y)
    (carries : payload (is_some chunks) (body ++ more) ≡ payload (is_some chunks) body ++ y) where
  -- each frame that it then had was published
  pub took_pushed : GoesOnAt chunks (body ++ more)
      → after ≡ record { bytes = (cut pushed.bytes).rest; junk = pushed.junk + (cut pushed.bytes).junk }
      → PublishedBy ring old now me claim None (cut pushed.bytes).frames
      → TookMore ring old now me claim None chunks after body more
  took_pushed goes is heard = record {
    stands = (goes, cutter_pushed (is_some chunks) cutter pushed body more y at behind carries after is);
    heard = subst (PublishedBy ring old now me claim None)
        (frames_pushed (is_some chunks) cutter pushed body more y at behind carries) heard;
    short = λ refused. absurd cc;
  }

  -- or a turn was refused
  pub took_refused : (fault : TurnFault) (halt : Option SourceHalt) → halt ≡ Some (halt_refused fault)
      → after.junk + (cut after.bytes).junk ≡ pushed.junk + (cut pushed.bytes).junk
      → ((before : List ℕ) (sum : ℕ) → sum + pushed.junk ≡ length before
      → LeftOutAt ring old now me claim (cut pushed.bytes).frames (before ++ pushed.bytes) sum after.junk)
      → TookMore ring old now me claim halt chunks after body more
  took_refused fault halt is junk refused =
      subst (λ (o : Option SourceHalt). TookMore ring old now me claim o chunks after body more) (sym is)
      (by_fault fault)
    where
      stands : IsCutShort (is_some chunks) after (body ++ more)
      stands = short_pushed (is_some chunks) cutter pushed body more y at behind carries after junk

      frame : LeftOutIn ring old now me claim (is_some chunks) body more after.junk
      frame = refused_pushed (ring.alone old) (ring_answer (ring.shape old)) (ring.seen old) (ring.seen now) me claim
          (is_some chunks) cutter pushed body more y after.junk at behind carries refused

      by_fault : (given : TurnFault)
          → TookMore ring old now me claim (Some (halt_refused given)) chunks after body more
      by_fault (faults.Worn turns) =
          record { stands = stands; heard = first_refused frame; short = λ refused. frame }
      by_fault faults.Memory = record { stands = stands; heard = first_refused frame; short = λ refused. frame }

-- ---- where nothing halted a session before

pub if_none : {A P : Type 0} (o : Option A) → P → IfNone o P
if_none None x = x
if_none (Some a) x = tt

pub none_weaker : {A P Q : Type 0} (o : Option A) → (P → Q) → IfNone o P → IfNone o Q
none_weaker None f x = f x
none_weaker (Some a) f x = tt
