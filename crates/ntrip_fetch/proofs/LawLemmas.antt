-- Why a link is left is exact.
use Rattle.std.proofs.Common.{◌≡◌, ◌<◌, ◌↔◌, ℕ, true, false, List, length, take, refl, ap, sym, subst, ◌∙◌, arith}
use Rattle.cast_io.specs.declared.steps.Step.{Step}
use Rattle.cast_io.specs.Told.{LinkTold}
use Rattle.chunk_body.proofs.ReadingLemmas.{one_fault}
use Rattle.chunk_body.proofs.TextLemmas.{bad_dead, bad_not_ended}
use Rattle.ntrip_client.specs.declared.answer.Answer.{Answer}
use Rattle.ntrip_client.specs.declared.answer.Answer.TheVariants.{Open, Accepted, Refused}
use Rattle.ntrip_client.specs.declared.answer.Refusal.{Refusal}
use Rattle.ntrip_client.specs.declared.answer.Refusal.TheVariants as refusals
use Rattle.ntrip_client.specs.Answer.{IsAnswer}
use Rattle.ntrip_client.proofs.OnceLemmas.{one_answer}
use Rattle.ntrip_fetch.specs.declared.target.Target.{Target}
use Rattle.ntrip_fetch.specs.declared.left.Left.{Left}
use Rattle.ntrip_fetch.specs.declared.left.Left.TheVariants.{Enough, Dial, End, LinkFault, BadHead, LongHead, Coding, Table, Status, Done, BadChunk}
use Rattle.ntrip_fetch.specs.declared.left.Try.{Try}
use Rattle.ntrip_fetch.specs.Answered.{answered, IsDone, IsFaulty, MayFollow}
use Rattle.ntrip_fetch.specs.Stages.{left_of}
use Rattle.cast_io.specs.Links.{bytes_in}
use Rattle.ntrip_fetch.specs.Fetched.{Fetched, IsLeft}
use Rattle.ntrip_fetch.proofs.StageLemmas.{take_none}

-- ---- what excludes what

follows_not_done : (answer : Answer) (bytes : List ℕ) → MayFollow answer bytes → IsDone answer bytes → ⊥
follows_not_done Open bytes follows done = done
follows_not_done (Accepted at false) bytes follows done = done
follows_not_done (Accepted at true) bytes follows done = follows.going done
follows_not_done (Refused why) bytes follows done = done

follows_not_faulty : (answer : Answer) (bytes : List ℕ) (place : ℕ) → MayFollow answer bytes
    → IsFaulty answer bytes place → ⊥
follows_not_faulty Open bytes place follows bad = bad
follows_not_faulty (Accepted at false) bytes place follows bad = bad
follows_not_faulty (Accepted at true) bytes place follows bad = bad_dead _ place bad follows.live
follows_not_faulty (Refused why) bytes place follows bad = bad

done_not_faulty : (answer : Answer) (bytes : List ℕ) (place : ℕ) → IsDone answer bytes → IsFaulty answer bytes place → ⊥
done_not_faulty Open bytes place done bad = bad
done_not_faulty (Accepted at false) bytes place done bad = bad
done_not_faulty (Accepted at true) bytes place done bad = bad_not_ended _ place bad done
done_not_faulty (Refused why) bytes place done bad = bad

refused_not_done : (answer : Answer) (bytes : List ℕ) (why : Refusal) → answer ≡ Refused why → IsDone answer bytes → ⊥
refused_not_done answer bytes why is done = subst (λ a. IsDone a bytes) is done

refused_not_faulty : (answer : Answer) (bytes : List ℕ) (place : ℕ) (why : Refusal) → answer ≡ Refused why
    → IsFaulty answer bytes place → ⊥
refused_not_faulty answer bytes place why is bad = subst (λ a. IsFaulty a bytes place) is bad

refused_not_follows : (answer : Answer) (bytes : List ℕ) (why : Refusal) → answer ≡ Refused why
    → MayFollow answer bytes → ⊥
refused_not_follows answer bytes why is follows = subst (λ a. MayFollow a bytes) is follows

-- no frames come with a refusal
refused_none : (most n : ℕ) (answer : Answer) (bytes : List ℕ) (why : Refusal) → answer ≡ Refused why
    → n ≡ length (take most (answered answer bytes)) → n ≡ 0
refused_none most n answer bytes why is count =
    count ∙ ap (λ a. length (take most (answered a bytes))) is ∙ ap length (sym (take_none most))

one_place : (answer : Answer) (bytes : List ℕ) (i j : ℕ) → IsFaulty answer bytes i → IsFaulty answer bytes j → i ≡ j
one_place Open bytes i j x y = absurd x
one_place (Accepted at false) bytes i j x y = absurd x
one_place (Accepted at true) bytes i j x y = one_fault _ i j x y
one_place (Refused why) bytes i j x y = absurd x

module _ (most : ℕ) (before after : LinkTold) (taken : List Step) (answer : Answer) (n : ℕ) where
  pub by_done : (left : Left) → IsLeft most before after taken answer n left → n < most
      → IsDone answer (bytes_in taken) → left ≡ Done
  by_done Enough x less done = absurd (omega (arith, x, less))
  by_done Dial x less done = absurd x
  by_done End x less done = absurd (follows_not_done answer (bytes_in taken) x.1 done)
  by_done LinkFault x less done = absurd (follows_not_done answer (bytes_in taken) x.1 done)
  by_done BadHead x less done = absurd (refused_not_done answer (bytes_in taken) refusals.BadHead x done)
  by_done LongHead x less done = absurd (refused_not_done answer (bytes_in taken) refusals.LongHead x done)
  by_done Coding x less done = absurd (refused_not_done answer (bytes_in taken) refusals.Coding x done)
  by_done Table x less done = absurd (refused_not_done answer (bytes_in taken) refusals.Table x done)
  by_done (Status status) x less done =
      absurd (refused_not_done answer (bytes_in taken) (refusals.Status status) x done)
  by_done Done x less done = refl
  by_done (BadChunk place) x less done = absurd (done_not_faulty answer (bytes_in taken) place done x.1)

  pub by_fault : (left : Left) (place : ℕ) → IsLeft most before after taken answer n left → n < most
      → IsFaulty answer (bytes_in taken) place → left ≡ BadChunk place
  by_fault Enough place x less bad = absurd (omega (arith, x, less))
  by_fault Dial place x less bad = absurd x
  by_fault End place x less bad = absurd (follows_not_faulty answer (bytes_in taken) place x.1 bad)
  by_fault LinkFault place x less bad = absurd (follows_not_faulty answer (bytes_in taken) place x.1 bad)
  by_fault BadHead place x less bad = absurd (refused_not_faulty answer (bytes_in taken) place refusals.BadHead x bad)
  by_fault LongHead place x less bad = absurd (refused_not_faulty answer (bytes_in taken) place refusals.LongHead x bad)
  by_fault Coding place x less bad = absurd (refused_not_faulty answer (bytes_in taken) place refusals.Coding x bad)
  by_fault Table place x less bad = absurd (refused_not_faulty answer (bytes_in taken) place refusals.Table x bad)
  by_fault (Status status) place x less bad =
      absurd (refused_not_faulty answer (bytes_in taken) place (refusals.Status status) x bad)
  by_fault Done place x less bad = absurd (done_not_faulty answer (bytes_in taken) place x.1 bad)
  by_fault (BadChunk other) place x less bad =
      ap BadChunk (one_place answer (bytes_in taken) other place x.1 bad)

  -- two refusals are one
  same_left : (a b : Refusal) → answer ≡ Refused a → answer ≡ Refused b → left_of a ≡ left_of b
  same_left a b x y = let same : a ≡ b = cc in ap left_of same

  pub by_refusal : (left : Left) (why : Refusal) → IsLeft most before after taken answer n left → 0 < most
      → n ≡ length (take most (answered answer (bytes_in taken))) → answer ≡ Refused why → left ≡ left_of why
  by_refusal Enough why x some count is =
      absurd (omega (arith, x, some, refused_none most n answer (bytes_in taken) why is count))
  by_refusal Dial why x some count is = absurd x
  by_refusal End why x some count is = absurd (refused_not_follows answer (bytes_in taken) why is x.1)
  by_refusal LinkFault why x some count is = absurd (refused_not_follows answer (bytes_in taken) why is x.1)
  by_refusal BadHead why x some count is = same_left refusals.BadHead why x is
  by_refusal LongHead why x some count is = same_left refusals.LongHead why x is
  by_refusal Coding why x some count is = same_left refusals.Coding why x is
  by_refusal Table why x some count is = same_left refusals.Table why x is
  by_refusal (Status status) why x some count is = same_left (refusals.Status status) why x is
  by_refusal Done why x some count is = absurd (refused_not_done answer (bytes_in taken) why is x.1)
  by_refusal (BadChunk place) why x some count is =
      absurd (refused_not_faulty answer (bytes_in taken) place why is x.1)

  pub by_count : (left : Left) → IsLeft most before after taken answer n left → 0 < most
      → n ≡ length (take most (answered answer (bytes_in taken))) → n ≡ most → left ≡ Enough
  by_count Enough x some count all = refl
  by_count Dial x some count all = absurd x
  by_count End x some count all = absurd (omega (arith, x.0, all))
  by_count LinkFault x some count all = absurd (omega (arith, x.0, all))
  by_count BadHead x some count all =
      absurd (omega (arith, some, all, refused_none most n answer (bytes_in taken) refusals.BadHead x count))
  by_count LongHead x some count all =
      absurd (omega (arith, some, all, refused_none most n answer (bytes_in taken) refusals.LongHead x count))
  by_count Coding x some count all =
      absurd (omega (arith, some, all, refused_none most n answer (bytes_in taken) refusals.Coding x count))
  by_count Table x some count all =
      absurd (omega (arith, some, all, refused_none most n answer (bytes_in taken) refusals.Table x count))
  by_count (Status status) x some count all =
      absurd (omega (arith, some, all, refused_none most n answer (bytes_in taken) (refusals.Status status) x count))
  by_count Done x some count all = absurd (omega (arith, x.0, all))
  by_count (BadChunk place) x some count all = absurd (omega (arith, x.0, all))

-- ---- of a whole fetch

module _ (target : Target) (most : ℕ) (before after : LinkTold) (frames : List (List ℕ)) (tried : Try)
    (x : Fetched target most before after frames tried) where
  counted : tried.frames ≡ length (take most (answered x.answer (bytes_in x.taken)))
  counted = x.count ∙ ap length x.course.first

  pub enough_exact : 0 < most → (tried.left ≡ Enough) ↔ (tried.frames ≡ most)
  enough_exact some = (
    λ is. subst (IsLeft most before after x.taken x.answer tried.frames) is x.left,
    λ all. by_count most before after x.taken x.answer tried.frames tried.left x.left some counted all,
  )

  pub refused_exact : (why : Refusal) → 0 < most → IsAnswer (bytes_in x.taken) (Refused why) → tried.left ≡ left_of why
  refused_exact why some says =
      by_refusal most before after x.taken x.answer tried.frames tried.left why x.left some counted
      (one_answer (bytes_in x.taken) x.answer (Refused why) x.course.says says)
