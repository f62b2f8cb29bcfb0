-- What a link did while frames were fetched from it.
use Rattle.std.proofs.Common.{◌≡◌, ◌≤◌, ◌<◌, ◌+◌, ◌^◌, ℕ, Bool, true, false, IsTrue, List, [], ◌∷◌, ◌++◌, length, take, Option, None, Some, refl, ap, sym, subst, ◌∙◌, inl, inr, arith, append_assoc, length-append}
use Rattle.std.specs.List.{list_all}
use Rattle.std.proofs.lemmas.Bool.{and_parts}
use Rattle.std.proofs.lemmas.List.{append-nil}
use Rattle.std.proofs.lemmas.Grind.{flat_map-append}
use Rattle.std.specs.Io.KnownBytes.{Appends}
use Rattle.cast_io.specs.declared.steps.Step.{Step}
use Rattle.cast_io.specs.declared.steps.Step.TheVariants as took
use Rattle.cast_io.specs.declared.link.Got.{Got}
use Rattle.cast_io.specs.declared.link.Got.TheVariants as got
use Rattle.cast_io.specs.Told.{LinkTold, Grew}
use Rattle.cast_io.specs.Links.{HasRead, step_of, bytes_of, bytes_in}
use Rattle.cast_io.proofs.ToldLemmas.{grew_none, grew_both}
use Rattle.ntrip_client.specs.declared.answer.Answer.{Answer}
use Rattle.ntrip_client.specs.declared.answer.Answer.TheVariants.{Open}
use Rattle.ntrip_client.specs.Answer.{IsAnswer}
use Rattle.ntrip_fetch.specs.declared.left.Left.{Left}
use Rattle.ntrip_fetch.specs.declared.left.Left.TheVariants.{Enough, Dial, End, LinkFault, BadHead, LongHead, Coding, Table, Status, Done, BadChunk}
use Rattle.ntrip_fetch.specs.declared.left.Try.{Try}
use Rattle.ntrip_fetch.specs.declared.fetch_stage.FetchStage.{FetchStage}
use Rattle.ntrip_fetch.specs.declared.fetch_stage.FetchStage.TheVariants as stages
use Rattle.ntrip_fetch.specs.Answered.{IsWanting}
use Rattle.ntrip_fetch.specs.Steps.{goes_on, IsLastIf, AreNeeded}
use Rattle.ntrip_fetch.specs.Stages.{IsAtStage, IsDecided, StageIs, StageLeft, StageTorn}
use Rattle.ntrip_fetch.specs.Fetched.{HasTaken, HasReceived, HeardIs, Receiving, ReceivingBroken, IsLeft}
use Rattle.ntrip_fetch.proofs.StageLemmas.{StillOpen, open_at, wanting}

-- ---- steps

last_quiet : (step : Step) (more : List Step) → IsTrue (goes_on step) → IsLastIf (goes_on step) more
last_quiet (took.Bytes bytes) more so = tt
last_quiet took.Idle more so = tt
last_quiet took.End more so = absurd cc
last_quiet took.ReadFailed more so = absurd cc
last_quiet took.WriteFailed more so = absurd cc

last_alone : (b : Bool) → IsLastIf b []
last_alone true = tt
last_alone false = refl

-- one step more was needed, too
needed_more : (most : ℕ) (bytes : List ℕ) (taken : List Step) (step : Step)
    → IsTrue (list_all goes_on taken) → AreNeeded most bytes taken → IsWanting most (bytes ++ bytes_in taken)
    → length (bytes ++ bytes_in taken) < 2 ^ 62 → AreNeeded most bytes (taken ++ step ∷ [])
needed_more most bytes [] step quiet needed wants few = (
  subst (IsWanting most) (append-nil bytes) wants,
  subst (λ (l : List ℕ). length l < 2 ^ 62) (append-nil bytes) few,
  last_alone (goes_on step),
  tt,
)
needed_more most bytes (x ∷ taken) step quiet needed wants few =
    let parts = and_parts (goes_on x) (list_all goes_on taken) quiet in
    let same = sym (append_assoc bytes (bytes_of x) (bytes_in taken)) in (
      needed.0,
      needed.1,
      last_quiet x (taken ++ step ∷ []) parts.0,
      needed_more most (bytes ++ bytes_of x) taken step parts.1 needed.3 (subst (IsWanting most) same wants)
          (subst (λ (l : List ℕ). length l < 2 ^ 62) same few),
    )

bytes_more : (taken : List Step) (step : Step) → bytes_in (taken ++ step ∷ []) ≡ bytes_in taken ++ bytes_of step
bytes_more taken step =
    flat_map-append bytes_of taken (step ∷ []) ∙ ap (λ l. bytes_in taken ++ l) (append-nil (bytes_of step))

quiet_more : (taken : List Step) (step : Step) → IsTrue (list_all goes_on taken) → IsTrue (goes_on step)
    → IsTrue (list_all goes_on (taken ++ step ∷ []))
quiet_more [] step quiet so = grind (arith, so)
quiet_more (x ∷ taken) step quiet so =
    let parts = and_parts (goes_on x) (list_all goes_on taken) quiet in
    let rest = quiet_more taken step parts.1 so in grind (arith, parts.0, rest)

-- ---- a link

-- a step more, and nothing written
taken_more : (most : ℕ) (a b c : LinkTold) (taken : List Step) (result : Got) (buf : List ℕ)
    → HasTaken most a b taken → IsTrue (list_all goes_on taken) → IsWanting most (bytes_in taken)
    → length (bytes_in taken) < 2 ^ 62 → HasRead b c result buf
    → HasTaken most a c (taken ++ step_of result buf ∷ [])
taken_more most a b c taken result buf so_far quiet wants few read = record {
  given = read.given ∙ so_far.given;
  steps = grew_both a.taken b.taken c.taken taken (step_of result buf ∷ []) so_far.steps read.taken;
  bytes = subst (λ told. Grew a.bytes told []) (sym read.bytes) so_far.bytes;
  needed = needed_more most [] taken (step_of result buf) quiet so_far.needed wants few;
  later = omega (arith, so_far.later, read.later);
}

taken_none : (most : ℕ) (a : LinkTold) → HasTaken most a a []
taken_none most a = record {
  given = refl;
  steps = grew_none a.taken;
  bytes = grew_none a.bytes;
  needed = tt;
  later = omega arith;
}

-- ---- the loop

pub begins : (most : ℕ) (told : LinkTold) (now : Option (List ℕ)) (head : List ℕ) → head ≡ [] → IsAnswer head Open
    → Appends now now [] → Receiving most told told now now (stages.Head head) 0 0
begins most told now head empty open_ none = record {
  taken = [];
  link = taken_none most told;
  quiet = refl;
  stands = (empty, subst (λ l. IsAnswer l Open) empty open_, record { wrote = none; counted = refl });
  size = refl;
}

-- the link gave bytes, or nothing yet, and the fetch goes on
pub goes_more : (most : ℕ) (before told later : LinkTold) (start now then_ : Option (List ℕ)) (stage next : FetchStage)
    (count counted given more : ℕ) (result : Got) (buf : List ℕ) → 0 < most → given < 2 ^ 62
    → (x : Receiving most before told start now stage count given) → HasRead told later result buf
    → IsTrue (goes_on (step_of result buf)) → more ≡ given + length (bytes_of (step_of result buf))
    → IsAtStage start then_ most next (bytes_in x.taken ++ bytes_of (step_of result buf)) counted
    → Receiving most before later start then_ next counted more
goes_more most before told later start now then_ stage next count counted given more result buf some few x read so size
    stands =
    let step = step_of result buf in record {
      taken = x.taken ++ step ∷ [];
      link = taken_more most before told later x.taken result buf x.link x.quiet
          (wanting start now most (bytes_in x.taken) count (open_at start now most stage (bytes_in x.taken) count some
          x.stands)) (omega (arith, few, x.size))
          read;
      quiet = quiet_more x.taken step x.quiet so;
      stands = subst (λ l. IsAtStage start then_ most next l counted) (sym (bytes_more x.taken step)) stands;
      size = omega (
        arith,
        size,
        x.size,
        ap length (bytes_more x.taken step),
        length-append (bytes_in x.taken)
            (bytes_of step),
      );
    }

-- the link told the same
pub same_told : (most : ℕ) (before told later : LinkTold) (start now : Option (List ℕ)) (stage : FetchStage)
    (count given : ℕ) → told ≡ later → Receiving most before told start now stage count given
    → Receiving most before later start now stage count given
same_told most before told later start now stage count given same x =
    subst (λ t. Receiving most before t start now stage count given) same x

-- ---- why the link is left

left_by : (most : ℕ) (before after : LinkTold) (taken : List Step) (answer : Answer) (count : ℕ) (left : Left)
    → IsDecided most answer (bytes_in taken) count left → IsLeft most before after taken answer count left
left_by most before after taken answer count Enough x = x
left_by most before after taken answer count Dial x = absurd x
left_by most before after taken answer count End x = absurd x
left_by most before after taken answer count LinkFault x = absurd x
left_by most before after taken answer count BadHead x = x
left_by most before after taken answer count LongHead x = x
left_by most before after taken answer count Coding x = x
left_by most before after taken answer count Table x = x
left_by most before after taken answer count (Status status) x = x
left_by most before after taken answer count Done x = x
left_by most before after taken answer count (BadChunk place) x = x

-- by what its bytes say
pub is_left : (most : ℕ) (before told later : LinkTold) (start now then_ : Option (List ℕ)) (stage : FetchStage)
    (count given : ℕ) (tried : Try) (n : ℕ) (buf : List ℕ) → 0 < most → given < 2 ^ 62
    → (x : Receiving most before told start now stage count given) → HasRead told later (got.Bytes n) buf
    → StageLeft start then_ most (bytes_in x.taken ++ take n buf) tried.frames tried.left
    → HasReceived most before later start then_ tried
is_left most before told later start now then_ stage count given tried n buf some few x read left =
    let step : Step = took.Bytes (take n buf) in
    let on : StageLeft start then_ most (bytes_in (x.taken ++ step ∷ [])) tried.frames tried.left =
    subst (λ l. StageLeft start then_ most l tried.frames tried.left) (sym (bytes_more x.taken step)) left in record {
      taken = x.taken ++ step ∷ [];
      link = taken_more most before told later x.taken (got.Bytes n) buf x.link x.quiet
          (wanting start now most (bytes_in x.taken) count (open_at start now most stage (bytes_in x.taken) count some
          x.stands)) (omega (arith, few, x.size))
          read;
      answer = on.answer;
      says = on.says;
      wrote = on.wrote;
      left = left_by most before later (x.taken ++ step ∷ []) on.answer tried.frames tried.left on.why;
    }

-- the sink failed
pub is_broken : (most : ℕ) (before told later : LinkTold) (start now then_ : Option (List ℕ)) (stage : FetchStage)
    (count given : ℕ) (n : ℕ) (buf : List ℕ) → 0 < most → given < 2 ^ 62
    → (x : Receiving most before told start now stage count given) → HasRead told later (got.Bytes n) buf
    → StageTorn start then_ most (bytes_in x.taken ++ take n buf) → ReceivingBroken most before later start then_
is_broken most before told later start now then_ stage count given n buf some few x read torn =
    let step : Step = took.Bytes (take n buf) in record {
      taken = x.taken ++ step ∷ [];
      link = taken_more most before told later x.taken (got.Bytes n) buf x.link x.quiet
          (wanting start now most (bytes_in x.taken) count (open_at start now most stage (bytes_in x.taken) count some
          x.stands)) (omega (arith, few, x.size))
          read;
      torn = subst (StageTorn start then_ most) (sym (bytes_more x.taken step)) torn;
    }

-- it gave as many bytes as are taken
pub runs_out : (most : ℕ) (before told : LinkTold) (start now : Option (List ℕ)) (stage : FetchStage) (count given : ℕ)
    → 0 < most → Receiving most before told start now stage count given → 2 ^ 62 ≤ given
    → HasReceived most before told start now (record { frames = count; left = End })
runs_out most before told start now stage count given some x full =
    let open_ = open_at start now most stage (bytes_in x.taken) count some x.stands in record {
      taken = x.taken;
      link = x.link;
      answer = open_.answer;
      says = open_.says;
      wrote = open_.wrote;
      left = (open_.fewer, open_.follows, inr (omega (arith, full, x.size)));
    }

none_more : (taken : List Step) (step : Step) → bytes_of step ≡ [] → bytes_in (taken ++ step ∷ []) ≡ bytes_in taken
none_more taken step none = bytes_more taken step ∙ ap (λ l. bytes_in taken ++ l) none ∙ append-nil (bytes_in taken)

-- what is open stays so where a step gave nothing
open_still : (start now : Option (List ℕ)) (most : ℕ) (taken : List Step) (step : Step) (count : ℕ) → bytes_of step ≡ []
    → StillOpen start now most (bytes_in taken) count → StillOpen start now most (bytes_in (taken ++ step ∷ [])) count
open_still start now most taken step count none x =
    subst (λ l. StillOpen start now most l count) (sym (none_more taken step none)) x

-- it ended
pub has_ended : (most : ℕ) (before told later : LinkTold) (start now : Option (List ℕ)) (stage : FetchStage)
    (count given : ℕ)
    (buf : List ℕ) → 0 < most → given < 2 ^ 62 → Receiving most before told start now stage count given
    → HasRead told later got.End buf
    → HasReceived most before later start now (record { frames = count; left = End })
has_ended most before told later start now stage count given buf some few x read =
    let open_ = open_at start now most stage (bytes_in x.taken) count some x.stands in
    let on = open_still start now most x.taken took.End count refl open_ in record {
      taken = x.taken ++ took.End ∷ [];
      link = taken_more most before told later x.taken got.End buf x.link x.quiet
          (wanting start now most (bytes_in x.taken) count open_) (omega (arith, few, x.size)) read;
      answer = on.answer;
      says = on.says;
      wrote = on.wrote;
      left = (on.fewer, on.follows, inl (x.taken, refl));
    }

-- a read of it failed
pub has_failed : (most : ℕ) (before told later : LinkTold) (start now : Option (List ℕ)) (stage : FetchStage)
    (count given : ℕ)
    (buf : List ℕ) → 0 < most → given < 2 ^ 62 → Receiving most before told start now stage count given
    → HasRead told later got.Failed buf
    → HasReceived most before later start now (record { frames = count; left = LinkFault })
has_failed most before told later start now stage count given buf some few x read =
    let open_ = open_at start now most stage (bytes_in x.taken) count some x.stands in
    let on = open_still start now most x.taken took.ReadFailed count refl open_ in record {
      taken = x.taken ++ took.ReadFailed ∷ [];
      link = taken_more most before told later x.taken got.Failed buf x.link x.quiet
          (wanting start now most (bytes_in x.taken) count open_) (omega (arith, few, x.size)) read;
      answer = on.answer;
      says = on.says;
      wrote = on.wrote;
      left = (
        on.fewer,
        on.follows,
        (x.taken, took.ReadFailed, refl, refl),
        omega (arith, x.link.later, read.failed refl),
      );
    }

-- ---- one read

-- bytes came, and what they say is known
pub heard_bytes : (most : ℕ) (before told later : LinkTold) (start now then_ : Option (List ℕ)) (stage next : FetchStage)
    (count counted given more n : ℕ) (buf : List ℕ) (left : Option Left) → 0 < most → given < 2 ^ 62
    → (x : Receiving most before told start now stage count given) → HasRead told later (got.Bytes n) buf
    → more ≡ given + length (take n buf)
    → StageIs start then_ most next (bytes_in x.taken ++ take n buf) counted left
    → HeardIs most before later start then_ next counted more left
heard_bytes most before told later start now then_ stage next count counted given more n buf None some few x read size
    is =
    goes_more most before told later start now then_ stage next count counted given more (got.Bytes n) buf some few x
    read refl size is
heard_bytes most before told later start now then_ stage next count counted given more n buf (Some left) some few x
    read size is =
    is_left most before told later start now then_ stage count given (record { frames = counted; left = left }) n buf
    some few x read is

-- nothing came yet
pub heard_nothing : (most : ℕ) (before told later : LinkTold) (start now : Option (List ℕ)) (stage : FetchStage)
    (count given : ℕ) (buf : List ℕ) → 0 < most → given < 2 ^ 62 → Receiving most before told start now stage count given
    → HasRead told later got.Idle buf → Receiving most before later start now stage count given
heard_nothing most before told later start now stage count given buf some few x read =
    goes_more most before told later start now now stage stage count count given given got.Idle buf some few x read refl
    (omega arith)
    (subst (λ l. IsAtStage start now most stage l count) (sym (append-nil (bytes_in x.taken))) x.stands)
