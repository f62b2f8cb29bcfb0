-- What halts a relay, and which claim it was given.
use Rattle.std.proofs.Common.{◌≡◌, ◌↔◌, ℕ, Bool, true, false, List, [], ◌∷◌, drop, refl, sym, ap, subst, Option, None, Some}
use Rattle.std.specs.Option.{option_map}
use Rattle.chunk_body.specs.Text.{HasEnded, IsBadAt}
use Rattle.session_calls.specs.Steps.{Step, answer_of}
use Rattle.session_calls.specs.Plans.{IsMade}
use Rattle.source_session.specs.declared.fault.SourceHalt.{SourceHalt}
use Rattle.source_session.specs.declared.fault.SourceHalt.TheVariants as sources
use Rattle.source_session.proofs.StandingLemmas.{ended_at_done, bad_at_fault}
use Rattle.ntrip_client.specs.declared.Answer.{Answer}
use Rattle.ntrip_client.specs.declared.Answer.TheVariants.{Open, Accepted, Refused}
use Rattle.ntrip_client.specs.declared.answer.Refusal.{Refusal}
use Rattle.ntrip_client.specs.declared.answer.Refusal.TheVariants as refusals
use Rattle.ntrip_client.specs.Answer.{IsAnswer}
use Rattle.ntrip_client.proofs.OnceLemmas.{one_answer}
use Rattle.upstream_relay.specs.declared.fault.RelayHalt.{RelayHalt}
use Rattle.upstream_relay.specs.declared.fault.RelayHalt.TheVariants.{BadHead, LongHead, Coding, Table, Status, Taken, Done, BadChunk, Worn, Memory}
use Rattle.upstream_relay.specs.declared.body.RelayStage.{RelayStage}
use Rattle.upstream_relay.specs.declared.body.RelayStage.TheVariants.{Head, Body, Halted}
use Rattle.upstream_relay.specs.Halts.{halt_of_refusal, halt_of_source, is_refused_turn}
use Rattle.upstream_relay.specs.Owed.{owed, given_in, first_claim, IsDone}
use Rattle.upstream_relay.specs.Standing.{IsAccepted, IsClaimed, IsHaltedBy, StandsAt, halt_at, claim_at, is_short_at}
use Rattle.upstream_relay.proofs.StageLemmas.{open_steps, body_said}

-- ---- what is owed

pub called_owed : (mount me : ℕ) (stage : RelayStage) (bytes : List ℕ) (steps : List Step) (answer : Answer)
    → StandsAt mount me stage bytes steps → IsAnswer bytes answer
    → IsDone (is_short_at stage) (owed mount answer bytes) steps
called_owed mount me stage bytes steps answer x says =
    subst (λ (a : Answer). IsDone (is_short_at stage) (owed mount a bytes) steps)
    (one_answer bytes x.answer answer x.says says) x.made

-- ---- the claim

none_first : (steps : List Step) → steps ≡ [] → None ≡ first_claim steps
none_first steps is = ap first_claim (sym is)

refused_steps : (mount : ℕ) (answer : Answer) (bytes : List ℕ) (steps : List Step) (why : Refusal)
    → answer ≡ Refused why → IsMade (owed mount answer bytes) steps → None ≡ first_claim steps
refused_steps mount answer bytes steps why is made =
    none_first steps (subst (λ (a : Answer). IsMade (owed mount a bytes) steps) is made)

halted_claim : (mount : ℕ) (answer : Answer) (bytes : List ℕ) (steps : List Step) (halt : RelayHalt)
    → IsHaltedBy mount answer steps halt → IsDone (is_refused_turn halt) (owed mount answer bytes) steps
    → None ≡ first_claim steps
halted_claim mount answer bytes steps BadHead x made = refused_steps mount answer bytes steps refusals.BadHead x made
halted_claim mount answer bytes steps LongHead x made = refused_steps mount answer bytes steps refusals.LongHead x made
halted_claim mount answer bytes steps Coding x made = refused_steps mount answer bytes steps refusals.Coding x made
halted_claim mount answer bytes steps Table x made = refused_steps mount answer bytes steps refusals.Table x made
halted_claim mount answer bytes steps (Status status) x made =
    refused_steps mount answer bytes steps (refusals.Status status) x made
halted_claim mount answer bytes steps (Taken caller claim) x made = ap first_claim (sym x.1)
halted_claim mount answer bytes steps Done x made = absurd x
halted_claim mount answer bytes steps (BadChunk place) x made = absurd x
halted_claim mount answer bytes steps (Worn turns) x made = none_first steps x.1
halted_claim mount answer bytes steps Memory x made = none_first steps x.1

given_claim : (mount claim : ℕ) (steps : List Step) → IsClaimed mount claim steps → Some claim ≡ first_claim steps
given_claim mount claim [] x = absurd x
given_claim mount claim (step ∷ steps) x = ap (λ (s : Step). given_in (answer_of s)) (sym x)

pub claim_first : (mount me : ℕ) (stage : RelayStage) (bytes : List ℕ) (steps : List Step)
    → StandsAt mount me stage bytes steps → claim_at stage ≡ first_claim steps
claim_first mount me (Head head cutter) bytes steps x = none_first steps (open_steps mount me head cutter bytes steps x)
claim_first mount me (Body session) bytes steps x = given_claim mount session.claim steps x.at_stage.claimed
claim_first mount me (Halted halt) bytes steps x = halted_claim mount x.answer bytes steps halt x.at_stage x.made

-- ---- an answer without a body

is_refusal : RelayHalt → Bool
is_refusal BadHead = true
is_refusal LongHead = true
is_refusal Coding = true
is_refusal Table = true
is_refusal (Status status) = true
is_refusal (Taken caller claim) = false
is_refusal Done = false
is_refusal (BadChunk place) = false
is_refusal (Worn turns) = false
is_refusal Memory = false

by_refusal : (why : Refusal) → is_refusal (halt_of_refusal why) ≡ true
unfolding is_refusal
by_refusal refusals.BadHead = refl
by_refusal refusals.LongHead = refl
by_refusal refusals.Coding = refl
by_refusal refusals.Table = refl
by_refusal (refusals.Status status) = refl

by_source : (halt : SourceHalt) → is_refusal (halt_of_source halt) ≡ false
unfolding is_refusal
by_source sources.Done = refl
by_source (sources.BadChunk place) = refl
by_source (sources.Worn turns) = refl
by_source sources.Memory = refl

no_refusal : (halt : Option SourceHalt) (why : Refusal) → option_map halt_of_source halt ≡ Some (halt_of_refusal why)
    → ⊥
no_refusal None why is = absurd cc
no_refusal (Some halt) why is =
    let same : halt_of_source halt ≡ halt_of_refusal why = cc in
    let both : is_refusal (halt_of_source halt) ≡ is_refusal (halt_of_refusal why) = ap is_refusal same in
    absurd (cc (by_refusal why, by_source halt))

accepts_none : (answer : Answer) (why : Refusal) → IsAccepted answer → answer ≡ Refused why → ⊥
accepts_none answer why accepted is = absurd (subst IsAccepted is accepted)

same_halt : (answer : Answer) (why other : Refusal) → answer ≡ Refused other → answer ≡ Refused why
    → Some (halt_of_refusal other) ≡ Some (halt_of_refusal why)
same_halt answer why other is says =
    let same : other ≡ why = cc in
    ap (λ (w : Refusal). Some (halt_of_refusal w)) same

refusal_halts : (mount : ℕ) (answer : Answer) (steps : List Step) (halt : RelayHalt) (why : Refusal)
    → IsHaltedBy mount answer steps halt → answer ≡ Refused why → Some halt ≡ Some (halt_of_refusal why)
refusal_halts mount answer steps BadHead why x says = same_halt answer why refusals.BadHead x says
refusal_halts mount answer steps LongHead why x says = same_halt answer why refusals.LongHead x says
refusal_halts mount answer steps Coding why x says = same_halt answer why refusals.Coding x says
refusal_halts mount answer steps Table why x says = same_halt answer why refusals.Table x says
refusal_halts mount answer steps (Status status) why x says = same_halt answer why (refusals.Status status) x says
refusal_halts mount answer steps (Taken caller claim) why x says = absurd (accepts_none answer why x.0 says)
refusal_halts mount answer steps Done why x says = absurd x
refusal_halts mount answer steps (BadChunk place) why x says = absurd x
refusal_halts mount answer steps (Worn turns) why x says = absurd (accepts_none answer why x.0 says)
refusal_halts mount answer steps Memory why x says = absurd (accepts_none answer why x.0 says)

to_halt : (mount me : ℕ) (stage : RelayStage) (bytes : List ℕ) (steps : List Step) (why : Refusal)
    → (x : StandsAt mount me stage bytes steps) → x.answer ≡ Refused why → halt_at stage ≡ Some (halt_of_refusal why)
to_halt mount me (Head head cutter) bytes steps why x is =
    let open_ : x.answer ≡ Open = x.at_stage.1 in
    absurd cc
to_halt mount me (Body session) bytes steps why x is =
    let accepted = x.at_stage.accepted in
    absurd cc
to_halt mount me (Halted halt) bytes steps why x is = refusal_halts mount x.answer steps halt why x.at_stage is

refusal_of : (mount : ℕ) (answer : Answer) (steps : List Step) (why : Refusal)
    → IsHaltedBy mount answer steps (halt_of_refusal why) → answer ≡ Refused why
refusal_of mount answer steps refusals.BadHead x = x
refusal_of mount answer steps refusals.LongHead x = x
refusal_of mount answer steps refusals.Coding x = x
refusal_of mount answer steps refusals.Table x = x
refusal_of mount answer steps (refusals.Status status) x = x

from_halt : (mount me : ℕ) (stage : RelayStage) (bytes : List ℕ) (steps : List Step) (why : Refusal)
    → (x : StandsAt mount me stage bytes steps) → halt_at stage ≡ Some (halt_of_refusal why) → x.answer ≡ Refused why
from_halt mount me (Head head cutter) bytes steps why x is = absurd cc
from_halt mount me (Body session) bytes steps why x is = absurd (no_refusal session.halt why is)
from_halt mount me (Halted halt) bytes steps why x is =
    let same : halt ≡ halt_of_refusal why = cc in
    refusal_of mount x.answer steps why (subst (IsHaltedBy mount x.answer steps) same x.at_stage)

pub halts_as_answered : (mount me : ℕ) (stage : RelayStage) (bytes : List ℕ) (steps : List Step) (why : Refusal)
    → StandsAt mount me stage bytes steps
    → IsAnswer bytes (Refused why) ↔ (halt_at stage ≡ Some (halt_of_refusal why))
halts_as_answered mount me stage bytes steps why x = (
  λ says. to_halt mount me stage bytes steps why x (one_answer bytes x.answer (Refused why) x.says says),
  λ is. subst (IsAnswer bytes) (from_halt mount me stage bytes steps why x is) x.says,
)

-- ---- the body

source_done : (halt : Option SourceHalt) → option_map halt_of_source halt ≡ Some Done → halt ≡ Some sources.Done
source_done None is = absurd cc
source_done (Some sources.Done) is = refl
source_done (Some (sources.BadChunk place)) is = absurd cc
source_done (Some (sources.Worn turns)) is = absurd cc
source_done (Some sources.Memory) is = absurd cc

source_bad : (halt : Option SourceHalt) (at : ℕ) → option_map halt_of_source halt ≡ Some (BadChunk at)
    → halt ≡ Some (sources.BadChunk at)
source_bad None at is = absurd cc
source_bad (Some sources.Done) at is = absurd cc
source_bad (Some (sources.BadChunk place)) at is =
    let same : place ≡ at = cc in
    ap (λ (n : ℕ). Some (sources.BadChunk n)) same
source_bad (Some (sources.Worn turns)) at is = absurd cc
source_bad (Some sources.Memory) at is = absurd cc

pub done_ended : (mount me : ℕ) (stage : RelayStage) (bytes : List ℕ) (steps : List Step) (at : ℕ) (chunked : Bool)
    → StandsAt mount me stage bytes steps → IsAnswer bytes (Accepted at chunked) → halt_at stage ≡ Some Done
    → HasEnded (drop at bytes)
done_ended mount me (Head head cutter) bytes steps at chunked x says is = absurd cc
done_ended mount me (Body session) bytes steps at chunked x says is =
    ended_at_done session.halt session.chunks session.cutter.value (drop at bytes) (source_done session.halt is)
    (body_said mount me session bytes steps at chunked x says).0
done_ended mount me (Halted halt) bytes steps at chunked x says is =
    let same : halt ≡ Done = cc in
    absurd (subst (IsHaltedBy mount x.answer steps) same x.at_stage)

pub bad_chunk : (mount me : ℕ) (stage : RelayStage) (bytes : List ℕ) (steps : List Step) (at : ℕ) (chunked : Bool)
    (place : ℕ)
    → StandsAt mount me stage bytes steps → IsAnswer bytes (Accepted at chunked) → halt_at stage ≡ Some (BadChunk place)
    → IsBadAt (drop at bytes) place
bad_chunk mount me (Head head cutter) bytes steps at chunked place x says is = absurd cc
bad_chunk mount me (Body session) bytes steps at chunked place x says is =
    bad_at_fault session.halt session.chunks session.cutter.value (drop at bytes) place
    (source_bad session.halt place is)
    (body_said mount me session bytes steps at chunked x says).0
bad_chunk mount me (Halted halt) bytes steps at chunked place x says is =
    let same : halt ≡ BadChunk place = cc in
    absurd (subst (IsHaltedBy mount x.answer steps) same x.at_stage)
