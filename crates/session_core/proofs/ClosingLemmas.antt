-- What a connection owes when it is closed, and what is told of it, by its stage.
use Rattle.std.proofs.Common.{◌≡◌, ◌∙◌, ℕ, Bool, false, List, [], ◌∷◌, length, refl, sym, ap, subst, Option, None, Some, Ok}
use Rattle.std.specs.Prelude.{drop}
use Rattle.mount_ring.specs.declared.call.RingAnswer.TheVariants as rings
use Rattle.std.proofs.lemmas.Bool.{le-leb}
use Rattle.rover_cursor.specs.declared.segment.Segment.{Segment}
use Rattle.session_calls.specs.Steps.{of_ring, Step}
use Rattle.session_calls.specs.Plans.{Plan, done}
use Rattle.source_session.specs.Standing.{is_chunked}
use Rattle.ntrip_client.specs.declared.answer.Answer.{Answer as HeadAnswer}
use Rattle.ntrip_client.specs.declared.answer.Answer.TheVariants as heads
use Rattle.ntrip_client.specs.Answer.{HasHead, IsAnswer}
use Rattle.upstream_relay.specs.declared.body.RelayStage.{RelayStage}
use Rattle.upstream_relay.specs.declared.body.RelayStage.TheVariants as relays
use Rattle.upstream_relay.specs.declared.fault.RelayHalt.{RelayHalt}
use Rattle.upstream_relay.specs.declared.fault.RelayHalt.TheVariants as halts
use Rattle.upstream_relay.specs.Owed.{owed, IsDone}
use Rattle.upstream_relay.specs.Standing.{StandsAt, IsClaimed, IsHaltedBy, claim_at, is_short_at}
use Rattle.session_model.specs.Headings.{Heading, answered, IsAnswering}
use Rattle.session_model.specs.Judged.{Judged, waiting, finished, source, rover, relay_judged, once, said_judged}
use Rattle.session_model.specs.declared.ending.Ending.TheVariants.{NoHead}
use Rattle.session_model.specs.Owed.{Came, nothing, over, holding, inside, came_by, first_answer, came_to, closing_by}
use Rattle.session_model.specs.Endings.{ended_by, at_end}
use Rattle.session_model.specs.Reports.{junk_of, is_entered}
use Rattle.session_core.specs.Standing.{IsFree}
use Rattle.session_model.proofs.AnsweringLemmas.{one_answering}
use Rattle.session_core.proofs.RelayLemmas.{done_is_none}

-- ---- a connection that holds nothing

pub free_closed : (came : Came) (segments : List Segment) → IsFree came → closing_by came segments ≡ done
free_closed nothing segments free = refl
free_closed (over reply end) segments free = refl
free_closed (holding terms body claim) segments free = absurd free
free_closed (inside terms) segments free = absurd free

pub free_junk : (came : Came) → IsFree came → junk_of came ≡ 0
free_junk nothing free = refl
free_junk (over reply end) free = refl
free_junk (holding terms body claim) free = absurd free
free_junk (inside terms) free = refl

pub free_out : (came : Came) → IsFree came → is_entered came ≡ false
free_out nothing free = refl
free_out (over reply end) free = refl
free_out (holding terms body claim) free = refl
free_out (inside terms) free = absurd free

-- of one that has not ended
pub free_unended : (came : Came) → IsFree came → ended_by came ≡ None → at_end came ≡ NoHead
free_unended nothing free none = refl
free_unended (over reply end) free none = absurd cc
free_unended (holding terms body claim) free none = absurd free
free_unended (inside terms) free none = absurd free

-- what called nothing, or was told that its mountpoint is taken
free_none : (j : Judged) → IsFree (came_by j None)
free_none waiting = tt
free_none (finished reply end) = tt
free_none (source terms body) = tt
free_none (rover terms tail) = tt

free_taken : (j : Judged) (caller claim : ℕ) → IsFree (came_by j (Some (of_ring (rings.Taken caller claim))))
free_taken waiting caller claim = tt
free_taken (finished reply end) caller claim = tt
free_taken (source terms body) caller claim = tt
free_taken (rover terms tail) caller claim = tt

-- ---- a relay

-- whatever it is judged to be
abbrev pub IsFreeWith : List Step → Type 0
IsFreeWith steps = (j : Judged) → IsFree (came_to j steps)

pub uncalled_free : (steps : List Step) → steps ≡ [] → IsFreeWith steps
uncalled_free steps none = λ j. subst (λ (l : List Step). IsFree (came_to j l)) (sym none) (free_none j)

pub none_made : (mount : ℕ) (short : Bool) (answer other : HeadAnswer) (text : List ℕ) (steps : List Step)
    → owed mount other text ≡ done → answer ≡ other → IsDone short (owed mount answer text) steps
    → IsFreeWith steps
none_made mount short answer other text steps unowed is made =
    uncalled_free steps (done_is_none short steps
    (subst (λ (p : Plan). IsDone short p steps) (ap (λ (a : HeadAnswer). owed mount a text) is ∙ unowed) made))

pub halted_free : (mount : ℕ) (answer : HeadAnswer) (text : List ℕ) (steps : List Step) (halt : RelayHalt)
    (short : Bool)
    → IsDone short (owed mount answer text) steps → IsHaltedBy mount answer steps halt → IsFreeWith steps
halted_free mount answer text steps halts.BadHead short made is = none_made mount short answer _ text steps refl is made
halted_free mount answer text steps halts.LongHead short made is = none_made mount short answer _ text steps refl is made
halted_free mount answer text steps halts.Coding short made is = none_made mount short answer _ text steps refl is made
halted_free mount answer text steps halts.Table short made is = none_made mount short answer _ text steps refl is made
halted_free mount answer text steps (halts.Status status) short made is =
    none_made mount short answer _ text steps refl is made
halted_free mount answer text steps (halts.Taken caller claim) short made is =
    λ j. subst (λ (l : List Step). IsFree (came_to j l)) (sym is.1) (free_taken j caller claim)
halted_free mount answer text steps halts.Done short made is = absurd is
halted_free mount answer text steps (halts.BadChunk place) short made is = absurd is
halted_free mount answer text steps (halts.Worn turns) short made is = uncalled_free steps is.1
halted_free mount answer text steps halts.Memory short made is = uncalled_free steps is.1

-- a relay that was given its claim
pub claimed_received : (mount claim : ℕ) (steps : List Step) → IsClaimed mount claim steps
    → first_answer steps ≡ Some (of_ring (rings.Given claim))
claimed_received mount claim [] is = absurd is
claimed_received mount claim (step ∷ steps) is = ap (λ (s : Step). first_answer (s ∷ steps)) is

-- what it came to: without a claim it holds nothing, and with one it is a source whose body is
-- behind the answer's head
abbrev pub IsCameBy : ℕ → List ℕ → Option ℕ → Came → Type 0
IsCameBy mount text None came = IsFree came
IsCameBy mount text (Some claim) came =
    (place : ℕ) × (chunked : Bool) × HasHead text place (Ok chunked)
    × (came ≡ holding (record { version = None; mount = mount; chunked = chunked }) (drop place text) claim)

pub relay_came : (mount me : ℕ) (heading : Heading) (stage : RelayStage) (text : List ℕ) (steps : List Step)
    → IsAnswering text heading → StandsAt mount me stage text steps
    → IsCameBy mount text (claim_at stage) (came_to (relay_judged mount heading text) steps)
relay_came mount me heading (relays.Head head cutter) text steps says x =
    none_made mount false x.answer heads.Open text steps refl x.at_stage.1 x.made (relay_judged mount heading text)
relay_came mount me heading (relays.Halted halt) text steps says x =
    halted_free mount x.answer text steps halt (is_short_at (relays.Halted halt)) x.made x.at_stage
    (relay_judged mount heading text)
relay_came mount me heading (relays.Body session) text steps says x =
    let body = x.at_stage in
    let has : HasHead text body.at (Ok (is_chunked session)) = subst (IsAnswer text) body.accepted x.says in
    let same = one_answering text heading (answered body.at (Ok (is_chunked session))) says has in
    let said : Judged = said_judged mount (drop body.at text) (Ok (is_chunked session)) in (
      body.at,
      is_chunked session,
      has,
      ap (λ (h : Heading). came_to (relay_judged mount h text) steps) same
          ∙ ap (λ (b : Bool). came_to (once b said) steps) (le-leb body.at (length text) has.0)
          ∙ ap (came_by said) (claimed_received mount session.claim steps body.claimed),
    )
