-- What a worker did: the links that came back to its door, one after the other.
use Rattle.std.specs.Prelude.{◌≡◌, ℕ, ◌+◌, ◌*◌, ◌^◌, ◌≤◌, ◌&&◌, ◌⊎◌, if◌then◌else◌, List, [], ◌∷◌, ◌++◌, length, map, fold, Option, None, Some}
use Rattle.cast_io.specs.declared.steps.LinkStep.{LinkStep}
use Rattle.cast_io.specs.declared.steps.Step.{Step as LinkTook}
use Rattle.cast_io.specs.declared.door.Arrived.TheVariants as arrived
use Rattle.cast_io.specs.Causes.{Rose}
use Rattle.cast_io.specs.Told.{LinkTold, DoorTold, Grew, StillTold}
use Rattle.caster_accounts.specs.declared.account.Sum.{Sum}
use Rattle.cast_config.specs.declared.config.Config.{Config}
use Rattle.session_model.specs.declared.ending.Last.{Last}
use Rattle.session_model.specs.declared.report.Receipt.{Receipt}
use Rattle.session_model.specs.Judged.{Opening, SourceTerms, sends_head}
use Rattle.session_model.specs.Owed.{holding, came_to}
use Rattle.session_model.specs.Run.{Histories}
use Rattle.session_core.specs.Standing.{is_halted}
use Rattle.session_model.specs.Courses.{steps_of}
use Rattle.caster_link.specs.Links.{IsCausedBy}
use Rattle.caster_link.specs.Served.{LinkGoes}
use Rattle.caster_places.specs.Leaves.{Leaves}
use Rattle.caster_link.specs.Publishes.{PublishesBody}
use Rattle.caster_serve.specs.Visits.{Visit, HasCome, WentOn}
use Rattle.caster_link.specs.Wear.{Wear, IsRefusedBy}

-- what a link told when it came back, and the receipt of its connection
pub record Record : Type 0 where
  pub link : LinkTold
  pub receipt : Receipt

-- where the list is told, it is this one
abbrev pub IsTold : {X : Type 0} → Option (List X) → List X → Type 0
IsTold {X} told list = (is : List X) → told ≡ Some is → is ≡ list

-- The connection of the link went by what the link tells from these histories to those. Its places
-- refused turns only as they were worn so.
pub record RecordGoes (c : Config) (opening : Opening) (me : ℕ) (wear : Wear) (entry : Record)
    (start now : Histories) : Type 0 where
  pub taken : List LinkTook
  pub written : List ℕ
  pub last : Last
  pub taken_is : IsTold entry.link.taken taken
  pub bytes_is : IsTold entry.link.bytes written
  pub goes : LinkGoes c opening me start now taken written last entry.receipt
  pub caused : IsCausedBy last 0 entry.link.faults
  pub refused : IsRefusedBy wear entry.receipt
  -- a source, or a relay, that was given its claim published the frames of its body
  pub published : (terms : SourceTerms) (body : List ℕ) (claim : ℕ)
      → came_to goes.j (steps_of goes.events) ≡ holding terms body claim
      → PublishesBody (is_halted goes.ended) terms body me claim start now

-- the connections of these links went so, each from the histories that the one before it left
abbrev pub Followed : Config → ℕ → Wear → List Record → Histories → Histories → Type 0
Followed c me wear [] start now = now ≡ start
Followed c me wear (entry ∷ entries) start now =
    (between : Histories) × RecordGoes c sends_head me wear entry start between
    × Followed c me wear entries between now

-- ---- arrivals

-- the links among these arrivals, in order, by the steps that each was to take at first
abbrev pub givens_among : List (Option LinkTold) → List (Option (List LinkStep))
givens_among [] = []
givens_among (None ∷ arrivals) = givens_among arrivals
givens_among (Some link ∷ arrivals) = link.given ∷ givens_among arrivals

-- Of the arrivals that were to come the first came, and these are left. The links among those that
-- came are these, in order.
pub record AreTaken (givens : List (Option (List LinkStep))) (old new : List (Option LinkTold))
    : Type 0 where
  pub came : List (Option LinkTold)
  pub split : old ≡ came ++ new
  pub links : givens_among came ≡ givens

-- ---- a worker

-- no more than so many sessions can count
abbrev pub IsWithin : Sum → Type 0
IsWithin sum = (sum.sent ≤ sum.sessions * 2 ^ 64) × (sum.overrun ≤ sum.sessions * 2 ^ 64)

-- a tally with one receipt more: it counts those of rovers that entered an account and left it
abbrev pub tallied : Sum → Receipt → Sum
tallied sum receipt = if receipt.entered && receipt.settled then record {
  sessions = sum.sessions + 1;
  sent = sum.sent + receipt.sent;
  overrun = sum.overrun + receipt.overrun;
} else sum

abbrev pub links_of : List Record → List LinkTold
links_of entries = map (λ (entry : Record). entry.link) entries

-- the steps that each link was to take at first
abbrev pub givens_of : List Record → List (Option (List LinkStep))
givens_of entries = map (λ (entry : Record). entry.link.given) entries

abbrev pub receipts_of : List Record → List Receipt
receipts_of entries = map (λ (entry : Record). entry.receipt) entries

-- So many links were given, each was served to its receipt and came back, and the tally counts
-- their receipts. Where the door tells the arrivals to come, the links that came back are those
-- that it gave, in the order of arrival.
pub record Works (c : Config) (me : ℕ) (wear : Wear) (start now : Histories)
    (before after : DoorTold) (old new : Sum) (count : ℕ) : Type 0 where
  pub entries : List Record
  pub back : Grew before.back after.back (links_of entries)
  pub arrived : StillTold (AreTaken (givens_of entries)) before.left after.left
  pub followed : Followed c me wear entries start now
  pub counted : length entries ≡ count
  pub tally : new ≡ fold tallied old (receipts_of entries)
  -- these are the sessions that it ended in the book
  pub leaves : Leaves me start.book now.book old new
  pub later : before.faults ≤ after.faults

-- The worker stopped after so many links as it was to serve, or where its door failed: up to there
-- it went on from accept to accept, none of which failed, and there it asked the door no more.
pub record Worked (c : Config) (me : ℕ) (wear : Wear) (start now : Histories)
    (before after : DoorTold) (old new : Sum) (limit count : ℕ) : Type 0 where
  pub works : Works c me wear start now before after old new count
  pub done : (count ≡ limit) ⊎ Rose before.faults after.faults
  pub visits : List Visit
  pub at : DoorTold
  pub went_on : WentOn visits before at
  pub stopped : ((count ≡ limit) × (after ≡ at)) ⊎ HasCome arrived.Failed at after

-- A link of a connection that opens so was served to its receipt, which the tally counts; so many
-- sessions more its caller ended in the book.
pub record LinkCounted (c : Config) (opening : Opening) (me : ℕ) (wear : Wear)
    (start now : Histories) (after : LinkTold) (old new : Sum) : Type 0 where
  pub receipt : Receipt
  pub goes : RecordGoes c opening me wear (record { link = after; receipt = receipt }) start now
  pub tally : new ≡ tallied old receipt
  pub leaves : Leaves me start.book now.book old new
