-- What a connection asked is told as its head says it.
use Rattle.std.proofs.Common.{◌≡◌, ◌≢◌, ◌⊎◌, ◌∙◌, ◌-◌, ◌≤◌, ℕ, Bool, false, List, [], ◌++◌, length, take, drop, refl, sym, ap, subst, inl, inr, arith, Option, None, Some, Result, append_assoc}
use Rattle.std.proofs.lemmas.List.{append-nil, take_all}
use Rattle.ntrip_head.specs.declared.fault.HeadFault.{HeadFault}
use Rattle.ntrip_head.specs.declared.request.Request.{Request}
use Rattle.ntrip_head.specs.Answer.{HeadAnswer}
use Rattle.ntrip_head.specs.Head.{IsHead, IsOpen}
use Rattle.cast_config.specs.declared.config.Config.{Config}
use Rattle.session_model.specs.declared.ending.Ending.{Ending}
use Rattle.session_model.specs.declared.ending.Ending.TheVariants.{Memory}
use Rattle.session_model.specs.Headings.{Heading, incomplete, too_long, whole, answered, IsHeading, IsAnswering}
use Rattle.session_model.specs.Judged.{Opening, Judged, sends_head, relays, bare_source, bare_rover, judged, waiting}
use Rattle.session_model.specs.Reports.{IsHeadingOf}
use Rattle.session_model.specs.Run.{Histories}
use Rattle.session_model.proofs.HeadingLemmas.{one_heading, heading_stays}
use Rattle.session_model.proofs.LawLemmas.{whole_says}
use Rattle.session_core.specs.declared.asked.Asked.{Asked}
use Rattle.session_core.specs.declared.held.Held.TheVariants as holds
use Rattle.session_core.specs.declared.session.Session.{Session}
use Rattle.session_core.specs.declared.session_stage.SessionStage.{SessionStage}
use Rattle.session_core.specs.declared.session_stage.SessionStage.TheVariants.{Head, Over, Source, Relay, Rover}
use Rattle.session_core.specs.Asking.{AsksOn, AsksStill, IsAsking, StaysItself, TellsAsked, TellsAt, TellsBehind, asked_by, asked_in}
use Rattle.session_core.specs.Feeding.{HasBegunFor, IsBehindHead}
use Rattle.session_core.specs.Holding.{HoldsOn, IsHolding}
use Rattle.session_core.specs.Standing.{IsAtStage, IsNewRelay, StandsFor}
use Rattle.session_core.specs.Beginnings.{bare_opening}
use Rattle.session_core.specs.declared.ending.Bare.{Bare}
use Rattle.session_core.specs.declared.ending.Bare.TheVariants as bare
use Rattle.session_calls.specs.Steps.{Step}
use Rattle.session_core.specs.States.{holding_at}
use Rattle.session_core.specs.Turned.{is_rover}
use Rattle.session_core.proofs.FeedHeadLemmas.{front_and_rest, rest_of}

-- of a connection that goes on
asking_going : (told : Option Asked) (asked : Option Asked) → IsAsking told None asked → told ≡ asked
asking_going told asked (inl is) = is
asking_going told asked (inr lacked) = let clash : None ≡ Some Memory = lacked.1 in absurd cc

-- another caster asks nothing
asks_none : (text : List ℕ) (heading : Heading) → IsAnswering text heading → asked_in heading ≡ None
asks_none text incomplete is = refl
asks_none text too_long is = refl
asks_none text (whole at answer) is = absurd is
asks_none text (answered at said) is = refl

-- ---- by what the session tells

pub asks_so : (session : Session) (opening : Opening) (heading : Heading) (text : List ℕ)
    → IsHeadingOf (Some opening) text heading → TellsAsked opening text session
    → IsAsking session.asked session.ended (asked_in heading)
asks_so session opening heading text is tells = by session.stage tells where
  behind : TellsBehind opening text session.asked session.ended
      → IsAsking session.asked session.ended (asked_in heading)
  behind told =
      told [] heading (subst (λ (l : List ℕ). IsHeadingOf (Some opening) l heading) (sym (append-nil text)) is)

  by : (stage : SessionStage) → TellsAt opening text session.asked session.ended stage
      → IsAsking session.asked session.ended (asked_in heading)
  by (Head head) at =
      inl (at.3 ∙ ap asked_in (one_heading text incomplete heading (subst IsOpen at.1 at.2)
      (subst (λ (o : Opening). IsHeadingOf (Some o) text heading) at.0 is)))
  by Over told = behind told
  by (Source mount inner) told = behind told
  by (Relay mount inner) told = behind told
  by (Rover account inner) told = behind told

-- what is told already is told on
pub same_on : (told later : Option Asked) → later ≡ told → AsksOn told later
same_on None later same = tt
same_on (Some asked) later same = same

pub asks_both : (first second third : Option Asked) → AsksOn first second → AsksOn second third → AsksOn first third
asks_both None second third told on = tt
asks_both (Some asked) second third told on = subst (λ (x : Option Asked). AsksOn x third) told on

-- ---- over a call

pub asks_same : (stage : SessionStage) (told later : Option Asked) → later ≡ told → AsksStill stage told later
asks_same (Head head) told later same = tt
asks_same Over told later same = same
asks_same (Source mount inner) told later same = same
asks_same (Relay mount inner) told later same = same
asks_same (Rover account inner) told later same = same

-- while its head is awaited a session holds nothing and told nothing
pub awaited_stays : (was now : Session) (head : List ℕ) → was.stage ≡ Head head → now.me ≡ was.me
    → StaysItself was now
awaited_stays was now head is same = record {
  me = same;
  holds = subst (λ (stage : SessionStage). HoldsOn (holding_at stage) (holding_at now.stage)) (sym is) tt;
  asks = subst (λ (stage : SessionStage). AsksStill stage was.asked now.asked) (sym is) tt;
}

-- what was told is told on
pub asks_on : (opening : Opening) (text : List ℕ) (was now : Session) → StaysItself was now
    → TellsAsked opening text was → AsksOn was.asked now.asked
asks_on opening text was now same tells = by was.stage same.asks tells where
  by : (stage : SessionStage) → AsksStill stage was.asked now.asked
      → TellsAt opening text was.asked was.ended stage → AsksOn was.asked now.asked
  by (Head head) still at = subst (λ (told : Option Asked). AsksOn told now.asked) (sym at.3) tt
  by Over still at = same_on was.asked now.asked still
  by (Source mount inner) still at = same_on was.asked now.asked still
  by (Relay mount inner) still at = same_on was.asked now.asked still
  by (Rover account inner) still at = same_on was.asked now.asked still

-- of a session that holds something
pub asks_held : (was now : Session) → StaysItself was now → IsHolding (holding_at was.stage)
    → now.asked ≡ was.asked
asks_held was now same = by was.stage same.asks where
  by : (stage : SessionStage) → AsksStill stage was.asked now.asked → IsHolding (holding_at stage)
      → now.asked ≡ was.asked
  by (Head head) still is = absurd is
  by Over still is = absurd is
  by (Source mount inner) still is = still
  by (Relay mount inner) still is = still
  by (Rover account inner) still is = still

-- of a session that stayed as it was where it is no rover's
pub asks_turned : (was now : Session) → StaysItself was now → (is_rover was.stage ≡ false → now ≡ was)
    → now.asked ≡ was.asked
asks_turned was now same = by was.stage same.asks where
  by : (stage : SessionStage) → AsksStill stage was.asked now.asked → (is_rover stage ≡ false → now ≡ was)
      → now.asked ≡ was.asked
  by (Head head) told still = ap (λ (s : Session). s.asked) (still refl)
  by Over told still = told
  by (Source mount inner) told still = told
  by (Relay mount inner) told still = told
  by (Rover account inner) told still = told

-- ---- behind the head

tells_behind : (opening : Opening) (text : List ℕ) (told : Option Asked) (ended : Option Ending) (stage : SessionStage)
    → IsBehindHead stage → TellsAt opening text told ended stage → TellsBehind opening text told ended
tells_behind opening text told ended (Head head) behind tells = absurd behind
tells_behind opening text told ended Over behind tells = absurd behind
tells_behind opening text told ended (Source mount inner) behind tells = tells
tells_behind opening text told ended (Relay mount inner) behind tells = tells
tells_behind opening text told ended (Rover account inner) behind tells = tells

-- as more bytes come, and however they end it
pub tells_on : (was : Session) (opening : Opening) (text bytes : List ℕ) (later : Option Ending) → was.ended ≡ None
    → IsBehindHead was.stage → TellsAsked opening text was → TellsBehind opening (text ++ bytes) was.asked later
tells_on was opening text bytes later unended behind tells = λ more heading is.
    inl (asking_going was.asked (asked_in heading)
    (subst (TellsBehind opening text was.asked) unended
    (tells_behind opening text was.asked was.ended was.stage behind tells) (bytes ++ more) heading
    (subst (λ (l : List ℕ). IsHeadingOf (Some opening) l heading) (append_assoc text bytes more) is)))

-- ---- a turn

however_ended : (opening : Opening) (text : List ℕ) (told : Option Asked) (later : Option Ending)
    → TellsBehind opening text told None → TellsBehind opening text told later
however_ended opening text told later tells = λ more heading is.
    inl (asking_going told (asked_in heading) (tells more heading is))

rover_still : (opening : Opening) (text : List ℕ) (told : Option Asked) (later : Option Ending) (account : ℕ)
    (stage : SessionStage) → holding_at stage ≡ holds.Rover account → TellsBehind opening text told None
    → TellsAt opening text told later stage
rover_still opening text told later account (Head head) is tells =
    let clash : holds.Nothing ≡ holds.Rover account = is in absurd cc
rover_still opening text told later account Over is tells = however_ended opening text told later tells
rover_still opening text told later account (Source mount inner) is tells = however_ended opening text told later tells
rover_still opening text told later account (Relay mount inner) is tells = however_ended opening text told later tells
rover_still opening text told later account (Rover other inner) is tells = however_ended opening text told later tells

still_at : (opening : Opening) (text : List ℕ) (told : Option Asked) (ended : Option Ending) (was later : SessionStage)
    → (ended ≡ None) × (later ≡ was) → TellsAt opening text told None was → TellsAt opening text told ended later
still_at opening text told ended was later still tells =
    subst (λ (stage : SessionStage). TellsAt opening text told ended stage) (sym still.1)
    (subst (λ (e : Option Ending). TellsAt opening text told e was) (sym still.0) tells)

turned_at : (opening : Opening) (text : List ℕ) (told : Option Asked) (ended : Option Ending) (was later : SessionStage)
    → HoldsOn (holding_at was) (holding_at later) → (is_rover was ≡ false → (ended ≡ None) × (later ≡ was))
    → TellsAt opening text told None was → TellsAt opening text told ended later
turned_at opening text told ended (Rover account inner) later on still tells =
    rover_still opening text told ended account later on tells
turned_at opening text told ended (Head head) later on still tells =
    still_at opening text told ended (Head head) later (still refl) tells
turned_at opening text told ended Over later on still tells =
    still_at opening text told ended Over later (still refl) tells
turned_at opening text told ended (Source mount inner) later on still tells =
    still_at opening text told ended (Source mount inner) later (still refl) tells
turned_at opening text told ended (Relay mount inner) later on still tells =
    still_at opening text told ended (Relay mount inner) later (still refl) tells

pub tells_turned : (was now : Session) (opening : Opening) (text : List ℕ) → was.ended ≡ None → StaysItself was now
    → (is_rover was.stage ≡ false → now ≡ was) → TellsAsked opening text was → TellsAsked opening text now
tells_turned was now opening text unended same still tells =
    subst (λ (told : Option Asked). TellsAt opening text told now.ended now.stage) (sym (asks_turned was now same still))
    (turned_at opening text was.asked now.ended was.stage now.stage same.holds
    (λ apart. (ap (λ (s : Session). s.ended) (still apart) ∙ unended, ap (λ (s : Session). s.stage) (still apart)))
    (subst (λ (e : Option Ending). TellsAt opening text was.asked e was.stage) unended tells))

-- ---- as it opens

pub relay_asks : (me mount number : ℕ) (stage : SessionStage) → IsNewRelay me mount stage
    → TellsAt (relays number) [] None None stage
relay_asks me mount number (Head head) new = absurd new
relay_asks me mount number Over new = absurd new
relay_asks me mount number (Source at inner) new = absurd new
relay_asks me mount number (Relay at inner) new = λ more heading is. inl (sym (asks_none more heading is))
relay_asks me mount number (Rover account inner) new = absurd new

bare_tells : (role : Bare) (name : List ℕ) (ended : Option Ending)
    → TellsBehind (bare_opening role name) [] None ended
bare_tells bare.Source name ended = λ more heading is. inl (sym (ap asked_in is))
bare_tells bare.Rover name ended = λ more heading is. inl (sym (ap asked_in is))

not_awaited : (c : Config) (role : Bare) (name : List ℕ) (me : ℕ) (h : Histories) (j : Judged) (steps : List Step)
    (head : List ℕ) → IsAtStage c me h (bare_opening role name) j [] steps (Head head) → ⊥
not_awaited c bare.Source name me h j steps head at = let clash : bare_source name ≡ sends_head = at.0 in cc
not_awaited c bare.Rover name me h j steps head at = let clash : bare_rover name ≡ sends_head = at.0 in cc

bare_at : (c : Config) (role : Bare) (name : List ℕ) (me : ℕ) (h : Histories) (j : Judged) (steps : List Step)
    (ended : Option Ending) (stage : SessionStage)
    → IsAtStage c me h (bare_opening role name) j [] steps stage ⊎ (stage ≡ Over)
    → TellsAt (bare_opening role name) [] None ended stage
bare_at c role name me h j steps ended (Head head) (inl at) = absurd (not_awaited c role name me h j steps head at)
bare_at c role name me h j steps ended (Head head) (inr over) = let clash : Head head ≡ Over = over in absurd cc
bare_at c role name me h j steps ended Over at = bare_tells role name ended
bare_at c role name me h j steps ended (Source mount inner) at = bare_tells role name ended
bare_at c role name me h j steps ended (Relay mount inner) at = bare_tells role name ended
bare_at c role name me h j steps ended (Rover account inner) at = bare_tells role name ended

pub bare_asks : (c : Config) (role : Bare) (name : List ℕ) (session : Session) (steps : List Step) (h : Histories)
    (sent : List ℕ) → session.asked ≡ None → StandsFor c session (bare_opening role name) [] steps h sent
    → TellsAsked (bare_opening role name) [] session
bare_asks c role name session steps h sent unasked (inl stands) =
    subst (λ (told : Option Asked). TellsAt (bare_opening role name) [] told session.ended session.stage) (sym unasked)
    (bare_at c role name session.me h (judged c (bare_opening role name) stands.heading []) steps session.ended
    session.stage (inl stands.stage))
bare_asks c role name session steps h sent unasked (inr lost) =
    subst (λ (told : Option Asked). TellsAt (bare_opening role name) [] told session.ended session.stage) (sym unasked)
    (bare_at c role name session.me h waiting steps session.ended session.stage (inr lost.stage))

-- ---- while its head is awaited

abbrev Awaits : Opening → List ℕ → List ℕ → Session → Type 0
Awaits opening text head was = (opening ≡ sends_head) × (head ≡ text) × IsOpen head × (was.asked ≡ None)

awaits : (was : Session) (opening : Opening) (text head : List ℕ) → was.stage ≡ Head head
    → TellsAsked opening text was → Awaits opening text head was
awaits was opening text head is tells =
    subst (λ (stage : SessionStage). TellsAt opening text was.asked was.ended stage) is tells

-- ---- a head that ended

-- whatever follows a head that says something, it says the same
head_says : (front : List ℕ) (heading : Heading) (told : Option Asked) (ended : Option Ending) → heading ≢ incomplete
    → IsHeading front heading → IsAsking told ended (asked_in heading) → TellsBehind sends_head front told ended
head_says front heading told ended says here asks = λ more other is.
    subst (λ (x : Heading). IsAsking told ended (asked_in x))
    (one_heading (front ++ more) heading other (heading_stays front more heading says here) is) asks

-- where it is whole, and this is what it asks
pub tells_whole : (front : List ℕ) (answer : Result Request HeadFault) (told : Option Asked)
    (ended : Option Ending) → IsHead front → HeadAnswer front answer → told ≡ asked_by answer
    → TellsBehind sends_head front told ended
tells_whole front answer told ended is says told_is =
    let all : take (length front) front ≡ front = take_all (length front) front (omega arith) in
    head_says front (whole (length front) answer) told ended (whole_says (length front) answer) (
      omega arith,
      subst IsHead (sym all) is,
      subst (λ (l : List ℕ). HeadAnswer l answer) (sym all) says,
    ) (inl told_is)

-- what began awaits no head
begun_at : (c : Config) (alone : Bool) (old now : Histories) (me : ℕ) (front : List ℕ) (ended : Option Ending)
    (before after : List ℕ) (opening : Opening) (text : List ℕ) (told : Option Asked) (stage : SessionStage)
    → HasBegunFor c alone old now me front stage ended before after → TellsBehind opening text told ended
    → TellsAt opening text told ended stage
begun_at c alone old now me front ended before after opening text told (Head head) (inl b) tells =
    let clash : relays 0 ≡ sends_head = (b.begins.stage_is (relays 0) []).0 in absurd cc
begun_at c alone old now me front ended before after opening text told (Head head) (inr lost) tells =
    let clash : Head head ≡ Over = lost.stage_is in absurd cc
begun_at c alone old now me front ended before after opening text told Over begun tells = tells
begun_at c alone old now me front ended before after opening text told (Source mount inner) begun tells = tells
begun_at c alone old now me front ended before after opening text told (Relay mount inner) begun tells = tells
begun_at c alone old now me front ended before after opening text told (Rover account inner) begun tells = tells

pub tells_begun : (c : Config) (alone : Bool) (old now : Histories) (me : ℕ) (front : List ℕ)
    (stage : SessionStage) (ended : Option Ending) (before after : List ℕ) (asked told : Option Asked) → asked ≡ told
    → HasBegunFor c alone old now me front stage ended before after → TellsBehind sends_head front told ended
    → TellsAt sends_head front asked ended stage
tells_begun c alone old now me front stage ended before after asked told is begun tells =
    subst (λ (x : Option Asked). TellsAt sends_head front x ended stage) (sym is)
    (begun_at c alone old now me front ended before after sends_head front told stage begun tells)

-- and bytes behind it that are not looked at
pub tells_ended : (c : Config) (alone : Bool) (old now : Histories) (me : ℕ) (stage : SessionStage)
    (ended : Option Ending) (before after : List ℕ) (asked told : Option Asked) (was : Session) (opening : Opening)
    (text bytes head : List ℕ) (count : ℕ) → asked ≡ told
    → HasBegunFor c alone old now me (head ++ take count bytes) stage ended before after
    → TellsBehind sends_head (head ++ take count bytes) told ended → was.stage ≡ Head head → TellsAsked opening text was
    → TellsAt opening (text ++ bytes) asked ended stage
tells_ended c alone old now me stage ended before after asked told was opening text bytes head count is begun tells
    awaited so_far =
    let at = awaits was opening text head awaited so_far in
    let front : List ℕ = head ++ take count bytes in
    let whole_text : front ++ drop count bytes ≡ text ++ bytes = front_and_rest text head bytes count at.1 in
    subst (λ (x : Option Asked). TellsAt opening (text ++ bytes) x ended stage) (sym is)
    (begun_at c alone old now me front ended before after opening (text ++ bytes) told stage begun
    (subst (λ (o : Opening). TellsBehind o (text ++ bytes) told ended) (sym at.0)
    (subst (λ (l : List ℕ). TellsBehind sends_head l told ended) whole_text
    (λ more heading says. tells (drop count bytes ++ more) heading
    (subst (λ (l : List ℕ). IsHeadingOf (Some sends_head) l heading)
    (append_assoc front (drop count bytes) more) says)))))

-- and those that are
pub tells_rest : (was new : Session) (opening : Opening) (text bytes head : List ℕ) (count : ℕ) → count ≤ length bytes
    → was.stage ≡ Head head → TellsAsked opening text was
    → TellsAsked sends_head ((head ++ take count bytes) ++ take (length bytes - count) (drop count bytes)) new
    → TellsAsked opening (text ++ bytes) new
tells_rest was new opening text bytes head count within awaited so_far tells =
    let at = awaits was opening text head awaited so_far in
    subst (λ (o : Opening). TellsAsked o (text ++ bytes) new) (sym at.0)
    (subst (λ (l : List ℕ). TellsAsked sends_head l new) (front_and_rest text head bytes count at.1)
    (subst (λ (l : List ℕ). TellsAsked sends_head ((head ++ take count bytes) ++ l) new)
    (rest_of bytes count within) tells))
