-- Under a configuration that keeps its rules, what a connection owes is at mountpoints that there
-- are.
use Rattle.std.proofs.Common.{◌≡◌, ◌<◌, ◌+◌, ◌++◌, ℕ, suc, Bool, true, false, cond, List, [], ◌∷◌, length, Option, None, Some, Result, Ok, Err, refl, subst, arith, option_to_list}
use Rattle.std.specs.Prelude.{⊤, IfSome, nat_le, drop, slice_get, slice_index}
use Rattle.std.specs.List.{position_from}
use Rattle.std.specs.Str.{bytes_eq}
use Rattle.std.proofs.lemmas.Option.{slice_get_within}
use Rattle.std.proofs.lemmas.List.{length-map}
use Rattle.std.proofs.lemmas.List.Elements.{All-head, All-tail, All-cons, All-nil, All-append}
use Rattle.gga_read.specs.declared.Position.{Position}
use Rattle.gga_read.specs.Report.{reports}
use Rattle.base_select.specs.declared.Base.{Base}
use Rattle.base_select.specs.Choice.{measures, mounts, nearest_of, chosen, place_of}
use Rattle.base_select.proofs.NearestLemmas.{choice_is_of}
use Rattle.mount_ring.specs.declared.call.RingAnswer.TheVariants as rings
use Rattle.rover_cursor.specs.declared.segment.Segment.{Segment}
use Rattle.session_calls.specs.Steps.{Answer, of_ring, of_book, Step, answer_of}
use Rattle.session_calls.specs.Plans.{Plan, done, asks, left}
use Rattle.source_session.specs.Body.{frames_of}
use Rattle.upstream_relay.specs.Owed.{publishing, after_claim}
use Rattle.rover_session.specs.Owed.{Terms, if_live, if_held, looks, chooses, changed, joins, follows, joins_each, plan_by}
use Rattle.rover_session.specs.Standing.{AreWithin}
use Rattle.rover_session.proofs.BaseLemmas.{none_changes, some_within}
use Rattle.ntrip_head.specs.declared.fault.HeadFault.{HeadFault}
use Rattle.ntrip_head.specs.declared.fault.HeadFault.TheVariants as heads
use Rattle.ntrip_head.specs.declared.request.Version.{Version}
use Rattle.ntrip_head.specs.declared.request.Auth.TheVariants as auths
use Rattle.ntrip_head.specs.declared.request.Request.{Request}
use Rattle.ntrip_head.specs.declared.request.Request.TheVariants as requests
use Rattle.ntrip_client.specs.Answer.{Said}
use Rattle.cast_config.specs.declared.config.Config.{Config}
use Rattle.cast_config.specs.declared.config.Mount.{Mount}
use Rattle.cast_config.specs.declared.config.Relay.{Relay}
use Rattle.cast_config.specs.Kept.{KeepsRules, KeepsRelay}
use Rattle.cast_config.specs.Names as names
use Rattle.access_groups.specs.declared.admission.Admission.{Admission}
use Rattle.access_groups.specs.declared.admission.Denial.{Denial}
use Rattle.access_groups.specs.declared.admission.Denial.TheVariants as denials
use Rattle.access_groups.specs.declared.admission.SourceDenial.{SourceDenial}
use Rattle.access_groups.specs.declared.admission.SourceDenial.TheVariants as sources
use Rattle.access_groups.specs.Admission.{admission, source_admission}
use Rattle.session_model.specs.Setting.{base_at, bases_at}
use Rattle.session_model.specs.Headings.{Heading, incomplete, too_long, whole, answered}
use Rattle.session_model.specs.Judged.{Opening, sends_head, relays, bare_source, bare_rover, Judged, waiting, finished, source, rover, source_judged, rover_judged, request_judged, once, heading_judged, said_judged, relay_judged, mount_fed, named, bare_admission, judged}
use Rattle.session_model.specs.Owed.{came_by, is_let_in, if_entered, terms_of, plan_of, closing_by}
use Rattle.session_model.proofs.CameLemmas.{came_parts}
use Rattle.session_core.proofs.AdmittedLemmas.{source_is, at_place}
use Rattle.run_promise.proofs.MadeLemmas.{IsWithin}

-- ---- a source

publishing_within : (count mount claim : ℕ) (frames : List (List ℕ)) → mount < count
    → IsWithin count (publishing mount claim frames)
publishing_within count mount claim [] below = tt
publishing_within count mount claim (frame ∷ frames) below =
    (below, λ answer. publishing_within count mount claim frames below)

claim_within : (count mount : ℕ) (frames : List (List ℕ)) → mount < count → (answer : Answer)
    → IsWithin count (after_claim mount frames answer)
claim_within count mount frames below (of_ring (rings.Given claim)) =
    publishing_within count mount claim frames below
claim_within count mount frames below (of_ring (rings.Taken caller claim)) = tt
claim_within count mount frames below (of_ring rings.Released) = tt
claim_within count mount frames below (of_ring (rings.At place)) = tt
claim_within count mount frames below (of_ring (rings.Joined cursor)) = tt
claim_within count mount frames below (of_ring (rings.Looked live)) = tt
claim_within count mount frames below (of_ring (rings.Read report)) = tt
claim_within count mount frames below (of_book answer) = tt

-- ---- a rover

abbrev IsBelow : ℕ → Base → Type 0
IsBelow count base = base.mount < count

live_below : (count : ℕ) (base : Base) (live : Option ℕ) → IsBelow count base → AreWithin count (if_live base live)
live_below count base None below = All-nil (IsBelow count)
live_below count base (Some claim) below = All-cons (IsBelow count) base [] below (All-nil (IsBelow count))

held_below : (count : ℕ) (base : Base) (answer : Answer) → IsBelow count base → AreWithin count (if_held base answer)
held_below count base (of_ring (rings.Given claim)) below = All-nil (IsBelow count)
held_below count base (of_ring (rings.Taken caller claim)) below = All-nil (IsBelow count)
held_below count base (of_ring rings.Released) below = All-nil (IsBelow count)
held_below count base (of_ring (rings.At place)) below = All-nil (IsBelow count)
held_below count base (of_ring (rings.Joined cursor)) below = All-nil (IsBelow count)
held_below count base (of_ring (rings.Looked live)) below = live_below count base live below
held_below count base (of_ring (rings.Read report)) below = All-nil (IsBelow count)
held_below count base (of_book answer) below = All-nil (IsBelow count)

looks_within : (count : ℕ) (bases held : List Base) (next : List Base → Plan) → AreWithin count bases
    → AreWithin count held → ((all : List Base) → AreWithin count all → IsWithin count (next all))
    → IsWithin count (looks bases held next)
looks_within count [] held next below these each = each held these
looks_within count (base ∷ bases) held next below these each = (
  All-head (IsBelow count) base bases below,
  λ answer. looks_within count bases (held ++ if_held base answer) next (All-tail (IsBelow count) base bases below)
      (All-append (IsBelow count) held (if_held base answer) these
      (held_below count base answer (All-head (IsBelow count) base bases below))) each,
)

joins_within : (count filter : ℕ) (to : Option ℕ) (next : Plan) → IfSome to (λ m. m < count) → IsWithin count next
    → IsWithin count (joins filter to next)
joins_within count filter None next below rest = rest
joins_within count filter (Some mount) next below rest = (below, λ answer. rest)

choice_below : (count h : ℕ) (present : Option ℕ) (report : Position) (held : List Base) → AreWithin count held
    → IfSome (changed present (chooses h present report held)) (λ m. m < count)
choice_below count h present report [] below =
    subst (λ (to : Option ℕ). IfSome to (λ m. m < count)) (none_changes h present report [] refl) tt
choice_below count h present report (base ∷ bases) below =
    let all : List ℕ = measures report (base ∷ bases) in
    let mount : ℕ = slice_index (mounts (base ∷ bases))
    (chosen all h (nearest_of all) (place_of present (base ∷ bases))) in
    some_within h mount present (changed present (Some mount)) report (base ∷ bases) refl
    ((choice_is_of present report (base ∷ bases) h mount).1 refl) count below

follows_within : (count : ℕ) (terms : Terms) (present : Option ℕ) (told : List Position)
    → AreWithin count terms.bases → IsWithin count (follows terms present told)
follows_within count terms present [] below = tt
follows_within count terms present (report ∷ later) below =
    looks_within count terms.bases []
    (λ held. joins terms.filter (changed present (chooses terms.hysteresis present report held))
    (follows terms (chooses terms.hysteresis present report held) later)) below (All-nil (IsBelow count))
    (λ held these. joins_within count terms.filter (changed present (chooses terms.hysteresis present report held)) _
    (choice_below count terms.hysteresis present report held these)
    (follows_within count terms (chooses terms.hysteresis present report held) later below))

each_within : (count filter : ℕ) (bases : List Base) → AreWithin count bases
    → IsWithin count (joins_each filter bases)
each_within count filter [] below = tt
each_within count filter (base ∷ bases) below = (
  All-head (IsBelow count) base bases below,
  λ answer. each_within count filter bases (All-tail (IsBelow count) base bases below),
)

by_within : (count : ℕ) (near : Bool) (terms : Terms) (told : List Position) → AreWithin count terms.bases
    → IsWithin count (plan_by near terms told)
by_within count false terms told below = each_within count terms.filter terms.bases below
by_within count true terms told below = follows_within count terms None told below

entered_within : (count : ℕ) (let_in : Bool) (plan : Plan) → IsWithin count plan
    → IsWithin count (if_entered let_in plan)
entered_within count true plan within = within
entered_within count false plan within = tt

-- each base is a mountpoint
base_below : (c : Config) (n : ℕ) (mount : Option Mount) → slice_get c.mount n ≡ mount
    → AreWithin (length c.mount) (base_at n mount)
base_below c n None here = All-nil (IsBelow (length c.mount))
base_below c n (Some mount) here =
    All-cons (IsBelow (length c.mount)) _ [] (slice_get_within c.mount n mount here)
    (All-nil (IsBelow (length c.mount)))

pub bases_below : (c : Config) (numbers : List ℕ) → AreWithin (length c.mount) (bases_at c numbers)
bases_below c [] = All-nil (IsBelow (length c.mount))
bases_below c (n ∷ more) =
    All-append (IsBelow (length c.mount)) (base_at n (slice_get c.mount n)) (bases_at c more)
    (base_below c n (slice_get c.mount n) refl) (bases_below c more)

-- ---- what is owed for bytes, and at the end

abbrev pub IsFed : Config → Judged → Type 0
IsFed c waiting = ⊤
IsFed c (finished reply end) = ⊤
IsFed c (source terms body) = terms.mount < length c.mount
IsFed c (rover terms tail) = ⊤

pub plan_within : (c : Config) (j : Judged) → IsFed c j → IsWithin (length c.mount) (plan_of c j)
plan_within c waiting fed = tt
plan_within c (finished reply end) fed = tt
plan_within c (source terms body) fed =
    (fed, claim_within (length c.mount) terms.mount (frames_of terms.chunked body) fed)
plan_within c (rover terms tail) fed = (
  tt,
  λ answer. entered_within (length c.mount) (is_let_in answer) _
      (by_within (length c.mount) terms.admission.near (terms_of c terms.admission)
      (option_to_list terms.first ++ reports tail) (bases_below c terms.admission.bases)),
)

pub closing_within : (c : Config) (j : Judged) (by : Option Answer) (segments : List Segment) → IsFed c j
    → IsWithin (length c.mount) (closing_by (came_by j by) segments)
closing_within c j by segments fed =
    came_parts (λ came. IsWithin (length c.mount) (closing_by came segments)) j by tt (λ reply end. tt)
    (λ terms body claim is given. (subst (IsFed c) is fed, λ answer. tt))
    (λ terms tail is entered. (tt, λ answer. tt))

pub left_within : (count : ℕ) (plan : Plan) (steps : List Step) → IsWithin count plan
    → IsWithin count (left plan steps)
left_within count done steps within = tt
left_within count (asks ask next) [] within = within
left_within count (asks ask next) (step ∷ steps) within =
    left_within count (next (answer_of step)) steps (within.1 (answer_of step))

-- ---- what a connection is fed to

source_fed : (c : Config) (version : Option Version) (chunked : Bool) (body : List ℕ) (r : Result ℕ SourceDenial)
    → ((k : ℕ) → r ≡ Ok k → k < length c.mount) → IsFed c (source_judged version chunked body r)
source_fed c version chunked body (Ok mount) below = below mount refl
source_fed c version chunked body (Err sources.NoMount) below = tt
source_fed c version chunked body (Err sources.Password) below = tt

rover_fed : (c : Config) (version : Option Version) (first : Option Position) (tail : List ℕ)
    (r : Result Admission Denial) → IsFed c (rover_judged version first tail r)
rover_fed c version first tail (Ok a) = tt
rover_fed c version first tail (Err denials.NoMount) = tt
rover_fed c version first tail (Err denials.NoAccount) = tt
rover_fed c version first tail (Err (denials.Password account)) = tt
rover_fed c version first tail (Err (denials.Group group)) = tt

request_fed : (c : Config) (body : List ℕ) (r : Result Request HeadFault) → IsFed c (request_judged c body r)
request_fed c body (Err heads.Bad) = tt
request_fed c body (Err heads.Method) = tt
request_fed c body (Err heads.Coding) = tt
request_fed c body (Ok (requests.Table version)) = tt
request_fed c body (Ok (requests.Rover version mount auth first)) =
    rover_fed c (Some version) first body (admission c auth mount)
request_fed c body (Ok (requests.Source version mount password chunked)) =
    source_fed c (Some version) chunked body (source_admission c mount password)
    (λ k is. source_is c mount password k is)

once_fed : (c : Config) (b : Bool) (j : Judged) → IsFed c j → IsFed c (once b j)
once_fed c true j fed = fed
once_fed c false j fed = tt

heading_fed : (c : Config) (h : Heading) (text : List ℕ) → IsFed c (heading_judged c h text)
heading_fed c incomplete text = tt
heading_fed c too_long text = once_fed c (nat_le 8192 (length text)) _ tt
heading_fed c (whole at answer) text =
    once_fed c (nat_le at (length text)) (request_judged c (drop at text) answer)
    (request_fed c (drop at text) answer)
heading_fed c (answered at said) text = tt

-- a relay feeds a mountpoint
fed_by : (c : Config) (cap n : ℕ) (relay : Option Relay) → KeepsRules cap c → slice_get c.relay n ≡ relay
    → mount_fed relay < length c.mount
fed_by c cap n None kept here = omega (arith, kept.some_mounts)
fed_by c cap n (Some relay) kept here =
    (at_place (KeepsRelay (length c.mount)) c.relay n relay kept.relay here).mount

said_fed : (c : Config) (mount : ℕ) (body : List ℕ) (said : Said) → mount < length c.mount
    → IsFed c (said_judged mount body said)
said_fed c mount body (Ok chunked) below = below
said_fed c mount body (Err refusal) below = tt

relay_fed : (c : Config) (mount : ℕ) (h : Heading) (text : List ℕ) → mount < length c.mount
    → IsFed c (relay_judged mount h text)
relay_fed c mount incomplete text below = tt
relay_fed c mount too_long text below = once_fed c (nat_le 8192 (length text)) _ tt
relay_fed c mount (whole at answer) text below = tt
relay_fed c mount (answered at said) text below =
    once_fed c (nat_le at (length text)) (said_judged mount (drop at text) said)
    (said_fed c mount (drop at text) said below)

-- and a bare source one of its name
place_below : {X : Type 0} (p : X → Bool) (xs : List X) (from at : ℕ) → position_from p from xs ≡ Some at
    → at < from + length xs
place_below p [] from at is = absurd cc
place_below p (x ∷ xs) from at is = place_if (p x) is (place_below p xs (from + 1) at)
  where
    place_if : (b : Bool) → cond b (Some from) (position_from p (from + 1) xs) ≡ Some at
        → (position_from p (from + 1) xs ≡ Some at → at < from + 1 + length xs) → at < from + suc (length xs)
    place_if true is later = let same : from ≡ at = cc in omega (arith, same)
    place_if false is later = omega (arith, later is)

named_below : (c : Config) (mount : List ℕ) (place : Option ℕ) (k : ℕ)
    → names.place_of (names.mount_names c.mount) mount ≡ place → named place ≡ Ok k → k < length c.mount
named_below c mount None k at is = absurd cc
named_below c mount (Some n) k at is =
    let within : n < length (names.mount_names c.mount) =
    omega (arith, place_below (λ n. bytes_eq n mount) (names.mount_names c.mount) 0 n at) in
    let same : n ≡ k = cc in
    subst (λ (i : ℕ). i < length c.mount) same
    (omega (arith, within, length-map c.mount (λ (m : Mount). m.name)))

pub judged_fed : (c : Config) (cap : ℕ) (o : Opening) (h : Heading) (text : List ℕ) → KeepsRules cap c
    → IsFed c (judged c o h text)
judged_fed c cap sends_head h text kept = heading_fed c h text
judged_fed c cap (relays n) h text kept =
    relay_fed c (mount_fed (slice_get c.relay n)) h text (fed_by c cap n (slice_get c.relay n) kept refl)
judged_fed c cap (bare_source mount) h text kept =
    source_fed c None false text (bare_admission c mount)
    (λ k is. named_below c mount (names.place_of (names.mount_names c.mount) mount) k refl is)
judged_fed c cap (bare_rover mount) h text kept = rover_fed c None None text (admission c auths.None mount)
