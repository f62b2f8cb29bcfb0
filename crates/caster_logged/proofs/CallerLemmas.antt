-- Callers whose doors and links are told are those of logs, where the street logs these.
use Rattle.std.proofs.Common.{◌≡◌, ℕ, ◌+◌, ◌<◌, ◌&&◌, IsTrue, List, [], ◌∷◌, ◌++◌, length, map, fold, Ok, refl, ap, sym, subst, ◌∙◌}
use Rattle.std.proofs.lemmas.List.{length-map}
use Rattle.std.specs.List.{All, flat_map, list_all}
use Rattle.cast_io.specs.declared.steps.Step.{Step}
use Rattle.cast_io.specs.Logged.{LinkLog, DoorLog, StreetLog, link_logged, door_logged, street_logged}
use Rattle.cast_io.specs.Links.{bytes_in}
use Rattle.cast_io.specs.Told.{LinkTold}
use Rattle.mount_ring.specs.declared.call.RingCall.{RingCall}
use Rattle.session_calls.specs.Rings.{history_at}
use Rattle.caster_accounts.specs.declared.account.Sum.{Sum}
use Rattle.caster_accounts.specs.Sums.{nothing}
use Rattle.caster_accounts.specs.declared.call.BookCall.{BookCall}
use Rattle.cast_config.specs.declared.config.Config.{Config}
use Rattle.session_model.specs.declared.report.Closed.{Closed}
use Rattle.session_model.specs.declared.report.Receipt.{Receipt}
use Rattle.session_model.specs.Judged.{Opening}
use Rattle.session_model.specs.Reports.{added}
use Rattle.session_model.specs.Run.{Histories, nothing_called}
use Rattle.session_core.specs.declared.held.Held.{Held}
use Rattle.caster_serve.specs.Endpoints.{EndpointTold, at_door, over_link, kind_of, doors_in, links_in}
use Rattle.caster_serve.specs.Callers.{Caller, ends_of as told_ends, is_whole}
use Rattle.caster_serve.specs.Caster.{HasServed}
use Rattle.caster_serve.specs.Works.{links_of, receipts_of, tallied}
use Rattle.serve_promise.specs.Accounts.{Bill, IsBilled, sums_by}
use Rattle.serve_promise.specs.Links.{IsLinkKept}
use Rattle.serve_promise.specs.Callers as told
use Rattle.serve_promise.specs.Callers.{CallerLinks, Served, records_of}
use Rattle.serve_promise.proofs.CallerLemmas.{all_promised}
use Rattle.caster_logged.specs.Callers.{LoggedLink, bill_of, bills_by, IsKept, AreKept, EndpointLog, door, link, end_logged, opening_at, CallerLog, caller_logged, AreLinksAt, IsCallerKept, AreCallersKept, doors_among, links_among, ends_of, HasServedAll}
use Rattle.caster_logged.proofs.LogLemmas.{grew_by, map_grew, link_back, link_is, door_back, door_is, cons_head, cons_tail}

-- ---- entries

abbrev entry_logged : LoggedLink → Served
entry_logged entry = record {
  entry = record { link = link_logged entry.link; receipt = entry.receipt };
  held = entry.held;
}

abbrev entry_of : LinkLog → Receipt → Held → LoggedLink
entry_of log receipt held = record { link = log; receipt = receipt; held = held }

abbrev served_of : LinkTold → Receipt → Held → Served
served_of told receipt held = record { entry = record { link = told; receipt = receipt }; held = held }

-- the links of these records are logged, and so are the records
entries_of : (entries : List Served) (logs : List LinkLog) → links_of (records_of entries) ≡ map link_logged logs
    → (own : List LoggedLink) × (entries ≡ map entry_logged own) × (map (λ (e : LoggedLink). e.link) own ≡ logs)
entries_of [] [] same = ([], refl, refl)
entries_of [] (log ∷ logs) same = absurd cc
entries_of (one ∷ entries) [] same = absurd cc
entries_of (one ∷ entries) (log ∷ logs) same =
    let rest = entries_of entries logs
    (cons_tail one.entry.link (link_logged log) (links_of (records_of entries)) (map link_logged logs) same) in
    let head : one.entry.link ≡ link_logged log =
    cons_head one.entry.link (link_logged log) (links_of (records_of entries)) (map link_logged logs) same in (
      entry_of log one.entry.receipt one.held ∷ rest.0,
      ap (λ told. served_of told one.entry.receipt one.held ∷ entries) head
          ∙ ap (λ more. served_of (link_logged log) one.entry.receipt one.held ∷ more) rest.1,
      ap (λ more. log ∷ more) rest.2,
    )

receipts_are : (own : List LoggedLink)
    → receipts_of (records_of (map entry_logged own)) ≡ map (λ (e : LoggedLink). e.receipt) own
receipts_are [] = refl
receipts_are (entry ∷ own) = ap (λ more. entry.receipt ∷ more) (receipts_are own)

bills_are : (own : List LoggedLink) → map told.bill_of (map entry_logged own) ≡ map bill_of own
bills_are [] = refl
bills_are (entry ∷ own) = ap (λ (more : List Bill). bill_of entry ∷ more) (bills_are own)

-- ---- what they keep

entry_kept : (c : Config) (opening : Opening) (me : ℕ) (start now histories : Histories) (entry : LoggedLink)
    → told.IsKept c opening me start now histories (entry_logged entry)
    → IsKept c opening me start now histories entry
entry_kept c opening me start now histories entry is =
    let of = is.entry in
    let taken : of.taken ≡ entry.link.taken = sym (of.taken_is entry.link.taken refl) in
    let bytes : of.written ≡ entry.link.bytes = sym (of.bytes_is entry.link.bytes refl) in
    record {
      last = of.last;
      caused = of.caused;
      refused = of.refused;
      kept = subst (λ (b : List ℕ). IsLinkKept c opening me start.rings now.rings histories.rings
          (bytes_in entry.link.taken) b of.last entry.receipt) bytes
          (subst (λ (t : List Step). IsLinkKept c opening me start.rings now.rings histories.rings (bytes_in t)
          of.written of.last entry.receipt) taken of.kept);
      billed = subst (λ (t : List Step). IsBilled c opening me (bytes_in t) start.book now.book (bill_of entry)) taken
          is.billed;
    }

in_turn : (c : Config) (opening : Opening) (me : ℕ) (histories : Histories) (own : List LoggedLink)
    (start now : Histories) → told.AreKeptInTurn c opening me histories (map entry_logged own) start now
    → AreKept c opening me histories own start now
in_turn c opening me histories [] start now is = is
in_turn c opening me histories (entry ∷ own) start now is =
    (is.0, entry_kept c opening me start is.0 histories entry is.1, in_turn c opening me histories own is.0 now is.2)

-- the links that were served over this are logged
links_at : (end : EndpointLog) (count : ℕ) (entries : List Served)
    → told.AreLinksAt (end_logged end) count (records_of entries)
    → (own : List LoggedLink) × (entries ≡ map entry_logged own) × AreLinksAt end count own
links_at (door log) count entries is =
    let all = entries_of entries log.back (sym (is.0 _ refl)) in (
      all.0,
      all.1,
      (
        sym all.2,
        sym (length-map all.0 entry_logged) ∙ ap (λ (l : List Served). length l) (sym all.1)
            ∙ sym (length-map entries (λ (one : Served). one.entry)) ∙ is.1,
      ),
    )
links_at (link number log) count entries is =
    let all = entries_of entries (log ∷ []) is in (all.0, all.1, all.2)

opening_is : (end : EndpointLog) → told.opening_at (end_logged end) ≡ opening_at end
opening_is (door log) = refl
opening_is (link number log) = refl

-- ---- whose they are

abbrev caller_of : Histories → Sum → ℕ → EndpointLog → List LoggedLink → CallerLog
caller_of seen tally served end links =
    record { seen = seen; tally = tally; served = served; end = end; links = links }

abbrev told_caller : Histories → Sum → ℕ → EndpointTold → Caller
told_caller seen tally served end = record { seen = seen; tally = tally; served = served; end = end }

-- a caller as it is logged that has these bills
record OneLogged (c : Config) (histories : Histories) (me : ℕ) (end : EndpointLog) (one : CallerLinks) : Type 0 where
  log : CallerLog
  end_is : log.end ≡ end
  caller_is : caller_logged log ≡ one.caller
  bills : bills_by log ≡ told.bills_by one
  kept : IsCallerKept c histories me log

one_logged : (c : Config) (histories : Histories) (me : ℕ) (end : EndpointLog) (one : CallerLinks)
    → one.caller.end ≡ end_logged end → told.IsCallerKept c histories me one → OneLogged c histories me end one
one_logged c histories me end one same is =
    let caller = one.caller in
    let all = links_at end caller.served one.links
    (subst (λ (e : EndpointTold). told.AreLinksAt e caller.served (records_of one.links)) same is.links_are) in
    let turns = subst (λ (o : Opening). told.AreKeptInTurn c o me histories one.links (nothing_called c) caller.seen)
    (ap told.opening_at same ∙ opening_is end) is.in_turn in
    let own = subst (λ (l : List Served). told.AreKeptInTurn c (opening_at end) me histories l (nothing_called c)
    caller.seen) all.1 turns in
    record {
      log = caller_of caller.seen caller.tally caller.served end all.0;
      end_is = refl;
      caller_is = ap (told_caller caller.seen caller.tally caller.served) (sym same);
      bills = sym (bills_are all.0) ∙ ap (map told.bill_of) (sym all.1);
      kept = record {
        links_are = all.2;
        in_turn = in_turn c (opening_at end) me histories all.0 (nothing_called c) caller.seen own;
        nothing_else = is.nothing_else;
        nothing_booked = is.nothing_booked;
        tally = is.tally ∙ ap (λ (l : List Served). fold tallied nothing (receipts_of (records_of l))) all.1
            ∙ ap (λ (l : List Receipt). fold tallied nothing l) (receipts_are all.0);
      };
    }

abbrev told_of : List CallerLinks → List EndpointTold
told_of all = map (λ (one : CallerLinks). one.caller.end) all

-- callers over these doors and links are logged
record AreLogged (c : Config) (histories : Histories) (n : ℕ) (all : List CallerLinks) (doors : List DoorLog)
    (links : List LinkLog) : Type 0 where
  list : List CallerLog
  callers : map caller_logged list ≡ map told.caller_in all
  doors_are : doors_among (ends_of list) ≡ doors
  links_are : links_among (ends_of list) ≡ links
  bills : flat_map bills_by list ≡ flat_map told.bills_by all
  kept : AreCallersKept c histories n list

one_more : (c : Config) (histories : Histories) (n : ℕ) (end : EndpointLog) (one : CallerLinks) (all : List CallerLinks)
    (doors more_doors : List DoorLog) (links more_links : List LinkLog) → OneLogged c histories n end one
    → AreLogged c histories (n + 1) all doors links
    → ((ends : List EndpointLog) → doors_among ends ≡ doors → doors_among (end ∷ ends) ≡ more_doors)
    → ((ends : List EndpointLog) → links_among ends ≡ links → links_among (end ∷ ends) ≡ more_links)
    → AreLogged c histories n (one ∷ all) more_doors more_links
one_more c histories n end one all doors more_doors links more_links is rest with_doors with_links = record {
  list = is.log ∷ rest.list;
  callers = ap (λ (x : Caller). x ∷ map caller_logged rest.list) is.caller_is
      ∙ ap (λ (l : List Caller). one.caller ∷ l) rest.callers;
  doors_are = ap (λ (e : EndpointLog). doors_among (e ∷ ends_of rest.list)) is.end_is
      ∙ with_doors (ends_of rest.list) rest.doors_are;
  links_are = ap (λ (e : EndpointLog). links_among (e ∷ ends_of rest.list)) is.end_is
      ∙ with_links (ends_of rest.list) rest.links_are;
  bills = ap (λ (l : List Bill). l ++ flat_map bills_by rest.list) is.bills
      ∙ ap (λ (l : List Bill). told.bills_by one ++ l) rest.bills;
  kept = (is.kept, rest.kept);
}

-- what follows is logged, whatever its doors and links are
abbrev Follow : Config → Histories → ℕ → List CallerLinks → Type 0
Follow c histories n all = (doors : List DoorLog) (links : List LinkLog) → told.AreCallersKept c histories n all
    → doors_in (told_of all) ≡ map door_logged doors → links_in (told_of all) ≡ map link_logged links
    → AreLogged c histories n all doors links

logged_over : (c : Config) (histories : Histories) (n : ℕ) (one : CallerLinks) (end : EndpointTold)
    (all : List CallerLinks) → one.caller.end ≡ end → Follow c histories (n + 1) all
    → (doors : List DoorLog) (links : List LinkLog) → told.AreCallersKept c histories n (one ∷ all)
    → doors_in (end ∷ told_of all) ≡ map door_logged doors → links_in (end ∷ told_of all) ≡ map link_logged links
    → AreLogged c histories n (one ∷ all) doors links
logged_over c histories n one (at_door told_door) all same follow [] links kept d l = absurd cc
logged_over c histories n one (at_door told_door) all same follow (log ∷ doors) links kept d l =
    let rest = follow doors links kept.1
    (cons_tail told_door (door_logged log) (doors_in (told_of all)) (map door_logged doors) d) l in
    let head = cons_head told_door (door_logged log) (doors_in (told_of all)) (map door_logged doors) d in
    one_more c histories n (door log) one all doors (log ∷ doors) links links
    (one_logged c histories n (door log) one (same ∙ ap at_door head) kept.0) rest
    (λ ends is. ap (λ (more : List DoorLog). log ∷ more) is) (λ ends is. is)
logged_over c histories n one (over_link number told_link) all same follow doors [] kept d l = absurd cc
logged_over c histories n one (over_link number told_link) all same follow doors (log ∷ links) kept d l =
    let rest = follow doors links kept.1 d
    (cons_tail told_link (link_logged log) (links_in (told_of all)) (map link_logged links) l) in
    let head = cons_head told_link (link_logged log) (links_in (told_of all)) (map link_logged links) l in
    one_more c histories n (link number log) one all doors doors links (log ∷ links)
    (one_logged c histories n (link number log) one (same ∙ ap (over_link number) head) kept.0) rest
    (λ ends is. is) (λ ends is. ap (λ (more : List LinkLog). log ∷ more) is)

are_logged : (c : Config) (histories : Histories) (n : ℕ) (all : List CallerLinks) → Follow c histories n all
are_logged c histories n [] [] [] kept d l = record {
  list = [];
  callers = refl;
  doors_are = refl;
  links_are = refl;
  bills = refl;
  kept = tt;
}
are_logged c histories n [] (one ∷ doors) links kept d l = absurd cc
are_logged c histories n [] [] (one ∷ links) kept d l = absurd cc
are_logged c histories n (one ∷ all) doors links kept d l =
    logged_over c histories n one one.caller.end all refl (are_logged c histories (n + 1) all) doors links kept d l

-- ---- the whole

kinds_of : (own : List CallerLog)
    → map kind_of (told_ends (map caller_logged own)) ≡ map (λ (end : EndpointLog). kind_of (end_logged end)) (ends_of own)
kinds_of [] = refl
kinds_of (caller ∷ own) = ap (λ more. kind_of (end_logged caller.end) ∷ more) (kinds_of own)

whole_of : (limit : ℕ) (own : List CallerLog) → list_all (is_whole limit) (map caller_logged own)
    ≡ list_all (λ (caller : CallerLog). is_whole limit (caller_logged caller)) own
whole_of limit [] = refl
whole_of limit (caller ∷ own) = ap (λ more. is_whole limit (caller_logged caller) && more) (whole_of limit own)

tallies_of : (own : List CallerLog) → map (λ (caller : Caller). caller.tally) (map caller_logged own)
    ≡ map (λ (caller : CallerLog). caller.tally) own
tallies_of [] = refl
tallies_of (caller ∷ own) = ap (λ more. caller.tally ∷ more) (tallies_of own)

ends_told : (all : List CallerLinks) → told_ends (map told.caller_in all) ≡ told_of all
ends_told [] = refl
ends_told (one ∷ all) = ap (λ (more : List EndpointTold). one.caller.end ∷ more) (ends_told all)

pub served_logged : (c : Config) (addr : List ℕ) (limit : ℕ) (old new : StreetLog) (closed : Closed)
    → HasServed c addr limit (street_logged old) (street_logged new) (Ok closed)
    → HasServedAll c addr limit old new closed
served_logged c addr limit old new closed served =
    let is = all_promised c addr limit (street_logged old) (street_logged new) closed served in
    let kept = is.kept in
    let doors = map_grew door_logged door_back door_is old.doors new.doors (doors_in (told_ends is.callers))
    kept.given_back.doors in
    let links = map_grew link_logged link_back link_is old.links new.links (links_in (told_ends is.callers))
    kept.given_back.links in
    let ends : told_of kept.all ≡ told_ends is.callers =
    sym (ends_told kept.all) ∙ ap told_ends kept.callers_are in
    let all = are_logged c is.histories 0 kept.all doors.0 links.0 kept.kept
    (ap doors_in ends ∙ doors.2) (ap links_in ends ∙ links.2) in
    let own = all.list in
    let same : is.callers ≡ map caller_logged own = sym kept.callers_are ∙ sym all.callers in
    let count : length is.callers ≡ length own =
    ap (λ (l : List Caller). length l) same ∙ length-map own caller_logged in
    record {
      asked = grew_by old.asked new.asked _ served.answered.asked;
      callers = own;
      kinds_are = sym (kinds_of own) ∙ ap (λ (l : List Caller). map kind_of (told_ends l)) (sym same)
          ∙ kept.kinds_are;
      doors = doors.1 ∙ ap (λ (l : List DoorLog). old.doors ++ l) (sym all.doors_are);
      links = links.1 ∙ ap (λ (l : List LinkLog). old.links ++ l) (sym all.links_are);
      histories = is.histories;
      one_each = kept.one_each;
      frames = kept.frames;
      kept = all.kept;
      nothing_else = subst (λ (n : ℕ). (mount : ℕ) → All (λ (entry : ℕ × RingCall). entry.0 < n)
          (history_at is.histories.rings mount)) count kept.nothing_else;
      book_callers = subst (λ (n : ℕ). All (λ (entry : ℕ × BookCall). entry.0 < n) is.histories.book) count
          kept.book_callers;
      capped = kept.capped;
      whole = subst IsTrue (ap (list_all (is_whole limit)) same ∙ whole_of limit own) is.whole;
      closed_is = is.closed_is;
      accounts = is.accounts ∙ ap (λ (l : List Bill). sums_by 1 l c.account) (sym all.bills);
      total = is.total ∙ ap (λ (l : List Caller). added nothing (map (λ (caller : Caller). caller.tally) l)) same
          ∙ ap (added nothing) (tallies_of own);
      served = served;
    }
