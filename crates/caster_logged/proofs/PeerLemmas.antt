-- A session that was recorded over a door is one over the links that it logs.
use Rattle.std.proofs.Common.{◌≡◌, ℕ, ◌+◌, IsTrue, List, [], ◌∷◌, ◌++◌, length, map, Some, refl, ap, sym, subst, ◌∙◌}
use Rattle.std.proofs.lemmas.List.{length-map}
use Rattle.std.specs.List.{list_any}
use Rattle.cast_io.specs.declared.steps.Step.{Step}
use Rattle.cast_io.specs.declared.steps.Asked.TheVariants as asked
use Rattle.cast_io.specs.Doors.{IsNewDoor}
use Rattle.cast_io.specs.Links.{bytes_in, is_failure}
use Rattle.cast_io.specs.Logged.{LinkLog, DoorLog, StreetLog, link_logged, door_logged, street_logged}
use Rattle.cast_io.specs.Told.{LinkTold, DoorTold, Grew}
use Rattle.cast_config.specs.declared.config.Config.{Config}
use Rattle.session_script.specs.declared.Event.{Event}
use Rattle.run_promise.specs.Promised.{IsPromised}
use Rattle.caster_record.specs.Arriving.{HaveCome, HasTakenBack}
use Rattle.caster_record.specs.Moves.{Move, brought_in, taken_in}
use Rattle.caster_record.specs.Peers as told
use Rattle.caster_record.specs.Recorded.{IsAtEnd}
use Rattle.caster_record.specs.Rounds.{AreRounds, moves_of}
use Rattle.caster_replay.specs.Sends.{told_sent}
use Rattle.caster_top.specs.Recording.{HasRecorded}
use Rattle.caster_logged.specs.Peers.{IsPeer, ArePeers, HasRecordedAll}
use Rattle.caster_logged.proofs.LogLemmas.{cons_head, cons_tail, door_back, door_is, grew_by, link_back, link_is, map_grew, map_same, some_is}

peer_logged : (k : ℕ) (moves : List Move) (script : List Event) (sent : List ℕ) (link : LinkLog)
    → ((k : ℕ) → brought_in k script ≡ bytes_in (taken_in k moves)) → told.IsPeer k moves sent (link_logged link)
    → IsPeer k moves script sent link
peer_logged k moves script sent link brought is =
    let taken : link.taken ≡ taken_in k moves = is.taken link.taken refl in
    let bytes = is.bytes link.bytes refl in
    record {
      taken = taken;
      brought = brought k ∙ ap bytes_in (sym taken);
      rest = bytes.0;
      bytes = bytes.1;
      whole = bytes.2;
      faults = λ failed. is.faults (subst (λ (t : List Step). IsTrue (list_any is_failure t)) taken failed);
    }

peers_logged : (k : ℕ) (moves : List Move) (script : List Event) (sent : ℕ → List ℕ) (links : List LinkLog)
    → ((k : ℕ) → brought_in k script ≡ bytes_in (taken_in k moves))
    → told.ArePeers k moves sent (map link_logged links) → ArePeers k moves script sent links
peers_logged k moves script sent [] brought are = tt
peers_logged k moves script sent (link ∷ links) brought are =
    (peer_logged k moves script (sent k) link brought are.0, peers_logged (k + 1) moves script sent links brought are.1)

-- the one door that came back
one_door : (last : DoorTold) (doors : List DoorLog) → last ∷ [] ≡ map door_logged doors
    → (door : DoorLog) × (doors ≡ door ∷ []) × (last ≡ door_logged door)
one_door last [] same = absurd cc
one_door last (door ∷ []) same = (door, refl, cons_head last (door_logged door) [] [] same)
one_door last (door ∷ (another ∷ doors)) same =
    absurd (let e = cons_tail last (door_logged door) [] (door_logged another ∷ map door_logged doors) same in cc)

-- the links that came back to a door that was new
links_back : (first now last : DoorTold) (door : DoorLog) (links : List LinkTold) → last ≡ door_logged door
    → IsNewDoor first → HaveCome first now [] links → HasTakenBack links now last
    → links ≡ map link_logged door.back
links_back first now last door links is fresh come back =
    let told : last.back ≡ Some (map link_logged door.back) = ap (λ (d : DoorTold). d.back) is in
    let from = back.back (map link_logged door.back) told in
    let none : from.0 ≡ [] = fresh.back from.0 (sym come.back ∙ from.1) in
    sym (from.2 ∙ ap (λ (l : List LinkTold). l ++ links) none)

pub recorded_logged : (c : Config) (addr : List ℕ) (limit : ℕ) (old new : StreetLog) (script : List Event)
    (recorded : HasRecorded c addr limit (street_logged old) (street_logged new) script)
    → IsPromised c script recorded.session.report → HasRecordedAll c addr limit old new script
recorded_logged c addr limit old new script recorded promised =
    let street = recorded.street in
    let session = recorded.session in
    let is = session.recorded in
    let doors = map_grew door_logged door_back door_is old.doors new.doors (recorded.last ∷ [])
    (subst (λ d. Grew d (Some (map door_logged new.doors)) (recorded.last ∷ [])) street.asked.doors
    street.shut.doors) in
    let one = one_door recorded.last doors.0 doors.2 in
    let door = one.0 in
    let links = links_back recorded.first session.now recorded.last door session.links one.2 street.fresh session.come
    session.back in
    let count : length session.links ≡ length door.back =
    ap (λ (l : List LinkTold). length l) links ∙ length-map door.back link_logged in
    record {
      door = door;
      asked = grew_by old.asked new.asked (asked.Open addr 1 ∷ [])
          (subst (λ a. Grew (Some old.asked) a (asked.Open addr 1 ∷ [])) (sym street.shut.asked) street.asked.asked);
      doors = doors.1 ∙ ap (λ (l : List DoorLog). old.doors ++ l) one.1;
      links = map_same link_logged link_back link_is new.links old.links
          (some_is (map link_logged new.links) (map link_logged old.links) (street.shut.links ∙ street.asked.links));
      session = is.session;
      bound = is.bound;
      report = session.report;
      is_report = is.is_report;
      promised = promised;
      rounds = is.rounds;
      are = subst (λ (n : ℕ). AreRounds c limit is.rounds [] 0 [] n script) count is.are;
      peers = peers_logged 1 (moves_of is.rounds) script (λ n. told_sent n session.report.connections) door.back
          is.brought (subst (λ (l : List LinkTold). told.ArePeers 1 (moves_of is.rounds)
          (λ n. told_sent n session.report.connections) l) links is.peers);
      ended = subst (λ (n : ℕ). IsAtEnd c limit script n) count is.ended;
    }
