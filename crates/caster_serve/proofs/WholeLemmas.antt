-- A whole caster, from what it asked to its closing.
use Rattle.std.proofs.Common.{◌≡◌, ◌∙◌, ◌+◌, ◌<◌, ◌≤◌, ◌^◌, ℕ, zero, suc, List, [], ◌∷◌, length, map, take, replicate, inl, inr, refl, sym, ap, subst, arith, Ok, Err}
use Rattle.std.specs.Prelude.{Bool, false, IsTrue, Option, Result}
use Rattle.std.specs.List.{All, list_any}
use Rattle.std.proofs.lemmas.List.{length-map, take_all, length-append}
use Rattle.std.proofs.lemmas.List.Elements.{All-nil}
use Rattle.turn_log.specs.History.{IsLegal}
use Rattle.turn_log.specs.Lock.{turn_value}
use Rattle.mount_ring.specs.Kept.{ring_shape}
use Rattle.cast_io.specs.Causes.{Rose}
use Rattle.cast_io.specs.Told.{LinkTold, DoorTold, StreetTold, Grew}
use Rattle.cast_io.proofs.ToldLemmas.{grew_none}
use Rattle.caster_accounts.specs.History.{fits}
use Rattle.caster_accounts.specs.Sums.{nothing}
use Rattle.cast_config.specs.declared.config.Config.{Config}
use Rattle.cast_config.specs.declared.config.Relay.{Relay}
use Rattle.cast_config.specs.Kept.{KeepsRules}
use Rattle.cast_config.proofs.KeptLemmas.{within}
use Rattle.session_model.specs.declared.report.Closed.{Closed}
use Rattle.session_model.specs.Run.{Histories}
use Rattle.session_model.specs.Reports.{added, closed_of}
use Rattle.session_model.specs.Setting.{caps}
use Rattle.session_core.proofs.HeldLemmas.{length_shapes}
use Rattle.caster_serve.specs.Endpoints.{EndpointTold, HasAsked, HasTakenBack, IsUnused, a_worker, asked_of, doors_in, links_in, door_failed, kind_of, kinds, relays_from}
use Rattle.caster_places.specs.declared.pass_piles.PassPiles.{PassPiles}
use Rattle.caster_places.specs.Rows.{AreWhole, AreWornWithin, ArePiles, left_by}
use Rattle.caster_seats.specs.declared.shared.Shared.{Shared}
use Rattle.caster_serve.specs.declared.whole.ServeFault.{ServeFault}
use Rattle.caster_serve.specs.declared.whole.ServeFault.TheVariants as faults
use Rattle.caster_seats.specs.Sharing.{IsReady}
use Rattle.caster_serve.specs.Callers.{Caller, calls_in, ends_of, seen_of}
use Rattle.caster_serve.specs.Serving.{HaveCalled}
use Rattle.caster_serve.specs.Caster.{HasGivenBack, AllServed, NoneServed, ClosedWhole, EndedEarly, Ended, Refused, HasServed}
use Rattle.cast_io.proofs.ToldLemmas.{rose_since}
use Rattle.caster_serve.proofs.CallersLemmas.{some_failed, tallies_are}

-- ---- how many callers there are

pub length_relays : (n : ℕ) (relays : List Relay) → length (relays_from n relays) ≡ length relays
length_relays n [] = refl
length_relays n (relay ∷ relays) = ap suc (length_relays (n + 1) relays)

length_workers : (n : ℕ) → length (replicate n a_worker) ≡ n
length_workers zero = refl
length_workers (suc n) = ap suc (length_workers n)

length_kinds : (c : Config) → length (kinds c) ≡ c.workers + length c.relay
length_kinds c =
    omega (
      arith,
      length-append (replicate c.workers a_worker) (relays_from 0 c.relay),
      length_workers c.workers,
      length_relays 0 c.relay,
    )

-- as many as there are doors and links
pub as_many_ends : {E : Type 0} (c : Config) (tell : E → EndpointTold) (ends : List E)
    → map kind_of (map tell ends) ≡ kinds c → length ends ≡ c.workers + length c.relay
as_many_ends c tell ends kinds_are =
    omega (arith, length-map (map tell ends) kind_of, length-map ends tell, ap length kinds_are, length_kinds c)

-- ---- what comes back

given_back : (ends : List EndpointTold) (old new : StreetTold) → HasTakenBack ends old new → HasGivenBack ends old new
given_back ends old new back = record { doors = back.doors; links = back.links }

-- it was all asked before
pub since : (ends : List EndpointTold) (old mid new : StreetTold) → mid.doors ≡ old.doors → mid.links ≡ old.links
    → HasGivenBack ends mid new → HasGivenBack ends old new
since ends old mid new doors links back = record {
  doors = subst (λ (told : Option (List DoorTold)). Grew told new.doors (doors_in ends)) doors back.doors;
  links = subst (λ (told : Option (List LinkTold)). Grew told new.links (links_in ends)) links back.links;
}

-- ---- the callers served

all_served : (shared : Shared) (limit : ℕ) (old new : StreetTold) (ends : List EndpointTold) (piles : PassPiles) (whole : Bool)
    (histories : Histories) (called : HaveCalled shared limit ends piles whole)
    → AreWhole (seen_of called.callers) histories (length shared.config.now.mount)
    → AreWornWithin (map length histories.rings) (length histories.book) piles → HasTakenBack ends old new
    → AllServed shared.config.now limit old new called.callers histories
all_served shared limit old new ends piles whole histories called is within back = record {
  kinds_are = ap (map kind_of) (sym called.ends_are) ∙ called.kinds_are;
  served = called.served (map length histories.rings) (length histories.book) within;
  given_back = subst (λ (list : List EndpointTold). HasGivenBack list old new) called.ends_are
      (given_back ends old new back);
  whole = is;
}

-- what closing the locks says
abbrev pub Closes : Shared → PassPiles → Closed → Type 0
Closes shared piles closed = (rows : List Histories) → ArePiles rows piles shared.rings.items shared.book
    → All (λ (row : Histories). IsLegal (fits (caps shared.config.now)) row.book) rows
    → (whole : Histories) × AreWhole rows whole (length shared.config.now.mount)
    × (closed ≡ closed_of shared.config.now whole) × (closed.total ≡ added nothing (left_by 0 rows))
    × AreWornWithin (map length whole.rings) (length whole.book) piles

pub closed_whole : (shared : Shared) (limit : ℕ) (old new : StreetTold) (ends : List EndpointTold) (piles : PassPiles)
    (whole : Bool) (closed : Closed) → HaveCalled shared limit ends piles whole → Closes shared piles closed
    → HasTakenBack ends old new → IsTrue whole → ClosedWhole shared.config.now limit old new closed
closed_whole shared limit old new ends piles whole closed called closes back all =
    let is = closes (seen_of called.callers) called.piles_are called.legal in record {
      callers = called.callers;
      histories = is.0;
      all = all_served shared limit old new ends piles whole is.0 called is.1 is.4 back;
      whole = sym called.whole_is ∙ all;
      closed_is = is.2;
      total = is.3 ∙ ap (added nothing) (tallies_are shared.config.now limit (calls_in is.0) 0 called.callers
          (called.served (map length is.0.rings) (length is.0.book) is.4));
    }

pub ended_early : (shared : Shared) (limit : ℕ) (old new : StreetTold) (ends : List EndpointTold) (piles : PassPiles)
    (whole : Bool) (closed : Closed) → HaveCalled shared limit ends piles whole → Closes shared piles closed
    → HasTakenBack ends old new → whole ≡ false → EndedEarly shared.config.now limit old new
ended_early shared limit old new ends piles whole closed called closes back short =
    let is = closes (seen_of called.callers) called.piles_are called.legal in record {
      callers = called.callers;
      histories = is.0;
      all = all_served shared limit old new ends piles whole is.0 called is.1 is.4 back;
      rose = back.rose (subst (λ (list : List EndpointTold). IsTrue (list_any door_failed list)) (sym called.ends_are)
          (some_failed shared.config.now limit (calls_in is.0) 0 called.callers
          (called.served (map length is.0.rings) (length is.0.book) is.4) (sym called.whole_is ∙ short)));
    }

pub none_served : (ends : List EndpointTold) (old new : StreetTold) → All IsUnused ends → HasTakenBack ends old new
    → NoneServed old new
none_served ends old new unused back = record {
  ends = ends;
  unused = unused;
  given_back =
      given_back ends old new back;
}

-- ---- the whole of it

rose_on : (a b c : ℕ) → Rose a b → b ≤ c → Rose a c
rose_on a b c rose later = omega (arith, later, rose)

none_since : (old mid new : StreetTold) → mid.doors ≡ old.doors → mid.links ≡ old.links → NoneServed mid new
    → NoneServed old new
none_since old mid new doors links none = record {
  ends = none.ends;
  unused = none.unused;
  given_back = since none.ends old mid new doors links none.given_back;
}

all_since : (c : Config) (limit : ℕ) (old mid new : StreetTold) (callers : List Caller) (histories : Histories)
    → mid.doors ≡ old.doors → mid.links ≡ old.links → AllServed c limit mid new callers histories
    → AllServed c limit old new callers histories
all_since c limit old mid new callers histories doors links all = record {
  kinds_are = all.kinds_are;
  served = all.served;
  given_back = since (ends_of callers) old mid new doors links all.given_back;
  whole = all.whole;
}

-- what was asked first, and then nothing
asked_first : (wanted : List _) (old mid new : StreetTold) → HasAsked wanted old mid → new.asked ≡ mid.asked
    → Grew old.asked new.asked wanted
asked_first wanted old mid new first same = subst (λ told. Grew old.asked told wanted) (sym same) first.asked

-- nobody served
pub refused : (c : Config) (addr : List ℕ) (n : ℕ) (ends : List EndpointTold) (old mid new : StreetTold)
    → HasAsked (take n (asked_of c addr)) old mid → All IsUnused ends → HasTakenBack ends mid new
    → Refused c addr old new
refused c addr n ends old mid new first unused back = record {
  n = n;
  asked = asked_first (take n (asked_of c addr)) old mid new first back.asked;
  none = none_since old mid new first.doors first.links (none_served ends mid new unused back);
}

pub refused_network : (c : Config) (addr : List ℕ) (limit n : ℕ) (ends : List EndpointTold) (old mid new : StreetTold)
    → HasAsked (take n (asked_of c addr)) old mid → Rose old.faults mid.faults → All IsUnused ends
    → HasTakenBack ends mid new → HasServed c addr limit old new (Err faults.Network)
refused_network c addr limit n ends old mid new first rose unused back = record {
  later = omega (arith, first.later, back.later);
  answered = inr (
    refused c addr n ends old mid new first unused back,
    rose_on old.faults mid.faults new.faults rose
        back.later,
  );
}

pub refused_memory : (c : Config) (addr : List ℕ) (limit n : ℕ) (ends : List EndpointTold) (old mid new : StreetTold)
    → HasAsked (take n (asked_of c addr)) old mid → All IsUnused ends → HasTakenBack ends mid new
    → HasServed c addr limit old new (Err faults.Memory)
refused_memory c addr limit n ends old mid new first unused back = record {
  later = omega (arith, first.later, back.later);
  answered = refused c addr n ends old mid new first unused back;
}

-- nothing was asked
pub refused_at_once : (c : Config) (addr : List ℕ) (limit : ℕ) (told : StreetTold)
    → HasServed c addr limit told told (Err faults.Memory)
refused_at_once c addr limit told = record {
  later = omega arith;
  answered = record {
    n = 0;
    asked = grew_none told.asked;
    none = record {
      ends = [];
      unused = All-nil IsUnused;
      given_back = record { doors = grew_none told.doors; links = grew_none told.links };
    };
  };
}

-- all was asked, and then it went on
pub went : (c : Config) (addr : List ℕ) (limit n : ℕ) (old mid new : StreetTold) (result : Result Closed ServeFault)
    → HasAsked (take n (asked_of c addr)) old mid → n ≡ length (asked_of c addr) → new.asked ≡ mid.asked
    → mid.faults ≤ new.faults → Ended c limit mid new result → HasServed c addr limit old new result
went c addr limit n old mid new (Ok closed) first all same later ended = record {
  later = omega (arith, first.later, later);
  answered = record {
    asked = subst (Grew old.asked new.asked) (take_all n (asked_of c addr) (omega (arith, all)))
        (asked_first (take n (asked_of c addr)) old mid new first same);
    ended = record {
      callers = ended.callers;
      histories = ended.histories;
      all = all_since c limit old mid new ended.callers ended.histories first.doors first.links ended.all;
      whole = ended.whole;
      closed_is = ended.closed_is;
      total = ended.total;
    };
  };
}
went c addr limit n old mid new (Err faults.Network) first all same later ended = record {
  later = omega (arith, first.later, later);
  answered = inl (record {
    asked = subst (Grew old.asked new.asked) (take_all n (asked_of c addr) (omega (arith, all)))
        (asked_first (take n (asked_of c addr)) old mid new first same);
    ended = record {
      callers = ended.callers;
      histories = ended.histories;
      all = all_since c limit old mid new ended.callers ended.histories first.doors first.links ended.all;
      rose = rose_since old.faults mid.faults new.faults first.later ended.rose;
    };
  });
}
went c addr limit n old mid new (Err faults.Memory) first all same later ended = record {
  later = omega (arith, first.later, later);
  answered = record {
    n = n;
    asked = asked_first (take n (asked_of c addr)) old mid new first same;
    none = none_since old mid new first.doors first.links ended;
  };
}

-- ---- what is taken before

-- empty piles are those of no callers
pub piles_empty : (shared : Shared) (piles : PassPiles) (mounts : ℕ) → IsReady shared
    → mounts ≡ length shared.config.now.mount
    → ((rings : _) (book : _) → length rings ≡ mounts → ArePiles [] piles rings book)
    → ArePiles [] piles shared.rings.items shared.book
piles_empty shared piles mounts ready many empty =
    empty shared.rings.items shared.book
    (sym (length-map shared.rings.items (λ turn. ring_shape (turn_value turn))) ∙ ap length ready.shapes_are
    ∙ length_shapes shared.config.now ∙ sym many)

-- ends that were not taken are as they were
pub unused_still : {E : Type 0} (tell : E → EndpointTold) (now before : List E) → now ≡ before
    → All IsUnused (map tell before) → All IsUnused (map tell now)
unused_still tell now before same unused = subst (λ l. All IsUnused (map tell l)) (sym same) unused

-- as many passes came back as there are ends
pub passes_are : {E : Type 0} (shared : Shared) (limit : ℕ) (tell : E → EndpointTold) (before : List E) (now : List EndpointTold)
    (piles : PassPiles) (whole : Bool) → map kind_of (map tell before) ≡ kinds shared.config.now
    → HaveCalled shared limit now piles whole → length piles.book.items ≡ length before
passes_are shared limit tell before now piles whole kinds_are called =
    omega (
      arith,
      called.passes,
      ap length called.ends_are,
      length-map called.callers (λ (caller : Caller). caller.end),
      ap length called.kinds_are,
      length-map now kind_of,
      ap length kinds_are,
      length-map (map tell before) kind_of,
      length-map before tell,
    )

pub went_as : (c d : Config) (addr : List ℕ) (limit n : ℕ) (old mid new : StreetTold)
    (result : Result Closed ServeFault)
    → d ≡ c → HasAsked (take n (asked_of c addr)) old mid → n ≡ length (asked_of c addr) → new.asked ≡ mid.asked
    → mid.faults ≤ new.faults → Ended d limit mid new result → HasServed c addr limit old new result
went_as c d addr limit n old mid new result is first all same later ended =
    went c addr limit n old mid new result first all same later
    (subst (λ (config : Config). Ended config limit mid new result) is ended)

-- one at least, and few
pub some_ends : (cap : ℕ) (c : Config) (n : ℕ) → KeepsRules cap c → n ≡ c.workers + length c.relay
    → (0 < n) × (n < 2 ^ 32)
some_ends cap c n kept is =
    let workers = within 1 256 c.workers kept.workers in
    (omega (arith, workers.0, is), omega (arith, workers.1, kept.few_relays, is))
