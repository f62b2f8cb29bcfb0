-- A whole caster that kept serving, from what it asked to its totals.
use Rattle.std.proofs.Common.{◌≡◌, ◌∙◌, ◌⊎◌, ◌+◌, ◌≤◌, ◌++◌, ℕ, zero, suc, Bool, true, false, IsTrue, List, [], ◌∷◌, length, take, map, inl, inr, refl, sym, ap, subst, arith, append-nil}
use Rattle.std.specs.Prelude.{◌||◌, Option, unwrap_or, Result, Ok, Err, IfOk, OnErr}
use Rattle.std.specs.List.{All, list_any}
use Rattle.std.proofs.lemmas.Bool.{lt-ltb}
use Rattle.std.proofs.lemmas.List.{length-map, take_all}
use Rattle.std.proofs.lemmas.List.Elements.{All-nil, All-cons, All-head, All-tail}
use lib.Seq.{take-append-add}
use Rattle.turn_log.specs.History.{IsLegal}
use Rattle.cast_io.specs.Causes.{Rose}
use Rattle.cast_io.specs.Told.{DoorTold, Grew}
use Rattle.cast_io.specs.Doors.{IsNewDoor}
use Rattle.cast_io.specs.declared.street.StreetFault.{StreetFault}
use Rattle.cast_io.specs.declared.street.StreetFault.TheVariants as refusals
use Rattle.cast_io.specs.declared.yard_asked.YardAsked.{YardAsked}
use Rattle.cast_io.specs.declared.yard_asked.YardAsked.TheVariants as asked
use Rattle.cast_io.specs.Yards.{AreNewNotes, GateTold, HasTakenNotes, NotesTold, YardTold}
use Rattle.cast_io.proofs.ToldLemmas.{grew_both, grew_none}
use Rattle.caster_accounts.specs.History.{fits}
use Rattle.cast_config.specs.declared.config.Config.{Config}
use Rattle.session_model.specs.declared.report.Closed.{Closed}
use Rattle.session_model.specs.Reports.{mount_total}
use Rattle.session_model.specs.Run.{Histories}
use Rattle.session_model.specs.Setting.{caps}
use Rattle.session_model.specs.Text.{closed_text}
use Rattle.session_model.proofs.ReportSums.{sums_long}
use Rattle.caster_press.specs.declared.press.OutputStart.{OutputStart}
use Rattle.caster_press.specs.Lines.{text_in}
use Rattle.caster_press.specs.Written.{IsWritten}
use Rattle.caster_places.specs.Piles.{AreMatched}
use Rattle.caster_places.specs.Rows.{ArePiles}
use Rattle.caster_places.specs.declared.pass_piles.PassPiles.{PassPiles}
use Rattle.caster_seats.specs.declared.shared.Shared.{Shared}
use Rattle.caster_keep.specs.declared.keeper.Keeper.{Keeper}
use Rattle.caster_keep.specs.declared.stop.Stop.{Stop}
use Rattle.caster_keep.specs.declared.stop.Stop.TheVariants as stops
use Rattle.caster_keep.specs.declared.whole.KeepFault.{KeepFault}
use Rattle.caster_keep.specs.declared.whole.KeepFault.TheVariants as faults
use Rattle.caster_keep.specs.declared.whole.Outcome.{Outcome}
use Rattle.caster_keep.specs.Gates.{HasAsked, HasTakenBack, asked_of, gate_failed, gate_told, gates_asked, gates_of, made_of, roles_of}
use Rattle.cast_console.specs.Consoles.{ConsoleTold, IsNewConsole}
use Rattle.caster_keep.specs.declared.porter.Porter.{Porter}
use Rattle.caster_keep.specs.Keepers.{HasFailed, IsWhy}
use Rattle.caster_keep.specs.Keeping.{Answered, AreKeepers, AreUnused, HasEnded, HasGivenBack, HasKept, KeeperTold, Refused, Went, first_of, first_stop, notes_told, role_of, seen_by_all, start_of, stop_of}
use Rattle.caster_keep.specs.Together.{HaveWorked, IsToldBy, fault_of, gate_at, role_at, stop_at}
use Rattle.caster_keep.proofs.GateLemmas.{made_for, none_back}
use Rattle.caster_keep.proofs.TotalLemmas.{total_is}
use Rattle.caster_serve.proofs.WholeLemmas.{Closes}

-- ---- what is told of keepers that left

module _ {G : Type 0} (told : G → DoorTold) (over : G → Bool) where
  gates_are : (tolds : List (KeeperTold G)) (keepers : List (Keeper G)) → AreMatched IsToldBy tolds keepers
      → gates_of told over keepers ≡ map (λ (keeper : KeeperTold G). gate_told told over keeper.gate) tolds
  gates_are [] [] are = refl
  gates_are [] (keeper ∷ keepers) are = absurd are
  gates_are (one ∷ tolds) [] are = absurd are
  gates_are (one ∷ tolds) (keeper ∷ keepers) are =
      ap (λ l. gate_told told over keeper.gate ∷ l) (gates_are tolds keepers are.1)
      ∙ ap (λ (g : G). gate_told told over g ∷ map (λ (k : KeeperTold G). gate_told told over k.gate) tolds) are.0.gate

  -- what the gates were made for with which keepers began
  gates_made : (origin : G → YardAsked) (tolds : List (KeeperTold G)) (keepers : List (Keeper G))
      → map first_of tolds ≡ map gate_at keepers
      → map (λ (keeper : KeeperTold G). origin keeper.first) tolds ≡ made_for origin keepers
  gates_made origin [] [] are = refl
  gates_made origin [] (keeper ∷ keepers) are = absurd cc
  gates_made origin (one ∷ tolds) [] are = absurd cc
  gates_made origin (one ∷ tolds) (keeper ∷ keepers) are =
      let first : one.first ≡ keeper.gate = cc in
      ap (λ l. origin one.first ∷ l) (gates_made origin tolds keepers cc)
      ∙ ap (λ x. origin x ∷ made_for origin keepers) first

  stops_are : (tolds : List (KeeperTold G)) (keepers : List (Keeper G)) → AreMatched IsToldBy tolds keepers
      → map stop_at keepers ≡ map stop_of tolds
  stops_are [] [] are = refl
  stops_are [] (keeper ∷ keepers) are = absurd are
  stops_are (one ∷ tolds) [] are = absurd are
  stops_are (one ∷ tolds) (keeper ∷ keepers) are =
      ap (λ l. stop_at keeper ∷ l) (stops_are tolds keepers are.1)
      ∙ ap (λ (s : Option Stop). unwrap_or s stops.Over ∷ map stop_of tolds) are.0.stop

  -- gates of which nothing was used
  pub unused_gates : (keepers : List (Keeper G)) → All (λ (keeper : Keeper G). IsNewDoor (told keeper.gate)) keepers
      → All (λ (gate : GateTold). IsNewDoor gate.door) (gates_of told over keepers)
  unused_gates [] unused = All-nil (λ (gate : GateTold). IsNewDoor gate.door)
  unused_gates (keeper ∷ keepers) unused =
      All-cons (λ (gate : GateTold). IsNewDoor gate.door) (gate_told told over keeper.gate)
      (gates_of told over keepers)
      (All-head (λ (k : Keeper G). IsNewDoor (told k.gate)) keeper keepers unused)
      (unused_gates keepers (All-tail (λ (k : Keeper G). IsNewDoor (told k.gate)) keeper keepers unused))

-- ---- where a gate failed

-- the first of these is that a gate failed, or that is the first of the others
first_failed : (stop : Stop) (more : List Stop) → first_stop (stop ∷ more) ≡ stops.Failed
    → (stop ≡ stops.Failed) ⊎ (first_stop more ≡ stops.Failed)
first_failed stops.Over more is = inr is
first_failed stops.Failed more is = inl refl

or_more : (a b : Bool) → IsTrue b → IsTrue (a || b)
or_more true b is = refl
or_more false b is = is

or_here : (a b : Bool) → IsTrue a → IsTrue (a || b)
or_here true b is = refl
or_here false b is = absurd (let clash : false ≡ true = is in cc)

module _ {G : Type 0} (told : G → DoorTold) (over : G → Bool) (peer : G → List ℕ) where
  -- a gate that failed counted that
  gate_counted : (at now : G) → HasFailed told over peer at now → IsTrue (gate_failed (gate_told told over now))
  gate_counted at now is =
      let rose : Rose (told is.asked).faults (told now).faults = is.failed.failed refl in
      lt-ltb 0 (told now).faults (omega (arith, rose))

  one_failed : (c : Config) (worn : List ℕ) (n : ℕ) (keepers : List (KeeperTold G))
      → AreKeepers told over peer c worn n keepers → first_stop (map stop_of keepers) ≡ stops.Failed
      → IsTrue (list_any gate_failed (map (λ (keeper : KeeperTold G). gate_told told over keeper.gate) keepers))
  one_failed c worn n [] are is = absurd (let clash : stops.Over ≡ stops.Failed = is in cc)
  one_failed c worn n (keeper ∷ keepers) are is =
      let here = gate_failed (gate_told told over keeper.gate) in
      let rest =
      list_any gate_failed (map (λ (k : KeeperTold G). gate_told told over k.gate) keepers) in
      elim (first_failed keeper.stop (map stop_of keepers) is) [
        | inl failed ↦
            or_here here rest (gate_counted are.0.kept.at keeper.gate
            (subst (λ (s : Stop). IsWhy told over peer s are.0.kept.at keeper.gate) failed are.0.kept.why))
        | inr more ↦ or_more here rest (one_failed c worn (n + 1) keepers are.1 more)
      ]

-- the first of some are the first of these and more
pub take_front : {X : Type 0} (n : ℕ) (xs ys : List X) → (m : ℕ) × (take m (xs ++ ys) ≡ take n xs)
take_front zero xs ys = (0, refl)
take_front (suc n) [] ys = (0, refl)
take_front (suc n) (x ∷ xs) ys = let rest = take_front n xs ys in (suc rest.0, ap (λ l. x ∷ l) rest.1)

-- nobody served, and all gates came back
pub refused : (wanted : List YardAsked) (n : ℕ) (gates : List GateTold) (notes : List NotesTold)
    (old mid new : YardTold) → Grew old.asked mid.asked (take n wanted) → mid.gates ≡ old.gates
    → mid.notes ≡ old.notes → All (λ (gate : GateTold). IsNewDoor gate.door) gates → HasTakenBack gates mid new
    → Refused wanted old new
refused wanted n gates notes old mid new asked same same_notes unused back = record {
  n = n;
  asked = subst (λ list. Grew old.asked list (take n wanted)) (sym back.asked) asked;
  gates = gates;
  unused = unused;
  notes = [];
  given_back = record {
    gates_back = subst (λ list. Grew list new.gates gates) same back.gates;
    notes_back = subst (λ list. Grew old.notes list []) (sym (back.notes ∙ same_notes)) (grew_none old.notes);
  };
  one = omega arith;
  untaken = All-nil AreNewNotes;
}

given_since : (gates : List GateTold) (notes : List NotesTold) (wanted : List YardAsked) (old mid new : YardTold)
    → HasAsked wanted old mid → HasGivenBack gates notes mid new → HasGivenBack gates notes old new
given_since gates notes wanted old mid new first back = record {
  gates_back = subst (λ list. Grew list new.gates gates) first.gates back.gates_back;
  notes_back = subst (λ list. Grew list new.notes notes) first.notes back.notes_back;
}

refused_since : (before wanted : List YardAsked) (old mid new : YardTold) → HasAsked before old mid
    → Refused wanted mid new
    → Refused (before ++ wanted) old new
refused_since before wanted old mid new first none = record {
  n = length before + none.n;
  asked = subst (Grew old.asked new.asked) (sym (take-append-add before wanted none.n))
      (grew_both old.asked mid.asked new.asked before (take none.n wanted) first.asked none.asked);
  gates = none.gates;
  unused = none.unused;
  notes = none.notes;
  given_back = given_since none.gates none.notes before old mid new first none.given_back;
  one = none.one;
  untaken = none.untaken;
}

-- where memory was lacking at once
pub nobody_asked : (wanted : List YardAsked) (yard : YardTold) → Refused wanted yard yard
nobody_asked wanted yard =
    refused wanted 0 [] [] yard yard yard (grew_none yard.asked) refl refl
    (All-nil (λ (gate : GateTold). IsNewDoor gate.door)) (none_back yard)

module _ {G : Type 0} (told : G → DoorTold) (over : G → Bool) where
  -- nobody served where so many of these were asked for, and the gates came back as they had come
  pub nobody_served : (wanted : List YardAsked) (n : ℕ) (keepers now : List (Keeper G)) (old mid new : YardTold)
      → Grew old.asked mid.asked (take n wanted) → mid.gates ≡ old.gates → mid.notes ≡ old.notes → now ≡ keepers
      → All (λ (keeper : Keeper G). IsNewDoor (told keeper.gate)) keepers
      → HasTakenBack (gates_of told over now) mid new → Refused wanted old new
  nobody_served wanted n keepers now old mid new asked gates notes same unused back =
      refused wanted n (gates_of told over now) [] old mid new asked gates notes
      (unused_gates told over now
      (subst (All (λ (keeper : Keeper G). IsNewDoor (told keeper.gate))) (sym same) unused)) back

  -- where some gates were asked for, and then no more
  pub none_served : (wanted more : List YardAsked) (n : ℕ) (keepers : List (Keeper G)) (old mid new : YardTold)
      → HasAsked (take n wanted) old mid → All (λ (keeper : Keeper G). IsNewDoor (told keeper.gate)) keepers
      → HasTakenBack (gates_of told over keepers) mid new → Refused (wanted ++ more) old new
  none_served wanted more n keepers old mid new asked unused back =
      let m = take_front n wanted more in
      nobody_served (wanted ++ more) m.0 keepers keepers old mid new
      (subst (Grew old.asked mid.asked) (sym m.1) asked.asked) asked.gates asked.notes refl unused back

-- what holds of an answer, where it is this one
pub when_ok : {T E : Type 0} (P : T → Type 0) (result : Result T E) (value : T) → result ≡ Ok value → IfOk result P
    → P value
when_ok P result value is holds = subst (λ r. IfOk r P) is holds

pub when_err : {T E A : Type 0} (result : Result T E) (fault : E) → result ≡ Err fault → OnErr result A → A
when_err {T} {E} {A} result fault is holds = subst (λ r. OnErr r A) is holds

-- no console came back
pub none_used : (back : List ConsoleTold) → AreUnused back back
none_used back = record { consoles = []; back = sym (append-nil back); unused = All-nil IsNewConsole }

-- one did, which was not used
pub one_unused : (before now : List ConsoleTold) (console first : ConsoleTold) → now ≡ before ++ console ∷ []
    → console ≡ first → IsNewConsole first → AreUnused before now
one_unused before now console first back same is = record {
  consoles = console ∷ [];
  back = back;
  unused = All-cons IsNewConsole console [] (subst IsNewConsole (sym same) is) (All-nil IsNewConsole);
}

module _ {G O : Type 0} (told : G → DoorTold) (over : G → Bool) (peer : G → List ℕ) (origin : G → YardAsked)
    (taken : O → Option (List ℕ)) (faults_of : O → ℕ) (back_before back_now : List ConsoleTold) where
  -- all served, the gates came back, the locks were closed, the totals were written, and the notes
  -- came back
  pub has_ended : {C : Type 0} (heard : C → ConsoleTold) (console : C) (porter : Porter C) (shared : Shared)
      (first notes : O) (pressed : NotesTold) (was torn : Bool)
      (before keepers : List (Keeper G)) (piles : PassPiles) (closed : Closed) (stop : Stop) (old back new : YardTold)
      → AreNewNotes (notes_told taken faults_of first)
      → (worked : HaveWorked told over peer heard shared (start_of taken faults_of first) was pressed
      (map gate_at before) keepers console porter piles)
      → HasTakenBack (gates_of told over keepers) old back → Closes shared piles closed
      → ((start : OutputStart) (lines : List ℕ) → IsWritten was start pressed.taken pressed.faults lines
      → IsWritten torn start (taken notes) (faults_of notes) (lines ++ closed_text shared.config.now closed))
      → HasTakenNotes (notes_told taken faults_of notes) back new
      → back_now ≡ back_before ++ heard porter.console ∷ []
      → stop ≡ first_stop (map stop_at keepers)
      → HasEnded told over peer origin taken faults_of back_before back_now shared.config.now (made_for origin before) old new
      (record { closed = closed; stop = stop; is_torn = torn })
  has_ended heard console porter shared first notes pressed was torn before keepers piles closed stop old back new untaken
      worked gates closes behind notes_back console_back stop_is =
      let is = closes (seen_by_all worked.tolds worked.porter_told) worked.piles_are worked.legal in
      let both = worked.kept (map length is.0.rings) (length is.0.book) is.4 in
      let are = both.0 in record {
        keepers = worked.tolds;
        porter = worked.porter_told;
        histories = is.0;
        lines = worked.lines;
        first = first;
        untaken = untaken;
        notes = notes;
        all = record {
          roles_are = worked.roles_are;
          gates_are = gates_made told over origin worked.tolds before worked.firsts_are;
          keepers_are = are;
          porter_is = both.1;
          whole = is.1;
          legal = worked.legal;
          owns = worked.owns;
          porter_owns = worked.porter_owns;
          nobody_else = worked.nobody_else;
        };
        given_back = record {
          gates_back = subst (λ list. Grew old.gates list
              (map (λ (keeper : KeeperTold G). gate_told told over keeper.gate) worked.tolds)) (sym notes_back.gates)
              (subst (Grew old.gates back.gates) (gates_are told over worked.tolds keepers worked.told) gates.gates);
          notes_back = subst (λ list. Grew list new.notes (notes_told taken faults_of notes ∷ [])) gates.notes
              notes_back.taken;
        };
        console_back = console_back ∙ ap (λ (t : ConsoleTold). back_before ++ t ∷ []) worked.told_porter.console;
        closed_is = is.2;
        total = total_is told over peer shared.config.now _ closed.total worked.tolds worked.porter_told are both.1 is.3;
        text = behind (start_of taken faults_of first) (text_in worked.lines) worked.text;
        stop_is = stop_is ∙ ap first_stop (stops_are told over worked.tolds keepers worked.told);
        failed = λ failed.
            let rose = gates.rose (subst (λ (l : List GateTold). IsTrue (list_any gate_failed l))
            (sym (gates_are told over worked.tolds keepers worked.told))
            (one_failed told over peer shared.config.now _ 0 worked.tolds are
            (sym (ap first_stop (stops_are told over worked.tolds keepers worked.told)) ∙ sym stop_is ∙ failed))) in
            subst (Rose old.faults) (sym notes_back.faults) rose;
      }

  ended_since : {made wanted : List YardAsked} (c : Config) (old mid new : YardTold) (outcome : Outcome)
      → HasAsked wanted old mid → HasEnded told over peer origin taken faults_of back_before back_now c made mid new outcome
      → HasEnded told over peer origin taken faults_of back_before back_now c made old new outcome
  ended_since {made} {wanted} c old mid new outcome first ended = record {
    keepers = ended.keepers;
    porter = ended.porter;
    histories = ended.histories;
    lines = ended.lines;
    first = ended.first;
    untaken = ended.untaken;
    notes = ended.notes;
    all = ended.all;
    given_back = given_since _ _ wanted old mid new first ended.given_back;
    console_back = ended.console_back;
    closed_is = ended.closed_is;
    total = ended.total;
    text = ended.text;
    stop_is = ended.stop_is;
    failed = λ failed. omega (arith, first.later, ended.failed failed);
  }

  -- what was asked before was asked too
  pub asked_before : (before made wanted : List YardAsked) (c : Config) (old mid new : YardTold)
      (result : Result Outcome KeepFault) → HasAsked before old mid → mid.faults ≤ new.faults
      → Answered told over peer origin taken faults_of back_before back_now c made wanted mid new result
      → Answered told over peer origin taken faults_of back_before back_now c made (before ++ wanted) old new result
  asked_before before made wanted c old mid new (Ok outcome) first later went = record {
    asked = grew_both old.asked mid.asked new.asked before wanted first.asked went.asked;
    ended = ended_since {made = made} {wanted = before} c old mid new outcome first went.ended;
  }
  asked_before before made wanted c old mid new (Err faults.Network) first later went = (
    refused_since before wanted old mid new first went.0,
    went.1,
    omega (arith, first.later, went.2),
  )
  asked_before before made wanted c old mid new (Err faults.Memory) first later went =
      (refused_since before wanted old mid new first went.0, went.1)

  -- all served, and nothing was asked
  pub went_ready : {C : Type 0} (heard : C → ConsoleTold) (console : C) (porter : Porter C) (shared : Shared)
      (config : Config) (first notes : O) (pressed : NotesTold) (was torn : Bool)
      (before keepers : List (Keeper G)) (piles : PassPiles) (closed : Closed) (stop : Stop) (old back new : YardTold)
      → config ≡ shared.config.now → AreNewNotes (notes_told taken faults_of first)
      → HaveWorked told over peer heard shared (start_of taken faults_of first) was pressed (map gate_at before) keepers
      console porter piles
      → HasTakenBack (gates_of told over keepers) old back → Closes shared piles closed
      → ((start : OutputStart) (lines : List ℕ) → IsWritten was start pressed.taken pressed.faults lines
      → IsWritten torn start (taken notes) (faults_of notes) (lines ++ closed_text config closed))
      → HasTakenNotes (notes_told taken faults_of notes) back new
      → back_now ≡ back_before ++ heard porter.console ∷ []
      → stop ≡ first_stop (map stop_at keepers)
      → Went told over peer origin taken faults_of back_before back_now shared.config.now (made_for origin before) [] old new
      (record { closed = closed; stop = stop; is_torn = torn })
  went_ready heard console porter shared config first notes pressed was torn before keepers piles closed stop old back new
      same untaken worked gates closes behind notes_back console_back stop_is = record {
        asked = subst (λ l. Grew old.asked l []) (sym (notes_back.asked ∙ gates.asked)) (grew_none old.asked);
        ended = has_ended heard console porter shared first notes pressed was torn before keepers piles closed stop old
            back new untaken worked gates closes
            (subst (λ (c : Config). (start : OutputStart) (lines : List ℕ)
            → IsWritten was start pressed.taken pressed.faults lines
            → IsWritten torn start (taken notes) (faults_of notes) (lines ++ closed_text c closed)) same behind)
            notes_back console_back stop_is;
      }

  -- nobody served, for a refusal of the yard
  pub answered_refused : (c : Config) (made wanted : List YardAsked) (old new : YardTold) (fault : StreetFault)
      (result : Result Outcome KeepFault) → result ≡ Err (fault_of fault) → Refused wanted old new
      → AreUnused back_before back_now → (fault ≡ refusals.Failed → Rose old.faults new.faults)
      → Answered told over peer origin taken faults_of back_before back_now c made wanted old new result
  answered_refused c made wanted old new refusals.Failed result is none unused rose =
      subst (Answered told over peer origin taken faults_of back_before back_now c made wanted old new) (sym is)
      (none, unused, rose refl)
  answered_refused c made wanted old new refusals.Memory result is none unused rose =
      subst (Answered told over peer origin taken faults_of back_before back_now c made wanted old new) (sym is) (none, unused)

  -- all gates were asked for, and then a place for lines
  pub kept_all : (c : Config) (addr : List ℕ) (quiet n : ℕ) (made : List YardAsked) (old mid new : YardTold)
      (result : Result Outcome KeepFault) → HasAsked (take n (gates_asked c addr quiet)) old mid
      → n ≡ length (gates_asked c addr quiet) → made ≡ made_of c addr quiet → mid.faults ≤ new.faults
      → Answered told over peer origin taken faults_of back_before back_now c made (asked.Notes ∷ []) mid new result
      → HasKept told over peer origin taken faults_of back_before back_now c addr quiet old new result
  kept_all c addr quiet n made old mid new result first all made_is later answered =
      let wanted = gates_asked c addr quiet in
      let asked_all : HasAsked wanted old mid =
      subst (λ (l : List YardAsked). HasAsked l old mid) (take_all n wanted (omega (arith, all))) first in record {
        later = omega (arith, first.later, later);
        answered = subst (λ (l : List YardAsked). Answered told over peer origin taken faults_of back_before back_now c l
            (asked_of c addr quiet) old new result) made_is
            (asked_before wanted made (asked.Notes ∷ []) c old mid new result asked_all later answered);
      }

  -- some gates were asked for, and then the yard refused
  pub kept_refused : (c : Config) (addr : List ℕ) (quiet n : ℕ) (keepers : List (Keeper G)) (old mid new : YardTold)
      (fault : StreetFault) (result : Result Outcome KeepFault) → result ≡ Err (fault_of fault)
      → HasAsked (take n (gates_asked c addr quiet)) old mid
      → All (λ (keeper : Keeper G). IsNewDoor (told keeper.gate)) keepers
      → HasTakenBack (gates_of told over keepers) mid new → AreUnused back_before back_now
      → (fault ≡ refusals.Failed → Rose old.faults mid.faults)
      → HasKept told over peer origin taken faults_of back_before back_now c addr quiet old new result
  kept_refused c addr quiet n keepers old mid new fault result is first unused back consoles rose = record {
    later = omega (arith, first.later, back.later);
    answered = answered_refused c (made_of c addr quiet) (asked_of c addr quiet) old new fault result is
        (none_served told over (gates_asked c addr quiet) (asked.Notes ∷ []) n keepers old mid new first unused back)
        consoles (λ failed. omega (arith, rose failed, back.later));
  }

-- there is a total for each mountpoint, and a sum for each account
pub closed_sizes : (shared : Shared) (piles : PassPiles) (closed : Closed) (rows : List Histories)
    → Closes shared piles closed → ArePiles rows piles shared.rings.items shared.book
    → All (λ (row : Histories). IsLegal (fits (caps shared.config.now)) row.book) rows
    → (length closed.mounts ≡ length shared.config.now.mount) × (length closed.accounts ≡ length shared.config.now.account)
closed_sizes shared piles closed rows closes are legal =
    let whole = closes rows are legal in (
      ap (λ (x : Closed). length x.mounts) whole.2 ∙ length-map whole.0.rings mount_total ∙ whole.1.size,
      ap (λ (x : Closed). length x.accounts) whole.2 ∙ sums_long 1 whole.0 shared.config.now.account,
    )

module _ {G C : Type 0} {told : G → DoorTold} {over : G → Bool} {peer : G → List ℕ} {heard : C → ConsoleTold} where
  -- as many passes came back as there are keepers, and that of the porter
  pub passes_are : (shared : Shared) (start : OutputStart) (torn : Bool) (notes : NotesTold) (firsts : List G)
      (before keepers : List (Keeper G)) (console : C) (porter : Porter C) (piles : PassPiles)
      → HaveWorked told over peer heard shared start torn notes firsts keepers console porter piles
      → map role_at before ≡ roles_of shared.config.now → length piles.book.items ≡ length before + 1
  passes_are shared start torn notes firsts before keepers console porter piles worked roles =
      omega (
        arith,
        worked.passes,
        length-map worked.tolds role_of,
        length-map before role_at,
        ap length (worked.roles_are ∙ sym roles),
      )

  pub sizes_are : (shared : Shared) (start : OutputStart) (torn : Bool) (notes : NotesTold) (firsts : List G)
      (keepers : List (Keeper G)) (console : C) (porter : Porter C) (piles : PassPiles) (closed : Closed)
      → HaveWorked told over peer heard shared start torn notes firsts keepers console porter piles
      → Closes shared piles closed
      → (length closed.mounts ≡ length shared.config.now.mount)
      × (length closed.accounts ≡ length shared.config.now.account)
  sizes_are shared start torn notes firsts keepers console porter piles closed worked closes =
      closed_sizes shared piles closed (seen_by_all worked.tolds worked.porter_told) closes worked.piles_are worked.legal
