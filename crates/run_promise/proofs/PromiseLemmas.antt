-- Every report of a recorded session keeps what is promised.
use Rattle.std.proofs.Common.{◌≡◌, ◌≢◌, ◌∙◌, ◌≤◌, ◌+◌, ℕ, Bool, true, false, IsTrue, List, [], ◌∷◌, map, reverse, All, None, Some, inl, inr, refl, sym, ap, subst, arith}
use Rattle.std.specs.Prelude.{◌==◌, ◌||◌}
use Rattle.std.proofs.lemmas.Bool.{false≢true}
use Rattle.std.proofs.lemmas.List.Elements.{All-head, All-tail, All-cons, All-nil}
use Rattle.turn_log.specs.History.{History}
use Rattle.mount_ring.specs.declared.call.RingCall.{RingCall}
use Rattle.session_script.specs.declared.Event.{Event}
use Rattle.session_script.specs.declared.ScriptKind.{ScriptKind}
use Rattle.session_script.specs.Numbers.{no_numbers}
use Rattle.session_script.specs.Script.{IsSession}
use Rattle.session_calls.specs.Steps.{Step, answer_of}
use Rattle.session_calls.specs.Plans.{IsMade}
use Rattle.session_calls.specs.Rings.{history_at}
use Rattle.rover_session.specs.Made.{segments_after}
use Rattle.cast_config.specs.declared.config.Config.{Config}
use Rattle.cast_config.specs.Kept.{KeepsRules}
use Rattle.session_model.specs.declared.report.Report.{Report}
use Rattle.session_model.specs.Headings.{Heading}
use Rattle.session_model.specs.Owed.{is_let_in, closing}
use Rattle.session_model.specs.Promises as core
use Rattle.session_model.specs.Reports.{told_of, opened_as, AreHeadings, report, IsReport}
use Rattle.session_model.specs.Run.{Histories, Connected, World, nothing_called, judged_of, is_opened, world}
use Rattle.session_model.proofs.PromiseLemmas.{keeps_all}
use Rattle.caster_replay.specs.Runs.{IsIncreasing}
use Rattle.run_promise.specs.Promised.{IsAccounted, AreOrdered, is_told, IsKept, AreEarlier, IsPromised}
use Rattle.run_promise.proofs.CallLemmas.{calls_of, same_segments, same_reads, all_calls}
use Rattle.run_promise.proofs.StoodLemmas.{AllBy}
use Rattle.run_promise.proofs.RunLemmas.{IsOver, world_over}
use Rattle.run_promise.proofs.AccountLemmas.{Facts, was_so, sent_so, overrun_so}
use Rattle.run_promise.proofs.RunLemmas.{IsStood, IsRunning, nothing_at, world_runs}
use Rattle.run_promise.proofs.CutLemmas.{first_session}
use Rattle.run_promise.proofs.OrderLemmas.{earlier}
use Rattle.run_promise.proofs.EnteredLemmas.{first_of, IsFound, all_found, lets_in, AreLet, own_lets, early_lets, entered_as}
use Rattle.run_promise.proofs.ReadLemmas.{IsRead, AreAllRead, world_read}

-- ---- one connection

-- it entered an account as it is let in, if it called something
abbrev IsLet : (ℕ → Bool) → Connected → Type 0
IsLet lets d =
    (step : Step) → first_of d.steps ≡ Some step → is_let_in (answer_of step) ≡ lets d.number

all_let : (lets : ℕ → Bool) (w : World) (ds : List Connected) → AreLet w lets → All (IsFound w.connections) ds
    → All (IsLet lets) ds
all_let lets w [] are found = All-nil (IsLet lets)
all_let lets w (d ∷ ds) are found =
    All-cons (IsLet lets) d ds
    (λ step is. are d.number step (All-head (IsFound w.connections) d ds found ∙ is))
    (all_let lets w ds are (All-tail (IsFound w.connections) d ds found))

-- what closed it
last_of : (c : Config) (headings : ℕ → Heading) (h : Histories) (d : Connected) (s : IsStood c headings h d)
    → IsOver c headings d → IsMade (closing (judged_of c (headings d.number) d) s.first) s.last
last_of c headings h d s over = elim s.ends [
  | inl (none, goes) ↦ absurd (false≢true (sym over ∙ goes))
  | inr (closed, is) ↦ is
]

accounted : (c : Config) (headings : ℕ → Heading) (lets : ℕ → Bool) (script : List Event) (h : Histories)
    (d : Connected) → IsLet lets d → IsStood c headings h d → IsOver c headings d → core.Keeps c h.rings d
    → IsRead c headings script d → IsAccounted c headings lets script h.rings (told_of c headings h d)
accounted c headings lets script h d let_so s over keeps is =
    let heading = headings d.number in
    let facts : Facts c h d (judged_of c heading d) is.rest = record {
      answered = s.walked.answered;
      on = s.walked.on;
      first = s.first;
      last = s.last;
      split = s.split;
      made = s.made_is;
      closed = last_of c headings h d s over;
      whole = is.whole;
      keeps = keeps;
    } in
    record {
      opening = d.opening;
      opened = is.opened;
      text = d.text;
      rest = is.rest;
      came = is.begins;
      entered = entered_as c h d (judged_of c heading d) is.rest facts (lets d.number) let_so;
      calls = calls_of d.steps;
      all_calls = all_calls c (nothing_called c).rings h.rings d.number d.steps (nothing_at c) s.walked.went;
      read_on = same_reads [] d.steps s.walked.on;
      segments = ap reverse (sym (same_segments [] d.steps));
      sent = sent_so (segments_after [] d.steps);
      overrun = overrun_so (segments_after [] d.steps);
      was = was_so c h d (judged_of c heading d) is.rest facts;
    }

each_accounted : (c : Config) (headings : ℕ → Heading) (lets : ℕ → Bool) (script : List Event) (h : Histories)
    (ds : List Connected) → All (IsLet lets) ds → All (IsStood c headings h) ds → All (IsOver c headings) ds
    → All (core.Keeps c h.rings) ds → All (IsRead c headings script) ds
    → All (IsAccounted c headings lets script h.rings) (map (told_of c headings h) ds)
each_accounted c headings lets script h [] let_so stood over keeps read =
    All-nil (IsAccounted c headings lets script h.rings)
each_accounted c headings lets script h (d ∷ ds) let_so stood over keeps read =
    All-cons (IsAccounted c headings lets script h.rings) (told_of c headings h d) (map (told_of c headings h) ds)
    (accounted c headings lets script h d (All-head (IsLet lets) d ds let_so)
    (All-head (IsStood c headings h) d ds stood) (All-head (IsOver c headings) d ds over)
    (All-head (core.Keeps c h.rings) d ds keeps) (All-head (IsRead c headings script) d ds read))
    (each_accounted c headings lets script h ds (All-tail (IsLet lets) d ds let_so)
    (All-tail (IsStood c headings h) d ds stood) (All-tail (IsOver c headings) d ds over)
    (All-tail (core.Keeps c h.rings) d ds keeps) (All-tail (IsRead c headings script) d ds read))

-- ---- all of them

ordered : (c : Config) (headings : ℕ → Heading) (h : Histories) (least : ℕ) (d : Connected) (ds : List Connected)
    → least ≤ d.number → IsIncreasing (d ∷ ds) → AreOrdered least (map (told_of c headings h) (d ∷ ds))
ordered c headings h least d [] below order = (below, tt)
ordered c headings h least d (e ∷ ds) below order =
    (below, ordered c headings h (d.number + 1) e ds (omega (arith, order.0.0)) order.1)

all_ordered : (c : Config) (headings : ℕ → Heading) (h : Histories) (ds : List Connected) → IsIncreasing ds
    → AreOrdered 0 (map (told_of c headings h) ds)
all_ordered c headings h [] order = tt
all_ordered c headings h (d ∷ ds) order = ordered c headings h 0 d ds (omega arith) order

told_same : (c : Config) (headings : ℕ → Heading) (h : Histories) (n : ℕ) (ds : List Connected)
    → is_told n (map (told_of c headings h) ds) ≡ is_opened n ds
told_same c headings h n [] = refl
told_same c headings h n (d ∷ ds) = ap (λ (b : Bool). (d.number == n) || b) (told_same c headings h n ds)

is_there : (script : List Event) (n : ℕ) (there : Bool) → (there ≡ false → opened_as n script ≡ None)
    → opened_as n script ≢ None → there ≡ true
is_there script n true none opened = refl
is_there script n false none opened = absurd (opened (none refl))

by_told : (told opened : ℕ → Bool) (h : History RingCall) → ((n : ℕ) → told n ≡ opened n) → AllBy opened h
    → AllBy told h
by_told told opened [] same all = All-nil (λ (entry : ℕ × RingCall). IsTrue (told entry.0))
by_told told opened (entry ∷ h) same all =
    All-cons (λ (entry : ℕ × RingCall). IsTrue (told entry.0)) entry h
    (same entry.0 ∙ All-head (λ (entry : ℕ × RingCall). IsTrue (opened entry.0)) entry h all)
    (by_told told opened h same (All-tail (λ (entry : ℕ × RingCall). IsTrue (opened entry.0)) entry h all))

world_keeps : (c : Config) (cap : ℕ) (kind : ScriptKind) (script : List Event) (headings : ℕ → Heading)
    (lets : ℕ → Bool) → KeepsRules cap c → IsSession kind script → AreLet (world c headings script) lets
    → IsKept c headings lets script (world c headings script).histories.rings (report c headings script)
world_keeps c cap kind script headings lets kept session are =
    let w : World = world c headings script in
    let run : IsRunning c headings w = world_runs c cap headings script kept in
    let read : AreAllRead c headings script w = world_read c headings kind script session in
    let h = w.histories in
    let ds = w.connections in
    record {
      one_each = run.size;
      totals = refl;
      ordered = all_ordered c headings h ds run.order;
      all_told = λ n opened. told_same c headings h n ds ∙ is_there script n (is_opened n ds) (read.none n) opened;
      accounted = each_accounted c headings lets script h ds
          (all_let lets w ds are (all_found ds run.order)) run.each (world_over c headings script)
          (keeps_all c headings script) read.each;
      nothing_else = λ mount.
          by_told (λ n. is_told n (map (told_of c headings h) ds)) (λ n. is_opened n ds) (history_at h.rings mount)
          (λ n. told_same c headings h n ds) (run.callers mount);
    }

world_promised : (c : Config) (cap : ℕ) (kind : ScriptKind) (script : List Event) (headings : ℕ → Heading)
    → KeepsRules cap c → IsSession kind script → AreHeadings script headings
    → IsPromised c script (report c headings script)
world_promised c cap kind script headings kept session are =
    let w : World = world c headings script in
    record {
      heads = headings;
      are_heads = are;
      histories = w.histories.rings;
      lets_in = lets_in w;
      kept = world_keeps c cap kind script headings (lets_in w) kept session (own_lets w);
      in_order = λ first later split.
          let begun = first_session kind no_numbers first later (subst (IsSession kind) split session) in (
            (world c headings first).histories.rings,
            report c headings first,
            world_keeps c cap kind first headings (lets_in w) kept begun
                (subst (λ (l : List Event). AreLet (world c headings first) (lets_in (world c headings l)))
                (sym split) (early_lets c headings first later)),
            subst (λ (l : List Event). AreEarlier c headings first (world c headings first).histories.rings
                (world c headings l).histories.rings) (sym split)
                (earlier c cap kind headings first later kept (subst (IsSession kind) split session)),
          );
    }

-- the promise is kept by these headings and by the histories of the run
pub promised_by : (c : Config) (cap : ℕ) (kind : ScriptKind) (script : List Event) (headings : ℕ → Heading)
    → KeepsRules cap c → IsSession kind script → AreHeadings script headings
    → (promised : IsPromised c script (report c headings script)) × (promised.heads ≡ headings)
    × (promised.histories ≡ (world c headings script).histories.rings)
unfolding world_promised
promised_by c cap kind script headings kept session are =
    (world_promised c cap kind script headings kept session are, refl, refl)

pub promised : (c : Config) (cap : ℕ) (kind : ScriptKind) (script : List Event) (r : Report) → KeepsRules cap c
    → IsSession kind script → IsReport c script r → IsPromised c script r
promised c cap kind script r kept session is =
    subst (IsPromised c script) (sym is.2) (world_promised c cap kind script is.0 kept session is.1)
