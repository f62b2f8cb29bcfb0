-- A link that is served: each of its calls.
use Rattle.std.proofs.Common.{◌≡◌, ◌∙◌, ◌⊎◌, ◌+◌, ◌<◌, ◌≤◌, ◌^◌, ℕ, Bool, false, IsTrue, List, [], ◌∷◌, ◌++◌, length, take, drop, refl, sym, ap, subst, inl, inr, Option, None, Some, append_assoc, arith}
use Rattle.std.specs.Prelude.{is_some}
use Rattle.std.proofs.lemmas.List.{append-nil, length-append, take-append-drop}
use Rattle.std.proofs.lemmas.List.Concat.{flat_map-append}
use Rattle.cast_io.specs.declared.steps.Step.{Step as LinkTook}
use Rattle.cast_io.specs.declared.steps.Step.TheVariants as took
use Rattle.cast_io.specs.declared.link.Got.{Got}
use Rattle.cast_io.specs.declared.link.Got.TheVariants as got
use Rattle.cast_io.specs.Told.{LinkTold}
use Rattle.cast_io.specs.Links.{HasRead, step_of}
use Rattle.cast_config.specs.declared.config.Config.{Config}
use Rattle.session_model.specs.declared.ending.Last.TheVariants as lasts
use Rattle.session_core.specs.declared.session.Session.{Session}
use Rattle.session_model.specs.Judged.{Opening}
use Rattle.session_model.specs.Owed.{Happening, arrives, takes_turn}
use Rattle.session_model.specs.Run.{Histories}
use Rattle.session_core.specs.Standing.{StandsFor, Follows, is_halted}
use Rattle.session_core.specs.Asking.{TellsAsked}
use Rattle.session_model.specs.Courses.{text_of, Ran}
use Rattle.caster_link.specs.Links.{IsLeftOut, happens_by, happens_in}
use Rattle.caster_link.specs.Sending.{HasSent, HasTorn}
use Rattle.caster_link.specs.Served.{Reached, Arrived, Serving, Came}
use Rattle.caster_link.proofs.CalledLemmas.{called_none}
use Rattle.caster_link.proofs.CourseLemmas.{text-snoc, text-more}
use Rattle.caster_link.proofs.LinkLemmas.{link_none, link_both, link_step, link_piece}
use Rattle.cast_io.proofs.ToldLemmas.{rose_since}
use Rattle.caster_link.proofs.ReachLemmas.{stands_going, follows_reached}

-- ---- the beginning

pub begins : (c : Config) (opening : Opening) (me : ℕ) (now : Histories) (session : Session) (sent : List ℕ)
    → session.ended ≡ None → session.me ≡ me → StandsFor c session opening [] [] now sent
    → TellsAsked opening [] session → Reached c opening me now now session sent []
begins c opening me now session sent unended caller stands asks =
    let is = stands_going c session opening [] [] now sent unended stands in record {
      caller = caller;
      first = is.heading;
      is_first = is.is_heading;
      events = [];
      ran = subst (λ (h : Bool). Ran c opening h []) (sym (ap is_halted unended))
          (record { whole = []; last = []; split = refl; course = tt; broken = refl });
      happened_are = refl;
      called = called_none c now me;
      stands = stands;
      asks = asks;
    }

pub begins_serving : (c : Config) (opening : Opening) (me : ℕ) (now : Histories) (session : Session) (told : LinkTold)
    (out : List ℕ) → session.ended ≡ None → Reached c opening me now now session out []
    → Serving c opening me now now session told told out 0
begins_serving c opening me now session told out unended reached = record {
  taken = [];
  written = [];
  whats = [];
  missing = [];
  link = link_none told;
  reached = reached;
  split = refl;
  left_out = subst (λ (b : Bool). IsLeftOut b []) (sym (ap is_some unended)) refl;
  count = refl;
}

-- ---- writes

pub sent_on : (c : Config) (opening : Opening) (me : ℕ) (start now : Histories) (session : Session)
    (before after later : LinkTold) (out : List ℕ) (given : ℕ)
    → Serving c opening me start now session before after out given → HasSent after later out
    → Serving c opening me start now session before later [] given
sent_on c opening me start now session before after later out given s sent = record {
  taken = s.taken;
  written = s.written ++ out;
  whats = s.whats;
  missing = s.missing;
  link = link_piece before after later s.taken s.written out s.link sent;
  reached = subst (λ (l : List ℕ). Reached c opening me start now session l s.whats)
      (sym (append-nil (s.written ++ out))) s.reached;
  split = s.split;
  left_out = s.left_out;
  count = s.count;
}

-- a step that closes the connection gives no event
no_event : (taken : List LinkTook) (step : LinkTook) → happens_by step ≡ []
    → happens_in (taken ++ step ∷ []) ≡ happens_in taken
no_event taken step none =
    flat_map-append happens_by taken (step ∷ [])
    ∙ ap (λ (l : List Happening). happens_in taken ++ (l ++ [])) none ∙ append-nil (happens_in taken)

pub torn : (c : Config) (opening : Opening) (me : ℕ) (start now : Histories) (session : Session)
    (before after later : LinkTold) (out : List ℕ) (given : ℕ)
    → given < 2 ^ 63 → Serving c opening me start now session before after out given → HasTorn after later out
    → Came c opening me start now session before later lasts.WriteFault
torn c opening me start now session before after later out given less s failed = record {
  taken = s.taken ++ took.WriteFailed ∷ [];
  written = s.written ++ take failed.n out;
  sent = s.written ++ out;
  whats = s.whats;
  missing = s.missing;
  link = link_both before after later s.taken (took.WriteFailed ∷ []) s.written (take failed.n out) s.link failed.link;
  reached = s.reached;
  split = s.split ∙ sym (no_event s.taken took.WriteFailed refl);
  left_out = s.left_out;
  few = omega (arith, less, s.count);
  stopped = inl (s.taken, took.WriteFailed, refl, refl);
  bytes = (
    drop failed.n out,
    ap (λ (l : List ℕ). s.written ++ l) (sym (take-append-drop failed.n out))
        ∙ sym (append_assoc s.written (take failed.n out) (drop failed.n out)),
  );
  caused = rose_since before.faults after.faults later.faults s.link.later failed.rose;
}

-- ---- the end

pub stops : (c : Config) (opening : Opening) (me : ℕ) (start now : Histories) (session : Session)
    (before after : LinkTold) (given : ℕ) → given < 2 ^ 63
    → Serving c opening me start now session before after [] given → IsTrue (is_some session.ended) ⊎ (2 ^ 62 ≤ given)
    → Came c opening me start now session before after lasts.End
stops c opening me start now session before after given less s enough = record {
  taken = s.taken;
  written = s.written;
  sent = s.written ++ [];
  whats = s.whats;
  missing = s.missing;
  link = s.link;
  reached = s.reached;
  split = s.split;
  left_out = s.left_out;
  few = omega (arith, less, s.count);
  stopped = inr (refl, subst (λ (n : ℕ). IsTrue (is_some session.ended) ⊎ (2 ^ 62 ≤ n)) s.count enough);
  bytes = sym (append-nil s.written);
  caused = tt;
}

pub ends_so : (c : Config) (opening : Opening) (me : ℕ) (start now : Histories) (session : Session)
    (before after later : LinkTold) (given : ℕ) (buf : List ℕ) → given < 2 ^ 63
    → Serving c opening me start now session before after [] given → HasRead after later got.End buf
    → Came c opening me start now session before later lasts.End
ends_so c opening me start now session before after later given buf less s read = record {
  taken = s.taken ++ took.End ∷ [];
  written = s.written;
  sent = s.written ++ [];
  whats = s.whats;
  missing = s.missing;
  link = link_step before after later s.taken s.written got.End buf s.link read;
  reached = s.reached;
  split = s.split ∙ sym (no_event s.taken took.End refl);
  left_out = s.left_out;
  few = omega (arith, less, s.count);
  stopped = inl (s.taken, took.End, refl, refl);
  bytes = sym (append-nil s.written);
  caused = tt;
}

pub fails_so : (c : Config) (opening : Opening) (me : ℕ) (start now : Histories) (session : Session)
    (before after later : LinkTold) (given : ℕ) (buf : List ℕ) → given < 2 ^ 63
    → Serving c opening me start now session before after [] given → HasRead after later got.Failed buf
    → Came c opening me start now session before later lasts.ReadFault
fails_so c opening me start now session before after later given buf less s read = record {
  taken = s.taken ++ took.ReadFailed ∷ [];
  written = s.written;
  sent = s.written ++ [];
  whats = s.whats;
  missing = s.missing;
  link = link_step before after later s.taken s.written got.Failed buf s.link read;
  reached = s.reached;
  split = s.split ∙ sym (no_event s.taken took.ReadFailed refl);
  left_out = s.left_out;
  few = omega (arith, less, s.count);
  stopped = inl (s.taken, took.ReadFailed, refl, refl);
  bytes = sym (append-nil s.written);
  caused = rose_since before.faults after.faults later.faults s.link.later (read.failed refl);
}

-- ---- a read that the connection goes on after

-- of a session that goes on nothing was left out
whole_so_far : (session : Session) (whats missing : List Happening) (taken : List LinkTook) → session.ended ≡ None
    → IsLeftOut (is_some session.ended) missing → whats ++ missing ≡ happens_in taken → whats ≡ happens_in taken
whole_so_far session whats missing taken unended left split =
    let none : missing ≡ [] = subst (λ (b : Bool). IsLeftOut b missing) (ap is_some unended) left in
    sym (append-nil whats) ∙ ap (λ (l : List Happening). whats ++ l) (sym none) ∙ split

pub goes_on_by : (c : Config) (opening : Opening) (me : ℕ) (start now later : Histories) (session next : Session)
    (before after last : LinkTold) (given bytes : ℕ) (result : Got) (buf out new : List ℕ)
    (s : Serving c opening me start now session before after [] given) → session.ended ≡ None
    → HasRead after last result buf → out ≡ []
    → Arrived c opening me start later next (s.written ++ []) out new s.whats (happens_by (step_of result buf))
    → length (text_of (s.whats ++ happens_by (step_of result buf))) ≡ length (text_of s.whats) + bytes
    → Serving c opening me start later next before last new (given + bytes)
goes_on_by c opening me start now later session next before after last given bytes result buf out new s unended read
    empty arrived long =
    let step : LinkTook = step_of result buf in
    let so_far : s.whats ≡ happens_in s.taken =
    whole_so_far session s.whats s.missing s.taken unended s.left_out s.split in
    let added : arrived.added ≡ new =
    sym (arrived.out ∙ ap (λ (l : List ℕ). l ++ arrived.added) empty) in
    record {
      taken = s.taken ++ step ∷ [];
      written = s.written;
      whats = s.whats ++ arrived.done;
      missing = arrived.missing;
      link = link_step before after last s.taken s.written result buf s.link read;
      reached = subst (λ (l : List ℕ). Reached c opening me start later next l (s.whats ++ arrived.done))
          (ap (λ (l : List ℕ). l ++ arrived.added) (append-nil s.written)
          ∙ ap (λ (l : List ℕ). s.written ++ l) added) arrived.reached;
      split = append_assoc s.whats arrived.done arrived.missing
          ∙ ap (λ (l : List Happening). s.whats ++ l) arrived.split
          ∙ ap (λ (l : List Happening). l ++ happens_by step) so_far
          ∙ ap (λ (l : List Happening). happens_in s.taken ++ l) (sym (append-nil (happens_by step)))
          ∙ sym (flat_map-append happens_by s.taken (step ∷ []));
      left_out = arrived.left_out;
      count = ap (λ (n : ℕ). n + bytes) s.count ∙ sym long ∙ ap length (sym arrived.bytes);
    }

-- how many bytes were due
pub long_bytes : (whats : List Happening) (bytes : List ℕ)
    → length (text_of (whats ++ arrives bytes ∷ takes_turn 16 ∷ [])) ≡ length (text_of whats) + length bytes
long_bytes whats bytes =
    ap length (text-more whats (arrives bytes) (takes_turn 16)) ∙ length-append (text_of whats) bytes

pub long_idle : (whats : List Happening)
    → length (text_of (whats ++ takes_turn 16 ∷ [])) ≡ length (text_of whats) + 0
long_idle whats = ap length (text-snoc whats (takes_turn 16)) ∙ omega arith

pub follows_serving : (c : Config) (opening : Opening) (me : ℕ) (start now : Histories) (session : Session)
    (before after : LinkTold) (out : List ℕ) (given more : ℕ)
    → Serving c opening me start now session before after out given → given + more < 2 ^ 63 → Follows c session now more
follows_serving c opening me start now session before after out given more s few =
    follows_reached c opening me start now session (s.written ++ out) s.whats more s.reached
    (omega (arith, few, s.count))

-- what has not ended
pub going_by : {A : Type 0} (ended : Option A) (answer : Bool) → answer ≡ false → answer ≡ is_some ended → ended ≡ None
going_by None answer no_answer is = refl
going_by (Some end) answer no_answer is = let clash = sym is ∙ no_answer in absurd cc
