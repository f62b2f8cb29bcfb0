-- No account has more open sessions than its cap, at any point of the book's history.
use Rattle.std.proofs.Common.{◌≡◌, ◌∙◌, ◌++◌, ◌+◌, ◌<◌, ℕ, zero, suc, Bool, true, false, List, [], ◌∷◌, length, All, Option, None, Some, inl, inr, refl, sym, ap, subst, append_assoc, append-nil, eq-eqb, arith}
use Rattle.std.specs.Prelude.{◌==◌, ◌&&◌, if◌then◌else◌, ⊤}
use Rattle.std.proofs.lemmas.Bool.{eqb-true, eqb-false}
use Rattle.std.proofs.lemmas.List.Elements.{All-cons, All-head, All-nil, All-tail}
use Rattle.turn_log.specs.History.{History}
use Rattle.turn_log.specs.Heard.{told}
use Rattle.turn_log.proofs.HeardLaws.{told-append, told_none}
use Rattle.caster_accounts.specs.declared.call.BookCall.{BookCall}
use Rattle.caster_accounts.specs.declared.call.BookCall.TheVariants.{Enter, Leave}
use Rattle.caster_accounts.specs.declared.call.BookAnswer.{BookAnswer}
use Rattle.caster_accounts.specs.declared.call.BookAnswer.TheVariants.{Entered, Full, Left}
use Rattle.caster_accounts.specs.Counts.{one, is_entered, enters, leaves, opened, ended}
use Rattle.caster_accounts.specs.History.{cap_at, callers_in, entry_answer, goes, inside, is_among, without}
use Rattle.caster_accounts.specs.StillFits.{callers_after}
use Rattle.caster_accounts.proofs.BookLemmas.{length_without}
use Rattle.caster_accounts.proofs.LawLemmas.{inside_capped}
use Rattle.cast_config.specs.declared.config.Config.{Config}
use Rattle.session_model.specs.declared.report.Receipt.{Receipt}
use Rattle.session_model.specs.Called.{book_answer}
use Rattle.session_model.specs.Setting.{caps}
use Rattle.session_core.specs.declared.held.Held.{Held}
use Rattle.session_core.specs.declared.held.Held.TheVariants as holds
use Rattle.serve_promise.specs.Accounts.{AreBookCalls, AreCapped, Bill, IsTurnedAway, leaves_with}
use Rattle.serve_promise.proofs.AccountLemmas.{AreBilled, AreInBook, Pairs, all_calls, links_grow}

-- ---- who leaves an account has just entered it

-- the account that a caller entered by this call, if it was let in
abbrev entered_by : BookCall → BookAnswer → Option ℕ
entered_by (Enter account) Entered = Some account
entered_by (Enter account) (Full busy cap) = None
entered_by (Enter account) Left = None
entered_by (Leave account sent overrun) answer = None

-- this call fits behind a call that entered this account, or none
abbrev FitsBehind : Option ℕ → BookCall → Type 0
FitsBehind last (Enter account) = ⊤
FitsBehind last (Leave account sent overrun) = last ≡ Some account

abbrev ArePaired : Option ℕ → Pairs → Type 0
ArePaired last [] = ⊤
ArePaired last (pair ∷ pairs) = FitsBehind last pair.0 × ArePaired (entered_by pair.0 pair.1) pairs

-- one link's calls, whatever comes before them and behind them
away_paired : (last : Option ℕ) (calls later : Pairs) → IsTurnedAway calls
    → ((behind : Option ℕ) → ArePaired behind later) → ArePaired last (calls ++ later)
away_paired last calls later (inl none) more =
    subst (λ (l : Pairs). ArePaired last (l ++ later)) (sym none) (more last)
away_paired last calls later (inr is) more =
    subst (λ (l : Pairs). ArePaired last (l ++ later)) (sym is.3) (tt, more None)

none_paired : (last : Option ℕ) (calls later : Pairs) → calls ≡ []
    → ((behind : Option ℕ) → ArePaired behind later) → ArePaired last (calls ++ later)
none_paired last calls later none more = subst (λ (l : Pairs). ArePaired last (l ++ later)) (sym none) (more last)

left_paired : (account : ℕ) (settled : Bool) (receipt : Receipt) (later : Pairs)
    → ((behind : Option ℕ) → ArePaired behind later)
    → ArePaired (Some account) (leaves_with settled account receipt ++ later)
left_paired account true receipt later more = (refl, more None)
left_paired account false receipt later more = more (Some account)

link_paired : (last : Option ℕ) (held : Held) (receipt : Receipt) (calls later : Pairs) → AreBookCalls held receipt calls
    → ((behind : Option ℕ) → ArePaired behind later) → ArePaired last (calls ++ later)
link_paired last holds.Nothing receipt calls later is more = away_paired last calls later is more
link_paired last (holds.Rover account) receipt calls later is more =
    subst (λ (l : Pairs). ArePaired last (l ++ later)) (sym is)
    (tt, left_paired account receipt.settled receipt later more)
link_paired last (holds.Source mount claim) receipt calls later is more = none_paired last calls later is more
link_paired last (holds.Relay mount None) receipt calls later is more = away_paired last calls later is more
link_paired last (holds.Relay mount (Some claim)) receipt calls later is more = none_paired last calls later is more

links_paired : (c : Config) (me : ℕ) (bills : List Bill) (start now : History BookCall)
    (is : AreBilled c me bills start now) (last : Option ℕ) → ArePaired last (all_calls c me bills start now is)
links_paired c me [] start now is last = tt
links_paired c me (bill ∷ bills) start now is last =
    link_paired last bill.held bill.receipt is.1 (all_calls c me bills is.0 now is.4) is.3
    (links_paired c me bills is.0 now is.4)

front_paired : (last : Option ℕ) (first later : Pairs) → ArePaired last (first ++ later) → ArePaired last first
front_paired last [] later is = tt
front_paired last (pair ∷ first) later is = (is.0, front_paired (entered_by pair.0 pair.1) first later is.1)

-- ---- who is inside an account

among_still : (me by : ℕ) (callers : List ℕ) → (by ≡ me → ⊥) → is_among me callers ≡ true
    → is_among me (without by callers) ≡ true
among_still me by [] other mine = mine
among_still me by (caller ∷ callers) other mine =
    by_tests (among_still me by callers other) (caller == by) refl (caller == me) refl mine where
      by_tests : (is_among me callers ≡ true → is_among me (without by callers) ≡ true) → (b : Bool)
          → (caller == by) ≡ b → (d : Bool) → (caller == me) ≡ d → (if d then true else is_among me callers) ≡ true
          → is_among me (if b then callers else caller ∷ without by callers) ≡ true
      by_tests later true this true same mine =
          absurd (other (sym (eqb-true caller by this) ∙ eqb-true caller me same))
      by_tests later true this false apart mine = mine
      by_tests later false that true same mine =
          ap (λ (t : Bool). if t then true else is_among me (without by callers)) same
      by_tests later false that false apart mine =
          ap (λ (t : Bool). if t then true else is_among me (without by callers)) apart ∙ later mine

-- a caller that is inside stays there while others call
others_call : (cap account me by : ℕ) (callers : List ℕ) (call : BookCall) → (by ≡ me → ⊥)
    → is_among me callers ≡ true → is_among me (goes cap account callers by call) ≡ true
others_call cap account me by callers (Enter entered) other mine =
    by_tests (entered == account) (length callers == cap) (by == me) refl where
      by_tests : (b d e : Bool) → (by == me) ≡ e
          → is_among me (if b then if d then callers else by ∷ callers else callers) ≡ true
      by_tests true true e is = mine
      by_tests true false true is = absurd (other (eqb-true by me is))
      by_tests true false false is = ap (λ (t : Bool). if t then true else is_among me callers) is ∙ mine
      by_tests false d e is = mine
others_call cap account me by callers (Leave left sent overrun) other mine = by_test (left == account) where
  by_test : (b : Bool) → is_among me (if b then without by callers else callers) ≡ true
  by_test true = among_still me by callers other mine
  by_test false = mine

-- who entered this account by its last call is inside it
abbrev IsInsideBy : ℕ → ℕ → List ℕ → Option ℕ → Type 0
IsInsideBy account me callers last = last ≡ Some account → is_among me callers ≡ true

-- what one call changes of how many are inside
one_call : (cap account me : ℕ) (callers : List ℕ) (call : BookCall)
    → (leaves account call ≡ true → is_among me callers ≡ true)
    → length (goes cap account callers me call) + one (leaves account call)
    ≡ length callers + one (enters account call && is_entered (entry_answer (length callers) cap))
one_call cap account me callers (Enter entered) mine = by_tests (entered == account) (length callers == cap) where
  by_tests : (b d : Bool) → length (if b then if d then callers else me ∷ callers else callers) + one false
      ≡ length callers + one (b && is_entered (if d then Full (length callers) cap else Entered))
  by_tests true true = refl
  by_tests true false = omega arith
  by_tests false d = refl
one_call cap account me callers (Leave left sent overrun) mine = by_test (left == account) mine where
  by_test : (b : Bool) → (b ≡ true → is_among me callers ≡ true)
      → length (if b then without me callers else callers) + one b ≡ length callers + one false
  by_test true here = omega (arith, length_without me callers (here refl))
  by_test false here = refl

module _ (c : Config) (account : ℕ) where
  abbrev cap : ℕ
  cap = cap_at (caps c) account

  abbrev callers : History BookCall → List ℕ
  callers h = callers_in cap account h

  -- who was let in by this call is inside behind it
  entered_inside : (before : History BookCall) (by : ℕ) (call : BookCall)
      → entered_by call (book_answer c before by call) ≡ Some account
      → is_among by (goes cap account (callers before) by call) ≡ true
  entered_inside before by (Enter entered) let_in =
      by_test (inside (cap_at (caps c) entered) entered before == cap_at (caps c) entered) refl let_in where
        so : entered ≡ account → (inside (cap_at (caps c) entered) entered before == cap_at (caps c) entered) ≡ false
            → is_among by (goes cap account (callers before) by (Enter entered)) ≡ true
        so same room =
            let here : (length (callers before) == cap) ≡ false =
            subst (λ (n : ℕ). (inside (cap_at (caps c) n) n before == cap_at (caps c) n) ≡ false) same room in
            ap (λ (b : Bool). is_among by (if b then if length (callers before) == cap then callers before
            else by ∷ callers before else callers before)) (eq-eqb entered account same)
            ∙ ap (λ (b : Bool). is_among by (if b then callers before else by ∷ callers before)) here
            ∙ ap (λ (b : Bool). if b then true else is_among by (callers before)) (eq-eqb by by refl)

        by_test : (b : Bool) → (inside (cap_at (caps c) entered) entered before == cap_at (caps c) entered) ≡ b
            → entered_by (Enter entered) (if b
            then Full (inside (cap_at (caps c) entered) entered before) (cap_at (caps c) entered) else Entered)
            ≡ Some account → is_among by (goes cap account (callers before) by (Enter entered)) ≡ true
        by_test true full let_in = absurd cc
        by_test false room let_in = so (let e : entered ≡ account = cc in e) room
  entered_inside before by (Leave left sent overrun) let_in = absurd cc

  -- before these entries a caller stands so: it leaves this account only where it is inside
  abbrev Stands : ℕ → History BookCall → History BookCall → Type 0
  Stands me before entries =
      (last : Option ℕ) × ArePaired last (told (book_answer c) me before entries)
      × IsInsideBy account me (callers before) last

  next : (me : ℕ) (before : History BookCall) (by : ℕ) (call : BookCall) (entries : History BookCall)
      → Stands me before ((by, call) ∷ entries) → Stands me (before ++ (by, call) ∷ []) entries
  next me before by call entries (last, paired, within) = by_test (by == me) refl paired where
    after_is : callers (before ++ (by, call) ∷ []) ≡ goes cap account (callers before) by call
    after_is = callers_after cap account before by call

    by_test : (b : Bool) → (by == me) ≡ b
        → ArePaired last (if b then (call, book_answer c before me call)
        ∷ told (book_answer c) me (before ++ (by, call) ∷ []) entries
        else told (book_answer c) me (before ++ (by, call) ∷ []) entries)
        → Stands me (before ++ (by, call) ∷ []) entries
    by_test true is both = (
      entered_by call (book_answer c before me call),
      both.1,
      λ let_in.
          ap (is_among me) after_is
          ∙ subst (λ (n : ℕ). is_among n (goes cap account (callers before) by call) ≡ true) (eqb-true by me is)
          (entered_inside before by call let_in),
    )
    by_test false is both = (
      last,
      both,
      λ same.
          ap (is_among me) after_is
          ∙ others_call cap account me by (callers before) call (eqb-false by me is) (within same),
    )

  leaver : (before : History BookCall) (by : ℕ) (call : BookCall) (entries : History BookCall)
      → Stands by before ((by, call) ∷ entries) → leaves account call ≡ true → is_among by (callers before) ≡ true
  leaver before by call entries (last, paired, within) leaving =
      let both = subst (λ (b : Bool). ArePaired last (if b then (call, book_answer c before by call)
      ∷ told (book_answer c) by (before ++ (by, call) ∷ []) entries
      else told (book_answer c) by (before ++ (by, call) ∷ []) entries)) (eq-eqb by by refl) paired in
      of_call call both.0 leaving where
        of_call : (call : BookCall) → FitsBehind last call → leaves account call ≡ true
            → is_among by (callers before) ≡ true
        of_call (Enter entered) fits leaving = absurd cc
        of_call (Leave left sent overrun) fits leaving = within (fits ∙ ap Some (eqb-true left account leaving))

  counted : (count : ℕ) (before entries : History BookCall) → All (λ (e : ℕ × BookCall). e.0 < count) entries
      → ((me : ℕ) → me < count → Stands me before entries)
      → inside cap account (before ++ entries) + ended account (λ _. true) entries
      ≡ inside cap account before + opened (caps c) account (λ _. true) before entries
  counted count before [] below each = ap (λ (l : History BookCall). inside cap account l + 0) (append-nil before)
  counted count before (entry ∷ entries) below each =
      let whole : inside cap account ((before ++ entry ∷ []) ++ entries) ≡ inside cap account (before ++ entry ∷ entries) =
      ap (inside cap account) (append_assoc before (entry ∷ []) entries) in
      let goes_is : inside cap account (before ++ entry ∷ [])
      ≡ length (goes cap account (callers before) entry.0 entry.1) =
      ap (λ (l : List ℕ). length l) (callers_after cap account before entry.0 entry.1) in
      let few : entry.0 < count = All-head (λ (e : ℕ × BookCall). e.0 < count) entry entries below in
      omega (
        arith,
        whole,
        goes_is,
        one_call cap account entry.0 (callers before) entry.1
            (leaver before entry.0 entry.1 entries (each entry.0 few)),
        counted count (before ++ entry ∷ []) entries
            (All-tail (λ (e : ℕ × BookCall). e.0 < count) entry entries below)
            (λ me less. next me before entry.0 entry.1 entries (each me less)),
      )

-- ---- the whole book

front_below : (count : ℕ) (first later : History BookCall) → All (λ (e : ℕ × BookCall). e.0 < count) (first ++ later)
    → All (λ (e : ℕ × BookCall). e.0 < count) first
front_below count [] later all = All-nil (λ (e : ℕ × BookCall). e.0 < count)
front_below count (entry ∷ first) later all =
    All-cons (λ (e : ℕ × BookCall). e.0 < count) entry first
    (All-head (λ (e : ℕ × BookCall). e.0 < count) entry (first ++ later) all)
    (front_below count first later (All-tail (λ (e : ℕ × BookCall). e.0 < count) entry (first ++ later) all))

module _ {X : Type 0} (seen_by : X → History BookCall) (bills_by : X → List Bill) where
  -- each of these callers left only what it had entered
  each_paired : (c : Config) (book : History BookCall) (n : ℕ) (xs : List X) → AreInBook seen_by bills_by c book n xs
      → (k me : ℕ) → me ≡ n + k → k < length xs → ArePaired None (told (book_answer c) me [] book)
  each_paired c book n [] is k me same low = let no_more : ⊥ = omega (arith, low) in absurd no_more
  each_paired c book n (x ∷ xs) is zero me same low =
      let grows = links_grow c n (bills_by x) [] (seen_by x) is.0 in
      let goes_on = is.1 in
      let all : told (book_answer c) n [] book ≡ all_calls c n (bills_by x) [] (seen_by x) is.0 =
      ap (told (book_answer c) n []) goes_on.1
      ∙ told-append (book_answer c) n [] (seen_by x) goes_on.0
      ∙ ap (λ (l : Pairs). told (book_answer c) n [] (seen_by x) ++ l)
      (told_none (book_answer c) n (seen_by x) goes_on.0 goes_on.2)
      ∙ append-nil (told (book_answer c) n [] (seen_by x))
      ∙ ap (told (book_answer c) n []) grows.on ∙ grows.mine in
      let here : n ≡ me = omega (arith, same) in
      subst (λ (m : ℕ). ArePaired None (told (book_answer c) m [] book)) here
      (subst (ArePaired None) (sym all) (links_paired c n (bills_by x) [] (seen_by x) is.0 None))
  each_paired c book n (x ∷ xs) is (suc k) me same low =
      each_paired c book (n + 1) xs is.2 k me (omega (arith, same)) (omega (arith, low))

  pub are_capped : (c : Config) (book : History BookCall) (xs : List X) → AreInBook seen_by bills_by c book 0 xs
      → All (λ (e : ℕ × BookCall). e.0 < length xs) book → AreCapped c book
  are_capped c book xs is below before after account same =
      let stands : (me : ℕ) → me < length xs → Stands c account me [] before = λ me low. (
        None,
        front_paired None (told (book_answer c) me [] before) (told (book_answer c) me before after)
            (subst (ArePaired None)
            (ap (told (book_answer c) me []) same ∙ told-append (book_answer c) me [] before after)
            (each_paired c book 0 xs is me me (omega arith) low)),
        λ none. absurd cc,
      ) in
      let all = counted c account (length xs) [] before
      (front_below (length xs) before after
      (subst (All (λ (e : ℕ × BookCall). e.0 < length xs)) same below)) stands in (
        inside (cap_at (caps c) account) account before,
        omega (arith, all),
        inside_capped (cap_at (caps c) account) account before,
      )
