-- The sums of an account are those of the receipts of its rovers.
use Rattle.std.proofs.Common.{◌≡◌, ◌∙◌, ◌++◌, ◌+◌, ◌<◌, ◌≤◌, ℕ, Bool, true, false, List, [], ◌∷◌, length, fold, All, Option, None, Some, inl, inr, refl, sym, ap, append_assoc, arith}
use Rattle.std.specs.Prelude.{◌==◌, ◌&&◌, if◌then◌else◌, ⊤}
use Rattle.std.specs.List.{flat_map}
use Rattle.std.proofs.lemmas.Bool.{eqb-true, eqb-false}
use Rattle.std.proofs.lemmas.Grind.{fold-append}
use Rattle.std.proofs.lemmas.List.{append-nil}
use Rattle.std.proofs.lemmas.List.Elements.{All-head, All-tail}
use Rattle.turn_log.specs.History.{History, GoesOn, own}
use Rattle.turn_log.specs.Heard.{Heard, calls_in, told}
use Rattle.turn_log.proofs.HeardLaws.{calls_told, told-append}
use Rattle.turn_log.proofs.HistoryLaws.{own-append}
use Rattle.caster_accounts.specs.declared.account.Sum.{Sum}
use Rattle.caster_accounts.specs.declared.call.BookCall.{BookCall}
use Rattle.caster_accounts.specs.declared.call.BookCall.TheVariants.{Enter, Leave}
use Rattle.caster_accounts.specs.declared.call.BookAnswer.{BookAnswer}
use Rattle.caster_accounts.specs.Sums.{added, nothing, after_call, total}
use Rattle.caster_serve.proofs.StreetLemmas.{sum_of}
use Rattle.cast_config.specs.declared.config.Account.{Account}
use Rattle.cast_config.specs.declared.config.Config.{Config}
use Rattle.session_model.specs.declared.report.Receipt.{Receipt}
use Rattle.session_model.specs.Called.{book_answer}
use Rattle.session_model.specs.Reports.{sums_from}
use Rattle.session_model.specs.Run.{Histories}
use Rattle.session_core.specs.declared.held.Held.{Held}
use Rattle.session_core.specs.declared.held.Held.TheVariants as holds
use Rattle.serve_promise.specs.Accounts.{AreBookCalls, IsTurnedAway, Bill, leaves_with, is_of, tallied_at, sums_by}

abbrev pub Pairs : Type 0
Pairs = List (BookCall × BookAnswer)

-- the sum of an account after these calls
abbrev after : ℕ → Sum → List BookCall → Sum
after account sum calls = fold (after_call account) sum calls

-- ---- one link

away_adds : (account : ℕ) (sum : Sum) (calls : Pairs) → IsTurnedAway calls
    → after account sum (calls_in calls) ≡ sum
away_adds account sum calls (inl none) = ap (λ (l : Pairs). after account sum (calls_in l)) none
away_adds account sum calls (inr is) = ap (λ (l : Pairs). after account sum (calls_in l)) is.3

left_adds : (account entered : ℕ) (sum : Sum) (settled : Bool) (receipt : Receipt)
    → after account sum (calls_in (leaves_with settled entered receipt))
    ≡ (if (entered == account) && settled then added sum receipt.sent receipt.overrun else sum)
left_adds account entered sum true receipt = by_test (entered == account) where
  by_test : (b : Bool) → (if b then added sum receipt.sent receipt.overrun else sum)
      ≡ (if b && true then added sum receipt.sent receipt.overrun else sum)
  by_test true = refl
  by_test false = refl
left_adds account entered sum false receipt = by_test (entered == account) where
  by_test : (b : Bool) → sum ≡ (if b && false then added sum receipt.sent receipt.overrun else sum)
  by_test true = refl
  by_test false = refl

link_adds : (account : ℕ) (sum : Sum) (held : Held) (receipt : Receipt) (calls : Pairs)
    → AreBookCalls held receipt calls
    → after account sum (calls_in calls)
    ≡ (if is_of account held && receipt.settled then added sum receipt.sent receipt.overrun else sum)
link_adds account sum holds.Nothing receipt calls is = away_adds account sum calls is
link_adds account sum (holds.Rover entered) receipt calls is =
    ap (λ (l : Pairs). after account sum (calls_in l)) is
    ∙ left_adds account entered sum receipt.settled receipt
link_adds account sum (holds.Source mount claim) receipt calls is =
    ap (λ (l : Pairs). after account sum (calls_in l)) is
link_adds account sum (holds.Relay mount claim) receipt calls is = relay_adds claim is where
  relay_adds : (claim : Option ℕ) → AreBookCalls (holds.Relay mount claim) receipt calls
      → after account sum (calls_in calls) ≡ sum
  relay_adds None is = away_adds account sum calls is
  relay_adds (Some given) is = ap (λ (l : Pairs). after account sum (calls_in l)) is

-- ---- the links of a caller

-- one after the other they were billed so, from the first of these histories of the book to the
-- last
abbrev pub AreBilled : Config → ℕ → List Bill → History BookCall → History BookCall → Type 0
AreBilled c me [] start now = now ≡ start
AreBilled c me (bill ∷ bills) start now =
    (between : History BookCall) × (calls : Pairs) × Heard false (book_answer c) start between me calls
    × AreBookCalls bill.held bill.receipt calls × AreBilled c me bills between now

-- all calls of these links
abbrev pub all_calls : (c : Config) (me : ℕ) (bills : List Bill) (start now : History BookCall)
    → AreBilled c me bills start now → Pairs
all_calls c me [] start now is = []
all_calls c me (bill ∷ bills) start now is = is.1 ++ all_calls c me bills is.0 now is.4

-- the book went on, these are all calls that the caller made since, and by them the sum of an
-- account grew by these links
pub record Grows (c : Config) (me : ℕ) (bills : List Bill) (start now : History BookCall) (calls : Pairs) : Type 0
  where
    pub more : History BookCall
    pub on : now ≡ start ++ more
    pub mine : told (book_answer c) me start more ≡ calls
    pub sums : (account : ℕ) (sum : Sum) → after account sum (own me more) ≡ fold (tallied_at account) sum bills

pub links_grow : (c : Config) (me : ℕ) (bills : List Bill) (start now : History BookCall)
    (is : AreBilled c me bills start now) → Grows c me bills start now (all_calls c me bills start now is)
links_grow c me [] start now same = record {
  more = [];
  on = same ∙ sym (append-nil start);
  mine = refl;
  sums = λ account sum. refl;
}
links_grow c me (bill ∷ bills) start now is =
    let heard = is.2 in
    let rest = links_grow c me bills is.0 now is.4 in
    let mine : own me heard.more ≡ calls_in is.1 =
    sym (calls_told (book_answer c) me start heard.more) ∙ ap calls_in heard.mine in
    record {
      more = heard.more ++ rest.more;
      on = rest.on ∙ ap (λ (h : History BookCall). h ++ rest.more) heard.seen
          ∙ append_assoc start heard.more rest.more;
      mine = told-append (book_answer c) me start heard.more rest.more
          ∙ ap (λ (l : Pairs). l ++ told (book_answer c) me (start ++ heard.more) rest.more) heard.mine
          ∙ ap (λ (h : History BookCall). is.1 ++ told (book_answer c) me h rest.more) (sym heard.seen)
          ∙ ap (λ (l : Pairs). is.1 ++ l) rest.mine;
      sums = λ account sum.
          ap (after account sum) (own-append me heard.more rest.more)
          ∙ fold-append (after_call account) sum (own me heard.more) (own me rest.more)
          ∙ ap (λ (s : Sum). after account s (own me rest.more))
          (ap (after account sum) mine
          ∙ link_adds account sum bill.held bill.receipt is.1 is.3)
          ∙ rest.sums account (tallied_at account sum bill);
    }

-- ---- calls in any order

added_twice : (sum : Sum) (a b c d : ℕ) → added (added sum a b) c d ≡ added (added sum c d) a b
added_twice sum a b c d =
    let sessions : ℕ = (sum.sessions + 1) + 1 in
    let sent : (sum.sent + a) + c ≡ (sum.sent + c) + a = omega arith in
    let overrun : (sum.overrun + b) + d ≡ (sum.overrun + d) + b = omega arith in
    ap (λ (n : ℕ). sum_of sessions n ((sum.overrun + b) + d)) sent
    ∙ ap (λ (n : ℕ). sum_of sessions ((sum.sent + c) + a) n) overrun

swapped : (account : ℕ) (sum : Sum) (x y : BookCall)
    → after_call account (after_call account sum x) y ≡ after_call account (after_call account sum y) x
swapped account sum (Enter a) y = refl
swapped account sum (Leave a sent overrun) (Enter b) = refl
swapped account sum (Leave a sent overrun) (Leave b more lost) = by_tests (a == account) (b == account) where
  by_tests : (p q : Bool)
      → (if q then added (if p then added sum sent overrun else sum) more lost
      else (if p then added sum sent overrun else sum))
      ≡ (if p then added (if q then added sum more lost else sum) sent overrun
      else (if q then added sum more lost else sum))
  by_tests true true = added_twice sum sent overrun more lost
  by_tests true false = refl
  by_tests false true = refl
  by_tests false false = refl

-- a call before these counts as behind them
pulled : (account : ℕ) (sum : Sum) (x : BookCall) (calls : List BookCall)
    → after account (after_call account sum x) calls ≡ after_call account (after account sum calls) x
pulled account sum x [] = refl
pulled account sum x (call ∷ calls) =
    ap (λ (s : Sum). after account s calls) (swapped account sum x call)
    ∙ pulled account (after_call account sum call) x calls

-- the sum of an account by the own calls of so many callers, numbered from this number on
abbrev by_callers : {X : Type 0} → ℕ → Sum → ℕ → List X → History BookCall → Sum
by_callers account sum k [] h = sum
by_callers {X} account sum k (x ∷ xs) h = by_callers account (after account sum (own k h)) (k + 1) xs h

none_own : (k by : ℕ) (call : BookCall) (h : History BookCall) → (by ≡ k → ⊥) → own k ((by, call) ∷ h) ≡ own k h
none_own k by call h other = by_test (by == k) refl where
  by_test : (b : Bool) → (by == k) ≡ b → (if b then call ∷ own k h else own k h) ≡ own k h
  by_test true same = absurd (other (eqb-true by k same))
  by_test false apart = refl

one_own : (k by : ℕ) (call : BookCall) (h : History BookCall) → by ≡ k → own k ((by, call) ∷ h) ≡ call ∷ own k h
one_own k by call h same = by_test (by == k) refl where
  by_test : (b : Bool) → (by == k) ≡ b → (if b then call ∷ own k h else own k h) ≡ call ∷ own k h
  by_test true is = refl
  by_test false other = absurd (eqb-false by k other same)

module _ {X : Type 0} (account : ℕ) where
  -- a call of a caller before them
  missed : (sum : Sum) (k : ℕ) (xs : List X) (by : ℕ) (call : BookCall) (h : History BookCall) → by < k
      → by_callers account sum k xs ((by, call) ∷ h) ≡ by_callers account sum k xs h
  missed sum k [] by call h low = refl
  missed sum k (x ∷ xs) by call h low =
      ap (λ (l : List BookCall). by_callers account (after account sum l) (k + 1) xs ((by, call) ∷ h))
      (none_own k by call h (λ same. omega (arith, low, same)))
      ∙ missed (after account sum (own k h)) (k + 1) xs by call h (omega (arith, low))

  -- a call of one of them
  hit : (sum : Sum) (k : ℕ) (xs : List X) (by : ℕ) (call : BookCall) (h : History BookCall) → k ≤ by
      → by < k + length xs
      → by_callers account sum k xs ((by, call) ∷ h) ≡ by_callers account (after_call account sum call) k xs h
  hit sum k [] by call h low high = absurd (let no : ⊥ = omega (arith, low, high) in no)
  hit sum k (x ∷ xs) by call h low high =
      by_test (by == k) refl (λ (s : Sum) (higher : k + 1 ≤ by). hit s (k + 1) xs by call h higher (omega (arith, high)))
    where
      later : (by ≡ k → ⊥) → k + 1 ≤ by
      later other = omega (arith, low, other)

      by_test : (b : Bool) → (by == k) ≡ b
          → ((s : Sum) → k + 1 ≤ by → by_callers account s (k + 1) xs ((by, call) ∷ h)
          ≡ by_callers account (after_call account s call) (k + 1) xs h)
          → by_callers account (after account sum (own k ((by, call) ∷ h))) (k + 1) xs ((by, call) ∷ h)
          ≡ by_callers account (after account (after_call account sum call) (own k h)) (k + 1) xs h
      by_test true is next =
          let same : by ≡ k = eqb-true by k is in
          ap (λ (l : List BookCall). by_callers account (after account sum l) (k + 1) xs ((by, call) ∷ h))
          (one_own k by call h same)
          ∙ missed (after account (after_call account sum call) (own k h)) (k + 1) xs by call h (omega (arith, same))
      by_test false apart next =
          ap (λ (l : List BookCall). by_callers account (after account sum l) (k + 1) xs ((by, call) ∷ h))
          (none_own k by call h (eqb-false by k apart))
          ∙ next (after account sum (own k h)) (later (eqb-false by k apart))
          ∙ ap (λ (s : Sum). by_callers account s (k + 1) xs h) (sym (pulled account sum call (own k h)))

  -- in the order in which they were made, or caller by caller
  in_order : (sum : Sum) (xs : List X) (h : History BookCall) → All (λ (e : ℕ × BookCall). e.0 < length xs) h
      → fold (λ s (e : ℕ × BookCall). after_call account s e.1) sum h ≡ by_callers account sum 0 xs h
  in_order sum xs [] below = empty sum 0 xs where
    empty : (s : Sum) (k : ℕ) (ys : List X) → s ≡ by_callers account s k ys []
    empty s k [] = refl
    empty s k (y ∷ ys) = empty s (k + 1) ys
  in_order sum xs (e ∷ h) below =
      let first : e.0 < length xs = All-head (λ (d : ℕ × BookCall). d.0 < length xs) e h below in
      in_order (after_call account sum e.1) xs h (All-tail (λ (d : ℕ × BookCall). d.0 < length xs) e h below)
      ∙ sym (hit sum 0 xs e.0 e.1 h (omega arith) (omega (arith, first)))

-- ---- all callers

own_seen : (me : ℕ) (seen whole : History BookCall) → GoesOn me seen whole → own me whole ≡ own me seen
own_seen me seen whole goes =
    ap (own me) goes.1 ∙ own-append me seen goes.0 ∙ ap (λ (l : List BookCall). own me seen ++ l) goes.2
    ∙ append-nil (own me seen)

-- what callers have seen of the book, and the bills of their links
module _ {X : Type 0} (seen_by : X → History BookCall) (bills_by : X → List Bill) where
  -- these callers, numbered from this number on, called in the book for their links alone
  abbrev pub AreInBook : Config → History BookCall → ℕ → List X → Type 0
  AreInBook c book n [] = ⊤
  AreInBook c book n (x ∷ xs) =
      AreBilled c n (bills_by x) [] (seen_by x) × GoesOn n (seen_by x) book × AreInBook c book (n + 1) xs

  callers_add : (c : Config) (book : History BookCall) (account : ℕ) (sum : Sum) (n : ℕ) (xs : List X)
      → AreInBook c book n xs
      → by_callers account sum n xs book ≡ fold (tallied_at account) sum (flat_map bills_by xs)
  callers_add c book account sum n [] is = refl
  callers_add c book account sum n (x ∷ xs) is =
      let grows = links_grow c n (bills_by x) [] (seen_by x) is.0 in
      ap (λ (l : List BookCall). by_callers account (after account sum l) (n + 1) xs book)
      (own_seen n (seen_by x) book is.1 ∙ ap (own n) grows.on)
      ∙ ap (λ (s : Sum). by_callers account s (n + 1) xs book) (grows.sums account sum)
      ∙ callers_add c book account (fold (tallied_at account) sum (bills_by x)) (n + 1) xs is.2
      ∙ sym (fold-append (tallied_at account) sum (bills_by x) (flat_map bills_by xs))

  account_total : (c : Config) (book : History BookCall) (account : ℕ) (xs : List X) → AreInBook c book 0 xs
      → All (λ (e : ℕ × BookCall). e.0 < length xs) book
      → total account book ≡ fold (tallied_at account) nothing (flat_map bills_by xs)
  account_total c book account xs is below =
      in_order account nothing xs book below ∙ callers_add c book account nothing 0 xs is

  pub account_totals : (c : Config) (n : ℕ) (accounts : List Account) (histories : Histories) (xs : List X)
      → AreInBook c histories.book 0 xs → All (λ (e : ℕ × BookCall). e.0 < length xs) histories.book
      → sums_from n histories accounts ≡ sums_by n (flat_map bills_by xs) accounts
  account_totals c n [] histories xs is below = refl
  account_totals c n (account ∷ accounts) histories xs is below =
      ap (λ (s : Sum). s ∷ sums_from (n + 1) histories accounts)
      (account_total c histories.book n xs is below)
      ∙ ap (λ (l : List Sum). fold (tallied_at n) nothing (flat_map bills_by xs) ∷ l)
      (account_totals c (n + 1) accounts histories xs is below)
