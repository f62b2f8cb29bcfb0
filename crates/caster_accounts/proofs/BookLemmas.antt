-- What one more entry changes of the accounts that a book keeps.
use Rattle.std.proofs.Common.{◌≡◌, ℕ, zero, suc, ◌⊎◌, inl, inr, ◌+◌, ◌^◌, ◌<◌, Bool, true, false, List, [], ◌∷◌, ◌++◌, length, map, take, get_or, set, refl, ap, subst, ◌∙◌, sym, arith, length-append, Some}
use Rattle.std.specs.Prelude.{◌==◌, ◌≢◌, if◌then◌else◌, unwrap_or, slice_get, nat_lt, Result, Ok, Err, IfOk, IfErr}
use Rattle.std.proofs.lemmas.Bool.{eqb-true, eqb-false, eq-eqb, and_parts, and_from, leb-true}
use Rattle.std.proofs.lemmas.Option.{slice_get-map, slice_get_within, get_or_from_slice_get, slice_get-get_or, slice_get_read}
use Rattle.std.proofs.lemmas.Grind.{get_or-set_at}
use Rattle.std.proofs.lemmas.List.{get_or-set_other, length-set, length-map, map-append, take_more}
use Rattle.std.proofs.lemmas.List.Sums.{fold-append}
use Rattle.std.proofs.Math.Seq.{map-set_same}
use Rattle.std.specs.Option.{option_map}
use Rattle.caster_accounts.specs.declared.account.Account.{Account}
use Rattle.caster_accounts.specs.declared.account.Sum.{Sum}
use Rattle.caster_accounts.specs.declared.call.BookCall.{BookCall}
use Rattle.caster_accounts.specs.declared.call.BookCall.TheVariants.{Enter, Leave}
use Rattle.caster_accounts.specs.declared.call.BookAnswer.TheVariants.{Full, Entered, Left}
use Rattle.caster_accounts.specs.declared.call.BookAnswer.{BookAnswer}
use Rattle.turn_log.specs.Faults.{IsFault, worn_of}
use Rattle.turn_log.specs.declared.place.TurnFault.{TurnFault}
use Rattle.caster_accounts.specs.History.{cap_at, without, is_among, goes, callers_in, inside, fits, may_leave, answer, entry_answer}
use Rattle.caster_accounts.specs.Sums.{nothing, added, after_call, after_any, total, total_of_all}
use Rattle.caster_accounts.specs.Kept.{entered, left, IsWithin, KeepsAccount, KeepsEach}
use Rattle.caster_accounts.specs.StillFits.{callers_after, still_fits_one}

-- the caps of these accounts
abbrev pub caps : List Account → List ℕ
caps accounts = map (λ (account : Account). account.cap) accounts

pub cap_found : (accounts : List Account) (place : ℕ) (account : Account) → slice_get accounts place ≡ Some account →
    cap_at (caps accounts) place ≡ account.cap
cap_found accounts place account at =
    ap (λ o. unwrap_or o 0) (slice_get-map (λ (a : Account). a.cap) accounts place
    ∙ ap (option_map (λ (a : Account). a.cap)) at)

-- the caps stay where an account keeps its cap
pub caps_stay : (accounts : List Account) (place : ℕ) (account now : Account)
    → slice_get accounts place ≡ Some account →
    now.cap ≡ account.cap → caps (set accounts place now) ≡ caps accounts
caps_stay accounts place account now at same =
    map-set_same (λ (a : Account). a.cap) accounts place now account
    (same ∙ ap (λ (a : Account). a.cap) (sym (get_or_from_slice_get accounts place account account at)))

pub total_after : (place : ℕ) (h : List (ℕ × BookCall)) (by : ℕ) (call : BookCall) →
    total place (h ++ (by, call) ∷ []) ≡ after_call place (total place h) call
total_after place h by call = fold-append (λ sum entry. after_call place sum entry.1) nothing h ((by, call) ∷ [])

-- ---- callers

pub length_without : (me : ℕ) (callers : List ℕ) → is_among me callers ≡ true
    → suc (length (without me callers)) ≡ length callers
length_without me [] mine = absurd cc
length_without me (caller ∷ callers) mine = by_test (length_without me callers) (caller == me) mine where
  by_test : (is_among me callers ≡ true → suc (length (without me callers)) ≡ length callers) → (b : Bool) →
      (if b then true else is_among me callers) ≡ true →
      suc (length (if b then callers else caller ∷ without me callers)) ≡ suc (length callers)
  by_test later true here = refl
  by_test later false here = ap suc (later here)

-- ---- sums

-- before the first call
pub bounded_none : IsWithin [] nothing
bounded_none = record { sessions = omega arith; sent = omega arith; overrun = omega arith }

-- a longer history bounds what a shorter one did
pub bounded_more : (h : List (ℕ × BookCall)) (entry : ℕ × BookCall) (sum : Sum) → IsWithin h sum →
    IsWithin (h ++ entry ∷ []) sum
bounded_more h entry sum within =
    let longer : length (h ++ entry ∷ []) ≡ length h + 1 = length-append h (entry ∷ []) in
    record {
      sessions = omega (arith, within.sessions, longer);
      sent = omega (arith, within.sent, longer);
      overrun = omega (arith, within.overrun, longer);
    }

-- and one more session
pub bounded_added : (h : List (ℕ × BookCall)) (entry : ℕ × BookCall) (sent overrun : ℕ) (sum : Sum) → IsWithin h sum →
    sent < 2 ^ 64 → overrun < 2 ^ 64 → IsWithin (h ++ entry ∷ []) (added sum sent overrun)
bounded_added h entry sent overrun sum within sent_small overrun_small =
    let longer : length (h ++ entry ∷ []) ≡ length h + 1 = length-append h (entry ∷ []) in
    record {
      sessions = omega (arith, within.sessions, longer);
      sent = omega (arith, within.sent, longer, sent_small);
      overrun = omega (arith, within.overrun, longer, overrun_small);
    }

pub all_after : (h : List (ℕ × BookCall)) (by : ℕ) (call : BookCall) →
    total_of_all (h ++ (by, call) ∷ []) ≡ after_any (total_of_all h) call
all_after h by call = fold-append (λ sum entry. after_any sum entry.1) nothing h ((by, call) ∷ [])

-- ---- one account

-- an entry that changes neither who is inside nor the sums
kept_more : (h : List (ℕ × BookCall)) (entry : ℕ × BookCall) (place : ℕ) (account : Account)
    → KeepsAccount h place account →
    inside account.cap place (h ++ entry ∷ []) ≡ inside account.cap place h
    → total place (h ++ entry ∷ []) ≡ total place h →
    KeepsAccount (h ++ entry ∷ []) place account
kept_more h entry place account keeps same_inside same_total =
    record {
      busy = keeps.busy ∙ sym same_inside;
      within = keeps.within;
      sum = keeps.sum ∙ sym same_total;
      bounded = bounded_more h entry account.sum keeps.bounded;
    }

-- who is inside after an Enter of this account
inside_entered : (cap place me : ℕ) (h : List (ℕ × BookCall)) →
    inside cap place (h ++ (me, Enter place) ∷ []) ≡ (if inside cap place h == cap then inside cap place h else inside
    cap place h + 1)
inside_entered cap place me h =
    ap length (callers_after cap place h me (Enter place))
    ∙ ap (λ (b : Bool). length (if b then if inside cap place h == cap then callers_in cap place h else me ∷ callers_in
    cap place h else callers_in cap place h)) (eq-eqb place place refl)
    ∙ by_test (inside cap place h == cap) where
      by_test : (b : Bool) → length (if b then callers_in cap place h else me ∷ callers_in cap place h)
          ≡ (if b then inside cap place h else inside cap place h + 1)
      by_test true = refl
      by_test false = omega arith

-- this account, where one more asked to enter
kept_entered : (h : List (ℕ × BookCall)) (place me : ℕ) (account : Account) → KeepsAccount h place account →
    KeepsAccount (h ++ (me, Enter place) ∷ []) place (entered account)
kept_entered h place me account keeps = by_test (account.busy == account.cap) refl where
  same_test : (b : Bool) → (account.busy == account.cap) ≡ b → (inside account.cap place h == account.cap) ≡ b
  same_test b is = ap (λ n. n == account.cap) (sym keeps.busy) ∙ is

  inside_now : (b : Bool) → (account.busy == account.cap) ≡ b →
      inside account.cap place (h ++ (me, Enter place) ∷ []) ≡ (if b then inside account.cap place h else inside
      account.cap place h + 1)
  inside_now b is =
      inside_entered account.cap place me h
      ∙ ap (λ (t : Bool). if t then inside account.cap place h else inside account.cap place h + 1) (same_test b is)

  by_test : (b : Bool) → (account.busy == account.cap) ≡ b →
      KeepsAccount (h ++ (me, Enter place) ∷ []) place (if b then account else
      record account { busy = account.busy + 1 })
  by_test true is = kept_more h (me, Enter place) place account keeps (inside_now true is)
      (total_after place h me (Enter place))
  by_test false is =
      let apart : account.busy ≢ account.cap = eqb-false account.busy account.cap is in
      record {
        busy = ap (λ n. n + 1) keeps.busy ∙ sym (inside_now false is);
        within = omega (arith, keeps.within, apart);
        sum = keeps.sum ∙ sym (total_after place h me (Enter place));
        bounded = bounded_more h (me, Enter place) account.sum keeps.bounded;
      }

-- who is inside after a Leave of this account by one who was
inside_left : (cap place me sent overrun : ℕ) (h : List (ℕ × BookCall)) → is_among me (callers_in cap place h) ≡ true →
    inside cap place h ≡ inside cap place (h ++ (me, Leave place sent overrun) ∷ []) + 1
inside_left cap place me sent overrun h mine =
    let goes_is : inside cap place (h ++ (me, Leave place sent overrun) ∷ []) ≡ length
    (without me (callers_in cap place h)) =
    ap length (callers_after cap place h me (Leave place sent overrun))
    ∙ ap (λ (b : Bool). length (if b then without me (callers_in cap place h) else callers_in cap place h))
    (eq-eqb place place refl) in
    omega (arith, goes_is, length_without me (callers_in cap place h) mine)

-- the sums after a Leave of this account
total_left : (place me sent overrun : ℕ) (h : List (ℕ × BookCall)) →
    total place (h ++ (me, Leave place sent overrun) ∷ []) ≡ added (total place h) sent overrun
total_left place me sent overrun h =
    total_after place h me (Leave place sent overrun)
    ∙ ap (λ (b : Bool). if b then added (total place h) sent overrun else total place h) (eq-eqb place place refl)

-- somebody is inside an account that this caller is inside
pub busy_of : (h : List (ℕ × BookCall)) (place me : ℕ) (account : Account) → KeepsAccount h place account →
    is_among me (callers_in account.cap place h) ≡ true → 0 < account.busy
busy_of h place me account keeps mine =
    omega (arith, keeps.busy, length_without me (callers_in account.cap place h) mine)

-- this account, where a session has ended
kept_left : (h : List (ℕ × BookCall)) (place me sent overrun : ℕ) (account : Account) → KeepsAccount h place account →
    is_among me (callers_in account.cap place h) ≡ true → sent < 2 ^ 64 → overrun < 2 ^ 64 →
    KeepsAccount (h ++ (me, Leave place sent overrun) ∷ []) place (left account sent overrun)
kept_left h place me sent overrun account keeps mine sent_small overrun_small =
    record {
      busy = omega (arith, keeps.busy, inside_left account.cap place me sent overrun h mine);
      within = omega (arith, keeps.within);
      sum = ap (λ (s : Sum). added s sent overrun) keeps.sum ∙ sym (total_left place me sent overrun h);
      bounded = bounded_added h (me, Leave place sent overrun) sent overrun account.sum keeps.bounded sent_small
          overrun_small;
    }

-- ---- other accounts

-- whose account a call is of
abbrev account_of : BookCall → ℕ
account_of (Enter place) = place
account_of (Leave place sent overrun) = place

goes_other : (cap other me : ℕ) (callers : List ℕ) (call : BookCall) → (account_of call == other) ≡ false →
    goes cap other callers me call ≡ callers
goes_other cap other me callers (Enter place) apart =
    ap (λ (b : Bool). if b then if length callers == cap then callers else me ∷ callers else callers) apart
goes_other cap other me callers (Leave place sent overrun) apart =
    ap (λ (b : Bool). if b then without me callers else callers) apart

total_other : (other : ℕ) (sum : Sum) (call : BookCall) → (account_of call == other) ≡ false
    → after_call other sum call ≡ sum
total_other other sum (Enter place) apart = refl
total_other other sum (Leave place sent overrun) apart = ap (λ (b : Bool). if b then added sum sent overrun else sum)
    apart

-- an account that the call is not of
kept_other : (h : List (ℕ × BookCall)) (me other : ℕ) (call : BookCall) (account : Account)
    → (account_of call == other) ≡ false →
    KeepsAccount h other account → KeepsAccount (h ++ (me, call) ∷ []) other account
kept_other h me other call account apart keeps =
    kept_more h (me, call) other account keeps
    (ap length (callers_after account.cap other h me call ∙ goes_other account.cap other me
    (callers_in account.cap other h) call apart))
    (total_after other h me call ∙ total_other other (total other h) call apart)

-- ---- all accounts

-- one account was changed by the call, and the others were not
each_after : (accounts : List Account) (h : List (ℕ × BookCall)) (me : ℕ) (call : BookCall) (account now : Account) →
    slice_get accounts (account_of call) ≡ Some account → KeepsEach accounts h →
    KeepsAccount (h ++ (me, call) ∷ []) (account_of call) now →
    KeepsEach (set accounts (account_of call) now) (h ++ (me, call) ∷ [])
each_after accounts h me call account now at keeps kept = λ other found there.
    by_place other found (get_or_from_slice_get (set accounts (account_of call) now) other found found there)
    (slice_get_within (set accounts (account_of call) now) other found there) (account_of call == other) refl where
      inside_of : account_of call < length accounts
      inside_of = slice_get_within accounts (account_of call) account at

      by_place : (other : ℕ) (found : Account) → get_or (set accounts (account_of call) now) other found ≡ found →
          other < length (set accounts (account_of call) now) → (b : Bool) → (account_of call == other) ≡ b →
          KeepsAccount (h ++ (me, call) ∷ []) other found
      by_place other found is low true same =
          let place_is : account_of call ≡ other = eqb-true (account_of call) other same in
          let now_is : now ≡ found = sym (get_or-set_at accounts (account_of call) other now found (sym place_is)
          inside_of) ∙ is in
          subst (λ (a : Account). KeepsAccount (h ++ (me, call) ∷ []) other a) now_is
          (subst (λ (n : ℕ). KeepsAccount (h ++ (me, call) ∷ []) n now) place_is kept)
      by_place other found is low false apart =
          let unlike : other ≢ account_of call = λ e. eqb-false (account_of call) other apart (sym e) in
          let old_is : get_or accounts other found ≡ found = sym (get_or-set_other accounts (account_of call) other now
          found unlike) ∙ is in
          let old_low : other < length accounts = omega (arith, low, length-set accounts (account_of call) now) in
          kept_other h me other call found apart (keeps other found (slice_get-get_or accounts other found old_low
          ∙ ap Some old_is))

pub each_entered : (accounts : List Account) (h : List (ℕ × BookCall)) (me place : ℕ) (account now : Account) →
    slice_get accounts place ≡ Some account → KeepsEach accounts h → now ≡ entered account →
    KeepsEach (set accounts place now) (h ++ (me, Enter place) ∷ [])
each_entered accounts h me place account now at keeps is =
    each_after accounts h me (Enter place) account now at keeps
    (subst (λ (a : Account). KeepsAccount (h ++ (me, Enter place) ∷ []) place a) (sym is)
    (kept_entered h place me account (keeps place account at)))

pub each_left : (accounts : List Account) (h : List (ℕ × BookCall)) (me place sent overrun : ℕ) (account now : Account)
    →
    slice_get accounts place ≡ Some account → KeepsEach accounts h → is_among me (callers_in account.cap place h) ≡ true
    →
    sent < 2 ^ 64 → overrun < 2 ^ 64 → now ≡ left account sent overrun →
    KeepsEach (set accounts place now) (h ++ (me, Leave place sent overrun) ∷ [])
each_left accounts h me place sent overrun account now at keeps mine sent_small overrun_small is =
    each_after accounts h me (Leave place sent overrun) account now at keeps
    (subst (λ (a : Account). KeepsAccount (h ++ (me, Leave place sent overrun) ∷ []) place a) (sym is)
    (kept_left h place me sent overrun account (keeps place account at) mine sent_small overrun_small))

-- ---- a fitting call finds its account

read_at : (accounts : List Account) (place : ℕ) (account : Account) → nat_lt place (length (caps accounts)) ≡ true →
    account ≡ get_or accounts place account → slice_get accounts place ≡ Some account
read_at accounts place account low is =
    let bound : place < length (caps accounts) = leb-true (suc place) (length (caps accounts)) low in
    slice_get_read accounts (length accounts) place account refl (omega
    (arith, bound, length-map accounts (λ (a : Account). a.cap))) is

pub found_to_enter : (accounts : List Account) (h : List (ℕ × BookCall)) (me place : ℕ) (call : BookCall)
    (account : Account) →
    call ≡ Enter place → fits (caps accounts) h me call ≡ true → account ≡ get_or accounts place account →
    slice_get accounts place ≡ Some account
found_to_enter accounts h me place call account is fitting at =
    read_at accounts place account (ap (fits (caps accounts) h me) (sym is) ∙ fitting) at

pub found_to_leave : (accounts : List Account) (h : List (ℕ × BookCall)) (me place sent overrun : ℕ) (call : BookCall)
    (account : Account) →
    call ≡ Leave place sent overrun → fits (caps accounts) h me call ≡ true → account ≡ get_or accounts place account →
    slice_get accounts place ≡ Some account
found_to_leave accounts h me place sent overrun call account is fitting at =
    read_at accounts place account
    (and_parts (nat_lt place (length (caps accounts))) _ (ap (fits (caps accounts) h me) (sym is) ∙ fitting)).0 at

pub inside_to_leave : (accounts : List Account) (h : List (ℕ × BookCall)) (me place sent overrun : ℕ) (call : BookCall)
    (account : Account) →
    call ≡ Leave place sent overrun → fits (caps accounts) h me call ≡ true → account ≡ get_or accounts place account →
    is_among me (callers_in account.cap place h) ≡ true
inside_to_leave accounts h me place sent overrun call account is fitting at =
    ap (λ (cap : ℕ). is_among me (callers_in cap place h))
    (sym (cap_found accounts place account (found_to_leave accounts h me place sent overrun call account is fitting
    at)))
    ∙ (and_parts (nat_lt place (length (caps accounts))) _ (ap (fits (caps accounts) h me) (sym is) ∙ fitting)).1

-- what is answered of the account that is entered
pub answer_entered : (accounts : List Account) (h : List (ℕ × BookCall)) (place : ℕ) (account : Account) →
    slice_get accounts place ≡ Some account → KeepsAccount h place account →
    entry_answer account.busy account.cap ≡ answer (caps accounts) h (Enter place)
answer_entered accounts h place account at keeps =
    ap (λ (busy : ℕ). entry_answer busy account.cap) keeps.busy
    ∙ ap (λ (cap : ℕ). entry_answer (inside cap place h) cap) (sym (cap_found accounts place account at))

-- one who enters does not change the cap
pub cap_entered : (account : Account) → (entered account).cap ≡ account.cap
cap_entered account = by_test (account.busy == account.cap) where
  by_test : (b : Bool) → (if b then account else record account { busy = account.busy + 1 }).cap ≡ account.cap
  by_test true = refl
  by_test false = refl

-- ---- a new book

new_or_old : (accounts : List Account) (last found : Account) (place : ℕ)
    → slice_get (accounts ++ last ∷ []) place ≡ Some found →
    (slice_get accounts place ≡ Some found) ⊎ (last ≡ found)
new_or_old [] last found zero at = inr (ap (λ o. unwrap_or o found) at)
new_or_old [] last found (suc place) at = absurd cc
new_or_old (first ∷ accounts) last found zero at = inl at
new_or_old (first ∷ accounts) last found (suc place) at = new_or_old accounts last found place at

-- one more account that nobody entered
pub each_opened : (accounts more : List Account) (last : Account) → more ≡ accounts ++ last ∷ [] → last.busy ≡ 0
    → last.sum ≡ nothing →
    KeepsEach accounts [] → KeepsEach more []
each_opened accounts more last more_is nobody none keeps = λ place found there.
    by_side place found (new_or_old accounts last found place (ap (λ (l : List Account). slice_get l place)
    (sym more_is) ∙ there)) where
      by_side : (place : ℕ) (found : Account) → (slice_get accounts place ≡ Some found) ⊎ (last ≡ found)
          → KeepsAccount [] place found
      by_side place found (inl old) = keeps place found old
      by_side place found (inr is) =
          let busy : found.busy ≡ 0 = ap (λ (a : Account). a.busy) (sym is) ∙ nobody in
          let sum : found.sum ≡ nothing = ap (λ (a : Account). a.sum) (sym is) ∙ none in
          record {
            busy = busy;
            within = omega (arith, busy);
            sum = sum;
            bounded = subst (IsWithin []) (sym sum) bounded_none;
          }

-- its caps are those of the list that were reached
pub caps_opened : (list : List ℕ) (index : ℕ) (accounts more : List Account) (last : Account)
    → more ≡ accounts ++ last ∷ [] →
    last.cap ≡ get_or list index 0 → index < length list → caps accounts ≡ take index list
    → caps more ≡ take (index + 1) list
caps_opened list index accounts more last more_is cap low before =
    ap caps more_is ∙ map-append (λ (a : Account). a.cap) accounts (last ∷ [])
    ∙ ap (λ (l : List ℕ). l ++ last.cap ∷ []) before ∙ ap (λ (n : ℕ). take index list ++ n ∷ []) cap
    ∙ sym (take_more list index 0 low)

-- ---- who may leave

-- who was answered Entered may leave
pub entered_may : (caps : List ℕ) (h now : List (ℕ × BookCall)) (me account : ℕ) → now ≡ h ++ (me, Enter account) ∷ [] →
    nat_lt account (length caps) ≡ true → answer caps h (Enter account) ≡ Entered → may_leave caps now me account ≡ true
entered_may caps h now me account is low answered =
    and_from _ _ low
    (ap (λ (l : List (ℕ × BookCall)). is_among me (callers_in cap account l)) is
    ∙ ap (is_among me) (callers_after cap account h me (Enter account))
    ∙ ap (λ (b : Bool). is_among me (if b then if inside cap account h == cap then callers_in cap account h else me ∷
    callers_in cap account h else callers_in cap account h)) (eq-eqb account account refl)
    ∙ by_test (inside cap account h == cap) answered) where
      cap : ℕ
      cap = cap_at caps account

      by_test : (b : Bool) → (if b then Full (inside cap account h) cap else Entered) ≡ Entered →
          is_among me (if b then callers_in cap account h else me ∷ callers_in cap account h) ≡ true
      by_test true full = absurd cc
      by_test false entered = ap (λ (b : Bool). if b then true else is_among me (callers_in cap account h))
          (eq-eqb me me refl)

-- a turn that leaves, whether it was taken or refused, takes from no other caller what it may leave
pub leave_stays : (caps later : List ℕ) (h now : List (ℕ × BookCall)) (me account sent overrun by place : ℕ)
    (result : Result BookAnswer TurnFault) (before after : Unit {0}) → later ≡ caps →
    IfOk result (λ reply. (now ≡ h ++ (me, Leave account sent overrun) ∷ []) × (reply ≡ Left) × (after ≡ before)) →
    IfErr result (λ fault. (now ≡ h) × (after ≡ before) × IsFault false (worn_of (length now)) fault)
    → may_leave caps h me account ≡ true → by ≢ me →
    may_leave caps h by place ≡ true → may_leave later now by place ≡ true
leave_stays caps later h now me account sent overrun by place (Ok reply) before after same ok err leaves apart may =
    ap (λ (l : List ℕ). may_leave l now by place) same
    ∙ ap (λ (l : List (ℕ × BookCall)). may_leave caps l by place) ok.0
    ∙ still_fits_one caps h by me (Leave place 0 0) (Leave account sent overrun) may (λ e. apart (sym e)) leaves
leave_stays caps later h now me account sent overrun by place (Err fault) before after same ok err leaves apart may =
    ap (λ (l : List ℕ). may_leave l now by place) same
    ∙ ap (λ (l : List (ℕ × BookCall)). may_leave caps l by place) err.0 ∙ may
