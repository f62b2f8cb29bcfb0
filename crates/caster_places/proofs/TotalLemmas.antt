-- What a mountpoint and the accounts came to.
use Rattle.std.proofs.Common.{◌≡◌, ◌∙◌, ◌+◌, ◌<◌, ◌++◌, ℕ, List, [], ◌∷◌, length, map, take, sym, ap, append_assoc}
use Rattle.std.proofs.lemmas.List.{map-append}
use Rattle.turn_log.specs.History.{History}
use Rattle.mount_ring.specs.declared.call.RingCall.{RingCall}
use Rattle.mount_ring.specs.History.{state_of}
use Rattle.caster_accounts.specs.declared.account.Sum.{Sum}
use Rattle.caster_accounts.specs.Sums.{total}
use Rattle.session_model.specs.declared.report.MountTotal.{MountTotal}
use Rattle.cast_config.specs.declared.config.Account.{Account}
use Rattle.session_model.specs.Run.{Histories}
use Rattle.session_model.specs.Reports.{mount_total, sums_from}
use Rattle.session_model.proofs.ReportSums.{total_with, sums_more}

pub total_told : (published claims : ℕ) (h : History RingCall) → published ≡ length (state_of h).published
    → claims ≡ (state_of h).claims → total_with published claims ≡ mount_total h
total_told published claims h frames given =
    ap (λ (n : ℕ). total_with n claims) frames ∙ ap (total_with (length (state_of h).published)) given

-- the totals of one mountpoint more
pub told_more : (before old new : List MountTotal) (wholes : List (History RingCall)) (whole : History RingCall)
    (told : MountTotal) → old ≡ before ++ map mount_total wholes → new ≡ old ++ told ∷ [] → told ≡ mount_total whole
    → new ≡ before ++ map mount_total (wholes ++ whole ∷ [])
told_more before old new wholes whole told so_far pushed is =
    pushed ∙ ap (λ (l : List MountTotal). l ++ told ∷ []) so_far
    ∙ append_assoc before (map mount_total wholes) (told ∷ [])
    ∙ ap (λ (t : MountTotal). before ++ (map mount_total wholes ++ t ∷ [])) is
    ∙ ap (λ (l : List MountTotal). before ++ l) (sym (map-append mount_total wholes (whole ∷ [])))

-- ---- the accounts

-- the sums of one account more
pub summed_more : (h : Histories) (n : ℕ) (accounts : List Account) (before old new : List Sum) (sum : Sum)
    → n < length accounts → old ≡ before ++ sums_from 1 h (take n accounts) → new ≡ old ++ sum ∷ []
    → sum ≡ total (n + 1) h.book → new ≡ before ++ sums_from 1 h (take (n + 1) accounts)
summed_more h n accounts before old new sum within so_far pushed is =
    pushed ∙ ap (λ (l : List Sum). l ++ sum ∷ []) so_far
    ∙ append_assoc before (sums_from 1 h (take n accounts)) (sum ∷ [])
    ∙ ap (λ (s : Sum). before ++ (sums_from 1 h (take n accounts) ++ s ∷ [])) is
    ∙ ap (λ (l : List Sum). before ++ l) (sym (sums_more h n accounts within))
