-- Beginnings of one history, and one caller's calls in them.
use Rattle.std.proofs.Common.{◌≡◌, ◌≢◌, ℕ, ◌≤◌, ◌⊎◌, inl, inr, ⊎_elim, List, [], ◌∷◌, ◌++◌, length, refl, sym, ◌∙◌, ap, arith, append_assoc}
use Rattle.std.proofs.lemmas.List.{append-nil, append_cancel_left}
use mathlib.Core.Logic.{dite}
use native.Mathlib.Decide.{dec_le}
use Rattle.turn_log.specs.History.{History, own, GoesOn}
use Rattle.turn_log.specs.LockRule.{Begins}
use Rattle.turn_log.proofs.HistoryLaws.{own-append, own_other}

pub begins_self : {C : Type 0} (h : History C) → Begins h h
begins_self h = ([], sym (append-nil h))

pub begins_both : {C : Type 0} (a b c : History C) → Begins a b → Begins b c → Begins a c
begins_both a b c x y = (x.0 ++ y.0, y.1 ∙ ap (λ h. h ++ y.0) x.1 ∙ append_assoc a x.0 y.0)

pub begins_next : {C : Type 0} (a b : History C) (e : ℕ × C) → Begins a b → Begins a (b ++ e ∷ [])
begins_next a b e x = begins_both a b (b ++ e ∷ []) x (e ∷ [], refl)

-- of two beginnings of one history the shorter begins the longer
pub begins_shorter : {C : Type 0} (a b c : History C) → Begins a c → Begins b c → length a ≤ length b → Begins a b
begins_shorter [] b c x y le = (b, refl)
begins_shorter (d ∷ a) [] c x y le = absurd (omega arith)
begins_shorter (d ∷ a) (e ∷ b) [] x y le = absurd (cc (x.1))
begins_shorter {C} (d ∷ a) (e ∷ b) (f ∷ c) x y le =
    let heads : d ≡ e = cc (x.1, y.1) in
    let rest = begins_shorter a b c (x.0, cc (x.1)) (y.0, cc (y.1)) (omega arith) in
    (rest.0, cc (heads, rest.1))

pub begins_either : {C : Type 0} (a b c : History C) → Begins a c → Begins b c → (Begins a b) ⊎ (Begins b a)
begins_either a b c x y =
    dite (dec_le (length a) (length b))
    (λ le. inl (begins_shorter a b c x y le))
    (λ more. inr (begins_shorter b a c y x (omega arith)))

nothing_first : {A : Type 0} (a b : List A) → a ++ b ≡ [] → a ≡ []
nothing_first [] b e = refl
nothing_first (x ∷ a) b e = absurd cc

-- what a beginning has more than another, where the whole has no further call of one caller
pub none_more : {C : Type 0} (k : ℕ) (a more c : History C) → Begins (a ++ more) c → own k c ≡ own k a → own k more ≡ []
none_more {C} k a more c y same =
    let all : own k a ++ (own k more ++ own k y.0) ≡ own k a ++ [] =
    sym (append_assoc (own k a) (own k more) (own k y.0))
    ∙ ap (λ l. l ++ own k y.0) (sym (own-append k a more))
    ∙ sym (own-append k (a ++ more) y.0) ∙ ap (own k) (sym y.1) ∙ same ∙ sym (append-nil (own k a)) in
    nothing_first (own k more) (own k y.0) (append_cancel_left (own k a) (own k more ++ own k y.0) [] all)

-- a history between two others, where the last has no further call of one caller
pub between : {C : Type 0} (k : ℕ) (a b c : History C) → Begins a b → Begins b c → own k c ≡ own k a
    → GoesOn k a b × (own k c ≡ own k b)
between {C} k a b c x y same =
    let mine = none_more k a x.0 c (y.0, y.1 ∙ ap (λ h. h ++ y.0) x.1) same in (
      (x.0, x.1, mine),
      same ∙ sym (append-nil (own k a)) ∙ ap (λ l. own k a ++ l) (sym mine) ∙ sym (own-append k a x.0)
          ∙ ap (own k) (sym x.1),
    )

-- another caller's call is none of this one
pub own_next : {C : Type 0} (k by : ℕ) (call : C) (h : History C) → by ≢ k → own k (h ++ (by, call) ∷ []) ≡ own k h
own_next k by call h other =
    own-append k h ((by, call) ∷ []) ∙ ap (λ l. own k h ++ l) (own_other k by call other) ∙ append-nil (own k h)

-- two beginnings of one history that are as long as it was: the longer of two, which goes on from
-- the first
pub longer : {C : Type 0} (a b c : History C) → Begins a c → Begins b c
    → (more : History C) × Begins b (a ++ more) × Begins (a ++ more) c
longer a b c x y =
    ⊎_elim
    (λ first. (first.0, ([], sym first.1 ∙ sym (append-nil b)), (y.0, y.1 ∙ ap (λ h. h ++ y.0) first.1)))
    (λ second. ([], (second.0, append-nil a ∙ second.1), (x.0, x.1 ∙ ap (λ h. h ++ x.0) (sym (append-nil a)))))
    (begins_either a b c x y)
