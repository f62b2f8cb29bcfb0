-- One more turn, and what it adds to a caller's share.
use Rattle.std.proofs.Common.{◌≡◌, ℕ, ◌+◌, ◌-◌, ◌<◌, ◌≤◌, [], ◌∷◌, ◌++◌, length, take, drop, refl, ap, subst, ◌∙◌, inl, inr, arith, length-append}
use Rattle.std.proofs.lemmas.Bool.{cases_lt, eq-eqb}
use Rattle.std.proofs.lemmas.List.{take-append-drop, take-append-le, take_all}
use Rattle.std.proofs.Math.Seq.{take-append-add}
use Rattle.turn_log.specs.History.{History, own}
use Rattle.turn_log.proofs.HistoryLaws.{own-append}
use Rattle.bench_lock.specs.Shares.{share}

abbrev Calls : Type 0
Calls = History (Unit {0})

count : ℕ → Calls → ℕ
count me h = length (own me h)

count-append : (me : ℕ) (a b : Calls) → count me (a ++ b) ≡ count me a + count me b
unfolding count
count-append me a b = ap length (own-append me a b) ∙ length-append (own me a) (own me b)

-- of calls that are others' any first ones are others' too
none_of_first : (me k : ℕ) (others : Calls) → own me others ≡ [] → count me (take k others) ≡ 0
unfolding count
none_of_first me k others none =
    let parts : count me (take k others ++ drop k others) ≡ count me (take k others) + count me (drop k others) =
    count-append me (take k others) (drop k others) in
    let whole : count me (take k others ++ drop k others) ≡ count me others = ap (count me) (take-append-drop k others) in
    let zero : count me others ≡ 0 = ap length none in
    omega arith

one_of_mine : (me : ℕ) → count me ((me, tt) ∷ []) ≡ 1
unfolding count
one_of_mine me = rw (eq-eqb me me refl) refl

-- a turn among the first ones adds one
pub took : (me turns : ℕ) (old others now : Calls) → own me others ≡ [] → now ≡ (old ++ others) ++ (me, tt) ∷ []
    → length (old ++ others) < turns → share me turns now ≡ share me turns old + 1
unfolding count
took me turns old others now none is low =
    let size : length now ≡ length (old ++ others) + 1 = ap length is ∙ length-append (old ++ others) ((me, tt) ∷ []) in
    let less : length (old ++ others) ≡ length old + length others = length-append old others in
    let all : take turns now ≡ now = take_all turns now (omega arith) in
    let before : take turns old ≡ old = take_all turns old (omega arith) in
    let whole : count me now ≡ count me (old ++ others) + count me ((me, tt) ∷ []) =
    ap (count me) is ∙ count-append me (old ++ others) ((me, tt) ∷ []) in
    let first : count me (old ++ others) ≡ count me old + count me others = count-append me old others in
    let zero : count me others ≡ 0 = ap length none in
    let one : count me ((me, tt) ∷ []) ≡ 1 = one_of_mine me in
    let left : share me turns now ≡ count me now = ap (count me) all in
    let right : share me turns old ≡ count me old = ap (count me) before in
    omega arith

shares_same : (me turns : ℕ) (old others : Calls) → own me others ≡ []
    → share me turns (old ++ others) ≡ share me turns old
unfolding count
shares_same me turns old others none =
    elim (cases_lt (length old) turns) [
      | inr within ↦ ap (count me) (take-append-le turns old others within)
      | inl beyond ↦
          let k = turns - length old in
          let at : length old + k ≡ turns = omega arith in
          let parts : take turns (old ++ others) ≡ old ++ take k others =
          subst (λ n. take n (old ++ others) ≡ old ++ take k others) at (take-append-add old others k) in
          let whole : share me turns (old ++ others) ≡ count me old + count me (take k others) =
          ap (count me) parts ∙ count-append me old (take k others) in
          let zero : count me (take k others) ≡ 0 = none_of_first me k others none in
          let before : take turns old ≡ old = take_all turns old (omega arith) in
          let right : share me turns old ≡ count me old = ap (count me) before in
          omega arith
    ]

-- and one behind them adds none
pub past : (me turns : ℕ) (old others now : Calls) → own me others ≡ [] → now ≡ (old ++ others) ++ (me, tt) ∷ []
    → turns ≤ length (old ++ others) → share me turns now ≡ share me turns old
past me turns old others now none is high =
    ap (λ (h : Calls). share me turns h) is
    ∙ ap (λ (h : Calls). length (own me h)) (take-append-le turns (old ++ others) ((me, tt) ∷ []) high)
    ∙ shares_same me turns old others none
