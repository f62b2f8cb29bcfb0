-- Events that are added one by one.
use Rattle.std.proofs.Common.{◌≡◌, ℕ, zero, suc, ◌+◌, List, [], ◌∷◌, ◌++◌, map, refl, ap, ap₂, sym, ◌∙◌, arith, add-one, append_assoc}
use Rattle.std.specs.List.{range_with_len, flat_map}
use Rattle.std.proofs.lemmas.List.{flat_map_more}
use Rattle.std.proofs.lemmas.List.FromFn.{map-range_with_len_more}
use Rattle.rtcm_frame.specs.Transport.{framed}
use Rattle.session_script.specs.declared.Event.{Event}
use Rattle.session_script.specs.declared.Event.TheVariants.{In, Turn}
use Rattle.session_make.specs.Draws.{next_state, state_after, number_below}
use Rattle.session_make.specs.Rounds.{filling, payload_of, frame_of, rover_of, budget_of, round, after_round, round_start, rounds, opening, last_turns, events_of}
use Rattle.session_make.proofs.DrawLemmas.{state_on}

-- one more of a row of events
pub row_more : (f : ℕ → Event) (front old new : List Event) (n : ℕ) → old ≡ front ++ map f (range_with_len 2 n)
    → new ≡ old ++ f (2 + n) ∷ [] → new ≡ front ++ map f (range_with_len 2 (n + 1))
row_more f front old new n is added =
    added
    ∙ ap (λ (xs : List Event). xs ++ f (2 + n) ∷ []) is
    ∙ append_assoc front (map f (range_with_len 2 n)) (f (2 + n) ∷ [])
    ∙ ap (λ (xs : List Event). front ++ xs) (sym (map-range_with_len_more f 2 n (2 + n) refl))

-- the same behind one more event in front
pub row_more_behind : (f : ℕ → Event) (front : List Event) (event : Event) (old new : List Event) (n : ℕ)
    → old ≡ front ++ event ∷ map f (range_with_len 2 n) → new ≡ old ++ f (2 + n) ∷ []
    → new ≡ front ++ event ∷ map f (range_with_len 2 (n + 1))
row_more_behind f front event old new n is added =
    row_more f (front ++ event ∷ []) old new n (is ∙ sym (behind n)) added ∙ behind (n + 1)
  where
    behind : (k : ℕ) → (front ++ event ∷ []) ++ map f (range_with_len 2 k) ≡ front ++ event ∷ map f (range_with_len 2 k)
    behind k = append_assoc front (event ∷ []) (map f (range_with_len 2 k))

pub range_more : (a n : ℕ) → range_with_len a (suc n) ≡ range_with_len a n ++ (a + n) ∷ []
range_more a zero = ap (λ (k : ℕ). k ∷ []) (omega arith)
range_more a (suc n) =
    let same : a + 1 + n ≡ a + suc n = omega arith in
    ap (λ (xs : List ℕ). a ∷ xs) (range_more (a + 1) n ∙ ap (λ (k : ℕ). range_with_len (a + 1) n ++ k ∷ []) same)

-- one round more
pub rounds_more : (seed n rovers : ℕ) (front : List Event)
    → (front ++ rounds seed n rovers) ++ round rovers (round_start seed n) ≡ front ++ rounds seed (n + 1) rovers
rounds_more seed n rovers front =
    let f = λ (j : ℕ). round rovers (round_start seed j) in
    let range : range_with_len 0 n ++ n ∷ [] ≡ range_with_len 0 (n + 1) =
    ap (λ (k : ℕ). range_with_len 0 n ++ k ∷ []) (omega arith)
    ∙ sym (range_more 0 n)
    ∙ ap (λ (k : ℕ). range_with_len 0 k) (sym (add-one n))
    in
    flat_map_more f front (range_with_len 0 n) n ∙ ap (λ (xs : List ℕ). front ++ flat_map f xs) range

pub starts_at : (seed : ℕ) → seed ≡ round_start seed 0
unfolding round_start
starts_at seed = refl

pub starts_next : (seed n now then : ℕ) → now ≡ round_start seed n → then ≡ after_round now
    → then ≡ round_start seed (n + 1)
unfolding round_start
starts_next seed n now then is next =
    next ∙ ap after_round is ∙ ap (λ (k : ℕ). round_start seed k) (sym (add-one n))

-- the events of a round
pub round_is : (rovers state rover budget : ℕ) (payload frame : List ℕ) (old : List Event)
    → payload ≡ payload_of state → frame ≡ framed 0 payload
    → rover ≡ rover_of rovers state → budget ≡ budget_of state
    → (old ++ In 1 frame ∷ []) ++ Turn rover budget ∷ [] ≡ old ++ round rovers state
unfolding round
round_is rovers state rover budget payload frame old paid is turns for =
    append_assoc old (In 1 frame ∷ []) (Turn rover budget ∷ [])
    ∙ ap (λ (bytes : List ℕ). old ++ In 1 bytes ∷ Turn rover budget ∷ []) (is ∙ ap (λ (p : List ℕ). framed 0 p) paid)
    ∙ ap₂ (λ (k n : ℕ). old ++ In 1 (frame_of state) ∷ Turn k n ∷ []) turns for

-- the draws behind a payload
pub rover_is : (rovers state now then drew : ℕ) → now ≡ state_after (filling state + 2) state → then ≡ next_state now
    → drew ≡ number_below rovers then → 2 + drew ≡ rover_of rovers state
rover_is rovers state now then drew is next draw =
    ap (λ (k : ℕ). 2 + k)
    (draw ∙ ap (λ (s : ℕ). number_below rovers s)
    (state_on (filling state + 2) (filling state + 2 + 1) state now then is next refl))

pub budget_is : (state now then last drew : ℕ) → now ≡ state_after (filling state + 2) state → then ≡ next_state now
    → last ≡ next_state then → drew ≡ number_below 16 last → 1 + drew ≡ budget_of state
budget_is state now then last drew is next more draw =
    let before = state_on (filling state + 2) (filling state + 3) state now then is next (omega arith) in
    ap (λ (k : ℕ). 1 + k)
    (draw ∙ ap (λ (s : ℕ). number_below 16 s)
    (state_on (filling state + 3) (filling state + 3 + 1) state then last before more refl))

pub round_ends : (state now then last : ℕ) → now ≡ state_after (filling state + 2) state → then ≡ next_state now
    → last ≡ next_state then → last ≡ after_round state
unfolding after_round
round_ends state now then last is next more =
    let before = state_on (filling state + 2) (filling state + 3) state now then is next (omega arith) in
    state_on (filling state + 3) (filling state + 4) state then last before more (omega arith)

-- the whole session
pub events_whole : (seed frames n rovers : ℕ) (old new : List Event) → old ≡ opening rovers ++ rounds seed n rovers
    → new ≡ old ++ last_turns rovers → n ≡ frames → new ≡ events_of seed frames rovers
unfolding events_of
events_whole seed frames n rovers old new is added all =
    added
    ∙ ap (λ (xs : List Event). xs ++ last_turns rovers) is
    ∙ ap (λ (k : ℕ). opening rovers ++ rounds seed k rovers ++ last_turns rovers) all
