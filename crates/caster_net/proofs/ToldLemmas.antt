-- A room that is told part by part of what a peer took.
use Rattle.std.proofs.Common.{◌≡◌, ℕ, ◌+◌, ◌-◌, ◌/◌, max, List, [], ◌∷◌, ◌++◌, Option, None, Some, IsSomeAnd, option_map, refl, ap, subst, sym, ◌∙◌}
use Rattle.std.proofs.lemmas.List.Sums.{sum_by_push}
use Rattle.send_room.specs.declared.flow.Flow.{Flow}
use Rattle.send_room.specs.Flows.{later, with_more, with_taken}
use Rattle.send_room.specs.Windows.{Part, behind, size_of}
use Rattle.caster_net.specs.Rooms.{AreTold, IsTold, measured}

-- of nothing yet
pub none_told : (room : Option Flow) → AreTold 0 room room
none_told None = refl
none_told (Some flow) = ([], refl, refl)

-- what is looked back at behind one more part
next_measured : ℕ → ℕ → List ℕ × ℕ → List ℕ × ℕ
next_measured now count (taken, half) =
    (with_more count (later (now / 500 - half) taken), max half (now / 500))

behind_push : (parts : List Part) (part : Part) (flow : Flow)
    → behind (parts ++ part ∷ []) flow ≡ with_taken part.at part.count (behind parts flow)
behind_push [] part flow = refl
behind_push (first ∷ more) part flow =
    behind_push more part (with_taken first.at first.count flow)

same_measured : (now count : ℕ) (a b : Flow) → measured a ≡ measured b
    → measured (with_taken now count a) ≡ measured (with_taken now count b)
unfolding next_measured
same_measured now count a b same = ap (next_measured now count) same

some_told : (old : Flow) (b c d : Option Flow) (at count : ℕ) → AreTold at (Some old) b
    → option_map measured c ≡ option_map measured b → IsTold count c d
    → AreTold (at + count) (Some old) d
some_told old None c d at count so_far same more = absurd so_far.2
some_told old (Some b) None d at count so_far same more = cc
some_told old (Some b) (Some c) d at count so_far same more =
    let parts = so_far.0 in
    let part : Part = record { at = more.0; count = count } in
    let alike : measured c ≡ measured b = cc in
    let size = sum_by_push (λ (p : Part). p.count) parts part ∙ ap (λ n. n + count) so_far.1 in
    let told = same_measured more.0 count c b alike
    ∙ same_measured more.0 count b (behind parts old) so_far.2
    ∙ sym (ap measured (behind_push parts part old)) in
    let Told : Option Flow → Type 0 =
    λ o. IsSomeAnd o (λ flow. measured flow ≡ measured (behind (parts ++ part ∷ []) old)) in
    (parts ++ part ∷ [], size, subst Told (sym more.1) told)

none_more : (b c d : Option Flow) (count : ℕ) → b ≡ None
    → option_map measured c ≡ option_map measured b → IsTold count c d → d ≡ None
none_more b None d count so_far same more = more
none_more b (Some c) d count so_far same more = cc (ap (option_map measured) so_far)

-- of so many bytes more
pub told_more : (a b c d : Option Flow) (at count : ℕ) → AreTold at a b
    → option_map measured c ≡ option_map measured b → IsTold count c d
    → AreTold (at + count) a d
told_more None b c d at count so_far same more = none_more b c d count so_far same more
told_more (Some old) b c d at count so_far same more =
    some_told old b c d at count so_far same more
