-- A loop that takes the first permitted frames from an index on.
use Rattle.std.proofs.Common.{◌≡◌, ℕ, zero, suc, ◌+◌, ◌-◌, ◌<◌, ◌≤◌, Bool, true, false, cond, length-append, List, [], ◌∷◌, ◌++◌, length, take, drop, ap, ◌∙◌, sym, arith, append_assoc, Some}
use Rattle.std.specs.Prelude.{slice_get}
use Rattle.std.specs.List.{filter}
use Rattle.std.proofs.lemmas.Option.{slice_get_within, get_or_from_slice_get}
use Rattle.std.proofs.Math.Seq.{drop-cons}
use Rattle.mount_ring.specs.Reads.{looked}

-- What holds while it takes: with these frames taken and so many left to take, it stands at this
-- index.
pub record Takes (permits : List ℕ → Bool) (frames : List (List ℕ)) (from budget index left : ℕ)
    (taken : List (List ℕ)) : Type 0 where
  pub behind : from ≤ index
  pub within : index ≤ length frames
  pub room : length taken + left ≡ budget
  pub looks : looked permits budget (drop from frames) ≡ (index - from) + looked permits left (drop index frames)
  pub takes : take budget (filter permits (drop from frames)) ≡ taken ++ take left (filter permits (drop index frames))

drop_at : (frames : List (List ℕ)) (index : ℕ) (frame : List ℕ) → slice_get frames index ≡ Some frame →
    drop index frames ≡ frame ∷ drop (index + 1) frames
drop_at frames index frame here =
    let next : suc index ≡ index + 1 = omega arith in
    drop-cons frames index frame (slice_get_within frames index frame here)
    ∙ ap (λ (x : List ℕ). x ∷ drop (suc index) frames) (get_or_from_slice_get frames index frame frame here)
    ∙ ap (λ (n : ℕ). frame ∷ drop n frames) next

looked_taken : (permits : List ℕ → Bool) (left : ℕ) (frame : List ℕ) (frames : List (List ℕ)) → 0 < left
    → permits frame ≡ true →
    looked permits left (frame ∷ frames) ≡ 1 + looked permits (left - 1) frames
looked_taken permits zero frame frames some permitted = absurd (let e : ⊥ = omega (arith, some) in e)
looked_taken permits (suc left) frame frames some permitted =
    let less : left ≡ suc left - 1 = omega arith in
    ap (λ (b : Bool). suc (looked permits (cond b left (suc left)) frames)) permitted
    ∙ ap (λ (n : ℕ). suc (looked permits n frames)) less ∙ omega arith

looked_skipped : (permits : List ℕ → Bool) (left : ℕ) (frame : List ℕ) (frames : List (List ℕ)) → 0 < left
    → permits frame ≡ false →
    looked permits left (frame ∷ frames) ≡ 1 + looked permits left frames
looked_skipped permits zero frame frames some refused = absurd (let e : ⊥ = omega (arith, some) in e)
looked_skipped permits (suc left) frame frames some refused =
    ap (λ (b : Bool). suc (looked permits (cond b left (suc left)) frames)) refused ∙ omega arith

filter_taken : (permits : List ℕ → Bool) (left : ℕ) (frame : List ℕ) (frames : List (List ℕ)) → 0 < left
    → permits frame ≡ true →
    take left (filter permits (frame ∷ frames)) ≡ frame ∷ take (left - 1) (filter permits frames)
filter_taken permits zero frame frames some permitted = absurd (let e : ⊥ = omega (arith, some) in e)
filter_taken permits (suc left) frame frames some permitted =
    let less : left ≡ suc left - 1 = omega arith in
    ap (λ (b : Bool). take (suc left) (cond b (frame ∷ filter permits frames) (filter permits frames))) permitted
    ∙ ap (λ (n : ℕ). frame ∷ take n (filter permits frames)) less

filter_skipped : (permits : List ℕ → Bool) (left : ℕ) (frame : List ℕ) (frames : List (List ℕ))
    → permits frame ≡ false →
    take left (filter permits (frame ∷ frames)) ≡ take left (filter permits frames)
filter_skipped permits left frame frames refused =
    ap (λ (b : Bool). take left (cond b (frame ∷ filter permits frames) (filter permits frames))) refused

-- the frame at the index is permitted, and taken
pub takes_taken : (permits : List ℕ → Bool) (frames : List (List ℕ)) (from budget index left : ℕ)
    (taken more : List (List ℕ)) (frame : List ℕ) →
    Takes permits frames from budget index left taken → 0 < left → slice_get frames index ≡ Some frame
    → permits frame ≡ true →
    more ≡ taken ++ frame ∷ [] → Takes permits frames from budget (index + 1) (left - 1) more
takes_taken permits frames from budget index left taken more frame h some here permitted more_is =
    let at : drop index frames ≡ frame ∷ drop (index + 1) frames = drop_at frames index frame here in
    let inside : index < length frames = slice_get_within frames index frame here in
    let further : looked permits left (drop index frames) ≡ 1 + looked permits (left - 1) (drop (index + 1) frames) =
    ap (looked permits left) at ∙ looked_taken permits left frame (drop (index + 1) frames) some permitted in
    record {
      behind = omega (arith, h.behind);
      within = omega (arith, inside);
      room = omega (arith, h.room, some, ap length more_is, simp length-append at (ap length more_is));
      looks = omega (arith, h.looks, h.behind, further);
      takes = h.takes
          ∙ ap (λ (xs : List (List ℕ)). taken ++ take left (filter permits xs)) at
          ∙ ap (λ (xs : List (List ℕ)). taken ++ xs)
          (filter_taken permits left frame (drop (index + 1) frames) some permitted)
          ∙ sym (append_assoc taken (frame ∷ []) (take (left - 1) (filter permits (drop (index + 1) frames))))
          ∙ ap (λ (xs : List (List ℕ)). xs ++ take (left - 1) (filter permits (drop (index + 1) frames))) (sym more_is);
    }

-- the frame at the index is not permitted
pub takes_skipped : (permits : List ℕ → Bool) (frames : List (List ℕ)) (from budget index left : ℕ)
    (taken : List (List ℕ)) (frame : List ℕ) →
    Takes permits frames from budget index left taken → 0 < left → slice_get frames index ≡ Some frame
    → permits frame ≡ false →
    Takes permits frames from budget (index + 1) left taken
takes_skipped permits frames from budget index left taken frame h some here refused =
    let at : drop index frames ≡ frame ∷ drop (index + 1) frames = drop_at frames index frame here in
    let inside : index < length frames = slice_get_within frames index frame here in
    let further : looked permits left (drop index frames) ≡ 1 + looked permits left (drop (index + 1) frames) =
    ap (looked permits left) at ∙ looked_skipped permits left frame (drop (index + 1) frames) some refused in
    record {
      behind = omega (arith, h.behind);
      within = omega (arith, inside);
      room = h.room;
      looks = omega (arith, h.looks, h.behind, further);
      takes = h.takes
          ∙ ap (λ (xs : List (List ℕ)). taken ++ take left (filter permits xs)) at
          ∙ ap (λ (xs : List (List ℕ)). taken ++ xs)
          (filter_skipped permits left frame (drop (index + 1) frames) refused);
    }
