-- Desks speak for everybody, and nobody else calls at them.
use Rattle.std.proofs.Common.{◌≡◌, ◌∙◌, ◌&&◌, ◌++◌, ◌+◌, ◌<◌, ℕ, zero, suc, Bool, true, false, List, [], ◌∷◌, length, map, take, get_or, refl, sym, ap, subst, Result, Some, arith}
use Rattle.std.specs.Prelude.{IfOk, IsTrue}
use Rattle.std.specs.declared.alloc.AllocError.{AllocError}
use Rattle.std.proofs.lemmas.List.{map-append, take_more}
use Rattle.turn_log.specs.History.{History}
use Rattle.mount_ring.specs.declared.call.RingCall.{RingCall}
use Rattle.mount_ring.specs.declared.shape.RingShape.{RingShape}
use Rattle.caster_accounts.specs.declared.call.BookCall.{BookCall}
use Rattle.session_calls.specs.Rings.{AllSpeak, all_alone}
use Rattle.session_calls.specs.Steps.{Step}
use Rattle.cast_config.specs.declared.config.Config.{Config}
use Rattle.cast_config.specs.declared.config.Group.{Group}
use Rattle.cast_config.specs.declared.config.Mount.{Mount}
use Rattle.cast_config.specs.Served.{filters_of}
use Rattle.type_filter.specs.Permitted.{FilterValue}
use Rattle.session_model.specs.declared.ending.Last.{Last}
use Rattle.session_model.specs.declared.report.Receipt.{Receipt}
use Rattle.session_core.specs.declared.session.Session.{Session}
use Rattle.session_model.specs.Headings.{Heading}
use Rattle.session_model.specs.Judged.{Opening, judged}
use Rattle.session_model.specs.Reports.{IsHeadingOf, mount_total}
use Rattle.session_model.specs.Run.{Histories}
use Rattle.session_model.specs.Setting.{shapes, shapes_from}
use Rattle.session_model.specs.Called.{alone_at, seen_at, OthersCalled}
use Rattle.session_core.specs.Standing.{StandsFor, Fed}
use Rattle.session_core.specs.Closed.{IsClosed}
use Rattle.session_core.specs.Turned.{Turned, is_rover}
use Rattle.caster_replay.specs.Calls.{Opens, Feeds, TakesTurn, Closes}

alone_all : {P : Type 0} (alone : P → Bool) (places : List P) → ((place : P) → alone place ≡ true)
    → all_alone alone places ≡ true
alone_all {P} alone [] each = refl
alone_all {P} alone (place ∷ places) each =
    ap (λ (b : Bool). b && all_alone alone places) (each place) ∙ alone_all alone places each

pub alone_here : {P B : Type 0} (alone : P → Bool) (book_alone : B → Bool) (places : List P) (book : B)
    → ((place : P) → alone place ≡ true) → book_alone book ≡ true → alone_at alone book_alone places book ≡ true
alone_here {P} {B} alone book_alone places book each at_book =
    ap (λ (b : Bool). b && book_alone book) (alone_all alone places each) ∙ at_book

pub speak_here : {P : Type 0} (speaks : P → ℕ → Bool) (places : List P) (me : ℕ)
    → ((place : P) (caller : ℕ) → IsTrue (speaks place caller)) → AllSpeak speaks places me
speak_here speaks places me each k d within = each (get_or places k d) me

-- ---- what a session ensures over places, said of desks that have seen the same

module _ (alone : Bool) (c : Config) (old seen now : Histories) (is_alone : alone ≡ true) (same : old ≡ seen) where
  pub feeds_here : (session next : Session) (text before after : List ℕ)
      → ((opening : Opening) (so_far : List ℕ) (steps : List Step) (histories : Histories) (sent : List ℕ)
      → StandsFor c session opening so_far steps histories sent → OthersCalled histories old session.me
      → Fed c alone old now next opening (so_far ++ text) steps sent before after)
      → Feeds c seen now session next text before after
  feeds_here session next text before after fed =
      subst (λ (h : Histories). Feeds c h now session next text before after) same
      (λ opening so_far steps histories sent stands others.
      subst (λ (a : Bool). Fed c a old now next opening (so_far ++ text) steps sent before after) is_alone
      (fed opening so_far steps histories sent stands others))

  pub turns_here : (session next : Session) (budget : ℕ) (before after : List ℕ)
      → (is_rover session.stage ≡ true
      → (opening : Opening) (so_far : List ℕ) (steps : List Step) (histories : Histories) (sent : List ℕ)
      → StandsFor c session opening so_far steps histories sent → OthersCalled histories old session.me
      → Turned c alone old now budget next opening so_far steps sent before after)
      → (is_rover session.stage ≡ false → (next ≡ session) × (now ≡ old) × (after ≡ before))
      → TakesTurn c seen now session next budget before after
  turns_here session next budget before after turned bystander =
      subst (λ (h : Histories). TakesTurn c h now session next budget before after) same (
        λ rover opening so_far steps histories sent stands others.
            subst (λ (a : Bool). Turned c a old now budget next opening so_far steps sent before after) is_alone
            (turned rover opening so_far steps histories sent stands others),
        bystander,
      )

  pub closes_here : (session : Session) (last : Last) (receipt : Receipt)
      → ((opening : Opening) (heading : Heading) (text : List ℕ) (steps : List Step) (histories : Histories)
      (sent : List ℕ) → IsHeadingOf (Some opening) text heading
      → StandsFor c session opening text steps histories sent → OthersCalled histories old session.me
      → IsClosed c alone old now session.me session.ended (judged c opening heading text) steps last receipt)
      → Closes c seen now session last receipt
  closes_here session last receipt closed =
      subst (λ (h : Histories). Closes c h now session last receipt) same
      (λ opening heading text steps histories sent is stands others.
      subst (λ (a : Bool). IsClosed c a old now session.me session.ended (judged c opening heading text) steps last
      receipt) is_alone (closed opening heading text steps histories sent is stands others))

  pub opens_here : (opening : Opening) (result : Result Session AllocError)
      → IfOk result (λ session. Fed c alone old now session opening [] [] [] [] [])
      → IfOk result (λ session. Opens c seen now session opening [])
  opens_here opening result opened =
      subst (λ (h : Histories). IfOk result (λ session. Opens c h now session opening [])) same
      (subst (λ (a : Bool). IfOk result (λ session. Fed c a old now session opening [] [] [] [] [])) is_alone opened)

-- places that nobody called at have seen what they had
pub seen_same : {P B : Type 0} (rings now : List P) (book book_now : B) (ring_seen : P → History RingCall)
    (book_seen : B → History BookCall) → now ≡ rings → book_now ≡ book
    → seen_at ring_seen book_seen now book_now ≡ seen_at ring_seen book_seen rings book
seen_same rings now book book_now ring_seen book_seen same same_too =
    ap (λ r. seen_at ring_seen book_seen r book_now) same ∙ ap (seen_at ring_seen book_seen rings) same_too

-- ---- the rings of a configuration

one_next : (n : ℕ) → suc n ≡ n + 1
one_next n = omega arith

abbrev pub shape_of : ℕ → List FilterValue → RingShape
shape_of capacity filters = record { capacity = capacity; filters = filters }

shape_from : (groups : List Group) (n i : ℕ) (mounts : List Mount) (mount : Mount) (d : RingShape)
    → i < length mounts → mount ≡ get_or mounts i mount
    → shape_of mount.ring (filters_of groups (n + i)) ≡ get_or (shapes_from groups n mounts) i d
shape_from groups n i [] mount d within is = absurd (omega (arith, within))
shape_from groups n zero (first ∷ mounts) mount d within is =
    ap (λ (m : Mount). shape_of m.ring (filters_of groups (n + 0))) is
    ∙ ap (λ (k : ℕ). shape_of first.ring (filters_of groups k)) (nothing_more n)
  where
    nothing_more : (k : ℕ) → k + 0 ≡ k
    nothing_more k = omega arith
shape_from groups n (suc i) (first ∷ mounts) mount d within is =
    ap (λ (k : ℕ). shape_of mount.ring (filters_of groups k)) (moved n i)
    ∙ shape_from groups (n + 1) i mounts mount d (omega (arith, within)) is
  where
    moved : (k j : ℕ) → k + suc j ≡ (k + 1) + j
    moved k j = omega arith

pub shape_at : (groups : List Group) (i : ℕ) (mounts : List Mount) (mount : Mount) (d : RingShape)
    → i < length mounts → mount ≡ get_or mounts i mount
    → shape_of mount.ring (filters_of groups i) ≡ get_or (shapes_from groups 0 mounts) i d
shape_at groups i mounts mount d within is =
    ap (λ (k : ℕ). shape_of mount.ring (filters_of groups k)) (from_zero i)
    ∙ shape_from groups 0 i mounts mount d within is
  where
    from_zero : (k : ℕ) → k ≡ 0 + k
    from_zero k = omega arith

pub shapes_count : (groups : List Group) (n : ℕ) (mounts : List Mount)
    → length (shapes_from groups n mounts) ≡ length mounts
shapes_count groups n [] = refl
shapes_count groups n (mount ∷ mounts) = ap suc (shapes_count groups (n + 1) mounts)

abbrev pub no_call : History RingCall
no_call = []

abbrev pub no_shape : RingShape
no_shape = shape_of 0 []

-- no calls at one more mountpoint
uncalled_suc : (mounts : List Mount) (i : ℕ) → i < length mounts
    → map (λ (mount : Mount). no_call) (take (suc i) mounts) ≡ map (λ (mount : Mount). no_call) (take i mounts) ++ [] ∷
    []
uncalled_suc [] i within = absurd (omega (arith, within))
uncalled_suc (mount ∷ mounts) zero within = refl
uncalled_suc (mount ∷ mounts) (suc i) within = ap (λ l. [] ∷ l) (uncalled_suc mounts i (omega (arith, within)))

pub uncalled_next : (mounts : List Mount) (i : ℕ) → i < length mounts
    → map (λ (mount : Mount). no_call) (take (i + 1) mounts) ≡ map (λ (mount : Mount). no_call) (take i mounts) ++ [] ∷
    []
uncalled_next mounts i within =
    ap (λ (n : ℕ). map (λ (mount : Mount). no_call) (take n mounts)) (sym (one_next i)) ∙ uncalled_suc mounts i within

-- the places at the rings of the first so many mountpoints
pub record AreFirst {P : Type 0} (shape : P → RingShape) (seen : P → History RingCall) (c : Config) (count : ℕ)
    (places : List P) : Type 0 where
  pub shapes_are : map shape places ≡ take count (shapes c)
  pub uncalled : map seen places ≡ map (λ (mount : Mount). no_call) (take count c.mount)

-- and one more
pub first_next : {P : Type 0} (shape : P → RingShape) (seen : P → History RingCall) (c : Config) (count : ℕ)
    (places after : List P) (place : P) → count < length c.mount → after ≡ places ++ place ∷ []
    → shape place ≡ get_or (shapes c) count no_shape → seen place ≡ no_call → AreFirst shape seen c count places
    → AreFirst shape seen c (count + 1) after
first_next {P} shape seen c count places after place within more shaped new first = record {
  shapes_are = ap (map shape) more ∙ map-append shape places (place ∷ [])
      ∙ ap (λ (l : List RingShape). l ++ shape place ∷ []) first.shapes_are
      ∙ ap (λ (s : RingShape). take count (shapes c) ++ s ∷ []) shaped
      ∙ sym (take_more (shapes c) count no_shape (omega (arith, within, shapes_count c.group 0 c.mount)));
  uncalled = ap (map seen) more ∙ map-append seen places (place ∷ [])
      ∙ ap (λ (l : List (History RingCall)). l ++ seen place ∷ []) first.uncalled
      ∙ ap (λ (h : History RingCall). map (λ (mount : Mount). no_call) (take count c.mount) ++ h ∷ []) new
      ∙ sym (uncalled_next c.mount count within);
}

-- ---- what the mountpoints came to

-- one more of the places, which saw this
pub totals_more : {P : Type 0} (places : List P) (i : ℕ) (place : P) (seen : P → History RingCall) → i < length places
    → place ≡ get_or places i place
    → map mount_total (take i (map seen places)) ++ mount_total (seen place) ∷ []
    ≡ map mount_total (take (i + 1) (map seen places))
totals_more {P} [] i place seen within is = absurd (omega (arith, within))
totals_more {P} (first ∷ places) zero place seen within is = ap (λ (p : P). mount_total (seen p) ∷ []) is
totals_more {P} (first ∷ places) (suc i) place seen within is =
    ap (λ l. mount_total (seen first) ∷ l) (totals_more places i place seen (omega (arith, within)) is)
    ∙ ap (λ (n : ℕ). mount_total (seen first) ∷ map mount_total (take n (map seen places))) (sym (one_next i))
    ∙ ap (λ (n : ℕ). map mount_total (take n (map seen (first ∷ places)))) (one_next (suc i))
