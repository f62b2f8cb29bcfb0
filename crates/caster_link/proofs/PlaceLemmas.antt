-- What is known of places, and how it stays.
use Rattle.std.proofs.Common.{◌≡◌, ℕ, Bool, IsTrue, List, map, sym, subst, arith}
use Rattle.std.specs.List.{All}
use Rattle.std.proofs.lemmas.List.{length-map, get_or-map}
use base.Stored.{Gv}
use Rattle.turn_log.specs.Turn.{SamePlace}
use Rattle.mount_ring.specs.declared.shape.RingShape.{RingShape}
use Rattle.session_calls.specs.Rings.{AllSpeak, SamePlaces}
use Rattle.cast_config.specs.declared.config.Config.{Config}
use Rattle.caster_places.specs.Known.{Known, Fit, known_at}

-- places that speak for a caller, by what is known of them
pub speak_by : {P : Type 0} (speaks : P → ℕ → Bool) (places : List P) (me : ℕ)
    → All (λ (s : ℕ → Bool). IsTrue (s me)) (map speaks places) → AllSpeak speaks places me
speak_by speaks places me all k d within =
    subst (λ (s : ℕ → Bool). IsTrue (s me)) (get_or-map speaks places k d (speaks d) within)
    (all k (speaks d) (omega (arith, length-map places speaks, within)))

-- all that is known, in one
known_of : List RingShape → List ℕ → List (ℕ → Bool) → (ℕ → Bool) → List Bool → Bool → List Bool → Bool → List Gv → Gv
    → Known
known_of shapes_are caps_are speaks book_speaks may_lack book_may_lack alone book_alone homes book_home = record {
  shapes_are = shapes_are;
  caps_are = caps_are;
  speaks = speaks;
  book_speaks = book_speaks;
  may_lack = may_lack;
  book_may_lack = book_may_lack;
  alone = alone;
  book_alone = book_alone;
  homes = homes;
  book_home = book_home;
}

known_by : (a a' : List RingShape) (b b' : List ℕ) (d d' : List (ℕ → Bool)) (e e' : ℕ → Bool) (f f' : List Bool)
    (h h' : Bool) (i i' : List Bool) (j j' : Bool) (k k' : List Gv) (l l' : Gv) → a ≡ a' → b ≡ b' → d ≡ d' → e ≡ e'
    → f ≡ f' → h ≡ h' → i ≡ i' → j ≡ j' → k ≡ k' → l ≡ l'
    → known_of a b d e f h i j k l ≡ known_of a' b' d' e' f' h' i' j' k' l'
known_by a a' b b' d d' e e' f f' h h' i i' j j' k k' l l' p q r s t u v w x y = cc

-- turns change nothing of it
pub known_same : {P B : Type 0} (ring_shape : P → RingShape) (book_shape : B → List ℕ) (ring_speaks : P → ℕ → Bool)
    (book_speaks : B → ℕ → Bool) (ring_may_lack : P → Bool) (book_may_lack : B → Bool) (ring_alone : P → Bool)
    (book_alone : B → Bool) (ring_home : P → Gv) (book_home : B → Gv) (old new : List P) (before after : B)
    → SamePlaces ring_shape ring_speaks ring_may_lack ring_alone ring_home old new
    → SamePlace book_shape book_speaks book_may_lack book_alone book_home before after
    → known_at ring_shape book_shape ring_speaks book_speaks ring_may_lack book_may_lack ring_alone book_alone
    ring_home book_home new after
    ≡ known_at ring_shape book_shape ring_speaks book_speaks ring_may_lack book_may_lack ring_alone book_alone
    ring_home book_home old before
unfolding known_of
known_same ring_shape book_shape ring_speaks book_speaks ring_may_lack book_may_lack ring_alone book_alone ring_home
    book_home old new before after rings book =
    known_by _ _ _ _ _ _ _ _ _ _ _ _ _ _ _ _ _ _ _ _ rings.0 book.0 rings.1 book.1 rings.2 book.2 rings.3 book.3
    rings.4 book.4

-- places that fit a caller go on to fit it
pub fit_kept : (c : Config) (me me' : ℕ) (known known' : Known) → me' ≡ me → known' ≡ known → Fit c me known
    → Fit c me' known'
fit_kept c me me' known known' same still fit =
    subst (λ (n : ℕ). Fit c n known') (sym same) (subst (Fit c me) (sym still) fit)
