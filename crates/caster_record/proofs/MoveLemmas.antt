-- One move more.
use Rattle.std.proofs.Common.{◌≡◌, ◌≢◌, ◌∙◌, ℕ, Bool, true, false, List, [], ◌∷◌, ◌++◌, refl, sym, ap, subst, append_assoc}
use Rattle.std.specs.Prelude.{◌==◌, ◌&&◌, if◌then◌else◌}
use Rattle.std.proofs.lemmas.Bool.{eq-eqb, ne_eqb}
use Rattle.std.proofs.lemmas.List.{append-nil}
use Rattle.std.proofs.lemmas.List.Concat.{flat_map-append}
use Rattle.cast_io.specs.declared.steps.Step.{Step}
use Rattle.cast_io.specs.declared.steps.Step.TheVariants as took
use Rattle.session_script.specs.declared.Event.{Event}
use Rattle.session_script.specs.declared.Event.TheVariants as events
use Rattle.cast_config.specs.declared.config.Config.{Config}
use Rattle.caster_record.specs.Moves.{Move, came, nobody, served, Makes, MakeAll, torn_step, taken_by, taken_in, heard_by, turn_if, break_if, brought_by, brought_in}
use Rattle.cast_io.specs.Links.{bytes_of, bytes_in}

pub made_more : (c : Config) (moves : List Move) (move : Move) (first between after : List Event)
    → MakeAll c moves first between → Makes c move between after → MakeAll c (moves ++ move ∷ []) first after
made_more c [] move first between after so one = (after, subst (λ (e : List Event). Makes c move e after) so one, refl)
made_more c (m ∷ moves) move first between after so one =
    (so.0, so.1, made_more c moves move so.0 between after so.2 one)

pub taken_more : (k : ℕ) (moves : List Move) (move : Move)
    → taken_in k (moves ++ move ∷ []) ≡ taken_in k moves ++ taken_by k move
taken_more k moves move =
    flat_map-append (taken_by k) moves (move ∷ []) ∙ ap (λ (l : List Step). taken_in k moves ++ l)
    (append-nil (taken_by k move))

pub taken_came : (k n : ℕ) (moves : List Move) → taken_in k (moves ++ came n ∷ []) ≡ taken_in k moves
taken_came k n moves = taken_more k moves (came n) ∙ append-nil (taken_in k moves)

pub taken_nobody : (k : ℕ) (moves : List Move) → taken_in k (moves ++ nobody ∷ []) ≡ taken_in k moves
taken_nobody k moves = taken_more k moves nobody ∙ append-nil (taken_in k moves)

pub taken_own : (k n : ℕ) (moves : List Move) (answer : Step) (torn : Bool) → n ≡ k
    → taken_in k (moves ++ served n answer torn ∷ []) ≡ taken_in k moves ++ answer ∷ torn_step torn
taken_own k n moves answer torn same =
    taken_more k moves (served n answer torn)
    ∙ ap (λ (b : Bool). taken_in k moves ++ (if b then answer ∷ torn_step torn else [])) (eq-eqb n k same)

pub taken_apart : (k n : ℕ) (moves : List Move) (answer : Step) (torn : Bool) → n ≢ k
    → taken_in k (moves ++ served n answer torn ∷ []) ≡ taken_in k moves
taken_apart k n moves answer torn apart =
    taken_more k moves (served n answer torn)
    ∙ ap (λ (b : Bool). taken_in k moves ++ (if b then answer ∷ torn_step torn else [])) (ne_eqb n k apart)
    ∙ append-nil (taken_in k moves)

-- ---- what came in is what the reads gave

brought_both : (k : ℕ) (a b : List Event) → brought_in k (a ++ b) ≡ brought_in k a ++ brought_in k b
brought_both k a b = flat_map-append (brought_by k) a b

quiet_turn : (k n : ℕ) (b : Bool) → brought_in k (turn_if n b) ≡ []
quiet_turn k n true = refl
quiet_turn k n false = refl

quiet_break : (k n : ℕ) (b : Bool) → brought_in k (break_if n b) ≡ []
quiet_break k n true = refl
quiet_break k n false = refl

pub read_both : (a b : List Step) → bytes_in (a ++ b) ≡ bytes_in a ++ bytes_in b
read_both a b = flat_map-append bytes_of a b

pub read_torn : (torn : Bool) → bytes_in (torn_step torn) ≡ []
read_torn true = refl
read_torn false = refl

heard_own : (k n : ℕ) (answer : Step) (torn : Bool)
    → brought_in k (heard_by n answer) ≡ bytes_in (taken_by k (served n answer torn))
heard_own k n (took.Bytes bytes) torn = own (n == k)
  where
    own : (b : Bool) → (if b then bytes else []) ++ [] ≡ bytes_in (if b then took.Bytes bytes ∷ torn_step torn else [])
    own true = ap (λ (l : List ℕ). bytes ++ l) (sym (read_torn torn))
    own false = refl
heard_own k n took.Idle torn = none (n == k)
  where
    none : (b : Bool) → [] ≡ bytes_in (if b then took.Idle ∷ torn_step torn else [])
    none true = sym (read_torn torn)
    none false = refl
heard_own k n took.End torn = none (n == k)
  where
    none : (b : Bool) → [] ≡ bytes_in (if b then took.End ∷ torn_step torn else [])
    none true = sym (read_torn torn)
    none false = refl
heard_own k n took.ReadFailed torn = none (n == k)
  where
    none : (b : Bool) → [] ≡ bytes_in (if b then took.ReadFailed ∷ torn_step torn else [])
    none true = sym (read_torn torn)
    none false = refl
heard_own k n took.WriteFailed torn = none (n == k)
  where
    none : (b : Bool) → [] ≡ bytes_in (if b then took.WriteFailed ∷ torn_step torn else [])
    none true = sym (read_torn torn)
    none false = refl

one_brought : (c : Config) (k : ℕ) (move : Move) (before after : List Event) → Makes c move before after
    → brought_in k after ≡ brought_in k before ++ bytes_in (taken_by k move)
one_brought c k (came n) before after is =
    ap (brought_in k) is ∙ brought_both k before (events.Open n ∷ [])
one_brought c k nobody before after is = ap (brought_in k) is ∙ sym (append-nil (brought_in k before))
one_brought c k (served n answer torn) before after s =
    let heard : List Event = heard_by n answer in
    ap (brought_in k) s.events
    ∙ brought_both k ((before ++ heard) ++ turn_if n s.behind) (break_if n (torn && s.going))
    ∙ ap (λ (l : List ℕ). brought_in k ((before ++ heard) ++ turn_if n s.behind) ++ l)
    (quiet_break k n (torn && s.going))
    ∙ append-nil (brought_in k ((before ++ heard) ++ turn_if n s.behind))
    ∙ brought_both k (before ++ heard) (turn_if n s.behind)
    ∙ ap (λ (l : List ℕ). brought_in k (before ++ heard) ++ l) (quiet_turn k n s.behind)
    ∙ append-nil (brought_in k (before ++ heard))
    ∙ brought_both k before heard
    ∙ ap (λ (l : List ℕ). brought_in k before ++ l) (heard_own k n answer torn)

pub all_brought : (c : Config) (k : ℕ) (moves : List Move) (before after : List Event) → MakeAll c moves before after
    → brought_in k after ≡ brought_in k before ++ bytes_in (taken_in k moves)
all_brought c k [] before after is = ap (brought_in k) is ∙ sym (append-nil (brought_in k before))
all_brought c k (move ∷ moves) before after so =
    all_brought c k moves so.0 after so.2
    ∙ ap (λ (l : List ℕ). l ++ bytes_in (taken_in k moves)) (one_brought c k move before so.0 so.1)
    ∙ append_assoc (brought_in k before) (bytes_in (taken_by k move)) (bytes_in (taken_in k moves))
    ∙ ap (λ (l : List ℕ). brought_in k before ++ l)
    (sym (flat_map-append bytes_of (taken_by k move) (taken_in k moves)))
