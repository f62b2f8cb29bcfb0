-- More reports go on with what was owed.
use Rattle.std.proofs.Common.{◌≡◌, ℕ, Bool, true, false, List, [], ◌∷◌, ◌++◌, length, Option, None, Some, option_to_list, refl, sym, ap, subst, ◌∙◌, append_assoc, cond, leb, eqb, inl, inr}
use Rattle.std.specs.Prelude.{◌==◌, filter_map}
use Rattle.std.proofs.lemmas.Bool.{eqb-true, cases_Bool}
use Rattle.std.proofs.lemmas.List.{append-nil}
use Rattle.std.proofs.lemmas.List.Elements.{filter_map-append}
use Rattle.std.specs.Str.Lines.{strip_carriage_return}
use Rattle.cast_text.specs.Lines.{LineState, unfinished, whole_lines, no_line}
use Rattle.cast_text.proofs.LineLemmas.{lines_kept, lines_ended}
use Rattle.gga_read.specs.declared.Position.{Position}
use Rattle.gga_read.specs.Report.{fix_of, reports}
use Rattle.base_select.specs.declared.Base.{Base}
use Rattle.mount_ring.specs.declared.call.RingCall.TheVariants.{Join}
use Rattle.session_calls.specs.Steps.{Step, to_ring, answer_of}
use Rattle.session_calls.specs.Plans.{Plan, done, asks, left, IsMade, Begins}
use Rattle.rover_session.specs.Owed.{Terms, if_held, looks, chooses, changed, joins, follows, joins_each, plan_by, rover_plan, heeds}
use Rattle.rover_session.specs.Made.{after_ask, base_after}

-- ---- more bytes, more reports

-- more lines
abbrev HasMore : ℕ → List ℕ → List ℕ → Type 0
HasMore limit bytes more =
    (lines : List (List ℕ)) × (whole_lines limit (bytes ++ more) ≡ whole_lines limit bytes ++ lines)

-- a line that is coming, of these bytes
abbrev coming : ℕ → List ℕ → LineState
coming limit bytes = record { limit = limit; line = unfinished bytes; over = false; ended = false }

lines_one : (limit : ℕ) (bytes : List ℕ) (byte : ℕ) → HasMore limit bytes (byte ∷ [])
lines_one limit bytes byte =
    elim (cases_Bool (eqb byte 10)) [
      | inl is ↦
          let line : List ℕ = strip_carriage_return (unfinished bytes) in
          let fits : Bool = leb (length line) limit in (
            cond fits (line ∷ []) [],
            ap (λ (b : ℕ). whole_lines limit (bytes ++ b ∷ [])) (eqb-true byte 10 is)
                ∙ lines_ended (coming limit bytes) fits line bytes refl refl refl refl,
          )
      | inr other ↦ ([], lines_kept (no_line limit) byte bytes other)
    ]

lines_more : (limit : ℕ) (bytes more : List ℕ) → HasMore limit bytes more
lines_more limit bytes [] =
    ([], ap (whole_lines limit) (append-nil bytes) ∙ sym (append-nil (whole_lines limit bytes)))
lines_more limit bytes (byte ∷ more) =
    let first : HasMore limit bytes (byte ∷ []) = lines_one limit bytes byte in
    let rest : HasMore limit (bytes ++ byte ∷ []) more = lines_more limit (bytes ++ byte ∷ []) more in (
      first.0 ++ rest.0,
      ap (whole_lines limit) (sym (append_assoc bytes (byte ∷ []) more))
          ∙ rest.1
          ∙ ap (λ (lines : List (List ℕ)). lines ++ rest.0) first.1
          ∙ append_assoc (whole_lines limit bytes) first.0 rest.0,
    )

-- the reports of more bytes are further reports
pub reports_more : (bytes more : List ℕ) → (new : List Position) × (reports (bytes ++ more) ≡ reports bytes ++ new)
reports_more bytes more =
    let lines : HasMore 128 bytes more = lines_more 128 bytes more in (
      filter_map fix_of lines.0,
      ap (filter_map fix_of) lines.1 ∙ filter_map-append fix_of (whole_lines 128 bytes) lines.0,
    )

-- ---- the calls so far are a beginning of all

begins_self : (plan : Plan) → Begins plan plan
begins_self done = tt
begins_self (asks ask next) = (refl, λ answer. begins_self (next answer))

looks_begin : (bases held : List Base) (f g : List Base → Plan) → ((all : List Base) → Begins (f all) (g all))
    → Begins (looks bases held f) (looks bases held g)
looks_begin [] held f g each = each held
looks_begin (base ∷ bases) held f g each =
    (refl, λ answer. looks_begin bases (held ++ if_held base answer) f g each)

joins_begin : (filter : ℕ) (to : Option ℕ) (p q : Plan) → Begins p q → Begins (joins filter to p) (joins filter to q)
joins_begin filter None p q begins = begins
joins_begin filter (Some mount) p q begins = (refl, λ answer. begins)

pub follows_begin : (terms : Terms) (present : Option ℕ) (told new : List Position)
    → Begins (follows terms present told) (follows terms present (told ++ new))
follows_begin terms present [] new = tt
follows_begin terms present (rover ∷ told) new =
    let choice : List Base → Option ℕ = λ held. chooses terms.hysteresis present rover held in
    let to : List Base → Option ℕ = λ held. changed present (choice held) in
    looks_begin terms.bases []
    (λ held. joins terms.filter (to held) (follows terms (choice held) told))
    (λ held. joins terms.filter (to held) (follows terms (choice held) (told ++ new)))
    (λ held. joins_begin terms.filter (to held) (follows terms (choice held) told)
    (follows terms (choice held) (told ++ new)) (follows_begin terms (choice held) told new))

pub heeds_begin : (near : Bool) (terms : Terms) (present : Option ℕ) (told new : List Position)
    → Begins (heeds near terms present told) (heeds near terms present (told ++ new))
heeds_begin false terms present told new = tt
heeds_begin true terms present told new = follows_begin terms present told new

plan_begins : (near : Bool) (terms : Terms) (told new : List Position)
    → Begins (plan_by near terms told) (plan_by near terms (told ++ new))
plan_begins false terms told new = begins_self (joins_each terms.filter terms.bases)
plan_begins true terms told new = follows_begin terms None told new

-- the reports so far and then the new ones
told_more : (first : Option Position) (bytes more : List ℕ) (new : List Position)
    → reports (bytes ++ more) ≡ reports bytes ++ new
    → (option_to_list first ++ reports bytes) ++ new ≡ option_to_list first ++ reports (bytes ++ more)
told_more first bytes more new e =
    append_assoc (option_to_list first) (reports bytes) new
    ∙ ap (λ (all : List Position). option_to_list first ++ all) (sym e)

pub rover_begins : (terms : Terms) (first : Option Position) (bytes more : List ℕ)
    → Begins (rover_plan terms first bytes) (rover_plan terms first (bytes ++ more))
rover_begins terms first bytes more =
    let told : List Position = option_to_list first ++ reports bytes in
    let new = reports_more bytes more in
    subst (λ (all : List Position). Begins (plan_by terms.near terms told) (plan_by terms.near terms all))
    (told_more first bytes more new.0 new.1) (plan_begins terms.near terms told new.0)

-- ---- what is left behind them

-- all is left where nothing was made
left_all : (plan : Plan) → left plan [] ≡ plan
left_all done = refl
left_all (asks ask next) = refl

-- What is left of a plan behind these steps is what the new reports ask for.
module _ (terms : Terms) (new : List Position) where
  abbrev Leaves : Option ℕ → Plan → Plan → Type 0
  Leaves present p q = (steps : List Step) → IsMade p steps
      → left q steps ≡ follows terms (base_after present steps) new

  looks_left : (present : Option ℕ) (bases held : List Base) (f g : List Base → Plan)
      → ((all : List Base) → Leaves present (f all) (g all)) → Leaves present (looks bases held f) (looks bases held g)
  looks_left present [] held f g each steps made = each held steps made
  looks_left present (base ∷ bases) held f g each [] made = absurd made
  looks_left present (base ∷ bases) held f g each (step ∷ steps) made =
      looks_left present bases (held ++ if_held base (answer_of step)) f g each steps made.1
      ∙ ap (λ (now : Option ℕ). follows terms (base_after now steps) new) (sym (ap (after_ask present) made.0))

  join_left : (present : Option ℕ) (mount : ℕ) (p q : Plan) → Leaves (Some mount) p q
      → Leaves present (asks (to_ring mount (Join terms.filter)) (λ answer. p))
      (asks (to_ring mount (Join terms.filter)) (λ answer. q))
  join_left present mount p q after [] made = absurd made
  join_left present mount p q after (step ∷ steps) made =
      after steps made.1
      ∙ ap (λ (now : Option ℕ). follows terms (base_after now steps) new) (sym (ap (after_ask present) made.0))

  unless_left : (base mount : ℕ) (same : Bool) (p q : Plan) → (same ≡ true → base ≡ mount) → Leaves (Some mount) p q
      → Leaves (Some base) (joins terms.filter (cond same None (Some mount)) p)
      (joins terms.filter (cond same None (Some mount)) q)
  unless_left base mount true p q is after steps made =
      after steps made
      ∙ ap (λ (m : ℕ). follows terms (base_after (Some m) steps) new) (sym (is refl))
  unless_left base mount false p q is after steps made = join_left (Some base) mount p q after steps made

  joins_left : (present chosen : Option ℕ) (p q : Plan) → (chosen ≡ None → present ≡ None) → Leaves chosen p q
      → Leaves present (joins terms.filter (changed present chosen) p) (joins terms.filter (changed present chosen) q)
  joins_left None None p q stays after steps made = after steps made
  joins_left (Some base) None p q stays after steps made =
      let none : Some base ≡ None = stays refl in absurd cc
  joins_left None (Some mount) p q stays after steps made = join_left None mount p q after steps made
  joins_left (Some base) (Some mount) p q stays after steps made =
      unless_left base mount (base == mount) p q (eqb-true base mount) after steps made

-- only a rover without a base chooses none
pub choice_stays : (hysteresis : ℕ) (present : Option ℕ) (rover : Position) (held : List Base)
    → chooses hysteresis present rover held ≡ None → present ≡ None
choice_stays hysteresis present rover [] none = none
choice_stays hysteresis present rover (base ∷ held) none = absurd cc

pub follows_left : (terms : Terms) (present : Option ℕ) (told new : List Position) (steps : List Step)
    → IsMade (follows terms present told) steps
    → left (follows terms present (told ++ new)) steps ≡ follows terms (base_after present steps) new
follows_left terms present [] new [] made = left_all (follows terms present new)
follows_left terms present [] new (step ∷ steps) made = absurd cc
follows_left terms present (rover ∷ told) new steps made =
    let choice : List Base → Option ℕ = λ held. chooses terms.hysteresis present rover held in
    let to : List Base → Option ℕ = λ held. changed present (choice held) in
    looks_left terms new present terms.bases []
    (λ held. joins terms.filter (to held) (follows terms (choice held) told))
    (λ held. joins terms.filter (to held) (follows terms (choice held) (told ++ new)))
    (λ held. joins_left terms new present (choice held) (follows terms (choice held) told)
    (follows terms (choice held) (told ++ new)) (choice_stays terms.hysteresis present rover held)
    (λ rest rest_made. follows_left terms (choice held) told new rest rest_made))
    steps made

pub heeds_left : (near : Bool) (terms : Terms) (present : Option ℕ) (told new : List Position) (steps : List Step)
    → IsMade (heeds near terms present told) steps
    → left (heeds near terms present (told ++ new)) steps ≡ heeds near terms (base_after present steps) new
heeds_left false terms present told new steps made = refl
heeds_left true terms present told new steps made = follows_left terms present told new steps made

-- a rover that is not near owes nothing more
each_left : (filter : ℕ) (bases : List Base) (steps : List Step) → IsMade (joins_each filter bases) steps
    → left (joins_each filter bases) steps ≡ done
each_left filter [] steps made = refl
each_left filter (base ∷ bases) [] made = absurd made
each_left filter (base ∷ bases) (step ∷ steps) made = each_left filter bases steps made.1

plan_left : (near : Bool) (terms : Terms) (told new : List Position) (steps : List Step)
    → IsMade (plan_by near terms told) steps
    → left (plan_by near terms (told ++ new)) steps ≡ heeds near terms (base_after None steps) new
plan_left false terms told new steps made = each_left terms.filter terms.bases steps made
plan_left true terms told new steps made = follows_left terms None told new steps made

pub rover_left : (terms : Terms) (first : Option Position) (bytes more : List ℕ) (new : List Position)
    (steps : List Step) → reports (bytes ++ more) ≡ reports bytes ++ new → IsMade (rover_plan terms first bytes) steps
    → left (rover_plan terms first (bytes ++ more)) steps ≡ heeds terms.near terms (base_after None steps) new
rover_left terms first bytes more new steps e made =
    ap (λ (all : List Position). left (plan_by terms.near terms all) steps) (sym (told_more first bytes more new e))
    ∙ plan_left terms.near terms (option_to_list first ++ reports bytes) new steps made
