-- Which lines of a receipt say `end`.
use Rattle.std.proofs.Common.{◌≡◌, ◌∙◌, ℕ, ◌<◌, ◌+◌, List, [], ◌∷◌, ◌++◌, length, map, get_or, refl, sym, ap, subst, arith, length-append}
use Rattle.std.specs.Prelude.{codes}
use Rattle.std.specs.Fmt.{decimal}
use Rattle.std.specs.List.{All, flat_map}
use Rattle.std.proofs.lemmas.List.{append_cancel_left, get_or_append_left}
use Rattle.std.proofs.lemmas.List.Elements.{All-append, All-cons}
use Rattle.mount_ring.specs.declared.cursor.Lap.{Lap}
use Rattle.rover_cursor.specs.declared.segment.Segment.{Segment}
use Rattle.cast_config.specs.declared.config.Config.{Config}
use Rattle.caster_press.specs.Texts.{newline}
use Rattle.session_model.specs.Text.{ending_words}
use Rattle.session_model.specs.declared.report.Receipt.{Receipt}
use Rattle.keep_lines.specs.declared.told.LinkNumber.{LinkNumber}
use Rattle.keep_lines.specs.declared.told.Peer.{Peer}
use Rattle.keep_lines.specs.declared.told.Peer.TheVariants as peers
use Rattle.keep_lines.specs.declared.told.Asks.{Asks}
use Rattle.keep_lines.specs.declared.told.Entered.{Entered}
use Rattle.keep_lines.specs.declared.told.Entered.TheVariants as entries
use Rattle.keep_lines.specs.declared.told.Who.{Who}
use Rattle.keep_lines.specs.Lines.{IsEndOf, asks_line, end_line, entered_line, kind_word, lap_line, line_with, link_line, link_word, mount_word, receipt_lines, segment_line, segment_lines, settled_words, target_word, user_shown, user_word, version_word, who_word}
use Rattle.keep_lines.specs.Words.{dash, led, shown}
use Rattle.keep_lines.proofs.LinkLemmas.{line_text}

-- a line of another word says no `end`: `e` is 101
other_word : (link : LinkNumber) (b : ℕ) (word : List ℕ) (words : List (List ℕ)) → (101 ≡ b → ⊥)
    → ¬ IsEndOf link (line_with link ((b ∷ word) ∷ words))
other_word link b word words other end =
    let says = (codes "end" ++ led end.0) ++ newline ∷ [] in
    let rest = ((b ∷ word) ++ led words) ++ newline ∷ [] in
    let same : 32 ∷ says ≡ 32 ∷ rest =
    append_cancel_left (link_word link) (32 ∷ says) (32 ∷ rest)
    (sym (line_text link (codes "end") end.0) ∙ sym end.1 ∙ line_text link (b ∷ word) words) in
    other (ap (λ (l : List ℕ). get_or l 1 0) same)

pub peer_says_other : (link : LinkNumber) (peer : Peer) → ¬ IsEndOf link (link_line link peer)
peer_says_other link (peers.From address) =
    other_word link 102 (codes "rom") (shown address.now ∷ []) (λ same. absurd (omega (arith, same)))
peer_says_other link peers.Unknown = other_word link 102 (codes "rom") (dash ∷ []) (λ same. absurd (omega (arith, same)))
peer_says_other link (peers.To address) =
    other_word link 116 (codes "o") (shown address.now ∷ []) (λ same. absurd (omega (arith, same)))

pub asks_says_other : (link : LinkNumber) (asks : Asks) → ¬ IsEndOf link (asks_line link asks)
asks_says_other link asks =
    other_word link 97 (codes "sks") (version_word asks.version ∷ kind_word asks.wants ∷ target_word asks.wants
    ∷ user_shown asks.user.now ∷ []) (λ same. absurd (omega (arith, same)))

pub entered_says_other : (c : Config) (link : LinkNumber) (entered : Entered) → ¬ IsEndOf link (entered_line c link entered)
entered_says_other c link (entries.Rover account) =
    other_word link 114 (codes "over") (user_word c account ∷ []) (λ same. absurd (omega (arith, same)))
entered_says_other c link (entries.Source mount claim) =
    other_word link 115 (codes "ource") (mount_word c mount ∷ decimal claim ∷ []) (λ same. absurd (omega (arith, same)))
entered_says_other c link (entries.Relay mount claim) =
    other_word link 114 (codes "elay") (mount_word c mount ∷ decimal claim ∷ []) (λ same. absurd (omega (arith, same)))

lap_says_other : (link : LinkNumber) (lap : Lap) → ¬ IsEndOf link (lap_line link lap)
lap_says_other link lap = other_word link 108 (codes "ap")
    (decimal lap.from ∷ decimal lap.to ∷ decimal lap.published ∷ decimal lap.overrun ∷ []) (λ same. absurd (omega (arith, same)))

segment_says_other : (c : Config) (link : LinkNumber) (segment : Segment) → ¬ IsEndOf link (segment_line c link segment)
segment_says_other c link segment = other_word link 115 (codes "egment")
    (mount_word c segment.mount ∷ decimal segment.from ∷ decimal segment.to ∷ decimal segment.sent
    ∷ decimal segment.overrun ∷ []) (λ same. absurd (omega (arith, same)))

laps_say_others : (link : LinkNumber) (laps : List Lap) → All (λ (text : List ℕ). ¬ IsEndOf link text) (map (lap_line link) laps)
laps_say_others link [] = λ k d within. absurd (omega (arith, within))
laps_say_others link (lap ∷ laps) =
    All-cons (λ (text : List ℕ). ¬ IsEndOf link text) (lap_line link lap) (map (lap_line link) laps)
    (lap_says_other link lap) (laps_say_others link laps)

segments_say_others : (c : Config) (link : LinkNumber) (segments : List Segment)
    → All (λ (text : List ℕ). ¬ IsEndOf link text) (flat_map (segment_lines c link) segments)
segments_say_others c link [] = λ k d within. absurd (omega (arith, within))
segments_say_others c link (segment ∷ segments) =
    All-append (λ (text : List ℕ). ¬ IsEndOf link text) (segment_lines c link segment) (flat_map (segment_lines c link) segments)
    (All-cons (λ (text : List ℕ). ¬ IsEndOf link text) (segment_line c link segment) (map (lap_line link) segment.laps)
    (segment_says_other c link segment) (laps_say_others link segment.laps))
    (segments_say_others c link segments)

-- what holds of all but the last holds of any that are not all
all_of_part : {X : Type 0} (P : X → Type 0) (xs done rest : List X) (last next : X) → All P xs
    → xs ++ last ∷ [] ≡ done ++ next ∷ rest → All P done
all_of_part {X} P xs done rest last next all same = λ k d within.
    let sizes : length (xs ++ last ∷ []) ≡ length (done ++ next ∷ rest) = ap (λ (l : List X). length l) same in
    let first : length (xs ++ last ∷ []) ≡ length xs + 1 = length-append xs (last ∷ []) in
    let second : length (done ++ next ∷ rest) ≡ length done + length (next ∷ rest) = length-append done (next ∷ rest) in
    let below : k < length xs = omega (arith, sizes, first, second, within) in
    subst P
    (sym (get_or_append_left xs (last ∷ []) d k below) ∙ ap (λ (l : List X). get_or l k d) same
    ∙ get_or_append_left done (next ∷ rest) d k within) (all k d below)

pub end_says_end : (c : Config) (link : LinkNumber) (who : Who) (receipt : Receipt)
    → IsEndOf link (end_line c link who receipt)
end_says_end c link who receipt = (
  who_word c who ∷ decimal receipt.sent ∷ decimal receipt.overrun ∷ decimal receipt.junk
      ∷ (ending_words receipt.ending ++ settled_words receipt.settled),
  refl,
)

pub others_say_others : (c : Config) (link : LinkNumber) (who : Who) (receipt : Receipt) (done rest : List (List ℕ))
    (next : List ℕ) → receipt_lines c link who receipt ≡ done ++ next ∷ rest
    → All (λ (text : List ℕ). ¬ IsEndOf link text) done
others_say_others c link who receipt done rest next same =
    all_of_part (λ (text : List ℕ). ¬ IsEndOf link text) (flat_map (segment_lines c link) receipt.segments) done rest
    (end_line c link who receipt) next (segments_say_others c link receipt.segments) same
