-- All accounts together are the sum of the receipts of all links.
use Rattle.std.proofs.Common.{◌≡◌, ◌∙◌, ◌+◌, ℕ, suc, List, [], ◌∷◌, ◌++◌, length, fold, refl, sym, ap, subst, Bool, true, false, map, arith}
use Rattle.std.specs.Prelude.{◌&&◌, if◌then◌else◌}
use Rattle.std.specs.List.{flat_map}
use Rattle.std.proofs.lemmas.Grind.{fold-append}
use Rattle.std.proofs.lemmas.List.{length-map}
use Rattle.turn_log.specs.History.{own}
use Rattle.cast_io.specs.Told.{DoorTold}
use Rattle.caster_accounts.specs.declared.account.Sum.{Sum}
use Rattle.caster_accounts.specs.Sums.{nothing}
use Rattle.cast_config.specs.declared.config.Config.{Config}
use Rattle.session_model.specs.declared.report.Receipt.{Receipt}
use Rattle.session_model.specs.Reports.{added}
use Rattle.caster_places.specs.Leaves.{left_in}
use Rattle.caster_places.specs.Rows.{left_by}
use Rattle.caster_serve.specs.Works.{tallied}
use Rattle.caster_serve.proofs.StreetLemmas.{sum_of}
use Rattle.session_model.specs.Run.{Histories}
use Rattle.caster_keep.specs.Keeping.{AreKeepers, IsPorter, KeeperTold, PorterTold, receipts_by, seen_by, seen_by_all}

abbrev plus : Sum → Sum → Sum
plus a b = sum_of (a.sessions + b.sessions) (a.sent + b.sent) (a.overrun + b.overrun)

same_sum : (a b c d e f : ℕ) → a ≡ d → b ≡ e → c ≡ f → sum_of a b c ≡ sum_of d e f
same_sum a b c d e f p q r =
    ap (λ (n : ℕ). sum_of n b c) p ∙ ap (λ (n : ℕ). sum_of d n c) q ∙ ap (λ (n : ℕ). sum_of d e n) r

-- one receipt more adds the same to whatever was there
tallied_plus : (a b : Sum) (receipt : Receipt) → tallied (plus a b) receipt ≡ plus a (tallied b receipt)
tallied_plus a b receipt = by_test (receipt.entered && receipt.settled) where
  by_test : (t : Bool)
      → (if t then sum_of ((a.sessions + b.sessions) + 1) ((a.sent + b.sent) + receipt.sent)
      ((a.overrun + b.overrun) + receipt.overrun) else plus a b)
      ≡ plus a (if t then sum_of (b.sessions + 1) (b.sent + receipt.sent) (b.overrun + receipt.overrun) else b)
  by_test true = same_sum ((a.sessions + b.sessions) + 1) ((a.sent + b.sent) + receipt.sent)
      ((a.overrun + b.overrun) + receipt.overrun) (a.sessions + (b.sessions + 1)) (a.sent + (b.sent + receipt.sent))
      (a.overrun + (b.overrun + receipt.overrun)) (omega arith) (omega arith) (omega arith)
  by_test false = refl

fold_plus : (a b : Sum) (receipts : List Receipt) → fold tallied (plus a b) receipts ≡ plus a (fold tallied b receipts)
fold_plus a b [] = refl
fold_plus a b (receipt ∷ receipts) =
    ap (λ (s : Sum). fold tallied s receipts) (tallied_plus a b receipt)
    ∙ fold_plus a (tallied b receipt) receipts

abbrev tally_of : {G : Type 0} → KeeperTold G → Sum
tally_of keeper = keeper.tally

module _ {G : Type 0} (told : G → DoorTold) (over : G → Bool) (peer : G → List ℕ) where
  -- a sum with what the keepers counted is the sum with all their receipts
  sums_added : (c : Config) (worn : List ℕ) (n : ℕ) (sum : Sum) (keepers : List (KeeperTold G))
      → AreKeepers told over peer c worn n keepers
      → added sum (map tally_of keepers) ≡ fold tallied sum (flat_map receipts_by keepers)
  sums_added c worn n sum [] are = refl
  sums_added c worn n sum (keeper ∷ keepers) are =
      let receipts = receipts_by keeper in
      let from_nothing : plus sum (fold tallied nothing receipts) ≡ fold tallied sum receipts =
      sym (fold_plus sum nothing receipts)
      ∙ ap (λ (s : Sum). fold tallied s receipts) (same_sum (sum.sessions + 0) (sum.sent + 0)
      (sum.overrun + 0) sum.sessions sum.sent sum.overrun (omega arith) (omega arith) (omega arith)) in
      sums_added c worn (n + 1) (plus sum keeper.tally) keepers are.1
      ∙ ap (λ (s : Sum). fold tallied s (flat_map receipts_by keepers))
      (ap (plus sum) are.0.kept.tally ∙ from_nothing)
      ∙ sym (fold-append tallied sum receipts (flat_map receipts_by keepers))

  -- the sessions that each keeper ended in the book are those that it counted
  tallies_are : (c : Config) (worn : List ℕ) (n : ℕ) (keepers : List (KeeperTold G))
      → AreKeepers told over peer c worn n keepers
      → left_by n (map seen_by keepers) ≡ map tally_of keepers
  tallies_are c worn n [] are = refl
  tallies_are c worn n (keeper ∷ keepers) are =
      let leaves = are.0.kept.leaves in
      let next : n + 1 ≡ suc n = omega arith in
      ap (λ (s : Sum). s ∷ left_by (suc n) (map seen_by keepers))
      (ap (λ h. left_in nothing (own n h)) leaves.on ∙ sym leaves.sums)
      ∙ ap (λ l. keeper.tally ∷ l)
      (tallies_are c worn (suc n) keepers
      (subst (λ (k : ℕ). AreKeepers told over peer c worn k keepers) next are.1))

  -- the porter ended none
  none_left : (c : Config) (worn : List ℕ) (me : ℕ) (porter : PorterTold) → IsPorter c worn me porter
      → left_in nothing (own me porter.seen.book) ≡ nothing
  none_left c worn me porter is = ap (λ h. left_in nothing (own me h)) is.answered.book

  left-append : (n : ℕ) (rows : List Histories) (row : Histories)
      → left_by n (rows ++ row ∷ []) ≡ left_by n rows ++ left_in nothing (own (n + length rows) row.book) ∷ []
  left-append n [] row =
      ap (λ (k : ℕ). left_in nothing (own k row.book) ∷ []) (let e : n ≡ n + 0 = omega arith in e)
  left-append n (first ∷ rows) row =
      ap (λ (l : List Sum). left_in nothing (own n first.book) ∷ l)
      (left-append (suc n) rows row
      ∙ ap (λ (k : ℕ). left_by (suc n) rows ++ left_in nothing (own k row.book) ∷ []) (further n (length rows))) where
        further : (a b : ℕ) → suc a + b ≡ a + suc b
        further a b = omega arith

  -- nothing more is added
  added_none : (sum : Sum) (sums : List Sum) → added sum (sums ++ nothing ∷ []) ≡ added sum sums
  added_none sum [] =
      same_sum (sum.sessions + 0) (sum.sent + 0) (sum.overrun + 0) sum.sessions sum.sent sum.overrun (omega arith)
      (omega arith) (omega arith)
  added_none sum (first ∷ sums) = added_none (plus sum first) sums

  pub total_is : (c : Config) (worn : List ℕ) (total : Sum) (keepers : List (KeeperTold G))
      (porter : PorterTold) → AreKeepers told over peer c worn 0 keepers
      → IsPorter c worn (length keepers) porter
      → total ≡ added nothing (left_by 0 (seen_by_all keepers porter))
      → total ≡ fold tallied nothing (flat_map receipts_by keepers)
  total_is c worn total keepers porter are porter_is is =
      is
      ∙ ap (added nothing)
      (left-append 0 (map seen_by keepers) porter.seen
      ∙ ap (λ (k : ℕ). left_by 0 (map seen_by keepers) ++ left_in nothing (own k porter.seen.book) ∷ [])
      (let e : 0 + length (map seen_by keepers) ≡ length keepers = omega (arith, length-map keepers seen_by) in e)
      ∙ ap (λ (s : Sum). left_by 0 (map seen_by keepers) ++ s ∷ [])
      (none_left c worn (length keepers) porter porter_is))
      ∙ added_none nothing (left_by 0 (map seen_by keepers))
      ∙ ap (added nothing) (tallies_are c worn 0 keepers are)
      ∙ sums_added c worn 0 nothing keepers are
