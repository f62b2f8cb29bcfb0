-- The porter leaves behind the keepers.
use Rattle.std.proofs.Common.{◌≡◌, ◌∙◌, ◌+◌, ◌++◌, ℕ, Bool, false, List, [], ◌∷◌, length, map, refl, sym, ap, subst, arith}
use Rattle.std.proofs.lemmas.List.{length-map}
use Rattle.std.proofs.lemmas.List.Elements.{All-append, All-cons, All-nil}
use base.Stored.{Gv}
use Rattle.turn_log.specs.History.{IsLegal, own}
use Rattle.turn_log.specs.Lock.{turn_home}
use Rattle.cast_io.specs.Told.{DoorTold}
use Rattle.cast_io.specs.Yards.{NotesTold}
use Rattle.cast_console.specs.Consoles.{ConsoleTold, IsNewConsole}
use Rattle.caster_accounts.specs.History.{fits}
use Rattle.cast_config.specs.declared.config.Config.{Config}
use Rattle.cast_config.specs.Kept.{KeepsRules}
use Rattle.session_calls.specs.Rings.{AllLater}
use Rattle.session_model.specs.Run.{Histories, nothing_called}
use Rattle.session_model.specs.Setting.{caps}
use Rattle.caster_press.specs.declared.line.Line.{Line}
use Rattle.caster_press.specs.declared.press.OutputStart.{OutputStart}
use Rattle.caster_press.specs.Lines.{text_of}
use Rattle.caster_places.specs.Known.{Fit, Known}
use Rattle.caster_places.specs.Rows.{AreAt, ArePiles, AreWornWithin}
use Rattle.caster_places.specs.declared.pass_piles.PassPiles.{PassPiles}
use Rattle.caster_link.specs.Wear.{lacks_in}
use Rattle.caster_seats.specs.declared.shared.Shared.{Shared}
use Rattle.caster_seats.specs.SeatedCallers.{SeatedTold}
use Rattle.caster_seats.specs.Seated.{IsSeated}
use Rattle.caster_seats.specs.Sharing.{IsReady}
use Rattle.keep_porter.specs.Porters.{Answer, HasAnswered}
use Rattle.keep_porter.proofs.SayLemmas.{all_answers_on}
use Rattle.caster_keep.specs.declared.keeper.Keeper.{Keeper}
use Rattle.caster_keep.specs.declared.porter.Porter.{Porter}
use Rattle.caster_keep.specs.Keeping.{IsPorter, PorterTold, role_of, seen_by}
use Rattle.caster_keep.specs.Stations.{BoothTold, HasWaitedOn, MayWait, booth_of, new_porter}
use Rattle.caster_keep.specs.Gates.{roles_of}
use Rattle.caster_keep.specs.Together.{HaveKept, HaveWorked, role_at}

-- ---- it sat down

-- it may wait at its booth
pub may_wait : {C : Type 0} (shared : Shared) (number : ℕ) (booth : BoothTold C) (work : Porter C) → IsReady shared
    → booth.config ≡ shared.config.now → IsSeated shared number work booth.hand → MayWait booth
may_wait shared number booth work ready same seated = record {
  kept = subst (λ (c : Config). (cap : ℕ) × KeepsRules cap c) (sym same) ready.kept;
  fit = subst (λ (c : Config). Fit c booth.hand.number booth.hand.known) (sym same)
      (subst (λ (k : ℕ). Fit shared.config.now k booth.hand.known) (sym seated.numbered) seated.fit);
}

-- it sat down at its booth
pub sat_down : {C : Type 0} (shared : Shared) (number : ℕ) (work : Porter C) (booth : BoothTold C) (c : Config)
    (hand : SeatedTold (Porter C)) → booth ≡ booth_of c hand → c ≡ shared.config.now → IsSeated shared number work hand
    → (booth.config ≡ shared.config.now) × IsSeated shared number work booth.hand
sat_down {C} shared number work booth c hand is same seated = (
  ap (λ (b : BoothTold C). b.config) is ∙ same,
  subst (λ (b : BoothTold C). IsSeated shared number work b.hand) (sym is) seated,
)

-- ---- it left

-- the same with places that are worn further, from its first call on
answered_on : (c : Config) (me number : ℕ) (lacks : Bool) (worn later : List ℕ) (start none now : Histories)
    (before first after : ConsoleTold) (given : List Answer) (texts : List (List ℕ))
    → me ≡ number → lacks ≡ false → AllLater worn later → start ≡ none → before ≡ first
    → HasAnswered c me lacks worn start now before after given texts
    → HasAnswered c number false later none now first after given texts
answered_on c me number lacks worn later start none now before first after given texts same_me full rise
    same_start same_first answered =
    subst (λ (k : ℕ). HasAnswered c k false later none now first after given texts) same_me
    (subst (λ (h : Histories). HasAnswered c me false later h now first after given texts) same_start
    (subst (λ (t : ConsoleTold). HasAnswered c me false later start now t after given texts) same_first
    (record {
      told = answered.told;
      went = answered.went;
      book = answered.book;
      found = all_answers_on lacks false worn later given (sym full) rise answered.found;
      whole = answered.whole;
      said = answered.said;
      over = answered.over;
    })))

-- it has a place at each of the rings as it leaves
pub still_there : {C P : Type 0} (home : P → Gv) (places : List P) (shared : Shared) (number : ℕ) (work : Porter C)
    (hand before now : SeatedTold (Porter C)) (mounts : ℕ) → map home places ≡ hand.known.homes → hand ≡ now
    → now.known ≡ before.known → IsSeated shared number work before → mounts ≡ length shared.rings.items
    → length places ≡ mounts
still_there {C} home places shared number work hand before now mounts are same still seated long =
    sym (length-map places home) ∙ ap length are ∙ ap (λ (h : SeatedTold (Porter C)). length h.known.homes) same
    ∙ ap (λ (k : Known). length k.homes) still ∙ ap length seated.at.homes ∙ length-map shared.rings.items turn_home
    ∙ sym long

module _ {G C : Type 0} (told : G → DoorTold) (over : G → Bool) (peer : G → List ℕ) (heard : C → ConsoleTold) where
  -- what is told of the porter, which was seated so, and is at its booth now
  abbrev told_of : (first : C) (before now : BoothTold C) (lines : List Line)
      → HasWaitedOn heard before now lines → PorterTold
  told_of first before now lines waited = record {
    first = heard first;
    seen = now.hand.seen;
    given = waited.given;
    console = heard now.hand.work.console;
    lines = lines;
  }

  is_porter : (shared : Shared) (number : ℕ) (first : C) (before now : BoothTold C) (lines : List Line)
      (worn : List ℕ) → IsNewConsole (heard first) → before.config ≡ shared.config.now
      → IsSeated shared number (new_porter first) before.hand → AllLater now.hand.worn worn
      → (waited : HasWaitedOn heard before now lines)
      → IsPorter shared.config.now worn number (told_of first before now lines waited)
  is_porter shared number first before now lines worn unused same seated later waited = record {
    unused = unused;
    answered =
        answered_on shared.config.now before.hand.number number (lacks_in now.hand.known) now.hand.worn worn
        before.hand.seen (nothing_called shared.config.now) now.hand.seen (heard before.hand.work.console) (heard first)
        (heard now.hand.work.console) waited.given (map text_of lines) seated.numbered
        (ap lacks_in waited.known ∙ seated.full) later seated.uncalled
        (ap (λ (p : Porter C). heard p.console) seated.work_is)
        (subst (λ (c : Config). HasAnswered c before.hand.number (lacks_in now.hand.known) now.hand.worn
        before.hand.seen now.hand.seen (heard before.hand.work.console) (heard now.hand.work.console) waited.given
        (map text_of lines)) same waited.answered);
  }

  -- all have left
  pub have_all_worked : (shared : Shared) (start : OutputStart) (torn : Bool) (notes : NotesTold) (firsts : List G)
      (keepers : List (Keeper G)) (first : C) (before now : BoothTold C) (porter : Porter C) (count : ℕ)
      (old new : PassPiles)
      → (kept : HaveKept told over peer heard shared start torn notes firsts keepers before now old)
      → IsNewConsole (heard first) → before.config ≡ shared.config.now
      → IsSeated shared count (new_porter first) before.hand → length old.book.items ≡ count
      → porter ≡ now.hand.work
      → ((number : ℕ) (rows : List Histories) (rings : _) (book : _) → AreAt number now.hand.known rings book
      → number ≡ length rows → ArePiles rows old rings book → ArePiles (rows ++ now.hand.seen ∷ []) new rings book)
      → IsLegal (fits now.hand.known.caps_are) now.hand.seen.book
      → ((mounts : List ℕ) (book : ℕ) → AreWornWithin mounts book new
      → AreWornWithin mounts book old × AllLater now.hand.worn (mounts ++ book ∷ []))
      → length new.book.items ≡ length old.book.items + 1
      → HaveWorked told over peer heard shared start torn notes firsts keepers first porter new
  have_all_worked shared start torn notes firsts keepers first before now porter count old new kept unused same seated
      many work left legal worn one_more =
      let c = shared.config.now in
      let number : count ≡ length kept.tolds = omega (arith, many, kept.passes) in
      let at : AreAt count now.hand.known shared.rings.items shared.book =
      subst (λ (known : Known). AreAt count known shared.rings.items shared.book) (sym kept.waited.known) seated.at in
      let here : IsSeated shared (length kept.tolds) (new_porter first) before.hand =
      subst (λ (k : ℕ). IsSeated shared k (new_porter first) before.hand) number seated in
      let rows = map seen_by kept.tolds in
      let lines = own (length kept.tolds) kept.lines in record {
        tolds = kept.tolds;
        porter_told = told_of first before now lines kept.waited;
        lines = kept.lines;
        told = kept.told;
        told_porter = record { console = ap (λ (p : Porter C). heard p.console) work };
        roles_are = kept.roles_are;
        firsts_are = kept.firsts_are;
        first_is = refl;
        kept = λ mounts book within.
            let both = worn mounts book within in (
              kept.kept mounts book both.0,
              is_porter shared (length kept.tolds) first before now lines (mounts ++ book ∷ []) unused same here both.1
                  kept.waited,
            );
        owns = kept.owns;
        porter_owns = refl;
        nobody_else = kept.nobody_else;
        text = kept.text;
        piles_are = left count rows shared.rings.items shared.book at
            (number ∙ sym (length-map kept.tolds seen_by)) kept.piles_are;
        legal = All-append (λ (row : Histories). IsLegal (fits (caps c)) row.book) rows (now.hand.seen ∷ []) kept.legal
            (All-cons (λ (row : Histories). IsLegal (fits (caps c)) row.book) now.hand.seen []
            (subst (λ (list : List ℕ). IsLegal (fits list) now.hand.seen.book)
            (ap (λ (k : Known). k.caps_are) kept.waited.known ∙ seated.fit.caps_fit) legal)
            (All-nil (λ (row : Histories). IsLegal (fits (caps c)) row.book)));
        passes = omega (arith, one_more, kept.passes);
      }

  -- the same, where it left by this hand
  pub all_left : (shared : Shared) (start : OutputStart) (torn : Bool) (notes : NotesTold) (firsts : List G)
      (were keepers : List (Keeper G)) (first : C) (before now : BoothTold C) (porter : Porter C) (count : ℕ)
      (hand : SeatedTold (Porter C)) (old new : PassPiles)
      → (kept : HaveKept told over peer heard shared start torn notes firsts keepers before now old)
      → IsNewConsole (heard first) → before.config ≡ shared.config.now
      → IsSeated shared count (new_porter first) before.hand → map role_at were ≡ roles_of shared.config.now
      → length were ≡ count → hand ≡ now.hand → porter ≡ hand.work
      → ((number : ℕ) (rows : List Histories) (rings : _) (book : _) → AreAt number hand.known rings book
      → number ≡ length rows → ArePiles rows old rings book → ArePiles (rows ++ hand.seen ∷ []) new rings book)
      → IsLegal (fits hand.known.caps_are) hand.seen.book
      → ((mounts : List ℕ) (book : ℕ) → AreWornWithin mounts book new
      → AreWornWithin mounts book old × AllLater hand.worn (mounts ++ book ∷ []))
      → length new.book.items ≡ length old.book.items + 1
      → HaveWorked told over peer heard shared start torn notes firsts keepers first porter new
  all_left shared start torn notes firsts were keepers first before now porter count hand old new kept unused same seated
      roles many is work left legal worn one_more =
      have_all_worked shared start torn notes firsts keepers first before now porter count old new kept unused same
      seated (omega (
        arith,
        kept.passes,
        ap length kept.roles_are,
        length-map kept.tolds role_of,
        ap length roles,
        length-map were role_at,
        many,
      )) (work ∙ ap (λ (h : SeatedTold (Porter C)). h.work) is)
      (subst (λ (h : SeatedTold (Porter C)). (number : ℕ) (rows : List Histories) (rings : _) (book : _)
      → AreAt number h.known rings book → number ≡ length rows → ArePiles rows old rings book
      → ArePiles (rows ++ h.seen ∷ []) new rings book) is left)
      (subst (λ (h : SeatedTold (Porter C)). IsLegal (fits h.known.caps_are) h.seen.book) is legal)
      (subst (λ (h : SeatedTold (Porter C)). (mounts : List ℕ) (book : ℕ) → AreWornWithin mounts book new
      → AreWornWithin mounts book old × AllLater h.worn (mounts ++ book ∷ [])) is worn)
      one_more
