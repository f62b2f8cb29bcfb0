-- All keepers at the locks and at the press: what each did, from its first call on.
use Rattle.std.proofs.Common.{◌≡◌, ◌∙◌, ◌+◌, ℕ, zero, suc, Bool, List, [], ◌∷◌, map, refl, sym, ap, subst, arith}
use Rattle.std.specs.Prelude.{⊤}
use Rattle.std.specs.List.{All}
use Rattle.std.proofs.lemmas.List.Elements.{All-head, All-tail}
use mathlib.Core.Option.{some, some-injective, some-ne-none}
use lib.ListN.{get_elem?}
use Rattle.turn_log.specs.History.{History, own}
use Rattle.cast_io.specs.Told.{DoorTold}
use Rattle.cast_io.specs.Doors.{IsNewDoor}
use Rattle.caster_accounts.specs.declared.account.Sum.{Sum}
use Rattle.caster_accounts.specs.Sums.{nothing}
use Rattle.cast_config.specs.declared.config.Config.{Config}
use Rattle.session_calls.specs.Rings.{AllLater}
use Rattle.session_model.specs.Run.{Histories, nothing_called}
use Rattle.caster_press.specs.declared.line.Line.{Line}
use Rattle.caster_press.specs.Lines.{text_of}
use Rattle.caster_places.specs.Piles.{AreMatched}
use Rattle.caster_places.specs.Known.{Known}
use Rattle.caster_places.specs.Rows.{AreAt}
use Rattle.caster_link.specs.declared.role.Role.{Role}
use Rattle.caster_link.specs.Wear.{Wear, lacks_in, only_worn, wear_of}
use Rattle.caster_link.proofs.WornLemmas.{WearsOn}
use Rattle.caster_seats.specs.declared.shared.Shared.{Shared}
use Rattle.caster_seats.specs.SeatedCallers.{SeatedTold}
use Rattle.caster_seats.specs.Seated.{AreAllAt, AreBelow, AreSeated, IsSeated}
use Rattle.caster_keep.specs.declared.keeper.Keeper.{Keeper}
use Rattle.caster_keep.specs.declared.stop.Stop.{Stop}
use Rattle.caster_keep.specs.Links.{Kept}
use Rattle.caster_keep.specs.Keepers.{KeptOn}
use Rattle.caster_keep.specs.Keeping.{AreKeepers, IsKeeper, KeeperTold, first_of, role_of, seen_by}
use Rattle.caster_keep.specs.Stations.{HasWorkedOn, PostTold, hand_at, posted}
use Rattle.caster_keep.specs.Together.{IsNewKeeper, IsToldBy, gate_at, role_at}
use Rattle.caster_keep.proofs.KeepLemmas.{follow_worn}

-- ---- posts

module _ {G : Type 0} where
  -- the keepers at these posts
  abbrev pub works_at : List (PostTold G) → List (Keeper G)
  works_at posts = map (λ (post : PostTold G). post.hand.work) posts

  -- and what they have seen
  abbrev pub seen_at_posts : List (PostTold G) → List Histories
  seen_at_posts posts = map (λ (post : PostTold G). post.hand.seen) posts

module _ {G : Type 0} (told : G → DoorTold) (over : G → Bool) (peer : G → List ℕ) where
  -- ---- one keeper

  -- the same with places that are worn further
  worn_on : (c : Config) (role : Role) (me : ℕ) (wear later : Wear) (start now : Histories) (before after : G)
      (old new : Sum) (links : List Kept) (texts : List (List ℕ)) (stop : Stop) → WearsOn wear later
      → KeptOn told over peer c role me wear start now before after old new links texts stop
      → KeptOn told over peer c role me later start now before after old new links texts stop
  worn_on c role me wear later start now before after old new links texts stop on kept = record {
    turns = kept.turns;
    at = kept.at;
    went = kept.went;
    links_are = kept.links_are;
    followed = follow_worn c role me wear later links start now on kept.followed;
    tally = kept.tally;
    leaves = kept.leaves;
    lines = kept.lines;
    why = kept.why;
  }

  -- from a seat, with what it was before its first call
  from_first : (c : Config) (role first_role : Role) (me number : ℕ) (wear : Wear) (start none now : Histories)
      (before gate after : G) (old none_yet new : Sum) (links : List Kept) (texts : List (List ℕ)) (stop : Stop)
      → role ≡ first_role → me ≡ number → start ≡ none → before ≡ gate → old ≡ none_yet
      → KeptOn told over peer c role me wear start now before after old new links texts stop
      → KeptOn told over peer c first_role number wear none now gate after none_yet new links texts stop
  from_first c role first_role me number wear start none now before gate after old none_yet new links texts stop
      same_role same_me same_start same_gate same_sum kept =
      subst (λ (r : Role). KeptOn told over peer c r number wear none now gate after none_yet new links texts stop)
      same_role
      (subst (λ (k : ℕ). KeptOn told over peer c role k wear none now gate after none_yet new links texts stop) same_me
      (subst (λ (h : Histories). KeptOn told over peer c role me wear h now gate after none_yet new links texts stop)
      same_start
      (subst (λ (g : G). KeptOn told over peer c role me wear start now g after none_yet new links texts stop) same_gate
      (subst (λ (s : Sum). KeptOn told over peer c role me wear start now before after s new links texts stop)
      same_sum kept))))

  -- what is told of a keeper that had served nothing, at its post
  abbrev told_at : (keeper : Keeper G) (old : SeatedTold (Keeper G)) (c : Config) (table : List ℕ) (post : PostTold G)
      (lines : List Line) → HasWorkedOn told over peer (posted c table old) post lines → KeeperTold G
  told_at keeper old c table post lines worked = record {
    role = keeper.role;
    first = keeper.gate;
    seen = post.hand.seen;
    links = worked.links;
    tally = post.hand.work.tally;
    gate = post.hand.work.gate;
    stop = worked.stop;
    lines = lines;
  }

  is_keeper : (shared : Shared) (table : List ℕ) (n : ℕ) (keeper : Keeper G) (old : SeatedTold (Keeper G))
      (post : PostTold G) (lines : List Line) (worn : List ℕ) → IsNewKeeper keeper → IsNewDoor (told keeper.gate)
      → IsSeated shared n keeper old → AllLater post.hand.worn worn
      → (worked : HasWorkedOn told over peer (posted shared.config.now table old) post lines)
      → IsKeeper told over peer shared.config.now worn n
      (told_at keeper old shared.config.now table post lines worked)
  is_keeper shared table n keeper old post lines worn new unused seated later worked =
      let c = shared.config.now in
      let wear = wear_of post.hand.known post.hand.worn in
      let on : WearsOn wear (only_worn worn) =
      record { same = sym (ap lacks_in worked.known ∙ seated.full); later = later } in record {
        unused = unused;
        kept = worn_on c keeper.role n wear (only_worn worn) (nothing_called c) post.hand.seen keeper.gate
            post.hand.work.gate nothing post.hand.work.tally worked.links (map text_of lines) worked.stop on
            (from_first c old.work.role keeper.role old.number n wear old.seen (nothing_called c) post.hand.seen
            old.work.gate keeper.gate post.hand.work.gate old.work.tally nothing post.hand.work.tally worked.links
            (map text_of lines) worked.stop
            (ap (λ (k : Keeper G). k.role) seated.work_is) seated.numbered seated.uncalled
            (ap (λ (k : Keeper G). k.gate) seated.work_is)
            (ap (λ (k : Keeper G). k.tally) (seated.work_is ∙ new)) worked.kept);
      }

  -- ---- all of them

  -- Keepers that are numbered from this number on did what keepers do: each put its own lines of this
  -- history.
  abbrev pub AllWorked : History Line → ℕ → List (PostTold G) → List (PostTold G) → Type 0
  AllWorked whole n [] [] = ⊤
  AllWorked whole n [] (new ∷ news) = ⊥
  AllWorked whole n (old ∷ olds) [] = ⊥
  AllWorked whole n (old ∷ olds) (new ∷ news) =
      HasWorkedOn told over peer old new (own n whole) × AllWorked whole (n + 1) olds news

  -- the own lines of each keeper, who are numbered from this number on, are those that are told of
  -- it
  abbrev pub Own : History Line → ℕ → List (KeeperTold G) → Type 0
  Own whole n tolds = (k : ℕ) (keeper : KeeperTold G) → get_elem? tolds k ≡ some keeper
      → own (n + k) whole ≡ keeper.lines

  own_more : (whole : History Line) (n : ℕ) (first : KeeperTold G) (tolds : List (KeeperTold G))
      → own n whole ≡ first.lines → Own whole (n + 1) tolds → Own whole n (first ∷ tolds)
  own_more whole n first tolds here rest zero keeper at =
      ap (λ (i : ℕ). own i whole) (let e : n + 0 ≡ n = omega arith in e) ∙ here
      ∙ ap (λ (k : KeeperTold G). k.lines) (some-injective first keeper at)
  own_more whole n first tolds here rest (suc k) keeper at =
      ap (λ (i : ℕ). own i whole) (moved n k) ∙ rest k keeper at where
        moved : (a b : ℕ) → a + suc b ≡ a + 1 + b
        moved a b = omega arith

  -- what is told of keepers at these posts, who are numbered from this number on
  pub record Collected (shared : Shared) (whole : History Line) (n : ℕ) (keepers : List (Keeper G))
      (posts : List (PostTold G)) : Type 0 where
    pub tolds : List (KeeperTold G)
    pub are : AreMatched IsToldBy tolds (works_at posts)
    pub roles_are : map role_of tolds ≡ map role_at keepers
    pub firsts_are : map first_of tolds ≡ map gate_at keepers
    pub seen : map seen_by tolds ≡ seen_at_posts posts
    pub owns : Own whole n tolds
    pub kept : (worn : List ℕ) → AreBelow worn (map hand_at posts)
        → AreKeepers told over peer shared.config.now worn n tolds
    pub at : AreAllAt n (map hand_at posts) shared.rings.items shared.book

  pub collected : (shared : Shared) (table : List ℕ) (whole : History Line) (n : ℕ) (keepers : List (Keeper G))
      (olds : List (SeatedTold (Keeper G))) (posts : List (PostTold G)) → All IsNewKeeper keepers
      → All (λ (keeper : Keeper G). IsNewDoor (told keeper.gate)) keepers → AreSeated shared n keepers olds
      → AllWorked whole n (map (posted shared.config.now table) olds) posts
      → Collected shared whole n keepers posts
  collected shared table whole n [] [] [] fresh unused seated worked = record {
    tolds = [];
    are = tt;
    roles_are = refl;
    firsts_are = refl;
    seen = refl;
    owns = λ k keeper at. absurd (some-ne-none keeper (sym at));
    kept = λ worn below. tt;
    at = tt;
  }
  collected shared table whole n [] [] (post ∷ posts) fresh unused seated worked = absurd worked
  collected shared table whole n [] (old ∷ olds) posts fresh unused seated worked = absurd seated
  collected shared table whole n (keeper ∷ keepers) [] posts fresh unused seated worked = absurd seated
  collected shared table whole n (keeper ∷ keepers) (old ∷ olds) [] fresh unused seated worked = absurd worked
  collected shared table whole n (keeper ∷ keepers) (old ∷ olds) (post ∷ posts) fresh unused seated worked =
      let c = shared.config.now in
      let new : IsNewKeeper keeper = All-head IsNewKeeper keeper keepers fresh in
      let is_new : IsNewDoor (told keeper.gate) =
      All-head (λ (k : Keeper G). IsNewDoor (told k.gate)) keeper keepers unused in
      let lines = own n whole in
      let did : HasWorkedOn told over peer (posted c table old) post lines = worked.0 in
      let one = told_at keeper old c table post lines did in
      let rest = collected shared table whole (n + 1) keepers olds posts (All-tail IsNewKeeper keeper keepers fresh)
      (All-tail (λ (k : Keeper G). IsNewDoor (told k.gate)) keeper keepers unused) seated.1 worked.1 in record {
        tolds = one ∷ rest.tolds;
        are = (
          record {
            role = did.role ∙ ap (λ (k : Keeper G). k.role) seated.0.work_is;
            gate = refl;
            tally = refl;
            stop = did.stop_is;
          },
          rest.are,
        );
        roles_are = ap (λ l. keeper.role ∷ l) rest.roles_are;
        firsts_are = ap (λ l. keeper.gate ∷ l) rest.firsts_are;
        seen = ap (λ l. post.hand.seen ∷ l) rest.seen;
        owns = own_more whole n one rest.tolds refl rest.owns;
        kept = λ worn below. (
          is_keeper shared table n keeper old post lines worn new is_new seated.0 below.0 did,
          rest.kept worn below.1,
        );
        at = (
          subst (λ (known : Known). AreAt n known shared.rings.items shared.book) (sym did.known) seated.0.at,
          rest.at,
        );
      }
