-- Links that a gate gave, one after the other, each kept and its lines put.
use Rattle.std.proofs.Common.{◌≡◌, ◌∙◌, ◌+◌, ◌++◌, ℕ, Bool, true, false, IsTrue, List, [], ◌∷◌, length, fold, refl, sym, ap, subst, Option, None, Some, append-nil, append_assoc, arith, Bor}
use Rattle.std.specs.Prelude.{is_some}
use Rattle.std.specs.Option.{option_copied}
use Rattle.std.proofs.lemmas.List.{map-append, length-append}
use Rattle.std.proofs.lemmas.Grind.{fold-append}
use Rattle.turn_log.specs.History.{History}
use Rattle.cast_io.specs.declared.door.Arrived.TheVariants as arrived
use Rattle.cast_io.specs.Told.{LinkTold, DoorTold}
use Rattle.cast_io.specs.Links.{IsNewLink}
use Rattle.cast_io.specs.Doors.{HasAccepted, HasHungUp}
use Rattle.caster_accounts.specs.declared.account.Sum.{Sum}
use Rattle.cast_config.specs.declared.config.Config.{Config}
use Rattle.session_model.specs.declared.report.Receipt.{Receipt}
use Rattle.session_model.specs.Judged.{Opening}
use Rattle.session_model.specs.Run.{Histories}
use Rattle.caster_press.specs.declared.line.Line.{Line}
use Rattle.session_core.specs.declared.asked.Asked.{Asked}
use Rattle.session_core.specs.declared.held.Held.{Held}
use Rattle.session_core.specs.declared.held.Held.TheVariants as holds
use Rattle.session_core.specs.Holding.{IsHolding}
use Rattle.session_core.specs.Asking.{AsksOn}
use Rattle.caster_press.specs.Lines.{text_of}
use Rattle.caster_press.specs.Places.{HasPut}
use Rattle.keep_lines.specs.declared.told.Entered.{Entered}
use Rattle.keep_lines.specs.declared.told.LinkNumber.{LinkNumber}
use Rattle.keep_lines.specs.Lines.{entered_line, receipt_lines}
use Rattle.keep_lines.specs.Puts.{HasTold}
use Rattle.keep_lines.proofs.PutLemmas.{told_as, told_behind, told_none, told_one, told_then}
use Rattle.caster_link.specs.declared.role.Role.{Role}
use Rattle.caster_link.specs.Links.{opening_of}
use Rattle.caster_link.specs.Stepped.{HasClosed}
use Rattle.caster_link.specs.Wear.{Wear, IsRefusedBy}
use Rattle.caster_link.proofs.WornLemmas.{WearsOn, refused_on}
use Rattle.caster_places.specs.Leaves.{Leaves}
use Rattle.caster_serve.specs.Works.{Record, tallied, receipts_of}
use Rattle.caster_serve.proofs.LeaveLemmas.{leaves_both, leaves_none}
use Rattle.caster_serve.proofs.WorkLemmas.{fault_come, link_come, link_counted, none_come, record_goes}
use Rattle.caster_keep.specs.declared.stop.Stop.{Stop}
use Rattle.caster_keep.specs.declared.stop.Stop.TheVariants as stops
use Rattle.caster_keep.specs.Links.{Follow, Kept, KeptGoes, LinkKept, asked_line, asked_lines, entered_lines, entered_of, first_line, lines_from, lines_of, lines_of_entered, link_lines, number_of, records_of, told_lines, whose}
use Rattle.caster_keep.specs.Keepers.{IsTurn, IsWhy, KeptOn, Turn, Went, kept_at, links_in}

-- ---- as what it was let in

no_lines : (c : Config) (link : LinkNumber) (held : Option Entered) → is_some held ≡ false
    → lines_of_entered c link held ≡ []
no_lines c link None none = refl
no_lines c link (Some entered) none = absurd (let clash : true ≡ false = none in cc)

-- as what it was let in is told now
pub told_now : (c : Config) (link : LinkNumber) (before now : Held) (entered : Entered) (line : Line) (by : ℕ)
    (texts : List (List ℕ)) (old mid new : History Line) → is_some (entered_of before) ≡ false
    → entered_of now ≡ Some entered → text_of line ≡ entered_line c link entered → HasPut by (line ∷ []) mid new
    → HasTold by (texts ++ entered_lines c link before) old mid
    → HasTold by (texts ++ entered_lines c link now) old new
told_now c link before now entered line by texts old mid new none some text put so_far =
    subst (λ (l : List (List ℕ)). HasTold by (texts ++ l) old new)
    (ap (λ (t : List ℕ). t ∷ []) text ∙ sym (ap (lines_of_entered c link) some))
    (told_then by texts (text_of line ∷ []) old mid new
    (told_as by (texts ++ entered_lines c link before) texts old mid
    (ap (λ (l : List (List ℕ)). texts ++ l) (no_lines c link (entered_of before) none) ∙ append-nil texts) so_far)
    (told_one by line mid new put))

-- ---- what its head asks

-- it holds nothing that a line tells, where what is told of what it asks is not what it was
not_in : (c : Config) (link : LinkNumber) (held : Held) (asked : Asked) → (IsHolding held → Some asked ≡ None)
    → entered_lines c link held ≡ []
not_in c link holds.Nothing asked still = refl
not_in c link (holds.Rover account) asked still = absurd (let clash : Some asked ≡ None = still tt in cc)
not_in c link (holds.Source mount claim) asked still = absurd (let clash : Some asked ≡ None = still tt in cc)
not_in c link (holds.Relay mount claim) asked still = absurd (let clash : Some asked ≡ None = still tt in cc)

-- it was told before
pub asked_before : (c : Config) (link : LinkNumber) (before now : Option Asked) (held : Held) (by : ℕ)
    (old new : History Line) → is_some before ≡ true → AsksOn before now
    → HasTold by (told_lines c link before held) old new → HasTold by (told_lines c link now held) old new
asked_before c link None now held by old new some on so_far = absurd (let clash : false ≡ true = some in cc)
asked_before c link (Some asked) now held by old new some on so_far =
    subst (λ (told : Option Asked). HasTold by (told_lines c link told held) old new) (sym on) so_far

-- it asks nothing so far
pub asks_nothing : (c : Config) (link : LinkNumber) (before now : Option Asked) (held : Held) (by : ℕ)
    (old new : History Line) → is_some before ≡ false → now ≡ None
    → HasTold by (told_lines c link before held) old new → HasTold by (told_lines c link now held) old new
asks_nothing c link (Some asked) now held by old new some none so_far =
    absurd (let clash : true ≡ false = some in cc)
asks_nothing c link None now held by old new some none so_far =
    subst (λ (told : Option Asked). HasTold by (told_lines c link told held) old new) (sym none) so_far

-- it is told now
pub asked_now : (c : Config) (link : LinkNumber) (before now : Option Asked) (asked : Asked) (held : Held) (line : Line)
    (by : ℕ) (old mid new : History Line) → is_some before ≡ false → now ≡ Some asked
    → (IsHolding held → now ≡ before) → text_of line ≡ asked_line link asked → HasPut by (line ∷ []) mid new
    → HasTold by (told_lines c link before held) old mid → HasTold by (told_lines c link now held) old new
asked_now c link (Some before) now asked held line by old mid new some told still text put so_far =
    absurd (let clash : true ≡ false = some in cc)
asked_now c link None now asked held line by old mid new some told still text put so_far =
    let nothing = not_in c link held asked (λ holding. sym told ∙ still holding) in
    subst (λ (l : List (List ℕ)). HasTold by l old new)
    (ap (λ (t : List ℕ). t ∷ []) text ∙ sym (append-nil (asked_lines link (Some asked)))
    ∙ ap (λ (l : List (List ℕ)). asked_lines link (Some asked) ++ l) (sym nothing)
    ∙ ap (λ (a : Option Asked). told_lines c link a held) (sym told))
    (told_then by [] (text_of line ∷ []) old mid new
    (told_as by (told_lines c link None held) [] old mid nothing so_far) (told_one by line mid new put))

-- what is asked is the same where it is seen through a reference
pub some_copied : (asked : Option (Bor Asked)) → is_some asked ≡ is_some (option_copied asked)
some_copied None = refl
some_copied (Some asked) = refl

-- ---- all lines of one link

-- its first line, what was told while it was served, and its receipt
pub link_put : (c : Config) (link : LinkNumber) (role : Role) (peer : List ℕ) (asked : Option Asked) (held : Held)
    (receipt : Receipt) (by : ℕ) (first : Line) (old one two new : History Line)
    → text_of first ≡ first_line c link role peer → HasPut by (first ∷ []) old one
    → HasTold by (told_lines c link asked held) one two
    → HasTold by (receipt_lines c link (whose c role held) receipt) two new
    → HasTold by (link_lines c link role peer asked held receipt) old new
link_put c link role peer asked held receipt by first old one two new text put entered rest =
    let receipts : List (List ℕ) = receipt_lines c link (whose c role held) receipt in
    subst (λ (t : List ℕ). HasTold by (t ∷ (told_lines c link asked held ++ receipts)) old new) text
    (told_behind by (text_of first) (told_lines c link asked held ++ receipts) old one new (told_one by first old one put)
    (told_then by (told_lines c link asked held) receipts one two new entered rest))

-- what was held is the same by another name
pub closed_as : (was held : Held) {c : Config} {opening : Opening} {me : ℕ} {start now : Histories}
    {before after : LinkTold} {asked : Option Asked} {receipt : Receipt} → was ≡ held
    → HasClosed c opening me start now before after was asked receipt
    → HasClosed c opening me start now before after held asked receipt
closed_as was held {c} {opening} {me} {start} {now} {before} {after} {asked} {receipt} same closed =
    subst (λ (h : Held). HasClosed c opening me start now before after h asked receipt) same closed

-- the link was served, counted and hung up
pub link_kept : (c : Config) (role : Role) (me count : ℕ) (wear : Wear) (start now : Histories)
    (before after : LinkTold) (peer : List ℕ) (door hung : DoorTold) (old new : Sum) (held : Held) (asked : Option Asked)
    (receipt : Receipt) (by : ℕ) (sheet later : History Line) → IsNewLink before
    → HasClosed c (opening_of role) me start now before after held asked receipt → IsRefusedBy wear receipt
    → new ≡ tallied old receipt → HasHungUp after door hung
    → HasTold by (link_lines c (number_of me count) role peer asked held receipt) sheet later
    → LinkKept c role me count wear start now before peer door hung old new by sheet later
unfolding link_counted record_goes
link_kept c role me count wear start now before after peer door hung old new held asked receipt by sheet later fresh
    closed refused counts hangs put = record {
      link = after;
      same = closed.served.link.given;
      hung_up = hangs;
      served = link_counted c (opening_of role) me wear start now before after receipt old new fresh closed.served
          refused counts;
      held = held;
      held_is = closed.held;
      asked = asked;
      asked_is = closed.asked;
      put = put;
    }

-- ---- histories

-- what was refused by the places as they were worn then, was by the same places as they are now
goes_worn : (c : Config) (role : Role) (me : ℕ) (wear later : Wear) (kept : Kept) (start now : Histories)
    → WearsOn wear later → KeptGoes c role me wear kept start now → KeptGoes c role me later kept start now
goes_worn c role me wear later kept start now on was = record {
  goes = record {
    taken = was.goes.taken;
    written = was.goes.written;
    last = was.goes.last;
    taken_is = was.goes.taken_is;
    bytes_is = was.goes.bytes_is;
    goes = was.goes.goes;
    caused = was.goes.caused;
    refused = refused_on wear later kept.entry.receipt on was.goes.refused;
    published = was.goes.published;
  };
  held_is = was.held_is;
  asked_is = was.asked_is;
}

pub follow_worn : (c : Config) (role : Role) (me : ℕ) (wear later : Wear) (links : List Kept)
    (start now : Histories) → WearsOn wear later → Follow c role me wear links start now
    → Follow c role me later links start now
follow_worn c role me wear later [] start now on so_far = so_far
follow_worn c role me wear later (kept ∷ links) start now on so_far = (
  so_far.0,
  goes_worn c role me wear later kept start so_far.0 on so_far.1,
  follow_worn c role me wear later links so_far.0 now on so_far.2,
)

follow-snoc : (c : Config) (role : Role) (me : ℕ) (wear : Wear) (links : List Kept) (kept : Kept)
    (start between now : Histories) → Follow c role me wear links start between
    → KeptGoes c role me wear kept between now → Follow c role me wear (links ++ kept ∷ []) start now
follow-snoc c role me wear [] kept start between now so_far goes =
    (now, subst (λ (h : Histories). KeptGoes c role me wear kept h now) so_far goes, refl)
follow-snoc c role me wear (first ∷ links) kept start between now so_far goes =
    (so_far.0, so_far.1, follow-snoc c role me wear links kept so_far.0 between now so_far.2 goes)

-- ---- lines

lines-snoc : (c : Config) (me : ℕ) (role : Role) (n : ℕ) (links : List Kept) (kept : Kept)
    → lines_from c me role n (links ++ kept ∷ [])
    ≡ lines_from c me role n links ++ lines_of c me role (n + length links) kept
lines-snoc c me role n [] kept =
    append-nil (lines_of c me role n kept)
    ∙ ap (λ (k : ℕ). lines_of c me role k kept) (let zero : n ≡ n + 0 = omega arith in zero)
lines-snoc c me role n (first ∷ links) kept =
    ap (λ (l : List (List ℕ)). lines_of c me role n first ++ l) (lines-snoc c me role (n + 1) links kept)
    ∙ ap (λ (k : ℕ). lines_of c me role n first ++ (lines_from c me role (n + 1) links ++ lines_of c me role k kept))
    (let same : (n + 1) + length links ≡ n + length (first ∷ links) = omega arith in same)
    ∙ sym (append_assoc (lines_of c me role n first) (lines_from c me role (n + 1) links)
    (lines_of c me role (n + length (first ∷ links)) kept))

links-snoc : {G : Type 0} (turns : List (Turn G)) (turn : Turn G)
    → links_in (turns ++ turn ∷ []) ≡ links_in turns ++ kept_at turn.kept
links-snoc [] turn = append-nil (kept_at turn.kept)
links-snoc (first ∷ turns) turn =
    ap (λ (l : List Kept). kept_at first.kept ++ l) (links-snoc turns turn)
    ∙ sym (append_assoc (kept_at first.kept) (links_in turns) (kept_at turn.kept))

-- ---- what was found out of it

-- the role is the same by another name
pub in_role : (role now : Role) {c : Config} {me count : ℕ} {wear : Wear} {start later : Histories} {given : LinkTold}
    {peer : List ℕ} {before after : DoorTold} {old new : Sum} {by : ℕ} {sheet next : History Line}
    → now ≡ role → LinkKept c now me count wear start later given peer before after old new by sheet next
    → LinkKept c role me count wear start later given peer before after old new by sheet next
in_role role now {c} {me} {count} {wear} {start} {later} {given} {peer} {before} {after} {old} {new} {by} {sheet} {next}
    same kept =
    subst (λ (r : Role). LinkKept c r me count wear start later given peer before after old new by sheet next) same kept

-- ---- between two turns

module _ {G : Type 0} (told : G → DoorTold) (over : G → Bool) (peer : G → List ℕ) where
  -- A keeper kept so many links so far, and put the lines of each.
  pub record Keeping (c : Config) (role : Role) (me : ℕ) (wear : Wear) (start now : Histories) (before at : G)
      (old new : Sum) (by : ℕ) (sheet later : History Line) (count : ℕ) : Type 0 where
    pub turns : List (Turn G)
    pub went : Went told over peer turns before at
    pub links : List Kept
    pub links_are : links_in turns ≡ links
    pub followed : Follow c role me wear links start now
    pub counted : length links ≡ count
    pub tally : new ≡ fold tallied old (receipts_of (records_of links))
    pub leaves : Leaves me start.book now.book old new
    pub put : HasTold by (lines_from c me role 1 links) sheet later

  pub keeping_none : (c : Config) (role : Role) (me : ℕ) (wear : Wear) (now : Histories) (gate : G) (sum : Sum)
      (by : ℕ) (sheet : History Line)
      → Keeping c role me wear now now gate gate sum sum by sheet sheet 0
  keeping_none c role me wear now gate sum by sheet = record {
    turns = [];
    went = refl;
    links = [];
    links_are = refl;
    followed = refl;
    counted = refl;
    tally = refl;
    leaves = leaves_none me now.book sum;
    put = told_none by sheet sheet refl;
  }

  pub keeping_first : (c : Config) (role : Role) (me : ℕ) (wear : Wear) (now : Histories) (gate : G) (sum : Sum)
      (by : ℕ) (sheet : History Line) (count : ℕ) → count ≡ 0
      → Keeping c role me wear now now gate gate sum sum by sheet sheet count
  keeping_first c role me wear now gate sum by sheet count none =
      subst (λ (n : ℕ). Keeping c role me wear now now gate gate sum sum by sheet sheet n) (sym none)
      (keeping_none c role me wear now gate sum by sheet)

  went-snoc : (turns : List (Turn G)) (turn : Turn G) (before now : G) → Went told over peer turns before now
      → IsTurn told over peer now turn → Went told over peer (turns ++ turn ∷ []) before turn.left
  went-snoc [] turn before now went is = (subst (λ (g : G). IsTurn told over peer g turn) went is, refl)
  went-snoc (first ∷ turns) turn before now went is =
      (went.0, went-snoc turns turn first.left now went.1 is)

  -- nothing was there
  pub keeping_idle : {L : Type 0} (link_told : L → LinkTold) (c : Config) (role : Role) (me : ℕ) (wear : Wear)
      (start now : Histories) (before at asked opened left : G) (old sum : Sum) (by : ℕ)
      (sheet later : History Line) (count : ℕ)
      → Keeping c role me wear start now before at old sum by sheet later count
      → told asked ≡ told at → over asked ≡ false
      → HasAccepted link_told (told asked) (told opened) arrived.Idle → told left ≡ told opened
      → Keeping c role me wear start now before left old sum by sheet later count
  keeping_idle link_told c role me wear start now before at asked opened left old sum by sheet later count keeping same
      lasts came rests =
      let turn : Turn G = record { asked = asked; opened = opened; kept = None; left = left } in record {
        turns = keeping.turns ++ turn ∷ [];
        went = went-snoc keeping.turns turn before at keeping.went
            (record { same = same; not_over = lasts; given = (none_come link_told (told asked) (told opened) came, rests) });
        links = keeping.links;
        links_are = links-snoc keeping.turns turn ∙ append-nil (links_in keeping.turns) ∙ keeping.links_are;
        followed = keeping.followed;
        counted = keeping.counted;
        tally = keeping.tally;
        leaves = keeping.leaves;
        put = keeping.put;
      }

  -- a turn that gave a link which was kept
  a_link : {L : Type 0} (link_told : L → LinkTold) (link : L) (c : Config) (role : Role) (me count : ℕ) (wear : Wear)
      (between now : Histories) (at asked opened left : G) (sum new : Sum) (by : ℕ) (mid later : History Line)
      → told asked ≡ told at → over asked ≡ false
      → HasAccepted link_told (told asked) (told opened) (arrived.Link link)
      → (one : LinkKept c role me count wear between now (link_told link) (peer opened) (told opened) (told left) sum
      new by mid later)
      → IsTurn told over peer at (record {
        asked = asked;
        opened = opened;
        kept = Some (record {
          entry = record { link = one.link; receipt = one.served.receipt };
          asked = one.asked;
          held = one.held;
          peer = peer opened;
        });
        left = left;
      })
  a_link link_told link c role me count wear between now at asked opened left sum new by mid later same lasts came one =
      record {
        same = same;
        not_over = lasts;
        given = (link_told link, link_come link_told link (told asked) (told opened) came, refl, one.same, one.hung_up);
      }

  -- the receipts of these links and of one more
  tally-snoc : (old sum new : Sum) (links : List Kept) (kept : Kept)
      → sum ≡ fold tallied old (receipts_of (records_of links)) → new ≡ tallied sum kept.entry.receipt
      → new ≡ fold tallied old (receipts_of (records_of (links ++ kept ∷ [])))
  tally-snoc old sum new links kept before one =
      one ∙ ap (λ (s : Sum). tallied s kept.entry.receipt) before
      ∙ sym (fold-append tallied old (receipts_of (records_of links)) (kept.entry.receipt ∷ []))
      ∙ ap (fold tallied old)
      (sym (ap receipts_of (map-append (λ (k : Kept). k.entry) links (kept ∷ []))
      ∙ map-append (λ (e : Record). e.receipt) (records_of links) (kept.entry ∷ [])))

  -- all but the lines, once a link more was kept
  followed-snoc : (c : Config) (role : Role) (me : ℕ) (wear later : Wear) (links : List Kept) (kept : Kept)
      (start between now : Histories) → WearsOn wear later → Follow c role me wear links start between
      → KeptGoes c role me later kept between now → Follow c role me later (links ++ kept ∷ []) start now
  followed-snoc c role me wear later links kept start between now on so_far goes =
      follow-snoc c role me later links kept start between now
      (follow_worn c role me wear later links start between on so_far) goes

  pub keeping_more : {L : Type 0} (link_told : L → LinkTold) (link : L) (c : Config) (role : Role) (me count next : ℕ)
      (wear worn : Wear) (start between now : Histories) (before at asked opened left : G) (old sum new : Sum)
      (by : ℕ) (sheet mid later : History Line) → WearsOn wear worn → next ≡ count + 1
      → Keeping c role me wear start between before at old sum by sheet mid count
      → told asked ≡ told at → over asked ≡ false
      → HasAccepted link_told (told asked) (told opened) (arrived.Link link)
      → LinkKept c role me next worn between now (link_told link) (peer opened) (told opened) (told left) sum new
      by mid later
      → Keeping c role me worn start now before left old new by sheet later next
  keeping_more link_told link c role me count next wear worn start between now before at asked opened left old sum new by
      sheet mid later on one_more keeping same lasts came one =
      let entry : Record = record { link = one.link; receipt = one.served.receipt } in
      let kept : Kept = record { entry = entry; asked = one.asked; held = one.held; peer = peer opened } in
      let turn : Turn G = record { asked = asked; opened = opened; kept = Some kept; left = left } in
      let number : next ≡ 1 + length keeping.links = omega (arith, one_more, keeping.counted) in record {
        turns = keeping.turns ++ turn ∷ [];
        went = went-snoc keeping.turns turn before at keeping.went
            (a_link link_told link c role me next worn between now at asked opened left sum new by mid later same lasts
            came one);
        links = keeping.links ++ kept ∷ [];
        links_are = links-snoc keeping.turns turn ∙ ap (λ (l : List Kept). l ++ kept ∷ []) keeping.links_are;
        followed = followed-snoc c role me wear worn keeping.links kept start between now on keeping.followed
            (record { goes = one.served.goes; held_is = one.held_is; asked_is = one.asked_is });
        counted = length-append keeping.links (kept ∷ []) ∙ ap (λ (n : ℕ). n + 1) keeping.counted ∙ sym one_more;
        tally = tally-snoc old sum new keeping.links kept keeping.tally one.served.tally;
        leaves = leaves_both me start.book between.book now.book old sum new keeping.leaves one.served.leaves;
        put = told_as by (lines_from c me role 1 keeping.links ++ lines_of c me role next kept)
            (lines_from c me role 1 (keeping.links ++ kept ∷ [])) sheet later
            (ap (λ (n : ℕ). lines_from c me role 1 keeping.links ++ lines_of c me role n kept) number
            ∙ sym (lines-snoc c me role 1 keeping.links kept))
            (told_then by (lines_from c me role 1 keeping.links) (lines_of c me role next kept) sheet mid later
            keeping.put one.put);
      }

  -- ---- why it ended

  -- what a keeper did, with the lines that it put
  abbrev pub HasKeptOn : Config → Role → ℕ → Wear → Histories → Histories → G → G → Sum → Sum → ℕ → History Line
      → History Line → Stop → Type 0
  HasKeptOn c role me wear start now before after old new by sheet later stop = (links : List Kept)
      × (texts : List (List ℕ)) × HasTold by texts sheet later
      × KeptOn told over peer c role me wear start now before after old new links texts stop

  kept_whole : (stop : Stop) (c : Config) (role : Role) (me : ℕ) (wear : Wear) (start now : Histories)
      (before at after : G) (old new : Sum) (by : ℕ) (sheet later : History Line) (count : ℕ)
      → Keeping c role me wear start now before at old new by sheet later count → IsWhy told over peer stop at after
      → HasKeptOn c role me wear start now before after old new by sheet later stop
  kept_whole stop c role me wear start now before at after old new by sheet later count keeping why = (
    keeping.links,
    lines_from c me role 1 keeping.links,
    keeping.put,
    record {
      turns = keeping.turns;
      at = at;
      went = keeping.went;
      links_are = keeping.links_are;
      followed = keeping.followed;
      tally = keeping.tally;
      leaves = keeping.leaves;
      lines = refl;
      why = why;
    },
  )

  pub kept_over : (c : Config) (role : Role) (me : ℕ) (wear : Wear) (start now : Histories) (before at after : G)
      (old new : Sum) (by : ℕ) (sheet later : History Line) (count : ℕ)
      → Keeping c role me wear start now before at old new by sheet later count
      → told after ≡ told at → IsTrue (over after)
      → HasKeptOn c role me wear start now before after old new by sheet later stops.Over
  kept_over c role me wear start now before at after old new by sheet later count keeping same is =
      kept_whole stops.Over c role me wear start now before at after old new by sheet later count keeping (same, is)

  pub kept_failed : {L : Type 0} (link_told : L → LinkTold) (c : Config) (role : Role) (me : ℕ) (wear : Wear)
      (start now : Histories) (before at asked after : G) (old new : Sum) (by : ℕ) (sheet later : History Line)
      (count : ℕ) → Keeping c role me wear start now before at old new by sheet later count
      → told asked ≡ told at → over asked ≡ false
      → HasAccepted link_told (told asked) (told after) arrived.Failed
      → HasKeptOn c role me wear start now before after old new by sheet later stops.Failed
  kept_failed link_told c role me wear start now before at asked after old new by sheet later count keeping same lasts
      came =
      kept_whole stops.Failed c role me wear start now before at after old new by sheet later count keeping (record {
        asked = asked;
        same = same;
        not_over = lasts;
        failed = fault_come link_told (told asked) (told after) came;
      })
