-- What a rover heeded of its bytes so far.
use Rattle.std.proofs.Common.{◌≡◌, ℕ, ◌+◌, ◌<◌, ◌≤◌, Bool, List, [], ◌∷◌, ◌++◌, length, take, drop, get_or, Option, None, Some, option_to_list, refl, sym, ap, subst, ◌∙◌, append_assoc}
use Rattle.std.proofs.lemmas.List.{append-nil, take_more, take_all, take-append-drop}
use Rattle.cast_text.specs.Lines.{LineState}
use Rattle.cast_text.specs.Lines as lines
use Rattle.turn_log.specs.History.{History}
use Rattle.gga_read.specs.declared.Position.{Position}
use Rattle.gga_read.specs.Report.{reports}
use Rattle.mount_ring.specs.declared.call.RingCall.{RingCall}
use Rattle.mount_ring.specs.declared.shape.RingShape.{RingShape}
use Rattle.rover_cursor.specs.declared.segment.Segment.{Segment}
use Rattle.rover_cursor.specs.declared.fault.SegFault.{SegFault}
use Rattle.rover_session.specs.Owed.{Terms, heeds}
use Rattle.rover_session.specs.Made.{present_base}
use Rattle.rover_session.specs.Standing.{Followed}
use Rattle.rover_session.proofs.FollowLemmas.{reports_more}
use Rattle.rover_session.proofs.FollowedLemmas.{followed_none, followed_both, followed_longer, heeds_nothing}

module _ (shapes : List RingShape) (alone : Bool) (old : List (History RingCall)) (me : ℕ) (near : Bool) (terms : Terms)
    (a : List Segment) where
  -- all reports of these further bytes were followed, and the reader has the line that is coming
  pub record Heeded (now : List (History RingCall)) (reader : LineState) (before bytes : List ℕ) (b : List Segment)
      : Type 0 where
    pub line : lines.StandsFor reader (before ++ bytes)
    pub new : List Position
    pub told : reports (before ++ bytes) ≡ reports before ++ new
    pub followed : Followed shapes alone old now me (heeds near terms (present_base a) new) None a b

  -- these bytes have further reports, which were followed, or the first of them until a refusal
  abbrev pub HeededUntil : List (History RingCall) → Option SegFault → List ℕ → List ℕ → List Segment → Type 0
  HeededUntil now refused before bytes b =
      (new : List Position) × (reports (before ++ bytes) ≡ reports before ++ new)
      × Followed shapes alone old now me (heeds near terms (present_base a) new) refused a b

  pub heeded_none : (reader : LineState) (before : List ℕ) → lines.StandsFor reader before
      → Heeded old reader before [] a
  heeded_none reader before stands = record {
    line = subst (lines.StandsFor reader) (sym (append-nil before)) stands;
    new = [];
    told = ap reports (append-nil before) ∙ sym (append-nil (reports before));
    followed = followed_none shapes alone old me (heeds near terms (present_base a) []) None a
        (heeds_nothing near terms (present_base a) None refl);
  }

  pub heeded_more : (mid now : List (History RingCall)) (reader next : LineState) (before bytes : List ℕ) (byte : ℕ)
      (report : Option Position) (b c : List Segment) → Heeded mid reader before bytes b
      → lines.StandsFor next ((before ++ bytes) ++ byte ∷ [])
      → reports ((before ++ bytes) ++ byte ∷ []) ≡ reports (before ++ bytes) ++ option_to_list report
      → Followed shapes alone mid now me (heeds near terms (present_base b) (option_to_list report)) None b c
      → Heeded now next before (bytes ++ byte ∷ []) c
  heeded_more mid now reader next before bytes byte report b c x stands more y = record {
    line = subst (lines.StandsFor next) (append_assoc before bytes (byte ∷ [])) stands;
    new = x.new ++ option_to_list report;
    told = ap reports (sym (append_assoc before bytes (byte ∷ [])))
        ∙ more
        ∙ ap (λ (l : List Position). l ++ option_to_list report) x.told
        ∙ append_assoc (reports before) x.new (option_to_list report);
    followed = followed_both shapes alone old mid now me near terms x.new (option_to_list report) None a b c x.followed
        y;
  }

  -- the same of the first bytes of some
  pub heeded_next : (mid now : List (History RingCall)) (reader next : LineState) (before bytes : List ℕ) (i : ℕ)
      (report : Option Position) (b c : List Segment) → i < length bytes
      → Heeded mid reader before (take i bytes) b
      → lines.StandsFor next ((before ++ take i bytes) ++ get_or bytes i 0 ∷ [])
      → reports ((before ++ take i bytes) ++ get_or bytes i 0 ∷ [])
      ≡ reports (before ++ take i bytes) ++ option_to_list report
      → Followed shapes alone mid now me (heeds near terms (present_base b) (option_to_list report)) None b c
      → Heeded now next before (take (i + 1) bytes) c
  heeded_next mid now reader next before bytes i report b c within x stands more y =
      subst (λ (l : List ℕ). Heeded now next before l c) (sym (take_more bytes i 0 within))
      (heeded_more mid now reader next before (take i bytes) (get_or bytes i 0) report b c x stands more y)

  -- all bytes
  pub heeded_all : (now : List (History RingCall)) (reader : LineState) (before bytes : List ℕ) (n : ℕ)
      (b : List Segment) → length bytes ≤ n → Heeded now reader before (take n bytes) b
      → HeededUntil now None before bytes b
  heeded_all now reader before bytes n b long x =
      let all : take n bytes ≡ bytes = take_all n bytes long in
      (x.new, ap (λ (l : List ℕ). reports (before ++ l)) (sym all) ∙ x.told, x.followed)

  pub heeded_line : (now : List (History RingCall)) (reader : LineState) (before bytes : List ℕ) (n : ℕ)
      (b : List Segment) → length bytes ≤ n → Heeded now reader before (take n bytes) b
      → lines.StandsFor reader (before ++ bytes)
  heeded_line now reader before bytes n b long x =
      subst (λ (l : List ℕ). lines.StandsFor reader (before ++ l)) (take_all n bytes long) x.line

  -- at a refusal the rest was not heeded
  pub heeded_refused : (mid now : List (History RingCall)) (reader : LineState) (before bytes : List ℕ) (i : ℕ)
      (report : Option Position) (fault : SegFault) (b c : List Segment) → i < length bytes
      → Heeded mid reader before (take i bytes) b
      → reports ((before ++ take i bytes) ++ get_or bytes i 0 ∷ [])
      ≡ reports (before ++ take i bytes) ++ option_to_list report
      → Followed shapes alone mid now me (heeds near terms (present_base b) (option_to_list report)) (Some fault) b c
      → HeededUntil now (Some fault) before bytes c
  heeded_refused mid now reader before bytes i report fault b c within x more y =
      let front : List ℕ = take (i + 1) bytes in
      let told : List Position = x.new ++ option_to_list report in
      let rest = reports_more (before ++ front) (drop (i + 1) bytes) in
      let at_front : reports (before ++ front) ≡ reports before ++ told =
      ap (λ (l : List ℕ). reports (before ++ l)) (take_more bytes i 0 within)
      ∙ ap reports (sym (append_assoc before (take i bytes) (get_or bytes i 0 ∷ [])))
      ∙ more
      ∙ ap (λ (l : List Position). l ++ option_to_list report) x.told
      ∙ append_assoc (reports before) x.new (option_to_list report) in (
        told ++ rest.0,
        ap (λ (l : List ℕ). reports (before ++ l)) (sym (take-append-drop (i + 1) bytes))
            ∙ ap reports (sym (append_assoc before front (drop (i + 1) bytes)))
            ∙ rest.1
            ∙ ap (λ (l : List Position). l ++ rest.0) at_front
            ∙ append_assoc (reports before) told rest.0,
        followed_longer shapes alone old now me near terms told rest.0 fault a c
            (followed_both shapes alone old mid now me near terms x.new (option_to_list report) (Some fault) a b c
            x.followed y),
      )
