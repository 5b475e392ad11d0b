-- A byte played after others, and a piece of bytes.
use Rattle.std.proofs.Common.{◌≡◌, ℕ, ◌+◌, ◌-◌, ◌≤◌, refl, get_or, sym, ap, ◌∙◌, arith, List, []}
use Rattle.std.proofs.Common.{◌∷◌, ◌++◌, length, length-append, take, drop, append_assoc, Some, None, subst}
use Rattle.std.proofs.lemmas.List.{take_rest, append-nil, take_all, take-append-drop, length-drop, length-take-le}
use Rattle.std.specs.Prelude.{Result, Ok, Err, IfErr, OnOk}
use Rattle.std.proofs.lemmas.Option.{same_Some}
use Rattle.std.proofs.Math.Seq.{take-add}
use Rattle.ans_model.specs.Sequence.TokenKind.{TokenKind, PrintsByte}
use Rattle.ans_model.specs.Sequence.Reads.{SpellsToken}
use Rattle.ans_model.specs.Screen.State.{Size}
use Rattle.ans_model.specs.declared.start.Start.{Start}
use Rattle.ans_model.specs.Verdict.FirstFault.{IsFirstFault}
use Rattle.ans_model.specs.declared.fault.Fault.{Fault}
use Rattle.ans_model.proofs.Reading.{token_prints}
use Rattle.ans_model.specs.Inside.ShownKind.{shown_kind}
use Rattle.ans_tokens.specs.ScannerView.{ScannerView, StaysUnfinished, EndsToken, RefusesByte}
use Rattle.ans_tokens.specs.ReadSoFar.{ReadSoFar}
use Rattle.ans_tokens.proofs.Readable.{reads_as_one}
use Rattle.ans_tokens.proofs.ReadSoFar.{read_whole, read_unfinished, read_token, refused_byte, faulty_token}
use Rattle.ans_tokens.proofs.ReadSoFar.{no_first_fault}
use Rattle.ans_tokens.specs.Token.{kind_of}
use Rattle.ans_tokens.specs.Glyphs.{IsBetweenTokens, scanner_after}
use Rattle.ans_tokens.specs.WholeToken.{IsTokenFront}
use Rattle.ans_tokens.specs.declared.token.Token.{Token as Spelled}
use Rattle.ans_play.specs.HalfState.{HalfState}
use Rattle.ans_play.specs.HalfStep.{half_step}
use Rattle.ans_play.specs.HalfFault.{half_fault}
use Rattle.ans_play.specs.PlayView.{PlayView}
use Rattle.ans_play.specs.Plays.{PlaysToken, after_token}
use Rattle.ans_play.specs.PlayerView.{PlayerView, play_of}
use Rattle.ans_play.specs.Stands.{IsPlayed, Stands, SamePlay, IsFed, Feeds, GoesOn, PlaysFront, IsFirstAfter}
use Rattle.ans_play.proofs.FaultShown.{token_has_fault}
use Rattle.ans_play.proofs.NoFaultShown.{known_next, token_has_no_fault}
use Rattle.ans_play.proofs.Clean.{clean_more}

-- ---- one token more
-- a token that shows no fault is played
played_token : (z : Size) (class : Start) (s text : List ℕ) (old new : ScannerView) (h : HalfState) (t : TokenKind)
    (p : IsPlayed z class s old h) (so_far : ReadSoFar (s ++ text) new) → so_far.tokens ≡ p.so_far.tokens ++ t ∷ [] →
    PrintsByte t → half_fault z h t ≡ None → IsPlayed z class (s ++ text) new (half_step z h t)
played_token z class s text old new h t p so_far more prints none = record {
  size = p.size;
  so_far = so_far;
  clean = rw more (clean_more z class p.so_far.tokens t p.clean
      (λ cause. token_has_no_fault z class p.so_far.tokens h p.size.some_columns p.known t cause none));
  known = rw more (known_next z class p.so_far.tokens h p.size.some_columns p.known t prints none);
}

-- a whole token between two is played
pub whole_token_played : (z : Size) (class : Start) (s text : List ℕ) (scanner : ScannerView) (h : HalfState)
    (t : TokenKind) → IsPlayed z class s scanner h → IsBetweenTokens scanner → SpellsToken t text →
    half_fault z h t ≡ None → IsPlayed z class (s ++ text) (scanner_after scanner (length text)) (half_step z h t)
whole_token_played z class s text scanner h t p between spelled none =
    played_token z class s text scanner (scanner_after scanner (length text)) h t p
    (read_whole s scanner p.so_far text (t ∷ []) (text ∷ []) between (reads_as_one t text spelled)) refl
    (token_prints t text spelled) none

-- ---- one byte after the other
-- no byte
pub goes_on_nothing : (p : PlayView) → GoesOn p [] p
goes_on_nothing p = record { size = refl; offset = omega arith; played = λ class s h. rw append-nil h }

-- bytes after bytes
pub goes_on_more : (old mid new : PlayView) (front bytes : List ℕ) → GoesOn old front mid → GoesOn mid bytes new →
    GoesOn old (front ++ bytes) new
goes_on_more old mid new front bytes h g = record {
  size = g.size ∙ h.size;
  offset = simp length-append (omega (arith, g.offset, h.offset));
  played = λ class s p.
      let before : IsPlayed mid.size class (s ++ front) mid.scanner mid.state = rw h.size (h.played class s p) in
      let after : IsPlayed mid.size class ((s ++ front) ++ bytes) new.scanner new.state =
      g.played class (s ++ front) before in
      subst (λ (xs : List ℕ). IsPlayed old.size class xs new.scanner new.state) (append_assoc s front bytes)
      (subst (λ (z : Size). IsPlayed z class ((s ++ front) ++ bytes) new.scanner new.state) h.size after);
}

-- the first i bytes of the piece are played
pub record PlaysTo (old : PlayView) (piece : List ℕ) (i : ℕ) (new : PlayView) : Type 0 where
  pub within : i ≤ length piece
  pub goes_on : GoesOn old (take i piece) new

-- no byte of the piece yet
pub plays_to_start : (old : PlayView) (piece : List ℕ) → PlaysTo old piece 0 old
plays_to_start old piece = record { within = omega arith; goes_on = goes_on_nothing old }

-- some bytes more
pub plays_more : (old mid new : PlayView) (piece : List ℕ) (i count : ℕ) → PlaysTo old piece i mid →
    PlaysFront mid (take (length piece - i) (drop i piece)) new count → PlaysTo old piece (i + count) new
plays_more old mid new piece i count h front =
    let within : count ≤ length (drop i piece) = rw take_rest at front.within in
    let played : GoesOn mid (take count (drop i piece)) new = rw take_rest at front.played in
    record {
      within = omega (arith, h.within, within, length-drop i piece);
      goes_on = rw (take-add i count piece) (goes_on_more old mid new (take i piece)
          (take count (drop i piece)) h.goes_on played);
    }

-- the whole piece is played
pub plays_all : (old new : PlayView) (piece : List ℕ) (i : ℕ) → PlaysTo old piece i new → length piece ≤ i →
    GoesOn old piece new
plays_all old new piece i h end = rw (take_all i piece end) at h.goes_on

-- what has a fault after bytes that are played
first_after : (old mid : PlayView) (front rest : List ℕ) (fault : Fault) → GoesOn old front mid →
    IsFirstAfter mid rest fault → IsFirstAfter old (front ++ rest) fault
first_after old mid front rest fault h d class s p =
    let before : IsPlayed mid.size class (s ++ front) mid.scanner mid.state = rw h.size (h.played class s p) in
    subst (λ (xs : List ℕ). IsFirstFault old.size class xs fault) (append_assoc s front rest)
    (subst (λ (z : Size). IsFirstFault z class ((s ++ front) ++ rest) fault) h.size (d class (s ++ front) before))

-- the fault of the rest is the piece's
pub piece_first : (old mid : PlayView) (piece : List ℕ) (i : ℕ) (fault : Fault) → PlaysTo old piece i mid →
    IsFirstAfter mid (take (length piece - i) (drop i piece)) fault → IsFirstAfter old piece fault
piece_first old mid piece i fault h d =
    subst (λ (xs : List ℕ). IsFirstAfter old xs fault) (take-append-drop i piece)
    (first_after old mid (take i piece) (drop i piece) fault h.goes_on (rw take_rest at d))

-- ---- a piece
-- bytes that are played have no first fault
pub played_has_no_first_fault : (z : Size) (class : Start) (bytes : List ℕ) (scanner : ScannerView) (h : HalfState)
    (f : Fault) → IsPlayed z class bytes scanner h → ¬ IsFirstFault z class bytes f
played_has_no_first_fault z class bytes scanner h f p =
    no_first_fault bytes scanner p.so_far z class p.size p.clean f

-- a first fault stays the first with more bytes after it
pub first_longer : (z : Size) (class : Start) (bytes more : List ℕ) (f : Fault) → IsFirstFault z class bytes f →
    IsFirstFault z class (bytes ++ more) f
first_longer z class bytes more f h = record {
  size = h.size;
  front = h.front;
  text = h.text;
  rest = h.rest ++ more;
  whole = ap (λ (v : List ℕ). v ++ more) h.whole ∙ append_assoc h.front (h.text ++ h.rest) more
      ∙ ap (λ (v : List ℕ). h.front ++ v) (append_assoc h.text h.rest more);
  tokens = h.tokens;
  reads = h.reads;
  clean = h.clean;
  offset = h.offset;
  faulty = h.faulty;
}

-- a player with the fault of its bytes
stands_faulted : (old new : PlayerView) (bytes : List ℕ) (fault : Fault) → SamePlay old new → new.fault ≡ Some fault →
    IsFirstFault old.size old.start bytes fault → Stands new bytes
stands_faulted old new bytes fault same is first = record {
  fed = λ n. absurd (let no : Some fault ≡ None = sym is ∙ n in cc);
  played = λ n. absurd (let no : Some fault ≡ None = sym is ∙ n in cc);
  faulted = λ f some.
      let equal : fault ≡ f = same_Some fault f (sym is ∙ some) in
      rw (same.size, same.start) (subst (λ (x : Fault). IsFirstFault old.size
      old.start bytes x) equal first);
}

-- the whole piece is played
pub feeds_all : (old new : PlayerView) (piece s : List ℕ) → GoesOn (play_of old) piece (play_of new) →
    SamePlay old new →
    IsFed old new (length piece) → Stands old s → Feeds old s piece new (Ok tt)
feeds_all old new piece s h same fed st =
    let played : IsPlayed old.size old.start (s ++ piece) new.scanner new.state =
    h.played old.start s (st.played fed.no_fault) in
    record {
      stands = record {
        fed = λ n. let before : old.fed ≡ length s = st.fed fed.no_fault in simp length-append (omega (arith, fed.fed));
        played = λ n. rw (same.size, same.start) played;
        faulted = λ f some. absurd (let no : Some f ≡ None = sym some ∙ fed.none in cc);
      };
      first = tt;
      none = λ f. played_has_no_first_fault old.size old.start (s ++ piece) new.scanner new.state f played;
    }

-- the piece has a fault
pub feeds_fault : (old new : PlayerView) (piece s : List ℕ) (fault : Fault) → IsFirstAfter (play_of old) piece fault →
    SamePlay old new →
    old.fault ≡ None → new.fault ≡ Some fault → Stands old s → Feeds old s piece new (Err fault)
feeds_fault old new piece s fault d same none is st =
    let first : IsFirstFault old.size old.start (s ++ piece) fault =
    d old.start s (st.played none) in
    record { stands = stands_faulted old new (s ++ piece) fault same is first; first = first; none = tt }

-- the bytes before it have a fault
pub feeds_again : (old : PlayerView) (piece s : List ℕ) (fault : Fault) → old.fault ≡ Some fault → Stands old s →
    Feeds old s piece old (Err fault)
feeds_again old piece s fault is st =
    let first : IsFirstFault old.size old.start (s ++ piece) fault =
    first_longer old.size old.start s piece fault (st.faulted fault is) in
    record {
      stands = stands_faulted old old (s ++ piece) fault (record { size = refl; start = refl }) is first;
      first = first;
      none = tt;
    }

-- a first fault stands within the bytes
pub first_within : (z : Size) (class : Start) (bytes : List ℕ) (fault : Fault) → IsFirstFault z class bytes fault →
    fault.offset ≤ length bytes
first_within z class bytes fault h =
    omega (arith, h.offset, ap length h.whole, length-append h.front (h.text ++ h.rest))

-- ---- what the code of one byte gives
module _ {old : PlayView} {scanner : ScannerView} {byte : ℕ} (same : scanner ≡ old.scanner) where
  -- the byte is refused
  pub byte_refused : {fault : Fault} → (scanner.fault ≡ None → RefusesByte scanner byte fault) →
      (rest : List ℕ) → IsFirstAfter old (byte ∷ rest) fault
  byte_refused {fault = fault} scans rest class s p =
      refused_byte s old.scanner p.so_far old.size class p.size p.clean byte rest fault
      ((rw same at scans) p.so_far.unrefused)

  -- the byte leaves a sequence unfinished
  pub byte_goes_on : {new : PlayView} {after : ScannerView} → new ≡ record old { scanner = after } →
      (scanner.fault ≡ None → StaysUnfinished scanner after byte) → after.offset ≡ scanner.offset + 1 →
      after.fault ≡ None → GoesOn old (byte ∷ []) new
  byte_goes_on {after = after} is scans offset unrefused = rw is (record {
    size = refl;
    offset = rw same at offset;
    played = λ class s p. record {
      size = p.size;
      so_far = read_unfinished s old.scanner p.so_far byte after ((rw same at scans) p.so_far.unrefused)
          (rw same at offset) unrefused;
      clean = p.clean;
      known = p.known;
    };
  })

  module _ {before : PlayView} (new : PlayView) {after : ScannerView} {token : Spelled}
      (is : before ≡ record old { scanner = after })
      (ends : scanner.fault ≡ None → EndsToken scanner after byte token) where
    -- the byte ends a token, which is played
    pub byte_plays : (result : Result (Unit {0}) Fault) → PlaysToken before new token result →
        after.offset ≡ scanner.offset + 1 → after.fault ≡ None → OnOk result (GoesOn old (byte ∷ []) new)
    byte_plays (Err fault) plays offset unrefused = tt
    byte_plays (Ok r) plays offset unrefused =
        let made = rw is at plays in
        rw made.1 (record {
          size = refl;
          offset = rw same at offset;
          played = λ class s p.
              let told = (rw same at ends) p.so_far.unrefused in
              let spelled = (told p.so_far.open_part p.so_far.holds).0.spelled in
              played_token old.size class s (byte ∷ []) old.scanner after old.state (shown_kind (kind_of token)) p
              (read_token s old.scanner p.so_far byte after token told (rw same at offset) unrefused)
              (refl {a = p.so_far.tokens ++ shown_kind (kind_of token) ∷ []})
              (token_prints (shown_kind (kind_of token)) (p.so_far.open_part ++ byte ∷ []) spelled) made.0;
        })

    -- the byte ends a token, which is refused
    pub byte_first : (result : Result (Unit {0}) Fault) → PlaysToken before new token result →
        IfErr result (λ fault. (new.size ≡ old.size) × ((rest : List ℕ) → IsFirstAfter old (byte ∷ rest) fault))
    byte_first (Ok r) plays = tt
    byte_first (Err fault) plays =
        let shown = rw is at plays in (
          ap (λ (p : PlayView). p.size) shown.2,
          λ rest class s p.
              faulty_token s old.scanner p.so_far old.size class p.size p.clean byte rest after token fault
              ((rw same at ends) p.so_far.unrefused)
              (token_has_fault old.size class p.so_far.tokens old.state p.size.some_columns p.known
              (shown_kind (kind_of token)) fault.cause shown.0)
              shown.1,
        )

-- ---- what the code of a whole token gives
-- a whole token in front is played
pub front_goes_on : (old new : PlayView) (bytes : List ℕ) (t : TokenKind) (count : ℕ) → IsBetweenTokens old.scanner →
    IsTokenFront bytes t count → half_fault old.size old.state t ≡ None →
    new ≡ record (after_token old t) { scanner = scanner_after old.scanner count } → GoesOn old (take count bytes) new
front_goes_on old new bytes t count between front clean is =
    let text : List ℕ = take count bytes in
    let P : ℕ → Type 0 = λ n. GoesOn old text (record (after_token old t) { scanner = scanner_after old.scanner n }) in
    rw is (subst P (length-take-le count bytes front.within) (record {
      size = refl;
      offset = refl;
      played = λ class s p. whole_token_played old.size class s text old.scanner old.state t p between front.spelled
          clean;
    }))

-- one byte is the front
pub byte_in_front : (old new : PlayView) (bytes : List ℕ) → 1 ≤ length bytes →
    GoesOn old (get_or bytes 0 0 ∷ []) new → PlaysFront old bytes new 1
byte_in_front old new [] some goes_on = elim some [ ]
byte_in_front old new (b ∷ bytes) some goes_on = record { some = omega arith; within = some; played = goes_on }

-- the fault of the first byte is that of the bytes
pub front_first : (old new : PlayView) (bytes : List ℕ) (fault : Fault) → 1 ≤ length bytes →
    (new.size ≡ old.size) × ((rest : List ℕ) → IsFirstAfter old (get_or bytes 0 0 ∷ rest) fault) →
    (new.size ≡ old.size) × IsFirstAfter old bytes fault
front_first old new [] fault some _ = elim some [ ]
front_first old new (b ∷ bytes) fault some (same, first) = (same, first bytes)
