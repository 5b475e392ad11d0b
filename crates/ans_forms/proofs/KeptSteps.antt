-- A walk over tokens that stay, token by token, and what its front is.
use Rattle.std.proofs.Common.{◌≡◌, ℕ, zero, suc, ◌<◌, ◌≤◌, Bool, true, false, ◌&&◌, List, [], ◌∷◌, ◌++◌, length, drop}
use Rattle.std.proofs.Common.{get_or}
use Rattle.std.proofs.Common.{refl, sym, ap, ap₂, ◌∙◌, subst, append_assoc, length-append, arith}
use Rattle.std.specs.Prelude.{Option, Result, Ok, Err, if◌then◌else◌, nat_le}
use Rattle.std.specs.List.{concat}
use Rattle.std.proofs.lemmas.List.{append-nil}
use Rattle.std.proofs.lemmas.List.Folds.{concat-append, list_all-append}
use Rattle.std.proofs.lemmas.List.Sums.{fold-append}
use Rattle.std.proofs.Math.Seq.{drop-append_seam, take-length}
use Rattle.ans_model.specs.declared.fault.Fault.{Fault}
use Rattle.ans_model.specs.Inside.ShownKind.{shown_kind}
use Rattle.ans_model.specs.Bytes.{IsByte}
use Rattle.ans_model.specs.Sequence.TokenKind.{TokenKind, Glyph}
use Rattle.ans_model.specs.Sequence.Reads.{SpellsToken}
use Rattle.ans_tokens.specs.Token.{kind_of, length_of, start_of}
use Rattle.ans_tokens.specs.Walk.{Front, HasNoReading, IsNext, IsRunNext, Walks, WalksTo, front_past, front_with}
use Rattle.ans_tokens.specs.declared.token.Token.{Token}
use Rattle.ans_tokens.proofs.Readable.{reads_as_more}
use Rattle.ans_tokens.proofs.Runs.{KeptByBytes, kept_past}
use Rattle.ans_forms.proofs.SomeText.{some_text}
use Rattle.ans_forms.proofs.HereLemmas.{nothing_goes, nothing_stays, refused_stays, stopped_stays}
use Rattle.ans_forms.specs.Here.{IsGoingHere, IsTokenHere, NoneGoesHere, is_keys}
use Rattle.ans_forms.specs.Keeping.{AllKept, HasKept, StopsAtFirst}
use Rattle.ans_forms.specs.Unwanted.{AllStay, BeginsStaying, IsNextGoing, NothingMore, before_after, before_behind}
use Rattle.ans_forms.specs.Unwanted.{before_with, stays}
use Rattle.ans_forms.specs.declared.kinds.Before.{Before}
use Rattle.ans_forms.specs.declared.kinds.Going.{Going}
use Rattle.ans_forms.specs.declared.next.Keeping.{Keeping}

-- ---- one token more
all_stay_with : (tokens : List TokenKind) (texts : List (List ℕ)) (t : TokenKind) (text : List ℕ)
    → AllStay tokens texts → SpellsToken t text → stays t ≡ true → AllStay (tokens ++ t ∷ []) (texts ++ text ∷ [])
all_stay_with tokens texts t text h spelled stay =
    let read = reads_as_more (concat texts) text tokens texts t (record { each = h.each; whole = refl }) spelled in
    let stay_too = list_all-append stays tokens (t ∷ []) ∙ ap₂ (λ a b. a && (b && true)) h.stay stay in
    record { each = read.each; stay = stay_too }

module _ (before : Before) (front : Front) (old : Keeping) (token : Token) (text behind : List ℕ)
    (next : IsNext front token text behind) (h : AllKept before front old) where
  pub goes_on : (new : Keeping) → stays (shown_kind (kind_of token)) ≡ true
      → new.before ≡ before_with old.before (shown_kind (kind_of token))
      → AllKept before (front_with front (shown_kind (kind_of token)) text behind) new
  goes_on new stay is = record {
    all_stay = all_stay_with front.tokens front.texts (shown_kind (kind_of token)) text h.all_stay next.spelled stay;
    before_is = is ∙ ap (λ (b : Before). before_with b (shown_kind (kind_of token))) h.before_is
        ∙ sym (fold-append before_with before front.tokens (shown_kind (kind_of token) ∷ []));
  }

  pub stops_at : (new : Keeping) → stays (shown_kind (kind_of token)) ≡ false → new.before ≡ old.before
      → new.place ≡ start_of token → new.length ≡ length_of token
      → new.is_keys ≡ is_keys (shown_kind (kind_of token))
      → StopsAtFirst before (front_with front (shown_kind (kind_of token)) text behind) new
  stops_at new stops same place long keys = record {
    tokens = front.tokens;
    texts = front.texts;
    all_stay = h.all_stay;
    before_is = same ∙ h.before_is;
    token = shown_kind (kind_of token);
    text = text;
    spelled = next.spelled;
    stops = stops;
    tokens_are = refl;
    texts_are = refl;
    place_is = place ∙ next.starts;
    length_is = long ∙ next.long;
    keys = keys;
  }

-- ---- plain bytes
-- a glyph more stays
glyph_stays : (before : Before) (front : Front) (old new : Keeping) (byte : ℕ) (rest : List ℕ)
    → AllKept before front old → SpellsToken (Glyph byte) (byte ∷ [])
    → new.before ≡ before_with old.before (Glyph byte)
    → AllKept before (front_with front (Glyph byte) (byte ∷ []) rest) new
glyph_stays before front old new byte rest h spelled is = record {
  all_stay = all_stay_with front.tokens front.texts (Glyph byte) (byte ∷ []) h.all_stay spelled refl;
  before_is = is ∙ ap (λ (b : Before). before_with b (Glyph byte)) h.before_is
      ∙ sym (fold-append before_with before front.tokens (Glyph byte ∷ []));
}

-- and after one another is as if there was one
glyph_again : (b : Before) (byte : ℕ)
    → before_with (before_with b (Glyph byte)) (Glyph byte) ≡ before_with b (Glyph byte)
glyph_again b byte = ap with_bright (go (nat_le 0x80 b.attribute))
  where
    with_bright : Option Bool → Before
    with_bright bright = record {
      is_shown = true;
      is_coloured = false;
      attribute = b.attribute;
      switch = b.switch;
      bright = bright;
    }

    go : (high : Bool) → (if high then b.switch else (if high then b.switch else b.bright))
        ≡ (if high then b.switch else b.bright)
    go true = refl
    go false = refl

-- the walker as it was before the first byte of a run, and as it is after each
abbrev kept_after : Before → Keeping → Keeping → ℕ → Front → Type 0
kept_after before old new zero front = AllKept before front old
kept_after before old new (suc k) front = AllKept before front new

stays_each : (before : Before) (old new : Keeping) (offset : ℕ) (run behind : List ℕ)
    → ((byte : ℕ) → new.before ≡ before_with old.before (Glyph byte))
    → KeptByBytes (kept_after before old new) offset run behind
stays_each before old new offset run behind is zero byte front rest next h =
    glyph_stays before front old new byte rest h next.spelled (is byte)
stays_each before old new offset run behind is (suc k) byte front rest next h =
    glyph_stays before front new new byte rest h next.spelled
    (is byte ∙ sym (ap (λ (b : Before). before_with b (Glyph byte)) (is byte) ∙ glyph_again old.before byte))

-- a run stays
pub stays_past : (before : Before) (old new : Keeping) (offset : ℕ) (run behind : List ℕ) (front : Front)
    → ((k : ℕ) → k < length run → IsByte (get_or run k 0)) → 0 < length run
    → ((byte : ℕ) → new.before ≡ before_with old.before (Glyph byte)) → IsRunNext front offset run behind
    → AllKept before front old → AllKept before (front_past front run behind) new
stays_past before old new offset [] behind front bytes some is next h = absurd (omega (arith, some))
stays_past before old new offset (b ∷ run) behind front bytes some is next h =
    kept_past (kept_after before old new) offset (b ∷ run) behind front bytes
    (stays_each before old new offset (b ∷ run) behind is) next h

-- ---- the whole walk
-- The bytes are tokens that stay, up to the place.
pub record KeepsUpTo (before : Before) (bytes : List ℕ) (place : ℕ) (here : Before) : Type 0 where
  pub tokens : List TokenKind
  pub texts : List (List ℕ)
  pub all_stay : AllStay tokens texts
  pub whole : bytes ≡ concat texts ++ drop place bytes
  pub place_is : place ≡ length (concat texts)
  pub here_is : here ≡ before_after before tokens

-- so it is where this is left
keeps : (before here : Before) (bytes left : List ℕ) (place : ℕ) (tokens : List TokenKind) (texts : List (List ℕ))
    → AllStay tokens texts → bytes ≡ concat texts ++ left → place ≡ length (concat texts)
    → here ≡ before_after before tokens
    → KeepsUpTo before bytes place here × (drop place bytes ≡ left)
keeps before here bytes left place tokens texts all whole at is =
    let rest : drop place bytes ≡ left = rw (at, whole) (drop-append_seam (concat texts) left) in (
      record {
        tokens = tokens;
        texts = texts;
        all_stay = all;
        whole = whole ∙ ap (λ (v : List ℕ). concat texts ++ v) (sym rest);
        place_is = at;
        here_is = is;
      },
      rest,
    )

pub keeps_within : (before here : Before) (bytes : List ℕ) (place : ℕ) → KeepsUpTo before bytes place here
    → place ≤ length bytes
keeps_within before here bytes place h =
    omega (arith, h.place_is, ap length h.whole, length-append (concat h.texts) (drop place bytes))

-- this goes next
pub goes_next : (before here after : Before) (bytes : List ℕ) (place : ℕ) (going : Going)
    → KeepsUpTo before bytes place here → ¬ BeginsStaying (drop place bytes)
    → IsGoingHere here (drop place bytes) place going → after ≡ before_behind here going.kind
    → IsNextGoing before bytes going after
goes_next before here after bytes place going h refused goes is = record {
  kept = concat h.texts;
  text = goes.text;
  rest = goes.rest;
  first = record {
    tokens = h.tokens;
    texts = h.texts;
    all_stay = h.all_stay;
    kept_is = refl;
    whole = h.whole ∙ ap (λ (v : List ℕ). concat h.texts ++ v) goes.whole;
    refused = λ b. refused (subst BeginsStaying (sym goes.whole) b);
    of_kind = rw (← h.here_is) goes.of_kind;
    after_is = is ∙ ap (λ (b : Before). before_behind b going.kind) h.here_is;
  };
  place_is = goes.place_is ∙ h.place_is;
  length_is = goes.length_is;
  some = rw goes.length_is (some_text _ going.kind goes.text goes.rest goes.of_kind);
}

-- nothing does
pub goes_nowhere : (before here : Before) (bytes : List ℕ) (place : ℕ) → KeepsUpTo before bytes place here
    → ¬ BeginsStaying (drop place bytes) → NoneGoesHere here (drop place bytes)
    → NothingMore before bytes here
goes_nowhere before here bytes place h refused none = record {
  nothing = record {
    tokens = h.tokens;
    texts = h.texts;
    left = drop place bytes;
    all_stay = h.all_stay;
    whole = h.whole;
    refused = refused;
    none_goes = λ kind text rest e is. none kind text rest e (rw h.here_is is);
  };
  end_is = h.here_is;
}

-- what a walk over all bytes has been over
abbrev pub over : Keeping → Front → Keeping → Bool → Type 0
over first front now goes_on = HasKept first.before front now goes_on

module _ (bytes : List ℕ) (first now : Keeping) (result : Result Bool Fault)
    (walks : WalksTo over bytes (length bytes) first now result) where
  -- it ended so
  ended : (end : Result Bool Fault) → result ≡ end → WalksTo over bytes (length bytes) first now end
  ended end e = subst (WalksTo over bytes (length bytes) first now) e walks

  whole_of : (left : List ℕ) (on : Bool) (h : Walks over bytes (length bytes) left first now on)
      → bytes ≡ concat h.front.texts ++ left
  whole_of left on h =
      sym (take-length bytes) ∙ h.whole ∙ ap (λ (v : List ℕ). v ++ left) h.reads.whole

  -- ---- up to the end
  pub none_to_end : result ≡ Ok true → NothingMore first.before bytes now.before
  none_to_end e =
      let h = ended (Ok true) e in
      let whole : bytes ≡ concat h.front.texts ++ [] = whole_of [] true h in
      let size : length bytes ≡ length (concat h.front.texts) =
      ap length whole ∙ ap length (append-nil (concat h.front.texts)) in
      let (up_to, none) = keeps first.before now.before bytes [] (length bytes) h.front.tokens h.front.texts
      h.over.all_stay whole size h.over.before_is in
      goes_nowhere first.before now.before bytes (length bytes) up_to
      (subst (λ (v : List ℕ). ¬ BeginsStaying v) (sym none) nothing_stays)
      (subst (NoneGoesHere now.before) (sym none) (nothing_goes now.before))

  -- ---- up to what is refused
  module _ (fault : Fault) (e : result ≡ Err fault) where
    kept_to_fault : KeepsUpTo first.before bytes fault.offset now.before
        × HasNoReading (drop fault.offset bytes) fault.cause
    kept_to_fault =
        let (left, h, fails) = ended (Err fault) e in
        let (up_to, rest) = keeps first.before now.before bytes left fault.offset h.front.tokens h.front.texts
        h.over.all_stay (whole_of left true h) (fails.offset_is ∙ ap length h.reads.whole) h.over.before_is in
        (up_to, subst (λ (v : List ℕ). HasNoReading v fault.cause) (sym rest) fails.unread)

    pub fault_within : fault.offset ≤ length bytes
    fault_within = keeps_within first.before now.before bytes fault.offset kept_to_fault.0

    module _ (left : List ℕ) (left_is : left ≡ drop fault.offset bytes) where
      pub unread_there : HasNoReading left fault.cause
      unread_there = subst (λ (v : List ℕ). HasNoReading v fault.cause) (sym left_is) kept_to_fault.1

      refused_there : ¬ BeginsStaying (drop fault.offset bytes)
      refused_there = refused_stays (drop fault.offset bytes) fault.cause kept_to_fault.1

      pub none_at_refusal : NoneGoesHere now.before left → NothingMore first.before bytes now.before
      none_at_refusal none =
          goes_nowhere first.before now.before bytes fault.offset kept_to_fault.0 refused_there
          (subst (NoneGoesHere now.before) left_is none)

      pub goes_at_refusal : (going : Going) (after : Before) → IsGoingHere now.before left fault.offset going
          → after ≡ before_behind now.before going.kind → IsNextGoing first.before bytes going after
      goes_at_refusal going after goes is =
          goes_next first.before now.before after bytes fault.offset going kept_to_fault.0 refused_there
          (subst (λ (v : List ℕ). IsGoingHere now.before v fault.offset going) left_is goes) is

  -- ---- up to a token that does not stay
  module _ (e : result ≡ Ok false) where
    kept_to_token : KeepsUpTo first.before bytes now.place now.before
        × IsTokenHere (drop now.place bytes) now.length now.is_keys
    kept_to_token =
        let (left, h) = ended (Ok false) e in
        let s = h.over in
        let texts : concat h.front.texts ≡ concat s.texts ++ s.text =
        ap concat s.texts_are ∙ concat-append s.texts (s.text ∷ [])
        ∙ ap (λ (v : List ℕ). concat s.texts ++ v) (append-nil s.text) in
        let whole : bytes ≡ concat s.texts ++ (s.text ++ left) =
        whole_of left false h ∙ ap (λ (v : List ℕ). v ++ left) texts ∙ append_assoc (concat s.texts) s.text left in
        let (up_to, rest) = keeps first.before now.before bytes (s.text ++ left) now.place s.tokens s.texts s.all_stay
        whole s.place_is s.before_is in (
          up_to,
          record {
            token = s.token;
            text = s.text;
            rest = left;
            whole = rest;
            spelled = s.spelled;
            stops = s.stops;
            long_is = s.length_is;
            keys = s.keys;
          },
        )

    pub token_within : now.place ≤ length bytes
    token_within = keeps_within first.before now.before bytes now.place kept_to_token.0

    module _ (left : List ℕ) (left_is : left ≡ drop now.place bytes) where
      pub token_there : IsTokenHere left now.length now.is_keys
      token_there = subst (λ (v : List ℕ). IsTokenHere v now.length now.is_keys) (sym left_is) kept_to_token.1

      stops_there : ¬ BeginsStaying (drop now.place bytes)
      stops_there = stopped_stays (drop now.place bytes) now.length now.is_keys kept_to_token.1

      pub none_at_stop : NoneGoesHere now.before left → NothingMore first.before bytes now.before
      none_at_stop none =
          goes_nowhere first.before now.before bytes now.place kept_to_token.0 stops_there
          (subst (NoneGoesHere now.before) left_is none)

      pub goes_at_stop : (going : Going) (after : Before) → IsGoingHere now.before left now.place going
          → after ≡ before_behind now.before going.kind → IsNextGoing first.before bytes going after
      goes_at_stop going after goes is =
          goes_next first.before now.before after bytes now.place going kept_to_token.0 stops_there
          (subst (λ (v : List ℕ). IsGoingHere now.before v now.place going) left_is goes) is
