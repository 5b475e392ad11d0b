-- What is read so far: with more bytes, at a fault, and at the end.
use Rattle.std.proofs.Common.{◌≡◌, ◌⊎◌, inl, inr, ℕ, ◌+◌, List, [], ◌∷◌, ◌++◌, length, refl, sym, ap, ◌∙◌, arith, subst}
use Rattle.std.proofs.Common.{Option, None, append_assoc, length-append}
use Rattle.std.proofs.lemmas.List.{append-nil}
use Rattle.ans_model.specs.Sequence.TokenKind.{TokenKind}
use Rattle.ans_model.specs.Sequence.Reads.{Reads, ReadsAs}
use Rattle.ans_model.specs.Screen.State.{Size, IsSize}
use Rattle.ans_model.specs.declared.start.Start.{Start}
use Rattle.ans_model.specs.declared.fault.Fault.{Fault}
use Rattle.ans_model.specs.Inside.ShownKind.{shown_kind}
use Rattle.ans_model.specs.Verdict.TokenFault.{HasFault, IsClean}
use Rattle.ans_model.specs.Verdict.FirstFault.{IsToBlame, IsRefused, IsFirstFault}
use Rattle.ans_model.proofs.OneAnswer.{clean_or_first}
use Rattle.ans_tokens.specs.ScannerView.{ScannerView, Holds, StaysUnfinished, EndsToken, RefusesByte, new_scanner}
use Rattle.ans_tokens.specs.ScannerView.{Kept, scanner_view}
use Rattle.ans_tokens.specs.Glyphs.{IsBetweenTokens, scanner_after}
use Rattle.ans_tokens.specs.ReadSoFar.{ReadSoFar}
use Rattle.ans_tokens.specs.Token.{kind_of, start_of}
use Rattle.ans_tokens.specs.declared.token.Token.{Token}
use Rattle.ans_tokens.proofs.EachByte.{kept_open, open_ends}
use Rattle.ans_tokens.proofs.Readable.{reads_as_append, reads_as_one}

-- ---- a scanner that is taken over whole tokens
same_scanning : (offset start offset' start' : ℕ) (kept : Kept) (refusal : Option Fault) → offset ≡ offset'
    → start ≡ start' → scanner_view offset start kept refusal ≡ scanner_view offset' start' kept refusal
same_scanning offset start offset' start' kept refusal p q = cc

pub scanner_after-none : (s : ScannerView) → scanner_after s 0 ≡ s
scanner_after-none s = same_scanning _ _ _ _ _ _ (omega arith) (omega arith)

pub scanner_after-more : (s : ScannerView) (m n count : ℕ) → m + n ≡ count
    → scanner_after (scanner_after s m) n ≡ scanner_after s count
scanner_after-more s m n count e = same_scanning _ _ _ _ _ _ (omega (arith, e)) (omega (arith, e))

-- ---- bytes
-- before the first byte
abbrev pub nothing_read : ReadSoFar [] new_scanner
nothing_read = record {
  front = [];
  open_part = [];
  whole = refl;
  tokens = [];
  reads = ([], record { each = tt; whole = refl });
  holds = record { keeps = refl; begun_at = refl };
  offset = refl;
  unrefused = refl;
}

-- a front and an open part, with more bytes, and with a rest
pub front_with_more : (front y s text : List ℕ) → s ≡ front ++ y → s ++ text ≡ front ++ (y ++ text)
front_with_more front y s text e = ap (λ (xs : List ℕ). xs ++ text) e ∙ append_assoc front y text

pub front_text_rest : (front y s text rest : List ℕ) → s ≡ front ++ y
    → s ++ (text ++ rest) ≡ front ++ ((y ++ text) ++ rest)
front_text_rest front y s text rest e =
    front_with_more front y s (text ++ rest) e ∙ ap (λ (xs : List ℕ). front ++ xs) (sym (append_assoc y text rest))

pub offset_with_more : (s text : List ℕ) (old new : ℕ) → old ≡ length s → new ≡ old + length text
    → new ≡ length (s ++ text)
offset_with_more s text old new at on = omega (arith, at, on, length-append s text)

module _ (bytes : List ℕ) (old : ScannerView) (h : ReadSoFar bytes old) where
  -- ---- more bytes
  -- the open part stays open
  abbrev pub read_open : (text : List ℕ) (new : ScannerView) → Holds new (h.open_part ++ text)
      → new.offset ≡ old.offset + length text → new.fault ≡ None → ReadSoFar (bytes ++ text) new
  read_open text new holds on unrefused = record {
    front = h.front;
    open_part = h.open_part ++ text;
    whole = front_with_more h.front h.open_part bytes text h.whole;
    tokens = h.tokens;
    reads = h.reads;
    holds = holds;
    offset = offset_with_more bytes text old.offset new.offset h.offset on;
    unrefused = unrefused;
  }

  -- with them the open part is read as tokens
  abbrev pub read_tokens : (text : List ℕ) (tokens : List TokenKind) (texts : List (List ℕ)) (new : ScannerView)
      → ReadsAs (h.open_part ++ text) tokens texts → Holds new [] → new.offset ≡ old.offset + length text
      → new.fault ≡ None → ReadSoFar (bytes ++ text) new
  read_tokens text tokens texts new reads holds on unrefused = record {
    front = h.front ++ (h.open_part ++ text);
    open_part = [];
    whole = front_with_more h.front h.open_part bytes text h.whole
        ∙ sym (append-nil (h.front ++ (h.open_part ++ text)));
    tokens = h.tokens ++ tokens;
    reads = (
      h.reads.0 ++ texts,
      reads_as_append h.front (h.open_part ++ text) h.tokens tokens h.reads.0 texts h.reads.1 reads,
    );
    holds = holds;
    offset = offset_with_more bytes text old.offset new.offset h.offset on;
    unrefused = unrefused;
  }

  -- the next byte leaves the open part unfinished
  abbrev pub read_unfinished : (byte : ℕ) (new : ScannerView) → StaysUnfinished old new byte
      → new.offset ≡ old.offset + 1 → new.fault ≡ None → ReadSoFar (bytes ++ byte ∷ []) new
  read_unfinished byte new stays = read_open (byte ∷ []) new (stays h.open_part h.holds).1

  -- the next byte ends a token
  abbrev pub read_token : (byte : ℕ) (new : ScannerView) (t : Token) → EndsToken old new byte t
      → new.offset ≡ old.offset + 1 → new.fault ≡ None → ReadSoFar (bytes ++ byte ∷ []) new
  read_token byte new t ends =
      let kind : TokenKind = shown_kind (kind_of t) in
      let text : List ℕ = h.open_part ++ byte ∷ [] in
      read_tokens (byte ∷ []) (kind ∷ []) (text ∷ []) new
      (reads_as_one kind text (ends h.open_part h.holds).0.spelled) (ends h.open_part h.holds).1

  -- ---- whole tokens
  pub nothing_open : IsBetweenTokens old → h.open_part ≡ []
  nothing_open between = rw between.nothing at h.holds.keeps

  pub holds_nothing_after : (count : ℕ) → IsBetweenTokens old → Holds (scanner_after old count) []
  holds_nothing_after count between =
      let none : length h.open_part ≡ 0 = ap length (nothing_open between) in
      record { keeps = rw between.nothing refl; begun_at = omega (arith, none, h.holds.begun_at) }

  pub whole_after_nothing : (text : List ℕ) (tokens : List TokenKind) (texts : List (List ℕ)) → IsBetweenTokens old
      → ReadsAs text tokens texts → ReadsAs (h.open_part ++ text) tokens texts
  whole_after_nothing text tokens texts between reads = rw (nothing_open between) reads

  -- between two tokens, whole tokens come
  abbrev pub read_whole : (text : List ℕ) (tokens : List TokenKind) (texts : List (List ℕ)) → IsBetweenTokens old
      → ReadsAs text tokens texts → ReadSoFar (bytes ++ text) (scanner_after old (length text))
  read_whole text tokens texts between reads =
      read_tokens text tokens texts (scanner_after old (length text))
      (whole_after_nothing text tokens texts between reads) (holds_nothing_after (length text) between) refl
      between.unrefused

  -- ---- the end
  pub all_read : h.open_part ≡ [] → Reads bytes h.tokens
  all_read closed =
      subst (λ (xs : List ℕ). Reads xs h.tokens)
      (sym (append-nil h.front) ∙ ap (λ (y : List ℕ). h.front ++ y) (sym closed) ∙ sym h.whole) h.reads

  -- the open part began where the front ends
  pub open_part_starts : (start : ℕ) → start + length h.open_part ≡ old.offset → start ≡ length h.front
  open_part_starts start e =
      omega (arith, e, h.offset, ap length h.whole, length-append h.front h.open_part)

  -- ---- faults, where the tokens are clean
  module _ (z : Size) (class : Start) (size : IsSize z) (clean : IsClean z class h.tokens) where
    -- what is to blame for the fault is the open part with more bytes
    pub first_fault : (text rest : List ℕ) (fault : Fault)
        → IsToBlame z class h.tokens (h.open_part ++ text) fault.cause ⊎ IsRefused (h.open_part ++ text) fault.cause
        → fault.offset + length h.open_part ≡ old.offset → IsFirstFault z class (bytes ++ (text ++ rest)) fault
    first_fault text rest fault blame start = record {
      size = size;
      front = h.front;
      text = h.open_part ++ text;
      rest = rest;
      whole = front_text_rest h.front h.open_part bytes text rest h.whole;
      tokens = h.tokens;
      reads = h.reads;
      clean = clean;
      offset = open_part_starts fault.offset start;
      faulty = blame;
    }

    -- the next byte is refused
    pub refused_byte : (byte : ℕ) (rest : List ℕ) (fault : Fault) → RefusesByte old byte fault
        → IsFirstFault z class (bytes ++ byte ∷ rest) fault
    refused_byte byte rest fault refuses =
        let told = refuses h.open_part h.holds in
        first_fault (byte ∷ []) rest fault (inr told.refused) told.starts

    -- the token that the next byte ends has a fault
    pub faulty_token : (byte : ℕ) (rest : List ℕ) (new : ScannerView) (t : Token) (fault : Fault)
        → EndsToken old new byte t → HasFault z class h.tokens (shown_kind (kind_of t)) fault.cause
        → fault.offset ≡ start_of t → IsFirstFault z class (bytes ++ byte ∷ rest) fault
    faulty_token byte rest new t fault ends has_fault start =
        let told = ends h.open_part h.holds in
        first_fault (byte ∷ []) rest fault
        (inl (record { token = shown_kind (kind_of t); spelled = told.0.spelled; fault = has_fault }))
        (rw start told.0.starts)

    -- what is read has no first fault
    pub no_first_fault : (f : Fault) → ¬ IsFirstFault z class bytes f
    no_first_fault f =
        clean_or_first z class bytes h.front h.open_part h.tokens f h.whole h.reads clean
        (open_ends h.open_part (kept_open old.kept h.open_part h.holds.keeps))
