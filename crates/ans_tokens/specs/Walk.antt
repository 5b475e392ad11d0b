-- What a walk over the tokens of a content has been over.
use Rattle.std.specs.Prelude.{◌≡◌, ◌<◌, ◌⊎◌, ◌&&◌, ◌||◌, ◌==◌, ℕ, Bool, true, false, not, nat_le, IsTrue, All}
use Rattle.std.specs.Prelude.{List, [], ◌∷◌, ◌++◌, length, take, drop, slice_index, Result, Ok, Err}
use Rattle.std.specs.Int.{is_in_range}
use Rattle.std.specs.List.{AllZip, concat}
use Rattle.ans_model.specs.Sequence.TokenKind.{TokenKind, Colours, Glyph}
use Rattle.ans_model.specs.Sequence.Reads.{SpellsToken, ReadsAs}
use Rattle.ans_model.specs.Inside.ShownKind.{shown_kind}
use Rattle.ans_model.specs.Sequence.Omitted.{omits}
use Rattle.ans_model.specs.Sequence.Spelling.{IsUnfinished}
use Rattle.ans_model.specs.Verdict.FirstFault.{IsRefused}
use Rattle.ans_model.specs.declared.fault.Cause.{Cause}
use Rattle.ans_model.specs.declared.fault.Cause.TheVariants.{EndInSequence}
use Rattle.ans_model.specs.declared.fault.Fault.{Fault}
use Rattle.ans_tokens.specs.Token.{kind_of, start_of, length_of}
use Rattle.ans_tokens.specs.declared.colours.ColourSequence.{ColourSequence}
use Rattle.ans_tokens.specs.declared.token.Token.{Token}

-- a front of a content: its tokens, the text of each, and the bytes after them
pub record Front : Type 0 where
  pub tokens : List TokenKind
  pub texts : List (List ℕ)
  pub behind : List ℕ

abbrev pub front_of : List TokenKind → List (List ℕ) → List ℕ → Front
front_of tokens texts behind = record { tokens = tokens; texts = texts; behind = behind }

-- before the first token
abbrev pub no_front : List ℕ → Front
no_front content = front_of [] [] content

-- the token comes next: its text follows the front, whose tokens have their texts, and these bytes follow it
pub record IsNext (front : Front) (token : Token) (text behind : List ℕ) : Type 0 where
  pub each : AllZip SpellsToken front.tokens front.texts
  pub whole : front.behind ≡ text ++ behind
  pub spelled : SpellsToken (shown_kind (kind_of token)) text
  pub starts : start_of token ≡ length (concat front.texts)
  pub long : length_of token ≡ length text

-- The colour sequence comes next: its text follows the front, and these bytes follow it.
pub record AreColoursNext (front : Front) (colours : ColourSequence) (text behind : List ℕ) : Type 0 where
  pub each : AllZip SpellsToken front.tokens front.texts
  pub whole : front.behind ≡ text ++ behind
  pub spelled : SpellsToken (Colours colours.numbers.now) text
  pub starts : colours.start ≡ length (concat front.texts)
  pub long : colours.length ≡ length text
  pub omits_is : colours.omits ≡ omits text

-- with one token more
abbrev pub front_with : Front → TokenKind → List ℕ → List ℕ → Front
front_with front token text behind = front_of (front.tokens ++ token ∷ []) (front.texts ++ text ∷ []) behind

-- ---- runs

-- a byte from which letters of UTF-8 or of Latin-1 begin
abbrev pub is_foreign : ℕ → Bool
is_foreign byte = byte == 0xC3 || nat_le 0xE0 byte

-- a byte that is printed, and no control nor such a letter's first
abbrev pub is_plain : ℕ → Bool
is_plain byte = nat_le 0x20 byte && not (byte == 0x7F) && not (is_foreign byte)

-- the bytes do not begin with such a letter
abbrev pub begins_plainly : List ℕ → Bool
begins_plainly [] = true
begins_plainly (byte ∷ bytes) = not (is_foreign byte)

-- The bytes begin as a colour code of programs for bulletin boards does: with `@X`, or with `|` and a digit.
abbrev pub begins_as_code : List ℕ → Bool
begins_as_code bytes =
    (slice_index bytes 0 == 0x40 && slice_index bytes 1 == 0x58)
    || (slice_index bytes 0 == 0x7C && is_in_range 0x30 0x39 (slice_index bytes 1))

-- at none of the first `count` bytes a code begins
abbrev pub NoCodeBegins : ℕ → List ℕ → Type 0
NoCodeBegins count bytes = (k : ℕ) → k < count → begins_as_code (drop k bytes) ≡ false

-- Plain bytes come next, which are a token each. No code of a bulletin board begins at any of them, and no letter of
-- another system after the last.
pub record IsRunNext (front : Front) (offset : ℕ) (run behind : List ℕ) : Type 0 where
  pub each : AllZip SpellsToken front.tokens front.texts
  pub whole : front.behind ≡ run ++ behind
  pub starts : offset ≡ length (concat front.texts)
  pub plain : All (λ byte. IsTrue (is_plain byte)) run
  pub codes : NoCodeBegins (length run) (run ++ behind)
  pub ends : IsTrue (begins_plainly behind)

-- with the tokens of a run more
abbrev pub front_past : Front → List ℕ → List ℕ → Front
front_past front [] behind = front
front_past front (byte ∷ run) behind =
    front_past (front_with front (Glyph byte) (byte ∷ []) (run ++ behind)) run behind

-- A walker that stays as it is has been over that many plain bytes too.
abbrev pub StaysPast : {W : Type 0} → (W → Front → W → Bool → Type 0) → W → ℕ → Type 0
StaysPast {W} walked now count =
    (first : W) (front : Front) (offset : ℕ) (run behind : List ℕ) → length run ≡ count
    → IsRunNext front offset run behind → walked first front now true
    → walked first (front_past front run behind) now true

-- ---- refusals

-- the bytes begin with a text that the reading refuses
pub record BeginsRefused (bytes : List ℕ) (cause : Cause) : Type 0 where
  pub text : List ℕ
  pub rest : List ℕ
  pub whole : bytes ≡ text ++ rest
  pub refused : IsRefused text cause

-- the bytes begin with what is refused, or are an unfinished sequence
abbrev pub HasNoReading : List ℕ → Cause → Type 0
HasNoReading bytes cause = BeginsRefused bytes cause ⊎ (IsUnfinished bytes × (cause ≡ EndInSequence))

-- what is left has no reading, and the fault is where it begins
pub record IsFaultAt (offset : ℕ) (bytes : List ℕ) (fault : Fault) : Type 0 where
  pub offset_is : fault.offset ≡ offset
  pub unread : HasNoReading bytes fault.cause

-- The first `end` bytes of the content begin with a front, before what is left of them. The walker has been over it.
pub record Walks {W : Type 0} (walked : W → Front → W → Bool → Type 0) (content : List ℕ) (end : ℕ) (left : List ℕ)
    (first now : W) (goes_on : Bool) : Type 0 where
  pub front : Front
  pub read : List ℕ
  pub whole : take end content ≡ read ++ left
  pub reads : ReadsAs read front.tokens front.texts
  pub behind : front.behind ≡ left ++ drop end content
  pub over : walked first front now goes_on

-- Nothing is left if the walker went on to the end, something may be left if it stopped, and a fault is where the
-- reading refuses what is left.
abbrev pub WalksTo : {W : Type 0} → (W → Front → W → Bool → Type 0) → List ℕ → ℕ → W → W → Result Bool Fault → Type 0
WalksTo walked content end first now (Ok true) = Walks walked content end [] first now true
WalksTo walked content end first now (Ok false) = (left : List ℕ) × Walks walked content end left first now false
WalksTo walked content end first now (Err fault) = (left : List ℕ)
    × (h : Walks walked content end left first now true) × IsFaultAt (length h.read) left fault
