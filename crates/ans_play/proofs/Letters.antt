-- A byte or a letter that is played.
use Rattle.std.proofs.Common.{◌≡◌, ◌≢◌, ◌≤◌, ℕ, List, [], ◌∷◌, length, take, refl, false, inl, arith, get_or}
use Rattle.std.specs.Prelude.{Result, Ok, Err, OnOk}
use Rattle.ans_model.specs.Sequence.TokenKind.{TokenKind, Colours}
use Rattle.ans_model.specs.Bytes.{IsByte, escape}
use Rattle.ans_model.specs.Sequence.Reads.{kind_of_byte}
use Rattle.ans_model.specs.declared.mark.Mark.TheVariants.{Unmarked}
use Rattle.ans_model.specs.Sequence.Meaning.{meaning}
use Rattle.ans_model.specs.declared.fault.Cause.{Cause}
use Rattle.ans_tokens.proofs.PlainSequences.{no_string, colours_of_some}
use Rattle.ans_tokens.proofs.WholeSequences.{means_token}
use Rattle.ans_tokens.specs.PlainSequence.{plain_sequence}
use Rattle.ans_tokens.specs.WholeToken.{IsSequenceFront}
use Rattle.ans_play.specs.PlayView.{PlayView}
use Rattle.ans_play.specs.Plays.{Plays, PlaysMeant, PlaysLetter}
use Rattle.ans_play.specs.Stands.{PlaysWholeTokens}
use Rattle.ans_play.proofs.WholeTokens.{token_is_played}

-- colours of at least one number
pub colours_played : (old new : PlayView) (numbers : List ℕ) (result : Result (Unit {0}) Cause)
    → length numbers ≢ 0 → Plays old new (Colours numbers) result → OnOk result (PlaysLetter old new 0x6D numbers)
colours_played old new numbers (Err cause) some plays = tt
colours_played old new numbers (Ok r) some plays = rw (no_string numbers, colours_of_some numbers some) plays

goes_over : (old mid : PlayView) (bytes numbers : List ℕ) (letter count : ℕ) (meant : Result TokenKind Cause)
    → IsSequenceFront bytes Unmarked numbers letter count
    → meaning (plain_sequence Unmarked numbers false letter) ≡ meant → PlaysMeant old mid meant
    → PlaysWholeTokens old (take count bytes) mid
goes_over old mid bytes numbers letter count (Err cause) front means plays = absurd plays
goes_over old mid bytes numbers letter count (Ok t) front means (clean, made) =
    token_is_played old mid bytes t count (means_token Unmarked numbers bytes letter count t front means) clean made

-- a sequence in front whose letter is played
pub letter_goes_over : (old mid : PlayView) (bytes numbers : List ℕ) (letter count : ℕ)
    → IsSequenceFront bytes Unmarked numbers letter count → PlaysLetter old mid letter numbers
    → PlaysWholeTokens old (take count bytes) mid
letter_goes_over old mid bytes numbers letter count front plays =
    goes_over old mid bytes numbers letter count _ front refl plays

-- a byte in front that is played
byte_goes_over : (old mid : PlayView) (b : ℕ) (bytes : List ℕ) → IsByte b → b ≢ escape
    → Plays old mid (kind_of_byte b) (Ok tt) → PlaysWholeTokens old (take 1 (b ∷ bytes)) mid
byte_goes_over old mid b bytes is_byte outside (clean, made) =
    token_is_played old mid (b ∷ bytes) (kind_of_byte b) 1
    (record {
      nonempty = omega arith;
      within = omega arith;
      spelled = inl (record { byte = b; is_byte = is_byte; not_escape = outside; whole = refl; means = refl });
    })
    clean made

pub first_goes_over : (old mid : PlayView) (bytes : List ℕ) → 1 ≤ length bytes → IsByte (get_or bytes 0 0)
    → get_or bytes 0 0 ≢ escape → Plays old mid (kind_of_byte (get_or bytes 0 0)) (Ok tt)
    → PlaysWholeTokens old (take 1 bytes) mid
first_goes_over old mid [] some is_byte outside plays = absurd (omega arith)
first_goes_over old mid (b ∷ bytes) some is_byte outside plays = byte_goes_over old mid b bytes is_byte outside plays
