-- What a row says of a file besides what is found of it: the flags that mend it, and the checksum of its picture.
use Rattle.std.specs.Prelude.{◌≡◌, ℕ, ◌+◌, nat_le, Bool, true, false, List, [], drop, length, Option, Some, None}
use Rattle.std.specs.Prelude.{if◌then◌else◌, option_map}
use Rattle.hex.specs.Hex.{encode_lower}
use Rattle.sha2.specs.Sha256.{sha256}
use Rattle.ans_fix.specs.FlagsText.{flags_text}
use Rattle.ans_fix.specs.Suggested.{IsFix}
use Rattle.ans_model.specs.Bytes.{longest_file}
use Rattle.ans_model.specs.File.Layout.{FileParts}
use Rattle.ans_model.specs.Screen.Beginning.{mending}
use Rattle.ans_model.specs.Screen.StartClass.{all_known}
use Rattle.ans_model.specs.Verdict.Good.{Picture}
use Rattle.ans_model.specs.declared.fault.Fault.{Fault}
use Rattle.ans_model.specs.declared.mends.Mends.{Mends}
use Rattle.ans_options.specs.declared.command.TableForm.{TableForm}
use Rattle.ans_options.specs.declared.command.TableForm.TheVariants.{Headed, Bare, Json}
use Rattle.ans_redraw.specs.Redrawing.{IsRefusedFromCleared}
use Rattle.ans_sauce.specs.declared.judged.Judged.TheVariants.{Passes}
use Rattle.ans_sums.specs.Sums.{summed_bytes}
use Rattle.ans_table.specs.declared.counts.Outcome.{Outcome}
use Rattle.ans_table.specs.declared.counts.Outcome.TheVariants.{Cleared}
use Rattle.ans_table.specs.Findings.{Finding, pass_outcome}
use Rattle.ans_verdict.specs.FileVerdict as verdict
use Rattle.ans_why.specs.Explained.{IsTrueOf, Why}

-- ---- the flags that mend a file

-- the flags in the order of the line `fix:`, with a blank between them
abbrev pub flags_given : Mends → List ℕ
flags_given mends = drop 1 (flags_text mends)

-- those of the line `fix:` that `why` has for a file that is refused, if it has one
pub record IsFixOf (file : List ℕ) (flags : Option (List ℕ)) : Type 0 where
  pub said : Why
  pub is_true : IsTrueOf file said
  pub fix : Option Mends
  pub is_fix : IsFix file said fix
  pub is : flags ≡ option_map flags_given fix

-- A file of this length that passes, and came out so: `why` has that line without flags, if it passes only on a cleared
-- screen and has room for the bytes that mend it.
abbrev pub plain_fix : Outcome → ℕ → Option (List ℕ)
plain_fix Cleared size = if nat_le (size + length mending) longest_file then Some [] else None
plain_fix outcome size = None

-- the same of any file, of which this is found
abbrev pub IsFixFor : List ℕ → Finding → Option (List ℕ) → Type 0
IsFixFor file (Passes parts said) flags = flags ≡ plain_fix (pass_outcome said.needs) (length file)
IsFixFor file _ flags = IsFixOf file flags

-- it is in a JSON object, and not in columns
abbrev pub IsFixIn : TableForm → List ℕ → Finding → Option (List ℕ) → Type 0
IsFixIn Json file finding flags = IsFixFor file finding flags
IsFixIn form file finding flags = flags ≡ None

-- ---- the checksum of a picture

-- the file passes from the cleared start with some picture, and these are the digits of its checksum
pub record HasSum (file digits : List ℕ) : Type 0 where
  pub apart : FileParts
  pub picture : Picture
  pub passes : verdict.Passes file all_known apart picture
  pub digits_are : digits ≡ encode_lower (sha256 (summed_bytes picture))

-- the digits of the checksum of the picture that the file shows from the cleared start; or it is refused from there
abbrev pub IsSumOf : List ℕ → Option (List ℕ) → Type 0
IsSumOf file (Some digits) = HasSum file digits
IsSumOf file None = (fault : Fault) × IsRefusedFromCleared file fault

-- the same if it is asked for
abbrev pub IsSumIn : Bool → List ℕ → Option (List ℕ) → Type 0
IsSumIn true file digits = IsSumOf file digits
IsSumIn false file digits = digits ≡ None
