-- What `why` says of a file is clean, with the commands that write it fixed.
use Rattle.std.proofs.Common.{◌≡◌, ◌++◌, ℕ, List, [], ◌∷◌, Option, Some, None, true, codes, decimal, refl}
use Rattle.std.specs.Prelude.{flat_map}
use Rattle.std.specs.List.{list_all}
use Rattle.std.proofs.lemmas.Bool.{and_parts}
use Rattle.ans_kinds.specs.declared.players.Players.{Players}
use Rattle.ans_kinds.specs.declared.players.Players.TheVariants.{Any, InNamedColours, Agreeing}
use Rattle.ans_model.specs.MendFlags.{FlagRow, mend_flags}
use Rattle.ans_model.specs.Text.FaultText.{cause_number}
use Rattle.ans_model.specs.declared.fault.Cause.{Cause}
use Rattle.ans_model.specs.declared.mends.Mends.{Mends}
use Rattle.ans_sauce.specs.declared.judged.Judged.TheVariants.{NoContent, Refused, Passes}
use Rattle.ans_why.specs.Explained.{IsTrueOf, Why}
use Rattle.ans_why.specs.WhyText.{why_text}
use Rattle.ans_fix.specs.FlagsText.{asks_for, flag_text, flags_text, number_text}
use Rattle.ans_check.specs.WhyTold.{command_line, everywhere_line, last_lines, mends_of_pass, more_line}
use Rattle.ans_check.specs.WhyTold.{refused_lines, told_text}
use Rattle.ans_check_laws.specs.CleanTexts.{IsCleanText}
use Rattle.ans_check_laws.proofs.CleanLines.{clean_lines}
use Rattle.ans_check_laws.proofs.CleanPieces.{AreBytes, clean_append, clean_decimal, clean_if, clean_nil, clean_option}
use Rattle.ans_check_laws.proofs.CleanPieces.{is_plain, plain_text}
use Rattle.ans_check_laws.proofs.CleanWhy.{why_clean}

flag_clean : (mends : Mends) (flag : FlagRow) → list_all is_plain flag.name ≡ true → IsCleanText (flag_text mends flag)
flag_clean mends flag plain =
    clean_if (asks_for mends flag.step) (codes " --" ++ flag.name) []
    (clean_append (codes " --") flag.name (plain_text (codes " --") refl) (plain_text flag.name plain)) clean_nil

each_clean : (mends : Mends) (flags : List FlagRow) → list_all (λ flag. list_all is_plain flag.name) flags ≡ true
    → IsCleanText (flat_map (flag_text mends) flags)
each_clean mends [] plain = clean_nil
each_clean mends (flag ∷ more) plain =
    let parts = and_parts (list_all is_plain flag.name) (list_all (λ f. list_all is_plain f.name) more) plain in
    clean_append (flag_text mends flag) (flat_map (flag_text mends) more) (flag_clean mends flag parts.0)
    (each_clean mends more parts.1)

number_clean : (flag : List ℕ) (number : Option ℕ) → list_all is_plain flag ≡ true
    → IsCleanText (number_text flag number)
number_clean flag None plain = clean_nil
number_clean flag (Some number) plain =
    clean_append flag (decimal number) (plain_text flag plain) (clean_decimal number)

flags_clean : (mends : Mends) → IsCleanText (flags_text mends)
flags_clean mends =
    let lines = number_text (codes " --lines ") mends.lines in
    let columns = number_text (codes " --columns ") mends.columns in
    let record_added = number_text (codes " --add-record ") mends.add_record in
    clean_append (flat_map (flag_text mends) mend_flags) (lines ++ (columns ++ record_added))
    (each_clean mends mend_flags refl)
    (clean_append lines (columns ++ record_added) (number_clean (codes " --lines ") mends.lines refl)
    (clean_append columns record_added (number_clean (codes " --columns ") mends.columns refl)
    (number_clean (codes " --add-record ") mends.add_record refl)))

module _ (last : List ℕ) (words : IsCleanText last) where
  command_clean : (fix : Option Mends) → IsCleanText (command_line last fix)
  command_clean None = clean_nil
  command_clean (Some mends) =
      let flags = clean_append (flags_text mends) last (flags_clean mends) words in
      search clean_lines depth 20

  refused_clean : (cause : Cause) (fix : Option Mends) → IsCleanText (refused_lines last cause fix)
  refused_clean cause fix =
      clean_append (command_line last fix) (more_line cause) (command_clean fix) (search clean_lines depth 20)

  everywhere_clean : (players : Players) → IsCleanText (everywhere_line last players)
  everywhere_clean (Any class) = clean_nil
  everywhere_clean (InNamedColours class times) =
      let command = clean_append (codes "anscheck mend --name-colours") last
      (plain_text (codes "anscheck mend --name-colours") refl) words in
      search clean_lines depth 20
  everywhere_clean (Agreeing used) =
      let command = clean_append (codes "anscheck redraw") last (plain_text (codes "anscheck redraw") refl) words in
      search clean_lines depth 20

  last_clean : (said : Why) (fix : Option Mends) → IsCleanText (last_lines last said fix)
  last_clean (NoContent said) fix = refused_clean said.fault.cause fix
  last_clean (Refused parts refusal) fix = refused_clean refusal.fault.cause fix
  last_clean (Passes parts pass) fix =
      clean_append (command_line last (mends_of_pass pass.reliance)) (everywhere_line last pass.players)
      (command_clean (mends_of_pass pass.reliance)) (everywhere_clean pass.players)

  pub told_clean : (file : List ℕ) (said : Why) (fix : Option Mends) → AreBytes file → IsTrueOf file said
      → IsCleanText (told_text last said fix)
  told_clean file said fix bytes h =
      clean_append (why_text said) (last_lines last said fix) (why_clean file said bytes h) (last_clean said fix)
