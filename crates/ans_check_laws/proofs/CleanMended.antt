-- What mending says is clean.
use Rattle.std.proofs.Common.{◌≡◌, refl, ℕ, Bool, true, false, List, Option, Some, None, All}
use Rattle.std.specs.Prelude.{flat_map, IfSome}
use Rattle.std.specs.List.{list_all}
use Rattle.ans_model.specs.Bytes.{IsByte}
use Rattle.ans_model.specs.Text.FaultText.{fault_line}
use Rattle.ans_model.specs.declared.fault.Cause.{Cause}
use Rattle.ans_report.specs.Meanings.{fault_help}
use Rattle.ans_report.specs.declared.meanings.Help.{Help}
use Rattle.ans_report.specs.declared.meanings.Help.TheVariants as help
use Rattle.ans_pens.specs.declared.times.Times.{Times}
use Rattle.ans_report.specs.Changes.{end_mark_line}
use Rattle.ans_sauce.specs.declared.writing.Reset.{Reset}
use Rattle.ans_mend.specs.IdleText.{crlf_reason, idle_colours, idle_columns, idle_comments, idle_crlf, idle_ice}
use Rattle.ans_mend.specs.IdleText.{idle_join_rows, idle_least, idle_line, idle_lines, idle_mixed, idle_record}
use Rattle.ans_mend.specs.IdleText.{idle_take_out, idle_text, rows_reason}
use Rattle.ans_mend.specs.MendedText.{comments_line, flag_line, front_line, help_text, helped, mended_text, older_line}
use Rattle.ans_mend.specs.MendedText.{offers_of}
use Rattle.ans_mend.specs.MendedText.{record_line, width_line}
use Rattle.ans_mend.specs.MendedText.{tail_line, taken_line, times_line, unmended_text}
use Rattle.ans_mend.specs.declared.outcome.Mended.{Mended}
use Rattle.ans_mend.specs.declared.outcome.Unmended.{Unmended}
use Rattle.ans_mend.specs.declared.outcome.Unmended.TheVariants as unmended
use Rattle.ans_mend.specs.declared.taking_out.TakenOut.{TakenOut}
use Rattle.ans_model.specs.declared.mends.Mends.{Mends}
use Rattle.ans_check_laws.specs.CleanTexts.{IsCleanText}
use Rattle.ans_check_laws.proofs.CleanLines.{clean_lines}
use Rattle.ans_check_laws.proofs.CleanPieces.{AreBytes, clean_append, clean_bool, clean_nil, clean_option, is_plain}
use Rattle.ans_check_laws.proofs.CleanPieces.{of_each, plain_text}

-- ---- what was changed

-- what is quoted of a sequence that was taken out is bytes
abbrev pub QuotesBytes : Option TakenOut → Type 0
QuotesBytes taken = IfSome taken (λ t. All IsByte t.text.bytes)

times_line_clean : (done one several : List ℕ) (times : Option Times) → IsCleanText done → IsCleanText one
    → IsCleanText several → IsCleanText (times_line done one several times)
times_line_clean done one several None h g k = clean_nil
times_line_clean done one several (Some times) h g k = search clean_lines depth 20

taken_line_clean : (taken : Option TakenOut) → QuotesBytes taken → IsCleanText (taken_line taken)
taken_line_clean None bytes = clean_nil
taken_line_clean (Some taken) bytes =
    let of_bytes : AreBytes taken.text.bytes = record { each = bytes } in
    search clean_lines depth 20

flag_clean : (switched was is : Bool) → IsCleanText (flag_line switched was is)
flag_clean switched false true = search clean_lines
flag_clean switched true false = search clean_lines
flag_clean true true true = search clean_lines
flag_clean false true true = clean_nil
flag_clean true false false = search clean_lines
flag_clean false false false = clean_nil

width_clean : (width : Option Reset) → IsCleanText (width_line width)
width_clean None = clean_nil
width_clean (Some width) = search clean_lines depth 20

comments_clean : (comments : Option Reset) → IsCleanText (comments_line comments)
comments_clean None = clean_nil
comments_clean (Some comments) = search clean_lines depth 20

older_clean : (older : Option Times) → IsCleanText (older_line older)
older_clean None = clean_nil
older_clean (Some older) = search clean_lines depth 20

-- ---- flags that did nothing

idle_clean : (idle : Bool) (text : List ℕ) → list_all is_plain text ≡ true → IsCleanText (idle_line idle text)
idle_clean true text plain = plain_text text plain
idle_clean false text plain = clean_nil

crlf_plain : (asked : Mends) → list_all is_plain (crlf_reason asked) ≡ true
crlf_plain asked = go asked.mixed
  where
    go : (mixed : Bool) → list_all is_plain (crlf_reason (record asked { mixed = mixed })) ≡ true
    go true = refl
    go false = refl

rows_plain : (asked : Mends) → list_all is_plain (rows_reason asked) ≡ true
rows_plain asked = go asked.mixed
  where
    go : (mixed : Bool) → list_all is_plain (rows_reason (record asked { mixed = mixed })) ≡ true
    go true = refl
    go false = refl

idle_text_clean : (m : Mended) → IsCleanText (idle_text m)
idle_text_clean m =
    clean_append (idle_line (idle_record m) _) _ (idle_clean (idle_record m) _ refl)
    (clean_append (idle_line (idle_columns m) _) _ (idle_clean (idle_columns m) _ refl)
    (clean_append (idle_line (idle_comments m) _) _ (idle_clean (idle_comments m) _ refl)
    (clean_append (idle_line (idle_crlf m) _) _ (idle_clean (idle_crlf m) _ (crlf_plain m.asked))
    (clean_append (idle_line (idle_take_out m) _) _ (idle_clean (idle_take_out m) _ refl)
    (clean_append (idle_line (idle_ice m) _) _ (idle_clean (idle_ice m) _ refl)
    (clean_append (idle_line (idle_join_rows m) _) _ (idle_clean (idle_join_rows m) _ (rows_plain m.asked))
    (clean_append (idle_line (idle_mixed m) _) _ (idle_clean (idle_mixed m) _ refl)
    (clean_append (idle_line (idle_colours m) _) _ (idle_clean (idle_colours m) _ refl)
    (clean_append (idle_line (idle_lines m) _) _ (idle_clean (idle_lines m) _ refl)
    (idle_clean (idle_least m) _ refl))))))))))

pub mended_clean : (mended : Mended) → All QuotesBytes mended.edits.told.kinds → IsCleanText (mended_text mended)
mended_clean m bytes =
    let taken : IsCleanText (flat_map taken_line m.edits.told.kinds) =
    of_each IsCleanText clean_nil clean_append QuotesBytes taken_line m.edits.told.kinds bytes taken_line_clean in
    search (
      clean_option tail_line,
      clean_option record_line,
      clean_option end_mark_line,
      clean_bool front_line,
      times_line_clean,
      width_clean,
      comments_clean,
      older_clean,
      flag_clean,
      idle_text_clean,
      clean_lines,
    ) depth 40 fits 9000

-- ---- why there is none

helped_clean : (asked without_help : Mends) (way : Help) → IsCleanText (helped (offers_of asked without_help) way)
helped_clean asked without_help help.Look = search clean_lines depth 20
helped_clean asked without_help way = search clean_lines depth 20

help_clean : (asked without_help : Mends) (cause : Cause)
    → IsCleanText (help_text (offers_of asked without_help) cause)
help_clean asked without_help cause = helped_clean asked without_help (fault_help cause)

pub unmended_clean : (asked without_help : Mends) (reason : Unmended)
    → IsCleanText (unmended_text asked without_help reason)
unmended_clean asked without_help (unmended.Refused fault) =
    clean_append (fault_line fault) (help_text (offers_of asked without_help) fault.cause)
    (search clean_lines depth 20) (help_clean asked without_help fault.cause)
unmended_clean asked without_help reason = search clean_lines depth 20
