-- A file that is accepted ends in a record of type Character/ANSi, so that nothing of it is cut.
use Rattle.std.proofs.Common.{◌≡◌, inl, inr, ℕ, ◌+◌, ◌≤◌, ◌==◌, Bool, true, List, ◌++◌, length, sym, ap, ap₂}
use Rattle.std.proofs.Common.{◌∙◌, arith, true≢false}
use Rattle.std.specs.Prelude.{◌&&◌}
use Rattle.std.proofs.lemmas.Bool.{eq-eqb}
use Rattle.std.proofs.lemmas.List.{length-append}
use Rattle.ans_model.specs.File.Layout.{FileParts, comment_block}
use Rattle.ans_model.specs.File.Record.{comment_count, data_type, file_type}
use Rattle.ans_model.specs.File.Refusals.{Accepts}
use Rattle.ans_sauce.specs.Found.{record_in}
use Rattle.ans_sauce.proofs.LaidParts.{laid_has_record, laid_record}
use Rattle.ans_mend.specs.Tail.{IsTailCut, ends_in_ansi}

module _ (file : List ℕ) (apart : FileParts) (accepts : Accepts file apart) where
  abbrev block : List ℕ
  block = comment_block (comment_count apart.record_bytes) apart.comment_bytes

  pub accepted_long : 128 ≤ length file
  accepted_long =
      let all : length file ≡ length apart.body + length (block ++ apart.record_bytes) =
      ap length accepts.laid.whole ∙ length-append apart.body (block ++ apart.record_bytes) in
      let behind : length (block ++ apart.record_bytes) ≡ length block + length apart.record_bytes =
      length-append block apart.record_bytes in
      let size = accepts.laid.size in omega (arith, all, behind, size)

  ends_so : ends_in_ansi file ≡ true
  ends_so =
      let same : record_in file ≡ apart.record_bytes = laid_record file apart accepts.laid in
      let character : (data_type (record_in file) == 1) ≡ true =
      eq-eqb (data_type (record_in file)) 1 (ap data_type same ∙ accepts.character) in
      let ansi : (file_type (record_in file) == 1) ≡ true =
      eq-eqb (file_type (record_in file)) 1 (ap file_type same ∙ accepts.ansi) in
      ap₂ (λ (a b : Bool). a && b) (laid_has_record file apart accepts.laid)
      (ap₂ (λ (a b : Bool). a && b) character ansi)

  pub nothing_cut : (cut : List ℕ) → IsTailCut file cut → cut ≡ file
  nothing_cut cut (inl (place, tail, is)) = absurd (true≢false (sym ends_so ∙ tail.other_end))
  nothing_cut cut (inr (none, is)) = is
