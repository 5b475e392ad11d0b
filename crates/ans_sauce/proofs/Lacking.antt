-- A file that lacks nothing but its lines.
use Rattle.std.proofs.Common.{◌≡◌, ℕ, ◌-◌, Bool, false, not, nat_lt, List, length, take, sym, ap, ap₂, ◌∙◌}
use Rattle.std.proofs.Common.{Option}
use Rattle.std.specs.Prelude.{is_some}
use Rattle.std.specs.List.{list_all, position}
use Rattle.ans_model.specs.Bytes.{most_columns}
use Rattle.ans_model.specs.File.Layout.{after_content, is_clean_end, is_end_mark}
use Rattle.ans_model.specs.File.Record.{comment_count, tinfo}
use Rattle.ans_model.specs.File.Refusals.{block_size}
use Rattle.ans_sauce.specs.Found.{body_in, record_in}
use Rattle.ans_sauce.specs.Split.{EndsInRecord}
use Rattle.ans_sauce.specs.WithoutLines.{lacks_lines_alone}
use Rattle.ans_sauce.proofs.Splitting.{pass_by_place}

-- by the first byte behind the content that is no end mark
pub lacks_by_place : (file front r body rest : List ℕ) (place : Option ℕ) (fails : Bool) → EndsInRecord file front r
    → nat_lt most_columns (tinfo 1 r) ≡ false
    → body ≡ take (length front - block_size (comment_count r)) front → rest ≡ after_content body
    → place ≡ position (λ b. not (is_end_mark b)) rest → is_some place ≡ fails → lacks_lines_alone file ≡ not fails
lacks_by_place file front r body rest place fails there narrow body_is rest_is at some =
    let whole : body ≡ body_in file = body_is
    ∙ ap₂ (λ (f s : List ℕ). take (length f - block_size (comment_count s)) f) there.front_is there.record_is in
    let clean : is_clean_end (body_in file) ≡ not fails =
    ap (λ (v : List ℕ). list_all is_end_mark (after_content v)) (sym whole)
    ∙ ap (λ (v : List ℕ). list_all is_end_mark v) (sym rest_is) ∙ pass_by_place is_end_mark rest place fails at some in
    let fits : nat_lt most_columns (tinfo 1 (record_in file)) ≡ false =
    ap (λ (v : List ℕ). nat_lt most_columns (tinfo 1 v)) (sym there.record_is) ∙ narrow in
    rw (there.found, fits) clean
