-- What comes of a file of which the colours are named, and nothing else is asked for.
use Rattle.std.proofs.Common.{◌≡◌, ℕ, List, [], true, refl, sym, ap, ap₂, ◌∙◌, subst, subst₂, ◌++◌}
use Rattle.ans_model.specs.File.Layout.{FileParts, content}
use Rattle.ans_model.specs.File.Record.{stated_size}
use Rattle.ans_model.specs.Screen.State.{Size}
use Rattle.ans_model.specs.Screen.StartClass.{all_known, none_known}
use Rattle.ans_model.specs.Sequence.Reads.{ReadsAs}
use Rattle.ans_model.specs.Verdict.Good.{GoodWith, Picture}
use Rattle.ans_players.specs.Situations.{spelled}
use Rattle.ans_players.proofs.OneSpelling.{one_spelling}
use Rattle.ans_sauce.specs.Found.{record_in}
use Rattle.ans_sauce.proofs.LaidParts.{laid_body, laid_record}
use Rattle.ans_play_laws.proofs.OneEnd.{one_picture}
use Rattle.ans_sauce.specs.Fields.{with_file_size}
use Rattle.ans_sauce.proofs.ResizedFiles.{resized_size}
use Rattle.ans_sauce.specs.Contents.{content_in}
use Rattle.ans_mend.specs.NamedColours.{NamesColours, named_content}
use Rattle.ans_mend.specs.declared.outcome.Edits.{Edits}
use Rattle.ans_mend.specs.declared.outcome.Mended.{Mended}
use Rattle.ans_names_laws.specs.NameLaws.{CellsStay}
use Rattle.ans_model.specs.declared.mends.Mends.{Mends}
use Rattle.ans_model.specs.declared.mends.TheConstants.Mends as no_mends
use Rattle.ans_verdict.specs.FileVerdict.{Passes}
use Rattle.ans_mend.specs.Mending.{AreLinesFor, IsEdited, IsEditedAsStated, IsMended, front_bytes, lacks_lines, lined}
use Rattle.ans_mend.specs.Mending.{opened}
use Rattle.ans_check_laws.proofs.WholeFiles.{nothing_cut}
use Rattle.ans_check_laws.proofs.MendedItself.{not_lined, not_opened}
use Rattle.ans_check_laws.proofs.MendedTwice.{its_record, left_is, put, record_is, was_named}

-- names of colours, and nothing else
abbrev names : Mends
names = record no_mends.NONE { name_colours = true }

-- before its colours are named the file is as it was
not_changed : (z : Size) (file edited : List ℕ) (edits : Edits) (e : IsEdited names z file edited edits)
    → e.ended ≡ file
not_changed z file edited edits e = e.ends.0 ∙ e.rows.0 ∙ e.sequences.2 ∙ e.sequences.1.0

module _ (cells : CellsStay) (file draft : List ℕ) (apart : FileParts) (picture : Picture) (mended : Mended)
    (passes : Passes file all_known apart picture) (h : IsMended names file mended draft) where
  abbrev z : Size
  z = stated_size apart.record_bytes

  its_opened : opened h.asked h.based ≡ h.cut
  its_opened = ap₂ (λ (m : Mends) (v : List ℕ). opened m v) h.asked_is h.based_is ∙ not_opened h.cut

  ended_is : h.steps.is_edited.ended ≡ file
  ended_is =
      subst₂ (λ (m : Mends) (v : List ℕ). (e : IsEditedAsStated m v h.steps.edited mended.edits) → e.ended ≡ v)
      (sym h.asked_is) (sym its_opened)
      (λ e. not_changed (stated_size (record_in h.cut)) h.cut h.steps.edited mended.edits e) h.steps.is_edited
      ∙ its_opened ∙ nothing_cut file apart passes.accepts h.cut h.is_cut

  not_taken : lined h.steps.lines h.steps.edited ≡ h.steps.edited
  not_taken =
      not_lined (lacks_lines h.asked h.based) h.steps.edited h.steps.lines
      (subst (λ (m : Mends). AreLinesFor m (lacks_lines h.asked h.based) h.steps.edited h.steps.lines) h.asked_is
      h.steps.are_lines)

  same_record : record_in h.settled ≡ apart.record_bytes
  same_record =
      record_is names file mended draft h refl not_taken ∙ ap record_in ended_is
      ∙ laid_record file apart passes.accepts.laid

  named_size : stated_size h.apart.record_bytes ≡ z
  named_size =
      ap stated_size (its_record names file mended draft h
      ∙ ap (with_file_size mended.file_size.is) same_record)
      ∙ resized_size [] refl mended.file_size.is file apart passes.accepts

  was : NamesColours (content_in h.steps.is_edited.ended) (put names file mended draft h refl).0
      mended.edits.named_colours
  was = was_named names file mended draft h refl

  same_tokens : spelled was.tokens was.reads.0 ≡ spelled passes.good.tokens passes.good.reads.0
  same_tokens =
      one_spelling (content_in h.steps.is_edited.ended) was.tokens passes.good.tokens was.reads (
        passes.good.reads.0,
        subst (λ (v : List ℕ). ReadsAs v passes.good.tokens passes.good.reads.0)
            (sym (ap content_in ended_is ∙ ap content (laid_body file apart passes.accepts.laid))) passes.good.reads.1,
      )

  same_picture : h.picture ≡ picture
  same_picture =
      let bytes : List ℕ = named_content (spelled passes.good.tokens passes.good.reads.0) in
      let left : content_in h.settled ≡ bytes =
      left_is names file mended draft h refl ∙ was.left_is ∙ ap named_content same_tokens in
      let moved : GoodWith z all_known bytes h.picture =
      subst₂ (λ (v : Size) (w : List ℕ). GoodWith v all_known w h.picture) named_size left h.from_cleared in
      one_picture z all_known all_known bytes h.picture picture moved
      (cells z all_known (content apart.body) picture passes.good)

  pub naming_keeps : (new : FileParts) × Passes (front_bytes mended.front ++ draft) none_known new picture
      × (stated_size new.record_bytes ≡ z)
  naming_keeps = (
    h.apart,
    record {
      accepts = h.accepts;
      good = subst (λ (v : Picture). GoodWith (stated_size h.apart.record_bytes) none_known (content h.apart.body) v)
          same_picture h.from_every;
    },
    named_size,
  )
