-- What is seen of a picture, run by run.
use Rattle.std.proofs.Common.{◌≡◌, ℕ, zero, suc, Bool, true, false, List, [], ◌∷◌, ◌++◌, take, drop, map}
use Rattle.std.proofs.Common.{refl, ap, ◌∙◌, subst}
use Rattle.std.specs.Prelude.{All, ◌==◌, if◌then◌else◌}
use Rattle.std.specs.List.{flat_map}
use Rattle.std.proofs.lemmas.Bool.{eqb-true}
use Rattle.std.proofs.lemmas.List.Elements.{All-head, All-tail, All-cons, All-nil, All-take, All-drop}
use Rattle.ans_model.specs.Bytes.{IsByte}
use Rattle.ans_model.specs.declared.cell.Cell.{Cell}
use Rattle.ans_model.specs.Screen.State.{IsByteCell}
use Rattle.ans_model.specs.Verdict.Good.{Picture}
use Rattle.ans_model.specs.Text.Characters.{glyph_text}
use Rattle.ans_model.specs.Text.ReportText.{rows, rows_of}
use Rattle.ans_show.specs.Looks.{look_of}
use Rattle.ans_show.specs.Runs.{Run, run, joined, runs}
use Rattle.ans_picture_laws.specs.Seen.{Seen, SeenCell, SeenEnd, seen_row, seen_picture}
use Rattle.ans_picture_laws.proofs.TextsRead.{ReadsOn, reads_each, reads_on_then}

-- what is seen of a run
abbrev pub seen_run : Bool → Run → List Seen
seen_run non_blink r = map (λ b. SeenCell (look_of non_blink r.attribute) (glyph_text b)) r.bytes

-- the attribute and the bytes of a run are bytes
pub record IsByteRun (r : Run) : Type 0 where
  pub attribute : IsByte r.attribute
  pub bytes : All IsByte r.bytes

abbrev seen_cell : Bool → Cell → Seen
seen_cell non_blink c = SeenCell (look_of non_blink c.attribute) (glyph_text c.byte)

joined_seen : (non_blink : Bool) (c : Cell) (rs : List Run)
    → flat_map (seen_run non_blink) (joined c rs) ≡ seen_cell non_blink c ∷ flat_map (seen_run non_blink) rs
joined_seen non_blink c [] = refl
joined_seen non_blink c (r ∷ more) = by_test (c.attribute == r.attribute) refl
  where
    by_test : (t : Bool) → (c.attribute == r.attribute) ≡ t
        → flat_map (seen_run non_blink) (if t then run c.attribute (c.byte ∷ r.bytes) ∷ more
        else run c.attribute (c.byte ∷ []) ∷ r ∷ more)
        ≡ seen_cell non_blink c ∷ flat_map (seen_run non_blink) (r ∷ more)
    by_test true e =
        ap (λ (a : ℕ). seen_cell non_blink c ∷ (map (λ b. SeenCell (look_of non_blink a) (glyph_text b)) r.bytes
        ++ flat_map (seen_run non_blink) more)) (eqb-true c.attribute r.attribute e)
    by_test false e = refl

-- the runs show what the row does
runs_seen : (non_blink : Bool) (row : List Cell)
    → flat_map (seen_run non_blink) (runs row) ≡ map (seen_cell non_blink) row
runs_seen non_blink [] = refl
runs_seen non_blink (c ∷ row) =
    joined_seen non_blink c (runs row) ∙ ap (λ (x : List Seen). seen_cell non_blink c ∷ x) (runs_seen non_blink row)

joined_bytes : (c : Cell) (rs : List Run) → IsByteCell c → All IsByteRun rs → All IsByteRun (joined c rs)
joined_bytes c [] h all =
    All-cons IsByteRun (run c.attribute (c.byte ∷ [])) []
    (record { attribute = h.1; bytes = All-cons IsByte c.byte [] h.0 (All-nil IsByte) }) all
joined_bytes c (r ∷ more) h all =
    let first = All-head IsByteRun r more all in
    elim (c.attribute == r.attribute) as (λ t. All IsByteRun (if t then run c.attribute (c.byte ∷ r.bytes) ∷ more
    else run c.attribute (c.byte ∷ []) ∷ r ∷ more)) [
      | true ↦ All-cons IsByteRun (run c.attribute (c.byte ∷ r.bytes)) more
          (record { attribute = h.1; bytes = All-cons IsByte c.byte r.bytes h.0 first.bytes })
          (All-tail IsByteRun r more all)
      | false ↦ All-cons IsByteRun (run c.attribute (c.byte ∷ [])) (r ∷ more)
          (record { attribute = h.1; bytes = All-cons IsByte c.byte [] h.0 (All-nil IsByte) }) all
    ]

pub runs_bytes : (row : List Cell) → All IsByteCell row → All IsByteRun (runs row)
runs_bytes [] all = All-nil IsByteRun
runs_bytes (c ∷ row) all =
    joined_bytes c (runs row) (All-head IsByteCell c row all) (runs_bytes row (All-tail IsByteCell c row all))

rows_bytes : (w l : ℕ) (cells : List Cell) → All IsByteCell cells → All (All IsByteCell) (rows w l cells)
rows_bytes w zero cells all = All-nil (All IsByteCell)
rows_bytes w (suc l) cells all =
    All-cons (All IsByteCell) (take w cells) (rows w l (drop w cells)) (All-take IsByteCell w cells all)
    (rows_bytes w l (drop w cells) (All-drop IsByteCell w cells all))

module _ {S L : Type 0} (read : S → List ℕ → List Seen) (state : L → S) (non_blink : Bool) (text : Run → List ℕ)
    (end : List ℕ) (run_reads : (r : Run) → IsByteRun r → ReadsOn read state (text r) (seen_run non_blink r))
    (end_reads : ReadsOn read state end (SeenEnd ∷ [])) where
  row_reads : (row : List Cell) → All IsByteCell row
      → ReadsOn read state (flat_map text (runs row) ++ end) (seen_row non_blink row)
  row_reads row all =
      subst (λ (x : List Seen). ReadsOn read state (flat_map text (runs row) ++ end) (x ++ SeenEnd ∷ []))
      (runs_seen non_blink row)
      (reads_on_then (reads_each IsByteRun text (seen_run non_blink) (runs row) (runs_bytes row all) run_reads)
      end_reads)

  -- where runs and line ends show what they are, the lines of a picture show it
  pub picture_reads : (picture : Picture) → All IsByteCell picture.cells
      → ReadsOn read state (flat_map (λ row. flat_map text (runs row) ++ end) (rows_of picture))
      (seen_picture non_blink picture)
  picture_reads picture all =
      reads_each (All IsByteCell) (λ row. flat_map text (runs row) ++ end) (seen_row non_blink) (rows_of picture)
      (rows_bytes picture.size.width picture.size.lines picture.cells all) row_reads
