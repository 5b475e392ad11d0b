-- What is seen of a page.
use Rattle.std.proofs.Common.{◌≡◌, ℕ, Bool, true, false, List, [], ◌∷◌, ◌++◌, codes, refl, subst, append-nil}
use Rattle.std.specs.Prelude.{chars, All}
use Rattle.ans_model.specs.Bytes.{IsByte}
use Rattle.ans_model.specs.Screen.State.{IsByteCell}
use Rattle.ans_model.specs.Verdict.Good.{Picture}
use Rattle.ans_show.specs.Looks.{Look, look_of}
use Rattle.ans_show.specs.Runs.{Run}
use Rattle.ans_picture_laws.specs.Seen.{Seen, SeenEnd, white_on_black, seen_picture}
use Rattle.ans_show.specs.PageText.{run_span, page_start, page_style, page_end, page_text}
use Rattle.ans_picture_laws.specs.PageReader.{Page, InText, read_page}
use Rattle.ans_picture_laws.proofs.TextsRead.{Reads, ReadsOn, reads_then, reads_whole}
use Rattle.ans_picture_laws.proofs.SeenRuns.{IsByteRun, seen_run, picture_reads}
use Rattle.ans_picture_laws.proofs.PageTags.{reads_alone, span_read}
use Rattle.ans_picture_laws.proofs.PageCharacters.{bytes_read, title_read}

-- a text, and then one of which nothing is seen
reads_more : {a b c : Page} {x y : List ℕ} {s : List Seen} → Reads read_page a x s b → Reads read_page b y [] c
    → Reads read_page a (x ++ y) s c
reads_more {a} {b} {c} {x} {y} {s} p q =
    subst (λ (t : List Seen). Reads read_page a (x ++ y) t c) (append-nil s) (reads_then p q)

span_end_read : (l : Look) → Reads read_page (InText true l) (codes "</span>") [] (InText true white_on_black)
span_end_read l = reads_alone (InText true l) (InText true white_on_black) (codes "</span>") [] refl refl refl

run_reads : (non_blink : Bool) (r : Run) → IsByteRun r
    → ReadsOn read_page (InText true) (run_span non_blink r) (seen_run non_blink r)
run_reads non_blink r h = record {
  after = λ l. white_on_black;
  on = λ l. reads_then (span_read non_blink r.attribute l h.attribute)
      (reads_more (bytes_read (look_of non_blink r.attribute) r.bytes h.bytes)
      (span_end_read (look_of non_blink r.attribute)));
}

line_end_reads : ReadsOn read_page (InText true) (codes "\n") (SeenEnd ∷ [])
line_end_reads = record {
  after = λ l. l;
  on = λ l. reads_alone (InText true l) (InText true l) (codes "\n") (SeenEnd ∷ []) refl refl refl;
}

start_read : (l : Look) → Reads read_page (InText false l) page_start [] (InText false white_on_black)
unfolding page_start
start_read l = reads_alone (InText false l) (InText false white_on_black) page_start [] refl refl refl

style_read : Reads read_page (InText false white_on_black) page_style [] (InText true white_on_black)
unfolding page_style
style_read = reads_alone (InText false white_on_black) (InText true white_on_black) page_style [] refl refl refl

end_read : (l : Look) → Reads read_page (InText true l) page_end [] (InText false white_on_black)
unfolding page_end
end_read l = reads_alone (InText true l) (InText false white_on_black) page_end [] refl refl refl

-- each cell of the picture is seen in its place, as its attribute says
pub page_read : (non_blink : Bool) (before : Look) (title : List ℕ) (picture : Picture) → All IsByte title
    → All IsByteCell picture.cells
    → read_page (InText false before) (chars (page_text non_blink title picture)) ≡ seen_picture non_blink picture
page_read non_blink before title picture bytes all =
    let h = picture_reads read_page (InText true) non_blink (run_span non_blink) (codes "\n") (run_reads non_blink)
    line_end_reads picture all in
    reads_whole (reads_then (start_read before) (reads_then (title_read white_on_black title bytes)
    (reads_then style_read (reads_more (h.on white_on_black) (end_read (h.after white_on_black)))))) refl
