-- The picture as a page.
use Rattle.std.specs.Prelude.{ℕ, Bool, List, [], ◌∷◌, ◌++◌, codes, decimal, flat_map, ◌==◌, encode_utf8, if◌then◌else◌}
use Rattle.ans_model.specs.declared.cell.Cell.{Cell}
use Rattle.ans_model.specs.Verdict.Good.{Picture}
use Rattle.ans_model.specs.Text.Characters.{glyph_text}
use Rattle.ans_model.specs.Text.ReportText.{rows_of}
use Rattle.ans_show.specs.Looks.{Look, look_of}
use Rattle.ans_show.specs.Runs.{Run, runs}

-- a byte's character in UTF-8, or its name where it means something else in a page
abbrev pub page_character : ℕ → List ℕ
page_character b =
    if b == 0x26 then codes "&amp;"
    else if b == 0x3C then codes "&lt;"
    else if b == 0x3E then codes "&gt;"
    else if b == 0x22 then codes "&quot;"
    else if b == 0x27 then codes "&apos;"
    else encode_utf8 (glyph_text b)

-- bytes as they are shown on a page
abbrev pub page_bytes : List ℕ → List ℕ
page_bytes bytes = flat_map page_character bytes

-- where the cells begin to look so: the classes are a foreground, a background, and `k` for blink
abbrev pub span_text : Look → List ℕ
span_text l =
    codes "<span class=\"f"
    ++ (decimal l.foreground
    ++ (codes " b" ++ (decimal l.background ++ ((if l.blinks then codes " k" else []) ++ codes "\">"))))

-- the span of a run
abbrev pub run_span : Bool → Run → List ℕ
run_span non_blink r = span_text (look_of non_blink r.attribute) ++ (page_bytes r.bytes ++ codes "</span>")

-- the line of a row
abbrev pub page_line : Bool → List Cell → List ℕ
page_line non_blink row = flat_map (run_span non_blink) (runs row) ++ codes "\n"

-- the title, or another where that is empty
abbrev pub page_title : List ℕ → List ℕ
page_title [] = codes "ANSI drawing"
page_title (b ∷ title) = page_bytes (b ∷ title)

-- before the title
unfoldable pub page_start : List ℕ
page_start = codes "<!DOCTYPE html>\n<html lang=\"en\">\n<head>\n<meta charset=\"utf-8\">\n<title>"

-- the sixteen foregrounds
abbrev pub foreground_style : List ℕ
foreground_style =
    codes ".f0{color:#000}.f1{color:#00a}.f2{color:#0a0}.f3{color:#0aa}\n"
    ++ (codes ".f4{color:#a00}.f5{color:#a0a}.f6{color:#a50}.f7{color:#aaa}\n"
    ++ (codes ".f8{color:#555}.f9{color:#55f}.f10{color:#5f5}.f11{color:#5ff}\n"
    ++ codes ".f12{color:#f55}.f13{color:#f5f}.f14{color:#ff5}.f15{color:#fff}\n"))

-- the sixteen backgrounds
abbrev pub background_style : List ℕ
background_style =
    codes ".b0{background:#000}.b1{background:#00a}.b2{background:#0a0}.b3{background:#0aa}\n"
    ++ (codes ".b4{background:#a00}.b5{background:#a0a}.b6{background:#a50}.b7{background:#aaa}\n"
    ++ (codes ".b8{background:#555}.b9{background:#55f}.b10{background:#5f5}.b11{background:#5ff}\n"
    ++ codes ".b12{background:#f55}.b13{background:#f5f}.b14{background:#ff5}.b15{background:#fff}\n"))

-- what blinks, unless the reader prefers no motion
abbrev pub blink_style : List ℕ
blink_style =
    codes ".k{animation:k 1s step-end infinite}\n@keyframes k{50%{color:transparent}}\n"
    ++ codes "@media (prefers-reduced-motion:reduce){.k{animation:none}}\n"

-- between the title and the first line, which directly follows `<pre>`
unfoldable pub page_style : List ℕ
page_style =
    codes "</title>\n<style>\nbody{background:#000}\n"
    ++ (codes "pre{margin:0;font-family:monospace;line-height:1;color:#aaa}\n"
    ++ (foreground_style ++ (background_style ++ (blink_style ++ codes "</style>\n</head>\n<body>\n<pre>"))))

-- after the last line
unfoldable pub page_end : List ℕ
page_end = codes "</pre>\n</body>\n</html>\n"

-- the page of a picture, by the bytes of its title
abbrev pub page_text : Bool → List ℕ → Picture → List ℕ
page_text non_blink title picture =
    page_start
    ++ (page_title title ++ (page_style ++ (flat_map (page_line non_blink) (rows_of picture) ++ page_end)))
