-- The tags of a page, and other texts of ASCII, as they are read.
use Rattle.std.proofs.Common.{◌≡◌, ℕ, ◌<◌, Bool, true, false, List, [], ◌∷◌, ◌++◌, codes, decimal}
use Rattle.std.proofs.Common.{refl, ap, ap₂, sym, ◌∙◌, append_assoc, append-nil}
use Rattle.std.specs.Prelude.{◌&&◌, ◌==◌, not, if◌then◌else◌}
use Rattle.std.specs.Fmt.{digits}
use Rattle.std.proofs.lemmas.Bool.{and_parts}
use Rattle.ans_show.specs.Looks.{Look, look_of}
use Rattle.ans_picture_laws.specs.Seen.{Seen}
use Rattle.ans_show.specs.PageText.{span_text}
use Rattle.ans_picture_laws.specs.PageReader.{Page, InText, InTag, words, look_in, shown_after, page_after, page_sees}
use Rattle.ans_picture_laws.specs.PageReader.{read_page}
use Rattle.ans_show.proofs.EachByte.{all_below, holds_at}
use Rattle.ans_picture_laws.proofs.EachLook.{same_look, same_looks, not_true}
use Rattle.ans_picture_laws.proofs.TextsRead.{is_ascii, ascii_ended, Reads, reads_ascii, reads_same}

-- where a reader stands behind a text
abbrev pub through : Page → List ℕ → Page
through p [] = p
through p (c ∷ text) = through (page_after p c) text

read_through : (p : Page) (text rest : List ℕ)
    → read_page p (text ++ rest) ≡ read_page p text ++ read_page (through p text) rest
read_through p [] rest = refl
read_through p (c ∷ text) rest =
    let next = page_after p c in
    ap (λ (x : List Seen). page_sees p c ++ x) (read_through next text rest)
    ∙ sym (append_assoc (page_sees p c) (read_page next text) (read_page (through next text) rest))

-- what is seen of a text alone is seen of it before others
pub reads_alone : (old new : Page) (text : List ℕ) (seen : List Seen) → is_ascii text ≡ true
    → read_page old text ≡ seen → through old text ≡ new → Reads read_page old text seen new
reads_alone old new text seen a same after =
    reads_ascii text a (λ rest. read_through old text rest
    ∙ ap₂ (λ (x : List Seen) (q : Page). x ++ read_page q rest) same after)

-- the tag of a span, without its brackets
abbrev inside : Look → List ℕ
inside l =
    codes "span class=\"f"
    ++ (decimal l.foreground
    ++ (codes " b" ++ (decimal l.background ++ ((if l.blinks then codes " k" else []) ++ codes "\""))))

tag_is : (l : Look) → 0x3C ∷ (inside l ++ 0x3E ∷ []) ≡ span_text l
tag_is l = simp append_assoc

-- whether `>` does not stand in it
abbrev has_no_end : List ℕ → Bool
has_no_end [] = true
has_no_end (c ∷ text) = not (c == 0x3E) && has_no_end text

-- a tag is read up to its `>`
read_tag : (front text rest : List ℕ) (l : Look) → has_no_end text ≡ true
    → read_page (InTag front true l) (text ++ 0x3E ∷ rest)
    ≡ read_page (InText (shown_after (front ++ text) true) (look_in (words [] (front ++ text)))) rest
read_tag front [] rest l h =
    ap (λ (x : List ℕ). read_page (InText (shown_after x true) (look_in (words [] x))) rest)
    (sym (append-nil front))
read_tag front (c ∷ text) rest l h =
    let parts = and_parts (not (c == 0x3E)) (has_no_end text) h in
    let other : (c == 0x3E) ≡ false = not_true (c == 0x3E) parts.0 in
    rw other (read_tag (front ++ c ∷ []) text rest l parts.1
    ∙ ap (λ (x : List ℕ). read_page (InText (shown_after x true) (look_in (words [] x))) rest)
    (append_assoc front (c ∷ []) text))

-- the span of an attribute leads to how the attribute looks
abbrev leads : Bool → ℕ → Bool
leads non_blink a =
    is_ascii (inside (look_of non_blink a)) && (has_no_end (inside (look_of non_blink a))
    && (shown_after (inside (look_of non_blink a)) true
    && same_look (look_in (words [] (inside (look_of non_blink a)))) (look_of non_blink a)))

all_lead : (non_blink : Bool) → all_below 256 (leads non_blink) ≡ true
unfolding digits
all_lead false = refl
all_lead true = refl

pub span_read : (non_blink : Bool) (a : ℕ) (l : Look) → a < 256
    → Reads read_page (InText true l) (span_text (look_of non_blink a)) [] (InText true (look_of non_blink a))
span_read non_blink a l lt =
    let how = look_of non_blink a in
    let text = inside how in
    let to = look_in (words [] text) in
    let h = holds_at 256 (leads non_blink) (all_lead non_blink) a lt in
    let one = and_parts (is_ascii text) (has_no_end text && (shown_after text true && same_look to how)) h in
    let two = and_parts (has_no_end text) (shown_after text true && same_look to how) one.1 in
    let three = and_parts (shown_after text true) (same_look to how) two.1 in
    reads_same (tag_is how)
    (reads_ascii (0x3C ∷ (text ++ 0x3E ∷ [])) (ascii_ended 0x3E refl text one.0)
    (λ rest. ap (λ (x : List ℕ). read_page (InTag [] true l) x) (append_assoc text (0x3E ∷ []) rest)
    ∙ read_tag [] text rest l two.0
    ∙ ap (λ (s : Bool). read_page (InText s to) rest) three.0
    ∙ ap (λ (x : Look). read_page (InText true x) rest) (same_looks to how three.1)))
