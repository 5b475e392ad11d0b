-- What an open part is with one more byte: open again, the text of a token, or what the reading refuses. It computes.
use Rattle.std.proofs.Common.{◌≡◌, ◌≢◌, ◌⊎◌, inl, inr, ℕ, ◌+◌, ◌-◌, ◌*◌, ◌<◌, ◌≤◌, Bool, true, false, ◌&&◌, ◌==◌}
use Rattle.std.proofs.Common.{nat_lt, List, [], ◌∷◌, ◌++◌, length, refl, arith, Result, Ok, Err}
use Rattle.std.proofs.lemmas.Bool.{and_parts}
use Rattle.std.proofs.lemmas.Bool.Decides.{nat_tests}
use Rattle.std.specs.Char.{is_ascii_digit, is_ascii_alphabetic}
use Rattle.ans_model.specs.Bytes.{IsByte, escape, bracket, semicolon, largest_number, most_parameters}
use Rattle.ans_model.specs.Sequence.TokenKind.{TokenKind}
use Rattle.ans_model.specs.declared.fault.Cause.{Cause}
use Rattle.ans_model.specs.declared.fault.Cause.TheVariants.{BrokenSequence, NumberTooLarge, TooManyParameters}
use Rattle.ans_model.specs.Sequence.Spelling.{Member, Raw, Spells, is_quote, mark_bytes, IsPrefixOfLoose, IsUnfinished}
use Rattle.ans_model.specs.declared.mark.Mark.{Mark}
use Rattle.ans_model.specs.declared.mark.Mark.TheVariants.{Unmarked, Equals, Question}
use Rattle.ans_model.specs.Sequence.Meaning.{meaning}
use Rattle.ans_model.specs.Sequence.Reads.{SpellsToken, kind_of_byte}
use Rattle.ans_model.specs.Inside.OpenPart.{Current, Fresh, InNumber, InString, AfterString, SpellsCurrent, Part}
use Rattle.ans_model.specs.Inside.OpenPart.{SpellsPart, lacks, raw_of, is_stop}
use Rattle.ans_model.specs.Verdict.FirstFault.{IsRefused}
use Rattle.ans_model.proofs.AfterPart.{refuses_byte, part_unfinished}
use Rattle.ans_tokens.specs.ScannerView as view
use Rattle.ans_tokens.specs.ScannerView.{Kept, Keeps}
use Rattle.ans_tokens.specs.Unfinished.{empty_part, with_next}
use Rattle.ans_tokens.proofs.ScannerSteps.{with_current, extend, more_digits, more_text, closed_text, next_member}
use Rattle.ans_tokens.proofs.ScannerSteps.{letter_spells, too_many, too_large, marked, fresh_digit, fresh_quote}
use Rattle.ans_tokens.proofs.ScannerSteps.{not_loose_not_spelled, fresh_not_after, fresh_not_number}
use Rattle.ans_tokens.proofs.OpenLemmas.{empty_part_spells, escape_refused, escape_unfinished, broken}

-- an open part: nothing, ESC, or a part of a sequence
abbrev pub IsOpen : List ℕ → Type 0
IsOpen y = (y ≡ []) ⊎ (y ≡ escape ∷ []) ⊎ ((part : Part) × SpellsPart part y)

-- what a scanner keeps is of an open part
pub kept_open : (kept : Kept) (y : List ℕ) → Keeps kept y → IsOpen y
kept_open view.Nothing y e = inl e
kept_open view.Escape y e = inr (inl e)
kept_open (view.Sequence mark numbers quoted current) y (part, kept, spelled) = inr (inr (part, spelled))

-- what is open is nothing, or an unfinished sequence
pub open_ends : (y : List ℕ) → IsOpen y → (y ≡ []) ⊎ IsUnfinished y
open_ends y (inl e) = inl e
open_ends y (inr (inl e)) = inr (rw e escape_unfinished)
open_ends y (inr (inr (part, h))) = inr (part_unfinished part y h)

-- an open part, so that one can compute with it
pub data Open : Type 0 where
  Nothing : Open
  Escape : Open
  Within : (part : Part) → Open

abbrev pub SpellsOpen : Open → List ℕ → Type 0
SpellsOpen Nothing y = y ≡ []
SpellsOpen Escape y = y ≡ escape ∷ []
SpellsOpen (Within part) y = SpellsPart part y

pub is_open : (o : Open) (y : List ℕ) → SpellsOpen o y → IsOpen y
is_open Nothing y h = inl h
is_open Escape y h = inr (inl h)
is_open (Within part) y h = inr (inr (part, h))

-- what it is with one more byte
pub data Next : Type 0 where
  Stays : (open_part : Open) → Next
  Ends : (token : TokenKind) → Next
  Refuses : (cause : Cause) → Next

abbrev pub SpellsNext : Next → List ℕ → Type 0
SpellsNext (Stays open_part) text = SpellsOpen open_part text
SpellsNext (Ends token) text = SpellsToken token text
SpellsNext (Refuses cause) text = IsRefused text cause

-- ---- a `;`, a letter, or neither, after a whole member
abbrev pub meant : Result TokenKind Cause → Next
meant (Ok token) = Ends token
meant (Err cause) = Refuses cause

abbrev pub after_member : (semicolon room letter : Bool) → Part → ℕ → Next
after_member true true letter p b = Stays (Within (with_next p))
after_member true false letter p b = Refuses TooManyParameters
after_member false room true p b = meant (meaning (raw_of p b))
after_member false room false p b = Refuses BrokenSequence

abbrev pub stop : Part → ℕ → Next
stop p b = after_member (b == semicolon) (nat_lt (length p.done + 1) most_parameters) (is_ascii_alphabetic b) p b

equal : (a b : ℕ) → (a == b) ≡ true → a ≡ b
equal a b h = grind (arith, nat_tests)

unequal : (a b : ℕ) → (a == b) ≡ false → a ≢ b
unequal a b h = grind (arith, nat_tests)

below : (a b : ℕ) → nat_lt a b ≡ true → a < b
below a b h = grind (arith, nat_tests)

not_below : (a b : ℕ) → nat_lt a b ≡ false → b ≤ a
not_below a b h = grind (arith, nat_tests)

meant_is : (raw : Raw) (text : List ℕ) (m : Result TokenKind Cause) → Spells raw text → meaning raw ≡ m
    → SpellsNext (meant m) text
meant_is raw text (Ok token) h means = inr (record { raw = raw; spelled = h; means = means })
meant_is raw text (Err cause) h means = inl (record { raw = raw; spelled = h; means = means })

after_member_is : (s r l : Bool) (p : Part) (y : List ℕ) (b : ℕ) → (b == semicolon) ≡ s
    → nat_lt (length p.done + 1) most_parameters ≡ r → is_ascii_alphabetic b ≡ l → SpellsPart p y
    → lacks p.current ≡ [] → (is_stop b ≡ false → ¬ IsPrefixOfLoose (y ++ b ∷ []))
    → SpellsNext (after_member s r l p b) (y ++ b ∷ [])
after_member_is true true l p y b hs hr hl h whole none =
    rw (equal b semicolon hs) (next_member p y h whole (below (length p.done + 1) most_parameters hr))
after_member_is true false l p y b hs hr hl h whole none =
    let e : b ≡ semicolon = equal b semicolon hs in
    let t = too_many p y h whole (not_below (length p.done + 1) most_parameters hr) in
    broken p y b TooManyParameters h (rw e t.0) (inr (inr (rw e t.1, e, refl)))
after_member_is false r true p y b hs hr hl h whole none =
    meant_is (raw_of p b) (y ++ b ∷ []) (meaning (raw_of p b)) (letter_spells p y b h whole hl) refl
after_member_is false r false p y b hs hr hl h whole none =
    let loose : ¬ IsPrefixOfLoose (y ++ b ∷ []) = none (rw (hs, hl) refl) in
    broken p y b BrokenSequence h (not_loose_not_spelled (y ++ b ∷ []) loose) (inl (loose, refl))

stop_is : (p : Part) (y : List ℕ) (b : ℕ) → SpellsPart p y → lacks p.current ≡ []
    → (is_stop b ≡ false → ¬ IsPrefixOfLoose (y ++ b ∷ [])) → SpellsNext (stop p b) (y ++ b ∷ [])
stop_is p y b h whole none =
    after_member_is (b == semicolon) (nat_lt (length p.done + 1) most_parameters) (is_ascii_alphabetic b) p y b
    refl refl refl h whole none

-- ---- where a member may begin
-- directly after `[`
abbrev pub bare : Mark → List Member → Bool
bare Unmarked [] = true
bare _ _ = false

bare_means : (m : Mark) (done : List Member) → bare m done ≡ true → (m ≡ Unmarked) × (done ≡ [])
bare_means Unmarked [] h = (refl, refl)
bare_means Unmarked (d ∷ done) h = cc
bare_means Equals done h = cc
bare_means Question done h = cc

abbrev pub after_mark : Mark → Part
after_mark m = record { mark = m; done = []; current = Fresh }

abbrev pub at_member : (digit quote equals question : Bool) → Part → ℕ → Next
at_member true quote equals question p b = Stays (Within (with_current p (InNumber (b - 48))))
at_member false true equals question p b = Stays (Within (with_current p (InString b [])))
at_member false false true question p b = Stays (Within (after_mark Equals))
at_member false false false true p b = Stays (Within (after_mark Question))
at_member false false false false p b = stop p b

small_digit : (b : ℕ) → is_ascii_digit b ≡ true → b < 256
small_digit b h = grind (arith, nat_tests)

-- a mark directly after `[`
mark_is : (p : Part) (y : List ℕ) (b : ℕ) (m : Mark) (byte : ℕ) → SpellsPart p y → p.current ≡ Fresh
    → bare p.mark p.done && b == byte ≡ true → mark_bytes m ≡ byte ∷ []
    → SpellsPart (after_mark m) (y ++ b ∷ [])
mark_is p y b m byte h fresh at text =
    let t = and_parts (bare p.mark p.done) (b == byte) at in
    let n = bare_means p.mark p.done t.0 in
    marked p y m b h n.0 n.1 fresh (rw (equal b byte t.1) text)

at_member_is : (d q e k : Bool) (p : Part) (y : List ℕ) (b : ℕ) → is_ascii_digit b ≡ d → is_quote b ≡ q
    → bare p.mark p.done && b == 0x3D ≡ e → bare p.mark p.done && b == 0x3F ≡ k → SpellsPart p y
    → p.current ≡ Fresh → SpellsNext (at_member d q e k p b) (y ++ b ∷ [])
at_member_is true q e k p y b hd hq he hk h fresh = fresh_digit p y b h fresh hd (small_digit b hd)
at_member_is false true e k p y b hd hq he hk h fresh = fresh_quote p y b h fresh hq
at_member_is false false true k p y b hd hq he hk h fresh = mark_is p y b Equals 0x3D h fresh he refl
at_member_is false false false true p y b hd hq he hk h fresh = mark_is p y b Question 0x3F h fresh hk refl
at_member_is false false false false p y b hd hq he hk h fresh =
    stop_is p y b h (rw fresh refl) (λ no_stop.
    refuses_byte p y b h.loose (rw (fresh, no_stop, hd, hq) refl) (λ mark done _.
    let equals : (b == 0x3D) ≡ false = rw (mark, done) at he in
    let question : (b == 0x3F) ≡ false = rw (mark, done) at hk in
    rw (equals, question) refl))

-- ---- in a number or a string
abbrev pub in_number : (digit large : Bool) → ℕ → Part → ℕ → Next
in_number true true n p b = Refuses NumberTooLarge
in_number true false n p b = Stays (Within (with_current p (InNumber (n * 10 + (b - 48)))))
in_number false large n p b = stop p b

in_number_is : (d s : Bool) (n : ℕ) (p : Part) (y : List ℕ) (b : ℕ) → is_ascii_digit b ≡ d
    → nat_lt largest_number (n * 10 + (b - 48)) ≡ s → SpellsPart p y → p.current ≡ InNumber n
    → SpellsNext (in_number d s n p b) (y ++ b ∷ [])
in_number_is true true n p y b hd hs h now =
    let t = too_large p y n b h now hd (below largest_number (n * 10 + (b - 48)) hs) in
    broken p y b NumberTooLarge h t.0 (inr (inl (t.1, hd, refl)))
in_number_is true false n p y b hd hs h now =
    let last : SpellsCurrent (InNumber n) h.loose.last = rw now at h.loose.current in
    extend p y b (InNumber (n * 10 + (b - 48))) h (more_digits n b h.loose.last last hd)
    (not_below largest_number (n * 10 + (b - 48)) hs)
in_number_is false s n p y b hd hs h now =
    stop_is p y b h (rw now refl) (λ no_stop.
    refuses_byte p y b h.loose (rw (now, no_stop, hd) refl)
    (λ mark done fresh. absurd (fresh_not_number p.current n now fresh)))

abbrev pub in_string : Bool → ℕ → List ℕ → Part → ℕ → Next
in_string true q text p b = Stays (Within (with_current p (AfterString q text)))
in_string false q text p b = Stays (Within (with_current p (InString q (text ++ b ∷ []))))

in_string_is : (e : Bool) (q : ℕ) (text : List ℕ) (p : Part) (y : List ℕ) (b : ℕ) → (b == q) ≡ e → SpellsPart p y
    → p.current ≡ InString q text → SpellsNext (in_string e q text p b) (y ++ b ∷ [])
in_string_is true q text p y b e h now =
    let last : SpellsCurrent (InString q text) h.loose.last = rw now at h.loose.current in
    rw (equal b q e) (extend p y q (AfterString q text) h (closed_text q text h.loose.last last) tt)
in_string_is false q text p y b e h now =
    let last : SpellsCurrent (InString q text) h.loose.last = rw now at h.loose.current in
    extend p y b (InString q (text ++ b ∷ [])) h (more_text q b text h.loose.last last (unequal b q e)) tt

-- ---- one more byte
abbrev pub after_nothing : Bool → ℕ → Next
after_nothing true b = Stays Escape
after_nothing false b = Ends (kind_of_byte b)

abbrev pub after_escape : Bool → Next
after_escape true = Stays (Within empty_part)
after_escape false = Refuses BrokenSequence

abbrev pub after_part : Part → Current → ℕ → Next
after_part p Fresh b = at_member (is_ascii_digit b) (is_quote b) (bare p.mark p.done && b == 0x3D)
    (bare p.mark p.done && b == 0x3F) p b
after_part p (InNumber n) b = in_number (is_ascii_digit b) (nat_lt largest_number (n * 10 + (b - 48))) n p b
after_part p (InString q text) b = in_string (b == q) q text p b
after_part p (AfterString q text) b = stop p b

-- what an open part and a byte are
abbrev pub next : Open → ℕ → Next
next Nothing b = after_nothing (b == escape) b
next Escape b = after_escape (b == bracket)
next (Within p) b = after_part p p.current b

after_nothing_is : (e : Bool) (b : ℕ) → IsByte b → (b == escape) ≡ e → SpellsNext (after_nothing e b) (b ∷ [])
after_nothing_is true b byte e = rw (equal b escape e) refl
after_nothing_is false b byte e =
    inl (record { byte = b; is_byte = byte; not_escape = unequal b escape e; whole = refl; means = refl })

after_escape_is : (e : Bool) (b : ℕ) → (b == bracket) ≡ e → SpellsNext (after_escape e) (escape ∷ b ∷ [])
after_escape_is true b e = rw (equal b bracket e) empty_part_spells
after_escape_is false b e = escape_refused b (unequal b bracket e)

after_part_is : (p : Part) (c : Current) (y : List ℕ) (b : ℕ) → SpellsPart p y → p.current ≡ c
    → SpellsNext (after_part p c b) (y ++ b ∷ [])
after_part_is p Fresh y b h now = at_member_is (is_ascii_digit b) (is_quote b) (bare p.mark p.done && b == 0x3D)
    (bare p.mark p.done && b == 0x3F) p y b refl refl refl refl h now
after_part_is p (InNumber n) y b h now =
    in_number_is (is_ascii_digit b) (nat_lt largest_number (n * 10 + (b - 48))) n p y b refl refl h now
after_part_is p (InString q text) y b h now = in_string_is (b == q) q text p y b refl h now
after_part_is p (AfterString q text) y b h now =
    stop_is p y b h (rw now refl) (λ no_stop.
    refuses_byte p y b h.loose (rw (now, no_stop) refl)
    (λ mark done fresh. absurd (fresh_not_after p.current q text now fresh)))

-- so it is
pub next_is : (o : Open) (y : List ℕ) (b : ℕ) → IsByte b → SpellsOpen o y → SpellsNext (next o b) (y ++ b ∷ [])
next_is Nothing y b byte h = rw h (after_nothing_is (b == escape) b byte refl)
next_is Escape y b byte h = rw h (after_escape_is (b == bracket) b refl)
next_is (Within p) y b byte h = after_part_is p p.current y b h refl
