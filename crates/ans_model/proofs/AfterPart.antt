-- Which bytes may follow an unfinished sequence.
use Rattle.std.proofs.lemmas.Bool.{and_parts, both_ways}
use Rattle.std.proofs.Common.{◌≡◌, ◌+◌, ◌≢◌, ◌⊎◌, inl, inr, ℕ, suc, ◌<◌, ◌≤◌, Bool, true, false, ◌||◌, List, []}
use Rattle.std.proofs.Common.{◌∷◌, ◌++◌, length, refl, ap, ap₂, sym, ◌∙◌, arith, append_assoc, length-append}
use Rattle.std.proofs.lemmas.List.{append-nil}
use Rattle.std.proofs.Math.Seq.{take-append_seam}
use Rattle.std.proofs.lemmas.Str.Parse.{digits_value-take-le}
use Rattle.std.specs.List.{AllZip, AllByRecursion, join_with_byte, list_all}
use Rattle.std.specs.Char.{is_ascii_digit, is_ascii_alphabetic}
use Rattle.std.specs.Str.Parse.{digits_value}
use Rattle.ans_model.specs.Bytes.{escape, bracket, semicolon, largest_number, most_parameters}
use Rattle.ans_model.specs.Sequence.Spelling.{is_mark_byte, Member, Omitted, Number, Quoted, Raw, is_quote, mark_bytes}
use Rattle.ans_model.specs.declared.mark.Mark.TheVariants.{Unmarked}
use Rattle.ans_model.specs.Sequence.Spelling.{SpellsMember, Loose, Spells, IsInLimit, IsUnfinished, IsPrefixOfLoose}
use Rattle.ans_model.specs.Sequence.Spelling.{IsPrefixOfSpelling}
use Rattle.ans_model.specs.Inside.OpenPart.{Current, Fresh, InNumber, InString, AfterString, SpellsCurrent}
use Rattle.ans_model.specs.Inside.OpenPart.{IsCurrentInLimit, SpellsDone, Part, LoosePart, SpellsPart, member_of}
use Rattle.ans_model.specs.Inside.OpenPart.{lacks, members_of, raw_of, is_stop, may_follow}
use Rattle.ans_model.proofs.Spelling.{head_of, tail_of, one_run_before_stop, stop_no_digit, stop_no_quote}
use Rattle.ans_model.proofs.Spelling.{quote_no_digit, letter_no_semicolon, begins, first_or, first_byte}
use Rattle.ans_model.proofs.Spelling.{no_common_first_byte, one_quoted_text, one_member_in_front, letter_stops}
use Rattle.ans_model.proofs.Spelling.{semicolon_stops, Rest, Tail, digit_no_mark, quote_no_mark, begins_no_mark}
use Rattle.ans_model.proofs.Spelling.{tail_first, one_mark_in_front, in_front}

-- a member, and what follows it
pub record Next (member : Member) (bytes : List ℕ) : Type 0 where
  pub text : List ℕ
  pub stop : ℕ
  pub more : List ℕ
  pub spelled : SpellsMember member text
  pub stops : is_stop stop ≡ true
  pub whole : bytes ≡ text ++ stop ∷ more

-- members and a letter begin with the first member
rest_next : (n : Member) (ns : List Member) (l : ℕ) (x v : List ℕ) → is_ascii_alphabetic l ≡ true → Rest n ns l x v
    → Next n v
rest_next n [] l x v hl h = record {
  text = h.0;
  stop = l;
  more = x;
  spelled = h.1;
  stops = letter_stops l hl;
  whole =
      h.2;
}
rest_next n (m ∷ ms) l x v hl h = record {
  text = h.0;
  stop = semicolon;
  more = h.1;
  spelled = h.2;
  stops =
      semicolon_stops;
  whole = h.4;
}

-- what follows members that are done: the others
rest_after_done : (done : List Member) (m : Member) (ms : List Member) (l : ℕ) (x front v : List ℕ)
    → is_ascii_alphabetic l ≡ true → SpellsDone done front → Rest m ms l x (front ++ v)
    → (n : Member) × (ns : List Member) × (m ∷ ms ≡ done ++ n ∷ ns) × Rest n ns l x v
rest_after_done [] m ms l x front v hl hd h = (m, ms, refl, rw hd at h)
rest_after_done (d ∷ done) m [] l x front v hl hd h =
    let e : hd.0 ++ semicolon ∷ (hd.1 ++ v) ≡ h.0 ++ l ∷ x = sym (append_assoc hd.0 (semicolon ∷ hd.1) v)
    ∙ ap (λ (u : List ℕ). u ++ v) (sym hd.4) ∙ h.2 in
    let t = one_member_in_front d m hd.0 h.0 semicolon l (hd.1 ++ v) x hd.2 h.1 semicolon_stops (letter_stops l hl) e in
    absurd (letter_no_semicolon l hl (sym t.2))
rest_after_done (d ∷ done) m (m' ∷ ms) l x front v hl hd h =
    let e : hd.0 ++ semicolon ∷ (hd.1 ++ v) ≡ h.0 ++ semicolon ∷ h.1 =
    sym (append_assoc hd.0 (semicolon ∷ hd.1) v) ∙ ap (λ (u : List ℕ). u ++ v) (sym hd.4) ∙ h.4 in
    let t = one_member_in_front d m hd.0 h.0 semicolon semicolon
    (hd.1 ++ v) h.1 hd.2 h.2 semicolon_stops semicolon_stops e in
    let ih = rest_after_done done m' ms l x hd.1 v hl hd.3 (rw (← t.3) at h.3) in
    (ih.0, ih.1, ap₂ (λ (u : Member) (w : List Member). u ∷ w) (sym t.0) ih.2, ih.3)

-- a letter alone does not begin with a member that is done
done_no_letter : (d : Member) (done : List Member) (l : ℕ) (x front v : List ℕ) → is_ascii_alphabetic l ≡ true
    → SpellsDone (d ∷ done) front → front ++ v ≡ l ∷ x → ⊥
done_no_letter d done l x front v hl hd h =
    let e : hd.0 ++ semicolon ∷ (hd.1 ++ v) ≡ l ∷ x = sym (append_assoc hd.0 (semicolon ∷ hd.1) v)
    ∙ ap (λ (u : List ℕ). u ++ v) (sym hd.4) ∙ h in
    let t = one_member_in_front d Omitted hd.0 [] semicolon l (hd.1 ++ v) x hd.2 refl semicolon_stops
    (letter_stops l hl) e in
    letter_no_semicolon l hl (sym t.2)

-- What follows members that are done: nothing but the letter, if there are none; else members, and the letter.
pub tail_parts : (done ms : List Member) (l : ℕ) (x front v : List ℕ) → is_ascii_alphabetic l ≡ true
    → SpellsDone done front → Tail ms l x (front ++ v)
    → ((ms ≡ []) × (done ≡ []) × (v ≡ l ∷ x))
    ⊎ ((n : Member) × (ns : List Member) × (ms ≡ done ++ n ∷ ns) × Rest n ns l x v)
tail_parts [] [] l x front v hl hd h = inl (refl, refl, rw hd at h)
tail_parts (d ∷ done) [] l x front v hl hd h = absurd (done_no_letter d done l x front v hl hd h)
tail_parts [] (m ∷ ms) l x front v hl hd h = inr (rest_after_done [] m ms l x front v hl hd h.1)
tail_parts (d ∷ done) (m ∷ ms) l x front v hl hd h = inr (rest_after_done (d ∷ done) m ms l x front v hl hd h.1)

-- in both cases a member and what stands after it come next
pub tail_next : (done ms : List Member) (l : ℕ) (x front v : List ℕ) → is_ascii_alphabetic l ≡ true
    → SpellsDone done front → Tail ms l x (front ++ v) → (n : Member) × Next n v
tail_next done ms l x front v hl hd h =
    elim (tail_parts done ms l x front v hl hd h) [
      | inl w ↦
          (Omitted, record { text = []; stop = l; more = x; spelled = refl; stops = letter_stops l hl; whole = w.2 })
      | inr w ↦ (w.0, rest_next w.0 w.1 l x v hl w.3)
    ]

or_left : (a b : Bool) → a ≡ true → (a || b) ≡ true
or_left true b h = refl
or_left false b h = cc

or_right : (a b : Bool) → b ≡ true → (a || b) ≡ true
or_right true b h = refl
or_right false b h = h

-- a member may follow: a stop, a digit or a quote comes first
begins_follow : (n : Member) (c : ℕ) → begins n c ≡ true → may_follow Fresh c ≡ true
begins_follow Omitted c h = or_left (is_stop c) (is_ascii_digit c || is_quote c) h
begins_follow (Number n) c h = or_right (is_stop c) (is_ascii_digit c || is_quote c)
    (or_left (is_ascii_digit c) (is_quote c) h)
begins_follow (Quoted q text) c h = or_right (is_stop c) (is_ascii_digit c || is_quote c)
    (or_right (is_ascii_digit c) (is_quote c) h)

-- what a member begins with
first_of_next : (n : Member) (v : List ℕ) (h : Next n v) → begins n (first_or 0 v) ≡ true
first_of_next n v h = rw h.whole (first_byte n h.text h.stop h.more h.spelled h.stops)

-- a byte after digits goes on with them or may follow a number
number_next : (k : ℕ) (last : List ℕ) (b : ℕ) (z : List ℕ) (n : Member) (c : Bool) → is_ascii_digit b ≡ c
    → SpellsMember (Number k) last → Next n (last ++ b ∷ z) → is_stop b || c ≡ true
number_next k last b z n true e h g = or_right (is_stop b) true refl
number_next k [] b z n false e h g = absurd (omega (arith, h.0))
number_next k (v ∷ last) b z Omitted false e h g =
    absurd (no_common_first_byte is_stop is_ascii_digit stop_no_digit (v ∷ (last ++ b ∷ z)) (v ∷ (last ++ b ∷ z)) refl
    (first_of_next Omitted _ g) ((and_parts (is_ascii_digit v) (list_all is_ascii_digit last) h.1).0))
number_next k (v ∷ last) b z (Quoted q text) false e h g =
    absurd (no_common_first_byte is_quote is_ascii_digit quote_no_digit (v ∷ (last ++ b ∷ z)) (v ∷ (last ++ b ∷ z)) refl
    (first_of_next (Quoted q text) _ g) ((and_parts (is_ascii_digit v) (list_all is_ascii_digit last) h.1).0))
number_next k (v ∷ last) b z (Number j) false e h g =
    let t = one_run_before_stop is_ascii_digit (v ∷ last) g.text b g.stop z g.more h.1 g.spelled.1 e
    (stop_no_digit g.stop g.stops) g.whole in
    or_left (is_stop b) false (rw t.1 g.stops)

-- a byte after a string may follow it
string_next : (q : ℕ) (words last : List ℕ) (b : ℕ) (z : List ℕ) (n : Member) → SpellsMember (Quoted q words) last
    → Next n (last ++ b ∷ z) → is_stop b ≡ true
string_next q words last b z Omitted h g =
    absurd (no_common_first_byte is_stop is_quote stop_no_quote (last ++ b ∷ z) (last ++ b ∷ z) refl
    (first_of_next Omitted _ g)
    (rw h.2 h.0))
string_next q words last b z (Number j) h g =
    absurd (no_common_first_byte is_quote is_ascii_digit quote_no_digit (last ++ b ∷ z) (last ++ b ∷ z) refl
    (rw h.2 h.0)
    (first_of_next (Number j) _ g))
string_next q words last b z (Quoted r text) h g =
    let t = one_quoted_text q r words text last g.text (b ∷ z) (g.stop ∷ g.more) h g.spelled g.whole in
    rw (head_of t.3) g.stops

-- what there is of a member is followed by a byte that may follow it
pub current_next : (current : Current) (last : List ℕ) (b : ℕ) (z : List ℕ) (n : Member) → SpellsCurrent current last
    → Next n (last ++ b ∷ z) → may_follow current b ≡ true
current_next Fresh last b z n h g = begins_follow n b (rw h at (first_of_next n (last ++ b ∷ z) g))
current_next (InNumber k) last b z n h g = number_next k last b z n (is_ascii_digit b) refl h g
current_next (InString q words) last b z n h g = refl
current_next (AfterString q words) last b z n h g = string_next q words last b z n h g

-- what there is of a member, with the bytes that it lacks, spells it
pub spelled_with_lacking : (current : Current) (last : List ℕ) → SpellsCurrent current last
    → SpellsMember (member_of current) (last ++ lacks current)
spelled_with_lacking Fresh last h = rw h
spelled_with_lacking (InNumber n) last h = rw append-nil h
spelled_with_lacking (InString q text) last h = (h.0, h.1, ap (λ (v : List ℕ). v ++ q ∷ []) h.2)
spelled_with_lacking (AfterString q text) last h = rw append-nil h

-- members that are done, and one more, joined
done_texts : (done : List Member) (m : Member) (front last : List ℕ) → SpellsDone done front → SpellsMember m last
    → (t : List ℕ) × (ts : List (List ℕ)) × AllZip SpellsMember (done ++ m ∷ []) (t ∷ ts)
    × (front ++ last ≡ join_with_byte semicolon (t ∷ ts))
done_texts [] m front last hd h = (last, [], (h, tt), ap (λ (v : List ℕ). v ++ last) hd)
done_texts (d ∷ done) m front last hd h =
    let ih = done_texts done m hd.1 last hd.3 h in (
      hd.0,
      ih.0 ∷ ih.1,
      (hd.2, ih.2),
      ap (λ (v : List ℕ). v ++ last) hd.4 ∙ append_assoc hd.0 (semicolon ∷ hd.1) last
          ∙ ap (λ (v : List ℕ). hd.0 ++ semicolon ∷ v) ih.3,
    )

not_nil_append : (ms : List Member) (m : Member) → ms ++ m ∷ [] ≡ [] → ⊥
not_nil_append [] m e = cc
not_nil_append (n ∷ ms) m e = cc

-- two members or more are not one that is omitted
not_omitted : (d : Member) (done : List Member) (m : Member) → d ∷ (done ++ m ∷ []) ≢ Omitted ∷ []
not_omitted d done m e = not_nil_append done m (tail_of e)

-- The texts that a letter completes: those of members_of.
member_texts : (done : List Member) (current : Current) (front last : List ℕ) → SpellsDone done front
    → SpellsCurrent current last
    → (ts : List (List ℕ)) × AllZip SpellsMember (members_of done current) ts
    × (members_of done current ≢ Omitted ∷ []) × (front ++ (last ++ lacks current) ≡ join_with_byte semicolon ts)
member_texts [] Fresh front last hd h = ([], tt, (λ e. cc), rw (hd, h))
member_texts [] (InNumber n) front last hd h =
    let t = done_texts [] (Number n) front (last ++ []) hd (spelled_with_lacking (InNumber n) last h) in
    (t.0 ∷ t.1, t.2, (λ e. cc), t.3)
member_texts [] (InString q text) front last hd h =
    let t = done_texts [] (Quoted q text) front (last ++ q ∷ []) hd (spelled_with_lacking (InString q text) last h) in
    (t.0 ∷ t.1, t.2, (λ e. cc), t.3)
member_texts [] (AfterString q text) front last hd h =
    let t = done_texts [] (Quoted q text) front (last ++ []) hd (spelled_with_lacking (AfterString q text) last h) in
    (t.0 ∷ t.1, t.2, (λ e. cc), t.3)
member_texts (d ∷ done) current front last hd h =
    let t = done_texts (d ∷ done) (member_of current) front (last ++ lacks current) hd
    (spelled_with_lacking current last h) in
    (t.0 ∷ t.1, t.2, not_omitted d done (member_of current), t.3)

-- A letter after what is lacking completes a part.
pub letter_completes : (p : Part) (y : List ℕ) (l : ℕ) → LoosePart p y → is_ascii_alphabetic l ≡ true
    → Loose (raw_of p l) (y ++ (lacks p.current ++ l ∷ []))
letter_completes p y l h hl =
    let t = member_texts p.done p.current h.front h.last h.done h.current in
    record {
      texts = t.0;
      members = t.1;
      not_one_omitted = t.2;
      letter = hl;
      whole = ap (λ (v : List ℕ). v ++ (lacks p.current ++ l ∷ [])) h.whole
          ∙ ap (λ (v : List ℕ). escape ∷ bracket ∷ v)
          (append_assoc (mark_bytes p.mark) (h.front ++ h.last) (lacks p.current ++ l ∷ [])
          ∙ ap (λ (v : List ℕ). mark_bytes p.mark ++ v)
          (append_assoc h.front h.last (lacks p.current ++ l ∷ [])
          ∙ ap (λ (v : List ℕ). h.front ++ v) (sym (append_assoc h.last (lacks p.current) (l ∷ [])))
          ∙ sym (append_assoc h.front (h.last ++ lacks p.current) (l ∷ []))
          ∙ ap (λ (v : List ℕ). v ++ l ∷ []) t.3));
    }

-- members within the limits, and one more
pub limit_append : (done : List Member) (m : Member) → AllByRecursion IsInLimit done → IsInLimit m
    → AllByRecursion IsInLimit (done ++ m ∷ [])
limit_append [] m hs h = (h, tt)
limit_append (d ∷ done) m hs h = (hs.0, limit_append done m hs.1 h)

pub limit_member : (current : Current) → IsCurrentInLimit current → IsInLimit (member_of current)
limit_member Fresh h = tt
limit_member (InNumber n) h = h
limit_member (InString q text) h = tt
limit_member (AfterString q text) h = tt

limit_members : (done : List Member) (current : Current) → AllByRecursion IsInLimit done → IsCurrentInLimit current
    → AllByRecursion IsInLimit (members_of done current)
limit_members [] Fresh hs h = tt
limit_members [] (InNumber n) hs h = (h, tt)
limit_members [] (InString q text) hs h = (tt, tt)
limit_members [] (AfterString q text) hs h = (tt, tt)
limit_members (d ∷ done) current hs h = limit_append (d ∷ done) (member_of current) hs (limit_member current h)

-- with the last member there are at most sixteen
few_members : (done : List Member) (current : Current) → length done < most_parameters
    → length (members_of done current) ≤ most_parameters
few_members [] Fresh h = omega arith
few_members [] (InNumber n) h = omega arith
few_members [] (InString q text) h = omega arith
few_members [] (AfterString q text) h = omega arith
few_members (d ∷ done) current h = rw (length-append (d ∷ done) (member_of current ∷ [])) (omega arith)

-- a letter completes a part within the limits
pub letter_completes_in_limit : (p : Part) (y : List ℕ) (l : ℕ) → SpellsPart p y → is_ascii_alphabetic l ≡ true
    → Spells (raw_of p l) (y ++ (lacks p.current ++ l ∷ []))
letter_completes_in_limit p y l h hl = record {
  loose = letter_completes p y l h.loose hl;
  numbers = limit_members p.done p.current h.numbers h.last_number;
  count = few_members p.done p.current h.room;
}

-- some bytes are lacking
rest_nonempty : (c : Current) → 0 < length (lacks c ++ 0x6D ∷ [])
rest_nonempty Fresh = omega arith
rest_nonempty (InNumber n) = omega arith
rest_nonempty (InString q text) = omega arith
rest_nonempty (AfterString q text) = omega arith

-- Each part begins a spelling.
pub part_unfinished : (p : Part) (y : List ℕ) → SpellsPart p y → IsUnfinished y
part_unfinished p y h = record {
  raw = raw_of p 0x6D;
  rest = lacks p.current ++ 0x6D ∷ [];
  spelled = letter_completes_in_limit p y 0x6D h refl;
  begun = rw h.loose.whole (omega arith);
  more = rest_nonempty p.current;
}

-- each part begins a loose spelling
pub part_loose : (p : Part) (y : List ℕ) → LoosePart p y → IsPrefixOfLoose y
part_loose p y h = record {
  raw = raw_of p 0x6D;
  rest = lacks p.current ++ 0x6D ∷ [];
  spelled = letter_completes p y 0x6D h refl;
}

-- Only directly after `[` may a mark come.
abbrev pub IsUnmarkedThere : Part → ℕ → Type 0
IsUnmarkedThere p b = p.mark ≡ Unmarked → p.done ≡ [] → p.current ≡ Fresh → is_mark_byte b ≡ false

-- after the mark no second one stands
front_no_mark : (done : List Member) (current : Current) (front last w : List ℕ) → SpellsDone done front
    → SpellsCurrent current last → (done ≡ [] → current ≡ Fresh → is_mark_byte (first_or 0 w) ≡ false)
    → is_mark_byte (first_or 0 (front ++ (last ++ w))) ≡ false
front_no_mark [] Fresh front last w hd h f = rw (hd, h) (f refl refl)
front_no_mark [] (InNumber n) front [] w hd h f = absurd (omega (arith, h.0))
front_no_mark [] (InNumber n) front (v ∷ last) w hd h f = rw hd
    (digit_no_mark v (and_parts (is_ascii_digit v) (list_all is_ascii_digit last) h.1).0)
front_no_mark [] (InString q text) front last w hd h f = rw (hd, h.2) (quote_no_mark q h.0)
front_no_mark [] (AfterString q text) front last w hd h f = rw (hd, h.2) (quote_no_mark q h.0)
front_no_mark (d ∷ done) current front last w hd h f =
    let e : front ++ (last ++ w) ≡ hd.0 ++ semicolon ∷ (hd.1 ++ (last ++ w)) =
    ap (λ (v : List ℕ). v ++ (last ++ w)) hd.4 ∙ append_assoc hd.0 (semicolon ∷ hd.1) (last ++ w) in
    rw e (begins_no_mark d (first_or 0 (hd.0 ++ semicolon ∷ (hd.1 ++ (last ++ w))))
    (first_byte d hd.0 semicolon (hd.1 ++ (last ++ w)) hd.2 semicolon_stops))

-- a part and what follows it, in their order
part_whole : (p : Part) (y w : List ℕ) (h : LoosePart p y) → y ++ w ≡ escape ∷ bracket
    ∷ (mark_bytes p.mark ++ (h.front ++ (h.last ++ w)))
part_whole p y w h =
    ap (λ (v : List ℕ). v ++ w) h.whole
    ∙ ap (λ (v : List ℕ). escape ∷ bracket ∷ v)
    (append_assoc (mark_bytes p.mark) (h.front ++ h.last) w ∙ ap (λ (v : List ℕ). mark_bytes p.mark ++ v)
    (append_assoc h.front h.last w))

-- what a loose spelling that begins with the part is made of
pub record ContinuesPart (p : Part) (raw : Raw) (v : List ℕ) : Type 0 where
  pub mark : raw.mark ≡ p.mark
  pub letter : is_ascii_alphabetic raw.letter ≡ true
  pub tail : Tail raw.members raw.letter [] v

-- a loose spelling that begins with the part and a byte has the mark of the part and goes on so
pub loose_continues_part : (p : Part) (y : List ℕ) (b : ℕ) (z : List ℕ) (raw : Raw) (h : LoosePart p y)
    → IsUnmarkedThere p b
    → Loose raw (y ++ b ∷ z) → ContinuesPart p raw (h.front ++ (h.last ++ b ∷ z))
loose_continues_part p y b z raw h u s =
    let f = in_front raw (y ++ b ∷ z) [] s in
    let e : mark_bytes raw.mark ++ f.tail ≡ mark_bytes p.mark ++ (h.front ++ (h.last ++ b ∷ z)) =
    tail_of (tail_of (sym f.whole ∙ append-nil (y ++ b ∷ z) ∙ part_whole p y (b ∷ z) h)) in
    let m = one_mark_in_front raw.mark p.mark f.tail (h.front ++ (h.last ++ b ∷ z))
    (tail_first raw.members raw.letter [] f.tail f.letter f.tail_is)
    (λ un. front_no_mark p.done p.current h.front h.last (b ∷ z) h.done h.current (u un)) e in
    record { mark = m.0; letter = f.letter; tail = rw m.1 at f.tail_is }

-- A byte that may not follow is in no spelling.
pub refuses_byte : (p : Part) (y : List ℕ) (b : ℕ) → LoosePart p y → may_follow p.current b ≡ false
    → IsUnmarkedThere p b → ¬ IsPrefixOfLoose (y ++ b ∷ [])
refuses_byte p y b h f u s =
    let g = loose_continues_part p y b s.rest s.raw h u (rw append_assoc at s.spelled) in
    let n = tail_next p.done s.raw.members s.raw.letter [] h.front (h.last ++ b ∷ s.rest) g.letter h.done g.tail in
    let t = current_next p.current h.last b s.rest n.0 h.current n.1 in
    cc

-- a run before what fails the test is no longer than the run of a list that begins so
run_prefix : (p : ℕ → Bool) (a t : List ℕ) (c : ℕ) (z u : List ℕ) → list_all p a ≡ true → p c ≡ false
    → a ++ z ≡ t ++ c ∷ u → (w : List ℕ) × (t ≡ a ++ w)
run_prefix p [] t c z u ha hc e = (t, refl)
run_prefix p (v ∷ a) [] c z u ha hc e =
    let t : p v ≡ true = (and_parts (p v) (list_all p a) ha).0 in
    let f : p v ≡ false = ap p (head_of e) ∙ hc in
    absurd (both_ways (p v) f t)
run_prefix p (v ∷ a) (w ∷ t) c z u ha hc e =
    let ih = run_prefix p a t c z u (and_parts (p v) (list_all p a) ha).1 hc (tail_of e) in
    let same : v ≡ w = head_of e in
    (ih.0, ap₂ (λ (m : ℕ) (n : List ℕ). m ∷ n) (sym same) ih.1)

-- more digits make no smaller number
value_grows : (a w : List ℕ) → digits_value 10 a ≤ digits_value 10 (a ++ w)
value_grows a w =
    let h = digits_value-take-le 10 (a ++ w) (length a) (omega arith) in
    rw take-append_seam at h

-- digits at the front of a member are those of a number, at least as large
number_grows : (a : List ℕ) (z : List ℕ) (n : Member) → 0 < length a → list_all is_ascii_digit a ≡ true
    → Next n (a ++ z) → (k : ℕ) × (n ≡ Number k) × (digits_value 10 a ≤ k)
number_grows [] z n l ha g = absurd (omega (arith, l))
number_grows (v ∷ a) z Omitted l ha g =
    absurd (no_common_first_byte is_stop is_ascii_digit stop_no_digit (v ∷ (a ++ z)) (v ∷ (a ++ z)) refl
    (first_of_next Omitted _ g)
    (and_parts (is_ascii_digit v) (list_all is_ascii_digit a) ha).0)
number_grows (v ∷ a) z (Quoted q text) l ha g =
    absurd (no_common_first_byte is_quote is_ascii_digit quote_no_digit (v ∷ (a ++ z)) (v ∷ (a ++ z)) refl
    (first_of_next (Quoted q text) _ g) (and_parts (is_ascii_digit v) (list_all is_ascii_digit a) ha).0)
number_grows (v ∷ a) z (Number k) l ha g =
    let t = run_prefix is_ascii_digit (v ∷ a) g.text g.stop z g.more ha (stop_no_digit g.stop g.stops) g.whole in
    let value : digits_value 10 ((v ∷ a) ++ t.0) ≡ k = ap (digits_value 10) (sym t.1) ∙ g.spelled.2 in
    (k, refl, omega (arith, value_grows (v ∷ a) t.0, value))

-- a member among members within the limits is within them
limit_at : (done : List Member) (n : Member) (ns : List Member) → AllByRecursion IsInLimit (done ++ n ∷ ns)
    → IsInLimit n
limit_at [] n ns h = h.0
limit_at (d ∷ done) n ns h = limit_at done n ns h.1

pub all_append : (p : ℕ → Bool) (a : List ℕ) (b : ℕ) → list_all p a ≡ true → p b ≡ true
    → list_all p (a ++ b ∷ []) ≡ true
all_append p [] b ha hb = rw hb
all_append p (v ∷ a) b ha hb =
    let t = and_parts (p v) (list_all p a) ha in
    let ih = all_append p a b t.1 hb in
    rw (t.0, ih)

-- a letter may follow a member that is omitted
letter_next : (l : ℕ) (v : List ℕ) → is_ascii_alphabetic l ≡ true → v ≡ l ∷ [] → Next Omitted v
letter_next l v hl e = record { text = []; stop = l; more = []; spelled = refl; stops = letter_stops l hl; whole = e }

-- a number that is too large is not within the limit
large_not_in_limit : (n : Member) (k v : ℕ) → n ≡ Number k → largest_number < v → v ≤ k → IsInLimit n → ⊥
large_not_in_limit n k v e l g h =
    let within : IsInLimit (Number k) = rw e at h in
    omega arith

-- Digits that make a number above 255 are in no spelling.
pub refuses_number : (p : Part) (y : List ℕ) (k b : ℕ) (h : LoosePart p y) → p.current ≡ InNumber k
    → is_ascii_digit b ≡ true → largest_number < digits_value 10 (h.last ++ b ∷ []) → ¬ IsPrefixOfSpelling (y ++ b ∷ [])
refuses_number p y k b h c d large s =
    let g = loose_continues_part p y b s.rest s.raw h (λ _ _ _. digit_no_mark b d)
    (rw append_assoc at s.spelled.loose) in
    let cur : SpellsCurrent (InNumber k) h.last = rw c at h.current in
    let digits : list_all is_ascii_digit (h.last ++ b ∷ []) ≡ true = all_append is_ascii_digit h.last b cur.1 d in
    let some : 0 < length (h.last ++ b ∷ []) = omega (arith, length-append h.last (b ∷ [])) in
    elim (tail_parts p.done s.raw.members s.raw.letter [] h.front (h.last ++ b ∷ s.rest) g.letter h.done g.tail) [
      | inl w ↦
          let t = number_grows (h.last ++ b ∷ []) s.rest Omitted some digits
          (rw append_assoc (letter_next s.raw.letter (h.last ++ b ∷ s.rest) g.letter w.2)) in
          cc (t.1)
      | inr w ↦
          let t = number_grows (h.last ++ b ∷ []) s.rest w.0 some digits
          (rw append_assoc (rest_next w.0 w.1 s.raw.letter [] (h.last ++ b ∷ s.rest) g.letter w.3)) in
          large_not_in_limit w.0 t.0 (digits_value 10 (h.last ++ b ∷ [])) t.1 large t.2
          (limit_at p.done w.0 w.1 (rw w.2 at s.spelled.numbers))
    ]

-- one more member is done where a `;` comes
pub done_more : (done : List Member) (m : Member) (front last : List ℕ) → SpellsDone done front → SpellsMember m last
    → SpellsDone (done ++ m ∷ []) (front ++ (last ++ semicolon ∷ []))
done_more [] m front last hd h = rw hd (last, [], h, refl, refl)
done_more (d ∷ done) m front last hd h = (
  hd.0,
  hd.1 ++ (last ++ semicolon ∷ []),
  hd.2,
  done_more done m hd.1 last hd.3 h,
  ap (λ (v : List ℕ). v ++ (last ++ semicolon ∷ [])) hd.4 ∙ append_assoc hd.0 (semicolon ∷ hd.1)
      (last ++ semicolon ∷ []),
)

-- members and one more are longer
long_members : (done : List Member) (n : Member) (ns : List Member) → suc (length done) ≤ length (done ++ n ∷ ns)
long_members done n ns = rw (length-append done (n ∷ ns)) (omega arith)

-- No spelling has a `;` after the sixteenth member.
pub refuses_count : (p : Part) (y : List ℕ) (m : Member) (h : LoosePart p y) → SpellsMember m h.last
    → length p.done + 1 ≡ most_parameters → ¬ IsPrefixOfSpelling (y ++ semicolon ∷ [])
refuses_count p y m h hm len s =
    let g = loose_continues_part p y semicolon s.rest s.raw h (λ _ _ _. refl) (rw append_assoc at s.spelled.loose) in
    let e : h.front ++ (h.last ++ semicolon ∷ s.rest) ≡ (h.front ++ (h.last ++ semicolon ∷ [])) ++ s.rest =
    ap (λ (v : List ℕ). h.front ++ v) (sym (append_assoc h.last (semicolon ∷ []) s.rest))
    ∙ sym (append_assoc h.front (h.last ++ semicolon ∷ []) s.rest) in
    let t : Tail s.raw.members s.raw.letter [] ((h.front ++ (h.last ++ semicolon ∷ [])) ++ s.rest) = rw e at g.tail in
    let count : length s.raw.members ≤ most_parameters = s.spelled.count in
    elim (tail_parts (p.done ++ m ∷ []) s.raw.members s.raw.letter []
    (h.front ++ (h.last ++ semicolon ∷ [])) s.rest g.letter (done_more p.done m h.front h.last h.done hm) t) [
      | inl w ↦ not_nil_append p.done m w.1
      | inr w ↦
          let n : length s.raw.members ≡ length ((p.done ++ m ∷ []) ++ w.0 ∷ w.1) = ap length w.2 in
          omega (arith, n, long_members (p.done ++ m ∷ []) w.0 w.1, length-append p.done (m ∷ []))
    ]
