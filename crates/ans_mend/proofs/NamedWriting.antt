-- Names are written from sequence to sequence, before the bytes that are still to be read.
use Rattle.std.proofs.Common.{◌≡◌, ℕ, ◌+◌, ◌-◌, ◌≤◌, Bool, true, false, List, [], ◌∷◌, ◌++◌, length, take, drop}
use Rattle.std.proofs.Common.{refl, sym, ap, ap₂, ◌∙◌, arith, subst, append_assoc, length-append, length-drop}
use Rattle.std.proofs.Common.{append-nil}
use Rattle.std.specs.List.{concat}
use Rattle.std.proofs.lemmas.List.{drop-drop, length-take-le, take-append-drop, take-take, drop-take}
use Rattle.ans_model.specs.Sequence.TokenKind.{TokenKind}
use Rattle.ans_model.specs.Sequence.Reads.{Reads, ReadsAs}
use Rattle.ans_players.specs.Names.{Names, are_both}
use Rattle.ans_players.specs.Situations.{Spelled, spelled}
use Rattle.ans_tokens.proofs.Scanning.{nothing_left, split_reading}
use Rattle.ans_kinds.proofs.KindsFound.{spelled_behind}
use Rattle.ans_mend.specs.NamedColours.{left_by, missing_numbers, named_content, named_sequence, named_text}
use Rattle.ans_mend.specs.NamedColours.{names_behind_token, put_by, to_zero, way_of}
use Rattle.ans_mend.specs.NameSearch.{IsNamedFirst, NoneIsNamed, bytes_of}
use Rattle.ans_mend.specs.declared.name_search.NamingPlace.{NamingPlace}
use Rattle.ans_mend.specs.declared.naming.Way.{Way}
use Rattle.ans_mend.specs.declared.naming.Way.TheVariants.{Within, After, Between}
use Rattle.ans_mend.proofs.SearchSteps.{spelled_bytes, texts_long}

-- ---- naming takes no byte away
put_covers : (way : Way) (names rest : List ℕ) → length rest ≤ length (put_by way names ++ left_by way rest)
put_covers Within names rest = omega (arith, length-append (put_by Within names) rest)
put_covers After names rest = omega (arith, length-append (put_by After names) rest)
put_covers Between names rest =
    let some : 1 ≤ length (put_by Between names) = omega arith in
    let sum = length-append (put_by Between names) (drop 1 rest) in
    omega (arith, some, sum, length-drop 1 rest)

text_covers : (names text : List ℕ) (front : List ℕ)
    → length text ≤ length (named_text names front (drop (length front) text))
text_covers names text front =
    let rest : List ℕ = drop (length front) text in
    let way : Way = way_of names front rest in
    let covers = put_covers way names rest in
    let sum = length-append front (put_by way names ++ left_by way rest) in
    omega (arith, covers, sum, length-drop (length front) text)

sequence_covers : (n : Names) (x : Spelled) → length x.text ≤ length (named_sequence n x)
sequence_covers n x = go (are_both n) refl
  where
    go : (both : Bool) → are_both n ≡ both → length x.text ≤ length (named_sequence n x)
    go true is = rw is (omega arith)
    go false is = rw is (text_covers (missing_numbers n) x.text (to_zero x))

pub named_covers : (xs : List Spelled) → length (bytes_of xs) ≤ length (named_content xs)
named_covers [] = omega arith
named_covers (x ∷ xs) =
    let later = named_covers xs in
    let one = sequence_covers (names_behind_token x xs) x in
    omega (
      arith,
      later,
      one,
      length-append x.text (bytes_of xs),
      length-append (named_sequence (names_behind_token x xs) x) (named_content xs),
    )

pub reading_covers : (bytes : List ℕ) (tokens : List TokenKind) (texts : List (List ℕ)) → ReadsAs bytes tokens texts
    → length bytes ≤ length (named_content (spelled tokens texts))
reading_covers bytes tokens texts reads =
    let covers = named_covers (spelled tokens texts) in
    let same : length (bytes_of (spelled tokens texts)) ≡ length bytes =
    ap length (spelled_bytes tokens texts (texts_long bytes tokens texts reads) ∙ sym reads.whole) in
    omega (arith, covers, same)

-- ---- one reading
pub same_texts : (bytes : List ℕ) (ts us : List TokenKind) (xs ys : List (List ℕ)) → ReadsAs bytes ts xs
    → ReadsAs bytes us ys → spelled us ys ≡ spelled ts xs
same_texts bytes ts us xs ys h g =
    let s = split_reading ts us xs ys [] h.each g.each (append-nil (concat xs) ∙ sym h.whole ∙ g.whole) in
    let none = nothing_left s.later s.later_texts s.reads in
    ap₂ spelled (s.tokens_are ∙ ap (λ (v : List TokenKind). ts ++ v) none.0 ∙ append-nil ts)
    (s.texts_are ∙ ap (λ (v : List (List ℕ)). xs ++ v) none.1 ∙ append-nil xs)

-- ---- from turn to turn
-- what is read of the bytes between two offsets goes on so
pub record GoesOn (start memory : List ℕ) (end written read : ℕ) (named : List ℕ) : Type 0 where
  pub tokens : List TokenKind
  pub texts : List (List ℕ)
  pub reads : ReadsAs (take (end - read) (drop read start)) tokens texts
  pub content : take written memory ++ named_content (spelled tokens texts) ≡ named

module _ (start memory : List ℕ) (end written read : ℕ) (named : List ℕ)
    (h : GoesOn start memory end written read named)
    (g : NamingPlace) (f : IsNamedFirst (take (end - read) (drop read memory)) g) (order : read ≤ end)
    (within : end ≤ length start) (same : drop read memory ≡ drop read start) (written_in : written ≤ length memory)
    (long : length named ≡ end) where
  abbrev bytes : List ℕ
  bytes = take (end - read) (drop read start)

  first : IsNamedFirst (take (end - read) (drop read start)) g
  first = subst (λ (v : List ℕ). IsNamedFirst (take (end - read) v) g) same f

  bytes_long : length bytes ≡ end - read
  bytes_long =
      length-take-le (end - read) (drop read start) (rw (length-drop read start) (omega (arith, order, within)))

  split : (later : List TokenKind) × (later_texts : List (List ℕ))
      × (spelled h.tokens h.texts ≡ spelled first.tokens first.texts ++ spelled later later_texts)
      × ReadsAs (drop g.end bytes) later later_texts
  split =
      let whole : concat first.texts ++ drop g.end bytes ≡ concat h.texts =
      ap (λ (v : List ℕ). v ++ drop g.end bytes) (sym first.reads.whole) ∙ take-append-drop g.end bytes
      ∙ h.reads.whole in
      let s = split_reading first.tokens h.tokens first.texts h.texts (drop g.end bytes) first.reads.each h.reads.each
      whole in (
        s.later,
        s.later_texts,
        ap₂ spelled s.tokens_are s.texts_are ∙ spelled_behind first.tokens s.later first.texts s.later_texts
            (texts_long _ first.tokens first.texts first.reads),
        s.reads,
      )

  abbrev later : List Spelled
  later = spelled split.0 split.1

  rest_there : drop g.end bytes ≡ take (end - (read + g.end)) (drop (read + g.end) start)
  rest_there =
      let within = first.within in
      let sum : end - read ≡ g.end + (end - (read + g.end)) = omega (arith, within, bytes_long, order) in
      ap (λ (v : ℕ). drop g.end (take v (drop read start))) sum
      ∙ drop-take g.end (end - (read + g.end)) (drop read start)
      ∙ ap (take (end - (read + g.end))) (drop-drop g.end read start ∙ ap (λ (v : ℕ). drop v start) (omega arith))

  parts : named_content (spelled h.tokens h.texts)
      ≡ take g.zero bytes ++ (g.put.now ++ (take (g.end - g.rest) (drop g.rest bytes) ++ named_content later))
  parts = ap named_content split.2 ∙ first.content later

  -- what is written then ends where what stays is still to be moved, at the latest
  pub written_room : written + g.zero + length g.put.now ≤ read + g.rest
  written_room =
      let covers = reading_covers (drop g.end bytes) split.0 split.1 split.3 in
      let left : length (drop g.end bytes) ≡ end - read - g.end =
      length-drop g.end bytes ∙ ap (λ (v : ℕ). v - g.end) bytes_long in
      let z = first.zero in
      let r = first.rest in
      let w = first.within in
      let front : length (take g.zero bytes) ≡ g.zero =
      length-take-le g.zero bytes (omega (arith, z, r, w)) in
      let rest : length (take (g.end - g.rest) (drop g.rest bytes)) ≡ g.end - g.rest =
      length-take-le (g.end - g.rest) (drop g.rest bytes) (rw (length-drop g.rest bytes) (omega (arith, r, w))) in
      let total = ap length h.content ∙ long in
      let sum = ap length parts in
      let front_long : length (take written memory) ≡ written = length-take-le written memory written_in in
      omega (
        arith,
        covers,
        left,
        front,
        rest,
        total,
        sum,
        front_long,
        z,
        r,
        w,
        bytes_long,
        order,
        length-append (take written memory) (named_content (spelled h.tokens h.texts)),
        length-append (take g.zero bytes)
            (g.put.now ++ (take (g.end - g.rest) (drop g.rest bytes) ++ named_content later)),
        length-append g.put.now (take (g.end - g.rest) (drop g.rest bytes) ++ named_content later),
        length-append (take (g.end - g.rest) (drop g.rest bytes)) (named_content later),
      )

  pub end_room : read + g.end ≤ end
  end_room = let w = first.within in omega (arith, w, bytes_long, order)

  pub goes_further : (once twice new : List ℕ) (first_count second_count third_count : ℕ)
      → take first_count once ≡ take written memory ++ take g.zero (drop read memory)
      → take second_count twice ≡ take first_count once ++ g.put.now
      → take third_count new ≡ take second_count twice ++ take (g.end - g.rest) (drop (read + g.rest) twice)
      → drop (read + g.rest) twice ≡ drop (read + g.rest) memory
      → GoesOn start new end third_count (read + g.end) named
  goes_further once twice new first_count second_count third_count one two three kept =
      let z = first.zero in
      let r = first.rest in
      let w = first.within in
      let front : take g.zero (drop read memory) ≡ take g.zero bytes =
      ap (take g.zero) same ∙ sym (take-take g.zero (end - read) (drop read start)
      (omega (arith, z, r, w, bytes_long))) in
      let rest : take (g.end - g.rest) (drop (read + g.rest) twice) ≡ take (g.end - g.rest) (drop g.rest bytes) =
      ap (take (g.end - g.rest)) (kept ∙ ap (λ (v : ℕ). drop v memory) (omega arith)
      ∙ sym (drop-drop g.rest read memory)
      ∙ ap (drop g.rest) same)
      ∙ sym (take-take (g.end - g.rest) (end - read - g.rest) (drop g.rest (drop read start))
      (omega (arith, r, w, bytes_long)))
      ∙ ap (take (g.end - g.rest)) (sym (drop-take g.rest (end - read - g.rest) (drop read start))
      ∙ ap (λ (v : ℕ). drop g.rest (take v (drop read start))) (omega (arith, r, w, bytes_long))) in
      record {
        tokens = split.0;
        texts = split.1;
        reads = subst (λ (v : List ℕ). ReadsAs v split.0 split.1) rest_there split.3;
        content =
            ap (λ (v : List ℕ). v ++ named_content later) (three
            ∙ ap₂ (λ (v x : List ℕ). v ++ x) (two ∙ ap (λ (v : List ℕ). v ++ g.put.now)
            (one ∙ ap (λ (v : List ℕ). take written memory ++ v) front)) rest)
            ∙ regrouped (take written memory) (take g.zero bytes) g.put.now (take (g.end - g.rest) (drop g.rest bytes))
            (named_content later)
            ∙ ap (λ (v : List ℕ). take written memory ++ v) (sym parts) ∙ h.content;
      }
    where
      regrouped : (a b p c d : List ℕ) → (((a ++ b) ++ p) ++ c) ++ d ≡ a ++ (b ++ (p ++ (c ++ d)))
      regrouped a b p c d =
          append_assoc ((a ++ b) ++ p) c d ∙ append_assoc (a ++ b) p (c ++ d) ∙ append_assoc a b (p ++ (c ++ d))

-- ---- in the end
module _ (start memory : List ℕ) (end written read : ℕ) (named : List ℕ)
    (h : GoesOn start memory end written read named)
    (order : read ≤ end) (within : end ≤ length start) (same : drop read memory ≡ drop read start)
    (written_in : written ≤ length memory) (long : length named ≡ end) where
  -- nothing is missing in what is left
  pub stays_whole : NoneIsNamed (take (end - read) (drop read memory))
      → take written memory ++ take (end - read) (drop read memory) ≡ named
  stays_whole f =
      let none : NoneIsNamed (take (end - read) (drop read start)) =
      subst (λ (v : List ℕ). NoneIsNamed (take (end - read) v)) same f in
      ap (λ (v : List ℕ). take written memory ++ v)
      (ap (take (end - read)) same ∙ sym none.content
      ∙ ap named_content (sym (same_texts _ none.tokens h.tokens none.texts h.texts none.reads h.reads)))
      ∙ h.content

  pub read_on : ((tokens : List TokenKind) → ¬ Reads (take (end - read) (drop read memory)) tokens) → ⊥
  read_on none =
      none h.tokens (h.texts, subst (λ (v : List ℕ). ReadsAs (take (end - read) v) h.tokens h.texts) (sym same) h.reads)

  pub written_order : written ≤ read
  written_order =
      let covers = reading_covers _ h.tokens h.texts h.reads in
      let bytes_long : length (take (end - read) (drop read start)) ≡ end - read =
      length-take-le (end - read) (drop read start) (rw (length-drop read start) (omega (arith, order, within))) in
      let total = ap length h.content ∙ long in
      let front_long : length (take written memory) ≡ written = length-take-le written memory written_in in
      omega (
        arith,
        covers,
        bytes_long,
        total,
        front_long,
        order,
        length-append (take written memory) (named_content (spelled h.tokens h.texts)),
      )
