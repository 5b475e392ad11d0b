-- What passes still passes without the line ends at its end.
use Rattle.std.proofs.Common.{◌≡◌, ℕ, zero, suc, ◌+◌, ◌-◌, ◌<◌, ◌≤◌, true, false, List, [], ◌∷◌, ◌++◌, length}
use Rattle.std.proofs.Common.{take, drop, get_or, refl, ap, sym, subst, ◌∙◌, inl, inr, arith, append_assoc}
use Rattle.std.proofs.Common.{length-append}
use Rattle.std.proofs.Common.{length-drop}
use Rattle.std.proofs.Math.Seq.{take-suc}
use Rattle.std.proofs.lemmas.Bool.{cases_Bool}
use Rattle.std.proofs.lemmas.Grind.{common_steps}
use Rattle.std.proofs.lemmas.List.{append_cancel_left, get_or-drop}
use Rattle.std.proofs.lemmas.List.Folds.{list_all_at}
use Rattle.std.specs.Prelude.{IsTrue}
use Rattle.std.specs.Char.{is_ascii_alphabetic}
use Rattle.std.specs.List.{AllZip, concat, join_with_byte, list_all}
use Rattle.ans_model.specs.Bytes.{bracket, escape, semicolon}
use Rattle.ans_model.specs.Sequence.Reads.{Reads, SpellsToken}
use Rattle.ans_model.specs.Sequence.Spelling.{Loose, Raw, mark_bytes}
use Rattle.ans_model.specs.Sequence.TokenKind.{TokenKind}
use Rattle.ans_model.specs.Screen.State.{Size}
use Rattle.ans_model.specs.Screen.StartClass.{all_known}
use Rattle.ans_model.specs.Verdict.Good.{IsGood}
use Rattle.ans_model.specs.Verdict.TokenFault.{IsClean}
use Rattle.ans_model.proofs.Reading.{one_begins_the_other}
use Rattle.ans_model.proofs.Spelling.{head_of, tail_of}
use Rattle.ans_mend.specs.LastEnds.{FrontPasses, is_line_end}
use Rattle.ans_pens.proofs.CleanSteps.{clean_front}
use Rattle.ans_pens.proofs.MoreLines.{clean_is_good, good_is_clean}

-- ---- how a token ends
same_last : (xs ys : List ℕ) (a b : ℕ) → xs ++ a ∷ [] ≡ ys ++ b ∷ [] → a ≡ b
same_last [] [] a b e = head_of e
same_last [] (y ∷ ys) a b e =
    let none : 0 ≡ length (ys ++ b ∷ []) = ap length (tail_of e) in
    absurd (omega (arith, none, length-append ys (b ∷ [])))
same_last (x ∷ xs) [] a b e =
    let none : length (xs ++ a ∷ []) ≡ 0 = ap length (tail_of e) in
    absurd (omega (arith, none, length-append xs (a ∷ [])))
same_last (x ∷ xs) (y ∷ ys) a b e = same_last xs ys a b (tail_of e)

letter_no_line_end : (letter : ℕ) → IsTrue (is_ascii_alphabetic letter) → is_line_end letter ≡ true → ⊥
letter_no_line_end letter alphabetic ends = grind (arith, common_steps)

-- a sequence ends in its letter
sequence_ends : (raw : Raw) (text front : List ℕ) (b : ℕ) → Loose raw text → front ++ b ∷ [] ≡ text
    → is_line_end b ≡ true → ⊥
sequence_ends raw text front b h e ends =
    let joined : List ℕ = join_with_byte semicolon h.texts in
    let last : List ℕ = raw.letter ∷ [] in
    let before : List ℕ = escape ∷ bracket ∷ (mark_bytes raw.mark ++ joined) in
    let whole : text ≡ before ++ last =
    h.whole ∙ ap (λ (v : List ℕ). escape ∷ bracket ∷ v) (sym (append_assoc (mark_bytes raw.mark) joined last)) in
    let same : b ≡ raw.letter = same_last front before b raw.letter (e ∙ whole) in
    letter_no_line_end raw.letter h.letter (subst (λ (v : ℕ). is_line_end v ≡ true) same ends)

-- so of a token that ends in a line feed or a return that is all
alone : (t : TokenKind) (text front : List ℕ) (b : ℕ) → SpellsToken t text → front ++ b ∷ [] ≡ text
    → is_line_end b ≡ true → front ≡ []
alone t text [] b h e ends = refl
alone t text (x ∷ front) b (inl h) e ends =
    let more : front ++ b ∷ [] ≡ [] = tail_of (e ∙ h.whole) in
    let none : length (front ++ b ∷ []) ≡ 0 = ap length more in
    absurd (omega (arith, none, length-append front (b ∷ [])))
alone t text (x ∷ front) b (inr h) e ends =
    absurd (sequence_ends h.raw text (x ∷ front) b h.spelled.loose e ends)

-- ---- what is read before it
-- the first of the tokens are those of the front
record IsReadFirst (front : List ℕ) (tokens : List TokenKind) : Type 0 where
  first : List TokenKind
  later : List TokenKind
  whole : tokens ≡ first ++ later
  reads : Reads front first

nothing_read : (tokens : List TokenKind) → IsReadFirst [] tokens
nothing_read tokens = record {
  first = [];
  later = tokens;
  whole = refl;
  reads = ([], record { each = tt; whole = refl });
}

one_more : (t : TokenKind) (text front : List ℕ) (tokens : List TokenKind) → SpellsToken t text
    → IsReadFirst front tokens → IsReadFirst (text ++ front) (t ∷ tokens)
one_more t text front tokens spells h = record {
  first = t ∷ h.first;
  later = h.later;
  whole = ap (λ (v : List TokenKind). t ∷ v) h.whole;
  reads = (
    text ∷ h.reads.0,
    record {
      each = (spells, h.reads.1.each);
      whole = ap (λ (v : List ℕ). text ++ v) h.reads.1.whole;
    },
  );
}

read_before : (tokens : List TokenKind) (texts : List (List ℕ)) (front : List ℕ) (b : ℕ)
    → AllZip SpellsToken tokens texts → front ++ b ∷ [] ≡ concat texts → is_line_end b ≡ true
    → IsReadFirst front tokens
read_before [] [] front b each e ends =
    let none : length (front ++ b ∷ []) ≡ 0 = ap length e in
    absurd (omega (arith, none, length-append front (b ∷ [])))
read_before [] (x ∷ texts) front b each e ends = absurd each
read_before (t ∷ tokens) [] front b each e ends = absurd each
read_before (t ∷ tokens) (x ∷ texts) front b each e ends =
    elim (one_begins_the_other front x (b ∷ []) (concat texts) e) [
      | inl w ↦
          let rest : w.0 ++ b ∷ [] ≡ concat texts =
          append_cancel_left x (w.0 ++ b ∷ []) (concat texts)
          (sym (append_assoc x w.0 (b ∷ [])) ∙ ap (λ (v : List ℕ). v ++ b ∷ []) (sym w.1) ∙ e) in
          subst (λ (v : List ℕ). IsReadFirst v (t ∷ tokens)) (sym w.1)
          (one_more t x w.0 tokens each.0 (read_before tokens texts w.0 b each.1 rest ends))
      | inr w ↦
          let end : b ∷ [] ≡ w.0 ∷ (w.1 ++ concat texts) = w.3 in
          let text : front ++ b ∷ [] ≡ x = last_of w.0 w.1 (head_of end) (tail_of end) ∙ sym w.2 in
          subst (λ (v : List ℕ). IsReadFirst v (t ∷ tokens)) (sym (alone t x front b each.0 text ends))
          (nothing_read (t ∷ tokens))
    ]
  where
    last_of : (c : ℕ) (w : List ℕ) → b ≡ c → [] ≡ w ++ concat texts → front ++ b ∷ [] ≡ front ++ c ∷ w
    last_of c [] same none = ap (λ (v : ℕ). front ++ v ∷ []) same
    last_of c (x ∷ w) same none = absurd (cc)

-- ---- what passes before it
good_before : (z : Size) (front : List ℕ) (b : ℕ) → is_line_end b ≡ true → IsGood z all_known (front ++ b ∷ [])
    → IsGood z all_known front
good_before z front b ends good =
    let reads = good.1.reads in
    let h = read_before good.1.tokens reads.0 front b reads.1.each reads.1.whole ends in
    let clean : IsClean z all_known (h.first ++ h.later) =
    subst (IsClean z all_known) h.whole (good_is_clean z.width z.lines (front ++ b ∷ []) good) in
    clean_is_good z.width z.lines front h.first good.1.size.some_columns good.1.size.some_lines h.reads
    (clean_front z all_known h.first h.later clean)

-- the bytes from an offset on are line feeds and returns
pub end_from : (bytes : List ℕ) (from k : ℕ) → list_all is_line_end (drop from bytes) ≡ true → from ≤ k
    → k < length bytes → is_line_end (get_or bytes k 0) ≡ true
end_from bytes from k ends le lt = elim (cases_Bool (is_line_end (get_or bytes k 0))) [
  | inl ends_it ↦ ends_it
  | inr other ↦
      let there : get_or (drop from bytes) (k - from) 0 ≡ get_or bytes k 0 =
      get_or-drop from bytes (k - from) 0 ∙ ap (λ (v : ℕ). get_or bytes v 0) (omega (arith, le)) in
      let not_all : list_all is_line_end (drop from bytes) ≡ false =
      list_all_at is_line_end (drop from bytes) (k - from) 0 (omega (arith, le, lt, length-drop from bytes))
      (ap is_line_end there ∙ other) in
      absurd (cc)
]

passes_before : (z : Size) (bytes : List ℕ) (from m more : ℕ) → list_all is_line_end (drop from bytes) ≡ true
    → from ≤ m → m + more ≤ length bytes → FrontPasses z bytes (m + more) → FrontPasses z bytes m
passes_before z bytes from m zero ends le within passes =
    let same : m + 0 ≡ m = omega arith in subst (FrontPasses z bytes) same passes
passes_before z bytes from m (suc more) ends le within passes =
    let k : ℕ = m + more in
    let lt : k < length bytes = omega (arith, within) in
    let same : m + suc more ≡ suc (m + more) = omega arith in
    let whole : FrontPasses z bytes (suc k) = subst (FrontPasses z bytes) same passes in
    let front : IsGood z all_known (take k bytes ++ get_or bytes k 0 ∷ []) =
    subst (IsGood z all_known) (take-suc bytes k 0 lt) whole in
    passes_before z bytes from m more ends le (omega (arith, within))
    (good_before z (take k bytes) (get_or bytes k 0)
    (end_from bytes from k ends (omega (arith, le)) lt) front)

-- it passes with fewer of the line ends at its end
pub passes_with_fewer : (z : Size) (bytes : List ℕ) (from m n : ℕ) → list_all is_line_end (drop from bytes) ≡ true
    → from ≤ m → m ≤ n → n ≤ length bytes → FrontPasses z bytes n → FrontPasses z bytes m
passes_with_fewer z bytes from m n ends le order within passes =
    let up : n ≡ m + (n - m) = omega (arith, order) in
    passes_before z bytes from m (n - m) ends le (omega (arith, within, order))
    (subst (FrontPasses z bytes) up passes)
