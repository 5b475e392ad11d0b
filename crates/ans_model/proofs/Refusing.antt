-- What the reading refuses after the same bytes has one cause.
use Rattle.std.proofs.Common.{◌≡◌, inl, inr, ℕ, true, List, [], ◌∷◌, ◌++◌, ap, ap₂, sym, ◌∙◌, subst₂, arith}
use Rattle.std.proofs.Common.{append_assoc, Err, Result}
use Rattle.std.proofs.lemmas.List.{append_cancel_left, append-nil}
use Rattle.std.proofs.lemmas.Bool.Decides.{nat_tests}
use Rattle.std.specs.Char.{is_ascii_digit}
use Rattle.ans_model.specs.Sequence.TokenKind.{TokenKind}
use Rattle.ans_model.specs.Bytes.{semicolon}
use Rattle.ans_model.specs.declared.fault.Cause.{Cause}
use Rattle.ans_model.specs.Sequence.Spelling.{IsUnfinished}
use Rattle.ans_model.specs.Sequence.Meaning.{meaning}
use Rattle.ans_model.specs.Verdict.FirstFault.{IsWhy, IsBroken, IsRefused}
use Rattle.ans_model.proofs.Spelling.{head_of, one_spelling_in_front}
use Rattle.ans_model.proofs.Reading.{one_begins_the_other, broken_whole, spelled_broken, spelled_no_front}

-- an unfinished part does not begin with what is broken
unfinished_broken : (part text w : List ℕ) (cause : Cause) → IsUnfinished part → IsBroken text cause
    → part ≡ text ++ w → ⊥
unfinished_broken part text w cause o h e =
    h.not_prefix (record { raw = o.raw; rest = w ++ o.rest; spelled = rw (e, append_assoc) at o.spelled })

-- an unfinished sequence begins with nothing that is refused
pub unfinished_not_refused : (left text rest : List ℕ) (cause : Cause) → IsUnfinished left → IsRefused text cause
    → left ≡ text ++ rest → ⊥
unfinished_not_refused left text rest cause o (inl h) e = spelled_no_front h.raw text rest h.spelled (rw e at o)
unfinished_not_refused left text rest cause o (inr h) e = unfinished_broken left text rest cause o h e

no_semicolon : (b : ℕ) → is_ascii_digit b ≡ true → b ≡ semicolon → ⊥
no_semicolon b d e = grind (arith, nat_tests)

-- two breaks after the same bytes have one cause
same_why : (text : List ℕ) (b : ℕ) (c d : Cause) → IsWhy text b c → IsWhy text b d → c ≡ d
same_why text b c d (inl h) (inl g) = h.1 ∙ sym g.1
same_why text b c d (inl h) (inr (inl g)) = absurd (h.0 g.0)
same_why text b c d (inl h) (inr (inr g)) = absurd (h.0 g.0)
same_why text b c d (inr (inl h)) (inl g) = absurd (g.0 h.0)
same_why text b c d (inr (inl h)) (inr (inl g)) = h.2 ∙ sym g.2
same_why text b c d (inr (inl h)) (inr (inr g)) = absurd (no_semicolon b h.1 g.1)
same_why text b c d (inr (inr h)) (inl g) = absurd (g.0 h.0)
same_why text b c d (inr (inr h)) (inr (inl g)) = absurd (no_semicolon b g.1 h.1)
same_why text b c d (inr (inr h)) (inr (inr g)) = h.2 ∙ sym g.2

-- the same part and the same byte
same_break : (text other : List ℕ) (c d : Cause) (h : IsBroken text c) (g : IsBroken other d) → h.part ≡ g.part
    → h.byte ≡ g.byte → c ≡ d
same_break text other c d h g p b =
    let t : other ≡ text = g.whole ∙ ap₂ (λ (v : List ℕ) (w : ℕ). v ++ w ∷ []) (sym p) (sym b) ∙ sym h.whole in
    same_why text h.byte c d h.why (subst₂ (λ (v : List ℕ) (w : ℕ). IsWhy v w d) t (sym b) g.why)

-- where one part is longer than the other, the shorter is broken within it
longer_break : (text other : List ℕ) (c d : Cause) (x y w : List ℕ) (h : IsBroken text c) (g : IsBroken other d)
    → h.part ≡ g.part ++ w → w ++ (h.byte ∷ x) ≡ g.byte ∷ y → c ≡ d
longer_break text other c d x y [] h g p e = same_break text other c d h g (p ∙ append-nil g.part) (head_of e)
longer_break text other c d x y (v ∷ w) h g p e =
    let same : v ≡ g.byte = head_of e in
    absurd (unfinished_broken h.part other w d h.unfinished g
    (p ∙ ap (λ (u : ℕ). g.part ++ u ∷ w) same ∙ sym (broken_whole other d w g)))

-- two refused texts at the front of one list are refused for one cause
pub one_cause_of_refused : (text other x y : List ℕ) (c d : Cause) → IsRefused text c → IsRefused other d
    → text ++ x ≡ other ++ y → c ≡ d
one_cause_of_refused text other x y c d (inl h) (inl g) e =
    let s = one_spelling_in_front h.raw g.raw text other x y h.spelled.loose g.spelled.loose e in
    let means : ◌≡◌ {A = Result TokenKind Cause} (Err c) (Err d) = sym h.means ∙ ap meaning s.0 ∙ g.means in
    cc
one_cause_of_refused text other x y c d (inl h) (inr g) e = absurd
    (spelled_broken h.raw text other y x d h.spelled g (sym e))
one_cause_of_refused text other x y c d (inr h) (inl g) e = absurd (spelled_broken g.raw other text x y c g.spelled h e)
one_cause_of_refused text other x y c d (inr h) (inr g) e =
    let s : h.part ++ (h.byte ∷ x) ≡ g.part ++ (g.byte ∷ y) =
    sym (broken_whole text c x h) ∙ e ∙ broken_whole other d y g in
    elim (one_begins_the_other h.part g.part (h.byte ∷ x) (g.byte ∷ y) s) [
      | inl w ↦ longer_break text other c d x y w.0 h g w.1
          (append_cancel_left g.part (w.0 ++ (h.byte ∷ x)) (g.byte ∷ y)
          (sym (append_assoc g.part w.0 (h.byte ∷ x)) ∙ ap (λ (v : List ℕ). v ++ (h.byte ∷ x)) (sym w.1) ∙ s))
      | inr w ↦
          let same : w.0 ≡ h.byte = sym (head_of w.3) in
          absurd (unfinished_broken g.part text w.1 c g.unfinished h
          (w.2 ∙ ap (λ (u : ℕ). h.part ++ u ∷ w.1) same ∙ sym (broken_whole text c w.1 h)))
    ]
